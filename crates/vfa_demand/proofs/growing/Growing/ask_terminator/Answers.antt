use Rattle.std.proofs.Common.{length, refl}
use Rattle.vfa_ir.specs.declared.operations.Ty.{Ty}
use Rattle.vfa_demand.proofs.Ends.{seen_usable}
use Rattle.vfa_demand.proofs.growing.Growing.ask_terminator.Goals as goal

pub all_bits-requires : goal.all_bits-requires
all_bits-requires c =
    (seen_usable (length c.args.self.now.bits.items) c.args.term.now _ (Ty.Int c.in-Ret.width, c.in-Ret.a) c.in-Ret.is refl c.requires.usable).width

pub ask-requires-clause-below : goal.ask-requires-clause-below
ask-requires-clause-below c =
    (seen_usable (length c.args.self.now.bits.items) c.args.term.now _ (Ty.Int c.in-Ret.width, c.in-Ret.a) c.in-Ret.is refl c.requires.usable).name

pub ask-requires-in-CondBr-clause-below : goal.ask-requires-in-CondBr-clause-below
ask-requires-in-CondBr-clause-below c =
    (seen_usable (length c.args.self.now.bits.items) c.args.term.now _ (Ty.Int 1, c.in-CondBr.c) c.in-CondBr.is refl c.requires.usable).name

pub all_bits-requires-in-Switch : goal.all_bits-requires-in-Switch
all_bits-requires-in-Switch c =
    (seen_usable (length c.args.self.now.bits.items) c.args.term.now _ (Ty.Int c.in-Switch.width, c.in-Switch.on) c.in-Switch.is refl c.requires.usable).width

pub ask-requires-in-Switch-clause-below : goal.ask-requires-in-Switch-clause-below
ask-requires-in-Switch-clause-below c =
    (seen_usable (length c.args.self.now.bits.items) c.args.term.now _ (Ty.Int c.in-Switch.width, c.in-Switch.on) c.in-Switch.is refl c.requires.usable).name
