use Rattle.std.proofs.Common.{◌≡◌, None}
use Rattle.std.specs.Prelude.{slice_get}
use Rattle.vfa_demand.specs.Masks.{inst_asks, mask_in}
use Rattle.vfa_demand.proofs.Asking.{no_part}
use Rattle.vfa_demand.proofs.Parts.{past_end}
use Rattle.vfa_demand.proofs.growing.Growing.ask_line_at.Goals as goal

pub returns-in-None : goal.returns-in-None
returns-in-None c =
    let none : slice_get c.args.insts.now c.args.place ≡ None = past_end c.args.insts.now c.args.place c.in-None.ensures.lookup.3 in
    no_part (inst_asks c.args.f.now (mask_in c.args.self.now.bits.items)) (slice_get c.args.insts.now c.args.place) _ _ _ none
