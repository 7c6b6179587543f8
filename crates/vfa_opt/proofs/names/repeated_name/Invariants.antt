use Rattle.std.proofs.Common.{◌≡◌, [], drop}
use Rattle.vfa_ir.specs.DefinedNames.{first_repeated}
use Rattle.vfa_opt.specs.Works.{names_of}
use Rattle.vfa_opt.proofs.names.repeated_name.Given as goal

abbrev pub invariant-functions : goal.invariant-functions
invariant-functions l = first_repeated l.seen (names_of (drop l.function-index l.all)) ≡ first_repeated [] (names_of l.all)
