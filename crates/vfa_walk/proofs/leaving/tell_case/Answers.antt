use Rattle.std.proofs.Common.{◌≡◌, Some, None, length, refl}
use Rattle.std.specs.Prelude.{slice_get}
use Rattle.std.proofs.lemmas.Option.{slice_get_read, slice_get_past}
use Rattle.vfa_walk.proofs.leaving.tell_case.Goals as goal

pub returns-in-Some-clause-becomes : goal.returns-in-Some-clause-becomes
returns-in-Some-clause-becomes g c =
    let cases = c.args.cases.now in
    let read = c.in-Some.ensures.lookup in
    let found : slice_get cases c.args.place ≡ Some c.in-Some.case.now = slice_get_read cases (length cases) c.args.place c.in-Some.case.now refl read.3.0 read.1 in
    rw found c.tell.ensures.becomes

pub returns-in-None-clause-becomes : goal.returns-in-None-clause-becomes
returns-in-None-clause-becomes g c =
    let none : slice_get c.args.cases.now c.args.place ≡ None = slice_get_past c.args.cases.now c.args.place c.in-None.ensures.lookup.3 in
    rw none (refl, refl)
