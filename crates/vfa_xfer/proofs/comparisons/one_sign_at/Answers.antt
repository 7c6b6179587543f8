use Rattle.std.proofs.Common.{◌≡◌, ◌∙◌, ℕ, ap, sym, Bool, true, Some}
use Rattle.std.specs.Option.{option_map}
use Rattle.vfa_fact.specs.Cells.{in_cell}
use Rattle.vfa_fact.specs.Fact.{in_numbers}
use Rattle.vfa_fact.specs.Views.{numbers_of}
use Rattle.vfa_xfer.specs.Comparisons.{answers_of}
use Rattle.vfa_xfer.proofs.CellSets.{cell_set, first_empty, second_empty}
use Rattle.vfa_xfer.proofs.comparisons.one_sign_at.Goals as goal

pub returns-in_default : goal.returns-in_default
returns-in_default g c =
    first_empty true c.args.pred g.row.W c.args.a.now c.args.b.now
    (sym c.typed.ensures.numbers ∙ ap (option_map (numbers_of {W = g.row.W})) c.in_default.is)

pub returns-in_default-typed : goal.returns-in_default-typed
returns-in_default-typed g c =
    second_empty true c.args.pred g.row.W c.args.a.now c.args.b.now
    (sym c.typed-2.ensures.numbers ∙ ap (option_map (numbers_of {W = g.row.W})) c.in_default-typed.is)

pub returns : goal.returns
returns g c =
    let w = g.row.W in
    let one : c.args.a.now.numbers ≡ Some (numbers_of c.in-Some.one) = sym c.typed.ensures.numbers ∙ ap (option_map (numbers_of {W = g.row.W})) c.in-Some.is in
    let two : c.args.b.now.numbers ≡ Some (numbers_of c.in-Some-typed.two) = sym c.typed-2.ensures.numbers ∙ ap (option_map (numbers_of {W = g.row.W})) c.in-Some-typed.is in
    let A = cell_set c.args.a.now g.row.W (numbers_of c.in-Some.one) c.requires.left one in
    let B = cell_set c.args.b.now g.row.W (numbers_of c.in-Some-typed.two) c.requires.right two in
    c.answers_of_one_sign.ensures
    ∙ ap (λ (S : ℕ → Bool). answers_of c.args.pred true g.row.W S (in_numbers g.row.W (numbers_of c.in-Some-typed.two))) (sym A)
    ∙ ap (λ (T : ℕ → Bool). answers_of c.args.pred true g.row.W (in_cell c.args.a.now) T) (sym B)
