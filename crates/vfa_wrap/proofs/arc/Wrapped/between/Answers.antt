use Rattle.std.proofs.Common.{◌≡◌, ◌∙◌, sym, arith, ◌+◌, ◌%◌, ◌^◌, ◌<◌, ℕ}
use Rattle.std.proofs.lemmas.Nat.{pow_below}
use Rattle.vfa_wrap.specs.Arc.{steps}
use Rattle.vfa_wrap.proofs.Circle.{steps_is, wrapped_sum, arc_from_full, arc_from_part}
use Rattle.vfa_wrap.proofs.arc.Wrapped.between.Goals as goal

-- the number after the last is the first where the arc has all numbers, and nowhere else
closed : (w p q n : ℕ) → p < 2 ^ w → q < 2 ^ w → n ≡ (q + 1) % 2 ^ w → n ≡ p → steps w p q + 1 ≡ 2 ^ w
closed w p q n hp hq en same =
    let next = wrapped_sum (2 ^ w) (q + 1) (omega arith) in
    let to = steps_is w p q hp hq in
    grind (arith, next, to, en, same)

free : (w p q n : ℕ) → p < 2 ^ w → q < 2 ^ w → n ≡ (q + 1) % 2 ^ w → (n ≡ p → ⊥) → steps w p q + 1 < 2 ^ w
free w p q n hp hq en other =
    let next = wrapped_sum (2 ^ w) (q + 1) (omega arith) in
    let to = steps_is w p q hp hq in
    grind (arith, next, to, en, other)

pub returns-then-number_ahead-first : goal.returns-then-number_ahead-first
returns-then-number_ahead-first g c =
    c.everything.ensures ∙ sym (arc_from_full g.row.W c.args.first c.args.last c.requires.first_fits c.requires.last_fits
    (closed g.row.W c.args.first c.args.last c.number_ahead.result c.requires.first_fits c.requires.last_fits c.number_ahead.ensures.value c.if-number_ahead-first.true))

pub returns : goal.returns
returns g c = sym (arc_from_part g.row.W c.args.first c.args.last c.requires.first_fits c.requires.last_fits
    (free g.row.W c.args.first c.args.last c.number_ahead.result c.requires.first_fits c.requires.last_fits c.number_ahead.ensures.value c.if-number_ahead-first.false))

pub number_ahead-requires-clause-count_fits : goal.number_ahead-requires-clause-count_fits
number_ahead-requires-clause-count_fits g c = let one = c.requires.width.least in pow_below 0 g.row.W (omega arith)

pub invariant_of-result : goal.invariant_of-result
invariant_of-result g c = record {
  arc = record {
    first_fits = c.requires.first_fits;
    last_fits = c.requires.last_fits;
    normal = λ all. absurd (
        let part = free g.row.W c.args.first c.args.last c.number_ahead.result c.requires.first_fits c.requires.last_fits c.number_ahead.ensures.value c.if-number_ahead-first.false in
        omega arith);
  };
  width = c.requires.width;
}
