use Rattle.std.proofs.Common.{◌≡◌, ℕ, Bool, ◌&&◌, ◌∙◌, arith}
use Rattle.std.proofs.lemmas.Nat.{pow_pos}
use Rattle.vfa_dom.specs.Sets.{meet}
use Rattle.vfa_dom.proofs.SetSearches.{meet_parts}
use Rattle.vfa_known.specs.Cube.{in_masks}
use Rattle.vfa_wrap.specs.Arc.{in_span}
use Rattle.vfa_fact.specs.declared.numbers.Numbers.{Numbers}
use Rattle.vfa_fact.specs.Fact.{masks_in, span_in, in_numbers, in_numbers_fits}
use Rattle.vfa_fact.specs.Interval.{interval, part_of}
use Rattle.vfa_fact.specs.Views.{numbers_of, in_fact}
use Rattle.vfa_fact.proofs.CutEnds.{part_fact, part_reaches}
use Rattle.vfa_fact.proofs.SharpSets.{sharp_alike}
use Rattle.vfa_fact.proofs.fact.Fact.part.Goals as goal

swapped : (i a k : Bool) → (i && (a && k)) ≡ (i && (k && a))
swapped i a k = grind arith

-- the members by the arc and the cube
part_again : (w low high : ℕ) (n : Numbers) → part_of w low high (meet (in_span w (span_in n)) (in_masks w (masks_in n))) ≡ part_of w low high (in_numbers w n)
unfolding meet in_numbers
part_again w low high n = sharp_alike w 0 (meet (interval low high) (meet (in_span w (span_in n)) (in_masks w (masks_in n)))) (meet (interval low high) (in_numbers w n))
    (pow_pos w) (λ x fits. swapped (interval low high x) (in_span w (span_in n) x) (in_masks w (masks_in n) x))

pub returns-clause-exact : goal.returns-clause-exact
returns-clause-exact g c = c.between_in.ensures ∙ part_again g.row.W c.args.low c.args.high (numbers_of c.args.self.now)

pub returns-clause-fact : goal.returns-clause-fact
returns-clause-fact g c =
    part_fact g.row.W (meet (interval c.args.low c.args.high) (in_fact g.row.W c.args.self.now)) c.between_in.result (returns-clause-exact g c)

pub returns-clause-ends : goal.returns-clause-ends
returns-clause-ends g c =
    let fact = c.args.self.now in
    part_reaches g.row.W (meet (interval c.args.low c.args.high) (in_fact g.row.W fact)) c.between_in.result
    (λ x member. in_numbers_fits g.row.W (numbers_of fact) x ((meet_parts (interval c.args.low c.args.high) (in_fact g.row.W fact) x member).1))
    (returns-clause-exact g c)
