use Rattle.std.proofs.Common.{◌≡◌, ℕ, ◌+◌, ◌^◌, ◌%◌, ◌<◌, pos, ◌-ℤ◌, ap, Bool, true, false, not, sym, ◌∙◌, arith, Option, Some, None, refl}
use Rattle.std.specs.Prelude.{IsTrue}
use Rattle.std.specs.Option.{option_map, is_some}
use Rattle.std.proofs.lemmas.Bool.{OnTrue_from}
use Rattle.vfa_word.specs.Numbers.{wrap}
use Rattle.vfa_dom.specs.Sets.{meet, includes}
use Rattle.vfa_known.specs.Cube.{in_masks}
use Rattle.vfa_wrap.specs.Arc.{Span, IsArc, steps, in_span, full_span}
use Rattle.vfa_wrap.specs.Wrapped.{span_of}
use Rattle.vfa_wrap.proofs.CommonArcs.{free_from}
use Rattle.vfa_fact.specs.declared.numbers.Numbers.{Numbers}
use Rattle.vfa_fact.specs.Fact.{masks_in, span_in, in_numbers, IsFact}
use Rattle.vfa_fact.specs.Sharp.{sharp_in}
use Rattle.vfa_fact.specs.Views.{numbers_of, in_fact, in_test}
use Rattle.vfa_fact.proofs.FactSets.{inside, cube_outside, full_includes, outside_is, none_outside, some_outside}
use Rattle.vfa_fact.proofs.domain.FactDomain.includes.Goals as goal

not_full : (w : ℕ) (s : Span) (full : Bool) → IsArc w s → full ≡ false → (s ≡ full_span w → full ≡ true) → steps w s.first s.last + 1 < 2 ^ w
not_full w s full arc fails tells = free_from w s arc (λ same. let is : full ≡ true = tells same in cc)

-- whether the sharp fact of the numbers outside is missing
answered : {F : Type 0} (w : ℕ) (a b : Numbers) (left : IsFact w a) (right : IsFact w b) → includes w (in_masks w (masks_in a)) (in_masks w (masks_in b)) ≡ true →
    (T : ℕ → Bool) → ((x : ℕ) → x < 2 ^ w → T x ≡ not (in_span w (span_in a) x)) → (view : F → Numbers) (o : Option F) (r : Bool) → is_some o ≡ not r →
    option_map view o ≡ sharp_in w (span_in b) (meet (in_masks w (masks_in b)) T) → r ≡ includes w (in_numbers w a) (in_numbers w b)
answered w a b left right cubes T outside view None r is none = let yes : r ≡ true = grind arith in yes ∙ sym (none_outside w a b left right cubes T outside (sym none))
answered w a b left right cubes T outside view (Some f) r is some = let no : r ≡ false = grind arith in no ∙ sym (some_outside w a b left right cubes T outside (view f) (sym some))

pub returns-then-not-includes-clause-exact : goal.returns-then-not-includes-clause-exact
returns-then-not-includes-clause-exact g c = let one = c.args.self.now in let two = c.args.other.now in
    let no : c.includes.result ≡ false = grind (arith, c.if-not-includes.true) in
    sym (cube_outside g.row.W (numbers_of one) (numbers_of two) one.sharp two.sharp (sym c.includes.ensures.exact ∙ no))

pub returns-then-full-clause-exact : goal.returns-then-full-clause-exact
returns-then-full-clause-exact g c = let one = c.args.self.now in let two = c.args.other.now in
    let yes : c.includes.result ≡ true = grind (arith, c.if-not-includes.false) in
    sym (full_includes g.row.W (numbers_of one) (numbers_of two) one.sharp two.sharp (sym c.includes.ensures.exact ∙ yes) (c.full.ensures.0 c.if-full.true))

pub returns-then-full-clause-yes : goal.returns-then-full-clause-yes
returns-then-full-clause-yes g c = let one = c.args.self.now in let two = c.args.other.now in
    inside g.row.W (numbers_of one) (numbers_of two) one.sharp two.sharp (sym (returns-then-full-clause-exact g c))

pub returns-clause-exact : goal.returns-clause-exact
returns-clause-exact g c = let one = c.args.self.now in let two = c.args.other.now in
    let yes : c.includes.result ≡ true = grind (arith, c.if-not-includes.false) in
    let free = not_full g.row.W (span_of one.arc) c.full.result one.arc.arc c.if-full.false c.full.ensures.1 in
    answered g.row.W (numbers_of one) (numbers_of two) one.sharp two.sharp (sym c.includes.ensures.exact ∙ yes) (in_test g.row.W c.inside.result)
    (λ x fits. c.inside.ensures x fits
    ∙ outside_is g.row.W x c.cut-one.result 1 c.add.result c.sub.result (span_of one.arc) (span_of c.new-outside.result) one.known.width.least one.arc.arc free fits
    c.cut-one.ensures refl (c.add.ensures ∙ ap (λ n. (n + c.cut-one.result) % 2 ^ g.row.W) c.last.ensures) (c.sub.ensures ∙ ap (λ n. wrap g.row.W (pos n -ℤ pos c.cut-one.result)) c.first.ensures) c.new-outside.ensures)
    numbers_of c.sharp.result c.is_none.result c.is_none.ensures c.sharp.ensures.exact

pub returns-clause-yes : goal.returns-clause-yes
returns-clause-yes g c = let one = c.args.self.now in let two = c.args.other.now in
    OnTrue_from c.is_none.result ((x : ℕ) → IsTrue (in_fact g.row.W two x) → IsTrue (in_fact g.row.W one x))
    (λ yes. inside g.row.W (numbers_of one) (numbers_of two) one.sharp two.sharp (sym (returns-clause-exact g c) ∙ yes))
