-- What a comparison leaves of the numbers of a fact.
use Rattle.std.proofs.Common.{◌≡◌, ℕ, ◌^◌, ◌<◌, Bool, true, false, cond, ◌&&◌, sym, ◌∙◌, ap, refl, arith, Option, Some, None}
use Rattle.std.specs.Option.{is_some}
use Rattle.vfa_dom.specs.Search.{some_below}
use Rattle.vfa_dom.specs.Sets.{meet, meets, is_empty}
use Rattle.vfa_dom.proofs.Searches.{none_passes, some_alike}
use Rattle.vfa_dom.proofs.SetSearches.{meet_from}
use Rattle.vfa_ir.specs.declared.operations.Pred.{Pred}
use Rattle.vfa_known.specs.Cube.{in_masks}
use Rattle.vfa_wrap.specs.Arc.{in_span}
use Rattle.vfa_fact.specs.declared.numbers.Numbers.{Numbers}
use Rattle.vfa_fact.specs.Cells.{in_option}
use Rattle.vfa_fact.specs.Compare.{Agree, partners, satisfies, restrict_of}
use Rattle.vfa_fact.specs.Fact.{masks_in, span_in, in_numbers, in_numbers_fits, IsFact}
use Rattle.vfa_fact.specs.Sharp.{sharp_of, sharp_in}
use Rattle.vfa_fact.proofs.Facts.{numbers_parts}
use Rattle.vfa_fact.proofs.Partnered.{partner_from, partners_alike, empty_tells}
use Rattle.vfa_fact.proofs.SharpArcs.{sharp_in_fact, sharp_in_has, fact_again}
use Rattle.vfa_fact.proofs.SharpSets.{sharp_none, sharp_alike}

and_false : (s a b : Bool) → b ≡ false → (s && (a && b)) ≡ false
and_false s a b e = grind arith

-- a number of a fact is in its arc
with_arc : (m s p : Bool) → (s && (p && m)) ≡ (s && ((m && s) && p))
with_arc m s p = grind arith

with_arcs : (m n s t c : Bool) → c ≡ (m && n) → (s && (t && c)) ≡ (s && ((m && s) && (n && t)))
with_arcs m n s t c e = grind arith

none_with_arcs : (m n s t : Bool) → (m && n) ≡ false → (s && ((m && s) && (n && t))) ≡ false
none_with_arcs m n s t e = grind arith

with_all : (m s p : Bool) → ((m && s) ≡ true → p ≡ true) → (m && s) ≡ (s && ((m && s) && p))
with_all true true p all = sym (all refl)
with_all true false p all = refl
with_all false true p all = refl
with_all false false p all = refl

-- the numbers of a fact that are in a set too
module _ (w : ℕ) (a : Numbers) (is : IsFact w a) where
  -- a set with each of them leaves the whole fact
  pub all_left : (T : ℕ → Bool) → ((x : ℕ) → in_numbers w a x ≡ true → T x ≡ true) → Some a ≡ sharp_in w (span_in a) (meet (in_numbers w a) T)
  unfolding meet in_numbers
  all_left T all = sym (fact_again w a is)
      ∙ sharp_alike w a.first (in_numbers w a) (meet (in_span w (span_in a)) (meet (in_numbers w a) T)) is.arc.first_fits (λ x hx.
      with_all (in_masks w (masks_in a) x) (in_span w (span_in a) x) (T x) (all x))

  -- a cube and arcs in place of the fact
  pub by_arc : (T : ℕ → Bool) → sharp_in w (span_in a) (meet T (in_masks w (masks_in a))) ≡ sharp_in w (span_in a) (meet (in_numbers w a) T)
  unfolding meet in_numbers
  by_arc T = sharp_alike w a.first (meet (in_span w (span_in a)) (meet T (in_masks w (masks_in a)))) (meet (in_span w (span_in a)) (meet (in_numbers w a) T)) is.arc.first_fits (λ x hx.
      with_arc (in_masks w (masks_in a) x) (in_span w (span_in a) x) (T x))

  pub by_both : (b : Numbers) (C : ℕ → Bool) → ((x : ℕ) → C x ≡ meet (in_masks w (masks_in a)) (in_masks w (masks_in b)) x) →
      sharp_in w (span_in a) (meet (in_span w (span_in b)) C) ≡ sharp_in w (span_in a) (meet (in_numbers w a) (in_numbers w b))
  unfolding meet in_numbers
  by_both b C cube = sharp_alike w a.first (meet (in_span w (span_in a)) (meet (in_span w (span_in b)) C)) (meet (in_span w (span_in a)) (meet (in_numbers w a) (in_numbers w b))) is.arc.first_fits (λ x hx.
      with_arcs (in_masks w (masks_in a) x) (in_masks w (masks_in b) x) (in_span w (span_in a) x) (in_span w (span_in b) x) (C x) (cube x))

  pub no_common : (b : Numbers) → meets w (in_masks w (masks_in a)) (in_masks w (masks_in b)) ≡ false →
      sharp_in w (span_in a) (meet (in_numbers w a) (in_numbers w b)) ≡ None
  unfolding meets meet in_numbers
  no_common b none = sharp_none w a.first (meet (in_span w (span_in a)) (meet (in_numbers w a) (in_numbers w b))) (λ x hx.
      none_with_arcs (in_masks w (masks_in a) x) (in_masks w (masks_in b) x) (in_span w (span_in a) x) (in_span w (span_in b) x)
      (none_passes (2 ^ w) (meet (in_masks w (masks_in a)) (in_masks w (masks_in b))) none x hx))

some_cond : {A : Type 0} (b : Bool) (x : A) → is_some (cond b (Some x) None) ≡ b
some_cond true x = refl
some_cond false x = refl

sharp_some : (w p : ℕ) (S : ℕ → Bool) → is_some (sharp_of w p S) ≡ some_below (2 ^ w) S
unfolding sharp_of
sharp_some w p S = some_cond (some_below (2 ^ w) S) _

in_arc_too : (m s p : Bool) → (s && ((m && s) && p)) ≡ ((m && s) && p)
in_arc_too m s p = grind arith

-- some number of a fact is left where it meets the set
pub common_some : (w : ℕ) (a : Numbers) (T : ℕ → Bool) (o : Option Numbers) → o ≡ sharp_in w (span_in a) (meet (in_numbers w a) T) → is_some o ≡ meets w (in_numbers w a) T
unfolding meets meet in_numbers
common_some w a T o e = ap is_some e ∙ sharp_some w a.first (meet (in_span w (span_in a)) (meet (in_numbers w a) T))
    ∙ some_alike (2 ^ w) (meet (in_span w (span_in a)) (meet (in_numbers w a) T)) (meet (in_numbers w a) T) (λ x hx.
    in_arc_too (in_masks w (masks_in a) x) (in_span w (span_in a) x) (T x))

-- test and test' say the same
module _ (w : ℕ) (a : Numbers) (B : ℕ → Bool) (test test' : ℕ → ℕ → Bool) (is : IsFact w a)
    (alike : (x y : ℕ) → x < 2 ^ w → y < 2 ^ w → test x y ≡ test' x y) where
  pub none_left : is_empty w (partners w test B) ≡ true → ◌≡◌ {A = Option Numbers} None (sharp_in w (span_in a) (meet (in_numbers w a) (partners w test' B)))
  unfolding meet
  none_left empty = sym (sharp_none w a.first (meet (in_span w (span_in a)) (meet (in_numbers w a) (partners w test' B)))
      (λ x hx. and_false (in_span w (span_in a) x) (in_numbers w a x) (partners w test' B x)
      (sym (partners_alike w test test' B x hx alike) ∙ empty_tells w (partners w test B) empty x hx)))

  pub some_left : (A : ℕ → Bool) → Agree w A (partners w test B) →
      sharp_in w (span_in a) (meet (in_numbers w a) A) ≡ sharp_in w (span_in a) (meet (in_numbers w a) (partners w test' B))
  unfolding meet
  some_left A agree = sharp_alike w a.first (meet (in_span w (span_in a)) (meet (in_numbers w a) A)) (meet (in_span w (span_in a)) (meet (in_numbers w a) (partners w test' B)))
      is.arc.first_fits (λ x hx. ap (λ b. in_span w (span_in a) x && (in_numbers w a x && b)) (agree.alike x hx ∙ partners_alike w test test' B x hx alike))

-- what is left is a fact
pub left_fact : (w : ℕ) (pred : Pred) (a n : Numbers) (B : ℕ → Bool) → IsFact w a → restrict_of w pred a B ≡ Some n → IsFact w n
unfolding restrict_of
left_fact w pred a n B is some = sharp_in_fact w (span_in a) (meet (in_numbers w a) (partners w (satisfies w pred) B)) is.arc n some

-- each number that passes with some number of B is left
pub kept_has : (w : ℕ) (a : Numbers) (B : ℕ → Bool) (test : ℕ → ℕ → Bool) (o : Option Numbers) → IsFact w a →
    o ≡ sharp_in w (span_in a) (meet (in_numbers w a) (partners w test B)) →
    (x y : ℕ) → in_numbers w a x ≡ true → y < 2 ^ w → B y ≡ true → test x y ≡ true → in_option w o x ≡ true
kept_has w a B test o is same x y member hy other passes =
    sharp_in_has w (span_in a) (meet (in_numbers w a) (partners w test B)) is.arc o same x (in_numbers_fits w a x member) ((numbers_parts w a x member).1)
    (meet_from (in_numbers w a) (partners w test B) x member (partner_from w test B x y hy other passes))
