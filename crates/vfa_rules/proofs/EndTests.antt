-- Spans of whole results between the ends of two cells.
use Rattle.std.proofs.Common.{◌≡◌, ℕ, Bool, false, refl, sym, ◌∙◌, ap, Option, Some, None}
use Rattle.std.specs.Option.{option_map, option_and_then}
use Rattle.vfa_word.specs.declared.arith.Arith.{Arith}
use Rattle.vfa_wrap.specs.Ends.{EndsOf, ends_of}
use Rattle.vfa_wrap.specs.WholeSpans.{span_of_results, lies_in_range}
use Rattle.vfa_wrap.specs.declared.reading.Reading.{Reading}
use Rattle.vfa_wrap.specs.declared.reading.Reading.TheVariants.{Unsigned, Signed}
use Rattle.vfa_fact.specs.declared.numbers.Numbers.{Numbers}
use Rattle.vfa_fact.specs.Cells.{CellValue}
use Rattle.vfa_fact.specs.Fact.{in_numbers}
use Rattle.vfa_rules.specs.Conditions.{where_both, second_of, second_ends, stays_in_range}
use Rattle.vfa_rules.specs.declared.spans.RangesKept.{RangesKept}

-- whether the results stay in the range, by the numbers of both
unfoldable pub stays_of : Arith → Reading → ℕ → Option Numbers → ℕ → Option Numbers → Bool
stays_of op r w m u n =
    where_both (λ x y. lies_in_range r w (span_of_results op r x y))
    (option_map (λ k. ends_of w (in_numbers w k)) m)
    (option_and_then (λ k. second_of op u (in_numbers u k)) n)

stays_is_of : (op : Arith) (r : Reading) (a b : CellValue) → stays_of op r a.width a.numbers b.width b.numbers ≡ stays_in_range op r a b
unfolding stays_of stays_in_range
stays_is_of op r a b = refl

none_first : (op : Arith) (r : Reading) (w u : ℕ) (n : Option Numbers) → false ≡ stays_of op r w None u n
unfolding stays_of
none_first op r w u n = refl

none_second : (op : Arith) (r : Reading) (w u : ℕ) (m : Option Numbers) → false ≡ stays_of op r w m u None
unfolding stays_of
none_second op r w u None = refl
none_second op r w u (Some m) = refl

module _ (op : Arith) (a b : CellValue) where
  pub no_first : (r : Reading) → None ≡ a.numbers → false ≡ stays_in_range op r a b
  no_first r e = none_first op r a.width b.width b.numbers ∙ ap (λ o. stays_of op r a.width o b.width b.numbers) e ∙ stays_is_of op r a b

  pub no_second : (r : Reading) → None ≡ b.numbers → false ≡ stays_in_range op r a b
  no_second r e = none_second op r a.width b.width a.numbers ∙ ap (λ o. stays_of op r a.width a.numbers b.width o) e ∙ stays_is_of op r a b

  pub both_kept : (p q : Bool) → p ≡ stays_in_range op Unsigned a b → q ≡ stays_in_range op Signed a b →
      ◌≡◌ {A = RangesKept} (record { unsigned = p; signed = q }) (record { unsigned = stays_in_range op Unsigned a b; signed = stays_in_range op Signed a b })
  both_kept p q ep eq = λ i. record { unsigned = ep i; signed = eq i }

  module _ (w : ℕ) (m n : Numbers) (wa : a.width ≡ w) (wb : b.width ≡ w) (na : Some m ≡ a.numbers) (nb : Some n ≡ b.numbers) where
    pub stays_at_is : (r : Reading) → stays_of op r w (Some m) w (Some n) ≡ stays_in_range op r a b
    stays_at_is r = (λ i. stays_of op r (sym wa i) (na i) (sym wb i) (nb i)) ∙ stays_is_of op r a b

    pub no_amount : (r : Reading) → None ≡ second_of op w (in_numbers w n) → false ≡ stays_in_range op r a b
    unfolding stays_of
    no_amount r e =
        ap (where_both (λ x y. lies_in_range r w (span_of_results op r x y)) (Some (ends_of w (in_numbers w m)))) e ∙ stays_at_is r

    pub stays_is : (r : Reading) (x y : EndsOf) (answer : Bool) → x ≡ ends_of w (in_numbers w m) → Some y ≡ second_of op w (in_numbers w n) →
        answer ≡ lies_in_range r w (span_of_results op r x y) → answer ≡ stays_in_range op r a b
    unfolding stays_of
    stays_is r x y answer ex ey is =
        is ∙ (λ i. where_both (λ (p q : EndsOf). lies_in_range r w (span_of_results op r p q)) (Some (ex i)) (ey i)) ∙ stays_at_is r
