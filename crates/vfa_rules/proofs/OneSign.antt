-- Comparisons of numbers of one sign.
use Rattle.std.proofs.Common.{◌≡◌, ℕ, ◌-◌, ◌≤◌, ◌<◌, ◌^◌, Bool, true, false, not, ◌&&◌, ◌||◌, if◌then◌else◌, refl, sym, ◌∙◌, ap, arith, pos, inl, inr}
use Rattle.std.specs.Prelude.{nat_lt, int_lt}
use Rattle.std.proofs.lemmas.Bool.{true≢false, and_parts, or_cases, cases_lt, cases_Bool}
use Rattle.std.proofs.lemmas.Bool.Decides.{nat_tests}
use Rattle.std.proofs.lemmas.Int.{ints}
use Rattle.vfa_ir.specs.declared.operations.Pred.{Pred}
use Rattle.vfa_ir.specs.Predicates.{by_order}
use Rattle.vfa_word.specs.Numbers.{signed_of}
use Rattle.vfa_word.specs.Operations.{equal, unsigned_less, signed_less}
use Rattle.vfa_word.proofs.Readings.{reading_low, reading_high}
use Rattle.vfa_fact.specs.Cells.{CellValue}
use Rattle.vfa_mean.specs.declared.value.Val.{Val}
use Rattle.vfa_mean.specs.Laws.{AllowsDone}
use Rattle.vfa_mean.specs.Meaning.{of_two}
use Rattle.vfa_mean.specs.Rows.{compare, differ_in_sign, bit_of, is_negative}
use Rattle.vfa_rules.specs.Conditions.{have_one_sign}
use Rattle.vfa_rules.specs.Rules.{unsigned_order, unsigned_predicate, is_order}
use Rattle.vfa_rules.proofs.Allowing.{same_done, unless_allows}
use Rattle.vfa_rules.proofs.Lifting.{Held, two_sound}
use Rattle.vfa_rules.proofs.Shown.{Shown, natural_tells, negative_tells}

none_below : (x : ℕ) → nat_lt x 0 ≡ false
none_below x = grind (arith, nat_tests)

pub low_sign : (w x : ℕ) → signed_of w x ≡ pos x → is_negative w x ≡ false
low_sign w x e = ap (λ z. int_lt z (pos 0)) e ∙ none_below x

high_sign : (w x : ℕ) → 2 ^ (w - 1) ≤ x → x < 2 ^ w → is_negative w x ≡ true
high_sign w x high fits = rw (reading_high w x high fits) refl

alike : (m n : Bool) → (if m then not n else n) ≡ false → m ≡ n
alike true n e = grind arith
alike false n e = grind arith

differ_not : (m n : Bool) → m ≡ n → (if m then not n else n) ≡ false
differ_not true n e = grind arith
differ_not false n e = grind arith

-- the signed order of numbers of one sign is the unsigned one
signed_alike : (w x y : ℕ) → x < 2 ^ w → y < 2 ^ w → differ_in_sign w x y ≡ false → signed_less w x y ≡ unsigned_less x y
signed_alike w x y hx hy one =
    let same = alike (is_negative w x) (is_negative w y) one in
    elim (cases_lt x (2 ^ (w - 1))) [
      | inl lx ↦ elim (cases_lt y (2 ^ (w - 1))) [
        | inl ly ↦ rw (reading_low w x lx, reading_low w y ly) (grind (arith, nat_tests, ints))
        | inr ny ↦ absurd (true≢false (sym (high_sign w y ny hy) ∙ sym same ∙ low_sign w x (reading_low w x lx)))
      ]
      | inr nx ↦ elim (cases_lt y (2 ^ (w - 1))) [
        | inl ly ↦ absurd (true≢false (sym (high_sign w x nx hx) ∙ same ∙ low_sign w y (reading_low w y ly)))
        | inr ny ↦ rw (reading_high w x nx hx, reading_high w y ny hy) (grind (arith, nat_tests, ints))
      ]
    ]

signed_alike_turned : (w x y : ℕ) → x < 2 ^ w → y < 2 ^ w → differ_in_sign w x y ≡ false → signed_less w y x ≡ unsigned_less y x
signed_alike_turned w x y hx hy one = signed_alike w y x hy hx (differ_not (is_negative w y) (is_negative w x) (sym (alike (is_negative w x) (is_negative w y) one)))

orders_alike : (w x y : ℕ) (pred : Pred) → signed_less w x y ≡ unsigned_less x y → signed_less w y x ≡ unsigned_less y x →
    by_order pred equal unsigned_less (signed_less w) x y ≡ by_order (unsigned_order pred) equal unsigned_less (signed_less w) x y
unfolding by_order
orders_alike w x y Pred.Eq e t = refl
orders_alike w x y Pred.Ne e t = refl
orders_alike w x y Pred.Ugt e t = refl
orders_alike w x y Pred.Uge e t = refl
orders_alike w x y Pred.Ult e t = refl
orders_alike w x y Pred.Ule e t = refl
orders_alike w x y Pred.Sgt e t = t
orders_alike w x y Pred.Sge e t = ap not e
orders_alike w x y Pred.Slt e t = e
orders_alike w x y Pred.Sle e t = ap not t

module _ (w : ℕ) (a b : CellValue) (x y : ℕ) (p : Shown w a x) (q : Shown w b y) where
  pub one_sign_tells : have_one_sign a b ≡ true → differ_in_sign w x y ≡ false
  one_sign_tells e = elim (or_cases _ _ e) [
    | inl natural ↦
        let parts = and_parts _ _ natural in
        differ_not (is_negative w x) (is_negative w y) (low_sign w x (natural_tells w a x p parts.0) ∙ sym (low_sign w y (natural_tells w b y q parts.1)))
    | inr negative ↦
        let parts = and_parts _ _ negative in
        differ_not (is_negative w x) (is_negative w y) (negative_tells w a x p parts.0 ∙ sym (negative_tells w b y q parts.1))
  ]

-- a word that is gained where nothing breaks it
pub gained_whole : (f g l : Bool) → (g ≡ true → l ≡ false) → (f && l) ≡ false → ((f || g) && l) ≡ false
gained_whole true g l h e = e
gained_whole false true l h e = h refl
gained_whole false false l h e = refl

module _ (w : ℕ) (one : 1 ≤ w) (a b : CellValue) (u v : Val) (p : Held w a u) (q : Held w b v) where
  predicate_at : (pred : Pred) (samesign : Bool) (x y : ℕ) → Shown w a x → Shown w b y → (t : Bool) → (samesign || have_one_sign a b) ≡ t →
      (samesign && differ_in_sign w x y) ≡ false →
      by_order pred equal unsigned_less (signed_less w) x y ≡ by_order (if t then unsigned_order pred else pred) equal unsigned_less (signed_less w) x y
  predicate_at pred samesign x y hx hy false e whole = refl
  predicate_at pred samesign x y hx hy true e whole =
      let same : differ_in_sign w x y ≡ false = elim (or_cases samesign (have_one_sign a b) e) [
        | inl asked ↦ ap (λ s. s && differ_in_sign w x y) (sym asked) ∙ whole
        | inr alike ↦ one_sign_tells w a b x y hx hy alike
      ] in
      orders_alike w x y pred (signed_alike w x y hx.fits hy.fits same) (signed_alike_turned w x y hx.fits hy.fits same)

  pub predicate_sound : (pred : Pred) (samesign : Bool) →
      AllowsDone (of_two (compare pred samesign w) u v) (of_two (compare (unsigned_predicate pred samesign a b) samesign w) u v)
  predicate_sound pred samesign = two_sound w one a b (compare pred samesign w) (compare (unsigned_predicate pred samesign a b) samesign w) (λ x y hx hy.
      unless_allows (samesign && differ_in_sign w x y) (samesign && differ_in_sign w x y) _ _
      (λ whole. (whole, ap bit_of (predicate_at pred samesign x y hx hy (samesign || have_one_sign a b) refl whole)))) u v p q

  second_part : (m n : Bool) → (m && n) ≡ true → n ≡ true
  second_part m n e = (and_parts m n e).1

  pub samesign_sound : (pred : Pred) (samesign : Bool) →
      AllowsDone (of_two (compare pred samesign w) u v) (of_two (compare pred (samesign || (is_order pred && have_one_sign a b)) w) u v)
  samesign_sound pred samesign = two_sound w one a b (compare pred samesign w) (compare pred (samesign || (is_order pred && have_one_sign a b)) w) (λ x y hx hy.
      unless_allows (samesign && differ_in_sign w x y) ((samesign || (is_order pred && have_one_sign a b)) && differ_in_sign w x y) _ _
      (λ whole. (
        gained_whole samesign (is_order pred && have_one_sign a b) (differ_in_sign w x y)
            (λ e. one_sign_tells w a b x y hx hy (second_part (is_order pred) (have_one_sign a b) e)) whole,
        refl,
      ))) u v p q
