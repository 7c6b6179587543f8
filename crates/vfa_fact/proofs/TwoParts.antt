-- A set that falls into two parts, one before the other.
use Rattle.std.proofs.Common.{◌≡◌, ℕ, ◌^◌, ◌<◌, ◌≤◌, Bool, true, false, ◌||◌, sym, ◌∙◌, ap, arith, inl, inr, Some, bit_and}
use Rattle.std.proofs.lemmas.Bool.{or_cases, or_left, or_right}
use Rattle.std.proofs.lemmas.Nat.{and_le_l}
use Rattle.std.proofs.lemmas.Nat.Bits.{bit_at-lt, bit_at_and}
use Rattle.vfa_dom.specs.Best.{IsBest}
use Rattle.vfa_dom.proofs.Bests.{digit_cases}
use Rattle.vfa_wrap.specs.Arc.{steps}
use Rattle.vfa_fact.specs.declared.numbers.Numbers.{Numbers}
use Rattle.vfa_fact.specs.Sharp.{sharp_of}
use Rattle.vfa_fact.specs.Interval.{joined}
use Rattle.vfa_fact.proofs.SharpSets.{Member, IsSharp, sharp_is, sharp_cases, sharp_alike}

-- U is S and T, and going up from p all of S comes before all of T
pub record FallsInto (w p : ℕ) (S T U : ℕ → Bool) : Type 0 where
  pub either : (x : ℕ) → x < 2 ^ w → U x ≡ (S x || T x)
  pub before : (x y : ℕ) → x < 2 ^ w → y < 2 ^ w → S x ≡ true → T y ≡ true → steps w p x ≤ steps w p y

only_left : (a b : Bool) → b ≡ false → (a || b) ≡ a
only_left a b e = grind arith

only_right : (a b : Bool) → a ≡ false → (a || b) ≡ b
only_right a b e = grind arith

module _ (w p : ℕ) (S T U : ℕ → Bool) (falls : FallsInto w p S T U) (hp : p < 2 ^ w) where
  in_left : (x : ℕ) → Member w S x → Member w U x
  in_left x member = record { fits = member.fits; is = falls.either x member.fits ∙ or_left (S x) (T x) member.is }

  in_right : (x : ℕ) → Member w T x → Member w U x
  in_right x member = record { fits = member.fits; is = falls.either x member.fits ∙ or_right (S x) (T x) member.is }

  both_best : (a b c d : ℕ) → IsBest w (Member w S) a b → IsBest w (Member w T) c d → IsBest w (Member w U) (bit_and a c) (bit_and b d)
  both_best a b c d one two = record {
    zeros_fit = let less = and_le_l a c in let fits = one.zeros_fit in omega arith;
    ones_fit = let less = and_le_l b d in let fits = one.ones_fit in omega arith;
    zero = λ x i member known.
        let law = bit_at_and a c i in let left = bit_at-lt a i in let right = bit_at-lt c i in
        elim (or_cases (S x) (T x) (sym (falls.either x member.fits) ∙ member.is)) [
          | inl here ↦ one.zero x i (record { fits = member.fits; is = here }) (grind arith)
          | inr there ↦ two.zero x i (record { fits = member.fits; is = there }) (grind arith)
        ];
    one = λ x i member known.
        let law = bit_at_and b d i in let left = bit_at-lt b i in let right = bit_at-lt d i in
        elim (or_cases (S x) (T x) (sym (falls.either x member.fits) ∙ member.is)) [
          | inl here ↦ one.one x i (record { fits = member.fits; is = here }) (grind arith)
          | inr there ↦ two.one x i (record { fits = member.fits; is = there }) (grind arith)
        ];
    some_one = λ i below clear. elim (digit_cases a i) [
      | inl off ↦ let has = one.some_one i below off in (has.0, in_left has.0 has.1, has.2)
      | inr on ↦
          let law = bit_at_and a c i in let right = bit_at-lt c i in
          let has = two.some_one i below (grind arith) in (has.0, in_right has.0 has.1, has.2)
    ];
    some_zero = λ i below clear. elim (digit_cases b i) [
      | inl off ↦ let has = one.some_zero i below off in (has.0, in_left has.0 has.1, has.2)
      | inr on ↦
          let law = bit_at_and b d i in let right = bit_at-lt d i in
          let has = two.some_zero i below (grind arith) in (has.0, in_right has.0 has.1, has.2)
    ];
  }

  both_sharp : (m n : Numbers) → IsSharp w p S m → IsSharp w p T n →
      IsSharp w p U (record { zeros = bit_and m.zeros n.zeros; ones = bit_and m.ones n.ones; first = m.first; last = n.last })
  both_sharp m n one two = record {
    best = both_best m.zeros m.ones n.zeros n.ones one.best two.best;
    first = record {
      fits = one.first.fits;
      member = (in_left m.first (record { fits = one.first.fits; is = one.first.member })).is;
      first = λ y hy member. elim (or_cases (S y) (T y) (sym (falls.either y hy) ∙ member)) [
        | inl here ↦ one.first.first y hy here
        | inr there ↦ falls.before m.first y one.first.fits hy one.first.member there
      ];
    };
    last = record {
      fits = two.last.fits;
      member = (in_right n.last (record { fits = two.last.fits; is = two.last.member })).is;
      last = λ y hy member. elim (or_cases (S y) (T y) (sym (falls.either y hy) ∙ member)) [
        | inl here ↦ falls.before y n.last hy two.last.fits here two.last.member
        | inr there ↦ two.last.last y hy there
      ];
    };
  }

  pub joined_sharp : joined (sharp_of w p S) (sharp_of w p T) ≡ sharp_of w p U
  joined_sharp = elim (sharp_cases w p S hp) [
    | inl left ↦
        ap (λ a. joined a (sharp_of w p T)) left.equal
        ∙ sharp_alike w p T U hp (λ x hx. sym (falls.either x hx ∙ only_right (S x) (T x) (left.none x hx)))
    | inr left ↦ elim (sharp_cases w p T hp) [
      | inl right ↦
          ap (λ a. joined a (sharp_of w p T)) left.equal ∙ ap (joined (Some left.numbers)) right.equal
          ∙ sym left.equal ∙ sharp_alike w p S U hp (λ x hx. sym (falls.either x hx ∙ only_left (S x) (T x) (right.none x hx)))
      | inr right ↦
          ap (λ a. joined a (sharp_of w p T)) left.equal ∙ ap (joined (Some left.numbers)) right.equal
          ∙ sym (sharp_is w p U _ hp (both_sharp left.numbers right.numbers left.is right.is))
    ]
  ]
