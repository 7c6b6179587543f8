-- The last token is the one whose line is the last.
use Rattle.std.proofs.Common.{◌≡◌, ◌-◌, ℕ, zero, suc, List, [], ◌∷◌, length, Option, Some, slice_get, slice_range, refl, sym, ap, ◌∙◌, arith}
use Rattle.vfa_ir.specs.declared.tokens.Token.{Token}
use Rattle.vfa_ir.specs.Reads.{last_line}
use Rattle.vfa_ir.specs.TokenLexemes.{bytes_between, end_of_last}
use Rattle.vfa_read.proofs.Outcomes.{none_some}

some_token : {t u : Token} → ◌≡◌ {A = Option Token} (Some t) (Some u) → t ≡ u
some_token e = cc

at_last : (n : ℕ) (ts : List Token) (t : Token) → length ts ≡ suc n → slice_get ts n ≡ Some t → t.line ≡ last_line ts
at_last n [] t size e = absurd (omega (arith, size))
at_last zero (u ∷ []) t size e = ap (λ z. z.line) (sym (some_token e))
at_last zero (u ∷ v ∷ rest) t size e = absurd (omega (arith, size))
at_last (suc n) (u ∷ []) t size e = absurd (omega (arith, size))
at_last (suc n) (u ∷ v ∷ rest) t size e = at_last n (v ∷ rest) t (omega (arith, size)) e

pub last_is : (ts : List Token) (t : Token) → Some t ≡ slice_get ts (length ts - 1) → t.line ≡ last_line ts
last_is [] t e = absurd (none_some (sym e))
last_is (u ∷ rest) t e =
    let n : length (u ∷ rest) - 1 ≡ length rest = omega arith in
    at_last (length rest) (u ∷ rest) t (omega arith) (ap (slice_get (u ∷ rest)) (sym n) ∙ sym e)

-- the bytes from the first token to the last

ends_last : (n : ℕ) (t : Token) (ts : List Token) (u : Token) → length ts ≡ n → slice_get (t ∷ ts) n ≡ Some u → end_of_last t ts ≡ u.end
ends_last zero t [] u size e = ap (λ z. z.end) (some_token e)
ends_last zero t (v ∷ rest) u size e = absurd (omega (arith, size))
ends_last (suc n) t [] u size e = absurd (omega (arith, size))
ends_last (suc n) t (v ∷ rest) u size e = ends_last n v rest u (omega (arith, size)) e

pub bytes_are : (text : List ℕ) (ts : List Token) (first last : Token) → Some first ≡ slice_get ts 0 → Some last ≡ slice_get ts (length ts - 1) → slice_range text first.start last.end ≡ bytes_between text ts
bytes_are text [] first last f e = absurd (none_some (sym e))
bytes_are text (t ∷ rest) first last f e =
    let n : length (t ∷ rest) - 1 ≡ length rest = omega arith in
    let ends = ends_last (length rest) t rest last refl (ap (slice_get (t ∷ rest)) (sym n) ∙ sym e) in
    ap (λ z. slice_range text z.start last.end) (some_token f) ∙ ap (λ z. slice_range text t.start z) (sym ends)
