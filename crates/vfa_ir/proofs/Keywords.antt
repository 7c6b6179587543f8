-- The words of a table: each stands for one value.
use Rattle.std.proofs.Common.{◌≡◌, ℕ, Bool, true, false, cond, List, [], ◌∷◌, Some, refl, subst, bytes_eq}
use Rattle.vfa_ir.specs.declared.operations.Pred.{Pred}
use Rattle.vfa_ir.specs.Words.{keyword, pred_word, preds}

-- what a text stands for is spelled so
pub keyword_spelled :
    {K : Type 0} (spelled : K → List ℕ) (all : List K) (text : List ℕ) (k : K) → keyword spelled all text ≡ Some k →
    bytes_eq (spelled k) text ≡ true
keyword_spelled spelled [] text k h = cc
keyword_spelled spelled (x ∷ xs) text k h =
    by_test (bytes_eq (spelled x) text) refl h (keyword_spelled spelled xs text k)
  where
    by_test :
        (t : Bool) → bytes_eq (spelled x) text ≡ t → cond t (Some x) (keyword spelled xs text) ≡ Some k →
        (keyword spelled xs text ≡ Some k → bytes_eq (spelled k) text ≡ true) → bytes_eq (spelled k) text ≡ true
    by_test true is h later = let same : x ≡ k = (cc) in subst (λ y. bytes_eq (spelled y) text ≡ true) same is
    by_test false is h later = later h

-- each is what its word stands for
pub pred_keyword : (pred : Pred) → keyword pred_word preds (pred_word pred) ≡ Some pred
pred_keyword Pred.Eq = refl
pred_keyword _ = refl
