-- Lists of literals.
use Rattle.std.proofs.Common.{◌≡◌, ◌++◌, ℕ, Bool, true, false, nat_eq, if◌then◌else◌, List, [], ◌∷◌, map, flat_map, refl, sym, ◌∙◌, ap, append_assoc}
use Rattle.vfa_ir.specs.declared.operations.BlockId.{BlockId}
use Rattle.vfa_ir.specs.declared.operations.Operand.{Operand}
use Rattle.vfa_ir.specs.declared.operations.Ty.{Ty}
use Rattle.vfa_ir.specs.declared.functions.CallArg.{CallArg}
use Rattle.vfa_ir.specs.Operands.{pair_of_width}
use Rattle.vfa_walk.specs.Landmarks.{literal_of, typed_literal}

pub append_none : {A : Type 0} (xs : List A) → xs ++ [] ≡ xs
append_none [] = refl
append_none (x ∷ xs) = ap (λ l. x ∷ l) (append_none xs)

pub one_more : (old new : List ℕ) (w own : ℕ) (x : Operand) → new ≡ old ++ literal_of w own x → new ≡ old ++ flat_map (typed_literal w) ((Ty.Int own, x) ∷ [])
one_more old new w own x e = e ∙ ap (λ l. old ++ l) (sym (append_none (literal_of w own x)))

pub two_more : (old mid new : List ℕ) (w own : ℕ) (a b : Operand) → mid ≡ old ++ literal_of w own a → new ≡ mid ++ literal_of w own b → new ≡ old ++ flat_map (typed_literal w) (pair_of_width own a b)
two_more old mid new w own a b e f =
    f ∙ (ap (λ l. l ++ literal_of w own b) e ∙ (append_assoc old (literal_of w own a) (literal_of w own b)
    ∙ ap (λ l. old ++ (literal_of w own a ++ l)) (sym (append_none (literal_of w own b)))))

pub then_more : (old mid new first rest : List ℕ) → mid ≡ old ++ first → new ≡ mid ++ rest → new ≡ old ++ (first ++ rest)
then_more old mid new first rest e f = f ∙ (ap (λ l. l ++ rest) e ∙ append_assoc old first rest)

pub arguments_same : (w : ℕ) (args : List CallArg) → flat_map (λ (a : CallArg). literal_of w a.width a.value) args ≡ flat_map (typed_literal w) (map (λ (a : CallArg). (Ty.Int a.width, a.value)) args)
arguments_same w [] = refl
arguments_same w (a ∷ rest) = ap (λ l. literal_of w a.width a.value ++ l) (arguments_same w rest)

pub cases_same : (w own : ℕ) (cases : List (ℕ × BlockId)) → flat_map (λ (c : ℕ × BlockId). literal_of w own (Operand.Literal c.0)) cases ≡ (if nat_eq own w then map (λ (c : ℕ × BlockId). c.0) cases else [])
cases_same w own cases = of (nat_eq own w) cases
  where
    of : (b : Bool) (cases : List (ℕ × BlockId)) → flat_map (λ (c : ℕ × BlockId). if b then c.0 ∷ [] else []) cases ≡ (if b then map (λ (c : ℕ × BlockId). c.0) cases else [])
    of true [] = refl
    of true (c ∷ rest) = ap (λ l. c.0 ∷ l) (of true rest)
    of false [] = refl
    of false (c ∷ rest) = of false rest
