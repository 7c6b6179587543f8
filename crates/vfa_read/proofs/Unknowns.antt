-- Uses one after the other: the first that is not defined.
use Rattle.std.proofs.Common.{◌≡◌, ◌∙◌, ℕ, List, [], ◌∷◌, ◌++◌, Bool, true, false, if◌then◌else◌, Some, None, Result, Ok, Err, refl, sym, ap, subst, append_assoc, drop, ◌+◌}
use Rattle.std.specs.Result.{IsErrAnd}
use Rattle.vfa_ir.specs.declared.reasons.Outside.{Outside}
use Rattle.vfa_ir.specs.DefinedNames.{Use, is_known, used_name}
use Rattle.vfa_ir.specs.Resolution.{Scope}
use Rattle.vfa_read.specs.Resolving.{unknown_in, IsUnknown, Resolves}

pub known_then : (scope : Scope) (us ws : List Use) → unknown_in scope us ≡ None → unknown_in scope (us ++ ws) ≡ unknown_in scope ws
known_then scope [] ws h = refl
known_then scope (u ∷ us) ws h = by (is_known scope.values scope.blocks u) refl (known_then scope us ws) h
  where
    by : (b : Bool) → is_known scope.values scope.blocks u ≡ b → (unknown_in scope us ≡ None → unknown_in scope (us ++ ws) ≡ unknown_in scope ws)
        → (if b then unknown_in scope us else Some (used_name u)) ≡ None → (if is_known scope.values scope.blocks u then unknown_in scope (us ++ ws) else Some (used_name u)) ≡ unknown_in scope ws
    by true e again k = ap (λ c. if c then unknown_in scope (us ++ ws) else Some (used_name u)) e ∙ again k
    by false e again k = cc

pub unknown_stays : (scope : Scope) (us ws : List Use) (n : List ℕ) → unknown_in scope us ≡ Some n → unknown_in scope (us ++ ws) ≡ Some n
unknown_stays scope [] ws n h = cc
unknown_stays scope (u ∷ us) ws n h = by (is_known scope.values scope.blocks u) refl (unknown_stays scope us ws n) h
  where
    by : (b : Bool) → is_known scope.values scope.blocks u ≡ b → (unknown_in scope us ≡ Some n → unknown_in scope (us ++ ws) ≡ Some n)
        → (if b then unknown_in scope us else Some (used_name u)) ≡ Some n → (if is_known scope.values scope.blocks u then unknown_in scope (us ++ ws) else Some (used_name u)) ≡ Some n
    by true e again k = ap (λ c. if c then unknown_in scope (us ++ ws) else Some (used_name u)) e ∙ again k
    by false e again k = ap (λ c. if c then unknown_in scope (us ++ ws) else Some (used_name u)) e ∙ k

-- the error for the first stays that for both
pub error_of_first : (scope : Scope) (us ws : List Use) (e : Outside) → IsUnknown (unknown_in scope us) e → IsUnknown (unknown_in scope (us ++ ws)) e
error_of_first scope us ws Outside.Memory h = tt
error_of_first scope us ws (Outside.Unknown n) h = unknown_stays scope us ws n h
error_of_first scope us ws (Outside.Duplicate _) h = h
error_of_first scope us ws (Outside.Shape _) h = h
error_of_first scope us ws (Outside.TooMany _) h = h
error_of_first scope us ws (Outside.Types _) h = h
error_of_first scope us ws (Outside.Phi _) h = h
error_of_first scope us ws (Outside.Undefined _ _) h = h

pub error_of_second : (scope : Scope) (us ws : List Use) (e : Outside) → unknown_in scope us ≡ None → IsUnknown (unknown_in scope ws) e → IsUnknown (unknown_in scope (us ++ ws)) e
error_of_second scope us ws e known h = subst (λ found. IsUnknown found e) (sym (known_then scope us ws known)) h

pub known_both : (scope : Scope) (us ws : List Use) → unknown_in scope us ≡ None → unknown_in scope ws ≡ None → unknown_in scope (us ++ ws) ≡ None
known_both scope us ws h k = known_then scope us ws h ∙ k

-- an error that is handed on
pub error_resolves : {A : Type 0} (scope : Scope) (uses : List Use) (x : A) (r : Result A Outside) (f : Outside) → IsErrAnd r (λ e. e ≡ f) → IsUnknown (unknown_in scope uses) f → Resolves scope uses x r
error_resolves scope uses x (Ok y) f h k = absurd h
error_resolves scope uses x (Err e) f h k = subst (IsUnknown (unknown_in scope uses)) (sym h) k

-- a list of uses from its end on: here begins with u, and goes on with rest
pub item_known : (scope : Scope) (whole here u rest : List Use) → unknown_in scope here ≡ unknown_in scope whole → here ≡ u ++ rest → unknown_in scope u ≡ None
    → unknown_in scope rest ≡ unknown_in scope whole
item_known scope whole here u rest h parts known = sym (known_then scope u rest known) ∙ ap (unknown_in scope) (sym parts) ∙ h

pub item_unknown : (scope : Scope) (whole here u rest : List Use) (e : Outside) → unknown_in scope here ≡ unknown_in scope whole → here ≡ u ++ rest
    → IsUnknown (unknown_in scope u) e → IsUnknown (unknown_in scope whole) e
item_unknown scope whole here u rest e h parts k =
    subst (λ found. IsUnknown found e) (ap (unknown_in scope) (sym parts) ∙ h) (error_of_first scope u rest e k)

-- the list that is made, with what is still to come
pub item_made : {Y : Type 0} (made after whole here : List Y) (y x : Y) (rest : List Y) → made ++ here ≡ whole → here ≡ x ∷ rest → y ≡ x
    → after ≡ made ++ y ∷ [] → after ++ rest ≡ whole
item_made made after whole here y x rest h parts same pushed =
    ap (λ l. l ++ rest) pushed ∙ append_assoc made (y ∷ []) rest ∙ ap (λ z. made ++ z ∷ rest) same ∙ ap (λ l. made ++ l) (sym parts) ∙ h

pub third_unknown : (scope : Scope) (a b c all : List Use) (e : Outside) → a ++ (b ++ c) ≡ all → unknown_in scope a ≡ None → unknown_in scope b ≡ None
    → IsUnknown (unknown_in scope c) e → IsUnknown (unknown_in scope all) e
third_unknown scope a b c all e parts h k l =
    subst (λ u. IsUnknown (unknown_in scope u) e) parts (error_of_second scope a (b ++ c) e h (error_of_second scope b c e k l))

pub second_unknown : (scope : Scope) (a b c all : List Use) (e : Outside) → a ++ (b ++ c) ≡ all → unknown_in scope a ≡ None
    → IsUnknown (unknown_in scope b) e → IsUnknown (unknown_in scope all) e
second_unknown scope a b c all e parts h k =
    subst (λ u. IsUnknown (unknown_in scope u) e) parts (error_of_second scope a (b ++ c) e h (error_of_first scope b c e k))

pub first_unknown_of : (scope : Scope) (a b c all : List Use) (e : Outside) → a ++ (b ++ c) ≡ all → IsUnknown (unknown_in scope a) e → IsUnknown (unknown_in scope all) e
first_unknown_of scope a b c all e parts h = subst (λ u. IsUnknown (unknown_in scope u) e) parts (error_of_first scope a (b ++ c) e h)

pub all_known : (scope : Scope) (a b c all : List Use) → a ++ (b ++ c) ≡ all → unknown_in scope a ≡ None → unknown_in scope b ≡ None → unknown_in scope c ≡ None → unknown_in scope all ≡ None
all_known scope a b c all parts h k l = ap (unknown_in scope) (sym parts) ∙ known_both scope a (b ++ c) h (known_both scope b c k l)

-- a list that grows by what the first of the rest gives
pub grown : {X Y : Type 0} (f : List X → List Y) (xs : List X) (i : ℕ) (x : X) (made after whole : List Y)
    → ((a b : List X) → f (a ++ b) ≡ f a ++ f b) → drop i xs ≡ (x ∷ []) ++ drop (i + 1) xs
    → made ++ f (drop i xs) ≡ whole → after ≡ made ++ f (x ∷ []) → after ++ f (drop (i + 1) xs) ≡ whole
grown f xs i x made after whole splits at h pushed =
    ap (λ l. l ++ f (drop (i + 1) xs)) pushed ∙ append_assoc made (f (x ∷ [])) (f (drop (i + 1) xs))
    ∙ ap (λ l. made ++ l) (sym (ap f at ∙ splits (x ∷ []) (drop (i + 1) xs))) ∙ h

-- an error that is handed on
