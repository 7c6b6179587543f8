-- Steps of loops over the elements of a list that a program sees as another.
use Rattle.std.proofs.Common.{◌≡◌, ℕ, ◌+◌, ◌<◌, ◌≤◌, List, length, take, get_or, All, Some, refl, subst}
use Rattle.std.proofs.lemmas.List.{take_all}
use Rattle.std.proofs.lemmas.List.Elements.{All-more}
use Rattle.std.proofs.lemmas.Option.{slice_get_read}
use Rattle.std.specs.List.{slice_get}

pub all_step : {A : Type 0} (P : A → Type 0) (items all : List A) (i : ℕ) (x : A) → items ≡ all → i < length items → x ≡ get_or items i x →
    All P (take i all) → P x → All P (take (i + 1) all)
all_step {A} P items all i x same within is before here =
    let inside : i < length all = subst (λ xs. i < length xs) same within in
    let found : x ≡ get_or all i x = subst (λ xs. x ≡ get_or xs i x) same is in
    All-more P all i x inside before (subst P found here)

pub all_end : {A : Type 0} (P : A → Type 0) (items all : List A) (i : ℕ) → items ≡ all → length items ≤ i → All P (take i all) → All P all
all_end P items all i same past before =
    let behind : length all ≤ i = subst (λ xs. length xs ≤ i) same past in
    subst (All P) (take_all i all behind) before

-- the element at a place
pub found_at : {A : Type 0} (items all : List A) (i : ℕ) (x : A) → items ≡ all → i < length items → x ≡ get_or items i x → slice_get all i ≡ Some x
found_at {A} items all i x same within is =
    subst (λ xs. slice_get xs i ≡ Some x) same (slice_get_read items (length items) i x refl within is)
