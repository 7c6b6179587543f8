-- Names as keys: the place of a name is that of the key that holds its bytes.
use Rattle.std.proofs.Common.{◌≡◌, ◌∙◌, ℕ, List, [], ◌∷◌, ◌++◌, Bool, false, ◌||◌, map, position, refl, ap, if◌then◌else◌, bytes_eq, sym, false}
use Rattle.std.specs.List.{list_any, position_or_len}
use Rattle.std.proofs.lemmas.List.{length-map}
use Rattle.vfa_ir.specs.Words.{is_among}
use Rattle.indexmap.specs.IndexSet.{insert_key}

pub list_any-map : {X Y : Type 0} (f : X → Y) (p : Y → Bool) (xs : List X) → list_any p (map f xs) ≡ list_any (λ x. p (f x)) xs
list_any-map f p [] = refl
list_any-map f p (x ∷ xs) = ap (λ b. p (f x) || b) (list_any-map f p xs)

map-append : {X Y : Type 0} (f : X → Y) (xs ys : List X) → map f (xs ++ ys) ≡ map f xs ++ map f ys
map-append f [] ys = refl
map-append f (x ∷ xs) ys = ap (λ l. f x ∷ l) (map-append f xs ys)

pub position_or_len-map : {X Y : Type 0} (f : X → Y) (p : Y → Bool) (xs : List X) → position_or_len p (map f xs) ≡ position_or_len (λ x. p (f x)) xs
position_or_len-map f p [] = refl
position_or_len-map f p (x ∷ xs) = simp (position_or_len-map f p xs)

pub position-map : {X Y : Type 0} (f : X → Y) (p : Y → Bool) (xs : List X) → position p (map f xs) ≡ position (λ x. p (f x)) xs
position-map f p xs = simp (position_or_len-map f p xs, length-map xs f)

-- a key that is new goes last
pub insert_key-new : {X : Type 0} (eq : X → X → Bool) (keys : List X) (k : X) → list_any (eq k) keys ≡ false → insert_key eq keys k ≡ keys ++ k ∷ []
insert_key-new eq keys k h = ap (λ b. if b then keys else keys ++ k ∷ []) h

-- the names after a key that is new goes in
pub names-insert_key : {X : Type 0} (items : X → List ℕ) (keys after : List X) (k : X) (name : List ℕ) (names : List (List ℕ))
    → items k ≡ name → map items keys ≡ names → is_among name names ≡ false
    → after ≡ insert_key (λ a b. bytes_eq (items a) (items b)) keys k → map items after ≡ names ++ name ∷ []
names-insert_key {X} items keys after k name names same shown absent inserted =
    let eq : X → X → Bool = λ a b. bytes_eq (items a) (items b) in
    let new : list_any (eq k) keys ≡ false =
    sym (list_any-map items (bytes_eq (items k)) keys) ∙ ap (λ l. is_among (items k) l) shown ∙ ap (λ n. is_among n names) same ∙ absent in
    ap (map items) (inserted ∙ insert_key-new eq keys k new) ∙ map-append items keys (k ∷ [])
    ∙ ap (λ l. l ++ items k ∷ []) shown ∙ ap (λ n. names ++ n ∷ []) same
