-- Sets of names, seen by the bytes of their keys, and the first name that stands twice.
use Rattle.std.proofs.Common.{◌≡◌, ◌<◌, ◌+◌, ◌||◌, ℕ, Bool, true, false, if◌then◌else◌, Option, Some, List, [], ◌∷◌, ◌++◌, map, length, drop, get_or, refl, sym, ap, ◌∙◌, bytes_eq}
use Rattle.std.specs.List.{list_any}
use Rattle.std.proofs.lemmas.List.{at_drop_more}
use Rattle.indexmap.specs.IndexSet.{insert_key}
use Rattle.vfa_ir.specs.Words.{is_among}
use Rattle.vfa_ir.specs.DefinedNames.{first_repeated}
use Rattle.vfa_opt.specs.declared.portions.Accepted.{Accepted}
use Rattle.vfa_opt.specs.Works.{names_of}

-- ---- keys

pub list_any-map : {X Y : Type 0} (f : X → Y) (p : Y → Bool) (xs : List X) → list_any p (map f xs) ≡ list_any (λ x. p (f x)) xs
list_any-map f p [] = refl
list_any-map f p (x ∷ xs) = ap (λ b. p (f x) || b) (list_any-map f p xs)

map-append : {X Y : Type 0} (f : X → Y) (xs ys : List X) → map f (xs ++ ys) ≡ map f xs ++ map f ys
map-append f [] ys = refl
map-append f (x ∷ xs) ys = ap (λ l. f x ∷ l) (map-append f xs ys)

-- a key that is new goes last
insert_key-new : {X : Type 0} (eq : X → X → Bool) (keys : List X) (k : X) → list_any (eq k) keys ≡ false → insert_key eq keys k ≡ keys ++ k ∷ []
insert_key-new eq keys k h = ap (λ b. if b then keys else keys ++ k ∷ []) h

-- the names after a key that is new goes in
pub names-insert_key : {X : Type 0} (items : X → List ℕ) (keys after : List X) (k : X) (name : List ℕ) (names : List (List ℕ))
    → items k ≡ name → map items keys ≡ names → is_among name names ≡ false
    → after ≡ insert_key (λ a b. bytes_eq (items a) (items b)) keys k → map items after ≡ names ++ name ∷ []
names-insert_key {X} items keys after k name names same shown absent inserted =
    let eq : X → X → Bool = λ a b. bytes_eq (items a) (items b) in
    let new : list_any (eq k) keys ≡ false =
    sym (list_any-map items (bytes_eq (items k)) keys) ∙ ap (λ l. is_among (items k) l) shown ∙ ap (λ n. is_among n names) same ∙ absent in
    ap (map items) (inserted ∙ insert_key-new eq keys k new) ∙ map-append items keys (k ∷ [])
    ∙ ap (λ l. l ++ items k ∷ []) shown ∙ ap (λ n. names ++ n ∷ []) same

-- ---- the first name that stands twice

or_swap : (a b c : Bool) → (a || (b || c)) ≡ (b || (a || c))
or_swap true true c = refl
or_swap true false c = refl
or_swap false true c = refl
or_swap false false c = refl

among_last : (p : List ℕ → Bool) (names : List (List ℕ)) (n : List ℕ) → list_any p (names ++ n ∷ []) ≡ list_any p (n ∷ names)
among_last p [] n = refl
among_last p (m ∷ names) n = ap (λ b. p m || b) (among_last p names n) ∙ or_swap (p m) (p n) (list_any p names)

-- what stands before matters by its members alone
repeated_alike : (a b names : List (List ℕ)) → ((n : List ℕ) → is_among n a ≡ is_among n b) → first_repeated a names ≡ first_repeated b names
repeated_alike a b [] alike = refl
repeated_alike a b (n ∷ names) alike =
    ap (λ t. if t then Some n else first_repeated (n ∷ a) names) (alike n)
    ∙ ap (λ r. if is_among n b then Some n else r) (repeated_alike (n ∷ a) (n ∷ b) names (λ m. ap (λ t. bytes_eq m n || t) (alike m)))

-- the name that comes next is known or goes in
pub repeats : (seen rest : List (List ℕ)) (n : List ℕ) (first : Option (List ℕ)) → first_repeated seen (n ∷ rest) ≡ first →
    is_among n seen ≡ true → Some n ≡ first
repeats seen rest n first so_far among =
    sym (ap (λ b. if b then Some n else first_repeated (n ∷ seen) rest) among) ∙ so_far

pub added : (seen after rest : List (List ℕ)) (n : List ℕ) (first : Option (List ℕ)) → first_repeated seen (n ∷ rest) ≡ first →
    is_among n seen ≡ false → after ≡ seen ++ n ∷ [] → first_repeated after rest ≡ first
added seen after rest n first so_far among more =
    ap (λ s. first_repeated s rest) more
    ∙ repeated_alike (seen ++ n ∷ []) (n ∷ seen) rest (λ m. among_last (bytes_eq m) seen n)
    ∙ sym (ap (λ b. if b then Some n else first_repeated (n ∷ seen) rest) among) ∙ so_far

-- ---- the names of functions, from one on

pub next_name : (all : List Accepted) (i : ℕ) (function : Accepted) → function ≡ get_or all i function → i < length all →
    names_of (drop i all) ≡ function.name ∷ names_of (drop (i + 1) all)
next_name all i function is lt =
    at_drop_more names_of all i function lt ∙ ap (λ (f : Accepted). f.name ∷ names_of (drop (i + 1) all)) (sym is)
