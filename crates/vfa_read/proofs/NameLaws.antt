-- The searches for a repeated and for an unknown name, in words of lists.
use Rattle.std.proofs.Common.{◌≡◌, ℕ, Bool, true, false, ◌||◌, if◌then◌else◌, Option, Some, None, List, [], ◌∷◌, ◌++◌, refl, sym, ap, ◌∙◌, bytes_eq}
use Rattle.std.specs.Prelude.{◌↔◌, All, Contains}
use Rattle.std.specs.Cmp.{IsEquivalence}
use Rattle.std.specs.List.{AllByRecursion, IsDistinct}
use Rattle.std.proofs.lemmas.List.Elements.{All-from_recursion, recursion_from_All}
use Rattle.std.proofs.lemmas.Map.Keys.{IsDistinct-cons, IsDistinct-head, IsDistinct-tail}
use Rattle.std.proofs.lemmas.Map.Views.{Contains-from_any, list_any-from_Contains}
use Rattle.std.proofs.lemmas.Slice.Eq.{bytes_eq-Decides}
use Rattle.vfa_ir.specs.DefinedNames.{Use, of_value, of_block, used_name, is_known, first_repeated, first_unknown, value_names, block_names, uses, unknown_of}
use Rattle.vfa_ir.specs.Sentence.{Sentence}
use Rattle.vfa_ir.specs.Words.{is_among}
use Rattle.vfa_read.specs.Definedness.{IsFirstRepeated, IsDefined, IsFirstUndefined}

-- ---- tests

true_or_false : (b : Bool) → b ≡ true → b ≡ false → ⊥
true_or_false b p q = cc

same_tests : (a b : Bool) → (a ≡ true → b ≡ true) → (b ≡ true → a ≡ true) → a ≡ b
same_tests true b f g = sym (f refl)
same_tests false true f g = g refl
same_tests false false f g = refl

or_false : (a b : Bool) → (a || b) ≡ false → (a ≡ false) × (b ≡ false)
or_false true b e = cc
or_false false b e = (refl, e)

bytes_symmetric : (x y : List ℕ) → bytes_eq x y ≡ bytes_eq y x
bytes_symmetric x y = same_tests (bytes_eq x y) (bytes_eq y x)
    (λ e. (bytes_eq-Decides y x).1 (sym ((bytes_eq-Decides x y).0 e)))
    (λ e. (bytes_eq-Decides x y).1 (sym ((bytes_eq-Decides y x).0 e)))

bytes_equivalence : IsEquivalence bytes_eq
bytes_equivalence = record {
  refl = λ x. (bytes_eq-Decides x x).1 refl;
  symm = bytes_symmetric;
  congr = λ x y z e. ap (λ w. bytes_eq w z) ((bytes_eq-Decides x y).0 e);
}

among_contained : (name : List ℕ) (names : List (List ℕ)) → is_among name names ≡ true → Contains names name
among_contained = Contains-from_any (λ x y. (bytes_eq-Decides x y).0)

contained_among : (name : List ℕ) (names : List (List ℕ)) → Contains names name → is_among name names ≡ true
contained_among = list_any-from_Contains bytes_equivalence

-- ---- repeated names

-- none of the names stands among those seen
abbrev Fresh : List (List ℕ) → List (List ℕ) → Type 0
Fresh seen = AllByRecursion (λ name. is_among name seen ≡ false)

fresh_of_none : (names : List (List ℕ)) → Fresh [] names
fresh_of_none [] = tt
fresh_of_none (n ∷ names) = (refl, fresh_of_none names)

-- names that are fresh of one more are unlike it, and fresh of the others
unlike_new : (n : List ℕ) (seen names : List (List ℕ)) → Fresh (n ∷ seen) names → AllByRecursion (λ y. bytes_eq n y ≡ false) names
unlike_new n seen [] f = tt
unlike_new n seen (m ∷ names) f =
    (bytes_symmetric n m ∙ (or_false (bytes_eq m n) (is_among m seen) f.0).0, unlike_new n seen names f.1)

fresh_of_fewer : (n : List ℕ) (seen names : List (List ℕ)) → Fresh (n ∷ seen) names → Fresh seen names
fresh_of_fewer n seen [] f = tt
fresh_of_fewer n seen (m ∷ names) f = ((or_false (bytes_eq m n) (is_among m seen) f.0).1, fresh_of_fewer n seen names f.1)

fresh_of_more : (n : List ℕ) (seen names : List (List ℕ)) → AllByRecursion (λ y. bytes_eq n y ≡ false) names → Fresh seen names → Fresh (n ∷ seen) names
fresh_of_more n seen [] d f = tt
fresh_of_more n seen (m ∷ names) d f =
    (ap (λ b. b || is_among m seen) (bytes_symmetric m n ∙ d.0) ∙ f.0, fresh_of_more n seen names d.1 f.1)

record Once (seen names : List (List ℕ)) : Type 0 where
  distinct : IsDistinct bytes_eq names
  fresh : Fresh seen names

abbrev step : Bool → List ℕ → Option (List ℕ) → Option (List ℕ)
step b n rest = if b then Some n else rest

distinct_none : IsDistinct bytes_eq []
unfolding IsDistinct
distinct_none = tt

once_found : (seen names : List (List ℕ)) → first_repeated seen names ≡ None → Once seen names
once_found seen [] e = record { distinct = distinct_none; fresh = tt }
once_found seen (n ∷ names) e = go (is_among n seen) refl (λ e'. once_found (n ∷ seen) names e')
  where
    go : (b : Bool) → is_among n seen ≡ b → (first_repeated (n ∷ seen) names ≡ None → Once (n ∷ seen) names) → Once seen (n ∷ names)
    go true same more = let none : Some n ≡ None = sym (ap (λ b. step b n (first_repeated (n ∷ seen) names)) same) ∙ e in cc
    go false same more =
        let rest : Once (n ∷ seen) names = more (sym (ap (λ b. step b n (first_repeated (n ∷ seen) names)) same) ∙ e) in record {
          distinct = IsDistinct-cons bytes_eq n names (unlike_new n seen names rest.fresh) rest.distinct;
          fresh = (same, fresh_of_fewer n seen names rest.fresh);
        }

found_once : (seen names : List (List ℕ)) → Once seen names → first_repeated seen names ≡ None
found_once seen [] o = refl
found_once seen (n ∷ names) o =
    ap (λ b. step b n (first_repeated (n ∷ seen) names)) o.fresh.0
    ∙ found_once (n ∷ seen) names (record {
      distinct = IsDistinct-tail bytes_eq n names o.distinct;
      fresh = fresh_of_more n seen names (IsDistinct-head bytes_eq n names o.distinct) o.fresh.1;
    })

record Again (seen names : List (List ℕ)) (name : List ℕ) : Type 0 where
  before : List (List ℕ)
  after : List (List ℕ)
  parts : names ≡ before ++ name ∷ after
  once : Once seen before
  again : (is_among name before || is_among name seen) ≡ true

swapped : (a b c : Bool) → (a || (b || c)) ≡ ((b || a) || c)
swapped true true c = refl
swapped true false c = refl
swapped false true c = refl
swapped false false c = refl

again_found : (seen names : List (List ℕ)) (name : List ℕ) → first_repeated seen names ≡ Some name → Again seen names name
again_found seen [] name e = cc
again_found seen (n ∷ names) name e = go (is_among n seen) refl (λ e'. again_found (n ∷ seen) names name e')
  where
    go : (b : Bool) → is_among n seen ≡ b → (first_repeated (n ∷ seen) names ≡ Some name → Again (n ∷ seen) names name) → Again seen (n ∷ names) name
    go true same more =
        let found : Some n ≡ Some name = sym (ap (λ b. step b n (first_repeated (n ∷ seen) names)) same) ∙ e in
        let is : n ≡ name = cc in record {
          before = [];
          after = names;
          parts = ap (λ m. m ∷ names) is;
          once = record { distinct = distinct_none; fresh = tt };
          again = ap (λ m. is_among m seen) (sym is) ∙ same;
        }
    go false same more =
        let rest : Again (n ∷ seen) names name =
        more (sym (ap (λ b. step b n (first_repeated (n ∷ seen) names)) same) ∙ e) in record {
          before = n ∷ rest.before;
          after = rest.after;
          parts = ap (λ l. n ∷ l) rest.parts;
          once = record {
            distinct = IsDistinct-cons bytes_eq n rest.before (unlike_new n seen rest.before rest.once.fresh) rest.once.distinct;
            fresh = (same, fresh_of_fewer n seen rest.before rest.once.fresh);
          };
          again = sym (swapped (is_among name rest.before) (bytes_eq name n) (is_among name seen)) ∙ rest.again;
        }

found_again : (seen before after : List (List ℕ)) (name : List ℕ) → Once seen before → (is_among name before || is_among name seen) ≡ true →
    first_repeated seen (before ++ name ∷ after) ≡ Some name
found_again seen [] after name o again = ap (λ b. step b name (first_repeated (name ∷ seen) after)) again
found_again seen (n ∷ before) after name o again =
    ap (λ b. step b n (first_repeated (n ∷ seen) (before ++ name ∷ after))) o.fresh.0
    ∙ found_again (n ∷ seen) before after name (record {
      distinct = IsDistinct-tail bytes_eq n before o.distinct;
      fresh = fresh_of_more n seen before (IsDistinct-head bytes_eq n before o.distinct) o.fresh.1;
    }) (swapped (is_among name before) (bytes_eq name n) (is_among name seen) ∙ again)

or_none : (b : Bool) → (b || false) ≡ b
or_none true = refl
or_none false = refl

pub distinct_names : (names : List (List ℕ)) → (first_repeated [] names ≡ None) ↔ IsDistinct bytes_eq names
distinct_names names = (
  λ e. (once_found [] names e).distinct,
  λ d. found_once [] names (record { distinct = d; fresh = fresh_of_none names }),
)

pub repeated_names : (names : List (List ℕ)) (name : List ℕ) → (first_repeated [] names ≡ Some name) ↔ IsFirstRepeated names name
repeated_names names name = (there, back)
  where
    there : first_repeated [] names ≡ Some name → IsFirstRepeated names name
    there e = let a = again_found [] names name e in record {
      before = a.before;
      after = a.after;
      parts = a.parts;
      distinct = a.once.distinct;
      again = among_contained name a.before (sym (or_none (is_among name a.before)) ∙ a.again);
    }

    back : IsFirstRepeated names name → first_repeated [] names ≡ Some name
    back f =
        ap (first_repeated []) f.parts
        ∙ found_again [] f.before f.after name (record { distinct = f.distinct; fresh = fresh_of_none f.before })
        (or_none (is_among name f.before) ∙ contained_among name f.before f.again)

-- ---- unknown names

known_defined : (s : Sentence) (u : Use) → is_known (value_names s) (block_names s) u ≡ true → IsDefined s u
known_defined s (of_value name) e = among_contained name (value_names s) e
known_defined s (of_block name) e = among_contained name (block_names s) e

defined_known : (s : Sentence) (u : Use) → IsDefined s u → is_known (value_names s) (block_names s) u ≡ true
defined_known s (of_value name) c = contained_among name (value_names s) c
defined_known s (of_block name) c = contained_among name (block_names s) c

abbrev pass : Bool → Option (List ℕ) → List ℕ → Option (List ℕ)
pass b rest name = if b then rest else Some name

module _ (s : Sentence) where
  abbrev search_in : List Use → Option (List ℕ)
  search_in = first_unknown (value_names s) (block_names s)

  all_defined : (us : List Use) → search_in us ≡ None → AllByRecursion (IsDefined s) us
  all_defined [] e = tt
  all_defined (u ∷ us) e = go (is_known (value_names s) (block_names s) u) refl (λ e'. all_defined us e')
    where
      go : (b : Bool) → is_known (value_names s) (block_names s) u ≡ b → (search_in us ≡ None → AllByRecursion (IsDefined s) us) →
          AllByRecursion (IsDefined s) (u ∷ us)
      go true same more = (known_defined s u same, more (sym (ap (λ b. pass b (search_in us) (used_name u)) same) ∙ e))
      go false same more = let none : Some (used_name u) ≡ None = sym (ap (λ b. pass b (search_in us) (used_name u)) same) ∙ e in cc

  none_found : (us : List Use) → AllByRecursion (IsDefined s) us → search_in us ≡ None
  none_found [] d = refl
  none_found (u ∷ us) d = ap (λ b. pass b (search_in us) (used_name u)) (defined_known s u d.0) ∙ none_found us d.1

  record Undefined (us : List Use) (name : List ℕ) : Type 0 where
    before : List Use
    undefined : Use
    after : List Use
    parts : us ≡ before ++ undefined ∷ after
    defined : AllByRecursion (IsDefined s) before
    is : IsDefined s undefined → ⊥
    name_is : used_name undefined ≡ name

  undefined_found : (us : List Use) (name : List ℕ) → search_in us ≡ Some name → Undefined us name
  undefined_found [] name e = cc
  undefined_found (u ∷ us) name e = go (is_known (value_names s) (block_names s) u) refl (λ e'. undefined_found us name e')
    where
      go : (b : Bool) → is_known (value_names s) (block_names s) u ≡ b → (search_in us ≡ Some name → Undefined us name) → Undefined (u ∷ us) name
      go true same more = let rest = more (sym (ap (λ b. pass b (search_in us) (used_name u)) same) ∙ e) in record {
        before = u ∷ rest.before;
        undefined = rest.undefined;
        after = rest.after;
        parts = ap (λ l. u ∷ l) rest.parts;
        defined = (known_defined s u same, rest.defined);
        is = rest.is;
        name_is = rest.name_is;
      }
      go false same more =
          let found : Some (used_name u) ≡ Some name = sym (ap (λ b. pass b (search_in us) (used_name u)) same) ∙ e in record {
            before = [];
            undefined = u;
            after = us;
            parts = refl;
            defined = tt;
            is = λ d. true_or_false (is_known (value_names s) (block_names s) u) (defined_known s u d) same;
            name_is = cc;
          }

  not_true : (b : Bool) → (b ≡ true → ⊥) → b ≡ false
  not_true true f = absurd (f refl)
  not_true false f = refl

  found_undefined : (before : List Use) (u : Use) (after : List Use) → AllByRecursion (IsDefined s) before → (IsDefined s u → ⊥) →
      search_in (before ++ u ∷ after) ≡ Some (used_name u)
  found_undefined [] u after d not =
      ap (λ b. pass b (search_in after) (used_name u))
      (not_true (is_known (value_names s) (block_names s) u) (λ e. not (known_defined s u e)))
  found_undefined (v ∷ before) u after d not =
      ap (λ b. pass b (search_in (before ++ u ∷ after)) (used_name v)) (defined_known s v d.0) ∙ found_undefined before u after d.1 not

  pub uses_defined : (unknown_of s ≡ None) ↔ All (IsDefined s) (uses s)
  uses_defined = (
    λ e. All-from_recursion (IsDefined s) (uses s) (all_defined (uses s) e),
    λ d. none_found (uses s) (recursion_from_All (IsDefined s) (uses s) d),
  )

  pub use_undefined : (name : List ℕ) → (unknown_of s ≡ Some name) ↔ IsFirstUndefined s name
  use_undefined name = (there, back)
    where
      there : unknown_of s ≡ Some name → IsFirstUndefined s name
      there e = let a = undefined_found (uses s) name e in record {
        before = a.before;
        undefined = a.undefined;
        after = a.after;
        parts = a.parts;
        defined = All-from_recursion (IsDefined s) a.before a.defined;
        is = a.is;
        name_is = a.name_is;
      }

      back : IsFirstUndefined s name → unknown_of s ≡ Some name
      back f =
          ap search_in f.parts
          ∙ found_undefined f.before f.undefined f.after (recursion_from_All (IsDefined s) f.before f.defined) f.is
          ∙ ap (λ n. Some n) f.name_is
