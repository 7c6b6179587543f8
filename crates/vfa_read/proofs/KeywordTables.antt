-- Tables of words that are made of other tables.
use Rattle.std.proofs.Common.{◌≡◌, ℕ, Bool, true, false, cond, List, [], ◌∷◌, ◌++◌, map, find, Option, Some, None, option_map, refl, sym, ap, ◌∙◌, bytes_eq}
use Rattle.vfa_ir.specs.declared.operations.Bin.{Bin}
use Rattle.vfa_ir.specs.declared.operations.Cast.{Cast}
use Rattle.vfa_ir.specs.declared.operations.Fun1.{Fun1}
use Rattle.vfa_ir.specs.declared.operations.Fun2.{Fun2}
use Rattle.vfa_ir.specs.Words.{bin_word, bins, callee, cast_word, casts, fun1_word, fun1s, fun2_word, fun2s, keyword}
use Rattle.vfa_read.specs.declared.forms.Form.{Form}
use Rattle.vfa_read.specs.declared.intrinsics.Intrinsic.{Intrinsic}
use Rattle.vfa_read.specs.Productions.{form_word, forms, other_forms}
use Rattle.vfa_read.specs.Tables.{intrinsic_in, intrinsic_word, intrinsics}

abbrev or_else : {X : Type 0} → Option X → Option X → Option X
or_else None o = o
or_else (Some x) o = Some x

find_append : {X : Type 0} (test : X → Bool) (xs ys : List X) → find test (xs ++ ys) ≡ or_else (find test xs) (find test ys)
find_append test [] ys = refl
find_append test (x ∷ xs) ys = by_test (test x) (find_append test xs ys)
  where
    by_test : (b : Bool) → find test (xs ++ ys) ≡ or_else (find test xs) (find test ys) → cond b (Some x) (find test (xs ++ ys)) ≡ or_else (cond b (Some x) (find test xs)) (find test ys)
    by_test true h = refl
    by_test false h = h

find_map : {X Y : Type 0} (test : Y → Bool) (f : X → Y) (xs : List X) → find test (map f xs) ≡ option_map f (find (λ x. test (f x)) xs)
find_map test f [] = refl
find_map test f (x ∷ xs) = by_test (test (f x)) (find_map test f xs)
  where
    by_test : (b : Bool) → find test (map f xs) ≡ option_map f (find (λ y. test (f y)) xs) → cond b (Some (f x)) (find test (map f xs)) ≡ option_map f (cond b (Some x) (find (λ y. test (f y)) xs))
    by_test true h = refl
    by_test false h = h

module _ {X Y : Type 0} (test : Y → Bool) (f : X → Y) (xs : List X) (ys : List Y) where
  pub found_first : (x : X) → Some x ≡ find (λ z. test (f z)) xs → Some (f x) ≡ find test (map f xs ++ ys)
  found_first x e =
      ap (λ o. or_else (option_map f o) (find test ys)) e ∙ ap (λ o. or_else o (find test ys)) (sym (find_map test f xs)) ∙ sym (find_append test (map f xs) ys)

  pub found_later : None ≡ find (λ z. test (f z)) xs → find test ys ≡ find test (map f xs ++ ys)
  found_later e =
      ap (λ o. or_else (option_map f o) (find test ys)) e ∙ ap (λ o. or_else o (find test ys)) (sym (find_map test f xs)) ∙ sym (find_append test (map f xs) ys)

-- the forms of operations

abbrev is_form : List ℕ → Form → Bool
is_form text form = bytes_eq (form_word form) text

abbrev later_forms : List Form
later_forms = map Form.Convert casts ++ other_forms

pub binary_form : (text : List ℕ) (bin : Bin) → Some bin ≡ keyword bin_word bins text → Some (Form.Binary bin) ≡ keyword form_word forms text
binary_form text bin e = found_first (is_form text) Form.Binary bins later_forms bin e

pub convert_form : (text : List ℕ) (cast : Cast) → None ≡ keyword bin_word bins text → Some cast ≡ keyword cast_word casts text → Some (Form.Convert cast) ≡ keyword form_word forms text
convert_form text cast none e =
    found_first (is_form text) Form.Convert casts other_forms cast e ∙ found_later (is_form text) Form.Binary bins later_forms none

pub other_form : (text : List ℕ) → None ≡ keyword bin_word bins text → None ≡ keyword cast_word casts text → keyword form_word other_forms text ≡ keyword form_word forms text
other_form text none neither =
    found_later (is_form text) Form.Convert casts other_forms neither ∙ found_later (is_form text) Form.Binary bins later_forms none

-- the intrinsics

abbrev is_named : ℕ → List ℕ → Intrinsic → Bool
is_named width name intrinsic = bytes_eq name (callee (intrinsic_word intrinsic) width)

pub two_named : (name : List ℕ) (width : ℕ) (fun : Fun2) → Some fun ≡ intrinsic_in fun2_word fun2s width name → Some (Intrinsic.Two fun) ≡ intrinsic_in intrinsic_word intrinsics width name
two_named name width fun e = found_first (is_named width name) Intrinsic.Two fun2s (map Intrinsic.One fun1s) fun e

pub one_named : (name : List ℕ) (width : ℕ) (fun : Fun1) → None ≡ intrinsic_in fun2_word fun2s width name → Some fun ≡ intrinsic_in fun1_word fun1s width name →
    Some (Intrinsic.One fun) ≡ intrinsic_in intrinsic_word intrinsics width name
one_named name width fun none e =
    ap (option_map Intrinsic.One) e ∙ sym (find_map (is_named width name) Intrinsic.One fun1s) ∙ found_later (is_named width name) Intrinsic.Two fun2s (map Intrinsic.One fun1s) none

pub none_named : (name : List ℕ) (width : ℕ) → None ≡ intrinsic_in fun2_word fun2s width name → None ≡ intrinsic_in fun1_word fun1s width name →
    None ≡ intrinsic_in intrinsic_word intrinsics width name
none_named name width none neither =
    ap (option_map Intrinsic.One) neither ∙ sym (find_map (is_named width name) Intrinsic.One fun1s) ∙ found_later (is_named width name) Intrinsic.Two fun2s (map Intrinsic.One fun1s) none
