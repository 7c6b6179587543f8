-- Lists that are made element by element.
use Rattle.std.proofs.Common.{◌≡◌, ℕ, ◌+◌, ◌<◌, List, [], ◌∷◌, ◌++◌, map, take, get_or, length, sym, ap, ap₂, ◌∙◌}
use Rattle.std.proofs.lemmas.List.{map-append, take_more}
use Rattle.vfa_ir.specs.declared.operations.Operand.{Operand}
use Rattle.vfa_ir.specs.declared.functions.Block.{Block}
use Rattle.vfa_ir.specs.declared.functions.CallArg.{CallArg}
use Rattle.vfa_check.specs.Items.{item_count}
use Rattle.vfa_bits.specs.Narrowed.{new_argument}

pub mapped_more : {A B : Type 0} (h : A → B) (xs : List A) (i : ℕ) (x : A) (y : B) (old new : List B) → i < length xs → x ≡ get_or xs i x →
    old ≡ map h (take i xs) → new ≡ old ++ (y ∷ []) → y ≡ h x → new ≡ map h (take (i + 1) xs)
mapped_more h xs i x y old new l at so_far more is =
    more ∙ ap (λ k. k ++ (y ∷ [])) so_far ∙ ap (λ z. map h (take i xs) ++ (z ∷ [])) (is ∙ ap h at)
    ∙ sym (map-append h (take i xs) (get_or xs i x ∷ [])) ∙ sym (ap (map h) (take_more xs i x l))

abbrev pub argument : ℕ → List (List ℕ) → Operand → CallArg
argument width words value = record { width = width; words = words; value = value }

pub argument_is : (put : Operand → Operand) (a : CallArg) (words : List (List ℕ)) (value : Operand) → words ≡ a.words → value ≡ put a.value →
    argument a.width words value ≡ new_argument put a
argument_is put a words value e g = ap₂ (argument a.width) e g

-- lists with as many numbers as blocks have items
pub lines_more : (blocks : List Block) (i : ℕ) (x : Block) (more : List ℕ) (old new : List (List ℕ)) → i < length blocks → x ≡ get_or blocks i x →
    map length old ≡ map item_count (take i blocks) → new ≡ old ++ (more ∷ []) → length more ≡ item_count x → map length new ≡ map item_count (take (i + 1) blocks)
lines_more blocks i x more old new at_most at so_far is count =
    mapped_more item_count blocks i x (length more) (map length old) (map length new) at_most at so_far (ap (map length) is ∙ map-append length old (more ∷ [])) count
