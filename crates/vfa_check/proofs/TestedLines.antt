-- The lines of a function that a test makes.
use Rattle.std.proofs.Common.{◌≡◌, ◌∙◌, ◌+◌, ◌<◌, ◌++◌, ◌∷◌, [], ℕ, List, ap, ap₂, get_or, length, map, sym, take}
use Rattle.std.proofs.lemmas.List.{map-append, take_more}
use Rattle.vfa_ir.specs.declared.functions.Block.{Block}
use Rattle.vfa_check.specs.Items.{item_count}

pub rows_next : (rows : List (List ℕ)) (row : List ℕ) (blocks : List Block) (i : ℕ) (b : Block) → i < length blocks → b ≡ get_or blocks i b →
    length row ≡ item_count b → map length rows ≡ map item_count (take i blocks) →
    map length (rows ++ row ∷ []) ≡ map item_count (take (i + 1) blocks)
rows_next rows row blocks i b within is long so_far =
    map-append length rows (row ∷ [])
    ∙ ap₂ (λ (ns : List ℕ) (n : ℕ). ns ++ n ∷ []) so_far (long ∙ ap item_count is)
    ∙ sym (map-append item_count (take i blocks) (get_or blocks i b ∷ []))
    ∙ ap (map item_count) (sym (take_more blocks i b within))
