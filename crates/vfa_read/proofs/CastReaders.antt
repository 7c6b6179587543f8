-- Reading a conversion with its flags, after its word, is exact.
use Rattle.std.proofs.Common.{◌≡◌, ℕ, Bool, true, List, [], ◌∷◌, ◌++◌, map, codes, refl}
use Rattle.vfa_ir.specs.declared.operations.Cast.{Cast}
use Rattle.vfa_ir.specs.declared.syntax.Written.{Written}
use Rattle.vfa_ir.specs.Lexemes.{Lexeme, word}
use Rattle.vfa_ir.specs.Grammar.{IsWidth, FitsValue}
use Rattle.vfa_ir.specs.Spelling as spell
use Rattle.vfa_read.specs.Productions.{cast_flags, convert, convert_of, converted}
use Rattle.vfa_read.specs.Readers.{one, after, skip}
use Rattle.vfa_read.specs.Tables.{the_word, type_of, value_of}
use Rattle.vfa_read.proofs.BinaryReaders.{OptionalFits, WrapFits, no_flags_exact, optional_word_exact, word_follow, word_type, wrap_exact, wrap_follow, wrap_type}
use Rattle.vfa_read.proofs.Exact.{Exact, Made, anything, may_anything, after_exact, made_exact, skip_exact}
use Rattle.vfa_read.proofs.FormReaders.{op_follow, after_word, typed_exact}
use Rattle.vfa_read.proofs.LeafReaders.{word_exact, type_exact, value_exact}

abbrev pub CastFlagsFit : Cast → List (List ℕ) → Type 0
CastFlagsFit Cast.Zext = OptionalFits (codes "nneg")
CastFlagsFit Cast.Sext = λ ws. ws ≡ []
CastFlagsFit Cast.Trunc = WrapFits

abbrev cast_follow : Cast → List (List ℕ) → Lexeme → Bool
cast_follow Cast.Zext = word_follow (codes "nneg")
cast_follow Cast.Sext = λ _ _. true
cast_follow Cast.Trunc = wrap_follow

cast_flags_exact : (cast : Cast) → Exact (cast_flags cast) (map word) (CastFlagsFit cast) (cast_follow cast)
cast_flags_exact Cast.Zext = optional_word_exact (codes "nneg")
cast_flags_exact Cast.Sext = no_flags_exact
cast_flags_exact Cast.Trunc = wrap_exact

cast_type_follows : (cast : Cast) (ws : List (List ℕ)) (w : ℕ) → cast_follow cast ws (spell.type w) ≡ true
cast_type_follows Cast.Zext ws w = word_type (codes "nneg") (λ _. refl) ws w
cast_type_follows Cast.Sext ws w = refl
cast_type_follows Cast.Trunc ws w = wrap_type ws w

abbrev Converted : Type 0
Converted = ℕ × (Written × ℕ)

abbrev pub ConvertedFits : Converted → Type 0
ConvertedFits (from, (a, to)) = IsWidth from × (FitsValue from a × IsWidth to)

abbrev converted_spelling : Converted → List Lexeme
converted_spelling (from, (a, to)) = spell.type from ∷ (spell.value a ++ (word (codes "to") ∷ spell.type to ∷ []))

converted_exact : Exact converted converted_spelling ConvertedFits anything
unfolding converted
converted_exact = typed_exact (λ width. after (one (value_of width)) (λ _. skip (the_word (codes "to")) (one type_of)))
    (λ _ q. spell.value q.0 ++ (word (codes "to") ∷ spell.type q.1 ∷ [])) (λ w q. FitsValue w q.0 × IsWidth q.1)
    (λ w h. after_exact (one (value_of w)) (λ _. skip (the_word (codes "to")) (one type_of)) spell.value (FitsValue w) anything
    (λ _ t. word (codes "to") ∷ spell.type t ∷ []) (λ _ t. IsWidth t) (λ _ t. anything t) (value_exact w h)
    (λ _ _. skip_exact (the_word (codes "to")) (word (codes "to")) (one type_of) (λ t. spell.type t ∷ []) IsWidth anything (word_exact (codes "to")) type_exact)
    (λ a b rest f g m. may_anything a ((word (codes "to") ∷ spell.type b ∷ []) ++ rest)))

abbrev pub CastFits : Cast → List (List ℕ) × Converted → Type 0
CastFits cast p = CastFlagsFit cast p.0 × ConvertedFits p.1

pub convert_exact : (cast : Cast) → Exact (convert cast) after_word (Made (convert_of cast) (CastFits cast)) op_follow
unfolding convert
convert_exact cast = made_exact (convert_of cast) (after (cast_flags cast) (λ _. converted)) (λ p. map word p.0 ++ converted_spelling p.1) (CastFits cast) anything after_word op_follow
    (after_exact (cast_flags cast) (λ _. converted) (map word) (CastFlagsFit cast) (cast_follow cast) (λ _ q. converted_spelling q) (λ _ q. ConvertedFits q) (λ _ q. anything q)
    (cast_flags_exact cast) (λ _ _. converted_exact) (λ a b rest f g m. cast_type_follows cast a b.0))
    (λ p f. refl) (λ p f. refl)
