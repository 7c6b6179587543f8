-- Reading flags, and a binary operation with its flags, is exact.
use Rattle.std.proofs.Common.{◌≡◌, ℕ, Bool, true, false, not, cond, List, [], ◌∷◌, ◌++◌, map, ◌⊎◌, ⊎_elim, bytes_eq, codes, refl, sym, ap, ◌∙◌}
use Rattle.std.specs.Str.{byte}
use Rattle.vfa_ir.specs.declared.operations.Bin.{Bin}
use Rattle.vfa_ir.specs.Lexemes.{Lexeme, word, mark}
use Rattle.vfa_ir.specs.Grammar.{IsWidth}
use Rattle.vfa_ir.specs.Spelling as spell
use Rattle.vfa_read.specs.Productions.{is_word, optional_word, is_wrap_flag, flag_list, flag_then, wrap_flags, flags, binary, binary_of, operands}
use Rattle.vfa_read.specs.Readers.{one, nothing, after, made, choose, next_passes}
use Rattle.vfa_read.specs.Tables.{the_word, type_of}
use Rattle.vfa_read.proofs.Exact.{Exact, Made, anything, may_anything, nothing_exact, after_exact, made_exact, choose_exact, optional_exact, spelled_exact}
use Rattle.vfa_read.proofs.LeafReaders.{word_exact}
use Rattle.vfa_read.proofs.FormReaders.{Two, FitsTwo, op_follow, after_word, operands_exact, typed_exact}
use Rattle.vfa_read.proofs.Words.{same_itself}

-- a word that may lack

abbrev pub word_follow : List ℕ → List (List ℕ) → Lexeme → Bool
word_follow text [] l = not (is_word text l)
word_follow text (_ ∷ _) l = true

abbrev pub OptionalFits : List ℕ → List (List ℕ) → Type 0
OptionalFits text ws = Made {A = Unit {0}} (λ _. text ∷ []) (λ _. Unit {0}) ws ⊎ (ws ≡ [])

alone_exact : (text : List ℕ) → Exact (made (λ _. text ∷ []) (one (the_word text))) (map word) (Made {A = Unit {0}} (λ _. text ∷ []) (λ _. Unit {0})) (word_follow text)
alone_exact text = made_exact (λ _. text ∷ []) (one (the_word text)) (λ _. word text ∷ []) (λ _. Unit {0}) anything (map word) (word_follow text) (word_exact text) (λ a f. refl) (λ a f. refl)

word_passes : (text : List ℕ) (rest : List Lexeme) → next_passes (is_word text) (word text ∷ rest) ≡ true
word_passes text rest = same_itself text

pub optional_word_exact : (text : List ℕ) → Exact (optional_word text) (map word) (OptionalFits text) (word_follow text)
optional_word_exact text = optional_exact (is_word text) (made (λ _. text ∷ []) (one (the_word text))) [] (map word) (Made {A = Unit {0}} (λ _. text ∷ []) (λ _. Unit {0})) (word_follow text)
    (alone_exact text) refl refl
    (λ ws rest m. ap (λ z. next_passes (is_word text) (map word z ++ rest)) (sym m.is) ∙ word_passes text rest)

-- `nuw` and `nsw` in either order

abbrev pub other_flag : List ℕ → List ℕ
other_flag text = cond (bytes_eq text (codes "nuw")) (codes "nsw") (codes "nuw")

abbrev pub wrap_follow : List (List ℕ) → Lexeme → Bool
wrap_follow [] l = not (is_wrap_flag l)
wrap_follow (x ∷ []) l = not (is_word (other_flag x) l)
wrap_follow (x ∷ y ∷ ys) l = true

abbrev FlagThenFits : List ℕ → Unit {0} × List (List ℕ) → Type 0
FlagThenFits second p = Unit {0} × OptionalFits second p.1

module _ (first second : List ℕ) (is_other : other_flag first ≡ second) where
  same_follow : (ws : List (List ℕ)) → wrap_follow (first ∷ ws) ≡ word_follow second ws
  same_follow [] = ap (λ z l. not (is_word z l)) is_other
  same_follow (w ∷ ws) = refl

  flag_then_exact : Exact (flag_then first second) (map word) (Made (flag_list first) (FlagThenFits second)) wrap_follow
  flag_then_exact = made_exact (flag_list first) (after (one (the_word first)) (λ _. optional_word second)) (λ p. word first ∷ map word p.1) (FlagThenFits second) (λ p. word_follow second p.1) (map word) wrap_follow
      (after_exact (one (the_word first)) (λ _. optional_word second) (λ _. word first ∷ []) (λ _. Unit {0}) anything (λ _ ws. map word ws) (λ _ ws. OptionalFits second ws) (λ _ ws. word_follow second ws)
      (word_exact first) (λ _ _. optional_word_exact second) (λ a b rest f g m. may_anything a (map word b ++ rest)))
      (λ p f. refl) (λ p f. same_follow p.1)

abbrev FirstWrap : List (List ℕ) → Type 0
FirstWrap = Made (flag_list (codes "nuw")) (FlagThenFits (codes "nsw"))

abbrev SecondWrap : List (List ℕ) → Type 0
SecondWrap = Made (flag_list (codes "nsw")) (FlagThenFits (codes "nuw"))

some_wrap_exact : Exact (choose (is_word (codes "nuw")) (flag_then (codes "nuw") (codes "nsw")) (flag_then (codes "nsw") (codes "nuw"))) (map word) (λ ws. FirstWrap ws ⊎ SecondWrap ws) wrap_follow
some_wrap_exact = choose_exact (is_word (codes "nuw")) (flag_then (codes "nuw") (codes "nsw")) (flag_then (codes "nsw") (codes "nuw")) (map word) FirstWrap SecondWrap wrap_follow
    (flag_then_exact (codes "nuw") (codes "nsw") refl) (flag_then_exact (codes "nsw") (codes "nuw") refl)
    (λ ws rest m k. ap (λ z. next_passes (is_word (codes "nuw")) (map word z ++ rest)) (sym m.is))
    (λ ws rest m k. ap (λ z. next_passes (is_word (codes "nuw")) (map word z ++ rest)) (sym m.is))

abbrev pub WrapFits : List (List ℕ) → Type 0
WrapFits ws = (FirstWrap ws ⊎ SecondWrap ws) ⊎ (ws ≡ [])

pub wrap_exact : Exact wrap_flags (map word) WrapFits wrap_follow
wrap_exact = optional_exact is_wrap_flag (choose (is_word (codes "nuw")) (flag_then (codes "nuw") (codes "nsw")) (flag_then (codes "nsw") (codes "nuw"))) [] (map word) (λ ws. FirstWrap ws ⊎ SecondWrap ws) wrap_follow
    some_wrap_exact refl refl
    (λ ws rest f. ⊎_elim
    (λ m. ap (λ z. next_passes is_wrap_flag (map word z ++ rest)) (sym m.is))
    (λ m. ap (λ z. next_passes is_wrap_flag (map word z ++ rest)) (sym m.is)) f)

-- by the operation

abbrev pub flag_follow : Bin → List (List ℕ) → Lexeme → Bool
flag_follow Bin.Add = wrap_follow
flag_follow Bin.Sub = wrap_follow
flag_follow Bin.Mul = wrap_follow
flag_follow Bin.Shl = wrap_follow
flag_follow Bin.Udiv = word_follow (codes "exact")
flag_follow Bin.Sdiv = word_follow (codes "exact")
flag_follow Bin.Lshr = word_follow (codes "exact")
flag_follow Bin.Ashr = word_follow (codes "exact")
flag_follow Bin.Or = word_follow (codes "disjoint")
flag_follow _ = λ _ _. true

abbrev pub FlagsFit : Bin → List (List ℕ) → Type 0
FlagsFit Bin.Add = WrapFits
FlagsFit Bin.Sub = WrapFits
FlagsFit Bin.Mul = WrapFits
FlagsFit Bin.Shl = WrapFits
FlagsFit Bin.Udiv = OptionalFits (codes "exact")
FlagsFit Bin.Sdiv = OptionalFits (codes "exact")
FlagsFit Bin.Lshr = OptionalFits (codes "exact")
FlagsFit Bin.Ashr = OptionalFits (codes "exact")
FlagsFit Bin.Or = OptionalFits (codes "disjoint")
FlagsFit _ = λ ws. ws ≡ []

pub no_flags_exact : Exact (nothing []) (map word) (λ ws. ws ≡ []) (λ _ _. true)
no_flags_exact = spelled_exact (nothing []) (λ _. []) (map word) (λ ws. ws ≡ []) anything (nothing_exact []) (λ ws e. ap (map word) (sym e))

flags_exact : (bin : Bin) → Exact (flags bin) (map word) (FlagsFit bin) (flag_follow bin)
flags_exact Bin.Add = wrap_exact
flags_exact Bin.Sub = wrap_exact
flags_exact Bin.Mul = wrap_exact
flags_exact Bin.Shl = wrap_exact
flags_exact Bin.Udiv = optional_word_exact (codes "exact")
flags_exact Bin.Sdiv = optional_word_exact (codes "exact")
flags_exact Bin.Lshr = optional_word_exact (codes "exact")
flags_exact Bin.Ashr = optional_word_exact (codes "exact")
flags_exact Bin.Urem = no_flags_exact
flags_exact Bin.Srem = no_flags_exact
flags_exact Bin.And = no_flags_exact
flags_exact Bin.Or = optional_word_exact (codes "disjoint")
flags_exact Bin.Xor = no_flags_exact

-- a type may follow flags

pub wrap_type : (ws : List (List ℕ)) (w : ℕ) → wrap_follow ws (spell.type w) ≡ true
wrap_type [] w = refl
wrap_type (x ∷ []) w = go (bytes_eq x (codes "nuw"))
  where
    go : (b : Bool) → not (is_word (cond b (codes "nsw") (codes "nuw")) (spell.type w)) ≡ true
    go true = refl
    go false = refl
wrap_type (x ∷ y ∷ ys) w = refl

pub word_type : (text : List ℕ) → ((w : ℕ) → is_word text (spell.type w) ≡ false) → (ws : List (List ℕ)) (w : ℕ) → word_follow text ws (spell.type w) ≡ true
word_type text differs [] w = ap not (differs w)
word_type text differs (x ∷ xs) w = refl

type_follows : (bin : Bin) (ws : List (List ℕ)) (w : ℕ) → flag_follow bin ws (spell.type w) ≡ true
type_follows Bin.Add ws w = wrap_type ws w
type_follows Bin.Sub ws w = wrap_type ws w
type_follows Bin.Mul ws w = wrap_type ws w
type_follows Bin.Shl ws w = wrap_type ws w
type_follows Bin.Udiv ws w = word_type (codes "exact") (λ _. refl) ws w
type_follows Bin.Sdiv ws w = word_type (codes "exact") (λ _. refl) ws w
type_follows Bin.Lshr ws w = word_type (codes "exact") (λ _. refl) ws w
type_follows Bin.Ashr ws w = word_type (codes "exact") (λ _. refl) ws w
type_follows Bin.Urem ws w = refl
type_follows Bin.Srem ws w = refl
type_follows Bin.And ws w = refl
type_follows Bin.Or ws w = word_type (codes "disjoint") (λ _. refl) ws w
type_follows Bin.Xor ws w = refl

abbrev pub BinaryFits : Bin → List (List ℕ) × (ℕ × Two) → Type 0
BinaryFits bin (flags, (width, two)) = FlagsFit bin flags × (IsWidth width × FitsTwo width two)

abbrev typed_two : ℕ × Two → List Lexeme
typed_two (width, (a, b)) = spell.type width ∷ (spell.value a ++ (mark (byte ",") ∷ spell.value b))

pub binary_exact : (bin : Bin) → Exact (binary bin) after_word (Made (binary_of bin) (BinaryFits bin)) op_follow
unfolding binary
binary_exact bin = made_exact (binary_of bin) (after (flags bin) (λ _. after (one type_of) operands)) (λ p. map word p.0 ++ typed_two p.1) (BinaryFits bin) anything after_word op_follow
    (after_exact (flags bin) (λ _. after (one type_of) operands) (map word) (FlagsFit bin) (flag_follow bin) (λ _ q. typed_two q) (λ _ q. IsWidth q.0 × FitsTwo q.0 q.1) (λ _ q. anything q)
    (flags_exact bin) (λ _ _. typed_exact operands (λ w p. spell.value p.0 ++ (mark (byte ",") ∷ spell.value p.1)) FitsTwo operands_exact)
    (λ a b rest f g m. type_follows bin a b.0))
    (λ p f. refl) (λ p f. refl)
