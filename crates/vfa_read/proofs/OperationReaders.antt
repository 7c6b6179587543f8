-- Reading an operation and a terminator is exact for their spelling and what the grammar asks of them.
use Rattle.std.proofs.Common.{◌≡◌, ℕ, Bool, true, false, ◌||◌, List, [], ◌∷◌, ◌++◌, append_assoc, map, Option, Some, None, ◌⊎◌, inl, inr, ⊎_elim, IsTrue, IfSome, bytes_eq, codes, refl, sym, ap, ◌∙◌, subst, true≢false}
use Rattle.std.specs.List.{AllByRecursion, IsDistinct, join_by}
use Rattle.std.specs.Prelude.{⊤}
use Rattle.std.proofs.lemmas.List.Elements.{All-nil, recursion_from_All, All-from_recursion}
use Rattle.std.specs.Str.{byte}
use Rattle.vfa_ir.specs.declared.operations.Bin.{Bin}
use Rattle.vfa_ir.specs.declared.operations.Cast.{Cast}
use Rattle.vfa_ir.specs.declared.operations.Over.{Over}
use Rattle.vfa_ir.specs.declared.operations.Pred.{Pred}
use Rattle.vfa_ir.specs.declared.syntax.Operation.{Operation}
use Rattle.vfa_ir.specs.declared.syntax.Argument.{Argument}
use Rattle.vfa_ir.specs.declared.syntax.Written.{Written}
use Rattle.vfa_ir.specs.declared.syntax.CallWords.{CallWords}
use Rattle.vfa_ir.specs.Lexemes.{Lexeme, global, group, mark, word}
use Rattle.vfa_ir.specs.Grammar.{AreWords, IsWidth, FitsFlags, FitsOperation}
use Rattle.vfa_ir.specs.Spelling as spell
use Rattle.vfa_ir.specs.Words.{call_words, cast_flags_of, is_among, flags_of, keyword}
use Rattle.vfa_read.specs.declared.forms.Form.{Form}
use Rattle.vfa_read.specs.declared.intrinsics.Callee.{Callee}
use Rattle.vfa_read.specs.declared.intrinsics.Intrinsic.{Intrinsic}
use Rattle.vfa_read.specs.Productions.{call, over_of, last_of, words_of, binary_of, compare_of, select_of, convert_of, freeze_of, extract_of, marked_call, forms, form_rest, form_word, formed, operation}
use Rattle.vfa_read.specs.Readers.{one, after}
use Rattle.vfa_read.specs.Tables.{keyword_in, the_word}
use Rattle.vfa_read.proofs.BinaryReaders.{OptionalFits, WrapFits, FlagsFit, BinaryFits, binary_exact}
use Rattle.vfa_read.proofs.CallReaders.{CalleeFits, CalleeStands, OverFits, PlainFits, call_exact, words_spelling}
use Rattle.vfa_read.proofs.CastReaders.{CastFits, CastFlagsFit, convert_exact}
use Rattle.vfa_read.proofs.Exact.{Exact, Made, anything, may_anything, after_exact, made_exact, skip_exact, fits_exact}
use Rattle.vfa_read.proofs.FormReaders.{Two, any_sign, op_follow, after_word, ComparedFits, compare_exact, SelectedFits, select_exact, TypedFits, freeze_exact, ExtractedFits, extract_exact}
use Rattle.vfa_read.proofs.LeafReaders.{keyword_exact, word_exact}
use Rattle.vfa_read.proofs.Words.{same_text, same_itself}

-- the words

form_each : (f : Form) → keyword form_word forms (form_word f) ≡ Some f
form_each (Form.Binary Bin.Add) = refl
form_each (Form.Convert Cast.Zext) = refl
form_each _ = refl

-- what stands after each

abbrev pub CallFits : Option (List ℕ) → Operation → Type 0
CallFits m op = Made (over_of m) OverFits op ⊎ Made last_of (PlainFits m) op

abbrev form_rest_spelling : Form → Operation → List Lexeme
form_rest_spelling Form.Call op = words_spelling op
form_rest_spelling Form.Tail op = word (codes "call") ∷ words_spelling op
form_rest_spelling Form.Notail op = word (codes "call") ∷ words_spelling op
form_rest_spelling _ op = after_word op

abbrev FormRestFits : Form → Operation → Type 0
FormRestFits (Form.Binary bin) = Made (binary_of bin) (BinaryFits bin)
FormRestFits Form.Compare = Made compare_of ComparedFits
FormRestFits Form.Select = Made select_of SelectedFits
FormRestFits (Form.Convert cast) = Made (convert_of cast) (CastFits cast)
FormRestFits Form.Freeze = Made freeze_of TypedFits
FormRestFits Form.Extract = Made extract_of ExtractedFits
FormRestFits Form.Call = CallFits None
FormRestFits Form.Tail = CallFits (Some (codes "tail"))
FormRestFits Form.Notail = CallFits (Some (codes "notail"))

marked_exact : (m : List ℕ) → Exact (marked_call m) (λ op. word (codes "call") ∷ words_spelling op) (CallFits (Some m)) op_follow
marked_exact m = skip_exact (the_word (codes "call")) (word (codes "call")) (call (Some m)) words_spelling (CallFits (Some m)) op_follow (word_exact (codes "call")) (call_exact (Some m))

form_rest_exact : (f : Form) → Exact (form_rest f) (form_rest_spelling f) (FormRestFits f) op_follow
form_rest_exact (Form.Binary bin) = binary_exact bin
form_rest_exact Form.Compare = compare_exact
form_rest_exact Form.Select = select_exact
form_rest_exact (Form.Convert cast) = convert_exact cast
form_rest_exact Form.Freeze = freeze_exact
form_rest_exact Form.Extract = extract_exact
form_rest_exact Form.Call = call_exact None
form_rest_exact Form.Tail = marked_exact (codes "tail")
form_rest_exact Form.Notail = marked_exact (codes "notail")

abbrev OpSpelled : Form → Operation → Type 0
OpSpelled f op = spell.operation op ≡ word (form_word f) ∷ form_rest_spelling f op

abbrev pub MarkedSpelled : Option (List ℕ) → Operation → Type 0
MarkedSpelled m op = spell.operation op ≡ spell.optional_word m ++ (word (codes "call") ∷ words_spelling op)

-- the words of a call stand before the type of its result
pub other_spelled : (c : CallWords) (attributes : List (List ℕ)) (width : Option ℕ) (name : List ℕ) (xs : List Argument) → MarkedSpelled c.marker (Operation.Call c attributes width name xs)
other_spelled c attributes width name xs =
    let later : List Lexeme = global name ∷ mark (byte "(") ∷ (join_by spell.argument (mark (byte ",") ∷ []) xs ++ (mark (byte ")") ∷ map group c.groups)) in
    ap (λ z. spell.optional_word c.marker ++ (word (codes "call") ∷ z)) (append_assoc (map word attributes) (spell.result_type width ∷ []) later)

callee_spelled : (m : Option (List ℕ)) (words : List (List ℕ)) (w : ℕ) (c : Callee) (op : Operation) → CalleeFits m words w c op → MarkedSpelled m op
callee_spelled m words w (Callee.Known (Intrinsic.Two fun)) op f = subst (MarkedSpelled m) f.is refl
callee_spelled m words w (Callee.Known (Intrinsic.One fun)) op f = subst (MarkedSpelled m) f.is refl
callee_spelled m words w (Callee.Other name) op f = subst (MarkedSpelled m) f.is (other_spelled (words_of m f.from.1) words (Some w) name f.from.0)

plain_marked : (m : Option (List ℕ)) (op : Operation) → Made last_of (PlainFits m) op → MarkedSpelled m op
plain_marked m op p =
    let n = p.fits.1 in
    subst (MarkedSpelled m) p.is (subst (MarkedSpelled m) n.is (callee_spelled m p.from.0 n.from.0 n.from.1.0 n.from.1.1 n.fits.1.1))

call_spelled : (m : Option (List ℕ)) (op : Operation) → CallFits m op → MarkedSpelled m op
call_spelled m op f = ⊎_elim (λ o. subst (MarkedSpelled m) o.is refl) (λ p. plain_marked m op p) f

form_spelled : (f : Form) (op : Operation) → FormRestFits f op → OpSpelled f op
form_spelled (Form.Binary bin) op m = subst (OpSpelled (Form.Binary bin)) m.is refl
form_spelled Form.Compare op m = subst (OpSpelled Form.Compare) m.is refl
form_spelled Form.Select op m = subst (OpSpelled Form.Select) m.is refl
form_spelled (Form.Convert cast) op m = subst (OpSpelled (Form.Convert cast)) m.is refl
form_spelled Form.Freeze op m = subst (OpSpelled Form.Freeze) m.is refl
form_spelled Form.Extract op m = subst (OpSpelled Form.Extract) m.is refl
form_spelled Form.Call op m = call_spelled None op m
form_spelled Form.Tail op m = call_spelled (Some (codes "tail")) op m
form_spelled Form.Notail op m = call_spelled (Some (codes "notail")) op m

abbrev FormedFits : Form × Operation → Type 0
FormedFits p = Unit {0} × FormRestFits p.0 p.1

formed_exact : Exact operation spell.operation (Made formed FormedFits) op_follow
unfolding operation
formed_exact = made_exact formed (after (one (keyword_in form_word forms)) form_rest) (λ p. word (form_word p.0) ∷ form_rest_spelling p.0 p.1) FormedFits (λ p. op_follow p.1) spell.operation op_follow
    (after_exact (one (keyword_in form_word forms)) form_rest (λ f. word (form_word f) ∷ []) (λ _. Unit {0}) anything form_rest_spelling FormRestFits (λ _ op. op_follow op)
    (keyword_exact form_word forms form_each Form.Compare) (λ f _. form_rest_exact f) (λ a b rest f g m. may_anything a (form_rest_spelling a b ++ rest)))
    (λ p f. form_spelled p.0 p.1 f.1) (λ p f. refl)

-- what the grammar asks, of flags

pub two_words : (x a b : List ℕ) → IsTrue (is_among x (a ∷ b ∷ [])) → (x ≡ a) ⊎ (x ≡ b)
two_words x a b e = go (bytes_eq x a) refl (bytes_eq x b) refl
  where
    go : (p : Bool) → bytes_eq x a ≡ p → (q : Bool) → bytes_eq x b ≡ q → (x ≡ a) ⊎ (x ≡ b)
    go true p q r = inl (same_text x a p)
    go false p true r = inr (same_text x b r)
    go false p false r = absurd (neither p r)
      where
        neither : bytes_eq x a ≡ false → bytes_eq x b ≡ false → ⊥
        neither h k = true≢false (sym e ∙ rw (h, k) refl)

pub among_first : (a b : List ℕ) → IsTrue (is_among a (a ∷ b ∷ []))
among_first a b = let e = same_itself a in rw e refl

pub among_second : (a b : List ℕ) → IsTrue (is_among b (a ∷ b ∷ []))
among_second a b = let e = same_itself b in go (bytes_eq b a) e
  where
    go : (p : Bool) → bytes_eq b b ≡ true → (p || (bytes_eq b b || false)) ≡ true
    go true e = refl
    go false e = rw e refl

abbrev ListFits : List (List ℕ) → List (List ℕ) → Type 0
ListFits fs ws = AllByRecursion (λ w. IsTrue (is_among w fs)) ws × IsDistinct bytes_eq ws

flags_to : (allowed ws : List (List ℕ)) → ListFits allowed ws → FitsFlags allowed ws
flags_to allowed ws f = record { known = All-from_recursion (λ w. IsTrue (is_among w allowed)) ws f.0; once = f.1 }

flags_from : (allowed ws : List (List ℕ)) → FitsFlags allowed ws → ListFits allowed ws
flags_from allowed ws f = (recursion_from_All (λ w. IsTrue (is_among w allowed)) ws f.known, f.once)

abbrev wrap_words : List (List ℕ)
wrap_words = codes "nuw" ∷ codes "nsw" ∷ []

wrap_to : (ws : List (List ℕ)) → WrapFits ws → ListFits wrap_words ws
unfolding IsDistinct
wrap_to ws f = ⊎_elim
    (λ some. ⊎_elim
    (λ m. subst (ListFits wrap_words) m.is (⊎_elim
    (λ o. subst (λ z. ListFits wrap_words (codes "nuw" ∷ z)) o.is ((refl, (refl, tt)), ((refl, tt), (tt, tt))))
    (λ n. subst (λ z. ListFits wrap_words (codes "nuw" ∷ z)) (sym n) ((refl, tt), (tt, tt))) m.fits.1))
    (λ m. subst (ListFits wrap_words) m.is (⊎_elim
    (λ o. subst (λ z. ListFits wrap_words (codes "nsw" ∷ z)) o.is ((refl, (refl, tt)), ((refl, tt), (tt, tt))))
    (λ n. subst (λ z. ListFits wrap_words (codes "nsw" ∷ z)) (sym n) ((refl, tt), (tt, tt))) m.fits.1)) some)
    (λ none. subst (ListFits wrap_words) (sym none) (tt, tt)) f

-- two words that are equal are not distinct
clash : (x y a : List ℕ) → x ≡ a → y ≡ a → bytes_eq x y ≡ false → ⊥
clash x y a p q e = true≢false (sym (same_itself a) ∙ ap (λ z. bytes_eq z a) (sym p) ∙ ap (bytes_eq x) (sym q) ∙ e)

pair_first : (x y : List ℕ) → x ≡ codes "nuw" → y ≡ codes "nsw" → WrapFits (x ∷ y ∷ [])
pair_first x y p q = inl (inl (record { from = (tt, y ∷ []); fits = (tt, inl (record { from = tt; fits = tt; is = ap (λ z. z ∷ []) (sym q) })); is = ap (λ z. z ∷ y ∷ []) (sym p) }))

pair_second : (x y : List ℕ) → x ≡ codes "nsw" → y ≡ codes "nuw" → WrapFits (x ∷ y ∷ [])
pair_second x y p q = inl (inr (record { from = (tt, y ∷ []); fits = (tt, inl (record { from = tt; fits = tt; is = ap (λ z. z ∷ []) (sym q) })); is = ap (λ z. z ∷ y ∷ []) (sym p) }))

wrap_one : (x : List ℕ) → (x ≡ codes "nuw") ⊎ (x ≡ codes "nsw") → WrapFits (x ∷ [])
wrap_one x w = ⊎_elim
    (λ p. inl (inl (record { from = (tt, []); fits = (tt, inr refl); is = ap (λ z. z ∷ []) (sym p) })))
    (λ p. inl (inr (record { from = (tt, []); fits = (tt, inr refl); is = ap (λ z. z ∷ []) (sym p) }))) w

wrap_two : (x y : List ℕ) → (x ≡ codes "nuw") ⊎ (x ≡ codes "nsw") → (y ≡ codes "nuw") ⊎ (y ≡ codes "nsw") → bytes_eq x y ≡ false → WrapFits (x ∷ y ∷ [])
wrap_two x y v w e = ⊎_elim
    (λ p. ⊎_elim (λ q. absurd (clash x y (codes "nuw") p q e)) (λ q. pair_first x y p q) w)
    (λ p. ⊎_elim (λ q. pair_second x y p q) (λ q. absurd (clash x y (codes "nsw") p q e)) w) v

no_three : (x y z a b : List ℕ) → (x ≡ a) ⊎ (x ≡ b) → (y ≡ a) ⊎ (y ≡ b) → (z ≡ a) ⊎ (z ≡ b) → bytes_eq x y ≡ false → bytes_eq x z ≡ false → bytes_eq y z ≡ false → ⊥
no_three x y z a b u v w xy xz yz = ⊎_elim
    (λ p. ⊎_elim (λ q. clash x y a p q xy) (λ q. ⊎_elim (λ r. clash x z a p r xz) (λ r. clash y z b q r yz) w) v)
    (λ p. ⊎_elim (λ q. ⊎_elim (λ r. clash y z a q r yz) (λ r. clash x z b p r xz) w) (λ q. clash x y b p q xy) v) u

wrap_from : (ws : List (List ℕ)) → ListFits wrap_words ws → WrapFits ws
unfolding IsDistinct
wrap_from [] f = inr refl
wrap_from (x ∷ []) f = wrap_one x (two_words x (codes "nuw") (codes "nsw") f.0.0)
wrap_from (x ∷ y ∷ []) f = wrap_two x y (two_words x (codes "nuw") (codes "nsw") f.0.0) (two_words y (codes "nuw") (codes "nsw") f.0.1.0) f.1.0.0
wrap_from (x ∷ y ∷ z ∷ zs) f = absurd (no_three x y z (codes "nuw") (codes "nsw")
    (two_words x (codes "nuw") (codes "nsw") f.0.0) (two_words y (codes "nuw") (codes "nsw") f.0.1.0) (two_words z (codes "nuw") (codes "nsw") f.0.1.1.0) f.1.0.0 f.1.0.1.0 f.1.1.0.0)

one_word_is : (x a : List ℕ) → IsTrue (is_among x (a ∷ [])) → x ≡ a
one_word_is x a e = go (bytes_eq x a) refl
  where
    go : (p : Bool) → bytes_eq x a ≡ p → x ≡ a
    go true p = same_text x a p
    go false p = absurd (true≢false (sym e ∙ rw p refl))

one_to : (text : List ℕ) (ws : List (List ℕ)) → OptionalFits text ws → ListFits (text ∷ []) ws
unfolding IsDistinct
one_to text ws f = ⊎_elim
    (λ m. subst (ListFits (text ∷ [])) m.is ((let e = same_itself text in rw e refl, tt), (tt, tt)))
    (λ none. subst (ListFits (text ∷ [])) (sym none) (tt, tt)) f

one_from : (text : List ℕ) (ws : List (List ℕ)) → ListFits (text ∷ []) ws → OptionalFits text ws
unfolding IsDistinct
one_from text [] f = inr refl
one_from text (x ∷ []) f = inl (record { from = tt; fits = tt; is = ap (λ z. z ∷ []) (sym (one_word_is x text f.0.0)) })
one_from text (x ∷ y ∷ ys) f = absurd (clash x y text (one_word_is x text f.0.0) (one_word_is y text f.0.1.0) f.1.0.0)

none_to : (ws : List (List ℕ)) → ws ≡ [] → ListFits [] ws
unfolding IsDistinct
none_to ws e = subst (ListFits []) (sym e) (tt, tt)

none_from : (ws : List (List ℕ)) → ListFits [] ws → ws ≡ []
none_from [] f = refl
none_from (x ∷ xs) f = let no = f.0.0 in cc

flag_fits_to : (bin : Bin) (ws : List (List ℕ)) → FlagsFit bin ws → FitsFlags (flags_of bin) ws
flag_fits_to Bin.Add ws f = flags_to wrap_words ws (wrap_to ws f)
flag_fits_to Bin.Sub ws f = flags_to wrap_words ws (wrap_to ws f)
flag_fits_to Bin.Mul ws f = flags_to wrap_words ws (wrap_to ws f)
flag_fits_to Bin.Shl ws f = flags_to wrap_words ws (wrap_to ws f)
flag_fits_to Bin.Udiv ws f = flags_to (codes "exact" ∷ []) ws (one_to (codes "exact") ws f)
flag_fits_to Bin.Sdiv ws f = flags_to (codes "exact" ∷ []) ws (one_to (codes "exact") ws f)
flag_fits_to Bin.Lshr ws f = flags_to (codes "exact" ∷ []) ws (one_to (codes "exact") ws f)
flag_fits_to Bin.Ashr ws f = flags_to (codes "exact" ∷ []) ws (one_to (codes "exact") ws f)
flag_fits_to Bin.Urem ws f = flags_to [] ws (none_to ws f)
flag_fits_to Bin.Srem ws f = flags_to [] ws (none_to ws f)
flag_fits_to Bin.And ws f = flags_to [] ws (none_to ws f)
flag_fits_to Bin.Or ws f = flags_to (codes "disjoint" ∷ []) ws (one_to (codes "disjoint") ws f)
flag_fits_to Bin.Xor ws f = flags_to [] ws (none_to ws f)

flag_fits_from : (bin : Bin) (ws : List (List ℕ)) → FitsFlags (flags_of bin) ws → FlagsFit bin ws
flag_fits_from Bin.Add ws f = wrap_from ws (flags_from wrap_words ws f)
flag_fits_from Bin.Sub ws f = wrap_from ws (flags_from wrap_words ws f)
flag_fits_from Bin.Mul ws f = wrap_from ws (flags_from wrap_words ws f)
flag_fits_from Bin.Shl ws f = wrap_from ws (flags_from wrap_words ws f)
flag_fits_from Bin.Udiv ws f = one_from (codes "exact") ws (flags_from (codes "exact" ∷ []) ws f)
flag_fits_from Bin.Sdiv ws f = one_from (codes "exact") ws (flags_from (codes "exact" ∷ []) ws f)
flag_fits_from Bin.Lshr ws f = one_from (codes "exact") ws (flags_from (codes "exact" ∷ []) ws f)
flag_fits_from Bin.Ashr ws f = one_from (codes "exact") ws (flags_from (codes "exact" ∷ []) ws f)
flag_fits_from Bin.Urem ws f = none_from ws (flags_from [] ws f)
flag_fits_from Bin.Srem ws f = none_from ws (flags_from [] ws f)
flag_fits_from Bin.And ws f = none_from ws (flags_from [] ws f)
flag_fits_from Bin.Or ws f = one_from (codes "disjoint") ws (flags_from (codes "disjoint" ∷ []) ws f)
flag_fits_from Bin.Xor ws f = none_from ws (flags_from [] ws f)

cast_fits_to : (cast : Cast) (ws : List (List ℕ)) → CastFlagsFit cast ws → FitsFlags (cast_flags_of cast) ws
cast_fits_to Cast.Zext ws f = flags_to (codes "nneg" ∷ []) ws (one_to (codes "nneg") ws f)
cast_fits_to Cast.Sext ws f = flags_to [] ws (none_to ws f)
cast_fits_to Cast.Trunc ws f = flags_to wrap_words ws (wrap_to ws f)

cast_fits_from : (cast : Cast) (ws : List (List ℕ)) → FitsFlags (cast_flags_of cast) ws → CastFlagsFit cast ws
cast_fits_from Cast.Zext ws f = one_from (codes "nneg") ws (flags_from (codes "nneg" ∷ []) ws f)
cast_fits_from Cast.Sext ws f = none_from ws (flags_from [] ws f)
cast_fits_from Cast.Trunc ws f = wrap_from ws (flags_from wrap_words ws f)

-- what the grammar asks, of operations

abbrev pub IsDefining : Operation → Type 0
IsDefining (Operation.Assume _ _) = ⊥
IsDefining (Operation.Call _ _ None _ _) = ⊥
IsDefining _ = ⊤

abbrev pub DefiningFits : Operation → Type 0
DefiningFits op = FitsOperation op × IsDefining op

abbrev pub MarkerFits : Option (List ℕ) → Type 0
MarkerFits m = IfSome m (λ w. IsTrue (is_among w (codes "tail" ∷ codes "notail" ∷ [])))

callee_to : (m : Option (List ℕ)) (words : List (List ℕ)) (w : ℕ) (c : Callee) (op : Operation) → MarkerFits m → AreWords call_words words → IsWidth w →
    CalleeStands words c → CalleeFits m words w c op → DefiningFits op
callee_to m words w (Callee.Known (Intrinsic.Two fun)) op k a h s f = subst DefiningFits f.is ((record { marker = k }, record { of_width = h; first = f.fits.0.0; second = f.fits.0.1 }), tt)
callee_to m words w (Callee.Known (Intrinsic.One fun)) op k a h s f = subst DefiningFits f.is ((record { marker = k }, h, f.fits.0.0, f.fits.0.1), tt)
callee_to m words w (Callee.Other name) op k a h s f =
    subst DefiningFits f.is ((record { marker = k }, record { attributes = a; result = h; callee = s; passed = f.fits.0 }), tt)

plain_to : (m : Option (List ℕ)) (op : Operation) → MarkerFits m → Made last_of (PlainFits m) op → DefiningFits op
plain_to m op k p =
    let n = p.fits.1 in
    subst DefiningFits p.is (subst DefiningFits n.is (callee_to m p.from.0 n.from.0 n.from.1.0 n.from.1.1 k p.fits.0 n.fits.0 n.fits.1.0 n.fits.1.1))

over_to : (m : Option (List ℕ)) (p : ℕ × (Over × (Two × List (List ℕ)))) → MarkerFits m → OverFits p → FitsOperation (over_of m p)
over_to m (width, (over, ((a, b), digits))) marker (wide, (_, ((first, second), _))) =
    (record { marker = marker }, record { of_width = wide; first = first; second = second })

call_to : (m : Option (List ℕ)) (op : Operation) → MarkerFits m → CallFits m op → DefiningFits op
call_to m op k f = ⊎_elim
    (λ o. subst DefiningFits o.is (over_to m o.from k o.fits, tt))
    (λ p. plain_to m op k p) f

binary_to : (bin : Bin) (p : List (List ℕ) × (ℕ × Two)) → BinaryFits bin p → FitsOperation (binary_of bin p)
binary_to bin (words, (width, (a, b))) (known, (wide, (first, second))) =
    (flag_fits_to bin words known, record { of_width = wide; first = first; second = second })

compare_to : (p : Bool × (Pred × (ℕ × Two))) → ComparedFits p → FitsOperation (compare_of p)
compare_to (samesign, (pred, (width, (a, b)))) (_, (_, (wide, (first, second)))) = record { of_width = wide; first = first; second = second }

select_to : (p : Written × (ℕ × Two)) → SelectedFits p → FitsOperation (select_of p)
select_to (c, (width, (a, b))) (condition, (wide, (first, second))) = (condition, record { of_width = wide; first = first; second = second })

convert_to : (cast : Cast) (p : List (List ℕ) × (ℕ × (Written × ℕ))) → CastFits cast p → FitsOperation (convert_of cast p)
convert_to cast (words, (from, (a, to))) (known, (wide, (value, to_wide))) = (cast_fits_to cast words known, wide, value, to_wide)

form_to : (f : Form) (op : Operation) → FormRestFits f op → DefiningFits op
form_to (Form.Binary bin) op m = subst DefiningFits m.is (binary_to bin m.from m.fits, tt)
form_to Form.Compare op m = subst DefiningFits m.is (compare_to m.from m.fits, tt)
form_to Form.Select op m = subst DefiningFits m.is (select_to m.from m.fits, tt)
form_to (Form.Convert cast) op m = subst DefiningFits m.is (convert_to cast m.from m.fits, tt)
form_to Form.Freeze op m = subst DefiningFits m.is (m.fits, tt)
form_to Form.Extract op m = subst DefiningFits m.is ((m.fits.0, m.fits.1.1), tt)
form_to Form.Call op m = call_to None op tt m
form_to Form.Tail op m = call_to (Some (codes "tail")) op (among_first (codes "tail") (codes "notail")) m
form_to Form.Notail op m = call_to (Some (codes "notail")) op (among_second (codes "tail") (codes "notail")) m

abbrev Formed : Operation → Type 0
Formed = Made formed FormedFits

by_form : (f : Form) (op : Operation) → FormRestFits f op → Formed op
by_form f op m = record { from = (f, op); fits = (tt, m); is = refl }

by_marker : (op : Option (List ℕ) → Operation) → ((m : Option (List ℕ)) → CallFits m (op m)) → (m : Option (List ℕ)) → MarkerFits m → Formed (op m)
by_marker op f None k = by_form Form.Call (op None) (f None)
by_marker op f (Some t) k = ⊎_elim
    (λ e. subst (λ z. Formed (op (Some z))) (sym e) (by_form Form.Tail (op (Some (codes "tail"))) (f (Some (codes "tail")))))
    (λ e. subst (λ z. Formed (op (Some z))) (sym e) (by_form Form.Notail (op (Some (codes "notail"))) (f (Some (codes "notail")))))
    (two_words t (codes "tail") (codes "notail") k)

called_fits : (m : Option (List ℕ)) (words : List (List ℕ)) (w : ℕ) (c : Callee) (op : Operation) → AreWords call_words words → IsWidth w → CalleeStands words c →
    CalleeFits m words w c op → CallFits m op
called_fits m words w c op a h s f =
    inr (record { from = (words, op); fits = (a, record { from = (w, (c, op)); fits = (h, (s, f)); is = refl }); is = refl })

known_fits : (m : Option (List ℕ)) (w : ℕ) (x : Intrinsic) (op : Operation) → IsWidth w → CalleeFits m [] w (Callee.Known x) op → CallFits m op
known_fits m w x op h f = called_fits m [] w (Callee.Known x) op (All-nil (λ z. IsTrue (is_among z call_words))) h refl f

form_from : (op : Operation) → DefiningFits op → Formed op
form_from (Operation.Binary bin flags w a b) f = by_form (Form.Binary bin) (Operation.Binary bin flags w a b)
    (record { from = (flags, (w, (a, b))); fits = (flag_fits_from bin flags f.0.0, (f.0.1.of_width, (f.0.1.first, f.0.1.second))); is = refl })
form_from (Operation.Compare samesign pred w a b) f = by_form Form.Compare (Operation.Compare samesign pred w a b)
    (record { from = (samesign, (pred, (w, (a, b)))); fits = (any_sign samesign, (tt, (f.0.of_width, (f.0.first, f.0.second)))); is = refl })
form_from (Operation.Select c w a b) f = by_form Form.Select (Operation.Select c w a b) (record { from = (c, (w, (a, b))); fits = (f.0.0, (f.0.1.of_width, (f.0.1.first, f.0.1.second))); is = refl })
form_from (Operation.Convert cast flags from a to) f = by_form (Form.Convert cast) (Operation.Convert cast flags from a to)
    (record { from = (flags, (from, (a, to))); fits = (cast_fits_from cast flags f.0.0, (f.0.1, (f.0.2, f.0.3))); is = refl })
form_from (Operation.Freeze w a) f = by_form Form.Freeze (Operation.Freeze w a) (record { from = (w, a); fits = f.0; is = refl })
form_from (Operation.Extract w pair index) f = by_form Form.Extract (Operation.Extract w pair index) (record { from = (w, (pair, index)); fits = (f.0.0, (tt, f.0.1)); is = refl })
form_from (Operation.Two words fun w a b) f = by_marker (λ m. Operation.Two (words_of m words.groups) fun w a b)
    (λ m. known_fits m w (Intrinsic.Two fun) (Operation.Two (words_of m words.groups) fun w a b) f.0.1.of_width
    (record { from = ((a, b), words.groups); fits = ((f.0.1.first, f.0.1.second), tt); is = refl })) words.marker f.0.0.marker
form_from (Operation.One words fun w a strict) f = by_marker (λ m. Operation.One (words_of m words.groups) fun w a strict)
    (λ m. known_fits m w (Intrinsic.One fun) (Operation.One (words_of m words.groups) fun w a strict) f.0.1
    (record { from = ((a, strict), words.groups); fits = ((f.0.2, f.0.3), tt); is = refl })) words.marker f.0.0.marker
form_from (Operation.Over words over w a b) f = by_marker (λ m. Operation.Over (words_of m words.groups) over w a b)
    (λ m. inl (record { from = (w, (over, ((a, b), words.groups))); fits = (f.0.1.of_width, (tt, ((f.0.1.first, f.0.1.second), tt))); is = refl })) words.marker f.0.0.marker
form_from (Operation.Assume words c) f = absurd f.1
form_from (Operation.Call words attributes None name xs) f = absurd f.1
form_from (Operation.Call words attributes (Some w) name xs) f = by_marker (λ m. Operation.Call (words_of m words.groups) attributes (Some w) name xs)
    (λ m. called_fits m attributes w (Callee.Other name) (Operation.Call (words_of m words.groups) attributes (Some w) name xs) f.0.1.attributes f.0.1.result f.0.1.callee
    (record { from = (xs, words.groups); fits = (f.0.1.passed, tt); is = refl })) words.marker f.0.0.marker

pub operation_exact : Exact operation spell.operation DefiningFits op_follow
operation_exact = fits_exact operation spell.operation Formed DefiningFits op_follow formed_exact
    (λ op m. subst DefiningFits m.is (form_to m.from.0 m.from.1 m.fits.1)) form_from
