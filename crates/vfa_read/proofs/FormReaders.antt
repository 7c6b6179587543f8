-- Reading an operation or a terminator, after its word, is exact.
use Rattle.std.proofs.Common.{◌≡◌, ℕ, zero, suc, ◌≤◌, Bool, true, false, not, ◌==◌, cond, List, [], ◌∷◌, ◌++◌, drop, Option, Some, None, ◌⊎◌, inl, inr, ⊎_elim, decimal, bytes_eq, codes, refl, sym, ap, ◌∙◌, subst, arith, eqb-true}
use Rattle.std.proofs.lemmas.Fmt.{decimal_digit}
use Rattle.std.specs.Str.{byte}
use Rattle.vfa_ir.specs.declared.operations.Pred.{Pred}
use Rattle.vfa_ir.specs.declared.syntax.Operation.{Operation}
use Rattle.vfa_ir.specs.declared.syntax.TerminatorKind.{TerminatorKind}
use Rattle.vfa_ir.specs.declared.syntax.Written.{Written}
use Rattle.vfa_ir.specs.Lexemes.{Lexeme, local, number, word, mark}
use Rattle.vfa_ir.specs.Grammar.{IsWidth, FitsValue}
use Rattle.vfa_ir.specs.Spelling as spell
use Rattle.vfa_ir.specs.Words.{pred_word, preds}
use Rattle.vfa_read.specs.Productions.{target, operands, typed_operands, same_sign, compare, compare_of, select, select_of, freeze, freeze_of, pair_type, extract, extract_of, returned, return_of, condition, condition_of, branch, is_word, is_group}
use Rattle.vfa_read.specs.Readers.{Reader, one, after, made, skip, ended, next_passes}
use Rattle.vfa_read.specs.Tables.{the_mark, the_word, the_type, local_name, type_of, value_of, keyword_in, part_index}
use Rattle.vfa_read.proofs.Exact.{Exact, Made, anything, may_anything, one_exact, after_exact, made_exact, choose_exact, optional_exact, skip_exact, ended_exact}
use Rattle.vfa_read.proofs.LeafReaders.{some_is, first_or, mark_exact, word_exact, local_exact, type_exact, type_is, value_exact, pred_exact, same_number}
use Rattle.vfa_read.proofs.Many.{follow_many}
use Rattle.vfa_read.proofs.Words.{tested, is_width, same_text}

abbrev pub one_wide : IsWidth 1
one_wide = record { least = omega arith; most = omega arith }

-- a type that is known

the_type_is : (w : ℕ) (l : Lexeme) (x : Unit {0}) → the_type w l ≡ Some x → l ≡ spell.type w
the_type_is w l x e = go (type_of l) refl e
  where
    go : (o : Option ℕ) → type_of l ≡ o → elim o [ None ↦ None | Some v ↦ cond (v == w) (Some tt) None ] ≡ Some x → l ≡ spell.type w
    go None t e = cc
    go (Some v) t e = type_is l v t ∙ ap spell.type (eqb-true v w (tested (v == w) tt x e).0)

tested_type : (w : ℕ) (o : Option ℕ) → o ≡ Some w → elim o [ None ↦ None | Some v ↦ cond (v == w) (Some (tt {0})) None ] ≡ Some (tt {0})
tested_type w None e = cc
tested_type w (Some v) e = let s = some_is v w e in let b : (v == w) ≡ true = ap (λ z. z == w) s ∙ same_number w in rw b refl

the_type_again : (w : ℕ) (x : Unit {0}) → IsWidth w → the_type w (spell.type w) ≡ Some x
the_type_again w x h = tested_type w (type_of (spell.type w)) (is_width w h)

pub the_type_exact : (w : ℕ) → IsWidth w → Exact (one (the_type w)) (λ _. spell.type w ∷ []) (λ _. Unit {0}) anything
the_type_exact w h = one_exact (the_type w) (λ _. spell.type w) (λ _. Unit {0}) (the_type_is w) (λ l x e. tt) (λ x f. the_type_again w x h) tt tt

-- the part of a pair

record Part (t : List ℕ) (i : ℕ) : Type 0 where
  form : t ≡ decimal i
  low : i ≤ 1

part_number : (t : List ℕ) (i : ℕ) → part_index (number t) ≡ Some i → Part t i
part_number t i e = ⊎_elim
    (λ p. subst (Part t) p.1 (record { form = same_text t (codes "0") p.0 ∙ sym (decimal_digit 0 (omega arith)); low = omega arith }))
    (λ p. let q = tested (bytes_eq t (codes "1")) 1 i p.1 in
    subst (Part t) q.1 (record { form = same_text t (codes "1") q.0 ∙ sym (decimal_digit 1 (omega arith)); low = omega arith }))
    (first_or (bytes_eq t (codes "0")) 0 i (cond (bytes_eq t (codes "1")) (Some 1) None) e)

part_is : (l : Lexeme) (i : ℕ) → part_index l ≡ Some i → l ≡ number (decimal i)
part_is (number t) i e = ap number (part_number t i e).form
part_is _ i e = cc

part_fits : (l : Lexeme) (i : ℕ) → part_index l ≡ Some i → i ≤ 1
part_fits (number t) i e = (part_number t i e).low
part_fits _ i e = cc

part_again : (i : ℕ) → i ≤ 1 → part_index (number (decimal i)) ≡ Some i
part_again zero h = ap (λ z. part_index (number z)) (decimal_digit 0 (omega arith))
part_again (suc zero) h = ap (λ z. part_index (number z)) (decimal_digit 1 (omega arith))
part_again (suc (suc n)) h = absurd (omega arith)

pub part_exact : Exact (one part_index) (λ i. number (decimal i) ∷ []) (λ i. i ≤ 1) anything
part_exact = one_exact part_index (λ i. number (decimal i)) (λ i. i ≤ 1) part_is part_fits part_again 0 (omega arith)

-- `label %name`

pub target_exact : Exact target spell.target (λ _. Unit {0}) anything
unfolding target
target_exact = skip_exact (the_word (codes "label")) (word (codes "label")) (one local_name) (λ x. local x ∷ []) (λ _. Unit {0}) anything (word_exact (codes "label")) local_exact

-- two operands

abbrev pub Two : Type 0
Two = Written × Written

abbrev pub FitsTwo : ℕ → Two → Type 0
FitsTwo w p = FitsValue w p.0 × FitsValue w p.1

pub operands_exact : (w : ℕ) → IsWidth w → Exact (operands w) (λ p. spell.value p.0 ++ (mark (byte ",") ∷ spell.value p.1)) (FitsTwo w) anything
operands_exact w h = after_exact (one (value_of w)) (λ _. skip (the_mark (byte ",")) (one (value_of w))) spell.value (FitsValue w) anything
    (λ _ b. mark (byte ",") ∷ spell.value b) (λ _ b. FitsValue w b) (λ _ b. anything b) (value_exact w h)
    (λ _ _. skip_exact (the_mark (byte ",")) (mark (byte ",")) (one (value_of w)) spell.value (FitsValue w) anything (mark_exact (byte ",")) (value_exact w h))
    (λ a b rest f g m. may_anything a ((mark (byte ",") ∷ spell.value b) ++ rest))

pub typed_operands_exact : (w : ℕ) → IsWidth w → Exact (typed_operands w) (λ p. spell.value p.0 ++ (mark (byte ",") ∷ spell.typed w p.1)) (FitsTwo w) anything
typed_operands_exact w h = after_exact (one (value_of w)) (λ _. skip (the_mark (byte ",")) (skip (the_type w) (one (value_of w)))) spell.value (FitsValue w) anything
    (λ _ b. mark (byte ",") ∷ spell.typed w b) (λ _ b. FitsValue w b) (λ _ b. anything b) (value_exact w h)
    (λ _ _. skip_exact (the_mark (byte ",")) (mark (byte ",")) (skip (the_type w) (one (value_of w))) (spell.typed w) (FitsValue w) anything (mark_exact (byte ","))
    (skip_exact (the_type w) (spell.type w) (one (value_of w)) spell.value (FitsValue w) anything (the_type_exact w h) (value_exact w h)))
    (λ a b rest f g m. may_anything a ((mark (byte ",") ∷ spell.typed w b) ++ rest))

-- a type, and what it stands before

module _ {B : Type 0} (k : ℕ → Reader B) (sb : ℕ → B → List Lexeme) (FB : ℕ → B → Type 0) (ek : (w : ℕ) → IsWidth w → Exact (k w) (sb w) (FB w) anything) where
  pub typed_exact : Exact (after (one type_of) k) (λ p. spell.type p.0 ∷ sb p.0 p.1) (λ p. IsWidth p.0 × FB p.0 p.1) anything
  typed_exact = after_exact (one type_of) k (λ w. spell.type w ∷ []) IsWidth anything sb FB (λ _ b. anything b) type_exact ek (λ a b rest f g m. may_anything a (sb a b ++ rest))

-- each operation

-- no attribute group may follow the groups of a call
abbrev pub group_follow : List (List ℕ) → Lexeme → Bool
group_follow = follow_many is_group anything

abbrev pub op_follow : Operation → Lexeme → Bool
op_follow (Operation.Two words _ _ _ _) = group_follow words.groups
op_follow (Operation.One words _ _ _ _) = group_follow words.groups
op_follow (Operation.Over words _ _ _ _) = group_follow words.groups
op_follow (Operation.Assume words _) = group_follow words.groups
op_follow (Operation.Call words _ _ _ _) = group_follow words.groups
op_follow _ = λ _. true

abbrev pub after_word : Operation → List Lexeme
after_word op = drop 1 (spell.operation op)

-- `samesign`, which may lack

abbrev pub SignFits : Bool → Type 0
SignFits b = Made {A = Unit {0}} (λ _. true) (λ _. Unit {0}) b ⊎ (b ≡ false)

abbrev sign_follow : Bool → Lexeme → Bool
sign_follow true l = true
sign_follow false l = not (is_word (codes "samesign") l)

abbrev written_sign : Reader Bool
written_sign = made (λ _. true) (one (the_word (codes "samesign")))

written_sign_exact : Exact written_sign spell.same_sign (Made {A = Unit {0}} (λ _. true) (λ _. Unit {0})) sign_follow
written_sign_exact = made_exact (λ _. true) (one (the_word (codes "samesign"))) (λ _. word (codes "samesign") ∷ []) (λ _. Unit {0}) anything spell.same_sign sign_follow
    (word_exact (codes "samesign")) (λ a f. refl) (λ a f. refl)

same_sign_exact : Exact same_sign spell.same_sign SignFits sign_follow
same_sign_exact = optional_exact (is_word (codes "samesign")) written_sign false spell.same_sign (Made {A = Unit {0}} (λ _. true) (λ _. Unit {0})) sign_follow
    written_sign_exact refl refl
    (λ b rest m. ap (λ z. next_passes (is_word (codes "samesign")) (spell.same_sign z ++ rest)) (sym m.is))

pub any_sign : (b : Bool) → SignFits b
any_sign true = inl (record { from = tt; fits = tt; is = refl })
any_sign false = inr refl

pred_no_sign : (p : Pred) → bytes_eq (pred_word p) (codes "samesign") ≡ false
pred_no_sign Pred.Eq = refl
pred_no_sign _ = refl

pred_follows : (b : Bool) (p : Pred) → sign_follow b (word (pred_word p)) ≡ true
pred_follows true p = refl
pred_follows false p = ap not (pred_no_sign p)

abbrev Compared : Type 0
Compared = Pred × (ℕ × Two)

abbrev compared_spelling : Compared → List Lexeme
compared_spelling (pred, (width, (a, b))) = word (pred_word pred) ∷ spell.type width ∷ (spell.value a ++ (mark (byte ",") ∷ spell.value b))

abbrev pub PredFits : Compared → Type 0
PredFits (_, (width, two)) = Unit {0} × (IsWidth width × FitsTwo width two)

abbrev compared : Reader Compared
compared = after (one (keyword_in pred_word preds)) (λ _. after (one type_of) operands)

compared_exact : Exact compared compared_spelling PredFits anything
compared_exact = after_exact (one (keyword_in pred_word preds)) (λ _. after (one type_of) operands) (λ p. word (pred_word p) ∷ []) (λ _. Unit {0}) anything
    (λ _ q. spell.type q.0 ∷ (spell.value q.1.0 ++ (mark (byte ",") ∷ spell.value q.1.1))) (λ _ q. IsWidth q.0 × FitsTwo q.0 q.1) (λ _ q. anything q)
    pred_exact (λ _ _. typed_exact operands (λ w p. spell.value p.0 ++ (mark (byte ",") ∷ spell.value p.1)) FitsTwo operands_exact)
    (λ a b rest f g m. may_anything a ((spell.type b.0 ∷ (spell.value b.1.0 ++ (mark (byte ",") ∷ spell.value b.1.1))) ++ rest))

abbrev pub ComparedFits : Bool × Compared → Type 0
ComparedFits p = SignFits p.0 × PredFits p.1

pub compare_exact : Exact compare after_word (Made compare_of ComparedFits) op_follow
unfolding compare
compare_exact = made_exact compare_of (after same_sign (λ _. compared)) (λ p. spell.same_sign p.0 ++ compared_spelling p.1) ComparedFits anything after_word op_follow
    (after_exact same_sign (λ _. compared) spell.same_sign SignFits sign_follow (λ _ q. compared_spelling q) (λ _ q. PredFits q) (λ _ q. anything q)
    same_sign_exact (λ _ _. compared_exact) (λ a b rest f g m. pred_follows a b.0))
    (λ p f. refl) (λ p f. refl)

abbrev pub SelectedFits : Written × (ℕ × Two) → Type 0
SelectedFits (c, (width, two)) = FitsValue 1 c × (IsWidth width × FitsTwo width two)

abbrev selected : Reader (Written × (ℕ × Two))
selected = after (one (value_of 1)) (λ _. skip (the_mark (byte ",")) (after (one type_of) typed_operands))

abbrev selected_spelling : Written × (ℕ × Two) → List Lexeme
selected_spelling (c, (width, (a, b))) = spell.value c ++ (mark (byte ",") ∷ spell.type width ∷ (spell.value a ++ (mark (byte ",") ∷ spell.typed width b)))

selected_exact : Exact selected selected_spelling SelectedFits anything
selected_exact = after_exact (one (value_of 1)) (λ _. skip (the_mark (byte ",")) (after (one type_of) typed_operands)) spell.value (FitsValue 1) anything
    (λ _ q. mark (byte ",") ∷ spell.type q.0 ∷ (spell.value q.1.0 ++ (mark (byte ",") ∷ spell.typed q.0 q.1.1))) (λ _ q. IsWidth q.0 × FitsTwo q.0 q.1) (λ _ q. anything q)
    (value_exact 1 one_wide)
    (λ _ _. skip_exact (the_mark (byte ",")) (mark (byte ",")) (after (one type_of) typed_operands) (λ q. spell.type q.0 ∷ (spell.value q.1.0 ++ (mark (byte ",") ∷ spell.typed q.0 q.1.1))) (λ q. IsWidth q.0 × FitsTwo q.0 q.1) anything
    (mark_exact (byte ",")) (typed_exact typed_operands (λ w p. spell.value p.0 ++ (mark (byte ",") ∷ spell.typed w p.1)) FitsTwo typed_operands_exact))
    (λ a b rest f g m. may_anything a ((mark (byte ",") ∷ spell.type b.0 ∷ (spell.value b.1.0 ++ (mark (byte ",") ∷ spell.typed b.0 b.1.1))) ++ rest))

pub select_exact : Exact select after_word (Made select_of SelectedFits) op_follow
unfolding select
select_exact = made_exact select_of (skip (the_type 1) selected) (λ p. spell.type 1 ∷ selected_spelling p) SelectedFits anything after_word op_follow
    (skip_exact (the_type 1) (spell.type 1) selected selected_spelling SelectedFits anything (the_type_exact 1 one_wide) selected_exact)
    (λ p f. refl) (λ p f. refl)

abbrev pub TypedFits : ℕ × Written → Type 0
TypedFits p = IsWidth p.0 × FitsValue p.0 p.1

pub freeze_exact : Exact freeze after_word (Made freeze_of TypedFits) op_follow
unfolding freeze
freeze_exact = made_exact freeze_of (after (one type_of) (λ width. one (value_of width))) (λ p. spell.type p.0 ∷ spell.value p.1) TypedFits anything after_word op_follow
    (typed_exact (λ width. one (value_of width)) (λ _. spell.value) FitsValue value_exact) (λ p f. refl) (λ p f. refl)

pub pair_type_exact : Exact pair_type spell.pair_type IsWidth anything
unfolding pair_type
pair_type_exact = skip_exact (the_mark (byte "{")) (mark (byte "{")) (ended (ended (ended (one type_of) (the_mark (byte ","))) (the_type 1)) (the_mark (byte "}")))
    (λ w. spell.type w ∷ mark (byte ",") ∷ spell.type 1 ∷ mark (byte "}") ∷ []) IsWidth anything (mark_exact (byte "{"))
    (ended_exact (ended (ended (one type_of) (the_mark (byte ","))) (the_type 1)) (the_mark (byte "}")) (mark (byte "}")) (λ w. spell.type w ∷ mark (byte ",") ∷ spell.type 1 ∷ []) IsWidth anything
    (ended_exact (ended (one type_of) (the_mark (byte ","))) (the_type 1) (spell.type 1) (λ w. spell.type w ∷ mark (byte ",") ∷ []) IsWidth anything
    (ended_exact (one type_of) (the_mark (byte ",")) (mark (byte ",")) (λ w. spell.type w ∷ []) IsWidth anything type_exact (mark_exact (byte ",")) (λ x f. refl))
    (the_type_exact 1 one_wide) (λ x f. refl))
    (mark_exact (byte "}")) (λ x f. refl))

abbrev pub ExtractedFits : ℕ × (List ℕ × ℕ) → Type 0
ExtractedFits (width, (_, index)) = IsWidth width × (Unit {0} × (index ≤ 1))

pub extract_exact : Exact extract after_word (Made extract_of ExtractedFits) op_follow
unfolding extract
extract_exact = made_exact extract_of (after pair_type (λ _. after (one local_name) (λ _. skip (the_mark (byte ",")) (one part_index))))
    (λ p. spell.pair_type p.0 ++ (local p.1.0 ∷ mark (byte ",") ∷ number (decimal p.1.1) ∷ [])) ExtractedFits anything after_word op_follow
    (after_exact pair_type (λ _. after (one local_name) (λ _. skip (the_mark (byte ",")) (one part_index))) spell.pair_type IsWidth anything
    (λ _ q. local q.0 ∷ mark (byte ",") ∷ number (decimal q.1) ∷ []) (λ _ q. Unit {0} × (q.1 ≤ 1)) (λ _ q. anything q) pair_type_exact
    (λ _ _. after_exact (one local_name) (λ _. skip (the_mark (byte ",")) (one part_index)) (λ x. local x ∷ []) (λ _. Unit {0}) anything
    (λ _ i. mark (byte ",") ∷ number (decimal i) ∷ []) (λ _ i. i ≤ 1) (λ _ i. anything i) local_exact
    (λ _ _. skip_exact (the_mark (byte ",")) (mark (byte ",")) (one part_index) (λ i. number (decimal i) ∷ []) (λ i. i ≤ 1) anything (mark_exact (byte ",")) part_exact)
    (λ a b rest f g m. refl))
    (λ a b rest f g m. refl))
    (λ p f. refl) (λ p f. refl)

-- each terminator

abbrev pub after_terminator_word : TerminatorKind → List Lexeme
after_terminator_word t = drop 1 (spell.terminator_kind t)

pub returned_exact : Exact returned after_terminator_word (Made return_of TypedFits) anything
unfolding returned
returned_exact = made_exact return_of (after (one type_of) (λ width. one (value_of width))) (λ p. spell.type p.0 ∷ spell.value p.1) TypedFits anything after_terminator_word anything
    (typed_exact (λ width. one (value_of width)) (λ _. spell.value) FitsValue value_exact) (λ p f. refl) (λ p f. refl)

abbrev pub ConditionFits : Written × (List ℕ × List ℕ) → Type 0
ConditionFits p = FitsValue 1 p.0 × (Unit {0} × Unit {0})

abbrev conditional : Reader (Written × (List ℕ × List ℕ))
conditional = after (one (value_of 1)) (λ _. skip (the_mark (byte ",")) (after target (λ _. skip (the_mark (byte ",")) target)))

abbrev conditional_spelling : Written × (List ℕ × List ℕ) → List Lexeme
conditional_spelling p = spell.value p.0 ++ (mark (byte ",") ∷ (spell.target p.1.0 ++ (mark (byte ",") ∷ spell.target p.1.1)))

conditional_exact : Exact conditional conditional_spelling ConditionFits anything
conditional_exact = after_exact (one (value_of 1)) (λ _. skip (the_mark (byte ",")) (after target (λ _. skip (the_mark (byte ",")) target))) spell.value (FitsValue 1) anything
    (λ _ q. mark (byte ",") ∷ (spell.target q.0 ++ (mark (byte ",") ∷ spell.target q.1))) (λ _ _. Unit {0} × Unit {0}) (λ _ q. anything q) (value_exact 1 one_wide)
    (λ _ _. skip_exact (the_mark (byte ",")) (mark (byte ",")) (after target (λ _. skip (the_mark (byte ",")) target)) (λ q. spell.target q.0 ++ (mark (byte ",") ∷ spell.target q.1)) (λ _. Unit {0} × Unit {0}) anything (mark_exact (byte ","))
    (after_exact target (λ _. skip (the_mark (byte ",")) target) spell.target (λ _. Unit {0}) anything (λ _ x. mark (byte ",") ∷ spell.target x) (λ _ _. Unit {0}) (λ _ x. anything x) target_exact
    (λ _ _. skip_exact (the_mark (byte ",")) (mark (byte ",")) target spell.target (λ _. Unit {0}) anything (mark_exact (byte ",")) target_exact)
    (λ a b rest f g m. refl)))
    (λ a b rest f g m. may_anything a ((mark (byte ",") ∷ (spell.target b.0 ++ (mark (byte ",") ∷ spell.target b.1))) ++ rest))

pub condition_exact : Exact condition after_terminator_word (Made condition_of ConditionFits) anything
unfolding condition
condition_exact = made_exact condition_of (skip (the_type 1) conditional) (λ p. spell.type 1 ∷ conditional_spelling p) ConditionFits anything after_terminator_word anything
    (skip_exact (the_type 1) (spell.type 1) conditional conditional_spelling ConditionFits anything (the_type_exact 1 one_wide) conditional_exact)
    (λ p f. refl) (λ p f. refl)

always_exact : Exact (made TerminatorKind.Always target) after_terminator_word (Made TerminatorKind.Always (λ _. Unit {0})) anything
always_exact = made_exact TerminatorKind.Always target spell.target (λ _. Unit {0}) anything after_terminator_word anything target_exact (λ p f. refl) (λ p f. refl)

pub branch_exact : Exact branch after_terminator_word (λ t. Made TerminatorKind.Always (λ _. Unit {0}) t ⊎ Made condition_of ConditionFits t) anything
unfolding branch
branch_exact = choose_exact (is_word (codes "label")) (made TerminatorKind.Always target) condition after_terminator_word (Made TerminatorKind.Always (λ _. Unit {0})) (Made condition_of ConditionFits) anything
    always_exact condition_exact
    (λ t rest m ok. ap (λ z. next_passes (is_word (codes "label")) (after_terminator_word z ++ rest)) (sym m.is))
    (λ t rest m ok. ap (λ z. next_passes (is_word (codes "label")) (after_terminator_word z ++ rest)) (sym m.is))
