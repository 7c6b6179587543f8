-- A question about a function has an answer, or one reason why it has none.
use Rattle.std.proofs.Common.{◌≡◌, ◌⊎◌, inl, inr, ℕ, Bool, true, false, Option, Some, None, List, refl, sym, ap, subst, ◌∙◌}
use Rattle.std.proofs.lemmas.Option.{same_Some}
use Rattle.vfa_ir.specs.declared.functions.Function.{Function}
use Rattle.vfa_ir.specs.declared.operations.BlockId.{BlockId}
use Rattle.vfa_ir.specs.Defined.{line_count}
use Rattle.vfa_ir.specs.Shown.{shown_value_name}
use Rattle.vfa_ir.specs.Walks.{IsEdge, is_in, successors}
use Rattle.vfa_mean.specs.FreshOperands.{IsDefinedAtPlace}
use Rattle.vfa_xfer.specs.Transfers.{fact_answers}
use Rattle.vfa_xfer.specs.declared.any_fact.AnyFact.{AnyFact}
use Rattle.vfa_lazy.specs.declared.questions.Answer.{Answer}
use Rattle.vfa_lazy.specs.declared.questions.Place.{Place}
use Rattle.vfa_lazy.specs.Questions.{IsAnswer, IsMissed, place_of}
use Rattle.vfa_opt.specs.declared.questions.Question.{Question}
use Rattle.vfa_opt.specs.declared.refusals.Refused.{Refused}
use Rattle.vfa_opt.specs.Asked.{CanAnswer, Concerns, HasNoBlock, HasNoPlace, IsAnswerText, IsPlaceNamed, IsQuestionRefusal, answer_text, block_named, value_named}
use Rattle.vfa_opt.proofs.MissedWalks.{defined_or_missed}
use Rattle.vfa_opt.proofs.Subjects.{apart, one_place, one_value, value_shown}

-- ---- missed or not

not_both : (f : Function) (place : Place) (v : ℕ) → IsDefinedAtPlace f (place_of place) v → IsMissed f place v → ⊥
not_both f (Place.Entry b) v defined m = m.missed (defined m.passed m.walk)
not_both f (Place.Pair p b) v defined m = m.missed (defined m.passed m.walk)

missed_or_not : (f : Function) (place : Place) (v : ℕ) → IsMissed f place v ⊎ (IsMissed f place v → ⊥)
missed_or_not f (Place.Entry b) v = elim (defined_or_missed f b.0 0 v) [
  | inl defined ↦ inr (λ m. m.missed (defined m.passed m.walk))
  | inr m ↦ inl m
]
missed_or_not f (Place.Pair p b) v = elim (defined_or_missed f p.0 (line_count f p.0) v) [
  | inl defined ↦ inr (λ m. m.missed (defined m.passed m.walk))
  | inr m ↦ inl m
]

-- ---- an answer or a reason

abbrev Answered : Function → Question → Type 0
Answered f q = CanAnswer f q ⊎ ((reason : Refused) × IsQuestionRefusal f q reason)

module _ (f : Function) (q : Question) (v : ℕ) (value : value_named f q.value ≡ Some v) where
  at_place : (place : Place) → IsPlaceNamed f q place → Answered f q
  at_place place names = at (missed_or_not f place v)
    where
      concerns : Concerns f q v place
      concerns = record { value = value; names = names }

      at : IsMissed f place v ⊎ (IsMissed f place v → ⊥) → Answered f q
      at (inl m) =
          inr (Refused.NotDefined q.value q.block, record { v = v; place = place; concerns = concerns; missed = m; value_is = refl; block_is = refl })
      at (inr defined) = inl (record { v = v; place = place; concerns = concerns; defined = defined })

  no_place : (name : List ℕ) → HasNoPlace f q name → Answered f q
  no_place name none = inr (Refused.NoBlock name, (record { v = v; value = value }, none))

  from_block : (b p : ℕ) (from : List ℕ) → block_named f q.block ≡ Some b → q.from ≡ Some from → block_named f from ≡ Some p → (edge : Bool) →
      is_in b (successors f p) ≡ edge → Answered f q
  from_block b p from block given first true leads =
      let here : BlockId = record { 0 = p } in let there : BlockId = record { 0 = b } in
      at_place (Place.Pair here there) (record { from = from; given = given; first = first; second = block; edge = leads })
  from_block b p from block given first false leads =
      no_place from (inr (record {
        b = b;
        block = block;
        from = given;
        none = λ p' named edge.
            let same : p' ≡ p = same_Some p' p (sym named ∙ first) in
            let yes : is_in b (successors f p) ≡ true = subst (λ i. IsEdge f i b) same edge in
            absurd (let no = leads in cc);
      }))

  from_named : (b : ℕ) (from : List ℕ) → block_named f q.block ≡ Some b → q.from ≡ Some from → (o : Option ℕ) → block_named f from ≡ o → Answered f q
  from_named b from block given None first =
      no_place from (inr (record { b = b; block = block; from = given; none = λ p named edge. apart (sym first ∙ named) }))
  from_named b from block given (Some p) first = from_block b p from block given first (is_in b (successors f p)) refl

  at_block : (b : ℕ) → block_named f q.block ≡ Some b → (o : Option (List ℕ)) → q.from ≡ o → Answered f q
  at_block b block None given = let here : BlockId = record { 0 = b } in at_place (Place.Entry here) (given, block)
  at_block b block (Some from) given = from_named b from block given (block_named f from) refl

  with_value : (o : Option ℕ) → block_named f q.block ≡ o → Answered f q
  with_value None block = no_place q.block (inl (record { is = refl; none = block }))
  with_value (Some b) block = at_block b block q.from refl

pub answer_or_reason : (f : Function) (q : Question) → Answered f q
answer_or_reason f q = at (value_named f q.value) refl
  where
    at : (o : Option ℕ) → value_named f q.value ≡ o → Answered f q
    at None value = inr (Refused.NoValue q.value, (refl, value))
    at (Some v) value = with_value f q v value (block_named f q.block) refl

-- ---- no reason where there is an answer

no_value_there : {X : Type 0} (f : Function) (q : Question) (name : List ℕ) (v : ℕ) → name ≡ q.value → value_named f name ≡ None →
    value_named f q.value ≡ Some v → X
no_value_there f q name v is none value = apart (sym none ∙ (ap (value_named f) is ∙ value))

no_block_there : {X : Type 0} (f : Function) (q : Question) (name : List ℕ) (b : ℕ) → HasNoBlock f q name → block_named f q.block ≡ Some b → X
no_block_there f q name b h block = apart (sym h.none ∙ (ap (block_named f) h.is ∙ block))

place_there : {X : Type 0} (f : Function) (q : Question) (name : List ℕ) (place : Place) → HasNoPlace f q name → IsPlaceNamed f q place → X
place_there f q name (Place.Entry b) (inl h) n = no_block_there f q name b.0 h n.1
place_there f q name (Place.Entry b) (inr h) n = apart (sym n.0 ∙ h.from)
place_there f q name (Place.Pair p b) (inl h) n = no_block_there f q name b.0 h n.second
place_there f q name (Place.Pair p b) (inr h) n =
    let from : n.from ≡ name = same_Some n.from name (sym n.given ∙ h.from) in
    let to : b.0 ≡ h.b = same_Some b.0 h.b (sym n.second ∙ h.block) in
    absurd (h.none p.0 (ap (block_named f) (sym from) ∙ n.first) (subst (λ i. IsEdge f p.0 i) to n.edge))

pub answer_has_no_reason : (f : Function) (q : Question) (r : Refused) → CanAnswer f q → IsQuestionRefusal f q r → ⊥
answer_has_no_reason f q (Refused.Unclosed start) can is = is
answer_has_no_reason f q (Refused.BadLine line) can is = is
answer_has_no_reason f q (Refused.DuplicateFunction name) can is = is
answer_has_no_reason f q (Refused.Strict name why) can is = is
answer_has_no_reason f q (Refused.NoFunction name) can is = is
answer_has_no_reason f q (Refused.NoValue name) can is = no_value_there f q name can.v is.0 is.1 can.concerns.value
answer_has_no_reason f q (Refused.NoBlock name) can is = place_there f q name can.place is.1 can.concerns.names
answer_has_no_reason f q (Refused.NotDefined value block) can is =
    let v : is.v ≡ can.v = one_value f q is.v can.v is.place can.place is.concerns can.concerns in
    let place : is.place ≡ can.place = one_place f q is.place can.place is.concerns.names can.concerns.names in
    can.defined (subst (λ p. IsMissed f p can.v) place (subst (IsMissed f is.place) v is.missed))
answer_has_no_reason f q Refused.Memory can is = is

-- ---- one reason

one_no_place : (f : Function) (q : Question) (a b : List ℕ) → HasNoPlace f q a → HasNoPlace f q b → a ≡ b
one_no_place f q a b (inl h) (inl k) = h.is ∙ sym k.is
one_no_place f q a b (inl h) (inr k) = no_block_there f q a k.b h k.block
one_no_place f q a b (inr h) (inl k) = no_block_there f q b h.b k h.block
one_no_place f q a b (inr h) (inr k) = same_Some a b (sym h.from ∙ k.from)

pub one_reason : (f : Function) (q : Question) (a b : Refused) → IsQuestionRefusal f q a → IsQuestionRefusal f q b → a ≡ b
one_reason f q (Refused.NoValue m) (Refused.NoValue n) h k = ap Refused.NoValue (h.0 ∙ sym k.0)
one_reason f q (Refused.NoValue m) (Refused.NoBlock n) h k = no_value_there f q m k.0.v h.0 h.1 k.0.value
one_reason f q (Refused.NoValue m) (Refused.NotDefined n b) h k = no_value_there f q m k.v h.0 h.1 k.concerns.value
one_reason f q (Refused.NoBlock m) (Refused.NoValue n) h k = no_value_there f q n h.0.v k.0 k.1 h.0.value
one_reason f q (Refused.NoBlock m) (Refused.NoBlock n) h k = ap Refused.NoBlock (one_no_place f q m n h.1 k.1)
one_reason f q (Refused.NoBlock m) (Refused.NotDefined n b) h k = place_there f q m k.place h.1 k.concerns.names
one_reason f q (Refused.NotDefined m a) (Refused.NoValue n) h k = no_value_there f q n h.v k.0 k.1 h.concerns.value
one_reason f q (Refused.NotDefined m a) (Refused.NoBlock n) h k = place_there f q n h.place k.1 h.concerns.names
one_reason f q (Refused.NotDefined m a) (Refused.NotDefined n b) h k =
    ap (λ x. Refused.NotDefined x a) (h.value_is ∙ sym k.value_is) ∙ ap (Refused.NotDefined n) (h.block_is ∙ sym k.block_is)
one_reason f q (Refused.NoValue m) (Refused.Unclosed n) h k = absurd k
one_reason f q (Refused.NoValue m) (Refused.BadLine n) h k = absurd k
one_reason f q (Refused.NoValue m) (Refused.DuplicateFunction n) h k = absurd k
one_reason f q (Refused.NoValue m) (Refused.Strict n why) h k = absurd k
one_reason f q (Refused.NoValue m) (Refused.NoFunction n) h k = absurd k
one_reason f q (Refused.NoValue m) Refused.Memory h k = absurd k
one_reason f q (Refused.NoBlock m) (Refused.Unclosed n) h k = absurd k
one_reason f q (Refused.NoBlock m) (Refused.BadLine n) h k = absurd k
one_reason f q (Refused.NoBlock m) (Refused.DuplicateFunction n) h k = absurd k
one_reason f q (Refused.NoBlock m) (Refused.Strict n why) h k = absurd k
one_reason f q (Refused.NoBlock m) (Refused.NoFunction n) h k = absurd k
one_reason f q (Refused.NoBlock m) Refused.Memory h k = absurd k
one_reason f q (Refused.NotDefined m a) (Refused.Unclosed n) h k = absurd k
one_reason f q (Refused.NotDefined m a) (Refused.BadLine n) h k = absurd k
one_reason f q (Refused.NotDefined m a) (Refused.DuplicateFunction n) h k = absurd k
one_reason f q (Refused.NotDefined m a) (Refused.Strict n why) h k = absurd k
one_reason f q (Refused.NotDefined m a) (Refused.NoFunction n) h k = absurd k
one_reason f q (Refused.NotDefined m a) Refused.Memory h k = absurd k
one_reason f q (Refused.Unclosed n) b h k = absurd h
one_reason f q (Refused.BadLine n) b h k = absurd h
one_reason f q (Refused.DuplicateFunction n) b h k = absurd h
one_reason f q (Refused.Strict n why) b h k = absurd h
one_reason f q (Refused.NoFunction n) b h k = absurd h
one_reason f q Refused.Memory b h k = absurd h

-- ---- one text

never_missed : (f : Function) (place : Place) (v : ℕ) (a : Answer AnyFact) → IsAnswer fact_answers f place v a → (a ≡ Answer.NotDefined → ⊥) →
    IsMissed f place v → ⊥
never_missed f place v Answer.NotDefined is told m = told refl
never_missed f place v Answer.NeverReached is told m = not_both f place v is.0 m
never_missed f place v (Answer.Fact d) is told m = not_both f place v is.0 m

pub text_answers : (f : Function) (q : Question) (text : List ℕ) → IsAnswerText f q text → CanAnswer f q
text_answers f q text t =
    record { v = t.v; place = t.place; concerns = t.concerns; defined = never_missed f t.place t.v t.answer t.is_answer t.told }

abbrev pub OneAnswer : Type 0
OneAnswer = (f : Function) (place : Place) (v : ℕ) (a b : Answer AnyFact) → IsAnswer fact_answers f place v a → IsAnswer fact_answers f place v b → a ≡ b

-- the same answer at the same value and place
pub same_answer : OneAnswer → (f : Function) (q : Question) (v w : ℕ) (p p' : Place) (a b : Answer AnyFact) → Concerns f q v p → Concerns f q w p' →
    IsAnswer fact_answers f p v a → IsAnswer fact_answers f p' w b → a ≡ b
same_answer one f q v w p p' a b c d m n =
    one f p' w a b (subst (λ x. IsAnswer fact_answers f x w a) (one_place f q p p' c.names d.names)
    (subst (λ x. IsAnswer fact_answers f p x a) (one_value f q v w p p' c d) m)) n

pub one_answer_text : OneAnswer → (f : Function) (q : Question) (s t : List ℕ) → IsAnswerText f q s → IsAnswerText f q t → s ≡ t
one_answer_text one f q s t m n =
    let by_name : (v : ℕ) (a : Answer AnyFact) → value_named f q.value ≡ Some v → answer_text (shown_value_name f v) a ≡ answer_text q.value a =
    λ v a e. ap (λ name. answer_text name a) (sym (value_shown f q.value v e)) in
    m.is ∙ (by_name m.v m.answer m.concerns.value
    ∙ (ap (answer_text q.value) (same_answer one f q m.v n.v m.place n.place m.answer n.answer m.concerns n.concerns m.is_answer n.is_answer)
    ∙ (sym (by_name n.v n.answer n.concerns.value) ∙ sym n.is)))
