-- At most one refusal holds of a function, and none of one that is well formed.
use Rattle.std.proofs.Common.{◌≡◌, ◌∙◌, ◌⊎◌, inl, inr, ℕ, zero, suc, ◌<◌, ◌≤◌, List, [], ◌∷◌, map, take, get_or, All, IsSomeAnd, Option, Some, None, refl, sym, ap, ap₂, subst, arith}
use Rattle.std.proofs.lemmas.Bool.{cases_lt}
use Rattle.std.proofs.lemmas.List.Elements.{All-append, All-cons, All-head, All-map, All-nil, All-tail}
use Rattle.std.proofs.lemmas.Option.{same_Some}
use Rattle.std.specs.List.{slice_get}
use Rattle.vfa_ir.specs.declared.functions.Block.{Block}
use Rattle.vfa_ir.specs.declared.functions.Function.{Function}
use Rattle.vfa_ir.specs.declared.functions.Lines.{Lines}
use Rattle.vfa_ir.specs.declared.reasons.Outside.{Outside}
use Rattle.vfa_ir.specs.Defined.{Defined, NameUse, UseIsDefined, uses_of}
use Rattle.vfa_ir.specs.PhisFit.{PhisFit}
use Rattle.vfa_ir.specs.Shown.{shown_block_name, shown_value_name}
use Rattle.vfa_ir.specs.Typed.{Typed, TypedBlock}
use Rattle.vfa_check.specs.Checked.{IsWellFormed}
use Rattle.vfa_check.specs.First.{FailsFirst}
use Rattle.vfa_check.specs.Items.{IllTypedAt, IsIllTypedOn, TypedItem, instruction, items_of, phi, terminator}
use Rattle.vfa_check.specs.Misfit.{FirstMisfit}
use Rattle.vfa_check.specs.Refusals.{IsRefusal, MisfitAt, UndefinedAt}
use Rattle.vfa_check.proofs.Firsts.{fails_behind}

-- the first failure is one

not_before : {A : Type 0} (P : A → Type 0) (xs : List A) (m n : ℕ) → m < n → FailsFirst P xs n → IsSomeAnd (slice_get xs m) (λ x. P x → ⊥) → ⊥
not_before P [] m n h r fails = fails
not_before P (x ∷ xs) m zero h r fails = absurd (omega arith)
not_before P (x ∷ xs) zero (suc n) h r fails = fails (All-head P x (take n xs) r.before)
not_before P (x ∷ xs) (suc m) (suc n) h r fails = not_before P xs m n (omega arith) (fails_behind P x xs n r) fails

one_place : {A : Type 0} (P : A → Type 0) (xs : List A) (m n : ℕ) → FailsFirst P xs m → FailsFirst P xs n → m ≡ n
one_place P xs m n a b = at (cases_lt m n) (cases_lt n m)
  where
    at : (m < n) ⊎ (n ≤ m) → (n < m) ⊎ (m ≤ n) → m ≡ n
    at (inl l) _ = absurd (not_before P xs m n l b a.here)
    at (inr l) (inl k) = absurd (not_before P xs n m k a b.here)
    at (inr l) (inr k) = omega arith

not_of_all : {A : Type 0} (P : A → Type 0) (xs : List A) (n : ℕ) → All P xs → IsSomeAnd (slice_get xs n) (λ x. P x → ⊥) → ⊥
not_of_all P [] n all fails = fails
not_of_all P (x ∷ xs) zero all fails = fails (All-head P x xs all)
not_of_all P (x ∷ xs) (suc n) all fails = not_of_all P xs n (All-tail P x xs all) fails

-- types

typed_items : (f : Function) (b : Block) → TypedBlock f b → All (TypedItem f) (items_of b)
typed_items f b typed =
    All-append (TypedItem f) (map phi b.phis) _ (All-map (TypedItem f) phi b.phis typed.phis)
    (All-append (TypedItem f) (map instruction b.insts) (terminator b.term ∷ []) (All-map (TypedItem f) instruction b.insts typed.instructions)
    (All-cons (TypedItem f) (terminator b.term) [] typed.terminator (All-nil (TypedItem f))))

ill_block : (f : Function) (lines : List ℕ) (line : ℕ) (b : Block) → IsIllTypedOn f lines line b → TypedBlock f b → ⊥
ill_block f lines line b ill typed = not_of_all (TypedItem f) (items_of b) ill.place (typed_items f b typed) ill.first.here

some_weaker : {A : Type 0} (o : Option A) (P Q : A → Type 0) → ((x : A) → P x → Q x) → IsSomeAnd o P → IsSomeAnd o Q
some_weaker None P Q h p = p
some_weaker (Some x) P Q h p = h x p

first_ill_block : (f : Function) (lines : Lines) (line : ℕ) → (ill : IllTypedAt f lines line) → FailsFirst (TypedBlock f) f.blocks ill.block
first_ill_block f lines line ill = record {
  before = ill.before;
  here = some_weaker (slice_get f.blocks ill.block) (IsIllTypedOn f (get_or lines.of ill.block []) line) (λ b. TypedBlock f b → ⊥)
      (ill_block f (get_or lines.of ill.block []) line) ill.here;
}

ill_is_not_typed : (f : Function) (lines : Lines) (line : ℕ) → IllTypedAt f lines line → Typed f → ⊥
ill_is_not_typed f lines line ill typed = not_of_all (TypedBlock f) f.blocks ill.block typed (first_ill_block f lines line ill).here

one_item_line : (f : Function) (lines : List ℕ) (line other : ℕ) (b : Block) → IsIllTypedOn f lines line b → IsIllTypedOn f lines other b → line ≡ other
one_item_line f lines line other b p q =
    let place : p.place ≡ q.place = one_place (TypedItem f) (items_of b) p.place q.place p.first q.first in
    same_Some line other (sym p.stands ∙ ap (slice_get lines) place ∙ q.stands)

one_line_at : (f : Function) (lines : List ℕ) (line other : ℕ) (o : Option Block) → IsSomeAnd o (IsIllTypedOn f lines line) →
    IsSomeAnd o (IsIllTypedOn f lines other) → line ≡ other
one_line_at f lines line other None p q = absurd p
one_line_at f lines line other (Some b) p q = one_item_line f lines line other b p q

one_line : (f : Function) (lines : Lines) (line other : ℕ) → IllTypedAt f lines line → IllTypedAt f lines other → line ≡ other
one_line f lines line other a b =
    let same : a.block ≡ b.block = one_place (TypedBlock f) f.blocks a.block b.block (first_ill_block f lines line a) (first_ill_block f lines other b) in
    let here : IsSomeAnd (slice_get f.blocks b.block) (IsIllTypedOn f (get_or lines.of b.block []) line) =
    subst (λ n. IsSomeAnd (slice_get f.blocks n) (IsIllTypedOn f (get_or lines.of n []) line)) same a.here in
    one_line_at f (get_or lines.of b.block []) line other (slice_get f.blocks b.block) here b.here

-- phis

one_block : (f : Function) (b c : ℕ) → FirstMisfit f b → FirstMisfit f c → b ≡ c
one_block f b c p q = at (cases_lt b c) (cases_lt c b)
  where
    at : (b < c) ⊎ (c ≤ b) → (c < b) ⊎ (b ≤ c) → b ≡ c
    at (inl l) _ = absurd (p.here (q.before b l))
    at (inr l) (inl k) = absurd (q.here (p.before c k))
    at (inr l) (inr k) = omega arith

misfit_is_unfit : (f : Function) (name : List ℕ) → MisfitAt f name → PhisFit f → ⊥
misfit_is_unfit f name m fits = m.first.here (fits m.block m.first.within)

one_misfit : (f : Function) (name other : List ℕ) → MisfitAt f name → MisfitAt f other → name ≡ other
one_misfit f name other a b = a.shown ∙ ap (shown_block_name f) (one_block f a.block b.block a.first b.first) ∙ sym b.shown

-- names

first_undefined : (f : Function) (name block : List ℕ) → (u : UndefinedAt f name block) → FailsFirst (UseIsDefined f) (uses_of f) u.place
first_undefined f name block u = record {
  before = u.before;
  here = subst (λ o. IsSomeAnd o (λ x. UseIsDefined f x → ⊥)) (sym u.stands) (λ defined. u.walk.missed (defined u.walk.passed u.walk.walk));
}

undefined_is_not_defined : (f : Function) (name block : List ℕ) → UndefinedAt f name block → Defined f → ⊥
undefined_is_not_defined f name block u defined = not_of_all (UseIsDefined f) (uses_of f) u.place defined (first_undefined f name block u).here

one_missed : (f : Function) (name block other to : List ℕ) → (u : UndefinedAt f name block) (v : UndefinedAt f other to) → u.missed ≡ v.missed
one_missed f name block other to u v =
    let place : u.place ≡ v.place =
    one_place (UseIsDefined f) (uses_of f) u.place v.place (first_undefined f name block u) (first_undefined f other to v) in
    same_Some u.missed v.missed (sym u.stands ∙ ap (slice_get (uses_of f)) place ∙ v.stands)

-- each refusal by its kind

data Refused (f : Function) (lines : Lines) (e : Outside) : Type 0 where
  by_types : (line : ℕ) → e ≡ Outside.Types line → IllTypedAt f lines line → Refused f lines e
  by_phi : (name : List ℕ) → e ≡ Outside.Phi name → MisfitAt f name → Refused f lines e
  by_name : (name block : List ℕ) → e ≡ Outside.Undefined name block → UndefinedAt f name block → Refused f lines e

refused : (f : Function) (lines : Lines) (e : Outside) → IsRefusal f lines e → Refused f lines e
refused f lines (Outside.Shape _) h = absurd h
refused f lines (Outside.TooMany _) h = absurd h
refused f lines (Outside.Duplicate _) h = absurd h
refused f lines (Outside.Unknown _) h = absurd h
refused f lines (Outside.Types line) h = by_types line refl h
refused f lines (Outside.Phi name) h = by_phi name refl h
refused f lines (Outside.Undefined name block) h = by_name name block refl h
refused f lines Outside.Memory h = absurd h

same_refusal : (f : Function) (lines : Lines) (a b : Outside) → Refused f lines a → Refused f lines b → a ≡ b
same_refusal f lines a b (by_types l e p) (by_types m g q) = e ∙ ap (λ n. Outside.Types n) (one_line f lines l m p q) ∙ sym g
same_refusal f lines a b (by_types l e p) (by_phi n g q) = absurd (ill_is_not_typed f lines l p q.typed)
same_refusal f lines a b (by_types l e p) (by_name n m g q) = absurd (ill_is_not_typed f lines l p q.typed)
same_refusal f lines a b (by_phi n e p) (by_types l g q) = absurd (ill_is_not_typed f lines l q p.typed)
same_refusal f lines a b (by_phi n e p) (by_phi m g q) = e ∙ ap (λ (x : List ℕ). Outside.Phi x) (one_misfit f n m p q) ∙ sym g
same_refusal f lines a b (by_phi n e p) (by_name m k g q) = absurd (misfit_is_unfit f n p q.phis)
same_refusal f lines a b (by_name n m e p) (by_types l g q) = absurd (ill_is_not_typed f lines l q p.typed)
same_refusal f lines a b (by_name n m e p) (by_phi k g q) = absurd (misfit_is_unfit f k q p.phis)
same_refusal f lines a b (by_name n m e p) (by_name k l g q) =
    let missed : p.missed ≡ q.missed = one_missed f n m k l p q in
    let names : n ≡ k = p.name_shown ∙ ap (λ (u : NameUse). shown_value_name f u.name) missed ∙ sym q.name_shown in
    let blocks : m ≡ l = p.block_shown ∙ ap (λ (u : NameUse). shown_block_name f u.block) missed ∙ sym q.block_shown in
    e ∙ ap₂ (λ (x y : List ℕ). Outside.Undefined x y) names blocks ∙ sym g

pub one_refusal : (f : Function) (lines : Lines) (a b : Outside) → IsRefusal f lines a → IsRefusal f lines b → a ≡ b
one_refusal f lines a b h k = same_refusal f lines a b (refused f lines a h) (refused f lines b k)

ill_formed : (f : Function) (lines : Lines) (e : Outside) → Refused f lines e → IsWellFormed f → ⊥
ill_formed f lines e (by_types l _ p) formed = ill_is_not_typed f lines l p formed.typed
ill_formed f lines e (by_phi n _ p) formed = misfit_is_unfit f n p formed.phis
ill_formed f lines e (by_name n m _ p) formed = undefined_is_not_defined f n m p formed.defined

pub refused_is_ill_formed : (f : Function) (lines : Lines) (e : Outside) → IsRefusal f lines e → IsWellFormed f → ⊥
refused_is_ill_formed f lines e h formed = ill_formed f lines e (refused f lines e h) formed
