-- At most one answer to whether a text is a function of the profile.
use Rattle.std.proofs.Common.{◌≡◌, ◌⊎◌, inl, inr, ℕ, Result, Ok, Err, List, sym, subst}
use Rattle.std.specs.Prelude.{IfOk, IfErr, OnOk}
use Rattle.vfa_ir.specs.declared.functions.Function.{Function}
use Rattle.vfa_ir.specs.declared.functions.Lines.{Lines}
use Rattle.vfa_ir.specs.declared.reasons.Outside.{Outside}
use Rattle.vfa_ir.specs.Reads.{Reads, IsAccepted, IsReason}
use Rattle.vfa_ir.specs.Tokens.{tokens_of}
use Rattle.vfa_check.specs.Checked.{IsWellFormed}
use Rattle.vfa_check.specs.Refusals.{IsRefusal}
use Rattle.vfa_opt.specs.Acceptance.{IsInside, IsIllFormed, IsOutside}

abbrev OneReading : Type 0
OneReading = (text : List ℕ) (f g : Function) (lines others : Lines) → Reads text f lines → Reads text g others → (f ≡ g) × (lines ≡ others)

abbrev OneReason : Type 0
OneReason = (text : List ℕ) (a b : Outside) → IsReason text (tokens_of text) a → IsReason text (tokens_of text) b → a ≡ b

abbrev NoReason : Type 0
NoReason = (text : List ℕ) (f : Function) (lines : Lines) (reason : Outside) →
    IsAccepted text (tokens_of text) f lines → IsReason text (tokens_of text) reason → ⊥

abbrev OneRefusal : Type 0
OneRefusal = (f : Function) (lines : Lines) (a b : Outside) → IsRefusal f lines a → IsRefusal f lines b → a ≡ b

abbrev IllFormed : Type 0
IllFormed = (f : Function) (lines : Lines) (reason : Outside) → IsRefusal f lines reason → IsWellFormed f → ⊥

module _ (reading : OneReading) (reason : OneReason) (none : NoReason) (refusal : OneRefusal) (ill : IllFormed) where
  pub one_function : (text : List ℕ) (f g : Function) → IsInside text f → IsInside text g → f ≡ g
  one_function text f g p q = (reading text f g p.lines q.lines p.reads.reads q.reads.reads).0

  same_refusal : (text : List ℕ) (a b : Outside) → IsIllFormed text a → IsIllFormed text b → a ≡ b
  same_refusal text a b p q =
      let same = reading text p.function q.function p.lines q.lines p.reads.reads q.reads.reads in
      refusal q.function q.lines a b
      (subst (λ f. IsRefusal f q.lines a) same.0 (subst (λ l. IsRefusal p.function l a) same.1 p.refused)) q.refused

  pub one_why : (text : List ℕ) (a b : Outside) → IsOutside text a → IsOutside text b → a ≡ b
  one_why text a b (inl p) (inl q) = reason text a b p q
  one_why text a b (inl p) (inr q) = absurd (none text q.function q.lines a q.reads p)
  one_why text a b (inr p) (inl q) = absurd (none text p.function p.lines b p.reads q)
  one_why text a b (inr p) (inr q) = same_refusal text a b p q

  pub not_both : (text : List ℕ) (f : Function) (why : Outside) → IsInside text f → IsOutside text why → ⊥
  not_both text f why i (inl r) = none text f i.lines why i.reads r
  not_both text f why i (inr q) =
      let same = reading text f q.function i.lines q.lines i.reads.reads q.reads.reads in
      ill q.function q.lines why q.refused (subst IsWellFormed same.0 i.formed)

-- ---- the answer of a call

module _ (text : List ℕ) (function : (f g : Function) → IsInside text f → IsInside text g → f ≡ g)
    (reason : (a b : Outside) → IsOutside text a → IsOutside text b → a ≡ b)
    (either : (f : Function) (why : Outside) → IsInside text f → IsOutside text why → ⊥) where
  memory_alone : (f : Function) → IsInside text f → (e : Outside) → (e ≡ Outside.Memory) ⊎ IsOutside text e → e ≡ Outside.Memory
  memory_alone f i e (inl memory) = memory
  memory_alone f i e (inr out) = absurd (either f e i out)

  pub accepts_so : (r : Result Function Outside) → IfOk r (IsInside text) → IfErr r (λ e. (e ≡ Outside.Memory) ⊎ IsOutside text e) →
      (f : Function) → IsInside text f → IfOk r (λ g. g ≡ f) × IfErr r (λ e. e ≡ Outside.Memory)
  accepts_so (Ok g) inside outside f i = (function g f inside i, tt)
  accepts_so (Err e) inside outside f i = (tt, memory_alone f i e outside)

  same_why : (why : Outside) → IsOutside text why → (e : Outside) → (e ≡ Outside.Memory) ⊎ IsOutside text e → (e ≡ why) ⊎ (e ≡ Outside.Memory)
  same_why why is e (inl memory) = inr memory
  same_why why is e (inr out) = inl (reason e why out is)

  pub refuses_so : (r : Result Function Outside) → IfOk r (IsInside text) → IfErr r (λ e. (e ≡ Outside.Memory) ⊎ IsOutside text e) →
      (why : Outside) → IsOutside text why → OnOk r ⊥ × IfErr r (λ e. (e ≡ why) ⊎ (e ≡ Outside.Memory))
  refuses_so (Ok g) inside outside why is = (either g why inside is, tt)
  refuses_so (Err e) inside outside why is = (tt, same_why why is e outside)
