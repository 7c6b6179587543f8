-- The phis of a block: what is left of them gives kept names allowed values.
use Rattle.std.proofs.Common.{◌≡◌, ℕ, zero, suc, ◌-◌, Bool, true, false, nat_eq, if◌then◌else◌, Option, Some, None, List, [], ◌∷◌, refl, sym, subst, ap, ◌∙◌}
use Rattle.std.proofs.lemmas.Bool.{eqb-true, eqb-false, ne_eqb}
use Rattle.std.specs.List.{AllByRecursion}
use Rattle.vfa_ir.specs.declared.operations.BlockId.{BlockId}
use Rattle.vfa_ir.specs.declared.operations.Operand.{Operand}
use Rattle.vfa_ir.specs.declared.operations.Ty.{Ty}
use Rattle.vfa_ir.specs.declared.functions.Function.{Function}
use Rattle.vfa_ir.specs.declared.functions.Phi.{Phi}
use Rattle.vfa_mean.specs.declared.value.Val.{Val}
use Rattle.vfa_mean.specs.Values.{Env, IsValueOf, AllowsValue, operand_value}
use Rattle.vfa_mean.specs.Moments.{Into, Moment}
use Rattle.vfa_mean.specs.Outcomes.{entry_from, entry_for, after_phis}
use Rattle.vfa_rewrite.specs.Rewritten.{Marks, if_left, edges_of, one_fewer, if_counted, entries_left, phi_left, kept_phis}
use Rattle.vfa_rewrite.specs.Sound.{Agrees, IsEntered, EntryStands, EntryIsSound, PhiStands, PhiIsSound}
use Rattle.vfa_rewrite.proofs.Agreement.{operand_agrees, operand_typed, both_write, one_writes}

fewer_elsewhere : (count : ℕ → ℕ) (p q : ℕ) → nat_eq q p ≡ false → one_fewer count p q ≡ count q
fewer_elsewhere count p q e = ap (λ t. if t then count q - 1 else count q) e

module _ (f : Function) (m : Marks) (b : ℕ) where
  -- what the phi reads in what was read and in what is left
  record ReadsAlike (width : ℕ) (v v' : Val) : Type 0 where
    allows : AllowsValue v v'
    typed : IsValueOf (Ty.Int width) v'

  module _ (p : ℕ) (before before' : Env) (moment : Moment f (Into (Some p) b) before) (agrees : Agrees f m before before') where
    abbrev reads : Operand → Val
    reads a = operand_value before a

    abbrev reads' : Operand → Val
    reads' a = operand_value before' a

    here : (width : ℕ) (e : Operand × BlockId) → e.1.0 ≡ p → EntryStands f m b width e → ReadsAlike width (reads e.0) (reads' (m.put (Into (Some e.1.0) b) e.0))
    here width e same sound = record {
      allows = operand_agrees f m (Into (Some e.1.0) b) before before' e.0 (m.put (Into (Some e.1.0) b) e.0)
          (subst (λ q. Moment f (Into (Some q) b) before) (sym same) moment) agrees sound.stands.allows sound.stands.kept;
      typed = operand_typed f m before before' (Ty.Int width) (m.put (Into (Some e.1.0) b) e.0) agrees sound.typed;
    }

    -- an entry that is left, of the block that control came from or of another one
    at_entry : (width : ℕ) (t : Bool) (t' : Bool) (a a' : Operand) (rest rest' : Operand) → t' ≡ t → (t ≡ true → ReadsAlike width (reads a) (reads' a')) →
        (t ≡ false → ReadsAlike width (reads rest) (reads' rest')) →
        ReadsAlike width (reads (if t then a else rest)) (reads' (if t' then a' else rest'))
    at_entry width true true a a' rest rest' e h k = h refl
    at_entry width false false a a' rest rest' e h k = k refl
    at_entry width true false a a' rest rest' e h k = absurd (cc)
    at_entry width false true a a' rest rest' e h k = absurd (cc)

    -- an entry, by how many entries of its block are left
    by_count : (width : ℕ) (e : Operand × BlockId) (rest : List (Operand × BlockId)) (count : ℕ → ℕ) → (count p ≡ 0 → ⊥) →
        EntryIsSound f m b width e → IsEntered f m b p →
        ((later : ℕ → ℕ) → (later p ≡ 0 → ⊥) → ReadsAlike width (reads (entry_from p rest)) (reads' (entry_from p (entries_left m b rest later)))) →
        (n : ℕ) → count e.1.0 ≡ n → ReadsAlike width (reads (entry_from p (e ∷ rest)))
        (reads' (entry_from p (if_counted n ((m.put (Into (Some e.1.0) b) e.0, e.1) ∷ entries_left m b rest (one_fewer count e.1.0)) (entries_left m b rest count))))
    by_count width e rest count some sound entered again zero none =
        at_entry width (nat_eq e.1.0 p) false e.0 e.0 (entry_from p rest) (entry_from p (entries_left m b rest count))
        (sym (ne_eqb e.1.0 p (λ same. some (ap count (sym same) ∙ none))))
        (λ t. absurd (some (ap count (sym (eqb-true e.1.0 p t)) ∙ none)))
        (λ t. again count some)
    by_count width e rest count some sound entered again (suc n) more =
        at_entry width (nat_eq e.1.0 p) (nat_eq e.1.0 p) e.0 (m.put (Into (Some e.1.0) b) e.0)
        (entry_from p rest) (entry_from p (entries_left m b rest (one_fewer count e.1.0)))
        refl
        (λ t. let same = eqb-true e.1.0 p t in here width e same (sound (subst (λ q. IsEntered f m b q) (sym same) entered)))
        (λ t. let apart = ne_eqb p e.1.0 (λ same. eqb-false e.1.0 p t (sym same)) in
        again (one_fewer count e.1.0) (λ z. some (sym (fewer_elsewhere count e.1.0 p apart) ∙ z)))

    entry_reads : (width : ℕ) (es : List (Operand × BlockId)) (count : ℕ → ℕ) → (count p ≡ 0 → ⊥) →
        AllByRecursion (EntryIsSound f m b width) es → IsEntered f m b p →
        ReadsAlike width (reads (entry_from p es)) (reads' (entry_from p (entries_left m b es count)))
    entry_reads width [] count some sound entered = record { allows = tt; typed = tt }
    entry_reads width (e ∷ rest) count some sound entered =
        by_count width e rest count some sound.0 entered (λ later s. entry_reads width rest later s sound.1 entered) (count e.1.0) refl

  -- ---- the phis of a block one after another

  module _ (p p' : Option ℕ) (before before' : Env)
      (alike : (phi : Phi) → PhiStands f m b phi → ReadsAlike phi.width (operand_value before (entry_for p phi.entries)) (operand_value before' (entry_for p' (phi_left f m b phi).entries))) where
    by_kept : (phi : Phi) (rest : List Phi) (env env' : Env) → PhiIsSound f m b phi → Agrees f m env env' →
        ((env env' : Env) → Agrees f m env env' → Agrees f m (after_phis p rest before env) (after_phis p' (kept_phis f m b rest) before' env')) →
        (t : Bool) → m.keeps phi.result.0 ≡ t →
        Agrees f m (after_phis p (phi ∷ rest) before env) (after_phis p' (if_left t (phi_left f m b phi) (kept_phis f m b rest)) before' env')
    by_kept phi rest env env' sound agrees again true kept =
        let stands = sound kept in
        let both = alike phi stands in
        again _ _ (both_write f m env env' phi.result.0 _ _ agrees both.allows (subst (λ t. IsValueOf t (operand_value before' (entry_for p' (phi_left f m b phi).entries))) (sym stands.typed) both.typed))
    by_kept phi rest env env' sound agrees again false dropped = again _ env' (one_writes f m env env' phi.result.0 _ agrees dropped)

    phis_step : (phis : List Phi) (env env' : Env) → AllByRecursion (PhiIsSound f m b) phis → Agrees f m env env' →
        Agrees f m (after_phis p phis before env) (after_phis p' (kept_phis f m b phis) before' env')
    phis_step [] env env' sound agrees = agrees
    phis_step (phi ∷ rest) env env' sound agrees =
        by_kept phi rest env env' sound.0 agrees (λ e e' a. phis_step rest e e' sound.1 a) (m.keeps phi.result.0) refl

  -- entered from a block by an edge that is left, and where the function begins
  pub phis_agree : (p : ℕ) (phis : List Phi) (env env' : Env) → Moment f (Into (Some p) b) env → Agrees f m env env' → IsEntered f m b p →
      AllByRecursion (PhiIsSound f m b) phis →
      Agrees f m (after_phis (Some p) phis env env) (after_phis (Some p) (kept_phis f m b phis) env' env')
  phis_agree p phis env env' moment agrees entered sound =
      phis_step (Some p) (Some p) env env'
      (λ phi stands. entry_reads p env env' moment agrees phi.width phi.entries (edges_of f m b) entered stands.entries entered)
      phis env env' sound agrees

  pub first_phis_agree : (phis : List Phi) (env env' : Env) → Agrees f m env env' → AllByRecursion (PhiIsSound f m b) phis →
      Agrees f m (after_phis None phis env env) (after_phis None (kept_phis f m b phis) env' env')
  first_phis_agree phis env env' agrees sound = phis_step None None env env' (λ phi stands. record { allows = tt; typed = tt }) phis env env' sound agrees
