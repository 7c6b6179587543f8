-- Chains of replaced names that are followed step by step.
use Rattle.std.proofs.Common.{◌≡◌, ℕ, zero, suc, Bool, true, false, nat_eq, List, Option, Some, None, refl, sym, ◌∙◌, ap}
use Rattle.std.specs.Prelude.{if◌then◌else◌, slice_index_or}
use Rattle.vfa_ir.specs.declared.operations.Operand.{Operand}
use Rattle.vfa_ir.specs.declared.functions.Function.{Function}
use Rattle.vfa_bits.specs.Standing.{replacement, standing, zeroed}
use Rattle.vfa_bits.specs.Tables.{AreReplacements, next_operand}

pub nothing_follows : (f : Function) (masks : ℕ → ℕ) (a : Operand) → standing f masks zero a ≡ zeroed masks a
unfolding standing
nothing_follows f masks (Operand.Value v) = refl
nothing_follows f masks (Operand.Literal c) = refl
nothing_follows f masks Operand.Poison = refl

pub chain_ends : (f : Function) (masks : ℕ → ℕ) (table : List (Option Operand)) (n : ℕ) (a : Operand) → AreReplacements f masks table → next_operand masks table a ≡ None →
    standing f masks n a ≡ zeroed masks a
unfolding standing
chain_ends f masks table n (Operand.Literal c) are e = refl
chain_ends f masks table n Operand.Poison are e = refl
chain_ends f masks table zero (Operand.Value v) are e = refl
chain_ends f masks table (suc n) (Operand.Value v) are e = by (nat_eq (masks v.0) 0) e
  where
    by : (t : Bool) → (if t then None else slice_index_or table v.0 None) ≡ None →
        (if t then Operand.Literal 0 else elim (replacement f v.0 (masks v.0)) [ None ↦ Operand.Value v | Some x ↦ standing f masks n x ])
        ≡ (if t then Operand.Literal 0 else Operand.Value v)
    by true e = refl
    by false e = ap (λ o. elim o [ None ↦ Operand.Value v | Some x ↦ standing f masks n x ]) (sym (are.each v.0) ∙ e)

pub chain_goes : (f : Function) (masks : ℕ → ℕ) (table : List (Option Operand)) (n : ℕ) (a x : Operand) → AreReplacements f masks table → next_operand masks table a ≡ Some x →
    standing f masks (suc n) a ≡ standing f masks n x
unfolding standing
chain_goes f masks table n (Operand.Literal c) x are e = absurd (cc)
chain_goes f masks table n Operand.Poison x are e = absurd (cc)
chain_goes f masks table n (Operand.Value v) x are e = by (nat_eq (masks v.0) 0) e
  where
    by : (t : Bool) → (if t then None else slice_index_or table v.0 None) ≡ Some x →
        (if t then Operand.Literal 0 else elim (replacement f v.0 (masks v.0)) [ None ↦ Operand.Value v | Some x ↦ standing f masks n x ]) ≡ standing f masks n x
    by true e = absurd (cc)
    by false e = ap (λ o. elim o [ None ↦ Operand.Value v | Some x ↦ standing f masks n x ]) (sym (are.each v.0) ∙ e)
