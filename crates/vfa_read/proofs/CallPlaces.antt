-- The calls of instructions, and the places that they get.
use Rattle.std.proofs.Common.{◌≡◌, suc, ◌+◌, List, [], ◌∷◌, ◌++◌, Bool, true, false, if◌then◌else◌, length, Option, Some, None, count_by, cond, refl, sym, ap, ◌∙◌, append-nil, length-append, arith}
use Rattle.std.specs.List.{cons_option}
use Rattle.std.proofs.lemmas.List.Sums.{sum_by-cons}
use Rattle.vfa_ir.specs.declared.functions.CallOp.{CallOp}
use Rattle.vfa_ir.specs.declared.syntax.BasicBlock.{BasicBlock}
use Rattle.vfa_ir.specs.declared.syntax.Instruction.{Instruction}
use Rattle.vfa_ir.specs.declared.syntax.Operation.{Operation}
use Rattle.vfa_ir.specs.Resolution.{Scope, block_calls, call_count, call_of, instruction_calls, is_call}
use Rattle.vfa_read.specs.Resolving.{operation_calls}

pub next_place : (scope : Scope) (calls : List CallOp) (i : Instruction) → length (calls ++ operation_calls scope i.operation) ≡ (if is_call i then suc (length calls) else length calls)
next_place scope calls i = go i.operation
  where
    go : (op : Operation) → length (calls ++ operation_calls scope op) ≡ (if elim op as (λ _. Bool) [ Operation.Call _ _ _ _ _ ↦ true | _ ↦ false ] then suc (length calls) else length calls)
    go (Operation.Call words attributes width name arguments) = length-append calls (operation_calls scope (Operation.Call words attributes width name arguments)) ∙ omega arith
    go _ = ap length (append-nil calls)

pub calls_cons : (scope : Scope) (i : Instruction) (rest : List Instruction) → instruction_calls scope (i ∷ rest) ≡ operation_calls scope i.operation ++ instruction_calls scope rest
calls_cons scope i rest = go (call_of scope i.operation)
  where
    go : (o : Option CallOp) → cons_option o (instruction_calls scope rest) ≡ (elim o as (λ _. List CallOp) [ None ↦ [] | Some call ↦ call ∷ [] ]) ++ instruction_calls scope rest
    go None = refl
    go (Some call) = refl

counted : (scope : Scope) (is : List Instruction) → length (instruction_calls scope is) ≡ count_by is_call is
counted scope [] = refl
counted scope (i ∷ rest) = go i.operation (counted scope rest) ∙ sym (sum_by-cons (λ x. cond (is_call x) 1 0) i rest)
  where
    go : (op : Operation) → length (instruction_calls scope rest) ≡ count_by is_call rest →
        length (cons_option (call_of scope op) (instruction_calls scope rest)) ≡ (if elim op as (λ _. Bool) [ Operation.Call _ _ _ _ _ ↦ true | _ ↦ false ] then 1 else 0) + count_by is_call rest
    go (Operation.Call words attributes width name arguments) h = omega (arith, h)
    go _ h = omega (arith, h)

pub block_places : (scope : Scope) (calls : List CallOp) (b : BasicBlock) → length (calls ++ block_calls scope b) ≡ length calls + call_count b
block_places scope calls b = length-append calls (block_calls scope b) ∙ ap (λ n. length calls + n) (counted scope b.instructions)
