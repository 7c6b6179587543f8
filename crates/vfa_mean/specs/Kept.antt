-- Marks of blocks, and the calls of lines.
use Rattle.std.specs.Prelude.{ℕ, Bool, false, List, filter_map, slice_index_or}
use Rattle.vfa_ir.specs.declared.functions.Inst.{Inst}
use Rattle.vfa_ir.specs.Printable.{call_place}

-- whether a number is marked in a list of marks
abbrev pub is_marked : List Bool → ℕ → Bool
is_marked marks n = slice_index_or marks n false

abbrev pub inst_call_places : List Inst → List ℕ
inst_call_places insts = filter_map (λ i. call_place i.op) insts
