-- What the edges of a block hand on (LLVM's LazyValueInfo, getEdgeValueLocal): each tells which way a condition went. Edges of
-- one block to another are joined, and then the phis of the other are assigned.
--
-- In `switch i8 %x, label %o [ i8 1, label %j i8 2, label %j ]` the two edges to j tell that %x is 1 and that it is 2; the edge
-- to o tells that it is neither.
use Rattle.std.specs.Prelude.{ℕ, nat_eq, if◌then◌else◌, Option, Some, None, List, [], ◌∷◌, slice_get}
use Rattle.std.specs.Option.{option_map}
use Rattle.vfa_ir.specs.declared.operations.BlockId.{BlockId}
use Rattle.vfa_ir.specs.declared.operations.Operand.{Operand}
use Rattle.vfa_ir.specs.declared.operations.Ty.{Ty}
use Rattle.vfa_ir.specs.declared.functions.Function.{Function}
use Rattle.vfa_ir.specs.declared.functions.Phi.{Phi}
use Rattle.vfa_ir.specs.declared.functions.Term.{Term}
use Rattle.vfa_mean.specs.Outcomes.{entry_from}
use Rattle.vfa_cfg.specs.declared.listing.Edge.{Edge}
use Rattle.vfa_cfg.specs.declared.listing.Way.{Way}
use Rattle.vfa_cfg.specs.Edges.{block_edges}
use Rattle.vfa_values.specs.Answers.{Answers}
use Rattle.vfa_cond.specs.Narrowing.{Change, and_then}
use Rattle.vfa_cond.specs.States.{AbstractState}
use Rattle.vfa_walk.specs.Passes.{merged}
use Rattle.vfa_walk.specs.Joining.{joined}
use Rattle.vfa_walk.specs.Stepping.{fact_of, redefined, told_equal, told_apart, before_end}

-- ---- edges

-- the operand of a switch is none of the cases, told in the order in which they are written
abbrev pub told_no_case : {V : Type 0} → Answers V → Function → Operand → ℕ → List (ℕ × BlockId) → Change V
told_no_case answers f on w [] s = Some s
told_no_case answers f on w (c ∷ rest) s = and_then (told_apart answers f on w c.0 s) (told_no_case answers f on w rest)

abbrev pub told_case : {V : Type 0} → Answers V → Function → Operand → ℕ → Option (ℕ × BlockId) → Change V
told_case answers f on w None s = Some s
told_case answers f on w (Some c) s = told_equal answers f on w c.0 s

-- what the edge of a terminator makes of the state before it; none where no run takes the edge
abbrev pub along_way : {V : Type 0} → Answers V → Function → Term → Way → Change V
along_way answers f (Term.CondBr c _ _) Way.Yes s = told_equal answers f c 1 1 s
along_way answers f (Term.CondBr c _ _) Way.No s = told_equal answers f c 1 0 s
along_way answers f (Term.Switch w on _ cases) Way.Other s = told_no_case answers f on w cases s
along_way answers f (Term.Switch w on _ cases) (Way.Case k) s = told_case answers f on w (slice_get cases k) s
along_way answers f _ _ s = Some s

-- what an edge of the function makes of the state at the end of its block
abbrev pub along_edge : {V : Type 0} → Answers V → Function → Edge → Change V
along_edge answers f e s = elim (slice_get f.blocks e.from.0) [ None ↦ Some s | Some block ↦ along_way answers f block.term e.way s ]

-- ---- all edges of a block to another

-- those of these edges that lead to the block, joined from the left as written
abbrev pub joined_edges : {V : Type 0} → Answers V → Function → ℕ → AbstractState V → List Edge → Option (AbstractState V) → Option (AbstractState V)
joined_edges answers f to s [] sum = sum
joined_edges answers f to s (e ∷ rest) sum =
    joined_edges answers f to s rest (if nat_eq e.to.0 to then merged (joined answers) sum (along_edge answers f e s) else sum)

-- the edges of a block, as written
abbrev pub edges_out : Function → ℕ → List Edge
edges_out f from = elim (slice_get f.blocks from) [ None ↦ [] | Some block ↦ block_edges from block.term ]

-- what all edges of a block to another make of the state at its end; none where there is no edge, or no run takes one
abbrev pub paired : {V : Type 0} → Answers V → Function → ℕ → ℕ → Change V
paired answers f from to s = joined_edges answers f to s (edges_out f from) None

-- ---- phis

-- what is known of the operand that a phi has for a predecessor
abbrev pub phi_fact : {V : Type 0} → Answers V → ℕ → AbstractState V → Phi → V
phi_fact answers from before p = fact_of answers before (Ty.Int p.width) (entry_from from p.entries)

-- phis are assigned what their operands are before
abbrev pub assigned : {V : Type 0} → Answers V → Function → ℕ → AbstractState V → List Phi → AbstractState V → AbstractState V
assigned answers f from before [] s = s
assigned answers f from before (p ∷ rest) s =
    assigned answers f from before rest (redefined f p.result.0 (phi_fact answers from before p) s)

-- the phis of a block
abbrev pub phis_of : Function → ℕ → List Phi
phis_of f b = elim (slice_get f.blocks b) [ None ↦ [] | Some block ↦ block.phis ]

-- all phis of a block that is entered from another are read before any is written
abbrev pub with_phis : {V : Type 0} → Answers V → Function → ℕ → ℕ → AbstractState V → AbstractState V
with_phis answers f from to s = assigned answers f from s (phis_of f to) s

-- ---- from block to block

-- from the entry state of a block what all its edges to another hand on, before the phis there
abbrev pub left_to : {V : Type 0} → Answers V → Function → ℕ → ℕ → Change V
left_to answers f from to s = and_then (before_end answers f from s) (paired answers f from to)

-- the same with the phis assigned
abbrev pub handed_on : {V : Type 0} → Answers V → Function → ℕ → ℕ → Change V
handed_on answers f from to s = option_map (with_phis answers f from to) (left_to answers f from to s)
