-- The edges of the control flow graph (LLVM Language Reference, "Terminator Instructions").
--
-- `br i1 %c, label %a, label %a` in the entry has two edges from the entry to a: first the one of true, then that of false.
use Rattle.std.specs.Prelude.{ℕ, ◌+◌, List, [], ◌∷◌, ◌++◌}
use Rattle.vfa_cfg.specs.declared.listing.Edge.{Edge}
use Rattle.vfa_cfg.specs.declared.listing.Way.{Way}
use Rattle.vfa_ir.specs.declared.operations.BlockId.{BlockId}
use Rattle.vfa_ir.specs.declared.functions.Block.{Block}
use Rattle.vfa_ir.specs.declared.functions.Function.{Function}
use Rattle.vfa_ir.specs.declared.functions.Term.{Term}

abbrev pub edge : ℕ → BlockId → Way → Edge
edge from to way = record { from = record { 0 = from }; to = to; way = way }

-- the edges of the cases of a switch, the first of which has number k
abbrev pub case_edges : ℕ → ℕ → List (ℕ × BlockId) → List Edge
case_edges from k [] = []
case_edges from k (c ∷ rest) = edge from c.1 (Way.Case k) ∷ case_edges from (k + 1) rest

-- the edges of a block, as its terminator writes them
abbrev pub block_edges : ℕ → Term → List Edge
block_edges from (Term.Ret _ _) = []
block_edges from (Term.Br to) = edge from to Way.Always ∷ []
block_edges from (Term.CondBr _ taken fallen) = edge from taken Way.Yes ∷ edge from fallen Way.No ∷ []
block_edges from (Term.Switch _ _ default cases) = edge from default Way.Other ∷ case_edges from 0 cases
block_edges from Term.Unreachable = []

-- the edges of blocks, the first of which has number b
abbrev pub edges_from : ℕ → List Block → List Edge
edges_from b [] = []
edges_from b (block ∷ rest) = block_edges b block.term ++ edges_from (b + 1) rest

-- all edges, block by block in text order
abbrev pub edges_of : Function → List Edge
edges_of f = edges_from 0 f.blocks
