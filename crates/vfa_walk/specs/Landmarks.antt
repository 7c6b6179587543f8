-- The landmarks of a width: the numbers at which ends of ranges stop when heads are widened (after widening with thresholds,
-- as in analyses by abstract interpretation). They are the ends of both readings, and the literals of the width.
--
-- At width 8, in a function whose literals of that width are 10 and 1, they are 0, 1, 10, 127, 128 and 255.
use Rattle.std.specs.Prelude.{ℕ, ◌-◌, ◌^◌, Bool, ◌||◌, nat_eq, if◌then◌else◌, List, [], ◌∷◌, ◌++◌, map, flat_map, filter}
use Rattle.std.specs.List.{range_with_len}
use Rattle.vfa_ir.specs.declared.operations.Op.{Op}
use Rattle.vfa_ir.specs.declared.operations.Operand.{Operand}
use Rattle.vfa_ir.specs.declared.operations.Ty.{Ty}
use Rattle.vfa_ir.specs.declared.functions.Block.{Block}
use Rattle.vfa_ir.specs.declared.functions.Function.{Function}
use Rattle.vfa_ir.specs.declared.functions.Phi.{Phi}
use Rattle.vfa_ir.specs.declared.functions.Term.{Term}
use Rattle.vfa_ir.specs.Operands.{operands_of}
use Rattle.vfa_ir.specs.Words.{is_in}

-- the literal that an operand of width v is, where this is the width w
abbrev pub literal_of : ℕ → ℕ → Operand → List ℕ
literal_of w v (Operand.Literal bits) = if nat_eq v w then bits ∷ [] else []
literal_of w v _ = []

abbrev pub typed_literal : ℕ → Ty × Operand → List ℕ
typed_literal w (Ty.Int v, x) = literal_of w v x
typed_literal w (Ty.Pair v, x) = []

abbrev pub phi_literals : ℕ → Phi → List ℕ
phi_literals w p = flat_map (λ e. literal_of w p.width e.0) p.entries

abbrev pub op_literals : Function → ℕ → Op → List ℕ
op_literals f w op = flat_map (typed_literal w) (operands_of f op)

abbrev pub term_literals : ℕ → Term → List ℕ
term_literals w (Term.Ret v a) = literal_of w v a
term_literals w (Term.Br _) = []
term_literals w (Term.CondBr c _ _) = literal_of w 1 c
term_literals w (Term.Switch v on _ cases) = literal_of w v on ++ (if nat_eq v w then map (λ c. c.0) cases else [])
term_literals w Term.Unreachable = []

abbrev pub block_literals : Function → ℕ → Block → List ℕ
block_literals f w b = flat_map (phi_literals w) b.phis ++ (flat_map (λ i. op_literals f w i.op) b.insts ++ term_literals w b.term)

-- the literals of the width in the function
abbrev pub literals : Function → ℕ → List ℕ
literals f w = flat_map (block_literals f w) f.blocks

-- the least and the greatest number of the width, unsigned and signed
abbrev pub ends_of : ℕ → List ℕ
ends_of w = 0 ∷ (2 ^ (w - 1) - 1) ∷ (2 ^ (w - 1)) ∷ (2 ^ w - 1) ∷ []

abbrev pub is_landmark : Function → ℕ → ℕ → Bool
is_landmark f w x = is_in x (ends_of w) || is_in x (literals f w)

-- the landmarks in ascending order, each once
unfoldable pub landmarks : Function → ℕ → List ℕ
landmarks f w = filter (is_landmark f w) (range_with_len 0 (2 ^ w))
