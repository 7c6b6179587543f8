-- Functions with other numbers for their values and blocks, and other places for their calls: the numbers are names alone,
-- and no part of what a function does (LLVM Language Reference, "Identifiers").
use Rattle.std.specs.Prelude.{ℕ, suc, nat_eq, if◌then◌else◌, List, [], ◌∷◌, map, filter_map, slice_get}
use Rattle.std.specs.Option.{option_map}
use Rattle.vfa_ir.specs.declared.operations.BlockId.{BlockId}
use Rattle.vfa_ir.specs.declared.operations.Op.{Op}
use Rattle.vfa_ir.specs.declared.operations.Operand.{Operand}
use Rattle.vfa_ir.specs.declared.operations.ValueId.{ValueId}
use Rattle.vfa_ir.specs.declared.functions.Block.{Block}
use Rattle.vfa_ir.specs.declared.functions.CallArg.{CallArg}
use Rattle.vfa_ir.specs.declared.functions.CallOp.{CallOp}
use Rattle.vfa_ir.specs.declared.functions.Function.{Function}
use Rattle.vfa_ir.specs.declared.functions.Inst.{Inst}
use Rattle.vfa_ir.specs.declared.functions.Param.{Param}
use Rattle.vfa_ir.specs.declared.functions.Phi.{Phi}
use Rattle.vfa_ir.specs.declared.functions.Term.{Term}

-- the place of a number among others: of 5 among 3, 5, 8 it is 1. Where it is none of them it is as many as they are
abbrev pub place_among : List ℕ → ℕ → ℕ
place_among [] n = 0
place_among (other ∷ rest) n = if nat_eq other n then 0 else suc (place_among rest n)

-- what stands in a list at these places
abbrev pub at_places : {X : Type 0} → List X → List ℕ → List X
at_places xs places = filter_map (slice_get xs) places

-- An order of a function: the numbers of values and blocks and the places of calls that stay, each list in the new order.
-- In the order of the values 4, 0, 2 the value 0 becomes 1.
pub record Order : Type 0 where
  pub values : List ℕ
  pub blocks : List ℕ
  pub calls : List ℕ

abbrev pub renamed_value : Order → ValueId → ValueId
renamed_value o v = record { 0 = place_among o.values v.0 }

abbrev pub renamed_target : Order → BlockId → BlockId
renamed_target o b = record { 0 = place_among o.blocks b.0 }

abbrev pub renamed_operand : Order → Operand → Operand
renamed_operand o (Operand.Value v) = Operand.Value (renamed_value o v)
renamed_operand o (Operand.Literal bits) = Operand.Literal bits
renamed_operand o Operand.Poison = Operand.Poison

abbrev pub renamed_op : Order → Op → Op
renamed_op o (Op.Bin bin flags w a b) = Op.Bin bin flags w (renamed_operand o a) (renamed_operand o b)
renamed_op o (Op.Icmp pred samesign w a b) = Op.Icmp pred samesign w (renamed_operand o a) (renamed_operand o b)
renamed_op o (Op.Select w c a b) = Op.Select w (renamed_operand o c) (renamed_operand o a) (renamed_operand o b)
renamed_op o (Op.Cast cast flags from to a) = Op.Cast cast flags from to (renamed_operand o a)
renamed_op o (Op.Freeze w a) = Op.Freeze w (renamed_operand o a)
renamed_op o (Op.Two fun w a b) = Op.Two fun w (renamed_operand o a) (renamed_operand o b)
renamed_op o (Op.One fun w a strict) = Op.One fun w (renamed_operand o a) strict
renamed_op o (Op.Over over w a b) = Op.Over over w (renamed_operand o a) (renamed_operand o b)
renamed_op o (Op.Part w pair index) = Op.Part w (renamed_value o pair) index
renamed_op o (Op.Assume c) = Op.Assume (renamed_operand o c)
renamed_op o (Op.Call width call) = Op.Call width (place_among o.calls call)

abbrev pub renamed_inst : Order → Inst → Inst
renamed_inst o i = record { result = option_map (renamed_value o) i.result; op = renamed_op o i.op }

abbrev pub renamed_entry : Order → Operand × BlockId → Operand × BlockId
renamed_entry o e = (renamed_operand o e.0, renamed_target o e.1)

abbrev pub renamed_phi : Order → Phi → Phi
renamed_phi o p = record { result = renamed_value o p.result; width = p.width; entries = map (renamed_entry o) p.entries }

abbrev pub renamed_case : Order → ℕ × BlockId → ℕ × BlockId
renamed_case o c = (c.0, renamed_target o c.1)

abbrev pub renamed_term : Order → Term → Term
renamed_term o (Term.Ret w a) = Term.Ret w (renamed_operand o a)
renamed_term o (Term.Br to) = Term.Br (renamed_target o to)
renamed_term o (Term.CondBr c taken fallen) = Term.CondBr (renamed_operand o c) (renamed_target o taken) (renamed_target o fallen)
renamed_term o (Term.Switch w on other cases) =
    Term.Switch w (renamed_operand o on) (renamed_target o other) (map (renamed_case o) cases)
renamed_term o Term.Unreachable = Term.Unreachable

abbrev pub renamed_block : Order → Block → Block
renamed_block o b = record {
  name = b.name;
  phis = map (renamed_phi o) b.phis;
  insts = map (renamed_inst o) b.insts;
  term = renamed_term o b.term;
}

abbrev pub renamed_param : Order → Param → Param
renamed_param o p = record { value = renamed_value o p.value; words = p.words }

abbrev pub renamed_argument : Order → CallArg → CallArg
renamed_argument o a = record { width = a.width; words = a.words; value = renamed_operand o a.value }

abbrev pub renamed_call : Order → CallOp → CallOp
renamed_call o c = record { callee = c.callee; words = c.words; args = map (renamed_argument o) c.args }

-- the function with the values, blocks and calls of the order alone, in that order
abbrev pub renamed : Order → Function → Function
renamed o f = record f {
  params = map (renamed_param o) f.params;
  values = at_places f.values o.values;
  blocks = map (renamed_block o) (at_places f.blocks o.blocks);
  calls = map (renamed_call o) (at_places f.calls o.calls);
}
