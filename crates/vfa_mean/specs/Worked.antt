-- Two functions whose outcomes are worked out: `twice` returns what g answers to what g answered, and `last` calls h and
-- comes to `unreachable`.
--
--     define i8 @twice() {                 define i8 @last() {
--       %x = call i8 @g()                    call void @h()
--       %y = call i8 @g(i8 %x)               unreachable
--       ret i8 %y                          }
--     }
use Rattle.std.specs.Prelude.{ℕ, List, [], ◌∷◌, Some, None, codes}
use Rattle.vfa_ir.specs.declared.operations.Op.{Op}
use Rattle.vfa_ir.specs.declared.operations.Operand.{Operand}
use Rattle.vfa_ir.specs.declared.operations.Ty.{Ty}
use Rattle.vfa_ir.specs.declared.functions.CallArg.{CallArg}
use Rattle.vfa_ir.specs.declared.functions.CallOp.{CallOp}
use Rattle.vfa_ir.specs.declared.functions.Function.{Function}
use Rattle.vfa_ir.specs.declared.functions.Inst.{Inst}
use Rattle.vfa_ir.specs.declared.functions.Term.{Term}
use Rattle.vfa_ir.specs.declared.functions.Value.{Value}
use Rattle.vfa_mean.specs.declared.value.Val.{Val}
use Rattle.vfa_mean.specs.Outcomes.{Event, Outcome, End, Passed}

-- the operand of this name, and a value of the type i8
abbrev pub name_of_place : ℕ → Operand
name_of_place v = Operand.Value (record { 0 = v })

abbrev pub byte_value : Value
byte_value = record { name = None; ty = Ty.Int 8 }

-- a function of i8 without parameters, of one block
abbrev pub of_one_block : List ℕ → List Value → List Inst → Term → List CallOp → Function
of_one_block name values insts term calls = record {
  name = name;
  lead = [];
  width = 8;
  params = [];
  tail = [];
  values = values;
  blocks = record { name = None; phis = []; insts = insts; term = term } ∷ [];
  calls = calls;
}

-- `%v = call i8` of the call at this place
abbrev pub call_into : ℕ → ℕ → Inst
call_into v place = record { result = Some (record { 0 = v }); op = Op.Call (Some 8) place }

abbrev pub call_of : List ℕ → List CallArg → CallOp
call_of callee args = record { callee = callee; words = []; args = args }

abbrev pub twice : Function
twice = of_one_block (codes "twice") (byte_value ∷ byte_value ∷ []) (call_into 0 0 ∷ call_into 1 1 ∷ [])
    (Term.Ret 8 (name_of_place 1))
    (call_of (codes "g") [] ∷ call_of (codes "g") (record { width = 8; words = []; value = name_of_place 0 } ∷ []) ∷ [])

abbrev pub last : Function
last = of_one_block (codes "last") [] (record { result = None; op = Op.Call None 0 } ∷ []) Term.Unreachable
    (call_of (codes "h") [] ∷ [])

-- an outcome of these calls and this end
abbrev pub outcome : List Event → End → Outcome
outcome events end = record { events = events; end = end }

abbrev pub event : List ℕ → List Passed → Event
event callee args = record { callee = callee; args = args }

abbrev pub passed_byte : ℕ → Passed
passed_byte x = record { width = 8; value = Val.Number x }
