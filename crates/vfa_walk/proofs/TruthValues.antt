-- Values are of the types of their names, at each moment.
use Rattle.std.proofs.Common.{◌≡◌, ◌<◌, ◌%◌, ◌^◌, ℕ, Bool, true, false, ◌&&◌, nat_eq, if◌then◌else◌, Option, Some, None, List, [], ◌∷◌, map, All, refl, sym, ap, subst, eqb-true}
use Rattle.std.specs.List.{AllByRecursion}
use Rattle.std.proofs.lemmas.List.Elements.{All-head, All-tail}
use Rattle.std.proofs.lemmas.Nat.{pow_pos, mod_below}
use Rattle.vfa_ir.specs.declared.operations.BlockId.{BlockId}
use Rattle.vfa_ir.specs.declared.operations.Op.{Op}
use Rattle.vfa_ir.specs.declared.operations.Operand.{Operand}
use Rattle.vfa_ir.specs.declared.operations.Ty.{Ty}
use Rattle.vfa_ir.specs.declared.operations.ValueId.{ValueId}
use Rattle.vfa_ir.specs.declared.functions.Function.{Function}
use Rattle.vfa_ir.specs.declared.functions.Param.{Param}
use Rattle.vfa_ir.specs.declared.functions.Phi.{Phi}
use Rattle.vfa_ir.specs.Printable.{IsPrintable, PrintablePhi, PrintableBlock, IsOperand, op_type}
use Rattle.vfa_ir.specs.Typed.{Typed, TypedPhi, TypedBlock, IsOfType}
use Rattle.vfa_mean.specs.declared.value.Val.{Val}
use Rattle.vfa_mean.specs.Values.{Env, IsValueOf, operand_value}
use Rattle.vfa_mean.specs.Meaning.{Result, Undefined, Gave, Gives, operand_a, operand_b, operand_c}
use Rattle.vfa_mean.specs.Moments.{Place, Into, At, Moment, starts, reads, does, calls, leaves, is_call}
use Rattle.vfa_mean.specs.Operands.{AreValuesFor}
use Rattle.vfa_mean.specs.Outcomes.{with_value, with_result, after_phis, entry_from, entry_for, answered, at_width, is_poison, has_noundef, type_of, AreArguments, start_of}
use Rattle.vfa_mean.proofs.Typing.{done_typed}
use Rattle.vfa_cond.specs.Conditions.{name_type, IsNumberOperand}
use Rattle.vfa_cond.proofs.Fitting.{has_type}
use Rattle.vfa_walk.proofs.TruthKept.{choice_is}
use Rattle.vfa_walk.proofs.TruthTypes.{IsTypedOp, each_of, written_width, line_is_typed, is_operation, line_type, phi_types, number_operand, bit_operand}

abbrev pub AreTypedValues : Function → Env → Type 0
AreTypedValues f env = (v : ℕ) → IsValueOf (name_type f v) (env v)

pub poison_is : (t : Ty) → IsValueOf t Val.Poison
poison_is (Ty.Int w) = tt
poison_is (Ty.Pair w) = tt

pub operand_is_typed : (f : Function) (env : Env) (w : ℕ) (x : Operand) → AreTypedValues f env → IsNumberOperand f w x → IsValueOf (Ty.Int w) (operand_value env x)
operand_is_typed f env w (Operand.Value v) values of = subst (λ t. IsValueOf t (env v.0)) (has_type f v (Ty.Int w) of.typed) (values v.0)
operand_is_typed f env w (Operand.Literal bits) values of = of.range
operand_is_typed f env w Operand.Poison values of = tt

pub with_value_typed : (f : Function) (env : Env) (name : ℕ) (v : Val) → AreTypedValues f env → IsValueOf (name_type f name) v → AreTypedValues f (with_value env name v)
with_value_typed f env name v values is u = of (nat_eq u name) refl
  where
    of : (same : Bool) → nat_eq u name ≡ same → IsValueOf (name_type f u) (if same then v else env u)
    of true e = subst (λ k. IsValueOf (name_type f k) v) (sym (eqb-true u name e)) is
    of false e = values u

-- ---- where the function begins

start_typed : (f : Function) (params : List Param) (args : List Val) → AreArguments (map (λ (p : Param). type_of f p.value) params) args → AreTypedValues f (start_of params args)
start_typed f [] args fit v = poison_is (name_type f v)
start_typed f (p ∷ params) [] fit v = poison_is (name_type f v)
start_typed f (p ∷ params) (a ∷ args) fit v = with_value_typed f (start_of params args) p.value.0 a (start_typed f params args fit.1) fit.0 v

-- ---- phis

entry_typed : (f : Function) (w p : ℕ) (entries : List (Operand × BlockId)) (P : Operand → Type 0) → P Operand.Poison → All (λ e. P e.0) entries → P (entry_from p entries)
entry_typed f w p [] P poison all = poison
entry_typed f w p (e ∷ rest) P poison all =
    choice_is P (nat_eq e.1.0 p) e.0 (entry_from p rest) (All-head (λ e. P e.0) e rest all) (entry_typed f w p rest P poison (All-tail (λ e. P e.0) e rest all))

-- the operand that a phi has for a predecessor is a number of its width
pub phi_operand : (f : Function) (p : ℕ) (phi : Phi) → PrintablePhi f phi → TypedPhi f phi → IsNumberOperand f phi.width (entry_from p phi.entries)
phi_operand f p phi printable typed = record {
  width = written_width phi.width printable.width;
  range = entry_typed f phi.width p phi.entries (IsOperand f phi.width) tt (λ k d below. (printable.entries k d below).0);
  typed = entry_typed f phi.width p phi.entries (IsOfType f (Ty.Int phi.width)) tt typed;
}

phi_value_typed : (f : Function) (p : Option ℕ) (phi : Phi) (env : Env) → PrintablePhi f phi → TypedPhi f phi → AreTypedValues f env →
    IsValueOf (Ty.Int phi.width) (operand_value env (entry_for p phi.entries))
phi_value_typed f None phi env printable typed values = tt
phi_value_typed f (Some p) phi env printable typed values = operand_is_typed f env phi.width (entry_from p phi.entries) values (phi_operand f p phi printable typed)

phis_typed : (f : Function) (p : Option ℕ) (phis : List Phi) (before env : Env) → All (PrintablePhi f) phis → All (TypedPhi f) phis →
    AllByRecursion (λ (phi : Phi). name_type f phi.result.0 ≡ Ty.Int phi.width) phis → AreTypedValues f before → AreTypedValues f env → AreTypedValues f (after_phis p phis before env)
phis_typed f p [] before env printable typed names values now = now
phis_typed f p (phi ∷ rest) before env printable typed names values now =
    phis_typed f p rest before (with_value env phi.result.0 (operand_value before (entry_for p phi.entries)))
    (All-tail (PrintablePhi f) phi rest printable) (All-tail (TypedPhi f) phi rest typed) names.1 values
    (with_value_typed f env phi.result.0 (operand_value before (entry_for p phi.entries)) now
    (subst (λ t. IsValueOf t (operand_value before (entry_for p phi.entries))) (sym names.0)
    (phi_value_typed f p phi before (All-head (PrintablePhi f) phi rest printable) (All-head (TypedPhi f) phi rest typed) values)))

-- ---- instructions

pub values_for_op : (f : Function) (env : Env) (op : Op) → AreTypedValues f env → IsTypedOp f op →
    AreValuesFor op (operand_value env (operand_a op)) (operand_value env (operand_b op)) (operand_value env (operand_c op))
values_for_op f env (Op.Bin bin flags w a b) values t = record {
  first = operand_is_typed f env w a values (number_operand f w a t.ranges.1.of_width t.ranges.1.first t.operands.first);
  second = operand_is_typed f env w b values (number_operand f w b t.ranges.1.of_width t.ranges.1.second t.operands.second);
}
values_for_op f env (Op.Icmp pred samesign w a b) values t = record {
  first = operand_is_typed f env w a values (number_operand f w a t.ranges.of_width t.ranges.first t.operands.first);
  second = operand_is_typed f env w b values (number_operand f w b t.ranges.of_width t.ranges.second t.operands.second);
}
values_for_op f env (Op.Select w c a b) values t = (
  record {
    first = operand_is_typed f env w a values (number_operand f w a t.ranges.1.of_width t.ranges.1.first t.operands.1.first);
    second = operand_is_typed f env w b values (number_operand f w b t.ranges.1.of_width t.ranges.1.second t.operands.1.second);
  },
  operand_is_typed f env 1 c values (bit_operand f c t.ranges.0 t.operands.0),
)
values_for_op f env (Op.Cast cast flags from to a) values t = operand_is_typed f env from a values (number_operand f from a t.ranges.1 t.ranges.2 t.operands.0)
values_for_op f env (Op.Freeze w a) values t = operand_is_typed f env w a values (number_operand f w a t.ranges.0 t.ranges.1 t.operands)
values_for_op f env (Op.Two fun w a b) values t = record {
  first = operand_is_typed f env w a values (number_operand f w a t.ranges.of_width t.ranges.first t.operands.first);
  second = operand_is_typed f env w b values (number_operand f w b t.ranges.of_width t.ranges.second t.operands.second);
}
values_for_op f env (Op.One fun w a strict) values t = operand_is_typed f env w a values (number_operand f w a t.ranges.0 t.ranges.1 t.operands)
values_for_op f env (Op.Over over w a b) values t = record {
  first = operand_is_typed f env w a values (number_operand f w a t.ranges.of_width t.ranges.first t.operands.first);
  second = operand_is_typed f env w b values (number_operand f w b t.ranges.of_width t.ranges.second t.operands.second);
}
values_for_op f env (Op.Part w pair index) values t = subst (λ ty. IsValueOf ty (env pair.0)) (has_type f pair (Ty.Pair w) t.operands) (values pair.0)
values_for_op f env (Op.Assume c) values t = operand_is_typed f env 1 c values (bit_operand f c t.ranges t.operands)
values_for_op f env (Op.Call width place) values t = tt

with_result_typed : (f : Function) (env : Env) (result : Option ValueId) (t : Ty) (v : Val) → AreTypedValues f env → ((r : ValueId) → result ≡ Some r → name_type f r.0 ≡ t) →
    IsValueOf t v → AreTypedValues f (with_result env result v)
with_result_typed f env None t v values name is = values
with_result_typed f env (Some r) t v values name is = with_value_typed f env r.0 v values (subst (λ ty. IsValueOf ty v) (sym (name r refl)) is)

-- a value that an operation gives is of its type
pub given_is_typed : (f : Function) (env : Env) (op : Op) (v : Val) → AreTypedValues f env → IsTypedOp f op → is_call op ≡ false → Gives op env (Gave v) → IsValueOf (op_type op) v
given_is_typed f env op v values t no_call gives =
    done_typed op (operand_value env (operand_a op)) (operand_value env (operand_b op)) (operand_value env (operand_c op)) v (is_operation f op no_call t) (values_for_op f env op values t) gives

-- what a call gives is of its type
abbrev value_in : Result → Val
value_in Undefined = Val.Poison
value_in (Gave v) = v

cut_is_typed : (w : ℕ) (v : Val) → IsValueOf (Ty.Int w) (at_width w v)
cut_is_typed w (Val.Number x) = let below : x % 2 ^ w < 2 ^ w = mod_below x (2 ^ w) (pow_pos w) in below
cut_is_typed w Val.Poison = tt
cut_is_typed w (Val.Pair x o) = tt

pub answer_is_typed : (width : Option ℕ) (place : ℕ) (promised : Bool) (answer v : Val) → answered width promised answer ≡ Gave v → IsValueOf (op_type (Op.Call width place)) v
answer_is_typed None place promised answer v gives = subst (IsValueOf (Ty.Int 1)) (ap value_in gives) tt
answer_is_typed (Some w) place promised answer v gives = of (promised && is_poison answer) gives
  where
    of : (broken : Bool) → (if broken then Undefined else Gave (at_width w answer)) ≡ Gave v → IsValueOf (Ty.Int w) v
    of true e = absurd cc
    of false e = subst (IsValueOf (Ty.Int w)) (ap value_in e) (cut_is_typed w answer)

pub values_are_typed : (f : Function) → IsPrintable f → Typed f → (place : Place) (env : Env) → Moment f place env → AreTypedValues f env
values_are_typed f printable typed place env (starts args fit kept) = start_typed f f.params args fit
values_are_typed f printable typed place env (reads p b block old m there) =
    let before : AreTypedValues f old = values_are_typed f printable typed (Into p b) old m in
    phis_typed f p block.phis old old (each_of (PrintableBlock f) f.blocks b block printable.blocks there).phis (each_of (TypedBlock f) f.blocks b block typed there).phis (phi_types f printable b block there) before before
values_are_typed f printable typed place env (does b block i inst old v m line no_call gives) =
    let before : AreTypedValues f old = values_are_typed f printable typed (At b i) old m in
    with_result_typed f old inst.result (op_type inst.op) v before (λ r e. line_type f printable b i block inst r line e)
    (given_is_typed f old inst.op v before (line_is_typed f printable typed b i block inst line) no_call gives)
values_are_typed f printable typed place env (calls b block i inst old v width at call answer m line is of) =
    let before : AreTypedValues f old = values_are_typed f printable typed (At b i) old m in
    with_result_typed f old inst.result (op_type inst.op) v before (λ r e. line_type f printable b i block inst r line e)
    (subst (λ (op : Op). IsValueOf (op_type op) v) (sym is) (answer_is_typed width at (has_noundef call.words) answer v of.gives))
values_are_typed f printable typed place env (leaves b block old k target m there exit) = values_are_typed f printable typed (At b _) old m
