-- A function whose operands are usable uses names of its own values.
use Rattle.std.proofs.Common.{◌≡◌, ◌<◌, ℕ, true, List, [], ◌∷◌, ◌++◌, map, flat_map, length, All, Option, Some, None, slice_get, ap, subst, sym, refl, inl, inr, append-nil}
use Rattle.vfa_ir.specs.declared.operations.BlockId.{BlockId}
use Rattle.vfa_ir.specs.declared.operations.Op.{Op}
use Rattle.vfa_ir.specs.declared.operations.Operand.{Operand}
use Rattle.vfa_ir.specs.declared.operations.Ty.{Ty}
use Rattle.vfa_ir.specs.declared.functions.Block.{Block}
use Rattle.vfa_ir.specs.declared.functions.CallArg.{CallArg}
use Rattle.vfa_ir.specs.declared.functions.CallOp.{CallOp}
use Rattle.vfa_ir.specs.declared.functions.Function.{Function}
use Rattle.vfa_ir.specs.declared.functions.Inst.{Inst}
use Rattle.vfa_ir.specs.declared.functions.Phi.{Phi}
use Rattle.vfa_ir.specs.declared.functions.Term.{Term}
use Rattle.vfa_ir.specs.Defined.{op_names, operand_names, term_names}
use Rattle.vfa_ir.specs.Operands.{arguments_of, operands_of}
use Rattle.vfa_ir.specs.Printable.{IsPrintable}
use Rattle.vfa_ir.specs.Words.{is_in}
use Rattle.vfa_mean.specs.Numbering.{names_used}
use Rattle.vfa_mean.proofs.FreshOperands.Definitions.{in_cases, first_or_rest}
use Rattle.vfa_demand.specs.Behind.{phi_names}
use Rattle.vfa_demand.specs.Masks.{seen_in}
use Rattle.vfa_demand.specs.Usable.{AreUsable, IsNameBelow, IsUsable, IsUsableBlock, IsUsableInst, IsUsablePhi}
use Rattle.vfa_demand.specs.Used.{UsesItsValues}
use Rattle.vfa_demand.proofs.Members.{out_joined}
use Rattle.vfa_demand.proofs.Parts.{all_at}
use Rattle.vfa_demand.proofs.UsableParts.{printable_usable}

-- the names that operands are
abbrev names_of : List (Ty × Operand) → List ℕ
names_of operands = flat_map (λ o. operand_names o.1) operands

argument_names : (arguments : List CallArg) →
    names_of (map (λ (a : CallArg). (Ty.Int a.width, a.value)) arguments) ≡ flat_map (λ (a : CallArg). operand_names a.value) arguments
argument_names [] = refl
argument_names (a ∷ arguments) = ap (λ m. operand_names a.value ++ m) (argument_names arguments)

call_names : (found : Option CallOp) →
    names_of (arguments_of found) ≡ elim found [ None ↦ [] | Some c ↦ flat_map (λ (a : CallArg). operand_names a.value) c.args ]
call_names None = refl
call_names (Some c) = argument_names c.args

one_name : (a : Operand) → operand_names a ++ [] ≡ operand_names a
one_name a = append-nil (operand_names a)

two_names : (a b : Operand) → operand_names a ++ (operand_names b ++ []) ≡ operand_names a ++ operand_names b
two_names a b = ap (λ m. operand_names a ++ m) (one_name b)

names_of_op : (f : Function) (op : Op) → names_of (operands_of f op) ≡ op_names f op
names_of_op f (Op.Bin bin flags w a b) = two_names a b
names_of_op f (Op.Icmp pred samesign w a b) = two_names a b
names_of_op f (Op.Select w c a b) = ap (λ m. operand_names c ++ m) (two_names a b)
names_of_op f (Op.Cast cast flags from to a) = one_name a
names_of_op f (Op.Freeze w a) = one_name a
names_of_op f (Op.Two fun w a b) = two_names a b
names_of_op f (Op.One fun w a strict) = one_name a
names_of_op f (Op.Over over w a b) = two_names a b
names_of_op f (Op.Part w pair index) = refl
names_of_op f (Op.Assume c) = one_name c
names_of_op f (Op.Call width call) = call_names (slice_get f.calls call)

names_of_term : (t : Term) → names_of (seen_in t) ≡ term_names t
names_of_term (Term.Ret w a) = one_name a
names_of_term (Term.Br to) = refl
names_of_term (Term.CondBr c taken fallen) = one_name c
names_of_term (Term.Switch w on other cases) = one_name on
names_of_term Term.Unreachable = refl

name_below : (count : ℕ) (a : Operand) (v : ℕ) → IsNameBelow count a → is_in v (operand_names a) ≡ true → v < count
name_below count (Operand.Value n) v below t = elim (first_or_rest v n.0 [] t) [
  | inl e ↦ subst (λ k. k < count) (sym e) below
  | inr u ↦ absurd (cc)
]
name_below count (Operand.Literal bits) v below t = absurd (cc)
name_below count Operand.Poison v below t = absurd (cc)

names_below : (count : ℕ) (operands : List (Ty × Operand)) (v : ℕ) → All (IsUsable count) operands → is_in v (names_of operands) ≡ true → v < count
names_below count operands v usable t =
    let at = out_joined (λ (o : Ty × Operand). operand_names o.1) operands v t in
    name_below count at.from.1 v (all_at (IsUsable count) operands at.place at.from at.there usable).name at.inside

module _ (f : Function) (v : ℕ) where
  abbrev count : ℕ
  count = length f.values

  phi_below : (p : Phi) → IsUsablePhi count p → is_in v (phi_names p) ≡ true → v < count
  phi_below p usable t =
      let at = out_joined (λ (e : Operand × BlockId). operand_names e.0) p.entries v t in
      name_below count at.from.0 v (all_at (λ (e : Operand × BlockId). IsNameBelow count e.0) p.entries at.place at.from at.there usable) at.inside

  phis_below : (phis : List Phi) → All (IsUsablePhi count) phis → is_in v (flat_map phi_names phis) ≡ true → v < count
  phis_below phis usable t =
      let at = out_joined phi_names phis v t in phi_below at.from (all_at (IsUsablePhi count) phis at.place at.from at.there usable) at.inside

  insts_below : (insts : List Inst) → All (IsUsableInst f count) insts → is_in v (flat_map (λ (i : Inst). op_names f i.op) insts) ≡ true → v < count
  insts_below insts usable t =
      let at = out_joined (λ (i : Inst). op_names f i.op) insts v t in
      names_below count (operands_of f at.from.op) v (all_at (IsUsableInst f count) insts at.place at.from at.there usable)
      (subst (λ names. is_in v names ≡ true) (sym (names_of_op f at.from.op)) at.inside)

  term_below : (t : Term) → All (IsUsable count) (seen_in t) → is_in v (term_names t) ≡ true → v < count
  term_below t usable is = names_below count (seen_in t) v usable (subst (λ names. is_in v names ≡ true) (sym (names_of_term t)) is)

  block_below : (b : Block) → IsUsableBlock f count b → is_in v (names_used f b) ≡ true → v < count
  block_below b usable t = elim (in_cases v (flat_map phi_names b.phis) (flat_map (λ (i : Inst). op_names f i.op) b.insts ++ term_names b.term) t) [
    | inl u ↦ phis_below b.phis usable.phis u
    | inr u ↦ elim (in_cases v (flat_map (λ (i : Inst). op_names f i.op) b.insts) (term_names b.term) u) [
      | inl w ↦ insts_below b.insts usable.instructions w
      | inr w ↦ term_below b.term usable.terminator w
    ]
  ]

pub usable_uses : (f : Function) → AreUsable f → UsesItsValues f
usable_uses f usable v t =
    let at = out_joined (names_used f) f.blocks v t in
    block_below f v at.from (all_at (IsUsableBlock f (length f.values)) f.blocks at.place at.from at.there usable) at.inside

-- what some text reads as may be given to the search for used names
pub printable_uses : (f : Function) → IsPrintable f → UsesItsValues f
printable_uses f printable = usable_uses f (printable_usable f printable)
