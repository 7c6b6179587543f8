-- A function that some text reads as uses its own values, at widths of the profile.
use Rattle.std.proofs.Common.{◌≡◌, ℕ, [], ◌∷◌, length, All, Option, Some, None, refl, lit≤}
use Rattle.std.specs.List.{slice_get}
use Rattle.std.proofs.lemmas.List.Elements.{All-cons, All-map, All-nil, All-weaker}
use Rattle.vfa_ir.specs.declared.operations.BlockId.{BlockId}
use Rattle.vfa_ir.specs.declared.operations.Op.{Op}
use Rattle.vfa_ir.specs.declared.operations.Operand.{Operand}
use Rattle.vfa_ir.specs.declared.operations.Ty.{Ty}
use Rattle.vfa_ir.specs.declared.functions.Block.{Block}
use Rattle.vfa_ir.specs.declared.functions.CallArg.{CallArg}
use Rattle.vfa_ir.specs.declared.functions.CallOp.{CallOp}
use Rattle.vfa_ir.specs.declared.functions.Function.{Function}
use Rattle.vfa_ir.specs.declared.functions.Phi.{Phi}
use Rattle.vfa_ir.specs.declared.functions.Term.{Term}
use Rattle.vfa_ir.specs.Grammar as grammar
use Rattle.vfa_ir.specs.Operands.{arguments_of, operands_of, pair_of_width}
use Rattle.vfa_ir.specs.Printable.{AreOperands, IsBlock, IsOperand, IsPrintable, PrintableArgument, PrintableBlock, PrintableCall, PrintableInst, PrintableOp, PrintablePhi, PrintableTerm}
use Rattle.vfa_word.specs.Numbers.{IsWidth}
use Rattle.vfa_demand.specs.Masks.{number_width, seen_in}
use Rattle.vfa_demand.specs.Usable.{AreUsable, IsNameBelow, IsUsable, IsUsableBlock, IsUsableInst, IsUsablePhi}
use Rattle.vfa_demand.proofs.Parts.{all_at}

is_width : (w : ℕ) → grammar.IsWidth w → IsWidth w
is_width w h = record { least = h.least; most = h.most }

is_bit : IsWidth 1
is_bit = record { least = lit≤ tt; most = lit≤ tt }

module _ (f : Function) where
  abbrev count : ℕ
  count = length f.values

  name_below : (w : ℕ) (a : Operand) → IsOperand f w a → IsNameBelow count a
  name_below w (Operand.Value v) h = h
  name_below w (Operand.Literal bits) h = tt
  name_below w Operand.Poison h = tt

  usable : (ty : Ty) (w : ℕ) (a : Operand) → IsWidth (number_width ty) → IsOperand f w a → IsUsable count (ty, a)
  usable ty w a width h = record { width = width; name = name_below w a h }

  one_usable : (o : Ty × Operand) → IsUsable count o → All (IsUsable count) (o ∷ [])
  one_usable o h = All-cons (IsUsable count) o [] h (All-nil (IsUsable count))

  two_usable : (w : ℕ) (a b : Operand) → AreOperands f w a b → All (IsUsable count) (pair_of_width w a b)
  two_usable w a b h =
      All-cons (IsUsable count) (Ty.Int w, a) ((Ty.Int w, b) ∷ []) (usable (Ty.Int w) w a (is_width w h.of_width) h.first)
      (one_usable (Ty.Int w, b) (usable (Ty.Int w) w b (is_width w h.of_width) h.second))

  arguments_usable : (calls : All (PrintableCall f) f.calls) (call : ℕ) (found : Option CallOp) → slice_get f.calls call ≡ found →
      All (IsUsable count) (arguments_of found)
  arguments_usable calls call None is = All-nil (IsUsable count)
  arguments_usable calls call (Some c) is =
      let known = all_at (PrintableCall f) f.calls call c is calls in
      All-map (IsUsable count) (λ (a : CallArg). (Ty.Int a.width, a.value)) c.args
      (All-weaker (PrintableArgument f) (λ (a : CallArg). IsUsable count (Ty.Int a.width, a.value))
      (λ a h. usable (Ty.Int a.width) a.width a.value (is_width a.width h.width) h.value) c.args known.arguments)

  op_usable : All (PrintableCall f) f.calls → (op : Op) → PrintableOp f op → All (IsUsable count) (operands_of f op)
  op_usable calls (Op.Bin bin flags w a b) h = two_usable w a b h.1
  op_usable calls (Op.Icmp pred samesign w a b) h = two_usable w a b h
  op_usable calls (Op.Select w c a b) h =
      All-cons (IsUsable count) (Ty.Int 1, c) (pair_of_width w a b) (usable (Ty.Int 1) 1 c is_bit h.0) (two_usable w a b h.1)
  op_usable calls (Op.Cast cast flags from to a) h = one_usable (Ty.Int from, a) (usable (Ty.Int from) from a (is_width from h.1) h.2)
  op_usable calls (Op.Freeze w a) h = one_usable (Ty.Int w, a) (usable (Ty.Int w) w a (is_width w h.0) h.1)
  op_usable calls (Op.Two fun w a b) h = two_usable w a b h
  op_usable calls (Op.One fun w a strict) h = one_usable (Ty.Int w, a) (usable (Ty.Int w) w a (is_width w h.0) h.1)
  op_usable calls (Op.Over over w a b) h = two_usable w a b h
  op_usable calls (Op.Part w pair index) h = one_usable (Ty.Pair w, Operand.Value pair) (record { width = is_width w h.0; name = h.1 })
  op_usable calls (Op.Assume c) h = one_usable (Ty.Int 1, c) (usable (Ty.Int 1) 1 c is_bit h)
  op_usable calls (Op.Call width call) h = arguments_usable calls call (slice_get f.calls call) refl

  seen_usable : (t : Term) → PrintableTerm f t → All (IsUsable count) (seen_in t)
  seen_usable (Term.Ret w a) h = one_usable (Ty.Int w, a) (usable (Ty.Int w) w a (is_width w h.0) h.1)
  seen_usable (Term.Br to) h = All-nil (IsUsable count)
  seen_usable (Term.CondBr c taken fallen) h = one_usable (Ty.Int 1, c) (usable (Ty.Int 1) 1 c is_bit h.0)
  seen_usable (Term.Switch w on other cases) h = one_usable (Ty.Int w, on) (usable (Ty.Int w) w on (is_width w h.0) h.1)
  seen_usable Term.Unreachable h = All-nil (IsUsable count)

  phi_usable : (p : Phi) → PrintablePhi f p → IsUsablePhi count p
  phi_usable p h = All-weaker (λ (e : Operand × BlockId). IsOperand f p.width e.0 × IsBlock f e.1) (λ (e : Operand × BlockId). IsNameBelow count e.0)
      (λ e t. name_below p.width e.0 t.0) p.entries h.entries

  block_usable : All (PrintableCall f) f.calls → (b : Block) → PrintableBlock f b → IsUsableBlock f count b
  block_usable calls b h = record {
    phis = All-weaker (PrintablePhi f) (IsUsablePhi count) phi_usable b.phis h.phis;
    instructions = All-weaker (PrintableInst f) (IsUsableInst f count) (λ i t. op_usable calls i.op t.op) b.insts h.insts;
    terminator = seen_usable b.term h.term;
  }

  pub printable_usable : IsPrintable f → AreUsable f
  printable_usable h = All-weaker (PrintableBlock f) (IsUsableBlock f count) (block_usable h.calls) f.blocks h.blocks
