-- The names that the tree of a function uses are defined.
use Rattle.std.proofs.Common.{◌≡◌, ◌∙◌, ℕ, suc, ◌+◌, ◌<◌, ◌^◌, true, if◌then◌else◌, List, [], ◌∷◌, ◌++◌, map, flat_map, length, Option, Some, None, slice_get, refl, ap, ap₂, arith}
use Rattle.std.specs.List.{AllByRecursion}
use Rattle.std.proofs.lemmas.List.Elements.{recursion_from_All}
use Rattle.vfa_ir.specs.declared.functions.Block.{Block}
use Rattle.vfa_ir.specs.declared.functions.CallArg.{CallArg}
use Rattle.vfa_ir.specs.declared.functions.CallOp.{CallOp}
use Rattle.vfa_ir.specs.declared.functions.Function.{Function}
use Rattle.vfa_ir.specs.declared.functions.Phi.{Phi}
use Rattle.vfa_ir.specs.declared.functions.Term.{Term}
use Rattle.vfa_ir.specs.declared.operations.BlockId.{BlockId}
use Rattle.vfa_ir.specs.declared.operations.Op.{Op}
use Rattle.vfa_ir.specs.declared.operations.Operand.{Operand}
use Rattle.vfa_ir.specs.declared.syntax.Argument.{Argument}
use Rattle.vfa_ir.specs.declared.syntax.Incoming.{Incoming}
use Rattle.vfa_ir.specs.declared.syntax.Instruction.{Instruction}
use Rattle.vfa_ir.specs.declared.syntax.PhiNode.{PhiNode}
use Rattle.vfa_ir.specs.DefinedNames.{Use, block_uses, first_unknown, is_known, operation_uses, phi_uses, terminator_uses, unknown_of, used_name, uses, value_uses}
use Rattle.vfa_ir.specs.DefinedNames.Use.{of_value, of_block}
use Rattle.vfa_ir.specs.Printable.{IsBlock, IsOperand, IsPrintable, PrintableArgument, PrintableBlock, PrintableCall, PrintableInst, PrintableOp, PrintablePhi, PrintableTerm}
use Rattle.vfa_ir.specs.Shown.{shown_block_name, shown_value_name}
use Rattle.vfa_ir.specs.Words.{is_among}
use Rattle.vfa_print.specs.Trees.{argument_tree, block_name_at, block_tree, blocks_tree, call_tree, case_tree, entry_tree, inst_tree, name_at, op_tree, operand_tree, phi_tree, shown_scope, term_tree, tree_of}
use Rattle.vfa_print.proofs.NameNumbers.{among-range, name_at-range}
use Rattle.vfa_print.proofs.EachElement.{each_at}
use Rattle.vfa_print.proofs.NamesInScope.{each_call}
use Rattle.vfa_print.proofs.TreeNames.{tree_blocks, tree_values}
use Rattle.vfa_print.proofs.PrintableParts.{all_both}

all_flat : {X Y : Type 0} (P : Y → Type 0) (g : X → List Y) (xs : List X) → AllByRecursion (λ x. AllByRecursion P (g x)) xs → AllByRecursion P (flat_map g xs)
all_flat P g [] h = tt
all_flat P g (x ∷ xs) h = all_both P (g x) (flat_map g xs) h.0 (all_flat P g xs h.1)

all_mapped : {X Y : Type 0} (P : X → Type 0) (Q : Y → Type 0) (g : X → Y) → ((x : X) → P x → Q (g x)) → (xs : List X) → AllByRecursion P xs → AllByRecursion Q (map g xs)
all_mapped P Q g each [] h = tt
all_mapped P Q g each (x ∷ xs) h = (each x h.0, all_mapped P Q g each xs h.1)

-- an operand of a phi
abbrev pub Entry : Type 0
Entry = Operand × BlockId

all_known : (values blocks : List (List ℕ)) (us : List Use) → AllByRecursion (λ u. is_known values blocks u ≡ true) us → first_unknown values blocks us ≡ None
all_known values blocks [] h = refl
all_known values blocks (u ∷ us) h =
    ap (λ b. if b then first_unknown values blocks us else Some (used_name u)) h.0 ∙ all_known values blocks us h.1

module _ (f : Function) (calls : AllByRecursion (PrintableCall f) f.calls) where
  abbrev IsKnown : Use → Type 0
  IsKnown u = is_known (shown_scope f).values (shown_scope f).blocks u ≡ true

  abbrev AreKnown : List Use → Type 0
  AreKnown = AllByRecursion IsKnown

  value_is_known : (v : ℕ) → v < length f.values → IsKnown (of_value (name_at (shown_scope f).values v))
  value_is_known v h =
      let e : v ≡ 0 + v = omega arith in
      let g = shown_value_name f in
      ap (λ n. is_among n (shown_scope f).values) (name_at-range g (length f.values) v h ∙ ap g e) ∙ among-range g 0 (length f.values) v h

  block_is_known : (b : BlockId) → IsBlock f b → IsKnown (of_block (block_name_at (shown_scope f) b))
  block_is_known b h =
      let e : b.0 ≡ 0 + b.0 = omega arith in
      let g = shown_block_name f in
      ap (λ n. is_among n (shown_scope f).blocks) (name_at-range g (length f.blocks) b.0 h ∙ ap g e) ∙ among-range g 0 (length f.blocks) b.0 h

  operand_known : (width : ℕ) (o : Operand) → IsOperand f width o → AreKnown (value_uses (operand_tree (shown_scope f) width o))
  operand_known width (Operand.Value v) h = (value_is_known v.0 h, tt)
  operand_known width (Operand.Literal bits) h = tt
  operand_known width Operand.Poison h = tt

  both_known : (width : ℕ) (a b : Operand) → IsOperand f width a → IsOperand f width b → AreKnown (value_uses (operand_tree (shown_scope f) width a) ++ value_uses (operand_tree (shown_scope f) width b))
  both_known width a b h k =
      let t = operand_tree (shown_scope f) width in
      all_both IsKnown (value_uses (t a)) (value_uses (t b)) (operand_known width a h) (operand_known width b k)

  argument_known : (a : CallArg) → PrintableArgument f a → AreKnown (value_uses (argument_tree (shown_scope f) a).value)
  argument_known a h = operand_known a.width a.value h.value

  call_known :
      (width : Option ℕ) (o : Option CallOp) → ((c : CallOp) → o ≡ Some c → PrintableCall f c) →
      AreKnown (operation_uses (call_tree (shown_scope f) width o))
  call_known width None h = tt
  call_known width (Some c) h =
      let scope = shown_scope f in
      let argument_uses : Argument → List Use = λ a. value_uses a.value in
      all_flat IsKnown argument_uses (map (argument_tree scope) c.args)
      (all_mapped (PrintableArgument f) (λ a. AreKnown (argument_uses a)) (argument_tree scope) argument_known c.args
      (recursion_from_All (PrintableArgument f) c.args (h c refl).arguments))

  op_known : (op : Op) → PrintableOp f op → AreKnown (operation_uses (op_tree (shown_scope f) f.calls op))
  op_known (Op.Bin bin flags width a b) h = both_known width a b h.1.first h.1.second
  op_known (Op.Icmp pred samesign width a b) h = both_known width a b h.first h.second
  op_known (Op.Select width c a b) h =
      let t = operand_tree (shown_scope f) in
      all_both IsKnown (value_uses (t 1 c)) (value_uses (t width a) ++ value_uses (t width b)) (operand_known 1 c h.0)
      (both_known width a b h.1.first h.1.second)
  op_known (Op.Cast cast flags from to a) h = operand_known from a h.2
  op_known (Op.Freeze width a) h = operand_known width a h.1
  op_known (Op.Two fun width a b) h = both_known width a b h.first h.second
  op_known (Op.One fun width a strict) h = operand_known width a h.1
  op_known (Op.Over over width a b) h = both_known width a b h.first h.second
  op_known (Op.Part width pair index) h = (value_is_known pair.0 h.1, tt)
  op_known (Op.Assume c) h = operand_known 1 c h
  op_known (Op.Call width place) h =
      call_known width (slice_get f.calls place) (λ c e. each_at (PrintableCall f) f.calls place c calls e)

  entry_known :
      (width : ℕ) (e : Entry) → IsOperand f width e.0 × IsBlock f e.1 →
      AreKnown (value_uses (entry_tree (shown_scope f) width e).value ++ of_block (entry_tree (shown_scope f) width e).block ∷ [])
  entry_known width e h =
      all_both IsKnown (value_uses (operand_tree (shown_scope f) width e.0)) (of_block (block_name_at (shown_scope f) e.1) ∷ [])
      (operand_known width e.0 h.0) (block_is_known e.1 h.1, tt)

  phi_known : (p : Phi) → PrintablePhi f p → AreKnown (phi_uses (phi_tree (shown_scope f) p))
  phi_known p h =
      let scope = shown_scope f in
      let entry_uses : Incoming → List Use = λ i. value_uses i.value ++ (of_block i.block ∷ []) in
      all_flat IsKnown entry_uses (map (entry_tree scope p.width) p.entries)
      (all_mapped (λ e. IsOperand f p.width e.0 × IsBlock f e.1) (λ i. AreKnown (entry_uses i)) (entry_tree scope p.width)
      (entry_known p.width) p.entries (recursion_from_All (λ e. IsOperand f p.width e.0 × IsBlock f e.1) p.entries h.entries))

  term_known : (t : Term) → PrintableTerm f t → AreKnown (terminator_uses (term_tree (shown_scope f) t))
  term_known (Term.Ret width a) h = operand_known width a h.1
  term_known (Term.Br to) h = (block_is_known to h, tt)
  term_known (Term.CondBr c taken fallen) h =
      let scope = shown_scope f in
      all_both IsKnown (value_uses (operand_tree scope 1 c)) (of_block (block_name_at scope taken) ∷ of_block (block_name_at scope fallen) ∷ [])
      (operand_known 1 c h.0) (block_is_known taken h.1, (block_is_known fallen h.2, tt))
  term_known (Term.Switch width on default cases) h =
      let scope = shown_scope f in
      all_both IsKnown (value_uses (operand_tree scope width on)) (of_block (block_name_at scope default) ∷ map (λ c. of_block c.block) (map (case_tree scope width) cases))
      (operand_known width on h.1)
      (block_is_known default h.2, cases_known cases (recursion_from_All (λ c. (c.0 < 2 ^ width) × IsBlock f c.1) cases h.3))
    where
      cases_known :
          (cs : List (ℕ × BlockId)) → AllByRecursion (λ c. (c.0 < 2 ^ width) × IsBlock f c.1) cs →
          AreKnown (map (λ c. of_block c.block) (map (case_tree (shown_scope f) width) cs))
      cases_known [] h = tt
      cases_known (c ∷ cs) h = (block_is_known c.1 h.0.1, cases_known cs h.1)
  term_known Term.Unreachable h = tt

  block_known : (place : ℕ) (b : Block) → PrintableBlock f b → AreKnown (block_uses (block_tree (shown_scope f) f.calls place b))
  block_known place b h =
      let scope = shown_scope f in
      let phis : List PhiNode = map (phi_tree scope) b.phis in
      let insts : List Instruction = map (inst_tree scope f.calls) b.insts in
      let inst_uses : Instruction → List Use = λ i. operation_uses i.operation in
      all_both IsKnown (flat_map phi_uses phis) (flat_map inst_uses insts ++ terminator_uses (term_tree scope b.term))
      (all_flat IsKnown phi_uses phis
      (all_mapped (PrintablePhi f) (λ p. AreKnown (phi_uses p)) (phi_tree scope) phi_known b.phis
      (recursion_from_All (PrintablePhi f) b.phis h.phis)))
      (all_both IsKnown (flat_map inst_uses insts) (terminator_uses (term_tree scope b.term))
      (all_flat IsKnown inst_uses insts
      (all_mapped (PrintableInst f) (λ i. AreKnown (inst_uses i)) (inst_tree scope f.calls) (λ i k. op_known i.op k.op) b.insts
      (recursion_from_All (PrintableInst f) b.insts h.insts)))
      (term_known b.term h.term))

  blocks_known :
      (place : ℕ) (bs : List Block) → AllByRecursion (PrintableBlock f) bs →
      AreKnown (flat_map block_uses (blocks_tree (shown_scope f) f.calls place bs))
  blocks_known place [] h = tt
  blocks_known place (b ∷ bs) h =
      let scope = shown_scope f in
      all_both IsKnown (block_uses (block_tree scope f.calls place b)) (flat_map block_uses (blocks_tree scope f.calls (suc place) bs))
      (block_known place b h.0) (blocks_known (suc place) bs h.1)

pub uses_known : (f : Function) → IsPrintable f → unknown_of (tree_of f) ≡ None
uses_known f printable =
    ap₂ (λ v b. first_unknown v b (uses (tree_of f))) (tree_values f printable) (tree_blocks f printable)
    ∙ all_known (shown_scope f).values (shown_scope f).blocks (uses (tree_of f))
    (blocks_known f (each_call f printable) 0 f.blocks (recursion_from_All (PrintableBlock f) f.blocks printable.blocks))
