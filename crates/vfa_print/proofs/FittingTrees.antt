-- The tree of a printable function fits, production by production; names do not matter for that.
use Rattle.std.proofs.Common.{◌≡◌, ℕ, suc, ◌<◌, ◌^◌, Bool, true, false, List, [], ◌∷◌, ◌++◌, length, map, All, IsTrue, IsSome, Option, Some, None, option_map, slice_get, bytes_eq, codes, ◌==◌, refl, arith, ne_eqb}
use Rattle.std.specs.List.{AllByRecursion, IsDistinct}
use Rattle.std.proofs.lemmas.List.Elements.{All-from_recursion, recursion_from_All, All-nil}
use Rattle.vfa_ir.specs.declared.functions.Block.{Block}
use Rattle.vfa_ir.specs.declared.functions.CallArg.{CallArg}
use Rattle.vfa_ir.specs.declared.functions.CallOp.{CallOp}
use Rattle.vfa_ir.specs.declared.functions.Function.{Function}
use Rattle.vfa_ir.specs.declared.functions.Inst.{Inst}
use Rattle.vfa_ir.specs.declared.functions.Param.{Param}
use Rattle.vfa_ir.specs.declared.functions.Phi.{Phi}
use Rattle.vfa_ir.specs.declared.functions.Term.{Term}
use Rattle.vfa_ir.specs.declared.operations.Bin.{Bin}
use Rattle.vfa_ir.specs.declared.operations.BlockId.{BlockId}
use Rattle.vfa_ir.specs.declared.operations.Cast.{Cast}
use Rattle.vfa_ir.specs.declared.operations.CastFlags.{CastFlags}
use Rattle.vfa_ir.specs.declared.operations.Flags.{Flags}
use Rattle.vfa_ir.specs.declared.operations.Fun1.{Fun1}
use Rattle.vfa_ir.specs.declared.operations.Op.{Op}
use Rattle.vfa_ir.specs.declared.operations.Operand.{Operand}
use Rattle.vfa_ir.specs.declared.operations.ValueId.{ValueId}
use Rattle.vfa_ir.specs.declared.syntax.BasicBlock.{BasicBlock}
use Rattle.vfa_ir.specs.declared.syntax.Incoming.{Incoming}
use Rattle.vfa_ir.specs.Grammar.{IsWidth, FitsValue, FitsLiteral, FitsArgument, FitsAttachment, FitsPhi, FitsCall, FitsFlags, FitsStrict, FitsPair, FitsOperation, FitsResult, FitsResultType, FitsInstruction, FitsTerminatorKind, FitsBlock, FitsBlocks, FitsParameter, FitsSentence}
use Rattle.vfa_ir.specs.Printable.{IsPrintable, IsOperand, IsBlock, AreOperands, HasItsCastFlags, HasItsFlags, HasItsResult, PrintableArgument, PrintableCall, PrintableOp, PrintableInst, PrintablePhi, PrintableTerm, PrintableBlock}
use Rattle.vfa_ir.specs.Resolution.{Scope}
use Rattle.vfa_ir.specs.Words.{is_among, cast_flags_of, flags_of, parameter_words}
use Rattle.vfa_print.specs.Trees.{operand_tree, flag_word, flag_words, cast_flag_words, bare_call, strict_tree, argument_tree, call_tree, op_tree, inst_tree, entry_tree, phi_tree, case_tree, term_tree, label_tree, block_tree, blocks_tree, parameter_tree, width_at, tree_with}
use Rattle.vfa_print.proofs.EachElement.{each_append, each_at, each_map, each_weaker}
use Rattle.vfa_print.proofs.NamesInScope.{each_parameter}
use Rattle.vfa_print.proofs.SignedTexts.{literal_fits}

pub one_bit : IsWidth 1
one_bit = record { least = omega arith; most = omega arith }

-- flags
abbrev pub IsFlagOf : List (List ℕ) → List ℕ → Type 0
IsFlagOf allowed text = IsTrue (is_among text allowed)

flag_known :
    (allowed : List (List ℕ)) (flag : Bool) (text : List ℕ) → (IsTrue flag → IsFlagOf allowed text) →
    AllByRecursion (IsFlagOf allowed) (flag_word flag text)
flag_known allowed true text h = (h refl, tt)
flag_known allowed false text h = tt

-- flags of other words, one before the others
flag_once :
    (flag : Bool) (text : List ℕ) (rest : List (List ℕ)) → AllByRecursion (λ w. bytes_eq text w ≡ false) rest →
    IsDistinct bytes_eq rest → IsDistinct bytes_eq (flag_word flag text ++ rest)
unfolding IsDistinct
flag_once true text rest other once = (other, once)
flag_once false text rest other once = once

others :
    (flag : Bool) (text word : List ℕ) (rest : List (List ℕ)) → bytes_eq text word ≡ false →
    AllByRecursion (λ w. bytes_eq text w ≡ false) rest → AllByRecursion (λ w. bytes_eq text w ≡ false) (flag_word flag word ++ rest)
others true text word rest e h = (e, h)
others false text word rest e h = h

-- the last flag
last_once : (flag : Bool) (text : List ℕ) → IsDistinct bytes_eq (flag_word flag text)
unfolding IsDistinct
last_once true text = (tt, tt)
last_once false text = tt

last_other :
    (flag : Bool) (text word : List ℕ) → bytes_eq text word ≡ false →
    AllByRecursion (λ w. bytes_eq text w ≡ false) (flag_word flag word)
last_other true text word e = (e, tt)
last_other false text word e = tt

pub flags_known :
    (bin : Bin) (flags : Flags) → HasItsFlags bin flags → AllByRecursion (IsFlagOf (flags_of bin)) (flag_words flags)
flags_known bin flags h =
    let P : List ℕ → Type 0 = IsFlagOf (flags_of bin) in
    let nuw = flag_known (flags_of bin) flags.nuw (codes "nuw") h.nuw in
    let nsw = flag_known (flags_of bin) flags.nsw (codes "nsw") h.nsw in
    let exact = flag_known (flags_of bin) flags.exact (codes "exact") h.exact in
    let disjoint = flag_known (flags_of bin) flags.disjoint (codes "disjoint") h.disjoint in
    each_append P (flag_word flags.nuw (codes "nuw")) _ nuw
    (each_append P (flag_word flags.nsw (codes "nsw")) _ nsw
    (each_append P (flag_word flags.exact (codes "exact")) (flag_word flags.disjoint (codes "disjoint")) exact disjoint))

pub cast_flags_known :
    (cast : Cast) (flags : CastFlags) → HasItsCastFlags cast flags →
    AllByRecursion (IsFlagOf (cast_flags_of cast)) (cast_flag_words flags)
cast_flags_known cast flags h =
    let P : List ℕ → Type 0 = IsFlagOf (cast_flags_of cast) in
    let nuw = flag_known (cast_flags_of cast) flags.nuw (codes "nuw") h.nuw in
    let nsw = flag_known (cast_flags_of cast) flags.nsw (codes "nsw") h.nsw in
    let nneg = flag_known (cast_flags_of cast) flags.nneg (codes "nneg") h.nneg in
    each_append P (flag_word flags.nuw (codes "nuw")) _ nuw
    (each_append P (flag_word flags.nsw (codes "nsw")) (flag_word flags.nneg (codes "nneg")) nsw nneg)

flags_once :
    (nuw nsw exact disjoint : Bool) →
    IsDistinct bytes_eq (flag_words (record { nuw = nuw; nsw = nsw; exact = exact; disjoint = disjoint }))
flags_once nuw nsw exact disjoint =
    let last : List (List ℕ) = flag_word disjoint (codes "disjoint") in
    let third : List (List ℕ) = flag_word exact (codes "exact") ++ flag_word disjoint (codes "disjoint") in
    let second : List (List ℕ) = flag_word nsw (codes "nsw") ++ (flag_word exact (codes "exact") ++ flag_word disjoint (codes "disjoint")) in
    flag_once nuw (codes "nuw") second
    (others nsw (codes "nuw") (codes "nsw") third refl
    (others exact (codes "nuw") (codes "exact") last refl (last_other disjoint (codes "nuw") (codes "disjoint") refl)))
    (flag_once nsw (codes "nsw") third
    (others exact (codes "nsw") (codes "exact") last refl (last_other disjoint (codes "nsw") (codes "disjoint") refl))
    (flag_once exact (codes "exact") last (last_other disjoint (codes "exact") (codes "disjoint") refl)
    (last_once disjoint (codes "disjoint"))))

cast_flags_once :
    (nuw nsw nneg : Bool) → IsDistinct bytes_eq (cast_flag_words (record { nuw = nuw; nsw = nsw; nneg = nneg }))
cast_flags_once nuw nsw nneg =
    let last : List (List ℕ) = flag_word nneg (codes "nneg") in
    flag_once nuw (codes "nuw") (flag_word nsw (codes "nsw") ++ flag_word nneg (codes "nneg"))
    (others nsw (codes "nuw") (codes "nsw") last refl (last_other nneg (codes "nuw") (codes "nneg") refl))
    (flag_once nsw (codes "nsw") last (last_other nneg (codes "nsw") (codes "nneg") refl) (last_once nneg (codes "nneg")))

flags_fit : (bin : Bin) (flags : Flags) → HasItsFlags bin flags → FitsFlags (flags_of bin) (flag_words flags)
flags_fit bin flags h = record {
  known = All-from_recursion (IsFlagOf (flags_of bin)) (flag_words flags) (flags_known bin flags h);
  once = flags_once flags.nuw flags.nsw flags.exact flags.disjoint;
}

cast_flags_fit :
    (cast : Cast) (flags : CastFlags) → HasItsCastFlags cast flags → FitsFlags (cast_flags_of cast) (cast_flag_words flags)
cast_flags_fit cast flags h = record {
  known = All-from_recursion (IsFlagOf (cast_flags_of cast)) (cast_flag_words flags) (cast_flags_known cast flags h);
  once = cast_flags_once flags.nuw flags.nsw flags.nneg;
}

call_fits : FitsCall bare_call
call_fits = record { marker = tt }

strict_fits : (fun : Fun1) (strict : Bool) → FitsStrict fun (strict_tree fun strict)
strict_fits Fun1.Abs strict = refl
strict_fits Fun1.Ctlz strict = refl
strict_fits Fun1.Cttz strict = refl
strict_fits Fun1.Ctpop strict = tt

no_attachments : All FitsAttachment []
no_attachments = All-nil FitsAttachment

module _ (f : Function) (scope : Scope) (calls : AllByRecursion (PrintableCall f) f.calls) where
  pub operand_fits :
      (width : ℕ) (a : Operand) → IsWidth width → IsOperand f width a → FitsValue width (operand_tree scope width a)
  operand_fits width (Operand.Value v) w h = tt
  operand_fits width (Operand.Literal bits) w h = literal_fits width bits w h
  operand_fits width Operand.Poison w h = tt

  pair_fits :
      (width : ℕ) (a b : Operand) → AreOperands f width a b →
      FitsPair width (operand_tree scope width a) (operand_tree scope width b)
  pair_fits width a b h = record {
    of_width = h.of_width;
    first = operand_fits width a h.of_width h.first;
    second = operand_fits width b h.of_width h.second;
  }

  argument_fits : (a : CallArg) → PrintableArgument f a → FitsArgument (argument_tree scope a)
  argument_fits a h = record { width = h.width; words = h.words; value = operand_fits a.width a.value h.width h.value }

  call_tree_fits :
      (width : Option ℕ) → FitsResultType width → (o : Option CallOp) →
      ((c : CallOp) → o ≡ Some c → PrintableCall f c) → FitsOperation (call_tree scope width o)
  call_tree_fits width w None h = (
    call_fits,
    record {
      attributes = All-nil _;
      result = w;
      callee = refl;
      passed = All-nil FitsArgument;
    },
  )
  call_tree_fits width w (Some c) h =
      let call = h c refl in
      let each = recursion_from_All (PrintableArgument f) c.args call.arguments in (
        call_fits,
        record {
          attributes = call.words;
          result = w;
          callee = call.no_intrinsic;
          passed = All-from_recursion FitsArgument (map (argument_tree scope) c.args)
              (each_map FitsArgument (argument_tree scope) c.args
              (each_weaker (PrintableArgument f) (λ a. FitsArgument (argument_tree scope a)) argument_fits c.args each));
        },
      )

  pub op_fits : (op : Op) → PrintableOp f op → FitsOperation (op_tree scope f.calls op)
  op_fits (Op.Bin bin flags width a b) h = (flags_fit bin flags h.0, pair_fits width a b h.1)
  op_fits (Op.Icmp pred samesign width a b) h = pair_fits width a b h
  op_fits (Op.Select width c a b) h = (operand_fits 1 c one_bit h.0, pair_fits width a b h.1)
  op_fits (Op.Cast cast flags from to a) h = (cast_flags_fit cast flags h.0, h.1, operand_fits from a h.1 h.2, h.3)
  op_fits (Op.Freeze width a) h = (h.0, operand_fits width a h.0 h.1)
  op_fits (Op.Two fun width a b) h = (call_fits, pair_fits width a b h)
  op_fits (Op.One fun width a strict) h = (call_fits, h.0, operand_fits width a h.0 h.1, strict_fits fun strict)
  op_fits (Op.Over over width a b) h = (call_fits, pair_fits width a b h)
  op_fits (Op.Part width pair index) h = (h.0, h.2)
  op_fits (Op.Assume c) h = (call_fits, operand_fits 1 c one_bit h)
  op_fits (Op.Call width place) h =
      call_tree_fits width h (slice_get f.calls place) (λ c e. each_at (PrintableCall f) f.calls place c calls e)

  result_fits :
      (op : Op) (r : Option ValueId) (name : ValueId → List ℕ) → HasItsResult op r →
      FitsResult (op_tree scope f.calls op) (option_map name r)
  result_fits (Op.Bin _ _ _ _ _) None name h = h
  result_fits (Op.Icmp _ _ _ _ _) None name h = h
  result_fits (Op.Select _ _ _ _) None name h = h
  result_fits (Op.Cast _ _ _ _ _) None name h = h
  result_fits (Op.Freeze _ _) None name h = h
  result_fits (Op.Two _ _ _ _) None name h = h
  result_fits (Op.One _ _ _ _) None name h = h
  result_fits (Op.Over _ _ _ _) None name h = h
  result_fits (Op.Part _ _ _) None name h = h
  result_fits (Op.Assume _) None name h = tt
  result_fits (Op.Bin _ _ _ _ _) (Some v) name h = tt
  result_fits (Op.Icmp _ _ _ _ _) (Some v) name h = tt
  result_fits (Op.Select _ _ _ _) (Some v) name h = tt
  result_fits (Op.Cast _ _ _ _ _) (Some v) name h = tt
  result_fits (Op.Freeze _ _) (Some v) name h = tt
  result_fits (Op.Two _ _ _ _) (Some v) name h = tt
  result_fits (Op.One _ _ _ _) (Some v) name h = tt
  result_fits (Op.Over _ _ _ _) (Some v) name h = tt
  result_fits (Op.Part _ _ _) (Some v) name h = tt
  result_fits (Op.Assume _) (Some v) name h = h
  result_fits (Op.Call None place) None name h = no_result (slice_get f.calls place)
    where
      no_result : (o : Option CallOp) → FitsResult (call_tree scope None o) None
      no_result None = tt
      no_result (Some c) = tt
  result_fits (Op.Call None place) (Some v) name h = absurd h
  result_fits (Op.Call (Some width) place) None name h = absurd h
  result_fits (Op.Call (Some width) place) (Some v) name h = some_result (slice_get f.calls place)
    where
      some_result : (o : Option CallOp) → FitsResult (call_tree scope (Some width) o) (Some (name v))
      some_result None = tt
      some_result (Some c) = tt

  inst_fits : (i : Inst) → PrintableInst f i → FitsInstruction (inst_tree scope f.calls i)
  inst_fits i h = record {
    result = result_fits i.op i.result _ h.result;
    operation = op_fits i.op h.op;
    attached = no_attachments;
  }

  abbrev IsEntry : ℕ → Operand × BlockId → Type 0
  IsEntry width e = IsOperand f width e.0 × IsBlock f e.1

  entry_fits : (width : ℕ) → IsWidth width → (e : Operand × BlockId) → IsEntry width e → FitsValue width (entry_tree scope width e).value
  entry_fits width w e h = operand_fits width e.0 w h.0

  some_entries : {X Y : Type 0} (g : X → Y) (xs : List X) → (xs ≡ [] → ⊥) → map g xs ≡ [] → ⊥
  some_entries g [] some e = some refl
  some_entries g (x ∷ xs) some e = cc

  pub phi_fits : (p : Phi) → PrintablePhi f p → FitsPhi (phi_tree scope p)
  phi_fits p h = record {
    width = h.width;
    some = some_entries (entry_tree scope p.width) p.entries h.some;
    entries = All-from_recursion (λ (i : Incoming). FitsValue p.width i.value) (map (entry_tree scope p.width) p.entries)
        (each_map (λ (i : Incoming). FitsValue p.width i.value) (entry_tree scope p.width) p.entries
        (each_weaker (IsEntry p.width) (λ e. FitsValue p.width (entry_tree scope p.width e).value) (entry_fits p.width h.width) p.entries
        (recursion_from_All (IsEntry p.width) p.entries h.entries)));
    attached = no_attachments;
  }

  abbrev IsCase : ℕ → ℕ × BlockId → Type 0
  IsCase width c = (c.0 < 2 ^ width) × IsBlock f c.1

  cases_fit :
      (width : ℕ) → IsWidth width → (cases : List (ℕ × BlockId)) → AllByRecursion (IsCase width) cases →
      AllByRecursion (λ c. FitsLiteral width c.number) (map (case_tree scope width) cases)
  cases_fit width w [] h = tt
  cases_fit width w (c ∷ cases) h = (literal_fits width c.0 w h.0.0, cases_fit width w cases h.1)

  pub term_fits : (t : Term) → PrintableTerm f t → FitsTerminatorKind (term_tree scope t)
  term_fits (Term.Ret width a) h = (h.0, operand_fits width a h.0 h.1)
  term_fits (Term.Br to) h = tt
  term_fits (Term.CondBr c taken fallen) h = operand_fits 1 c one_bit h.0
  term_fits (Term.Switch width on default cases) h = (
    h.0,
    operand_fits width on h.0 h.1,
    All-from_recursion (λ c. FitsLiteral width c.number) (map (case_tree scope width) cases)
        (cases_fit width h.0 cases (recursion_from_All (IsCase width) cases h.3)),
  )
  term_fits Term.Unreachable h = tt

  block_fits : (place : ℕ) (b : Block) → PrintableBlock f b → FitsBlock (block_tree scope f.calls place b)
  block_fits place b h = record {
    phis = All-from_recursion FitsPhi (map (phi_tree scope) b.phis)
        (each_map FitsPhi (phi_tree scope) b.phis
        (each_weaker (PrintablePhi f) (λ p. FitsPhi (phi_tree scope p)) phi_fits b.phis (recursion_from_All (PrintablePhi f) b.phis h.phis)));
    instructions = All-from_recursion FitsInstruction (map (inst_tree scope f.calls) b.insts)
        (each_map FitsInstruction (inst_tree scope f.calls) b.insts
        (each_weaker (PrintableInst f) (λ i. FitsInstruction (inst_tree scope f.calls i)) inst_fits b.insts
        (recursion_from_All (PrintableInst f) b.insts h.insts)));
    terminator = record { kind = term_fits b.term h.term; attached = no_attachments };
  }

  blocks_fit :
      (place : ℕ) (bs : List Block) → AllByRecursion (PrintableBlock f) bs →
      AllByRecursion FitsBlock (blocks_tree scope f.calls place bs)
  blocks_fit place [] h = tt
  blocks_fit place (b ∷ bs) h = (block_fits place b h.0, blocks_fit (suc place) bs h.1)

  labelled : (place : ℕ) (b : Block) → IsSome (label_tree scope (suc place) b)
  labelled place b = let later : (suc place == 0) ≡ false = ne_eqb (suc place) 0 (λ e. omega arith) in rw (later, label_tree) refl

  blocks_labelled :
      (place : ℕ) (bs : List Block) →
      AllByRecursion (λ (b : BasicBlock). IsSome b.label) (blocks_tree scope f.calls (suc place) bs)
  blocks_labelled place [] = tt
  blocks_labelled place (b ∷ bs) = (labelled place b, blocks_labelled (suc place) bs)

  all_blocks_fit : (bs : List Block) → (bs ≡ [] → ⊥) → AllByRecursion (PrintableBlock f) bs → FitsBlocks (blocks_tree scope f.calls 0 bs)
  all_blocks_fit [] some h = absurd (some refl)
  all_blocks_fit (b ∷ bs) some h = (
    All-from_recursion FitsBlock (blocks_tree scope f.calls 0 (b ∷ bs)) (blocks_fit 0 (b ∷ bs) h),
    All-from_recursion (λ (b : BasicBlock). IsSome b.label) (blocks_tree scope f.calls 1 bs) (blocks_labelled 0 bs),
  )

  abbrev HasItsWords : Param → Type 0
  HasItsWords p = All (λ w. IsTrue (is_among w parameter_words)) p.words

  parameters_fit :
      (ps : List Param) → AllByRecursion HasItsWords ps →
      AllByRecursion (λ p. IsWidth (width_at f.values p.value.0) × (p.value.0 < length f.values)) ps →
      AllByRecursion FitsParameter (map (parameter_tree scope f.values) ps)
  parameters_fit [] h k = tt
  parameters_fit (p ∷ ps) h k = (record { width = k.0.0; words = h.0 }, parameters_fit ps h.1 k.1)

  pub scoped_tree_fits : IsPrintable f → FitsSentence (tree_with scope f)
  scoped_tree_fits h = record {
    lead = h.lead;
    width = h.width;
    parameters = All-from_recursion FitsParameter (map (parameter_tree scope f.values) f.params)
        (parameters_fit f.params (recursion_from_All HasItsWords f.params h.words) (each_parameter f h));
    tail = h.tail.tokens;
    balanced = h.tail.balanced;
    blocks = all_blocks_fit f.blocks h.some (recursion_from_All (PrintableBlock f) f.blocks h.blocks);
  }
