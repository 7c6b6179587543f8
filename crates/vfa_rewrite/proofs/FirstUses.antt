-- The first step of rewriting uses names of the function's values alone.
use Rattle.std.proofs.Common.{◌≡◌, ◌<◌, ℕ, zero, suc, ◌+◌, ◌++◌, Bool, true, false, Option, Some, None, List, [], ◌∷◌, All, flat_map, map, length, slice_get, refl, sym, ap, ◌∙◌, subst, inl, inr, arith, append-nil}
use Rattle.std.proofs.lemmas.Bool.{cases_Bool}
use Rattle.vfa_ir.specs.declared.operations.BlockId.{BlockId}
use Rattle.vfa_ir.specs.declared.operations.Op.{Op}
use Rattle.vfa_ir.specs.declared.operations.Operand.{Operand}
use Rattle.vfa_ir.specs.declared.operations.Ty.{Ty}
use Rattle.vfa_ir.specs.declared.functions.Block.{Block}
use Rattle.vfa_ir.specs.declared.functions.CallArg.{CallArg}
use Rattle.vfa_ir.specs.declared.functions.CallOp.{CallOp}
use Rattle.vfa_ir.specs.declared.functions.Function.{Function}
use Rattle.vfa_ir.specs.declared.functions.Inst.{Inst}
use Rattle.vfa_ir.specs.declared.functions.Phi.{Phi}
use Rattle.vfa_ir.specs.declared.functions.Term.{Term}
use Rattle.vfa_ir.specs.Defined.{Defined, operand_names, op_names, term_names}
use Rattle.vfa_ir.specs.Printable.{IsPrintable, IsOperand, IsBlock, PrintableArgument, PrintableBlock, PrintableCall, PrintablePhi, PrintableTerm}
use Rattle.vfa_ir.specs.Words.{is_in}
use Rattle.vfa_demand.specs.Behind.{phi_names}
use Rattle.vfa_demand.specs.Used.{UsesItsValues}
use Rattle.vfa_demand.proofs.Members.{out_joined}
use Rattle.vfa_mean.specs.Moments.{Place, Into, At, IsLine, is_call}
use Rattle.vfa_mean.specs.Numbering.{names_used}
use Rattle.vfa_mean.specs.Outcomes.{type_of}
use Rattle.vfa_mean.proofs.FreshOperands.Definitions.{in_cases, first_or_rest}
use Rattle.vfa_rules.specs.declared.change.Change.{Change}
use Rattle.vfa_walk.proofs.TruthTypes.{each_of}
use Rattle.vfa_rewrite.specs.Chains.{becoming, if_undecided, other, other_for}
use Rattle.vfa_rewrite.specs.Findings.{Decision, OneNumber, NoNumber, Undecided, Findings, IsUsable, AreUsable, AreFitting, operation_of}
use Rattle.vfa_rewrite.specs.Making.{put_at, put_if, call_place, put_call_at, work_at, first_marks}
use Rattle.vfa_rewrite.specs.Rewritten.{Marks, with_operands, argument_left, call_left, changed, changed_by, if_stays, if_met, lines_left, shrunk, term_if_met, if_counted, one_fewer, entries_left, phi_left, kept_phis, phis_if_met, phis_left, edges_of, rewritten_block, emptied, if_block_left, block_left, rewritten}
use Rattle.vfa_rewrite.specs.Sound.{term_operand}
use Rattle.vfa_rewrite.proofs.Chains.{other_is}
use Rattle.vfa_rewrite.proofs.EdgesLeft.{left_block}
use Rattle.vfa_rewrite.proofs.BlocksLeft.{flat_both}
use Rattle.vfa_rewrite.proofs.KeptNames.{operand_below, changed_plain, shrunk_names}
use Rattle.vfa_rewrite.proofs.FirstStep.{line_there}
use Rattle.vfa_rewrite.proofs.Lines.{call_tells}
use Rattle.vfa_rewrite.proofs.LookedUp.{made_of}
use Rattle.vfa_rewrite.proofs.PutOperands.{replaced_fits}

module _ (f : Function) (printable : IsPrintable f) (defined : Defined f) (found : Findings) (fits : AreFitting f found) where
  abbrev AreBelow : List ℕ → Type 0
  AreBelow names = (v : ℕ) → is_in v names ≡ true → v < length f.values

  none_below : AreBelow []
  none_below v t = absurd (cc)

  both_below : (xs ys : List ℕ) → AreBelow xs → AreBelow ys → AreBelow (xs ++ ys)
  both_below xs ys h k v t = elim (in_cases v xs ys t) [ inl l ↦ h v l | inr r ↦ k v r ]

  range_below : (w : ℕ) (a : Operand) → IsOperand f w a → AreBelow (operand_names a)
  range_below w (Operand.Value n) range v t = elim (first_or_rest v n.0 [] t) [
    | inl e ↦ subst (λ k. k < length f.values) (sym e) range
    | inr r ↦ absurd (let s : false ≡ true = r in cc)
  ]
  range_below w (Operand.Literal x) range v t = absurd (cc)
  range_below w Operand.Poison range v t = absurd (cc)

  usable_below : (place : Place) (ty : Ty) (a : Operand) → IsUsable f place ty a → AreBelow (operand_names a)
  usable_below place ty a usable v t = operand_below f ty a v usable.typed t

  -- ---- what is put in place of operands

  other_below : (n : ℕ) (u : Operand) → other_for f found n ≡ Some u → AreBelow (operand_names u)
  other_below n u e v t = let r = other_is f found n u e in operand_below f _ u v (replaced_fits f printable defined found fits n u r).fits.1 t

  taken_below : (a u : Operand) → other f found a ≡ Some u → AreBelow (operand_names u)
  taken_below (Operand.Value n) u e = other_below n.0 u e
  taken_below (Operand.Literal x) u e = absurd (cc)
  taken_below Operand.Poison u e = absurd (cc)

  decided_below : (d : Decision) (a : Operand) → AreBelow (operand_names a) → AreBelow (operand_names (if_undecided d a))
  decided_below (OneNumber x) a below v t = absurd (cc)
  decided_below NoNumber a below v t = absurd (cc)
  decided_below Undecided a below v t = below v t

  becoming_below : (place : Place) (ty : Ty) (n : ℕ) (a : Operand) → AreBelow (operand_names a) → AreBelow (operand_names (becoming f found place ty n a))
  becoming_below place ty zero a below = decided_below (found.decision place ty a) a below
  becoming_below place ty (suc n) a below =
      decided_below (found.decision place ty a) (elim (other f found a) [ None ↦ a | Some u ↦ becoming f found place ty n u ])
      (by (other f found a) refl (becoming_below place ty n))
    where
      by : (o : Option Operand) → other f found a ≡ o → ((u : Operand) → AreBelow (operand_names u) → AreBelow (operand_names (becoming f found place ty n u))) →
          AreBelow (operand_names (elim o [ None ↦ a | Some u ↦ becoming f found place ty n u ]))
      by None e again = below
      by (Some u) e again = again u (taken_below a u e)

  put_below : (place : Place) (a : Operand) → AreBelow (operand_names a) → AreBelow (operand_names (put_at f found place a))
  put_below place (Operand.Value n) below = becoming_below place (type_of f n) (length f.values) (Operand.Value n) below
  put_below place (Operand.Literal x) below = below
  put_below place Operand.Poison below = below

  put_if_below : (place : Option Place) (a : Operand) → AreBelow (operand_names a) → AreBelow (operand_names (put_if f found place a))
  put_if_below None a below = below
  put_if_below (Some place) a below = put_below place a below

  -- ---- operations

  module _ (place : Place) where
    abbrev Two : ℕ → Operand → Operand → Type 0
    Two w a b = IsUsable f place (Ty.Int w) a × IsUsable f place (Ty.Int w) b

    one_put : (ty : Ty) (a : Operand) → IsUsable f place ty a → AreBelow (operand_names (put_at f found place a))
    one_put ty a usable = put_below place a (usable_below place ty a usable)

    two_put : (w : ℕ) (a b : Operand) → Two w a b → AreBelow (operand_names (put_at f found place a) ++ operand_names (put_at f found place b))
    two_put w a b usable = both_below (operand_names (put_at f found place a)) (operand_names (put_at f found place b)) (one_put (Ty.Int w) a usable.0) (one_put (Ty.Int w) b usable.1)

    operation_below : (g : Function) (op : Op) → is_call op ≡ false → AreUsable f place op → AreBelow (op_names g (with_operands (put_at f found place) op))
    operation_below g (Op.Bin bin flags w a b) plain usable = two_put w a b usable
    operation_below g (Op.Icmp pred samesign w a b) plain usable = two_put w a b usable
    operation_below g (Op.Select w c a b) plain usable =
        both_below (operand_names (put_at f found place c)) (operand_names (put_at f found place a) ++ operand_names (put_at f found place b))
        (one_put (Ty.Int 1) c usable.0) (two_put w a b (usable.1, usable.2))
    operation_below g (Op.Cast cast flags v w a) plain usable = one_put (Ty.Int v) a usable
    operation_below g (Op.Freeze w a) plain usable = one_put (Ty.Int w) a usable
    operation_below g (Op.Two fun w a b) plain usable = two_put w a b usable
    operation_below g (Op.One fun w a strict) plain usable = one_put (Ty.Int w) a usable
    operation_below g (Op.Over over w a b) plain usable = two_put w a b usable
    operation_below g (Op.Part w pair index) plain usable = λ v t. operand_below f (Ty.Pair w) (Operand.Value pair) v usable.typed t
    operation_below g (Op.Assume c) plain usable = one_put (Ty.Int 1) c usable
    operation_below g (Op.Call w call) plain usable = absurd (cc)

  module _ (reached : ℕ → Bool) where
    abbrev marks : Marks
    marks = first_marks f found reached

    abbrev first_step : Function
    first_step = rewritten f (first_marks f found reached)

    -- ---- calls

    arguments_below : (put : Operand → Operand) → ((a : Operand) → AreBelow (operand_names a) → AreBelow (operand_names (put a))) → (args : List CallArg) →
        ((j : ℕ) (a : CallArg) → slice_get args j ≡ Some a → AreBelow (operand_names a.value)) →
        AreBelow (flat_map (λ (a : CallArg). operand_names a.value) (map (argument_left put) args))
    arguments_below put keeps [] below = none_below
    arguments_below put keeps (a ∷ args) below =
        both_below (operand_names (put a.value)) (flat_map (λ (a : CallArg). operand_names a.value) (map (argument_left put) args))
        (keeps a.value (below 0 a refl)) (arguments_below put keeps args (λ j b e. below (suc j) b e))

    abbrev names_passed : Option CallOp → List ℕ
    names_passed o = elim o [ None ↦ [] | Some c ↦ flat_map (λ (a : CallArg). operand_names a.value) c.args ]

    call_below : (k : ℕ) → AreBelow (names_passed (slice_get first_step.calls k))
    call_below k = by (slice_get first_step.calls k) refl
      where
        by : (o : Option CallOp) → slice_get first_step.calls k ≡ o → AreBelow (names_passed o)
        by None e = none_below
        by (Some c) e =
            let made = made_of (call_left marks) 0 f.calls k k c (omega arith) e in
            let old : PrintableCall f made.x = each_of (PrintableCall f) f.calls k made.x printable.calls made.there in
            subst (λ (c : CallOp). AreBelow (flat_map (λ (a : CallArg). operand_names a.value) c.args)) made.is
            (arguments_below (put_call_at f found reached k) (put_if_below (call_place f found reached k)) made.x.args
            (λ j a e. range_below a.width a.value (each_of (PrintableArgument f) made.x.args j a old.arguments e).value))

    -- ---- lines

    module _ (b : ℕ) (block : Block) (there : slice_get f.blocks b ≡ Some block) where
      abbrev names_of : List Inst → List ℕ
      names_of insts = flat_map (λ (i : Inst). op_names first_step i.op) insts

      work_below : (i : ℕ) (inst : Inst) → slice_get block.insts i ≡ Some inst → found.met b i ≡ true →
          AreBelow (op_names first_step (with_operands (put_at f found (At b i)) (operation_of (found.change b i inst) inst.op)))
      work_below i inst stands met = elim (cases_Bool (is_call inst.op)) [
        | inl call ↦
            let c = call_tells inst.op call in
            let kept : operation_of (found.change b i inst) inst.op ≡ Op.Call c.width c.place =
            ap (λ change. operation_of change inst.op) (fits.call b block i inst line call) ∙ c.is in
            subst (λ op. AreBelow (op_names first_step (with_operands (put_at f found (At b i)) op))) (sym kept) (call_below c.place)
        | inr plain ↦
            let change = fits.change b block i inst line met plain in
            operation_below (At b i) first_step (operation_of (found.change b i inst) inst.op) (changed_plain f inst.op (found.change b i inst) change.fits plain) change.usable
      ]
        where
          line : IsLine f b block i inst
          line = record { there = there; stands = stands }

      here_below : (i : ℕ) (inst : Inst) → slice_get block.insts i ≡ Some inst → found.met b i ≡ true → AreBelow (names_of (changed marks b i inst))
      here_below i inst stands met =
          subst (λ change. AreBelow (names_of (changed_by change marks b i inst))) (sym same)
          (both_below (op_names first_step (with_operands (put_at f found (At b i)) (operation_of (found.change b i inst) inst.op))) [] (work_below i inst stands met) none_below)
        where
          same : marks.change b i ≡ Change.Keep (operation_of (found.change b i inst) inst.op)
          same = ap (λ o. elim o [ None ↦ Change.Gone | Some inst ↦ Change.Keep (operation_of (found.change b i inst) inst.op) ]) (line_there f b block i inst there stands)

      lines_below : (rest : List Inst) (i : ℕ) → ((j : ℕ) (inst : Inst) → slice_get rest j ≡ Some inst → slice_get block.insts (i + j) ≡ Some inst) →
          AreBelow (names_of (lines_left marks b i rest))
      lines_below [] i from = none_below
      lines_below (inst ∷ rest) i from = by (found.met b i) refl
          (lines_below rest (suc i) (λ j other e. let z : suc i + j ≡ i + suc j = omega arith in ap (slice_get block.insts) z ∙ from (suc j) other e))
        where
          stands : slice_get block.insts i ≡ Some inst
          stands = let z : i + 0 ≡ i = omega arith in sym (ap (slice_get block.insts) z) ∙ from 0 inst refl

          by : (t : Bool) → found.met b i ≡ t → AreBelow (names_of (lines_left marks b (suc i) rest)) →
              AreBelow (names_of (if_met t (if_stays true (changed marks b i inst) (lines_left marks b (suc i) rest))))
          by true met later =
              subst AreBelow (sym (flat_both (λ (i : Inst). op_names first_step i.op) (changed marks b i inst) (lines_left marks b (suc i) rest)))
              (both_below (names_of (changed marks b i inst)) (names_of (lines_left marks b (suc i) rest)) (here_below i inst stands met) later)
          by false met later = none_below

      -- ---- phis

      entries_below : (entries : List (Operand × BlockId)) (count : ℕ → ℕ) → ((j : ℕ) (e : Operand × BlockId) → slice_get entries j ≡ Some e → AreBelow (operand_names e.0)) →
          AreBelow (flat_map (λ (e : Operand × BlockId). operand_names e.0) (entries_left marks b entries count))
      entries_below [] count below = none_below
      entries_below (e ∷ rest) count below = by (count e.1.0) (λ later. entries_below rest later (λ j d h. below (suc j) d h))
        where
          by : (n : ℕ) → ((later : ℕ → ℕ) → AreBelow (flat_map (λ (e : Operand × BlockId). operand_names e.0) (entries_left marks b rest later))) →
              AreBelow (flat_map (λ (e : Operand × BlockId). operand_names e.0)
              (if_counted n ((put_at f found (Into (Some e.1.0) b) e.0, e.1) ∷ entries_left marks b rest (one_fewer count e.1.0)) (entries_left marks b rest count)))
          by zero again = again count
          by (suc n) again =
              both_below (operand_names (put_at f found (Into (Some e.1.0) b) e.0)) (flat_map (λ (e : Operand × BlockId). operand_names e.0) (entries_left marks b rest (one_fewer count e.1.0)))
              (put_below (Into (Some e.1.0) b) e.0 (below 0 e refl)) (again (one_fewer count e.1.0))

      phis_below : (phis : List Phi) → ((j : ℕ) (phi : Phi) → slice_get phis j ≡ Some phi → PrintablePhi f phi) → AreBelow (flat_map phi_names (kept_phis f marks b phis))
      phis_below [] each = none_below
      phis_below (phi ∷ rest) each =
          both_below (phi_names (phi_left f marks b phi)) (flat_map phi_names (kept_phis f marks b rest))
          (entries_below phi.entries (edges_of f marks b)
          (λ j e h. range_below phi.width e.0 (each_of (λ (e : Operand × BlockId). IsOperand f phi.width e.0 × IsBlock f e.1) phi.entries j e (each 0 phi refl).entries h).0))
          (phis_below rest (λ j p h. each (suc j) p h))

      -- ---- terminators

      term_below : (put : Operand → Operand) → ((a : Operand) → AreBelow (operand_names a) → AreBelow (operand_names (put a))) → (term : Term) → PrintableTerm f term →
          AreBelow (operand_names (put (term_operand term)))
      term_below put keeps (Term.Ret w a) h = keeps a (range_below w a h.1)
      term_below put keeps (Term.Br to) h = keeps Operand.Poison none_below
      term_below put keeps (Term.CondBr c taken fallen) h = keeps c (range_below 1 c h.0)
      term_below put keeps (Term.Switch w on other cases) h = keeps on (range_below w on h.1)
      term_below put keeps Term.Unreachable h = keeps Operand.Poison none_below

      printed : PrintableBlock f block
      printed = each_of (PrintableBlock f) f.blocks b block printable.blocks there

      end_below : (t : Bool) → AreBelow (term_names (term_if_met t (shrunk (put_at f found (At b (length block.insts))) (found.left b) block.term)))
      end_below true v t =
          term_below (put_at f found (At b (length block.insts))) (put_below (At b (length block.insts))) block.term printed.term v
          (shrunk_names (put_at f found (At b (length block.insts))) (found.left b) block.term v t)
      end_below false v t = absurd (cc)

      met_phis_below : (t : Bool) → AreBelow (flat_map phi_names (phis_if_met t (kept_phis f marks b block.phis)))
      met_phis_below true = phis_below block.phis (λ j phi e. each_of (PrintablePhi f) block.phis j phi printed.phis e)
      met_phis_below false = none_below

      whole_below : AreBelow (names_used first_step (rewritten_block f marks b block))
      whole_below =
          both_below (flat_map phi_names (phis_left f marks b block.phis)) (names_of (lines_left marks b 0 block.insts) ++ term_names (term_if_met (found.met b (length block.insts)) _))
          (met_phis_below (found.met b 0))
          (both_below (names_of (lines_left marks b 0 block.insts)) (term_names (term_if_met (found.met b (length block.insts)) _))
          (lines_below block.insts 0 (λ j inst e. let z : 0 + j ≡ j = omega arith in ap (slice_get block.insts) z ∙ e)) (end_below (found.met b (length block.insts))))

      block_below : (t : Bool) → AreBelow (names_used first_step (if_block_left t (rewritten_block f marks b block) (emptied block)))
      block_below true = whole_below
      block_below false = none_below

    pub uses_its_values : UsesItsValues first_step
    uses_its_values v t =
        let at = out_joined (names_used first_step) first_step.blocks v t in
        let left = left_block f marks at.place at.from at.there in
        let below = block_below at.place left.block left.there (reached at.place) v
        (subst (λ (c : Block). is_in v (names_used first_step c) ≡ true) (sym left.is) at.inside) in
        subst (λ n. v < n) (sym (ap length (append-nil f.values))) below
