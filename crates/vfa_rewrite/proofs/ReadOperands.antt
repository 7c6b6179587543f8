-- The operands that a block uses, and what may stand in the place of one, are among the names that are read there.
use Rattle.std.proofs.Common.{◌≡◌, ℕ, true, Option, Some, None, IsTrue, List, [], ◌∷◌, ◌++◌, map, flat_map, slice_get, refl, sym, subst}
use Rattle.std.specs.List.{AllByRecursion}
use Rattle.vfa_ir.specs.declared.operations.Op.{Op}
use Rattle.vfa_ir.specs.declared.operations.Operand.{Operand}
use Rattle.vfa_ir.specs.declared.operations.Ty.{Ty}
use Rattle.vfa_ir.specs.declared.functions.Block.{Block}
use Rattle.vfa_ir.specs.declared.functions.CallArg.{CallArg}
use Rattle.vfa_ir.specs.declared.functions.CallOp.{CallOp}
use Rattle.vfa_ir.specs.declared.functions.Function.{Function}
use Rattle.vfa_ir.specs.declared.functions.Inst.{Inst}
use Rattle.vfa_ir.specs.declared.functions.Term.{Term}
use Rattle.vfa_ir.specs.Defined.{operand_names, op_names, term_names}
use Rattle.vfa_ir.specs.Operands.{operands_of, arguments_of}
use Rattle.vfa_ir.specs.Walks.{is_in}
use Rattle.vfa_mean.specs.Moments.{IsLine}
use Rattle.vfa_mean.proofs.FreshOperands.Definitions.{in_left, in_right, in_first}
use Rattle.vfa_cond.specs.Narrowing.{deepest}
use Rattle.vfa_walk.specs.TruthReads.{Mentions, IsUsedAt, may_give_way, StandsFor, Follows, IsReadAt}
use Rattle.vfa_xfer.specs.Transfers.{fact_answers}
use Rattle.vfa_rewrite.specs.Marks.{term_operands}
use Rattle.vfa_walk.proofs.NarrowingReads.{IsAmong, AreAmong, are_among_more, operands_among, IsClosed}
use Rattle.vfa_rewrite.proofs.ReadStates.{AllRead, all_read, TermReads, BlockReads}

-- ---- operands by their names

module _ (P : ℕ → Type 0) where
  pub among_named : (x : Operand) → ((v : ℕ) → is_in v (operand_names x) ≡ true → P v) → IsAmong P x
  among_named (Operand.Value v) h = h v.0 (in_first v.0 v.0 [] refl)
  among_named (Operand.Literal x) h = tt
  among_named Operand.Poison h = tt

  abbrev pub AreAllAmong : List (Ty × Operand) → Type 0
  AreAllAmong list = AllByRecursion (λ (o : Ty × Operand). IsAmong P o.1) list

  args_among : (args : List CallArg) → ((v : ℕ) → is_in v (flat_map (λ (a : CallArg). operand_names a.value) args) ≡ true → P v) →
      AreAllAmong (map (λ (a : CallArg). (Ty.Int a.width, a.value)) args)
  args_among [] h = tt
  args_among (a ∷ args) h = (
    among_named a.value (λ v t. h v (in_left v (operand_names a.value) (flat_map (λ (a : CallArg). operand_names a.value) args) t)),
    args_among args (λ v t. h v (in_right v (operand_names a.value) (flat_map (λ (a : CallArg). operand_names a.value) args) t)),
  )

  call_among : (o : Option CallOp) → ((v : ℕ) → is_in v (elim o [ None ↦ [] | Some c ↦ flat_map (λ a. operand_names a.value) c.args ]) ≡ true → P v) → AreAllAmong (arguments_of o)
  call_among None h = tt
  call_among (Some c) h = args_among c.args h

  both_among : (a b : Operand) → ((v : ℕ) → is_in v (operand_names a ++ operand_names b) ≡ true → P v) → IsAmong P a × IsAmong P b
  both_among a b h = (
    among_named a (λ v t. h v (in_left v (operand_names a) (operand_names b) t)),
    among_named b (λ v t. h v (in_right v (operand_names a) (operand_names b) t)),
  )

  -- the operands of an operation, and that of a terminator
  pub operands_named : (f : Function) (op : Op) → ((v : ℕ) → is_in v (op_names f op) ≡ true → P v) → AreAllAmong (operands_of f op)
  operands_named f (Op.Bin bin flags w a b) h = let two = both_among a b h in (two.0, (two.1, tt))
  operands_named f (Op.Icmp pred samesign w a b) h = let two = both_among a b h in (two.0, (two.1, tt))
  operands_named f (Op.Select w c a b) h =
      let two = both_among a b (λ v t. h v (in_right v (operand_names c) (operand_names a ++ operand_names b) t)) in
      (among_named c (λ v t. h v (in_left v (operand_names c) (operand_names a ++ operand_names b) t)), (two.0, (two.1, tt)))
  operands_named f (Op.Cast cast flags v w a) h = (among_named a h, tt)
  operands_named f (Op.Freeze w a) h = (among_named a h, tt)
  operands_named f (Op.Two fun w a b) h = let two = both_among a b h in (two.0, (two.1, tt))
  operands_named f (Op.One fun w a strict) h = (among_named a h, tt)
  operands_named f (Op.Over over w a b) h = let two = both_among a b h in (two.0, (two.1, tt))
  operands_named f (Op.Part w pair index) h = (h pair.0 (in_first pair.0 pair.0 [] refl), tt)
  operands_named f (Op.Assume c) h = (among_named c h, tt)
  operands_named f (Op.Call w call) h = call_among (slice_get f.calls call) h

  pub term_named : (term : Term) → ((v : ℕ) → is_in v (term_names term) ≡ true → P v) → AreAllAmong (term_operands term)
  term_named (Term.Ret w a) h = (among_named a h, tt)
  term_named (Term.Br to) h = tt
  term_named (Term.CondBr c taken fallen) h = (among_named c h, tt)
  term_named (Term.Switch w on other cases) h = (among_named on h, tt)
  term_named Term.Unreachable h = tt

-- ---- names at a block

module _ (f : Function) where
  -- the block uses the name, or one in whose place it may stand
  pub record IsOperandAt (b v : ℕ) : Type 0 where
    pub used : ℕ
    pub is_used : IsUsedAt f b used
    pub stands : StandsFor f used v

  stands_further : (u v w : ℕ) (op : Op) → StandsFor f u v → Mentions f op v w → IsTrue (may_give_way op) → StandsFor f u w
  stands_further u v w op (StandsFor.itself x) mentions may = StandsFor.through x w w op mentions may (StandsFor.itself w)
  stands_further u v w op (StandsFor.through x y z own mentioned gives rest) mentions may = StandsFor.through x y w own mentioned gives (stands_further y z w op rest mentions may)

  pub used_operand : (b v : ℕ) → IsUsedAt f b v → IsOperandAt b v
  used_operand b v used = record { used = v; is_used = used; stands = StandsFor.itself v }

  pub further : (b v w : ℕ) (op : Op) → IsOperandAt b v → Mentions f op v w → IsTrue (may_give_way op) → IsOperandAt b w
  further b v w op at mentions may = record { used = at.used; is_used = at.is_used; stands = stands_further at.used v w op at.stands mentions may }

  pub operand_is_read : (b v : ℕ) → IsOperandAt b v → IsReadAt f b v
  operand_is_read b v at = IsReadAt.operand at.used v at.is_used at.stands (Follows.itself deepest v)

  used_closed : (b u : ℕ) → IsUsedAt f b u → IsClosed f (IsReadAt f b) deepest u
  used_closed b u used w follows = IsReadAt.operand u u used (StandsFor.itself u) follows

  -- ---- what is read of a block

  inst_reads : (b : ℕ) (block : Block) (i : ℕ) (inst : Inst) → IsLine f b block i inst → AreAmong (IsClosed f (IsReadAt f b) deepest) inst.op
  inst_reads b block i inst line =
      are_among_more (λ v. IsTrue (is_in v (op_names f inst.op))) (IsClosed f (IsReadAt f b) deepest)
      (λ v member. used_closed b v (IsUsedAt.by_instruction block i inst line member)) inst.op (operands_among f inst.op)

  term_reads : (b : ℕ) (block : Block) → slice_get f.blocks b ≡ Some block → (term : Term) → block.term ≡ term → TermReads fact_answers f (IsReadAt f b) term
  term_reads b block there (Term.Ret w a) is = tt
  term_reads b block there (Term.Br to) is = tt
  term_reads b block there (Term.CondBr c taken fallen) is = among_named (IsClosed f (IsReadAt f b) deepest) c
      (λ v member. used_closed b v (IsUsedAt.by_terminator block there (subst (λ t. is_in v (term_names t) ≡ true) (sym is) member)))
  term_reads b block there (Term.Switch w on other cases) is = among_named (IsClosed f (IsReadAt f b) deepest) on
      (λ v member. used_closed b v (IsUsedAt.by_terminator block there (subst (λ t. is_in v (term_names t) ≡ true) (sym is) member)))
  term_reads b block there Term.Unreachable is = tt

  pub block_reads : (b : ℕ) → BlockReads fact_answers f (IsReadAt f b) b
  block_reads b = record { insts = insts (slice_get f.blocks b) refl; end = λ block there. term_reads b block there block.term refl }
    where
      insts : (o : Option Block) → slice_get f.blocks b ≡ o → AllRead fact_answers f (IsReadAt f b) (elim o [ None ↦ [] | Some block ↦ block.insts ])
      insts None is = tt
      insts (Some block) is = all_read fact_answers f (IsReadAt f b) block.insts (λ i inst stands. inst_reads b block i inst (record { there = is; stands = stands }))
