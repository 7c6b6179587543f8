-- The names that a narrowed function uses are defined in it.
use Rattle.std.proofs.Common.{◌≡◌, ℕ, ◌<◌, Bool, true, false, cond, Option, Some, None, List, [], ◌∷◌, ◌++◌, map, flat_map, slice_get, length, refl, sym, ◌∙◌, ap, subst, arith, inl, inr}
use Rattle.std.specs.Prelude.{filter, IsSomeAnd}
use Rattle.std.specs.List.{cons_option}
use Rattle.vfa_ir.specs.declared.operations.BlockId.{BlockId}
use Rattle.vfa_ir.specs.declared.operations.Op.{Op}
use Rattle.vfa_ir.specs.declared.operations.Operand.{Operand}
use Rattle.vfa_ir.specs.declared.operations.ValueId.{ValueId}
use Rattle.vfa_ir.specs.declared.functions.Block.{Block}
use Rattle.vfa_ir.specs.declared.functions.CallArg.{CallArg}
use Rattle.vfa_ir.specs.declared.functions.CallOp.{CallOp}
use Rattle.vfa_ir.specs.declared.functions.Function.{Function}
use Rattle.vfa_ir.specs.declared.functions.Inst.{Inst}
use Rattle.vfa_ir.specs.declared.functions.Param.{Param}
use Rattle.vfa_ir.specs.declared.functions.Phi.{Phi}
use Rattle.vfa_ir.specs.declared.functions.Term.{Term}
use Rattle.vfa_ir.specs.Defined.{op_names, operand_names, term_names}
use Rattle.vfa_ir.specs.Printable.{IsOperand, PrintableOp, PrintableTerm, PrintableCall, PrintableArgument, block_ids, inst_ids, ids_of, call_place}
use Rattle.vfa_ir.specs.Walks.{is_in}
use Rattle.vfa_mean.specs.Moments.{IsLine, is_call}
use Rattle.vfa_mean.specs.Numbering.{each_number, names_used, HasItsNames}
use Rattle.vfa_mean.proofs.FreshOperands.Definitions.{or_right, in_left, in_right, in_cases, in_first, in_rest, first_or_rest}
use Rattle.vfa_mean.proofs.KeptParts.{to_range}
use Rattle.vfa_demand.specs.Rows.{needs_all}
use Rattle.vfa_bits.specs.Standing.{put_for}
use Rattle.vfa_demand.specs.Used.{by_terminator, by_phi, AreUsed}
use Rattle.vfa_bits.specs.Narrowed.{Choices, new_operation, new_line, new_entry, new_phi, with_operand, new_block, new_blocks, rewritten, is_used, stays, block_left, left, AreReached, must_stay}
use Rattle.vfa_bits.proofs.Chains.{Known, all_at}
use Rattle.vfa_bits.proofs.Kept.{all_kept, all_values, lost_place}
use Rattle.vfa_bits.proofs.LeftBlocks.{left_block, left_at, mapped_at, out_flat, entry_types, left_printable, called_left, call_is}
use Rattle.vfa_bits.proofs.LeftTyped.{line_left_printable}
use Rattle.vfa_bits.proofs.Narrowing.{in_flat, call_of, used_names}
use Rattle.vfa_bits.proofs.Places.{get_map, block_at}

-- ---- names are values of the function

pub operand_below : (g : Function) (w u : ℕ) (a : Operand) → IsOperand g w a → is_in u (operand_names a) ≡ true → u < length g.values
operand_below g w u (Operand.Value v) range t = elim (first_or_rest u v.0 [] t) [ inl e ↦ subst (λ n. n < length g.values) (sym e) range | inr n ↦ absurd (cc) ]
operand_below g w u (Operand.Literal c) range t = absurd (cc)
operand_below g w u Operand.Poison range t = absurd (cc)

two_below : (g : Function) (w u : ℕ) (a b : Operand) → IsOperand g w a → IsOperand g w b → is_in u (operand_names a ++ operand_names b) ≡ true → u < length g.values
two_below g w u a b r s t = elim (in_cases u (operand_names a) (operand_names b) t) [ inl k ↦ operand_below g w u a r k | inr k ↦ operand_below g w u b s k ]

op_below : (g : Function) (op : Op) (u : ℕ) → is_call op ≡ false → PrintableOp g op → is_in u (op_names g op) ≡ true → u < length g.values
op_below g (Op.Bin bin flags w a b) u plain r t = two_below g w u a b r.1.first r.1.second t
op_below g (Op.Icmp pred samesign w a b) u plain r t = two_below g w u a b r.first r.second t
op_below g (Op.Select w c a b) u plain r t = elim (in_cases u (operand_names c) (operand_names a ++ operand_names b) t) [
  | inl k ↦ operand_below g 1 u c r.0 k
  | inr k ↦ two_below g w u a b r.1.first r.1.second k
]
op_below g (Op.Cast cast flags v w a) u plain r t = operand_below g v u a r.2 t
op_below g (Op.Freeze w a) u plain r t = operand_below g w u a r.1 t
op_below g (Op.Two fun w a b) u plain r t = two_below g w u a b r.first r.second t
op_below g (Op.One fun w a strict) u plain r t = operand_below g w u a r.1 t
op_below g (Op.Over over w a b) u plain r t = two_below g w u a b r.first r.second t
op_below g (Op.Part w pair index) u plain r t = elim (first_or_rest u pair.0 [] t) [ inl e ↦ subst (λ n. n < length g.values) (sym e) r.1 | inr n ↦ absurd (cc) ]
op_below g (Op.Assume c) u plain r t = operand_below g 1 u c r t
op_below g (Op.Call width place) u plain r t = absurd (cc)

pub term_below : (g : Function) (term : Term) (u : ℕ) → PrintableTerm g term → is_in u (term_names term) ≡ true → u < length g.values
term_below g (Term.Ret w a) u r t = operand_below g w u a r.1 t
term_below g (Term.Br to) u r t = absurd (cc)
term_below g (Term.CondBr c taken fallen) u r t = operand_below g 1 u c r.0 t
term_below g (Term.Switch w on other cases) u r t = operand_below g w u on r.1 t
term_below g Term.Unreachable u r t = absurd (cc)

call_below : (g : Function) (o : Option CallOp) (u : ℕ) → IsSomeAnd o (PrintableCall g) → is_in u (elim o [ None ↦ [] | Some c ↦ flat_map (λ a. operand_names a.value) c.args ]) ≡ true → u < length g.values
call_below g None u r t = absurd r
call_below g (Some c) u r t =
    let k = out_flat (λ (a : CallArg). operand_names a.value) c.args u t in
    operand_below g k.from.width u k.from.value (all_at (PrintableArgument g) c.args k.place k.from r.arguments k.there).value k.inside

-- a call comes from a call
old_call : (f : Function) (masks : ℕ → ℕ) (by : Choices) (b : ℕ) (inst : Inst) (width : Option ℕ) (place : ℕ) → new_operation f masks by b inst ≡ Op.Call width place → (w : Option ℕ) × (inst.op ≡ Op.Call w place)
old_call f masks by b inst width place e = call_is inst.op place (sym (lost_place f masks by b inst) ∙ ap call_place e)

-- the lines do not matter
pub names_left : (used : ℕ → Bool) (r : Function) (op : Op) → op_names (left used r) op ≡ op_names r op
names_left used r (Op.Bin bin flags w a b) = refl
names_left used r (Op.Icmp pred samesign w a b) = refl
names_left used r (Op.Select w c a b) = refl
names_left used r (Op.Cast cast flags v w a) = refl
names_left used r (Op.Freeze w a) = refl
names_left used r (Op.Two fun w a b) = refl
names_left used r (Op.One fun w a strict) = refl
names_left used r (Op.Over over w a b) = refl
names_left used r (Op.Part w pair index) = refl
names_left used r (Op.Assume c) = refl
names_left used r (Op.Call width place) = refl

-- the names that a line uses which is written anew are values
pub line_names_below : (f : Function) (masks : ℕ → ℕ) (by : Choices) (used : ℕ → Bool) → Known f masks by.changed → (b : ℕ) (block : Block) (i : ℕ) (inst : Inst) (u : ℕ) → IsLine f b block i inst →
    is_in u (op_names (left used (rewritten f masks by)) (new_operation f masks by b inst)) ≡ true → u < length f.values
line_names_below f masks by used known b block i inst u line name = here (is_call (new_operation f masks by b inst)) refl
  where
    here : (s : Bool) → is_call (new_operation f masks by b inst) ≡ s → u < length f.values
    here false plain = op_below (left used (rewritten f masks by)) (new_operation f masks by b inst) u plain (line_left_printable f masks by used known b block i inst line) name
    here true e =
        let c = call_of (new_operation f masks by b inst) e in
        let old = old_call f masks by b inst c.width c.place c.is in
        call_below (left used (rewritten f masks by)) _ u (called_left f masks by used known b block i inst old.0 c.place line old.1)
        (subst (λ o. is_in u (op_names (left used (rewritten f masks by)) o) ≡ true) c.is name)

module _ (f : Function) (masks : ℕ → ℕ) (by : Choices) (used : ℕ → Bool) (known : Known f masks by.changed) (are_reached : AreReached f by.reached) (are_used : AreUsed (rewritten f masks by) (must_stay (rewritten f masks by)) used) where
  -- ---- a used name that the function defines is left

  pub phi_left : (phis : List Phi) (u : ℕ) → used u ≡ true → is_in u (map (λ (p : Phi). p.result.0) phis) ≡ true →
      is_in u (map (λ (p : Phi). p.result.0) (filter (λ (p : Phi). used p.result.0) (map (new_phi f masks by) phis))) ≡ true
  phi_left [] u is t = t
  phi_left (phi ∷ rest) u is t = here (used phi.result.0) refl (phi_left rest u is)
    where
      here : (s : Bool) → used phi.result.0 ≡ s → (is_in u (map (λ (p : Phi). p.result.0) rest) ≡ true → is_in u (map (λ (p : Phi). p.result.0) (filter (λ (p : Phi). used p.result.0) (map (new_phi f masks by) rest))) ≡ true) →
          is_in u (map (λ (p : Phi). p.result.0) (cond s (new_phi f masks by phi ∷ filter (λ (p : Phi). used p.result.0) (map (new_phi f masks by) rest)) (filter (λ (p : Phi). used p.result.0) (map (new_phi f masks by) rest)))) ≡ true
      here true e again = elim (first_or_rest u phi.result.0 (map (λ (p : Phi). p.result.0) rest) t) [
        | inl k ↦ in_first u phi.result.0 _ k
        | inr k ↦ in_rest u phi.result.0 _ (again k)
      ]
      here false e again = elim (first_or_rest u phi.result.0 (map (λ (p : Phi). p.result.0) rest) t) [
        | inl k ↦ absurd (let h = subst (λ n. used n ≡ true) k is in cc)
        | inr k ↦ again k
      ]

  pub line_left : (b : ℕ) (insts : List Inst) (u : ℕ) → used u ≡ true → is_in u (inst_ids insts) ≡ true → is_in u (inst_ids (filter (stays used) (map (new_line f masks by b) insts))) ≡ true
  line_left b [] u is t = t
  line_left b (inst ∷ rest) u is t = here (stays used (new_line f masks by b inst)) refl (line_left b rest u is) inst.result refl t
    where
      id_in : Option ValueId → Option ℕ
      id_in o = elim o [ None ↦ None | Some v ↦ Some v.0 ]

      here : (s : Bool) → stays used (new_line f masks by b inst) ≡ s → (is_in u (inst_ids rest) ≡ true → is_in u (inst_ids (filter (stays used) (map (new_line f masks by b) rest))) ≡ true) →
          (o : Option ValueId) → inst.result ≡ o → is_in u (cons_option (elim o [ None ↦ None | Some v ↦ Some v.0 ]) (inst_ids rest)) ≡ true →
          is_in u (inst_ids (cond s (new_line f masks by b inst ∷ filter (stays used) (map (new_line f masks by b) rest)) (filter (stays used) (map (new_line f masks by b) rest)))) ≡ true
      here true e again None r t = subst (λ o. is_in u (cons_option (elim o [ None ↦ None | Some v ↦ Some v.0 ]) (inst_ids (filter (stays used) (map (new_line f masks by b) rest)))) ≡ true) (sym r) (again t)
      here true e again (Some v) r t = subst (λ o. is_in u (cons_option (elim o [ None ↦ None | Some v ↦ Some v.0 ]) (inst_ids (filter (stays used) (map (new_line f masks by b) rest)))) ≡ true) (sym r)
          (elim (first_or_rest u v.0 (inst_ids rest) t) [ inl k ↦ in_first u v.0 _ k | inr k ↦ in_rest u v.0 _ (again k) ])
      here false e again None r t = again t
      here false e again (Some v) r t = elim (first_or_rest u v.0 (inst_ids rest) t) [
        | inl k ↦ absurd (
            let h = subst (λ n. used n ≡ true) k is in
            let stay = or_right (needs_all (new_operation f masks by b inst)) (is_used used inst.result) (ap (is_used used) r ∙ h) in cc
            )
        | inr k ↦ again k
      ]

  left_has : (u : ℕ) → used u ≡ true → is_in u (ids_of f) ≡ true → is_in u (ids_of (left used (rewritten f masks by))) ≡ true
  left_has u is t = elim (in_cases u (map (λ (p : Param). p.value.0) f.params) (flat_map block_ids f.blocks) t) [
    | inl k ↦ in_left u (map (λ (p : Param). p.value.0) f.params) _ k
    | inr k ↦
        let r = out_flat block_ids f.blocks u k in
        let block = r.from in
        in_right u (map (λ (p : Param). p.value.0) f.params) _
        (in_flat block_ids (map (block_left used) (new_blocks f masks by 0 f.blocks)) r.place (block_left used (new_block f masks by r.place block)) u
        (get_map (block_left used) (new_blocks f masks by 0 f.blocks) r.place (new_block f masks by r.place block) (block_at f masks by r.place block r.there))
        (elim (in_cases u (map (λ (p : Phi). p.result.0) block.phis) (inst_ids block.insts) r.inside) [
          | inl h ↦ in_left u (map (λ (p : Phi). p.result.0) (filter (λ (p : Phi). used p.result.0) (map (new_phi f masks by) block.phis))) _ (phi_left block.phis u is h)
          | inr h ↦ in_right u (map (λ (p : Phi). p.result.0) (filter (λ (p : Phi). used p.result.0) (map (new_phi f masks by) block.phis))) _ (line_left r.place block.insts u is h)
        ]))
  ]

  defined_left : (u : ℕ) → used u ≡ true → u < length f.values → is_in u (ids_of (left used (rewritten f masks by))) ≡ true
  defined_left u is below = left_has u is (subst (λ xs. is_in u xs ≡ true) (sym known.printable.ids) (to_range 0 (length f.values) u (omega arith) (omega arith)))

  -- ---- what is left uses used names

  module _ (b : ℕ) (block : Block) (there : slice_get f.blocks b ≡ Some block) (u : ℕ) where
    pub phi_names_used : is_in u (flat_map (λ (p : Phi). flat_map (λ e. operand_names e.0) p.entries) (filter (λ (p : Phi). used p.result.0) (map (new_phi f masks by) block.phis))) ≡ true →
        (used u ≡ true) × (u < length f.values)
    phi_names_used t =
        let phis = filter (λ (p : Phi). used p.result.0) (map (new_phi f masks by) block.phis) in
        let k = out_flat (λ (p : Phi). flat_map (λ (e : Operand × BlockId). operand_names e.0) p.entries) phis u t in
        let l = left_at (λ (p : Phi). used p.result.0) (new_phi f masks by) block.phis k.place k.from k.there in
        let inside : is_in u (flat_map (λ (e : Operand × BlockId). operand_names e.0) (map (new_entry f masks by) l.from.entries)) ≡ true =
        subst (λ (p : Phi). is_in u (flat_map (λ (e : Operand × BlockId). operand_names e.0) p.entries) ≡ true) (sym l.is) k.inside in
        let e = out_flat (λ (e : Operand × BlockId). operand_names e.0) (map (new_entry f masks by) l.from.entries) u inside in
        let m = mapped_at (new_entry f masks by) l.from.entries e.place e.from e.there in
        let name : is_in u (operand_names (put_for f masks (by.reached m.from.1.0) m.from.0)) ≡ true = subst (λ (d : Operand × BlockId). is_in u (operand_names d.0) ≡ true) (sym m.is) e.inside in (
          (are_used u).1 (by_phi b (new_block f masks by b block) l.place (new_phi f masks by l.from) e.place (new_entry f masks by m.from) u (block_at f masks by b block there)
              (get_map (new_phi f masks by) block.phis l.place l.from l.there) ((are_used l.from.result.0).0 l.kept) (get_map (new_entry f masks by) l.from.entries e.place m.from m.there) name),
          operand_below (left used (rewritten f masks by)) l.from.width u (put_for f masks (by.reached m.from.1.0) m.from.0)
              (entry_types f masks by used known b block there l.place l.from l.there e.place m.from m.there).range name,
        )

    pub line_names_used : is_in u (flat_map (λ (i : Inst). op_names (left used (rewritten f masks by)) i.op) (filter (stays used) (map (new_line f masks by b) block.insts))) ≡ true →
        (used u ≡ true) × (u < length f.values)
    line_names_used t =
        let insts = filter (stays used) (map (new_line f masks by b) block.insts) in
        let k = out_flat (λ (i : Inst). op_names (left used (rewritten f masks by)) i.op) insts u t in
        let l = left_at (stays used) (new_line f masks by b) block.insts k.place k.from k.there in
        let line : IsLine f b block l.place l.from = record { there = there; stands = l.there } in
        let name : is_in u (op_names (left used (rewritten f masks by)) (new_operation f masks by b l.from)) ≡ true =
        subst (λ (i : Inst). is_in u (op_names (left used (rewritten f masks by)) i.op) ≡ true) (sym l.is) k.inside in (
          used_names f masks by used known are_reached are_used b block l.place l.from line l.kept u
              (subst (λ xs. is_in u xs ≡ true) (names_left used (rewritten f masks by) (new_operation f masks by b l.from)) name),
          line_names_below f masks by used known b block l.place l.from u line name,
        )

    pub term_names_used : is_in u (term_names (with_operand (put_for f masks (by.reached b)) block.term)) ≡ true → (used u ≡ true) × (u < length f.values)
    term_names_used t = (
      (are_used u).1 (by_terminator b (new_block f masks by b block) u (block_at f masks by b block there) t),
      term_below (left used (rewritten f masks by)) (with_operand (put_for f masks (by.reached b)) block.term) u (left_printable f masks by used known b block there).term t,
    )

    block_names_used : is_in u (names_used (left used (rewritten f masks by)) (block_left used (new_block f masks by b block))) ≡ true → (used u ≡ true) × (u < length f.values)
    block_names_used t = elim (in_cases u (flat_map (λ (p : Phi). flat_map (λ e. operand_names e.0) p.entries) (filter (λ (p : Phi). used p.result.0) (map (new_phi f masks by) block.phis))) _ t) [
      | inl k ↦ phi_names_used k
      | inr k ↦ elim (in_cases u (flat_map (λ (i : Inst). op_names (left used (rewritten f masks by)) i.op) (filter (stays used) (map (new_line f masks by b) block.insts))) _ k) [
        | inl h ↦ line_names_used h
        | inr h ↦ term_names_used h
      ]
    ]

  pub has_its_names : HasItsNames (left used (rewritten f masks by)) each_number
  has_its_names u t =
      let all = subst (λ bs. is_in u (flat_map (names_used (left used (rewritten f masks by))) bs) ≡ true) (all_kept (left used (rewritten f masks by))) t in
      let k = out_flat (names_used (left used (rewritten f masks by))) (map (block_left used) (new_blocks f masks by 0 f.blocks)) u all in
      let l = left_block f masks by used known k.place k.from k.there in
      let r = block_names_used k.place l.block l.there u (subst (λ (c : Block). is_in u (names_used (left used (rewritten f masks by)) c) ≡ true) (sym l.is) k.inside) in
      subst (λ xs. is_in u xs ≡ true) (sym (all_values (left used (rewritten f masks by)))) (defined_left u r.0 r.1)
