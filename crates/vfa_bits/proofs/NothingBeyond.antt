-- Nothing is asked of numbers that are no value's, so they count as changed.
use Rattle.std.proofs.Common.{◌≡◌, ℕ, suc, ◌+◌, ◌<◌, ◌≤◌, ◌^◌, Bool, true, false, cond, ◌&&◌, nat_eq, Option, Some, None, List, [], ◌∷◌, ◌++◌, map, flat_map, length, slice_get, refl, sym, ap, ◌∙◌, subst, arith, lit<, append-nil, bit_and}
use Rattle.std.specs.Prelude.{nat_lt, not}
use Rattle.std.specs.Option.{option_map_or}
use Rattle.std.specs.Int.Bits.{and_zero_r}
use Rattle.std.proofs.lemmas.Bool.{lt-ltb}
use Rattle.std.proofs.lemmas.Bool.Decides.{nat_tests}
use Rattle.std.proofs.lemmas.List.{map-append}
use Rattle.std.proofs.lemmas.Option.{slice_get_past}
use Rattle.vfa_ir.specs.declared.operations.BlockId.{BlockId}
use Rattle.vfa_ir.specs.declared.operations.Op.{Op}
use Rattle.vfa_ir.specs.declared.operations.Operand.{Operand}
use Rattle.vfa_ir.specs.declared.operations.Ty.{Ty}
use Rattle.vfa_ir.specs.declared.operations.ValueId.{ValueId}
use Rattle.vfa_ir.specs.declared.functions.Block.{Block}
use Rattle.vfa_ir.specs.declared.functions.CallArg.{CallArg}
use Rattle.vfa_ir.specs.declared.functions.CallOp.{CallOp}
use Rattle.vfa_ir.specs.declared.functions.Function.{Function}
use Rattle.vfa_ir.specs.declared.functions.Inst.{Inst}
use Rattle.vfa_ir.specs.declared.functions.Phi.{Phi}
use Rattle.vfa_ir.specs.declared.functions.Term.{Term}
use Rattle.vfa_ir.specs.declared.functions.Value.{Value}
use Rattle.vfa_ir.specs.Defined.{op_names, operand_names, term_names}
use Rattle.vfa_ir.specs.Operands.{arguments_of, operands_of}
use Rattle.vfa_ir.specs.Walks.{is_in}
use Rattle.vfa_check.specs.Within.{IsWithin}
use Rattle.vfa_mean.specs.Moments.{IsLine}
use Rattle.vfa_mean.specs.Numbering.{names_used}
use Rattle.vfa_mean.proofs.FreshOperands.Definitions.{in_first, in_rest, or_left}
use Rattle.vfa_demand.specs.Masks.{AreMasks, Ask, Have, HaveWhatIsAsked, IsPartOf, ask_of, asks_of, block_asks, inst_asks, number_width, operand_asks, phi_asks, result_mask, seen_in, whole_asks}
use Rattle.vfa_demand.specs.Rows.{all_bits, asked}
use Rattle.vfa_demand.specs.Used.{UsesItsValues}
use Rattle.vfa_bits.specs.Changed.{IsChanged, by_replacement, is_number, name_type}
use Rattle.vfa_bits.proofs.ResultsBelow as results

-- ---- the names of which something is asked

abbrev names_asked : List Ask → List ℕ
names_asked asks = map (λ (a : Ask). a.name) asks

flat_alike : {A : Type 0} (g h : A → List ℕ) (xs : List A) → ((x : A) → g x ≡ h x) → flat_map g xs ≡ flat_map h xs
flat_alike g h [] same = refl
flat_alike g h (x ∷ xs) same = ap (λ l. l ++ flat_map g xs) (same x) ∙ ap (λ l. h x ++ l) (flat_alike g h xs same)

names_flat : {A : Type 0} (g : A → List Ask) (xs : List A) → names_asked (flat_map g xs) ≡ flat_map (λ x. names_asked (g x)) xs
names_flat g [] = refl
names_flat g (x ∷ xs) = map-append (λ (a : Ask). a.name) (g x) (flat_map g xs) ∙ ap (λ l. names_asked (g x) ++ l) (names_flat g xs)

one_asked : (bits : ℕ) (a : Operand) → names_asked (ask_of bits a) ≡ operand_names a
one_asked bits (Operand.Value v) = refl
one_asked bits (Operand.Literal c) = refl
one_asked bits Operand.Poison = refl

abbrev names_of : List (Ty × Operand) → List ℕ
names_of operands = flat_map (λ o. operand_names o.1) operands

operands_asked : (op : Op) (d n : ℕ) (ops : List (Ty × Operand)) → names_asked (operand_asks op d n ops) ≡ names_of ops
operands_asked op d n [] = refl
operands_asked op d n (o ∷ ops) =
    map-append (λ (a : Ask). a.name) (ask_of (asked op (number_width o.0) n d) o.1) (operand_asks op d (n + 1) ops)
    ∙ ap (λ l. l ++ names_asked (operand_asks op d (n + 1) ops)) (one_asked (asked op (number_width o.0) n d) o.1)
    ∙ ap (λ l. operand_names o.1 ++ l) (operands_asked op d (n + 1) ops)

argument_names : (arguments : List CallArg) →
    names_of (map (λ (a : CallArg). (Ty.Int a.width, a.value)) arguments) ≡ flat_map (λ (a : CallArg). operand_names a.value) arguments
argument_names [] = refl
argument_names (a ∷ arguments) = ap (λ m. operand_names a.value ++ m) (argument_names arguments)

call_names : (found : Option CallOp) →
    names_of (arguments_of found) ≡ elim found [ None ↦ [] | Some c ↦ flat_map (λ (a : CallArg). operand_names a.value) c.args ]
call_names None = refl
call_names (Some c) = argument_names c.args

two_names : (a b : Operand) → operand_names a ++ (operand_names b ++ []) ≡ operand_names a ++ operand_names b
two_names a b = ap (λ m. operand_names a ++ m) (append-nil (operand_names b))

names_of_op : (f : Function) (op : Op) → names_of (operands_of f op) ≡ op_names f op
names_of_op f (Op.Bin bin flags w a b) = two_names a b
names_of_op f (Op.Icmp pred samesign w a b) = two_names a b
names_of_op f (Op.Select w c a b) = ap (λ m. operand_names c ++ m) (two_names a b)
names_of_op f (Op.Cast cast flags from to a) = append-nil (operand_names a)
names_of_op f (Op.Freeze w a) = append-nil (operand_names a)
names_of_op f (Op.Two fun w a b) = two_names a b
names_of_op f (Op.One fun w a strict) = append-nil (operand_names a)
names_of_op f (Op.Over over w a b) = two_names a b
names_of_op f (Op.Part w pair index) = refl
names_of_op f (Op.Assume c) = append-nil (operand_names c)
names_of_op f (Op.Call width call) = call_names (slice_get f.calls call)

term_asked : (t : Term) → names_asked (whole_asks (seen_in t)) ≡ term_names t
term_asked (Term.Ret w a) = ap names_asked (append-nil (ask_of (all_bits w) a)) ∙ one_asked (all_bits w) a
term_asked (Term.Br to) = refl
term_asked (Term.CondBr c taken fallen) = ap names_asked (append-nil (ask_of (all_bits 1) c)) ∙ one_asked (all_bits 1) c
term_asked (Term.Switch w on other cases) = ap names_asked (append-nil (ask_of (all_bits w) on)) ∙ one_asked (all_bits w) on
term_asked Term.Unreachable = refl

module _ (f : Function) (masks : ℕ → ℕ) where
  phi_asked : (p : Phi) → names_asked (phi_asks masks p) ≡ flat_map (λ (e : Operand × BlockId). operand_names e.0) p.entries
  phi_asked p =
      names_flat (λ (e : Operand × BlockId). ask_of (masks p.result.0) e.0) p.entries
      ∙ flat_alike (λ (e : Operand × BlockId). names_asked (ask_of (masks p.result.0) e.0)) (λ (e : Operand × BlockId). operand_names e.0) p.entries (λ e. one_asked (masks p.result.0) e.0)

  inst_asked : (i : Inst) → names_asked (inst_asks f masks i) ≡ op_names f i.op
  inst_asked i = operands_asked i.op (result_mask masks i) 0 (operands_of f i.op) ∙ names_of_op f i.op

  phis_asked : (phis : List Phi) → names_asked (flat_map (phi_asks masks) phis) ≡ flat_map (λ (p : Phi). flat_map (λ (e : Operand × BlockId). operand_names e.0) p.entries) phis
  phis_asked phis =
      names_flat (phi_asks masks) phis
      ∙ flat_alike (λ (p : Phi). names_asked (phi_asks masks p)) (λ (p : Phi). flat_map (λ (e : Operand × BlockId). operand_names e.0) p.entries) phis phi_asked

  insts_asked : (insts : List Inst) → names_asked (flat_map (inst_asks f masks) insts) ≡ flat_map (λ (i : Inst). op_names f i.op) insts
  insts_asked insts =
      names_flat (inst_asks f masks) insts
      ∙ flat_alike (λ (i : Inst). names_asked (inst_asks f masks i)) (λ (i : Inst). op_names f i.op) insts inst_asked

  block_asked : (b : Block) → names_asked (block_asks f masks b) ≡ names_used f b
  block_asked b =
      map-append (λ (a : Ask). a.name) (flat_map (phi_asks masks) b.phis) (flat_map (inst_asks f masks) b.insts ++ whole_asks (seen_in b.term))
      ∙ ap (λ l. names_asked (flat_map (phi_asks masks) b.phis) ++ l)
      (map-append (λ (a : Ask). a.name) (flat_map (inst_asks f masks) b.insts) (whole_asks (seen_in b.term))
      ∙ ap (λ l. names_asked (flat_map (inst_asks f masks) b.insts) ++ l) (term_asked b.term)
      ∙ ap (λ l. l ++ term_names b.term) (insts_asked b.insts))
      ∙ ap (λ l. l ++ (flat_map (λ (i : Inst). op_names f i.op) b.insts ++ term_names b.term)) (phis_asked b.phis)

  all_asked : names_asked (asks_of f masks) ≡ flat_map (names_used f) f.blocks
  all_asked = names_flat (block_asks f masks) f.blocks ∙ flat_alike (λ (b : Block). names_asked (block_asks f masks b)) (names_used f) f.blocks block_asked

-- ---- the masks of the values alone

flat_same : {A B : Type 0} (g h : A → List B) (xs : List A) → ((k : ℕ) (x : A) → slice_get xs k ≡ Some x → g x ≡ h x) → flat_map g xs ≡ flat_map h xs
flat_same g h [] same = refl
flat_same g h (x ∷ xs) same = ap (λ l. l ++ flat_map g xs) (same 0 x refl) ∙ ap (λ l. h x ++ l) (flat_same g h xs (λ k y e. same (suc k) y e))

abbrev mask_at : (ℕ → ℕ) → Option ValueId → ℕ
mask_at masks o = elim o [ None ↦ 0 | Some v ↦ masks v.0 ]

module _ (f : Function) (masks : ℕ → ℕ) (within : IsWithin f) (own : UsesItsValues f) where
  abbrev cut : ℕ → ℕ
  cut v = cond (nat_lt v (length f.values)) (masks v) 0

  cut_below : (v : ℕ) → v < length f.values → cut v ≡ masks v
  cut_below v l = ap (λ t. cond t (masks v) 0) (lt-ltb v (length f.values) l)

  cut_beyond : (v : ℕ) → length f.values ≤ v → cut v ≡ 0
  cut_beyond v past = ap (λ t. cond t (masks v) 0) (beyond v (length f.values) past)
    where
      beyond : (a b : ℕ) → b ≤ a → nat_lt a b ≡ false
      beyond a b l = grind (arith, nat_tests)

  same_phi : (b : ℕ) (block : Block) (j : ℕ) (p : Phi) → slice_get f.blocks b ≡ Some block → slice_get block.phis j ≡ Some p → phi_asks cut p ≡ phi_asks masks p
  same_phi b block j p there stands =
      ap (λ m. flat_map (λ (e : Operand × BlockId). ask_of m e.0) p.entries) (cut_below p.result.0 (results.phi_below f within b block j p there stands))

  same_line : (b : ℕ) (block : Block) (i : ℕ) (inst : Inst) → IsLine f b block i inst → inst_asks f cut inst ≡ inst_asks f masks inst
  same_line b block i inst line = ap (λ d. operand_asks inst.op d 0 (operands_of f inst.op)) (by inst.result refl)
    where
      by : (o : Option ValueId) → inst.result ≡ o → mask_at cut o ≡ mask_at masks o
      by None is = refl
      by (Some v) is = cut_below v.0 (results.result_below f within b block i inst v line is)

  same_block : (b : ℕ) (block : Block) → slice_get f.blocks b ≡ Some block → block_asks f cut block ≡ block_asks f masks block
  same_block b block there =
      ap (λ l. l ++ (flat_map (inst_asks f cut) block.insts ++ whole_asks (seen_in block.term)))
      (flat_same (phi_asks cut) (phi_asks masks) block.phis (λ j p e. same_phi b block j p there e))
      ∙ ap (λ l. flat_map (phi_asks masks) block.phis ++ (l ++ whole_asks (seen_in block.term)))
      (flat_same (inst_asks f cut) (inst_asks f masks) block.insts (λ i inst e. same_line b block i inst (record { there = there; stands = e })))

  same_asks : asks_of f cut ≡ asks_of f masks
  same_asks = flat_same (block_asks f cut) (block_asks f masks) f.blocks same_block

  have_cut : (asks : List Ask) → ((v : ℕ) → is_in v (names_asked asks) ≡ true → v < length f.values) → Have asks masks → Have asks cut
  have_cut [] below have = tt
  have_cut (a ∷ asks) below have = (
    subst (IsPartOf a.bits) (sym (cut_below a.name (below a.name (in_first a.name a.name (names_asked asks) refl)))) have.0,
    have_cut asks (λ v t. below v (in_rest v a.name (names_asked asks) t)) have.1,
  )

  enough : HaveWhatIsAsked f masks → HaveWhatIsAsked f cut
  enough h = record {
    fit = λ v. fits v (nat_lt v (length f.values)) (h.fit v);
    have = subst (λ asks. Have asks cut) (sym same_asks)
        (have_cut (asks_of f masks) (λ v t. own v (subst (λ l. is_in v l ≡ true) (all_asked f masks) t)) h.have);
  }
    where
      fits : (v : ℕ) (t : Bool) → masks v < 2 ^ 128 → cond t (masks v) 0 < 2 ^ 128
      fits v true l = l
      fits v false l = lit< tt

  pub nothing_beyond : AreMasks f masks → (v : ℕ) → length f.values ≤ v → masks v ≡ 0
  nothing_beyond are v past =
      let part : bit_and (masks v) (cut v) ≡ masks v = are.least cut (enough are.enough) v in
      sym part ∙ ap (bit_and (masks v)) (cut_beyond v past) ∙ and_zero_r (masks v)

  pub changed_beyond : AreMasks f masks → (v : ℕ) → length f.values ≤ v → IsChanged f masks v
  changed_beyond are v past =
      let none = nothing_beyond are v past in
      let ty : name_type f v ≡ Ty.Int 1 = ap (λ o. option_map_or (λ (x : Value). x.ty) o (Ty.Int 1)) (slice_get_past f.values v past) in
      by_replacement v
      (ap (λ m. not (nat_eq (bit_and m (all_bits (number_width (name_type f v)))) (all_bits (number_width (name_type f v))))) none
      ∙ ap (λ t. not (nat_eq (bit_and 0 (all_bits (number_width t))) (all_bits (number_width t)))) ty)
      (or_left (nat_eq (masks v) 0 && is_number (name_type f v)) _
      (ap (λ m. nat_eq m 0 && is_number (name_type f v)) none ∙ ap (λ t. nat_eq 0 0 && is_number t) ty))
