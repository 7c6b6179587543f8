-- The numbered function has a text where what is kept has one but for the order of ids and calls.
use Rattle.std.proofs.Common.{◌≡◌, ℕ, ◌^◌, ◌<◌, Bool, true, List, [], ◌∷◌, ◌++◌, map, flat_map, take, drop, length, All, Option, Some, None, IsSomeAnd, bytes_eq, refl, sym, ap, ◌∙◌, subst, inl, inr, ◌⊎◌, arith}
use Rattle.std.proofs.lemmas.List.{length-map, map-append}
use Rattle.std.proofs.lemmas.List.Elements.{All-cons, All-from_recursion, All-head, All-nil, All-tail, filter_map-append, recursion_from_All}
use Rattle.std.proofs.lemmas.Option.{same_Some}
use Rattle.std.specs.List.{IsDistinct, cons_option, filter_map, slice_get}
use Rattle.std.specs.Option.{option_map, option_map_or}
use Rattle.vfa_ir.specs.declared.operations.BlockId.{BlockId}
use Rattle.vfa_ir.specs.declared.operations.Op.{Op}
use Rattle.vfa_ir.specs.declared.operations.Operand.{Operand}
use Rattle.vfa_ir.specs.declared.operations.Ty.{Ty}
use Rattle.vfa_ir.specs.declared.operations.ValueId.{ValueId}
use Rattle.vfa_ir.specs.declared.functions.Block.{Block}
use Rattle.vfa_ir.specs.declared.functions.CallArg.{CallArg}
use Rattle.vfa_ir.specs.declared.functions.CallOp.{CallOp}
use Rattle.vfa_ir.specs.declared.functions.Function.{Function}
use Rattle.vfa_ir.specs.declared.functions.Inst.{Inst}
use Rattle.vfa_ir.specs.declared.functions.Param.{Param}
use Rattle.vfa_ir.specs.declared.functions.Phi.{Phi}
use Rattle.vfa_ir.specs.declared.functions.Term.{Term}
use Rattle.vfa_ir.specs.declared.functions.Value.{Value}
use Rattle.vfa_ir.specs.Defined.{op_names, operand_names, term_names}
use Rattle.vfa_ir.specs.Grammar.{AreWords}
use Rattle.vfa_ir.specs.PhisFit.{targets}
use Rattle.vfa_ir.specs.Printable.{AreOperands, HasItsResult, HasItsTypes, IsBlock, IsIntegerType, IsKeptName, IsOperand, IsPrintable, PrintableArgument, PrintableBlock, PrintableCall, PrintableInst, PrintableOp, PrintablePhi, PrintableTerm, block_call_places, block_ids, block_types, call_place, inst_types, kept_names, op_type}
use Rattle.vfa_ir.specs.Walks.{is_in}
use Rattle.vfa_ir.specs.Words.{parameter_words}
use Rattle.vfa_mean.specs.Outcomes.{first_block, type_of}
use Rattle.vfa_mean.specs.Renaming.{Order, at_places, place_among, renamed_argument, renamed_block, renamed_call, renamed_case, renamed_entry, renamed_inst, renamed_op, renamed_operand, renamed_param, renamed_phi, renamed_target, renamed_term, renamed_value}
use Rattle.vfa_mean.specs.Numbering.{AreAmong, DefinesKeptOnce, HasItsNames, KeptIsPrintable, KeptPhisFit, MayBeNumbered, block_targets, kept_blocks, kept_calls, names_used, numbered, text_order, types_at}
use Rattle.vfa_mean.proofs.FreshOperands.Definitions.{first_or_rest, in_cases, in_first, in_left, in_rest, in_right}
use Rattle.vfa_mean.proofs.KeptParts.{covers_kept, kept_number}
use Rattle.vfa_mean.proofs.PlacesAmong.{AreWithin, at_first, length-at_places, place_below, rest_within, stands_within}
use Rattle.vfa_mean.proofs.RenamedFlow.{count_of_blocks, kept_numbers_distinct}
use Rattle.vfa_mean.proofs.RenamedNameLists.{kept_all, kept_distinct}
use Rattle.vfa_mean.proofs.RenamedRuns.{first_place}
use Rattle.vfa_mean.proofs.RenamedTypes.{all_renamed, among_each, among_left, among_right}
use Rattle.vfa_mean.proofs.TextOrder.{in_text_order}

-- ---- types

types_of_ops : (o : Order) (op : Op) → op_type (renamed_op o op) ≡ op_type op
types_of_ops o (Op.Bin bin flags w x y) = refl
types_of_ops o (Op.Icmp pred samesign w x y) = refl
types_of_ops o (Op.Select w z x y) = refl
types_of_ops o (Op.Cast cast flags v w x) = refl
types_of_ops o (Op.Freeze w x) = refl
types_of_ops o (Op.Two fun w x y) = refl
types_of_ops o (Op.One fun w x strict) = refl
types_of_ops o (Op.Over over w x y) = refl
types_of_ops o (Op.Part w pair index) = refl
types_of_ops o (Op.Assume x) = refl
types_of_ops o (Op.Call width call) = refl

types_of_insts : (o : Order) (is : List Inst) → inst_types (map (renamed_inst o) is) ≡ inst_types is
types_of_insts o [] = refl
types_of_insts o (i ∷ is) = go i.result (types_of_insts o is)
  where
    go : (name : Option ValueId) → inst_types (map (renamed_inst o) is) ≡ inst_types is →
        cons_option (elim (option_map (renamed_value o) name) [ None ↦ None | Some _ ↦ Some (op_type (renamed_op o i.op)) ]) (inst_types (map (renamed_inst o) is))
        ≡ cons_option (elim name [ None ↦ None | Some _ ↦ Some (op_type i.op) ]) (inst_types is)
    go None again = again
    go (Some v) again = ap (λ t. t ∷ inst_types (map (renamed_inst o) is)) (types_of_ops o i.op) ∙ ap (λ r. op_type i.op ∷ r) again

types_of_phis : (o : Order) (ps : List Phi) → map (λ (p : Phi). Ty.Int p.width) (map (renamed_phi o) ps) ≡ map (λ (p : Phi). Ty.Int p.width) ps
types_of_phis o [] = refl
types_of_phis o (p ∷ ps) = ap (λ r. Ty.Int p.width ∷ r) (types_of_phis o ps)

types_of_blocks : (o : Order) (bs : List Block) → flat_map block_types (map (renamed_block o) bs) ≡ flat_map block_types bs
types_of_blocks o [] = refl
types_of_blocks o (b ∷ bs) =
    ap (λ r. (r ++ inst_types (map (renamed_inst o) b.insts)) ++ flat_map block_types (map (renamed_block o) bs)) (types_of_phis o b.phis)
    ∙ ap (λ r. (map (λ (p : Phi). Ty.Int p.width) b.phis ++ r) ++ flat_map block_types (map (renamed_block o) bs)) (types_of_insts o b.insts)
    ∙ ap (λ r. block_types b ++ r) (types_of_blocks o bs)

type_at : (f : Function) (v : ℕ) (x : Value) → slice_get f.values v ≡ Some x → x.ty ≡ type_of f (record { 0 = v })
type_at f v x is = sym (ap (λ found. option_map_or (λ (y : Value). y.ty) found (Ty.Int 1)) is)

types_of_values : (f : Function) (ids : List ℕ) → AreWithin (length f.values) ids → map (λ (v : Value). v.ty) (at_places f.values ids) ≡ types_at f ids
types_of_values f [] h = refl
types_of_values f (v ∷ ids) h =
    let there = stands_within f.values v (h v (in_first v v ids refl)) in
    ap (map (λ (x : Value). x.ty)) (at_first f.values v ids there.0 there.1)
    ∙ ap (λ t. t ∷ map (λ (x : Value). x.ty) (at_places f.values ids)) (type_at f v there.0 there.1)
    ∙ ap (λ r. type_of f (record { 0 = v }) ∷ r) (types_of_values f ids (rest_within (length f.values) v ids h))

types_of_results : (f : Function) (bs : List Block) → All (λ b. types_at f (block_ids b) ≡ block_types b) bs → types_at f (flat_map block_ids bs) ≡ flat_map block_types bs
types_of_results f [] h = refl
types_of_results f (b ∷ bs) h =
    let P : Block → Type 0 = λ x. types_at f (block_ids x) ≡ block_types x in
    map-append (λ v. type_of f (record { 0 = v })) (block_ids b) (flat_map block_ids bs)
    ∙ ap (λ r. r ++ types_at f (flat_map block_ids bs)) (All-head P b bs h)
    ∙ ap (λ r. block_types b ++ r) (types_of_results f bs (All-tail P b bs h))

integer_parameters : (f : Function) (ps : List Param) → AreWithin (length f.values) (map (λ (p : Param). p.value.0) ps) →
    All (λ (p : Param). IsIntegerType (type_of f p.value)) ps →
    All (λ (v : Value). IsIntegerType v.ty) (at_places f.values (map (λ (p : Param). p.value.0) ps))
integer_parameters f [] h t = All-nil (λ (v : Value). IsIntegerType v.ty)
integer_parameters f (p ∷ ps) h t =
    let ids : List ℕ = map (λ (q : Param). q.value.0) ps in
    let there = stands_within f.values p.value.0 (h p.value.0 (in_first p.value.0 p.value.0 ids refl)) in
    let P : Param → Type 0 = λ q. IsIntegerType (type_of f q.value) in
    let Q : Value → Type 0 = λ v. IsIntegerType v.ty in
    subst (λ vs. All Q vs) (sym (at_first f.values p.value.0 ids there.0 there.1))
    (All-cons Q there.0 (at_places f.values ids)
    (subst IsIntegerType (sym (type_at f p.value.0 there.0 there.1)) (All-head P p ps t))
    (integer_parameters f ps (rest_within (length f.values) p.value.0 ids h) (All-tail P p ps t)))

front : {X : Type 0} (xs ys : List X) (n : ℕ) → length xs ≡ n → take n (xs ++ ys) ≡ xs
front {X} xs ys n e = ap (λ k. take k (xs ++ ys)) (sym e) ∙ go xs
  where
    go : (zs : List X) → take (length zs) (zs ++ ys) ≡ zs
    go [] = refl
    go (z ∷ zs) = ap (λ r. z ∷ r) (go zs)

behind : {X : Type 0} (xs ys : List X) (n : ℕ) → length xs ≡ n → drop n (xs ++ ys) ≡ ys
behind {X} xs ys n e = ap (λ k. drop k (xs ++ ys)) (sym e) ∙ go xs
  where
    go : (zs : List X) → drop (length zs) (zs ++ ys) ≡ ys
    go [] = refl
    go (z ∷ zs) = go zs

-- ---- the names of blocks

block_names : (o : Order) (bs : List Block) → filter_map (λ (b : Block). b.name) (map (renamed_block o) bs) ≡ filter_map (λ (b : Block). b.name) bs
block_names o [] = refl
block_names o (b ∷ bs) = ap (λ r. cons_option b.name r) (block_names o bs)

-- ---- the names that calls use

abbrev names_of_call : Option CallOp → List ℕ
names_of_call found = elim found [ None ↦ [] | Some c ↦ flat_map (λ (a : CallArg). operand_names a.value) c.args ]

option_members : (x : Option ℕ) (n : ℕ) (xs : List ℕ) → is_in n (cons_option x xs) ≡ true → (x ≡ Some n) ⊎ (is_in n xs ≡ true)
option_members None n xs h = inr h
option_members (Some y) n xs h = elim (first_or_rest n y xs h) [ inl e ↦ inl (ap Some (sym e)) | inr t ↦ inr t ]

called_names : (f : Function) (op : Op) (c : ℕ) → call_place op ≡ Some c → op_names f op ≡ names_of_call (slice_get f.calls c)
called_names f (Op.Call width place) c e = ap (λ p. names_of_call (slice_get f.calls p)) (same_Some place c e)
called_names f (Op.Bin bin flags w x y) c e = absurd (cc)
called_names f (Op.Icmp pred samesign w x y) c e = absurd (cc)
called_names f (Op.Select w z x y) c e = absurd (cc)
called_names f (Op.Cast cast flags v w x) c e = absurd (cc)
called_names f (Op.Freeze w x) c e = absurd (cc)
called_names f (Op.Two fun w x y) c e = absurd (cc)
called_names f (Op.One fun w x strict) c e = absurd (cc)
called_names f (Op.Over over w x y) c e = absurd (cc)
called_names f (Op.Part w pair index) c e = absurd (cc)
called_names f (Op.Assume x) c e = absurd (cc)

line_calls : (f : Function) (values : List ℕ) (insts : List Inst) → AreAmong (flat_map (λ (i : Inst). op_names f i.op) insts) values →
    (c : ℕ) → is_in c (filter_map (λ (i : Inst). call_place i.op) insts) ≡ true → AreAmong (names_of_call (slice_get f.calls c)) values
line_calls f values [] among c h = absurd (cc)
line_calls f values (i ∷ insts) among c h =
    let rest : List ℕ = flat_map (λ (j : Inst). op_names f j.op) insts in
    elim (option_members (call_place i.op) c (filter_map (λ (j : Inst). call_place j.op) insts) h) [
      | inl e ↦ subst (λ ns. AreAmong ns values) (called_names f i.op c e) (among_left (op_names f i.op) rest values among)
      | inr t ↦ line_calls f values insts (among_right (op_names f i.op) rest values among) c t
    ]

block_calls : (f : Function) (values : List ℕ) (bs : List Block) → AreAmong (flat_map (names_used f) bs) values →
    (c : ℕ) → is_in c (flat_map block_call_places bs) ≡ true → AreAmong (names_of_call (slice_get f.calls c)) values
block_calls f values [] among c h = absurd (cc)
block_calls f values (b ∷ bs) among c h =
    let phis : List ℕ = flat_map (λ (p : Phi). flat_map (λ (e : Operand × BlockId). operand_names e.0) p.entries) b.phis in
    let insts : List ℕ = flat_map (λ (i : Inst). op_names f i.op) b.insts in
    let here = among_left (names_used f b) (flat_map (names_used f) bs) values among in
    elim (in_cases c (block_call_places b) (flat_map block_call_places bs) h) [
      | inl t ↦ line_calls f values b.insts
          (among_left insts (term_names b.term) values (among_right phis (insts ++ term_names b.term) values here)) c t
      | inr t ↦ block_calls f values bs (among_right (names_used f b) (flat_map (names_used f) bs) values among) c t
    ]

-- ---- what is at kept places

all_at_places : {X : Type 0} (P : X → Type 0) (xs : List X) (places : List ℕ) →
    ((i : ℕ) (x : X) → is_in i places ≡ true → slice_get xs i ≡ Some x → P x) → All P (at_places xs places)
all_at_places P xs [] h = All-nil P
all_at_places {X} P xs (i ∷ places) h = by (slice_get xs i) refl (all_at_places P xs places (λ j x there is. h j x (in_rest j i places there) is))
  where
    by : (o : Option X) → slice_get xs i ≡ o → All P (at_places xs places) → All P (cons_option o (at_places xs places))
    by None e rest = rest
    by (Some x) e rest = All-cons P x (at_places xs places) (h i x (in_first i i places refl) e) rest

module _ (f : Function) (keeps : ℕ → Bool) (h : MayBeNumbered f keeps) where
  abbrev o : Order
  o = text_order f keeps

  abbrev g : Function
  g = numbered f keeps

  value_in : (v : ℕ) → is_in v o.values ≡ true → place_among o.values v < length g.values
  value_in v there =
      let below = place_below o.values v there in
      let long : length g.values ≡ length o.values = length-at_places f.values o.values h.values in
      omega arith

  block_in : (b : BlockId) → is_in b.0 o.blocks ≡ true → IsBlock g (renamed_target o b)
  block_in b there =
      let below = place_below o.blocks b.0 there in
      let long = count_of_blocks f keeps h in
      omega arith

  operand_in : (w : ℕ) (a : Operand) → AreAmong (operand_names a) o.values → IsOperand f w a → IsOperand g w (renamed_operand o a)
  operand_in w (Operand.Value v) among t = value_in v.0 (among v.0 (in_first v.0 v.0 [] refl))
  operand_in w (Operand.Literal bits) among t = t
  operand_in w Operand.Poison among t = tt

  two_in : (w : ℕ) (a b : Operand) → AreAmong (operand_names a ++ operand_names b) o.values → AreOperands f w a b →
      AreOperands g w (renamed_operand o a) (renamed_operand o b)
  two_in w a b among t = record {
    of_width = t.of_width;
    first = operand_in w a (among_left (operand_names a) (operand_names b) o.values among) t.first;
    second = operand_in w b (among_right (operand_names a) (operand_names b) o.values among) t.second;
  }

  op_in : (op : Op) → AreAmong (op_names f op) o.values → PrintableOp f op → PrintableOp g (renamed_op o op)
  op_in (Op.Bin bin flags w a b) among t = (t.0, two_in w a b among t.1)
  op_in (Op.Icmp pred samesign w a b) among t = two_in w a b among t
  op_in (Op.Select w c a b) among t = (
    operand_in 1 c (among_left (operand_names c) (operand_names a ++ operand_names b) o.values among) t.0,
    two_in w a b (among_right (operand_names c) (operand_names a ++ operand_names b) o.values among) t.1,
  )
  op_in (Op.Cast cast flags from to a) among t = (t.0, t.1, operand_in from a among t.2, t.3)
  op_in (Op.Freeze w a) among t = (t.0, operand_in w a among t.1)
  op_in (Op.Two fun w a b) among t = two_in w a b among t
  op_in (Op.One fun w a strict) among t = (t.0, operand_in w a among t.1, t.2)
  op_in (Op.Over over w a b) among t = two_in w a b among t
  op_in (Op.Part w pair index) among t = (t.0, value_in pair.0 (among pair.0 (in_first pair.0 pair.0 [] refl)), t.2)
  op_in (Op.Assume c) among t = operand_in 1 c among t
  op_in (Op.Call width place) among t = t

  result_in : (op : Op) (name : Option ValueId) → HasItsResult op name → HasItsResult (renamed_op o op) (option_map (renamed_value o) name)
  result_in (Op.Bin bin flags w x y) (Some v) t = tt
  result_in (Op.Icmp pred samesign w x y) (Some v) t = tt
  result_in (Op.Select w z x y) (Some v) t = tt
  result_in (Op.Cast cast flags v w x) (Some n) t = tt
  result_in (Op.Freeze w x) (Some v) t = tt
  result_in (Op.Two fun w x y) (Some v) t = tt
  result_in (Op.One fun w x strict) (Some v) t = tt
  result_in (Op.Over over w x y) (Some v) t = tt
  result_in (Op.Part w pair index) (Some v) t = tt
  result_in (Op.Assume x) None t = tt
  result_in (Op.Assume x) (Some v) t = t
  result_in (Op.Call None call) None t = tt
  result_in (Op.Call None call) (Some v) t = t
  result_in (Op.Call (Some w) call) (Some v) t = tt
  result_in (Op.Bin bin flags w x y) None t = t
  result_in (Op.Icmp pred samesign w x y) None t = t
  result_in (Op.Select w z x y) None t = t
  result_in (Op.Cast cast flags v w x) None t = t
  result_in (Op.Freeze w x) None t = t
  result_in (Op.Two fun w x y) None t = t
  result_in (Op.One fun w x strict) None t = t
  result_in (Op.Over over w x y) None t = t
  result_in (Op.Part w pair index) None t = t
  result_in (Op.Call (Some w) call) None t = t

  some_entries : (entries : List (Operand × BlockId)) → (entries ≡ [] → ⊥) → map (renamed_entry o) entries ≡ [] → ⊥
  some_entries [] some e = some refl
  some_entries (x ∷ entries) some e = cc

  -- what is known of a phi and of a block that is kept
  abbrev PhiUses : Phi → Type 0
  PhiUses p = AreAmong (flat_map (λ (e : Operand × BlockId). operand_names e.0) p.entries) o.values
      × All (λ (e : Operand × BlockId). is_in e.1.0 o.blocks ≡ true) p.entries

  phi_in : (p : Phi) → PhiUses p → PrintablePhi f p → PrintablePhi g (renamed_phi o p)
  phi_in p uses t = record {
    width = t.width;
    some = some_entries p.entries t.some;
    entries = all_renamed
        (λ (e : Operand × BlockId). AreAmong (operand_names e.0) o.values × (is_in e.1.0 o.blocks ≡ true))
        (λ (e : Operand × BlockId). IsOperand f p.width e.0 × IsBlock f e.1) (λ (e : Operand × BlockId). IsOperand g p.width e.0 × IsBlock g e.1)
        (renamed_entry o) (λ e u s. (operand_in p.width e.0 u.0 s.0, block_in e.1 u.1)) p.entries
        (λ k d l. (among_each (λ (e : Operand × BlockId). operand_names e.0) o.values p.entries uses.0 k d l, uses.1 k d l))
        t.entries;
  }

  abbrev case_targets : List (ℕ × BlockId) → List ℕ
  case_targets cases = map (λ (t : BlockId). t.0) (map (λ (c : ℕ × BlockId). c.1) cases)

  cases_in : (w : ℕ) (cases : List (ℕ × BlockId)) → AreAmong (case_targets cases) o.blocks →
      All (λ (c : ℕ × BlockId). (c.0 < 2 ^ w) × IsBlock f c.1) cases → All (λ (c : ℕ × BlockId). (c.0 < 2 ^ w) × IsBlock g c.1) (map (renamed_case o) cases)
  cases_in w [] among t = All-nil (λ (c : ℕ × BlockId). (c.0 < 2 ^ w) × IsBlock g c.1)
  cases_in w (c ∷ cases) among t =
      let P : ℕ × BlockId → Type 0 = λ x. (x.0 < 2 ^ w) × IsBlock f x.1 in
      All-cons (λ (x : ℕ × BlockId). (x.0 < 2 ^ w) × IsBlock g x.1) (renamed_case o c) (map (renamed_case o) cases)
      ((All-head P c cases t).0, block_in c.1 (among c.1.0 (in_first c.1.0 c.1.0 (case_targets cases) refl)))
      (cases_in w cases (λ n i. among n (in_rest n c.1.0 (case_targets cases) i)) (All-tail P c cases t))

  term_in : (t : Term) → AreAmong (term_names t) o.values → AreAmong (map (λ (b : BlockId). b.0) (targets t)) o.blocks → PrintableTerm f t →
      PrintableTerm g (renamed_term o t)
  term_in (Term.Ret w a) names ends t = (t.0, operand_in w a names t.1)
  term_in (Term.Br to) names ends t = block_in to (ends to.0 (in_first to.0 to.0 [] refl))
  term_in (Term.CondBr c taken fallen) names ends t = (
    operand_in 1 c names t.0,
    block_in taken (ends taken.0 (in_first taken.0 taken.0 (fallen.0 ∷ []) refl)),
    block_in fallen (ends fallen.0 (in_rest fallen.0 taken.0 (fallen.0 ∷ []) (in_first fallen.0 fallen.0 [] refl))),
  )
  term_in (Term.Switch w on other cases) names ends t = (
    t.0,
    operand_in w on names t.1,
    block_in other (ends other.0 (in_first other.0 other.0 (case_targets cases) refl)),
    cases_in w cases (λ n i. ends n (in_rest n other.0 (case_targets cases) i)) t.3,
  )
  term_in Term.Unreachable names ends t = tt

  record BlockUses (b : Block) : Type 0 where
    pub names : AreAmong (names_used f b) o.values
    pub ends : AreAmong (block_targets b) o.blocks
    pub entries : All (λ (p : Phi). All (λ (e : Operand × BlockId). is_in e.1.0 o.blocks ≡ true) p.entries) b.phis

  block_printable : (b : Block) → BlockUses b → PrintableBlock f b → PrintableBlock g (renamed_block o b)
  block_printable b uses t =
      let phis : List ℕ = flat_map (λ (p : Phi). flat_map (λ (e : Operand × BlockId). operand_names e.0) p.entries) b.phis in
      let insts : List ℕ = flat_map (λ (i : Inst). op_names f i.op) b.insts in
      let rest : AreAmong (insts ++ term_names b.term) o.values = among_right phis (insts ++ term_names b.term) o.values uses.names in
      record {
        phis = all_renamed PhiUses (PrintablePhi f) (PrintablePhi g) (renamed_phi o) phi_in b.phis
            (λ k d l. (
              among_each (λ (p : Phi). flat_map (λ (e : Operand × BlockId). operand_names e.0) p.entries) o.values b.phis
                  (among_left phis (insts ++ term_names b.term) o.values uses.names) k d l,
              uses.entries k d l,
            ))
            t.phis;
        insts = all_renamed (λ (i : Inst). AreAmong (op_names f i.op) o.values) (PrintableInst f) (PrintableInst g) (renamed_inst o)
            (λ i among s. record { result = result_in i.op i.result s.result; op = op_in i.op among s.op }) b.insts
            (among_each (λ (i : Inst). op_names f i.op) o.values b.insts (among_left insts (term_names b.term) o.values rest))
            t.insts;
        term = term_in b.term (among_right insts (term_names b.term) o.values rest) uses.ends t.term;
      }

  blocks_use : HasItsNames f keeps → KeptPhisFit f keeps → All BlockUses (kept_blocks f keeps)
  blocks_use names fits =
      let each = all_at_places (λ (b : Block). AreAmong (block_targets b) o.blocks
      × All (λ (p : Phi). All (λ (e : Operand × BlockId). is_in e.1.0 o.blocks ≡ true) p.entries) b.phis) f.blocks o.blocks
      (λ b block there is. (
        ((covers_kept f keeps h).each_block b block there is).targets,
        λ k d l. (fits.phis b block (kept_number f keeps b there).kept is k d l).kept,
      )) in
      λ k d l. record {
        names = among_each (names_used f) o.values (kept_blocks f keeps) names k d l;
        ends = (each k d l).0;
        entries = (each k d l).1;
      }

  call_in : (c : CallOp) → AreAmong (flat_map (λ (a : CallArg). operand_names a.value) c.args) o.values → PrintableCall f c → PrintableCall g (renamed_call o c)
  call_in c among t = record {
    some = t.some;
    no_intrinsic = t.no_intrinsic;
    words = t.words;
    arguments = all_renamed (λ (a : CallArg). AreAmong (operand_names a.value) o.values) (PrintableArgument f) (PrintableArgument g) (renamed_argument o)
        (λ a u s. record { width = s.width; words = s.words; value = operand_in a.width a.value u s.value }) c.args
        (among_each (λ (a : CallArg). operand_names a.value) o.values c.args among) t.arguments;
  }

  call_known : (places : List ℕ) → All (λ c. IsSomeAnd (slice_get f.calls c) (PrintableCall f)) places →
      (c : ℕ) (call : CallOp) → is_in c places ≡ true → slice_get f.calls c ≡ Some call → PrintableCall f call
  call_known [] t c call there is = absurd (cc)
  call_known (p ∷ places) t c call there is =
      let P : ℕ → Type 0 = λ x. IsSomeAnd (slice_get f.calls x) (PrintableCall f) in
      elim (first_or_rest c p places there) [
        | inl e ↦ subst (λ found. IsSomeAnd found (PrintableCall f)) is (subst P (sym e) (All-head P p places t))
        | inr u ↦ call_known places (All-tail P p places t) c call u is
      ]

  calls_in : HasItsNames f keeps → All (λ c. IsSomeAnd (slice_get f.calls c) (PrintableCall f)) (kept_calls f keeps) →
      All (PrintableCall g) (map (renamed_call o) (at_places f.calls o.calls))
  calls_in names t = all_renamed
      (λ (c : CallOp). AreAmong (flat_map (λ (a : CallArg). operand_names a.value) c.args) o.values × PrintableCall f c) (λ c. Unit {0}) (PrintableCall g)
      (renamed_call o) (λ c u s. call_in c u.0 u.1) (at_places f.calls o.calls)
      (all_at_places (λ (c : CallOp). AreAmong (flat_map (λ (a : CallArg). operand_names a.value) c.args) o.values × PrintableCall f c) f.calls o.calls
      (λ i call there is. (
        subst (λ found. AreAmong (names_of_call found) o.values) is (block_calls f o.values (kept_blocks f keeps) names i there),
        call_known (kept_calls f keeps) t i call there is,
      )))
      (λ k d l. tt)

  has_types : KeptIsPrintable f keeps → HasItsTypes g
  has_types t =
      let params : List ℕ = map (λ (p : Param). p.value.0) f.params in
      let results : List ℕ = flat_map block_ids (kept_blocks f keeps) in
      let split : g.values ≡ at_places f.values params ++ at_places f.values results = filter_map-append (slice_get f.values) params results in
      let within : AreWithin (length f.values) params = λ n i. h.values n (in_left n params results i) in
      let count : length (at_places f.values params) ≡ length g.params =
      length-at_places f.values params within ∙ length-map f.params (λ (p : Param). p.value.0) ∙ sym (length-map f.params (renamed_param o)) in
      record {
        parameters =
            let first : take (length g.params) g.values ≡ at_places f.values params =
            ap (take (length g.params)) split ∙ front (at_places f.values params) (at_places f.values results) (length g.params) count in
            subst (λ vs. All (λ (v : Value). IsIntegerType v.ty) vs) (sym first) (integer_parameters f f.params within t.parameters);
        results =
            ap (λ vs. map (λ (v : Value). v.ty) (drop (length g.params) vs)) split
            ∙ ap (map (λ (v : Value). v.ty)) (behind (at_places f.values params) (at_places f.values results) (length g.params) count)
            ∙ types_of_values f results (λ n i. h.values n (in_right n params results i))
            ∙ types_of_results f (kept_blocks f keeps) t.results
            ∙ sym (types_of_blocks o (kept_blocks f keeps));
      }

  some_blocks : g.blocks ≡ [] → ⊥
  some_blocks e =
      let first = first_place o f (covers_kept f keeps h) in
      let below = place_below o.blocks first_block first.0 in
      let long = count_of_blocks f keeps h in
      let none : length g.blocks ≡ 0 = ap length e in
      omega arith

  abbrev names_kept : List (List ℕ)
  names_kept = filter_map (λ (v : Value). v.name) (at_places f.values o.values) ++ filter_map (λ (b : Block). b.name) (kept_blocks f keeps)

  same_names : kept_names g ≡ names_kept
  same_names = ap (λ r. filter_map (λ (v : Value). v.name) (at_places f.values o.values) ++ r) (block_names o (kept_blocks f keeps))

  pub is_printable : DefinesKeptOnce f keeps → HasItsNames f keeps → KeptPhisFit f keeps → KeptIsPrintable f keeps → IsPrintable g
  is_printable once names fits t =
      let order = in_text_order f keeps h once in
      record {
        name = t.name;
        lead = t.lead;
        width = t.width;
        words = all_renamed (λ (p : Param). Unit {0}) (λ (p : Param). AreWords parameter_words p.words) (λ (p : Param). AreWords parameter_words p.words)
            (renamed_param o) (λ p u s. s) f.params (λ k d l. tt) t.words;
        tail = t.tail;
        ids = order.ids;
        types = has_types t;
        names = subst (λ ns. All IsKeptName ns) (sym same_names) (All-from_recursion IsKeptName names_kept
            (kept_all IsKeptName (λ (v : Value). v.name) (λ (b : Block). b.name) f.values f.blocks o.values o.blocks
            (recursion_from_All IsKeptName (kept_names f) t.names)));
        distinct = subst (λ ns. IsDistinct bytes_eq ns) (sym same_names)
            (kept_distinct (λ (v : Value). v.name) (λ (b : Block). b.name) f.values f.blocks o.values o.blocks once.names
            (kept_numbers_distinct f keeps) t.distinct);
        some = some_blocks;
        blocks = all_renamed BlockUses (PrintableBlock f) (PrintableBlock g) (renamed_block o) block_printable (kept_blocks f keeps)
            (blocks_use names fits) t.blocks;
        call_places = order.calls;
        calls = calls_in names t.calls;
      }
