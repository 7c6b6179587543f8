-- What is kept of a rewritten function may be numbered, is typed, and may be printed; its phis fit, and it is little larger.
use Rattle.std.proofs.Common.{◌≡◌, ◌<◌, ◌≤◌, ℕ, zero, suc, ◌+◌, ◌*◌, ◌++◌, Bool, true, false, cond, All, Option, Some, None, List, [], ◌∷◌, map, flat_map, filter_map, length, slice_get, IsSomeAnd, refl, sym, ap, ◌∙◌, subst, inl, inr, arith}
use Rattle.std.specs.Prelude.{filter, bytes_eq}
use Rattle.std.specs.List.{AllByRecursion, IsDistinct, cons_option, list_any, range_with_len}
use Rattle.std.proofs.lemmas.List.Elements.{All-from_recursion, recursion_from_All}
use Rattle.std.proofs.lemmas.Option.{same_Some}
use Rattle.vfa_ir.specs.declared.operations.BlockId.{BlockId}
use Rattle.vfa_ir.specs.declared.operations.Op.{Op}
use Rattle.vfa_ir.specs.declared.operations.Operand.{Operand}
use Rattle.vfa_ir.specs.declared.operations.Ty.{Ty}
use Rattle.vfa_ir.specs.declared.operations.ValueId.{ValueId}
use Rattle.vfa_ir.specs.declared.functions.Block.{Block}
use Rattle.vfa_ir.specs.declared.functions.Function.{Function}
use Rattle.vfa_ir.specs.declared.functions.Inst.{Inst}
use Rattle.vfa_ir.specs.declared.functions.Param.{Param}
use Rattle.vfa_ir.specs.declared.functions.Phi.{Phi}
use Rattle.vfa_ir.specs.declared.functions.Term.{Term}
use Rattle.vfa_ir.specs.declared.functions.Value.{Value}
use Rattle.vfa_ir.specs.Defined.{NameUse, op_names, operand_names, term_names, uses_at, phi_uses, inst_uses, block_uses, line_count}
use Rattle.vfa_ir.specs.PhisFit.{targets}
use Rattle.vfa_ir.specs.Printable.{IsKeptName, IsIntegerType, PrintableInst, PrintablePhi, PrintableBlock, PrintableCall, call_place, op_type, block_ids, block_types, inst_ids, inst_types, block_call_places, kept_names}
use Rattle.vfa_ir.specs.Typed.{TypedInst, TypedPhi, TypedBlock}
use Rattle.vfa_ir.specs.Walks.{IsWalk, IsDefinedAt, is_parameter, results_in, results_before, defined_over}
use Rattle.vfa_ir.specs.Words.{is_in}
use Rattle.vfa_check.specs.Within.{IsWithin}
use Rattle.vfa_cond.specs.Conditions.{name_type}
use Rattle.vfa_mean.specs.Numbering.{kept_numbers, kept_blocks, kept_values, kept_calls, text_order, numbered, names_used, types_at, MayBeNumbered, DefinesKeptOnce, HasItsNames, KeptIsTyped, KeptPhiFits, KeptPhisFit, KeptIsPrintable}
use Rattle.vfa_mean.specs.Outcomes.{first_block, type_of}
use Rattle.vfa_mean.specs.Renaming.{Order, renamed_block, renamed_case, renamed_term}
use Rattle.vfa_mean.specs.Moments.{At}
use Rattle.vfa_mean.proofs.FreshOperands.Definitions.{or_cases, in_left, in_right, in_cases, first_or_rest, in_first, in_rest}
use Rattle.vfa_mean.proofs.KeptParts.{from_range, number_kept, in_block, kept_number}
use Rattle.vfa_walk.proofs.TruthTypes.{parameters_are_integers, phi_types, each_of}
use Rattle.vfa_rewrite.specs.Findings.{Findings}
use Rattle.vfa_rewrite.specs.Marks.{first, IsLeftLine, unnamed}
use Rattle.vfa_rewrite.specs.Rewritten.{Marks, with_numbers, shrunk, term_if_met, phis_left, lines_left, rewritten_block, emptied, if_block_left, block_left, rewritten}
use Rattle.vfa_rewrite.specs.Sizes.{IsLittleLarger}
use Rattle.vfa_rewrite.proofs.BlocksLeft.{from_get, all_turned, picked_both, all_met_phis, good_lines, call_left_in}
use Rattle.vfa_rewrite.proofs.DefinitionsLeft.{split_left, split_right, block_used}
use Rattle.vfa_rewrite.proofs.EdgesLeft.{left_block, reached_block, edges_count, no_more_edges, is_edge_left, edge_was, target_reached, walk_to}
use Rattle.vfa_rewrite.proofs.KeptLeft.{out_kept, at_kept, names_distinct, name_below, names_count, calls_among, calls_distinct, range_count}
use Rattle.vfa_rewrite.proofs.LeftLines.{Known, made_printable, known_call}
use Rattle.vfa_rewrite.proofs.LeftParts.{IsGoodLine, both_counts}
use Rattle.vfa_rewrite.proofs.LiveOperands.{before_end}
use Rattle.vfa_rewrite.proofs.PhisLeft.{get_within, phi_left_typed, phi_left_printable, phi_left_fits}
use Rattle.vfa_rewrite.proofs.Ranges.{parameters_below, phi_below, same_type}
use Rattle.vfa_rewrite.proofs.Sublists.{sublist_in}
use Rattle.vfa_rewrite.proofs.TargetsLeft.{blocks_count, calls_count, shrunk_length}
use Rattle.vfa_rewrite.proofs.TermsLeft.{term_left_typed, term_left_printable}

-- ---- uses by names

-- a use of the name of which P holds
record IsUsedBy (P : NameUse → Type 0) (x : ℕ) : Type 0 where
  block : ℕ
  line : ℕ
  holds : P (record { name = x; block = block; line = line })

named_use : (P : NameUse → Type 0) (b n : ℕ) (names : List ℕ) (x : ℕ) → AllByRecursion P (uses_at b n names) → is_in x names ≡ true → IsUsedBy P x
named_use P b n [] x h t = absurd (cc)
named_use P b n (y ∷ names) x h t = elim (first_or_rest x y names t) [
  | inl e ↦ record { block = b; line = n; holds = subst (λ z. P (record { name = z; block = b; line = n })) (sym e) h.0 }
  | inr u ↦ named_use P b n names x h.1 u
]

flat_use : {A : Type 0} (P : NameUse → Type 0) (h : A → List NameUse) (names : A → List ℕ) (x : ℕ) → ((a : A) → AllByRecursion P (h a) → is_in x (names a) ≡ true → IsUsedBy P x) → (xs : List A) →
    AllByRecursion P (flat_map h xs) → is_in x (flat_map names xs) ≡ true → IsUsedBy P x
flat_use P h names x each [] all t = absurd (cc)
flat_use P h names x each (a ∷ xs) all t = elim (in_cases x (names a) (flat_map names xs) t) [
  | inl k ↦ each a (split_left P (h a) (flat_map h xs) all) k
  | inr k ↦ flat_use P h names x each xs (split_right P (h a) (flat_map h xs) all) k
]

line_use : (P : NameUse → Type 0) (g : Function) (b n : ℕ) (insts : List Inst) (x : ℕ) → AllByRecursion P (inst_uses g b n insts) → is_in x (flat_map (λ (i : Inst). op_names g i.op) insts) ≡ true → IsUsedBy P x
line_use P g b n [] x all t = absurd (cc)
line_use P g b n (i ∷ insts) x all t = elim (in_cases x (op_names g i.op) (flat_map (λ (i : Inst). op_names g i.op) insts) t) [
  | inl k ↦ named_use P b n (op_names g i.op) x (split_left P (uses_at b n (op_names g i.op)) (inst_uses g b (n + 1) insts) all) k
  | inr k ↦ line_use P g b (n + 1) insts x (split_right P (uses_at b n (op_names g i.op)) (inst_uses g b (n + 1) insts) all) k
]

block_use : (P : NameUse → Type 0) (g : Function) (b : ℕ) (block : Block) (x : ℕ) → AllByRecursion P (block_uses g b block) → is_in x (names_used g block) ≡ true → IsUsedBy P x
block_use P g b block x all t =
    let phis = flat_map (phi_uses g) block.phis in
    let behind = inst_uses g b 0 block.insts ++ uses_at b (length block.insts) (term_names block.term) in
    let later = split_right P phis behind all in
    elim (in_cases x (flat_map (λ (p : Phi). flat_map (λ (e : Operand × BlockId). operand_names e.0) p.entries) block.phis) _ t) [
      | inl k ↦ flat_use P (phi_uses g) (λ (p : Phi). flat_map (λ (e : Operand × BlockId). operand_names e.0) p.entries) x
          (λ p h u. flat_use P (λ (e : Operand × BlockId). uses_at e.1.0 (line_count g e.1.0) (operand_names e.0)) (λ (e : Operand × BlockId). operand_names e.0) x
          (λ e h u. named_use P e.1.0 (line_count g e.1.0) (operand_names e.0) x h u) p.entries h u)
          block.phis (split_left P phis behind all) k
      | inr k ↦ elim (in_cases x (flat_map (λ (i : Inst). op_names g i.op) block.insts) (term_names block.term) k) [
        | inl u ↦ line_use P g b 0 block.insts x (split_left P (inst_uses g b 0 block.insts) _ later) u
        | inr u ↦ named_use P b (length block.insts) (term_names block.term) x (split_right P (inst_uses g b 0 block.insts) _ later) u
      ]
    ]

-- ---- types of results

phi_types_are : (g : Function) (phis : List Phi) → AllByRecursion (λ (p : Phi). name_type g p.result.0 ≡ Ty.Int p.width) phis →
    types_at g (map (λ (p : Phi). p.result.0) phis) ≡ map (λ (p : Phi). Ty.Int p.width) phis
phi_types_are g [] all = refl
phi_types_are g (p ∷ phis) all = ap (λ t. t ∷ types_at g (map (λ (p : Phi). p.result.0) phis)) all.0 ∙ ap (λ ts. Ty.Int p.width ∷ ts) (phi_types_are g phis all.1)

line_types_are : (g : Function) (insts : List Inst) → AllByRecursion (λ (i : Inst). (v : ValueId) → i.result ≡ Some v → name_type g v.0 ≡ op_type i.op) insts →
    types_at g (inst_ids insts) ≡ inst_types insts
line_types_are g [] all = refl
line_types_are g (i ∷ insts) all = by i.result refl (line_types_are g insts all.1)
  where
    by : (o : Option ValueId) → i.result ≡ o → types_at g (inst_ids insts) ≡ inst_types insts →
        types_at g (cons_option (elim o [ None ↦ None | Some v ↦ Some v.0 ]) (inst_ids insts)) ≡ cons_option (elim o [ None ↦ None | Some v ↦ Some (op_type i.op) ]) (inst_types insts)
    by None e again = again
    by (Some v) e again = ap (λ t. t ∷ types_at g (inst_ids insts)) (all.0 v e) ∙ ap (λ ts. op_type i.op ∷ ts) again

types_both : (g : Function) (xs ys : List ℕ) → types_at g (xs ++ ys) ≡ types_at g xs ++ types_at g ys
types_both g [] ys = refl
types_both g (x ∷ xs) ys = ap (λ rest. name_type g x ∷ rest) (types_both g xs ys)

all_two : {A : Type 0} (P Q R : A → Type 0) (xs : List A) → ((x : A) → P x → Q x → R x) → AllByRecursion P xs → AllByRecursion Q xs → AllByRecursion R xs
all_two P Q R [] h p q = tt
all_two P Q R (x ∷ xs) h p q = (h x p.0 q.0, all_two P Q R xs h p.1 q.1)

from_in : (P : ℕ → Type 0) (xs : List ℕ) → ((n : ℕ) → is_in n xs ≡ true → P n) → AllByRecursion P xs
from_in P [] h = tt
from_in P (x ∷ xs) h = (h x (in_first x x xs refl), from_in P xs (λ n t. h n (in_rest n x xs t)))

pub record CallOf (op : Op) (c : ℕ) : Type 0 where
  pub width : Option ℕ
  pub is : op ≡ Op.Call width c

call_of : (op : Op) (c : ℕ) → call_place op ≡ Some c → CallOf op c
call_of (Op.Call width place) c e = record { width = width; is = ap (Op.Call width) (same_Some place c e) }
call_of (Op.Bin bin flags w a b) c e = absurd (cc)
call_of (Op.Icmp pred samesign w a b) c e = absurd (cc)
call_of (Op.Select w z a b) c e = absurd (cc)
call_of (Op.Cast cast flags v w a) c e = absurd (cc)
call_of (Op.Freeze w a) c e = absurd (cc)
call_of (Op.Two fun w a b) c e = absurd (cc)
call_of (Op.One fun w a strict) c e = absurd (cc)
call_of (Op.Over over w a b) c e = absurd (cc)
call_of (Op.Part w pair index) c e = absurd (cc)
call_of (Op.Assume z) c e = absurd (cc)

-- ---- lengths

picked_length : {A B : Type 0} (h : A → Option B) (xs : List A) → length (filter_map h xs) ≤ length xs
picked_length h [] = omega arith
picked_length {A} {B} h (x ∷ xs) = by (h x) (picked_length h xs)
  where
    by : (o : Option B) → length (filter_map h xs) ≤ length xs → length (cons_option o (filter_map h xs)) ≤ suc (length xs)
    by None l = omega (arith, l)
    by (Some y) l = omega (arith, l)

filter_length : (keeps : ℕ → Bool) (xs : List ℕ) → length (filter keeps xs) ≤ length xs
filter_length keeps [] = omega arith
filter_length keeps (x ∷ xs) = by (keeps x) (filter_length keeps xs)
  where
    by : (t : Bool) → length (filter keeps xs) ≤ length xs → length (cond t (x ∷ filter keeps xs) (filter keeps xs)) ≤ suc (length xs)
    by true l = omega (arith, l)
    by false l = omega (arith, l)

mapped_length : {A B : Type 0} (h : A → B) (xs : List A) → length (map h xs) ≡ length xs
mapped_length h [] = refl
mapped_length h (x ∷ xs) = ap suc (mapped_length h xs)

targets_length : (o : Order) (term : Term) → length (targets (renamed_term o term)) ≡ length (targets term)
targets_length o (Term.Ret w a) = refl
targets_length o (Term.Br to) = refl
targets_length o (Term.CondBr c taken fallen) = refl
targets_length o (Term.Switch w on other cases) =
    ap suc (mapped_length (λ (c : ℕ × BlockId). c.1) (map (renamed_case o) cases) ∙ mapped_length (renamed_case o) cases ∙ sym (mapped_length (λ (c : ℕ × BlockId). c.1) cases))
targets_length o Term.Unreachable = refl

renamed_targets : (o : Order) (most : ℕ) (blocks : List Block) → AllByRecursion (λ (b : Block). length (targets b.term) ≤ most) blocks →
    AllByRecursion (λ (b : Block). length (targets b.term) ≤ most) (map (renamed_block o) blocks)
renamed_targets o most [] all = tt
renamed_targets o most (b ∷ blocks) all = (let e = targets_length o b.term in let l = all.0 in omega (arith, e, l), renamed_targets o most blocks all.1)

no_names : (values : List Value) → AllByRecursion (λ (v : Value). v.name ≡ None) values → filter_map (λ (v : Value). v.name) values ≡ []
no_names [] all = refl
no_names (v ∷ values) all = ap (λ o. cons_option o (filter_map (λ (v : Value). v.name) values)) all.0 ∙ no_names values all.1

none_behind : {A : Type 0} (a : List A) → a ++ [] ≡ a
none_behind [] = refl
none_behind (x ∷ a) = ap (λ rest. x ∷ rest) (none_behind a)

module _ (f : Function) (found : Findings) (m : Marks) (known : Known f found m) (within : IsWithin f) where
  values_count : length (rewritten f m).values ≡ length f.values + 3 * length f.values
  values_count = let c = both_counts f.values m.added in let a = known.marks.added.count in omega (arith, c, a)

  pub may_be_numbered : MayBeNumbered (rewritten f m) m.reached
  may_be_numbered = record {
    some = let c = blocks_count f m in let e = within.entry in omega (arith, c, e);
    entry = (known.marks.reached first_block).1 first;
    edges = λ from to kept edge. (
      target_reached f found m known from to (is_edge_left f found m known from to edge),
      let below = within.edges from to (edge_was f found m known from to edge) in let c = blocks_count f m in omega (arith, below, c),
    );
    values = λ v t. let below = name_below f found m known v t in let c = values_count in omega (arith, below, c);
    calls = λ c t.
        let below = from_range 0 (length f.calls) c (sublist_in _ _ c (calls_among f found m known) t) in
        let count = calls_count f m in
        omega (arith, below, count);
  }

  pub defines_once : DefinesKeptOnce (rewritten f m) m.reached
  defines_once = record { names = names_distinct f found m known; calls = calls_distinct f found m known }

  -- ---- names

  in_kept : (b x : ℕ) → m.reached b ≡ true → is_in x (results_in (rewritten f m) b) ≡ true → is_in x (kept_values (rewritten f m) m.reached) ≡ true
  in_kept b x r t = by (slice_get (rewritten f m).blocks b) refl t
    where
      by : (o : Option Block) → slice_get (rewritten f m).blocks b ≡ o → is_in x (elim o [ None ↦ [] | Some c ↦ block_ids c ]) ≡ true → is_in x (kept_values (rewritten f m) m.reached) ≡ true
      by None e t = absurd (cc)
      by (Some c) e t =
          in_right x (map (λ (p : Param). p.value.0) f.params) (flat_map block_ids (kept_blocks (rewritten f m) m.reached))
          (in_block block_ids (rewritten f m).blocks (kept_numbers (rewritten f m) m.reached) b c x (number_kept (rewritten f m) m.reached b r (get_within (rewritten f m).blocks b c e)) e t)

  over_kept : (b : ℕ) (passed : List ℕ) (x : ℕ) → IsWalk (rewritten f m) (b ∷ passed) → list_any (λ c. is_in x (results_in (rewritten f m) c)) passed ≡ true →
      is_in x (kept_values (rewritten f m) m.reached) ≡ true
  over_kept b [] x walk t = absurd (cc)
  over_kept b (d ∷ rest) x walk t = elim (or_cases (is_in x (results_in (rewritten f m) d)) (list_any (λ c. is_in x (results_in (rewritten f m) c)) rest) t) [
    | inl k ↦ in_kept d x (is_edge_left f found m known d b walk.0).reached k
    | inr k ↦ over_kept d rest x walk.1 k
  ]

  defined_kept : (b n x : ℕ) → m.reached b ≡ true → IsDefinedAt (rewritten f m) b n x → is_in x (kept_values (rewritten f m) m.reached) ≡ true
  defined_kept b n x r live =
      let w = walk_to f found m known b r in
      elim (or_cases (defined_over (rewritten f m) w.passed x) (is_in x (results_before (rewritten f m) b n)) (live w.passed w.walk)) [
        | inl o ↦ elim (or_cases (is_parameter (rewritten f m) x) (list_any (λ c. is_in x (results_in (rewritten f m) c)) w.passed) o) [
          | inl p ↦ in_left x (map (λ (p : Param). p.value.0) f.params) (flat_map block_ids (kept_blocks (rewritten f m) m.reached)) p
          | inr k ↦ over_kept b w.passed x w.walk k
        ]
        | inr k ↦ in_kept b x r (before_end (rewritten f m) b n x k)
      ]

  pub has_its_names : HasItsNames (rewritten f m) m.reached
  has_its_names x t =
      let k = out_kept (names_used (rewritten f m)) (rewritten f m).blocks (kept_numbers (rewritten f m) m.reached) x t in
      let r = (kept_number (rewritten f m) m.reached k.number k.kept).kept in
      let l = left_block f m k.number k.block k.there in
      let inside : is_in x (names_used (rewritten f m) (rewritten_block f m k.number l.block)) ≡ true =
      subst (λ (c : Block). is_in x (names_used (rewritten f m) c) ≡ true) (sym (sym (reached_block f m k.number l.block r) ∙ l.is)) k.inside in
      let u = block_use (λ (u : NameUse). IsDefinedAt (rewritten f m) u.block u.line u.name × (m.reached u.block ≡ true)) (rewritten f m) k.number (rewritten_block f m k.number l.block) x
      (block_used f found m known k.number l.block l.there r) inside in
      defined_kept u.block u.line x u.holds.1 u.holds.0

  -- ---- types and ranges

  module _ (b : ℕ) (block : Block) (there : slice_get f.blocks b ≡ Some block) (reached : m.reached b ≡ true) where
    abbrev IsGood : Inst → Type 0
    IsGood line = (i : ℕ) × (inst : Inst) × (left : IsLeftLine f m b block i inst) × IsGoodLine f found m known b block i inst left line

    lines_are_good : AllByRecursion IsGood (lines_left m b 0 block.insts)
    lines_are_good = good_lines f found m known b block there reached

    block_typed : TypedBlock (rewritten f m) (rewritten_block f m b block)
    block_typed = record {
      phis = All-from_recursion (TypedPhi (rewritten f m)) (phis_left f m b block.phis)
          (all_met_phis f found m known b block there reached (TypedPhi (rewritten f m)) (λ j phi stands kept met. phi_left_typed f found m known b block there reached j phi stands));
      instructions = All-from_recursion (TypedInst (rewritten f m)) (lines_left m b 0 block.insts)
          (all_turned IsGood (TypedInst (rewritten f m)) (lines_left m b 0 block.insts) (λ line good. good.3.typed) lines_are_good);
      terminator = term_left_typed f found m known b block there reached;
    }

    block_printable : PrintableBlock (rewritten f m) (rewritten_block f m b block)
    block_printable = record {
      phis = All-from_recursion (PrintablePhi (rewritten f m)) (phis_left f m b block.phis)
          (all_met_phis f found m known b block there reached (PrintablePhi (rewritten f m)) (λ j phi stands kept met. phi_left_printable f found m known b block there reached j phi stands));
      insts = All-from_recursion (PrintableInst (rewritten f m)) (lines_left m b 0 block.insts)
          (all_turned IsGood (PrintableInst (rewritten f m)) (lines_left m b 0 block.insts) (λ line good. good.3.printable) lines_are_good);
      term = term_left_printable f found m known b block there reached;
    }

    phi_named : (j : ℕ) (phi : Phi) → slice_get block.phis j ≡ Some phi → name_type (rewritten f m) phi.result.0 ≡ Ty.Int phi.width
    phi_named j phi stands =
        same_type f m phi.result.0 (phi_below f known.printable b j block phi there stands)
        ∙ at block.phis j phi (phi_types f known.printable b block there) stands
      where
        at : (phis : List Phi) (j : ℕ) (phi : Phi) → AllByRecursion (λ (p : Phi). name_type f p.result.0 ≡ Ty.Int p.width) phis → slice_get phis j ≡ Some phi → name_type f phi.result.0 ≡ Ty.Int phi.width
        at [] j phi all e = absurd (cc)
        at (p ∷ phis) zero phi all e = subst (λ (q : Phi). name_type f q.result.0 ≡ Ty.Int q.width) (same_Some p phi e) all.0
        at (p ∷ phis) (suc j) phi all e = at phis j phi all.1 e

    block_types_are : types_at (rewritten f m) (block_ids (rewritten_block f m b block)) ≡ block_types (rewritten_block f m b block)
    block_types_are =
        types_both (rewritten f m) (map (λ (p : Phi). p.result.0) (phis_left f m b block.phis)) (inst_ids (lines_left m b 0 block.insts))
        ∙ ap (λ ts. ts ++ types_at (rewritten f m) (inst_ids (lines_left m b 0 block.insts)))
        (phi_types_are (rewritten f m) (phis_left f m b block.phis)
        (all_met_phis f found m known b block there reached (λ (p : Phi). name_type (rewritten f m) p.result.0 ≡ Ty.Int p.width) (λ j phi stands kept met. phi_named j phi stands)))
        ∙ ap (λ ts. map (λ (p : Phi). Ty.Int p.width) (phis_left f m b block.phis) ++ ts)
        (line_types_are (rewritten f m) (lines_left m b 0 block.insts)
        (all_turned IsGood (λ (i : Inst). (v : ValueId) → i.result ≡ Some v → name_type (rewritten f m) v.0 ≡ op_type i.op) (lines_left m b 0 block.insts) (λ line good. good.3.type) lines_are_good))

    block_fits : All (KeptPhiFits (rewritten f m) m.reached b) (rewritten_block f m b block).phis
    block_fits = All-from_recursion (KeptPhiFits (rewritten f m) m.reached b) (phis_left f m b block.phis)
        (all_met_phis f found m known b block there reached (KeptPhiFits (rewritten f m) m.reached b) (λ j phi stands kept met. phi_left_fits f found m known b block there reached j phi stands))

    block_smaller : (most : ℕ) → length (targets block.term) ≤ most → length (targets (rewritten_block f m b block).term) ≤ most
    block_smaller most l = by (m.met b (length block.insts))
      where
        by : (t : Bool) → length (targets (term_if_met t (shrunk (m.put (At b (length block.insts))) (m.left b) block.term))) ≤ most
        by true = let k = shrunk_length (m.put (At b (length block.insts))) (m.left b) block.term in omega (arith, l, k)
        by false = omega arith

  pub kept_typed : KeptIsTyped (rewritten f m) m.reached
  kept_typed = at_kept f found m known (TypedBlock (rewritten f m)) block_typed

  pub kept_phis_fit : KeptPhisFit (rewritten f m) m.reached
  kept_phis_fit = record {
    phis = λ b block' kept there. let l = left_block f m b block' there in
        subst (λ (c : Block). All (KeptPhiFits (rewritten f m) m.reached b) c.phis) (sym (reached_block f m b l.block kept) ∙ l.is) (block_fits b l.block l.there kept);
    entry = λ from kept.
        let c = edges_count f found m known from first_block in
        let l = no_more_edges f found m known from first_block in
        let none = (known.phis 0 within.entry).entry refl from in
        omega (arith, c, l, none);
  }

  -- ---- names in the text

  block_names : (n : ℕ) (blocks : List Block) → filter_map (λ (b : Block). b.name) (with_numbers (block_left f m) n blocks) ≡ filter_map (λ (b : Block). b.name) blocks
  block_names n [] = refl
  block_names n (c ∷ blocks) = ap (λ o. cons_option o (filter_map (λ (b : Block). b.name) (with_numbers (block_left f m) (suc n) blocks))) (by (m.reached n))
      ∙ ap (cons_option c.name) (block_names (suc n) blocks)
    where
      by : (t : Bool) → (if_block_left t (rewritten_block f m n c) (emptied c)).name ≡ c.name
      by true = refl
      by false = refl

  -- the names that narrowing adds have no name in the text
  record IsPlaceOf (j : ℕ) : Type 0 where
    n : ℕ
    k : ℕ
    less : k < 3
    is : j ≡ 3 * n + k

  place_of : (j : ℕ) → IsPlaceOf j
  place_of zero = record { n = 0; k = 0; less = omega arith; is = omega arith }
  place_of (suc j) = let p = place_of j in by p.n p.k p.less p.is
    where
      by : (n k : ℕ) → k < 3 → j ≡ 3 * n + k → IsPlaceOf (suc j)
      by n zero l e = record { n = n; k = 1; less = omega arith; is = omega (arith, e) }
      by n (suc zero) l e = record { n = n; k = 2; less = omega arith; is = omega (arith, e) }
      by n (suc (suc k)) l e = record { n = suc n; k = 0; less = omega arith; is = omega (arith, e, l) }

  unnamed_at : (j : ℕ) (v : Value) → slice_get m.added j ≡ Some v → v.name ≡ None
  unnamed_at j v e =
      let p = place_of j in
      let l = get_within m.added j v e in
      let c = known.marks.added.count in
      let is = p.is in
      let below : p.n < length f.values = omega (arith, l, c, is) in
      let added = known.marks.added.each p.n p.k below p.less in
      ap (λ (x : Value). x.name) (same_Some v (unnamed added.ty) (sym e ∙ ap (slice_get m.added) is ∙ added.stands))

  all_unnamed : AllByRecursion (λ (v : Value). v.name ≡ None) m.added
  all_unnamed = from_get (λ (v : Value). v.name ≡ None) m.added unnamed_at

  same_names : kept_names (rewritten f m) ≡ kept_names f
  same_names =
      ap (λ ns. ns ++ filter_map (λ (b : Block). b.name) (rewritten f m).blocks)
      (picked_both (λ (v : Value). v.name) f.values m.added ∙ ap (λ ns. filter_map (λ (v : Value). v.name) f.values ++ ns) (no_names m.added all_unnamed)
      ∙ none_behind (filter_map (λ (v : Value). v.name) f.values))
      ∙ ap (λ ns. filter_map (λ (v : Value). v.name) f.values ++ ns) (block_names 0 f.blocks)

  call_kept : (c : ℕ) → is_in c (kept_calls (rewritten f m) m.reached) ≡ true → IsSomeAnd (slice_get (rewritten f m).calls c) (PrintableCall (rewritten f m))
  call_kept c t =
      let k = out_kept block_call_places (rewritten f m).blocks (kept_numbers (rewritten f m) m.reached) c t in
      let r = (kept_number (rewritten f m) m.reached k.number k.kept).kept in
      let l = left_block f m k.number k.block k.there in
      let inside : is_in c (block_call_places (rewritten_block f m k.number l.block)) ≡ true =
      subst (λ (d : Block). is_in c (block_call_places d) ≡ true) (sym (sym (reached_block f m k.number l.block r) ∙ l.is)) k.inside in
      let call = call_left_in f found m known k.number l.block l.there r c inside in
      let is = call_of call.inst.op c call.calls in
      let made = known_call f found m known k.number l.block call.place call.inst call.left is.width c is.is in
      made_printable f found m known k.number l.block call.place call.inst call.left is.width c is.is made.0 made.1

  pub kept_printable : KeptIsPrintable (rewritten f m) m.reached
  kept_printable = record {
    name = known.printable.name;
    lead = known.printable.lead;
    width = known.printable.width;
    words = known.printable.words;
    tail = known.printable.tail;
    parameters = All-from_recursion (λ (p : Param). IsIntegerType (type_of (rewritten f m) p.value)) f.params
        (all_two (λ (p : Param). p.value.0 < length f.values) (λ (p : Param). IsIntegerType (type_of f p.value)) (λ (p : Param). IsIntegerType (type_of (rewritten f m) p.value)) f.params
        (λ p below is. subst IsIntegerType (sym (same_type f m p.value.0 below)) is) (parameters_below f known.printable) (parameters_are_integers f known.printable));
    results = at_kept f found m known (λ (b : Block). types_at (rewritten f m) (block_ids b) ≡ block_types b) block_types_are;
    names = subst (All IsKeptName) (sym same_names) known.printable.names;
    distinct = subst (IsDistinct bytes_eq) (sym same_names) known.printable.distinct;
    blocks = at_kept f found m known (PrintableBlock (rewritten f m)) block_printable;
    calls = All-from_recursion (λ c. IsSomeAnd (slice_get (rewritten f m).calls c) (PrintableCall (rewritten f m))) (kept_calls (rewritten f m) m.reached)
        (from_in (λ c. IsSomeAnd (slice_get (rewritten f m).calls c) (PrintableCall (rewritten f m))) (kept_calls (rewritten f m) m.reached) call_kept);
  }

  -- ---- sizes

  blocks_most : length (numbered (rewritten f m) m.reached).blocks ≤ length f.blocks
  blocks_most =
      let mapped = mapped_length (renamed_block (text_order (rewritten f m) m.reached)) (kept_blocks (rewritten f m) m.reached) in
      let picked = picked_length (slice_get (rewritten f m).blocks) (kept_numbers (rewritten f m) m.reached) in
      let filtered = filter_length m.reached (range_with_len 0 (length (rewritten f m).blocks)) in
      let range = range_count 0 (length (rewritten f m).blocks) in
      let count = blocks_count f m in
      omega (arith, mapped, picked, filtered, range, count)

  pub little_larger : IsLittleLarger f (numbered (rewritten f m) m.reached)
  little_larger = record {
    values =
        let picked = picked_length (slice_get (rewritten f m).values) (kept_values (rewritten f m) m.reached) in
        let most = names_count f found m known in
        omega (arith, picked, most);
    blocks = blocks_most;
    edges = λ most few. All-from_recursion (λ (b : Block). length (targets b.term) ≤ most) (numbered (rewritten f m) m.reached).blocks
        (renamed_targets (text_order (rewritten f m) m.reached) most (kept_blocks (rewritten f m) m.reached)
        (recursion_from_All (λ (b : Block). length (targets b.term) ≤ most) (kept_blocks (rewritten f m) m.reached)
        (at_kept f found m known (λ (b : Block). length (targets b.term) ≤ most) (λ b block there reached.
        block_smaller b block there reached most (each_of (λ (b : Block). length (targets b.term) ≤ most) f.blocks b block few there)))));
  }
