-- The names found in one pass are those that the values and blocks are shown by, where ids are places in text order.
use Rattle.std.proofs.Common.{◌≡◌, ◌∙◌, ◌<◌, ◌+◌, ℕ, zero, suc, Bool, true, false, not, if◌then◌else◌, List, [], ◌∷◌, ◌++◌, Option, Some, None, refl, ap, sym, subst, append_assoc, append-nil, arith, length, map, flat_map, filter_map, take_while, count_by, cond, eq-eqb, unwrap_or, decimal}
use Rattle.std.specs.Bool.{⊤}
use Rattle.std.specs.List.{range_with_len, AllByRecursion}
use Rattle.std.proofs.lemmas.Bool.{ne_eqb}
use Rattle.std.proofs.lemmas.List.Elements.{filter_map-append}
use Rattle.std.proofs.lemmas.List.Sums.{sum_by-append, take_while-cons}
use Rattle.vfa_ir.specs.declared.functions.Block.{Block}
use Rattle.vfa_ir.specs.declared.functions.Function.{Function}
use Rattle.vfa_ir.specs.declared.functions.Inst.{Inst}
use Rattle.vfa_ir.specs.declared.functions.Param.{Param}
use Rattle.vfa_ir.specs.declared.functions.Phi.{Phi}
use Rattle.vfa_ir.specs.declared.numbering.Local.{Local}
use Rattle.vfa_ir.specs.declared.operations.Op.{Op}
use Rattle.vfa_ir.specs.declared.operations.ValueId.{ValueId}
use Rattle.vfa_ir.specs.Printable.{IsPrintable, ids_of, block_ids, inst_ids}
use Rattle.vfa_ir.specs.Resolution.{Scope}
use Rattle.vfa_ir.specs.Shown.{is_unnamed, locals_of, locals_of_block, locals_of_blocks, name_of, number_of, param_locals, phi_locals, results_of, same_local, shown_name, shown_value_name, shown_block_name}
use Rattle.vfa_print.specs.Numbered.{named_from, name_or_number, next_number, with_name}
use Rattle.vfa_print.specs.Trees.{shown_scope}

-- the ids of values and of blocks among locals

abbrev value_in : Local → Option ℕ
value_in (Local.Value v) = Some v
value_in (Local.Block _) = None

abbrev block_in : Local → Option ℕ
block_in (Local.Value _) = None
block_in (Local.Block b) = Some b

abbrev values_in : List Local → List ℕ
values_in = filter_map value_in

abbrev blocks_in : List Local → List ℕ
blocks_in = filter_map block_in

values_of_params : (ps : List Param) → values_in (param_locals ps) ≡ map (λ p. p.value.0) ps
values_of_params [] = refl
values_of_params (p ∷ ps) = ap (λ r. p.value.0 ∷ r) (values_of_params ps)

blocks_of_params : (ps : List Param) → blocks_in (param_locals ps) ≡ []
blocks_of_params [] = refl
blocks_of_params (p ∷ ps) = blocks_of_params ps

values_of_phis : (ps : List Phi) → values_in (phi_locals ps) ≡ map (λ p. p.result.0) ps
values_of_phis [] = refl
values_of_phis (p ∷ ps) = ap (λ r. p.result.0 ∷ r) (values_of_phis ps)

blocks_of_phis : (ps : List Phi) → blocks_in (phi_locals ps) ≡ []
blocks_of_phis [] = refl
blocks_of_phis (p ∷ ps) = blocks_of_phis ps

values_of_inst : (r : Option ValueId) (op : Op) (is : List Inst) → values_in (results_of is) ≡ inst_ids is
    → values_in (results_of (record { result = r; op = op } ∷ is)) ≡ inst_ids (record { result = r; op = op } ∷ is)
values_of_inst None op is rest = rest
values_of_inst (Some v) op is rest = ap (λ r. v.0 ∷ r) rest

values_of_insts : (is : List Inst) → values_in (results_of is) ≡ inst_ids is
values_of_insts [] = refl
values_of_insts (i ∷ is) = values_of_inst i.result i.op is (values_of_insts is)

blocks_of_inst : (r : Option ValueId) (op : Op) (is : List Inst) → blocks_in (results_of is) ≡ []
    → blocks_in (results_of (record { result = r; op = op } ∷ is)) ≡ []
blocks_of_inst None op is rest = rest
blocks_of_inst (Some v) op is rest = rest

blocks_of_insts : (is : List Inst) → blocks_in (results_of is) ≡ []
blocks_of_insts [] = refl
blocks_of_insts (i ∷ is) = blocks_of_inst i.result i.op is (blocks_of_insts is)

values_of_block : (place : ℕ) (b : Block) → values_in (locals_of_block place b) ≡ block_ids b
values_of_block place b =
    filter_map-append value_in (phi_locals b.phis) (results_of b.insts)
    ∙ ap (λ r. r ++ values_in (results_of b.insts)) (values_of_phis b.phis)
    ∙ ap (λ r. map (λ p. p.result.0) b.phis ++ r) (values_of_insts b.insts)

blocks_of_block : (place : ℕ) (b : Block) → blocks_in (locals_of_block place b) ≡ place ∷ []
blocks_of_block place b =
    ap (λ r. place ∷ r) (filter_map-append block_in (phi_locals b.phis) (results_of b.insts)
    ∙ ap (λ r. r ++ blocks_in (results_of b.insts)) (blocks_of_phis b.phis)
    ∙ blocks_of_insts b.insts)

values_of_blocks : (place : ℕ) (bs : List Block) → values_in (locals_of_blocks place bs) ≡ flat_map block_ids bs
values_of_blocks place [] = refl
values_of_blocks place (b ∷ bs) =
    filter_map-append value_in (locals_of_block place b) (locals_of_blocks (place + 1) bs)
    ∙ ap (λ r. r ++ values_in (locals_of_blocks (place + 1) bs)) (values_of_block place b)
    ∙ ap (λ r. block_ids b ++ r) (values_of_blocks (place + 1) bs)

blocks_of_blocks : (place : ℕ) (bs : List Block) → blocks_in (locals_of_blocks place bs) ≡ range_with_len place (length bs)
blocks_of_blocks place [] = refl
blocks_of_blocks place (b ∷ bs) =
    filter_map-append block_in (locals_of_block place b) (locals_of_blocks (place + 1) bs)
    ∙ ap (λ r. r ++ blocks_in (locals_of_blocks (place + 1) bs)) (blocks_of_block place b)
    ∙ ap (λ r. place ∷ r) (blocks_of_blocks (place + 1) bs)

values_of_all : (f : Function) → values_in (locals_of f) ≡ ids_of f
values_of_all f =
    filter_map-append value_in (param_locals f.params) (locals_of_blocks 0 f.blocks)
    ∙ ap (λ r. r ++ values_in (locals_of_blocks 0 f.blocks)) (values_of_params f.params)
    ∙ ap (λ r. map (λ p. p.value.0) f.params ++ r) (values_of_blocks 0 f.blocks)

blocks_of_all : (f : Function) → blocks_in (locals_of f) ≡ range_with_len 0 (length f.blocks)
blocks_of_all f =
    filter_map-append block_in (param_locals f.params) (locals_of_blocks 0 f.blocks)
    ∙ ap (λ r. r ++ blocks_in (locals_of_blocks 0 f.blocks)) (blocks_of_params f.params)
    ∙ blocks_of_blocks 0 f.blocks

-- numbers from k on

abbrev IsFrom : ℕ → List ℕ → Type 0
IsFrom k [] = ⊤
IsFrom k (v ∷ vs) = (v ≡ k) × IsFrom (k + 1) vs

range_is_from : (k n : ℕ) → IsFrom k (range_with_len k n)
range_is_from k zero = record {}
range_is_from k (suc n) = (refl, range_is_from (k + 1) n)

-- what is defined before the value of this place and the block of this place

abbrev IsEarlier : ℕ → ℕ → Local → Type 0
IsEarlier k m (Local.Value v) = v < k
IsEarlier k m (Local.Block b) = b < m

value_differs : (k m v : ℕ) (o : Local) → v ≡ k → IsEarlier k m o → same_local o (Local.Value v) ≡ false
value_differs k m v (Local.Value w) is h = ne_eqb w v (λ e. omega (arith, e, is, h))
value_differs k m v (Local.Block b) is h = refl

block_differs : (k m b : ℕ) (o : Local) → b ≡ m → IsEarlier k m o → same_local o (Local.Block b) ≡ false
block_differs k m b (Local.Value w) is h = refl
block_differs k m b (Local.Block c) is h = ne_eqb c b (λ e. omega (arith, e, is, h))

values_differ : (k m v : ℕ) (before : List Local) → v ≡ k → AllByRecursion (IsEarlier k m) before
    → AllByRecursion (λ o. same_local o (Local.Value v) ≡ false) before
values_differ k m v [] is earlier = record {}
values_differ k m v (o ∷ before) is earlier = (value_differs k m v o is earlier.0, values_differ k m v before is earlier.1)

blocks_differ : (k m b : ℕ) (before : List Local) → b ≡ m → AllByRecursion (IsEarlier k m) before
    → AllByRecursion (λ o. same_local o (Local.Block b) ≡ false) before
blocks_differ k m b [] is earlier = record {}
blocks_differ k m b (o ∷ before) is earlier = (block_differs k m b o is earlier.0, blocks_differ k m b before is earlier.1)

earlier_value : (k m : ℕ) (o : Local) → IsEarlier k m o → IsEarlier (k + 1) m o
earlier_value k m (Local.Value w) h = omega arith
earlier_value k m (Local.Block b) h = h

earlier_block : (k m : ℕ) (o : Local) → IsEarlier k m o → IsEarlier k (m + 1) o
earlier_block k m (Local.Value w) h = h
earlier_block k m (Local.Block b) h = omega arith

value_after : (k m v : ℕ) (before : List Local) → v ≡ k → AllByRecursion (IsEarlier k m) before
    → AllByRecursion (IsEarlier (k + 1) m) (before ++ Local.Value v ∷ [])
value_after k m v [] is earlier = (omega (arith, is), record {})
value_after k m v (o ∷ before) is earlier = (earlier_value k m o earlier.0, value_after k m v before is earlier.1)

block_after : (k m b : ℕ) (before : List Local) → b ≡ m → AllByRecursion (IsEarlier k m) before
    → AllByRecursion (IsEarlier k (m + 1)) (before ++ Local.Block b ∷ [])
block_after k m b [] is earlier = (omega (arith, is), record {})
block_after k m b (o ∷ before) is earlier = (earlier_block k m o earlier.0, block_after k m b before is earlier.1)

-- those before it are those before it in text order

abbrev differs : Local → Local → Bool
differs l other = not (same_local other l)

taken : (l : Local) (before rest : List Local) → same_local l l ≡ true → AllByRecursion (λ o. same_local o l ≡ false) before
    → take_while (differs l) (before ++ l ∷ rest) ≡ before
taken l [] rest self differ =
    take_while-cons (differs l) l rest ∙ ap (λ b. cond (not b) (l ∷ take_while (differs l) rest) []) self
taken l (o ∷ before) rest self differ =
    take_while-cons (differs l) o (before ++ l ∷ rest)
    ∙ ap (λ b. cond (not b) (o ∷ take_while (differs l) (before ++ l ∷ rest)) []) differ.0
    ∙ ap (λ r. o ∷ r) (taken l before rest self differ.1)

number_is : (f : Function) (l : Local) (before rest : List Local) → locals_of f ≡ before ++ l ∷ rest → same_local l l ≡ true
    → AllByRecursion (λ o. same_local o l ≡ false) before → count_by (is_unnamed f) before ≡ number_of f l
number_is f l before rest is self differ =
    sym (ap (λ ls. count_by (is_unnamed f) (take_while (differs l) ls)) is ∙ ap (count_by (is_unnamed f)) (taken l before rest self differ))

or_number : (name : Option (List ℕ)) (n m : ℕ) → n ≡ m → unwrap_or name (decimal n) ≡ elim name [ None ↦ decimal m | Some bytes ↦ bytes ]
or_number None n m is = ap decimal is
or_number (Some bytes) n m is = refl

one_more : (b : Bool) (n : ℕ) → (if b then n + 1 else n) ≡ n + cond b 1 0
one_more true n = refl
one_more false n = omega arith

count_one : (p : Local → Bool) (l : Local) → count_by p (l ∷ []) ≡ cond (p l) 1 0
count_one p l = omega arith

count_append : (p : Local → Bool) (xs ys : List Local) → count_by p (xs ++ ys) ≡ count_by p xs + count_by p ys
count_append p xs ys = sum_by-append (λ x. cond (p x) 1 0) xs ys

next_is : (f : Function) (before : List Local) (l : Local)
    → next_number f (count_by (is_unnamed f) before) l ≡ count_by (is_unnamed f) (before ++ l ∷ [])
next_is f before l =
    let counted = count_by (is_unnamed f) before in
    one_more (is_unnamed f l) counted ∙ ap (λ n. counted + n) (sym (count_one (is_unnamed f) l))
    ∙ sym (count_append (is_unnamed f) before (l ∷ []))

scope_is : (scope : Scope) (values blocks : List (List ℕ)) → scope.values ≡ values → scope.blocks ≡ blocks
    → scope ≡ record { values = values; blocks = blocks }
scope_is scope values blocks v b =
    ap (λ x. record { values = x; blocks = scope.blocks }) v ∙ ap (λ x. record { values = values; blocks = x }) b

abbrev grown : Function → Scope → List Local → Scope
grown f scope ls = record {
  values = scope.values ++ map (shown_value_name f) (values_in ls);
  blocks = scope.blocks ++ map (shown_block_name f) (blocks_in ls);
}

one_named : (f : Function) (before rest : List Local) (l : Local) (scope : Scope) → count_by (is_unnamed f) before ≡ number_of f l
    → named_from f (count_by (is_unnamed f) before) scope (l ∷ rest)
    ≡ named_from f (count_by (is_unnamed f) (before ++ l ∷ [])) (with_name scope l (shown_name f l)) rest
one_named f before rest l scope is =
    ap (λ n. named_from f n (with_name scope l (name_or_number f (count_by (is_unnamed f) before) l)) rest) (next_is f before l)
    ∙ ap (λ name. named_from f (count_by (is_unnamed f) (before ++ l ∷ [])) (with_name scope l name) rest)
    (or_number (name_of f l) (count_by (is_unnamed f) before) (number_of f l) is)

numbered : (f : Function) (before rest : List Local) (k m : ℕ) (scope : Scope) → locals_of f ≡ before ++ rest
    → AllByRecursion (IsEarlier k m) before → IsFrom k (values_in rest) → IsFrom m (blocks_in rest)
    → named_from f (count_by (is_unnamed f) before) scope rest ≡ grown f scope rest
numbered f before [] k m scope is earlier values blocks =
    scope_is scope _ _ (sym (append-nil scope.values)) (sym (append-nil scope.blocks))
numbered f before (Local.Value v ∷ rest) k m scope is earlier values blocks =
    let l = Local.Value v in
    one_named f before rest l scope (number_is f l before rest is (eq-eqb v v refl) (values_differ k m v before values.0 earlier))
    ∙ numbered f (before ++ l ∷ []) rest (k + 1) m (with_name scope l (shown_name f l)) (is ∙ sym (append_assoc before (l ∷ []) rest))
    (value_after k m v before values.0 earlier) values.1 blocks
    ∙ scope_is _ _ _ (append_assoc scope.values (shown_name f l ∷ []) (map (shown_value_name f) (values_in rest))) refl
numbered f before (Local.Block b ∷ rest) k m scope is earlier values blocks =
    let l = Local.Block b in
    one_named f before rest l scope (number_is f l before rest is (eq-eqb b b refl) (blocks_differ k m b before blocks.0 earlier))
    ∙ numbered f (before ++ l ∷ []) rest k (m + 1) (with_name scope l (shown_name f l)) (is ∙ sym (append_assoc before (l ∷ []) rest))
    (block_after k m b before blocks.0 earlier) values blocks.1
    ∙ scope_is _ _ _ refl (append_assoc scope.blocks (shown_name f l ∷ []) (map (shown_block_name f) (blocks_in rest)))

pub all_named : (f : Function) → IsPrintable f → named_from f 0 (record { values = []; blocks = [] }) (locals_of f) ≡ shown_scope f
all_named f h =
    let values = values_of_all f ∙ h.ids in
    let blocks = blocks_of_all f in
    numbered f [] (locals_of f) 0 0 (record { values = []; blocks = [] }) refl (record {})
    (subst (IsFrom 0) (sym values) (range_is_from 0 (length f.values))) (subst (IsFrom 0) (sym blocks) (range_is_from 0 (length f.blocks)))
    ∙ scope_is _ _ _ (ap (map (shown_value_name f)) values) (ap (map (shown_block_name f)) blocks)
