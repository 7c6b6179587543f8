-- In a function that is well typed and whose phis fit the edges, each use is one of a value of the function, in a block of it.
use Rattle.std.proofs.Common.{◌≡◌, ℕ, suc, ◌+◌, ◌<◌, ◌≤◌, cond, eqb, List, [], ◌∷◌, ◌++◌, flat_map, length, get_or, All, Option, Some, None, IsSomeAnd, refl, subst, arith, add-zero, count_by}
use Rattle.std.proofs.lemmas.Bool.{eq-eqb}
use Rattle.std.proofs.lemmas.List.Elements.{recursion_from_All}
use Rattle.std.proofs.lemmas.List.Sums.{get_or-le-sum_by}
use Rattle.std.proofs.lemmas.Option.{MatchOption-at_some, get_or_from_slice_get, slice_get_within}
use Rattle.std.specs.Bool.{⊤}
use Rattle.std.specs.List.{AllByRecursion, slice_get}
use Rattle.vfa_ir.specs.declared.operations.BlockId.{BlockId}
use Rattle.vfa_ir.specs.declared.operations.Op.{Op}
use Rattle.vfa_ir.specs.declared.operations.Operand.{Operand}
use Rattle.vfa_ir.specs.declared.operations.Ty.{Ty}
use Rattle.vfa_ir.specs.declared.operations.ValueId.{ValueId}
use Rattle.vfa_ir.specs.declared.functions.Block.{Block}
use Rattle.vfa_ir.specs.declared.functions.CallArg.{CallArg}
use Rattle.vfa_ir.specs.declared.functions.CallOp.{CallOp}
use Rattle.vfa_ir.specs.declared.functions.Function.{Function}
use Rattle.vfa_ir.specs.declared.functions.Inst.{Inst}
use Rattle.vfa_ir.specs.declared.functions.Phi.{Phi}
use Rattle.vfa_ir.specs.declared.functions.Term.{Term}
use Rattle.vfa_ir.specs.declared.functions.Value.{Value}
use Rattle.vfa_ir.specs.Defined.{NameUse, block_uses, inst_uses, line_count, op_names, operand_names, phi_uses, term_names, uses_at, uses_from, uses_of}
use Rattle.vfa_ir.specs.PhisFit.{PhiFits, PhisFit, edge_count, targets}
use Rattle.vfa_ir.specs.Typed.{HasType, IsOfType, Typed, TypedBlock, TypedInst, TypedOp, TypedPhi, TypedTerm}
use Rattle.vfa_check.specs.Predecessors.{Entries, times_named}
use Rattle.vfa_check.proofs.EdgeCounts.{both}

pub record IsUseWithin (f : Function) (u : NameUse) : Type 0 where
  pub name : u.name < length f.values
  pub block : u.block < length f.blocks

abbrev AreValues : Function → List ℕ → Type 0
AreValues f names = AllByRecursion (λ v. v < length f.values) names

value_within : (f : Function) (ty : Ty) (v : ValueId) → HasType f ty v → v.0 < length f.values
value_within f ty v h = at (slice_get f.values v.0) refl h
  where
    at : (o : Option Value) → slice_get f.values v.0 ≡ o → IsSomeAnd o (λ x. x.ty ≡ ty) → v.0 < length f.values
    at None e t = absurd t
    at (Some x) e t = slice_get_within f.values v.0 x e

operand_within : (f : Function) (ty : Ty) (a : Operand) → IsOfType f ty a → AreValues f (operand_names a)
operand_within f ty (Operand.Value v) h = (value_within f ty v h, tt)
operand_within f ty (Operand.Literal _) h = tt
operand_within f ty Operand.Poison h = tt

pair_within : (f : Function) (ty : Ty) (a b : Operand) → IsOfType f ty a → IsOfType f ty b → AreValues f (operand_names a ++ operand_names b)
pair_within f ty a b h k = both (λ v. v < length f.values) (operand_names a) (operand_names b) (operand_within f ty a h) (operand_within f ty b k)

arguments_within : (f : Function) (args : List CallArg) → AllByRecursion (λ (a : CallArg). IsOfType f (Ty.Int a.width) a.value) args →
    AreValues f (flat_map (λ (a : CallArg). operand_names a.value) args)
arguments_within f [] h = tt
arguments_within f (a ∷ args) h =
    both (λ v. v < length f.values) (operand_names a.value) (flat_map (λ (x : CallArg). operand_names x.value) args)
    (operand_within f (Ty.Int a.width) a.value h.0) (arguments_within f args h.1)

call_within : (f : Function) (o : Option CallOp) → IsSomeAnd o (λ c. All (λ a. IsOfType f (Ty.Int a.width) a.value) c.args) →
    AreValues f (elim o [ None ↦ [] | Some c ↦ flat_map (λ a. operand_names a.value) c.args ])
call_within f None h = absurd h
call_within f (Some c) h = arguments_within f c.args (recursion_from_All (λ (a : CallArg). IsOfType f (Ty.Int a.width) a.value) c.args h)

op_within : (f : Function) (op : Op) → TypedOp f op → AreValues f (op_names f op)
op_within f (Op.Bin _ _ width a b) h = pair_within f (Ty.Int width) a b h.first h.second
op_within f (Op.Icmp _ _ width a b) h = pair_within f (Ty.Int width) a b h.first h.second
op_within f (Op.Select width c a b) h =
    both (λ v. v < length f.values) (operand_names c) (operand_names a ++ operand_names b) (operand_within f (Ty.Int 1) c h.0)
    (pair_within f (Ty.Int width) a b h.1.first h.1.second)
op_within f (Op.Cast _ _ from _ a) h = operand_within f (Ty.Int from) a h.0
op_within f (Op.Freeze width a) h = operand_within f (Ty.Int width) a h
op_within f (Op.Two _ width a b) h = pair_within f (Ty.Int width) a b h.first h.second
op_within f (Op.One _ width a _) h = operand_within f (Ty.Int width) a h
op_within f (Op.Over _ width a b) h = pair_within f (Ty.Int width) a b h.first h.second
op_within f (Op.Part width pair _) h = (value_within f (Ty.Pair width) pair h, tt)
op_within f (Op.Assume c) h = operand_within f (Ty.Int 1) c h
op_within f (Op.Call _ call) h = call_within f (slice_get f.calls call) h

term_within : (f : Function) (t : Term) → TypedTerm f t → AreValues f (term_names t)
term_within f (Term.Ret width a) h = operand_within f (Ty.Int width) a h.1
term_within f (Term.Br _) h = tt
term_within f (Term.CondBr c _ _) h = operand_within f (Ty.Int 1) c h
term_within f (Term.Switch width on _ _) h = operand_within f (Ty.Int width) on h.0
term_within f Term.Unreachable h = tt

-- uses of these names in a block
uses_within_at : (f : Function) (block line : ℕ) (names : List ℕ) → block < length f.blocks → AreValues f names →
    AllByRecursion (IsUseWithin f) (uses_at block line names)
uses_within_at f block line [] inside h = tt
uses_within_at f block line (v ∷ names) inside h = (record { name = h.0; block = inside }, uses_within_at f block line names inside h.1)

-- the entries of a phi that fits name blocks of the function
left_from : (f : Function) (from to : ℕ) → 1 ≤ edge_count f from to → from < length f.blocks
left_from f from to h = at (slice_get f.blocks from) refl h
  where
    at : (o : Option Block) → slice_get f.blocks from ≡ o →
        1 ≤ (elim o [ None ↦ 0 | Some b ↦ count_by (λ (t : BlockId). eqb t.0 to) (targets b.term) ]) → from < length f.blocks
    at None e some = absurd (omega arith)
    at (Some b) e some = slice_get_within f.blocks from b e

named_once : (entries : Entries) (k : ℕ) (d : Operand × BlockId) → k < length entries → 1 ≤ times_named (get_or entries k d).1.0 entries
named_once entries k d within =
    let b : ℕ = (get_or entries k d).1.0 in
    let least : cond (eqb b b) 1 0 ≤ times_named b entries = get_or-le-sum_by (λ (e : Operand × BlockId). cond (eqb e.1.0 b) 1 0) entries k d within in
    subst (λ t. cond t 1 0 ≤ times_named b entries) (eq-eqb b b refl) least

entries_within : (f : Function) (block : ℕ) (p : Phi) → PhiFits f block p → All (λ e. e.1.0 < length f.blocks) p.entries
entries_within f block p fits k d within =
    let e : Operand × BlockId = get_or p.entries k d in
    left_from f e.1.0 block (subst (λ n. 1 ≤ n) (fits.each_edge e.1.0) (named_once p.entries k d within))

each_entry : (f : Function) (width : ℕ) (entries : Entries) → AllByRecursion (λ (e : Operand × BlockId). IsOfType f (Ty.Int width) e.0) entries →
    AllByRecursion (λ (e : Operand × BlockId). e.1.0 < length f.blocks) entries →
    AllByRecursion (IsUseWithin f) (flat_map (λ (e : Operand × BlockId). uses_at e.1.0 (line_count f e.1.0) (operand_names e.0)) entries)
each_entry f width [] typed inside = tt
each_entry f width (e ∷ entries) typed inside =
    both (IsUseWithin f) (uses_at e.1.0 (line_count f e.1.0) (operand_names e.0)) _
    (uses_within_at f e.1.0 (line_count f e.1.0) (operand_names e.0) inside.0 (operand_within f (Ty.Int width) e.0 typed.0))
    (each_entry f width entries typed.1 inside.1)

phi_within : (f : Function) (block : ℕ) (p : Phi) → TypedPhi f p → PhiFits f block p → AllByRecursion (IsUseWithin f) (phi_uses f p)
phi_within f block p typed fits =
    each_entry f p.width p.entries
    (recursion_from_All (λ (e : Operand × BlockId). IsOfType f (Ty.Int p.width) e.0) p.entries typed)
    (recursion_from_All (λ (e : Operand × BlockId). e.1.0 < length f.blocks) p.entries (entries_within f block p fits))

phis_within : (f : Function) (block : ℕ) (ps : List Phi) → AllByRecursion (TypedPhi f) ps → AllByRecursion (PhiFits f block) ps →
    AllByRecursion (IsUseWithin f) (flat_map (phi_uses f) ps)
phis_within f block [] typed fits = tt
phis_within f block (p ∷ ps) typed fits =
    both (IsUseWithin f) (phi_uses f p) (flat_map (phi_uses f) ps) (phi_within f block p typed.0 fits.0) (phis_within f block ps typed.1 fits.1)

insts_within : (f : Function) (block n : ℕ) (is : List Inst) → block < length f.blocks → AllByRecursion (TypedInst f) is →
    AllByRecursion (IsUseWithin f) (inst_uses f block n is)
insts_within f block n [] inside typed = tt
insts_within f block n (i ∷ is) inside typed =
    both (IsUseWithin f) (uses_at block n (op_names f i.op)) (inst_uses f block (n + 1) is)
    (uses_within_at f block n (op_names f i.op) inside (op_within f i.op typed.0)) (insts_within f block (n + 1) is inside typed.1)

-- a block at its place
record IsSound (f : Function) (place : ℕ) (b : Block) : Type 0 where
  inside : place < length f.blocks
  typed : TypedBlock f b
  fit : All (PhiFits f place) b.phis

block_within : (f : Function) (place : ℕ) (b : Block) → IsSound f place b → AllByRecursion (IsUseWithin f) (block_uses f place b)
block_within f place b sound =
    both (IsUseWithin f) (flat_map (phi_uses f) b.phis) _
    (phis_within f place b.phis (recursion_from_All (TypedPhi f) b.phis sound.typed.phis) (recursion_from_All (PhiFits f place) b.phis sound.fit))
    (both (IsUseWithin f) (inst_uses f place 0 b.insts) (uses_at place (length b.insts) (term_names b.term))
    (insts_within f place 0 b.insts sound.inside (recursion_from_All (TypedInst f) b.insts sound.typed.instructions))
    (uses_within_at f place (length b.insts) (term_names b.term) sound.inside (term_within f b.term sound.typed.terminator)))

blocks_within : (f : Function) (place : ℕ) (bs : List Block) → ((k : ℕ) (b : Block) → slice_get bs k ≡ Some b → IsSound f (place + k) b) →
    AllByRecursion (IsUseWithin f) (uses_from f place bs)
blocks_within f place [] sound = tt
blocks_within f place (b ∷ bs) sound =
    both (IsUseWithin f) (block_uses f place b) (uses_from f (place + 1) bs)
    (block_within f place b (subst (λ n. IsSound f n b) (add-zero place) (sound 0 b refl)))
    (blocks_within f (place + 1) bs (λ k x e. let next : place + suc k ≡ place + 1 + k = omega arith in subst (λ n. IsSound f n x) next (sound (suc k) x e)))

pub all_within : (f : Function) → Typed f → PhisFit f → AllByRecursion (IsUseWithin f) (uses_of f)
all_within f typed fits =
    blocks_within f 0 f.blocks (λ k b e.
    let zero_more : k ≡ 0 + k = omega arith in
    let inside : k < length f.blocks = slice_get_within f.blocks k b e in
    subst (λ n. IsSound f n b) zero_more (record {
      inside = inside;
      typed = subst (TypedBlock f) (get_or_from_slice_get f.blocks k b b e) (typed k b inside);
      fit = MatchOption-at_some ⊤ (λ (x : Block). All (PhiFits f k) x.phis) b e (fits k inside).phis;
    }))
