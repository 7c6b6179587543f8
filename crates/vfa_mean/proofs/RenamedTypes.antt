-- Operands of a renamed function have the types that they had.
use Rattle.std.proofs.Common.{◌≡◌, ℕ, true, nat_eq, Bool, List, [], ◌∷◌, ◌++◌, map, flat_map, All, Option, Some, None, IsSomeAnd, refl, sym, ap, ◌∙◌, subst}
use Rattle.std.proofs.lemmas.List.Elements.{All-cons, All-head, All-nil, All-tail}
use Rattle.std.proofs.lemmas.Option.{slice_get-map}
use Rattle.std.specs.List.{IsDistinct, filter_map, slice_get}
use Rattle.std.specs.Option.{option_map}
use Rattle.vfa_ir.specs.declared.operations.BlockId.{BlockId}
use Rattle.vfa_ir.specs.declared.operations.Op.{Op}
use Rattle.vfa_ir.specs.declared.operations.Operand.{Operand}
use Rattle.vfa_ir.specs.declared.operations.Ty.{Ty}
use Rattle.vfa_ir.specs.declared.operations.ValueId.{ValueId}
use Rattle.vfa_ir.specs.declared.functions.Block.{Block}
use Rattle.vfa_ir.specs.declared.functions.CallArg.{CallArg}
use Rattle.vfa_ir.specs.declared.functions.CallOp.{CallOp}
use Rattle.vfa_ir.specs.declared.functions.Function.{Function}
use Rattle.vfa_ir.specs.declared.functions.Inst.{Inst}
use Rattle.vfa_ir.specs.declared.functions.Phi.{Phi}
use Rattle.vfa_ir.specs.declared.functions.Term.{Term}
use Rattle.vfa_ir.specs.Defined.{op_names, operand_names, term_names}
use Rattle.vfa_ir.specs.Printable.{block_call_places, call_place}
use Rattle.vfa_ir.specs.Walks.{is_in}
use Rattle.vfa_ir.specs.Typed.{AreOfWidth, HasType, IsOfType, Typed, TypedBlock, TypedCall, TypedInst, TypedOp, TypedPhi, TypedTerm}
use Rattle.vfa_mean.specs.Renaming.{Order, at_places, place_among, renamed, renamed_argument, renamed_block, renamed_call, renamed_case, renamed_entry, renamed_inst, renamed_op, renamed_operand, renamed_phi, renamed_term, renamed_value}
use Rattle.vfa_mean.specs.Numbering.{AreAmong, Covers, HasItsNames, KeptIsTyped, MayBeNumbered, kept_blocks, kept_calls, kept_values, names_used, numbered, text_order}
use Rattle.vfa_mean.proofs.FreshOperands.Definitions.{in_first, in_left, in_right}
use Rattle.vfa_mean.proofs.KeptParts.{covers_kept}
use Rattle.vfa_mean.proofs.PlacesAmong.{at_its_place, stands_within}
use Rattle.vfa_mean.proofs.RenamedRuns.{in_option, is_option, value_there}

-- ---- lists

-- what is known of each element holds of the renamed ones
pub all_renamed : {X : Type 0} (H P Q : X → Type 0) (r : X → X) → ((x : X) → H x → P x → Q (r x)) → (xs : List X) →
    All H xs → All P xs → All Q (map r xs)
all_renamed H P Q r step [] h p = All-nil Q
all_renamed H P Q r step (x ∷ xs) h p =
    All-cons Q (r x) (map r xs) (step x (All-head H x xs h) (All-head P x xs p))
    (all_renamed H P Q r step xs (All-tail H x xs h) (All-tail P x xs p))

pub among_each : {X : Type 0} (names : X → List ℕ) (others : List ℕ) (xs : List X) → AreAmong (flat_map names xs) others →
    All (λ x. AreAmong (names x) others) xs
among_each names others [] h = All-nil (λ x. AreAmong (names x) others)
among_each names others (x ∷ xs) h =
    All-cons (λ y. AreAmong (names y) others) x xs (λ n t. h n (in_left n (names x) (flat_map names xs) t))
    (among_each names others xs (λ n t. h n (in_right n (names x) (flat_map names xs) t)))

pub among_left : (xs ys others : List ℕ) → AreAmong (xs ++ ys) others → AreAmong xs others
among_left xs ys others h n t = h n (in_left n xs ys t)

pub among_right : (xs ys others : List ℕ) → AreAmong (xs ++ ys) others → AreAmong ys others
among_right xs ys others h n t = h n (in_right n xs ys t)

-- the calls of each line, one by one
pub calls_each : (others : List ℕ) (insts : List Inst) → AreAmong (filter_map (λ (i : Inst). call_place i.op) insts) others →
    All (λ (i : Inst). (place : ℕ) → call_place i.op ≡ Some place → is_in place others ≡ true) insts
calls_each others [] h = All-nil (λ (i : Inst). (place : ℕ) → call_place i.op ≡ Some place → is_in place others ≡ true)
calls_each others (i ∷ insts) h =
    let rest : List ℕ = filter_map (λ (i : Inst). call_place i.op) insts in
    All-cons (λ (j : Inst). (place : ℕ) → call_place j.op ≡ Some place → is_in place others ≡ true) i insts
    (λ place e. h place (is_option (call_place i.op) place rest e))
    (calls_each others insts (λ n t. h n (in_option (call_place i.op) n rest t)))

-- ---- operands

module _ (o : Order) (f : Function) (h : Covers o f) where
  type_kept : (ty : Ty) (v : ValueId) → is_in v.0 o.values ≡ true → HasType f ty v → HasType (renamed o f) ty (renamed_value o v)
  type_kept ty v there t = subst (λ found. IsSomeAnd found (λ x. x.ty ≡ ty)) (sym (value_there o f h v.0 there)) t

  operand_kept : (ty : Ty) (a : Operand) → AreAmong (operand_names a) o.values → IsOfType f ty a → IsOfType (renamed o f) ty (renamed_operand o a)
  operand_kept ty (Operand.Value v) among t = type_kept ty v (among v.0 (in_first v.0 v.0 [] refl)) t
  operand_kept ty (Operand.Literal bits) among t = tt
  operand_kept ty Operand.Poison among t = tt

  two_kept : (w : ℕ) (a b : Operand) → AreAmong (operand_names a ++ operand_names b) o.values → AreOfWidth f w a b →
      AreOfWidth (renamed o f) w (renamed_operand o a) (renamed_operand o b)
  two_kept w a b among t = record {
    first = operand_kept (Ty.Int w) a (among_left (operand_names a) (operand_names b) o.values among) t.first;
    second = operand_kept (Ty.Int w) b (among_right (operand_names a) (operand_names b) o.values among) t.second;
  }

  -- the arguments of a call
  call_kept : (place : ℕ) → is_in place o.calls ≡ true → AreAmong (op_names f (Op.Call None place)) o.values → TypedCall f place →
      TypedCall (renamed o f) (place_among o.calls place)
  call_kept place there among t =
      let call = stands_within f.calls place (h.calls place there) in
      let names : AreAmong (flat_map (λ (a : CallArg). operand_names a.value) call.0.args) o.values =
      subst (λ (found : Option CallOp). AreAmong (elim found [ None ↦ [] | Some c ↦ flat_map (λ a. operand_names a.value) c.args ]) o.values) call.1 among in
      let typed : All (λ (a : CallArg). IsOfType f (Ty.Int a.width) a.value) call.0.args =
      subst (λ found. IsSomeAnd found (λ (c : CallOp). All (λ (a : CallArg). IsOfType f (Ty.Int a.width) a.value) c.args)) call.1 t in
      let here : slice_get (renamed o f).calls (place_among o.calls place) ≡ Some (renamed_call o call.0) =
      slice_get-map (renamed_call o) (at_places f.calls o.calls) (place_among o.calls place)
      ∙ ap (option_map (renamed_call o)) (at_its_place f.calls o.calls h.calls place there ∙ call.1) in
      subst (λ found. IsSomeAnd found (λ (c : CallOp). All (λ (a : CallArg). IsOfType (renamed o f) (Ty.Int a.width) a.value) c.args)) (sym here)
      (all_renamed (λ (a : CallArg). AreAmong (operand_names a.value) o.values)
      (λ (a : CallArg). IsOfType f (Ty.Int a.width) a.value) (λ (a : CallArg). IsOfType (renamed o f) (Ty.Int a.width) a.value)
      (renamed_argument o) (λ a among t. operand_kept (Ty.Int a.width) a.value among t) call.0.args
      (among_each (λ (a : CallArg). operand_names a.value) o.values call.0.args names) typed)

  op_kept : (op : Op) → AreAmong (op_names f op) o.values → ((place : ℕ) → call_place op ≡ Some place → is_in place o.calls ≡ true) →
      TypedOp f op → TypedOp (renamed o f) (renamed_op o op)
  op_kept (Op.Bin bin flags w a b) among called t = two_kept w a b among t
  op_kept (Op.Icmp pred samesign w a b) among called t = two_kept w a b among t
  op_kept (Op.Select w c a b) among called t = (
    operand_kept (Ty.Int 1) c (among_left (operand_names c) (operand_names a ++ operand_names b) o.values among) t.0,
    two_kept w a b (among_right (operand_names c) (operand_names a ++ operand_names b) o.values among) t.1,
  )
  op_kept (Op.Cast cast flags from to a) among called t = (operand_kept (Ty.Int from) a among t.0, t.1)
  op_kept (Op.Freeze w a) among called t = operand_kept (Ty.Int w) a among t
  op_kept (Op.Two fun w a b) among called t = two_kept w a b among t
  op_kept (Op.One fun w a strict) among called t = operand_kept (Ty.Int w) a among t
  op_kept (Op.Over over w a b) among called t = two_kept w a b among t
  op_kept (Op.Part w pair index) among called t = type_kept (Ty.Pair w) pair (among pair.0 (in_first pair.0 pair.0 [] refl)) t
  op_kept (Op.Assume c) among called t = operand_kept (Ty.Int 1) c among t
  op_kept (Op.Call width place) among called t = call_kept place (called place refl) among t

  phi_kept : (p : Phi) → AreAmong (flat_map (λ e. operand_names e.0) p.entries) o.values → TypedPhi f p → TypedPhi (renamed o f) (renamed_phi o p)
  phi_kept p among t =
      all_renamed (λ (e : Operand × BlockId). AreAmong (operand_names e.0) o.values)
      (λ (e : Operand × BlockId). IsOfType f (Ty.Int p.width) e.0) (λ (e : Operand × BlockId). IsOfType (renamed o f) (Ty.Int p.width) e.0)
      (renamed_entry o) (λ e among t. operand_kept (Ty.Int p.width) e.0 among t) p.entries
      (among_each (λ (e : Operand × BlockId). operand_names e.0) o.values p.entries among) t

  numbers_of_cases : (cases : List (ℕ × BlockId)) → map (λ (c : ℕ × BlockId). c.0) (map (renamed_case o) cases) ≡ map (λ (c : ℕ × BlockId). c.0) cases
  numbers_of_cases [] = refl
  numbers_of_cases (c ∷ cases) = ap (λ r. c.0 ∷ r) (numbers_of_cases cases)

  term_kept : (t : Term) → AreAmong (term_names t) o.values → TypedTerm f t → TypedTerm (renamed o f) (renamed_term o t)
  term_kept (Term.Ret w a) among t = (t.0, operand_kept (Ty.Int w) a among t.1)
  term_kept (Term.Br to) among t = tt
  term_kept (Term.CondBr c taken fallen) among t = operand_kept (Ty.Int 1) c among t
  term_kept (Term.Switch w on other cases) among t =
      (operand_kept (Ty.Int w) on among t.0, subst (λ xs. IsDistinct nat_eq xs) (sym (numbers_of_cases cases)) t.1)
  term_kept Term.Unreachable among t = tt

  -- what a block uses is in the order
  pub record UsesKept (b : Block) : Type 0 where
    pub names : AreAmong (names_used f b) o.values
    pub calls : AreAmong (block_call_places b) o.calls

  pub block_kept : (b : Block) → UsesKept b → TypedBlock f b → TypedBlock (renamed o f) (renamed_block o b)
  block_kept b uses t =
      let phis : List ℕ = flat_map (λ (p : Phi). flat_map (λ (e : Operand × BlockId). operand_names e.0) p.entries) b.phis in
      let insts : List ℕ = flat_map (λ (i : Inst). op_names f i.op) b.insts in
      let behind : AreAmong (insts ++ term_names b.term) o.values = among_right phis (insts ++ term_names b.term) o.values uses.names in
      record {
        phis = all_renamed (λ (p : Phi). AreAmong (flat_map (λ (e : Operand × BlockId). operand_names e.0) p.entries) o.values)
            (TypedPhi f) (TypedPhi (renamed o f)) (renamed_phi o) phi_kept b.phis
            (among_each (λ (p : Phi). flat_map (λ (e : Operand × BlockId). operand_names e.0) p.entries) o.values b.phis
            (among_left phis (insts ++ term_names b.term) o.values uses.names))
            t.phis;
        instructions = all_renamed
            (λ (i : Inst). AreAmong (op_names f i.op) o.values × ((place : ℕ) → call_place i.op ≡ Some place → is_in place o.calls ≡ true))
            (TypedInst f) (TypedInst (renamed o f)) (renamed_inst o) (λ i uses t. op_kept i.op uses.0 uses.1 t) b.insts
            (λ k d l. (
              among_each (λ (i : Inst). op_names f i.op) o.values b.insts (among_left insts (term_names b.term) o.values behind) k d l,
              calls_each o.calls b.insts uses.calls k d l,
            ))
            t.instructions;
        terminator = term_kept b.term (among_right insts (term_names b.term) o.values behind) t.terminator;
      }

pub uses_kept : (f : Function) (keeps : ℕ → Bool) (h : MayBeNumbered f keeps) → HasItsNames f keeps →
    All (UsesKept (text_order f keeps) f (covers_kept f keeps h)) (kept_blocks f keeps)
uses_kept f keeps h names k d l = record {
  names = among_each (names_used f) (kept_values f keeps) (kept_blocks f keeps) names k d l;
  calls = among_each block_call_places (kept_calls f keeps) (kept_blocks f keeps) (λ n t. t) k d l;
}

pub numbered_typed : (f : Function) (keeps : ℕ → Bool) → MayBeNumbered f keeps → HasItsNames f keeps → KeptIsTyped f keeps → Typed (numbered f keeps)
numbered_typed f keeps h names typed =
    let o = text_order f keeps in
    all_renamed (UsesKept o f (covers_kept f keeps h)) (TypedBlock f) (TypedBlock (numbered f keeps)) (renamed_block o)
    (block_kept o f (covers_kept f keeps h)) (kept_blocks f keeps) (uses_kept f keeps h names) typed
