-- A narrowed function refines the function: both enter the same blocks in step.
use Rattle.std.proofs.Common.{◌≡◌, ℕ, zero, suc, ◌+◌, ◌-◌, ◌*◌, ◌%◌, ◌^◌, ◌<◌, ◌≤◌, Bool, true, false, cond, ◌||◌, ◌&&◌, All, Option, Some, None, List, [], ◌∷◌, map, flat_map, slice_get, length, refl, sym, ◌∙◌, ap, subst, subst₂, arith, pow_mono, inl, inr, bit_and}
use Rattle.std.specs.Int.Bits.{and_self}
use Rattle.std.specs.Prelude.{IsSomeAnd, nat_eq, if◌then◌else◌, not, filter, unwrap_or}
use Rattle.std.specs.List.{list_any}
use Rattle.std.proofs.lemmas.Bool.{eqb-true, ltb-true}
use Rattle.std.proofs.lemmas.Nat.{pow_pos, mod_below, and_le_l}
use Rattle.vfa_ir.specs.declared.operations.BlockId.{BlockId}
use Rattle.vfa_ir.specs.declared.operations.Cast.{Cast}
use Rattle.vfa_ir.specs.declared.operations.Op.{Op}
use Rattle.vfa_ir.specs.declared.operations.Operand.{Operand}
use Rattle.vfa_ir.specs.declared.operations.Ty.{Ty}
use Rattle.vfa_ir.specs.declared.operations.ValueId.{ValueId}
use Rattle.vfa_ir.specs.declared.functions.Block.{Block}
use Rattle.vfa_ir.specs.declared.functions.CallArg.{CallArg}
use Rattle.vfa_ir.specs.declared.functions.CallOp.{CallOp}
use Rattle.vfa_ir.specs.declared.functions.Function.{Function}
use Rattle.vfa_ir.specs.declared.functions.Inst.{Inst}
use Rattle.vfa_ir.specs.declared.functions.Phi.{Phi}
use Rattle.vfa_ir.specs.declared.functions.Term.{Term}
use Rattle.vfa_ir.specs.Defined.{op_names, operand_names, term_names, line_count}
use Rattle.vfa_ir.specs.Operands.{operands_of, arguments_of}
use Rattle.vfa_ir.specs.Printable.{IsOperand, PrintablePhi, PrintableBlock, PrintableTerm, PrintableCall, PrintableArgument, IsBlock, op_type}
use Rattle.vfa_ir.specs.Typed.{TypedOp, TypedPhi, TypedBlock, TypedTerm, TypedCall, IsOfType}
use Rattle.vfa_ir.specs.Walks.{is_in, IsDefinedAt}
use Rattle.vfa_word.proofs.Readings.{twice}
use Rattle.vfa_mean.specs.declared.value.Val.{Val}
use Rattle.vfa_mean.specs.Values.{Env, AllowsValue, IsInt, IsValueOf, operand_value}
use Rattle.vfa_mean.specs.Meaning.{Undefined, Gave, Gives}
use Rattle.vfa_mean.specs.FreshOperands.{IsDefinedAtPlace}
use Rattle.vfa_mean.specs.Moments.{Place, Into, At, Moment, starts, reads, does, calls, leaves, IsLine, is_call}
use Rattle.vfa_mean.specs.Outcomes.{Ends, with_value, start_of, has_noundef, is_poison, breaks_call, answered, at_width, Does, Calls, after_phis, entry_for, entry_from, Exit, Invalid, Return, Edge, exit_of, branch_exit, switch_exit}
use Rattle.vfa_mean.specs.Refines.{AllowsArguments, SameHeader, Refines}
use Rattle.vfa_mean.proofs.Refining.{AllowsValue-refl}
use Rattle.vfa_mean.proofs.Typing.{done_typed}
use Rattle.vfa_mean.proofs.FreshOperands.Definitions.{or_cases, or_left, in_left, in_right}
use Rattle.vfa_mean.proofs.FreshOperands.Places.{moment_on_walk}
use Rattle.vfa_mean.proofs.FreshOperands.Walking.{use_is_defined}
use Rattle.vfa_demand.specs.Masks.{IsPartOf, Have, ask_of, operand_asks, result_mask, number_width, seen_in, whole_asks}
use Rattle.vfa_demand.specs.Rows.{all_bits, needs_all, asked}
use Rattle.vfa_bits.specs.Standing.{put_for, standing}
use Rattle.vfa_bits.specs.Changed.{name_type, is_short, has_unseen_sign, by_sign, by_operand, by_entry}
use Rattle.vfa_demand.specs.Used.{by_terminator, by_need, by_result, by_phi, AreUsed}
use Rattle.vfa_bits.specs.Narrowed.{Choices, with_operands, narrowed_cast, lost_flags, has_changed, new_operation, new_line, new_entry, new_phi, with_operand, new_block, new_blocks, is_reached_call, new_argument, new_call, new_calls, rewritten, is_used, stays, block_left, left, AreReached, must_stay}
use Rattle.vfa_bits.proofs.Agreeing.{AgreesOn, allows_agrees, whole_allows}
use Rattle.vfa_bits.proofs.AskedBits.{line_has, term_has, entry_has, name_asked, have_right}
use Rattle.vfa_bits.proofs.Chains.{all_at, Known, IsDone, standing_agrees, standing_typed, standing_allows, whole_mask, line_printable, line_typed}
use Rattle.vfa_bits.proofs.Lockstep.{GoesOn, StepsTo, ResultMeets, operation_goes, dropped_goes, CallMeets, call_goes, line_or, LineGoes, lines_go, ExitMeets, BlockMeets, in_step}
use Rattle.vfa_bits.proofs.Operations.{asked_whole}
use Rattle.std.proofs.lemmas.Option.{same_Some}
use Rattle.vfa_bits.proofs.Places.{get_map, must_at, block_at, line_at, call_at, reached_call, new_entry_from, entry_cases, term_defined, entry_defined}
use Rattle.vfa_bits.proofs.Related.{Tied, Fits, Related, ForName, for_name, IsTypedOperand, operand_fits}
use Rattle.vfa_bits.proofs.ResultTypes.{line_type, phi_type}
use Rattle.vfa_bits.proofs.Steps.{AtOperation, MarksRightly, Meets, SameShape, new_shape, some_in, is_operation, values_fit, operation_meets}
use Rattle.vfa_bits.proofs.Values.{AreTied, fits_with, fits_result, tied_with, tied_without, tied_result, tied_dropped, start_fits}

-- ---- the operation written anew

pub with_call : (put : Operand → Operand) (op : Op) → is_call (with_operands put op) ≡ is_call op
with_call put (Op.Bin bin flags w a b) = refl
with_call put (Op.Icmp pred samesign w a b) = refl
with_call put (Op.Select w c a b) = refl
with_call put (Op.Cast cast flags v w a) = refl
with_call put (Op.Freeze w a) = refl
with_call put (Op.Two fun w a b) = refl
with_call put (Op.One fun w a strict) = refl
with_call put (Op.Over over w a b) = refl
with_call put (Op.Part w pair index) = refl
with_call put (Op.Assume c) = refl
with_call put (Op.Call width place) = refl

with_needs : (put : Operand → Operand) (op : Op) → needs_all (with_operands put op) ≡ needs_all op
with_needs put (Op.Bin bin flags w a b) = refl
with_needs put (Op.Icmp pred samesign w a b) = refl
with_needs put (Op.Select w c a b) = refl
with_needs put (Op.Cast cast flags v w a) = refl
with_needs put (Op.Freeze w a) = refl
with_needs put (Op.Two fun w a b) = refl
with_needs put (Op.One fun w a strict) = refl
with_needs put (Op.Over over w a b) = refl
with_needs put (Op.Part w pair index) = refl
with_needs put (Op.Assume c) = refl
with_needs put (Op.Call width place) = refl

-- the names that an operation uses are no matter of the function, unless it is a call
names_alike : (f g : Function) (op : Op) → is_call op ≡ false → op_names g op ≡ op_names f op
names_alike f g (Op.Bin bin flags w a b) plain = refl
names_alike f g (Op.Icmp pred samesign w a b) plain = refl
names_alike f g (Op.Select w c a b) plain = refl
names_alike f g (Op.Cast cast flags v w a) plain = refl
names_alike f g (Op.Freeze w a) plain = refl
names_alike f g (Op.Two fun w a b) plain = refl
names_alike f g (Op.One fun w a strict) plain = refl
names_alike f g (Op.Over over w a b) plain = refl
names_alike f g (Op.Part w pair index) plain = refl
names_alike f g (Op.Assume c) plain = refl
names_alike f g (Op.Call width place) plain = absurd (cc)

pub record IsCall (op : Op) : Type 0 where
  pub width : Option ℕ
  pub place : ℕ
  pub is : op ≡ Op.Call width place

pub call_of : (op : Op) → is_call op ≡ true → IsCall op
call_of (Op.Bin bin flags w a b) e = absurd (cc)
call_of (Op.Icmp pred samesign w a b) e = absurd (cc)
call_of (Op.Select w c a b) e = absurd (cc)
call_of (Op.Cast cast flags v w a) e = absurd (cc)
call_of (Op.Freeze w a) e = absurd (cc)
call_of (Op.Two fun w a b) e = absurd (cc)
call_of (Op.One fun w a strict) e = absurd (cc)
call_of (Op.Over over w a b) e = absurd (cc)
call_of (Op.Part w pair index) e = absurd (cc)
call_of (Op.Assume c) e = absurd (cc)
call_of (Op.Call width place) e = record { width = width; place = place; is = refl }

record IsNarrowCast (op : Op) (d : ℕ) : Type 0 where
  from : ℕ
  to : ℕ
  low : d < 2 ^ from
  ty : op_type op ≡ Ty.Int to
  wider : from < to

narrow_cast : (f : Function) (op : Op) (d : ℕ) → TypedOp f op → has_unseen_sign op d ≡ true → IsNarrowCast op d
narrow_cast f (Op.Cast Cast.Sext flags v w a) d typed e = record { from = v; to = w; low = ltb-true d (2 ^ v) e; ty = refl; wider = typed.1 }
narrow_cast f (Op.Cast Cast.Zext flags v w a) d typed e = absurd (cc)
narrow_cast f (Op.Cast Cast.Trunc flags v w a) d typed e = absurd (cc)
narrow_cast f (Op.Bin bin flags w a b) d typed e = absurd (cc)
narrow_cast f (Op.Icmp pred samesign w a b) d typed e = absurd (cc)
narrow_cast f (Op.Select w c a b) d typed e = absurd (cc)
narrow_cast f (Op.Freeze w a) d typed e = absurd (cc)
narrow_cast f (Op.Two fun w a b) d typed e = absurd (cc)
narrow_cast f (Op.One fun w a strict) d typed e = absurd (cc)
narrow_cast f (Op.Over over w a b) d typed e = absurd (cc)
narrow_cast f (Op.Part w pair index) d typed e = absurd (cc)
narrow_cast f (Op.Assume c) d typed e = absurd (cc)
narrow_cast f (Op.Call width place) d typed e = absurd (cc)

-- a mask below a lesser width is not all bits
pub low_short : (d v w : ℕ) → d < 2 ^ v → v < w → bit_and d (2 ^ w - 1) ≡ 2 ^ w - 1 → ⊥
low_short d v w low wider e =
    let within = and_le_l d (2 ^ w - 1) in
    let same : 2 ^ w ≡ 2 * 2 ^ (w - 1) = twice w (omega arith) in
    let half : 2 ^ v ≤ 2 ^ (w - 1) = pow_mono (below_suc v w wider) in
    let positive = pow_pos v in
    omega arith
  where
    below_suc : (v w : ℕ) → v < w → v ≤ w - 1
    below_suc v w h = omega arith

pub in_flat : {A : Type 0} (h : A → List ℕ) (xs : List A) (k : ℕ) (x : A) (u : ℕ) → slice_get xs k ≡ Some x → is_in u (h x) ≡ true → is_in u (flat_map h xs) ≡ true
in_flat h [] k x u e t = absurd (cc)
in_flat h (y ∷ xs) zero x u e t = in_left u (h y) (flat_map h xs) (subst (λ z. is_in u (h z) ≡ true) (sym (same_Some y x e)) t)
in_flat h (y ∷ xs) (suc k) x u e t = in_right u (h y) (flat_map h xs) (in_flat h xs k x u e t)

-- all bits of the arguments of a call are asked for
args_asked : (masks : ℕ → ℕ) (op : Op) (d n : ℕ) (args : List CallArg) (k : ℕ) (a : CallArg) → needs_all op ≡ true →
    Have (operand_asks op d n (map (λ (c : CallArg). (Ty.Int c.width, c.value)) args)) masks → slice_get args k ≡ Some a → ForName (λ v. IsPartOf (all_bits a.width) (masks v)) a.value
args_asked masks op d n [] k a needs have e = absurd (cc)
args_asked masks op d n (c ∷ args) zero a needs have e =
    subst (λ (z : CallArg). ForName (λ v. IsPartOf (all_bits z.width) (masks v)) z.value) (same_Some c a e)
    (subst (λ m. ForName (λ v. IsPartOf m (masks v)) c.value) (asked_whole op c.width n d needs) (name_asked masks (asked op c.width n d) c.value _ have))
args_asked masks op d n (c ∷ args) (suc k) a needs have e =
    args_asked masks op d (n + 1) args k a needs (have_right masks (ask_of (asked op c.width n d) c.value) _ have) e

fine_value : (v v' : Val) → AllowsValue v v' → is_poison v ≡ false → is_poison v' ≡ false
fine_value Val.Poison v' a e = absurd (cc)
fine_value (Val.Number x) v' a e = ap is_poison (sym a)
fine_value (Val.Pair x o) v' a e = ap is_poison (sym a)

fine_argument : (promised : Bool) (v v' : Val) → AllowsValue v v' → (promised && is_poison v) ≡ false → (promised && is_poison v') ≡ false
fine_argument true v v' a e = fine_value v v' a e
fine_argument false v v' a e = refl

no_or : (a b : Bool) → (a || b) ≡ false → (a ≡ false) × (b ≡ false)
no_or true b e = absurd (cc)
no_or false b e = (refl, e)

none_or : (a b : Bool) → a ≡ false → b ≡ false → (a || b) ≡ false
none_or true b e h = absurd (cc)
none_or false b e h = h

module _ (env env' : Env) (put : Operand → Operand) where
  EachAllowed : List CallArg → Type 0
  EachAllowed args = (k : ℕ) (a : CallArg) → slice_get args k ≡ Some a → AllowsValue (operand_value env a.value) (operand_value env' (put a.value))

  pub promises_kept : (args : List CallArg) → ((k : ℕ) (a : CallArg) → slice_get args k ≡ Some a → AllowsValue (operand_value env a.value) (operand_value env' (put a.value))) →
      breaks_call env args ≡ false → breaks_call env' (map (new_argument put) args) ≡ false
  promises_kept [] each e = refl
  promises_kept (c ∷ args) each e =
      let parts = no_or (has_noundef c.words && is_poison (operand_value env c.value)) (breaks_call env args) e in
      none_or (has_noundef c.words && is_poison (operand_value env' (put c.value))) (breaks_call env' (map (new_argument put) args))
      (fine_argument (has_noundef c.words) (operand_value env c.value) (operand_value env' (put c.value)) (each 0 c refl) parts.0)
      (promises_kept args (λ k a there. each (suc k) a there) parts.1)

  pub arguments_allowed : (args : List CallArg) → ((k : ℕ) (a : CallArg) → slice_get args k ≡ Some a → AllowsValue (operand_value env a.value) (operand_value env' (put a.value))) →
      AllowsArguments (map (λ (a : CallArg). record { width = a.width; value = operand_value env a.value }) args)
      (map (λ (a : CallArg). record { width = a.width; value = operand_value env' a.value }) (map (new_argument put) args))
  arguments_allowed [] each = tt
  arguments_allowed (c ∷ args) each = (record { width = refl; value = each 0 c refl }, arguments_allowed args (λ k a there. each (suc k) a there))

given_number : (w : ℕ) (answer v : Val) → Gave (at_width w answer) ≡ Gave v → IsValueOf (Ty.Int w) v
given_number w (Val.Number x) v e = let is : Val.Number (x % 2 ^ w) ≡ v = cc in subst (IsValueOf (Ty.Int w)) is (mod_below x (2 ^ w) (pow_pos w))
given_number w Val.Poison v e = let is : Val.Poison ≡ v = cc in subst (IsValueOf (Ty.Int w)) is tt
given_number w (Val.Pair x o) v e = let is : Val.Poison ≡ v = cc in subst (IsValueOf (Ty.Int w)) is tt

answer_typed : (width : Option ℕ) (promised : Bool) (answer v : Val) → answered width promised answer ≡ Gave v → IsValueOf (Ty.Int (unwrap_or width 1)) v
answer_typed None promised answer v e = let is : Val.Poison ≡ v = cc in subst (IsValueOf (Ty.Int 1)) is tt
answer_typed (Some w) promised answer v e = here (promised && is_poison answer) e
  where
    here : (t : Bool) → (if t then Undefined else Gave (at_width w answer)) ≡ Gave v → IsValueOf (Ty.Int w) v
    here true e = absurd (cc)
    here false e = given_number w answer v e

pub lost_call : (t : Bool) (put : Operand → Operand) (width : Option ℕ) (place : ℕ) → with_operands put (lost_flags t (Op.Call width place)) ≡ Op.Call width place
lost_call true put width place = refl
lost_call false put width place = refl

poison_stands : (f : Function) (masks : ℕ → ℕ) (n : ℕ) → standing f masks n Operand.Poison ≡ Operand.Poison
unfolding standing
poison_stands f masks n = refl

module _ (f : Function) (masks : ℕ → ℕ) (by : Choices) (used : ℕ → Bool) (known : Known f masks by.changed) (are_reached : AreReached f by.reached) (are_used : AreUsed (rewritten f masks by) (must_stay (rewritten f masks by)) used) where
  abbrev R : Place → Env → Env → Type 0
  R place env env' = Related f masks by.changed used place env env'

  tied_of : (place : Place) (env env' : Env) → R place env env' → AreTied masks by.changed used env env'
  tied_of place env env' rel = record { tied = rel.tied }

  reached_at : (b i : ℕ) (env : Env) → Moment f (At b i) env → by.reached b ≡ true
  reached_at b i env m = (are_reached b).1 (moment_on_walk f (At b i) env m)

  reached_into : (q b : ℕ) (env : Env) → Moment f (Into (Some q) b) env → by.reached q ≡ true
  reached_into q b env m = (are_reached q).1 (moment_on_walk f (Into (Some q) b) env m).1

  -- ---- phis

  module _ (q : Option ℕ) (b : ℕ) (block : Block) (there : slice_get f.blocks b ≡ Some block) (before before' : Env) (rel : R (Into q b) before before') where
    record PhiMeets (phi : Phi) : Type 0 where
      tied : nat_eq (masks phi.result.0) 0 ≡ false → used phi.result.0 ≡ true → Tied (masks phi.result.0) (by.changed phi.result.0)
          (operand_value before (entry_for q phi.entries)) (operand_value before' (entry_for q (map (new_entry f masks by) phi.entries)))
      fits : IsValueOf (name_type f phi.result.0) (operand_value before (entry_for q phi.entries))
      fits' : IsValueOf (name_type f phi.result.0) (operand_value before' (entry_for q (map (new_entry f masks by) phi.entries)))

    phis_go : (rest : List Phi) (env env' : Env) → Fits f env → Fits f env' → AreTied masks by.changed used env env' →
        ((k : ℕ) (phi : Phi) → slice_get rest k ≡ Some phi → PhiMeets phi) →
        (Fits f (after_phis q rest before env)) × (Fits f (after_phis q (filter (λ (p : Phi). used p.result.0) (map (new_phi f masks by) rest)) before' env'))
        × (AreTied masks by.changed used (after_phis q rest before env) (after_phis q (filter (λ (p : Phi). used p.result.0) (map (new_phi f masks by) rest)) before' env'))
    phis_go [] env env' fits fits' tied meets = (fits, fits', tied)
    phis_go (phi ∷ rest) env env' fits fits' tied meets =
        here (used phi.result.0) refl (meets 0 phi refl)
        (λ e e' t t' all. phis_go rest e e' t t' all (λ k p there. meets (suc k) p there))
      where
        old : Val
        old = operand_value before (entry_for q phi.entries)

        new : Val
        new = operand_value before' (entry_for q (map (new_entry f masks by) phi.entries))

        later : List Phi
        later = filter (λ (p : Phi). used p.result.0) (map (new_phi f masks by) rest)

        here : (t : Bool) → used phi.result.0 ≡ t → PhiMeets phi →
            ((e e' : Env) → Fits f e → Fits f e' → AreTied masks by.changed used e e' →
            (Fits f (after_phis q rest before e)) × (Fits f (after_phis q (filter (λ (p : Phi). used p.result.0) (map (new_phi f masks by) rest)) before' e'))
            × (AreTied masks by.changed used (after_phis q rest before e) (after_phis q (filter (λ (p : Phi). used p.result.0) (map (new_phi f masks by) rest)) before' e'))) →
            (Fits f (after_phis q rest before (with_value env phi.result.0 (operand_value before (entry_for q phi.entries)))))
            × (Fits f (after_phis q (cond t (new_phi f masks by phi ∷ filter (λ (p : Phi). used p.result.0) (map (new_phi f masks by) rest)) (filter (λ (p : Phi). used p.result.0) (map (new_phi f masks by) rest))) before' env'))
            × (AreTied masks by.changed used (after_phis q rest before (with_value env phi.result.0 (operand_value before (entry_for q phi.entries))))
            (after_phis q (cond t (new_phi f masks by phi ∷ filter (λ (p : Phi). used p.result.0) (map (new_phi f masks by) rest)) (filter (λ (p : Phi). used p.result.0) (map (new_phi f masks by) rest))) before' env'))
        here true is_used m again =
            again (with_value env phi.result.0 (operand_value before (entry_for q phi.entries)))
            (with_value env' phi.result.0 (operand_value before' (entry_for q (map (new_entry f masks by) phi.entries))))
            (fits_with f env phi.result.0 (operand_value before (entry_for q phi.entries)) fits m.fits)
            (fits_with f env' phi.result.0 (operand_value before' (entry_for q (map (new_entry f masks by) phi.entries))) fits' m.fits')
            (tied_with masks by.changed used env env' phi.result.0 (operand_value before (entry_for q phi.entries))
            (operand_value before' (entry_for q (map (new_entry f masks by) phi.entries))) tied m.tied)
        here false unused m again =
            again (with_value env phi.result.0 (operand_value before (entry_for q phi.entries))) env'
            (fits_with f env phi.result.0 (operand_value before (entry_for q phi.entries)) fits m.fits) fits'
            (tied_without masks by.changed used env env' phi.result.0 (operand_value before (entry_for q phi.entries)) tied unused)

    poison_of : (ty : Ty) → IsValueOf ty Val.Poison
    poison_of (Ty.Int w) = tt
    poison_of (Ty.Pair w) = tt

    -- both sides read poison
    poison_meets : (phi : Phi) → operand_value before (entry_for q phi.entries) ≡ Val.Poison → operand_value before' (entry_for q (map (new_entry f masks by) phi.entries)) ≡ Val.Poison → PhiMeets phi
    poison_meets phi old new = record {
      tied = λ some is_used. record {
        agrees = subst (λ v. AgreesOn (masks phi.result.0) v (operand_value before' (entry_for q (map (new_entry f masks by) phi.entries)))) (sym old) tt;
        allows = λ same. subst (λ v. AllowsValue v (operand_value before' (entry_for q (map (new_entry f masks by) phi.entries)))) (sym old) tt;
      };
      fits = subst (IsValueOf (name_type f phi.result.0)) (sym old) (poison_of (name_type f phi.result.0));
      fits' = subst (IsValueOf (name_type f phi.result.0)) (sym new) (poison_of (name_type f phi.result.0));
    }

  -- what an entry of a phi reads on both sides
  module _ (p b : ℕ) (block : Block) (there : slice_get f.blocks b ≡ Some block) (before before' : Env) (rel : R (Into (Some p) b) before before')
      (j : ℕ) (phi : Phi) (stands : slice_get block.phis j ≡ Some phi) where
    is_reached : by.reached p ≡ true
    is_reached = reached_into p b before rel.moment

    phi_ty : name_type f phi.result.0 ≡ Ty.Int phi.width
    phi_ty = phi_type f b block j phi known.printable there stands

    read_poison : entry_from p phi.entries ≡ Operand.Poison → PhiMeets (Some p) b block there before before' rel phi
    read_poison e = poison_meets (Some p) b block there before before' rel phi (ap (operand_value before) e)
        (ap (operand_value before') (new_entry_from f masks by p phi.entries ∙ ap (put_for f masks (by.reached p)) e ∙ ap (λ t. put_for f masks t Operand.Poison) is_reached ∙ standing_poison))
      where
        standing_poison : standing f masks (length f.values) Operand.Poison ≡ Operand.Poison
        standing_poison = poison_stands f masks (length f.values)

    module _ (k : ℕ) (e : Operand × BlockId) (at : slice_get phi.entries k ≡ Some e) (is_p : e.1.0 ≡ p) (same : entry_from p phi.entries ≡ e.0) where
      typed : IsTypedOperand f phi.width e.0
      typed =
          let phi_typed = all_at (TypedPhi f) block.phis j phi (all_at (TypedBlock f) f.blocks b block known.typed there).phis stands in
          let printable = all_at (PrintablePhi f) block.phis j phi (all_at (PrintableBlock f) f.blocks b block known.printable.blocks there).phis stands in
          record {
            ty = all_at (λ (d : Operand × BlockId). IsOfType f (Ty.Int phi.width) d.0) phi.entries k e phi_typed at;
            range = (all_at (λ (d : Operand × BlockId). IsOperand f phi.width d.0 × IsBlock f d.1) phi.entries k e printable.entries at).0;
          }

      live : (x : ℕ) → is_in x (operand_names e.0) ≡ true → IsDefinedAtPlace f (Into (Some p) b) x
      live x t = subst (λ r. IsDefinedAt f r (line_count f r) x) is_p (entry_defined f known.defined b block there j phi k e x stands at t)

      new_value : operand_value before' (entry_for (Some p) (map (new_entry f masks by) phi.entries)) ≡ operand_value before' (standing f masks (length f.values) e.0)
      new_value = ap (operand_value before') (new_entry_from f masks by p phi.entries ∙ ap (put_for f masks (by.reached p)) same ∙ ap (λ t. put_for f masks t e.0) is_reached)

      old_value : operand_value before (entry_for (Some p) phi.entries) ≡ operand_value before e.0
      old_value = ap (operand_value before) same

      done_names : used phi.result.0 ≡ true → IsDone f used (standing f masks (length f.values) e.0)
      done_names is_used u t =
          (are_used u).1 (by_phi b (new_block f masks by b block) j (new_phi f masks by phi) k (new_entry f masks by e) u (block_at f masks by b block there)
          (get_map (new_phi f masks by) block.phis j phi stands) ((are_used phi.result.0).0 is_used) (get_map (new_entry f masks by) phi.entries k e at)
          (subst (λ s. is_in u (operand_names (put_for f masks s e.0)) ≡ true) (sym (subst (λ r. by.reached r ≡ true) (sym is_p) is_reached)) t))

      entry_agrees : used phi.result.0 ≡ true → AgreesOn (masks phi.result.0) (operand_value before e.0) (operand_value before' (standing f masks (length f.values) e.0))
      entry_agrees is_used =
          standing_agrees f masks by.changed used known (Into (Some p) b) before before' rel (length f.values) phi.width (masks phi.result.0) e.0 typed
          (for_name (λ x. IsDefinedAtPlace f (Into (Some p) b) x) e.0 live)
          (entry_has f masks known.are b block there j phi k e stands at) (done_names is_used)

      fits_old : IsInt phi.width (operand_value before e.0)
      fits_old = operand_fits f before phi.width e.0 rel.fits typed

      fits_new : IsInt phi.width (operand_value before' (standing f masks (length f.values) e.0))
      fits_new = operand_fits f before' phi.width (standing f masks (length f.values) e.0) rel.fits' (standing_typed f masks by.changed used known (length f.values) phi.width e.0 typed)

      unchanged : by.changed phi.result.0 ≡ false → is_short f masks phi.result.0 ≡ true → (x : ℕ) → is_in x (operand_names e.0) ≡ true → by.changed x ≡ false
      unchanged same_result short x t = here (by.changed x) refl
        where
          here : (s : Bool) → by.changed x ≡ s → s ≡ false
          here false is = refl
          here true is = absurd (
              let k = (known.are_changed phi.result.0).1 (by_entry b block j phi k e x there stands at short t ((known.are_changed x).0 is)) in cc
              )

      entry_allows : used phi.result.0 ≡ true → by.changed phi.result.0 ≡ false → AllowsValue (operand_value before e.0) (operand_value before' (standing f masks (length f.values) e.0))
      entry_allows is_used same_result = here (is_short f masks phi.result.0) refl
        where
          here : (s : Bool) → is_short f masks phi.result.0 ≡ s → AllowsValue (operand_value before e.0) (operand_value before' (standing f masks (length f.values) e.0))
          here false short = whole_allows phi.width (masks phi.result.0) (operand_value before e.0) (operand_value before' (standing f masks (length f.values) e.0))
              (whole_mask f masks by.changed used known phi.result.0 phi.width phi_ty short) fits_old fits_new (entry_agrees is_used)
          here true short = standing_allows f masks by.changed used known (Into (Some p) b) before before' (length f.values) phi.width e.0 rel typed
              (for_name (λ x. IsDefinedAtPlace f (Into (Some p) b) x) e.0 live) (for_name (λ x. by.changed x ≡ false) e.0 (unchanged same_result short)) (done_names is_used)

      read_entry : PhiMeets (Some p) b block there before before' rel phi
      read_entry = record {
        tied = λ some is_used. subst₂ (λ v v'. Tied (masks phi.result.0) (by.changed phi.result.0) v v') (sym old_value) (sym new_value)
            (record { agrees = entry_agrees is_used; allows = entry_allows is_used });
        fits = subst₂ IsValueOf (sym phi_ty) (sym old_value) fits_old;
        fits' = subst₂ IsValueOf (sym phi_ty) (sym new_value) fits_new;
      }

    phi_meets : PhiMeets (Some p) b block there before before' rel phi
    phi_meets = elim (entry_cases p phi.entries) [
      | inl none ↦ read_poison none
      | inr h ↦ read_entry h.0 h.1 h.2 h.3 h.4
    ]

  pub phis_meet : (q : Option ℕ) (b : ℕ) (block : Block) → slice_get f.blocks b ≡ Some block → (env env' : Env) → R (Into q b) env env' →
      R (At b 0) (after_phis q block.phis env env) (after_phis q (filter (λ (p : Phi). used p.result.0) (map (new_phi f masks by) block.phis)) env' env')
  phis_meet q b block there env env' rel =
      let all = phis_go q b block there env env' rel block.phis env env' rel.fits rel.fits' (tied_of (Into q b) env env' rel) (each q rel) in
      record { moment = reads q b block env rel.moment there; fits = all.0; fits' = all.1; tied = all.2.tied }
    where
      each : (q : Option ℕ) (rel : R (Into q b) env env') (k : ℕ) (phi : Phi) → slice_get block.phis k ≡ Some phi → PhiMeets q b block there env env' rel phi
      each None rel k phi stands = poison_meets None b block there env env' rel phi refl refl
      each (Some p) rel k phi stands = phi_meets p b block there env env' rel k phi stands

  -- ---- lines

  module _ (b : ℕ) (block : Block) (i : ℕ) (inst : Inst) (line : IsLine f b block i inst) where
    abbrev new_op : Op
    new_op = new_operation f masks by b inst

    abbrev D : ℕ
    D = result_mask masks inst

    bare : Op
    bare = lost_flags (has_changed f by.changed inst.op) (narrowed_cast inst.op (result_mask masks inst))

    shape : SameShape f inst.op (lost_flags (has_changed f by.changed inst.op) (narrowed_cast inst.op (result_mask masks inst)))
    shape = new_shape f (has_changed f by.changed inst.op) inst.op (result_mask masks inst)

    new_call_is : is_call (new_operation f masks by b inst) ≡ is_call inst.op
    new_call_is = with_call (put_for f masks (by.reached b)) (lost_flags (has_changed f by.changed inst.op) (narrowed_cast inst.op (result_mask masks inst))) ∙ shape.call

    new_needs_is : needs_all (new_operation f masks by b inst) ≡ needs_all inst.op
    new_needs_is = with_needs (put_for f masks (by.reached b)) (lost_flags (has_changed f by.changed inst.op) (narrowed_cast inst.op (result_mask masks inst))) ∙ shape.needs

    pub new_names : is_call inst.op ≡ false → by.reached b ≡ true →
        op_names (rewritten f masks by) (new_operation f masks by b inst) ≡ op_names f (with_operands (standing f masks (length f.values)) inst.op)
    new_names plain r =
        names_alike f (rewritten f masks by) (new_operation f masks by b inst) (new_call_is ∙ plain)
        ∙ ap (λ t. op_names f (with_operands (put_for f masks t) (lost_flags (has_changed f by.changed inst.op) (narrowed_cast inst.op (result_mask masks inst))))) r
        ∙ shape.names (standing f masks (length f.values))

    -- what a line that stays uses is used
    pub used_names : stays used (new_line f masks by b inst) ≡ true → (x : ℕ) → is_in x (op_names (rewritten f masks by) (new_operation f masks by b inst)) ≡ true → used x ≡ true
    used_names stay x t = elim (or_cases (needs_all (new_operation f masks by b inst)) (is_used used inst.result) stay) [
      | inl needs ↦ (are_used x).1 (by_need b (new_block f masks by b block) i (new_line f masks by b inst) x (line_at f masks by b block i inst line) (must_at (rewritten f masks by) b (new_block f masks by b block) i (new_line f masks by b inst) (line_at f masks by b block i inst line) ∙ needs) t)
      | inr is ↦ named inst.result refl is
    ]
      where
        named : (o : Option ValueId) → inst.result ≡ o → is_used used o ≡ true → used x ≡ true
        named None e is = absurd (cc)
        named (Some r) e is = (are_used x).1 (by_result b (new_block f masks by b block) i (new_line f masks by b inst) r x (line_at f masks by b block i inst line) e ((are_used r.0).0 is) t)

    at_operation : is_call inst.op ≡ false → stays used (new_line f masks by b inst) ≡ true → (env env' : Env) → R (At b i) env env' →
        AtOperation f masks by.changed used known (At b i) env env' inst.op (result_mask masks inst)
    at_operation plain stay env env' rel = record {
      rel = rel;
      typed = line_typed f masks by.changed used known b block i inst line;
      printable = line_printable f masks by.changed used known b block i inst line;
      asks = line_has f masks known.are b block line.there i inst line.stands;
      live = λ x t. use_is_defined f b block i inst x known.defined line t;
      is_done = λ x t. used_names stay x (subst (λ xs. is_in x xs ≡ true) (sym (new_names plain (reached_at b i env rel.moment))) t);
    }

    -- whether the result may have changed
    marked_in : Option ValueId → Bool
    marked_in o = elim o [ None ↦ true | Some r ↦ by.changed r.0 ]

    asked_in : Option ValueId → ℕ
    asked_in o = elim o [ None ↦ 0 | Some r ↦ masks r.0 ]

    short_by : (v w : ℕ) → name_type f v ≡ Ty.Int w → (bit_and (masks v) (2 ^ w - 1) ≡ 2 ^ w - 1 → ⊥) → is_short f masks v ≡ true
    short_by v w ty apart = subst (λ t. not (nat_eq (bit_and (masks v) (all_bits (number_width t))) (all_bits (number_width t))) ≡ true) (sym ty)
        (here (nat_eq (bit_and (masks v) (2 ^ w - 1)) (2 ^ w - 1)) refl)
      where
        here : (t : Bool) → nat_eq (bit_and (masks v) (2 ^ w - 1)) (2 ^ w - 1) ≡ t → not t ≡ true
        here true e = absurd (apart (eqb-true (bit_and (masks v) (2 ^ w - 1)) (2 ^ w - 1) e))
        here false e = refl

    marks_rightly : (o : Option ValueId) → inst.result ≡ o → MarksRightly f by.changed inst.op (elim o [ None ↦ 0 | Some r ↦ masks r.0 ]) (elim o [ None ↦ true | Some r ↦ by.changed r.0 ])
    marks_rightly None e = record { by_operand = λ some same w ty. absurd (cc); by_sign = λ sign. refl }
    marks_rightly (Some r) e = record {
      by_operand = λ some same w ty. whole some same w (line_type f b block i inst r known.printable line e ∙ ty) (is_short f masks r.0) refl;
      by_sign = λ sign.
          let cast = narrow_cast f inst.op (masks r.0) (line_typed f masks by.changed used known b block i inst line) sign in
          let ty = line_type f b block i inst r known.printable line e ∙ cast.ty in
          (known.are_changed r.0).1 (by_sign b block i inst r line e (short_by r.0 cast.to ty (low_short (masks r.0) cast.from cast.to cast.low cast.wider)) sign);
    }
      where
        whole : list_any by.changed (op_names f inst.op) ≡ true → by.changed r.0 ≡ false → (w : ℕ) → name_type f r.0 ≡ Ty.Int w → (t : Bool) → is_short f masks r.0 ≡ t → IsPartOf (all_bits w) (masks r.0)
        whole some same w ty false short = whole_mask f masks by.changed used known r.0 w ty short
        whole some same w ty true short =
            let x = some_in by.changed (op_names f inst.op) some in
            absurd (let k = (known.are_changed r.0).1 (by_operand b block i inst r x.0 line e short x.1 ((known.are_changed x.0).0 x.2)) in cc)

    small_mask : (o : Option ValueId) → elim o [ None ↦ 0 | Some r ↦ masks r.0 ] < 2 ^ 128
    small_mask None = pow_pos 128
    small_mask (Some r) = known.are.enough.fit r.0

    result_tied : (o : Option ValueId) (v v' : Val) → inst.result ≡ o → (nat_eq (elim inst.result [ None ↦ 0 | Some r ↦ masks r.0 ]) 0 ≡ false →
        Tied (elim inst.result [ None ↦ 0 | Some r ↦ masks r.0 ]) (elim inst.result [ None ↦ true | Some r ↦ by.changed r.0 ]) v v') →
        (r : ValueId) → inst.result ≡ Some r → nat_eq (masks r.0) 0 ≡ false → Tied (masks r.0) (by.changed r.0) v v'
    result_tied o v v' e tied r is some =
        subst₂ (λ d m. Tied d m v v') (ap (λ p. elim p [ None ↦ 0 | Some u ↦ masks u.0 ]) is) (ap (λ p. elim p [ None ↦ true | Some u ↦ by.changed u.0 ]) is)
        (tied (ap (λ p. nat_eq (elim p [ None ↦ 0 | Some u ↦ masks u.0 ]) 0) is ∙ some))

    operation_steps : is_call inst.op ≡ false → stays used (new_line f masks by b inst) ≡ true → StepsTo R (At b i) (At b (suc i)) inst.op (new_operation f masks by b inst) inst.result
    operation_steps plain stay env env' rel r' gives =
        let gives' = subst (λ t. Gives (with_operands (put_for f masks t) (lost_flags (has_changed f by.changed inst.op) (narrowed_cast inst.op (result_mask masks inst)))) env' r')
        (reached_at b i env rel.moment) gives in
        met (operation_meets f masks by.changed used known (At b i) env env' inst.op (result_mask masks inst) (elim inst.result [ None ↦ true | Some r ↦ by.changed r.0 ])
        (has_changed f by.changed inst.op) (at_operation plain stay env env' rel) plain (small_mask inst.result) (marks_rightly inst.result refl) refl r' gives')
      where
        met : Meets f inst.op (result_mask masks inst) (elim inst.result [ None ↦ true | Some r ↦ by.changed r.0 ]) env r' → ResultMeets R (At b (suc i)) inst.op inst.result env env' r'
        met (inl u) = inl u
        met (inr (v, v', e, g, tied, ty, ty')) = inr (
          v,
          v',
          e,
          g,
          record {
            moment = does b block i inst env v rel.moment line plain g;
            fits = fits_result f env inst.result v rel.fits (λ r is. subst (λ t. IsValueOf t v) (sym (line_type f b block i inst r known.printable line is)) ty);
            fits' = fits_result f env' inst.result v' rel.fits' (λ r is. subst (λ t. IsValueOf t v') (sym (line_type f b block i inst r known.printable line is)) ty');
            tied = (tied_result masks by.changed used env env' inst.result v v' (tied_of (At b i) env env' rel)
                (λ r is some is_used. result_tied inst.result v v' refl tied r is some)).tied;
          },
        )

    not_stays : stays used (new_line f masks by b inst) ≡ false → (needs_all inst.op ≡ false) × (is_used used inst.result ≡ false)
    not_stays e = here (needs_all (new_operation f masks by b inst)) (is_used used inst.result) new_needs_is e
      where
        here : (s t : Bool) → s ≡ needs_all inst.op → (s || t) ≡ false → (needs_all inst.op ≡ false) × (t ≡ false)
        here true t k h = absurd (cc)
        here false t k h = (sym k, h)

    unused_result : is_used used inst.result ≡ false → (r : ValueId) → inst.result ≡ Some r → used r.0 ≡ false
    unused_result e r is = ap (is_used used) (sym is) ∙ e

    dropped : (next next' : Ends) → is_call inst.op ≡ false → stays used (new_line f masks by b inst) ≡ false → GoesOn R (At b (suc i)) next next' →
        GoesOn R (At b i) (Does f.calls inst.op inst.result next) next'
    dropped next next' plain gone go =
        dropped_goes R f.calls (At b i) (At b (suc i)) inst.op inst.result next next' plain
        (λ env env' rel v gives. record {
          moment = does b block i inst env v rel.moment line plain gives;
          fits = fits_result f env inst.result v rel.fits (λ r is. subst (λ t. IsValueOf t v) (sym (line_type f b block i inst r known.printable line is))
              (done_typed inst.op _ _ _ v (is_operation f inst.op plain (line_typed f masks by.changed used known b block i inst line) (line_printable f masks by.changed used known b block i inst line))
              (values_fit f masks by.changed used known inst.op env rel.fits (line_typed f masks by.changed used known b block i inst line) (line_printable f masks by.changed used known b block i inst line)) gives));
          fits' = rel.fits';
          tied = (tied_dropped masks by.changed used env env' inst.result v (tied_of (At b i) env env' rel) (unused_result (not_stays gone).1)).tied;
        }) go

    -- ---- a call

    module _ (width : Option ℕ) (place : ℕ) (is : inst.op ≡ Op.Call width place) (call : CallOp) (there : slice_get f.calls place ≡ Some call) where
      call_needs : needs_all inst.op ≡ true
      call_needs = ap needs_all is

      call_stays : stays used (new_line f masks by b inst) ≡ true
      call_stays = or_left (needs_all (new_operation f masks by b inst)) (is_used used inst.result) (new_needs_is ∙ call_needs)

      new_is : new_operation f masks by b inst ≡ Op.Call width place
      new_is =
          ap (λ o. with_operands (put_for f masks (by.reached b)) (lost_flags (has_changed f by.changed o) (narrowed_cast o (result_mask masks inst)))) is
          ∙ lost_call (has_changed f by.changed (Op.Call width place)) (put_for f masks (by.reached b)) width place

      module _ (env env' : Env) (rel : R (At b i) env env') where
        call_reached : is_reached_call by place 0 f.blocks ≡ true
        call_reached = reached_call f masks by b block i inst width place line is (reached_at b i env rel.moment)

        module _ (k : ℕ) (a : CallArg) (at : slice_get call.args k ≡ Some a) where
          arg_typed : IsTypedOperand f a.width a.value
          arg_typed =
              let types : TypedCall f place = subst (TypedOp f) is (line_typed f masks by.changed used known b block i inst line) in
              let all : All (λ (c : CallArg). IsOfType f (Ty.Int c.width) c.value) call.args =
              subst (λ o. IsSomeAnd o (λ (c : CallOp). All (λ (d : CallArg). IsOfType f (Ty.Int d.width) d.value) c.args)) there types in
              let ranges = all_at (PrintableCall f) f.calls place call known.printable.calls there in
              record {
                ty = all_at (λ (c : CallArg). IsOfType f (Ty.Int c.width) c.value) call.args k a all at;
                range = (all_at (PrintableArgument f) call.args k a ranges.arguments at).value;
              }

          arg_live : (x : ℕ) → is_in x (operand_names a.value) ≡ true → IsDefinedAtPlace f (At b i) x
          arg_live x t = use_is_defined f b block i inst x known.defined line
              (subst (λ o. is_in x (op_names f o) ≡ true) (sym is)
              (subst (λ o. is_in x (elim o [ None ↦ [] | Some c ↦ flat_map (λ d. operand_names d.value) c.args ]) ≡ true) (sym there)
              (in_flat (λ (d : CallArg). operand_names d.value) call.args k a x at t)))

          arg_asked : ForName (λ v. IsPartOf (all_bits a.width) (masks v)) a.value
          arg_asked =
              let have = line_has f masks known.are b block line.there i inst line.stands in
              let of_call : Have (operand_asks (Op.Call width place) (result_mask masks inst) 0 (arguments_of (slice_get f.calls place))) masks =
              subst (λ o. Have (operand_asks o (result_mask masks inst) 0 (operands_of f o)) masks) is have in
              let of_args : Have (operand_asks (Op.Call width place) (result_mask masks inst) 0 (arguments_of (Some call))) masks =
              subst (λ o. Have (operand_asks (Op.Call width place) (result_mask masks inst) 0 (arguments_of o)) masks) there of_call in
              args_asked masks (Op.Call width place) (result_mask masks inst) 0 call.args k a refl of_args at

          arg_done : IsDone f used (standing f masks (length f.values) a.value)
          arg_done x t = used_names call_stays x
              (subst (λ o. is_in x (op_names (rewritten f masks by) o) ≡ true) (sym new_is)
              (subst (λ o. is_in x (elim o [ None ↦ [] | Some c ↦ flat_map (λ d. operand_names d.value) c.args ]) ≡ true) (sym (call_at f masks by place call there))
              (in_flat (λ (d : CallArg). operand_names d.value) (map (new_argument (put_for f masks (is_reached_call by place 0 f.blocks))) call.args) k
              (new_argument (put_for f masks (is_reached_call by place 0 f.blocks)) a) x
              (get_map (new_argument (put_for f masks (is_reached_call by place 0 f.blocks))) call.args k a at)
              (subst (λ s. is_in x (operand_names (put_for f masks s a.value)) ≡ true) (sym call_reached) t))))

          arg_allowed : AllowsValue (operand_value env a.value) (operand_value env' (standing f masks (length f.values) a.value))
          arg_allowed =
              whole_allows a.width (all_bits a.width) (operand_value env a.value) (operand_value env' (standing f masks (length f.values) a.value)) (and_self (all_bits a.width))
              (operand_fits f env a.width a.value rel.fits arg_typed)
              (operand_fits f env' a.width (standing f masks (length f.values) a.value) rel.fits' (standing_typed f masks by.changed used known (length f.values) a.width a.value arg_typed))
              (standing_agrees f masks by.changed used known (At b i) env env' rel (length f.values) a.width (all_bits a.width) a.value arg_typed
              (for_name (λ x. IsDefinedAtPlace f (At b i) x) a.value arg_live) arg_asked arg_done)

        call_meets : CallMeets R (At b (suc i)) width call (new_call f masks by place call) inst.result env env'
        call_meets = subst (λ s. CallMeets R (At b (suc i)) width call
            (record { callee = call.callee; words = call.words; args = map (new_argument (put_for f masks s)) call.args }) inst.result env env') (sym call_reached) (record {
              kept = λ fine. promises_kept env env' (standing f masks (length f.values)) call.args arg_allowed fine;
              event = record { callee = refl; args = arguments_allowed env env' (standing f masks (length f.values)) call.args arg_allowed };
              result = λ fine answer v possible gives.
                  let ty : (r : ValueId) → inst.result ≡ Some r → IsValueOf (name_type f r.0) v = λ r named.
                  subst (λ t. IsValueOf t v) (sym (line_type f b block i inst r known.printable line named ∙ ap op_type is)) (answer_typed width (has_noundef call.words) answer v gives) in
                  record {
                    moment = calls b block i inst env v width place call answer rel.moment line is (record { there = there; promise = fine; possible = possible; gives = gives });
                    fits = fits_result f env inst.result v rel.fits ty;
                    fits' = fits_result f env' inst.result v rel.fits' ty;
                    tied = (tied_result masks by.changed used env env' inst.result v v (tied_of (At b i) env env' rel)
                        (λ r named some is_used. record { agrees = allows_agrees (masks r.0) v v (AllowsValue-refl v); allows = λ same. AllowsValue-refl v })).tied;
                  };
            })

      call_line : (next next' : Ends) → GoesOn R (At b (suc i)) next next' →
          GoesOn R (At b i) (Does f.calls inst.op inst.result next) (Does (new_calls f masks by 0 f.calls) (new_operation f masks by b inst) inst.result next')
      call_line next next' go =
          subst₂ (λ o o'. GoesOn R (At b i) (Does f.calls o inst.result next) (Does (new_calls f masks by 0 f.calls) o' inst.result next')) (sym is) (sym new_is)
          (subst₂ (λ c c'. GoesOn R (At b i) (Calls width c inst.result next) (Calls width c' inst.result next')) (sym there) (sym (call_at f masks by place call there))
          (call_goes R (At b i) (At b (suc i)) width call (new_call f masks by place call) inst.result next next' refl call_meets go))

    line_goes : LineGoes R f.calls (new_calls f masks by 0 f.calls) b i inst (stays used (new_line f masks by b inst)) (new_line f masks by b inst)
    line_goes next next' go = here (is_call inst.op) refl (stays used (new_line f masks by b inst)) refl
      where
        with_the_call : (width : Option ℕ) (place : ℕ) (is : inst.op ≡ Op.Call width place) (o : Option CallOp) → slice_get f.calls place ≡ o →
            GoesOn R (At b i) (Does f.calls inst.op inst.result next) (Does (new_calls f masks by 0 f.calls) (new_operation f masks by b inst) inst.result next')
        with_the_call width place is None there = absurd (
            let types : TypedCall f place = subst (TypedOp f) is (line_typed f masks by.changed used known b block i inst line) in
            subst (λ o. IsSomeAnd o (λ (c : CallOp). All (λ (d : CallArg). IsOfType f (Ty.Int d.width) d.value) c.args)) there types
            )
        with_the_call width place is (Some call) there = call_line width place is call there next next' go

        here : (p : Bool) → is_call inst.op ≡ p → (s : Bool) → stays used (new_line f masks by b inst) ≡ s →
            GoesOn R (At b i) (Does f.calls inst.op inst.result next)
            (line_or s (Does (new_calls f masks by 0 f.calls) (new_operation f masks by b inst) inst.result next') next')
        here false plain true stay = operation_goes R f.calls (new_calls f masks by 0 f.calls) (At b i) (At b (suc i)) inst.op (new_operation f masks by b inst) inst.result next next'
            plain (new_call_is ∙ plain) (operation_steps plain stay) go
        here false plain false gone = dropped next next' plain gone go
        here true e true stay = let c = call_of inst.op e in with_the_call c.width c.place c.is (slice_get f.calls c.place) refl
        here true e false gone = absurd (let c = call_of inst.op e in let needs = ap needs_all c.is in let free = (not_stays gone).0 in cc)

  -- ---- terminators

  module _ (b : ℕ) (block : Block) (there : slice_get f.blocks b ≡ Some block) (env env' : Env) (rel : R (At b (length block.insts)) env env') where
    moved : (x : Exit) → exit_of block.term env ≡ x → ExitMeets R b env env' x x
    moved Invalid e = tt
    moved (Return v) e = AllowsValue-refl v
    moved (Edge k t) e = (refl, record { moment = leaves b block env k t rel.moment there e; fits = rel.fits; fits' = rel.fits'; tied = rel.tied })

    term_used : (x : ℕ) → is_in x (term_names (with_operand (standing f masks (length f.values)) block.term)) ≡ true → used x ≡ true
    term_used x t = (are_used x).1 (by_terminator b (new_block f masks by b block) x (block_at f masks by b block there)
        (subst (λ s. is_in x (term_names (with_operand (put_for f masks s) block.term)) ≡ true) (sym (reached_at b (length block.insts) env rel.moment)) t))

    module _ (w : ℕ) (a : Operand) (typed : IsTypedOperand f w a) (asked : ForName (λ v. IsPartOf (all_bits w) (masks v)) a)
        (within : (x : ℕ) → is_in x (operand_names a) ≡ true → is_in x (term_names block.term) ≡ true)
        (within' : (x : ℕ) → is_in x (operand_names (standing f masks (length f.values) a)) ≡ true → is_in x (term_names (with_operand (standing f masks (length f.values)) block.term)) ≡ true) where
      seen_allowed : AllowsValue (operand_value env a) (operand_value env' (standing f masks (length f.values) a))
      seen_allowed =
          whole_allows w (all_bits w) (operand_value env a) (operand_value env' (standing f masks (length f.values) a)) (and_self (all_bits w))
          (operand_fits f env w a rel.fits typed)
          (operand_fits f env' w (standing f masks (length f.values) a) rel.fits' (standing_typed f masks by.changed used known (length f.values) w a typed))
          (standing_agrees f masks by.changed used known (At b (length block.insts)) env env' rel (length f.values) w (all_bits w) a typed
          (for_name (λ x. IsDefinedAtPlace f (At b (length block.insts)) x) a (λ x t. term_defined f known.defined b block there x (within x t))) asked (λ x t. term_used x (within' x t)))

    branch_meets : (v v' : Val) (taken fallen : ℕ) → AllowsValue v v' → exit_of block.term env ≡ branch_exit v taken fallen → ExitMeets R b env env' (branch_exit v taken fallen) (branch_exit v' taken fallen)
    branch_meets Val.Poison v' taken fallen a e = tt
    branch_meets (Val.Pair x o) v' taken fallen a e = tt
    branch_meets (Val.Number x) v' taken fallen a e = subst (λ u. ExitMeets R b env env' (branch_exit (Val.Number x) taken fallen) (branch_exit u taken fallen)) a (moved (branch_exit (Val.Number x) taken fallen) e)

    switch_meets : (v v' : Val) (other : ℕ) (cases : List (ℕ × BlockId)) → AllowsValue v v' → exit_of block.term env ≡ switch_exit v other cases →
        ExitMeets R b env env' (switch_exit v other cases) (switch_exit v' other cases)
    switch_meets Val.Poison v' other cases a e = tt
    switch_meets (Val.Pair x o) v' other cases a e = tt
    switch_meets (Val.Number x) v' other cases a e = subst (λ u. ExitMeets R b env env' (switch_exit (Val.Number x) other cases) (switch_exit u other cases)) a (moved (switch_exit (Val.Number x) other cases) e)

    term_meets : (term : Term) → block.term ≡ term → TypedTerm f term → PrintableTerm f term → Have (whole_asks (seen_in term)) masks →
        ExitMeets R b env env' (exit_of term env) (exit_of (with_operand (standing f masks (length f.values)) term) env')
    term_meets (Term.Ret w a) e types ranges asks =
        seen_allowed w a (record { ty = types.1; range = ranges.1 }) (name_asked masks (all_bits w) a _ asks)
        (λ x t. subst (λ z. is_in x (term_names z) ≡ true) (sym e) t) (λ x t. subst (λ z. is_in x (term_names (with_operand (standing f masks (length f.values)) z)) ≡ true) (sym e) t)
    term_meets (Term.Br to) e types ranges asks = moved (Edge 0 to.0) (ap (λ z. exit_of z env) e)
    term_meets (Term.CondBr c taken fallen) e types ranges asks =
        branch_meets (operand_value env c) (operand_value env' (standing f masks (length f.values) c)) taken.0 fallen.0
        (seen_allowed 1 c (record { ty = types; range = ranges.0 }) (name_asked masks (all_bits 1) c _ asks)
        (λ x t. subst (λ z. is_in x (term_names z) ≡ true) (sym e) t) (λ x t. subst (λ z. is_in x (term_names (with_operand (standing f masks (length f.values)) z)) ≡ true) (sym e) t))
        (ap (λ z. exit_of z env) e)
    term_meets (Term.Switch w on other cases) e types ranges asks =
        switch_meets (operand_value env on) (operand_value env' (standing f masks (length f.values) on)) other.0 cases
        (seen_allowed w on (record { ty = types.0; range = ranges.1 }) (name_asked masks (all_bits w) on _ asks)
        (λ x t. subst (λ z. is_in x (term_names z) ≡ true) (sym e) t) (λ x t. subst (λ z. is_in x (term_names (with_operand (standing f masks (length f.values)) z)) ≡ true) (sym e) t))
        (ap (λ z. exit_of z env) e)
    term_meets Term.Unreachable e types ranges asks = tt

    exit_meets : ExitMeets R b env env' (exit_of block.term env) (exit_of (with_operand (put_for f masks (by.reached b)) block.term) env')
    exit_meets = subst (λ s. ExitMeets R b env env' (exit_of block.term env) (exit_of (with_operand (put_for f masks s) block.term) env')) (sym (reached_at b (length block.insts) env rel.moment))
        (term_meets block.term refl (all_at (TypedBlock f) f.blocks b block known.typed there).terminator
        (all_at (PrintableBlock f) f.blocks b block known.printable.blocks there).term (term_has f masks known.are b block there))

  -- ---- the whole

  header : SameHeader f (left used (rewritten f masks by))
  header = record { name = refl; lead = refl; width = refl; parameters = refl; tail = refl }

  block_meets : (b : ℕ) (block : Block) → slice_get f.blocks b ≡ Some block → BlockMeets R f (left used (rewritten f masks by)) header b block
  block_meets b block there = record {
    other = block_left used (new_block f masks by b block);
    there = get_map (block_left used) (new_blocks f masks by 0 f.blocks) b (new_block f masks by b block) (block_at f masks by b block there);
    phis = λ p env env' rel. phis_meet p b block there env env' rel;
    lines = λ next next' go. lines_go R f.calls (new_calls f masks by 0 f.calls) b (length block.insts) (new_line f masks by b) (stays used) next next' go block.insts 0 (omega arith)
        (λ j k inst is stands. line_goes b block k inst (record { there = there; stands = let same : j ≡ k = omega (arith, is) in subst (λ n. slice_get block.insts n ≡ Some inst) same stands }));
    exit = λ env env' rel. exit_meets b block there env env' rel;
  }

  pub narrowed_refines : Refines f (left used (rewritten f masks by))
  narrowed_refines = in_step R f (left used (rewritten f masks by)) header block_meets refl (λ args fit kept. record {
    moment = starts args fit kept;
    fits = start_fits f f.params args fit;
    fits' = start_fits f f.params args fit;
    tied = λ v some is_used. record {
      agrees = allows_agrees (masks v) (start_of f.params args v) (start_of f.params args v) (AllowsValue-refl (start_of f.params args v));
      allows = λ same. AllowsValue-refl (start_of f.params args v);
    };
  })
