-- Calls that are noted where they are made are those of the marks.
use Rattle.std.proofs.Common.{◌≡◌, ◌+◌, ℕ, suc, nat_eq, Bool, true, false, ◌&&◌, if◌then◌else◌, Option, Some, None, List, [], ◌∷◌, map, slice_get, unwrap_or, refl, sym, ap, ◌∙◌, subst, arith}
use Rattle.std.specs.Prelude.{slice_index_or}
use Rattle.std.specs.Option.{option_map, option_or}
use Rattle.std.proofs.lemmas.Bool.{eqb-true}
use Rattle.vfa_ir.specs.declared.operations.Op.{Op}
use Rattle.vfa_ir.specs.declared.operations.Operand.{Operand}
use Rattle.vfa_ir.specs.declared.functions.Block.{Block}
use Rattle.vfa_ir.specs.declared.functions.CallArg.{CallArg}
use Rattle.vfa_ir.specs.declared.functions.CallOp.{CallOp}
use Rattle.vfa_ir.specs.declared.functions.Function.{Function}
use Rattle.vfa_ir.specs.declared.functions.Inst.{Inst}
use Rattle.vfa_mean.specs.Moments.{Place, At}
use Rattle.vfa_rules.specs.Uses.{first_found}
use Rattle.vfa_rewrite.specs.Chains.{itself}
use Rattle.vfa_rewrite.specs.Findings.{Findings}
use Rattle.vfa_rewrite.specs.Making.{makes_call, call_place_in, call_place_within, call_place, put_at, put_if, first_marks}
use Rattle.vfa_rewrite.specs.Putting.{call_with, call_at, call_in, call_within}
use Rattle.vfa_rewrite.specs.Rewritten.{with_numbers, argument_left, call_left}

module _ (f : Function) (found : Findings) (k : ℕ) where
  call_or : (p q : Option Place) → call_at f found k (option_or p q) ≡ option_or (call_at f found k p) (call_at f found k q)
  call_or None q = refl
  call_or (Some p) None = by (slice_get f.calls k)
    where
      by : (o : Option CallOp) → option_map (call_with (put_at f found p)) o ≡ option_or (option_map (call_with (put_at f found p)) o) None
      by None = refl
      by (Some c) = refl
  call_or (Some p) (Some q) = by (slice_get f.calls k)
    where
      by : (o : Option CallOp) → option_map (call_with (put_at f found p)) o ≡ option_or (option_map (call_with (put_at f found p)) o) (option_map (call_with (put_at f found q)) o)
      by None = refl
      by (Some c) = refl

  pub lines_calls : (b i : ℕ) (insts : List Inst) →
      first_found itself (with_numbers (call_in f found k b) i insts) ≡ call_at f found k (first_found itself (with_numbers (call_place_in found k b) i insts))
  lines_calls b i [] = refl
  lines_calls b i (inst ∷ rest) =
      ap (option_or (call_in f found k b i inst)) (lines_calls b (suc i) rest)
      ∙ sym (call_or (call_place_in found k b i inst) (first_found itself (with_numbers (call_place_in found k b) (suc i) rest)))

  pub blocks_calls : (reached : ℕ → Bool) (i : ℕ) (blocks : List Block) →
      first_found itself (with_numbers (call_within f found reached k) i blocks) ≡ call_at f found k (first_found itself (with_numbers (call_place_within found reached k) i blocks))
  blocks_calls reached i [] = refl
  blocks_calls reached i (block ∷ rest) =
      ap (option_or (call_within f found reached k i block)) (blocks_calls reached (suc i) rest)
      ∙ sym (call_or (call_place_within found reached k i block) (first_found itself (with_numbers (call_place_within found reached k) (suc i) rest)))

  -- what a block that is reached makes, and one that is not
  pub within_reached : (reached : ℕ → Bool) (b : ℕ) (block : Block) → reached b ≡ true →
      first_found itself (with_numbers (call_in f found k b) 0 block.insts) ≡ call_within f found reached k b block
  within_reached reached b block r =
      lines_calls b 0 block.insts
      ∙ ap (λ t. call_at f found k (if t then first_found itself (with_numbers (call_place_in found k b) 0 block.insts) else None)) (sym r)

  pub within_gone : (reached : ℕ → Bool) (b : ℕ) (block : Block) → reached b ≡ false → None ≡ call_within f found reached k b block
  within_gone reached b block r =
      ap (λ t. call_at f found k (if t then first_found itself (with_numbers (call_place_in found k b) 0 block.insts) else None)) (sym r)

  -- what an instruction makes that a run may come to
  pub made_here : (b i : ℕ) (inst : Inst) → found.met b i ≡ true → (put : Operand → Operand) → put ≡ put_at f found (At b i) →
      (if makes_call k inst.op then option_map (call_with put) (slice_get f.calls k) else None) ≡ call_in f found k b i inst
  made_here b i inst met put same =
      ap (λ p. if makes_call k inst.op then option_map (call_with p) (slice_get f.calls k) else None) same
      ∙ (by (makes_call k inst.op) ∙ ap (λ t. call_at f found k (if t && makes_call k inst.op then Some (At b i) else None)) (sym met))
    where
      by : (t : Bool) → (if t then option_map (call_with (put_at f found (At b i))) (slice_get f.calls k) else None) ≡ call_at f found k (if true && t then Some (At b i) else None)
      by true = refl
      by false = refl

  pub none_here : (b i : ℕ) (inst : Inst) → found.met b i ≡ false → call_in f found k b i inst ≡ None
  none_here b i inst unmet = ap (λ t. call_at f found k (if t && makes_call k inst.op then Some (At b i) else None)) unmet

-- ---- all calls

same_args : (args : List CallArg) → map (argument_left (λ a. a)) args ≡ args
same_args [] = refl
same_args (a ∷ args) = ap (λ rest. a ∷ rest) (same_args args)

pub call_is_left : (f : Function) (found : Findings) (reached : ℕ → Bool) (k : ℕ) (call : CallOp) → slice_get f.calls k ≡ Some call → (made : Option CallOp) →
    made ≡ call_at f found k (call_place f found reached k) → unwrap_or made call ≡ call_left (first_marks f found reached) k call
call_is_left f found reached k call there made is = ap (λ o. unwrap_or o call) is ∙ by (call_place f found reached k)
  where
    by : (p : Option Place) → unwrap_or (call_at f found k p) call ≡ call_with (put_if f found p) call
    by None = ap (λ args. record { callee = call.callee; words = call.words; args = args }) (sym (same_args call.args))
    by (Some p) = ap (λ o. unwrap_or (option_map (call_with (put_at f found p)) o) call) there

-- two ways of making elements that agree
pub made_alike : {A B : Type 0} (make make' : ℕ → A → B) (i : ℕ) (xs : List A) → ((j : ℕ) (x : A) → slice_get xs j ≡ Some x → make (i + j) x ≡ make' (i + j) x) →
    with_numbers make i xs ≡ with_numbers make' i xs
made_alike make make' i [] same = refl
made_alike make make' i (x ∷ xs) same =
    let zero_more : i + 0 ≡ i = omega arith in
    let here : make i x ≡ make' i x = subst (λ n. make n x ≡ make' n x) zero_more (same 0 x refl) in
    let rest : with_numbers make (suc i) xs ≡ with_numbers make' (suc i) xs =
    made_alike make make' (suc i) xs (λ j y h. let one_more : i + suc j ≡ suc i + j = omega arith in subst (λ n. make n y ≡ make' n y) one_more (same (suc j) y h)) in
    λ j. here j ∷ rest j

pub calls_are_left : (f : Function) (found : Findings) (reached : ℕ → Bool) (made : List (Option CallOp)) →
    ((k : ℕ) → slice_index_or made k None ≡ call_at f found k (call_place f found reached k)) →
    with_numbers (λ k call. unwrap_or (slice_index_or made k None) call) 0 f.calls ≡ with_numbers (call_left (first_marks f found reached)) 0 f.calls
calls_are_left f found reached made are =
    made_alike (λ k call. unwrap_or (slice_index_or made k None) call) (call_left (first_marks f found reached)) 0 f.calls
    (λ j call there. let same : 0 + j ≡ j = omega arith in
    subst (λ n. unwrap_or (slice_index_or made n None) call ≡ call_left (first_marks f found reached) n call) (sym same)
    (call_is_left f found reached j call there (slice_index_or made j None) (are j)))

-- ---- one call is noted

pub call_noted : (f : Function) (k number : ℕ) (call before : CallOp) (put : Operand → Operand) (width : Option ℕ) (op : Op) → op ≡ Op.Call width number →
    slice_get f.calls number ≡ Some before → call ≡ call_with put before →
    (if nat_eq number k then Some call else None) ≡ (if makes_call k op then option_map (call_with put) (slice_get f.calls k) else None)
call_noted f k number call before put width op is there made =
    by (nat_eq number k) refl ∙ ap (λ o. if makes_call k o then option_map (call_with put) (slice_get f.calls k) else None) (sym is)
  where
    by : (t : Bool) → nat_eq number k ≡ t → (if t then Some call else None) ≡ (if t then option_map (call_with put) (slice_get f.calls k) else None)
    by true same = ap Some made ∙ ap (option_map (call_with put)) (sym there ∙ ap (slice_get f.calls) (eqb-true number k same))
    by false apart = refl
