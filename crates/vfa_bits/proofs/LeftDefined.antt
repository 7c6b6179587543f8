-- On every walk of a narrowed function names are defined before they are used.
use Rattle.std.proofs.Common.{◌≡◌, ℕ, zero, suc, ◌+◌, ◌<◌, Bool, true, false, cond, nat_eq, Option, Some, None, List, [], ◌∷◌, ◌++◌, map, flat_map, slice_get, length, take, add-one, refl, sym, ◌∙◌, ap, subst, arith, inl, inr, take_all, le_refl}
use Rattle.std.specs.Prelude.{filter, if◌then◌else◌}
use Rattle.std.specs.List.{AllByRecursion, list_any}
use Rattle.std.proofs.lemmas.List.Elements.{All-from_recursion}
use Rattle.std.proofs.lemmas.Option.{same_Some}
use Rattle.vfa_ir.specs.declared.operations.BlockId.{BlockId}
use Rattle.vfa_ir.specs.declared.operations.Op.{Op}
use Rattle.vfa_ir.specs.declared.operations.Operand.{Operand}
use Rattle.vfa_ir.specs.declared.functions.Block.{Block}
use Rattle.vfa_ir.specs.declared.functions.CallArg.{CallArg}
use Rattle.vfa_ir.specs.declared.functions.CallOp.{CallOp}
use Rattle.vfa_ir.specs.declared.functions.Function.{Function}
use Rattle.vfa_ir.specs.declared.functions.Inst.{Inst}
use Rattle.vfa_ir.specs.declared.functions.Phi.{Phi}
use Rattle.vfa_ir.specs.declared.functions.Term.{Term}
use Rattle.vfa_ir.specs.Defined.{Defined, NameUse, UseIsDefined, op_names, operand_names, term_names, uses_at, uses_from, block_uses, phi_uses, inst_uses, line_count}
use Rattle.vfa_ir.specs.Printable.{IsOperand, IsBlock, PrintablePhi, PrintableBlock, block_ids, inst_ids}
use Rattle.vfa_ir.specs.Walks.{IsWalk, IsDefinedAt, is_in, is_parameter, results_in, results_before, defined_over}
use Rattle.vfa_mean.specs.FreshOperands.{IsDefinedAtPlace}
use Rattle.vfa_mean.specs.Moments.{Place, Into, At, IsLine, is_call}
use Rattle.vfa_mean.proofs.FreshOperands.Definitions.{or_cases, or_left, or_right, in_left, in_right, in_cases, in_first, in_rest, first_or_rest}
use Rattle.vfa_mean.proofs.FreshOperands.Walking.{use_is_defined}
use Rattle.vfa_demand.specs.Masks.{result_mask}
use Rattle.vfa_bits.specs.Standing.{put_for, standing, replacement}
use Rattle.vfa_demand.specs.Used.{AreUsed, by_terminator, by_phi}
use Rattle.vfa_bits.specs.Narrowed.{Choices, with_operands, lost_flags, has_changed, narrowed_cast, new_operation, new_line, new_entry, new_phi, with_operand, new_argument, is_reached_call, new_block, new_blocks, new_calls, rewritten, stays, block_left, left, AreReached, must_stay}
use Rattle.vfa_bits.proofs.Chains.{Known, all_at, beside_names}
use Rattle.vfa_bits.proofs.Kept.{same_successors}
use Rattle.vfa_bits.proofs.LeftBlocks.{left_at, mapped_at, out_flat}
use Rattle.vfa_bits.proofs.LeftNames.{phi_left, line_left, names_left}
use Rattle.vfa_bits.proofs.Narrowing.{in_flat, call_of, lost_call, new_names, used_names}
use Rattle.vfa_bits.proofs.Places.{get_map, block_at, call_at, reached_call, term_defined, entry_defined}
use Rattle.vfa_bits.proofs.Related.{ForName, for_name}
use Rattle.vfa_bits.proofs.StandsFor.{IsReplaced, replaced_by}
use Rattle.vfa_bits.proofs.StillDefined.{still_defined}

-- ---- names of operands that are put in

name_of : (P : ℕ → Type 0) (a : Operand) (x : ℕ) → ForName P a → is_in x (operand_names a) ≡ true → P x
name_of P (Operand.Value v) x h t = elim (first_or_rest x v.0 [] t) [ inl e ↦ subst P (sym e) h | inr n ↦ absurd (cc) ]
name_of P (Operand.Literal c) x h t = absurd (cc)
name_of P Operand.Poison x h t = absurd (cc)

name_of_two : (P : ℕ → Type 0) (a b : Operand) (x : ℕ) → ForName P a → ForName P b → is_in x (operand_names a ++ operand_names b) ≡ true → P x
name_of_two P a b x h k t = elim (in_cases x (operand_names a) (operand_names b) t) [ inl u ↦ name_of P a x h u | inr u ↦ name_of P b x k u ]

module _ (f : Function) (P : ℕ → Type 0) (put : Operand → Operand) (keeps : (a : Operand) → ForName P a → ForName P (put a)) where
  put_names : (op : Op) (x : ℕ) → is_call op ≡ false → ((u : ℕ) → is_in u (op_names f op) ≡ true → P u) → is_in x (op_names f (with_operands put op)) ≡ true → P x
  put_names (Op.Bin bin flags w a b) x plain live t = name_of_two P (put a) (put b) x (keeps a (for_name P a (λ u h. live u (in_left u (operand_names a) (operand_names b) h)))) (keeps b (for_name P b (λ u h. live u (in_right u (operand_names a) (operand_names b) h)))) t
  put_names (Op.Icmp pred samesign w a b) x plain live t = name_of_two P (put a) (put b) x (keeps a (for_name P a (λ u h. live u (in_left u (operand_names a) (operand_names b) h)))) (keeps b (for_name P b (λ u h. live u (in_right u (operand_names a) (operand_names b) h)))) t
  put_names (Op.Select w c a b) x plain live t = elim (in_cases x (operand_names (put c)) (operand_names (put a) ++ operand_names (put b)) t) [
    | inl k ↦ name_of P (put c) x (keeps c (for_name P c (λ u h. live u (in_left u (operand_names c) (operand_names a ++ operand_names b) h)))) k
    | inr k ↦ name_of_two P (put a) (put b) x (keeps a (for_name P a (λ u h. live u (in_right u (operand_names c) (operand_names a ++ operand_names b) (in_left u (operand_names a) (operand_names b) h))))) (keeps b (for_name P b (λ u h. live u (in_right u (operand_names c) (operand_names a ++ operand_names b) (in_right u (operand_names a) (operand_names b) h))))) k
  ]
  put_names (Op.Cast cast flags v w a) x plain live t = name_of P (put a) x (keeps a (for_name P a (λ u h. live u h))) t
  put_names (Op.Freeze w a) x plain live t = name_of P (put a) x (keeps a (for_name P a (λ u h. live u h))) t
  put_names (Op.Two fun w a b) x plain live t = name_of_two P (put a) (put b) x (keeps a (for_name P a (λ u h. live u (in_left u (operand_names a) (operand_names b) h)))) (keeps b (for_name P b (λ u h. live u (in_right u (operand_names a) (operand_names b) h)))) t
  put_names (Op.One fun w a strict) x plain live t = name_of P (put a) x (keeps a (for_name P a (λ u h. live u h))) t
  put_names (Op.Over over w a b) x plain live t = name_of_two P (put a) (put b) x (keeps a (for_name P a (λ u h. live u (in_left u (operand_names a) (operand_names b) h)))) (keeps b (for_name P b (λ u h. live u (in_right u (operand_names a) (operand_names b) h)))) t
  put_names (Op.Part w pair index) x plain live t = live x t
  put_names (Op.Assume c) x plain live t = name_of P (put c) x (keeps c (for_name P c (λ u h. live u h))) t
  put_names (Op.Call width place) x plain live t = absurd (cc)

  put_term_names : (term : Term) (x : ℕ) → ((u : ℕ) → is_in u (term_names term) ≡ true → P u) → is_in x (term_names (with_operand put term)) ≡ true → P x
  put_term_names (Term.Ret w a) x live t = name_of P (put a) x (keeps a (for_name P a live)) t
  put_term_names (Term.Br to) x live t = absurd (cc)
  put_term_names (Term.CondBr c taken fallen) x live t = name_of P (put c) x (keeps c (for_name P c live)) t
  put_term_names (Term.Switch w on other cases) x live t = name_of P (put on) x (keeps on (for_name P on live)) t
  put_term_names Term.Unreachable x live t = absurd (cc)

-- ---- lists of lines

taken_left : {A : Type 0} (keep : A → Bool) (h : A → A) (xs : List A) (i : ℕ) → take (length (filter keep (map h (take i xs)))) (filter keep (map h xs)) ≡ filter keep (map h (take i xs))
taken_left keep h xs zero = refl
taken_left keep h [] (suc i) = refl
taken_left keep h (x ∷ xs) (suc i) = by (keep (h x)) (taken_left keep h xs i)
  where
    by : (t : Bool) → take (length (filter keep (map h (take i xs)))) (filter keep (map h xs)) ≡ filter keep (map h (take i xs)) →
        take (length (cond t (h x ∷ filter keep (map h (take i xs))) (filter keep (map h (take i xs))))) (cond t (h x ∷ filter keep (map h xs)) (filter keep (map h xs)))
        ≡ cond t (h x ∷ filter keep (map h (take i xs))) (filter keep (map h (take i xs)))
    by true e = ap (λ rest. h x ∷ rest) e
    by false e = e

one_taken : {A : Type 0} (keep : A → Bool) (h : A → A) (xs : List A) (i : ℕ) (x : A) → slice_get xs i ≡ Some x →
    length (filter keep (map h (take (suc i) xs))) ≡ cond (keep (h x)) (suc (length (filter keep (map h (take i xs))))) (length (filter keep (map h (take i xs))))
one_taken keep h [] i x e = absurd (cc)
one_taken keep h (y ∷ xs) zero x e = subst (λ z. length (filter keep (map h (take 1 (y ∷ xs)))) ≡ cond (keep (h z)) 1 0) (same_Some y x e) (by (keep (h y)))
  where
    by : (t : Bool) → length (cond t (h y ∷ []) []) ≡ cond t 1 0
    by true = refl
    by false = refl
one_taken keep h (y ∷ xs) (suc i) x e = by (keep (h y)) (keep (h x)) (one_taken keep h xs i x e)
  where
    by : (s t : Bool) → length (filter keep (map h (take (suc i) xs))) ≡ cond t (suc (length (filter keep (map h (take i xs))))) (length (filter keep (map h (take i xs)))) →
        length (cond s (h y ∷ filter keep (map h (take (suc i) xs))) (filter keep (map h (take (suc i) xs))))
        ≡ cond t (suc (length (cond s (h y ∷ filter keep (map h (take i xs))) (filter keep (map h (take i xs)))))) (length (cond s (h y ∷ filter keep (map h (take i xs))) (filter keep (map h (take i xs)))))
    by true true e = ap suc e
    by true false e = ap suc e
    by false true e = e
    by false false e = e

uses_joined : (P : NameUse → Type 0) (xs ys : List NameUse) → AllByRecursion P xs → AllByRecursion P ys → AllByRecursion P (xs ++ ys)
uses_joined P [] ys h k = k
uses_joined P (x ∷ xs) ys h k = (h.0, uses_joined P xs ys h.1 k)

uses_named : (P : NameUse → Type 0) (b n : ℕ) (names : List ℕ) → ((x : ℕ) → is_in x names ≡ true → P (record { name = x; block = b; line = n })) → AllByRecursion P (uses_at b n names)
uses_named P b n [] h = tt
uses_named P b n (x ∷ names) h = (h x (in_first x x names refl), uses_named P b n names (λ y t. h y (in_rest y x names t)))

uses_flat : {A : Type 0} (P : NameUse → Type 0) (h : A → List NameUse) (xs : List A) → ((i : ℕ) (x : A) → slice_get xs i ≡ Some x → AllByRecursion P (h x)) → AllByRecursion P (flat_map h xs)
uses_flat P h [] each = tt
uses_flat P h (x ∷ xs) each = uses_joined P (h x) (flat_map h xs) (each 0 x refl) (uses_flat P h xs (λ i y e. each (suc i) y e))

module _ (f : Function) (masks : ℕ → ℕ) (by : Choices) (used : ℕ → Bool) (known : Known f masks by.changed) (are_reached : AreReached f by.reached) (are_used : AreUsed (rewritten f masks by) (must_stay (rewritten f masks by)) used) where
  abbrev g : Function
  g = left used (rewritten f masks by)

  -- ---- what stands for an operand is defined where the operand is

  replaced_live : (place : Place) (v d : ℕ) (x : Operand) → IsReplaced f v d x → IsDefinedAtPlace f place v → ForName (λ u. IsDefinedAtPlace f place u) x
  replaced_live place v d x r live =
      let here : IsDefinedAtPlace f place r.result.0 = subst (IsDefinedAtPlace f place) (sym r.is_name) live in
      for_name (λ u. IsDefinedAtPlace f place u) x (λ u h.
      still_defined f r.number r.line r.inst r.result place u known.once known.defined r.at (beside_names f r.inst.op d x u r.beside h) here)

  standing_live : (place : Place) (n : ℕ) (a : Operand) → ForName (λ u. IsDefinedAtPlace f place u) a → ForName (λ u. IsDefinedAtPlace f place u) (standing f masks n a)
  unfolding standing
  standing_live place n (Operand.Literal c) live = tt
  standing_live place n Operand.Poison live = tt
  standing_live place zero (Operand.Value v) live = here (nat_eq (masks v.0) 0)
    where
      here : (t : Bool) → ForName (λ u. IsDefinedAtPlace f place u) (if t then Operand.Literal 0 else Operand.Value v)
      here true = tt
      here false = live
  standing_live place (suc n) (Operand.Value v) live = here (nat_eq (masks v.0) 0) (replacement f v.0 (masks v.0)) refl (λ x h. standing_live place n x h)
    where
      here : (t : Bool) (o : Option Operand) → replacement f v.0 (masks v.0) ≡ o →
          ((x : Operand) → ForName (λ u. IsDefinedAtPlace f place u) x → ForName (λ u. IsDefinedAtPlace f place u) (standing f masks n x)) →
          ForName (λ u. IsDefinedAtPlace f place u) (if t then Operand.Literal 0 else elim o [ None ↦ Operand.Value v | Some x ↦ standing f masks n x ])
      here true o e again = tt
      here false None e again = live
      here false (Some x) e again = again x (replaced_live place v.0 (masks v.0) x (replaced_by f v.0 (masks v.0) x e) live)

  -- ---- the same walks

  same_walk : (w : List ℕ) → IsWalk (left used (rewritten f masks by)) w → IsWalk f w
  same_walk [] h = h
  same_walk (b ∷ []) h = h
  same_walk (b ∷ (from ∷ rest)) h = (ap (is_in b) (sym (same_successors f masks by used from)) ∙ h.0, same_walk (from ∷ rest) h.1)

  reached_walk : (b : ℕ) (passed : List ℕ) → IsWalk (left used (rewritten f masks by)) (b ∷ passed) → by.reached b ≡ true
  reached_walk b passed h = (are_reached b).1 (record { passed = passed; walk = same_walk (b ∷ passed) h })

  -- a used name that a block of the function defines is defined in what is left of it
  results_used : (b x : ℕ) → used x ≡ true → is_in x (results_in f b) ≡ true → is_in x (results_in (left used (rewritten f masks by)) b) ≡ true
  results_used b x is t = here (slice_get f.blocks b) refl t
    where
      results : Option Block → List ℕ
      results o = elim o [ None ↦ [] | Some block ↦ block_ids block ]

      here : (o : Option Block) → slice_get f.blocks b ≡ o → is_in x (elim o [ None ↦ [] | Some block ↦ block_ids block ]) ≡ true → is_in x (results_in (left used (rewritten f masks by)) b) ≡ true
      here None e t = absurd (cc)
      here (Some block) e t =
          subst (λ o. is_in x (elim o [ None ↦ [] | Some c ↦ block_ids c ]) ≡ true)
          (sym (get_map (block_left used) (new_blocks f masks by 0 f.blocks) b (new_block f masks by b block) (block_at f masks by b block e)))
          (elim (in_cases x (map (λ (p : Phi). p.result.0) block.phis) (inst_ids block.insts) t) [
            | inl k ↦ in_left x (map (λ (p : Phi). p.result.0) (filter (λ (p : Phi). used p.result.0) (map (new_phi f masks by) block.phis))) _ (phi_left f masks by used known are_reached are_used block.phis x is k)
            | inr k ↦ in_right x (map (λ (p : Phi). p.result.0) (filter (λ (p : Phi). used p.result.0) (map (new_phi f masks by) block.phis))) _ (line_left f masks by used known are_reached are_used b block.insts x is k)
          ])

  over_used : (passed : List ℕ) (x : ℕ) → used x ≡ true → list_any (λ b. is_in x (results_in f b)) passed ≡ true → list_any (λ b. is_in x (results_in (left used (rewritten f masks by)) b)) passed ≡ true
  over_used [] x is t = t
  over_used (b ∷ rest) x is t = elim (or_cases (is_in x (results_in f b)) (list_any (λ c. is_in x (results_in f c)) rest) t) [
    | inl k ↦ or_left (is_in x (results_in (left used (rewritten f masks by)) b)) _ (results_used b x is k)
    | inr k ↦ or_right (is_in x (results_in (left used (rewritten f masks by)) b)) _ (over_used rest x is k)
  ]

  -- where it is before instruction i, it is before as many lines as are left of these
  pub moved_definition : (b : ℕ) (block : Block) (i x : ℕ) → slice_get f.blocks b ≡ Some block → used x ≡ true → (by.reached b ≡ true → IsDefinedAt f b i x) →
      IsDefinedAt (left used (rewritten f masks by)) b (length (filter (stays used) (map (new_line f masks by b) (take i block.insts)))) x
  moved_definition b block i x there is live passed walk =
      elim (or_cases (defined_over f passed x) (is_in x (results_before f b i)) (live (reached_walk b passed walk) passed (same_walk (b ∷ passed) walk))) [
        | inl o ↦ elim (or_cases (is_parameter f x) (list_any (λ c. is_in x (results_in f c)) passed) o) [
          | inl p ↦ or_left (defined_over (left used (rewritten f masks by)) passed x) _ (or_left (is_parameter f x) _ p)
          | inr k ↦ or_left (defined_over (left used (rewritten f masks by)) passed x) _ (or_right (is_parameter f x) _ (over_used passed x is k))
        ]
        | inr t ↦ or_right (defined_over (left used (rewritten f masks by)) passed x) _ (own t)
      ]
    where
      n : ℕ
      n = length (filter (stays used) (map (new_line f masks by b) (take i block.insts)))

      own : is_in x (results_before f b i) ≡ true →
          is_in x (results_before (left used (rewritten f masks by)) b (length (filter (stays used) (map (new_line f masks by b) (take i block.insts))))) ≡ true
      own t =
          let before : is_in x (map (λ (p : Phi). p.result.0) block.phis ++ inst_ids (take i block.insts)) ≡ true =
          subst (λ o. is_in x (elim o [ None ↦ [] | Some c ↦ map (λ (p : Phi). p.result.0) c.phis ++ inst_ids (take i c.insts) ]) ≡ true) there t in
          subst (λ o. is_in x (elim o [ None ↦ [] | Some c ↦ map (λ (p : Phi). p.result.0) c.phis ++ inst_ids (take (length (filter (stays used) (map (new_line f masks by b) (take i block.insts)))) c.insts) ]) ≡ true)
          (sym (get_map (block_left used) (new_blocks f masks by 0 f.blocks) b (new_block f masks by b block) (block_at f masks by b block there)))
          (elim (in_cases x (map (λ (p : Phi). p.result.0) block.phis) (inst_ids (take i block.insts)) before) [
            | inl k ↦ in_left x (map (λ (p : Phi). p.result.0) (filter (λ (p : Phi). used p.result.0) (map (new_phi f masks by) block.phis))) _ (phi_left f masks by used known are_reached are_used block.phis x is k)
            | inr k ↦ in_right x (map (λ (p : Phi). p.result.0) (filter (λ (p : Phi). used p.result.0) (map (new_phi f masks by) block.phis))) _
                (ap (λ l. is_in x (inst_ids l)) (taken_left (stays used) (new_line f masks by b) block.insts i) ∙ line_left f masks by used known are_reached are_used b (take i block.insts) x is k)
          ])

  module _ (b : ℕ) (block : Block) (there : slice_get f.blocks b ≡ Some block) where
    -- ---- lines

    called_live : (i : ℕ) (inst : Inst) (width : Option ℕ) (place : ℕ) → IsLine f b block i inst → inst.op ≡ Op.Call width place → by.reached b ≡ true →
        (o : Option CallOp) → slice_get f.calls place ≡ o → (x : ℕ) → is_in x (op_names (rewritten f masks by) (Op.Call width place)) ≡ true → IsDefinedAt f b i x
    called_live i inst width place line is r None e x t = absurd (none_called e t)
      where
        none_called : slice_get f.calls place ≡ None → is_in x (op_names (rewritten f masks by) (Op.Call width place)) ≡ true → ⊥
        none_called e t =
            let names = subst (λ o. is_in x (elim o [ None ↦ [] | Some c ↦ flat_map (λ d. operand_names d.value) c.args ]) ≡ true) (no_call e) t in cc
          where
            no_calls : (calls : List CallOp) (n k : ℕ) → slice_get calls k ≡ None → slice_get (new_calls f masks by n calls) k ≡ None
            no_calls [] n k e = refl
            no_calls (c ∷ calls) n zero e = absurd (cc)
            no_calls (c ∷ calls) n (suc k) e = no_calls calls (suc n) k e

            no_call : slice_get f.calls place ≡ None → slice_get (new_calls f masks by 0 f.calls) place ≡ None
            no_call e = no_calls f.calls 0 place e
    called_live i inst width place line is r (Some call) e x t =
        let names : is_in x (flat_map (λ (d : CallArg). operand_names d.value) (map (new_argument (put_for f masks (is_reached_call by place 0 f.blocks))) call.args)) ≡ true =
        subst (λ o. is_in x (elim o [ None ↦ [] | Some c ↦ flat_map (λ d. operand_names d.value) c.args ]) ≡ true) (call_at f masks by place call e) t in
        let k = out_flat (λ (d : CallArg). operand_names d.value) (map (new_argument (put_for f masks (is_reached_call by place 0 f.blocks))) call.args) x names in
        let m = mapped_at (new_argument (put_for f masks (is_reached_call by place 0 f.blocks))) call.args k.place k.from k.there in
        let name : is_in x (operand_names (put_for f masks (is_reached_call by place 0 f.blocks) m.from.value)) ≡ true =
        subst (λ (d : CallArg). is_in x (operand_names d.value) ≡ true) (sym m.is) k.inside in
        let stands : is_in x (operand_names (standing f masks (length f.values) m.from.value)) ≡ true =
        subst (λ s. is_in x (operand_names (put_for f masks s m.from.value)) ≡ true) (reached_call f masks by b block i inst width place line is r) name in
        name_of (λ u. IsDefinedAt f b i u) (standing f masks (length f.values) m.from.value) x
        (standing_live (At b i) (length f.values) m.from.value (for_name (λ u. IsDefinedAt f b i u) m.from.value (λ u h.
        use_is_defined f b block i inst u known.defined line
        (subst (λ o. is_in u (op_names f o) ≡ true) (sym is)
        (subst (λ o. is_in u (elim o [ None ↦ [] | Some c ↦ flat_map (λ d. operand_names d.value) c.args ]) ≡ true) (sym e)
        (in_flat (λ (d : CallArg). operand_names d.value) call.args k.place m.from u m.there h)))))) stands

    line_live : (i : ℕ) (inst : Inst) → IsLine f b block i inst → by.reached b ≡ true → (x : ℕ) → is_in x (op_names (rewritten f masks by) (new_operation f masks by b inst)) ≡ true → IsDefinedAt f b i x
    line_live i inst line r x t = here (is_call inst.op) refl
      where
        here : (s : Bool) → is_call inst.op ≡ s → IsDefinedAt f b i x
        here false plain = put_names f (λ u. IsDefinedAt f b i u) (standing f masks (length f.values)) (λ a h. standing_live (At b i) (length f.values) a h) inst.op x plain
            (λ u h. use_is_defined f b block i inst u known.defined line h)
            (subst (λ xs. is_in x xs ≡ true) (new_names f masks by used known are_reached are_used b block i inst line plain r) t)
        here true e =
            let c = call_of inst.op e in
            let new_is : new_operation f masks by b inst ≡ Op.Call c.width c.place =
            ap (λ o. with_operands (put_for f masks (by.reached b)) (lost_flags (has_changed f by.changed o) (narrowed_cast o (result_mask masks inst)))) c.is
            ∙ lost_call (has_changed f by.changed (Op.Call c.width c.place)) (put_for f masks (by.reached b)) c.width c.place in
            called_live i inst c.width c.place line c.is r (slice_get f.calls c.place) refl x (subst (λ o. is_in x (op_names (rewritten f masks by) o) ≡ true) new_is t)

    lines_defined : (rest : List Inst) (i n : ℕ) → n ≡ length (filter (stays used) (map (new_line f masks by b) (take i block.insts))) →
        ((j : ℕ) (inst : Inst) → slice_get rest j ≡ Some inst → slice_get block.insts (i + j) ≡ Some inst) →
        AllByRecursion (UseIsDefined (left used (rewritten f masks by))) (inst_uses (left used (rewritten f masks by)) b n (filter (stays used) (map (new_line f masks by b) rest)))
    lines_defined [] i n e at = tt
    lines_defined (inst ∷ rest) i n e at =
        let stands : slice_get block.insts i ≡ Some inst = subst (λ k. slice_get block.insts k ≡ Some inst) (plus_zero i) (at 0 inst refl) in
        here (stays used (new_line f masks by b inst)) refl (record { there = there; stands = stands })
        (one_taken (stays used) (new_line f masks by b) block.insts i inst stands)
        (λ m k. lines_defined rest (suc i) m k (λ j other is. subst (λ k. slice_get block.insts k ≡ Some other) (plus_suc i j) (at (suc j) other is)))
      where
        plus_zero : (k : ℕ) → k + 0 ≡ k
        plus_zero k = omega arith

        plus_suc : (k j : ℕ) → k + suc j ≡ suc k + j
        plus_suc k j = omega arith

        here : (t : Bool) → stays used (new_line f masks by b inst) ≡ t → IsLine f b block i inst →
            length (filter (stays used) (map (new_line f masks by b) (take (suc i) block.insts)))
            ≡ cond (stays used (new_line f masks by b inst)) (suc (length (filter (stays used) (map (new_line f masks by b) (take i block.insts))))) (length (filter (stays used) (map (new_line f masks by b) (take i block.insts)))) →
            ((m : ℕ) → m ≡ length (filter (stays used) (map (new_line f masks by b) (take (suc i) block.insts))) →
            AllByRecursion (UseIsDefined (left used (rewritten f masks by))) (inst_uses (left used (rewritten f masks by)) b m (filter (stays used) (map (new_line f masks by b) rest)))) →
            AllByRecursion (UseIsDefined (left used (rewritten f masks by)))
            (inst_uses (left used (rewritten f masks by)) b n (cond t (new_line f masks by b inst ∷ filter (stays used) (map (new_line f masks by b) rest)) (filter (stays used) (map (new_line f masks by b) rest))))
        here true stay line count later =
            let counted = count ∙ ap (λ s. cond s (suc (length (filter (stays used) (map (new_line f masks by b) (take i block.insts))))) (length (filter (stays used) (map (new_line f masks by b) (take i block.insts))))) stay in
            uses_joined (UseIsDefined (left used (rewritten f masks by))) (uses_at b n (op_names (left used (rewritten f masks by)) (new_operation f masks by b inst))) _
            (uses_named (UseIsDefined (left used (rewritten f masks by))) b n (op_names (left used (rewritten f masks by)) (new_operation f masks by b inst)) (λ x t.
            let name : is_in x (op_names (rewritten f masks by) (new_operation f masks by b inst)) ≡ true = subst (λ xs. is_in x xs ≡ true) (names_left used (rewritten f masks by) (new_operation f masks by b inst)) t in
            subst (λ k. IsDefinedAt (left used (rewritten f masks by)) b k x) (sym e)
            (moved_definition b block i x there (used_names f masks by used known are_reached are_used b block i inst line stay x name) (λ r. line_live i inst line r x name))))
            (later (n + 1) (add-one n ∙ ap suc e ∙ sym counted))
        here false gone line count later =
            let counted = count ∙ ap (λ s. cond s (suc (length (filter (stays used) (map (new_line f masks by b) (take i block.insts))))) (length (filter (stays used) (map (new_line f masks by b) (take i block.insts))))) gone in
            later n (e ∙ sym counted)

    -- ---- the end of the block

    all_lines : length (filter (stays used) (map (new_line f masks by b) (take (length block.insts) block.insts))) ≡ length (filter (stays used) (map (new_line f masks by b) block.insts))
    all_lines = ap (λ l. length (filter (stays used) (map (new_line f masks by b) l))) (take_all (length block.insts) block.insts (le_refl (length block.insts)))

    at_end : (x : ℕ) → used x ≡ true → (by.reached b ≡ true → IsDefinedAt f b (length block.insts) x) →
        IsDefinedAt (left used (rewritten f masks by)) b (length (filter (stays used) (map (new_line f masks by b) block.insts))) x
    at_end x is live = subst (λ k. IsDefinedAt (left used (rewritten f masks by)) b k x) all_lines (moved_definition b block (length block.insts) x there is live)

    term_live : by.reached b ≡ true → (x : ℕ) → is_in x (term_names (with_operand (put_for f masks (by.reached b)) block.term)) ≡ true → IsDefinedAt f b (length block.insts) x
    term_live r x t = put_term_names f (λ u. IsDefinedAt f b (length block.insts) u) (standing f masks (length f.values)) (λ a h. standing_live (At b (length block.insts)) (length f.values) a h) block.term x
        (λ u h. term_defined f known.defined b block there u h)
        (subst (λ s. is_in x (term_names (with_operand (put_for f masks s) block.term)) ≡ true) r t)

    term_is_defined : AllByRecursion (UseIsDefined (left used (rewritten f masks by)))
        (uses_at b (length (filter (stays used) (map (new_line f masks by b) block.insts))) (term_names (with_operand (put_for f masks (by.reached b)) block.term)))
    term_is_defined = uses_named (UseIsDefined (left used (rewritten f masks by))) b _ (term_names (with_operand (put_for f masks (by.reached b)) block.term)) (λ x t.
        at_end x ((are_used x).1 (by_terminator b (new_block f masks by b block) x (block_at f masks by b block there) t)) (λ r. term_live r x t))

  -- ---- phis

  count_of : (b : ℕ) (block : Block) → slice_get f.blocks b ≡ Some block → line_count (left used (rewritten f masks by)) b ≡ length (filter (stays used) (map (new_line f masks by b) block.insts))
  count_of b block there = ap lines_in (get_map (block_left used) (new_blocks f masks by 0 f.blocks) b (new_block f masks by b block) (block_at f masks by b block there))
    where
      lines_in : Option Block → ℕ
      lines_in o = elim o [ None ↦ 0 | Some c ↦ length c.insts ]

  old_count : (b : ℕ) (block : Block) → slice_get f.blocks b ≡ Some block → line_count f b ≡ length block.insts
  old_count b block there = ap lines_in there
    where
      lines_in : Option Block → ℕ
      lines_in o = elim o [ None ↦ 0 | Some c ↦ length c.insts ]

  get_some : {A : Type 0} (xs : List A) (k : ℕ) → k < length xs → (x : A) × (slice_get xs k ≡ Some x)
  get_some [] k l = absurd (omega arith)
  get_some (x ∷ xs) zero l = (x, refl)
  get_some (x ∷ xs) (suc k) l = get_some xs k (omega arith)

  entry_is_defined : (b : ℕ) (block : Block) (j : ℕ) (phi : Phi) (k : ℕ) (e : Operand × BlockId) (x : ℕ) → slice_get f.blocks b ≡ Some block → slice_get block.phis j ≡ Some phi →
      used phi.result.0 ≡ true → slice_get phi.entries k ≡ Some e → is_in x (operand_names (put_for f masks (by.reached e.1.0) e.0)) ≡ true →
      IsDefinedAt (left used (rewritten f masks by)) e.1.0 (line_count (left used (rewritten f masks by)) e.1.0) x
  entry_is_defined b block j phi k e x there stands is at t =
      let printable = all_at (PrintablePhi f) block.phis j phi (all_at (PrintableBlock f) f.blocks b block known.printable.blocks there).phis stands in
      let below = (all_at (λ (d : Operand × BlockId). IsOperand f phi.width d.0 × IsBlock f d.1) phi.entries k e printable.entries at).1 in
      let from = get_some f.blocks e.1.0 below in
      let is_used : used x ≡ true = (are_used x).1 (by_phi b (new_block f masks by b block) j (new_phi f masks by phi) k (new_entry f masks by e) x (block_at f masks by b block there)
      (get_map (new_phi f masks by) block.phis j phi stands) ((are_used phi.result.0).0 is) (get_map (new_entry f masks by) phi.entries k e at) t) in
      subst (λ n. IsDefinedAt (left used (rewritten f masks by)) e.1.0 n x) (sym (count_of e.1.0 from.0 from.1))
      (at_end e.1.0 from.0 from.1 x is_used (λ r.
      subst (λ n. IsDefinedAt f e.1.0 n x) (old_count e.1.0 from.0 from.1)
      (name_of (λ u. IsDefinedAt f e.1.0 (line_count f e.1.0) u) (standing f masks (length f.values) e.0) x
      (standing_live (Into (Some e.1.0) b) (length f.values) e.0 (for_name (λ u. IsDefinedAt f e.1.0 (line_count f e.1.0) u) e.0 (λ u h. entry_defined f known.defined b block there j phi k e u stands at h)))
      (subst (λ s. is_in x (operand_names (put_for f masks s e.0)) ≡ true) r t))))

  block_is_defined : (b : ℕ) (block : Block) → slice_get f.blocks b ≡ Some block →
      AllByRecursion (UseIsDefined (left used (rewritten f masks by))) (block_uses (left used (rewritten f masks by)) b (block_left used (new_block f masks by b block)))
  block_is_defined b block there =
      uses_joined (UseIsDefined (left used (rewritten f masks by))) (flat_map (phi_uses (left used (rewritten f masks by))) (filter (λ (p : Phi). used p.result.0) (map (new_phi f masks by) block.phis))) _
      (uses_flat (UseIsDefined (left used (rewritten f masks by))) (phi_uses (left used (rewritten f masks by))) (filter (λ (p : Phi). used p.result.0) (map (new_phi f masks by) block.phis)) (λ j phi' e.
      let l = left_at (λ (p : Phi). used p.result.0) (new_phi f masks by) block.phis j phi' e in
      subst (λ (p : Phi). AllByRecursion (UseIsDefined (left used (rewritten f masks by))) (phi_uses (left used (rewritten f masks by)) p)) l.is
      (uses_flat (UseIsDefined (left used (rewritten f masks by))) (λ (d : Operand × BlockId). uses_at d.1.0 (line_count (left used (rewritten f masks by)) d.1.0) (operand_names d.0)) (map (new_entry f masks by) l.from.entries) (λ k d' at.
      let m = mapped_at (new_entry f masks by) l.from.entries k d' at in
      subst (λ (d : Operand × BlockId). AllByRecursion (UseIsDefined (left used (rewritten f masks by))) (uses_at d.1.0 (line_count (left used (rewritten f masks by)) d.1.0) (operand_names d.0))) m.is
      (uses_named (UseIsDefined (left used (rewritten f masks by))) m.from.1.0 (line_count (left used (rewritten f masks by)) m.from.1.0) (operand_names (put_for f masks (by.reached m.from.1.0) m.from.0)) (λ x t.
      entry_is_defined b block l.place l.from k m.from x there l.there l.kept m.there t))))))
      (uses_joined (UseIsDefined (left used (rewritten f masks by))) (inst_uses (left used (rewritten f masks by)) b 0 (filter (stays used) (map (new_line f masks by b) block.insts))) _
      (lines_defined b block there block.insts 0 0 refl (λ j inst e. subst (λ k. slice_get block.insts k ≡ Some inst) (zero_plus j) e))
      (term_is_defined b block there))
    where
      zero_plus : (j : ℕ) → j ≡ 0 + j
      zero_plus j = omega arith

  blocks_defined : (blocks : List Block) (n : ℕ) → ((j : ℕ) (c : Block) → slice_get blocks j ≡ Some c → slice_get f.blocks (n + j) ≡ Some c) →
      AllByRecursion (UseIsDefined (left used (rewritten f masks by))) (uses_from (left used (rewritten f masks by)) n (map (block_left used) (new_blocks f masks by n blocks)))
  blocks_defined [] n at = tt
  blocks_defined (c ∷ blocks) n at =
      uses_joined (UseIsDefined (left used (rewritten f masks by))) (block_uses (left used (rewritten f masks by)) n (block_left used (new_block f masks by n c))) _
      (block_is_defined n c (subst (λ k. slice_get f.blocks k ≡ Some c) (plus_zero n) (at 0 c refl)))
      (subst (λ k. AllByRecursion (UseIsDefined (left used (rewritten f masks by))) (uses_from (left used (rewritten f masks by)) k (map (block_left used) (new_blocks f masks by (suc n) blocks)))) (sym (add-one n))
      (blocks_defined blocks (suc n) (λ j d e. subst (λ k. slice_get f.blocks k ≡ Some d) (plus_suc n j) (at (suc j) d e))))
    where
      plus_zero : (k : ℕ) → k + 0 ≡ k
      plus_zero k = omega arith

      plus_suc : (k j : ℕ) → k + suc j ≡ suc k + j
      plus_suc k j = omega arith

  pub left_defined : Defined (left used (rewritten f masks by))
  left_defined = All-from_recursion (UseIsDefined (left used (rewritten f masks by))) (uses_from (left used (rewritten f masks by)) 0 (map (block_left used) (new_blocks f masks by 0 f.blocks)))
      (blocks_defined f.blocks 0 (λ j c e. subst (λ k. slice_get f.blocks k ≡ Some c) (zero_plus j) e))
    where
      zero_plus : (j : ℕ) → j ≡ 0 + j
      zero_plus j = omega arith
