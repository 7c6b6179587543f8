-- The changed names are those that the first ones lead to.
use Rattle.std.proofs.Common.{◌≡◌, Result, Ok, Err, IfOk, ℕ, zero, suc, ◌+◌, ◌<◌, ◌≤◌, Bool, true, false, cond, ◌&&◌, nat_eq, Option, Some, None, List, [], ◌∷◌, ◌++◌, flat_map, filter, get_or, replicate, length, ◌↔◌, refl, sym, ap, ◌∙◌, subst, inl, inr, ◌⊎◌, arith, append-nil, append_assoc}
use Rattle.std.specs.Prelude.{slice_index_or}
use Rattle.std.specs.List.{range_with_len}
use Rattle.std.proofs.lemmas.Bool.{cases_lt, eq-eqb, eqb-true}
use Rattle.std.proofs.lemmas.List.{get_or_past, get_or-replicate, get_or_default, length-replicate}
use Rattle.vfa_ir.specs.declared.operations.ValueId.{ValueId}
use Rattle.vfa_ir.specs.declared.functions.Block.{Block}
use Rattle.vfa_ir.specs.declared.functions.Function.{Function}
use Rattle.vfa_ir.specs.declared.functions.Inst.{Inst}
use Rattle.vfa_ir.specs.Walks.{is_in}
use Rattle.vfa_check.specs.Within.{IsWithin}
use Rattle.vfa_mean.specs.Kept.{is_marked}
use Rattle.vfa_mean.specs.Moments.{IsLine}
use Rattle.vfa_mean.proofs.FreshOperands.Definitions.{in_left, in_right, in_cases, in_first, in_rest, first_or_rest}
use Rattle.vfa_mean.proofs.KeptParts.{from_filter, from_range, to_filter, to_range}
use Rattle.vfa_demand.specs.Behind.{AreNamesBehind, ArePut}
use Rattle.vfa_demand.specs.Reach.{IsLedTo, at_first, by_step}
use Rattle.vfa_demand.specs.Used.{UsesItsValues}
use Rattle.vfa_demand.proofs.Members.{in_joined, out_joined}
use Rattle.vfa_demand.proofs.UsedNames.{IsBehind, in_line, in_phi, behind_is, behind_below, line_below, out_behind, phi_below}
use Rattle.vfa_bits.specs.Changed.{AreChanged, IsChanged, by_entry, by_operand, by_replacement, by_sign, has_unseen_sign, is_replaced, is_short}
use Rattle.vfa_bits.specs.Choosing.{is_changed_in}
use Rattle.vfa_bits.specs.Users.{changed_sign, changes_replaced, changes_with, first_changed, sign_of, signs_of, user_among, users_below}
use Rattle.vfa_bits.proofs.ResultsBelow as results

-- ---- members of lists

both_of : (a b : Bool) → (a && b) ≡ true → (a ≡ true) × (b ≡ true)
both_of true b t = (refl, t)
both_of false b t = absurd (cc)

and_of : (a b : Bool) → a ≡ true → b ≡ true → (a && b) ≡ true
and_of true b s t = t
and_of false b s t = absurd (cc)

record IsFrom (g : ℕ → List ℕ) (a n w : ℕ) : Type 0 where
  pub from : ℕ
  pub below : from < a + n
  pub inside : is_in w (g from) ≡ true

out_range : (g : ℕ → List ℕ) (a n w : ℕ) → is_in w (flat_map g (range_with_len a n)) ≡ true → IsFrom g a n w
out_range g a zero w t = absurd (cc)
out_range g a (suc n) w t = elim (in_cases w (g a) (flat_map g (range_with_len (a + 1) n)) t) [
  | inl u ↦ record { from = a; below = omega arith; inside = u }
  | inr u ↦ let r = out_range g (a + 1) n w u in let l = r.below in record { from = r.from; below = omega (arith, l); inside = r.inside }
]

in_range : (g : ℕ → List ℕ) (a n v w : ℕ) → a ≤ v → v < a + n → is_in w (g v) ≡ true → is_in w (flat_map g (range_with_len a n)) ≡ true
in_range g a zero v w low high t = absurd (omega (arith, low, high))
in_range g a (suc n) v w low high t = by (cases_lt a v) (λ less. in_range g (a + 1) n v w (omega (arith, less)) (omega (arith, high)) t)
  where
    by : (a < v) ⊎ (v ≤ a) → (a < v → is_in w (flat_map g (range_with_len (a + 1) n)) ≡ true) → is_in w (flat_map g (range_with_len a (suc n))) ≡ true
    by (inl less) later = in_right w (g a) (flat_map g (range_with_len (a + 1) n)) (later less)
    by (inr past) later =
        let same : v ≡ a = omega (arith, low, past) in
        in_left w (g a) (flat_map g (range_with_len (a + 1) n)) (subst (λ k. is_in w (g k) ≡ true) same t)

-- ---- the users of a name

out_user : (user : ℕ) (names : List ℕ) (x w : ℕ) → is_in w (user_among user names x) ≡ true → (w ≡ user) × (is_in x names ≡ true)
out_user user [] x w t = absurd (cc)
out_user user (n ∷ names) x w t = by (nat_eq n x) refl t (out_user user names x w)
  where
    by : (b : Bool) → nat_eq n x ≡ b → is_in w (cond b (user ∷ []) [] ++ user_among user names x) ≡ true →
        (is_in w (user_among user names x) ≡ true → (w ≡ user) × (is_in x names ≡ true)) → (w ≡ user) × (is_in x (n ∷ names) ≡ true)
    by true e t again = elim (first_or_rest w user (user_among user names x) t) [
      | inl same ↦ (same, in_first x n names (sym (eqb-true n x e)))
      | inr u ↦ let r = again u in (r.0, in_rest x n names r.1)
    ]
    by false e t again = let r = again t in (r.0, in_rest x n names r.1)

in_user : (user : ℕ) (names : List ℕ) (x : ℕ) → is_in x names ≡ true → is_in user (user_among user names x) ≡ true
in_user user [] x t = absurd (cc)
in_user user (n ∷ names) x t = elim (first_or_rest x n names t) [
  | inl e ↦
      subst (λ b. is_in user (cond b (user ∷ []) [] ++ user_among user names x) ≡ true) (sym (eq-eqb n x (sym e)))
      (in_first user user (user_among user names x) refl)
  | inr u ↦ in_right user (cond (nat_eq n x) (user ∷ []) []) (user_among user names x) (in_user user names x u)
]

last_of_range : (g : ℕ → List ℕ) (a n : ℕ) → flat_map g (range_with_len a (suc n)) ≡ flat_map g (range_with_len a n) ++ g (a + n)
last_of_range g a zero = append-nil (g a) ∙ ap g (omega arith)
last_of_range g a (suc n) =
    let same : a + 1 + n ≡ a + suc n = omega arith in
    ap (λ l. g a ++ l) (last_of_range g (a + 1) n ∙ ap (λ k. flat_map g (range_with_len (a + 1) n) ++ g k) same)
    ∙ sym (append_assoc (g a) (flat_map g (range_with_len (a + 1) n)) (g (a + suc n)))

-- one value more
pub users_more : (f : Function) (masks : ℕ → ℕ) (behind : List (List ℕ)) (n : ℕ) (a b c : List (List ℕ)) → ArePut (users_below f masks behind n) a b →
    ArePut (λ x. changes_with f masks behind x n) b c → ArePut (users_below f masks behind (n + 1)) a c
users_more f masks behind n a b c one two = record {
  whole = two.whole ∙ one.whole;
  each = λ x l.
      let first : 0 + n ≡ n = omega arith in
      let next : n + 1 ≡ suc n = omega arith in
      two.each x (subst (λ k. x < k) (sym one.whole) l)
      ∙ ap (λ m. m ++ changes_with f masks behind x n) (one.each x l)
      ∙ append_assoc (get_or a x []) (users_below f masks behind n x) (changes_with f masks behind x n)
      ∙ ap (λ m. get_or a x [] ++ m)
      (ap (λ k. users_below f masks behind n x ++ changes_with f masks behind x k) (sym first)
      ∙ sym (last_of_range (changes_with f masks behind x) 0 n)
      ∙ ap (λ k. users_below f masks behind k x) (sym next));
}

pub ok_both : {X E : Type 0} (P Q R : X → Type 0) (r : Result X E) → ((x : X) → P x → Q x → R x) → IfOk r P → IfOk r Q → IfOk r R
ok_both P Q R (Ok x) f p q = f x p q
ok_both P Q R (Err e) f p q = tt

module _ (f : Function) (masks : ℕ → ℕ) (within : IsWithin f) (own : UsesItsValues f) (behind : List (List ℕ)) (are : AreNamesBehind f behind) where
  record IsUserOf (x w : ℕ) : Type 0 where
    pub short : is_short f masks w ≡ true
    pub uses : IsBehind f w x
    pub below : w < length f.values

  out_users : (x w : ℕ) → is_in w (users_below f masks behind (length behind) x) ≡ true → IsUserOf x w
  out_users x w t =
      let r = out_range (changes_with f masks behind x) 0 (length behind) w t in
      by r.from (let l = r.below in omega (arith, l, are.whole)) (is_short f masks r.from) refl r.inside
    where
      by : (v : ℕ) → v < length f.values → (b : Bool) → is_short f masks v ≡ b → is_in w (cond b (user_among v (get_or behind v []) x) []) ≡ true → IsUserOf x w
      by v l true short t =
          let r = out_user v (get_or behind v []) x w t in
          subst (IsUserOf x) (sym r.0) (record { short = short; uses = out_behind f (λ b i. false) behind are v x r.1; below = l })
      by v l false short t = absurd (cc)

  in_users : (x w : ℕ) → w < length f.values → is_short f masks w ≡ true → IsBehind f w x → is_in w (users_below f masks behind (length behind) x) ≡ true
  in_users x w below short is =
      in_range (changes_with f masks behind x) 0 (length behind) w w (omega arith) (omega (arith, below, are.whole))
      (subst (λ b. is_in w (cond b (user_among w (get_or behind w []) x) []) ≡ true) (sym short)
      (in_user w (get_or behind w []) x (subst (λ l. is_in x l ≡ true) (sym (are.each w below)) (behind_is f w x is))))

  module _ (users : List (List ℕ)) (put : ArePut (users_below f masks behind (length behind)) (replicate (length behind) []) users) where
    pub users_length : length users ≡ length f.values
    users_length = put.whole ∙ length-replicate (length behind) [] ∙ are.whole

    users_at : (x : ℕ) → x < length f.values → get_or users x [] ≡ users_below f masks behind (length behind) x
    users_at x below =
        let inside : x < length behind = omega (arith, below, are.whole) in
        put.each x (subst (λ k. x < k) (sym (length-replicate (length behind) [])) inside)
        ∙ ap (λ l. l ++ users_below f masks behind (length behind) x) (get_or-replicate (length behind) x [] [] inside)

    out_leads : (x w : ℕ) → is_in w (get_or users x []) ≡ true → IsUserOf x w
    out_leads x w t = by (cases_lt x (length f.values))
      where
        by : (x < length f.values) ⊎ (length f.values ≤ x) → IsUserOf x w
        by (inl below) = out_users x w (subst (λ l. is_in w l ≡ true) (users_at x below) t)
        by (inr past) =
            let none : get_or users x [] ≡ [] = get_or_past users x [] (omega (arith, past, users_length)) in
            absurd (let h = subst (λ l. is_in w l ≡ true) none t in cc)

    pub leads_within : (x w : ℕ) → is_in w (get_or users x []) ≡ true → w < length users
    leads_within x w t = let l = (out_leads x w t).below in omega (arith, l, users_length)

    -- ---- the first ones

    of_sign : (b : ℕ) (block : Block) (i : ℕ) (inst : Inst) (v : ℕ) → IsLine f b block i inst → (o : Option ValueId) → inst.result ≡ o →
        is_in v (changed_sign f masks inst o) ≡ true → IsChanged f masks v × (v < length f.values)
    of_sign b block i inst v line None result t = absurd (cc)
    of_sign b block i inst v line (Some name) result t = by (is_short f masks name.0 && has_unseen_sign inst.op (masks name.0)) refl t
      where
        by : (s : Bool) → (is_short f masks name.0 && has_unseen_sign inst.op (masks name.0)) ≡ s → is_in v (cond s (name.0 ∷ []) []) ≡ true → IsChanged f masks v × (v < length f.values)
        by true is t = elim (first_or_rest v name.0 [] t) [
          | inl e ↦
              let h = both_of (is_short f masks name.0) (has_unseen_sign inst.op (masks name.0)) is in
              subst (λ k. IsChanged f masks k × (k < length f.values)) (sym e)
              (by_sign b block i inst name line result h.0 h.1, results.result_below f within b block i inst name line result)
          | inr u ↦ absurd (cc)
        ]
        by false is t = absurd (cc)

    first_is : (v : ℕ) → is_in v (first_changed f masks) ≡ true → IsChanged f masks v × (v < length f.values)
    first_is v t = elim (in_cases v (filter (changes_replaced f masks) (range_with_len 0 (length f.values))) (flat_map (signs_of f masks) f.blocks) t) [
      | inl u ↦
          let r = from_filter (changes_replaced f masks) v (range_with_len 0 (length f.values)) u in
          let h = both_of (is_short f masks v) (is_replaced f masks v) r.kept in
          let l = from_range 0 (length f.values) v r.among in
          (by_replacement v h.0 h.1, omega (arith, l))
      | inr u ↦
          let r = out_joined (signs_of f masks) f.blocks v u in
          let i = out_joined (sign_of f masks) r.from.insts v r.inside in
          of_sign r.place r.from i.place i.from v (record { there = r.there; stands = i.there }) i.from.result refl i.inside
    ]

    pub first_within : (v : ℕ) → is_in v (first_changed f masks) ≡ true → v < length users
    first_within v t = let l = (first_is v t).1 in omega (arith, l, users_length)

    replaced_first : (v : ℕ) → v < length f.values → is_short f masks v ≡ true → is_replaced f masks v ≡ true → is_in v (first_changed f masks) ≡ true
    replaced_first v below short is =
        in_left v (filter (changes_replaced f masks) (range_with_len 0 (length f.values))) (flat_map (signs_of f masks) f.blocks)
        (to_filter (changes_replaced f masks) v (range_with_len 0 (length f.values)) (and_of (is_short f masks v) (is_replaced f masks v) short is)
        (to_range 0 (length f.values) v (omega arith) (omega (arith, below))))

    sign_first : (b : ℕ) (block : Block) (i : ℕ) (inst : Inst) (v : ValueId) → IsLine f b block i inst → inst.result ≡ Some v →
        is_short f masks v.0 ≡ true → has_unseen_sign inst.op (masks v.0) ≡ true → is_in v.0 (first_changed f masks) ≡ true
    sign_first b block i inst v line result short is =
        in_right v.0 (filter (changes_replaced f masks) (range_with_len 0 (length f.values))) (flat_map (signs_of f masks) f.blocks)
        (in_joined (signs_of f masks) f.blocks b block v.0 line.there
        (in_joined (sign_of f masks) block.insts i inst v.0 line.stands
        (subst (λ o. is_in v.0 (changed_sign f masks inst o) ≡ true) (sym result)
        (subst (λ t. is_in v.0 (cond t (v.0 ∷ []) []) ≡ true) (sym (and_of (is_short f masks v.0) (has_unseen_sign inst.op (masks v.0)) short is))
        (in_first v.0 v.0 [] refl)))))

    -- ---- what they lead to

    changed_with : (x w : ℕ) → IsChanged f masks x → is_short f masks w ≡ true → IsBehind f w x → IsChanged f masks w
    changed_with x w changed short (in_line b block i inst name line result same t) =
        subst (IsChanged f masks) same (by_operand b block i inst name x line result (subst (λ k. is_short f masks k ≡ true) (sym same) short) t changed)
    changed_with x w changed short (in_phi b block j phi k entry there stands same at t) =
        subst (IsChanged f masks) same (by_entry b block j phi k entry x there stands at (subst (λ k. is_short f masks k ≡ true) (sym same) short) t changed)

    led_changed : (v : ℕ) → IsLedTo (first_changed f masks) users v → IsChanged f masks v
    led_changed _ (at_first v t) = (first_is v t).0
    led_changed _ (by_step v w led t) = let u = out_leads v w t in changed_with v w (led_changed v led) u.short u.uses

    step : (x w : ℕ) → w < length f.values → is_short f masks w ≡ true → IsBehind f w x → IsLedTo (first_changed f masks) users x → IsLedTo (first_changed f masks) users w
    step x w below short is led =
        by_step x w led (subst (λ l. is_in w l ≡ true) (sym (users_at x (behind_below f own w x is))) (in_users x w below short is))

    changed_led : (v : ℕ) → v < length f.values → IsChanged f masks v → IsLedTo (first_changed f masks) users v
    changed_led _ below (by_replacement v short is) = at_first v (replaced_first v below short is)
    changed_led _ below (by_sign b block i inst v line result short is) = at_first v.0 (sign_first b block i inst v line result short is)
    changed_led _ below (by_operand b block i inst v x line result short t changed) =
        step x v.0 below short (in_line b block i inst v line result refl t) (changed_led x (line_below f own b block i inst x line t) changed)
    changed_led _ below (by_entry b block j phi k entry x there stands at short t changed) =
        step x phi.result.0 below short (in_phi b block j phi k entry there stands refl at t) (changed_led x (phi_below f own b block j phi k entry x there stands at t) changed)

    pub are_changed : (marks : List Bool) → length marks ≡ length users → ((v : ℕ) → length f.values ≤ v → IsChanged f masks v) →
        ((v : ℕ) → (is_marked marks v ≡ true) ↔ IsLedTo (first_changed f masks) users v) → AreChanged f masks (is_changed_in marks)
    are_changed marks whole beyond found v = by (cases_lt v (length f.values))
      where
        by : (v < length f.values) ⊎ (length f.values ≤ v) → (is_changed_in marks v ≡ true) ↔ IsChanged f masks v
        by (inl below) =
            let same : slice_index_or marks v true ≡ slice_index_or marks v false = get_or_default marks v true false (omega (arith, below, whole, users_length)) in (
              (λ t. led_changed v ((found v).0 (sym same ∙ t))),
              (λ changed. same ∙ (found v).1 (changed_led v below changed)),
            )
        by (inr past) = (
          (λ t. beyond v past),
          (λ changed. get_or_past marks v true (omega (arith, past, whole, users_length))),
        )
