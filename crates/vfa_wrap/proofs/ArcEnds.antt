use Rattle.std.proofs.Common.{◌≡◌, refl, sym, ◌∙◌, ap, ℕ, zero, suc, ◌+◌, ◌-◌, ◌%◌, ◌^◌, ◌<◌, ◌≤◌, Bool, arith, pow-suc}
use Rattle.std.proofs.lemmas.Bool.{lt-ltb}
use Rattle.std.proofs.lemmas.Nat.{mod_below}
use Rattle.std.proofs.Math.Nat.{mod-add-mod, add-mod_right, mod-eq_of_lt}
use Rattle.vfa_dom.specs.Search.{least_below, greatest_below}
use Rattle.vfa_dom.proofs.Searches.{least_is, greatest_is, some_alike}
use Rattle.vfa_wrap.specs.Arc.{Span, steps, in_span}
use Rattle.vfa_wrap.specs.Places.{in_signed_order}
use Rattle.vfa_wrap.proofs.Circle.{outside, steps_is, in_to, wrapped_sum}

-- where the arc does not pass the top its ends are its least and greatest numbers, else these are those of the width
pub least_whole : (w : ℕ) (s : Span) → s.first < 2 ^ w → s.last < 2 ^ w → s.first ≤ s.last → s.first ≡ least_below (2 ^ w) (in_span w s)
least_whole w s hf hl h =
    let size = steps_is w s.first s.last hf hl in
    let here = steps_is w s.first s.first hf hf in
    sym (least_is (2 ^ w) (in_span w s) s.first (record {
      below = hf;
      passes = in_to w s s.first hf (grind (arith, size, here));
      first = λ k less. outside w s k (λ fits near. let to = steps_is w s.first k hf fits in grind (arith, size, to, near, less, h));
    }))

pub least_split : (w : ℕ) (s : Span) → s.first < 2 ^ w → s.last < 2 ^ w → s.last < s.first → 0 ≡ least_below (2 ^ w) (in_span w s)
least_split w s hf hl h =
    let size = steps_is w s.first s.last hf hl in
    let here = steps_is w s.first 0 hf (omega arith) in
    sym (least_is (2 ^ w) (in_span w s) 0 (record {
      below = omega arith;
      passes = in_to w s 0 (omega arith) (grind (arith, size, here));
      first = λ k less. absurd (omega arith);
    }))

pub greatest_whole : (w : ℕ) (s : Span) → s.first < 2 ^ w → s.last < 2 ^ w → s.first ≤ s.last → s.last ≡ greatest_below (2 ^ w) (in_span w s)
greatest_whole w s hf hl h =
    let size = steps_is w s.first s.last hf hl in
    sym (greatest_is (2 ^ w) (in_span w s) s.last (record {
      below = hl;
      passes = in_to w s s.last hl (omega arith);
      last = λ k more fits. outside w s k (λ _ near. let to = steps_is w s.first k hf fits in grind (arith, size, to, near, more, h));
    }))

pub greatest_split : (w : ℕ) (s : Span) (top : ℕ) → s.first < 2 ^ w → s.last < 2 ^ w → s.last < s.first → top + 1 ≡ 2 ^ w → top ≡ greatest_below (2 ^ w) (in_span w s)
greatest_split w s top hf hl h e =
    let size = steps_is w s.first s.last hf hl in
    let here = steps_is w s.first top hf (omega arith) in
    sym (greatest_is (2 ^ w) (in_span w s) top (record {
      below = omega arith;
      passes = in_to w s top (omega arith) (grind (arith, size, here));
      last = λ k more fits. absurd (omega arith);
    }))

-- ---- the signed order

pub half_is : (w : ℕ) → 1 ≤ w → 2 ^ (w - 1) + 2 ^ (w - 1) ≡ 2 ^ w
half_is zero h = absurd (omega arith)
half_is (suc n) h =
    let e : suc n - 1 ≡ n = omega arith in
    rw (e, pow-suc 2 n) (omega arith)

-- the arc turned by half a circle
pub turned_steps : (w p x h : ℕ) → p < 2 ^ w → x < 2 ^ w → h + h ≡ 2 ^ w → steps w ((p + h) % 2 ^ w) x ≡ steps w p ((x + h) % 2 ^ w)
turned_steps w p x h hp hx e =
    let one = wrapped_sum (2 ^ w) (p + h) (omega arith) in
    let two = wrapped_sum (2 ^ w) (x + h) (omega arith) in
    let fp : (p + h) % 2 ^ w < 2 ^ w = grind (arith, one) in
    let fx : (x + h) % 2 ^ w < 2 ^ w = grind (arith, two) in
    let a = steps_is w ((p + h) % 2 ^ w) x fp hx in
    let b = steps_is w p ((x + h) % 2 ^ w) hp fx in
    grind (arith, one, two, a, b)

pub least_alike : (n : ℕ) (p q : ℕ → Bool) → ((x : ℕ) → x < n → p x ≡ q x) → least_below n p ≡ least_below n q
unfolding least_below
least_alike zero p q same = refl
least_alike (suc n) p q same =
    let below = least_alike n p q (λ x l. same x (omega arith)) in
    let found = some_alike n p q (λ x l. same x (omega arith)) in
    let here = same n (omega arith) in
    rw (below, found, here) refl

greatest_alike : (n : ℕ) (p q : ℕ → Bool) → ((x : ℕ) → x < n → p x ≡ q x) → greatest_below n p ≡ greatest_below n q
unfolding greatest_below
greatest_alike zero p q same = refl
greatest_alike (suc n) p q same =
    let below = greatest_alike n p q (λ x l. same x (omega arith)) in
    let here = same n (omega arith) in
    rw (below, here) refl

in_turned : (w : ℕ) (s : Span) (x : ℕ) → 1 ≤ w → s.first < 2 ^ w → s.last < 2 ^ w → x < 2 ^ w →
    in_span w (record { first = in_signed_order w s.first; last = in_signed_order w s.last }) x ≡ in_span w s (in_signed_order w x)
unfolding in_span
in_turned w s x one hf hl hx =
    let h = 2 ^ (w - 1) in
    let e : h + h ≡ 2 ^ w = half_is w one in
    let cut : (x + h) % 2 ^ w < 2 ^ w = mod_below (x + h) (2 ^ w) (omega arith) in
    let flat : (s.last + h) % 2 ^ w < 2 ^ w = mod_below (s.last + h) (2 ^ w) (omega arith) in
    let here : steps w ((s.first + h) % 2 ^ w) x ≡ steps w s.first ((x + h) % 2 ^ w) = turned_steps w s.first x h hf hx e in
    let size : steps w ((s.first + h) % 2 ^ w) ((s.last + h) % 2 ^ w) ≡ steps w s.first s.last =
    turned_steps w s.first ((s.last + h) % 2 ^ w) h hf flat e ∙ ap (steps w s.first) (twice (2 ^ w) s.last h hl e) in
    rw (lt-ltb _ _ hx, lt-ltb _ _ cut, here, size) refl where
      twice : (m x h : ℕ) → x < m → h + h ≡ m → ((x + h) % m + h) % m ≡ x
      twice m x h hx e =
          let turn : x + h + h ≡ x + m = omega arith in
          mod-add-mod (x + h) m h ∙ ap (λ (n : ℕ). n % m) turn ∙ add-mod_right x m ∙ mod-eq_of_lt hx

pub least_turned : (w f l : ℕ) (s : Span) → 1 ≤ w → s.first < 2 ^ w → s.last < 2 ^ w → f ≡ in_signed_order w s.first → l ≡ in_signed_order w s.last →
    least_below (2 ^ w) (in_span w (record { first = f; last = l })) ≡ least_below (2 ^ w) (λ k. in_span w s (in_signed_order w k))
least_turned w f l s one hf hl ef el =
    rw (ef, el) (least_alike (2 ^ w) _ _ (λ x hx. in_turned w s x one hf hl hx))

pub greatest_turned : (w f l : ℕ) (s : Span) → 1 ≤ w → s.first < 2 ^ w → s.last < 2 ^ w → f ≡ in_signed_order w s.first → l ≡ in_signed_order w s.last →
    greatest_below (2 ^ w) (in_span w (record { first = f; last = l })) ≡ greatest_below (2 ^ w) (λ k. in_span w s (in_signed_order w k))
greatest_turned w f l s one hf hl ef el =
    rw (ef, el) (greatest_alike (2 ^ w) _ _ (λ x hx. in_turned w s x one hf hl hx))
