-- The states after draws.
use Rattle.std.proofs.Common.{◌≡◌, ◌∙◌, ℕ, zero, suc, ◌+◌, refl, sym, ap, arith}
use Rattle.vfa_opt.specs.Generated.{next_state, state_after}

-- draws after draws
pub after_more : (m n k x : ℕ) → n + m ≡ k → state_after m (state_after n x) ≡ state_after k x
unfolding state_after
after_more zero n k x e = let at : n ≡ k = omega arith in ap (λ i. state_after i x) at
after_more (suc m) n zero x e = absurd (omega arith)
after_more (suc m) n (suc k) x e = ap next_state (after_more m n k x (omega arith))

pub after_none : (x : ℕ) → state_after 0 x ≡ x
unfolding state_after
after_none x = refl

-- one draw after others
pub after_next : (k l x : ℕ) → k + 1 ≡ l → next_state (state_after k x) ≡ state_after l x
unfolding state_after
after_next k zero x e = absurd (omega arith)
after_next k (suc l) x e = let at : k ≡ l = omega arith in ap (λ i. next_state (state_after i x)) at

-- draws after the first
pub after_first : (k l x : ℕ) → k + 1 ≡ l → state_after k (next_state x) ≡ state_after l x
after_first k l x e = ap (state_after k) (sym one) ∙ after_more k 1 l x (omega arith)
  where
    one : state_after 1 x ≡ next_state x
    one = sym (after_next 0 1 x (omega arith)) ∙ ap next_state (after_none x)
