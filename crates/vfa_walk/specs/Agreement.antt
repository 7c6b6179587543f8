-- helper: in no public contract
-- Names of which a state knows nothing that another one does not know too.
use Rattle.std.specs.Prelude.{◌≡◌, ◌⊎◌, ℕ, ◌&&◌, None}
use Rattle.vfa_cond.specs.States.{AbstractState}

-- the state has no fact of the name, or the one that the other has; and where its equation is live, it is live in the other too
pub record Agrees {V : Type 0} (s t : AbstractState V) (v : ℕ) : Type 0 where
  pub fact : (s.fact v ≡ None) ⊎ (s.fact v ≡ t.fact v)
  pub live : (s.live v && t.live v) ≡ s.live v
