-- What covers two states, and what the entry of a block keeps of a state.
use Rattle.std.specs.Prelude.{ℕ, Bool, ◌&&◌, if◌then◌else◌, Option, Some, None}
use Rattle.vfa_ir.specs.declared.functions.Function.{Function}
use Rattle.vfa_values.specs.Answers.{Answers}
use Rattle.vfa_values.specs.Conditions.{width_of}
use Rattle.vfa_cond.specs.Conditions.{name_type}
use Rattle.vfa_cond.specs.States.{AbstractState}
use Rattle.vfa_walk.specs.Landmarks.{landmarks}

-- the facts of a name that has one in both states
abbrev pub of_both : {V : Type 0} → (V → V → V) → Option V → Option V → Option V
of_both cover None second = None
of_both cover (Some a) None = None
of_both cover (Some a) (Some b) = Some (cover a b)

-- name by name: what covers both facts, and the equations that are live in both
abbrev pub covered : {V : Type 0} → (ℕ → V → V → V) → AbstractState V → AbstractState V → AbstractState V
covered cover s t = record { fact = λ v. of_both (cover v) (s.fact v) (t.fact v); live = λ v. s.live v && t.live v }

abbrev pub joined : {V : Type 0} → Answers V → AbstractState V → AbstractState V → AbstractState V
joined answers s t = covered (λ _. answers.join) s t

-- the old state of a head widened by the new one in a round
abbrev pub widened : {V : Type 0} → Answers V → Function → ℕ → AbstractState V → AbstractState V → AbstractState V
widened answers f round s t =
    covered (λ v old new. answers.widen old new round (landmarks f (width_of (name_type f v)))) s t

-- the facts and the equations of these names alone
abbrev pub kept_names : {V : Type 0} → (ℕ → Bool) → AbstractState V → AbstractState V
kept_names names s = record { fact = λ v. if names v then s.fact v else None; live = λ v. names v && s.live v }
