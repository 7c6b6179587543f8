-- Restriction of a state by a condition (LLVM's LazyValueInfo, with a bound on the depth as there). The fact of a name becomes
-- what is kept of it for the wanted numbers. Where the name's equation is live, what the new fact says of the operands is
-- done to them alike, through at most so many equations one behind the other. A state that no values meet is no state.
--
-- In `%x = add i8 %a, 1`, `%c = icmp ult i8 %x, 10`, to narrow `%c` by `eq 1` makes `%x` less than 10 and `%a` 255 to 8.
use Rattle.std.specs.Prelude.{◌≡◌, ℕ, zero, suc, Bool, true, false, if◌then◌else◌, Option, Some, None, is_some}
use Rattle.vfa_ir.specs.declared.operations.Op.{Op}
use Rattle.vfa_ir.specs.declared.operations.Operand.{Operand}
use Rattle.vfa_ir.specs.declared.operations.Pred.{Pred}
use Rattle.vfa_ir.specs.declared.operations.Ty.{Ty}
use Rattle.vfa_ir.specs.declared.functions.Function.{Function}
use Rattle.vfa_values.specs.Answers.{Answers}
use Rattle.vfa_cond.specs.declared.want.Want.{Want}
use Rattle.vfa_cond.specs.declared.consequence.Consequence.{Consequence}
use Rattle.vfa_cond.specs.Consequences.{consequence_of}
use Rattle.vfa_cond.specs.Equations.{equation}
use Rattle.vfa_cond.specs.Opposites.{exchanged}
use Rattle.vfa_cond.specs.States.{AbstractState, with_fact}
use Rattle.vfa_cond.specs.Wants.{kept}

-- what becomes of a state; none where no values meet it any more
abbrev pub Change : Type 0 → Type 0
Change V = AbstractState V → Option (AbstractState V)

-- one change and then another
abbrev pub and_then : {V : Type 0} → Option (AbstractState V) → Change V → Option (AbstractState V)
and_then None next = None
and_then (Some s) next = next s

-- how a name is narrowed
abbrev pub Narrowing : Type 0 → Type 0
Narrowing V = ℕ → Want V → Change V

-- the fact of an operand of the width; none of a name that has none
abbrev pub operand_fact : {V : Type 0} → Answers V → ℕ → AbstractState V → Operand → Option V
operand_fact answers w s (Operand.Value v) = s.fact v.0
operand_fact answers w s (Operand.Literal bits) = Some (answers.literal w bits)
operand_fact answers w s Operand.Poison = Some (answers.poison (Ty.Int w))

-- An operand of the width is narrowed. A literal that is wanted changes nothing; one that is not, and `poison`, meets nothing.
abbrev pub narrowed_operand : {V : Type 0} → Answers V → Narrowing V → Operand → ℕ → Want V → Change V
narrowed_operand answers narrow (Operand.Value v) w want s = narrow v.0 want s
narrowed_operand answers narrow (Operand.Literal bits) w want s =
    if is_some (kept answers (answers.literal w bits) want) then Some s else None
narrowed_operand answers narrow Operand.Poison w want s = None

-- The predicate holds of two operands of the width. Each is narrowed by the fact that the other one had before. Where one is
-- a name without a fact nothing changes.
abbrev pub held_with : {V : Type 0} → Answers V → Narrowing V → Operand → Pred → Operand → ℕ → Option V → Option V → Change V
held_with answers narrow x pred y w (Some X) (Some Y) s =
    and_then (narrowed_operand answers narrow x w (Want.Compare pred Y) s)
    (narrowed_operand answers narrow y w (Want.Compare (exchanged pred) X))
held_with answers narrow x pred y w _ _ s = Some s

abbrev pub held : {V : Type 0} → Answers V → Narrowing V → Operand → Pred → Operand → ℕ → Change V
held answers narrow x pred y w s =
    held_with answers narrow x pred y w (operand_fact answers w s x) (operand_fact answers w s y) s

-- two operands of type `i1`, one after the other
abbrev pub narrowed_both : {V : Type 0} → Answers V → Narrowing V → Operand → Operand → Want V → Change V
narrowed_both answers narrow x y want s =
    and_then (narrowed_operand answers narrow x 1 want s) (narrowed_operand answers narrow y 1 want)

-- what a fact says of the operands is done to them
abbrev pub carried_out : {V : Type 0} → Answers V → Narrowing V → Consequence V → Change V
carried_out answers narrow Consequence.Nothing s = Some s
carried_out answers narrow Consequence.Contradiction s = None
carried_out answers narrow (Consequence.One x w want) s = narrowed_operand answers narrow x w want s
carried_out answers narrow (Consequence.Both x y want) s = narrowed_both answers narrow x y want s
carried_out answers narrow (Consequence.Holds x pred y w) s = held answers narrow x pred y w s

-- the equation of a name, where it is live
abbrev pub live_equation : {V : Type 0} → Function → AbstractState V → ℕ → Option Op
live_equation f s v = if s.live v then equation f v else None

abbrev pub by_equation : {V : Type 0} → Answers V → Narrowing V → V → Option Op → Change V
by_equation answers narrow d None s = Some s
by_equation answers narrow d (Some op) s = carried_out answers narrow (consequence_of answers op d) s

-- The name gets what is kept of its fact, and then comes what follows from that. A name without a fact is left alone.
abbrev pub kept_by : {V : Type 0} → (V → Change V) → ℕ → Option V → Change V
kept_by follow v None s = None
kept_by follow v (Some d) s = follow d (with_fact s v (Some d))

abbrev pub narrowed_by : {V : Type 0} → Answers V → (V → Change V) → ℕ → Want V → Option V → Change V
narrowed_by answers follow v want None s = Some s
narrowed_by answers follow v want (Some d) s = kept_by follow v (kept answers d want) s

-- what follows from a new fact of a name, through so many equations
unfoldable pub followed : {V : Type 0} → Answers V → Function → ℕ → ℕ → V → Change V
followed answers f zero v d s = Some s
followed answers f (suc left) v d s =
    by_equation answers (λ u want t. narrowed_by answers (followed answers f left u) u want (t.fact u) t) d (live_equation f s v) s

-- the state in which the name is one of the wanted numbers, through so many equations
abbrev pub narrowed : {V : Type 0} → Answers V → Function → ℕ → Narrowing V
narrowed answers f left v want s = narrowed_by answers (followed answers f left v) v want (s.fact v) s

-- how many equations are followed, one behind the other
abbrev pub deepest : ℕ
deepest = 4

-- the answer says whether values may meet the state, and then this is the state
abbrev pub Becomes : {V : Type 0} → Option (AbstractState V) → Bool → AbstractState V → Type 0
Becomes None answer new = answer ≡ false
Becomes (Some s) answer new = (answer ≡ true) × (new ≡ s)
