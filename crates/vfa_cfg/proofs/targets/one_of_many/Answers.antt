use Rattle.std.proofs.Common.{◌≡◌, ℕ, zero, suc, ◌-◌, ◌∷◌, List, map, length, refl, ap, ◌∙◌, sym, arith}
use Rattle.std.proofs.lemmas.Option.{slice_get-map, slice_get_read, slice_get_past}
use Rattle.std.specs.List.{slice_get}
use Rattle.std.specs.Option.{option_map}
use Rattle.vfa_ir.specs.declared.operations.BlockId.{BlockId}
use Rattle.vfa_cfg.proofs.targets.one_of_many.Goals as goal

after_first : (other : BlockId) (cases : List (ℕ × BlockId)) (k : ℕ) → (k ≡ 0 → ⊥) →
    slice_get (other ∷ map (λ c. c.1) cases) k ≡ option_map (λ c. c.1) (slice_get cases (k - 1))
after_first other cases zero n = absurd (n refl)
after_first other cases (suc k) n =
    let same : k ≡ suc k - 1 = omega arith in
    slice_get-map (λ c. c.1) cases k ∙ ap (λ j. option_map (λ c. c.1) (slice_get cases j)) same

pub returns-in-Some : goal.returns-in-Some
returns-in-Some c =
    let cases = c.args.cases.now in
    let read = c.in-Some.ensures.lookup in
    sym (after_first c.args.other cases c.args.k c.if-k-eq0.false
    ∙ ap (option_map (λ c. c.1)) (slice_get_read cases (length cases) (c.args.k - 1) c.in-Some.case.now refl read.3.0 read.1))

pub returns-in-None : goal.returns-in-None
returns-in-None c =
    let cases = c.args.cases.now in
    sym (after_first c.args.other cases c.args.k c.if-k-eq0.false
    ∙ ap (option_map (λ c. c.1)) (slice_get_past cases (c.args.k - 1) c.in-None.ensures.lookup.3))
