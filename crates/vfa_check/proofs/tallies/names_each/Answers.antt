use Rattle.std.proofs.Common.{◌≡◌, ◌<◌, ◌∙◌, ℕ, All, refl, subst, sym, arith, get_or}
use Rattle.vfa_check.specs.Predecessors.{times, times_named}
use Rattle.vfa_check.proofs.Counting.{names_from_none, none_from_names}
use Rattle.vfa_check.proofs.tallies.names_each.Goals as goal

pub returns-then-not-take_off-clause-names : goal.returns-then-not-take_off-clause-names
returns-then-not-take_off-clause-names c = (
  λ h. absurd (cc),
  λ names.
      let lacks = c.if-not-take_off.ensures.lacks refl in
      let b = lacks.0 in
      let counted : get_or c.count.new.left.items b 0 ≡ times b c.args.predecessors.now = c.count.ensures.counted b in
      let named : times_named b c.args.entries.now ≡ times b c.args.predecessors.now = names b in
      let few : get_or c.count.new.left.items b 0 < times_named b c.args.entries.now = lacks.1 in
      absurd (omega arith),
)

pub returns-clause-names : goal.returns-clause-names
returns-clause-names c =
    let left = c.take_off.new.left.items in
    let taken = λ (b : ℕ). c.if-not-take_off.ensures.taken refl b ∙ c.count.ensures.counted b in (
      λ yes from. (names_from_none left c.args.predecessors.now c.args.entries.now taken
          (subst (λ items. All (λ p. get_or items p.0 0 ≡ 0) c.args.predecessors.now) c.as_slice.ensures.value (c.none_left.ensures.0 yes)) from).1,
      λ names. c.none_left.ensures.1 (subst (λ items. All (λ p. get_or items p.0 0 ≡ 0) c.args.predecessors.now) (sym c.as_slice.ensures.value)
          (λ k d h. none_from_names left c.args.predecessors.now c.args.entries.now taken names (get_or c.args.predecessors.now k d).0)),
    )

pub returns-clause-zero : goal.returns-clause-zero
returns-clause-zero c = λ yes b.
    let taken = λ (b : ℕ). c.if-not-take_off.ensures.taken refl b ∙ c.count.ensures.counted b in
    (names_from_none c.take_off.new.left.items c.args.predecessors.now c.args.entries.now taken
    (subst (λ items. All (λ p. get_or items p.0 0 ≡ 0) c.args.predecessors.now) c.as_slice.ensures.value (c.none_left.ensures.0 yes)) b).0
