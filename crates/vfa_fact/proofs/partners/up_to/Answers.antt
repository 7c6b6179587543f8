use Rattle.std.proofs.Common.{◌≡◌, ℕ, ◌+◌, ◌%◌, ◌^◌, ◌<◌, ◌∙◌, ap}
use Rattle.std.specs.Prelude.{nat_le}
use Rattle.std.proofs.Math.Nat.{mod-eq_of_lt}
use Rattle.vfa_wrap.specs.Arc.{Span, steps, in_span, arc_from}
use Rattle.vfa_wrap.specs.Wrapped.{span_of}
use Rattle.vfa_fact.proofs.Partnered.{up_to_arc}
use Rattle.vfa_fact.proofs.partners.up_to.Goals as goal

within : (w base place first part sum : ℕ) (s : Span) → base < 2 ^ w → place < 2 ^ w → first ≡ base % 2 ^ w → part ≡ place % 2 ^ w → sum ≡ (first + part) % 2 ^ w → s ≡ arc_from w first sum →
    (x : ℕ) → x < 2 ^ w → in_span w s x ≡ nat_le (steps w base x) place
within w base place first part sum s hb hp ef ep es e x hx =
    let at : first ≡ base = ef ∙ mod-eq_of_lt hb in
    up_to_arc w base place sum x s hb hp hx
    (es ∙ ap (λ (n : ℕ). (n + part) % 2 ^ w) at ∙ ap (λ (n : ℕ). (base + n) % 2 ^ w) ep)
    (e ∙ ap (λ (n : ℕ). arc_from w n sum) at)

pub returns : goal.returns
returns g c = record {
  alike = within g.row.W c.args.base c.args.place c.cut-first.result c.cut.result c.add.result (span_of c.new.result) c.requires.base_fits c.requires.place_fits c.cut-first.ensures c.cut.ensures c.add.ensures c.new.ensures;
}
