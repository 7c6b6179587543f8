use Rattle.std.proofs.Common.{◌≡◌, ℕ, ◌+◌, ◌%◌, ◌^◌, ◌<◌, ◌∙◌, ap}
use Rattle.std.specs.Prelude.{nat_le}
use Rattle.std.proofs.Math.Nat.{mod-eq_of_lt}
use Rattle.vfa_wrap.specs.Arc.{Span, steps, in_span, arc_from}
use Rattle.vfa_wrap.specs.Wrapped.{span_of}
use Rattle.vfa_fact.proofs.Partnered.{from_arc}
use Rattle.vfa_fact.proofs.partners.from_on.Goals as goal

within : (w base place top start part sum rest end : ℕ) (s : Span) → base < 2 ^ w → place < 2 ^ w → top + 1 ≡ 2 ^ w → start ≡ base % 2 ^ w → part ≡ place % 2 ^ w → sum ≡ (start + part) % 2 ^ w →
    rest ≡ top % 2 ^ w → end ≡ (start + rest) % 2 ^ w → s ≡ arc_from w sum end → (x : ℕ) → x < 2 ^ w → in_span w s x ≡ nat_le place (steps w base x)
within w base place top start part sum rest end s hb hp et ef ep es er ee e x hx =
    let at : start ≡ base = ef ∙ mod-eq_of_lt hb in
    from_arc w base place top sum end x s et hb hp hx
    (es ∙ ap (λ (n : ℕ). (n + part) % 2 ^ w) at ∙ ap (λ (n : ℕ). (base + n) % 2 ^ w) ep)
    (ee ∙ ap (λ (n : ℕ). (n + rest) % 2 ^ w) at ∙ ap (λ (n : ℕ). (base + n) % 2 ^ w) er)
    e

pub returns : goal.returns
returns g c = record {
  alike = within g.row.W c.args.base c.args.place c.most.result c.cut-start.result c.cut.result c.add.result c.cut-2.result c.add-2.result (span_of c.new.result) c.requires.base_fits c.requires.place_fits
      c.most.ensures c.cut-start.ensures c.cut.ensures c.add.ensures c.cut-2.ensures c.add-2.ensures c.new.ensures;
}
