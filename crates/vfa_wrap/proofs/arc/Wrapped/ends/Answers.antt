use Rattle.std.proofs.Common.{◌≡◌, ◌+◌, ◌-◌, ◌%◌, ◌^◌, ◌<◌, ◌≤◌, ℕ, ℤ, sym, subst, ap, ◌∙◌, FitsSigned, rules}
use Rattle.std.specs.Int.{w128}
use Rattle.std.proofs.lemmas.Int.{to_z-of_z}
use Rattle.vfa_dom.specs.Search.{least_below, greatest_below}
use Rattle.vfa_wrap.specs.Arc.{Span, in_span, in_span_fits}
use Rattle.vfa_wrap.specs.Places.{reading_at, in_signed_order}
use Rattle.vfa_wrap.specs.Ends.{EndsOf, ends_of}
use Rattle.vfa_wrap.specs.Wrapped.{span_of}
use Rattle.vfa_wrap.specs.Between.{Between, AreEnds}
use Rattle.vfa_wrap.proofs.ArcSets.{first_in}
use Rattle.vfa_wrap.proofs.SetEnds.{are_ends, between_ends}
use Rattle.vfa_wrap.proofs.ArcEnds.{least_turned, greatest_turned}
use Rattle.vfa_wrap.proofs.arc.Wrapped.ends.Goals as goal

ends_at : (w lo hi f l p q : ℕ) (a b : ℤ) (s : Span) → 1 ≤ w → s.first < 2 ^ w → s.last < 2 ^ w →
    f ≡ in_signed_order w s.first → l ≡ in_signed_order w s.last →
    lo ≡ least_below (2 ^ w) (in_span w s) → hi ≡ greatest_below (2 ^ w) (in_span w s) →
    p ≡ least_below (2 ^ w) (in_span w (record { first = f; last = l })) → q ≡ greatest_below (2 ^ w) (in_span w (record { first = f; last = l })) →
    a ≡ reading_at w p → b ≡ reading_at w q → record { lo = lo; hi = hi; slo = a; shi = b } ≡ ends_of w (in_span w s)
unfolding ends_of
ends_at w lo hi f l p q a b s one hf hl ef el elo ehi ep eq ea eb =
    let least = ep ∙ least_turned w f l s one hf hl ef el in
    let greatest = eq ∙ greatest_turned w f l s one hf hl ef el in
    let slo = ea ∙ ap (reading_at w) least in
    let shi = eb ∙ ap (reading_at w) greatest in
    cc

shifted : (w x h f : ℕ) → f ≡ (x + h) % 2 ^ w → h ≡ 2 ^ (w - 1) → f ≡ in_signed_order w x
shifted w x h f ef eh = ef ∙ ap (λ (n : ℕ). (x + n) % 2 ^ w) eh

pub returns : goal.returns
returns g c =
    let s = span_of c.args.self.now in
    let arc = c.args.self.now.arc in
    let low_fits : FitsSigned w128 c.reading-slo.result = search rules in
    let high_fits : FitsSigned w128 c.reading-shi.result = search rules in
    let at = ends_at g.row.W c.least_in-lo.result c.greatest_in-hi.result c.number_ahead-first.result c.number_ahead-last.result c.least_in.result c.greatest_in.result
    c.reading-slo.result c.reading-shi.result s c.args.self.now.width.least arc.first_fits arc.last_fits
    (shifted g.row.W s.first c.half.result c.number_ahead-first.result c.number_ahead-first.ensures.value c.half.ensures.value)
    (shifted g.row.W s.last c.half-2.result c.number_ahead-last.result c.number_ahead-last.ensures.value c.half-2.ensures.value)
    c.least_in-lo.ensures.value c.greatest_in-hi.ensures.value c.least_in.ensures.value c.greatest_in.ensures.value c.reading-slo.ensures c.reading-shi.ensures in
    let value = shown c.least_in-lo.result c.greatest_in-hi.result c.reading-slo.result c.reading-shi.result (to_z-of_z w128 c.reading-slo.result low_fits) (to_z-of_z w128 c.reading-shi.result high_fits) ∙ at in
    let ends = are_ends g.row.W (in_span g.row.W s) s.first c.args.self.now.width.least arc.first_fits (first_in g.row.W s arc) in
    let fits = in_span_fits g.row.W s in
    record {
      value = value;
      reached = subst (AreEnds g.row.W) (sym value) ends;
      between = λ x member. subst (λ e. Between g.row.W e x) (sym value)
          (between_ends g.row.W (in_span g.row.W s) x c.args.self.now.width.least (fits x member) member);
    }
  where
    shown : {x y : ℤ} (lo hi : ℕ) (a b : ℤ) → x ≡ a → y ≡ b → (◌≡◌ {A = EndsOf} (record { lo = lo; hi = hi; slo = x; shi = y }) (record { lo = lo; hi = hi; slo = a; shi = b }))
    shown lo hi a b ea eb = cc
