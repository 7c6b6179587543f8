use Rattle.vfa_wrap.proofs.spans.saturated.Goals as goal

pub returns : goal.returns
returns g c = c.clamped.ensures _ c.places.ensures
