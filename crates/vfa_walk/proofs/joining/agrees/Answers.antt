use Rattle.std.proofs.Common.{Some, sym, ◌∙◌, ap, inl, inr}
use Rattle.vfa_cond.specs.States.{known}
use Rattle.vfa_walk.proofs.Agreeing.{live_in_both}
use Rattle.vfa_walk.proofs.joining.agrees.Goals as goal

pub same-requires : goal.same-requires
same-requires g c =
    let first = c.requires.first c.args.v.0 c.in-Some.first (sym c.in-Some.ensures) in
    let second = c.requires.second c.args.v.0 c.in-Some-fact_near.second (sym c.in-Some-fact_near.ensures) in
    record { first = first.is_proper; second = second.is_proper; same_type = first.typed ∙ sym second.typed }

pub returns-in_default : goal.returns-in_default
returns-in_default g c _ = record {
  fact = inl (sym c.in_default.ensures);
  live = live_in_both ((known c.args.state.now).live c.args.v.0) ((known c.args.other.now).live c.args.v.0) (sym c.ends_with.ensures ∙ c.if-ends_with.false);
}

pub returns : goal.returns
returns g c yes_same = record {
  fact = inr (sym c.in-Some.ensures ∙ (ap Some (c.same.ensures.0 yes_same) ∙ c.in-Some-fact_near.ensures));
  live = live_in_both ((known c.args.state.now).live c.args.v.0) ((known c.args.other.now).live c.args.v.0) (sym c.ends_with.ensures ∙ c.if-ends_with.false);
}
