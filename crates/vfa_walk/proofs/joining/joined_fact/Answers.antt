use Rattle.std.proofs.Common.{sym, ◌∙◌, subst}
use Rattle.vfa_values.specs.Conditions.{IsOf}
use Rattle.vfa_cond.specs.Conditions.{name_type}
use Rattle.vfa_cond.proofs.Fitting.{some_of}
use Rattle.vfa_walk.proofs.joining.joined_fact.Goals as goal

pub join-requires : goal.join-requires
join-requires g c =
    let first = c.requires.first c.args.v.0 c.in-Some.first (sym c.in-Some.ensures) in
    let second = c.requires.second c.args.v.0 c.in-Some-fact_near.second (sym c.in-Some-fact_near.ensures) in
    record { first = first.is_proper; second = second.is_proper; same_type = first.typed ∙ sym second.typed }

pub returns-clause-of_type : goal.returns-clause-of_type
returns-clause-of_type g c =
    let t = name_type c.args.f.now c.args.v.0 in
    let of = IsOf g.V.Values.ty g.V.Values.proper t in
    let first = c.requires.first c.args.v.0 c.in-Some.first (sym c.in-Some.ensures) in
    let second = c.requires.second c.args.v.0 c.in-Some-fact_near.second (sym c.in-Some-fact_near.ensures) in
    some_of of c.join.result (subst of (sym c.join.ensures) (g.met.V.Values.lawful.typed.join t c.in-Some.first c.in-Some-fact_near.second first second))
