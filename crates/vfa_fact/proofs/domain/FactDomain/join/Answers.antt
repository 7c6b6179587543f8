use Rattle.std.proofs.Common.{sym, ◌∙◌, ap}
use Rattle.std.specs.Option.{option_map}
use Rattle.vfa_known.specs.Known.{masks_of}
use Rattle.vfa_wrap.specs.Wrapped.{span_of}
use Rattle.vfa_fact.specs.Fact.{in_numbers_fits}
use Rattle.vfa_fact.specs.Views.{numbers_of}
use Rattle.vfa_fact.proofs.Facts.{numbers_parts}
use Rattle.vfa_fact.proofs.Joins.{joined_is, some_joined, joined_has, hull_left, hull_right}
use Rattle.vfa_fact.proofs.domain.FactDomain.join.Goals as goal

pub unreachable-requires : goal.unreachable-requires
unreachable-requires g c =
    let one = c.args.self.now in let two = c.args.other.now in let x = one.arc.first in
    let parts = numbers_parts g.row.W (numbers_of one) x one.sharp.first_in in
    some_joined g.row.W (numbers_of one) (numbers_of two) (masks_of c.join-alike.result) (span_of c.hull-hull.result)
    c.hull-hull.result.arc c.hull-hull.ensures c.join-alike.ensures.alike x one.arc.arc.first_fits
    (c.join-alike.ensures.covers_self x parts.0)
    (hull_left g.row.W (numbers_of one) (numbers_of two) (span_of c.hull-hull.result) x one.arc.arc two.arc.arc c.hull-hull.ensures parts.1)
    (sym c.sharpened.ensures ∙ ap (option_map numbers_of) c.in_default.is)

pub returns-clause-exact : goal.returns-clause-exact
returns-clause-exact g c =
    let one = c.args.self.now in let two = c.args.other.now in
    sym (ap (option_map numbers_of) c.in-Some.is) ∙ c.sharpened.ensures
    ∙ joined_is g.row.W (numbers_of one) (numbers_of two) (masks_of c.join-alike.result) (span_of c.hull-hull.result)
    c.hull-hull.result.arc c.hull-hull.ensures c.join-alike.ensures.alike

pub returns-clause-covers_self : goal.returns-clause-covers_self
returns-clause-covers_self g c x member =
    let one = c.args.self.now in let two = c.args.other.now in
    let parts = numbers_parts g.row.W (numbers_of one) x member in
    joined_has g.row.W (numbers_of one) (numbers_of two) (masks_of c.join-alike.result) (span_of c.hull-hull.result)
    c.hull-hull.result.arc c.hull-hull.ensures c.join-alike.ensures.alike (numbers_of c.in-Some.joined)
    (sym c.sharpened.ensures ∙ ap (option_map numbers_of) c.in-Some.is) x (in_numbers_fits g.row.W (numbers_of one) x member)
    (c.join-alike.ensures.covers_self x parts.0)
    (hull_left g.row.W (numbers_of one) (numbers_of two) (span_of c.hull-hull.result) x one.arc.arc two.arc.arc c.hull-hull.ensures parts.1)

pub returns-clause-covers_other : goal.returns-clause-covers_other
returns-clause-covers_other g c x member =
    let one = c.args.self.now in let two = c.args.other.now in
    let parts = numbers_parts g.row.W (numbers_of two) x member in
    joined_has g.row.W (numbers_of one) (numbers_of two) (masks_of c.join-alike.result) (span_of c.hull-hull.result)
    c.hull-hull.result.arc c.hull-hull.ensures c.join-alike.ensures.alike (numbers_of c.in-Some.joined)
    (sym c.sharpened.ensures ∙ ap (option_map numbers_of) c.in-Some.is) x (in_numbers_fits g.row.W (numbers_of two) x member)
    (c.join-alike.ensures.covers_other x parts.0)
    (hull_right g.row.W (numbers_of one) (numbers_of two) (span_of c.hull-hull.result) x one.arc.arc two.arc.arc c.hull-hull.ensures parts.1)
