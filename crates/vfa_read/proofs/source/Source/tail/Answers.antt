use Rattle.std.proofs.Common.{sym, ◌∙◌, subst}
use Rattle.vfa_read.specs.Seen.{all_of, seen_lexeme}
use Rattle.vfa_read.proofs.TailPlaces.{Reached, reached_next, reached_done, reached_open, reached_closed}
use Rattle.vfa_read.proofs.source.Source.tail.Goals as goal

pub returns-in_default-open_after : goal.returns-in_default-open_after
returns-in_default-open_after c =
    reached_closed (all_of c.args.self.now) c.args.from c.tail.at c.tail.depth (seen_lexeme c.in-Some.seen) c.in-Some.ensures.0 c.in-Some.ensures.1 (sym c.open_after.ensures ∙ c.in_default-open_after.is) c.tail.invariant

pub tail-preserved : goal.tail-preserved
tail-preserved c =
    reached_next (all_of c.args.self.now) c.args.from c.tail.at c.tail.depth c.in-Some-open_after.after (seen_lexeme c.in-Some.seen) c.in-Some.ensures.0 c.in-Some.ensures.1 (sym c.open_after.ensures ∙ c.in-Some-open_after.is) c.tail.invariant

pub returns-then-depth-eq0 : goal.returns-then-depth-eq0
returns-then-depth-eq0 c = (c.tail.invariant.later, reached_done (all_of c.args.self.now) c.args.from c.tail.at c.in_default.ensures (subst (Reached (all_of c.args.self.now) c.args.from c.tail.at) c.if-depth-eq0.true c.tail.invariant))

pub returns : goal.returns
returns c = reached_open (all_of c.args.self.now) c.args.from c.tail.at c.tail.depth c.if-depth-eq0.false c.in_default.ensures c.tail.invariant
