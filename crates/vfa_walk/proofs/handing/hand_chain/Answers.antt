use Rattle.std.proofs.Common.{nat_eq, if◌then◌else◌, ◌∙◌, ap, arith}
use Rattle.vfa_ir.specs.Walks.{successors}
use Rattle.vfa_cond.specs.States.{known}
use Rattle.vfa_walk.specs.Joining.{joined}
use Rattle.vfa_walk.specs.Kept.{kept_entries}
use Rattle.vfa_walk.specs.Passes.{merged}
use Rattle.vfa_walk.specs.Sending.{entered}
use Rattle.vfa_walk.proofs.Chaining.{given_before, given_first}
use Rattle.vfa_walk.proofs.handing.hand_chain.Goals as goal

pub returns-then-not-begins-clause-given : goal.returns-then-not-begins-clause-given
returns-then-not-begins-clause-given g c b inside =
    let chains = c.args.chains.now in
    given_before (successors c.args.f.now c.args.from.0) chains.first.items chains.next.items c.requires.chains c.args.k c.args.to.0 b c.requires.target
    (c.begins.ensures.no c.if-not-begins.true) (omega (arith, inside, c.requires.blocks))
    (merged (joined g.V.Values.answers) (kept_entries c.args.got.now b) (entered g.V.Values.answers c.args.f.now c.args.from.0 c.args.to.0 (known c.args.end.now))) (kept_entries c.args.got.now b)

pub returns-clause-given : goal.returns-clause-given
returns-clause-given g c b inside =
    let chains = c.args.chains.now in
    let answers = g.V.Values.answers in
    let old = kept_entries c.args.got.now b in
    let next = entered answers c.args.f.now c.args.from.0 c.args.to.0 (known c.args.end.now) in
    given_first (successors c.args.f.now c.args.from.0) chains.first.items chains.next.items c.requires.chains c.args.k c.args.to.0 b c.requires.target
    (c.begins.ensures.yes c.if-not-begins.false) (kept_entries c.give.new.got b) (merged (joined answers) old next) old
    (c.give.ensures.given b inside
    ∙ ap (λ o. if nat_eq b c.args.to.0 then merged (joined answers) old o else old) c.in_ok-next.ensures.handed)
