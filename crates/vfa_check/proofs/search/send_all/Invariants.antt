use Rattle.vfa_check.proofs.Sending.{IsRound}
use Rattle.vfa_check.proofs.search.send_all.Given as goal

abbrev pub invariant-places : goal.invariant-places
invariant-places l = IsRound l.f l.order l.b-index l.initial.flow l.flow l.lost
