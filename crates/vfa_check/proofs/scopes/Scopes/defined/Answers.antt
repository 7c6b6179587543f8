use Rattle.std.proofs.Common.{arith}
use Rattle.vfa_check.proofs.ScopesFound.{past_scope}
use Rattle.vfa_check.proofs.scopes.Scopes.defined.Goals as goal

pub returns-in-None-clause-scope : goal.returns-in-None-clause-scope
returns-in-None-clause-scope c = λ f s.
    past_scope _ _ c.args.self.now.entries.items c.args.b.0 c.args.v.0 (omega (arith, c.in-None.ensures.lookup.3, c.deref.ensures.len))
    (s.entries c.args.b.0 c.args.v.0)
