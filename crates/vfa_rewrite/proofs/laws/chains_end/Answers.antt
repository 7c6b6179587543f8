use Rattle.vfa_rewrite.proofs.Chains.{chain_ends}
use Rattle.vfa_rewrite.proofs.laws.chains_end.Goals as goal

pub returns : goal.returns
returns c f found place ty a printable defined fitting walked usable = chain_ends f printable defined found fitting place ty a walked usable
