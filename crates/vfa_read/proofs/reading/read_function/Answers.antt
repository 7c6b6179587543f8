use Rattle.vfa_read.proofs.Reasons.{accepts, refuses}
use Rattle.vfa_read.proofs.reading.read_function.Goals as goal

pub returns-clause-accepts : goal.returns-clause-accepts
returns-clause-accepts c = accepts c.args.bytes.now c.args.tokens.now c.read_tokens.result c.read_tokens.ensures.reads c.read_tokens.ensures.refused

pub returns-clause-refuses : goal.returns-clause-refuses
returns-clause-refuses c = refuses c.args.bytes.now c.args.tokens.now c.read_tokens.result c.read_tokens.ensures.reads c.read_tokens.ensures.refused
