use Rattle.vfa_module.proofs.NamedDefines.{string_to_end}
use Rattle.vfa_module.proofs.laws.an_unclosed_string_is_the_rest.Goals as goal

pub returns : goal.returns
returns c = string_to_end
