use Rattle.vfa_module.proofs.NamedDefines.{define_named}
use Rattle.vfa_module.proofs.laws.a_define_has_a_name.Goals as goal

pub returns : goal.returns
returns c = define_named
