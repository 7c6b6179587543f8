use Rattle.std.proofs.Common.{refl}
use Rattle.vfa_opt.proofs.NameSets.{names-insert_key}
use Rattle.vfa_opt.proofs.names.Names.add.Goals as goal

pub returns : goal.returns
returns c = names-insert_key (λ k. k.now) c.self.inside.set.keys c.insert.new.self.keys c.args.name c.args.name.now c.args.self.now refl c.self.view_is c.requires c.in_ok-insert.ensures.keys
