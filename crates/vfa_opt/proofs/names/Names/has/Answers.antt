use Rattle.std.proofs.Common.{◌∙◌, bytes_eq, sym, ap}
use Rattle.vfa_ir.specs.Words.{is_among}
use Rattle.vfa_opt.proofs.NameSets.{list_any-map}
use Rattle.vfa_opt.proofs.names.Names.has.Goals as goal

pub returns : goal.returns
returns c = c.contains.ensures ∙ sym (list_any-map (λ k. k.now) (bytes_eq c.args.name.now) c.self.inside.set.keys) ∙ ap (is_among c.args.name.now) c.self.view_is
