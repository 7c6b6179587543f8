use Rattle.std.proofs.Common.{◌∙◌, position, bytes_eq, sym, ap}
use Rattle.vfa_ir.specs.Words.{is_among}
use Rattle.vfa_read.proofs.SymbolPlaces.{list_any-map, position-map}
use Rattle.vfa_read.proofs.resolution.symbols.Symbols.place.Goals as goal

pub returns-clause-place : goal.returns-clause-place
returns-clause-place c = c.get_index_of.ensures.index ∙ sym (position-map (λ k. k.items) (bytes_eq c.args.name.now) c.self.inside.set.keys) ∙ ap (position (bytes_eq c.args.name.now)) c.self.view_is

pub returns-clause-found : goal.returns-clause-found
returns-clause-found c = c.get_index_of.ensures.found ∙ sym (list_any-map (λ k. k.items) (bytes_eq c.args.name.now) c.self.inside.set.keys) ∙ ap (is_among c.args.name.now) c.self.view_is
