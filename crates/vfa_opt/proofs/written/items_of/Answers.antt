use Rattle.std.proofs.lemmas.List.Elements.{All-from_recursion}
use Rattle.vfa_opt.specs.Works.{IsPlaced}
use Rattle.vfa_opt.proofs.WrittenModules.{cover_placed}
use Rattle.vfa_opt.proofs.written.items_of.Goals as goal

pub returns-in-Ok-clause-places : goal.returns-in-Ok-clause-places
returns-in-Ok-clause-places c =
    let input = c.args.bytes.now in
    let items = c.in-Ok.items.items in
    All-from_recursion (IsPlaced input) items (cover_placed input 0 items c.in-Ok.ensures.parts c.in-Ok.ensures.cover)
