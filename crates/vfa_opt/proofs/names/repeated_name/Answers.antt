use Rattle.std.proofs.Common.{◌≡◌, ◌∙◌, ◌∷◌, ◌++◌, [], false, ap, sym}
use Rattle.vfa_ir.specs.DefinedNames.{first_repeated}
use Rattle.vfa_ir.specs.Words.{is_among}
use Rattle.vfa_opt.proofs.NameSets.{added, next_name}
use Rattle.vfa_opt.proofs.names.repeated_name.Goals as goal

pub functions-preserved : goal.functions-preserved
functions-preserved c =
    let name = c.function-item.result.name in
    let among : is_among name c.functions.seen ≡ false = cc in
    let named = next_name c.args.all.now c.functions.function-index c.function-item.result c.function-item.is c.functions-test.true in
    added c.functions.seen c.add.new.self _ name _
    (ap (first_repeated c.functions.seen) (sym named) ∙ c.functions.invariant) among
    (c.in_ok-add.ensures ∙ ap (λ n. c.functions.seen ++ n ∷ []) c.bytes-name.ensures)
