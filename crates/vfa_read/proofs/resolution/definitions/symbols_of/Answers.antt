use Rattle.std.proofs.Common.{arith, sym, subst, ap, length, count_by}
use Rattle.std.proofs.lemmas.List.{length-map}
use Rattle.vfa_ir.specs.DefinedNames.{is_numbered}
use Rattle.vfa_read.specs.Resolving.{Left, names_of_blocks, no_names, joined, label_of, IsRepeated}
use Rattle.vfa_read.proofs.Definitions.{all_names, all_left, left_then, left_repeated, room_for, blocks_room_for, whole, none_repeated, scope_is, duplicate_is, err_is, values_of_parameters}
use Rattle.vfa_read.proofs.resolution.definitions.symbols_of.Goals as goal

pub define_parameters-requires : goal.define_parameters-requires
define_parameters-requires c =
    let ps = c.args.parameters.now in
    let bs = c.args.blocks.now in
    let start = c.new-table.result in
    let first = values_of_parameters 0 ps in
    let rest = names_of_blocks (count_by is_numbered c.args.parameters.now) bs in
    let names = joined first rest in
    let none = ap (λ s. length s.values) c.new-table.ensures in
    room_for start names start first rest 4096 (all_left start names) (omega (arith, none, c.requires.names))

pub define_blocks-requires : goal.define_blocks-requires
define_blocks-requires c =
    let ps = c.args.parameters.now in
    let bs = c.args.blocks.now in
    let start = c.new-table.result in
    let first = values_of_parameters 0 ps in
    let rest = names_of_blocks (c.numbered_count.result) bs in
    let names = joined first rest in
    let mid = c.define_parameters.new.self in
    let then = left_then start names start mid first rest (all_left start names) c.in_ok-define_parameters.ensures.ok in
    let last : Left start names mid (joined rest no_names) = subst (Left start names mid) (sym (whole rest)) then in
    let none = ap (λ s. length s.values) c.new-table.ensures in
    let no_block = ap (λ s. length s.blocks) c.new-table.ensures in
    let count = length-map bs (label_of c.numbered_count.result) in
    record {
      values = room_for start names mid rest no_names 4096 last (omega (arith, none, c.requires.names));
      blocks = blocks_room_for start names mid rest no_names 1024 last (omega (arith, no_block, count, c.requires.blocks));
    }

pub returns : goal.returns
returns c =
    let ps = c.args.parameters.now in
    let bs = c.args.blocks.now in
    let start = c.new-table.result in
    let first = values_of_parameters 0 ps in
    let rest = names_of_blocks (c.numbered_count.result) bs in
    let names = joined first rest in
    let mid = c.define_parameters.new.self in
    let then = left_then start names start mid first rest (all_left start names) c.in_ok-define_parameters.ensures.ok in
    let last : Left start names mid (joined rest no_names) = subst (Left start names mid) (sym (whole rest)) then in
    let end = c.define_blocks.new.self in
    let all = left_then start names mid end rest no_names last c.in_ok-define_blocks.ensures.ok in
    let counted = subst (λ n. Left start (joined first (names_of_blocks n bs)) end no_names) c.numbered_count.ensures all in
    let empty = subst (λ s. Left s (all_names ps bs) end no_names) c.new-table.ensures counted in
    record { distinct = none_repeated ps bs end empty; scope = scope_is ps bs end empty; repeated = tt }

pub returns-in_err-define_parameters-clause-repeated : goal.returns-in_err-define_parameters-clause-repeated
returns-in_err-define_parameters-clause-repeated c =
    let ps = c.args.parameters.now in
    let bs = c.args.blocks.now in
    let start = c.new-table.result in
    let first = values_of_parameters 0 ps in
    let rest = names_of_blocks (count_by is_numbered c.args.parameters.now) bs in
    let names = joined first rest in
    let e = c.in_err-define_parameters.field-0.0 in
    let r = left_repeated start names start first rest e (all_left start names) c.in_err-define_parameters.ensures.err in
    let empty = subst (λ s. IsRepeated s (all_names ps bs).all e) c.new-table.ensures r in
    err_is _ _ _ c.from_residual.ensures.1 (duplicate_is ps bs e empty)

pub returns-in_err-define_blocks-clause-repeated : goal.returns-in_err-define_blocks-clause-repeated
returns-in_err-define_blocks-clause-repeated c =
    let ps = c.args.parameters.now in
    let bs = c.args.blocks.now in
    let start = c.new-table.result in
    let first = values_of_parameters 0 ps in
    let rest = names_of_blocks (c.numbered_count.result) bs in
    let names = joined first rest in
    let mid = c.define_parameters.new.self in
    let then = left_then start names start mid first rest (all_left start names) c.in_ok-define_parameters.ensures.ok in
    let last : Left start names mid (joined rest no_names) = subst (Left start names mid) (sym (whole rest)) then in
    let e = c.in_err-define_blocks.field-0.0 in
    let r = left_repeated start names mid rest no_names e last c.in_err-define_blocks.ensures.err in
    let counted = subst (λ n. IsRepeated start (joined first (names_of_blocks n bs)).all e) c.numbered_count.ensures r in
    let empty = subst (λ s. IsRepeated s (all_names ps bs).all e) c.new-table.ensures counted in
    err_is _ _ _ c.from_residual-in_err-define_blocks.ensures.1 (duplicate_is ps bs e empty)
