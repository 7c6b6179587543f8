use Rattle.std.proofs.Common.{◌≡◌, ◌+◌, ◌-◌, ◌/◌, ◌^◌, replicate, rules}
use Rattle.vfa_check.proofs.RowBits.{all_ones}
use Rattle.vfa_check.proofs.name_rows.NameRow.full.Goals as goal

pub returns-clause-all : goal.returns-clause-all
returns-clause-all c =
    let items : c.in_ok-vec.field-0.items ≡ replicate (c.args.names / 64 + 1) (2 ^ 64 - 1) = search rules in
    λ v. rw items (all_ones c.args.names v)
