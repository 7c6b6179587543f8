use Rattle.std.proofs.Common.{map}
use Rattle.vfa_ir.specs.Printable.{inst_ids}
use Rattle.vfa_check.proofs.Adding.{insts_in_range}
use Rattle.vfa_check.proofs.results.add_results.Goals as goal

pub add_insts-requires-clause-names : goal.add_insts-requires-clause-names
add_insts-requires-clause-names c =
    let block = c.args.block.now in
    let names = (c.add_phis.ensures.row c.args.row.now.names c.requires.row).names in
    rw c.as_slice-2.ensures
    (insts_in_range (map (λ p. p.result.0) block.phis) (inst_ids block.insts) c.args.row.now.names c.add_phis.new.row.names names c.requires.names)
