use Rattle.vfa_read.proofs.KeptLimits.{kept_limits, kept_parameters}
use Rattle.vfa_read.proofs.resolution.functions.function_of.Goals as goal

pub symbols_of-requires : goal.symbols_of-requires
symbols_of-requires c =
    let k = kept_limits c.args.parameters.now c.args.blocks.now c.requires.kept in
    record { names = k.names; blocks = k.blocks }

pub params_of-requires : goal.params_of-requires
params_of-requires c = kept_parameters c.args.parameters.now c.args.blocks.now c.requires.kept
