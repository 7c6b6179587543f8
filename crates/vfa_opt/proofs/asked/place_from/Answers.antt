use Rattle.vfa_opt.proofs.Subjects.{few_blocks}
use Rattle.vfa_opt.proofs.asked.place_from.Goals as goal

pub block_of-requires : goal.block_of-requires
block_of-requires c = few_blocks c.args.f.now c.args.names.now c.requires.names c.requires.small
