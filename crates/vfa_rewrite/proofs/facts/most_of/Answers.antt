use Rattle.std.proofs.Common.{arith}
use Rattle.vfa_word.proofs.Wrapping.{mask_of_width}
use Rattle.vfa_rewrite.proofs.facts.most_of.Goals as goal

pub returns : goal.returns
returns c = let next = mask_of_width c.args.width c.requires.most in omega arith
