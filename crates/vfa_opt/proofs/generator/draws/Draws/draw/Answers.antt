use Rattle.std.proofs.Common.{◌*◌, ◌^◌, refl}
use Rattle.std.proofs.Math.Nat.{mod-add-mod}
use Rattle.vfa_opt.specs.Generated.{next_state, drawn}
use Rattle.vfa_opt.proofs.generator.draws.Draws.draw.Goals as goal

pub returns-clause-value : goal.returns-clause-value
unfolding next_state drawn
returns-clause-value c =
    rw (mod-add-mod (c.args.self.now.state * 6364136223846793005) (2 ^ 64) 1442695040888963407, c.from.ensures) refl

pub returns-clause-state : goal.returns-clause-state
unfolding next_state
returns-clause-state c = mod-add-mod (c.args.self.now.state * 6364136223846793005) (2 ^ 64) 1442695040888963407
