use Rattle.std.proofs.Common.{refl}
use Rattle.vfa_cfg.proofs.Members.{false_is_no_truth}
use Rattle.vfa_check.proofs.Stepping.{narrowed}
use Rattle.vfa_check.proofs.narrowing.narrow.Goals as goal

pub returns-then-lost : goal.returns-then-lost
returns-then-lost c =
    let step = c.intersect-lost.ensures in
    narrowed c.args.f.now c.args.from.0 c.args.to.0 c.args.flow.now _ _ _ _ c.intersect-lost.result
    c.requires.shape c.requires.from c.requires.to c.index_mut.ensures.value c.index.ensures refl refl
    (λ e. false_is_no_truth c.if-lost.true e) (λ e. refl) step.row step.both step.kept step.lost

pub returns-else-lost : goal.returns-else-lost
returns-else-lost c =
    let step = c.intersect-lost.ensures in
    narrowed c.args.f.now c.args.from.0 c.args.to.0 c.args.flow.now _ _ _ _ c.intersect-lost.result
    c.requires.shape c.requires.from c.requires.to c.index_mut.ensures.value c.index.ensures refl refl
    (λ e. refl) (λ e. false_is_no_truth e c.if-lost.false) step.row step.both step.kept step.lost
