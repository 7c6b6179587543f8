use Rattle.std.proofs.Common.{false}
use Rattle.std.specs.Prelude.{slice_index_or}
use Rattle.vfa_rewrite.proofs.TermsPut.{case_gone}
use Rattle.vfa_rewrite.proofs.putting_terms.cases_left.Goals as goal

pub each-preserved-then-not-has_left : goal.each-preserved-then-not-has_left
each-preserved-then-not-has_left c =
    let is = c.has_left.ensures in
    let gone = c.if-not-has_left.true in
    case_gone (λ k. slice_index_or c.args.left.now k false) c.args.cases.now c.each.k (0, record { 0 = 0 }) c.each-test.true c.each.all.items _ c.each.invariant cc
