use Rattle.std.proofs.Common.{◌≡◌, ◌+◌, ◌*◌, refl, arith, append_assoc}
use Rattle.vfa_opt.proofs.GeneratedOneByOne.{one_function, more_functions}
use Rattle.vfa_opt.proofs.GeneratedPrinted.{generated_is}
use Rattle.vfa_opt.proofs.GeneratedLimit.{within_limit}
use Rattle.vfa_opt.proofs.GeneratedStates.{after_none, after_more}
use Rattle.vfa_opt.proofs.generator.generated.Goals as goal

pub functions-init : goal.functions-init
functions-init c = record {
  some = omega arith;
  text =
      rw (c.in_ok-push_function.ensures.text, one_function c.args.seed, after_none c.args.seed, c.from.ensures, c.new-text.ensures.items) refl;
  state = rw (c.in_ok-push_function.ensures.state, c.from.ensures) refl;
}

pub functions-preserved : goal.functions-preserved
functions-preserved c = record {
  some = omega arith;
  text =
      rw (
        c.in_ok-push_function-2.ensures.text,
        c.in_ok-extend_from_slice.ensures.items,
        c.functions.invariant.text,
        c.functions.invariant.state,
        more_functions c.args.seed c.functions.number c.functions.invariant.some,
      )
      (simp append_assoc);
  state =
      rw (c.in_ok-push_function-2.ensures.state, c.functions.invariant.state)
      (after_more 165 (165 * c.functions.number) (165 * (c.functions.number + 1)) c.args.seed (omega arith));
}

pub returns-clause-text : goal.returns-clause-text
returns-clause-text c =
    let end : c.functions.number ≡ 256 = omega arith in
    rw (c.in_ok-push.ensures.items, c.functions.invariant.text, end) (generated_is c.args.seed)

pub returns-clause-limit : goal.returns-clause-limit
returns-clause-limit c =
    let end : c.functions.number ≡ 256 = omega arith in
    rw (c.in_ok-push.ensures.items, c.functions.invariant.text, end) (within_limit c.args.seed)
