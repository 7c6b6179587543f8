use Rattle.std.proofs.Common.{◌+◌, ◌*◌, sym, arith, append_assoc, append-nil}
use Rattle.vfa_opt.proofs.GeneratedStates.{after_none, after_more}
use Rattle.vfa_opt.proofs.GeneratedOneByOne.{no_lines, more_lines}
use Rattle.vfa_opt.proofs.generator.functions.push_lines.Goals as goal

pub lines-init : goal.lines-init
lines-init c = record {
  text = rw (no_lines c.args.width c.args.draws.now.state) (sym (append-nil c.args.text.now.items));
  state = sym (after_none c.args.draws.now.state);
}

pub lines-preserved : goal.lines-preserved
lines-preserved c = record {
  text =
      rw (
        c.in_ok-push_line.ensures.text,
        c.lines.invariant.text,
        c.lines.invariant.state,
        more_lines c.args.width c.lines.place c.args.draws.now.state,
      )
      (simp append_assoc);
  state =
      rw (c.in_ok-push_line.ensures.state, c.lines.invariant.state)
      (after_more 4 (4 * c.lines.place) (4 * (c.lines.place + 1)) c.args.draws.now.state (omega arith));
}
