use Rattle.std.proofs.Common.{◌++◌, ◌∙◌, ap, arith, sum_by}
use Rattle.std.proofs.lemmas.List.{flat_map_more}
use Rattle.std.proofs.lemmas.List.Sums.{sum_by-cons, sum_by_push}
use Rattle.vfa_opt.specs.Works.{portion_accepted, portion_carried, portion_notes, portion_out}
use Rattle.vfa_opt.proofs.MadeItems.{first_next}
use Rattle.vfa_opt.proofs.portions.Portion.append_all.Goals as goal

pub later-preserved : goal.later-preserved
later-preserved c =
    let next = c.in-Some.next in
    let more = sum_by_push portion_carried c.later.yielded next in
    let rest = ap (sum_by portion_carried) c.in-Some.ensures.steps.0 ∙ sum_by-cons portion_carried next c.next.new.self.rest.items in record {
      out =
          c.in_ok-append.ensures.out ∙ ap (λ z. z ++ next.out.items) c.later.invariant.out
          ∙ flat_map_more portion_out c.args.self.now.out.items c.later.yielded next;
      notes =
          c.in_ok-append.ensures.notes ∙ ap (λ z. z ++ next.notes.items) c.later.invariant.notes
          ∙ flat_map_more portion_notes c.args.self.now.notes.items c.later.yielded next;
      accepted =
          c.in_ok-append.ensures.accepted ∙ ap (λ z. z ++ next.accepted.items) c.later.invariant.accepted
          ∙ flat_map_more portion_accepted c.args.self.now.accepted.items c.later.yielded next;
      carried = omega (arith, c.in_ok-append.ensures.carried, c.later.invariant.carried, more);
      to_come = omega (arith, c.in_ok-append.ensures.carried, c.later.invariant.to_come, rest);
      first = first_next c.args.self.now.first_carried c.later.self.first_carried c.append.new.self.first_carried c.later.yielded next
          c.in_ok-append.ensures.first c.later.invariant.first;
    }
