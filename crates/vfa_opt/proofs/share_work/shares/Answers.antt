use Rattle.std.proofs.Common.{◌∙◌, ◌++◌, [], ap, append_assoc, length, length-append, min, sym}
use Rattle.std.proofs.lemmas.List.{flat_map_more, length_push}
use Rattle.vfa_opt.specs.Works.{items_in}
use Rattle.vfa_opt.proofs.ShareCounts.{cut_more}
use Rattle.vfa_opt.proofs.share_work.shares.Goals as goal

pub shares-preserved : goal.shares-preserved
shares-preserved c =
    let before = c.shares.all.items in
    let share = c.in-Some.share in
    let rest = c.shares.share-iterator.rest.now in
    let left = c.next.new.self.rest.now in
    let steps = c.in-Some.ensures.steps.1 in record {
      size = c.in-Some.ensures.steps.0 ∙ c.shares.invariant.size;
      whole =
          ap (λ l. items_in l ++ left) c.in_ok-push.ensures.items
          ∙ (ap (λ l. l ++ left) (sym (flat_map_more (λ s. s.now) [] before share)) ∙ append_assoc (items_in before) share.now left)
          ∙ (ap (λ l. items_in before ++ l) (sym steps.0) ∙ c.shares.invariant.whole);
      cuts =
          cut_more c.share_size-size.result (length c.args.items.now) c.args.workers (length before) (length c.push.new.self.items) (length rest) (length left)
          (length share.now) c.share_size-size.ensures.holds_all (ap length c.in_ok-push.ensures.items ∙ length_push before share)
          (steps.1 ∙ ap (λ n. min n (length rest)) c.shares.invariant.size) steps.2 (ap length steps.0 ∙ length-append share.now left)
          c.shares.invariant.cuts;
    }
