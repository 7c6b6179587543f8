use Rattle.std.proofs.Common.{◌≡◌, ◌∙◌, ℕ, None, true, false, length, refl, sym, ap}
use Rattle.std.specs.Prelude.{slice_index_or}
use Rattle.std.specs.Option.{option_or}
use Rattle.std.proofs.lemmas.Result.{IfOk-weaker}
use Rattle.vfa_ir.specs.declared.functions.Block.{Block}
use Rattle.vfa_mean.specs.Kept.{is_marked}
use Rattle.vfa_rules.specs.Uses.{first_found}
use Rattle.vfa_walk.specs.Kept.{kept_entries}
use Rattle.vfa_rewrite.specs.ByFacts.{findings_of}
use Rattle.vfa_rewrite.specs.Chains.{itself}
use Rattle.vfa_rewrite.specs.Making.{first_marks}
use Rattle.vfa_rewrite.specs.Putting.{call_in, call_within}
use Rattle.vfa_rewrite.specs.Rewritten.{block_left, emptied, rewritten_block, if_block_left, with_numbers}
use Rattle.vfa_rewrite.proofs.CallsPut.{within_gone, within_reached}
use Rattle.vfa_rewrite.proofs.Noting.{or_none}
use Rattle.vfa_rewrite.proofs.putting.put_block.Goals as goal

pub returns-then-not-has_left : goal.returns-then-not-has_left
returns-then-not-has_left c =
    let f = c.args.f.now in
    let b = c.args.b.0 in
    let block = c.args.block.now in
    let found = findings_of f (kept_entries c.args.table.now) in
    let reached = is_marked c.args.reached.now in
    let result = c.has_left.ensures in
    let not_left = c.if-not-has_left.true in
    let gone : reached b ≡ false = cc in
    record {
      room = IfOk-weaker c.emptied.result (λ (x : Block). x ≡ emptied block) (λ (x : Block). length c.args.left.now.items ≡ length c.args.left.now.items) (λ x e. refl) c.emptied.ensures;
      count = IfOk-weaker c.emptied.result (λ (x : Block). x ≡ emptied block) (λ (x : Block). length c.args.calls.now.items ≡ length c.args.calls.now.items) (λ x e. refl) c.emptied.ensures;
      block = IfOk-weaker c.emptied.result (λ (x : Block). x ≡ emptied block) (λ (x : Block). x ≡ block_left f (first_marks f found reached) b block)
          (λ x e. e ∙ ap (λ t. if_block_left t (rewritten_block f (first_marks f found reached) b block) (emptied block)) (sym gone)) c.emptied.ensures;
      calls = IfOk-weaker c.emptied.result (λ (x : Block). x ≡ emptied block)
          (λ (x : Block). (k : ℕ) → slice_index_or c.args.calls.now.items k None ≡ option_or (slice_index_or c.args.calls.now.items k None) (call_within f found reached k b block))
          (λ x e k. sym (or_none (slice_index_or c.args.calls.now.items k None)) ∙ ap (option_or (slice_index_or c.args.calls.now.items k None)) (within_gone f found k reached b block gone)) c.emptied.ensures;
    }

pub returns-clause-block : goal.returns-clause-block
returns-clause-block c =
    let f = c.args.f.now in
    let b = c.args.b.0 in
    let block = c.args.block.now in
    let found = findings_of f (kept_entries c.args.table.now) in
    let reached = is_marked c.args.reached.now in
    let result = c.has_left.ensures in
    let is_left = c.if-not-has_left.false in
    let stays : reached b ≡ true = cc in
    IfOk-weaker c.put_reached.result (λ (x : Block). x ≡ rewritten_block f (first_marks f found reached) b block) (λ (x : Block). x ≡ block_left f (first_marks f found reached) b block)
    (λ x e. e ∙ ap (λ t. if_block_left t (rewritten_block f (first_marks f found reached) b block) (emptied block)) (sym stays)) c.put_reached.ensures.block

pub returns-clause-calls : goal.returns-clause-calls
returns-clause-calls c =
    let f = c.args.f.now in
    let b = c.args.b.0 in
    let block = c.args.block.now in
    let found = findings_of f (kept_entries c.args.table.now) in
    let reached = is_marked c.args.reached.now in
    let result = c.has_left.ensures in
    let is_left = c.if-not-has_left.false in
    let stays : reached b ≡ true = cc in
    IfOk-weaker c.put_reached.result
    (λ (x : Block). (k : ℕ) → slice_index_or c.put_reached.new.calls.items k None ≡
    option_or (slice_index_or c.args.calls.now.items k None) (first_found itself (with_numbers (call_in f found k b) 0 block.insts)))
    (λ (x : Block). (k : ℕ) → slice_index_or c.put_reached.new.calls.items k None ≡ option_or (slice_index_or c.args.calls.now.items k None) (call_within f found reached k b block))
    (λ x e k. e k ∙ ap (option_or (slice_index_or c.args.calls.now.items k None)) (within_reached f found k reached b block stays)) c.put_reached.ensures.calls
