use Rattle.std.proofs.Common.{◌≡◌, ◌∙◌, ◌+◌, ◌-◌, ◌<◌, ℕ, Bool, ap, arith, drop, false, get_or, length, length-set, set}
use Rattle.std.proofs.lemmas.List.{get_or_default}
use Rattle.vfa_ir.specs.declared.operations.BlockId.{BlockId}
use Rattle.vfa_cfg.specs.Heads.{heads_of, is_head}
use Rattle.vfa_cfg.proofs.Marks.{order_in_range}
use Rattle.vfa_check.proofs.HeadMarks.{all_heads, marked_next}
use Rattle.vfa_check.proofs.head_marks.head_marks.Goals as goal

pub index-requires : goal.index-requires
index-requires c =
    let long : length c.in_ok-heads.heads.items ≡ length c.args.order.now = ap length c.in_ok-heads.ensures ∙ all_heads c.args.f.now c.args.order.now in
    omega arith

pub index_mut-requires : goal.index_mut-requires
index_mut-requires c =
    let d : BlockId = record { 0 = 0 } in
    let p : ℕ = c.places.place - 1 in
    let within : p < length c.args.order.now = omega arith in
    let in_range : (get_or c.args.order.now p d).0 < length c.args.f.now.blocks = order_in_range c.args.f.now c.args.order.now c.requires.order p d within in
    omega arith

pub places-preserved : goal.places-preserved
places-preserved c =
    let f = c.args.f.now in
    let order = c.args.order.now in
    let d : BlockId = record { 0 = 0 } in
    let p : ℕ = c.places.place - 1 in
    let within : p < length order = omega arith in
    let in_range : (get_or order p d).0 < length f.blocks = order_in_range f order c.requires.order p d within in
    let each : length c.places.marks.items ≡ length f.blocks = c.places.invariant.each in
    let inside : (get_or order p d).0 < length c.places.marks.items = omega arith in
    let next : c.places.place ≡ p + 1 = omega arith in
    let long : length c.in_ok-heads.heads.items ≡ length order = ap length c.in_ok-heads.ensures ∙ all_heads f order in
    let among : p < length c.in_ok-heads.heads.items = omega arith in
    let value : c.index.result.now ≡ get_or (heads_of f order) p false =
    c.index.ensures ∙ get_or_default c.in_ok-heads.heads.items p c.index.result.now false among ∙ ap (λ hs. get_or hs p false) c.in_ok-heads.ensures in
    record {
      each = length-set c.places.marks.items (get_or order p d).0 c.index.result.now ∙ each;
      marked = λ b.
          ap (λ (v : Bool). get_or (set c.places.marks.items (get_or order p d).0 v) b false) value
          ∙ marked_next f order p d c.places.marks.items b within inside
          (c.places.invariant.marked b ∙ ap (λ n. is_head f (drop n order) b) next);
    }
