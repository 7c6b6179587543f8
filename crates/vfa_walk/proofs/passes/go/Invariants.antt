use Rattle.std.proofs.Common.{◌≡◌, ◌≤◌, ℕ, Bool, true, None, drop, take, length}
use Rattle.vfa_ir.specs.Walks.{is_in}
use Rattle.vfa_cfg.specs.Order.{numbers}
use Rattle.vfa_walk.specs.Analysis.{IsLayout, flow_of}
use Rattle.vfa_walk.specs.Kept.{AreStates, kept_entries, kept_in_order}
use Rattle.vfa_walk.specs.Passes.{go_through, pass_table}
use Rattle.vfa_walk.specs.Sending.{got_from, layout}
use Rattle.vfa_walk.proofs.Passing.{IsAwaited}
use Rattle.vfa_walk.proofs.passes.go.Given as goal

abbrev pub invariant-order : goal.invariant-order
invariant-order g l = record {
  rest : (names : ℕ → ℕ → Bool) → IsLayout l.f (layout l.order names) → (b : ℕ) →
      go_through (flow_of g.V.Values.answers l.f (layout l.order names)) (kept_in_order l.order l.heads) (numbers (drop l.place l.order)) (kept_entries l.table) b
      ≡ pass_table (flow_of g.V.Values.answers l.f (layout l.order names)) (kept_in_order l.order l.heads) b;
  sent : (b : ℕ) → IsAwaited l.f l.order l.place b → kept_entries l.got b ≡ got_from g.V.Values.answers l.f (kept_entries l.table) (numbers (take l.place l.order)) b;
  none : (b : ℕ) → is_in b (numbers (drop l.place l.order)) ≡ true → kept_entries l.table b ≡ None;
  table_states : AreStates g.V.Values.ty g.V.Values.proper l.f l.table;
  got_states : AreStates g.V.Values.ty g.V.Values.proper l.f l.got;
  table_count : length l.table ≡ length l.f.blocks;
  got_count : length l.got ≡ length l.f.blocks;
  within : l.place ≤ length l.order;
}
