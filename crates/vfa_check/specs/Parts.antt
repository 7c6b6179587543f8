-- What a checked function carries: its order, the marks of its heads, and its names in scope.
use Rattle.std.specs.Prelude.{◌≡◌, ℕ, false, slice_index_or}
use Rattle.vfa_ir.specs.declared.functions.Function.{Function}
use Rattle.vfa_cfg.specs.Heads.{is_head}
use Rattle.vfa_cfg.specs.Order.{IsOrder}
use Rattle.vfa_check.specs.Scopes.{AreScopes}
use Rattle.vfa_check.specs.declared.checking.Parts.{Parts}

pub record HasItsParts (f : Function) (parts : Parts) : Type 0 where
  pub is_order : IsOrder f parts.order.items
  pub marks : (b : ℕ) → slice_index_or parts.heads.items b false ≡ is_head f parts.order.items b
  pub in_scope : AreScopes f parts.scopes
