-- The names in scope (LLVM Language Reference, "Well-Formedness": a definition comes before its uses on every walk).
--
-- In `entry: br i1 %c, label %a, label %b`, `a: %x = add i8 %p, 1`, `br label %b`, `b: ret i8 %p`, the name %x is in scope
-- at the end of a. It is not at the entry of b, since the walk entry, b misses it. Of a block that no walk reaches each
-- name is in scope.
use Rattle.std.specs.Prelude.{◌≡◌, ℕ, Bool, MatchBool, All, length}
use Rattle.vfa_ir.specs.declared.functions.Function.{Function}
use Rattle.vfa_ir.specs.Defined.{line_count}
use Rattle.vfa_ir.specs.Walks.{IsDefinedAt, IsMissedAt}
use Rattle.vfa_check.specs.declared.scopes.Scopes.{Scopes}
use Rattle.vfa_check.specs.NameRows.{IsRow, has_at}

-- whether a name is in scope at the entry of a block, its phis included; at its end
abbrev pub is_defined : Scopes → ℕ → ℕ → Bool
is_defined s b v = has_at s.entries.items b v

abbrev pub is_defined_behind : Scopes → ℕ → ℕ → Bool
is_defined_behind s b v = has_at s.ends.items b v

-- Each block has its rows. A name that is in scope is defined on every walk there, and one that is not is missed on some walk.
pub record AreScopes (f : Function) (s : Scopes) : Type 0 where
  pub whole : length s.entries.items ≡ length f.blocks
  pub rows : All (IsRow (length f.values)) s.entries.items
  pub entries : (b v : ℕ) → MatchBool (is_defined s b v) (IsDefinedAt f b 0 v) (IsMissedAt f b 0 v)
  pub ends : (b v : ℕ) → MatchBool (is_defined_behind s b v) (IsDefinedAt f b (line_count f b) v) (IsMissedAt f b (line_count f b) v)
