-- Nothing is no value, an error is no value, and one value is one.
use Rattle.std.proofs.Common.{◌≡◌, ℕ, Option, Some, None, Result, Ok, Err}

pub none_some : {A : Type 0} {x : A} → ◌≡◌ {A = Option A} None (Some x) → ⊥
none_some e = cc

pub some_same : {A : Type 0} {x y : A} → ◌≡◌ {A = Option A} (Some x) (Some y) → x ≡ y
some_same e = cc

pub err_ok : {A : Type 0} {n : ℕ} {x : A} → ◌≡◌ {A = Result A ℕ} (Err n) (Ok x) → ⊥
err_ok e = cc
