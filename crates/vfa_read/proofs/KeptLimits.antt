-- What a tree that keeps the limits has.
use Rattle.std.proofs.Common.{◌≡◌, ◌≤◌, ℕ, List, Bool, true, false, length, if◌then◌else◌, Some, None, refl, nat_lt, arith}
use Rattle.std.specs.List.{list_any}
use Rattle.vfa_ir.specs.declared.reasons.Kind.{Kind}
use Rattle.vfa_ir.specs.declared.syntax.BasicBlock.{BasicBlock}
use Rattle.vfa_ir.specs.declared.syntax.Parameter.{Parameter}
use Rattle.vfa_ir.specs.DefinedNames.{value_names}
use Rattle.vfa_ir.specs.Reads.{cases_of, too_many}
use Rattle.vfa_read.proofs.NameCounts.{length-value_names}
use Rattle.vfa_read.specs.Resolving.{tree}

pub record Kept (ps : List Parameter) (bs : List BasicBlock) : Type 0 where
  pub names : length (value_names (tree ps bs)) ≤ 4096
  pub blocks : length bs ≤ 1024

not_below : (n m : ℕ) → nat_lt n m ≡ false → m ≤ n
not_below n m h = grind (arith, h)

all_false : (a b c : Bool) → (if a then Some Kind.Names else if b then Some Kind.Blocks else if c then Some Kind.Cases else None) ≡ None → (a ≡ false) × (b ≡ false)
all_false false false c h = (refl, refl)
all_false false true c h = cc
all_false true b c h = cc

pub kept_limits : (ps : List Parameter) (bs : List BasicBlock) → too_many (tree ps bs) ≡ None → Kept ps bs
kept_limits ps bs h =
    let no = all_false (nat_lt 4096 (length (value_names (tree ps bs)))) (nat_lt 1024 (length bs)) (list_any (λ b. nat_lt 1024 (cases_of b.terminator.kind)) bs) h in
    record { names = not_below 4096 _ no.0; blocks = not_below 1024 _ no.1 }

pub kept_parameters : (ps : List Parameter) (bs : List BasicBlock) → too_many (tree ps bs) ≡ None → length ps ≤ 4096
kept_parameters ps bs h =
    let k = (kept_limits ps bs h).names in
    let e = length-value_names ps bs in
    omega (arith, e, k)
