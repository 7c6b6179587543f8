use Rattle.std.proofs.Common.{◌≡◌, ℕ, true, false, List, ◌++◌, length, take, drop, Option, Some, None, MatchOption, bytes_eq, Bor, ◌+◌}
use Rattle.vfa_read.proofs.CalleeNames.{prefix_none, prefix_some}
use Rattle.vfa_read.proofs.intrinsics.after.Goals as goal

by_cases : (text prefix : List ℕ) (r : Option (Bor (List ℕ))) →
    MatchOption r (bytes_eq (take (length prefix) text) prefix ≡ false) (λ x. (bytes_eq (take (length prefix) text) prefix ≡ true) × (x.now ≡ drop (length prefix) text) × (length x.now + length prefix ≡ length text)) →
    MatchOption r ((rest : List ℕ) → text ≡ prefix ++ rest → ⊥) (λ rest. text ≡ prefix ++ rest.now)
by_cases text prefix None h = prefix_none text prefix h
by_cases text prefix (Some x) h = prefix_some text prefix x.now h.0 h.1

pub returns : goal.returns
returns c = by_cases c.args.text.now c.args.prefix.now c.strip_prefix.result c.strip_prefix.ensures.cases
