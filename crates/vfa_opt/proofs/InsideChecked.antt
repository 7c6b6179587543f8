-- A function of the profile has as many names as the profile allows at most.
use Rattle.std.proofs.Common.{◌≡◌, ◌≤◌, ℕ, Bool, true, false, if◌then◌else◌, nat_lt, Option, Some, None, List, length, refl, sym, subst}
use Rattle.std.proofs.lemmas.Bool.{ltb-false}
use Rattle.vfa_ir.specs.declared.functions.Function.{Function}
use Rattle.vfa_ir.specs.declared.reasons.Kind.{Kind}
use Rattle.vfa_ir.specs.DefinedNames.{value_names}
use Rattle.vfa_ir.specs.Limits.{most_names}
use Rattle.vfa_ir.specs.Reads.{tail_bytes}
use Rattle.vfa_ir.specs.Tokens.{tokens_of}
use Rattle.vfa_print.proofs.NamesInOrder.{values_length}
use Rattle.vfa_opt.specs.Acceptance.{IsInside}

first_kept : (t : Bool) (k : Kind) (rest : Option Kind) → (if t then Some k else rest) ≡ None → t ≡ false
first_kept true k rest e = absurd (cc)
first_kept false k rest e = refl

pub few_names : (text : List ℕ) (f : Function) → IsInside text f → length f.values ≤ most_names
few_names text f i =
    let s = i.reads.reads.sentence in
    let tail = tail_bytes text (tokens_of text) s in
    let names : length (value_names s) ≤ 4096 = ltb-false 4096 (length (value_names s)) (first_kept (nat_lt most_names (length (value_names s))) Kind.Names _ i.reads.kept) in
    subst (λ (g : Function). length g.values ≤ most_names) i.reads.reads.function (subst (λ n. n ≤ most_names) (sym (values_length s tail)) names)
