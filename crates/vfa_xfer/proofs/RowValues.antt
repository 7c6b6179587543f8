-- What the code makes of known bits, arcs and bounds is what the rows say.
use Rattle.std.proofs.Common.{◌≡◌, ◌≢◌, ℕ, ◌<◌, Bool, true, false, not, sym, ◌∙◌, ap, subst, refl, arith, Option, Some}
use Rattle.std.specs.Option.{option_map, option_and_then}
use Rattle.vfa_ir.specs.declared.operations.Flags.{Flags}
use Rattle.vfa_word.specs.declared.arith.Arith.{Arith}
use Rattle.vfa_dom.specs.Best.{Masks, best_of}
use Rattle.vfa_dom.specs.Results.{results, results_over}
use Rattle.vfa_known.specs.Cube.{in_masks}
use Rattle.vfa_known.specs.Known.{masks_of, in_known}
use Rattle.vfa_known.specs.declared.known.Known.{Known}
use Rattle.vfa_wrap.specs.Arc.{Span}
use Rattle.vfa_wrap.specs.Between.{AreEnds}
use Rattle.vfa_wrap.specs.Ends.{EndsOf}
use Rattle.vfa_wrap.specs.WholeSpans.{AreOperandEnds}
use Rattle.vfa_fact.specs.declared.cuts.Amounts.{Amounts}
use Rattle.vfa_fact.specs.declared.numbers.Numbers.{Numbers}
use Rattle.vfa_fact.specs.Cuts.{AmountsOf, amounts_of, shown_amounts}
use Rattle.vfa_fact.specs.Fact.{masks_in, in_numbers}
use Rattle.vfa_xfer.specs.Binary.{best_results, best_shifts, over_amounts}
use Rattle.vfa_xfer.specs.Bounds.{BoundsOf, no_bounds, both_bounds, bound_if, wrap_bounds, row_of, keeps_in_range}
use Rattle.vfa_xfer.specs.Rows.{RowOf}

pub best_values : (w : ℕ) (op : ℕ → ℕ → ℕ) (k l : Known w) (r : Masks) (m n : Numbers) → masks_of k ≡ masks_in m → masks_of l ≡ masks_in n →
    r ≡ best_of w (results w op (in_known w k) (in_known w l)) → r ≡ best_results w op m n
unfolding best_results
best_values w op k l r m n left right best = best ∙ (λ i. best_of w (results w op (in_masks w (left i)) (in_masks w (right i))))

pub shift_values : (w : ℕ) (op : ℕ → ℕ → ℕ) (k : Known w) (r : Masks) (m : Numbers) (mask : ℕ) → masks_of k ≡ masks_in m →
    r ≡ best_of w (results_over w op (in_known w k) mask) → r ≡ best_shifts w op m mask
unfolding best_shifts
shift_values w op k r m mask left best = best ∙ (λ i. best_of w (results_over w op (in_masks w (left i)) mask))

pub row_values : (cube cube' : Masks) (arc arc' : Option Span) (b b' : Option BoundsOf) → cube ≡ cube' → arc ≡ arc' → b ≡ b' → row_of cube arc b ≡ row_of cube' arc' b'
row_values cube cube' arc arc' b b' e f h = λ i. row_of (e i) (f i) (h i)

-- the row at the amounts that the code finds
pub amounts_at : (w : ℕ) (row : AmountsOf → Option RowOf) (n : Numbers) (o : Option (Amounts w)) (t : Amounts w) →
    option_map shown_amounts o ≡ amounts_of w (in_numbers w n) → o ≡ Some t → row (shown_amounts t) ≡ over_amounts w row n
unfolding over_amounts
amounts_at w row n o t exact some = ap (option_and_then row) (sym (ap (option_map shown_amounts) some) ∙ exact)

-- without flags there are no bounds
none_asked : (p q : Bool) (w : ℕ) (o o' : Option Span) → p ≡ false → q ≡ false → Some (no_bounds w) ≡ both_bounds (bound_if p w o) (bound_if q w o')
none_asked false false w o o' e f = refl
none_asked true q w o o' e f = absurd (cc)
none_asked false true w o o' e f = absurd (cc)

unset : (b : Bool) → not b ≡ true → b ≡ false
unset b e = grind arith

pub unflagged : (op : Arith) (flags : Flags) (w : ℕ) (a b : EndsOf) → not flags.nuw ≡ true → not flags.nsw ≡ true → Some (no_bounds w) ≡ wrap_bounds op flags w a b
unfolding wrap_bounds
unflagged op flags w a b e f = none_asked flags.nuw flags.nsw w _ _ (unset flags.nuw e) (unset flags.nsw f)

pub unflagged_keeps : (op : Arith) (flags : Flags) (w : ℕ) (a b : EndsOf) → not flags.nuw ≡ true → not flags.nsw ≡ true → true ≡ keeps_in_range op flags w a b
unfolding keeps_in_range
unflagged_keeps op flags w a b e f = grind arith

pub operand_ends : (op : Arith) (w : ℕ) (b : EndsOf) → op ≢ Arith.Shl → AreEnds w b → AreOperandEnds op w b
operand_ends Arith.Add w b other ends = ends
operand_ends Arith.Sub w b other ends = ends
operand_ends Arith.Mul w b other ends = ends
operand_ends Arith.Shl w b other ends = absurd (other refl)

-- the ends of amounts, where the operation is a shift
pub shift_ends : (op : Arith) (w : ℕ) (known b : EndsOf) → b ≡ known → (op ≡ Arith.Shl → known.hi < w) → AreEnds w b → AreOperandEnds op w b
shift_ends Arith.Add w known b same below ends = ends
shift_ends Arith.Sub w known b same below ends = ends
shift_ends Arith.Mul w known b same below ends = ends
shift_ends Arith.Shl w known b same below ends = (ends, subst (λ (e : EndsOf). e.hi < w) (sym same) (below refl))
