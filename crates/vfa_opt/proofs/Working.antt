-- What is made of an item is what its piece asks for.
use Rattle.std.proofs.Common.{◌≡◌, ◌∙◌, ◌⊎◌, inl, inr, ℕ, Some, Result, Ok, Err, List, refl, sym, ap, subst, slice_range}
use Rattle.std.specs.Prelude.{IfOk}
use Rattle.vfa_ir.specs.declared.functions.Function.{Function}
use Rattle.vfa_ir.specs.declared.reasons.Outside.{Outside}
use Rattle.vfa_module.specs.declared.items.Item.{Item}
use Rattle.vfa_opt.specs.declared.work.Carried.{Carried}
use Rattle.vfa_opt.specs.declared.work.Worked.{Worked}
use Rattle.vfa_opt.specs.declared.writings.Writing.{Writing}
use Rattle.vfa_opt.specs.Acceptance.{IsInside, IsOutside, in_module}
use Rattle.vfa_opt.specs.Module.{copied, accepted, carried, define_name, note_text}
use Rattle.vfa_opt.specs.Works.{IsRange, IsPlaced, IsWorkOn, IsWorked}

lines_worked : (writing : Writing) (input : List ℕ) (start end : ℕ) → IsRange input start end →
    IsWorked writing input (Item.Lines start end) (Worked.Copied start end)
lines_worked writing input start end range = record {
  piece = copied (slice_range input start end);
  is = refl;
  work = record { text = refl; sound = tt; note = refl; name = refl; carried = refl; within = range };
}

pub function_worked : {E : Type 0} (writing : Writing) (input : List ℕ) (start end line : ℕ) (f : Function) (r : Result Worked E) → IsInside (slice_range input start end) f →
    IfOk r (IsWorkOn writing input (accepted f)) → IfOk r (IsWorked writing input (Item.Define start end line))
function_worked writing input start end line f (Ok worked) inside work = record { piece = accepted f; is = inside; work = work }
function_worked writing input start end line f (Err e) inside work = tt

pub carried_worked : (writing : Writing) (input : List ℕ) (start end line : ℕ) (function : Carried) (within : Outside) → IsRange input start end →
    (within ≡ Outside.Memory → ⊥) → (within ≡ Outside.Memory) ⊎ IsOutside (slice_range input start end) within →
    function.name ≡ define_name (slice_range input start end) → function.reason ≡ in_module line within →
    IsWorked writing input (Item.Define start end line) (Worked.Carried start end function)
carried_worked writing input start end line function within range other (inl memory) name reason = absurd (other memory)
carried_worked writing input start end line function within range other (inr outside) name reason =
    let text : List ℕ = slice_range input start end in
    let shown : Carried = record { name = define_name text; reason = in_module line within } in
    let renamed : Carried = record { name = define_name text; reason = function.reason } in
    let first : function ≡ renamed = ap (λ (n : List ℕ). let c : Carried = record { name = n; reason = function.reason } in c) name in
    let second : renamed ≡ shown = ap (λ (r : Outside). let c : Carried = record { name = define_name text; reason = r } in c) reason in
    let same : function ≡ shown = first ∙ second in record {
      piece = carried text (in_module line within);
      is = (refl, record { within = within; outside = outside; same = refl });
      work = record { text = refl; sound = tt; note = ap note_text same; name = refl; carried = ap Some same; within = range };
    }

pub lines_item : (writing : Writing) (input : List ℕ) (item : Item) (start end : ℕ) → item ≡ Item.Lines start end → IsPlaced input item →
    IsWorked writing input item (Worked.Copied start end)
lines_item writing input item start end is placed =
    subst (λ i. IsWorked writing input i (Worked.Copied start end)) (sym is)
    (lines_worked writing input start end (subst (λ i. IsPlaced input i) is placed))
