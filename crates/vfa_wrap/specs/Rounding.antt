-- Rounding an arc out to marks, as a widening with landmarks does: an end that moved goes on to the nearest mark.
use Rattle.std.specs.Prelude.{ℕ, ◌+◌, ◌-◌, ◌%◌, ◌^◌, Bool, List, nat_eq, nat_le, if◌then◌else◌}
use Rattle.std.specs.List.{list_any}
use Rattle.vfa_dom.specs.Search.{least_below}
use Rattle.vfa_wrap.specs.Arc.{Span, steps, full_span, arc_from}

-- x is one of the marks
unfoldable pub is_mark : List ℕ → ℕ → Bool
is_mark marks x = list_any (λ m. nat_eq m x) marks

-- how many steps up lead from x to the nearest mark at or above it, going on at 0 after the greatest number
unfoldable pub steps_to_mark : ℕ → List ℕ → ℕ → ℕ
steps_to_mark w marks x = least_below (2 ^ w) (λ k. is_mark marks ((x + k) % 2 ^ w))

-- how many steps down lead from x to the nearest mark at or below it, going on at the greatest number after 0
unfoldable pub steps_down_to_mark : ℕ → List ℕ → ℕ → ℕ
steps_down_to_mark w marks x = least_below (2 ^ w) (λ k. is_mark marks ((x + (2 ^ w - k)) % 2 ^ w))

-- how far the first number goes down, and the last one up: not at all where it is the old one
abbrev pub fall_of : ℕ → Span → Span → List ℕ → ℕ
fall_of w arc old marks = if nat_eq arc.first old.first then 0 else steps_down_to_mark w marks arc.first

abbrev pub rise_of : ℕ → Span → Span → List ℕ → ℕ
rise_of w arc old marks = if nat_eq arc.last old.last then 0 else steps_to_mark w marks arc.last

-- the arc with each end that is not the old one moved out to the nearest mark; full where it and its steps have all numbers
unfoldable pub rounded_out : ℕ → Span → Span → List ℕ → Span
rounded_out w arc old marks =
    let fall = fall_of w arc old marks in
    let rise = rise_of w arc old marks in
    if nat_le (2 ^ w) (steps w arc.first arc.last + 1 + fall + rise) then full_span w
    else arc_from w (arc.first + (2 ^ w - fall)) (arc.last + rise)
