-- The longest arcs of the numbers of a set, in the order of their first numbers.
use Rattle.std.specs.Prelude.{ℕ, ◌+◌, ◌-◌, ◌%◌, ◌^◌, Bool, false, not, ◌&&◌, ◌||◌, Option, Some, None, nat_lt, if◌then◌else◌}
use Rattle.vfa_dom.specs.Search.{some_below, all_below, least_below, greatest_below}
use Rattle.vfa_dom.specs.Sets.{meet}
use Rattle.vfa_wrap.specs.Arc.{Span, in_span, full_span}

-- the set has p and not the number below it on the circle
unfoldable pub begins_run : ℕ → (ℕ → Bool) → ℕ → Bool
begins_run w S p = S p && not (S ((p + (2 ^ w - 1)) % 2 ^ w))

-- how many numbers of the set follow p without a gap
unfoldable pub run_length : ℕ → (ℕ → Bool) → ℕ → ℕ
run_length w S p = least_below (2 ^ w) (λ k. not (S ((p + k + 1) % 2 ^ w)))

-- the longest arc of numbers of the set that begins at p
unfoldable pub run_from : ℕ → (ℕ → Bool) → ℕ → Span
run_from w S p = record { first = p; last = (p + run_length w S p) % 2 ^ w }

-- at most two arcs
pub record TwoSpans : Type 0 where
  pub one : Option Span
  pub two : Option Span

-- the longest arc of numbers of the set that begins at p, where p is one of them
unfoldable pub run_at : ℕ → (ℕ → Bool) → ℕ → Option Span
run_at w S p = if S p then Some (run_from w S p) else None

-- the longest arcs of a set that has at most two of them, the one with the lesser first number as the first
unfoldable pub runs_of : ℕ → (ℕ → Bool) → TwoSpans
runs_of w S =
    let least = least_below (2 ^ w) (begins_run w S) in
    let greatest = greatest_below (2 ^ w) (begins_run w S) in
    if all_below (2 ^ w) S then record { one = Some (full_span w); two = None }
    else (if not (some_below (2 ^ w) (begins_run w S)) then record { one = None; two = None }
    else record { one = Some (run_from w S least); two = (if nat_lt least greatest then Some (run_from w S greatest) else None) })

-- the longest arcs of the numbers common to two sets
abbrev pub pieces_of : ℕ → (ℕ → Bool) → (ℕ → Bool) → TwoSpans
pieces_of w A B = runs_of w (meet A B)

-- x is a number of the arc, where there is one
abbrev pub in_option : ℕ → Option Span → ℕ → Bool
in_option w None x = false
in_option w (Some s) x = in_span w s x

-- x is a number of one of the arcs
abbrev pub in_spans : ℕ → TwoSpans → ℕ → Bool
in_spans w s x = in_option w s.one x || in_option w s.two x
