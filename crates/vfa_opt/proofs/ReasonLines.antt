-- The line of a reason to leave a define as it is: one of the define's text.
use Rattle.std.proofs.Common.{◌≡◌, ◌≤◌, ◌+◌, ◌-◌, ◌==◌, ◌++◌, inl, inr, ℕ, zero, suc, Bool, true, false, if◌then◌else◌, Option, Some, None, slice_get, List, [], ◌∷◌, length, get_or, map, drop, slice_range, subst, sym, arith}
use Rattle.std.specs.Prelude.{IsSomeAnd}
use Rattle.std.specs.List.{AllByRecursion}
use Rattle.std.proofs.lemmas.List.{length-take, length-drop}
use Rattle.vfa_ir.specs.declared.reasons.Outside.{Outside}
use Rattle.vfa_ir.specs.declared.tokens.Token.{Token}
use Rattle.vfa_ir.specs.declared.functions.Block.{Block}
use Rattle.vfa_ir.specs.declared.functions.Function.{Function}
use Rattle.vfa_ir.specs.declared.functions.Lines.{Lines}
use Rattle.vfa_ir.specs.declared.syntax.BasicBlock.{BasicBlock}
use Rattle.vfa_ir.specs.Reads.{IsReason, IsShape, IsAccepted, last_line, line_at}
use Rattle.vfa_ir.specs.Spelling.{block, block_label, header}
use Rattle.vfa_ir.specs.TextLines.{item_lengths, first_lines, block_lines}
use Rattle.vfa_ir.specs.Tokens.{IsPlaced, line_feeds, tokens_of}
use Rattle.vfa_check.specs.Items.{IsIllTypedOn, IllTypedAt}
use Rattle.vfa_check.specs.Refusals.{IsRefusal}
use Rattle.vfa_opt.specs.Acceptance.{IsIllFormed, IsOutside, line_of}

test_small : (t : Bool) → (if t then 1 else 0) ≤ 1
test_small true = omega arith
test_small false = omega arith

pub feeds_few : (bytes : List ℕ) → line_feeds bytes ≤ length bytes
feeds_few [] = omega arith
feeds_few (b ∷ rest) = omega (arith, test_small (b == 10), feeds_few rest)

token_line : (bytes : List ℕ) (t : Token) → IsPlaced bytes 0 1 t → t.line ≤ length bytes + 1
token_line bytes t placed =
    let front : List ℕ = slice_range bytes 0 t.start in
    let few : line_feeds front ≤ length front = feeds_few front in
    let short : length front ≤ length bytes = omega (arith, length-take (t.start - 0) (drop 0 bytes), length-drop 0 bytes) in
    omega (arith, placed.lines, few, short)

line_at_most : (bytes : List ℕ) (tokens : List Token) (place : ℕ) → AllByRecursion (IsPlaced bytes 0 1) tokens →
    line_at tokens place ≤ length bytes + 1
line_at_most bytes [] place placed = omega arith
line_at_most bytes (t ∷ rest) zero placed = token_line bytes t placed.0
line_at_most bytes (t ∷ rest) (suc place) placed = line_at_most bytes rest place placed.1

last_at_most : (bytes : List ℕ) (tokens : List Token) → AllByRecursion (IsPlaced bytes 0 1) tokens → last_line tokens ≤ length bytes + 1
last_at_most bytes [] placed = omega arith
last_at_most bytes (t ∷ []) placed = token_line bytes t placed.0
last_at_most bytes (t ∷ u ∷ rest) placed = last_at_most bytes (u ∷ rest) placed.1

shape_line : (bytes : List ℕ) (tokens : List Token) (line : ℕ) → AllByRecursion (IsPlaced bytes 0 1) tokens → IsShape bytes tokens line →
    line ≤ length bytes + 1
shape_line bytes tokens line placed (inl stops) =
    subst (λ n. n ≤ length bytes + 1) (sym stops.2) (line_at_most bytes tokens stops.0 placed)
shape_line bytes tokens line placed (inr unfinished) =
    subst (λ n. n ≤ length bytes + 1) (sym unfinished.1) (last_at_most bytes tokens placed)

reason_line : (bytes : List ℕ) (tokens : List Token) (reason : Outside) → AllByRecursion (IsPlaced bytes 0 1) tokens →
    IsReason bytes tokens reason → line_of reason ≤ length bytes + 1
reason_line bytes tokens (Outside.Shape line) placed is = shape_line bytes tokens line placed is
reason_line bytes tokens (Outside.TooMany kind) placed is = omega arith
reason_line bytes tokens (Outside.Duplicate name) placed is = omega arith
reason_line bytes tokens (Outside.Unknown name) placed is = omega arith
reason_line bytes tokens (Outside.Types line) placed is = absurd is
reason_line bytes tokens (Outside.Phi block) placed is = omega arith
reason_line bytes tokens (Outside.Undefined name block) placed is = omega arith
reason_line bytes tokens Outside.Memory placed is = omega arith

-- ---- the lines of a function

abbrev AreLow : ℕ → List ℕ → Type 0
AreLow n lines = AllByRecursion (λ line. line ≤ n) lines

token_lines : (bytes : List ℕ) (tokens : List Token) → AllByRecursion (IsPlaced bytes 0 1) tokens → AreLow (length bytes + 1) (map (λ t. t.line) tokens)
token_lines bytes [] placed = tt
token_lines bytes (t ∷ rest) placed = (token_line bytes t placed.0, token_lines bytes rest placed.1)

low_drop : (n k : ℕ) (lines : List ℕ) → AreLow n lines → AreLow n (drop k lines)
low_drop n zero lines low = low
low_drop n (suc k) [] low = tt
low_drop n (suc k) (line ∷ lines) low = low_drop n k lines low.1

low_at : (n k : ℕ) (lines : List ℕ) → AreLow n lines → get_or lines k 0 ≤ n
low_at n k [] low = omega arith
low_at n zero (line ∷ lines) low = low.0
low_at n (suc k) (line ∷ lines) low = low_at n k lines low.1

first_low : (n : ℕ) (lengths lines : List ℕ) → AreLow n lines → AreLow n (first_lines lengths lines)
first_low n [] lines low = tt
first_low n (k ∷ lengths) lines low = (low_at n 0 lines low, first_low n lengths (drop k lines) (low_drop n k lines low))

block_low : (n : ℕ) (blocks : List BasicBlock) (lines : List ℕ) → AreLow n lines → AllByRecursion (AreLow n) (block_lines blocks lines)
block_low n [] lines low = tt
block_low n (b ∷ rest) lines low = (
  first_low n (item_lengths b) (drop (length (block_label b.label)) lines) (low_drop n (length (block_label b.label)) lines low),
  block_low n rest (drop (length (block b)) lines) (low_drop n (length (block b)) lines low),
)

low_of : (n k : ℕ) (all : List (List ℕ)) → AllByRecursion (AreLow n) all → AreLow n (get_or all k [])
low_of n k [] low = tt
low_of n zero (lines ∷ all) low = low.0
low_of n (suc k) (lines ∷ all) low = low_of n k all low.1

low_got : (n k line : ℕ) (lines : List ℕ) → AreLow n lines → slice_get lines k ≡ Some line → line ≤ n
low_got n k line [] low got = cc
low_got n zero line (l ∷ lines) low got = let same : l ≡ line = cc in subst (λ x. x ≤ n) same low.0
low_got n (suc k) line (l ∷ lines) low got = low_got n k line lines low.1 got

accepted_low : (bytes : List ℕ) (tokens : List Token) (f : Function) (lines : Lines) → AllByRecursion (IsPlaced bytes 0 1) tokens →
    IsAccepted bytes tokens f lines → AllByRecursion (AreLow (length bytes + 1)) lines.of
accepted_low bytes tokens f lines placed is =
    subst (λ (l : Lines). AllByRecursion (AreLow (length bytes + 1)) l.of) is.reads.places
    (block_low (length bytes + 1) is.reads.sentence.blocks _ (low_drop (length bytes + 1) (suc (length (header is.reads.sentence ++ is.reads.sentence.tail))) (map (λ t. t.line) tokens) (token_lines bytes tokens placed)))

some_low : (n : ℕ) (o : Option Block) (f : Function) (lines : List ℕ) (line : ℕ) → AreLow n lines → IsSomeAnd o (IsIllTypedOn f lines line) → line ≤ n
some_low n None f lines line low is = absurd is
some_low n (Some b) f lines line low is = low_got n is.place line lines low is.stands

ill_typed_low : (n : ℕ) (f : Function) (lines : Lines) (line : ℕ) → AllByRecursion (AreLow n) lines.of → IllTypedAt f lines line → line ≤ n
ill_typed_low n f lines line low is =
    some_low n (slice_get f.blocks is.block) f (get_or lines.of is.block []) line (low_of n is.block lines.of low) is.here

refusal_line : (n : ℕ) (f : Function) (lines : Lines) (reason : Outside) → AllByRecursion (AreLow n) lines.of → IsRefusal f lines reason → line_of reason ≤ n
refusal_line n f lines (Outside.Shape line) low is = absurd is
refusal_line n f lines (Outside.TooMany kind) low is = absurd is
refusal_line n f lines (Outside.Duplicate name) low is = absurd is
refusal_line n f lines (Outside.Unknown name) low is = absurd is
refusal_line n f lines (Outside.Types line) low is = ill_typed_low n f lines line low is
refusal_line n f lines (Outside.Phi block) low is = omega arith
refusal_line n f lines (Outside.Undefined name block) low is = omega arith
refusal_line n f lines Outside.Memory low is = absurd is

pub outside_line : (bytes : List ℕ) (reason : Outside) → AllByRecursion (IsPlaced bytes 0 1) (tokens_of bytes) → IsOutside bytes reason →
    line_of reason ≤ length bytes + 1
outside_line bytes reason placed (inl is) = reason_line bytes (tokens_of bytes) reason placed is
outside_line bytes reason placed (inr ill) =
    refusal_line (length bytes + 1) ill.function ill.lines reason (accepted_low bytes (tokens_of bytes) ill.function ill.lines placed ill.reads) ill.refused
