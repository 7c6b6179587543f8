-- The text that `self` works on: 256 functions of forty binary operations each, drawn from a seed.
--
-- From seed 7 the first draws are 94 of 128, so the width is 95; then 7 of 8, 1 of 2, 1 of 2 and 1 of 2 for %v0;
-- 3 of 8, 1 of 3, 0 of 2 and 61659 of 65536 for %v1. So the text begins
--   define i95 @g0(i95 %a, i95 noundef %b) {
--   entry:
--     %v0 = shl i95 %b, %b
--     %v1 = add i95 %b, 61659
use Rattle.std.specs.Prelude.{ℕ, zero, suc, ◌+◌, ◌*◌, ◌/◌, ◌%◌, ◌^◌, ◌==◌, List, [], ◌∷◌, ◌++◌, map, if◌then◌else◌, get_or, false, Some, codes, decimal}
use Rattle.std.specs.List.{join_by, range_with_len}
use Rattle.vfa_ir.specs.declared.operations.Bin.{Bin}
use Rattle.vfa_ir.specs.declared.operations.Pred.{Pred}
use Rattle.vfa_ir.specs.declared.syntax.BasicBlock.{BasicBlock}
use Rattle.vfa_ir.specs.declared.syntax.Instruction.{Instruction}
use Rattle.vfa_ir.specs.declared.syntax.Operation.{Operation}
use Rattle.vfa_ir.specs.declared.syntax.Parameter.{Parameter}
use Rattle.vfa_ir.specs.declared.syntax.TerminatorKind.{TerminatorKind}
use Rattle.vfa_ir.specs.declared.syntax.Written.{Written}
use Rattle.vfa_ir.specs.Sentence.{Sentence}
use Rattle.vfa_print.specs.Layout.{sentence_text, line_feed}
use Rattle.vfa_print.specs.Trees.{literal_tree}

-- Draws

-- a linear congruential generator modulo 2^64, with the numbers of MMIX (D. E. Knuth)
unfoldable pub next_state : ℕ → ℕ
next_state x = (x * 6364136223846793005 + 1442695040888963407) % 2 ^ 64

-- the state after so many draws
unfoldable pub state_after : ℕ → ℕ → ℕ
state_after zero x = x
state_after (suc k) x = next_state (state_after k x)

-- a draw below a number: the next state, without its 33 low bits, modulo the number
unfoldable pub drawn : ℕ → ℕ → ℕ
drawn x below = next_state x / 2 ^ 33 % below

-- the same, of the draw with this number among those from a state on; the first is number 0
abbrev pub draw : ℕ → ℕ → ℕ → ℕ
draw x number below = drawn (state_after number x) below

-- Operands

abbrev pub result_name : ℕ → List ℕ
result_name j = codes "v" ++ decimal j

-- the names by their numbers: `%a`, `%b`, `%v0`, `%v1` and so on
abbrev pub name : ℕ → List ℕ
name zero = codes "a"
name (suc zero) = codes "b"
name (suc (suc j)) = result_name j

abbrev pub named : ℕ → Written
named number = Written.Local (name number)

abbrev pub result : ℕ → Written
result j = Written.Local (result_name j)

-- the literal of a number modulo 2^W
abbrev pub cut_literal : ℕ → ℕ → Written
cut_literal width number = Written.Literal (literal_tree width (number % 2 ^ width))

-- Lines

abbrev pub operations : List Bin
operations = Bin.And ∷ Bin.Or ∷ Bin.Xor ∷ Bin.Add ∷ Bin.Sub ∷ Bin.Mul ∷ Bin.Lshr ∷ Bin.Shl ∷ []

-- where a draw below 2 is 0 a literal, else one of the names so far
abbrev pub second_operand : ℕ → ℕ → ℕ → Written
second_operand width j x =
    if draw x 2 2 == 0 then cut_literal width (draw x 3 65536) else named (draw x 3 (j + 2))

-- line j of a function, by four draws from a state on: `%vj = OP iW FIRST, SECOND`
abbrev pub line : ℕ → ℕ → ℕ → Instruction
line width j x = record {
  result = Some (result_name j);
  operation = Operation.Binary (get_or operations (draw x 0 8) Bin.And) [] width (named (draw x 1 (j + 2))) (second_operand width j x);
  attached = [];
}

-- `%c = icmp ult iW %vX, L`
abbrev pub comparison : ℕ → ℕ → ℕ → Instruction
comparison width place number = record {
  result = Some (codes "c");
  operation = Operation.Compare false Pred.Ult width (result place) (cut_literal width number);
  attached = [];
}

-- Functions. Each takes 165 draws: the first is that of the width, 160 are those of the lines, and the last four, numbers
-- 161 to 164, say what is compared with what, and what is returned.

-- 1 to 128
abbrev pub drawn_width : ℕ → ℕ
drawn_width x = 1 + draw x 0 128

-- forty lines, of four draws each
unfoldable pub lines : ℕ → ℕ → List Instruction
lines width x = map (λ j. line width j (state_after (1 + 4 * j) x)) (range_with_len 0 40)

abbrev pub block : List ℕ → List Instruction → TerminatorKind → BasicBlock
block name instructions kind = record {
  label = Some name;
  phis = [];
  instructions = instructions;
  terminator = record { kind = kind; attached = [] };
}

-- the first block branches on the comparison to the two others
abbrev pub entry : ℕ → ℕ → BasicBlock
entry width x =
    block (codes "entry") (lines width x ++ comparison width (draw x 161 40) (draw x 162 65536) ∷ [])
    (TerminatorKind.Condition (Written.Local (codes "c")) (codes "t") (codes "e"))

-- a block that returns the result of a line
abbrev pub returning : ℕ → List ℕ → ℕ → BasicBlock
returning width name place = block name [] (TerminatorKind.Return width (result place))

abbrev pub parameter : ℕ → List (List ℕ) → List ℕ → Parameter
parameter width words name = record { width = width; words = words; name = Some name }

-- `@gi(iW %a, iW noundef %b)`, which returns an iW
abbrev pub function_of_width : ℕ → ℕ → ℕ → Sentence
function_of_width width i x = record {
  lead = [];
  width = width;
  name = codes "g" ++ decimal i;
  parameters = parameter width [] (codes "a") ∷ parameter width (codes "noundef" ∷ []) (codes "b") ∷ [];
  tail = [];
  blocks = entry width x ∷ returning width (codes "t") (draw x 163 40) ∷ returning width (codes "e") (draw x 164 40) ∷ [];
}

abbrev pub generated_function : ℕ → ℕ → Sentence
generated_function i x = function_of_width (drawn_width x) i x

-- The text

-- function i in its printed form, after the draws of those before it
unfoldable pub printed_function : ℕ → ℕ → List ℕ
printed_function seed i = sentence_text (generated_function i (state_after (165 * i) seed)) []

-- the functions joined by an empty line, and a line feed at the end
unfoldable pub generated_text : ℕ → List ℕ
generated_text seed = join_by (printed_function seed) (line_feed ++ line_feed) (range_with_len 0 256) ++ line_feed

-- What `self` prints

abbrev pub summary_line : List ℕ → ℕ → List ℕ → List ℕ
summary_line word number unit = word ++ (codes " " ++ (decimal number ++ (unit ++ line_feed)))

-- how many bytes were read and printed, and how many functions stay as they are
abbrev pub summary_text : ℕ → ℕ → ℕ → ℕ → List ℕ
summary_text seed read printed carried =
    summary_line (codes "seed") seed []
    ++ (summary_line (codes "functions") 256 []
    ++ (summary_line (codes "read") read (codes " bytes")
    ++ (summary_line (codes "printed") printed (codes " bytes") ++ summary_line (codes "carried") carried [])))
