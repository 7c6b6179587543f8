-- helper: in no public contract
-- The bytes of the parts of generated functions.
use Rattle.std.specs.Prelude.{ℕ, ◌+◌, ◌*◌, ◌%◌, ◌^◌, ◌==◌, ◌++◌, List, if◌then◌else◌, flat_map, get_or, codes, decimal}
use Rattle.std.specs.List.{join_by, range_with_len}
use Rattle.vfa_ir.specs.declared.operations.Bin.{Bin}
use Rattle.vfa_ir.specs.Words.{bin_word, type_word}
use Rattle.vfa_print.specs.Trees.{signed_text}
use Rattle.vfa_opt.specs.Generated.{next_state, state_after, drawn, name, result_name, operations}

-- literals
abbrev pub boolean_bytes : ℕ → List ℕ
boolean_bytes bits = if bits == 1 then codes "true" else codes "false"

abbrev pub literal_bytes : ℕ → ℕ → List ℕ
literal_bytes width bits = if width == 1 then boolean_bytes bits else signed_text width bits

abbrev pub cut_bytes : ℕ → ℕ → List ℕ
cut_bytes width number = literal_bytes width (number % 2 ^ width)

-- names
abbrev pub name_bytes : ℕ → List ℕ
name_bytes number = codes "%" ++ name number

-- lines: the operation, the type and the first operand, and then the second operand
unfoldable pub first_bytes : ℕ → ℕ → ℕ → List ℕ
first_bytes width names x =
    bin_word (get_or operations (drawn x 8) Bin.And)
    ++ (codes " " ++ (type_word width ++ (codes " " ++ name_bytes (drawn (next_state x) names))))

abbrev pub second_bytes : ℕ → ℕ → ℕ → List ℕ
second_bytes width names x =
    if drawn x 2 == 0 then cut_bytes width (drawn (next_state x) 65536) else name_bytes (drawn (next_state x) names)

unfoldable pub line_bytes : ℕ → ℕ → ℕ → List ℕ
line_bytes width j x =
    codes "  %" ++ (result_name j ++ (codes " = " ++ (first_bytes width (j + 2) x
    ++ (codes ", " ++ (second_bytes width (j + 2) (next_state (next_state x)) ++ codes "\n")))))

-- the lines of a function, from its state after the width
unfoldable pub lines_bytes : ℕ → ℕ → ℕ → List ℕ
lines_bytes width count x = flat_map (λ j. line_bytes width j (state_after (4 * j) x)) (range_with_len 0 count)

-- functions
unfoldable pub parameters_bytes : ℕ → List ℕ
parameters_bytes width =
    codes "(" ++ (type_word width ++ (codes " %a, " ++ (type_word width ++ codes " noundef %b) {\n")))

unfoldable pub header_bytes : ℕ → ℕ → List ℕ
header_bytes width i = codes "define " ++ (type_word width ++ (codes " @g" ++ (decimal i ++ parameters_bytes width)))

unfoldable pub comparison_bytes : ℕ → ℕ → List ℕ
comparison_bytes width x =
    codes "  %c = icmp ult " ++ (type_word width ++ (codes " %" ++ (result_name (drawn x 40)
    ++ (codes ", " ++ (cut_bytes width (drawn (next_state x) 65536) ++ codes "\n  br i1 %c, label %t, label %e\n")))))

unfoldable pub returning_bytes : List ℕ → ℕ → ℕ → List ℕ
returning_bytes label width x =
    codes "\n" ++ (label ++ (codes ":\n  ret " ++ (type_word width ++ (codes " %" ++ (result_name (drawn x 40) ++ codes "\n")))))

-- the blocks from the state before the end
unfoldable pub end_bytes : ℕ → ℕ → List ℕ
end_bytes width x =
    comparison_bytes width x
    ++ (returning_bytes (codes "t") width (next_state (next_state x))
    ++ (returning_bytes (codes "e") width (next_state (next_state (next_state x))) ++ codes "}"))

unfoldable pub body_bytes : ℕ → ℕ → ℕ → List ℕ
body_bytes width i x =
    header_bytes width i ++ (codes "entry:\n" ++ (lines_bytes width 40 x ++ end_bytes width (state_after 160 x)))

unfoldable pub function_bytes : ℕ → ℕ → List ℕ
function_bytes i x = body_bytes (1 + drawn x 128) i (next_state x)

unfoldable pub functions_bytes : ℕ → ℕ → List ℕ
functions_bytes seed count =
    join_by (λ i. function_bytes i (state_after (165 * i) seed)) (codes "\n\n") (range_with_len 0 count)
