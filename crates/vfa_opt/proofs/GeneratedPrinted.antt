-- The printed form of generated functions, byte by byte.
use Rattle.std.proofs.Common.{◌≡◌, ◌∙◌, ℕ, zero, suc, ◌+◌, ◌*◌, ◌%◌, ◌^◌, ◌==◌, Bool, true, false, if◌then◌else◌, List, [], ◌∷◌, ◌++◌, map, flat_map, get_or, Some, codes, decimal, refl, sym, ap, arith, append_assoc, append-nil}
use Rattle.std.specs.Char.{is_ascii_digit}
use Rattle.std.specs.Fmt.{digits}
use Rattle.std.specs.List.{join_by, list_all, range_with_len}
use Rattle.std.proofs.lemmas.Grind.{flat_map-append}
use Rattle.vfa_ir.specs.declared.operations.Bin.{Bin}
use Rattle.vfa_ir.specs.declared.syntax.Instruction.{Instruction}
use Rattle.vfa_ir.specs.declared.syntax.Literal.{Literal}
use Rattle.vfa_ir.specs.declared.syntax.Operation.{Operation}
use Rattle.vfa_ir.specs.declared.syntax.TerminatorKind.{TerminatorKind}
use Rattle.vfa_ir.specs.declared.syntax.Written.{Written}
use Rattle.vfa_ir.specs.Spelling.{instruction, terminator_kind, value, header}
use Rattle.vfa_ir.specs.Tokens.{is_run_byte}
use Rattle.vfa_ir.specs.Words.{bin_word, type_word, is_digits}
use Rattle.vfa_print.specs.Layout.{name_text, written, indented, label_text, line_feed, block_text, sentence_text}
use Rattle.vfa_print.specs.Trees.{literal_tree, signed_text}
use Rattle.vfa_print.proofs.LanguageWords.{digit_runs}
use Rattle.vfa_print.proofs.NameNumbers.{decimal_is_digits}
use Rattle.vfa_opt.specs.Generated.{next_state, state_after, drawn, draw, name, named, result_name, cut_literal, second_operand, operations, line, lines, comparison, entry, returning, drawn_width, function_of_width, generated_function, generated_text, printed_function}
use Rattle.vfa_opt.specs.GeneratedLines.{literal_bytes, cut_bytes, name_bytes, first_bytes, second_bytes, line_bytes, lines_bytes, parameters_bytes, header_bytes, comparison_bytes, returning_bytes, end_bytes, body_bytes, function_bytes, functions_bytes}
use Rattle.vfa_opt.proofs.GeneratedStates.{after_none, after_first, after_next}

-- Names stand as they are.

all_digits : (ds : List ℕ) → is_digits ds ≡ true → list_all is_ascii_digit ds ≡ true
all_digits [] e = refl
all_digits (c ∷ cs) e = e

v_run : is_run_byte 118 ≡ true
unfolding is_run_byte
v_run = refl

g_run : is_run_byte 103 ≡ true
unfolding is_run_byte
g_run = refl

numbered_plain : (c j : ℕ) → is_run_byte c ≡ true → is_ascii_digit c ≡ false → name_text (c ∷ decimal j) ≡ c ∷ decimal j
numbered_plain c j run letter =
    let digits : list_all is_run_byte (decimal j) ≡ true = digit_runs (decimal j) (all_digits (decimal j) (decimal_is_digits j)) in
    rw (run, digits, letter) refl

pub result_plain : (j : ℕ) → name_text (result_name j) ≡ result_name j
result_plain j = numbered_plain 118 j v_run refl

pub function_plain : (i : ℕ) → name_text (codes "g" ++ decimal i) ≡ codes "g" ++ decimal i
function_plain i = numbered_plain 103 i g_run refl

pub name_plain : (k : ℕ) → name_text (name k) ≡ name k
unfolding is_run_byte
name_plain zero = refl
name_plain (suc zero) = refl
name_plain (suc (suc j)) = result_plain j

c_plain : name_text (codes "c") ≡ codes "c"
unfolding is_run_byte
c_plain = refl

-- an operand, after a token that takes a blank
abbrev pub Operates : Written → List ℕ → Type 0
Operates v bytes = written true (value v ++ []) ≡ codes " " ++ bytes

name_operates : (n : List ℕ) → name_text n ≡ n → Operates (Written.Local n) (codes "%" ++ n)
name_operates n plain = rw plain (ap (λ l. codes " %" ++ l) (append-nil n))

literal_operates : (width bits : ℕ) → Operates (Written.Literal (literal_tree width bits)) (literal_bytes width bits)
literal_operates width bits = by (width == 1) (bits == 1) (signed_text width bits)
  where
    by :
        (one t : Bool) (s : List ℕ) →
        Operates (Written.Literal (if one then Literal.Boolean t else Literal.Number s))
        (if one then (if t then codes "true" else codes "false") else s)
    by true true s = refl
    by true false s = refl
    by false t s = ap (λ l. codes " " ++ l) (append-nil s)

regrouped :
    (r e o s d t a c b n : List ℕ) →
    (r ++ (e ++ (o ++ (s ++ (d ++ (t ++ (a ++ (c ++ b)))))))) ++ n ≡ r ++ (e ++ ((o ++ (s ++ (d ++ (t ++ a)))) ++ (c ++ (b ++ n))))
regrouped r e o s d t a c b n = simp append_assoc

-- a binary operation on a line of its own
binary_text :
    (width : ℕ) (r a : List ℕ) (bin : Bin) (b : Written) (bytes : List ℕ) → name_text r ≡ r → name_text a ≡ a → Operates b bytes →
    indented (instruction (record {
      result = Some r;
      operation = Operation.Binary bin [] width (Written.Local a) b;
      attached = [];
    }))
    ≡ codes "  %" ++ (r ++ (codes " = " ++ ((bin_word bin ++ (codes " " ++ (type_word width ++ (codes " %" ++ a))))
    ++ (codes ", " ++ (bytes ++ codes "\n")))))
binary_text width r a bin b bytes pr pa operates =
    rw (pr, pa, operates)
    (ap (λ l. codes "  %" ++ l) (regrouped r (codes " = ") (bin_word bin) (codes " i") (decimal width) (codes " %") a (codes ", ") bytes (codes "\n")))

second_operates :
    (width j x : ℕ) → Operates (second_operand width j x) (second_bytes width (j + 2) (state_after 2 x))
unfolding state_after
second_operates width j x = by (drawn (state_after 2 x) 2 == 0)
  where
    by :
        (t : Bool) →
        Operates (if t then cut_literal width (drawn (state_after 3 x) 65536) else named (drawn (state_after 3 x) (j + 2)))
        (if t then cut_bytes width (drawn (state_after 3 x) 65536) else name_bytes (drawn (state_after 3 x) (j + 2)))
    by true = literal_operates width (drawn (state_after 3 x) 65536 % 2 ^ width)
    by false = name_operates (name (drawn (state_after 3 x) (j + 2))) (name_plain (drawn (state_after 3 x) (j + 2)))

pub line_text : (width j x : ℕ) → indented (instruction (line width j x)) ≡ line_bytes width j x
unfolding line_bytes first_bytes state_after
line_text width j x =
    binary_text width (result_name j) (name (drawn (state_after 1 x) (j + 2))) (get_or operations (drawn x 8) Bin.And)
    (second_operand width j x) (second_bytes width (j + 2) (state_after 2 x)) (result_plain j)
    (name_plain (drawn (state_after 1 x) (j + 2))) (second_operates width j x)

-- blocks

lines_text : (width x : ℕ) → flat_map (λ i. indented (instruction i)) (lines width x) ≡ lines_bytes width 40 (next_state x)
unfolding lines lines_bytes
lines_text width x = each 0 40
  where
    at : (j : ℕ) → indented (instruction (line width j (state_after (1 + 4 * j) x))) ≡ line_bytes width j (state_after (4 * j) (next_state x))
    at j = line_text width j (state_after (1 + 4 * j) x) ∙ ap (line_bytes width j) (sym (after_first (4 * j) (1 + 4 * j) x (omega arith)))

    each :
        (a n : ℕ) →
        flat_map (λ i. indented (instruction i)) (map (λ j. line width j (state_after (1 + 4 * j) x)) (range_with_len a n))
        ≡ flat_map (λ j. line_bytes width j (state_after (4 * j) (next_state x))) (range_with_len a n)
    each a zero = refl
    each a (suc n) =
        ap
        (λ l. l ++ flat_map (λ i. indented (instruction i)) (map (λ j. line width j (state_after (1 + 4 * j) x)) (range_with_len (a + 1) n)))
        (at a)
        ∙ ap (λ l. line_bytes width a (state_after (4 * a) (next_state x)) ++ l) (each (a + 1) n)

regrouped_comparison :
    (t d s r c b n : List ℕ) → (t ++ (d ++ (s ++ (r ++ (c ++ b))))) ++ n ≡ t ++ (d ++ (s ++ (r ++ (c ++ (b ++ n)))))
regrouped_comparison t d s r c b n = simp append_assoc

-- the comparison without the branch
abbrev test_bytes : ℕ → ℕ → ℕ → List ℕ
test_bytes width place number =
    codes "  %c = icmp ult i" ++ (decimal width ++ (codes " %" ++ (result_name place ++ (codes ", " ++ (cut_bytes width number ++ codes "\n")))))

comparison_text :
    (width place number : ℕ) → indented (instruction (comparison width place number)) ≡ test_bytes width place number
comparison_text width place number =
    rw (c_plain, result_plain place, literal_operates width (number % 2 ^ width))
    (regrouped_comparison (codes "  %c = icmp ult i") (decimal width) (codes " %") (result_name place) (codes ", ") (cut_bytes width number) (codes "\n"))

entry_label : label_text (Some (codes "entry")) ≡ codes "entry:\n"
unfolding is_run_byte
entry_label = refl

t_label : label_text (Some (codes "t")) ≡ codes "t:\n"
unfolding is_run_byte
t_label = refl

e_label : label_text (Some (codes "e")) ≡ codes "e:\n"
unfolding is_run_byte
e_label = refl

abbrev branch : TerminatorKind
branch = TerminatorKind.Condition (Written.Local (codes "c")) (codes "t") (codes "e")

branch_text : indented (terminator_kind branch) ≡ codes "  br i1 %c, label %t, label %e\n"
unfolding is_run_byte digits
branch_text = refl

regrouped_end :
    (t d s r c b n m : List ℕ) →
    (t ++ (d ++ (s ++ (r ++ (c ++ (b ++ n)))))) ++ m ≡ t ++ (d ++ (s ++ (r ++ (c ++ (b ++ (n ++ m))))))
regrouped_end t d s r c b n m = simp append_assoc

compared :
    (width x : ℕ) →
    test_bytes width (draw x 161 40) (draw x 162 65536) ++ codes "  br i1 %c, label %t, label %e\n"
    ≡ comparison_bytes width (state_after 161 x)
unfolding comparison_bytes
compared width x =
    rw (after_next 161 162 x (omega arith))
    (regrouped_end (codes "  %c = icmp ult i") (decimal width) (codes " %") (result_name (draw x 161 40)) (codes ", ")
    (cut_bytes width (draw x 162 65536)) (codes "\n") (codes "  br i1 %c, label %t, label %e\n"))

regrouped_entry : (e l t b : List ℕ) → e ++ ((l ++ (t ++ [])) ++ b) ≡ e ++ (l ++ (t ++ b))
regrouped_entry e l t b = simp (append_assoc, append-nil)

entry_text :
    (width x : ℕ) →
    block_text (entry width x) ≡ codes "entry:\n" ++ (lines_bytes width 40 (next_state x) ++ comparison_bytes width (state_after 161 x))
entry_text width x =
    (λ k. entry_label k ++ (instructions k ++ branch_text k))
    ∙ regrouped_entry (codes "entry:\n") (lines_bytes width 40 (next_state x)) (test_bytes width (draw x 161 40) (draw x 162 65536))
    (codes "  br i1 %c, label %t, label %e\n")
    ∙ ap (λ l. codes "entry:\n" ++ (lines_bytes width 40 (next_state x) ++ l)) (compared width x)
  where
    test : Instruction
    test = comparison width (draw x 161 40) (draw x 162 65536)

    instructions :
        flat_map (λ i. indented (instruction i)) (lines width x ++ comparison width (draw x 161 40) (draw x 162 65536) ∷ [])
        ≡ lines_bytes width 40 (next_state x) ++ (test_bytes width (draw x 161 40) (draw x 162 65536) ++ [])
    instructions =
        flat_map-append (λ i. indented (instruction i)) (lines width x) (comparison width (draw x 161 40) (draw x 162 65536) ∷ [])
        ∙ (λ k. lines_text width x k ++ (comparison_text width (draw x 161 40) (draw x 162 65536) k ++ []))

regrouped_return :
    (m b c d s r n : List ℕ) → (m ++ b) ++ ((c ++ (d ++ (s ++ (r ++ [])))) ++ n) ≡ m ++ (b ++ (c ++ (d ++ (s ++ (r ++ n)))))
regrouped_return m b c d s r n = simp (append_assoc, append-nil)

returning_text :
    (width place : ℕ) (label : List ℕ) → label_text (Some label) ≡ label ++ codes ":\n" →
    line_feed ++ block_text (returning width label place)
    ≡ codes "\n" ++ (label ++ (codes ":\n  ret i" ++ (decimal width ++ (codes " %" ++ (result_name place ++ codes "\n")))))
returning_text width place label labelled =
    rw (labelled, result_plain place)
    (ap (λ l. codes "\n" ++ l) (regrouped_return label (codes ":\n") (codes "  ret i") (decimal width) (codes " %") (result_name place) (codes "\n")))

-- functions

a_plain : name_text (codes "a") ≡ codes "a"
unfolding is_run_byte
a_plain = refl

b_plain : name_text (codes "b") ≡ codes "b"
unfolding is_run_byte
b_plain = refl

header_text :
    (width i x : ℕ) →
    written false (header (function_of_width width i x))
    ≡ codes "define i" ++ (decimal width ++ (codes " @g" ++ (decimal i ++ (codes "(i" ++ (decimal width ++ (codes " %a, i"
    ++ (decimal width ++ codes " noundef %b)")))))))
header_text width i x = rw (function_plain i, a_plain, b_plain) refl

-- the parts of a function, and how they are joined
abbrev joined : List ℕ → List ℕ → List ℕ → List ℕ → List ℕ
joined head first second third = head ++ (codes " {\n" ++ ((first ++ (second ++ (third ++ []))) ++ codes "}"))

regrouped_head :
    (a w b i c d e u r : List ℕ) →
    (a ++ (w ++ (b ++ (i ++ (c ++ (w ++ (d ++ (w ++ e)))))))) ++ (u ++ r)
    ≡ (a ++ (w ++ (b ++ (i ++ (c ++ (w ++ (d ++ (w ++ (e ++ u))))))))) ++ r
regrouped_head a w b i c d e u r = simp append_assoc

regrouped_blocks :
    (n l c t e z : List ℕ) → ((n ++ (l ++ c)) ++ (t ++ (e ++ []))) ++ z ≡ n ++ (l ++ (c ++ (t ++ (e ++ z))))
regrouped_blocks n l c t e z = simp (append_assoc, append-nil)

function_text_is : (i x : ℕ) → sentence_text (generated_function i x) [] ≡ function_bytes i x
unfolding function_bytes body_bytes header_bytes parameters_bytes end_bytes returning_bytes
function_text_is i x =
    (λ k. joined (header_text (drawn_width x) i x k) (entry_text (drawn_width x) x k) (returning_text (drawn_width x) (draw x 163 40) (codes "t") t_label k)
    (returning_text (drawn_width x) (draw x 164 40) (codes "e") e_label k))
    ∙ regrouped_head (codes "define i") (decimal (drawn_width x)) (codes " @g") (decimal i) (codes "(i") (codes " %a, i") (codes " noundef %b)") (codes " {\n") _
    ∙ rw (
      after_none x,
      after_first 160 161 x (omega arith),
      after_next 161 162 x (omega arith),
      after_next 162 163 x (omega arith),
      after_next 163 164 x (omega arith),
    )
    (ap (λ l. header_bytes (1 + drawn x 128) i ++ l)
    (regrouped_blocks (codes "entry:\n") (lines_bytes (1 + drawn x 128) 40 (next_state x))
    (comparison_bytes (1 + drawn x 128) (state_after 161 x)) (returning_bytes (codes "t") (1 + drawn x 128) (state_after 163 x))
    (returning_bytes (codes "e") (1 + drawn x 128) (state_after 164 x)) (codes "}")))

-- the text

functions_are :
    (seed n : ℕ) →
    join_by (printed_function seed) (line_feed ++ line_feed) (range_with_len 0 n) ≡ functions_bytes seed n
unfolding functions_bytes printed_function
functions_are seed n =
    ap (λ f. join_by f (codes "\n\n") (range_with_len 0 n)) (λ k i. function_text_is i (state_after (165 * i) seed) k)

pub generated_is : (seed : ℕ) → functions_bytes seed 256 ++ codes "\n" ≡ generated_text seed
unfolding generated_text
generated_is seed = ap (λ l. l ++ codes "\n") (sym (functions_are seed 256))
