-- The lexemes that stand for something alone, and what they stand for.
use Rattle.std.specs.Prelude.{ℕ, ◌-◌, ◌^◌, Bool, true, false, not, ◌&&◌, ◌==◌, nat_lt, nat_le, if◌then◌else◌, List, [], ◌∷◌, ◌++◌, map, find, Option, Some, None, option_map, codes, bytes_eq}
use Rattle.std.specs.Str.Parse.{digits_value}
use Rattle.std.specs.Str.{byte}
use Rattle.vfa_ir.specs.declared.syntax.Literal.{Literal}
use Rattle.vfa_ir.specs.declared.syntax.Written.{Written}
use Rattle.vfa_read.specs.declared.intrinsics.Callee.{Callee}
use Rattle.vfa_read.specs.declared.intrinsics.Intrinsic.{Intrinsic}
use Rattle.vfa_read.specs.declared.intrinsics.VoidCallee.{VoidCallee}
use Rattle.vfa_ir.specs.Lexemes.{Lexeme, local, global, label, metadata, group, number, word, mark}
use Rattle.vfa_ir.specs.Words.{is_among, is_digits, is_number, is_intrinsic, keyword, callee, fun1_word, fun1s, fun2_word, fun2s}

abbrev pub the_mark : ℕ → Lexeme → Option (Unit {0})
the_mark c (mark d) = if d == c then Some tt else None
the_mark c _ = None

abbrev pub the_word : List ℕ → Lexeme → Option (Unit {0})
the_word text (word w) = if bytes_eq w text then Some tt else None
the_word text _ = None

abbrev pub local_name : Lexeme → Option (List ℕ)
local_name (local name) = Some name
local_name _ = None

abbrev pub global_name : Lexeme → Option (List ℕ)
global_name (global name) = Some name
global_name _ = None

abbrev pub label_name : Lexeme → Option (List ℕ)
label_name (label name) = Some name
label_name _ = None

abbrev pub group_digits : Lexeme → Option (List ℕ)
group_digits (group digits) = Some digits
group_digits _ = None

abbrev pub metadata_kind : Lexeme → Option (List ℕ)
metadata_kind (metadata text) = if is_number text then None else Some text
metadata_kind _ = None

abbrev pub metadata_node : Lexeme → Option (List ℕ)
metadata_node (metadata text) = if is_digits text then Some text else None
metadata_node _ = None

abbrev pub word_among : List (List ℕ) → Lexeme → Option (List ℕ)
word_among texts (word w) = if is_among w texts then Some w else None
word_among texts _ = None

-- the value that a word stands for
abbrev pub keyword_in : {K : Type 0} → (K → List ℕ) → List K → Lexeme → Option K
keyword_in spelled all (word w) = keyword spelled all w
keyword_in spelled all _ = None

-- whether digits, perhaps after a `-`, are a number of the range of a width
abbrev pub fits_number : ℕ → List ℕ → Bool
fits_number width [] = false
fits_number width (c ∷ digits) =
    if c == byte "-" then is_digits digits && nat_le (digits_value 10 digits) (2 ^ (width - 1))
    else is_digits (c ∷ digits) && nat_lt (digits_value 10 (c ∷ digits)) (2 ^ width)

-- the width of `iN`
abbrev pub width_in_range : ℕ → Option ℕ
width_in_range n = if nat_le 1 n && nat_le n 128 then Some n else None

-- digits without a zero at the beginning
abbrev pub is_numeral : List ℕ → Bool
is_numeral [] = false
is_numeral (c ∷ cs) = is_digits (c ∷ cs) && not (c == byte "0")

abbrev pub type_width : List ℕ → Option ℕ
type_width [] = None
type_width (c ∷ digits) = if c == byte "i" && is_numeral digits then width_in_range (digits_value 10 digits) else None

abbrev pub type_of : Lexeme → Option ℕ
type_of (word w) = type_width w
type_of _ = None

abbrev pub the_type : ℕ → Lexeme → Option (Unit {0})
the_type width l = elim (type_of l) [ None ↦ None | Some w ↦ if w == width then Some tt else None ]

-- the part of a pair
abbrev pub part_index : Lexeme → Option ℕ
part_index (number text) = if bytes_eq text (codes "0") then Some 0 else if bytes_eq text (codes "1") then Some 1 else None
part_index _ = None

abbrev pub literal_word : ℕ → List ℕ → Option Literal
literal_word width w =
    if width == 1 && bytes_eq w (codes "true") then Some (Literal.Boolean true)
    else if width == 1 && bytes_eq w (codes "false") then Some (Literal.Boolean false) else None

abbrev pub literal_of : ℕ → Lexeme → Option Literal
literal_of width (word w) = literal_word width w
literal_of width (number text) = if fits_number width text then Some (Literal.Number text) else None
literal_of width _ = None

abbrev pub value_of : ℕ → Lexeme → Option Written
value_of width (local name) = Some (Written.Local name)
value_of width (word w) = if bytes_eq w (codes "poison") then Some Written.Poison else option_map Written.Literal (literal_word width w)
value_of width (number text) = option_map Written.Literal (literal_of width (number text))
value_of width _ = None

-- the intrinsic of a name at a width
abbrev pub intrinsic_in : {K : Type 0} → (K → List ℕ) → List K → ℕ → List ℕ → Option K
intrinsic_in spelled all width name = find (λ k. bytes_eq name (callee (spelled k) width)) all

abbrev pub callee_in : {K : Type 0} → (K → List ℕ) → List K → ℕ → Lexeme → Option K
callee_in spelled all width (global name) = intrinsic_in spelled all width name
callee_in spelled all width _ = None

-- the intrinsics whose result is of the type of their arguments
abbrev pub intrinsic_word : Intrinsic → List ℕ
intrinsic_word (Intrinsic.Two fun) = fun2_word fun
intrinsic_word (Intrinsic.One fun) = fun1_word fun

abbrev pub intrinsics : List Intrinsic
intrinsics = map Intrinsic.Two fun2s ++ map Intrinsic.One fun1s

-- The callee of a call with a result, after these words: an intrinsic has none, and any other name is that of a function.
abbrev pub known_callee : List (List ℕ) → ℕ → List ℕ → Option Callee
known_callee [] width name = option_map Callee.Known (intrinsic_in intrinsic_word intrinsics width name)
known_callee (_ ∷ _) width name = None

abbrev pub callee_after : List (List ℕ) → ℕ → Lexeme → Option Callee
callee_after words width (global name) = if is_intrinsic name then known_callee words width name else Some (Callee.Other name)
callee_after words width _ = None

-- The same of a call without a result.
abbrev pub known_void : List (List ℕ) → List ℕ → Option VoidCallee
known_void [] name = if bytes_eq name (codes "llvm.assume") then Some VoidCallee.Assume else None
known_void (_ ∷ _) name = None

abbrev pub void_after : List (List ℕ) → Lexeme → Option VoidCallee
void_after words (global name) = if is_intrinsic name then known_void words name else Some (VoidCallee.Other name)
void_after words _ = None
