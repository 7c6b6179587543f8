-- The words of the language, with the sections of the LLVM Language Reference that have them.
use Rattle.std.specs.Prelude.{ℕ, ◌++◌, List, [], ◌∷◌, Bool, false, ◌==◌, ◌&&◌, ◌||◌, Option, find, nat_eq, take, codes, decimal, bytes_eq}
use Rattle.std.specs.List.{list_any, list_all}
use Rattle.std.specs.Str.{byte}
use Rattle.std.specs.Char.{is_ascii_digit}
use Rattle.vfa_ir.specs.declared.operations.Bin.{Bin}
use Rattle.vfa_ir.specs.declared.operations.Cast.{Cast}
use Rattle.vfa_ir.specs.declared.operations.Pred.{Pred}
use Rattle.vfa_ir.specs.declared.operations.Fun1.{Fun1}
use Rattle.vfa_ir.specs.declared.operations.Fun2.{Fun2}
use Rattle.vfa_ir.specs.declared.operations.Over.{Over}

-- whether the number is one of these
abbrev pub is_in : ℕ → List ℕ → Bool
is_in n numbers = list_any (nat_eq n) numbers

-- whether the text is one of these
abbrev pub is_among : List ℕ → List (List ℕ) → Bool
is_among text texts = list_any (bytes_eq text) texts

-- the first of these values that is spelled so
abbrev pub keyword : {K : Type 0} → (K → List ℕ) → List K → List ℕ → Option K
keyword spelled all text = find (λ k. bytes_eq (spelled k) text) all

-- whether the text is digits alone
abbrev pub is_digits : List ℕ → Bool
is_digits [] = false
is_digits (c ∷ cs) = is_ascii_digit c && list_all is_ascii_digit cs

-- whether the text is digits, perhaps after a `-`
abbrev pub is_number : List ℕ → Bool
is_number [] = false
is_number (c ∷ cs) = is_digits (c ∷ cs) || (c == byte "-" && is_digits cs)

-- `iN`
abbrev pub type_word : ℕ → List ℕ
type_word width = codes "i" ++ decimal width

-- "Functions", "Linkage Types", "Runtime Preemption Specifiers", "Visibility Styles", "DLL Storage Classes",
-- "Calling Conventions" and "Parameter Attributes": what may stand before the type of the result
abbrev pub lead_words : List (List ℕ)
lead_words = codes "private" ∷ codes "internal" ∷ codes "available_externally" ∷ codes "linkonce" ∷ codes "weak"
    ∷ codes "linkonce_odr" ∷ codes "weak_odr" ∷ codes "external" ∷ codes "dso_local" ∷ codes "dso_preemptable"
    ∷ codes "default" ∷ codes "hidden" ∷ codes "protected" ∷ codes "dllexport" ∷ codes "ccc" ∷ codes "fastcc"
    ∷ codes "coldcc" ∷ codes "tailcc" ∷ codes "noundef" ∷ codes "zeroext" ∷ codes "signext" ∷ codes "inreg" ∷ []

-- "Parameter Attributes": what may stand between a parameter's type and its name
abbrev pub parameter_words : List (List ℕ)
parameter_words = codes "noundef" ∷ codes "zeroext" ∷ codes "signext" ∷ codes "inreg" ∷ codes "returned" ∷ []

-- "Calling Conventions" and "Parameter Attributes": what may stand between `call` and the type of the result
abbrev pub call_words : List (List ℕ)
call_words = codes "ccc" ∷ codes "fastcc" ∷ codes "coldcc" ∷ codes "tailcc" ∷ codes "noundef" ∷ codes "zeroext"
    ∷ codes "signext" ∷ codes "inreg" ∷ []

-- "Binary Operations" and "Bitwise Binary Operations"
abbrev pub bin_word : Bin → List ℕ
bin_word Bin.Add = codes "add"
bin_word Bin.Sub = codes "sub"
bin_word Bin.Mul = codes "mul"
bin_word Bin.Shl = codes "shl"
bin_word Bin.Udiv = codes "udiv"
bin_word Bin.Sdiv = codes "sdiv"
bin_word Bin.Lshr = codes "lshr"
bin_word Bin.Ashr = codes "ashr"
bin_word Bin.Urem = codes "urem"
bin_word Bin.Srem = codes "srem"
bin_word Bin.And = codes "and"
bin_word Bin.Or = codes "or"
bin_word Bin.Xor = codes "xor"

abbrev pub bins : List Bin
bins = Bin.Add ∷ Bin.Sub ∷ Bin.Mul ∷ Bin.Shl ∷ Bin.Udiv ∷ Bin.Sdiv
    ∷ Bin.Lshr ∷ Bin.Ashr ∷ Bin.Urem ∷ Bin.Srem ∷ Bin.And ∷ Bin.Or ∷ Bin.Xor ∷ []

-- the flags that an operation may have
abbrev pub flags_of : Bin → List (List ℕ)
flags_of Bin.Add = codes "nuw" ∷ codes "nsw" ∷ []
flags_of Bin.Sub = codes "nuw" ∷ codes "nsw" ∷ []
flags_of Bin.Mul = codes "nuw" ∷ codes "nsw" ∷ []
flags_of Bin.Shl = codes "nuw" ∷ codes "nsw" ∷ []
flags_of Bin.Udiv = codes "exact" ∷ []
flags_of Bin.Sdiv = codes "exact" ∷ []
flags_of Bin.Lshr = codes "exact" ∷ []
flags_of Bin.Ashr = codes "exact" ∷ []
flags_of Bin.Urem = []
flags_of Bin.Srem = []
flags_of Bin.And = []
flags_of Bin.Or = codes "disjoint" ∷ []
flags_of Bin.Xor = []

-- "icmp Instruction"
abbrev pub pred_word : Pred → List ℕ
pred_word Pred.Eq = codes "eq"
pred_word Pred.Ne = codes "ne"
pred_word Pred.Ugt = codes "ugt"
pred_word Pred.Uge = codes "uge"
pred_word Pred.Ult = codes "ult"
pred_word Pred.Ule = codes "ule"
pred_word Pred.Sgt = codes "sgt"
pred_word Pred.Sge = codes "sge"
pred_word Pred.Slt = codes "slt"
pred_word Pred.Sle = codes "sle"

abbrev pub preds : List Pred
preds = Pred.Eq ∷ Pred.Ne ∷ Pred.Ugt ∷ Pred.Uge ∷ Pred.Ult ∷ Pred.Ule ∷ Pred.Sgt ∷ Pred.Sge ∷ Pred.Slt ∷ Pred.Sle ∷ []

-- "Conversion Operations"
abbrev pub cast_word : Cast → List ℕ
cast_word Cast.Zext = codes "zext"
cast_word Cast.Sext = codes "sext"
cast_word Cast.Trunc = codes "trunc"

abbrev pub casts : List Cast
casts = Cast.Zext ∷ Cast.Sext ∷ Cast.Trunc ∷ []

-- the flags that a conversion may have
abbrev pub cast_flags_of : Cast → List (List ℕ)
cast_flags_of Cast.Zext = codes "nneg" ∷ []
cast_flags_of Cast.Sext = []
cast_flags_of Cast.Trunc = codes "nuw" ∷ codes "nsw" ∷ []

-- "Standard C/C++ Library Intrinsics" and "Saturation Arithmetic Intrinsics"
abbrev pub fun2_word : Fun2 → List ℕ
fun2_word Fun2.Umin = codes "umin"
fun2_word Fun2.Umax = codes "umax"
fun2_word Fun2.Smin = codes "smin"
fun2_word Fun2.Smax = codes "smax"
fun2_word Fun2.UaddSat = codes "uadd.sat"
fun2_word Fun2.UsubSat = codes "usub.sat"
fun2_word Fun2.SaddSat = codes "sadd.sat"
fun2_word Fun2.SsubSat = codes "ssub.sat"

abbrev pub fun2s : List Fun2
fun2s = Fun2.Umin ∷ Fun2.Umax ∷ Fun2.Smin ∷ Fun2.Smax ∷ Fun2.UaddSat ∷ Fun2.UsubSat ∷ Fun2.SaddSat ∷ Fun2.SsubSat ∷ []

-- "Standard C/C++ Library Intrinsics" and "Bit Manipulation Intrinsics"
abbrev pub fun1_word : Fun1 → List ℕ
fun1_word Fun1.Abs = codes "abs"
fun1_word Fun1.Ctlz = codes "ctlz"
fun1_word Fun1.Cttz = codes "cttz"
fun1_word Fun1.Ctpop = codes "ctpop"

abbrev pub fun1s : List Fun1
fun1s = Fun1.Abs ∷ Fun1.Ctlz ∷ Fun1.Cttz ∷ Fun1.Ctpop ∷ []

-- "Arithmetic with Overflow Intrinsics"
abbrev pub over_word : Over → List ℕ
over_word Over.Uadd = codes "uadd.with.overflow"
over_word Over.Sadd = codes "sadd.with.overflow"
over_word Over.Usub = codes "usub.with.overflow"
over_word Over.Ssub = codes "ssub.with.overflow"
over_word Over.Umul = codes "umul.with.overflow"
over_word Over.Smul = codes "smul.with.overflow"

abbrev pub overs : List Over
overs = Over.Uadd ∷ Over.Sadd ∷ Over.Usub ∷ Over.Ssub ∷ Over.Umul ∷ Over.Smul ∷ []

-- "Intrinsic Functions": whether a name is one of an intrinsic, known or not
abbrev pub is_intrinsic : List ℕ → Bool
is_intrinsic name = bytes_eq (take 5 name) (codes "llvm.")

-- the name of an intrinsic at a type, as `llvm.umin.i8`
abbrev pub callee : List ℕ → ℕ → List ℕ
callee intrinsic width = codes "llvm." ++ intrinsic ++ codes "." ++ type_word width
