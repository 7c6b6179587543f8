-- How many results an operation has.
use Rattle.std.proofs.Common.{◌≡◌, ℕ, ◌-◌, ◌^◌, ◌||◌, ◌&&◌, Bool, true, false, if◌then◌else◌, nat_eq, refl, sym, ◌∙◌}
use Rattle.std.proofs.lemmas.Nat.{pow_pos}
use Rattle.vfa_ir.specs.declared.operations.Bin.{Bin}
use Rattle.vfa_ir.specs.declared.operations.Cast.{Cast}
use Rattle.vfa_ir.specs.declared.operations.CastFlags.{CastFlags}
use Rattle.vfa_ir.specs.declared.operations.Flags.{Flags}
use Rattle.vfa_ir.specs.declared.operations.Fun1.{Fun1}
use Rattle.vfa_ir.specs.declared.operations.Op.{Op}
use Rattle.vfa_mean.specs.declared.value.Done.{Done}
use Rattle.vfa_mean.specs.declared.value.Val.{Val}
use Rattle.vfa_mean.specs.Meaning.{Result, Undefined, Gave, Allowed, done, binary, of_one, of_two, unsigned_division, signed_division, minus_one, chosen, part_of, assumed}
use Rattle.vfa_mean.specs.Rows.{convert, one_number}
use Rattle.vfa_mean.specs.Laws.{is_freeze}

pub some_result : (d : Done) → (r : Result) × Allowed d r
some_result Done.Ub = (Undefined, refl)
some_result (Done.Is v) = (Gave v, refl)
some_result (Done.AnyOf w) = (Gave (Val.Number 0), (0, pow_pos w, refl))

-- whether it is one value
pub data IsOne : Done → Type 0 where
  one : (v : Val) → IsOne (Done.Is v)

-- undefined behaviour or one value
pub data IsFixed : Done → Type 0 where
  undefined : IsFixed Done.Ub
  fixed : (v : Val) → IsFixed (Done.Is v)

pub of_one-one : (row : ℕ → Done) (a : Val) → ((x : ℕ) → IsOne (row x)) → IsOne (of_one row a)
of_one-one row (Val.Number x) h = h x
of_one-one row Val.Poison h = one Val.Poison
of_one-one row (Val.Pair x o) h = one Val.Poison

pub of_two-one : (row : ℕ → ℕ → Done) (a b : Val) → ((x y : ℕ) → IsOne (row x y)) → IsOne (of_two row a b)
of_two-one row (Val.Number x) (Val.Number y) h = h x y
of_two-one row (Val.Number x) Val.Poison h = one Val.Poison
of_two-one row (Val.Number x) (Val.Pair y o) h = one Val.Poison
of_two-one row Val.Poison b h = one Val.Poison
of_two-one row (Val.Pair x o) b h = one Val.Poison

pub IsOne-fixed : (d : Done) → IsOne d → IsFixed d
IsOne-fixed d (one v) = fixed v

-- the rows of numbers
pub convert-one : (cast : Cast) (flags : CastFlags) (v w x : ℕ) → IsOne (convert cast flags v w x)
convert-one Cast.Zext flags v w x = one _
convert-one Cast.Sext flags v w x = one _
convert-one Cast.Trunc flags v w x = one _

pub one_number-one : (fun : Fun1) (strict : Bool) (w x : ℕ) → IsOne (one_number fun strict w x)
one_number-one Fun1.Abs strict w x = one _
one_number-one Fun1.Ctlz strict w x = one _
one_number-one Fun1.Cttz strict w x = one _
one_number-one Fun1.Ctpop strict w x = one _

either : (t : Bool) (d e : Done) → IsFixed d → IsFixed e → IsFixed (if t then d else e)
either true d e f g = f
either false d e f g = g

unsigned_division-fixed : (row : ℕ → ℕ → Done) (a b : Val) → ((x y : ℕ) → IsOne (row x y)) → IsFixed (unsigned_division row a b)
unsigned_division-fixed row (Val.Number x) (Val.Number y) h =
    either (nat_eq y 0) Done.Ub (row x y) undefined (IsOne-fixed (row x y) (h x y))
unsigned_division-fixed row Val.Poison (Val.Number y) h =
    either (nat_eq y 0) Done.Ub (Done.Is Val.Poison) undefined (fixed Val.Poison)
unsigned_division-fixed row (Val.Pair x o) (Val.Number y) h =
    either (nat_eq y 0) Done.Ub (Done.Is Val.Poison) undefined (fixed Val.Poison)
unsigned_division-fixed row (Val.Number x) Val.Poison h = undefined
unsigned_division-fixed row (Val.Number x) (Val.Pair y o) h = undefined
unsigned_division-fixed row Val.Poison Val.Poison h = undefined
unsigned_division-fixed row Val.Poison (Val.Pair y o) h = undefined
unsigned_division-fixed row (Val.Pair x p) Val.Poison h = undefined
unsigned_division-fixed row (Val.Pair x p) (Val.Pair y o) h = undefined

signed_division-fixed : (w : ℕ) (row : ℕ → ℕ → Done) (a b : Val) → ((x y : ℕ) → IsOne (row x y)) → IsFixed (signed_division w row a b)
signed_division-fixed w row (Val.Number x) (Val.Number y) h =
    either (nat_eq y 0 || nat_eq y (minus_one w) && nat_eq x (2 ^ (w - 1))) Done.Ub (row x y) undefined (IsOne-fixed (row x y) (h x y))
signed_division-fixed w row Val.Poison (Val.Number y) h =
    either (nat_eq y 0 || nat_eq y (minus_one w)) Done.Ub (Done.Is Val.Poison) undefined (fixed Val.Poison)
signed_division-fixed w row (Val.Pair x o) (Val.Number y) h =
    either (nat_eq y 0 || nat_eq y (minus_one w)) Done.Ub (Done.Is Val.Poison) undefined (fixed Val.Poison)
signed_division-fixed w row (Val.Number x) Val.Poison h = undefined
signed_division-fixed w row (Val.Number x) (Val.Pair y o) h = undefined
signed_division-fixed w row Val.Poison Val.Poison h = undefined
signed_division-fixed w row Val.Poison (Val.Pair y o) h = undefined
signed_division-fixed w row (Val.Pair x p) Val.Poison h = undefined
signed_division-fixed w row (Val.Pair x p) (Val.Pair y o) h = undefined

two-fixed : (row : ℕ → ℕ → Done) (a b : Val) → ((x y : ℕ) → IsOne (row x y)) → IsFixed (of_two row a b)
two-fixed row a b h = IsOne-fixed (of_two row a b) (of_two-one row a b h)

binary-fixed : (bin : Bin) (flags : Flags) (w : ℕ) (a b : Val) → IsFixed (binary bin flags w a b)
binary-fixed Bin.Add flags w a b = two-fixed _ a b (λ x y. one _)
binary-fixed Bin.Sub flags w a b = two-fixed _ a b (λ x y. one _)
binary-fixed Bin.Mul flags w a b = two-fixed _ a b (λ x y. one _)
binary-fixed Bin.Shl flags w a b = two-fixed _ a b (λ x y. one _)
binary-fixed Bin.Udiv flags w a b = unsigned_division-fixed _ a b (λ x y. one _)
binary-fixed Bin.Sdiv flags w a b = signed_division-fixed w _ a b (λ x y. one _)
binary-fixed Bin.Lshr flags w a b = two-fixed _ a b (λ x y. one _)
binary-fixed Bin.Ashr flags w a b = two-fixed _ a b (λ x y. one _)
binary-fixed Bin.Urem flags w a b = unsigned_division-fixed _ a b (λ x y. one _)
binary-fixed Bin.Srem flags w a b = signed_division-fixed w _ a b (λ x y. one _)
binary-fixed Bin.And flags w a b = two-fixed _ a b (λ x y. one _)
binary-fixed Bin.Or flags w a b = two-fixed _ a b (λ x y. one _)
binary-fixed Bin.Xor flags w a b = two-fixed _ a b (λ x y. one _)

pub chosen-one : (c a b : Val) → IsOne (chosen c a b)
chosen-one (Val.Number c) a b = one _
chosen-one Val.Poison a b = one _
chosen-one (Val.Pair x o) a b = one _

pub part_of-one : (index : ℕ) (c : Val) → IsOne (part_of index c)
part_of-one index (Val.Pair x o) = one _
part_of-one index Val.Poison = one _
part_of-one index (Val.Number x) = one _

assumed-fixed : (c : Val) → IsFixed (assumed c)
assumed-fixed (Val.Number c) = either (nat_eq c 0) Done.Ub (Done.Is (Val.Number 1)) undefined (fixed (Val.Number 1))
assumed-fixed Val.Poison = undefined
assumed-fixed (Val.Pair x o) = undefined

pub done-fixed : (op : Op) (a b c : Val) → is_freeze op ≡ false → IsFixed (done op a b c)
unfolding done
done-fixed (Op.Bin bin flags w _ _) a b c n = binary-fixed bin flags w a b
done-fixed (Op.Icmp pred samesign w _ _) a b c n = two-fixed _ a b (λ x y. one _)
done-fixed (Op.Select w _ _ _) a b c n = IsOne-fixed (chosen c a b) (chosen-one c a b)
done-fixed (Op.Cast cast flags v w _) a b c n = IsOne-fixed (of_one (convert cast flags v w) a) (of_one-one _ a (convert-one cast flags v w))
done-fixed (Op.Freeze w _) a b c n = absurd cc
done-fixed (Op.Two fun w _ _) a b c n = two-fixed _ a b (λ x y. one _)
done-fixed (Op.One fun w _ strict) a b c n = IsOne-fixed (of_one (one_number fun strict w) a) (of_one-one _ a (one_number-one fun strict w))
done-fixed (Op.Over over w _ _) a b c n = two-fixed _ a b (λ x y. one _)
done-fixed (Op.Part w _ index) a b c n = IsOne-fixed (part_of index c) (part_of-one index c)
done-fixed (Op.Assume _) a b c n = assumed-fixed c
done-fixed (Op.Call _ _) a b c n = fixed Val.Poison

same_result : (d : Done) (r r' : Result) → IsFixed d → Allowed d r → Allowed d r' → r ≡ r'
same_result d r r' undefined a b = a ∙ sym b
same_result d r r' (fixed v) a b = a ∙ sym b

pub one_result : (op : Op) (a b c : Val) (r r' : Result) → is_freeze op ≡ false → Allowed (done op a b c) r → Allowed (done op a b c) r' → r ≡ r'
one_result op a b c r r' n p q = same_result (done op a b c) r r' (done-fixed op a b c n) p q
