-- Values that agree on the bits that are asked for, and what operations make of them.
use Rattle.std.proofs.Common.{◌≡◌, ℕ, ◌-◌, ◌^◌, Bool, true, false, ◌||◌, ◌&&◌, refl, sym, ap, subst}
use Rattle.std.specs.Prelude.{nat_eq, nat_le, if◌then◌else◌, ⊤}
use Rattle.vfa_ir.specs.declared.operations.Bin.{Bin}
use Rattle.vfa_ir.specs.declared.operations.Cast.{Cast}
use Rattle.vfa_ir.specs.declared.operations.CastFlags.{CastFlags}
use Rattle.vfa_ir.specs.declared.operations.Flags.{Flags}
use Rattle.vfa_ir.specs.declared.operations.Op.{Op}
use Rattle.vfa_ir.specs.declared.operations.Ty.{Ty}
use Rattle.vfa_ir.specs.Operands.{no_flags, no_cast_flags, without_flags}
use Rattle.vfa_mean.specs.declared.value.Done.{Done}
use Rattle.vfa_mean.specs.declared.value.Val.{Val}
use Rattle.vfa_mean.specs.Values.{AllowsValue, IsInt, IsValueOf}
use Rattle.vfa_mean.specs.Meaning.{Result, Undefined, Gave, Allowed, done, binary, of_one, of_two, unsigned_division, signed_division, minus_one}
use Rattle.vfa_mean.specs.Rows.{number_unless, convert}
use Rattle.vfa_mean.specs.Laws.{AllowsResult, AllowsDone}
use Rattle.vfa_mean.proofs.Refining.{AllowsValue-refl, AllowsValue-trans}
use Rattle.vfa_mean.proofs.Results.{IsOne, one}
use Rattle.vfa_demand.specs.Masks.{IsPartOf}
use Rattle.vfa_demand.specs.Rows.{all_bits}
use Rattle.vfa_bits.proofs.SameBits.{SameOn, same_self, same_part, same_all}

-- The first value is poison, or both are numbers with the same digits where the mask has ones, or one pair.
abbrev pub AgreesOn : ℕ → Val → Val → Type 0
AgreesOn d Val.Poison v' = ⊤
AgreesOn d (Val.Number x) (Val.Number y) = SameOn d x y
AgreesOn d (Val.Number x) Val.Poison = ⊥
AgreesOn d (Val.Number x) (Val.Pair y o) = ⊥
AgreesOn d (Val.Pair x o) v' = Val.Pair x o ≡ v'

pub allows_agrees : (d : ℕ) (v v' : Val) → AllowsValue v v' → AgreesOn d v v'
allows_agrees d Val.Poison v' h = tt
allows_agrees d (Val.Number x) v' h = subst (λ v. AgreesOn d (Val.Number x) v) h (same_self d x)
allows_agrees d (Val.Pair x o) v' h = h

pub agrees_part : (p q : ℕ) (v v' : Val) → IsPartOf p q → AgreesOn q v v' → AgreesOn p v v'
agrees_part p q Val.Poison v' part h = tt
agrees_part p q (Val.Number x) (Val.Number y) part h = same_part p q x y part h
agrees_part p q (Val.Number x) Val.Poison part h = h
agrees_part p q (Val.Number x) (Val.Pair y o) part h = h
agrees_part p q (Val.Pair x o) v' part h = h

-- all bits of the type are asked for
pub whole_allows : (w d : ℕ) (v v' : Val) → IsPartOf (all_bits w) d → IsInt w v → IsInt w v' → AgreesOn d v v' → AllowsValue v v'
whole_allows w d Val.Poison v' part i i' h = tt
whole_allows w d (Val.Number x) (Val.Number y) part i i' h = ap Val.Number (same_all w d x y part i i' h)
whole_allows w d (Val.Number x) Val.Poison part i i' h = absurd h
whole_allows w d (Val.Number x) (Val.Pair y o) part i i' h = absurd h
whole_allows w d (Val.Pair x o) v' part i i' h = absurd i

pub pair_allows : (w d : ℕ) (v v' : Val) → IsValueOf (Ty.Pair w) v → AgreesOn d v v' → AllowsValue v v'
pair_allows w d Val.Poison v' i h = tt
pair_allows w d (Val.Number x) v' i h = absurd i
pair_allows w d (Val.Pair x o) v' i h = h

-- ---- results

abbrev pub AgreesResult : ℕ → Result → Result → Type 0
AgreesResult d Undefined r' = ⊤
AgreesResult d (Gave v) (Gave v') = AgreesOn d v v'
AgreesResult d (Gave v) Undefined = ⊥

-- each result of the second agrees with one of the first
pub record AgreesDone (d : ℕ) (e e' : Done) : Type 0 where
  pub each : (r' : Result) → Allowed e' r' → (r : Result) × Allowed e r × AgreesResult d r r'

pub value_agrees : (d : ℕ) (v v' : Val) → AgreesOn d v v' → AgreesDone d (Done.Is v) (Done.Is v')
value_agrees d v v' h = record { each = λ r' a. (Gave v, refl, subst (λ r. AgreesResult d (Gave v) r) (sym a) h) }

pub ub_agrees : (d : ℕ) (e' : Done) → AgreesDone d Done.Ub e'
ub_agrees d e' = record { each = λ r' a. (Undefined, refl, tt) }

pub poison_agrees : (d : ℕ) (e' : Done) → IsOne e' → AgreesDone d (Done.Is Val.Poison) e'
poison_agrees d e' (one v) = value_agrees d Val.Poison v tt

result_agrees : (d : ℕ) (r r' : Result) → AllowsResult r r' → AgreesResult d r r'
result_agrees d Undefined r' h = tt
result_agrees d (Gave v) (Gave v') h = allows_agrees d v v' h
result_agrees d (Gave v) Undefined h = absurd h

pub done_agrees : (d : ℕ) (e e' : Done) → AllowsDone e e' → AgreesDone d e e'
done_agrees d e e' h = record { each = λ r' a. let k = h.each r' a in (k.0, k.1, result_agrees d k.0 r' k.2) }

result_trans : (r s t : Result) → AllowsResult r s → AllowsResult s t → AllowsResult r t
result_trans Undefined s t p q = tt
result_trans (Gave v) Undefined t p q = absurd p
result_trans (Gave v) (Gave u) Undefined p q = absurd q
result_trans (Gave v) (Gave u) (Gave w) p q = AllowsValue-trans v u w p q

pub done_trans : (d e f : Done) → AllowsDone d e → AllowsDone e f → AllowsDone d f
done_trans d e f p q = record {
  each = λ r' a. let k = q.each r' a in let l = p.each k.0 k.1 in (l.0, l.1, result_trans l.0 k.0 r' l.2 k.2);
}

-- ---- without flags an operation gives no more poison

result_refl : (r : Result) → AllowsResult r r
result_refl Undefined = tt
result_refl (Gave v) = AllowsValue-refl v

pub done_refl : (d : Done) → AllowsDone d d
done_refl d = record { each = λ r' a. (r', a, result_refl r') }

is_allowed : (v v' : Val) → AllowsValue v v' → AllowsDone (Done.Is v) (Done.Is v')
is_allowed v v' h = record { each = λ r' a. (Gave v, refl, subst (λ r. AllowsResult (Gave v) r) (sym a) h) }

unless_allowed : (broken broken' : Bool) (n : ℕ) → (broken' ≡ true → broken ≡ true) → AllowsDone (number_unless broken n) (number_unless broken' n)
unless_allowed true broken' n h = is_allowed Val.Poison (if broken' then Val.Poison else Val.Number n) tt
unless_allowed false true n h = absurd (let e = h refl in cc)
unless_allowed false false n h = is_allowed (Val.Number n) (Val.Number n) refl

one_allowed : (row row' : ℕ → Done) (a : Val) → ((x : ℕ) → AllowsDone (row x) (row' x)) → AllowsDone (of_one row a) (of_one row' a)
one_allowed row row' (Val.Number x) h = h x
one_allowed row row' Val.Poison h = done_refl _
one_allowed row row' (Val.Pair x o) h = done_refl _

two_allowed : (row row' : ℕ → ℕ → Done) (a b : Val) → ((x y : ℕ) → AllowsDone (row x y) (row' x y)) → AllowsDone (of_two row a b) (of_two row' a b)
two_allowed row row' (Val.Number x) (Val.Number y) h = h x y
two_allowed row row' (Val.Number x) Val.Poison h = done_refl _
two_allowed row row' (Val.Number x) (Val.Pair y o) h = done_refl _
two_allowed row row' Val.Poison b h = done_refl _
two_allowed row row' (Val.Pair x o) b h = done_refl _

if_allowed : (t : Bool) (u d d' : Done) → AllowsDone d d' → AllowsDone (if t then u else d) (if t then u else d')
if_allowed true u d d' h = done_refl u
if_allowed false u d d' h = h

division_allowed : (row row' : ℕ → ℕ → Done) (a b : Val) → ((x y : ℕ) → AllowsDone (row x y) (row' x y)) → AllowsDone (unsigned_division row a b) (unsigned_division row' a b)
division_allowed row row' (Val.Number x) (Val.Number y) h = if_allowed (nat_eq y 0) Done.Ub (row x y) (row' x y) (h x y)
division_allowed row row' (Val.Number x) Val.Poison h = done_refl _
division_allowed row row' (Val.Number x) (Val.Pair y o) h = done_refl _
division_allowed row row' Val.Poison (Val.Number y) h = done_refl _
division_allowed row row' Val.Poison Val.Poison h = done_refl _
division_allowed row row' Val.Poison (Val.Pair y o) h = done_refl _
division_allowed row row' (Val.Pair x p) (Val.Number y) h = done_refl _
division_allowed row row' (Val.Pair x p) Val.Poison h = done_refl _
division_allowed row row' (Val.Pair x p) (Val.Pair y o) h = done_refl _

signed_allowed : (w : ℕ) (row row' : ℕ → ℕ → Done) (a b : Val) → ((x y : ℕ) → AllowsDone (row x y) (row' x y)) → AllowsDone (signed_division w row a b) (signed_division w row' a b)
signed_allowed w row row' (Val.Number x) (Val.Number y) h =
    if_allowed (nat_eq y 0 || nat_eq y (minus_one w) && nat_eq x (2 ^ (w - 1))) Done.Ub (row x y) (row' x y) (h x y)
signed_allowed w row row' (Val.Number x) Val.Poison h = done_refl _
signed_allowed w row row' (Val.Number x) (Val.Pair y o) h = done_refl _
signed_allowed w row row' Val.Poison (Val.Number y) h = done_refl _
signed_allowed w row row' Val.Poison Val.Poison h = done_refl _
signed_allowed w row row' Val.Poison (Val.Pair y o) h = done_refl _
signed_allowed w row row' (Val.Pair x p) (Val.Number y) h = done_refl _
signed_allowed w row row' (Val.Pair x p) Val.Poison h = done_refl _
signed_allowed w row row' (Val.Pair x p) (Val.Pair y o) h = done_refl _

-- a flag that is not there is not broken
no_flag : (far other : Bool) → (far || false) ≡ true → (far || other) ≡ true
no_flag true other e = refl
no_flag false other e = absurd (cc)

never : (t : Bool) → false ≡ true → t ≡ true
never t e = absurd (cc)

binary_allowed : (bin : Bin) (flags : Flags) (w : ℕ) (a b : Val) → AllowsDone (binary bin flags w a b) (binary bin no_flags w a b)
binary_allowed Bin.Add flags w a b = two_allowed _ _ a b (λ x y. unless_allowed _ _ _ (never _))
binary_allowed Bin.Sub flags w a b = two_allowed _ _ a b (λ x y. unless_allowed _ _ _ (never _))
binary_allowed Bin.Mul flags w a b = two_allowed _ _ a b (λ x y. unless_allowed _ _ _ (never _))
binary_allowed Bin.Shl flags w a b = two_allowed _ _ a b (λ x y. unless_allowed _ _ _ (no_flag (nat_le w y) _))
binary_allowed Bin.Udiv flags w a b = division_allowed _ _ a b (λ x y. unless_allowed _ _ _ (never _))
binary_allowed Bin.Sdiv flags w a b = signed_allowed w _ _ a b (λ x y. unless_allowed _ _ _ (never _))
binary_allowed Bin.Lshr flags w a b = two_allowed _ _ a b (λ x y. unless_allowed _ _ _ (no_flag (nat_le w y) _))
binary_allowed Bin.Ashr flags w a b = two_allowed _ _ a b (λ x y. unless_allowed _ _ _ (no_flag (nat_le w y) _))
binary_allowed Bin.Urem flags w a b = done_refl _
binary_allowed Bin.Srem flags w a b = done_refl _
binary_allowed Bin.And flags w a b = done_refl _
binary_allowed Bin.Or flags w a b = two_allowed _ _ a b (λ x y. unless_allowed _ _ _ (never _))
binary_allowed Bin.Xor flags w a b = done_refl _

convert_allowed : (cast : Cast) (flags : CastFlags) (v w x : ℕ) → AllowsDone (convert cast flags v w x) (convert cast no_cast_flags v w x)
convert_allowed Cast.Zext flags v w x = unless_allowed _ _ _ (never _)
convert_allowed Cast.Sext flags v w x = done_refl _
convert_allowed Cast.Trunc flags v w x = unless_allowed _ _ _ (never _)

pub flags_allowed : (op : Op) (a b c : Val) → AllowsDone (done op a b c) (done (without_flags op) a b c)
unfolding done
flags_allowed (Op.Bin bin flags w _ _) a b c = binary_allowed bin flags w a b
flags_allowed (Op.Icmp pred samesign w _ _) a b c = two_allowed _ _ a b (λ x y. unless_allowed _ _ _ (never _))
flags_allowed (Op.Select w _ _ _) a b c = done_refl _
flags_allowed (Op.Cast cast flags v w _) a b c = one_allowed _ _ a (λ x. convert_allowed cast flags v w x)
flags_allowed (Op.Freeze w _) a b c = done_refl _
flags_allowed (Op.Two fun w _ _) a b c = done_refl _
flags_allowed (Op.One fun w _ strict) a b c = done_refl _
flags_allowed (Op.Over over w _ _) a b c = done_refl _
flags_allowed (Op.Part w _ index) a b c = done_refl _
flags_allowed (Op.Assume _) a b c = done_refl _
flags_allowed (Op.Call _ _) a b c = done_refl _
