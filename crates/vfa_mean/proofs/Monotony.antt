-- Monotony: where operands become poison, an operation is undefined, or gives poison or the same.
use Rattle.std.proofs.Common.{◌≡◌, ℕ, ◌-◌, ◌^◌, ◌||◌, ◌&&◌, Bool, true, false, if◌then◌else◌, nat_eq, refl, sym, subst}
use Rattle.vfa_ir.specs.declared.operations.Bin.{Bin}
use Rattle.vfa_ir.specs.declared.operations.Flags.{Flags}
use Rattle.vfa_ir.specs.declared.operations.Op.{Op}
use Rattle.vfa_mean.specs.declared.value.Done.{Done}
use Rattle.vfa_mean.specs.declared.value.Val.{Val}
use Rattle.vfa_mean.specs.Values.{AllowsValue, IsInt}
use Rattle.vfa_mean.specs.Meaning.{Result, Undefined, Gave, done, binary, of_one, of_two, unsigned_division, signed_division, minus_one, chosen, frozen, part_of, assumed}
use Rattle.vfa_mean.specs.Laws.{AllowsResult, AllowsDone, IsMonotone}
use Rattle.vfa_mean.proofs.Refining.{AllowsValue-refl}
use Rattle.vfa_mean.proofs.Results.{IsOne, one, of_one-one, of_two-one, convert-one, one_number-one, chosen-one, part_of-one}

AllowsResult-refl : (r : Result) → AllowsResult r r
AllowsResult-refl Undefined = tt
AllowsResult-refl (Gave v) = AllowsValue-refl v

AllowsDone-refl : (d : Done) → AllowsDone d d
AllowsDone-refl d = record { each = λ r' a. (r', a, AllowsResult-refl r') }

-- the same operands
same : (A : Type 0) (f : A → Done) (a a' : A) → a ≡ a' → AllowsDone (f a) (f a')
same A f a a' e = subst (λ x. AllowsDone (f a) (f x)) e (AllowsDone-refl (f a))

ub_allows : (d : Done) → AllowsDone Done.Ub d
ub_allows d = record { each = λ r' a. (Undefined, refl, tt) }

value_allows : (v v' : Val) → AllowsValue v v' → AllowsDone (Done.Is v) (Done.Is v')
value_allows v v' h = record { each = λ r' a. (Gave v, refl, subst (λ r. AllowsResult (Gave v) r) (sym a) h) }

poison_allows : (d : Done) → IsOne d → AllowsDone (Done.Is Val.Poison) d
poison_allows d (one v) = value_allows Val.Poison v tt

one_monotone : (row : ℕ → Done) (a a' : Val) → ((x : ℕ) → IsOne (row x)) → AllowsValue a a' → AllowsDone (of_one row a) (of_one row a')
one_monotone row Val.Poison a' h e = poison_allows (of_one row a') (of_one-one row a' h)
one_monotone row (Val.Number x) a' h e = same Val (of_one row) (Val.Number x) a' e
one_monotone row (Val.Pair x o) a' h e = same Val (of_one row) (Val.Pair x o) a' e

two_monotone : (row : ℕ → ℕ → Done) (a b a' b' : Val) → ((x y : ℕ) → IsOne (row x y)) → AllowsValue a a' → AllowsValue b b'
    → AllowsDone (of_two row a b) (of_two row a' b')
two_monotone row Val.Poison b a' b' h e f = poison_allows (of_two row a' b') (of_two-one row a' b' h)
two_monotone row (Val.Pair x o) b a' b' h e f = poison_allows (of_two row a' b') (of_two-one row a' b' h)
two_monotone row (Val.Number x) Val.Poison a' b' h e f = poison_allows (of_two row a' b') (of_two-one row a' b' h)
two_monotone row (Val.Number x) (Val.Pair y o) a' b' h e f = poison_allows (of_two row a' b') (of_two-one row a' b' h)
two_monotone row (Val.Number x) (Val.Number y) a' b' h e f =
    subst (λ u. AllowsDone (row x y) (of_two row u b')) e (same Val (of_two row (Val.Number x)) (Val.Number y) b' f)

-- a poison dividend, by a divisor that is not refused
poison_dividend : (t : Bool) (d : Done) → IsOne d → AllowsDone (if t then Done.Ub else Done.Is Val.Poison) (if t then Done.Ub else d)
poison_dividend true d h = ub_allows Done.Ub
poison_dividend false d h = poison_allows d h

unsigned_poison : (row : ℕ → ℕ → Done) (a' : Val) (y : ℕ) → ((x y : ℕ) → IsOne (row x y))
    → AllowsDone (unsigned_division row Val.Poison (Val.Number y)) (unsigned_division row a' (Val.Number y))
unsigned_poison row (Val.Number x) y h = poison_dividend (nat_eq y 0) (row x y) (h x y)
unsigned_poison row Val.Poison y h = AllowsDone-refl _
unsigned_poison row (Val.Pair x o) y h = AllowsDone-refl _

unsigned_monotone : (row : ℕ → ℕ → Done) (a b a' b' : Val) → ((x y : ℕ) → IsOne (row x y)) → AllowsValue a a' → AllowsValue b b'
    → AllowsDone (unsigned_division row a b) (unsigned_division row a' b')
unsigned_monotone row Val.Poison (Val.Number y) a' b' h e f =
    subst (λ v. AllowsDone (unsigned_division row Val.Poison (Val.Number y)) (unsigned_division row a' v)) f (unsigned_poison row a' y h)
unsigned_monotone row (Val.Number x) (Val.Number y) a' b' h e f =
    subst (λ u. AllowsDone (unsigned_division row (Val.Number x) (Val.Number y)) (unsigned_division row u b')) e
    (same Val (unsigned_division row (Val.Number x)) (Val.Number y) b' f)
unsigned_monotone row (Val.Pair x o) (Val.Number y) a' b' h e f =
    subst (λ u. AllowsDone (unsigned_division row (Val.Pair x o) (Val.Number y)) (unsigned_division row u b')) e
    (same Val (unsigned_division row (Val.Pair x o)) (Val.Number y) b' f)
unsigned_monotone row Val.Poison Val.Poison a' b' h e f = ub_allows _
unsigned_monotone row Val.Poison (Val.Pair y o) a' b' h e f = ub_allows _
unsigned_monotone row (Val.Number x) Val.Poison a' b' h e f = ub_allows _
unsigned_monotone row (Val.Number x) (Val.Pair y o) a' b' h e f = ub_allows _
unsigned_monotone row (Val.Pair x p) Val.Poison a' b' h e f = ub_allows _
unsigned_monotone row (Val.Pair x p) (Val.Pair y o) a' b' h e f = ub_allows _

-- a poison dividend is undefined wherever some number is
signed_dividend : (z m l : Bool) (d : Done) → IsOne d
    → AllowsDone (if z || m then Done.Ub else Done.Is Val.Poison) (if z || m && l then Done.Ub else d)
signed_dividend true m l d h = ub_allows _
signed_dividend false true l d h = ub_allows _
signed_dividend false false l d h = poison_allows d h

signed_poison : (w : ℕ) (row : ℕ → ℕ → Done) (a' : Val) (y : ℕ) → ((x y : ℕ) → IsOne (row x y))
    → AllowsDone (signed_division w row Val.Poison (Val.Number y)) (signed_division w row a' (Val.Number y))
signed_poison w row (Val.Number x) y h = signed_dividend (nat_eq y 0) (nat_eq y (minus_one w)) (nat_eq x (2 ^ (w - 1))) (row x y) (h x y)
signed_poison w row Val.Poison y h = AllowsDone-refl _
signed_poison w row (Val.Pair x o) y h = AllowsDone-refl _

signed_monotone : (w : ℕ) (row : ℕ → ℕ → Done) (a b a' b' : Val) → ((x y : ℕ) → IsOne (row x y)) → AllowsValue a a' → AllowsValue b b'
    → AllowsDone (signed_division w row a b) (signed_division w row a' b')
signed_monotone w row Val.Poison (Val.Number y) a' b' h e f =
    subst (λ v. AllowsDone (signed_division w row Val.Poison (Val.Number y)) (signed_division w row a' v)) f (signed_poison w row a' y h)
signed_monotone w row (Val.Number x) (Val.Number y) a' b' h e f =
    subst (λ u. AllowsDone (signed_division w row (Val.Number x) (Val.Number y)) (signed_division w row u b')) e
    (same Val (signed_division w row (Val.Number x)) (Val.Number y) b' f)
signed_monotone w row (Val.Pair x o) (Val.Number y) a' b' h e f =
    subst (λ u. AllowsDone (signed_division w row (Val.Pair x o) (Val.Number y)) (signed_division w row u b')) e
    (same Val (signed_division w row (Val.Pair x o)) (Val.Number y) b' f)
signed_monotone w row Val.Poison Val.Poison a' b' h e f = ub_allows _
signed_monotone w row Val.Poison (Val.Pair y o) a' b' h e f = ub_allows _
signed_monotone w row (Val.Number x) Val.Poison a' b' h e f = ub_allows _
signed_monotone w row (Val.Number x) (Val.Pair y o) a' b' h e f = ub_allows _
signed_monotone w row (Val.Pair x p) Val.Poison a' b' h e f = ub_allows _
signed_monotone w row (Val.Pair x p) (Val.Pair y o) a' b' h e f = ub_allows _

binary_monotone : (bin : Bin) (flags : Flags) (w : ℕ) (a b a' b' : Val) → AllowsValue a a' → AllowsValue b b'
    → AllowsDone (binary bin flags w a b) (binary bin flags w a' b')
binary_monotone Bin.Add flags w a b a' b' e f = two_monotone _ a b a' b' (λ x y. one _) e f
binary_monotone Bin.Sub flags w a b a' b' e f = two_monotone _ a b a' b' (λ x y. one _) e f
binary_monotone Bin.Mul flags w a b a' b' e f = two_monotone _ a b a' b' (λ x y. one _) e f
binary_monotone Bin.Shl flags w a b a' b' e f = two_monotone _ a b a' b' (λ x y. one _) e f
binary_monotone Bin.Udiv flags w a b a' b' e f = unsigned_monotone _ a b a' b' (λ x y. one _) e f
binary_monotone Bin.Sdiv flags w a b a' b' e f = signed_monotone w _ a b a' b' (λ x y. one _) e f
binary_monotone Bin.Lshr flags w a b a' b' e f = two_monotone _ a b a' b' (λ x y. one _) e f
binary_monotone Bin.Ashr flags w a b a' b' e f = two_monotone _ a b a' b' (λ x y. one _) e f
binary_monotone Bin.Urem flags w a b a' b' e f = unsigned_monotone _ a b a' b' (λ x y. one _) e f
binary_monotone Bin.Srem flags w a b a' b' e f = signed_monotone w _ a b a' b' (λ x y. one _) e f
binary_monotone Bin.And flags w a b a' b' e f = two_monotone _ a b a' b' (λ x y. one _) e f
binary_monotone Bin.Or flags w a b a' b' e f = two_monotone _ a b a' b' (λ x y. one _) e f
binary_monotone Bin.Xor flags w a b a' b' e f = two_monotone _ a b a' b' (λ x y. one _) e f

arm : (t : Bool) (a b a' b' : Val) → AllowsValue a a' → AllowsValue b b'
    → AllowsDone (Done.Is (if t then b else a)) (Done.Is (if t then b' else a'))
arm true a b a' b' e f = value_allows b b' f
arm false a b a' b' e f = value_allows a a' e

chosen_monotone : (c a b c' a' b' : Val) → AllowsValue c c' → AllowsValue a a' → AllowsValue b b'
    → AllowsDone (chosen c a b) (chosen c' a' b')
chosen_monotone Val.Poison a b c' a' b' g e f = poison_allows (chosen c' a' b') (chosen-one c' a' b')
chosen_monotone (Val.Pair x o) a b c' a' b' g e f = poison_allows (chosen c' a' b') (chosen-one c' a' b')
chosen_monotone (Val.Number x) a b c' a' b' g e f =
    subst (λ v. AllowsDone (chosen (Val.Number x) a b) (chosen v a' b')) g (arm (nat_eq x 0) a b a' b' e f)

frozen_monotone : (w : ℕ) (a a' : Val) → IsInt w a' → AllowsValue a a' → AllowsDone (frozen w a) (frozen w a')
frozen_monotone w Val.Poison Val.Poison i e = AllowsDone-refl (Done.AnyOf w)
frozen_monotone w Val.Poison (Val.Number x) i e = record { each = λ r' a. (r', (x, i, a), AllowsResult-refl r') }
frozen_monotone w Val.Poison (Val.Pair x o) i e = absurd i
frozen_monotone w (Val.Number x) a' i e = same Val (frozen w) (Val.Number x) a' e
frozen_monotone w (Val.Pair x o) a' i e = same Val (frozen w) (Val.Pair x o) a' e

part_monotone : (index : ℕ) (c c' : Val) → AllowsValue c c' → AllowsDone (part_of index c) (part_of index c')
part_monotone index Val.Poison c' e = poison_allows (part_of index c') (part_of-one index c')
part_monotone index (Val.Number x) c' e = same Val (part_of index) (Val.Number x) c' e
part_monotone index (Val.Pair x o) c' e = same Val (part_of index) (Val.Pair x o) c' e

assumed_monotone : (c c' : Val) → AllowsValue c c' → AllowsDone (assumed c) (assumed c')
assumed_monotone Val.Poison c' e = ub_allows (assumed c')
assumed_monotone (Val.Pair x o) c' e = ub_allows (assumed c')
assumed_monotone (Val.Number x) c' e = same Val assumed (Val.Number x) c' e

pub done_monotone : (op : Op) → IsMonotone op
unfolding done
done_monotone (Op.Bin bin flags w _ _) a b c a' b' c' e f g t = binary_monotone bin flags w a b a' b' e f
done_monotone (Op.Icmp pred samesign w _ _) a b c a' b' c' e f g t = two_monotone _ a b a' b' (λ x y. one _) e f
done_monotone (Op.Select w _ _ _) a b c a' b' c' e f g t = chosen_monotone c a b c' a' b' g e f
done_monotone (Op.Cast cast flags v w _) a b c a' b' c' e f g t = one_monotone _ a a' (convert-one cast flags v w) e
done_monotone (Op.Freeze w _) a b c a' b' c' e f g t = frozen_monotone w a a' t e
done_monotone (Op.Two fun w _ _) a b c a' b' c' e f g t = two_monotone _ a b a' b' (λ x y. one _) e f
done_monotone (Op.One fun w _ strict) a b c a' b' c' e f g t = one_monotone _ a a' (one_number-one fun strict w) e
done_monotone (Op.Over over w _ _) a b c a' b' c' e f g t = two_monotone _ a b a' b' (λ x y. one _) e f
done_monotone (Op.Part w _ index) a b c a' b' c' e f g t = part_monotone index c c' g
done_monotone (Op.Assume _) a b c a' b' c' e f g t = assumed_monotone c c' g
done_monotone (Op.Call _ _) a b c a' b' c' e f g t = AllowsDone-refl (Done.Is Val.Poison)
