-- Steps of the functions that compute rows.
use Rattle.std.proofs.Common.{◌≡◌, ℕ, ◌+◌, ◌-◌, ◌^◌, ◌≤◌, Bool, true, false, cond, ℤ, refl, sym, ◌∙◌, ap, subst, arith}
use Rattle.std.specs.Prelude.{◌≤ℤ◌, ◌*ℤ◌, bit_and, FitsSigned, ◌&&◌, ◌==◌, int_lt, int_le, Option, None, pos}
use Rattle.std.specs.Int.{w128, cast_signed, cast_unsigned, int_min, int_max}
use Rattle.std.proofs.lemmas.Int.{ints, clamps, to_z-of_z}
use Rattle.std.proofs.Math.Pow.{pow_mono}
use Rattle.vfa_word.specs.Numbers.{wrap, fits_signed}
use Rattle.vfa_word.proofs.Wrapping.{masked, wrap_of_bits}
use Rattle.vfa_wrap.specs.Arc.{Span, full_span, sarc}
use Rattle.vfa_wrap.specs.Rows.{signed_products, size_of, udiv_row, sdiv_row}
use Rattle.vfa_wrap.specs.WholeSpans.{least_corner, greatest_corner}
use Rattle.vfa_wrap.specs.Ends.{EndsOf}
use Rattle.vfa_wrap.proofs.RowArcs.{FitsHalf, fits_tells, fits_between}

-- the bits of a signed number under the mask of the width
pub mask-cast : (w m : ℕ) (z : ℤ) → w ≤ 128 → m + 1 ≡ 2 ^ w → FitsSigned w128 z → bit_and (cast_unsigned w128 (cast_signed w128 (cast_unsigned w128 z))) m ≡ wrap w z
mask-cast w m z h e f =
    ap (λ y. bit_and (cast_unsigned w128 y) m) (to_z-of_z w128 z f)
    ∙ masked (cast_unsigned w128 z) m w e
    ∙ wrap_of_bits w z h f

-- what a signed product of 128 bits is
pub read_product : (p r : ℤ) → FitsSigned w128 p → FitsSigned w128 r → cast_signed w128 (cast_unsigned w128 p) *ℤ cast_signed w128 (cast_unsigned w128 r) ≡ p *ℤ r
read_product p r f g = rw (to_z-of_z w128 p f, to_z-of_z w128 r g)

-- where one of the products leaves the range, the least or the greatest does
pub outside : (p q r s z y : ℤ) → y ≡ z → least_corner p q r s ≤ℤ z → z ≤ℤ greatest_corner p q r s → ¬ FitsSigned w128 y → ¬ (FitsSigned w128 (least_corner p q r s) × FitsSigned w128 (greatest_corner p q r s))
outside p q r s z y e h k n (f, g) =
    let fits : FitsHalf (2 ^ 127) z = fits_between (2 ^ 127) _ _ z f.sfits g.sfits h k in
    n (rw e (record { sfits = fits }))

-- the range of 128 bits has that of the width
fits_wide : (w : ℕ) (z : ℤ) → w ≤ 128 → fits_signed w z ≡ true → FitsSigned w128 z
fits_wide w z h e =
    let f : FitsHalf (2 ^ (w - 1)) z = fits_tells w z e in
    let k : w - 1 ≤ 127 = omega arith in
    record { sfits = omega (arith, f, pow_mono k) }

products_cases : (w : ℕ) (l m : ℤ) (b c : Bool) → w ≤ 128 → fits_signed w l ≡ b → fits_signed w m ≡ c → ¬ (FitsSigned w128 l × FitsSigned w128 m) → full_span w ≡ cond (b && c) (sarc w l m) (full_span w)
products_cases w l m true true h e f n = absurd (n (fits_wide w l h e, fits_wide w m h f))
products_cases w l m true false h e f n = refl
products_cases w l m false c h e f n = refl

pub products_full : (w : ℕ) (l m : ℤ) → w ≤ 128 → ¬ (FitsSigned w128 l × FitsSigned w128 m) → full_span w ≡ signed_products w l m
products_full w l m h n = products_cases w l m _ _ h refl refl n

-- the least and the greatest of numbers of 128 bits, each as the program reads it back
abbrev read : ℤ → ℤ
read z = cast_signed w128 (cast_unsigned w128 z)

min_fits : (p q : ℤ) → FitsSigned w128 p → FitsSigned w128 q → FitsSigned w128 (int_min p q)
min_fits p q f g = omega (arith, ints, clamps)

max_fits : (p q : ℤ) → FitsSigned w128 p → FitsSigned w128 q → FitsSigned w128 (int_max p q)
max_fits p q f g = omega (arith, ints, clamps)

min_read : (p q a : ℤ) → FitsSigned w128 p → FitsSigned w128 q → a ≡ int_min (read p) (read q) → read a ≡ int_min p q
min_read p q a f g e =
    let d : a ≡ int_min p q = rw (to_z-of_z w128 p f, to_z-of_z w128 q g) at e in
    ap read d ∙ to_z-of_z w128 (int_min p q) (min_fits p q f g)

max_read : (p q a : ℤ) → FitsSigned w128 p → FitsSigned w128 q → a ≡ int_max (read p) (read q) → read a ≡ int_max p q
max_read p q a f g e =
    let d : a ≡ int_max p q = rw (to_z-of_z w128 p f, to_z-of_z w128 q g) at e in
    ap read d ∙ to_z-of_z w128 (int_max p q) (max_fits p q f g)

pub least_read : (p q r s a b m : ℤ) → FitsSigned w128 p → FitsSigned w128 q → FitsSigned w128 r → FitsSigned w128 s → a ≡ int_min (read p) (read q) → b ≡ int_min (read r) (read s) → m ≡ int_min (read a) (read b) → read m ≡ int_min (int_min p q) (int_min r s)
least_read p q r s a b m f g h k ea eb em =
    let d : m ≡ int_min (int_min p q) (int_min r s) =
    em ∙ ap (λ x. int_min x (read b)) (min_read p q a f g ea) ∙ ap (λ x. int_min (int_min p q) x) (min_read r s b h k eb)
    in
    ap read d ∙ to_z-of_z w128 _ (min_fits _ _ (min_fits p q f g) (min_fits r s h k))

pub greatest_read : (p q r s a b m : ℤ) → FitsSigned w128 p → FitsSigned w128 q → FitsSigned w128 r → FitsSigned w128 s → a ≡ int_max (read p) (read q) → b ≡ int_max (read r) (read s) → m ≡ int_max (read a) (read b) → read m ≡ int_max (int_max p q) (int_max r s)
greatest_read p q r s a b m f g h k ea eb em =
    let d : m ≡ int_max (int_max p q) (int_max r s) =
    em ∙ ap (λ x. int_max x (read b)) (max_read p q a f g ea) ∙ ap (λ x. int_max (int_max p q) x) (max_read r s b h k eb)
    in
    ap read d ∙ to_z-of_z w128 _ (max_fits _ _ (max_fits p q f g) (max_fits r s h k))

-- a product that fits, as the program reads it back
pub product_read : (p r z : ℤ) → FitsSigned w128 p → FitsSigned w128 r → FitsSigned w128 (read p *ℤ read r) → z ≡ read p *ℤ read r → read z ≡ p *ℤ r
product_read p r z f g h e = ap read e ∙ to_z-of_z w128 (read p *ℤ read r) h ∙ read_product p r f g

pub same_corners : (h : ℤ → ℤ → ℤ → ℤ → ℤ) (p q r s : ℤ) → FitsSigned w128 p → FitsSigned w128 q → FitsSigned w128 r → FitsSigned w128 s → h (read p) (read q) (read r) (read s) ≡ h p q r s
same_corners h p q r s a b c d = rw (to_z-of_z w128 p a, to_z-of_z w128 q b, to_z-of_z w128 r c, to_z-of_z w128 s d) refl

pub products_read : (w : ℕ) (p q r s : ℤ) → w ≤ 128 → FitsSigned w128 p → FitsSigned w128 q → FitsSigned w128 r → FitsSigned w128 s → ¬ (FitsSigned w128 (least_corner (read p) (read q) (read r) (read s)) × FitsSigned w128 (greatest_corner (read p) (read q) (read r) (read s))) → full_span w ≡ signed_products w (least_corner p q r s) (greatest_corner p q r s)
products_read w p q r s h a b c d n =
    let l = same_corners least_corner p q r s a b c d in
    let m = same_corners greatest_corner p q r s a b c d in
    products_full w _ _ h (λ f. n (subst (FitsSigned w128) (sym l) f.0, subst (FitsSigned w128) (sym m) f.1))

pub same_of_four : (h : ℤ → ℤ → ℤ → ℤ → ℤ) (a b c d p q r s : ℤ) → a ≡ p → b ≡ q → c ≡ r → d ≡ s → h a b c d ≡ h p q r s
same_of_four h a b c d p q r s e f k l = cc

choice : (t c d : Bool) (x y : Option Span) → t ≡ false → c ≡ true → d ≡ true → x ≡ cond t None (cond (c && d) x y)
choice true c d x y e f h = cc
choice false true true x y e f h = refl
choice false true false x y e f h = cc
choice false false d x y e f h = cc

not_negative : (z : ℤ) → FitsSigned w128 z → int_lt (read z) (pos 0) ≡ false → int_le (pos 0) z ≡ true
not_negative z f e =
    let h : int_lt z (pos 0) ≡ false = rw (to_z-of_z w128 z f) at e in
    grind (arith, ints)

-- the row of signed quotients where no reading is negative
pub plain_quotients : (w : ℕ) (a b : EndsOf) → (size_of b == 0) ≡ false → FitsSigned w128 a.slo → int_lt (read a.slo) (pos 0) ≡ false → FitsSigned w128 b.slo → int_lt (read b.slo) (pos 0) ≡ false → udiv_row w a b ≡ sdiv_row w a b
unfolding sdiv_row
plain_quotients w a b e f h k l = choice _ _ _ _ _ e (not_negative a.slo f h) (not_negative b.slo k l)
