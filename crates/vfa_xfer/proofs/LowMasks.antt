-- The lowest known bits, as the code makes them.
use Rattle.std.proofs.Common.{◌≡◌, ℕ, ◌%◌, ◌^◌, ◌<◌, ◌≤◌, Bool, ◌&&◌, true, false, refl, sym, ◌∙◌, ap, subst, bit_or}
use Rattle.std.specs.Int.{w128, trailing_ones}
use Rattle.std.proofs.lemmas.Nat.{or_lt}
use Rattle.vfa_dom.specs.Best.{Masks}
use Rattle.vfa_dom.specs.Sets.{meet}
use Rattle.vfa_known.specs.Cube.{IsCube}
use Rattle.vfa_known.specs.Product.{run_of, is_known}
use Rattle.vfa_known.proofs.Products.{ones_run, known_run_is}
use Rattle.vfa_wrap.specs.Arc.{Span, IsArc, in_span}
use Rattle.vfa_fact.specs.Sharp.{sharp_in}
use Rattle.vfa_fact.proofs.SharpSets.{sharp_alike}
use Rattle.vfa_xfer.specs.LowBits.{low_cube}
use Rattle.vfa_xfer.specs.Widening.{low_masks}

pub low_made : (w z o run low_z low_o : ℕ) (m : Masks) → w ≤ 128 → IsCube w m.zeros m.ones → z ≡ m.zeros → o ≡ m.ones → run ≡ trailing_ones w128 (bit_or z o) →
    low_z ≡ z % 2 ^ run → low_o ≡ o % 2 ^ run → record { zeros = low_z; ones = low_o } ≡ low_masks w m
unfolding low_masks
low_made w z o run low_z low_o m width cube ez eo er elz elo =
    let same : run ≡ trailing_ones w128 (bit_or m.zeros m.ones) = er ∙ ap (λ n. trailing_ones w128 (bit_or n o)) ez ∙ ap (λ n. trailing_ones w128 (bit_or m.zeros n)) eo in
    let is : run ≡ run_of w (is_known m) =
    known_run_is w run m (ones_run w (bit_or m.zeros m.ones) run width (or_lt w m.zeros m.ones cube.zeros_fit cube.ones_fit) same) in
    ap (λ (n : ℕ). record { zeros = n; ones = low_o }) (elz ∙ ap (λ n. n % 2 ^ run) ez ∙ ap (λ n. m.zeros % 2 ^ n) is)
    ∙ ap (λ (n : ℕ). record { zeros = m.zeros % 2 ^ run_of w (is_known m); ones = n }) (elo ∙ ap (λ n. n % 2 ^ run) eo ∙ ap (λ n. m.ones % 2 ^ n) is)

pub low_made_cube : (w low_z low_o : ℕ) (m : Masks) → IsCube w m.zeros m.ones → record { zeros = low_z; ones = low_o } ≡ low_masks w m → IsCube w low_z low_o
low_made_cube w low_z low_o m cube same = subst (λ (l : Masks). IsCube w l.zeros l.ones) (sym same) (low_cube w m cube)

and_true : (a b : Bool) → b ≡ true → (a && b) ≡ a
and_true true b e = e
and_true false b e = refl

-- a test that each number passes asks for nothing
pub tested_all : (w : ℕ) (arc : Span) (S T : ℕ → Bool) → IsArc w arc → ((x : ℕ) → x < 2 ^ w → T x ≡ true) → sharp_in w arc (meet S T) ≡ sharp_in w arc S
unfolding meet
tested_all w arc S T is all = sharp_alike w arc.first _ _ is.first_fits (λ x fits. ap (λ b. in_span w arc x && b) (and_true (S x) (T x) (all x fits)))
