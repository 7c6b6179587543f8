-- A `Known` is determined by its masks.
use Rattle.std.proofs.Common.{◌≡◌, ℕ, ap, ◌∙◌, subst}
use Rattle.std.proofs.Props.{props}
use Rattle.vfa_word.specs.Numbers.{IsWidth}
use Rattle.vfa_known.specs.Cube.{IsCube}
use Rattle.vfa_known.specs.Known.{masks_of}
use Rattle.vfa_known.specs.declared.known.Known.{Known}

width_prop : (w : ℕ) → IsProp (IsWidth w)
width_prop w = hlevel props

cube_prop : (w clear set : ℕ) → IsProp (IsCube w clear set)
cube_prop w clear set = hlevel props

known_of : {W : ℕ} (clear set : ℕ) → IsWidth W → IsCube W clear set → Known W
known_of clear set width cube = record { zeros = clear; ones = set; width = width; cube = cube }

same_facts : {W : ℕ} (clear set : ℕ) (u v : IsWidth W) (c d : IsCube W clear set) → known_of clear set u c ≡ known_of clear set v d
same_facts {W} clear set u v c d =
    ap (λ f. known_of clear set f c) (width_prop W u v) ∙ ap (known_of clear set v) (cube_prop W clear set c d)

same_ones : {W : ℕ} (clear set set' : ℕ) (u v : IsWidth W) (c : IsCube W clear set) (d : IsCube W clear set') → set ≡ set' →
    known_of clear set u c ≡ known_of clear set' v d
same_ones {W} clear set set' u v c d same =
    subst (λ (n : ℕ). (f : IsCube W clear n) → known_of clear set u c ≡ known_of clear n v f) same (same_facts clear set u v c) d

same_masks : {W : ℕ} (clear clear' set set' : ℕ) (u v : IsWidth W) (c : IsCube W clear set) (d : IsCube W clear' set') →
    clear ≡ clear' → set ≡ set' → known_of clear set u c ≡ known_of clear' set' v d
same_masks {W} clear clear' set set' u v c d same same' =
    subst (λ (n : ℕ). (f : IsCube W n set') → known_of clear set u c ≡ known_of n set' v f) same (λ f. same_ones clear set set' u v c f same') d

pub known_same : {W : ℕ} (k l : Known W) → masks_of k ≡ masks_of l → k ≡ l
unfolding known_of
known_same {W} k l same =
    same_masks k.zeros l.zeros k.ones l.ones k.width l.width k.cube l.cube (ap (λ m. m.zeros) same) (ap (λ m. m.ones) same)
