-- Comparisons of arcs by their ends.
use Rattle.std.proofs.Common.{◌≡◌, ℕ, ◌∙◌, sym, ap, false, ◌&&◌, nat_eq}
use Rattle.std.proofs.lemmas.Bool.{eq-eqb, ne_eqb}
use Rattle.vfa_wrap.specs.Arc.{Span}
use Rattle.vfa_xfer.specs.Widening.{is_same_span}

pub other_firsts : (s t : Span) (f g : ℕ) → f ≡ s.first → g ≡ t.first → (f ≡ g → ⊥) → false ≡ is_same_span s t
unfolding is_same_span
other_firsts s t f g ef eg other =
    sym (ap (λ b. b && nat_eq s.last t.last) (ne_eqb s.first t.first (λ same. other (ef ∙ same ∙ sym eg))))

pub same_firsts : (s t : Span) (f g l m : ℕ) → f ≡ s.first → g ≡ t.first → l ≡ s.last → m ≡ t.last → f ≡ g → nat_eq l m ≡ is_same_span s t
unfolding is_same_span
same_firsts s t f g l m ef eg el em same =
    ap (λ n. nat_eq n m) el ∙ ap (nat_eq s.last) em
    ∙ sym (ap (λ b. b && nat_eq s.last t.last) (eq-eqb s.first t.first (sym ef ∙ same ∙ eg)))
