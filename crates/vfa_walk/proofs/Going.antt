-- A pass, block after block: what blocks got so far, and the table so far.
use Rattle.std.proofs.Common.{◌≡◌, ℕ, true, false, nat_eq, List, [], ◌∷◌, ◌++◌, Option, Some, None, refl, sym, ◌∙◌, ap, subst}
use Rattle.std.specs.List.{IsDistinct}
use Rattle.std.specs.Option.{option_map}
use Rattle.std.proofs.lemmas.Bool.{eqb-true, eq-eqb}
use Rattle.vfa_ir.specs.Walks.{is_in}
use Rattle.vfa_cfg.proofs.Members.{false_is_no_truth, no_truth, in_first, in_rest, apart_in}
use Rattle.vfa_walk.specs.Flow.{Flow}
use Rattle.vfa_walk.specs.Passes.{Entries, merged, gathered, followed, handed, met, with_entry}
use Rattle.vfa_walk.proofs.PassEquations.{if_yes, if_no, gathered_same, handed_same}

pub differs : (p b : ℕ) (list : List ℕ) → is_in p list ≡ true → is_in b list ≡ false → nat_eq p b ≡ false
differs p b list here absent =
    no_truth (nat_eq p b) (λ same. false_is_no_truth {X = ⊥} (subst (λ q. is_in q list ≡ true) (eqb-true p b same) here) absent)

pub head_apart : (b : ℕ) (rest : List ℕ) → IsDistinct nat_eq (b ∷ rest) → is_in b rest ≡ false
unfolding IsDistinct
head_apart b rest d = apart_in b rest d.0

module _ {S : Type 0} where
  pub merged_none : (join : S → S → S) (sum : Option S) → merged join sum None ≡ sum
  merged_none join None = refl
  merged_none join (Some s) = refl

  pub gathered_append : (join : S → S → S) (g : ℕ → Option S) (xs ys : List ℕ) (sum : Option S) →
      gathered join g (xs ++ ys) sum ≡ gathered join g ys (gathered join g xs sum)
  gathered_append join g [] ys sum = refl
  gathered_append join g (x ∷ xs) ys sum = gathered_append join g xs ys (merged join sum (g x))

  pub gathered_none : (join : S → S → S) (g : ℕ → Option S) (list : List ℕ) (sum : Option S) → ((p : ℕ) → is_in p list ≡ true → g p ≡ None) →
      gathered join g list sum ≡ sum
  gathered_none join g [] sum none = refl
  gathered_none join g (p ∷ rest) sum none =
      gathered_none join g rest (merged join sum (g p)) (λ q h. none q (in_rest q p rest h))
      ∙ (ap (merged join sum) (none p (in_first p rest)) ∙ merged_none join sum)

  module _ (m : Flow S) (done : List ℕ) (b : ℕ) (rest : List ℕ) (whole : m.order ≡ done ++ (b ∷ rest)) (distinct : IsDistinct nat_eq (b ∷ rest)) (apart : is_in b done ≡ false) where
    -- what a block has in its turn
    pub met_now : (t : Entries S) (got : Option S) → ((p : ℕ) → is_in p (b ∷ rest) ≡ true → t p ≡ None) →
        got ≡ gathered m.join (handed m t b) done None → met m t b ≡ option_map (m.cut b) got
    met_now t got none is =
        ap (option_map (m.cut b)) (ap (λ list. gathered m.join (handed m t b) list None) whole
        ∙ (gathered_append m.join (handed m t b) done (b ∷ rest) None
        ∙ (gathered_none m.join (handed m t b) (b ∷ rest) (gathered m.join (handed m t b) done None) (λ p h. ap (followed (m.along p b)) (none p h))
        ∙ sym is)))

    -- what blocks have got after its turn
    pub got_more : (t : Entries S) (entry : Option S) (c : ℕ) (got next : Option S) → got ≡ gathered m.join (handed m t c) done None →
        next ≡ merged m.join got (followed (m.along b c) entry) →
        next ≡ gathered m.join (handed m (with_entry t b entry) c) (done ++ (b ∷ [])) None
    got_more t entry c got next is step =
        let same : gathered m.join (handed m t c) done None ≡ gathered m.join (handed m (with_entry t b entry) c) done None =
        gathered_same m.join (handed m t c) (handed m (with_entry t b entry) c) done None (λ p h. handed_same m t (with_entry t b entry) c p (sym (other p h))) in
        let here : handed m (with_entry t b entry) c b ≡ followed (m.along b c) entry = ap (followed (m.along b c)) (if_yes (nat_eq b b) entry (t b) (eq-eqb b b refl)) in
        step ∙ (ap (λ o. merged m.join o (followed (m.along b c) entry)) (is ∙ same)
        ∙ (ap (merged m.join (gathered m.join (handed m (with_entry t b entry) c) done None)) (sym here)
        ∙ sym (gathered_append m.join (handed m (with_entry t b entry) c) done (b ∷ []) None)))
      where
        other : (p : ℕ) → is_in p done ≡ true → with_entry t b entry p ≡ t p
        other p h = if_no (nat_eq p b) entry (t p) (differs p b done h apart)

    -- the blocks whose turn is to come have no entry
    pub none_left : (t : Entries S) (entry : Option S) → ((p : ℕ) → is_in p (b ∷ rest) ≡ true → t p ≡ None) →
        (p : ℕ) → is_in p rest ≡ true → with_entry t b entry p ≡ None
    none_left t entry none p h =
        if_no (nat_eq p b) entry (t p) (differs p b rest h (head_apart b rest distinct)) ∙ none p (in_rest p b rest h)
