use Rattle.std.proofs.Common.{◌≡◌, ◌++◌, List, ℕ, Contains, sym, ◌∙◌, ap, subst}
use Rattle.vfa_walk.specs.Landmarks.{ends_of, literals}
use Rattle.vfa_walk.proofs.LiteralsFit.{landmarks_are}
use Rattle.vfa_walk.proofs.marks.landmarks.Goals as goal

pub returns : goal.returns
returns c =
    let f = c.args.f.now in
    let w = c.args.width in
    let xs = c.put_in_order.new.marks.items in
    let all : c.add_ends.new.marks.items ≡ literals f w ++ ends_of w = c.in_ok-add_ends.ensures ∙ (ap (λ (l : List ℕ). l ++ ends_of w) c.in_ok-add_literals.ensures ∙ ap (λ (l : List ℕ). (l ++ literals f w) ++ ends_of w) c.new-marks.ensures.items) in
    landmarks_are f w c.requires.printable c.requires.width xs c.in_ok-put_in_order.ensures.rises
    (λ x h. c.in_ok-put_in_order.ensures.keeps x (subst (λ (l : List ℕ). Contains l x) (sym all) h))
    (λ x h. subst (λ (l : List ℕ). Contains l x) all (c.in_ok-put_in_order.ensures.adds_none x h))
