use Rattle.std.proofs.Common.{◌≡◌, List, ℕ, length, get_or, bit_and, refl, ap, ap₂, ◌∙◌, arith}
use Rattle.std.proofs.lemmas.List.{with_items_is}
use Rattle.std.specs.Vec.{with_items}
use Rattle.vfa_check.proofs.RowBits.{cut_rows}
use Rattle.vfa_check.proofs.name_rows.NameRow.intersect.Goals as goal

pub returns-clause-both : goal.returns-clause-both
returns-clause-both c =
    let own = c.args.self.now.words in
    let new = c.cut.new.words in
    let whole : length new ≡ own.len = omega (arith, c.cut.auto.words, c.as_mut_slice.ensures.len, own.ok.0) in
    cut_rows c.args.self.now c.args.other.now (record { names = c.args.self.now.names; words = with_items own new }) c.requires.names refl (λ i.
    ap (λ (ws : List ℕ). get_or ws i 0) (with_items_is own new whole)
    ∙ c.cut.ensures.both i
    ∙ ap₂ bit_and (ap (λ (ws : List ℕ). get_or ws i 0) c.as_mut_slice.ensures.value) (ap (λ (ws : List ℕ). get_or ws i 0) c.as_slice.ensures.value))
