-- The phis of a block fit the edges exactly where they fit its predecessors.
use Rattle.std.proofs.Common.{◌≡◌, ◌∙◌, ℕ, ◌+◌, ◌<◌, true, eqb, cond, List, [], ◌∷◌, length, get_or, All, Some, IfSome, refl, sym, ap, subst, arith}
use Rattle.std.proofs.lemmas.Bool.{eq-eqb, eqb-true}
use Rattle.std.proofs.lemmas.List.{get_or_default}
use Rattle.std.proofs.lemmas.List.Sums.{sum_by-cons}
use Rattle.std.proofs.lemmas.Option.{MatchOption-at_some, slice_get_within}
use Rattle.std.specs.Bool.{⊤}
use Rattle.std.specs.List.{slice_get}
use Rattle.vfa_ir.specs.declared.operations.BlockId.{BlockId}
use Rattle.vfa_ir.specs.declared.functions.Block.{Block}
use Rattle.vfa_ir.specs.declared.functions.Function.{Function}
use Rattle.vfa_ir.specs.PhisFit.{PhiFits, PhisFitIn, edge_count}
use Rattle.vfa_check.specs.Predecessors.{ArePredecessors, FitsBlock, times}

none_among : (predecessors : List BlockId) → ((from : ℕ) → times from predecessors ≡ 0) → predecessors ≡ []
none_among [] h = refl
none_among (p ∷ rest) h =
    let here : times p.0 (p ∷ rest) ≡ cond (eqb p.0 p.0) 1 0 + times p.0 rest = sum_by-cons (λ (q : BlockId). cond (eqb q.0 p.0) 1 0) p rest in
    let one : times p.0 (p ∷ rest) ≡ 1 + times p.0 rest = here ∙ ap (λ t. cond t 1 0 + times p.0 rest) (eq-eqb p.0 p.0 refl) in
    let none : times p.0 (p ∷ rest) ≡ 0 = h p.0 in
    absurd (omega arith)

pub fits_from_block : (f : Function) (all : List (List BlockId)) (place : ℕ) (predecessors : List BlockId) (b : Block) → ArePredecessors f all →
    slice_get f.blocks place ≡ Some b → get_or all place [] ≡ predecessors → FitsBlock place predecessors b.phis → PhisFitIn f place
fits_from_block f all place predecessors b are here same fits =
    let within : place < length f.blocks = slice_get_within f.blocks place b here in
    let edges : (from : ℕ) → times from predecessors ≡ edge_count f from place =
    λ from. ap (times from) (sym same) ∙ are.edges place from within in
    record {
      phis = subst (λ o. IfSome o (λ x. All (PhiFits f place) x.phis)) (sym here)
          (λ k d inside. record {
            each_edge = λ from. (fits.phis_fit k d inside).each_edge from ∙ edges from;
            one_operand = (fits.phis_fit k d inside).one_operand;
          });
      entry = λ z from. sym (edges from) ∙ ap (times from) (fits.entry z);
    }

pub block_from_fits : (f : Function) (all : List (List BlockId)) (place : ℕ) (predecessors : List BlockId) (b : Block) → ArePredecessors f all →
    slice_get f.blocks place ≡ Some b → get_or all place [] ≡ predecessors → PhisFitIn f place → FitsBlock place predecessors b.phis
block_from_fits f all place predecessors b are here same fits =
    let within : place < length f.blocks = slice_get_within f.blocks place b here in
    let edges : (from : ℕ) → times from predecessors ≡ edge_count f from place =
    λ from. ap (times from) (sym same) ∙ are.edges place from within in
    let phis : All (PhiFits f place) b.phis = MatchOption-at_some ⊤ (λ (x : Block). All (PhiFits f place) x.phis) b here fits.phis in
    record {
      phis_fit = λ k d inside. record {
        each_edge = λ from. (phis k d inside).each_edge from ∙ sym (edges from);
        one_operand = (phis k d inside).one_operand;
      };
      entry = λ z. none_among predecessors (λ from. edges from ∙ fits.entry z from);
    }

-- the predecessors of the block at a place
pub row_is : (rows : List (List BlockId)) (items blocks : List Block) (i : ℕ) (row predecessors : List BlockId) → length rows ≡ length blocks →
    items ≡ blocks → i < length items → row ≡ get_or rows i row → predecessors ≡ row → get_or rows i [] ≡ predecessors
row_is rows items blocks i row predecessors each same within is shown =
    let many : length items ≡ length blocks = ap length same in
    get_or_default rows i [] row (omega arith) ∙ sym is ∙ sym shown

pub row_within : (f : Function) (rows : List (List BlockId)) (i n : ℕ) (predecessors : List BlockId) → ArePredecessors f rows →
    get_or rows i [] ≡ predecessors → n ≡ length f.blocks → All (λ p. p.0 < n) predecessors
row_within f rows i n predecessors are same each =
    subst (λ m. All (λ (p : BlockId). p.0 < m) predecessors) (sym each)
    (subst (All (λ (p : BlockId). p.0 < length f.blocks)) same (are.within i))

pub nothing_in : (predecessors : List BlockId) → eqb (length predecessors) 0 ≡ true → predecessors ≡ []
nothing_in [] h = refl
nothing_in (p ∷ rest) h = let none : length (p ∷ rest) ≡ 0 = eqb-true (length (p ∷ rest)) 0 h in absurd (omega arith)
