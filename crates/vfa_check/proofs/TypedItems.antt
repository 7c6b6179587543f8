-- The first ill-typed item of a block, by its phis, its instructions and its terminator.
use Rattle.std.proofs.Common.{◌≡◌, ℕ, ◌+◌, List, [], ◌∷◌, ◌++◌, map, length, All, Some, subst, add-zero, ◌∙◌}
use Rattle.std.proofs.lemmas.List.{length-map}
use Rattle.std.proofs.lemmas.List.Elements.{All-map, All-nil}
use Rattle.std.specs.List.{slice_get}
use Rattle.vfa_ir.specs.declared.functions.Block.{Block}
use Rattle.vfa_ir.specs.declared.functions.Function.{Function}
use Rattle.vfa_ir.specs.Typed.{TypedInst, TypedPhi, TypedTerm}
use Rattle.vfa_check.specs.First.{FailsFirst}
use Rattle.vfa_check.specs.Items.{phi, instruction, terminator, items_of, TypedItem, IsIllTypedOn}
use Rattle.vfa_check.proofs.Firsts.{fails_left, fails_map, fails_right}

pub at_phi : (f : Function) (b : Block) (lines : List ℕ) (place line : ℕ) → slice_get lines place ≡ Some line →
    FailsFirst (TypedPhi f) b.phis place → IsIllTypedOn f lines line b
at_phi f b lines place line stands first = record {
  place = place;
  first = fails_left (TypedItem f) (map phi b.phis) _ place (fails_map (TypedItem f) phi b.phis place first);
  stands = stands;
}

-- behind the phis, which are well typed
behind : (f : Function) (b : Block) (lines : List ℕ) (place line : ℕ) → slice_get lines (length b.phis + place) ≡ Some line →
    All (TypedPhi f) b.phis → FailsFirst (TypedItem f) (map instruction b.insts ++ terminator b.term ∷ []) place → IsIllTypedOn f lines line b
behind f b lines place line stands phis first = record {
  place = length b.phis + place;
  first = subst (λ n. FailsFirst (TypedItem f) (items_of b) (n + place)) (length-map b.phis phi)
      (fails_right (TypedItem f) (map phi b.phis) _ place (All-map (TypedItem f) phi b.phis phis) first);
  stands = stands;
}

pub at_instruction : (f : Function) (b : Block) (lines : List ℕ) (place line : ℕ) → slice_get lines (length b.phis + place) ≡ Some line →
    All (TypedPhi f) b.phis → FailsFirst (TypedInst f) b.insts place → IsIllTypedOn f lines line b
at_instruction f b lines place line stands phis first =
    behind f b lines place line stands phis
    (fails_left (TypedItem f) (map instruction b.insts) _ place (fails_map (TypedItem f) instruction b.insts place first))

alone : (f : Function) (b : Block) → (TypedTerm f b.term → ⊥) → FailsFirst (TypedItem f) (terminator b.term ∷ []) 0
alone f b h = record { before = All-nil (TypedItem f); here = h }

pub at_terminator : (f : Function) (b : Block) (lines : List ℕ) (line : ℕ) → slice_get lines (length b.phis + length b.insts) ≡ Some line →
    All (TypedPhi f) b.phis → All (TypedInst f) b.insts → (TypedTerm f b.term → ⊥) → IsIllTypedOn f lines line b
at_terminator f b lines line stands phis insts ill =
    let place : length (map instruction b.insts) + 0 ≡ length b.insts = add-zero _ ∙ length-map b.insts instruction in
    behind f b lines (length b.insts) line stands phis
    (subst (FailsFirst (TypedItem f) (map instruction b.insts ++ terminator b.term ∷ [])) place
    (fails_right (TypedItem f) (map instruction b.insts) (terminator b.term ∷ []) 0 (All-map (TypedItem f) instruction b.insts insts) (alone f b ill)))
