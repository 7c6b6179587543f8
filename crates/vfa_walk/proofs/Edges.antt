-- The edges of a block by their numbers, and what is joined along them.
use Rattle.std.proofs.Common.{◌≡◌, ◌<◌, ◌+◌, ◌-◌, ℕ, zero, suc, Bool, true, false, nat_eq, if◌then◌else◌, Option, Some, None, List, [], ◌∷◌, drop, map, length, get_or, refl, sym, ◌∙◌, ap, arith}
use Rattle.std.specs.Prelude.{slice_get}
use Rattle.std.specs.Option.{option_map}
use Rattle.std.proofs.lemmas.Option.{slice_get_within, get_or_from_slice_get}
use Rattle.vfa_ir.specs.declared.operations.BlockId.{BlockId}
use Rattle.vfa_ir.specs.declared.functions.Block.{Block}
use Rattle.vfa_ir.specs.declared.functions.Function.{Function}
use Rattle.vfa_ir.specs.declared.functions.Term.{Term}
use Rattle.std.proofs.lemmas.Bool.Decides.{nat_tests}
use Rattle.vfa_ir.specs.PhisFit.{targets}
use Rattle.vfa_ir.specs.Walks.{is_in, successors}
use Rattle.vfa_cfg.specs.declared.listing.Edge.{Edge}
use Rattle.vfa_cfg.specs.declared.listing.Way.{Way}
use Rattle.vfa_cfg.specs.Edges.{edge, case_edges, block_edges}
use Rattle.vfa_values.specs.Answers.{Answers}
use Rattle.vfa_cond.specs.States.{AbstractState}
use Rattle.vfa_walk.specs.Joining.{joined}
use Rattle.vfa_walk.specs.Leaving.{along_way, along_edge, joined_edges, edges_out, paired}
use Rattle.vfa_walk.specs.Passes.{merged}
use Rattle.vfa_walk.proofs.PassEquations.{if_no, or_none}
use Rattle.vfa_walk.proofs.Steps.{from_place}
use Rattle.vfa_ir.specs.declared.operations.Operand.{Operand}
use Rattle.vfa_cond.specs.Narrowing.{Becomes, and_then}
use Rattle.vfa_walk.specs.Leaving.{told_no_case, assigned, phi_fact}
use Rattle.vfa_ir.specs.declared.functions.Phi.{Phi}
use Rattle.vfa_mean.specs.Outcomes.{entry_from}
use Rattle.vfa_word.specs.Numbers.{IsWidth}
use Rattle.vfa_cond.specs.Conditions.{IsNumberOperand}
use Rattle.std.specs.Prelude.{All}
use Rattle.std.proofs.lemmas.List.Elements.{All-head, All-tail}
use Rattle.vfa_walk.proofs.States.{left_at}
use Rattle.vfa_walk.specs.Stepping.{told_apart, redefined}
use Rattle.vfa_walk.proofs.Steps.{becomes_is}

-- ---- lists

pub from_get : {A : Type 0} (xs : List A) (k : ℕ) (x : A) → slice_get xs k ≡ Some x → drop k xs ≡ x ∷ drop (k + 1) xs
from_get xs k x e = from_place xs k x (slice_get_within xs k x e) ∙ ap (λ y. y ∷ drop (k + 1) xs) (get_or_from_slice_get xs k x x e)

pub none_from : {A : Type 0} (xs : List A) (k : ℕ) → slice_get xs k ≡ None → drop k xs ≡ []
none_from [] zero e = refl
none_from [] (suc k) e = refl
none_from (x ∷ xs) zero e = absurd (cc)
none_from (x ∷ xs) (suc k) e = none_from xs k e

pub behind_first : {A : Type 0} (x : A) (xs : List A) (k : ℕ) → (k ≡ 0 → ⊥) → slice_get (x ∷ xs) k ≡ slice_get xs (k - 1)
behind_first x xs zero other = absurd (other refl)
behind_first x xs (suc k) other = ap (slice_get xs) (let e : k ≡ suc k - 1 = omega arith in e)

-- ---- the edges of a switch

cases_from : (from j : ℕ) (cases : List (ℕ × BlockId)) (i : ℕ) →
    slice_get (case_edges from j cases) i ≡ option_map (λ c. edge from c.1 (Way.Case (j + i))) (slice_get cases i)
cases_from from j [] i = refl
cases_from from j (c ∷ rest) zero = let e : j ≡ j + 0 = omega arith in ap (λ k. Some (edge from c.1 (Way.Case k))) e
cases_from from j (c ∷ rest) (suc i) =
    cases_from from (j + 1) rest i ∙ (let e : (j + 1) + i ≡ j + suc i = omega arith in ap (λ k. option_map (λ c. edge from c.1 (Way.Case k)) (slice_get rest i)) e)

pub case_edge : (from : ℕ) (other : Edge) (cases : List (ℕ × BlockId)) (k : ℕ) → (k ≡ 0 → ⊥) →
    slice_get (other ∷ case_edges from 0 cases) k ≡ option_map (λ c. edge from c.1 (Way.Case (k - 1))) (slice_get cases (k - 1))
case_edge from other cases k some =
    behind_first other (case_edges from 0 cases) k some
    ∙ (cases_from from 0 cases (k - 1) ∙ (let e : 0 + (k - 1) ≡ k - 1 = omega arith in ap (λ n. option_map (λ c. edge from c.1 (Way.Case n)) (slice_get cases (k - 1))) e))

cases_count : (from j : ℕ) (cases : List (ℕ × BlockId)) → length (case_edges from j cases) ≡ length (map (λ c. c.1) cases)
cases_count from j [] = refl
cases_count from j (c ∷ rest) = ap suc (cases_count from (j + 1) rest)

pub edges_count : (from : ℕ) (term : Term) → length (block_edges from term) ≡ length (targets term)
edges_count from (Term.Ret _ _) = refl
edges_count from (Term.Br to) = refl
edges_count from (Term.CondBr _ yes_to no_to) = refl
edges_count from (Term.Switch _ _ other cases) = ap suc (cases_count from 0 cases)
edges_count from Term.Unreachable = refl

-- ---- what is joined

pub out_is : (f : Function) (from : ℕ) (block : Block) → slice_get f.blocks from ≡ Some block → edges_out f from ≡ block_edges from block.term
out_is f from block is = rw (is, edges_out) refl

pub leads_out : (f : Function) (from : ℕ) (block : Block) → slice_get f.blocks from ≡ Some block → successors f from ≡ map (λ t. t.0) (targets block.term)
leads_out f from block is = rw (is, successors) refl

module _ {V : Type 0} (answers : Answers V) (f : Function) (from to : ℕ) (block : Block) (is : slice_get f.blocks from ≡ Some block) (s : AbstractState V) where
  pub pair_begins : paired answers f from to s ≡ joined_edges answers f to s (drop 0 (block_edges from block.term)) None
  pair_begins = ap (λ list. joined_edges answers f to s list None) (out_is f from block is)

  pub pair_more : (k : ℕ) (e : Edge) (sum next : Option (AbstractState V)) → slice_get (block_edges from block.term) k ≡ Some e → e.from.0 ≡ from →
      paired answers f from to s ≡ joined_edges answers f to s (drop k (block_edges from block.term)) sum →
      next ≡ (if nat_eq e.to.0 to then merged (joined answers) sum (along_way answers f block.term e.way s) else sum) →
      paired answers f from to s ≡ joined_edges answers f to s (drop (k + 1) (block_edges from block.term)) next
  pair_more k e sum next at begins sofar step =
      sofar ∙ (ap (λ list. joined_edges answers f to s list sum) (from_get (block_edges from block.term) k e at)
      ∙ ap (joined_edges answers f to s (drop (k + 1) (block_edges from block.term))) (chosen ∙ sym step))
    where
      same_edge : along_edge answers f e s ≡ along_way answers f block.term e.way s
      same_edge = let here : slice_get f.blocks e.from.0 ≡ Some block = ap (slice_get f.blocks) begins ∙ is in rw (here, along_edge) refl

      chosen : (if nat_eq e.to.0 to then merged (joined answers) sum (along_edge answers f e s) else sum)
          ≡ (if nat_eq e.to.0 to then merged (joined answers) sum (along_way answers f block.term e.way s) else sum)
      chosen = ap (λ r. if nat_eq e.to.0 to then merged (joined answers) sum r else sum) same_edge

  pub pair_ends : (k : ℕ) (sum : Option (AbstractState V)) → drop k (block_edges from block.term) ≡ [] →
      paired answers f from to s ≡ joined_edges answers f to s (drop k (block_edges from block.term)) sum → paired answers f from to s ≡ sum
  pair_ends k sum nothing sofar = sofar ∙ ap (λ list. joined_edges answers f to s list sum) nothing

-- ---- no edge leads to the block

pub none_leads : (list : List ℕ) (to : ℕ) → slice_get list 0 ≡ None → is_in to list ≡ true → ⊥
none_leads [] to e there = cc
none_leads (x ∷ list) to e there = cc

turned : (a b : ℕ) → nat_eq a b ≡ nat_eq b a
turned a b = grind (arith, nat_tests)

cases_lead : (from j : ℕ) (cases : List (ℕ × BlockId)) → map (λ e. e.to.0) (case_edges from j cases) ≡ map (λ t. t.0) (map (λ c. c.1) cases)
cases_lead from j [] = refl
cases_lead from j (c ∷ rest) = ap (λ list. c.1.0 ∷ list) (cases_lead from (j + 1) rest)

pub edges_lead : (from : ℕ) (term : Term) → map (λ e. e.to.0) (block_edges from term) ≡ map (λ t. t.0) (targets term)
edges_lead from (Term.Ret _ _) = refl
edges_lead from (Term.Br to) = refl
edges_lead from (Term.CondBr _ yes_to no_to) = refl
edges_lead from (Term.Switch _ _ other cases) = ap (λ list. other.0 ∷ list) (cases_lead from 0 cases)
edges_lead from Term.Unreachable = refl

module _ {V : Type 0} (answers : Answers V) (f : Function) (from to : ℕ) (s : AbstractState V) where
  joined_skips : (edges : List Edge) (sum : Option (AbstractState V)) → is_in to (map (λ e. e.to.0) edges) ≡ false → joined_edges answers f to s edges sum ≡ sum
  joined_skips [] sum absent = refl
  joined_skips (e ∷ rest) sum absent =
      let parts : (nat_eq to e.to.0 ≡ false) × (is_in to (map (λ e. e.to.0) rest) ≡ false) = or_none (nat_eq to e.to.0) (is_in to (map (λ e. e.to.0) rest)) absent in
      ap (joined_edges answers f to s rest) (if_no (nat_eq e.to.0 to) (merged (joined answers) sum (along_edge answers f e s)) sum (turned e.to.0 to ∙ parts.0))
      ∙ joined_skips rest sum parts.1

  pub no_pair : is_in to (successors f from) ≡ false → paired answers f from to s ≡ None
  no_pair absent = at (slice_get f.blocks from) refl
    where
      at : (found : Option Block) → slice_get f.blocks from ≡ found → paired answers f from to s ≡ None
      at None is = rw (is, edges_out) refl
      at (Some block) is =
          ap (λ list. joined_edges answers f to s list None) (out_is f from block is)
          ∙ joined_skips (block_edges from block.term) None
          (ap (is_in to) (edges_lead from block.term ∙ sym (leads_out f from block is)) ∙ absent)

-- ---- the cases of a switch that are left

pub cases_more : {V : Type 0} (answers : Answers V) (f : Function) (on : Operand) (w : ℕ) (cases : List (ℕ × BlockId)) (i : ℕ) (d : ℕ × BlockId) (first now next : AbstractState V) →
    i < length cases → told_no_case answers f on w cases first ≡ told_no_case answers f on w (drop i cases) now →
    Becomes (told_apart answers f on w (get_or cases i d).0 now) true next →
    told_no_case answers f on w cases first ≡ told_no_case answers f on w (drop (i + 1) cases) next
cases_more answers f on w cases i d first now next inside sofar step =
    sofar ∙ (ap (λ list. told_no_case answers f on w list now) (from_place cases i d inside)
    ∙ ap (λ r. and_then r (told_no_case answers f on w (drop (i + 1) cases))) (becomes_is (told_apart answers f on w (get_or cases i d).0 now) next step))

-- ---- phis

pub entry_fits : (f : Function) (w from : ℕ) (entries : List (Operand × BlockId)) → IsWidth w → All (λ e. IsNumberOperand f w e.0) entries → IsNumberOperand f w (entry_from from entries)
entry_fits f w from [] width all = record { width = width; range = tt; typed = tt }
entry_fits f w from (e ∷ rest) width all =
    at (nat_eq e.1.0 from) (All-head (λ d. IsNumberOperand f w d.0) e rest all) (entry_fits f w from rest width (All-tail (λ d. IsNumberOperand f w d.0) e rest all))
  where
    at : (b : Bool) → IsNumberOperand f w e.0 → IsNumberOperand f w (entry_from from rest) → IsNumberOperand f w (if b then e.0 else entry_from from rest)
    at true here later = here
    at false here later = later

pub phis_more : {V : Type 0} (answers : Answers V) (f : Function) (from : ℕ) (before : AbstractState V) (phis : List Phi) (i : ℕ) (p : Phi) (first now next : AbstractState V) (fact : V) →
    i < length phis → p ≡ get_or phis i p → assigned answers f from before phis first ≡ assigned answers f from before (drop i phis) now →
    fact ≡ phi_fact answers from before p → next ≡ redefined f p.result.0 fact now →
    assigned answers f from before phis first ≡ assigned answers f from before (drop (i + 1) phis) next
phis_more answers f from before phis i p first now next fact inside is sofar known_fact step =
    sofar ∙ (ap (λ list. assigned answers f from before list now) (left_at phis i p inside is)
    ∙ ap (assigned answers f from before (drop (i + 1) phis)) (ap (λ d. redefined f p.result.0 d now) (sym known_fact) ∙ sym step))
