-- A function that some text reads as has an entry, its edges lead to its blocks, and its names are among its values.
use Rattle.std.proofs.Common.{◌≡◌, ◌∙◌, ℕ, zero, suc, ◌+◌, ◌<◌, ◌≤◌, ◌||◌, Bool, true, false, cond, ltb, eqb, List, [], ◌∷◌, map, flat_map, filter_map, length, Option, Some, None, IsTrue, bytes_eq, unwrap_or, option_map, refl, sym, ap, subst, arith}
use Rattle.std.proofs.lemmas.Bool.{eqb-true, ltb-true}
use Rattle.std.proofs.lemmas.List.{length-append, length-map}
use Rattle.std.proofs.lemmas.List.Elements.{All-from_recursion}
use Rattle.std.specs.List.{AllByRecursion, cons_option, position_or_len, slice_get}
use Rattle.vfa_ir.specs.declared.functions.Block.{Block}
use Rattle.vfa_ir.specs.declared.functions.Function.{Function}
use Rattle.vfa_ir.specs.declared.functions.Value.{Value}
use Rattle.vfa_ir.specs.declared.operations.BlockId.{BlockId}
use Rattle.vfa_ir.specs.declared.syntax.BasicBlock.{BasicBlock}
use Rattle.vfa_ir.specs.declared.syntax.Instruction.{Instruction}
use Rattle.vfa_ir.specs.declared.syntax.Parameter.{Parameter}
use Rattle.vfa_ir.specs.declared.syntax.PhiNode.{PhiNode}
use Rattle.vfa_ir.specs.declared.syntax.SwitchCase.{SwitchCase}
use Rattle.vfa_ir.specs.declared.syntax.TerminatorKind.{TerminatorKind}
use Rattle.vfa_ir.specs.DefinedNames.{block_name, block_results, is_numbered, parameter_names, value_names}
use Rattle.vfa_ir.specs.Grammar.{FitsBlocks}
use Rattle.vfa_ir.specs.PhisFit.{targets}
use Rattle.vfa_ir.specs.Printable.{block_ids, ids_of, inst_ids}
use Rattle.vfa_ir.specs.Reads.{Fit, tail_bytes}
use Rattle.vfa_ir.specs.Resolution.{Scope, block_id, block_of, block_values, blocks_of, call_count, function_of, insts_of, instruction_value, is_call, literal_bits, params_from, parameter_value, phi_of, phi_value, operation_type, place_of, scope_of, term_of, value_id, value_of}
use Rattle.vfa_ir.specs.Sentence.{Sentence}
use Rattle.vfa_ir.specs.Tokens.{tokens_of}
use Rattle.vfa_ir.specs.Walks.{IsEdge, is_in}
use Rattle.vfa_check.specs.Within.{IsWithin}
use Rattle.vfa_check.proofs.EdgeCounts.{both}

-- the place of a name is one of the list, or the first
place_within : (names : List (List ℕ)) (name : List ℕ) → 0 < length names → place_of names name < length names
place_within names name some = at (ltb (position_or_len (bytes_eq name) names) (length names)) refl
  where
    at : (t : Bool) → ltb (position_or_len (bytes_eq name) names) (length names) ≡ t →
        unwrap_or (cond t (Some (position_or_len (bytes_eq name) names)) None) 0 < length names
    at true h = ltb-true (position_or_len (bytes_eq name) names) (length names) h
    at false h = some

-- as many names as values
pub parameters_named : (k : ℕ) (ps : List Parameter) → length (parameter_names k ps) ≡ length ps
parameters_named k [] = refl
parameters_named k (p ∷ ps) = ap suc (parameters_named (cond (is_numbered p) (k + 1) k) ps)

result_valued : (f : List ℕ → Value) (o : Option (List ℕ)) (xs : List Value) (ys : List (List ℕ)) → length xs ≡ length ys →
    length (cons_option (option_map f o) xs) ≡ length (cons_option o ys)
result_valued f None xs ys h = h
result_valued f (Some name) xs ys h = ap suc h

results_valued : (is : List Instruction) → length (filter_map instruction_value is) ≡ length (filter_map (λ (i : Instruction). i.result) is)
results_valued [] = refl
results_valued (i ∷ is) = result_valued (λ name. value_of name (operation_type i.operation)) i.result _ _ (results_valued is)

block_valued : (b : BasicBlock) → length (block_values b) ≡ length (block_results b)
block_valued b =
    length-append (map phi_value b.phis) (filter_map instruction_value b.instructions)
    ∙ ap (λ n. n + length (filter_map instruction_value b.instructions)) (length-map b.phis phi_value ∙ sym (length-map b.phis (λ (p : PhiNode). p.result)))
    ∙ ap (λ n. length (map (λ (p : PhiNode). p.result) b.phis) + n) (results_valued b.instructions)
    ∙ sym (length-append (map (λ (p : PhiNode). p.result) b.phis) (filter_map (λ (i : Instruction). i.result) b.instructions))

blocks_valued : (bs : List BasicBlock) → length (flat_map block_values bs) ≡ length (flat_map block_results bs)
blocks_valued [] = refl
blocks_valued (b ∷ bs) =
    length-append (block_values b) (flat_map block_values bs)
    ∙ ap (λ n. n + length (flat_map block_values bs)) (block_valued b)
    ∙ ap (λ n. length (block_results b) + n) (blocks_valued bs)
    ∙ sym (length-append (block_results b) (flat_map block_results bs))

pub values_named : (s : Sentence) (tail : List ℕ) → length (function_of s tail).values ≡ length (value_names s)
values_named s tail =
    length-append (map parameter_value s.parameters) (flat_map block_values s.blocks)
    ∙ ap (λ n. n + length (flat_map block_values s.blocks)) (length-map s.parameters parameter_value ∙ sym (parameters_named 0 s.parameters))
    ∙ ap (λ n. length (parameter_names 0 s.parameters) + n) (blocks_valued s.blocks)
    ∙ sym (length-append (parameter_names 0 s.parameters) (flat_map block_results s.blocks))

pub blocks_counted : (scope : Scope) (n : ℕ) (bs : List BasicBlock) → length (blocks_of scope n bs) ≡ length bs
blocks_counted scope n [] = refl
blocks_counted scope n (b ∷ bs) = ap suc (blocks_counted scope (n + call_count b) bs)

-- the ids of parameters and results
abbrev Among : Scope → ℕ → Type 0
Among scope v = v < length scope.values

some_more : (o : Option (List ℕ)) (xs : List (List ℕ)) → length xs ≤ length (cons_option o xs)
some_more None xs = omega arith
some_more (Some x) xs = omega arith

result_among : (scope : Scope) (o : Option (List ℕ)) (ids : List ℕ) (names : List (List ℕ)) → length (cons_option o names) ≤ length scope.values →
    AllByRecursion (Among scope) ids →
    AllByRecursion (Among scope) (cons_option (elim (option_map (value_id scope) o) [ None ↦ None | Some v ↦ Some v.0 ]) ids)
result_among scope None ids names h a = a
result_among scope (Some name) ids names h a = let some : 0 < length scope.values = omega arith in (place_within scope.values name some, a)

results_among : (scope : Scope) (calls : ℕ) (is : List Instruction) → length (filter_map (λ (i : Instruction). i.result) is) ≤ length scope.values →
    AllByRecursion (Among scope) (inst_ids (insts_of scope calls is))
results_among scope calls [] h = tt
results_among scope calls (i ∷ is) h =
    let names : List (List ℕ) = filter_map (λ (j : Instruction). j.result) is in
    let more : length names ≤ length (cons_option i.result names) = some_more i.result names in
    result_among scope i.result (inst_ids (insts_of scope (cond (is_call i) (suc calls) calls) is)) names h
    (results_among scope (cond (is_call i) (suc calls) calls) is (omega arith))

phis_among : (scope : Scope) (ps : List PhiNode) → length (map (λ (p : PhiNode). p.result) ps) ≤ length scope.values →
    AllByRecursion (Among scope) (map (λ p. p.result.0) (map (phi_of scope) ps))
phis_among scope [] h = tt
phis_among scope (p ∷ ps) h =
    let some : 0 < length scope.values = omega arith in
    (place_within scope.values p.result some, phis_among scope ps (omega arith))

block_among : (scope : Scope) (calls : ℕ) (b : BasicBlock) → length (block_results b) ≤ length scope.values →
    AllByRecursion (Among scope) (block_ids (block_of scope calls b))
block_among scope calls b h =
    let long : length (block_results b) ≡ length (map (λ (p : PhiNode). p.result) b.phis) + length (filter_map (λ (i : Instruction). i.result) b.instructions) =
    length-append (map (λ (p : PhiNode). p.result) b.phis) (filter_map (λ (i : Instruction). i.result) b.instructions) in
    both (Among scope) (map (λ p. p.result.0) (map (phi_of scope) b.phis)) (inst_ids (insts_of scope calls b.instructions))
    (phis_among scope b.phis (omega arith)) (results_among scope calls b.instructions (omega arith))

blocks_among : (scope : Scope) (calls : ℕ) (bs : List BasicBlock) → length (flat_map block_results bs) ≤ length scope.values →
    AllByRecursion (Among scope) (flat_map block_ids (blocks_of scope calls bs))
blocks_among scope calls [] h = tt
blocks_among scope calls (b ∷ bs) h =
    let long : length (flat_map block_results (b ∷ bs)) ≡ length (block_results b) + length (flat_map block_results bs) =
    length-append (block_results b) (flat_map block_results bs) in
    both (Among scope) (block_ids (block_of scope calls b)) (flat_map block_ids (blocks_of scope (calls + call_count b) bs))
    (block_among scope calls b (omega arith)) (blocks_among scope (calls + call_count b) bs (omega arith))

params_among : (n place : ℕ) (ps : List Parameter) → place + length ps ≤ n → AllByRecursion (λ v. v < n) (map (λ p. p.value.0) (params_from place ps))
params_among n place [] h = tt
params_among n place (p ∷ ps) h = (omega arith, params_among n (suc place) ps (omega arith))

-- the targets of terminators
abbrev Leads : Scope → BlockId → Type 0
Leads scope t = t.0 < length scope.blocks

cases_lead : (scope : Scope) (width : ℕ) (cases : List SwitchCase) → 0 < length scope.blocks →
    AllByRecursion (Leads scope) (map (λ (c : ℕ × BlockId). c.1) (map (λ (c : SwitchCase). (literal_bits width c.number, block_id scope c.block)) cases))
cases_lead scope width [] some = tt
cases_lead scope width (c ∷ cases) some = (place_within scope.blocks c.block some, cases_lead scope width cases some)

terminator_leads : (scope : Scope) (t : TerminatorKind) → 0 < length scope.blocks → AllByRecursion (Leads scope) (targets (term_of scope t))
terminator_leads scope (TerminatorKind.Return width a) some = tt
terminator_leads scope (TerminatorKind.Always to) some = (place_within scope.blocks to some, tt)
terminator_leads scope (TerminatorKind.Condition c taken fallen) some =
    (place_within scope.blocks taken some, (place_within scope.blocks fallen some, tt))
terminator_leads scope (TerminatorKind.Switch width on default cases) some =
    (place_within scope.blocks default some, cases_lead scope width cases some)
terminator_leads scope TerminatorKind.Unreachable some = tt

blocks_lead : (scope : Scope) (calls : ℕ) (bs : List BasicBlock) → 0 < length scope.blocks →
    AllByRecursion (λ (b : Block). AllByRecursion (Leads scope) (targets b.term)) (blocks_of scope calls bs)
blocks_lead scope calls [] some = tt
blocks_lead scope calls (b ∷ bs) some = (terminator_leads scope b.terminator.kind some, blocks_lead scope (calls + call_count b) bs some)

at_place : {A : Type 0} (P : A → Type 0) (xs : List A) (k : ℕ) (x : A) → AllByRecursion P xs → slice_get xs k ≡ Some x → P x
at_place P [] k x h e = absurd (cc)
at_place P (y ∷ xs) zero x h e = let same : y ≡ x = (cc) in subst P same h.0
at_place P (y ∷ xs) (suc k) x h e = at_place P xs k x h.1 e

target_within : (n to : ℕ) (ts : List BlockId) → AllByRecursion (λ (t : BlockId). t.0 < n) ts → is_in to (map (λ t. t.0) ts) ≡ true → to < n
target_within n to [] h e = absurd (cc)
target_within n to (t ∷ ts) h e = at (eqb to t.0) refl (target_within n to ts h.1)
  where
    at : (b : Bool) → eqb to t.0 ≡ b → (is_in to (map (λ t. t.0) ts) ≡ true → to < n) → to < n
    at true same rest = let s : to ≡ t.0 = eqb-true to t.0 same in let w : t.0 < n = h.0 in omega arith
    at false same rest = rest (sym (ap (λ b. b || is_in to (map (λ (x : BlockId). x.0) ts)) same) ∙ e)

edge_within : (f : Function) (n : ℕ) → AllByRecursion (λ (b : Block). AllByRecursion (λ (t : BlockId). t.0 < n) (targets b.term)) f.blocks →
    (from to : ℕ) → IsEdge f from to → to < n
edge_within f n lead from to edge = at (slice_get f.blocks from) refl edge
  where
    at : (o : Option Block) → slice_get f.blocks from ≡ o →
        IsTrue (is_in to (elim o [ None ↦ [] | Some block ↦ map (λ t. t.0) (targets block.term) ])) → to < n
    at None h e = absurd (cc)
    at (Some b) h e = target_within n to (targets b.term) (at_place (λ (x : Block). AllByRecursion (λ (t : BlockId). t.0 < n) (targets x.term)) f.blocks from b lead h) e

some_block : (bs : List BasicBlock) → FitsBlocks bs → 0 < length bs
some_block [] fits = absurd fits
some_block (b ∷ bs) fits = omega arith

sentence_within : (s : Sentence) (tail : List ℕ) → FitsBlocks s.blocks → IsWithin (function_of s tail)
sentence_within s tail fits =
    let f : Function = function_of s tail in
    let scope : Scope = scope_of s in
    let blocks : length f.blocks ≡ length s.blocks = blocks_counted scope 0 s.blocks in
    let named : length scope.blocks ≡ length s.blocks = length-map s.blocks (block_name s) in
    let values : length f.values ≡ length scope.values = values_named s tail in
    let long : length scope.values ≡ length (parameter_names 0 s.parameters) + length (flat_map block_results s.blocks) =
    length-append (parameter_names 0 s.parameters) (flat_map block_results s.blocks) in
    let params : length (parameter_names 0 s.parameters) ≡ length s.parameters = parameters_named 0 s.parameters in
    let some : 0 < length s.blocks = some_block s.blocks fits in
    let same : length scope.blocks ≡ length f.blocks = named ∙ sym blocks in
    record {
      entry = omega arith;
      edges = λ from to edge. subst (λ n. to < n) same (edge_within f (length scope.blocks) (blocks_lead scope 0 s.blocks (omega arith)) from to edge);
      names = All-from_recursion (λ v. v < length f.values) (ids_of f)
          (subst (λ n. AllByRecursion (λ v. v < n) (ids_of f)) (sym values)
          (both (λ v. v < length scope.values) (map (λ p. p.value.0) f.params) (flat_map block_ids f.blocks)
          (params_among (length scope.values) 0 s.parameters (omega arith))
          (blocks_among scope 0 s.blocks (omega arith))));
    }

pub fit_is_within : (f : Function) → Fit f → IsWithin f
fit_is_within f fit =
    let r = fit.reads in
    subst IsWithin r.function (sentence_within r.sentence (tail_bytes fit.text (tokens_of fit.text) r.sentence) r.is.fits.blocks)
