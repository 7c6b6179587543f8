-- The results of a block: those of its phis, then those of its other instructions.
use Rattle.std.proofs.Common.{◌≡◌, ◌∙◌, ℕ, suc, if◌then◌else◌, List, [], ◌∷◌, ◌++◌, length, map, flat_map, filter_map, Option, Some, None, option_map, refl, sym, ap, ap₂, length-append, ◌+◌}
use Rattle.std.proofs.lemmas.List.Elements.{filter_map-append}
use Rattle.std.specs.List.{cons_option}
use Rattle.std.proofs.lemmas.List.{map-append}
use Rattle.vfa_ir.specs.declared.functions.Value.{Value}
use Rattle.vfa_ir.specs.declared.operations.Ty.{Ty}
use Rattle.vfa_ir.specs.declared.syntax.BasicBlock.{BasicBlock}
use Rattle.vfa_ir.specs.declared.syntax.Instruction.{Instruction}
use Rattle.vfa_ir.specs.declared.syntax.Operation.{Operation}
use Rattle.vfa_ir.specs.declared.syntax.PhiNode.{PhiNode}
use Rattle.vfa_ir.specs.DefinedNames.{kept_name, block_results}
use Rattle.vfa_ir.specs.Printable.{block_ids, block_types, inst_ids, inst_types, op_type}
use Rattle.vfa_ir.specs.Resolution.{Scope, block_of, block_values, blocks_of, call_count, instruction_value, insts_of, is_call, op_of, operation_type, phi_of, phi_value, place_of, value_id, value_of}

-- the number of calls before the instruction after this one
abbrev next_call : ℕ → Instruction → ℕ
next_call n i = if is_call i then suc n else n

-- their ids
phi_places : (scope : Scope) (ps : List PhiNode) → map (λ p. p.result.0) (map (phi_of scope) ps) ≡ map (place_of scope.values) (map (λ p. p.result) ps)
phi_places scope [] = refl
phi_places scope (p ∷ ps) = ap (λ r. place_of scope.values p.result ∷ r) (phi_places scope ps)

inst_places :
    (scope : Scope) (n : ℕ) (is : List Instruction) →
    inst_ids (insts_of scope n is) ≡ map (place_of scope.values) (filter_map (λ i. i.result) is)
inst_places scope n [] = refl
inst_places scope n (i ∷ is) = go i.result (inst_places scope (next_call n i) is)
  where
    go :
        (o : Option (List ℕ)) →
        inst_ids (insts_of scope (next_call n i) is) ≡ map (place_of scope.values) (filter_map (λ i. i.result) is) →
        cons_option (elim (option_map (value_id scope) o) [ None ↦ None | Some v ↦ Some v.0 ]) (inst_ids (insts_of scope (next_call n i) is))
        ≡ map (place_of scope.values) (cons_option o (filter_map (λ i. i.result) is))
    go None again = again
    go (Some n) again = ap (λ r. place_of scope.values n ∷ r) again

pub results_places : (scope : Scope) (n : ℕ) (b : BasicBlock) → block_ids (block_of scope n b) ≡ map (place_of scope.values) (block_results b)
results_places scope n b =
    ap (λ r. r ++ inst_ids (insts_of scope n b.instructions)) (phi_places scope b.phis)
    ∙ ap (λ r. map (place_of scope.values) (map (λ p. p.result) b.phis) ++ r) (inst_places scope n b.instructions)
    ∙ sym (map-append (place_of scope.values) _ _)

-- their types
pub same_type : (scope : Scope) (n : ℕ) (o : Operation) → operation_type o ≡ op_type (op_of scope n o)
same_type scope n (Operation.Binary bin flags width a b) = refl
same_type scope n (Operation.Compare samesign pred width a b) = refl
same_type scope n (Operation.Select c width a b) = refl
same_type scope n (Operation.Convert cast flags from a to) = refl
same_type scope n (Operation.Freeze width a) = refl
same_type scope n (Operation.Extract width pair index) = refl
same_type scope n (Operation.Two words fun width a b) = refl
same_type scope n (Operation.One words fun width a strict) = refl
same_type scope n (Operation.Over words over width a b) = refl
same_type scope n (Operation.Assume words c) = refl
same_type scope n (Operation.Call words attributes width name arguments) = refl

phi_widths : (scope : Scope) (ps : List PhiNode) → map (λ v. v.ty) (map phi_value ps) ≡ map (λ p. Ty.Int p.width) (map (phi_of scope) ps)
phi_widths scope [] = refl
phi_widths scope (p ∷ ps) = ap (λ r. Ty.Int p.width ∷ r) (phi_widths scope ps)

instruction_types :
    (scope : Scope) (n : ℕ) (is : List Instruction) →
    map (λ v. v.ty) (filter_map instruction_value is) ≡ inst_types (insts_of scope n is)
instruction_types scope n [] = refl
instruction_types scope n (i ∷ is) = go i.result (instruction_types scope (next_call n i) is)
  where
    go :
        (o : Option (List ℕ)) → map (λ v. v.ty) (filter_map instruction_value is) ≡ inst_types (insts_of scope (next_call n i) is) →
        map (λ v. v.ty) (cons_option (option_map (λ name. value_of name (operation_type i.operation)) o) (filter_map instruction_value is))
        ≡ cons_option (elim (option_map (value_id scope) o) [ None ↦ None | Some _ ↦ Some (op_type (op_of scope n i.operation)) ]) (inst_types (insts_of scope (next_call n i) is))
    go None again = again
    go (Some name) again =
        ap (λ t. t ∷ map (λ v. v.ty) (filter_map instruction_value is)) (same_type scope n i.operation)
        ∙ ap (λ r. op_type (op_of scope n i.operation) ∷ r) again

one_block_types : (scope : Scope) (n : ℕ) (b : BasicBlock) → map (λ v. v.ty) (block_values b) ≡ block_types (block_of scope n b)
one_block_types scope n b =
    map-append (λ v. v.ty) (map phi_value b.phis) (filter_map instruction_value b.instructions)
    ∙ ap (λ r. r ++ map (λ v. v.ty) (filter_map instruction_value b.instructions)) (phi_widths scope b.phis)
    ∙ ap (λ r. map (λ p. Ty.Int p.width) (map (phi_of scope) b.phis) ++ r) (instruction_types scope n b.instructions)

-- and all blocks'
pub blocks_places :
    (scope : Scope) (n : ℕ) (bs : List BasicBlock) →
    flat_map block_ids (blocks_of scope n bs) ≡ map (place_of scope.values) (flat_map block_results bs)
blocks_places scope n [] = refl
blocks_places scope n (b ∷ bs) =
    ap (λ r. r ++ flat_map block_ids (blocks_of scope (n + call_count b) bs)) (results_places scope n b)
    ∙ ap (λ r. map (place_of scope.values) (block_results b) ++ r) (blocks_places scope (n + call_count b) bs)
    ∙ sym (map-append (place_of scope.values) (block_results b) (flat_map block_results bs))

pub blocks_types :
    (scope : Scope) (n : ℕ) (bs : List BasicBlock) →
    map (λ v. v.ty) (flat_map block_values bs) ≡ flat_map block_types (blocks_of scope n bs)
blocks_types scope n [] = refl
blocks_types scope n (b ∷ bs) =
    map-append (λ v. v.ty) (block_values b) (flat_map block_values bs)
    ∙ ap (λ r. r ++ map (λ v. v.ty) (flat_map block_values bs)) (one_block_types scope n b)
    ∙ ap (λ r. block_types (block_of scope n b) ++ r) (blocks_types scope (n + call_count b) bs)

-- as many values as names, and their kept names
phis_length : (ps : List PhiNode) → length (map phi_value ps) ≡ length (map (λ p. p.result) ps)
phis_length [] = refl
phis_length (p ∷ ps) = ap suc (phis_length ps)

insts_length : (is : List Instruction) → length (filter_map instruction_value is) ≡ length (filter_map (λ i. i.result) is)
insts_length [] = refl
insts_length (i ∷ is) = go i.result (insts_length is)
  where
    go :
        (o : Option (List ℕ)) → length (filter_map instruction_value is) ≡ length (filter_map (λ i. i.result) is) →
        length (cons_option (option_map (λ name. value_of name (operation_type i.operation)) o) (filter_map instruction_value is))
        ≡ length (cons_option o (filter_map (λ i. i.result) is))
    go None again = again
    go (Some n) again = ap suc again

block_length : (b : BasicBlock) → length (block_values b) ≡ length (block_results b)
block_length b =
    length-append (map phi_value b.phis) (filter_map instruction_value b.instructions)
    ∙ ap₂ (λ m n. m + n) (phis_length b.phis) (insts_length b.instructions)
    ∙ sym (length-append (map (λ p. p.result) b.phis) (filter_map (λ i. i.result) b.instructions))

pub blocks_length : (bs : List BasicBlock) → length (flat_map block_values bs) ≡ length (flat_map block_results bs)
blocks_length [] = refl
blocks_length (b ∷ bs) =
    length-append (block_values b) (flat_map block_values bs) ∙ ap (λ n. n + length (flat_map block_values bs)) (block_length b)
    ∙ ap (λ n. length (block_results b) + n) (blocks_length bs) ∙ sym (length-append (block_results b) (flat_map block_results bs))

abbrev pub names_in : List Value → List (List ℕ)
names_in = filter_map (λ v. v.name)

abbrev pub kept_in : List (List ℕ) → List (List ℕ)
kept_in = filter_map kept_name

phis_kept : (ps : List PhiNode) → names_in (map phi_value ps) ≡ kept_in (map (λ p. p.result) ps)
phis_kept [] = refl
phis_kept (p ∷ ps) = ap (cons_option (kept_name p.result)) (phis_kept ps)

insts_kept : (is : List Instruction) → names_in (filter_map instruction_value is) ≡ kept_in (filter_map (λ i. i.result) is)
insts_kept [] = refl
insts_kept (i ∷ is) = go i.result (insts_kept is)
  where
    go :
        (o : Option (List ℕ)) → names_in (filter_map instruction_value is) ≡ kept_in (filter_map (λ i. i.result) is) →
        names_in (cons_option (option_map (λ name. value_of name (operation_type i.operation)) o) (filter_map instruction_value is))
        ≡ kept_in (cons_option o (filter_map (λ i. i.result) is))
    go None again = again
    go (Some n) again = ap (cons_option (kept_name n)) again

block_kept : (b : BasicBlock) → names_in (block_values b) ≡ kept_in (block_results b)
block_kept b =
    filter_map-append (λ v. v.name) (map phi_value b.phis) (filter_map instruction_value b.instructions)
    ∙ ap₂ (λ x y. x ++ y) (phis_kept b.phis) (insts_kept b.instructions)
    ∙ sym (filter_map-append kept_name (map (λ p. p.result) b.phis) (filter_map (λ i. i.result) b.instructions))

pub blocks_names : (bs : List BasicBlock) → names_in (flat_map block_values bs) ≡ kept_in (flat_map block_results bs)
blocks_names [] = refl
blocks_names (b ∷ bs) =
    filter_map-append (λ v. v.name) (block_values b) (flat_map block_values bs)
    ∙ ap (λ r. r ++ names_in (flat_map block_values bs)) (block_kept b)
    ∙ ap (λ r. kept_in (block_results b) ++ r) (blocks_names bs)
    ∙ sym (filter_map-append kept_name (block_results b) (flat_map block_results bs))
