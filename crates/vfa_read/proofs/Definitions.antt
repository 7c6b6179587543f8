-- Names are defined one after the other: how the first that is repeated stays the same.
use Rattle.std.proofs.Common.{◌≡◌, ◌∙◌, ℕ, List, [], ◌∷◌, ◌++◌, Bool, true, false, ◌||◌, refl, ap, sym, if◌then◌else◌, Some, None, bytes_eq, append_assoc, length, length-append, ◌+◌, ◌<◌, suc, drop, get_or, drop-cons, ◌≤◌, arith, subst, unwrap_or, decimal, count_by, Result, Ok, Err, IfErr, add-one, filter_map, map}
use Rattle.std.proofs.lemmas.List.Elements.{filter_map-append}
use Rattle.std.proofs.lemmas.List.Folds.{list_any-append}
use Rattle.std.specs.List.{list_any}
use Rattle.std.specs.Result.{IsErrAnd}
use Rattle.vfa_ir.specs.declared.reasons.Outside.{Outside}
use Rattle.vfa_ir.specs.DefinedNames.{first_repeated, parameter_names, is_numbered, duplicate_of}
use Rattle.vfa_ir.specs.declared.syntax.BasicBlock.{BasicBlock}
use Rattle.vfa_ir.specs.declared.syntax.Instruction.{Instruction}
use Rattle.vfa_ir.specs.declared.syntax.Parameter.{Parameter}
use Rattle.vfa_ir.specs.declared.syntax.PhiNode.{PhiNode}
use Rattle.vfa_ir.specs.Resolution.{Scope, scope_of}
use Rattle.vfa_ir.specs.Words.{is_among}
use Rattle.vfa_read.specs.Resolving.{defined_in, names_of_block, names_of_blocks, only_values, one_block, no_names, joined, Left, Names, IsRepeated, IsDuplicate, tree}

-- only which names stand before tells
pub first_repeated-alike : (s t : List (List ℕ)) → ((n : List ℕ) → is_among n s ≡ is_among n t) → (names : List (List ℕ)) → first_repeated s names ≡ first_repeated t names
first_repeated-alike s t same [] = refl
first_repeated-alike s t same (x ∷ xs) =
    ap (λ b. if b then Some x else first_repeated (x ∷ s) xs) (same x)
    ∙ ap (λ r. if is_among x t then Some x else r) (first_repeated-alike (x ∷ s) (x ∷ t) (λ n. ap (λ b. bytes_eq n x || b) (same n)) xs)

or-false : (b : Bool) → (b || false) ≡ b
or-false true = refl
or-false false = refl

or-swap : (a b c : Bool) → (a || (b || c)) ≡ ((b || (a || false)) || c)
or-swap true true c = refl
or-swap true false c = refl
or-swap false true c = refl
or-swap false false c = refl

or-end : (a b c : Bool) → (a || (b || c)) ≡ (b || (c || (a || false)))
or-end true true c = refl
or-end true false true = refl
or-end true false false = refl
or-end false true c = refl
or-end false false true = refl
or-end false false false = refl

among-with_value : (scope : Scope) (name n : List ℕ) → is_among n (name ∷ defined_in scope) ≡ is_among n ((scope.values ++ name ∷ []) ++ scope.blocks)
among-with_value scope name n =
    let p = bytes_eq n in
    ap (λ b. p name || b) (list_any-append p scope.values scope.blocks)
    ∙ or-swap (p name) (list_any p scope.values) (list_any p scope.blocks)
    ∙ ap (λ b. b || list_any p scope.blocks) (sym (list_any-append p scope.values (name ∷ [])))
    ∙ sym (list_any-append p (scope.values ++ name ∷ []) scope.blocks)

among-with_block : (scope : Scope) (name n : List ℕ) → is_among n (name ∷ defined_in scope) ≡ is_among n (scope.values ++ (scope.blocks ++ name ∷ []))
among-with_block scope name n =
    let p = bytes_eq n in
    ap (λ b. p name || b) (list_any-append p scope.values scope.blocks)
    ∙ or-end (p name) (list_any p scope.values) (list_any p scope.blocks)
    ∙ ap (λ b. list_any p scope.values || b) (sym (list_any-append p scope.blocks (name ∷ [])))
    ∙ sym (list_any-append p scope.values (scope.blocks ++ name ∷ []))

after_new : (seen : List (List ℕ)) (name : List ℕ) (rest : List (List ℕ)) → is_among name seen ≡ false → first_repeated seen (name ∷ rest) ≡ first_repeated (name ∷ seen) rest
after_new seen name rest new = ap (λ b. if b then Some name else first_repeated (name ∷ seen) rest) new

append-nil : {X : Type 0} (xs : List X) → xs ++ [] ≡ xs
append-nil [] = refl
append-nil (x ∷ xs) = ap (λ l. x ∷ l) (append-nil xs)

-- a value, or a block, is defined
pub value_is_new : (old new : Scope) (name : List ℕ) → is_among name (defined_in old) ≡ false → new.values ≡ old.values ++ name ∷ [] → new.blocks ≡ old.blocks
    → Left old (only_values (name ∷ [])) new no_names
value_is_new old new name absent values blocks = record {
  repeats = λ more. after_new (defined_in old) name more absent
      ∙ first_repeated-alike (name ∷ defined_in old) (defined_in new)
      (λ n. among-with_value old name n ∙ ap (is_among n) (ap (λ v. v ++ old.blocks) (sym values) ∙ ap (λ b. new.values ++ b) (sym blocks))) more;
  values = append-nil new.values ∙ values;
  blocks = ap (λ b. b ++ []) blocks;
}

pub block_is_new : (old new : Scope) (name : List ℕ) → is_among name (defined_in old) ≡ false → new.values ≡ old.values → new.blocks ≡ old.blocks ++ name ∷ []
    → Left old (one_block name) new no_names
block_is_new old new name absent values blocks = record {
  repeats = λ more. after_new (defined_in old) name more absent
      ∙ first_repeated-alike (name ∷ defined_in old) (defined_in new)
      (λ n. among-with_block old name n ∙ ap (is_among n) (ap (λ b. old.values ++ b) (sym blocks) ∙ ap (λ v. v ++ new.blocks) (sym values))) more;
  values = ap (λ b. b ++ []) values;
  blocks = append-nil new.blocks ∙ blocks;
}

then_list : (old now after names x rest : List (List ℕ)) → now ++ (x ++ rest) ≡ old ++ names → after ++ [] ≡ now ++ x → after ++ rest ≡ old ++ names
then_list old now after names x rest h k = ap (λ l. l ++ rest) (sym (append-nil after) ∙ k) ∙ append_assoc now x rest ∙ h

-- the first of what is left are defined
pub left_then : (old : Scope) (names : Names) (now after : Scope) (x rest : Names) → Left old names now (joined x rest) → Left now x after no_names → Left old names after rest
left_then old names now after x rest h k = record {
  repeats = λ more. h.repeats more ∙ ap (first_repeated (defined_in now)) (append_assoc x.all rest.all more) ∙ k.repeats (rest.all ++ more);
  values = then_list old.values now.values after.values names.values x.values rest.values h.values k.values;
  blocks = then_list old.blocks now.blocks after.blocks names.blocks x.blocks rest.blocks h.blocks k.blocks;
}

-- a name that is left and repeated is the first repeated of all
pub left_repeated : (old : Scope) (names : Names) (now : Scope) (x rest : Names) (e : Outside)
    → Left old names now (joined x rest) → IsRepeated now x.all e → IsRepeated old names.all e
left_repeated old names now x rest Outside.Memory left r = tt
left_repeated old names now x rest (Outside.Duplicate name) left r =
    λ more. left.repeats more ∙ ap (first_repeated (defined_in now)) (append_assoc x.all rest.all more) ∙ r (rest.all ++ more)
left_repeated old names now x rest (Outside.Shape _) left r = r
left_repeated old names now x rest (Outside.TooMany _) left r = r
left_repeated old names now x rest (Outside.Unknown _) left r = r
left_repeated old names now x rest (Outside.Types _) left r = r
left_repeated old names now x rest (Outside.Phi _) left r = r
left_repeated old names now x rest (Outside.Undefined _ _) left r = r

-- how much room what is left needs
pub values_left : (old : Scope) (names : Names) (now : Scope) (left : Names) → Left old names now left → length now.values + length left.values ≡ length old.values + length names.values
values_left old names now left h = sym (length-append now.values left.values) ∙ ap length h.values ∙ length-append old.values names.values

pub blocks_left : (old : Scope) (names : Names) (now : Scope) (left : Names) → Left old names now left → length now.blocks + length left.blocks ≡ length old.blocks + length names.blocks
blocks_left old names now left h = sym (length-append now.blocks left.blocks) ∙ ap length h.blocks ∙ length-append old.blocks names.blocks

-- the element at i, and those after it
pub item_and_rest : {X : Type 0} (xs : List X) (i : ℕ) (x : X) → i < length xs → x ≡ get_or xs i x → drop i xs ≡ (x ∷ []) ++ drop (i + 1) xs
item_and_rest xs i x h e =
    let k : drop (i + 1) xs ≡ drop (suc i) xs = ap (λ n. drop n xs) (add-one i) in
    drop-cons xs i x h ∙ ap (λ y. y ∷ drop (suc i) xs) (sym e) ∙ ap (λ r. x ∷ r) (sym k)

abbrev pub phi_names : List PhiNode → Names
phi_names phis = only_values (map (λ p. p.result) phis)

abbrev pub instruction_names : List Instruction → Names
instruction_names instructions = only_values (filter_map (λ i. i.result) instructions)

-- where all have room, the first of what is left have
pub room_for : (old : Scope) (names : Names) (now : Scope) (x rest : Names) (most : ℕ) → Left old names now (joined x rest)
    → length old.values + length names.values ≤ most → length now.values + length x.values ≤ most
room_for old names now x rest most left room =
    let e = values_left old names now (joined x rest) left in
    let k = length-append x.values rest.values in
    omega (arith, e, k)

-- an error that is handed on
pub err_is : {A E : Type 0} (r : Result A E) (P : E → Type 0) (f : E) → IsErrAnd r (λ e. e ≡ f) → P f → IfErr r P
err_is (Ok x) P f h k = tt
err_is (Err e) P f h k = subst P (sym h) k

pub next_phi : (xs : List PhiNode) (i : ℕ) (x : PhiNode) → i < length xs → x ≡ get_or xs i x
    → phi_names (drop i xs) ≡ joined (phi_names (x ∷ [])) (phi_names (drop (i + 1) xs))
next_phi xs i x h e = ap phi_names (item_and_rest xs i x h e)

pub next_instruction : (xs : List Instruction) (i : ℕ) (x : Instruction) → i < length xs → x ≡ get_or xs i x
    → instruction_names (drop i xs) ≡ joined (instruction_names (x ∷ [])) (instruction_names (drop (i + 1) xs))
next_instruction xs i x h e = ap instruction_names (item_and_rest xs i x h e) ∙ ap only_values (filter_map-append (λ i. i.result) (x ∷ []) (drop (i + 1) xs))

pub next_block : (n : ℕ) (xs : List BasicBlock) (i : ℕ) (x : BasicBlock) → i < length xs → x ≡ get_or xs i x
    → names_of_blocks n (drop i xs) ≡ joined (names_of_block n x) (names_of_blocks n (drop (i + 1) xs))
next_block n xs i x h e = ap (names_of_blocks n) (item_and_rest xs i x h e)

abbrev pub next_number : ℕ → Parameter → ℕ
next_number k x = if is_numbered x then k + 1 else k

pub next_number_le : (k : ℕ) (x : Parameter) → next_number k x ≤ k + 1
next_number_le k x = by (is_numbered x)
  where
    by : (b : Bool) → (if b then k + 1 else k) ≤ k + 1
    by true = omega arith
    by false = omega arith

abbrev pub values_of_parameters : ℕ → List Parameter → Names
values_of_parameters k xs = only_values (parameter_names k xs)

abbrev pub value_of_parameter : ℕ → Parameter → Names
value_of_parameter k x = only_values (unwrap_or x.name (decimal k) ∷ [])

pub next_parameter : (k : ℕ) (xs : List Parameter) (i : ℕ) (x : Parameter) → i < length xs → x ≡ get_or xs i x
    → values_of_parameters k (drop i xs) ≡ joined (value_of_parameter k x) (values_of_parameters (next_number k x) (drop (i + 1) xs))
next_parameter k xs i x h e = ap (values_of_parameters k) (item_and_rest xs i x h e)

pub blocks_room_for : (old : Scope) (names : Names) (now : Scope) (x rest : Names) (most : ℕ) → Left old names now (joined x rest)
    → length old.blocks + length names.blocks ≤ most → length now.blocks + length x.blocks ≤ most
blocks_room_for old names now x rest most left room =
    let e = blocks_left old names now (joined x rest) left in
    let k = length-append x.blocks rest.blocks in
    omega (arith, e, k)

-- at the start all are left
pub all_left : (old : Scope) (names : Names) → Left old names old names
all_left old names = record { repeats = λ more. refl; values = refl; blocks = refl }

-- all are left, in two parts
-- what is left but for nothing after it
pub whole : (names : Names) → joined names no_names ≡ names
whole names = λ i. record { all = append-nil names.all i; values = append-nil names.values i; blocks = append-nil names.blocks i }

-- all that a function defines: its parameters, and its blocks with their results
abbrev pub all_names : List Parameter → List BasicBlock → Names
all_names ps bs = joined (values_of_parameters 0 ps) (names_of_blocks (count_by is_numbered ps) bs)

abbrev pub no_scope : Scope
no_scope = record { values = []; blocks = [] }

pub none_repeated : (ps : List Parameter) (bs : List BasicBlock) (now : Scope) → Left no_scope (all_names ps bs) now no_names → duplicate_of (tree ps bs) ≡ None
none_repeated ps bs now left = ap (first_repeated []) (sym (append-nil (all_names ps bs).all)) ∙ left.repeats []

pub scope_is : (ps : List Parameter) (bs : List BasicBlock) (now : Scope) → Left no_scope (all_names ps bs) now no_names → now ≡ scope_of (tree ps bs)
scope_is ps bs now left =
    let v = sym (append-nil now.values) ∙ left.values in
    let b = sym (append-nil now.blocks) ∙ left.blocks in
    λ i. record { values = v i; blocks = b i }

pub duplicate_is : (ps : List Parameter) (bs : List BasicBlock) (e : Outside) → IsRepeated no_scope (all_names ps bs).all e → IsDuplicate (duplicate_of (tree ps bs)) e
duplicate_is ps bs Outside.Memory r = tt
duplicate_is ps bs (Outside.Duplicate name) r = ap (first_repeated []) (sym (append-nil (all_names ps bs).all)) ∙ r []
duplicate_is ps bs (Outside.Shape _) r = r
duplicate_is ps bs (Outside.TooMany _) r = r
duplicate_is ps bs (Outside.Unknown _) r = r
duplicate_is ps bs (Outside.Types _) r = r
duplicate_is ps bs (Outside.Phi _) r = r
duplicate_is ps bs (Outside.Undefined _ _) r = r

-- the results of a block: those of its phis are defined first
