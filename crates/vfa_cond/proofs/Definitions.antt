-- In a function that defines each name once, the operation of an instruction that defines a name is the name's equation.
use Rattle.std.proofs.Common.{◌≡◌, ℕ, zero, suc, Bool, true, false, not, ◌&&◌, ◌||◌, nat_eq, if◌then◌else◌, List, [], ◌∷◌, ◌++◌, map, flat_map, Option, Some, None, refl, sym, ap, ◌∙◌, subst, eqb-true, append_assoc}
use Rattle.std.proofs.lemmas.Bool.{eq-eqb}
use Rattle.std.proofs.lemmas.Option.{same_Some}
use Rattle.std.specs.Prelude.{slice_get}
use Rattle.std.specs.List.{AllByRecursion, IsDistinct, cons_option}
use Rattle.vfa_ir.specs.declared.operations.Op.{Op}
use Rattle.vfa_ir.specs.declared.operations.ValueId.{ValueId}
use Rattle.vfa_ir.specs.declared.functions.Block.{Block}
use Rattle.vfa_ir.specs.declared.functions.Function.{Function}
use Rattle.vfa_ir.specs.declared.functions.Inst.{Inst}
use Rattle.vfa_ir.specs.declared.functions.Phi.{Phi}
use Rattle.vfa_ir.specs.Printable.{inst_ids, block_ids}
use Rattle.vfa_ir.specs.Walks.{is_in}
use Rattle.vfa_mean.specs.FreshOperands.{DefinesOnce}
use Rattle.vfa_mean.specs.Moments.{is_call}
use Rattle.vfa_cond.specs.Definitions.{IsDefinedBy}
use Rattle.vfa_cond.specs.Equations.{is_result, is_definition, equation_among, or_else, equation_in, equation}

abbrev result_id : Option ValueId → Option ℕ
result_id o = elim o [ None ↦ None | Some r ↦ Some r.0 ]

-- ---- lists of numbers

differs_by : (x v y : ℕ) (b rest : Bool) → nat_eq v y ≡ b → nat_eq x y ≡ false → (rest ≡ true → nat_eq x v ≡ false) → (b || rest) ≡ true → nat_eq x v ≡ false
differs_by x v y true rest e here later h = subst (λ z. nat_eq x z ≡ false) (sym (eqb-true v y e)) here
differs_by x v y false rest e here later h = later h

differs : (x v : ℕ) (ids : List ℕ) → AllByRecursion (λ y. nat_eq x y ≡ false) ids → is_in v ids ≡ true → nat_eq x v ≡ false
differs x v [] all h = absurd cc
differs x v (y ∷ ids) all h = differs_by x v y (nat_eq v y) (is_in v ids) refl all.0 (differs x v ids all.1) h

or_right : (a b : Bool) → b ≡ true → (a || b) ≡ true
or_right true b h = refl
or_right false b h = h

in_rest : (v : ℕ) (xs ys : List ℕ) → is_in v ys ≡ true → is_in v (xs ++ ys) ≡ true
in_rest v [] ys h = h
in_rest v (x ∷ xs) ys h = or_right (nat_eq v x) (is_in v (xs ++ ys)) (in_rest v xs ys h)

rest_distinct : (xs ys : List ℕ) → IsDistinct nat_eq (xs ++ ys) → IsDistinct nat_eq ys
unfolding IsDistinct
rest_distinct [] ys d = d
rest_distinct (x ∷ xs) ys d = rest_distinct xs ys d.1

-- ---- instructions

and_not : (a b : Bool) → b ≡ false → (a && b) ≡ false
and_not true b h = h
and_not false b h = refl

and_second : (a b : Bool) → (a && b) ≡ true → b ≡ true
and_second true b h = h
and_second false b h = absurd cc

other_result : (v : ℕ) (o : Option ValueId) (ids ys : List ℕ) → IsDistinct nat_eq (cons_option (result_id o) ids ++ ys) → is_in v (ids ++ ys) ≡ true → is_result v o ≡ false
unfolding IsDistinct
other_result v None ids ys d h = refl
other_result v (Some r) ids ys d h = differs r.0 v (ids ++ ys) d.0 h

behind : (o : Option ValueId) (ids ys : List ℕ) → IsDistinct nat_eq (cons_option (result_id o) ids ++ ys) → IsDistinct nat_eq (ids ++ ys)
unfolding IsDistinct
behind None ids ys d = d
behind (Some r) ids ys d = d.1

other_definition : (v : ℕ) (i : Inst) (ids ys : List ℕ) → IsDistinct nat_eq (cons_option (result_id i.result) ids ++ ys) → is_in v (ids ++ ys) ≡ true → is_definition v i ≡ false
other_definition v i ids ys d h = and_not (not (is_call i.op)) (is_result v i.result) (other_result v i.result ids ys d h)

in_option : (v : ℕ) (o : Option ValueId) (ids ys : List ℕ) → is_in v (ids ++ ys) ≡ true → is_in v (cons_option (result_id o) ids ++ ys) ≡ true
in_option v None ids ys h = h
in_option v (Some r) ids ys h = or_right (nat_eq v r.0) (is_in v (ids ++ ys)) h

or_left : (a b : Bool) → a ≡ true → (a || b) ≡ true
or_left true b h = refl
or_left false b h = absurd cc

is_option : (v : ℕ) (o : Option ValueId) (ids ys : List ℕ) → is_result v o ≡ true → is_in v (cons_option (result_id o) ids ++ ys) ≡ true
is_option v None ids ys h = absurd cc
is_option v (Some r) ids ys h = or_left (nat_eq v r.0) (is_in v (ids ++ ys)) (eq-eqb v r.0 (sym (eqb-true r.0 v h)))

in_ids : (v : ℕ) (insts : List Inst) (ys : List ℕ) (j : ℕ) (inst : Inst) → slice_get insts j ≡ Some inst → is_definition v inst ≡ true → is_in v (inst_ids insts ++ ys) ≡ true
in_ids v [] ys j inst at is = absurd cc
in_ids v (i ∷ insts) ys zero inst at is =
    is_option v i.result (inst_ids insts) ys (and_second (not (is_call i.op)) (is_result v i.result) (subst (λ (x : Inst). is_definition v x ≡ true) (sym (same_Some i inst at)) is))
in_ids v (i ∷ insts) ys (suc j) inst at is = in_option v i.result (inst_ids insts) ys (in_ids v insts ys j inst at is)

if_true : (b : Bool) (x y : Option Op) → b ≡ true → (if b then x else y) ≡ x
if_true b x y h = rw h

if_false : (b : Bool) (x y : Option Op) → b ≡ false → (if b then x else y) ≡ y
if_false b x y h = rw h

among : (v : ℕ) (insts : List Inst) (ys : List ℕ) (j : ℕ) (inst : Inst) → IsDistinct nat_eq (inst_ids insts ++ ys) → slice_get insts j ≡ Some inst → is_definition v inst ≡ true
    → equation_among v insts ≡ Some inst.op
among v [] ys j inst d at is = absurd cc
among v (i ∷ insts) ys zero inst d at is =
    let same = same_Some i inst at in
    if_true (is_definition v i) (Some i.op) (equation_among v insts) (subst (λ (x : Inst). is_definition v x ≡ true) (sym same) is) ∙ ap (λ (x : Inst). Some x.op) same
among v (i ∷ insts) ys (suc j) inst d at is =
    if_false (is_definition v i) (Some i.op) (equation_among v insts) (other_definition v i (inst_ids insts) ys d (in_ids v insts ys j inst at is))
    ∙ among v insts ys j inst (behind i.result (inst_ids insts) ys d) at is

none_among : (v : ℕ) (insts : List Inst) (ys : List ℕ) → IsDistinct nat_eq (inst_ids insts ++ ys) → is_in v ys ≡ true → equation_among v insts ≡ None
none_among v [] ys d h = refl
none_among v (i ∷ insts) ys d h =
    if_false (is_definition v i) (Some i.op) (equation_among v insts) (other_definition v i (inst_ids insts) ys d (in_rest v (inst_ids insts) ys h))
    ∙ none_among v insts ys (behind i.result (inst_ids insts) ys d) h

-- ---- blocks

-- the results of a block's instructions and those of the blocks behind it differ
own_distinct : (b : Block) (blocks : List Block) → IsDistinct nat_eq (flat_map block_ids (b ∷ blocks)) → IsDistinct nat_eq (inst_ids b.insts ++ flat_map block_ids blocks)
own_distinct b blocks d =
    let phis : List ℕ = map (λ (p : Phi). p.result.0) b.phis in
    rest_distinct phis (inst_ids b.insts ++ flat_map block_ids blocks) (subst (IsDistinct nat_eq) (append_assoc phis (inst_ids b.insts) (flat_map block_ids blocks)) d)

in_blocks : (v : ℕ) (blocks : List Block) (k : ℕ) (block : Block) (j : ℕ) (inst : Inst) → slice_get blocks k ≡ Some block → slice_get block.insts j ≡ Some inst → is_definition v inst ≡ true
    → is_in v (flat_map block_ids blocks) ≡ true
in_blocks v [] k block j inst there at is = absurd cc
in_blocks v (b ∷ blocks) zero block j inst there at is =
    let phis : List ℕ = map (λ (p : Phi). p.result.0) b.phis in
    let own = in_ids v b.insts (flat_map block_ids blocks) j inst (subst (λ (x : Block). slice_get x.insts j ≡ Some inst) (sym (same_Some b block there)) at) is in
    subst (λ ids. is_in v ids ≡ true) (sym (append_assoc phis (inst_ids b.insts) (flat_map block_ids blocks))) (in_rest v phis (inst_ids b.insts ++ flat_map block_ids blocks) own)
in_blocks v (b ∷ blocks) (suc k) block j inst there at is = in_rest v (block_ids b) (flat_map block_ids blocks) (in_blocks v blocks k block j inst there at is)

or_else_some : (o p : Option Op) (op : Op) → o ≡ Some op → or_else o p ≡ Some op
or_else_some o p op e = rw e

or_else_none : (o p : Option Op) → o ≡ None → or_else o p ≡ p
or_else_none o p e = rw e

found_in : (v : ℕ) (blocks : List Block) (k : ℕ) (block : Block) (j : ℕ) (inst : Inst) → IsDistinct nat_eq (flat_map block_ids blocks) → slice_get blocks k ≡ Some block
    → slice_get block.insts j ≡ Some inst → is_definition v inst ≡ true → equation_in v blocks ≡ Some inst.op
found_in v [] k block j inst d there at is = absurd cc
found_in v (b ∷ blocks) zero block j inst d there at is =
    or_else_some (equation_among v b.insts) (equation_in v blocks) inst.op
    (among v b.insts (flat_map block_ids blocks) j inst (own_distinct b blocks d) (subst (λ (x : Block). slice_get x.insts j ≡ Some inst) (sym (same_Some b block there)) at) is)
found_in v (b ∷ blocks) (suc k) block j inst d there at is =
    or_else_none (equation_among v b.insts) (equation_in v blocks)
    (none_among v b.insts (flat_map block_ids blocks) (own_distinct b blocks d) (in_blocks v blocks k block j inst there at is))
    ∙ found_in v blocks k block j inst (rest_distinct (block_ids b) (flat_map block_ids blocks) d) there at is

pub defined_by : (f : Function) (v : ℕ) (op : Op) → DefinesOnce f → IsDefinedBy f v op → equation f v ≡ Some op
defined_by f v op once by =
    found_in v f.blocks by.block_place by.block by.place by.inst (rest_distinct (map (λ p. p.value.0) f.params) (flat_map block_ids f.blocks) once) by.block_is by.is by.defines
    ∙ ap Some by.operation
