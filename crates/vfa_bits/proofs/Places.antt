-- The lines, phis, entries and calls of the rewritten function, by their places.
use Rattle.std.proofs.Common.{◌≡◌, ℕ, zero, suc, ◌+◌, Bool, true, false, ◌&&◌, Option, Some, None, List, [], ◌∷◌, ◌++◌, map, flat_map, length, slice_get, refl, sym, ◌∙◌, ap, subst, arith, inl, inr, ◌⊎◌}
use Rattle.std.specs.Prelude.{nat_eq, if◌then◌else◌, filter_map}
use Rattle.std.specs.List.{AllByRecursion, cons_option}
use Rattle.std.proofs.lemmas.Bool.{eqb-true}
use Rattle.std.proofs.lemmas.List.Elements.{recursion_from_All}
use Rattle.std.proofs.lemmas.Option.{same_Some}
use Rattle.vfa_ir.specs.declared.operations.BlockId.{BlockId}
use Rattle.vfa_ir.specs.declared.operations.Op.{Op}
use Rattle.vfa_ir.specs.declared.operations.Operand.{Operand}
use Rattle.vfa_ir.specs.declared.functions.Block.{Block}
use Rattle.vfa_ir.specs.declared.functions.CallOp.{CallOp}
use Rattle.vfa_ir.specs.declared.functions.Function.{Function}
use Rattle.vfa_ir.specs.declared.functions.Inst.{Inst}
use Rattle.vfa_ir.specs.declared.functions.Phi.{Phi}
use Rattle.vfa_ir.specs.Defined.{Defined, NameUse, UseIsDefined, operand_names, term_names, uses_at, uses_from, block_uses, phi_uses, inst_uses, line_count}
use Rattle.vfa_ir.specs.Printable.{call_place, block_call_places}
use Rattle.vfa_ir.specs.Walks.{IsDefinedAt, is_in}
use Rattle.vfa_mean.specs.Moments.{IsLine}
use Rattle.vfa_mean.specs.Outcomes.{entry_from}
use Rattle.vfa_mean.proofs.FreshOperands.Definitions.{or_left, or_right, first_or_rest, in_first, in_rest}
use Rattle.vfa_bits.specs.Standing.{put_for, standing}
use Rattle.vfa_demand.specs.Rows.{needs_all}
use Rattle.vfa_bits.specs.Narrowed.{Choices, must_stay, new_line, new_entry, new_block, new_blocks, is_reached_call, new_call, new_calls, rewritten}

pub get_map : {A B : Type 0} (h : A → B) (xs : List A) (i : ℕ) (x : A) → slice_get xs i ≡ Some x → slice_get (map h xs) i ≡ Some (h x)
get_map h [] i x e = absurd (cc)
get_map h (y ∷ xs) zero x e = ap Some (ap h (same_Some y x e))
get_map h (y ∷ xs) (suc i) x e = get_map h xs i x e

-- what stands at the place of a line
pub must_at : (f : Function) (b : ℕ) (block : Block) (i : ℕ) (inst : Inst) → IsLine f b block i inst → must_stay f b i ≡ needs_all inst.op
must_at f b block i inst line =
    ap (λ (o : Option Block). elim o [ None ↦ false | Some block ↦ elim (slice_get block.insts i) [ None ↦ false | Some inst ↦ needs_all inst.op ] ]) line.there
    ∙ ap (λ (o : Option Inst). elim o [ None ↦ false | Some inst ↦ needs_all inst.op ]) line.stands

module _ (f : Function) (masks : ℕ → ℕ) (by : Choices) where
  blocks_at : (blocks : List Block) (n m i : ℕ) (block : Block) → m ≡ n + i → slice_get blocks i ≡ Some block → slice_get (new_blocks f masks by n blocks) i ≡ Some (new_block f masks by m block)
  blocks_at [] n m i block e h = absurd (cc)
  blocks_at (c ∷ blocks) n m zero block e h =
      let same : n ≡ m = omega arith in ap Some (ap (λ k. new_block f masks by k c) same ∙ ap (new_block f masks by m) (same_Some c block h))
  blocks_at (c ∷ blocks) n m (suc i) block e h = blocks_at blocks (suc n) m i block (omega arith) h

  pub block_at : (b : ℕ) (block : Block) → slice_get f.blocks b ≡ Some block → slice_get (new_blocks f masks by 0 f.blocks) b ≡ Some (new_block f masks by b block)
  block_at b block h = blocks_at f.blocks 0 b b block (omega arith) h

  pub line_at : (b : ℕ) (block : Block) (i : ℕ) (inst : Inst) → IsLine f b block i inst → IsLine (rewritten f masks by) b (new_block f masks by b block) i (new_line f masks by b inst)
  line_at b block i inst line = record {
    there = block_at b block line.there;
    stands = get_map (new_line f masks by b) block.insts i inst line.stands;
  }

  calls_at : (calls : List CallOp) (n m i : ℕ) (c : CallOp) → m ≡ n + i → slice_get calls i ≡ Some c → slice_get (new_calls f masks by n calls) i ≡ Some (new_call f masks by m c)
  calls_at [] n m i c e h = absurd (cc)
  calls_at (x ∷ calls) n m zero c e h =
      let same : n ≡ m = omega arith in ap Some (ap (λ k. new_call f masks by k x) same ∙ ap (new_call f masks by m) (same_Some x c h))
  calls_at (x ∷ calls) n m (suc i) c e h = calls_at calls (suc n) m i c (omega arith) h

  pub call_at : (place : ℕ) (c : CallOp) → slice_get f.calls place ≡ Some c → slice_get (new_calls f masks by 0 f.calls) place ≡ Some (new_call f masks by place c)
  call_at place c h = calls_at f.calls 0 place place c (omega arith) h

  -- ---- a call in a block that a walk comes to

  in_insts : (insts : List Inst) (i : ℕ) (inst : Inst) (place : ℕ) → slice_get insts i ≡ Some inst → call_place inst.op ≡ Some place →
      is_in place (filter_map (λ (j : Inst). call_place j.op) insts) ≡ true
  in_insts [] i inst place h e = absurd (cc)
  in_insts (j ∷ insts) zero inst place h e =
      here (call_place j.op) (subst (λ (k : Inst). call_place k.op ≡ Some place) (sym (same_Some j inst h)) e)
    where
      here : (o : Option ℕ) → o ≡ Some place → is_in place (cons_option o (filter_map (λ (k : Inst). call_place k.op) insts)) ≡ true
      here None k = absurd (cc)
      here (Some y) k = in_first place y _ (sym (same_Some y place k))
  in_insts (j ∷ insts) (suc i) inst place h e = later (call_place j.op) (in_insts insts i inst place h e)
    where
      later : (o : Option ℕ) → is_in place (filter_map (λ (k : Inst). call_place k.op) insts) ≡ true → is_in place (cons_option o (filter_map (λ (k : Inst). call_place k.op) insts)) ≡ true
      later None t = t
      later (Some y) t = in_rest place y _ t

  both : (a b : Bool) → a ≡ true → b ≡ true → (a && b) ≡ true
  both true true e k = refl
  both true false e k = absurd (cc)
  both false b e k = absurd (cc)

  reached_from : (blocks : List Block) (n m b : ℕ) (block : Block) (place : ℕ) → m ≡ n + b → slice_get blocks b ≡ Some block → by.reached m ≡ true →
      is_in place (block_call_places block) ≡ true → is_reached_call by place n blocks ≡ true
  reached_from [] n m b block place e h r t = absurd (cc)
  reached_from (c ∷ blocks) n m zero block place e h r t =
      let same : m ≡ n = omega arith in
      or_left (by.reached n && is_in place (block_call_places c)) (is_reached_call by place (suc n) blocks)
      (both (by.reached n) (is_in place (block_call_places c)) (subst (λ k. by.reached k ≡ true) same r)
      (subst (λ k. is_in place (block_call_places k) ≡ true) (sym (same_Some c block h)) t))
  reached_from (c ∷ blocks) n m (suc b) block place e h r t =
      or_right (by.reached n && is_in place (block_call_places c)) (is_reached_call by place (suc n) blocks)
      (reached_from blocks (suc n) m b block place (omega arith) h r t)

  pub reached_call : (b : ℕ) (block : Block) (i : ℕ) (inst : Inst) (width : Option ℕ) (place : ℕ) → IsLine f b block i inst → inst.op ≡ Op.Call width place → by.reached b ≡ true →
      is_reached_call by place 0 f.blocks ≡ true
  reached_call b block i inst width place line is r =
      reached_from f.blocks 0 b b block place (omega arith) line.there r (in_insts block.insts i inst place line.stands (ap call_place is))

  -- ---- the entries of a phi

  put_poison : (t : Bool) → put_for f masks t Operand.Poison ≡ Operand.Poison
  unfolding standing
  put_poison true = refl
  put_poison false = refl

  pub new_entry_from : (q : ℕ) (entries : List (Operand × BlockId)) → entry_from q (map (new_entry f masks by) entries) ≡ put_for f masks (by.reached q) (entry_from q entries)
  new_entry_from q [] = sym (put_poison (by.reached q))
  new_entry_from q (e ∷ rest) = here (nat_eq e.1.0 q) refl (new_entry_from q rest)
    where
      here : (t : Bool) → nat_eq e.1.0 q ≡ t → entry_from q (map (new_entry f masks by) rest) ≡ put_for f masks (by.reached q) (entry_from q rest) →
          (if t then put_for f masks (by.reached e.1.0) e.0 else entry_from q (map (new_entry f masks by) rest)) ≡ put_for f masks (by.reached q) (if t then e.0 else entry_from q rest)
      here true k again = ap (λ b. put_for f masks (by.reached b) e.0) (eqb-true e.1.0 q k)
      here false k again = again

-- the operand that a phi has for a predecessor is that of an entry, or poison
pub entry_cases : (q : ℕ) (entries : List (Operand × BlockId)) →
    (entry_from q entries ≡ Operand.Poison) ⊎ ((k : ℕ) × (e : Operand × BlockId) × (slice_get entries k ≡ Some e) × (e.1.0 ≡ q) × (entry_from q entries ≡ e.0))
entry_cases q [] = inl refl
entry_cases q (e ∷ rest) = here (nat_eq e.1.0 q) refl (entry_cases q rest)
  where
    here : (t : Bool) → nat_eq e.1.0 q ≡ t →
        ((entry_from q rest ≡ Operand.Poison) ⊎ ((k : ℕ) × (d : Operand × BlockId) × (slice_get rest k ≡ Some d) × (d.1.0 ≡ q) × (entry_from q rest ≡ d.0))) →
        ((if t then e.0 else entry_from q rest) ≡ Operand.Poison) ⊎ ((k : ℕ) × (d : Operand × BlockId) × (slice_get (e ∷ rest) k ≡ Some d) × (d.1.0 ≡ q) × ((if t then e.0 else entry_from q rest) ≡ d.0))
    here true k again = inr (zero, e, refl, eqb-true e.1.0 q k, refl)
    here false k (inl none) = inl none
    here false k (inr (j, d, there, at, is)) = inr (suc j, d, there, at, is)

-- ---- uses are defined

uses_left : (P : NameUse → Type 0) (xs ys : List NameUse) → AllByRecursion P (xs ++ ys) → AllByRecursion P xs
uses_left P [] ys h = tt
uses_left P (x ∷ xs) ys h = (h.0, uses_left P xs ys h.1)

uses_right : (P : NameUse → Type 0) (xs ys : List NameUse) → AllByRecursion P (xs ++ ys) → AllByRecursion P ys
uses_right P [] ys h = h
uses_right P (x ∷ xs) ys h = uses_right P xs ys h.1

uses_each : {A : Type 0} (P : NameUse → Type 0) (h : A → List NameUse) (xs : List A) (i : ℕ) (x : A) → AllByRecursion P (flat_map h xs) → slice_get xs i ≡ Some x → AllByRecursion P (h x)
uses_each P h [] i x all there = absurd (cc)
uses_each P h (y ∷ xs) zero x all there = subst (λ z. AllByRecursion P (h z)) (same_Some y x there) (uses_left P (h y) (flat_map h xs) all)
uses_each P h (y ∷ xs) (suc i) x all there = uses_each P h xs i x (uses_right P (h y) (flat_map h xs) all) there

use_named : (P : NameUse → Type 0) (b n : ℕ) (names : List ℕ) (x : ℕ) → AllByRecursion P (uses_at b n names) → is_in x names ≡ true → P (record { name = x; block = b; line = n })
use_named P b n [] x h t = absurd (cc)
use_named P b n (y ∷ names) x h t = elim (first_or_rest x y names t) [
  | inl e ↦ subst (λ z. P (record { name = z; block = b; line = n })) (sym e) h.0
  | inr u ↦ use_named P b n names x h.1 u
]

uses_of_block : (P : NameUse → Type 0) (f : Function) (n m : ℕ) (blocks : List Block) (b : ℕ) (block : Block) → m ≡ n + b →
    AllByRecursion P (uses_from f n blocks) → slice_get blocks b ≡ Some block → AllByRecursion P (block_uses f m block)
uses_of_block P f n m [] b block e h s = absurd (cc)
uses_of_block P f n m (c ∷ blocks) zero block e h s =
    let same : n ≡ m = omega arith in
    subst (λ k. AllByRecursion P (block_uses f k block)) same
    (subst (λ z. AllByRecursion P (block_uses f n z)) (same_Some c block s) (uses_left P (block_uses f n c) (uses_from f (n + 1) blocks) h))
uses_of_block P f n m (c ∷ blocks) (suc b) block e h s =
    uses_of_block P f (n + 1) m blocks b block (omega arith) (uses_right P (block_uses f n c) (uses_from f (n + 1) blocks) h) s

module _ (f : Function) (defined : Defined f) (b : ℕ) (block : Block) (there : slice_get f.blocks b ≡ Some block) where
  own_uses : AllByRecursion (UseIsDefined f) (block_uses f b block)
  own_uses = uses_of_block (UseIsDefined f) f 0 b f.blocks b block (omega arith) (recursion_from_All (UseIsDefined f) (uses_from f 0 f.blocks) defined) there

  pub term_defined : (x : ℕ) → is_in x (term_names block.term) ≡ true → IsDefinedAt f b (length block.insts) x
  term_defined x t =
      let P = UseIsDefined f in
      let later = uses_right P (flat_map (phi_uses f) block.phis) _ own_uses in
      use_named P b (length block.insts) (term_names block.term) x (uses_right P (inst_uses f b 0 block.insts) _ later) t

  pub entry_defined : (j : ℕ) (phi : Phi) (k : ℕ) (e : Operand × BlockId) (x : ℕ) → slice_get block.phis j ≡ Some phi → slice_get phi.entries k ≡ Some e → is_in x (operand_names e.0) ≡ true →
      IsDefinedAt f e.1.0 (line_count f e.1.0) x
  entry_defined j phi k e x stands at t =
      let P = UseIsDefined f in
      let phis = uses_left P (flat_map (phi_uses f) block.phis) _ own_uses in
      let one = uses_each P (phi_uses f) block.phis j phi phis stands in
      let entry = uses_each P (λ (d : Operand × BlockId). uses_at d.1.0 (line_count f d.1.0) (operand_names d.0)) phi.entries k e one at in
      use_named P e.1.0 (line_count f e.1.0) (operand_names e.0) x entry t
