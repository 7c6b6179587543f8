-- What is defined at the end of a block.
use Rattle.std.proofs.Common.{◌≡◌, ℕ, Bool, true, false, ◌||◌, ◌⊎◌, inl, inr, nat_eq, Option, Some, None, List, [], ◌∷◌, ◌++◌, map, take, length, slice_get, MatchBool, refl, sym, ap, ◌∙◌, take_all, le_refl}
use Rattle.std.specs.List.{list_any, cons_option}
use Rattle.vfa_ir.specs.declared.operations.ValueId.{ValueId}
use Rattle.vfa_ir.specs.declared.functions.Block.{Block}
use Rattle.vfa_ir.specs.declared.functions.Function.{Function}
use Rattle.vfa_ir.specs.declared.functions.Inst.{Inst}
use Rattle.vfa_ir.specs.Defined.{line_count}
use Rattle.vfa_ir.specs.Printable.{inst_ids}
use Rattle.vfa_ir.specs.Walks.{is_in, defined_over, results_before, IsDefinedAt, IsMissedAt}
use Rattle.vfa_mean.proofs.FreshOperands.Definitions.{or_cases, or_left, or_right, in_left, in_right, in_cases}
use Rattle.vfa_lazy.specs.Giving.{block_gives, gives_name}

abbrev result_of : Option ValueId → Option ℕ
result_of r = elim r [ None ↦ None | Some v ↦ Some v.0 ]

given_is : (insts : List Inst) (v : ℕ) → list_any (gives_name v) insts ≡ is_in v (inst_ids insts)
given_is [] v = refl
given_is (i ∷ rest) v = by i.result (given_is rest v)
  where
    by : (r : Option ValueId) → list_any (gives_name v) rest ≡ is_in v (inst_ids rest) →
        ((elim r [ None ↦ false | Some u ↦ nat_eq v u.0 ]) || list_any (gives_name v) rest) ≡ is_in v (cons_option (result_of r) (inst_ids rest))
    by None h = h
    by (Some u) h = ap (λ t. nat_eq v u.0 || t) h

abbrev phi_ids : Block → List ℕ
phi_ids block = map (λ p. p.result.0) block.phis

abbrev before_in : ℕ → Option Block → List ℕ
before_in n o = elim o [ None ↦ [] | Some block ↦ phi_ids block ++ inst_ids (take n block.insts) ]

abbrev count_in : Option Block → ℕ
count_in o = elim o [ None ↦ 0 | Some block ↦ length block.insts ]

abbrev gives_in : ℕ → Option Block → Bool
gives_in v o = elim o [ None ↦ false | Some block ↦ list_any (gives_name v) block.insts ]

whole : (v : ℕ) (block : Block) → is_in v (inst_ids (take (length block.insts) block.insts)) ≡ list_any (gives_name v) block.insts
whole v block = ap (λ is. is_in v (inst_ids is)) (take_all (length block.insts) block.insts (le_refl (length block.insts))) ∙ sym (given_is block.insts v)

at_end : (v : ℕ) (o : Option Block) → is_in v (before_in (count_in o) o) ≡ true → (is_in v (before_in 0 o) ≡ true) ⊎ (gives_in v o ≡ true)
at_end v None h = absurd (cc)
at_end v (Some block) h = elim (in_cases v (phi_ids block) (inst_ids (take (length block.insts) block.insts)) h) [
  | inl p ↦ inl (in_left v (phi_ids block) (inst_ids (take 0 block.insts)) p)
  | inr t ↦ inr (sym (whole v block) ∙ t)
]

from_entry : (v : ℕ) (o : Option Block) → is_in v (before_in 0 o) ≡ true → is_in v (before_in (count_in o) o) ≡ true
from_entry v None h = absurd (cc)
from_entry v (Some block) h = elim (in_cases v (phi_ids block) (inst_ids (take 0 block.insts)) h) [
  | inl p ↦ in_left v (phi_ids block) (inst_ids (take (length block.insts) block.insts)) p
  | inr t ↦ absurd (cc)
]

from_lines : (v : ℕ) (o : Option Block) → gives_in v o ≡ true → is_in v (before_in (count_in o) o) ≡ true
from_lines v None h = absurd (cc)
from_lines v (Some block) h = in_right v (phi_ids block) (inst_ids (take (length block.insts) block.insts)) (whole v block ∙ h)

-- what is defined at the entry is defined at the end
pub still_defined : (f : Function) (b v : ℕ) → IsDefinedAt f b 0 v → IsDefinedAt f b (line_count f b) v
still_defined f b v defined passed walk = elim (or_cases (defined_over f passed v) (is_in v (results_before f b 0)) (defined passed walk)) [
  | inl before ↦ or_left (defined_over f passed v) (is_in v (results_before f b (line_count f b))) before
  | inr here ↦ or_right (defined_over f passed v) (is_in v (results_before f b (line_count f b))) (from_entry v (slice_get f.blocks b) here)
]

-- what is missed at the entry is defined at the end where an instruction gives it, and missed there too where none does
pub defined_or_missed : (f : Function) (b v : ℕ) (given : Bool) → given ≡ block_gives f b v → IsMissedAt f b 0 v →
    MatchBool given (IsDefinedAt f b (line_count f b) v) (IsMissedAt f b (line_count f b) v)
defined_or_missed f b v true e m = λ passed walk.
    or_right (defined_over f passed v) (is_in v (results_before f b (line_count f b))) (from_lines v (slice_get f.blocks b) (sym e))
defined_or_missed f b v false e m = record {
  passed = m.passed;
  walk = m.walk;
  missed = λ h. elim (or_cases (defined_over f m.passed v) (is_in v (results_before f b (line_count f b))) h) [
    | inl before ↦ m.missed (or_left (defined_over f m.passed v) (is_in v (results_before f b 0)) before)
    | inr here ↦ elim (at_end v (slice_get f.blocks b) here) [
      | inl t ↦ m.missed (or_right (defined_over f m.passed v) (is_in v (results_before f b 0)) t)
      | inr t ↦ absurd (let no = e in let yes = t in cc)
    ]
  ];
}

pub by_entry : (t : Bool) (P Q : Type 0) → t ≡ false → MatchBool t P Q → Q
by_entry true P Q e m = absurd (cc)
by_entry false P Q e m = m

pub by_entry_too : (t : Bool) (P Q : Type 0) → t ≡ true → MatchBool t P Q → P
by_entry_too true P Q e m = m
by_entry_too false P Q e m = absurd (cc)
