-- The names that narrowing adds: each is new, and of the lesser width.
use Rattle.std.proofs.Common.{◌≡◌, ◌<◌, ◌≤◌, ◌+◌, ◌*◌, ℕ, suc, true, false, Option, Some, None, length, refl, sym, ap, ◌∙◌, subst, arith}
use Rattle.std.proofs.lemmas.Bool.{eqb-true}
use Rattle.vfa_ir.specs.declared.operations.Op.{Op}
use Rattle.vfa_ir.specs.declared.operations.Ty.{Ty}
use Rattle.vfa_ir.specs.declared.operations.ValueId.{ValueId}
use Rattle.vfa_ir.specs.declared.functions.Block.{Block}
use Rattle.vfa_ir.specs.declared.functions.Function.{Function}
use Rattle.vfa_ir.specs.declared.functions.Inst.{Inst}
use Rattle.vfa_ir.specs.Printable.{IsPrintable, HasItsResult, op_type}
use Rattle.vfa_ir.specs.Walks.{is_in, results_before}
use Rattle.vfa_word.specs.Numbers.{IsWidth}
use Rattle.vfa_mean.specs.FreshOperands.{DefinesOnce}
use Rattle.vfa_mean.specs.Moments.{IsLine, is_call}
use Rattle.vfa_mean.proofs.FreshOperands.Definitions.{line_definition}
use Rattle.vfa_cond.specs.Conditions.{name_type}
use Rattle.vfa_rules.specs.declared.change.Change.{Change}
use Rattle.vfa_rules.specs.Uses.{is_result}
use Rattle.vfa_rewrite.specs.Rewritten.{Marks, rewritten}
use Rattle.vfa_rewrite.specs.Findings.{Findings}
use Rattle.vfa_rewrite.specs.Marks.{IsLeftLine, fresh_name, IsNarrowed, AddedType, at_width, not_narrowed, AreMarks}
use Rattle.vfa_rewrite.proofs.Left.{get_behind}
use Rattle.vfa_rewrite.proofs.Ranges.{defines_once, result_below, type_at}

-- ---- a name is the result of one instruction

pub record IsSameLine (b b' i i' : ℕ) (inst inst' : Inst) : Type 0 where
  pub same_block : b ≡ b'
  pub same_place : i ≡ i'
  pub same_inst : inst ≡ inst'

pub same_line : (f : Function) → DefinesOnce f → (b b' : ℕ) (block block' : Block) (i i' : ℕ) (inst inst' : Inst) (name name' : ValueId) → IsLine f b block i inst →
    IsLine f b' block' i' inst' → inst.result ≡ Some name → inst'.result ≡ Some name' → name.0 ≡ name'.0 → IsSameLine b b' i i' inst inst'
same_line f once b b' block block' i i' inst inst' name name' line line' result result' same =
    let d = line_definition f b block i inst name once line result in
    let e = line_definition f b' block' i' inst' name' once line' result' in
    let forth = d.only b' (suc i') (subst (λ k. is_in k (results_before f b' (suc i')) ≡ true) (sym same) (e.after (suc i') (omega arith))) in
    let back = e.only b (suc i) (subst (λ k. is_in k (results_before f b (suc i)) ≡ true) same (d.after (suc i) (omega arith))) in
    let at : i ≡ i' = let k = forth.1 in let l = back.1 in omega (arith, k, l) in
    let place : b ≡ b' = sym forth.0 in
    let blocks : block ≡ block' = let p = line.there in let q = line'.there in cc in
    record { same_block = place; same_place = at; same_inst = let p = line.stands in let q = line'.stands in cc }

-- ---- a result of a given name

pub record IsNamed (result : Option ValueId) (n : ℕ) : Type 0 where
  pub name : ValueId
  pub is : result ≡ Some name
  pub same : name.0 ≡ n

pub named_result : (result : Option ValueId) (n : ℕ) → is_result n result ≡ true → IsNamed result n
named_result None n h = absurd (cc)
named_result (Some name) n h = record { name = name; is = refl; same = eqb-true name.0 n h }

-- ---- a narrowed division has a result

pub record HasName (result : Option ValueId) : Type 0 where
  pub name : ValueId
  pub is : result ≡ Some name

pub has_result : (op : Op) (result : Option ValueId) (w v : ℕ) → HasItsResult op result → is_call op ≡ false → op_type op ≡ Ty.Int w → IsWidth v → v < w → HasName result
has_result op (Some name) w v has plain ty width less = record { name = name; is = refl }
has_result (Op.Assume c) None w v has plain ty width less =
    let one : 1 ≡ w = ap (λ (t : Ty). elim t [ Ty.Int k ↦ k | Ty.Pair k ↦ k ]) ty in
    let least = width.least in
    absurd (omega (arith, one, least, less))
has_result (Op.Call width k) None w v has plain ty of less = absurd (cc)
has_result (Op.Bin bin flags u a b) None w v has plain ty width less = absurd has
has_result (Op.Icmp pred samesign u a b) None w v has plain ty width less = absurd has
has_result (Op.Select u c a b) None w v has plain ty width less = absurd has
has_result (Op.Cast cast flags u z a) None w v has plain ty width less = absurd has
has_result (Op.Freeze u a) None w v has plain ty width less = absurd has
has_result (Op.Two fun u a b) None w v has plain ty width less = absurd has
has_result (Op.One fun u a strict) None w v has plain ty width less = absurd has
has_result (Op.Over over u a b) None w v has plain ty width less = absurd has
has_result (Op.Part u pair index) None w v has plain ty width less = absurd has

-- ---- names that are added

abbrev lesser_width : Change → ℕ
lesser_width (Change.Narrow op v) = v
lesser_width (Change.Keep op) = 0
lesser_width (Change.Uses u) = 0
lesser_width Change.Gone = 0

pub narrowed_one : (f : Function) → DefinesOnce f → (found : Findings) (m m' : Marks) (n v v' : ℕ) → IsNarrowed f found m n v → IsNarrowed f found m' n v' → v ≡ v'
narrowed_one f once found m m' n v v' r s =
    let line = same_line f once r.b s.b r.block s.block r.i s.i r.inst s.inst r.name s.name r.left.line s.left.line r.result s.result (r.same ∙ sym s.same) in
    let change : found.change r.b r.i r.inst ≡ found.change s.b s.i s.inst = λ j. found.change (line.same_block j) (line.same_place j) (line.same_inst j) in
    ap lesser_width (sym r.narrows ∙ change ∙ s.narrows)

module _ (f : Function) (printable : IsPrintable f) (found : Findings) (m : Marks) (marks : AreMarks f found m)
    (b : ℕ) (block : Block) (i : ℕ) (inst : Inst) (left : IsLeftLine f m b block i inst) (name : ValueId) (result : inst.result ≡ Some name)
    (op : Op) (v : ℕ) (narrows : found.change b i inst ≡ Change.Narrow op v) where
  fresh_is : (k : ℕ) → m.fresh b i k ≡ fresh_name f name.0 k
  fresh_is = ((marks.blocks b block left.line.there left.reached).fresh i inst name op v left.line.stands left.met result narrows).fresh

  pub first_second : m.fresh b i 0 ≡ m.fresh b i 1 → ⊥
  first_second e =
      let first = fresh_is 0 in
      let second = fresh_is 1 in
      omega (arith, e, first, second)

  pub fresh_new : (k : ℕ) → length f.values ≤ m.fresh b i k
  fresh_new k = let e = fresh_is k in omega (arith, e)

  is_narrowed : IsNarrowed f found m name.0 v
  is_narrowed = record { b = b; i = i; block = block; inst = inst; name = name; op = op; left = left; result = result; same = refl; narrows = narrows }

  added_type : (ty : Ty) → AddedType f found m name.0 ty → ty ≡ Ty.Int v
  added_type ty (at_width u is) = ap Ty.Int (narrowed_one f (defines_once f printable) found m m name.0 u v is is_narrowed)
  added_type ty (not_narrowed none) = absurd (none v is_narrowed)

  pub fresh_typed : (k : ℕ) → k < 3 → name_type (rewritten f m) (m.fresh b i k) ≡ Ty.Int v
  fresh_typed k below =
      let is = marks.added.each name.0 k (result_below f printable b i block inst name left.line result) below in
      let e : m.fresh b i k ≡ length f.values + (3 * name.0 + k) = let e = fresh_is k in omega (arith, e) in
      ap type_at (get_behind f.values m.added (3 * name.0 + k) (m.fresh b i k) e ∙ is.stands) ∙ added_type is.ty is.is_type
