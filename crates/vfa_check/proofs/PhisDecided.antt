-- Whether the phis of a function fit its edges is decided; where they do not, there is a first block whose phis do not fit.
use Rattle.std.proofs.Common.{◌≡◌, ◌∙◌, ◌⊎◌, inl, inr, ℕ, suc, ◌+◌, ◌<◌, ◌≤◌, cond, eqb, [], ◌∷◌, length, All, Option, Some, None, IfSome, refl, sym, ap, arith, zero-add, count_by}
use Rattle.std.proofs.lemmas.Bool.{cases_eq, cases_lt, ne_eqb}
use Rattle.std.proofs.lemmas.List.Sums.{sum_by-cons}
use Rattle.std.proofs.lemmas.Option.{slice_get_past}
use Rattle.std.specs.List.{slice_get}
use Rattle.vfa_ir.specs.declared.operations.BlockId.{BlockId}
use Rattle.vfa_ir.specs.declared.operations.Operand.{Operand}
use Rattle.vfa_ir.specs.declared.operations.ValueId.{ValueId}
use Rattle.vfa_ir.specs.declared.functions.Block.{Block}
use Rattle.vfa_ir.specs.declared.functions.Function.{Function}
use Rattle.vfa_ir.specs.declared.functions.Phi.{Phi}
use Rattle.vfa_ir.specs.PhisFit.{HasNoEdgeTo, PhiFits, PhisFit, PhisFitIn, edge_count, targets}
use Rattle.vfa_check.specs.Misfit.{FirstMisfit}
use Rattle.vfa_check.specs.Predecessors.{Entries, HasOneOperand, times_named}
use Rattle.vfa_check.proofs.Decided.{Decided, FirstBelow, below_or_first, decided_all, decided_as, decided_below, decided_both, decided_pairs, decided_implies}

-- operands

abbrev value_at : ℕ → ValueId
value_at n = record { 0 = n }

abbrev block_at : ℕ → BlockId
block_at n = record { 0 = n }

same_value : (v w : ValueId) → Decided (v ≡ w)
same_value v w = decided_as (v.0 ≡ w.0) (v ≡ w) (ap value_at) (ap (λ (x : ValueId). x.0)) (cases_eq v.0 w.0)

same_block : (b c : BlockId) → Decided (b ≡ c)
same_block b c = decided_as (b.0 ≡ c.0) (b ≡ c) (ap block_at) (ap (λ (x : BlockId). x.0)) (cases_eq b.0 c.0)

same_operand : (a b : Operand) → Decided (a ≡ b)
same_operand (Operand.Value v) (Operand.Value w) =
    decided_as (v ≡ w) (Operand.Value v ≡ Operand.Value w) (ap (λ (x : ValueId). Operand.Value x)) (λ e. cc) (same_value v w)
same_operand (Operand.Literal m) (Operand.Literal n) =
    decided_as (m ≡ n) (Operand.Literal m ≡ Operand.Literal n) (ap (λ (x : ℕ). Operand.Literal x)) (λ e. cc) (cases_eq m n)
same_operand Operand.Poison Operand.Poison = inl refl
same_operand (Operand.Value _) (Operand.Literal _) = inr (λ e. cc)
same_operand (Operand.Value _) Operand.Poison = inr (λ e. cc)
same_operand (Operand.Literal _) (Operand.Value _) = inr (λ e. cc)
same_operand (Operand.Literal _) Operand.Poison = inr (λ e. cc)
same_operand Operand.Poison (Operand.Value _) = inr (λ e. cc)
same_operand Operand.Poison (Operand.Literal _) = inr (λ e. cc)

one_operand : (entries : Entries) → Decided (HasOneOperand entries)
one_operand =
    decided_pairs (λ (d e : Operand × BlockId). d.1 ≡ e.1 → d.0 ≡ e.0)
    (λ d e. decided_implies (d.1 ≡ e.1) (d.0 ≡ e.0) (same_block d.1 e.1) (same_operand d.0 e.0))

-- beyond a bound no block is named, and no edge leaves

abbrev past : Entries → ℕ
past [] = 0
past (e ∷ entries) = suc e.1.0 + past entries

named_past : (entries : Entries) (b : ℕ) → past entries ≤ b → times_named b entries ≡ 0
named_past [] b h = refl
named_past (e ∷ entries) b h =
    sum_by-cons (λ (x : Operand × BlockId). cond (eqb x.1.0 b) 1 0) e entries
    ∙ ap (λ t. cond t 1 0 + times_named b entries) (ne_eqb e.1.0 b (λ same. absurd (omega arith)))
    ∙ zero-add (times_named b entries) ∙ named_past entries b (omega arith)

leave_past : (f : Function) (from to : ℕ) → length f.blocks ≤ from → edge_count f from to ≡ 0
leave_past f from to h =
    ap (λ (o : Option Block). elim o [ None ↦ 0 | Some b ↦ count_by (λ (t : BlockId). eqb t.0 to) (targets b.term) ]) (slice_get_past f.blocks from h)

-- what holds of each number from a bound on is decided by the numbers below it
from_below : (P : ℕ → Type 0) (n : ℕ) → ((k : ℕ) → Decided (P k)) → ((k : ℕ) → n ≤ k → P k) → Decided ((k : ℕ) → P k)
from_below P n each beyond = decided_as ((k : ℕ) → k < n → P k) ((k : ℕ) → P k) (λ h k. at h k (cases_lt k n)) (λ h k less. h k) (decided_below P each n)
  where
    at : ((k : ℕ) → k < n → P k) → (k : ℕ) → (k < n) ⊎ (n ≤ k) → P k
    at h k (inl l) = h k l
    at h k (inr l) = beyond k l

each_edge : (f : Function) (block : ℕ) (entries : Entries) → Decided ((from : ℕ) → times_named from entries ≡ edge_count f from block)
each_edge f block entries =
    from_below (λ from. times_named from entries ≡ edge_count f from block) (length f.blocks + past entries)
    (λ from. cases_eq (times_named from entries) (edge_count f from block))
    (λ from h. named_past entries from (omega arith) ∙ sym (leave_past f from block (omega arith)))

no_edge_to : (f : Function) (block : ℕ) → Decided (HasNoEdgeTo f block)
no_edge_to f block =
    from_below (λ from. edge_count f from block ≡ 0) (length f.blocks) (λ from. cases_eq (edge_count f from block) 0) (λ from h. leave_past f from block h)

-- blocks

phi_fits : (f : Function) (block : ℕ) (p : Phi) → Decided (PhiFits f block p)
phi_fits f block p =
    decided_as (((from : ℕ) → times_named from p.entries ≡ edge_count f from block) × HasOneOperand p.entries) (PhiFits f block p)
    (λ h. record { each_edge = h.0; one_operand = h.1 }) (λ h. (h.each_edge, h.one_operand))
    (decided_both ((from : ℕ) → times_named from p.entries ≡ edge_count f from block) (HasOneOperand p.entries)
    (each_edge f block p.entries) (one_operand p.entries))

phis_of : (f : Function) (block : ℕ) (o : Option Block) → Decided (IfSome o (λ b. All (PhiFits f block) b.phis))
phis_of f block None = inl tt
phis_of f block (Some b) = decided_all (PhiFits f block) (phi_fits f block) b.phis

fit_in : (f : Function) (block : ℕ) → Decided (PhisFitIn f block)
fit_in f block =
    let phis : Type 0 = IfSome (slice_get f.blocks block) (λ b. All (PhiFits f block) b.phis) in
    let entry : Type 0 = block ≡ 0 → HasNoEdgeTo f block in
    decided_as (phis × entry) (PhisFitIn f block) (λ h. record { phis = h.0; entry = h.1 }) (λ h. (h.phis, h.entry))
    (decided_both phis entry (phis_of f block (slice_get f.blocks block))
    (decided_implies (block ≡ 0) (HasNoEdgeTo f block) (cases_eq block 0) (no_edge_to f block)))

pub fit_or_misfit : (f : Function) → PhisFit f ⊎ ((block : ℕ) × FirstMisfit f block)
fit_or_misfit f = at (below_or_first (PhisFitIn f) (fit_in f) (length f.blocks))
  where
    at : PhisFit f ⊎ FirstBelow (PhisFitIn f) (length f.blocks) → PhisFit f ⊎ ((block : ℕ) × FirstMisfit f block)
    at (inl fits) = inl fits
    at (inr r) = inr (r.first, record { within = r.within; before = r.before; here = r.fails })
