-- The phis that are left: as many entries of a predecessor as edges from it are left, with operands that may be used.
use Rattle.std.proofs.Common.{◌≡◌, ◌<◌, ◌≤◌, ℕ, zero, suc, ◌-◌, Bool, true, false, nat_eq, if◌then◌else◌, All, Some, List, [], ◌∷◌, length, slice_get, refl, sym, ap, ◌∙◌, subst, inl, inr, arith}
use Rattle.std.specs.Prelude.{slice_index_or, AllPairs, IfSome}
use Rattle.std.specs.List.{AllByRecursion}
use Rattle.std.proofs.lemmas.Bool.{eqb-true, eqb-false, ne_eqb, eq-eqb, cases_lt}
use Rattle.std.proofs.lemmas.List.Elements.{All-from_recursion}
use Rattle.std.proofs.lemmas.Option.{same_Some}
use Rattle.vfa_ir.specs.declared.operations.BlockId.{BlockId}
use Rattle.vfa_ir.specs.declared.operations.Operand.{Operand}
use Rattle.vfa_ir.specs.declared.operations.Ty.{Ty}
use Rattle.vfa_ir.specs.declared.functions.Block.{Block}
use Rattle.vfa_ir.specs.declared.functions.Function.{Function}
use Rattle.vfa_ir.specs.declared.functions.Phi.{Phi}
use Rattle.vfa_ir.specs.PhisFit.{PhiFits}
use Rattle.vfa_ir.specs.Printable.{IsOperand, IsBlock, PrintablePhi, PrintableBlock}
use Rattle.vfa_ir.specs.Typed.{TypedPhi, TypedBlock, IsOfType}
use Rattle.vfa_ir.specs.Walks.{IsWalk}
use Rattle.vfa_ir.specs.Words.{is_in}
use Rattle.vfa_mean.specs.Moments.{Into}
use Rattle.vfa_mean.specs.Numbering.{kept_numbers, KeptPhiFits}
use Rattle.vfa_mean.specs.Outcomes.{first_block}
use Rattle.vfa_mean.proofs.KeptParts.{number_kept}
use Rattle.vfa_walk.proofs.TruthTypes.{each_of}
use Rattle.vfa_rewrite.specs.Findings.{Findings, IsUsable}
use Rattle.vfa_rewrite.specs.Marks.{EntryIsMarked}
use Rattle.vfa_rewrite.specs.Rewritten.{Marks, edge_to, edges_of, one_fewer, if_counted, entries_left, phi_left, rewritten}
use Rattle.vfa_rewrite.proofs.BlocksLeft.{from_get}
use Rattle.vfa_rewrite.proofs.EdgesLeft.{edge_left, edges_count, no_more_edges, edge_is_counted, walk_to}
use Rattle.vfa_rewrite.proofs.LeftLines.{Known}
use Rattle.vfa_rewrite.proofs.MarkedBlocks.{entry_usable, at_all}
use Rattle.vfa_rewrite.proofs.PutOperands.{becomes_usable, operand_left_typed, operand_left_range}
use Rattle.vfa_rewrite.proofs.TargetsLeft.{tally, count_is, blocks_count}

abbrev Entry : Type 0
Entry = Operand × BlockId

abbrev is_of : ℕ → Entry → Bool
is_of p e = nat_eq e.1.0 p

pub get_within : {A : Type 0} (xs : List A) (i : ℕ) (x : A) → slice_get xs i ≡ Some x → i < length xs
get_within [] i x e = absurd (cc)
get_within (y ∷ xs) zero x e = omega arith
get_within (y ∷ xs) (suc i) x e = let l = get_within xs i x e in omega (arith, l)

get_index : {A : Type 0} (xs : List A) (i : ℕ) (d : A) → i < length xs → slice_get xs i ≡ Some (slice_index_or xs i d)
get_index [] i d l = absurd (omega (arith, l))
get_index (x ∷ xs) zero d l = refl
get_index (x ∷ xs) (suc i) d l = get_index xs i d (omega (arith, l))

-- any two entries of one block have one operand
abbrev pub HasOneOperand : List Entry → Type 0
HasOneOperand es = (i j : ℕ) (d e : Entry) → slice_get es i ≡ Some d → slice_get es j ≡ Some e → d.1 ≡ e.1 → d.0 ≡ e.0

pub one_of_pairs : (es : List (Operand × BlockId)) → AllPairs (λ (d e : Operand × BlockId). d.1 ≡ e.1 → d.0 ≡ e.0) es → HasOneOperand es
one_of_pairs es pairs i j d e at_i at_j same = elim (cases_lt i j) [
  | inl l ↦ ordered i j d e at_i at_j l same
  | inr l ↦ elim (cases_lt j i) [
    | inl k ↦ sym (ordered j i e d at_j at_i k (sym same))
    | inr k ↦ let one : i ≡ j = omega (arith, l, k) in ap (λ (x : Entry). x.0) (same_Some d e (sym at_i ∙ ap (slice_get es) one ∙ at_j))
  ]
]
  where
    index_is : (i : ℕ) (d x : Operand × BlockId) → slice_get es i ≡ Some d → slice_index_or es i x ≡ d
    index_is i d x e = same_Some (slice_index_or es i x) d (sym (get_index es i x (get_within es i d e)) ∙ e)

    ordered : (i j : ℕ) (d e : Operand × BlockId) → slice_get es i ≡ Some d → slice_get es j ≡ Some e → i < j → d.1 ≡ e.1 → d.0 ≡ e.0
    ordered i j d e at_i at_j l same =
        let first = index_is i d d at_i in
        let second = index_is j e d at_j in
        ap (λ (x : Entry). x.0) (sym first)
        ∙ pairs i j d l (get_within es j e at_j) (ap (λ (x : Entry). x.1) first ∙ same ∙ ap (λ (x : Entry). x.1) (sym second))
        ∙ ap (λ (x : Entry). x.0) second

pairs_of_one : (es : List (Operand × BlockId)) → HasOneOperand es → AllPairs (λ (d e : Operand × BlockId). d.1 ≡ e.1 → d.0 ≡ e.0) es
pairs_of_one es one i j d before inside same =
    one i j (slice_index_or es i d) (slice_index_or es j d) (get_index es i d (omega (arith, before, inside))) (get_index es j d inside) same

pub fewer_elsewhere : (count : ℕ → ℕ) (p q : ℕ) → nat_eq q p ≡ false → one_fewer count p q ≡ count q
fewer_elsewhere count p q e = ap (λ t. if t then count q - 1 else count q) e

fewer_here : (count : ℕ → ℕ) (p : ℕ) → one_fewer count p p ≡ count p - 1
fewer_here count p = ap (λ t. if t then count p - 1 else count p) (eq-eqb p p refl)

module _ (f : Function) (m : Marks) (b : ℕ) where
  -- ---- entries that are left

  pub record IsEntryLeft (es : List (Operand × BlockId)) (count : ℕ → ℕ) (e' : Operand × BlockId) : Type 0 where
    pub place : ℕ
    pub from : Operand × BlockId
    pub there : slice_get es place ≡ Some from
    pub is : (m.put (Into (Some from.1.0) b) from.0, from.1) ≡ e'
    pub counted : count from.1.0 ≡ 0 → ⊥

  pub entry_from_left : (es : List (Operand × BlockId)) (count : ℕ → ℕ) (j : ℕ) (e' : Operand × BlockId) → slice_get (entries_left m b es count) j ≡ Some e' → IsEntryLeft es count e'
  entry_from_left [] count j e' at = absurd (cc)
  entry_from_left (e ∷ rest) count j e' at = by (count e.1.0) refl j at (λ later k h. entry_from_left rest later k e' h)
    where
      behind : (later : ℕ → ℕ) → ((q : ℕ) → later q ≤ count q) → IsEntryLeft rest later e' → IsEntryLeft (e ∷ rest) count e'
      behind later less r = record { place = suc r.place; from = r.from; there = r.there; is = r.is; counted = λ z. r.counted (let l = less r.from.1.0 in omega (arith, l, z)) }

      fewer : (p q : ℕ) → one_fewer count p q ≤ count q
      fewer p q = of (nat_eq q p)
        where
          of : (t : Bool) → (if t then count q - 1 else count q) ≤ count q
          of true = omega arith
          of false = omega arith

      by : (n : ℕ) → count e.1.0 ≡ n → (j : ℕ) →
          slice_get (if_counted n ((m.put (Into (Some e.1.0) b) e.0, e.1) ∷ entries_left m b rest (one_fewer count e.1.0)) (entries_left m b rest count)) j ≡ Some e' →
          ((later : ℕ → ℕ) (k : ℕ) → slice_get (entries_left m b rest later) k ≡ Some e' → IsEntryLeft rest later e') → IsEntryLeft (e ∷ rest) count e'
      by zero n j at again = behind count (λ q. omega arith) (again count j at)
      by (suc n) c zero at again = record { place = 0; from = e; there = refl; is = same_Some (m.put (Into (Some e.1.0) b) e.0, e.1) e' at; counted = λ z. let s : suc n ≡ 0 = sym c ∙ z in omega (arith, s) }
      by (suc n) c (suc j) at again = behind (one_fewer count e.1.0) (fewer e.1.0) (again (one_fewer count e.1.0) j at)

  pub entries_tally : (p : ℕ) (es : List (Operand × BlockId)) (count : ℕ → ℕ) → count p ≤ tally (is_of p) es → tally (is_of p) (entries_left m b es count) ≡ count p
  entries_tally p [] count l = omega (arith, l)
  entries_tally p (e ∷ rest) count l = by (count e.1.0) refl (nat_eq e.1.0 p) refl l (λ later h. entries_tally p rest later h)
    where
      by : (n : ℕ) → count e.1.0 ≡ n → (t : Bool) → nat_eq e.1.0 p ≡ t → count p ≤ edge_to true t (tally (is_of p) rest) →
          ((later : ℕ → ℕ) → later p ≤ tally (is_of p) rest → tally (is_of p) (entries_left m b rest later) ≡ later p) →
          tally (is_of p) (if_counted n ((m.put (Into (Some e.1.0) b) e.0, e.1) ∷ entries_left m b rest (one_fewer count e.1.0)) (entries_left m b rest count)) ≡ count p
      by zero c true t l again = let none : count p ≡ 0 = ap count (sym (eqb-true e.1.0 p t)) ∙ c in again count (omega (arith, none))
      by zero c false t l again = again count l
      by (suc n) c true t l again =
          let same : e.1.0 ≡ p = eqb-true e.1.0 p t in
          let some : count p ≡ suc n = ap count (sym same) ∙ c in
          let less : one_fewer count e.1.0 p ≡ count p - 1 = ap (λ q. one_fewer count q p) same ∙ fewer_here count p in
          let later = again (one_fewer count e.1.0) (omega (arith, some, less, l)) in
          ap (λ s. edge_to true s (tally (is_of p) (entries_left m b rest (one_fewer count e.1.0)))) t ∙ (omega (arith, some, less, later))
      by (suc n) c false t l again =
          let apart = ne_eqb p e.1.0 (λ same. eqb-false e.1.0 p t (sym same)) in
          let same : one_fewer count e.1.0 p ≡ count p = fewer_elsewhere count e.1.0 p apart in
          let later = again (one_fewer count e.1.0) (omega (arith, same, l)) in
          ap (λ s. edge_to true s (tally (is_of p) (entries_left m b rest (one_fewer count e.1.0)))) t ∙ later ∙ same

  entries_one : (es : List (Operand × BlockId)) (count : ℕ → ℕ) → HasOneOperand es → HasOneOperand (entries_left m b es count)
  entries_one es count one i j d e at_i at_j same =
      let first = entry_from_left es count i d at_i in
      let second = entry_from_left es count j e at_j in
      let blocks : first.from.1 ≡ second.from.1 = ap (λ (x : Entry). x.1) first.is ∙ same ∙ ap (λ (x : Entry). x.1) (sym second.is) in
      let operands : first.from.0 ≡ second.from.0 = one first.place second.place first.from second.from first.there second.there blocks in
      ap (λ (x : Entry). x.0) (sym first.is)
      ∙ ap (λ (c : BlockId). m.put (Into (Some c.0) b) first.from.0) blocks ∙ ap (m.put (Into (Some second.from.1.0) b)) operands
      ∙ ap (λ (x : Entry). x.0) second.is

module _ (f : Function) (found : Findings) (m : Marks) (known : Known f found m) (b : ℕ) (block : Block) (there : slice_get f.blocks b ≡ Some block) (reached : m.reached b ≡ true) where
  old_block : PrintableBlock f block
  old_block = each_of (PrintableBlock f) f.blocks b block known.printable.blocks there

  typed_block : TypedBlock f block
  typed_block = each_of (TypedBlock f) f.blocks b block known.typed there

  module _ (j : ℕ) (phi : Phi) (stands : slice_get block.phis j ≡ Some phi) where
    old_phi : PrintablePhi f phi
    old_phi = each_of (PrintablePhi f) block.phis j phi old_block.phis stands

    old_fit : PhiFits f b phi
    old_fit = each_of (PhiFits f b) block.phis j phi (subst (λ o. IfSome o (λ (c : Block). All (PhiFits f b) c.phis)) there (known.phis b (get_within f.blocks b block there)).phis) stands

    pub entry_left_usable : (k : ℕ) (e : Operand × BlockId) → slice_get phi.entries k ≡ Some e → (edges_of f m b e.1.0 ≡ 0 → ⊥) →
        IsUsable f (Into (Some e.1.0) b) (Ty.Int phi.width) (m.put (Into (Some e.1.0) b) e.0)
    entry_left_usable k e at entered =
        let usable = entry_usable f known.printable known.typed known.defined b block there j k phi e stands at in
        let marked = (at_all (EntryIsMarked f found m b phi.width) phi.entries k e
        (at_all (λ (phi : Phi). AllByRecursion (EntryIsMarked f found m b phi.width) phi.entries) block.phis j phi (known.marks.blocks b block there reached).phis stands) at).put entered in
        becomes_usable f known.printable known.defined found known.fits (Into (Some e.1.0) b) (Ty.Int phi.width) e.0 (m.put (Into (Some e.1.0) b) e.0) marked usable

    left_entry_typed : (k : ℕ) (e' : Operand × BlockId) → slice_get (entries_left m b phi.entries (edges_of f m b)) k ≡ Some e' → IsOfType (rewritten f m) (Ty.Int phi.width) e'.0
    left_entry_typed k e' at =
        let l = entry_from_left f m b phi.entries (edges_of f m b) k e' at in
        subst (λ (x : Operand × BlockId). IsOfType (rewritten f m) (Ty.Int phi.width) x.0) l.is
        (operand_left_typed f m (Ty.Int phi.width) (m.put (Into (Some l.from.1.0) b) l.from.0) (entry_left_usable l.place l.from l.there l.counted).typed)

    pub phi_left_typed : TypedPhi (rewritten f m) (phi_left f m b phi)
    phi_left_typed = All-from_recursion (λ (e : Operand × BlockId). IsOfType (rewritten f m) (Ty.Int phi.width) e.0) (entries_left m b phi.entries (edges_of f m b))
        (from_get (λ (e : Operand × BlockId). IsOfType (rewritten f m) (Ty.Int phi.width) e.0) (entries_left m b phi.entries (edges_of f m b)) left_entry_typed)

    left_entry_printable : (k : ℕ) (e' : Operand × BlockId) → slice_get (entries_left m b phi.entries (edges_of f m b)) k ≡ Some e' →
        IsOperand (rewritten f m) phi.width e'.0 × IsBlock (rewritten f m) e'.1
    left_entry_printable k e' at =
        let l = entry_from_left f m b phi.entries (edges_of f m b) k e' at in
        let below = (each_of (λ (e : Operand × BlockId). IsOperand f phi.width e.0 × IsBlock f e.1) phi.entries l.place l.from old_phi.entries l.there).1 in
        subst (λ (x : Operand × BlockId). IsOperand (rewritten f m) phi.width x.0 × IsBlock (rewritten f m) x.1) l.is (
          operand_left_range f m phi.width (m.put (Into (Some l.from.1.0) b) l.from.0) (entry_left_usable l.place l.from l.there l.counted).typed,
          subst (λ n. l.from.1.0 < n) (sym (blocks_count f m)) below,
        )

    counts : (p : ℕ) → tally (is_of p) (entries_left m b phi.entries (edges_of f m b)) ≡ edges_of f m b p
    counts p =
        let most = no_more_edges f found m known p b in
        let count = sym (count_is (is_of p) phi.entries) ∙ old_fit.each_edge p in
        entries_tally f m b p phi.entries (edges_of f m b) (omega (arith, most, count))

    -- some edge leads to the block, since the phi has an entry
    not_first : b ≡ first_block → ⊥
    not_first e = old_phi.some (none phi.entries refl)
      where
        no_entry : (d : Entry) (es : List (Operand × BlockId)) → phi.entries ≡ d ∷ es → tally (is_of d.1.0) phi.entries ≡ 0 → ⊥
        no_entry d es is z =
            let some : tally (is_of d.1.0) phi.entries ≡ suc (tally (is_of d.1.0) es) =
            ap (tally (is_of d.1.0)) is ∙ ap (λ t. edge_to true t (tally (is_of d.1.0) es)) (eq-eqb d.1.0 d.1.0 refl) in
            omega (arith, some, z)

        none : (es : List (Operand × BlockId)) → phi.entries ≡ es → phi.entries ≡ []
        none [] is = is
        none (d ∷ es) is = absurd (no_entry d es is (sym (count_is (is_of d.1.0) phi.entries) ∙ old_fit.each_edge d.1.0
            ∙ (known.phis b (get_within f.blocks b block there)).entry e d.1.0))

    entered : (p : ℕ) × (edges_of f m b p ≡ 0 → ⊥)
    entered = let w = walk_to f found m known b reached in by w.passed w.walk
      where
        by : (passed : List ℕ) → IsWalk (rewritten f m) (b ∷ passed) → (p : ℕ) × (edges_of f m b p ≡ 0 → ⊥)
        by [] h = absurd (not_first h)
        by (p ∷ rest) h = (p, λ z. edge_is_counted (rewritten f m) p b h.0 (edges_count f found m known p b ∙ z))

    pub phi_left_printable : PrintablePhi (rewritten f m) (phi_left f m b phi)
    phi_left_printable = record {
      width = old_phi.width;
      some = λ none. entered.1 (sym (counts entered.0) ∙ ap (tally (is_of entered.0)) none);
      entries = All-from_recursion (λ (e : Operand × BlockId). IsOperand (rewritten f m) phi.width e.0 × IsBlock (rewritten f m) e.1) (entries_left m b phi.entries (edges_of f m b))
          (from_get (λ (e : Operand × BlockId). IsOperand (rewritten f m) phi.width e.0 × IsBlock (rewritten f m) e.1) (entries_left m b phi.entries (edges_of f m b)) left_entry_printable);
    }

    left_entry_kept : (k : ℕ) (e' : Operand × BlockId) → slice_get (entries_left m b phi.entries (edges_of f m b)) k ≡ Some e' → is_in e'.1.0 (kept_numbers (rewritten f m) m.reached) ≡ true
    left_entry_kept k e' at =
        let l = entry_from_left f m b phi.entries (edges_of f m b) k e' at in
        let edge = edge_left f found m known l.from.1.0 b l.counted in
        subst (λ (x : Operand × BlockId). is_in x.1.0 (kept_numbers (rewritten f m) m.reached) ≡ true) l.is
        (number_kept (rewritten f m) m.reached l.from.1.0 edge.reached (subst (λ n. l.from.1.0 < n) (sym (blocks_count f m)) (get_within f.blocks l.from.1.0 edge.block edge.there)))

    pub phi_left_fits : KeptPhiFits (rewritten f m) m.reached b (phi_left f m b phi)
    phi_left_fits = record {
      kept = All-from_recursion (λ (e : Operand × BlockId). is_in e.1.0 (kept_numbers (rewritten f m) m.reached) ≡ true) (entries_left m b phi.entries (edges_of f m b))
          (from_get (λ (e : Operand × BlockId). is_in e.1.0 (kept_numbers (rewritten f m) m.reached) ≡ true) (entries_left m b phi.entries (edges_of f m b)) left_entry_kept);
      each_edge = λ from kept. count_is (is_of from) (entries_left m b phi.entries (edges_of f m b)) ∙ counts from ∙ sym (edges_count f found m known from b);
      one_operand = pairs_of_one (entries_left m b phi.entries (edges_of f m b)) (entries_one f m b phi.entries (edges_of f m b) (one_of_pairs phi.entries old_fit.one_operand));
    }
