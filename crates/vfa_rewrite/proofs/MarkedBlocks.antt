-- The phis and terminators that marks leave are sound, and so are the marks.
use Rattle.std.proofs.Common.{◌≡◌, ◌≤◌, ℕ, zero, suc, ◌+◌, ◌++◌, true, false, Some, List, [], ◌∷◌, flat_map, length, slice_get, refl, sym, ◌∙◌, subst, inl, inr, ◌⊎◌, arith}
use Rattle.std.proofs.lemmas.List.Elements.{recursion_from_All}
use Rattle.std.proofs.lemmas.Option.{same_Some}
use Rattle.std.specs.List.{AllByRecursion}
use Rattle.vfa_ir.specs.declared.operations.BlockId.{BlockId}
use Rattle.vfa_ir.specs.declared.operations.Operand.{Operand}
use Rattle.vfa_ir.specs.declared.operations.Ty.{Ty}
use Rattle.vfa_ir.specs.declared.functions.Block.{Block}
use Rattle.vfa_ir.specs.declared.functions.Function.{Function}
use Rattle.vfa_ir.specs.declared.functions.Phi.{Phi}
use Rattle.vfa_ir.specs.declared.functions.Term.{Term}
use Rattle.vfa_ir.specs.Defined.{Defined, NameUse, UseIsDefined, operand_names, term_names, uses_at, phi_uses, inst_uses, block_uses, uses_from, line_count}
use Rattle.vfa_ir.specs.Printable.{IsPrintable, IsOperand, IsBlock, PrintablePhi, PrintableBlock, PrintableTerm}
use Rattle.vfa_ir.specs.Typed.{Typed, TypedBlock, TypedPhi, TypedTerm, IsOfType}
use Rattle.vfa_ir.specs.Walks.{IsDefinedAt}
use Rattle.vfa_ir.specs.Words.{is_in}
use Rattle.vfa_mean.specs.Moments.{Into, At}
use Rattle.vfa_mean.specs.Values.{AllowsValue, operand_value}
use Rattle.vfa_mean.proofs.FreshOperands.Definitions.{first_or_rest}
use Rattle.vfa_word.specs.Numbers.{IsWidth}
use Rattle.vfa_cond.specs.Conditions.{name_type}
use Rattle.vfa_cond.proofs.Fitting.{bit_width}
use Rattle.vfa_walk.proofs.TruthTypes.{written_width, each_of, phi_types}
use Rattle.vfa_rewrite.specs.Rewritten.{Marks, term_left}
use Rattle.vfa_rewrite.specs.Sound.{IsEntered, EntryIsSound, PhiIsSound, term_operand, TermIsSound, BlockIsSound}
use Rattle.vfa_rewrite.specs.Findings.{Findings, IsUsable, AreTrue}
use Rattle.vfa_rewrite.specs.Marks.{Becomes, IsPut, term_operands, next, by_end, by_phi, EntryIsMarked, BlockIsMarked, AreMarks}
use Rattle.vfa_rewrite.proofs.Becoming.{becomes_allows}
use Rattle.vfa_rewrite.proofs.MarkedLines.{usable_operand, line_is_sound}
use Rattle.vfa_rewrite.proofs.Operations.{kept_operand, put_stands, put_typed}
use Rattle.vfa_rewrite.proofs.Ranges.{phi_below, same_type}

-- ---- uses of phis and of terminators

all_left : (P : NameUse → Type 0) (xs ys : List NameUse) → AllByRecursion P (xs ++ ys) → AllByRecursion P xs
all_left P [] ys h = tt
all_left P (x ∷ xs) ys h = (h.0, all_left P xs ys h.1)

all_right : (P : NameUse → Type 0) (xs ys : List NameUse) → AllByRecursion P (xs ++ ys) → AllByRecursion P ys
all_right P [] ys h = h
all_right P (x ∷ xs) ys h = all_right P xs ys h.1

all_part : {A : Type 0} (P : NameUse → Type 0) (part : A → List NameUse) (xs : List A) (j : ℕ) (x : A) → slice_get xs j ≡ Some x →
    AllByRecursion P (flat_map part xs) → AllByRecursion P (part x)
all_part P part [] j x there h = absurd (cc)
all_part P part (y ∷ xs) zero x there h =
    subst (λ z. AllByRecursion P (part z)) (same_Some y x there) (all_left P (part y) (flat_map part xs) h)
all_part P part (y ∷ xs) (suc j) x there h = all_part P part xs j x there (all_right P (part y) (flat_map part xs) h)

abbrev use_of : ℕ → ℕ → ℕ → NameUse
use_of b n x = record { name = x; block = b; line = n }

named_use : (P : NameUse → Type 0) (b n : ℕ) (names : List ℕ) (x : ℕ) → AllByRecursion P (uses_at b n names) → is_in x names ≡ true → P (use_of b n x)
named_use P b n [] x h t = absurd (cc)
named_use P b n (y ∷ names) x h t = elim (first_or_rest x y names t) [
  | inl e ↦ subst (λ z. P (use_of b n z)) (sym e) h.0
  | inr u ↦ named_use P b n names x h.1 u
]

uses_of_block : (P : NameUse → Type 0) (f : Function) (n k : ℕ) (blocks : List Block) (b : ℕ) (block : Block) → k ≡ n + b →
    AllByRecursion P (uses_from f n blocks) → slice_get blocks b ≡ Some block → AllByRecursion P (block_uses f k block)
uses_of_block P f n k [] b block e h s = absurd (cc)
uses_of_block P f n k (c ∷ blocks) zero block e h s =
    let here = all_left P (block_uses f n c) (uses_from f (n + 1) blocks) h in
    let same : k ≡ n = omega (arith, e) in
    subst (λ j. AllByRecursion P (block_uses f j block)) (sym same) (subst (λ z. AllByRecursion P (block_uses f n z)) (same_Some c block s) here)
uses_of_block P f n k (c ∷ blocks) (suc b) block e h s =
    uses_of_block P f (n + 1) k blocks b block (omega (arith, e)) (all_right P (block_uses f n c) (uses_from f (n + 1) blocks) h) s

module _ (f : Function) (defined : Defined f) (b : ℕ) (block : Block) (there : slice_get f.blocks b ≡ Some block) where
  whole : AllByRecursion (UseIsDefined f) (block_uses f b block)
  whole = uses_of_block (UseIsDefined f) f 0 b f.blocks b block (omega arith) (recursion_from_All (UseIsDefined f) (uses_from f 0 f.blocks) defined) there

  -- an operand of a phi is defined at the end of its predecessor
  pub entry_defined : (j k : ℕ) (phi : Phi) (e : Operand × BlockId) (n : ℕ) → slice_get block.phis j ≡ Some phi → slice_get phi.entries k ≡ Some e →
      is_in n (operand_names e.0) ≡ true → IsDefinedAt f e.1.0 (line_count f e.1.0) n
  entry_defined j k phi e n phi_at entry_at t =
      let phis = all_left (UseIsDefined f) (flat_map (phi_uses f) block.phis) (inst_uses f b 0 block.insts ++ uses_at b (length block.insts) (term_names block.term)) whole in
      let of_phi = all_part (UseIsDefined f) (phi_uses f) block.phis j phi phi_at phis in
      let of_entry = all_part (UseIsDefined f) (λ (e : Operand × BlockId). uses_at e.1.0 (line_count f e.1.0) (operand_names e.0)) phi.entries k e entry_at of_phi in
      named_use (UseIsDefined f) e.1.0 (line_count f e.1.0) (operand_names e.0) n of_entry t

  pub term_defined : (n : ℕ) → is_in n (term_names block.term) ≡ true → IsDefinedAt f b (length block.insts) n
  term_defined n t =
      let later = all_right (UseIsDefined f) (flat_map (phi_uses f) block.phis) (inst_uses f b 0 block.insts ++ uses_at b (length block.insts) (term_names block.term)) whole in
      let of_term = all_right (UseIsDefined f) (inst_uses f b 0 block.insts) (uses_at b (length block.insts) (term_names block.term)) later in
      named_use (UseIsDefined f) b (length block.insts) (term_names block.term) n of_term t

-- a list by its elements
pub all_at : {A : Type 0} (P : A → Type 0) (xs : List A) → ((j : ℕ) (x : A) → slice_get xs j ≡ Some x → P x) → AllByRecursion P xs
all_at P [] h = tt
all_at P (x ∷ xs) h = (h 0 x refl, all_at P xs (λ j y e. h (suc j) y e))

pub at_all : {A : Type 0} (P : A → Type 0) (xs : List A) (j : ℕ) (x : A) → AllByRecursion P xs → slice_get xs j ≡ Some x → P x
at_all P [] j x h e = absurd (cc)
at_all P (y ∷ xs) zero x h e = subst P (same_Some y x e) h.0
at_all P (y ∷ xs) (suc j) x h e = at_all P xs j x h.1 e

module _ (f : Function) (printable : IsPrintable f) (typed : Typed f) (defined : Defined f) (b : ℕ) (block : Block) (there : slice_get f.blocks b ≡ Some block) where
  -- an operand of a phi may be used before the phis, where its block is entered from the entry's
  pub entry_usable : (j k : ℕ) (phi : Phi) (e : Operand × BlockId) → slice_get block.phis j ≡ Some phi → slice_get phi.entries k ≡ Some e →
      IsUsable f (Into (Some e.1.0) b) (Ty.Int phi.width) e.0
  entry_usable j k phi e phi_at entry_at =
      let prints = each_of (PrintablePhi f) block.phis j phi (each_of (PrintableBlock f) f.blocks b block printable.blocks there).phis phi_at in
      let range = (each_of (λ (e : Operand × BlockId). IsOperand f phi.width e.0 × IsBlock f e.1) phi.entries k e prints.entries entry_at).0 in
      let of_type = each_of (λ (e : Operand × BlockId). IsOfType f (Ty.Int phi.width) e.0) phi.entries k e
      (each_of (TypedPhi f) block.phis j phi (each_of (TypedBlock f) f.blocks b block typed there).phis phi_at) entry_at in
      usable_operand f (Into (Some e.1.0) b) phi.width e.0 (written_width phi.width prints.width) of_type range (λ n t. entry_defined f defined b block there j k phi e n phi_at entry_at t)

module _ (f : Function) (printable : IsPrintable f) (typed : Typed f) (defined : Defined f) (found : Findings) (holds : AreTrue f found) (m : Marks) (marks : AreMarks f found m) where
  module _ (b : ℕ) (block : Block) (there : slice_get f.blocks b ≡ Some block) (reached : m.reached b ≡ true) where
    pub own : BlockIsMarked f found m b block
    own = marks.blocks b block there reached

    pub printed : PrintableBlock f block
    printed = each_of (PrintableBlock f) f.blocks b block printable.blocks there

    pub is_typed : TypedBlock f block
    is_typed = each_of (TypedBlock f) f.blocks b block typed there

    -- ---- phis

    pub entry_becomes : (j k : ℕ) (phi : Phi) (e : Operand × BlockId) → slice_get block.phis j ≡ Some phi → slice_get phi.entries k ≡ Some e → IsEntered f m b e.1.0 →
        Becomes f found (Into (Some e.1.0) b) (Ty.Int phi.width) e.0 (m.put (Into (Some e.1.0) b) e.0)
    entry_becomes j k phi e phi_at entry_at entered =
        (at_all (EntryIsMarked f found m b phi.width) phi.entries k e
        (at_all (λ (phi : Phi). AllByRecursion (EntryIsMarked f found m b phi.width) phi.entries) block.phis j phi own.phis phi_at) entry_at).put entered

    entry_sound : (j k : ℕ) (phi : Phi) (e : Operand × BlockId) → slice_get block.phis j ≡ Some phi → slice_get phi.entries k ≡ Some e → m.met b 0 ≡ true →
        m.keeps phi.result.0 ≡ true → EntryIsSound f m b phi.width e
    entry_sound j k phi e phi_at entry_at met kept entered =
        let usable = entry_usable f printable typed defined b block there j k phi e phi_at entry_at in
        let becomes = entry_becomes j k phi e phi_at entry_at entered in
        let put = m.put (Into (Some e.1.0) b) e.0 in
        let name_kept : (n : ℕ) → is_in n (operand_names put) ≡ true → m.keeps n ≡ true =
        λ n t. (marks.keeps n).1 (by_phi b block j phi k e n there reached met phi_at ((marks.keeps phi.result.0).0 kept) entry_at entered t) in
        record {
          stands = put_stands f printable defined found holds m (Into (Some e.1.0) b) (Ty.Int phi.width) e.0 put usable becomes (kept_operand m put name_kept);
          typed = put_typed f printable defined found holds m (Into (Some e.1.0) b) (Ty.Int phi.width) e.0 put usable becomes;
        }

    pub phi_sound : m.met b 0 ≡ true → (j : ℕ) (phi : Phi) → slice_get block.phis j ≡ Some phi → PhiIsSound f m b phi
    phi_sound met j phi phi_at kept = record {
      typed = same_type f m phi.result.0 (phi_below f printable b j block phi there phi_at)
          ∙ at_all (λ (p : Phi). name_type f p.result.0 ≡ Ty.Int p.width) block.phis j phi (phi_types f printable b block there) phi_at;
      entries = all_at (EntryIsSound f m b phi.width) phi.entries (λ k e entry_at. entry_sound j k phi e phi_at entry_at met kept);
    }

    -- ---- terminators

    -- a terminator that reads an operand of a width
    operand_usable : (w : ℕ) (a : Operand) → IsWidth w → IsOfType f (Ty.Int w) a → IsOperand f w a → ((n : ℕ) → is_in n (operand_names a) ≡ true → is_in n (term_names block.term) ≡ true) →
        IsUsable f (At b (length block.insts)) (Ty.Int w) a
    operand_usable w a width of_type range names = usable_operand f (At b (length block.insts)) w a width of_type range (λ n t. term_defined f defined b block there n (names n t))

    pub record Reads (a a' : Operand) : Type 0 where
      pub width : ℕ
      pub usable : IsUsable f (At b (length block.insts)) (Ty.Int width) a
      pub becomes : Becomes f found (At b (length block.insts)) (Ty.Int width) a a'

    reads : (term : Term) → (put : Operand → Operand) → TypedTerm f term → PrintableTerm f term → ((n : ℕ) → is_in n (term_names term) ≡ true → is_in n (term_names block.term) ≡ true) →
        AllByRecursion (IsPut f found (At b (length block.insts)) put) (term_operands term) → (term_operands term ≡ []) ⊎ Reads (term_operand term) (put (term_operand term))
    reads (Term.Ret w a) put of_type range names is = inr (record { width = w; usable = operand_usable w a (written_width w range.0) of_type.1 range.1 names; becomes = is.0 })
    reads (Term.Br to) put of_type range names is = inl refl
    reads (Term.CondBr c taken fallen) put of_type range names is = inr (record { width = 1; usable = operand_usable 1 c bit_width of_type range.0 names; becomes = is.0 })
    reads (Term.Switch w on other cases) put of_type range names is = inr (record { width = w; usable = operand_usable w on (written_width w range.0) of_type.0 range.1 names; becomes = is.0 })
    reads Term.Unreachable put of_type range names is = inl refl

    pub term_reads : m.met b (length block.insts) ≡ true →
        (term_operands block.term ≡ []) ⊎ Reads (term_operand block.term) (m.put (At b (length block.insts)) (term_operand block.term))
    term_reads met = reads block.term (m.put (At b (length block.insts))) is_typed.terminator printed.term (λ n t. t) (own.term met)

    operand_name : (term : Term) (n : ℕ) → is_in n (operand_names (term_operand term)) ≡ true → is_in n (term_names term) ≡ true
    operand_name (Term.Ret w a) n t = t
    operand_name (Term.Br to) n t = t
    operand_name (Term.CondBr c taken fallen) n t = t
    operand_name (Term.Switch w on other cases) n t = t
    operand_name Term.Unreachable n t = t

    nothing_read : (term : Term) → term_operands term ≡ [] → term_operand term ≡ Operand.Poison
    nothing_read (Term.Ret w a) none = absurd (cc)
    nothing_read (Term.Br to) none = refl
    nothing_read (Term.CondBr c taken fallen) none = absurd (cc)
    nothing_read (Term.Switch w on other cases) none = absurd (cc)
    nothing_read Term.Unreachable none = refl

    term_sound : m.met b (length block.insts) ≡ true → TermIsSound f m b block
    term_sound met = record {
      allows = λ env moment. elim (term_reads met) [
        | inl none ↦ subst (λ a. AllowsValue (operand_value env a) (operand_value env (m.put (At b (length block.insts)) (term_operand block.term)))) (sym (nothing_read block.term none)) tt
        | inr r ↦ becomes_allows f printable defined found holds (At b (length block.insts)) (Ty.Int r.width) (term_operand block.term)
            (m.put (At b (length block.insts)) (term_operand block.term)) r.becomes r.usable env moment
      ];
      kept = kept_operand m (term_operand (term_left m b block)) (λ n t. (marks.keeps n).1 (by_end b block n there reached (operand_name (term_left m b block) n t)));
    }

    pub block_sound : ((n : ℕ) → length f.values ≤ n → m.keeps n ≡ false) → BlockIsSound f m b block
    block_sound unused = record {
      phis = λ met. all_at (PhiIsSound f m b) block.phis (phi_sound met);
      lines = λ i inst stands met. line_is_sound f printable typed defined found holds m marks unused b block i inst
          (record { line = record { there = there; stands = stands }; reached = reached; met = met });
      term = term_sound;
      targets = λ k to leads left. (marks.reached to.0).1 (next b block k to ((marks.reached b).0 reached) there leads (sym (marks.left b k) ∙ left));
    }
