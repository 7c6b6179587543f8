-- The parts of a function whose tree fits and whose uses are known.
use Rattle.std.proofs.Common.{◌≡◌, ℕ, suc, ◌+◌, ◌<◌, ◌^◌, ◌||◌, Bool, true, false, ℤ, pos, negsuc, ◌<ℤ◌, List, [], ◌∷◌, ◌++◌, length, map, flat_map, IsTrue, if◌then◌else◌, Option, Some, None, option_map, bytes_eq, codes, refl, sym, subst, arith, pow_pos, true≢false}
use Rattle.std.proofs.lemmas.Int.{ints}
use Rattle.std.proofs.lemmas.List.Elements.{All-from_recursion, recursion_from_All}
use Rattle.std.specs.List.{AllByRecursion}
use Rattle.vfa_ir.specs.declared.functions.Function.{Function}
use Rattle.vfa_ir.specs.declared.operations.BlockId.{BlockId}
use Rattle.vfa_ir.specs.declared.operations.Bin.{Bin}
use Rattle.vfa_ir.specs.declared.operations.Cast.{Cast}
use Rattle.vfa_ir.specs.declared.operations.Fun1.{Fun1}
use Rattle.vfa_ir.specs.declared.operations.Operand.{Operand}
use Rattle.vfa_ir.specs.declared.syntax.BasicBlock.{BasicBlock}
use Rattle.vfa_ir.specs.declared.syntax.Incoming.{Incoming}
use Rattle.vfa_ir.specs.declared.syntax.Instruction.{Instruction}
use Rattle.vfa_ir.specs.declared.syntax.Literal.{Literal}
use Rattle.vfa_ir.specs.declared.syntax.Operation.{Operation}
use Rattle.vfa_ir.specs.declared.syntax.PhiNode.{PhiNode}
use Rattle.vfa_ir.specs.declared.syntax.SwitchCase.{SwitchCase}
use Rattle.vfa_ir.specs.declared.syntax.TerminatorKind.{TerminatorKind}
use Rattle.vfa_ir.specs.declared.syntax.Written.{Written}
use Rattle.vfa_ir.specs.DefinedNames.{Use, of_block, block_uses, first_unknown, is_known, operation_uses, phi_uses, terminator_uses, used_name, value_uses}
use Rattle.vfa_ir.specs.Grammar.{FitsBlock, FitsFlags, FitsInstruction, FitsLiteral, FitsOperation, FitsPair, FitsPhi, FitsResult, FitsStrict, FitsTerminatorKind, FitsValue, IsInRange}
use Rattle.vfa_ir.specs.Printable.{AreOperands, HasItsArgument, HasItsCastFlags, HasItsFlags, HasItsResult, IsBlock, IsOperand, PrintableBlock, PrintableInst, PrintableOp, PrintablePhi, PrintableTerm}
use Rattle.vfa_ir.specs.Resolution.{Scope, bits_of, block_id, block_of, blocks_of, call_count, cast_flags_of_words, flags_of_words, inst_of, insts_of, is_call, is_strict, literal_bits, op_of, operand_of, phi_of, term_of, value_id}
use Rattle.vfa_ir.specs.Words.{cast_flags_of, flags_of, is_among}
use Rattle.vfa_print.proofs.DistinctNames.{place_within, same_text}

-- Uses

abbrev pub AreKnown : List (List ℕ) → List (List ℕ) → List Use → Type 0
AreKnown values blocks = AllByRecursion (λ u. is_known values blocks u ≡ true)

pub all_known : (values blocks : List (List ℕ)) (us : List Use) → first_unknown values blocks us ≡ None → AreKnown values blocks us
all_known values blocks [] h = tt
all_known values blocks (u ∷ us) h = go (is_known values blocks u) refl h (all_known values blocks us)
  where
    go :
        (b : Bool) → is_known values blocks u ≡ b → (if b then first_unknown values blocks us else Some (used_name u)) ≡ None →
        (first_unknown values blocks us ≡ None → AreKnown values blocks us) → (is_known values blocks u ≡ true) × AreKnown values blocks us
    go true e k again = (e, again k)
    go false e k again = absurd (cc)

pub all_prefix : {X : Type 0} (P : X → Type 0) (xs ys : List X) → AllByRecursion P (xs ++ ys) → AllByRecursion P xs
all_prefix P [] ys h = tt
all_prefix P (x ∷ xs) ys h = (h.0, all_prefix P xs ys h.1)

pub all_back : {X : Type 0} (P : X → Type 0) (xs ys : List X) → AllByRecursion P (xs ++ ys) → AllByRecursion P ys
all_back P [] ys h = h
all_back P (x ∷ xs) ys h = all_back P xs ys h.1

pub all_both : {X : Type 0} (P : X → Type 0) (xs ys : List X) → AllByRecursion P xs → AllByRecursion P ys → AllByRecursion P (xs ++ ys)
all_both P [] ys h k = k
all_both P (x ∷ xs) ys h k = (h.0, all_both P xs ys h.1 k)

-- Numbers

bits_below : (width : ℕ) (z : ℤ) → IsInRange width z → bits_of width z < 2 ^ width
bits_below width (pos n) r = least n (2 ^ width) r.most
  where
    least : (n m : ℕ) → pos n <ℤ pos m → n < m
    least n m h = omega (arith, ints)
bits_below width (negsuc n) r = let some : 0 < 2 ^ width = pow_pos width in omega arith

boolean_below : (b : Bool) → literal_bits 1 (Literal.Boolean b) < 2 ^ 1
boolean_below true = omega arith
boolean_below false = omega arith

literal_below : (width : ℕ) (l : Literal) → FitsLiteral width l → literal_bits width l < 2 ^ width
literal_below width (Literal.Boolean b) fits = subst (λ w. literal_bits w (Literal.Boolean b) < 2 ^ w) (sym fits) (boolean_below b)
literal_below width (Literal.Number text) fits = bits_below width _ fits.in_range

-- Flags

among_among : (t : List ℕ) (words known : List (List ℕ)) → is_among t words ≡ true → AllByRecursion (λ w. IsTrue (is_among w known)) words → is_among t known ≡ true
among_among t [] known h all = absurd (true≢false (sym h))
among_among t (w ∷ words) known h all = go (bytes_eq t w) refl h (among_among t words known)
  where
    go : (b : Bool) → bytes_eq t w ≡ b → (b || is_among t words) ≡ true → (is_among t words ≡ true → AllByRecursion (λ v. IsTrue (is_among v known)) words → is_among t known ≡ true) → is_among t known ≡ true
    go true e k again = subst (λ v. is_among v known ≡ true) (sym (same_text t w e)) all.0
    go false e k again = again k all.1

flag_fits :
    (allowed words : List (List ℕ)) → FitsFlags allowed words → (text : List ℕ) → is_among text words ≡ true →
    is_among text allowed ≡ true
flag_fits allowed words fits text h =
    among_among text words allowed h (recursion_from_All (λ w. IsTrue (is_among w allowed)) words fits.known)

flags_fit : (bin : Bin) (words : List (List ℕ)) → FitsFlags (flags_of bin) words → HasItsFlags bin (flags_of_words words)
flags_fit bin words fits = record {
  nuw = flag_fits (flags_of bin) words fits (codes "nuw");
  nsw = flag_fits (flags_of bin) words fits (codes "nsw");
  exact = flag_fits (flags_of bin) words fits (codes "exact");
  disjoint = flag_fits (flags_of bin) words fits (codes "disjoint");
}

cast_flags_fit :
    (cast : Cast) (words : List (List ℕ)) → FitsFlags (cast_flags_of cast) words → HasItsCastFlags cast (cast_flags_of_words words)
cast_flags_fit cast words fits = record {
  nuw = flag_fits (cast_flags_of cast) words fits (codes "nuw");
  nsw = flag_fits (cast_flags_of cast) words fits (codes "nsw");
  nneg = flag_fits (cast_flags_of cast) words fits (codes "nneg");
}

strict_fits : (fun : Fun1) (o : Option Literal) → FitsStrict fun o → HasItsArgument fun (is_strict o)
strict_fits Fun1.Ctpop None fits = refl
strict_fits Fun1.Ctpop (Some l) fits = absurd fits
strict_fits Fun1.Abs o fits = tt
strict_fits Fun1.Ctlz o fits = tt
strict_fits Fun1.Cttz o fits = tt

-- Parts

module _ (f : Function) (scope : Scope) (as_values : length scope.values ≡ length f.values) (as_blocks : length scope.blocks ≡ length f.blocks) where
  abbrev Known : List Use → Type 0
  Known = AreKnown scope.values scope.blocks

  value_is : (name : List ℕ) → is_among name scope.values ≡ true → (value_id scope name).0 < length f.values
  value_is name h = subst (λ n. (value_id scope name).0 < n) as_values (place_within name scope.values h)

  block_is : (name : List ℕ) → is_among name scope.blocks ≡ true → IsBlock f (block_id scope name)
  block_is name h = subst (λ n. (block_id scope name).0 < n) as_blocks (place_within name scope.blocks h)

  pub operand_is : (width : ℕ) (v : Written) → FitsValue width v → Known (value_uses v) → IsOperand f width (operand_of scope width v)
  operand_is width (Written.Local name) fits known = value_is name known.0
  operand_is width (Written.Literal l) fits known = literal_below width l fits
  operand_is width Written.Poison fits known = tt

  pair_is : (width : ℕ) (a b : Written) → FitsPair width a b → Known (value_uses a ++ value_uses b) → AreOperands f width (operand_of scope width a) (operand_of scope width b)
  pair_is width a b fits known = record {
    of_width = fits.of_width;
    first = operand_is width a fits.first (all_prefix _ (value_uses a) (value_uses b) known);
    second = operand_is width b fits.second (all_back _ (value_uses a) (value_uses b) known);
  }

  op_is : (n : ℕ) (o : Operation) → FitsOperation o → Known (operation_uses o) → PrintableOp f (op_of scope n o)
  op_is n (Operation.Binary bin words width a b) fits known = (flags_fit bin words fits.0, pair_is width a b fits.1 known)
  op_is n (Operation.Compare samesign pred width a b) fits known = pair_is width a b fits known
  op_is n (Operation.Select c width a b) fits known =
      (operand_is 1 c fits.0 (all_prefix _ (value_uses c) (value_uses a ++ value_uses b) known), pair_is width a b fits.1 (all_back _ (value_uses c) (value_uses a ++ value_uses b) known))
  op_is n (Operation.Convert cast words from a to) fits known = (cast_flags_fit cast words fits.0, fits.1, operand_is from a fits.2 known, fits.3)
  op_is n (Operation.Freeze width a) fits known = (fits.0, operand_is width a fits.1 known)
  op_is n (Operation.Extract width pair index) fits known = (fits.0, value_is pair known.0, fits.1)
  op_is n (Operation.Two words fun width a b) fits known = pair_is width a b fits.1 known
  op_is n (Operation.One words fun width a strict) fits known = (fits.1, operand_is width a fits.2 known, strict_fits fun strict fits.3)
  op_is n (Operation.Over words over width a b) fits known = pair_is width a b fits.1 known
  op_is n (Operation.Assume words c) fits known = operand_is 1 c fits.1 known
  op_is n (Operation.Call words attributes width name arguments) fits known = fits.1.result

  result_is : (n : ℕ) (o : Operation) (r : Option (List ℕ)) → FitsResult o r → HasItsResult (op_of scope n o) (option_map (value_id scope) r)
  result_is n (Operation.Assume _ _) None fits = tt
  result_is n (Operation.Assume _ _) (Some _) fits = fits
  result_is n (Operation.Binary _ _ _ _ _) None fits = fits
  result_is n (Operation.Binary _ _ _ _ _) (Some _) fits = tt
  result_is n (Operation.Compare _ _ _ _ _) None fits = fits
  result_is n (Operation.Compare _ _ _ _ _) (Some _) fits = tt
  result_is n (Operation.Select _ _ _ _) None fits = fits
  result_is n (Operation.Select _ _ _ _) (Some _) fits = tt
  result_is n (Operation.Convert _ _ _ _ _) None fits = fits
  result_is n (Operation.Convert _ _ _ _ _) (Some _) fits = tt
  result_is n (Operation.Freeze _ _) None fits = fits
  result_is n (Operation.Freeze _ _) (Some _) fits = tt
  result_is n (Operation.Extract _ _ _) None fits = fits
  result_is n (Operation.Extract _ _ _) (Some _) fits = tt
  result_is n (Operation.Two _ _ _ _ _) None fits = fits
  result_is n (Operation.Two _ _ _ _ _) (Some _) fits = tt
  result_is n (Operation.One _ _ _ _ _) None fits = fits
  result_is n (Operation.One _ _ _ _ _) (Some _) fits = tt
  result_is n (Operation.Over _ _ _ _ _) None fits = fits
  result_is n (Operation.Over _ _ _ _ _) (Some _) fits = tt
  result_is n (Operation.Call _ _ None _ _) None fits = tt
  result_is n (Operation.Call _ _ None _ _) (Some _) fits = fits
  result_is n (Operation.Call _ _ (Some _) _ _) None fits = fits
  result_is n (Operation.Call _ _ (Some _) _ _) (Some _) fits = tt

  inst_is : (n : ℕ) (i : Instruction) → FitsInstruction i → Known (operation_uses i.operation) → PrintableInst f (inst_of scope n i)
  inst_is n i fits known =
      record { result = result_is n i.operation i.result fits.result; op = op_is n i.operation fits.operation known }

  -- phis
  abbrev Entry : ℕ → Operand × BlockId → Type 0
  Entry width e = IsOperand f width e.0 × IsBlock f e.1

  abbrev entry_uses : Incoming → List Use
  entry_uses i = value_uses i.value ++ (of_block i.block ∷ [])

  abbrev entry_of : ℕ → Incoming → Operand × BlockId
  entry_of width i = (operand_of scope width i.value, block_id scope i.block)

  entry_is : (width : ℕ) (i : Incoming) → FitsValue width i.value → Known (entry_uses i) → Entry width (entry_of width i)
  entry_is width i fits known =
      (operand_is width i.value fits (all_prefix _ (value_uses i.value) (of_block i.block ∷ []) known), block_is i.block (all_back _ (value_uses i.value) (of_block i.block ∷ []) known).0)

  entries_are :
      (width : ℕ) (entries : List Incoming) → AllByRecursion (λ (i : Incoming). FitsValue width i.value) entries →
      Known (flat_map entry_uses entries) → AllByRecursion (Entry width) (map (entry_of width) entries)
  entries_are width [] fits known = tt
  entries_are width (i ∷ rest) fits known =
      (entry_is width i fits.0 (all_prefix _ (entry_uses i) _ known), entries_are width rest fits.1 (all_back _ (entry_uses i) _ known))

  some_entries : (width : ℕ) (entries : List Incoming) → (entries ≡ [] → ⊥) → map (entry_of width) entries ≡ [] → ⊥
  some_entries width [] some e = some refl
  some_entries width (i ∷ rest) some e = cc

  phi_is : (p : PhiNode) → FitsPhi p → Known (phi_uses p) → PrintablePhi f (phi_of scope p)
  phi_is p fits known = record {
    width = fits.width;
    some = some_entries p.width p.entries fits.some;
    entries = All-from_recursion (Entry p.width) (map (entry_of p.width) p.entries)
        (entries_are p.width p.entries (recursion_from_All (λ (i : Incoming). FitsValue p.width i.value) p.entries fits.entries) known);
  }

  -- terminators
  abbrev Case : ℕ → ℕ × BlockId → Type 0
  Case width c = (c.0 < 2 ^ width) × IsBlock f c.1

  cases_are :
      (width : ℕ) (cases : List SwitchCase) → AllByRecursion (λ (c : SwitchCase). FitsLiteral width c.number) cases → Known (map (λ (c : SwitchCase). of_block c.block) cases) →
      AllByRecursion (Case width) (map (λ c. (literal_bits width c.number, block_id scope c.block)) cases)
  cases_are width [] fits known = tt
  cases_are width (c ∷ cases) fits known = ((literal_below width c.number fits.0, block_is c.block known.0), cases_are width cases fits.1 known.1)

  term_is : (t : TerminatorKind) → FitsTerminatorKind t → Known (terminator_uses t) → PrintableTerm f (term_of scope t)
  term_is (TerminatorKind.Return width a) fits known = (fits.0, operand_is width a fits.1 known)
  term_is (TerminatorKind.Always to) fits known = block_is to known.0
  term_is (TerminatorKind.Condition c taken fallen) fits known =
      let targets = all_back _ (value_uses c) (of_block taken ∷ of_block fallen ∷ []) known in
      (operand_is 1 c fits (all_prefix _ (value_uses c) (of_block taken ∷ of_block fallen ∷ []) known), block_is taken targets.0, block_is fallen targets.1.0)
  term_is (TerminatorKind.Switch width on default cases) fits known =
      let targets = all_back _ (value_uses on) (of_block default ∷ map (λ c. of_block c.block) cases) known in (
        fits.0,
        operand_is width on fits.1 (all_prefix _ (value_uses on) (of_block default ∷ map (λ c. of_block c.block) cases) known),
        block_is default targets.0,
        All-from_recursion (Case width) (map (λ c. (literal_bits width c.number, block_id scope c.block)) cases)
            (cases_are width cases (recursion_from_All (λ c. FitsLiteral width c.number) cases fits.2) targets.1),
      )
  term_is TerminatorKind.Unreachable fits known = tt

  -- blocks
  phis_are :
      (ps : List PhiNode) → AllByRecursion FitsPhi ps → Known (flat_map phi_uses ps) →
      AllByRecursion (PrintablePhi f) (map (phi_of scope) ps)
  phis_are [] fits known = tt
  phis_are (p ∷ ps) fits known = (phi_is p fits.0 (all_prefix _ (phi_uses p) _ known), phis_are ps fits.1 (all_back _ (phi_uses p) _ known))

  insts_are :
      (n : ℕ) (is : List Instruction) → AllByRecursion FitsInstruction is →
      Known (flat_map (λ (i : Instruction). operation_uses i.operation) is) → AllByRecursion (PrintableInst f) (insts_of scope n is)
  insts_are n [] fits known = tt
  insts_are n (i ∷ is) fits known = (
    inst_is n i fits.0 (all_prefix _ (operation_uses i.operation) _ known),
    insts_are (if is_call i then suc n else n) is fits.1 (all_back _ (operation_uses i.operation) _ known),
  )

  block_of_is : (n : ℕ) (b : BasicBlock) → FitsBlock b → Known (block_uses b) → PrintableBlock f (block_of scope n b)
  block_of_is n b fits known =
      let later = all_back _ (flat_map phi_uses b.phis) _ known in
      let insts : List Use = flat_map (λ (i : Instruction). operation_uses i.operation) b.instructions in
      record {
        phis = All-from_recursion (PrintablePhi f) (map (phi_of scope) b.phis)
            (phis_are b.phis (recursion_from_All FitsPhi b.phis fits.phis) (all_prefix _ (flat_map phi_uses b.phis) _ known));
        insts = All-from_recursion (PrintableInst f) (insts_of scope n b.instructions)
            (insts_are n b.instructions (recursion_from_All FitsInstruction b.instructions fits.instructions) (all_prefix _ insts _ later));
        term = term_is b.terminator.kind fits.terminator.kind (all_back _ insts (terminator_uses b.terminator.kind) later);
      }

  pub blocks_are :
      (n : ℕ) (bs : List BasicBlock) → AllByRecursion FitsBlock bs → Known (flat_map block_uses bs) →
      AllByRecursion (PrintableBlock f) (blocks_of scope n bs)
  blocks_are n [] fits known = tt
  blocks_are n (b ∷ bs) fits known = (
    block_of_is n b fits.0 (all_prefix _ (block_uses b) _ known),
    blocks_are (n + call_count b) bs fits.1 (all_back _ (block_uses b) _ known),
  )
