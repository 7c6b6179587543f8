-- The calls of a function that is read: they stand in text order, their words are those of calls, and their callees are
-- no intrinsics.
use Rattle.std.proofs.Common.{◌≡◌, ◌∙◌, ℕ, suc, ◌+◌, if◌then◌else◌, true, false, List, [], ◌∷◌, ◌++◌, length, map, flat_map, filter_map, count_by, is_some, Option, Some, None, refl, sym, subst, ap, ap₂, arith, length-append}
use Rattle.std.proofs.lemmas.List.Elements.{All-from_recursion, recursion_from_All}
use Rattle.std.proofs.lemmas.List.Sums.{sum_by-cons}
use Rattle.std.specs.List.{AllByRecursion, cons_option, range_with_len}
use Rattle.vfa_ir.specs.declared.functions.CallOp.{CallOp}
use Rattle.vfa_ir.specs.declared.functions.Function.{Function}
use Rattle.vfa_ir.specs.declared.functions.Inst.{Inst}
use Rattle.vfa_ir.specs.declared.syntax.Argument.{Argument}
use Rattle.vfa_ir.specs.declared.syntax.BasicBlock.{BasicBlock}
use Rattle.vfa_ir.specs.declared.syntax.CallWords.{CallWords}
use Rattle.vfa_ir.specs.declared.syntax.Instruction.{Instruction}
use Rattle.vfa_ir.specs.declared.syntax.Operation.{Operation}
use Rattle.vfa_ir.specs.DefinedNames.{Use, block_uses, operation_uses, phi_uses, value_uses}
use Rattle.vfa_ir.specs.Grammar.{FitsArgument, FitsBlock, FitsInstruction, FitsOperation}
use Rattle.vfa_ir.specs.Lexemes.{Lexeme}
use Rattle.vfa_ir.specs.Printable.{PrintableArgument, PrintableCall, block_call_places, call_place}
use Rattle.vfa_ir.specs.Resolution.{Scope, argument_of, block_calls, blocks_of, call_count, call_of, insts_of, instruction_calls, is_call, op_of}
use Rattle.vfa_ir.specs.Spelling as spell
use Rattle.vfa_print.proofs.ShownNames.{one_if}
use Rattle.vfa_print.proofs.NamesInOrder.{range-append}
use Rattle.vfa_print.proofs.NamesOfText.{HasName, IsSome, of_instructions}
use Rattle.vfa_print.proofs.PrintableParts.{AreKnown, all_back, all_both, all_prefix, operand_is}

-- the callee of a call has a name
callee_some :
    (words : CallWords) (result : List Lexeme) (name : List ℕ) (arguments : List Lexeme) →
    AllByRecursion HasName (spell.call words result name arguments) → IsSome name
callee_some words result name arguments h =
    (all_back HasName result _ (all_back HasName (spell.optional_word words.marker) _ h).1).0

module _ (f : Function) (scope : Scope) (value_count : length scope.values ≡ length f.values) (block_count : length scope.blocks ≡ length f.blocks) where
  abbrev Known : List Use → Type 0
  Known = AreKnown scope.values scope.blocks

  argument_is : (a : Argument) → FitsArgument a → Known (value_uses a.value) → PrintableArgument f (argument_of scope a)
  argument_is a fits known = record {
    width = fits.width;
    words = fits.words;
    value = operand_is f scope value_count block_count a.width a.value fits.value known;
  }

  arguments_are :
      (args : List Argument) → AllByRecursion FitsArgument args → Known (flat_map (λ (a : Argument). value_uses a.value) args) →
      AllByRecursion (PrintableArgument f) (map (argument_of scope) args)
  arguments_are [] fits known = tt
  arguments_are (a ∷ args) fits known =
      (argument_is a fits.0 (all_prefix _ (value_uses a.value) _ known), arguments_are args fits.1 (all_back _ (value_uses a.value) _ known))

  call_is :
      (o : Operation) → FitsOperation o → Known (operation_uses o) → AllByRecursion HasName (spell.operation o) →
      (c : CallOp) → call_of scope o ≡ Some c → PrintableCall f c
  call_is (Operation.Call words attributes width name arguments) fits known named c e =
      let same : record { callee = name; words = attributes; args = map (argument_of scope) arguments } ≡ c = cc in
      subst (PrintableCall f) same (record {
        some = callee_some words _ name _ named;
        no_intrinsic = fits.1.callee;
        words = fits.1.attributes;
        arguments = All-from_recursion (PrintableArgument f) (map (argument_of scope) arguments)
            (arguments_are arguments (recursion_from_All FitsArgument arguments fits.1.passed) known);
      })
  call_is (Operation.Binary _ _ _ _ _) fits known named c e = cc
  call_is (Operation.Compare _ _ _ _ _) fits known named c e = cc
  call_is (Operation.Select _ _ _ _) fits known named c e = cc
  call_is (Operation.Convert _ _ _ _ _) fits known named c e = cc
  call_is (Operation.Freeze _ _) fits known named c e = cc
  call_is (Operation.Extract _ _ _) fits known named c e = cc
  call_is (Operation.Two _ _ _ _ _) fits known named c e = cc
  call_is (Operation.One _ _ _ _ _) fits known named c e = cc
  call_is (Operation.Over _ _ _ _ _) fits known named c e = cc
  call_is (Operation.Assume _ _) fits known named c e = cc

  insts_calls :
      (is : List Instruction) → AllByRecursion FitsInstruction is → Known (flat_map (λ (i : Instruction). operation_uses i.operation) is) →
      AllByRecursion HasName (flat_map spell.instruction is) → AllByRecursion (PrintableCall f) (instruction_calls scope is)
  insts_calls [] fits known named = tt
  insts_calls (i ∷ is) fits known named =
      let here : AllByRecursion HasName (spell.instruction i) = all_prefix HasName (spell.instruction i) _ named in
      let operation = all_prefix HasName (spell.operation i.operation) _ (all_back HasName (spell.result i.result) _ here) in
      with_call (call_of scope i.operation)
      (call_is i.operation fits.0.operation (all_prefix _ (operation_uses i.operation) _ known) operation)
      (insts_calls is fits.1 (all_back _ (operation_uses i.operation) _ known) (all_back HasName (spell.instruction i) _ named))
    where
      with_call :
          (o : Option CallOp) → ((c : CallOp) → o ≡ Some c → PrintableCall f c) →
          AllByRecursion (PrintableCall f) (instruction_calls scope is) →
          AllByRecursion (PrintableCall f) (cons_option o (instruction_calls scope is))
      with_call None h rest = rest
      with_call (Some c) h rest = (h c refl, rest)

  pub calls_are :
      (bs : List BasicBlock) → AllByRecursion FitsBlock bs → Known (flat_map block_uses bs) →
      AllByRecursion HasName (flat_map spell.block bs) → AllByRecursion (PrintableCall f) (flat_map (block_calls scope) bs)
  calls_are [] fits known named = tt
  calls_are (b ∷ bs) fits known named =
      let used = all_back _ (flat_map phi_uses b.phis) _ (all_prefix _ (block_uses b) _ known) in
      let insts : List Use = flat_map (λ (i : Instruction). operation_uses i.operation) b.instructions in
      all_both (PrintableCall f) (block_calls scope b) (flat_map (block_calls scope) bs)
      (insts_calls b.instructions (recursion_from_All FitsInstruction b.instructions fits.0.instructions) (all_prefix _ insts _ used)
      (of_instructions b (all_prefix HasName (spell.block b) _ named)))
      (calls_are bs fits.1 (all_back _ (block_uses b) _ known) (all_back HasName (spell.block b) _ named))

-- an operation is a call where it makes one
made : (scope : Scope) (i : Instruction) → is_call i ≡ is_some (call_of scope i.operation)
made scope i = by i.operation
  where
    by : (o : Operation) → (elim o [ Operation.Call _ _ _ _ _ ↦ true | _ ↦ false ]) ≡ is_some (call_of scope o)
    by (Operation.Call words attributes width name arguments) = refl
    by (Operation.Binary _ _ _ _ _) = refl
    by (Operation.Compare _ _ _ _ _) = refl
    by (Operation.Select _ _ _ _) = refl
    by (Operation.Convert _ _ _ _ _) = refl
    by (Operation.Freeze _ _) = refl
    by (Operation.Extract _ _ _) = refl
    by (Operation.Two _ _ _ _ _) = refl
    by (Operation.One _ _ _ _ _) = refl
    by (Operation.Over _ _ _ _ _) = refl
    by (Operation.Assume _ _) = refl

placed : (scope : Scope) (n : ℕ) (o : Operation) → call_place (op_of scope n o) ≡ (elim (call_of scope o) [ None ↦ None | Some _ ↦ Some n ])
placed scope n (Operation.Call words attributes width name arguments) = refl
placed scope n (Operation.Binary _ _ _ _ _) = refl
placed scope n (Operation.Compare _ _ _ _ _) = refl
placed scope n (Operation.Select _ _ _ _) = refl
placed scope n (Operation.Convert _ _ _ _ _) = refl
placed scope n (Operation.Freeze _ _) = refl
placed scope n (Operation.Extract _ _ _) = refl
placed scope n (Operation.Two _ _ _ _ _) = refl
placed scope n (Operation.One _ _ _ _ _) = refl
placed scope n (Operation.Over _ _ _ _ _) = refl
placed scope n (Operation.Assume _ _) = refl

-- how many calls there are among instructions
calls_counted : (scope : Scope) (is : List Instruction) → count_by is_call is ≡ length (instruction_calls scope is)
calls_counted scope [] = refl
calls_counted scope (i ∷ is) =
    sum_by-cons (λ x. one_if (is_call x)) i is
    ∙ ap₂ (λ x y. one_if x + y) (made scope i) (calls_counted scope is) ∙ by (call_of scope i.operation)
  where
    by : (o : Option CallOp) → one_if (is_some o) + length (instruction_calls scope is) ≡ length (cons_option o (instruction_calls scope is))
    by None = omega arith
    by (Some c) = omega arith

-- the places of the calls
insts_places :
    (scope : Scope) (n : ℕ) (is : List Instruction) →
    filter_map (λ (i : Inst). call_place i.op) (insts_of scope n is) ≡ range_with_len n (length (instruction_calls scope is))
insts_places scope n [] = refl
insts_places scope n (i ∷ is) =
    ap₂ (λ o m. cons_option o (filter_map (λ (i : Inst). call_place i.op) (insts_of scope (if m then suc n else n) is)))
    (placed scope n i.operation) (made scope i)
    ∙ by (call_of scope i.operation) (λ m. insts_places scope m is)
  where
    by :
        (o : Option CallOp) →
        ((m : ℕ) → filter_map (λ (i : Inst). call_place i.op) (insts_of scope m is) ≡ range_with_len m (length (instruction_calls scope is))) →
        cons_option (elim o [ None ↦ None | Some _ ↦ Some n ])
        (filter_map (λ (i : Inst). call_place i.op) (insts_of scope (if is_some o then suc n else n) is))
        ≡ range_with_len n (length (cons_option o (instruction_calls scope is)))
    by None again = again n
    by (Some c) again =
        let one : suc n ≡ n + 1 = omega arith in
        ap (λ l. n ∷ l) (again (suc n) ∙ ap (λ m. range_with_len m (length (instruction_calls scope is))) one)

pub places_are :
    (scope : Scope) (n : ℕ) (bs : List BasicBlock) →
    flat_map block_call_places (blocks_of scope n bs) ≡ range_with_len n (length (flat_map (block_calls scope) bs))
places_are scope n [] = refl
places_are scope n (b ∷ bs) =
    let here = instruction_calls scope b.instructions in
    let later = flat_map (block_calls scope) bs in
    let count : n + call_count b ≡ n + length (instruction_calls scope b.instructions) = ap (λ m. n + m) (calls_counted scope b.instructions) in
    ap₂ (λ x y. x ++ y) (insts_places scope n b.instructions) (places_are scope (n + call_count b) bs)
    ∙ ap (λ m. range_with_len n (length here) ++ range_with_len m (length later)) count
    ∙ range-append n (length here) (length later)
    ∙ ap (range_with_len n) (sym (length-append here later))
