-- From the tree of an operand, an operation or a terminator back to itself.
use Rattle.std.proofs.Common.{◌≡◌, ◌∙◌, Option, Some, None, option_and_then, slice_get, ℕ, zero, suc, ◌-◌, ◌<◌, ◌≤◌, ◌^◌, ◌==◌, Bool, true, false, nat_lt, if◌then◌else◌, List, [], ◌∷◌, map, length, decimal, pos, neg_ℤ, refl, sym, ap, subst, arith, eqb-true, true≢false, pow_mono}
use Rattle.std.specs.List.{AllByRecursion}
use Rattle.std.specs.Str.Parse.{digits_value}
use Rattle.std.proofs.lemmas.List.Elements.{recursion_from_All}
use Rattle.std.specs.Str.{byte}
use Rattle.vfa_ir.specs.declared.functions.CallArg.{CallArg}
use Rattle.vfa_ir.specs.declared.functions.CallOp.{CallOp}
use Rattle.vfa_ir.specs.declared.functions.Function.{Function}
use Rattle.vfa_ir.specs.declared.functions.Term.{Term}
use Rattle.vfa_ir.specs.declared.operations.BlockId.{BlockId}
use Rattle.vfa_ir.specs.declared.operations.CastFlags.{CastFlags}
use Rattle.vfa_ir.specs.declared.operations.Flags.{Flags}
use Rattle.vfa_ir.specs.declared.operations.Fun1.{Fun1}
use Rattle.vfa_ir.specs.declared.operations.Op.{Op}
use Rattle.vfa_ir.specs.declared.operations.Operand.{Operand}
use Rattle.vfa_ir.specs.declared.operations.ValueId.{ValueId}
use Rattle.vfa_ir.specs.declared.numbering.Local.{Local}
use Rattle.vfa_ir.specs.declared.syntax.Literal.{Literal}
use Rattle.vfa_ir.specs.Grammar.{IsWidth, number_value}
use Rattle.vfa_ir.specs.Printable.{HasItsArgument, IsBlock, IsOperand, IsPrintable, PrintableArgument, PrintableCall, PrintableOp, PrintableTerm, call_place}
use Rattle.vfa_ir.specs.Resolution.{argument_of, bits_of, block_id, call_of, cast_flags_of_words, flags_of_words, is_strict, literal_bits, op_of, operand_of, place_of, term_of, value_id}
use Rattle.vfa_ir.specs.Shown.{shown_block_name, shown_value_name}
use Rattle.vfa_ir.specs.Words.{is_digits}
use Rattle.vfa_print.specs.Trees.{argument_tree, block_name_at, call_tree, case_tree, cast_flag_words, flag_words, literal_tree, name_at, op_tree, operand_tree, shown_scope, signed_text, strict_tree, term_tree}
use Rattle.vfa_print.proofs.NameNumbers.{decimal_is_digits, decimal_value, name_at-range, place-range}
use Rattle.vfa_print.proofs.EachElement.{each_at}
use Rattle.vfa_print.proofs.NamesInScope.{each_call, place_some}
use Rattle.vfa_print.proofs.ShownNames.{HasFewNames, shown_alike}

-- literals
number_of_digits : (ds : List ℕ) → is_digits ds ≡ true → number_value ds ≡ pos (digits_value 10 ds)
number_of_digits [] e = absurd (true≢false (sym e))
number_of_digits (c ∷ cs) e = by (c == byte "-") refl
  where
    by : (b : Bool) → (c == byte "-") ≡ b → number_value (c ∷ cs) ≡ pos (digits_value 10 (c ∷ cs))
    by true m =
        let is : c ≡ 45 = eqb-true c 45 m in
        let no : is_digits (byte "-" ∷ cs) ≡ true = ap (λ d. is_digits (d ∷ cs)) (sym is) ∙ e in
        absurd (true≢false (sym no))
    by false m = ap (λ b. if b then neg_ℤ (pos (digits_value 10 cs)) else pos (digits_value 10 (c ∷ cs))) m

number_of_decimal : (n : ℕ) → n < 10 ^ 64 → number_value (decimal n) ≡ pos n
number_of_decimal n h = number_of_digits (decimal n) (decimal_is_digits n) ∙ ap (λ m. pos m) (decimal_value n h)

negative_bits : (width v : ℕ) → 0 < v → bits_of width (neg_ℤ (pos v)) ≡ 2 ^ width - 1 - (v - 1)
negative_bits width zero h = absurd (omega arith)
negative_bits width (suc k) h = let e : k ≡ suc k - 1 = omega arith in ap (λ m. 2 ^ width - 1 - m) e

signed_back : (width bits : ℕ) → IsWidth width → bits < 2 ^ width → bits_of width (number_value (signed_text width bits)) ≡ bits
signed_back width bits is_width h = by (nat_lt bits (2 ^ (width - 1)))
  where
    most : width ≤ 128
    most = is_width.most

    small : 2 ^ width < 10 ^ 64
    small = let m = pow_mono {i = width} {j = 128} most in omega arith

    back : bits_of width (neg_ℤ (pos (2 ^ width - bits))) ≡ bits
    back = negative_bits width (2 ^ width - bits) (omega arith) ∙ omega arith

    by : (b : Bool) → bits_of width (number_value (if b then decimal bits else 45 ∷ decimal (2 ^ width - bits))) ≡ bits
    by true = ap (bits_of width) (number_of_decimal bits (let s = small in omega arith))
    by false =
        ap (λ v. bits_of width (neg_ℤ (pos v))) (decimal_value (2 ^ width - bits) (let s = small in omega arith)) ∙ back

literal_back : (width bits : ℕ) → IsWidth width → bits < 2 ^ width → literal_bits width (literal_tree width bits) ≡ bits
literal_back width bits is_width h = by (width == 1) refl
  where
    boolean : (b : Bool) → (bits == 1) ≡ b → bits < 2 → literal_bits width (literal_tree 1 bits) ≡ bits
    boolean true e small = let is : bits ≡ 1 = eqb-true bits 1 e in ap (λ n. literal_bits width (literal_tree 1 n)) is ∙ sym is
    boolean false e small =
        let is : bits ≡ 0 = cases bits e small in ap (λ n. literal_bits width (literal_tree 1 n)) is ∙ sym is
      where
        cases : (n : ℕ) → (n == 1) ≡ false → n < 2 → n ≡ 0
        cases zero e small = refl
        cases (suc zero) e small = absurd (true≢false e)
        cases (suc (suc n)) e small = absurd (omega arith)

    by : (b : Bool) → (width == 1) ≡ b → literal_bits width (literal_tree width bits) ≡ bits
    by true e =
        let is : width ≡ 1 = eqb-true width 1 e in
        ap (λ w. literal_bits width (literal_tree w bits)) is ∙ boolean (bits == 1) refl (subst (λ w. bits < 2 ^ w) is h)
    by false e =
        ap (λ b. literal_bits width (if b then Literal.Boolean (bits == 1) else Literal.Number (signed_text width bits))) e
        ∙ signed_back width bits is_width h

-- flags and arguments
flags_back : (flags : Flags) → flags_of_words (flag_words flags) ≡ flags
flags_back flags = by flags.nuw flags.nsw flags.exact flags.disjoint
  where
    by :
        (nuw nsw exact disjoint : Bool) →
        flags_of_words (flag_words (record { nuw = nuw; nsw = nsw; exact = exact; disjoint = disjoint }))
        ≡ record { nuw = nuw; nsw = nsw; exact = exact; disjoint = disjoint }
    by true true true true = refl
    by true true true false = refl
    by true true false true = refl
    by true true false false = refl
    by true false true true = refl
    by true false true false = refl
    by true false false true = refl
    by true false false false = refl
    by false true true true = refl
    by false true true false = refl
    by false true false true = refl
    by false true false false = refl
    by false false true true = refl
    by false false true false = refl
    by false false false true = refl
    by false false false false = refl

cast_flags_back : (flags : CastFlags) → cast_flags_of_words (cast_flag_words flags) ≡ flags
cast_flags_back flags = by flags.nuw flags.nsw flags.nneg
  where
    by :
        (nuw nsw nneg : Bool) →
        cast_flags_of_words (cast_flag_words (record { nuw = nuw; nsw = nsw; nneg = nneg }))
        ≡ record { nuw = nuw; nsw = nsw; nneg = nneg }
    by true true true = refl
    by true true false = refl
    by true false true = refl
    by true false false = refl
    by false true true = refl
    by false true false = refl
    by false false true = refl
    by false false false = refl

strict_back : (fun : Fun1) (strict : Bool) → HasItsArgument fun strict → is_strict (strict_tree fun strict) ≡ strict
strict_back Fun1.Ctpop strict h = sym h
strict_back Fun1.Abs true h = refl
strict_back Fun1.Abs false h = refl
strict_back Fun1.Ctlz true h = refl
strict_back Fun1.Ctlz false h = refl
strict_back Fun1.Cttz true h = refl
strict_back Fun1.Cttz false h = refl

pub one_is_width : IsWidth 1
one_is_width = record { least = omega arith; most = omega arith }

module _ (f : Function) (printable : IsPrintable f) (few : HasFewNames f) where
  values_differ : (i j : ℕ) → i < length f.values → j < length f.values → shown_value_name f i ≡ shown_value_name f j → i ≡ j
  values_differ i j p q e = let same : Local.Value i ≡ Local.Value j = shown_alike f printable few (Local.Value i) (Local.Value j) p q e in cc

  blocks_differ : (i j : ℕ) → i < length f.blocks → j < length f.blocks → shown_block_name f i ≡ shown_block_name f j → i ≡ j
  blocks_differ i j p q e = let same : Local.Block i ≡ Local.Block j = shown_alike f printable few (Local.Block i) (Local.Block j) p q e in cc

  pub value_back : (v : ValueId) → v.0 < length f.values → value_id (shown_scope f) (name_at (shown_scope f).values v.0) ≡ v
  value_back v h =
      let names = (shown_scope f).values in
      let e : place_of names (name_at names v.0) ≡ v.0 =
      ap (place_of names) (name_at-range (shown_value_name f) (length f.values) v.0 h)
      ∙ place-range (shown_value_name f) (length f.values) values_differ v.0 h in
      λ i. record { 0 = e i }

  pub block_back : (b : BlockId) → IsBlock f b → block_id (shown_scope f) (block_name_at (shown_scope f) b) ≡ b
  block_back b h =
      let names = (shown_scope f).blocks in
      let e : place_of names (name_at names b.0) ≡ b.0 =
      ap (place_of names) (name_at-range (shown_block_name f) (length f.blocks) b.0 h)
      ∙ place-range (shown_block_name f) (length f.blocks) blocks_differ b.0 h in
      λ i. record { 0 = e i }

  pub operand_back : (width : ℕ) (o : Operand) → IsWidth width → IsOperand f width o → operand_of (shown_scope f) width (operand_tree (shown_scope f) width o) ≡ o
  operand_back width (Operand.Value v) w h = ap (λ v. Operand.Value v) (value_back v h)
  operand_back width (Operand.Literal bits) w h = ap (λ n. Operand.Literal n) (literal_back width bits w h)
  operand_back width Operand.Poison w h = refl

  -- an operation before which so many calls stand: if it is a call, it is the next one
  abbrev IsNext : ℕ → Op → Type 0
  IsNext n op = (k : ℕ) → call_place op ≡ Some k → k ≡ n

  call_back :
      (n : ℕ) (width : Option ℕ) (o : Option CallOp) → op_of (shown_scope f) n (call_tree (shown_scope f) width o) ≡ Op.Call width n
  call_back n width None = refl
  call_back n width (Some c) = refl

  pub op_back : (n : ℕ) (op : Op) → PrintableOp f op → IsNext n op → op_of (shown_scope f) n (op_tree (shown_scope f) f.calls op) ≡ op
  op_back n (Op.Bin bin flags width a b) h next =
      let words = flags_back flags in
      let first = operand_back width a h.1.of_width h.1.first in
      let second = operand_back width b h.1.of_width h.1.second in
      λ i. Op.Bin bin (words i) width (first i) (second i)
  op_back n (Op.Icmp pred samesign width a b) h next =
      let first = operand_back width a h.of_width h.first in
      let second = operand_back width b h.of_width h.second in
      λ i. Op.Icmp pred samesign width (first i) (second i)
  op_back n (Op.Select width c a b) h next =
      let test = operand_back 1 c one_is_width h.0 in
      let first = operand_back width a h.1.of_width h.1.first in
      let second = operand_back width b h.1.of_width h.1.second in
      λ i. Op.Select width (test i) (first i) (second i)
  op_back n (Op.Cast cast flags from to a) h next =
      let words = cast_flags_back flags in
      let first = operand_back from a h.1 h.2 in
      λ i. Op.Cast cast (words i) from to (first i)
  op_back n (Op.Freeze width a) h next = ap (λ a. Op.Freeze width a) (operand_back width a h.0 h.1)
  op_back n (Op.Two fun width a b) h next =
      let first = operand_back width a h.of_width h.first in
      let second = operand_back width b h.of_width h.second in
      λ i. Op.Two fun width (first i) (second i)
  op_back n (Op.One fun width a strict) h next =
      let first = operand_back width a h.0 h.1 in
      let second = strict_back fun strict h.2 in
      λ i. Op.One fun width (first i) (second i)
  op_back n (Op.Over over width a b) h next =
      let first = operand_back width a h.of_width h.first in
      let second = operand_back width b h.of_width h.second in
      λ i. Op.Over over width (first i) (second i)
  op_back n (Op.Part width pair index) h next = ap (λ v. Op.Part width v index) (value_back pair h.1)
  op_back n (Op.Assume c) h next = ap (λ c. Op.Assume c) (operand_back 1 c one_is_width h)
  op_back n (Op.Call width place) h next =
      call_back n width (slice_get f.calls place) ∙ ap (λ k. Op.Call width k) (sym (next place refl))

  -- the calls themselves
  argument_back : (a : CallArg) → PrintableArgument f a → argument_of (shown_scope f) (argument_tree (shown_scope f) a) ≡ a
  argument_back a h =
      let value = operand_back a.width a.value h.width h.value in λ i. record { width = a.width; words = a.words; value = value i }

  arguments_back :
      (args : List CallArg) → AllByRecursion (PrintableArgument f) args →
      map (argument_of (shown_scope f)) (map (argument_tree (shown_scope f)) args) ≡ args
  arguments_back [] h = refl
  arguments_back (a ∷ args) h =
      let first = argument_back a h.0 in let left = arguments_back args h.1 in λ i. first i ∷ left i

  -- the call that an operation makes
  pub made_back :
      (op : Op) → ((k : ℕ) → call_place op ≡ Some k → k < length f.calls) →
      call_of (shown_scope f) (op_tree (shown_scope f) f.calls op) ≡ option_and_then (slice_get f.calls) (call_place op)
  made_back (Op.Bin _ _ _ _ _) inside = refl
  made_back (Op.Icmp _ _ _ _ _) inside = refl
  made_back (Op.Select _ _ _ _) inside = refl
  made_back (Op.Cast _ _ _ _ _) inside = refl
  made_back (Op.Freeze _ _) inside = refl
  made_back (Op.Two _ _ _ _) inside = refl
  made_back (Op.One _ _ _ _) inside = refl
  made_back (Op.Over _ _ _ _) inside = refl
  made_back (Op.Part _ _ _) inside = refl
  made_back (Op.Assume _) inside = refl
  made_back (Op.Call width place) inside = by (slice_get f.calls place) refl
    where
      by :
          (o : Option CallOp) → slice_get f.calls place ≡ o →
          call_of (shown_scope f) (call_tree (shown_scope f) width o) ≡ o
      by None e = absurd (place_some f.calls place (inside place refl) e)
      by (Some c) e =
          let call = each_at (PrintableCall f) f.calls place c (each_call f printable) e in
          let args = arguments_back c.args (recursion_from_All (PrintableArgument f) c.args call.arguments) in
          λ i. Some (record { callee = c.callee; words = c.words; args = args i })

  pub term_back : (t : Term) → PrintableTerm f t → term_of (shown_scope f) (term_tree (shown_scope f) t) ≡ t
  term_back (Term.Ret width a) h = ap (λ a. Term.Ret width a) (operand_back width a h.0 h.1)
  term_back (Term.Br to) h = ap (λ b. Term.Br b) (block_back to h)
  term_back (Term.CondBr c taken fallen) h =
      let test = operand_back 1 c one_is_width h.0 in
      let first = block_back taken h.1 in
      let second = block_back fallen h.2 in
      λ i. Term.CondBr (test i) (first i) (second i)
  term_back (Term.Switch width on default cases) h =
      let number = operand_back width on h.0 h.1 in
      let other = block_back default h.2 in
      let all = cases_back cases (recursion_from_All (λ c. (c.0 < 2 ^ width) × IsBlock f c.1) cases h.3) in
      λ i. Term.Switch width (number i) (other i) (all i)
    where
      cases_back :
          (cs : List (ℕ × BlockId)) → AllByRecursion (λ c. (c.0 < 2 ^ width) × IsBlock f c.1) cs →
          map (λ c. (literal_bits width c.number, block_id (shown_scope f) c.block)) (map (case_tree (shown_scope f) width) cs) ≡ cs
      cases_back [] h = refl
      cases_back (c ∷ cs) k =
          let number = literal_back width c.0 h.0 k.0.0 in
          let block = block_back c.1 k.0.1 in
          let left = cases_back cs k.1 in
          λ i. (number i, block i) ∷ left i
  term_back Term.Unreachable h = refl
