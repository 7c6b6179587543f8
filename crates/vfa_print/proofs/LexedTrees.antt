-- Each token of the tree of a printable function is read again as it is, production by production.
use Rattle.std.proofs.Common.{◌≡◌, ℕ, suc, ◌<◌, ◌≤◌, ◌^◌, ◌==◌, ◌&&◌, Bool, true, false, cond, is_none, List, [], ◌∷◌, ◌++◌, ◌+◌, length, map, flat_map, All, IsTrue, Option, Some, None, option_map, slice_get, codes, decimal, refl, arith}
use Rattle.std.specs.List.{AllByRecursion, join_by}
use Rattle.std.proofs.lemmas.List.Elements.{All-from_recursion, recursion_from_All}
use Rattle.vfa_ir.specs.declared.functions.Block.{Block}
use Rattle.vfa_ir.specs.declared.functions.CallArg.{CallArg}
use Rattle.vfa_ir.specs.declared.functions.CallOp.{CallOp}
use Rattle.vfa_ir.specs.declared.functions.Function.{Function}
use Rattle.vfa_ir.specs.declared.functions.Inst.{Inst}
use Rattle.vfa_ir.specs.declared.functions.Param.{Param}
use Rattle.vfa_ir.specs.declared.functions.Phi.{Phi}
use Rattle.vfa_ir.specs.declared.functions.Term.{Term}
use Rattle.vfa_ir.specs.declared.operations.Bin.{Bin}
use Rattle.vfa_ir.specs.declared.operations.BlockId.{BlockId}
use Rattle.vfa_ir.specs.declared.operations.Cast.{Cast}
use Rattle.vfa_ir.specs.declared.operations.CastFlags.{CastFlags}
use Rattle.vfa_ir.specs.declared.operations.Flags.{Flags}
use Rattle.vfa_ir.specs.declared.operations.Fun1.{Fun1}
use Rattle.vfa_ir.specs.declared.operations.Op.{Op}
use Rattle.vfa_ir.specs.declared.operations.Operand.{Operand}
use Rattle.vfa_ir.specs.declared.operations.ValueId.{ValueId}
use Rattle.vfa_ir.specs.declared.syntax.BasicBlock.{BasicBlock}
use Rattle.vfa_ir.specs.declared.syntax.Operation.{Operation}
use Rattle.vfa_ir.specs.declared.syntax.Literal.{Literal}
use Rattle.vfa_ir.specs.Grammar.{IsWidth, FitsLiteral, FitsResultType}
use Rattle.vfa_ir.specs.Lexemes.{Lexeme, local, number, word}
use Rattle.vfa_ir.specs.Printable.{IsPrintable, IsOperand, IsBlock, AreOperands, HasItsCastFlags, HasItsFlags, PrintableArgument, PrintableCall, PrintableOp, PrintableInst, PrintablePhi, PrintableTerm, PrintableBlock, block_call_places, block_ids, call_place, inst_ids}
use Rattle.vfa_ir.specs.Resolution.{Scope}
use Rattle.vfa_ir.specs.Spelling as spell
use Rattle.vfa_ir.specs.Spelling.{open_round, close_round, open_square, close_square, comma, equals}
use Rattle.vfa_ir.specs.Tokens.{is_bracket}
use Rattle.vfa_ir.specs.Words.{is_among, call_words, cast_flags_of, flags_of, lead_words, parameter_words, fun1_word, fun2_word, over_word, callee}
use Rattle.vfa_print.specs.Trees.{name_at, block_name_at, operand_tree, literal_tree, flag_words, cast_flag_words, bare_call, strict_tree, argument_tree, call_tree, op_tree, inst_tree, entry_tree, phi_tree, case_tree, term_tree, label_tree, block_tree, blocks_tree, parameter_tree, width_at, tree_with}
use Rattle.vfa_print.proofs.EachElement.{each_append, each_at, each_map, each_weaker, each_parts, each_mapped, each_given}
use Rattle.vfa_print.proofs.FittingTrees.{one_bit, IsFlagOf, cast_flags_known, flags_known}
use Rattle.vfa_print.proofs.LanguageWords.{fixed_run, bin_run, call_run, pred_run, cast_run, cast_flag_run, flag_run, lead_run, parameter_run, type_run}
use Rattle.vfa_print.proofs.Lexed.{IsLexed, IsRunWord, IsLexedBlock, IsLexedTree}
use Rattle.vfa_print.proofs.NamesInScope.{HasNames, IsSomeName, each_parameter, block_ids_inside, call_places_inside, place_some}
use Rattle.vfa_print.proofs.SignedTexts.{literal_fits, decimal_number}

abbrev pub EachLexed : List Lexeme → Type 0
EachLexed = AllByRecursion IsLexed

together : (ls ms : List Lexeme) → EachLexed ls → EachLexed ms → EachLexed (ls ++ ms)
together = each_append IsLexed

-- marks
open_round_lexed : IsLexed open_round
unfolding is_bracket
open_round_lexed = refl

close_round_lexed : IsLexed close_round
unfolding is_bracket
close_round_lexed = refl

open_square_lexed : IsLexed open_square
unfolding is_bracket
open_square_lexed = refl

close_square_lexed : IsLexed close_square
unfolding is_bracket
close_square_lexed = refl

open_brace_lexed : IsLexed spell.open_brace
unfolding is_bracket
open_brace_lexed = refl

close_brace_lexed : IsLexed spell.close_brace
unfolding is_bracket
close_brace_lexed = refl

comma_lexed : IsLexed comma
unfolding is_bracket
comma_lexed = refl

equals_lexed : IsLexed equals
unfolding is_bracket
equals_lexed = refl

-- words, types and literals
words_lexed : (ws : List (List ℕ)) → AllByRecursion IsRunWord ws → EachLexed (map word ws)
words_lexed [] h = tt
words_lexed (w ∷ ws) h = (h.0, words_lexed ws h.1)

flags_lexed : (bin : Bin) (flags : Flags) → HasItsFlags bin flags → EachLexed (map word (flag_words flags))
flags_lexed bin flags h =
    words_lexed (flag_words flags) (each_weaker (IsFlagOf (flags_of bin)) IsRunWord (flag_run bin) (flag_words flags) (flags_known bin flags h))

cast_flags_lexed : (cast : Cast) (flags : CastFlags) → HasItsCastFlags cast flags → EachLexed (map word (cast_flag_words flags))
cast_flags_lexed cast flags h =
    words_lexed (cast_flag_words flags)
    (each_weaker (IsFlagOf (cast_flags_of cast)) IsRunWord (cast_flag_run cast) (cast_flag_words flags) (cast_flags_known cast flags h))

same_sign_lexed : (samesign : Bool) → EachLexed (spell.same_sign samesign)
same_sign_lexed true = (fixed_run (codes "samesign") refl, tt)
same_sign_lexed false = tt

result_type_lexed : (width : Option ℕ) → FitsResultType width → IsLexed (spell.result_type width)
result_type_lexed (Some width) w = type_run width w
result_type_lexed None w = fixed_run (codes "void") refl

-- lists with commas between their elements
further_lexed :
    {X : Type 0} (spelled : X → List Lexeme) (xs : List X) → AllByRecursion (λ x. EachLexed (spelled x)) xs →
    EachLexed (flat_map (λ x. (comma ∷ []) ++ spelled x) xs)
further_lexed spelled [] h = tt
further_lexed spelled (x ∷ xs) h = together (comma ∷ spelled x) _ (comma_lexed, h.0) (further_lexed spelled xs h.1)

joined_lexed :
    {X : Type 0} (spelled : X → List Lexeme) (xs : List X) → AllByRecursion (λ x. EachLexed (spelled x)) xs →
    EachLexed (join_by spelled (comma ∷ []) xs)
joined_lexed spelled [] h = tt
joined_lexed spelled (x ∷ xs) h = together (spelled x) _ h.0 (further_lexed spelled xs h.1)

pair_type_lexed : (width : ℕ) → IsWidth width → EachLexed (spell.pair_type width)
pair_type_lexed width w =
    (open_brace_lexed, (type_run width w, (comma_lexed, (type_run 1 one_bit, (close_brace_lexed, tt)))))

literal_lexed : (width : ℕ) (l : Literal) → FitsLiteral width l → EachLexed (spell.literal l)
literal_lexed width (Literal.Boolean true) h = (fixed_run (codes "true") refl, tt)
literal_lexed width (Literal.Boolean false) h = (fixed_run (codes "false") refl, tt)
literal_lexed width (Literal.Number text) h = (h.digits, tt)

strict_lexed : (fun : Fun1) (strict : Bool) → EachLexed (spell.strict_argument (strict_tree fun strict))
strict_lexed Fun1.Abs strict = (comma_lexed, (type_run 1 one_bit, literal_lexed 1 (Literal.Boolean strict) refl))
strict_lexed Fun1.Ctlz strict = (comma_lexed, (type_run 1 one_bit, literal_lexed 1 (Literal.Boolean strict) refl))
strict_lexed Fun1.Cttz strict = (comma_lexed, (type_run 1 one_bit, literal_lexed 1 (Literal.Boolean strict) refl))
strict_lexed Fun1.Ctpop strict = tt

-- calls and targets
cons_some : (c : ℕ) (cs : List ℕ) → IsSomeName (c ∷ cs)
cons_some c cs e = cc

callee_name : (intrinsic : List ℕ) (width : ℕ) → IsSomeName (callee intrinsic width)
callee_name intrinsic width = cons_some 108 _

call_lexed :
    (result : List Lexeme) (name : List ℕ) (arguments : List Lexeme) → EachLexed result → IsSomeName name → EachLexed arguments →
    EachLexed (spell.call bare_call result name arguments)
call_lexed result name arguments r n a = (
  fixed_run (codes "call") refl,
  together result _ r (n, (open_round_lexed, together arguments _ a (close_round_lexed, tt))),
)

target_lexed : (name : List ℕ) → IsSomeName name → EachLexed (spell.target name)
target_lexed name n = (fixed_run (codes "label") refl, (n, tt))

switch_lexed :
    (default : List ℕ) → IsSomeName default → (cases : List Lexeme) → EachLexed cases →
    EachLexed (spell.target default ++ (open_square ∷ (cases ++ (close_square ∷ []))))
switch_lexed default n cases h =
    together (spell.target default) (open_square ∷ (cases ++ (close_square ∷ []))) (target_lexed default n)
    (open_square_lexed, together cases (close_square ∷ []) h (close_square_lexed, tt))

module _ (f : Function) (scope : Scope) (names : HasNames f scope) (calls : AllByRecursion (PrintableCall f) f.calls) where
  abbrev typed_tree : ℕ → Operand → List Lexeme
  typed_tree width a = spell.typed width (operand_tree scope width a)

  abbrev typed_trees : ℕ → Operand → Operand → List Lexeme
  typed_trees width a b = typed_tree width a ++ (comma ∷ typed_tree width b)

  value_lexed :
      (width : ℕ) (a : Operand) → IsWidth width → IsOperand f width a →
      EachLexed (spell.value (operand_tree scope width a))
  value_lexed width (Operand.Value v) w h = (names.values v.0 h, tt)
  value_lexed width (Operand.Literal bits) w h = literal_lexed width (literal_tree width bits) (literal_fits width bits w h)
  value_lexed width Operand.Poison w h = (fixed_run (codes "poison") refl, tt)

  typed_lexed : (width : ℕ) (a : Operand) → IsWidth width → IsOperand f width a → EachLexed (typed_tree width a)
  typed_lexed width a w h = (type_run width w, value_lexed width a w h)

  value_pair :
      (width : ℕ) (a b : Operand) → AreOperands f width a b →
      EachLexed (typed_tree width a ++ (comma ∷ spell.value (operand_tree scope width b)))
  value_pair width a b h = together (typed_tree width a) _
      (typed_lexed width a h.of_width h.first) (comma_lexed, value_lexed width b h.of_width h.second)

  typed_pair : (width : ℕ) (a b : Operand) → AreOperands f width a b → EachLexed (typed_trees width a b)
  typed_pair width a b h = together (typed_tree width a) _
      (typed_lexed width a h.of_width h.first) (comma_lexed, typed_lexed width b h.of_width h.second)

  -- calls of functions that are no intrinsics
  argument_lexed : (a : CallArg) → PrintableArgument f a → EachLexed (spell.argument (argument_tree scope a))
  argument_lexed a h =
      let words = each_weaker (λ w. IsTrue (is_among w parameter_words)) IsRunWord parameter_run a.words
      (recursion_from_All (λ w. IsTrue (is_among w parameter_words)) a.words h.words) in
      (type_run a.width h.width, together (map word a.words) _ (words_lexed a.words words) (value_lexed a.width a.value h.width h.value))

  arguments_lexed :
      (args : List CallArg) → AllByRecursion (PrintableArgument f) args →
      EachLexed (join_by spell.argument (comma ∷ []) (map (argument_tree scope) args))
  arguments_lexed args h =
      joined_lexed spell.argument (map (argument_tree scope) args)
      (each_map (λ a. EachLexed (spell.argument a)) (argument_tree scope) args
      (each_weaker (PrintableArgument f) (λ a. EachLexed (spell.argument (argument_tree scope a))) argument_lexed args h))

  call_tree_lexed :
      (width : Option ℕ) → FitsResultType width → (o : Option CallOp) → (o ≡ None → ⊥) →
      ((c : CallOp) → o ≡ Some c → PrintableCall f c) → EachLexed (spell.operation (call_tree scope width o))
  call_tree_lexed width w None some h = absurd (some refl)
  call_tree_lexed width w (Some c) some h =
      let call = h c refl in
      let words = each_weaker (λ w. IsTrue (is_among w call_words)) IsRunWord call_run c.words
      (recursion_from_All (λ w. IsTrue (is_among w call_words)) c.words call.words) in
      call_lexed (map word c.words ++ (spell.result_type width ∷ [])) c.callee
      (join_by spell.argument (comma ∷ []) (map (argument_tree scope) c.args))
      (together (map word c.words) (spell.result_type width ∷ []) (words_lexed c.words words) (result_type_lexed width w, tt))
      call.some (arguments_lexed c.args (recursion_from_All (PrintableArgument f) c.args call.arguments))

  -- the place of a call is one of the function's
  abbrev IsCallPlace : Op → Type 0
  IsCallPlace op = (k : ℕ) → call_place op ≡ Some k → k < length f.calls

  op_lexed : (op : Op) → PrintableOp f op → IsCallPlace op → EachLexed (spell.operation (op_tree scope f.calls op))
  op_lexed (Op.Bin bin flags width a b) h place =
      (bin_run bin, together (map word (flag_words flags)) _ (flags_lexed bin flags h.0) (value_pair width a b h.1))
  op_lexed (Op.Icmp pred samesign width a b) h place =
      (fixed_run (codes "icmp") refl, together (spell.same_sign samesign) _ (same_sign_lexed samesign) (pred_run pred, value_pair width a b h))
  op_lexed (Op.Select width c a b) h place = (
    fixed_run (codes "select") refl,
    together (typed_tree 1 c) _ (typed_lexed 1 c one_bit h.0) (comma_lexed, typed_pair width a b h.1),
  )
  op_lexed (Op.Cast cast flags from to a) h place = (
    cast_run cast,
    together (map word (cast_flag_words flags)) _ (cast_flags_lexed cast flags h.0)
        (together (typed_tree from a) _ (typed_lexed from a h.1 h.2) (fixed_run (codes "to") refl, (type_run to h.3, tt))),
  )
  op_lexed (Op.Freeze width a) h place = (fixed_run (codes "freeze") refl, typed_lexed width a h.0 h.1)
  op_lexed (Op.Two fun width a b) h place =
      call_lexed (spell.type width ∷ []) (callee (fun2_word fun) width) (typed_trees width a b)
      (type_run width h.of_width, tt) (callee_name (fun2_word fun) width) (typed_pair width a b h)
  op_lexed (Op.One fun width a strict) h place =
      call_lexed (spell.type width ∷ []) (callee (fun1_word fun) width)
      (typed_tree width a ++ spell.strict_argument (strict_tree fun strict))
      (type_run width h.0, tt) (callee_name (fun1_word fun) width)
      (together (typed_tree width a) _ (typed_lexed width a h.0 h.1) (strict_lexed fun strict))
  op_lexed (Op.Over over width a b) h place =
      call_lexed (spell.pair_type width) (callee (over_word over) width) (typed_trees width a b)
      (pair_type_lexed width h.of_width) (callee_name (over_word over) width) (typed_pair width a b h)
  op_lexed (Op.Part width pair index) h place =
      let most : index ≤ 1 = h.2 in (
        fixed_run (codes "extractvalue") refl,
        together (spell.pair_type width) (local (name_at scope.values pair.0) ∷ comma ∷ number (decimal index) ∷ [])
            (pair_type_lexed width h.0)
            (names.values pair.0 h.1, (comma_lexed, (decimal_number index (omega arith), tt))),
      )
  op_lexed (Op.Assume c) h place =
      call_lexed (word (codes "void") ∷ []) (codes "llvm.assume") (typed_tree 1 c)
      (fixed_run (codes "void") refl, tt) (cons_some 108 _) (typed_lexed 1 c one_bit h)
  op_lexed (Op.Call width at) h place =
      call_tree_lexed width h (slice_get f.calls at) (place_some f.calls at (place at refl))
      (λ c e. each_at (PrintableCall f) f.calls at c calls e)

  -- instructions
  abbrev IsResult : Option ValueId → Type 0
  IsResult r = (v : ℕ) → (elim r [ None ↦ None | Some v ↦ Some v.0 ]) ≡ Some v → v < length f.values

  result_lexed : (r : Option ValueId) → IsResult r → EachLexed (spell.result (option_map (λ v. name_at scope.values v.0) r))
  result_lexed None h = tt
  result_lexed (Some v) h = (names.values v.0 (h v.0 refl), (equals_lexed, tt))

  inst_lexed :
      (i : Inst) → PrintableInst f i → IsResult i.result → IsCallPlace i.op →
      EachLexed (spell.instruction (inst_tree scope f.calls i))
  inst_lexed i h r place =
      let op : Operation = op_tree scope f.calls i.op in
      together (spell.result (option_map (λ v. name_at scope.values v.0) i.result)) _ (result_lexed i.result r)
      (together (spell.operation op) [] (op_lexed i.op h.op place) tt)

  -- phis
  abbrev IsEntry : ℕ → Operand × BlockId → Type 0
  IsEntry width e = IsOperand f width e.0 × IsBlock f e.1

  entry_lexed :
      (width : ℕ) (e : Operand × BlockId) → IsWidth width → IsEntry width e →
      EachLexed (spell.incoming (entry_tree scope width e))
  entry_lexed width e w h = (
    open_square_lexed,
    together (spell.value (operand_tree scope width e.0)) _ (value_lexed width e.0 w h.0)
        (comma_lexed, (names.blocks e.1.0 h.1, (close_square_lexed, tt))),
  )

  phi_lexed : (p : Phi) → PrintablePhi f p → p.result.0 < length f.values → EachLexed (spell.phi (phi_tree scope p))
  phi_lexed p h lt =
      let entries =
      joined_lexed spell.incoming (map (entry_tree scope p.width) p.entries)
      (each_map (λ i. EachLexed (spell.incoming i)) (entry_tree scope p.width) p.entries
      (each_weaker (IsEntry p.width) (λ e. EachLexed (spell.incoming (entry_tree scope p.width e)))
      (λ e k. entry_lexed p.width e h.width k) p.entries (recursion_from_All (IsEntry p.width) p.entries h.entries))) in (
        names.values p.result.0 lt,
        (
          equals_lexed,
          (
            fixed_run (codes "phi") refl,
            (
              type_run p.width h.width,
              together (join_by spell.incoming (comma ∷ []) (map (entry_tree scope p.width) p.entries)) [] entries tt,
            ),
          ),
        ),
      )

  -- terminators
  abbrev IsCase : ℕ → ℕ × BlockId → Type 0
  IsCase width c = (c.0 < 2 ^ width) × IsBlock f c.1

  cases_lexed :
      (width : ℕ) → IsWidth width → (cases : List (ℕ × BlockId)) → AllByRecursion (IsCase width) cases →
      EachLexed (flat_map (spell.switch_case width) (map (case_tree scope width) cases))
  cases_lexed width w [] h = tt
  cases_lexed width w (c ∷ cases) h =
      together (spell.switch_case width (case_tree scope width c)) _ (
        type_run width w,
        together (spell.literal (literal_tree width c.0)) _ (literal_lexed width (literal_tree width c.0) (literal_fits width c.0 w h.0.0))
            (comma_lexed, target_lexed (block_name_at scope c.1) (names.blocks c.1.0 h.0.1)),
      )
      (cases_lexed width w cases h.1)

  term_lexed : (t : Term) → PrintableTerm f t → EachLexed (spell.terminator_kind (term_tree scope t))
  term_lexed (Term.Ret width a) h = (fixed_run (codes "ret") refl, typed_lexed width a h.0 h.1)
  term_lexed (Term.Br to) h = (fixed_run (codes "br") refl, target_lexed (block_name_at scope to) (names.blocks to.0 h))
  term_lexed (Term.CondBr c taken fallen) h = (
    fixed_run (codes "br") refl,
    together (typed_tree 1 c) _ (typed_lexed 1 c one_bit h.0) (
      comma_lexed,
      together (spell.target (block_name_at scope taken)) (comma ∷ spell.target (block_name_at scope fallen))
          (target_lexed (block_name_at scope taken) (names.blocks taken.0 h.1))
          (comma_lexed, target_lexed (block_name_at scope fallen) (names.blocks fallen.0 h.2)),
    ),
  )
  term_lexed (Term.Switch width on default cases) h = (
    fixed_run (codes "switch") refl,
    together (typed_tree width on) _ (typed_lexed width on h.0 h.1) (
      comma_lexed,
      switch_lexed (block_name_at scope default) (names.blocks default.0 h.2)
          (flat_map (spell.switch_case width) (map (case_tree scope width) cases))
          (cases_lexed width h.0 cases (recursion_from_All (IsCase width) cases h.3)),
    ),
  )
  term_lexed Term.Unreachable h = (fixed_run (codes "unreachable") refl, tt)

  -- blocks
  abbrev IsValue : ℕ → Type 0
  IsValue v = v < length f.values

  insts_lexed :
      (insts : List Inst) → AllByRecursion (PrintableInst f) insts → AllByRecursion (λ i. IsResult i.result) insts →
      AllByRecursion (λ (i : Inst). IsCallPlace i.op) insts →
      EachLexed (flat_map spell.instruction (map (inst_tree scope f.calls) insts))
  insts_lexed [] h r places = tt
  insts_lexed (i ∷ insts) h r places =
      together (spell.instruction (inst_tree scope f.calls i)) _ (inst_lexed i h.0 r.0 places.0) (insts_lexed insts h.1 r.1 places.1)

  phis_lexed :
      (phis : List Phi) → AllByRecursion (PrintablePhi f) phis → AllByRecursion (λ (p : Phi). IsValue p.result.0) phis →
      EachLexed (flat_map spell.phi (map (phi_tree scope) phis))
  phis_lexed [] h v = tt
  phis_lexed (p ∷ phis) h v = together (spell.phi (phi_tree scope p)) _ (phi_lexed p h.0 v.0) (phis_lexed phis h.1 v.1)

  label_lexed : (place : ℕ) (b : Block) → place < length f.blocks → EachLexed (spell.block_label (label_tree scope place b))
  label_lexed place b lt = go (place == 0 && is_none b.name)
    where
      go : (t : Bool) → EachLexed (spell.block_label (cond t None (Some (name_at scope.blocks place))))
      go true = tt
      go false = (names.blocks place lt, tt)

  -- the places of calls
  abbrev IsPlace : ℕ → Type 0
  IsPlace k = k < length f.calls

  block_lexed :
      (place : ℕ) (b : Block) → place < length f.blocks → PrintableBlock f b → AllByRecursion IsValue (block_ids b) →
      AllByRecursion IsPlace (block_call_places b) → EachLexed (spell.block (block_tree scope f.calls place b))
  block_lexed place b lt h v places =
      let ids = each_parts IsValue (map (λ p. p.result.0) b.phis) (inst_ids b.insts) v in
      let phis = each_mapped IsValue (λ p. p.result.0) b.phis ids.0 in
      let results = each_given IsValue (λ i. elim i.result [ None ↦ None | Some v ↦ Some v.0 ]) b.insts ids.1 in
      let called = each_given IsPlace (λ i. call_place i.op) b.insts places in
      together (spell.block_label (label_tree scope place b)) _ (label_lexed place b lt)
      (together (flat_map spell.phi (map (phi_tree scope) b.phis)) _
      (phis_lexed b.phis (recursion_from_All (PrintablePhi f) b.phis h.phis) phis)
      (together (flat_map spell.instruction (map (inst_tree scope f.calls) b.insts)) _
      (insts_lexed b.insts (recursion_from_All (PrintableInst f) b.insts h.insts) results called)
      (together (spell.terminator_kind (term_tree scope b.term)) [] (term_lexed b.term h.term) tt)))

  blocks_lexed :
      (place : ℕ) (bs : List Block) → place + length bs ≤ length f.blocks → AllByRecursion (PrintableBlock f) bs →
      AllByRecursion (λ b. AllByRecursion IsValue (block_ids b)) bs →
      AllByRecursion (λ b. AllByRecursion IsPlace (block_call_places b)) bs →
      AllByRecursion IsLexedBlock (blocks_tree scope f.calls place bs)
  blocks_lexed place [] lt h v places = tt
  blocks_lexed place (b ∷ bs) lt h v places =
      let tree : BasicBlock = block_tree scope f.calls place b in (
        record { tokens = All-from_recursion IsLexed (spell.block tree) (block_lexed place b (omega arith) h.0 v.0 places.0); bare = refl },
        blocks_lexed (suc place) bs (omega arith) h.1 v.1 places.1,
      )

  -- the header
  abbrev IsParameter : Param → Type 0
  IsParameter p = IsWidth (width_at f.values p.value.0) × (p.value.0 < length f.values)

  abbrev HasItsWords : Param → Type 0
  HasItsWords p = All (λ w. IsTrue (is_among w parameter_words)) p.words

  parameter_lexed : (p : Param) → IsParameter p → HasItsWords p → EachLexed (spell.parameter (parameter_tree scope f.values p))
  parameter_lexed p h k =
      let words = each_weaker (λ w. IsTrue (is_among w parameter_words)) IsRunWord parameter_run p.words
      (recursion_from_All (λ w. IsTrue (is_among w parameter_words)) p.words k) in
      (type_run (width_at f.values p.value.0) h.0, together (map word p.words) _ (words_lexed p.words words) (names.values p.value.0 h.1, tt))

  parameters_lexed :
      (ps : List Param) → AllByRecursion IsParameter ps → AllByRecursion HasItsWords ps →
      AllByRecursion (λ p. EachLexed (spell.parameter p)) (map (parameter_tree scope f.values) ps)
  parameters_lexed [] h k = tt
  parameters_lexed (p ∷ ps) h k = (parameter_lexed p h.0 k.0, parameters_lexed ps h.1 k.1)

  header_lexed : IsPrintable f → EachLexed (spell.header (tree_with scope f))
  header_lexed h =
      let leads = each_weaker (λ w. IsTrue (is_among w lead_words)) IsRunWord lead_run f.lead
      (recursion_from_All (λ w. IsTrue (is_among w lead_words)) f.lead h.lead) in (
        fixed_run (codes "define") refl,
        together (map word f.lead) _ (words_lexed f.lead leads) (
          type_run f.width h.width,
          (
            h.name,
            (
              open_round_lexed,
              together (join_by spell.parameter (comma ∷ []) (map (parameter_tree scope f.values) f.params)) _
                  (joined_lexed spell.parameter (map (parameter_tree scope f.values) f.params)
                  (parameters_lexed f.params (each_parameter f h) (recursion_from_All HasItsWords f.params h.words)))
                  (close_round_lexed, tt),
            ),
          ),
        ),
      )

  pub scoped_tree_lexed : IsPrintable f → IsLexedTree (tree_with scope f)
  scoped_tree_lexed h = record {
    header = All-from_recursion IsLexed (spell.header (tree_with scope f)) (header_lexed h);
    blocks = All-from_recursion IsLexedBlock (blocks_tree scope f.calls 0 f.blocks)
        (blocks_lexed 0 f.blocks (omega arith) (recursion_from_All (PrintableBlock f) f.blocks h.blocks) (block_ids_inside f h)
        (call_places_inside f h));
  }
