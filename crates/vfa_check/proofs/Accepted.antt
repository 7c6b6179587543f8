-- A text that is accepted gives a function that may be checked.
use Rattle.std.proofs.Common.{◌≡◌, ◌∙◌, ℕ, suc, ◌+◌, ◌≤◌, ◌^◌, ◌||◌, Bool, true, false, cond, ltb, List, [], ◌∷◌, ◌++◌, map, length, drop, Some, None, Option, refl, ap, ap₂, subst, arith}
use Rattle.std.proofs.lemmas.Bool.{ltb-false}
use Rattle.std.proofs.lemmas.List.{length-append, length-map}
use Rattle.std.proofs.lemmas.List.Elements.{All-from_recursion}
use Rattle.std.specs.List.{AllByRecursion, list_any}
use Rattle.vfa_ir.specs.declared.functions.Block.{Block}
use Rattle.vfa_ir.specs.declared.functions.Function.{Function}
use Rattle.vfa_ir.specs.declared.functions.Lines.{Lines}
use Rattle.vfa_ir.specs.declared.reasons.Kind.{Kind}
use Rattle.vfa_ir.specs.declared.syntax.BasicBlock.{BasicBlock}
use Rattle.vfa_ir.specs.declared.syntax.Instruction.{Instruction}
use Rattle.vfa_ir.specs.declared.operations.BlockId.{BlockId}
use Rattle.vfa_ir.specs.declared.syntax.SwitchCase.{SwitchCase}
use Rattle.vfa_ir.specs.declared.syntax.TerminatorKind.{TerminatorKind}
use Rattle.vfa_ir.specs.declared.tokens.Token.{Token}
use Rattle.vfa_ir.specs.DefinedNames.{value_names}
use Rattle.vfa_ir.specs.PhisFit.{targets}
use Rattle.vfa_ir.specs.Reads.{IsAccepted, ReadsTokens, cases_of, tail_bytes, too_many}
use Rattle.vfa_ir.specs.Resolution.{Scope, block_id, block_of, blocks_of, call_count, function_of, insts_of, is_call, literal_bits, phi_of, scope_of, term_of}
use Rattle.vfa_ir.specs.Sentence.{Sentence}
use Rattle.vfa_ir.specs.Spelling.{block, block_label, instruction, phi, terminator}
use Rattle.vfa_ir.specs.TextLines.{block_lines, first_lines, item_lengths}
use Rattle.vfa_ir.specs.Tokens.{tokens_of}
use Rattle.vfa_check.specs.Checked.{IsSmall, MayBeChecked}
use Rattle.vfa_check.specs.Items.{HasItsLines, item_count}
use Rattle.vfa_check.proofs.WithinFit.{blocks_counted, values_named}

-- the lines
each_line : (ns lines : List ℕ) → length (first_lines ns lines) ≡ length ns
each_line [] lines = refl
each_line (n ∷ ns) lines = ap suc (each_line ns (drop n lines))

insts_counted : (scope : Scope) (n : ℕ) (is : List Instruction) → length (insts_of scope n is) ≡ length is
insts_counted scope n [] = refl
insts_counted scope n (i ∷ is) = ap suc (insts_counted scope (cond (is_call i) (suc n) n) is)

items_counted : (scope : Scope) (n : ℕ) (b : BasicBlock) → length (item_lengths b) ≡ item_count (block_of scope n b)
items_counted scope n b =
    let phis : length (map (phi_of scope) b.phis) ≡ length b.phis = length-map b.phis (phi_of scope) in
    let insts : length (insts_of scope n b.instructions) ≡ length b.instructions = insts_counted scope n b.instructions in
    let first : length (map (λ p. length (phi p)) b.phis) ≡ length b.phis = length-map b.phis (λ p. length (phi p)) in
    let second : length (map (λ i. length (instruction i)) b.instructions) ≡ length b.instructions = length-map b.instructions (λ i. length (instruction i)) in
    let back : List ℕ = map (λ i. length (instruction i)) b.instructions ++ (length (terminator b.terminator) ∷ []) in
    let whole : length (item_lengths b) ≡ length (map (λ p. length (phi p)) b.phis) + length back = length-append (map (λ p. length (phi p)) b.phis) back in
    let rest : length back ≡ length (map (λ i. length (instruction i)) b.instructions) + 1 =
    length-append (map (λ i. length (instruction i)) b.instructions) (length (terminator b.terminator) ∷ []) in
    omega arith

rows_counted : (scope : Scope) (n : ℕ) (bs : List BasicBlock) (lines : List ℕ) →
    map length (block_lines bs lines) ≡ map item_count (blocks_of scope n bs)
rows_counted scope n [] lines = refl
rows_counted scope n (b ∷ bs) lines =
    ap₂ (λ (m : ℕ) (ms : List ℕ). m ∷ ms)
    (each_line (item_lengths b) (drop (length (block_label b.label)) lines) ∙ items_counted scope n b)
    (rows_counted scope (n + call_count b) bs (drop (length (block b)) lines))

pub read_has_its_lines : (text : List ℕ) (tokens : List Token) (f : Function) (lines : Lines) → ReadsTokens text tokens f lines → HasItsLines f lines
read_has_its_lines text tokens f lines r =
    let s : Sentence = r.sentence in
    subst (λ g. HasItsLines g lines) r.function
    (subst (HasItsLines (function_of s (tail_bytes text tokens s))) r.places (rows_counted (scope_of s) 0 s.blocks _))

-- the limits
none_kept : (t : Bool) (k : Kind) (rest : Option Kind) → cond t (Some k) rest ≡ None → (t ≡ false) × (rest ≡ None)
none_kept true k rest h = absurd (cc)
none_kept false k rest h = (refl, h)

few_targets : (scope : Scope) (t : TerminatorKind) → ltb 1024 (cases_of t) ≡ false → length (targets (term_of scope t)) ≤ 2 ^ 28 + 1
few_targets scope (TerminatorKind.Return width a) h = omega arith
few_targets scope (TerminatorKind.Always to) h = omega arith
few_targets scope (TerminatorKind.Condition c taken fallen) h = omega arith
few_targets scope (TerminatorKind.Switch width on default cases) h =
    let few : length cases ≤ 1024 = ltb-false 1024 (length cases) h in
    let case_of : SwitchCase → ℕ × BlockId = λ c. (literal_bits width c.number, block_id scope c.block) in
    let long : length (map (λ (c : ℕ × BlockId). c.1) (map case_of cases)) ≡ length cases =
    length-map (map case_of cases) (λ (c : ℕ × BlockId). c.1) ∙ length-map cases case_of in
    omega arith
few_targets scope TerminatorKind.Unreachable h = omega arith

or_none : (a b : Bool) → (a || b) ≡ false → (a ≡ false) × (b ≡ false)
or_none true b h = absurd (cc)
or_none false b h = (refl, h)

few_cases : (scope : Scope) (n : ℕ) (bs : List BasicBlock) → list_any (λ b. ltb 1024 (cases_of b.terminator.kind)) bs ≡ false →
    AllByRecursion (λ (b : Block). length (targets b.term) ≤ 2 ^ 28 + 1) (blocks_of scope n bs)
few_cases scope n [] h = tt
few_cases scope n (b ∷ bs) h =
    let parts = or_none (ltb 1024 (cases_of b.terminator.kind)) (list_any (λ b. ltb 1024 (cases_of b.terminator.kind)) bs) h in
    (few_targets scope b.terminator.kind parts.0, few_cases scope (n + call_count b) bs parts.1)

sentence_small : (s : Sentence) (tail : List ℕ) → too_many s ≡ None → IsSmall (function_of s tail)
sentence_small s tail kept =
    let f : Function = function_of s tail in
    let first = none_kept (ltb 4096 (length (value_names s))) Kind.Names _ kept in
    let second = none_kept (ltb 1024 (length s.blocks)) Kind.Blocks _ first.1 in
    let third = none_kept (list_any (λ b. ltb 1024 (cases_of b.terminator.kind)) s.blocks) Kind.Cases None second.1 in
    let names : length (value_names s) ≤ 4096 = ltb-false 4096 (length (value_names s)) first.0 in
    let values : length f.values ≡ length (value_names s) = values_named s tail in
    let blocks : length s.blocks ≤ 1024 = ltb-false 1024 (length s.blocks) second.0 in
    let counted : length f.blocks ≡ length s.blocks = blocks_counted (scope_of s) 0 s.blocks in
    record {
      values = omega arith;
      few = record {
        blocks = omega arith;
        cases = All-from_recursion (λ (b : Block). length (targets b.term) ≤ 2 ^ 28 + 1) f.blocks (few_cases (scope_of s) 0 s.blocks third.0);
      };
    }

pub accepted_may_be_checked : (text : List ℕ) (f : Function) (lines : Lines) → IsAccepted text (tokens_of text) f lines → MayBeChecked f lines
accepted_may_be_checked text f lines a =
    let r = a.reads in
    record {
      fit = record { text = text; lines = lines; reads = r };
      small = subst IsSmall r.function (sentence_small r.sentence (tail_bytes text (tokens_of text) r.sentence) a.kept);
      each_line = read_has_its_lines text (tokens_of text) f lines r;
    }
