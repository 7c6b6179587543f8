-- The names of a text are not empty.
use Rattle.std.proofs.Common.{◌≡◌, ◌∙◌, ℕ, ◌+◌, ◌-◌, ◌==◌, Bool, true, false, List, [], ◌∷◌, ◌++◌, length, take, drop, map, flat_map, filter_map, All, if◌then◌else◌, Option, Some, None, unwrap_or, decimal, count_by, refl, sym, ap, subst, true≢false}
use Rattle.std.proofs.lemmas.List.Elements.{All-from_recursion}
use Rattle.std.specs.List.{AllByRecursion, cons_option, join_by}
use Rattle.std.specs.Str.{byte}
use Rattle.vfa_ir.specs.declared.syntax.BasicBlock.{BasicBlock}
use Rattle.vfa_ir.specs.declared.syntax.Instruction.{Instruction}
use Rattle.vfa_ir.specs.declared.syntax.Parameter.{Parameter}
use Rattle.vfa_ir.specs.declared.syntax.PhiNode.{PhiNode}
use Rattle.vfa_ir.specs.declared.tokens.Token.{Token}
use Rattle.vfa_ir.specs.declared.tokens.TokenKind.{TokenKind}
use Rattle.vfa_ir.specs.declared.tokens.TokenKind.TheVariants as Kind
use Rattle.vfa_ir.specs.DefinedNames.{block_name, block_names, block_results, is_numbered, parameter_names, value_names}
use Rattle.vfa_ir.specs.Lexemes.{Lexeme, local, global, label, nameless_local, nameless_global, nameless_label, word}
use Rattle.vfa_ir.specs.Names.{decoded}
use Rattle.vfa_ir.specs.Printable.{IsKeptName, kept_names}
use Rattle.vfa_ir.specs.Resolution.{function_of}
use Rattle.vfa_ir.specs.Sentence.{Sentence}
use Rattle.vfa_ir.specs.Spelling as spell
use Rattle.vfa_ir.specs.TokenLexemes.{lexeme_of, lexemes, named, quoted_name, written_name}
use Rattle.vfa_ir.specs.Words.{is_digits}
use Rattle.vfa_print.proofs.NamesInOrder.{decimal_digits, kept_are}
use Rattle.vfa_print.proofs.PrintableParts.{all_back, all_both, all_prefix}
use Rattle.vfa_print.proofs.ResultsInOrder.{kept_in}

abbrev pub IsSome : List ℕ → Type 0
IsSome name = name ≡ [] → ⊥

abbrev pub HasName : Lexeme → Type 0
HasName (local name) = IsSome name
HasName (global name) = IsSome name
HasName (label name) = IsSome name
HasName _ = Unit {0}

-- whatever the text of a token is
abbrev IfNamed : Option (List ℕ) → Type 0
IfNamed None = Unit {0}
IfNamed (Some name) = IsSome name

cons_some : (c : ℕ) (cs : List ℕ) → IsSome (c ∷ cs)
cons_some c cs e = cc

quoted_some : (text : List ℕ) → IfNamed (quoted_name text)
quoted_some [] = tt
quoted_some (c ∷ cs) = go (is_digits (c ∷ cs))
  where
    go : (b : Bool) → IfNamed (if b then None else Some (c ∷ cs))
    go true = tt
    go false = cons_some c cs

written_some : (text : List ℕ) → IfNamed (written_name text)
written_some [] = tt
written_some (c ∷ cs) = go (c == byte "\"")
  where
    go : (b : Bool) → IfNamed (if b then quoted_name (decoded (take (length cs - 1) cs)) else Some (c ∷ cs))
    go true = quoted_some (decoded (take (length cs - 1) cs))
    go false = cons_some c cs

local_some : (o : Option (List ℕ)) → IfNamed o → HasName (named local nameless_local o)
local_some None h = tt
local_some (Some name) h = h

global_some : (o : Option (List ℕ)) → IfNamed o → HasName (named global nameless_global o)
global_some None h = tt
global_some (Some name) h = h

label_some : (o : Option (List ℕ)) → IfNamed o → HasName (named label nameless_label o)
label_some None h = tt
label_some (Some name) h = h

lexeme_some : (kind : TokenKind) (text : List ℕ) → HasName (lexeme_of kind text)
lexeme_some Kind.Local text = local_some _ (written_some (drop 1 text))
lexeme_some Kind.Global text = global_some _ (written_some (drop 1 text))
lexeme_some Kind.Label text = label_some _ (written_some (take (length text - 1) text))
lexeme_some Kind.Meta text = tt
lexeme_some Kind.Group text = tt
lexeme_some Kind.Number text = tt
lexeme_some Kind.Word text = tt
lexeme_some Kind.String text = tt
lexeme_some Kind.Mark text = tt
lexeme_some Kind.Other text = tt

pub lexemes_some : (text : List ℕ) (ts : List Token) → AllByRecursion HasName (lexemes text ts)
lexemes_some text [] = tt
lexemes_some text (t ∷ ts) = (lexeme_some t.kind _, lexemes_some text ts)

-- A sentence whose lexemes have names

pub after_words : (ws : List (List ℕ)) (rest : List Lexeme) → AllByRecursion HasName (map word ws ++ rest) → AllByRecursion HasName rest
after_words [] rest h = h
after_words (w ∷ ws) rest h = after_words ws rest h.1

decimal_some : (k : ℕ) → IsSome (decimal k)
decimal_some k e = true≢false (sym (decimal_digits k) ∙ ap is_digits e)

parameter_some : (k : ℕ) (p : Parameter) → AllByRecursion HasName (spell.parameter p) → IsSome (unwrap_or p.name (decimal k))
parameter_some k p h = go p.name (after_words p.words (spell.parameter_name p.name) h.1)
  where
    go : (o : Option (List ℕ)) → AllByRecursion HasName (spell.parameter_name o) → IsSome (unwrap_or o (decimal k))
    go None all = decimal_some k
    go (Some name) all = all.0

further_some : (k : ℕ) (ps : List Parameter) → AllByRecursion HasName (flat_map (λ p. (spell.comma ∷ []) ++ spell.parameter p) ps) → AllByRecursion IsSome (parameter_names k ps)
further_some k [] h = tt
further_some k (p ∷ ps) h =
    (parameter_some k p (all_prefix HasName (spell.parameter p) _ h.1), further_some (if is_numbered p then k + 1 else k) ps (all_back HasName (spell.parameter p) _ h.1))

parameters_some : (ps : List Parameter) → AllByRecursion HasName (join_by spell.parameter (spell.comma ∷ []) ps) → AllByRecursion IsSome (parameter_names 0 ps)
parameters_some [] h = tt
parameters_some (p ∷ ps) h =
    (parameter_some 0 p (all_prefix HasName (spell.parameter p) _ h), further_some (if is_numbered p then 0 + 1 else 0) ps (all_back HasName (spell.parameter p) _ h))

phis_some : (ps : List PhiNode) → AllByRecursion HasName (flat_map spell.phi ps) → AllByRecursion IsSome (map (λ (p : PhiNode). p.result) ps)
phis_some [] h = tt
phis_some (p ∷ ps) h = (h.0, phis_some ps (all_back HasName (spell.phi p) _ h))

insts_some :
    (is : List Instruction) → AllByRecursion HasName (flat_map spell.instruction is) →
    AllByRecursion IsSome (filter_map (λ (i : Instruction). i.result) is)
insts_some [] h = tt
insts_some (i ∷ is) h =
    go i.result (all_prefix HasName (spell.result i.result) _ (all_prefix HasName (spell.instruction i) _ h))
    (insts_some is (all_back HasName (spell.instruction i) _ h))
  where
    go :
        (o : Option (List ℕ)) → AllByRecursion HasName (spell.result o) →
        AllByRecursion IsSome (filter_map (λ (i : Instruction). i.result) is) →
        AllByRecursion IsSome (cons_option o (filter_map (λ (i : Instruction). i.result) is))
    go None all again = again
    go (Some name) all again = (all.0, again)

-- the parts of a block
pub of_phis : (b : BasicBlock) → AllByRecursion HasName (spell.block b) → AllByRecursion HasName (flat_map spell.phi b.phis)
of_phis b h = all_prefix HasName (flat_map spell.phi b.phis) _ (all_back HasName (spell.block_label b.label) _ h)

pub of_instructions :
    (b : BasicBlock) → AllByRecursion HasName (spell.block b) → AllByRecursion HasName (flat_map spell.instruction b.instructions)
of_instructions b h =
    all_prefix HasName (flat_map spell.instruction b.instructions) _
    (all_back HasName (flat_map spell.phi b.phis) _ (all_back HasName (spell.block_label b.label) _ h))

blocks_some : (bs : List BasicBlock) → AllByRecursion HasName (flat_map spell.block bs) → AllByRecursion IsSome (flat_map block_results bs)
blocks_some [] h = tt
blocks_some (b ∷ bs) h =
    let here = all_prefix HasName (spell.block b) _ h in
    all_both IsSome (block_results b) (flat_map block_results bs)
    (all_both IsSome (map (λ (p : PhiNode). p.result) b.phis) (filter_map (λ (i : Instruction). i.result) b.instructions)
    (phis_some b.phis (of_phis b here)) (insts_some b.instructions (of_instructions b here)))
    (blocks_some bs (all_back HasName (spell.block b) _ h))

labels_some : (s : Sentence) (bs : List BasicBlock) → AllByRecursion HasName (flat_map spell.block bs) → AllByRecursion IsSome (map (block_name s) bs)
labels_some s [] h = tt
labels_some s (b ∷ bs) h = (go b.label (all_prefix HasName (spell.block_label b.label) _ (all_prefix HasName (spell.block b) _ h)), labels_some s bs (all_back HasName (spell.block b) _ h))
  where
    go : (o : Option (List ℕ)) → AllByRecursion HasName (spell.block_label o) → IsSome (unwrap_or o (decimal (count_by is_numbered s.parameters)))
    go None all = decimal_some (count_by is_numbered s.parameters)
    go (Some name) all = all.0

kept_some : (names : List (List ℕ)) → AllByRecursion IsSome names → AllByRecursion IsKeptName (kept_in names)
kept_some [] h = tt
kept_some (x ∷ xs) h = go (is_digits x) refl (kept_some xs h.1)
  where
    go : (b : Bool) → is_digits x ≡ b → AllByRecursion IsKeptName (kept_in xs) → AllByRecursion IsKeptName (cons_option (if b then None else Some x) (kept_in xs))
    go true e again = again
    go false e again = (record { some = h.0; no_number = e }, again)

module _ (s : Sentence) (named_all : AllByRecursion HasName (spell.spelling s)) where
  of_header : AllByRecursion HasName (spell.header s)
  of_header = all_prefix HasName (spell.header s) _ named_all

  pub of_blocks : AllByRecursion HasName (flat_map spell.block s.blocks)
  of_blocks = all_prefix HasName (flat_map spell.block s.blocks) _ (all_back HasName s.tail _ (all_back HasName (spell.header s) _ named_all)).1

  of_name : AllByRecursion HasName (spell.type s.width ∷ global s.name ∷ spell.open_round ∷ (join_by spell.parameter (spell.comma ∷ []) s.parameters ++ (spell.close_round ∷ [])))
  of_name = after_words s.lead _ of_header.1

  pub name_some : IsSome s.name
  name_some = of_name.1.0

  pub values_some : AllByRecursion IsSome (value_names s)
  values_some = all_both IsSome (parameter_names 0 s.parameters) (flat_map block_results s.blocks)
      (parameters_some s.parameters (all_prefix HasName (join_by spell.parameter (spell.comma ∷ []) s.parameters) _ of_name.1.1.1))
      (blocks_some s.blocks of_blocks)

  pub kept_names_some : (tail : List ℕ) → All IsKeptName (kept_names (function_of s tail))
  kept_names_some tail =
      subst (All IsKeptName) (sym (kept_are s tail)) (All-from_recursion IsKeptName (kept_in (value_names s) ++ kept_in (block_names s))
      (all_both IsKeptName (kept_in (value_names s)) (kept_in (block_names s)) (kept_some (value_names s) values_some) (kept_some (block_names s) (labels_some s s.blocks of_blocks))))
