-- What the function of a tree says of the text.
use Rattle.std.proofs.Common.{◌≡◌, ◌+◌, ◌-◌, ℕ, suc, List, ◌++◌, length, map, take, drop, None, Result, Ok, Err, IfErr, IsErrAnd, ◌⊎◌, inl, inr, refl, sym, ap, ◌∙◌, subst, arith, length-append}
use Rattle.vfa_ir.specs.declared.functions.Function.{Function}
use Rattle.vfa_ir.specs.declared.reasons.Outside.{Outside}
use Rattle.vfa_ir.specs.declared.syntax.BasicBlock.{BasicBlock}
use Rattle.vfa_ir.specs.declared.syntax.Parameter.{Parameter}
use Rattle.vfa_ir.specs.declared.tokens.Token.{Token}
use Rattle.vfa_ir.specs.DefinedNames.{duplicate_of, unknown_of}
use Rattle.vfa_ir.specs.Lexemes.{Lexeme}
use Rattle.vfa_ir.specs.Reads.{IsAccepted, IsReason, tail_bytes, too_many}
use Rattle.vfa_ir.specs.Resolution.{function_of}
use Rattle.vfa_ir.specs.Spelling.{header}
use Rattle.vfa_ir.specs.TextLines.{block_lines}
use Rattle.vfa_ir.specs.TokenLexemes.{bytes_between, lexemes}
use Rattle.vfa_read.specs.declared.sentences.FunctionTree.{FunctionTree}
use Rattle.vfa_read.specs.Resolving.{tree, IsDuplicate, IsUnknown}
use Rattle.vfa_read.specs.Trees.{HasItsLines, IsTree, between, tree_sentence}

-- what is known of the function of parts of a tree
abbrev Parts : ℕ → List ℕ → List Lexeme → List ℕ → Function → List (List ℕ) → List Parameter → List BasicBlock → Type 0
Parts width name lexemes tail f lead ps bs =
    (duplicate_of (tree ps bs) ≡ None) × (unknown_of (tree ps bs) ≡ None)
    × (f ≡ function_of (record { lead = lead; width = width; name = name; parameters = ps; tail = lexemes; blocks = bs }) tail)

-- why parts of a tree have no function
abbrev Refuses : List Parameter → List BasicBlock → Outside → Type 0
Refuses ps bs e = IsDuplicate (duplicate_of (tree ps bs)) e ⊎ ((duplicate_of (tree ps bs) ≡ None) × IsUnknown (unknown_of (tree ps bs)) e)

pub if_error : {A E : Type 0} (P : E → Type 0) (e : E) (r : Result A E) → IsErrAnd r (λ y. y ≡ e) → P e → IfErr r P
if_error P e (Ok x) h p = elim h [ ]
if_error P e (Err y) h p = subst P (sym h) p

module _ (text : List ℕ) (tokens : List Token) (t : FunctionTree) (is : IsTree (lexemes text tokens) t)
    (kept : too_many (tree t.header.parameters t.blocks) ≡ None) (lines : HasItsLines (map (λ t. t.line) tokens) t) where
  accepted : (tail : List ℕ) (f : Function) → duplicate_of (tree t.header.parameters t.blocks) ≡ None → unknown_of (tree t.header.parameters t.blocks) ≡ None
      → tail ≡ bytes_between text (take (t.tail_end - t.tail_start) (drop t.tail_start tokens)) → f ≡ function_of (tree_sentence (lexemes text tokens) t) tail
      → IsAccepted text tokens f (record { of = t.lines })
  accepted tail f distinct known bytes function =
      let s = tree_sentence (lexemes text tokens) t in
      let start : t.tail_start ≡ length (header s) = is.start in
      let end : t.tail_start + length s.tail ≡ t.tail_end = is.tail in
      let size : length s.tail ≡ t.tail_end - t.tail_start = omega (arith, end) in
      let tail_is : tail_bytes text tokens s ≡ tail =
      ap (λ n. bytes_between text (take n (drop (length (header s)) tokens))) size
      ∙ ap (λ n. bytes_between text (take (t.tail_end - t.tail_start) (drop n tokens))) (sym start) ∙ sym bytes in
      let body : suc (length (header s ++ s.tail)) ≡ suc t.tail_end = omega (arith, start, end, length-append (header s) s.tail) in
      record {
        reads = record {
          sentence = s;
          is = is.is;
          distinct = distinct;
          known = known;
          function = ap (function_of s) tail_is ∙ sym function;
          places = ap (λ n. record { of = block_lines t.blocks (drop n (map (λ t. t.line) tokens)) }) body ∙ ap (λ z. record { of = z }) (sym lines);
        };
        kept = kept;
      }

  refused : (e : Outside) → Refuses t.header.parameters t.blocks e → (e ≡ Outside.Memory) ⊎ IsReason text tokens e
  refused Outside.Memory r = inl refl
  refused (Outside.Duplicate name) (inl d) = inr (record { sentence = tree_sentence (lexemes text tokens) t; is = is.is; kept = kept; repeated = d })
  refused (Outside.Duplicate name) (inr u) = absurd u.1
  refused (Outside.Unknown name) (inl d) = absurd d
  refused (Outside.Unknown name) (inr u) = inr (record { sentence = tree_sentence (lexemes text tokens) t; is = is.is; kept = kept; distinct = u.0; unknown = u.1 })
  refused (Outside.Shape line) (inl d) = absurd d
  refused (Outside.Shape line) (inr u) = absurd u.1
  refused (Outside.TooMany kind) (inl d) = absurd d
  refused (Outside.TooMany kind) (inr u) = absurd u.1
  refused (Outside.Types line) (inl d) = absurd d
  refused (Outside.Types line) (inr u) = absurd u.1
  refused (Outside.Phi name) (inl d) = absurd d
  refused (Outside.Phi name) (inr u) = absurd u.1
  refused (Outside.Undefined name block) (inl d) = absurd d
  refused (Outside.Undefined name block) (inr u) = absurd u.1

  pub accepted_parts : (tail : List ℕ) (f : Function) (lead : List (List ℕ)) (ps : List Parameter) (bs : List BasicBlock)
      → lead ≡ t.header.lead → ps ≡ t.header.parameters → bs ≡ t.blocks
      → tail ≡ bytes_between text (take (t.tail_end - t.tail_start) (drop t.tail_start tokens))
      → duplicate_of (tree ps bs) ≡ None → unknown_of (tree ps bs) ≡ None
      → f ≡ function_of (record { lead = lead; width = t.header.width; name = t.header.name; parameters = ps; tail = between t.tail_start t.tail_end (lexemes text tokens); blocks = bs }) tail
      → IsAccepted text tokens f (record { of = t.lines })
  accepted_parts tail f lead ps bs l p b bytes distinct known function =
      let Known = Parts t.header.width t.header.name (between t.tail_start t.tail_end (lexemes text tokens)) tail f in
      let k : Known t.header.lead t.header.parameters t.blocks =
      subst (λ z. Known z t.header.parameters t.blocks) l
      (subst (λ z. Known lead z t.blocks) p
      (subst (λ z. Known lead ps z) b (distinct, known, function))) in
      accepted tail f k.0 k.1 bytes k.2

  pub refused_parts : (e : Outside) (ps : List Parameter) (bs : List BasicBlock) → ps ≡ t.header.parameters → bs ≡ t.blocks → Refuses ps bs e → (e ≡ Outside.Memory) ⊎ IsReason text tokens e
  refused_parts e ps bs p b r = refused e (subst (λ z. Refuses z t.blocks e) p (subst (λ z. Refuses ps z e) b r))
