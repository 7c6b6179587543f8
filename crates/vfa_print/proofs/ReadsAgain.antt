-- The text of a printable function reads as the function.
use Rattle.std.proofs.Common.{map, refl, sym, ap, ◌∙◌}
use Rattle.vfa_ir.specs.declared.functions.Function.{Function}
use Rattle.vfa_ir.specs.declared.functions.Lines.{Lines}
use Rattle.vfa_ir.specs.Printable.{IsPrintable}
use Rattle.vfa_ir.specs.Reads.{Fit, Reads}
use Rattle.vfa_ir.specs.Resolution.{function_of}
use Rattle.vfa_ir.specs.TextLines.{lines_of}
use Rattle.vfa_ir.specs.Tokens.{tokens_of}
use Rattle.vfa_print.specs.Trees.{tree_of, function_text}
use Rattle.vfa_print.proofs.PrintedNames.{tree_distinct, tree_known, tree_back}
use Rattle.vfa_print.proofs.PrintedTokens.{printed_lexemes, printed_tail}
use Rattle.vfa_print.proofs.PrintedTrees.{tree_fits, tree_lexed}
use Rattle.vfa_print.proofs.ShownNames.{HasFewNames}

pub reads_again : (f : Function) → IsPrintable f → HasFewNames f → (lines : Lines) × Reads (function_text f) f lines
reads_again f p few = (
  lines_of (tree_of f) (map (λ t. t.line) (tokens_of (function_text f))),
  record {
    sentence = tree_of f;
    is = record {
      fits = tree_fits f p;
      spelled = sym (printed_lexemes (tree_of f) f.tail (tree_lexed f p) p.tail refl);
    };
    distinct = tree_distinct f p few;
    known = tree_known f p;
    function = ap (function_of (tree_of f)) (printed_tail (tree_of f) f.tail (tree_lexed f p) p.tail refl) ∙ tree_back f p few;
    places = refl;
  },
)

pub printable_is_fit : (f : Function) → IsPrintable f → HasFewNames f → Fit f
printable_is_fit f p few = let again = reads_again f p few in
    record { text = function_text f; lines = again.0; reads = again.1 }
