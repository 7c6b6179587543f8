-- The tree of a printable function fits, and each of its tokens is read again as it is.
use Rattle.vfa_ir.specs.declared.functions.Function.{Function}
use Rattle.vfa_ir.specs.Grammar.{FitsSentence}
use Rattle.vfa_ir.specs.Printable.{IsPrintable}
use Rattle.vfa_print.specs.Trees.{shown_scope, tree_of}
use Rattle.vfa_print.proofs.FittingTrees.{scoped_tree_fits}
use Rattle.vfa_print.proofs.Lexed.{IsLexedTree}
use Rattle.vfa_print.proofs.LexedTrees.{scoped_tree_lexed}
use Rattle.vfa_print.proofs.NamesInScope.{each_call, has_names}

pub tree_fits : (f : Function) → IsPrintable f → FitsSentence (tree_of f)
tree_fits f h = scoped_tree_fits f (shown_scope f) (each_call f h) h

pub tree_lexed : (f : Function) → IsPrintable f → IsLexedTree (tree_of f)
tree_lexed f h = scoped_tree_lexed f (shown_scope f) (has_names f h) (each_call f h) h
