-- The tree of a function defines each name once, uses names that it defines, and is the tree of that function.
use Rattle.std.proofs.Common.{◌≡◌, None}
use Rattle.vfa_ir.specs.declared.functions.Function.{Function}
use Rattle.vfa_ir.specs.DefinedNames.{duplicate_of, unknown_of}
use Rattle.vfa_ir.specs.Printable.{IsPrintable}
use Rattle.vfa_ir.specs.Resolution.{function_of}
use Rattle.vfa_print.specs.Trees.{tree_of}
use Rattle.vfa_print.proofs.ShownNames.{HasFewNames}
use Rattle.vfa_print.proofs.TreeBack.{function_back}
use Rattle.vfa_print.proofs.TreeNames.{defined_once}
use Rattle.vfa_print.proofs.TreeUses.{uses_known}

pub tree_distinct : (f : Function) → IsPrintable f → HasFewNames f → duplicate_of (tree_of f) ≡ None
tree_distinct f printable few = defined_once f printable few

pub tree_known : (f : Function) → IsPrintable f → unknown_of (tree_of f) ≡ None
tree_known f printable = uses_known f printable

pub tree_back : (f : Function) → IsPrintable f → HasFewNames f → function_of (tree_of f) f.tail ≡ f
tree_back f printable few = function_back f printable few
