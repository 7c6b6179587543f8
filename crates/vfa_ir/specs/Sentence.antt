-- A function as written: a tree of productions, with names and not ids
-- (LLVM Language Reference, "Functions"; the parts of the tree are those of `src/syntax.rt`).
use Rattle.std.specs.Prelude.{ℕ, List}
use Rattle.vfa_ir.specs.declared.syntax.BasicBlock.{BasicBlock}
use Rattle.vfa_ir.specs.declared.syntax.Parameter.{Parameter}
use Rattle.vfa_ir.specs.Lexemes.{Lexeme}

pub record Sentence : Type 0 where
  -- the words between `define` and the type of the result
  pub lead : List (List ℕ)
  pub width : ℕ
  pub name : List ℕ
  pub parameters : List Parameter
  -- the tokens between the parameters and the body
  pub tail : List Lexeme
  pub blocks : List BasicBlock
