-- Limits and names are matters of the parameters and the blocks of a tree alone.
use Rattle.std.proofs.Common.{◌≡◌, refl}
use Rattle.vfa_ir.specs.DefinedNames.{duplicate_of, unknown_of}
use Rattle.vfa_ir.specs.Reads.{too_many}
use Rattle.vfa_ir.specs.Sentence.{Sentence}
use Rattle.vfa_read.specs.Resolving.{tree}

pub same_limits : (s : Sentence) → too_many (tree s.parameters s.blocks) ≡ too_many s
same_limits s = refl

pub same_duplicate : (s : Sentence) → duplicate_of (tree s.parameters s.blocks) ≡ duplicate_of s
same_duplicate s = refl

pub same_unknown : (s : Sentence) → unknown_of (tree s.parameters s.blocks) ≡ unknown_of s
same_unknown s = refl
