use Rattle.std.proofs.lemmas.Nat.{xor_lt}
use Rattle.vfa_word.proofs.word.Word.xor.Goals as goal

pub invariant_of-result : goal.invariant_of-result
invariant_of-result g c =
    (xor_lt g.row.W c.self.inside.bits c.other.inside.bits c.self.invariant.0 c.other.invariant.0, c.self.invariant.1)
