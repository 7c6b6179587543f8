-- The order of the blocks: reverse postorder of the depth-first walk from the entry, successors in the order in which
-- they are written. The block whose visit ends last stands first.
--
-- Where the entry branches to a and then to b, and both go on to c, the visits end in the order c, a, b, entry; so the
-- order is entry, b, a, c.
use Rattle.std.specs.Prelude.{◌≡◌, ℕ, Bool, true, false, ◌&&◌, not, nat_lt, List, [], ◌∷◌, ◌++◌, map, length}
use Rattle.vfa_ir.specs.declared.operations.BlockId.{BlockId}
use Rattle.vfa_ir.specs.declared.functions.Function.{Function}
use Rattle.vfa_ir.specs.Walks.{is_in, successors}

-- whether a block of the function was not seen yet
abbrev pub is_new : Function → List ℕ → ℕ → Bool
is_new f seen b = nat_lt b (length f.blocks) && not (is_in b seen)

-- The visit of blocks one after another: the blocks seen before, those to be visited, those seen after, and those whose
-- visits ended, the last one first. To visit a new block is to visit its successors.
pub data Visits (f : Function) : List ℕ → List ℕ → List ℕ → List ℕ → Type 0 where
  none : {seen : List ℕ} → Visits f seen [] seen []
  known : {b : ℕ} {seen rest after found : List ℕ} → is_new f seen b ≡ false → Visits f seen rest after found →
      Visits f seen (b ∷ rest) after found
  fresh : {b : ℕ} {seen between after below rest found : List ℕ} → is_new f seen b ≡ true →
      Visits f (b ∷ seen) (successors f b) between below → Visits f between rest after found →
      Visits f seen (b ∷ rest) after (found ++ (b ∷ below))

abbrev pub numbers : List BlockId → List ℕ
numbers = map (λ b. b.0)

pub record IsOrder (f : Function) (order : List BlockId) : Type 0 where
  pub seen : List ℕ
  pub visits : Visits f [] (0 ∷ []) seen (numbers order)
