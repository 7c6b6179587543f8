-- What two `Known` have in common, after LLVM's KnownBits::unionWith.
use Rattle.std.specs.Prelude.{◌≡◌, ℕ, bit_or, IsTrue}
use Rattle.vfa_dom.specs.Sets.{meet, meets}
use Rattle.vfa_known.specs.Known.{masks_of, in_known}
use Rattle.vfa_known.specs.declared.known.Known.{Known}

-- k holds exactly the numbers of both, and there are some; a bit is known where one of them knows it
pub record IsAgreement (W : ℕ) (one two k : Known W) : Type 0 where
  pub some : IsTrue (meets W (in_known W one) (in_known W two))
  pub numbers : (x : ℕ) → in_known W k x ≡ meet (in_known W one) (in_known W two) x
  pub zeros : (masks_of k).zeros ≡ bit_or (masks_of one).zeros (masks_of two).zeros
  pub ones : (masks_of k).ones ≡ bit_or (masks_of one).ones (masks_of two).ones
