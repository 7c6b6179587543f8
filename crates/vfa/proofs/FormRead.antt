-- What a parse of words by the form tells.
use Rattle.std.proofs.Common.{◌≡◌, List, [], true, refl, subst}
use Rattle.clap.specs.Faults.{is_simple_and_free}
use Rattle.clap.specs.Simple.{HasMatchesOf}
use Rattle.clap.specs.declared.parser.matches.ArgMatches.{ArgMatches}
use Rattle.clap.specs.Words.{App, Text, fault_of, found_of, matches_of, rows_of}
use Rattle.vfa.specs.Form.{form}

module _ (app : App) (words : List Text) (is : app ≡ form) where
  pub free_read : (is_simple_and_free app ≡ true → fault_of app words ≡ []) → fault_of form words ≡ []
  free_read fault = subst (λ a. is_simple_and_free a ≡ true → fault_of a words ≡ []) is fault refl

  pub rows_read : (found : ArgMatches) → HasMatchesOf app words found → rows_of (found_of found) ≡ matches_of form words
  rows_read found has = (subst (λ a. HasMatchesOf a words found) is has refl).0
