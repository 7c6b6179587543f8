-- What was read before and what the last read took are what the source gave.
use Rattle.std.proofs.Common.{◌≡◌, ◌+◌, ◌<◌, ◌++◌, List, ℕ, Option, length, length-append, arith, Err, vec_len}
use Rattle.std.proofs.Common.{ap}
use Rattle.vfa_io.specs.declared.reading.ReadFault.TheVariants.{TooLong}
use Rattle.std.proofs.lemmas.Result.{err_from_is_err_and}
use Rattle.std.proofs.KnownBytes.{Consumes-trans}
use Rattle.std.specs.Io.KnownBytes.{Consumes}
use Rattle.vfa_io.specs.Bytes.{Gave}
use Rattle.vfa_io.proofs.reading.read_all.Goals as goal

gave_more : (a b c : Option (List ℕ)) (read : List ℕ) (most n : ℕ) → length read ≡ n → Consumes a b read
    → Gave b c (λ given. most < n + length given) → Gave a c (λ given. most < length given)
gave_more a b c read most n len before (given, parts, longer) =
    (read ++ given, Consumes-trans a b c read given before parts, omega (arith, length-append read given))

pub returns-in_err-read_more-clause-too_long : goal.returns-in_err-read_more-clause-too_long
returns-in_err-read_more-clause-too_long g c =
    λ too_long.
    let fault = err_from_is_err_and c.from_residual.result c.from_residual.ensures.1 in
    let passed_on : fault.0 ≡ c.in_err-read_more.field-0.0 = fault.2 in
    let returned : c.from_residual.result ≡ Err fault.0 = fault.1 in
    let same : c.in_err-read_more.field-0.0 ≡ TooLong = cc in
    gave_more _ _ _ _ _ (vec_len c.pieces.bytes) (omega (arith, c.pieces.bytes.ok.0)) c.pieces.invariant.given (c.in_err-read_more.ensures.too_long (ap Err same))

pub returns-in_err-read_more-clause-some : goal.returns-in_err-read_more-clause-some
returns-in_err-read_more-clause-some g c =
    let last = c.read_more.ensures.some in
    (c.pieces.bytes.items ++ last.0, Consumes-trans _ _ _ _ _ c.pieces.invariant.given last.1)
