use Rattle.std.proofs.Common.{◌≡◌, ◌<◌, length, drop}
use Rattle.std.specs.List.{list_all}
use Rattle.std.specs.Char.{is_ascii_digit}
use Rattle.std.specs.Str.Parse.{digits_value, digits_value_after}
use Rattle.vfa_read.proofs.numbers.magnitude.Given as goal

abbrev pub invariant-digits : goal.invariant-digits
invariant-digits l =
    (list_all is_ascii_digit l.text ≡ list_all is_ascii_digit (drop l.byte-index l.text))
    × (digits_value_after 10 l.value (drop l.byte-index l.text) ≡ digits_value 10 l.text)
    × (0 < length l.text)
