use Rattle.std.proofs.Common.{◌≡◌, ◌<◌, ◌^◌, drop}
use Rattle.std.specs.List.{list_all}
use Rattle.script_lang.specs.Forms.{is_digit}
use Rattle.script_lang.specs.Numbers.{number_with, digits_number}
use Rattle.script_lang.proofs.numbers.digits_value.Given as goal

abbrev pub invariant-loop-b : goal.invariant-loop-b
invariant-loop-b l =
    (number_with l.value (drop l.b-index l.digits) ≡ digits_number l.digits)
    × (list_all is_digit (drop l.b-index l.digits) ≡ list_all is_digit l.digits)
    × (l.value < 2 ^ 64)
