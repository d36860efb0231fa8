use Rattle.std.proofs.Common.{◌≡◌, ◌≤◌, length}
use Rattle.decimal_text.specs.Decimals.{digits_up_to}
use Rattle.decimal_text.proofs.numbers.digits.Given as goal

abbrev pub invariant-digits : goal.invariant-digits
invariant-digits l = (digits_up_to l.limit 0 l.text ≡ digits_up_to l.limit l.number l.rest) × (l.number ≤ l.limit)

abbrev pub decreases-digits : goal.decreases-digits
decreases-digits l = length l.rest
