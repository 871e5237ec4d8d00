use Rattle.std.proofs.Common.{◌≡◌, ◌+◌, ◌^◌, ◌<◌, ◌≤◌, drop}
use Rattle.sheet.specs.Reading.{number, number_on}
use Rattle.sheet.proofs.cursor.Cursor.number.Given as goal

-- What is left of the bytes gives, with the digits so far, what the number is to give.
abbrev pub invariant-loop-digits : goal.invariant-loop-digits
invariant-loop-digits l =
    (number_on l.limits l.stop l.initial.self.at l.digits l.value (l.initial.self.at + l.digits) (drop l.digits l.initial.self.rest.now)
    ≡ number l.limits l.stop l.initial.self.at l.initial.self.rest.now)
    × (l.value < 10 ^ l.digits) × (l.digits ≤ 6) × (l.self ≡ l.initial.self)
