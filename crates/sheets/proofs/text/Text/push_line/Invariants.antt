use Rattle.std.proofs.Common.{◌≡◌, ◌++◌, take}
use Rattle.sheets.specs.Texts.{text_of, pair_shown, pair_of, listed}
use Rattle.sheets.proofs.text.Text.push_line.Given as goal

abbrev pub invariant-loop-part : goal.invariant-loop-part
invariant-loop-part l = text_of l.self ≡ text_of l.initial.self ++ listed (λ p. pair_shown (pair_of l.line p)) (take l.part-index l.parts)
