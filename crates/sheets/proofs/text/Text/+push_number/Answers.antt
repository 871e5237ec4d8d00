use Rattle.std.proofs.Common.{◌/◌, length, decimal, ap, ◌∙◌, arith}
use Rattle.sheets.specs.Texts.{text_of}
use Rattle.sheets.proofs.Texts.{grown, decimal_longer, decimal_one, by_digits, by_digit}
use Rattle.sheets.proofs.text.Text.+push_number.Goals as goal
use Rattle.sheets.proofs.text.Text.+push_number.Goals.{then-value-ge10, else-value-ge10}

pub push_number-requires : goal.push_number-requires
push_number-requires t c = (omega arith, omega (arith, decimal_longer c.args.value c.if-value-ge10.true (omega arith), c.requires))

pub push-requires : goal.push-requires
push-requires t c =
    elim c.if-value-ge10.branch [
      | then-value-ge10 w ↦
          omega (
            arith,
            decimal_longer c.args.value w.if-value-ge10.true (omega arith),
            grown _ _ (decimal (c.args.value / 10)) (ap text_of w.self-is ∙ w.push_number.ensures),
            c.requires,
          )
      | else-value-ge10 w ↦ omega (arith, ap (λ s. length (text_of s)) w.self-is, decimal_one c.args.value w.if-value-ge10.false, c.requires)
    ]

pub returns : goal.returns
returns t c =
    elim c.if-value-ge10.branch [
      | then-value-ge10 w ↦ by_digits _ _ _ c.args.value w.if-value-ge10.true (omega arith) (ap text_of w.self-is ∙ w.push_number.ensures) c.push.ensures
      | else-value-ge10 w ↦ by_digit _ _ _ c.args.value w.if-value-ge10.false (ap text_of w.self-is) c.push.ensures
    ]
