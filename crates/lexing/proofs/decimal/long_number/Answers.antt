use Rattle.std.proofs.Common.{sym, ◌∙◌, lit<}
use Rattle.lexing.proofs.Numbers.{long_number-parse}
use Rattle.lexing.proofs.decimal.long_number.Goals as goal

pub returns : goal.returns
returns c =
    let byte = c.starts_with.ensures.byte (lit< tt) (lit< tt) (λ w o h. h) in
    let plain = sym byte ∙ c.if-starts_with.false in
    let parsed = c.parse.ensures.value.0 in
    c.ok.ensures.value ∙ long_number-parse c.args.text.now c.parse.result plain parsed
