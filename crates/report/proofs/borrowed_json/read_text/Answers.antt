use Rattle.std.proofs.Common.{◌≡◌, [], sym, true, false, arith, rules}
use Rattle.json.specs.Value.{value_view}
use Rattle.report.specs.Borrowed.{in_range}
use Rattle.report.proofs.Borrowed.{text_out_of_range, text_read}
use Rattle.report.proofs.borrowed_json.read_text.Goals as goal

pub returns-then-not-is_in_range : goal.returns-then-not-is_in_range
returns-then-not-is_in_range c =
    let none : c.read.new.reader ≡ [] = search rules in
    let fails : in_range (value_view c.in-Ok.value) ≡ false = grind arith in
    sym (text_out_of_range c.args.text.now (value_view c.in-Ok.value)
    (rw (c.in_ok-reader.ensures.ok, none) at c.in-Ok.ensures.ok) fails)

pub returns-else-not-is_in_range : goal.returns-else-not-is_in_range
returns-else-not-is_in_range c =
    let none : c.read.new.reader ≡ [] = search rules in
    let fits : in_range (value_view c.in-Ok.value) ≡ true = grind arith in
    sym (text_read c.args.text.now (value_view c.in-Ok.value)
    (rw (c.in_ok-reader.ensures.ok, none) at c.in-Ok.ensures.ok) fits)
