use Rattle.std.proofs.Common.{rules, tests}
use Rattle.std.proofs.lemmas.Iterator.Search.{all_from_yields_List}
use Rattle.std.proofs.lemmas.Iterator.Splits.{YieldsList-from_slice_split}
use Rattle.operator_request.specs.Requests.{is_line_feed}
use Rattle.operator.specs.Replies.{is_cell_line}
use Rattle.operator.proofs.reply_forms.are_cell_lines.Goals as goal

pub returns : goal.returns
returns c =
    all_from_yields_List is_cell_line _ _ c.all.result c.all.ensures.ran
    (YieldsList-from_slice_split _ is_line_feed c.args.text.now c.split.ensures.rest
    c.split.ensures.done c.split.ensures.closure (λ x b q k. search (rules, tests)))
    (λ x b q k. search (rules, tests))
