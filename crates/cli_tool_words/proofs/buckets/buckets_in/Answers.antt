use Rattle.std.proofs.Common.{sym}
use Rattle.cli_tool_words.proofs.Percents.{no_buckets}
use Rattle.cli_tool_words.proofs.buckets.buckets_in.Goals as goal

pub returns-in-None-percent_in-clause-lacking : goal.returns-in-None-percent_in-clause-lacking
returns-in-None-percent_in-clause-lacking c =
    no_buckets c.args.text.now (sym c.in-None.ensures.number)
    c.in-None-percent_in.ensures.lacking
