use Rattle.std.proofs.Common.{sym}
use Rattle.clap.specs.Words.{found_of}
use Rattle.cli_base.proofs.Reading.{text_read}
use Rattle.cli_base.proofs.values.optional_text.Goals as goal

pub returns : goal.returns
returns c =
    sym (text_read (found_of c.args.found.now) c.args.id.now c.get_str.result c.get_str.ensures)
