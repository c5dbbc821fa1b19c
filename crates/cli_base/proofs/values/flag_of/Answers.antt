use Rattle.std.proofs.Common.{◌∙◌}
use Rattle.clap.proofs.WalkLemmas.{one_text-rows}
use Rattle.clap.specs.Words.{found_of}
use Rattle.cli_base.proofs.values.flag_of.Goals as goal

pub returns : goal.returns
returns c =
    let is = one_text-rows (found_of c.args.found.now) c.args.id.now in record {
      absent = λ none. c.get_flag.ensures.none (is ∙ none);
      unset = λ no. c.get_flag.ensures.other (is ∙ no);
      set = λ set. c.get_flag.ensures.value (is ∙ set);
    }
