use Rattle.std.proofs.Common.{◌∙◌, sym}
use Rattle.folder_facts.proofs.AllRead.{none_of_first, none_of_second}
use Rattle.folder_facts.proofs.facts.facts_in.Goals as goal

pub returns : goal.returns
returns g c = λ none.
    let both = sym c.in_ok-unread.ensures ∙ none in record {
      apps = c.in_ok-apps.ensures (none_of_first _ _ both);
      steps = c.in_ok-steps.ensures (none_of_second _ _ both);
    }
