use Rattle.std.proofs.Common.{◌∙◌, IfSome, List, Option, ap, subst, sym}
use Rattle.diff_text.specs.Tables.{IsWhole, Table, are_tables_of}
use Rattle.diff_text.proofs.Matched.{sets_meant}
use Rattle.diff_text.proofs.read_back.is_meant.Goals as goal

pub returns-in-Some-2 : goal.returns-in-Some-2
returns-in-Some-2 c = λ x lines is.
    let ds = c.args.dimensions.now in
    let sets = c.args.sets.now in
    let steps = c.in-Some.condition.now in
    record {
      steps = steps;
      one = c.in-Some.ensures;
      means = sets_meant x ds lines sets steps c.in-Some-2.whole
          (subst (λ (o : Option (List Table)). IfSome o (IsWhole x ds steps)) c.in-Some-2.is
          (c.in_ok-whole.ensures x lines))
          (ap (are_tables_of ds sets) (sym (c.deref.ensures.value ∙ c.whole.view_is))
          ∙ sym c.are_tables_of.ensures ∙ is);
    }
