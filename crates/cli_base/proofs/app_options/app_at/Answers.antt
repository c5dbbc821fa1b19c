use Rattle.std.proofs.Common.{◌∙◌, ap, sym, Some}
use Rattle.clap.specs.Words.{found_of, rows_of}
use Rattle.cli_base.proofs.Attributes.{same_count}
use Rattle.cli_base.proofs.app_options.app_at.Goals as goal

pub returns-then-given-counted-clause-given : goal.returns-then-given-counted-clause-given
returns-then-given-counted-clause-given c = λ moment installed. record {
  attributes = c.described-app.ensures.attributes;
  each = sym c.count_given-given.ensures ∙ c.if-given-counted.true
      ∙ c.count_attributes-counted.ensures;
  ping = c.described-app.ensures.ping;
  event = c.described-app.ensures.event;
  moment = moment ∙ ap Some (sym c.described-app.ensures.moment);
  installed = installed ∙ ap Some (sym c.described-app.ensures.installed);
}

pub returns-else-given-counted-clause-lacking : goal.returns-else-given-counted-clause-lacking
returns-else-given-counted-clause-lacking c = λ other has each.
    c.if-given-counted.false (c.count_given-given.ensures ∙ each
    ∙ same_count (rows_of (found_of c.args.found.now)) other c.described-app.result
    has c.described-app.ensures.attributes ∙ sym c.count_attributes-counted.ensures)
