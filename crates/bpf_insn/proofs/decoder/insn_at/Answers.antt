use Rattle.std.proofs.Common.{sym, ◌∙◌}
use Rattle.std.proofs.lemmas.Option.{none-some}
use Rattle.bpf_insn.proofs.Exact.{no_row_exclusive, no_row_least}
use Rattle.bpf_insn.proofs.decoder.insn_at.Goals as goal

pub returns-in-None-clause-fault : goal.returns-in-None-clause-fault
returns-in-None-clause-fault c =
    no_row_least c.args.bytes.now c.args.slot c.in-Some.first c.in-Some.ensures.some
    (λ form op. none-some form (sym c.in-None.is ∙ c.form_at.ensures.only form op))

pub returns-in-None-clause-exclusive : goal.returns-in-None-clause-exclusive
returns-in-None-clause-exclusive c =
    no_row_exclusive c.args.bytes.now c.args.slot c.in-Some.first c.in-Some.ensures.some
    (λ form op. none-some form (sym c.in-None.is ∙ c.form_at.ensures.only form op))
