use Rattle.std.proofs.Common.{◌∙◌}
use Rattle.cli_base.proofs.Parsed.{is_fault}
use Rattle.cli_base.proofs.matches.words_fault.Goals as goal

pub returns-in_default : goal.returns-in_default
returns-in_default c = λ app words found. is_fault app words c.args.error found
    (λ help. c.in_default.not-DisplayHelp (c.kind.ensures ∙ help))
    (λ memory. c.in_default.not-OutOfMemory (c.kind.ensures ∙ memory))
