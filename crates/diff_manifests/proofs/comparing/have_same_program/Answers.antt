use Rattle.std.proofs.Common.{ap, option_copied}
use Rattle.diff_manifests.proofs.SameApps.{is_same_of}
use Rattle.diff_manifests.proofs.comparing.have_same_program.Goals as goal

pub returns-in-Some-Some : goal.returns-in-Some-Some
returns-in-Some-Some c is =
    is_same_of c.in-Some-Some.old.now c.in-Some-Some.new.now (option_copied c.args.old)
    (option_copied c.args.new) (ap option_copied c.in-Some-Some.is-0)
    (ap option_copied c.in-Some-Some.is-1) (c.is_same_program.ensures is)
