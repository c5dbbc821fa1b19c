use Rattle.access_log.proofs.Added.{adds_number}
use Rattle.access_log.proofs.member.write_number.Goals as goal

pub returns : goal.returns
returns c =
    adds_number c.args.n c.requires c.in_ok-write_name.ensures c.in_ok-write_digits.ensures
