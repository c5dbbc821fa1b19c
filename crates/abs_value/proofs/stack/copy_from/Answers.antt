use Rattle.abs_value.proofs.Unset.{copied_above}
use Rattle.abs_value.proofs.stack.copy_from.Goals as goal

pub returns : goal.returns
returns c =
    copied_above c.args.stack.now c.args.other.now c.copy_from_slice.new.self c.args.from
    c.told-stack c.told-other c.requires.below c.requires.other c.copy_from_slice.ensures.after
