use Rattle.diff_space.proofs.Grown.{further, of_two}
use Rattle.diff_space.proofs.grouping.add_text.Goals as goal

pub returns-clause-grows : goal.returns-clause-grows
returns-clause-grows c =
    further c.args.group.now c.add_combination.new.group c.add_combination-2.new.group
    c.in_ok-add_combination.ensures.grows c.in_ok-add_combination-2.ensures.grows

pub returns-clause-has : goal.returns-clause-has
returns-clause-has c = λ few is_known.
    of_two c.args.family c.args.dimensions.now c.add_combination.new.group
    c.add_combination-2.new.group c.args.number c.args.text
    c.in_ok-add_combination-2.ensures.grows (c.in_ok-add_combination.ensures.has few)
    (c.in_ok-add_combination-2.ensures.has few) is_known
