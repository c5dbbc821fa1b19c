use Rattle.std.proofs.Common.{All, subst, sym}
use Rattle.std.proofs.lemmas.List.Elements.{All-nil}
use Rattle.diff_space.specs.Groups.{Group, IsGroup}
use Rattle.diff_space.specs.Scopes.{IsWithin}
use Rattle.diff_space.proofs.space.groups_of.Goals as goal

pub returns : goal.returns
returns c = λ x lines.
    let P = λ (group : Group). IsGroup (IsWithin x) c.args.dimensions.now group in
    c.in_ok-add_group-2.ensures x lines
    (c.in_ok-add_group.ensures x lines
    (subst (All P) (sym c.new-groups.ensures.items) (All-nil P)))
