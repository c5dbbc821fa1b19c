use Rattle.std.proofs.Common.{All, IfSome, Option, subst, sym}
use Rattle.std.proofs.lemmas.List.Elements.{All-push}
use Rattle.diff_space.specs.Groups.{Group, IsGroup}
use Rattle.diff_space.specs.Scopes.{IsWithin}
use Rattle.diff_space.proofs.space.add_group.Goals as goal

pub returns-in_ok-push-in-Some : goal.returns-in_ok-push-in-Some
returns-in_ok-push-in-Some c = λ x lines old.
    let P = λ (group : Group). IsGroup (IsWithin x) c.args.dimensions.now group in
    subst (All P) (sym c.in_ok-push-in-Some.ensures.items)
    (All-push P c.args.groups.now.items c.in-Some.group old
    (subst (λ (o : Option Group). IfSome o P) c.in-Some.is (c.in_ok-group.ensures x lines)))
