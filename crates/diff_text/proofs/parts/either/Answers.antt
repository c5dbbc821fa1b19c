use Rattle.std.proofs.Common.{[], ◌∷◌, IfSome, Option, false, subst}
use Rattle.diff_text.specs.Tables.{IsJoined, Table, join_by}
use Rattle.diff_text.proofs.Tabled.{either_is}
use Rattle.diff_text.proofs.parts.either.Goals as goal

pub returns-in_ok-part-in-Some-2 : goal.returns-in_ok-part-in-Some-2
returns-in_ok-part-in-Some-2 c = λ ds all others.
    let t = c.in-Some.one in
    let u = c.in-Some-only_table.other in
    either_is ds (join_by false) c.args.first c.args.second c.in_ok-part-in-Some-2.part t u
    c.in-Some-2.table c.in-Some.ensures c.in-Some-only_table.ensures
    c.in_ok-part-in-Some-2.ensures
    (λ is it_is. subst (λ (o : Option Table). IfSome o
    (λ v. IsJoined ds (join_by false) (t ∷ []) (u ∷ []) (v ∷ []))) c.in-Some-2.is
    (c.in_ok-table.ensures ds is it_is)) all others
