use Rattle.std.proofs.Common.{[], ◌∷◌, ◌++◌, ◌∙◌, IfSome, List, Option, ap, subst, sym, true}
use Rattle.diff_text.specs.Tables.{IsJoined, Table, join_by}
use Rattle.diff_text.proofs.Tabled.{appended_is, merged_is}
use Rattle.diff_text.proofs.parts.with_table.Goals as goal

pub returns-in_ok-push-in-Some-2 : goal.returns-in_ok-push-in-Some-2
returns-in_ok-push-in-Some-2 c = λ ds all is.
    merged_is ds c.args.first c.push.new.self.items c.pop.new.self.items c.in-Some.last
    c.args.second c.in-Some-2.table (sym c.first.view_is ∙ c.in-Some.ensures.items)
    c.in_ok-push-in-Some-2.ensures.items
    (λ l s. subst (λ (o : Option Table). IfSome o
    (λ v. IsJoined ds (join_by true) (c.in-Some.last ∷ []) (c.args.second ∷ []) (v ∷ [])))
    c.in-Some-2.is (c.in_ok-table.ensures ds l s)) all is

pub returns-in_ok-push-in-None-2 : goal.returns-in_ok-push-in-None-2
returns-in_ok-push-in-None-2 c = λ ds all is.
    appended_is ds c.args.first c.push-in-None-2.new.self.items c.pop.new.self.items
    c.in-Some.last c.args.second (sym c.first.view_is ∙ c.in-Some.ensures.items)
    (c.in_ok-push-in-None-2.ensures.items
    ∙ ap (λ (ts : List Table). ts ++ c.args.second ∷ []) c.in_ok-push-in-None.ensures.items)
    all is
