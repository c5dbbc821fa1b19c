use Rattle.std.proofs.Common.{◌∷◌, [], List, length, sym, ap, subst, ◌∙◌, append-nil, arith}
use Rattle.std.proofs.lemmas.Bool.{false≢true}
use Rattle.std.proofs.lemmas.List.{length_push}
use Rattle.serde_json.specs.View.{members_view}
use Rattle.omaha_json.specs.Members.{request_member, request_with, AreMembersOf}
use Rattle.omaha_json.proofs.Named.{Entry, all_found}
use Rattle.omaha_json.proofs.MembersOfRequests.{request_next}
use Rattle.omaha_json.proofs.request_members.request_members.Goals as goal

pub loop-name-init : goal.loop-name-init
loop-name-init c = ([], sym (append-nil _), c.none-found.ensures)

pub loop-name-preserved : goal.loop-name-preserved
loop-name-preserved c =
    let i = c.loop-name.invariant in
    let e : Entry = (c.in-Some.name, c.in-Some.value) in
    let named = c.request_member.ensures ∙ ap request_member c.as_str.ensures.value in
    let more =
    c.add.ensures
    ∙ ap (λ m. request_with m c.in-Some.value c.loop-name.found) named in
    let next = request_next _ _ _ i.0 e _ _ i.1 c.in-Some.ensures.removal i.2 more in
    (e ∷ i.0, next.0, next.1)

pub loop-name-smaller : goal.loop-name-smaller
loop-name-smaller c =
    let less =
    ap (λ (es : List Entry). length es) c.in-Some.ensures.removal
    ∙ length_push c.pop_last.new.self.entries (c.in-Some.name, c.in-Some.value) in
    omega (arith, less)

pub returns : goal.returns
returns c =
    let i = c.loop-name.invariant in
    subst (λ (es : List Entry). AreMembersOf (members_view es) c.loop-name.found)
    (all_found _ _ i.0 i.1 (λ more. false≢true (c.in_default.ensures.variant.1 more))) i.2
