use Rattle.std.proofs.Common.{sym, ap, ◌∙◌, ◌∷◌, not}
use Rattle.std.specs.List.{list_any}
use Rattle.std.specs.Path.{components_remaining}
use Rattle.why_refused_manifest.specs.Inside.{leads_out}
use Rattle.why_refused_manifest.proofs.Parts.{goes_on, leaves}
use Rattle.why_refused_manifest.proofs.inside.is_inside.Goals as goal

pub returns-then-leads_out : goal.returns-then-leads_out
returns-then-leads_out c =
    let next = c.in-Some.ensures.steps.0
    ∙ ap (λ part. part ∷ components_remaining c.next.new.self) (sym c.as_os_str.ensures) in
    let out = sym c.leads_out.ensures ∙ c.if-leads_out.true in
    ap not (sym (c.loop-part.invariant ∙ leaves _ _ _ next out))

pub loop-part-preserved : goal.loop-part-preserved
loop-part-preserved c =
    let next = c.in-Some.ensures.steps.0
    ∙ ap (λ part. part ∷ components_remaining c.next.new.self) (sym c.as_os_str.ensures) in
    let stays = sym c.leads_out.ensures ∙ c.if-leads_out.false in
    c.loop-part.invariant ∙ goes_on _ _ _ next stays

pub returns : goal.returns
returns c =
    ap not (sym (c.loop-part.invariant ∙ ap (list_any leads_out) c.in-None.ensures.steps.0))
