use Rattle.std.proofs.Common.{◌≡◌, ◌∙◌, sym, subst, List, ℕ}
use Rattle.std.specs.Prelude.{codes}
use Rattle.std.specs.Str.Pattern.{LacksTextAt}
use Rattle.std.specs.String.{string_bytes}
use Rattle.operator.proofs.Replied.{done}
use Rattle.operator.specs.Done.{IsDoneAs}
use Rattle.operator.proofs.client.read_reply.Goals as goal

pub returns-in-Ok-from_str-clause-done : goal.returns-in-Ok-from_str-clause-done
returns-in-Ok-from_str-clause-done c request reply =
    let written : string_bytes c.in-Ok-from_str.text ≡ c.args.reply.now =
    c.in-Ok-from_str.ensures.ok ∙ c.in-Ok.ensures.cases.0 in
    subst (IsDoneAs request) (sym written) (done request c.args.reply.now
    (subst (λ (t : List ℕ). LacksTextAt (codes "refused ") t 0) c.in-Ok.ensures.cases.0
    c.in_default-strip_prefix.ensures.cases) reply)
