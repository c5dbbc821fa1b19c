use Rattle.std.proofs.Common.{refl, ap, ◌∙◌}
use Rattle.attrs.specs.Attributes.{Attributes}
use Rattle.ruleset.specs.Rules.{appid_of}
use Rattle.world.proofs.world.open_run.Goals as goal

pub returns-in_default : goal.returns-in_default
returns-in_default c =
    rw (c.text.ensures ∙ ap (λ (a : Attributes). appid_of a) c.deref.ensures) at
    c.in_default.ensures.none

pub returns-in_default-try_clone : goal.returns-in_default-try_clone
returns-in_default-try_clone c = (
  c.in-Some.app.now.program,
  record {
    app = c.in-Some.app.now;
    known = rw (c.text.ensures ∙ ap (λ (a : Attributes). appid_of a) c.deref.ensures) at
        c.in-Some.ensures.known;
    program_is = refl;
  },
)

pub returns-in_default-try_clone-2 : goal.returns-in_default-try_clone-2
returns-in_default-try_clone-2 c = (
  c.in-Some.app.now.program,
  record {
    app = c.in-Some.app.now;
    known = rw (c.text.ensures ∙ ap (λ (a : Attributes). appid_of a) c.deref.ensures) at
        c.in-Some.ensures.known;
    program_is = refl;
  },
)
