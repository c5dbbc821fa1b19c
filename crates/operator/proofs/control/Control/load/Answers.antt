use Rattle.std.proofs.Common.{◌≡◌, List, ℕ, map, string_bytes, refl, subst, sym, ap, ◌∙◌}
use Rattle.std.specs.Arc.{arc_value}
use Rattle.halts.specs.Halts.{served}
use Rattle.hot_swap.specs.Latest.{Installs}
use Rattle.operator.specs.Control.{Controlled, LastLoad}
use Rattle.ruleset.specs.Rules.{Rules}
use Rattle.operator.proofs.Refused.{uninstallable}
use Rattle.operator.proofs.control.Control.load.Goals as goal

pub returns-in-Ok-install-clause-done : goal.returns-in-Ok-install-clause-done
returns-in-Ok-install-clause-done g c =
    let halted = map string_bytes c.self.inside.halted.items in
    let rules =
    ap (λ (l : LastLoad). l.rules) (c.last.view_is ∙ c.in-Ok-last_load.ensures) in
    let same : map string_bytes c.halted.result.now ≡ halted =
    c.halted.ensures ∙ ap (λ (d : Controlled). d.halted) (sym c.self.view_is) in
    let is = c.in-Ok-served_rules.ensures
    ∙ ap (λ (h : List (List ℕ)). served h (arc_value c.last.inside.rules)) same
    ∙ ap (served halted) rules in
    rw (← c.self.view_is) (record {
      rules = c.in-Ok.loaded.rules;
      digest = c.in-Ok.loaded.digest;
      time = c.args.now;
      loaded = c.in-Ok.ensures.outcome;
      last_is = c.in-Ok-last_load.ensures;
      halted_is = refl;
      installed = subst
          (λ (r : Rules). Installs c.self.inside.publisher r c.in-Ok-install.generation
          c.install.new.self) is c.in-Ok-install.ensures.done;
      only = c.in-Ok.ensures.only;
      grown = c.in-Ok.ensures.grown;
      stopping_is = refl;
    })

pub returns-in-Err-install-clause-fault : goal.returns-in-Err-install-clause-fault
returns-in-Err-install-clause-fault g c = rw (← c.self.view_is) (
  record { given = c.in-Ok.loaded; loaded = c.in-Ok.ensures.outcome },
  uninstallable c.self.inside.publisher c.in-Err-install.fault _ refl
      c.in-Err-install.ensures.exhausted c.in-Err-install.ensures.placed,
)
