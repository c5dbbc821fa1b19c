use Rattle.std.proofs.Common.{◌≡◌, ◌∙◌, List, ℕ, ◌++◌, subst}
use Rattle.std.specs.Prelude.{OnOk}
use Rattle.std.specs.String.{string_bytes}
use Rattle.operator.specs.Texts.{loaded_line}
use Rattle.operator.proofs.state_lines.push_origin.Goals as goal

pub returns : goal.returns
returns c =
    let Pushes : List ℕ → List ℕ → Type 0 = λ time path. OnOk c.push_place.result
    (string_bytes c.push_place.new.text ≡ string_bytes c.args.text.now ++ loaded_line time path)
    in
    let time = c.as_str.ensures.value ∙ c.in_ok-time.ensures in
    let pushed = subst (Pushes c.as_str.result.now) c.as_str-2.ensures.value c.push_place.ensures in
    rw (← c.load.view_is)
    (subst (λ (t : List ℕ). Pushes t (string_bytes c.load.inside.path)) time pushed)
