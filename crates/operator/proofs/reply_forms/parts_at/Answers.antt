use Rattle.std.proofs.Common.{ℕ, ◌+◌, ◌-◌, ap, sym, ◌∙◌, arith, length, drop, take, take_all}
use Rattle.std.proofs.Common.{length-drop}
use Rattle.std.specs.Prelude.{◌==◌}
use Rattle.std.proofs.lemmas.List.{drop_all}
use Rattle.operator.proofs.Positions.{found, not_found}
use Rattle.operator.proofs.reply_forms.parts_at.Goals as goal

pub returns-in-Some-clause-before : goal.returns-in-Some-clause-before
returns-in-Some-clause-before c =
    let bytes = c.args.bytes.now in
    let is =
    found (λ b. b == c.args.at) bytes c.in-Some.i (sym c.first_at.ensures ∙ c.in-Some.is) in
    ap (λ (n : ℕ). take n bytes) (sym is.0)

pub returns-in-Some-clause-after : goal.returns-in-Some-clause-after
returns-in-Some-clause-after c =
    let bytes = c.args.bytes.now in
    let next = c.in-Some.i + 1 in
    let is =
    found (λ b. b == c.args.at) bytes c.in-Some.i (sym c.first_at.ensures ∙ c.in-Some.is) in
    take_all (length bytes - next) (drop next bytes) (omega (arith, length-drop next bytes))
    ∙ ap (λ (n : ℕ). drop (n + 1) bytes) (sym is.0)

pub returns-in-None-clause-before : goal.returns-in-None-clause-before
returns-in-None-clause-before c =
    let bytes = c.args.bytes.now in
    let end = not_found (λ b. b == c.args.at) bytes (sym c.first_at.ensures ∙ c.in-None.is) in
    sym (take_all _ bytes (omega (arith, end)))

pub returns-in-None-clause-after : goal.returns-in-None-clause-after
returns-in-None-clause-after c =
    let bytes = c.args.bytes.now in
    let end = not_found (λ b. b == c.args.at) bytes (sym c.first_at.ensures ∙ c.in-None.is) in
    sym (drop_all _ bytes (omega (arith, end)))
