use Rattle.std.proofs.Common.{ap, sym, subst, ◌∙◌, ◌++◌, ℕ, List, Some, None, rules, tests}
use Rattle.std.specs.Str.{IsUtf8}
use Rattle.std.proofs.lemmas.Bool.Decides.{Decides-eqb}
use Rattle.std.proofs.lemmas.Slice.Eq.{strip_prefix_is}
use Rattle.operator_request.proofs.request.argument.Goals as goal

pub returns-in_default-clause-none : goal.returns-in_default-clause-none
returns-in_default-clause-none c text has =
    strip_prefix_is Decides-eqb c.args.line.now c.args.word.now None c.in_default.ensures.cases
    text has.0

pub returns-in-Ok-clause-some : goal.returns-in-Ok-clause-some
returns-in-Ok-clause-some c =
    let word = c.args.word.now in
    let follows =
    strip_prefix_is Decides-eqb c.args.line.now word (Some c.in-Some.text) c.in-Some.ensures.cases
    in
    let read = c.in-Ok.ensures.cases in
    let same = sym read.0 in
    (follows ∙ ap (λ (t : List ℕ). word ++ t) same, subst IsUtf8 same read.1, search (rules, tests))
