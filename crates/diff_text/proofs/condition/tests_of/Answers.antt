use Rattle.std.proofs.Common.{◌≡◌, ◌∙◌, inl, ap, map, rules, string_bytes, sym, true}
use Rattle.diff_text.proofs.Matched.{none_tested}
use Rattle.diff_text.proofs.condition.tests_of.Goals as goal

pub returns-then-are_grants : goal.returns-then-are_grants
returns-then-are_grants c = λ x lines.
    let holds : c.are_grants.result ≡ true = search rules in
    inl (
      none_tested c.args.dimensions.now c.args.sets.now (sym c.are_grants.ensures ∙ holds),
      ap (map string_bytes) c.new-none.ensures.items,
    )
