use Rattle.std.proofs.Common.{◌≤◌, ◌<◌, ◌+◌, ◌∙◌, ℕ, ap, arith, length, subst, sym}
use Rattle.diff_rules.specs.Contents.{has_content_of}
use Rattle.diff_rules.proofs.Positions.{first_of_two, position_within, second_of_two}
use Rattle.diff_rules.proofs.contents.content_number.Goals as goal

pub returns-then-place-old-clause-number : goal.returns-then-place-old-clause-number
returns-then-place-old-clause-number c =
    let old = c.args.old.now in
    let p = has_content_of c.args.release.now in
    let is = c.position_in-place.ensures in
    let within = subst (λ (n : ℕ). n < length old) is c.if-place-old.true in
    ap (λ (n : ℕ). n + 1) (is ∙ sym (first_of_two p old c.args.new.now within))

pub overflow_add-result-2 : goal.overflow_add-result-2
overflow_add-result-2 c =
    let is = c.position_in.ensures in
    let most = position_within (has_content_of c.args.release.now) c.args.new.now in
    let old = c.requires.old in
    let new = c.requires.new in
    omega (arith, is, most, old, new)

pub overflow_add-result-3 : goal.overflow_add-result-3
overflow_add-result-3 c =
    let is = c.position_in.ensures in
    let most = position_within (has_content_of c.args.release.now) c.args.new.now in
    let old = c.requires.old in
    let new = c.requires.new in
    omega (arith, is, most, old, new)

pub returns-clause-number : goal.returns-clause-number
returns-clause-number c =
    let old = c.args.old.now in
    let p = has_content_of c.args.release.now in
    let past = subst (λ (n : ℕ). length old ≤ n) c.position_in-place.ensures c.if-place-old.false in
    ap (λ (n : ℕ). n + 1) (ap (λ (n : ℕ). length old + n) c.position_in.ensures
    ∙ sym (second_of_two p old c.args.new.now past))

pub returns-clause-few : goal.returns-clause-few
returns-clause-few c =
    let is = c.position_in.ensures in
    let most = position_within (has_content_of c.args.release.now) c.args.new.now in
    let old = c.requires.old in
    let new = c.requires.new in
    omega (arith, is, most, old, new)
