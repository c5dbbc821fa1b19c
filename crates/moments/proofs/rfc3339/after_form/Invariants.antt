use Rattle.std.proofs.Common.{◌≡◌, length}
use Rattle.moments.specs.Rfc3339 as specs
use Rattle.moments.proofs.rfc3339.after_form.Given as goal

-- what is left of the form and of the text decides
abbrev pub invariant-loop-wanted : goal.invariant-loop-wanted
invariant-loop-wanted l = specs.after_form l.wanted l.left ≡ specs.after_form l.form l.text

abbrev pub decreases-loop-wanted : goal.decreases-loop-wanted
decreases-loop-wanted l = length l.wanted
