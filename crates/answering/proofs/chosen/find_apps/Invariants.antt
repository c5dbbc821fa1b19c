use Rattle.std.proofs.Common.{◌≡◌}
use Rattle.answering.proofs.Found.{found_first}
use Rattle.answering.proofs.chosen.find_apps.Given as goal

-- what was found for the first few apps
abbrev pub invariant-loop-i : goal.invariant-loop-i
invariant-loop-i l = l.found.items ≡ found_first l.rules l.facts l.i l.apps l.choices
