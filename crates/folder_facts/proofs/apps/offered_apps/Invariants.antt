use Rattle.std.proofs.Common.{◌≡◌, ◌++◌, All, length, map}
use Rattle.std.specs.Prelude.{string_bytes}
use Rattle.folder_facts.specs.Offered.{IsQuotaIn}
use Rattle.folder_facts.proofs.apps.offered_apps.Given as goal

-- the apps so far, followed by those that are left, are all
abbrev pub invariant-loop-left : goal.invariant-loop-left
invariant-loop-left l =
    (map (λ app. string_bytes app.appid) l.apps.items ++ map (λ app. app.entry.appid) l.left
    ≡ map (λ app. app.entry.appid) l.sources.apps.items)
    × All (λ app. All (IsQuotaIn l.sources.arrays.items) app.quotas.items) l.apps.items

abbrev pub decreases-loop-left : goal.decreases-loop-left
decreases-loop-left l = length l.left
