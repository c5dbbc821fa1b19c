-- The samples of a list, one by one.
use Rattle.std.proofs.Common.{◌≡◌, List, [], ◌∷◌, length, Option, Some, None, IfSome}
use Rattle.std.proofs.Common.{subst, sym}
use Rattle.cells.specs.Arrays.{AppShape}
use Rattle.why_refused_rule.specs.Followers.{AddsSample, AddsSamples}
use Rattle.why_refused_rule.specs.Followers.AddsSamples.{none, next}
use Rattle.why_refused_rule.specs.declared.follower.Sample.{Sample}
use Rattle.rule_lang.specs.Tokens.{Text}

pub none_left : (s : AppShape) (before : Text) (fs old : List Sample) → length fs ≡ 0
    → AddsSamples s before fs old old
none_left s before [] old empty = none
none_left s before (f ∷ fs) old empty = absurd cc

pub one_more : (s : AppShape) (before : Text) (f : Sample) (all fs old between new
    : List Sample) (r : Option (Unit {0})) → all ≡ f ∷ fs
    → AddsSample s before f old between
    → IfSome r (λ x. AddsSamples s before fs between new)
    → IfSome r (λ x. AddsSamples s before all old new)
one_more s before f all fs old between new None whole first others = tt
one_more s before f all fs old between new (Some x) whole first others =
    subst (λ (l : List Sample). AddsSamples s before l old new) (sym whole)
    (next first others)
