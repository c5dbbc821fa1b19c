-- Each kind's name is a warning name.
use Rattle.std.proofs.Common.{refl}
use Rattle.warnings.specs.declared.warning.WarningKind.TheVariants as kind
use Rattle.warnings.specs.Names.{AllAreNamed, is_warning_name}

pub all_named : AllAreNamed
unfolding is_warning_name
all_named kind.UnprintedAppid = refl
all_named kind.UnusedArray = refl
all_named (kind.SharedArray first second) = refl
all_named kind.SameVersion = refl
all_named kind.CodebaseSlash = refl
all_named kind.CodebaseScheme = refl
all_named (kind.FewBuckets up_to number buckets) = refl
all_named (kind.AllBuckets up_to number) = refl
all_named kind.TakeBeforeVersion = refl
all_named kind.NeverReached = refl
all_named kind.NeverHolds = refl
all_named kind.NoBucket = refl
all_named kind.OfferedAgain = refl
all_named kind.OfferedLower = refl
all_named kind.NotEvaluated = refl
all_named kind.EmptyFile = refl
all_named kind.PackageName = refl
all_named kind.NoCohort = refl
all_named kind.EarlyDay = refl
