-- The versions of an app, each with its counts.
use Rattle.std.specs.Prelude.{◌≡◌, ℕ, List, string_bytes}
use Rattle.report.specs.Tallies.{Rows}
use Rattle.timeline.specs.Newest.{newest_of}
use Rattle.timeline.specs.Versions.{counts_of_version}
use Rattle.timeline.specs.declared.bins.Bins.{Bins}
use Rattle.timeline.specs.declared.version_course.VersionCourse.{VersionCourse}

-- each number of a version is the sum of its rows
pub record IsVersionCourse (bins : Bins) (rows : Rows) (app version : List ℕ)
    (course : VersionCourse) : Type 0 where
  pub version_is : string_bytes course.version ≡ version
  pub counts : course.counts ≡ counts_of_version rows app version
  pub newest : course.newest ≡ newest_of bins rows app version
