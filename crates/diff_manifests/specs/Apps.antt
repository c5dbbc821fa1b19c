-- An app of a manifest, and its side of a comparison by rows.
use Rattle.std.specs.Prelude.{◌≡◌, ℕ, List, [], ◌++◌, map, slice_get}
use Rattle.std.specs.Prelude.{Option, Some, None, option_map}
use Rattle.load.specs.declared.judged.JudgedApp.{JudgedApp}
use Rattle.releases.specs.Release.{Release}
use Rattle.diff_rules.specs.Contents.{content_number}
use Rattle.diff_rules.specs.declared.contents.ContentNumbers.{ContentNumbers}
use Rattle.rule_lang.specs.declared.rule.Statement.{Statement}
use Rattle.diff_space.specs.Machines.{Side}

-- ---- releases

-- the releases of an app; none if the manifest lacks it
abbrev pub releases_or_none : Option JudgedApp → List Release
releases_or_none (Some app) = app.sources.entry.releases
releases_or_none None = []

-- the releases of both manifests, by which contents are numbered
abbrev pub releases_in : (old new : Option JudgedApp) → List Release
releases_in old new = releases_or_none old ++ releases_or_none new

-- the numbers of the contents of an app's releases
abbrev pub contents_in : List Release → Option JudgedApp → List ℕ
contents_in releases app = map (content_number releases) (releases_or_none app)

pub record HasContents (old new : Option JudgedApp) (c : ContentNumbers) : Type 0 where
  pub old_are : c.old.items ≡ contents_in (releases_in old new) old
  pub new_are : c.new.items ≡ contents_in (releases_in old new) new

-- ---- sides

-- a manifest that lacks the app offers nothing
abbrev pub no_side : Side
no_side = record {
  shape = record { releases = 0; arrays = [] };
  statements = [];
  contents = [];
}

-- the side of an app with this rule
abbrev pub side_with : List Release → JudgedApp → List Statement → Side
side_with releases app rule = record {
  shape = app.program.shape;
  statements = rule;
  contents = contents_in releases (Some app);
}

-- the side of an app, unless its file is a program
abbrev pub side_in : List Release → Option JudgedApp → Option Side
side_in releases None = Some no_side
side_in releases (Some app) = option_map (side_with releases app) app.rule

-- ---- the same app in both manifests

-- elements with the same number are equal, up to the end of the shorter list
abbrev pub AgreeAsFar : {A : Type 0} → (xs ys : List A) → Type 0
AgreeAsFar {A} xs ys = (number : ℕ) (x y : A) → slice_get xs number ≡ Some x
    → slice_get ys number ≡ Some y → x ≡ y

-- a program, or rules that are compiled to the same one: the same instructions on the same arrays
-- choose among the same contents
pub record IsSameProgram (old new : JudgedApp) : Type 0 where
  pub code_is : new.program.code ≡ old.program.code
  pub arrays : AgreeAsFar old.program.shape.arrays new.program.shape.arrays
  pub contents : AgreeAsFar (contents_in (releases_in (Some old) (Some new)) (Some old))
      (contents_in (releases_in (Some old) (Some new)) (Some new))

-- both manifests have the app, with one rule, on the same arrays, for releases of the same
-- contents; or with the same program
pub data IsSameApp (old new : JudgedApp) : Type 0 where
  same_rule : (side : Side)
      → side_in (releases_in (Some old) (Some new)) (Some old) ≡ Some side
      → side_in (releases_in (Some old) (Some new)) (Some new) ≡ Some side → IsSameApp old new
  same_program : IsSameProgram old new → IsSameApp old new
