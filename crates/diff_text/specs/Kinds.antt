-- Kinds of changes, by the releases that both manifests give.
use Rattle.std.specs.Prelude.{ℕ, ◌-◌, List, codes, Bool, true, false, Option, Some, None}
use Rattle.std.specs.Prelude.{◌==◌, slice_get, if◌then◌else◌}
use Rattle.std.specs.List.{list_any}
use Rattle.std.specs.declared.cmp.Ordering.{Ordering}
use Rattle.std.specs.declared.cmp.Ordering.TheVariants.{Less, Equal, Greater}
use Rattle.attrs.specs.Version.{version_of}
use Rattle.releases.specs.Release.{Release}
use Rattle.rule_lang.specs.Meaning.{version_cmp}
use Rattle.diff_rules.specs.Rows.{DiffRow}
use Rattle.diff_text.specs.declared.kind.RowKind.{RowKind}
use Rattle.diff_text.specs.declared.kind.RowKind.TheVariants as kind

-- versions compare by their four numbers, which each release's version has
abbrev pub order_of : Option (List ℕ) → Option (List ℕ) → Ordering
order_of (Some v) (Some w) = version_cmp v w
order_of (Some v) None = Equal
order_of None w = Equal

-- a change to a release with a higher, an equal or a lower version
abbrev pub kind_by : Ordering → RowKind
kind_by Less = kind.Newer
kind_by Equal = kind.Changed
kind_by Greater = kind.Older

abbrev pub kind_of : (current next : Option Release) → RowKind
kind_of None next = kind.Gain
kind_of (Some r) None = kind.Lost
kind_of (Some r) (Some s) = kind_by (order_of (version_of r.version) (version_of s.version))

-- the release whose content has this number: the number is its position, from 1; none for 0
abbrev pub release_of : (all : List Release) → (content : ℕ) → Option Release
release_of all content = if content == 0 then None else slice_get all (content - 1)

-- the kind of a row, by the releases of both manifests, the old ones first
abbrev pub kind_in : (all : List Release) → DiffRow → RowKind
kind_in all row = kind_of (release_of all row.current) (release_of all row.next)

-- somebody gets no release any more, or one of a lower version
abbrev pub is_lost : RowKind → Bool
is_lost kind.Lost = true
is_lost kind.Older = true
is_lost kind.Changed = false
is_lost kind.Newer = false
is_lost kind.Gain = false

-- some row is lost
abbrev pub some_lost : (all : List Release) → List DiffRow → Bool
some_lost all rows = list_any (λ row. is_lost (kind_in all row)) rows

-- the name in JSON
abbrev pub name_of : RowKind → List ℕ
name_of kind.Lost = codes "lost"
name_of kind.Older = codes "older"
name_of kind.Changed = codes "changed"
name_of kind.Newer = codes "newer"
name_of kind.Gain = codes "gain"
