-- The reply to an `updatecheck` of Omaha 3.1: a release of the app to fetch, or none.
use Rattle.std.specs.Prelude.{ℕ, ◌-◌, ◌==◌, List, codes, map, slice_get}
use Rattle.std.specs.Prelude.{Option, Some, None, if◌then◌else◌}
use Rattle.serde_json.specs.Data.{Data, boolean, number, string, array, object, unsigned}
use Rattle.serde_json.specs.Data.{no_items, item, no_members, member}
use Rattle.serde_json.specs.View.{items_of}
use Rattle.releases.specs.Release.{Package, Release}

-- an object of one member
abbrev pub only : List ℕ → Data → Data
only name d = object (member name d no_members)

abbrev pub status_value : List ℕ → Data
status_value word = only (codes "status") (string word)

abbrev pub package_value : Package → Data
package_value file = object (
    member (codes "hash_sha256") (string file.hash_sha256) (
    member (codes "name") (string file.name) (
    member (codes "required") (boolean file.required) (
    member (codes "size") (number (unsigned file.size))
    no_members))))

abbrev pub packages_value : List Package → Data
packages_value files = only (codes "package") (array (items_of (map package_value files)))

abbrev pub manifest_value : Release → Data
manifest_value release = object (
    member (codes "packages")
    (only (codes "package") (array (items_of (map package_value release.packages)))) (
    member (codes "version") (string release.version)
    no_members))

abbrev pub urls_value : List ℕ → Data
urls_value codebase =
    only (codes "url") (array (item (only (codes "codebase") (string codebase)) no_items))

-- the reply to an `updatecheck`: a release to fetch, or none
abbrev pub update_value : Option Release → Data
update_value (Some release) = object (
    member (codes "manifest") (manifest_value release) (
    member (codes "status") (string (codes "ok")) (
    member (codes "urls") (urls_value release.codebase)
    no_members)))
update_value None = status_value (codes "noupdate")

-- the release that a choice names: 1 is the first, and 0 none
abbrev pub release_at : List Release → ℕ → Option Release
release_at releases choice = if choice == 0 then None else slice_get releases (choice - 1)
