-- What an app of a manifest is offered.
use Rattle.std.specs.Prelude.{◌≡◌, ◌<◌, ℕ, List, All, Option, Some, IsSomeAnd, find, map}
use Rattle.std.specs.Prelude.{string_bytes}
use Rattle.std.specs.Str.{bytes_eq}
use Rattle.cells.specs.Directory.{Declaration}
use Rattle.load.specs.declared.sources.Sources.{Sources}
use Rattle.report_page.specs.declared.folder.OfferedApp.{OfferedApp}
use Rattle.report_page.specs.declared.folder.OfferedQuota.{OfferedQuota}

-- the array of this name; the first if there are two
abbrev pub array_named : List Declaration → (name : List ℕ) → Option Declaration
array_named arrays name = find (λ array. bytes_eq array.name name) arrays

-- the quota of a cell of the array
pub record IsQuotaOf (array : Declaration) (quota : OfferedQuota) : Type 0 where
  pub limit : array.quota ≡ Some quota.limit
  pub index : quota.index < array.length

-- a quota is its array's, as the manifest declares it
abbrev pub IsQuotaIn : List Declaration → OfferedQuota → Type 0
IsQuotaIn arrays quota =
    IsSomeAnd (array_named arrays (string_bytes quota.array)) (λ array. IsQuotaOf array quota)

-- the apps are the manifest's, in their order, and each quota is one of its arrays'
pub record AreOffered (sources : Sources) (apps : List OfferedApp) : Type 0 where
  pub appids : map (λ app. string_bytes app.appid) apps
      ≡ map (λ app. app.entry.appid) sources.apps.items
  pub quotas : All (λ app. All (IsQuotaIn sources.arrays.items) app.quotas.items) apps
