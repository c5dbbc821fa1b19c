-- A quota is one of its array's cells.
use Rattle.std.proofs.Common.{◌≡◌, ◌∙◌, ◌<◌, sym, ap, subst, List, ℕ, Option, Some, string_bytes}
use Rattle.std.specs.Prelude.{IsSomeAnd}
use Rattle.cells.specs.Directory.{Declaration}
use Rattle.folder_facts.specs.Offered.{IsQuotaIn, IsQuotaOf, array_named}
use Rattle.report_page.specs.declared.folder.OfferedQuota.{OfferedQuota}

quota_at : (found : Option Declaration) (array : Declaration) (quota : OfferedQuota)
    → found ≡ Some array → IsQuotaOf array quota
    → IsSomeAnd found (λ declared. IsQuotaOf declared quota)
quota_at found array quota is of_array =
    subst (λ (o : Option Declaration). IsSomeAnd o (λ declared. IsQuotaOf declared quota))
    (sym is) of_array

pub quota_found : (arrays : List Declaration) (name : List ℕ) (array : Declaration)
    (quota : OfferedQuota) → array_named arrays name ≡ Some array
    → string_bytes quota.array ≡ name → array.quota ≡ Some quota.limit
    → quota.index < array.length → IsQuotaIn arrays quota
quota_found arrays name array quota found named limit index =
    quota_at _ array quota
    (ap (λ (bytes : List ℕ). array_named arrays bytes) named ∙ found)
    (record { limit = limit; index = index })
