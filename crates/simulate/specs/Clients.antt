-- The clients of a simulation: one in each bucket, which keeps the cohort that a server gave it.
use Rattle.std.specs.Prelude.{◌≡◌, ℕ, List, Some}
use Rattle.attrs.specs.Attributes.{Attributes}
use Rattle.attrs.specs.Bucket.{cohort_of_bucket}
use Rattle.attrs.specs.Facts.{attributes_of}
use Rattle.simulate.specs.declared.client.Client.{Client}

-- the client of a bucket: it sends the bucket's cohort, and otherwise what all clients send
abbrev pub in_bucket : Client → ℕ → Client
in_bucket c bucket = record c { app = record c.app { cohort = Some (cohort_of_bucket bucket) } }

-- a client that requests the app with an appid
abbrev pub requesting : Client → List ℕ → Client
requesting c appid = record c { app = record c.app { appid = appid } }

-- the attributes of a client
abbrev pub attributes : Client → Attributes
attributes c = attributes_of c.app c.request c.moment

-- the attributes of the client of each bucket, which sends the cohort that a server gave it
abbrev pub clients : Client → ℕ → Attributes
clients c bucket = attributes (in_bucket c bucket)

-- both send the same, except for the cohort; then, except for the cohort and the appid
abbrev pub IsSameButCohort : Client → Client → Type 0
IsSameButCohort c d = (bucket : ℕ) → in_bucket d bucket ≡ in_bucket c bucket

abbrev pub IsSameButApp : Client → Client → Type 0
IsSameButApp c d = (appid : List ℕ) (bucket : ℕ)
    → in_bucket (requesting d appid) bucket ≡ in_bucket (requesting c appid) bucket
