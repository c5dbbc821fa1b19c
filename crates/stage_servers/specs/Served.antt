-- What servers serve.
use Rattle.std.specs.Prelude.{◌≡◌, ℕ, List, length, Bool, true, Option, Some, None}
use Rattle.load.specs.Digest.{digest_of}
use Rattle.load.specs.declared.opened.CollectedManifest.{CollectedManifest}

-- a manifest and its apps' files have this digest, by which a server names what it was loaded with
abbrev pub HasDigest : (digest : List ℕ) → CollectedManifest → Type 0
HasDigest digest c = digest_of c.bytes.items c.sources.apps.items ≡ Some digest

-- a manifest could be gathered, and has this digest
abbrev pub IsGatheredAs : (digest : List ℕ) → Option CollectedManifest → Type 0
IsGatheredAs digest (Some manifest) = HasDigest digest manifest
IsGatheredAs digest None = ⊥

-- the servers are known to serve what is in place, by what is known of them, and by a log, if there
-- is one; or by the log of the only one. With `--no-load` they count as known
abbrev pub AreServed : (servers log : Option Bool) → (ports : List ℕ) → Type 0
AreServed None None ports = ⊥
AreServed None (Some logged) ports = (logged ≡ true) × (length ports ≡ 1)
AreServed (Some known) None ports = known ≡ true
AreServed (Some known) (Some logged) ports = (known ≡ true) × (logged ≡ true)
