-- Which servers an action looks at.
use Rattle.std.specs.Prelude.{◌≡◌, ◌++◌, ℕ, List, [], ◌∷◌, All, map}
use Rattle.bounded_files.specs.Files.{KnownFiles}
use Rattle.stage_servers.specs.Drift.{IsSurveyed}
use Rattle.stage_servers.specs.declared.options.StageOptions.{StageOptions}
use Rattle.stage_servers.specs.declared.serves.Surveyed.{Surveyed}

-- these, or 8081 without any
abbrev pub or_default : (ports : List ℕ) → List ℕ
or_default [] = 8081 ∷ []
or_default (port ∷ ports) = port ∷ ports

-- the operator's ports of the servers
abbrev pub ports_of : StageOptions → List ℕ
ports_of options = or_default options.operators.now

-- a server for each of these ports, of which those that are left aren't surveyed yet
pub record AreSurveyed (known : KnownFiles) (current : List ℕ) (ports left : List ℕ)
    (servers : List Surveyed) : Type 0 where
  pub are : All (IsSurveyed known current) servers
  pub ports_are : map (λ server. server.port) servers ++ left ≡ ports
