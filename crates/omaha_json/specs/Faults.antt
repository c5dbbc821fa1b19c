-- The text of each refusal.
use Rattle.std.specs.Prelude.{ℕ, List, ◌++◌, codes}
use Rattle.omaha_json.specs.declared.omaha_fault.OmahaFault.{OmahaFault}
use Rattle.omaha_json.specs.declared.omaha_fault.OmahaFault.TheVariants as fault

-- the number and the name
abbrev pub omaha_name : OmahaFault → List ℕ
omaha_name fault.Json = codes "O1 Json"
omaha_name fault.Shape = codes "O2 Shape"
omaha_name fault.Protocol = codes "O3 Protocol"
omaha_name fault.TooManyApps = codes "O4 TooManyApps"
omaha_name fault.Memory = codes "O5 Memory"

abbrev pub omaha_line : OmahaFault → List ℕ
omaha_line f = omaha_name f ++ codes "\n"
