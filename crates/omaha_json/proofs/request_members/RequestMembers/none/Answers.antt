use Rattle.std.proofs.Common.{refl}
use Rattle.omaha_json.proofs.request_members.RequestMembers.none.Goals as goal

pub returns : goal.returns
returns c = record {
  is_version_3_1 = refl;
  apps = refl;
  requestid = refl;
  sessionid = refl;
  platform = refl;
}
