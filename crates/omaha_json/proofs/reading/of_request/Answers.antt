use Rattle.std.proofs.Common.{◌∙◌}
use Rattle.omaha_json.proofs.MembersOfRequests.{of_all_members}
use Rattle.omaha_json.proofs.reading.of_request.Goals as goal

pub returns : goal.returns
returns g c not_memory =
    c.of_members.ensures not_memory ∙ of_all_members _ _ c.request_members.ensures
