-- The status and the text of the reply to each refusal.
use Rattle.std.specs.Prelude.{ℕ, List, ◌++◌, codes, Option, Some, None}
use Rattle.http_front.specs.declared.post_fault.PostFault.{PostFault}
use Rattle.http_front.specs.declared.post_fault.PostFault.TheVariants as fault
use Rattle.http_front.specs.declared.status.Status.{Status}
use Rattle.http_front.specs.declared.status.Status.TheVariants as status

-- RFC 9110, section 15
abbrev pub status_of : PostFault → Option Status
status_of fault.Head = Some status.BadRequest
status_of fault.Path = Some status.NotFound
status_of fault.Method = Some status.MethodNotAllowed
status_of fault.Length = Some status.LengthRequired
status_of fault.TooLarge = Some status.ContentTooLarge
status_of fault.HeadTooLarge = Some status.HeaderFieldsTooLarge
status_of fault.Ended = None
status_of fault.Device = None
status_of fault.Memory = Some status.InternalServerError

-- the number and the name
abbrev pub post_name : PostFault → List ℕ
post_name fault.Head = codes "P1 Head"
post_name fault.Path = codes "P2 Path"
post_name fault.Method = codes "P3 Method"
post_name fault.Length = codes "P4 Length"
post_name fault.TooLarge = codes "P5 TooLarge"
post_name fault.HeadTooLarge = codes "P6 HeadTooLarge"
post_name fault.Ended = codes "P7 Ended"
post_name fault.Device = codes "P8 Device"
post_name fault.Memory = codes "P9 Memory"

abbrev pub post_line : PostFault → List ℕ
post_line f = post_name f ++ codes "\n"
