-- What is sent: a status and a text, which is Omaha's reply or the line of a refusal.
use Rattle.std.specs.Prelude.{◌≢◌, ℕ, List, [], codes, Result, Ok, Err}
use Rattle.hot_swap.specs.Texts.{swap_text}
use Rattle.hot_swap.specs.declared.swap_fault.SwapFault.TheVariants as swap
use Rattle.ruleset.specs.Texts.{line}
use Rattle.http_front.specs.Reply.{reply_bytes}
use Rattle.http_front.specs.declared.status.Status.{Status}
use Rattle.http_front.specs.declared.status.Status.TheVariants as status
use Rattle.omaha_json.specs.Faults.{omaha_name}
use Rattle.omaha_json.specs.declared.omaha_fault.OmahaFault.{OmahaFault}
use Rattle.omaha_json.specs.declared.omaha_fault.OmahaFault.TheVariants as omaha
use Rattle.answering.specs.declared.covered_text.CoveredText.{CoveredText}

-- a status with a text
pub record HttpReply : Type 0 where
  pub status : Status
  pub text : List ℕ

-- its bytes in HTTP
abbrev pub message_bytes : HttpReply → List ℕ
message_bytes reply = reply_bytes reply.status reply.text

-- ---- the text of a reply to a request

abbrev pub success : List ℕ → HttpReply
success text = record { status = status.Success; text = text }

-- ---- refusals: the number and the name of a fault, and a line feed

abbrev pub rejection : Status → List ℕ → HttpReply
rejection status name = record { status = status; text = line name }

abbrev pub omaha_status : OmahaFault → Status
omaha_status omaha.Memory = status.InternalServerError
omaha_status fault = status.BadRequest

abbrev pub omaha_rejection : OmahaFault → HttpReply
omaha_rejection fault = rejection (omaha_status fault) (omaha_name fault)

abbrev pub no_place : HttpReply
no_place = rejection status.InternalServerError (swap_text swap.NoPlace)

-- what the runs did to the counters isn't stored
abbrev pub uncovered : HttpReply
uncovered = rejection status.ServiceUnavailable (codes "K4 Store")

-- any status but that of Omaha's reply
abbrev pub IsRefusalStatus : Status → Type 0
IsRefusalStatus s = s ≢ status.Success

-- the line that is logged for a reply, by its status: a refusal's whole text, and none for Omaha's
-- reply
abbrev pub line_by : Status → List ℕ → List ℕ
line_by status.Success text = []
line_by s text = text

abbrev pub refusal_line : HttpReply → List ℕ
refusal_line reply = line_by reply.status reply.text

-- the result of the code, as a reply
abbrev pub settled_reply : {T : Type 0} → Result (CoveredText T) HttpReply → HttpReply
settled_reply (Ok covered) = success covered.text.items
settled_reply (Err rejection) = rejection
