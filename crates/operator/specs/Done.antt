-- What a reply says to the operator's client: the request was done, or why it wasn't.
use Rattle.std.specs.Prelude.{ℕ, List, IsTrue}
use Rattle.operator.specs.Replies.{is_answer}
use Rattle.operator.specs.declared.server_reply.RequestFault.{RequestFault}
use Rattle.operator.specs.declared.server_reply.RequestFault.TheVariants.{Word}
use Rattle.operator_request.specs.Requests.{IsSendable}
use Rattle.operator_request.specs.declared.request.OperatorRequest.{OperatorRequest}

-- the bytes report that the request was done: they are a reply to it, and not a refusal
pub record IsDoneAs (request : OperatorRequest) (bytes : List ℕ) : Type 0 where
  pub sent : IsSendable request
  pub answered : IsTrue (is_answer request bytes)

-- no line can request this; otherwise the server refuses, no server replies, or memory runs out
abbrev pub IsRequestRefusal : OperatorRequest → RequestFault → Type 0
IsRequestRefusal request Word = ¬ IsSendable request
IsRequestRefusal request fault = Unit {0}
