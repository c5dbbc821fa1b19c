-- The lines that an operator's thread answered, one after the other: how a server gets from one
-- ruleset to the next.
use Rattle.std.specs.Prelude.{◌≡◌, ◌≢◌, ℕ, List, [], ◌∷◌, ◌++◌, All, Option, Some}
use Rattle.std.specs.Borrow.{Bor}
use Rattle.cells.specs.declared.event.CellEvent.{CellEvent}
use Rattle.halts.specs.Halts.{HoldsBack}
use Rattle.hot_swap.specs.Published.{Extends}
use Rattle.operator.specs.Control.{Controlled, Loading, IsHalted, KnowOnlyItsArrays}
use Rattle.operator.specs.Control.{ServesLastLoad}
use Rattle.operator.specs.Counters.{IsLoad}
use Rattle.operator.specs.Perform.{Performs}
use Rattle.operator.specs.declared.reply.OperatorReply.{OperatorReply}
use Rattle.operator_request.specs.declared.request.OperatorRequest.{OperatorRequest}
use Rattle.operator_request.specs.declared.request.OperatorRequest.TheVariants.{Resume}
use Rattle.ruleset.specs.Rules.{Rules}

-- an answered line: what it requested, if anything, and the reply
pub record AnsweredLine (F : Type 0) : Type 0 where
  pub request : Option OperatorRequest
  pub reply : OperatorReply F

-- the request isn't the end of this app's halt
abbrev pub IsNoResume : List ℕ → Option OperatorRequest → Type 0
IsNoResume appid request = (named : Bor (List ℕ)) → request ≡ Some (Resume named)
    → named.now ≢ appid

-- further rulesets were published, and whatever program they have for the app chooses none
pub record PublishesHeld (appid : List ℕ) (old new : Controlled) : Type 0 where
  pub further : List Rules
  pub published_are :
      new.publishing.known.rulesets ≡ old.publishing.known.rulesets ++ further
  pub held : All (HoldsBack appid) further

module _ {F : Type 0} (loads : Loading F) where
  -- Answered lines, and nothing else, lead from one state of the server to another. Each line
  -- installs at most one ruleset, and its reply has the generation: that of the path that it names,
  -- or that of the last load, with the halted apps' programs replaced. Only a line that requests a
  -- stop makes the server stop. The events are those by which lines read the counters. Nothing
  -- shows which bytes a socket carried.
  pub data LinesLead
      : Controlled → List (AnsweredLine F) → List CellEvent → Controlled → Type 0 where
    stays : {c : Controlled} → LinesLead c [] [] c
    goes : {c d e : Controlled} {lines : List (AnsweredLine F)} {before events : List CellEvent}
        {request : Option OperatorRequest} {reply : OperatorReply F}
        → LinesLead c lines before d → Performs loads request d events reply e
        → LinesLead c (lines ++ record { request = request; reply = reply } ∷ [])
        (before ++ events) e

  -- then answered lines only append to the list of published rulesets
  abbrev pub LinesGoOnwards : Type 0
  LinesGoOnwards = (c d : Controlled) (lines : List (AnsweredLine F)) (reads : List CellEvent)
      → LinesLead c lines reads d → Extends c.publishing.known d.publishing.known

  -- if the programs knew only the server's arrays, they still do
  abbrev pub LinesKeepToArrays : Type 0
  LinesKeepToArrays = (c d : Controlled) (lines : List (AnsweredLine F)) (reads : List CellEvent)
      → LinesLead c lines reads d → KnowOnlyItsArrays c → KnowOnlyItsArrays d

  -- and the counters were only read
  abbrev pub LinesOnlyRead : Type 0
  LinesOnlyRead = (c d : Controlled) (lines : List (AnsweredLine F)) (reads : List CellEvent)
      → LinesLead c lines reads d → All IsLoad reads

  -- what is served is still the last load, with the halted apps' programs replaced
  abbrev pub LinesServeLoads : Type 0
  LinesServeLoads = (c d : Controlled) (lines : List (AnsweredLine F)) (reads : List CellEvent)
      → LinesLead c lines reads d → ServesLastLoad c → ServesLastLoad d

  -- A halt holds: while no line resumes a halted app, it stays halted, and no ruleset that is
  -- published has a program for it that chooses a release, whatever is loaded.
  abbrev pub HaltsHold : Type 0
  HaltsHold = (appid : List ℕ) (c d : Controlled) (lines : List (AnsweredLine F))
      (reads : List CellEvent) → LinesLead c lines reads d → IsHalted appid c
      → All (λ line. IsNoResume appid line.request) lines
      → IsHalted appid d × PublishesHeld appid c d
