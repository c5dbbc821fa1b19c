-- The log's event of a halt, or of its end, and its line.
use Rattle.std.specs.Prelude.{◌≡◌, ℕ, List, Option, Some, None, IfSome, option_copied}
use Rattle.access_log.specs.Excerpt.{IsExcerpt}
use Rattle.access_log.specs.Line.{event_line}
use Rattle.access_log.specs.declared.log_event.Halt.{Halt}
use Rattle.access_log.specs.declared.log_event.LineHeader.{LineHeader}
use Rattle.access_log.specs.declared.log_event.LogEvent.TheVariants as log
use Rattle.operator.specs.Texts.{refusal_text}
use Rattle.operator.specs.declared.reply.OperatorRefusal.{OperatorRefusal}
use Rattle.operator.specs.declared.reply.OperatorReply.{OperatorReply}
use Rattle.operator.specs.declared.reply.OperatorReply.TheVariants as reply
use Rattle.server_log.specs.declared.halt_line.HaltRequest.{HaltRequest}

-- the event of a request that was done: its app, its word, and the generation that is then served
pub record DescribesHalt (request : HaltRequest) (generation : ℕ) (halt : Halt) : Type 0 where
  pub app_is : IsExcerpt request.appid.now halt.app
  pub word_is : halt.is_resume ≡ request.is_resume
  pub generation_is : halt.generation ≡ generation
  pub refusal_is : halt.refusal ≡ None

-- the event of a refused request: its app, its word, and the text of the refusal
pub record DescribesRefusedHalt (request : HaltRequest) (text : List ℕ) (halt : Halt) : Type 0
  where
    pub app_is : IsExcerpt request.appid.now halt.app
    pub word_is : halt.is_resume ≡ request.is_resume
    pub generation_is : halt.generation ≡ 0
    pub refusal_is : option_copied halt.refusal ≡ Some text

-- the line with this header of a halt event that has the property
pub record IsHaltLine (header : LineHeader) (Describes : Halt → Type 0) (line : List ℕ)
    : Type 0 where
  pub halt : Halt
  pub describes : Describes halt
  pub line_is : line ≡ event_line header (log.Halt halt)

-- given the texts of a loader's faults
module _ {F : Type 0} (fault_text : F → Option (List ℕ)) where
  -- the event of a request with this refusal: the refusal's text, as far as it is known
  pub record DescribesHaltRefusal (request : HaltRequest) (refused : OperatorRefusal F)
      (halt : Halt) : Type 0 where
    pub text : List ℕ
    pub text_is : IfSome (refusal_text fault_text refused) (λ known. text ≡ known)
    pub describes : DescribesRefusedHalt request text halt

  -- the line of a request to halt an app, or to resume it, by the reply: its generation, or why it
  -- is refused; other replies have no line
  abbrev pub IsLineOfHalt : LineHeader → HaltRequest → OperatorReply F → Option (List ℕ) → Type 0
  IsLineOfHalt header request (reply.Loaded generation) (Some line) =
      IsHaltLine header (DescribesHalt request generation) line
  IsLineOfHalt header request (reply.Refused refused) (Some line) =
      IsHaltLine header (DescribesHaltRefusal request refused) line
  IsLineOfHalt header request (reply.Lines lines) None = Unit {0}
  IsLineOfHalt header request reply.Stopping None = Unit {0}
  IsLineOfHalt header request other line = ⊥
