-- The log's event of a load, and its line.
use Rattle.std.specs.Prelude.{◌≡◌, ℕ, List, Option, Some, None, IfSome, option_copied}
use Rattle.access_log.specs.Excerpt.{IsExcerpt}
use Rattle.access_log.specs.Line.{event_line}
use Rattle.access_log.specs.declared.log_event.LineHeader.{LineHeader}
use Rattle.access_log.specs.declared.log_event.Load.{Load}
use Rattle.access_log.specs.declared.log_event.LogEvent.TheVariants as log
use Rattle.access_log.specs.declared.excerpt.Excerpt.{Excerpt}
use Rattle.hex.specs.Hex.{encode_lower}
use Rattle.operator.specs.Texts.{refusal_text}
use Rattle.operator.specs.declared.reply.OperatorRefusal.{OperatorRefusal}
use Rattle.operator.specs.declared.reply.OperatorRefusal.TheVariants as refusal
use Rattle.operator.specs.declared.reply.OperatorReply.{OperatorReply}
use Rattle.operator.specs.declared.reply.OperatorReply.TheVariants as reply

-- the cause of a refusal: the loader's cause of its fault, and none for any other refusal
abbrev pub IsCauseOf : {F : Type 0} → (F → Option (List ℕ) → Type 0) → OperatorRefusal F
    → Option (List ℕ) → Type 0
IsCauseOf has_cause (refusal.Load fault) cause = has_cause fault cause
IsCauseOf has_cause other cause = cause ≡ None

-- the excerpt of a text, if there is one
abbrev pub IsExcerptOf : Option (List ℕ) → Option Excerpt → Type 0
IsExcerptOf (Some text) (Some excerpt) = IsExcerpt text excerpt
IsExcerptOf None None = Unit {0}
IsExcerptOf text excerpt = ⊥

-- the event of an installed load: its path, the generation that is then served, its digest, and how
-- many apps are halted
pub record DescribesInstalledLoad (path : List ℕ) (generation : ℕ) (digest : List ℕ) (halted : ℕ)
    (load : Load) : Type 0 where
  pub path_is : IsExcerpt path load.path
  pub generation_is : load.generation ≡ generation
  pub digest_is : option_copied load.digest ≡ Some digest
  pub halted_is : load.halted ≡ halted
  pub refusal_is : load.refusal ≡ None
  pub cause_is : load.cause ≡ None

-- the event of a refused load: its path, the text of the refusal, and the cause
pub record DescribesRefusedLoad (path text : List ℕ) (cause : Option (List ℕ)) (load : Load)
    : Type 0 where
  pub path_is : IsExcerpt path load.path
  pub generation_is : load.generation ≡ 0
  pub digest_is : load.digest ≡ None
  pub halted_is : load.halted ≡ 0
  pub refusal_is : option_copied load.refusal ≡ Some text
  pub cause_is : IsExcerptOf cause load.cause

-- the line with this header of a load event that has the property
pub record IsLoadLine (header : LineHeader) (Describes : Load → Type 0) (line : List ℕ)
    : Type 0 where
  pub load : Load
  pub describes : Describes load
  pub line_is : line ≡ event_line header (log.Load load)

-- given the relation of a loader's faults to their causes, and their texts
module _ {F : Type 0} (has_cause : F → Option (List ℕ) → Type 0)
    (fault_text : F → Option (List ℕ)) where
  -- the event of a load with this refusal: the refusal's text, as far as it is known, and its cause
  pub record DescribesReplyRefusal (path : List ℕ) (refused : OperatorRefusal F) (load : Load)
      : Type 0 where
    pub text : List ℕ
    pub cause : Option (List ℕ)
    pub text_is : IfSome (refusal_text fault_text refused) (λ known. text ≡ known)
    pub cause_is : IsCauseOf has_cause refused cause
    pub describes : DescribesRefusedLoad path text cause load

  -- the line of an operator's request for a load, by the reply: its generation and digest if it is
  -- installed, and how many apps are halted; or why it is refused; other replies have no line
  abbrev pub IsLineOfReply : LineHeader → List ℕ → List ℕ → ℕ → OperatorReply F
      → Option (List ℕ) → Type 0
  IsLineOfReply header path digest halted (reply.Loaded generation) (Some line) =
      IsLoadLine header
      (DescribesInstalledLoad path generation (encode_lower digest) halted) line
  IsLineOfReply header path digest halted (reply.Refused refused) (Some line) =
      IsLoadLine header (DescribesReplyRefusal path refused) line
  IsLineOfReply header path digest halted (reply.Lines lines) None = Unit {0}
  IsLineOfReply header path digest halted reply.Stopping None = Unit {0}
  IsLineOfReply header path digest halted other line = ⊥
