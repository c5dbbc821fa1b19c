-- Scripts that are replayed.
use Rattle.std.specs.Prelude.{◌≡◌, ℕ, List}
use Rattle.std.specs.List.{flat_map}
use Rattle.bounded_files.specs.Files.{KnownFiles}
use Rattle.bounded_files.specs.declared.resource_fault.ResourceFault.TheVariants.{Memory}
use Rattle.replay.specs.Replays.{IsReplay, IsReplayFault}
use Rattle.replay.specs.Replies.{reply_text}
use Rattle.replay.specs.declared.reply.Reply.{Reply}
use Rattle.ruleset.specs.Texts.{line}
use Rattle.cli_tasks.specs.declared.task_fault.TaskFault.{TaskFault}
use Rattle.cli_tasks.specs.declared.task_fault.TaskFault.TheVariants.{Replay, Resource}

abbrev pub reply_line : Reply → List ℕ
reply_line reply = line (reply_text reply)

module _ (known : KnownFiles) where
  -- the script was played, and its events gave these lines
  pub record HasReplayed (manifest script : List ℕ) (text : List ℕ) : Type 0 where
    pub replies : List Reply
    pub replied : IsReplay known manifest script replies
    pub lines : text ≡ flat_map reply_line replies

  -- the script wasn't played; running out of memory for the lines is always allowed
  abbrev pub IsReplayRefusal : (manifest script : List ℕ) → TaskFault → Type 0
  IsReplayRefusal manifest script (Replay refused) =
      IsReplayFault known manifest script refused
  IsReplayRefusal manifest script (Resource Memory) = Unit {0}
  IsReplayRefusal manifest script refused = ⊥
