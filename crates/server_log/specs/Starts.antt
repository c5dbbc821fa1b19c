-- The log's event of a start, and its line.
use Rattle.std.specs.Prelude.{◌≡◌, ℕ, List, Option, Some, None, option_copied, option_map}
use Rattle.access_log.specs.Excerpt.{IsExcerpt}
use Rattle.access_log.specs.Line.{event_line}
use Rattle.access_log.specs.declared.log_event.LogEvent.TheVariants as log
use Rattle.access_log.specs.declared.log_event.Start.{Start}
use Rattle.access_log.specs.declared.utc.Utc.{Utc}
use Rattle.ruleset.specs.declared.loaded.LoadedRuleset.{LoadedRuleset}
use Rattle.server_log.specs.Loads.{IsExcerptOf}
use Rattle.server_log.specs.declared.start_line.Starting.{Starting}

-- the digest of a loaded ruleset, if there is one
abbrev pub digest_in : Option LoadedRuleset → Option (List ℕ)
digest_in = option_map (λ loaded. loaded.digest)

-- the event of a server that starts: its manifest, the operator's port, how the file of its
-- counters was found, and the digest of what it serves
pub record DescribesStart (server : Starting) (digest : Option (List ℕ)) (start : Start)
    : Type 0 where
  pub manifest_is : IsExcerpt server.manifest.now start.manifest
  pub operator_is : start.operator ≡ server.operator
  pub digest_is : option_copied start.digest ≡ digest
  pub counters_is : option_copied start.counters ≡ option_copied server.counters
  pub refusal_is : start.refusal ≡ None
  pub cause_is : start.cause ≡ None

-- the event of a refused start: the manifest, the operator's port, how the file was found, the text
-- of the refusal, and the cause
pub record DescribesRefusedStart (server : Starting) (text : List ℕ) (cause : Option (List ℕ))
    (start : Start) : Type 0 where
  pub manifest_is : IsExcerpt server.manifest.now start.manifest
  pub operator_is : start.operator ≡ server.operator
  pub digest_is : start.digest ≡ None
  pub counters_is : option_copied start.counters ≡ option_copied server.counters
  pub refusal_is : option_copied start.refusal ≡ Some text
  pub cause_is : IsExcerptOf cause start.cause

-- the line at this time of a start event that has the property
pub record IsStartLine (time : Utc) (server : Starting) (Describes : Start → Type 0) (line : List ℕ)
    : Type 0 where
  pub start : Start
  pub describes : Describes start
  pub line_is :
      line ≡ event_line (record { time = time; port = server.port }) (log.Start start)
