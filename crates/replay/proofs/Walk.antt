-- The events of the lines so far, and those of the lines that are left.
use Rattle.std.proofs.Common.{◌≡◌, ℕ, ◌+◌, ◌<◌, ◌≤◌, List, [], ◌∷◌, ◌++◌, length, drop, get_or}
use Rattle.std.proofs.Common.{append_assoc, append-nil, refl, sym, ap, ◌∙◌}
use Rattle.std.proofs.lemmas.List.{drop_more, drop_all}
use Rattle.cells.specs.declared.array.CellArray.{CellArray}
use Rattle.bounded_files.specs.Files.{KnownFiles}
use Rattle.world.specs.declared.event.Event.{Event}
use Rattle.replay.specs.LineEvents.{IsEventOf, AreEventsOf, RefusesLine, RefusesLines, this, later}
use Rattle.replay.specs.declared.replay_fault.ReplayFault.{ReplayFault}
use Rattle.event_script.specs.declared.script_line.EventLine.{EventLine}

module _ (known : KnownFiles) where
  -- the events of the lines that are left, after those so far, are the events of all lines
  pub record Leads (lines rest : List EventLine) (old between : List CellArray)
      (done : List Event) : Type 0 where
    pub asks : (more : List Event) (new : List CellArray) → AreEventsOf known rest between more new
        → AreEventsOf known lines old (done ++ more) new
    pub refuses : (fault : ReplayFault) → RefusesLines known rest between fault
        → RefusesLines known lines old fault

  pub begins : (lines : List EventLine) (old : List CellArray) → Leads lines lines old old []
  begins lines old = record {
    asks = λ more new requested. requested;
    refuses = λ fault refused. refused;
  }

  left : (lines : List EventLine) (i : ℕ) (requested : EventLine) → i < length lines
      → requested ≡ get_or lines i requested → drop i lines ≡ requested ∷ drop (i + 1) lines
  left lines i requested within found =
      drop_more lines i requested within ∙ ap (λ (l : EventLine). l ∷ drop (i + 1) lines)
      (sym found)

  pub goes_on : (lines : List EventLine) (i : ℕ) (requested : EventLine)
      (old between new : List CellArray) (done longer : List Event) (e : Event)
      → i < length lines → requested ≡ get_or lines i requested → longer ≡ done ++ e ∷ []
      → Leads lines (drop i lines) old between done → IsEventOf known requested between e new
      → Leads lines (drop (i + 1) lines) old new longer
  goes_on lines i requested old between new done longer e within found grown so_far is =
      let here = rw (left lines i requested within found) at so_far in record {
        asks = λ more end are.
            rw (grown, append_assoc done (e ∷ []) more)
            (here.asks (e ∷ more) end (new, is, are));
        refuses = λ fault refused. here.refuses fault (later e new is refused);
      }

  pub ends : (lines : List EventLine) (i : ℕ) (old new : List CellArray) (events : List Event)
      → length lines ≤ i → Leads lines (drop i lines) old new events
      → AreEventsOf known lines old events new
  ends lines i old new events beyond so_far =
      let here = rw (drop_all i lines beyond) at so_far in
      rw (append-nil events) at (here.asks [] new refl)

  pub fails : (lines : List EventLine) (i : ℕ) (requested : EventLine)
      (old between : List CellArray)
      (done : List Event) (fault : ReplayFault) → i < length lines → requested
      ≡ get_or lines i requested
      → Leads lines (drop i lines) old between done → RefusesLine known requested between fault
      → RefusesLines known lines old fault
  fails lines i requested old between done fault within found so_far refused =
      let here = rw (left lines i requested within found) at so_far in
      here.refuses fault (this refused)
