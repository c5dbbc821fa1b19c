-- Answered lines: what they install, that a halt holds, and that the counters are only read.
use Rattle.std.proofs.Common.{List, [], ◌∷◌, ◌++◌, All, refl, sym, ap, subst, ◌∙◌}
use Rattle.std.proofs.Common.{append_assoc, append-nil, Option, ℕ}
use Rattle.std.proofs.lemmas.List.Elements.{All-append, All-nil, All-push, All-same, All-weaker}
use mathlib.Core.List.{IsPrefix}
use Rattle.cells.specs.Apart.{ArraysPreserved}
use Rattle.cells.specs.Directory.{HasArray}
use Rattle.cells.specs.declared.array.CellArray.{CellArray}
use Rattle.cells.specs.declared.event.CellEvent.{CellEvent}
use Rattle.halts.specs.Halts.{KeepsArrays, served}
use Rattle.hot_swap.specs.Latest.{Installs, Latest}
use Rattle.hot_swap.specs.Published.{Extends}
use Rattle.ruleset.specs.Rules.{AppRule, Rules, KnowsOnly}
use Rattle.operator.specs.Control.{Controlled, Loading, IsInstalled, KnowOnlyItsArrays, stopping}
use Rattle.operator.specs.Control.{IsInstalledWith, LastLoad, ServesLastLoad}
use Rattle.operator.specs.Control.{Halts, Resumes, newly, already, lifted, unhalted}
use Rattle.operator.specs.Counters.{IsLoad, ReadsCells, ReadsArrays}
use Rattle.operator.specs.Counters.{no_cell, one_cell, no_array, one_array}
use Rattle.operator.specs.Leading.{LinesGoOnwards, LinesKeepToArrays, LinesOnlyRead, stays, goes}
use Rattle.operator.specs.Leading.{LinesServeLoads}
use Rattle.operator.specs.Perform.{Performs, wordless, loaded, not_loaded, shown}
use Rattle.operator.specs.Perform.{halted, not_halted, resumed, not_resumed}
use Rattle.operator.specs.Perform.{stated, counted, stopped, unshown, unstated, uncounted}
use Rattle.operator.specs.declared.reply.OperatorReply.{OperatorReply}
use Rattle.operator_request.specs.declared.request.OperatorRequest.{OperatorRequest}

-- ---- reading the counters makes only Loads

of_cells : {array : CellArray} {count : ℕ} {events : List CellEvent} {lines : List ℕ}
    → ReadsCells array count events lines → All IsLoad events
of_cells no_cell = All-nil IsLoad
of_cells (one_cell {index} {events} {lines} value before) =
    All-push IsLoad events _ (of_cells before) refl

of_arrays : {arrays : List CellArray} {events : List CellEvent} {lines : List ℕ}
    → ReadsArrays arrays events lines → All IsLoad events
of_arrays no_array = All-nil IsLoad
of_arrays (one_array {arrays} {before} {events} first next) =
    All-append IsLoad before events (of_arrays first) (of_cells next)

-- what knows only a prefix of the arrays knows only the arrays
knows_more : ArraysPreserved → (old new : List CellArray) → IsPrefix old new → (rules : Rules)
    → KnowsOnly old rules → KnowsOnly new rules
knows_more law old new grown rules =
    All-weaker (λ (app : AppRule). All (HasArray old) app.program.shape.arrays)
    (λ (app : AppRule). All (HasArray new) app.program.shape.arrays)
    (λ app. All-weaker (HasArray old) (HasArray new) (λ a has. law old new a grown has)
    app.program.shape.arrays) rules.apps

-- ---- one installed ruleset

-- what an install appends
installs_on : (c m d : Controlled) (rules : Rules) (generation : ℕ)
    → Installs m.publishing rules generation d.publishing
    → Extends c.publishing.known m.publishing.known
    → Extends c.publishing.known d.publishing.known
installs_on c m d rules generation installed before =
    let first = before.onwards in
    record {
      publisher = installed.publisher ∙ before.publisher;
      onwards = (
        first.0 ++ rules ∷ [],
        sym (append_assoc c.publishing.known.rulesets first.0 (rules ∷ []))
            ∙ ap (λ (l : List Rules). l ++ rules ∷ []) first.1 ∙ sym installed.listed,
      );
    }

-- and what all published rulesets know then
knows_installed : (arrays : List CellArray) (m d : Controlled) (rules : Rules) (generation : ℕ)
    → Installs m.publishing rules generation d.publishing → KnowsOnly arrays rules
    → All (KnowsOnly arrays) m.publishing.known.rulesets
    → All (KnowsOnly arrays) d.publishing.known.rulesets
knows_installed arrays m d rules generation installed only old =
    All-same (KnowsOnly arrays) d.publishing.known.rulesets
    (m.publishing.known.rulesets ++ rules ∷ []) installed.listed
    (All-push (KnowsOnly arrays) m.publishing.known.rulesets rules old only)

module _ {F : Type 0} (loads : Loading F) where
  -- ---- one line

  -- it changes nothing, requests a stop, installs what was loaded, or installs the last load with
  -- other halts
  data Changes : Controlled → Controlled → Type 0 where
    nothing : {c : Controlled} → Changes c c
    one_stop : {c : Controlled} → Changes c (stopping c)
    one_load : {c d : Controlled} {path : List ℕ} {generation : ℕ}
        → IsInstalled loads path c generation d → Changes c d
    one_halt : {c d : Controlled} {appids : List (List ℕ)} {generation : ℕ}
        → IsInstalledWith appids c generation d → Changes c d

  of_halt : (appid : List ℕ) (c d : Controlled) (generation : ℕ) → Halts appid c generation d
      → Changes c d
  of_halt appid c d generation (newly offered is) = one_halt is
  of_halt appid c d generation (already is) = nothing

  of_resume : (appid : List ℕ) (c d : Controlled) (generation : ℕ)
      → Resumes appid c generation d → Changes c d
  of_resume appid c d generation (lifted held is) = one_halt is
  of_resume appid c d generation (unhalted is) = nothing

  changes : (request : Option OperatorRequest) (c d : Controlled) (events : List CellEvent)
      (reply : OperatorReply F) → Performs loads request c events reply d → Changes c d
  changes request c d events reply wordless = nothing
  changes request c d events reply (loaded path is) = one_load is
  changes request c d events reply (not_loaded path is) = nothing
  changes request c d events reply (halted {generation = n} appid is) =
      of_halt appid.now c d n is
  changes request c d events reply (not_halted appid is) = nothing
  changes request c d events reply (resumed {generation = n} appid is) =
      of_resume appid.now c d n is
  changes request c d events reply (not_resumed appid is) = nothing
  changes request c d events reply (shown lines is) = nothing
  changes request c d events reply (stated lines is) = nothing
  changes request c d events reply (counted lines reads) = nothing
  changes request c d events reply stopped = one_stop
  changes request c d events reply unshown = nothing
  changes request c d events reply unstated = nothing
  changes request c d events reply (uncounted all) = nothing

  of_line : (request : Option OperatorRequest) (c d : Controlled) (events : List CellEvent)
      (reply : OperatorReply F) → Performs loads request c events reply d → All IsLoad events
  of_line request c d events reply wordless = All-nil IsLoad
  of_line request c d events reply (loaded path is) = All-nil IsLoad
  of_line request c d events reply (not_loaded path is) = All-nil IsLoad
  of_line request c d events reply (halted appid is) = All-nil IsLoad
  of_line request c d events reply (not_halted appid is) = All-nil IsLoad
  of_line request c d events reply (resumed appid is) = All-nil IsLoad
  of_line request c d events reply (not_resumed appid is) = All-nil IsLoad
  of_line request c d events reply (shown lines is) = All-nil IsLoad
  of_line request c d events reply (stated lines is) = All-nil IsLoad
  of_line request c d events reply (counted lines all) = of_arrays all
  of_line request c d events reply stopped = All-nil IsLoad
  of_line request c d events reply unshown = All-nil IsLoad
  of_line request c d events reply unstated = All-nil IsLoad
  of_line request c d events reply (uncounted all) = all

  goes_on : (c m d : Controlled) → Changes m d
      → Extends c.publishing.known m.publishing.known
      → Extends c.publishing.known d.publishing.known
  goes_on c m d nothing before = before
  goes_on c m d one_stop before = before
  goes_on c m d (one_load {generation = n} is) before =
      installs_on c m d (served m.halted is.rules) n is.installed before
  goes_on c m d (one_halt {appids} {generation = n} is) before =
      installs_on c m d (served appids m.last.rules) n is.installed before

  keeps_on : ArraysPreserved → KeepsArrays → (m d : Controlled) → Changes m d → KnowOnlyItsArrays m
      → KnowOnlyItsArrays d
  keeps_on law keeps m d nothing only = only
  keeps_on law keeps m d one_stop only = record {
    loaded = only.loaded;
    published = only.published;
  }
  keeps_on law keeps m d (one_load {generation = n} is) only =
      let P = KnowsOnly d.arrays in record {
        loaded = subst (λ (l : LastLoad). P l.rules) (sym is.last_is) is.only;
        published = knows_installed d.arrays m d (served m.halted is.rules) n is.installed
            (keeps is.rules m.halted d.arrays is.only)
            (All-weaker (KnowsOnly m.arrays) P (knows_more law m.arrays d.arrays is.grown)
            m.publishing.known.rulesets only.published);
      }
  keeps_on law keeps m d (one_halt {appids} {generation = n} is) only =
      let P : List CellArray → Type 0 = λ arrays. All (KnowsOnly arrays) d.publishing.known.rulesets
      in
      let Q : List CellArray → Type 0 = λ arrays. KnowsOnly arrays d.last.rules in
      let same = sym is.arrays_are in
      record {
        loaded = subst Q same
            (subst (λ (l : LastLoad). KnowsOnly m.arrays l.rules) (sym is.last_is) only.loaded);
        published = subst P same (knows_installed m.arrays m d (served appids m.last.rules) n
            is.installed (keeps m.last.rules appids m.arrays only.loaded) only.published);
      }

  serves_on : (m d : Controlled) → Changes m d → ServesLastLoad m → ServesLastLoad d
  serves_on m d nothing is_served = is_served
  serves_on m d one_stop is_served = is_served
  serves_on m d (one_load is) is_served =
      ap (λ (l : Latest). l.rules) is.installed.installed
      ∙ ap (λ (h : List (List ℕ)). served h is.rules) (sym is.halted_is)
      ∙ ap (λ (l : LastLoad). served d.halted l.rules) (sym is.last_is)
  serves_on m d (one_halt is) is_served =
      ap (λ (l : Latest). l.rules) is.installed.installed
      ∙ ap (λ (h : List (List ℕ)). served h m.last.rules) (sym is.halted_is)
      ∙ ap (λ (l : LastLoad). served d.halted l.rules) (sym is.last_is)

  -- ---- one line after the other

  pub go_onwards : LinesGoOnwards loads
  go_onwards c d lines reads stays = record {
    publisher = refl;
    onwards = ([], append-nil c.publishing.known.rulesets);
  }
  go_onwards c d lines reads
      (goes {d = m} {lines = before} {before = made} {events} {request} {reply} led is) =
      goes_on c m d (changes request m d events reply is) (go_onwards c m before made led)

  pub keep_to_arrays : ArraysPreserved → KeepsArrays → LinesKeepToArrays loads
  keep_to_arrays law keeps c d lines reads stays only = only
  keep_to_arrays law keeps c d lines reads
      (goes {d = m} {lines = before} {before = made} {events} {request} {reply} led is) only =
      keeps_on law keeps m d (changes request m d events reply is)
      (keep_to_arrays law keeps c m before made led only)

  pub serve_loads : LinesServeLoads loads
  serve_loads c d lines reads stays is_served = is_served
  serve_loads c d lines reads
      (goes {d = m} {lines = before} {before = made} {events} {request} {reply} led is) is_served =
      serves_on m d (changes request m d events reply is)
      (serve_loads c m before made led is_served)

  pub only_read : LinesOnlyRead loads
  only_read c d lines reads stays = All-nil IsLoad
  only_read c d lines reads
      (goes {d = m} {lines = before} {before = made} {events} {request} {reply} led is) =
      All-append IsLoad made events (only_read c m before made led)
      (of_line request m d events reply is)
