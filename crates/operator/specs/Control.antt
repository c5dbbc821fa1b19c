-- The operator's state: what was loaded last, which apps are halted, what was installed, and the
-- server's arrays.
use Rattle.std.specs.Prelude.{◌≡◌, ◌^◌, ◌-◌, ℕ, List, All, Result, Ok, Err, Bool, true}
use Rattle.std.specs.Prelude.{IsTrue, IsFalse, IsSome, IsNone}
use mathlib.Core.List.{IsPrefix}
use Rattle.access_log.specs.declared.utc.Utc.{Utc}
use Rattle.cells.specs.declared.array.CellArray.{CellArray}
use Rattle.halts.specs.Halts.{halting, is_named, served, without}
use Rattle.hot_swap.specs.Latest.{Publishing, Installs}
use Rattle.hot_swap.specs.declared.swap_fault.SwapFault.{SwapFault}
use Rattle.hot_swap.specs.declared.swap_fault.SwapFault.TheVariants as swap
use Rattle.operator.specs.declared.reply.OperatorRefusal.{OperatorRefusal}
use Rattle.operator.specs.declared.reply.OperatorRefusal.TheVariants as refusal
use Rattle.ruleset.specs.Rules.{Rules, KnowsOnly, app_of}
use Rattle.ruleset.specs.declared.loaded.LoadedRuleset.{LoadedRuleset}

-- the last load, or the start if there was none: the ruleset as it was loaded, its digest, from
-- which path, and when
pub record LastLoad : Type 0 where
  pub rules : Rules
  pub digest : List ℕ
  pub path : List ℕ
  pub time : Utc

-- the rulesets that were published, the server's arrays, the last load, the appids of the halted
-- apps, and whether a stop was requested
pub record Controlled : Type 0 where
  pub publishing : Publishing
  pub arrays : List CellArray
  pub last : LastLoad
  pub halted : List (List ℕ)
  pub is_stopping : Bool

-- the same, once a stop is requested
abbrev pub stopping : Controlled → Controlled
stopping control = record control { is_stopping = true }

-- the programs of the last load, and of all published rulesets, know only the server's arrays
pub record KnowOnlyItsArrays (c : Controlled) : Type 0 where
  pub loaded : KnowsOnly c.arrays c.last.rules
  pub published : All (KnowsOnly c.arrays) c.publishing.known.rulesets

-- what is served is the last load, with the halted apps' programs replaced
abbrev pub ServesLastLoad : Controlled → Type 0
ServesLastLoad c = c.publishing.latest.rules ≡ served c.halted c.last.rules

-- why a ruleset isn't installed: the last generation is in use, or out of memory, which has no
-- condition
abbrev pub IsUninstallable : Publishing → SwapFault → Type 0
IsUninstallable publishing swap.Exhausted = publishing.latest.generation ≡ 2 ^ 64 - 1
IsUninstallable publishing swap.NoPlace = ⊥
IsUninstallable publishing swap.Memory = Unit {0}

-- ---- a load

-- relates the path of a load, the arrays before it, and its result: the ruleset with the arrays
-- after it and its digest, or the fault
abbrev pub Loading : Type 0 → Type 1
Loading F = List ℕ → List CellArray → Result LoadedRuleset F → Type 0

module _ {F : Type 0} (loads : Loading F) where
  -- The loaded ruleset, with the halted apps' programs replaced, is installed under this
  -- generation, with its arrays and its digest. The same apps stay halted. Its programs know only
  -- the arrays after the load, of which the arrays before it are a prefix.
  pub record IsInstalled (path : List ℕ) (old : Controlled) (generation : ℕ) (new : Controlled)
      : Type 0 where
    pub rules : Rules
    pub digest : List ℕ
    pub time : Utc
    pub loaded : loads path old.arrays
        (Ok (record { rules = rules; directory = new.arrays; digest = digest }))
    pub last_is :
        new.last ≡ record { rules = rules; digest = digest; path = path; time = time }
    pub halted_is : new.halted ≡ old.halted
    pub installed : Installs old.publishing (served old.halted rules) generation new.publishing
    pub only : KnowsOnly new.arrays rules
    pub grown : IsPrefix old.arrays new.arrays
    pub stopping_is : new.is_stopping ≡ old.is_stopping

  -- the loader gave a ruleset for this path
  pub record HasLoaded (path : List ℕ) (arrays : List CellArray) : Type 0 where
    pub given : LoadedRuleset
    pub loaded : loads path arrays (Ok given)

  -- why a load is refused: the loader's fault; or it gave a ruleset that couldn't be installed, or
  -- for which memory ran out
  abbrev pub IsRefusedLoad : List ℕ → Controlled → OperatorRefusal F → Type 0
  IsRefusedLoad path old (refusal.Load fault) = loads path old.arrays (Err fault)
  IsRefusedLoad path old (refusal.Install fault) =
      HasLoaded path old.arrays × IsUninstallable old.publishing fault
  IsRefusedLoad path old refusal.Memory = HasLoaded path old.arrays
  IsRefusedLoad path old refusal.App = ⊥
  IsRefusedLoad path old refusal.Word = ⊥

-- ---- a halt, and its end

-- The last load is installed under this generation while these apps are halted, and nothing else
-- changes.
pub record IsInstalledWith (halted : List (List ℕ)) (old : Controlled) (generation : ℕ)
    (new : Controlled) : Type 0 where
  pub installed :
      Installs old.publishing (served halted old.last.rules) generation new.publishing
  pub halted_is : new.halted ≡ halted
  pub last_is : new.last ≡ old.last
  pub arrays_are : new.arrays ≡ old.arrays
  pub stopping_is : new.is_stopping ≡ old.is_stopping

-- an app is halted; or it isn't, and the last load has it, or lacks it
abbrev pub IsHalted : List ℕ → Controlled → Type 0
IsHalted appid c = IsTrue (is_named c.halted appid)

pub record IsOffered (appid : List ℕ) (c : Controlled) : Type 0 where
  pub free : IsFalse (is_named c.halted appid)
  pub known : IsSome (app_of c.last.rules appid)

pub record IsUnknown (appid : List ℕ) (c : Controlled) : Type 0 where
  pub free : IsFalse (is_named c.halted appid)
  pub unknown : IsNone (app_of c.last.rules appid)

-- a request to halt an app is done: it is halted now, or was already, which changes nothing
pub data Halts (appid : List ℕ) (old : Controlled) : ℕ → Controlled → Type 0 where
  newly : {generation : ℕ} {new : Controlled} → IsOffered appid old
      → IsInstalledWith (halting appid old.halted) old generation new
      → Halts appid old generation new
  already : IsHalted appid old → Halts appid old old.publishing.latest.generation old

-- a request to resume an app is done: its halt is lifted, or it had none, which changes nothing
pub data Resumes (appid : List ℕ) (old : Controlled) : ℕ → Controlled → Type 0 where
  lifted : {generation : ℕ} {new : Controlled} → IsHalted appid old
      → IsInstalledWith (without appid old.halted) old generation new
      → Resumes appid old generation new
  unhalted : IsOffered appid old → Resumes appid old old.publishing.latest.generation old

-- why the last load isn't installed once more: it can't be, or memory ran out
abbrev pub IsNotInstalled : {F : Type 0} → Controlled → OperatorRefusal F → Type 0
IsNotInstalled old (refusal.Install fault) = IsUninstallable old.publishing fault
IsNotInstalled old refusal.Memory = Unit {0}
IsNotInstalled old other = ⊥

-- why a halt or its end is refused: no such app, or for the same reasons
abbrev pub IsRefusedHalt : {F : Type 0} → List ℕ → Controlled → OperatorRefusal F → Type 0
IsRefusedHalt appid old refusal.App = IsUnknown appid old
IsRefusedHalt appid old other = IsNotInstalled old other
