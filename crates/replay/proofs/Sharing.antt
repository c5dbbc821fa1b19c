-- Loads that swap lines share.
use Rattle.std.proofs.Common.{◌≡◌, ℕ, List, [], ◌∷◌, ◌++◌, sym, subst}
use Rattle.std.proofs.lemmas.List.Elements.{All-nil, All-same, All-push}
use Rattle.std.specs.Arc.{arc_value}
use Rattle.cells.specs.declared.array.CellArray.{CellArray}
use Rattle.bounded_files.specs.Files.{KnownFiles}
use Rattle.load.specs.Loaded.{IsLoadedFrom}
use Rattle.ruleset.specs.Rules.{Rules}
use Rattle.replay.specs.Loaded.{AreShared, IsShared}
use Rattle.replay.specs.declared.shared.SharedLoad.{SharedLoad}

module _ (known : KnownFiles) (directory : List CellArray) where
  pub none_shared : (loads : List SharedLoad) → loads ≡ [] → AreShared known directory loads
  none_shared loads none =
      All-same (IsShared known directory) loads [] none (All-nil (IsShared known directory))

  -- one more, of this path and ruleset
  pub one_more_shared : (loads longer : List SharedLoad) (load : SharedLoad) (path : List ℕ)
      (rules : Rules) → longer ≡ loads ++ load ∷ [] → load.path ≡ path
      → arc_value load.rules ≡ rules → AreShared known directory loads
      → IsLoadedFrom known path directory rules directory → AreShared known directory longer
  one_more_shared loads longer load path rules grown named same shared loaded =
      let renamed : IsLoadedFrom known load.path directory rules directory =
      subst (λ (p : List ℕ). IsLoadedFrom known p directory rules directory) (sym named) loaded in
      let is : IsShared known directory load =
      subst (λ (r : Rules). IsLoadedFrom known load.path directory r directory)
      (sym same) renamed in
      All-same (IsShared known directory) longer (loads ++ load ∷ []) grown
      (All-push (IsShared known directory) loads load shared is)
