-- The quotas of a directory, if all programs know only its arrays.
use Rattle.std.proofs.Common.{◌≡◌, ℕ, List, All, get_or, subst}
use Rattle.std.specs.Prelude.{Contains, IsSome}
use Rattle.std.proofs.lemmas.List.Elements.{All-contains}
use Rattle.cells.specs.Apart.{ArraysLieApart, QuotasAreWide, NamedArraysAreThere}
use Rattle.cells.specs.Arrays.{HasCell}
use Rattle.cells.specs.Directory.{IsDirectory, HasArray}
use Rattle.cells.specs.declared.array.CellArray.{CellArray}
use Rattle.ruleset.specs.Rules.{Rules, IsRuleset, KnowsOnly}
use Rattle.thread_laws.specs.Quotas.{AllHaveOnlyQuotasAt, ThreadsKeepQuotas, ThreadsGrantQuotas}

-- a program that has the cell of an array with a quota has it in that array
only_quotas : ArraysLieApart → NamedArraysAreThere → (arrays : List CellArray)
    (array : CellArray) (cell : ℕ) → IsDirectory arrays → Contains arrays array
    → IsSome array.quota → HasCell array cell → (published : List Rules)
    → All IsRuleset published → All (KnowsOnly arrays) published
    → AllHaveOnlyQuotasAt cell published
only_quotas apart there arrays array cell directory listed quota has published sound only k d less
    j e within =
    let app = get_or (get_or published k d).apps j e in
    let is = (sound k d less).each j e within in
    let known = app.program.shape.arrays in
    record {
      opens = is.opens;
      sound = is.sound;
      quota = λ b among has_b.
          let named = All-contains (HasArray arrays) known b (only k d less j e within) among in
          let same : array ≡ b =
          apart arrays array b cell directory listed (there arrays b named) has has_b in
          subst (λ (a : CellArray). IsSome a.quota) same quota;
    }

pub quotas_are_granted : ThreadsKeepQuotas → ArraysLieApart → QuotasAreWide
    → NamedArraysAreThere → ThreadsGrantQuotas
quotas_are_granted keep apart wide there published passes looker opening history values runs arrays
    world exact sound only directory array cell listed quota has =
    let counts = keep published passes looker opening history values runs cell world
    (only_quotas apart there arrays array cell directory listed quota has published sound only) in
    record {
      only = counts;
      exact = λ adds_fit. exact cell (record {
        wide = wide arrays array cell directory listed quota has;
        counts = counts;
        adds_fit = adds_fit;
      });
    }
