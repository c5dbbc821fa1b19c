-- What is known of each file makes a folder that nobody edited.
use Rattle.std.proofs.Common.{◌≡◌, ◌∙◌, sym, true≢false}
use Rattle.std.proofs.Common.{List, [], ◌∷◌, Bool, true, false}
use Rattle.std.specs.Prelude.{All, IfSome, not, Result, Ok, Err, OnOk}
use Rattle.std.specs.List.{list_any}
use Rattle.std.proofs.lemmas.List.Elements.{All-cons, All-nil}
use Rattle.stage_folder.specs.Folders.{KnownFolder}
use Rattle.stage_records.specs.FileStates.{state_of}
use Rattle.stage_records.specs.Steps.{ReplacedFile, StagingStep}
use Rattle.stage_records.specs.declared.file_state.FileState.{FileState}
use Rattle.stage_records.specs.declared.file_state.FileState.TheVariants.{After}
use Rattle.stage_servers.specs.Unedited.{AreFilesUnedited, IsLastLeft, counts, replaces}
use Rattle.stage_servers.proofs.Whole.{as_left}
use Rattle.stage_servers.specs.declared.outcome.Stop.{Stop}

pub replaced : (folder : KnownFolder) (later : List StagingStep) (file : ReplacedFile)
    (is : Bool) → is ≡ list_any (replaces file.name) later → is ≡ true
    → IsLastLeft folder later file
replaced folder later file is by so = λ none. absurd (true≢false (sym so ∙ by ∙ none))

pub left : (folder : KnownFolder) (later : List StagingStep) (file : ReplacedFile)
    (state : FileState) → IfSome folder (λ known. state ≡ state_of file (known file.name))
    → state ≡ After → IsLastLeft folder later file
left folder later file state is after = λ none. as_left folder file state is after

pub both_left : (folder : KnownFolder) (later : List StagingStep) (file : ReplacedFile)
    (files : List ReplacedFile) → IsLastLeft folder later file
    → All (IsLastLeft folder later) files → All (IsLastLeft folder later) (file ∷ files)
both_left folder later file files is are =
    All-cons (IsLastLeft folder later) file files is are

pub none_left : (folder : KnownFolder) (later : List StagingStep)
    → All (IsLastLeft folder later) []
none_left folder later = All-nil (IsLastLeft folder later)

pub none_counts : (is_back : Bool) (folder : KnownFolder) (step : StagingStep)
    (later : List StagingStep) (is : Bool) → is ≡ counts is_back step later → not is ≡ true
    → AreFilesUnedited is_back folder step later
none_counts is_back folder step later true by none = absurd (true≢false (sym none))
none_counts is_back folder step later false by none =
    λ counted. absurd (true≢false (sym counted ∙ sym by))

pub on_ok : {P Q : Type 0} (result : Result (Unit {0}) Stop) → (P → Q) → OnOk result P
    → OnOk result Q
on_ok (Ok done) more is = more is
on_ok (Err stop) more is = tt
