-- The first file of a step that was edited, found file by file.
use Rattle.std.proofs.Common.{◌≡◌, ◌+◌, ◌∷◌, ◌∙◌, ℕ, List, [], Bool, true, false, cond}
use Rattle.std.proofs.Common.{ap, subst, sym, refl}
use Rattle.std.specs.Prelude.{Option, Some, None, IfSome}
use Rattle.std.specs.List.{position_from}
use Rattle.stage_records.specs.FileStates.{state_of}
use Rattle.stage_records.specs.Steps.{ReplacedFile}
use Rattle.stage_records.specs.declared.file_state.FileState.{FileState}
use Rattle.stage_folder.specs.Folders.{KnownFolder}
use Rattle.stage_folder.specs.Steps.{edited_place, is_edited, is_edited_state}

-- how a file of a step is, if the folder is known
abbrev pub IsStateIn : KnownFolder → ReplacedFile → FileState → Type 0
IsStateIn known file state =
    IfSome known (λ folder. state ≡ state_of file (folder file.name))

-- the place of the first edited file, if the folder is known
abbrev pub IsPlaceIn : KnownFolder → List ReplacedFile → Option ℕ → Type 0
IsPlaceIn known files place = IfSome known (λ folder. place ≡ edited_place files folder)

-- the first edited file of those that are left, from this place on, is the first of all
abbrev pub LooksOn : KnownFolder → (files : List ReplacedFile) → (place : ℕ)
    → (left : List ReplacedFile) → Type 0
LooksOn known files place left = IfSome known (λ folder.
    position_from (is_edited folder) place left ≡ edited_place files folder)

pub looks_first : (known : KnownFolder) (files : List ReplacedFile) → LooksOn known files 0 files
looks_first None files = tt
looks_first (Some folder) files = refl

pub looks_on : (known : KnownFolder) (files left : List ReplacedFile) (file : ReplacedFile)
    (place : ℕ) (state : FileState) → IsStateIn known file state
    → is_edited_state state ≡ false → LooksOn known files place (file ∷ left)
    → LooksOn known files (place + 1) left
looks_on None files left file place state is kept h = tt
looks_on (Some folder) files left file place state is kept h =
    let rest : Option ℕ = position_from (is_edited folder) (place + 1) left in
    subst (λ (b : Bool). cond b (Some place) rest ≡ edited_place files folder)
    (sym (ap is_edited_state is) ∙ kept) h

pub looks_found : (known : KnownFolder) (files left : List ReplacedFile) (file : ReplacedFile)
    (place : ℕ) (state : FileState) → IsStateIn known file state
    → is_edited_state state ≡ true → LooksOn known files place (file ∷ left)
    → IsPlaceIn known files (Some place)
looks_found None files left file place state is kept h = tt
looks_found (Some folder) files left file place state is kept h =
    let rest : Option ℕ = position_from (is_edited folder) (place + 1) left in
    subst (λ (b : Bool). cond b (Some place) rest ≡ edited_place files folder)
    (sym (ap is_edited_state is) ∙ kept) h

pub looks_none : (known : KnownFolder) (files left : List ReplacedFile) (place : ℕ) → left ≡ []
    → LooksOn known files place left → IsPlaceIn known files None
looks_none None files left place empty h = tt
looks_none (Some folder) files left place empty h =
    sym (ap (position_from (is_edited folder) place) empty) ∙ h

-- nothing is said of an edited file if there is none
pub none_edited : (known : KnownFolder) (files : List ReplacedFile) (A : Type 0)
    → IsPlaceIn known files None
    → IfSome known (λ folder. IfSome (edited_place files folder) (λ _. A))
none_edited None files A none = tt
none_edited (Some folder) files A none = subst (λ o. IfSome o (λ _. A)) none tt

-- nothing has changed
pub some_edited : (known : KnownFolder) (files : List ReplacedFile) (A : Type 0) → A
    → IfSome known (λ folder. IfSome (edited_place files folder) (λ _. A))
some_edited None files A holds = tt
some_edited (Some folder) files A holds = if_some (edited_place files folder) holds
  where
    if_some : (o : Option ℕ) → A → IfSome o (λ _. A)
    if_some None h = tt
    if_some (Some n) h = h
