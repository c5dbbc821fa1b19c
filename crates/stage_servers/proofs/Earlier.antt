-- Files of steps, each name once.
use Rattle.std.proofs.Common.{◌≡◌, ◌∙◌, refl, sym, ap, ap₂, subst, arith}
use Rattle.std.proofs.Common.{ℕ, ◌+◌, ◌-◌, ◌<◌, ◌≤◌, Bool, true, false, Option, Some, None}
use Rattle.std.proofs.Common.{List, [], ◌∷◌, ◌++◌, append_assoc, flat_map, reverse}
use Rattle.std.proofs.Common.{drop, get_or, length, slice_index_or, take}
use Rattle.std.specs.Prelude.{find, is_some, if◌then◌else◌}
use Rattle.std.specs.Option.{option_or}
use Rattle.std.proofs.lemmas.List.{drop_all, reverse-append, take_all, take_more}
use Rattle.std.proofs.Math.Seq.{take-length}
use Rattle.std.proofs.lemmas.List.Concat.{flat_map-cons}
use Rattle.std.proofs.lemmas.List.Folds.{find-append}
use Rattle.std.proofs.lemmas.Slice.Eq.{bytes_eq-Decides}
use Rattle.stage_folder.specs.Steps.{has_name}
use Rattle.stage_records.specs.Steps.{ReplacedFile, StagingStep}
use Rattle.stage_servers.specs.Earlier.{AreNamedAs, file_as, files_as, files_at}
use Rattle.stage_servers.specs.Earlier.{files_if_done, files_left}
use Rattle.stage_servers.specs.Replaced.{file_named}

-- the same before other files
then_same : (files all rest : List ReplacedFile) → AreNamedAs files all
    → AreNamedAs (files ++ rest) (all ++ rest)
then_same files all rest same name =
    find-append (has_name name) files rest
    ∙ ap (λ (o : Option ReplacedFile). option_or o (find (has_name name) rest)) (same name)
    ∙ sym (find-append (has_name name) all rest)

-- ---- one file

hides : (b : Bool) (found later : Option ReplacedFile) (file : ReplacedFile)
    → (b ≡ true → is_some found ≡ true)
    → option_or found (if b then Some file else later) ≡ option_or found later
hides true (Some other) later file is = refl
hides true None later file is = absurd (cc (is refl))
hides false found later file is = refl

-- a file whose name is there makes no difference
pub passed_over : (files : List ReplacedFile) (file : ReplacedFile)
    → is_some (file_named files file.name) ≡ true → AreNamedAs files (files ++ file ∷ [])
passed_over files file there name = sym
    (find-append (has_name name) files (file ∷ [])
    ∙ hides (has_name name file) (find (has_name name) files) None file
    (λ is. subst (λ (n : List ℕ). is_some (file_named files n) ≡ true)
    ((bytes_eq-Decides file.name name).0 is) there)
    ∙ or_none (find (has_name name) files))
  where
    or_none : (o : Option ReplacedFile) → option_or o None ≡ o
    or_none (Some other) = refl
    or_none None = refl

pub pushed : (files new : List ReplacedFile) (known file : ReplacedFile)
    → new ≡ files ++ known ∷ [] → known ≡ file → AreNamedAs new (files ++ file ∷ [])
pushed files new known file grown is name =
    ap (λ (l : List ReplacedFile). file_named l name) grown
    ∙ ap (λ (f : ReplacedFile). file_named (files ++ f ∷ []) name) is

-- ---- lists of files

-- the first of what is left, and the rest
pub first_rest : {A : Type 0} (xs : List A) (x : A) → 0 < length xs → x ≡ slice_index_or xs 0 x
    → xs ≡ x ∷ take (length xs - 1) (drop 1 xs)
first_rest [] x some is = absurd (omega (arith, some))
first_rest (y ∷ ys) x some is =
    let n : length (y ∷ ys) - 1 ≡ length ys = omega arith in
    ap (λ z. z ∷ ys) (sym is) ∙ ap (λ t. x ∷ t) (sym (ap (λ m. take m ys) n ∙ take-length ys))

pub further : (old new piece rest whole : List ReplacedFile) → AreNamedAs new (old ++ piece)
    → AreNamedAs (old ++ (piece ++ rest)) whole → AreNamedAs (new ++ rest) whole
further old new piece rest whole grown is name =
    then_same new (old ++ piece) rest grown name
    ∙ ap (λ (l : List ReplacedFile). file_named l name) (append_assoc old piece rest)
    ∙ is name

-- those of a step, and then of the later ones
pub next_step : (of_step : StagingStep → List ReplacedFile) (old new whole : List ReplacedFile)
    (step : StagingStep) (later : List StagingStep) → AreNamedAs new (old ++ of_step step)
    → AreNamedAs (old ++ flat_map of_step (step ∷ later)) whole
    → AreNamedAs (new ++ flat_map of_step later) whole
next_step of_step old new whole step later grown is =
    further old new (of_step step) (flat_map of_step later) whole grown
    (subst (λ (l : List ReplacedFile). AreNamedAs (old ++ l) whole)
    (flat_map-cons of_step step later) is)

-- the same of a list of steps that begins so
pub first_step : (of_step : StagingStep → List ReplacedFile) (old new whole : List ReplacedFile)
    (left : List StagingStep) (step : StagingStep) (later : List StagingStep)
    → left ≡ step ∷ later → AreNamedAs new (old ++ of_step step)
    → AreNamedAs (old ++ flat_map of_step left) whole
    → AreNamedAs (new ++ flat_map of_step later) whole
first_step of_step old new whole left step later begins grown is =
    next_step of_step old new whole step later grown
    (subst (λ (l : List StagingStep). AreNamedAs (old ++ flat_map of_step l) whole) begins is)

pub next_file : (is_after : Bool) (old new whole : List ReplacedFile)
    (left : List ReplacedFile) (file : ReplacedFile) (others : List ReplacedFile)
    → left ≡ file ∷ others → AreNamedAs new (old ++ file_as is_after file ∷ [])
    → AreNamedAs (old ++ files_as is_after left) whole
    → AreNamedAs (new ++ files_as is_after others) whole
next_file is_after old new whole left file others begins grown is =
    further old new (file_as is_after file ∷ []) (files_as is_after others) whole grown
    (subst (λ (l : List ReplacedFile). AreNamedAs (old ++ files_as is_after l) whole) begins is)

-- those of the last of the first steps, and then of the earlier ones
pub step_before : (of_step : StagingStep → List ReplacedFile) (old new whole : List ReplacedFile)
    (steps : List StagingStep) (count place : ℕ) (step : StagingStep) → count ≡ place + 1
    → place < length steps → step ≡ slice_index_or steps place step
    → AreNamedAs new (old ++ of_step step)
    → AreNamedAs (old ++ flat_map of_step (reverse (take count steps))) whole
    → AreNamedAs (new ++ flat_map of_step (reverse (take place steps))) whole
step_before of_step old new whole steps count place step is_next within found grown is =
    next_step of_step old new whole step (reverse (take place steps)) grown
    (subst (λ (l : List StagingStep). AreNamedAs (old ++ flat_map of_step l) whole)
    (ap (λ (n : ℕ). reverse (take n steps)) is_next
    ∙ ap (λ (l : List StagingStep). reverse l) (take_more steps place step within)
    ∙ reverse-append (take place steps) (get_or steps place step ∷ [])
    ∙ ap (λ (s : StagingStep). s ∷ reverse (take place steps)) (sym found)) is)

-- at first all steps are left
pub all_left : (of_step : StagingStep → List ReplacedFile) (old : List ReplacedFile)
    (steps : List StagingStep) → AreNamedAs
    (old ++ flat_map of_step (reverse (take (length steps) steps)))
    (old ++ flat_map of_step (reverse steps))
all_left of_step old steps name =
    ap (λ (l : List StagingStep). file_named (old ++ flat_map of_step (reverse l)) name)
    (take-length steps)

-- ---- all files

-- the parts, one after the other
pub all_three : (a b c one two three : List ReplacedFile) → AreNamedAs one ([] ++ a)
    → AreNamedAs two (one ++ b) → AreNamedAs three (two ++ c)
    → AreNamedAs three (a ++ (b ++ c))
all_three a b c one two three first second third name =
    third name
    ∙ then_same two (one ++ b) c second name
    ∙ then_same (one ++ b) (a ++ b) c (then_same one a b first) name
    ∙ ap (λ (l : List ReplacedFile). file_named l name) (append_assoc a b c)

-- by the parts of the steps
pub all_at : (steps : List StagingStep) (first count : ℕ)
    (done later earlier run : List StagingStep) (zero one two three : List ReplacedFile)
    → done ≡ take count steps → later ≡ drop count steps → earlier ≡ take first done
    → run ≡ drop first done → zero ≡ []
    → AreNamedAs one (zero ++ flat_map files_left (reverse run))
    → AreNamedAs two (one ++ flat_map (files_if_done false) later)
    → AreNamedAs three (two ++ flat_map (files_if_done true) (reverse earlier))
    → AreNamedAs three (files_at steps first count)
all_at steps first count done later earlier run zero one two three done_is later_is earlier_is
    run_is none begun found left name =
    all_three (flat_map files_left (reverse run)) (flat_map (files_if_done false) later)
    (flat_map (files_if_done true) (reverse earlier)) one two three
    (subst (λ (l : List ReplacedFile). AreNamedAs one (l ++ flat_map files_left (reverse run)))
    none begun) found left name
    ∙ ap (λ (l : List ReplacedFile). file_named l name)
    (ap₂ (λ (l m : List ReplacedFile). l ++ m)
    (ap (λ (l : List StagingStep). flat_map files_left (reverse l))
    (run_is ∙ ap (λ (l : List StagingStep). drop first l) done_is))
    (ap₂ (λ (l m : List ReplacedFile). l ++ m)
    (ap (λ (l : List StagingStep). flat_map (files_if_done false) l) later_is)
    (ap (λ (l : List StagingStep). flat_map (files_if_done true) (reverse l))
    (earlier_is ∙ ap (λ (l : List StagingStep). take first l) done_is))))

pub all_before : (steps : List StagingStep) (place : ℕ) → length steps ≤ place
    → steps ≡ take place steps
all_before steps place past = sym (take_all place steps past)

pub none_after : (steps : List StagingStep) (place : ℕ) → length steps ≤ place
    → [] ≡ drop place steps
none_after steps place past = sym (drop_all place steps past)
