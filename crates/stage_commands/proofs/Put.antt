-- The files of a manifest, one app after the other.
use Rattle.std.proofs.Common.{◌≡◌, ◌∙◌, ap, refl, subst, sym, ℕ, List, [], ◌∷◌, ◌++◌, cond}
use Rattle.std.proofs.Common.{Bool, true, false, not, ◌||◌, ◌&&◌, true≢false, inl, inr}
use Rattle.std.proofs.Common.{arith, drop, get_or, length, take, ◌-◌, ◌<◌}
use Rattle.std.proofs.Math.Seq.{take-length}
use Rattle.std.specs.Prelude.{All, Option, Some, None, IfSome, codes, filter, find, option_map}
use Rattle.std.specs.Option.{option_or}
use Rattle.std.specs.List.{list_any}
use Rattle.std.specs.Str.{bytes_eq}
use Rattle.std.proofs.lemmas.List.Elements.{All-cons, All-filter, All-nil, All-push, All-weaker}
use Rattle.std.proofs.lemmas.List.Folds.{find-append, list_any-append}
use Rattle.std.proofs.lemmas.Slice.Eq.{bytes_eq-Decides}
use Rattle.load.specs.Kept.{whole_file}
use Rattle.load.specs.declared.sources.AppSources.{AppSources}
use Rattle.manifest.specs.App.{file_of}
use Rattle.stage_folder.specs.Folders.{Folder, GivesFile, KnownFolder}
use Rattle.stage_folder.specs.Steps.{IsFoundBy, done, has_distinct_names, has_name}
use Rattle.stage_folder.specs.Steps.{is_change, left_by}
use Rattle.stage_records.specs.Steps.{ReplacedFile}
use Rattle.stage_commands.specs.Puts.{AddsAppFile, app_file, no_file}
use Rattle.stage_commands.specs.Puts.{AddsFile, file_added, is_there}
use Rattle.stage_commands.specs.Puts.{AreChangesTo, AreFilesOf, AreFilesSoFar, AreInPlace, Extends}
use Rattle.stage_commands.specs.Puts.{IsAmongFiles, IsFileOf, IsGivenBy, IsInPlace}

-- ---- one file

pub there : (known : KnownFolder) (name bytes : List ℕ) (files : List ReplacedFile)
    → left_by files name ≡ Some bytes → AddsFile known name bytes files files
there known name bytes files is = is_there is

pub adds : (known : KnownFolder) (name bytes : List ℕ) (files new : List ReplacedFile)
    (file : ReplacedFile) (found : Option (List ℕ)) → find (has_name name) files ≡ None
    → file.name ≡ name → file.after ≡ bytes → file.before ≡ found → GivesFile known name found
    → new ≡ files ++ file ∷ [] → AddsFile known name bytes files new
adds known name bytes files new file found none named has was given e =
    subst (AddsFile known name bytes files) (sym e)
    (file_added files file none named has
    (subst (λ f. GivesFile known name f) (sym was) given))

pub app_none : (known : KnownFolder) (app : AppSources) (files : List ReplacedFile)
    → None ≡ whole_file app.kept → AddsAppFile known app files files
app_none known app files is = no_file (sym is)

pub app_one : (known : KnownFolder) (app : AppSources) (bytes : List ℕ)
    (old new : List ReplacedFile) → Some bytes ≡ whole_file app.kept
    → AddsFile known (file_of app.entry.source) bytes old new → AddsAppFile known app old new
app_one known app bytes old new kept adds = app_file bytes (sym kept) adds

-- ---- a longer list

none_some : {X : Type 0} (x : X) (A : Type 0) → None ≡ Some x → A
none_some {X} x A is = absurd (true≢false (sym (ap is_there_one is)))
  where
    is_there_one : Option X → Bool
    is_there_one None = false
    is_there_one (Some y) = true

after_or : (o rest : Option ReplacedFile) (bytes : List ℕ)
    → option_map (λ f. f.after) o ≡ Some bytes
    → option_map (λ f. f.after) (option_or o rest) ≡ Some bytes
after_or (Some file) rest bytes is = is
after_or None rest bytes is = none_some bytes _ is

extends_push : (files : List ReplacedFile) (file : ReplacedFile)
    → Extends files (files ++ file ∷ [])
extends_push files file name bytes is =
    ap (option_map (λ f. f.after)) (find-append (has_name name) files (file ∷ []))
    ∙ after_or (find (has_name name) files) (find (has_name name) (file ∷ [])) bytes is

pushed_left : (files : List ReplacedFile) (file : ReplacedFile) (name : List ℕ)
    → find (has_name name) files ≡ None → file.name ≡ name
    → left_by (files ++ file ∷ []) name ≡ Some file.after
pushed_left files file name none named =
    ap (option_map (λ f. f.after)) (find-append (has_name name) files (file ∷ []))
    ∙ ap (λ o. option_map (λ f. f.after) (option_or o (find (has_name name) (file ∷ [])))) none
    ∙ ap (λ (b : Bool). option_map (λ f. f.after) (cond b (Some file) None))
    ((bytes_eq-Decides file.name name).1 named)

extends_added : (known : KnownFolder) (name bytes : List ℕ) (files new : List ReplacedFile)
    → AddsFile known name bytes files new → Extends files new
extends_added known name bytes files _ (is_there is) = λ other b h. h
extends_added known name bytes files _ (file_added _ file none named has given) =
    extends_push files file

left_added : (known : KnownFolder) (name bytes : List ℕ) (files new : List ReplacedFile)
    → AddsFile known name bytes files new → left_by new name ≡ Some bytes
left_added known name bytes files _ (is_there is) = is
left_added known name bytes files _ (file_added _ file none named has given) =
    pushed_left files file name none named ∙ ap (λ b. Some b) has

-- ---- distinct names

both : (a b : Bool) → (a && b) ≡ true → (a ≡ true) × (b ≡ true)
both true b h = (refl, h)
both false b h = absurd (true≢false (sym h))

and : (a b : Bool) → a ≡ true → b ≡ true → (a && b) ≡ true
and true b h k = k
and false b h k = absurd (true≢false (sym h))

none_first : (b : Bool) (file : ReplacedFile) (rest : Option ReplacedFile)
    → cond b (Some file) rest ≡ None → (b ≡ false) × (rest ≡ None)
none_first false file rest h = (refl, h)
none_first true file rest h = none_some file _ (sym h)

not_or : (a b : Bool) → not a ≡ true → b ≡ false → not (a || (b || false)) ≡ true
not_or false false h k = refl
not_or false true h k = absurd (true≢false k)
not_or true b h k = absurd (true≢false (sym h))

other_way : (b : Bool) (one other : List ℕ) → bytes_eq other one ≡ b
    → bytes_eq one other ≡ false → b ≡ false
other_way false one other is h = refl
other_way true one other is h =
    let same : one ≡ other = sym ((bytes_eq-Decides other one).0 is) in
    absurd (true≢false (sym ((bytes_eq-Decides one other).1 same) ∙ h))

distinct_push : (files : List ReplacedFile) (file : ReplacedFile)
    → has_distinct_names files ≡ true → find (has_name file.name) files ≡ None
    → has_distinct_names (files ++ file ∷ []) ≡ true
distinct_push [] file distinct none = refl
distinct_push (f ∷ fs) file distinct none =
    let parts = both _ _ distinct in
    let apart = none_first (bytes_eq f.name file.name) f (find (has_name file.name) fs) none in
    let named : ReplacedFile → Bool = λ other. bytes_eq other.name f.name in
    and _ _ (ap not (list_any-append named fs (file ∷ []))
    ∙ not_or (list_any named fs) (named file) parts.0
    (other_way (named file) f.name file.name refl apart.0))
    (distinct_push fs file parts.1 apart.1)

distinct_added : (known : KnownFolder) (name bytes : List ℕ) (files new : List ReplacedFile)
    → AddsFile known name bytes files new → has_distinct_names files ≡ true
    → has_distinct_names new ≡ true
distinct_added known name bytes files _ (is_there is) h = h
distinct_added known name bytes files _ (file_added _ file none named has given) h =
    distinct_push files file h (subst (λ n. find (has_name n) files ≡ None) (sym named) none)

-- ---- the bytes in place

found_added : (known : KnownFolder) (name bytes : List ℕ) (files new : List ReplacedFile)
    → AddsFile known name bytes files new → IfSome known (IsFoundBy files)
    → IfSome known (IsFoundBy new)
found_added known name bytes files _ (is_there is) h = h
found_added None name bytes files _ (file_added _ file none named has given) h = tt
found_added (Some folder) name bytes files _ (file_added _ file none named has given) h =
    All-push (λ f. folder f.name ≡ f.before) files file h (ap folder named ∙ given)

among_added : (known : KnownFolder) (P : ReplacedFile → Type 0) (files new : List ReplacedFile)
    (name bytes : List ℕ) → ((file : ReplacedFile) → file.name ≡ name → file.after ≡ bytes
    → P file) → AddsFile known name bytes files new → All P files → All P new
among_added known P files _ name bytes is (is_there there) h = h
among_added known P files _ name bytes is (file_added _ file none named has given) h =
    All-push P files file h (is file named has)

-- ---- app after app

found_none : (known : KnownFolder) → IfSome known (IsFoundBy [])
found_none None = tt
found_none (Some folder) = All-nil (λ f. folder f.name ≡ f.before)

pub start : (known : KnownFolder) (apps : List AppSources) → AreFilesSoFar known apps apps []
start known apps = record {
  are = All-nil (IsAmongFiles apps);
  left_are = λ file is. is;
  given = λ more extends rest. rest;
  found = found_none known;
  distinct = refl;
}

given_app : (app : AppSources) (kept : Option (List ℕ)) (more : List ReplacedFile)
    → whole_file app.kept ≡ kept
    → IfSome kept (λ bytes. left_by more (file_of app.entry.source) ≡ Some bytes)
    → IsGivenBy more app
given_app app kept more is h =
    subst (λ o. IfSome o (λ bytes. left_by more (file_of app.entry.source) ≡ Some bytes))
    (sym is) h

next : (known : KnownFolder) (apps others : List AppSources) (app : AppSources)
    (files new : List ReplacedFile) → AreFilesSoFar known apps (app ∷ others) files
    → AddsAppFile known app files new → AreFilesSoFar known apps others new
next known apps others app files _ h (no_file none) = record {
  are = h.are;
  left_are = λ file is. h.left_are file (inr is);
  given = λ more extends rest. h.given more extends
      (All-cons (IsGivenBy more) app others (given_app app None more none tt) rest);
  found = h.found;
  distinct = h.distinct;
}
next known apps others app files new h (app_file bytes kept adds) = record {
  are = among_added known (IsAmongFiles apps) files new (file_of app.entry.source) bytes
      (λ file named has. h.left_are file (inl (named, kept ∙ ap (λ b. Some b) (sym has))))
      adds h.are;
  left_are = λ file is. h.left_are file (inr is);
  given = λ more extends rest. h.given more
      (λ n b is. extends n b (extends_added known _ bytes files new adds n b is))
      (All-cons (IsGivenBy more) app others (given_app app (Some bytes) more kept
      (extends (file_of app.entry.source) bytes (left_added known _ bytes files new adds)))
      rest);
  found = found_added known _ bytes files new adds h.found;
  distinct = distinct_added known _ bytes files new adds h.distinct;
}

pub next_of : (known : KnownFolder) (apps left others : List AppSources) (app : AppSources)
    (files new : List ReplacedFile) → AreFilesSoFar known apps left files → left ≡ app ∷ others
    → AddsAppFile known app files new → AreFilesSoFar known apps others new
next_of known apps left others app files new h is adds =
    next known apps others app files new
    (subst (λ l. AreFilesSoFar known apps l files) is h) adds

pub all_apps : (known : KnownFolder) (apps left : List AppSources) (files : List ReplacedFile)
    → left ≡ [] → AreFilesSoFar known apps left files → AreFilesSoFar known apps [] files
all_apps known apps left files none h =
    subst (λ l. AreFilesSoFar known apps l files) none h

pub files_of : (known : KnownFolder) (manifest : List ℕ) (apps : List AppSources)
    (files new : List ReplacedFile) → AreFilesSoFar known apps [] files
    → AddsFile known (codes "current.toml") manifest files new
    → AreFilesOf known manifest apps new
files_of known manifest apps files new h adds = let name = codes "current.toml" in record {
  are = among_added known (IsFileOf manifest apps) files new name manifest
      (λ file named has. inl (named, has)) adds
      (All-weaker (IsAmongFiles apps) (IsFileOf manifest apps) (λ file is. inr is) files h.are);
  given = h.given new (extends_added known name manifest files new adds)
      (All-nil (IsGivenBy new));
  manifest_given = left_added known name manifest files new adds;
  found = found_added known name manifest files new adds h.found;
  distinct = distinct_added known name manifest files new adds h.distinct;
}

pub changes_of : (known : KnownFolder) (manifest : List ℕ) (apps : List AppSources)
    (all files : List ReplacedFile) → AreFilesOf known manifest apps all
    → files ≡ filter is_change all → AreChangesTo known manifest apps files
changes_of known manifest apps all files are is =
    record { all = all; are_files = are; changes = is }

-- a slice with a first element is that, and what follows it
pub first_rest : (xs : List AppSources) (x : AppSources) → 0 < length xs → x ≡ get_or xs 0 x
    → xs ≡ x ∷ take (length xs - 1) (drop 1 xs)
first_rest [] x some is = absurd (omega (arith, some))
first_rest (y ∷ ys) x some is =
    let n : length (y ∷ ys) - 1 ≡ length ys = omega arith in
    ap (λ z. z ∷ ys) (sym is) ∙ ap (λ t. x ∷ t) (sym (ap (λ m. take m ys) n ∙ take-length ys))

-- ---- what is then in place

-- the law of stage_folder
pub record StepsLeave : Type 0 where
  pub left : (files : List ReplacedFile) (folder : Folder) (name bytes : List ℕ)
      → has_distinct_names files ≡ true → left_by files name ≡ Some bytes
      → done files folder name ≡ Some bytes
  pub changes : (files : List ReplacedFile) (folder : Folder)
      → has_distinct_names files ≡ true → IsFoundBy files folder
      → done (filter is_change files) folder ≡ done files folder

gives : StepsLeave → (old : KnownFolder) (all files : List ReplacedFile) (name bytes : List ℕ)
    → has_distinct_names all ≡ true → IfSome old (IsFoundBy all) → files ≡ filter is_change all
    → left_by all name ≡ Some bytes → GivesFile (option_map (done files) old) name (Some bytes)
gives laws None all files name bytes distinct found changes is = tt
gives laws (Some folder) all files name bytes distinct found changes is =
    ap (λ fs. done fs folder name) changes
    ∙ ap (λ f. f name) (laws.changes all folder distinct found)
    ∙ laws.left all folder name bytes distinct is

if_some : (o : Option (List ℕ)) (P Q : List ℕ → Type 0) → ((x : List ℕ) → P x → Q x)
    → IfSome o P → IfSome o Q
if_some None P Q f p = tt
if_some (Some x) P Q f p = f x p

gives_new : StepsLeave → (old new : KnownFolder) (manifest : List ℕ) (apps : List AppSources)
    (files : List ReplacedFile) (are : AreChangesTo old manifest apps files)
    → new ≡ option_map (done files) old → (name bytes : List ℕ)
    → left_by are.all name ≡ Some bytes → GivesFile new name (Some bytes)
gives_new laws old new manifest apps files are e name bytes is =
    let of = are.are_files in
    subst (λ known. GivesFile known name (Some bytes)) (sym e)
    (gives laws old are.all files name bytes of.distinct of.found are.changes is)

pub in_place : StepsLeave → (old new : KnownFolder) (manifest : List ℕ) (apps : List AppSources)
    (files : List ReplacedFile) → AreChangesTo old manifest apps files
    → new ≡ option_map (done files) old → AreInPlace new manifest apps
in_place laws old new manifest apps files are e = let of = are.are_files in record {
  manifest_is = gives_new laws old new manifest apps files are e (codes "current.toml") manifest
      of.manifest_given;
  apps_are = All-weaker (IsGivenBy are.all) (IsInPlace new)
      (λ app. if_some (whole_file app.kept)
      (λ bytes. left_by are.all (file_of app.entry.source) ≡ Some bytes)
      (λ bytes. GivesFile new (file_of app.entry.source) (Some bytes))
      (λ bytes. gives_new laws old new manifest apps files are e (file_of app.entry.source) bytes))
      apps of.given;
}

pub found_changes : (old : KnownFolder) (manifest : List ℕ) (apps : List AppSources)
    (files : List ReplacedFile) → AreChangesTo old manifest apps files
    → IfSome old (IsFoundBy files)
found_changes None manifest apps files are = tt
found_changes (Some folder) manifest apps files are =
    subst (λ fs. IsFoundBy fs folder) (sym are.changes)
    (All-filter is_change (λ f. folder f.name ≡ f.before) are.all are.are_files.found)
