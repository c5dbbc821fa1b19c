-- Steps that are performed or undone in part.
use Rattle.std.proofs.Common.{◌≡◌, ◌∙◌, ◌⊎◌, inl, inr, ap, refl, subst, sym, zero, suc}
use Rattle.std.proofs.Common.{List, [], ◌∷◌, ◌<◌, ◌-◌, arith, get_or, length, take_all}
use Rattle.std.specs.Prelude.{take, drop, Some, None, option_map}
use Rattle.stage_records.specs.Steps.{ReplacedFile}
use Rattle.stage_folder.specs.Folders.{Folder, KnownFolder, put, put_known}
use Rattle.stage_folder.specs.Steps.{IsPartlyDone, IsPartlyUndone, done}

-- what is known of a folder after two changes
fuse : (f g : Folder → Folder) (known : KnownFolder)
    → option_map g (option_map f known) ≡ option_map (λ x. g (f x)) known
fuse f g None = refl
fuse f g (Some folder) = refl

unchanged : (known : KnownFolder) → known ≡ option_map (λ folder. folder) known
unchanged None = refl
unchanged (Some folder) = refl

-- ---- performing

-- a step is done after its first file is replaced, and then the others are
pub done_first : (file : ReplacedFile) (files : List ReplacedFile) (old mid : KnownFolder)
    → mid ≡ put_known file.name (Some file.after) old
    → option_map (done files) mid ≡ option_map (done (file ∷ files)) old
done_first file files old mid first =
    ap (option_map (done files)) first ∙ fuse (put file.name (Some file.after)) (done files) old

pub partly_more : (file : ReplacedFile) (files : List ReplacedFile) (old mid new : KnownFolder)
    → mid ≡ put_known file.name (Some file.after) old → IsPartlyDone files mid new
    → IsPartlyDone (file ∷ files) old new
partly_more file files old mid new first (count, is) =
    (suc count, is ∙ done_first file (take count files) old mid first)

partly_none : (files : List ReplacedFile) (old new : KnownFolder) → new ≡ old
    → IsPartlyDone files old new
partly_none files old new same = (zero, same ∙ unchanged old)

-- the first file is replaced, or isn't
pub partly_failed : (file : ReplacedFile) (files : List ReplacedFile) (old new : KnownFolder)
    → (new ≡ old) ⊎ (new ≡ put_known file.name (Some file.after) old)
    → IsPartlyDone (file ∷ files) old new
partly_failed file files old new (inl same) = partly_none (file ∷ files) old new same
partly_failed file files old new (inr first) =
    partly_more file files old new new first (partly_none files new new refl)

-- ---- a slice of files, opened

pub opened : (left : List ReplacedFile) (file : ReplacedFile) → 0 < length left
    → file ≡ get_or left 0 file → left ≡ file ∷ take (length left - 1) (drop 1 left)
opened [] file some first = absurd (omega arith)
opened (other ∷ rest) file some first =
    ap (λ f. f ∷ rest) (sym first)
    ∙ ap (λ files. file ∷ files) (sym (take_all (length (other ∷ rest) - 1) rest (omega arith)))

pub failed_left : (left : List ReplacedFile) (file : ReplacedFile) (others : List ReplacedFile)
    (old new : KnownFolder) → left ≡ file ∷ others
    → (new ≡ old) ⊎ (new ≡ put_known file.name (Some file.after) old) → IsPartlyDone left old new
failed_left left file others old new whole h =
    subst (λ (files : List ReplacedFile). IsPartlyDone files old new) (sym whole)
    (partly_failed file others old new h)

pub more_left : (left : List ReplacedFile) (file : ReplacedFile) (others : List ReplacedFile)
    (old mid new : KnownFolder) → left ≡ file ∷ others
    → mid ≡ put_known file.name (Some file.after) old → IsPartlyDone others mid new
    → IsPartlyDone left old new
more_left left file others old mid new whole first h =
    subst (λ (files : List ReplacedFile). IsPartlyDone files old new) (sym whole)
    (partly_more file others old mid new first h)

pub done_left : (left : List ReplacedFile) (file : ReplacedFile) (others : List ReplacedFile)
    (old mid : KnownFolder) → left ≡ file ∷ others
    → mid ≡ put_known file.name (Some file.after) old
    → option_map (done others) mid ≡ option_map (done left) old
done_left left file others old mid whole first =
    done_first file others old mid first
    ∙ ap (λ (files : List ReplacedFile). option_map (done files) old) (sym whole)

-- ---- undoing

pub restored_more : (file : ReplacedFile) (files : List ReplacedFile) (old new : KnownFolder)
    → IsPartlyUndone files old new → IsPartlyUndone (file ∷ files) old new
restored_more file files old new (count, is) = (suc count, is)

pub restored_none : (files : List ReplacedFile) (old new : KnownFolder) → new ≡ old
    → IsPartlyUndone files old new
restored_none [] old new same = (zero, same ∙ unchanged old)
restored_none (file ∷ files) old new same =
    restored_more file files old new (restored_none files old new same)

-- the same of the files that are left
pub restored_left : (left : List ReplacedFile) (file : ReplacedFile) (others : List ReplacedFile)
    (old new : KnownFolder) → left ≡ file ∷ others → IsPartlyUndone others old new
    → IsPartlyUndone left old new
restored_left left file others old new whole h =
    subst (λ (files : List ReplacedFile). IsPartlyUndone files old new) (sym whole)
    (restored_more file others old new h)
