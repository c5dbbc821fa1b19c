-- Lists of marks, one a statement, each by the statements before it.
use Rattle.std.proofs.Common.{◌≡◌, ℕ, List, [], ◌∷◌, ◌++◌, length, set, arith}
use Rattle.std.proofs.Common.{Bool, refl, sym, ap, ◌∙◌, subst, append_assoc, append-nil}
use Rattle.std.specs.Prelude.{slice_set}
use Rattle.std.proofs.Math.Seq.{set-append_seam}
use Rattle.rule_lang.specs.declared.rule.Statement.{Statement}
use Rattle.warnings.specs.Marks.{each_by}

abbrev pub Mark : Type 0
Mark = List Statement → Statement → Bool

pub len_each : (g : Mark) (before rest : List Statement)
    → length (each_by g before rest) ≡ length rest
len_each g before [] = refl
len_each g before (x ∷ xs) =
    let more = len_each g (before ++ x ∷ []) xs in omega (arith, more)

pub each_more : (g : Mark) (before rest : List Statement) (st : Statement)
    → each_by g before (rest ++ st ∷ []) ≡ each_by g before rest ++ g (before ++ rest) st ∷ []
each_more g before [] st = ap (λ (b : List Statement). g b st ∷ []) (sym (append-nil before))
each_more g before (x ∷ xs) st =
    ap (λ (l : List Bool). g before x ∷ l)
    (each_more g (before ++ x ∷ []) xs st
    ∙ ap (λ (b : List Statement). each_by g (before ++ x ∷ []) xs ++ g b st ∷ [])
    (append_assoc before (x ∷ []) xs))

pub each_both : (g : Mark) (before some rest : List Statement)
    → each_by g before some ++ each_by g (before ++ some) rest ≡ each_by g before (some ++ rest)
each_both g before [] rest = ap (λ (b : List Statement). each_by g b rest) (append-nil before)
each_both g before (x ∷ xs) rest =
    ap (λ (l : List Bool). g before x ∷ l)
    (ap (λ (b : List Statement). each_by g (before ++ x ∷ []) xs ++ each_by g b rest)
    (sym (append_assoc before (x ∷ []) xs))
    ∙ each_both g (before ++ x ∷ []) xs rest)

pub same_each : (f g : Mark) (before rest : List Statement)
    → ((more : List Statement) (st : Statement) → f (before ++ more) st ≡ g (before ++ more) st)
    → each_by f before rest ≡ each_by g before rest
same_each f g before [] same = refl
same_each f g before (x ∷ xs) same =
    let here : f before x ≡ g before x =
    subst (λ (b : List Statement). f b x ≡ g b x) (append-nil before) (same [] x) in
    ap (λ m. m ∷ each_by f (before ++ x ∷ []) xs) here
    ∙ ap (λ (l : List Bool). g before x ∷ l)
    (same_each f g (before ++ x ∷ []) xs
    (λ more st. subst (λ (b : List Statement). f b st ≡ g b st)
    (sym (append_assoc before (x ∷ []) more)) (same (x ∷ more) st)))

-- marks by `g` for the statements so far, and by `f` for the rest
abbrev pub half : (f g : Mark) (before left : List Statement) → List Bool
half f g before left = each_by g [] before ++ each_by f before left

half_more : (f g : Mark) (before rest : List Statement) (st : Statement)
    → each_by g [] before ++ g before st ∷ each_by f (before ++ st ∷ []) rest
    ≡ half f g (before ++ st ∷ []) rest
half_more f g before rest st =
    sym (append_assoc (each_by g [] before) (g before st ∷ []) (each_by f (before ++ st ∷ []) rest))
    ∙ ap (λ (l : List Bool). l ++ each_by f (before ++ st ∷ []) rest)
    (sym (each_more g [] before st))

-- setting the next statement's mark
pub half_set : (f g : Mark) (before rest : List Statement) (st : Statement) (place : ℕ)
    (value : Bool) (marks : List Bool) → length before ≡ place → marks ≡ half f g before (st ∷ rest)
    → value ≡ g before st → slice_set marks place value ≡ half f g (before ++ st ∷ []) rest
half_set f g before rest st place value marks at is right =
    let done = each_by g [] before in
    let behind = each_by f (before ++ st ∷ []) rest in
    let counted : place ≡ length done = sym at ∙ sym (len_each g [] before) in
    ap (λ (l : List Bool). set l place value) is
    ∙ ap (λ (n : ℕ). set (done ++ f before st ∷ behind) n value) counted
    ∙ set-append_seam done (f before st) behind value
    ∙ ap (λ v. done ++ v ∷ behind) right
    ∙ half_more f g before rest st

pub half_kept : (f g : Mark) (before rest : List Statement) (st : Statement) (marks : List Bool)
    → marks ≡ half f g before (st ∷ rest) → f before st ≡ g before st
    → marks ≡ half f g (before ++ st ∷ []) rest
half_kept f g before rest st marks is right =
    is ∙ ap (λ v. each_by g [] before ++ v ∷ each_by f (before ++ st ∷ []) rest) right
    ∙ half_more f g before rest st

pub half_whole : (f g : Mark) (before left all : List Statement) (marks : List Bool)
    → marks ≡ half f g before left → before ++ left ≡ all
    → ((more : List Statement) (st : Statement) → f (before ++ more) st ≡ g (before ++ more) st)
    → marks ≡ each_by g [] all
half_whole f g before left all marks is whole same =
    is ∙ ap (λ (l : List Bool). each_by g [] before ++ l) (same_each f g before left same)
    ∙ each_both g [] before left
    ∙ ap (λ (l : List Statement). each_by g [] l) whole
