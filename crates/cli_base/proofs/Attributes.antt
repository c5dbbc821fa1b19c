-- The attributes among the texts of `--attr`.
use Rattle.std.proofs.Common.{◌≡◌, ◌∙◌, sym, subst, ap, refl, ℕ, suc, ◌+◌, ◌<◌, ◌≤◌, add-one}
use Rattle.std.proofs.Common.{List, [], Option, Some, None, Bool, true, false, length, drop}
use Rattle.std.proofs.Common.{get_or, map, drop-cons, drop_of_length-le}
use Rattle.std.specs.Prelude.{IfOk, MatchOption, Result, Ok, Err, if◌then◌else◌}
use Rattle.std.specs.Option.{option_copied, option_map, option_or, unwrap_or}
use Rattle.std.specs.Borrow.{Bor}
use Rattle.std.specs.Str.Pattern.{FindsTextPrefix, StripsPrefix}
use Rattle.std.specs.Str.{IsCharBoundary}
use Rattle.std.proofs.lemmas.Str.Pattern.{starts_text}
use Rattle.clap.proofs.WalkLemmas.{raw_values-rows}
use Rattle.clap.specs.declared.parser.matches.Found.{Found}
use Rattle.clap.specs.Matches.{matched_of, raw_values}
use Rattle.clap.specs.Words.{Row, Text, rows_of}
use Rattle.cli_base.specs.AppOptions.{HasAttributes, count_attributes}
use Rattle.cli_base.specs.AppOptions.{value_in, value_of}
use Rattle.cli_base.specs.Values.{texts_of}
use Rattle.cli_base.specs.declared.app_args.AppArgs.{AppArgs}

abbrev pub texts : List (Bor Text) → List Text
texts lent = map (λ text. text.now) lent

-- the result of `strip_prefix`
pub stripped : (text name : List ℕ) (r : Option (Bor (List ℕ)))
    → MatchOption r (FindsTextPrefix name text None)
    (λ x. StripsPrefix (FindsTextPrefix name) text x.now)
    → option_copied r ≡ value_of text name
stripped text name None lacks =
    ap (λ (b : Bool). if b then Some (drop (length name) text) else None)
    (starts_text false name text lacks)
stripped text name (Some x) (n, finds, is, fits) =
    let yes : true ≡ _ = starts_text true name text
    (n, finds, subst (IsCharBoundary text) (sym finds.0) finds.2) in
    ap (λ (t : List ℕ). Some t) (is ∙ ap (λ (k : ℕ). drop k text) finds.0)
    ∙ ap (λ (b : Bool). if b then Some (drop (length name) text) else None) yes

-- ---- the loop over the texts

rest_at : (name : Text) (lent : List (Bor Text)) (i : ℕ) (d : Bor Text) → i < length lent
    → value_in (texts (drop i lent)) name ≡ option_or (value_of (get_or lent i d).now name)
    (value_in (texts (drop (suc i) lent)) name)
rest_at name lent i d within =
    ap (λ (l : List (Bor Text)). value_in (texts l) name) (drop-cons lent i d within)

pub passed : (name : Text) (lent : List (Bor Text)) (i : ℕ) (d : Bor Text)
    (r : Option (Bor Text)) → i < length lent
    → option_copied r ≡ value_of (get_or lent i d).now name → r ≡ None
    → value_in (texts (drop i lent)) name ≡ value_in (texts lent) name
    → value_in (texts (drop (i + 1) lent)) name ≡ value_in (texts lent) name
passed name lent i d r within is none so_far =
    let rest = value_in (texts (drop (suc i) lent)) name in
    let no : value_of (get_or lent i d).now name ≡ None = sym is ∙ ap option_copied none in
    rw add-one (sym (rest_at name lent i d within
    ∙ ap (λ (o : Option Text). option_or o rest) no) ∙ so_far)

pub found_at : (name : Text) (lent : List (Bor Text)) (i : ℕ) (d : Bor Text)
    (r : Option (Bor Text)) (value : Bor Text) → i < length lent
    → option_copied r ≡ value_of (get_or lent i d).now name → r ≡ Some value
    → value_in (texts (drop i lent)) name ≡ value_in (texts lent) name
    → Some value.now ≡ value_in (texts lent) name
found_at name lent i d r value within is some so_far =
    let rest = value_in (texts (drop (suc i) lent)) name in
    let yes : value_of (get_or lent i d).now name ≡ Some value.now =
    sym is ∙ ap option_copied some in
    sym (rest_at name lent i d within
    ∙ ap (λ (o : Option Text). option_or o rest) yes) ∙ so_far

pub none_at : (name : Text) (lent : List (Bor Text)) (i : ℕ) → length lent ≤ i
    → value_in (texts (drop i lent)) name ≡ value_in (texts lent) name
    → None ≡ value_in (texts lent) name
none_at name lent i past so_far =
    ap (λ (l : List (Bor Text)). value_in (texts l) name) (sym (drop_of_length-le lent past))
    ∙ so_far

-- ---- what clap found

texts_read : (f : Found) (id : Text) (r : Option (Bor (List (Bor Text))))
    → option_map (λ s. map (λ v. v.now) s.now) r ≡ option_map raw_values (matched_of f id)
    → unwrap_or (option_map (λ s. map (λ v. v.now) s.now) r) [] ≡ texts_of id (rows_of f)
texts_read f id r is =
    ap (λ (o : Option (List Text)). unwrap_or o []) (is ∙ raw_values-rows f id)

pub texts_some : (f : Found) (id : Text) (r : Option (Bor (List (Bor Text))))
    (s : Bor (List (Bor Text)))
    → option_map (λ s. map (λ v. v.now) s.now) r ≡ option_map raw_values (matched_of f id)
    → r ≡ Some s → texts s.now ≡ texts_of id (rows_of f)
texts_some f id r s is some =
    subst (λ (o : Option (Bor (List (Bor Text)))).
    unwrap_or (option_map (λ s. map (λ v. v.now) s.now) o) [] ≡ texts_of id (rows_of f)) some
    (texts_read f id r is)

pub texts_none : (f : Found) (id : Text) (r : Option (Bor (List (Bor Text))))
    → option_map (λ s. map (λ v. v.now) s.now) r ≡ option_map raw_values (matched_of f id)
    → r ≡ None → [] ≡ texts_of id (rows_of f)
texts_none f id r is none =
    subst (λ (o : Option (Bor (List (Bor Text)))).
    unwrap_or (option_map (λ s. map (λ v. v.now) s.now) o) [] ≡ texts_of id (rows_of f)) none
    (texts_read f id r is)

-- two apps with the same attributes have equally many
pub same_count : (rows : List Row) (a b : AppArgs) → HasAttributes rows a → HasAttributes rows b
    → count_attributes a ≡ count_attributes b
same_count rows a b has_a has_b =
    let appid : option_copied a.appid ≡ option_copied b.appid = has_a.appid ∙ sym has_b.appid in
    let brand : option_copied a.brand ≡ option_copied b.brand = has_a.brand ∙ sym has_b.brand in
    let ap_is : option_copied a.ap ≡ option_copied b.ap = has_a.ap ∙ sym has_b.ap in
    let lang : option_copied a.lang ≡ option_copied b.lang = has_a.lang ∙ sym has_b.lang in
    let cohort : option_copied a.cohort ≡ option_copied b.cohort =
    has_a.cohort ∙ sym has_b.cohort in
    let platform : option_copied a.platform ≡ option_copied b.platform =
    has_a.platform ∙ sym has_b.platform in
    rw (appid, brand, ap_is, lang, cohort, platform) refl

-- stored texts equal those that were borrowed
pub kept_texts : {V E : Type 0} (items : V → List (Bor Text)) (r : Result V E)
    (lent : List (Bor Text)) (given : List Text) → IfOk r (λ v. items v ≡ lent)
    → texts lent ≡ given → IfOk r (λ v. texts (items v) ≡ given)
kept_texts items (Ok v) lent given is same = ap texts is ∙ same
kept_texts items (Err e) lent given is same = tt
