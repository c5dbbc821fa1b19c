-- What is appended of apps to a line in several steps.
use Rattle.std.proofs.Common.{◌≡◌, ℕ, ◌+◌, ◌<◌, ◌≤◌, List, [], ◌∷◌, ◌++◌, Bool, true, false, cond}
use Rattle.std.proofs.Common.{length, drop, take, get_or, sym, ap, subst, ◌∙◌, append_assoc, refl}
use Rattle.std.proofs.Common.{append-nil, codes}
use Rattle.std.proofs.lemmas.List.{drop_all, drop_more}
use Rattle.std.specs.Str.{chars}
use Rattle.json.specs.Print.{escape_byte}
use Rattle.json.specs.Token.{end_object, begin_array, end_array, key}
use Rattle.access_log.specs.Apps.{object_with, fitted_details, left_after, app_objects, head_of}
use Rattle.access_log.specs.Apps.{list_of, offers_in, unknown_in, left_out_members, more_left_out}
use Rattle.access_log.specs.Apps.{first_apps}
use Rattle.access_log.specs.Members.{count_member}
use Rattle.access_log.specs.Spelled.{spelled_from, spelled_quoted}
use Rattle.access_log.specs.Tokens.{AddsTokens, AddsElements}
use Rattle.access_log.specs.declared.apps.Listed.{Listed}
use Rattle.access_log.specs.declared.logged_app.LoggedApp.{LoggedApp}
use Rattle.access_log.proofs.Added.{then_adds, adds_nothing}

three_texts : (a x y z : List ℕ) → ((a ++ x) ++ y) ++ z ≡ a ++ (x ++ (y ++ (z ++ [])))
three_texts a x y z =
    ap (λ v. ((a ++ x) ++ y) ++ v) (sym (append-nil z))
    ∙ ap (λ l. l ++ (z ++ [])) (append_assoc a x y)
    ∙ append_assoc a (x ++ y) (z ++ [])
    ∙ ap (λ l. a ++ l) (append_assoc x y (z ++ []))

pub adds_head : {a b c d appid : List ℕ} (comma : Bool) → b ≡ a ++ cond comma (44 ∷ []) []
    → c ≡ b ++ codes "{\"appid\":" → d ≡ c ++ spelled_quoted appid
    → AddsTokens comma true a d (head_of appid)
unfolding spelled_from escape_byte chars
adds_head {a} {b} {c} {d} {appid} true first next last = record {
  text =
      last ∙ ap (λ l. l ++ spelled_quoted appid) next
      ∙ ap (λ l. (l ++ codes "{\"appid\":") ++ spelled_quoted appid) first
      ∙ three_texts a (44 ∷ []) (codes "{\"appid\":") (spelled_quoted appid);
  ended = refl;
  harmless = (tt, (tt, (tt, tt)));
}
adds_head {a} {b} {c} {d} {appid} false first next last = record {
  text =
      last ∙ ap (λ l. l ++ spelled_quoted appid) next
      ∙ ap (λ l. (l ++ codes "{\"appid\":") ++ spelled_quoted appid) first
      ∙ three_texts a [] (codes "{\"appid\":") (spelled_quoted appid);
  ended = refl;
  harmless = (tt, (tt, (tt, tt)));
}

pub adds_end : {a b : List ℕ} → b ≡ a ++ 125 ∷ [] → AddsTokens true true a b (end_object ∷ [])
unfolding spelled_from
adds_end is = record { text = is; ended = refl; harmless = (tt, tt) }

-- ---- the apps of a list

-- whatever is appended next, from the app at place i on, completes the list
abbrev pub Completes : (comma : Bool) (old line : List ℕ) (room left i : ℕ) → List LoggedApp
    → Type 0
Completes comma old line room left i apps =
    (e : Bool) (new : List ℕ) → AddsTokens comma e line new (app_objects left (drop i apps))
    → AddsTokens false e old new (app_objects room apps)

pub one_more : {old line new : List ℕ} {comma : Bool} {rest : ℕ} (room left : ℕ)
    (apps : List LoggedApp) (i : ℕ) (d : LoggedApp) → i < length apps
    → rest ≡ left_after left (get_or apps i d)
    → AddsTokens comma true line new
    (object_with (get_or apps i d) (fitted_details left (get_or apps i d)))
    → Completes comma old line room left i apps → Completes true old new room rest (i + 1) apps
unfolding app_objects
one_more {old} {line} {new} {comma} {rest} room left apps i d within other adds before e last
    more =
    let app = get_or apps i d in
    let after = drop (i + 1) apps in
    before e last
    (subst (λ (l : List LoggedApp). AddsTokens comma e line last (app_objects left l))
    (sym (drop_more apps i d within))
    (then_adds adds
    (subst (λ (n : ℕ). AddsTokens true e new last (app_objects n after)) other more)))

pub no_more : {old line : List ℕ} {comma : Bool} (room left : ℕ) (apps : List LoggedApp) (i : ℕ)
    → length apps ≤ i → Completes comma old line room left i apps
    → AddsElements old line (app_objects room apps)
unfolding app_objects
no_more {old} {line} {comma} room left apps i past before =
    let none = subst (λ (l : List LoggedApp). AddsTokens comma comma line line (app_objects left l))
    (sym (drop_all i apps past)) (adds_nothing comma line) in
    let all = before comma line none in
    subst (λ (e : Bool). AddsTokens false e old line (app_objects room apps)) (sym all.ended) all

pub adds_open : {a b : List ℕ} → b ≡ a ++ codes ",\"apps\":["
    → AddsTokens true false a b (key (codes "apps") ∷ begin_array ∷ [])
unfolding spelled_from escape_byte chars
adds_open is = record { text = is; ended = refl; harmless = (tt, (tt, tt)) }

pub adds_close : {a b : List ℕ} (before : Bool) → b ≡ a ++ 93 ∷ []
    → AddsTokens before true a b (end_array ∷ [])
unfolding spelled_from
adds_close true is = record { text = is; ended = refl; harmless = (tt, tt) }
adds_close false is = record { text = is; ended = refl; harmless = (tt, tt) }

-- ---- what is left out

pub adds_others : {a b c d : List ℕ} {offers unknown : ℕ} (apps : List LoggedApp)
    → offers ≡ offers_in apps → unknown ≡ unknown_in apps
    → AddsTokens true true a b (count_member (codes "left_out") (length apps))
    → AddsTokens true true b c (count_member (codes "offers_left_out") offers)
    → AddsTokens true true c d (count_member (codes "unknown_left_out") unknown)
    → AddsTokens true true a d (left_out_members apps)
adds_others {a} {b} {c} {d} apps is also first next last =
    then_adds
    (then_adds first
    (subst
    (λ (n : ℕ). AddsTokens true true b c (count_member (codes "offers_left_out") n)) is next))
    (subst
    (λ (n : ℕ). AddsTokens true true c d (count_member (codes "unknown_left_out") n)) also last)

pub adds_first : {a b c d : List ℕ} {front back : List LoggedApp} {more : ℕ} (listed : Listed)
    (apps : List LoggedApp) → front ≡ take listed.count apps → back ≡ drop listed.count apps
    → more ≡ more_left_out listed.room front
    → AddsTokens true true a b (list_of listed.room front)
    → AddsTokens true true b c (count_member (codes "more_left_out") more)
    → AddsTokens true true c d (left_out_members back)
    → AddsTokens true true a d (first_apps listed apps)
adds_first {a} {b} {c} {d} {front} {back} {more} listed apps is also count first next last =
    let lacking = count ∙ ap (more_left_out listed.room) is in
    then_adds
    (then_adds (subst (λ (xs : List LoggedApp). AddsTokens true true a b (list_of listed.room xs))
    is first)
    (subst (λ (k : ℕ). AddsTokens true true b c (count_member (codes "more_left_out") k))
    lacking next))
    (subst (λ (xs : List LoggedApp). AddsTokens true true c d (left_out_members xs)) also last)
