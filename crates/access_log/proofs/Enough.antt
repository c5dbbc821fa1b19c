-- All brief apps are in a line, or eleven of them.
use Rattle.std.proofs.Common.{◌≡◌, ℕ, zero, suc, ◌+◌, ◌-◌, ◌*◌, ◌^◌, ◌<◌, ◌≤◌, ◌⊎◌, inl, inr, refl}
use Rattle.std.proofs.Common.{List, [], ◌∷◌, ◌++◌, length, Bool, true, false, ap, ◌∙◌, arith, codes}
use Rattle.std.proofs.Common.{length-append}
use Rattle.std.specs.Prelude.{◌==◌, IfSome, Option, Some, None, if◌then◌else◌, decimal, nat_lt}
use Rattle.std.proofs.lemmas.Bool.{le-ltb}
use Rattle.std.proofs.lemmas.Fmt.{length-decimal-le}
use Rattle.json.specs.Print.{ends}
use Rattle.json.specs.Token.{Token, end_object, key, string, number, boolean}
use Rattle.access_log.specs.Apps.{outcome_members, head_of, event_length}
use Rattle.access_log.specs.Apps.{brief_size, first_of, fitting, all_of, all_fit}
use Rattle.access_log.specs.Brief.{HasBriefRelease, IsBriefText, IsShort, IsBrief, AreBrief}
use Rattle.access_log.specs.Brief.{ListsEnough}
use Rattle.access_log.specs.Line.{ListsApps}
use Rattle.access_log.specs.Members.{text_member, number_member, flag_member, count_member}
use Rattle.access_log.specs.Members.{left_out, optional_excerpt}
use Rattle.access_log.specs.Plain.{is_plain_text}
use Rattle.access_log.specs.Spelled.{spelled_from, spelled_quoted, spelled_text, spelled_token}
use Rattle.access_log.specs.Spelled.{size_of}
use Rattle.access_log.specs.TextSize.{text_size}
use Rattle.access_log.specs.Tokens.{ends_after}
use Rattle.access_log.specs.declared.apps.Listed.{Listed}
use Rattle.access_log.specs.declared.logged_app.LoggedApp.{LoggedApp}
use Rattle.access_log.specs.declared.logged_app.Outcome.{Outcome}
use Rattle.access_log.specs.declared.logged_app.Outcome.TheVariants.{Unknown, NotRequested}
use Rattle.access_log.specs.declared.logged_app.Outcome.TheVariants.{NoUpdate, Offered}
use Rattle.access_log.specs.declared.log_event.LogEvent.{LogEvent}
use Rattle.access_log.specs.declared.log_event.LogEvent.TheVariants as log
use Rattle.access_log.specs.declared.excerpt.Excerpt.{Excerpt}
use Rattle.access_log.proofs.Added.{spelled_from-append, ends_joined}
use Rattle.access_log.proofs.Fits.{brief_fits}
use Rattle.access_log.proofs.Short.{named_length}

-- ---- what members take

-- members that take at most n bytes after others
record Takes (n : ℕ) (ts : List Token) : Type 0 where
  few : size_of ts ≤ n
  ended : ends_after true ts ≡ true

-- also if the bound is computed
less : {n m : ℕ} {ts : List Token} → Takes n ts → n ≤ m → Takes m ts
less takes few = record { few = omega (arith, takes.few, few); ended = takes.ended }

none : {n : ℕ} → Takes n []
unfolding spelled_from
none = record { few = omega arith; ended = refl }

both : {n m : ℕ} {xs ys : List Token} → Takes n xs → Takes m ys → Takes (n + m) (xs ++ ys)
both {n} {m} {xs} {ys} first last =
    let joined = ap length (spelled_from-append true xs ys)
    ∙ length-append (spelled_from true xs) (spelled_from (ends_after true xs) ys)
    ∙ ap (λ s. size_of xs + length (spelled_from s ys)) first.ended in record {
      few = omega (arith, joined, first.few, last.few);
      ended =
          ends_joined true xs ys ∙ ap (λ s. ends_after s ys) first.ended ∙ last.ended;
    }

-- a name and a value
member_takes : (n : ℕ) (name : List ℕ) (t : Token) → is_plain_text name ≡ true → ends t ≡ true
    → length (spelled_token t) ≤ n → Takes (length name + 4 + n) (key name ∷ t ∷ [])
unfolding spelled_from
member_takes n name t plain end few = record {
  few =
      omega (
        arith,
        length-append (spelled_quoted name ++ 58 ∷ []) (spelled_token t ++ []),
        length-append (spelled_token t) [],
        named_length name plain,
        few,
      );
  ended = end;
}

text_takes : (n : ℕ) (name text : List ℕ) → is_plain_text name ≡ true → n ≤ 4096
    → text_size text ≤ n → Takes (length name + 6 + n) (text_member name text)
text_takes n name text plain within few =
    let quoted : length (spelled_quoted text) ≤ n + 2 =
    omega (arith, length-append (spelled_text text) (34 ∷ []), brief_fits n text within few) in
    less (member_takes (n + 2) name (string text) plain refl quoted) (omega arith)

number_takes : (digits : ℕ) (name : List ℕ) (k : ℕ) → is_plain_text name ≡ true → 1 ≤ digits
    → k < 10 ^ digits → k < 2 ^ 64 → Takes (length name + 4 + digits) (number_member name k)
number_takes digits name k plain some few small =
    member_takes digits name (number (decimal k)) plain refl
    (length-decimal-le digits k some few small)

unless : {n : ℕ} {ts : List Token} (b : Bool) → Takes n ts → Takes n (if b then [] else ts)
unless true takes = none
unless false takes = takes

-- how much of a text is left out, or how long it is
count_takes : (name : List ℕ) (k : ℕ) → is_plain_text name ≡ true → k < 10000000
    → Takes (length name + 11) (count_member name k)
count_takes name k plain short =
    unless (k == 0)
    (less
    (number_takes 7 name k plain (omega arith) (omega (arith, short)) (omega (arith, short)))
    (omega arith))

flag_takes : (name : List ℕ) (holds : Bool) → is_plain_text name ≡ true
    → Takes (length name + 9) (flag_member name holds)
flag_takes name true plain =
    less (member_takes 4 name (boolean true) plain refl (omega arith)) (omega arith)
flag_takes name false plain =
    less (member_takes 5 name (boolean false) plain refl (omega arith)) (omega arith)

-- ---- what a brief app takes

brief_version : (v : Option Excerpt) → IfSome v IsBriefText
    → Takes 104 (optional_excerpt (codes "version") (codes "version_left_out") v)
brief_version (Some e) is =
    less
    (both (text_takes 64 (codes "version") e.text.now refl (omega arith) is.0)
    (count_takes (codes "version_left_out") (left_out e) refl (omega (arith, is.1)))) (omega arith)
brief_version None is = none

brief_outcome : (o : Outcome) → HasBriefRelease o → Takes 69 (outcome_members o)
brief_outcome (Offered choice version) is =
    less
    (both
    (number_takes 3 (codes "choice") choice refl (omega arith) (omega (arith, is.0))
    (omega (arith, is.0)))
    (text_takes 43 (codes "release") version.now refl (omega arith) is.1))
    (omega arith)
brief_outcome NotRequested is = none
brief_outcome Unknown is = less (flag_takes (codes "unknown") true refl) (omega arith)
brief_outcome NoUpdate is =
    less (number_takes 1 (codes "choice") 0 refl (omega arith) (omega arith) (omega arith))
    (omega arith)

brief_count : (e : Option Excerpt) → IfSome e IsShort
    → Takes 25 (count_member (codes "event_left_out") (event_length e))
brief_count (Some e) is = less (count_takes (codes "event_left_out") e.length refl is) (omega arith)
brief_count None is = none

-- the brace and the id, which has no comma
head_takes : (text : List ℕ) → text_size text ≤ 64 → Takes 76 (head_of text)
unfolding spelled_from
head_takes text few = record {
  few =
      omega (
        arith,
        length-append (spelled_quoted (codes "appid") ++ 58 ∷ []) (spelled_quoted text ++ []),
        length-append (spelled_quoted text) [],
        length-append (spelled_text text) (34 ∷ []),
        named_length (codes "appid") refl,
        brief_fits 64 text (omega arith) few,
      );
  ended = refl;
}

end_takes : Takes 1 (end_object ∷ [])
unfolding spelled_from
end_takes = record { few = omega arith; ended = refl }

brief_app : (app : LoggedApp) → IsBrief app → brief_size app ≤ 330
brief_app app is =
    let all =
    both
    (both
    (both
    (both
    (both
    (both
    (both (head_takes app.appid.text.now is.0.0)
    (count_takes (codes "appid_left_out") (left_out app.appid) refl (omega (arith, is.0.1))))
    (brief_version app.version is.1))
    (number_takes 5 (codes "bucket") app.bucket refl (omega arith) (omega (arith, is.2))
    (omega (arith, is.2))))
    (flag_takes (codes "named") app.named refl))
    (brief_outcome app.outcome is.3))
    (brief_count app.event is.4))
    end_takes in
    omega (arith, all.few)

-- ---- how many fit

one_of : {count : ℕ} (x y : Listed) (b : Bool) → count ≤ x.count → count ≤ y.count
    → count ≤ (if b then x else y).count
one_of x y true first last = first
one_of x y false first last = last

or_more : (n count few all total : ℕ) → all ≡ few
    → (few ≡ (count + 1) + total) ⊎ ((count + 1) + n ≤ few)
    → (all ≡ count + suc total) ⊎ (count + suc n ≤ all)
or_more n count few all total is (inl every) = inl (omega (arith, is, every))
or_more n count few all total is (inr some) = inr (omega (arith, is, some))

one_more : (count room : ℕ) (app : LoggedApp) (apps : List LoggedApp) → brief_size app ≤ room
    → fitting count room (app ∷ apps) ≡ fitting (count + 1) (room - brief_size app) apps
unfolding fitting
one_more count room app apps fits =
    ap (λ (b : Bool). if b then first_of count room
    else fitting (count + 1) (room - brief_size app) apps) (le-ltb room (brief_size app) fits)

no_fewer : (count room : ℕ) (apps : List LoggedApp) → count ≤ (fitting count room apps).count
unfolding fitting
no_fewer count room [] = omega arith
no_fewer count room (app ∷ apps) =
    one_of (first_of count room) (fitting (count + 1) (room - brief_size app) apps)
    (nat_lt room (brief_size app)) (omega arith)
    (omega (arith, no_fewer (count + 1) (room - brief_size app) apps))

so_many : (n count room : ℕ) (apps : List LoggedApp) → n * 330 ≤ room → AreBrief apps
    → ((fitting count room apps).count ≡ count + length apps)
    ⊎ (count + n ≤ (fitting count room apps).count)
unfolding fitting
so_many zero count room apps fits are = inr (omega (arith, no_fewer count room apps))
so_many (suc n) count room [] fits are = inl (omega arith)
so_many (suc n) count room (app ∷ apps) fits are =
    let size = brief_app app are.0 in
    let is = ap (λ (l : Listed). l.count) (one_more count room app apps (omega (arith, fits, size)))
    in
    or_more n count _ _ (length apps) is
    (so_many n (count + 1) (room - brief_size app) apps (omega (arith, fits, size)) are.1)

from_0 : (n total : ℕ) → (n ≡ 0 + total) ⊎ (0 + 11 ≤ n) → (n ≡ total) ⊎ (11 ≤ n)
from_0 n total (inl every) = inl (omega (arith, every))
from_0 n total (inr some) = inr (omega (arith, some))

-- all fit, or as many of the first as do
either_way : (apps : List LoggedApp) (b : Bool)
    → ((fitting 0 3641 apps).count ≡ 0 + length apps) ⊎ (0 + 11 ≤ (fitting 0 3641 apps).count)
    → let listed : Listed = if b then all_of apps else fitting 0 3641 apps in
    (listed.count ≡ length apps) ⊎ (11 ≤ listed.count)
either_way apps true enough = inl refl
either_way apps false enough = from_0 (fitting 0 3641 apps).count (length apps) enough

lists_enough : (apps : List LoggedApp) → ListsEnough apps
lists_enough apps are = either_way apps (all_fit apps) (so_many 11 0 3641 apps (omega arith) are)

pub lists_apps : (e : LogEvent) → ListsApps e
lists_apps (log.Connection a) = lists_enough a.apps.now
lists_apps other = tt
