-- What a loop over apps still has to compute at a place.
use Rattle.std.proofs.Common.{◌≡◌, ℕ, ◌+◌, ◌-◌, ◌<◌, ◌≤◌, List, [], length, drop, get_or}
use Rattle.std.proofs.Common.{Bool, true, false, ap, ◌∙◌}
use Rattle.std.specs.Prelude.{nat_lt, if◌then◌else◌, None}
use Rattle.std.proofs.lemmas.Bool.{lt-ltb, le-ltb}
use Rattle.std.proofs.lemmas.List.{drop_all, drop_more}
use Rattle.access_log.specs.Apps.{offers_of, offers_in, unknown_of, unknown_in, more_left_out}
use Rattle.access_log.specs.Apps.{brief_size, first_of, fitting, left_after, without_more}
use Rattle.access_log.specs.declared.logged_app.LoggedApp.{LoggedApp}
use Rattle.access_log.specs.declared.logged_app.Outcome.TheVariants.{Unknown}

pub no_offers_from : (apps : List LoggedApp) (i : ℕ) → length apps ≤ i
    → offers_in (drop i apps) ≡ 0
unfolding offers_in
no_offers_from apps i past = ap offers_in (drop_all i apps past)

pub no_unknown_from : (apps : List LoggedApp) (i : ℕ) → length apps ≤ i
    → unknown_in (drop i apps) ≡ 0
unfolding unknown_in
no_unknown_from apps i past = ap unknown_in (drop_all i apps past)

pub no_more_from : (apps : List LoggedApp) (i room : ℕ) → length apps ≤ i
    → more_left_out room (drop i apps) ≡ 0
unfolding more_left_out
no_more_from apps i room past = ap (more_left_out room) (drop_all i apps past)

-- the result of a read past the end of a list of apps
abbrev pub nobody : LoggedApp
nobody = record {
  appid = record { text = record { ref_ptr = (0, 0); now = [] }; length = 0 };
  version = None;
  bucket = 0;
  named = false;
  outcome = Unknown;
  event = None;
  more = record {
    ap = None;
    lang = None;
    brand = None;
    platform = None;
    installdate = None;
    ignored = None;
  };
}

module _ (apps : List LoggedApp) (i : ℕ) (d : LoggedApp) (within : i < length apps) where
  pub offers_from : offers_in (drop i apps)
      ≡ offers_of (get_or apps i d).outcome + offers_in (drop (i + 1) apps)
  unfolding offers_in
  offers_from = ap offers_in (drop_more apps i d within)

  pub unknown_from : unknown_in (drop i apps)
      ≡ unknown_of (get_or apps i d).outcome + unknown_in (drop (i + 1) apps)
  unfolding unknown_in
  unknown_from = ap unknown_in (drop_more apps i d within)

pub more_from : (apps : List LoggedApp) (i room : ℕ) (d : LoggedApp) → i < length apps
    → more_left_out room (drop i apps)
    ≡ without_more room (get_or apps i d)
    + more_left_out (left_after room (get_or apps i d)) (drop (i + 1) apps)
unfolding more_left_out
more_from apps i room d within = ap (more_left_out room) (drop_more apps i d within)

module _ (apps : List LoggedApp) (i count room : ℕ) where
  pub none_from : length apps ≤ i
      → fitting count room (drop i apps) ≡ first_of count room
  unfolding fitting
  none_from past = ap (fitting count room) (drop_all i apps past)

  module _ (d : LoggedApp) (within : i < length apps) where
    chosen : (full : Bool) → nat_lt room (brief_size (get_or apps i d)) ≡ full
        → fitting count room (drop i apps)
        ≡ (if full then first_of count room
        else fitting (count + 1) (room - brief_size (get_or apps i d)) (drop (i + 1) apps))
    unfolding fitting
    chosen full test =
        ap (fitting count room) (drop_more apps i d within)
        ∙ ap (λ (b : Bool). if b then first_of count room
        else fitting (count + 1) (room - brief_size (get_or apps i d)) (drop (i + 1) apps)) test

    pub full_at : room < brief_size (get_or apps i d)
        → fitting count room (drop i apps) ≡ first_of count room
    full_at less = chosen true (lt-ltb room (brief_size (get_or apps i d)) less)

    pub one_more_at : brief_size (get_or apps i d) ≤ room
        → fitting count room (drop i apps)
        ≡ fitting (count + 1) (room - brief_size (get_or apps i d)) (drop (i + 1) apps)
    one_more_at enough = chosen false (le-ltb room (brief_size (get_or apps i d)) enough)
