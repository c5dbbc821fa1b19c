-- A halt holds until a line resumes the app.
use Rattle.std.proofs.Common.{◌≡◌, ℕ, List, [], ◌∷◌, ◌++◌, Bool, true, false, not, Option, Some}
use Rattle.std.proofs.Common.{refl, sym, ap, subst, ◌∙◌, All, append_assoc, append-nil}
use Rattle.std.proofs.lemmas.List.Elements.{All-nil, All-cons, All-append, All-pop}
use Rattle.std.proofs.lemmas.Slice.Eq.{bytes_eq-Decides}
use Rattle.std.specs.Prelude.{◌≢◌, ◌&&◌, ◌||◌}
use Rattle.std.specs.Str.{bytes_eq}
use Rattle.cells.specs.declared.event.CellEvent.{CellEvent}
use Rattle.halts.specs.Halts.{HaltAdds, HaltedAreHeld, HoldsBack, ResumeLifts}
use Rattle.halts.specs.Halts.{halting, is_named, served, without}
use Rattle.hot_swap.specs.Latest.{Installs}
use Rattle.operator.specs.Control.{Controlled, Loading, IsHalted, IsInstalledWith}
use Rattle.operator.specs.Control.{Halts, Resumes, newly, already, lifted, unhalted}
use Rattle.operator.specs.Leading.{AnsweredLine, HaltsHold, IsNoResume, PublishesHeld}
use Rattle.operator.specs.Leading.{stays, goes}
use Rattle.operator.specs.Perform.{Performs, wordless, loaded, not_loaded, shown}
use Rattle.operator.specs.Perform.{halted, not_halted, resumed, not_resumed}
use Rattle.operator.specs.Perform.{stated, counted, stopped, unshown, unstated, uncounted}
use Rattle.operator.specs.declared.reply.OperatorReply.{OperatorReply}
use Rattle.operator_request.specs.declared.request.OperatorRequest.{OperatorRequest}
use Rattle.operator_request.specs.declared.request.OperatorRequest.TheVariants.{Resume}
use Rattle.ruleset.specs.Rules.{Rules}

or_true : (a b : Bool) → b ≡ true → (a || b) ≡ true
or_true true b is = refl
or_true false b is = is

and_true : (a b : Bool) → a ≡ false → b ≡ true → (not a && b) ≡ true
and_true a b apart is = ap (λ (x : Bool). not x && b) apart ∙ is

differs : (a b : List ℕ) → a ≢ b → bytes_eq a b ≡ false
differs a b apart = by (bytes_eq a b) refl
  where
    by : (same : Bool) → bytes_eq a b ≡ same → same ≡ false
    by true is = absurd (apart ((bytes_eq-Decides a b).0 is))
    by false is = refl

-- the app is halted, and further rulesets hold it back
abbrev IsHeld : List ℕ → Controlled → Controlled → Type 0
IsHeld appid c d = IsHalted appid d × PublishesHeld appid c d

no_further : (appid : List ℕ) (c d : Controlled)
    → d.publishing.known.rulesets ≡ c.publishing.known.rulesets → IsHalted appid d
    → IsHeld appid c d
no_further appid c d same is = (
  is,
  record {
    further = [];
    published_are = same ∙ sym (append-nil c.publishing.known.rulesets);
    held = All-nil (HoldsBack appid);
  },
)

module _ (held : HaltedAreHeld) (adds : HaltAdds) (lifts : ResumeLifts) (appid : List ℕ) where
  one_further : (c d : Controlled) (rules : Rules) (appids : List (List ℕ)) (generation : ℕ)
      → Installs c.publishing (served appids rules) generation d.publishing
      → d.halted ≡ appids → is_named appids appid ≡ true → IsHeld appid c d
  one_further c d rules appids generation installed same is = (
    ap (λ (h : List (List ℕ)). is_named h appid) same ∙ is,
    record {
      further = served appids rules ∷ [];
      published_are = installed.listed;
      held = All-cons (HoldsBack appid) (served appids rules) [] (held rules appids appid is)
          (All-nil (HoldsBack appid));
    },
  )

  of_halt : (one : List ℕ) (c d : Controlled) (generation : ℕ) → Halts one c generation d
      → IsHalted appid c → IsHeld appid c d
  of_halt one c d n (newly offered is) here =
      one_further c d c.last.rules (halting one c.halted) n is.installed is.halted_is
      (adds one appid c.halted ∙ or_true (bytes_eq one appid) (is_named c.halted appid) here)
  of_halt one c d n (already is) here = no_further appid c c refl here

  of_resume : (one : List ℕ) (c d : Controlled) (generation : ℕ) → one ≢ appid
      → Resumes one c generation d → IsHalted appid c → IsHeld appid c d
  of_resume one c d n apart (lifted found is) here =
      one_further c d c.last.rules (without one c.halted) n is.installed is.halted_is
      (lifts one appid c.halted
      ∙ and_true (bytes_eq one appid) (is_named c.halted appid) (differs one appid apart) here)
  of_resume one c d n apart (unhalted is) here = no_further appid c c refl here

  then_held : (c d e : Controlled) → PublishesHeld appid c d → PublishesHeld appid d e
      → PublishesHeld appid c e
  then_held c d e first next = record {
    further = first.further ++ next.further;
    published_are = next.published_are
        ∙ ap (λ (l : List Rules). l ++ next.further) first.published_are
        ∙ append_assoc c.publishing.known.rulesets first.further next.further;
    held = All-append (HoldsBack appid) first.further next.further first.held next.held;
  }

  module _ {F : Type 0} (loads : Loading F) where
    one_line : (request : Option OperatorRequest) (c d : Controlled) (events : List CellEvent)
        (reply : OperatorReply F) → Performs loads request c events reply d
        → IsNoResume appid request → IsHalted appid c → IsHeld appid c d
    one_line request c d events reply wordless free here = no_further appid c c refl here
    one_line request c d events reply (loaded {generation = n} path is) free here =
        one_further c d is.rules c.halted n is.installed is.halted_is here
    one_line request c d events reply (not_loaded path is) free here =
        no_further appid c c refl here
    one_line request c d events reply (halted {generation = n} one is) free here =
        of_halt one.now c d n is here
    one_line request c d events reply (not_halted one is) free here =
        no_further appid c c refl here
    one_line request c d events reply (resumed {generation = n} one is) free here =
        of_resume one.now c d n (free one refl) is here
    one_line request c d events reply (not_resumed one is) free here =
        no_further appid c c refl here
    one_line request c d events reply (shown lines is) free here = no_further appid c c refl here
    one_line request c d events reply (stated lines is) free here = no_further appid c c refl here
    one_line request c d events reply (counted lines all) free here =
        no_further appid c c refl here
    one_line request c d events reply stopped free here = no_further appid c d refl here
    one_line request c d events reply unshown free here = no_further appid c c refl here
    one_line request c d events reply unstated free here = no_further appid c c refl here
    one_line request c d events reply (uncounted all) free here = no_further appid c c refl here

-- ---- one line after the other

module _ {F : Type 0} (loads : Loading F) where
  pub halts_hold : HaltedAreHeld → HaltAdds → ResumeLifts → HaltsHold loads
  halts_hold held adds lifts appid c d lines reads stays here free =
      no_further appid c c refl here
  halts_hold held adds lifts appid c d lines reads
      (goes {d = m} {lines = before} {before = made} {events} {request} {reply} led is) here free =
      let line : AnsweredLine F = record { request = request; reply = reply } in
      let parts = All-pop (λ (l : AnsweredLine F). IsNoResume appid l.request)
      (before ++ line ∷ []) before (Some line) refl free in
      let first = halts_hold held adds lifts appid c m before made led here parts.0 in
      let next = one_line held adds lifts appid loads request m d events reply is parts.1 first.0 in
      (next.0, then_held held adds lifts appid c m d first.1 next.1)
