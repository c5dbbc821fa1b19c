-- A pass, which is a ghost token, that grew by the runs of some apps, and then by that of one more.
use Rattle.std.proofs.Common.{Bool, true, false, not, ◌≡◌, ℕ, ◌+◌, ◌<◌, ◌≤◌, get_or, arith}
use Rattle.std.proofs.Common.{List, [], ◌∷◌, ◌++◌, length, take, length-append}
use Rattle.std.proofs.Common.{Option, None, Some, option_map, refl, ap, sym, subst, ◌∙◌}
use Rattle.std.proofs.lemmas.List.{take_all, take_more}
use Rattle.std.specs.Prelude.{ℤ}
use Rattle.attrs.specs.Attributes.{kept_text}
use Rattle.attrs.specs.Facts.{attributes_of}
use Rattle.attrs.specs.declared.facts.AppFacts.{AppFacts}
use Rattle.attrs.specs.declared.facts.RequestFacts.{RequestFacts}
use Rattle.bpf_machine.specs.Represents.{Held, RunRepresents, Runs}
use Rattle.bpf_verify.specs.Covers.{AreLawful}
use Rattle.bpf_semantics.specs.Program.{ShapedProgram}
use Rattle.bpf_semantics.specs.Run.{Ends}
use Rattle.bpf_semantics.specs.State.{opening}
use Rattle.cells.specs.Grown.{Grows, GrowsByAppend}
use Rattle.cells.specs.declared.event.CellEvent.{CellEvent}
use Rattle.ruleset.specs.Rules.{AppRule, Rules, IsApp, ListsApp, app_of, appid_of}
use Rattle.omaha_json.specs.Found.{FoundApp}
use Rattle.answering.proofs.Found.{found_length, found_snoc}
use Rattle.answering.specs.Apps.{RunsApp, RunsApps, RunsFew, FindsApp, FindsApps}
use Rattle.answering.specs.Apps.{no_updatecheck, unknown, ran, none, then}
use Rattle.answering.specs.Found.{found_app, found_apps, listed_app}

pub not_true : (b : Bool) → not b ≡ true → b ≡ false
not_true true h = sym h
not_true false h = refl

pub not_false : (b : Bool) → not b ≡ false → b ≡ true
not_false true h = refl
not_false false h = sym h

-- the appid of an app is kept as it is
kept_appid : (app : AppRule) → IsApp app → app.appid ≡ kept_text (Some app.appid)
kept_appid app kept = let named = kept.named in grind (arith, named)

-- so attribute 0 is the appid, if the ruleset has the app
known_by : (rules : Rules) (app : AppFacts) (facts : RequestFacts) (moment : ℤ) (known : AppRule)
    → IsApp known → ListsApp rules app.appid known
    → ListsApp rules (appid_of (attributes_of app facts moment)) known
known_by rules app facts moment known kept is =
    subst (λ (appid : List ℕ). ListsApp rules appid known)
    (sym is.appid_is ∙ kept_appid known kept
    ∙ ap (λ (text : List ℕ). kept_text (Some text)) is.appid_is) is

module _ (rules : Rules) (facts : RequestFacts) (moment : ℤ) where
  -- one choice an app
  pub runs_length : {apps : List AppFacts} {choices : List (Option ℕ)} {events : List CellEvent}
      → RunsApps rules facts moment apps choices events → length choices ≡ length apps
  runs_length none = refl
  runs_length (then {apps} {choices} {before} {app} {choice} r s) =
      simp length-append (ap (λ (n : ℕ). n + 1) (runs_length r))

module _ (rules : Rules) (facts : RequestFacts) (moment : ℤ) where
  pub finds_length : {apps : List AppFacts} {found : List (Option FoundApp)}
      {events : List CellEvent}
      → FindsApps rules facts moment apps found events → length found ≡ length apps
  finds_length {apps} h =
      ap length h.found_are
      ∙ found_length rules facts apps h.choices (runs_length rules facts moment h.runs)

  pub finds_nothing : FindsApps rules facts moment [] [] []
  finds_nothing = record { choices = []; runs = none; found_are = refl }

  -- an app that isn't in the ruleset
  pub finds_none : (app : AppFacts) → app_of rules app.appid ≡ None
      → FindsApp rules facts moment app None []
  finds_none app knows = record {
    choice = None;
    runs = unknown knows;
    found_is = sym (ap (option_map (listed_app facts app None)) knows);
  }

  -- an app that requests no update
  pub finds_unrequested : (app : AppFacts) (found : Option FoundApp) → app.updatecheck ≡ false
      → found ≡ found_app rules facts app None → FindsApp rules facts moment app found []
  finds_unrequested app found asks is =
      record { choice = None; runs = no_updatecheck asks; found_is = is }

module _ {P : Type 0} (grew : P → CellEvent → P → Type 0) where
  -- nothing happened
  pub grows_none : (p : P) (Of : List CellEvent → Type 0) → Of [] → Grows grew p p Of
  grows_none p Of h = record { events = []; grown = refl; of = h }

  module _ (rules : Rules) (facts : RequestFacts) (moment : ℤ) where
    -- a run of an app's program, from its opening on
    pub grows_ran : (p q : P) (app : AppFacts) (known : AppRule) (run : Held) (choice count : ℕ)
        → app.updatecheck ≡ true → app_of rules app.appid ≡ Some known
        → IsApp known → ListsApp rules app.appid known
        → run.program ≡ known.program
        → RunRepresents run (opening (attributes_of app facts moment))
        → Runs grew run p q choice count → count ≤ length run.program.code
        → choice ≤ run.program.shape.releases
        → Grows grew p q (RunsApp rules facts moment app (Some choice))
    grows_ran p q app known run choice count asks found kept is same represents runs short few =
        let start = opening (attributes_of app facts moment) in
        let E : ShapedProgram → Type 0 = λ z. Ends z start runs.events choice count in
        let L : ShapedProgram → Type 0 = λ z. AreLawful z.shape runs.events in
        let end = subst E same (runs.ends start represents) in
        let brief = subst (λ (z : ShapedProgram). count ≤ length z.code) same short in
        let among = subst (λ (z : ShapedProgram). choice ≤ z.shape.releases) same few in
        record {
          events = runs.events;
          grown = runs.grown;
          of =
              ran known count asks found (known_by rules app facts moment known kept is) end
              brief (subst (λ (n : ℕ). choice ≤ n) (sym kept.all) among) runs.fits
              (subst L same runs.lawful);
        }

    -- what was found for an app, with the choice of its run
    pub grows_found : (p q : P) (app : AppFacts) (choice : Option ℕ) (found : Option FoundApp)
        → found ≡ found_app rules facts app choice
        → Grows grew p q (RunsApp rules facts moment app choice)
        → Grows grew p q (FindsApp rules facts moment app found)
    grows_found p q app choice found is a = record {
      events = a.events;
      grown = a.grown;
      of = record { choice = choice; runs = a.of; found_is = is };
    }

    grows_then : (p m q : P) (apps : List AppFacts) (found : List (Option FoundApp))
        (app : AppFacts) (one : Option FoundApp)
        → GrowsByAppend grew
        → Grows grew p m (FindsApps rules facts moment apps found)
        → Grows grew m q (FindsApp rules facts moment app one)
        → Grows grew p q (FindsApps rules facts moment (apps ++ app ∷ []) (found ++ one ∷ []))
    grows_then p m q apps found app one append a b =
        let so_far = found_apps rules facts apps a.of.choices in
        let len = runs_length rules facts moment a.of.runs in record {
          events = a.events ++ b.events;
          grown = append p a.events m b.events q a.grown b.grown;
          of = record {
            choices = a.of.choices ++ b.of.choice ∷ [];
            runs = then a.of.runs b.of.runs;
            found_are =
                ap (λ (z : List (Option FoundApp)). z ++ one ∷ []) a.of.found_are
                ∙ ap (λ (z : Option FoundApp). so_far ++ z ∷ []) b.of.found_is
                ∙ sym (found_snoc rules facts apps a.of.choices app b.of.choice len);
          };
        }

    -- one more app, as the loop counts
    pub grows_next : (p m q : P) (apps : List AppFacts) (i : ℕ) (app : AppFacts)
        (old new : List (Option FoundApp)) (one : Option FoundApp)
        → GrowsByAppend grew
        → i < length apps → app ≡ get_or apps i app → new ≡ old ++ one ∷ []
        → Grows grew p m (FindsApps rules facts moment (take i apps) old)
        → Grows grew m q (FindsApp rules facts moment app one)
        → Grows grew p q (FindsApps rules facts moment (take (i + 1) apps) new)
    grows_next p m q apps i app old new one append below found d a b =
        let longer : take (i + 1) apps ≡ take i apps ++ app ∷ [] =
        take_more apps i app below ∙ ap (λ (x : AppFacts). take i apps ++ x ∷ []) (sym found) in
        rw (longer, d) (grows_then p m q (take i apps) old app one append a b)

  module _ (rules : Rules) (moment : ℤ) (p q : P) where
    -- the runs of the first few apps, by the request's own names
    pub grows_few : (facts facts' : RequestFacts) (apps apps' : List AppFacts) (few : ℕ)
        (found : List (Option FoundApp)) → facts ≡ facts' → apps ≡ apps'
        → Grows grew p q (FindsApps rules facts moment (take few apps) found)
        → Grows grew p q (RunsFew rules facts' moment apps')
    grows_few facts facts' apps apps' few found e d a =
        let R : RequestFacts → Type 0 = λ f.
        RunsApps rules f moment (take few apps) a.of.choices a.events in
        let S : List AppFacts → Type 0 = λ xs.
        RunsApps rules facts' moment (take few xs) a.of.choices a.events in
        record {
          events = a.events;
          grown = a.grown;
          of = (few, a.of.choices, subst S d (subst R e a.of.runs));
        }

    -- all are the first few
    pub grows_all : (facts : RequestFacts) (apps : List AppFacts) (found : List (Option FoundApp))
        → Grows grew p q (FindsApps rules facts moment apps found)
        → Grows grew p q (RunsFew rules facts moment apps)
    grows_all facts apps found a =
        let n = length apps in
        let all : take n apps ≡ apps = take_all n apps (omega arith) in
        let S : List AppFacts → Type 0 = λ xs.
        RunsApps rules facts moment xs a.of.choices a.events in
        record {
          events = a.events;
          grown = a.grown;
          of = (n, a.of.choices, subst S (sym all) a.of.runs);
        }
