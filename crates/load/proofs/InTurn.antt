-- Gathered apps are judged in order and get their programs.
use Rattle.std.proofs.Common.{◌≡◌, ℕ, suc, ◌+◌, List, [], ◌∷◌, ◌++◌, length}
use Rattle.std.proofs.Common.{All, refl, sym, ap, ◌∙◌, subst, append_assoc, append-nil, arith, map}
use Rattle.std.proofs.Common.{Bool, true, false, cond, Option, Some, IfSome}
use Rattle.std.specs.Str.{bytes_eq}
use Rattle.std.proofs.lemmas.List.{map_push}
use Rattle.std.proofs.lemmas.List.Elements.{All-head, All-tail}
use Rattle.ruleset.specs.Rules.{AppRule}
use Rattle.load.specs.declared.judged.AppProgram.{AppProgram}
use Rattle.load.specs.declared.judged.JudgedApp.{JudgedApp}
use Rattle.load.specs.declared.load_fault.AppFault.{AppFault}
use Rattle.load.specs.declared.load_fault.AppFault.TheVariants as app
use Rattle.load.specs.declared.load_fault.LoadFault.{LoadFault}
use Rattle.load.specs.declared.sources.AppSources.{AppSources}
use Rattle.load.specs.Apps.{in_app}
use Rattle.load.specs.Sources.{HasItsReleases}
use Rattle.load.specs.Judged.{AreJudged, no_program, next_program, RefusesSources}
use Rattle.load.specs.Judged.{IsFirstRefused, here, there, RefusesFirst, apps_of}
use Rattle.load.specs.JudgedApps.{AreAppPrograms, IsAppProgram, IsJudgedApp, app_named, app_rule}
use Rattle.load.specs.JudgedApps.{app_rules, nothing_judged, next_judged, programs_of, sources_of}

-- ---- judged in order

pub judged_more : (all left behind : List AppSources) (old new : List AppProgram)
    (one : AppSources) (program : AppProgram)
    → ((rest : List AppProgram) → AreAppPrograms left rest → AreAppPrograms all (old ++ rest))
    → left ≡ one ∷ behind → new ≡ old ++ program ∷ [] → IsAppProgram one program
    → (rest : List AppProgram) → AreAppPrograms behind rest → AreAppPrograms all (new ++ rest)
judged_more all left behind old new one program so_far left_is new_is judged rest later =
    let programs : AreAppPrograms left (program ∷ rest) = rw left_is (next_judged judged later) in
    subst (λ (ps : List AppProgram). AreAppPrograms all ps)
    (sym (ap (λ (ps : List AppProgram). ps ++ rest) new_is
    ∙ append_assoc old (program ∷ []) rest))
    (so_far (program ∷ rest) programs)

pub judged_all : (all left : List AppSources) (programs : List AppProgram)
    → ((rest : List AppProgram) → AreAppPrograms left rest → AreAppPrograms all (programs ++ rest))
    → left ≡ [] → AreAppPrograms all programs
judged_all all left programs so_far is =
    let nothing : AreAppPrograms left [] = rw is nothing_judged in
    subst (λ (ps : List AppProgram). AreAppPrograms all ps) (append-nil programs)
    (so_far [] nothing)

pub refused_more : (all left behind : List AppSources) (count more : ℕ) (one : AppSources)
    (program : AppProgram)
    → ((number : ℕ) (fault : AppFault) → IsFirstRefused left number fault
    → IsFirstRefused all (count + number) fault)
    → left ≡ one ∷ behind → more ≡ count + 1 → IsAppProgram one program
    → (number : ℕ) (fault : AppFault) → IsFirstRefused behind number fault
    → IsFirstRefused all (more + number) fault
refused_more all left behind count more one program so_far left_is more_is judged number fault
    later =
    let first : IsFirstRefused left (suc number) fault =
    rw left_is (there program.program judged.judged later) in
    let same : count + suc number ≡ more + number = omega (arith, more_is) in
    subst (λ (n : ℕ). IsFirstRefused all n fault) same (so_far (suc number) fault first)

in_first : (apps : List AppSources) (number : ℕ) (fault : AppFault)
    → IsFirstRefused apps number fault → RefusesFirst apps (in_app number fault)
in_first apps number app.File h = h
in_first apps number (app.Program fault) h = h
in_first apps number (app.Rule fault) h = h
in_first apps number app.Memory h = tt

pub refused_here : (all left behind : List AppSources) (count number : ℕ) (one : AppSources)
    (fault : AppFault) (told : LoadFault)
    → ((number : ℕ) (fault : AppFault) → IsFirstRefused left number fault
    → IsFirstRefused all (count + number) fault)
    → left ≡ one ∷ behind → number ≡ count + 1 → told ≡ in_app number fault
    → RefusesSources one fault → RefusesFirst all told
refused_here all left behind count number one fault told so_far left_is is told_is refused =
    let first : IsFirstRefused left 1 fault = rw left_is (here refused) in
    subst (λ (f : LoadFault). RefusesFirst all f) (sym told_is)
    (in_first all number fault
    (subst (λ (n : ℕ). IsFirstRefused all n fault) (sym is) (so_far 1 fault first)))

-- ---- each with its program and its rule

module _ (apps rest : List AppSources) (programs more : List AppProgram) (one : AppSources)
    (program : AppProgram) (apps_are : apps ≡ one ∷ rest)
    (programs_are : programs ≡ program ∷ more) where
  pair : AreAppPrograms apps programs → AreAppPrograms (one ∷ rest) (program ∷ more)
  pair h =
      subst (λ (ps : List AppProgram). AreAppPrograms (one ∷ rest) ps) programs_are
      (subst (λ (l : List AppSources). AreAppPrograms l programs) apps_are h)

  pub program_head : AreAppPrograms apps programs → IsAppProgram one program
  program_head h = first (pair h)
    where
      first : AreAppPrograms (one ∷ rest) (program ∷ more) → IsAppProgram one program
      first (next_judged j js) = j

  pub program_tail : AreAppPrograms apps programs → AreAppPrograms rest more
  program_tail h = others (pair h)
    where
      others : AreAppPrograms (one ∷ rest) (program ∷ more) → AreAppPrograms rest more
      others (next_judged j js) = js

pub never_short : (apps rest : List AppSources) (programs : List AppProgram) (one : AppSources)
    → apps ≡ one ∷ rest → length programs ≡ 0 → AreAppPrograms apps programs → ⊥
never_short apps rest programs one apps_are none h =
    short programs none (subst (λ (l : List AppSources). AreAppPrograms l programs) apps_are h)
  where
    short : (ps : List AppProgram) → length ps ≡ 0 → AreAppPrograms (one ∷ rest) ps → ⊥
    short [] none k = elim k [ ]
    short (p ∷ ps) none k = absurd (omega (arith, none))

pub joined : (one : AppSources) (p : AppProgram) → IsAppProgram one p
    → IsJudgedApp (record { sources = one; program = p.program; rule = p.rule })
joined one p h = record { judged = h.judged; rule_is = h.rule_is }

pub joined_more : (all apps rest : List AppSources) (old new : List JudgedApp) (one : AppSources)
    (app : JudgedApp) → sources_of old ++ apps ≡ all → apps ≡ one ∷ rest → new ≡ old ++ app ∷ []
    → app.sources ≡ one → sources_of new ++ rest ≡ all
joined_more all apps rest old new one app so_far apps_are new_is same =
    ap (λ (l : List JudgedApp). sources_of l ++ rest) new_is
    ∙ ap (λ (l : List AppSources). l ++ rest) (map_push (λ (x : JudgedApp). x.sources) old app)
    ∙ append_assoc (sources_of old) (app.sources ∷ []) rest
    ∙ ap (λ (x : AppSources). sources_of old ++ x ∷ rest) same
    ∙ ap (λ (l : List AppSources). sources_of old ++ l) (sym apps_are) ∙ so_far

-- ---- the programs of judged apps, and their apps in a ruleset

pub are_judged : (apps : List AppSources) (programs : List AppProgram)
    → AreAppPrograms apps programs → AreJudged apps (map (λ (p : AppProgram). p.program) programs)
are_judged [] [] h = no_program
are_judged [] (p ∷ ps) h = elim h [ ]
are_judged (a ∷ apps) [] h = elim h [ ]
are_judged (a ∷ apps) (p ∷ ps) (next_judged j js) = next_program j.judged (are_judged apps ps js)

pub programs_judged : (apps : List JudgedApp) → All IsJudgedApp apps
    → AreJudged (sources_of apps) (programs_of apps)
programs_judged [] each = no_program
programs_judged (app ∷ apps) each =
    let first : IsJudgedApp app = All-head IsJudgedApp app apps each in
    next_program first.judged (programs_judged apps (All-tail IsJudgedApp app apps each))

pub rules_are : (apps : List JudgedApp)
    → app_rules apps ≡ apps_of (sources_of apps) (programs_of apps)
rules_are [] = refl
rules_are (app ∷ apps) = ap (λ (l : List AppRule). app_rule app ∷ l) (rules_are apps)

-- ---- an app that is found

pub found_judged : (apps : List JudgedApp) (appid : List ℕ) (o : Option JudgedApp)
    → o ≡ app_named apps appid → All IsJudgedApp apps → IfSome o IsJudgedApp
found_judged [] appid o is each =
    subst (λ (x : Option JudgedApp). IfSome x IsJudgedApp) (sym is) tt
found_judged (app ∷ apps) appid o is each =
    subst (λ (x : Option JudgedApp). IfSome x IsJudgedApp) (sym is)
    (by (bytes_eq app.sources.entry.appid appid)
    (found_judged apps appid (app_named apps appid) refl (All-tail IsJudgedApp app apps each)))
  where
    by : (b : Bool) → IfSome (app_named apps appid) IsJudgedApp
        → IfSome (cond b (Some app) (app_named apps appid)) IsJudgedApp
    by true behind = All-head IsJudgedApp app apps each
    by false behind = behind

-- ---- supplied in order

module _ (apps rest : List JudgedApp) (one : JudgedApp) (apps_are : apps ≡ one ∷ rest) where
  pub judged_head : All IsJudgedApp apps → IsJudgedApp one
  judged_head h =
      All-head IsJudgedApp one rest (subst (λ (l : List JudgedApp). All IsJudgedApp l) apps_are h)

  pub judged_tail : All IsJudgedApp apps → All IsJudgedApp rest
  judged_tail h =
      All-tail IsJudgedApp one rest (subst (λ (l : List JudgedApp). All IsJudgedApp l) apps_are h)

  pub shaped_head : All HasItsReleases (sources_of apps) → HasItsReleases one.sources
  shaped_head h =
      All-head HasItsReleases one.sources (sources_of rest)
      (subst (λ (l : List JudgedApp). All HasItsReleases (sources_of l)) apps_are h)

  pub shaped_tail : All HasItsReleases (sources_of apps) → All HasItsReleases (sources_of rest)
  shaped_tail h =
      All-tail HasItsReleases one.sources (sources_of rest)
      (subst (λ (l : List JudgedApp). All HasItsReleases (sources_of l)) apps_are h)

  pub supplied_more : (old new all : List AppRule) (added : AppRule)
      → old ++ app_rules apps ≡ all → new ≡ old ++ added ∷ [] → added ≡ app_rule one
      → new ++ app_rules rest ≡ all
  supplied_more old new all added so_far new_is is =
      ap (λ (l : List AppRule). l ++ app_rules rest) new_is
      ∙ append_assoc old (added ∷ []) (app_rules rest)
      ∙ ap (λ (x : AppRule). old ++ x ∷ app_rules rest) is
      ∙ sym (ap (λ (l : List JudgedApp). old ++ app_rules l) apps_are) ∙ so_far
