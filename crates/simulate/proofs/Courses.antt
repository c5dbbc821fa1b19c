-- A course can be extended by one run.
use Rattle.std.proofs.Common.{◌≡◌, ℕ, suc, ◌+◌, ◌<◌, ◌≤◌, ◌%◌, ◌∙◌, List, [], ◌∷◌, ◌++◌, length}
use Rattle.std.proofs.Common.{All, ap, subst, refl, sym, arith, take, get_or}
use Rattle.std.proofs.Common.{length-append, add-one}
use Rattle.std.proofs.Math.Seq.{take-suc}
use Rattle.std.proofs.lemmas.List.Elements.{All-nil, All-cons, All-append}
use Rattle.std.proofs.lemmas.Fmt.{decimal_digit}
use Rattle.std.specs.Fmt.{decimal}
use Rattle.attrs.specs.Attributes.{Attributes}
use Rattle.bpf_semantics.specs.Program.{ShapedProgram}
use Rattle.ruleset.specs.Rules.{AppRule}
use Rattle.simulate.specs.Clients.{IsSameButCohort, IsSameButApp, attributes, clients}
use Rattle.simulate.specs.Clients.{in_bucket, requesting}
use Rattle.simulate.specs.Course.{Chooses, InTurn, ChoosesForApp, AppByApp}
use Rattle.simulate.specs.Course.InTurn.{none, next}
use Rattle.simulate.specs.Course.AppByApp.{none as no_app, next as next_app}
use Rattle.simulate.specs.declared.client.Client.{Client}

pub digit : (n : ℕ) → decimal (n % 10) ≡ (48 + n % 10) ∷ []
digit n = decimal_digit (n % 10) (omega arith)

abbrev pub few : ℕ → Type 0
few choice = choice ≤ 64

-- `n` clients have chosen
pub record IsUnderWay (program : ShapedProgram) (first now : Client) (old new : List ℕ) (n : ℕ)
    (choices : List ℕ) : Type 0 where
  pub turns : InTurn program (clients first) old n choices new
  pub client : IsSameButCohort first now
  pub count : length choices ≡ n
  pub within : n ≤ 10000
  pub releases : All few choices

pub none_yet : (program : ShapedProgram) (first : Client) (old : List ℕ)
    → IsUnderWay program first first old old 0 []
none_yet program first old = record {
  turns = none;
  client = λ bucket. refl;
  count = refl;
  within = omega arith;
  releases = All-nil few;
}

-- the client moves to the next bucket and chooses
pub one_more : (program : ShapedProgram) (first now moved : Client) (old between new : List ℕ)
    (n choice : ℕ) (choices longer : List ℕ) → IsUnderWay program first now old between n choices
    → n < 10000 → moved ≡ in_bucket now n
    → Chooses program (attributes moved) between choice new → choice ≤ 64
    → longer ≡ choices ++ choice ∷ []
    → IsUnderWay program first moved old new (n + 1) longer
one_more program first now moved old between new n choice choices longer so_far more is chosen
    low grown =
    let this : moved ≡ in_bucket first n = is ∙ so_far.client n in
    let own = subst (λ (c : Client). Chooses program (attributes c) between choice new) this
    chosen in
    record {
      turns = rw grown (next n choices between choice new so_far.turns own);
      client = λ bucket. ap (λ (c : Client). in_bucket c bucket) this;
      count = rw grown (simp (length-append, add-one) (ap suc so_far.count));
      within = omega (arith, more);
      releases = rw grown (All-append few choices (choice ∷ []) so_far.releases
          (All-cons few choice [] low (All-nil few)));
    }

-- ---- apps

-- `i` apps are evaluated
pub record IsAtApp (first now : Client) (old new : List ℕ) (apps : List AppRule) (i : ℕ)
    (chosen : List (List ℕ)) : Type 0 where
  pub course : AppByApp first old (take i apps) chosen new
  pub client : IsSameButApp first now
  pub count : length chosen ≡ i

pub no_app_yet : (first : Client) (old : List ℕ) (apps : List AppRule)
    → IsAtApp first first old old apps 0 []
no_app_yet first old apps = record {
  course = no_app;
  client = λ appid bucket. refl;
  count = refl;
}

pub one_app_more : (first now after : Client) (old between new : List ℕ) (apps : List AppRule)
    (i : ℕ) (app : AppRule) (chosen longer : List (List ℕ)) (choices : List ℕ)
    → IsAtApp first now old between apps i chosen → i < length apps → app ≡ get_or apps i app
    → ChoosesForApp now app between choices new → IsSameButApp now after
    → longer ≡ chosen ++ choices ∷ []
    → IsAtApp first after old new apps (i + 1) longer
one_app_more first now after old between new apps i app chosen longer choices so_far within found
    asks same grown =
    let apps_are : take (i + 1) apps ≡ take i apps ++ app ∷ [] =
    rw add-one (take-suc apps i app within
    ∙ ap (λ (a : AppRule). take i apps ++ a ∷ []) (sym found)) in
    let said : clients (requesting now app.appid) ≡ clients (requesting first app.appid) =
    λ k. λ bucket. ap attributes (so_far.client app.appid bucket) k in
    let own = subst (λ (c : ℕ → Attributes). InTurn app.program c between 10000 choices new)
    said asks in
    record {
      course = rw (apps_are, grown)
          (next_app (take i apps) chosen between app choices new so_far.course own);
      client = λ appid bucket. same appid bucket ∙ so_far.client appid bucket;
      count = rw grown (simp (length-append, add-one) (ap suc so_far.count));
    }
