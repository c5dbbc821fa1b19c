-- What is found in an app's members, one member more at a time, from the last one on.
use Rattle.std.proofs.Common.{◌≡◌, ℕ, List, [], ◌∷◌, ◌++◌, codes, Bool, true, false, refl}
use Rattle.std.proofs.Common.{Option, Some, None, sym, ap, subst, ◌∙◌, append_assoc}
use Rattle.std.proofs.Common.{bytes_eq, string_bytes}
use Rattle.std.specs.Prelude.{option_and_then}
use Rattle.serde_json.specs.Data.{Data, null, boolean, number, string, array, object}
use Rattle.serde_json.specs.Data.{Members, member}
use Rattle.attrs.specs.declared.facts.AppFacts.{AppFacts}
use Rattle.serde_json.specs.Find.{get_member, as_number, as_object, as_str, as_u64}
use Rattle.serde_json.specs.View.{view, members_view}
use Rattle.omaha_json.specs.Members.{app_member, app_members, app_with, facts_of}
use Rattle.omaha_json.specs.Request.{app_facts, is_value}
use Rattle.omaha_json.specs.declared.app_members.AppMember.{AppMember}
use Rattle.omaha_json.specs.declared.app_members.AppMember.TheVariants as app
use Rattle.omaha_json.specs.declared.app_members.AppMembers.{AppMembers}
use Rattle.omaha_json.proofs.Named.{Entry, passed, choose, same, is_object}

module _ (appid version brand ap' lang cohort : Option (List ℕ)) (installdate : Option ℕ)
    (updatecheck ping event : Bool) where
  abbrev made : AppMembers
  made = record {
    appid = appid;
    version = version;
    brand = brand;
    ap = ap';
    lang = lang;
    cohort = cohort;
    installdate = installdate;
    updatecheck = updatecheck;
    ping = ping;
    event = event;
  }

same_made : (a a' b b' c c' d d' e e' f f' : Option (List ℕ)) (g g' : Option ℕ)
    (h h' i i' j j' : Bool)
    → a ≡ a' → b ≡ b' → c ≡ c' → d ≡ d' → e ≡ e' → f ≡ f' → g ≡ g' → h ≡ h' → i ≡ i' → j ≡ j'
    → made a b c d e f g h i j ≡ made a' b' c' d' e' f' g' h' i' j'
same_made a a' b b' c c' d d' e e' f f' g g' h h' i i' j j' p q r s t u v w x y = cc

module _ (name : List ℕ) (d : Data) (ms : Members) where
  pub record Grows (m : Option AppMember) : Type 0 where
    pub is : app_with m d (app_members ms) ≡ app_members (member name d ms)

  -- the member is this one
  here : (wanted : List ℕ) (m : AppMember) → bytes_eq name wanted ≡ true
      → app_with (Some m) d (app_members ms) ≡ app_members (member wanted d ms) → Grows (Some m)
  here wanted m e is = record {
    is =
        subst (λ (n : List ℕ). app_with (Some m) d (app_members ms) ≡ app_members (member n d ms))
        (same name wanted e) is;
  }

  kept : {B : Type 0} (f : Option Data → B) (wanted : List ℕ) → bytes_eq name wanted ≡ false
      → f (get_member wanted ms) ≡ f (get_member wanted (member name d ms))
  kept f wanted other = sym (ap f (passed wanted name d ms other))

  -- it is another one
  others : bytes_eq name (codes "appid") ≡ false → bytes_eq name (codes "version") ≡ false
      → bytes_eq name (codes "brand") ≡ false → bytes_eq name (codes "ap") ≡ false
      → bytes_eq name (codes "lang") ≡ false → bytes_eq name (codes "cohort") ≡ false
      → bytes_eq name (codes "installdate") ≡ false → bytes_eq name (codes "updatecheck") ≡ false
      → bytes_eq name (codes "ping") ≡ false → bytes_eq name (codes "event") ≡ false
      → Grows None
  others a b c e f g h i j k =
      let text = λ (o : Option Data). option_and_then as_str o in
      let day = λ (o : Option Data). option_and_then as_u64 (option_and_then as_number o) in
      record {
        is =
            same_made _ _ _ _ _ _ _ _ _ _ _ _ _ _ _ _ _ _ _ _
            (kept text (codes "appid") a) (kept text (codes "version") b)
            (kept text (codes "brand") c) (kept text (codes "ap") e)
            (kept text (codes "lang") f) (kept text (codes "cohort") g)
            (kept day (codes "installdate") h) (kept is_value (codes "updatecheck") i)
            (kept is_value (codes "ping") j) (kept is_value (codes "event") k);
      }

  pub app_more : Grows (app_member name)
  app_more =
      choose Grows _ app.Appid _ (λ t. here (codes "appid") app.Appid t refl) (λ a.
      choose Grows _ app.Version _ (λ t. here (codes "version") app.Version t refl) (λ b.
      choose Grows _ app.Brand _ (λ t. here (codes "brand") app.Brand t refl) (λ c.
      choose Grows _ app.Ap _ (λ t. here (codes "ap") app.Ap t refl) (λ e.
      choose Grows _ app.Lang _ (λ t. here (codes "lang") app.Lang t refl) (λ f.
      choose Grows _ app.Cohort _ (λ t. here (codes "cohort") app.Cohort t refl) (λ g.
      choose Grows _ app.Installdate _ (λ t. here (codes "installdate") app.Installdate t refl)
      (λ h.
      choose Grows _ app.Updatecheck _ (λ t. here (codes "updatecheck") app.Updatecheck t refl)
      (λ i.
      choose Grows _ app.Ping _ (λ t. here (codes "ping") app.Ping t refl) (λ j.
      choose Grows _ app.Event _ (λ t. here (codes "event") app.Event t refl) (λ k.
      others a b c e f g h i j k))))))))))

-- one more entry of a map
pub app_next : (all left left' done : List Entry) (e : Entry) (found found' : AppMembers)
    → all ≡ left ++ done → left ≡ left' ++ e ∷ [] → found ≡ app_members (members_view done)
    → found' ≡ app_with (app_member (string_bytes e.0)) (view e.1) found
    → (all ≡ left' ++ e ∷ done) × (found' ≡ app_members (members_view (e ∷ done)))
app_next all left left' done e found found' so_far taken is more = (
  so_far ∙ ap (λ (es : List Entry). es ++ done) taken ∙ append_assoc left' (e ∷ []) done,
  more ∙ ap (app_with (app_member (string_bytes e.0)) (view e.1)) is
      ∙ (app_more (string_bytes e.0) (view e.1) (members_view done)).is,
)

facts_from : (d d' : Data) → d ≡ d' → app_facts d' ≡ app_facts d
facts_from d d' is = ap app_facts (sym is)

pub facts_are : (d : Data) (ms : Members) (m : AppMembers) (facts : Option AppFacts)
    → Some ms ≡ as_object d → m ≡ app_members ms → facts ≡ facts_of m → facts ≡ app_facts d
facts_are d ms m facts is found said =
    said ∙ ap facts_of found ∙ facts_from d (object ms) (is_object d ms (sym is))

pub no_facts : (d : Data) → None ≡ as_object d → None ≡ app_facts d
no_facts null none = refl
no_facts (boolean b) none = refl
no_facts (number n) none = refl
no_facts (string s) none = refl
no_facts (array ds) none = refl
no_facts (object ms) none = cc
