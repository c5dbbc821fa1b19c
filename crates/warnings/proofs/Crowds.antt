-- Crowds that grow by a bucket, and by all buckets of a spot; their marks are those of all clients.
use Rattle.std.proofs.Common.{◌≡◌, ℕ, ◌+◌, ◌<◌, ◌≤◌, List, [], ◌∷◌, ◌++◌, length, map}
use Rattle.std.proofs.Common.{Bool, true, false, ◌||◌, None, arith, refl, sym, ap, ◌∙◌, subst}
use Rattle.std.specs.List.{list_all}
use Rattle.std.proofs.Math.Bool.{or-false, or_assoc}
use Rattle.std.proofs.lemmas.Bool.{and_parts}
use Rattle.attrs.specs.Attributes.{Attributes, plain}
use Rattle.rule_lang.specs.declared.rule.Statement.{Statement}
use Rattle.rule_lang.specs.declared.rule.Statement.TheVariants.{Count, When}
use Rattle.warnings.specs.declared.possible.Clients.{Clients}
use Rattle.warnings.specs.declared.possible.Clients.TheVariants.{AllAt}
use Rattle.warnings.specs.declared.spot.Spot.{Spot}
use Rattle.warnings.specs.Evaluation.{RuleOfApp, any_below, arrives, in_some_bucket, may_end}
use Rattle.warnings.specs.Evaluation.{someone}
use Rattle.warnings.specs.Marks.{AreMarked, Crowd, each_by, is_count, is_ended, is_reached, nobody}
use Rattle.warnings.specs.Marks.{with_buckets, with_one}
use Rattle.warnings.specs.Getting.{moved}
use Rattle.warnings.proofs.Buckets.{AreClients, moves, none_below_zero}
use Rattle.warnings.proofs.Each.{len_each, same_each}
use Rattle.warnings.proofs.Someone.{any_grows, any_more}

abbrev Operates : Type 0
Operates = Clients → Attributes → Bool

module _ (r : RuleOfApp) where
  reach_same : (crowd other : Crowd) → ((question : Operates) → crowd question ≡ other question)
      → (before : List Statement) (st : Statement)
      → is_reached r crowd before st ≡ is_reached r other before st
  reach_same crowd other same before (Count name index) = refl
  reach_same crowd other same before (When steps release) = same (arrives r before)

  end_same : (crowd other : Crowd) → ((question : Operates) → crowd question ≡ other question)
      → (before : List Statement) (st : Statement)
      → is_ended r crowd before st ≡ is_ended r other before st
  end_same crowd other same before (Count name index) = refl
  end_same crowd other same before (When steps release) =
      same (may_end r before (When steps release))

  pub same_marks : (crowd other : Crowd) (reached ends : List Bool)
      → ((question : Operates) → crowd question ≡ other question) → AreMarked r crowd reached ends
      → AreMarked r other reached ends
  same_marks crowd other reached ends same h = record {
    reached_are = h.reached_are
        ∙ same_each (is_reached r crowd) (is_reached r other) [] r.rule
        (λ more st. reach_same crowd other same more st);
    ends_are = h.ends_are
        ∙ same_each (is_ended r crowd) (is_ended r other) [] r.rule
        (λ more st. end_same crowd other same more st);
  }

  -- marks that are all set don't change
  set_stay : (f g : List Statement → Statement → Bool) (before rest : List Statement)
      → ((b : List Statement) (st : Statement) → f b st ≡ true → g b st ≡ true)
      → list_all (λ (m : Bool). m) (each_by f before rest) ≡ true
      → each_by f before rest ≡ each_by g before rest
  set_stay f g before [] more all = refl
  set_stay f g before (st ∷ rest) more all =
      let both = and_parts (f before st) (list_all (λ (m : Bool). m)
      (each_by f (before ++ st ∷ []) rest)) all in
      ap (λ m. m ∷ each_by f (before ++ st ∷ []) rest) (both.0 ∙ sym (more before st both.0))
      ∙ ap (λ (l : List Bool). g before st ∷ l)
      (set_stay f g (before ++ st ∷ []) rest more both.1)

  reach_more : (crowd other : Crowd)
      → ((question : Operates) → crowd question ≡ true → other question ≡ true)
      → (before : List Statement) (st : Statement) → is_reached r crowd before st ≡ true
      → is_reached r other before st ≡ true
  reach_more crowd other more before (Count name index) h = refl
  reach_more crowd other more before (When steps release) h = more (arrives r before) h

  end_more : (crowd other : Crowd)
      → ((question : Operates) → crowd question ≡ true → other question ≡ true)
      → (before : List Statement) (st : Statement) → is_ended r crowd before st ≡ true
      → is_ended r other before st ≡ true
  end_more crowd other more before (Count name index) h = refl
  end_more crowd other more before (When steps release) h =
      more (may_end r before (When steps release)) h

  all_stay : (crowd other : Crowd) (reached ends : List Bool)
      → ((question : Operates) → crowd question ≡ true → other question ≡ true)
      → list_all (λ (m : Bool). m) reached ≡ true → list_all (λ (m : Bool). m) ends ≡ true
      → AreMarked r crowd reached ends → AreMarked r other reached ends
  all_stay crowd other reached ends more all_reached all_ended h = record {
    reached_are = h.reached_are
        ∙ set_stay (is_reached r crowd) (is_reached r other) [] r.rule
        (reach_more crowd other more)
        (subst (λ (l : List Bool). list_all (λ (m : Bool). m) l ≡ true) h.reached_are all_reached);
    ends_are = h.ends_are
        ∙ set_stay (is_ended r crowd) (is_ended r other) [] r.rule
        (end_more crowd other more)
        (subst (λ (l : List Bool). list_all (λ (m : Bool). m) l ≡ true) h.ends_are all_ended);
  }

  -- the marks of the empty crowd
  nobody_reached : (before rest : List Statement)
      → map is_count rest ≡ each_by (is_reached r nobody) before rest
  nobody_reached before [] = refl
  nobody_reached before (Count name index ∷ rest) =
      ap (λ (l : List Bool). true ∷ l) (nobody_reached (before ++ Count name index ∷ []) rest)
  nobody_reached before (When steps release ∷ rest) =
      ap (λ (l : List Bool). false ∷ l) (nobody_reached (before ++ When steps release ∷ []) rest)

  nobody_ended : (before rest : List Statement)
      → map is_count rest ≡ each_by (is_ended r nobody) before rest
  nobody_ended before [] = refl
  nobody_ended before (Count name index ∷ rest) =
      ap (λ (l : List Bool). true ∷ l) (nobody_ended (before ++ Count name index ∷ []) rest)
  nobody_ended before (When steps release ∷ rest) =
      ap (λ (l : List Bool). false ∷ l) (nobody_ended (before ++ When steps release ∷ []) rest)

  pub none_marked : (reached ends : List Bool) → reached ≡ map is_count r.rule
      → ends ≡ map is_count r.rule → AreMarked r nobody reached ends
  none_marked reached ends reached_are ends_are = record {
    reached_are = reached_are ∙ nobody_reached [] r.rule;
    ends_are = ends_are ∙ nobody_ended [] r.rule;
  }

  pub rooms : (crowd : Crowd) (reached ends : List Bool) → AreMarked r crowd reached ends
      → (length reached ≡ length r.rule) × (length ends ≡ length r.rule)
  rooms crowd reached ends h = (
    ap length h.reached_are ∙ len_each (is_reached r crowd) [] r.rule,
    ap length h.ends_are ∙ len_each (is_ended r crowd) [] r.rule,
  )

  -- ---- the buckets of a spot so far

  abbrev with_below : Crowd → Spot → ℕ → Crowd
  with_below crowd spot n question =
      crowd question || any_below (λ k. question (AllAt spot) (plain r.appid None k)) n

  pub record AreBucketsMarked (reached_first ends_first : List Bool) (spot : Spot) (a : Attributes)
      (n : ℕ) (reached ends : List Bool) : Type 0 where
    pub within : n ≤ 10000
    pub clients : AreClients r.appid None a
    pub reached_length : length reached ≡ length r.rule
    pub ends_length : length ends ≡ length r.rule
    pub so_far : (crowd : Crowd) → AreMarked r crowd reached_first ends_first
        → AreMarked r (with_below crowd spot n) reached ends

  module _ (reached_first ends_first : List Bool) (spot : Spot) where
    pub no_bucket : (a : Attributes) → AreClients r.appid None a
        → length reached_first ≡ length r.rule → length ends_first ≡ length r.rule
        → AreBucketsMarked reached_first ends_first spot a 0 reached_first ends_first
    no_bucket a clients reached_length ends_length = record {
      within = omega arith;
      clients = clients;
      reached_length = reached_length;
      ends_length = ends_length;
      so_far = λ crowd h. same_marks crowd (with_below crowd spot 0) reached_first ends_first
          (λ question. sym (ap (λ b. crowd question || b)
          (none_below_zero (λ k. question (AllAt spot) (plain r.appid None k)))
          ∙ or-false (crowd question))) h;
    }

    pub next_bucket : (a b : Attributes) (n : ℕ) (reached ends reached_now ends_now : List Bool)
        → AreBucketsMarked reached_first ends_first spot a n reached ends → n < 10000
        → b ≡ moved a n → length reached_now ≡ length reached → length ends_now ≡ length ends
        → ((crowd : Crowd) → AreMarked r crowd reached ends
        → AreMarked r (with_one crowd (AllAt spot) b) reached_now ends_now)
        → AreBucketsMarked reached_first ends_first spot b (n + 1) reached_now ends_now
    next_bucket a b n reached ends reached_now ends_now h more is reached_length ends_length
        marked =
        record {
          within = omega (arith, more);
          clients = moves r.appid None a b n h.clients is;
          reached_length = reached_length ∙ h.reached_length;
          ends_length = ends_length ∙ h.ends_length;
          so_far = λ crowd first.
              same_marks (with_one (with_below crowd spot n) (AllAt spot) b)
              (with_below crowd spot (n + 1)) reached_now ends_now
              (λ question. or_assoc (crowd question)
              (any_below (λ k. question (AllAt spot) (plain r.appid None k)) n)
              (question (AllAt spot) b)
              ∙ ap (λ (x : Attributes). crowd question
              || (any_below (λ k. question (AllAt spot) (plain r.appid None k)) n
              || question (AllAt spot) x)) (is ∙ h.clients n)
              ∙ ap (λ y. crowd question || y)
              (sym (any_more (λ k. question (AllAt spot) (plain r.appid None k)) n)))
              (marked (with_below crowd spot n) (h.so_far crowd first));
        }

    pub all_buckets_marked : (a : Attributes) (n : ℕ) (reached ends : List Bool)
        → AreBucketsMarked reached_first ends_first spot a n reached ends → 10000 ≤ n
        → (crowd : Crowd) → AreMarked r crowd reached_first ends_first
        → AreMarked r (with_buckets r crowd spot) reached ends
    all_buckets_marked a n reached ends h all crowd first =
        let within = h.within in
        let same : n ≡ 10000 = omega (arith, within, all) in
        subst (λ m. AreMarked r (with_below crowd spot m) reached ends) same (h.so_far crowd first)

    pub no_more_buckets : (a : Attributes) (n : ℕ) (reached ends : List Bool)
        → AreBucketsMarked reached_first ends_first spot a n reached ends
        → list_all (λ (m : Bool). m) reached ≡ true → list_all (λ (m : Bool). m) ends ≡ true
        → (crowd : Crowd) → AreMarked r crowd reached_first ends_first
        → AreMarked r (with_buckets r crowd spot) reached ends
    no_more_buckets a n reached ends h all_reached all_ended crowd first =
        all_stay (with_below crowd spot n) (with_buckets r crowd spot) reached ends
        (λ question some. grows (crowd question)
        (λ k. question (AllAt spot) (plain r.appid None k)) some)
        all_reached all_ended (h.so_far crowd first)
      where
        grows : (c : Bool) (p : ℕ → Bool) → (c || any_below p n) ≡ true
            → (c || any_below p 10000) ≡ true
        grows true p some = refl
        grows false p some = any_grows p n 10000 h.within some

  -- ---- spot by spot

  pub record AreSpotsMarked (spots left : List Spot) (reached ends : List Bool) : Type 0 where
    pub crowd : Crowd
    pub marked : AreMarked r crowd reached ends
    pub rest : (question : Operates) → (crowd question || someone r left question)
        ≡ someone r spots question

  pub no_spot : (spots : List Spot) (reached ends : List Bool) → AreMarked r nobody reached ends
      → AreSpotsMarked spots spots reached ends
  no_spot spots reached ends h = record { crowd = nobody; marked = h; rest = λ question. refl }

  pub next_spot : (spots left others : List Spot) (spot : Spot)
      (reached ends reached_now ends_now : List Bool) → left ≡ spot ∷ others
      → AreSpotsMarked spots left reached ends
      → ((crowd : Crowd) → AreMarked r crowd reached ends
      → AreMarked r (with_buckets r crowd spot) reached_now ends_now)
      → AreSpotsMarked spots others reached_now ends_now
  next_spot spots left others spot reached ends reached_now ends_now stands h marked = record {
    crowd = with_buckets r h.crowd spot;
    marked = marked h.crowd h.marked;
    rest = λ question. or_assoc (h.crowd question) (in_some_bucket r (question (AllAt spot)) None)
        (someone r others question)
        ∙ ap (λ (l : List Spot). h.crowd question || someone r l question) (sym stands)
        ∙ h.rest question;
  }

  pub all_spots : (spots left : List Spot) (reached ends : List Bool) → left ≡ []
      → AreSpotsMarked spots left reached ends → AreMarked r (someone r spots) reached ends
  all_spots spots left reached ends none h =
      same_marks h.crowd (someone r spots) reached ends
      (λ question. sym (or-false (h.crowd question))
      ∙ ap (λ (l : List Spot). h.crowd question || someone r l question) (sym none)
      ∙ h.rest question)
      h.marked
