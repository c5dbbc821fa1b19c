-- The reader and the machine agree: the machine takes a phrase that the reader reads, and stops at
-- a token that the reader refuses.
use Rattle.std.proofs.Common.{◌≡◌, ℕ, ◌⊎◌, inl, inr, List, [], ◌∷◌, ◌++◌, length}
use Rattle.std.proofs.Common.{Option, Some, None, Ok, Err, Bool, true, false, if◌then◌else◌}
use Rattle.std.proofs.Common.{refl, sym, ap, ◌∙◌, subst}
use Rattle.std.specs.Prelude.{◌&&◌, not}
use Rattle.std.specs.Option.{option_and_then}
use Rattle.rule_lang.specs.declared.draft.Mode.{Mode}
use Rattle.rule_lang.specs.declared.draft.Mode.TheVariants as mode
use Rattle.rule_lang.specs.declared.rule_fault.RuleFault.{RuleFault}
use Rattle.rule_lang.specs.declared.keyword.Keyword.{Keyword}
use Rattle.rule_lang.specs.declared.phrase.Want.{Want}
use Rattle.rule_lang.specs.declared.phrase.Want.TheVariants as want
use Rattle.rule_lang.specs.declared.token.Token.TheVariants as token
use Rattle.rule_lang.specs.Lexed.{Placed}
use Rattle.rule_lang.specs.Parts.{OrFault, ◌>>?◌}
use Rattle.rule_lang.specs.Phrases.{Phrase, Ends, Needs, Maybe, tokens_after, misplaced, takes}
use Rattle.rule_lang.specs.Reader.Reading.{Draft, Next}
use Rattle.rule_lang.specs.Tokens.{Token}
use Rattle.rule_lang.proofs.Machine.{Place, AtStatement, AtFact, AtOperator, AtEnd}
use Rattle.rule_lang.proofs.Machine.{State}
use Rattle.rule_lang.proofs.Machine.{state, place_step, wants_step, step, runs}
use Rattle.rule_lang.proofs.StepsBack.{same_word}

-- ---- the machine's state for a draft

abbrev pub place_of : Mode → (parentheses : ℕ) → Place
place_of mode.Statement n = AtStatement
place_of mode.Fact n = AtFact n
place_of mode.Operator n = AtOperator n
place_of mode.Done n = AtEnd

abbrev pub state_of : Draft → State
state_of d = state Ends (place_of d.mode (length d.condition.below))

abbrev pub HasEnd : List Placed → Type 0
HasEnd [] = ⊥
HasEnd (p ∷ ts) = (p.token ≡ token.End) ⊎ HasEnd ts

pub record IsStuck (x : State) (ts : List Placed) (e : RuleFault) : Type 0 where
  pub before : List Placed
  pub first : Placed
  pub after : List Placed
  pub y : State
  pub whole : ts ≡ before ++ (first ∷ after)
  pub way : runs x before ≡ Some y
  pub stop : step y first.token ≡ None
  pub fault : e ≡ misplaced first.line

pub record IsLed (x : State) (ts : List Placed) (y : State) (rest : List Placed) : Type 0 where
  pub front : List Placed
  pub whole : ts ≡ front ++ rest
  pub way : runs x front ≡ Some y
  pub ends : (y.place ≡ AtEnd) ⊎ HasEnd rest

abbrev pub Led : State → List Placed → Next → Type 0
Led x ts (Ok q) = IsLed x ts (state_of q.0) q.1
Led x ts (Err e) = IsStuck x ts e

abbrev LedBehind : State → Place → List Placed → OrFault (List Placed) → Type 0
LedBehind x l ts (Ok rest) = IsLed x ts (state Ends l) rest
LedBehind x l ts (Err e) = IsStuck x ts e

pub then_led : (x y : State) (p : Placed) (after : List Placed) (o : Next)
    → step x p.token ≡ Some y → Led y after o → Led x (p ∷ after) o
then_led x y p after (Ok q) is h = record {
  front = p ∷ h.front;
  whole = ap (λ (ts : List Placed). p ∷ ts) h.whole;
  way = ap (option_and_then (λ z. runs z h.front)) is ∙ h.way;
  ends = h.ends;
}
then_led x y p after (Err e) is h = record {
  before = p ∷ h.before;
  first = h.first;
  after = h.after;
  y = h.y;
  whole = ap (λ (ts : List Placed). p ∷ ts) h.whole;
  way = ap (option_and_then (λ z. runs z h.before)) is ∙ h.way;
  stop = h.stop;
  fault = h.fault;
}

stopped : (x : State) (p : Placed) (after : List Placed) → step x p.token ≡ None
    → IsStuck x (p ∷ after) (misplaced p.line)
stopped x p after is = record {
  before = [];
  first = p;
  after = after;
  y = x;
  whole = refl;
  way = refl;
  stop = is;
  fault = refl;
}

arrived : (e : Draft) (y : State) (ts : List Placed) → state_of e ≡ y → HasEnd ts
    → Led y ts (Ok (e, ts))
arrived e y ts is h = record {
  front = [];
  whole = refl;
  way = ap (λ (z : State). Some z) (sym is);
  ends = inr h;
}

-- ---- phrases

abbrev is_end : Place → Bool
is_end AtEnd = true
is_end l = false

abbrev is_last : Phrase → Bool
is_last Ends = true
is_last (Needs w ws) = false
is_last (Maybe w given without) = false

-- the text's end comes last, if at all, and an optional part isn't last
abbrev pub ends_well : Bool → Phrase → Bool
ends_well b Ends = true
ends_well b (Needs w ws) = if takes w token.End then b && is_last ws else ends_well b ws
ends_well b (Maybe w given without) =
    not (takes w token.End) && (not (is_last without) && (ends_well b given && ends_well b without))

abbrev Before : Phrase → Place → List Placed → Type 0
Before Ends l ts = (l ≡ AtEnd) ⊎ HasEnd ts
Before (Needs w ws) l ts = HasEnd ts
Before (Maybe w given without) l ts = HasEnd ts

before_of : (ws : Phrase) (l : Place) (ts : List Placed) → HasEnd ts → Before ws l ts
before_of Ends l ts h = inr h
before_of (Needs w ws) l ts h = h
before_of (Maybe w given without) l ts h = h

at_the_end : (l : Place) → is_end l ≡ true → l ≡ AtEnd
at_the_end AtEnd h = refl
at_the_end l h = absurd cc

both_are : (b c : Bool) → (b && c) ≡ true → (b ≡ true) × (c ≡ true)
both_are true c h = (refl, h)
both_are false c h = absurd cc

record Passed (ws : Phrase) (l : Place) (ts : List Placed) : Type 0 where
  before : Before ws l ts
  well : ends_well (is_end l) ws ≡ true

last_passed : (ws : Phrase) (l : Place) (ts : List Placed) → (is_end l && is_last ws) ≡ true
    → Passed ws l ts
last_passed Ends l ts h = record {
  before = inl (at_the_end l (both_are (is_end l) true h).0);
  well = refl;
}
last_passed ws l ts h = absurd (no_more (both_are (is_end l) false h).1)
  where
    no_more : ◌≡◌ {A = Bool} false true → ⊥
    no_more e = cc

passed : (w : Want) (ws : Phrase) (l : Place) (p : Placed) (ts : List Placed)
    → ends_well (is_end l) (Needs w ws) ≡ true → takes w p.token ≡ true → HasEnd (p ∷ ts)
    → Passed ws l ts
passed w ws l p ts well fits h = by_test (takes w token.End) refl well
  where
    by_test : (b : Bool) → takes w token.End ≡ b → (if b then is_end l && is_last ws else
        ends_well (is_end l) ws) ≡ true → Passed ws l ts
    by_test true e k = last_passed ws l ts k
    by_test false e k = record {
      before = before_of ws l ts (by_end h);
      well = k;
    }
      where
        by_end : (p.token ≡ token.End) ⊎ HasEnd ts → HasEnd ts
        by_end (inl is) = let wrong : true ≡ false = sym fits ∙ ap (takes w) is ∙ e in absurd cc
        by_end (inr later) = later

-- the machine takes a phrase's first token
needs_went : (w : Want) (ws : Phrase) (l : Place) (p : Placed) (ts : List Placed)
    (o : OrFault (List Placed)) → takes w p.token ≡ true → LedBehind (state ws l) l ts o
    → LedBehind (state (Needs w ws) l) l (p ∷ ts) o
needs_went w ws l p ts (Ok rest) e k = record {
  front = p ∷ k.front;
  whole = ap (λ (us : List Placed). p ∷ us) k.whole;
  way = ap (λ (b : Bool). option_and_then (λ z. runs z k.front) (if b then Some (state ws l)
      else None)) e ∙ k.way;
  ends = k.ends;
}
needs_went w ws l p ts (Err f) e k = record {
  before = p ∷ k.before;
  first = k.first;
  after = k.after;
  y = k.y;
  whole = ap (λ (us : List Placed). p ∷ us) k.whole;
  way = ap (λ (b : Bool). option_and_then (λ z. runs z k.before) (if b then Some (state ws l)
      else None)) e ∙ k.way;
  stop = k.stop;
  fault = k.fault;
}

-- the machine at an optional part, with the part or without it
abbrev maybe_step : Bool → (given without : Phrase) → Place → Token → Option State
maybe_step b given without l t = if b then Some (state given l) else wants_step without l t

given_went : (w : Want) (given without : Phrase) (l : Place) (p : Placed) (ts : List Placed)
    (o : OrFault (List Placed)) → takes w p.token ≡ true → LedBehind (state given l) l ts o
    → LedBehind (state (Maybe w given without) l) l (p ∷ ts) o
given_went w given without l p ts (Ok rest) e k = record {
  front = p ∷ k.front;
  whole = ap (λ (us : List Placed). p ∷ us) k.whole;
  way = ap (λ (b : Bool). option_and_then (λ z. runs z k.front) (maybe_step b given without l
      p.token)) e ∙ k.way;
  ends = k.ends;
}
given_went w given without l p ts (Err f) e k = record {
  before = p ∷ k.before;
  first = k.first;
  after = k.after;
  y = k.y;
  whole = ap (λ (us : List Placed). p ∷ us) k.whole;
  way = ap (λ (b : Bool). option_and_then (λ z. runs z k.before) (maybe_step b given without l
      p.token)) e ∙ k.way;
  stop = k.stop;
  fault = k.fault;
}

abbrev last_in : Option State → Bool
last_in None = true
last_in (Some x) = is_last x.wants

-- the rest of the phrase isn't empty
some_front : (without : Phrase) (l : Place) (front : List Placed) → is_last without ≡ false
    → runs (state without l) front ≡ Some (state Ends l) → front ≡ [] → ⊥
some_front without l front more way none = absurd (never (ap last_in (sym (ap (runs (state
    without l)) none) ∙ way)))
  where
    never : is_last without ≡ true → ⊥
    never e = let wrong : true ≡ false = sym e ∙ more in cc

-- without the part the first token leads the same way
way_without : (w : Want) (given without : Phrase) (l : Place) (p q : Placed)
    (ts front rest : List Placed) (o : Option State) → takes w p.token ≡ false
    → p ∷ ts ≡ (q ∷ front) ++ rest → runs (state without l) (q ∷ front) ≡ o
    → runs (state (Maybe w given without) l) (q ∷ front) ≡ o
way_without w given without l p q ts front rest o e whole way =
    let same : p ≡ q = cc in
    let misses : takes w q.token ≡ false = ap (λ (x : Placed). takes w x.token) (sym same) ∙ e in
    ap (λ (b : Bool). option_and_then (λ z. runs z front) (maybe_step b given without l q.token))
    misses ∙ way

led_without : (w : Want) (given without : Phrase) (l : Place) (p : Placed)
    (ts front rest : List Placed) → takes w p.token ≡ false → is_last without ≡ false
    → p ∷ ts ≡ front ++ rest → runs (state without l) front ≡ Some (state Ends l)
    → (l ≡ AtEnd) ⊎ HasEnd rest
    → IsLed (state (Maybe w given without) l) (p ∷ ts) (state Ends l) rest
led_without w given without l p ts [] rest e more whole way ends =
    absurd (some_front without l [] more way refl)
led_without w given without l p ts (q ∷ front) rest e more whole way ends = record {
  front = q ∷ front;
  whole = whole;
  way = way_without w given without l p q ts front rest (Some (state Ends l)) e whole way;
  ends = ends;
}

stuck_without : (w : Want) (given without : Phrase) (l : Place) (p first : Placed)
    (ts before after : List Placed) (y : State) (f : RuleFault) → takes w p.token ≡ false
    → p ∷ ts ≡ before ++ (first ∷ after) → runs (state without l) before ≡ Some y
    → step y first.token ≡ None → f ≡ misplaced first.line
    → IsStuck (state (Maybe w given without) l) (p ∷ ts) f
stuck_without w given without l p first ts [] after y f e whole way stop fault =
    let same : p ≡ first = cc in
    let here : state without l ≡ y = cc in
    record {
      before = [];
      first = first;
      after = after;
      y = state (Maybe w given without) l;
      whole = whole;
      way = refl;
      stop = ap (λ (b : Bool). maybe_step b given without l first.token) (ap (λ (x : Placed).
          takes w x.token) (sym same) ∙ e) ∙ ap (λ (x : State). step x first.token) here ∙ stop;
      fault = fault;
    }
stuck_without w given without l p first ts (q ∷ before) after y f e whole way stop fault = record {
  before = q ∷ before;
  first = first;
  after = after;
  y = y;
  whole = whole;
  way = way_without w given without l p q ts before (first ∷ after) (Some y) e whole way;
  stop = stop;
  fault = fault;
}

left_went : (w : Want) (given without : Phrase) (l : Place) (p : Placed) (ts : List Placed)
    (o : OrFault (List Placed)) → takes w p.token ≡ false → is_last without ≡ false
    → LedBehind (state without l) l (p ∷ ts) o
    → LedBehind (state (Maybe w given without) l) l (p ∷ ts) o
left_went w given without l p ts (Ok rest) e more k =
    led_without w given without l p ts k.front rest e more k.whole k.way k.ends
left_went w given without l p ts (Err f) e more k =
    stuck_without w given without l p k.first ts k.before k.after k.y f e k.whole k.way k.stop
    k.fault

-- `ends_well` for an optional part
record MaybeWell (b : Bool) (w : Want) (given without : Phrase) : Type 0 where
  goes_on : takes w token.End ≡ false
  more : is_last without ≡ false
  there : ends_well b given ≡ true
  left : ends_well b without ≡ true

unnot : (b : Bool) → not b ≡ true → b ≡ false
unnot true h = absurd cc
unnot false h = refl

maybe_well : (b : Bool) (w : Want) (given without : Phrase)
    → ends_well b (Maybe w given without) ≡ true → MaybeWell b w given without
maybe_well b w given without h =
    let one = both_are (not (takes w token.End)) (not (is_last without) && (ends_well b given
    && ends_well b without)) h in
    let two = both_are (not (is_last without)) (ends_well b given && ends_well b without) one.1 in
    let three = both_are (ends_well b given) (ends_well b without) two.1 in
    record {
      goes_on = unnot (takes w token.End) one.0;
      more = unnot (is_last without) two.0;
      there = three.0;
      left = three.1;
    }

-- after a token other than the end, the end is still to come
end_left : (w : Want) (p : Placed) (ts : List Placed) → takes w token.End ≡ false
    → takes w p.token ≡ true → HasEnd (p ∷ ts) → HasEnd ts
end_left w p ts no_end fits (inl is) =
    let wrong : true ≡ false = sym fits ∙ ap (takes w) is ∙ no_end in absurd cc
end_left w p ts no_end fits (inr h) = h

behind_led : (ws : Phrase) (l : Place) (ts : List Placed) → ends_well (is_end l) ws ≡ true
    → Before ws l ts → LedBehind (state ws l) l ts (tokens_after ws ts)
behind_led Ends l ts well h = record { front = []; whole = refl; way = refl; ends = h }
behind_led (Needs w ws) l [] well h = absurd h
behind_led (Needs w ws) l (p ∷ ts) well h = by_test (takes w p.token) refl (λ (k : Passed ws l ts).
    behind_led ws l ts k.well k.before)
  where
    by_test : (b : Bool) → takes w p.token ≡ b
        → (Passed ws l ts → LedBehind (state ws l) l ts (tokens_after ws ts))
        → LedBehind (state (Needs w ws) l) l (p ∷ ts)
        (if b then tokens_after ws ts else Err (misplaced
        p.line))
    by_test true e go =
        needs_went w ws l p ts (tokens_after ws ts) e (go (passed w ws l p ts well e h))
    by_test false e go = stopped (state (Needs w ws) l) p ts (ap (λ (b : Bool). if b then Some
        (state ws l) else None) e)
behind_led (Maybe w given without) l [] well h = absurd h
behind_led (Maybe w given without) l (p ∷ ts) well h =
    by_test (takes w p.token) refl (maybe_well (is_end l) w given without well)
    (λ (m : MaybeWell (is_end l) w given without) (k : HasEnd ts).
    behind_led given l ts m.there (before_of given l ts k))
    (λ (m : MaybeWell (is_end l) w given without).
    behind_led without l (p ∷ ts) m.left (before_of without l (p ∷ ts) h))
  where
    by_test : (b : Bool) → takes w p.token ≡ b → (m : MaybeWell (is_end l) w given without)
        → (MaybeWell (is_end l) w given without → HasEnd ts
        → LedBehind (state given l) l ts (tokens_after given ts))
        → (MaybeWell (is_end l) w given without
        → LedBehind (state without l) l (p ∷ ts) (tokens_after without (p ∷ ts)))
        → LedBehind (state (Maybe w given without) l) l (p ∷ ts)
        (if b then tokens_after given ts else
        tokens_after without (p ∷ ts))
    by_test true e m there left =
        given_went w given without l p ts (tokens_after given ts) e
        (there m (end_left w p ts m.goes_on e
        h))
    by_test false e m there left =
        left_went w given without l p ts (tokens_after without (p ∷ ts)) e m.more (left m)

led_to : (x : State) (l : Place) (ts : List Placed) (e : Draft) (o : OrFault (List Placed))
    → state_of e ≡ state Ends l → LedBehind x l ts o → Led x ts (o >>? λ rest. Ok (e, rest))
led_to x l ts e (Ok rest) is h = subst (λ (y : State). IsLed x ts y rest) (sym is) h
led_to x l ts e (Err f) is h = h

-- the result of a phrase that leads to this draft
abbrev pub phrase_next : Phrase → List Placed → Draft → Next
phrase_next ws ts e = tokens_after ws ts >>? λ rest. Ok (e, rest)

-- the rest of a phrase
pub rest_led : (ws : Phrase) (l : Place) (ts : List Placed) (e : Draft)
    → ends_well (is_end l) ws ≡ true → state_of e ≡ state Ends l → HasEnd ts
    → Led (state ws l) ts (phrase_next ws ts e)
rest_led ws l ts e well is h =
    led_to (state ws l) l ts e (tokens_after ws ts) is
    (behind_led ws l ts well (before_of ws l ts h))

-- the result of a phrase, by whether its first token is accepted
abbrev next_if : Bool → Phrase → Placed → List Placed → Draft → Next
next_if b ws p ts e =
    (if b then tokens_after ws ts else Err (misplaced p.line)) >>? λ rest. Ok (e, rest)

-- a phrase whose first token is accepted
pub first_led : (x y : State) (w : Want) (ws : Phrase) (p : Placed) (after : List Placed)
    (e : Draft) → takes w p.token ≡ true → step x p.token ≡ Some y
    → Led y after (phrase_next ws after e)
    → Led x (p ∷ after) (phrase_next (Needs w ws) (p ∷ after) e)
first_led x y w ws p after e fits is h =
    let led = then_led x y p after (phrase_next ws after e) is h in
    subst (λ (b : Bool). Led x (p ∷ after) (next_if b ws p after e)) (sym fits) led

abbrev pub is_end_token : Token → Bool
is_end_token token.End = true
is_end_token t = false

pub past : (t : Token) (p : Placed) (ts : List Placed) → p.token ≡ t → is_end_token t ≡ false
    → HasEnd (p ∷ ts) → HasEnd ts
past t p ts is no_end (inl end) =
    let wrong : true ≡ false = ap is_end_token (sym end ∙ is) ∙ no_end in absurd cc
past t p ts is no_end (inr later) = later

-- a phrase that begins with a word
pub phrase_led : (k : Keyword) (ws : Phrase) (l m : Place) (p : Placed) (after : List Placed)
    (e : Draft) → p.token ≡ token.Keyword k → place_step l (token.Keyword k) ≡ Some (state ws m)
    → state_of e ≡ state Ends m → ends_well (is_end m) ws ≡ true → HasEnd (p ∷ after)
    → Led (state Ends l) (p ∷ after) (phrase_next (Needs (want.Keyword k) ws) (p ∷ after) e)
phrase_led k ws l m p after e is goes there well h =
    let word = ap (takes (want.Keyword k)) is ∙ same_word k in
    let rest = rest_led ws m after e well there (past (token.Keyword k) p after is refl h) in
    first_led (state Ends l) (state ws m) (want.Keyword k) ws p after e word
    (ap (place_step l) is ∙ goes) rest

-- one token
pub token_led : (t : Token) (l m : Place) (p : Placed) (after : List Placed) (e : Draft)
    → p.token ≡ t → place_step l t ≡ Some (state Ends m) → state_of e ≡ state Ends m
    → is_end_token t ≡ false → HasEnd (p ∷ after) → Led (state Ends l) (p ∷ after) (Ok (e, after))
token_led t l m p after e is goes there no_end h =
    then_led (state Ends l) (state Ends m) p after (Ok (e, after)) (ap (place_step l) is ∙ goes)
    (arrived e (state Ends m) after there (past t p after is no_end h))

pub stopped_at : (t : Token) (l : Place) (p : Placed) (after : List Placed) → p.token ≡ t
    → place_step l t ≡ None → IsStuck (state Ends l) (p ∷ after) (misplaced p.line)
stopped_at t l p after is stop = stopped (state Ends l) p after (ap (place_step l) is ∙ stop)
