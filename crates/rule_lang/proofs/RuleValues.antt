-- The reader makes the rule that its tokens spell.
use Rattle.std.proofs.Common.{◌≡◌, ℕ, List, [], ◌∷◌, ◌++◌, Option, Some, None, Ok, Err}
use Rattle.std.proofs.Common.{refl, sym, ap, ◌∙◌, subst, append_assoc, append-nil}
use Rattle.cells.specs.Arrays.{AppShape}
use Rattle.rule_lang.specs.declared.condition.Step.{Step}
use Rattle.rule_lang.specs.declared.draft.Mode.TheVariants as mode
use Rattle.rule_lang.specs.declared.rule_fault.RuleFault.{RuleFault}
use Rattle.rule_lang.specs.declared.frame.Frame.{Frame}
use Rattle.rule_lang.specs.declared.keyword.Keyword.TheVariants as keyword
use Rattle.rule_lang.specs.declared.phrase.Want.TheVariants as want
use Rattle.rule_lang.specs.declared.rule.Statement.{Statement}
use Rattle.rule_lang.specs.declared.rule.Statement.TheVariants.{When}
use Rattle.rule_lang.specs.Reader.Drafts.{Pending, begin, term_done, is_empty, or_step}
use Rattle.rule_lang.specs.Grammar as g
use Rattle.rule_lang.specs.Lexed.{Placed}
use Rattle.rule_lang.specs.Parts.{OrFault, ◌>>?◌, part, release}
use Rattle.rule_lang.specs.Phrases.{tokens_after, misplaced, count_phrase, offer_phrase}
use Rattle.rule_lang.specs.Phrases.{otherwise_phrase}
use Rattle.rule_lang.specs.Reader.Reading.{Draft, first_of, in_mode, with_condition}
use Rattle.rule_lang.specs.Reader.Reading.{counted, unless_noted, offered, statement_next}
use Rattle.rule_lang.specs.Reader.Reading.{operator_next}
use Rattle.rule_lang.specs.Reader.Reading.{offer_next, first_draft, verdict, Reads, ended}
use Rattle.rule_lang.specs.Values as spelled
use Rattle.rule_lang.specs.Values.{count_of, steps_of}
use Rattle.rule_lang.specs.Tokens.{Token}
use Rattle.rule_lang.specs.Trees.{Tree}
use Rattle.rule_lang.proofs.Takes.{token_is}
use Rattle.rule_lang.proofs.Keeping.{no_ok, mode_counted}
use Rattle.rule_lang.proofs.Noted.{Noted}
use Rattle.rule_lang.proofs.Adds.{AddsCond}
use Rattle.rule_lang.proofs.Machine.{tail}
use Rattle.rule_lang.proofs.TestValues.{going_on, first_taken}
use Rattle.rule_lang.proofs.Values.{IsAtCond}
use Rattle.rule_lang.proofs.ConditionValues.{cond_reads}

-- ---- statements

-- what a draft keeps of a statement
abbrev Stated : Option RuleFault → OrFault Statement → List Statement → Draft → Type 0
Stated (Some x) v before e = e.noted ≡ Some x
Stated None (Err x) before e = e.noted ≡ Some x
Stated None (Ok a) before e = (e.noted ≡ None) × (e.statements ≡ before ++ (a ∷ []))

record StatementReached (s : AppShape) (d : Draft) (ts : List Placed) (v : OrFault Statement)
    (rest : List Placed) : Type 0 where
  last : Draft
  place : last.mode ≡ mode.Statement
  stated : Stated d.noted v d.statements last
  back : (w : OrFault (List Statement)) → Reads s last rest w → Reads s d ts w

counted_stated : (d : Draft) (v : OrFault Statement) (o : Option RuleFault) → d.noted ≡ o
    → Stated o v d.statements (counted v d)
counted_stated d (Ok a) (Some x) is = is
counted_stated d (Ok a) None is = (is, refl)
counted_stated d (Err e) (Some x) is = ap (λ (o : Option RuleFault). first_of o e) is
counted_stated d (Err e) None is = ap (λ (o : Option RuleFault). first_of o e) is

count_back : (s : AppShape) (d : Draft) (ts rest : List Placed) → d.mode ≡ mode.Statement
    → tokens_after count_phrase ts ≡ Ok rest → (w : OrFault (List Statement))
    → Reads s (counted (count_of s ts) d) rest w → Reads s d ts w
count_back s d [] rest m h w k = absurd (no_ok (misplaced 0) rest h)
count_back s d (p ∷ ts) rest m h w k =
    let taken = first_taken (want.Keyword keyword.Count) (tail count_phrase) p ts rest h in
    let is = token_is keyword.Count p.token taken in
    let e = counted (count_of s (p ∷ ts)) d in
    going_on s d mode.Statement p ts (e, rest) w m refl (ap (λ (t : Token). statement_next s d t
    p.line (p ∷ ts) ts) is ∙ ap (λ (x : OrFault (List Placed)). x >>? λ us. Ok (e, us)) h) k

abbrev behind_offer : AppShape → Draft → List Placed → Draft
behind_offer s e ts = in_mode mode.Statement (offered (release s (part ts 1)) (with_condition
    (term_done e.condition) e))

offer_back : (s : AppShape) (d : Draft) (ts rest : List Placed) → d.mode ≡ mode.Operator
    → d.condition.below ≡ [] → tokens_after offer_phrase ts ≡ Ok rest
    → (w : OrFault (List Statement))
    → Reads s (behind_offer s d ts) rest w → Reads s d ts w
offer_back s d [] rest m below h w k = absurd (no_ok (misplaced 0) rest h)
offer_back s d (p ∷ ts) rest m below h w k =
    let taken = first_taken (want.Keyword keyword.Offer) (tail offer_phrase) p ts rest h in
    let is = token_is keyword.Offer p.token taken in
    let e = behind_offer s d (p ∷ ts) in
    going_on s d mode.Operator p ts (e, rest) w m refl (ap (λ (t : Token). operator_next s d t
    p.line (p ∷ ts) ts) is ∙ ap (λ (fs : List Frame). offer_next s d (is_empty fs) p.line (p ∷ ts))
    below ∙ ap (λ (x : OrFault (List Placed)). x >>? λ us. Ok (e, us)) h) k

unless_keeps : (o : Option RuleFault) (a : Statement) (d : Draft)
    → (unless_noted o a d).noted ≡ d.noted
unless_keeps None a d = refl
unless_keeps (Some x) a d = refl

unless_statements : (o : Option RuleFault) (a : Statement) (d : Draft) → o ≡ None
    → (unless_noted o a d).statements ≡ d.statements ++ (a ∷ [])
unless_statements None a d is = refl
unless_statements (Some x) a d is = absurd cc

fault_kept : (d : Draft) (r : OrFault ℕ) (p : Pending) (x : RuleFault) → d.noted ≡ Some x
    → (offered r (with_condition p d)).noted ≡ Some x
fault_kept d (Ok k) p x is = unless_keeps d.noted (When p.steps k) _ ∙ is
fault_kept d (Err y) p x is = ap (λ (o : Option RuleFault). first_of o y) is

-- the statement of a condition and its release
when_stated : (d : Draft) (r : OrFault ℕ) (c : Tree) (before : List Statement) → d.noted ≡ None
    → d.statements ≡ before → d.condition.steps ++ or_step d.condition.top ≡ steps_of c
    → Stated None (r >>? λ k. Ok (When (steps_of c) k)) before (in_mode mode.Statement (offered r
    (with_condition (term_done d.condition) d)))
when_stated d (Err y) c before clean same steps = ap (λ (o : Option RuleFault). first_of o y) clean
when_stated d (Ok k) c before clean same steps =
    let xs = d.condition.steps ++ or_step d.condition.top in (
      unless_keeps d.noted (When xs k) _ ∙ clean,
      unless_statements d.noted (When xs k) _ clean ∙ ap (λ (ys : List Statement). ys ++ (When xs k
          ∷ [])) same ∙ ap (λ (zs : List Step). before ++ (When zs k ∷ [])) steps,
    )

offer_stated : (o : Option RuleFault) (v : OrFault Tree) (r : OrFault ℕ) (d : Draft)
    (before : List Statement) → d.statements ≡ before → Noted o v (AddsCond begin) d
    → Stated o (v >>? λ c. r >>? λ k. Ok (When (steps_of c) k)) before (in_mode mode.Statement
    (offered r (with_condition (term_done d.condition) d)))
offer_stated (Some x) v r d before same h = fault_kept d r (term_done d.condition) x h
offer_stated None (Err x) r d before same h = fault_kept d r (term_done d.condition) x h
offer_stated None (Ok c) r d before same h = when_stated d r c before h.0 same h.1.steps

at_when : (d : Draft) → IsAtCond (in_mode mode.Fact (with_condition begin d)) 0
at_when d = record { place = refl; deep = λ none. refl; top = λ none. refl }

statement_reads : (s : AppShape) (d : Draft) {ts rest : List Placed} → (x : g.IsStatement ts rest)
    → d.mode ≡ mode.Statement → StatementReached s d ts (spelled.statement_value s x) rest
statement_reads s d (g.count {ts = ts} {rest = rest} h) m = record {
  last = counted (count_of s ts) d;
  place = mode_counted (count_of s ts) d ∙ m;
  stated = counted_stated d (count_of s ts) d.noted refl;
  back = λ w k. count_back s d ts rest m h w k;
}
statement_reads s d (g.when {p = p} {ts = ts} {mid = mid} {rest = rest} is c h) m =
    let inner = in_mode mode.Fact (with_condition begin d) in
    let r = cond_reads s 0 inner c (at_when d) in
    record {
      last = behind_offer s r.last mid;
      place = refl;
      stated = offer_stated d.noted (spelled.cond_value s 0 c) (release s (part mid 1)) r.last
          d.statements r.statements r.noted;
      back = λ w k. going_on s d mode.Statement p ts (inner, ts) w m refl (ap (λ (t : Token).
          statement_next s d t p.line (p ∷ ts) ts) is) (r.back w (offer_back s r.last mid rest
          r.place r.below h w k));
    }

-- ---- rules

otherwise_back : (s : AppShape) (d : Draft) (ts rest : List Placed) → d.mode ≡ mode.Statement
    → tokens_after otherwise_phrase ts ≡ Ok rest → (w : OrFault (List Statement))
    → Reads s (in_mode mode.Done d) rest w → Reads s d ts w
otherwise_back s d [] rest m h w k = absurd (no_ok (misplaced 0) rest h)
otherwise_back s d (p ∷ ts) rest m h w k =
    let word = want.Keyword keyword.Otherwise in
    let taken = first_taken word (tail otherwise_phrase) p ts rest h in
    let is = token_is keyword.Otherwise p.token taken in
    let e = in_mode mode.Done d in
    going_on s d mode.Statement p ts (e, rest) w m refl (ap (λ (t : Token). statement_next s d t
    p.line (p ∷ ts) ts) is ∙ ap (λ (x : OrFault (List Placed)). x >>? λ us. Ok (e, us)) h) k

-- the verdict, from a draft and the value of the rest
abbrev told : Option RuleFault → List Statement → OrFault (List Statement)
    → OrFault (List Statement)
told (Some x) before v = Err x
told None before (Err e) = Err e
told None before (Ok xs) = Ok (before ++ xs)

told_end : (d : Draft) (o : Option RuleFault) → verdict d o ≡ told o d.statements (Ok [])
told_end d (Some x) = refl
told_end d None = ap (λ (xs : List Statement). Ok xs) (sym (append-nil d.statements))

told_none : (e : Draft) (a : Statement) (before : List Statement) (w : OrFault (List Statement))
    → e.statements ≡ before ++ (a ∷ [])
    → told None e.statements w ≡ told None before (w >>? λ xs. Ok (a ∷ xs))
told_none e a before (Err x) is = refl
told_none e a before (Ok xs) is =
    ap (λ (ys : List Statement). Ok (ys ++ xs)) is
    ∙ ap (λ (ys : List Statement). Ok ys) (append_assoc before (a ∷ []) xs)

told_on : (o : Option RuleFault) (v : OrFault Statement) (w : OrFault (List Statement))
    (before : List Statement) (e : Draft) → Stated o v before e
    → told e.noted e.statements w ≡ told o before (v >>? λ a. w >>? λ xs. Ok (a ∷ xs))
told_on (Some x) v w before e h = ap (λ (o : Option RuleFault). told o e.statements w) h
told_on None (Err x) w before e h = ap (λ (o : Option RuleFault). told o e.statements w) h
told_on None (Ok a) w before e h =
    ap (λ (o : Option RuleFault). told o e.statements w) h.0 ∙ told_none e a before w h.1

rule_reads : (s : AppShape) (d : Draft) {ts : List Placed} → (r : g.IsRule ts)
    → d.mode ≡ mode.Statement → Reads s d ts (told d.noted d.statements (spelled.rule_value s r))
rule_reads s d (g.otherwise {ts = ts} {rest = rest} h) m =
    otherwise_back s d ts rest m h (told d.noted d.statements (Ok [])) (subst (λ (w : OrFault (List
    Statement)). Reads s (in_mode mode.Done d) rest w) (told_end (in_mode mode.Done d) d.noted)
    (ended refl))
rule_reads s d (g.stmt {ts = ts} x r) m =
    let first = statement_reads s d x m in
    let w = spelled.rule_value s r in
    let later = rule_reads s first.last r first.place in
    subst (λ (v : OrFault (List Statement)). Reads s d ts v)
    (told_on d.noted (spelled.statement_value s
    x) w d.statements first.last first.stated) (first.back (told first.last.noted
    first.last.statements w) later)

told_whole : (v : OrFault (List Statement)) → told None [] v ≡ v
told_whole (Ok xs) = refl
told_whole (Err e) = refl

pub rule_spelled : (s : AppShape) (ts : List Placed) (r : g.IsRule ts)
    → Reads s first_draft ts (spelled.rule_value s r)
rule_spelled s ts r =
    subst (λ (v : OrFault (List Statement)). Reads s first_draft ts v)
    (told_whole (spelled.rule_value s
    r)) (rule_reads s first_draft r refl)
