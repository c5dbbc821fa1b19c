-- The condition that the reader makes equals the tree of its tokens.
use Rattle.std.proofs.Common.{◌≡◌, ℕ, ◌+◌, List, ◌∷◌, Ok, refl, ap, ◌∙◌}
use Rattle.cells.specs.Arrays.{AppShape}
use Rattle.rule_lang.specs.declared.draft.Mode.TheVariants as mode
use Rattle.rule_lang.specs.declared.frame.Frame.{Frame}
use Rattle.rule_lang.specs.Reader.Drafts.{Pending}
use Rattle.rule_lang.specs.Grammar as g
use Rattle.rule_lang.specs.Lexed.{Placed}
use Rattle.rule_lang.specs.Parts.{◌>>?◌, out_of_range}
use Rattle.rule_lang.specs.Reader.Reading.{Draft, too_deep, fact_next, operator_next}
use Rattle.rule_lang.specs.Values as spelled
use Rattle.rule_lang.specs.Tokens.{Token}
use Rattle.rule_lang.specs.Trees.{Negated, Both, Either}
use Rattle.rule_lang.proofs.Noted.{readded, mapped, joined as both_noted, opener_noted, shallow}
use Rattle.rule_lang.proofs.Adds.{AddsFact, AddsTerm, AddsCond, one_fact, two_facts, one_term}
use Rattle.rule_lang.proofs.Adds.{two_terms, in_parentheses}
use Rattle.rule_lang.proofs.TestValues.{going_on, Reached, statements_noted, after_test, test_read}
use Rattle.rule_lang.proofs.TestValues.{asked_noted, below_tested, statements_tested}
use Rattle.rule_lang.proofs.Values.{IsAtCond, IsAtFact, IsAtTerm, at_and, at_not, at_open, at_or}
use Rattle.rule_lang.proofs.Values.{behind_and, behind_close, behind_not, behind_open, behind_or}
use Rattle.rule_lang.proofs.Values.{close_next, deep_not, fact_of_term, not_adds, same_condition}
use Rattle.rule_lang.proofs.Values.{term_of_cond}

-- ---- conditions

mutual
  fact_reads : (s : AppShape) (depth : ℕ) (d : Draft) {ts rest : List Placed}
      → (f : g.IsFact ts rest) → IsAtFact d depth
      → Reached s d ts (spelled.fact_value s depth f) (AddsFact d.condition) rest
  fact_reads s depth d (g.denied {p = p} {ts = ts} {rest = rest} is f) at =
      let inner = behind_not d p in
      let v = spelled.fact_value s (depth + 1) f in
      let r = fact_reads s (depth + 1) inner f (at_not d depth p at) in
      record {
        last = r.last;
        place = r.place;
        below = r.below ∙ ap (λ (c : Pending). c.below) (same_condition d p);
        statements = r.statements ∙ statements_noted (too_deep d) (out_of_range p) d;
        noted = opener_noted d depth p (v >>? λ c. Ok (Negated c)) (AddsFact d.condition) r.last
            at.deep (mapped inner.noted v (λ c. Negated c) (AddsFact inner.condition) (AddsFact
            d.condition) r.last (λ none c h. not_adds d depth p r.last.condition c at none h)
            r.noted);
        back = λ w k. going_on s d mode.Fact p ts (inner, ts) w at.place refl (ap (λ (t : Token).
            fact_next s d t p (p ∷ ts) ts) is) (r.back w k);
      }
  fact_reads s depth d (g.enclosed {p = p} {q = q} {ts = ts} {rest = rest} is c closes) at =
      let inner = behind_open d p in
      let same = same_condition d p in
      let v = spelled.cond_value s (depth + 1) c in
      let r = cond_reads s (depth + 1) inner c (at_open d depth p at) in
      let around : r.last.condition.below ≡ d.condition.top ∷ d.condition.below = r.below ∙ ap (λ (x
      : Pending). x.top ∷ x.below) same in
      let last = behind_close d.condition r.last in
      record {
        last = last;
        place = r.place;
        below = refl;
        statements = r.statements ∙ statements_noted (too_deep d) (out_of_range p) d;
        noted = opener_noted d depth p v (AddsFact d.condition) last at.deep (readded inner.noted v
            (AddsCond inner.condition) (AddsFact d.condition) r.last last refl (λ none t h.
            in_parentheses d.condition inner.condition r.last.condition last.condition t (ap (λ (x :
            Pending). x.steps) same) (deep_not d p (shallow d p none)) refl refl refl h) r.noted);
        back = λ w k. going_on s d mode.Fact p ts (inner, ts) w at.place refl (ap (λ (t : Token).
            fact_next s d t p (p ∷ ts) ts) is) (r.back w (going_on s r.last mode.Operator q rest
            (last, rest) w r.place refl (close_next s d.condition r.last q rest closes around) k));
      }
  fact_reads s depth d (g.leaf {p = p} {ts = ts} {rest = rest} t) at =
      let v = spelled.test_value s t in
      record {
        last = after_test d p.line v;
        place = refl;
        below = below_tested p.line v d;
        statements = statements_tested p.line v d;
        noted = asked_noted d p.line v d.noted refl;
        back = λ w k. going_on s d mode.Fact p ts (after_test d p.line v, rest) w at.place refl
            (test_read s d p ts rest t) k;
      }

  term_reads : (s : AppShape) (depth : ℕ) (d : Draft) {ts rest : List Placed}
      → (t : g.IsTerm ts rest) → IsAtTerm d depth
      → Reached s d ts (spelled.term_value s depth t) (AddsTerm d.condition) rest
  term_reads s depth d (g.fact f) at =
      let v = spelled.fact_value s depth f in
      let r = fact_reads s depth d f (fact_of_term d depth at) in
      record {
        last = r.last;
        place = r.place;
        below = r.below;
        statements = r.statements;
        noted = readded d.noted v (AddsFact d.condition) (AddsTerm d.condition) r.last r.last refl
            (λ none c h. one_fact d.condition r.last.condition c (at.nots none) (at.both none) h)
            r.noted;
        back = r.back;
      }
  term_reads s depth d (g.and_fact {p = p} {mid = mid} t is f) at =
      let v = spelled.term_value s depth t in
      let w = spelled.fact_value s depth f in
      let first = term_reads s depth d t at in
      let e = behind_and first.last in
      let r = fact_reads s depth e f (at_and d.noted v d.condition first.last depth at.deep
      first.noted) in
      record {
        last = r.last;
        place = r.place;
        below = r.below ∙ first.below;
        statements = r.statements ∙ first.statements;
        noted = both_noted d.noted v w (λ a b. Both a b) (AddsTerm d.condition) (AddsFact
            e.condition) (AddsTerm d.condition) first.last r.last (λ none a b h k. two_facts
            d.condition first.last.condition e.condition r.last.condition a b h refl refl refl k)
            first.noted r.noted;
        back = λ x k. first.back x (going_on s first.last mode.Operator p mid (e, mid) x first.place
            refl (ap (λ (u : Token). operator_next s first.last u p.line (p ∷ mid) mid) is) (r.back
            x k));
      }

  pub cond_reads : (s : AppShape) (depth : ℕ) (d : Draft) {ts rest : List Placed}
      → (c : g.IsCond ts rest) → IsAtCond d depth
      → Reached s d ts (spelled.cond_value s depth c) (AddsCond d.condition) rest
  cond_reads s depth d (g.term t) at =
      let v = spelled.term_value s depth t in
      let r = term_reads s depth d t (term_of_cond d depth at) in
      record {
        last = r.last;
        place = r.place;
        below = r.below;
        statements = r.statements;
        noted = readded d.noted v (AddsTerm d.condition) (AddsCond d.condition) r.last r.last refl
            (λ none c h. one_term d.condition r.last.condition c (ap (λ (f : Frame). f.or) (at.top
            none)) h) r.noted;
        back = r.back;
      }
  cond_reads s depth d (g.or_term {p = p} {mid = mid} c is t) at =
      let v = spelled.cond_value s depth c in
      let w = spelled.term_value s depth t in
      let first = cond_reads s depth d c at in
      let e = behind_or first.last in
      let r = term_reads s depth e t (at_or d.noted v d.condition first.last depth at.deep
      first.noted) in
      record {
        last = r.last;
        place = r.place;
        below = r.below ∙ first.below;
        statements = r.statements ∙ first.statements;
        noted = both_noted d.noted v w (λ a b. Either a b) (AddsCond d.condition) (AddsTerm
            e.condition) (AddsCond d.condition) first.last r.last (λ none a b h k. two_terms
            d.condition first.last.condition e.condition r.last.condition a b h refl refl refl k)
            first.noted r.noted;
        back = λ x k. first.back x (going_on s first.last mode.Operator p mid (e, mid) x first.place
            refl (ap (λ (u : Token). operator_next s first.last u p.line (p ∷ mid) mid) is) (r.back
            x k));
      }
