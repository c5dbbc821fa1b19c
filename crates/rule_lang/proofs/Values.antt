-- The reader makes the condition that its tokens spell.
use Rattle.std.proofs.Common.{◌≡◌, ℕ, ◌+◌, ◌-◌, ◌≤◌, List, ◌∷◌, ◌++◌, Option, None, Ok, true, false}
use Rattle.std.proofs.Common.{refl, sym, ap, ◌∙◌, subst, arith}
use Rattle.std.specs.Prelude.{nat_lt}
use Rattle.cells.specs.Arrays.{AppShape}
use Rattle.rule_lang.specs.declared.draft.Mode.TheVariants as mode
use Rattle.rule_lang.specs.declared.rule_fault.RuleFault.{RuleFault}
use Rattle.rule_lang.specs.declared.frame.Frame.{Frame}
use Rattle.rule_lang.specs.declared.token.Token.TheVariants as token
use Rattle.rule_lang.specs.Reader.Drafts.{Pending, frame, first_frame, denied, opened, joined}
use Rattle.rule_lang.specs.Reader.Drafts.{parted, closed_to, fact_done, or_step, deeper}
use Rattle.rule_lang.specs.Lexed.{Placed}
use Rattle.rule_lang.specs.Parts.{OrFault, out_of_range}
use Rattle.rule_lang.specs.Reader.Reading.{Draft, with_fault_if, in_mode, with_condition, too_deep}
use Rattle.rule_lang.specs.Reader.Reading.{closed_next, operator_next}
use Rattle.rule_lang.specs.Tokens.{Token}
use Rattle.rule_lang.specs.Trees.{Tree, Negated}
use Rattle.rule_lang.proofs.Keeping.{mode_noted}
use Rattle.rule_lang.proofs.Modes.{condition_noted}
use Rattle.rule_lang.proofs.Noted.{Noted, was_clean, IsShallow, shallow, one_deeper, nots_below}
use Rattle.rule_lang.proofs.Adds.{AddsFact, AddsTerm, AddsCond, negated}

-- ---- the start of a part of a condition

pub record IsAtFact (d : Draft) (depth : ℕ) : Type 0 where
  pub place : d.mode ≡ mode.Fact
  pub deep : d.noted ≡ None → d.condition.depth ≡ depth
  pub nots : d.noted ≡ None → d.condition.top.nots ≤ depth

pub record IsAtTerm (d : Draft) (depth : ℕ) : Type 0 where
  pub place : d.mode ≡ mode.Fact
  pub deep : d.noted ≡ None → d.condition.depth ≡ depth
  pub nots : d.noted ≡ None → d.condition.top.nots ≡ 0
  pub both : d.noted ≡ None → d.condition.top.and ≡ false

pub record IsAtCond (d : Draft) (depth : ℕ) : Type 0 where
  pub place : d.mode ≡ mode.Fact
  pub deep : d.noted ≡ None → d.condition.depth ≡ depth
  pub top : d.noted ≡ None → d.condition.top ≡ first_frame

pub fact_of_term : (d : Draft) (depth : ℕ) → IsAtTerm d depth → IsAtFact d depth
fact_of_term d depth h = record {
  place = h.place;
  deep = h.deep;
  nots = λ none. let zero_nots = h.nots none in omega (arith, zero_nots);
}

pub term_of_cond : (d : Draft) (depth : ℕ) → IsAtCond d depth → IsAtTerm d depth
term_of_cond d depth h = record {
  place = h.place;
  deep = h.deep;
  nots = λ none. ap (λ (f : Frame). f.nots) (h.top none);
  both = λ none. ap (λ (f : Frame). f.and) (h.top none);
}

-- ---- `not` and `(`

abbrev pub noted_opener : Draft → Placed → Draft
noted_opener d p = with_fault_if (too_deep d) (out_of_range p) d

abbrev pub behind_not : Draft → Placed → Draft
behind_not d p = with_condition (denied (noted_opener d p).condition) (noted_opener d p)

abbrev pub behind_open : Draft → Placed → Draft
behind_open d p = with_condition (opened (noted_opener d p).condition) (noted_opener d p)

pub same_condition : (d : Draft) (p : Placed) → (noted_opener d p).condition ≡ d.condition
same_condition d p = condition_noted (too_deep d) (out_of_range p) d

pub deep_not : (d : Draft) (p : Placed) → IsShallow d
    → (behind_not d p).condition.depth ≡ d.condition.depth + 1
deep_not d p h = ap (λ (c : Pending). deeper c.depth) (same_condition d p)
    ∙ one_deeper d.condition.depth h.below

nots_not : (d : Draft) (depth : ℕ) (p : Placed) → IsAtFact d depth → IsShallow d
    → (behind_not d p).condition.top.nots ≡ d.condition.top.nots + 1
nots_not d depth p at h =
    let same = at.deep h.clean in
    let few : nat_lt d.condition.top.nots 32 ≡ true = nots_below d.condition.top.nots
    d.condition.depth (subst (λ (n : ℕ). d.condition.top.nots ≤ n) (sym same) (at.nots h.clean))
    h.below in
    ap (λ (c : Pending). deeper c.top.nots) (same_condition d p)
    ∙ one_deeper d.condition.top.nots few

pub at_not : (d : Draft) (depth : ℕ) (p : Placed) → IsAtFact d depth
    → IsAtFact (behind_not d p) (depth + 1)
at_not d depth p at = record {
  place = mode_noted (too_deep d) (out_of_range p) d ∙ at.place;
  deep = λ none.
      let h = shallow d p none in
      deep_not d p h ∙ ap (λ (n : ℕ). n + 1) (at.deep h.clean);
  nots = λ none.
      let h = shallow d p none in
      let a = nots_not d depth p at h in
      let b = at.nots h.clean in
      omega (arith, a, b);
}

pub at_open : (d : Draft) (depth : ℕ) (p : Placed) → IsAtFact d depth
    → IsAtCond (behind_open d p) (depth + 1)
at_open d depth p at = record {
  place = mode_noted (too_deep d) (out_of_range p) d ∙ at.place;
  deep = λ none.
      let h = shallow d p none in
      deep_not d p h ∙ ap (λ (n : ℕ). n + 1) (at.deep h.clean);
  top = λ none. refl;
}

pub not_adds : (d : Draft) (depth : ℕ) (p : Placed) (q : Pending) (c : Tree) → IsAtFact d depth
    → (behind_not d p).noted ≡ None → AddsFact (behind_not d p).condition c q
    → AddsFact d.condition (Negated c) q
not_adds d depth p q c at none h =
    let low = shallow d p none in
    let same = same_condition d p in
    negated d.condition (behind_not d p).condition q c (ap (λ (x : Pending). x.steps) same) (ap (λ
    (n : ℕ). frame n (noted_opener d p).condition.top.and (noted_opener d p).condition.top.or)
    (nots_not d depth p at low) ∙ ap (λ (x : Pending). frame (d.condition.top.nots + 1) x.top.and
    x.top.or) same) (deep_not d p low) h

-- ---- the second operand, after `and` and `or`

abbrev pub behind_and : Draft → Draft
behind_and d = in_mode mode.Fact (with_condition (joined d.condition) d)

abbrev pub behind_or : Draft → Draft
behind_or d = in_mode mode.Fact (with_condition (parted d.condition) d)

pub at_and : (o : Option RuleFault) (v : OrFault Tree) (p : Pending) (d : Draft) (depth : ℕ)
    → (o ≡ None → p.depth ≡ depth) → Noted o v (AddsTerm p) d → IsAtFact (behind_and d) depth
at_and o v p d depth deep h = record {
  place = refl;
  deep = λ none. let w = was_clean o v (AddsTerm p) d none h in w.added.depth ∙ deep w.clean;
  nots = λ none.
      let w = was_clean o v (AddsTerm p) d none h in
      let zero_nots : d.condition.top.nots ≡ 0 = ap (λ (f : Frame). f.nots) w.added.top in
      omega (arith, zero_nots);
}

pub at_or : (o : Option RuleFault) (v : OrFault Tree) (p : Pending) (d : Draft) (depth : ℕ)
    → (o ≡ None → p.depth ≡ depth) → Noted o v (AddsCond p) d → IsAtTerm (behind_or d) depth
at_or o v p d depth deep h = record {
  place = refl;
  deep = λ none. let w = was_clean o v (AddsCond p) d none h in w.added.depth ∙ deep w.clean;
  nots = λ none. (was_clean o v (AddsCond p) d none h).added.nots;
  both = λ none. (was_clean o v (AddsCond p) d none h).added.both;
}

-- ---- `)`

abbrev pub behind_close : (p : Pending) → Draft → Draft
behind_close p e = with_condition (fact_done (record {
  steps = e.condition.steps ++ or_step e.condition.top;
  below = p.below;
  top = p.top;
  depth = e.condition.depth - 1;
})) e

pub close_next : (s : AppShape) (p : Pending) (e : Draft) (q : Placed) (rest : List Placed)
    → q.token ≡ token.Close → e.condition.below ≡ p.top ∷ p.below
    → operator_next s e q.token q.line (q ∷ rest) rest ≡ Ok (behind_close p e, rest)
close_next s p e q rest is below =
    ap (λ (t : Token). operator_next s e t q.line (q ∷ rest) rest) is
    ∙ ap (λ (fs : List Frame). closed_next (closed_to e.condition fs) e q.line rest) below
