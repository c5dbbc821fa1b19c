-- The effect of each phrase of a condition on its steps.
use Rattle.std.proofs.Common.{◌≡◌, ℕ, suc, ◌+◌, ◌-◌, List, [], ◌∷◌, ◌++◌, replicate}
use Rattle.std.proofs.Common.{Bool, true, false, if◌then◌else◌}
use Rattle.std.proofs.Common.{sym, ap, ◌∙◌, append_assoc, append-nil, arith}
use Rattle.rule_lang.specs.declared.condition.Step.{Step}
use Rattle.rule_lang.specs.declared.condition.Step.TheVariants as step
use Rattle.rule_lang.specs.declared.frame.Frame.{Frame}
use Rattle.rule_lang.specs.Reader.Drafts.{Pending, frame, and_step, or_step}
use Rattle.rule_lang.specs.Values.{steps_of}
use Rattle.rule_lang.specs.Trees.{Tree, Negated, Both, Either}

-- ---- effects of phrases

pub record AddsFact (p : Pending) (c : Tree) (q : Pending) : Type 0 where
  pub steps : q.steps ≡ ((p.steps ++ steps_of c) ++ replicate p.top.nots step.Not) ++ and_step p.top
  pub top : q.top ≡ frame 0 false p.top.or
  pub depth : q.depth ≡ p.depth - p.top.nots

pub record AddsTerm (p : Pending) (c : Tree) (q : Pending) : Type 0 where
  pub steps : q.steps ≡ p.steps ++ steps_of c
  pub top : q.top ≡ frame 0 false p.top.or
  pub depth : q.depth ≡ p.depth

pub record AddsCond (p : Pending) (c : Tree) (q : Pending) : Type 0 where
  pub steps : q.steps ++ or_step q.top ≡ p.steps ++ steps_of c
  pub nots : q.top.nots ≡ 0
  pub both : q.top.and ≡ false
  pub depth : q.depth ≡ p.depth

-- `not` and its operand
pub negated : (p q r : Pending) (c : Tree) → q.steps ≡ p.steps → q.top ≡ frame (p.top.nots + 1)
    p.top.and p.top.or → q.depth ≡ p.depth + 1 → AddsFact q c r → AddsFact p (Negated c) r
negated p q r c steps top depth h =
    let nots : q.top.nots ≡ suc p.top.nots = ap (λ (f : Frame). f.nots) top ∙ omega arith in
    let more = replicate p.top.nots step.Not in
    record {
      steps = h.steps
          ∙ ap (λ (xs : List Step). ((xs ++ steps_of c) ++ replicate q.top.nots step.Not)
          ++ and_step
          q.top) steps
          ∙ ap (λ (n : ℕ). ((p.steps ++ steps_of c) ++ replicate n step.Not) ++ and_step q.top) nots
          ∙ ap (λ (f : Frame). ((p.steps ++ steps_of c) ++ (step.Not ∷ more)) ++ and_step f) top
          ∙ ap (λ (xs : List Step). xs ++ and_step p.top) (sym (append_assoc (p.steps ++ steps_of c)
          (step.Not ∷ []) more) ∙ ap (λ (xs : List Step). xs ++ more) (append_assoc p.steps
          (steps_of c) (step.Not ∷ [])));
      top = h.top ∙ ap (λ (f : Frame). frame 0 false f.or) top;
      depth = let a = h.depth in omega (arith, a, depth, nots);
    }

no_ands : (b : Bool) → b ≡ false → (if b then step.And ∷ [] else []) ≡ []
no_ands b h = ap (λ (t : Bool). if t then step.And ∷ [] else []) h

pub one_fact : (p q : Pending) (c : Tree) → p.top.nots ≡ 0 → p.top.and ≡ false → AddsFact p c q
    → AddsTerm p c q
one_fact p q c nots none h = record {
  steps = h.steps
      ∙ ap (λ (n : ℕ). ((p.steps ++ steps_of c) ++ replicate n step.Not) ++ and_step p.top) nots
      ∙ ap (λ (xs : List Step). ((p.steps ++ steps_of c) ++ []) ++ xs) (no_ands p.top.and none)
      ∙ append-nil ((p.steps ++ steps_of c) ++ []) ∙ append-nil (p.steps ++ steps_of c);
  top = h.top;
  depth = let a = h.depth in omega (arith, a, nots);
}

-- a term, `and`, and a fact
pub two_facts : (p q j r : Pending) (a b : Tree) → AddsTerm p a q → j.steps ≡ q.steps
    → j.top ≡ frame q.top.nots true q.top.or → j.depth ≡ q.depth → AddsFact j b r
    → AddsTerm p (Both a b) r
two_facts p q j r a b h steps top depth k =
    let nots : j.top.nots ≡ 0 = ap (λ (f : Frame). f.nots) (top ∙ ap (λ (f : Frame). frame f.nots
    true f.or) h.top) in
    let sides = j.steps ++ steps_of b in
    record {
      steps = k.steps
          ∙ ap (λ (n : ℕ). (sides ++ replicate n step.Not) ++ and_step j.top) nots
          ∙ ap (λ (f : Frame). (sides ++ []) ++ and_step f) top
          ∙ ap (λ (xs : List Step). xs ++ (step.And ∷ [])) (append-nil sides
          ∙ ap (λ (xs : List Step). xs ++ steps_of b) (steps ∙ h.steps))
          ∙ ap (λ (xs : List Step). xs ++ (step.And ∷ [])) (append_assoc p.steps (steps_of a)
          (steps_of b))
          ∙ append_assoc p.steps (steps_of a ++ steps_of b) (step.And ∷ [])
          ∙ ap (λ (xs : List Step). p.steps ++ xs) (append_assoc (steps_of a) (steps_of b) (step.And
          ∷ []));
      top = k.top ∙ ap (λ (f : Frame). frame 0 false f.or) (top ∙ ap (λ (f : Frame). frame f.nots
          true f.or) h.top);
      depth = let x = h.depth in let y = k.depth in omega (arith, x, y, depth, nots);
    }

pub one_term : (p q : Pending) (c : Tree) → p.top.or ≡ false → AddsTerm p c q → AddsCond p c q
one_term p q c none h = record {
  steps = ap (λ (f : Frame). q.steps ++ or_step f) (h.top ∙ ap (λ (b : Bool). frame 0 false b) none)
      ∙ append-nil q.steps ∙ h.steps;
  nots = ap (λ (f : Frame). f.nots) h.top;
  both = ap (λ (f : Frame). f.and) h.top;
  depth = h.depth;
}

-- a condition, `or`, and a term
pub two_terms : (p q j r : Pending) (a b : Tree) → AddsCond p a q
    → j.steps ≡ q.steps ++ or_step q.top → j.top ≡ frame q.top.nots q.top.and true
    → j.depth ≡ q.depth → AddsTerm j b r → AddsCond p (Either a b) r
two_terms p q j r a b h steps top depth k =
    let last : r.top ≡ frame 0 false true = k.top ∙ ap (λ (f : Frame). frame 0 false f.or) top in
    record {
      steps = ap (λ (f : Frame). r.steps ++ or_step f) last
          ∙ ap (λ (xs : List Step). xs ++ (step.Or ∷ [])) (k.steps
          ∙ ap (λ (xs : List Step). xs ++ steps_of b) (steps ∙ h.steps)
          ∙ append_assoc p.steps (steps_of a) (steps_of b))
          ∙ append_assoc p.steps (steps_of a ++ steps_of b) (step.Or ∷ [])
          ∙ ap (λ (xs : List Step). p.steps ++ xs) (append_assoc (steps_of a) (steps_of b) (step.Or
          ∷
          []));
      nots = ap (λ (f : Frame). f.nots) last;
      both = ap (λ (f : Frame). f.and) last;
      depth = k.depth ∙ depth ∙ h.depth;
    }

-- a condition in parentheses
pub in_parentheses : (p o q r : Pending) (c : Tree) → o.steps ≡ p.steps → o.depth ≡ p.depth + 1
    → r.steps ≡ ((q.steps ++ or_step q.top) ++ replicate p.top.nots step.Not) ++ and_step p.top
    → r.top ≡ frame 0 false p.top.or → r.depth ≡ (q.depth - 1) - p.top.nots → AddsCond o c q
    → AddsFact p c r
in_parentheses p o q r c steps depth made top deep h = record {
  steps = made ∙ ap (λ (xs : List Step). (xs ++ replicate p.top.nots step.Not) ++ and_step p.top)
      (h.steps ∙ ap (λ (xs : List Step). xs ++ steps_of c) steps);
  top = top;
  depth = let a = h.depth in omega (arith, a, depth, deep);
}
