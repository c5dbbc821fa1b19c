-- The steps of a draft form one tree for each waiting operand.
use Rattle.std.proofs.Common.{◌≡◌, ℕ, suc, zero, ◌+◌, List, [], ◌∷◌, ◌++◌, length, replicate}
use Rattle.std.proofs.Common.{Option, Some, None, Bool, true, false, if◌then◌else◌, refl, sym, ap}
use Rattle.std.proofs.Common.{◌∙◌, arith, append_assoc, append-nil, subst}
use Rattle.std.specs.Option.{option_and_then}
use Rattle.rule_lang.specs.declared.condition.Step.{Step}
use Rattle.rule_lang.specs.declared.condition.Step.TheVariants as step
use Rattle.rule_lang.specs.declared.test.Test.{Test}
use Rattle.rule_lang.specs.Reader.Drafts.{Pending, and_step, or_step, fact_done}
use Rattle.rule_lang.specs.Reader.Sound.{HasTrees, one_if, all_waiting, IsSoundAfter}
use Rattle.rule_lang.specs.Trees.{Tree, Leaf, Negated, Both, Either, with_step, trees_from}
use Rattle.rule_lang.specs.Trees.{IsCondition}

trees_by : (xs ys : List Step) (o : Option (List Tree)) → ((us : List Tree)
    → trees_from us (xs ++ ys) ≡ option_and_then (λ vs. trees_from vs ys) (trees_from us xs))
    → option_and_then (λ us. trees_from us (xs ++ ys)) o ≡ option_and_then (λ vs. trees_from vs
    ys) (option_and_then (λ us. trees_from us xs) o)
trees_by xs ys None h = refl
trees_by xs ys (Some us) h = h us

trees_append : (xs ys : List Step) (ts : List Tree)
    → trees_from ts (xs ++ ys) ≡ option_and_then (λ us. trees_from us ys) (trees_from ts xs)
trees_append [] ys ts = refl
trees_append (s ∷ xs) ys ts = trees_by xs ys (with_step s ts) (λ us. trees_append xs ys us)

-- trees, followed by more steps
more : (xs ys : List Step) (ts us : List Tree) → trees_from [] xs ≡ Some ts
    → trees_from ts ys ≡ Some us → trees_from [] (xs ++ ys) ≡ Some us
more xs ys ts us h e = trees_append xs ys [] ∙ ap (option_and_then (λ vs. trees_from vs ys)) h ∙ e

pub recount : (xs : List Step) (n m : ℕ) → n ≡ m → HasTrees xs n → HasTrees xs m
recount xs n m e h = record { trees = h.trees; made = h.made; count = h.count ∙ e }

pub test_added : (xs : List Step) (n line : ℕ) (t : Test) → HasTrees xs n
    → HasTrees (xs ++ (step.Test line t ∷ [])) (1 + n)
test_added xs n line t h = record {
  trees = Leaf line t ∷ h.trees;
  made = more xs (step.Test line t ∷ []) h.trees (Leaf line t ∷ h.trees) h.made refl;
  count = let e = h.count in omega (arith, e);
}

not_on : (xs : List Step) (n : ℕ) (ts : List Tree) → trees_from [] xs ≡ Some ts
    → length ts ≡ 1 + n → HasTrees (xs ++ (step.Not ∷ [])) (1 + n)
not_on xs n [] h e = absurd (omega (arith, e))
not_on xs n (c ∷ ts) h e = record {
  trees = Negated c ∷ ts;
  made = more xs (step.Not ∷ []) (c ∷ ts) (Negated c ∷ ts) h refl;
  count = e;
}

nothing_added : (xs : List Step) (n : ℕ) → HasTrees xs n → HasTrees (xs ++ []) n
nothing_added xs n h = subst (λ (ys : List Step). HasTrees ys n) (sym (append-nil xs)) h

nots_added : (xs : List Step) (n k : ℕ) → HasTrees xs (1 + n)
    → HasTrees (xs ++ replicate k step.Not) (1 + n)
nots_added xs n zero h = nothing_added xs (1 + n) h
nots_added xs n (suc k) h =
    let first = not_on xs n h.trees h.made h.count in
    subst (λ (ys : List Step). HasTrees ys (1 + n)) (append_assoc xs (step.Not ∷ []) (replicate k
    step.Not)) (nots_added (xs ++ (step.Not ∷ [])) n k first)

and_on : (xs : List Step) (n : ℕ) (ts : List Tree) → trees_from [] xs ≡ Some ts
    → length ts ≡ 2 + n → HasTrees (xs ++ (step.And ∷ [])) (1 + n)
and_on xs n [] h e = absurd (omega (arith, e))
and_on xs n (b ∷ []) h e = absurd (omega (arith, e))
and_on xs n (b ∷ a ∷ ts) h e = record {
  trees = Both a b ∷ ts;
  made = more xs (step.And ∷ []) (b ∷ a ∷ ts) (Both a b ∷ ts) h refl;
  count = omega (arith, e);
}

or_on : (xs : List Step) (n : ℕ) (ts : List Tree) → trees_from [] xs ≡ Some ts
    → length ts ≡ 2 + n → HasTrees (xs ++ (step.Or ∷ [])) (1 + n)
or_on xs n [] h e = absurd (omega (arith, e))
or_on xs n (b ∷ []) h e = absurd (omega (arith, e))
or_on xs n (b ∷ a ∷ ts) h e = record {
  trees = Either a b ∷ ts;
  made = more xs (step.Or ∷ []) (b ∷ a ∷ ts) (Either a b ∷ ts) h refl;
  count = omega (arith, e);
}

-- the end of an `and` or an `or`
and_ended : (xs : List Step) (b : Bool) (m : ℕ) → HasTrees xs (1 + (one_if b + m))
    → HasTrees (xs ++ (if b then step.And ∷ [] else [])) (1 + m)
and_ended xs true m h = let e = h.count in and_on xs m h.trees h.made (omega (arith, e))
and_ended xs false m h = nothing_added xs (1 + m) (recount xs (1 + (0 + m)) (1 + m) (omega arith) h)

pub or_ended : (xs : List Step) (b : Bool) (m : ℕ) → HasTrees xs (1 + (one_if b + m))
    → HasTrees (xs ++ (if b then step.Or ∷ [] else [])) (1 + m)
or_ended xs true m h = let e = h.count in or_on xs m h.trees h.made (omega (arith, e))
or_ended xs false m h = nothing_added xs (1 + m) (recount xs (1 + (0 + m)) (1 + m) (omega arith) h)

pub fact_sound : (p : Pending) → HasTrees p.steps (1 + all_waiting (p.top ∷ p.below))
    → IsSoundAfter (fact_done p)
fact_sound p h =
    let w = all_waiting p.below in
    let o = one_if p.top.or in
    let with_nots = nots_added p.steps (all_waiting (p.top ∷ p.below)) p.top.nots h in
    let split = recount (p.steps ++ replicate p.top.nots step.Not) (1 + all_waiting (p.top ∷
    p.below)) (1 + (one_if p.top.and + (o + w))) (omega arith) with_nots in
    let joined = and_ended (p.steps ++ replicate p.top.nots step.Not) p.top.and (o + w) split in
    record {
      joined = refl;
      trees = recount ((p.steps ++ replicate p.top.nots step.Not) ++ and_step p.top) (1 + (o +
          w)) (1 + ((0 + o) + w)) (omega arith) joined;
    }

one_tree : (xs : List Step) (ts : List Tree) → trees_from [] xs ≡ Some ts → length ts ≡ 1
    → IsCondition xs
one_tree xs [] h e = absurd (omega (arith, e))
one_tree xs (c ∷ []) h e = (c, h)
one_tree xs (c ∷ b ∷ ts) h e = absurd (omega (arith, e))

-- a complete condition
pub ends_whole : (p : Pending) → IsSoundAfter p → p.below ≡ []
    → IsCondition (p.steps ++ or_step p.top)
ends_whole p h empty =
    let o = one_if p.top.or in
    let none : all_waiting p.below ≡ 0 = ap all_waiting empty in
    let no_and : one_if p.top.and ≡ 0 = ap one_if h.joined in
    let whole = or_ended p.steps p.top.or 0 (recount p.steps (1 + all_waiting (p.top ∷ p.below))
    (1 + (o + 0)) (omega (arith, none, no_and)) h.trees) in
    let count = whole.count in
    one_tree (p.steps ++ or_step p.top) whole.trees whole.made (omega (arith, count))
