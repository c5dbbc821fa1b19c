-- A condition that is read up to some token: its steps so far, and the frames with operators that
-- wait for a right side. A step is written as soon as its operands are complete.
use Rattle.std.specs.Prelude.{◌≡◌, ℕ, ◌+◌, ◌-◌, List, [], ◌∷◌, ◌++◌, replicate, Option, Some, None}
use Rattle.std.specs.Prelude.{Bool, true, false, nat_lt, if◌then◌else◌, Result, Ok, Err}
use Rattle.std.specs.declared.alloc.AllocError.{AllocError}
use Rattle.rule_lang.specs.declared.condition.Step.{Step}
use Rattle.rule_lang.specs.declared.condition.Step.TheVariants.{Not, And, Or}
use Rattle.rule_lang.specs.declared.frame.Frame.{Frame}

-- a condition: the frames around it, the innermost first, and its own
pub record Pending : Type 0 where
  pub steps : List Step
  pub below : List Frame
  pub top : Frame
  pub depth : ℕ

abbrev pub frame : ℕ → Bool → Bool → Frame
frame nots both either = record { nots = nots; and = both; or = either }

abbrev pub first_frame : Frame
first_frame = frame 0 false false

abbrev pub Pops : List Frame → Option Frame → List Frame → Type 0
Pops fs None rest = (fs ≡ []) × (rest ≡ [])
Pops fs (Some f) rest = fs ≡ f ∷ rest

abbrev pub is_empty : List Frame → Bool
is_empty [] = true
is_empty (f ∷ fs) = false

-- ---- steps to write

abbrev pub and_step : Frame → List Step
and_step f = if f.and then And ∷ [] else []

abbrev pub or_step : Frame → List Step
or_step f = if f.or then Or ∷ [] else []

-- `not` and parentheses are at most 32 deep
abbrev pub deeper : ℕ → ℕ
deeper n = if nat_lt n 32 then n + 1 else n

-- a fact is complete: writes the `not`s before it, and the `and` that it ends
abbrev pub fact_done : Pending → Pending
fact_done p = record {
  steps = (p.steps ++ replicate p.top.nots Not) ++ and_step p.top;
  below = p.below;
  top = frame 0 false p.top.or;
  depth = p.depth - p.top.nots;
}

-- a term is complete: writes the `or` that it ends
abbrev pub term_done : Pending → Pending
term_done p = record {
  steps = p.steps ++ or_step p.top;
  below = p.below;
  top = p.top;
  depth = p.depth;
}

-- ---- the tokens of a condition

abbrev pub begin : Pending
begin = record { steps = []; below = []; top = first_frame; depth = 0 }

-- `not`
abbrev pub denied : Pending → Pending
denied p = record {
  steps = p.steps;
  below = p.below;
  top = frame (deeper p.top.nots) p.top.and p.top.or;
  depth = deeper p.depth;
}

-- `(`
abbrev pub opened : Pending → Pending
opened p = record {
  steps = p.steps;
  below = p.top ∷ p.below;
  top = first_frame;
  depth = deeper p.depth;
}

-- a test
abbrev pub tested : Step → Pending → Pending
tested s p = fact_done (record {
  steps = p.steps ++ (s ∷ []);
  below = p.below;
  top = p.top;
  depth = p.depth;
})

-- `and`
abbrev pub joined : Pending → Pending
joined p = record {
  steps = p.steps;
  below = p.below;
  top = frame p.top.nots true p.top.or;
  depth = p.depth;
}

-- `or`
abbrev pub parted : Pending → Pending
parted p = record {
  steps = p.steps ++ or_step p.top;
  below = p.below;
  top = frame p.top.nots p.top.and true;
  depth = p.depth;
}

-- `)`, which returns to the enclosing condition
abbrev pub closed_to : Pending → List Frame → Option Pending
closed_to p [] = None
closed_to p (f ∷ fs) = Some (fact_done (record {
  steps = p.steps ++ or_step p.top;
  below = fs;
  top = f;
  depth = p.depth - 1;
}))

abbrev pub closed : Pending → Option Pending
closed p = closed_to p p.below

-- ---- results of calls

abbrev pub Closes : Pending → Result Bool AllocError → Pending → Type 0
Closes p (Ok true) q = closed p ≡ Some q
Closes p (Ok false) q = closed p ≡ None
Closes p (Err e) q = Unit {0}

abbrev pub Finishes : Pending → Result Bool AllocError → Pending → Type 0
Finishes p (Ok true) q = (p.below ≡ []) × (q ≡ term_done p)
Finishes p (Ok false) q = is_empty p.below ≡ false
Finishes p (Err e) q = Unit {0}
