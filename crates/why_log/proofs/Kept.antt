-- Lines of a machine are kept, step after step.
use Rattle.std.proofs.Common.{◌≡◌, ℕ, List, [], ◌∷◌, ◌++◌, All, subst, sym, take, drop}
use Rattle.std.proofs.lemmas.List.Elements.{All-append, All-cons, All-nil, All-tail}
use Rattle.std.specs.List.{remove}
use Rattle.serde_json.specs.Data.{Data}
use Rattle.why_log.specs.Found.{AreOf, IsJson, IsLineOf, IsSent, Keeps}
use Rattle.why_log.specs.declared.finding.FoundLine.{FoundLine}
use Rattle.why_log.specs.declared.finding.FoundLines.{FoundLines}
use Rattle.why_log.specs.declared.machine.Machine.{Machine}

pub keeps_all : (machine : Machine) (found : FoundLines) → Keeps machine found found
keeps_all machine found = record { keeps = λ are. are }

pub keeps_both : (machine : Machine) (old between new : FoundLines) → Keeps machine old between
    → Keeps machine between new → Keeps machine old new
keeps_both machine old between new first next = record {
  keeps = λ are. next.keeps (first.keeps are);
}

pub keeps_none : (machine : Machine) (none found : FoundLines) → none.lines.items ≡ []
    → Keeps machine none found → AreOf machine found
keeps_none machine none found empty keeps =
    keeps.keeps (record {
      each = subst (All (IsLineOf machine)) (sym empty)
          (All-nil (IsLineOf machine));
    })

pub keeps_same : (machine : Machine) (old new : FoundLines) → old.lines.items ≡ new.lines.items
    → Keeps machine old new
keeps_same machine old new same = record {
  keeps = λ are. record { each = subst (All (IsLineOf machine)) same are.each };
}

-- ---- one more line

all_but_first : {X : Type 0} (P : X → Type 0) (xs : List X) → All P xs
    → All P (take 0 xs ++ drop 1 xs)
all_but_first P [] each = each
all_but_first P (x ∷ xs) each = All-tail P x xs each

module _ (machine : Machine) (line : FoundLine) (bytes : List ℕ) (event : Data)
    (copied : line.bytes.items ≡ bytes) (json_is : IsJson bytes event)
    (sent : IsSent machine event) where
  is_line : IsLineOf machine line
  is_line = record {
    event = event;
    json_is = subst (λ (b : List ℕ). IsJson b event) (sym copied) json_is;
    of_machine = sent;
  }

  more : (old : FoundLines) (between : List FoundLine) → between ≡ old.lines.items ++ line ∷ []
      → AreOf machine old → All (IsLineOf machine) between
  more old between pushed are =
      subst (All (IsLineOf machine)) (sym pushed)
      (All-append (IsLineOf machine) old.lines.items (line ∷ []) are.each
      (All-cons (IsLineOf machine) line [] is_line (All-nil (IsLineOf machine))))

  pub keeps_pushed : (old new : FoundLines) → new.lines.items ≡ old.lines.items ++ line ∷ []
      → Keeps machine old new
  keeps_pushed old new pushed = record {
    keeps = λ are. record { each = more old new.lines.items pushed are };
  }

  pub keeps_newest : (old new : FoundLines) (between : List FoundLine)
      → between ≡ old.lines.items ++ line ∷ [] → new.lines.items ≡ remove between 0
      → Keeps machine old new
  keeps_newest old new between pushed removed = record {
    keeps = λ are. record {
      each = subst (All (IsLineOf machine)) (sym removed)
          (all_but_first (IsLineOf machine) between (more old between pushed are));
    };
  }
