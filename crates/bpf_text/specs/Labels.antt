-- The map of labels, and its entry for a name.
use Rattle.std.specs.Prelude.{◌≡◌, ℕ, List, Option, Some, None, if◌then◌else◌}
use Rattle.std.specs.Borrow.{Bor}
use Rattle.std.specs.BTreeMap.{BTreeMap, get_by}
use Rattle.std.specs.Ordering.{nat_cmp}
use Rattle.std.specs.Cmp.Lexicographic.{slice_cmp}
use Rattle.std.specs.Str.{bytes_eq}
use Rattle.bpf_text.specs.Tokens.{Name}

abbrev pub Labels : Type 0
Labels = BTreeMap (Bor (List ℕ)) ℕ

abbrev pub slot_at : Labels → Name → Option ℕ
slot_at m name = get_by (λ k. slice_cmp nat_cmp name k.now) m

-- the entries once a label at slot s is added
abbrev pub labels_after : (Name → Option ℕ) → Option Name → ℕ → Name → Option ℕ
labels_after slot_of None s q = slot_of q
labels_after slot_of (Some name) s q = if bytes_eq name q then Some s else slot_of q

abbrev pub AddsLabel : Labels → Labels → Option Name → ℕ → Type 0
AddsLabel before after label s =
    (q : Name) → slot_at after q ≡ labels_after (slot_at before) label s q
