-- The contents of a file are the counters with which a server opens.
use Rattle.std.proofs.Common.{◌≡◌, ◌∙◌, ℕ, List, Bool, ap, map}
use Rattle.std.specs.Prelude.{string_bytes}
use Rattle.cells.specs.declared.array.CellArray.{CellArray}
use Rattle.counters_file.specs.Text.{Contents}
use Rattle.server_counters.specs.Counters.{contents_with}
use Rattle.server_counters.specs.declared.counters.Counters.{Counters}

abbrev contents : Bool → (halted : List (List ℕ)) → List CellArray → (values : List ℕ) → Contents
contents was_stopped halted arrays values = record {
  was_stopped = was_stopped;
  halted = halted;
  counters = record { arrays = arrays; values = values };
}

-- the parts of contents are their counters
pub same_contents : (k : Contents) (c : Counters) → map string_bytes c.halted.items ≡ k.halted
    → c.directory ≡ k.counters.arrays → c.values.items ≡ k.counters.values
    → contents_with k.was_stopped c ≡ k
same_contents k c halted arrays values =
    ap (λ (h : List (List ℕ)). contents k.was_stopped h c.directory c.values.items) halted
    ∙ ap (λ (a : List CellArray). contents k.was_stopped k.halted a c.values.items) arrays
    ∙ ap (λ (v : List ℕ). contents k.was_stopped k.halted k.counters.arrays v) values
