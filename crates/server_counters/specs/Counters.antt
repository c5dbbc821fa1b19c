-- The counters with which a server opens, and which it leaves.
use Rattle.std.specs.Prelude.{◌≡◌, ℕ, List, [], Bool, Option, Some, None, Ok, map, string_bytes}
use Rattle.cells.specs.Events.{AreZeros}
use Rattle.counters_file.specs.Text.{Contents, contents_in}
use Rattle.server_counters.specs.declared.counters.Counters.{Counters}

-- counters as the contents of a file
abbrev pub contents_with : (was_stopped : Bool) → Counters → Contents
contents_with was_stopped c = record {
  was_stopped = was_stopped;
  halted = map string_bytes c.halted.items;
  counters = record { arrays = c.directory; values = c.values.items };
}

-- a server opens with what the file says, whether its server was stopped or not; or without a file
-- with no halted app, no arrays and zeros
abbrev pub OpensFrom : Option (List ℕ) → Counters → Type 0
OpensFrom (Some text) c =
    (was_stopped : Bool) × (contents_in text ≡ Ok (contents_with was_stopped c))
OpensFrom None c = (c.halted.items ≡ []) × (c.directory ≡ []) × AreZeros 8192 c.values.items
