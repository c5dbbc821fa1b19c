-- How reading a file that a manifest names changes the count of unreadable files.
use Rattle.std.specs.Prelude.{◌≡◌, ℕ, ◌+◌, Result, Ok, Err}
use Rattle.bounded_files.specs.declared.resource_fault.ResourceFault.{ResourceFault}
use Rattle.bounded_files.specs.declared.resource_fault.ResourceFault.TheVariants.{File, Memory}

-- a file that couldn't be read is counted
abbrev pub CountsUnread : {X : Type 0} → ℕ → ℕ → Result X ResourceFault → Type 0
CountsUnread old new (Err File) = new ≡ old + 1
CountsUnread old new (Err Memory) = new ≡ old
CountsUnread old new (Ok read) = new ≡ old
