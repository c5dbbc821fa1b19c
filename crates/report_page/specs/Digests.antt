-- Whether a digest is that of what is in place, or of what a step found or left.
use Rattle.std.specs.Prelude.{ℕ, List, Bool, ◌||◌, Option, Some, None, false, String}
use Rattle.std.specs.Prelude.{string_bytes}
use Rattle.std.specs.List.{list_any}
use Rattle.std.specs.Str.{bytes_eq}
use Rattle.std.specs.declared.alloc.Global.{Global}
use Rattle.report_page.specs.declared.folder.FolderDigests.{FolderDigests}

abbrev pub is_text : List ℕ → String Global → Bool
is_text wanted text = bytes_eq (string_bytes text) wanted

abbrev pub is_given : List ℕ → Option (String Global) → Bool
is_given wanted (Some text) = is_text wanted text
is_given wanted None = false

abbrev pub has_digest : FolderDigests → List ℕ → Bool
has_digest known digest =
    is_given digest known.in_place || list_any (is_text digest) known.left.items
