-- Reading a slice at an index.
use Rattle.std.proofs.Common.{◌≡◌, ℕ, List, length, Option, Some, None, Bor, refl, sym}
use Rattle.std.proofs.lemmas.Option.{slice_get_past, slice_get_read}
use Rattle.std.specs.List.{slice_get}
use Rattle.std.specs.Prelude.{option_copied}
use Rattle.std.specs.Slice.{IsItemAt}

pub got_at : {X : Type 0} (xs : List X) (i : ℕ) (got : Option (Bor X)) → IsItemAt xs i got
    → option_copied got ≡ slice_get xs i
got_at xs i None is = sym (slice_get_past xs i is.3)
got_at xs i (Some x) is = sym (slice_get_read xs (length xs) i x.now refl is.3.0 is.1)
