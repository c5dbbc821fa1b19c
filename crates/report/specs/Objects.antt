-- The outermost objects of a JSON text (RFC 8259), byte by byte. The text may be cut.
use Rattle.std.specs.Prelude.{ℕ, ◌+◌, ◌-◌, List, [], ◌∷◌, ◌++◌, nat_lt, Bool, ◌&&◌, ◌==◌}
use Rattle.std.specs.Prelude.{if◌then◌else◌}
use Rattle.std.specs.Str.{byte}
use Rattle.report.specs.Tallies.{capped}
use Rattle.report.specs.declared.objects.JsonPart.{JsonPart}
use Rattle.report.specs.declared.objects.JsonPart.TheVariants.{Plain, Quoted, Escaped}
use Rattle.report.specs.declared.objects.ObjectReader.{ObjectReader}

-- the part of a text after a byte: outside of strings, in one, or after a backslash in one
abbrev pub part_after : JsonPart → ℕ → JsonPart
part_after Plain b = if b == byte "\"" then Quoted else Plain
part_after Quoted b =
    if b == byte "\"" then Plain else if b == byte "\\" then Escaped else Quoted
part_after Escaped b = Quoted

-- how many objects are open after a byte
abbrev pub depth_after : JsonPart → (depth : ℕ) → ℕ → ℕ
depth_after Plain depth b =
    if b == byte "{" then capped (depth + 1) else if b == byte "}" then depth - 1 else depth
depth_after Quoted depth b = depth
depth_after Escaped depth b = depth

-- what has been read of a text
pub record JsonPlace : Type 0 where
  pub part : JsonPart
  pub depth : ℕ
  -- the bytes of the outermost object so far
  pub object : List ℕ

abbrev pub json_place : ObjectReader → JsonPlace
json_place r = record { part = r.part; depth = r.depth; object = r.object.items }

abbrev pub json_start : JsonPlace
json_start = record { part = Plain; depth = 0; object = [] }

abbrev pub object_after : JsonPlace → ℕ → List ℕ
object_after p b = (if p.depth == 0 then [] else p.object) ++ b ∷ []

abbrev pub after_byte : JsonPlace → ℕ → JsonPlace
after_byte p b = record {
  part = part_after p.part b;
  depth = depth_after p.part p.depth b;
  object = object_after p b;
}

-- an outermost object ends with the last byte
abbrev pub closes_object : (before after : JsonPlace) → Bool
closes_object before after = nat_lt 0 before.depth && (after.depth == 0)
