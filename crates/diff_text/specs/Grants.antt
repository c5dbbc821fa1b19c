-- How many takes of a run a cell grants, in words. The rule language has none for it.
use Rattle.std.specs.Prelude.{◌≡◌, ℕ, List, [], ◌∷◌, ◌++◌, codes, decimal, Option, Some, None}
use Rattle.std.specs.Prelude.{Bool, true, false, ◌==◌, ◌&&◌, not, nat_le, slice_get, if◌then◌else◌}
use Rattle.std.specs.List.{AllZip, list_all, list_any}
use Rattle.attrs.specs.Attributes.{Attributes}
use Rattle.cells.specs.declared.array.CellArray.{CellArray}
use Rattle.rule_lang.specs.Shapes.{array_named}
use Rattle.diff_space.specs.Coordinates.{Dimension, cell_in, number_of}
use Rattle.diff_space.specs.Machines.{State}
use Rattle.diff_space.specs.Scopes.{IsWithin, Scope}
use Rattle.diff_space.specs.declared.coordinate.Coordinate.TheVariants.{Takes}
use Rattle.diff_rules.specs.Rows.{SegmentSet, has_segment}
use Rattle.diff_text.specs.declared.intervals.NumberRange.{NumberRange}

-- ---- numbers

abbrev pub has_number : NumberRange → ℕ → Bool
has_number r n = nat_le r.low n && nat_le n r.high

abbrev pub have_number : List NumberRange → ℕ → Bool
have_number ranges n = list_any (λ r. has_number r n) ranges

-- some numbers of the dimension
abbrev pub is_range : Dimension → NumberRange → Bool
is_range d r = nat_le r.low r.high && nat_le r.high d.last

-- one of the ranges has the number of a machine in a state exactly if the set has its cell
pub record AreRangesOf (x : Scope) (d : Dimension) (set : SegmentSet) (ranges : List NumberRange)
    : Type 0 where
  pub each : list_all (is_range d) ranges ≡ true
  pub are : (a : Attributes) (g : State) → IsWithin x a g
      → have_number ranges (number_of d a g) ≡ has_segment set.segments (cell_in d a g)

-- ---- words

-- takes that are left, of at most `most`
abbrev pub left_text : (most : ℕ) → NumberRange → List ℕ
left_text most r =
    if r.high == 0 then codes " used up"
    else if (r.low == 1) && (r.high == most) then codes " open"
    else if r.low == r.high then codes " with " ++ decimal r.low ++ codes " left"
    else if r.high == most then codes " with " ++ decimal r.low ++ codes " or more left"
    else codes " with " ++ decimal r.low ++ codes " to " ++ decimal r.high ++ codes " left"

abbrev pub same_number : Option ℕ → Option ℕ → Bool
same_number None None = true
same_number (Some m) (Some n) = m == n
same_number m n = false

-- an array of this name is declared in another way
abbrev pub differs : Option CellArray → CellArray → Bool
differs (Some a) b = not ((a.length == b.length) && same_number a.quota b.quota)
differs None b = false

-- which manifest declares the array so, if both declare its name and not alike
abbrev pub side_text : (old new : List CellArray) → CellArray → List ℕ
side_text old new a =
    if differs (array_named a.name old) a then codes " of NEW"
    else if differs (array_named a.name new) a then codes " of OLD" else []

module _ (old new : List CellArray) where
  abbrev pub cell_text : CellArray → (index : ℕ) → List ℕ
  cell_text a index =
      a.name ++ codes "[" ++ decimal index ++ codes "]" ++ side_text old new a

  -- a cell with takes that are left
  abbrev pub grant_text : CellArray → (index most : ℕ) → NumberRange → List ℕ
  grant_text a index most r = cell_text a index ++ left_text most r

  -- ranges after the first one
  abbrev pub or_texts : CellArray → (index most : ℕ) → List NumberRange → List ℕ
  or_texts a index most [] = []
  or_texts a index most (r ∷ rs) =
      codes " or " ++ grant_text a index most r ++ or_texts a index most rs

  -- several ranges are in parentheses
  abbrev pub grants_text : CellArray → (index most : ℕ) → List NumberRange → List ℕ
  grants_text a index most [] = []
  grants_text a index most (r ∷ []) = grant_text a index most r
  grants_text a index most (r ∷ s ∷ rs) =
      codes "(" ++ grant_text a index most r ++ or_texts a index most (s ∷ rs) ++ codes ")"

  -- the words of ranges of a dimension's numbers
  pub record IsTextOf (d : Dimension) (ranges : List NumberRange) (text : List ℕ) : Type 0 where
    pub array : CellArray
    pub index : ℕ
    pub of : d.of ≡ Takes array index
    pub text_is : text ≡ grants_text array index d.last ranges

  -- the words of a set of cells that grant takes
  pub record IsGrantText (x : Scope) (ds : List Dimension) (set : SegmentSet) (text : List ℕ)
      : Type 0 where
    pub dimension : Dimension
    pub is_at : slice_get ds set.dimension ≡ Some dimension
    pub ranges : List NumberRange
    pub are : AreRangesOf x dimension set ranges
    pub text_is : IsTextOf dimension ranges text

  -- one text for each set
  abbrev pub AreGrantTexts : Scope → List Dimension → List SegmentSet → List (List ℕ) → Type 0
  AreGrantTexts x ds sets texts = AllZip (IsGrantText x ds) sets texts
