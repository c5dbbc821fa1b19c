-- The counts of a report and its course as JSON (RFC 8259).
use Rattle.std.specs.Prelude.{◌≡◌, ℕ, List, [], ◌∷◌, codes, Bool, IsSomeAnd, string_bytes}
use Rattle.std.specs.Prelude.{Option, Some, None, true, false, unwrap_or}
use Rattle.std.specs.List.{AllZip}
use Rattle.json_value.specs.Bytes.{json_of}
use Rattle.report.specs.LogEvents.{flag_in, list_in, number_in, text_in}
use Rattle.report.specs.Questions.{member_of}
use Rattle.report.specs.Tallies.{Rows}
use Rattle.report.specs.declared.counting.Report.{Report}
use Rattle.report.specs.declared.question.LineQuestion.TheVariants.{LoadDigest}
use Rattle.report.specs.declared.question.Question.{Question}
use Rattle.report.specs.declared.question.Question.TheVariants.{Line, Responses}
use Rattle.report.specs.declared.question.TheConstants.{QUESTIONS}
use Rattle.report.specs.declared.tally.Tally.{Tally}
use Rattle.report_state.specs.declared.course.Course.{Course}
use Rattle.report_state.specs.declared.course.CourseRows.{CourseRows}
use Rattle.serde_json.specs.Data.{Data, Items, no_items, item}
use Rattle.serde_json.specs.Find.{get}

-- ---- a table

-- the member of this name is the number
abbrev pub HasNumber : Data → List ℕ → ℕ → Type 0
HasNumber d name n = number_in name d ≡ Some n

-- {"count":472,"name":"editor\t2.1"}
pub record IsRow (d : Data) (name : List ℕ) (count : ℕ) : Type 0 where
  pub count_is : HasNumber d (codes "count") count
  pub name_is : text_in (codes "name") d ≡ Some name

-- all rows, in their order
abbrev pub AreRows : Items → Rows → Type 0
AreRows no_items [] = Unit {0}
AreRows no_items (row ∷ rows) = ⊥
AreRows (item d ds) [] = ⊥
AreRows (item d ds) (row ∷ rows) = IsRow d (string_bytes row.0) row.1 × AreRows ds rows

-- {"limit":256,"others":0,"rows":[..]}
pub record IsTable (t : Tally) (d : Data) : Type 0 where
  pub limit : HasNumber d (codes "limit") t.limit
  pub others : HasNumber d (codes "others") t.others
  pub rows : IsSomeAnd (list_in (codes "rows") d) (λ ds. AreRows ds t.rows.entries)

-- nothing is counted
pub record IsUnused (t : Tally) : Type 0 where
  pub limit : t.limit ≡ 256
  pub others : t.others ≡ 0
  pub rows : AreRows no_items t.rows.entries

-- a state of an earlier version lacks these tables
abbrev pub may_lack : Question → Bool
may_lack Responses = true
may_lack (Line LoadDigest) = true
may_lack question = false

-- the table, or nothing is counted if it may be missing
abbrev pub IsTableIf : (may_be_missing : Bool) → Option Data → Tally → Type 0
IsTableIf may_be_missing (Some d) t = IsTable t d
IsTableIf true None t = IsUnused t
IsTableIf false None t = ⊥

-- the member of the question's name is the table
abbrev pub HasTable : Data → Question → Tally → Type 0
HasTable d question t = IsTableIf (may_lack question) (get (member_of question) d) t

-- ---- the counts

pub record HasNumbers (d : Data) (r : Report) : Type 0 where
  pub lines : HasNumber d (codes "lines") r.lines
  pub foreign : HasNumber d (codes "foreign") r.foreign
  pub lost : HasNumber d (codes "lost") r.lost
  pub left_out : HasNumber d (codes "left_out") r.left_out
  pub offers_left_out : HasNumber d (codes "offers_left_out") r.offers_left_out
  -- a state of an earlier version has none
  pub longest_wait : unwrap_or (number_in (codes "longest_wait") d) 0 ≡ r.longest_wait

abbrev pub IsDrawn : Data → Bool → Type 0
IsDrawn d drawn = flag_in (codes "drawn") d ≡ Some drawn

-- the table of each question by its name
abbrev pub HasTables : Data → List Question → List Tally → Type 0
HasTables d questions tallies = AllZip (λ question t. HasTable d question t) questions tallies

pub record IsReport (r : Report) (d : Data) : Type 0 where
  pub numbers : HasNumbers d r
  pub drawn : IsDrawn d r.drawn
  pub tables : HasTables d QUESTIONS r.tallies.items

-- {"counts":{..},"logs":[..]}
abbrev pub HasCounts : Report → Data → Type 0
HasCounts r d = IsSomeAnd (get (codes "counts") d) (IsReport r)

-- the bytes of a state spell these counts
abbrev pub SpellsCounts : List ℕ → Report → Type 0
SpellsCounts bytes r = IsSomeAnd (json_of bytes) (HasCounts r)

-- ---- the course

-- {"from":29400000,"limit":65536,"others":0,"rows":[..]}
pub record IsCourseRows (rows : CourseRows) (d : Data) : Type 0 where
  pub from : HasNumber d (codes "from") rows.from
  pub table : IsTable rows.tally d

abbrev pub HasCourseRows : Data → List ℕ → CourseRows → Type 0
HasCourseRows d name rows = IsSomeAnd (get name d) (IsCourseRows rows)

-- {"hours":{..},"minutes":{..}}
pub record IsCourse (course : Course) (d : Data) : Type 0 where
  pub minutes : HasCourseRows d (codes "minutes") course.minutes
  pub hours : HasCourseRows d (codes "hours") course.hours

-- a state without a course has no such member
abbrev pub HasCourse : Option Course → Data → Type 0
HasCourse (Some course) d = IsSomeAnd (get (codes "course") d) (IsCourse course)
HasCourse None d = get (codes "course") d ≡ None

abbrev pub SpellsCourse : List ℕ → Option Course → Type 0
SpellsCourse bytes course = IsSomeAnd (json_of bytes) (HasCourse course)
