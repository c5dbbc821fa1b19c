-- What is known of a folder: its files by their names, and its records by their numbers.
use Rattle.std.specs.Prelude.{◌≡◌, ◌⊎◌, ◌↔◌, ℕ, ◌==◌, ◌≤◌, ◌+◌, ◌-◌, ◌^◌, List, Contains}
use Rattle.std.specs.Prelude.{Option, Some, None, option_map, IfSome, IsSome, if◌then◌else◌}
use Rattle.std.specs.Str.{bytes_eq}

-- the bytes of each file by its name; none if the file is missing
abbrev pub Folder : Type 0
Folder = List ℕ → Option (List ℕ)

-- all files of a folder in memory; nothing is known of a device's
abbrev pub KnownFolder : Type 0
KnownFolder = Option Folder

-- the folder in which the file of this name has these bytes, or isn't there
abbrev pub put : (name : List ℕ) → Option (List ℕ) → Folder → Folder
put name bytes folder = λ other. if bytes_eq other name then bytes else folder other

abbrev pub put_known : (name : List ℕ) → Option (List ℕ) → KnownFolder → KnownFolder
put_known name bytes known = option_map (put name bytes) known

-- a file of a known folder has these bytes, or isn't there
abbrev pub GivesFile : KnownFolder → (name : List ℕ) → Option (List ℕ) → Type 0
GivesFile known name found = IfSome known (λ folder. folder name ≡ found)

-- ---- records

-- the bytes of each record by its number
abbrev pub Records : Type 0
Records = ℕ → Option (List ℕ)

-- all records of a folder in memory; nothing is known of a device's
abbrev pub KnownRecords : Type 0
KnownRecords = Option Records

-- the records in which that of this number has these bytes
abbrev pub put_record : (number : ℕ) → List ℕ → Records → Records
put_record number bytes records = λ n. if n == number then Some bytes else records n

abbrev pub record_known : (number : ℕ) → List ℕ → KnownRecords → KnownRecords
record_known number bytes known = option_map (put_record number bytes) known

-- a record has these bytes, or isn't there
abbrev pub GivesRecord : KnownRecords → (number : ℕ) → Option (List ℕ) → Type 0
GivesRecord known number found = IfSome known (λ records. records number ≡ found)

-- these are the numbers of all records
abbrev pub GivesNumbers : KnownRecords → List ℕ → Type 0
GivesNumbers known numbers =
    IfSome known (λ records. (n : ℕ) → Contains numbers n ↔ IsSome (records n))

-- no record has this number, or a greater one
abbrev pub IsFree : KnownRecords → (number : ℕ) → Type 0
IsFree known number = IfSome known (λ records. (n : ℕ) → number ≤ n → records n ≡ None)

-- the number 1, or the one after such a number; none, if the greatest of 32 bits is one
abbrev pub Follows : (Is : ℕ → Type 0) → Option ℕ → Type 0
Follows Is (Some number) = (number ≡ 1) ⊎ ((last : ℕ) × Is last × (number ≡ last + 1))
Follows Is None = Is (2 ^ 32 - 1)

-- the same of the numbers of records
abbrev pub FollowsRecord : KnownRecords → Option ℕ → Type 0
FollowsRecord known number = IfSome known (λ records. Follows (λ n. IsSome (records n)) number)
