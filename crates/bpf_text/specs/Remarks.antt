-- A listing with a remark at the end of each line, which the assembler skips.
use Rattle.std.specs.Prelude.{◌≡◌, ℕ, ◌≤◌, List, [], ◌∷◌, ◌++◌, length, map, codes}
use Rattle.std.specs.Prelude.{Bool, true, ◌&&◌, ◌||◌, ◌==◌, nat_le, Ok}
use Rattle.std.specs.List.{AllByRecursion, list_all}
use Rattle.bpf_insn.specs.declared.insn.Insn.{Insn}
use Rattle.bpf_insn.specs.Spelling.{IsEncodable}
use Rattle.bpf_insn.specs.Program.{encodings, layout}
use Rattle.bpf_text.specs.Assembly.{Assembles}
use Rattle.bpf_text.specs.Listing.{bare_line}
use Rattle.bpf_text.specs.Tokens.{is_blank}

-- blanks, followed by nothing or by a comment
abbrev pub is_blank_or_comment : List ℕ → Bool
is_blank_or_comment [] = true
is_blank_or_comment (c ∷ rest) = (c == 59) || (is_blank c && is_blank_or_comment rest)

-- the same, with no control character
pub record IsRemark (text : List ℕ) : Type 0 where
  pub skipped : is_blank_or_comment text ≡ true
  pub plain : list_all (λ c. nat_le 32 c) text ≡ true

-- an instruction, and the text after it
pub record RemarkedInsn : Type 0 where
  pub insn : Insn
  pub remark : List ℕ

-- a listing with a remark at the end of each line
abbrev pub remarked_listing : List RemarkedInsn → List ℕ
remarked_listing [] = []
remarked_listing (l ∷ ls) =
    bare_line l.insn ++ l.remark ++ codes "\n" ++ remarked_listing ls

abbrev pub insns_of : List RemarkedInsn → List Insn
insns_of ls = map (λ l. l.insn) ls

-- with any remarks, the listing of at most 4096 slots assembles to the same bytes
abbrev pub RemarksAreSkipped : List RemarkedInsn → Type 0
RemarksAreSkipped ls =
    AllByRecursion IsEncodable (insns_of ls) → AllByRecursion (λ l. IsRemark l.remark) ls
    → length (layout (insns_of ls)) ≤ 4096
    → Assembles (remarked_listing ls) (Ok (encodings (insns_of ls)))
