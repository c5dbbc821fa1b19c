-- The line of an instruction is read back as that instruction, with no label.
use Rattle.std.proofs.Common.{◌≡◌, ℕ, List, [], ◌∷◌, ◌++◌, Option, Some, None}
use Rattle.std.proofs.Common.{Ok, false, option_map, codes, refl, sym, ap, ◌∙◌, append_assoc}
use Rattle.std.proofs.lemmas.List.{append-nil}
use Rattle.bpf_insn.specs.declared.insn.Insn.{Insn}
use Rattle.bpf_insn.specs.Spelling.{IsEncodable}
use Rattle.bpf_text.specs.declared.argument.Argument as arguments
use Rattle.bpf_text.specs.declared.argument.Argument.TheVariants as argument
use Rattle.bpf_text.specs.declared.mnemonic.Mnemonic.{Mnemonic}
use Rattle.bpf_text.specs.declared.operand.Given.{Given}
use Rattle.bpf_text.specs.declared.operand.Given.TheVariants.{Argument}
use Rattle.bpf_text.specs.declared.three.UpToThree.{UpToThree}
use Rattle.bpf_text.specs.declared.token.AsmToken.TheVariants.{Word, Comma}
use Rattle.bpf_text.specs.Arguments.{mnemonic_of, arguments_of}
use Rattle.bpf_text.specs.Items.{Items, Tokens, items_of}
use Rattle.bpf_text.specs.Lines.{AsmStatement, Line, Body, body_of}
use Rattle.bpf_text.specs.Lines.{split_label, line_if_tokens, read_line}
use Rattle.bpf_text.specs.Listing.{argument_text, text_after, bare_line, line_of}
use Rattle.bpf_text.specs.Operands.{items_as}
use Rattle.bpf_text.specs.Signatures.{kinds_of}
use Rattle.bpf_text.specs.Tables.{tables}
use Rattle.bpf_text.specs.Three.{map_three}
use Rattle.bpf_text.specs.Tokens.{Name, word_goes_on, tokens_of}
use Rattle.bpf_text.specs.Words.{word_of}
use Rattle.bpf_text.proofs.Named.{is_named}
use Rattle.bpf_text.proofs.Lexing.{front, word_token, comma_token}
use Rattle.bpf_text.proofs.Arguments.{onto, tokens_of_argument, item_of_argument, argument_tokens}
use Rattle.bpf_text.proofs.Again.{HasShortOption, all_fit, is_short_if}
use Rattle.bpf_text.proofs.ReadAgain.{Nothing, Single, Pair, Triple, arguments_again, Shaped}
use Rattle.bpf_text.proofs.ReadAgain.{shape_of, behind, at_front, tokens_of_arguments, items_again}

-- ---- the line's text, grouped from its end

abbrev pub arguments_text : UpToThree arguments.Argument → List ℕ
arguments_text a = text_after (codes " ") a.first
    ++ (text_after (codes ", ") a.second ++ (text_after (codes ", ") a.third ++ []))

abbrev pub line_text : Insn → List ℕ
line_text i = word_of (mnemonic_of i) ++ arguments_text (arguments_of i)

regroup : (w a b c : List ℕ) → ((w ++ a) ++ b) ++ c ≡ w ++ (a ++ (b ++ (c ++ [])))
regroup w a b c =
    append_assoc (w ++ a) b c ∙ append_assoc w a (b ++ c)
    ∙ ap (λ (d : List ℕ). w ++ (a ++ (b ++ d))) (sym (append-nil c))

pub bare_is : (i : Insn) → bare_line i ≡ line_text i
bare_is i =
    regroup (word_of (mnemonic_of i)) (text_after (codes " ") ((arguments_of i).first))
    (text_after (codes ", ") ((arguments_of i).second))
    (text_after (codes ", ") ((arguments_of i).third))

pub line_ends : (i : Insn) → line_of i ≡ line_text i ++ (10 ∷ [])
line_ends i = ap (λ (t : List ℕ). t ++ (10 ∷ [])) (bare_is i)

-- ---- the numbers are short

pub record AreShort (a : UpToThree arguments.Argument) : Type 0 where
  pub first : HasShortOption a.first
  pub second : HasShortOption a.second
  pub third : HasShortOption a.third

pub are_short : (i : Insn) → IsEncodable i → AreShort (arguments_of i)
are_short i p =
    let h = all_fit i p in
    let k = kinds_of (mnemonic_of i) in
    let a = arguments_of i in
    record {
      first = is_short_if k.first a.first h.first;
      second = is_short_if k.second a.second h.second;
      third = is_short_if k.third a.third h.third;
    }

-- ---- its tokens

same_option : (o : Option Tokens) → o ≡ option_map (λ ts. ts) o
same_option None = refl
same_option (Some ts) = refl

comma_onto : (a : arguments.Argument) (o : Option Tokens)
    → front Comma (onto (tokens_of_argument a) o) ≡ option_map (behind (Some a)) o
comma_onto a None = refl
comma_onto a (Some ts) = refl

comma_tokens : (o : Option arguments.Argument) (rest : List ℕ)
    → HasShortOption o → word_goes_on rest ≡ false
    → tokens_of (text_after (codes ", ") o ++ rest) ≡ option_map (behind o) (tokens_of rest)
comma_tokens None rest short ends = same_option (tokens_of rest)
comma_tokens (Some a) rest short ends =
    comma_token (32 ∷ (argument_text a ++ rest))
    ∙ ap (front Comma) (argument_tokens a rest short ends) ∙ comma_onto a (tokens_of rest)

space_tokens : (o : Option arguments.Argument) (rest : List ℕ)
    → HasShortOption o → word_goes_on rest ≡ false
    → tokens_of (text_after (codes " ") o ++ rest) ≡ option_map (at_front o) (tokens_of rest)
space_tokens None rest short ends = same_option (tokens_of rest)
space_tokens (Some a) rest short ends = argument_tokens a rest short ends

comma_ends : (o : Option arguments.Argument) (rest : List ℕ) → word_goes_on rest ≡ false
    → word_goes_on (text_after (codes ", ") o ++ rest) ≡ false
comma_ends None rest h = h
comma_ends (Some a) rest h = refl

space_ends : (o : Option arguments.Argument) (rest : List ℕ) → word_goes_on rest ≡ false
    → word_goes_on (text_after (codes " ") o ++ rest) ≡ false
space_ends None rest h = h
space_ends (Some a) rest h = refl

arguments_tokens : (a : UpToThree arguments.Argument) → AreShort a
    → tokens_of (arguments_text a) ≡ Some (tokens_of_arguments a)
arguments_tokens a short =
    let last = text_after (codes ", ") a.third ++ [] in
    let more = text_after (codes ", ") a.second ++ last in
    let last_ends = comma_ends a.third [] refl in
    let more_ends = comma_ends a.second last last_ends in
    space_tokens a.first more short.first more_ends
    ∙ ap (option_map (at_front a.first))
    (comma_tokens a.second last short.second last_ends
    ∙ ap (option_map (behind a.second)) (comma_tokens a.third [] short.third refl))

line_tokens : (m : Mnemonic) (a : UpToThree arguments.Argument) → AreShort a
    → tokens_of (word_of m ++ arguments_text a) ≡ Some (Word (word_of m) ∷ tokens_of_arguments a)
line_tokens m a short =
    let last = text_after (codes ", ") a.third ++ [] in
    let more = text_after (codes ", ") a.second ++ last in
    let ends = space_ends a.first more (comma_ends a.second last (comma_ends a.third [] refl)) in
    word_token (word_of m) (arguments_text a) (is_named m).is_text ends
    ∙ ap (front (Word (word_of m))) (arguments_tokens a short)

-- ---- what is read from the tokens

no_colon : (w : Name) (a : arguments.Argument) (rest : Tokens)
    → split_label (Word w ∷ (tokens_of_argument a ++ rest)) ≡ (
      None,
      Word w ∷ (tokens_of_argument a ++ rest),
    )
no_colon w (argument.Register r) rest = refl
no_colon w a rest = refl

no_label : (w : Name) (a : UpToThree arguments.Argument) → Shaped a
    → split_label (Word w ∷ tokens_of_arguments a) ≡ (None, Word w ∷ tokens_of_arguments a)
no_label w _ Nothing = refl
no_label w _ (Single a) = no_colon w a []
no_label w _ (Pair a b) = no_colon w a (Comma ∷ (tokens_of_argument b ++ []))
no_label w _ (Triple a b c) =
    no_colon w a (Comma ∷ (tokens_of_argument b ++ (Comma ∷ (tokens_of_argument c ++ []))))

abbrev labelled : Option Name × Tokens → Line
labelled p = record { label = p.0; body = body_of tables p.1 }

-- the statement of an instruction
abbrev pub stated : Insn → AsmStatement
stated i = record { mnemonic = mnemonic_of i; arguments = map_three Argument (arguments_of i) }

body_again : (w : Name) (ts : Tokens) (m : Mnemonic) (items : Items) (a : UpToThree (Given Name))
    → tables.mnemonic_named w ≡ Some m → items_of ts ≡ Some items
    → items_as tables (kinds_of m) items ≡ Ok a
    → body_of tables (Word w ∷ ts) ≡ Ok (Some (record { mnemonic = m; arguments = a }))
body_again w ts m items a named some is = simp (named, some, is) refl

-- only the instruction, without a label
abbrev pub as_line : Insn → Line
as_line i = record { label = None; body = Ok (Some (stated i)) }

pub line_again : (i : Insn) → IsEncodable i → read_line tables (line_text i) ≡ as_line i
unfolding read_line
line_again i p =
    let m = mnemonic_of i in
    let a = arguments_of i in
    ap (line_if_tokens tables) (line_tokens m a (are_short i p))
    ∙ ap labelled (no_label (word_of m) a (shape_of i))
    ∙ ap (λ (b : Body). let l : Line = record { label = None; body = b } in l)
    (body_again (word_of m) (tokens_of_arguments a) m (map_three item_of_argument a)
    (map_three Argument a) (is_named m).found (items_again a (shape_of i))
    (arguments_again (kinds_of m) a (all_fit i p)))
