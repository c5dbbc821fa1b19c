-- From clap's clauses to the words of `specs/Words`: what a getter reads from an argument, and the
-- head of a grammar.
use Rattle.std.proofs.Common.{◌≡◌, ◌∙◌, sym, subst, ap, refl, ℕ, ◌<◌, ◌^◌, Option, Some, None}
use Rattle.std.proofs.Common.{List, true}
use Rattle.std.specs.Prelude.{Result, Ok, option_map}
use Rattle.std.specs.Borrow.{Bor}
use Rattle.std.specs.Str.Parse.{ParsesUnsigned, ExplainsUnsignedError, HasUnsignedDigitsIfOk}
use Rattle.std.specs.Str.Parse.{digits_value, without_leading_plus}
use Rattle.std.specs.declared.num.ParseIntError.{ParseIntError}
use Rattle.clap.specs.declared.parser.matches.Found.{Found}
use Rattle.clap.specs.declared.builder.command.Command.{Command}
use Rattle.clap.specs.declared.builder.command.Command.TheViews.{out-Command}
use Rattle.clap.specs.Matches.{ReadsOne}
use Rattle.clap.specs.Simple.{app_of_fields}
use Rattle.clap.specs.Words.{Text, App, Row, app_of, new_app, first_value, one_text, first_of}
use Rattle.clap.specs.Words.{rows_of}
use Rattle.clap.proofs.WalkLemmas.{first_value-rows, one_text-rows}
use Rattle.cli_base.specs.Grammar.{with_required}
use Rattle.cli_base.specs.Values.{HasNumber, HasText}

pub text_read : (f : Found) (id : Text) (r : Option (Bor Text))
    → option_map (λ s. s.now) r ≡ first_value f id
    → first_of id (rows_of f) ≡ option_map (λ s. s.now) r
text_read f id r is = sym (is ∙ first_value-rows f id)

pub text_is : (f : Found) (id : Text) (r : Option (Bor Text)) (t : Bor Text)
    → option_map (λ s. s.now) r ≡ first_value f id → r ≡ Some t
    → first_of id (rows_of f) ≡ Some t.now
text_is f id r t is some = text_read f id r is ∙ ap (option_map (λ s. s.now)) some

-- the result of `from_str` for an unsigned integer
abbrev pub Parses : ℕ → Text → Result ℕ ParseIntError → Type 0
Parses k t r = ParsesUnsigned k 10 t r × ExplainsUnsignedError 10 t r × HasUnsignedDigitsIfOk t r

pub number_read : (k : ℕ) (f : Found) (id : Text) (r : Option ℕ) (n : ℕ)
    → (one_text f id ≡ None → r ≡ None)
    → ((t : Text) → one_text f id ≡ Some t → ReadsOne (Parses k) t r) → r ≡ Some n
    → HasNumber id (rows_of f) n
number_read k f id r n none value is = of (one_text f id) refl
  where
    of : (o : Option Text) → one_text f id ≡ o → HasNumber id (rows_of f) n
    of None e = let bad : Some n ≡ None = sym is ∙ none e in cc
    of (Some t) e =
        let parsed : Parses k t (Ok n) =
        subst (λ (x : Option ℕ). ReadsOne (Parses k) t x) is (value t e) in
        (t, sym (one_text-rows f id) ∙ e, (parsed.0.0.0, parsed.0.1))

-- an option gives one number
pub one_number : (id : Text) (rows : List Row) (m n : ℕ) → HasNumber id rows m
    → HasNumber id rows n → m ≡ n
one_number id rows m n has_m has_n =
    let both : Some has_m.0 ≡ Some has_n.0 = sym has_m.1 ∙ has_n.1 in
    let digits : has_m.0 ≡ has_n.0 = cc in
    has_m.2.1 ∙ ap (λ (t : Text). digits_value 10 (without_leading_plus t)) digits
    ∙ sym has_n.2.1

pub number_same : (k : ℕ) (f : Found) (id : Text) (r : Option ℕ) (m n : ℕ)
    → (one_text f id ≡ None → r ≡ None)
    → ((t : Text) → one_text f id ≡ Some t → ReadsOne (Parses k) t r) → r ≡ Some m
    → HasNumber id (rows_of f) n → n ≡ m
number_same k f id r m n none value is has =
    one_number id (rows_of f) n m has (number_read k f id r m none value is)

pub number_missing : (k : ℕ) (f : Found) (id : Text) (r : Option ℕ) (n : ℕ)
    → (one_text f id ≡ None → r ≡ None)
    → ((t : Text) → one_text f id ≡ Some t → ReadsOne (Parses k) t r) → r ≡ None
    → n < 2 ^ k → HasNumber id (rows_of f) n → ⊥
number_missing k f id r n none value is small has =
    refused (subst (λ (o : Option ℕ). ReadsOne (Parses k) has.0 o) is
    (value has.0 (one_text-rows f id ∙ has.1)))
  where
    refused : ReadsOne (Parses k) has.0 None → ⊥
    refused read = read.1.0 (has.2.0, subst (λ (m : ℕ). m < 2 ^ k) has.2.1 small)

pub text_missing : (f : Found) (id : Text) (r : Option (Bor Text)) (t : Text)
    → option_map (λ s. s.now) r ≡ first_value f id → r ≡ None → HasText id (rows_of f) t → ⊥
text_missing f id r t is none has =
    let bad : Some t ≡ None = sym has ∙ text_read f id r is ∙ ap (option_map (λ s. s.now)) none in
    cc

pub required_top : (old mid new : Command) (name : Text) (help : Option (Bor Text))
    → app_of old ≡ new_app name → out-Command mid ≡ record (out-Command old) { help_str = help }
    → out-Command new ≡ record (out-Command mid) { subcommand_required = true }
    → app_of new ≡ with_required (new_app name)
required_top old mid new name help is_old is_mid is_new =
    ap app_of_fields is_new ∙ ap (λ (x : App). with_required x) (ap app_of_fields is_mid ∙ is_old)
