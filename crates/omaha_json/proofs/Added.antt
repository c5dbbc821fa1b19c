-- What a writer adds in two steps.
use Rattle.std.proofs.Common.{◌≡◌, List, ◌++◌, ap, append_assoc, sym, ◌∙◌}
use Rattle.json.specs.Token.{Token}
use Rattle.json.specs.Written.{Written}
use Rattle.serde_json.specs.Data.{Data, Items, item}
use Rattle.omaha_json.specs.Tokens.{Adds, tokens_of, item_tokens}

pub then_adds : {a b c : Written} {xs ys : List Token}
    → Adds a b xs → Adds b c ys → Adds a c (xs ++ ys)
then_adds {a} {b} {c} {xs} {ys} first last = record {
  before = last.before ∙ first.before;
  tokens = last.tokens ∙ ap (λ ts. ts ++ ys) first.tokens ∙ append_assoc a.tokens xs ys;
}

-- one more item of a list whose rest is still to be written
pub then_item : (old new total : List Token) (d : Data) (left rest : Items)
    → new ≡ old ++ tokens_of d → left ≡ item d rest → old ++ item_tokens left ≡ total
    → new ++ item_tokens rest ≡ total
then_item old new total d left rest new_is left_is so_far =
    ap (λ ts. ts ++ item_tokens rest) new_is
    ∙ append_assoc old (tokens_of d) (item_tokens rest)
    ∙ sym (ap (λ ds. old ++ item_tokens ds) left_is) ∙ so_far
