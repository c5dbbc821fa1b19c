-- What a writer of JSON has written.
use Rattle.std.specs.Prelude.{◌≡◌, List, [], ◌∷◌, ◌++◌, ⊤}
use Rattle.json.specs.Print.{IsPrintable}
use Rattle.json.specs.Token.{Token}
use Rattle.json.specs.Tree.{json_tokens, items_tokens, members_tokens}
use Rattle.json.specs.Written.{Written}
use Rattle.serde_json.specs.Data.{Data, Items, Members}
use Rattle.serde_json.specs.Written.{outline, items_outline, members_outline}

abbrev pub tokens_of : Data → List Token
tokens_of d = json_tokens (outline d)

-- the tokens of the items, and the bracket that closes them
abbrev pub item_tokens : Items → List Token
item_tokens ds = items_tokens (items_outline ds)

-- the tokens of the members, and the brace that closes them
abbrev pub member_tokens : Members → List Token
member_tokens ms = members_tokens (members_outline ms)

-- the writer has appended these tokens
pub record Adds (old new : Written) (more : List Token) : Type 0 where
  pub before : new.before ≡ old.before
  pub tokens : new.tokens ≡ old.tokens ++ more

-- each token is one that a text can have
abbrev pub AreWritable : List Token → Type 0
AreWritable [] = ⊤
AreWritable (token ∷ rest) = IsPrintable token × AreWritable rest
