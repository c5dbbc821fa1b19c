use Rattle.std.proofs.Common.{rules, ◌≡◌, ◌∷◌, Some, None, Option}
use Rattle.bpf_text.specs.declared.token.AsmToken.{AsmToken}
use Rattle.bpf_text.specs.Names.{token_named}
use Rattle.bpf_text.specs.Tokens.{Name, pieces, token_of}
use Rattle.bpf_text.proofs.Tokenizing.{piece_at, token_more, token_missing}
use Rattle.bpf_text.proofs.token.read_tokens.Goals as goal

pub returns-in_default-token_of : goal.returns-in_default-token_of
returns-in_default-token_of c =
    let rest = c.loop-first.rest.now in
    let front = c.split_at.result.0.now in
    let back = c.split_at.result.1.now in
    let whole : rest ≡ c.in-Some.first.now ∷ c.in-Some.after.now = search rules in
    let first : pieces rest ≡ front ∷ pieces back = piece_at rest c.in-Some.after.now front back
    c.in-Some.first.now c.piece_length.result whole (search rules)
    (search rules) c.piece_length.ensures.is c.split_at.ensures.front c.split_at.ensures.back in
    let missing : ◌≡◌ {A = Option (AsmToken Name)} None (token_of front) = search rules in
    token_missing c.args.line.now rest front back c.loop-first.tokens.items c.loop-first.invariant
    first missing

pub loop-first-preserved : goal.loop-first-preserved
loop-first-preserved c =
    let rest = c.loop-first.rest.now in
    let front = c.split_at.result.0.now in
    let back = c.split_at.result.1.now in
    let token = c.in-Some-token_of.token in
    let whole : rest ≡ c.in-Some.first.now ∷ c.in-Some.after.now = search rules in
    let first : pieces rest ≡ front ∷ pieces back = piece_at rest c.in-Some.after.now front back
    c.in-Some.first.now c.piece_length.result whole (search rules)
    (search rules) c.piece_length.ensures.is c.split_at.ensures.front c.split_at.ensures.back in
    let found : ◌≡◌ {A = Option (AsmToken Name)} (Some (token_named token)) (token_of front) =
    search rules in
    token_more c.args.line.now rest front back c.loop-first.tokens.items c.push.new.self.items token
    c.loop-first.invariant first found (search rules)
