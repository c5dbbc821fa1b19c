use Rattle.std.proofs.Common.{◌≡◌, ◌++◌, map, length, option_map}
use Rattle.bpf_text.specs.Names.{token_named}
use Rattle.bpf_text.specs.Tokens.{tokens_of}
use Rattle.bpf_text.proofs.token.read_tokens.Given as goal

abbrev pub invariant-loop-first : goal.invariant-loop-first
invariant-loop-first l =
    tokens_of l.line ≡ option_map (λ ts. map token_named l.tokens.items ++ ts) (tokens_of l.rest)

abbrev pub decreases-loop-first : goal.decreases-loop-first
decreases-loop-first l = length l.rest
