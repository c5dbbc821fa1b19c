-- Writing the parts one by one writes the whole.
use Rattle.std.proofs.Common.{◌≡◌, ◌∙◌, sym, ap, ℕ, List, [], ◌++◌, append_assoc}
use Rattle.std.proofs.Common.{append-nil}
use Rattle.std.specs.Prelude.{codes}
use Rattle.server_metrics.specs.Servers.{generation_metric, halted_metric, lines_metrics}
use Rattle.server_metrics.specs.Servers.{ruleset_metric, word_in}
use Rattle.server_replies.specs.Replies.{path_of_load}

-- after one more part, and at the end
pub one_further : (o part rest new whole : List ℕ) → new ≡ o ++ part → o ++ (part ++ rest) ≡ whole
    → new ++ rest ≡ whole
one_further o part rest new whole grown is =
    ap (λ (t : List ℕ). t ++ rest) grown ∙ append_assoc o part rest ∙ is

pub at_end : (o whole : List ℕ) → o ++ [] ≡ whole → o ≡ whole
at_end o whole is = sym (append-nil o) ∙ is

-- the metrics of a state, from its words
pub state_put : (lines : List (List ℕ)) (digits digest loaded path o m n whole : List ℕ)
    → digits ≡ word_in (codes "generation") lines → digest ≡ word_in (codes "digest") lines
    → loaded ≡ word_in (codes "loaded") lines → path ≡ path_of_load loaded
    → m ≡ o ++ generation_metric digits → n ≡ m ++ ruleset_metric digest path
    → whole ≡ n ++ halted_metric lines → whole ≡ o ++ lines_metrics lines
state_put lines digits digest loaded path o m n whole digits_are digest_is loaded_is path_is first
    mid last =
    let a = generation_metric (word_in (codes "generation") lines) in
    let b = ruleset_metric (word_in (codes "digest") lines)
    (path_of_load (word_in (codes "loaded") lines)) in
    let c = halted_metric lines in
    let one : m ≡ o ++ a = first ∙ ap (λ (t : List ℕ). o ++ generation_metric t) digits_are in
    let two : n ≡ m ++ b = mid ∙ ap (λ (t : List ℕ). m ++ ruleset_metric t path) digest_is
    ∙ ap (λ (t : List ℕ). m ++ ruleset_metric (word_in (codes "digest") lines) t)
    (path_is ∙ ap path_of_load loaded_is) in
    last
    ∙ ap (λ (t : List ℕ). t ++ c) (two ∙ ap (λ (t : List ℕ). t ++ b) one ∙ append_assoc o a b)
    ∙ append_assoc o (a ++ b) c
