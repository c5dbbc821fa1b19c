-- The lines of a state, appended one after another, are its text.
use Rattle.std.proofs.Common.{◌≡◌, ◌∙◌, ℕ, List, ◌++◌, ap, flat_map, codes}
use Rattle.operator.specs.Control.{Controlled, LastLoad}
use Rattle.operator.specs.Texts.{generation_line, halted_line, load_text, state_text}

pub state_written : (c : Controlled) (generation : ℕ) (load : LastLoad) (halted : List (List ℕ))
    (first second third all : List ℕ)
    → generation ≡ c.publishing.latest.generation → load ≡ c.last → halted ≡ c.halted
    → first ≡ generation_line generation
    → second ≡ first ++ load_text load
    → third ≡ second ++ flat_map halted_line halted
    → all ≡ third ++ codes "end\n"
    → all ≡ state_text c
state_written c generation load halted first second third all n l h one two three four =
    four
    ∙ ap (λ (t : List ℕ). t ++ codes "end\n") (three
    ∙ ap (λ (t : List ℕ). t ++ flat_map halted_line halted) (two
    ∙ ap (λ (t : List ℕ). t ++ load_text load) (one ∙ ap generation_line n)
    ∙ ap (λ (k : LastLoad). generation_line c.publishing.latest.generation ++ load_text k) l)
    ∙ ap (λ (a : List (List ℕ)). generation_line c.publishing.latest.generation
    ++ load_text c.last ++ flat_map halted_line a) h)
