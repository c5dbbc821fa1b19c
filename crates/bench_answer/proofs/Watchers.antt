-- Workers that take a pass each.
use Rattle.std.proofs.Common.{◌≡◌, List, [], ◌∷◌, ◌++◌, All, Some}
use Rattle.std.proofs.lemmas.List.Elements.{All-same, All-push, All-pop}

-- a worker takes the last pass
pub one_worker : {P W : Type 0} (belongs : P → Type 0) (passes rest : List P) (pass : P)
    (workers more : List (P × W)) (watcher : W) → passes ≡ rest ++ pass ∷ []
    → more ≡ workers ++ (pass, watcher) ∷ []
    → All belongs passes × All (λ (w : P × W). belongs w.0) workers
    → All belongs rest × All (λ (w : P × W). belongs w.0) more
one_worker {P} {W} belongs passes rest pass workers more watcher split grown before =
    let popped = All-pop belongs passes rest (Some pass) split before.0 in
    let of_worker : P × W → Type 0 = λ w. belongs w.0 in (
      popped.0,
      All-same of_worker more (workers ++ (pass, watcher) ∷ []) grown
          (All-push of_worker workers (pass, watcher) before.1 popped.1),
    )
