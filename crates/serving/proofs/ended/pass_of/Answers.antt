use Rattle.std.proofs.Common.{◌≤◌, arith}
use Rattle.std.proofs.lemmas.Bool.{leb-true}
use Rattle.serving.proofs.Ending.{reads_published}
use Rattle.serving.proofs.ended.pass_of.Goals as goal

pub returns-in-Ok-clause-prefix : goal.returns-in-Ok-clause-prefix
returns-in-Ok-clause-prefix c = λ known.
    let newest = c.in-Ok.ensures.newest in
    let size = c.requires.generation in
    let less : c.in-Ok.seen ≤ c.args.generation = leb-true _ _ known in
    reads_published c.generations_monotone.ensures.begins _ _ _ _ _ _ c.learn.ensures.onwards
    c.learn.ensures.noticed c.in-Ok.ensures.onwards newest (omega (arith, size, less))
