use Rattle.std.proofs.Common.{◌≡◌, List, Some, refl, subst}
use Rattle.load.specs.Digest.{digest_of}
use Rattle.load.specs.declared.sources.AppSources.{AppSources}
use Rattle.load.proofs.Making.{judged_of}
use Rattle.load.proofs.made.judge_sources.Goals as goal

pub returns-clause-judged : goal.returns-clause-judged
returns-clause-judged c =
    judged_of c.args.manifest.now c.args.sources _ refl refl refl c.join.ensures.sources
    c.join.ensures.judged
    (subst (λ (apps : List AppSources).
    digest_of c.args.manifest.now apps ≡ Some c.judged_digest-digest.result)
    c.deref-2.ensures.value c.judged_digest-digest.ensures)
