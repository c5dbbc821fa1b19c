use Rattle.warnings.proofs.Counted.{tests_so}
use Rattle.warnings.proofs.So.{releases_so, versions_so, whens_so}
use Rattle.warnings.proofs.laws.warnings_sound.Goals as goal

pub returns : goal.returns
returns c = record {
  whens = whens_so;
  releases = releases_so;
  versions = versions_so;
  tests = tests_so;
}
