use Rattle.std.proofs.Common.{◌∙◌, sym}
use Rattle.stage_servers.proofs.history.push_history.Goals as goal

pub returns : goal.returns
returns g c = λ none. (
  c.in-Ok.recorded,
  record {
    are = c.in-Ok.ensures;
    all_read = sym c.deref-3.ensures.value ∙ c.are_none-are_read.ensures none;
  },
)
