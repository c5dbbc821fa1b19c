use Rattle.simulate.proofs.Floatless.{alone}
use Rattle.simulate.proofs.objects.shares_json.Goals as goal

pub json_line-requires : goal.json_line-requires
json_line-requires c = rw c.in_ok-value.ensures (alone c.args.simulated.now)
