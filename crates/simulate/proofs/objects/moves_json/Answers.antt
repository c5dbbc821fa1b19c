use Rattle.simulate.proofs.Floatless.{against}
use Rattle.simulate.proofs.objects.moves_json.Goals as goal

pub json_line-requires : goal.json_line-requires
json_line-requires c = rw c.in_ok-value.ensures (against c.args.now.now c.args.next.now)
