use Rattle.std.specs.Option.{option_copied}
use Rattle.cli_manifests.proofs.Alike.{simulation_alike}
use Rattle.cli_manifests.proofs.simulating.output_against.Goals as goal

pub returns : goal.returns
returns g c = record {
  next = c.in_ok-next.next;
  simulated = c.in_ok-next.ensures.simulated;
  now = c.in_ok-now.now;
  served = simulation_alike c.args.client.now c.simulation_of.new.client c.args.serving
      (option_copied c.args.options.now.appid) c.in_ok-now.now c.simulation_of.ensures.client
      c.in_ok-now.ensures.simulated;
  formats = c.in_ok-output.ensures;
}
