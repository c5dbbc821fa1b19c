-- What a simulation evaluates, and for which client, as the words describe them.
use Rattle.cli_base.specs.Apps.{app_facts, moment, request_facts}
use Rattle.cli_base.specs.declared.app_args.AppArgs.{AppArgs}
use Rattle.cli_manifests.specs.declared.simulation_options.SimulationOptions.{SimulationOptions}
use Rattle.cli_tool_words.specs.declared.args.SimulateArgs.{SimulateArgs}
use Rattle.simulate.specs.declared.client.Client.{Client}

-- the facts of its app and of its request, and the moment
abbrev pub client_of : AppArgs → Client
client_of app = record {
  app = app_facts app;
  request = request_facts app;
  moment = moment app;
}

abbrev pub simulation_of : SimulateArgs → SimulationOptions
simulation_of args = record {
  manifest = args.manifest;
  against = args.against;
  appid = args.appid;
  picture = args.picture;
  json = args.json;
}
