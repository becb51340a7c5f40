-- The configuration that stands where nothing is said.
use Rattle.std.specs.Prelude.{None, []}
use Rattle.dso_config.specs.declared.config.Config.{Config}

-- one client, which keeps 4096 objects, and no key
abbrev pub empty : Config
empty = record {
  clients = 1;
  resident = 4096;
  roots = None;
  autolocks = None;
  named = None;
  guards = [];
  losses = [];
  breaks = [];
}
