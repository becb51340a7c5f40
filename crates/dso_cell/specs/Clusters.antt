-- What the cells of a cluster go by.
use Rattle.std.specs.Prelude.{ℕ, Option, Some, None}
use Rattle.dso_base.specs.declared.message.Down.{Down}
use Rattle.dso_base.specs.declared.message.Up.{Up}
use Rattle.dso_law.specs.Settings.{Settings}
use Rattle.dso_machine.specs.declared.code.Code.{Code}
use Rattle.dso_port.specs.Ports.{Giving, Taking}
use Rattle.rtrb.specs.Ring.{IsPair, SameProducer}

-- The code, what the nodes know of it, and for each client the ring up and the ring down. A ring is named by its end
-- that gives.
pub record Cluster : Type 0 where
  pub code : Code
  pub settings : Settings
  pub up : ℕ → Option (Giving Up)
  pub down : ℕ → Option (Giving Down)

module _ {M : Type 0} where
  -- the end gives into the ring of this name
  abbrev pub GivesInto : Option (Giving M) → Giving M → Type 0
  GivesInto None end = ⊥
  GivesInto (Some name) end = SameProducer name end

  -- the end takes from the ring of this name
  abbrev pub TakesFrom : Option (Giving M) → Taking M → Type 0
  TakesFrom None end = ⊥
  TakesFrom (Some name) end = IsPair name end
