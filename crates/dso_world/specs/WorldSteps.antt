-- The steps of a cluster, as slots of its journal.
use Rattle.std.specs.Prelude.{Bool, false, true}
use Rattle.dso_class.specs.declared.program.Program.{Program}
use Rattle.dso_law.specs.Settings.{Settings}
use Rattle.dso_legal.specs.Slots.{Slot, Acts, TakesDown, Flushes, TakesUp, Loses, Breaks}
use Rattle.dso_world.specs.declared.step.Step.{Step}
use Rattle.dso_world.specs.declared.step.Step.TheVariants as step

-- what the nodes of a cluster know of its program
abbrev pub settings_of : Program → Settings
settings_of program = record {
  shape = program.code.shape;
  clients = program.clients;
  resident = program.resident;
  threads = program.threads;
  losses = program.losses;
  breaks = program.breaks;
}

-- the slot of a step
abbrev pub slot_of : Step → Slot
slot_of (step.Act thread) = Acts thread
slot_of (step.TakeDown c) = TakesDown c
slot_of (step.Flush c) = Flushes c
slot_of (step.TakeUp c) = TakesUp c
slot_of (step.Lose c) = Loses c
slot_of (step.Break c) = Breaks c

-- whether a client makes the step; else the server does
abbrev pub is_own : Step → Bool
is_own (step.Act thread) = true
is_own (step.TakeDown c) = true
is_own (step.Flush c) = true
is_own (step.TakeUp c) = false
is_own (step.Lose c) = false
is_own (step.Break c) = false
