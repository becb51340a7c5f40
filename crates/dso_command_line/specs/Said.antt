-- What the words ask for, as the code keeps it.
use Rattle.dso_command_line.specs.declared.command.Command.{Command}
use Rattle.dso_command_line.specs.declared.command.Command.TheVariants.{Sim, Run, Big, Show, Lint}
use Rattle.dso_command_line.specs.Given.{told}
use Rattle.dso_command_line.specs.Words as words

-- the same, with the bytes of its texts
abbrev pub said : Command → words.Command
said (Sim config program seed steps journal store collect) = words.Sim (record {
  config = config.now;
  program = program.now;
  seed = seed;
  steps = steps;
  journal = told journal;
  store = told store;
  collect = collect;
})
said (Run config program steps journal) = words.Run (record {
  config = config.now;
  program = program.now;
  steps = steps;
  journal = told journal;
})
said (Big number) = words.Big number
said (Show config program store) = words.Show (record {
  config = config.now;
  program = program.now;
  store = store.now;
})
said (Lint config program) = words.Lint (record {
  config = config.now;
  program = program.now;
})
