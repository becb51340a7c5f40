-- Words that are borrowed from a tree or a configuration.
use Rattle.std.specs.Prelude.{List, map}
use Rattle.std.specs.Borrow.{Bor}
use Rattle.dso_config_entries.specs.Words.{Word}

-- the words that borrowed words hold
abbrev pub words_of : List (Bor Word) → List Word
words_of borrowed = map (λ word. word.now) borrowed
