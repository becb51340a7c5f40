-- How much a program text may have.
use Rattle.std.specs.Prelude.{ℕ}

-- the most classes of a text
abbrev pub most_classes : ℕ
most_classes = 64

-- the most fields of a class
abbrev pub most_fields : ℕ
most_fields = 64

-- the most static fields of all classes together
abbrev pub most_statics : ℕ
most_statics = 16

-- the most methods of a class
abbrev pub most_methods : ℕ
most_methods = 64

-- the most parameters of a method
abbrev pub most_params : ℕ
most_params = 8

-- the most variables of a body, its parameters among them
abbrev pub most_vars : ℕ
most_vars = 64

-- the most different text literals
abbrev pub most_texts : ℕ
most_texts = 4096

-- the most threads of one client
abbrev pub most_threads : ℕ
most_threads = 16
