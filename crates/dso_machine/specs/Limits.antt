-- How much a program may have.
use Rattle.std.specs.Prelude.{ℕ}

-- the most clients of a cluster
abbrev pub most_clients : ℕ
most_clients = 16

-- the most threads of one client
abbrev pub most_threads : ℕ
most_threads = 16

-- the most classes that code has: those of a text and one more
abbrev pub most_classes : ℕ
most_classes = 65

-- the most fields of a class in code
abbrev pub most_fields : ℕ
most_fields = 769

-- the most roots
abbrev pub most_roots : ℕ
most_roots = 16

-- the most named locks, the roots' own among them
abbrev pub most_locks : ℕ
most_locks = 2064

-- the most methods of all classes together
abbrev pub most_methods : ℕ
most_methods = 4096

-- the most different text literals
abbrev pub most_texts : ℕ
most_texts = 4096

-- the most parameters of a method
abbrev pub most_params : ℕ
most_params = 8

-- the most variables of a body, its parameters among them
abbrev pub most_vars : ℕ
most_vars = 64

-- the most statements that stand one inside another
abbrev pub most_nested : ℕ
most_nested = 64

-- the most elements of an array
abbrev pub most_elements : ℕ
most_elements = 256

-- how deep calls nest: the most frames of a thread, one for its body and one for each call that has not ended
abbrev pub most_frames : ℕ
most_frames = 64

-- the most moves of a thread between two of its requests
abbrev pub most_moves : ℕ
most_moves = 1000
