-- The words that the rules of names speak of, as their bytes.
use Rattle.std.specs.Prelude.{ℕ, List, codes}

-- a word: its bytes
abbrev pub Word : Type 0
Word = List ℕ

-- the class that every program has
abbrev pub thread_word : Word
thread_word = codes "Thread"

-- the method of `Thread` whose body a thread's is
abbrev pub run_word : Word
run_word = codes "run"

-- the name of an array's size
abbrev pub length_word : Word
length_word = codes "length"
