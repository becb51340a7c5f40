use Rattle.std.proofs.Common.{ℕ, ◌≡◌, ◌++◌, List, length, take}
use Rattle.dso_class.specs.Declarations.{MethodTree, methods_of}
use Rattle.dso_class.specs.Gathered.{AreMethodRows, capped}
use Rattle.dso_config_entries.specs.Words.{Word}
use Rattle.dso_class.proofs.gathered_methods.add_methods.Given as goal

-- the methods so far stand behind those of the classes before
abbrev pub invariant-loop-member : goal.invariant-loop-member
invariant-loop-member l = ((number : ℕ) (name : Word) (before : List MethodTree) → l.first ≡ capped (length before)
    → l.number ≡ capped (length (before ++ methods_of number name (take l.member-index l.members))))
    × ((number : ℕ) (name : Word) (before : List MethodTree) → l.class ≡ capped number → l.first ≡ capped (length before) → AreMethodRows before l.initial.rows
    → AreMethodRows (before ++ methods_of number name (take l.member-index l.members)) l.rows)
