-- The words of a journal's text: nodes, threads, locks, levels, classes, values, numbers of faults, and lists.
use Rattle.std.specs.Prelude.{ℕ, true, false, Option, Some, None, List, ◌++◌, codes, flat_map, length}
use Rattle.std.specs.Fmt.{decimal, signed_decimal}
use Rattle.dso_base.specs.declared.journal.Node.{Node}
use Rattle.dso_base.specs.declared.journal.Node.TheVariants.{Server, Client}
use Rattle.dso_base.specs.declared.lock.Level.{Level}
use Rattle.dso_base.specs.declared.lock.Level.TheVariants.{Read, Write}
use Rattle.dso_base.specs.declared.lock.LockName.{LockName}
use Rattle.dso_base.specs.declared.lock.LockName.TheVariants.{Mon, Name}
use Rattle.dso_base.specs.declared.lock.ThreadId.{ThreadId}
use Rattle.dso_base.specs.declared.request.Fault.{Fault}
use Rattle.dso_base.specs.declared.request.Fault.TheVariants as fault
use Rattle.dso_base.specs.declared.value.ClassId.{ClassId}
use Rattle.dso_base.specs.declared.value.ClassId.TheVariants as class
use Rattle.dso_base.specs.declared.value.Value.{Value}
use Rattle.dso_base.specs.declared.value.Value.TheVariants as value
use Rattle.dso_report.specs.Texts.{kind_text}

-- a list: its count, and each item behind a space
abbrev pub list_words : {A : Type 0} → (A → List ℕ) → List A → List ℕ
list_words words items = decimal (length items) ++ flat_map (λ item. codes " " ++ words item) items

-- a node: the server, or a client by its number
abbrev pub node_word : Node → List ℕ
node_word Server = codes "s"
node_word (Client c) = codes "c" ++ decimal c

-- a thread: its client and its index there
abbrev pub thread_word : ThreadId → List ℕ
thread_word t = decimal t.client ++ codes "." ++ decimal t.index

-- a lock: the monitor of an object, or a lock that has a name
abbrev pub lock_word : LockName → List ℕ
lock_word (Mon object) = codes "m" ++ decimal object
lock_word (Name name) = codes "n" ++ decimal name

-- a level
abbrev pub level_word : Level → List ℕ
level_word Read = codes "read"
level_word Write = codes "write"

-- a class: one of the program by its number, that of the arrays of a kind, or that of the roots' object
abbrev pub class_word : ClassId → List ℕ
class_word (class.Plain c) = codes "k" ++ decimal c
class_word (class.Array kind) = codes "a" ++ kind_text kind
class_word class.Roots = codes "roots"

-- a value: a text by its number, an object by its id
abbrev pub value_word : Value → List ℕ
value_word value.Null = codes "null"
value_word (value.Long z) = signed_decimal z
value_word (value.Bool true) = codes "true"
value_word (value.Bool false) = codes "false"
value_word (value.Text i) = codes "t" ++ decimal i
value_word (value.Ref o) = codes "r" ++ decimal o

-- the number of a fault
abbrev pub fault_number : Fault → ℕ
fault_number fault.NullPointer = 1
fault_number fault.NoSuchField = 2
fault_number fault.BadValue = 3
fault_number fault.BadIndex = 4
fault_number fault.BadSize = 5
fault_number fault.ZeroDivide = 6
fault_number fault.StackOverflow = 7
fault_number fault.UnlockedSharedObject = 8
fault_number fault.WrongLock = 9
fault_number fault.ReadOnly = 10
fault_number fault.LockUpgrade = 11
fault_number fault.IllegalMonitor = 12

-- the number of the fault that a thread ends with, and 0 where it ends without one
abbrev pub end_number : Option Fault → ℕ
end_number None = 0
end_number (Some fault) = fault_number fault
