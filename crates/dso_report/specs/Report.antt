-- The report of a history: its threads with what they printed, the count of unguarded reads, and the graph. What
-- names something that isn't there has no text, so a state that lacks something that its report names has no report.
use Rattle.std.specs.Prelude.{ℕ, ◌≡◌, true, false, if◌then◌else◌, Option, Some, None, List, ◌++◌, codes, map, reverse}
use Rattle.std.specs.Prelude.{slice_get}
use Rattle.std.specs.Fmt.{decimal, signed_decimal, ◌++?◌}
use Rattle.std.specs.List.{All}
use Rattle.std.specs.Option.{option_map}
use Rattle.dso_base.specs.declared.lock.LockName.{LockName}
use Rattle.dso_base.specs.declared.lock.ThreadId.{ThreadId}
use Rattle.dso_base.specs.declared.request.Fault.{Fault}
use Rattle.dso_base.specs.declared.request.Fault.TheVariants as fault
use Rattle.dso_base.specs.declared.value.ClassId.{ClassId}
use Rattle.dso_base.specs.declared.value.ClassId.TheVariants as class
use Rattle.dso_base.specs.declared.value.Value.{Value}
use Rattle.dso_class.specs.declared.program.Names.{Names}
use Rattle.dso_config.specs.declared.config.RootEntry.{RootEntry}
use Rattle.dso_plain.specs.State.{PlainState, Object}
use Rattle.dso_report.specs.declared.maps.MapEntry.{MapEntry}
use Rattle.dso_report.specs.declared.thread_lines.ThreadStanding.{ThreadStanding}
use Rattle.dso_report.specs.declared.thread_lines.ThreadStanding.TheVariants.{Ended, Faulted, Lost, Waiting, Open}
use Rattle.dso_report.specs.MapEntries.{is_map_sized, map_entries}
use Rattle.dso_report.specs.Numbering.{IsOrder, fields_of}
use Rattle.dso_report.specs.Texts.{each_below, each_of, printed, shown_in, numbered, kind_text}

-- the thread stands in the waits of some lock
abbrev pub Waits : PlainState → ThreadId → Type 0
Waits s t = ((l : LockName) → s.asleep (l, t) ≡ None) → ⊥

-- How a thread stands: it has ended, or its client is lost, or it waits, or none of these.
abbrev pub HasStanding : PlainState → ThreadId → ThreadStanding → Type 0
HasStanding s t Ended = s.ended t ≡ Some None
HasStanding s t (Faulted fault) = s.ended t ≡ Some (Some fault)
HasStanding s t Lost = (s.ended t ≡ None) × (s.lost t.client ≡ true)
HasStanding s t Waiting = (s.ended t ≡ None) × (s.lost t.client ≡ false) × Waits s t
HasStanding s t Open = (s.ended t ≡ None) × (s.lost t.client ≡ false) × (Waits s t → ⊥)

-- the name of a fault
abbrev pub fault_text : Fault → List ℕ
fault_text fault.NullPointer = codes "NullPointer"
fault_text fault.NoSuchField = codes "NoSuchField"
fault_text fault.BadValue = codes "BadValue"
fault_text fault.BadIndex = codes "BadIndex"
fault_text fault.BadSize = codes "BadSize"
fault_text fault.ZeroDivide = codes "ZeroDivide"
fault_text fault.StackOverflow = codes "StackOverflow"
fault_text fault.UnlockedSharedObject = codes "UnlockedSharedObject"
fault_text fault.WrongLock = codes "WrongLock"
fault_text fault.ReadOnly = codes "ReadOnly"
fault_text fault.LockUpgrade = codes "LockUpgrade"
fault_text fault.IllegalMonitor = codes "IllegalMonitor"

-- how a thread stands, in words
abbrev pub standing_text : ThreadStanding → List ℕ
standing_text Ended = codes "ended"
standing_text (Faulted fault) = codes "fault " ++ fault_text fault
standing_text Lost = codes "lost"
standing_text Waiting = codes "waiting"
standing_text Open = codes "open"

-- the line of a thread
abbrev pub thread_line : ThreadId → ThreadStanding → List ℕ
thread_line t standing = codes "thread "
    ++ (decimal t.client ++ (codes "." ++ (decimal t.index ++ (codes " " ++ (standing_text standing ++ codes "\n")))))

-- the line of a value that a thread printed
abbrev pub output_line : List (List ℕ) → Value → Option (List ℕ)
output_line texts v = Some (codes "| ") ++? printed texts v ++? Some (codes "\n")

-- the line of a thread, and a line for each value that it printed, the oldest first
abbrev pub thread_text : Names → PlainState → ThreadId → ThreadStanding → Option (List ℕ)
thread_text names s t standing = Some (thread_line t standing) ++? each_of (output_line names.texts)
    (reverse (s.output t))

-- the text is that of the threads in their order, each as it stands
pub record IsThreadsText (names : Names) (s : PlainState) (threads : List ThreadId) (text : List ℕ) : Type 0 where
  pub standings : List (ThreadId × ThreadStanding)
  pub in_order : map (λ p. p.0) standings ≡ threads
  pub stand : All (λ p. HasStanding s p.0 p.1) standings
  pub written : each_of (λ p. thread_text names s p.0 p.1) standings ≡ Some text

-- the line of the count of unguarded reads
abbrev pub unguarded_line : PlainState → List ℕ
unguarded_line s = codes "unguarded " ++ (decimal s.unguarded ++ codes "\n")

-- the name of a root
abbrev pub root_name : RootEntry → List ℕ
root_name root = root.class ++ (codes "." ++ root.field)

-- the line of a root, by its number
abbrev pub root_line : Names → List ℕ → PlainState → ℕ → Option (List ℕ)
root_line names order s r = Some (codes "root ") ++? option_map root_name (slice_get names.roots r) ++? Some
    (codes " ") ++? shown_in names.texts order (s.heap (0, r)) ++? Some (codes "\n")

-- a field of an object: its name and its value
abbrev pub field_text : Names → List ℕ → PlainState → ℕ → List (List ℕ) → ℕ → Option (List ℕ)
field_text names order s o fields f = Some (codes " ") ++? slice_get fields f ++? Some
    (codes "=") ++? shown_in names.texts order (s.heap (o, f))

-- an element of an array: its value
abbrev pub element_text : Names → List ℕ → PlainState → ℕ → ℕ → Option (List ℕ)
element_text names order s o f = Some (codes " ") ++? shown_in names.texts order (s.heap (o, f))

-- the fields of an object, by the names of its class's fields, if these are there
abbrev pub fields_text : Names → List ℕ → PlainState → ℕ → ℕ → Option (List (List ℕ)) → Option (List ℕ)
fields_text names order s o size None = None
fields_text names order s o size (Some fields) = each_below (field_text names order s o fields) size

-- an entry of a map: its key and its object
abbrev pub entry_text : List ℕ → MapEntry → Option (List ℕ)
entry_text order entry = Some (codes " " ++ (signed_decimal entry.key ++ codes "=")) ++? numbered order entry.object

-- what an object of a class of the program has: a map its entries, and another its fields by their names
abbrev pub parts_text : Names → List ℕ → PlainState → ℕ → ℕ → ℕ → Option (List ℕ)
parts_text names order s o size c = if is_map_sized (class.Plain c) size
    then each_of (entry_text order) (map_entries s o)
    else fields_text names order s o size (slice_get names.fields c)

-- an object by its class: one of a class of the program with the class and what it has, an array with its kind, size
-- and elements; the roots' object is none of the graph
abbrev pub body_text : Names → List ℕ → PlainState → ℕ → ℕ → ClassId → Option (List ℕ)
body_text names order s o size (class.Plain c) = slice_get names.classes c ++? parts_text names order s o size c
body_text names order s o size (class.Array kind) = Some
    (kind_text kind ++ (codes "[" ++ (decimal size ++ codes "]"))) ++? each_below (element_text names order s o) size
body_text names order s o size class.Roots = None

-- an object, if it is there
abbrev pub object_text : Names → List ℕ → PlainState → ℕ → Option Object → Option (List ℕ)
object_text names order s o None = None
object_text names order s o (Some object) = body_text names order s o object.size object.class

-- the line of an object
abbrev pub object_line : Names → List ℕ → PlainState → ℕ → Option (List ℕ)
object_line names order s o = numbered order o ++? Some (codes " ") ++? object_text names order s o
    (s.objects o) ++? Some (codes "\n")

-- the roots' lines in their order, and the objects' lines by their numbers
abbrev pub graph_text : Names → List ℕ → PlainState → Option (List ℕ)
graph_text names order s = each_below (root_line names order s) (fields_of s 0) ++? each_of
    (object_line names order s) order

-- The bytes are the lines of the state's graph, with the objects in their order.
pub record IsGraphText (names : Names) (s : PlainState) (bytes : List ℕ) : Type 0 where
  pub order : List ℕ
  pub is_order : IsOrder s order
  pub written : graph_text names order s ≡ Some bytes

-- The bytes are the report of the state: the threads, the count of unguarded reads, and the graph. How a thread
-- stands and the order of the objects are what the state says of them.
pub record IsReport (names : Names) (threads : List ThreadId) (s : PlainState) (bytes : List ℕ) : Type 0 where
  pub lines : List ℕ
  pub order : List ℕ
  pub are_threads : IsThreadsText names s threads lines
  pub is_order : IsOrder s order
  pub written : Some (lines ++ unguarded_line s) ++? graph_text names order s ≡ Some bytes
