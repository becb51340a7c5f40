-- That all is there that the report of a state names.
use Rattle.std.specs.Prelude.{ℕ, ◌≡◌, ◌≢◌, ◌<◌, true, false, Some, None, List, length, slice_get, All, Contains}
use Rattle.dso_base.specs.declared.lock.ThreadId.{ThreadId}
use Rattle.dso_base.specs.declared.value.ClassId.{ClassId}
use Rattle.dso_base.specs.declared.value.ClassId.TheVariants as class
use Rattle.dso_base.specs.declared.value.Value.{Value}
use Rattle.dso_base.specs.declared.value.Value.TheVariants as value
use Rattle.dso_class.specs.declared.program.Names.{Names}
use Rattle.dso_map.specs.Fields.{slots, place_of}
use Rattle.dso_map.specs.Fields.MapField.{Held}
use Rattle.dso_plain.specs.State.{Object, PlainState, size_of, HasField}
use Rattle.dso_report.specs.MapEntries.{is_map_sized, is_map_there}

-- The value names only what is there: an object of the graph, as object 0 is not, or a text of the program.
abbrev pub NamesWhatIsThere : Names → PlainState → Value → Type 0
NamesWhatIsThere names s (value.Ref o) = (o ≢ 0) × (s.objects o ≢ None)
NamesWhatIsThere names s (value.Text i) = i < length names.texts
NamesWhatIsThere names s v = Unit {0}

-- each field of the class has a word
pub record HasFieldWords (names : Names) (c : ℕ) (size : ℕ) : Type 0 where
  pub words : List (List ℕ)
  pub are_words : slice_get names.fields c ≡ Some words
  pub each : length words ≡ size

-- the class has a word, and each of its fields has one; those of a map need none
pub record HasClassWords (names : Names) (c : ℕ) (size : ℕ) : Type 0 where
  pub fields : is_map_sized (class.Plain c) size ≡ false → HasFieldWords names c size
  pub class : c < length names.classes

-- An object has the words that it is written with: one of a class those of the class, an array needs none.
abbrev pub HasWords : Names → ℕ → ClassId → Type 0
HasWords names size (class.Plain c) = HasClassWords names c size
HasWords names size (class.Array kind) = Unit {0}
HasWords names size class.Roots = ⊥

-- Nothing is missing: each root has a name, each field has a value, each value that stands in a field or was printed
-- names what is there, and each object but object 0 has its words.
pub record IsWholeState (names : Names) (s : PlainState) : Type 0 where
  pub roots : size_of (s.objects 0) ≡ length names.roots
  pub fields : (o f : ℕ) → HasField o f s → s.heap (o, f) ≢ None
  pub values : (o f : ℕ) (v : Value) → s.heap (o, f) ≡ Some v → NamesWhatIsThere names s v
  pub printed : (t : ThreadId) → All (NamesWhatIsThere names s) (s.output t)
  pub words : (o : ℕ) (object : Object) → o ≢ 0 → s.objects o ≡ Some object → HasWords names object.size object.class

-- The order has each object that a field of object 0 or of an object of the order names, and of a map each that a slot
-- holds.
pub record IsClosedOrder (s : PlainState) (order : List ℕ) : Type 0 where
  pub roots : (f named : ℕ) → HasField 0 f s → s.heap (0, f) ≡ Some (value.Ref named) → Contains order named
  pub fields : (o f named : ℕ) → Contains order o → is_map_there (s.objects o) ≡ false → HasField o f s → s.heap (o, f)
      ≡ Some (value.Ref named) → Contains order named
  pub held : (o slot named : ℕ) → Contains order o → is_map_there (s.objects o) ≡ true → slot < slots
      → s.heap (o, place_of (Held slot)) ≡ Some (value.Ref named) → Contains order named
