-- Which plain state the tables stand for: each part of it is a function of keys that reads one table.
use Rattle.std.specs.BTreeMap.{BTreeMap}
use Rattle.std.specs.Prelude.{ℕ, ◌≡◌, Bool, false, eqb, ltb, ◌&&◌, is_some, Option, Some, None, List, []}
use Rattle.std.specs.Option.{option_map, unwrap_or}
use Rattle.std.specs.declared.cmp.Ordering.{Ordering}
use Rattle.std.specs.Ordering.{nat_cmp, ordering_then}
use Rattle.dso_base.specs.declared.lock.ThreadId.{ThreadId}
use Rattle.dso_base.specs.declared.value.Value.{Value}
use Rattle.dso_plain.specs.declared.tables.Hold as table_hold
use Rattle.dso_plain.specs.declared.tables.Object as table_object
use Rattle.dso_plain.specs.declared.tables.HeapTables.{HeapTables}
use Rattle.dso_lookup.specs.Lists.{newest_first}
use Rattle.dso_lookup.specs.Maps.{look}
use Rattle.dso_lookup.specs.Orders.{lock_order, thread_order}
use Rattle.dso_lookup.specs.Rows.{look_in}
use Rattle.dso_plain.specs.State.{Object, Hold, PlainState}

-- the order of fields in a table: by object, and then by field
abbrev pub field_order : ℕ × ℕ → ℕ × ℕ → Ordering
field_order a b = ordering_then (nat_cmp a.0 b.0) (nat_cmp a.1 b.1)

-- the order of what threads have seen: by thread, and then by object and field
abbrev pub view_order : ThreadId × ℕ × ℕ → ThreadId × ℕ × ℕ → Ordering
view_order a b = ordering_then (ordering_then (thread_order a.0 b.0) (nat_cmp a.1 b.1)) (nat_cmp a.2 b.2)

-- an object of the tables
abbrev pub object_of : table_object.Object → Object
object_of object = record { class = object.class; size = object.size; owner = object.owner }

-- a hold of the tables
abbrev pub hold_of : table_hold.Hold → Hold
hold_of hold = record { level = hold.level; count = hold.count }

-- the first where it is there, else the second
abbrev pub either : {A : Type 0} → Option A → Option A → Option A
either None second = second
either (Some x) second = Some x

-- the pasts of a table
abbrev pub pasts_of : BTreeMap (ℕ × ℕ) (List Value) → ℕ × ℕ → List Value
pasts_of table key = newest_first (look field_order table key)

-- the plain state of the tables
abbrev pub state_of : HeapTables → PlainState
state_of tables = record {
  objects = λ o. option_map object_of (look nat_cmp tables.objects o);
  made = λ t. newest_first (look thread_order tables.made t);
  heap = λ key. look field_order tables.heap key;
  past = pasts_of tables.past;
  seen = λ key. unwrap_or (look view_order tables.seen key) 0;
  monitors = λ key. option_map hold_of (look_in lock_order thread_order tables.holds key);
  asleep = λ key. either (look_in lock_order thread_order tables.waits key)
      (look_in lock_order thread_order tables.marked key);
  marked = λ key. is_some (look_in lock_order thread_order tables.marked key);
  output = λ t. newest_first (look thread_order tables.output t);
  ended = λ t. look thread_order tables.ended t;
  lost = λ c. unwrap_or (look nat_cmp tables.lost c) false;
  unguarded = tables.unguarded;
}

-- the key is one of the first n fields of object o
abbrev pub is_below : ℕ → ℕ → ℕ × ℕ → Bool
is_below o n key = eqb key.0 o && ltb key.1 n

-- The state of empty tables: nothing is there.
abbrev pub blank : PlainState
blank = record {
  objects = λ o. None;
  made = λ t. [];
  heap = λ key. None;
  past = λ key. [];
  seen = λ key. 0;
  monitors = λ key. None;
  asleep = λ key. None;
  marked = λ key. false;
  output = λ t. [];
  ended = λ t. None;
  lost = λ c. false;
  unguarded = 0;
}

-- the tables are empty
pub record IsBlank (tables : HeapTables) : Type 0 where
  pub objects : tables.objects.entries ≡ []
  pub made : tables.made.entries ≡ []
  pub heap : tables.heap.entries ≡ []
  pub past : tables.past.entries ≡ []
  pub seen : tables.seen.entries ≡ []
  pub holds : tables.holds.entries ≡ []
  pub held : tables.held.entries ≡ []
  pub waits : tables.waits.entries ≡ []
  pub marked : tables.marked.entries ≡ []
  pub waiting : tables.waiting.entries ≡ []
  pub threads : tables.threads.entries ≡ []
  pub output : tables.output.entries ≡ []
  pub ended : tables.ended.entries ≡ []
  pub lost : tables.lost.entries ≡ []
  pub unguarded : tables.unguarded ≡ 0
