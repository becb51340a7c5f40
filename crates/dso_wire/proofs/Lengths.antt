-- How many bytes a record has at most.
use Rattle.std.proofs.Common.{ℕ, ◌+◌, ◌*◌, ◌≤◌, List, [], ◌∷◌, ◌++◌, length, arith}
use Rattle.std.specs.List.{flat_map, sum_by}
use Rattle.std.proofs.lemmas.List.{length-append}
use Rattle.std.proofs.lemmas.List.Sums.{sum_by-cons}
use Rattle.dso_base.specs.Weight.{body_values_of}
use Rattle.dso_base.specs.declared.lock.LockName.{LockName}
use Rattle.dso_base.specs.declared.lock.LockName.TheVariants.{Mon, Name}
use Rattle.dso_base.specs.declared.record.Body.{Body}
use Rattle.dso_base.specs.declared.record.Choice.{Choice}
use Rattle.dso_base.specs.declared.record.Choice.TheVariants as choice
use Rattle.dso_base.specs.declared.record.Ending.{Ending}
use Rattle.dso_base.specs.declared.record.Ending.TheVariants as ending
use Rattle.dso_base.specs.declared.record.Note.{Note}
use Rattle.dso_base.specs.declared.record.Set.{Set}
use Rattle.dso_base.specs.declared.record.Txn.{Txn}
use Rattle.dso_base.specs.declared.value.ClassId.{ClassId}
use Rattle.dso_base.specs.declared.value.ClassId.TheVariants as class
use Rattle.dso_base.specs.declared.value.Kind.{Kind}
use Rattle.dso_base.specs.declared.value.Kind.TheVariants as kind
use Rattle.dso_base.specs.declared.value.Value.{Value}
use Rattle.dso_base.specs.declared.value.Value.TheVariants as value
use Rattle.std.specs.Prelude.{true, false}
use Rattle.dso_wire.specs.Cells.{Cell, listed}
use Rattle.dso_wire.specs.Laws.{IsShort}
use Rattle.dso_wire.specs.Spelling.{value_cells, lock_cells, kind_cells, class_cells, body_cells, set_cells, choice_cells, note_cells, ending_cells, record_cells}
use Rattle.dso_wire.proofs.Meaning.{length_bytes}

value_length : (v : Value) → length (value_cells v) ≤ 9
value_length value.Null = omega arith
value_length (value.Long n) = omega arith
value_length (value.Bool true) = omega arith
value_length (value.Bool false) = omega arith
value_length (value.Text t) = omega arith
value_length (value.Ref o) = omega arith

lock_length : (l : LockName) → length (lock_cells l) ≤ 9
lock_length (Mon o) = omega arith
lock_length (Name n) = omega arith

kind_length : (k : Kind) → length (kind_cells k) ≤ 1
kind_length kind.Long = omega arith
kind_length kind.Bool = omega arith
kind_length kind.Text = omega arith
kind_length kind.Ref = omega arith

class_length : (c : ClassId) → length (class_cells c) ≤ 5
class_length (class.Plain n) = omega arith
class_length (class.Array k) = omega (arith, kind_length k)
class_length class.Roots = omega arith

choice_length : (c : Choice) → length (choice_cells c) ≤ 3
choice_length (choice.Here t) = omega arith
choice_length choice.There = omega arith
choice_length choice.All = omega arith

ending_length : (e : Ending) → length (ending_cells e) ≤ 10
ending_length (ending.Exit l) = omega (arith, lock_length l)
ending_length (ending.Wait l) = omega (arith, lock_length l)
ending_length (ending.End x) = omega arith
ending_length (ending.Timeout l) = omega (arith, lock_length l)

set_length : (s : Set) → length (set_cells s) ≤ 21
set_length s = omega (arith, value_length s.value)

note_length : (n : Note) → length (note_cells n) ≤ 12
note_length n = omega (arith, length-append (lock_cells n.lock) (choice_cells n.choice), lock_length n.lock, choice_length n.choice)

-- so many bytes an item at most
all_length : {A : Type 0} (cells : A → List Cell) (most : ℕ) → ((x : A) → length (cells x) ≤ most) → (items : List A) → length (flat_map cells items) ≤ most * length items
all_length cells most each [] = omega arith
all_length cells most each (x ∷ items) = omega (arith, length-append (cells x) (flat_map cells items), each x, all_length cells most each items)

body_length : (b : Body) → length (body_cells b) ≤ 17 + 9 * body_values_of b
body_length b =
    omega (arith, length-append (class_cells b.class) (listed value_cells b.values), class_length b.class, all_length value_cells 9 value_length b.values)

bodies_length : (news : List Body) → length (flat_map body_cells news) ≤ 17 * length news + 9 * sum_by body_values_of news
bodies_length [] = omega arith
bodies_length (b ∷ news) =
    omega (arith, length-append (body_cells b) (flat_map body_cells news), body_length b, bodies_length news, sum_by-cons body_values_of b news)

pub is_short : (r : Txn) → IsShort r
is_short r =
    let notes = listed note_cells r.notes in
    let outs = listed value_cells r.outs in
    let sets = listed set_cells r.sets in
    let news = listed body_cells r.news in
    let ending = ending_cells r.ending in
    omega (
      arith,
      length_bytes (record_cells r),
      length-append news (sets ++ (outs ++ (notes ++ ending))),
      length-append sets (outs ++ (notes ++ ending)),
      length-append outs (notes ++ ending),
      length-append notes ending,
      bodies_length r.news,
      all_length set_cells 21 set_length r.sets,
      all_length value_cells 9 value_length r.outs,
      all_length note_cells 12 note_length r.notes,
      ending_length r.ending,
    )
