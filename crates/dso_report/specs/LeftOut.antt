-- A report leaves nothing out: a state that lacks a name, a text or an object that its report would tell has none.
use Rattle.std.specs.Prelude.{ℕ, ◌≡◌, ◌≢◌, ◌<◌, false, Some, None, List, slice_get, All, Contains}
use Rattle.dso_base.specs.declared.lock.ThreadId.{ThreadId}
use Rattle.dso_base.specs.declared.value.ClassId.TheVariants as class
use Rattle.dso_class.specs.declared.program.Names.{Names}
use Rattle.dso_plain.specs.State.{Object, PlainState}
use Rattle.dso_report.specs.MapEntries.{is_map_sized}
use Rattle.dso_report.specs.Numbering.{IsOrder, fields_of}
use Rattle.dso_report.specs.Report.{IsReport, object_text}
use Rattle.dso_report.specs.Texts.{printed, shown_in}

-- Each root has a name and a value that is shown, each value that one of the threads printed has a text, and each
-- object of the order is shown: one of a class with the name of the class, and with those of its fields if it is no
-- map.
pub record LeavesNothingOut (names : Names) (threads : List ThreadId) (s : PlainState) (order : List ℕ) : Type 0 where
  pub root_names : (root : ℕ) → root < fields_of s 0 → slice_get names.roots root ≢ None
  pub root_values : (root : ℕ) → root < fields_of s 0 → shown_in names.texts order (s.heap (0, root)) ≢ None
  pub outputs : (t : ThreadId) → Contains threads t → All (λ v. printed names.texts v ≢ None) (s.output t)
  pub objects : (o : ℕ) → Contains order o → object_text names order s o (s.objects o) ≢ None
  pub class_names : (o c : ℕ) (object : Object) → Contains order o → s.objects o ≡ Some object → object.class
      ≡ class.Plain c → slice_get names.classes c ≢ None
  pub field_names : (o c : ℕ) (object : Object) → Contains order o → s.objects o ≡ Some object → object.class
      ≡ class.Plain c → is_map_sized object.class object.size ≡ false → slice_get names.fields c ≢ None

-- A report leaves nothing out of what the state has.
abbrev pub ReportsLeaveNothingOut : Type 0
ReportsLeaveNothingOut = (names : Names) (threads : List ThreadId) (s : PlainState) (bytes order : List ℕ)
    → IsReport names threads s bytes → IsOrder s order → LeavesNothingOut names threads s order
