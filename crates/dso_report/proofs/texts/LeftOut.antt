-- A report leaves nothing out of what the state has.
use Rattle.std.proofs.Common.{◌≡◌, ◌≢◌, ℕ, ◌<◌, false, cond, Some, None, Option, option_map, List, ◌++◌, reverse, slice_get, refl, subst, codes, All, Contains}
use Rattle.std.specs.Fmt.{◌++?◌}
use Rattle.std.proofs.lemmas.List.{reverse-reverse}
use Rattle.std.proofs.lemmas.List.Elements.{All-contains, All-map, All-weaker}
use Rattle.dso_base.specs.declared.lock.ThreadId.{ThreadId}
use Rattle.dso_base.specs.declared.value.Value.{Value}
use Rattle.dso_base.specs.declared.value.ClassId.TheVariants as class
use Rattle.dso_class.specs.declared.program.Names.{Names}
use Rattle.dso_plain.specs.State.{Object, PlainState}
use Rattle.dso_report.specs.declared.thread_lines.ThreadStanding.{ThreadStanding}
use Rattle.dso_report.specs.LeftOut.{LeavesNothingOut}
use Rattle.dso_report.specs.MapEntries.{is_map_sized, map_entries}
use Rattle.dso_report.specs.Numbering.{IsOrder, fields_of}
use Rattle.dso_report.specs.Report.{IsReport, IsThreadsText, body_text, entry_text, fields_text, graph_text, object_line, object_text, output_line, parts_text, root_line, root_name, thread_line, thread_text, unguarded_line}
use Rattle.dso_report.specs.Texts.{each_below, each_of, numbered, printed, shown_in}
use Rattle.dso_report.proofs.texts.HasText.{HasText, first_there, second_there, was_found, below_there, each_there, not_missing}
use Rattle.dso_report.proofs.texts.OneReport.{one_order}
use Rattle.dso_report.proofs.texts.ReportTexts.{all_reversed}

-- the names and texts of an object of a class are there, where it is shown
class_there : (names : Names) (order : List ℕ) (s : PlainState) (o c : ℕ) (object : Object) → s.objects o ≡ Some object → object.class ≡ class.Plain c → HasText (object_text names order s o (s.objects o))
    → HasText (slice_get names.classes c ++? parts_text names order s o object.size c)
class_there names order s o c object is of there =
    subst (λ k. HasText (body_text names order s o object.size k)) of (subst (λ found. HasText (object_text names order s o found)) is there)

-- the fields of an object that is no map are written, where what it has is
fields_written : (names : Names) (order : List ℕ) (s : PlainState) (o size c : ℕ) → is_map_sized (class.Plain c) size ≡ false → HasText (parts_text names order s o size c) → HasText (fields_text names order s o size (slice_get names.fields c))
fields_written names order s o size c other there =
    subst (λ b. HasText (cond b (each_of (entry_text order) (map_entries s o)) (fields_text names order s o size (slice_get names.fields c)))) other there

-- the fields of a class have names, where they are written
fields_named : (names : Names) (order : List ℕ) (s : PlainState) (o size : ℕ) (found : Option (List (List ℕ))) → HasText (fields_text names order s o size found) → found ≢ None
fields_named names order s o size None there is = not_missing None there refl
fields_named names order s o size (Some fields) there is = absurd (cc is)

module _ (names : Names) (s : PlainState) where
  -- the value of a line is there, where the line is
  value_there : (v : Value) → HasText (output_line names.texts v) → printed names.texts v ≢ None
  value_there v there =
      not_missing (printed names.texts v) (first_there (printed names.texts v) (Some (codes "\n")) (second_there (Some (codes "| ")) (printed names.texts v ++? Some (codes "\n")) there))

  -- each value that a thread printed has a text
  abbrev HasOutput : ThreadId → Type 0
  HasOutput t = All (λ v. printed names.texts v ≢ None) (s.output t)

  -- each value that a thread printed has a text, where the thread's lines are there
  output_there : (p : ThreadId × ThreadStanding) → HasText (thread_text names s p.0 p.1) → HasOutput p.0
  output_there p there =
      let Has = λ (v : Value). printed names.texts v ≢ None in
      let values = s.output p.0 in
      let lines = second_there (Some (thread_line p.0 p.1)) (each_of (output_line names.texts) (reverse values)) there in
      let each = All-weaker (λ v. HasText (output_line names.texts v)) Has value_there (reverse values) (each_there (output_line names.texts) (reverse values) lines) in
      subst (All Has) (reverse-reverse values) (all_reversed Has (reverse values) each)

  -- each value that one of the threads printed has a text, where their lines are there
  outputs_there : (threads : List ThreadId) (text : List ℕ) → IsThreadsText names s threads text → (t : ThreadId) → Contains threads t → HasOutput t
  outputs_there threads text is t among =
      let there : HasText (each_of (λ p. thread_text names s p.0 p.1) is.standings) = record { bytes = text; is = is.written } in
      let each = All-weaker (λ p. HasText (thread_text names s p.0 p.1)) (λ p. HasOutput p.0) output_there is.standings (each_there (λ p. thread_text names s p.0 p.1) is.standings there) in
      All-contains HasOutput threads t (subst (All HasOutput) is.in_order (All-map HasOutput (λ p. p.0) is.standings each)) among

  module _ (order : List ℕ) (there : HasText (graph_text names order s)) where
    -- the line of each root is there
    root_there : (r : ℕ) → r < fields_of s 0 → HasText (root_line names order s r)
    root_there r within = below_there (root_line names order s) (fields_of s 0) r within (first_there (each_below (root_line names order s) (fields_of s 0)) (each_of (object_line names order s) order) there)

    -- what a root's line has behind its first word
    root_rest : (r : ℕ) → r < fields_of s 0 → HasText (option_map root_name (slice_get names.roots r) ++? Some (codes " ") ++? shown_in names.texts order (s.heap (0, r)) ++? Some (codes "\n"))
    root_rest r within = second_there (Some (codes "root ")) (option_map root_name (slice_get names.roots r) ++? Some (codes " ") ++? shown_in names.texts order (s.heap (0, r)) ++? Some (codes "\n")) (root_there r within)

    -- each object of the order is shown
    shown_there : (o : ℕ) → Contains order o → HasText (object_text names order s o (s.objects o))
    shown_there o among =
        let lines = each_there (object_line names order s) order (second_there (each_below (root_line names order s) (fields_of s 0)) (each_of (object_line names order s) order) there) in
        let line : HasText (object_line names order s o) = All-contains (λ k. HasText (object_line names order s k)) order o lines among in
        let text = object_text names order s o (s.objects o) in
        first_there text (Some (codes "\n")) (second_there (Some (codes " ")) (text ++? Some (codes "\n")) (second_there (numbered order o) (Some (codes " ") ++? text ++? Some (codes "\n")) line))

    -- nothing is left out, where the graph's lines and those of the threads are there
    leaves_nothing_out : (threads : List ThreadId) (text : List ℕ) → IsThreadsText names s threads text → LeavesNothingOut names threads s order
    leaves_nothing_out threads text is = record {
      root_names = λ r within.
          let name = option_map root_name (slice_get names.roots r) in
          was_found root_name (slice_get names.roots r) (first_there name (Some (codes " ") ++? shown_in names.texts order (s.heap (0, r)) ++? Some (codes "\n")) (root_rest r within));
      root_values = λ r within.
          let name = option_map root_name (slice_get names.roots r) in
          let value = shown_in names.texts order (s.heap (0, r)) in
          not_missing value
          (first_there value (Some (codes "\n")) (second_there (Some (codes " ")) (value ++? Some (codes "\n")) (second_there name (Some (codes " ") ++? value ++? Some (codes "\n")) (root_rest r within))));
      outputs = outputs_there threads text is;
      objects = λ o among. not_missing (object_text names order s o (s.objects o)) (shown_there o among);
      class_names = λ o c object among is of.
          not_missing (slice_get names.classes c)
          (first_there (slice_get names.classes c) (parts_text names order s o object.size c) (class_there names order s o c object is of (shown_there o among)));
      field_names = λ o c object among is of other.
          fields_named names order s o object.size (slice_get names.fields c)
          (fields_written names order s o object.size c (subst (λ k. is_map_sized k object.size ≡ false) of other)
          (second_there (slice_get names.classes c) (parts_text names order s o object.size c) (class_there names order s o c object is of (shown_there o among))));
    }

-- a report leaves nothing out
pub reports_leave_nothing_out : (names : Names) (threads : List ThreadId) (s : PlainState) (bytes order : List ℕ) → IsReport names threads s bytes → IsOrder s order → LeavesNothingOut names threads s order
reports_leave_nothing_out names threads s bytes order is is_order =
    let whole : HasText (Some (is.lines ++ unguarded_line s) ++? graph_text names is.order s) = record { bytes = bytes; is = is.written } in
    let graph = second_there (Some (is.lines ++ unguarded_line s)) (graph_text names is.order s) whole in
    leaves_nothing_out names s order (subst (λ ids. HasText (graph_text names ids s)) (one_order s is.order order is.is_order is_order) graph) threads is.lines is.are_threads
