-- A state in which nothing is missing lacks no text that its report has.
use Rattle.std.proofs.Common.{inl, inr, ℕ, ◌<◌, ◌-◌, Some, option_map, List, length, reverse, slice_get, sym, subst, arith, codes, All, Contains}
use Rattle.std.specs.Fmt.{◌++?◌}
use Rattle.std.proofs.lemmas.List.{get_or-reverse, length-reverse}
use Rattle.std.proofs.lemmas.List.Elements.{All-contains, All-contains_itself, All-weaker}
use Rattle.dso_base.specs.declared.lock.ThreadId.{ThreadId}
use Rattle.dso_base.specs.declared.value.Value.{Value}
use Rattle.dso_base.specs.declared.value.Value.TheVariants as value
use Rattle.dso_class.specs.declared.program.Names.{Names}
use Rattle.dso_plain.specs.State.{PlainState}
use Rattle.dso_report.specs.declared.thread_lines.ThreadStanding.{ThreadStanding}
use Rattle.dso_report.specs.MissingText.{IsReportTextMissing}
use Rattle.dso_report.specs.Numbering.{IsOrder, fields_of}
use Rattle.dso_report.specs.Report.{graph_text, object_line, output_line, root_line, root_name, thread_line, thread_text}
use Rattle.dso_report.specs.Texts.{each_below, each_of, printed, shown_in}
use Rattle.dso_report.specs.WholeState.{NamesWhatIsThere, IsWholeState}
use Rattle.dso_report.proofs.ordering.ClosedOrder.{orders_are_closed}
use Rattle.dso_report.proofs.texts.HasText.{HasText, given, both, behind, item_there, all_below, all_of, not_missing}
use Rattle.dso_report.proofs.ordering.OrderHolds.{all_named}
use Rattle.dso_report.proofs.texts.ObjectTexts.{object_there}
use Rattle.dso_report.proofs.texts.ValueTexts.{field_there, printed_there}

-- what holds of each item holds of each in the other order
pub all_reversed : {A : Type 0} (P : A → Type 0) (xs : List A) → All P xs → All P (reverse xs)
all_reversed P xs each k d within =
    let inside : k < length xs = omega (arith, within, length-reverse xs) in
    subst P (sym (get_or-reverse xs k d inside)) (each (length xs - 1 - k) d (omega (arith, inside)))

module _ (names : Names) (s : PlainState) (whole : IsWholeState names s) where
  -- the line of a printed value is there
  output_there : (v : Value) → NamesWhatIsThere names s v → HasText (output_line names.texts v)
  output_there v there =
      let text = printed names.texts v in
      behind (codes "| ") (text ++? Some (codes "\n")) (both text (Some (codes "\n")) (printed_there names s v there) given)

  -- the lines of a thread are there
  thread_there : (t : ThreadId) (standing : ThreadStanding) → HasText (thread_text names s t standing)
  thread_there t standing =
      let there = λ (v : Value). HasText (output_line names.texts v) in
      let each = All-weaker (NamesWhatIsThere names s) there output_there (s.output t) (whole.printed t) in
      behind (thread_line t standing) (each_of (output_line names.texts) (reverse (s.output t))) (all_of (output_line names.texts) (reverse (s.output t)) (all_reversed there (s.output t) each))

  module _ (order : List ℕ) (is_order : IsOrder s order) where
    -- the line of a root is there
    root_there : (r : ℕ) → r < fields_of s 0 → HasText (root_line names order s r)
    root_there r within =
        let name = option_map root_name (slice_get names.roots r) in
        let value = shown_in names.texts order (s.heap (0, r)) in
        let line_end = Some (codes "\n") in
        let named = item_there root_name names.roots r (omega (arith, within, whole.roots)) in
        let held = field_there names s order whole 0 r within (λ named is. (orders_are_closed s order is_order).roots r named within is) in
        behind (codes "root ") (name ++? Some (codes " ") ++? value ++? line_end)
        (both name (Some (codes " ") ++? value ++? line_end) named (behind (codes " ") (value ++? line_end) (both value line_end held given)))

    -- the line of an object of the order is there
    line_there : (o : ℕ) → Contains order o → HasText (object_line names order s o)
    line_there o stands =
        let is_object = λ (named : ℕ). NamesWhatIsThere names s (value.Ref named) in
        let there = All-contains is_object order o (all_named is_object s (λ holder f named holds. whole.values holder f (value.Ref named) holds) order is_order) stands in
        object_there names order s o whole (orders_are_closed s order is_order) stands there.0 there.1

    -- the graph's lines are there
    graph_there : HasText (graph_text names order s)
    graph_there =
        both (each_below (root_line names order s) (fields_of s 0)) (each_of (object_line names order s) order)
        (all_below (root_line names order s) (fields_of s 0) root_there)
        (all_of (object_line names order s) order (All-weaker (Contains order) (λ o. HasText (object_line names order s o)) line_there order (All-contains_itself order)))

-- where nothing is missing no text is lacking
pub lacks_nothing : (names : Names) (s : PlainState) → IsWholeState names s → IsReportTextMissing names s → ⊥
lacks_nothing names s whole (inl of_thread) = not_missing (thread_text names s of_thread.thread of_thread.standing) (thread_there names s whole of_thread.thread of_thread.standing) of_thread.lacks
lacks_nothing names s whole (inr of_graph) = not_missing (graph_text names of_graph.order s) (graph_there names s whole of_graph.order of_graph.is_order) of_graph.lacks
