-- An object that is there has a text.
use Rattle.std.proofs.Common.{◌≡◌, ◌≢◌, ℕ, ◌<◌, Bool, true, false, cond, Option, Some, None, List, ◌++◌, length, slice_get, refl, sym, ap, ◌∙◌, subst, arith, codes, decimal, All, Contains}
use Rattle.std.specs.Fmt.{signed_decimal, ◌++?◌}
use Rattle.std.proofs.lemmas.List.Elements.{All-weaker}
use Rattle.dso_base.specs.declared.value.ClassId.{ClassId}
use Rattle.dso_base.specs.declared.value.ClassId.TheVariants as class
use Rattle.dso_class.specs.declared.program.Names.{Names}
use Rattle.dso_map.specs.Fields.{slots}
use Rattle.dso_plain.specs.State.{PlainState, Object, HasField, size_of}
use Rattle.dso_report.specs.declared.maps.MapEntry.{MapEntry}
use Rattle.dso_report.specs.MapEntries.{is_map_sized, is_map_there, map_entries}
use Rattle.dso_report.specs.Report.{body_text, element_text, entry_text, field_text, fields_text, object_line, object_text, parts_text}
use Rattle.dso_report.specs.Texts.{each_below, each_of, kind_text, numbered, shown_in}
use Rattle.dso_report.specs.WholeState.{HasFieldWords, HasWords, IsWholeState, IsClosedOrder}
use Rattle.dso_report.proofs.entries.OfSlots.{OfObject, entries_hold}
use Rattle.dso_report.proofs.texts.HasText.{HasText, given, both, behind, word_there, all_below, all_of}
use Rattle.dso_report.proofs.texts.ValueTexts.{field_there, number_there}

module _ (names : Names) (order : List ℕ) (s : PlainState) (o : ℕ) where
  -- each of the object's first fields has a value with a text
  record ShowsBelow (size : ℕ) : Type 0 where
    shows : (f : ℕ) → f < size → HasText (shown_in names.texts order (s.heap (o, f)))

  -- the fields are there by their names
  named_fields_there : (size : ℕ) (fields : List (List ℕ)) → length fields ≡ size → ShowsBelow size → HasText (each_below (field_text names order s o fields) size)
  named_fields_there size fields as_many shown = all_below (field_text names order s o fields) size (λ f below.
      let value = shown_in names.texts order (s.heap (o, f)) in
      behind (codes " ") (slice_get fields f ++? Some (codes "=") ++? value)
      (both (slice_get fields f) (Some (codes "=") ++? value) (word_there fields f (omega (arith, below, as_many))) (behind (codes "=") value (shown.shows f below))))

  -- the elements are there
  elements_there : (size : ℕ) → ShowsBelow size → HasText (each_below (element_text names order s o) size)
  elements_there size shown = all_below (element_text names order s o) size (λ f below. behind (codes " ") (shown_in names.texts order (s.heap (o, f))) (shown.shows f below))

  -- the entries of a map are there
  entries_there : (entries : List MapEntry) → All (OfObject (Contains order)) entries → HasText (each_of (entry_text order) entries)
  entries_there entries each =
      let there : (entry : MapEntry) → OfObject (Contains order) entry → HasText (entry_text order entry) =
      λ entry has. behind (codes " " ++ (signed_decimal entry.key ++ codes "=")) (numbered order entry.object) (number_there order entry.object has) in
      all_of (entry_text order) entries (All-weaker (OfObject (Contains order)) (λ entry. HasText (entry_text order entry)) there entries each)

  -- the fields are there by the names of the class
  class_fields_there : (size c : ℕ) → HasFieldWords names c size → ShowsBelow size → HasText (fields_text names order s o size (slice_get names.fields c))
  class_fields_there size c words shown =
      subst (λ found. HasText (fields_text names order s o size found)) (sym words.are_words) (named_fields_there size words.words words.each shown)

  -- What a map shows has numbers, and what the fields of another object hold has texts.
  record ShowsParts (size : ℕ) (map : Bool) : Type 0 where
    held : map ≡ true → All (OfObject (Contains order)) (map_entries s o)
    fields : map ≡ false → ShowsBelow size

  -- what an object of a class of the program has is there
  parts_there : (size c : ℕ) (map : Bool) → (map ≡ false → HasFieldWords names c size) → ShowsParts size map → HasText (cond map (each_of (entry_text order) (map_entries s o)) (fields_text names order s o size (slice_get names.fields c)))
  parts_there size c true words shown = entries_there (map_entries s o) (shown.held refl)
  parts_there size c false words shown = class_fields_there size c (words refl) (shown.fields refl)

  -- the object is there by its class
  body_there : (size : ℕ) (c : ClassId) → HasWords names size c → ShowsParts size (is_map_sized c size) → HasText (body_text names order s o size c)
  body_there size (class.Plain c) words shown =
      both (slice_get names.classes c) (parts_text names order s o size c) (word_there names.classes c words.class) (parts_there size c (is_map_sized (class.Plain c) size) words.fields shown)
  body_there size (class.Array kind) words shown =
      behind (kind_text kind ++ (codes "[" ++ (decimal size ++ codes "]"))) (each_below (element_text names order s o) size) (elements_there size (shown.fields refl))
  body_there size class.Roots words shown = absurd words

  module _ (whole : IsWholeState names s) (closed : IsClosedOrder s order) (stands : Contains order o) where
    -- an object of the order is there
    found_there : (found : Option Object) → s.objects o ≡ found → found ≢ None → o ≢ 0 → HasText (object_text names order s o found)
    found_there None is there apart = absurd (there refl)
    found_there (Some object) is there apart =
        let size : size_of (s.objects o) ≡ object.size = ap size_of is in
        let map : is_map_there (s.objects o) ≡ is_map_sized object.class object.size = ap is_map_there is in
        body_there object.size object.class (whole.words o object apart is) (record {
          held = λ is_one. entries_hold (OfObject (Contains order)) s o slots (λ slot named within. closed.held o slot named stands (map ∙ is_one) within);
          fields = λ is_none. record {
            shows = λ f below.
                let has : HasField o f s = omega (arith, below, size) in
                field_there names s order whole o f has (λ named. closed.fields o f named stands (map ∙ is_none) has);
          };
        })

    -- the line of an object of the order is there
    pub object_there : o ≢ 0 → s.objects o ≢ None → HasText (object_line names order s o)
    object_there apart there =
        let text = object_text names order s o (s.objects o) in
        both (numbered order o) (Some (codes " ") ++? text ++? Some (codes "\n")) (number_there order o stands)
        (behind (codes " ") (text ++? Some (codes "\n")) (both text (Some (codes "\n")) (found_there (s.objects o) refl there apart) given))
