-- Nothing is missing that the report of a state names, where a run of a sound program leads to the state.
use Rattle.std.proofs.Common.{◌≡◌, ◌≢◌, ℕ, ◌<◌, refl, sym, ap, ◌∙◌, subst, true, false, true≢false, List, length, slice_get, Option, None, Some}
use Rattle.std.specs.Option.{option_map}
use Rattle.std.specs.Prelude.{is_some, slice_index_or}
use Rattle.std.proofs.lemmas.Bool.{eq-eqb, lt-ltb}
use Rattle.std.proofs.lemmas.Option.{slice_get_within, slice_get-map}
use Rattle.dso_base.specs.declared.shape.ClassShape.{ClassShape}
use Rattle.dso_base.specs.declared.value.ClassId.{ClassId}
use Rattle.dso_base.specs.declared.value.ClassId.TheVariants as class
use Rattle.dso_base.specs.declared.value.Value.{Value}
use Rattle.dso_base.specs.declared.value.Value.TheVariants as value
use Rattle.dso_class.specs.declared.program.Program.{Program}
use Rattle.dso_class.specs.Sound.{HasNames, IsSoundProgram}
use Rattle.dso_map.specs.MapClass.{map_size}
use Rattle.dso_plain.specs.History.{last_state}
use Rattle.dso_plain.specs.Past.{KeepsPast}
use Rattle.dso_plain.specs.Possible.{IsFieldCount, CanBeMade}
use Rattle.dso_plain.specs.State.{PlainState, HasField, opening, size_of}
use Rattle.dso_plain.proofs.histories.RunKinds.{runs_but_marks}
use Rattle.dso_plain.proofs.invariants.PastsHold.{past}
use Rattle.dso_report.specs.HistoryState.{IsLastStateOf}
use Rattle.dso_report.specs.MapEntries.{is_map_sized}
use Rattle.dso_report.specs.WholeState.{NamesWhatIsThere, HasFieldWords, HasClassWords, HasWords, IsWholeState}
use Rattle.dso_report.specs.Told.{IsKnownValue}
use Rattle.dso_report.proofs.histories.ValuesOfHistory.{IsObject, IsOwnText, last_known}
use Rattle.dso_report.proofs.histories.StateObjects.{HasObjects, opening_objects, run_grows}
use Rattle.dso_report.proofs.histories.StateValues.{HasOnly}

-- a value is there at each field that an object has
field_there : (s : PlainState) (o f : ℕ) → KeepsPast s → HasField o f s → s.heap (o, f) ≢ None
field_there s o f keeps has none =
    let some : is_some (s.heap (o, f)) ≡ true = keeps.fields o f ∙ lt-ltb f (size_of (s.objects o)) has in
    cc (sym (ap (λ found. is_some found) none) ∙ some)

module _ (p : Program) (names : HasNames p) where
  -- a value that names only what is there has its words
  is_there : (s : PlainState) (v : Value) → IsKnownValue (IsOwnText p.code.shape) (IsObject s) v → NamesWhatIsThere p.names s v
  is_there s (value.Ref o) named = named
  is_there s (value.Text i) named = subst (λ count. i < count) (sym names.texts) named
  is_there s value.Null named = tt
  is_there s (value.Long z) named = tt
  is_there s (value.Bool b) named = tt

  -- a class of the shape has words for its fields, if they aren't those of a map
  class_field_words : (c : ℕ) (class : ClassShape) → slice_get p.code.shape.classes c ≡ Some class → length class.fields ≢ map_size → HasFieldWords p.names c (length class.fields)
  class_field_words c class is other =
      let named = names.fields c class is other in record { words = named.words; are_words = named.there; each = named.each }

  -- a class of the shape has its words
  class_words : (c n : ℕ) (found : Option ClassShape) → slice_get p.code.shape.classes c ≡ found → IsFieldCount found n → HasClassWords p.names c n
  class_words c n None is count = absurd count
  class_words c n (Some one) is count =
      let there : c < length p.names.classes = subst (λ classes. c < classes) (sym names.classes) (slice_get_within p.code.shape.classes c one is) in
      let none : is_map_sized (class.Plain c) n ≡ false → length one.fields ≢ map_size = λ other same. true≢false (sym (eq-eqb n map_size (count ∙ same)) ∙ other) in
      record { class = there; fields = λ other. subst (HasFieldWords p.names c) (sym count) (class_field_words c one is (none other)) }

  -- an object that can be made has its words
  pub words : (class : ClassId) (n : ℕ) → CanBeMade p.code.shape class n → HasWords p.names n class
  words (class.Plain c) n made = class_words c n (slice_get p.code.shape.classes c) refl made
  words (class.Array kind) n made = tt
  words class.Roots n made = made

  -- nothing is missing in a state that has the program's objects, and values that name only what is there
  whole_by : (s : PlainState) → KeepsPast s → HasObjects p.code.shape s → HasOnly (IsKnownValue (IsOwnText p.code.shape) (IsObject s)) s → IsWholeState p.names s
  whole_by s keeps has only = record {
    roots = has.roots ∙ sym names.roots;
    fields = λ o f there. field_there s o f keeps there;
    values = λ o f v is. is_there s v (only.heap (o, f) v is);
    printed = λ t k d within. is_there s (slice_index_or (s.output t) k d) (only.output t k d within);
    words = λ o object other is. words object.class object.size (has.others o object other is);
  }

-- in a state of a sound program nothing is missing
pub whole : (p : Program) (s : PlainState) → IsSoundProgram p → IsLastStateOf p s → IsWholeState p.names s
whole p s sound state =
    let last : PlainState = last_state p.code.shape state.history in
    let has : HasObjects p.code.shape last = (run_grows p.code.shape state.history (opening p.code.shape) state.legal.runs).has (opening_objects p.code.shape) in
    subst (IsWholeState p.names) (sym state.is_last) (whole_by p sound.names last (past p.code.shape state.history (runs_but_marks p.code.shape state.history (opening p.code.shape) state.legal.runs)) has (last_known p.code sound.code state.history state.legal))
