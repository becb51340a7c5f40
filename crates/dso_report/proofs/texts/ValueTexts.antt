-- A value that names only what is there has a text.
use Rattle.std.proofs.Common.{◌≡◌, ◌≢◌, inl, inr, ℕ, suc, true, false, true≢false, nat_lt, ◌<◌, ◌++◌, Option, Some, None, option_map, List, length, get_or, refl, sym, ap, ◌∙◌, arith, Contains}
use Rattle.std.specs.List.{position, position_or_len}
use Rattle.std.specs.Prelude.{eqb, not, codes}
use Rattle.std.specs.Fmt.{decimal}
use Rattle.std.proofs.lemmas.Bool.{cases_lt, cond-true, eq-eqb, lt-ltb}
use Rattle.std.proofs.lemmas.List.Sums.{prefix_len_passes}
use Rattle.dso_base.specs.declared.value.Value.{Value}
use Rattle.dso_base.specs.declared.value.Value.TheVariants as value
use Rattle.dso_class.specs.declared.program.Names.{Names}
use Rattle.dso_plain.specs.State.{PlainState, HasField}
use Rattle.dso_report.specs.Texts.{printed, number_of, numbered, quoted, shown, shown_in}
use Rattle.dso_report.specs.WholeState.{NamesWhatIsThere, IsWholeState}
use Rattle.dso_report.proofs.texts.HasText.{HasText, given, item_there, of_found, word_there}

-- a printed value has a text
pub printed_there : (names : Names) (s : PlainState) (v : Value) → NamesWhatIsThere names s v → HasText (printed names.texts v)
printed_there names s value.Null there = given
printed_there names s (value.Long z) there = given
printed_there names s (value.Bool true) there = given
printed_there names s (value.Bool false) there = given
printed_there names s (value.Text i) there = word_there names.texts i there
printed_there names s (value.Ref o) there = given

-- the first place of an object that the order has is before the end
place_within : (order : List ℕ) (o : ℕ) → Contains order o → position_or_len (eqb o) order < length order
place_within order o there = elim (cases_lt (position_or_len (eqb o) order) (length order)) [
  | inl within ↦ within
  | inr past ↦
      let passed = prefix_len_passes (λ x. not (eqb o x)) order there.0 o (omega (arith, past, there.1)) in
      absurd (true≢false (sym passed ∙ ap not (eq-eqb o (get_or order there.0 o) (sym there.2))))
]

-- an object of the order has a number
pub number_there : (order : List ℕ) (o : ℕ) → Contains order o → HasText (numbered order o)
number_there order o there =
    let place = position_or_len (eqb o) order in
    let found : position (eqb o) order ≡ Some place = cond-true (nat_lt place (length order)) (Some place) None (lt-ltb place (length order) (place_within order o there)) in
    of_found (λ n. codes "#" ++ decimal n) (number_of order o) (suc place) (ap (option_map suc) found)

-- a value has a text in the graph if the order has the object that it names
shown_there : (names : Names) (s : PlainState) (order : List ℕ) (v : Value) → NamesWhatIsThere names s v → ((named : ℕ) → v ≡ value.Ref named → Contains order named) → HasText (shown names.texts order v)
shown_there names s order value.Null there has = given
shown_there names s order (value.Long z) there has = given
shown_there names s order (value.Bool true) there has = given
shown_there names s order (value.Bool false) there has = given
shown_there names s order (value.Text i) there has = item_there quoted names.texts i there
shown_there names s order (value.Ref o) there has = number_there order o (has o refl)

-- the value of a field that has one has a text in the graph
held_there : (names : Names) (s : PlainState) (order : List ℕ) (held : Option Value) → held ≢ None → ((v : Value) → held ≡ Some v → NamesWhatIsThere names s v) → ((named : ℕ) → held ≡ Some (value.Ref named) → Contains order named) → HasText (shown_in names.texts order held)
held_there names s order None some there has = absurd (some refl)
held_there names s order (Some v) some there has = shown_there names s order v (there v refl) (λ named is. has named (ap Some is))

-- a field that an object has has a text in the graph if the order has the object that it names
pub field_there : (names : Names) (s : PlainState) (order : List ℕ) → IsWholeState names s → (o f : ℕ) → HasField o f s → ((named : ℕ) → s.heap (o, f) ≡ Some (value.Ref named) → Contains order named) → HasText (shown_in names.texts order (s.heap (o, f)))
field_there names s order whole o f has named = held_there names s order (s.heap (o, f)) (whole.fields o f has) (whole.values o f) named
