-- What messages make of a body: it names what it named before, or what a message names.
use Rattle.std.specs.List.{list_any}
use Rattle.std.specs.Prelude.{slice_set}
use Rattle.std.proofs.Common.{ℕ, zero, suc, ◌≡◌, ◌⊎◌, inl, inr, refl, Bool, true, false, cond, eqb, ◌||◌}
use Rattle.std.proofs.Common.{Option, Some, None, List, [], ◌∷◌}
use Rattle.std.proofs.lemmas.Bool.{or_cases}
use Rattle.dso_base.specs.declared.journal.Entry.{Entry}
use Rattle.dso_base.specs.declared.journal.Input.{Input}
use Rattle.dso_base.specs.declared.journal.Input.TheVariants as input
use Rattle.dso_base.specs.declared.journal.Sent.{Sent}
use Rattle.dso_base.specs.declared.journal.Sent.TheVariants.{ToServer, ToClient}
use Rattle.dso_base.specs.declared.message.Down.{Down}
use Rattle.dso_base.specs.declared.message.Down.TheVariants as down
use Rattle.dso_base.specs.declared.message.Up.{Up}
use Rattle.dso_base.specs.declared.message.Up.TheVariants as up
use Rattle.dso_base.specs.declared.record.Body.{Body}
use Rattle.dso_base.specs.declared.record.Set.{Set}
use Rattle.dso_base.specs.declared.record.Txn.{Txn}
use Rattle.dso_base.specs.declared.value.Value.{Value}
use Rattle.dso_base.specs.declared.value.Value.TheVariants as value
use Rattle.dso_base.specs.Block.{has_reference, body_names}
use Rattle.dso_base.specs.Naming.{body_with_names, down_names, ending_names, note_names, record_names, set_names}
use Rattle.dso_base.specs.Naming.{up_names}
use Rattle.dso_lookup.proofs.Tests.{left_holds, right_holds}
use Rattle.dso_law.specs.Entries.{by_taken_down, by_sent_up, one_sent_up}
use Rattle.dso_law.specs.HeldBody.{body_by_taken, body_by_sent, body_by_flush, held_body}
use Rattle.dso_law.specs.Store.{body_by_news, body_with, body_by_sets, body_by}
use Rattle.dso_gc_law.specs.Garbage.{sent_names}

-- the object that is named
module _ (b : ℕ) where
  -- ---- values

  -- what a list of values names its first one names, or the others do
  one_of : (v : Value) (vs : List Value) → has_reference b (v ∷ vs) ≡ true
      → (has_reference b (v ∷ []) ≡ true) ⊎ (has_reference b vs ≡ true)
  one_of (value.Ref n) vs e = elim (or_cases (eqb n b) (has_reference b vs) e) [
    | inl here ↦ inl (left_holds (eqb n b) false here)
    | inr later ↦ inr later
  ]
  one_of value.Null vs e = inr e
  one_of (value.Long n) vs e = inr e
  one_of (value.Bool t) vs e = inr e
  one_of (value.Text n) vs e = inr e

  at_first : (v : Value) (vs : List Value) → has_reference b (v ∷ []) ≡ true → has_reference b (v ∷ vs) ≡ true
  at_first (value.Ref n) vs e = elim (or_cases (eqb n b) false e) [
    | inl here ↦ left_holds (eqb n b) (has_reference b vs) here
    | inr none ↦ absurd (cc none)
  ]
  at_first value.Null vs e = absurd (cc e)
  at_first (value.Long n) vs e = absurd (cc e)
  at_first (value.Bool t) vs e = absurd (cc e)
  at_first (value.Text n) vs e = absurd (cc e)

  further : (v : Value) (vs : List Value) → has_reference b vs ≡ true → has_reference b (v ∷ vs) ≡ true
  further (value.Ref n) vs e = right_holds (eqb n b) (has_reference b vs) e
  further value.Null vs e = e
  further (value.Long n) vs e = e
  further (value.Bool t) vs e = e
  further (value.Text n) vs e = e

  -- values of which one was set name what they named before, or what that one names
  with_one : (values : List Value) (f : ℕ) (v : Value) → has_reference b (slice_set values f v) ≡ true
      → (has_reference b values ≡ true) ⊎ (has_reference b (v ∷ []) ≡ true)
  with_one [] f v e = inl e
  with_one (x ∷ values) zero v e = elim (one_of v values e) [
    | inl it ↦ inr it
    | inr old ↦ inl (further x values old)
  ]
  with_one (x ∷ values) (suc f) v e = elim (one_of x (slice_set values f v) e) [
    | inl here ↦ inl (at_first x values here)
    | inr later ↦ elim (with_one values f v later) [
      | inl old ↦ inl (further x values old)
      | inr it ↦ inr it
    ]
  ]

  -- ---- sets and new bodies

  set_on : (set : Set) (before : Option Body) → body_names (body_with set before) b ≡ true
      → (body_names before b ≡ true) ⊎ (set_names set b ≡ true)
  set_on set None e = inl e
  set_on set (Some body) e = elim (with_one body.values set.field set.value e) [
    | inl old ↦ inl old
    | inr it ↦ inr (right_holds (eqb set.object b) (has_reference b (set.value ∷ [])) it)
  ]

  by_set : (o : ℕ) (set : Set) (before : Option Body)
      → body_names (cond (eqb set.object o) (body_with set before) before) b ≡ true
      → (body_names before b ≡ true) ⊎ (set_names set b ≡ true)
  by_set o set before = by (eqb set.object o)
    where
      by : (its : Bool) → body_names (cond its (body_with set before) before) b ≡ true
          → (body_names before b ≡ true) ⊎ (set_names set b ≡ true)
      by true e = set_on set before e
      by false e = inl e

  -- sets add what one of them names
  by_sets : (o : ℕ) (sets : List Set) (before : Option Body) → body_names (body_by_sets o sets before) b ≡ true
      → (body_names before b ≡ true) ⊎ (list_any (λ set. set_names set b) sets ≡ true)
  by_sets o [] before e = inl e
  by_sets o (set ∷ sets) before e =
      let rest : Bool = list_any (λ set. set_names set b) sets in
      elim (by_sets o sets (cond (eqb set.object o) (body_with set before) before) e) [
        | inl now ↦ elim (by_set o set before now) [
          | inl old ↦ inl old
          | inr it ↦ inr (left_holds (set_names set b) rest it)
        ]
        | inr later ↦ inr (right_holds (set_names set b) rest later)
      ]

  by_new : (o : ℕ) (body : Body) (before : Option Body)
      → body_names (cond (eqb body.object o) (Some body) before) b ≡ true
      → (body_names before b ≡ true) ⊎ (body_with_names body b ≡ true)
  by_new o body before = by (eqb body.object o)
    where
      by : (its : Bool) → body_names (cond its (Some body) before) b ≡ true
          → (body_names before b ≡ true) ⊎ (body_with_names body b ≡ true)
      by true e = inr (right_holds (eqb body.object b) (has_reference b body.values) e)
      by false e = inl e

  -- and new bodies what one of these does
  by_news : (o : ℕ) (news : List Body) (before : Option Body) → body_names (body_by_news o news before) b ≡ true
      → (body_names before b ≡ true) ⊎ (list_any (λ body. body_with_names body b) news ≡ true)
  by_news o [] before e = inl e
  by_news o (body ∷ news) before e =
      let rest : Bool = list_any (λ body. body_with_names body b) news in
      elim (by_news o news (cond (eqb body.object o) (Some body) before) e) [
        | inl now ↦ elim (by_new o body before now) [
          | inl old ↦ inl old
          | inr it ↦ inr (left_holds (body_with_names body b) rest it)
        ]
        | inr later ↦ inr (right_holds (body_with_names body b) rest later)
      ]

  -- ---- a record

  -- what its news, its sets, its notifications or its ending name the record names
  pub of_news : (txn : Txn) → list_any (λ body. body_with_names body b) txn.news ≡ true → record_names txn b ≡ true
  of_news txn e = left_holds (list_any (λ body. body_with_names body b) txn.news) _ e

  pub of_sets : (txn : Txn) → list_any (λ set. set_names set b) txn.sets ≡ true → record_names txn b ≡ true
  of_sets txn e = right_holds (list_any (λ body. body_with_names body b) txn.news) _
      (left_holds (list_any (λ set. set_names set b) txn.sets) _ e)

  behind_outs : (txn : Txn) → (list_any (λ note. note_names note b) txn.notes || ending_names txn.ending b) ≡ true
      → record_names txn b ≡ true
  behind_outs txn e = right_holds (list_any (λ body. body_with_names body b) txn.news) _
      (right_holds (list_any (λ set. set_names set b) txn.sets) _ (right_holds (has_reference b txn.outs) _ e))

  pub of_notes : (txn : Txn) → list_any (λ note. note_names note b) txn.notes ≡ true → record_names txn b ≡ true
  of_notes txn e = behind_outs txn (left_holds (list_any (λ note. note_names note b) txn.notes) _ e)

  pub of_ending : (txn : Txn) → ending_names txn.ending b ≡ true → record_names txn b ≡ true
  of_ending txn e = behind_outs txn (right_holds (list_any (λ note. note_names note b) txn.notes) _ e)

  by_record : (o : ℕ) (txn : Txn) (before : Option Body)
      → body_names (body_by_sets o txn.sets (body_by_news o txn.news before)) b ≡ true
      → (body_names before b ≡ true) ⊎ (record_names txn b ≡ true)
  by_record o txn before e = elim (by_sets o txn.sets (body_by_news o txn.news before) e) [
    | inl now ↦ elim (by_news o txn.news before now) [
      | inl old ↦ inl old
      | inr it ↦ inr (of_news txn it)
    ]
    | inr it ↦ inr (of_sets txn it)
  ]

  -- ---- the server's body after a message that it takes

  pub stored_by : (o c : ℕ) (m : Up) (before : Option Body) → body_names (body_by o c m before) b ≡ true
      → (body_names before b ≡ true) ⊎ (up_names m b ≡ true)
  stored_by o c (up.Commit txn) before e = by_record o txn before e
  stored_by o c m before e = inl e

  -- ---- a client's copy after an entry

  by_taken : (o : ℕ) (m : Down) (before : Option Body) → body_names (body_by_taken o m before) b ≡ true
      → (body_names before b ≡ true) ⊎ (down_names m b ≡ true)
  by_taken o (down.Object body) before e = by_new o body before e
  by_taken o (down.Changes sets) before e = by_sets o sets before e
  by_taken o m before e = inl e

  by_message : (o : ℕ) (m : Up) (before : Option Body) → body_names (body_by_sent o m before) b ≡ true
      → (body_names before b ≡ true) ⊎ (up_names m b ≡ true)
  by_message o (up.Commit txn) before e = by_record o txn before e
  by_message o m before e = inl e

  by_one_sent : (o : ℕ) (m : Sent) (before : Option Body)
      → body_names (one_sent_up (body_by_sent o) before m) b ≡ true
      → (body_names before b ≡ true) ⊎ (sent_names m b ≡ true)
  by_one_sent o (ToServer m) before e = by_message o m before e
  by_one_sent o (ToClient c m) before e = inl e

  by_sent : (o : ℕ) (sent : List Sent) (before : Option Body)
      → body_names (by_sent_up (body_by_sent o) sent before) b ≡ true
      → (body_names before b ≡ true) ⊎ (list_any (λ m. sent_names m b) sent ≡ true)
  by_sent o [] before e = inl e
  by_sent o (m ∷ sent) before e =
      let rest : Bool = list_any (λ m. sent_names m b) sent in
      elim (by_sent o sent (one_sent_up (body_by_sent o) before m) e) [
        | inl now ↦ elim (by_one_sent o m before now) [
          | inl old ↦ inl old
          | inr it ↦ inr (left_holds (sent_names m b) rest it)
        ]
        | inr later ↦ inr (right_holds (sent_names m b) rest later)
      ]

  -- a flush adds nothing
  by_flush : (o : ℕ) (i : Input) (before : Option Body) → body_names (body_by_flush o i before) b ≡ true
      → body_names before b ≡ true
  by_flush o (input.Flush x) before = by (eqb x o)
    where
      by : (its : Bool) → body_names (cond its None before) b ≡ true → body_names before b ≡ true
      by true e = absurd (cc e)
      by false e = e
  by_flush o i before = λ e. e

  -- the copy was so before, or the entry takes a message that names it, or sends one
  abbrev pub TakesNaming : Input → Type 0
  TakesNaming i = (m : Down) × (i ≡ input.TookDown m) × (down_names m b ≡ true)

  taken_in : (o : ℕ) (i : Input) (before : Option Body) → body_names (by_taken_down (body_by_taken o) i before) b ≡ true
      → (body_names before b ≡ true) ⊎ TakesNaming i
  taken_in o (input.TookDown m) before e = elim (by_taken o m before e) [
    | inl old ↦ inl old
    | inr it ↦ inr (m, refl, it)
  ]
  taken_in o i before e = inl e

  pub held_by_entry : (o : ℕ) (e : Entry) (es : List Entry) → body_names (held_body o (e ∷ es)) b ≡ true
      → (body_names (held_body o es) b ≡ true) ⊎ (TakesNaming e.input ⊎ (list_any (λ m. sent_names m b) e.sent ≡ true))
  held_by_entry o e es names =
      let taken : Option Body = by_taken_down (body_by_taken o) e.input (held_body o es) in
      let sent : Option Body = by_sent_up (body_by_sent o) e.sent taken in
      elim (by_sent o e.sent taken (by_flush o e.input sent names)) [
        | inl now ↦ elim (taken_in o e.input (held_body o es) now) [
          | inl old ↦ inl old
          | inr it ↦ inr (inl it)
        ]
        | inr it ↦ inr (inr it)
      ]
