-- A server that lacks only garbage: with one entry more it does, and it has what a path reaches and what is named.
use Rattle.std.specs.List.{list_any}
use Rattle.std.proofs.Common.{ℕ, ◌≡◌, ◌≢◌, ◌⊎◌, inl, inr, refl, sym, ◌∙◌, ap, true, false, eqb, Option, Some, None}
use Rattle.std.proofs.Common.{List, [], ◌∷◌, Contains}
use Rattle.std.proofs.lemmas.List.Folds.{list_any_at}
use Rattle.dso_base.specs.declared.journal.Entry.{Entry}
use Rattle.dso_base.specs.declared.journal.Node.TheVariants.{Server}
use Rattle.dso_base.specs.declared.lock.ThreadId.{ThreadId}
use Rattle.dso_base.specs.declared.message.Up.{Up}
use Rattle.dso_base.specs.declared.record.Body.{Body}
use Rattle.dso_base.specs.declared.request.Event.{Event}
use Rattle.dso_base.specs.declared.request.Request.{Request}
use Rattle.dso_base.specs.declared.value.Value.{Value}
use Rattle.dso_base.specs.Naming.{down_names, up_names}
use Rattle.dso_base.specs.Reached.{begins}
use Rattle.dso_lookup.proofs.Tests.{left_holds, right_holds}
use Rattle.dso_law.specs.Settings.{Settings, clients_of, threads_of}
use Rattle.dso_law.specs.Channels.{down_in_flight, up_in_flight}
use Rattle.dso_law.specs.Entries.{entries_of}
use Rattle.dso_law.specs.ServerReadings.{counted, is_lost}
use Rattle.dso_law.specs.Store.{stored}
use Rattle.dso_legal.specs.Agreement.{messages}
use Rattle.dso_legal.specs.Collection.{IsLive, client_names, is_in_flight, is_kept, thread_names}
use Rattle.dso_gc_law.specs.Lacking.{HasStoredOrNone, LackedStaysGarbage, LacksOnlyGarbage, NamedAreThere}
use Rattle.dso_gc_law.proofs.garbage.Laws.{garbage_stays}
use Rattle.dso_gc_law.proofs.garbage.Stays.{is_kept_so}

-- with one entry more
pub lacked_stays_garbage : LackedStaysGarbage
lacked_stays_garbage p next frames keeps sound e es follow old new lacks only o lacked =
    garbage_stays p next frames keeps sound (e ∷ []) es follow o (only o (lacks o lacked))

-- there is nothing or something
pub nothing_or_some : {X : Type 0} (x : Option X) → (x ≡ None) ⊎ (x ≢ None)
nothing_or_some None = inl refl
nothing_or_some (Some x) = inr (λ none. cc none)

module _ (p : Settings) (next : ThreadId → List Event → Option Request)
    (frames : ThreadId → List Event → List Value) (has : ℕ → Option Body) (es : List Entry)
    (stands : HasStoredOrNone p has es) (only : LacksOnlyGarbage p next frames has es) where
  -- the server has the stored body of what a path reaches
  pub reached_there : (o : ℕ) → IsLive p next frames (is_kept p es) es o
      → has o ≡ stored p.shape o (counted (entries_of Server es))
  reached_there o live = elim (stands o) [
    | inl same ↦ same
    | inr none ↦ elim (nothing_or_some (stored p.shape o (counted (entries_of Server es)))) [
      | inl unstored ↦ none ∙ sym unstored
      | inr some ↦ absurd ((only o (some, none)).unreached live)
    ]
  ]

  -- what a message in flight names, its client names
  named_by : (c : ℕ) (m : Up) → Contains (messages (up_in_flight c es)) m → (o : ℕ) → up_names m o ≡ true
      → client_names p next frames c es o ≡ true
  named_by c m there o is =
      let ups = messages (up_in_flight c es) in
      let downs = messages (down_in_flight c es) in
      let one = list_any_at (λ m. up_names m o) ups there.0 m there.1 (ap (λ m. up_names m o) there.2 ∙ is) in
      right_holds (list_any (λ t. thread_names p next frames t es o) (threads_of p c)) (is_in_flight c es o)
      (left_holds (list_any (λ m. up_names m o) ups) (list_any (λ m. down_names m o) downs) one)

  named_there : (c : ℕ) (m : Up) → Contains (messages (up_in_flight c es)) m
      → list_any (eqb c) (clients_of p) ≡ true → is_lost c (entries_of Server es) ≡ false
      → (o : ℕ) → up_names m o ≡ true → has o ≡ stored p.shape o (counted (entries_of Server es))
  named_there c m there own alive o is =
      reached_there o (begins o (inr (c, is_kept_so p c es own alive, named_by c m there o is)))

pub named_are_there : NamedAreThere
named_are_there p next frames has es stands only c m there own alive o is =
    named_there p next frames has es stands only c m there own alive o is
