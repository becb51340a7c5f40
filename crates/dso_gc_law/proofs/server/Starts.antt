-- What is in flight between the server and a client that counts is known, and what a thread of such a client names.
use Rattle.std.specs.List.{list_any}
use Rattle.std.specs.Option.{option_map_or}
use Rattle.std.specs.Prelude.{Contains}
use Rattle.std.proofs.Common.{ℕ, ◌≡◌, inr, ◌∙◌, ap, subst, Bool, true, false, Option, List, [], ◌∷◌}
use Rattle.std.proofs.lemmas.List.Folds.{list_any_at}
use Rattle.dso_base.specs.declared.journal.Entry.{Entry}
use Rattle.dso_base.specs.declared.journal.Node.TheVariants.{Client}
use Rattle.dso_base.specs.declared.lock.ThreadId.{ThreadId}
use Rattle.dso_base.specs.declared.message.Down.{Down}
use Rattle.dso_base.specs.declared.message.Up.{Up}
use Rattle.dso_base.specs.declared.request.Event.{Event}
use Rattle.dso_base.specs.declared.request.Request.{Request}
use Rattle.dso_base.specs.declared.value.Value.{Value}
use Rattle.dso_base.specs.Block.{has_reference}
use Rattle.dso_base.specs.Naming.{request_names, up_names, down_names}
use Rattle.dso_base.specs.Reached.{begins}
use Rattle.dso_machine.specs.Frames.{holds_then}
use Rattle.dso_lookup.proofs.Tests.{left_holds, right_holds}
use Rattle.dso_law.specs.Channels.{Letter, IsFirst, up_in_flight, down_in_flight}
use Rattle.dso_law.specs.Entries.{entries_of, events_in}
use Rattle.dso_law.specs.Settings.{Settings, threads_of}
use Rattle.dso_legal.specs.Agreement.{messages}
use Rattle.dso_legal.specs.Collection.{IsLive, client_names, is_in_flight, thread_names}
use Rattle.dso_legal.specs.Lawful.{next_after}

-- what the first letter's message passes a message in flight passes
first_passes : {M : Type 0} (test : M → Bool) (m : M) (letters : List (Letter M)) → IsFirst m letters → test m ≡ true
    → list_any test (messages letters) ≡ true
first_passes test m [] first passes = absurd first
first_passes test m (letter ∷ letters) first passes =
    left_holds (test letter.message) (list_any test (messages letters)) (subst (λ n. test n ≡ true) first passes)

module _ (p : Settings) (next : ThreadId → List Event → Option Request) (frames : ThreadId → List Event → List Value)
    (kept : ℕ → Bool) (c : ℕ) (counts : kept c ≡ true) (es : List Entry) (o : ℕ) where
  -- what the client names is reached: it is a start
  client_live : client_names p next frames c es o ≡ true → IsLive p next frames kept es o
  client_live names = begins o (inr (c, counts, names))

  in_flight_live : is_in_flight c es o ≡ true → IsLive p next frames kept es o
  in_flight_live names = client_live
      (right_holds (list_any (λ t. thread_names p next frames t es o) (threads_of p c)) (is_in_flight c es o) names)

  -- so what the message names that the server takes of it
  pub up_live : (m : Up) → IsFirst m (up_in_flight c es) → up_names m o ≡ true → IsLive p next frames kept es o
  up_live m first names = in_flight_live (left_holds (list_any (λ m. up_names m o) (messages (up_in_flight c es))) _
      (first_passes (λ m. up_names m o) m (up_in_flight c es) first names))

  -- and what the message names that it takes itself
  pub down_live : (m : Down) → IsFirst m (down_in_flight c es) → down_names m o ≡ true → IsLive p next frames kept es o
  down_live m first names = in_flight_live (right_holds (list_any (λ m. up_names m o) (messages (up_in_flight c es))) _
      (first_passes (λ m. down_names m o) m (down_in_flight c es) first names))

  -- and what the next request of one of its threads names
  pub request_live : (t : ThreadId) → Contains (threads_of p c) t
      → option_map_or (λ request. request_names request o) (next_after next es t) false ≡ true
      → IsLive p next frames kept es o
  request_live t its names =
      let test : ThreadId → Bool = λ t. thread_names p next frames t es o in
      let events : List Event = events_in t (entries_of (Client t.client) es) in
      let holds : holds_then next frames t events o ≡ true = right_holds (has_reference o (frames t events)) _ names in
      let here : test t ≡ true = left_holds (holds_then next frames t events o) _ holds in
      client_live (left_holds (list_any test (threads_of p c)) (is_in_flight c es o)
      (list_any_at test (threads_of p c) its.0 t its.1 (ap test its.2 ∙ here)))
