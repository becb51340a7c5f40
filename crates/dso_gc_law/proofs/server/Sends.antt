-- What the server's messages name is known.
use Rattle.std.specs.List.{list_any}
use Rattle.std.specs.Option.{option_map_or}
use Rattle.std.specs.Prelude.{Contains}
use Rattle.std.proofs.Common.{ℕ, ◌≡◌, inl, inr, refl, sym, ◌∙◌, ap, subst, Bool, true, false, eqb}
use Rattle.std.proofs.Common.{Option, List, [], ◌∷◌}
use Rattle.dso_base.specs.declared.journal.Entry.{Entry}
use Rattle.dso_base.specs.declared.journal.Input.{Input}
use Rattle.dso_base.specs.declared.journal.Input.TheVariants as input
use Rattle.dso_base.specs.declared.journal.Node.TheVariants.{Server}
use Rattle.dso_base.specs.declared.lock.ThreadId.{ThreadId}
use Rattle.dso_base.specs.declared.message.Up.{Up}
use Rattle.dso_base.specs.declared.record.Body.{Body}
use Rattle.dso_base.specs.declared.request.Event.{Event}
use Rattle.dso_base.specs.declared.request.Request.{Request}
use Rattle.dso_base.specs.declared.value.Value.{Value}
use Rattle.dso_base.specs.Block.{body_names}
use Rattle.dso_base.specs.Naming.{request_names, up_names}
use Rattle.dso_base.specs.Reached.{goes_on}
use Rattle.dso_law.specs.Channels.{IsFirst, TakesFirst, up_in_flight}
use Rattle.dso_law.specs.Entries.{by_taken_up, entries_of, unsent}
use Rattle.dso_law.specs.ServerReadings.{counted, is_lost}
use Rattle.dso_law.specs.ServerStep.{HeardOrLost, HeardStep, ServerStepOn}
use Rattle.dso_law.specs.Settings.{Settings, clients_of, threads_of}
use Rattle.dso_law.specs.Store.{body_by, stored}
use Rattle.dso_legal.specs.Collection.{IsLive}
use Rattle.dso_legal.specs.Lawful.{AllFollow, NodeFollows, ServerFollows, next_after}
use Rattle.dso_legal.proofs.records.BothEnds.{not_lost_before}
use Rattle.dso_gc_law.specs.Garbage.{sent_names}
use Rattle.dso_gc_law.proofs.Known.{IsKnown, IsOfServer, ServerSendsKnown}
use Rattle.dso_gc_law.proofs.server.Answers.{answers_name}
use Rattle.dso_gc_law.proofs.server.Bodies.{stored_by}
use Rattle.dso_gc_law.proofs.server.Starts.{request_live, up_live}

module _ (p : Settings) (next : ThreadId → List Event → Option Request) where
  -- The object is wanted: a thread of a client of the cluster that isn't lost after the entry has a next request that
  -- names it.
  pub record IsWanted (e : Entry) (es : List Entry) (o : ℕ) : Type 0 where
    pub client : ℕ
    pub cluster : list_any (eqb client) (clients_of p) ≡ true
    pub living : is_lost client (entries_of Server (e ∷ es)) ≡ false
    pub thread : ThreadId
    pub its : Contains (threads_of p client) thread
    pub names : option_map_or (λ request. request_names request o) (next_after next es thread) false ≡ true

  -- What the server sends as it loses a client names only what is wanted.
  abbrev pub LoseNamesWanted : Type 0
  LoseNamesWanted = (e : Entry) (es : List Entry) → AllFollow p next (e ∷ es) → e.node ≡ Server
      → (c : ℕ) → e.input ≡ input.Lose c → (o : ℕ) → list_any (λ m. sent_names m o) e.sent ≡ true → IsWanted e es o

module _ (p : Settings) (next : ThreadId → List Event → Option Request) (frames : ThreadId → List Event → List Value)
    (kept : ℕ → Bool) where
  module _ (e : Entry) (es : List Entry) (its : IsOfServer p next frames kept e es) (o : ℕ)
      (names : list_any (λ m. sent_names m o) e.sent ≡ true) where
    abbrev server : List Entry
    server = entries_of Server es

    -- what isn't sent names nothing
    silent : e.sent ≡ [] → IsKnown p next frames kept es o
    silent is = absurd (cc (sym names ∙ ap (list_any (λ m. sent_names m o)) is))

    -- an object whose body names it is reached
    by_body : (x : ℕ) → IsLive p next frames kept es x → body_names (stored p.shape x (counted server)) o ≡ true
        → IsKnown p next frames kept es o
    by_body x live body = inl (goes_on x o live (inl body))

    -- the message that is answered was in flight
    module _ (c : ℕ) (m : Up) (is : e.input ≡ input.TookUp c m) (counts : kept c ≡ true)
        (first : IsFirst m (up_in_flight c es)) where
      heard_live : (x : ℕ) → up_names m x ≡ true → IsLive p next frames kept es x
      heard_live x = up_live p next frames kept c counts es x m first

      -- so the object whose body it asks for is reached
      by_answer : (x : ℕ) → up_names m x ≡ true → body_names (stored p.shape x (unsent e ∷ counted server)) o ≡ true
          → IsKnown p next frames kept es o
      by_answer x named body =
          let before : Option Body = stored p.shape x (counted server) in
          let now : body_names (body_by x c m before) o ≡ true =
          subst (λ i. body_names (by_taken_up (body_by x) i before) o ≡ true) is body in
          elim (stored_by o x c m before now) [
            | inl old ↦ by_body x (heard_live x named) old
            | inr new ↦ inl (heard_live o new)
          ]

      heard : HeardStep p c m e (counted server) → IsKnown p next frames kept es o
      heard h = elim (answers_name o p c m (unsent e ∷ counted server)
          (subst (λ sent. list_any (λ m. sent_names m o) sent ≡ true) h.sends names)) [
            | inl named ↦ inl (heard_live o named)
            | inr it ↦ by_answer it.0 it.1 it.2
          ]

    taken : (c : ℕ) (m : Up) (lost : Bool) → is_lost c server ≡ lost → list_any (eqb c) (clients_of p) ≡ true
        → e.input ≡ input.TookUp c m → IsFirst m (up_in_flight c es) → HeardOrLost p c m lost e (counted server)
        → IsKnown p next frames kept es o
    taken c m true lost cluster is first h = silent h
    taken c m false alive cluster is first h = heard c m is (its.living c cluster alive) first h

    -- at a loss it is what the next request of a thread names
    at_loss : LoseNamesWanted p next → (c : ℕ) → e.input ≡ input.Lose c → IsKnown p next frames kept es o
    at_loss wanted c is =
        let it : IsWanted p next e es o = wanted e es its.follow its.node c is o names in
        let counts : kept it.client ≡ true =
        its.living it.client it.cluster (not_lost_before it.client e.node e es it.living) in
        inl (request_live p next frames kept it.client counts es o it.thread it.its it.names)

    by_input : LoseNamesWanted p next → (i : Input) → e.input ≡ i → TakesFirst i Server es → ServerStepOn p i e server
        → IsKnown p next frames kept es o
    by_input wanted (input.TookUp c m) is first h = taken c m (is_lost c server) refl h.its is first h.heard
    by_input wanted (input.Lose c) is first h = at_loss wanted c is
    by_input wanted (input.Break c) is first h = silent h.sends
    by_input wanted (input.Rejoin c) is first h = silent h.sends
    by_input wanted i is first h = absurd h

  -- The server names what the message that it takes names, what a body names that it sends, and, as it loses a client,
  -- what is wanted.
  pub server_sends_known : LoseNamesWanted p next → ServerSendsKnown p next frames kept
  server_sends_known wanted e es its o names = by_input e es its o names wanted e.input refl first rule.step
    where
      first : TakesFirst e.input Server es
      first = subst (λ n. TakesFirst e.input n es) its.node its.follow.1.channels

      rule : ServerFollows p next e es
      rule = subst (λ n. NodeFollows p next n e es) its.node its.follow.1.rule
