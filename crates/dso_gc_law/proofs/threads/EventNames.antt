-- What an event of a client names is known: the request was its thread's next one; a new object was made by nobody
-- before; and a value read stands in what the thread has in hand, or in the copy of an object that the request names.
use Rattle.std.specs.Option.{option_map_or}
use Rattle.std.specs.Prelude.{option_map}
use Rattle.std.proofs.Common.{ℕ, ◌≡◌, ◌⊎◌, inl, inr, refl, sym, ◌∙◌, ap, subst, Bool, true, false, eqb, ◌||◌}
use Rattle.std.proofs.Common.{Option, Some, None, List, [], ◌∷◌, slice_get}
use Rattle.dso_base.specs.declared.journal.Entry.{Entry}
use Rattle.dso_base.specs.declared.journal.Node.TheVariants.{Client}
use Rattle.dso_base.specs.declared.lock.ThreadId.{ThreadId}
use Rattle.dso_base.specs.declared.record.Body.{Body}
use Rattle.dso_base.specs.declared.request.Event.{Event}
use Rattle.dso_base.specs.declared.request.Reply.{Reply}
use Rattle.dso_base.specs.declared.request.Reply.TheVariants.{Done, Made, Seen, Val, Local, Refused}
use Rattle.dso_base.specs.declared.request.Request.{Request}
use Rattle.dso_base.specs.declared.request.Request.TheVariants.{Get, Tick, Timeout}
use Rattle.dso_base.specs.declared.value.ClassId.{ClassId}
use Rattle.dso_base.specs.declared.value.Value.{Value}
use Rattle.dso_base.specs.declared.value.Value.TheVariants as value
use Rattle.dso_base.specs.Block.{Work, body_in, body_names, has_reference}
use Rattle.dso_base.specs.Naming.{request_names, reply_names, event_names, work_names}
use Rattle.dso_base.specs.Reached.{goes_on}
use Rattle.dso_machine.specs.Frames.{holds_then}
use Rattle.dso_plain.proofs.keys.SameKeys.{same_number, number_self}
use Rattle.dso_law.specs.Settings.{Settings}
use Rattle.dso_law.specs.Entries.{entries_of, events_in}
use Rattle.dso_law.specs.ClientWaiters.{is_marked}
use Rattle.dso_law.specs.Copies.{copy_of}
use Rattle.dso_law.specs.HeldBody.{held_body}
use Rattle.dso_law.specs.Replies.{value_seen, value_in, timeout_reply, reply_of}
use Rattle.dso_law.specs.Threads.{or_else, own, work_of}
use Rattle.dso_legal.specs.ClassesKept.{class_made}
use Rattle.dso_legal.specs.Collection.{thread_names, IsLive}
use Rattle.dso_legal.specs.Lawful.{next_after, ClientFollows, NodeFollows}
use Rattle.dso_legal.proofs.blocks.OwnActs.{IsNextAct, next_act, reply_listed}
use Rattle.dso_legal.proofs.fitting.ClassesMade.{IsFresh, class_known, fresh}
use Rattle.dso_legal.proofs.fitting.InHand.{found_has}
use Rattle.dso_legal.proofs.fitting.Messages.{ValueHas, value_of_sets}
use Rattle.dso_legal.proofs.fitting.NamesInHand.{left_so, right_so, either_so}
use Rattle.dso_gc_law.proofs.Known.{IsKnown, IsOfKept, EventIsKnown}
use Rattle.dso_gc_law.proofs.threads.Hand.{OfObject, OfField, IfNames, HandTells, BodyTells, WorkTells, hand_to}
use Rattle.dso_gc_law.proofs.threads.Hand.{at_place}
use Rattle.dso_gc_law.proofs.threads.Starts.{thread_live}
use Rattle.dso_gc_law.proofs.threads.Within.{IsInBody, copy_in_body}

-- what stands in two places is one
one : {X : Type 0} {a b : X} → Some a ≡ Some b → a ≡ b
one same = cc same

module _ (p : Settings) (next : ThreadId → List Event → Option Request) (frames : ThreadId → List Event → List Value)
    (kept : ℕ → Bool) (c : ℕ) (e : Entry) (es : List Entry) (it : IsOfKept p next frames kept c e es) where
  -- the client's entries before it
  abbrev mine : List Entry
  mine = entries_of (Client c) es

  -- the next act of a thread of the client
  abbrev pub ActOf : Type 0
  ActOf = IsNextAct p c (next_after next es) e mine

  -- the entry has no event, or is one
  pub what_it_does : (e.event ≡ None) ⊎ ActOf
  what_it_does =
      let follows : ClientFollows p next c e es = subst (λ n. NodeFollows p next n e es) it.node it.follow.1.rule in
      next_act p c (next_after next es) (next_after next (e ∷ es)) e mine follows.step

  -- an act of a thread of the client
  module _ (act : ActOf) where
    -- what the thread names is reached
    thread_reached : (o : ℕ) → thread_names p next frames act.thread es o ≡ true → IsLive p next frames kept es o
    thread_reached o = thread_live p next frames kept c es o act.thread it.counts act.among act.its

    -- its events so far, and what it has in hand
    abbrev events_before : List Event
    events_before = events_in act.thread (entries_of (Client act.thread.client) es)

    abbrev hand : Work
    hand = work_of p.shape act.thread (entries_of (Client act.thread.client) es)

    -- what the request names
    pub request_reached : (o : ℕ) → request_names act.request o ≡ true → IsLive p next frames kept es o
    request_reached o names =
        let asked : option_map_or (λ request. request_names request o) (next act.thread events_before) false ≡ true =
        subst (λ at. option_map_or (λ request. request_names request o) at false ≡ true) (sym act.asked) names in
        thread_reached o (left_so (holds_then next frames act.thread events_before o) (work_names hand o)
        (right_so (has_reference o (frames act.thread events_before))
        (option_map_or (λ request. request_names request o) (next act.thread events_before) false) asked))

  -- and an object
  module _ (act : ActOf) (o : ℕ) where
    -- what the thread has in hand names
    hand_reached : HandTells o (IsLive p next frames kept es o) (work_of p.shape act.thread mine)
    hand_reached = subst (λ n. HandTells o (IsLive p next frames kept es o)
        (work_of p.shape act.thread (entries_of (Client n) es))) act.its
        (λ names. thread_reached act o (right_so (holds_then next frames act.thread (events_before act) o)
        (work_names (hand act) o) names))

    -- a new object was made by nobody
    pub made_unmade : (x : ℕ) → act.reply ≡ Made x → eqb x o ≡ true → class_made p.shape o es ≡ None
    made_unmade x is same = by (class_made p.shape o es) refl
      where
        new : IsFresh o es
        new = fresh p next e es it.follow.0 (record { client = c; node = it.node; act = act }) o
            (is ∙ ap Made (same_number x o same))

        by : (class : Option (ClassId × ℕ)) → class_made p.shape o es ≡ class → class_made p.shape o es ≡ None
        by None none = none
        by (Some class) some = elim (class_known p.shape o p next es it.follow.0 class some) [
          | inl first ↦ absurd (new.real first.0)
          | inr before ↦ absurd (new.unmade before)
        ]

    -- ---- a value read

    module _ (x f : ℕ) (x_live : IsLive p next frames kept es x) where
      abbrev Reached : Type 0
      Reached = IsLive p next frames kept es o

      -- what follows of a value of the field, if there is one
      abbrev Tells : Option Value → Type 0
      Tells v = ValueHas (OfObject o Reached) (OfField o Reached) (IfNames o Reached) (IfNames o Reached) x f v

      abbrev work : Work
      work = work_of p.shape act.thread mine

      tells : WorkTells o Reached work
      tells = hand_to o Reached work hand_reached

      -- the copy's value is reached by the edge
      copy_tells : (v : Option Value) → copy_of x f mine ≡ v → Tells v
      copy_tells None copied = tt
      copy_tells (Some v) copied = ((λ same. subst (IsLive p next frames kept es) (same_number x o same) x_live), edge)
        where
          stands : IsInBody c x f v es
          stands = copy_in_body p next es it.follow.0 c x f v copied

          edge : has_reference o (v ∷ []) ≡ true → Reached
          edge names =
              let named : body_names (held_body x mine) o ≡ true =
              subst (λ (body : Option Body). body_names body o ≡ true) (sym stands.held)
              (at_place o stands.body.values f v stands.value names) in
              goes_on x o x_live (inr (c, it.counts, named))

      -- a value of the thread's own body
      own_tells : (body : Body) → BodyTells o Reached body → (v : Value) → slice_get body.values f ≡ Some v
          → IfNames o Reached v
      own_tells body h v at = (h.values f v at).1

      -- the value seen
      seen_tells : (private new : Option Body) → body_in x work.privates ≡ private → body_in x work.news ≡ new
          → (v : Value) → value_in p (or_else private new) f (value_seen p act.thread x f mine) ≡ Some v
          → IfNames o Reached v
      seen_tells (Some body) new is other v at = own_tells body
          (found_has (OfObject o Reached) (OfField o Reached) (IfNames o Reached) (IfNames o Reached) x work.privates
          body tells.privates is) v at
      seen_tells None (Some body) is other v at = own_tells body
          (found_has (OfObject o Reached) (OfField o Reached) (IfNames o Reached) (IfNames o Reached) x work.news
          body tells.news other) v at
      seen_tells None None is other v at = (subst Tells at (value_of_sets (OfObject o Reached) (OfField o Reached)
          (IfNames o Reached) (IfNames o Reached) x f work.sets (copy_of x f mine) tells.sets
          (copy_tells (copy_of x f mine) refl))).1

      -- So what it names is reached.
      pub value_reached : (v : Value)
          → value_in p (own p.shape act.thread x mine) f (value_seen p act.thread x f mine) ≡ Some v
          → has_reference o (v ∷ []) ≡ true → Reached
      value_reached v at = seen_tells (body_in x work.privates) (body_in x work.news) refl refl v at

    -- ---- the reply

    -- no object is told by a tick,
    tick_silent : {K : Type 0} (v : Value) (b : Bool) → Some (Val (value.Bool b)) ≡ Some (Val v)
        → has_reference o (v ∷ []) ≡ true → K
    tick_silent v b is names =
        let same : value.Bool b ≡ v = cc is in
        absurd (never same)
      where
        never : value.Bool b ≡ v → ⊥
        never same = cc (subst (λ w. has_reference o (w ∷ []) ≡ true) (sym same) names)

    -- nor by a timeout
    timeout_silent : {K : Type 0} (v : Value) (b : Bool) → Some (timeout_reply b) ≡ Some (Val v)
        → has_reference o (v ∷ []) ≡ true → K
    timeout_silent v true is names = tick_silent v true is names
    timeout_silent v false is names = absurd (cc is)

    -- the value that is answered
    read : (at : Option Value) (v : Value) → option_map Val at ≡ Some (Val v) → at ≡ Some v
    read None v is = absurd (cc is)
    read (Some w) v is =
        let same : w ≡ v = cc is in
        ap Some same

    -- a value that is told
    value_told : (request : Request) (v : Value) → act.request ≡ request
        → reply_of p act.thread request mine ≡ Some (Val v) → has_reference o (v ∷ []) ≡ true
        → IsLive p next frames kept es o
    value_told (Get x f) v asked answered names = value_reached x f x_live v
        (read (value_in p (own p.shape act.thread x mine) f (value_seen p act.thread x f mine)) v answered) names
      where
        x_live : IsLive p next frames kept es x
        x_live = request_reached act x (subst (λ r. request_names r x ≡ true) (sym asked) (number_self x))
    value_told (Tick l) v asked answered names = tick_silent v (is_marked act.thread mine) answered names
    value_told (Timeout l) v asked answered names = timeout_silent v (is_marked act.thread mine) answered names
    value_told request v asked answered names = absurd (reply_listed p act.thread mine request (Val v) answered)

    -- what a reply names
    reply_by : (reply : Reply) → act.reply ≡ reply → reply_names reply o ≡ true → IsKnown p next frames kept es o
    reply_by (Made x) is names = inr (made_unmade x is names)
    reply_by (Val v) is names = inl (value_told act.request v refl (act.answered ∙ ap Some is) names)
    reply_by (Seen class n) is names = absurd (cc names)
    reply_by Done is names = absurd (cc names)
    reply_by Local is names = absurd (cc names)
    reply_by (Refused fault) is names = absurd (cc names)

    -- what the act's reply names,
    pub reply_known : reply_names act.reply o ≡ true → IsKnown p next frames kept es o
    reply_known = reply_by act.reply refl

    -- and what its event names
    pub act_known : (request_names act.request o || reply_names act.reply o) ≡ true → IsKnown p next frames kept es o
    act_known = either_so (request_names act.request o) (reply_names act.reply o)
        (λ names. inl (request_reached act o names)) reply_known

module _ (p : Settings) (next : ThreadId → List Event → Option Request) (frames : ThreadId → List Event → List Value)
    (kept : ℕ → Bool) where
  -- What the event names is known.
  pub event_is_known : EventIsKnown p next frames kept
  event_is_known c e es it o names = by (what_it_does p next frames kept c e es it)
    where
      by : (e.event ≡ None) ⊎ ActOf p next frames kept c e es it → IsKnown p next frames kept es o
      by (inl none) =
          absurd (never (subst (λ at. option_map_or (λ event. event_names event o) at false ≡ true) none names))
        where
          never : false ≡ true → ⊥
          never is = cc is
      by (inr act) = act_known p next frames kept c e es it act o
          (subst (λ at. option_map_or (λ event. event_names event o) at false ≡ true) act.event names)
