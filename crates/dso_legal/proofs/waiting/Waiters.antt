-- Waiters are tokens: over entries that follow one another, of a sound program, each client that isn't lost and the server agree on where
-- each of the client's threads stands; at the server who is in a list is who is gone to it; and at each client, a lost one too, the waiters
-- stand as they should, and each wake in flight to it may come.
use Rattle.std.proofs.Common.{ℕ, ◌≡◌, ◌≢◌, refl, sym, ◌∙◌, ap, subst, Bool, true, false, cond, eqb, ◌&&◌, ◌||◌, Option, Some, None, List, [], ◌∷◌}
use Rattle.dso_base.specs.declared.journal.Entry.{Entry}
use Rattle.dso_base.specs.declared.journal.Input.TheVariants as input
use Rattle.dso_base.specs.declared.journal.Node.{Node}
use Rattle.dso_base.specs.declared.journal.Node.TheVariants.{Server, Client}
use Rattle.dso_base.specs.declared.lock.Level.{Level}
use Rattle.dso_base.specs.declared.lock.Level.TheVariants.{Read, Write}
use Rattle.dso_base.specs.declared.lock.LockName.{LockName}
use Rattle.dso_base.specs.declared.lock.ThreadId.{ThreadId}
use Rattle.dso_base.specs.declared.message.Down.{Down}
use Rattle.dso_base.specs.declared.message.Down.TheVariants as down
use Rattle.dso_base.specs.declared.request.Event.{Event}
use Rattle.dso_base.specs.declared.request.Event.TheVariants.{Act}
use Rattle.dso_base.specs.declared.request.Reply.{Reply}
use Rattle.dso_base.specs.declared.request.Request.{Request}
use Rattle.dso_base.specs.Following.{is_thread}
use Rattle.dso_plain.specs.State.{Hold}
use Rattle.dso_plain.proofs.keys.SameKeys.{same_number, thread_self}
use Rattle.dso_law.specs.Channels.{IsFirst, TakesFirst, down_in_flight}
use Rattle.dso_law.specs.Entries.{entries_of, by_event, events_in}
use Rattle.dso_law.specs.FitsDown.{FitsDown}
use Rattle.dso_law.specs.Leases.{leased}
use Rattle.dso_law.specs.Replies.{woken_by, reply_of}
use Rattle.dso_law.specs.RequestNeeds.{is_enough, conflicts, hold_level, unmet}
use Rattle.dso_law.specs.ServerReadings.{loses, is_lost, is_of_lost, counted}
use Rattle.dso_law.specs.Settings.{Settings}
use Rattle.dso_law.specs.Threads.{hold_in, locks_after, locks_of, hold_of}
use Rattle.dso_legal.specs.Agreement.{EachMay, messages}
use Rattle.dso_legal.specs.Lawful.{next_after, ClientFollows, ServerFollows, NodeFollows, AllFollow}
use Rattle.dso_legal.specs.Places.{Gone, place_up, place_down, MayPlaceUp, MayPlaceDown, place_of, place_with, AgreeOnWaiter}
use Rattle.dso_legal.specs.SoundProgram.{AsksSoundly, KeepsLocks, KeepsTo}
use Rattle.dso_legal.proofs.blocks.OwnActs.{threads_follow, threads_wait, own_acts}
use Rattle.dso_legal.proofs.blocks.SameLocks.{same_locks}
use Rattle.dso_legal.proofs.blocks.WaitsApart.{waits_apart}
use Rattle.dso_legal.proofs.fitting.Untold.{AllUntold, all_untold}
use Rattle.dso_legal.proofs.fitting.WaysDown.{downs_after}
use Rattle.dso_legal.proofs.leases.Holding.{moves}
use Rattle.dso_legal.proofs.leases.Holds.{HoldsWell, holds_well, well_after}
use Rattle.dso_legal.proofs.leases.KeptLeases.{keeps_leases}
use Rattle.dso_legal.proofs.leases.Queues.{lock_self}
use Rattle.dso_legal.proofs.leases.Tokens.{known}
use Rattle.dso_legal.proofs.records.BothEnds.{server_with, client_with, not_lost_before, EndsAt, agree_after, first_may_up, first_down}
use Rattle.dso_legal.proofs.channels.InFlight.{said_of}
use Rattle.dso_legal.proofs.waiting.ActedView.{view_of, acted, IsFair}
use Rattle.dso_legal.proofs.waiting.ClientEnd.{IsDue}
use Rattle.dso_legal.proofs.waiting.ClientRuleKeeps.{AreFair, says_well}
use Rattle.dso_legal.proofs.waiting.ClientView.{KeepsWaiters}
use Rattle.dso_legal.proofs.waiting.EntryParts.{SaysWell, parts_tell}
use Rattle.dso_legal.proofs.waiting.PlacesCommute.{places_commute}
use Rattle.dso_legal.proofs.waiting.ServerEnd.{StandsAtServer, StepsOn, server_steps}

-- who holds a lock at Write holds it
at_write : (hold : Option Hold) → hold_level hold ≡ Some Write → (h : Hold) × ((hold ≡ Some h) × (h.level ≡ Write))
at_write None held = absurd (cc held)
at_write (Some hold) held = (hold, (refl, cc held))

-- a lease that is enough for Write is at Write
pub enough_write : (lease : Option Level) → is_enough Write lease ≡ true → lease ≡ Some Write
enough_write None enough = absurd (cc enough)
enough_write (Some Read) enough = absurd (cc enough)
enough_write (Some Write) enough = refl

module _ (p : Settings) (c : ℕ) (own : List Entry) (well : HoldsWell p c own) (l : LockName) where
  -- two threads don't hold one lock at Write
  apart_at_write : (u w : ThreadId) → is_thread u w ≡ false → hold_level (hold_of u l own) ≡ Some Write → hold_level (hold_of w l own) ≢ Some Write
  apart_at_write u w other held held_too =
      let a = at_write (hold_of u l own) held in
      let b = at_write (hold_of w l own) held_too in
      let apart : conflicts a.0.level (Some b.0.level) ≡ false = well.apart u w l a.0 b.0 other a.1.0 b.1.0 in
      cc (sym (ap (λ x. conflicts x (Some b.0.level)) a.1.1 ∙ ap (λ x. conflicts Write (Some x)) b.1.1) ∙ apart)

  -- and a lock held at Write is leased so
  leased_at_write : (u : ThreadId) → hold_level (hold_of u l own) ≡ Some Write → leased l own ≡ Some Write
  leased_at_write u held =
      let a = at_write (hold_of u l own) held in
      enough_write (leased l own) (subst (λ x. is_enough x (leased l own) ≡ true) a.1.1 (well.within u l a.0 a.1.0).enough)

module _ (p : Settings) (next : ThreadId → List Event → Option Request) (sound : AsksSoundly p.shape next) where
  -- A client's act is fair.
  module _ (e : Entry) (es : List Entry) (follow : AllFollow p next es) (untold : AllUntold es) where
    fair_at : (a : ThreadId) (request : Request) (reply : Reply) → HoldsWell p a.client (e ∷ entries_of (Client a.client) es) → next_after next es a ≡ Some request
        → unmet p a.client (next_after next es) a request (entries_of (Client a.client) es) ≡ None → reply_of p a request (entries_of (Client a.client) es) ≡ Some reply
        → e.event ≡ Some (Act a request reply (woken_by request reply (entries_of (Client a.client) es)))
        → (l : LockName) → IsFair (entries_of (Client a.client) es) l a request reply (woken_by request reply (entries_of (Client a.client) es)) p a.client (next_after next es)
    fair_at a request reply well_now asked met answered event l =
        let own : List Entry = entries_of (Client a.client) es in
        let well : HoldsWell p a.client own = holds_well p next es follow a.client in
        let keeps : KeepsTo p.shape a (events_in a own) request = sound.keeps a (events_in a own) request (own_acts a own) (untold a) (threads_wait p next a es follow) (threads_follow p next a es follow) asked in
        let same = same_locks a own in
        let locks_now : (u : ThreadId) → hold_of u l (e ∷ own) ≡ hold_in l ((acted own a request reply (woken_by request reply own)).locks u).holds = λ u. ap (λ ev. hold_in l (by_event (locks_after u) ev (locks_of u own)).holds) event in
        record {
          waits = λ waiting. keeps.waits (λ none. waiting (ap (λ (x : _). x.waiting) same ∙ none));
          keeps = subst (KeepsLocks request) (sym same) keeps.locks;
          met = met;
          answered = answered;
          apart = waits_apart p next sound a es follow (untold a);
          one = record { alone = λ u held. record { others = λ w other. apart_at_write p a.client own well l u w other held } };
          one_now = record { alone = λ u held. record { others = λ w other held_too. apart_at_write p a.client (e ∷ own) well_now l u w other (ap hold_level (locks_now u) ∙ held) (ap hold_level (locks_now w) ∙ held_too) } };
          leased = λ u held. leased_at_write p a.client own well l u held;
        }

    fair : (c : ℕ) → HoldsWell p c (e ∷ entries_of (Client c) es) → AreFair p c (next_after next es) (next_after next (e ∷ es)) e (entries_of (Client c) es)
    fair c well_now a request reply its = subst (λ n. HoldsWell p n (e ∷ entries_of (Client n) es) → next_after next es a ≡ Some request → unmet p n (next_after next es) a request (entries_of (Client n) es) ≡ None
        → reply_of p a request (entries_of (Client n) es) ≡ Some reply → e.event ≡ Some (Act a request reply (woken_by request reply (entries_of (Client n) es)))
        → (l : LockName) → IsFair (entries_of (Client n) es) l a request reply (woken_by request reply (entries_of (Client n) es)) p n (next_after next es)) its (fair_at a request reply) well_now

  -- What stands after each entry.
  pub record WaitersStand (es : List Entry) : Type 0 where
    pub agree : (l : LockName) (t : ThreadId) → is_lost t.client (entries_of Server es) ≡ false → AgreeOnWaiter t.client l t es
    pub server : (l : LockName) (t : ThreadId) → is_lost t.client (entries_of Server es) ≡ false → StandsAtServer l t (counted (entries_of Server es))
    pub downs : (l : LockName) (t : ThreadId) → EachMay (MayPlaceDown l t) (place_down l t) (messages (down_in_flight t.client es)) (place_of l t (entries_of (Client t.client) es))
    pub client : (c : ℕ) (l : LockName) → KeepsWaiters l (view_of (entries_of (Client c) es))

  -- before the first entry
  starts : WaitersStand []
  starts = record {
    agree = λ l t alive. record { ups = tt; downs = tt; meet = refl };
    server = λ l t alive. record { gone = ((λ there. absurd (cc there)), λ gone. absurd (cc gone)); once = tt };
    downs = λ l t. tt;
    client = λ c l. record {
      kept = λ u t alone. ((λ kept. absurd (cc kept)), λ there. absurd (cc there));
      may = λ u t. tt;
      holder = λ u names. absurd (cc names);
      listed = λ t there. absurd (cc there);
      leased = λ t there. absurd (cc there);
      placed = λ t placed. absurd (placed refl);
      gone = λ t gone. absurd (cc gone);
      marked = λ t waits. absurd waits;
      unmarked = λ t waits. absurd waits;
    };
  }

  module _ (e : Entry) (es : List Entry) (follow : AllFollow p next (e ∷ es)) (untold : AllUntold es) (stand : WaitersStand es) where
    -- who is woken is gone to the server, and what is granted isn't leased
    is_loss_or_break_due : (c : ℕ) → TakesFirst e.input (Client c) es → (m : Down) → e.input ≡ input.TookDown m → FitsDown p c m (entries_of (Client c) es) → IsDue (entries_of (Client c) es) (stand.client c) m
    is_loss_or_break_due c first (down.Grant j level) is fits = (known p next es follow.0).plain c j fits
    is_loss_or_break_due c first (down.Wake j w) is fits =
        let mine : IsFirst (down.Wake j w) (down_in_flight w.client es) = subst (λ n. IsFirst (down.Wake j w) (down_in_flight n es)) (sym fits.its) (subst (λ i. TakesFirst i (Client c) es) is first) in
        let gone : place_of j w (entries_of (Client w.client) es) ≡ Gone = first_down p next w.client (MayPlaceUp j w) (place_up j w) (MayPlaceDown j w) (place_down j w) (place_of j w) (place_with w.client j w)
        (down.Wake j w) (down_in_flight w.client es) (place_of j w (entries_of (Client w.client) es)) mine (stand.downs j w) (ap (λ b. b && is_thread w w) (lock_self j) ∙ thread_self w) in
        subst (λ n. place_of j w (entries_of (Client n) es) ≡ Gone) fits.its gone
    is_loss_or_break_due c first (down.Ids first_id) is fits = tt
    is_loss_or_break_due c first (down.Object body) is fits = tt
    is_loss_or_break_due c first (down.Recall j) is fits = tt
    is_loss_or_break_due c first (down.Ack seq) is fits = tt
    is_loss_or_break_due c first (down.Changes sets) is fits = tt

    -- what a client's entry says
    client_says : (c : ℕ) → TakesFirst e.input (Client c) es → ClientFollows p next c e es → SaysWell (entries_of (Client c) es) e.input e.event (said_of e.sent)
    client_says c first rule =
        let own : List Entry = entries_of (Client c) es in
        let before : ThreadId → Option Request = next_after next es in
        let after_it : ThreadId → Option Request = next_after next (e ∷ es) in
        let well_now : HoldsWell p c (e ∷ own) = well_after p c before after_it e own (holds_well p next es follow.0 c) (moves p c before after_it e own rule.step) (keeps_leases p c before after_it e own ((known p next es follow.0).plain c) rule.step) in
        says_well p c before after_it e own well_now (fair e es follow.0 untold c well_now) (stand.client c) e.input refl rule.step (is_loss_or_break_due c first)

    -- what the server's makes of a thread
    pub server_does : (l : LockName) (t : ThreadId) → is_lost t.client (entries_of Server es) ≡ false → TakesFirst e.input Server es → ServerFollows p next e es → is_of_lost e.input (entries_of Server es) ≡ false → loses t.client e.input ≡ false
        → StepsOn l t e (counted (entries_of Server es))
    server_does l t alive first rule counts stays = server_steps p l t e (entries_of Server es) e.input refl rule.step counts stays
        (λ m is. first_may_up p next t.client (MayPlaceUp l t) (place_up l t) (MayPlaceDown l t) (place_down l t) (place_of l t) (place_with t.client l t) es (stand.agree l t alive) m (subst (λ i. TakesFirst i Server es) is first))
        (stand.server l t alive)

    ends_at : (l : LockName) (t : ThreadId) → is_lost t.client (entries_of Server es) ≡ false → EndsAt p next t.client (MayPlaceUp l t) (place_up l t) (MayPlaceDown l t) (place_down l t) (place_of l t) (place_with t.client l t) e es
    ends_at l t alive = record {
      at_client = λ first rule. record { comes = (client_says t.client first rule).comes l t; reads = refl };
      at_server = λ first rule counts stays. record { comes = (server_does l t alive first rule counts stays).comes; reads = refl };
    }

    server_after : (l : LockName) (t : ThreadId) (node : Node) → TakesFirst e.input node es → NodeFollows p next node e es → is_lost t.client (server_with node e es) ≡ false → StandsAtServer l t (counted (server_with node e es))
    server_after l t Server first rule alive = by (is_of_lost e.input (entries_of Server es)) refl
      where
        before : (a b : Bool) → (a || b) ≡ false → (a ≡ false) × (b ≡ false)
        before true b none = absurd (cc none)
        before false b none = (refl, none)

        by : (b : Bool) → is_of_lost e.input (entries_of Server es) ≡ b → StandsAtServer l t (cond b (counted (entries_of Server es)) (e ∷ counted (entries_of Server es)))
        by true skipped = stand.server l t (not_lost_before t.client Server e es alive)
        by false counts = (server_does l t (not_lost_before t.client Server e es alive) first rule counts (before (loses t.client e.input) (is_lost t.client (entries_of Server es)) alive).0).stand
    server_after l t (Client d) first rule alive = stand.server l t alive

    client_after : (c : ℕ) (node : Node) → TakesFirst e.input node es → NodeFollows p next node e es → (l : LockName) → KeepsWaiters l (view_of (client_with c node e es))
    client_after c Server first rule l = stand.client c l
    client_after c (Client d) first rule l = by (eqb c d) refl
      where
        by : (b : Bool) → eqb c d ≡ b → KeepsWaiters l (view_of (cond b (e ∷ entries_of (Client c) es) (entries_of (Client c) es)))
        by true own =
            let mine : ClientFollows p next c e es = subst (λ n. ClientFollows p next n e es) (sym (same_number c d own)) rule in
            parts_tell e (entries_of (Client c) es) l ((client_says c (subst (λ n. TakesFirst e.input (Client n) es) (sym (same_number c d own)) first) mine).keeps l)
        by false other = stand.client c l

    agree_on : (l : LockName) (t : ThreadId) → is_lost t.client (entries_of Server (e ∷ es)) ≡ false → AgreeOnWaiter t.client l t (e ∷ es)
    agree_on l t alive =
        let before : is_lost t.client (entries_of Server es) ≡ false = not_lost_before t.client e.node e es alive in
        agree_after p next t.client (MayPlaceUp l t) (place_up l t) (MayPlaceDown l t) (place_down l t) (place_of l t) (place_with t.client l t) (places_commute l t) e es (ends_at l t before)
        e.node follow.1.channels follow.1.rule alive (stand.agree l t before)

    downs_on : (l : LockName) (t : ThreadId) → EachMay (MayPlaceDown l t) (place_down l t) (messages (down_in_flight t.client (e ∷ es))) (place_of l t (entries_of (Client t.client) (e ∷ es)))
    downs_on l t = by (is_lost t.client (entries_of Server (e ∷ es))) refl
      where
        by : (lost : Bool) → is_lost t.client (entries_of Server (e ∷ es)) ≡ lost → EachMay (MayPlaceDown l t) (place_down l t) (messages (down_in_flight t.client (e ∷ es))) (place_of l t (entries_of (Client t.client) (e ∷ es)))
        by true lost = downs_after p next t.client (MayPlaceUp l t) (place_up l t) (MayPlaceDown l t) (place_down l t) (place_of l t) (place_with t.client l t) (places_commute l t) e es follow lost
            (λ first rule. record { comes = (client_says t.client first rule).comes l t; reads = refl }) (stand.downs l t)
        by false alive = (agree_on l t alive).downs

    stands_on : WaitersStand (e ∷ es)
    stands_on = record {
      agree = agree_on;
      server = λ l t alive. server_after l t e.node follow.1.channels follow.1.rule alive;
      downs = downs_on;
      client = λ c l. client_after c e.node follow.1.channels follow.1.rule l;
    }

  -- Waiters are tokens.
  pub waiters_stand : (es : List Entry) → AllFollow p next es → WaitersStand es
  waiters_stand [] follow = starts
  waiters_stand (e ∷ es) follow = stands_on e es follow (all_untold p next sound es follow.0) (waiters_stand es follow.0)
