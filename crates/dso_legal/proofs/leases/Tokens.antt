-- Leases are tokens, over lawful journals.
use Rattle.std.specs.List.{list_any}
use Rattle.std.proofs.Common.{ℕ, suc, arith, ◌≡◌, ◌≢◌, inl, inr, refl, sym, ◌∙◌, ap, subst, Bool, true, false, cond, eqb, ◌||◌, Option, List, [], ◌∷◌}
use Rattle.dso_base.specs.declared.journal.Entry.{Entry}
use Rattle.dso_base.specs.declared.journal.Input.{Input}
use Rattle.dso_base.specs.declared.journal.Input.TheVariants.{TookUp, Lose}
use Rattle.dso_base.specs.declared.journal.Node.{Node}
use Rattle.dso_base.specs.declared.journal.Node.TheVariants.{Server, Client}
use Rattle.dso_base.specs.declared.lock.LockName.{LockName}
use Rattle.dso_base.specs.declared.lock.ThreadId.{ThreadId}
use Rattle.dso_base.specs.declared.message.Down.{Down}
use Rattle.dso_base.specs.declared.message.Down.TheVariants as down
use Rattle.dso_base.specs.declared.message.Up.{Up}
use Rattle.dso_base.specs.declared.message.Up.TheVariants as up
use Rattle.dso_base.specs.declared.request.Event.{Event}
use Rattle.dso_base.specs.declared.request.Request.{Request}
use Rattle.dso_plain.proofs.keys.SameKeys.{same_number, number_self}
use Rattle.dso_law.specs.declared.readings.LockStanding.{LockStanding}
use Rattle.dso_law.specs.Settings.{Settings}
use Rattle.dso_law.specs.Entries.{entries_of, by_taken_up, by_sent_down, if_to}
use Rattle.dso_law.specs.Channels.{up_in_flight, down_in_flight, IsFirst}
use Rattle.dso_law.specs.Leases.{idle, standing_up, standing_down, standing}
use Rattle.dso_law.specs.ServerReadings.{loses, is_lost, is_of_lost, counted}
use Rattle.dso_law.specs.Granting.{Waiter, standing_by, standing_with, queue_of}
use Rattle.dso_legal.specs.Agreement.{EachMay}
use Rattle.dso_legal.specs.Lawful.{next_after, ClientFollows, ServerFollows, NodeFollows, AllFollow}
use Rattle.dso_legal.specs.Tokens.{MayGoUp, MayGoDown, AgreeOnLock, LeasesAreTokens, LeaseFitsUp, LeaseFitsDown, LeasesFit}
use Rattle.dso_legal.proofs.leases.LeaseSteps.{lock_commutes, unless_true, no_both, IsPlain}
use Rattle.dso_legal.proofs.leases.ClientLeases.{Says, client_says}
use Rattle.dso_legal.proofs.leases.Queues.{queued, asks, lock_self}
use Rattle.dso_legal.proofs.leases.ServerLeases.{AllQueued, server_does, tells_comes, queued_after}
use Rattle.dso_legal.proofs.records.BothEnds.{server_with, client_with, ServerEnd, Ends, ends_agree, first_may_up, first_may_down}
use Rattle.dso_legal.proofs.channels.InFlight.{told_to}

-- what the server takes, where the client isn't lost
pub heard_alive : (c : ℕ) (l : LockName) (input : Input) (s : LockStanding) → loses c input ≡ false → standing_by c l input s ≡ by_taken_up (if_to c (standing_up l)) input s
heard_alive c l (TookUp d m) s h = refl
heard_alive c l (Lose d) s h = unless_true (eqb c d) idle s h
heard_alive c l input s h = refl

-- What each end knows by itself: the queues at the server, and that each client sees each lock plain.
pub record Known (es : List Entry) : Type 0 where
  pub queues : AllQueued (counted (entries_of Server es))
  pub plain : (c : ℕ) (l : LockName) → IsPlain (standing l (entries_of (Client c) es))

-- the same after an entry, by its node
record KnownAfter (node : Node) (e : Entry) (es : List Entry) : Type 0 where
  queues : AllQueued (counted (server_with node e es))
  plain : (c : ℕ) (l : LockName) → IsPlain (standing l (client_with c node e es))

module _ (p : Settings) (next : ThreadId → List Event → Option Request) where
  -- what a client's entry says of a lock
  pub says : (e : Entry) (es : List Entry) (d : ℕ) (l : LockName) → Known es → ClientFollows p next d e es → Says p d l (next_after next es) (next_after next (e ∷ es)) e (entries_of (Client d) es)
  says e es d l known h = client_says p d l (next_after next es) (next_after next (e ∷ es)) e (entries_of (Client d) es) (known.plain d l) h.step

  plain_client : (e : Entry) (es : List Entry) → Known es → (b : Bool) (c d : ℕ) (l : LockName) → eqb c d ≡ b → ClientFollows p next d e es → IsPlain (standing l (cond b (e ∷ entries_of (Client c) es) (entries_of (Client c) es)))
  plain_client e es known true c d l own h = (says e es c l known (subst (λ n. ClientFollows p next n e es) (sym (same_number c d own)) h)).plain
  plain_client e es known false c d l own h = known.plain c l

  known_after : (e : Entry) (es : List Entry) → Known es → (node : Node) → NodeFollows p next node e es → KnownAfter node e es
  known_after e es known Server h = record { queues = queued_after p e (entries_of Server es) known.queues h.step; plain = λ c l. known.plain c l }
  known_after e es known (Client d) h = record { queues = known.queues; plain = λ c l. plain_client e es known (eqb c d) c d l refl h }

  -- over a whole journal
  pub known : (es : List Entry) → AllFollow p next es → Known es
  known [] h = record { queues = λ c l. record { count = refl; plain = λ e. refl }; plain = λ c l e. refl }
  known (e ∷ es) h =
      let after = known_after e es (known es h.0) e.node h.1.rule in
      record { queues = after.queues; plain = after.plain }

  module _ (c : ℕ) (l : LockName) where
    -- the server's end of a lock
    pub at_server : (e : Entry) (es : List Entry) → AllFollow p next es → ServerFollows p next e es → is_of_lost e.input (entries_of Server es) ≡ false → loses c e.input ≡ false
        → ServerEnd p next c (MayGoUp l) (standing_up l) (MayGoDown l) (standing_down l) (standing l) (standing_with c l) e (counted (entries_of Server es))
    at_server e es follow h counts stays = elim (server_does p e (entries_of Server es) (known es follow).queues h.step) [
      | inl skip ↦ no_both (is_of_lost e.input (entries_of Server es)) skip.skipped counts
      | inr here ↦
          let s = standing_with c l (counted (entries_of Server es)) in
          let heard : standing_by c l e.input s ≡ by_taken_up (if_to c (standing_up l)) e.input s = heard_alive c l e.input s stays in
          record {
            comes = subst (EachMay (MayGoDown l) (standing_down l) (told_to c e.sent)) heard (tells_comes p c l e (counted (entries_of Server es)) here.tells).comes;
            reads = ap (by_sent_down (if_to c (standing_down l)) e.sent) heard;
          }
    ]

    -- both ends of a lock
    pub lock_ends : Ends p next c (MayGoUp l) (standing_up l) (MayGoDown l) (standing_down l) (standing l) (standing_with c l)
    lock_ends = record {
      start = refl;
      at_client = λ e es follow h. record { comes = (says e es c l (known es follow) h).comes; reads = refl };
      at_server = at_server;
    }

    pub locks_agree : (es : List Entry) → AllFollow p next es → is_lost c (entries_of Server es) ≡ false → AgreeOnLock c l es
    locks_agree es follow alive = ends_agree p next c (MayGoUp l) (standing_up l) (MayGoDown l) (standing_down l) (standing l) (standing_with c l) (lock_commutes l) lock_ends es follow alive

pub leases_are_tokens : LeasesAreTokens
leases_are_tokens p next es h c l alive = locks_agree p next c l es h.follow alive

-- nobody asks where the lock is idle
none_asks : (c : ℕ) (queue : List Waiter) → queued c queue ≡ 0 → list_any (λ waiter. eqb waiter.client c) queue ≡ false
none_asks c [] e = refl
none_asks c (waiter ∷ queue) e = by (eqb c waiter.client) (eqb waiter.client c) refl refl e (none_asks c queue)
  where
    by : (a b : Bool) → eqb c waiter.client ≡ a → eqb waiter.client c ≡ b → cond a (suc (queued c queue)) (queued c queue) ≡ 0 → (queued c queue ≡ 0 → list_any (λ waiter. eqb waiter.client c) queue ≡ false)
        → (b || list_any (λ waiter. eqb waiter.client c) queue) ≡ false
    by true b f g e later = absurd (let never : suc (queued c queue) ≢ 0 = λ h. omega (arith, h) in never e)
    by false true f g e later = no_both (eqb c c) (number_self c) (subst (λ n. eqb c n ≡ false) (same_number waiter.client c g) f)
    by false false f g e later = later e

module _ (p : Settings) (next : ThreadId → List Event → Option Request) (es : List Entry) (follow : AllFollow p next es) (c : ℕ) (alive : is_lost c (entries_of Server es) ≡ false) where
  -- what the server takes may come
  may_up : (l : LockName) (m : Up) → IsFirst m (up_in_flight c es) → MayGoUp l m (standing_with c l (counted (entries_of Server es)))
  may_up l m f = first_may_up p next c (MayGoUp l) (standing_up l) (MayGoDown l) (standing_down l) (standing l) (standing_with c l) es (locks_agree p next c l es follow alive) m f

  -- and what the client takes
  may_down : (l : LockName) (m : Down) → IsFirst m (down_in_flight c es) → MayGoDown l m (standing l (entries_of (Client c) es))
  may_down l m f = first_may_down p next c (MayGoUp l) (standing_up l) (MayGoDown l) (standing_down l) (standing l) (standing_with c l) es (locks_agree p next c l es follow alive) m f

  pub lease_fits_up : (m : Up) → IsFirst m (up_in_flight c es) → LeaseFitsUp c m (counted (entries_of Server es))
  lease_fits_up (up.Request l level) f =
      let free = may_up l (up.Request l level) f (lock_self l) in
      let q = (known p next es follow).queues c l in
      (ap (λ (s : LockStanding). s.lease) free, none_asks c (queue_of l (counted (entries_of Server es))) (q.count ∙ ap asks free))
  lease_fits_up (up.Return l threads) f = (may_up l (up.Return l threads) f (lock_self l)).leased
  lease_fits_up m f = tt

  pub lease_fits_down : (m : Down) → IsFirst m (down_in_flight c es) → LeaseFitsDown m (entries_of (Client c) es)
  lease_fits_down (down.Grant l level) f = ap (λ (s : LockStanding). s.is_asked) (may_down l (down.Grant l level) f (lock_self l))
  lease_fits_down m f = tt

pub leases_fit : LeasesFit
leases_fit p next es h c alive = record { ups = lease_fits_up p next es h.follow c alive; downs = lease_fits_down p next es h.follow c alive }
