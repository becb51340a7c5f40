-- What the two ends' agreement on a lock says of its lease: behind all in flight to the client, and as the server's entries
-- come.
use Rattle.std.proofs.Common.{ℕ, ◌≡◌, refl, sym, ◌∙◌, ap, subst, Bool, true, false, cond, Option, None, List, [], ◌∷◌}
use Rattle.dso_base.specs.declared.journal.Entry.{Entry}
use Rattle.dso_base.specs.declared.journal.Node.TheVariants.{Server, Client}
use Rattle.dso_base.specs.declared.lock.LockName.{LockName}
use Rattle.dso_base.specs.declared.lock.ThreadId.{ThreadId}
use Rattle.dso_base.specs.declared.message.Up.{Up}
use Rattle.dso_base.specs.declared.message.Up.TheVariants as up
use Rattle.dso_base.specs.declared.request.Event.{Event}
use Rattle.dso_base.specs.declared.request.Request.{Request}
use Rattle.dso_plain.specs.KeyTests.{is_lock}
use Rattle.dso_law.specs.declared.readings.LockStanding.{LockStanding}
use Rattle.dso_law.specs.Settings.{Settings}
use Rattle.dso_law.specs.Entries.{entries_of}
use Rattle.dso_law.specs.Channels.{up_in_flight, down_in_flight}
use Rattle.dso_law.specs.Leases.{standing_up, standing_down, standing}
use Rattle.dso_law.specs.ServerReadings.{is_lost, counted}
use Rattle.dso_law.specs.Granting.{standing_with, leased_to}
use Rattle.dso_legal.specs.Agreement.{messages, after}
use Rattle.dso_legal.specs.Lawful.{NodeFollows, ServerFollows, MayFollow, AllFollow}
use Rattle.dso_legal.proofs.leases.Tokens.{locks_agree}

-- no message up gives a lease
no_lease_asked : (b : Bool) (s : LockStanding) → s.lease ≡ None → (cond b (record s { is_asked = true }) s).lease ≡ None
no_lease_asked true s e = e
no_lease_asked false s e = e

no_lease_back : (b : Bool) (s : LockStanding) → s.lease ≡ None → (cond b (record s { lease = None }) s).lease ≡ None
no_lease_back true s e = refl
no_lease_back false s e = e

no_lease_up : (l : LockName) (m : Up) (s : LockStanding) → s.lease ≡ None → (standing_up l m s).lease ≡ None
no_lease_up l (up.Request k level) s e = no_lease_asked (is_lock l k) s e
no_lease_up l (up.Return k threads) s e = no_lease_back (is_lock l k) s e
no_lease_up l m s e = e

-- nor do all in flight to the server
pub no_lease_ups : (l : LockName) (ms : List Up) (s : LockStanding) → s.lease ≡ None → (after (standing_up l) ms s).lease ≡ None
no_lease_ups l [] s e = e
no_lease_ups l (m ∷ ms) s e = no_lease_ups l ms (standing_up l m s) (no_lease_up l m s e)

-- A lock that the server hasn't leased to the client isn't leased to it behind all in flight.
pub unleased_behind : (p : Settings) (next : ThreadId → List Event → Option Request) (c : ℕ) (l : LockName) (es : List Entry) → AllFollow p next es → is_lost c (entries_of Server es) ≡ false
    → leased_to c l (counted (entries_of Server es)) ≡ None → (after (standing_down l) (messages (down_in_flight c es)) (standing l (entries_of (Client c) es))).lease ≡ None
unleased_behind p next c l es follow alive none =
    ap (λ (s : LockStanding). s.lease) (sym (locks_agree p next c l es follow alive).meet)
    ∙ no_lease_ups l (messages (up_in_flight c es)) (standing_with c l (counted (entries_of Server es))) none

-- what the rule says of a server's entry
pub server_rule : (p : Settings) (next : ThreadId → List Event → Option Request) (e : Entry) (es : List Entry) → e.node ≡ Server → MayFollow p next e es → ServerFollows p next e es
server_rule p next e es is h = subst (λ n. NodeFollows p next n e es) is h.rule
