-- How a lock stands, as a status that both ends keep: which messages change it, and whose turn it is.
use Rattle.std.proofs.Common.{◌≡◌, ◌≢◌, ◌⊎◌, inl, inr, refl, ap, Bool, true, false, cond, Some, None}
use Rattle.dso_base.specs.declared.lock.Level.{Level}
use Rattle.dso_base.specs.declared.lock.LockName.{LockName}
use Rattle.dso_base.specs.declared.message.Down.{Down}
use Rattle.dso_base.specs.declared.message.Down.TheVariants as down
use Rattle.dso_base.specs.declared.message.Up.{Up}
use Rattle.dso_base.specs.declared.message.Up.TheVariants as up
use Rattle.dso_base.specs.declared.journal.Input.{Input}
use Rattle.dso_base.specs.declared.journal.Input.TheVariants.{TookDown}
use Rattle.dso_plain.specs.KeyTests.{is_lock}
use Rattle.dso_law.specs.declared.readings.LockStanding.{LockStanding}
use Rattle.dso_law.specs.Entries.{by_taken_down}
use Rattle.dso_law.specs.Leases.{idle, standing_up, standing_down}
use Rattle.dso_legal.specs.Tokens.{asked, IsLeased, MayGoUp, MayGoDown}
use Rattle.dso_legal.proofs.channels.Agreement.{IsDeaf, Turns, Commutes, turns_commute}

-- what a test that fails leaves
pub unless_true : {X : Type 0} (b : Bool) (x y : X) → b ≡ false → cond b x y ≡ y
unless_true true x y e = absurd (cc e)
unless_true false x y e = refl

-- what a test that holds chooses
pub if_true : {X : Type 0} (b : Bool) (x y : X) → b ≡ true → cond b x y ≡ x
if_true true x y e = refl
if_true false x y e = absurd (cc e)

-- true isn't false
pub no_both : {P : Type 0} (b : Bool) → b ≡ true → b ≡ false → P
no_both true e f = absurd (cc f)
no_both false e f = absurd (cc e)

-- a request of another lock is deaf
pub other_request : (l k : LockName) (level : Level) → is_lock l k ≡ false → IsDeaf (MayGoUp l) (standing_up l) (up.Request k level)
other_request l k level e s = (λ yes. no_both (is_lock l k) yes e, unless_true (is_lock l k) (record s { is_asked = true }) s e)

-- and a return of another lock
pub other_return : (l k : LockName) (threads : _) → is_lock l k ≡ false → IsDeaf (MayGoUp l) (standing_up l) (up.Return k threads)
other_return l k threads e s = (λ yes. no_both (is_lock l k) yes e, unless_true (is_lock l k) (record s { lease = None }) s e)

-- and a grant of another lock
pub other_grant : (l k : LockName) (level : Level) → is_lock l k ≡ false → IsDeaf (MayGoDown l) (standing_down l) (down.Grant k level)
other_grant l k level e s = (λ yes. no_both (is_lock l k) yes e, unless_true (is_lock l k) (record { lease = Some level; is_asked = false }) s e)

-- the client speaks where the lock isn't asked for
abbrev pub ClientSpeaks : LockStanding → Type 0
ClientSpeaks s = s.is_asked ≡ false

-- the server speaks where it is
abbrev pub ServerSpeaks : LockStanding → Type 0
ServerSpeaks s = s.is_asked ≡ true

turn_request : (l k : LockName) (level : Level) (s : LockStanding) (b : Bool) → is_lock l k ≡ b → (is_lock l k ≡ true → s ≡ idle) → IsDeaf (MayGoUp l) (standing_up l) (up.Request k level) ⊎ ClientSpeaks s
turn_request l k level s true e may = inr (ap (λ (s : LockStanding). s.is_asked) (may e))
turn_request l k level s false e may = inl (other_request l k level e)

turn_return : (l k : LockName) (threads : _) (s : LockStanding) (b : Bool) → is_lock l k ≡ b → (is_lock l k ≡ true → IsLeased s) → IsDeaf (MayGoUp l) (standing_up l) (up.Return k threads) ⊎ ClientSpeaks s
turn_return l k threads s true e may = inr (may e).unasked
turn_return l k threads s false e may = inl (other_return l k threads e)

turn_up : (l : LockName) (m : Up) (s : LockStanding) → MayGoUp l m s → IsDeaf (MayGoUp l) (standing_up l) m ⊎ ClientSpeaks s
turn_up l (up.Request k level) s may = turn_request l k level s (is_lock l k) refl may
turn_up l (up.Return k threads) s may = turn_return l k threads s (is_lock l k) refl may
turn_up l m s may = inl (λ s. (tt, refl))

turn_grant : (l k : LockName) (level : Level) (s : LockStanding) (b : Bool) → is_lock l k ≡ b → (is_lock l k ≡ true → s ≡ asked) → IsDeaf (MayGoDown l) (standing_down l) (down.Grant k level) ⊎ ServerSpeaks s
turn_grant l k level s true e may = inr (ap (λ (s : LockStanding). s.is_asked) (may e))
turn_grant l k level s false e may = inl (other_grant l k level e)

turn_down : (l : LockName) (m : Down) (s : LockStanding) → MayGoDown l m s → IsDeaf (MayGoDown l) (standing_down l) m ⊎ ServerSpeaks s
turn_down l (down.Grant k level) s may = turn_grant l k level s (is_lock l k) refl may
turn_down l m s may = inl (λ s. (tt, refl))

-- whose turn it is
pub lock_turns : (l : LockName) → Turns (MayGoUp l) (standing_up l) (MayGoDown l) (standing_down l) ClientSpeaks ServerSpeaks
lock_turns l = record {
  up = turn_up l;
  down = turn_down l;
  never_both = λ s e f. no_both s.is_asked f e;
}

-- so messages of the two directions commute
pub lock_commutes : (l : LockName) → Commutes (MayGoUp l) (standing_up l) (MayGoDown l) (standing_down l)
lock_commutes l = turns_commute (MayGoUp l) (standing_up l) (MayGoDown l) (standing_down l) ClientSpeaks ServerSpeaks (lock_turns l)

-- A lock that is asked for isn't leased.
abbrev pub IsPlain : LockStanding → Type 0
IsPlain s = s.is_asked ≡ true → s.lease ≡ None

-- a plain lock that is leased isn't asked for
pub leased_plain : (s : LockStanding) → IsPlain s → s.lease ≢ None → IsLeased s
leased_plain s plain leased = record { leased = leased; unasked = by s.is_asked refl }
  where
    by : (b : Bool) → s.is_asked ≡ b → b ≡ false
    by true e = absurd (leased (plain e))
    by false e = refl

-- a plain lock that is asked for is so alone
pub asked_plain : (s : LockStanding) → IsPlain s → s.is_asked ≡ true → s ≡ asked
asked_plain s plain e = λ i. record { lease = plain e i; is_asked = e i }

-- a lock neither leased nor asked for is idle
pub is_idle : (s : LockStanding) → s.lease ≡ None → s.is_asked ≡ false → s ≡ idle
is_idle s e f = λ i. record { lease = e i; is_asked = f i }

-- a grant leaves a plain lock plain
pub plain_granted : (b : Bool) (level : Level) (s : LockStanding) → IsPlain s → IsPlain (cond b (record { lease = Some level; is_asked = false }) s)
plain_granted true level s h e = absurd (cc e)
plain_granted false level s h e = h e

plain_told : (l : LockName) (m : Down) (s : LockStanding) → IsPlain s → IsPlain (standing_down l m s)
plain_told l (down.Grant k level) s h = plain_granted (is_lock l k) level s h
plain_told l m s h = h

-- and so does what a client takes
pub plain_taken : (l : LockName) (input : Input) (s : LockStanding) → IsPlain s → IsPlain (by_taken_down (standing_down l) input s)
plain_taken l (TookDown m) s h = plain_told l m s h
plain_taken l input s h = h
