-- The two ends of a connection: what each keeps, which frame is next, and what it makes of a frame of the other end.
use Rattle.std.specs.Prelude.{ℕ, suc, ◌+◌, ◌-◌, ◌^◌, ◌<◌, ◌≤◌, Bool, true, false, cond, eqb, leb, ltb, not}
use Rattle.std.specs.Prelude.{◌&&◌, ◌||◌, Option, Some, None, List, [], ◌∷◌, ◌++◌, drop, length, max, slice_get}
use Rattle.dso_session.specs.declared.frame.Accepted.{Accepted}
use Rattle.dso_session.specs.declared.frame.Accepted.TheVariants as accepted
use Rattle.dso_session.specs.declared.frame.Frame.{Frame}
use Rattle.dso_session.specs.declared.frame.Frame.TheVariants.{Carry, Hello}
use Rattle.dso_session.specs.declared.session.Posted.{Posted}
use Rattle.dso_session.specs.declared.session.Role.{Role}
use Rattle.dso_session.specs.declared.session.Role.TheVariants as role

-- What an end keeps: which end it is; how often the connection broke, as far as it knows; whether messages may go;
-- whether a Hello is to go first; the last number that it accepted; how many of its messages the other end has seen;
-- the number of the last one that went to the channel, or behind which it goes on; the messages not seen yet, in order;
-- the clock of the last one sent.
pub record End (M : Type 0) : Type 0 where
  pub role : Role
  pub epoch : ℕ
  pub is_ready : Bool
  pub owes_hello : Bool
  pub accepted : ℕ
  pub seen : ℕ
  pub given : ℕ
  pub kept : List (Posted M)
  pub clock : ℕ

-- how many messages it sent
abbrev pub sent_count : {M : Type 0} → End M → ℕ
sent_count end = end.seen + length end.kept

-- what went to the channel is among what was sent, and what was seen went there
pub record IsInOrder {M : Type 0} (end : End M) : Type 0 where
  pub seen : end.seen ≤ end.given
  pub given : end.given ≤ sent_count end
  pub few : sent_count end < 2 ^ 64

-- the messages kept that have greater numbers than this one
abbrev pub left_behind : {M : Type 0} → ℕ → End M → List (Posted M)
left_behind number end = drop (number - end.seen) end.kept

-- at first: ready, with nothing sent or accepted
abbrev pub opened : {M : Type 0} → Role → End M
opened role = record {
  role = role;
  epoch = 0;
  is_ready = true;
  owes_hello = false;
  accepted = 0;
  seen = 0;
  given = 0;
  kept = [];
  clock = 0;
}

-- with one message more
abbrev pub posted : {M : Type 0} → M → ℕ → End M → End M
posted message clock end = record end
    { kept = end.kept ++ record { message = message; clock = clock } ∷ []; clock = clock }

-- the next message that may go
abbrev pub next_kept : {M : Type 0} → End M → Option (Posted M)
next_kept end = cond end.is_ready (slice_get end.kept (end.given - end.seen)) None

-- a frame of it
abbrev pub carrying : {M : Type 0} → End M → Option (Posted M) → Option (Frame M)
carrying end None = None
carrying end (Some one) = Some (Carry end.epoch (end.given + 1) end.accepted one.clock one.message)

-- The next frame: a Hello where one is due, else the next message where the end is ready.
abbrev pub next_frame : {M : Type 0} → End M → Option (Frame M)
next_frame end = cond end.owes_hello (Some (Hello end.epoch end.accepted end.clock)) (carrying end (next_kept end))

-- behind it
abbrev pub gone_on : {M : Type 0} → End M → Option (Posted M) → End M
gone_on end None = end
gone_on end (Some one) = record end { given = end.given + 1 }

abbrev pub behind_frame : {M : Type 0} → End M → End M
behind_frame end = cond end.owes_hello (record end { owes_hello = false }) (gone_on end (next_kept end))

-- A message is given up where the frame is of this connection, its number is the next one, and the other end has seen
-- no more than was sent.
abbrev pub answer_carry : {M : Type 0} → ℕ → ℕ → ℕ → ℕ → M → End M → Accepted M
answer_carry epoch number seen clock message end = cond (not (eqb epoch end.epoch)) (accepted.OldConnection epoch)
    (cond (leb number end.accepted) (accepted.Again number)
    (cond (ltb (suc end.accepted) number || ltb (sent_count end) seen) (accepted.Gap number)
    (accepted.Up message clock)))

-- A connection begins anew: for the client by a later epoch, for the server by its own, while it waits for that.
abbrev pub is_new : {M : Type 0} → ℕ → End M → Role → Bool
is_new epoch end role.Client = ltb end.epoch epoch
is_new epoch end role.Server = eqb epoch end.epoch && not end.is_ready

-- It does where the other end has seen no more than was sent, and no less than it said before.
abbrev pub answer_hello : {M : Type 0} → ℕ → ℕ → End M → Accepted M
answer_hello epoch seen end = cond (not (is_new epoch end end.role)) (accepted.OldConnection epoch)
    (cond (ltb (sent_count end) seen || ltb seen end.seen) (accepted.Gap seen) (accepted.Rejoined seen))

-- what an end answers a frame
abbrev pub answer : {M : Type 0} → Frame M → End M → Accepted M
answer (Carry epoch number seen clock message) end = answer_carry epoch number seen clock message end
answer (Hello epoch seen clock) end = answer_hello epoch seen end

-- what the other end has seen is kept no longer
abbrev pub forgotten : {M : Type 0} → ℕ → End M → End M
forgotten seen end = record end
    { seen = max end.seen seen; given = max end.given seen; kept = drop (seen - end.seen) end.kept }

-- whether a Hello is to go first, once the connection begins anew: the client's end answers one
abbrev pub answers_hello : Role → Bool → Bool
answers_hello role.Client owes = true
answers_hello role.Server owes = owes

-- the connection begins anew: messages go again behind the last one seen
abbrev pub rejoined : {M : Type 0} → ℕ → ℕ → End M → End M
rejoined epoch seen end = record (forgotten seen end)
    { epoch = epoch; is_ready = true; owes_hello = answers_hello end.role end.owes_hello; given = seen }

-- what a frame makes of the end that answers it so
abbrev pub after_answer : {M : Type 0} → Frame M → Accepted M → End M → End M
after_answer (Carry epoch number seen clock message) (accepted.Up m c) end = record (forgotten seen end)
    { accepted = number }
after_answer (Hello epoch seen clock) (accepted.Rejoined n) end = rejoined epoch seen end
after_answer frame other end = end

abbrev pub after_frame : {M : Type 0} → Frame M → End M → End M
after_frame frame end = after_answer frame (answer frame end) end

-- the connection broke, at the server: nothing goes until the client has answered its Hello
abbrev pub broken : {M : Type 0} → End M → End M
broken end = record end { epoch = end.epoch + 1; is_ready = false; owes_hello = true }
