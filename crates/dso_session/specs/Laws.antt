-- What is given up at one end is what was sent at the other, in order and once.
use Rattle.std.specs.Prelude.{ℕ, ◌-◌, ◌≤◌, ◌≡◌, Option, Some, None, List, [], ◌∷◌, ◌++◌, drop, length, slice_get}
use Rattle.std.specs.Prelude.{take}
use Rattle.dso_session.specs.declared.frame.Accepted.{Accepted}
use Rattle.dso_session.specs.declared.frame.Accepted.TheVariants as accepted
use Rattle.dso_session.specs.declared.frame.Frame.{Frame}
use Rattle.dso_session.specs.declared.frame.Frame.TheVariants.{Carry, Hello}
use Rattle.dso_session.specs.declared.session.Posted.{Posted}
use Rattle.dso_session.specs.Ends.{End, after_frame, answer, behind_frame, broken, next_frame, posted}

-- The end sent these messages, in this order: those that are kept are the ones that the other end has not seen.
pub record HasSent {M : Type 0} (sent : List (Posted M)) (end : End M) : Type 0 where
  pub seen : end.seen ≤ length sent
  pub kept : end.kept ≡ drop end.seen sent

-- what may happen to an end: it sends, a frame goes, a frame comes, the connection breaks
pub data Happening (M : Type 0) : Type 0 where
  Sends : M → ℕ → Happening M
  Gives : Happening M
  Takes : Frame M → Happening M
  Breaks : Happening M

-- what it makes of the end
abbrev pub happened : {M : Type 0} → Happening M → End M → End M
happened (Sends message clock) end = posted message clock end
happened Gives end = behind_frame end
happened (Takes frame) end = after_frame frame end
happened Breaks end = broken end

-- and of the messages that it sent
abbrev pub sent_by : {M : Type 0} → Happening M → List (Posted M) → List (Posted M)
sent_by (Sends message clock) sent = sent ++ record { message = message; clock = clock } ∷ []
sent_by other sent = sent

-- the frame carries the message of its number
abbrev pub CarriesSent : {M : Type 0} → List (Posted M) → Frame M → Type 0
CarriesSent sent (Carry epoch number seen clock message) = (1 ≤ number)
    × (slice_get sent (number - 1) ≡ Some (record { message = message; clock = clock }))
CarriesSent sent (Hello epoch seen clock) = Unit {0}

-- each frame that goes does
abbrev pub GivesSent : {M : Type 0} → List (Posted M) → Option (Frame M) → Type 0
GivesSent sent None = Unit {0}
GivesSent sent (Some frame) = CarriesSent sent frame

-- Frames carry what was sent: whatever happens to an end, the messages that it sent are those sent before and those
-- that it sends now; the frame that is next carries the message of its number; and so it does whatever is sent later.
pub record KeepsSent (M : Type 0) : Type 0 where
  pub goes_on : (happening : Happening M) (sent : List (Posted M)) (end : End M) → HasSent sent end
      → HasSent (sent_by happening sent) (happened happening end)
  pub next : (sent : List (Posted M)) (end : End M) → HasSent sent end → end.seen ≤ end.given
      → GivesSent sent (next_frame end)
  pub stays : (sent more : List (Posted M)) (frame : Frame M) → CarriesSent sent frame
      → CarriesSent (sent ++ more) frame

-- what an answer gives up
abbrev pub given_up : {M : Type 0} → Accepted M → List (Posted M)
given_up (accepted.Up message clock) = record { message = message; clock = clock } ∷ []
given_up other = []

-- what an end gives up of the frames that come, whatever else happens to it
abbrev pub given_up_by : {M : Type 0} → Happening M → End M → List (Posted M)
given_up_by (Takes frame) end = given_up (answer frame end)
given_up_by other end = []

abbrev pub given_up_over : {M : Type 0} → List (Happening M) → End M → List (Posted M)
given_up_over [] end = []
given_up_over (first ∷ rest) end = given_up_by first end ++ given_up_over rest (happened first end)

-- each frame among what happens carries what was sent
abbrev pub CarrySent : {M : Type 0} → List (Posted M) → List (Happening M) → Type 0
CarrySent sent [] = Unit {0}
CarrySent sent (Takes frame ∷ rest) = CarriesSent sent frame × CarrySent sent rest
CarrySent sent (other ∷ rest) = CarrySent sent rest

-- the end after all of it
abbrev pub after_all : {M : Type 0} → List (Happening M) → End M → End M
after_all [] end = end
after_all (first ∷ rest) end = after_all rest (happened first end)

-- Given up once: whichever frames of the other end come, in whatever order and however often, with whatever lost or
-- broken between, what is given up are the messages behind those accepted before, in order, up to the last number
-- accepted.
abbrev pub GivenUpOnce : Type 0 → Type 0
GivenUpOnce M = (sent : List (Posted M)) (happenings : List (Happening M)) (end : End M) → CarrySent sent happenings
    → take end.accepted sent ++ given_up_over happenings end ≡ take (after_all happenings end).accepted sent
