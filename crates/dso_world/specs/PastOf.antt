-- What happened to the connection of a client, by a journal. Entries stand with the newest first.
use Rattle.std.specs.Prelude.{ℕ, ◌≡◌, ◌≤◌, not, ◌&&◌, cond, Option, List, [], ◌∷◌, drop, length, map}
use Rattle.dso_base.specs.declared.journal.Entry.{Entry}
use Rattle.dso_base.specs.declared.journal.Node.TheVariants.{Server, Client}
use Rattle.dso_base.specs.declared.lock.ThreadId.{ThreadId}
use Rattle.dso_base.specs.declared.message.Down.{Down}
use Rattle.dso_base.specs.declared.message.Up.{Up}
use Rattle.dso_base.specs.declared.request.Event.{Event}
use Rattle.dso_base.specs.declared.request.Request.{Request}
use Rattle.dso_law.specs.Settings.{Settings}
use Rattle.dso_law.specs.Entries.{is_node, entries_of}
use Rattle.dso_law.specs.Channels.{Direction, Letter, breaks, count_inputs, in_flight, is_broken, posted, rejoins}
use Rattle.dso_law.specs.Channels.{to_client, to_server}
use Rattle.dso_legal.specs.Lawful.{AllFollow, IsLawful}
use Rattle.dso_legal.specs.Slots.{has_rejoined, is_loss_or_break_due}
use Rattle.dso_legal.specs.Slots as slots
use Rattle.dso_session.specs.declared.session.Posted.{Posted}
use Rattle.dso_world.specs.LinkStands.{Course, Joined, Broken, Half, Past, can_take_down, can_take_up}

-- the letters that were posted in the direction, the first of them first
abbrev pub letters_posted : {N : Type 0} → Direction N → List Entry → List (Letter N)
letters_posted direction [] = []
letters_posted direction (e ∷ es) = cond (is_node direction.sender e.node)
    (direction.by_sent (posted e.clock) e.sent (letters_posted direction es)) (letters_posted direction es)

-- how many of them were taken
abbrev pub letters_taken : {N : Type 0} → Direction N → List Entry → ℕ
letters_taken direction es = count_inputs direction.takes (entries_of direction.receiver es)

-- in flight are those posted that were not taken, and no more were taken than were posted
pub record AreLeft {N : Type 0} (direction : Direction N) (es : List Entry) : Type 0 where
  pub few : letters_taken direction es ≤ length (letters_posted direction es)
  pub left : in_flight direction es ≡ drop (letters_taken direction es) (letters_posted direction es)

-- a letter as a message that an end sent, where both directions carry one type of message
abbrev pub post_of : {N M : Type 0} → (N → M) → Letter N → Posted M
post_of one letter = record { message = one letter.message; clock = letter.clock }

module _ {M : Type 0} (as_up : Up → M) (as_down : Down → M) (c : ℕ) where
  -- what happened to the connection of the client
  abbrev pub past_of : List Entry → Past M
  past_of es = record {
    up = map (post_of as_up) (letters_posted (to_server c) es);
    up_taken = letters_taken (to_server c) es;
    down = map (post_of as_down) (letters_posted (to_client c) es);
    down_taken = letters_taken (to_client c) es;
    breaks = count_inputs (breaks c) (entries_of Server es);
    rejoins = count_inputs (rejoins c) (entries_of (Client c) es);
  }

-- joined while it isn't broken; else broken until the client has taken it up as often as it was broken
abbrev pub course_of : Settings → ℕ → List Entry → Course
course_of p c es = cond (is_broken c (entries_of Server es)) (cond (slots.has_rejoined p c es) Half Broken) Joined

-- a message can be taken where a frame can be taken of the connection, and upwards only where nothing is due
pub record CanTake (p : Settings) (es : List Entry) {M : Type 0} (as_up : Up → M) (as_down : Down → M)
    (c : ℕ) : Type 0 where
  pub down : slots.can_take_down p c es ≡ can_take_down (course_of p c es) (past_of as_up as_down c es)
  pub up : slots.can_take_up p c es
      ≡ (not (is_loss_or_break_due p c es) && can_take_up (course_of p c es) (past_of as_up as_down c es))

-- Letters: where all entries follow, the letters in flight are those posted that were not taken; and in a lawful
-- journal a client's messages can be taken where its connection says so.
pub record LettersAreLeft (M : Type 0) : Type 0 where
  pub up : (p : Settings) (next : ThreadId → List Event → Option Request) (es : List Entry) → AllFollow p next es
      → (c : ℕ) → AreLeft (to_server c) es
  pub down : (p : Settings) (next : ThreadId → List Event → Option Request) (es : List Entry) → AllFollow p next es
      → (c : ℕ) → AreLeft (to_client c) es
  pub takes : (p : Settings) (next : ThreadId → List Event → Option Request) (es : List Entry) → IsLawful p next es
      → (as_up : Up → M) (as_down : Down → M) (c : ℕ)
      → CanTake p es as_up as_down c
