-- What cells gave into a ring and took from one, as bytes, and what their logs say of it. Entries stand with the
-- newest first.
use Rattle.std.specs.Prelude.{ℕ, suc, max, ◌≤◌, ◌≡◌, true, Some, List, [], ◌∷◌, ◌++◌, map, slice_get}
use Rattle.dso_base.specs.declared.journal.Entry.{Entry}
use Rattle.dso_law.specs.Channels.{Direction, Letter, count_inputs, to_client, to_server}
use Rattle.dso_session.specs.declared.frame.Frame.{Frame}
use Rattle.dso_session.specs.declared.frame.Frame.TheVariants.{Carry}
use Rattle.dso_session.specs.declared.session.Posted.{Posted}
use Rattle.dso_wire.specs.Cells.{Cell}
use Rattle.dso_wire.specs.Spelling.{IsDown, IsFrame, IsUp, down_frame_cells, up_frame_cells}
use Rattle.dso_port.specs.Frames.{AreSpelled, GaveOf, hellos}
use Rattle.dso_line.specs.Letters.{letters_of, log_clock}

-- a letter as a message that an end of a connection sends
abbrev pub post_of : {M : Type 0} → Letter M → Posted M
post_of letter = record { message = letter.message; clock = letter.clock }

-- what the log sends in the direction
abbrev pub posts_of : {M : Type 0} → Direction M → List Entry → List (Posted M)
posts_of direction es = map post_of (letters_of direction es)

module _ {M : Type 0} (direction : Direction M) where
  -- The entry takes the next letter of these: as many were taken before it as stand before that one, it takes that
  -- message, and its clock is 1 more than the greater of the log's last one and the letter's.
  pub record TakesNext (letters : List (Letter M)) (e : Entry) (es : List Entry) : Type 0 where
    pub letter : Letter M
    pub next : slice_get letters (count_inputs direction.takes es) ≡ Some letter
    pub message : direction.message e.input ≡ Some letter.message
    pub clock : e.clock ≡ suc (max (log_clock es) letter.clock)

  -- what the log takes in the direction are these letters, from the first on, each once
  abbrev pub TakesInOrder : List (Letter M) → List Entry → Type 0
  TakesInOrder letters [] = Unit {0}
  TakesInOrder letters (e ∷ es) = TakesInOrder letters es
      × (direction.takes e.input ≡ true → TakesNext letters e es)

  -- The entry takes the message of one of these frames: that of the next number; and its clock is 1 more than the
  -- greater of the log's last one and the frame's.
  pub record TakesFrame (frames : List (Frame M)) (e : Entry) (es : List Entry) : Type 0 where
    pub epoch : ℕ
    pub seen : ℕ
    pub clock : ℕ
    pub message : M
    pub place : ℕ
    pub there : slice_get frames place
        ≡ Some (Carry epoch (suc (count_inputs direction.takes es)) seen clock message)
    pub taken : direction.message e.input ≡ Some message
    pub next : e.clock ≡ suc (max (log_clock es) clock)

  -- each message that the log takes in the direction came in one of these frames
  abbrev pub TakesFrames : List (Frame M) → List Entry → Type 0
  TakesFrames frames [] = Unit {0}
  TakesFrames frames (e ∷ es) = TakesFrames frames es × (direction.takes e.input ≡ true → TakesFrame frames e es)

module _ {M : Type 0} (cells : Frame M → List Cell) (Is : Frame M → Type 0) (direction : Direction M) where
  -- what a cell gave to its ring: messages that its log sends, and no more Hellos than this
  abbrev pub GaveToRing : List Entry → ℕ → ℕ → List (List ℕ) → Type 0
  GaveToRing log owed greetings items = GaveOf cells Is (posts_of direction log) owed greetings items

  -- What a cell took from its ring: frames, in which each message came that its log takes, and no fewer Hellos than
  -- this.
  pub record TookFromRing (log : List Entry) (greeted : ℕ) (items : List (List ℕ)) : Type 0 where
    pub frames : List (Frame M)
    pub spelled : AreSpelled cells Is frames items
    pub takes : TakesFrames direction frames log
    pub greets : greeted ≤ hellos frames

  -- Where the bytes that one cell took are the first of those that the other gave, its log takes the letters of the
  -- other's log, in order and once, and it was greeted no more often than the other greeted.
  abbrev pub WayMeets : Type 0
  WayMeets = (sender receiver : List Entry) (owed greetings greeted : ℕ) (given taken rest : List (List ℕ))
      → GaveToRing sender owed greetings given → TookFromRing receiver greeted taken → taken ++ rest ≡ given
      → TakesInOrder direction (letters_of direction sender) receiver × (greeted ≤ greetings)

-- Ways: so it is on the way up and on the way down of each client.
pub record WaysMeet : Type 0 where
  pub up : (c : ℕ) → WayMeets up_frame_cells (IsFrame IsUp) (to_server c)
  pub down : (c : ℕ) → WayMeets down_frame_cells (IsFrame IsDown) (to_client c)
