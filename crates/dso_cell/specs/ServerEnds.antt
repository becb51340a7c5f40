-- What becomes of the server's ends of the clients' connections in a turn.
use Rattle.std.specs.Option.{option_map}
use Rattle.std.specs.Prelude.{ℕ, zero, suc, ◌+◌, ◌-◌, ◌<◌, ◌^◌, ◌≡◌, ◌⊎◌, cond, eqb, Option, Some, None, List, [], ◌∷◌}
use Rattle.std.specs.Prelude.{is_some, slice_get, true}
use Rattle.dso_base.specs.declared.both.Both.TheVariants as both
use Rattle.dso_base.specs.declared.message.Down.{Down}
use Rattle.dso_base.specs.declared.message.Up.{Up}
use Rattle.dso_session.specs.Ends.{broken, posted}
use Rattle.dso_wire.specs.Spelling.{IsDown, IsFrame, IsUp, down_frame_cells, up_frame_cells}
use Rattle.dso_port.specs.declared.arrival.Arrival.{Arrival}
use Rattle.dso_port.specs.declared.arrival.Arrival.TheVariants as arrival
use Rattle.dso_port.specs.Ports.{HasGiven, HasNoMore, HasTaken, KeepsLate, SameRings, all_posted, given}
use Rattle.dso_cell.specs.declared.server_end.ServerEnd.{ServerEnd}
use Rattle.dso_cell.specs.declared.server_ends.Found.{Found}
use Rattle.dso_cell.specs.declared.server_ends.News.{News}
use Rattle.dso_cell.specs.declared.server_ends.News.TheVariants as news

-- ---- one end
-- The end looked into the client's ring, of which this was told.
pub record HasLookedUp (told : Arrival Up) (old new : ServerEnd) : Type 0 where
  pub took : HasTaken both.Up up_frame_cells (IsFrame IsUp) told old.port new.port
  pub late : KeepsLate told old.port.late new.port.late
  pub rings : SameRings old.port new.port
  pub out : new.port.out ≡ old.port.out
  pub triggers : new.triggers ≡ old.triggers

-- it looked in vain: no frame was known to be there, or one that makes no entry
abbrev pub IsPassed : ServerEnd → ServerEnd → Type 0
IsPassed old new = HasLookedUp arrival.Nothing old new ⊎ HasLookedUp arrival.Dropped old new

-- it didn't look, or looked in vain
abbrev pub IsLeft : ServerEnd → ServerEnd → Type 0
IsLeft old new = (new ≡ old) ⊎ IsPassed old new

-- with one message more that is sent
abbrev pub sent_more : ℕ → Down → ServerEnd → ServerEnd
sent_more clock message end = record end
    { port = record end.port { session = posted (both.Down message) clock end.port.session } }

-- where the connection breaks
abbrev pub with_break : ServerEnd → ServerEnd
with_break end = record end { port = record end.port { session = broken end.port.session } }

-- Frames went to the client's ring, as many as were due and places were known to be free.
pub record IsGivenDown (old new : ServerEnd) : Type 0 where
  pub gives : HasGiven both.Down down_frame_cells (IsFrame IsDown) old.port.session new.port.session
      (given old.port.out) (given new.port.out)
  pub all : HasNoMore new.port.session new.port.out
  pub rings : SameRings old.port new.port
  pub into : new.port.into ≡ old.port.into
  pub late : new.port.late ≡ old.port.late
  pub triggers : new.triggers ≡ old.triggers

-- ---- all ends, of which the first is that of client 1
abbrev pub ArePassed : List ServerEnd → List ServerEnd → Type 0
ArePassed [] [] = Unit {0}
ArePassed (old ∷ olds) (new ∷ news) = IsPassed old new × ArePassed olds news
ArePassed olds news = ⊥

abbrev pub AreLeft : List ServerEnd → List ServerEnd → Type 0
AreLeft [] [] = Unit {0}
AreLeft (old ∷ olds) (new ∷ news) = IsLeft old new × AreLeft olds news
AreLeft olds news = ⊥

abbrev pub AreGivenDown : List ServerEnd → List ServerEnd → Type 0
AreGivenDown [] [] = Unit {0}
AreGivenDown (old ∷ olds) (new ∷ news) = IsGivenDown old new × AreGivenDown olds news
AreGivenDown olds news = ⊥

-- some end took a message at the limit
abbrev pub IsAnyLate : List ServerEnd → Type 0
IsAnyLate [] = ⊥
IsAnyLate (end ∷ ends) = (is_some end.port.late ≡ true) ⊎ IsAnyLate ends

-- the end at this place changed so, and the others are left
module _ (Changes : ServerEnd → ServerEnd → Type 0) where
  abbrev pub OneChanged : ℕ → List ServerEnd → List ServerEnd → Type 0
  OneChanged zero (old ∷ olds) (new ∷ news) = Changes old new × AreLeft olds news
  OneChanged (suc place) (old ∷ olds) (new ∷ news) = IsLeft old new × OneChanged place olds news
  OneChanged place olds news = ⊥

-- what was told of the look that brought the news
abbrev pub arrival_of : News → Arrival Up
arrival_of (news.Message message clock) = arrival.Message message clock
arrival_of news.Rejoined = arrival.Rejoined
arrival_of news.Late = arrival.Late

-- All looked in vain; or the end at the place that was found brought the news, and each other one didn't look, or
-- looked in vain.
abbrev pub HaveLooked : Option Found → List ServerEnd → List ServerEnd → Type 0
HaveLooked None olds news = ArePassed olds news
HaveLooked (Some found) olds news = OneChanged (HasLookedUp (arrival_of found.news)) found.place olds news

-- the same, so many places behind
abbrev pub moved : ℕ → Option Found → Option Found
moved places None = None
moved places (Some found) = Some (record found { place = found.place + places })

-- the messages to client c among these
abbrev pub messages_to : ℕ → List (ℕ × Down) → List Down
messages_to c [] = []
messages_to c (one ∷ rest) = cond (eqb c one.0) (one.1 ∷ messages_to c rest) (messages_to c rest)

-- the end of client c, which sends it those of these messages that are for it
abbrev pub told_to : ℕ → ℕ → List (ℕ × Down) → ServerEnd → ServerEnd
told_to c clock messages end = record end
    { port = record end.port { session = all_posted both.Down clock (messages_to c messages) end.port.session } }

-- each end sends its client those of these messages that are for it
abbrev pub AreTold : ℕ → List (ℕ × Down) → List ServerEnd → List ServerEnd → Type 0
AreTold clock messages old new = (place : ℕ)
    → slice_get new place ≡ option_map (told_to (suc place) clock messages) (slice_get old place)

-- the end of client d, where this changes that of client c
abbrev pub with_end : ℕ → (ServerEnd → ServerEnd) → ℕ → ServerEnd → ServerEnd
with_end c change d end = cond (eqb d c) (change end) end

-- this changed the end of client c alone
abbrev pub ChangesEnd : ℕ → (ServerEnd → ServerEnd) → List ServerEnd → List ServerEnd → Type 0
ChangesEnd c change old new = (place : ℕ)
    → slice_get new place ≡ option_map (with_end c change (suc place)) (slice_get old place)

-- no client has seen 2 ^ 63 messages or more
abbrev pub HaveRoom : List ServerEnd → Type 0
HaveRoom ends = (place : ℕ) (end : ServerEnd) → slice_get ends place ≡ Some end → end.port.session.seen < 2 ^ 63

-- the connection of client c broke fewer than 2 ^ 32 - 1 times
abbrev pub HasBreakLeft : ℕ → List ServerEnd → Type 0
HasBreakLeft c ends = (end : ServerEnd) → slice_get ends (c - 1) ≡ Some end
    → end.port.session.epoch + 1 < 2 ^ 32
