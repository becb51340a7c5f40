-- One end of a connection with its ends of two rings: what it gives to one of them, and what it takes from the other.
use Rattle.std.specs.List.{AllByRecursion}
use Rattle.std.specs.Prelude.{ℕ, ◌+◌, ◌-◌, ◌<◌, ◌≤◌, ◌^◌, ◌≡◌, ◌⊎◌, true, cond, Option, Some, None, List, [], ◌∷◌, ◌++◌}
use Rattle.std.specs.Prelude.{fold, is_some, map}
use Rattle.std.specs.Global.{Vec}
use Rattle.std.specs.declared.alloc.Global.{Global}
use Rattle.dso_base.specs.declared.both.Both.{Both}
use Rattle.dso_session.specs.declared.frame.Accepted.TheVariants as accepted
use Rattle.dso_session.specs.declared.frame.Frame.{Frame}
use Rattle.dso_session.specs.declared.frame.Frame.TheVariants.{Carry, Hello}
use Rattle.dso_session.specs.declared.session.Posted.{Posted}
use Rattle.dso_session.specs.declared.session.Role.{Role}
use Rattle.dso_session.specs.Ends.{End, IsInOrder, after_frame, answer, behind_frame, next_frame, opened, posted}
use Rattle.dso_session.specs.Ends.{sent_count}
use Rattle.dso_session.specs.Laws.{HasSent}
use Rattle.dso_wire.specs.Cells.{Cell, bytes_of}
use Rattle.rtrb.specs.Ring.{IsPair, SameConsumer, SameProducer, known_free, known_items, received, sent}
use Rattle.rtrb.specs.declared.consumer.Consumer.{Consumer}
use Rattle.rtrb.specs.declared.producer.Producer.{Producer}
use Rattle.dso_port.specs.declared.arrival.Arrival.{Arrival}
use Rattle.dso_port.specs.declared.arrival.Arrival.TheVariants as arrival
use Rattle.dso_port.specs.declared.fault.PortFault.{PortFault}
use Rattle.dso_port.specs.declared.fault.PortFault.TheVariants as fault
use Rattle.dso_port.specs.declared.carried.FramesOf.{FramesOf}
use Rattle.dso_port.specs.Frames.{GaveOf, HasNoBytes, TookOne}

-- the end of a ring that gives frames with messages of this way, and the one that takes them
abbrev pub Giving : Type 0 → Type 0
Giving M = Producer (Vec ℕ) Global (FramesOf M)

abbrev pub Taking : Type 0 → Type 0
Taking M = Consumer (Vec ℕ) Global (FramesOf M)

-- What an end has: its end of the connection, its ends of the two rings, and the message at the limit that it took.
pub record PortState (S T : Type 0) : Type 0 where
  pub session : End Both
  pub out : Giving S
  pub into : Taking T
  pub late : Option (Frame T)

-- all that was given to a ring, and all that was taken from one, as bytes
abbrev pub given : {A P : Type 0} → Producer (Vec ℕ) A P → List (List ℕ)
given end = map (λ item. item.items) (sent end)

abbrev pub taken : {A P : Type 0} → Consumer (Vec ℕ) A P → List (List ℕ)
taken end = map (λ item. item.items) (received end)

-- how many Hellos an end owes
abbrev pub owed : {M : Type 0} → End M → ℕ
owed end = cond end.owes_hello 1 0

-- how many frames are due
abbrev pub frames_left : {M : Type 0} → End M → ℕ
frames_left end = owed end + (sent_count end - end.given)

-- nothing of the end changed but which frames it gave
pub record SameEnd {M : Type 0} (old new : End M) : Type 0 where
  pub role : new.role ≡ old.role
  pub epoch : new.epoch ≡ old.epoch
  pub ready : new.is_ready ≡ old.is_ready
  pub accepted : new.accepted ≡ old.accepted
  pub seen : new.seen ≡ old.seen

-- no two have the same image
abbrev pub IsInjective : {A B : Type 0} → (A → B) → Type 0
IsInjective {A} f = (x y : A) → f x ≡ f y → x ≡ y

-- the messages of one way, as messages of either way
module _ {M : Type 0} (as_both : M → Both) where
  abbrev pub lifted : Frame M → Frame Both
  lifted (Carry epoch number seen clock message) = Carry epoch number seen clock (as_both message)
  lifted (Hello epoch seen clock) = Hello epoch seen clock

  abbrev pub lifted_post : Posted M → Posted Both
  lifted_post one = record { message = as_both one.message; clock = one.clock }

  -- the end with these messages sent at one clock, the first of them first
  abbrev pub all_posted : ℕ → List M → End Both → End Both
  all_posted clock messages end = fold (λ end message. posted (as_both message) clock end) end messages

  -- The end's numbers are in order, and each message that it keeps is of this way.
  pub record EndKeeps (end : End Both) : Type 0 where
    pub order : IsInOrder end
    pub own : AllByRecursion (λ one. (message : M) × (one.message ≡ as_both message)) end.kept

-- how the frames of one way are spelled
module _ {M : Type 0} (as_both : M → Both) (cells : Frame M → List Cell) (Is : Frame M → Type 0) where
  -- The end sent these messages, and gave frames of them: with those that it owes no more Hellos than this.
  pub record EndGave (posts : List (Posted M)) (greetings : ℕ) (end : End Both) (items : List (List ℕ)) : Type 0 where
    pub sent : HasSent (map (lifted_post as_both) posts) end
    pub gave : GaveOf cells Is posts (owed end) greetings items

  -- these frames are the next ones, one after the other; what was seen went to the ring before
  abbrev pub GivesNext : List (Frame M) → End Both → End Both → Type 0
  GivesNext [] old new = new ≡ old
  GivesNext (frame ∷ frames) old new = (old.seen ≤ old.given) × (next_frame old ≡ Some (lifted as_both frame))
      × GivesNext frames (behind_frame old) new

  -- What the end gave to its ring: the frames that were next, each by its bytes.
  pub record HasGiven (old new : End Both) (before after : List (List ℕ)) : Type 0 where
    pub frames : List (Frame M)
    pub next : GivesNext frames old new
    pub is : AllByRecursion Is frames
    pub more : after ≡ before ++ map (λ frame. bytes_of (cells frame)) frames

  -- Why an end stopped giving frames: memory was refused; or behind some frames, which were next, the next one can't
  -- be spelled.
  pub record StopsAt (CanGo : Frame M → Type 0) (why : PortFault) (old : End Both) : Type 0 where
    pub frames : List (Frame M)
    pub between : End Both
    pub frame : Frame M
    pub next : GivesNext frames old between
    pub last : next_frame between ≡ Some (lifted as_both frame)
    pub none : HasNoBytes CanGo frame why

  abbrev pub HasStopped : (Frame M → Type 0) → PortFault → End Both → Type 0
  HasStopped CanGo (fault.NoMemory refused) old = Unit {0}
  HasStopped CanGo why old = StopsAt CanGo why old

-- the port's ends of rings are those of the same rings
pub record SameRings {S T : Type 0} (old new : PortState S T) : Type 0 where
  pub out : SameProducer old.out new.out
  pub into : SameConsumer old.into new.into

-- no place is known to be free, or no frame is due
abbrev pub HasNoMore : {M : Type 0} → End Both → Giving M → Type 0
HasNoMore end out = (known_free out ≡ 0) ⊎ (next_frame end ≡ None)

-- what an end makes of a frame, by what is told of it
module _ {M : Type 0} (as_both : M → Both) where
  -- The message is given up, which has the next number, on a connection that is ready; its clock is below the limit.
  pub record IsGivenUp (frame : Frame M) (message : M) (clock : ℕ) (old new : End Both) : Type 0 where
    pub ready : old.is_ready ≡ true
    pub low : clock < 2 ^ 28
    pub answered : answer (lifted as_both frame) old ≡ accepted.Up (as_both message) clock
    pub now : new ≡ after_frame (lifted as_both frame) old

  -- the connection begins anew
  pub record IsRejoined (frame : Frame M) (old new : End Both) : Type 0 where
    pub behind : ℕ
    pub answered : answer (lifted as_both frame) old ≡ accepted.Rejoined behind
    pub now : new ≡ after_frame (lifted as_both frame) old

  abbrev pub HasCome : Frame M → Arrival M → End Both → End Both → Type 0
  HasCome frame arrival.Nothing old new = ⊥
  HasCome frame arrival.Dropped old new = new ≡ old
  HasCome frame arrival.Late old new = new ≡ old
  HasCome frame (arrival.Message message clock) old new = IsGivenUp frame message clock old new
  HasCome frame arrival.Rejoined old new = IsRejoined frame old new

  -- a message is missing before the frame, as the end answers
  abbrev pub LacksBefore : Frame M → PortFault → End Both → Type 0
  LacksBefore frame fault.Gap end = (number : ℕ) × (answer (lifted as_both frame) end ≡ accepted.Gap number)
  LacksBefore frame other end = ⊥

-- a message at the limit is kept
abbrev pub KeepsLate : {M : Type 0} → Arrival M → Option (Frame M) → Option (Frame M) → Type 0
KeepsLate arrival.Late old new = is_some new ≡ true
KeepsLate arrival old new = new ≡ old

module _ {S T : Type 0} (as_both : T → Both) (cells : Frame T → List Cell) (Is : Frame T → Type 0) where
  -- one frame more was taken, of which this was told
  pub record TookFrame (told : Arrival T) (old new : PortState S T) : Type 0 where
    pub frame : Frame T
    pub took : TookOne cells Is (taken old.into) (taken new.into) frame
    pub heard : HasCome as_both frame told old.session new.session

  -- What was told of a look into the ring: nothing was known to be in it, or one frame more was taken.
  abbrev pub HasTaken : Arrival T → PortState S T → PortState S T → Type 0
  HasTaken arrival.Nothing old new = (new.session ≡ old.session) × (taken new.into ≡ taken old.into)
      × (known_items new.into ≡ [])
  HasTaken told old new = TookFrame told old new

  -- one frame more was taken, before which a message is missing
  pub record TookGap (old new : PortState S T) : Type 0 where
    pub frame : Frame T
    pub took : TookOne cells Is (taken old.into) (taken new.into) frame
    pub lacks : LacksBefore as_both frame fault.Gap old.session

  -- Why a look into the ring failed: memory was refused, or a message is missing.
  abbrev pub HasFailed : PortFault → PortState S T → PortState S T → Type 0
  HasFailed (fault.NoMemory refused) old new = Unit {0}
  HasFailed fault.Gap old new = TookGap old new
  HasFailed fault.NoBytes old new = ⊥

-- How many frames a ring has room for.
abbrev pub places : ℕ
places = 64

-- An end before all else: nothing was sent, given or taken, and each place of its ring is known to be free.
pub record IsNew {S T : Type 0} (own : Role) (port : PortState S T) : Type 0 where
  pub session : port.session ≡ opened own
  pub gave : given port.out ≡ []
  pub took : taken port.into ≡ []
  pub free : known_free port.out ≡ places
  pub none : known_items port.into ≡ []
  pub late : port.late ≡ None

-- what one end gives the other takes, both ways
pub record AreTogether {S T : Type 0} (client : PortState S T) (server : PortState T S) : Type 0 where
  pub up : IsPair client.out server.into
  pub down : IsPair server.out client.into

-- the end knows all that is in its ring
abbrev pub KnowsAll : {M : Type 0} → Giving M → Taking M → Type 0
KnowsAll giving taking = received taking ++ known_items taking ≡ sent giving

-- each end knows all that is in the ring from which it takes
pub record KnowEachOther {S T : Type 0} (client : PortState S T) (server : PortState T S) : Type 0 where
  pub up : KnowsAll client.out server.into
  pub down : KnowsAll server.out client.into

-- An end looked into its rings: it gave and took nothing.
pub record HasLooked {S T : Type 0} (old new : PortState S T) : Type 0 where
  pub session : new.session ≡ old.session
  pub rings : SameRings old new
  pub gave : given new.out ≡ given old.out
  pub took : taken new.into ≡ taken old.into
  pub late : new.late ≡ old.late
