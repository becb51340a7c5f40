-- What was taken from a ring is what the other end's log sends.
use Rattle.std.specs.List.{AllByRecursion}
use Rattle.std.proofs.Common.{ℕ, zero, suc, ◌-◌, ◌≡◌, refl, sym, ◌∙◌, ap, subst, Some, List, [], ◌∷◌, ◌++◌, map, max, slice_get, arith}
use Rattle.dso_base.specs.declared.journal.Entry.{Entry}
use Rattle.dso_law.specs.Channels.{Direction, Letter, count_inputs, to_client, to_server}
use Rattle.dso_session.specs.declared.frame.Frame.{Frame}
use Rattle.dso_session.specs.declared.frame.Frame.TheVariants.{Carry}
use Rattle.dso_session.specs.Laws.{CarriesSent}
use Rattle.dso_wire.specs.Cells.{Cell, bytes_of}
use Rattle.dso_wire.specs.Laws.{IsOneToOne}
use Rattle.dso_wire.specs.Reading.{down_at, down_frame_at, up_at, up_frame_at}
use Rattle.dso_wire.specs.Spelling.{IsDown, IsFrame, IsUp, down_cells, down_frame_cells, up_cells, up_frame_cells}
use Rattle.dso_wire.proofs.Grammar.{down_exact, frame_exact, up_exact}
use Rattle.dso_wire.proofs.Meaning.{one_spelled}
use Rattle.dso_line.specs.Letters.{letters_of, log_clock}
use Rattle.dso_line.specs.Ways.{TakesFrame, TakesFrames, TakesInOrder, TakesNext, WayMeets, WaysMeet, post_of, posts_of}
use Rattle.dso_port.specs.Frames.{hellos}
use Rattle.dso_port.proofs.ends.Lists.{all_at, at_front, more_hellos}

-- the first of these are those
record First {X : Type 0} (first all : List X) : Type 0 where
  more : List X
  is : all ≡ first ++ more

module _ {M : Type 0} (cells : Frame M → List Cell) (Is : Frame M → Type 0) (one_to_one : IsOneToOne cells Is) where
  -- where the bytes of some frames are the first of those of others, so are the frames
  first : (taken given : List (Frame M)) (rest : List (List ℕ)) → AllByRecursion Is taken → AllByRecursion Is given
      → map (λ frame. bytes_of (cells frame)) taken ++ rest ≡ map (λ frame. bytes_of (cells frame)) given → First taken given
  first [] given rest are too same = record { more = given; is = refl }
  first (frame ∷ taken) [] rest are too same = absurd (cc same)
  first (frame ∷ taken) (other ∷ given) rest are too same =
      let heads : bytes_of (cells frame) ≡ bytes_of (cells other) = cc same in
      let tails : map (λ frame. bytes_of (cells frame)) taken ++ rest ≡ map (λ frame. bytes_of (cells frame)) given = cc same in
      let one = one_to_one frame other are.0 too.0 heads in
      let before = first taken given rest are.1 too.1 tails in
      record { more = before.more; is = ap (λ f. f ∷ given) (sym one) ∙ ap (λ list. frame ∷ list) before.is }

-- the letter that was sent so
record IsLetter {M : Type 0} (letters : List (Letter M)) (place : ℕ) (message : M) (clock : ℕ) : Type 0 where
  letter : Letter M
  at : slice_get letters place ≡ Some letter
  message_is : letter.message ≡ message
  clock_is : letter.clock ≡ clock

letter_at : {M : Type 0} (letters : List (Letter M)) (place : ℕ) (message : M) (clock : ℕ)
    → slice_get (map post_of letters) place ≡ Some (record { message = message; clock = clock }) → IsLetter letters place message clock
letter_at [] place message clock at = absurd (cc at)
letter_at (letter ∷ letters) zero message clock at =
    let same : post_of letter ≡ record { message = message; clock = clock } = cc at in
    record { letter = letter; at = refl; message_is = ap (λ p. p.message) same; clock_is = ap (λ p. p.clock) same }
letter_at (letter ∷ letters) (suc place) message clock at =
    let found = letter_at letters place message clock at in
    record { letter = found.letter; at = found.at; message_is = found.message_is; clock_is = found.clock_is }

-- ---- what is taken, message by message
module _ {M : Type 0} (direction : Direction M) (sender : List Entry) (frames given : List (Frame M)) (front : First frames given)
    (carry : AllByRecursion (CarriesSent (posts_of direction sender)) given) where
  next_of : (e : Entry) (es : List Entry) → TakesFrame direction frames e es → TakesNext direction (letters_of direction sender) e es
  next_of e es takes =
      let k = count_inputs direction.takes es in
      let there = subst (λ list. slice_get list takes.place ≡ Some (Carry takes.epoch (suc k) takes.seen takes.clock takes.message)) (sym front.is)
      (at_front frames front.more takes.place (Carry takes.epoch (suc k) takes.seen takes.clock takes.message) takes.there) in
      let carried = all_at (CarriesSent (posts_of direction sender)) given takes.place (Carry takes.epoch (suc k) takes.seen takes.clock takes.message) carry there in
      let less : suc k - 1 ≡ k = omega arith in
      let at = subst (λ n. slice_get (posts_of direction sender) n ≡ Some (record { message = takes.message; clock = takes.clock })) less carried.1 in
      let found = letter_at (letters_of direction sender) k takes.message takes.clock at in
      record {
        letter = found.letter;
        next = found.at;
        message = takes.taken ∙ ap Some (sym found.message_is);
        clock = takes.next ∙ ap (λ n. suc (max (log_clock es) n)) (sym found.clock_is);
      }

  in_order : (es : List Entry) → TakesFrames direction frames es → TakesInOrder direction (letters_of direction sender) es
  in_order [] takes = tt
  in_order (e ∷ es) takes = (in_order es takes.0, λ its. next_of e es (takes.1 its))

module _ {M : Type 0} (cells : Frame M → List Cell) (Is : Frame M → Type 0) (one_to_one : IsOneToOne cells Is) (direction : Direction M) where
  way_meets : WayMeets cells Is direction
  way_meets sender receiver owed greetings greeted given taken rest gave took same =
      let front = first cells Is one_to_one took.frames gave.frames rest took.spelled.grammar gave.spelled.grammar
      (ap (λ list. list ++ rest) (sym took.spelled.bytes) ∙ same ∙ gave.spelled.bytes) in (
        in_order direction sender took.frames gave.frames front gave.carry receiver took.takes,
        omega (arith, gave.greets, took.greets, more_hellos took.frames front.more, ap hellos front.is),
      )

pub ways_meet : WaysMeet
ways_meet = record {
  up = λ c. way_meets up_frame_cells (IsFrame IsUp) (one_spelled up_frame_at up_frame_cells (IsFrame IsUp) (frame_exact up_at up_cells IsUp up_exact 1 refl refl)) (to_server c);
  down = λ c. way_meets down_frame_cells (IsFrame IsDown) (one_spelled down_frame_at down_frame_cells (IsFrame IsDown) (frame_exact down_at down_cells IsDown down_exact 2 refl refl)) (to_client c);
}
