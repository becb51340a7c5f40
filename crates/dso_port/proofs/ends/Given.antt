-- A frame that goes to a ring carries what was sent, and fewer are due behind it.
use Rattle.std.proofs.Common.{ℕ, zero, suc, ◌+◌, ◌-◌, ◌≤◌, ◌≡◌, refl, sym, ◌∙◌, ap, subst, Bool, true, false, cond, Option, Some, None, List, [], ◌∷◌, ◌++◌, length, map, slice_get, arith}
use Rattle.std.specs.List.{AllByRecursion}
use Rattle.std.proofs.lemmas.List.{append-nil, append_assoc, map-append}
use Rattle.std.proofs.lemmas.Option.{slice_get-map}
use Rattle.std.specs.Option.{option_map}
use Rattle.dso_base.specs.declared.both.Both.{Both}
use Rattle.dso_session.specs.declared.frame.Frame.{Frame}
use Rattle.dso_session.specs.declared.frame.Frame.TheVariants.{Carry, Hello}
use Rattle.dso_session.specs.declared.session.Posted.{Posted}
use Rattle.dso_session.specs.Ends.{End, behind_frame, carrying, gone_on, next_frame, next_kept, sent_count}
use Rattle.dso_session.specs.Laws.{CarriesSent, Gives, GivesSent}
use Rattle.dso_session.proofs.Sent.{keeps_sent}
use Rattle.dso_wire.specs.Cells.{Cell, bytes_of}
use Rattle.dso_port.specs.Ports.{EndGave, EndKeeps, GivesNext, HasGiven, HasStopped, IsInjective, SameEnd, StopsAt, frames_left, lifted, lifted_post, owed}
use Rattle.dso_port.specs.declared.fault.PortFault.{PortFault}
use Rattle.dso_port.specs.declared.fault.PortFault.TheVariants as fault
use Rattle.dso_port.specs.Frames.{HasNoBytes, hellos}
use Rattle.dso_port.specs.Laws.{GivenGoesOn}
use Rattle.dso_port.proofs.ends.Lists.{all_at, all_more, no_hello, one_hello}

-- ---- the frame that is next is of this way
module _ {M : Type 0} (as_both : M → Both) (end : End Both) (keeps : EndKeeps as_both end) where
  own_by : (owes ready : Bool) (frame : Frame Both)
      → cond owes (Some (Hello end.epoch end.accepted end.clock)) (carrying end (cond ready (slice_get end.kept (end.given - end.seen)) None)) ≡ Some frame
      → (own : Frame M) × (frame ≡ lifted as_both own)
  own_by true ready frame is = let same : Hello end.epoch end.accepted end.clock ≡ frame = cc is in (Hello end.epoch end.accepted end.clock, sym same)
  own_by false false frame is = absurd (cc is)
  own_by false true frame is = by (slice_get end.kept (end.given - end.seen)) refl is
    where
      by : (kept : Option (Posted Both)) → slice_get end.kept (end.given - end.seen) ≡ kept → carrying end kept ≡ Some frame → (own : Frame M) × (frame ≡ lifted as_both own)
      by None at is = absurd (cc is)
      by (Some one) at is =
          let same : Carry end.epoch (end.given + 1) end.accepted one.clock one.message ≡ frame = cc is in
          let its = all_at (λ one. (message : M) × (one.message ≡ as_both message)) end.kept (end.given - end.seen) one keeps.own at in
          (Carry end.epoch (end.given + 1) end.accepted one.clock its.0, sym same ∙ ap (λ m. Carry end.epoch (end.given + 1) end.accepted one.clock m) its.1)

  pub own_frame : (frame : Frame Both) → next_frame end ≡ Some frame → (own : Frame M) × (frame ≡ lifted as_both own)
  own_frame frame is = own_by end.owes_hello end.is_ready frame is

  -- behind it the end keeps what it kept
  keeps_by : (owes : Bool) (kept : Option (Posted Both)) → ((one : Posted Both) → kept ≡ Some one → end.given + 1 ≤ sent_count end) → EndKeeps as_both (cond owes (record end { owes_hello = false }) (gone_on end kept))
  keeps_by true kept room = record { order = record { seen = keeps.order.seen; given = keeps.order.given; few = keeps.order.few }; own = keeps.own }
  keeps_by false None room = keeps
  keeps_by false (Some one) room = record {
    order = record { seen = omega (arith, keeps.order.seen); given = room one refl; few = keeps.order.few };
    own = keeps.own;
  }

  below : {X : Type 0} (xs : List X) (k : ℕ) (x : X) → slice_get xs k ≡ Some x → k + 1 ≤ length xs
  below [] k x at = absurd (cc at)
  below (y ∷ xs) zero x at = omega arith
  below (y ∷ xs) (suc k) x at = omega (arith, below xs k x at)

  room_by : (ready : Bool) (one : Posted Both) → cond ready (slice_get end.kept (end.given - end.seen)) None ≡ Some one → end.given + 1 ≤ sent_count end
  room_by true one at = omega (arith, below end.kept (end.given - end.seen) one at, keeps.order.seen)
  room_by false one at = absurd (cc at)

  pub keeps_behind : EndKeeps as_both (behind_frame end)
  keeps_behind = keeps_by end.owes_hello (next_kept end) (λ one at. room_by end.is_ready one at)

  -- one frame less is due
  left_by : (owes : Bool) (kept : Option (Posted Both)) (frame : Frame Both) → end.owes_hello ≡ owes → ((one : Posted Both) → kept ≡ Some one → end.given + 1 ≤ sent_count end)
      → cond owes (Some (Hello end.epoch end.accepted end.clock)) (carrying end kept) ≡ Some frame
      → frames_left (cond owes (record end { owes_hello = false }) (gone_on end kept)) + 1 ≡ cond owes 1 0 + (sent_count end - end.given)
  left_by true kept frame owes room is = omega arith
  left_by false None frame owes room is = absurd (cc is)
  left_by false (Some one) frame owes room is =
      subst (λ b. cond b 1 0 + (sent_count end - (end.given + 1)) + 1 ≡ 0 + (sent_count end - end.given)) (sym owes) (omega (arith, room one refl))

  pub one_less : (frame : Frame Both) → next_frame end ≡ Some frame → frames_left (behind_frame end) + 1 ≡ frames_left end
  one_less frame is = left_by end.owes_hello (next_kept end) frame refl (λ one at. room_by end.is_ready one at) is

module _ (end : End Both) where
  same_by : (owes : Bool) (kept : Option (Posted Both)) → SameEnd end (cond owes (record end { owes_hello = false }) (gone_on end kept))
  same_by true kept = record { role = refl; epoch = refl; ready = refl; accepted = refl; seen = refl }
  same_by false None = record { role = refl; epoch = refl; ready = refl; accepted = refl; seen = refl }
  same_by false (Some one) = record { role = refl; epoch = refl; ready = refl; accepted = refl; seen = refl }

  pub same_behind : SameEnd end (behind_frame end)
  same_behind = same_by end.owes_hello (next_kept end)

  -- where none is due, nothing changes
  none_by : (owes : Bool) (kept : Option (Posted Both)) → cond owes (Some (Hello end.epoch end.accepted end.clock)) (carrying end kept) ≡ None → cond owes (record end { owes_hello = false }) (gone_on end kept) ≡ end
  none_by true kept is = absurd (cc is)
  none_by false None is = refl
  none_by false (Some one) is = absurd (cc is)

  pub none_next : next_frame end ≡ None → behind_frame end ≡ end
  none_next is = none_by end.owes_hello (next_kept end) is

same_both : (a b c : End Both) → SameEnd a b → SameEnd b c → SameEnd a c
same_both a b c one two = record { role = two.role ∙ one.role; epoch = two.epoch ∙ one.epoch; ready = two.ready ∙ one.ready; accepted = two.accepted ∙ one.accepted; seen = two.seen ∙ one.seen }

-- ---- what was given goes on
module _ {M : Type 0} (as_both : M → Both) (cells : Frame M → List Cell) (Is : Frame M → Type 0) (injective : IsInjective as_both) where
  -- a message among those sent, as one of its way
  sent_own : (posts : List (Posted M)) (k : ℕ) (message : M) (clock : ℕ) → slice_get (map (lifted_post as_both) posts) k ≡ Some (record { message = as_both message; clock = clock })
      → slice_get posts k ≡ Some (record { message = message; clock = clock })
  sent_own posts k message clock at = by (slice_get posts k) refl
    where
      by : (one : Option (Posted M)) → slice_get posts k ≡ one → one ≡ Some (record { message = message; clock = clock })
      by None is = absurd (cc (sym (ap (option_map (lifted_post as_both)) is) ∙ sym (slice_get-map (lifted_post as_both) posts k) ∙ at))
      by (Some one) is =
          let whole : Some (lifted_post as_both one) ≡ Some (record { message = as_both message; clock = clock }) = sym (ap (option_map (lifted_post as_both)) is) ∙ sym (slice_get-map (lifted_post as_both) posts k) ∙ at in
          let same : lifted_post as_both one ≡ record { message = as_both message; clock = clock } = cc whole in
          let message_is : one.message ≡ message = injective one.message message (ap (λ p. p.message) same) in
          let clock_is : one.clock ≡ clock = ap (λ p. p.clock) same in
          ap (λ m. Some (record { message = m; clock = one.clock })) message_is ∙ ap (λ n. Some (record { message = message; clock = n })) clock_is

  carries_own : (posts : List (Posted M)) (frame : Frame M) → CarriesSent (map (lifted_post as_both) posts) (lifted as_both frame) → CarriesSent posts frame
  carries_own posts (Carry epoch number seen clock message) carries = (carries.0, sent_own posts (number - 1) message clock carries.1)
  carries_own posts (Hello epoch seen clock) carries = tt

  module _ (end : End Both) where
    -- where a Hello is due, and where the next message is
    greets_by : (owes : Bool) (kept : Option (Posted Both)) (frames : List (Frame M)) (greetings : ℕ) (frame : Frame M)
        → cond owes (Some (Hello end.epoch end.accepted end.clock)) (carrying end kept) ≡ Some (lifted as_both frame)
        → end.owes_hello ≡ owes → hellos frames + cond owes 1 0 ≤ greetings → hellos (frames ++ frame ∷ []) + owed (cond owes (record end { owes_hello = false }) (gone_on end kept)) ≤ greetings
    greets_by true kept frames greetings (Hello epoch seen clock) is owes few = omega (arith, few, one_hello frames epoch seen clock)
    greets_by true kept frames greetings (Carry epoch number seen clock message) is owes few = absurd (cc is)
    greets_by false None frames greetings frame is owes few = absurd (cc is)
    greets_by false (Some one) frames greetings (Hello epoch seen clock) is owes few = absurd (cc is)
    greets_by false (Some one) frames greetings (Carry epoch number seen clock message) is owes few =
        subst (λ b. hellos (frames ++ Carry epoch number seen clock message ∷ []) + cond b 1 0 ≤ greetings) (sym owes)
        (omega (arith, few, no_hello frames epoch number seen clock message))

    gave_next : end.seen ≤ end.given → (frame : Frame M) → Is frame → next_frame end ≡ Some (lifted as_both frame) → (posts : List (Posted M)) (greetings : ℕ) (items : List (List ℕ))
        → EndGave as_both cells Is posts greetings end items → EndGave as_both cells Is posts greetings (behind_frame end) (items ++ bytes_of (cells frame) ∷ [])
    gave_next seen frame its is posts greetings items gave = record {
      sent = keeps_sent.goes_on Gives (map (lifted_post as_both) posts) end gave.sent;
      gave = record {
        frames = gave.gave.frames ++ frame ∷ [];
        spelled = record {
          grammar = all_more Is gave.gave.frames frame gave.gave.spelled.grammar its;
          bytes = ap (λ list. list ++ bytes_of (cells frame) ∷ []) gave.gave.spelled.bytes ∙ sym (map-append (λ f. bytes_of (cells f)) gave.gave.frames (frame ∷ []));
        };
        carry = all_more (CarriesSent posts) gave.gave.frames frame gave.gave.carry
            (carries_own posts frame (subst (GivesSent (map (lifted_post as_both) posts)) is (keeps_sent.next (map (lifted_post as_both) posts) end gave.sent seen)));
        greets = greets_by end.owes_hello (next_kept end) gave.gave.frames greetings frame is refl gave.gave.greets;
      };
    }

-- ---- what is given since
module _ {M : Type 0} (as_both : M → Both) (cells : Frame M → List Cell) (Is : Frame M → Type 0) where
  -- nothing was given
  pub given_nothing : (a : End Both) (x y : List (List ℕ)) → y ≡ x → HasGiven as_both cells Is a a x y
  given_nothing a x y same = record { frames = []; next = refl; is = tt; more = same ∙ sym (append-nil x) }

  -- nothing was due
  pub none_given : (a b : End Both) (x y : List (List ℕ)) → next_frame a ≡ None → b ≡ behind_frame a → y ≡ x → HasGiven as_both cells Is a b x y
  none_given a b x y none now same = record { frames = []; next = now ∙ none_next a none; is = tt; more = same ∙ sym (append-nil x) }

  -- one frame was given
  pub given_one : (a b : End Both) (x y : List (List ℕ)) (frame : Frame M) → a.seen ≤ a.given → Is frame → next_frame a ≡ Some (lifted as_both frame) → b ≡ behind_frame a → y ≡ x ++ bytes_of (cells frame) ∷ [] → HasGiven as_both cells Is a b x y
  given_one a b x y frame seen its is now more = record { frames = frame ∷ []; next = (seen, is, now); is = (its, tt); more = more }

  next_through : (frames more : List (Frame M)) (a b c : End Both) → GivesNext as_both cells Is frames a b → GivesNext as_both cells Is more b c → GivesNext as_both cells Is (frames ++ more) a c
  next_through [] more a b c first then = subst (λ end. GivesNext as_both cells Is more end c) first then
  next_through (frame ∷ frames) more a b c first then = (first.0, first.1, next_through frames more (behind_frame a) b c first.2 then)

  all_through : (frames more : List (Frame M)) → AllByRecursion Is frames → AllByRecursion Is more → AllByRecursion Is (frames ++ more)
  all_through [] more all rest = rest
  all_through (frame ∷ frames) more all rest = (all.0, all_through frames more all.1 rest)

  -- one behind the other
  pub given_through : (a b c : End Both) (x y z : List (List ℕ)) → HasGiven as_both cells Is a b x y → HasGiven as_both cells Is b c y z → HasGiven as_both cells Is a c x z
  given_through a b c x y z one two = record {
    frames = one.frames ++ two.frames;
    next = next_through one.frames two.frames a b c one.next two.next;
    is = all_through one.frames two.frames one.is two.is;
    more = two.more ∙ ap (λ list. list ++ map (λ frame. bytes_of (cells frame)) two.frames) one.more
        ∙ append_assoc x (map (λ frame. bytes_of (cells frame)) one.frames) (map (λ frame. bytes_of (cells frame)) two.frames)
        ∙ ap (λ list. x ++ list) (sym (map-append (λ frame. bytes_of (cells frame)) one.frames two.frames));
  }

  -- ---- why it stops
  module _ (CanGo : Frame M → Type 0) where
    pub stopped_here : (why : PortFault) (a : End Both) (frame : Frame M) → next_frame a ≡ Some (lifted as_both frame) → HasNoBytes CanGo frame why → HasStopped as_both cells Is CanGo why a
    stopped_here (fault.NoMemory refused) a frame is none = tt
    stopped_here fault.Gap a frame is none = record { frames = []; between = a; frame = frame; next = refl; last = is; none = none }
    stopped_here fault.NoBytes a frame is none = record { frames = []; between = a; frame = frame; next = refl; last = is; none = none }

    stopped_by : (why : PortFault) (a b : End Both) (x y : List (List ℕ)) → HasGiven as_both cells Is a b x y → StopsAt as_both cells Is CanGo why b → StopsAt as_both cells Is CanGo why a
    stopped_by why a b x y gave stops = record {
      frames = gave.frames ++ stops.frames;
      between = stops.between;
      frame = stops.frame;
      next = next_through gave.frames stops.frames a b stops.between gave.next stops.next;
      last = stops.last;
      none = stops.none;
    }

    pub stopped_through : (why : PortFault) (a b : End Both) (x y : List (List ℕ)) → HasGiven as_both cells Is a b x y → HasStopped as_both cells Is CanGo why b → HasStopped as_both cells Is CanGo why a
    stopped_through (fault.NoMemory refused) a b x y gave stops = tt
    stopped_through fault.Gap a b x y gave stops = stopped_by fault.Gap a b x y gave stops
    stopped_through fault.NoBytes a b x y gave stops = stopped_by fault.NoBytes a b x y gave stops

  -- ---- it is of what the end sent
  goes_on : IsInjective as_both → (frames : List (Frame M)) (old new : End Both) (items : List (List ℕ)) → GivesNext as_both cells Is frames old new → AllByRecursion Is frames
      → (posts : List (Posted M)) (greetings : ℕ) → EndGave as_both cells Is posts greetings old items
      → EndGave as_both cells Is posts greetings new (items ++ map (λ frame. bytes_of (cells frame)) frames)
  goes_on injective [] old new items next is posts greetings gave =
      subst (λ end. EndGave as_both cells Is posts greetings end (items ++ [])) (sym next) (subst (EndGave as_both cells Is posts greetings old) (sym (append-nil items)) gave)
  goes_on injective (frame ∷ frames) old new items next is posts greetings gave =
      subst (EndGave as_both cells Is posts greetings new) (append_assoc items (bytes_of (cells frame) ∷ []) (map (λ f. bytes_of (cells f)) frames))
      (goes_on injective frames (behind_frame old) new (items ++ bytes_of (cells frame) ∷ []) next.2 is.1 posts greetings
      (gave_next as_both cells Is injective old next.0 frame is.0 next.1 posts greetings items gave))

  same_through : (frames : List (Frame M)) (old new : End Both) → GivesNext as_both cells Is frames old new → SameEnd old new
  same_through [] old new next = subst (SameEnd old) (sym next) (record { role = refl; epoch = refl; ready = refl; accepted = refl; seen = refl })
  same_through (frame ∷ frames) old new next = same_both old (behind_frame old) new (same_behind old) (same_through frames (behind_frame old) new next.2)

pub given_goes_on : {M : Type 0} (as_both : M → Both) (cells : Frame M → List Cell) (Is : Frame M → Type 0) → IsInjective as_both → GivenGoesOn as_both cells Is
given_goes_on as_both cells Is injective = record {
  goes_on = λ old new before after given posts greetings gave.
      subst (EndGave as_both cells Is posts greetings new) (sym given.more) (goes_on as_both cells Is injective given.frames old new before given.next given.is posts greetings gave);
  same = λ old new before after given. same_through as_both cells Is given.frames old new given.next;
}
