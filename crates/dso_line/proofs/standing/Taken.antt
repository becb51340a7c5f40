-- What an end took, once its log has one entry more.
use Rattle.std.proofs.Common.{ℕ, suc, ◌+◌, ◌≤◌, ◌≡◌, refl, sym, ◌∙◌, ap, subst, Bool, true, false, cond, eqb, leb, ltb, max, not, ◌||◌, Some, List, [], ◌∷◌, ◌++◌, length, arith}
use Rattle.std.proofs.lemmas.List.{map-append}
use Rattle.dso_base.specs.declared.both.Both.{Both}
use Rattle.dso_base.specs.declared.journal.Entry.{Entry}
use Rattle.dso_law.specs.Channels.{Direction, count_inputs}
use Rattle.dso_session.specs.declared.frame.Accepted.{Accepted}
use Rattle.dso_session.specs.declared.frame.Accepted.TheVariants as accepted
use Rattle.dso_session.specs.declared.frame.Frame.{Frame}
use Rattle.dso_session.specs.declared.frame.Frame.TheVariants.{Carry, Hello}
use Rattle.dso_session.specs.declared.session.Role.{Role}
use Rattle.dso_session.specs.declared.session.Role.TheVariants as role
use Rattle.dso_session.specs.Ends.{End, after_answer, after_frame, answer, answers_hello, is_new, rejoined, sent_count}
use Rattle.dso_wire.specs.Cells.{Cell, bytes_of}
use Rattle.dso_port.specs.Frames.{TookOne, hellos}
use Rattle.dso_port.specs.Ports.{EndGave, IsInjective, PortState, TookFrame, given, lifted, owed, taken}
use Rattle.dso_port.specs.declared.arrival.Arrival.TheVariants as arrival
use Rattle.dso_port.proofs.ends.Lists.{all_more, at_end, at_front, more_hellos, one_hello}
use Rattle.dso_port.proofs.ends.Taken.{gave_behind, given_up_next}
use Rattle.dso_line.specs.Letters.{log_clock}
use Rattle.dso_line.proofs.standing.Posts.{gives_same}
use Rattle.dso_line.specs.Lines.{EndStands, Way}
use Rattle.dso_line.specs.Ways.{TakesFrames, TookFromRing, posts_of}

-- ---- the frames that were taken
module _ {M : Type 0} (cells : Frame M → List Cell) (Is : Frame M → Type 0) (direction : Direction M) where
  takes_more : (frames more : List (Frame M)) (es : List Entry) → TakesFrames direction frames es → TakesFrames direction (frames ++ more) es
  takes_more frames more [] takes = tt
  takes_more frames more (e ∷ es) takes = (
    takes_more frames more es takes.0,
    λ its.
        let before = takes.1 its in
        record {
          epoch = before.epoch;
          seen = before.seen;
          clock = before.clock;
          message = before.message;
          place = before.place;
          taken = before.taken;
          next = before.next;
          there = at_front frames more before.place (Carry before.epoch (suc (count_inputs direction.takes es)) before.seen before.clock before.message) before.there;
        },
  )

  module _ (before after : List (List ℕ)) (frame : Frame M) (one : TookOne cells Is before after frame) (es : List Entry) (greeted : ℕ) (took : TookFromRing cells Is direction es greeted before) where
    -- a frame more that makes no entry
    pub took_frame : TookFromRing cells Is direction es greeted after
    took_frame = record {
      frames = took.frames ++ frame ∷ [];
      spelled = record {
        grammar = all_more Is took.frames frame took.spelled.grammar one.is;
        bytes = one.more ∙ ap (λ list. list ++ bytes_of (cells frame) ∷ []) took.spelled.bytes ∙ sym (map-append (λ f. bytes_of (cells f)) took.frames (frame ∷ []));
      };
      takes = takes_more took.frames (frame ∷ []) es took.takes;
      greets = omega (arith, took.greets, more_hellos took.frames (frame ∷ []));
    }

    -- a frame whose message the entry takes
    pub took_message : (e : Entry) (epoch seen clock : ℕ) (message : M) → frame ≡ Carry epoch (suc (count_inputs direction.takes es)) seen clock message
        → direction.message e.input ≡ Some message → e.clock ≡ suc (max (log_clock es) clock) → TookFromRing cells Is direction (e ∷ es) greeted after
    unfolding took_frame
    took_message e epoch seen clock message is its next = record {
      frames = took_frame.frames;
      spelled = took_frame.spelled;
      takes = (
        took_frame.takes,
        λ takes. record {
          epoch = epoch;
          seen = seen;
          clock = clock;
          message = message;
          place = length took.frames;
          taken = its;
          next = next;
          there = at_end took.frames frame ∙ ap Some is;
        },
      );
      greets = took_frame.greets;
    }

    -- a Hello, by which the end was greeted once more, and an entry that takes no message
    pub took_hello : (e : Entry) (epoch seen clock : ℕ) → frame ≡ Hello epoch seen clock → direction.takes e.input ≡ false → TookFromRing cells Is direction (e ∷ es) (suc greeted) after
    unfolding took_frame
    took_hello e epoch seen clock is none = record {
      frames = took_frame.frames;
      spelled = took_frame.spelled;
      takes = (took_frame.takes, λ its. absurd (cc (sym its ∙ none)));
      greets = omega (arith, took.greets, ap (λ f. hellos (took.frames ++ f ∷ [])) is, one_hello took.frames epoch seen clock);
    }

-- ---- the connection begins anew
-- the frame is a Hello, and the end goes on behind it
pub record IsHello {M : Type 0} (frame : Frame M) (old new : End Both) : Type 0 where
  pub epoch : ℕ
  pub seen : ℕ
  pub clock : ℕ
  pub is : frame ≡ Hello epoch seen clock
  pub now : new ≡ rejoined epoch seen old

module _ {M : Type 0} (as_both : M → Both) (end : End Both) (behind : ℕ) where
  no_carry : (epoch number seen heard : ℕ) (m : Both) (old again gap : Bool)
      → cond old (accepted.OldConnection epoch) (cond again (accepted.Again number) (cond gap (accepted.Gap number) (accepted.Up m heard))) ≡ accepted.Rejoined behind → ⊥
  no_carry epoch number seen heard m true again gap is = absurd (cc is)
  no_carry epoch number seen heard m false true gap is = absurd (cc is)
  no_carry epoch number seen heard m false false true is = absurd (cc is)
  no_carry epoch number seen heard m false false false is = absurd (cc is)

  hello_by : (epoch seen heard : ℕ) (old gap : Bool) → cond {A = Accepted Both} old (accepted.OldConnection epoch) (cond gap (accepted.Gap seen) (accepted.Rejoined seen)) ≡ accepted.Rejoined behind
      → IsHello {M = M} (Hello epoch seen heard) end (after_answer (Hello epoch seen heard) (cond old (accepted.OldConnection epoch) (cond gap (accepted.Gap seen) (accepted.Rejoined seen))) end)
  hello_by epoch seen heard true gap is = absurd (cc is)
  hello_by epoch seen heard false true is = absurd (cc is)
  hello_by epoch seen heard false false is = record { epoch = epoch; seen = seen; clock = heard; is = refl; now = refl }

  pub greeted_by : (frame : Frame M) → answer (lifted as_both frame) end ≡ accepted.Rejoined behind → IsHello frame end (after_frame (lifted as_both frame) end)
  greeted_by (Carry epoch number seen heard m) is =
      absurd (no_carry epoch number seen heard (as_both m) (not (eqb epoch end.epoch)) (leb number end.accepted) (ltb (suc end.accepted) number || ltb (sent_count end) seen) is)
  greeted_by (Hello epoch seen heard) is = hello_by epoch seen heard (not (is_new epoch end end.role)) (ltb (sent_count end) seen || ltb seen end.seen) is

-- ---- an entry that takes nothing
module _ {S T : Type 0} (own : Way S) (other : Way T) (end : Role) (sent es : List Entry) (greetings greeted : ℕ) where
  pub end_stays : (port : PortState S T) (e : Entry) → other.direction.takes e.input ≡ false → EndStands own other end sent es greetings greeted port → EndStands own other end sent (e ∷ es) greetings greeted port
  end_stays port e none stands = record {
    role = stands.role;
    accepted = stands.accepted ∙ ap (λ b. cond b (suc (count_inputs other.direction.takes es)) (count_inputs other.direction.takes es)) (sym none);
    sends = stands.sends;
    took = record { frames = stands.took.frames; spelled = stands.took.spelled; takes = (stands.took.takes, λ its. absurd (cc (sym its ∙ none))); greets = stands.took.greets };
  }

  module _ (old new : PortState S T) (out : new.out ≡ old.out) (stands : EndStands own other end sent es greetings greeted old) where
    -- a frame that makes no entry
    pub end_dropped : (frame : Frame T) → TookOne other.cells other.is (taken old.into) (taken new.into) frame → new.session ≡ old.session → EndStands own other end sent es greetings greeted new
    end_dropped frame one same = record {
      role = ap (λ x. x.role) same ∙ stands.role;
      accepted = ap (λ x. x.accepted) same ∙ stands.accepted;
      sends = gives_same own (posts_of own.direction sent) greetings old.session new.session old.out new.out same out stands.sends;
      took = took_frame other.cells other.is other.direction (taken old.into) (taken new.into) frame one es greeted stands.took;
    }

    -- a message that an entry takes
    pub end_heard : IsInjective other.as_both → (message : T) (clock : ℕ) (e : Entry) → TookFrame other.as_both other.cells other.is (arrival.Message message clock) old new
        → other.direction.takes e.input ≡ true → other.direction.message e.input ≡ Some message → e.clock ≡ suc (max (log_clock es) clock) → EndStands own other end sent (e ∷ es) greetings greeted new
    end_heard injective message clock e told its taken_is next =
        let one = given_up_next other.as_both injective message clock old.session told.frame new.session told.heard in
        let none : greetings + 0 ≡ greetings = omega arith in
        let is : told.frame ≡ Carry one.epoch (suc (count_inputs other.direction.takes es)) one.seen clock message = one.is ∙ ap (λ n. Carry one.epoch (suc n) one.seen clock message) stands.accepted in
        record {
          role = one.role ∙ stands.role;
          accepted = one.accepted ∙ ap suc stands.accepted ∙ ap (λ b. cond b (suc (count_inputs other.direction.takes es)) (count_inputs other.direction.takes es)) (sym its);
          sends = gives_same own (posts_of own.direction sent) greetings new.session new.session old.out new.out refl out
              (subst (λ n. EndGave own.as_both own.cells own.is (posts_of own.direction sent) n new.session (given old.out)) none
              (gave_behind own.as_both own.cells own.is (posts_of own.direction sent) (given old.out) old.session new.session (lifted other.as_both told.frame) greetings 0 told.heard.now
              (subst (λ b. cond b 1 0 ≤ owed old.session + 0) (sym one.owes) (omega arith)) stands.sends));
          took = took_message other.cells other.is other.direction (taken old.into) (taken new.into) told.frame told.took es greeted stands.took e one.epoch one.seen clock message is taken_is next;
        }

    -- the connection begins anew, and an entry takes no message
    pub end_rejoined : (more : ℕ) (e : Entry) → TookFrame other.as_both other.cells other.is arrival.Rejoined old new → owed new.session ≤ owed old.session + more
        → other.direction.takes e.input ≡ false → EndStands own other end sent (e ∷ es) (greetings + more) (suc greeted) new
    end_rejoined more e told few none =
        let hello = subst (IsHello told.frame old.session) (sym told.heard.now) (greeted_by other.as_both old.session told.heard.behind told.frame told.heard.answered) in
        record {
          role = ap (λ x. x.role) hello.now ∙ stands.role;
          accepted = ap (λ x. x.accepted) hello.now ∙ stands.accepted ∙ ap (λ b. cond b (suc (count_inputs other.direction.takes es)) (count_inputs other.direction.takes es)) (sym none);
          sends = gives_same own (posts_of own.direction sent) (greetings + more) new.session new.session old.out new.out refl out
              (gave_behind own.as_both own.cells own.is (posts_of own.direction sent) (given old.out) old.session new.session (lifted other.as_both told.frame) greetings more told.heard.now few stands.sends);
          took = took_hello other.cells other.is other.direction (taken old.into) (taken new.into) told.frame told.took es greeted stands.took e hello.epoch hello.seen hello.clock hello.is none;
        }

-- no end owes more than one
pub owes_one : (end : End Both) → owed end ≤ 1
owes_one end = by end.owes_hello
  where
    by : (owes : Bool) → cond owes 1 0 ≤ 1
    by true = omega arith
    by false = omega arith

-- a server's end owes no more than before
pub server_owes : (frame : Frame Both) (end : End Both) → end.role ≡ role.Server → owed (after_frame frame end) ≡ owed end
server_owes (Carry epoch number seen clock message) end own = by (answer (Carry epoch number seen clock message) end)
  where
    by : (told : Accepted Both) → owed (after_answer (Carry epoch number seen clock message) told end) ≡ owed end
    by (accepted.Up m c) = refl
    by (accepted.Again n) = refl
    by (accepted.Gap n) = refl
    by (accepted.OldConnection n) = refl
    by (accepted.Rejoined n) = refl
server_owes (Hello epoch seen clock) end own = by (answer (Hello epoch seen clock) end)
  where
    by : (told : Accepted Both) → owed (after_answer (Hello epoch seen clock) told end) ≡ owed end
    by (accepted.Up m c) = refl
    by (accepted.Again n) = refl
    by (accepted.Gap n) = refl
    by (accepted.OldConnection n) = refl
    by (accepted.Rejoined n) = ap (λ r. cond (answers_hello r end.owes_hello) 1 0) own
