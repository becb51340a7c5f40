-- How the server's end of a connection goes on where no entry is made of it, and what a frame makes of it.
use Rattle.std.proofs.Common.{ℕ, suc, ◌≤◌, ◌≡◌, inl, inr, refl, sym, ◌∙◌, ap, subst, Bool, true, false, cond, eqb, leb, ltb, not, ◌&&◌, ◌||◌, List, arith}
use Rattle.std.proofs.Math.Nat.{max-le}
use Rattle.std.proofs.lemmas.Bool.{eqb-true, ltb-false}
use Rattle.dso_base.specs.declared.both.Both.{Both}
use Rattle.dso_base.specs.declared.both.Both.TheVariants as both
use Rattle.dso_base.specs.declared.journal.Entry.{Entry}
use Rattle.dso_base.specs.declared.message.Down.{Down}
use Rattle.dso_base.specs.declared.message.Up.{Up}
use Rattle.dso_law.specs.Channels.{breaks, count_inputs, rejoins, to_server}
use Rattle.dso_session.specs.declared.frame.Accepted.{Accepted}
use Rattle.dso_session.specs.declared.frame.Accepted.TheVariants as accepted
use Rattle.dso_session.specs.declared.frame.Frame.{Frame}
use Rattle.dso_session.specs.declared.frame.Frame.TheVariants.{Carry, Hello}
use Rattle.dso_session.specs.declared.session.Role.TheVariants as role
use Rattle.dso_session.specs.Ends.{End, after_answer, after_frame, answer, answer_hello, is_new, sent_count}
use Rattle.dso_wire.specs.Spelling.{IsDown, IsFrame, IsUp, down_frame_cells, up_frame_cells}
use Rattle.dso_port.specs.declared.arrival.Arrival.{Arrival}
use Rattle.dso_port.specs.declared.arrival.Arrival.TheVariants as arrival
use Rattle.dso_port.specs.Frames.{TookOne}
use Rattle.dso_port.specs.Ports.{HasCome, HasGiven, HasTaken, IsRejoined, PortState, given, lifted, taken}
use Rattle.dso_port.proofs.ends.Given.{given_goes_on}
use Rattle.dso_line.specs.Lines.{ServerLineStands, down_way, up_way}
use Rattle.dso_line.specs.Ways.{TookFromRing, posts_of}
use Rattle.dso_line.proofs.standing.Given.{end_given}
use Rattle.dso_line.proofs.standing.Posts.{gives_same}
use Rattle.dso_line.proofs.standing.Taken.{end_dropped, greeted_by}
use Rattle.dso_cell.specs.declared.server_end.ServerEnd.{ServerEnd}
use Rattle.dso_cell.specs.ServerEnds.{HasLookedUp, IsLeft}

-- ---- no entry is made
module _ (c : ℕ) (es : List Entry) (old new : PortState Down Up) (stands : ServerLineStands c es old) where
  -- a frame came that makes no entry
  pub server_dropped : (frame : Frame Up) → TookOne up_frame_cells (IsFrame IsUp) (taken old.into) (taken new.into) frame → new.session ≡ old.session → new.out ≡ old.out → ServerLineStands c es new
  server_dropped frame one same out = record {
    end = end_dropped (down_way c) (up_way c) role.Server es es (count_inputs (breaks c) es) (count_inputs (rejoins c) es) old new out stands.end frame one same;
    epoch = ap (λ x. x.epoch) same ∙ stands.epoch;
    ready = ap (λ x. x.is_ready) same ∙ stands.ready;
  }

  -- none came
  pub server_unmoved : taken new.into ≡ taken old.into → new.session ≡ old.session → new.out ≡ old.out → ServerLineStands c es new
  server_unmoved took same out = record {
    end = record {
      role = ap (λ x. x.role) same ∙ stands.end.role;
      accepted = ap (λ x. x.accepted) same ∙ stands.end.accepted;
      sends = gives_same (down_way c) (posts_of (down_way c).direction es) (count_inputs (breaks c) es) old.session new.session old.out new.out same out stands.end.sends;
      took = subst (λ items. TookFromRing up_frame_cells (IsFrame IsUp) (to_server c) es (count_inputs (rejoins c) es) items) (sym took) stands.end.took;
    };
    epoch = ap (λ x. x.epoch) same ∙ stands.epoch;
    ready = ap (λ x. x.is_ready) same ∙ stands.ready;
  }

  -- frames went to the ring
  pub server_given : HasGiven both.Down down_frame_cells (IsFrame IsDown) old.session new.session (given old.out) (given new.out) → new.into ≡ old.into → ServerLineStands c es new
  server_given gives into =
      let same = (given_goes_on both.Down down_frame_cells (IsFrame IsDown) (λ x y same. cc same)).same old.session new.session (given old.out) (given new.out) gives in
      record {
        end = end_given (down_way c) (up_way c) (λ x y same. cc same) old new gives role.Server es (count_inputs (breaks c) es) (count_inputs (rejoins c) es) into stands.end;
        epoch = same.epoch ∙ stands.epoch;
        ready = same.ready ∙ stands.ready;
      }

-- so where the end is left, and where it took a message at the limit
pub line_late : (c : ℕ) (es : List Entry) (old new : ServerEnd) → HasLookedUp arrival.Late old new → ServerLineStands c es old.port → ServerLineStands c es new.port
line_late c es old new looked stands = server_dropped c es old.port new.port stands looked.took.frame looked.took.took looked.took.heard looked.out

pub line_left : (c : ℕ) (es : List Entry) (old new : ServerEnd) → IsLeft old new → ServerLineStands c es old.port → ServerLineStands c es new.port
line_left c es old new (inl same) stands = subst (λ (end : ServerEnd). ServerLineStands c es end.port) (sym same) stands
line_left c es old new (inr (inl nothing)) stands = server_unmoved c es old.port new.port stands nothing.took.1 nothing.took.0 nothing.out
line_left c es old new (inr (inr dropped)) stands = server_dropped c es old.port new.port stands dropped.took.frame dropped.took.took dropped.took.heard dropped.out

-- ---- what a frame makes of an end
-- It stays of its role, and has seen no more than was sent; and a server's end stays in its epoch.
pub record Keeps (old new : End Both) : Type 0 where
  pub own : new.role ≡ old.role
  pub seen : new.seen ≤ sent_count old
  pub epoch : old.role ≡ role.Server → new.epoch ≡ old.epoch

keeps_itself : (end : End Both) → Keeps end end
keeps_itself end = record { own = refl; seen = omega arith; epoch = λ own. refl }

new_epoch : (epoch : ℕ) (end : End Both) → end.role ≡ role.Server → is_new epoch end end.role ≡ true → (epoch ≡ end.epoch) × (end.is_ready ≡ false)
new_epoch epoch end own new = by (eqb epoch end.epoch) end.is_ready refl refl (subst (λ r. is_new epoch end r ≡ true) own new)
  where
    by : (same ready : Bool) → eqb epoch end.epoch ≡ same → end.is_ready ≡ ready → (same && not ready) ≡ true → (epoch ≡ end.epoch) × (ready ≡ false)
    by true false is was new = (eqb-true epoch end.epoch is, refl)
    by true true is was new = absurd (cc new)
    by false ready is was new = absurd (cc new)

module _ (end : End Both) where
  carried : (epoch number seen clock : ℕ) (m : Both) (a b c d : Bool) → ltb (sent_count end) seen ≡ d
      → Keeps end (after_answer (Carry epoch number seen clock m) (cond a (accepted.OldConnection epoch) (cond b (accepted.Again number) (cond (c || d) (accepted.Gap number) (accepted.Up m clock)))) end)
  carried epoch number seen clock m true b c d few = keeps_itself end
  carried epoch number seen clock m false true c d few = keeps_itself end
  carried epoch number seen clock m false false true d few = keeps_itself end
  carried epoch number seen clock m false false false true few = keeps_itself end
  carried epoch number seen clock m false false false false few =
      record { own = refl; seen = max-le (omega arith) (ltb-false (sent_count end) seen few); epoch = λ own. refl }

  greeted : (epoch seen clock : ℕ) (a b c : Bool) → is_new epoch end end.role ≡ a → ltb (sent_count end) seen ≡ b
      → Keeps end (after_answer (Hello epoch seen clock) (cond (not a) (accepted.OldConnection epoch) (cond (b || c) (accepted.Gap seen) (accepted.Rejoined seen))) end)
  greeted epoch seen clock false b c new few = keeps_itself end
  greeted epoch seen clock true true c new few = keeps_itself end
  greeted epoch seen clock true false true new few = keeps_itself end
  greeted epoch seen clock true false false new few =
      record { own = refl; seen = max-le (omega arith) (ltb-false (sent_count end) seen few); epoch = λ own. (new_epoch epoch end own new).0 }

  pub keeps_after : (frame : Frame Both) → Keeps end (after_frame frame end)
  keeps_after (Carry epoch number seen clock m) = carried epoch number seen clock m (not (eqb epoch end.epoch)) (leb number end.accepted) (ltb (suc end.accepted) number) (ltb (sent_count end) seen) refl
  keeps_after (Hello epoch seen clock) = greeted epoch seen clock (is_new epoch end end.role) (ltb (sent_count end) seen) (ltb seen end.seen) refl refl

keeps_same : (old new : End Both) → new ≡ old → Keeps old new
keeps_same old new same = subst (Keeps old) (sym same) (keeps_itself old)

pub keeps_come : (frame : Frame Up) (told : Arrival Up) (old new : End Both) → HasCome both.Up frame told old new → Keeps old new
keeps_come frame arrival.Nothing old new come = absurd come
keeps_come frame arrival.Dropped old new come = keeps_same old new come
keeps_come frame arrival.Late old new come = keeps_same old new come
keeps_come frame (arrival.Message message clock) old new come = subst (Keeps old) (sym come.now) (keeps_after old (lifted both.Up frame))
keeps_come frame arrival.Rejoined old new come = subst (Keeps old) (sym come.now) (keeps_after old (lifted both.Up frame))

pub keeps_taken : (told : Arrival Up) (old new : PortState Down Up) → HasTaken both.Up up_frame_cells (IsFrame IsUp) told old new → Keeps old.session new.session
keeps_taken arrival.Nothing old new took = keeps_same old.session new.session took.0
keeps_taken arrival.Dropped old new took = keeps_come took.frame arrival.Dropped old.session new.session took.heard
keeps_taken arrival.Late old new took = keeps_come took.frame arrival.Late old.session new.session took.heard
keeps_taken (arrival.Message message clock) old new took = keeps_come took.frame (arrival.Message message clock) old.session new.session took.heard
keeps_taken arrival.Rejoined old new took = keeps_come took.frame arrival.Rejoined old.session new.session took.heard

pub keeps_left : (old new : ServerEnd) → IsLeft old new → Keeps old.port.session new.port.session
keeps_left old new (inl same) = subst (λ (end : ServerEnd). Keeps old.port.session end.port.session) (sym same) (keeps_itself old.port.session)
keeps_left old new (inr (inl nothing)) = keeps_taken arrival.Nothing old.port new.port nothing.took
keeps_left old new (inr (inr dropped)) = keeps_taken arrival.Dropped old.port new.port dropped.took

-- a server's end that begins anew waited for that
pub waited : (frame : Frame Up) (old new : End Both) → old.role ≡ role.Server → IsRejoined both.Up frame old new → old.is_ready ≡ false
waited frame old new own come =
    let hello = greeted_by both.Up old come.behind frame come.answered in
    let answered : answer_hello hello.epoch hello.seen old ≡ accepted.Rejoined come.behind = subst (λ frame. answer (lifted both.Up frame) old ≡ accepted.Rejoined come.behind) hello.is come.answered in
    by hello.epoch hello.seen come.behind (is_new hello.epoch old old.role) refl answered
  where
    by : (epoch seen behind : ℕ) (new : Bool) → is_new epoch old old.role ≡ new
        → cond {A = Accepted Both} (not new) (accepted.OldConnection epoch) (cond (ltb (sent_count old) seen || ltb seen old.seen) (accepted.Gap seen) (accepted.Rejoined seen)) ≡ accepted.Rejoined behind
        → old.is_ready ≡ false
    by epoch seen behind true is answered = (new_epoch epoch old own is).1
    by epoch seen behind false is answered = absurd (cc answered)
