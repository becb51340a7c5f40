-- What an end makes of a frame from its ring: a message that is given up has the next number, and what the end sent and
-- gave goes on.
use Rattle.std.specs.List.{AllByRecursion}
use Rattle.std.proofs.Common.{ℕ, zero, suc, ◌+◌, ◌-◌, ◌≤◌, ◌<◌, ◌^◌, ◌≡◌, ◌⊎◌, inl, inr, refl, sym, ◌∙◌, ap, subst, Bool, true, false, cond, eqb, leb, ltb, max, not, ◌||◌, List, [], ◌∷◌, drop, length, map, IfErr, Result, Ok, Err, arith}
use Rattle.std.proofs.Math.Nat.{max-le}
use Rattle.std.proofs.lemmas.Bool.{leb-false, ltb-false}
use Rattle.std.proofs.lemmas.List.{length-drop}
use Rattle.dso_base.specs.declared.both.Both.{Both}
use Rattle.dso_session.specs.declared.frame.Accepted.TheVariants as accepted
use Rattle.dso_session.specs.declared.frame.Frame.{Frame}
use Rattle.dso_session.specs.declared.frame.Frame.TheVariants.{Carry, Hello}
use Rattle.dso_session.specs.declared.session.Posted.{Posted}
use Rattle.dso_session.specs.Ends.{End, after_answer, after_frame, answer, forgotten, is_new, rejoined, sent_count}
use Rattle.dso_session.specs.Laws.{HasSent, Takes}
use Rattle.dso_session.proofs.Sent.{keeps_sent}
use Rattle.dso_wire.specs.Cells.{Cell}
use Rattle.dso_port.specs.declared.fault.PortFault.{PortFault}
use Rattle.dso_port.specs.declared.fault.PortFault.TheVariants as fault
use Rattle.dso_port.specs.Ports.{EndGave, EndKeeps, HasFailed, IsGivenUp, IsInjective, LacksBefore, PortState, lifted, lifted_post, owed, taken}
use Rattle.dso_port.specs.Frames.{TookOne}

-- ---- the end behind a frame
all_behind : {X : Type 0} (P : X → Type 0) (n : ℕ) (xs : List X) → AllByRecursion P xs → AllByRecursion P (drop n xs)
all_behind P zero xs all = all
all_behind P (suc n) [] all = tt
all_behind P (suc n) (x ∷ xs) all = all_behind P n xs all.1

-- as many messages were sent, whatever the other end has seen of them
same_count : (end : End Both) (seen : ℕ) → seen ≤ sent_count end → max end.seen seen + length (drop (seen - end.seen) end.kept) ≡ sent_count end
same_count end seen few = by (leb seen end.seen) refl
  where
    by : (b : Bool) → leb seen end.seen ≡ b → max end.seen seen + length (drop (seen - end.seen) end.kept) ≡ sent_count end
    by true is = grind (arith, length-drop (seen - end.seen) end.kept, is, few)
    by false is = grind (arith, length-drop (seen - end.seen) end.kept, is, few)

module _ {M : Type 0} (as_both : M → Both) (end : End Both) (keeps : EndKeeps as_both end) where
  keeps_forgotten : (seen accepted : ℕ) → seen ≤ sent_count end → EndKeeps as_both (record (forgotten seen end) { accepted = accepted })
  keeps_forgotten seen accepted few = record {
    order = record {
      seen = grind (arith, keeps.order.seen);
      given = subst (λ n. max end.given seen ≤ n) (sym (same_count end seen few)) (max-le keeps.order.given few);
      few = subst (λ n. n < 2 ^ 64) (sym (same_count end seen few)) keeps.order.few;
    };
    own = all_behind (λ one. (message : M) × (one.message ≡ as_both message)) (seen - end.seen) end.kept keeps.own;
  }

  keeps_rejoined : (epoch seen : ℕ) → seen ≤ sent_count end → end.seen ≤ seen → EndKeeps as_both (rejoined epoch seen end)
  keeps_rejoined epoch seen few least = record {
    order = record {
      seen = max-le least (omega arith);
      given = subst (λ n. seen ≤ n) (sym (same_count end seen few)) few;
      few = subst (λ n. n < 2 ^ 64) (sym (same_count end seen few)) keeps.order.few;
    };
    own = all_behind (λ one. (message : M) × (one.message ≡ as_both message)) (seen - end.seen) end.kept keeps.own;
  }

  pub keeps_after : (frame : Frame Both) → EndKeeps as_both (after_frame frame end)
  keeps_after (Carry epoch number seen clock message) = by (not (eqb epoch end.epoch)) (leb number end.accepted) (ltb (suc end.accepted) number) (ltb (sent_count end) seen) refl
    where
      by : (a b c d : Bool) → ltb (sent_count end) seen ≡ d
          → EndKeeps as_both (after_answer (Carry epoch number seen clock message) (cond a (accepted.OldConnection epoch) (cond b (accepted.Again number) (cond (c || d) (accepted.Gap number) (accepted.Up message clock)))) end)
      by true b c d few = keeps
      by false true c d few = keeps
      by false false true d few = keeps
      by false false false true few = keeps
      by false false false false few = keeps_forgotten seen number (ltb-false (sent_count end) seen few)
  keeps_after (Hello epoch seen clock) = by (not (is_new epoch end end.role)) (ltb (sent_count end) seen) (ltb seen end.seen) refl refl
    where
      by : (a b c : Bool) → ltb (sent_count end) seen ≡ b → ltb seen end.seen ≡ c
          → EndKeeps as_both (after_answer (Hello epoch seen clock) (cond a (accepted.OldConnection epoch) (cond (b || c) (accepted.Gap seen) (accepted.Rejoined seen))) end)
      by true b c few least = keeps
      by false true c few least = keeps
      by false false true few least = keeps
      by false false false few least = keeps_rejoined epoch seen (ltb-false (sent_count end) seen few) (ltb-false seen end.seen least)

-- ---- a message that is given up
-- it came in the frame of the next number, and the end has accepted that
pub record IsNextFrame {M : Type 0} (frame : Frame M) (message : M) (clock : ℕ) (old new : End Both) : Type 0 where
  pub epoch : ℕ
  pub seen : ℕ
  pub is : frame ≡ Carry epoch (suc old.accepted) seen clock message
  pub accepted : new.accepted ≡ suc old.accepted
  pub role : new.role ≡ old.role
  pub epoch_same : new.epoch ≡ old.epoch
  pub ready : new.is_ready ≡ old.is_ready
  pub owes : new.owes_hello ≡ old.owes_hello

module _ {M : Type 0} (as_both : M → Both) (injective : IsInjective as_both) (message : M) (clock : ℕ) (end : End Both) where
  neither : (a b : Bool) → (a || b) ≡ false → a ≡ false
  neither false b is = refl
  neither true b is = absurd (cc is)

  carry_by : (epoch number seen heard : ℕ) (m : M) (old again gap : Bool) → leb number end.accepted ≡ again → (ltb (suc end.accepted) number || ltb (sent_count end) seen) ≡ gap
      → cond old (accepted.OldConnection epoch) (cond again (accepted.Again number) (cond gap (accepted.Gap number) (accepted.Up (as_both m) heard))) ≡ accepted.Up (as_both message) clock
      → IsNextFrame (Carry epoch number seen heard m) message clock end
      (after_answer (Carry epoch number seen heard (as_both m)) (cond old (accepted.OldConnection epoch) (cond again (accepted.Again number) (cond gap (accepted.Gap number) (accepted.Up (as_both m) heard)))) end)
  carry_by epoch number seen heard m true again gap is_again is_gap up = absurd (cc up)
  carry_by epoch number seen heard m false true gap is_again is_gap up = absurd (cc up)
  carry_by epoch number seen heard m false false true is_again is_gap up = absurd (cc up)
  carry_by epoch number seen heard m false false false is_again is_gap up =
      let both : as_both m ≡ as_both message = cc up in
      let same : m ≡ message = injective m message both in
      let time : heard ≡ clock = cc up in
      let over = leb-false number end.accepted is_again in
      let few = ltb-false (suc end.accepted) number (neither (ltb (suc end.accepted) number) (ltb (sent_count end) seen) is_gap) in
      let next : number ≡ suc end.accepted = omega (arith, over, few) in
      record {
        epoch = epoch;
        seen = seen;
        is = ap (λ n. Carry epoch n seen heard m) next ∙ ap (λ c. Carry epoch (suc end.accepted) seen c m) time ∙ ap (λ x. Carry epoch (suc end.accepted) seen clock x) same;
        accepted = next;
        role = refl;
        epoch_same = refl;
        ready = refl;
        owes = refl;
      }

  hello_by : (epoch seen heard : ℕ) (old gap : Bool) → cond old (accepted.OldConnection epoch) (cond gap (accepted.Gap seen) (accepted.Rejoined seen)) ≡ accepted.Up (as_both message) clock → ⊥
  hello_by epoch seen heard true gap up = absurd (cc up)
  hello_by epoch seen heard false true up = absurd (cc up)
  hello_by epoch seen heard false false up = absurd (cc up)

  next_by : (frame : Frame M) → answer (lifted as_both frame) end ≡ accepted.Up (as_both message) clock → IsNextFrame frame message clock end (after_frame (lifted as_both frame) end)
  next_by (Carry epoch number seen heard m) up = carry_by epoch number seen heard m (not (eqb epoch end.epoch)) (leb number end.accepted) (ltb (suc end.accepted) number || ltb (sent_count end) seen) refl refl up
  next_by (Hello epoch seen heard) up = absurd (hello_by epoch seen heard (not (is_new epoch end end.role)) (ltb (sent_count end) seen || ltb seen end.seen) up)

  pub given_up_next : (frame : Frame M) (new : End Both) → IsGivenUp as_both frame message clock end new → IsNextFrame frame message clock end new
  given_up_next frame new up = subst (IsNextFrame frame message clock end) (sym up.now) (next_by frame up.answered)

-- ---- what was sent and given goes on
module _ {M : Type 0} (as_both : M → Both) (cells : Frame M → List Cell) (Is : Frame M → Type 0) (posts : List (Posted M)) (items : List (List ℕ)) (old new : End Both) where
  -- a frame came, and a number of Hellos more may be owed
  pub gave_behind : (frame : Frame Both) (greetings more : ℕ) → new ≡ after_frame frame old → owed new ≤ owed old + more → EndGave as_both cells Is posts greetings old items → EndGave as_both cells Is posts (greetings + more) new items
  gave_behind frame greetings more now few gave = record {
    sent = subst (λ end. HasSent (map (lifted_post as_both) posts) end) (sym now) (keeps_sent.goes_on (Takes frame) (map (lifted_post as_both) posts) old gave.sent);
    gave = record { frames = gave.gave.frames; spelled = gave.gave.spelled; carry = gave.gave.carry; greets = omega (arith, few, gave.gave.greets) };
  }

-- ---- a frame that came
-- whatever it makes of the end, the end keeps what it kept
pub keeps_moved : {M : Type 0} (as_both : M → Both) (old new : End Both) (frame : Frame Both) → EndKeeps as_both old → ((new ≡ old) ⊎ (new ≡ after_frame frame old)) → EndKeeps as_both new
keeps_moved as_both old new frame keeps (inl same) = subst (EndKeeps as_both) (sym same) keeps
keeps_moved as_both old new frame keeps (inr now) = subst (EndKeeps as_both) (sym now) (keeps_after as_both old keeps frame)

-- a message is missing before it
pub failed : {S T : Type 0} (as_both : T → Both) (cells : Frame T → List Cell) (Is : Frame T → Type 0) (why : PortFault) (old new : PortState S T) (frame : Frame T)
    → TookOne cells Is (taken old.into) (taken new.into) frame → LacksBefore as_both frame why old.session → HasFailed as_both cells Is why old new
failed as_both cells Is (fault.NoMemory refused) old new frame took lacks = tt
failed as_both cells Is fault.Gap old new frame took lacks = record { frame = frame; took = took; lacks = lacks }
failed as_both cells Is fault.NoBytes old new frame took lacks = lacks

-- what an error tells
pub failed_by : {A E : Type 0} (P Q : E → Type 0) → ((e : E) → P e → Q e) → (result : Result A E) → IfErr result P → IfErr result Q
failed_by P Q so (Ok x) told = told
failed_by P Q so (Err e) told = so e told
