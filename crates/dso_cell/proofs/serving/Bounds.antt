-- What the server's cell keeps whatever its log is.
use Rattle.std.specs.Global.{Vec}
use Rattle.std.specs.List.{AllByRecursion}
use Rattle.std.specs.Option.{option_map}
use Rattle.std.proofs.Common.{ℕ, zero, suc, ◌-◌, ◌<◌, ◌≤◌, ◌^◌, ◌≡◌, inl, inr, refl, sym, ◌∙◌, ap, subst, Bool, true, false, cond, eqb, ltb, List, [], ◌∷◌, length, slice_get, arith}
use Rattle.std.proofs.lemmas.Bool.{ltb-false, ltb-true}
use Rattle.std.proofs.lemmas.List.{length-append}
use Rattle.dso_base.specs.declared.both.Both.TheVariants as both
use Rattle.dso_base.specs.declared.message.Down.{Down}
use Rattle.dso_base.specs.declared.message.Up.{Up}
use Rattle.dso_log.specs.Logs.{last_clock, with_entry}
use Rattle.dso_session.specs.Ends.{sent_count}
use Rattle.dso_port.proofs.ends.Given.{given_goes_on}
use Rattle.dso_port.proofs.ends.Lists.{all_at}
use Rattle.dso_port.specs.declared.arrival.Arrival.{Arrival}
use Rattle.dso_port.specs.Ports.{given}
use Rattle.dso_wire.specs.Spelling.{IsDown, IsFrame, down_frame_cells}
use Rattle.dso_line.proofs.standing.Logs.{last_of}
use Rattle.dso_line.proofs.standing.Posts.{same_posted}
use Rattle.dso_server.specs.Answering.{given_by}
use Rattle.dso_cell.specs.declared.made.Made.{Made}
use Rattle.dso_cell.specs.declared.server_cell.ServerCell.{ServerCell}
use Rattle.dso_cell.specs.declared.server_end.ServerEnd.{ServerEnd}
use Rattle.dso_cell.specs.ServerCells.{IsAnyAtLimit, ServerBounds, ServerEndBounds}
use Rattle.dso_cell.specs.ServerEnds.{AreGivenDown, AreLeft, ArePassed, AreTold, ChangesEnd, HasBreakLeft, HasLookedUp, HaveRoom, OneChanged, messages_to, told_to, with_break, with_end}
use Rattle.dso_cell.specs.ServerSteps.{ServerMayAdd, ServerMayLog, server_said}
use Rattle.dso_cell.proofs.serving.Ends.{as_many, left_many, passed_left}
use Rattle.dso_cell.proofs.serving.Cells.{given_many}
use Rattle.dso_cell.proofs.serving.Lines.{Keeps, keeps_left, keeps_taken}
use Rattle.dso_cell.proofs.serving.Told.{same_length}

-- ---- what each of many ends keeps
module _ (P Q : ServerEnd → Type 0) where
  pub all_weaker : ((end : ServerEnd) → P end → Q end) → (ends : List ServerEnd) → AllByRecursion P ends → AllByRecursion Q ends
  all_weaker so [] all = tt
  all_weaker so (end ∷ ends) all = (so end all.0, all_weaker so ends all.1)

  pub all_by_place : (f : ℕ → ServerEnd → ServerEnd) → ((k : ℕ) (end : ServerEnd) → P end → Q (f k end)) → (olds news : List ServerEnd)
      → ((k : ℕ) → slice_get news k ≡ option_map (f k) (slice_get olds k)) → AllByRecursion P olds → AllByRecursion Q news
  all_by_place f so [] [] same all = tt
  all_by_place f so [] (new ∷ news) same all = let h = same 0 in absurd (cc h)
  all_by_place f so (old ∷ olds) [] same all = tt
  all_by_place f so (old ∷ olds) (new ∷ news) same all =
      let h : f 0 old ≡ new = let h = same 0 in cc h in
      (subst Q h (so 0 old all.0), all_by_place (λ k. f (suc k)) (λ k. so (suc k)) olds news (λ k. same (suc k)) all.1)

  module _ (so : (old new : ServerEnd) → Keeps old.port.session new.port.session → P old → Q new) where
    pub all_left : (olds news : List ServerEnd) → AreLeft olds news → AllByRecursion P olds → AllByRecursion Q news
    all_left [] [] left all = tt
    all_left [] (new ∷ news) left all = absurd left
    all_left (old ∷ olds) [] left all = absurd left
    all_left (old ∷ olds) (new ∷ news) left all = (so old new (keeps_left old new left.0) all.0, all_left olds news left.1 all.1)

    pub all_changed : (Changes : ServerEnd → ServerEnd → Type 0) → ((old new : ServerEnd) → Changes old new → Keeps old.port.session new.port.session) → (place : ℕ) (olds news : List ServerEnd)
        → OneChanged Changes place olds news → AllByRecursion P olds → AllByRecursion Q news
    all_changed Changes keeps zero [] news one all = absurd one
    all_changed Changes keeps zero (old ∷ olds) [] one all = absurd one
    all_changed Changes keeps zero (old ∷ olds) (new ∷ news) one all = (so old new (keeps old new one.0) all.0, all_left olds news one.1 all.1)
    all_changed Changes keeps (suc place) [] news one all = absurd one
    all_changed Changes keeps (suc place) (old ∷ olds) [] one all = absurd one
    all_changed Changes keeps (suc place) (old ∷ olds) (new ∷ news) one all = (so old new (keeps_left old new one.0) all.0, all_changed Changes keeps place olds news one.1 all.1)

bounds_kept : (n m : ℕ) → n ≤ m → (old new : ServerEnd) → Keeps old.port.session new.port.session → ServerEndBounds n old → ServerEndBounds m new
bounds_kept n m few old new keeps bounds = record { own = keeps.own ∙ bounds.own; broke = omega (arith, few, keeps.epoch bounds.own, bounds.broke) }

room_after : (old new : ServerEnd) → Keeps old.port.session new.port.session → sent_count old.port.session < 2 ^ 62 → new.port.session.seen < 2 ^ 63
room_after old new keeps few = omega (arith, keeps.seen, few)

room_of : (ends : List ServerEnd) → AllByRecursion (λ end. end.port.session.seen < 2 ^ 63) ends → HaveRoom ends
room_of ends all place end at = all_at (λ end. end.port.session.seen < 2 ^ 63) ends place end all at

-- where none is at its limit, each sent less than an end sends
pub few_sent : (ends : List ServerEnd) → (IsAnyAtLimit ends → ⊥) → AllByRecursion (λ end. sent_count end.port.session < 2 ^ 62) ends
few_sent [] none = tt
few_sent (end ∷ ends) none = (by (ltb (sent_count end.port.session) (2 ^ 62)) refl, few_sent ends (λ any. none (inr any)))
  where
    by : (few : Bool) → ltb (sent_count end.port.session) (2 ^ 62) ≡ few → sent_count end.port.session < 2 ^ 62
    by true is = ltb-true (sent_count end.port.session) (2 ^ 62) is
    by false is = absurd (none (inl (inr (ltb-false (sent_count end.port.session) (2 ^ 62) is))))

-- ---- before an entry
module _ (old : ServerCell) (may : ServerMayAdd old) where
  -- nothing was done
  pub may_log : ServerMayLog old
  may_log = record {
    few = may.bounds.few;
    given = may.bounds.given;
    ends = all_weaker (ServerEndBounds (length old.log.entries)) (ServerEndBounds (suc (length old.log.entries)))
        (λ end bounds. record { own = bounds.own; broke = let b = bounds.broke in omega (arith, b) }) old.ends.items may.bounds.ends;
    clients = may.bounds.clients;
    room = may.room;
    low = may.low;
    seen = room_of old.ends.items (all_weaker (λ end. sent_count end.port.session < 2 ^ 62) (λ end. end.port.session.seen < 2 ^ 63) (λ end few. omega (arith, few)) old.ends.items may.few);
  }

  -- one end took a frame
  module _ (told : Arrival Up) (place next : ℕ) (mids : Vec ServerEnd) (looked : OneChanged (HasLookedUp told) place old.ends.items mids.items) where
    keeps_looked : (old new : ServerEnd) → HasLookedUp told old new → Keeps old.port.session new.port.session
    keeps_looked old new looked = keeps_taken told old.port new.port looked.took

    pub looked_log : ServerMayLog (record old { ends = mids; next = next })
    looked_log = record {
      few = may.bounds.few;
      given = may.bounds.given;
      ends = all_changed (ServerEndBounds (length old.log.entries)) (ServerEndBounds (suc (length old.log.entries))) (bounds_kept (length old.log.entries) (suc (length old.log.entries)) (omega arith))
          (HasLookedUp told) keeps_looked place old.ends.items mids.items looked may.bounds.ends;
      clients = subst (λ k. k < 2 ^ 8) (sym (as_many (HasLookedUp told) place old.ends.items mids.items looked)) may.bounds.clients;
      room = may.room;
      low = may.low;
      seen = room_of mids.items (all_changed (λ end. sent_count end.port.session < 2 ^ 62) (λ end. end.port.session.seen < 2 ^ 63) room_after (HasLookedUp told) keeps_looked place old.ends.items mids.items looked may.few);
    }

    pub looked_bounds : ServerBounds (record old { ends = mids; next = next })
    looked_bounds = record {
      few = may.bounds.few;
      within = may.bounds.within;
      given = may.bounds.given;
      ends = all_changed (ServerEndBounds (length old.log.entries)) (ServerEndBounds (length old.log.entries)) (bounds_kept (length old.log.entries) (length old.log.entries) (omega arith))
          (HasLookedUp told) keeps_looked place old.ends.items mids.items looked may.bounds.ends;
      clients = subst (λ k. k < 2 ^ 8) (sym (as_many (HasLookedUp told) place old.ends.items mids.items looked)) may.bounds.clients;
    }

  -- none brought news
  pub passed_bounds : (mids : Vec ServerEnd) → ArePassed old.ends.items mids.items → ServerBounds (record old { ends = mids })
  passed_bounds mids passed =
      let left = passed_left old.ends.items mids.items passed in
      record {
        few = may.bounds.few;
        within = may.bounds.within;
        given = may.bounds.given;
        ends = all_left (ServerEndBounds (length old.log.entries)) (ServerEndBounds (length old.log.entries)) (bounds_kept (length old.log.entries) (length old.log.entries) (omega arith))
            old.ends.items mids.items left may.bounds.ends;
        clients = subst (λ k. k < 2 ^ 8) (sym (left_many old.ends.items mids.items left)) may.bounds.clients;
      }

  -- a connection broke
  pub break_left : (c : ℕ) → HasBreakLeft c old.ends.items
  break_left c end at =
      let its = all_at (ServerEndBounds (length old.log.entries)) old.ends.items (c - 1) end may.bounds.ends at in
      let broke : end.port.session.epoch ≤ length old.log.entries = its.broke in
      omega (arith, broke, may.bounds.few, may.low)

  pub broken_log : (c : ℕ) (mids : Vec ServerEnd) → ChangesEnd c with_break old.ends.items mids.items → ServerMayLog (record old { ends = mids })
  broken_log c mids changes = record {
    few = may.bounds.few;
    given = may.bounds.given;
    ends = all_by_place (ServerEndBounds (length old.log.entries)) (ServerEndBounds (suc (length old.log.entries))) (λ k. with_end c with_break (suc k))
        (λ k end bounds. bounds_by end bounds (eqb (suc k) c)) old.ends.items mids.items changes may.bounds.ends;
    clients = subst (λ k. k < 2 ^ 8) (sym (same_length (λ k. with_end c with_break (suc k)) old.ends.items mids.items changes)) may.bounds.clients;
    room = may.room;
    low = may.low;
    seen = room_of mids.items (all_by_place (λ end. sent_count end.port.session < 2 ^ 62) (λ end. end.port.session.seen < 2 ^ 63) (λ k. with_end c with_break (suc k))
        (λ k end few. room_by end few (eqb (suc k) c)) old.ends.items mids.items changes may.few);
  }
    where
      bounds_by : (end : ServerEnd) → ServerEndBounds (length old.log.entries) end → (its : Bool) → ServerEndBounds (suc (length old.log.entries)) (cond its (with_break end) end)
      bounds_by end bounds true = let b = bounds.broke in record { own = bounds.own; broke = omega (arith, b) }
      bounds_by end bounds false = let b = bounds.broke in record { own = bounds.own; broke = omega (arith, b) }

      room_by : (end : ServerEnd) → sent_count end.port.session < 2 ^ 62 → (its : Bool) → (cond its (with_break end) end).port.session.seen < 2 ^ 63
      room_by end few true = omega (arith, few)
      room_by end few false = omega (arith, few)

-- ---- behind an entry
pub bounds_said : (mid new : ServerCell) (made : Made) (messages : List (ℕ × Down)) → ServerMayLog mid → new.log ≡ with_entry (server_said made messages mid.log) mid.log
    → AreTold (server_said made messages mid.log).clock messages mid.ends.items new.ends.items → given_by new.core ≤ suc (length mid.log.entries) → made.heard < 2 ^ 28 → ServerBounds new
bounds_said mid new made messages may log told given heard =
    let e = server_said made messages mid.log in
    let count : length new.log.entries ≡ suc (length mid.log.entries) = ap (λ log. length log.entries) log ∙ length-append mid.log.entries (e ∷ []) ∙ omega arith in
    let clock : last_clock new.log ≡ e.clock = ap last_clock log ∙ last_of mid.log.entries e in
    record {
      few = omega (arith, count, clock, may.few);
      within = omega (arith, clock, may.low, heard);
      given = omega (arith, count, given);
      ends = subst (λ n. AllByRecursion (ServerEndBounds n) new.ends.items) (sym count)
          (all_by_place (ServerEndBounds (suc (length mid.log.entries))) (ServerEndBounds (suc (length mid.log.entries))) (λ k. told_to (suc k) e.clock messages)
          (λ k end bounds.
          let same = same_posted both.Down e.clock (messages_to (suc k) messages) end.port.session in
          record { own = same.role ∙ bounds.own; broke = subst (λ n. n ≤ suc (length mid.log.entries)) (sym same.epoch) bounds.broke }) mid.ends.items new.ends.items told may.ends);
      clients = subst (λ k. k < 2 ^ 8) (sym (same_length (λ k. told_to (suc k) e.clock messages) mid.ends.items new.ends.items told)) may.clients;
    }

-- ---- frames went to the rings
all_given : (n : ℕ) (olds news : List ServerEnd) → AreGivenDown olds news → AllByRecursion (ServerEndBounds n) olds → AllByRecursion (ServerEndBounds n) news
all_given n [] [] gives all = tt
all_given n [] (new ∷ news) gives all = absurd gives
all_given n (old ∷ olds) [] gives all = absurd gives
all_given n (old ∷ olds) (new ∷ news) gives all =
    let same = (given_goes_on both.Down down_frame_cells (IsFrame IsDown) (λ x y same. cc same)).same old.port.session new.port.session (given old.port.out) (given new.port.out) gives.0.gives in
    let bounds = all.0 in
    (record { own = same.role ∙ bounds.own; broke = subst (λ m. m ≤ n) (sym same.epoch) bounds.broke }, all_given n olds news gives.1 all.1)

pub given_bounds : (old : ServerCell) (ends : Vec ServerEnd) → AreGivenDown old.ends.items ends.items → ServerBounds old → ServerBounds (record old { ends = ends })
given_bounds old ends gives bounds = record {
  few = bounds.few;
  within = bounds.within;
  given = bounds.given;
  ends = all_given (length old.log.entries) old.ends.items ends.items gives bounds.ends;
  clients = subst (λ k. k < 2 ^ 8) (sym (given_many old.ends.items ends.items gives)) bounds.clients;
}
