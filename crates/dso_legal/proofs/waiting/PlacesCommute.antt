-- Messages about a waiter commute: a message up that may come to a thread that is gone to the server leaves it there, and may come
-- to one that is away.
use Rattle.std.specs.List.{list_any}
use Rattle.std.proofs.Common.{◌≡◌, ◌↔◌, refl, sym, ◌∙◌, ap, subst, Bool, true, false, cond, ◌&&◌, List, [], ◌∷◌}
use Rattle.dso_base.specs.declared.lock.LockName.{LockName}
use Rattle.dso_base.specs.declared.lock.ThreadId.{ThreadId}
use Rattle.dso_base.specs.declared.message.Down.TheVariants as down
use Rattle.dso_base.specs.declared.message.Up.{Up}
use Rattle.dso_base.specs.declared.message.Up.TheVariants as up
use Rattle.dso_base.specs.declared.record.Choice.{Choice}
use Rattle.dso_base.specs.declared.record.Choice.TheVariants.{Here, There, All}
use Rattle.dso_base.specs.declared.record.Ending.{Ending}
use Rattle.dso_base.specs.declared.record.Ending.TheVariants as ending
use Rattle.dso_base.specs.declared.record.Note.{Note}
use Rattle.dso_base.specs.Following.{is_thread}
use Rattle.dso_plain.specs.KeyTests.{is_lock}
use Rattle.dso_legal.specs.Places.{Place, Away, Kept, Gone, unkept, place_chosen, place_noted, places_noted, place_ended, place_up, place_down, MayChoose, MayNote, MayEnd, MayPlaceUp, MayPlaceDown}
use Rattle.dso_legal.proofs.channels.Agreement.{Commute, Commutes}

-- gone isn't kept
gone_kept : {P : Type 0} → Gone ≡ Kept → P
gone_kept e = absurd (cc e)

-- who is gone stays so under a message up, which may come to one that is away, and leaves it so
pub record Passes (may : Place → Type 0) (step : Place → Place) : Type 0 where
  pub later : may Away
  pub gone : step Gone ≡ Gone
  pub away : step Away ≡ Away

module _ (l : LockName) (t : ThreadId) where
  -- so a choice that may come
  chosen : (choice : Choice) → MayChoose t choice Gone → Passes (MayChoose t choice) (place_chosen t choice)
  chosen (Here u) may = by (is_thread t u) refl
    where
      by : (b : Bool) → is_thread t u ≡ b → Passes (λ s. is_thread t u ≡ true → s ≡ Kept) (λ s. cond (is_thread t u) Away s)
      by true e = gone_kept (may e)
      by false e = record { later = λ d. absurd (cc (sym e ∙ d)); gone = ap (λ b. cond b Away Gone) e; away = ap (λ b. cond b Away Away) e }
  chosen There may = record { later = λ e. absurd (cc e); gone = refl; away = refl }
  chosen All may = record { later = tt; gone = refl; away = refl }

  -- a notification,
  noted : (note : Note) → (is_lock l note.lock ≡ true → MayChoose t note.choice Gone) → Passes (λ s. is_lock l note.lock ≡ true → MayChoose t note.choice s) (place_noted l t note)
  noted note may = by (is_lock l note.lock) refl
    where
      by : (b : Bool) → is_lock l note.lock ≡ b → Passes (λ s. is_lock l note.lock ≡ true → MayChoose t note.choice s) (place_noted l t note)
      by true e =
          let it = chosen note.choice (may e) in
          record { later = λ _. it.later; gone = ap (λ b. cond b (place_chosen t note.choice Gone) Gone) e ∙ it.gone; away = ap (λ b. cond b (place_chosen t note.choice Away) Away) e ∙ it.away }
      by false e = record { later = λ d. absurd (cc (sym e ∙ d)); gone = ap (λ b. cond b (place_chosen t note.choice Gone) Gone) e; away = ap (λ b. cond b (place_chosen t note.choice Away) Away) e }

  -- all of a record's,
  pub all_noted : (notes : List Note) → MayNote l t notes Gone → Passes (MayNote l t notes) (places_noted l t notes)
  all_noted [] may = record { later = tt; gone = refl; away = refl }
  all_noted (note ∷ notes) may =
      let one = noted note may.0 in
      let rest = all_noted notes (subst (MayNote l t notes) one.gone may.1) in
      record {
        later = (one.later, subst (MayNote l t notes) (sym one.away) rest.later);
        gone = ap (places_noted l t notes) one.gone ∙ rest.gone;
        away = ap (places_noted l t notes) one.away ∙ rest.away;
      }

  -- its ending may come,
  ended_later : (u : ThreadId) (end : Ending) → MayEnd t u end Away
  ended_later u (ending.Wait k) = λ own. refl
  ended_later u (ending.Timeout k) = tt
  ended_later u (ending.Exit k) = λ own. refl
  ended_later u (ending.End fault) = λ own. refl

  -- and leaves it so,
  ended : (u : ThreadId) (end : Ending) → MayEnd t u end Gone → Passes (MayEnd t u end) (place_ended l t u end)
  ended u (ending.Wait k) may = by (is_lock l k) (is_thread t u) refl refl
    where
      by : (a b : Bool) → is_lock l k ≡ a → is_thread t u ≡ b → Passes (λ s. is_thread t u ≡ true → s ≡ Away) (λ s. cond (is_lock l k && is_thread t u) Kept s)
      by a true is own = absurd (cc (may own))
      by true false is other = record { later = λ d. refl; gone = ap (λ b. cond (is_lock l k && b) Kept Gone) other ∙ ap (λ a. cond (a && false) Kept Gone) is; away = ap (λ b. cond (is_lock l k && b) Kept Away) other ∙ ap (λ a. cond (a && false) Kept Away) is }
      by false false is other = record { later = λ d. refl; gone = ap (λ a. cond (a && is_thread t u) Kept Gone) is; away = ap (λ a. cond (a && is_thread t u) Kept Away) is }
  ended u (ending.Timeout k) may = by (is_lock l k && is_thread t u) refl
    where
      by : (b : Bool) → (is_lock l k && is_thread t u) ≡ b → Passes (λ s. Unit {0}) (λ s. cond (is_lock l k && is_thread t u) (unkept s) s)
      by true e = record { later = tt; gone = ap (λ b. cond b Gone Gone) e; away = ap (λ b. cond b Away Away) e }
      by false e = record { later = tt; gone = ap (λ b. cond b Gone Gone) e; away = ap (λ b. cond b Away Away) e }
  ended u (ending.Exit k) may = record { later = λ d. refl; gone = refl; away = refl }
  ended u (ending.End fault) may = record { later = λ d. refl; gone = refl; away = refl }

  -- and each message up
  pub said : (m : Up) → MayPlaceUp l t m Gone → Passes (MayPlaceUp l t m) (place_up l t m)
  said (up.Return k threads) may = by (is_lock l k) (list_any (is_thread t) threads) refl refl
    where
      by : (a b : Bool) → is_lock l k ≡ a → list_any (is_thread t) threads ≡ b → Passes (λ s. is_lock l k ≡ true → (list_any (is_thread t) threads ≡ true) ↔ (s ≡ Kept)) (λ s. cond (is_lock l k && list_any (is_thread t) threads) Gone s)
      by true true e f = gone_kept ((may e).0 f)
      by true false e f = record { later = λ d. ((λ h. absurd (cc (sym f ∙ h))), λ h. absurd (cc h)); gone = ap (λ b. cond (is_lock l k && b) Gone Gone) f ∙ both (is_lock l k); away = ap (λ b. cond (is_lock l k && b) Gone Away) f ∙ none (is_lock l k) }
        where
          both : (c : Bool) → cond (c && false) Gone Gone ≡ Gone
          both true = refl
          both false = refl

          none : (c : Bool) → cond (c && false) Gone Away ≡ Away
          none true = refl
          none false = refl
      by false b e f = record { later = λ d. absurd (cc (sym e ∙ d)); gone = ap (λ c. cond (c && list_any (is_thread t) threads) Gone Gone) e; away = ap (λ c. cond (c && list_any (is_thread t) threads) Gone Away) e }
  said (up.Commit txn) may =
      let notes = all_noted txn.notes may.0 in
      let last = ended txn.thread txn.ending may.1 in
      record {
        later = (notes.later, ended_later txn.thread txn.ending);
        gone = ap (place_ended l t txn.thread txn.ending) notes.gone ∙ last.gone;
        away = ap (place_ended l t txn.thread txn.ending) notes.away ∙ last.away;
      }
  said up.IdAsk may = record { later = tt; gone = refl; away = refl }
  said (up.Fault o) may = record { later = tt; gone = refl; away = refl }
  said (up.Flushed o) may = record { later = tt; gone = refl; away = refl }
  said (up.Request k level) may = record { later = tt; gone = refl; away = refl }

  -- a wake commutes with each message up
  wake : (k : LockName) (u : ThreadId) (m : Up) (s : Place) → MayPlaceUp l t m s → MayPlaceDown l t (down.Wake k u) s → Commute (MayPlaceUp l t) (place_up l t) (MayPlaceDown l t) (place_down l t) m (down.Wake k u) s
  wake k u m s may comes = by (is_lock l k && is_thread t u) refl
    where
      by : (b : Bool) → (is_lock l k && is_thread t u) ≡ b → Commute (MayPlaceUp l t) (place_up l t) (MayPlaceDown l t) (place_down l t) m (down.Wake k u) s
      by true e =
          let is : s ≡ Gone = comes e in
          let it = said m (subst (MayPlaceUp l t m) is may) in
          record {
            down_later = λ _. ap (place_up l t m) is ∙ it.gone;
            up_later = subst (MayPlaceUp l t m) (sym (ap (λ b. cond b Away s) e)) it.later;
            same = ap (λ b. cond b Away (place_up l t m s)) e ∙ sym it.away ∙ ap (place_up l t m) (sym (ap (λ b. cond b Away s) e));
          }
      by false e = record {
        down_later = λ d. absurd (cc (sym e ∙ d));
        up_later = subst (MayPlaceUp l t m) (sym (ap (λ b. cond b Away s) e)) may;
        same = ap (λ b. cond b Away (place_up l t m s)) e ∙ ap (place_up l t m) (sym (ap (λ b. cond b Away s) e));
      }

-- Messages of the two ways commute.
pub places_commute : (l : LockName) (t : ThreadId) → Commutes (MayPlaceUp l t) (place_up l t) (MayPlaceDown l t) (place_down l t)
places_commute l t m (down.Wake k u) s may comes = wake l t k u m s may comes
places_commute l t m (down.Ids first) s may comes = record { down_later = tt; up_later = may; same = refl }
places_commute l t m (down.Object body) s may comes = record { down_later = tt; up_later = may; same = refl }
places_commute l t m (down.Grant k level) s may comes = record { down_later = tt; up_later = may; same = refl }
places_commute l t m (down.Recall k) s may comes = record { down_later = tt; up_later = may; same = refl }
places_commute l t m (down.Ack seq) s may comes = record { down_later = tt; up_later = may; same = refl }
places_commute l t m (down.Changes sets) s may comes = record { down_later = tt; up_later = may; same = refl }
