-- Every message that comes fits: each clause from its law.
use Rattle.std.specs.List.{AllByRecursion}
use Rattle.std.proofs.Common.{List, None, Option, Some, [], ap, eqb, false, is_some, length, refl, subst, sym, true, ℕ, ◌<◌, ◌^◌, ◌∙◌, ◌∷◌, ◌≡◌}
use Rattle.dso_base.specs.declared.journal.Entry.{Entry}
use Rattle.dso_base.specs.declared.journal.Node.TheVariants.{Client, Server}
use Rattle.dso_base.specs.declared.lock.ThreadId.{ThreadId}
use Rattle.dso_base.specs.declared.message.Down.{Down}
use Rattle.dso_base.specs.declared.message.Down.TheVariants as down
use Rattle.dso_base.specs.declared.message.Up.{Up}
use Rattle.dso_base.specs.declared.message.Up.TheVariants as up
use Rattle.dso_base.specs.declared.record.Body.{Body}
use Rattle.dso_base.specs.declared.record.Ending.{Ending}
use Rattle.dso_base.specs.declared.record.Ending.TheVariants as ending
use Rattle.dso_base.specs.declared.record.Note.{Note}
use Rattle.dso_base.specs.declared.record.Set.{Set}
use Rattle.dso_base.specs.declared.record.Txn.{Txn}
use Rattle.dso_base.specs.declared.request.Event.{Event}
use Rattle.dso_base.specs.declared.request.Request.{Request}
use Rattle.dso_plain.proofs.keys.SameKeys.{number_self}
use Rattle.dso_law.specs.Channels.{IsFirst, down_in_flight, up_in_flight}
use Rattle.dso_law.specs.Entries.{entries_of}
use Rattle.dso_law.specs.FitsDown.{FitsDown}
use Rattle.dso_law.specs.FitsUp.{FitsChoice, FitsEnding, FitsNews, FitsNote, FitsRecord, FitsSet, FitsStored, FitsUp}
use Rattle.dso_law.specs.ServerReadings.{counted, is_lost, last_ending}
use Rattle.dso_law.specs.Settings.{Settings}
use Rattle.dso_law.specs.Store.{holds_object, stored}
use Rattle.dso_legal.specs.Batches.{BatchFits}
use Rattle.dso_legal.specs.Lawful.{AllFollow}
use Rattle.dso_legal.specs.MessagesFit.{MessagesFit}
use Rattle.dso_legal.specs.NewsAreNew.{IsUnknown}
use Rattle.dso_legal.specs.RecordsLeased.{IsEndingLeased, IsGuardLeased, IsNoteLeased, IsRecordLeased}
use Rattle.dso_legal.specs.RecordsOwn.{IsOwnRecord}
use Rattle.dso_legal.specs.Residency.{is_set}
use Rattle.dso_legal.specs.Sorted.{IsSorted}
use Rattle.dso_legal.specs.SoundProgram.{GivesKnownTexts, AsksSoundly}
use Rattle.dso_legal.specs.ValuesFit.{FitsStoredField, FitsValues, IsShapedNews}
use Rattle.dso_legal.specs.WithinShape.{StaysWithinShape}
use Rattle.dso_legal.proofs.blocks.Histories.{client_of_thread}
use Rattle.dso_legal.proofs.fitting.LocksThere.{locks_are_there}
use Rattle.dso_legal.proofs.fitting.NamesInHand.{left_so, right_so}
use Rattle.dso_legal.proofs.fitting.NamesOut.{names_are_out}
use Rattle.dso_legal.proofs.fitting.RecordsLeased.{record_known}
use Rattle.dso_legal.proofs.fitting.RecordsOwn.{held_stored, own_record}
use Rattle.dso_legal.proofs.fitting.Room.{batches_have_room}
use Rattle.dso_legal.proofs.fitting.ValuesFit.{values_fit}
use Rattle.dso_legal.proofs.fitting.WaitersFit.{BringsWaiters, EndsItsWait, brings_waiters, record_ends_wait, wake_fits}
use Rattle.dso_legal.proofs.fitting.WaysDownFit.{ways_down_fit}
use Rattle.dso_legal.proofs.leases.Tokens.{lease_fits_up}
use Rattle.dso_legal.proofs.objects.Residency.{object_fits_up}
use Rattle.dso_legal.proofs.records.NewsAreNew.{news_unknown}
use Rattle.dso_legal.proofs.records.Numbered.{records_first}
use Rattle.dso_legal.proofs.records.Sorted.{first_is_sorted}

module _ (p : Settings) (next : ThreadId → List Event → Option Request) (sound : AsksSoundly p.shape next) (texts : GivesKnownTexts p.shape next) (within : StaysWithinShape p.shape next) (es : List Entry) (follow : AllFollow p next es) (c : ℕ) where
  abbrev server : List Entry
  server = counted (entries_of Server es)

  abbrev mine : List Entry
  mine = entries_of (Client c) es

  -- ---- records

  news_fit : (bodies : List Body) → AllByRecursion (IsUnknown p c server) bodies → AllByRecursion (IsShapedNews p.shape) bodies → AllByRecursion (FitsNews p c server) bodies
  news_fit [] unknown shaped = tt
  news_fit (body ∷ bodies) unknown shaped = (record { given = unknown.0.given; new = unknown.0.new; class = shaped.0.0; shaped = shaped.0.1 }, news_fit bodies unknown.1 shaped.1)

  set_fits : (set : Set) → holds_object c set.object server ≡ true → FitsStoredField p.shape server set → IsGuardLeased p c server set → FitsSet p c server set
  set_fits set held fits leased = (held, by (stored p.shape set.object server) refl (held_stored p next c set.object es follow held))
    where
      by : (body : Option Body) → stored p.shape set.object server ≡ body → is_some (stored p.shape set.object server) ≡ true → FitsStored p c set body server
      by None is there = absurd (let never : false ≡ true = sym (ap is_some is) ∙ there in cc never)
      by (Some body) is there = ((fits body is).0, leased body is, (fits body is).1)

  sets_fit : (sets : List Set) → ((o : ℕ) → is_set o sets ≡ true → holds_object c o server ≡ true) → AllByRecursion (FitsStoredField p.shape server) sets → AllByRecursion (IsGuardLeased p c server) sets
      → AllByRecursion (FitsSet p c server) sets
  sets_fit [] held fits leased = tt
  sets_fit (set ∷ sets) held fits leased = (
    set_fits set (held set.object (left_so (eqb set.object set.object) (is_set set.object sets) (number_self set.object))) fits.0 leased.0,
    sets_fit sets (λ o is. held o (right_so (eqb set.object o) (is_set o sets) is)) fits.1 leased.1,
  )

  notes_fit : (notes : List Note) → AllByRecursion (IsNoteLeased c server) notes → AllByRecursion (λ note. FitsChoice p c note.choice) notes → AllByRecursion (FitsNote p c server) notes
  notes_fit [] leased woken = tt
  notes_fit (note ∷ notes) leased woken = ((leased.0, woken.0), notes_fit notes leased.1 woken.1)

  ending_fits : (t : ThreadId) (ending : Ending) → IsEndingLeased c server ending → EndsItsWait ending (last_ending t server) → FitsEnding c t ending server
  ending_fits t (ending.Exit l) leased waits = leased
  ending_fits t (ending.Wait l) leased waits = leased
  ending_fits t (ending.End fault) leased waits = tt
  ending_fits t (ending.Timeout l) leased waits = waits

  module _ (alive : is_lost c (entries_of Server es) ≡ false) where
    -- the wait that it ends
    ends_its_wait : (txn : Txn) → IsFirst (up.Commit txn) (up_in_flight c es) → txn.thread.client ≡ c → EndsItsWait txn.ending (last_ending txn.thread server)
    ends_its_wait txn first its = record_ends_wait p next sound txn.thread es follow (subst (λ n. is_lost n (entries_of Server es) ≡ false) (sym its) alive) txn refl
        (subst (λ n. IsFirst (up.Commit txn) (up_in_flight n es)) (sym its) first)

    record_fits : (txn : Txn) → IsFirst (up.Commit txn) (up_in_flight c es) → FitsRecord p c txn server
    record_fits txn first =
        let own : IsOwnRecord p c server txn = own_record p next sound es follow c alive txn first in
        let leased : IsRecordLeased p c server txn = record_known p next sound texts within es follow c alive txn first in
        let values : FitsValues p server txn = (values_fit p next sound texts within es follow c).ups (up.Commit txn) first in
        let sorted : IsSorted txn = first_is_sorted p next es follow c (up.Commit txn) first in
        record {
          number = (records_first p next es follow c alive).ups (up.Commit txn) first;
          thread = own.thread;
          going = own.going;
          news = news_fit txn.news (news_unknown p next es follow c (up.Commit txn) first) values.news;
          news_rise = sorted.news;
          sets = sets_fit txn.sets (object_fits_up p next es follow c alive (up.Commit txn) first) values.sets leased.sets;
          sets_rise = sorted.sets;
          named = (names_are_out p next sound texts within es follow).ups c alive (up.Commit txn) first;
          printed = values.printed;
          texts = values.texts;
          notes = notes_fit txn.notes leased.notes own.woken;
          ending = ending_fits txn.thread txn.ending leased.ending (ends_its_wait txn first (client_of_thread p c txn.thread own.thread));
        }

    up_fits : (m : Up) → IsFirst m (up_in_flight c es) → FitsUp p c m server
    up_fits up.IdAsk first = tt
    up_fits (up.Fault o) first = ((names_are_out p next sound texts within es follow).ups c alive (up.Fault o) first, object_fits_up p next es follow c alive (up.Fault o) first)
    up_fits (up.Flushed o) first = object_fits_up p next es follow c alive (up.Flushed o) first
    up_fits (up.Request l level) first =
        let leases = lease_fits_up p next es follow c alive (up.Request l level) first in
        record { not_leased = leases.0; not_asked = leases.1; lock = locks_are_there p next sound texts within es follow c l level first }
    up_fits (up.Return l threads) first =
        let waiters : BringsWaiters p c l threads server = brings_waiters p next sound es follow c alive l threads first in
        record {
          leased = lease_fits_up p next es follow c alive (up.Return l threads) first;
          new = waiters.new;
          once = waiters.once;
          none_at_read = waiters.none_at_read;
        }
    up_fits (up.Commit txn) first = record_fits txn first

  -- ---- to the client

  down_fits : length es < 2 ^ 54 → (m : Down) → IsFirst m (down_in_flight c es) → FitsDown p c m mine
  down_fits few (down.Ids first_id) first =
      let batch : BatchFits c (down.Ids first_id) es = (ways_down_fit p next es follow c (down.Ids first_id) first).batch in
      record { asked = batch.asked; above = batch.above.0; new = batch.above.1; room = batches_have_room p next es follow few c first_id first }
  down_fits few (down.Object body) first =
      let fits = (values_fit p next sound texts within es follow c).downs (down.Object body) first in
      record { asked = (ways_down_fit p next es follow c (down.Object body) first).object; roots = fits.0; shaped = fits.1 }
  down_fits few (down.Grant l level) first = (ways_down_fit p next es follow c (down.Grant l level) first).lease
  down_fits few (down.Recall l) first = tt
  down_fits few (down.Ack seq) first = (ways_down_fit p next es follow c (down.Ack seq) first).acknowledged
  down_fits few (down.Changes sets) first = (values_fit p next sound texts within es follow c).downs (down.Changes sets) first
  down_fits few (down.Wake l t) first = wake_fits p next sound es follow c l t first

pub messages_fit : MessagesFit
messages_fit p next sound texts within es follow few c = record {
  ups = λ alive m first. up_fits p next sound texts within es follow c alive m first;
  downs = λ m first. down_fits p next sound texts within es follow c few m first;
}
