-- What the two ends' agreement on an object says: of who is said to hold it behind all in flight to the client, and of a fault
-- that comes.
use Rattle.std.specs.List.{AllByRecursion}
use Rattle.std.proofs.Common.{ℕ, ◌≡◌, ◌≢◌, refl, sym, ◌∙◌, ap, subst, Bool, true, false, cond, not, eqb, ◌&&◌, Option, Some, None, List, [], ◌∷◌}
use Rattle.dso_base.specs.declared.journal.Entry.{Entry}
use Rattle.dso_base.specs.declared.journal.Input.TheVariants as input
use Rattle.dso_base.specs.declared.journal.Node.TheVariants.{Server, Client}
use Rattle.dso_base.specs.declared.journal.Sent.TheVariants.{ToClient}
use Rattle.dso_base.specs.declared.lock.ThreadId.{ThreadId}
use Rattle.dso_base.specs.declared.message.Down.{Down}
use Rattle.dso_base.specs.declared.message.Down.TheVariants as down
use Rattle.dso_base.specs.declared.message.Up.{Up}
use Rattle.dso_base.specs.declared.message.Up.TheVariants as up
use Rattle.dso_base.specs.declared.record.Body.{Body}
use Rattle.dso_base.specs.declared.record.Txn.{Txn}
use Rattle.dso_base.specs.declared.request.Event.{Event}
use Rattle.dso_base.specs.declared.request.Request.{Request}
use Rattle.dso_plain.proofs.keys.SameKeys.{number_self}
use Rattle.dso_law.specs.Settings.{Settings}
use Rattle.dso_law.specs.Entries.{unsent, entries_of, by_taken_up}
use Rattle.dso_law.specs.Channels.{up_in_flight, down_in_flight}
use Rattle.dso_law.specs.Copies.{is_among, resident_by_taken, is_resident, is_object_asked}
use Rattle.dso_law.specs.ServerReadings.{is_lost, counted, batches_given}
use Rattle.dso_law.specs.ServerStep.{object_to, HeardStep, HeardOrLost, ServerStepOn, ServerStep}
use Rattle.dso_law.specs.Store.{body_by, stored, holds_object}
use Rattle.dso_legal.specs.Agreement.{messages, after, EachMay}
use Rattle.dso_legal.specs.Lawful.{ServerFollows, AllFollow}
use Rattle.dso_legal.specs.OwnObjects.{was_published}
use Rattle.dso_legal.specs.PendingBlocks.{records_in}
use Rattle.dso_legal.specs.Residency.{Residency, Unpublished, Absent, Asked, Resident, unless_unpublished, is_set, residency_up, residency_down, MayMove, MayCome, is_published_by, residency_at, residency_with, is_own}
use Rattle.dso_legal.proofs.ids.GivenOnce.{in_turn, given_once}
use Rattle.dso_legal.proofs.leases.LeaseSteps.{if_true, no_both}
use Rattle.dso_legal.proofs.objects.Residency.{IsOwner, Known, known, given_above}
use Rattle.dso_legal.proofs.objects.ResidentClient.{resident_stands}
use Rattle.dso_legal.proofs.objects.ResidentServer.{IsOf, stored_is_of, held_stands}
use Rattle.dso_legal.proofs.channels.InFlight.{told_to}

-- absent or asked for
abbrev pub IsOut : Residency → Type 0
IsOut Absent = Unit {0}
IsOut Asked = Unit {0}
IsOut s = ⊥

out_fault : (b : Bool) (s : Residency) → IsOut s → IsOut (cond b (unless_unpublished Asked s) s)
out_fault false s h = h
out_fault true Absent h = tt
out_fault true Asked h = tt
out_fault true s h = absurd h

out_flush : (b : Bool) (s : Residency) → (b ≡ true → s ≡ Resident) → IsOut s → IsOut (cond b (unless_unpublished Absent s) s)
out_flush false s may h = h
out_flush true s may h = absurd (subst IsOut (may refl) h)

out_record : (b : Bool) (s : Residency) → (b ≡ true → s ≡ Unpublished) → IsOut s → IsOut (cond b Resident s)
out_record false s may h = h
out_record true s may h = absurd (subst IsOut (may refl) h)

-- what is out stays so, whatever may come up
out_up : (o : ℕ) (m : Up) (s : Residency) → MayMove o m s → IsOut s → IsOut (residency_up o m s)
out_up o (up.Fault x) s may h = out_fault (eqb x o) s h
out_up o (up.Flushed x) s may h = out_flush (eqb x o) s may h
out_up o (up.Commit txn) s may h = out_record (is_among o txn.news) s may.0 h
out_up o m s may h = h

pub out_ups : (o : ℕ) (ms : List Up) (s : Residency) → EachMay (MayMove o) (residency_up o) ms s → IsOut s → IsOut (after (residency_up o) ms s)
out_ups o [] s may h = h
out_ups o (m ∷ ms) s may h = out_ups o ms (residency_up o m s) may.1 (out_up o m s may.0 h)

-- neither set nor published by the record
abbrev pub LeavesAlone : ℕ → Txn → Type 0
LeavesAlone o txn = (is_set o txn.sets ≡ false) × (is_among o txn.news ≡ false)

-- a test that can't hold fails
fails_so : (b : Bool) → (b ≡ true → ⊥) → b ≡ false
fails_so true never = absurd (never refl)
fails_so false never = refl

alone_up : (o : ℕ) (m : Up) (ms : List Up) (s : Residency) → MayMove o m s → IsOut s → AllByRecursion (LeavesAlone o) (records_in ms) → AllByRecursion (LeavesAlone o) (records_in (m ∷ ms))
alone_up o (up.Commit txn) ms s may h rest = (
  (fails_so (is_set o txn.sets) (λ e. subst IsOut (may.1 e) h), fails_so (is_among o txn.news) (λ e. subst IsOut (may.0 e) h)),
  rest,
)
alone_up o m ms s may h rest = rest

-- no record that may come where an object is out sets or publishes it
pub alone_ups : (o : ℕ) (ms : List Up) (s : Residency) → EachMay (MayMove o) (residency_up o) ms s → IsOut s → AllByRecursion (LeavesAlone o) (records_in ms)
alone_ups o [] s may h = tt
alone_ups o (m ∷ ms) s may h = alone_up o m ms s may.0 h (alone_ups o ms (residency_up o m s) may.1 (out_up o m s may.0 h))

shown_object : (b : Bool) (r : Bool) (s : Residency) → (b ≡ true → s ≡ Asked) → (r ≡ true → s ≡ Resident) → cond b true r ≡ true → cond b (unless_unpublished Resident s) s ≡ Resident
shown_object true r s may h e = ap (unless_unpublished Resident) (may refl)
shown_object false r s may h e = h e

-- what is resident as messages come stands so
shown_down : (o : ℕ) (m : Down) (r : Bool) (s : Residency) → MayCome o m s → (r ≡ true → s ≡ Resident) → resident_by_taken o m r ≡ true → residency_down o m s ≡ Resident
shown_down o (down.Object body) r s may h e = shown_object (eqb body.object o) r s may h e
shown_down o m r s may h e = h e

pub shown_downs : (o : ℕ) (ms : List Down) (r : Bool) (s : Residency) → EachMay (MayCome o) (residency_down o) ms s → (r ≡ true → s ≡ Resident)
    → after (resident_by_taken o) ms r ≡ true → after (residency_down o) ms s ≡ Resident
shown_downs o [] r s may h e = h e
shown_downs o (m ∷ ms) r s may h e = shown_downs o ms (resident_by_taken o m r) (residency_down o m s) may.1 (shown_down o m r s may.0 h) e

-- what is stored and isn't out is held
held_unless_out : {X : Type 0} (u holds : Bool) (body : Option X) → body ≢ None → (u ≡ true → body ≡ None) → (IsOut (held_stands u holds) → ⊥) → holds ≡ true
held_unless_out true holds body there unstored never = absurd (there (unstored refl))
held_unless_out false true body there unstored never = refl
held_unless_out false false body there unstored never = absurd (never tt)

-- what is stored and isn't held is out
stored_is_out : {X : Type 0} (u holds : Bool) (body : Option X) → body ≢ None → (u ≡ true → body ≡ None) → holds ≡ false → IsOut (held_stands u holds)
stored_is_out true holds body there unstored e = absurd (there (unstored refl))
stored_is_out false true body there unstored e = absurd (cc e)
stored_is_out false false body there unstored e = tt

module _ (p : Settings) (next : ThreadId → List Event → Option Request) (es : List Entry) (follow : AllFollow p next es) (c : ℕ) (alive : is_lost c (entries_of Server es) ≡ false) where
  owner : (o : ℕ) (b : Bool) → is_own c o es ≡ b → IsOwner b c o es
  owner o true e = record {
    isnt_roots = given_above c o (batches_given (counted (entries_of Server es))) (in_turn p next es follow) e;
    alone = λ d given. sym (given_once c d o (batches_given (counted (entries_of Server es))) (in_turn p next es follow) e given);
  }
  owner o false e = e

  -- What is known of any object at both ends.
  pub object_known : (o : ℕ) → Known p next c o (is_own c o es) es
  object_known o = known p next c o (is_own c o es) es follow alive (owner o (is_own c o es) refl)

  -- Of an object in the store the server says that the client holds it, where it is resident behind all in flight to the
  -- client.
  pub resident_is_held : (o : ℕ) → stored p.shape o (counted (entries_of Server es)) ≢ None
      → after (resident_by_taken o) (messages (down_in_flight c es)) (is_resident o (entries_of (Client c) es)) ≡ true → holds_object c o (counted (entries_of Server es)) ≡ true
  resident_is_held o there e =
      let k = object_known o in
      let server = counted (entries_of Server es) in
      let client = entries_of (Client c) es in
      let unpublished : Bool = is_own c o es && not (is_published_by c o server) in
      let end : after (residency_down o) (messages (down_in_flight c es)) (residency_at (is_own c o es) o client) ≡ Resident =
      shown_downs o (messages (down_in_flight c es)) (is_resident o client) (residency_at (is_own c o es) o client) k.agree.downs
      (resident_stands (is_own c o es && not (was_published o client)) (is_object_asked o client) (is_resident o client) k.clear) e in
      held_unless_out unpublished (holds_object c o server) (stored p.shape o server) there k.kept.unstored
      (λ out. subst IsOut (k.agree.meet ∙ end) (out_ups o (messages (up_in_flight c es)) (residency_with (is_own c o es) c o server) k.agree.ups out))

  -- Of an object in the store that the client doesn't hold: it isn't resident behind all in flight to the client, and no record
  -- in flight to the server sets or publishes it.
  pub record IsApart (o : ℕ) : Type 0 where
    pub absent : after (resident_by_taken o) (messages (down_in_flight c es)) (is_resident o (entries_of (Client c) es)) ≡ false
    pub untouched : AllByRecursion (LeavesAlone o) (records_in (messages (up_in_flight c es)))

  pub unheld_is_apart : (o : ℕ) → stored p.shape o (counted (entries_of Server es)) ≢ None → holds_object c o (counted (entries_of Server es)) ≡ false → IsApart o
  unheld_is_apart o there unheld =
      let k = object_known o in
      let server = counted (entries_of Server es) in
      record {
        absent = fails_so (after (resident_by_taken o) (messages (down_in_flight c es)) (is_resident o (entries_of (Client c) es)))
            (λ e. no_both (holds_object c o server) (resident_is_held o there e) unheld);
        untouched = alone_ups o (messages (up_in_flight c es)) (residency_with (is_own c o es) c o server) k.agree.ups
            (stored_is_out (is_own c o es && not (is_published_by c o server)) (holds_object c o server) (stored p.shape o server) there k.kept.unstored unheld);
      }

-- what the server's step says of a message of a client that isn't lost
pub heard_step : (p : Settings) (c : ℕ) (m : Up) (e : Entry) (es : List Entry) → ServerStep p e es → e.input ≡ input.TookUp c m → is_lost c es ≡ false → HeardStep p c m e (counted es)
heard_step p c m e es h is alive = subst (λ b. HeardOrLost p c m b e (counted es)) alive (subst (λ i. ServerStepOn p i e es) is h).heard

-- a fault leaves the store
pub fault_stores : (p : Settings) (c x o : ℕ) (e : Entry) (es : List Entry) → e.input ≡ input.TookUp c (up.Fault x) → stored p.shape o (unsent e ∷ es) ≡ stored p.shape o es
fault_stores p c x o e es is = ap (λ i. by_taken_up (body_by o) i (stored p.shape o es)) is

-- What the server sends for a fault of a client that isn't lost: the object as it is stored, to this client alone, which has it
-- neither now nor behind all in flight to the client, and whose records in flight to the server leave it alone.
pub record ObjectSent (p : Settings) (c o : ℕ) (e : Entry) (es : List Entry) : Type 0 where
  pub absent : after (resident_by_taken o) (messages (down_in_flight c es)) (is_resident o (entries_of (Client c) es)) ≡ false
  pub untouched : AllByRecursion (LeavesAlone o) (records_in (messages (up_in_flight c es)))
  pub body : Body
  pub its : body.object ≡ o
  pub is_stored : stored p.shape o (counted (entries_of Server es)) ≡ Some body
  pub sends : e.sent ≡ ToClient c (down.Object body) ∷ []
  pub tells : told_to c e.sent ≡ down.Object body ∷ []

-- a body that is there
pub record Found (o : ℕ) (body : Option Body) : Type 0 where
  pub its : Body
  pub is : body ≡ Some its
  pub object : its.object ≡ o

pub found : (o : ℕ) (body : Option Body) → body ≢ None → IsOf o body → Found o body
found o None there h = absurd (there refl)
found o (Some body) there h = record { its = body; is = refl; object = h }

pub object_sent : (p : Settings) (next : ThreadId → List Event → Option Request) (c o : ℕ) (e : Entry) (es : List Entry) → AllFollow p next es → is_lost c (entries_of Server es) ≡ false
    → ServerFollows p next e es → e.input ≡ input.TookUp c (up.Fault o) → ObjectSent p c o e es
object_sent p next c o e es follow alive h is =
    let server = counted (entries_of Server es) in
    let step = heard_step p c (up.Fault o) e (entries_of Server es) h.step is alive in
    let apart = unheld_is_apart p next es follow c alive o step.fits.0 step.fits.1 in
    let body = found o (stored p.shape o server) step.fits.0 (stored_is_of p.shape o server) in
    let sends : e.sent ≡ ToClient c (down.Object body.its) ∷ [] = step.sends ∙ ap (object_to c) (fault_stores p c o o e server is ∙ body.is) in
    record {
      absent = apart.absent;
      untouched = apart.untouched;
      body = body.its;
      its = body.object;
      is_stored = body.is;
      sends = sends;
      tells = ap (told_to c) sends ∙ if_true (eqb c c) (down.Object body.its ∷ []) [] (number_self c);
    }
