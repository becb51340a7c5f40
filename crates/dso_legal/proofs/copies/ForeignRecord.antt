-- A record of another client, as a client's copies see it: what it sets is in the store; where that is resident behind all in
-- flight to the client the client is told; and the guard of a field that it sets is leased to the client nowhere there.
use Rattle.std.specs.List.{list_any, AllByRecursion}
use Rattle.std.proofs.Common.{ℕ, ◌≡◌, ◌≢◌, refl, ◌∙◌, ap, subst, Bool, true, false, eqb, ◌||◌, Option, Some, None, List, [], ◌∷◌}
use Rattle.dso_base.specs.Shape.{guard_of}
use Rattle.dso_base.specs.declared.journal.Entry.{Entry}
use Rattle.dso_base.specs.declared.journal.Input.TheVariants as input
use Rattle.dso_base.specs.declared.journal.Node.TheVariants.{Server, Client}
use Rattle.dso_base.specs.declared.lock.Level.{Level}
use Rattle.dso_base.specs.declared.lock.Level.TheVariants.{Read, Write}
use Rattle.dso_base.specs.declared.lock.LockName.{LockName}
use Rattle.dso_base.specs.declared.lock.ThreadId.{ThreadId}
use Rattle.dso_base.specs.declared.message.Up.TheVariants as up
use Rattle.dso_base.specs.declared.record.Body.{Body}
use Rattle.dso_base.specs.declared.record.Set.{Set}
use Rattle.dso_base.specs.declared.record.Txn.{Txn}
use Rattle.dso_base.specs.declared.request.Event.{Event}
use Rattle.dso_base.specs.declared.request.Request.{Request}
use Rattle.dso_lookup.proofs.Tests.{both}
use Rattle.dso_plain.proofs.keys.SameKeys.{same_number}
use Rattle.dso_law.specs.Settings.{Settings}
use Rattle.dso_law.specs.Entries.{entries_of}
use Rattle.dso_law.specs.Channels.{down_in_flight}
use Rattle.dso_law.specs.Copies.{resident_by_taken, is_resident, is_set_of}
use Rattle.dso_law.specs.FitsUp.{FitsStored, FitsSet}
use Rattle.dso_law.specs.Leases.{standing_down, standing}
use Rattle.dso_law.specs.RequestNeeds.{conflicts}
use Rattle.dso_law.specs.ServerReadings.{is_lost, counted}
use Rattle.dso_law.specs.Granting.{leased_to}
use Rattle.dso_law.specs.Store.{stored, holds_object}
use Rattle.dso_legal.specs.Agreement.{messages, after}
use Rattle.dso_legal.specs.Lawful.{ServerFollows, AllFollow}
use Rattle.dso_legal.specs.Residency.{is_set}
use Rattle.dso_legal.proofs.leases.LeasesInFlight.{unleased_behind}
use Rattle.dso_legal.proofs.leases.LeasesCompatible.{all_lent}
use Rattle.dso_legal.proofs.objects.ObjectsInFlight.{heard_step, resident_is_held}

-- nothing conflicts with Write but no lease
apart_from_write : (lease : Option Level) → conflicts Write lease ≡ false → lease ≡ None
apart_from_write None e = refl
apart_from_write (Some Read) e = absurd (cc e)
apart_from_write (Some Write) e = absurd (cc e)

module _ (p : Settings) (d : ℕ) (server : List Entry) where
  -- what a set that fits is of is in the store
  stored_if_set : (o : ℕ) (set : Set) → FitsSet p d server set → set.object ≡ o → stored p.shape o server ≢ None
  stored_if_set o set fits is = λ none. subst (λ body. FitsStored p d set body server) (ap (λ n. stored p.shape n server) is ∙ none) fits.1

  pub stored_if_sets : (o : ℕ) (sets : List Set) → AllByRecursion (FitsSet p d server) sets → is_set o sets ≡ true → stored p.shape o server ≢ None
  stored_if_sets o [] fits e = absurd (cc e)
  stored_if_sets o (set ∷ sets) fits e = by (eqb set.object o) refl e (stored_if_sets o sets fits.1)
    where
      by : (b : Bool) → eqb set.object o ≡ b → (b || is_set o sets) ≡ true → (is_set o sets ≡ true → stored p.shape o server ≢ None) → stored p.shape o server ≢ None
      by true is f later = stored_if_set o set fits.0 (same_number set.object o is)
      by false is f later = later f

  -- the guard of a field that a set that fits is of is leased to its client at Write
  leased_if_set : (o f : ℕ) (body : Body) (set : Set) → stored p.shape o server ≡ Some body → FitsSet p d server set → set.object ≡ o → set.field ≡ f → leased_to d (guard_of p.shape body.class o f) server ≡ Some Write
  leased_if_set o f body set there fits is its =
      let found : FitsStored p d set (Some body) server = subst (λ b. FitsStored p d set b server) (ap (λ n. stored p.shape n server) is ∙ there) fits.1 in
      subst (λ n. leased_to d (guard_of p.shape body.class o n) server ≡ Some Write) its (subst (λ n. leased_to d (guard_of p.shape body.class n set.field) server ≡ Some Write) is found.1)

  pub leased_if_sets : (o f : ℕ) (body : Body) (sets : List Set) → stored p.shape o server ≡ Some body → AllByRecursion (FitsSet p d server) sets → list_any (is_set_of o f) sets ≡ true
      → leased_to d (guard_of p.shape body.class o f) server ≡ Some Write
  leased_if_sets o f body [] there fits e = absurd (cc e)
  leased_if_sets o f body (set ∷ sets) there fits e = by (is_set_of o f set) refl e (leased_if_sets o f body sets there fits.1)
    where
      by : (b : Bool) → is_set_of o f set ≡ b → (b || list_any (is_set_of o f) sets) ≡ true → (list_any (is_set_of o f) sets ≡ true → leased_to d (guard_of p.shape body.class o f) server ≡ Some Write)
          → leased_to d (guard_of p.shape body.class o f) server ≡ Some Write
      by true is g later = let it = both (eqb set.object o) (eqb set.field f) is in leased_if_set o f body set there fits.0 (same_number set.object o it.0) (same_number set.field f it.1)
      by false is g later = later g

-- The server takes a record of client d, which isn't lost.
module _ (p : Settings) (next : ThreadId → List Event → Option Request) (d : ℕ) (txn : Txn) (e : Entry) (es : List Entry) (follow : AllFollow p next es)
    (h : ServerFollows p next e es) (is : e.input ≡ input.TookUp d (up.Commit txn)) (there : is_lost d (entries_of Server es) ≡ false) where
  sets_fit : AllByRecursion (FitsSet p d (counted (entries_of Server es))) txn.sets
  sets_fit = (heard_step p d (up.Commit txn) e (entries_of Server es) h.step is there).fits.sets

  -- What it sets is in the store.
  pub set_is_stored : (o : ℕ) → is_set o txn.sets ≡ true → stored p.shape o (counted (entries_of Server es)) ≢ None
  set_is_stored o set = stored_if_sets p d (counted (entries_of Server es)) o txn.sets sets_fit set

  module _ (c : ℕ) (alive : is_lost c (entries_of Server es) ≡ false) where
    -- A client that has what it sets behind all in flight to the client holds it, as the server says.
    pub set_is_held : (o : ℕ) → is_set o txn.sets ≡ true → after (resident_by_taken o) (messages (down_in_flight c es)) (is_resident o (entries_of (Client c) es)) ≡ true
        → holds_object c o (counted (entries_of Server es)) ≡ true
    set_is_held o set here = resident_is_held p next es follow c alive o (set_is_stored o set) here

    -- Another client has no lease of the guard of a field that it sets, at the server,
    pub set_is_unleased : eqb d c ≡ false → (o f : ℕ) (body : Body) → stored p.shape o (counted (entries_of Server es)) ≡ Some body → list_any (is_set_of o f) txn.sets ≡ true
        → leased_to c (guard_of p.shape body.class o f) (counted (entries_of Server es)) ≡ None
    set_is_unleased other o f body there set =
        let l : LockName = guard_of p.shape body.class o f in
        apart_from_write (leased_to c l (counted (entries_of Server es)))
        ((all_lent p next es follow l).compatible d c Write other (leased_if_sets p d (counted (entries_of Server es)) o f body txn.sets there sets_fit set))

    -- nor behind all in flight to the client.
    pub set_is_unleased_behind : eqb d c ≡ false → (o f : ℕ) (body : Body) → stored p.shape o (counted (entries_of Server es)) ≡ Some body → list_any (is_set_of o f) txn.sets ≡ true
        → (after (standing_down (guard_of p.shape body.class o f)) (messages (down_in_flight c es)) (standing (guard_of p.shape body.class o f) (entries_of (Client c) es))).lease ≡ None
    set_is_unleased_behind other o f body there set = unleased_behind p next c (guard_of p.shape body.class o f) es follow alive (set_is_unleased other o f body there set)
