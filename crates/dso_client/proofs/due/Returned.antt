-- A lease that was given back.
use Rattle.std.proofs.Common.{◌≡◌, ℕ, refl, sym, ◌∙◌, ap, subst, Bool, true, false, cond, ◌&&◌, is_some, Option, Some, None, List, [], ◌∷◌, map}
use Rattle.std.proofs.Math.Path.{fun_ext}
use Rattle.std.specs.BTreeMap.{is_at}
use Rattle.std.specs.Bool.{OnTrue}
use Rattle.std.specs.Option.{option_map}
use Rattle.dso_base.specs.declared.lock.LockName.{LockName}
use Rattle.dso_base.specs.declared.message.Down.{Down}
use Rattle.dso_base.specs.declared.message.Down.TheVariants as down
use Rattle.dso_base.specs.declared.message.Up.{Up}
use Rattle.dso_base.specs.declared.message.Up.TheVariants as up
use Rattle.dso_hold.specs.Holds.{hold_in}
use Rattle.dso_lease.specs.declared.standing.LeaseStanding.{LeaseStanding}
use Rattle.dso_lease.specs.declared.standing.LeaseStanding.TheVariants.{Asked, Leased}
use Rattle.dso_lease.specs.Leases.{standing_in, with_standing, is_leased, is_returned, recalled, was_entered}
use Rattle.dso_lookup.specs.Maps.{look, writes, written}
use Rattle.dso_lookup.specs.Orders.{lock_order}
use Rattle.dso_plain.specs.KeyTests.{is_lock}
use Rattle.dso_plain.proofs.keys.SameKeys.{same_lock}
use Rattle.dso_law.specs.ClientWaiters.{client_list}
use Rattle.dso_law.specs.Closing.{is_lease_due}
use Rattle.dso_law.specs.Leases.{standing, leased, is_entered, is_recalled, is_asked_for}
use Rattle.dso_law.proofs.runs.Quiet.{lock_self}
use Rattle.dso_client.specs.declared.client_state.ClientState.{ClientState}
use Rattle.dso_client.specs.declared.lock_state.LockState.{LockState}
use Rattle.dso_client.specs.MessageEffects.{heard}
use Rattle.dso_client.specs.StateStands.{ClientPartsStand}
use Rattle.dso_client.specs.LockStateStands.{LockStateStands, as_hold, standing_as, list_at}
use Rattle.dso_client.specs.RunPoints.{RunPoint}
use Rattle.dso_client.specs.RunFacts.{RunFacts}
use Rattle.dso_client.specs.ContextStands.{ContextStands}
use Rattle.dso_client.specs.TakenMessages.{IsQuiet, Settles, settled}
use Rattle.dso_client.specs.TouchedLocks.{touched}
use Rattle.dso_client.proofs.contexts.AtStart.{all_as}
use Rattle.dso_client.proofs.due.Settled.{due_may}
use Rattle.dso_client.proofs.due.Touched.{none_due, one_due}
use Rattle.dso_client.proofs.heard.Locks.{at_lock, without_list, on_true}

-- a lease that was entered is there, and is given back once it was recalled
leased_there : (standing : Option LeaseStanding) → was_entered standing ≡ true → is_leased standing ≡ true
leased_there None e = absurd (cc e)
leased_there (Some Asked) e = absurd (cc e)
leased_there (Some (Leased lease)) e = refl

returned_then : (standing : Option LeaseStanding) → was_entered standing ≡ true → is_returned true (option_map recalled standing) ≡ true
returned_then None e = absurd (cc e)
returned_then (Some Asked) e = absurd (cc e)
returned_then (Some (Leased lease)) e = ap (λ entered. entered && true) e

pub given_up : (l : LockName) (old mid new : LockName → Option LeaseStanding) → was_entered (old l) ≡ true → (was_there : Bool) → was_there ≡ is_leased (old l)
    → OnTrue was_there (mid ≡ with_standing l (option_map recalled (old l)) old) → (done : Bool) → done ≡ is_returned true (mid l) → OnTrue done (new ≡ with_standing l None mid) → new ≡ with_standing l None old
given_up l old mid new entered was_there there closing done due gone =
    let then = option_map recalled (old l) in
    let closed : mid ≡ with_standing l then old = on_true was_there (mid ≡ with_standing l then old) (there ∙ leased_there (old l) entered) closing in
    let here : mid l ≡ then = ap (λ f. f l) closed ∙ (at_lock l then old l ∙ ap (λ b. cond b then (old l)) (lock_self l)) in
    let it : done ≡ true = due ∙ (ap (is_returned true) here ∙ returned_then (old l) entered) in
    on_true done (new ≡ with_standing l None mid) it gone ∙ fun_ext (λ k. at_lock l None mid k ∙ (ap (λ f. cond (is_lock k l) None (f k)) closed
    ∙ (ap (cond (is_lock k l) None) (at_lock l then old k) ∙ (once k (is_lock k l) ∙ sym (at_lock l None old k)))))
  where
    once : (k : LockName) (b : Bool) → cond b None (cond b (option_map recalled (old l)) (old k)) ≡ cond b None (old k)
    once k true = refl
    once k false = refl

first : (a b : Bool) → (a && b) ≡ true → a ≡ true
first true b h = refl
first false b h = absurd (cc h)

-- a lock that is leased isn't asked for, once a message was taken
apart_heard : (clock : ℕ) (m : Down) (at : RunPoint) (k : LockName) → (is_some (leased k at.entries) ≡ true → is_asked_for k at.entries ≡ false)
    → is_some (leased k (heard clock m at).entries) ≡ true → is_asked_for k (heard clock m at).entries ≡ false
apart_heard clock (down.Grant l level) at k before there = by (is_lock k l) there
  where
    by : (b : Bool) → is_some (cond b (record { lease = Some level; is_asked = false }) (standing k at.entries)).lease ≡ true → (cond b (record { lease = Some level; is_asked = false }) (standing k at.entries)).is_asked ≡ false
    by true h = refl
    by false h = before h
apart_heard clock m at k before there = before there

module _ (clock : ℕ) (m : Down) (at : RunPoint) (l : LockName) where
  abbrev given : RunPoint
  given = settled clock m (up.Return l (client_list l (heard clock m at).entries) ∷ []) at

  lock_state_given : (old new : LockState) → LockStateStands (heard clock m at) old → new.holds ≡ old.holds → standing_in new.leases ≡ with_standing l None (standing_in old.leases)
      → look lock_order new.lists ≡ written (writes (is_at (lock_order l)) (λ _. None)) (look lock_order old.lists) → is_asked_for l (heard clock m at).entries ≡ false → LockStateStands given new
  lock_state_given old new h held given_back gone unasked = record {
    holds = λ t x. ap (λ holds. option_map as_hold (hold_in holds (x, t))) held ∙ h.holds t x;
    leases = λ x. ap (λ leases. leases x) given_back ∙ (at_lock l None (standing_in old.leases) x ∙ leases x (is_lock x l) refl);
    lists = λ x. without_list l old.lists new.lists gone x ∙ ap (λ list. cond (is_lock x l) [] list) (h.lists x);
  }
    where
      leases : (x : LockName) (b : Bool) → is_lock x l ≡ b → cond b None (standing_in old.leases x)
          ≡ standing_as (cond b (record (standing x (heard clock m at).entries) { lease = None }) (standing x (heard clock m at).entries)).lease (is_entered x (heard clock m at).entries)
          (is_recalled x (heard clock m at).entries) (cond b (record (standing x (heard clock m at).entries) { lease = None }) (standing x (heard clock m at).entries)).is_asked
      leases x false same = h.leases x
      leases x true same = sym (ap (standing_as None (is_entered x (heard clock m at).entries) (is_recalled x (heard clock m at).entries))
          (ap (λ k. is_asked_for k (heard clock m at).entries) (sym (same_lock x l same)) ∙ unasked))

  parts_given : (old new : ClientState) → ClientPartsStand (heard clock m at) old → LockStateStands given new.lock_state → new ≡ record old { lock_state = new.lock_state } → ClientPartsStand given new
  parts_given old new h lock_state same = subst (ClientPartsStand given) (sym same) (record {
    number = h.number;
    places = h.places;
    numbered = h.numbered;
    contexts = all_as (ContextStands (heard clock m at)) (ContextStands given) (λ context s. record { next = s.next; work = s.work; seen = s.seen; waiting = s.waiting; marked = s.marked; last = s.last }) old.contexts.items h.contexts;
    table = record { bodies = h.table.bodies; asked = h.table.asked; marks = h.table.marks; opened = h.table.opened; wanted = h.table.wanted; room = h.table.room; count = h.table.count; acked = h.table.acked; order = h.table.order };
    lock_state = lock_state;
    sequences = record { ids = h.sequences.ids; bounded = h.sequences.bounded; end = h.sequences.end; asking = h.sequences.asking; records = h.sequences.records; unacked = h.sequences.unacked };
  })

  -- the lease that the message made due is given back, alone
  pub one_settles : (old new : ClientState) (sent : List Up) → ClientPartsStand (heard clock m at) old → IsQuiet at → RunFacts at → touched at m ≡ Some l
      → (is_some (leased l (heard clock m at).entries) && is_lease_due at.settings at.client at.next l (heard clock m at).entries) ≡ true
      → sent ≡ up.Return l (list_at old.lock_state.lists l) ∷ [] → new ≡ record old { lock_state = new.lock_state } → new.lock_state.holds ≡ old.lock_state.holds
      → (was_entered (standing_in old.lock_state.leases l) ≡ true → standing_in new.lock_state.leases ≡ with_standing l None (standing_in old.lock_state.leases))
      → look lock_order new.lock_state.lists ≡ written (writes (is_at (lock_order l)) (λ _. None)) (look lock_order old.lock_state.lists) → Settles clock m at sent new
  one_settles old new sent h quiet facts touches is says same held gives gone =
      let mid = (heard clock m at).entries in
      let there = first (is_some (leased l mid)) (is_lease_due at.settings at.client at.next l mid) is in
      let given_back = gives (due_may (heard clock m at) old.lock_state h.lock_state l is) in
      let all : sent ≡ up.Return l (client_list l mid) ∷ [] = says ∙ ap (λ ts. up.Return l ts ∷ []) (h.lock_state.lists l) in
      record {
        sends = all ∙ ap (map (λ k. up.Return k (client_list k mid))) (sym (one_due clock at quiet m l touches is));
        parts = subst (λ sent. ClientPartsStand (settled clock m sent at) new) (sym all)
            (parts_given old new h (lock_state_given old.lock_state new.lock_state h.lock_state held given_back gone (apart_heard clock m at l (facts.apart l) there)) same);
      }

-- where none is due, nothing is sent
pub none_settles : (clock : ℕ) (m : Down) (at : RunPoint) (old : ClientState) → ClientPartsStand (heard clock m at) old → IsQuiet at
    → ((l : LockName) → touched at m ≡ Some l → (is_some (leased l (heard clock m at).entries) && is_lease_due at.settings at.client at.next l (heard clock m at).entries) ≡ false) → Settles clock m at [] old
none_settles clock m at old h quiet fails = record {
  sends = ap (map (λ k. up.Return k (client_list k (heard clock m at).entries))) (sym (none_due clock at quiet m fails));
  parts = h;
}
