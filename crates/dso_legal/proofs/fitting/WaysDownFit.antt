-- What comes to a client finds it as it must, a lost client too.
use Rattle.std.proofs.Common.{Bool, List, Option, [], ap, cond, eqb, false, not, refl, subst, sym, true, ℕ, ◌&&◌, ◌∙◌, ◌∷◌, ◌≡◌}
use Rattle.dso_base.specs.declared.journal.Entry.{Entry}
use Rattle.dso_base.specs.declared.journal.Node.{Node}
use Rattle.dso_base.specs.declared.journal.Node.TheVariants.{Client, Server}
use Rattle.dso_base.specs.declared.lock.ThreadId.{ThreadId}
use Rattle.dso_base.specs.declared.message.Down.{Down}
use Rattle.dso_base.specs.declared.message.Down.TheVariants as down
use Rattle.dso_base.specs.declared.request.Event.{Event}
use Rattle.dso_base.specs.declared.request.Request.{Request}
use Rattle.dso_plain.proofs.keys.SameKeys.{number_self, same_number}
use Rattle.dso_law.specs.Channels.{IsFirst, Letter, TakesFirst, down_in_flight}
use Rattle.dso_law.specs.Copies.{is_object_asked, is_resident}
use Rattle.dso_law.specs.Entries.{entries_of}
use Rattle.dso_law.specs.Granting.{standing_with}
use Rattle.dso_law.specs.Leases.{standing, standing_down, standing_up}
use Rattle.dso_law.specs.Records.{batch_asked_by_sent, batch_asked_by_taken, batches, batches_by_taken, is_batch_asked, unacked, unacked_by_sent, unacked_by_taken}
use Rattle.dso_law.specs.ServerReadings.{is_lost}
use Rattle.dso_law.specs.Settings.{Settings}
use Rattle.dso_law.specs.declared.readings.LockStanding.{LockStanding}
use Rattle.dso_legal.specs.Agreement.{EachMay, messages}
use Rattle.dso_legal.specs.Batches.{BatchFits, IsAbove, MayAskIds, MayGiveIds, given_to}
use Rattle.dso_legal.specs.Lawful.{AllFollow, ClientFollows, NodeFollows}
use Rattle.dso_legal.specs.Numbered.{Always, IsOfFirst, unchanged}
use Rattle.dso_legal.specs.OwnObjects.{was_published}
use Rattle.dso_legal.specs.Residency.{MayCome, MayMove, ObjectFitsDown, is_own, residency_at, residency_down, residency_up, residency_with}
use Rattle.dso_legal.specs.Tokens.{LeaseFitsDown, MayGoDown, MayGoUp}
use Rattle.dso_legal.specs.WaysDown.{WaysDownFit}
use Rattle.dso_legal.proofs.fitting.WaysDown.{downs_after, downs_come}
use Rattle.dso_legal.proofs.ids.Batches.{above_commutes, ask_commutes, ask_ends, batch_ends}
use Rattle.dso_legal.proofs.leases.LeaseSteps.{lock_commutes}
use Rattle.dso_legal.proofs.leases.Queues.{lock_self}
use Rattle.dso_legal.proofs.leases.Tokens.{lock_ends}
use Rattle.dso_legal.proofs.objects.Residency.{ClearAt, IsOwner, Known, asked_asked, at_client, known, owner_before, owner_of}
use Rattle.dso_legal.proofs.objects.ResidentClient.{ClientTurn, object_commutes}
use Rattle.dso_legal.proofs.records.BothEnds.{client_with}
use Rattle.dso_legal.proofs.records.Numbered.{queue_commutes, queue_ends}

-- ---- objects

module _ (p : Settings) (next : ThreadId → List Event → Option Request) (c o : ℕ) (own : Bool) where
  -- what is in flight to the client may come, and what it knows is clear
  record DownKnown (es : List Entry) : Type 0 where
    pub downs : EachMay (MayCome o) (residency_down o) (messages (down_in_flight c es)) (residency_at own o (entries_of (Client c) es))
    pub clear : ClearAt p next c o own (entries_of (Client c) es)

  of_known : (es : List Entry) → Known p next c o own es → DownKnown es
  of_known es k = record { downs = k.agree.downs; clear = k.clear }

  module _ (e : Entry) (es : List Entry) (follow : AllFollow p next (e ∷ es)) (lost : is_lost c (entries_of Server (e ∷ es)) ≡ true) (whose : IsOwner own c o es) (before : DownKnown es) where
    turn : TakesFirst e.input (Client c) es → ClientFollows p next c e es → ClientTurn o p c own e (entries_of (Client c) es)
    turn = at_client p next c o own e es follow.0 whose before.downs before.clear

    clear_at : (node : Node) → e.node ≡ node → ClearAt p next c o own (client_with c node e es)
    clear_at Server node = before.clear
    clear_at (Client d) node = by (eqb c d) refl
      where
        by : (b : Bool) → eqb c d ≡ b → ClearAt p next c o own (cond b (e ∷ entries_of (Client c) es) (entries_of (Client c) es))
        by true same =
            let its : e.node ≡ Client c = node ∙ ap Client (sym (same_number c d same)) in
            (turn (subst (λ n. TakesFirst e.input n es) its follow.1.channels) (subst (λ n. NodeFollows p next n e es) its follow.1.rule)).clear
        by false other = before.clear

    known_after : DownKnown (e ∷ es)
    known_after = record {
      downs = downs_after p next c (MayMove o) (residency_up o) (MayCome o) (residency_down o) (residency_at own o) (residency_with own c o) (object_commutes o) e es follow lost
          (λ first rule. let it = turn first rule in record { comes = it.comes; reads = it.reads }) before.downs;
      clear = clear_at e.node refl;
    }

  start_clear : ClearAt p next c o own []
  start_clear = record { unasked = λ yes. absurd (cc yes); gone = λ yes. refl }

  down_known : (es : List Entry) → AllFollow p next es → IsOwner own c o es → DownKnown es
  down_known [] follow whose = record { downs = tt; clear = start_clear }
  down_known (e ∷ es) follow whose = by (is_lost c (entries_of Server (e ∷ es))) refl (down_known es follow.0 (owner_before own c o e es whose))
    where
      by : (b : Bool) → is_lost c (entries_of Server (e ∷ es)) ≡ b → DownKnown es → DownKnown (e ∷ es)
      by true lost before = known_after e es follow lost (owner_before own c o e es whose) before
      by false alive before = of_known (e ∷ es) (known p next c o own (e ∷ es) follow alive whose)

module _ (p : Settings) (next : ThreadId → List Event → Option Request) (es : List Entry) (follow : AllFollow p next es) (c : ℕ) where
  abbrev mine : List Entry
  mine = entries_of (Client c) es

  -- the first in flight may come
  first_comes : {S : Type 0} (may : Down → S → Type 0) (step : Down → S → S) (m : Down) (letters : List (Letter Down)) (s : S) → IsFirst m letters → EachMay may step (messages letters) s → may m s
  first_comes may step m [] s first h = absurd first
  first_comes may step m (letter ∷ letters) s first h = subst (λ n. may n s) (sym first) h.0

  object_comes : (m : Down) → IsFirst m (down_in_flight c es) → ObjectFitsDown m mine
  object_comes (down.Object body) first =
      let o : ℕ = body.object in
      let its : Bool = is_own c o es in
      let k : DownKnown p next c o its es = down_known p next c o its es follow (owner_of p next es follow c o its refl) in
      asked_asked (its && not (was_published o mine)) (is_object_asked o mine) (is_resident o mine)
      (first_comes (MayCome o) (residency_down o) (down.Object body) (down_in_flight c es) (residency_at its o mine) first k.downs (number_self o))
  object_comes m first = tt

  -- ---- leases, ids and acknowledgements

  lease_comes : (m : Down) → IsFirst m (down_in_flight c es) → LeaseFitsDown m mine
  lease_comes (down.Grant l level) first =
      let comes = downs_come p next c (MayGoUp l) (standing_up l) (MayGoDown l) (standing_down l) (standing l) (standing_with c l) (lock_commutes l) (lock_ends p next c l) es follow in
      ap (λ (s : LockStanding). s.is_asked) (first_comes (MayGoDown l) (standing_down l) (down.Grant l level) (down_in_flight c es) (standing l mine) first comes (lock_self l))
  lease_comes m first = tt

  batch_comes : (m : Down) → IsFirst m (down_in_flight c es) → BatchFits c m es
  batch_comes m first = record {
    asked = first_comes MayGiveIds batch_asked_by_taken m (down_in_flight c es) (is_batch_asked mine) first
        (downs_come p next c MayAskIds batch_asked_by_sent MayGiveIds batch_asked_by_taken is_batch_asked (λ es. false) ask_commutes (ask_ends p next c) es follow);
    above = first_comes IsAbove batches_by_taken m (down_in_flight c es) (batches mine) first
        (downs_come p next c Always unchanged IsAbove batches_by_taken batches (given_to c) above_commutes (batch_ends p next c) es follow);
  }

  ack_comes : (m : Down) → IsFirst m (down_in_flight c es) → IsOfFirst m (unacked mine)
  ack_comes m first = first_comes IsOfFirst unacked_by_taken m (down_in_flight c es) (unacked mine) first
      (downs_come p next c Always unacked_by_sent IsOfFirst unacked_by_taken unacked (λ es. []) queue_commutes (queue_ends p next c) es follow)

pub ways_down_fit : WaysDownFit
ways_down_fit p next es follow c m first = record {
  lease = lease_comes p next es follow c m first;
  batch = batch_comes p next es follow c m first;
  acknowledged = ack_comes p next es follow c m first;
  object = object_comes p next es follow c m first;
}
