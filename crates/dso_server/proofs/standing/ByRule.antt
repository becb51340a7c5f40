-- What the calls tell makes entries of the server rule, and some entries change nothing.
use Rattle.std.proofs.Common.{◌≡◌, refl, sym, ap, subst, cond, ◌∷◌}
use Rattle.dso_law.specs.ServerReadings.{batches_given, counted}
use Rattle.dso_law.specs.ServerStep.{HeardOrLost}
use Rattle.dso_server.specs.declared.taken.Taken.TheVariants.{Done, Gone, BadMessage}
use Rattle.dso_server.specs.Batches.{batches_to}
use Rattle.dso_server.specs.Laws.{BreaksChangeNothing, LostByRule, LostChangeNothing, RejoinsChangeNothing, TakenByRule}
use Rattle.dso_server.specs.Sending.{sent_of, took}
use Rattle.dso_server.specs.ServerStands.{GraphStands, LocksStand, ThreadsStand, WaitersStand}

pub taken_by_rule : TakenByRule
taken_by_rule p clock c m Done messages old new es fits taken its no_loss no_break = record {
  its = its;
  no_loss = no_loss;
  no_break = no_break;
  event = refl;
  heard = subst (λ b. HeardOrLost p c m b (took clock c m (sent_of messages)) (counted es)) (sym taken.0) (record { fits = taken.1; sends = taken.2.sends clock });
}
taken_by_rule p clock c m Gone messages old new es fits taken its no_loss no_break = record {
  its = its;
  no_loss = no_loss;
  no_break = no_break;
  event = refl;
  heard = subst (λ b. HeardOrLost p c m b (took clock c m (sent_of messages)) (counted es)) (sym taken.0) (ap sent_of taken.1.0);
}
taken_by_rule p clock c m (BadMessage tag) messages old new es fits taken its no_loss no_break = absurd fits

pub lost_by_rule : LostByRule
lost_by_rule p clock c messages old new es told its due = record { its = its; due = due; event = refl; sends = told.sends clock }

pub breaks_change_nothing : BreaksChangeNothing
breaks_change_nothing p server clock c es s = record {
  lost = s.lost;
  ids = s.ids;
  store = record { bodies = s.store.bodies; holds = s.store.holds; last = s.store.last; within = s.store.within };
  locks = record { locks = s.locks.locks; requested = s.locks.requested; within = s.locks.within };
  waiters = record { lists = s.waiters.lists; once = s.waiters.once };
  threads = record { known = s.threads.known; last = s.threads.last; ended = s.threads.ended };
}

pub rejoins_change_nothing : RejoinsChangeNothing
rejoins_change_nothing p server clock c es s = record {
  lost = s.lost;
  ids = s.ids;
  store = record { bodies = s.store.bodies; holds = s.store.holds; last = s.store.last; within = s.store.within };
  locks = record { locks = s.locks.locks; requested = s.locks.requested; within = s.locks.within };
  waiters = record { lists = s.waiters.lists; once = s.waiters.once };
  threads = record { known = s.threads.known; last = s.threads.last; ended = s.threads.ended };
}

pub lost_change_nothing : LostChangeNothing
lost_change_nothing p server clock c m sent es gone s =
    let same : counted es ≡ counted (took clock c m sent ∷ es) = sym (ap (λ b. cond b (counted es) (took clock c m sent ∷ counted es)) gone) in
    record {
      lost = s.lost;
      ids = subst (λ xs. batches_given xs ≡ batches_to server.ids) same s.ids;
      store = subst (GraphStands p server.store) same s.store;
      locks = subst (LocksStand p server.locks) same s.locks;
      waiters = subst (WaitersStand server.waiters) same s.waiters;
      threads = subst (ThreadsStand p server.threads) same s.threads;
    }
