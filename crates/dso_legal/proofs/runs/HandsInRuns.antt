-- In a run each object is in hand once, and in no record that was sent.
use Rattle.std.proofs.Common.{ℕ, ◌+◌, ◌≤◌, ◌≡◌, refl, subst, Bool, true, false, Option, List, [], ◌∷◌, arith}
use Rattle.dso_base.specs.declared.journal.Entry.{Entry}
use Rattle.dso_base.specs.declared.lock.ThreadId.{ThreadId}
use Rattle.dso_base.specs.declared.request.Event.{Event}
use Rattle.dso_base.specs.declared.request.Request.{Request}
use Rattle.dso_base.specs.Block.{start}
use Rattle.dso_base.specs.Following.{is_thread}
use Rattle.dso_plain.proofs.keys.SameKeys.{same_thread}
use Rattle.dso_law.specs.Settings.{Settings}
use Rattle.dso_law.specs.Threads.{open_block, privates_before, work_of}
use Rattle.dso_law.specs.ClientRun.{ClientRun, next_in}
use Rattle.dso_legal.specs.MadeOnce.{objects_made, objects_of}
use Rattle.dso_legal.specs.OwnObjects.{count_bodies, count_in_hand, was_published}
use Rattle.dso_legal.specs.Runs.{HandsAreOnce}
use Rattle.dso_legal.proofs.acts.ClientActs.{client_acted}
use Rattle.dso_legal.proofs.ids.Making.{fails}
use Rattle.dso_legal.proofs.objects.Makers.{count_listed, within, apart, falls_once, not_two}
use Rattle.dso_legal.proofs.objects.OwnObjects.{Balanced, at_either, published, some_published, published_made, hand_made, not_both_ways}
use Rattle.dso_legal.proofs.records.Rising.{work_rises, ids_rise}
use Rattle.dso_legal.proofs.runs.IdsInRuns.{ids_rise_in_runs}

-- what is a part of what is made once is there once
at_most_one : (h p m n : ℕ) → h + p ≡ m → m ≤ n → n ≤ 1 → h ≤ 1
at_most_one h p m n e le few = omega (arith, e, le, few)

news_few : (h p : ℕ) → h + p ≤ 1 → p ≤ 1
news_few h p le = omega (arith, le)

module _ (p : Settings) (c : ℕ) (next : ThreadId → List Event → Option Request) (o : ℕ) where
  -- what a thread made it has in hand or published
  balanced_run : (t : ThreadId) (es : List Entry) → ClientRun p c next es → Balanced o p t es
  balanced_run t [] run = refl
  balanced_run t (e ∷ es) run = at_either o p e es t (client_acted p c (next_in next es) (next_in next (e ∷ es)) e es run.1) (balanced_run t es run.0)

  module _ (es : List Entry) (run : ClientRun p c next es) where
    -- the object was made once
    few : count_listed o (objects_made es) ≤ 1
    few = falls_once o (objects_made es) (ids_rise_in_runs p c next es run).made

    once : (t : ThreadId) → count_in_hand o (work_of p.shape t es) ≤ 1
    once t = at_most_one (count_in_hand o (work_of p.shape t es)) (published o t es) (count_listed o (objects_of t es)) (count_listed o (objects_made es)) (balanced_run t es run) (within o t es) few

    -- by one thread
    same_maker : (t u : ThreadId) → 1 ≤ count_listed o (objects_of t es) → 1 ≤ count_listed o (objects_of u es) → u ≡ t
    same_maker t u some more = by (is_thread t u) refl
      where
        by : (b : Bool) → is_thread t u ≡ b → u ≡ t
        by true is = same_thread t u is
        by false is = absurd (not_two (count_listed o (objects_of t es)) (count_listed o (objects_of u es)) (count_listed o (objects_made es)) (apart o t u is es) few some more)

    -- what is in hand no record publishes
    never_published : (t : ThreadId) → 1 ≤ count_in_hand o (work_of p.shape t es) → was_published o es ≡ true → ⊥
    never_published t hand sent =
        let it = some_published o es sent in
        let mine = hand_made (count_in_hand o (work_of p.shape t es)) (published o t es) (count_listed o (objects_of t es)) (balanced_run t es run) hand in
        let its = published_made (count_in_hand o (work_of p.shape it.0 es)) (published o it.0 es) (count_listed o (objects_of it.0 es)) (balanced_run it.0 es run) it.1 in
        let too : 1 ≤ published o t es = subst (λ u. 1 ≤ published o u es) (same_maker t it.0 mine its) it.1 in
        not_both_ways (count_in_hand o (work_of p.shape t es)) (published o t es) (count_listed o (objects_of t es)) (count_listed o (objects_made es)) (balanced_run t es run) (within o t es) few hand too

pub hands_are_once : HandsAreOnce
hands_are_once p c next es run t = record {
  once = λ o. once p c next o es run t;
  news = ids_rise (work_of p.shape t es).news (work_rises p.shape (open_block t es) (start (privates_before p.shape t es)) (record { news = tt; sets = tt })).news
      (λ o. news_few (count_bodies o (work_of p.shape t es).privates) (count_bodies o (work_of p.shape t es).news) (once p c next o es run t));
  unpublished = λ o hand. fails (was_published o es) (never_published p c next o es run t hand);
}
