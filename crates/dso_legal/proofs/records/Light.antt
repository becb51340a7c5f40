-- A record that comes has no more than the journal weighs.
use Rattle.std.specs.List.{AllByRecursion}
use Rattle.std.proofs.Common.{ℕ, suc, ◌+◌, ◌≤◌, ◌≡◌, ◌⊎◌, inl, inr, refl, sym, subst, Bool, true, false, cond, eqb, Option, Some, None, List, [], ◌∷◌, ◌++◌, length, length-append, drop, arith}
use Rattle.std.specs.Prelude.{sum_by}
use Rattle.std.proofs.lemmas.List.Sums.{sum_by-cons}
use Rattle.dso_base.specs.declared.journal.Entry.{Entry}
use Rattle.dso_base.specs.declared.journal.Node.{Node}
use Rattle.dso_base.specs.declared.journal.Node.TheVariants.{Server, Client}
use Rattle.dso_base.specs.declared.journal.Sent.{Sent}
use Rattle.dso_base.specs.declared.journal.Sent.TheVariants.{ToServer, ToClient}
use Rattle.dso_base.specs.declared.lock.ThreadId.{ThreadId}
use Rattle.dso_base.specs.declared.message.Up.{Up}
use Rattle.dso_base.specs.declared.message.Up.TheVariants as up
use Rattle.dso_base.specs.declared.record.Ending.{Ending}
use Rattle.dso_base.specs.declared.record.Txn.{Txn}
use Rattle.dso_base.specs.declared.request.Event.{Event}
use Rattle.dso_base.specs.declared.request.Event.TheVariants.{Act}
use Rattle.dso_base.specs.declared.request.Request.{Request}
use Rattle.dso_base.specs.Block.{start, txn_of}
use Rattle.dso_base.specs.Weight.{up_values_of, sent_values_of, entry_weight_of}
use Rattle.dso_plain.proofs.keys.SameKeys.{same_number}
use Rattle.dso_law.specs.Settings.{Settings}
use Rattle.dso_law.specs.Entries.{is_node, entries_of, by_sent_up}
use Rattle.dso_law.specs.Channels.{Letter, posted, takes_up, up_in_flight, in_flight_after, to_server, IsFirst}
use Rattle.dso_law.specs.Records.{records}
use Rattle.dso_law.specs.Threads.{ending_of, locks_of, open_block, privates_before}
use Rattle.dso_law.specs.ClientStep.{record_of, commits}
use Rattle.dso_law.specs.Replies.{woken_by}
use Rattle.dso_legal.specs.Agreement.{messages}
use Rattle.dso_legal.specs.Lawful.{next_after, ClientFollows, NodeFollows, AllFollow}
use Rattle.dso_legal.specs.RecordsLight.{IsLight, RecordsAreLight}
use Rattle.dso_legal.proofs.acts.ClientActs.{IsNoRecord, NoRecords, IsQuiet, HasEvent, client_acted}
use Rattle.dso_legal.proofs.channels.InFlight.{said_of, said_letters}
use Rattle.dso_legal.proofs.records.HandLight.{works, hand_light}

-- what entries weigh
abbrev weight : List Entry → ℕ
weight es = sum_by entry_weight_of es

-- what is light stays so where there may be more
more_light : (n k : ℕ) (m : Up) → n ≤ k → IsLight n m → IsLight k m
more_light n k (up.Commit txn) more light = omega (arith, more, light)
more_light n k m more light = tt

all_more : (n k : ℕ) (ms : List Up) → n ≤ k → AllByRecursion (IsLight n) ms → AllByRecursion (IsLight k) ms
all_more n k [] more all = tt
all_more n k (m ∷ ms) more all = (more_light n k m more all.0, all_more n k ms more all.1)

all_both : (n : ℕ) (xs ys : List Up) → AllByRecursion (IsLight n) xs → AllByRecursion (IsLight n) ys → AllByRecursion (IsLight n) (xs ++ ys)
all_both n [] ys first second = second
all_both n (x ∷ xs) ys first second = (first.0, all_both n xs ys first.1 second)

no_record_light : (n : ℕ) (m : Up) → IsNoRecord m → IsLight n m
no_record_light n (up.Commit txn) none = absurd none
no_record_light n m none = tt

no_records_light : (n : ℕ) (ms : List Up) → NoRecords ms → AllByRecursion (IsLight n) ms
no_records_light n [] none = tt
no_records_light n (m ∷ ms) none = (no_record_light n m none.0, no_records_light n ms none.1)

-- ---- what entries weigh

-- a client's entries are no more than all,
own_few : (node : Node) (es : List Entry) → length (entries_of node es) ≤ length es
own_few node [] = omega arith
own_few node (e ∷ es) = by (is_node node e.node) (own_few node es)
  where
    by : (b : Bool) → length (entries_of node es) ≤ length es → length (cond b (e ∷ entries_of node es) (entries_of node es)) ≤ suc (length es)
    by true few = omega (arith, few)
    by false few = omega (arith, few)

-- and each weighs one at least
each_weighs : (es : List Entry) → length es ≤ weight es
each_weighs [] = omega arith
each_weighs (e ∷ es) = omega (arith, sum_by-cons entry_weight_of e es, each_weighs es)

-- what is sent to the server has no more values than all that is sent
said_weighs : (out : List Sent) → sum_by up_values_of (said_of out) ≤ sum_by sent_values_of out
said_weighs [] = omega arith
said_weighs (ToServer m ∷ out) = omega (arith, sum_by-cons up_values_of m (said_of out), sum_by-cons sent_values_of (ToServer m) out, said_weighs out)
said_weighs (ToClient c m ∷ out) = omega (arith, sum_by-cons sent_values_of (ToClient c m) out, said_weighs out)

-- ---- a record that is sent

module _ (p : Settings) (t : ThreadId) (event : Event) (es : List Entry) where
  -- what it has in hand
  record_hand : (ending : Ending) → let txn : Txn = txn_of p.shape (suc (records es)) t (privates_before p.shape t es) (open_block t es ++ event ∷ []) ending in length txn.news + length txn.notes ≤ suc (length es)
  record_hand ending =
      omega (arith, works p.shape (open_block t es ++ event ∷ []) (start (privates_before p.shape t es)), length-append (open_block t es) (event ∷ []), hand_light p.shape t es)

  record_light : (ending : Option Ending) (rest : List Up) (n values : ℕ) → length es ≤ n → sum_by up_values_of (record_of p t event ending es ++ rest) ≤ values → AllByRecursion (IsLight (suc values + n)) (record_of p t event ending es)
  record_light None rest n values few weighs = tt
  record_light (Some ending) rest n values few weighs =
      let txn : Txn = txn_of p.shape (suc (records es)) t (privates_before p.shape t es) (open_block t es ++ event ∷ []) ending in
      (omega (arith, record_hand ending, few, weighs, sum_by-cons up_values_of (up.Commit txn) rest), tt)

-- what a client's entry sends
sent_light : (p : Settings) (e : Entry) (es : List Entry) (n : ℕ) → length es ≤ n → IsQuiet e ⊎ HasEvent p e es → AllByRecursion (IsLight (entry_weight_of e + n)) (said_of e.sent)
sent_light p e es n few (inl quiet) = no_records_light (entry_weight_of e + n) (said_of e.sent) quiet.no_records
sent_light p e es n few (inr it) =
    let event : Event = Act it.thread it.request it.reply (woken_by it.request it.reply es) in
    subst (AllByRecursion (IsLight (entry_weight_of e + n))) (sym it.whole) (all_both (entry_weight_of e + n) (commits p it.thread event es) it.rest
    (record_light p it.thread event es (ending_of event (locks_of it.thread es)) it.rest n (sum_by sent_values_of e.sent) few
    (subst (λ ms. sum_by up_values_of ms ≤ sum_by sent_values_of e.sent) it.whole (said_weighs e.sent)))
    (no_records_light (entry_weight_of e + n) it.rest it.no_records))

-- ---- what is in flight

-- without the first
dropped : (n : ℕ) (b : Bool) (letters : List (Letter Up)) → AllByRecursion (IsLight n) (messages letters) → AllByRecursion (IsLight n) (messages (cond b (drop 1 letters) letters))
dropped n true [] all = tt
dropped n true (letter ∷ letters) all = all.1
dropped n false letters all = all

module _ (p : Settings) (next : ThreadId → List Event → Option Request) (c : ℕ) where
  -- more entries weigh more
  weighs_more : (e : Entry) (es : List Entry) → weight es ≤ weight (e ∷ es)
  weighs_more e es = omega (arith, sum_by-cons entry_weight_of e es)

  way_at : (node : Node) (e : Entry) (es : List Entry) → NodeFollows p next node e es → AllByRecursion (IsLight (weight es)) (messages (up_in_flight c es))
      → AllByRecursion (IsLight (weight (e ∷ es))) (messages (in_flight_after (to_server c) e node (up_in_flight c es)))
  way_at Server e es follows all = all_more (weight es) (weight (e ∷ es)) _ (weighs_more e es) (dropped (weight es) (takes_up c e.input) (up_in_flight c es) all)
  way_at (Client d) e es follows all = by (eqb c d) refl
    where
      before : AllByRecursion (IsLight (weight (e ∷ es))) (messages (up_in_flight c es))
      before = all_more (weight es) (weight (e ∷ es)) (messages (up_in_flight c es)) (weighs_more e es) all

      own : List Entry
      own = entries_of (Client c) es

      by : (b : Bool) → eqb c d ≡ b → AllByRecursion (IsLight (weight (e ∷ es))) (messages (cond b (by_sent_up (posted e.clock) e.sent (up_in_flight c es)) (up_in_flight c es)))
      by true is =
          let mine : ClientFollows p next c e es = subst (λ n. ClientFollows p next n e es) (sym (same_number c d is)) follows in
          let few : length own ≤ weight es = omega (arith, own_few (Client c) es, each_weighs es) in
          subst (AllByRecursion (IsLight (weight (e ∷ es)))) (sym (said_letters e.clock e.sent (up_in_flight c es)))
          (all_both (weight (e ∷ es)) (messages (up_in_flight c es)) (said_of e.sent) before
          (subst (λ n. AllByRecursion (IsLight n) (said_of e.sent)) (sym (sum_by-cons entry_weight_of e es))
          (sent_light p e own (weight es) few (client_acted p c (next_after next es) (next_after next (e ∷ es)) e own mine.step))))
      by false is = before

  way_light : (es : List Entry) → AllFollow p next es → AllByRecursion (IsLight (weight es)) (messages (up_in_flight c es))
  way_light [] follow = tt
  way_light (e ∷ es) follow = way_at e.node e es follow.1.rule (way_light es follow.0)

first_light : (n : ℕ) (m : Up) (letters : List (Letter Up)) → IsFirst m letters → AllByRecursion (IsLight n) (messages letters) → IsLight n m
first_light n m [] first all = absurd first
first_light n m (letter ∷ letters) first all = subst (IsLight n) (sym first) all.0

-- The first message in flight is light.
pub records_are_light : RecordsAreLight
records_are_light p next es lawful c m first = first_light (weight es) m (up_in_flight c es) first (way_light p next c es lawful.follow)
