-- Whether a thread has settled, after an entry that doesn't touch its records.
use Rattle.std.specs.List.{list_any}
use Rattle.std.proofs.Common.{◌≡◌, refl, sym, ◌∙◌, ap, Bool, true, false, not, ◌||◌, Option, List, [], ◌∷◌, drop}
use Rattle.std.proofs.lemmas.Bool.{or_parts}
use Rattle.std.proofs.lemmas.List.Folds.{list_any-append}
use Rattle.dso_base.specs.declared.journal.Entry.{Entry}
use Rattle.dso_base.specs.declared.journal.Input.{Input}
use Rattle.dso_base.specs.declared.journal.Input.TheVariants as input
use Rattle.dso_base.specs.declared.lock.ThreadId.{ThreadId}
use Rattle.dso_base.specs.declared.message.Down.{Down}
use Rattle.dso_base.specs.declared.message.Down.TheVariants as down
use Rattle.dso_base.specs.declared.message.Up.{Up}
use Rattle.dso_base.specs.declared.message.Up.TheVariants as up
use Rattle.dso_base.specs.declared.record.Txn.{Txn}
use Rattle.dso_base.specs.declared.request.Request.{Request}
use Rattle.dso_base.specs.Following.{is_thread}
use Rattle.dso_law.specs.Entries.{by_taken_down}
use Rattle.dso_law.specs.Records.{unacked_by_taken, unacked_by_sent, unacked, is_settled}
use Rattle.dso_open_law.specs.TouchedThreads.{OfRecords, acked_topics, up_topics, down_topics, input_topics}
use Rattle.dso_open_law.proofs.readings.Untouched.{IsSpared, Spares, sent_leave}

module _ (before after : ThreadId → Option Request) (es : List Entry) (t : ThreadId) where
  -- whether one of the records is the thread's
  abbrev has_its : List Txn → Bool
  has_its txns = list_any (λ txn. is_thread t txn.thread) txns

  -- the first of them isn't
  first_acked : (txns : List Txn) → IsSpared (OfRecords t) (acked_topics txns) → has_its (drop 1 txns) ≡ has_its txns
  first_acked [] none = refl
  first_acked (txn ∷ txns) none =
      let h = or_parts (is_thread t txn.thread) false none in
      sym (ap (λ b. b || has_its txns) h.0)

  acked_taken : (m : Down) → IsSpared (OfRecords t) (down_topics before after es m) → has_its (unacked_by_taken m (unacked es)) ≡ has_its (unacked es)
  acked_taken (down.Ack seq) none = first_acked (unacked es) none
  acked_taken m none = refl

  acked_by : (i : Input) → IsSpared (OfRecords t) (input_topics before after es i) → has_its (by_taken_down unacked_by_taken i (unacked es)) ≡ has_its (unacked es)
  acked_by (input.TookDown m) none = acked_taken m none
  acked_by i none = refl

  or_false : (b : Bool) → (b || false) ≡ b
  or_false true = refl
  or_false false = refl

  record_sent : (m : Up) (txns : List Txn) → IsSpared (OfRecords t) (up_topics m) → has_its (unacked_by_sent m txns) ≡ has_its txns
  record_sent (up.Commit txn) txns none =
      let h = or_parts (is_thread t txn.thread) _ none in
      list_any-append (λ txn. is_thread t txn.thread) txns (txn ∷ []) ∙ ap (λ b. has_its txns || (b || false)) h.0 ∙ or_false (has_its txns)
  record_sent m txns none = refl

  pub settled_stays : (e : Entry) → Spares before after es (OfRecords t) e → is_settled t (e ∷ es) ≡ is_settled t es
  settled_stays e spares = ap not
      (sent_leave (OfRecords t) has_its unacked_by_sent record_sent e.sent (by_taken_down unacked_by_taken e.input (unacked es)) spares.sent ∙ acked_by e.input spares.taken)
