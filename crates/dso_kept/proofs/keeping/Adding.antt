-- How an entry adds to the records that a server has applied.
use Rattle.std.proofs.Common.{ℕ, ◌≡◌, refl, sym, ap, ◌∙◌, Bool, true, false, cond, Option, Some, None, List, [], ◌∷◌}
use Rattle.dso_base.specs.declared.journal.Entry.{Entry}
use Rattle.dso_base.specs.declared.journal.Input.{Input}
use Rattle.dso_base.specs.declared.journal.Input.TheVariants as input
use Rattle.dso_base.specs.declared.journal.Node.{Node}
use Rattle.dso_base.specs.declared.journal.Node.TheVariants.{Server, Client}
use Rattle.dso_base.specs.declared.journal.Sent.{Sent}
use Rattle.dso_base.specs.declared.lock.ThreadId.{ThreadId}
use Rattle.dso_base.specs.declared.message.Up.{Up}
use Rattle.dso_base.specs.declared.message.Up.TheVariants as up
use Rattle.dso_base.specs.declared.record.Txn.{Txn}
use Rattle.dso_base.specs.declared.request.Event.{Event}
use Rattle.dso_base.specs.declared.request.Request.{Request}
use Rattle.dso_law.specs.ClientStep.{ClientStepOn}
use Rattle.dso_law.specs.Entries.{by_taken_up, entries_of, is_node}
use Rattle.dso_law.specs.ServerReadings.{counted, is_lost, is_of_lost}
use Rattle.dso_law.specs.ServerStep.{HeardOrLost, ServerStepOn}
use Rattle.dso_law.specs.Settings.{Settings}
use Rattle.dso_legal.specs.Lawful.{MayFollow, NodeFollows, next_after}
use Rattle.dso_legal.specs.Slots.{is_any}
use Rattle.dso_kept.specs.Keeping.{applied, record_applied, record_told, records_in, with_one, with_record}

-- the record that an input brings, if it brings one
abbrev pub brought : Input → Option (ℕ × Txn)
brought i = by_taken_up (λ c m none. record_told c m) i None

-- one that it brings is added
added : (c : ℕ) (m : Up) (records : List (ℕ × Txn)) → with_record c m records ≡ with_one (record_told c m) records
added c (up.Commit txn) records = refl
added c up.IdAsk records = refl
added c (up.Fault o) records = refl
added c (up.Flushed o) records = refl
added c (up.Request l level) records = refl
added c (up.Return l threads) records = refl

-- where none is brought, the messages that are sent make no difference
abbrev no_record : Option (ℕ × Txn)
no_record = None

none_brought : (sent : List Sent) → cond (is_any sent) no_record no_record ≡ no_record
none_brought [] = refl
none_brought (s ∷ sent) = refl

module _ (p : Settings) (e : Entry) (own : List Entry) where
  -- a record of a client that isn't lost is answered
  answered : (c : ℕ) (m : Up) → HeardOrLost p c m false e (counted own) → cond (is_any e.sent) (record_told c m) None ≡ record_told c m
  answered c (up.Commit txn) heard = ap (λ sent. cond (is_any sent) (Some (c, txn)) None) heard.sends
  answered c up.IdAsk heard = none_brought e.sent
  answered c (up.Fault o) heard = none_brought e.sent
  answered c (up.Flushed o) heard = none_brought e.sent
  answered c (up.Request l level) heard = none_brought e.sent
  answered c (up.Return l threads) heard = none_brought e.sent

  abbrev Goal : Bool → Option (ℕ × Txn) → Type 0
  Goal lost r = records_in (cond lost (counted own) (e ∷ counted own)) ≡ with_one r (records_in (counted own))

  by_loss : (c : ℕ) (m : Up) (lost : Bool) → e.input ≡ input.TookUp c m → HeardOrLost p c m lost e (counted own) → Goal lost (cond (is_any e.sent) (record_told c m) None)
  by_loss c m true is silent = sym (ap (λ sent. with_one (cond (is_any sent) (record_told c m) None) (records_in (counted own))) silent)
  by_loss c m false is heard =
      ap (λ i. by_taken_up with_record i (records_in (counted own))) is ∙ added c m (records_in (counted own))
      ∙ sym (ap (λ r. with_one r (records_in (counted own))) (answered c m heard))

  -- an entry that takes no message up adds nothing
  adds_none : (i : Input) → e.input ≡ i → by_taken_up with_record i (records_in (counted own)) ≡ records_in (counted own)
      → brought i ≡ None → Goal false (cond (is_any e.sent) (brought i) None)
  adds_none i is none silent =
      ap (λ j. by_taken_up with_record j (records_in (counted own))) is ∙ none
      ∙ sym (ap (λ r. with_one r (records_in (counted own))) (ap (λ r. cond (is_any e.sent) r None) silent ∙ none_brought e.sent))

  by_entry : (i : Input) → e.input ≡ i → ServerStepOn p i e own → Goal (is_of_lost i own) (cond (is_any e.sent) (brought i) None)
  by_entry (input.TookUp c m) is step = by_loss c m (is_lost c own) is step.heard
  by_entry (input.Lose c) is step = adds_none (input.Lose c) is refl refl
  by_entry (input.Break c) is step = adds_none (input.Break c) is refl refl
  by_entry (input.Rejoin c) is step = adds_none (input.Rejoin c) is refl refl
  by_entry i is step = absurd step

module _ (p : Settings) (next : ThreadId → List Event → Option Request) where
  -- no entry of a client takes a message up
  pub none_by_client : (c : ℕ) (e : Entry) (es : List Entry) (i : Input) → ClientStepOn p c i (next_after next es) (next_after next (e ∷ es)) e (entries_of (Client c) es) → brought i ≡ None
  none_by_client c e es (input.Act index) step = refl
  none_by_client c e es (input.TookDown m) step = refl
  none_by_client c e es (input.Flush o) step = refl
  none_by_client c e es (input.Rejoin d) step = refl
  none_by_client c e es i step = absurd step

  at_node : (node : Node) (e : Entry) (es : List Entry) → NodeFollows p next node e es
      → records_in (counted (cond (is_node Server node) (e ∷ entries_of Server es) (entries_of Server es))) ≡ with_one (record_applied e) (applied es)
  at_node Server e es follows = by_entry p e (entries_of Server es) e.input refl follows.step
  at_node (Client c) e es follows =
      sym (ap (λ r. with_one r (applied es)) (ap (λ r. cond (is_any e.sent) r None) (none_by_client c e es e.input follows.step) ∙ none_brought e.sent))

  -- with an entry that may follow, the records applied are those before it and the one that it applies
  pub applied_more : (e : Entry) (es : List Entry) → MayFollow p next e es → applied (e ∷ es) ≡ with_one (record_applied e) (applied es)
  applied_more e es may = at_node e.node e es may.rule
