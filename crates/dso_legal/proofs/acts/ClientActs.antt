-- What a client's entry does: it has no event and sends no record, or it answers a request and sends the record that the
-- event ends.
use Rattle.std.proofs.Common.{ℕ, ◌≡◌, ◌⊎◌, inl, inr, sym, ◌∙◌, subst, is_some, ◌||◌, Option, Some, None, List, [], ◌∷◌, ◌++◌, map}
use Rattle.std.proofs.lemmas.List.{append_assoc}
use Rattle.dso_base.specs.declared.journal.Entry.{Entry}
use Rattle.dso_base.specs.declared.journal.Input.{Input}
use Rattle.dso_base.specs.declared.journal.Input.TheVariants as input
use Rattle.dso_base.specs.declared.journal.Sent.TheVariants.{ToServer}
use Rattle.dso_base.specs.declared.lock.ThreadId.{ThreadId}
use Rattle.dso_base.specs.declared.message.Up.{Up}
use Rattle.dso_base.specs.declared.message.Up.TheVariants as up
use Rattle.dso_base.specs.declared.request.Event.TheVariants.{Act}
use Rattle.dso_base.specs.declared.request.Reply.{Reply}
use Rattle.dso_base.specs.declared.request.Request.{Request}
use Rattle.dso_law.specs.Settings.{Settings}
use Rattle.dso_law.specs.Entries.{unsent}
use Rattle.dso_law.specs.Copies.{is_object_asked}
use Rattle.dso_law.specs.Records.{is_batch_asked}
use Rattle.dso_law.specs.Leases.{leased, is_asked_for}
use Rattle.dso_law.specs.RequestNeeds.{Need, NeedsId, NeedsObject, NeedsClass, NeedsMark, NeedsLease, NeedsOthersOut, NeedsAck, unmet, ask_for}
use Rattle.dso_law.specs.Replies.{woken_by, reply_of}
use Rattle.dso_law.specs.ClientStep.{commits, returns, asks_again, DoesOrAsks, ActsOn, ClientStepOn, ClientStep}
use Rattle.dso_legal.proofs.leases.ClientLeases.{ask_is}
use Rattle.dso_legal.proofs.records.ClientSends.{IsAboutLock, EachAboutLock, about_again, about_given, said}
use Rattle.dso_legal.proofs.channels.InFlight.{said_of}

-- the message is no record
abbrev pub IsNoRecord : Up → Type 0
IsNoRecord (up.Commit txn) = ⊥
IsNoRecord m = Unit {0}

-- none is
abbrev pub NoRecords : List Up → Type 0
NoRecords [] = Unit {0}
NoRecords (m ∷ ms) = IsNoRecord m × NoRecords ms

-- the entry has no event and sends no record
pub record IsQuiet (e : Entry) : Type 0 where
  pub event : e.event ≡ None
  pub no_records : NoRecords (said_of e.sent)

-- the entry answers a request, and sends the record that the event ends, if it ends one
pub record HasEvent (p : Settings) (e : Entry) (es : List Entry) : Type 0 where
  pub thread : ThreadId
  pub request : Request
  pub reply : Reply
  pub answered : reply_of p thread request es ≡ Some reply
  pub event : e.event ≡ Some (Act thread request reply (woken_by request reply es))
  pub rest : List Up
  pub whole : said_of e.sent ≡ commits p thread (Act thread request reply (woken_by request reply es)) es ++ rest
  pub no_records : NoRecords rest

lock_no_record : (m : Up) → IsAboutLock m → IsNoRecord m
lock_no_record (up.Commit txn) h = h
lock_no_record m h = tt

locks_no_records : (ms : List Up) → EachAboutLock ms → NoRecords ms
locks_no_records [] h = tt
locks_no_records (m ∷ ms) h = (lock_no_record m h.0, locks_no_records ms h.1)

none_append : (xs ys : List Up) → NoRecords xs → NoRecords ys → NoRecords (xs ++ ys)
none_append [] ys h k = k
none_append (x ∷ xs) ys h k = (h.0, none_append xs ys h.1 k)

ask_no_record : (need : Need) (es : List Entry) (m : Up) → ask_for need es ≡ Some m → IsNoRecord m
ask_no_record NeedsId es m ask = subst IsNoRecord (sym (ask_is (is_batch_asked es) up.IdAsk m ask).0) tt
ask_no_record (NeedsObject o) es m ask = subst IsNoRecord (sym (ask_is (is_object_asked o es) (up.Fault o) m ask).0) tt
ask_no_record (NeedsLease k level) es m ask = subst IsNoRecord (sym (ask_is (is_some (leased k es) || is_asked_for k es) (up.Request k level) m ask).0) tt
ask_no_record (NeedsClass o) es m ask = absurd (cc ask)
ask_no_record (NeedsMark k) es m ask = absurd (cc ask)
ask_no_record (NeedsOthersOut k) es m ask = absurd (cc ask)
ask_no_record NeedsAck es m ask = absurd (cc ask)

module _ (p : Settings) (c : ℕ) (before after_it : ThreadId → Option Request) (e : Entry) (es : List Entry) where
  given_back : NoRecords (returns p c after_it (unsent e ∷ es))
  given_back = locks_no_records (returns p c after_it (unsent e ∷ es)) (about_given p c before after_it e es)

  quiet : (ms : List Up) → e.event ≡ None → e.sent ≡ map ToServer ms → NoRecords ms → IsQuiet e ⊎ HasEvent p e es
  quiet ms silent sends without = inl (record { event = silent; no_records = subst NoRecords (sym (said p c before after_it e es ms sends)) without })

  does_or_asks : (t : ThreadId) (request : Request) (need : Option Need) → DoesOrAsks p c t request need before after_it e es → IsQuiet e ⊎ HasEvent p e es
  does_or_asks t request None does =
      let again : List Up = asks_again p c before after_it (after_it t) (unsent e ∷ es) es in
      let rest : List Up = returns p c after_it (unsent e ∷ es) ++ again in
      inr (record {
        thread = t;
        request = request;
        reply = does.reply;
        answered = does.answered;
        event = does.event;
        rest = rest;
        whole = said p c before after_it e es _ does.sends ∙ append_assoc (commits p t (Act t request does.reply (woken_by request does.reply es)) es) (returns p c after_it (unsent e ∷ es)) again;
        no_records = none_append (returns p c after_it (unsent e ∷ es)) again given_back (locks_no_records again (about_again p c before after_it e es (after_it t)));
      })
  does_or_asks t request (Some need) asks = quiet (returns p c after_it (unsent e ∷ es) ++ asks.message ∷ []) asks.event asks.sends
      (none_append (returns p c after_it (unsent e ∷ es)) (asks.message ∷ []) given_back (ask_no_record need es asks.message asks.asked, tt))

  acts : (t : ThreadId) (request : Option Request) → ActsOn p c t request before after_it e es → IsQuiet e ⊎ HasEvent p e es
  acts t None step = absurd step
  acts t (Some request) step = does_or_asks t request (unmet p c before t request es) step

  acted : (i : Input) → ClientStepOn p c i before after_it e es → IsQuiet e ⊎ HasEvent p e es
  acted (input.Act index) step = acts (record { client = c; index = index }) (before (record { client = c; index = index })) step.acts
  acted (input.TookDown m) step = quiet (returns p c after_it (unsent e ∷ es)) step.event step.sends given_back
  acted (input.Flush o) step = quiet (up.Flushed o ∷ []) step.event step.sends (tt, tt)
  acted (input.Rejoin d) step = quiet [] step.event step.sends tt
  acted other step = absurd step

  -- What the client's entry does.
  pub client_acted : ClientStep p c before after_it e es → IsQuiet e ⊎ HasEvent p e es
  client_acted step = acted e.input step
