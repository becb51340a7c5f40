-- What a client's entry sends, cut into its parts: at most one record, returns and requests of locks, at most one ask or
-- flush.
use Rattle.std.specs.List.{list_any}
use Rattle.std.proofs.Common.{ℕ, suc, ◌≡◌, refl, sym, ◌∙◌, ap, subst, Bool, true, false, cond, not, ◌&&◌, ◌||◌, is_some, Option, Some, None, List, [], ◌∷◌, ◌++◌, map}
use Rattle.std.proofs.lemmas.List.{append_assoc, append-nil}
use Rattle.dso_base.specs.declared.journal.Entry.{Entry}
use Rattle.dso_base.specs.declared.journal.Input.{Input}
use Rattle.dso_base.specs.declared.journal.Input.TheVariants as input
use Rattle.dso_base.specs.declared.journal.Sent.TheVariants.{ToServer}
use Rattle.dso_base.specs.declared.lock.Level.TheVariants.{Write}
use Rattle.dso_base.specs.declared.lock.LockName.{LockName}
use Rattle.dso_base.specs.declared.lock.ThreadId.{ThreadId}
use Rattle.dso_base.specs.declared.message.Up.{Up}
use Rattle.dso_base.specs.declared.message.Up.TheVariants as up
use Rattle.dso_base.specs.declared.record.Ending.{Ending}
use Rattle.dso_base.specs.declared.record.Txn.{Txn}
use Rattle.dso_base.specs.declared.request.Event.{Event}
use Rattle.dso_base.specs.declared.request.Event.TheVariants.{Act}
use Rattle.dso_base.specs.declared.request.Request.{Request}
use Rattle.dso_base.specs.declared.request.Request.TheVariants.{Enter}
use Rattle.dso_base.specs.Block.{txn_of}
use Rattle.dso_plain.specs.KeyTests.{is_lock}
use Rattle.dso_law.specs.Settings.{Settings}
use Rattle.dso_law.specs.Entries.{unsent, by_taken_down}
use Rattle.dso_law.specs.Threads.{locks_of, ending_of, open_block, privates_before}
use Rattle.dso_law.specs.Copies.{is_object_asked, asked_by_taken, is_resident, resident_by_taken, unless_flushed}
use Rattle.dso_law.specs.ClientWaiters.{client_list}
use Rattle.dso_law.specs.Records.{records, is_batch_asked, batch_asked_by_taken}
use Rattle.dso_law.specs.Leases.{leased, is_asked_for}
use Rattle.dso_law.specs.Closing.{is_closing, due}
use Rattle.dso_law.specs.RequestNeeds.{Need, NeedsId, NeedsObject, NeedsClass, NeedsMark, NeedsLease, NeedsOthersOut, NeedsAck, unmet, ask_for}
use Rattle.dso_law.specs.Replies.{woken_by}
use Rattle.dso_law.specs.ClientStep.{record_of, commits, returns, asks_again, Does, Asks, DoesOrAsks, ActsOn, ClientStepOn, ClientStep}
use Rattle.dso_law.proofs.runs.AsksForAbsent.{IsLacking, lacking}
use Rattle.dso_legal.proofs.leases.ClientLeases.{ask_is}
use Rattle.dso_legal.proofs.channels.InFlight.{said_of, said_all}

-- a record with the client's next number
pub record IsRecord (es : List Entry) (m : Up) : Type 0 where
  pub txn : Txn
  pub is : m ≡ up.Commit txn
  pub number : txn.seq ≡ suc (records es)

-- at most one record
abbrev pub AtMostRecord : List Entry → List Up → Type 0
AtMostRecord es [] = Unit {0}
AtMostRecord es (m ∷ []) = IsRecord es m
AtMostRecord es (m ∷ n ∷ ms) = ⊥

-- the message is about a lock
abbrev pub IsAboutLock : Up → Type 0
IsAboutLock (up.Request l level) = Unit {0}
IsAboutLock (up.Return l threads) = Unit {0}
IsAboutLock m = ⊥

-- and so is each
abbrev pub EachAboutLock : List Up → Type 0
EachAboutLock [] = Unit {0}
EachAboutLock (m ∷ ms) = IsAboutLock m × EachAboutLock ms

-- an ask for what is neither asked for nor there, a request of a lock, or the flush that the entry is; the entry, without what it sends,
-- stands in front of the entries
abbrev pub IsAskOrFlush : Input → List Entry → Up → Type 0
IsAskOrFlush i es up.IdAsk = is_batch_asked es ≡ false
IsAskOrFlush i es (up.Fault o) = (is_object_asked o es ≡ false) × (is_resident o es ≡ false)
IsAskOrFlush i es (up.Flushed o) = i ≡ input.Flush o
IsAskOrFlush i es (up.Request l level) = Unit {0}
IsAskOrFlush i es m = ⊥

-- at most one of them
abbrev pub AtMostAsk : Input → List Entry → List Up → Type 0
AtMostAsk input es [] = Unit {0}
AtMostAsk input es (m ∷ []) = IsAskOrFlush input es m
AtMostAsk input es (m ∷ n ∷ ms) = ⊥

-- What a client's entry sends.
pub record ClientSent (e : Entry) (es : List Entry) : Type 0 where
  pub first : List Up
  pub locks : List Up
  pub last : List Up
  pub whole : said_of e.sent ≡ first ++ (locks ++ last)
  pub records : AtMostRecord es first
  pub about_locks : EachAboutLock locks
  pub asks : AtMostAsk e.input (unsent e ∷ es) last

pub about_append : (xs ys : List Up) → EachAboutLock xs → EachAboutLock ys → EachAboutLock (xs ++ ys)
about_append [] ys h k = k
about_append (x ∷ xs) ys h k = (h.0, about_append xs ys h.1 k)

about_returns : (list : LockName → List ThreadId) (locks : List LockName) → EachAboutLock (map (λ k. up.Return k (list k)) locks)
about_returns list [] = tt
about_returns list (l ∷ locks) = (tt, about_returns list locks)

at_most_record : (p : Settings) (t : ThreadId) (event : Event) (ending : Option Ending) (es : List Entry) → AtMostRecord es (record_of p t event ending es)
at_most_record p t event None es = tt
at_most_record p t event (Some ending) es = record {
  txn = txn_of p.shape (suc (records es)) t (privates_before p.shape t es) (open_block t es ++ event ∷ []) ending;
  is = refl;
  number = refl;
}

-- an ask is none that was asked
ask_is_new : (need : Need) (before : List Entry) (m : Up) (input : Input) (es : List Entry) → is_batch_asked es ≡ is_batch_asked before → ((o : ℕ) → is_object_asked o es ≡ is_object_asked o before)
    → ((o : ℕ) → is_resident o es ≡ is_resident o before) → IsLacking before (Some need)
    → ask_for need before ≡ Some m → IsAskOrFlush input es m
ask_is_new NeedsId before m input es batch object there lacks ask =
    let it = ask_is (is_batch_asked before) up.IdAsk m ask in subst (IsAskOrFlush input es) (sym it.0) (batch ∙ it.1)
ask_is_new (NeedsObject o) before m input es batch object there lacks ask =
    let it = ask_is (is_object_asked o before) (up.Fault o) m ask in subst (IsAskOrFlush input es) (sym it.0) (object o ∙ it.1, there o ∙ lacks)
ask_is_new (NeedsLease k level) before m input es batch object there lacks ask =
    let it = ask_is (is_some (leased k before) || is_asked_for k before) (up.Request k level) m ask in subst (IsAskOrFlush input es) (sym it.0) tt
ask_is_new (NeedsClass o) before m input es batch object there lacks ask = absurd (cc ask)
ask_is_new (NeedsMark k) before m input es batch object there lacks ask = absurd (cc ask)
ask_is_new (NeedsOthersOut k) before m input es batch object there lacks ask = absurd (cc ask)
ask_is_new NeedsAck before m input es batch object there lacks ask = absurd (cc ask)

module _ (p : Settings) (c : ℕ) (before after_it : ThreadId → Option Request) (e : Entry) (es : List Entry) where
  about_again_if : (k : LockName) (b : Bool) → EachAboutLock (cond b (up.Request k Write ∷ []) [])
  about_again_if k true = (tt, tt)
  about_again_if k false = tt

  pub about_again : (request : Option Request) → EachAboutLock (asks_again p c before after_it request (unsent e ∷ es) es)
  about_again (Some (Enter k Write)) = about_again_if k (not (is_closing p c before k es) && list_any (is_lock k) (due p c after_it (unsent e ∷ es)))
  about_again request = tt

  pub about_given : EachAboutLock (returns p c after_it (unsent e ∷ es))
  about_given = about_returns (λ k. client_list k (unsent e ∷ es)) (due p c after_it (unsent e ∷ es))

  -- by the messages
  pub said : (ms : List Up) → e.sent ≡ map ToServer ms → said_of e.sent ≡ ms
  said ms sent = ap said_of sent ∙ said_all ms

  sent_does : (t : ThreadId) (request : Request) → Does p c t request before after_it e es → ClientSent e es
  sent_does t request does =
      let event : Event = Act t request does.reply (woken_by request does.reply es) in
      let again : List Up = asks_again p c before after_it (after_it t) (unsent e ∷ es) es in
      record {
        first = commits p t event es;
        locks = returns p c after_it (unsent e ∷ es) ++ again;
        last = [];
        whole = said _ does.sends ∙ append_assoc (commits p t event es) (returns p c after_it (unsent e ∷ es)) again
            ∙ ap (λ ms. commits p t event es ++ ms) (sym (append-nil (returns p c after_it (unsent e ∷ es) ++ again)));
        records = at_most_record p t event (ending_of event (locks_of t es)) es;
        about_locks = about_append (returns p c after_it (unsent e ∷ es)) again about_given (about_again (after_it t));
        asks = tt;
      }

  -- an act leaves what is resident
  still_there : {index : ℕ} (o : ℕ) → e.input ≡ input.Act index → is_resident o (unsent e ∷ es) ≡ is_resident o es
  still_there o is = ap (λ i. unless_flushed o i (by_taken_down (resident_by_taken o) i (is_resident o es))) is

  sent_asks : (need : Need) (index : ℕ) → e.input ≡ input.Act index → IsLacking es (Some need) → Asks p c need after_it e es → ClientSent e es
  sent_asks need index is lacks asks = record {
    first = [];
    locks = returns p c after_it (unsent e ∷ es);
    last = asks.message ∷ [];
    whole = said _ asks.sends;
    records = tt;
    about_locks = about_given;
    asks = ask_is_new need es asks.message e.input (unsent e ∷ es) (ap (λ i. by_taken_down batch_asked_by_taken i (is_batch_asked es)) is)
        (λ o. ap (λ i. by_taken_down (asked_by_taken o) i (is_object_asked o es)) is)
        (λ o. still_there o is) lacks asks.asked;
  }

  sent_or_asks : (t : ThreadId) (request : Request) (need : Option Need) (index : ℕ) → e.input ≡ input.Act index → IsLacking es need → DoesOrAsks p c t request need before after_it e es → ClientSent e es
  sent_or_asks t request None index is lacks h = sent_does t request h
  sent_or_asks t request (Some need) index is lacks h = sent_asks need index is lacks h

  sent_acts : (t : ThreadId) (request : Option Request) (index : ℕ) → e.input ≡ input.Act index → ActsOn p c t request before after_it e es → ClientSent e es
  sent_acts t None index is h = absurd h
  sent_acts t (Some request) index is h = sent_or_asks t request (unmet p c before t request es) index is (lacking p c before t es request) h

  sent_by : (i : Input) → e.input ≡ i → ClientStepOn p c i before after_it e es → ClientSent e es
  sent_by (input.Act index) is h = sent_acts (record { client = c; index = index }) (before (record { client = c; index = index })) index is h.acts
  sent_by (input.TookDown m) is h = record {
    first = [];
    locks = returns p c after_it (unsent e ∷ es);
    last = [];
    whole = said (returns p c after_it (unsent e ∷ es)) h.sends ∙ sym (append-nil (returns p c after_it (unsent e ∷ es)));
    records = tt;
    about_locks = about_given;
    asks = tt;
  }
  sent_by (input.Flush o) is h = record { first = []; locks = []; last = up.Flushed o ∷ []; whole = said (up.Flushed o ∷ []) h.sends; records = tt; about_locks = tt; asks = is }
  sent_by (input.Rejoin d) is h = record { first = []; locks = []; last = []; whole = said [] h.sends; records = tt; about_locks = tt; asks = tt }
  sent_by other is h = absurd h

  -- What the client's entry sends.
  pub client_sent : ClientStep p c before after_it e es → ClientSent e es
  client_sent h = sent_by e.input refl h
