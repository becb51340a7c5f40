-- What a client's entry says of objects: nothing, one record, one fault or one flush, and round it messages of other things.
use Rattle.std.specs.List.{list_any}
use Rattle.std.proofs.Common.{ℕ, suc, ◌≡◌, refl, sym, ◌∙◌, ap, subst, Bool, true, false, cond, not, ◌&&◌, ◌||◌, is_some, Option, Some, None, List, [], ◌∷◌, ◌++◌, map}
use Rattle.std.proofs.lemmas.List.{append_assoc}
use Rattle.dso_base.specs.declared.journal.Entry.{Entry}
use Rattle.dso_base.specs.declared.journal.Input.{Input}
use Rattle.dso_base.specs.declared.journal.Input.TheVariants as input
use Rattle.dso_base.specs.declared.journal.Sent.TheVariants.{ToServer}
use Rattle.dso_base.specs.declared.lock.Level.TheVariants.{Write}
use Rattle.dso_base.specs.declared.lock.LockName.{LockName}
use Rattle.dso_base.specs.declared.lock.ThreadId.{ThreadId}
use Rattle.dso_base.specs.declared.message.Up.{Up}
use Rattle.dso_base.specs.declared.message.Up.TheVariants as up
use Rattle.dso_base.specs.declared.record.Ending.{Ending}
use Rattle.dso_base.specs.declared.record.Txn.{Txn}
use Rattle.dso_base.specs.declared.request.Event.TheVariants.{Act}
use Rattle.dso_base.specs.declared.request.Reply.{Reply}
use Rattle.dso_base.specs.declared.request.Request.{Request}
use Rattle.dso_base.specs.declared.request.Request.TheVariants.{Enter}
use Rattle.dso_base.specs.Block.{txn_of}
use Rattle.dso_plain.specs.KeyTests.{is_lock}
use Rattle.dso_lookup.proofs.Tests.{both}
use Rattle.dso_law.specs.Settings.{Settings}
use Rattle.dso_law.specs.Entries.{unsent, by_sent_up}
use Rattle.dso_law.specs.Threads.{locks_of, ending_of, open_block, privates_before}
use Rattle.dso_law.specs.Copies.{is_object_asked, is_resident}
use Rattle.dso_law.specs.ClientWaiters.{client_list}
use Rattle.dso_law.specs.Records.{records, is_batch_asked}
use Rattle.dso_law.specs.Leases.{leased, is_asked_for}
use Rattle.dso_law.specs.Closing.{is_closing, due}
use Rattle.dso_law.specs.RequestNeeds.{Need, NeedsId, NeedsObject, NeedsClass, NeedsMark, NeedsLease, NeedsOthersOut, NeedsAck, unmet, ask_for}
use Rattle.dso_law.specs.Replies.{woken_by}
use Rattle.dso_law.specs.ClientStep.{record_of, commits, returns, asks_again, Does, DoesOrAsks, ActsOn, ClientStepOn, ClientStep}
use Rattle.dso_legal.specs.Agreement.{after, EachMay}
use Rattle.dso_legal.proofs.channels.Agreement.{AllDeaf, IsDeaf, more_deaf, may_append, after_append}
use Rattle.dso_law.proofs.runs.AsksForAbsent.{IsLacking, lacking}
use Rattle.dso_legal.proofs.leases.ClientLeases.{ask_is}
use Rattle.dso_legal.proofs.channels.InFlight.{said_of, said_all, said_status}

-- the message is neither a record nor of an object
abbrev pub IsQuiet : Up → Type 0
IsQuiet (up.Fault o) = ⊥
IsQuiet (up.Flushed o) = ⊥
IsQuiet (up.Commit txn) = ⊥
IsQuiet m = Unit {0}

-- and so is each
abbrev pub EachQuiet : List Up → Type 0
EachQuiet [] = Unit {0}
EachQuiet (m ∷ ms) = IsQuiet m × EachQuiet ms

-- what an entry says of objects
pub data Word : Type 0 where
  Silent : Word
  Records : Txn → Word
  AsksFor : ℕ → Word
  Flushes : ℕ → Word

-- in messages
abbrev pub spoken : Word → List Up
spoken Silent = []
spoken (Records txn) = up.Commit txn ∷ []
spoken (AsksFor o) = up.Fault o ∷ []
spoken (Flushes o) = up.Flushed o ∷ []

-- the input is an act
abbrev pub IsAct : Input → Type 0
IsAct (input.Act index) = Unit {0}
IsAct other = ⊥

-- the input is no flush
abbrev pub IsNoFlush : Input → Type 0
IsNoFlush (input.Flush o) = ⊥
IsNoFlush other = Unit {0}

-- the record is that of the thread's block with the event of the entry, which is its ending
pub record IsRecordOf (p : Settings) (e : Entry) (es : List Entry) (t : ThreadId) (txn : Txn) : Type 0 where
  pub request : Request
  pub reply : Reply
  pub woken : Option ThreadId
  pub ending : Ending
  pub event_is : e.event ≡ Some (Act t request reply woken)
  pub ends : ending_of (Act t request reply woken) (locks_of t es) ≡ Some ending
  pub txn_is : txn ≡ txn_of p.shape (suc (records es)) t (privates_before p.shape t es) (open_block t es ++ Act t request reply woken ∷ []) ending

-- a record by an act of one of the client's threads
pub record IsRecordBy (p : Settings) (c : ℕ) (e : Entry) (es : List Entry) (txn : Txn) : Type 0 where
  pub index : ℕ
  pub its : IsRecordOf p e es (record { client = c; index = index }) txn

-- what the word tells: an ask is an act, for what is neither asked for nor there; a flush is of what is there
abbrev pub IsWord : Settings → ℕ → Entry → List Entry → Input → Word → Type 0
IsWord p c e es i Silent = IsNoFlush i
IsWord p c e es i (Records txn) = IsAct i × IsRecordBy p c e es txn
IsWord p c e es i (AsksFor o) = IsAct i × (is_object_asked o es ≡ false) × (is_resident o es ≡ false)
IsWord p c e es i (Flushes o) = (i ≡ input.Flush o) × (is_resident o es ≡ true)

-- What a client's entry says.
pub record ClientWord (p : Settings) (c : ℕ) (e : Entry) (es : List Entry) : Type 0 where
  pub before : List Up
  pub word : Word
  pub behind : List Up
  pub whole : said_of e.sent ≡ before ++ (spoken word ++ behind)
  pub quiet_before : EachQuiet before
  pub quiet_behind : EachQuiet behind
  pub is : IsWord p c e es e.input word

quiet_append : (xs ys : List Up) → EachQuiet xs → EachQuiet ys → EachQuiet (xs ++ ys)
quiet_append [] ys h k = k
quiet_append (x ∷ xs) ys h k = (h.0, quiet_append xs ys h.1 k)

quiet_returns : (list : LockName → List ThreadId) (locks : List LockName) → EachQuiet (map (λ k. up.Return k (list k)) locks)
quiet_returns list [] = tt
quiet_returns list (l ∷ locks) = (tt, quiet_returns list locks)

-- quiet messages leave a reading that doesn't hear them
pub quiet_after : {S : Type 0} (step : Up → S → S) → ((m : Up) → IsQuiet m → (s : S) → step m s ≡ s) → (ms : List Up) → EachQuiet ms → (s : S) → after step ms s ≡ s
quiet_after step quiet [] h s = refl
quiet_after step quiet (m ∷ ms) h s = quiet_after step quiet ms h.1 (step m s) ∙ quiet m h.0 s

module _ {p : Settings} {c : ℕ} {e : Entry} {es : List Entry} (w : ClientWord p c e es) where
  -- a reading after all that the entry says
  pub word_status : {S : Type 0} (step : Up → S → S) → ((m : Up) → IsQuiet m → (s : S) → step m s ≡ s) → (s : S) → by_sent_up step e.sent s ≡ after step (spoken w.word) s
  word_status step quiet s = said_status step e.sent s ∙ ap (λ ms. after step ms s) w.whole ∙ after_append step w.before (spoken w.word ++ w.behind) s
      ∙ ap (after step (spoken w.word ++ w.behind)) (quiet_after step quiet w.before w.quiet_before s) ∙ after_append step (spoken w.word) w.behind s
      ∙ quiet_after step quiet w.behind w.quiet_behind (after step (spoken w.word) s)

  -- all that it says may come, where the word may
  pub word_comes : {S : Type 0} (may : Up → S → Type 0) (step : Up → S → S) → ((m : Up) → IsQuiet m → IsDeaf may step m) → (s : S) → EachMay may step (spoken w.word) s → EachMay may step (said_of e.sent) s
  word_comes may step quiet s comes =
      let first = all_deaf w.before w.quiet_before in
      let last = all_deaf w.behind w.quiet_behind in
      subst (λ ms. EachMay may step ms s) (sym w.whole)
      (may_append may step w.before (spoken w.word ++ w.behind) s (first.comes s)
      (subst (EachMay may step (spoken w.word ++ w.behind)) (sym (first.stays s))
      (may_append may step (spoken w.word) w.behind s comes (last.comes (after step (spoken w.word) s)))))
    where
      all_deaf : (ms : List Up) → EachQuiet ms → AllDeaf may step ms
      all_deaf [] h = record { comes = λ s. tt; stays = λ s. refl }
      all_deaf (m ∷ ms) h = more_deaf may step m ms (quiet m h.0) (all_deaf ms h.1)

module _ (p : Settings) (c : ℕ) (before after_it : ThreadId → Option Request) (e : Entry) (es : List Entry) where
  quiet_again_if : (k : LockName) (b : Bool) → EachQuiet (cond b (up.Request k Write ∷ []) [])
  quiet_again_if k true = (tt, tt)
  quiet_again_if k false = tt

  quiet_again : (request : Option Request) → EachQuiet (asks_again p c before after_it request (unsent e ∷ es) es)
  quiet_again (Some (Enter k Write)) = quiet_again_if k (not (is_closing p c before k es) && list_any (is_lock k) (due p c after_it (unsent e ∷ es)))
  quiet_again request = tt

  quiet_given : EachQuiet (returns p c after_it (unsent e ∷ es))
  quiet_given = quiet_returns (λ k. client_list k (unsent e ∷ es)) (due p c after_it (unsent e ∷ es))

  -- by the messages
  said : (ms : List Up) → e.sent ≡ map ToServer ms → said_of e.sent ≡ ms
  said ms sent = ap said_of sent ∙ said_all ms

  -- messages alone, all quiet
  silent : (ms : List Up) → said_of e.sent ≡ ms → EachQuiet ms → IsNoFlush e.input → ClientWord p c e es
  silent ms whole quiet is = record { before = []; word = Silent; behind = ms; whole = whole; quiet_before = tt; quiet_behind = quiet; is = is }

  -- by the ending that an act is, if it is one
  word_ends : (index : ℕ) (request : Request) (reply : Reply) (woken : Option ThreadId) (ending : Option Ending) (locks : List Up) → e.input ≡ input.Act index → e.event ≡ Some (Act (record { client = c; index = index }) request reply woken)
      → ending_of (Act (record { client = c; index = index }) request reply woken) (locks_of (record { client = c; index = index }) es) ≡ ending
      → said_of e.sent ≡ record_of p (record { client = c; index = index }) (Act (record { client = c; index = index }) request reply woken) ending es ++ locks → EachQuiet locks → ClientWord p c e es
  word_ends index request reply woken None locks is event ends whole quiet = silent locks whole quiet (subst IsNoFlush (sym is) tt)
  word_ends index request reply woken (Some ending) locks is event ends whole quiet =
      let t : ThreadId = record { client = c; index = index } in
      let txn : Txn = txn_of p.shape (suc (records es)) t (privates_before p.shape t es) (open_block t es ++ Act t request reply woken ∷ []) ending in
      record {
        before = [];
        word = Records txn;
        behind = locks;
        whole = whole;
        quiet_before = tt;
        quiet_behind = quiet;
        is = (subst IsAct (sym is) tt, record { index = index; its = record { request = request; reply = reply; woken = woken; ending = ending; event_is = event; ends = ends; txn_is = refl } });
      }

  word_does : (index : ℕ) (request : Request) → e.input ≡ input.Act index → Does p c (record { client = c; index = index }) request before after_it e es → ClientWord p c e es
  word_does index request is does =
      let t : ThreadId = record { client = c; index = index } in
      let locks : List Up = returns p c after_it (unsent e ∷ es) ++ asks_again p c before after_it (after_it t) (unsent e ∷ es) es in
      word_ends index request does.reply (woken_by request does.reply es) (ending_of (Act t request does.reply (woken_by request does.reply es)) (locks_of t es)) locks is does.event refl
      (said _ does.sends ∙ append_assoc (commits p t (Act t request does.reply (woken_by request does.reply es)) es) (returns p c after_it (unsent e ∷ es)) (asks_again p c before after_it (after_it t) (unsent e ∷ es) es))
      (quiet_append (returns p c after_it (unsent e ∷ es)) (asks_again p c before after_it (after_it t) (unsent e ∷ es) es) quiet_given (quiet_again (after_it t)))

  -- one more quiet message behind the returns
  quiet_ask : (m x : Up) → m ≡ x → IsQuiet x → IsAct e.input → said_of e.sent ≡ returns p c after_it (unsent e ∷ es) ++ m ∷ [] → ClientWord p c e es
  quiet_ask m x same quiet is whole = silent (returns p c after_it (unsent e ∷ es) ++ m ∷ []) whole
      (quiet_append (returns p c after_it (unsent e ∷ es)) (m ∷ []) quiet_given (subst IsQuiet (sym same) quiet, tt)) (by e.input is)
    where
      by : (i : Input) → IsAct i → IsNoFlush i
      by (input.Act index) h = tt
      by other h = absurd h

  word_asks : (need : Need) (m : Up) → IsAct e.input → IsLacking es (Some need) → ask_for need es ≡ Some m → said_of e.sent ≡ returns p c after_it (unsent e ∷ es) ++ m ∷ [] → ClientWord p c e es
  word_asks NeedsId m is lacks ask whole = quiet_ask m up.IdAsk (ask_is (is_batch_asked es) up.IdAsk m ask).0 tt is whole
  word_asks (NeedsObject o) m is lacks ask whole =
      let it = ask_is (is_object_asked o es) (up.Fault o) m ask in
      record {
        before = returns p c after_it (unsent e ∷ es);
        word = AsksFor o;
        behind = [];
        whole = whole ∙ ap (λ m. returns p c after_it (unsent e ∷ es) ++ m ∷ []) it.0;
        quiet_before = quiet_given;
        quiet_behind = tt;
        is = (is, it.1, lacks);
      }
  word_asks (NeedsLease k level) m is lacks ask whole = quiet_ask m (up.Request k level) (ask_is (is_some (leased k es) || is_asked_for k es) (up.Request k level) m ask).0 tt is whole
  word_asks (NeedsClass o) m is lacks ask whole = absurd (cc ask)
  word_asks (NeedsMark k) m is lacks ask whole = absurd (cc ask)
  word_asks (NeedsOthersOut k) m is lacks ask whole = absurd (cc ask)
  word_asks NeedsAck m is lacks ask whole = absurd (cc ask)

  word_or_asks : (index : ℕ) (request : Request) (need : Option Need) → e.input ≡ input.Act index → IsLacking es need → DoesOrAsks p c (record { client = c; index = index }) request need before after_it e es → ClientWord p c e es
  word_or_asks index request None is lacks h = word_does index request is h
  word_or_asks index request (Some need) is lacks h = word_asks need h.message (subst IsAct (sym is) tt) lacks h.asked (said _ h.sends)

  word_acts : (index : ℕ) (request : Option Request) → e.input ≡ input.Act index → ActsOn p c (record { client = c; index = index }) request before after_it e es → ClientWord p c e es
  word_acts index None is h = absurd h
  word_acts index (Some request) is h = word_or_asks index request (unmet p c before (record { client = c; index = index }) request es) is (lacking p c before (record { client = c; index = index }) es request) h

  word_by : (i : Input) → e.input ≡ i → ClientStepOn p c i before after_it e es → ClientWord p c e es
  word_by (input.Act index) is h = word_acts index (before (record { client = c; index = index })) is h.acts
  word_by (input.TookDown m) is h = silent (returns p c after_it (unsent e ∷ es)) (said (returns p c after_it (unsent e ∷ es)) h.sends) quiet_given (subst IsNoFlush (sym is) tt)
  word_by (input.Flush o) is h = record {
    before = [];
    word = Flushes o;
    behind = [];
    whole = said (up.Flushed o ∷ []) h.sends;
    quiet_before = tt;
    quiet_behind = tt;
    is = (is, (both (is_resident o es) _ h.may.flushable).0);
  }
  word_by (input.Rejoin d) is h = silent [] (said [] h.sends) tt (subst IsNoFlush (sym is) tt)
  word_by other is h = absurd h

  -- What the client's entry says.
  pub client_word : ClientStep p c before after_it e es → ClientWord p c e es
  client_word h = word_by e.input refl h
