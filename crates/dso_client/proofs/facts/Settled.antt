-- A thread is settled where its last record is acknowledged.
use Rattle.std.specs.List.{list_any}
use Rattle.std.specs.Option.{option_map_or}
use Rattle.std.proofs.Common.{◌≡◌, ℕ, suc, ◌≤◌, ◌<◌, refl, sym, ◌∙◌, ap, subst, arith, Bool, true, false, cond, not, eqb, ◌||◌, is_some, Option, Some, None, List, [], ◌∷◌, ◌++◌, map, drop}
use Rattle.std.proofs.lemmas.Bool.{eqb-true, eq-eqb, ne_eqb}
use Rattle.std.proofs.lemmas.List.Folds.{list_any-append}
use Rattle.dso_base.specs.declared.journal.Entry.{Entry}
use Rattle.dso_base.specs.declared.journal.Input.{Input}
use Rattle.dso_base.specs.declared.journal.Input.TheVariants as input
use Rattle.dso_base.specs.declared.journal.Sent.TheVariants.{ToServer}
use Rattle.dso_base.specs.declared.lock.ThreadId.{ThreadId}
use Rattle.dso_base.specs.declared.message.Down.{Down}
use Rattle.dso_base.specs.declared.message.Down.TheVariants as down
use Rattle.dso_base.specs.declared.message.Up.{Up}
use Rattle.dso_base.specs.declared.message.Up.TheVariants as up
use Rattle.dso_base.specs.declared.record.Ending.{Ending}
use Rattle.dso_base.specs.declared.record.Txn.{Txn}
use Rattle.dso_base.specs.declared.request.Event.{Event}
use Rattle.dso_base.specs.declared.request.Event.TheVariants.{Act}
use Rattle.dso_base.specs.declared.request.Request.{Request}
use Rattle.dso_base.specs.Following.{is_thread}
use Rattle.dso_law.specs.Settings.{Settings}
use Rattle.dso_law.specs.Entries.{by_taken_down, by_sent_up}
use Rattle.dso_law.specs.Threads.{or_else, locks_of, ending_of}
use Rattle.dso_law.specs.Copies.{is_object_asked}
use Rattle.dso_law.specs.Leases.{leased, is_asked_for}
use Rattle.dso_law.specs.Records.{is_batch_asked, records, records_by_sent, unacked, unacked_by_taken, unacked_by_sent, is_settled}
use Rattle.dso_law.specs.RequestNeeds.{Need, NeedsId, NeedsObject, NeedsClass, NeedsMark, NeedsLease, NeedsOthersOut, NeedsAck, unless_asked, unmet, ask_for}
use Rattle.dso_law.specs.Replies.{woken_by}
use Rattle.dso_law.specs.FitsDown.{FitsAck, FitsDown}
use Rattle.dso_law.specs.ClientStep.{record_of, DoesOrAsks, ActsOn, ClientStepOn}
use Rattle.dso_law.specs.ClientRun.{ClientRun, next_in}
use Rattle.dso_law.specs.RunLaws.{NumberedFrom, AreNumbered}
use Rattle.dso_law.proofs.runs.Numbers.{records_are_numbered}
use Rattle.dso_law.proofs.runs.Said.{LeavesLocks, said_does, said_asks, said_taken}
use Rattle.dso_client.specs.ContextStands.{last_by_sent, last_record}
use Rattle.dso_client.proofs.lock_standing.FirstAcked.{among}

-- each number is over the one before the first
over : (k : ℕ) (txns : List Txn) (n : ℕ) → NumberedFrom k txns → among txns n ≡ true → k < n
over k [] n h e = absurd (cc e)
over k (txn ∷ txns) n h e = by (eqb txn.seq n) refl e (over (suc k) txns n h.1)
  where
    by : (b : Bool) → eqb txn.seq n ≡ b → (b || among txns n) ≡ true → (among txns n ≡ true → suc k < n) → k < n
    by true is e rest =
        let same = eqb-true txn.seq n is in
        let first = h.0 in
        omega (arith, same, first)
    by false is e rest =
        let more = rest e in
        omega (arith, more)

-- none of those behind the first has its number
not_behind : (k : ℕ) (txn : Txn) (txns : List Txn) → NumberedFrom k (txn ∷ txns) → among txns txn.seq ≡ false
not_behind k txn txns h = by (among txns txn.seq) refl
  where
    by : (b : Bool) → among txns txn.seq ≡ b → b ≡ false
    by false e = refl
    by true e =
        let more = over (suc k) txns txn.seq h.1 e in
        let first = h.0 in
        absurd (omega (arith, more, first))

left_out : (a b : Bool) → (a || b) ≡ false → b ≡ false
left_out true b e = absurd (cc e)
left_out false b e = e

module _ (t : ThreadId) where
  -- the number of the thread's last record among these
  abbrev latest : List Txn → Option ℕ
  latest [] = None
  latest (txn ∷ txns) = or_else (latest txns) (cond (is_thread t txn.thread) (Some txn.seq) None)

  latest_more : (txns : List Txn) (txn : Txn) → latest (txns ++ txn ∷ []) ≡ cond (is_thread t txn.thread) (Some txn.seq) (latest txns)
  latest_more [] txn = refl
  latest_more (first ∷ txns) txn = ap (λ last. or_else last (cond (is_thread t first.thread) (Some first.seq) None)) (latest_more txns txn) ∙ by (is_thread t txn.thread)
    where
      by : (b : Bool) → or_else (cond b (Some txn.seq) (latest txns)) (cond (is_thread t first.thread) (Some first.seq) None)
          ≡ cond b (Some txn.seq) (or_else (latest txns) (cond (is_thread t first.thread) (Some first.seq) None))
      by true = refl
      by false = refl

  there_is : (txns : List Txn) → is_some (latest txns) ≡ list_any (λ txn. is_thread t txn.thread) txns
  there_is [] = refl
  there_is (txn ∷ txns) = by (latest txns) (is_thread t txn.thread) (there_is txns)
    where
      by : (last : Option ℕ) (b : Bool) → is_some last ≡ list_any (λ txn. is_thread t txn.thread) txns → is_some (or_else last (cond b (Some txn.seq) None)) ≡ (b || list_any (λ txn. is_thread t txn.thread) txns)
      by (Some n) true rest = refl
      by (Some n) false rest = rest
      by None true rest = refl
      by None false rest = rest

  latest_among : (txns : List Txn) (n : ℕ) → latest txns ≡ Some n → among txns n ≡ true
  latest_among [] n e = absurd (cc e)
  latest_among (txn ∷ txns) n e = by (latest txns) refl (is_thread t txn.thread) e (latest_among txns n)
    where
      by : (last : Option ℕ) → latest txns ≡ last → (b : Bool) → or_else last (cond b (Some txn.seq) None) ≡ Some n → (latest txns ≡ Some n → among txns n ≡ true) → (eqb txn.seq n || among txns n) ≡ true
      by (Some m) is b e rest = either (eqb txn.seq n) (among txns n) (rest (is ∙ e))
        where
          either : (a b : Bool) → b ≡ true → (a || b) ≡ true
          either true b h = refl
          either false b h = h
      by None is true e rest = ap (λ b. b || among txns n) (eq-eqb txn.seq n (cc e))
      by None is false e rest = absurd (cc e)

  -- What the last record of the thread tells of those that aren't acknowledged, the latest of all having number n.
  record Tells (txns : List Txn) (last : Option ℕ) (n : ℕ) : Type 0 where
    known : (m : ℕ) → latest txns ≡ Some m → last ≡ Some m
    gone : latest txns ≡ None → (m : ℕ) → last ≡ Some m → among txns m ≡ false
    most : (m : ℕ) → last ≡ Some m → m ≤ n

  -- it tells whether the thread is settled
  told : (txns : List Txn) (last : Option ℕ) (n : ℕ) → Tells txns last n → not (list_any (λ txn. is_thread t txn.thread) txns) ≡ not (option_map_or (among txns) last false)
  told txns last n h = ap not (sym (there_is txns) ∙ by (latest txns) refl last refl)
    where
      by : (late : Option ℕ) → latest txns ≡ late → (kept : Option ℕ) → last ≡ kept → is_some late ≡ option_map_or (among txns) kept false
      by (Some m) e (Some k) is =
          let same : k ≡ m = cc (sym is ∙ h.known m e) in
          sym (ap (among txns) same ∙ latest_among txns m e)
      by (Some m) e None is = absurd (cc (sym is ∙ h.known m e))
      by None e (Some k) is = sym (h.gone e k is)
      by None e None is = refl

  -- ---- a record more

  recorded : (txns : List Txn) (last : Option ℕ) (n : ℕ) (txn : Txn) → txn.seq ≡ suc n → Tells txns last n → Tells (txns ++ txn ∷ []) (last_by_sent t (up.Commit txn) last) (suc n)
  recorded txns last n txn is h = by (is_thread t txn.thread) refl
    where
      by : (b : Bool) → is_thread t txn.thread ≡ b → Tells (txns ++ txn ∷ []) (cond b (Some txn.seq) last) (suc n)
      by true its = record {
        known = λ m e. sym (ap (λ b. cond b (Some txn.seq) (latest txns)) its) ∙ (sym (latest_more txns txn) ∙ e);
        gone = λ e m same. absurd (cc (sym (ap (λ b. cond b (Some txn.seq) (latest txns)) its) ∙ (sym (latest_more txns txn) ∙ e)));
        most = λ m e. let same : txn.seq ≡ m = cc e in omega (arith, same, is);
      }
      by false its =
          let late : latest (txns ++ txn ∷ []) ≡ latest txns = latest_more txns txn ∙ ap (λ b. cond b (Some txn.seq) (latest txns)) its in
          record {
            known = λ m e. h.known m (sym late ∙ e);
            gone = λ e m same.
                let few = h.most m same in
                list_any-append (λ txn. eqb txn.seq m) txns (txn ∷ []) ∙ (ap (λ b. b || (eqb txn.seq m || false)) (h.gone (sym late ∙ e) m same)
                ∙ ap (λ b. b || false) (ne_eqb txn.seq m (λ it. omega (arith, it, is, few))));
            most = λ m e. let few = h.most m e in omega (arith, few);
          }

  -- ---- an acknowledgement of the first

  acked : (txn : Txn) (txns : List Txn) (k : ℕ) (last : Option ℕ) (n : ℕ) → NumberedFrom k (txn ∷ txns) → Tells (txn ∷ txns) last n → Tells txns last n
  acked txn txns k last n rise h = record {
    known = λ m e. h.known m (ap (λ late. or_else late (cond (is_thread t txn.thread) (Some txn.seq) None)) e);
    gone = λ e m same. by e m same (is_thread t txn.thread) refl;
    most = h.most;
  }
    where
      by : latest txns ≡ None → (m : ℕ) → last ≡ Some m → (b : Bool) → is_thread t txn.thread ≡ b → among txns m ≡ false
      by e m same true its =
          let first : latest (txn ∷ txns) ≡ Some txn.seq = ap (λ late. or_else late (cond (is_thread t txn.thread) (Some txn.seq) None)) e ∙ ap (λ b. cond b (Some txn.seq) None) its in
          let it : m ≡ txn.seq = cc (sym same ∙ h.known txn.seq first) in
          ap (among txns) it ∙ not_behind k txn txns rise
      by e m same false its =
          let none : latest (txn ∷ txns) ≡ None = ap (λ late. or_else late (cond (is_thread t txn.thread) (Some txn.seq) None)) e ∙ ap (λ b. cond b (Some txn.seq) None) its in
          left_out (eqb txn.seq m) (among txns m) (h.gone none m same)

  -- ---- an entry

  unacked_leaves : LeavesLocks unacked_by_sent
  unacked_leaves = record { request = λ l level s. refl; return_of = λ l threads s. refl }

  records_leave : LeavesLocks records_by_sent
  records_leave = record { request = λ l level s. refl; return_of = λ l threads s. refl }

  last_leaves : LeavesLocks (last_by_sent t)
  last_leaves = record { request = λ l level s. refl; return_of = λ l threads s. refl }

  abbrev TellsOf : List Entry → Type 0
  TellsOf es = Tells (unacked es) (last_record t es) (records es)

  as_told : (txns txns' : List Txn) (last last' : Option ℕ) (n n' : ℕ) → txns' ≡ txns → last' ≡ last → n' ≡ n → Tells txns last n → Tells txns' last' n'
  as_told txns txns' last last' n n' a b d h = subst (λ x. Tells x last' n') (sym a) (subst (λ x. Tells txns x n') (sym b) (subst (Tells txns last) (sym d) h))

  record_tells : (p : Settings) (u : ThreadId) (event : Event) (ending : Option Ending) (es : List Entry) → TellsOf es
      → Tells (by_sent_up unacked_by_sent (map ToServer (record_of p u event ending es)) (unacked es)) (by_sent_up (last_by_sent t) (map ToServer (record_of p u event ending es)) (last_record t es))
      (by_sent_up records_by_sent (map ToServer (record_of p u event ending es)) (records es))
  record_tells p u event None es h = h
  record_tells p u event (Some ending) es h = recorded (unacked es) (last_record t es) (records es) _ refl h

  -- what is asked is no record
  module _ (txns : List Txn) (last : Option ℕ) (n : ℕ) where
    abbrev LeftBy : Up → Type 0
    LeftBy m = (unacked_by_sent m txns ≡ txns) × (last_by_sent t m last ≡ last) × (records_by_sent m n ≡ n)

    left_if : (b : Bool) (x m : Up) → LeftBy x → unless_asked b x ≡ Some m → LeftBy m
    left_if true x m left asked = absurd (cc asked)
    left_if false x m left asked = let same : x ≡ m = cc asked in subst LeftBy same left

    ask_left : (need : Need) (es : List Entry) (m : Up) → ask_for need es ≡ Some m → LeftBy m
    ask_left NeedsId es m asked = left_if (is_batch_asked es) up.IdAsk m (refl, refl, refl) asked
    ask_left (NeedsObject o) es m asked = left_if (is_object_asked o es) (up.Fault o) m (refl, refl, refl) asked
    ask_left (NeedsLease l level) es m asked = left_if (is_some (leased l es) || is_asked_for l es) (up.Request l level) m (refl, refl, refl) asked
    ask_left (NeedsClass o) es m asked = absurd (cc asked)
    ask_left (NeedsMark l) es m asked = absurd (cc asked)
    ask_left (NeedsOthersOut l) es m asked = absurd (cc asked)
    ask_left NeedsAck es m asked = absurd (cc asked)

  module _ (p : Settings) (c : ℕ) (before later : ThreadId → Option Request) (e : Entry) (es : List Entry) where
    abbrev After : Input → Type 0
    After i = Tells (by_sent_up unacked_by_sent e.sent (by_taken_down unacked_by_taken i (unacked es))) (by_sent_up (last_by_sent t) e.sent (last_record t es)) (by_sent_up records_by_sent e.sent (records es))

    by_need : (index : ℕ) (u : ThreadId) (request : Request) (need : Option Need) → DoesOrAsks p c u request need before later e es → TellsOf es → After (input.Act index)
    by_need index u request None does h = as_told _ _ _ _ _ _
        (said_does unacked_by_sent unacked_leaves p c before later e es u request does (unacked es))
        (said_does (last_by_sent t) last_leaves p c before later e es u request does (last_record t es))
        (said_does records_by_sent records_leave p c before later e es u request does (records es))
        (record_tells p u (Act u request does.reply (woken_by request does.reply es)) (ending_of (Act u request does.reply (woken_by request does.reply es)) (locks_of u es)) es h)
    by_need index u request (Some need) asks h =
        let left = ask_left (unacked es) (last_record t es) (records es) need es asks.message asks.asked in
        as_told (unacked es) _ (last_record t es) _ (records es) _
        (said_asks unacked_by_sent unacked_leaves p c before later e es need asks (unacked es) ∙ left.0)
        (said_asks (last_by_sent t) last_leaves p c before later e es need asks (last_record t es) ∙ left.1)
        (said_asks records_by_sent records_leave p c before later e es need asks (records es) ∙ left.2) h

    by_request : (index : ℕ) (u : ThreadId) (request : Option Request) → ActsOn p c u request before later e es → TellsOf es → After (input.Act index)
    by_request index u None step h = absurd step
    by_request index u (Some request) step h = by_need index u request (unmet p c before u request es) step h

    ack_tells : (seq : ℕ) (txns : List Txn) (n : ℕ) (last : Option ℕ) → FitsAck seq txns → AreNumbered txns n → Tells txns last n → Tells (drop 1 txns) last n
    ack_tells seq [] n last fits numbered h = absurd fits
    ack_tells seq (txn ∷ txns) n last fits numbered h = acked txn txns numbered.acked last n numbered.numbers h

    taken_tells : (m : Down) → FitsDown p c m es → AreNumbered (unacked es) (records es) → TellsOf es → Tells (unacked_by_taken m (unacked es)) (last_record t es) (records es)
    taken_tells (down.Ack seq) fits numbered h = ack_tells seq (unacked es) (records es) (last_record t es) fits numbered h
    taken_tells m fits numbered h = h

    by_input : (i : Input) → ClientStepOn p c i before later e es → AreNumbered (unacked es) (records es) → TellsOf es → After i
    by_input (input.Act index) step numbered h = by_request index (record { client = c; index = index }) (before (record { client = c; index = index })) step.acts h
    by_input (input.TookDown m) step numbered h = as_told _ _ _ _ _ _
        (said_taken unacked_by_sent unacked_leaves p c before later e es step.sends (unacked_by_taken m (unacked es)))
        (said_taken (last_by_sent t) last_leaves p c before later e es step.sends (last_record t es))
        (said_taken records_by_sent records_leave p c before later e es step.sends (records es)) (taken_tells m step.fits numbered h)
    by_input (input.Flush o) step numbered h = as_told (unacked es) _ (last_record t es) _ (records es) _
        (ap (λ out. by_sent_up unacked_by_sent out (unacked es)) step.sends) (ap (λ out. by_sent_up (last_by_sent t) out (last_record t es)) step.sends)
        (ap (λ out. by_sent_up records_by_sent out (records es)) step.sends) h
    by_input (input.Rejoin d) step numbered h = as_told (unacked es) _ (last_record t es) _ (records es) _
        (ap (λ out. by_sent_up unacked_by_sent out (unacked es)) step.sends) (ap (λ out. by_sent_up (last_by_sent t) out (last_record t es)) step.sends)
        (ap (λ out. by_sent_up records_by_sent out (records es)) step.sends) h
    by_input i step numbered h = absurd step

  tells_all : (p : Settings) (c : ℕ) (next : ThreadId → List Event → Option Request) (es : List Entry) → ClientRun p c next es → TellsOf es
  tells_all p c next [] run = record { known = λ m e. absurd (cc e); gone = λ e m same. refl; most = λ m e. absurd (cc e) }
  tells_all p c next (e ∷ es) run = by_input p c (next_in next es) (next_in next (e ∷ es)) e es e.input run.1 (records_are_numbered p c next es run.0) (tells_all p c next es run.0)

-- In a run a thread is settled where its last record isn't among those that aren't acknowledged.
pub settled_by_last : (p : Settings) (c : ℕ) (next : ThreadId → List Event → Option Request) (es : List Entry) → ClientRun p c next es → (t : ThreadId)
    → is_settled t es ≡ not (option_map_or (λ n. list_any (λ txn. eqb txn.seq n) (unacked es)) (last_record t es) false)
settled_by_last p c next es run t = told t (unacked es) (last_record t es) (records es) (tells_all t p c next es run)
