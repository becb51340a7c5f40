-- In a run what is changed is resident, until the change is acknowledged.
use Rattle.std.specs.List.{list_any}
use Rattle.std.proofs.Common.{ℕ, ◌≡◌, ◌⊎◌, inl, inr, refl, sym, ◌∙◌, ap, subst, suc, Bool, true, false, cond, not, eqb, ◌||◌, is_some, Option, Some, None, List, [], ◌∷◌, ◌++◌, map, drop}
use Rattle.std.proofs.lemmas.List.Folds.{list_any-append}
use Rattle.dso_base.specs.declared.journal.Entry.{Entry}
use Rattle.dso_base.specs.declared.journal.Input.{Input}
use Rattle.dso_base.specs.declared.journal.Input.TheVariants as input
use Rattle.dso_base.specs.declared.journal.Sent.TheVariants.{ToServer}
use Rattle.dso_base.specs.declared.lock.ThreadId.{ThreadId}
use Rattle.dso_base.specs.declared.message.Down.{Down}
use Rattle.dso_base.specs.declared.message.Down.TheVariants as down
use Rattle.dso_base.specs.declared.message.Up.{Up}
use Rattle.dso_base.specs.declared.message.Up.TheVariants as up
use Rattle.dso_base.specs.declared.record.Ending.{Ending}
use Rattle.dso_base.specs.declared.record.Txn.{Txn}
use Rattle.dso_base.specs.declared.request.Event.{Event}
use Rattle.dso_base.specs.declared.request.Event.TheVariants.{Act}
use Rattle.dso_base.specs.declared.request.Reply.{Reply}
use Rattle.dso_base.specs.declared.request.Request.{Request}
use Rattle.dso_base.specs.Block.{start, txn_of}
use Rattle.dso_plain.proofs.keys.SameKeys.{same_number}
use Rattle.dso_lookup.proofs.Tests.{both}
use Rattle.dso_law.specs.Settings.{Settings}
use Rattle.dso_law.specs.Entries.{by_taken_down, by_sent_up}
use Rattle.dso_law.specs.Threads.{locks_of, ending_of, open_block, privates_before, work_of}
use Rattle.dso_law.specs.Copies.{is_among, resident_by_taken, resident_by_sent, unless_flushed, is_resident, is_object_asked}
use Rattle.dso_law.specs.Leases.{leased, is_asked_for}
use Rattle.dso_law.specs.Records.{records, is_batch_asked, unacked, unacked_by_taken, unacked_by_sent}
use Rattle.dso_law.specs.RequestNeeds.{Need, NeedsId, NeedsObject, NeedsClass, NeedsMark, NeedsLease, NeedsOthersOut, NeedsAck, unless_asked, unmet, ask_for}
use Rattle.dso_law.specs.Replies.{woken_by}
use Rattle.dso_law.specs.ClientStep.{record_of, changes_object, is_flushable, DoesOrAsks, ActsOn, ClientStepOn}
use Rattle.dso_law.specs.ClientRun.{ClientRun, next_in}
use Rattle.dso_law.proofs.runs.Said.{LeavesLocks, said_does, said_asks, said_taken}
use Rattle.dso_legal.specs.Residency.{is_set}
use Rattle.dso_legal.specs.Runs.{ChangesStayResident}
use Rattle.dso_legal.proofs.leases.LeaseSteps.{no_both}
use Rattle.dso_legal.proofs.objects.OwnObjects.{worked_more}
use Rattle.dso_legal.proofs.objects.SetsResident.{IsOtherInput, AllHeld, held_step, start_held, stays, not_true}
use Rattle.dso_legal.proofs.records.FreshNews.{ending_leaves}

-- one of two tests holds
either : (a b : Bool) → (a || b) ≡ true → (a ≡ true) ⊎ (b ≡ true)
either true b is = inl refl
either false b is = inr is

-- what open blocks set is resident
sets_held : (o : ℕ) (p : Settings) (c : ℕ) (next : ThreadId → List Event → Option Request) (es : List Entry) → ClientRun p c next es → AllHeld o p c es
sets_held o p c next [] run = start_held o p c next
sets_held o p c next (e ∷ es) run = held_step o p c e es (sets_held o p c next es run.0) (next_in next es) (next_in next (e ∷ es)) e.input refl run.1

-- messages of locks are no records
unacked_leaves : LeavesLocks unacked_by_sent
unacked_leaves = record { request = λ l level s. refl; return_of = λ l threads s. refl }

resident_leaves : (o : ℕ) → LeavesLocks (resident_by_sent o)
resident_leaves o = record { request = λ l level s. refl; return_of = λ l threads s. refl }

-- what is asked leaves the records that wait
module _ (txns : List Txn) where
  left_if : (b : Bool) (x m : Up) → unacked_by_sent x txns ≡ txns → unless_asked b x ≡ Some m → unacked_by_sent m txns ≡ txns
  left_if true x m left asked = absurd (cc asked)
  left_if false x m left asked = let same : x ≡ m = cc asked in subst (λ m. unacked_by_sent m txns ≡ txns) same left

  ask_left : (need : Need) (es : List Entry) (m : Up) → ask_for need es ≡ Some m → unacked_by_sent m txns ≡ txns
  ask_left NeedsId es m asked = left_if (is_batch_asked es) up.IdAsk m refl asked
  ask_left (NeedsObject o) es m asked = left_if (is_object_asked o es) (up.Fault o) m refl asked
  ask_left (NeedsLease l level) es m asked = left_if (is_some (leased l es) || is_asked_for l es) (up.Request l level) m refl asked
  ask_left (NeedsClass o) es m asked = absurd (cc asked)
  ask_left (NeedsMark l) es m asked = absurd (cc asked)
  ask_left (NeedsOthersOut l) es m asked = absurd (cc asked)
  ask_left NeedsAck es m asked = absurd (cc asked)

module _ (o : ℕ) (p : Settings) (c : ℕ) (before later : ThreadId → Option Request) (e : Entry) (es : List Entry) (held : AllHeld o p c es)
    (h : list_any (changes_object o) (unacked es) ≡ true → is_resident o es ≡ true) where
  -- after the entry
  abbrev After : Type 0
  After = list_any (changes_object o) (unacked (e ∷ es)) ≡ true → is_resident o (e ∷ es) ≡ true

  -- the records that wait are some of those before, and the entry drops nothing
  fewer : IsOtherInput o e.input → (list_any (changes_object o) (unacked (e ∷ es)) ≡ true → list_any (changes_object o) (unacked es) ≡ true) → After
  fewer other some is = stays o e es other (h (some is))

  same_left : IsOtherInput o e.input → unacked (e ∷ es) ≡ unacked es → After
  same_left other same = fewer other (λ is. ap (list_any (changes_object o)) (sym same) ∙ is)

  module _ (index : ℕ) (t : ThreadId) (request : Request) (reply : Reply) (is : e.input ≡ input.Act index) where
    abbrev event : Event
    event = Act t request reply (woken_by request reply es)

    -- the record
    abbrev record_ended : Ending → Txn
    record_ended ending = txn_of p.shape (suc (records es)) t (privates_before p.shape t es) (open_block t es ++ event ∷ []) ending

    -- it sets what the open block set
    same_sets : (ending : Ending) → ending_of event (locks_of t es) ≡ Some ending → (record_ended ending).sets ≡ (work_of p.shape t es).sets
    same_sets ending ends = ap (λ work. work.sets) (worked_more p.shape (open_block t es) event (start (privates_before p.shape t es)))
        ∙ ap (λ work. work.sets) (ending_leaves p.shape request reply (woken_by request reply es) (locks_of t es) ending (work_of p.shape t es) ends)

    -- what it publishes is resident with it
    news_here : (ending : Ending) → by_sent_up (resident_by_sent o) e.sent (is_resident o es) ≡ cond (is_among o (record_ended ending).news) true (is_resident o es)
        → is_among o (record_ended ending).news ≡ true → is_resident o (e ∷ es) ≡ true
    news_here ending said among = ap (λ i. unless_flushed o i (by_sent_up (resident_by_sent o) e.sent (by_taken_down (resident_by_taken o) i (is_resident o es)))) is
        ∙ said ∙ ap (λ b. cond b true (is_resident o es)) among

    -- an entry that does what was requested
    ended_by : (ending : Option Ending) → ending_of event (locks_of t es) ≡ ending → by_sent_up unacked_by_sent e.sent (unacked es) ≡ by_sent_up unacked_by_sent (map ToServer (record_of p t event ending es)) (unacked es)
        → by_sent_up (resident_by_sent o) e.sent (is_resident o es) ≡ by_sent_up (resident_by_sent o) (map ToServer (record_of p t event ending es)) (is_resident o es) → After
    ended_by None ends same_unacked same_resident = same_left (subst (IsOtherInput o) (sym is) tt)
        (ap (λ i. by_sent_up unacked_by_sent e.sent (by_taken_down unacked_by_taken i (unacked es))) is ∙ same_unacked)
    ended_by (Some ending) ends same_unacked same_resident = λ changes.
        let all : unacked (e ∷ es) ≡ unacked es ++ record_ended ending ∷ [] = ap (λ i. by_sent_up unacked_by_sent e.sent (by_taken_down unacked_by_taken i (unacked es))) is ∙ same_unacked in
        let parts : (list_any (changes_object o) (unacked es) || (changes_object o (record_ended ending) || false)) ≡ true =
        sym (ap (list_any (changes_object o)) all ∙ list_any-append (changes_object o) (unacked es) (record_ended ending ∷ [])) ∙ changes in
        old_or_new (either (list_any (changes_object o) (unacked es)) (changes_object o (record_ended ending) || false) parts)
      where
        none_else : (b : Bool) → (b || false) ≡ true → b ≡ true
        none_else true is = refl
        none_else false is = absurd (cc is)

        by_part : (is_among o (record_ended ending).news ≡ true) ⊎ (list_any (λ set. eqb set.object o) (record_ended ending).sets ≡ true) → is_resident o (e ∷ es) ≡ true
        by_part (inl news) = news_here ending same_resident news
        by_part (inr sets) = stays o e es (subst (IsOtherInput o) (sym is) tt) ((held t).there (sym (ap (is_set o) (same_sets ending ends)) ∙ sets))

        old_or_new : (list_any (changes_object o) (unacked es) ≡ true) ⊎ ((changes_object o (record_ended ending) || false) ≡ true) → is_resident o (e ∷ es) ≡ true
        old_or_new (inl old) = stays o e es (subst (IsOtherInput o) (sym is) tt) (h old)
        old_or_new (inr new) = by_part (either (is_among o (record_ended ending).news) (list_any (λ set. eqb set.object o) (record_ended ending).sets) (none_else (changes_object o (record_ended ending)) new))

  by_need : (index : ℕ) (t : ThreadId) (request : Request) (need : Option Need) → e.input ≡ input.Act index → DoesOrAsks p c t request need before later e es → After
  by_need index t request None is does = ended_by index t request does.reply is (ending_of (Act t request does.reply (woken_by request does.reply es)) (locks_of t es)) refl
      (said_does unacked_by_sent unacked_leaves p c before later e es t request does (unacked es)) (said_does (resident_by_sent o) (resident_leaves o) p c before later e es t request does (is_resident o es))
  by_need index t request (Some need) is asks = same_left (subst (IsOtherInput o) (sym is) tt) (ap (λ i. by_sent_up unacked_by_sent e.sent (by_taken_down unacked_by_taken i (unacked es))) is
      ∙ said_asks unacked_by_sent unacked_leaves p c before later e es need asks (unacked es) ∙ ask_left (unacked es) need es asks.message asks.asked)

  by_request : (index : ℕ) (t : ThreadId) (request : Option Request) → e.input ≡ input.Act index → ActsOn p c t request before later e es → After
  by_request index t None is step = absurd step
  by_request index t (Some request) is step = by_need index t request (unmet p c before t request es) is step

  -- an acknowledgement takes the first record out
  some_left : (m : Down) → list_any (changes_object o) (unacked_by_taken m (unacked es)) ≡ true → list_any (changes_object o) (unacked es) ≡ true
  some_left (down.Ack seq) changes = behind (unacked es) changes
    where
      behind : (txns : List Txn) → list_any (changes_object o) (drop 1 txns) ≡ true → list_any (changes_object o) txns ≡ true
      behind [] changes = absurd (cc changes)
      behind (txn ∷ txns) changes = ap (λ b. changes_object o txn || b) changes ∙ or_true (changes_object o txn)
        where
          or_true : (b : Bool) → (b || true) ≡ true
          or_true true = refl
          or_true false = refl
  some_left m changes = changes

  -- a flush is of no object with a change
  unchanged : (x : ℕ) → is_flushable p c x es ≡ true → list_any (changes_object o) (unacked es) ≡ true → eqb x o ≡ false
  unchanged x flushable changes = by (eqb x o) refl
    where
      no_change : list_any (changes_object x) (unacked es) ≡ false
      no_change = not_true (list_any (changes_object x) (unacked es)) (both (not (list_any (changes_object x) (unacked es))) _ (both (is_resident x es) _ flushable).1).0

      by : (b : Bool) → eqb x o ≡ b → b ≡ false
      by true same = no_both (list_any (changes_object o) (unacked es)) changes (subst (λ n. list_any (changes_object n) (unacked es) ≡ false) (same_number x o same) no_change)
      by false other = refl

  by_input : (i : Input) → e.input ≡ i → ClientStepOn p c i before later e es → After
  by_input (input.Act index) is step = by_request index (record { client = c; index = index }) (before (record { client = c; index = index })) is step.acts
  by_input (input.TookDown m) is step = fewer (subst (IsOtherInput o) (sym is) tt)
      (λ changes. some_left m (sym (ap (list_any (changes_object o)) (ap (λ i. by_sent_up unacked_by_sent e.sent (by_taken_down unacked_by_taken i (unacked es))) is
      ∙ said_taken unacked_by_sent unacked_leaves p c before later e es step.sends (unacked_by_taken m (unacked es)))) ∙ changes))
  by_input (input.Flush x) is step = λ changes.
      let same : unacked (e ∷ es) ≡ unacked es = ap (λ i. by_sent_up unacked_by_sent e.sent (by_taken_down unacked_by_taken i (unacked es))) is ∙ ap (λ out. by_sent_up unacked_by_sent out (unacked es)) step.sends in
      let before_it = sym (ap (list_any (changes_object o)) same) ∙ changes in
      stays o e es (subst (IsOtherInput o) (sym is) (unchanged x step.may.flushable before_it)) (h before_it)
  by_input (input.Rejoin d) is step = same_left (subst (IsOtherInput o) (sym is) tt)
      (ap (λ i. by_sent_up unacked_by_sent e.sent (by_taken_down unacked_by_taken i (unacked es))) is ∙ ap (λ out. by_sent_up unacked_by_sent out (unacked es)) step.sends)
  by_input i is step = absurd step

changes_here : (o : ℕ) (p : Settings) (c : ℕ) (next : ThreadId → List Event → Option Request) (es : List Entry) → ClientRun p c next es → list_any (changes_object o) (unacked es) ≡ true → is_resident o es ≡ true
changes_here o p c next [] run = λ never. absurd (cc never)
changes_here o p c next (e ∷ es) run = by_input o p c (next_in next es) (next_in next (e ∷ es)) e es (sets_held o p c next es run.0) (changes_here o p c next es run.0) e.input refl run.1

pub changes_stay_resident : ChangesStayResident
changes_stay_resident p c next es run = record {
  in_block = λ t o. (sets_held o p c next es run t).there;
  unacknowledged = λ o. changes_here o p c next es run;
}
