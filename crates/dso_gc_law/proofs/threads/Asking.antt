-- What a client's act says names only what the event names, what was in hand, and what the thread's next requests name.
use Rattle.std.specs.List.{list_any}
use Rattle.std.specs.Option.{option_map_or}
use Rattle.std.proofs.Common.{ℕ, suc, ◌≡◌, sym, subst, Bool, true, false, cond, not, eqb, ◌&&◌, ◌||◌, is_some}
use Rattle.std.proofs.Common.{Option, Some, None, List, [], ◌∷◌, ◌++◌}
use Rattle.dso_base.specs.declared.journal.Entry.{Entry}
use Rattle.dso_base.specs.declared.lock.Level.{Level}
use Rattle.dso_base.specs.declared.lock.Level.TheVariants.{Write}
use Rattle.dso_base.specs.declared.lock.LockName.{LockName}
use Rattle.dso_base.specs.declared.lock.ThreadId.{ThreadId}
use Rattle.dso_base.specs.declared.message.Up.{Up}
use Rattle.dso_base.specs.declared.message.Up.TheVariants as up
use Rattle.dso_base.specs.declared.record.Body.{Body}
use Rattle.dso_base.specs.declared.record.Ending.{Ending}
use Rattle.dso_base.specs.declared.request.Event.{Event}
use Rattle.dso_base.specs.declared.request.Event.TheVariants.{Act}
use Rattle.dso_base.specs.declared.request.Reply.{Reply}
use Rattle.dso_base.specs.declared.request.Reply.TheVariants.{Done}
use Rattle.dso_base.specs.declared.request.Request.{Request}
use Rattle.dso_base.specs.declared.request.Request.TheVariants.{New, Look, Get, Put, Enter, Exit, Wait, Timeout}
use Rattle.dso_base.specs.declared.request.Request.TheVariants.{Resume, End, Settle}
use Rattle.dso_base.specs.Block.{Work, start, work_after, worked, has_reference, txn_of}
use Rattle.dso_base.specs.Naming.{lock_names, body_with_names, set_names, note_names, ending_names, request_names}
use Rattle.dso_base.specs.Naming.{work_names, record_names, up_names}
use Rattle.dso_plain.specs.After.{exited}
use Rattle.dso_plain.specs.KeyTests.{is_lock}
use Rattle.dso_plain.specs.State.{Hold}
use Rattle.dso_law.specs.Settings.{Settings, threads_of}
use Rattle.dso_law.specs.ClientStep.{asks_again, commits, record_of}
use Rattle.dso_law.specs.ClientWaiters.{is_marked}
use Rattle.dso_law.specs.Closing.{admits, is_closing, due}
use Rattle.dso_law.specs.Copies.{class_held, is_object_asked, is_resident}
use Rattle.dso_law.specs.Leases.{is_asked_for, leased}
use Rattle.dso_law.specs.Records.{is_batch_asked, is_settled, next_id, records}
use Rattle.dso_law.specs.RequestNeeds.{Need, NeedsId, NeedsObject, NeedsClass, NeedsMark, NeedsLease, NeedsOthersOut}
use Rattle.dso_law.specs.RequestNeeds.{NeedsAck, access_need, ask_for, entry_need, first_unmet, is_enough}
use Rattle.dso_law.specs.RequestNeeds.{is_in_conflict, is_seen_class, look_need, unless, unless_asked, unmet}
use Rattle.dso_law.specs.Threads.{Locks, ending_by, exit_ending, hold_in, hold_of, is_local, last_seen, locks_of}
use Rattle.dso_law.specs.Threads.{open_block, own, privates_before, work_of}
use Rattle.dso_legal.proofs.fitting.NamesInHand.{left_so, right_so, either_so}
use Rattle.dso_legal.proofs.objects.OwnObjects.{worked_more}
use Rattle.dso_gc_law.proofs.threads.Hand.{HandTells}

-- so of it, if there is one
abbrev IfThere : {X : Type 0} → (X → Type 0) → Option X → Type 0
IfThere P None = Unit {0}
IfThere P (Some x) = P x

-- which it is
there_is : {X : Type 0} (P : X → Type 0) (at : Option X) (x : X) → IfThere P at → at ≡ Some x → P x
there_is P None x h is = absurd (cc is)
there_is P (Some y) x h is =
    let same : y ≡ x = cc is in
    subst P same h

module _ (o : ℕ) where
  -- ---- what is lacked

  -- what a need names
  abbrev need_names : Need → Bool
  need_names NeedsId = false
  need_names (NeedsObject x) = eqb x o
  need_names (NeedsClass x) = eqb x o
  need_names (NeedsMark l) = lock_names l o
  need_names (NeedsLease l level) = lock_names l o
  need_names (NeedsOthersOut l) = lock_names l o
  need_names NeedsAck = false

  -- where it names the object, this test holds
  abbrev NeedIn : Bool → Need → Type 0
  NeedIn b need = need_names need ≡ true → b ≡ true

  -- so of a need where a test fails,
  unless_in : (b test : Bool) (need : Need) → NeedIn b need → IfThere (NeedIn b) (unless test need)
  unless_in b true need h = tt
  unless_in b false need h = h

  -- and of the first of two
  first_in : (b : Bool) (first later : Option Need) → IfThere (NeedIn b) first → IfThere (NeedIn b) later
      → IfThere (NeedIn b) (first_unmet first later)
  first_in b None later h k = k
  first_in b (Some need) later h k = h

  -- a message that is asked names what its need does
  asked_is : (test : Bool) (x m : Up) (need : Need) → unless_asked test x ≡ Some m
      → (up_names x o ≡ true → need_names need ≡ true) → up_names m o ≡ true → need_names need ≡ true
  asked_is true x m need asked h names = absurd (cc asked)
  asked_is false x m need asked h names =
      let same : x ≡ m = cc asked in
      h (subst (λ n. up_names n o ≡ true) (sym same) names)

  -- so of each need
  ask_names : (need : Need) (es : List Entry) (m : Up) → ask_for need es ≡ Some m → up_names m o ≡ true
      → need_names need ≡ true
  ask_names NeedsId es m asked = asked_is (is_batch_asked es) up.IdAsk m NeedsId asked (λ names. names)
  ask_names (NeedsObject x) es m asked =
      asked_is (is_object_asked x es) (up.Fault x) m (NeedsObject x) asked (λ names. names)
  ask_names (NeedsLease l level) es m asked =
      asked_is (is_some (leased l es) || is_asked_for l es) (up.Request l level) m (NeedsLease l level) asked
      (λ names. names)
  ask_names (NeedsClass x) es m asked = absurd (cc asked)
  ask_names (NeedsMark l) es m asked = absurd (cc asked)
  ask_names (NeedsOthersOut l) es m asked = absurd (cc asked)
  ask_names NeedsAck es m asked = absurd (cc asked)

  module _ (p : Settings) (c : ℕ) (next : ThreadId → Option Request) (t : ThreadId) (es : List Entry) where
    -- a look and an access lack only what is of the object,
    look_in : (x : ℕ) → IfThere (NeedIn (eqb x o)) (look_need p c next t x es)
    look_in x = unless_in (eqb x o) (is_some (own p.shape t x es) || is_resident x es) (NeedsObject x) (λ is. is)

    access_in : (x : ℕ) → IfThere (NeedIn (eqb x o)) (access_need p c next t x es)
    access_in x = first_in (eqb x o) (look_need p c next t x es) (unless classes (NeedsClass x)) (look_in x)
        (unless_in (eqb x o) classes (NeedsClass x) (λ is. is))
      where
        classes : Bool
        classes = is_some (own p.shape t x es) || (eqb x 0 || is_seen_class (class_held x es) (last_seen t es))

    -- and an entry only what is of the lock
    entry_in : (l : LockName) (level : Level) → IfThere (NeedIn (lock_names l o)) (entry_need p c next t l level es)
    entry_in l level = first_in (lock_names l o) (unless lease (NeedsLease l level)) (unless out (NeedsOthersOut l))
        (unless_in (lock_names l o) lease (NeedsLease l level) (λ is. is))
        (unless_in (lock_names l o) out (NeedsOthersOut l) (λ is. is))
      where
        lease : Bool
        lease = is_enough level (leased l es) && admits p c next l es

        out : Bool
        out = not (list_any (is_in_conflict p c next t l level es) (threads_of p c))

    -- so where the test may hold by another part, too
    put_in : (b d : Bool) (need : Option Need) → IfThere (NeedIn b) need → IfThere (NeedIn (b || d)) need
    put_in b d None h = tt
    put_in b d (Some need) h = λ names. left_so b d (h names)

    -- the need of a request names what the request does
    unmet_in : (request : Request) → IfThere (NeedIn (request_names request o)) (unmet p c next t request es)
    unmet_in (New class n) = unless_in false (is_some (next_id es)) NeedsId (λ is. is)
    unmet_in (Look x) = look_in x
    unmet_in (Get x f) = access_in x
    unmet_in (Put x f v) = put_in (eqb x o) (has_reference o (v ∷ [])) (access_need p c next t x es) (access_in x)
    unmet_in (Enter l level) = by (is_local p.shape t l es || is_some (hold_of t l es))
      where
        by : (b : Bool) → IfThere (NeedIn (lock_names l o)) (cond b None (entry_need p c next t l level es))
        by true = tt
        by false = entry_in l level
    unmet_in (Resume l) = first_in (lock_names l o) (unless (is_marked t es) (NeedsMark l))
        (entry_need p c next t l Write es) (unless_in (lock_names l o) (is_marked t es) (NeedsMark l) (λ is. is))
        (entry_in l Write)
    unmet_in Settle = unless_in false (is_settled t es) NeedsAck (λ is. is)
    unmet_in request = tt

    -- What is asked for a request names only what the request does.
    pub asked_names : (request : Request) (need : Need) (m : Up) → unmet p c next t request es ≡ Some need
        → ask_for need es ≡ Some m → up_names m o ≡ true → request_names request o ≡ true
    asked_names request need m lacks asked names =
        there_is (NeedIn (request_names request o)) (unmet p c next t request es) need (unmet_in request) lacks
        (ask_names need es m asked names)

  -- What is asked for again is what the next request names.
  pub again_names : (p : Settings) (c : ℕ) (before later : ThreadId → Option Request) (request : Option Request)
      (now es : List Entry) → list_any (λ m. up_names m o) (asks_again p c before later request now es) ≡ true
      → option_map_or (λ request. request_names request o) request false ≡ true
  again_names p c before later (Some (Enter l Write)) now es =
      by (not (is_closing p c before l es) && list_any (is_lock l) (due p c later now))
    where
      by : (b : Bool) → list_any (λ m. up_names m o) (cond b (up.Request l Write ∷ []) []) ≡ true
          → lock_names l o ≡ true
      by true names = either_so (lock_names l o) false (λ is. is) (λ never. absurd (cc never)) names
      by false names = absurd (cc names)
  again_names p c before later request now es = λ names. absurd (cc names)

  -- ---- the record

  -- an ending names what its request does
  abbrev EndingIn : Request → Ending → Type 0
  EndingIn request ending = ending_names ending o ≡ true → request_names request o ≡ true

  -- so of each request
  ending_in : (request : Request) (reply : Reply) (locks : Locks)
      → IfThere (EndingIn request) (ending_by request reply locks)
  ending_in (Exit l) Done locks = by (exited (hold_in l locks.holds))
    where
      by : (hold : Option Hold) → IfThere (EndingIn (Exit l)) (exit_ending l hold)
      by None = λ names. names
      by (Some hold) = tt
  ending_in (Wait l) Done locks = λ names. names
  ending_in (Timeout l) Done locks = λ names. names
  ending_in (End fault) Done locks = λ names. names
  ending_in request reply locks = tt

  -- a record names what its work does, and its ending
  of_work : (K : Type 0) (seq : ℕ) (t : ThreadId) (work : Work) (ending : Ending) → HandTells o K work
      → (ending_names ending o ≡ true → K)
      → record_names (record {
        seq = seq;
        thread = t;
        news = work.news;
        sets = work.sets;
        outs = work.outs;
        notes = work.notes;
        ending = ending;
      }) o ≡ true → K
  of_work K seq t work ending h ends =
      either_so news (sets || (outs || (notes || last)))
      (λ is. h (in_record (left_so news (sets || (outs || notes)) is)))
      (either_so sets (outs || (notes || last)) (λ is. h (in_sets (left_so sets (outs || notes) is)))
      (either_so outs (notes || last) (λ is. h (in_sets (right_so sets (outs || notes) (left_so outs notes is))))
      (either_so notes last (λ is. h (in_sets (right_so sets (outs || notes) (right_so outs notes is)))) ends)))
    where
      news : Bool
      news = list_any (λ body. body_with_names body o) work.news

      sets : Bool
      sets = list_any (λ set. set_names set o) work.sets

      outs : Bool
      outs = has_reference o work.outs

      notes : Bool
      notes = list_any (λ note. note_names note o) work.notes

      last : Bool
      last = ending_names ending o

      in_record : (news || (sets || (outs || notes))) ≡ true → work_names work o ≡ true
      in_record =
          right_so (list_any (λ body. body_with_names body o) work.privates) (news || (sets || (outs || notes)))

      in_sets : (sets || (outs || notes)) ≡ true → work_names work o ≡ true
      in_sets is = in_record (right_so news (sets || (outs || notes)) is)

  -- What follows of what the work in hand names after the event, and of what the request names, follows of the record.
  pub commit_tells : (K : Type 0) (p : Settings) (t : ThreadId) (request : Request) (reply : Reply)
      (woken : Option ThreadId) (es : List Entry)
      → HandTells o K (work_after p.shape (Act t request reply woken) (work_of p.shape t es))
      → (request_names request o ≡ true → K)
      → list_any (λ m. up_names m o) (commits p t (Act t request reply woken) es) ≡ true → K
  commit_tells K p t request reply woken es h asked =
      by (ending_by request reply (locks_of t es)) (ending_in request reply (locks_of t es))
    where
      event : Event
      event = Act t request reply woken

      block : List Event
      block = open_block t es

      privates : List Body
      privates = privates_before p.shape t es

      whole : HandTells o K (worked p.shape (block ++ event ∷ []) (start privates))
      whole = subst (HandTells o K) (sym (worked_more p.shape block event (start privates))) h

      by : (ending : Option Ending) → IfThere (EndingIn request) ending
          → list_any (λ m. up_names m o) (record_of p t event ending es) ≡ true → K
      by None ends names = absurd (cc names)
      by (Some ending) ends names = either_so
          (record_names (txn_of p.shape (suc (records es)) t privates (block ++ event ∷ []) ending) o) false
          (of_work K (suc (records es)) t (worked p.shape (block ++ event ∷ []) (start privates)) ending whole
          (λ is. asked (ends is)))
          (λ never. absurd (cc never)) names
