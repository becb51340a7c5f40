-- A client that is lost has no lease and no request at the server, holds no object, and none of its threads waits there: so it is
-- told nothing.
use Rattle.std.specs.List.{AllByRecursion, list_any}
use Rattle.std.specs.Prelude.{flat_map}
use Rattle.std.proofs.Common.{Bool, List, None, Option, Some, [], ap, arith, cond, eqb, false, filter, inl, inr, map, not, refl, subst, suc, sym, true, ℕ, ◌&&◌, ◌++◌, ◌||◌, ◌∙◌, ◌∷◌, ◌≡◌, ◌≢◌}
use Rattle.dso_base.specs.Following.{is_thread}
use Rattle.dso_base.specs.declared.journal.Entry.{Entry}
use Rattle.dso_base.specs.declared.journal.Input.{Input}
use Rattle.dso_base.specs.declared.journal.Input.TheVariants as input
use Rattle.dso_base.specs.declared.journal.Node.{Node}
use Rattle.dso_base.specs.declared.journal.Node.TheVariants.{Client, Server}
use Rattle.dso_base.specs.declared.journal.Sent.{Sent}
use Rattle.dso_base.specs.declared.journal.Sent.TheVariants.{ToClient, ToServer}
use Rattle.dso_base.specs.declared.lock.LockName.{LockName}
use Rattle.dso_base.specs.declared.lock.ThreadId.{ThreadId}
use Rattle.dso_base.specs.declared.message.Down.{Down}
use Rattle.dso_base.specs.declared.message.Down.TheVariants as down
use Rattle.dso_base.specs.declared.message.Up.{Up}
use Rattle.dso_base.specs.declared.message.Up.TheVariants as up
use Rattle.dso_base.specs.declared.record.Body.{Body}
use Rattle.dso_base.specs.declared.record.Choice.{Choice}
use Rattle.dso_base.specs.declared.record.Choice.TheVariants.{All, Here, There}
use Rattle.dso_base.specs.declared.record.Ending.{Ending}
use Rattle.dso_base.specs.declared.record.Ending.TheVariants as ending
use Rattle.dso_base.specs.declared.record.Note.{Note}
use Rattle.dso_base.specs.declared.record.Set.{Set}
use Rattle.dso_base.specs.declared.record.Txn.{Txn}
use Rattle.dso_base.specs.declared.request.Event.{Event}
use Rattle.dso_base.specs.declared.request.Request.{Request}
use Rattle.dso_plain.specs.KeyTests.{is_lock}
use Rattle.dso_plain.proofs.keys.SameKeys.{number_self, same_number, same_thread}
use Rattle.dso_law.specs.ClientWaiters.{without}
use Rattle.dso_law.specs.Entries.{by_sent_down, entries_of, unsent}
use Rattle.dso_law.specs.FitsUp.{FitsUp, IsNewWaiter}
use Rattle.dso_law.specs.Granting.{LeaseTable, Waiter, is_against, leases_so_far, queue_by, queue_of, recalls, requested, serve_queue, serves, serves_all, standing_by, standing_with, with_grant}
use Rattle.dso_law.specs.Leases.{idle, standing_down, standing_up}
use Rattle.dso_law.specs.RequestNeeds.{conflicts}
use Rattle.dso_law.specs.ServerReadings.{counted, is_lost, is_of_lost, loses, next_batch}
use Rattle.dso_law.specs.ServerStep.{HeardOrLost, HeardStep, ServerStepOn, answers, changes_of, object_to}
use Rattle.dso_law.specs.ServerWaiters.{lists_after, lists_noted, waiters_by, waiters_by_message, waiters_by_sent, waiters_left, waiters_of, waiters_woken, wake_each, wakes, wakes_of, wakes_timed_out, without_client}
use Rattle.dso_law.specs.Settings.{Settings, clients_of}
use Rattle.dso_law.specs.Store.{held_by, held_by_message, holds_object, stored}
use Rattle.dso_law.specs.declared.readings.LockStanding.{LockStanding}
use Rattle.dso_legal.specs.Agreement.{after}
use Rattle.dso_legal.specs.Lawful.{AllFollow, NodeFollows, ServerFollows}
use Rattle.dso_legal.specs.LostClients.{IsNotTo, LostAreToldNothing}
use Rattle.dso_legal.proofs.blocks.Histories.{client_of_thread}
use Rattle.dso_legal.proofs.channels.InFlight.{told_append, told_to}
use Rattle.dso_legal.proofs.copies.ChangesSent.{changes_down, told_of_changes}
use Rattle.dso_legal.proofs.leases.ClientLeases.{neither}
use Rattle.dso_legal.proofs.leases.LeaseSteps.{if_true, no_both, unless_true}
use Rattle.dso_legal.proofs.leases.Queues.{asks, queued}
use Rattle.dso_legal.proofs.leases.ServerLeases.{same_either, server_does, standing_after_told}
use Rattle.dso_legal.proofs.leases.Tokens.{known}
use Rattle.dso_legal.proofs.records.BothEnds.{server_with}

-- ---- messages to one client

-- a number that isn't another, the other way round
flipped : (a b : ℕ) → eqb a b ≡ false → eqb b a ≡ false
flipped a b other = by (eqb b a) refl
  where
    by : (same : Bool) → eqb b a ≡ same → same ≡ false
    by true is = no_both (eqb a a) (number_self a) (subst (λ n. eqb a n ≡ false) (same_number b a is) other)
    by false is = refl

none_of_two : (c : ℕ) (xs ys : List Sent) → told_to c xs ≡ [] → told_to c ys ≡ [] → told_to c (xs ++ ys) ≡ []
none_of_two c xs ys first second = told_append c xs ys ∙ (ap (λ ms. ms ++ told_to c ys) first ∙ second)

-- a message to another client
to_another : (c d : ℕ) (m : Down) (out : List Sent) → eqb c d ≡ false → told_to c out ≡ [] → told_to c (ToClient d m ∷ out) ≡ []
to_another c d m out other rest = unless_true (eqb c d) (m ∷ told_to c out) (told_to c out) other ∙ rest

-- a message to each that passes a test, which the client fails
none_to_each : (c : ℕ) (m : Down) (test : ℕ → Bool) (clients : List ℕ) → test c ≡ false → told_to c (map (λ d. ToClient d m) (filter test clients)) ≡ []
none_to_each c m test [] fails = refl
none_to_each c m test (d ∷ clients) fails = by (test d) refl (none_to_each c m test clients fails)
  where
    other : test d ≡ true → (same : Bool) → eqb c d ≡ same → same ≡ false
    other passes true is = no_both (test d) passes (subst (λ n. test n ≡ false) (sym (same_number d c (number_flip c d is))) fails)
      where
        number_flip : (a b : ℕ) → eqb a b ≡ true → eqb b a ≡ true
        number_flip a b is = subst (λ n. eqb n a ≡ true) (same_number a b is) (number_self a)
    other passes false is = refl

    by : (b : Bool) → test d ≡ b → told_to c (map (λ d. ToClient d m) (filter test clients)) ≡ []
        → told_to c (map (λ d. ToClient d m) (cond b (d ∷ filter test clients) (filter test clients))) ≡ []
    by true passes rest = to_another c d m (map (λ d. ToClient d m) (filter test clients)) (other passes (eqb c d) refl) rest
    by false fails_too rest = rest

-- ---- threads of a client

-- none of the threads is one of the client's
abbrev pub IsNoneOf : ℕ → List ThreadId → Type 0
IsNoneOf c threads = list_any (λ t. eqb t.client c) threads ≡ false

none_of_both : (c : ℕ) (xs ys : List ThreadId) → IsNoneOf c xs → IsNoneOf c ys → IsNoneOf c (xs ++ ys)
none_of_both c [] ys first second = second
none_of_both c (x ∷ xs) ys first second = by (eqb x.client c) first (none_of_both c xs ys)
  where
    by : (b : Bool) → (b || list_any (λ t. eqb t.client c) xs) ≡ false → (IsNoneOf c xs → IsNoneOf c ys → IsNoneOf c (xs ++ ys)) → (b || list_any (λ t. eqb t.client c) (xs ++ ys)) ≡ false
    by true first later = absurd (cc first)
    by false first later = later first second

none_filtered : (c : ℕ) (test : ThreadId → Bool) (threads : List ThreadId) → IsNoneOf c threads → IsNoneOf c (filter test threads)
none_filtered c test [] none = refl
none_filtered c test (t ∷ threads) none = by (test t) (neither (eqb t.client c) (list_any (λ t. eqb t.client c) threads) none).0
    (none_filtered c test threads (neither (eqb t.client c) (list_any (λ t. eqb t.client c) threads) none).1)
  where
    by : (b : Bool) → eqb t.client c ≡ false → IsNoneOf c (filter test threads) → IsNoneOf c (cond b (t ∷ filter test threads) (filter test threads))
    by true other rest = ap (λ b. b || list_any (λ t. eqb t.client c) (filter test threads)) other ∙ rest
    by false other rest = rest

-- where the client's threads leave, none is left
none_left : (c d : ℕ) (threads : List ThreadId) → eqb c d ≡ true → IsNoneOf c (without_client d threads)
none_left c d [] same = refl
none_left c d (t ∷ threads) same = by (eqb t.client d) refl (none_left c d threads same)
  where
    other : (b : Bool) → eqb t.client d ≡ false → eqb t.client c ≡ b → b ≡ false
    other true apart is = no_both (eqb t.client c) is (subst (λ n. eqb t.client n ≡ false) (sym (same_number c d same)) apart)
    other false apart is = refl

    by : (b : Bool) → eqb t.client d ≡ b → IsNoneOf c (without_client d threads) → IsNoneOf c (cond (not b) (t ∷ without_client d threads) (without_client d threads))
    by true its rest = rest
    by false apart rest = ap (λ b. b || list_any (λ t. eqb t.client c) (without_client d threads)) (other (eqb t.client c) apart refl) ∙ rest

-- a thread of a list that has none of the client's isn't the client's
pub isnt_its : (c : ℕ) (t : ThreadId) (threads : List ThreadId) → IsNoneOf c threads → list_any (is_thread t) threads ≡ true → eqb t.client c ≡ false
isnt_its c t [] none there = absurd (cc there)
isnt_its c t (u ∷ threads) none there =
    let no = neither (eqb u.client c) (list_any (λ t. eqb t.client c) threads) none in
    by (is_thread t u) refl there no.0 (isnt_its c t threads no.1)
  where
    by : (b : Bool) → is_thread t u ≡ b → (b || list_any (is_thread t) threads) ≡ true → eqb u.client c ≡ false → (list_any (is_thread t) threads ≡ true → eqb t.client c ≡ false) → eqb t.client c ≡ false
    by true same there other later = subst (λ (v : ThreadId). eqb v.client c ≡ false) (same_thread t u same) other
    by false apart there other later = later there

-- threads of another client
none_of_others : (p : Settings) (c d : ℕ) (l : LockName) (es : List Entry) (threads : List ThreadId) → eqb c d ≡ false → AllByRecursion (IsNewWaiter p d l es) threads → IsNoneOf c threads
none_of_others p c d l es [] other new = refl
none_of_others p c d l es (t ∷ threads) other new =
    ap (λ b. b || list_any (λ t. eqb t.client c) threads) (subst (λ n. eqb n c ≡ false) (sym (client_of_thread p d t new.0.0)) (flipped c d other))
    ∙ none_of_others p c d l es threads other new.1

-- ---- what is told to a client that isn't there

module _ (c : ℕ) where
  -- wakings of threads of others
  wakes_none : (l : LockName) (threads : List ThreadId) → IsNoneOf c threads → told_to c (wake_each l threads) ≡ []
  wakes_none l [] none = refl
  wakes_none l (t ∷ threads) none =
      let no = neither (eqb t.client c) (list_any (λ t. eqb t.client c) threads) none in
      to_another c t.client (down.Wake l t) (wake_each l threads) (flipped t.client c no.0) (wakes_none l threads no.1)

  none_woken_of : (choice : Choice) (threads : List ThreadId) → IsNoneOf c threads → IsNoneOf c (waiters_woken choice threads)
  none_woken_of There [] none = refl
  none_woken_of There (t ∷ threads) none = ap (λ b. b || false) (neither (eqb t.client c) (list_any (λ t. eqb t.client c) threads) none).0
  none_woken_of All threads none = none
  none_woken_of (Here t) threads none = refl

  none_left_of : (choice : Choice) (threads : List ThreadId) → IsNoneOf c threads → IsNoneOf c (waiters_left choice threads)
  none_left_of There [] none = refl
  none_left_of There (t ∷ threads) none = (neither (eqb t.client c) (list_any (λ t. eqb t.client c) threads) none).1
  none_left_of All threads none = refl
  none_left_of (Here t) threads none = none

  abbrev NoneListed : (LockName → List ThreadId) → Type 0
  NoneListed lists = (l : LockName) → IsNoneOf c (lists l)

  none_listed_after : (note : Note) (lists : LockName → List ThreadId) → NoneListed lists → NoneListed (lists_after note.lock note.choice lists)
  none_listed_after note lists none k = by (is_lock note.lock k)
    where
      by : (b : Bool) → IsNoneOf c (cond b (waiters_left note.choice (lists k)) (lists k))
      by true = none_left_of note.choice (lists k) (none k)
      by false = none k

  none_noted : (notes : List Note) (lists : LockName → List ThreadId) → NoneListed lists → NoneListed (lists_noted notes lists)
  none_noted [] lists none = none
  none_noted (note ∷ notes) lists none = none_noted notes (lists_after note.lock note.choice lists) (none_listed_after note lists none)

  notes_wake_none : (notes : List Note) (lists : LockName → List ThreadId) → NoneListed lists → told_to c (wakes notes lists) ≡ []
  notes_wake_none [] lists none = refl
  notes_wake_none (note ∷ notes) lists none = none_of_two c (wake_each note.lock (waiters_woken note.choice (lists note.lock))) (wakes notes (lists_after note.lock note.choice lists))
      (wakes_none note.lock (waiters_woken note.choice (lists note.lock)) (none_woken_of note.choice (lists note.lock) (none note.lock)))
      (notes_wake_none notes (lists_after note.lock note.choice lists) (none_listed_after note lists none))

  timeout_wakes_none : (t : ThreadId) (ending : Ending) (lists : LockName → List ThreadId) → NoneListed lists → told_to c (wakes_timed_out t ending lists) ≡ []
  timeout_wakes_none t (ending.Exit l) lists none = refl
  timeout_wakes_none t (ending.Wait l) lists none = refl
  timeout_wakes_none t (ending.End fault) lists none = refl
  timeout_wakes_none t (ending.Timeout l) lists none = by (list_any (is_thread t) (lists l)) refl
    where
      by : (b : Bool) → list_any (is_thread t) (lists l) ≡ b → told_to c (cond b (wake_each l (t ∷ [])) []) ≡ []
      by true there = to_another c t.client (down.Wake l t) [] (flipped t.client c (isnt_its c t (lists l) (none l) there)) refl
      by false apart = refl

  -- serving a queue that the client isn't in, where it has no lease
  not_against : (waiter : Waiter) (s : LeaseTable) → s.lease c ≡ None → (is_against waiter s c && not (s.recalled c)) ≡ false
  not_against waiter s none = by (not (eqb c waiter.client)) (s.recalled c) (conflicts waiter.level (s.lease c)) (ap (conflicts waiter.level) none)
    where
      by : (a r x : Bool) → x ≡ false → ((a && x) && not r) ≡ false
      by true r x is = ap (λ b. b && not r) is
      by false r x is = refl

  serve_none : (p : Settings) (l : LockName) (queue : List Waiter) (s : LeaseTable) → queued c queue ≡ 0 → s.lease c ≡ None → told_to c (serve_queue p l queue s) ≡ []
  serve_none p l [] s out none = refl
  serve_none p l (waiter ∷ queue) s out none = by (eqb c waiter.client) refl out (list_any (is_against waiter s) (clients_of p)) (serve_none p l queue (with_grant waiter s))
    where
      by : (b : Bool) → eqb c waiter.client ≡ b → cond b (suc (queued c queue)) (queued c queue) ≡ 0 → (against : Bool)
          → (queued c queue ≡ 0 → (with_grant waiter s).lease c ≡ None → told_to c (serve_queue p l queue (with_grant waiter s)) ≡ [])
          → told_to c (cond against (recalls p l waiter s) (ToClient waiter.client (down.Grant l waiter.level) ∷ serve_queue p l queue (with_grant waiter s))) ≡ []
      by true its out against later = absurd (let never : suc (queued c queue) ≢ 0 = λ h. omega (arith, h) in never out)
      by false other out true later = none_to_each c (down.Recall l) (λ d. is_against waiter s d && not (s.recalled d)) (clients_of p) (not_against waiter s none)
      by false other out false later = to_another c waiter.client (down.Grant l waiter.level) (serve_queue p l queue (with_grant waiter s)) other
          (later out (unless_true (eqb c waiter.client) (Some waiter.level) (s.lease c) other ∙ none))

-- ---- a client that is gone

-- By the server's entries that count the client has no lease and no request, holds no object, and none of its threads waits.
pub record IsGone (c : ℕ) (server : List Entry) : Type 0 where
  pub standing : (l : LockName) → standing_with c l server ≡ idle
  pub holds : (o : ℕ) → holds_object c o server ≡ false
  pub waiters : (l : LockName) → IsNoneOf c (waiters_of l server)

-- so with one more input
record IsGoneBy (c : ℕ) (i : Input) (server : List Entry) : Type 0 where
  standing : (l : LockName) → standing_by c l i (standing_with c l server) ≡ idle
  holds : (o : ℕ) → held_by c o i (holds_object c o server) ≡ false
  waiters : (l : LockName) → IsNoneOf c (waiters_by l i (waiters_of l server))

-- a loss of the client
lost_by : (c d : ℕ) (server : List Entry) → eqb c d ≡ true → IsGoneBy c (input.Lose d) server
lost_by c d server same = record {
  standing = λ l. if_true (eqb c d) idle (standing_with c l server) same;
  holds = λ o. if_true (eqb c d) false (holds_object c o server) same;
  waiters = λ l. none_left c d (waiters_of l server) same;
}

module _ (p : Settings) (c : ℕ) (e : Entry) (all : List Entry) where
  abbrev server : List Entry
  server = counted all

  -- a message of another client
  took_other : (d : ℕ) (m : Up) → eqb c d ≡ false → FitsUp p d m server → IsGone c server → IsGoneBy c (input.TookUp d m) server
  took_other d m other fits gone = record {
    standing = λ l. unless_true (eqb c d) (standing_up l m (standing_with c l server)) (standing_with c l server) other ∙ gone.standing l;
    holds = λ o. unless_true (eqb c d) (held_by_message o m (holds_object c o server)) (holds_object c o server) other ∙ gone.holds o;
    waiters = λ l. by l m fits;
  }
    where
      by : (l : LockName) (m : Up) → FitsUp p d m server → IsNoneOf c (waiters_by_message l m (waiters_of l server))
      by l (up.Return k threads) fits = if_same (is_lock l k)
        where
          if_same : (b : Bool) → IsNoneOf c (cond b (waiters_of l server ++ threads) (waiters_of l server))
          if_same true = none_of_both c (waiters_of l server) threads (gone.waiters l) (none_of_others p c d k server threads other fits.new)
          if_same false = gone.waiters l
      by l m fits = gone.waiters l

  -- the loss of another client
  lost_other : (d : ℕ) → IsGone c server → IsGoneBy c (input.Lose d) server
  lost_other d gone = record {
    standing = λ l. ap (cond (eqb c d) idle) (gone.standing l) ∙ same_either (eqb c d) idle;
    holds = λ o. ap (cond (eqb c d) false) (gone.holds o) ∙ same_either (eqb c d) false;
    waiters = λ l. none_filtered c (λ t. not (eqb t.client d)) (waiters_of l server) (gone.waiters l);
  }

  -- ---- what the server's entry tells it

  sets_none : (sets : List Set) (es : List Entry) → ((o : ℕ) → holds_object c o es ≡ false) → filter (λ set. holds_object c set.object es) sets ≡ []
  sets_none [] es none = refl
  sets_none (set ∷ sets) es none = ap (λ b. cond b (set ∷ filter (λ set. holds_object c set.object es) sets) (filter (λ set. holds_object c set.object es) sets)) (none set.object) ∙ sets_none sets es none

  module _ (queues : (l : LockName) → queued c (queue_by l e.input (queue_of l server)) ≡ 0) (gone : IsGoneBy c e.input server) where
    -- the entry, without what it sends, in front
    abbrev now : List Entry
    now = unsent e ∷ server

    no_lease : (l : LockName) → (leases_so_far l now).lease c ≡ None
    no_lease l = ap (λ (s : LockStanding). s.lease) (gone.standing l)

    serves_none : (l : LockName) → told_to c (serves p l now) ≡ []
    serves_none l = serve_none c p l (queue_of l now) (leases_so_far l now) (queues l) (no_lease l)

    all_serves_none : (locks : List LockName) → told_to c (flat_map (λ l. serves p l now) locks) ≡ []
    all_serves_none [] = refl
    all_serves_none (l ∷ locks) = none_of_two c (serves p l now) (flat_map (λ l. serves p l now) locks) (serves_none l) (all_serves_none locks)

    changes_none : (d : ℕ) (txn : Txn) → told_to c (changes_of p d txn now) ≡ []
    changes_none d txn = told_of_changes c d txn now p
        ∙ ap (λ sets. cond (list_any (eqb c) (clients_of p)) (cond (eqb c d) [] (changes_down sets)) []) (sets_none txn.sets now gone.holds)
        ∙ ap (λ ms. cond (list_any (eqb c) (clients_of p)) ms []) (same_either (eqb c d) []) ∙ same_either (list_any (eqb c) (clients_of p)) []

    object_none : (d : ℕ) (body : Option Body) → eqb c d ≡ false → told_to c (object_to d body) ≡ []
    object_none d None other = refl
    object_none d (Some body) other = to_another c d (down.Object body) [] other refl

    answers_none : (d : ℕ) (m : Up) → eqb c d ≡ false → told_to c (answers p d m now) ≡ []
    answers_none d up.IdAsk other = to_another c d (down.Ids (next_batch now)) [] other refl
    answers_none d (up.Fault o) other = object_none d (stored p.shape o now) other
    answers_none d (up.Flushed o) other = refl
    answers_none d (up.Request l level) other = serves_none l
    answers_none d (up.Return l threads) other = serves_none l
    answers_none d (up.Commit txn) other = to_another c d (down.Ack txn.seq) (changes_of p d txn now ++ wakes_of txn (λ l. waiters_of l now)) other
        (none_of_two c (changes_of p d txn now) (wakes_of txn (λ l. waiters_of l now)) (changes_none d txn)
        (none_of_two c (wakes txn.notes (λ l. waiters_of l now)) (wakes_timed_out txn.thread txn.ending (lists_noted txn.notes (λ l. waiters_of l now)))
        (notes_wake_none c txn.notes (λ l. waiters_of l now) gone.waiters)
        (timeout_wakes_none c txn.thread txn.ending (lists_noted txn.notes (λ l. waiters_of l now)) (none_noted c txn.notes (λ l. waiters_of l now) gone.waiters))))

    none_sent : (out : List Sent) → e.sent ≡ out → told_to c out ≡ [] → told_to c e.sent ≡ []
    none_sent out is none = ap (told_to c) is ∙ none

    told_none : (i : Input) → ServerStepOn p i e all → is_of_lost i all ≡ false → ((d : ℕ) (m : Up) → i ≡ input.TookUp d m → eqb c d ≡ false) → told_to c e.sent ≡ []
    told_none (input.TookUp d m) step counts other =
        let heard : HeardStep p d m e server = subst (λ b. HeardOrLost p d m b e server) counts step.heard in
        none_sent (answers p d m now) heard.sends (answers_none d m (other d m refl))
    told_none (input.Lose d) step counts other = none_sent (serves_all p now) step.sends (all_serves_none (requested now))
    told_none (input.Break d) step counts other = none_sent [] step.sends refl
    told_none (input.Rejoin d) step counts other = none_sent [] step.sends refl
    told_none other_input step counts other = absurd step

    -- and so it is gone then
    woken_leave : (l : LockName) (out : List Sent) (threads : List ThreadId) → IsNoneOf c threads → IsNoneOf c (by_sent_down (waiters_by_sent l) out threads)
    woken_leave l [] threads none = none
    woken_leave l (ToServer m ∷ out) threads none = woken_leave l out threads none
    woken_leave l (ToClient d m ∷ out) threads none = woken_leave l out (waiters_by_sent l d m threads) (by m)
      where
        by : (m : Down) → IsNoneOf c (waiters_by_sent l d m threads)
        by (down.Wake k t) = if_same (is_lock l k)
          where
            if_same : (b : Bool) → IsNoneOf c (cond b (without t threads) threads)
            if_same true = none_filtered c (λ u. not (is_thread t u)) threads none
            if_same false = none
        by m = none

    gone_then : told_to c e.sent ≡ [] → IsGone c (e ∷ server)
    gone_then silent = record {
      standing = λ l. standing_after_told c l e server ∙ ap (λ ms. after (standing_down l) ms (standing_by c l e.input (standing_with c l server))) silent ∙ gone.standing l;
      holds = gone.holds;
      waiters = λ l. woken_leave l e.sent (waiters_by l e.input (waiters_of l server)) (gone.waiters l);
    }

-- ---- over a journal

module _ (p : Settings) (next : ThreadId → List Event → Option Request) (c : ℕ) where
  -- what the server's entry tells a client that is lost then, and how it is gone
  pub record ToldNothing (e : Entry) (es : List Entry) : Type 0 where
    pub told : told_to c e.sent ≡ []
    pub gone : IsGone c (counted (e ∷ entries_of Server es))

  module _ (e : Entry) (es : List Entry) (follow : AllFollow p next es) (rule : ServerFollows p next e es) (before : is_lost c (entries_of Server es) ≡ true → IsGone c (counted (entries_of Server es))) where
    abbrev all : List Entry
    all = entries_of Server es

    -- who isn't lost isn't the client, if it was lost before
    not_lost_one : is_lost c all ≡ true → (d : ℕ) → is_lost d all ≡ false → eqb c d ≡ false
    not_lost_one lost d alive = by (eqb c d) refl
      where
        by : (b : Bool) → eqb c d ≡ b → b ≡ false
        by true same = no_both (is_lost c all) lost (subst (λ n. is_lost n all ≡ false) (sym (same_number c d same)) alive)
        by false other = refl

    -- how it is gone with the input
    gone_by : (i : Input) → ServerStepOn p i e all → is_of_lost i all ≡ false → (loses c i || is_lost c all) ≡ true → IsGoneBy c i (counted all)
    gone_by (input.TookUp d m) step counts lost =
        let heard : HeardStep p d m e (counted all) = subst (λ b. HeardOrLost p d m b e (counted all)) counts step.heard in
        took_other p c e all d m (not_lost_one lost d counts) heard.fits (before lost)
    gone_by (input.Lose d) step counts lost = by (eqb c d) refl lost
      where
        by : (b : Bool) → eqb c d ≡ b → (b || is_lost c all) ≡ true → IsGoneBy c (input.Lose d) (counted all)
        by true same lost = lost_by c d (counted all) same
        by false other lost = lost_other p c e all d (before lost)
    gone_by (input.Break d) step counts lost = let gone = before lost in record { standing = gone.standing; holds = gone.holds; waiters = gone.waiters }
    gone_by (input.Rejoin d) step counts lost = let gone = before lost in record { standing = gone.standing; holds = gone.holds; waiters = gone.waiters }
    gone_by other step counts lost = absurd step

    others_message : (i : Input) → is_of_lost i all ≡ false → (loses c i || is_lost c all) ≡ true → (d : ℕ) (m : Up) → i ≡ input.TookUp d m → eqb c d ≡ false
    others_message (input.TookUp x k) counts lost d m is =
        let same : x ≡ d = cc is in
        subst (λ n. eqb c n ≡ false) same (not_lost_one lost x counts)
    others_message (input.Lose x) counts lost d m is = absurd (cc is)
    others_message (input.Break x) counts lost d m is = absurd (cc is)
    others_message (input.Rejoin x) counts lost d m is = absurd (cc is)
    others_message (input.TookDown k) counts lost d m is = absurd (cc is)
    others_message (input.Act x) counts lost d m is = absurd (cc is)
    others_message (input.Flush x) counts lost d m is = absurd (cc is)

    told_at : (loses c e.input || is_lost c all) ≡ true → ToldNothing e es
    told_at lost = elim (server_does p e all (known p next es follow).queues rule.step) [
      | inl skip ↦ record {
        told = ap (told_to c) skip.silent;
        gone = subst (IsGone c) (sym (if_true (is_of_lost e.input all) (counted all) (e ∷ counted all) skip.skipped)) (before (lost_before e.input skip.skipped lost));
      }
      | inr here ↦
          let gone : IsGoneBy c e.input (counted all) = gone_by e.input rule.step here.counts lost in
          let queues : (l : LockName) → queued c (queue_by l e.input (queue_of l (counted all))) ≡ 0 = λ l. (here.tells.kept c l).count ∙ ap asks (gone.standing l) in
          let silent : told_to c e.sent ≡ [] = told_none p c e all queues gone e.input rule.step here.counts (others_message e.input here.counts lost) in
          record {
            told = silent;
            gone = subst (IsGone c) (sym (unless_true (is_of_lost e.input all) (counted all) (e ∷ counted all) here.counts)) (gone_then p c e all queues gone silent);
          }
    ]
      where
        lost_before : (i : Input) → is_of_lost i all ≡ true → (loses c i || is_lost c all) ≡ true → is_lost c all ≡ true
        lost_before (input.TookUp d m) skipped lost = lost
        lost_before other skipped lost = absurd (cc skipped)

  lost_at : (node : Node) (e : Entry) (es : List Entry) → AllFollow p next es → NodeFollows p next node e es → (is_lost c (entries_of Server es) ≡ true → IsGone c (counted (entries_of Server es)))
      → is_lost c (server_with node e es) ≡ true → IsGone c (counted (server_with node e es))
  lost_at Server e es follow rule before lost = (told_at e es follow rule before lost).gone
  lost_at (Client d) e es follow rule before lost = before lost

  -- A client that is lost is gone.
  pub lost_are_gone : (es : List Entry) → AllFollow p next es → is_lost c (entries_of Server es) ≡ true → IsGone c (counted (entries_of Server es))
  lost_are_gone [] follow lost = absurd (cc lost)
  lost_are_gone (e ∷ es) follow lost = lost_at e.node e es follow.0 follow.1.rule (lost_are_gone es follow.0) lost

  -- and is told nothing.
  pub lost_told_none : (e : Entry) (es : List Entry) → AllFollow p next (e ∷ es) → e.node ≡ Server → is_lost c (entries_of Server (e ∷ es)) ≡ true → told_to c e.sent ≡ []
  lost_told_none e es follow node lost = (told_at e es follow.0 (subst (λ n. NodeFollows p next n e es) node follow.1.rule) (lost_are_gone es follow.0)
      (subst (λ n. is_lost c (server_with n e es) ≡ true) node lost)).told

-- none of the messages goes to a client that is told nothing
none_to : (c : ℕ) (out : List Sent) → told_to c out ≡ [] → AllByRecursion (IsNotTo c) out
none_to c [] none = tt
none_to c (ToServer m ∷ out) none = (tt, none_to c out none)
none_to c (ToClient d m ∷ out) none = by (eqb c d) refl none (none_to c out)
  where
    by : (b : Bool) → eqb c d ≡ b → cond b (m ∷ told_to c out) (told_to c out) ≡ [] → (told_to c out ≡ [] → AllByRecursion (IsNotTo c) out) → (d ≢ c) × AllByRecursion (IsNotTo c) out
    by true its none later = absurd (cc none)
    by false other none later = ((λ same. no_both (eqb c c) (number_self c) (subst (λ n. eqb c n ≡ false) same other)), later none)

pub lost_are_told_nothing : LostAreToldNothing
lost_are_told_nothing p next e es follow node c lost = none_to c e.sent (lost_told_none p next c e es follow node lost)
