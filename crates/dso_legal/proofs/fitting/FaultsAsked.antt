-- A client asks for an object only where the next request of one of its threads is of the object, which isn't the thread's own.
use Rattle.std.specs.List.{AllByRecursion, list_any}
use Rattle.std.proofs.Common.{Bool, List, None, Option, Some, [], ap, cond, false, is_some, map, not, refl, subst, sym, true, ℕ, ◌&&◌, ◌++◌, ◌||◌, ◌∙◌, ◌∷◌, ◌≡◌}
use Rattle.dso_base.specs.declared.journal.Entry.{Entry}
use Rattle.dso_base.specs.declared.journal.Input.{Input}
use Rattle.dso_base.specs.declared.journal.Input.TheVariants as input
use Rattle.dso_base.specs.declared.lock.Level.{Level}
use Rattle.dso_base.specs.declared.lock.Level.TheVariants.{Write}
use Rattle.dso_base.specs.declared.lock.LockName.{LockName}
use Rattle.dso_base.specs.declared.lock.ThreadId.{ThreadId}
use Rattle.dso_base.specs.declared.message.Up.{Up}
use Rattle.dso_base.specs.declared.message.Up.TheVariants as up
use Rattle.dso_base.specs.declared.record.Body.{Body}
use Rattle.dso_base.specs.declared.record.Ending.{Ending}
use Rattle.dso_base.specs.declared.request.Event.{Event}
use Rattle.dso_base.specs.declared.request.Event.TheVariants.{Act}
use Rattle.dso_base.specs.declared.request.Request.{Request}
use Rattle.dso_base.specs.declared.request.Request.TheVariants.{Enter, Get, Look, New, Put, Resume, Settle}
use Rattle.dso_plain.specs.KeyTests.{is_lock}
use Rattle.dso_law.specs.ClientStep.{ActsOn, ClientStep, ClientStepOn, DoesOrAsks, asks_again, commits, record_of, returns}
use Rattle.dso_law.specs.ClientWaiters.{client_list, is_marked}
use Rattle.dso_law.specs.Closing.{admits, due, is_closing}
use Rattle.dso_law.specs.Copies.{is_object_asked, is_resident}
use Rattle.dso_law.specs.Entries.{unsent}
use Rattle.dso_law.specs.Leases.{is_asked_for, leased}
use Rattle.dso_law.specs.Records.{is_batch_asked, is_settled, next_id}
use Rattle.dso_law.specs.Replies.{woken_by}
use Rattle.dso_law.specs.RequestNeeds.{Need, NeedsAck, NeedsClass, NeedsId, NeedsLease, NeedsMark, NeedsObject, NeedsOthersOut, access_need, ask_for, entry_need, first_unmet, is_enough, is_in_conflict, look_need, unless, unmet}
use Rattle.dso_law.specs.Settings.{Settings, threads_of}
use Rattle.dso_law.specs.Threads.{ending_of, hold_of, is_local, locks_of, own}
use Rattle.dso_legal.proofs.channels.InFlight.{said_all, said_of}
use Rattle.dso_legal.proofs.fitting.InHand.{each_of_two}
use Rattle.dso_legal.proofs.leases.ClientLeases.{ask_is}

-- the request is of the object
abbrev pub IsOf : ℕ → Request → Type 0
IsOf o (Look a) = a ≡ o
IsOf o (Get a f) = a ≡ o
IsOf o (Put a f v) = a ≡ o
IsOf o request = ⊥

module _ (p : Settings) (c : ℕ) (before : ThreadId → Option Request) (t : ThreadId) (es : List Entry) (request : Request) where
  -- what the need says, where it is an object: the request is of it, and it isn't the thread's own
  abbrev IsWanted : Option Need → Type 0
  IsWanted (Some (NeedsObject o)) = IsOf o request × (own p.shape t o es ≡ None)
  IsWanted need = Unit {0}

  -- another need
  other_unless : (b : Bool) (need : Need) → IsWanted (Some need) → IsWanted (unless b need)
  other_unless true need h = tt
  other_unless false need h = h

  -- the first of two
  wanted_first : (a b : Option Need) → IsWanted a → IsWanted b → IsWanted (first_unmet a b)
  wanted_first None b h k = k
  wanted_first (Some need) b h k = h

  wanted_unless : (o : ℕ) (body : Option Body) (b : Bool) → own p.shape t o es ≡ body → IsOf o request → IsWanted (unless (is_some body || b) (NeedsObject o))
  wanted_unless o (Some body) b is of = tt
  wanted_unless o None true is of = tt
  wanted_unless o None false is of = (of, is)

  wanted_look : (o : ℕ) → IsOf o request → IsWanted (look_need p c before t o es)
  wanted_look o of = wanted_unless o (own p.shape t o es) (is_resident o es) refl of

  wanted_access : (o : ℕ) → IsOf o request → IsWanted (access_need p c before t o es)
  wanted_access o of = wanted_first (look_need p c before t o es) _ (wanted_look o of) (other_unless _ (NeedsClass o) tt)

  wanted_entry : (l : LockName) (level : Level) → IsWanted (entry_need p c before t l level es)
  wanted_entry l level = wanted_first (unless (is_enough level (leased l es) && admits p c before l es) (NeedsLease l level)) _
      (other_unless (is_enough level (leased l es) && admits p c before l es) (NeedsLease l level) tt)
      (other_unless (not (list_any (is_in_conflict p c before t l level es) (threads_of p c))) (NeedsOthersOut l) tt)

  wanted_enter : (b : Bool) (l : LockName) (level : Level) → IsWanted (cond b None (entry_need p c before t l level es))
  wanted_enter true l level = tt
  wanted_enter false l level = wanted_entry l level

-- the first need that isn't met
wanted : (p : Settings) (c : ℕ) (before : ThreadId → Option Request) (t : ThreadId) (es : List Entry) (request : Request) → IsWanted p c before t es request (unmet p c before t request es)
wanted p c before t es (New class n) = other_unless p c before t es (New class n) (is_some (next_id es)) NeedsId tt
wanted p c before t es (Look o) = wanted_look p c before t es (Look o) o refl
wanted p c before t es (Get o f) = wanted_access p c before t es (Get o f) o refl
wanted p c before t es (Put o f v) = wanted_access p c before t es (Put o f v) o refl
wanted p c before t es (Enter l level) = wanted_enter p c before t es (Enter l level) (is_local p.shape t l es || is_some (hold_of t l es)) l level
wanted p c before t es (Resume l) = wanted_first p c before t es (Resume l) (unless (is_marked t es) (NeedsMark l)) _
    (other_unless p c before t es (Resume l) (is_marked t es) (NeedsMark l) tt) (wanted_entry p c before t es (Resume l) l Write)
wanted p c before t es Settle = other_unless p c before t es Settle (is_settled t es) NeedsAck tt
wanted p c before t es other = tt

-- what is so of each object that a thread's next request is of, and that isn't its own, is so of each that is asked for
module _ (p : Settings) (c : ℕ) (before after_it : ThreadId → Option Request) (e : Entry) (es : List Entry) (P : ℕ → Type 0)
    (asks : (t : ThreadId) (request : Request) (o : ℕ) → t.client ≡ c → before t ≡ Some request → IsOf o request → own p.shape t o es ≡ None → P o) where
  -- so of the object of a fault
  abbrev pub IsOfFault : Up → Type 0
  IsOfFault (up.Fault o) = P o
  IsOfFault m = Unit {0}

  returns_of : (list : LockName → List ThreadId) (locks : List LockName) → AllByRecursion IsOfFault (map (λ k. up.Return k (list k)) locks)
  returns_of list [] = tt
  returns_of list (l ∷ locks) = (tt, returns_of list locks)

  given : AllByRecursion IsOfFault (returns p c after_it (unsent e ∷ es))
  given = returns_of (λ k. client_list k (unsent e ∷ es)) (due p c after_it (unsent e ∷ es))

  record_of_none : (t : ThreadId) (event : Event) (ending : Option Ending) → AllByRecursion IsOfFault (record_of p t event ending es)
  record_of_none t event None = tt
  record_of_none t event (Some ending) = (tt, tt)

  again_of : (request : Option Request) → AllByRecursion IsOfFault (asks_again p c before after_it request (unsent e ∷ es) es)
  again_of (Some (Enter l Write)) = by (not (is_closing p c before l es) && list_any (is_lock l) (due p c after_it (unsent e ∷ es)))
    where
      by : (b : Bool) → AllByRecursion IsOfFault (cond b (up.Request l Write ∷ []) [])
      by true = (tt, tt)
      by false = tt
  again_of request = tt

  need_of : (t : ThreadId) (request : Request) → t.client ≡ c → before t ≡ Some request → (need : Need) → IsWanted p c before t es request (Some need) → (m : Up) → ask_for need es ≡ Some m → IsOfFault m
  need_of t request its asked NeedsId is m ask = subst IsOfFault (sym (ask_is (is_batch_asked es) up.IdAsk m ask).0) tt
  need_of t request its asked (NeedsObject o) is m ask = subst IsOfFault (sym (ask_is (is_object_asked o es) (up.Fault o) m ask).0) (asks t request o its asked is.0 is.1)
  need_of t request its asked (NeedsLease k level) is m ask = subst IsOfFault (sym (ask_is (is_some (leased k es) || is_asked_for k es) (up.Request k level) m ask).0) tt
  need_of t request its asked (NeedsClass o) is m ask = absurd (cc ask)
  need_of t request its asked (NeedsMark k) is m ask = absurd (cc ask)
  need_of t request its asked (NeedsOthersOut k) is m ask = absurd (cc ask)
  need_of t request its asked NeedsAck is m ask = absurd (cc ask)

  does_or_asks : (t : ThreadId) (request : Request) → t.client ≡ c → before t ≡ Some request → (need : Option Need) → IsWanted p c before t es request need → DoesOrAsks p c t request need before after_it e es
      → AllByRecursion IsOfFault (said_of e.sent)
  does_or_asks t request its asked None is does =
      let event : Event = Act t request does.reply (woken_by request does.reply es) in
      let again : List Up = asks_again p c before after_it (after_it t) (unsent e ∷ es) es in
      let back : List Up = returns p c after_it (unsent e ∷ es) in
      subst (AllByRecursion IsOfFault) (sym (ap said_of does.sends ∙ said_all ((commits p t event es ++ back) ++ again)))
      (each_of_two IsOfFault (commits p t event es ++ back) again
      (each_of_two IsOfFault (commits p t event es) back (record_of_none t event (ending_of event (locks_of t es))) given) (again_of (after_it t)))
  does_or_asks t request its asked (Some need) is step =
      let back : List Up = returns p c after_it (unsent e ∷ es) in
      subst (AllByRecursion IsOfFault) (sym (ap said_of step.sends ∙ said_all (back ++ step.message ∷ [])))
      (each_of_two IsOfFault back (step.message ∷ []) given (need_of t request its asked need is step.message step.asked, tt))

  acts : (t : ThreadId) (request : Option Request) → t.client ≡ c → before t ≡ request → ActsOn p c t request before after_it e es → AllByRecursion IsOfFault (said_of e.sent)
  acts t None its asked step = absurd step
  acts t (Some request) its asked step = does_or_asks t request its asked (unmet p c before t request es) (wanted p c before t es request) step

  by_input : (i : Input) → ClientStepOn p c i before after_it e es → AllByRecursion IsOfFault (said_of e.sent)
  by_input (input.Act index) step = acts (record { client = c; index = index }) (before (record { client = c; index = index })) refl refl step.acts
  by_input (input.TookDown m) step = subst (AllByRecursion IsOfFault) (sym (ap said_of step.sends ∙ said_all (returns p c after_it (unsent e ∷ es)))) given
  by_input (input.Flush o) step = subst (λ sent. AllByRecursion IsOfFault (said_of sent)) (sym step.sends) (tt, tt)
  by_input (input.Rejoin d) step = subst (λ sent. AllByRecursion IsOfFault (said_of sent)) (sym step.sends) tt
  by_input other step = absurd step

  -- So what a client's entry asks for.
  pub faults_asked : ClientStep p c before after_it e es → AllByRecursion IsOfFault (said_of e.sent)
  faults_asked step = by_input e.input step
