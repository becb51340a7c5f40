-- What an open block sets is resident at its client.
use Rattle.std.specs.List.{list_any}
use Rattle.std.proofs.Common.{filter, ℕ, ◌≡◌, ◌⊎◌, inl, inr, refl, sym, ◌∙◌, ap, subst, Bool, true, false, cond, not, eqb, ◌&&◌, ◌||◌, is_some, Option, Some, None, List, [], ◌∷◌, ◌++◌}
use Rattle.dso_base.specs.declared.journal.Entry.{Entry}
use Rattle.dso_base.specs.declared.journal.Input.{Input}
use Rattle.dso_base.specs.declared.journal.Input.TheVariants as input
use Rattle.dso_base.specs.declared.journal.Node.{Node}
use Rattle.dso_base.specs.declared.journal.Node.TheVariants.{Server, Client}
use Rattle.dso_base.specs.declared.journal.Sent.{Sent}
use Rattle.dso_base.specs.declared.journal.Sent.TheVariants.{ToServer, ToClient}
use Rattle.dso_base.specs.declared.lock.ThreadId.{ThreadId}
use Rattle.dso_base.specs.declared.message.Down.TheVariants as down
use Rattle.dso_base.specs.declared.message.Up.{Up}
use Rattle.dso_base.specs.declared.message.Up.TheVariants as up
use Rattle.dso_base.specs.declared.record.Body.{Body}
use Rattle.dso_base.specs.declared.record.Ending.{Ending}
use Rattle.dso_base.specs.declared.record.Set.{Set}
use Rattle.dso_base.specs.declared.request.Event.{Event}
use Rattle.dso_base.specs.declared.request.Event.TheVariants.{Act}
use Rattle.dso_base.specs.declared.request.Reply.{Reply}
use Rattle.dso_base.specs.declared.request.Reply.TheVariants.{Done, Made}
use Rattle.dso_base.specs.declared.request.Request.{Request}
use Rattle.dso_base.specs.declared.request.Request.TheVariants.{New, Put, Print, Notify, NotifyAll}
use Rattle.dso_base.specs.declared.shape.Shape.{Shape}
use Rattle.dso_base.specs.declared.value.Value.{Value}
use Rattle.dso_base.specs.Block.{Work, body_in, is_same_field, is_field_before, insert_set, put_shared, put, work_by}
use Rattle.dso_base.specs.Following.{is_thread}
use Rattle.dso_plain.specs.History.{is_act_of}
use Rattle.dso_plain.proofs.keys.SameKeys.{number_self, same_number, same_thread, thread_self}
use Rattle.dso_lookup.proofs.Tests.{both}
use Rattle.dso_law.specs.Settings.{Settings, threads_of}
use Rattle.dso_law.specs.Entries.{entries_of, by_event, by_sent_up, by_taken_down}
use Rattle.dso_law.specs.Threads.{locks_of, ending_of, block_after, open_block, work_of, or_else, own}
use Rattle.dso_law.specs.Copies.{resident_by_taken, resident_by_sent, unless_flushed, is_resident}
use Rattle.dso_law.specs.Records.{unacked}
use Rattle.dso_law.specs.Laws.{WorkAfter}
use Rattle.dso_law.specs.RequestNeeds.{Need, NeedsObject, unless, first_unmet, look_need, unmet}
use Rattle.dso_law.specs.Replies.{woken_by}
use Rattle.dso_law.specs.ClientStep.{event_puts_to, is_flushable, wants_object, changes_object, DoesOrAsks, ActsOn, ClientStepOn}
use Rattle.dso_law.proofs.client.WorkByEntry.{work_goes_on}
use Rattle.dso_legal.specs.Lawful.{next_after, ClientFollows, NodeFollows, AllFollow}
use Rattle.dso_legal.specs.Residency.{is_set, SetsAreResident}
use Rattle.dso_legal.proofs.records.BothEnds.{client_with}
use Rattle.dso_legal.proofs.leases.LeaseSteps.{unless_true, if_true, no_both}
use Rattle.dso_legal.proofs.records.Numbered.{same_either}
use Rattle.dso_legal.proofs.ids.OfBatches.{has_more}
use Rattle.dso_legal.proofs.objects.OwnObjects.{IsOthers, left_alone, work_alone}

-- one of two tests holds
either : (a b : Bool) → (a || b) ≡ true → (a ≡ true) ⊎ (b ≡ true)
either true b e = inl refl
either false b e = inr e

or_first : (a b : Bool) → a ≡ true → (a || b) ≡ true
or_first true b e = refl
or_first false b e = absurd (cc e)

pub or_later : (a b : Bool) → b ≡ true → (a || b) ≡ true
or_later true b e = refl
or_later false b e = e

-- a list has the one at its end
has_back : {X : Type 0} (test : X → Bool) (xs : List X) (x : X) → test x ≡ true → list_any test (xs ++ x ∷ []) ≡ true
has_back test [] x e = or_first (test x) false e
has_back test (y ∷ xs) x e = or_later (test y) (list_any test (xs ++ x ∷ [])) (has_back test xs x e)

-- what holds of no thread of a list doesn't hold of one that is in it
none_of : (test : ThreadId → Bool) (t : ThreadId) (threads : List ThreadId) → list_any (is_thread t) threads ≡ true → list_any test threads ≡ false → test t ≡ false
none_of test t [] e f = absurd (cc e)
none_of test t (u ∷ threads) e f = by (is_thread t u) (test u) refl refl e f (none_of test t threads)
  where
    by : (a b : Bool) → is_thread t u ≡ a → test u ≡ b → (a || list_any (is_thread t) threads) ≡ true → (b || list_any test threads) ≡ false → (list_any (is_thread t) threads ≡ true → list_any test threads ≡ false → test t ≡ false) → test t ≡ false
    by a true x y e f later = absurd (cc f)
    by true false x y e f later = subst (λ v. test v ≡ false) (same_thread t u x) y
    by false false x y e f later = later e f

-- a thread of the client that acts is one of its threads
of_client : (c : ℕ) (t : ThreadId) (threads : List ThreadId) → eqb t.client c ≡ true → list_any (is_thread t) threads ≡ true → list_any (is_thread t) (filter (λ t. eqb t.client c) threads) ≡ true
of_client c t [] mine e = e
of_client c t (u ∷ threads) mine e = by (is_thread t u) (eqb u.client c) refl refl e (of_client c t threads mine)
  where
    by : (a b : Bool) → is_thread t u ≡ a → eqb u.client c ≡ b → (a || list_any (is_thread t) threads) ≡ true → (list_any (is_thread t) threads ≡ true → list_any (is_thread t) (filter (λ t. eqb t.client c) threads) ≡ true)
        → list_any (is_thread t) (cond b (u ∷ filter (λ t. eqb t.client c) threads) (filter (λ t. eqb t.client c) threads)) ≡ true
    by true true x y e later = ap (λ b. b || list_any (is_thread t) (filter (λ t. eqb t.client c) threads)) x
    by true false x y e later = no_both (eqb t.client c) mine (subst (λ v. eqb v.client c ≡ false) (same_thread t u x) y)
    by false true x y e later = or_later (is_thread t u) (list_any (is_thread t) (filter (λ t. eqb t.client c) threads)) (later e)
    by false false x y e later = later e

-- a test that isn't made false
pub not_true : (b : Bool) → not b ≡ true → b ≡ false
not_true true e = absurd (cc e)
not_true false e = refl

module _ (o : ℕ) where
  -- a set among others is that one or one of them
  inserted : (set : Set) (sets : List Set) → is_set o (insert_set set sets) ≡ true → (eqb set.object o ≡ true) ⊎ (is_set o sets ≡ true)
  inserted set [] e = either (eqb set.object o) false e
  inserted set (first ∷ rest) e = by (is_same_field set first) (is_field_before set first) e (inserted set rest)
    where
      behind : (eqb set.object o ≡ true) ⊎ (is_set o rest ≡ true) → (eqb set.object o ≡ true) ⊎ (is_set o (first ∷ rest) ≡ true)
      behind (inl here) = inl here
      behind (inr there) = inr (or_later (eqb first.object o) (is_set o rest) there)

      in_front : (eqb first.object o ≡ true) ⊎ (is_set o (insert_set set rest) ≡ true) → (is_set o (insert_set set rest) ≡ true → (eqb set.object o ≡ true) ⊎ (is_set o rest ≡ true)) → (eqb set.object o ≡ true) ⊎ (is_set o (first ∷ rest) ≡ true)
      in_front (inl here) later = inr (or_first (eqb first.object o) (is_set o rest) here)
      in_front (inr there) later = behind (later there)

      by : (s b : Bool) → is_set o (cond s (set ∷ rest) (cond b (set ∷ first ∷ rest) (first ∷ insert_set set rest))) ≡ true → (is_set o (insert_set set rest) ≡ true → (eqb set.object o ≡ true) ⊎ (is_set o rest ≡ true))
          → (eqb set.object o ≡ true) ⊎ (is_set o (first ∷ rest) ≡ true)
      by true b e later = behind (either (eqb set.object o) (is_set o rest) e)
      by false true e later = either (eqb set.object o) (is_set o (first ∷ rest)) e
      by false false e later = in_front (either (eqb first.object o) (is_set o (insert_set set rest)) e) later

  -- an act sets the object anew: a done put to it, where it is none of the thread's own
  abbrev SetsAnew : Request → Reply → Work → Type 0
  SetsAnew (Put x f v) Done work = (eqb x o ≡ true) × (is_some (body_in x work.privates) ≡ false) × (is_some (body_in x work.news) ≡ false)
  SetsAnew request reply work = ⊥

  sets_shared : (b : Bool) (x f : ℕ) (v : Value) (work : Work) → is_some (body_in x work.privates) ≡ false → is_some (body_in x work.news) ≡ b → is_set o (put_shared x f v work).sets ≡ true
      → (is_set o work.sets ≡ true) ⊎ SetsAnew (Put x f v) Done work
  sets_shared true x f v work none there e = inl (subst (λ (w : Work). is_set o w.sets ≡ true) (if_true (is_some (body_in x work.news)) _ _ there) e)
  sets_shared false x f v work none there e = by (inserted (record { object = x; field = f; value = v }) work.sets (subst (λ (w : Work). is_set o w.sets ≡ true) (unless_true (is_some (body_in x work.news)) _ _ there) e))
    where
      by : (eqb x o ≡ true) ⊎ (is_set o work.sets ≡ true) → (is_set o work.sets ≡ true) ⊎ SetsAnew (Put x f v) Done work
      by (inl here) = inr (here, none, there)
      by (inr before) = inl before

  sets_put : (b : Bool) (x f : ℕ) (v : Value) (work : Work) → is_some (body_in x work.privates) ≡ b → is_set o (put x f v work).sets ≡ true → (is_set o work.sets ≡ true) ⊎ SetsAnew (Put x f v) Done work
  sets_put true x f v work is e = inl (subst (λ (w : Work). is_set o w.sets ≡ true) (if_true (is_some (body_in x work.privates)) _ _ is) e)
  sets_put false x f v work is e = sets_shared (is_some (body_in x work.news)) x f v work is refl (subst (λ (w : Work). is_set o w.sets ≡ true) (unless_true (is_some (body_in x work.privates)) _ _ is) e)

  sets_after : (shape : Shape) (request : Request) (reply : Reply) (woken : Option ThreadId) (work : Work) → is_set o (work_by shape request reply woken work).sets ≡ true → (is_set o work.sets ≡ true) ⊎ SetsAnew request reply work
  sets_after shape (Put x f v) Done woken work e = sets_put (is_some (body_in x work.privates)) x f v work refl e
  sets_after shape (New class n) (Made x) woken work e = inl e
  sets_after shape (Print v) Done woken work e = inl e
  sets_after shape (Notify l) Done woken work e = inl e
  sets_after shape (NotifyAll l) Done woken work e = inl e
  sets_after shape request reply woken work e = inl e

  -- what is resident stays so, but for a flush
  stays_said : (out : List Sent) (b : Bool) → b ≡ true → by_sent_up (resident_by_sent o) out b ≡ true
  stays_said [] b e = e
  stays_said (ToServer m ∷ out) b e = stays_said out (resident_by_sent o m b) (one m)
    where
      one : (m : Up) → resident_by_sent o m b ≡ true
      one (up.Commit txn) = ap (λ b. cond (list_any (λ (body : Body). eqb body.object o) txn.news) true b) e ∙ same_either (list_any (λ (body : Body). eqb body.object o) txn.news) true
      one m = e
  stays_said (ToClient c m ∷ out) b e = stays_said out b e

  stays_taken : (i : Input) (b : Bool) → b ≡ true → by_taken_down (resident_by_taken o) i b ≡ true
  stays_taken (input.TookDown (down.Object body)) b e = ap (cond (eqb body.object o) true) e ∙ same_either (eqb body.object o) true
  stays_taken other b e = e

  abbrev pub IsOtherInput : Input → Type 0
  IsOtherInput (input.Flush x) = eqb x o ≡ false
  IsOtherInput other = Unit {0}

  stays_unflushed : (i : Input) (b : Bool) → IsOtherInput i → b ≡ true → unless_flushed o i b ≡ true
  stays_unflushed (input.Flush x) b other e = unless_true (eqb x o) false b other ∙ e
  stays_unflushed i b other e = e

  pub stays : (e : Entry) (es : List Entry) → IsOtherInput e.input → is_resident o es ≡ true → is_resident o (e ∷ es) ≡ true
  stays e es other there = stays_unflushed e.input _ other (stays_said e.sent _ (stays_taken e.input (is_resident o es) there))

  module _ (p : Settings) (c : ℕ) where
    -- what the thread's open block sets is resident, and was put to in the block; and the thread is one of the client's
    pub record IsHeld (t : ThreadId) (es : List Entry) : Type 0 where
      pub there : is_set o (work_of p.shape t es).sets ≡ true → is_resident o es ≡ true
      pub put_to : is_set o (work_of p.shape t es).sets ≡ true → list_any (event_puts_to o) (open_block t es) ≡ true
      pub known : is_set o (work_of p.shape t es).sets ≡ true → list_any (is_thread t) (threads_of p c) ≡ true

    -- what each thread of the client has set in its open block is held
    abbrev pub AllHeld : List Entry → Type 0
    AllHeld es = (t : ThreadId) → IsHeld t es

    -- what a thread's request needs is met
    need_met : (b : Bool) (need : Need) → unless b need ≡ None → b ≡ true
    need_met true need e = refl
    need_met false need e = absurd (cc e)

    first_met : (a b : Option Need) → first_unmet a b ≡ None → a ≡ None
    first_met None b e = refl
    first_met (Some need) b e = absurd (cc e)

    no_own : (x : ℕ) (work : Work) → is_some (body_in x work.privates) ≡ false → is_some (body_in x work.news) ≡ false → is_some (or_else (body_in x work.privates) (body_in x work.news)) ≡ false
    no_own x work e f = by (body_in x work.privates) (body_in x work.news) e f
      where
        by : (a b : Option Body) → is_some a ≡ false → is_some b ≡ false → is_some (or_else a b) ≡ false
        by None b e f = f
        by (Some body) b e f = absurd (cc e)

    module _ (next : ThreadId → Option Request) (t : ThreadId) (es : List Entry) where
      -- what an act sets anew is resident
      anew_there : (request : Request) (reply : Reply) → unmet p c next t request es ≡ None → SetsAnew request reply (work_of p.shape t es) → is_resident o es ≡ true
      anew_there (Put x f v) Done met anew =
          let look = need_met (is_some (own p.shape t x es) || is_resident x es) (NeedsObject x) (first_met (look_need p c next t x es) _ met) in
          subst (λ n. is_resident n es ≡ true) (same_number x o anew.0)
          (ap (λ b. b || is_resident x es) (sym (no_own x (work_of p.shape t es) anew.1 anew.2)) ∙ look)
      anew_there request reply met anew = absurd anew

    -- and is put to
    anew_put : (t : ThreadId) (request : Request) (reply : Reply) (woken : Option ThreadId) (work : Work) → SetsAnew request reply work → event_puts_to o (Act t request reply woken) ≡ true
    anew_put t (Put x f v) Done woken work anew = anew.0
    anew_put t request reply woken work anew = absurd anew

    module _ (e : Entry) (es : List Entry) (held : AllHeld es) where
      -- an event of another thread, or none, leaves the thread's block
      block_alone : (t : ThreadId) → IsOthers t e.event → open_block t (e ∷ es) ≡ open_block t es
      block_alone t h = left_alone t (λ event block. block_after event (locks_of t es) block) e.event (open_block t es) h

      held_alone : (t : ThreadId) → IsOthers t e.event → (is_set o (work_of p.shape t es).sets ≡ true → is_resident o (e ∷ es) ≡ true) → IsHeld t es → IsHeld t (e ∷ es)
      held_alone t others resident h = record {
        there = λ set. resident (before set);
        put_to = λ set. ap (list_any (event_puts_to o)) (block_alone t others) ∙ h.put_to (before set);
        known = λ set. h.known (before set);
      }
        where
          before : is_set o (work_of p.shape t (e ∷ es)).sets ≡ true → is_set o (work_of p.shape t es).sets ≡ true
          before set = sym (ap (λ (w : Work). is_set o w.sets) (work_alone p.shape t e es others)) ∙ set

      -- an entry with no event
      held_quiet : e.event ≡ None → ((t : ThreadId) → is_set o (work_of p.shape t es).sets ≡ true → IsOtherInput e.input) → AllHeld (e ∷ es)
      held_quiet silent other t = held_alone t (subst (IsOthers t) (sym silent) tt) (λ set. stays e es (other t set) ((held t).there set)) (held t)

      -- an act
      module _ (next : ThreadId → Option Request) (w : ThreadId) (request : Request) (reply : Reply) (woken : Option ThreadId) (is : e.event ≡ Some (Act w request reply woken)) (met : unmet p c next w request es ≡ None)
          (unflushed : IsOtherInput e.input) (known : list_any (is_thread w) (threads_of p c) ≡ true) where
        abbrev event : Event
        event = Act w request reply woken

        goes : WorkAfter p.shape w event e es
        goes = work_goes_on p.shape w event e es (record { event_is = is; its = thread_self w })

        block_is : (ending : Option Ending) → ending_of event (locks_of w es) ≡ ending → open_block w (e ∷ es) ≡ cond (is_some ending) [] (open_block w es ++ event ∷ [])
        block_is ending ends = ap (λ event. by_event (λ event block. cond (is_act_of w event) (block_after event (locks_of w es) block) block) event (open_block w es)) is
            ∙ if_true (is_act_of w event) (block_after event (locks_of w es) (open_block w es)) (open_block w es) (thread_self w)
            ∙ ap (λ ending. cond (is_some ending) [] (open_block w es ++ event ∷ [])) ends

        held_by : (ending : Option Ending) → ending_of event (locks_of w es) ≡ ending → IsHeld w es → IsHeld w (e ∷ es)
        held_by None ends h = record {
          there = λ set. stays e es unflushed (there (parts set));
          put_to = λ set. ap (list_any (event_puts_to o)) (block_is None ends) ∙ put_to (parts set);
          known = λ set. known;
        }
          where
            parts : is_set o (work_of p.shape w (e ∷ es)).sets ≡ true → (is_set o (work_of p.shape w es).sets ≡ true) ⊎ SetsAnew request reply (work_of p.shape w es)
            parts set = sets_after p.shape request reply woken (work_of p.shape w es) (sym (ap (λ (w : Work). is_set o w.sets) (goes.goes_on ends)) ∙ set)

            there : (is_set o (work_of p.shape w es).sets ≡ true) ⊎ SetsAnew request reply (work_of p.shape w es) → is_resident o es ≡ true
            there (inl before) = h.there before
            there (inr anew) = anew_there next w es request reply met anew

            put_to : (is_set o (work_of p.shape w es).sets ≡ true) ⊎ SetsAnew request reply (work_of p.shape w es) → list_any (event_puts_to o) (open_block w es ++ event ∷ []) ≡ true
            put_to (inl before) = has_more (event_puts_to o) (open_block w es) (event ∷ []) (h.put_to before)
            put_to (inr anew) = has_back (event_puts_to o) (open_block w es) event (anew_put w request reply woken (work_of p.shape w es) anew)
        held_by (Some ending) ends h = record { there = λ set. absurd (none set); put_to = λ set. absurd (none set); known = λ set. known }
          where
            some_ending : Some ending ≡ None → ⊥
            some_ending e = cc e

            false_set : false ≡ true → ⊥
            false_set e = cc e

            none : is_set o (work_of p.shape w (e ∷ es)).sets ≡ true → ⊥
            none set = false_set (sym (ap (λ (w : Work). is_set o w.sets) (goes.ends (λ none. some_ending (sym ends ∙ none)))) ∙ set)

        held_act : AllHeld (e ∷ es)
        held_act t = by (is_thread t w) refl
          where
            by : (b : Bool) → is_thread t w ≡ b → IsHeld t (e ∷ es)
            by true same = subst (λ u. IsHeld u (e ∷ es)) (same_thread t w same) (held_by (ending_of event (locks_of w es)) refl (subst (λ u. IsHeld u es) (sym (same_thread t w same)) (held t)))
            by false other = held_alone t (subst (IsOthers t) (sym is) other) (λ set. stays e es unflushed ((held t).there set)) (held t)

      module _ (before after_it : ThreadId → Option Request) where
        held_does : (index : ℕ) (t : ThreadId) (request : Request) (need : Option Need) → list_any (is_thread t) (threads_of p c) ≡ true → e.input ≡ input.Act index → unmet p c before t request es ≡ need → DoesOrAsks p c t request need before after_it e es → AllHeld (e ∷ es)
        held_does index t request None known is met does = held_act before t request does.reply (woken_by request does.reply es) does.event met (subst IsOtherInput (sym is) tt) known
        held_does index t request (Some need) known is met asks = held_quiet asks.event (λ t set. subst IsOtherInput (sym is) tt)

        held_acts : (index : ℕ) (t : ThreadId) (request : Option Request) → list_any (is_thread t) (threads_of p c) ≡ true → e.input ≡ input.Act index → ActsOn p c t request before after_it e es → AllHeld (e ∷ es)
        held_acts index t None known is h = absurd h
        held_acts index t (Some request) known is h = held_does index t request (unmet p c before t request es) known is refl h

        -- no open block puts to what is flushable
        untouched : (x : ℕ) → is_flushable p c x es ≡ true → not (list_any (λ t. list_any (event_puts_to x) (open_block t es)) (threads_of p c)) ≡ true
        untouched x flushable =
            let unwanted : Bool = not (list_any (λ t. wants_object x t.index es) (threads_of p c)) in
            let unput : Bool = not (list_any (λ t. list_any (event_puts_to x) (open_block t es)) (threads_of p c)) in
            let unchanged : Bool = not (list_any (changes_object x) (unacked es)) in
            (both unput unwanted (both unchanged (unput && unwanted) (both (is_resident x es) (unchanged && (unput && unwanted)) flushable).1).1).0

        -- a flush of what some block sets can't be
        unflushable : (x : ℕ) → is_flushable p c x es ≡ true → (t : ThreadId) → is_set o (work_of p.shape t es).sets ≡ true → eqb x o ≡ false
        unflushable x flushable t set = by (eqb x o) refl
          where
            by : (b : Bool) → eqb x o ≡ b → b ≡ false
            by true e =
                let none = none_of (λ t. list_any (event_puts_to x) (open_block t es)) t (threads_of p c) ((held t).known set) (not_true (list_any (λ t. list_any (event_puts_to x) (open_block t es)) (threads_of p c)) (untouched x flushable)) in
                no_both (list_any (event_puts_to o) (open_block t es)) ((held t).put_to set) (subst (λ n. list_any (event_puts_to n) (open_block t es) ≡ false) (same_number x o e) none)
            by false e = refl

        pub held_step : (i : Input) → e.input ≡ i → ClientStepOn p c i before after_it e es → AllHeld (e ∷ es)
        held_step (input.Act index) is h = held_acts index (record { client = c; index = index }) (before (record { client = c; index = index })) (of_client c (record { client = c; index = index }) p.threads (number_self c) h.its) is h.acts
        held_step (input.TookDown m) is h = held_quiet h.event (λ t set. subst IsOtherInput (sym is) tt)
        held_step (input.Flush x) is h = held_quiet h.event (λ t set. subst IsOtherInput (sym is) (unflushable x h.may.flushable t set))
        held_step (input.Rejoin d) is h = held_quiet h.event (λ t set. subst IsOtherInput (sym is) tt)
        held_step other is h = absurd h

    module _ (next : ThreadId → List Event → Option Request) where
      held_client : (b : Bool) (d : ℕ) (e : Entry) (es : List Entry) → eqb c d ≡ b → ClientFollows p next d e es → AllHeld (entries_of (Client c) es) → AllHeld (cond b (e ∷ entries_of (Client c) es) (entries_of (Client c) es))
      held_client true d e es mine h held =
          let its : ClientFollows p next c e es = subst (λ n. ClientFollows p next n e es) (sym (same_number c d mine)) h in
          held_step e (entries_of (Client c) es) held (next_after next es) (next_after next (e ∷ es)) e.input refl its.step
      held_client false d e es mine h held = held

      held_at : (node : Node) (e : Entry) (es : List Entry) → NodeFollows p next node e es → AllHeld (entries_of (Client c) es) → AllHeld (client_with c node e es)
      held_at Server e es h held = held
      held_at (Client d) e es h held = held_client (eqb c d) d e es refl h held

      pub start_held : AllHeld []
      start_held t = record { there = λ set. absurd (never set); put_to = λ set. absurd (never set); known = λ set. absurd (never set) }
        where
          never : false ≡ true → ⊥
          never e = cc e

      -- What an open block sets is resident, over a whole journal.
      pub all_held : (es : List Entry) → AllFollow p next es → AllHeld (entries_of (Client c) es)
      all_held [] follow = start_held
      all_held (e ∷ es) follow = held_at e.node e es follow.1.rule (all_held es follow.0)

pub sets_are_resident : SetsAreResident
sets_are_resident p next es h t o set = (all_held o p t.client next es h.follow t).there set
