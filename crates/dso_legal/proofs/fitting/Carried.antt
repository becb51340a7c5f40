-- Classes, sizes and values along a journal: what holds of them in all that is in hand, copied, stored and in flight holds on.
use Rattle.std.specs.List.{AllByRecursion}
use Rattle.std.proofs.Common.{ℕ, ◌<◌, ◌≡◌, ◌⊎◌, inl, inr, refl, sym, ◌∙◌, ap, subst, Bool, true, false, cond, eqb, ltb, Option, Some, None, List, [], ◌∷◌, ◌++◌, slice_get, drop}
use Rattle.std.specs.Prelude.{replicate}
use Rattle.std.proofs.lemmas.Bool.{ltb-true}
use Rattle.std.proofs.lemmas.List.{length-replicate}
use Rattle.dso_base.specs.Block.{Work, start, opening_value, work_after, worked}
use Rattle.dso_base.specs.declared.journal.Entry.{Entry}
use Rattle.dso_base.specs.declared.journal.Input.{Input}
use Rattle.dso_base.specs.declared.journal.Input.TheVariants as input
use Rattle.dso_base.specs.declared.journal.Node.{Node}
use Rattle.dso_base.specs.declared.journal.Node.TheVariants.{Server, Client}
use Rattle.dso_base.specs.declared.lock.ThreadId.{ThreadId}
use Rattle.dso_base.specs.declared.message.Down.{Down}
use Rattle.dso_base.specs.declared.message.Down.TheVariants as down
use Rattle.dso_base.specs.declared.message.Up.{Up}
use Rattle.dso_base.specs.declared.message.Up.TheVariants as up
use Rattle.dso_base.specs.declared.record.Body.{Body}
use Rattle.dso_base.specs.declared.record.Ending.{Ending}
use Rattle.dso_base.specs.declared.record.Set.{Set}
use Rattle.dso_base.specs.declared.request.Event.{Event}
use Rattle.dso_base.specs.declared.request.Event.TheVariants.{Act, Lost}
use Rattle.dso_base.specs.declared.request.Reply.{Reply}
use Rattle.dso_base.specs.declared.request.Reply.TheVariants.{Done, Made, Seen, Val}
use Rattle.dso_base.specs.declared.request.Request.{Request}
use Rattle.dso_base.specs.declared.request.Request.TheVariants.{New, Look, Put, Print}
use Rattle.dso_base.specs.declared.value.ClassId.{ClassId}
use Rattle.dso_base.specs.declared.value.ClassId.TheVariants.{Roots}
use Rattle.dso_base.specs.declared.value.Value.{Value}
use Rattle.dso_base.specs.declared.value.Value.TheVariants as value
use Rattle.dso_base.specs.Following.{is_thread}
use Rattle.dso_base.specs.Shape.{kind_of}
use Rattle.dso_plain.proofs.keys.SameKeys.{same_number, same_thread, thread_self}
use Rattle.dso_law.specs.Settings.{Settings}
use Rattle.dso_law.specs.Entries.{entries_of, by_event, by_taken_down, by_taken_up, add_event, events_in}
use Rattle.dso_law.specs.Channels.{Letter, up_in_flight, down_in_flight, IsFirst, TakesFirst, takes_up, takes_down}
use Rattle.dso_law.specs.Copies.{value_held, class_held, value_by_taken, value_by_sent, class_by_taken, class_by_sent}
use Rattle.dso_law.specs.Laws.{WorkAfter}
use Rattle.dso_law.specs.Replies.{woken_by}
use Rattle.dso_law.specs.ServerReadings.{is_of_lost, counted}
use Rattle.dso_law.specs.ServerStep.{sets_for}
use Rattle.dso_law.specs.Store.{opening_roots, stored, body_by}
use Rattle.dso_law.specs.Threads.{ending_of, locks_of, open_block, privates_before, work_of}
use Rattle.dso_law.specs.ClientStep.{record_of, commits}
use Rattle.dso_law.proofs.client.WorkByEntry.{work_goes_on}
use Rattle.dso_legal.specs.Agreement.{messages}
use Rattle.dso_legal.specs.ClassesKept.{class_made}
use Rattle.dso_legal.specs.Lawful.{next_after, ClientFollows, ServerFollows, NodeFollows, AllFollow}
use Rattle.dso_legal.proofs.acts.ClientActs.{IsNoRecord, NoRecords, IsQuiet, HasEvent, client_acted}
use Rattle.dso_legal.proofs.blocks.OwnActs.{IsNextAct, next_act}
use Rattle.dso_legal.proofs.channels.AfterEntry.{OwnTurn, OtherTurn, ServerTurn, own_turn, other_turn, server_turn}
use Rattle.dso_legal.proofs.channels.InFlight.{said_of, told_to, said_status}
use Rattle.dso_legal.proofs.copies.ChangesSent.{changes_down}
use Rattle.dso_legal.proofs.copies.ServerMessages.{IsOfLease, IsWake, IsTold, IsToldOn, what_is_told}
use Rattle.dso_legal.proofs.ids.Making.{IsNew, only_new}
use Rattle.dso_legal.proofs.objects.StoredBodies.{value_of_many}
use Rattle.dso_legal.proofs.objects.OwnObjects.{IsOthers, worked_more, work_alone}
use Rattle.dso_legal.proofs.fitting.InHand.{BodyHas, SetHas, WorkHas, ActHas, each_filtered, each_of_two, each_so, start_has, act_has, body_more, work_more}
use Rattle.dso_legal.proofs.fitting.Messages.{kept_after, UpHas, DownHas, ClassHas, ValueHas, StoredHas, class_taken, value_taken, class_sent, value_sent, stored_taken}
use Rattle.dso_legal.proofs.fitting.Replies.{IsReal, ReplyHas, SawHas, MayTell, CopiesHave, reply_has}
use Rattle.dso_legal.proofs.fitting.ClassesMade.{fresh, class_of_new, class_stays}

-- the first that is taken is one of those in flight, and the others stay
pub first_of : {M : Type 0} (P : M → Type 0) (m : M) (letters : List (Letter M)) → IsFirst m letters → AllByRecursion P (messages letters) → P m
first_of P m [] first all = absurd first
first_of P m (letter ∷ letters) first all = subst P (sym first) all.0

pub rest_of : {M : Type 0} (P : M → Type 0) (b : Bool) (ms : List M) → AllByRecursion P ms → AllByRecursion P (cond b (drop 1 ms) ms)
rest_of P true [] all = tt
rest_of P true (m ∷ ms) all = all.1
rest_of P false ms all = all

-- one more event of the thread, or none
event_added : (P : Event → Type 0) (t : ThreadId) (event : Event) (events : List Event) → P event → AllByRecursion P events → AllByRecursion P (add_event t event events)
event_added P t (Act u q r woken) events it all = by (is_thread t u)
  where
    by : (b : Bool) → AllByRecursion P (cond b (events ++ Act u q r woken ∷ []) events)
    by true = each_of_two P events (Act u q r woken ∷ []) all (it, tt)
    by false = all
event_added P t (Lost client) events it all = all

-- the class and the size of the new object that is asked for
abbrev asked_class : (request : Request) → IsNew request → ClassId × ℕ
asked_class (New class n) is = (class, n)
asked_class request is = absurd is

module _ (p : Settings) (next : ThreadId → List Event → Option Request) (F : List Entry → ℕ → ℕ → Value → Type 0) (V O : List Entry → Value → Type 0) where
  -- the object was made so
  abbrev pub C : List Entry → ℕ → ClassId → ℕ → Type 0
  C now o class n = class_made p.shape o now ≡ Some (class, n)

  abbrev pub EventHas : List Entry → Event → Type 0
  EventHas now (Act t request reply woken) = ReplyHas (C now) (F now) (V now) (O now) request reply
  EventHas now (Lost client) = Unit {0}

  abbrev pub BodyNow : List Entry → Body → Type 0
  BodyNow now = BodyHas (C now) (F now) (V now) (O now)

  abbrev pub UpNow : List Entry → Up → Type 0
  UpNow now = UpHas (C now) (F now) (V now) (O now)

  abbrev pub DownNow : List Entry → Down → Type 0
  DownNow now = DownHas (C now) (F now) (V now) (O now)

  abbrev pub WorkNow : List Entry → Work → Type 0
  WorkNow now = WorkHas (C now) (F now) (V now) (O now)

  -- so of a client: what its threads have in hand and were told, its copies, and what is in flight from it and to it
  pub record ClientHas (now own : List Entry) (ups : List Up) (downs : List Down) : Type 0 where
    pub works : (t : ThreadId) → WorkNow now (work_of p.shape t own)
    pub told : (t : ThreadId) → AllByRecursion (EventHas now) (events_in t own)
    pub copies : CopiesHave (C now) (F now) (V now) (O now) own
    pub up : AllByRecursion (UpNow now) ups
    pub down : AllByRecursion (DownNow now) downs

  -- so of all clients, and of the server's graph
  pub record AllHave (es : List Entry) : Type 0 where
    pub clients : (c : ℕ) → ClientHas es (entries_of (Client c) es) (messages (up_in_flight c es)) (messages (down_in_flight c es))
    pub graph : (o : ℕ) → StoredHas (C es) (F es) (V es) (O es) o (stored p.shape o (counted (entries_of Server es)))

  -- what an act must bring besides the class
  abbrev pub Brings : List Entry → Request → Reply → Type 0
  Brings now (New class n) (Made o) = (f : ℕ) → f < n → F now o f (opening_value (kind_of p.shape class f))
  Brings now (Put o f v) Done = F now o f v
  Brings now (Print v) Done = O now v
  Brings now request reply = Unit {0}

  -- What is asked of fields, of values told and of values printed: they hold on; what is read may be told; the roots have theirs; and each act brings its own.
  pub record Keeps : Type 0 where
    pub fields : (e : Entry) (es : List Entry) → AllFollow p next (e ∷ es) → (o f : ℕ) (v : Value) → F es o f v → F (e ∷ es) o f v
    pub values : (e : Entry) (es : List Entry) → AllFollow p next (e ∷ es) → (v : Value) → V es v → V (e ∷ es) v
    pub outs : (e : Entry) (es : List Entry) → AllFollow p next (e ∷ es) → (v : Value) → O es v → O (e ∷ es) v
    pub tells : (es : List Entry) → MayTell (C es) (F es) (V es) (O es)
    pub roots : (r : ℕ) → r < p.shape.roots → F [] 0 r value.Null
    pub acts : (e : Entry) (es : List Entry) → AllFollow p next (e ∷ es) → AllHave es → (c : ℕ) (it : IsNextAct p c (next_after next es) e (entries_of (Client c) es)) → Brings (e ∷ es) it.request it.reply

  module _ (keeps : Keeps) where
    -- ---- at the start

    -- each root is null
    null_there : (n f : ℕ) (v : Value) → slice_get (replicate n value.Null) f ≡ Some v → (f < n) × (value.Null ≡ v)
    null_there n f v is = by (ltb f n) refl (value_of_many n f value.Null ∙ is)
      where
        by : (b : Bool) → ltb f n ≡ b → cond b (Some value.Null) None ≡ Some v → (f < n) × (value.Null ≡ v)
        by true less at = (ltb-true f n less, cc at)
        by false less at = absurd (cc at)

    roots_have : BodyNow [] (opening_roots p.shape)
    roots_have = record {
      class = ap (λ n. Some (Roots, n)) (sym (length-replicate p.shape.roots value.Null));
      values = λ f v is.
          let at = null_there p.shape.roots f v is in
          subst (F [] 0 f) at.1 (keeps.roots f at.0);
    }

    opening_has : (o : ℕ) → StoredHas (C []) (F []) (V []) (O []) o (stored p.shape o [])
    opening_has o = by (eqb o 0) refl
      where
        by : (b : Bool) → eqb o 0 ≡ b → StoredHas (C []) (F []) (V []) (O []) o (cond b (Some (opening_roots p.shape)) None)
        by true is = (sym (same_number o 0 is), roots_have)
        by false is = tt

    -- ---- one more entry

    module _ (e : Entry) (es : List Entry) (follow : AllFollow p next (e ∷ es)) where
      abbrev now : List Entry
      now = e ∷ es

      class_more : (o : ℕ) (class : ClassId) (n : ℕ) → C es o class n → C now o class n
      class_more o class n h = class_stays p.shape p next e es follow o (class, n) h

      saw_more : (request : Request) (class : ClassId) (n : ℕ) → SawHas (C es) (F es) (V es) (O es) request class n → SawHas (C now) (F now) (V now) (O now) request class n
      saw_more (Look o) class n h = class_more o class n h
      saw_more request class n h = tt

      reply_more : (request : Request) (reply : Reply) → ReplyHas (C es) (F es) (V es) (O es) request reply → ReplyHas (C now) (F now) (V now) (O now) request reply
      reply_more request (Seen class n) h = saw_more request class n h
      reply_more request (Made o) h = record { real = h.real; class = h.class; size = h.size; made = class_more o h.class h.size h.made }
      reply_more request (Val v) h = keeps.values e es follow v h
      reply_more request reply h = tt

      event_more : (event : Event) → EventHas es event → EventHas now event
      event_more (Act t request reply woken) h = reply_more request reply h
      event_more (Lost client) h = tt

      each_body_more : (bodies : List Body) → AllByRecursion (BodyNow es) bodies → AllByRecursion (BodyNow now) bodies
      each_body_more = each_so (BodyNow es) (BodyNow now) (body_more (C es) (C now) (F es) (F now) (V es) (V now) (O es) (O now) class_more (keeps.fields e es follow) (keeps.values e es follow) (keeps.outs e es follow))

      each_set_more : (sets : List Set) → AllByRecursion (SetHas (C es) (F es) (V es) (O es)) sets → AllByRecursion (SetHas (C now) (F now) (V now) (O now)) sets
      each_set_more = each_so (SetHas (C es) (F es) (V es) (O es)) (SetHas (C now) (F now) (V now) (O now)) (λ set it. keeps.fields e es follow set.object set.field set.value it)

      up_more : (m : Up) → UpNow es m → UpNow now m
      up_more (up.Commit txn) h = (each_body_more txn.news h.0, each_set_more txn.sets h.1, each_so (O es) (O now) (keeps.outs e es follow) txn.outs h.2)
      up_more m h = tt

      down_more : (m : Down) → DownNow es m → DownNow now m
      down_more (down.Object body) h = body_more (C es) (C now) (F es) (F now) (V es) (V now) (O es) (O now) class_more (keeps.fields e es follow) (keeps.values e es follow) (keeps.outs e es follow) body h
      down_more (down.Changes sets) h = each_set_more sets h
      down_more m h = tt

      held_class_more : (o : ℕ) (class : Option (ClassId × ℕ)) → ClassHas (C es) (F es) (V es) (O es) o class → ClassHas (C now) (F now) (V now) (O now) o class
      held_class_more o None h = tt
      held_class_more o (Some class) h = class_more o class.0 class.1 h

      held_value_more : (o f : ℕ) (v : Option Value) → ValueHas (C es) (F es) (V es) (O es) o f v → ValueHas (C now) (F now) (V now) (O now) o f v
      held_value_more o f None h = tt
      held_value_more o f (Some v) h = keeps.fields e es follow o f v h

      stored_more : (o : ℕ) (body : Option Body) → StoredHas (C es) (F es) (V es) (O es) o body → StoredHas (C now) (F now) (V now) (O now) o body
      stored_more o None h = tt
      stored_more o (Some body) h = (h.0, body_more (C es) (C now) (F es) (F now) (V es) (V now) (O es) (O now) class_more (keeps.fields e es follow) (keeps.values e es follow) (keeps.outs e es follow) body h.1)

      client_more : (own : List Entry) (ups : List Up) (downs : List Down) → ClientHas es own ups downs → ClientHas now own ups downs
      client_more own ups downs h = record {
        works = λ t. work_more (C es) (C now) (F es) (F now) (V es) (V now) (O es) (O now) class_more (keeps.fields e es follow) (keeps.values e es follow) (keeps.outs e es follow) (work_of p.shape t own) (h.works t);
        told = λ t. each_so (EventHas es) (EventHas now) event_more (events_in t own) (h.told t);
        copies = record { class = λ o. held_class_more o (class_held o own) (h.copies.class o); value = λ o f. held_value_more o f (value_held o f own) (h.copies.value o f) };
        up = each_so (UpNow es) (UpNow now) up_more ups h.up;
        down = each_so (DownNow es) (DownNow now) down_more downs h.down;
      }

      -- ---- of a client

      -- a message that is no record carries nothing
      no_record_has : (ms : List Up) → NoRecords ms → AllByRecursion (UpNow now) ms
      no_record_has [] none = tt
      no_record_has (m ∷ ms) none = (one m none.0, no_record_has ms none.1)
        where
          one : (m : Up) → IsNoRecord m → UpNow now m
          one (up.Commit txn) none = absurd none
          one m none = tt

      -- what an act brings: what its work must have, and of a new object that it is one
      record Brought (request : Request) (reply : Reply) : Type 0 where
        work : ActHas (C now) (F now) (V now) (O now) p.shape request reply
        made : (o : ℕ) → reply ≡ Made o → IsReal (C now) (F now) (V now) (O now) o

      module _ (own : List Entry) (ups : List Up) (downs : List Down) (has : ClientHas now own ups downs) where
        module _ (it : HasEvent p e own) (brought : Brought it.request it.reply) where
          abbrev event : Event
          event = Act it.thread it.request it.reply (woken_by it.request it.reply own)

          -- the work in hand after the event
          later_has : WorkNow now (work_after p.shape event (work_of p.shape it.thread own))
          later_has = act_has (C now) (F now) (V now) (O now) p.shape it.request it.reply (woken_by it.request it.reply own) (work_of p.shape it.thread own) (has.works it.thread) brought.work

          goes : WorkAfter p.shape it.thread event e own
          goes = work_goes_on p.shape it.thread event e own (record { event_is = it.event; its = thread_self it.thread })

          own_work : (ending : Option Ending) → ending_of event (locks_of it.thread own) ≡ ending → WorkNow now (work_of p.shape it.thread (e ∷ own))
          own_work None is = subst (WorkNow now) (sym (goes.goes_on is)) later_has
          own_work (Some ending) is = subst (WorkNow now) (sym (goes.ends (λ none. some_ending (sym is ∙ none))))
              (start_has (C now) (F now) (V now) (O now) (work_after p.shape event (work_of p.shape it.thread own)).privates later_has.privates)
            where
              some_ending : Some ending ≡ None → ⊥
              some_ending none = cc none

          event_works : (t : ThreadId) → WorkNow now (work_of p.shape t (e ∷ own))
          event_works t = by (is_thread t it.thread) refl
            where
              by : (b : Bool) → is_thread t it.thread ≡ b → WorkNow now (work_of p.shape t (e ∷ own))
              by true is = subst (λ u. WorkNow now (work_of p.shape u (e ∷ own))) (same_thread t it.thread is) (own_work (ending_of event (locks_of it.thread own)) refl)
              by false is = subst (WorkNow now) (sym (work_alone p.shape t e own (subst (IsOthers t) (sym it.event) is))) (has.works t)

          -- the record that the event ends
          record_has : (ending : Option Ending) → AllByRecursion (UpNow now) (record_of p it.thread event ending own)
          record_has None = tt
          record_has (Some ending) =
              let whole : WorkNow now (worked p.shape (open_block it.thread own ++ event ∷ []) (start (privates_before p.shape it.thread own))) =
              subst (WorkNow now) (sym (worked_more p.shape (open_block it.thread own) event (start (privates_before p.shape it.thread own)))) later_has in
              ((whole.news, whole.sets, whole.outs), tt)

          event_said : AllByRecursion (UpNow now) (said_of e.sent)
          event_said = subst (AllByRecursion (UpNow now)) (sym it.whole)
              (each_of_two (UpNow now) (commits p it.thread event own) it.rest (record_has (ending_of event (locks_of it.thread own))) (no_record_has it.rest it.no_records))

          event_told : (t : ThreadId) → AllByRecursion (EventHas now) (events_in t (e ∷ own))
          event_told t = subst (λ event. AllByRecursion (EventHas now) (by_event (add_event t) event (events_in t own))) (sym it.event)
              (event_added (EventHas now) t event (events_in t own)
              (reply_has (C now) (F now) (V now) (O now) p it.thread own (has.works it.thread) has.copies (keeps.tells now) it.request it.reply brought.made it.answered) (has.told t))

        -- what an entry of the client says, and what its threads have then
        record Says : Type 0 where
          said : AllByRecursion (UpNow now) (said_of e.sent)
          works : (t : ThreadId) → WorkNow now (work_of p.shape t (e ∷ own))
          told : (t : ThreadId) → AllByRecursion (EventHas now) (events_in t (e ∷ own))

        says : IsQuiet e ⊎ HasEvent p e own → ((it : HasEvent p e own) → Brought it.request it.reply) → Says
        says (inl quiet) brings = record {
          said = no_record_has (said_of e.sent) quiet.no_records;
          works = λ t. subst (WorkNow now) (sym (work_alone p.shape t e own (subst (IsOthers t) (sym quiet.event) tt))) (has.works t);
          told = λ t. subst (λ event. AllByRecursion (EventHas now) (by_event (add_event t) event (events_in t own))) (sym quiet.event) (has.told t);
        }
        says (inr it) brings = record { said = event_said it (brings it); works = event_works it (brings it); told = event_told it (brings it) }

        -- what it takes in
        class_in : (i : Input) (o : ℕ) → ((m : Down) → i ≡ input.TookDown m → DownNow now m) → ClassHas (C now) (F now) (V now) (O now) o (by_taken_down (class_by_taken o) i (class_held o own))
        class_in (input.TookDown m) o took = class_taken (C now) (F now) (V now) (O now) o m (class_held o own) (took m refl) (has.copies.class o)
        class_in i o took = has.copies.class o

        value_in : (i : Input) (o f : ℕ) → ((m : Down) → i ≡ input.TookDown m → DownNow now m) → ValueHas (C now) (F now) (V now) (O now) o f (by_taken_down (value_by_taken o f) i (value_held o f own))
        value_in (input.TookDown m) o f took = value_taken (C now) (F now) (V now) (O now) o f m (value_held o f own) (took m refl) (has.copies.value o f)
        value_in i o f took = has.copies.value o f

        copies_have : ((m : Down) → e.input ≡ input.TookDown m → DownNow now m) → AllByRecursion (UpNow now) (said_of e.sent) → CopiesHave (C now) (F now) (V now) (O now) (e ∷ own)
        copies_have took said = record {
          class = λ o. subst (ClassHas (C now) (F now) (V now) (O now) o) (sym (said_status (class_by_sent o) e.sent (by_taken_down (class_by_taken o) e.input (class_held o own))))
              (kept_after (ClassHas (C now) (F now) (V now) (O now) o) (UpNow now) (class_by_sent o) (class_sent (C now) (F now) (V now) (O now) o) (said_of e.sent) (by_taken_down (class_by_taken o) e.input (class_held o own)) said (class_in e.input o took));
          value = λ o f. subst (ValueHas (C now) (F now) (V now) (O now) o f) (sym (said_status (value_by_sent o f) e.sent (by_taken_down (value_by_taken o f) e.input (value_held o f own))))
              (kept_after (ValueHas (C now) (F now) (V now) (O now) o f) (UpNow now) (value_by_sent o f) (value_sent (C now) (F now) (V now) (O now) o f) (said_of e.sent) (by_taken_down (value_by_taken o f) e.input (value_held o f own)) said (value_in e.input o f took));
        }

        client_goes : IsQuiet e ⊎ HasEvent p e own → ((it : HasEvent p e own) → Brought it.request it.reply) → ((m : Down) → e.input ≡ input.TookDown m → DownNow now m)
            → ClientHas now (e ∷ own) (ups ++ said_of e.sent) (cond (takes_down e.input) (drop 1 downs) downs)
        client_goes does brings took =
            let s : Says = says does brings in
            record {
              works = s.works;
              told = s.told;
              copies = copies_have took s.said;
              up = each_of_two (UpNow now) ups (said_of e.sent) has.up s.said;
              down = rest_of (DownNow now) (takes_down e.input) downs has.down;
            }

      -- ---- by whose turn it is

      -- a new object has the class and the size that were asked for
      class_new : (t : ThreadId) (class : ClassId) (n o : ℕ) (woken : Option ThreadId) → e.event ≡ Some (Act t (New class n) (Made o) woken) → C now o class n
      class_new t class n o woken is = class_of_new p.shape e es t class n o woken is

      -- so for any request that asks for one
      class_asked_for : (t : ThreadId) (request : Request) (o : ℕ) (woken : Option ThreadId) (is : IsNew request) → e.event ≡ Some (Act t request (Made o) woken) → C now o (asked_class request is).0 (asked_class request is).1
      class_asked_for t (New class n) o woken is happens = class_new t class n o woken happens
      class_asked_for t request o woken is happens = absurd is

      brings_all : (t : ThreadId) (request : Request) (reply : Reply) (woken : Option ThreadId) → e.event ≡ Some (Act t request reply woken) → Brings now request reply → ActHas (C now) (F now) (V now) (O now) p.shape request reply
      brings_all t (New class n) (Made o) woken is h = (class_new t class n o woken is, h)
      brings_all t (Put o f v) Done woken is h = h
      brings_all t (Print v) Done woken is h = h
      brings_all t request reply woken is h = tt

      -- two readings of one event
      same_act : (P : Request → Reply → Type 0) (t u : ThreadId) (q q' : Request) (r r' : Reply) (w w' : Option ThreadId) → Some (Act t q r w) ≡ Some (Act u q' r' w') → P q r → P q' r'
      same_act P t u q q' r r' w w' same h =
          let request : q ≡ q' = cc same in
          let reply : r ≡ r' = cc same in
          subst (P q') reply (subst (λ x. P x r) request h)

      module _ (before : AllHave es) where
        -- what each client has of what is known now
        client_now : (c : ℕ) → ClientHas now (entries_of (Client c) es) (messages (up_in_flight c es)) (messages (down_in_flight c es))
        client_now c = client_more (entries_of (Client c) es) (messages (up_in_flight c es)) (messages (down_in_flight c es)) (before.clients c)

        graph_now : (o : ℕ) → StoredHas (C now) (F now) (V now) (O now) o (stored p.shape o (counted (entries_of Server es)))
        graph_now o = stored_more o (stored p.shape o (counted (entries_of Server es))) (before.graph o)

        -- the client itself
        own_client : (c : ℕ) → e.node ≡ Client c → ClientHas now (entries_of (Client c) now) (messages (up_in_flight c now)) (messages (down_in_flight c now))
        own_client c node =
            let own : List Entry = entries_of (Client c) es in
            let turn : OwnTurn c e es = own_turn c e es node in
            let mine : ClientFollows p next c e es = subst (λ n. NodeFollows p next n e es) node follow.1.rule in
            let first : TakesFirst e.input (Client c) es = subst (λ n. TakesFirst e.input n es) node follow.1.channels in
            let acted = next_act p c (next_after next es) (next_after next now) e own mine.step in
            let goes_on : ClientHas now (e ∷ own) (messages (up_in_flight c es) ++ said_of e.sent) (cond (takes_down e.input) (drop 1 (messages (down_in_flight c es))) (messages (down_in_flight c es))) =
            client_goes own (messages (up_in_flight c es)) (messages (down_in_flight c es)) (client_now c)
            (client_acted p c (next_after next es) (next_after next now) e own mine.step) (brings acted)
            (λ m is. first_of (DownNow now) m (down_in_flight c es) (subst (λ i. TakesFirst i (Client c) es) is first) (client_now c).down) in
            subst (λ downs. ClientHas now (entries_of (Client c) now) (messages (up_in_flight c now)) downs) (sym turn.down)
            (subst (λ ups. ClientHas now (entries_of (Client c) now) ups (cond (takes_down e.input) (drop 1 (messages (down_in_flight c es))) (messages (down_in_flight c es)))) (sym turn.up)
            (subst (λ entries. ClientHas now entries (messages (up_in_flight c es) ++ said_of e.sent) (cond (takes_down e.input) (drop 1 (messages (down_in_flight c es))) (messages (down_in_flight c es)))) (sym turn.own) goes_on))
          where
            no_event : {event : Event} → e.event ≡ None → e.event ≡ Some event → ⊥
            no_event none some = cc (sym none ∙ some)

            new_object : (act : IsNextAct p c (next_after next es) e (entries_of (Client c) es)) (o : ℕ) → act.reply ≡ Made o → IsReal (C now) (F now) (V now) (O now) o
            new_object act o is = record {
              real = (fresh p next e es follow.0 (record { client = c; node = node; act = act }) o is).real;
              class = (asked_class act.request fair).0;
              size = (asked_class act.request fair).1;
              made = class_asked_for act.thread act.request o woken fair (subst (λ r. e.event ≡ Some (Act act.thread act.request r woken)) is act.event);
            }
              where
                woken : Option ThreadId
                woken = woken_by act.request act.reply (entries_of (Client c) es)

                fair : IsNew act.request
                fair = only_new p act.thread act.request (entries_of (Client c) es) o (act.answered ∙ ap Some is)

            brings : (e.event ≡ None) ⊎ IsNextAct p c (next_after next es) e (entries_of (Client c) es) → (it : HasEvent p e (entries_of (Client c) es)) → Brought it.request it.reply
            brings (inl none) it = absurd (no_event none it.event)
            brings (inr act) it =
                let own : List Entry = entries_of (Client c) es in
                same_act Brought act.thread it.thread act.request it.request act.reply it.reply (woken_by act.request act.reply own) (woken_by it.request it.reply own) (sym act.event ∙ it.event) (record {
                  work = brings_all act.thread act.request act.reply (woken_by act.request act.reply own) act.event (keeps.acts e es follow before c act);
                  made = new_object act;
                })

        -- another client
        other_client : (c d : ℕ) → e.node ≡ Client d → eqb c d ≡ false → ClientHas now (entries_of (Client c) now) (messages (up_in_flight c now)) (messages (down_in_flight c now))
        other_client c d node other =
            let turn : OtherTurn c e es = other_turn c d e es node other in
            subst (λ letters. ClientHas now (entries_of (Client c) now) (messages (up_in_flight c now)) (messages letters)) (sym turn.down)
            (subst (λ letters. ClientHas now (entries_of (Client c) now) (messages letters) (messages (down_in_flight c es))) (sym turn.up)
            (subst (λ entries. ClientHas now entries (messages (up_in_flight c es)) (messages (down_in_flight c es))) (sym turn.own) (client_now c)))

        -- what the server takes was in flight
        up_taken : (d : ℕ) (m : Up) → e.node ≡ Server → e.input ≡ input.TookUp d m → UpNow now m
        up_taken d m node is = first_of (UpNow now) m (up_in_flight d es)
            (subst (λ i. TakesFirst i Server es) is (subst (λ n. TakesFirst e.input n es) node follow.1.channels)) (client_now d).up

        -- a message of a lease and a waking carry nothing
        leases_have : (ms : List Down) → AllByRecursion IsOfLease ms → AllByRecursion (DownNow now) ms
        leases_have = each_so IsOfLease (DownNow now) one
          where
            one : (m : Down) → IsOfLease m → DownNow now m
            one (down.Grant l level) h = tt
            one (down.Recall l) h = tt
            one m h = absurd h

        wakes_have : (ms : List Down) → AllByRecursion IsWake ms → AllByRecursion (DownNow now) ms
        wakes_have = each_so IsWake (DownNow now) one
          where
            one : (m : Down) → IsWake m → DownNow now m
            one (down.Wake l t) h = tt
            one m h = absurd h

        changes_have : (sets : List Set) → AllByRecursion (SetHas (C now) (F now) (V now) (O now)) sets → AllByRecursion (DownNow now) (changes_down sets)
        changes_have [] h = tt
        changes_have (set ∷ sets) h = (h, tt)

        none_have : (ms : List Down) → ms ≡ [] → AllByRecursion (DownNow now) ms
        none_have ms is = subst (AllByRecursion (DownNow now)) (sym is) tt

        -- one message, or none
        one_has : (b : Bool) (m : Down) → DownNow now m → AllByRecursion (DownNow now) (cond b (m ∷ []) [])
        one_has true m h = (h, tt)
        one_has false m h = tt

        body_there : (o : ℕ) (found : Body) (body : Option Body) → StoredHas (C now) (F now) (V now) (O now) o body → body ≡ Some found → BodyNow now found
        body_there o found None h is = absurd (cc is)
        body_there o found (Some body) h is =
            let same : body ≡ found = cc is in
            subst (BodyNow now) same h.1

        module _ (node : e.node ≡ Server) (c : ℕ) where
          abbrev server : List Entry
          server = counted (entries_of Server es)

          -- what the client is told for a message,
          told_for : (d : ℕ) (m : Up) (ms : List Down) → UpNow now m → IsTold p c d m server ms → AllByRecursion (DownNow now) ms
          told_for d up.IdAsk ms took is = subst (AllByRecursion (DownNow now)) (sym is) (one_has (eqb c d) _ tt)
          told_for d (up.Fault o) ms took is = subst (AllByRecursion (DownNow now)) (sym is.tells) (one_has (eqb c d) (down.Object is.body) (body_there o is.body (stored p.shape o server) (graph_now o) is.is_stored))
          told_for d (up.Flushed o) ms took is = none_have ms is
          told_for d (up.Request l level) ms took is = leases_have ms is
          told_for d (up.Return l threads) ms took is = leases_have ms is
          told_for d (up.Commit txn) ms took is = subst (AllByRecursion (DownNow now)) (sym is.tells)
              (each_of_two (DownNow now) (cond (eqb c d) (down.Ack txn.seq ∷ []) (changes_down (sets_for c txn server))) is.woken (by (eqb c d)) (wakes_have is.woken is.wake))
            where
              by : (b : Bool) → AllByRecursion (DownNow now) (cond b (down.Ack txn.seq ∷ []) (changes_down (sets_for c txn server)))
              by true = (tt, tt)
              by false = changes_have (sets_for c txn server) (each_filtered (SetHas (C now) (F now) (V now) (O now)) _ txn.sets took.1)

          -- and for anything that the server takes in
          told_on : (i : Input) (lost : Bool) (ms : List Down) → e.input ≡ i → IsToldOn p c i lost server ms → AllByRecursion (DownNow now) ms
          told_on i true ms is h = none_have ms h
          told_on (input.TookUp d m) false ms is h = told_for d m ms (up_taken d m node is) h
          told_on (input.Lose d) false ms is h = leases_have ms h
          told_on other false ms is h = none_have ms h

          server_client : ClientHas now (entries_of (Client c) now) (messages (up_in_flight c now)) (messages (down_in_flight c now))
          server_client =
              let turn : ServerTurn c e es = server_turn c e es node in
              let rule : ServerFollows p next e es = subst (λ n. NodeFollows p next n e es) node follow.1.rule in
              let had = client_now c in
              let told : AllByRecursion (DownNow now) (told_to c e.sent) = told_on e.input (is_of_lost e.input (entries_of Server es)) (told_to c e.sent) refl (what_is_told p next c e es follow.0 rule) in
              let goes_on : ClientHas now (entries_of (Client c) es) (cond (takes_up c e.input) (drop 1 (messages (up_in_flight c es))) (messages (up_in_flight c es))) (messages (down_in_flight c es) ++ told_to c e.sent) = record {
                works = had.works;
                told = had.told;
                copies = had.copies;
                up = rest_of (UpNow now) (takes_up c e.input) (messages (up_in_flight c es)) had.up;
                down = each_of_two (DownNow now) (messages (down_in_flight c es)) (told_to c e.sent) had.down told;
              } in
              subst (λ downs. ClientHas now (entries_of (Client c) now) (messages (up_in_flight c now)) downs) (sym turn.down)
              (subst (λ ups. ClientHas now (entries_of (Client c) now) ups (messages (down_in_flight c es) ++ told_to c e.sent)) (sym turn.up)
              (subst (λ entries. ClientHas now entries (cond (takes_up c e.input) (drop 1 (messages (up_in_flight c es))) (messages (up_in_flight c es))) (messages (down_in_flight c es) ++ told_to c e.sent)) (sym turn.own) goes_on))

        -- the graph with what the server takes in
        graph_in : (i : Input) (o : ℕ) → ((d : ℕ) (m : Up) → i ≡ input.TookUp d m → UpNow now m) → StoredHas (C now) (F now) (V now) (O now) o (by_taken_up (body_by o) i (stored p.shape o (counted (entries_of Server es))))
        graph_in (input.TookUp d m) o took = stored_taken (C now) (F now) (V now) (O now) o d m (stored p.shape o (counted (entries_of Server es))) (took d m refl) (graph_now o)
        graph_in i o took = graph_now o

        server_graph : e.node ≡ Server → (o : ℕ) → StoredHas (C now) (F now) (V now) (O now) o (stored p.shape o (counted (entries_of Server now)))
        server_graph node o = subst (λ entries. StoredHas (C now) (F now) (V now) (O now) o (stored p.shape o (counted entries))) (sym (server_turn 0 e es node).server) (by (is_of_lost e.input (entries_of Server es)))
          where
            by : (lost : Bool) → StoredHas (C now) (F now) (V now) (O now) o (stored p.shape o (cond lost (counted (entries_of Server es)) (e ∷ counted (entries_of Server es))))
            by true = graph_now o
            by false = graph_in e.input o (λ d m is. up_taken d m node is)

        all_more : (node : Node) → e.node ≡ node → AllHave now
        all_more Server is = record { clients = λ c. server_client is c; graph = server_graph is }
        all_more (Client d) is = record {
          clients = λ c. by c (eqb c d) refl;
          graph = λ o. subst (λ entries. StoredHas (C now) (F now) (V now) (O now) o (stored p.shape o (counted entries))) (sym (own_turn d e es is).server) (graph_now o);
        }
          where
            by : (c : ℕ) (b : Bool) → eqb c d ≡ b → ClientHas now (entries_of (Client c) now) (messages (up_in_flight c now)) (messages (down_in_flight c now))
            by c true same = own_client c (is ∙ ap Client (sym (same_number c d same)))
            by c false other = other_client c d is other

    -- So over a whole journal.
    pub carried : (es : List Entry) → AllFollow p next es → AllHave es
    carried [] follow = record {
      clients = λ c. record { works = λ t. record { privates = tt; news = tt; sets = tt; outs = tt }; told = λ t. tt; copies = record { class = λ o. tt; value = λ o f. tt }; up = tt; down = tt };
      graph = opening_has;
    }
    carried (e ∷ es) follow = all_more e es follow (carried es follow.0) e.node refl
