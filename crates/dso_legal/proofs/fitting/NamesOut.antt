-- Names are out: what a client's messages name is in the graph, or in a record in front of them.
use Rattle.std.specs.List.{AllByRecursion, list_any}
use Rattle.std.specs.Option.{option_map}
use Rattle.std.specs.Prelude.{flat_map}
use Rattle.std.proofs.Common.{Bool, List, None, Option, Some, [], ap, arith, cond, drop, eqb, false, inl, inr, is_some, map, refl, replicate, slice_get, subst, suc, sym, true, zero, ℕ, ◌++◌, ◌+◌, ◌||◌, ◌∙◌, ◌∷◌, ◌≡◌, ◌≢◌, ◌≤◌, ◌⊎◌}
use Rattle.std.proofs.lemmas.List.{append-nil}
use Rattle.dso_base.specs.Block.{Work, body_in, start, txn_of, work_after, work_by, worked}
use Rattle.dso_base.specs.Following.{IsListed, is_thread}
use Rattle.dso_base.specs.declared.journal.Entry.{Entry}
use Rattle.dso_base.specs.declared.journal.Input.{Input}
use Rattle.dso_base.specs.declared.journal.Input.TheVariants as input
use Rattle.dso_base.specs.declared.journal.Node.{Node}
use Rattle.dso_base.specs.declared.journal.Node.TheVariants.{Client, Server}
use Rattle.dso_base.specs.declared.lock.ThreadId.{ThreadId}
use Rattle.dso_base.specs.declared.message.Down.{Down}
use Rattle.dso_base.specs.declared.message.Down.TheVariants as down
use Rattle.dso_base.specs.declared.message.Up.{Up}
use Rattle.dso_base.specs.declared.message.Up.TheVariants as up
use Rattle.dso_base.specs.declared.record.Body.{Body}
use Rattle.dso_base.specs.declared.record.Ending.{Ending}
use Rattle.dso_base.specs.declared.record.Set.{Set}
use Rattle.dso_base.specs.declared.record.Txn.{Txn}
use Rattle.dso_base.specs.declared.request.Event.{Event}
use Rattle.dso_base.specs.declared.request.Event.TheVariants.{Act}
use Rattle.dso_base.specs.declared.request.Reply.{Reply}
use Rattle.dso_base.specs.declared.request.Reply.TheVariants.{Done, Local, Made, Refused, Seen, Val}
use Rattle.dso_base.specs.declared.request.Request.{Request}
use Rattle.dso_base.specs.declared.request.Request.TheVariants.{Get, Look, New, Put}
use Rattle.dso_base.specs.declared.value.ClassId.{ClassId}
use Rattle.dso_base.specs.declared.value.Value.{Value}
use Rattle.dso_base.specs.declared.value.Value.TheVariants as value
use Rattle.dso_plain.proofs.keys.SameKeys.{number_self, same_number, same_thread, thread_self}
use Rattle.dso_law.specs.Channels.{IsFirst, Letter, TakesFirst, down_in_flight, takes_down, takes_up, up_in_flight}
use Rattle.dso_law.specs.ClientStep.{record_of}
use Rattle.dso_law.specs.Copies.{class_held, is_among, value_by_sent, value_by_taken, value_held}
use Rattle.dso_law.specs.Entries.{add_event, by_event, by_taken_down, by_taken_up, entries_of, events_in}
use Rattle.dso_law.specs.FitsUp.{IsNamed, stored_values}
use Rattle.dso_law.specs.Laws.{WorkAfter}
use Rattle.dso_law.specs.Records.{records}
use Rattle.dso_law.specs.Replies.{reply_of, value_in, value_seen, woken_by}
use Rattle.dso_law.specs.ServerReadings.{counted, is_lost, is_of_lost}
use Rattle.dso_law.specs.ServerStep.{sets_for}
use Rattle.dso_law.specs.Settings.{Settings}
use Rattle.dso_law.specs.Store.{body_by, opening_roots, stored}
use Rattle.dso_law.specs.Threads.{ending_of, locks_of, open_block, or_else, own, privates_before, work_of}
use Rattle.dso_law.proofs.client.HasBody.{found_among}
use Rattle.dso_law.proofs.client.WorkByEntry.{work_goes_on}
use Rattle.dso_legal.specs.Agreement.{EachMay, after, messages}
use Rattle.dso_legal.specs.Lawful.{AllFollow, ClientFollows, NodeFollows, ServerFollows, next_after}
use Rattle.dso_legal.specs.NamesOut.{IsInGraph, NamesAreOut, NamesWhatIsOut}
use Rattle.dso_legal.specs.OwnObjects.{count_bodies, published_by}
use Rattle.dso_legal.specs.SoundProgram.{GivesKnownTexts, AsksSoundly, IsToldValue, NamesOnlyTold, event_tells, tells, was_told}
use Rattle.dso_legal.specs.WithinShape.{StaysWithinShape}
use Rattle.dso_legal.proofs.acts.ClientActs.{IsQuiet}
use Rattle.dso_legal.proofs.blocks.OwnActs.{reply_listed}
use Rattle.dso_legal.proofs.channels.AfterEntry.{OtherTurn, OwnTurn, ServerTurn, other_turn, own_turn, server_turn}
use Rattle.dso_legal.proofs.channels.Agreement.{after_append, may_append}
use Rattle.dso_legal.proofs.channels.InFlight.{said_of, said_status, told_to}
use Rattle.dso_legal.proofs.copies.ChangesSent.{changes_down}
use Rattle.dso_legal.proofs.copies.ServerMessages.{IsOfLease, IsTold, IsToldOn, IsWake, what_is_told}
use Rattle.dso_legal.proofs.fitting.Acting.{Acts, quiet_or_acts}
use Rattle.dso_legal.proofs.fitting.Carried.{first_of, rest_of}
use Rattle.dso_legal.proofs.fitting.FaultsAsked.{IsOf, IsOfFault, faults_asked}
use Rattle.dso_legal.proofs.fitting.InHand.{WorkHas, each_filtered, each_of_two, each_so}
use Rattle.dso_legal.proofs.fitting.Messages.{ClassHas, kept_after, stored_taken, value_sent, value_taken}
use Rattle.dso_legal.proofs.fitting.NamesInHand.{AnyClass, AnyValue, BodyNames, GivesKnown, InField, NamesKnown, SetNames, WorkNames, act_names, bodies_on, body_on, either_so, hand_stays, in_hand, is_reference, left_so, or_on, right_so, sets_on, start_names, work_on}
use Rattle.dso_legal.proofs.fitting.NamesKept.{CarriesNames, ClientNames, CommitNames, DownNames, FaultNames, HeldNames, MayName, StoredNames, all_so, carries_on, client_on, client_took, down_on, faults_come, few_there, held_on, none_carry, none_name, out, still_out, still_published, stored_by_message, stored_on, told_one_more}
use Rattle.dso_legal.proofs.fitting.RecordsLeased.{each_both}
use Rattle.dso_legal.proofs.fitting.Replies.{CopiesHave, seen_has}
use Rattle.dso_legal.proofs.fitting.Values.{all_fine, what_is_asked}
use Rattle.dso_legal.proofs.fitting.ValuesFit.{all_flat, all_set, all_values}
use Rattle.dso_legal.proofs.ids.Making.{IsNew, only_new}
use Rattle.dso_legal.proofs.objects.OwnObjects.{IsOthers, in_hand_is_own, work_alone, worked_more}
use Rattle.dso_legal.proofs.records.BothEnds.{not_lost_before, skipped_silent, skipped_way}

module _ (p : Settings) (next : ThreadId → List Event → Option Request) (sound : AsksSoundly p.shape next) (texts : GivesKnownTexts p.shape next) (within : StaysWithinShape p.shape next) (x : ℕ) where
  -- the object is in the graph
  abbrev is_stored : List Entry → Bool
  is_stored es = is_some (stored p.shape x (counted (entries_of Server es)))

  abbrev NamesOf : ℕ → List Entry → Type 0
  NamesOf c es = ClientNames x p (is_stored es) (entries_of (Client c) es) (messages (up_in_flight c es)) (messages (down_in_flight c es))

  -- So of all clients that aren't lost, and of the graph, which has object 0.
  record AllNames (es : List Entry) : Type 0 where
    pub first : eqb x 0 ≡ true → is_stored es ≡ true
    pub clients : (c : ℕ) → is_lost c (entries_of Server es) ≡ false → NamesOf c es
    pub graph : (o : ℕ) → StoredNames x (is_stored es) o (stored p.shape o (counted (entries_of Server es)))

  -- ---- a client's own entry

  module _ (e : Entry) (es : List Entry) (follow : AllFollow p next (e ∷ es)) (before : AllNames es) where
    module _ (c : ℕ) (alive : is_lost c (entries_of Server es) ≡ false) where
      abbrev mine : List Entry
      mine = entries_of (Client c) es

      abbrev ups : List Up
      ups = messages (up_in_flight c es)

      abbrev said : List Up
      said = said_of e.sent

      abbrev now_out : Bool
      now_out = out x p (is_stored es) ups

      abbrev later_out : Bool
      later_out = after (published_by x) said now_out

      have : NamesOf c es
      have = before.clients c alive

      -- what a thread asks names only what it was told
      asked_told : (t : ThreadId) (request : Request) → t.client ≡ c → next_after next es t ≡ Some request → NamesOnlyTold request (events_in t mine)
      asked_told t request its asked = subst (λ d. NamesOnlyTold request (events_in t (entries_of (Client d) es))) its
          (what_is_asked p next sound texts within es follow.0 (all_fine p next sound texts within es follow.0) t request asked).keeps.names

      -- and so what it has in hand or is out
      told_known : (t : ThreadId) → was_told x (events_in t mine) ≡ true → (in_hand x (work_of p.shape t mine) || now_out) ≡ true
      told_known t = either_so (eqb x 0) (list_any (event_tells x) (events_in t mine))
          (λ zero_is. right_so (in_hand x (work_of p.shape t mine)) now_out (still_out x ups (is_stored es) (before.first zero_is))) (have.told t)

      of_told : (request : Request) (o : ℕ) (events : List Event) → IsOf o request → NamesOnlyTold request events → was_told o events ≡ true
      of_told (Look a) o events of names = subst (λ n. was_told n events ≡ true) of names
      of_told (Get a f) o events of names = subst (λ n. was_told n events ≡ true) of names
      of_told (Put a f v) o events of names = subst (λ n. was_told n events ≡ true) of names.0
      of_told request o events of names = absurd of

      -- what isn't the thread's own isn't in hand
      not_own : (t : ThreadId) → own p.shape t x mine ≡ None → in_hand x (work_of p.shape t mine) ≡ true → ⊥
      not_own t none hand =
          let work : Work = work_of p.shape t mine in
          neither_there (body_in x work.privates) (body_in x work.news) none ((λ i. found_among x work.privates i || found_among x work.news i) ∙ hand)
        where
          neither_there : (a b : Option Body) → or_else a b ≡ None → (is_some a || is_some b) ≡ true → ⊥
          neither_there None None none is = cc is
          neither_there None (Some b) none is = cc none
          neither_there (Some a) b none is = cc none

      -- so an object that is asked for is out
      fault_known : (t : ThreadId) (request : Request) (o : ℕ) → t.client ≡ c → next_after next es t ≡ Some request → IsOf o request → own p.shape t o mine ≡ None → eqb o x ≡ true → now_out ≡ true
      fault_known t request o its asked of none same =
          let there : o ≡ x = same_number o x same in
          let told : was_told x (events_in t mine) ≡ true = subst (λ n. was_told n (events_in t mine) ≡ true) there (of_told request o (events_in t mine) of (asked_told t request its asked)) in
          either_so (in_hand x (work_of p.shape t mine)) now_out (λ hand. absurd (not_own t (subst (λ n. own p.shape t n mine ≡ None) there none) hand)) (λ is. is) (told_known t told)

      faults_known : ClientFollows p next c e es → EachMay (FaultNames x) (published_by x) said now_out
      faults_known rule = faults_come x said now_out (each_so (IsOfFault p c (next_after next es) (next_after next (e ∷ es)) e mine (λ o. eqb o x ≡ true → now_out ≡ true) fault_known) (λ m. FaultNames x m now_out) one said
          (faults_asked p c (next_after next es) (next_after next (e ∷ es)) e mine (λ o. eqb o x ≡ true → now_out ≡ true) fault_known rule.step))
        where
          one : (m : Up) → IsOfFault p c (next_after next es) (next_after next (e ∷ es)) e mine (λ o. eqb o x ≡ true → now_out ≡ true) fault_known m → FaultNames x m now_out
          one (up.Fault o) h = h
          one m h = tt

      -- ---- an act

      module _ (acts : Acts p c (next_after next es) e mine) where
        abbrev t : ThreadId
        t = acts.act.thread

        abbrev work : Work
        work = work_of p.shape t mine

        abbrev event : Event
        event = Act t acts.act.request acts.act.reply (woken_by acts.act.request acts.act.reply mine)

        abbrev later : Work
        later = work_after p.shape event work

        once : (o : ℕ) → count_bodies o work.privates ≤ 1
        once o = subst (λ d. count_bodies o (work_of p.shape t (entries_of (Client d) es)).privates ≤ 1) acts.act.its
            (by (work_of p.shape t (entries_of (Client t.client) es)).privates (work_of p.shape t (entries_of (Client t.client) es)).news (λ is. (in_hand_is_own p next es follow.0 t o is).once))
          where
            at_most : (n m : ℕ) → n + m ≡ 1 → n ≤ 1
            at_most n m is = omega (arith, is)

            by : (privates news : List Body) → ((is_among o privates || is_among o news) ≡ true → count_bodies o privates + count_bodies o news ≡ 1) → count_bodies o privates ≤ 1
            by privates news one = if_there (is_among o privates) refl
              where
                if_there : (b : Bool) → is_among o privates ≡ b → count_bodies o privates ≤ 1
                if_there true is = at_most (count_bodies o privates) (count_bodies o news) (one (left_so (is_among o privates) (is_among o news) is))
                if_there false is = few_there o privates is

        value_known : (v : Value) → IsToldValue v (events_in t mine) → NamesKnown x (in_hand x work || now_out) v
        value_known (value.Ref o) told = λ same. told_known t (subst (λ n. was_told n (events_in t mine) ≡ true) (same_number o x same) told.1)
        value_known value.Null told = λ same. absurd (cc same)
        value_known (value.Long n) told = λ same. absurd (cc same)
        value_known (value.Bool b) told = λ same. absurd (cc same)
        value_known (value.Text n) told = λ same. absurd (cc same)

        gives : (request : Request) (reply : Reply) → NamesOnlyTold request (events_in t mine) → GivesKnown x (in_hand x work || now_out) request reply
        gives (Put o f v) Done names = value_known v names.1
        gives request reply names = tt

        later_names : WorkNames x now_out later
        later_names = act_names x p.shape acts.act.request acts.act.reply (woken_by acts.act.request acts.act.reply mine) now_out work once (have.works t)
            (gives acts.act.request acts.act.reply (asked_told t acts.act.request acts.act.its acts.act.asked))

        fair : (o : ℕ) → acts.act.reply ≡ Made o → IsNew acts.act.request
        fair o is = only_new p t acts.act.request mine o (acts.act.answered ∙ ap Some is)

        hand_later : in_hand x work ≡ true → in_hand x later ≡ true
        hand_later = hand_stays x p.shape acts.act.request acts.act.reply (woken_by acts.act.request acts.act.reply mine) work fair

        -- ---- what the reply tells

        by_new : (request : Request) (woken : Option ThreadId) → IsNew request → in_hand x (work_by p.shape request (Made x) woken work) ≡ true
        by_new (New class n) woken is = left_so (eqb x x || is_among x work.privates) (is_among x work.news) (left_so (eqb x x) (is_among x work.privates) (number_self x))
        by_new request woken is = absurd is

        made_hand : acts.act.reply ≡ Made x → in_hand x later ≡ true
        made_hand is = subst (λ reply. in_hand x (work_by p.shape acts.act.request reply (woken_by acts.act.request acts.act.reply mine) work) ≡ true) (sym is)
            (by_new acts.act.request (woken_by acts.act.request acts.act.reply mine) (fair x is))

        -- all that the thread sees names only what it has in hand or is out
        abbrev seen : Bool
        seen = in_hand x work || now_out

        sees : WorkHas (AnyClass x) (InField x seen) (AnyValue x) (AnyValue x) work
        sees =
            let on : (is_among x work.news || now_out) ≡ true → seen ≡ true = or_on x (is_among x work.news) now_out (in_hand x work) now_out (right_so (is_among x work.privates) (is_among x work.news)) (λ is. is) in
            record {
              privates = (have.works t).privates;
              news = bodies_on x (is_among x work.news || now_out) seen on work.news (have.works t).news;
              sets = sets_on x (is_among x work.news || now_out) seen on work.sets (have.works t).sets;
              outs = all_so (AnyValue x) (λ v. tt) work.outs;
            }

        sees_copies : CopiesHave (AnyClass x) (InField x seen) (AnyValue x) (AnyValue x) mine
        sees_copies = record { class = λ o. any o (class_held o mine); value = λ o f. held_on x now_out seen (right_so (in_hand x work) now_out) o f (value_held o f mine) (have.copies o f) }
          where
            any : (o : ℕ) (class : Option (ClassId × ℕ)) → ClassHas (AnyClass x) (InField x seen) (AnyValue x) (AnyValue x) o class
            any o None = tt
            any o (Some class) = tt

        value_tells : (v : Value) → tells x (Val v) ≡ true → is_reference x v ≡ true
        value_tells (value.Ref o) is = is
        value_tells value.Null is = absurd (cc is)
        value_tells (value.Long n) is = absurd (cc is)
        value_tells (value.Bool b) is = absurd (cc is)
        value_tells (value.Text n) is = absurd (cc is)

        got : (o f : ℕ) (v : Option Value) (reply : Reply) → HeldNames x seen o f v → option_map Val v ≡ Some reply → tells x reply ≡ true → seen ≡ true
        got o f None reply h answered is = absurd (cc answered)
        got o f (Some v) reply h answered is =
            let same : Val v ≡ reply = cc answered in
            h (value_tells v (subst (λ reply. tells x reply ≡ true) (sym same) is))

        -- nothing else tells of an object but a new one
        listed_tells : (request : Request) (reply : Reply) → IsListed request reply → ((o f : ℕ) → request ≡ Get o f → ⊥) → tells x reply ≡ true → reply ≡ Made x
        listed_tells (Get o f) reply listed other is = absurd (other o f refl)
        listed_tells request (Made o) listed other is = ap Made (same_number o x is)
        listed_tells request (Val (value.Ref o)) listed other is = absurd listed
        listed_tells request (Val value.Null) listed other is = absurd (cc is)
        listed_tells request (Val (value.Long n)) listed other is = absurd (cc is)
        listed_tells request (Val (value.Bool b)) listed other is = absurd (cc is)
        listed_tells request (Val (value.Text n)) listed other is = absurd (cc is)
        listed_tells request (Seen class n) listed other is = absurd (cc is)
        listed_tells request Done listed other is = absurd (cc is)
        listed_tells request Local listed other is = absurd (cc is)
        listed_tells request (Refused fault) listed other is = absurd (cc is)

        reply_tells : (request : Request) (reply : Reply) → reply_of p t request mine ≡ Some reply → tells x reply ≡ true → (seen ≡ true) ⊎ (reply ≡ Made x)
        reply_tells (Get o f) reply answered is = inl (got o f (value_in p (own p.shape t o mine) f (value_seen p t o f mine)) reply
            (seen_has (AnyClass x) (InField x seen) (AnyValue x) (AnyValue x) p t mine sees sees_copies o f) answered is)
        reply_tells (Look o) reply answered is = inr (listed_tells (Look o) reply (reply_listed p t mine (Look o) reply answered) (λ o f same. cc same) is)
        reply_tells request reply answered is = inr (listed_tells request reply (reply_listed p t mine request reply answered) (λ o f same. cc same) is)

        seen_later : seen ≡ true → (in_hand x later || now_out) ≡ true
        seen_later = or_on x (in_hand x work) now_out (in_hand x later) now_out hand_later (λ is. is)

        told_later : list_any (event_tells x) (events_in t mine ++ event ∷ []) ≡ true → (in_hand x later || now_out) ≡ true
        told_later is = elim (told_one_more x (events_in t mine) event is) [
          | inl before ↦ seen_later (have.told t before)
          | inr now ↦ elim (reply_tells acts.act.request acts.act.reply acts.act.answered now) [
            | inl is_seen ↦ seen_later is_seen
            | inr made ↦ left_so (in_hand x later) now_out (made_hand made)
          ]
        ]

        -- ---- what the record publishes and sets

        record Later : Type 0 where
          pub said_names : EachMay (CommitNames x) (published_by x) said now_out
          pub carries : AllByRecursion (CarriesNames x later_out) said
          pub works : WorkNames x later_out (work_of p.shape t (e ∷ mine))
          pub told : (in_hand x later || now_out) ≡ true → (in_hand x (work_of p.shape t (e ∷ mine)) || later_out) ≡ true

        goes : WorkAfter p.shape t event e mine
        goes = work_goes_on p.shape t event e mine (record { event_is = acts.act.event; its = thread_self t })

        abbrev worked_whole : Work
        worked_whole = worked p.shape (open_block t mine ++ event ∷ []) (start (privates_before p.shape t mine))

        whole_is : worked_whole ≡ later
        whole_is = worked_more p.shape (open_block t mine) event (start (privates_before p.shape t mine))

        still_later : now_out ≡ true → later_out ≡ true
        still_later is = still_out x said now_out is

        by_ending : (ending : Option Ending) → ending_of event (locks_of t mine) ≡ ending → said ≡ record_of p t event ending mine ++ acts.rest → Later
        by_ending None ends whole =
            let same : work_of p.shape t (e ∷ mine) ≡ later = goes.goes_on ends in
            record {
              said_names = subst (λ ms. EachMay (CommitNames x) (published_by x) ms now_out) (sym whole) (none_name x acts.rest now_out acts.no_records);
              carries = subst (AllByRecursion (CarriesNames x later_out)) (sym whole) (none_carry x acts.rest later_out acts.no_records);
              works = subst (WorkNames x later_out) (sym same) (work_on x now_out later_out still_later later later_names);
              told = λ is. subst (λ work. (in_hand x work || later_out) ≡ true) (sym same) (or_on x (in_hand x later) now_out (in_hand x later) later_out (λ is. is) still_later is);
            }
        by_ending (Some ending) ends whole =
            let same : work_of p.shape t (e ∷ mine) ≡ start later.privates = goes.ends (λ none. some_ending (sym ends ∙ none)) in
            let names : WorkNames x now_out worked_whole = subst (WorkNames x now_out) (sym whole_is) later_names in
            let shared : Bool = is_among x worked_whole.news || now_out in
            let on : shared ≡ true → later_out ≡ true = λ is. subst (λ ms. after (published_by x) ms now_out ≡ true) (sym whole) (still_out x acts.rest shared is) in
            let on_later : (is_among x later.news || now_out) ≡ true → later_out ≡ true = λ is. on (subst (λ (w : Work). (is_among x w.news || now_out) ≡ true) (sym whole_is) is) in
            let txn : Txn = txn_of p.shape (suc (records mine)) t (privates_before p.shape t mine) (open_block t mine ++ event ∷ []) ending in
            let carried : CarriesNames x shared (up.Commit txn) = (names.news, names.sets, all_so (AnyValue x) (λ v. tt) txn.outs) in
            record {
              said_names = subst (λ ms. EachMay (CommitNames x) (published_by x) ms now_out) (sym whole) (carried, none_name x acts.rest shared acts.no_records);
              carries = subst (AllByRecursion (CarriesNames x later_out)) (sym whole) (carries_on x shared later_out on (up.Commit txn) carried, none_carry x acts.rest later_out acts.no_records);
              works = subst (WorkNames x later_out) (sym same) (start_names x now_out later_out later later_names on_later);
              told = λ is. subst (λ work. (in_hand x work || later_out) ≡ true) (sym same) (start_told on_later is);
            }
          where
            some_ending : Some ending ≡ None → ⊥
            some_ending none = cc none

            start_told : ((is_among x later.news || now_out) ≡ true → later_out ≡ true) → (in_hand x later || now_out) ≡ true → ((is_among x later.privates || false) || later_out) ≡ true
            start_told on = either_so (in_hand x later) now_out
                (either_so (is_among x later.privates) (is_among x later.news)
                (λ is. left_so (is_among x later.privates || false) later_out (left_so (is_among x later.privates) false is))
                (λ is. right_so (is_among x later.privates || false) later_out (on (left_so (is_among x later.news) now_out is))))
                (λ is. right_so (is_among x later.privates || false) later_out (on (right_so (is_among x later.news) now_out is)))

        act_later : Later
        act_later = by_ending (ending_of event (locks_of t mine)) refl acts.whole

        act_works : (u : ThreadId) → WorkNames x later_out (work_of p.shape u (e ∷ mine))
        act_works u = by (is_thread u t) refl
          where
            by : (b : Bool) → is_thread u t ≡ b → WorkNames x later_out (work_of p.shape u (e ∷ mine))
            by true is = subst (λ v. WorkNames x later_out (work_of p.shape v (e ∷ mine))) (same_thread u t is) act_later.works
            by false is = subst (WorkNames x later_out) (sym (work_alone p.shape u e mine (subst (IsOthers u) (sym acts.act.event) is)))
                (work_on x now_out later_out still_later (work_of p.shape u mine) (have.works u))

        act_told : (u : ThreadId) → list_any (event_tells x) (events_in u (e ∷ mine)) ≡ true → (in_hand x (work_of p.shape u (e ∷ mine)) || later_out) ≡ true
        act_told u is = by (is_thread u t) refl (subst (λ event. list_any (event_tells x) (by_event (add_event u) event (events_in u mine)) ≡ true) acts.act.event is)
          where
            by : (b : Bool) → is_thread u t ≡ b → list_any (event_tells x) (cond b (events_in u mine ++ event ∷ []) (events_in u mine)) ≡ true → (in_hand x (work_of p.shape u (e ∷ mine)) || later_out) ≡ true
            by true same is =
                let thread : t ≡ u = same_thread u t same in
                subst (λ v. (in_hand x (work_of p.shape v (e ∷ mine)) || later_out) ≡ true) thread
                (act_later.told (told_later (subst (λ v. list_any (event_tells x) (events_in v mine ++ event ∷ []) ≡ true) (sym thread) is)))
            by false other is = subst (λ work. (in_hand x work || later_out) ≡ true) (sym (work_alone p.shape u e mine (subst (IsOthers u) (sym acts.act.event) other)))
                (or_on x (in_hand x (work_of p.shape u mine)) now_out (in_hand x (work_of p.shape u mine)) later_out (λ is. is) still_later (have.told u is))

      -- ---- the client after its entry

      record Says : Type 0 where
        pub names : EachMay (CommitNames x) (published_by x) said now_out
        pub carries : AllByRecursion (CarriesNames x later_out) said
        pub works : (u : ThreadId) → WorkNames x later_out (work_of p.shape u (e ∷ mine))
        pub told : (u : ThreadId) → list_any (event_tells x) (events_in u (e ∷ mine)) ≡ true → (in_hand x (work_of p.shape u (e ∷ mine)) || later_out) ≡ true

      says : IsQuiet e ⊎ Acts p c (next_after next es) e mine → Says
      says (inl quiet) =
          let alone : (u : ThreadId) → work_of p.shape u (e ∷ mine) ≡ work_of p.shape u mine = λ u. work_alone p.shape u e mine (subst (IsOthers u) (sym quiet.event) tt) in
          let on : now_out ≡ true → later_out ≡ true = still_out x said now_out in
          record {
            names = none_name x said now_out quiet.no_records;
            carries = none_carry x said later_out quiet.no_records;
            works = λ u. subst (WorkNames x later_out) (sym (alone u)) (work_on x now_out later_out on (work_of p.shape u mine) (have.works u));
            told = λ u is. subst (λ work. (in_hand x work || later_out) ≡ true) (sym (alone u)) (or_on x (in_hand x (work_of p.shape u mine)) now_out (in_hand x (work_of p.shape u mine)) later_out (λ is. is) on
                (have.told u (subst (λ event. list_any (event_tells x) (by_event (add_event u) event (events_in u mine)) ≡ true) quiet.event is)));
          }
      says (inr acts) = record { names = (act_later acts).said_names; carries = (act_later acts).carries; works = act_works acts; told = act_told acts }

      value_in_now : (i : Input) (o f : ℕ) → ((m : Down) → i ≡ input.TookDown m → DownNames x later_out m) → HeldNames x later_out o f (by_taken_down (value_by_taken o f) i (value_held o f mine))
      value_in_now (input.TookDown m) o f took = value_taken (AnyClass x) (InField x later_out) (AnyValue x) (AnyValue x) o f m (value_held o f mine) (took m refl)
          (held_on x now_out later_out (still_out x said now_out) o f (value_held o f mine) (have.copies o f))
      value_in_now i o f took = held_on x now_out later_out (still_out x said now_out) o f (value_held o f mine) (have.copies o f)

      own_names : e.node ≡ Client c → NamesOf c (e ∷ es)
      own_names node =
          let turn : OwnTurn c e es = own_turn c e es node in
          let rule : ClientFollows p next c e es = subst (λ n. NodeFollows p next n e es) node follow.1.rule in
          let first : TakesFirst e.input (Client c) es = subst (λ n. TakesFirst e.input n es) node follow.1.channels in
          let s : Says = says (quiet_or_acts p c (next_after next es) (next_after next (e ∷ es)) e mine rule.step) in
          let all_out : out x p (is_stored es) (ups ++ said) ≡ later_out = after_append (published_by x) ups said (is_stored es) in
          let known_later : is_stored es ≡ true → later_out ≡ true = λ is. still_out x said now_out (still_out x ups (is_stored es) is) in
          let goes : ClientNames x p (is_stored es) (e ∷ mine) (ups ++ said) (cond (takes_down e.input) (drop 1 (messages (down_in_flight c es))) (messages (down_in_flight c es))) = record {
            works = λ u. subst (λ b. WorkNames x b (work_of p.shape u (e ∷ mine))) (sym all_out) (s.works u);
            told = λ u is. subst (λ b. (in_hand x (work_of p.shape u (e ∷ mine)) || b) ≡ true) (sym all_out) (s.told u is);
            copies = λ o f. subst (λ b. HeldNames x b o f (value_held o f (e ∷ mine))) (sym all_out)
                (subst (HeldNames x later_out o f) (sym (said_status (value_by_sent o f) e.sent (by_taken_down (value_by_taken o f) e.input (value_held o f mine))))
                (kept_after (HeldNames x later_out o f) (CarriesNames x later_out) (value_by_sent o f) (value_sent (AnyClass x) (InField x later_out) (AnyValue x) (AnyValue x) o f) said
                (by_taken_down (value_by_taken o f) e.input (value_held o f mine)) s.carries
                (value_in_now e.input o f (λ m is. down_on x (is_stored es) later_out known_later m (first_of (DownNames x (is_stored es)) m (down_in_flight c es) (subst (λ i. TakesFirst i (Client c) es) is first) have.down)))));
            up = may_append (MayName x) (published_by x) ups said (is_stored es) have.up (each_both (FaultNames x) (CommitNames x) (published_by x) said now_out (faults_known rule) s.names);
            down = rest_of (DownNames x (is_stored es)) (takes_down e.input) (messages (down_in_flight c es)) have.down;
          } in
          subst (λ server. ClientNames x p (is_some (stored p.shape x (counted server))) (entries_of (Client c) (e ∷ es)) (messages (up_in_flight c (e ∷ es))) (messages (down_in_flight c (e ∷ es)))) (sym turn.server)
          (subst (λ downs. ClientNames x p (is_stored es) (entries_of (Client c) (e ∷ es)) (messages (up_in_flight c (e ∷ es))) downs) (sym turn.down)
          (subst (λ ups. ClientNames x p (is_stored es) (entries_of (Client c) (e ∷ es)) ups (cond (takes_down e.input) (drop 1 (messages (down_in_flight c es))) (messages (down_in_flight c es)))) (sym turn.up)
          (subst (λ entries. ClientNames x p (is_stored es) entries (ups ++ said) (cond (takes_down e.input) (drop 1 (messages (down_in_flight c es))) (messages (down_in_flight c es)))) (sym turn.own) goes)))

      -- another client's entry
      other_names : (d : ℕ) → e.node ≡ Client d → eqb c d ≡ false → NamesOf c (e ∷ es)
      other_names d node other =
          let turn : OtherTurn c e es = other_turn c d e es node other in
          subst (λ server. ClientNames x p (is_some (stored p.shape x (counted server))) (entries_of (Client c) (e ∷ es)) (messages (up_in_flight c (e ∷ es))) (messages (down_in_flight c (e ∷ es)))) (sym turn.server)
          (subst (λ letters. ClientNames x p (is_stored es) (entries_of (Client c) (e ∷ es)) (messages (up_in_flight c (e ∷ es))) (messages letters)) (sym turn.down)
          (subst (λ letters. ClientNames x p (is_stored es) (entries_of (Client c) (e ∷ es)) (messages letters) (messages (down_in_flight c es))) (sym turn.up)
          (subst (λ entries. ClientNames x p (is_stored es) entries (messages (up_in_flight c es)) (messages (down_in_flight c es))) (sym turn.own) have)))

    -- ---- the server's entry

    module _ (node : e.node ≡ Server) where
      abbrev server : List Entry
      server = counted (entries_of Server es)

      abbrev known : Bool
      known = is_stored es

      rule : ServerFollows p next e es
      rule = subst (λ n. NodeFollows p next n e es) node follow.1.rule

      -- the message taken is the first in flight, and what it carries is known then
      taken_first : (d : ℕ) (m : Up) → e.input ≡ input.TookUp d m → IsFirst m (up_in_flight d es)
      taken_first d m is = subst (λ i. TakesFirst i Server es) is (subst (λ n. TakesFirst e.input n es) node follow.1.channels)

      first_name : (m : Up) (letters : List (Letter Up)) → IsFirst m letters → EachMay (MayName x) (published_by x) (messages letters) known → MayName x m known
      first_name m [] first h = absurd first
      first_name m (letter ∷ letters) first h = subst (λ k. MayName x k known) (sym first) h.0

      taken_carries : (d : ℕ) (m : Up) → e.input ≡ input.TookUp d m → is_lost d (entries_of Server es) ≡ false → CarriesNames x (published_by x m known) m
      taken_carries d m is alive = (first_name m (up_in_flight d es) (taken_first d m is) (before.clients d alive).up).1

      -- ---- an entry that counts, and what is known then

      module _ (later : Bool) (on : known ≡ true → later ≡ true) (took : (d : ℕ) (m : Up) → e.input ≡ input.TookUp d m → CarriesNames x later m) where
        body_stored : (o : ℕ) (found : Body) → stored p.shape o server ≡ Some found → BodyNames x later found
        body_stored o found is = by (stored p.shape o server) (before.graph o) is
          where
            by : (body : Option Body) → StoredNames x known o body → body ≡ Some found → BodyNames x later found
            by None h is = absurd (cc is)
            by (Some body) h is =
                let same : body ≡ found = cc is in
                subst (BodyNames x later) same (body_on x known later on body h.1)

        leases_name : (ms : List Down) → AllByRecursion IsOfLease ms → AllByRecursion (DownNames x later) ms
        leases_name = each_so IsOfLease (DownNames x later) one
          where
            one : (m : Down) → IsOfLease m → DownNames x later m
            one (down.Grant l level) h = tt
            one (down.Recall l) h = tt
            one m h = absurd h

        wakes_name : (ms : List Down) → AllByRecursion IsWake ms → AllByRecursion (DownNames x later) ms
        wakes_name = each_so IsWake (DownNames x later) one
          where
            one : (m : Down) → IsWake m → DownNames x later m
            one (down.Wake l t) h = tt
            one m h = absurd h

        changes_name : (sets : List Set) → AllByRecursion (SetNames x later) sets → AllByRecursion (DownNames x later) (changes_down sets)
        changes_name [] h = tt
        changes_name (set ∷ sets) h = (h, tt)

        none_name_down : (ms : List Down) → ms ≡ [] → AllByRecursion (DownNames x later) ms
        none_name_down ms is = subst (AllByRecursion (DownNames x later)) (sym is) tt

        one_names : (b : Bool) (m : Down) → DownNames x later m → AllByRecursion (DownNames x later) (cond b (m ∷ []) [])
        one_names true m h = (h, tt)
        one_names false m h = tt

        module _ (c : ℕ) where
          told_for : (d : ℕ) (m : Up) (ms : List Down) → CarriesNames x later m → IsTold p c d m server ms → AllByRecursion (DownNames x later) ms
          told_for d up.IdAsk ms carried is = subst (AllByRecursion (DownNames x later)) (sym is) (one_names (eqb c d) _ tt)
          told_for d (up.Fault o) ms carried is = subst (AllByRecursion (DownNames x later)) (sym is.tells) (one_names (eqb c d) (down.Object is.body) (body_stored o is.body is.is_stored))
          told_for d (up.Flushed o) ms carried is = none_name_down ms is
          told_for d (up.Request l level) ms carried is = leases_name ms is
          told_for d (up.Return l threads) ms carried is = leases_name ms is
          told_for d (up.Commit txn) ms carried is = subst (AllByRecursion (DownNames x later)) (sym is.tells)
              (each_of_two (DownNames x later) (cond (eqb c d) (down.Ack txn.seq ∷ []) (changes_down (sets_for c txn server))) is.woken (by (eqb c d)) (wakes_name is.woken is.wake))
            where
              by : (b : Bool) → AllByRecursion (DownNames x later) (cond b (down.Ack txn.seq ∷ []) (changes_down (sets_for c txn server)))
              by true = (tt, tt)
              by false = changes_name (sets_for c txn server) (each_filtered (SetNames x later) _ txn.sets carried.1)

          told_on : (i : Input) (lost : Bool) (ms : List Down) → e.input ≡ i → IsToldOn p c i lost server ms → AllByRecursion (DownNames x later) ms
          told_on i true ms is h = none_name_down ms h
          told_on (input.TookUp d m) false ms is h = told_for d m ms (took d m is) h
          told_on (input.Lose d) false ms is h = leases_name ms h
          told_on other false ms is h = none_name_down ms h

          told_names : AllByRecursion (DownNames x later) (told_to c e.sent)
          told_names = told_on e.input (is_of_lost e.input (entries_of Server es)) (told_to c e.sent) refl (what_is_told p next c e es follow.0 rule)

          -- what the client has then, where the server takes its message or not
          taken_in : is_lost c (entries_of Server es) ≡ false → (i : Input) → e.input ≡ i → ((d : ℕ) (m : Up) → i ≡ input.TookUp d m → published_by x m known ≡ later)
              → ClientNames x p later (entries_of (Client c) es) (cond (takes_up c i) (drop 1 (messages (up_in_flight c es))) (messages (up_in_flight c es))) (messages (down_in_flight c es))
          taken_in alive (input.TookUp d m) is same = by (eqb c d) refl
            where
              by : (b : Bool) → eqb c d ≡ b → ClientNames x p later (entries_of (Client c) es) (cond b (drop 1 (messages (up_in_flight c es))) (messages (up_in_flight c es))) (messages (down_in_flight c es))
              by true mine_too = subst (λ b. ClientNames x p b (entries_of (Client c) es) (drop 1 (messages (up_in_flight c es))) (messages (down_in_flight c es))) (same d m refl)
                  (client_took x p known (entries_of (Client c) es) m (up_in_flight c es) (messages (down_in_flight c es))
                  (subst (λ n. IsFirst m (up_in_flight n es)) (sym (same_number c d mine_too)) (taken_first d m is)) (before.clients c alive))
              by false other = client_on x p known later on (entries_of (Client c) es) (messages (up_in_flight c es)) (messages (down_in_flight c es)) (before.clients c alive)
          taken_in alive i is same = client_on x p known later on (entries_of (Client c) es) (messages (up_in_flight c es)) (messages (down_in_flight c es)) (before.clients c alive)

      -- how the graph stands then, by whether the entry counts
      abbrev stored_with : Bool → ℕ → Option Body
      stored_with lost o = stored p.shape o (cond lost server (e ∷ server))

      abbrev later_known : Bool → Bool
      later_known lost = is_some (stored_with lost x)

      stored_later : (i : Input) → known ≡ true → is_some (by_taken_up (body_by x) i (stored p.shape x server)) ≡ true
      stored_later (input.TookUp d m) is = stored_by_message x d m (stored p.shape x server) ∙ still_published x m known is
      stored_later i is = is

      later_on : (lost : Bool) → known ≡ true → later_known lost ≡ true
      later_on true is = is
      later_on false is = stored_later e.input is

      took_now : is_of_lost e.input (entries_of Server es) ≡ false → (d : ℕ) (m : Up) → e.input ≡ input.TookUp d m → published_by x m known ≡ later_known false
      took_now counts d m is = sym (stored_by_message x d m (stored p.shape x server)) ∙ ap (λ i. is_some (by_taken_up (body_by x) i (stored p.shape x server))) (sym is)

      carries_now : is_of_lost e.input (entries_of Server es) ≡ false → (d : ℕ) (m : Up) → e.input ≡ input.TookUp d m → CarriesNames x (later_known false) m
      carries_now counts d m is = subst (λ b. CarriesNames x b m) (took_now counts d m is) (taken_carries d m is (subst (λ i. is_of_lost i (entries_of Server es) ≡ false) is counts))

      -- a lost client's message
      skipped : (c : ℕ) → is_of_lost e.input (entries_of Server es) ≡ true → is_lost c (entries_of Server es) ≡ false
          → ClientNames x p known (entries_of (Client c) es) (cond (takes_up c e.input) (drop 1 (messages (up_in_flight c es))) (messages (up_in_flight c es))) (messages (down_in_flight c es) ++ told_to c e.sent)
      skipped c counts alive =
          let silent : e.sent ≡ [] = skipped_silent p e (entries_of Server es) e.input rule.step counts in
          let had : NamesOf c es = before.clients c alive in
          subst (λ sent. ClientNames x p known (entries_of (Client c) es) (cond (takes_up c e.input) (drop 1 (messages (up_in_flight c es))) (messages (up_in_flight c es))) (messages (down_in_flight c es) ++ told_to c sent)) (sym silent)
          (subst (λ b. ClientNames x p known (entries_of (Client c) es) (cond b (drop 1 (messages (up_in_flight c es))) (messages (up_in_flight c es))) (messages (down_in_flight c es) ++ [])) (sym (skipped_way c e.input (entries_of Server es) counts alive))
          (subst (ClientNames x p known (entries_of (Client c) es) (messages (up_in_flight c es))) (sym (append-nil (messages (down_in_flight c es)))) had))

      server_names : (c : ℕ) → is_lost c (entries_of Server es) ≡ false → (lost : Bool) → is_of_lost e.input (entries_of Server es) ≡ lost
          → ClientNames x p (later_known lost) (entries_of (Client c) es) (cond (takes_up c e.input) (drop 1 (messages (up_in_flight c es))) (messages (up_in_flight c es))) (messages (down_in_flight c es) ++ told_to c e.sent)
      server_names c alive true counts = skipped c counts alive
      server_names c alive false counts =
          let had = taken_in (later_known false) (later_on false) (carries_now counts) c alive e.input refl (λ d m is. took_now counts d m is) in
          record {
            works = had.works;
            told = had.told;
            copies = had.copies;
            up = had.up;
            down = each_of_two (DownNames x (later_known false)) (messages (down_in_flight c es)) (told_to c e.sent) had.down (told_names (later_known false) (later_on false) (carries_now counts) c);
          }

      abbrev lost_now : Bool
      lost_now = is_of_lost e.input (entries_of Server es)

      server_client : (c : ℕ) → is_lost c (entries_of Server es) ≡ false → NamesOf c (e ∷ es)
      server_client c alive =
          let turn : ServerTurn c e es = server_turn c e es node in
          let goes = server_names c alive lost_now refl in
          subst (λ entries. ClientNames x p (is_some (stored p.shape x (counted entries))) (entries_of (Client c) (e ∷ es)) (messages (up_in_flight c (e ∷ es))) (messages (down_in_flight c (e ∷ es)))) (sym turn.server)
          (subst (λ downs. ClientNames x p (later_known lost_now) (entries_of (Client c) (e ∷ es)) (messages (up_in_flight c (e ∷ es))) downs) (sym turn.down)
          (subst (λ ups. ClientNames x p (later_known lost_now) (entries_of (Client c) (e ∷ es)) ups (messages (down_in_flight c es) ++ told_to c e.sent)) (sym turn.up)
          (subst (λ entries. ClientNames x p (later_known lost_now) entries (cond (takes_up c e.input) (drop 1 (messages (up_in_flight c es))) (messages (up_in_flight c es))) (messages (down_in_flight c es) ++ told_to c e.sent)) (sym turn.own) goes)))

      graph_in : (i : Input) (o : ℕ) (later : Bool) → (known ≡ true → later ≡ true) → ((d : ℕ) (m : Up) → i ≡ input.TookUp d m → CarriesNames x later m) → StoredNames x later o (by_taken_up (body_by o) i (stored p.shape o server))
      graph_in (input.TookUp d m) o later on took = stored_taken (AnyClass x) (InField x later) (AnyValue x) (AnyValue x) o d m (stored p.shape o server) (took d m refl) (stored_on x known later on o (stored p.shape o server) (before.graph o))
      graph_in i o later on took = stored_on x known later on o (stored p.shape o server) (before.graph o)

      graph_names : (o : ℕ) (lost : Bool) → is_of_lost e.input (entries_of Server es) ≡ lost → StoredNames x (later_known lost) o (stored_with lost o)
      graph_names o true counts = before.graph o
      graph_names o false counts = graph_in e.input o (later_known false) (later_on false) (carries_now counts)

      server_graph : (o : ℕ) → StoredNames x (is_stored (e ∷ es)) o (stored p.shape o (counted (entries_of Server (e ∷ es))))
      server_graph o = subst (λ entries. StoredNames x (is_some (stored p.shape x (counted entries))) o (stored p.shape o (counted entries))) (sym (server_turn 0 e es node).server) (graph_names o lost_now refl)

      server_first : eqb x 0 ≡ true → is_stored (e ∷ es) ≡ true
      server_first is = subst (λ entries. is_some (stored p.shape x (counted entries)) ≡ true) (sym (server_turn 0 e es node).server) (later_on lost_now (before.first is))

    -- ---- by whose turn it is

    all_names_at : (node : Node) → e.node ≡ node → AllNames (e ∷ es)
    all_names_at Server node = record {
      first = server_first node;
      clients = λ c alive. server_client node c (not_lost_before c Server e es (subst (λ entries. is_lost c entries ≡ false) (server_turn c e es node).server alive));
      graph = server_graph node;
    }
    all_names_at (Client d) node =
        let same : entries_of Server (e ∷ es) ≡ entries_of Server es = (own_turn d e es node).server in
        record {
          first = λ is. subst (λ entries. is_some (stored p.shape x (counted entries)) ≡ true) (sym same) (before.first is);
          clients = λ c alive. by c (subst (λ entries. is_lost c entries ≡ false) same alive) (eqb c d) refl;
          graph = λ o. subst (λ entries. StoredNames x (is_some (stored p.shape x (counted entries))) o (stored p.shape o (counted entries))) (sym same) (before.graph o);
        }
      where
        by : (c : ℕ) → is_lost c (entries_of Server es) ≡ false → (b : Bool) → eqb c d ≡ b → NamesOf c (e ∷ es)
        by c alive true same = own_names c alive (node ∙ ap Client (sym (same_number c d same)))
        by c alive false other = other_names c alive d node other

  opening_names : (o : ℕ) → StoredNames x (is_some (stored p.shape x [])) o (stored p.shape o [])
  opening_names o = by (eqb o 0) refl
    where
      nulls : (n f : ℕ) (v : Value) → slice_get (replicate n value.Null) f ≡ Some v → NamesKnown x (is_some (stored p.shape x [])) v
      nulls zero f v is = absurd (cc is)
      nulls (suc n) zero v is =
          let same : value.Null ≡ v = cc is in
          λ names. absurd (let never : false ≡ true = ap (is_reference x) same ∙ names in cc never)
      nulls (suc n) (suc f) v is = nulls n f v is

      by : (b : Bool) → eqb o 0 ≡ b → StoredNames x (is_some (stored p.shape x [])) o (cond b (Some (opening_roots p.shape)) None)
      by true is = (sym (same_number o 0 is), record { class = tt; values = nulls p.shape.roots })
      by false is = tt

  -- So over a whole journal.
  all_names : (es : List Entry) → AllFollow p next es → AllNames es
  all_names [] follow = record {
    first = λ is. subst (λ b. is_some (cond b (Some (opening_roots p.shape)) None) ≡ true) (sym is) refl;
    clients = λ c alive. record { works = λ t. record { privates = tt; news = tt; sets = tt }; told = λ t is. absurd (cc is); copies = λ o f. tt; up = tt; down = tt };
    graph = opening_names;
  }
  all_names (e ∷ es) follow = all_names_at e es follow (all_names es follow.0) e.node refl

-- ---- in the words of the law

module _ (p : Settings) (next : ThreadId → List Event → Option Request) (sound : AsksSoundly p.shape next) (texts : GivesKnownTexts p.shape next) (within : StaysWithinShape p.shape next) (es : List Entry) (follow : AllFollow p next es) where
  abbrev at_server : List Entry
  at_server = counted (entries_of Server es)

  some_there : {X : Type 0} (o : Option X) → is_some o ≡ true → o ≢ None
  some_there None is = absurd (cc is)
  some_there (Some x) is = λ none. cc none

  -- what comes, of any object
  module _ (c : ℕ) (alive : is_lost c (entries_of Server es) ≡ false) (m : Up) (first : IsFirst m (up_in_flight c es)) where
    comes : (x : ℕ) → MayName x m (is_some (stored p.shape x at_server))
    comes x = by (up_in_flight c es) first ((all_names p next sound texts within x es follow).clients c alive).up
      where
        by : (letters : List (Letter Up)) → IsFirst m letters → EachMay (MayName x) (published_by x) (messages letters) (is_some (stored p.shape x at_server)) → MayName x m (is_some (stored p.shape x at_server))
        by [] first h = absurd first
        by (letter ∷ letters) first h = subst (λ k. MayName x k (is_some (stored p.shape x at_server))) (sym first) h.0

  module _ (txn : Txn) (comes : (x : ℕ) → CarriesNames x (is_among x txn.news || is_some (stored p.shape x at_server)) (up.Commit txn)) where
    named : (v : Value) → ((x : ℕ) → NamesKnown x (is_among x txn.news || is_some (stored p.shape x at_server)) v) → IsNamed p txn.news at_server v
    named (value.Ref o) h = by (is_among o txn.news) refl (h o (number_self o))
      where
        by : (b : Bool) → is_among o txn.news ≡ b → (b || is_some (stored p.shape o at_server)) ≡ true → IsNamed p txn.news at_server (value.Ref o)
        by true is either = inr is
        by false is either = inl (some_there (stored p.shape o at_server) either)
    named value.Null h = tt
    named (value.Long n) h = tt
    named (value.Bool b) h = tt
    named (value.Text n) h = tt

    news_named : (bodies : List Body) → ((x : ℕ) → AllByRecursion (BodyNames x (is_among x txn.news || is_some (stored p.shape x at_server))) bodies) → AllByRecursion (λ body. AllByRecursion (IsNamed p txn.news at_server) body.values) bodies
    news_named [] h = tt
    news_named (body ∷ bodies) h = (all_values (IsNamed p txn.news at_server) body.values (λ f v is. named v (λ x. (h x).0.values f v is)), news_named bodies (λ x. (h x).1))

    sets_named : (sets : List Set) → ((x : ℕ) → AllByRecursion (SetNames x (is_among x txn.news || is_some (stored p.shape x at_server))) sets) → AllByRecursion (λ set. IsNamed p txn.news at_server set.value) sets
    sets_named [] h = tt
    sets_named (set ∷ sets) h = (named set.value (λ x. (h x).0), sets_named sets (λ x. (h x).1))

    record_named : AllByRecursion (IsNamed p txn.news at_server) (stored_values txn)
    record_named = each_of_two (IsNamed p txn.news at_server) (flat_map (λ body. body.values) txn.news) (map (λ set. set.value) txn.sets)
        (all_flat (IsNamed p txn.news at_server) txn.news (news_named txn.news (λ x. (comes x).0)))
        (all_set (IsNamed p txn.news at_server) txn.sets (sets_named txn.sets (λ x. (comes x).1)))

  up_names : (m : Up) → ((x : ℕ) → MayName x m (is_some (stored p.shape x at_server))) → NamesWhatIsOut p at_server m
  up_names (up.Fault o) h = some_there (stored p.shape o at_server) ((h o).0 (number_self o))
  up_names (up.Commit txn) h = record_named txn (λ x. (h x).1)
  up_names m h = tt

  graph_value : (v : Value) → ((x : ℕ) → NamesKnown x (is_some (stored p.shape x at_server)) v) → IsInGraph p at_server v
  graph_value (value.Ref o) h = some_there (stored p.shape o at_server) (h o (number_self o))
  graph_value value.Null h = tt
  graph_value (value.Long n) h = tt
  graph_value (value.Bool b) h = tt
  graph_value (value.Text n) h = tt

  graph_body : (o : ℕ) (body : Body) → stored p.shape o at_server ≡ Some body → AllByRecursion (IsInGraph p at_server) body.values
  graph_body o body is = all_values (IsInGraph p at_server) body.values (λ f v at. graph_value v (λ x. by x (stored p.shape o at_server) ((all_names p next sound texts within x es follow).graph o) is f v at))
    where
      by : (x : ℕ) (found : Option Body) → StoredNames x (is_some (stored p.shape x at_server)) o found → found ≡ Some body → (f : ℕ) (v : Value) → slice_get body.values f ≡ Some v → NamesKnown x (is_some (stored p.shape x at_server)) v
      by x None h is f v at = absurd (cc is)
      by x (Some found) h is f v at =
          let same : found ≡ body = cc is in
          h.1.values f v (ap (λ (b : Body). slice_get b.values f) same ∙ at)

pub names_are_out : NamesAreOut
names_are_out p next sound texts within es follow = record {
  ups = λ c alive m first. up_names p next sound texts within es follow m (comes p next sound texts within es follow c alive m first);
  graph = graph_body p next sound texts within es follow;
}
