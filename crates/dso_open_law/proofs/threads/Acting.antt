-- Whether a thread may act after an entry that doesn't touch it: just where it might before. Its own work, holds and
-- looks are left alone by other threads' events, and what its next request is about by all of the entry.
use Rattle.std.specs.List.{list_any}
use Rattle.std.specs.Option.{option_map}
use Rattle.std.proofs.Common.{ℕ, ◌≡◌, refl, sym, ◌∙◌, ap, subst, Bool, true, false, cond, not, eqb, ltb, ◌&&◌, ◌||◌, is_some, Option, Some, None, List, [], ◌∷◌, ◌++◌}
use Rattle.std.proofs.lemmas.Bool.{cond-false, or_parts}
use Rattle.dso_base.specs.declared.journal.Entry.{Entry}
use Rattle.dso_base.specs.declared.lock.Level.{Level}
use Rattle.dso_base.specs.declared.lock.Level.TheVariants.{Write}
use Rattle.dso_base.specs.declared.lock.LockName.{LockName}
use Rattle.dso_base.specs.declared.lock.ThreadId.{ThreadId}
use Rattle.dso_base.specs.declared.message.Up.TheVariants as up
use Rattle.dso_base.specs.declared.record.Body.{Body}
use Rattle.dso_base.specs.declared.record.Set.{Set}
use Rattle.dso_base.specs.declared.request.Event.{Event}
use Rattle.dso_base.specs.declared.request.Event.TheVariants.{Act, Lost}
use Rattle.dso_base.specs.declared.request.Reply.TheVariants.{Made, Seen, Val}
use Rattle.dso_base.specs.declared.request.Request.{Request}
use Rattle.dso_base.specs.declared.request.Request.TheVariants.{New, Look, Get, Put, Enter, Resume, Settle}
use Rattle.dso_base.specs.declared.value.ClassId.{ClassId}
use Rattle.dso_base.specs.declared.value.Value.{Value}
use Rattle.dso_base.specs.Block.{Work, body_in}
use Rattle.dso_base.specs.Following.{is_thread}
use Rattle.dso_law.specs.Settings.{Settings, threads_of}
use Rattle.dso_law.specs.Entries.{by_event}
use Rattle.dso_law.specs.Threads.{or_else, work_of, own, is_local, hold_of, seen_by, seen_after, last_seen}
use Rattle.dso_law.specs.Copies.{is_resident, class_held, copy_of, is_set_of, value_by_set, value_by_sets}
use Rattle.dso_law.specs.Leases.{leased, is_asked_for}
use Rattle.dso_law.specs.ClientWaiters.{is_marked}
use Rattle.dso_law.specs.Records.{next_id, is_settled}
use Rattle.dso_law.specs.Closing.{wants_write, admits}
use Rattle.dso_law.specs.RequestNeeds.{Need, NeedsId, NeedsObject, NeedsClass, NeedsMark, NeedsLease, NeedsOthersOut, NeedsAck, is_seen_class, is_enough, conflicts, unless, first_unmet, is_in_conflict, entry_need, unmet, unless_asked, ask_for}
use Rattle.dso_law.specs.Replies.{class_of_body, class_known, value_in, value_seen, put_answer, answer_put, reply_of}
use Rattle.dso_law.specs.ClientStep.{can_do, can_act, may_act}
use Rattle.dso_law.proofs.runs.OwnRequests.{same_any}
use Rattle.dso_law.proofs.runs.Others.{IsOthers, same_hold, same_work, same_local}
use Rattle.dso_law.proofs.runs.Quiet.{lock_self}
use Rattle.dso_open_law.specs.TouchedThreads.{Topic, OfIds, OfObject, OfLock, topic_of, topic, is_topic, acts, set_objects, touched_topics}
use Rattle.dso_open_law.specs.OthersMayAct.{OnlyActorsGoOn, OthersMayAct}
use Rattle.dso_open_law.proofs.readings.Untouched.{IsSpared, spared_parts, Spares, parts_spare}
use Rattle.dso_open_law.proofs.readings.Locks.{lease_stays, asked_stays}
use Rattle.dso_open_law.proofs.readings.Holds.{level_stays}
use Rattle.dso_open_law.proofs.readings.Objects.{resident_stays, class_stays, object_asked_stays, copy_stays}
use Rattle.dso_open_law.proofs.readings.Ids.{next_id_stays, batch_asked_stays}
use Rattle.dso_open_law.proofs.readings.Settled.{settled_stays}
use Rattle.dso_open_law.proofs.threads.Awaiting.{wish_stays, admits_stays}

-- an event that isn't the thread's is another's
pub others_event : (t : ThreadId) (event : Option Event) → acts t event ≡ false → IsOthers t event
others_event t None other = tt
others_event t (Some event) other = other

-- it leaves what the thread's latest Look saw
seen_left : (t : ThreadId) (event : Option Event) (seen : Option (ClassId × ℕ)) → acts t event ≡ false → by_event (seen_after t) event seen ≡ seen
seen_left t None seen other = refl
seen_left t (Some (Act thread request reply woken)) seen other = cond-false (is_thread t thread) (seen_by request reply seen) seen other
seen_left t (Some (Lost client)) seen other = refl

-- whether a Put is answered goes by the object's class and size alone
put_answered : (p : Settings) (t : ThreadId) (o f : ℕ) (class : Option (ClassId × ℕ)) (now es : List Entry) → is_some (answer_put p t o f class now) ≡ is_some (answer_put p t o f class es)
put_answered p t o f None now es = refl
put_answered p t o f (Some class) now es = by (ltb f class.1)
  where
    by : (b : Bool) → is_some (cond b (Some (put_answer p t o f class.0 now)) None) ≡ is_some (cond b (Some (put_answer p t o f class.0 es)) None)
    by true = refl
    by false = refl

-- a value that is set, or was there before, is there
sets_there : (o f : ℕ) (sets : List Set) (v w : Option Value) → is_some v ≡ is_some w → is_some (value_by_sets o f sets v) ≡ is_some (value_by_sets o f sets w)
sets_there o f [] v w same = same
sets_there o f (set ∷ sets) v w same = sets_there o f sets (value_by_set o f v set) (value_by_set o f w set) (by (is_set_of o f set))
  where
    by : (b : Bool) → is_some (cond b (Some set.value) v) ≡ is_some (cond b (Some set.value) w)
    by true = refl
    by false = same

-- whether a Get is answered goes, but for the thread's own, by whether the copy has the value
get_answered : (p : Settings) (body : Option Body) (o f : ℕ) (sets : List Set) (v w : Option Value) → is_some v ≡ is_some w
    → is_some (option_map Val (value_in p body f (value_by_sets o f sets v))) ≡ is_some (option_map Val (value_in p body f (value_by_sets o f sets w)))
get_answered p (Some body) o f sets v w same = refl
get_answered p None o f sets v w same = told (value_by_sets o f sets v) ∙ sets_there o f sets v w same ∙ sym (told (value_by_sets o f sets w))
  where
    told : (v : Option Value) → is_some (option_map Val v) ≡ is_some v
    told None = refl
    told (Some v) = refl

-- where the thread next reads a field of an object that the entry doesn't touch, its copy has a value of the field, or
-- has none, with the entry and before it
abbrev pub ReadsAlike : (before after : ThreadId → Option Request) → List Entry → Entry → ThreadId → Type 0
ReadsAlike before after es e t = (o f : ℕ) → after t ≡ Some (Get o f) → Spares before after es (OfObject o) e → is_some (copy_of o f (e ∷ es)) ≡ is_some (copy_of o f es)

module _ (p : Settings) (c : ℕ) (before after : ThreadId → Option Request) (es : List Entry) (e : Entry)
    (goes : OnlyActorsGoOn c before after e) (t : ThreadId) (other : acts t e.event ≡ false) (reads : ReadsAlike before after es e t) where
  -- with the entry
  abbrev now : List Entry
  now = e ∷ es

  its : IsOthers t e.event
  its = others_event t e.event other

  -- ---- what the thread has of its own

  own_stays : (o : ℕ) → own p.shape t o now ≡ own p.shape t o es
  own_stays o = ap (λ (work : Work). or_else (body_in o work.privates) (body_in o work.news)) (same_work t e es its p.shape)

  seen_stays : last_seen t now ≡ last_seen t es
  seen_stays = seen_left t e.event (last_seen t es) other

  -- ---- what is asked, and whether there is a reply

  -- what is asked for a need, or isn't, with the entry and before it
  abbrev AsksAlike : Need → Type 0
  AsksAlike need = is_some (ask_for need now) ≡ is_some (ask_for need es)

  -- a reply is there, or isn't, with the entry and before it
  abbrev AnswersAlike : Request → Type 0
  AnswersAlike request = is_some (reply_of p t request now) ≡ is_some (reply_of p t request es)

  one_need : (request : Request) (need : Need) (met : Bool) → AsksAlike need → AnswersAlike request → can_do p t request (unless met need) now ≡ can_do p t request (unless met need) es
  one_need request need true asks answers = answers
  one_need request need false asks answers = asks

  two_needs : (request : Request) (first second : Need) (met met_too : Bool) → AsksAlike first → AsksAlike second → AnswersAlike request
      → can_do p t request (first_unmet (unless met first) (unless met_too second)) now ≡ can_do p t request (first_unmet (unless met first) (unless met_too second)) es
  two_needs request first second true met_too asks asks_too answers = one_need request second met_too asks_too answers
  two_needs request first second false met_too asks asks_too answers = asks

  -- ---- ids

  new_stays : (class : ClassId) (n : ℕ) → Spares before after es OfIds e → can_do p t (New class n) (unmet p c after t (New class n) now) now ≡ can_do p t (New class n) (unmet p c before t (New class n) es) es
  new_stays class n spares =
      let id = next_id_stays before after es e spares in
      ap (λ left. can_do p t (New class n) (unless left NeedsId) now) id
      ∙ one_need (New class n) NeedsId (is_some (next_id es)) (ap (λ asked. is_some (unless_asked asked up.IdAsk)) (batch_asked_stays before after es e spares)) (told (next_id now) ∙ id ∙ sym (told (next_id es)))
    where
      told : (id : Option ℕ) → is_some (option_map Made id) ≡ is_some id
      told None = refl
      told (Some o) = refl

  -- ---- objects

  module _ (o : ℕ) (spares : Spares before after es (OfObject o) e) where
    object_asked : AsksAlike (NeedsObject o)
    object_asked = ap (λ asked. is_some (unless_asked asked (up.Fault o))) (object_asked_stays before after es o e spares)

    known_stays : class_known p t o now ≡ class_known p t o es
    known_stays = ap (λ body. or_else (option_map class_of_body body) (class_held o now)) (own_stays o) ∙ ap (λ class. or_else (option_map class_of_body (own p.shape t o es)) class) (class_stays before after es o e spares)

    -- whether the object is there
    there_stays : (is_some (own p.shape t o now) || is_resident o now) ≡ (is_some (own p.shape t o es) || is_resident o es)
    there_stays = ap (λ body. is_some body || is_resident o now) (own_stays o) ∙ ap (λ resident. is_some (own p.shape t o es) || resident) (resident_stays before after es o e spares)

    -- whether it is as the thread saw it
    as_seen_stays : (is_some (own p.shape t o now) || (eqb o 0 || is_seen_class (class_held o now) (last_seen t now))) ≡ (is_some (own p.shape t o es) || (eqb o 0 || is_seen_class (class_held o es) (last_seen t es)))
    as_seen_stays = ap (λ body. is_some body || (eqb o 0 || is_seen_class (class_held o now) (last_seen t now))) (own_stays o)
        ∙ ap (λ class. is_some (own p.shape t o es) || (eqb o 0 || is_seen_class class (last_seen t now))) (class_stays before after es o e spares)
        ∙ ap (λ seen. is_some (own p.shape t o es) || (eqb o 0 || is_seen_class (class_held o es) seen)) seen_stays

    look_stays : can_do p t (Look o) (unmet p c after t (Look o) now) now ≡ can_do p t (Look o) (unmet p c before t (Look o) es) es
    look_stays = ap (λ there. can_do p t (Look o) (unless there (NeedsObject o)) now) there_stays
        ∙ one_need (Look o) (NeedsObject o) (is_some (own p.shape t o es) || is_resident o es) object_asked (ap (λ class. is_some (option_map (λ class. Seen class.0 class.1) class)) known_stays)

    -- a Get or a Put, once its reply is
    access_stays : (request : Request) → AnswersAlike request
        → can_do p t request (first_unmet (unless (is_some (own p.shape t o now) || is_resident o now) (NeedsObject o)) (unless (is_some (own p.shape t o now) || (eqb o 0 || is_seen_class (class_held o now) (last_seen t now))) (NeedsClass o))) now
        ≡ can_do p t request (first_unmet (unless (is_some (own p.shape t o es) || is_resident o es) (NeedsObject o)) (unless (is_some (own p.shape t o es) || (eqb o 0 || is_seen_class (class_held o es) (last_seen t es))) (NeedsClass o))) es
    access_stays request answers =
        ap (λ there. can_do p t request (first_unmet (unless there (NeedsObject o)) (unless (is_some (own p.shape t o now) || (eqb o 0 || is_seen_class (class_held o now) (last_seen t now))) (NeedsClass o))) now) there_stays
        ∙ ap (λ as_seen. can_do p t request (first_unmet (unless (is_some (own p.shape t o es) || is_resident o es) (NeedsObject o)) (unless as_seen (NeedsClass o))) now) as_seen_stays
        ∙ two_needs request (NeedsObject o) (NeedsClass o) (is_some (own p.shape t o es) || is_resident o es) (is_some (own p.shape t o es) || (eqb o 0 || is_seen_class (class_held o es) (last_seen t es))) object_asked refl answers

    get_stays : (f : ℕ) → after t ≡ Some (Get o f) → AnswersAlike (Get o f)
    get_stays f is = ap (λ body. is_some (option_map Val (value_in p body f (value_seen p t o f now)))) (own_stays o)
        ∙ ap (λ (work : Work). is_some (option_map Val (value_in p (own p.shape t o es) f (value_by_sets o f work.sets (copy_of o f now))))) (same_work t e es its p.shape)
        ∙ get_answered p (own p.shape t o es) o f (work_of p.shape t es).sets (copy_of o f now) (copy_of o f es) (reads o f is spares)

    put_stays : (f : ℕ) (v : Value) → AnswersAlike (Put o f v)
    put_stays f v = ap (λ class. is_some (answer_put p t o f class now)) known_stays ∙ put_answered p t o f (class_known p t o es) now es

  -- ---- locks

  module _ (l : LockName) (spares : Spares before after es (OfLock l) e) where
    lease_asked : (level : Level) → AsksAlike (NeedsLease l level)
    lease_asked level = ap (λ lease. is_some (unless_asked (is_some lease || is_asked_for l now) (up.Request l level))) (lease_stays before after es l e spares)
        ∙ ap (λ asked. is_some (unless_asked (is_some (leased l es) || asked) (up.Request l level))) (asked_stays before after es l e spares)

    -- whether the lease lets the thread in
    lets_in_stays : (level : Level) → (is_enough level (leased l now) && admits p c after l now) ≡ (is_enough level (leased l es) && admits p c before l es)
    lets_in_stays level = ap (λ lease. is_enough level lease && admits p c after l now) (lease_stays before after es l e spares)
        ∙ ap (λ admits. is_enough level (leased l es) && admits) (admits_stays p c before after es l e goes spares)

    -- whether another thread is in the way
    conflict_stays : (level : Level) → list_any (is_in_conflict p c after t l level now) (threads_of p c) ≡ list_any (is_in_conflict p c before t l level es) (threads_of p c)
    conflict_stays level = same_any c (is_in_conflict p c after t l level now) (is_in_conflict p c before t l level es)
        (λ u own. ap (λ held. not (is_thread t u) && conflicts level held) (level_stays before after es l e spares u)) p.threads

    entry_stays : (level : Level) → entry_need p c after t l level now ≡ entry_need p c before t l level es
    entry_stays level = ap (λ lets_in. first_unmet (unless lets_in (NeedsLease l level)) (unless (not (list_any (is_in_conflict p c after t l level now) (threads_of p c))) (NeedsOthersOut l))) (lets_in_stays level)
        ∙ ap (λ conflict. first_unmet (unless (is_enough level (leased l es) && admits p c before l es) (NeedsLease l level)) (unless (not conflict) (NeedsOthersOut l))) (conflict_stays level)

    entry_done : (request : Request) (level : Level) → AnswersAlike request → can_do p t request (entry_need p c before t l level es) now ≡ can_do p t request (entry_need p c before t l level es) es
    entry_done request level answers = two_needs request (NeedsLease l level) (NeedsOthersOut l) (is_enough level (leased l es) && admits p c before l es)
        (not (list_any (is_in_conflict p c before t l level es) (threads_of p c))) (lease_asked level) refl answers

    enter_stays : (level : Level) → can_do p t (Enter l level) (unmet p c after t (Enter l level) now) now ≡ can_do p t (Enter l level) (unmet p c before t (Enter l level) es) es
    enter_stays level = ap (λ need. can_do p t (Enter l level) (cond (is_local p.shape t l now || is_some (hold_of t l now)) None need) now) (entry_stays level)
        ∙ ap (λ local. can_do p t (Enter l level) (cond (local || is_some (hold_of t l now)) None (entry_need p c before t l level es)) now) (same_local t e es its p.shape l)
        ∙ ap (λ hold. can_do p t (Enter l level) (cond (is_local p.shape t l es || is_some hold) None (entry_need p c before t l level es)) now) (same_hold t e es its l)
        ∙ by (is_local p.shape t l es || is_some (hold_of t l es))
      where
        by : (b : Bool) → can_do p t (Enter l level) (cond b None (entry_need p c before t l level es)) now ≡ can_do p t (Enter l level) (cond b None (entry_need p c before t l level es)) es
        by true = refl
        by false = entry_done (Enter l level) level refl

    -- the mark of a thread that is to go on at the lock
    mark_stays : after t ≡ Some (Resume l) → is_marked t now ≡ is_marked t es
    mark_stays is = sym (wanted now) ∙ wish_stays before after es l t e spares other ∙ wanted es
      where
        wanted : (entries : List Entry) → wants_write l (is_marked t entries) (after t) ≡ is_marked t entries
        wanted entries = ap (wants_write l (is_marked t entries)) is ∙ ap (λ b. b && is_marked t entries) (lock_self l)

    resume_stays : after t ≡ Some (Resume l) → can_do p t (Resume l) (unmet p c after t (Resume l) now) now ≡ can_do p t (Resume l) (unmet p c before t (Resume l) es) es
    resume_stays is = ap (λ need. can_do p t (Resume l) (first_unmet (unless (is_marked t now) (NeedsMark l)) need) now) (entry_stays Write)
        ∙ ap (λ marked. can_do p t (Resume l) (first_unmet (unless marked (NeedsMark l)) (entry_need p c before t l Write es)) now) (mark_stays is)
        ∙ by (is_marked t es)
      where
        by : (b : Bool) → can_do p t (Resume l) (first_unmet (unless b (NeedsMark l)) (entry_need p c before t l Write es)) now ≡ can_do p t (Resume l) (first_unmet (unless b (NeedsMark l)) (entry_need p c before t l Write es)) es
        by true = entry_done (Resume l) Write refl
        by false = refl

  -- ---- each request

  request_stays : (request : Request) → after t ≡ Some request → Spares before after es (topic_of t request) e
      → can_do p t request (unmet p c after t request now) now ≡ can_do p t request (unmet p c before t request es) es
  request_stays (New class n) is spares = new_stays class n spares
  request_stays (Look o) is spares = look_stays o spares
  request_stays (Get o f) is spares = access_stays o spares (Get o f) (get_stays o spares f is)
  request_stays (Put o f v) is spares = access_stays o spares (Put o f v) (put_stays o spares f v)
  request_stays (Enter l level) is spares = enter_stays l spares level
  request_stays (Resume l) is spares = resume_stays l spares is
  request_stays Settle is spares = ap (λ settled. can_do p t Settle (unless settled NeedsAck) now) (settled_stays before after es t e spares) ∙ one_need Settle NeedsAck (is_settled t es) refl refl
  request_stays request is spares = refl

  next_stays : (request : Option Request) → after t ≡ request → IsSpared (topic t request) (touched_topics before after es e) → can_act p c after t request now ≡ can_act p c before t request es
  next_stays None is none = refl
  next_stays (Some request) is none = request_stays request is (parts_spare before after es (topic_of t request) e none)

  -- So the thread may act where it might.
  pub may_act_stays : after t ≡ before t → IsSpared (topic t (before t)) (touched_topics before after es e) → may_act p c after t now ≡ may_act p c before t es
  may_act_stays same none = ap (λ request. can_act p c after t request now) same ∙ next_stays (before t) same none

-- Others may act as before.
pub others_may_act : OthersMayAct
others_may_act p c before after e es t goes own untouched =
    let about : Topic = topic t (before t) in
    let h = or_parts (acts t e.event) (list_any (is_topic about) (touched_topics before after es e ++ set_objects e)) untouched in
    let g = spared_parts about (touched_topics before after es e) (set_objects e) h.1 in
    let same : after t ≡ before t = goes t own h.0 in
    let reads : ReadsAlike before after es e t = λ o f is spares. ap is_some
    (copy_stays before after es o e spares (subst (λ request. IsSpared (topic t request) (set_objects e)) (sym same ∙ is) g.1) f) in
    may_act_stays p c before after es e goes t h.0 reads same g.0
