-- An object was used: that changes the order of use alone.
use Rattle.std.proofs.Common.{◌≡◌, ℕ, ◌≤◌, refl, sym, ◌∙◌, ap, subst, Bool, true, false, cond, ◌||◌, is_some, Option, Some, None, List, ◌∷◌, take}
use Rattle.dso_base.specs.declared.lock.ThreadId.{ThreadId}
use Rattle.dso_base.specs.declared.record.Body.{Body}
use Rattle.dso_base.specs.declared.request.Request.{Request}
use Rattle.dso_base.specs.declared.request.Request.TheVariants.{Look, Get, Put}
use Rattle.dso_law.specs.Copies.{is_resident}
use Rattle.dso_law.specs.Records.{records}
use Rattle.dso_law.specs.RequestNeeds.{Need, first_unmet, unless, unmet}
use Rattle.dso_law.specs.Threads.{or_else, own, work_of}
use Rattle.dso_law.specs.UseOrder.{object_used, use_order, used_by_thread, used_first}
use Rattle.dso_law.proofs.core.Bodies.{bodies_are_held}
use Rattle.dso_table.specs.declared.tables.ObjectTables.{ObjectTables}
use Rattle.dso_table.specs.States as states
use Rattle.dso_table.specs.States.{State, body_of, is_asked, used}
use Rattle.dso_table.specs.ObjectTables.{state_in}
use Rattle.dso_txn.specs.InHand.{bodies_in, news_in}
use Rattle.dso_client.specs.declared.answered.Answered.{Answered}
use Rattle.dso_client.specs.declared.thread_context.ThreadContext.{ThreadContext}
use Rattle.dso_client.specs.SentRecords.{HasWork, has_in_hand, used_by}
use Rattle.dso_client.specs.ActEffects.{applied}
use Rattle.dso_client.specs.RunPoints.{RunPoint}
use Rattle.dso_client.specs.TableStands.{TableStands, TableTells}
use Rattle.dso_client.proofs.objects.Own.{own_tells}

same_but_used : (context : ThreadContext) (found : Option ℕ) (s : State) → record (used_by context found s) { used = s.used } ≡ s
same_but_used context None s = refl
same_but_used context (Some o) s = by (has_in_hand context o)
  where
    there : (b : Bool) (list : List ℕ) → record (cond b (record s { used = list }) s) { used = s.used } ≡ s
    there true list = refl
    there false list = refl

    by : (b : Bool) → record (cond b s (used o s)) { used = s.used } ≡ s
    by true = refl
    by false = there (states.is_resident (s.standing o)) (take s.limit (o ∷ states.without o s.used))

-- a need that is met, and the first of two that are
met_is : (b : Bool) (need : Need) → unless b need ≡ None → b ≡ true
met_is true need e = refl
met_is false need e = absurd (cc e)

first_met : (first later : Option Need) → first_unmet first later ≡ None → first ≡ None
first_met None later e = refl
first_met (Some need) later e = absurd (cc e)

-- where the needs of a look, a get or a put are met, its object is the thread's own or resident
is_there : (at : RunPoint) (t : ThreadId) (request : Request) (o : ℕ) → unmet at.settings at.client at.next t request at.entries ≡ None → object_used request ≡ Some o
    → (is_some (own at.settings.shape t o at.entries) || is_resident o at.entries) ≡ true
is_there at t (Look x) o met is = subst (λ x. (is_some (own at.settings.shape t x at.entries) || is_resident x at.entries) ≡ true) (cc is) (met_is _ _ met)
is_there at t (Get x f) o met is = subst (λ x. (is_some (own at.settings.shape t x at.entries) || is_resident x at.entries) ≡ true) (cc is) (met_is _ _ (first_met _ _ met))
is_there at t (Put x f v) o met is = subst (λ x. (is_some (own at.settings.shape t x at.entries) || is_resident x at.entries) ≡ true) (cc is) (met_is _ _ (first_met _ _ met))
is_there at t request o met is = absurd (cc is)

-- one of two is there
either : (a b : Option Body) → (is_some a || is_some b) ≡ is_some (or_else a b)
either None b = refl
either (Some a) b = refl

not_own : (b c : Bool) → b ≡ false → (b || c) ≡ true → c ≡ true
not_own true c e h = absurd (cc e)
not_own false c e h = h

module _ (clock : ℕ) (at : RunPoint) (act : Answered) (context : ThreadContext) (its : context.id ≡ act.thread) (work : HasWork at context)
    (met : unmet at.settings at.client at.next act.thread act.request at.entries ≡ None) (old new : ObjectTables) (h : TableStands at old) where
  abbrev before : List ℕ
  before = use_order at.settings at.entries

  -- what the thread has in hand is its own
  in_hand : (o : ℕ) → has_in_hand context o ≡ is_some (own at.settings.shape act.thread o at.entries)
  in_hand o = either (bodies_in context.privates o) (news_in context.block o)
      ∙ (ap is_some (own_tells context.privates context.block (work_of at.settings.shape context.id at.entries) o work)
      ∙ ap (λ t. is_some (own at.settings.shape t o at.entries)) its)

  -- a resident object comes first
  comes_first : (o : ℕ) → states.is_resident ((state_in old).standing o) ≡ true → (used o (state_in old)).used ≡ used_first at.settings.resident o before
  comes_first o there =
      let s = state_in old in
      ap (λ b. (cond b (record s { used = take s.limit (o ∷ states.without o s.used) }) s).used) there
      ∙ (ap (λ n. take n (o ∷ states.without o s.used)) h.room ∙ ap (used_first at.settings.resident o) h.order)

  in_order : (found : Option ℕ) → object_used act.request ≡ found → (used_by context found (state_in old)).used ≡ used_by_thread at.settings act.thread found at.entries before
  in_order None is = h.order
  in_order (Some o) is = by (has_in_hand context o) refl
    where
      by : (b : Bool) → has_in_hand context o ≡ b
          → (cond b (state_in old) (used o (state_in old))).used ≡ cond (is_some (own at.settings.shape act.thread o at.entries)) before (used_first at.settings.resident o before)
      by true mine = h.order ∙ sym (ap (λ b. cond b before (used_first at.settings.resident o before)) (sym (in_hand o) ∙ mine))
      by false mine =
          let others = sym (in_hand o) ∙ mine in
          let there = not_own (is_some (own at.settings.shape act.thread o at.entries)) (is_resident o at.entries) others (is_there at act.thread act.request o met is) in
          comes_first o (ap is_some (h.bodies o) ∙ ((bodies_are_held o at.entries).resident ∙ there))
          ∙ sym (ap (λ b. cond b before (used_first at.settings.resident o before)) others)

  -- the table tells what it told, with the order of use once the request was answered
  pub used_stands : state_in new ≡ used_by context (object_used act.request) (state_in old) → TableTells at (use_order at.settings (applied clock act at).entries) new
  used_stands is =
      let same : record (state_in new) { used = (state_in old).used } ≡ state_in old = ap (λ (s : State). record s { used = (state_in old).used }) is ∙ same_but_used context (object_used act.request) (state_in old) in
      record {
        bodies = λ x. ap (λ (s : State). body_of (s.standing x)) same ∙ h.bodies x;
        asked = λ x. ap (λ (s : State). is_asked (s.standing x)) same ∙ h.asked x;
        marks = λ x. ap (λ (s : State). s.marks x) same ∙ h.marks x;
        opened = λ t x. ap (λ (s : State). s.opened (t, x)) same ∙ h.opened t x;
        wanted = λ t x. ap (λ (s : State). s.wanted (t, x)) same ∙ h.wanted t x;
        room = ap (λ (s : State). s.limit) same ∙ h.room;
        count = ap (λ (s : State). s.residents) same ∙ h.count;
        acked = subst (λ n. n ≤ records at.entries) (sym (ap (λ (s : State). s.acked) same)) h.acked;
        order = ap (λ (s : State). s.used) is ∙ in_order (object_used act.request) refl;
      }
