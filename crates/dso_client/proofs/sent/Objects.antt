-- The table as a record is sent: object by object, and set by set.
use Rattle.std.specs.List.{list_any}
use Rattle.std.proofs.Common.{◌≡◌, ℕ, suc, ◌+◌, ◌≤◌, ◌<◌, refl, sym, ◌∙◌, ap, arith, subst, Bool, true, false, cond, eqb, ◌||◌, is_some, Option, Some, None, List, [], ◌∷◌, ◌++◌}
use Rattle.std.proofs.lemmas.Bool.{eqb-true, lt-ltb}
use Rattle.std.proofs.lemmas.List.Folds.{list_any-append}
use Rattle.std.proofs.lemmas.List.Sums.{fold-append}
use Rattle.std.specs.Option.{option_map}
use Rattle.dso_base.specs.declared.lock.ThreadId.{ThreadId}
use Rattle.dso_base.specs.declared.message.Up.TheVariants.{Commit}
use Rattle.dso_base.specs.declared.record.Body.{Body}
use Rattle.dso_base.specs.declared.record.Set.{Set}
use Rattle.dso_base.specs.declared.record.Txn.{Txn}
use Rattle.dso_base.specs.declared.request.Request.{Request}
use Rattle.dso_change.specs.Hands.{has_field}
use Rattle.dso_law.specs.ChangeMarks.{change_mark}
use Rattle.dso_law.specs.Copies.{is_among, is_object_asked, is_resident}
use Rattle.dso_law.specs.HeldBody.{held_body}
use Rattle.dso_law.specs.Records.{records}
use Rattle.dso_law.specs.ResidentCount.{Presence, come, presence, resident_count}
use Rattle.dso_law.specs.Store.{body_by_news, body_by_sets, body_with}
use Rattle.dso_law.proofs.core.Bodies.{bodies_are_held}
use Rattle.dso_law.proofs.core.Counts.{residents_are_counted}
use Rattle.dso_table.specs.declared.slot.ObjectStanding.TheVariants.{Resident}
use Rattle.dso_table.specs.declared.tables.ObjectTables.{ObjectTables}
use Rattle.dso_table.specs.States as states
use Rattle.dso_table.specs.States.{State, body_of, is_asked, put, set, with_value}
use Rattle.dso_table.specs.ObjectTables.{state_in}
use Rattle.dso_client.specs.declared.answered.Answered.{Answered}
use Rattle.dso_client.specs.ActEffects.{acting}
use Rattle.dso_client.specs.RunPoints.{RunPoint}
use Rattle.dso_client.specs.TableStands.{TableStands}
use Rattle.dso_client.proofs.flushed.Flushed.{at_number, not_asked}
use Rattle.dso_client.proofs.objects.HeldObjects.{held_object}
use Rattle.dso_client.proofs.heard.Changes.{with_it, asked_as, no_field, sets_more}
use Rattle.dso_client.proofs.heard.Objects.{counted}

-- one more body behind the others
news_more : (x : ℕ) (news : List Body) (body : Body) (before : Option Body) → body_by_news x (news ++ body ∷ []) before ≡ cond (eqb body.object x) (Some body) (body_by_news x news before)
news_more x [] body before = refl
news_more x (first ∷ news) body before = news_more x news body (cond (eqb first.object x) (Some first) before)

-- by whether it is the last one, or one of those before
asked_more : (among here asked : Bool) → cond (among || (here || false)) false asked ≡ cond here false (cond among false asked)
asked_more true true asked = refl
asked_more true false asked = refl
asked_more false true asked = refl
asked_more false false asked = refl

news_marked : (among here : Bool) (new mark : Option ℕ) → cond ((among || (here || false)) || false) new mark ≡ cond here new (cond (among || false) new mark)
news_marked true true new mark = refl
news_marked true false new mark = refl
news_marked false true new mark = refl
news_marked false false new mark = refl

sets_marked : (among before here : Bool) (new mark : Option ℕ) → cond (among || (before || (here || false))) new mark ≡ cond here new (cond (among || before) new mark)
sets_marked true before true new mark = refl
sets_marked true before false new mark = refl
sets_marked false true true new mark = refl
sets_marked false true false new mark = refl
sets_marked false false true new mark = refl
sets_marked false false false new mark = refl

-- a mark that is later than what was acknowledged
later_marked : (acked seq : ℕ) → acked < seq → states.later_than acked (Some seq) ≡ Some seq
later_marked acked seq later = ap (λ b. cond b (Some seq) None) (lt-ltb acked seq later)

-- the object stays where it was resident
stays_there : (among there : Bool) → there ≡ true → cond among true there ≡ true
stays_there true there e = refl
stays_there false there e = e

there_is : (found : Option Body) → is_some found ≡ true → (body : Body) × (found ≡ Some body)
there_is None e = absurd (cc e)
there_is (Some body) e = (body, refl)

-- the record with these objects and sets alone
abbrev pub with_parts : Txn → List Body → List Set → Txn
with_parts txn news sets = record txn { news = news; sets = sets }

module _ (clock : ℕ) (act : Answered) (next : ThreadId → Option Request) (at : RunPoint) (txn : Txn) where
  -- the point once these objects and sets of the record were sent
  abbrev pub sent : List Body → List Set → RunPoint
  sent news sets = acting clock act (Commit (with_parts txn news sets) ∷ []) next at

  -- the mark of the record
  module _ (old : ObjectTables) (later : (state_in old).acked < txn.seq) (news : List Body) where
    mark_at : (o x : ℕ) → states.marked o (Some txn.seq) (state_in old) x ≡ cond (eqb o x) (Some txn.seq) ((state_in old).marks x)
    mark_at o x = at_number o (states.later_than (state_in old).acked (Some txn.seq)) (state_in old).marks x
        ∙ ap (λ mark. cond (eqb o x) mark ((state_in old).marks x)) (later_marked (state_in old).acked txn.seq later)

    -- one more object
    pub body_sent : (body : Body) (new : ObjectTables) → TableStands (sent news []) old → state_in new ≡ put body (Some txn.seq) (state_in old) → TableStands (sent (news ++ body ∷ []) []) new
    body_sent body new h is = record {
      bodies = λ x. ap (λ (s : State). body_of (s.standing x)) is ∙ (ap body_of (at_number body.object (Some (Resident body)) (state_in old).standing x)
          ∙ (bodies x (eqb body.object x) ∙ sym (news_more x news body (held_body x at.entries))));
      asked = λ x. ap (λ (s : State). is_asked (s.standing x)) is ∙ (ap is_asked (at_number body.object (Some (Resident body)) (state_in old).standing x)
          ∙ (asks x (eqb body.object x) ∙ sym (ap (λ b. cond b false (is_object_asked x at.entries)) (list_any-append (λ b. eqb b.object x) news (body ∷ []))
          ∙ asked_more (is_among x news) (eqb body.object x) (is_object_asked x at.entries))));
      marks = λ x. ap (λ (s : State). s.marks x) is ∙ (mark_at body.object x ∙ (ap (cond (eqb body.object x) (Some txn.seq)) (h.marks x)
          ∙ sym (ap (λ b. cond (b || false) (Some txn.seq) (change_mark x at.entries)) (list_any-append (λ b. eqb b.object x) news (body ∷ []))
          ∙ news_marked (is_among x news) (eqb body.object x) (Some txn.seq) (change_mark x at.entries))));
      opened = λ t x. ap (λ (s : State). s.opened (t, x)) is ∙ h.opened t x;
      wanted = λ t x. ap (λ (s : State). s.wanted (t, x)) is ∙ h.wanted t x;
      room = ap (λ (s : State). s.limit) is ∙ h.room;
      count = ap (λ (s : State). s.residents) is ∙ (ap (λ n. n + cond (states.is_resident ((state_in old).standing body.object)) 0 1) h.count
          ∙ (ap (λ b. resident_count (sent news []).entries + cond b 0 1) there ∙ (counted ((presence (sent news []).entries).has body.object) (resident_count (sent news []).entries)
          ∙ ap (λ (s : Presence). s.count) (sym (fold-append (λ s body. come s body.object) (presence at.entries) news (body ∷ []))))));
      acked = subst (λ n. n ≤ suc (records at.entries)) (sym (ap (λ (s : State). s.acked) is)) h.acked;
      order = ap (λ (s : State). s.used) is ∙ h.order;
    }
      where
        bodies : (x : ℕ) (b : Bool) → body_of (cond b (Some (Resident body)) ((state_in old).standing x)) ≡ cond b (Some body) (body_by_news x news (held_body x at.entries))
        bodies x true = refl
        bodies x false = h.bodies x

        asks : (x : ℕ) (b : Bool) → is_asked (cond b (Some (Resident body)) ((state_in old).standing x)) ≡ cond b false (cond (is_among x news) false (is_object_asked x at.entries))
        asks x true = refl
        asks x false = h.asked x

        there : states.is_resident ((state_in old).standing body.object) ≡ (presence (sent news []).entries).has body.object
        there = ap is_some (h.bodies body.object) ∙ ((bodies_are_held body.object (sent news []).entries).resident ∙ sym ((residents_are_counted (sent news []).entries).has body.object))

    -- one more set of a copy
    module _ (sets : List Set) (change : Set) (new : ObjectTables) (h : TableStands (sent news sets) old) where
      -- the copy of an object so far
      abbrev so_far : ℕ → Option Body
      so_far x = body_by_sets x sets (body_by_news x news (held_body x at.entries))

      marks_more : (o x : ℕ) → o ≡ change.object → states.marked o (Some txn.seq) (state_in old) x ≡ change_mark x (sent news (sets ++ change ∷ [])).entries
      marks_more o x same = mark_at o x ∙ (ap (λ n. cond (eqb n x) (Some txn.seq) ((state_in old).marks x)) same ∙ (ap (cond (eqb change.object x) (Some txn.seq)) (h.marks x)
          ∙ sym (ap (λ b. cond (is_among x news || b) (Some txn.seq) (change_mark x at.entries)) (list_any-append (λ set. eqb set.object x) sets (change ∷ []))
          ∙ sets_marked (is_among x news) (list_any (λ set. eqb set.object x) sets) (eqb change.object x) (Some txn.seq) (change_mark x at.entries))))

      -- in a field that it has
      written : state_in new ≡ set change (Some txn.seq) (state_in old) → TableStands (sent news (sets ++ change ∷ [])) new
      written is = record {
        bodies = λ x. ap (λ (s : State). body_of (s.standing x)) is
            ∙ (ap body_of (at_number change.object (option_map (with_value change.field change.value) ((state_in old).standing change.object)) (state_in old).standing x)
            ∙ (bodies x (eqb change.object x) refl ∙ sym (sets_more x sets change (body_by_news x news (held_body x at.entries)))));
        asked = λ x. ap (λ (s : State). is_asked (s.standing x)) is
            ∙ (ap is_asked (at_number change.object (option_map (with_value change.field change.value) ((state_in old).standing change.object)) (state_in old).standing x) ∙ asks x (eqb change.object x) refl);
        marks = λ x. ap (λ (s : State). s.marks x) is ∙ marks_more change.object x refl;
        opened = λ t x. ap (λ (s : State). s.opened (t, x)) is ∙ h.opened t x;
        wanted = λ t x. ap (λ (s : State). s.wanted (t, x)) is ∙ h.wanted t x;
        room = ap (λ (s : State). s.limit) is ∙ h.room;
        count = ap (λ (s : State). s.residents) is ∙ h.count;
        acked = subst (λ n. n ≤ suc (records at.entries)) (sym (ap (λ (s : State). s.acked) is)) h.acked;
        order = ap (λ (s : State). s.used) is ∙ h.order;
      }
        where
          bodies : (x : ℕ) (b : Bool) → eqb change.object x ≡ b
              → body_of (cond b (option_map (with_value change.field change.value) ((state_in old).standing change.object)) ((state_in old).standing x)) ≡ cond b (body_with change (so_far x)) (so_far x)
          bodies x true e = with_it change ((state_in old).standing change.object)
              ∙ (ap (λ o. body_with change (body_of ((state_in old).standing o))) (eqb-true change.object x e) ∙ ap (body_with change) (h.bodies x))
          bodies x false e = h.bodies x

          asks : (x : ℕ) (b : Bool) → eqb change.object x ≡ b
              → is_asked (cond b (option_map (with_value change.field change.value) ((state_in old).standing change.object)) ((state_in old).standing x)) ≡ is_object_asked x (sent news sets).entries
          asks x true e = asked_as change ((state_in old).standing change.object) ∙ (ap (λ o. is_asked ((state_in old).standing o)) (eqb-true change.object x e) ∙ h.asked x)
          asks x false e = h.asked x

      -- in a field that it hasn't
      remarked : (copy : Body) → body_of ((state_in old).standing change.object) ≡ Some copy → has_field change.field (Some copy) ≡ false
          → state_in new ≡ put copy (Some txn.seq) (state_in old) → TableStands (sent news (sets ++ change ∷ [])) new
      remarked copy found none is = record {
        bodies = λ x. ap (λ (s : State). body_of (s.standing x)) is ∙ (ap body_of (at_number copy.object (Some (Resident copy)) (state_in old).standing x)
            ∙ (ap (λ o. body_of (cond (eqb o x) (Some (Resident copy)) ((state_in old).standing x))) object
            ∙ (bodies x (eqb change.object x) refl ∙ sym (sets_more x sets change (body_by_news x news (held_body x at.entries))))));
        asked = λ x. ap (λ (s : State). is_asked (s.standing x)) is ∙ (ap is_asked (at_number copy.object (Some (Resident copy)) (state_in old).standing x)
            ∙ (ap (λ o. is_asked (cond (eqb o x) (Some (Resident copy)) ((state_in old).standing x))) object ∙ asks x (eqb change.object x) refl));
        marks = λ x. ap (λ (s : State). s.marks x) is ∙ marks_more copy.object x object;
        opened = λ t x. ap (λ (s : State). s.opened (t, x)) is ∙ h.opened t x;
        wanted = λ t x. ap (λ (s : State). s.wanted (t, x)) is ∙ h.wanted t x;
        room = ap (λ (s : State). s.limit) is ∙ h.room;
        count = ap (λ (s : State). s.residents) is ∙ (ap (λ b. (state_in old).residents + cond b 0 1) there ∙ (zero_more (state_in old).residents ∙ h.count));
        acked = subst (λ n. n ≤ suc (records at.entries)) (sym (ap (λ (s : State). s.acked) is)) h.acked;
        order = ap (λ (s : State). s.used) is ∙ h.order;
      }
        where
          is_held : so_far change.object ≡ Some copy
          is_held = sym (h.bodies change.object) ∙ found

          object : copy.object ≡ change.object
          object = held_object change.object (sent news sets).entries copy is_held

          there : states.is_resident ((state_in old).standing copy.object) ≡ true
          there = ap (λ o. states.is_resident ((state_in old).standing o)) object ∙ ap is_some found

          zero_more : (n : ℕ) → n + 0 ≡ n
          zero_more n = omega arith

          bodies : (x : ℕ) (b : Bool) → eqb change.object x ≡ b → body_of (cond b (Some (Resident copy)) ((state_in old).standing x)) ≡ cond b (body_with change (so_far x)) (so_far x)
          bodies x true e = no_field change (Some copy) none ∙ ap (body_with change) (sym is_held ∙ ap so_far (eqb-true change.object x e))
          bodies x false e = h.bodies x

          asks : (x : ℕ) (b : Bool) → eqb change.object x ≡ b → is_asked (cond b (Some (Resident copy)) ((state_in old).standing x)) ≡ is_object_asked x (sent news sets).entries
          asks x true e = sym (not_asked ((state_in old).standing x) (ap (λ o. states.is_resident ((state_in old).standing o)) (sym (eqb-true change.object x e)) ∙ ap is_some found)) ∙ h.asked x
          asks x false e = h.asked x

      -- either way, where it is resident
      pub set_sent : is_resident change.object at.entries ≡ true
          → (has_field change.field (body_of ((state_in old).standing change.object)) ≡ true → state_in new ≡ set change (Some txn.seq) (state_in old))
          → ((copy : Body) → body_of ((state_in old).standing change.object) ≡ Some copy → has_field change.field (Some copy) ≡ false → state_in new ≡ put copy (Some txn.seq) (state_in old))
          → TableStands (sent news (sets ++ change ∷ [])) new × ((state_in new).acked ≡ (state_in old).acked)
      set_sent resident writes marks = by (has_field change.field (Some copy.0)) refl
        where
          copy : (body : Body) × (body_of ((state_in old).standing change.object) ≡ Some body)
          copy = there_is (body_of ((state_in old).standing change.object)) (ap is_some (h.bodies change.object)
              ∙ ((bodies_are_held change.object (sent news sets).entries).resident ∙ stays_there (is_among change.object news) (is_resident change.object at.entries) resident))

          by : (b : Bool) → has_field change.field (Some copy.0) ≡ b → TableStands (sent news (sets ++ change ∷ [])) new × ((state_in new).acked ≡ (state_in old).acked)
          by true e =
              let is = writes (ap (has_field change.field) copy.1 ∙ e) in
              (written is, ap (λ (s : State). s.acked) is)
          by false e =
              let is = marks copy.0 copy.1 e in
              (remarked copy.0 copy.1 e is, ap (λ (s : State). s.acked) is)
