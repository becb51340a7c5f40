-- Each map is one finite map, through a history whose threads go from call to call and in blocks.
use Rattle.std.specs.Option.{option_to_list}
use Rattle.std.proofs.Common.{ℕ, ◌≡◌, ◌≢◌, ◌⊎◌, inl, inr, refl, sym, ap, subst, ◌∙◌, Bool, true, false, cond, eqb, Option, Some, None, List, [], ◌∷◌, ◌++◌}
use Rattle.std.proofs.lemmas.Bool.{eq-eqb, true≢false}
use Rattle.std.proofs.lemmas.List.{append_assoc}
use Rattle.dso_base.specs.declared.lock.LockName.TheVariants.{Mon}
use Rattle.dso_base.specs.declared.lock.ThreadId.{ThreadId}
use Rattle.dso_base.specs.declared.request.Event.{Event}
use Rattle.dso_base.specs.declared.request.Event.TheVariants.{Act, Lost}
use Rattle.dso_base.specs.declared.request.Reply.{Reply}
use Rattle.dso_base.specs.declared.request.Reply.TheVariants.{Done, Local}
use Rattle.dso_base.specs.declared.request.Request.{Request}
use Rattle.dso_base.specs.declared.request.Request.TheVariants.{Get, Put, Exit}
use Rattle.dso_base.specs.declared.shape.Shape.{Shape}
use Rattle.dso_base.specs.declared.value.ClassId.{ClassId}
use Rattle.dso_base.specs.declared.value.ClassId.TheVariants.{Plain, Roots}
use Rattle.dso_base.specs.declared.value.Value.{Value}
use Rattle.dso_base.specs.Following.{is_thread}
use Rattle.dso_map.specs.declared.map_op.MapOp.{MapOp}
use Rattle.dso_map.specs.Calls.{request_of, after_reply}
use Rattle.dso_map.specs.Contents.{Content, Meets}
use Rattle.dso_map.specs.Fields.{place_of}
use Rattle.dso_map.specs.KeptMaps.{PutsObject}
use Rattle.dso_map.specs.MapClass.{is_map}
use Rattle.dso_map.specs.Talk.{Talk, talk}
use Rattle.dso_map.specs.Talk.Talk.{Gets, Puts, Ends}
use Rattle.dso_plain.specs.State.{PlainState, opening, roots_object}
use Rattle.dso_plain.specs.Possible.{AnswersRequest}
use Rattle.dso_plain.specs.After.{after}
use Rattle.dso_plain.specs.History.{Runs, end_of, events_of}
use Rattle.dso_plain.proofs.keys.SameKeys.{same_number, thread_self}
use Rattle.dso_machine.specs.MapCalls.{entry_of, Saw, Called, Phase, IsCalling, PhaseStep}
use Rattle.dso_machine.specs.MapCalls.Phase.{Outside, Inside}
use Rattle.dso_legal.specs.HeapMaps.{IsMapObject, IsMap}
use Rattle.dso_legal.specs.MapHistory.{IsTaken, with_phase, HistoryWalks, calls_of, AreOfMap, no_content, KeepsMaps}
use Rattle.dso_legal.proofs.maps.Blocks.{may_end, GoesInBlocks}
use Rattle.dso_legal.proofs.maps.Classes.{MapsStand, NoneIsEmpty, class_kept, none_before, tells_so, apart_stands, still_map, map_there, map_stays}
use Rattle.dso_legal.proofs.maps.Entering.{entered_call, passed_call}
use Rattle.dso_legal.proofs.maps.InCall.{InCall, call_done, asked, asked_beside}
use Rattle.dso_legal.proofs.maps.Opening.{MapsHaveFields}
use Rattle.dso_legal.proofs.maps.Stays.{class_at, StaysAt, act_stays}
use Rattle.dso_legal.proofs.maps.Threads.{saw_on, other_more, Walking, FirstAct, first_act, walking_on, walking_lost}

-- the contents, with another for one object
abbrev pub with_content : ℕ → Content → (ℕ → Content) → ℕ → Content
with_content o n m x = cond (eqb o x) n (m x)

-- all threads are outside of calls
abbrev pub AllOutside : (ThreadId → Phase) → Type 0
AllOutside phases = (t : ThreadId) → phases t ≡ Outside

-- all but one
abbrev pub OthersOutside : ThreadId → (ThreadId → Phase) → Type 0
OthersOutside t phases = (u : ThreadId) → is_thread t u ≡ false → phases u ≡ Outside

-- all maps but one stand
abbrev pub OthersStand : Shape → ℕ → (ℕ → Content) → PlainState → Type 0
OthersStand shape o m s = (x : ℕ) → x ≢ o → IsMapObject shape (s.objects x) → IsMap x (m x) s

-- a thread that goes outside of calls where all others are
goes_outside : (t : ThreadId) (phases : ThreadId → Phase) → OthersOutside t phases → AllOutside (with_phase t Outside phases)
goes_outside t phases others u = by (is_thread t u) refl
  where
    by : (b : Bool) → is_thread t u ≡ b → cond b Outside (phases u) ≡ Outside
    by true own = refl
    by false elsewhere = others u elsewhere

-- and inside of one
goes_inside : (t : ThreadId) (phases : ThreadId → Phase) (phase : Phase) → OthersOutside t phases → OthersOutside t (with_phase t phase phases)
goes_inside t phases phase others u elsewhere = ap (λ b. cond b phase (phases u)) elsewhere ∙ others u elsewhere

-- what a talk asks ends no block
asked_no_end : (o : ℕ) (rest : Talk) (q : Request) → request_of o rest ≡ Some q → may_end q ≡ true → ⊥
asked_no_end o (Gets f then) q is ends =
    let one : Get o (place_of f) ≡ q = cc is in
    true≢false (sym ends ∙ ap may_end (sym one))
asked_no_end o (Puts f v then) q is ends =
    let one : Put o (place_of f) v ≡ q = cc is in
    true≢false (sym ends ∙ ap may_end (sym one))
asked_no_end o (Ends v) q is ends = absurd (cc is)

-- a call's content in front of those of the later calls
call_first : (o : ℕ) (call : MapOp) (v : Value) (n : Content) (m : ℕ → Content) (later : List Called) → Meets call v (m o) n → (x : ℕ) (last : Content) → AreOfMap (with_content o n m x) (calls_of x later) last
    → AreOfMap (m x) (calls_of x (record { object = o; call = call; gave = v } ∷ later)) last
call_first o call v n m later meets x last are = by (eqb o x) refl are
  where
    called : Called
    called = record { object = o; call = call; gave = v }

    by : (b : Bool) → eqb o x ≡ b → AreOfMap (cond b n (m x)) (calls_of x later) last → AreOfMap (m x) (cond b (called ∷ calls_of x later) (calls_of x later)) last
    by true same rest = (n, subst (λ y. Meets call v (m y) n) (same_number o x same) meets, rest)
    by false other rest = rest

module _ (shape : Shape) (have : MapsHaveFields shape) (next : ThreadId → List Event → Option Request) (h : List Event)
    (real : (before events : List Event) → before ++ events ≡ h → (t : ThreadId) (o : ℕ) (call : MapOp) → IsCalling shape next t (events_of t before) o call → PutsObject call) where
  -- What stands at a place of the history, whatever calls are open.
  pub record StandsAt (before : List Event) (phases : ThreadId → Phase) (current : Option ThreadId) (events : List Event) (s : PlainState) : Type 0 where
    pub whole : before ++ events ≡ h
    pub blocks : GoesInBlocks current events
    pub runs : Runs shape events s
    pub roots : class_at (s.objects 0) ≡ Some Roots
    pub saw : (t : ThreadId) (o : ℕ) (class : ClassId) → Saw o class (events_of t before) → class_at (s.objects o) ≡ Some class
    pub walking : (t : ThreadId) → Walking shape next before (phases t) events t

  -- What comes of it: calls that end behind, and each map at the end is what they make of it.
  abbrev pub Comes : List Event → (ThreadId → Phase) → List Event → (ℕ → Content) → PlainState → Type 0
  Comes before phases events m s = (calls : List Called) × HistoryWalks shape next before phases events calls
      × ((o : ℕ) → IsMapObject shape ((end_of shape events s).objects o) → (n : Content) × AreOfMap (m o) (calls_of o calls) n × IsMap o n (end_of shape events s))

  -- from outside of calls
  abbrev Outs : List Event → Type 0
  Outs events = (before : List Event) (phases : ThreadId → Phase) (current : Option ThreadId) (m : ℕ → Content) (s : PlainState) → StandsAt before phases current events s → AllOutside phases
      → NoneIsEmpty m s → MapsStand shape m s → Comes before phases events m s

  -- and from inside of one
  abbrev Ins : List Event → Type 0
  Ins events = (before : List Event) (phases : ThreadId → Phase) (m : ℕ → Content) (s : PlainState) (t : ThreadId) (o : ℕ) (call : MapOp) (rest : Talk) (locked : Bool)
      → StandsAt before phases (Some t) events s → phases t ≡ Inside o call rest locked → OthersOutside t phases → InCall shape t o call rest (m o) s
      → NoneIsEmpty m s → OthersStand shape o m s → Comes before phases events m s

  -- ---- one act

  module _ (before : List Event) (phases : ThreadId → Phase) (current : Option ThreadId) (events : List Event) (s : PlainState) (t : ThreadId) (q : Request) (r : Reply) (woken : Option ThreadId)
      (at : StandsAt before phases current (Act t q r woken ∷ events) s) where
    abbrev act : Event
    act = Act t q r woken

    abbrev answers : AnswersRequest shape t q r s
    answers = at.runs.0.answers

    abbrev behind : PlainState
    behind = after shape act s

    -- what stands behind it
    stands_on : (other : Phase) → Walking shape next (before ++ act ∷ []) other events t → (further : Option ThreadId) → GoesInBlocks further events → StandsAt (before ++ act ∷ []) (with_phase t other phases) further events behind
    stands_on other later further blocks = record {
      whole = append_assoc before (act ∷ []) events ∙ at.whole;
      blocks = blocks;
      runs = at.runs.1;
      roots = class_kept shape t s 0 Roots q r woken answers at.roots;
      saw = λ u o class saw. elim (saw_on t u o class before q r woken saw) [
        | inl earlier ↦ class_kept shape t s o class q r woken answers (at.saw u o class earlier)
        | inr now ↦ tells_so shape t s o class q r woken answers now
      ];
      walking = walking_on shape next before events phases t q r woken at.walking other later;
    }

    empty_on : (m : ℕ → Content) → NoneIsEmpty m s → NoneIsEmpty m behind
    empty_on m empty o none = empty o (none_before shape t s o q r woken answers none)

    -- the history's walk with it in front
    walked : (phase other : Phase) (ended : Option Called) → phases t ≡ phase → PhaseStep shape next t (events_of t before) phase q r other ended → IsTaken phase r → (calls : List Called)
        → HistoryWalks shape next (before ++ act ∷ []) (with_phase t other phases) events calls → HistoryWalks shape next before phases (act ∷ events) (option_to_list ended ++ calls)
    walked phase other ended is step taken calls further = HistoryWalks.acts (subst (λ x. PhaseStep shape next t (events_of t before) x q r other ended) (sym is) step) (subst (λ x. IsTaken x r) (sym is) taken) further

    -- an act that ends no call
    comes_on : (m : ℕ → Content) (phase other : Phase) → phases t ≡ phase → PhaseStep shape next t (events_of t before) phase q r other None → IsTaken phase r
        → Comes (before ++ act ∷ []) (with_phase t other phases) events m behind → Comes before phases (act ∷ events) m s
    comes_on m phase other is step taken further = (further.0, walked phase other None is step taken further.0 further.1, further.2)

    -- and one that ends a call
    comes_with : (m : ℕ → Content) (phase other : Phase) (o : ℕ) (call : MapOp) (v : Value) (n : Content) → phases t ≡ phase
        → PhaseStep shape next t (events_of t before) phase q r other (Some (record { object = o; call = call; gave = v })) → IsTaken phase r → Meets call v (m o) n
        → Comes (before ++ act ∷ []) (with_phase t other phases) events (with_content o n m) behind → Comes before phases (act ∷ events) m s
    comes_with m phase other o call v n is step taken meets further = (
      record { object = o; call = call; gave = v } ∷ further.0,
      walked phase other (Some (record { object = o; call = call; gave = v })) is step taken further.0 further.1,
      λ x map. let last = further.2 x map in (last.0, call_first o call v n m further.0 meets x last.0 last.1, last.2),
    )

    -- ---- outside of calls

    module _ (out : Outs events) (within : Ins events) (m : ℕ → Content) (outside : AllOutside phases) (empty : NoneIsEmpty m s) (stand : MapsStand shape m s) where
      -- all others are outside
      abbrev others : OthersOutside t phases
      others = λ u elsewhere. outside u

      -- outside again, in the block or behind it
      out_again : Walking shape next (before ++ act ∷ []) Outside events t → MapsStand shape m behind → GoesInBlocks (Some t) events ⊎ ((may_end q ≡ true) × GoesInBlocks None events)
          → Comes (before ++ act ∷ []) (with_phase t Outside phases) events m behind
      out_again later stands (inl blocks) = out (before ++ act ∷ []) (with_phase t Outside phases) (Some t) m behind (stands_on Outside later (Some t) blocks) (goes_outside t phases others) (empty_on m empty) stands
      out_again later stands (inr blocks) = out (before ++ act ∷ []) (with_phase t Outside phases) None m behind (stands_on Outside later None blocks.1) (goes_outside t phases others) (empty_on m empty) stands

      -- into a call
      in_next : (o : ℕ) (call : MapOp) (locked : Bool) → may_end q ≡ false → Walking shape next (before ++ act ∷ []) (Inside o call (talk call) locked) events t → InCall shape t o call (talk call) (m o) behind
          → ((x : ℕ) → StaysAt x s behind) → GoesInBlocks (Some t) events ⊎ ((may_end q ≡ true) × GoesInBlocks None events)
          → Comes (before ++ act ∷ []) (with_phase t (Inside o call (talk call) locked) phases) events m behind
      in_next o call locked no_end later now stays (inl blocks) =
          within (before ++ act ∷ []) (with_phase t (Inside o call (talk call) locked) phases) m behind t o call (talk call) locked (stands_on (Inside o call (talk call) locked) later (Some t) blocks)
          (is_inside (Inside o call (talk call) locked)) (goes_inside t phases (Inside o call (talk call) locked) others) now (empty_on m empty) (λ x other. still_map shape x (m x) s behind (stays x) (stand x))
        where
          is_inside : (phase : Phase) → with_phase t phase phases t ≡ phase
          is_inside phase = ap (λ b. cond b phase (phases t)) (thread_self t)
      in_next o call locked no_end later now stays (inr blocks) = absurd (true≢false (sym blocks.0 ∙ no_end))

  module _ (events : List Event) (out : Outs events) (within : Ins events) (before : List Event) (phases : ThreadId → Phase) (current : Option ThreadId) (m : ℕ → Content) (s : PlainState) (t : ThreadId) (woken : Option ThreadId) where
    -- a map that is called
    called_map : (o : ℕ) (class : ℕ) → is_map shape class ≡ true → class_at (s.objects o) ≡ Some (Plain class) → MapsStand shape m s → IsMap o (m o) s
    called_map o class is there stand = stand o (map_there shape (s.objects o) class is there)

    -- An act outside of calls.
    out_step : (q : Request) (r : Reply) (other : Phase) (ended : Option Called) → PhaseStep shape next t (events_of t before) Outside q r other ended
        → StandsAt before phases current (Act t q r woken ∷ events) s → AllOutside phases → NoneIsEmpty m s → MapsStand shape m s
        → Walking shape next (before ++ Act t q r woken ∷ []) other events t → Comes before phases (Act t q r woken ∷ events) m s
    out_step q r _ _ (PhaseStep.other apart) at outside empty stand later =
        comes_on before phases current events s t q r woken at m Outside Outside (outside t) (PhaseStep.other apart) tt
        (out_again before phases current events s t q r woken at out within m outside empty stand later
        (apart_stands shape t s have m empty stand (events_of t before) at.roots (at.saw t) q r woken apart at.runs.0.answers) at.blocks.1)
    out_step _ _ _ _ (PhaseStep.enters {object = o} {call = call} calling) at outside empty stand later =
        let there : class_at (s.objects o) ≡ Some (Plain calling.class) = at.saw t o (Plain calling.class) calling.saw in
        comes_on before phases current events s t (entry_of o call) Done woken at m Outside (Inside o call (talk call) true) (outside t) (PhaseStep.enters calling) tt
        (in_next before phases current events s t (entry_of o call) Done woken at out within m outside empty stand o call true refl later
        (entered_call shape t o call (m o) s calling.class calling.is (called_map o calling.class calling.is there stand) (real before (Act t (entry_of o call) Done woken ∷ events) at.whole t o call calling) woken there at.runs.0.answers)
        (λ x. act_stays shape t s x (entry_of o call) Done woken tt) at.blocks.1)
    out_step _ _ _ _ (PhaseStep.passes {object = o} {call = call} calling) at outside empty stand later =
        let there : class_at (s.objects o) ≡ Some (Plain calling.class) = at.saw t o (Plain calling.class) calling.saw in
        comes_on before phases current events s t (entry_of o call) Local woken at m Outside (Inside o call (talk call) false) (outside t) (PhaseStep.passes calling) tt
        (in_next before phases current events s t (entry_of o call) Local woken at out within m outside empty stand o call false refl later
        (passed_call shape t o call (m o) s calling.class calling.is (called_map o calling.class calling.is there stand) (real before (Act t (entry_of o call) Local woken ∷ events) at.whole t o call calling) woken there at.runs.0.answers)
        (λ x. act_stays shape t s x (entry_of o call) Local woken tt) at.blocks.1)

    -- ---- inside of a call

    module _ (o : ℕ) (call : MapOp) (others : OthersOutside t phases) (empty : NoneIsEmpty m s) (beside : OthersStand shape o m s) where
      -- the call goes on
      in_on : (q : Request) (r : Reply) (rest left : Talk) (locked : Bool) (at : StandsAt before phases current (Act t q r woken ∷ events) s) → request_of o rest ≡ Some q
          → Walking shape next (before ++ Act t q r woken ∷ []) (Inside o call left locked) events t → InCall shape t o call left (m o) (after shape (Act t q r woken) s)
          → GoesInBlocks (Some t) events ⊎ ((may_end q ≡ true) × GoesInBlocks None events) → Comes (before ++ Act t q r woken ∷ []) (with_phase t (Inside o call left locked) phases) events m (after shape (Act t q r woken) s)
      in_on q r rest left locked at is later now (inl blocks) =
          within (before ++ Act t q r woken ∷ []) (with_phase t (Inside o call left locked) phases) m (after shape (Act t q r woken) s) t o call left locked
          (stands_on before phases current events s t q r woken at (Inside o call left locked) later (Some t) blocks)
          (ap (λ b. cond b (Inside o call left locked) (phases t)) (thread_self t)) (goes_inside t phases (Inside o call left locked) others) now
          (empty_on before phases current events s t q r woken at m empty)
          (λ x other. still_map shape x (m x) s (after shape (Act t q r woken) s) (asked_beside shape have t o call (m o) s rest q r woken is x other) (beside x other))
      in_on q r rest left locked at is later now (inr blocks) = absurd (asked_no_end o rest q is blocks.0)

      -- how the map stands behind the call's last act
      abbrev EndsSo : Value → PlainState → Type 0
      EndsSo v behind = (n : Content) × Meets call v (m o) n × IsMap o n behind × (behind.objects o ≡ None → ⊥) × ((x : ℕ) → x ≢ o → StaysAt x s behind)

      stands_ended : (v : Value) (behind : PlainState) (so : EndsSo v behind) → MapsStand shape (with_content o so.0 m) behind
      stands_ended v behind so x = by (eqb o x) refl
        where
          by : (b : Bool) → eqb o x ≡ b → IsMapObject shape (behind.objects x) → IsMap x (cond b so.0 (m x)) behind
          by true same there = subst (λ y. IsMap y so.0 behind) (same_number o x same) so.2
          by false apart there =
              let other : x ≢ o = λ same. absurd (cc (sym apart ∙ eq-eqb o x (sym same))) in
              still_map shape x (m x) s behind (so.4 x other) (beside x other) there

      empty_ended : (v : Value) (behind : PlainState) (so : EndsSo v behind) → ((x : ℕ) → behind.objects x ≡ None → s.objects x ≡ None) → NoneIsEmpty (with_content o so.0 m) behind
      empty_ended v behind so back x none = by (eqb o x) refl
        where
          by : (b : Bool) → eqb o x ≡ b → cond b so.0 (m x) ≡ no_content
          by true same = absurd (so.3 (subst (λ y. behind.objects y ≡ None) (sym (same_number o x same)) none))
          by false apart = empty x (back x none)

      module _ (q : Request) (r : Reply) (v : Value) (at : StandsAt before phases current (Act t q r woken ∷ events) s) (so : EndsSo v (after shape (Act t q r woken) s)) (later : Walking shape next (before ++ Act t q r woken ∷ []) Outside events t) where
        out_from : GoesInBlocks (Some t) events ⊎ ((may_end q ≡ true) × GoesInBlocks None events) → Comes (before ++ Act t q r woken ∷ []) (with_phase t Outside phases) events (with_content o so.0 m) (after shape (Act t q r woken) s)
        out_from (inl blocks) =
            out (before ++ Act t q r woken ∷ []) (with_phase t Outside phases) (Some t) (with_content o so.0 m) (after shape (Act t q r woken) s)
            (stands_on before phases current events s t q r woken at Outside later (Some t) blocks) (goes_outside t phases others)
            (empty_ended v (after shape (Act t q r woken) s) so (λ x. none_before shape t s x q r woken at.runs.0.answers)) (stands_ended v (after shape (Act t q r woken) s) so)
        out_from (inr blocks) =
            out (before ++ Act t q r woken ∷ []) (with_phase t Outside phases) None (with_content o so.0 m) (after shape (Act t q r woken) s)
            (stands_on before phases current events s t q r woken at Outside later None blocks.1) (goes_outside t phases others)
            (empty_ended v (after shape (Act t q r woken) s) so (λ x. none_before shape t s x q r woken at.runs.0.answers)) (stands_ended v (after shape (Act t q r woken) s) so)

        in_ends : (phase : Phase) → phases t ≡ phase → PhaseStep shape next t (events_of t before) phase q r Outside (Some (record { object = o; call = call; gave = v })) → IsTaken phase r
            → Comes before phases (Act t q r woken ∷ events) m s
        in_ends phase is step taken = comes_with before phases current events s t q r woken at m phase Outside o call v so.0 is step taken so.1 (out_from at.blocks.1)

      -- behind a call of an own object, and behind the exit
      ends_asked : (v : Value) (behind : PlainState) → InCall shape t o call (Ends v) (m o) behind → ((x : ℕ) → x ≢ o → StaysAt x s behind) → EndsSo v behind
      ends_asked v behind now stays =
          let done = call_done shape t o call v (m o) behind now in
          (done.0, done.1, done.2, (λ none. absurd (cc (sym now.is ∙ none))), stays)

      ends_left : (v : Value) → InCall shape t o call (Ends v) (m o) s → EndsSo v (after shape (Act t (Exit (Mon o)) Done woken) s)
      ends_left v now =
          let done = call_done shape t o call v (m o) s now in
          (done.0, done.1, map_stays o done.0 s (after shape (Act t (Exit (Mon o)) Done woken) s) (λ f. refl) done.2, (λ none. absurd (cc (sym now.is ∙ none))), λ x other. act_stays shape t s x (Exit (Mon o)) Done woken tt)

      -- An act inside of the call.
      in_step : (rest : Talk) (locked : Bool) (q : Request) (r : Reply) (other : Phase) (ended : Option Called) → PhaseStep shape next t (events_of t before) (Inside o call rest locked) q r other ended
          → StandsAt before phases current (Act t q r woken ∷ events) s → phases t ≡ Inside o call rest locked → InCall shape t o call rest (m o) s
          → Walking shape next (before ++ Act t q r woken ∷ []) other events t → Comes before phases (Act t q r woken ∷ events) m s
      in_step rest locked q r _ _ (PhaseStep.goes_on wanted takes goes) at is now later =
          let told = asked shape have t o call (m o) s rest now q r woken wanted at.runs.0.answers in
          comes_on before phases current events s t q r woken at m (Inside o call rest locked) (Inside o call (after_reply rest r) locked) is (PhaseStep.goes_on wanted takes goes) (λ p asks. told.0)
          (in_on q r rest (after_reply rest r) locked at wanted later told.1 at.blocks.1)
      in_step rest _ q r _ _ (PhaseStep.ends {gave = v} wanted takes over) at is now later =
          let told = asked shape have t o call (m o) s rest now q r woken wanted at.runs.0.answers in
          in_ends q r v at (ends_asked v (after shape (Act t q r woken) s) (subst (λ left. InCall shape t o call left (m o) (after shape (Act t q r woken) s)) over told.1)
          (asked_beside shape have t o call (m o) s rest q r woken wanted))
          later (Inside o call rest false) is (PhaseStep.ends wanted takes over) (λ p asks. told.0)
      in_step _ _ _ _ _ _ (PhaseStep.leaves {gave = v}) at is now later =
          in_ends (Exit (Mon o)) Done v at (ends_left v now) later (Inside o call (Ends v) true) is PhaseStep.leaves (λ p asks. absurd (cc asks))
      in_step rest locked q r _ _ (PhaseStep.fails wanted refuses) at is now later =
          let told = asked shape have t o call (m o) s rest now q r woken wanted at.runs.0.answers in
          absurd (true≢false (sym told.0 ∙ refuses))

  -- ---- all acts

  -- an act, from outside and from inside
  act_out : (events : List Event) → Outs events → Ins events → (t : ThreadId) (q : Request) (r : Reply) (woken : Option ThreadId) → Outs (Act t q r woken ∷ events)
  act_out events out within t q r woken before phases current m s at outside empty stand =
      let first : FirstAct shape next before (phases t) events t q r woken = first_act shape next before events (phases t) t q r woken (at.walking t) in
      out_step events out within before phases current m s t woken q r first.other first.ended
      (subst (λ phase. PhaseStep shape next t (events_of t before) phase q r first.other first.ended) (outside t) first.step) at outside empty stand first.later

  act_in : (events : List Event) → Outs events → Ins events → (t : ThreadId) (q : Request) (r : Reply) (woken : Option ThreadId) → Ins (Act t q r woken ∷ events)
  act_in events out within t q r woken before phases m s u o call rest locked at is others now empty beside =
      subst (λ w. StandsAt before phases (Some u) (Act w q r woken ∷ events) s → Comes before phases (Act w q r woken ∷ events) m s) (sym (at.blocks.0 u refl))
      (λ here.
      let first : FirstAct shape next before (phases u) events u q r woken = first_act shape next before events (phases u) u q r woken (here.walking u) in
      in_step events out within before phases (Some u) m s u woken o call others empty beside rest locked q r first.other first.ended
      (subst (λ phase. PhaseStep shape next u (events_of u before) phase q r first.other first.ended) is first.step) here is now first.later) at

  -- a loss
  lost_out : (events : List Event) → Outs events → (client : ℕ) → Outs (Lost client ∷ events)
  lost_out events out client before phases current m s at outside empty stand =
      let further : Comes (before ++ Lost client ∷ []) phases events m (after shape (Lost client) s) =
      out (before ++ Lost client ∷ []) phases None m (after shape (Lost client) s) (record {
        whole = append_assoc before (Lost client ∷ []) events ∙ at.whole;
        blocks = at.blocks.1;
        runs = at.runs.1;
        roots = at.roots;
        saw = λ t o class saw. at.saw t o class (subst (Saw o class) (other_more t before (Lost client) refl) saw);
        walking = λ t. walking_lost shape next before events (phases t) client t (at.walking t);
      }) outside empty (λ o map. map_stays o (m o) s (after shape (Lost client) s) (λ f. refl) (stand o map)) in
      (further.0, HistoryWalks.loses outside further.1, further.2)

  all_comes : (events : List Event) → Outs events × Ins events
  all_comes [] = (
    (λ before phases current m s at outside empty stand. ([], HistoryWalks.ends outside, λ o map. (m o, (λ k. refl), stand o map))),
    λ before phases m s t o call rest locked at is others now empty beside. absurd (cc at.blocks),
  )
  all_comes (Act t q r woken ∷ events) =
      let further = all_comes events in
      (act_out events further.0 further.1 t q r woken, act_in events further.0 further.1 t q r woken)
  all_comes (Lost client ∷ events) =
      let further = all_comes events in (
        lost_out events further.0 client,
        λ before phases m s t o call rest locked at is others now empty beside. absurd (cc at.blocks.0),
      )

  -- no object is a map at first
  none_at_first : (o : ℕ) → IsMapObject shape ((opening shape).objects o) → ⊥
  none_at_first o = by (eqb o 0)
    where
      by : (b : Bool) → IsMapObject shape (cond b (Some (roots_object shape)) None) → ⊥
      by true map = map
      by false map = map

  -- A history that runs, in blocks, and whose threads go from call to call, keeps maps.
  pub keeps_maps : GoesInBlocks None h → Runs shape h (opening shape) → ((t : ThreadId) → Walking shape next [] Outside h t) → KeepsMaps shape next h
  keeps_maps blocks runs walking =
      let all : Comes [] (λ t. Outside) h (λ o. no_content) (opening shape) =
      (all_comes h).0 [] (λ t. Outside) None (λ o. no_content) (opening shape) (record {
        whole = refl;
        blocks = blocks;
        runs = runs;
        roots = refl;
        saw = λ t o class saw. absurd saw;
        walking = walking;
      }) (λ t. refl) (λ o none. refl) (λ o map. absurd (none_at_first o map)) in
      record { calls = all.0; walks = all.1; maps = all.2 }
