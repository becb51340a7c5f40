-- A thread of sound code goes from call to call of maps.
use Rattle.std.proofs.Common.{◌≡◌, refl, sym, ap, subst, ◌∙◌, ◌⊎◌, inl, inr, ℕ, ◌+◌, arith, Bool, true, false, cond, List, [], ◌∷◌, ◌++◌, Option, None, Some}
use Rattle.dso_base.specs.declared.lock.LockName.TheVariants.{Mon}
use Rattle.dso_base.specs.declared.lock.ThreadId.{ThreadId}
use Rattle.dso_base.specs.declared.request.Event.{Event}
use Rattle.dso_base.specs.declared.request.Event.TheVariants.{Act, Lost}
use Rattle.dso_base.specs.declared.request.Reply.{Reply}
use Rattle.dso_base.specs.declared.request.Reply.TheVariants.{Done, Val, Local, Refused}
use Rattle.dso_base.specs.declared.request.Request.{Request}
use Rattle.dso_base.specs.declared.request.Request.TheVariants as request
use Rattle.dso_base.specs.declared.shape.Shape.{Shape}
use Rattle.dso_base.specs.declared.value.ClassId.{ClassId}
use Rattle.dso_base.specs.declared.value.ClassId.TheVariants.{Plain}
use Rattle.dso_base.specs.declared.value.Value.{Value}
use Rattle.dso_base.specs.Following.{IsListed, IsListedFor, Listed, FollowsFrom}
use Rattle.dso_map.specs.declared.map_op.MapOp.{MapOp}
use Rattle.dso_map.specs.declared.map_op.MapOp.TheVariants as op
use Rattle.dso_map.specs.Calls.{request_of, accepts, after_reply}
use Rattle.dso_map.specs.Fields.{slots, place_of}
use Rattle.dso_map.specs.MapClass.{is_map}
use Rattle.dso_map.specs.Talk.{Talk, talk}
use Rattle.dso_map.specs.Talk.Talk.{Gets, Puts, Ends}
use Rattle.dso_machine.specs.declared.code.Code.{Code}
use Rattle.dso_machine.specs.declared.code.ThreadBody.{ThreadBody}
use Rattle.dso_machine.specs.MapCalls.{entry_of, asked_at, asked_after, call_asks, TellsClass, Saw, IsNoMap, IsApart, Called, Phase, IsCalling, PhaseStep, Walks, MapsAreCalled}
use Rattle.dso_machine.specs.MapCalls.Phase.{Outside, Inside}
use Rattle.dso_machine.specs.Next as next
use Rattle.dso_machine.specs.Next.{whole, enough_for, replies_in, body_of, next_of, next_request}
use Rattle.dso_machine.specs.Outcome.{Environment, Outcome, Wants}
use Rattle.dso_machine.specs.Sound.{IsSoundCode, IsSoundBody}
use Rattle.dso_machine.specs.Unwinding.{FollowsCode}
use Rattle.dso_machine.proofs.moves.MoreRepliesInTrees.{moves_enough, same_wanted}
use Rattle.dso_machine.proofs.protocol.Protocol.{Keeper, FollowsAt}
use Rattle.dso_machine.proofs.protocol.Parts.{Obeys, InCall, IsNoMapAt, IsApartAt}
use Rattle.dso_machine.proofs.protocol.Threads.{Ended, FollowsOf, keeps_whole, the_request, nothing_wanted, follows_of, body_sound, replies_more}

-- ---- what a thread saw

-- an act of a thread, by its request and its reply
abbrev pub Deed : Type 0
Deed = Request × Reply

-- one of the acts told that the object is of this class, the last of them first
abbrev pub SawBack : ℕ → ClassId → List Deed → Type 0
SawBack object class [] = ⊥
SawBack object class (deed ∷ deeds) = TellsClass object class deed.0 deed.1 ⊎ SawBack object class deeds

-- no less was seen
abbrev pub SawMore : List Deed → List Deed → Type 0
SawMore g h = (object : ℕ) (class : ClassId) → SawBack object class g → SawBack object class h

saw_more : (g h : List Deed) (deed : Deed) → SawMore g h → SawMore g (deed ∷ h)
saw_more g h deed more object class saw = inr (more object class saw)

-- The points are the acts so far; all listed replies may come, and everything may be asked.
abbrev pub map_keeper : (shape : Shape) → Keeper shape
map_keeper shape = record {
  Point = List Deed;
  start = [];
  after = λ q r g. (q, r) ∷ g;
  Asks = λ g q. Unit {0};
  IsReply = λ g q r. IsListed q r;
  Knows = λ g object. Unit {0};
  Looked = λ g object class size. SawBack object class g;
  HasText = λ t. Unit {0};
  Awake = λ g. Unit {0};
  Asleep = λ g l h. SawMore g h;
  Roused = λ g l h. SawMore g h;
  Same = λ g h. SawMore g h;
  listed = λ g q r comes. comes;
  start_awake = tt;
  still_known = λ g q r object known. tt;
  made_known = λ g q object comes. tt;
  read_known = λ g q object comes. tt;
  still_looked = λ g q r object class size saw. inr saw;
  seen_looked = λ g object class size comes. inl (refl, refl);
  literal_text = λ t below. tt;
  read_text = λ g q t comes. tt;
  same_itself = λ g object class saw. saw;
  same_then = λ g h i one other object class saw. other object class (one object class saw);
  same_awake = λ g h same awake. tt;
  same_knows = λ g h same object known. tt;
  same_looked = λ g h same object class size saw. same object class saw;
  plain_same = λ g q r awake plain comes object class saw. inr saw;
  enter_same = λ g l level r awake comes other object class saw. inr saw;
  wait_same = λ g l r awake comes other object class saw. inr saw;
  enter_awake = λ g l level awake comes. tt;
  exit_asked = λ g h l level awake comes same. tt;
  exit_same = λ g h l level awake comes same object class saw. inr (same object class (inr saw));
  wait_asleep = λ g l awake comes object class saw. inr saw;
  tick_asked = λ g h l asleep. tt;
  tick_asleep = λ g h l asleep comes object class saw. inr (asleep object class saw);
  tick_roused = λ g h l asleep comes object class saw. inr (asleep object class saw);
  timeout_asked = λ g h l asleep. tt;
  timeout_roused = λ g h l r asleep comes object class saw. inr (asleep object class saw);
  asleep_roused = λ g h l asleep. asleep;
  roused_knows = λ g h l roused object known. tt;
  resume_asked = λ g h l roused. tt;
  resume_same = λ g h l roused comes object class saw. inr (roused object class saw);
  end_asked = λ g fault same. tt;
  class_asked = λ g class awake below. tt;
  array_asked = λ g kind size awake few. tt;
  look_asked = λ g object awake known. tt;
  get_asked = λ g object place class size awake known looked there. tt;
  put_asked = λ g object place v class size awake known v_known looked there fits. tt;
  get_root_asked = λ g r awake there. tt;
  put_root_asked = λ g r v awake known there fits. tt;
  enter_asked = λ g l level awake known there. tt;
  wait_asked = λ g object awake known. tt;
  notify_asked = λ g object awake known. tt;
  notify_all_asked = λ g object awake known. tt;
  print_asked = λ g v awake known. tt;
  pause_asked = λ g awake. tt;
  settle_asked = λ g awake. tt;
}

-- what was seen before, and with one more act
saw_before : (object : ℕ) (class : ClassId) (before later : List Event) → Saw object class before → Saw object class (before ++ later)
saw_before object class [] later saw = absurd saw
saw_before object class (Act t q r woken ∷ before) later (inl tells) = inl tells
saw_before object class (Act t q r woken ∷ before) later (inr saw) = inr (saw_before object class before later saw)
saw_before object class (Lost client ∷ before) later saw = saw_before object class before later saw

saw_last : (object : ℕ) (class : ClassId) (before : List Event) (t : ThreadId) (q : Request) (r : Reply) (woken : Option ThreadId) → TellsClass object class q r
    → Saw object class (before ++ Act t q r woken ∷ [])
saw_last object class [] t q r woken tells = inl tells
saw_last object class (Act u p s by ∷ before) t q r woken tells = inr (saw_last object class before t q r woken tells)
saw_last object class (Lost client ∷ before) t q r woken tells = saw_last object class before t q r woken tells

-- what the acts tell, the events tell
abbrev Tells : List Deed → List Event → Type 0
Tells g before = (object : ℕ) (class : ClassId) → SawBack object class g → Saw object class before

tells_on : (g : List Deed) (before : List Event) (t : ThreadId) (q : Request) (r : Reply) (woken : Option ThreadId) → Tells g before → Tells ((q, r) ∷ g) (before ++ Act t q r woken ∷ [])
tells_on g before t q r woken tells object class (inl told) = saw_last object class before t q r woken told
tells_on g before t q r woken tells object class (inr saw) = saw_before object class before (Act t q r woken ∷ []) (tells object class saw)

-- what touches no map's field by the acts does so by the events
no_map_by : (shape : Shape) (g : List Deed) (before : List Event) (object : ℕ) → Tells g before → IsNoMapAt (map_keeper shape) g object → IsNoMap shape before object
no_map_by shape g before object tells (inl is) = inl is
no_map_by shape g before object tells (inr (class, size, saw, other)) = inr (class, tells object class saw, other)

apart_by : (shape : Shape) (g : List Deed) (before : List Event) (q : Request) → Tells g before → IsApartAt (map_keeper shape) g q → IsApart shape before q
apart_by shape g before (request.Get object place) tells apart = no_map_by shape g before object tells apart
apart_by shape g before (request.Put object place v) tells apart = no_map_by shape g before object tells apart
apart_by shape g before q tells apart = tt

-- the replies of events and of others behind them
replies_append : (before events : List Event) → replies_in (before ++ events) ≡ replies_in before ++ replies_in events
replies_append [] events = refl
replies_append (Act t q r woken ∷ before) events = ap (λ rs. r ∷ rs) (replies_append before events)
replies_append (Lost client ∷ before) events = replies_append before events

-- ---- what a call asks

-- a reply that a talk takes is listed
takes_listed : (object : ℕ) (rest : Talk) (q : Request) (r : Reply) → request_of object rest ≡ Some q → accepts rest r ≡ true → IsListed q r
takes_listed object (Gets f then) q (Val v) is takes = let same : request.Get object (place_of f) ≡ q = cc is in subst (λ x. IsListed x (Val v)) same tt
takes_listed object (Puts f v then) q Done is takes = let same : request.Put object (place_of f) v ≡ q = cc is in subst (λ x. IsListed x Done) same tt
takes_listed object (Gets f then) q r is takes = absurd (cc takes)
takes_listed object (Puts f v then) q r is takes = absurd (cc takes)
takes_listed object (Ends v) q r is takes = absurd (cc is)

-- a talk that asks something asks it whether the monitor was entered or not
asks_still : (object : ℕ) (rest : Talk) (locked : Bool) (p : Request) → request_of object rest ≡ Some p → asked_at object rest locked ≡ Some p
asks_still object (Gets f then) locked p is = is
asks_still object (Puts f v then) locked p is = is
asks_still object (Ends v) locked p is = absurd (cc is)

-- a call asks something at first
talk_asks : (object : ℕ) (call : MapOp) (locked : Bool) → (p : Request) × (asked_at object (talk call) locked ≡ Some p)
unfolding slots
talk_asks object (op.Get k) locked = (_, refl)
talk_asks object (op.Has k) locked = (_, refl)
talk_asks object op.Size locked = (_, refl)
talk_asks object (op.Put k o) locked = (_, refl)
talk_asks object (op.Remove k) locked = (_, refl)

-- a reply that leads on in the call
leads_on : (b : Bool) (further : Option Request) (q : Request) → cond b further None ≡ Some q → (b ≡ true) × (further ≡ Some q)
leads_on true further q is = (refl, is)
leads_on false further q is = absurd (cc is)

module _ (c : Code) (sound : IsSoundCode c) where
  abbrev k : Keeper c.shape
  k = map_keeper c.shape

  abbrev Over : Outcome → k.Point → Type 0
  Over = Ended c k sound

  -- inside a call the thread asks what the call asks, whatever it is answered
  asks_call : (rs : List Reply) (object : ℕ) (rest : Talk) (locked : Bool) (g : k.Point) (o : List Reply → Outcome) (q : Request) → InCall k Over object rest locked g o
      → asked_after object rest locked rs ≡ Some q → (env : Environment) × (o rs ≡ Wants q env)
  asks_call [] object rest locked g o q (InCall.goes p {env = env} asked is may on off) wanted =
      let same : Some p ≡ Some q = sym (asks_still object rest locked p asked) ∙ wanted in
      let one : p ≡ q = cc same in
      (env, is ∙ ap (λ x. Wants x env) one)
  asks_call [] object _ _ g o q (InCall.leaves {env = env} is may go) wanted =
      let same : request.Exit (Mon object) ≡ q = cc wanted in
      (env, is ∙ ap (λ x. Wants x env) same)
  asks_call [] object _ _ g o q (InCall.over keeps) wanted = absurd (cc wanted)
  asks_call (r ∷ rs) object rest locked g o q (InCall.goes p asked is may on off) wanted =
      let leads : (accepts rest r ≡ true) × (asked_after object (after_reply rest r) locked rs ≡ Some q) = leads_on (accepts rest r) (asked_after object (after_reply rest r) locked rs) q wanted in
      asks_call rs object (after_reply rest r) locked (k.after p r g) (λ more. o (r ∷ more)) q (on r (takes_listed object rest p r asked leads.0) leads.0) leads.1
  asks_call (r ∷ rs) object _ _ g o q (InCall.leaves is may go) wanted = absurd (cc wanted)
  asks_call (r ∷ rs) object _ _ g o q (InCall.over keeps) wanted = absurd (cc wanted)

  -- so from the entry of its monitor
  asks_called : (rs : List Reply) (object : ℕ) (call : MapOp) (g : k.Point) (o : List Reply → Outcome) (q : Request) (env : Environment) → o [] ≡ Wants (entry_of object call) env
      → (IsListed (entry_of object call) Done → InCall k Over object (talk call) true (k.after (entry_of object call) Done g) (λ rs. o (Done ∷ rs)))
      → (IsListed (entry_of object call) Local → InCall k Over object (talk call) false (k.after (entry_of object call) Local g) (λ rs. o (Local ∷ rs)))
      → call_asks object call rs ≡ Some q → (at : Environment) × (o rs ≡ Wants q at)
  asks_called [] object call g o q env is inside beside wanted = let same : entry_of object call ≡ q = cc wanted in (env, is ∙ ap (λ x. Wants x env) same)
  asks_called (Done ∷ rs) object call g o q env is inside beside wanted = asks_call rs object (talk call) true (k.after (entry_of object call) Done g) (λ more. o (Done ∷ more)) q (inside tt) wanted
  asks_called (Local ∷ rs) object call g o q env is inside beside wanted = asks_call rs object (talk call) false (k.after (entry_of object call) Local g) (λ more. o (Local ∷ more)) q (beside tt) wanted
  asks_called (r ∷ rs) object call g o q env is inside beside wanted = absurd (cc wanted)

  -- ---- from call to call

  module _ (t : ThreadId) (body : ThreadBody) (found : body_of t c.bodies ≡ Some body) (n : ℕ) where
    -- what is wanted after the replies of events, for some number of moves, is the thread's next request after them
    wants_next : (events : List Event) (q : Request) (env : Environment) → whole c body n (replies_in events) ≡ Wants q env → next_request c t events ≡ Some q
    wants_next events q env is =
        let rs : List Reply = replies_in events in
        ap (next_of c rs) found ∙ sym (moves_enough c body (n + enough_for rs) rs (omega arith))
        ∙ same_wanted c body n (n + enough_for rs) rs (omega arith) (λ stopped. cc (sym is ∙ stopped)) ∙ ap next.request_of is

    -- a call of a map
    calling : (before : List Event) (object : ℕ) (call : MapOp) (class size : ℕ) (g : k.Point) (o : List Reply → Outcome) (env : Environment) → Tells g before
        → ((rs : List Reply) → o rs ≡ whole c body n (replies_in before ++ rs)) → SawBack object (Plain class) g → is_map c.shape class ≡ true → o [] ≡ Wants (entry_of object call) env
        → (IsListed (entry_of object call) Done → InCall k Over object (talk call) true (k.after (entry_of object call) Done g) (λ rs. o (Done ∷ rs)))
        → (IsListed (entry_of object call) Local → InCall k Over object (talk call) false (k.after (entry_of object call) Local g) (λ rs. o (Local ∷ rs)))
        → IsCalling c.shape (next_request c) t before object call
    calling before object call class size g o env tells same saw map is inside beside = record {
      asks = λ events q wanted.
          let at = asks_called (replies_in events) object call g o q env is inside beside wanted in
          wants_next (before ++ events) q at.0 (ap (whole c body n) (replies_append before events) ∙ sym (same (replies_in events)) ∙ at.1);
      class = class;
      is = map;
      saw = tells object (Plain class) saw;
    }

    -- the outcome after one more event
    same_on : (before : List Event) (u : ThreadId) (q : Request) (r : Reply) (woken : Option ThreadId) (o : List Reply → Outcome) → ((rs : List Reply) → o rs ≡ whole c body n (replies_in before ++ rs))
        → (rs : List Reply) → o (r ∷ rs) ≡ whole c body n (replies_in (before ++ Act u q r woken ∷ []) ++ rs)
    same_on before u q r woken o same rs = same (r ∷ rs) ∙ sym (ap (whole c body n) (replies_more before u q r woken rs))

    -- what an event is, where the thread goes on after it
    abbrev Goes : List Event → Phase → List Event → Type 0
    Goes before phase events = (last : Phase) × Walks c.shape (next_request c) t before phase events last

    abbrev Step : List Event → Phase → Request → Reply → Phase → Option Called → Type 0
    Step before = PhaseStep c.shape (next_request c) t before

    -- how it goes on after events from outside of calls, and from inside one that asks something
    abbrev Outs : List Event → Type 0
    Outs events = (before : List Event) (g : k.Point) (o : List Reply → Outcome) → Obeys k Over g o → Tells g before → ((rs : List Reply) → o rs ≡ whole c body n (replies_in before ++ rs))
        → FollowsOf c k sound o g events → Goes before Outside events

    abbrev Ins : List Event → Type 0
    Ins events = (before : List Event) (object : ℕ) (call : MapOp) (rest : Talk) (locked : Bool) (g : k.Point) (o : List Reply → Outcome) → InCall k Over object rest locked g o
        → (p : Request) → asked_at object rest locked ≡ Some p → Tells g before → ((rs : List Reply) → o rs ≡ whole c body n (replies_in before ++ rs)) → FollowsOf c k sound o g events
        → Goes before (Inside object call rest locked) events

    -- one step inside a call
    goes_to : (before : List Event) (q : Request) (r : Reply) (object : ℕ) (call : MapOp) (rest left : Talk) (locked : Bool) → request_of object rest ≡ Some q → accepts rest r ≡ true
        → after_reply rest r ≡ left → (p : Request) → asked_at object left locked ≡ Some p → Step before (Inside object call rest locked) q r (Inside object call left locked) None
    goes_to before q r object call rest left locked asked takes is p opens =
        subst (λ x. Step before (Inside object call rest locked) q r (Inside object call x locked) None) is (PhaseStep.goes_on asked takes (ap (λ x. asked_at object x locked) is ∙ opens))

    -- an act, and events after which it is known how the thread goes on
    module _ (events : List Event) (out : Outs events) (within : Ins events) (before : List Event) (u : ThreadId) (r : Reply) (woken : Option ThreadId) (g : k.Point) (o : List Reply → Outcome)
        (tells : Tells g before) (same : (rs : List Reply) → o rs ≡ whole c body n (replies_in before ++ rs)) where
      -- the events with the act
      abbrev with_act : Request → List Event
      with_act q = before ++ Act u q r woken ∷ []

      -- what follows it outside of calls
      goes_out : (q : Request) → Obeys k Over (k.after q r g) (λ rs. o (r ∷ rs)) → FollowsOf c k sound (λ rs. o (r ∷ rs)) (k.after q r g) events → Goes (with_act q) Outside events
      goes_out q keeps follows = out (with_act q) (k.after q r g) (λ rs. o (r ∷ rs)) keeps (tells_on g before u q r woken tells) (same_on before u q r woken o same) follows

      -- and inside one
      goes_in : (q : Request) (object : ℕ) (call : MapOp) (rest : Talk) (locked : Bool) → InCall k Over object rest locked (k.after q r g) (λ rs. o (r ∷ rs)) → (p : Request)
          → asked_at object rest locked ≡ Some p → FollowsOf c k sound (λ rs. o (r ∷ rs)) (k.after q r g) events → Goes (with_act q) (Inside object call rest locked) events
      goes_in q object call rest locked inside p opens follows =
          within (with_act q) object call rest locked (k.after q r g) (λ rs. o (r ∷ rs)) inside p opens (tells_on g before u q r woken tells) (same_on before u q r woken o same) follows

      -- after a reply that the talk takes, by what is left then
      walk_taken : (q : Request) (object : ℕ) (call : MapOp) (rest : Talk) (locked : Bool) → request_of object rest ≡ Some q → accepts rest r ≡ true → (left : Talk) → after_reply rest r ≡ left
          → InCall k Over object left locked (k.after q r g) (λ rs. o (r ∷ rs)) → FollowsOf c k sound (λ rs. o (r ∷ rs)) (k.after q r g) events
          → Goes before (Inside object call rest locked) (Act u q r woken ∷ events)
      walk_taken q object call rest locked asked takes left is (InCall.goes p further_asked wanted may on off) follows =
          let opens : asked_at object left locked ≡ Some p = asks_still object left locked p further_asked in
          let further = goes_in q object call left locked (InCall.goes p further_asked wanted may on off) p opens follows in
          (further.0, (Inside object call left locked, None, goes_to before q r object call rest left locked asked takes is p opens, further.1))
      walk_taken q object call rest _ asked takes _ is (InCall.leaves {v = v} wanted may go) follows =
          let further = goes_in q object call (Ends v) true (InCall.leaves wanted may go) (request.Exit (Mon object)) refl follows in
          (further.0, (Inside object call (Ends v) true, None, goes_to before q r object call rest (Ends v) true asked takes is (request.Exit (Mon object)) refl, further.1))
      walk_taken q object call rest _ asked takes _ is (InCall.over {v = v} keeps) follows =
          let further = goes_out q keeps follows in
          (further.0, (Outside, Some (record { object = object; call = call; gave = v }), PhaseStep.ends asked takes is, further.1))

      -- after a reply inside, by whether the talk takes it
      walk_told : (q : Request) (object : ℕ) (call : MapOp) (rest : Talk) (locked : Bool) → request_of object rest ≡ Some q → (takes : Bool) → accepts rest r ≡ takes
          → (accepts rest r ≡ true → InCall k Over object (after_reply rest r) locked (k.after q r g) (λ rs. o (r ∷ rs))) → (accepts rest r ≡ false → Obeys k Over (k.after q r g) (λ rs. o (r ∷ rs)))
          → FollowsOf c k sound (λ rs. o (r ∷ rs)) (k.after q r g) events → Goes before (Inside object call rest locked) (Act u q r woken ∷ events)
      walk_told q object call rest locked asked true takes on off follows = walk_taken q object call rest locked asked takes (after_reply rest r) refl (on takes) follows
      walk_told q object call rest locked asked false refuses on off follows =
          let further = goes_out q (off refuses) follows in
          (further.0, (Outside, None, PhaseStep.fails asked refuses, further.1))

    -- after the exit of a map's monitor
    walk_left : (events : List Event) → Outs events → (before : List Event) (u : ThreadId) (r : Reply) (woken : Option ThreadId) (g : k.Point) (o : List Reply → Outcome) → Tells g before
        → ((rs : List Reply) → o rs ≡ whole c body n (replies_in before ++ rs)) → (object : ℕ) (call : MapOp) (v : Value)
        → Obeys k Over (k.after (request.Exit (Mon object)) r g) (λ rs. o (r ∷ rs)) → IsListed (request.Exit (Mon object)) r
        → FollowsOf c k sound (λ rs. o (r ∷ rs)) (k.after (request.Exit (Mon object)) r g) events → Goes before (Inside object call (Ends v) true) (Act u (request.Exit (Mon object)) r woken ∷ events)
    walk_left events out before u Done woken g o tells same object call v keeps its follows =
        let q = request.Exit (Mon object) in
        let further = out (before ++ Act u q Done woken ∷ []) (k.after q Done g) (λ rs. o (Done ∷ rs)) keeps (tells_on g before u q Done woken tells) (same_on before u q Done woken o same) follows in
        (further.0, (Outside, Some (record { object = object; call = call; gave = v }), PhaseStep.leaves, further.1))
    walk_left events out before u r woken g o tells same object call v keeps its follows = absurd its

    -- after the reply to the entry of a map's monitor
    walk_entered : (events : List Event) → Outs events → Ins events → (before : List Event) (u : ThreadId) (r : Reply) (woken : Option ThreadId) (g : k.Point) (o : List Reply → Outcome) → Tells g before
        → ((rs : List Reply) → o rs ≡ whole c body n (replies_in before ++ rs)) → (object : ℕ) (call : MapOp) → IsCalling c.shape (next_request c) t before object call
        → (IsListed (entry_of object call) Done → InCall k Over object (talk call) true (k.after (entry_of object call) Done g) (λ rs. o (Done ∷ rs)))
        → (IsListed (entry_of object call) Local → InCall k Over object (talk call) false (k.after (entry_of object call) Local g) (λ rs. o (Local ∷ rs)))
        → ((s : Reply) → (s ≡ Done → ⊥) → (s ≡ Local → ⊥) → IsListed (entry_of object call) s → Obeys k Over (k.after (entry_of object call) s g) (λ rs. o (s ∷ rs)))
        → IsListed (entry_of object call) r → FollowsOf c k sound (λ rs. o (r ∷ rs)) (k.after (entry_of object call) r g) events → Goes before Outside (Act u (entry_of object call) r woken ∷ events)
    walk_entered events out within before u Done woken g o tells same object call calls inside beside other its follows =
        let opens = talk_asks object call true in
        let further = goes_in events out within before u Done woken g o tells same (entry_of object call) object call (talk call) true (inside its) opens.0 opens.1 follows in
        (further.0, (Inside object call (talk call) true, None, PhaseStep.enters calls, further.1))
    walk_entered events out within before u Local woken g o tells same object call calls inside beside other its follows =
        let opens = talk_asks object call false in
        let further = goes_in events out within before u Local woken g o tells same (entry_of object call) object call (talk call) false (beside its) opens.0 opens.1 follows in
        (further.0, (Inside object call (talk call) false, None, PhaseStep.passes calls, further.1))
    walk_entered events out within before u (Refused fault) woken g o tells same object call calls inside beside other its follows =
        let further = goes_out events out within before u (Refused fault) woken g o tells same (entry_of object call) (other (Refused fault) (λ e. cc e) (λ e. cc e) its) follows in
        (further.0, (Outside, None, PhaseStep.other tt, further.1))
    walk_entered events out within before u r woken g o tells same object call calls inside beside other its follows = absurd its

    -- an act outside of calls
    act_out : (events : List Event) → Outs events → Ins events → (u : ThreadId) (q : Request) (r : Reply) (woken : Option ThreadId) → Outs (Act u q r woken ∷ events)
    act_out events out within u q r woken before g o (Obeys.asks p is may apart go) tells same follows =
        let one : p ≡ q = the_request c k sound (o []) p q is follows.0 in
        let on : Obeys k Over (k.after q r g) (λ rs. o (r ∷ rs)) = subst (λ x. Obeys k Over (k.after x r g) (λ rs. o (r ∷ rs))) one (go r (subst (λ x. IsListed x r) (sym one) follows.1)) in
        let further = goes_out events out within before u r woken g o tells same q on follows.2 in
        (further.0, (Outside, None, PhaseStep.other (apart_by c.shape g before q tells (subst (IsApartAt k g) one apart)), further.1))
    act_out events out within u q r woken before g o (Obeys.calls object call class size {env = env} looked map is may inside beside other) tells same follows =
        let one : entry_of object call ≡ q = the_request c k sound (o []) (entry_of object call) q is follows.0 in
        let its : IsListed (entry_of object call) r = subst (λ x. IsListed x r) (sym one) follows.1 in
        subst (λ x. FollowsOf c k sound (λ rs. o (r ∷ rs)) (k.after x r g) events → Goes before Outside (Act u x r woken ∷ events)) one
        (λ further. walk_entered events out within before u r woken g o tells same object call (calling before object call class size g o env tells same looked map is inside beside) inside beside other its further) follows.2
    act_out events out within u q r woken before g o (Obeys.ends e is end) tells same follows = absurd (nothing_wanted c k sound e g q end (ap next.request_of (sym (is [])) ∙ follows.0))

    -- an act inside a call
    act_in : (events : List Event) → Outs events → Ins events → (u : ThreadId) (q : Request) (r : Reply) (woken : Option ThreadId) → Ins (Act u q r woken ∷ events)
    act_in events out within u q r woken before object call rest locked g o (InCall.goes p asked is may on off) _ opens tells same follows =
        let one : p ≡ q = the_request c k sound (o []) p q is follows.0 in
        let its : IsListed p r = subst (λ x. IsListed x r) (sym one) follows.1 in
        subst (λ x. FollowsOf c k sound (λ rs. o (r ∷ rs)) (k.after x r g) events → Goes before (Inside object call rest locked) (Act u x r woken ∷ events)) one
        (λ further. walk_told events out within before u r woken g o tells same p object call rest locked asked (accepts rest r) refl (on r its) (off r its) further) follows.2
    act_in events out within u q r woken before object call _ _ g o (InCall.leaves {v = v} is may go) _ opens tells same follows =
        let one : request.Exit (Mon object) ≡ q = the_request c k sound (o []) (request.Exit (Mon object)) q is follows.0 in
        let its : IsListed (request.Exit (Mon object)) r = subst (λ x. IsListed x r) (sym one) follows.1 in
        subst (λ x. FollowsOf c k sound (λ rs. o (r ∷ rs)) (k.after x r g) events → Goes before (Inside object call (Ends v) true) (Act u x r woken ∷ events)) one
        (λ further. walk_left events out before u r woken g o tells same object call v (go r its) its further) follows.2
    act_in events out within u q r woken before object call _ _ g o (InCall.over keeps) p opens tells same follows = absurd (cc opens)

    -- so after all events
    walks : (events : List Event) → Outs events × Ins events
    walks [] = (λ before g o keeps tells same follows. (Outside, refl), λ before object call rest locked g o inside p opens tells same follows. (Inside object call rest locked, refl))
    walks (Act u q r woken ∷ events) =
        let further = walks events in
        (act_out events further.0 further.1 u q r woken, act_in events further.0 further.1 u q r woken)
    walks (Lost client ∷ events) = (λ before g o keeps tells same follows. absurd follows, λ before object call rest locked g o inside p opens tells same follows. absurd follows)

-- ---- by the events of a thread

-- events that follow the code follow it at the points
follows_at : (c : Code) (t : ThreadId) (events before : List Event) (g : List Deed) → FollowsFrom (next_request c) (Listed (next_request c)) t before events
    → FollowsAt (map_keeper c.shape) (next_request c t) before g events
follows_at c t [] before g follows = tt
follows_at c t (Act u q r woken ∷ events) before g follows =
    (follows.0.0, subst (λ x. IsListedFor x r) follows.0.0 follows.0.1, follows_at c t events (before ++ Act u q r woken ∷ []) ((q, r) ∷ g) follows.1)
follows_at c t (Lost client ∷ events) before g follows = absurd follows.0

-- a thread that isn't there asks nothing
none_asked : (c : Code) (t : ThreadId) (events : List Event) → body_of t c.bodies ≡ None → FollowsCode c t events → events ≡ []
none_asked c t [] none follows = refl
none_asked c t (Act u q r woken ∷ events) none follows = absurd (cc (sym (ap (next_of c []) none) ∙ follows.0.0))
none_asked c t (Lost client ∷ events) none follows = absurd follows.0

walks_found : (c : Code) → IsSoundCode c → (t : ThreadId) (events : List Event) → FollowsCode c t events → (body : Option ThreadBody) → body_of t c.bodies ≡ body
    → (last : Phase) × Walks c.shape (next_request c) t [] Outside events last
walks_found c sound t events follows None found = subst (λ all. (last : Phase) × Walks c.shape (next_request c) t [] Outside all last) (sym (none_asked c t events found follows)) (Outside, refl)
walks_found c sound t events follows (Some body) found =
    let n : ℕ = enough_for (replies_in events) in
    (walks c sound t body found n events).0 [] [] (λ rs. whole c body n rs)
    (keeps_whole c (map_keeper c.shape) sound body (body_sound (IsSoundBody c) t body c.bodies sound.bodies found) n) (λ object class saw. saw) (λ rs. refl)
    (follows_of c (map_keeper c.shape) sound t body found n events [] [] (omega arith) (follows_at c t events [] [] follows))

-- The theorem: every thread of sound code goes from call to call of maps.
pub maps_called : MapsAreCalled
maps_called code sound t events follows = walks_found code sound t events follows (body_of t code.bodies) refl
