-- A thread of sound code keeps to what may be asked, from its first request to its end.
use Rattle.std.proofs.Common.{◌≡◌, refl, ◌⊎◌, inl, inr, ℕ, zero, suc, ◌+◌, ◌≤◌, Bool, true, false, cond, eqb, List, [], ◌∷◌, ◌++◌, length, All, Option, None, Some, subst, sym, ap, ◌∙◌, arith}
use Rattle.std.specs.Prelude.{slice_get, IfSome}
use Rattle.std.proofs.lemmas.Bool.{eqb-true}
use Rattle.std.proofs.lemmas.List.{append-nil, length-append}
use Rattle.std.proofs.lemmas.List.Elements.{All-head, All-tail}
use Rattle.std.proofs.lemmas.Option.{slice_get_within, get_or_from_slice_get}
use Rattle.dso_base.specs.declared.lock.LockName.TheVariants.{Mon}
use Rattle.dso_base.specs.declared.lock.ThreadId.{ThreadId}
use Rattle.dso_base.specs.declared.request.Event.{Event}
use Rattle.dso_base.specs.declared.request.Event.TheVariants.{Act, Lost}
use Rattle.dso_base.specs.declared.request.Reply.{Reply}
use Rattle.dso_base.specs.declared.request.Reply.TheVariants.{Done, Made, Seen, Val, Local, Refused}
use Rattle.dso_base.specs.declared.request.Request.{Request}
use Rattle.dso_base.specs.declared.request.Request.TheVariants as request
use Rattle.dso_base.specs.declared.shape.ClassShape.{ClassShape}
use Rattle.dso_base.specs.declared.value.Value.TheVariants as value
use Rattle.dso_base.specs.Following.{is_thread}
use Rattle.dso_base.specs.Shape.{fields_of}
use Rattle.dso_map.specs.declared.map_op.MapOp.{MapOp}
use Rattle.dso_map.specs.Calls.{accepts, after_reply}
use Rattle.dso_map.specs.MapClass.{map_size, map_fields, is_map}
use Rattle.dso_map.specs.Talk.{Talk, talk}
use Rattle.dso_machine.specs.declared.code.Code.{Code}
use Rattle.dso_machine.specs.declared.code.Method.{Method}
use Rattle.dso_machine.specs.declared.code.ThreadBody.{ThreadBody}
use Rattle.dso_machine.specs.MapCalls.{entry_of}
use Rattle.dso_machine.specs.Next.{finish, opening, whole, enough_for, request_of, replies_in, body_of, next_of, next_request}
use Rattle.dso_machine.specs.Outcome.{Environment, Outcome, Wants, Gives, Leaves, Fails, Hears, Over, Stopped}
use Rattle.dso_machine.specs.Sound.{IsSoundClass, IsMethodLock, IsSoundMethod, IsSoundBody, IsSoundCode}
use Rattle.dso_machine.specs.Statements.{block, statements_of, methods}
use Rattle.dso_machine.proofs.protocol.Protocol.{Keeper, through, FollowsAt, KeepsTo}
use Rattle.dso_machine.proofs.protocol.Parts.{refilled, Obeys, InCall, keeps_on, one_function, Fine, Part, part_stopped, part_gives}
use Rattle.dso_machine.proofs.protocol.Calls.{Bodies, known_variables}
use Rattle.dso_machine.proofs.protocol.Maps.{IsMapAt}
use Rattle.dso_machine.proofs.protocol.Statements.{part_block}
use Rattle.dso_machine.proofs.moves.MoreRepliesInTrees.{moves_enough}

-- ---- methods and bodies

-- what holds of all holds of the one that was found
pub all_of : {X : Type 0} (P : X → Type 0) (xs : List X) (i : ℕ) (x : X) → slice_get xs i ≡ Some x → All P xs → P x
all_of P xs i x is all = subst P (get_or_from_slice_get xs i x x is) (all i x (slice_get_within xs i x is))

-- what holds of both holds of the one that is taken
one_of : {X : Type 0} (P : X → Type 0) (b : Bool) (first : X) (others : Option X) (x : X) → P first → (others ≡ Some x → P x) → cond b (Some first) others ≡ Some x → P x
one_of P true first others x here rest is =
    let same : first ≡ x = cc is in
    subst P same here
one_of P false first others x here rest is = rest is

-- what holds of all bodies holds of a thread's
pub body_sound : (P : ThreadBody → Type 0) (t : ThreadId) (body : ThreadBody) (bodies : List ThreadBody) → All P bodies → body_of t bodies ≡ Some body → P body
body_sound P t body [] all is = absurd (cc is)
body_sound P t body (first ∷ rest) all is = one_of P (is_thread t first.thread) first (body_of t rest) body (All-head P first rest all) (body_sound P t body rest (All-tail P first rest all)) is

module _ (c : Code) (k : Keeper c.shape) (sound : IsSoundCode c) where
  -- the statements of a method that may be there
  part_statements : (n : ℕ) → Bodies k c (methods c n) → (m : ℕ) (method : Option Method) → slice_get c.methods m ≡ method → (g : k.Point) → Part k g (block c (methods c n) n (statements_of method))
  part_statements n bodies m None is g = part_gives k g value.Null tt
  part_statements n bodies m (Some method) is g =
      let fine : IsSoundMethod c method = all_of (IsSoundMethod c) c.methods m method is sound.methods in
      part_block c k (methods c n) bodies n method.vars true fine.statements g

  -- a method's named lock is there
  locks_there : (m : ℕ) (method : Method) → slice_get c.methods m ≡ Some method → IfSome method.named (IsMethodLock c.shape)
  locks_there m method is =
      let fine : IsSoundMethod c method = all_of (IsSoundMethod c) c.methods m method is sound.methods in
      fine.lock

  -- a class with as many fields as a map is that of maps
  map_class : (class : Option ClassShape) → IfSome class (IsSoundClass c.shape) → eqb (length (fields_of class)) map_size ≡ true → fields_of class ≡ map_fields
  map_class None fine is = absurd (cc is)
  map_class (Some class) fine is = fine.as_map (eqb-true (length class.fields) map_size is)

  class_sound : (class : Option ClassShape) (number : ℕ) → slice_get c.shape.classes number ≡ class → IfSome class (IsSoundClass c.shape)
  class_sound None number is = tt
  class_sound (Some class) number is = all_of (IsSoundClass c.shape) c.shape.classes number class is sound.classes

  maps_there : (class : ℕ) → is_map c.shape class ≡ true → (is_map c.shape class ≡ true) × IsMapAt c.shape class
  maps_there class is = (is, map_class (slice_get c.shape.classes class) (class_sound (slice_get c.shape.classes class) class refl) is)

  -- the methods' bodies keep to what may be asked, for any number of moves
  part_methods : (n : ℕ) → Bodies k c (methods c n)
  part_methods zero = record { body = λ m g. part_stopped k g; locks = locks_there; roots = sound.roots_are_locks; maps = maps_there }
  part_methods (suc n) = record { body = λ m g. part_statements n (part_methods n) m (slice_get c.methods m) refl g; locks = locks_there; roots = sound.roots_are_locks; maps = maps_there }

  -- ---- the whole of a thread

  -- the thread is over, or was stopped
  abbrev pub Ended : Outcome → k.Point → Type 0
  Ended Over g = Unit {0}
  Ended Stopped g = Unit {0}
  Ended o g = ⊥

  -- where its statements end, it asks for its end
  ends_thread : (e : Outcome) (h : k.Point) → Fine k k.start e h → Obeys k Ended h (λ rs. finish (refilled rs e))
  ends_thread (Gives v u) h fine = Obeys.asks (request.End None) refl (k.end_asked h None fine.same) tt (λ r comes. Obeys.ends Over (λ rs. refl) tt)
  ends_thread (Leaves v u) h fine = Obeys.asks (request.End None) refl (k.end_asked h None fine.same) tt (λ r comes. Obeys.ends Over (λ rs. refl) tt)
  ends_thread (Fails fault u) h fine = Obeys.asks (request.End (Some fault)) refl (k.end_asked h (Some fault) fine) tt (λ r comes. Obeys.ends Over (λ rs. refl) tt)
  ends_thread Stopped h fine = Obeys.ends Stopped (λ rs. refl) tt
  ends_thread (Wants q env) h fine = absurd fine
  ends_thread (Hears r u) h fine = absurd fine
  ends_thread Over h fine = absurd fine

  -- a thread with a sound body keeps to what may be asked
  pub keeps_whole : (body : ThreadBody) → IsSoundBody c body → (n : ℕ) → Obeys k Ended k.start (λ rs. whole c body n rs)
  keeps_whole body fine n = keeps_on k (Fine k k.start) Ended finish (λ q env. refl)
      ((part_block c k (methods c n) (part_methods n) n body.vars false fine.statements k.start).from k.start (opening body.vars [])
      (record { awake = k.start_awake; knows = λ object known. known; looked = λ object class size looked. looked }) (record { this = tt; vars = known_variables k.HasText (k.Knows k.start) body.vars [] tt })) ends_thread

  -- ---- events

  -- an end wants nothing
  pub nothing_wanted : (e : Outcome) (g : k.Point) (q : Request) → Ended e g → request_of (refilled [] e) ≡ Some q → ⊥
  nothing_wanted Over g q end wanted = cc wanted
  nothing_wanted Stopped g q end wanted = cc wanted
  nothing_wanted (Wants p env) g q end wanted = end
  nothing_wanted (Gives v u) g q end wanted = end
  nothing_wanted (Leaves v u) g q end wanted = end
  nothing_wanted (Fails fault u) g q end wanted = end
  nothing_wanted (Hears r u) g q end wanted = end

  -- what is wanted is the request
  pub the_request : (o : Outcome) (p q : Request) {env : Environment} → o ≡ Wants p env → request_of o ≡ Some q → p ≡ q
  the_request o p q is wanted =
      let same : Some p ≡ Some q = sym (ap request_of is) ∙ wanted in
      cc same

  -- it keeps to what may be asked, outside of calls of maps or inside one
  abbrev pub KeepsSomewhere : k.Point → (List Reply → Outcome) → Type 0
  KeepsSomewhere g o = Obeys k Ended g o ⊎ ((object : ℕ) × (rest : Talk) × (locked : Bool) × InCall k Ended object rest locked g o)

  -- The request that is wanted may be asked,
  asks_outside : (g : k.Point) (o : List Reply → Outcome) (q : Request) → Obeys k Ended g o → request_of (o []) ≡ Some q → k.Asks g q
  asks_outside g o q (Obeys.asks p is may apart go) wanted = subst (k.Asks g) (the_request (o []) p q is wanted) may
  asks_outside g o q (Obeys.calls object call class size looked map is may inside beside other) wanted = subst (k.Asks g) (the_request (o []) (entry_of object call) q is wanted) may
  asks_outside g o q (Obeys.ends e is end) wanted = absurd (nothing_wanted e g q end (ap request_of (sym (is [])) ∙ wanted))

  asks_next : (g : k.Point) (o : List Reply → Outcome) (q : Request) → KeepsSomewhere g o → request_of (o []) ≡ Some q → k.Asks g q
  asks_next g o q (inl keeps) wanted = asks_outside g o q keeps wanted
  asks_next g o q (inr (object, rest, locked, InCall.goes p asked is may on off)) wanted = subst (k.Asks g) (the_request (o []) p q is wanted) may
  asks_next g o q (inr (object, _, _, InCall.leaves is may go)) wanted = subst (k.Asks g) (the_request (o []) (request.Exit (Mon object)) q is wanted) may
  asks_next g o q (inr (object, _, _, InCall.over keeps)) wanted = asks_outside g o q keeps wanted

  -- after a reply to the entry of a map's monitor,
  entered_on : (g : k.Point) (o : List Reply → Outcome) (object : ℕ) (call : MapOp)
      → (k.IsReply g (entry_of object call) Done → InCall k Ended object (talk call) true (k.after (entry_of object call) Done g) (λ rs. o (Done ∷ rs)))
      → (k.IsReply g (entry_of object call) Local → InCall k Ended object (talk call) false (k.after (entry_of object call) Local g) (λ rs. o (Local ∷ rs)))
      → ((r : Reply) → (r ≡ Done → ⊥) → (r ≡ Local → ⊥) → k.IsReply g (entry_of object call) r → Obeys k Ended (k.after (entry_of object call) r g) (λ rs. o (r ∷ rs)))
      → (r : Reply) → k.IsReply g (entry_of object call) r → KeepsSomewhere (k.after (entry_of object call) r g) (λ rs. o (r ∷ rs))
  entered_on g o object call inside beside other Done comes = inr (object, talk call, true, inside comes)
  entered_on g o object call inside beside other Local comes = inr (object, talk call, false, beside comes)
  entered_on g o object call inside beside other (Made made) comes = inl (other (Made made) (λ e. cc e) (λ e. cc e) comes)
  entered_on g o object call inside beside other (Seen class size) comes = inl (other (Seen class size) (λ e. cc e) (λ e. cc e) comes)
  entered_on g o object call inside beside other (Val v) comes = inl (other (Val v) (λ e. cc e) (λ e. cc e) comes)
  entered_on g o object call inside beside other (Refused fault) comes = inl (other (Refused fault) (λ e. cc e) (λ e. cc e) comes)

  -- and inside a call by whether the talk takes it,
  told_on : (g : k.Point) (o : List Reply → Outcome) (object : ℕ) (rest : Talk) (locked : Bool) (q : Request) (r : Reply) (takes : Bool) → accepts rest r ≡ takes
      → (accepts rest r ≡ true → InCall k Ended object (after_reply rest r) locked (k.after q r g) (λ rs. o (r ∷ rs))) → (accepts rest r ≡ false → Obeys k Ended (k.after q r g) (λ rs. o (r ∷ rs)))
      → KeepsSomewhere (k.after q r g) (λ rs. o (r ∷ rs))
  told_on g o object rest locked q r true is on off = inr (object, after_reply rest r, locked, on is)
  told_on g o object rest locked q r false is on off = inl (off is)

  -- and what comes after its reply keeps to what may be asked.
  goes_outside : (g : k.Point) (o : List Reply → Outcome) (q : Request) → Obeys k Ended g o → request_of (o []) ≡ Some q → (r : Reply) → k.IsReply g q r → KeepsSomewhere (k.after q r g) (λ rs. o (r ∷ rs))
  goes_outside g o q (Obeys.asks p is may apart go) wanted r comes =
      let same : p ≡ q = the_request (o []) p q is wanted in
      subst (λ x. KeepsSomewhere (k.after x r g) (λ rs. o (r ∷ rs))) same (inl (go r (subst (λ x. k.IsReply g x r) (sym same) comes)))
  goes_outside g o q (Obeys.calls object call class size looked map is may inside beside other) wanted r comes =
      let same : entry_of object call ≡ q = the_request (o []) (entry_of object call) q is wanted in
      subst (λ x. KeepsSomewhere (k.after x r g) (λ rs. o (r ∷ rs))) same (entered_on g o object call inside beside other r (subst (λ x. k.IsReply g x r) (sym same) comes))
  goes_outside g o q (Obeys.ends e is end) wanted r comes = absurd (nothing_wanted e g q end (ap request_of (sym (is [])) ∙ wanted))

  goes_on : (g : k.Point) (o : List Reply → Outcome) (q : Request) → KeepsSomewhere g o → request_of (o []) ≡ Some q → (r : Reply) → k.IsReply g q r → KeepsSomewhere (k.after q r g) (λ rs. o (r ∷ rs))
  goes_on g o q (inl keeps) wanted r comes = goes_outside g o q keeps wanted r comes
  goes_on g o q (inr (object, rest, locked, InCall.goes p asked is may on off)) wanted r comes =
      let same : p ≡ q = the_request (o []) p q is wanted in
      let its : k.IsReply g p r = subst (λ x. k.IsReply g x r) (sym same) comes in
      subst (λ x. KeepsSomewhere (k.after x r g) (λ rs. o (r ∷ rs))) same (told_on g o object rest locked p r (accepts rest r) refl (on r its) (off r its))
  goes_on g o q (inr (object, _, _, InCall.leaves is may go)) wanted r comes =
      let same : request.Exit (Mon object) ≡ q = the_request (o []) (request.Exit (Mon object)) q is wanted in
      subst (λ x. KeepsSomewhere (k.after x r g) (λ rs. o (r ∷ rs))) same (inl (go r (subst (λ x. k.IsReply g x r) (sym same) comes)))
  goes_on g o q (inr (object, _, _, InCall.over keeps)) wanted r comes = goes_outside g o q keeps wanted r comes

  -- each event is an act with what is wanted after the replies before it, and a reply that may come
  abbrev pub FollowsOf : (List Reply → Outcome) → k.Point → List Event → Type 0
  FollowsOf o g [] = Unit {0}
  FollowsOf o g (Act t q r woken ∷ events) = (request_of (o []) ≡ Some q) × k.IsReply g q r × FollowsOf (λ rs. o (r ∷ rs)) (k.after q r g) events
  FollowsOf o g (Lost client ∷ events) = ⊥

  -- what is wanted after such events may be asked
  asks_after : (events : List Event) (g : k.Point) (o : List Reply → Outcome) (q : Request) → KeepsSomewhere g o → FollowsOf o g events → request_of (o (replies_in events)) ≡ Some q
      → k.Asks (through k g events) q
  asks_after [] g o q keeps follows wanted = asks_next g o q keeps wanted
  asks_after (Act t p r woken ∷ events) g o q keeps follows wanted =
      asks_after events (k.after p r g) (λ rs. o (r ∷ rs)) q (goes_on g o p keeps follows.0 r follows.1) follows.2 wanted
  asks_after (Lost client ∷ events) g o q keeps follows wanted = absurd follows

-- ---- by the events of a thread

-- one more event behind others, and what follows its reply
pub replies_more : (before : List Event) (t : ThreadId) (q : Request) (r : Reply) (woken : Option ThreadId) (rs : List Reply) → replies_in (before ++ Act t q r woken ∷ []) ++ rs ≡ replies_in before ++ r ∷ rs
replies_more [] t q r woken rs = refl
replies_more (Act u p s by ∷ before) t q r woken rs = ap (λ all. s ∷ all) (replies_more before t q r woken rs)
replies_more (Lost client ∷ before) t q r woken rs = replies_more before t q r woken rs

module _ (c : Code) (k : Keeper c.shape) (sound : IsSoundCode c) (t : ThreadId) (body : ThreadBody) (found : body_of t c.bodies ≡ Some body) where
  -- the next request is what is wanted, for any number of moves that is enough
  next_is : (before : List Event) (n : ℕ) → enough_for (replies_in before) ≤ n → next_request c t before ≡ request_of (whole c body n (replies_in before))
  next_is before n le = ap (next_of c (replies_in before)) found ∙ sym (moves_enough c body n (replies_in before) le)

  -- so the thread's events are acts with what is wanted after the replies before them
  pub follows_of : (n : ℕ) (events before : List Event) (g : k.Point) → enough_for (replies_in before ++ replies_in events) ≤ n → FollowsAt k (next_request c t) before g events
      → FollowsOf c k sound (λ rs. whole c body n (replies_in before ++ rs)) g events
  follows_of n [] before g le follows = tt
  follows_of n (Act u q r woken ∷ events) before g le follows =
      let further : List Event = before ++ Act u q r woken ∷ [] in
      let longer : length (replies_in before ++ r ∷ replies_in events) ≡ length (replies_in before) + suc (length (replies_in events)) = length-append (replies_in before) (r ∷ replies_in events) in
      let wanted : request_of (whole c body n (replies_in before ++ [])) ≡ Some q =
      subst (λ rs. request_of (whole c body n rs) ≡ Some q) (sym (append-nil (replies_in before))) (sym (next_is before n (omega arith)) ∙ follows.0) in
      let rest : FollowsOf c k sound (λ rs. whole c body n (replies_in further ++ rs)) (k.after q r g) events =
      follows_of n events further (k.after q r g) (subst (λ rs. enough_for rs ≤ n) (sym (replies_more before u q r woken (replies_in events))) le) follows.2 in
      (wanted, follows.1, subst (λ o. FollowsOf c k sound o (k.after q r g) events) (one_function _ _ (λ rs. ap (whole c body n) (replies_more before u q r woken rs))) rest)
  follows_of n (Lost client ∷ events) before g le follows = absurd follows

  -- a thread that is there
  keeps_there : KeepsTo c k t
  keeps_there events q follows wanted =
      let n : ℕ = enough_for (replies_in events) in
      asks_after c k sound events k.start (λ rs. whole c body n rs) q (inl (keeps_whole c k sound body (body_sound (IsSoundBody c) t body c.bodies sound.bodies found) n))
      (follows_of n events [] k.start (omega arith) follows) (sym (next_is events n (omega arith)) ∙ wanted)

-- what a thread's body asks keeps to what may be asked
keeps_found : (c : Code) (k : Keeper c.shape) → IsSoundCode c → (t : ThreadId) (body : Option ThreadBody) → body_of t c.bodies ≡ body → KeepsTo c k t
keeps_found c k sound t (Some body) found = keeps_there c k sound t body found
keeps_found c k sound t None found = λ events q follows wanted. absurd (cc (sym (ap (next_of c (replies_in events)) found) ∙ wanted))

-- Each thread of sound code keeps to what may be asked.
pub keeps_to : (c : Code) (k : Keeper c.shape) → IsSoundCode c → (t : ThreadId) → KeepsTo c k t
keeps_to c k sound t = keeps_found c k sound t (body_of t c.bodies) refl
