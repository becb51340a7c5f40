-- Parts that keep to what may be asked: requests, values, moves, locks.
use Rattle.std.proofs.Common.{◌≡◌, ◌⊎◌, inl, inr, refl, ℕ, Some, Bool, true, false, List, [], ◌∷◌, ◌++◌, subst, sym, ap, ◌∙◌}
use Rattle.dso_base.specs.declared.lock.LockName.{LockName}
use Rattle.dso_base.specs.declared.lock.LockName.TheVariants.{Mon, Name}
use Rattle.dso_base.specs.declared.request.Fault.{Fault}
use Rattle.dso_base.specs.declared.request.Reply.{Reply}
use Rattle.dso_base.specs.declared.request.Reply.TheVariants.{Done, Local}
use Rattle.dso_base.specs.declared.request.Request.{Request}
use Rattle.dso_base.specs.declared.request.Request.TheVariants.{Get, Put, Exit}
use Rattle.dso_base.specs.declared.shape.Shape.{Shape}
use Rattle.dso_base.specs.declared.value.ClassId.{ClassId}
use Rattle.dso_base.specs.declared.value.ClassId.TheVariants.{Plain}
use Rattle.dso_base.specs.declared.value.Value.{Value}
use Rattle.dso_base.specs.declared.value.Value.TheVariants as value
use Rattle.dso_map.specs.declared.map_op.MapOp.{MapOp}
use Rattle.dso_map.specs.Calls.{request_of, accepts, after_reply}
use Rattle.dso_map.specs.MapClass.{is_map}
use Rattle.dso_map.specs.Talk.{Talk, talk}
use Rattle.dso_map.specs.Talk.Talk.{Ends}
use Rattle.dso_machine.specs.MapCalls.{IsOfMaps, entry_of}
use Rattle.dso_machine.specs.Outcome.{Environment, State, Outcome, Wants, Gives, Leaves, Fails, Hears, Over, Stopped, Meaning, choose, on_value, with_outer, restored, holding}
use Rattle.dso_machine.specs.Unwinding.{with_replies}
use Rattle.dso_machine.proofs.protocol.Protocol.{KnowsValue, KnowsLock, Keeper}

-- ---- outcomes by the replies that are left

-- the outcome with these replies left
abbrev pub refilled : List Reply → Outcome → Outcome
refilled rs (Wants q env) = Wants q env
refilled rs (Gives v u) = Gives v (with_replies rs u)
refilled rs (Leaves v u) = Leaves v (with_replies rs u)
refilled rs (Fails f u) = Fails f (with_replies rs u)
refilled rs (Hears r u) = Hears r (with_replies rs u)
refilled rs Over = Over
refilled rs Stopped = Stopped

-- the object is no map at the point: it is object 0, or was looked at, and is of another class
abbrev pub IsNoMapAt : {shape : Shape} (k : Keeper shape) → k.Point → ℕ → Type 0
IsNoMapAt {shape} k g object = (object ≡ 0) ⊎ ((class : ClassId) × (size : ℕ) × k.Looked g object class size × (IsOfMaps shape class → ⊥))

-- the request touches no map's field
abbrev pub IsApartAt : {shape : Shape} (k : Keeper shape) → k.Point → Request → Type 0
IsApartAt k g (Get object place) = IsNoMapAt k g object
IsApartAt k g (Put object place v) = IsNoMapAt k g object
IsApartAt k g q = Unit {0}

mutual
  -- What comes of the replies keeps to what may be asked: it wants a request that may be asked at the point and touches no map's
  -- field, and goes on so after each reply that may come; or it calls an object that was seen to be a map; or it ends there, hears
  -- no more replies, and its end is as said.
  pub data Obeys {shape : Shape} (k : Keeper shape) (P : Outcome → k.Point → Type 0) : k.Point → (List Reply → Outcome) → Type 0 where
    asks : {g : k.Point} {o : List Reply → Outcome} (q : Request) {env : Environment} → o [] ≡ Wants q env → k.Asks g q → IsApartAt k g q
        → ((r : Reply) → k.IsReply g q r → Obeys k P (k.after q r g) (λ rs. o (r ∷ rs))) → Obeys k P g o
    calls : {g : k.Point} {o : List Reply → Outcome} (object : ℕ) (call : MapOp) (class size : ℕ) {env : Environment} → k.Looked g object (Plain class) size → is_map shape class ≡ true
        → o [] ≡ Wants (entry_of object call) env → k.Asks g (entry_of object call)
        → (k.IsReply g (entry_of object call) Done → InCall k P object (talk call) true (k.after (entry_of object call) Done g) (λ rs. o (Done ∷ rs)))
        → (k.IsReply g (entry_of object call) Local → InCall k P object (talk call) false (k.after (entry_of object call) Local g) (λ rs. o (Local ∷ rs)))
        → ((r : Reply) → (r ≡ Done → ⊥) → (r ≡ Local → ⊥) → k.IsReply g (entry_of object call) r → Obeys k P (k.after (entry_of object call) r g) (λ rs. o (r ∷ rs)))
        → Obeys k P g o
    ends : {g : k.Point} {o : List Reply → Outcome} (e : Outcome) → ((rs : List Reply) → o rs ≡ refilled rs e) → P e g → Obeys k P g o

  -- So inside a call of a map of which this much is left, where the monitor was entered or not: it wants what the talk asks, and at its
  -- end the exit; and after it, or after a reply that the talk doesn't take, it keeps to what may be asked as before.
  pub data InCall {shape : Shape} (k : Keeper shape) (P : Outcome → k.Point → Type 0) : ℕ → Talk → Bool → k.Point → (List Reply → Outcome) → Type 0 where
    goes : {object : ℕ} {rest : Talk} {locked : Bool} {g : k.Point} {o : List Reply → Outcome} (q : Request) {env : Environment} → request_of object rest ≡ Some q → o [] ≡ Wants q env → k.Asks g q
        → ((r : Reply) → k.IsReply g q r → accepts rest r ≡ true → InCall k P object (after_reply rest r) locked (k.after q r g) (λ rs. o (r ∷ rs)))
        → ((r : Reply) → k.IsReply g q r → accepts rest r ≡ false → Obeys k P (k.after q r g) (λ rs. o (r ∷ rs))) → InCall k P object rest locked g o
    leaves : {object : ℕ} {v : Value} {g : k.Point} {o : List Reply → Outcome} {env : Environment} → o [] ≡ Wants (Exit (Mon object)) env → k.Asks g (Exit (Mon object))
        → ((r : Reply) → k.IsReply g (Exit (Mon object)) r → Obeys k P (k.after (Exit (Mon object)) r g) (λ rs. o (r ∷ rs))) → InCall k P object (Ends v) true g o
    over : {object : ℕ} {v : Value} {g : k.Point} {o : List Reply → Outcome} → Obeys k P g o → InCall k P object (Ends v) false g o

-- functions that agree are one function
pub one_function : {A B : Type 0} (f g : A → B) → ((x : A) → f x ≡ g x) → f ≡ g
one_function f g same = λ i x. same x i

module _ {shape : Shape} (k : Keeper shape) where
  mutual
    -- what is made of an outcome goes on from its end, if it makes nothing of a request
    pub keeps_on : (P Q : Outcome → k.Point → Type 0) (f : Outcome → Outcome) → ((q : Request) (env : Environment) → f (Wants q env) ≡ Wants q env) → {g : k.Point} {o : List Reply → Outcome} → Obeys k P g o
        → ((e : Outcome) (h : k.Point) → P e h → Obeys k Q h (λ rs. f (refilled rs e))) → Obeys k Q g (λ rs. f (o rs))
    keeps_on P Q f stays (Obeys.asks q {env = env} is may apart go) then = Obeys.asks q (ap f is ∙ stays q env) may apart (λ r comes. keeps_on P Q f stays (go r comes) then)
    keeps_on P Q f stays (Obeys.calls object call class size {env = env} looked map is may inside beside other) then =
        Obeys.calls object call class size looked map (ap f is ∙ stays (entry_of object call) env) may (λ comes. in_call_on P Q f stays (inside comes) then)
        (λ comes. in_call_on P Q f stays (beside comes) then) (λ r one two comes. keeps_on P Q f stays (other r one two comes) then)
    keeps_on P Q f stays (Obeys.ends e is end) then = subst (Obeys k Q _) (one_function _ _ (λ rs. ap f (sym (is rs)))) (then e _ end)

    in_call_on : (P Q : Outcome → k.Point → Type 0) (f : Outcome → Outcome) → ((q : Request) (env : Environment) → f (Wants q env) ≡ Wants q env) → {object : ℕ} {rest : Talk} {locked : Bool} {g : k.Point}
        {o : List Reply → Outcome} → InCall k P object rest locked g o → ((e : Outcome) (h : k.Point) → P e h → Obeys k Q h (λ rs. f (refilled rs e))) → InCall k Q object rest locked g (λ rs. f (o rs))
    in_call_on P Q f stays (InCall.goes q {env = env} asked is may on off) then = InCall.goes q asked (ap f is ∙ stays q env) may (λ r comes takes. in_call_on P Q f stays (on r comes takes) then)
        (λ r comes refuses. keeps_on P Q f stays (off r comes refuses) then)
    in_call_on P Q f stays (InCall.leaves {env = env} is may go) then = InCall.leaves (ap f is ∙ stays (Exit (Mon _)) env) may (λ r comes. keeps_on P Q f stays (go r comes) then)
    in_call_on P Q f stays (InCall.over keeps) then = InCall.over (keeps_on P Q f stays keeps then)

  mutual
    -- with another end
    pub keeps_so : (P Q : Outcome → k.Point → Type 0) {g : k.Point} {o : List Reply → Outcome} → Obeys k P g o → ((e : Outcome) (h : k.Point) → P e h → Q e h) → Obeys k Q g o
    keeps_so P Q (Obeys.asks q is may apart go) so = Obeys.asks q is may apart (λ r comes. keeps_so P Q (go r comes) so)
    keeps_so P Q (Obeys.calls object call class size looked map is may inside beside other) so = Obeys.calls object call class size looked map is may (λ comes. in_call_so P Q (inside comes) so)
        (λ comes. in_call_so P Q (beside comes) so) (λ r one two comes. keeps_so P Q (other r one two comes) so)
    keeps_so P Q (Obeys.ends e is end) so = Obeys.ends e is (so e _ end)

    in_call_so : (P Q : Outcome → k.Point → Type 0) {object : ℕ} {rest : Talk} {locked : Bool} {g : k.Point} {o : List Reply → Outcome} → InCall k P object rest locked g o
        → ((e : Outcome) (h : k.Point) → P e h → Q e h) → InCall k Q object rest locked g o
    in_call_so P Q (InCall.goes q asked is may on off) so = InCall.goes q asked is may (λ r comes takes. in_call_so P Q (on r comes takes) so) (λ r comes refuses. keeps_so P Q (off r comes refuses) so)
    in_call_so P Q (InCall.leaves is may go) so = InCall.leaves is may (λ r comes. keeps_so P Q (go r comes) so)
    in_call_so P Q (InCall.over keeps) so = InCall.over (keeps_so P Q keeps so)

-- ---- what is known

-- every value of the list is known
abbrev pub KnowsAll : (ℕ → Type 0) → (ℕ → Type 0) → List Value → Type 0
KnowsAll has_text knows [] = Unit {0}
KnowsAll has_text knows (v ∷ vs) = KnowsValue has_text knows v × KnowsAll has_text knows vs

module _ {shape : Shape} (k : Keeper shape) where
  -- at the second point the thread is awake, and knows no less than at the first, nor has it looked at less
  pub record More (g h : k.Point) : Type 0 where
    pub awake : k.Awake h
    pub knows : (object : ℕ) → k.Knows g object → k.Knows h object
    pub looked : (object : ℕ) (class : ClassId) (size : ℕ) → k.Looked g object class size → k.Looked h object class size

  -- the thread knows all that the environment holds
  pub record KnowsEnvironment (g : k.Point) (environment : Environment) : Type 0 where
    pub this : KnowsValue k.HasText (k.Knows g) environment.this
    pub vars : KnowsAll k.HasText (k.Knows g) environment.vars

  -- from the first point to the second: the same locks, a value and an environment that are known
  pub record Kept (g h : k.Point) (v : Value) (held : Environment) : Type 0 where
    pub same : k.Same g h
    pub value : KnowsValue k.HasText (k.Knows h) v
    pub environment : KnowsEnvironment h held

  -- a part that began at the first point ends in order at the second
  abbrev pub Fine : k.Point → Outcome → k.Point → Type 0
  Fine g (Gives v u) h = Kept g h v u.environment
  Fine g (Leaves v u) h = Kept g h v u.environment
  Fine g (Fails fault u) h = k.Same g h
  Fine g Stopped h = Unit {0}
  Fine g o h = ⊥

  -- A part that keeps to what may be asked, from each point that knows no less than this one.
  pub record Part (g : k.Point) (m : Meaning) : Type 0 where
    pub from : (h : k.Point) (u : State) → More g h → KnowsEnvironment h u.environment → Obeys k (Fine h) h (λ rs. m (with_replies rs u))

module _ {shape : Shape} (k : Keeper shape) where
  -- a value that is known stays known,
  pub value_later : (g h : k.Point) → ((object : ℕ) → k.Knows g object → k.Knows h object) → (v : Value) → KnowsValue k.HasText (k.Knows g) v → KnowsValue k.HasText (k.Knows h) v
  value_later g h knows (value.Ref object) known = knows object known
  value_later g h knows value.Null known = tt
  value_later g h knows (value.Long n) known = tt
  value_later g h knows (value.Bool b) known = tt
  value_later g h knows (value.Text t) known = known

  -- and so all of a list,
  pub all_later : (g h : k.Point) → ((object : ℕ) → k.Knows g object → k.Knows h object) → (vs : List Value) → KnowsAll k.HasText (k.Knows g) vs → KnowsAll k.HasText (k.Knows h) vs
  all_later g h knows [] known = tt
  all_later g h knows (v ∷ vs) known = (value_later g h knows v known.0, all_later g h knows vs known.1)

  -- a lock,
  pub lock_later : (g h : k.Point) → ((object : ℕ) → k.Knows g object → k.Knows h object) → (l : LockName) → KnowsLock (k.Knows g) l → KnowsLock (k.Knows h) l
  lock_later g h knows (Mon object) known = knows object known
  lock_later g h knows (Name name) known = tt

  -- and an environment.
  pub environment_later : (g h : k.Point) → ((object : ℕ) → k.Knows g object → k.Knows h object) → (environment : Environment) → KnowsEnvironment k g environment → KnowsEnvironment k h environment
  environment_later g h knows environment known = record { this = value_later g h knows environment.this known.this; vars = all_later g h knows environment.vars known.vars }

  -- what is no map is none later
  pub no_map_later : (g h : k.Point) (object : ℕ) → More k g h → IsNoMapAt k g object → IsNoMapAt k h object
  no_map_later g h object more (inl is) = inl is
  no_map_later g h object more (inr (class, size, looked, other)) = inr (class, size, more.looked object class size looked, other)

  -- a point after another, and a third one after it
  pub more_then : (g h i : k.Point) → More k g h → More k h i → More k g i
  more_then g h i some others = record {
    awake = others.awake;
    knows = λ object known. others.knows object (some.knows object known);
    looked = λ object class size looked. others.looked object class size (some.looked object class size looked);
  }

  -- a point and itself
  pub more_itself : (g : k.Point) → k.Awake g → More k g g
  more_itself g awake = record { awake = awake; knows = λ object known. known; looked = λ object class size looked. looked }

  -- a point with the same locks
  pub more_same : (g h : k.Point) → k.Awake g → k.Same g h → More k g h
  more_same g h awake same = record { awake = k.same_awake g h same awake; knows = k.same_knows g h same; looked = k.same_looked g h same }

  -- an end that is fine from a point is so from an earlier one with the same locks
  pub fine_from : (g h : k.Point) → k.Same g h → (e : Outcome) (i : k.Point) → Fine k h e i → Fine k g e i
  fine_from g h same (Gives v u) i fine = record { same = k.same_then g h i same fine.same; value = fine.value; environment = fine.environment }
  fine_from g h same (Leaves v u) i fine = record { same = k.same_then g h i same fine.same; value = fine.value; environment = fine.environment }
  fine_from g h same (Fails fault u) i fine = k.same_then g h i same fine
  fine_from g h same Stopped i fine = tt
  fine_from g h same (Wants q env) i fine = absurd fine
  fine_from g h same (Hears r u) i fine = absurd fine
  fine_from g h same Over i fine = absurd fine

  -- what keeps to what may be asked does so from a point of which the same is known
  pub keeps_from : (g h i : k.Point) → k.Same g h → (o : List Reply → Outcome) → Obeys k (Fine k h) i o → Obeys k (Fine k g) i o
  keeps_from g h i same o keeps = keeps_so k (Fine k h) (Fine k g) keeps (fine_from g h same)

  -- a part from a later point
  pub part_later : (g h : k.Point) (m : Meaning) → More k g h → Part k g m → Part k h m
  part_later g h m more part = record { from = λ i u further environment. part.from i u (more_then g h i more further) environment }

  -- a part at a point with the same locks, in a part that began before
  pub part_at : (g h : k.Point) (m : Meaning) (u : State) → k.Awake h → k.Same g h → Part k h m → KnowsEnvironment k h u.environment → Obeys k (Fine k g) h (λ rs. m (with_replies rs u))
  part_at g h m u awake same part environment = keeps_from g h h same _ (part.from h u (more_itself h awake) environment)

  -- ---- ends and what follows

  -- a value that is known,
  pub part_gives : (g : k.Point) (v : Value) → KnowsValue k.HasText (k.Knows g) v → Part k g (Gives v)
  part_gives g v known = record { from = λ h u more environment. Obeys.ends (Gives v u) (λ rs. refl) (record { same = k.same_itself h; value = value_later g h more.knows v known; environment = environment }) }

  -- one that the body is left with,
  pub part_leaves : (g : k.Point) (v : Value) → KnowsValue k.HasText (k.Knows g) v → Part k g (Leaves v)
  part_leaves g v known = record { from = λ h u more environment. Obeys.ends (Leaves v u) (λ rs. refl) (record { same = k.same_itself h; value = value_later g h more.knows v known; environment = environment }) }

  -- a fault,
  pub part_fails : (g : k.Point) (fault : Fault) → Part k g (Fails fault)
  part_fails g fault = record { from = λ h u more environment. Obeys.ends (Fails fault u) (λ rs. refl) (k.same_itself h) }

  -- and where no more moves are counted.
  pub part_stopped : (g : k.Point) → Part k g (λ at. Stopped)
  part_stopped g = record { from = λ h u more environment. Obeys.ends Stopped (λ rs. refl) tt }

  -- what goes on from a value goes on from an end
  on_end : (g h : k.Point) (f : Value → Meaning) → More k g h → ((v : Value) (i : k.Point) → More k g i → KnowsValue k.HasText (k.Knows i) v → Part k i (f v))
      → (e : Outcome) (i : k.Point) → Fine k h e i → Obeys k (Fine k h) i (λ rs. on_value f (refilled rs e))
  on_end g h f more then (Gives v u) i fine =
      let further : More k h i = more_same h i more.awake fine.same in
      part_at h i (f v) u further.awake fine.same (then v i (more_then g h i more further) fine.value) fine.environment
  on_end g h f more then (Leaves v u) i fine = Obeys.ends (Leaves v u) (λ rs. refl) fine
  on_end g h f more then (Fails fault u) i fine = Obeys.ends (Fails fault u) (λ rs. refl) fine
  on_end g h f more then Stopped i fine = Obeys.ends Stopped (λ rs. refl) tt
  on_end g h f more then (Wants q env) i fine = absurd fine
  on_end g h f more then (Hears r u) i fine = absurd fine
  on_end g h f more then Over i fine = absurd fine

  -- a part, and then what is made of its value
  pub part_value : (g : k.Point) (f : Value → Meaning) (m : Meaning) → Part k g m → ((v : Value) (h : k.Point) → More k g h → KnowsValue k.HasText (k.Knows h) v → Part k h (f v))
      → Part k g (λ at. on_value f (m at))
  part_value g f m part then = record { from = λ h u more environment. keeps_on k (Fine k h) (Fine k h) (on_value f) (λ q env. refl) (part.from h u more environment) (on_end g h f more then) }

  -- with what was held before a part held again, its end is as fine
  restored_end : (h : k.Point) (outer : List Value) (e : Outcome) (i : k.Point) → Fine k h e i → Obeys k (Fine k h) i (λ rs. restored outer (refilled rs e))
  restored_end h outer (Gives v u) i fine = Obeys.ends (Gives v (with_outer outer u)) (λ rs. refl) (record { same = fine.same; value = fine.value; environment = record { this = fine.environment.this; vars = fine.environment.vars } })
  restored_end h outer (Leaves v u) i fine = Obeys.ends (Leaves v (with_outer outer u)) (λ rs. refl) (record { same = fine.same; value = fine.value; environment = record { this = fine.environment.this; vars = fine.environment.vars } })
  restored_end h outer (Fails fault u) i fine = Obeys.ends (Fails fault (with_outer outer u)) (λ rs. refl) fine
  restored_end h outer Stopped i fine = Obeys.ends Stopped (λ rs. refl) tt
  restored_end h outer (Wants q env) i fine = absurd fine
  restored_end h outer (Hears r u) i fine = absurd fine
  restored_end h outer Over i fine = absurd fine

  -- a part, while these values are held
  pub part_holding : (g : k.Point) (vs : List Value) (m : Meaning) → Part k g m → Part k g (holding vs m)
  part_holding g [] m part = part
  part_holding g (v ∷ vs) m part = record {
    from = λ h u more environment. keeps_on k (Fine k h) (Fine k h) (restored u.environment.outer) (λ q env. refl)
        (part.from h (with_outer (v ∷ vs ++ u.environment.outer) u) more (record { this = environment.this; vars = environment.vars })) (restored_end h u.environment.outer);
  }

  -- one or the other
  pub part_choose : (g : k.Point) (b : Bool) (m other : Meaning) → (b ≡ true → Part k g m) → Part k g other → Part k g (choose b m other)
  part_choose g true m other part rest = record { from = λ h u more environment. (part refl).from h u more environment }
  part_choose g false m other part rest = record { from = λ h u more environment. rest.from h u more environment }
