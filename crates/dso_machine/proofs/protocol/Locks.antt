-- Parts under locks and waits keep to what may be asked.
use Rattle.std.proofs.Common.{◌≡◌, refl, ℕ, zero, suc, true, false, List, [], ◌∷◌}
use Rattle.dso_base.specs.declared.lock.Grade.{Grade}
use Rattle.dso_base.specs.declared.lock.Grade.TheVariants as grade
use Rattle.dso_base.specs.declared.lock.LockName.{LockName}
use Rattle.dso_base.specs.declared.lock.LockName.TheVariants.{Mon}
use Rattle.dso_base.specs.declared.request.Reply.{Reply}
use Rattle.dso_base.specs.declared.request.Reply.TheVariants.{Done, Val, Local, Refused}
use Rattle.dso_base.specs.declared.request.Request.TheVariants as request
use Rattle.dso_base.specs.declared.shape.Shape.{Shape}
use Rattle.dso_base.specs.declared.value.Value.{Value}
use Rattle.dso_base.specs.declared.value.Value.TheVariants as value
use Rattle.dso_machine.specs.Outcome.{State, Outcome, Wants, Gives, Leaves, Fails, Hears, Over, Stopped, Meaning, on_value, unwanted, done, tell, level_of, settling, leaving, leave, entered, under, under_with, holding, monitor_of}
use Rattle.dso_machine.specs.Statements.{unless_woken, timed_out, ticks, ticking, waiting, wait}
use Rattle.dso_machine.proofs.protocol.Protocol.{KnowsLock, HasLock, Keeper}
use Rattle.dso_machine.specs.Unwinding.{with_replies}
use Rattle.dso_machine.proofs.protocol.Parts.{refilled, Obeys, keeps_on, KnowsEnvironment, Kept, Fine, More, Part, value_later, lock_later, environment_later, part_later, part_at, part_holding}
use Rattle.dso_machine.proofs.protocol.Requests.{part_unwanted}

-- the state after a request
abbrev pub asked_at : State → State
asked_at u = record { environment = u.environment; moves = 0; replies = [] }

module _ {shape : Shape} (k : Keeper shape) where
  -- ---- locks

  -- what follows settling: it is answered Done
  after_settling : (P : Outcome → k.Point → Type 0) (g : k.Point) (m : Meaning) (u : State) → k.Awake g
      → ((h : k.Point) → k.Same g h → ((object : ℕ) → k.Knows g object → k.Knows h object) → Obeys k P h (λ rs. m (with_replies rs (asked_at u))))
      → (r : Reply) → k.IsReply g request.Settle r → Obeys k P (k.after request.Settle r g) (λ rs. on_value (λ v. m) (done r (with_replies rs (asked_at u))))
  after_settling P g m u awake then Done comes = then (k.after request.Settle Done g) (k.plain_same g request.Settle Done awake refl comes) (k.still_known g request.Settle Done)
  after_settling P g m u awake then r comes = absurd (k.listed g request.Settle r comes)

  -- what follows an exit, of a lock that was entered at this grade
  settles : (P : Outcome → k.Point → Type 0) (vs : List Value) (g : k.Point) (grade : Grade) (m : Meaning) (u : State) → k.Awake g
      → ((h : k.Point) → k.Same g h → ((object : ℕ) → k.Knows g object → k.Knows h object) → Obeys k P h (λ rs. m (with_replies rs (asked_at u))))
      → Obeys k P g (λ rs. settling vs grade m (with_replies rs (asked_at u)))
  settles P vs g grade.Read m u awake then = then g (k.same_itself g) (λ object known. known)
  settles P vs g grade.Write m u awake then = then g (k.same_itself g) (λ object known. known)
  settles P vs g grade.Synchronous m u awake then = Obeys.asks request.Settle refl (k.settle_asked g awake) tt (after_settling P g m u awake then)

  -- A part under a lock that was entered, from the point before.
  module _ (g : k.Point) (l : LockName) (grade : Grade) (awake : k.Awake g) (enters : k.IsReply g (request.Enter l (level_of grade)) Done) where
    -- the point after the entry
    abbrev inside : k.Point
    inside = k.after (request.Enter l (level_of grade)) Done g

    -- what follows an exit: it is answered Done
    pub after_exit : (P : Outcome → k.Point → Type 0) (vs : List Value) (m : Meaning) (h : k.Point) (u : State) → k.Same inside h
        → ((i : k.Point) → k.Same g i → ((object : ℕ) → k.Knows h object → k.Knows i object) → Obeys k P i (λ rs. m (with_replies rs (asked_at u))))
        → (r : Reply) → k.IsReply h (request.Exit l) r → Obeys k P (k.after (request.Exit l) r h) (λ rs. on_value (λ v. settling vs grade m) (done r (with_replies rs (asked_at u))))
    after_exit P vs m h u same then Done comes =
        let out : k.Point = k.after (request.Exit l) Done h in
        let before : k.Same g out = k.exit_same g h l (level_of grade) awake enters same in
        settles P vs out grade m u (k.same_awake g out before awake)
        (λ i further knows. then i (k.same_then g out i before further) (λ object known. knows object (k.still_known h (request.Exit l) Done object known)))
    after_exit P vs m h u same then r comes = absurd (k.listed h (request.Exit l) r comes)

    -- the lock is left at an end
    leaves_lock : (P : Outcome → k.Point → Type 0) (vs : List Value) (m : Meaning) (h : k.Point) (u : State) → k.Same inside h
        → ((i : k.Point) → k.Same g i → ((object : ℕ) → k.Knows h object → k.Knows i object) → Obeys k P i (λ rs. m (with_replies rs (asked_at u))))
        → Obeys k P h (λ rs. leaving vs l grade m (with_replies rs u))
    leaves_lock P vs m h u same then = Obeys.asks (request.Exit l) refl (k.exit_asked g h l (level_of grade) awake enters same) tt (after_exit P vs m h u same then)

    -- what is held and known after that
    pub kept_outside : (h : k.Point) (v : Value) (u : State) → Kept k inside h v u.environment → (i : k.Point) → k.Same g i → ((object : ℕ) → k.Knows h object → k.Knows i object) → Kept k g i v u.environment
    kept_outside h v u kept i same knows = record { same = same; value = value_later k h i knows v kept.value; environment = environment_later k h i knows u.environment kept.environment }

    -- at each end of the part its lock is left
    pub leaves_at_end : (e : Outcome) (h : k.Point) → Fine k inside e h → Obeys k (Fine k g) h (λ rs. leave l grade (refilled rs e))
    leaves_at_end (Gives v u) h fine = leaves_lock (Fine k g) (v ∷ []) (Gives v) h u fine.same (λ i same knows. Obeys.ends (Gives v (asked_at u)) (λ rs. refl) (kept_outside h v u fine i same knows))
    leaves_at_end (Leaves v u) h fine = leaves_lock (Fine k g) (v ∷ []) (Leaves v) h u fine.same (λ i same knows. Obeys.ends (Leaves v (asked_at u)) (λ rs. refl) (kept_outside h v u fine i same knows))
    leaves_at_end (Fails fault u) h fine = leaves_lock (Fine k g) [] (Fails fault) h u fine (λ i same knows. Obeys.ends (Fails fault (asked_at u)) (λ rs. refl) same)
    leaves_at_end Stopped h fine = Obeys.ends Stopped (λ rs. refl) tt
    leaves_at_end (Wants q env) h fine = absurd fine
    leaves_at_end (Hears r u) h fine = absurd fine
    leaves_at_end Over h fine = absurd fine

    -- the part, and its exit
    keeps_inside : (m : Meaning) (u : State) → Part k g m → KnowsEnvironment k g u.environment → Obeys k (Fine k g) inside (λ rs. leave l grade (m (with_replies rs (asked_at u))))
    keeps_inside m u part environment =
        let within : k.Awake inside = k.enter_awake g l (level_of grade) awake enters in
        keeps_on k (Fine k inside) (Fine k g) (leave l grade) (λ q env. refl)
        (part.from inside (asked_at u) (record { awake = within; knows = k.still_known g (request.Enter l (level_of grade)) Done; looked = k.still_looked g (request.Enter l (level_of grade)) Done })
        (environment_later k g inside (k.still_known g (request.Enter l (level_of grade)) Done) u.environment environment)) leaves_at_end

  -- a part where the lock is not entered
  keeps_outside : (g : k.Point) (l : LockName) (grade : Grade) (r : Reply) (m : Meaning) (u : State) → k.Awake g → k.IsReply g (request.Enter l (level_of grade)) r → (r ≡ Done → ⊥)
      → ((h : k.Point) → More k g h → Part k h m) → KnowsEnvironment k g u.environment → Obeys k (Fine k g) (k.after (request.Enter l (level_of grade)) r g) (λ rs. m (with_replies rs (asked_at u)))
  keeps_outside g l grade r m u awake comes other part environment =
      let h : k.Point = k.after (request.Enter l (level_of grade)) r g in
      let same : k.Same g h = k.enter_same g l (level_of grade) r awake comes other in
      let still : k.Awake h = k.same_awake g h same awake in
      part_at k g h m (asked_at u) still same (part h (record { awake = still; knows = k.still_known g (request.Enter l (level_of grade)) r; looked = k.still_looked g (request.Enter l (level_of grade)) r }))
      (environment_later k g h (k.still_known g (request.Enter l (level_of grade)) r) u.environment environment)

  -- the part after each reply to the entry
  keeps_entered : (g : k.Point) (l : LockName) (grade : Grade) (m : Meaning) (u : State) → k.Awake g → Part k g m → KnowsEnvironment k g u.environment
      → (r : Reply) → k.IsReply g (request.Enter l (level_of grade)) r → Obeys k (Fine k g) (k.after (request.Enter l (level_of grade)) r g) (λ rs. entered l grade m r (with_replies rs (asked_at u)))
  keeps_entered g l grade m u awake part environment Done comes = keeps_inside g l grade awake comes (holding (monitor_of l) m) u (part_holding k g (monitor_of l) m part) environment
  keeps_entered g l grade m u awake part environment Local comes =
      keeps_outside g l grade Local (holding (monitor_of l) m) u awake comes (λ e. cc e) (λ h more. part_holding k h (monitor_of l) m (part_later k g h m more part)) environment
  keeps_entered g l grade m u awake part environment (Refused fault) comes =
      keeps_outside g l grade (Refused fault) (unwanted (Refused fault)) u awake comes (λ e. cc e) (λ h more. part_unwanted k h (Refused fault)) environment
  keeps_entered g l grade m u awake part environment r comes = absurd (k.listed g (request.Enter l (level_of grade)) r comes)

  -- a part under a lock that is known and there
  pub part_under_with : (g : k.Point) (vs : List Value) (l : LockName) (grade : Grade) (m : Meaning) → KnowsLock (k.Knows g) l → HasLock shape l → Part k g m → Part k g (under_with vs l grade m)
  part_under_with g vs l grade m known there part = record {
    from = λ h u more environment. Obeys.asks (request.Enter l (level_of grade)) refl (k.enter_asked h l (level_of grade) more.awake (lock_later k g h more.knows l known) there) tt
        (keeps_entered h l grade m u more.awake (part_later k g h m more part) environment);
  }

  pub part_under : (g : k.Point) (l : LockName) (grade : Grade) (m : Meaning) → KnowsLock (k.Knows g) l → HasLock shape l → Part k g m → Part k g (under l grade m)
  part_under g l grade m known there part = part_under_with g [] l grade m known there part

  -- ---- waits

  -- What a thread that waits on the lock asks, from the point before its wait.
  module _ (g : k.Point) (l : LockName) (u : State) (environment : KnowsEnvironment k g u.environment) where
    -- the end of a wait after the thread was told to go on
    after_resume : (h : k.Point) → k.Roused g l h → (r : Reply) → k.IsReply h (request.Resume l) r → Obeys k (Fine k g) (k.after (request.Resume l) r h) (λ rs. done r (with_replies rs (asked_at u)))
    after_resume h roused Done comes = Obeys.ends (Gives value.Null (asked_at u)) (λ rs. refl) (record {
      same = k.resume_same g h l roused comes;
      value = tt;
      environment = environment_later k g (k.after (request.Resume l) Done h) (λ object known. k.still_known h (request.Resume l) Done object (k.roused_knows g h l roused object known)) u.environment environment;
    })
    after_resume h roused r comes = absurd (k.listed h (request.Resume l) r comes)

    -- it asks for the lock again
    keeps_resuming : (h : k.Point) → k.Roused g l h → Obeys k (Fine k g) h (λ rs. tell (request.Resume l) (with_replies rs (asked_at u)))
    keeps_resuming h roused = Obeys.asks (request.Resume l) refl (k.resume_asked g h l roused) tt (after_resume h roused)

    -- what follows its timeout
    after_timeout : (h : k.Point) → k.Asleep g l h → (r : Reply) → k.IsReply h (request.Timeout l) r
        → Obeys k (Fine k g) (k.after (request.Timeout l) r h) (λ rs. on_value (λ v. tell (request.Resume l)) (timed_out r (with_replies rs (asked_at u))))
    after_timeout h asleep Done comes = keeps_resuming (k.after (request.Timeout l) Done h) (k.timeout_roused g h l Done asleep comes)
    after_timeout h asleep (Val (value.Bool true)) comes = keeps_resuming (k.after (request.Timeout l) (Val (value.Bool true)) h) (k.timeout_roused g h l (Val (value.Bool true)) asleep comes)
    after_timeout h asleep r comes = absurd (k.listed h (request.Timeout l) r comes)

    -- what follows a tick
    after_tick : (n : ℕ) (h : k.Point) → ((i : k.Point) → k.Asleep g l i → Obeys k (Fine k g) i (λ rs. ticking l n (with_replies rs (asked_at u)))) → k.Asleep g l h
        → (r : Reply) → k.IsReply h (request.Tick l) r
        → Obeys k (Fine k g) (k.after (request.Tick l) r h) (λ rs. on_value (λ v. tell (request.Resume l)) (unless_woken (ticks l n) r (with_replies rs (asked_at u))))
    after_tick n h then asleep (Val (value.Bool true)) comes = keeps_resuming (k.after (request.Tick l) (Val (value.Bool true)) h) (k.tick_roused g h l asleep comes)
    after_tick n h then asleep (Val (value.Bool false)) comes = then (k.after (request.Tick l) (Val (value.Bool false)) h) (k.tick_asleep g h l asleep comes)
    after_tick n h then asleep r comes = absurd (k.listed h (request.Tick l) r comes)

    -- so many ticks, and its timeout
    keeps_ticking : (n : ℕ) (h : k.Point) → k.Asleep g l h → Obeys k (Fine k g) h (λ rs. ticking l n (with_replies rs (asked_at u)))
    keeps_ticking zero h asleep = Obeys.asks (request.Timeout l) refl (k.timeout_asked g h l asleep) tt (after_timeout h asleep)
    keeps_ticking (suc n) h asleep = Obeys.asks (request.Tick l) refl (k.tick_asked g h l asleep) tt (after_tick n h (keeps_ticking n) asleep)

    -- with and without a limit
    keeps_waiting : (n : ℕ) (h : k.Point) → k.Asleep g l h → Obeys k (Fine k g) h (λ rs. waiting l n (with_replies rs (asked_at u)))
    keeps_waiting zero h asleep = keeps_resuming h (k.asleep_roused g h l asleep)
    keeps_waiting (suc n) h asleep = keeps_ticking (suc n) h asleep

  -- what follows each reply to a wait
  keeps_waited : (n : ℕ) (g : k.Point) (l : LockName) (u : State) → k.Awake g → KnowsEnvironment k g u.environment → (r : Reply) → k.IsReply g (request.Wait l) r
      → Obeys k (Fine k g) (k.after (request.Wait l) r g) (λ rs. on_value (λ v. waiting l n) (done r (with_replies rs (asked_at u))))
  keeps_waited n g l u awake environment Done comes = keeps_waiting g l u environment n (k.after (request.Wait l) Done g) (k.wait_asleep g l awake comes)
  keeps_waited n g l u awake environment (Refused fault) comes = Obeys.ends (Fails fault (asked_at u)) (λ rs. refl) (k.wait_same g l (Refused fault) awake comes (λ e. cc e))
  keeps_waited n g l u awake environment r comes = absurd (k.listed g (request.Wait l) r comes)

  -- a thread waits on the monitor of an object that it knows, and then has it again
  pub part_wait : (n : ℕ) (g : k.Point) (object : ℕ) → k.Knows g object → Part k g (wait n (Mon object))
  part_wait n g object known = record {
    from = λ h u more environment. Obeys.asks (request.Wait (Mon object)) refl (k.wait_asked h object more.awake (more.knows object known)) tt
        (keeps_waited n h (Mon object) u more.awake environment);
  }
