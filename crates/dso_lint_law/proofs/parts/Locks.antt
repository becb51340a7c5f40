-- Parts under locks.
use Rattle.std.proofs.Common.{◌≡◌, refl, ℕ, suc, ◌-◌, arith, Bool, true, false, cond, eqb, ◌||◌, List, [], ◌∷◌, Option, None, Some, subst, sym, ap, ◌∙◌}
use Rattle.std.proofs.lemmas.Bool.{eqb-true, eq-eqb}
use Rattle.dso_base.specs.declared.lock.Grade.{Grade}
use Rattle.dso_base.specs.declared.lock.Grade.TheVariants as at_grade
use Rattle.dso_base.specs.declared.lock.Level.{Level}
use Rattle.dso_base.specs.declared.lock.LockName.{LockName}
use Rattle.dso_base.specs.declared.lock.LockName.TheVariants.{Mon, Name}
use Rattle.dso_base.specs.declared.request.Reply.{Reply}
use Rattle.dso_base.specs.declared.request.Reply.TheVariants.{Done, Local, Refused}
use Rattle.dso_base.specs.declared.request.Request.TheVariants as request
use Rattle.dso_base.specs.declared.shape.Shape.{Shape}
use Rattle.dso_base.specs.declared.value.Value.{Value}
use Rattle.dso_base.specs.declared.value.Value.TheVariants as value
use Rattle.dso_machine.specs.Outcome.{Environment, State, Outcome, Wants, Gives, Leaves, Fails, Hears, Over, Stopped, Meaning, on_value, done, level_of, settling, leaving, leave, entered, under_with, monitor_of}
use Rattle.dso_machine.specs.Unwinding.{with_replies}
use Rattle.dso_machine.proofs.protocol.Parts.{refilled}
use Rattle.dso_plain.specs.KeyTests.{is_lock}
use Rattle.dso_plain.specs.State.{Hold}
use Rattle.dso_plain.specs.After as after
use Rattle.dso_lint.specs.Access.{writes}
use Rattle.dso_lint_law.proofs.parts.Views.{View, shared_by, own_by, viewed, MayCome, EntersSafely, Counts, Later, later_itself, later_then, Shared, Covers}
use Rattle.dso_lint_law.proofs.parts.Parts.{Obeys, keeps_so, keeps_on, Var, value_of, Around, Keeps, Stands, StandsAt, stands_later, Said, Fine, Part, part_holding}

-- the state after a request
abbrev pub asked_at : State → State
asked_at u = record { environment = u.environment; moves = 0; replies = [] }

-- one exit takes one entry back
pub exit_entered : (level : Level) (hold : Option Hold) → Counts hold → after.exited (after.entered level hold) ≡ hold
exit_entered level None counts = refl
exit_entered level (Some hold) counts =
    let more : eqb (suc hold.count) 1 ≡ false = grind arith in
    let less : suc hold.count - 1 ≡ hold.count = omega arith in
    ap (λ b. cond b None (Some (record { level = hold.level; count = suc hold.count - 1 }))) more ∙ ap (λ n. Some (record { level = hold.level; count = n })) less

-- a key that passes the test is the lock
pub same_lock : (l k : LockName) → is_lock l k ≡ true → k ≡ l
same_lock (Mon o) (Mon k) is = ap Mon (eqb-true k o is)
same_lock (Name n) (Name k) is = ap Name (eqb-true k n is)
same_lock (Mon o) (Name k) is = absurd (cc is)
same_lock (Name n) (Mon k) is = absurd (cc is)

pub lock_self : (l : LockName) → is_lock l l ≡ true
lock_self (Mon o) = eq-eqb o o refl
lock_self (Name n) = eq-eqb n n refl

pub or_right : (a b : Bool) → b ≡ true → (a || b) ≡ true
or_right true b is = refl
or_right false b is = is

-- no less is shared
abbrev pub SharedMore : View → View → Type 0
SharedMore g h = (o : ℕ) → g.shared o ≡ true → h.shared o ≡ true

-- what is said of a value stays said where no less is shared
abbrev pub SaysStill : Said → Said → Type 0
SaysStill P Q = (h i : View) (v : Value) → SharedMore h i → P h v → Q i v

pub still_shared : (h i : View) (v : Value) → SharedMore h i → Shared h v → Shared i v
still_shared h i (value.Ref o) shared is = shared o is
still_shared h i value.Null shared is = tt
still_shared h i (value.Long n) shared is = tt
still_shared h i (value.Bool b) shared is = tt
still_shared h i (value.Text t) shared is = tt

-- What is around inside has all that is around outside.
pub record Inside (c d : Around) : Type 0 where
  pub clean : (v : Var) → c.clean v ≡ true → d.clean v ≡ true
  pub holds : (v : Var) (grade : Grade) → c.holds v grade → d.holds v grade
  pub quiet : c.quiet → d.quiet

module _ (shape : Shape) (c d : Around) (inside : Inside c d) where
  -- later inside is later outside
  later_outside : (g h : View) → Later d.quiet g h → Later c.quiet g h
  later_outside g h a = record { holds = a.holds; class = a.class; shared = a.shared; own = λ q. a.own (inside.quiet q) }

  -- What stands outside at the end, by what stood at the start.
  stands_outside : (g h i : View) (a b : Environment) → Stands shape c g a → Later c.quiet g i → Keeps d a b → Stands shape d h b → SharedMore h i → Stands shape c i b
  stands_outside g h i a b stood later kept stands shared =
      let was : Stands shape c i a = stands_later shape c g i a.this a.vars later stood in record {
        this_is = subst c.this (sym kept.same_this) was.this_is;
        clean = λ v is. still_shared h i (value_of b v) shared (stands.clean v (inside.clean v is));
        holds = λ v grade there. subst (λ x. Covers c.quiet i x (writes grade)) (sym (kept.same v grade (inside.holds v grade there))) (was.holds v grade there);
        named = was.named;
        free = was.free;
        roots = was.roots;
      }

  -- an end inside, where no lock was entered, is one outside
  pub end_outside : (P Q : Said) → SaysStill P Q → (g h : View) (a : Environment) → Stands shape c g a → Later c.quiet g h
      → (e : Outcome) (i : View) → Fine shape d P h a e i → Fine shape c Q g a e i
  end_outside P Q stays g h a stood later (Gives v u) i fine =
      let on : Later c.quiet g i = later_then c.quiet g h i later (later_outside h i fine.0) in
      (on, stays i i v (λ o is. is) fine.1, stands_outside g i i a u.environment stood on fine.3 fine.2 (λ o is. is), record { same_this = fine.3.same_this; same = λ w grade there. fine.3.same w grade (inside.holds w grade there) })
  end_outside P Q stays g h a stood later (Leaves v u) i fine = later_then c.quiet g h i later (later_outside h i fine)
  end_outside P Q stays g h a stood later (Fails fault u) i fine = later_then c.quiet g h i later (later_outside h i fine)
  end_outside P Q stays g h a stood later Stopped i fine = tt
  end_outside P Q stays g h a stood later (Wants q env) i fine = absurd fine
  end_outside P Q stays g h a stood later (Hears r u) i fine = absurd fine
  end_outside P Q stays g h a stood later Over i fine = absurd fine

  -- a part inside is one outside, where what is around inside stands from the start
  pub part_inside : (P Q : Said) → SaysStill P Q → (g : View) (m : Meaning) → ((h : View) (this : Value) (vars : List Value) → Later c.quiet g h → StandsAt shape c h this vars → StandsAt shape d h this vars)
      → ((h : View) → Later c.quiet g h → Part shape d P h m) → Part shape c Q g m
  part_inside P Q stays g m stands part = record {
    from = λ h u later stood. keeps_so shape (Fine shape d P h u.environment) (Fine shape c Q h u.environment)
        ((part h later).from h u (later_itself d.quiet h) (stands h u.environment.this u.environment.vars later stood))
        (end_outside P Q stays h h u.environment stood (later_itself c.quiet h));
  }

  -- A part under the lock, from the view before.
  module _ (g : View) (l : LockName) (grade : Grade) (a : Environment) (stood : Stands shape c g a) where
    -- the view after the entry
    abbrev within : View
    within = viewed (request.Enter l (level_of grade)) Done g

    -- after the exit the locks are held as before the entry
    later_after_exit : (h : View) → Later d.quiet within h → Later c.quiet g (viewed (request.Exit l) Done h)
    later_after_exit h a = record {
      holds = λ k. held k (is_lock l k) refl;
      class = a.class;
      shared = λ o is. a.shared o (grows l o is);
      own = λ q. a.own (inside.quiet q);
    }
      where
        grows : (m : LockName) (o : ℕ) → g.shared o ≡ true → shared_by m g.shared o ≡ true
        grows (Mon p) o is = or_right (eqb o p) (g.shared o) is
        grows (Name n) o is = is

        held : (k : LockName) (b : Bool) → is_lock l k ≡ b → cond b (after.exited (h.holds l)) (h.holds k) ≡ g.holds k
        held k true is = ap after.exited (a.holds l ∙ ap (λ b. cond b (after.entered (level_of grade) (g.holds l)) (g.holds l)) (lock_self l)) ∙ exit_entered (level_of grade) (g.holds l) (stood.free.counts l) ∙ ap g.holds (sym (same_lock l k is))
        held k false is = a.holds k ∙ ap (λ b. cond b (after.entered (level_of grade) (g.holds l)) (g.holds k)) is

    -- what follows the exit and settling
    settles : (P : Outcome → View → Type 0) (vs : List Value) (i : View) (m : Meaning) (u : State) (x : Grade) → Later c.quiet g i
        → ((h : View) → Later c.quiet g h → SharedMore i h → Obeys shape P h (λ rs. m (with_replies rs (asked_at u)))) → Obeys shape P i (λ rs. settling vs x m (with_replies rs (asked_at u)))
    settles P vs i m u at_grade.Read later then = then i later (λ o is. is)
    settles P vs i m u at_grade.Write later then = then i later (λ o is. is)
    settles P vs i m u at_grade.Synchronous later then = Obeys.asks request.Settle refl tt answered
      where
        answered : (r : Reply) → MayCome i request.Settle r → Obeys shape P (viewed request.Settle r i) (λ rs. on_value (λ v. m) (done r (with_replies rs (asked_at u))))
        answered Done comes = then i later (λ o is. is)
        answered r comes = absurd comes.listed

    -- the lock is left at an end
    leaves_lock : (P : Outcome → View → Type 0) (vs : List Value) (h : View) (m : Meaning) (u : State) → Later d.quiet within h
        → ((i : View) → Later c.quiet g i → SharedMore h i → Obeys shape P i (λ rs. m (with_replies rs (asked_at u)))) → Obeys shape P h (λ rs. leaving vs l grade m (with_replies rs u))
    leaves_lock P vs h m u later then = Obeys.asks (request.Exit l) refl tt answered
      where
        answered : (r : Reply) → MayCome h (request.Exit l) r → Obeys shape P (viewed (request.Exit l) r h) (λ rs. on_value (λ v. settling vs grade m) (done r (with_replies rs (asked_at u))))
        answered Done comes = settles P vs (viewed (request.Exit l) Done h) m u grade (later_after_exit h later) then
        answered r comes = absurd comes.listed

    -- at each end of the part its lock is left
    leaves_at_end : (P Q : Said) → SaysStill P Q → (e : Outcome) (h : View) → Fine shape d P within a e h → Obeys shape (Fine shape c Q g a) h (λ rs. leave l grade (refilled rs e))
    leaves_at_end P Q stays (Gives v u) h fine = leaves_lock (Fine shape c Q g a) (v ∷ []) h (Gives v) u fine.0 (λ i later shared. Obeys.ends (Gives v (asked_at u)) (λ rs. refl)
        (later, stays h i v shared fine.1, stands_outside g h i a u.environment stood later fine.3 fine.2 shared, record { same_this = fine.3.same_this; same = λ w grade there. fine.3.same w grade (inside.holds w grade there) }))
    leaves_at_end P Q stays (Leaves v u) h fine = leaves_lock (Fine shape c Q g a) (v ∷ []) h (Leaves v) u fine (λ i later shared. Obeys.ends (Leaves v (asked_at u)) (λ rs. refl) later)
    leaves_at_end P Q stays (Fails fault u) h fine = leaves_lock (Fine shape c Q g a) [] h (Fails fault) u fine (λ i later shared. Obeys.ends (Fails fault (asked_at u)) (λ rs. refl) later)
    leaves_at_end P Q stays Stopped h fine = Obeys.ends Stopped (λ rs. refl) tt
    leaves_at_end P Q stays (Wants q env) h fine = absurd fine
    leaves_at_end P Q stays (Hears r u) h fine = absurd fine
    leaves_at_end P Q stays Over h fine = absurd fine

-- What is asked of an entry: it is safe, and what is around inside stands after it: the first where the lock is of the cluster,
-- the second where it is an object's own.
pub record Enters (shape : Shape) (d e : Around) (h : View) (a : Environment) (l : LockName) (grade : Grade) : Type 0 where
  pub safe : EntersSafely h l (level_of grade)
  pub done : MayCome h (request.Enter l (level_of grade)) Done → Stands shape d (viewed (request.Enter l (level_of grade)) Done h) a
  pub own : MayCome h (request.Enter l (level_of grade)) Local → Stands shape e (viewed (request.Enter l (level_of grade)) Local h) a

-- a monitor that is the thread's own leaves the locks
pub later_local : (quiet : Type 0) (h : View) (l : LockName) (level : Level) → Later quiet h (viewed (request.Enter l level) Local h)
later_local quiet h l level = record { holds = λ k. refl; class = λ o x is. is; shared = λ o is. is; own = λ q o is. more l o is }
  where
    more : (m : LockName) (o : ℕ) → h.own o ≡ true → own_by m h.own o ≡ true
    more (Mon p) o is = or_right (eqb o p) (h.own o) is
    more (Name n) o is = is

module _ (shape : Shape) (c d e : Around) (inside : Inside c d) (beside : Inside c e) where
  -- A part under a lock, from a view and an environment: inside it, or beside it where the object is the thread's own.
  module _ (P Q : Said) (stays : SaysStill P Q) (vs : List Value) (h : View) (u : State) (stands : Stands shape c h u.environment)
      (l : LockName) (grade : Grade) (m : Meaning) (enters : Enters shape d e h u.environment l grade)
      (part : Part shape d P (viewed (request.Enter l (level_of grade)) Done h) m) (own_part : Part shape e P (viewed (request.Enter l (level_of grade)) Local h) m) where
    answered : (r : Reply) → MayCome h (request.Enter l (level_of grade)) r
        → Obeys shape (Fine shape c Q h u.environment) (viewed (request.Enter l (level_of grade)) r h) (λ rs. entered l grade m r (with_replies rs (asked_at u)))
    answered Done comes =
        let in_it : View = viewed (request.Enter l (level_of grade)) Done h in
        keeps_on shape (Fine shape d P in_it u.environment) (Fine shape c Q h u.environment) (leave l grade) (λ q env. refl)
        ((part_holding shape d P in_it (monitor_of l) m part).from in_it (asked_at u) (later_itself d.quiet in_it) (enters.done comes))
        (leaves_at_end shape c d inside h l grade u.environment stands P Q stays)
    answered Local comes =
        let in_it : View = viewed (request.Enter l (level_of grade)) Local h in
        keeps_so shape (Fine shape e P in_it u.environment) (Fine shape c Q h u.environment)
        ((part_holding shape e P in_it (monitor_of l) m own_part).from in_it (asked_at u) (later_itself e.quiet in_it) (enters.own comes))
        (end_outside shape c e beside P Q stays h in_it u.environment stands (later_local c.quiet h l (level_of grade)))
    answered (Refused fault) comes = Obeys.ends (Fails fault (asked_at u)) (λ rs. refl) (later_itself c.quiet h)
    answered r comes = absurd comes.listed

    pub keeps_under : Obeys shape (Fine shape c Q h u.environment) h (λ rs. under_with vs l grade m (with_replies rs u))
    keeps_under = Obeys.asks (request.Enter l (level_of grade)) refl enters.safe answered
