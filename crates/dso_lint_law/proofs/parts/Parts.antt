-- Parts that are safe: what a thread asks can't be refused for want of a lock, nor read without guard.
use Rattle.std.proofs.Common.{◌≡◌, refl, ℕ, ◌+◌, Bool, true, false, List, [], ◌∷◌, ◌++◌, Option, Some, subst, sym, ap, ◌∙◌}
use Rattle.std.specs.Prelude.{nat_lt, slice_index_or}
use Rattle.dso_base.specs.declared.lock.Grade.{Grade}
use Rattle.dso_base.specs.declared.lock.LockName.{LockName}
use Rattle.dso_base.specs.declared.lock.LockName.TheVariants.{Mon, Name}
use Rattle.dso_base.specs.declared.request.Fault.{Fault}
use Rattle.dso_base.specs.declared.request.Fault.TheVariants.{NullPointer, BadValue}
use Rattle.dso_base.specs.declared.request.Reply.{Reply}
use Rattle.dso_base.specs.declared.request.Reply.TheVariants.{Done, Made, Refused}
use Rattle.dso_base.specs.declared.request.Request.{Request}
use Rattle.dso_base.specs.declared.request.Request.TheVariants as request
use Rattle.dso_base.specs.declared.shape.Shape.{Shape}
use Rattle.dso_base.specs.declared.value.ClassId.TheVariants as class
use Rattle.dso_base.specs.declared.value.Value.{Value}
use Rattle.dso_base.specs.declared.value.Value.TheVariants as value
use Rattle.dso_machine.specs.Limits.{most_moves}
use Rattle.dso_machine.specs.Outcome.{Environment, State, Outcome, Wants, Gives, Leaves, Fails, Hears, Over, Stopped, Meaning, choose, on_value, on_reply, with_outer, restored, holding, asking, unwanted, done, made, telling, tell, on_object, moved, paced, moving}
use Rattle.dso_machine.specs.Unwinding.{with_replies}
use Rattle.dso_machine.proofs.protocol.Parts.{refilled, one_function}
use Rattle.dso_lint.specs.Access.{writes}
use Rattle.dso_lint_law.proofs.parts.Views.{View, viewed, Held, Safe, MayCome, Counts, Later, later_itself, later_then, held_later, not_read_later, NotRead, Shared, shared_later, Covers, covers_later}

-- What comes of the replies is safe, from the view on; or it ends there, hears no more replies, and its end is as said.
pub data Obeys (shape : Shape) (P : Outcome → View → Type 0) : View → (List Reply → Outcome) → Type 0 where
  asks : {g : View} {o : List Reply → Outcome} (q : Request) {env : Environment} → o [] ≡ Wants q env → Safe shape g q
      → ((r : Reply) → MayCome g q r → Obeys shape P (viewed q r g) (λ rs. o (r ∷ rs))) → Obeys shape P g o
  ends : {g : View} {o : List Reply → Outcome} (e : Outcome) → ((rs : List Reply) → o rs ≡ refilled rs e) → P e g → Obeys shape P g o

module _ (shape : Shape) where
  -- with another end
  pub keeps_so : (P Q : Outcome → View → Type 0) {g : View} {o : List Reply → Outcome} → Obeys shape P g o → ((e : Outcome) (h : View) → P e h → Q e h) → Obeys shape Q g o
  keeps_so P Q (Obeys.asks q is may go) so = Obeys.asks q is may (λ r comes. keeps_so P Q (go r comes) so)
  keeps_so P Q (Obeys.ends e is end) so = Obeys.ends e is (so e _ end)

  -- what is made of an outcome goes on from its end, if it makes nothing of a request
  pub keeps_on : (P Q : Outcome → View → Type 0) (f : Outcome → Outcome) → ((q : Request) (env : Environment) → f (Wants q env) ≡ Wants q env) → {g : View} {o : List Reply → Outcome} → Obeys shape P g o
      → ((e : Outcome) (h : View) → P e h → Obeys shape Q h (λ rs. f (refilled rs e))) → Obeys shape Q g (λ rs. f (o rs))
  keeps_on P Q f stays (Obeys.asks q {env = env} is may go) then = Obeys.asks q (ap f is ∙ stays q env) may (λ r comes. keeps_on P Q f stays (go r comes) then)
  keeps_on P Q f stays (Obeys.ends e is end) then = subst (Obeys shape Q _) (one_function _ _ (λ rs. ap f (sym (is rs)))) (then e _ end)

-- ---- what is around a part

-- a variable, or `this`
pub data Var : Type 0 where
  This : Var
  Numbered : ℕ → Var

-- its value, by what `this` is and the variables
abbrev pub value_in : Value → List Value → Var → Value
value_in this vars Var.This = this
value_in this vars (Var.Numbered i) = slice_index_or vars i value.Null

abbrev pub value_of : Environment → Var → Value
value_of environment v = value_in environment.this environment.vars v

-- What is around a place in a body: what is known of `this`, the clean variables, the good holds, whether nothing is published
-- here, the named lock that is held, and which locks may be wanted at Write.
pub record Around : Type 1 where
  pub this : Value → Type 0
  pub clean : Var → Bool
  pub holds : Var → Grade → Type 0
  pub quiet : Type 0
  pub named : Option (ℕ × Grade)
  pub monitors : Type 0
  pub names : ℕ → Type 0

-- no lock that may be wanted at Write is held at Read; each hold counts its entries
pub record Free (c : Around) (g : View) : Type 0 where
  pub counts : (l : LockName) → Counts (g.holds l)
  pub monitors : c.monitors → (o : ℕ) → NotRead g (Mon o)
  pub names : (n : ℕ) → c.names n → NotRead g (Name n)

-- what is said of object 0, of which the roots are fields
pub record KnowsRoots (g : View) : Type 0 where
  pub class : g.class 0 ≡ Some class.Roots
  pub shared : g.shared 0 ≡ true

-- `this` and the variables that are locked around are the same
pub record KeepsAt (c : Around) (this : Value) (vars : List Value) (new_this : Value) (new_vars : List Value) : Type 0 where
  pub same_this : new_this ≡ this
  pub same : (v : Var) (grade : Grade) → c.holds v grade → value_in new_this new_vars v ≡ value_in this vars v

abbrev pub Keeps : Around → Environment → Environment → Type 0
Keeps c before after = KeepsAt c before.this before.vars after.this after.vars

pub keeps_itself : (c : Around) (a : Environment) → Keeps c a a
keeps_itself c a = record { same_this = refl; same = λ v grade there. refl }

-- `this` and the variables are as what is around says
pub record StandsAt (shape : Shape) (c : Around) (g : View) (this : Value) (vars : List Value) : Type 0 where
  pub this_is : c.this this
  pub clean : (v : Var) → c.clean v ≡ true → Shared g (value_in this vars v)
  pub holds : (v : Var) (grade : Grade) → c.holds v grade → Covers c.quiet g (value_in this vars v) (writes grade)
  pub named : (n : ℕ) (grade : Grade) → c.named ≡ Some (n, grade) → Held g (Name n) (writes grade)
  pub free : Free c g
  pub roots : KnowsRoots g

-- so those of an environment
abbrev pub Stands : Shape → Around → View → Environment → Type 0
Stands shape c g environment = StandsAt shape c g environment.this environment.vars

pub free_later : (c : Around) (g h : View) → Later c.quiet g h → Free c g → Free c h
free_later c g h later free = record {
  counts = λ l. subst Counts (sym (later.holds l)) (free.counts l);
  monitors = λ may o. not_read_later c.quiet g h later (Mon o) (free.monitors may o);
  names = λ n may. not_read_later c.quiet g h later (Name n) (free.names n may);
}

pub roots_later : (quiet : Type 0) (g h : View) → Later quiet g h → KnowsRoots g → KnowsRoots h
roots_later quiet g h later roots = record { class = later.class 0 class.Roots roots.class; shared = later.shared 0 roots.shared }

pub stands_later : (shape : Shape) (c : Around) (g h : View) (this : Value) (vars : List Value) → Later c.quiet g h → StandsAt shape c g this vars → StandsAt shape c h this vars
stands_later shape c g h this vars later s = record {
  this_is = s.this_is;
  clean = λ v is. shared_later c.quiet g h later (value_in this vars v) (s.clean v is);
  holds = λ v grade there. covers_later c.quiet g h later (value_in this vars v) (writes grade) (s.holds v grade there);
  named = λ n grade is. held_later c.quiet g h later (Name n) (writes grade) (s.named n grade is);
  free = free_later c g h later s.free;
  roots = roots_later c.quiet g h later s.roots;
}

-- what is said of a value at a view
abbrev pub Said : Type 1
Said = View → Value → Type 0

abbrev pub Any : Said
Any g v = Unit {0}

-- the value is shared where a test says so
abbrev pub SharedIf : Bool → Said
SharedIf b g v = b ≡ true → Shared g v

module _ (shape : Shape) where
  -- a part ends in order
  abbrev pub Fine : Around → Said → View → Environment → Outcome → View → Type 0
  Fine c P g started (Gives v u) h = Later c.quiet g h × P h v × Stands shape c h u.environment × Keeps c started u.environment
  Fine c P g started (Leaves v u) h = Later c.quiet g h
  Fine c P g started (Fails fault u) h = Later c.quiet g h
  Fine c P g started Stopped h = Unit {0}
  Fine c P g started o h = ⊥

  -- A part that is safe from each view that is later than this one.
  pub record Part (c : Around) (P : Said) (g : View) (m : Meaning) : Type 0 where
    pub from : (h : View) (u : State) → Later c.quiet g h → Stands shape c h u.environment → Obeys shape (Fine c P h u.environment) h (λ rs. m (with_replies rs u))

  module _ (c : Around) where
    -- an end that is fine from a view is so from an earlier one
    pub fine_from : (P : Said) (g h : View) (a b : Environment) → Later c.quiet g h → Keeps c a b → (e : Outcome) (i : View) → Fine c P h b e i → Fine c P g a e i
    fine_from P g h a b later kept (Gives v u) i fine = (later_then c.quiet g h i later fine.0, fine.1, fine.2, record { same_this = fine.3.same_this ∙ kept.same_this; same = λ w grade there. fine.3.same w grade there ∙ kept.same w grade there })
    fine_from P g h a b later kept (Leaves v u) i fine = later_then c.quiet g h i later fine
    fine_from P g h a b later kept (Fails fault u) i fine = later_then c.quiet g h i later fine
    fine_from P g h a b later kept Stopped i fine = tt
    fine_from P g h a b later kept (Wants q env) i fine = absurd fine
    fine_from P g h a b later kept (Hears r u) i fine = absurd fine
    fine_from P g h a b later kept Over i fine = absurd fine

    pub keeps_from : (P : Said) (g h i : View) (a b : Environment) → Later c.quiet g h → Keeps c a b → (o : List Reply → Outcome) → Obeys shape (Fine c P h b) i o → Obeys shape (Fine c P g a) i o
    keeps_from P g h i a b later kept o keeps = keeps_so shape (Fine c P h b) (Fine c P g a) keeps (fine_from P g h a b later kept)

    -- from a later view
    pub part_later : (P : Said) (g h : View) (m : Meaning) → Later c.quiet g h → Part c P g m → Part c P h m
    part_later P g h m later part = record { from = λ i u further stands. part.from i u (later_then c.quiet g h i later further) stands }

    -- with less said of its value
    weaker : (P Q : Said) (h : View) (a : Environment) → ((i : View) (v : Value) → P i v → Q i v) → (e : Outcome) (i : View) → Fine c P h a e i → Fine c Q h a e i
    weaker P Q h a less (Gives v u) i fine = (fine.0, less i v fine.1, fine.2, fine.3)
    weaker P Q h a less (Leaves v u) i fine = fine
    weaker P Q h a less (Fails fault u) i fine = fine
    weaker P Q h a less Stopped i fine = tt
    weaker P Q h a less (Wants q env) i fine = absurd fine
    weaker P Q h a less (Hears r u) i fine = absurd fine
    weaker P Q h a less Over i fine = absurd fine

    pub part_weaker : (P Q : Said) (g : View) (m : Meaning) → ((h : View) (v : Value) → P h v → Q h v) → Part c P g m → Part c Q g m
    part_weaker P Q g m less part = record { from = λ h u later stands. keeps_so shape (Fine c P h u.environment) (Fine c Q h u.environment) (part.from h u later stands) (weaker P Q h u.environment less) }

    -- ---- ends and what follows

    pub part_gives : (P : Said) (g : View) (v : Value) → ((h : View) → Later c.quiet g h → P h v) → Part c P g (Gives v)
    part_gives P g v said = record { from = λ h u later stands. Obeys.ends (Gives v u) (λ rs. refl) (later_itself c.quiet h, said h later, stands, keeps_itself c u.environment) }

    pub part_leaves : (P : Said) (g : View) (v : Value) → Part c P g (Leaves v)
    part_leaves P g v = record { from = λ h u later stands. Obeys.ends (Leaves v u) (λ rs. refl) (later_itself c.quiet h) }

    pub part_fails : (P : Said) (g : View) (fault : Fault) → Part c P g (Fails fault)
    part_fails P g fault = record { from = λ h u later stands. Obeys.ends (Fails fault u) (λ rs. refl) (later_itself c.quiet h) }

    pub part_stopped : (P : Said) (g : View) → Part c P g (λ at. Stopped)
    part_stopped P g = record { from = λ h u later stands. Obeys.ends Stopped (λ rs. refl) tt }

    -- what goes on from a value goes on from an end
    on_end : (P Q : Said) (g h : View) (a : Environment) (f : Value → Meaning) → Later c.quiet g h → ((v : Value) (i : View) → Later c.quiet g i → P i v → Part c Q i (f v))
        → (e : Outcome) (i : View) → Fine c P h a e i → Obeys shape (Fine c Q h a) i (λ rs. on_value f (refilled rs e))
    on_end P Q g h a f later then (Gives v u) i fine = keeps_from Q h i i a u.environment fine.0 fine.3 _ ((then v i (later_then c.quiet g h i later fine.0) fine.1).from i u (later_itself c.quiet i) fine.2)
    on_end P Q g h a f later then (Leaves v u) i fine = Obeys.ends (Leaves v u) (λ rs. refl) fine
    on_end P Q g h a f later then (Fails fault u) i fine = Obeys.ends (Fails fault u) (λ rs. refl) fine
    on_end P Q g h a f later then Stopped i fine = Obeys.ends Stopped (λ rs. refl) tt
    on_end P Q g h a f later then (Wants q env) i fine = absurd fine
    on_end P Q g h a f later then (Hears r u) i fine = absurd fine
    on_end P Q g h a f later then Over i fine = absurd fine

    -- a part, and then what is made of its value
    pub part_value : (P Q : Said) (g : View) (f : Value → Meaning) (m : Meaning) → Part c P g m → ((v : Value) (h : View) → Later c.quiet g h → P h v → Part c Q h (f v))
        → Part c Q g (λ at. on_value f (m at))
    part_value P Q g f m part then = record { from = λ h u later stands. keeps_on shape (Fine c P h u.environment) (Fine c Q h u.environment) (on_value f) (λ q env. refl) (part.from h u later stands) (on_end P Q g h u.environment f later then) }

    -- with what was held before a part held again, its end is as fine
    restored_end : (P : Said) (h : View) (a : Environment) (outer : List Value) (e : Outcome) (i : View) → Fine c P h a e i → Obeys shape (Fine c P h a) i (λ rs. restored outer (refilled rs e))
    restored_end P h a outer (Gives v u) i fine = Obeys.ends (Gives v (with_outer outer u)) (λ rs. refl) (fine.0, fine.1, fine.2, fine.3)
    restored_end P h a outer (Leaves v u) i fine = Obeys.ends (Leaves v (with_outer outer u)) (λ rs. refl) fine
    restored_end P h a outer (Fails fault u) i fine = Obeys.ends (Fails fault (with_outer outer u)) (λ rs. refl) fine
    restored_end P h a outer Stopped i fine = Obeys.ends Stopped (λ rs. refl) tt
    restored_end P h a outer (Wants q env) i fine = absurd fine
    restored_end P h a outer (Hears r u) i fine = absurd fine
    restored_end P h a outer Over i fine = absurd fine

    -- a part, while these values are held
    pub part_holding : (P : Said) (g : View) (vs : List Value) (m : Meaning) → Part c P g m → Part c P g (holding vs m)
    part_holding P g [] m part = part
    part_holding P g (v ∷ vs) m part = record {
      from = λ h u later stands. keeps_on shape (Fine c P h u.environment) (Fine c P h u.environment) (restored u.environment.outer) (λ q env. refl)
          (part.from h (with_outer (v ∷ vs ++ u.environment.outer) u) later stands) (restored_end P h u.environment u.environment.outer);
    }

    -- one or the other
    pub part_choose : (P : Said) (g : View) (b : Bool) (m other : Meaning) → (b ≡ true → Part c P g m) → Part c P g other → Part c P g (choose b m other)
    part_choose P g true m other part rest = record { from = λ h u later stands. (part refl).from h u later stands }
    part_choose P g false m other part rest = record { from = λ h u later stands. rest.from h u later stands }

    -- ---- requests

    -- a request that leaves the locks, and what is made of its reply
    pub part_ask : (P : Said) (g : View) (vs : List Value) (q : Request) (f : Reply → Meaning) → ((h : View) (this : Value) (vars : List Value) → Later c.quiet g h → StandsAt shape c h this vars → Safe shape h q)
        → ((h : View) (r : Reply) → Later c.quiet g h → MayCome h q r → Later c.quiet h (viewed q r h))
        → ((h : View) (r : Reply) → Later c.quiet g h → MayCome h q r → Part c P (viewed q r h) (f r)) → Part c P g (λ at. on_reply f (asking vs q at))
    part_ask P g vs q f safe kept then = record {
      from = λ h u later stands. Obeys.asks q refl (safe h u.environment.this u.environment.vars later stands) (λ r comes.
          let i : View = viewed q r h in
          let after : Later c.quiet h i = kept h r later comes in
          keeps_from P h i i u.environment u.environment after (keeps_itself c u.environment) _ ((then h r later comes).from i (record { environment = u.environment; moves = 0; replies = [] }) (later_itself c.quiet i)
          (stands_later shape c h i u.environment.this u.environment.vars after stands)));
    }

    -- a reply that isn't wanted
    pub part_unwanted : (P : Said) (g : View) (r : Reply) → Part c P g (unwanted r)
    part_unwanted P g (Refused fault) = record { from = λ h u later stands. (part_fails P g fault).from h u later stands }
    part_unwanted P g r = record { from = λ h u later stands. (part_fails P g BadValue).from h u later stands }

    pub part_done : (g : View) (r : Reply) → Part c Any g (done r)
    part_done g Done = record { from = λ h u later stands. (part_gives Any g value.Null (λ i further. tt)).from h u later stands }
    part_done g r = record { from = λ h u later stands. (part_unwanted Any g r).from h u later stands }

    pub part_made : (g : View) (r : Reply) → Part c Any g (made r)
    part_made g (Made o) = record { from = λ h u later stands. (part_gives Any g (value.Ref o) (λ i further. tt)).from h u later stands }
    part_made g r = record { from = λ h u later stands. (part_unwanted Any g r).from h u later stands }

    -- a request that is answered Done
    pub part_telling : (g : View) (vs : List Value) (q : Request) → ((h : View) (this : Value) (vars : List Value) → Later c.quiet g h → StandsAt shape c h this vars → Safe shape h q)
        → ((h : View) (r : Reply) → Later c.quiet g h → MayCome h q r → Later c.quiet h (viewed q r h)) → Part c Any g (telling vs q)
    part_telling g vs q safe kept = part_ask Any g vs q done safe kept (λ h r later comes. part_done (viewed q r h) r)

    pub part_tell : (g : View) (q : Request) → ((h : View) (this : Value) (vars : List Value) → Later c.quiet g h → StandsAt shape c h this vars → Safe shape h q)
        → ((h : View) (r : Reply) → Later c.quiet g h → MayCome h q r → Later c.quiet h (viewed q r h)) → Part c Any g (tell q)
    part_tell g q safe kept = part_telling g [] q safe kept

    -- the value is to be an object
    pub part_object : (P : Said) (g : View) (f : ℕ → Meaning) (v : Value) → ((o : ℕ) → v ≡ value.Ref o → Part c P g (f o)) → Part c P g (on_object f v)
    part_object P g f (value.Ref o) part = record { from = λ h u later stands. (part o refl).from h u later stands }
    part_object P g f value.Null part = record { from = λ h u later stands. (part_fails P g NullPointer).from h u later stands }
    part_object P g f v part = record { from = λ h u later stands. (part_fails P g BadValue).from h u later stands }

    -- ---- moves

    pub part_moved : (P : Said) (g : View) (m : Meaning) → Part c P g m → Part c P g (moved m)
    part_moved P g m part = record { from = λ h u later stands. part.from h (record { environment = u.environment; moves = u.moves + 1; replies = u.replies }) later stands }

    part_paced : (P : Said) (g : View) (b : Bool) (m : Meaning) → Part c P g m → Part c P g (paced b m)
    part_paced P g true m part = record { from = λ h u later stands. (part_moved P g m part).from h u later stands }
    part_paced P g false m part = record {
      from = λ h u later stands. (part_value Any P g (λ v. moved m) (tell request.Pause) (part_tell g request.Pause (λ h this vars later stands. tt) (λ h r later comes. later_itself c.quiet h))
          (λ v h later said. part_moved P h m (part_later P g h m later part))).from h u later stands;
    }

    pub part_moving : (P : Said) (g : View) (m : Meaning) → Part c P g m → Part c P g (moving m)
    part_moving P g m part = record { from = λ h u later stands. (part_paced P g (nat_lt u.moves most_moves) m part).from h u later stands }
