-- Entries of monitors and named locks.
use Rattle.std.proofs.Common.{◌≡◌, ◌⊎◌, inl, inr, refl, ℕ, suc, arith, Bool, true, false, cond, eqb, ◌||◌, Option, None, Some, subst, sym, ap, ◌∙◌}
use Rattle.std.proofs.lemmas.Bool.{eqb-true}
use Rattle.dso_base.specs.declared.lock.Grade.{Grade}
use Rattle.dso_base.specs.declared.lock.Grade.TheVariants as at_grade
use Rattle.dso_base.specs.declared.lock.Level.{Level}
use Rattle.dso_base.specs.declared.lock.Level.TheVariants.{Read, Write}
use Rattle.dso_base.specs.declared.lock.LockName.{LockName}
use Rattle.dso_base.specs.declared.lock.LockName.TheVariants.{Mon, Name}
use Rattle.dso_base.specs.declared.request.Reply.TheVariants.{Done, Local}
use Rattle.dso_base.specs.declared.request.Request.TheVariants as request
use Rattle.dso_base.specs.declared.shape.Shape.{Shape}
use Rattle.dso_base.specs.declared.value.Value.{Value}
use Rattle.dso_base.specs.declared.value.Value.TheVariants as value
use Rattle.dso_machine.specs.Outcome.{Environment, level_of}
use Rattle.dso_plain.specs.KeyTests.{is_lock}
use Rattle.dso_plain.specs.State as plain
use Rattle.dso_plain.specs.State.{Hold}
use Rattle.dso_plain.specs.After as after
use Rattle.dso_lint.specs.Access.{writes}
use Rattle.dso_lint_law.proofs.parts.Views.{View, shared_by, viewed, EntersSafely, NotRead, Counts, Held, Shared, Covered, Covers}
use Rattle.dso_lint_law.proofs.parts.Parts.{Var, value_of, Around, KnowsRoots, Stands}
use Rattle.dso_lint_law.proofs.parts.Locks.{same_lock, lock_self, or_right, Enters}

-- a level that isn't Read is Write
not_read_write : (level : Level) → (Some level ≡ Some Read → ⊥) → level ≡ Write
not_read_write Read other = absurd (other refl)
not_read_write Write other = refl

-- a grade that allows writes enters at Write
write_level : (grade : Grade) → writes grade ≡ true → level_of grade ≡ Write
write_level at_grade.Read is = absurd (cc is)
write_level at_grade.Write is = refl
write_level at_grade.Synchronous is = refl

-- an entry that allows writes is no upgrade, where the lock isn't held at Read
pub enters_safely : (h : View) (l : LockName) (grade : Grade) → (writes grade ≡ true → NotRead h l) → EntersSafely h l (level_of grade)
enters_safely h l at_grade.Read free = tt
enters_safely h l at_grade.Write free = free refl
enters_safely h l at_grade.Synchronous free = free refl

-- a hold counts one entry after one more
entered_counts : (level : Level) (hold : Option Hold) → Counts (after.entered level hold)
entered_counts level None = omega arith
entered_counts level (Some hold) = omega arith

-- either where the lock is, or elsewhere
either : {V : Type 0} (P : V → Type 0) (b : Bool) (here there : V) → P here → P there → P (cond b here there)
either P true here there h t = h
either P false here there h t = t

-- the hold after one more entry
pub record IsHold (hold : Option Hold) (write : Bool) : Type 0 where
  pub is : Hold
  pub there : hold ≡ Some is
  pub allows : write ≡ true → is.level ≡ Write

pub held_is : (g : View) (l : LockName) (write : Bool) → IsHold (g.holds l) write → Held g l write
held_is g l write h = record { hold = h.is; there = h.there; allows = h.allows }

-- one that was there already stays at its level
still_hold : (level : Level) (hold : Option Hold) (write : Bool) → IsHold hold write → IsHold (after.entered level hold) write
still_hold level None write h = absurd (cc h.there)
still_hold level (Some hold) write h =
    let same : hold ≡ h.is = cc h.there in
    record { is = record { level = hold.level; count = suc hold.count }; there = refl; allows = λ w. ap (λ (x : Hold). x.level) same ∙ h.allows w }

-- a new one is at the level of the entry, and one that isn't at Read is at Write
new_hold : (grade : Grade) (hold : Option Hold) → (writes grade ≡ true → plain.level_of hold ≡ Some Read → ⊥) → IsHold (after.entered (level_of grade) hold) (writes grade)
new_hold grade None free = record { is = record { level = level_of grade; count = 1 }; there = refl; allows = write_level grade }
new_hold grade (Some hold) free = record { is = record { level = hold.level; count = suc hold.count }; there = refl; allows = λ w. not_read_write hold.level (free w) }

-- no hold is at Read after an entry that allows writes
entered_not_read : (grade : Grade) (hold : Option Hold) → writes grade ≡ true → (plain.level_of hold ≡ Some Read → ⊥) → plain.level_of (after.entered (level_of grade) hold) ≡ Some Read → ⊥
entered_not_read grade None w free is =
    let at_write : Some (level_of grade) ≡ Some Write = ap Some (write_level grade w) in
    cc (sym at_write ∙ is)
entered_not_read grade (Some hold) w free is = free is

module _ (shape : Shape) (h : View) (l : LockName) (grade : Grade) where
  abbrev in_it : View
  in_it = viewed (request.Enter l (level_of grade)) Done h

  -- each hold is still there
  pub held_inside : (k : LockName) (write : Bool) → Held h k write → Held in_it k write
  held_inside k write held = held_is in_it k write (by (is_lock l k) refl)
    where
      was : IsHold (h.holds k) write
      was = record { is = held.hold; there = held.there; allows = held.allows }

      by : (b : Bool) → is_lock l k ≡ b → IsHold (cond b (after.entered (level_of grade) (h.holds l)) (h.holds k)) write
      by true is = still_hold (level_of grade) (h.holds l) write (subst (λ x. IsHold (h.holds x) write) (same_lock l k is) was)
      by false is = was

  -- the lock is held now
  pub held_now : (writes grade ≡ true → NotRead h l) → Held in_it l (writes grade)
  held_now free = held_is in_it l (writes grade) (subst (λ b. IsHold (cond b (after.entered (level_of grade) (h.holds l)) (h.holds l)) (writes grade)) (sym (lock_self l)) (new_hold grade (h.holds l) free))

  pub counts_inside : ((k : LockName) → Counts (h.holds k)) → (k : LockName) → Counts (in_it.holds k)
  counts_inside counts k = either Counts (is_lock l k) _ _ (entered_counts (level_of grade) (h.holds l)) (counts k)

  -- no hold is at Read that wasn't
  pub not_read_inside : (k : LockName) → writes grade ≡ true → NotRead h l → NotRead h k → NotRead in_it k
  not_read_inside k w free other = either (λ hold. plain.level_of hold ≡ Some Read → ⊥) (is_lock l k) _ _ (entered_not_read grade (h.holds l) w free) other

  pub shared_inside : (v : Value) → Shared h v → Shared in_it v
  shared_inside (value.Ref o) is = by l
    where
      by : (x : LockName) → shared_by x h.shared o ≡ true
      by (Mon p) = or_right (eqb o p) (h.shared o) is
      by (Name n) = is
  shared_inside value.Null is = tt
  shared_inside (value.Long n) is = tt
  shared_inside (value.Bool b) is = tt
  shared_inside (value.Text t) is = tt

  -- object 0 is what it was
  pub roots_inside : KnowsRoots h → KnowsRoots in_it
  roots_inside roots = record { class = roots.class; shared = by l }
    where
      by : (x : LockName) → shared_by x h.shared 0 ≡ true
      by (Mon p) = or_right (eqb 0 p) (h.shared 0) roots.shared
      by (Name n) = roots.shared

-- ---- monitors

-- what is around in the block of a site: its hold, if it is a good one
abbrev pub in_block : Around → (Var → Grade → Type 0) → Type 0 → Type 0 → Around
in_block c new quiet monitors = record { this = c.this; clean = c.clean; holds = new; quiet = quiet; named = c.named; monitors = monitors; names = c.names }

-- the holds in a site's block: the hold of its own variable, which is clean or whose block publishes nothing, and those around
pub record AreHolds (shape : Shape) (c : Around) (a : Environment) (o : ℕ) (grade : Grade) (quiet : Type 0) (new : Var → Grade → Type 0) : Type 0 where
  pub each : (v : Var) (x : Grade) → new v x → c.holds v x ⊎ ((x ≡ grade) × (value_of a v ≡ value.Ref o) × ((c.clean v ≡ true) ⊎ quiet))
  pub quieter : c.quiet → quiet

module _ (shape : Shape) (c : Around) (h : View) (a : Environment) (stands : Stands shape c h a) (o : ℕ) (grade : Grade) (quiet monitors : Type 0) (new : Var → Grade → Type 0)
    (holds : AreHolds shape c a o grade quiet new) (may : writes grade ≡ true → c.monitors) (fewer : monitors → c.monitors) (only_writes : monitors → writes grade ≡ true) where
  free_here : writes grade ≡ true → NotRead h (Mon o)
  free_here w = stands.free.monitors (may w) o

  abbrev in_it_done : View
  in_it_done = viewed (request.Enter (Mon o) (level_of grade)) Done h

  covered_done : (p : ℕ) (write : Bool) → Covered c.quiet h p write → Covered quiet in_it_done p write
  covered_done p write (inl held) = inl (held_inside shape h (Mon o) grade (Mon p) write held)
  covered_done p write (inr own) = inr (holds.quieter own.0, own.1)

  holds_done : (v : Var) (x : Grade) → new v x → Covers quiet in_it_done (value_of a v) (writes x)
  holds_done v x there = by (holds.each v x there)
    where
      by : c.holds v x ⊎ ((x ≡ grade) × (value_of a v ≡ value.Ref o) × ((c.clean v ≡ true) ⊎ quiet)) → Covers quiet in_it_done (value_of a v) (writes x)
      by (inl old) =
          let was = stands.holds v x old in
          (was.0, was.1, covered_done was.0 (writes x) was.2)
      by (inr own) = (o, own.1, inl (subst (λ y. Held in_it_done (Mon o) (writes y)) (sym own.0) (held_now shape h (Mon o) grade free_here)))

  abbrev in_it_own : View
  in_it_own = viewed (request.Enter (Mon o) (level_of grade)) Local h

  own_now : (eqb o o || h.own o) ≡ true
  own_now = by (eqb o o) (lock_self (Mon o))
    where
      by : (b : Bool) → b ≡ true → (b || h.own o) ≡ true
      by true is = refl
      by false is = absurd (cc is)

  covered_own : (p : ℕ) (write : Bool) → Covered c.quiet h p write → Covered quiet in_it_own p write
  covered_own p write (inl held) = inl (record { hold = held.hold; there = held.there; allows = held.allows })
  covered_own p write (inr own) = inr (holds.quieter own.0, or_right (eqb p o) (h.own p) own.1)

  holds_own : (h.shared o ≡ true → ⊥) → (v : Var) (x : Grade) → new v x → Covers quiet in_it_own (value_of a v) (writes x)
  holds_own unshared v x there = by (holds.each v x there)
    where
      good : value_of a v ≡ value.Ref o → ((c.clean v ≡ true) ⊎ quiet) → quiet
      good is (inl clean) = absurd (unshared (subst (Shared h) is (stands.clean v clean)))
      good is (inr q) = q

      by : c.holds v x ⊎ ((x ≡ grade) × (value_of a v ≡ value.Ref o) × ((c.clean v ≡ true) ⊎ quiet)) → Covers quiet in_it_own (value_of a v) (writes x)
      by (inl old) =
          let was = stands.holds v x old in
          (was.0, was.1, covered_own was.0 (writes x) was.2)
      by (inr own) = (o, own.1, inr (good own.1 own.2, own_now))

  -- the entry of a site
  pub enters_monitor : Enters shape (in_block c new quiet monitors) (in_block c new quiet monitors) h a (Mon o) grade
  enters_monitor = record {
    safe = enters_safely h (Mon o) grade free_here;
    done = λ comes. record {
      this_is = stands.this_is;
      clean = λ v is. shared_inside shape h (Mon o) grade (value_of a v) (stands.clean v is);
      holds = holds_done;
      named = λ n x is. held_inside shape h (Mon o) grade (Name n) (writes x) (stands.named n x is);
      free = record {
        counts = counts_inside shape h (Mon o) grade stands.free.counts;
        monitors = λ both p. not_read_inside shape h (Mon o) grade (Mon p) (only_writes both) (stands.free.monitors (fewer both) o) (stands.free.monitors (fewer both) p);
        names = λ n is. stands.free.names n is;
      };
      roots = roots_inside shape h (Mon o) grade stands.roots;
    };
    own = λ comes. record {
      this_is = stands.this_is;
      clean = stands.clean;
      holds = holds_own comes.own;
      named = λ n x is. record { hold = (stands.named n x is).hold; there = (stands.named n x is).there; allows = (stands.named n x is).allows };
      free = record { counts = stands.free.counts; monitors = λ both p. stands.free.monitors (fewer both) p; names = stands.free.names };
      roots = record { class = stands.roots.class; shared = stands.roots.shared };
    };
  }

-- ---- named locks

abbrev pub under_lock : Around → ℕ → Grade → (ℕ → Type 0) → Around
under_lock c n grade names = record { this = c.this; clean = c.clean; holds = c.holds; quiet = c.quiet; named = Some (n, grade); monitors = c.monitors; names = names }

module _ (shape : Shape) (c : Around) (h : View) (a : Environment) (stands : Stands shape c h a) (n : ℕ) (grade : Grade) (may : writes grade ≡ true → c.names n) (names : ℕ → Type 0) (fewer : (k : ℕ) → names k → c.names k) (only_writes : names n → writes grade ≡ true) where
  free_name : writes grade ≡ true → NotRead h (Name n)
  free_name w = stands.free.names n (may w)

  abbrev in_name : View
  in_name = viewed (request.Enter (Name n) (level_of grade)) Done h

  names_inside : (k : ℕ) → names k → NotRead in_name (Name k)
  names_inside k is = by (eqb k n) refl
    where
      by : (b : Bool) → eqb k n ≡ b → NotRead in_name (Name k)
      by true same =
          let w : writes grade ≡ true = only_writes (subst names (eqb-true k n same) is) in
          not_read_inside shape h (Name n) grade (Name k) w (free_name w) (stands.free.names k (fewer k is))
      by false same = subst (λ b. plain.level_of (cond b (after.entered (level_of grade) (h.holds (Name n))) (h.holds (Name k))) ≡ Some Read → ⊥) (sym same) (stands.free.names k (fewer k is))

  pub enters_name : Enters shape (under_lock c n grade names) (under_lock c n grade names) h a (Name n) grade
  enters_name = record {
    safe = enters_safely h (Name n) grade free_name;
    done = λ comes. record {
      this_is = stands.this_is;
      clean = λ v is. shared_inside shape h (Name n) grade (value_of a v) (stands.clean v is);
      holds = λ v x there. let was = stands.holds v x there in (was.0, was.1, covered was.0 (writes x) was.2);
      named = λ k x is. named k x is;
      free = record { counts = counts_inside shape h (Name n) grade stands.free.counts; monitors = λ m o. stands.free.monitors m o; names = names_inside };
      roots = roots_inside shape h (Name n) grade stands.roots;
    };
    own = λ comes. absurd comes.own;
  }
    where
      covered : (o : ℕ) (write : Bool) → Covered c.quiet h o write → Covered c.quiet in_name o write
      covered o write (inl held) = inl (held_inside shape h (Name n) grade (Mon o) write held)
      covered o write (inr own) = inr own

      named : (k : ℕ) (x : Grade) → ◌≡◌ {A = Option (ℕ × Grade)} (Some (n, grade)) (Some (k, x)) → Held in_name (Name k) (writes x)
      named k x is =
          let mine : ℕ × Grade = (n, grade) in
          let other : ℕ × Grade = (k, x) in
          let same : mine ≡ other = cc is in
          subst (λ (y : ℕ × Grade). Held in_name (Name y.0) (writes y.1)) same (held_now shape h (Name n) grade free_name)
