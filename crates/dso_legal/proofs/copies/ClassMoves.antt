-- What a client knows of an object's class, as its messages come and go and the one heap goes on.
use Rattle.std.specs.List.{AllByRecursion}
use Rattle.std.proofs.Common.{ℕ, ◌≡◌, refl, sym, ◌∙◌, ap, subst, true, false, cond, Option, Some, List, [], ◌∷◌, ◌++◌, length}
use Rattle.dso_base.specs.declared.message.Down.{Down}
use Rattle.dso_base.specs.declared.message.Down.TheVariants as down
use Rattle.dso_base.specs.declared.value.ClassId.{ClassId}
use Rattle.dso_plain.specs.Possible.{IsOf}
use Rattle.dso_plain.specs.State.{PlainState, IsShared}
use Rattle.dso_law.specs.Copies.{class_by_taken, class_by_bodies}
use Rattle.dso_legal.specs.Agreement.{after}
use Rattle.dso_legal.specs.CopiesStand.{brings, speaks_of, ClassCopy, class_copy_by, IsSharedCopy, ClassStands}
use Rattle.dso_legal.proofs.channels.Agreement.{after_append, may_append}
use Rattle.dso_legal.proofs.copies.FieldMoves.{less_resident, resident_other, silent_absent}
use Rattle.dso_legal.proofs.channels.Simulation.{each_implies}

-- a message that doesn't bring the object leaves the class held for it
pub class_other : (o : ℕ) (m : Down) (class : Option (ClassId × ℕ)) → brings o m ≡ false → class_by_taken o m class ≡ class
class_other o (down.Ids first) class absent = refl
class_other o (down.Object body) class absent = ap (λ b. class_by_bodies o [] (cond b (Some (body.class, length body.values)) class)) absent
class_other o (down.Grant l level) class absent = refl
class_other o (down.Recall l) class absent = refl
class_other o (down.Ack seq) class absent = refl
class_other o (down.Changes sets) class absent = refl
class_other o (down.Wake l t) class absent = refl

module _ (o : ℕ) where
  -- what is known now
  pub now_shared : (s : PlainState) (ms : List Down) (copy : ClassCopy) → ClassStands o s ms copy → IsSharedCopy o s copy
  now_shared s [] copy h = h.behind
  now_shared s (m ∷ ms) copy h = h.along.0

  -- the client takes the first message
  pub class_taken : (s : PlainState) (m : Down) (ms : List Down) (copy : ClassCopy) → ClassStands o s (m ∷ ms) copy → ClassStands o s ms (class_copy_by o m copy)
  class_taken s m ms copy h = record { along = h.along.1; behind = h.behind }

  -- what is so in front of the first
  shared_first : (s : PlainState) (m : Down) (ms : List Down) (copy : ClassCopy) → IsSharedCopy o s copy → ClassStands o s ms (class_copy_by o m copy) → ClassStands o s (m ∷ ms) copy
  shared_first s m ms copy now h = record { along = (now, h.along); behind = h.behind }

  -- a shared object stays shared and what it is
  pub record ClassGoesOn (s r : PlainState) : Type 0 where
    pub shared : IsShared o s → IsShared o r
    pub same : IsShared o s → r.objects o ≡ s.objects o

  -- so what is known of it
  pub still_shared : (s r : PlainState) → ClassGoesOn s r → (copy : ClassCopy) → IsSharedCopy o s copy → IsSharedCopy o r copy
  still_shared s r on copy h = record {
    shared = λ here. on.shared (h.shared here);
    of = λ here class e. subst (IsOf class.0 class.1) (sym (on.same (h.shared here))) (h.of here class e);
  }

  -- The state goes on, and more messages stand behind those in flight.
  pub class_goes_on : (s r : PlainState) (ms more : List Down) (copy : ClassCopy) → ClassGoesOn s r → ClassStands o s ms copy
      → ClassStands o r more (after (class_copy_by o) ms copy) → ClassStands o r (ms ++ more) copy
  class_goes_on s r ms more copy on h b = record {
    along = may_append (λ m z. IsSharedCopy o r z) (class_copy_by o) ms more copy (each_implies (λ m z. IsSharedCopy o s z) (λ m z. IsSharedCopy o r z) (class_copy_by o) (λ m z. still_shared s r on z) ms copy h.along) b.along;
    behind = subst (IsSharedCopy o r) (sym (after_append (class_copy_by o) ms more copy)) b.behind;
  }

  -- The state goes on.
  pub class_stays : (s r : PlainState) (ms : List Down) (copy : ClassCopy) → ClassGoesOn s r → ClassStands o s ms copy → ClassStands o r ms copy
  class_stays s r ms copy on h = record {
    along = each_implies (λ m z. IsSharedCopy o s z) (λ m z. IsSharedCopy o r z) (class_copy_by o) (λ m z. still_shared s r on z) ms copy h.along;
    behind = still_shared s r on (after (class_copy_by o) ms copy) h.behind;
  }

  -- Messages that don't bring the object stand behind those in flight.
  pub silent_behind : (s : PlainState) (more : List Down) (copy : ClassCopy) → IsSharedCopy o s copy → AllByRecursion (λ m. brings o m ≡ false) more → ClassStands o s more copy
  silent_behind s [] copy now silent = record { along = tt; behind = now }
  silent_behind s (m ∷ more) copy now silent = shared_first s m more copy now (silent_behind s more (class_copy_by o m copy) next silent.1)
    where
      same : class_copy_by o m copy ≡ copy
      same = ap (λ r. record { resident = r; class = class_by_taken o m copy.class }) (resident_other o m copy.resident silent.0)
          ∙ ap (λ c. record { resident = copy.resident; class = c }) (class_other o m copy.class silent.0)

      next : IsSharedCopy o s (class_copy_by o m copy)
      next = subst (IsSharedCopy o s) (sym same) now

  -- the second is resident only where the first is, with the same class
  pub record IsLess (copy less : ClassCopy) : Type 0 where
    pub resident : less.resident ≡ true → copy.resident ≡ true
    pub class : less.class ≡ copy.class

  -- The client flushes the object.
  pub class_less : (s : PlainState) (ms : List Down) (copy less : ClassCopy) → IsLess copy less → ClassStands o s ms copy → ClassStands o s ms less
  class_less s [] copy less is h = record { along = tt; behind = record { shared = λ here. h.behind.shared (is.resident here); of = λ here class e. h.behind.of (is.resident here) class (sym is.class ∙ e) } }
  class_less s (m ∷ ms) copy less is h = shared_first s m ms less now (class_less s ms (class_copy_by o m copy) (class_copy_by o m less) later (class_taken s m ms copy h))
    where
      now : IsSharedCopy o s less
      now = record { shared = λ here. h.along.0.shared (is.resident here); of = λ here class e. h.along.0.of (is.resident here) class (sym is.class ∙ e) }

      later : IsLess (class_copy_by o m copy) (class_copy_by o m less)
      later = record { resident = less_resident o m copy.resident less.resident is.resident; class = ap (class_by_taken o m) is.class }

-- what doesn't speak of an object doesn't bring it
pub silent_brings : (o : ℕ) (ms : List Down) → AllByRecursion (λ m. speaks_of o m ≡ false) ms → AllByRecursion (λ m. brings o m ≡ false) ms
silent_brings o [] silent = tt
silent_brings o (m ∷ ms) silent = (silent_absent o m silent.0, silent_brings o ms silent.1)
