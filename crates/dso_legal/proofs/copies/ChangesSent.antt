-- What the changes of a record tell one client: those of the objects that it holds, in one message.
use Rattle.std.specs.List.{list_any}
use Rattle.std.proofs.Common.{ℕ, zero, suc, ◌≤◌, ◌≡◌, refl, sym, ◌∙◌, ap, subst, Bool, true, false, cond, eqb, ◌||◌, Option, List, [], ◌∷◌, ◌++◌, arith}
use Rattle.std.specs.Prelude.{filter, flat_map}
use Rattle.std.proofs.lemmas.List.{append_assoc, append-nil}
use Rattle.dso_base.specs.declared.journal.Entry.{Entry}
use Rattle.dso_base.specs.declared.journal.Input.{Input}
use Rattle.dso_base.specs.declared.journal.Input.TheVariants as input
use Rattle.dso_base.specs.declared.journal.Node.{Node}
use Rattle.dso_base.specs.declared.journal.Node.TheVariants.{Server, Client}
use Rattle.dso_base.specs.declared.journal.Sent.{Sent}
use Rattle.dso_base.specs.declared.lock.ThreadId.{ThreadId}
use Rattle.dso_base.specs.declared.message.Down.{Down}
use Rattle.dso_base.specs.declared.message.Down.TheVariants as down
use Rattle.dso_base.specs.declared.record.Set.{Set}
use Rattle.dso_base.specs.declared.record.Txn.{Txn}
use Rattle.dso_base.specs.declared.request.Event.{Event}
use Rattle.dso_base.specs.declared.request.Request.{Request}
use Rattle.dso_plain.proofs.keys.SameKeys.{same_number, number_self}
use Rattle.dso_law.specs.Settings.{Settings, up_to, clients_of}
use Rattle.dso_law.specs.Entries.{is_node, entries_of}
use Rattle.dso_law.specs.ServerReadings.{is_of_lost, counted}
use Rattle.dso_law.specs.ServerStep.{sets_for, changes_to, changes_of, ServerStepOn, ServerStep}
use Rattle.dso_law.specs.Store.{held_by, holds_object}
use Rattle.dso_legal.specs.Lawful.{NodeFollows, AllFollow}
use Rattle.dso_legal.proofs.leases.LeaseSteps.{unless_true, if_true}
use Rattle.dso_legal.proofs.leases.LeasesCompatible.{outsider_other}
use Rattle.dso_legal.proofs.channels.InFlight.{told_to, told_append}

-- the message of changes, where there are any
abbrev pub changes_down : List Set → List Down
changes_down [] = []
changes_down (set ∷ sets) = down.Changes (set ∷ sets) ∷ []

-- changes to one client
told_changes : (c d : ℕ) (sets : List Set) → told_to c (changes_to d sets) ≡ cond (eqb c d) (changes_down sets) []
told_changes c d [] = by (eqb c d)
  where
    by : (b : Bool) → ◌≡◌ {A = List Down} [] (cond b [] [])
    by true = refl
    by false = refl
told_changes c d (set ∷ sets) = refl

-- tests of lists behind one another
has_behind : {X : Type 0} (test : X → Bool) (xs ys : List X) → list_any test (xs ++ ys) ≡ (list_any test xs || list_any test ys)
has_behind test [] ys = refl
has_behind test (x ∷ xs) ys = by (test x) (has_behind test xs ys)
  where
    by : (b : Bool) → list_any test (xs ++ ys) ≡ (list_any test xs || list_any test ys) → (b || list_any test (xs ++ ys)) ≡ ((b || list_any test xs) || list_any test ys)
    by true h = refl
    by false h = h

-- the lists of items behind one another
flat_behind : {X Y : Type 0} (f : X → List Y) (xs ys : List X) → flat_map f (xs ++ ys) ≡ flat_map f xs ++ flat_map f ys
flat_behind f [] ys = refl
flat_behind f (x ∷ xs) ys = ap (λ rest. f x ++ rest) (flat_behind f xs ys) ∙ sym (append_assoc (f x) (flat_map f xs) (flat_map f ys))

-- a number among those up to another is no greater
among_below : (c n : ℕ) → list_any (eqb c) (up_to n) ≡ true → c ≤ n
among_below c zero e = absurd (cc e)
among_below c (suc n) e = by (list_any (eqb c) (up_to n)) (eqb c (suc n)) refl refl (sym (has_behind (eqb c) (up_to n) (suc n ∷ [])) ∙ e) (among_below c n)
  where
    more : (c n : ℕ) → c ≤ n → c ≤ suc n
    more c n le = omega (arith, le)

    same : (c n : ℕ) → c ≡ n → c ≤ n
    same c n is = omega (arith, is)

    by : (a b : Bool) → list_any (eqb c) (up_to n) ≡ a → eqb c (suc n) ≡ b → (a || (b || false)) ≡ true → (list_any (eqb c) (up_to n) ≡ true → c ≤ n) → c ≤ suc n
    by true b f g e before = more c n (before f)
    by false true f g e before = same c (suc n) (same_number c (suc n) g)
    by false false f g e before = absurd (cc e)

next_is_new : (c n : ℕ) → list_any (eqb c) (up_to n) ≡ true → eqb c (suc n) ≡ true → ⊥
next_is_new c n e f = by c n (among_below c n e) (same_number c (suc n) f)
  where
    by : (c n : ℕ) → c ≤ n → c ≡ suc n → ⊥
    by c n le is = omega (arith, le, is)

-- at most one of two has messages
one_of : (a b : Bool) (ms : List Down) → (a ≡ true → b ≡ true → ⊥) → cond a ms [] ++ cond b ms [] ≡ cond (a || (b || false)) ms []
one_of true true ms never = absurd (never refl refl)
one_of true false ms never = append-nil ms
one_of false true ms never = refl
one_of false false ms never = refl

-- what is sent to each of the numbers, by what the client is told of each
module _ (c : ℕ) (f : ℕ → List Sent) (ms : List Down) (to_one : (d : ℕ) → told_to c (f d) ≡ cond (eqb c d) ms []) where
  told_up_to : (n : ℕ) → told_to c (flat_map f (up_to n)) ≡ cond (list_any (eqb c) (up_to n)) ms []
  told_up_to zero = refl
  told_up_to (suc n) = ap (told_to c) (flat_behind f (up_to n) (suc n ∷ [])) ∙ told_append c (flat_map f (up_to n)) (f (suc n) ++ [])
      ∙ ap (λ first. first ++ told_to c (f (suc n) ++ [])) (told_up_to n)
      ∙ ap (λ last. cond (list_any (eqb c) (up_to n)) ms [] ++ last) (ap (told_to c) (append-nil (f (suc n))) ∙ to_one (suc n))
      ∙ one_of (list_any (eqb c) (up_to n)) (eqb c (suc n)) ms (next_is_new c n)
      ∙ ap (λ b. cond b ms []) (sym (has_behind (eqb c) (up_to n) (suc n ∷ [])))

-- what the changes of a record of client d are to one other
module _ (c d : ℕ) (txn : Txn) (es : List Entry) where
  -- the changes to client x
  abbrev changes_at : ℕ → List Sent
  changes_at x = cond (eqb x d) [] (changes_to x (sets_for x txn es))

  -- what the client is told
  abbrev pub told_of : List Down
  told_of = cond (eqb c d) [] (changes_down (sets_for c txn es))

  told_self : (b : Bool) → told_to c (cond b [] (changes_to c (sets_for c txn es))) ≡ cond b [] (changes_down (sets_for c txn es))
  told_self true = refl
  told_self false = told_changes c c (sets_for c txn es) ∙ if_true (eqb c c) (changes_down (sets_for c txn es)) [] (number_self c)

  told_others : (x : ℕ) (b : Bool) → eqb c x ≡ false → told_to c (cond b [] (changes_to x (sets_for x txn es))) ≡ []
  told_others x true other = refl
  told_others x false other = told_changes c x (sets_for x txn es) ∙ unless_true (eqb c x) (changes_down (sets_for x txn es)) [] other

  told_one : (x : ℕ) (b : Bool) → eqb c x ≡ b → told_to c (changes_at x) ≡ cond b told_of []
  told_one x true is = subst (λ n. told_to c (changes_at n) ≡ told_of) (same_number c x is) (told_self (eqb c d))
  told_one x false is = told_others x (eqb x d) is

  -- of those that go to all clients
  pub told_of_changes : (p : Settings) → told_to c (changes_of p d txn es) ≡ cond (list_any (eqb c) (clients_of p)) told_of []
  told_of_changes p = told_up_to c changes_at told_of (λ x. told_one x (eqb c x) refl) p.clients

-- whoever isn't a client of the cluster holds nothing
module _ (p : Settings) (next : ThreadId → List Event → Option Request) (c o : ℕ) (outside : list_any (eqb c) (clients_of p) ≡ false) where
  holds_by : (i : Input) (e : Entry) (es : List Entry) → ServerStepOn p i e es → (b : Bool) → b ≡ false → held_by c o i b ≡ false
  holds_by (input.TookUp d m) e es h b none = unless_true (eqb c d) _ b (outsider_other p c d h.its outside) ∙ none
  holds_by (input.Lose d) e es h b none = unless_true (eqb c d) false b (outsider_other p c d h.its outside) ∙ none
  holds_by other e es h b none = none

  holds_counted : (b : Bool) (e : Entry) (es : List Entry) → ServerStep p e es → holds_object c o (counted es) ≡ false → holds_object c o (cond b (counted es) (e ∷ counted es)) ≡ false
  holds_counted true e es h none = none
  holds_counted false e es h none = holds_by e.input e es h (holds_object c o (counted es)) none

  holds_at : (node : Node) (e : Entry) (es : List Entry) → NodeFollows p next node e es → holds_object c o (counted (entries_of Server es)) ≡ false
      → holds_object c o (counted (cond (is_node Server node) (e ∷ entries_of Server es) (entries_of Server es))) ≡ false
  holds_at Server e es h none = holds_counted (is_of_lost e.input (entries_of Server es)) e (entries_of Server es) h.step none
  holds_at (Client d) e es h none = none

  pub outsider_holds : (es : List Entry) → AllFollow p next es → holds_object c o (counted (entries_of Server es)) ≡ false
  outsider_holds [] h = refl
  outsider_holds (e ∷ es) h = holds_at e.node e es h.1.rule (outsider_holds es h.0)

-- nothing passes a test that always fails
none_pass : {X : Type 0} (test : X → Bool) (xs : List X) → ((x : X) → test x ≡ false) → filter test xs ≡ []
none_pass test [] h = refl
none_pass test (x ∷ xs) h = unless_true (test x) (x ∷ filter test xs) (filter test xs) (h x) ∙ none_pass test xs h

-- Of the sets of a record, those of objects that the client holds go to it, whether it is one of the cluster's or not.
pub told_if_client : (p : Settings) (next : ThreadId → List Event → Option Request) (c : ℕ) (sets : List Set) (es : List Entry) → AllFollow p next es
    → cond (list_any (eqb c) (clients_of p)) (changes_down (filter (λ set. holds_object c set.object (counted (entries_of Server es))) sets)) [] ≡ changes_down (filter (λ set. holds_object c set.object (counted (entries_of Server es))) sets)
told_if_client p next c sets es follow = by (list_any (eqb c) (clients_of p)) refl
  where
    by : (b : Bool) → list_any (eqb c) (clients_of p) ≡ b → cond b (changes_down (filter (λ set. holds_object c set.object (counted (entries_of Server es))) sets)) []
        ≡ changes_down (filter (λ set. holds_object c set.object (counted (entries_of Server es))) sets)
    by true e = refl
    by false e = sym (ap changes_down (none_pass (λ set. holds_object c set.object (counted (entries_of Server es))) sets (λ set. outsider_holds p next c set.object e es follow)))
