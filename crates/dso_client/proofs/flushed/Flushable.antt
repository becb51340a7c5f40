-- Which objects may be flushed, by the table and by the client rule.
use Rattle.std.specs.List.{list_any}
use Rattle.std.proofs.Common.{◌≡◌, ℕ, refl, sym, ◌∙◌, ap, Bool, true, false, cond, not, eqb, ◌&&◌, ◌||◌, is_some, inl, inr, Option, Some, None, List, [], ◌∷◌, filter}
use Rattle.std.specs.Prelude.{ltb}
use Rattle.std.proofs.lemmas.Bool.{lt-ltb, ltb-true}
use Rattle.dso_base.specs.declared.lock.ThreadId.{ThreadId}
use Rattle.dso_base.specs.Following.{is_thread}
use Rattle.dso_plain.proofs.keys.SameKeys.{same_thread}
use Rattle.dso_lookup.specs.Search.{is_listed}
use Rattle.dso_lookup.proofs.Tests.{both}
use Rattle.dso_law.specs.Settings.{threads_of}
use Rattle.dso_law.specs.Threads.{open_block}
use Rattle.dso_law.specs.Copies.{is_resident, residents}
use Rattle.dso_law.specs.Records.{unacked}
use Rattle.dso_law.specs.ClientStep.{changes_object, event_puts_to, wants_object, is_flushable, is_full, may_flush, MayFlush}
use Rattle.dso_law.specs.UseOrder.{IsFlushVictim, IsOldestVictim, IsUnusedVictim}
use Rattle.dso_law.proofs.core.Bodies.{bodies_are_held}
use Rattle.dso_law.proofs.core.Counts.{residents_are_counted}
use Rattle.dso_law.proofs.core.Marks.{marks_tell}
use Rattle.dso_law.specs.ChangeMarks.{AcksInOrder}
use Rattle.dso_table.specs.declared.tables.ObjectTables.{ObjectTables}
use Rattle.dso_table.specs.States as states
use Rattle.dso_table.specs.ObjectTables.{state_in}
use Rattle.dso_table.specs.Victims.{IsFlushable, IsFull, IsLeastRecent, IsLeastUnused, IsVictim, NoVictim}
use Rattle.dso_client.specs.RunPoints.{RunPoint}
use Rattle.dso_client.specs.RunFacts.{RunFacts}
use Rattle.dso_client.specs.TableStands.{TableStands}

-- none of a list passes where each fails
none_of : {A : Type 0} (test : A → Bool) → ((x : A) → test x ≡ false) → (xs : List A) → list_any test xs ≡ false
none_of test fails [] = refl
none_of test fails (x ∷ xs) = ap (λ b. b || list_any test xs) (fails x) ∙ none_of test fails xs

-- nor of those that one test keeps, where no element passes both
none_kept : {A : Type 0} (kept test : A → Bool) → ((x : A) → (kept x && test x) ≡ false) → (xs : List A) → list_any test (filter kept xs) ≡ false
none_kept kept test fails [] = refl
none_kept {A} kept test fails (x ∷ xs) = by (kept x) (fails x) (none_kept kept test fails xs)
  where
    by : (b : Bool) → (b && test x) ≡ false → list_any test (filter kept xs) ≡ false → list_any test (cond b (x ∷ filter kept xs) (filter kept xs)) ≡ false
    by true e rest = ap (λ t. t || list_any test (filter kept xs)) e ∙ rest
    by false e rest = rest

-- where one of a list passes, there is one
pub any_one : {A : Type 0} (test : A → Bool) (xs : List A) → list_any test xs ≡ true → (x : A) × (test x ≡ true)
any_one test [] e = absurd (cc e)
any_one {A} test (x ∷ xs) e = by (test x) refl e (any_one test xs)
  where
    by : (b : Bool) → test x ≡ b → (b || list_any test xs) ≡ true → (list_any test xs ≡ true → (y : A) × (test y ≡ true)) → (y : A) × (test y ≡ true)
    by true is e rest = (x, is)
    by false is e rest = rest e

-- a thread of a list of which none passes doesn't pass
pub fails_too : (t : ThreadId) (test : ThreadId → Bool) (xs : List ThreadId) → list_any test xs ≡ false → list_any (is_thread t) xs ≡ true → test t ≡ false
fails_too t test [] none there = absurd (cc there)
fails_too t test (x ∷ xs) none there = by (is_thread t x) refl (test x) refl none there (fails_too t test xs)
  where
    by : (b : Bool) → is_thread t x ≡ b → (c : Bool) → test x ≡ c → (c || list_any test xs) ≡ false → (b || list_any (is_thread t) xs) ≡ true
        → (list_any test xs ≡ false → list_any (is_thread t) xs ≡ true → test t ≡ false) → test t ≡ false
    by b is true passes none there rest = absurd (cc none)
    by true is false passes none there rest = ap test (sym (same_thread t x is)) ∙ passes
    by false is false passes none there rest = rest none there

-- what isn't there has no mark
no_mark : (mark : Option ℕ) → is_some mark ≡ false → mark ≡ None
no_mark None e = refl
no_mark (Some n) e = absurd (cc e)

not_true : (b : Bool) → not b ≡ true → b ≡ false
not_true true e = absurd (cc e)
not_true false e = refl

-- four tests hold together
all_hold : (a b c d : Bool) → a ≡ true → b ≡ false → c ≡ false → d ≡ false → (a && (not b && (not c && not d))) ≡ true
all_hold true false false false h i j k = refl
all_hold true false false true h i j k = absurd (cc k)
all_hold true false true d h i j k = absurd (cc j)
all_hold true true c d h i j k = absurd (cc i)
all_hold false b c d h i j k = absurd (cc h)

module _ (at : RunPoint) (table : ObjectTables) (stands : TableStands at table) (facts : RunFacts at) (acks : AcksInOrder at.entries) where
  -- an object is resident in the table where the readings say so
  resident_as : (o : ℕ) → states.is_resident ((state_in table).standing o) ≡ is_resident o at.entries
  resident_as o = ap is_some (stands.bodies o) ∙ (bodies_are_held o at.entries).resident

  changed_as : (o : ℕ) → is_some ((state_in table).marks o) ≡ list_any (changes_object o) (unacked at.entries)
  changed_as o = ap is_some (stands.marks o) ∙ (marks_tell o at.entries acks).there

  full_as : ltb (state_in table).limit (state_in table).residents ≡ is_full at.settings at.entries
  full_as = ap (λ n. ltb n (state_in table).residents) stands.room ∙ ap (λ n. ltb at.settings.resident n) (stands.count ∙ (residents_are_counted at.entries).count)

  -- what the table lets go, the rule does
  pub may_go : (o : ℕ) → IsFlushable (state_in table) o → is_flushable at.settings at.client o at.entries ≡ true
  may_go o h = all_hold (is_resident o at.entries) (list_any (changes_object o) (unacked at.entries))
      (list_any (λ t. list_any (event_puts_to o) (open_block t at.entries)) (threads_of at.settings at.client))
      (list_any (λ t. wants_object o t.index at.entries) (threads_of at.settings at.client))
      (sym (resident_as o) ∙ h.resident)
      (sym (changed_as o) ∙ ap is_some h.unchanged)
      (none_of (λ t. list_any (event_puts_to o) (open_block t at.entries)) (λ t. sym (stands.opened t o) ∙ h.unopened t) (threads_of at.settings at.client))
      (none_kept (λ t. eqb t.client at.client) (λ t. wants_object o t.index at.entries) (λ t. sym (stands.wanted t o) ∙ h.unwanted t) at.settings.threads)

  pub may_flush_it : (o : ℕ) → IsFull (state_in table) → IsFlushable (state_in table) o → MayFlush at.settings at.client o at.entries
  may_flush_it o full h = record { full = sym full_as ∙ lt-ltb (state_in table).limit (state_in table).residents full; flushable = may_go o h }

  -- and what the rule lets go, the table does
  goes : (o : ℕ) → is_flushable at.settings at.client o at.entries ≡ true → IsFlushable (state_in table) o
  goes o h =
      let A = list_any (changes_object o) (unacked at.entries) in
      let B = list_any (λ t. list_any (event_puts_to o) (open_block t at.entries)) (threads_of at.settings at.client) in
      let C = list_any (λ t. wants_object o t.index at.entries) (threads_of at.settings at.client) in
      let one = both (is_resident o at.entries) (not A && (not B && not C)) h in
      let two = both (not A) (not B && not C) one.1 in
      let three = both (not B) (not C) two.1 in
      record {
        resident = resident_as o ∙ one.0;
        unchanged = no_mark ((state_in table).marks o) (changed_as o ∙ not_true A two.0);
        unopened = λ t. stands.opened t o ∙ unopened t (not_true B three.0) (list_any (is_thread t) (threads_of at.settings at.client)) refl;
        unwanted = λ t. stands.wanted t o ∙ unwanted t (not_true C three.1) (eqb t.client at.client) refl (list_any (is_thread t) (threads_of at.settings at.client)) refl;
      }
    where
      unopened : (t : ThreadId) → list_any (λ t. list_any (event_puts_to o) (open_block t at.entries)) (threads_of at.settings at.client) ≡ false
          → (b : Bool) → list_any (is_thread t) (threads_of at.settings at.client) ≡ b → list_any (event_puts_to o) (open_block t at.entries) ≡ false
      unopened t none true its = fails_too t (λ t. list_any (event_puts_to o) (open_block t at.entries)) (threads_of at.settings at.client) none its
      unopened t none false its = ap (list_any (event_puts_to o)) (facts.strangers t its)

      unwanted : (t : ThreadId) → list_any (λ t. wants_object o t.index at.entries) (threads_of at.settings at.client) ≡ false
          → (b : Bool) → eqb t.client at.client ≡ b → (c : Bool) → list_any (is_thread t) (threads_of at.settings at.client) ≡ c → (b && wants_object o t.index at.entries) ≡ false
      unwanted t none true mine true its = fails_too t (λ t. wants_object o t.index at.entries) (threads_of at.settings at.client) none its
      unwanted t none true mine false its = facts.unwanted t o its mine
      unwanted t none false mine c its = refl

  unused_as : (o : ℕ) → IsLeastUnused (state_in table) o → IsUnusedVictim at.settings at.client o at.entries
  unused_as o h = record {
    flushable = may_go o h.flushable;
    unused = ap (is_listed o) (sym stands.order) ∙ h.unused;
    least = λ x may free. h.least x (goes x may) (ap (is_listed x) stands.order ∙ free);
  }

  oldest_as : (o : ℕ) → IsLeastRecent (state_in table) o → IsOldestVictim at.settings at.client o at.entries
  oldest_as o h = record {
    flushable = may_go o h.flushable;
    all_used = λ x may. ap (is_listed x) (sym stands.order) ∙ h.all_used x (goes x may);
    later = h.later;
    earlier = h.earlier;
    stands = sym stands.order ∙ h.stands;
    last = λ x may. h.longest x (goes x may);
  }

  -- the table's victim is the one that the entries name
  pub victim_as : (o : ℕ) → IsVictim (state_in table) o → IsFlushVictim at.settings at.client at.entries o
  victim_as o h = record {
    full = sym full_as ∙ lt-ltb (state_in table).limit (state_in table).residents h.full;
    chosen = elim h.chosen [ inl first ↦ inl (unused_as o first) | inr last ↦ inr (oldest_as o last) ];
  }

  -- so where the table has no victim, the rule has no flush
  pub none_due : NoVictim (state_in table) → may_flush at.settings at.client at.entries ≡ false
  none_due none = by (may_flush at.settings at.client at.entries) refl
    where
      by : (b : Bool) → may_flush at.settings at.client at.entries ≡ b → b ≡ false
      by false e = refl
      by true e =
          let h = both (is_full at.settings at.entries) (list_any (λ o. is_flushable at.settings at.client o at.entries) (residents at.entries)) e in
          let one = any_one (λ o. is_flushable at.settings at.client o at.entries) (residents at.entries) h.1 in
          absurd (none one.0 (ltb-true (state_in table).limit (state_in table).residents (full_as ∙ h.0)) (goes one.0 one.1))
