-- All locks hear of a loss, one after the other.
use Rattle.slab.specs.Slab as slab
use Rattle.std.proofs.Common.{ℕ, ◌≡◌, refl, sym, ◌∙◌, ap, subst, Bool, true, false, cond, ◌||◌, Some, List, [], ◌∷◌, ◌++◌, flat_map, append_assoc}
use Rattle.std.proofs.Math.Path.{fun_ext}
use Rattle.std.proofs.lemmas.Grind.{flat_map-append}
use Rattle.std.proofs.lemmas.List.{append-nil}
use Rattle.std.specs.BTreeMap.{BTreeMap, keys}
use Rattle.std.specs.List.{AllByRecursion, list_any}
use Rattle.std.specs.List.Sorted.{IsStrictlySortedBy}
use Rattle.std.specs.Map.{keys_of}
use Rattle.dso_base.specs.declared.journal.Sent.{Sent}
use Rattle.dso_base.specs.declared.lock.LockName.{LockName}
use Rattle.dso_law.specs.Entries.{by_sent_down}
use Rattle.dso_law.specs.Settings.{Settings}
use Rattle.dso_locks.specs.declared.lock.Lock.{Lock}
use Rattle.dso_locks.specs.declared.told.Told.{Told}
use Rattle.dso_locks.specs.Locks.{LockState, unused, told_to, messages_of, IsWithin, serves, AllTold}
use Rattle.dso_locks.specs.LockRows.{placed_state, states_by, name_at}
use Rattle.dso_locks.proofs.Telling.{Changes}
use Rattle.dso_locks.proofs.Names.{none_found, none_before}
use Rattle.dso_lookup.specs.Maps.{look}
use Rattle.dso_lookup.specs.Orders.{lock_order}
use Rattle.dso_plain.specs.KeyTests.{is_lock}
use Rattle.dso_plain.proofs.keys.SameKeys.{same_lock}

-- one more lock in a list is found where it is or where it was
any_more : (l k : LockName) (done : List LockName) → list_any (is_lock l) (done ++ k ∷ []) ≡ (list_any (is_lock l) done || is_lock l k)
any_more l k [] = by (is_lock l k)
  where
    by : (b : Bool) → (b || false) ≡ b
    by true = refl
    by false = refl
any_more l k (first ∷ done) = by (is_lock l first) (any_more l k done)
  where
    by : (b : Bool) → list_any (is_lock l) (done ++ k ∷ []) ≡ (list_any (is_lock l) done || is_lock l k) → (b || list_any (is_lock l) (done ++ k ∷ [])) ≡ ((b || list_any (is_lock l) done) || is_lock l k)
    by true onward = refl
    by false onward = onward

-- a test or true is true, a test or false is the test
or_true : (a b : Bool) → b ≡ true → (a || b) ≡ true
or_true true b e = refl
or_true false b e = e

or_false : (a b : Bool) → b ≡ false → (a || b) ≡ a
or_false true b e = refl
or_false false b e = e

-- neither of two tests holds
neither : (a b : Bool) → (a || b) ≡ false → (a ≡ false) × (b ≡ false)
neither true b e = absurd (cc e)
neither false b e = (refl, e)

module _ (hears : LockState → LockState) (index : BTreeMap LockName ℕ) where
  -- Some locks heard of it and were served, and the rest of the table is as it was.
  pub record IsUnderWay (start now : slab.Slab Lock) (rest : List (LockName × ℕ)) (sent : List Sent) : Type 0 where
    pub done : List LockName
    pub whole : done ++ keys_of rest ≡ keys index
    pub found : AllByRecursion (λ e. look lock_order index e.0 ≡ Some e.1) rest
    pub names : (place : ℕ) → name_at now place ≡ name_at start place
    pub stands : (l : LockName) → by_sent_down (told_to l) sent (cond (list_any (is_lock l) done) (hears (states_by index start l)) (states_by index start l)) ≡ states_by index now l
    pub apart : (l : LockName) → list_any (is_lock l) done ≡ false → (s : LockState) → by_sent_down (told_to l) sent s ≡ s
    pub sends : (p : Settings) → ((l : LockName) → IsWithin p (hears (states_by index start l))) → sent ≡ flat_map (λ l. serves p l (hears (states_by index start l))) done

  -- it begins
  pub starts : (locks : slab.Slab Lock) → AllByRecursion (λ e. look lock_order index e.0 ≡ Some e.1) index.entries → IsUnderWay locks locks index.entries []
  starts locks found = record {
    done = [];
    whole = refl;
    found = found;
    names = λ place. refl;
    stands = λ l. refl;
    apart = λ l e s. refl;
    sends = λ p w. refl;
  }

  -- one lock more
  module _ (start now next : slab.Slab Lock) (k : LockName) (place : ℕ) (rest : List (LockName × ℕ)) (sent more : List Sent) (ordered : IsStrictlySortedBy lock_order (keys index)) (so_far : IsUnderWay start now ((k, place) ∷ rest) sent)
      (names : (other : ℕ) → name_at next other ≡ name_at now other) (changes : Changes k hears (states_by index now) (states_by index next) sent more) where
    not_done : list_any (is_lock k) so_far.done ≡ false
    not_done = none_before k so_far.done (keys_of rest) (subst (λ ks. IsStrictlySortedBy lock_order ks) (sym so_far.whole) ordered)

    -- it stands as it stood
    as_before : states_by index now k ≡ states_by index start k
    as_before = sym (so_far.stands k) ∙ (ap (λ b. by_sent_down (told_to k) sent (cond b (hears (states_by index start k)) (states_by index start k))) not_done ∙ so_far.apart k not_done (states_by index start k))

    pub goes_on : IsUnderWay start next rest more
    goes_on = record {
      done = so_far.done ++ k ∷ [];
      whole = append_assoc so_far.done (k ∷ []) (keys_of rest) ∙ so_far.whole;
      found = so_far.found.1;
      names = λ other. names other ∙ so_far.names other;
      stands = λ l. stands l (is_lock l k) refl;
      apart = λ l none s. apart l (neither (list_any (is_lock l) so_far.done) (is_lock l k) (sym (any_more l k so_far.done) ∙ none)) s;
      sends = λ p w. sends p w;
    }
      where
        stands : (l : LockName) (b : Bool) → is_lock l k ≡ b → by_sent_down (told_to l) more (cond (list_any (is_lock l) (so_far.done ++ k ∷ [])) (hears (states_by index start l)) (states_by index start l)) ≡ states_by index next l
        stands l true e =
            let its = changes.served.leaves (hears (states_by index start k)) (so_far.apart k not_done (hears (states_by index start k)) ∙ ap hears (sym as_before)) in
            ap (λ b. by_sent_down (told_to l) more (cond b (hears (states_by index start l)) (states_by index start l))) (any_more l k so_far.done ∙ or_true (list_any (is_lock l) so_far.done) (is_lock l k) e)
            ∙ subst (λ x. by_sent_down (told_to x) more (hears (states_by index start x)) ≡ states_by index next x) (same_lock l k e) its
        stands l false e =
            ap (λ b. by_sent_down (told_to l) more (cond b (hears (states_by index start l)) (states_by index start l))) (any_more l k so_far.done ∙ or_false (list_any (is_lock l) so_far.done) (is_lock l k) e)
            ∙ (changes.served.others l e (cond (list_any (is_lock l) so_far.done) (hears (states_by index start l)) (states_by index start l)) ∙ (so_far.stands l ∙ sym (changes.others l e)))

        apart : (l : LockName) → (list_any (is_lock l) so_far.done ≡ false) × (is_lock l k ≡ false) → (s : LockState) → by_sent_down (told_to l) more s ≡ s
        apart l h s = changes.served.others l h.1 s ∙ so_far.apart l h.0 s

        sends : (p : Settings) → ((l : LockName) → IsWithin p (hears (states_by index start l))) → more ≡ flat_map (λ l. serves p l (hears (states_by index start l))) (so_far.done ++ k ∷ [])
        sends p w =
            let it : serves p k (hears (states_by index now k)) ≡ serves p k (hears (states_by index start k)) ++ [] = ap (λ s. serves p k (hears s)) as_before ∙ sym (append-nil (serves p k (hears (states_by index start k)))) in
            changes.served.sends p (subst (λ s. IsWithin p (hears s)) (sym as_before) (w k))
            ∙ (ap (λ xs. xs ++ serves p k (hears (states_by index now k))) (so_far.sends p w)
            ∙ (ap (λ xs. flat_map (λ l. serves p l (hears (states_by index start l))) so_far.done ++ xs) it
            ∙ sym (flat_map-append (λ l. serves p l (hears (states_by index start l))) so_far.done (k ∷ []))))

  -- all are done
  pub ends : (start now : slab.Slab Lock) (all : List Told) → hears unused ≡ unused → IsUnderWay start now [] (messages_of all) → AllTold hears (keys index) (states_by index start) (states_by index now) all
  ends start now all stays so_far = record {
    sends = λ p w. subst (λ ks. messages_of all ≡ flat_map (λ l. serves p l (hears (states_by index start l))) ks) whole (so_far.sends p w);
    stands = fun_ext (λ l. stands l (list_any (is_lock l) so_far.done) refl (so_far.stands l));
  }
    where
      whole : so_far.done ≡ keys index
      whole = sym (append-nil so_far.done) ∙ so_far.whole

      stands : (l : LockName) (b : Bool) → list_any (is_lock l) so_far.done ≡ b → by_sent_down (told_to l) (messages_of all) (cond b (hears (states_by index start l)) (states_by index start l)) ≡ states_by index now l
          → states_by index now l ≡ by_sent_down (told_to l) (messages_of all) (hears (states_by index start l))
      stands l true e it = sym it
      stands l false e it =
          let none : states_by index start l ≡ unused = ap (λ found. placed_state start found) (none_found l index.entries (ap (λ ks. list_any (is_lock l) ks) (sym whole) ∙ e)) in
          sym it ∙ ap (λ s. by_sent_down (told_to l) (messages_of all) s) (none ∙ (sym stays ∙ ap hears (sym none)))
