-- Who holds a lock at Write holds it alone, after an entry and after an exit.
use Rattle.std.proofs.Common.{◌≡◌, ◌≢◌, ◌⊎◌, inl, inr, refl, sym, ◌∙◌, ap, subst, Bool, true, false, cond, is_some, Option, Some, None}
use Rattle.std.specs.Option.{option_map_or}
use Rattle.dso_base.specs.declared.lock.Level.{Level}
use Rattle.dso_base.specs.declared.lock.Level.TheVariants.{Read, Write}
use Rattle.dso_base.specs.declared.lock.LockName.{LockName}
use Rattle.dso_base.specs.declared.lock.ThreadId.{ThreadId}
use Rattle.dso_hold.specs.declared.held.Held.{Held}
use Rattle.dso_hold.specs.Holds.{is_place, with_hold, is_lower, excludes, NoConflict}
use Rattle.dso_hold.specs.HoldTables.{IsExclusive}
use Rattle.dso_hold.proofs.Places.{same_place, one_written}
use Rattle.dso_lookup.specs.Maps.{or_old}

-- the hold is there and at Write
is_writer : Option Held → Bool
is_writer held = option_map_or (excludes Read) held false

-- a writer is there
writer_there : (held : Option Held) → is_writer held ≡ true → is_some held ≡ true
unfolding is_writer
writer_there None e = absurd (cc e)
writer_there (Some h) e = refl

-- a writer excludes an entry at any level
writer_excludes : (level : Level) (held : Option Held) → is_writer held ≡ true → option_map_or (excludes level) held false ≡ true
unfolding is_writer
writer_excludes level None e = absurd (cc e)
writer_excludes Read (Some h) e = e
writer_excludes Write (Some h) e = refl

-- an entry at the level of a writer is excluded by any hold
excluded_writer : (h : Held) (held : Option Held) → excludes Read h ≡ true → is_some held ≡ true → option_map_or (excludes h.level) held false ≡ true
excluded_writer h None w e = absurd (cc e)
excluded_writer h (Some g) w e = by h.level w
  where
    by : (level : Level) → excludes Read (record h { level = level }) ≡ true → excludes level g ≡ true
    by Read w = absurd (cc w)
    by Write w = refl

-- what excludes an entry is there
excluder_there : (level : Level) (held : Option Held) → option_map_or (excludes level) held false ≡ true → is_some held ≡ true
excluder_there level None e = absurd (cc e)
excluder_there level (Some h) e = refl

-- where a level is no upgrade of a hold, the hold is at Write or the level is Read
writer_or_reader : (level : Level) (h : Held) → is_lower level h ≡ false → (excludes Read h ≡ true) ⊎ (level ≡ Read)
writer_or_reader Read h e = inr refl
writer_or_reader Write h e = inl (by h.level e)
  where
    by : (level : Level) → is_lower Write (record h { level = level }) ≡ false → excludes Read (record h { level = level }) ≡ true
    by Read e = absurd (cc e)
    by Write e = refl

-- what isn't there is no other's
differs : (t u : ThreadId) (holds : ThreadId → Option Held) → holds t ≡ None → is_some (holds u) ≡ true → u ≢ t
differs t u holds absent there same = absurd (cc (sym (ap (λ h. is_some h) absent) ∙ (ap (λ x. is_some (holds x)) (sym same) ∙ there)))

module _ (holds : LockName × ThreadId → Option Held) (alone : IsExclusive holds) (l : LockName) (t : ThreadId) where
  -- a thread enters that no other excludes
  pub exclusive_entered : (h : Held) → holds (l, t) ≡ None → NoConflict t l h.level holds → IsExclusive (with_hold l t (Some h) holds)
  unfolding is_writer
  exclusive_entered h absent none = record { alone = λ m a b. by m a b (is_place l t (m, a)) (is_place l t (m, b)) refl refl }
    where
      by : (m : LockName) (a b : ThreadId) (p q : Bool) → is_place l t (m, a) ≡ p → is_place l t (m, b) ≡ q
          → is_writer (or_old (cond p (Some (Some h)) None) (holds (m, a))) ≡ true → is_some (or_old (cond q (Some (Some h)) None) (holds (m, b))) ≡ true → b ≡ a
      by m a b true true e d w s = ap (λ key. key.1) (same_place l t (m, b) d) ∙ sym (ap (λ key. key.1) (same_place l t (m, a) e))
      by m a b true false e d w s =
          let at : m ≡ l = ap (λ key. key.0) (same_place l t (m, a) e) in
          let there : is_some (holds (l, b)) ≡ true = subst (λ k. is_some (holds (k, b)) ≡ true) at s in
          absurd (none b (record { other = differs t b (λ u. holds (l, u)) absent there; excludes = excluded_writer h (holds (l, b)) w there }))
      by m a b false true e d w s =
          let at : m ≡ l = ap (λ key. key.0) (same_place l t (m, b) d) in
          let writer : is_writer (holds (l, a)) ≡ true = subst (λ k. is_writer (holds (k, a)) ≡ true) at w in
          absurd (none a (record { other = differs t a (λ u. holds (l, u)) absent (writer_there (holds (l, a)) writer); excludes = writer_excludes h.level (holds (l, a)) writer }))
      by m a b false false e d w s = alone.alone m a b w s

  -- a hold goes on at its level, or is gone
  pub exclusive_changed : (held : Option Held) → (is_some held ≡ true → is_some (holds (l, t)) ≡ true) → (option_map_or (excludes Read) held false ≡ true → option_map_or (excludes Read) (holds (l, t)) false ≡ true) → IsExclusive (with_hold l t held holds)
  unfolding is_writer
  exclusive_changed held some writer = record {
    alone = λ m a b w s. alone.alone m a b
        (one_written (λ x. is_writer x ≡ true → is_writer (holds (m, a)) ≡ true) l t held holds (m, a) (λ e v. subst (λ key. is_writer (holds key) ≡ true) (sym e) (writer v)) (λ v. v) w)
        (one_written (λ x. is_some x ≡ true → is_some (holds (m, b)) ≡ true) l t held holds (m, b) (λ e v. subst (λ key. is_some (holds key) ≡ true) (sym e) (some v)) (λ v. v) s);
  }

  -- who is in already meets no conflict, at a level that is no upgrade
  pub no_conflict_within : (own : Held) (level : Level) → holds (l, t) ≡ Some own → is_lower level own ≡ false → NoConflict t l level holds
  unfolding is_writer
  no_conflict_within own level is fits u c = elim (writer_or_reader level own fits) [
    | inl w ↦ c.other (alone.alone l t u (ap (λ h. is_writer h) is ∙ w) (excluder_there level (holds (l, u)) c.excludes))
    | inr e ↦ c.other (sym (alone.alone l u t (subst (λ x. option_map_or (excludes x) (holds (l, u)) false ≡ true) e c.excludes) (ap (λ h. is_some h) is)))
  ]
