-- What notifications make of where a thread stands: those of other locks nothing; and by none a thread comes to be kept or gone.
use Rattle.std.specs.List.{list_any}
use Rattle.std.proofs.Common.{◌≡◌, refl, sym, ◌∙◌, ap, subst, Bool, true, false, cond, ◌||◌, List, [], ◌∷◌, ◌++◌}
use Rattle.dso_base.specs.declared.lock.LockName.{LockName}
use Rattle.dso_base.specs.declared.lock.ThreadId.{ThreadId}
use Rattle.dso_base.specs.declared.record.Choice.{Choice}
use Rattle.dso_base.specs.declared.record.Choice.TheVariants.{Here, There, All}
use Rattle.dso_base.specs.declared.record.Note.{Note}
use Rattle.dso_base.specs.Following.{is_thread}
use Rattle.dso_plain.specs.KeyTests.{is_lock}
use Rattle.dso_legal.specs.Places.{Place, Away, Kept, Gone, place_chosen, place_noted, places_noted, MayChoose, MayNote}
use Rattle.dso_legal.proofs.leases.ClientLeases.{neither}
use Rattle.dso_legal.proofs.leases.LeaseSteps.{no_both}

-- one of the notifications is of the lock
abbrev pub names_lock : LockName → List Note → Bool
names_lock l notes = list_any (λ note. is_lock l note.lock) notes

-- so of two lists
pub names_none : (l : LockName) (xs ys : List Note) → names_lock l xs ≡ false → names_lock l ys ≡ false → names_lock l (xs ++ ys) ≡ false
names_none l [] ys none later = later
names_none l (note ∷ xs) ys none later =
    let both = neither (is_lock l note.lock) (names_lock l xs) none in
    ap (λ b. b || names_lock l (xs ++ ys)) both.0 ∙ names_none l xs ys both.1 later

module _ (l : LockName) (t : ThreadId) where
  -- those of other locks leave the thread where it stands,
  pub others_leave : (notes : List Note) (s : Place) → names_lock l notes ≡ false → places_noted l t notes s ≡ s
  others_leave [] s none = refl
  others_leave (note ∷ notes) s none =
      let both = neither (is_lock l note.lock) (names_lock l notes) none in
      ap (λ b. places_noted l t notes (cond b (place_chosen t note.choice s) s)) both.0 ∙ others_leave notes s both.1

  -- and may always come
  pub others_may : (notes : List Note) (s : Place) → names_lock l notes ≡ false → MayNote l t notes s
  others_may [] s none = tt
  others_may (note ∷ notes) s none =
      let both = neither (is_lock l note.lock) (names_lock l notes) none in
      ((λ same. no_both (is_lock l note.lock) same both.0), others_may notes (place_noted l t note s) both.1)

  -- who is in no list stays so
  away_chosen : (choice : Choice) → place_chosen t choice Away ≡ Away
  away_chosen (Here u) = by (is_thread t u)
    where
      by : (b : Bool) → cond b Away Away ≡ Away
      by true = refl
      by false = refl
  away_chosen There = refl
  away_chosen All = refl

  away_one : (note : Note) → place_noted l t note Away ≡ Away
  away_one note = by (is_lock l note.lock)
    where
      by : (b : Bool) → cond b (place_chosen t note.choice Away) Away ≡ Away
      by true = away_chosen note.choice
      by false = refl

  pub away_stays : (notes : List Note) → places_noted l t notes Away ≡ Away
  away_stays [] = refl
  away_stays (note ∷ notes) = ap (places_noted l t notes) (away_one note) ∙ away_stays notes

  -- by none a thread comes to be kept
  kept_chosen : (choice : Choice) (s : Place) → place_chosen t choice s ≡ Kept → s ≡ Kept
  kept_chosen (Here u) s = by (is_thread t u)
    where
      by : (b : Bool) → cond b Away s ≡ Kept → s ≡ Kept
      by true kept = absurd (cc kept)
      by false kept = kept
  kept_chosen There s = λ kept. kept
  kept_chosen All Away = λ kept. absurd (cc kept)
  kept_chosen All Kept = λ kept. refl
  kept_chosen All Gone = λ kept. absurd (cc kept)

  kept_one : (note : Note) (s : Place) (b : Bool) → cond b (place_chosen t note.choice s) s ≡ Kept → s ≡ Kept
  kept_one note s true kept = kept_chosen note.choice s kept
  kept_one note s false kept = kept

  pub kept_before : (notes : List Note) (s : Place) → places_noted l t notes s ≡ Kept → s ≡ Kept
  kept_before [] s kept = kept
  kept_before (note ∷ notes) s kept = kept_one note s (is_lock l note.lock) (kept_before notes (place_noted l t note s) kept)

  -- two lists of notifications
  pub noted_both : (xs ys : List Note) (s : Place) → places_noted l t (xs ++ ys) s ≡ places_noted l t ys (places_noted l t xs s)
  noted_both [] ys s = refl
  noted_both (note ∷ xs) ys s = noted_both xs ys (place_noted l t note s)

  pub may_both : (xs ys : List Note) (s : Place) → MayNote l t xs s → MayNote l t ys (places_noted l t xs s) → MayNote l t (xs ++ ys) s
  may_both [] ys s may later = later
  may_both (note ∷ xs) ys s may later = (may.0, may_both xs ys (place_noted l t note s) may.1 later)

  -- Those that leave the thread kept chose others: so they may come where it is in no list.
  other_chosen : (choice : Choice) → place_chosen t choice Kept ≡ Kept → MayChoose t choice Away
  other_chosen (Here u) kept = λ same. absurd (cc (sym (ap (λ b. cond b Away Kept) same) ∙ kept))
  other_chosen There kept = λ e. absurd (cc e)
  other_chosen All kept = tt

  pub away_may : (notes : List Note) → places_noted l t notes Kept ≡ Kept → MayNote l t notes Away
  away_may [] kept = tt
  away_may (note ∷ notes) kept =
      let still : place_noted l t note Kept ≡ Kept = kept_before notes (place_noted l t note Kept) kept in (
        (λ same. other_chosen note.choice (sym (ap (λ b. cond b (place_chosen t note.choice Kept) Kept) same) ∙ still)),
        subst (MayNote l t notes) (sym (away_one note)) (away_may notes (ap (places_noted l t notes) (sym still) ∙ kept)),
      )
