-- The images of a file in memory: what a crash may leave of it.
use Rattle.std.proofs.Common.{◌≡◌, ℕ, zero, suc, ◌+◌, ◌-◌, ◌≤◌, List, [], ◌∷◌, ◌++◌, length, length-append, length-drop, length-take-le, take, drop, refl, sym, ◌∙◌, ap, subst, arith, append_assoc, Result, Ok, Err, Vec, Global}
use Rattle.std.specs.Result.{IfOk}
use Rattle.std.proofs.lemmas.List.{drop_at, take_at}
use Rattle.dso_keep.specs.Disk.{Change, Attached, MayLeave, Torn, Wrote, Synced, bytes_after, with_bytes}
use Rattle.dso_keep.specs.Memory.{count_pending, image_of}
use Rattle.dso_keep.specs.Tape.{AreWithin, changes_of}
use Rattle.dso_keep.specs.declared.tape.Mark.{Mark}
use Rattle.dso_keep.proofs.recording.Marks.{told_first}

-- what all marks but those of the unkept writes make is the image
pub is_image : (first : List ℕ) (marks : List Mark) (written : List ℕ) (count kept : ℕ) → count ≡ length marks - (count_pending (changes_of first marks written) - kept)
    → count_pending (changes_of first marks written) ≤ length marks
    → bytes_after first (changes_of first (take count marks) written) ≡ image_of kept (record { first = first; changes = changes_of first marks written })
is_image first marks written count kept at few =
    let told = told_first first marks written count in
    let unkept = count_pending (changes_of first marks written) - kept in
    let left : length told.0 ≡ unkept = omega (arith, told.2, length-drop count marks, at, few) in
    ap (bytes_after first) (sym (ap (drop unkept) told.1 ∙ drop_at told.0 (changes_of first (take count marks) written) unkept left))

-- a whole write may be left
torn_whole : (at : ℕ) (bytes old : List ℕ) → at ≤ length old → Torn at (length bytes) old (with_bytes at bytes old)
torn_whole at bytes old le =
    let front : length (take at old) ≡ at = length-take-le at old le in
    let rest : List ℕ = drop (at + length bytes) old in
    let both : length (take at old ++ bytes) ≡ at + length bytes = omega (arith, front, length-append (take at old) bytes) in
    let whole : length (take at old ++ bytes ++ rest) ≡ at + length bytes + length rest = omega (arith, both, length-append (take at old ++ bytes) rest) in
    record {
      before = ap (take at) (append_assoc (take at old) bytes rest) ∙ take_at (take at old) (bytes ++ rest) at front;
      behind = drop_at (take at old ++ bytes) rest (at + length bytes) both;
      no_shorter = omega (arith, whole, length-drop (at + length bytes) old);
      no_longer = omega (arith, whole, length-drop (at + length bytes) old, le);
    }

-- so may nothing of a write
torn_none : (at count : ℕ) (old : List ℕ) → Torn at count old old
torn_none at count old = record { before = refl; behind = refl; no_shorter = omega arith; no_longer = omega arith }

-- all that was written
whole_left : (first : List ℕ) (changes : List Change) → AreWithin first changes → MayLeave first changes (bytes_after first changes)
whole_left first [] within = refl
whole_left first (Attached bytes ∷ changes) within = refl
whole_left first (Synced ∷ changes) within = refl
whole_left first (Wrote at bytes ∷ changes) within =
    (bytes_after first changes, whole_left first changes within.1, torn_whole at bytes (bytes_after first changes) within.0)

-- or all but the newest writes
pub image_left : (first : List ℕ) (changes : List Change) (unkept : ℕ) → unkept ≤ count_pending changes → AreWithin first changes → MayLeave first changes (bytes_after first (drop unkept changes))
image_left first changes zero few within = whole_left first changes within
image_left first [] (suc unkept) few within = absurd (omega (arith, few))
image_left first (Attached bytes ∷ changes) (suc unkept) few within = absurd (omega (arith, few))
image_left first (Synced ∷ changes) (suc unkept) few within = absurd (omega (arith, few))
image_left first (Wrote at bytes ∷ changes) (suc unkept) few within =
    let left = bytes_after first (drop unkept changes) in
    (left, image_left first changes unkept (omega (arith, few)) within.1, torn_none at (length bytes) left)

module _ (first : List ℕ) (marks : List Mark) (written : List ℕ) (count kept : ℕ) (at : count ≡ length marks - (count_pending (changes_of first marks written) - kept))
    (few : count_pending (changes_of first marks written) ≤ length marks) where
  abbrev pub Made : Vec ℕ Global → Type 0
  Made bytes = bytes.items ≡ bytes_after first (changes_of first (take count marks) written)

  -- what was made of the first marks is the image
  pub made_image : {E : Type 0} (result : Result (Vec ℕ Global) E) → IfOk result Made
      → IfOk result (λ bytes. bytes.items ≡ image_of kept (record { first = first; changes = changes_of first marks written }))
  made_image (Ok bytes) made = made ∙ is_image first marks written count kept at few
  made_image (Err fault) made = tt

  -- which a crash may leave
  pub made_left : {E : Type 0} (result : Result (Vec ℕ Global) E) → AreWithin first (changes_of first marks written) → IfOk result Made
      → IfOk result (λ bytes. MayLeave first (changes_of first marks written) bytes.items)
  made_left (Ok bytes) within made =
      subst (MayLeave first (changes_of first marks written)) (sym (made ∙ is_image first marks written count kept at few))
      (image_left first (changes_of first marks written) (count_pending (changes_of first marks written) - kept) (omega arith) within)
  made_left (Err fault) within made = tt

-- what is said of slices is said of the vectors that they are of
pub told_of : {E : Type 0} (first' first : List ℕ) (marks' marks : List Mark) (written' written : List ℕ) (count : ℕ) → first' ≡ first → marks' ≡ marks → written' ≡ written → (result : Result (Vec ℕ Global) E)
    → IfOk result (λ bytes. bytes.items ≡ bytes_after first' (changes_of first' (take count marks') written')) → IfOk result (λ bytes. bytes.items ≡ bytes_after first (changes_of first (take count marks) written))
told_of first' first marks' marks written' written count f m w (Ok bytes) is = is ∙ (λ i. bytes_after (f i) (changes_of (f i) (take count (m i)) (w i)))
told_of first' first marks' marks written' written count f m w (Err fault) is = tt
