-- What marks tell of a file: one mark more, and the marks that were told so far.
use Rattle.std.proofs.Common.{◌≡◌, ℕ, zero, suc, ◌+◌, ◌<◌, ◌≤◌, List, [], ◌∷◌, ◌++◌, length, length-drop, take, drop, get_or, refl, sym, ◌∙◌, ap, subst, arith, take-append-drop}
use Rattle.std.proofs.lemmas.List.{append-nil, drop-append-le, drop-drop, drop_all, drop_more, take-append-le}
use Rattle.dso_keep.specs.Disk.{Change, Attached, Wrote, Synced, bytes_after}
use Rattle.dso_keep.specs.Tape.{AreWithin, BeginsWithin, change_told, changes_of, changes_on, count_in, count_of}
use Rattle.dso_keep.specs.declared.tape.Mark.{Mark}
use Rattle.dso_keep.specs.declared.tape.Mark.TheVariants as mark

-- ---- one mark more

pub count_more : (marks : List Mark) (m : Mark) → count_of (marks ++ m ∷ []) ≡ count_of marks + count_in m
count_more [] m = omega arith
count_more (next ∷ marks) m = omega (arith, count_more marks m)

-- a mark tells the same where more bytes stand behind its own
told_same : (now : List ℕ) (m : Mark) (written piece : List ℕ) → count_in m ≤ length written → change_told now m (written ++ piece) ≡ change_told now m written
told_same now (mark.Wrote at count) written piece le = ap (Wrote at) (take-append-le count written piece le)
told_same now mark.Attached written piece le = refl
told_same now mark.Synced written piece le = refl

module _ (first : List ℕ) (m : Mark) (piece : List ℕ) where
  pub changes_on-push : (done : List Change) (marks : List Mark) (written : List ℕ) → count_of marks ≡ length written
      → changes_on first done (marks ++ m ∷ []) (written ++ piece) ≡ change_told (bytes_after first (changes_on first done marks written)) m piece ∷ changes_on first done marks written
  changes_on-push done [] [] is = refl
  changes_on-push done [] (b ∷ written) is = absurd (omega (arith, is))
  changes_on-push done (next ∷ marks) written is =
      let own : count_in next ≤ length written = omega (arith, is) in
      let rest : count_of marks ≡ length (drop (count_in next) written) = omega (arith, is, length-drop (count_in next) written) in
      let now = bytes_after first done in
      ap (λ (ch : Change). changes_on first (ch ∷ done) (marks ++ m ∷ []) (drop (count_in next) (written ++ piece))) (told_same now next written piece own)
      ∙ ap (changes_on first (change_told now next written ∷ done) (marks ++ m ∷ [])) (drop-append-le (count_in next) written piece own)
      ∙ changes_on-push (change_told now next written ∷ done) marks (drop (count_in next) written) rest

module _ (first : List ℕ) (marks : List Mark) (written : List ℕ) (is : count_of marks ≡ length written) where
  with_mark : (m : Mark) → changes_of first (marks ++ m ∷ []) written ≡ change_told (bytes_after first (changes_of first marks written)) m [] ∷ changes_of first marks written
  with_mark m = ap (changes_of first (marks ++ m ∷ [])) (sym (append-nil written)) ∙ changes_on-push first m [] [] marks written is

  pub with_attached : changes_of first (marks ++ mark.Attached ∷ []) written ≡ Attached (bytes_after first (changes_of first marks written)) ∷ changes_of first marks written
  with_attached = with_mark mark.Attached

  pub with_synced : changes_of first (marks ++ mark.Synced ∷ []) written ≡ Synced ∷ changes_of first marks written
  with_synced = with_mark mark.Synced

  pub with_write : (at : ℕ) (piece : List ℕ) → changes_of first (marks ++ mark.Wrote at (length piece) ∷ []) (written ++ piece) ≡ Wrote at piece ∷ changes_of first marks written
  with_write at piece =
      changes_on-push first (mark.Wrote at (length piece)) piece [] marks written is
      ∙ ap (λ (bytes : List ℕ). Wrote at bytes ∷ changes_of first marks written) (take_whole piece)
    where
      take_whole : (xs : List ℕ) → take (length xs) xs ≡ xs
      take_whole [] = refl
      take_whole (x ∷ xs) = ap (λ (l : List ℕ). x ∷ l) (take_whole xs)

-- ---- the marks told so far

-- what was done before more marks is the end of what was done in all, which has one change more for each
pub told_before : (first : List ℕ) (done : List Change) (marks : List Mark) (written : List ℕ)
    → (later : List Change) × (changes_on first done marks written ≡ later ++ done) × (length later ≡ length marks)
told_before first done [] written = ([], refl, refl)
told_before first done (m ∷ marks) written =
    let one = change_told (bytes_after first done) m written in
    let rest = told_before first (one ∷ done) marks (drop (count_in m) written) in
    (rest.0 ++ one ∷ [], rest.1 ∙ behind rest.0 one done, longer rest.0 one ∙ ap suc rest.2)
  where
    behind : (later : List Change) (c : Change) (done : List Change) → later ++ c ∷ done ≡ (later ++ c ∷ []) ++ done
    behind [] c done = refl
    behind (x ∷ later) c done = ap (λ (l : List Change). x ∷ l) (behind later c done)

    longer : (later : List Change) (c : Change) → length (later ++ c ∷ []) ≡ suc (length later)
    longer [] c = refl
    longer (x ∷ later) c = ap suc (longer later c)

within_before : (first : List ℕ) (later done : List Change) → AreWithin first (later ++ done) → AreWithin first done
within_before first [] done within = within
within_before first (Wrote at bytes ∷ later) done within = within_before first later done within.1
within_before first (Attached bytes ∷ later) done within = within_before first later done within.1
within_before first (Synced ∷ later) done within = within_before first later done within

-- a change told begins within where what was done does
begins : (first : List ℕ) (m : Mark) (written : List ℕ) (done : List Change) → AreWithin first (change_told (bytes_after first done) m written ∷ done) → BeginsWithin (bytes_after first done) m
begins first (mark.Wrote at count) written done within = within.0
begins first mark.Attached written done within = tt
begins first mark.Synced written done within = tt

-- the bytes after a change told are those that it makes of the bytes before it
pub bytes_told : (first : List ℕ) (m : Mark) (written : List ℕ) (done : List Change)
    → bytes_after (bytes_after first done) (change_told (bytes_after first done) m written ∷ []) ≡ bytes_after first (change_told (bytes_after first done) m written ∷ done)
bytes_told first (mark.Wrote at count) written done = refl
bytes_told first mark.Attached written done = refl
bytes_told first mark.Synced written done = refl

-- what more marks tell stands on what the first of them tell
changes_on-append : (first : List ℕ) (done : List Change) (xs ys : List Mark) (written : List ℕ)
    → changes_on first done (xs ++ ys) written ≡ changes_on first (changes_on first done xs written) ys (drop (count_of xs) written)
changes_on-append first done [] ys written = refl
changes_on-append first done (m ∷ xs) ys written =
    let one = change_told (bytes_after first done) m written ∷ done in
    changes_on-append first one xs ys (drop (count_in m) written)
    ∙ ap (changes_on first (changes_on first one xs (drop (count_in m) written)) ys) (drop-drop (count_of xs) (count_in m) written)

-- the first marks tell the end of what was done, which has one change more for each of the others
pub told_first : (first : List ℕ) (marks : List Mark) (written : List ℕ) (count : ℕ)
    → (later : List Change) × (changes_of first marks written ≡ later ++ changes_of first (take count marks) written) × (length later ≡ length (drop count marks))
told_first first marks written count =
    let done = changes_of first (take count marks) written in
    let left = drop (count_of (take count marks)) written in
    let rest = told_before first done (drop count marks) left in (
      rest.0,
      ap (λ (ms : List Mark). changes_of first ms written) (sym (take-append-drop count marks)) ∙ changes_on-append first [] (take count marks) (drop count marks) written ∙ rest.1,
      rest.2,
    )

pub within_first : (first : List ℕ) (marks : List Mark) (written : List ℕ) (count : ℕ) → AreWithin first (changes_of first marks written) → AreWithin first (changes_of first (take count marks) written)
within_first first marks written count within =
    let told = told_first first marks written count in
    within_before first told.0 (changes_of first (take count marks) written) (subst (AreWithin first) told.1 within)

-- the first marks tell of no more bytes
pub count_of-take : (count : ℕ) (marks : List Mark) → count_of (take count marks) ≤ count_of marks
count_of-take zero marks = omega arith
count_of-take (suc count) [] = omega arith
count_of-take (suc count) (m ∷ marks) = omega (arith, count_of-take count marks)

-- The first marks were done again: so many, with so many of the bytes written.
pub record IsRepeated (first : List ℕ) (marks : List Mark) (written : List ℕ) (place used : ℕ) (bytes : List ℕ) : Type 0 where
  pub done : List Change
  pub now : bytes ≡ bytes_after first done
  pub rest : changes_on first done (drop place marks) (drop used written) ≡ changes_of first marks written
  pub own : used + count_of (drop place marks) ≤ length written

pub none_repeated : (first : List ℕ) (marks : List Mark) (written : List ℕ) → count_of marks ≤ length written → IsRepeated first marks written 0 0 first
none_repeated first marks written le = record { done = []; now = refl; rest = refl; own = omega (arith, le) }

-- once all were, the bytes are those that they make
pub all_repeated : (first : List ℕ) (marks : List Mark) (written : List ℕ) (place used : ℕ) (bytes : List ℕ) → IsRepeated first marks written place used bytes → length marks ≤ place
    → bytes ≡ bytes_after first (changes_of first marks written)
all_repeated first marks written place used bytes again all =
    let end : again.done ≡ changes_of first marks written =
    ap (λ (ms : List Mark). changes_on first again.done ms (drop used written)) (sym (drop_all place marks all)) ∙ again.rest in
    again.now ∙ ap (bytes_after first) end

module _ (first : List ℕ) (marks : List Mark) (written : List ℕ) (place used : ℕ) (bytes : List ℕ) (again : IsRepeated first marks written place used bytes) (less : place < length marks) (none : Mark) where
  abbrev next : Mark
  next = get_or marks place none

  here : drop place marks ≡ next ∷ drop (place + 1) marks
  here = drop_more marks place none less

  abbrev one : Change
  one = change_told (bytes_after first again.done) next (drop used written)

  goes_on : changes_on first (one ∷ again.done) (drop (place + 1) marks) (drop (count_in next) (drop used written)) ≡ changes_of first marks written
  goes_on = ap (λ (ms : List Mark). changes_on first again.done ms (drop used written)) (sym here) ∙ again.rest

  pub own_bytes : used + count_in next ≤ length written
  own_bytes = omega (arith, again.own, ap count_of here)

  pub begins_within : AreWithin first (changes_of first marks written) → BeginsWithin bytes next
  begins_within within =
      let whole = told_before first (one ∷ again.done) (drop (place + 1) marks) (drop (count_in next) (drop used written)) in
      let all : AreWithin first (whole.0 ++ one ∷ again.done) = subst (AreWithin first) (sym goes_on ∙ whole.1) within in
      subst (λ b. BeginsWithin b next) (sym again.now) (begins first next (drop used written) again.done (within_before first whole.0 (one ∷ again.done) all))

  pub one_repeated : (now : List ℕ) → now ≡ bytes_after bytes (change_told bytes next (drop used written) ∷ []) → IsRepeated first marks written (place + 1) (used + count_in next) now
  one_repeated now made = record {
    done = one ∷ again.done;
    now = made ∙ ap (λ (b : List ℕ). bytes_after b (change_told b next (drop used written) ∷ [])) again.now ∙ bytes_told first next (drop used written) again.done;
    rest = ap (changes_on first (one ∷ again.done) (drop (place + 1) marks)) (sym (drop-drop (count_in next) used written)) ∙ goes_on;
    own = omega (arith, again.own, ap count_of here);
  }
