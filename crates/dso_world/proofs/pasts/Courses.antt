-- The course of a client's connection, by the counts of its breaks and rejoins.
use Rattle.std.proofs.Common.{ℕ, ◌≡◌, refl, Bool, true, false, cond, ltb, not, List}
use Rattle.dso_base.specs.declared.journal.Entry.{Entry}
use Rattle.dso_base.specs.declared.journal.Node.TheVariants.{Server, Client}
use Rattle.dso_law.specs.Settings.{Settings}
use Rattle.dso_law.specs.Channels.{breaks, count_inputs, is_broken, rejoins}
use Rattle.dso_law.specs.Entries.{entries_of}
use Rattle.dso_world.specs.LinkStands.{Course, Joined, Broken, Half}
use Rattle.dso_world.specs.PastOf.{course_of}

-- the course, by whether the connection is broken and how often it was taken up and broke
abbrev pub course_by : Bool → ℕ → ℕ → Course
course_by broken rejoined broke = cond broken (cond (not (ltb rejoined broke)) Half Broken) Joined

-- the connection is broken while its course isn't Joined
is_whole_by : (broken : Bool) (rejoined broke : ℕ) → course_by broken rejoined broke ≡ Joined → broken ≡ false
is_whole_by false rejoined broke is = refl
is_whole_by true rejoined broke is = by (ltb rejoined broke) is
  where
    by : (less : Bool) → cond (not less) Half Broken ≡ Joined → true ≡ false
    by true is = absurd (cc is)
    by false is = absurd (cc is)

pub is_broken_by : (broken : Bool) (rejoined broke : ℕ) → course_by broken rejoined broke ≡ Broken → (broken ≡ true) × (ltb rejoined broke ≡ true)
is_broken_by false rejoined broke is = absurd (cc is)
is_broken_by true rejoined broke is = (refl, by (ltb rejoined broke) is)
  where
    by : (less : Bool) → cond (not less) Half Broken ≡ Broken → less ≡ true
    by true is = refl
    by false is = absurd (cc is)

pub is_half_by : (broken : Bool) (rejoined broke : ℕ) → course_by broken rejoined broke ≡ Half → (broken ≡ true) × (ltb rejoined broke ≡ false)
is_half_by false rejoined broke is = absurd (cc is)
is_half_by true rejoined broke is = (refl, by (ltb rejoined broke) is)
  where
    by : (less : Bool) → cond (not less) Half Broken ≡ Half → less ≡ false
    by true is = absurd (cc is)
    by false is = refl

module _ (p : Settings) (c : ℕ) (es : List Entry) where
  abbrev broken_now : Bool
  broken_now = is_broken c (entries_of Server es)

  abbrev rejoined_now : ℕ
  rejoined_now = count_inputs (rejoins c) (entries_of (Client c) es)

  abbrev broke_now : ℕ
  broke_now = count_inputs (breaks c) (entries_of Server es)

  -- A connection is broken exactly where its course isn't Joined.
  pub whole_where_joined : course_of p c es ≡ Joined → is_broken c (entries_of Server es) ≡ false
  whole_where_joined is = is_whole_by broken_now rejoined_now broke_now is

  pub broken_where_broken : course_of p c es ≡ Broken → is_broken c (entries_of Server es) ≡ true
  broken_where_broken is = (is_broken_by broken_now rejoined_now broke_now is).0

  pub broken_where_half : course_of p c es ≡ Half → is_broken c (entries_of Server es) ≡ true
  broken_where_half is = (is_half_by broken_now rejoined_now broke_now is).0
