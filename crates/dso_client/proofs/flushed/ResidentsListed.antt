-- A resident object is among those that were ever resident, so an object that may be flushed is found among the residents.
use Rattle.std.specs.List.{list_any}
use Rattle.std.proofs.Common.{ℕ, ◌≡◌, refl, ◌∙◌, ap, Bool, true, false, cond, eqb, ◌&&◌, ◌||◌, List, [], ◌∷◌}
use Rattle.std.proofs.lemmas.Bool.{eqb-true}
use Rattle.dso_base.specs.declared.journal.Entry.{Entry}
use Rattle.dso_base.specs.declared.journal.Input.{Input}
use Rattle.dso_base.specs.declared.journal.Input.TheVariants as input
use Rattle.dso_base.specs.declared.journal.Sent.{Sent}
use Rattle.dso_base.specs.declared.journal.Sent.TheVariants.{ToServer, ToClient}
use Rattle.dso_base.specs.declared.message.Down.TheVariants as down
use Rattle.dso_base.specs.declared.message.Up.{Up}
use Rattle.dso_base.specs.declared.message.Up.TheVariants as up
use Rattle.dso_base.specs.declared.record.Body.{Body}
use Rattle.dso_law.specs.Settings.{Settings}
use Rattle.dso_law.specs.Entries.{by_taken_down, by_sent_up}
use Rattle.dso_law.specs.Copies.{is_among, is_resident, resident_by_taken, resident_by_sent, unless_flushed, insert_number, insert_objects, ever_resident, ever_resident_by_taken, ever_resident_by_sent, residents}
use Rattle.dso_law.specs.ClientStep.{MayFlush, is_flushable, may_flush}
use Rattle.dso_law.proofs.core.RisingNumbers.{among, among_more, among_some}
use Rattle.dso_lookup.proofs.Tests.{both}

module _ (o : ℕ) where
  -- one that comes, or was there, is listed
  more : (n : ℕ) (b : Bool) (xs : List ℕ) → (b ≡ true → among o xs ≡ true) → cond (eqb n o) true b ≡ true → among o (insert_number n xs) ≡ true
  more n b xs h is = among_more n o xs ∙ by (eqb n o) is
    where
      by : (here : Bool) → cond here true b ≡ true → cond here true (among o xs) ≡ true
      by true e = refl
      by false e = h e

  -- so is one of several
  news : (bodies : List Body) (b : Bool) (xs : List ℕ) → (b ≡ true → among o xs ≡ true) → cond (is_among o bodies) true b ≡ true → among o (insert_objects bodies xs) ≡ true
  news [] b xs h is = h is
  news (body ∷ bodies) b xs h is = news bodies (cond (eqb body.object o) true b) (insert_number body.object xs) (more body.object b xs h) (by (eqb body.object o) (is_among o bodies) is)
    where
      by : (here behind : Bool) → cond (here || behind) true b ≡ true → cond behind true (cond here true b) ≡ true
      by here true e = refl
      by true false e = refl
      by false false e = e

  taken : (i : Input) (b : Bool) (xs : List ℕ) → (b ≡ true → among o xs ≡ true) → by_taken_down (resident_by_taken o) i b ≡ true → among o (by_taken_down ever_resident_by_taken i xs) ≡ true
  taken (input.TookDown (down.Object body)) b xs h is = more body.object b xs h is
  taken (input.TookDown m) b xs h is = h is
  taken i b xs h is = h is

  said : (m : Up) (b : Bool) (xs : List ℕ) → (b ≡ true → among o xs ≡ true) → resident_by_sent o m b ≡ true → among o (ever_resident_by_sent m xs) ≡ true
  said (up.Commit txn) b xs h is = news txn.news b xs h is
  said m b xs h is = h is

  sent : (out : List Sent) (b : Bool) (xs : List ℕ) → (b ≡ true → among o xs ≡ true) → by_sent_up (resident_by_sent o) out b ≡ true → among o (by_sent_up ever_resident_by_sent out xs) ≡ true
  sent [] b xs h is = h is
  sent (ToServer m ∷ out) b xs h is = sent out (resident_by_sent o m b) (ever_resident_by_sent m xs) (said m b xs h) is
  sent (ToClient c m ∷ out) b xs h is = sent out b xs h is

  -- what is there after a flush was there before
  kept : (i : Input) (b : Bool) → unless_flushed o i b ≡ true → b ≡ true
  kept (input.Flush x) b is = by (eqb x o) is
    where
      by : (here : Bool) → cond here false b ≡ true → b ≡ true
      by true e = absurd (cc e)
      by false e = e
  kept i b is = is

  pub resident_listed : (es : List Entry) → is_resident o es ≡ true → among o (ever_resident es) ≡ true
  resident_listed [] is = absurd (cc is)
  resident_listed (e ∷ es) is = sent e.sent (by_taken_down (resident_by_taken o) e.input (is_resident o es)) (by_taken_down ever_resident_by_taken e.input (ever_resident es))
      (taken e.input (is_resident o es) (ever_resident es) (resident_listed es))
      (kept e.input (by_sent_up (resident_by_sent o) e.sent (by_taken_down (resident_by_taken o) e.input (is_resident o es))) is)

-- one of a list that passes
passes : (test : ℕ → Bool) (o : ℕ) (xs : List ℕ) → ((x : ℕ) → eqb x o ≡ true → test x ≡ true) → list_any (λ y. eqb y o) xs ≡ true → list_any test xs ≡ true
passes test o [] same there = absurd (cc there)
passes test o (x ∷ xs) same there = by (eqb x o) refl there (passes test o xs same)
  where
    by : (b : Bool) → eqb x o ≡ b → (b || list_any (λ y. eqb y o) xs) ≡ true → (list_any (λ y. eqb y o) xs ≡ true → list_any test xs ≡ true) → (test x || list_any test xs) ≡ true
    by true is e rest = ap (λ t. t || list_any test xs) (same x is)
    by false is e rest = or_right (test x) (list_any test xs) (rest e)
      where
        or_right : (a b : Bool) → b ≡ true → (a || b) ≡ true
        or_right true b e = refl
        or_right false b e = e

-- an object that may be flushed is one of the residents
pub may_flush_some : (p : Settings) (c o : ℕ) (es : List Entry) → MayFlush p c o es → may_flush p c es ≡ true
may_flush_some p c o es may =
    let resident : is_resident o es ≡ true = (both (is_resident o es) _ may.flushable).0 in
    let among_residents : among o (residents es) ≡ true = among_some (λ x. is_resident x es) o (ever_resident es) ∙ ap (λ t. t && among o (ever_resident es)) resident ∙ resident_listed o es resident in
    ap (λ t. t && list_any (λ x. is_flushable p c x es) (residents es)) may.full
    ∙ passes (λ x. is_flushable p c x es) o (residents es) (λ x same. ap (λ y. is_flushable p c y es) (eqb-true x o same) ∙ may.flushable) among_residents
