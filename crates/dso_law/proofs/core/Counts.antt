-- The objects counted are those resident, each once.
use Rattle.std.proofs.Common.{ℕ, suc, ◌-◌, ◌≡◌, refl, sym, ◌∙◌, ap, Bool, true, false, cond, eqb, ◌||◌, ◌&&◌, List, [], ◌∷◌, fold, length}
use Rattle.dso_base.specs.declared.journal.Entry.{Entry}
use Rattle.dso_base.specs.declared.journal.Input.{Input}
use Rattle.dso_base.specs.declared.journal.Input.TheVariants as input
use Rattle.dso_base.specs.declared.journal.Sent.{Sent}
use Rattle.dso_base.specs.declared.journal.Sent.TheVariants.{ToServer, ToClient}
use Rattle.dso_base.specs.declared.message.Down.TheVariants as down
use Rattle.dso_base.specs.declared.message.Up.{Up}
use Rattle.dso_base.specs.declared.message.Up.TheVariants as up
use Rattle.dso_base.specs.declared.record.Body.{Body}
use Rattle.dso_law.specs.Entries.{by_taken_down, by_sent_up}
use Rattle.dso_law.specs.Copies.{is_among, is_resident, resident_by_taken, resident_by_sent, unless_flushed, insert_number, insert_objects, ever_resident, ever_resident_by_taken, ever_resident_by_sent, residents}
use Rattle.dso_law.specs.ResidentCount.{Presence, come, gone, presence, presence_by_taken, presence_by_sent, presence_by_flush}
use Rattle.dso_law.specs.CoreLaws.{ResidentsAreCounted}
use Rattle.dso_law.proofs.core.RisingNumbers.{among, Rising, rising_more, among_more, length_more, rising_some, among_some, but, among_but, length_but, same_numbers}

-- ---- the list of what is there

-- a flush takes its object out
abbrev list_by_flush : Input → List ℕ → List ℕ
list_by_flush (input.Flush o) xs = but o xs
list_by_flush i xs = xs

-- the objects that are there, rising
abbrev living : List Entry → List ℕ
living [] = []
living (e ∷ es) = list_by_flush e.input (by_sent_up ever_resident_by_sent e.sent (by_taken_down ever_resident_by_taken e.input (living es)))

-- a presence is that of a rising list
record IsOfList (s : Presence) (xs : List ℕ) : Type 0 where
  rise : Rising xs
  has : (o : ℕ) → s.has o ≡ among o xs
  count : s.count ≡ length xs

stands_come : (s : Presence) (xs : List ℕ) (o : ℕ) → IsOfList s xs → IsOfList (come s o) (insert_number o xs)
stands_come s xs o h = record {
  rise = rising_more o xs h.rise;
  has = λ x. ap (cond (eqb o x) true) (h.has x) ∙ sym (among_more o x xs);
  count = ap (λ n. cond (s.has o) n (suc n)) h.count ∙ ap (λ t. cond t (length xs) (suc (length xs))) (h.has o) ∙ sym (length_more o xs h.rise);
}

stands_gone : (s : Presence) (xs : List ℕ) (o : ℕ) → IsOfList s xs → IsOfList (gone s o) (but o xs)
stands_gone s xs o h = record {
  rise = rising_some _ xs h.rise;
  has = λ x. ap (cond (eqb o x) false) (h.has x) ∙ sym (among_but o x xs);
  count = ap (λ n. cond (s.has o) (n - 1) n) h.count ∙ ap (λ t. cond t (length xs - 1) (length xs)) (h.has o) ∙ sym (length_but o xs h.rise);
}

stands_news : (bodies : List Body) (s : Presence) (xs : List ℕ) → IsOfList s xs → IsOfList (fold (λ s body. come s body.object) s bodies) (insert_objects bodies xs)
stands_news [] s xs h = h
stands_news (body ∷ bodies) s xs h = stands_news bodies (come s body.object) (insert_number body.object xs) (stands_come s xs body.object h)

stands_taken : (i : Input) (s : Presence) (xs : List ℕ) → IsOfList s xs → IsOfList (by_taken_down presence_by_taken i s) (by_taken_down ever_resident_by_taken i xs)
stands_taken (input.TookDown (down.Object body)) s xs h = stands_come s xs body.object h
stands_taken (input.TookDown m) s xs h = h
stands_taken i s xs h = h

stands_said : (m : Up) (s : Presence) (xs : List ℕ) → IsOfList s xs → IsOfList (presence_by_sent m s) (ever_resident_by_sent m xs)
stands_said (up.Commit txn) s xs h = stands_news txn.news s xs h
stands_said m s xs h = h

stands_sent : (out : List Sent) (s : Presence) (xs : List ℕ) → IsOfList s xs → IsOfList (by_sent_up presence_by_sent out s) (by_sent_up ever_resident_by_sent out xs)
stands_sent [] s xs h = h
stands_sent (ToServer m ∷ out) s xs h = stands_sent out (presence_by_sent m s) (ever_resident_by_sent m xs) (stands_said m s xs h)
stands_sent (ToClient c m ∷ out) s xs h = stands_sent out s xs h

stands_flush : (i : Input) (s : Presence) (xs : List ℕ) → IsOfList s xs → IsOfList (presence_by_flush i s) (list_by_flush i xs)
stands_flush (input.Flush o) s xs h = stands_gone s xs o h
stands_flush i s xs h = h

stands : (es : List Entry) → IsOfList (presence es) (living es)
stands [] = record { rise = tt; has = λ o. refl; count = refl }
stands (e ∷ es) = stands_flush e.input (by_sent_up presence_by_sent e.sent (by_taken_down presence_by_taken e.input (presence es)))
    (by_sent_up ever_resident_by_sent e.sent (by_taken_down ever_resident_by_taken e.input (living es)))
    (stands_sent e.sent (by_taken_down presence_by_taken e.input (presence es)) (by_taken_down ever_resident_by_taken e.input (living es))
    (stands_taken e.input (presence es) (living es) (stands es)))

-- ---- what is there is resident

module _ (o : ℕ) where
  -- one of several comes, or was there
  first_or_behind : (here behind before : Bool) → cond behind true (cond here true before) ≡ cond (here || behind) true before
  first_or_behind true true before = refl
  first_or_behind true false before = refl
  first_or_behind false behind before = refl

  has_news : (bodies : List Body) (s : Presence) → (fold (λ s body. come s body.object) s bodies).has o ≡ cond (is_among o bodies) true (s.has o)
  has_news [] s = refl
  has_news (body ∷ bodies) s = has_news bodies (come s body.object) ∙ first_or_behind (eqb body.object o) (is_among o bodies) (s.has o)

  has_taken : (i : Input) (s : Presence) → (by_taken_down presence_by_taken i s).has o ≡ by_taken_down (resident_by_taken o) i (s.has o)
  has_taken (input.TookDown (down.Object body)) s = refl
  has_taken (input.TookDown m) s = refl
  has_taken i s = refl

  has_said : (m : Up) (s : Presence) → (presence_by_sent m s).has o ≡ resident_by_sent o m (s.has o)
  has_said (up.Commit txn) s = has_news txn.news s
  has_said m s = refl

  has_sent : (out : List Sent) (s : Presence) (b : Bool) → s.has o ≡ b → (by_sent_up presence_by_sent out s).has o ≡ by_sent_up (resident_by_sent o) out b
  has_sent [] s b h = h
  has_sent (ToServer m ∷ out) s b h = has_sent out (presence_by_sent m s) (resident_by_sent o m b) (has_said m s ∙ ap (resident_by_sent o m) h)
  has_sent (ToClient c m ∷ out) s b h = has_sent out s b h

  has_flush : (i : Input) (s : Presence) → (presence_by_flush i s).has o ≡ unless_flushed o i (s.has o)
  has_flush (input.Flush x) s = refl
  has_flush i s = refl

  has_so : (es : List Entry) → (presence es).has o ≡ is_resident o es
  has_so [] = refl
  has_so (e ∷ es) = has_flush e.input (by_sent_up presence_by_sent e.sent (by_taken_down presence_by_taken e.input (presence es)))
      ∙ ap (unless_flushed o e.input) (has_sent e.sent (by_taken_down presence_by_taken e.input (presence es)) (by_taken_down (resident_by_taken o) e.input (is_resident o es))
      (has_taken e.input (presence es) ∙ ap (by_taken_down (resident_by_taken o) e.input) (has_so es)))

-- ---- what is there was ever resident

-- the objects of the first list are among those of the second, which rises
record Within (xs ys : List ℕ) : Type 0 where
  rise : Rising ys
  part : (o : ℕ) → among o xs ≡ true → among o ys ≡ true

-- what holds under a test holds under one that it gives
under : (here a b : Bool) → (a ≡ true → b ≡ true) → cond here true a ≡ true → cond here true b ≡ true
under true a b h is = refl
under false a b h is = h is

within_more : (n : ℕ) (xs ys : List ℕ) → Within xs ys → Within (insert_number n xs) (insert_number n ys)
within_more n xs ys h = record { rise = rising_more n ys h.rise; part = λ o is. among_more n o ys ∙ under (eqb n o) (among o xs) (among o ys) (h.part o) (sym (among_more n o xs) ∙ is) }

within_news : (bodies : List Body) (xs ys : List ℕ) → Within xs ys → Within (insert_objects bodies xs) (insert_objects bodies ys)
within_news [] xs ys h = h
within_news (body ∷ bodies) xs ys h = within_news bodies (insert_number body.object xs) (insert_number body.object ys) (within_more body.object xs ys h)

within_taken : (i : Input) (xs ys : List ℕ) → Within xs ys → Within (by_taken_down ever_resident_by_taken i xs) (by_taken_down ever_resident_by_taken i ys)
within_taken (input.TookDown (down.Object body)) xs ys h = within_more body.object xs ys h
within_taken (input.TookDown m) xs ys h = h
within_taken i xs ys h = h

within_said : (m : Up) (xs ys : List ℕ) → Within xs ys → Within (ever_resident_by_sent m xs) (ever_resident_by_sent m ys)
within_said (up.Commit txn) xs ys h = within_news txn.news xs ys h
within_said m xs ys h = h

within_sent : (out : List Sent) (xs ys : List ℕ) → Within xs ys → Within (by_sent_up ever_resident_by_sent out xs) (by_sent_up ever_resident_by_sent out ys)
within_sent [] xs ys h = h
within_sent (ToServer m ∷ out) xs ys h = within_sent out (ever_resident_by_sent m xs) (ever_resident_by_sent m ys) (within_said m xs ys h)
within_sent (ToClient c m ∷ out) xs ys h = within_sent out xs ys h

-- where one of them goes
unless_gone : (here a : Bool) → cond here false a ≡ true → a ≡ true
unless_gone true a is = absurd (cc is)
unless_gone false a is = is

within_flush : (i : Input) (xs ys : List ℕ) → Within xs ys → Within (list_by_flush i xs) ys
within_flush (input.Flush x) xs ys h = record { rise = h.rise; part = λ o is. h.part o (unless_gone (eqb x o) (among o xs) (sym (among_but x o xs) ∙ is)) }
within_flush i xs ys h = h

within : (es : List Entry) → Within (living es) (ever_resident es)
within [] = record { rise = tt; part = λ o never. absurd (cc never) }
within (e ∷ es) = within_flush e.input (by_sent_up ever_resident_by_sent e.sent (by_taken_down ever_resident_by_taken e.input (living es))) (ever_resident (e ∷ es))
    (within_sent e.sent (by_taken_down ever_resident_by_taken e.input (living es)) (by_taken_down ever_resident_by_taken e.input (ever_resident es))
    (within_taken e.input (living es) (ever_resident es) (within es)))

-- ---- so the two lists are one

-- a test that gives another one is told by both
both : (a b : Bool) → (a ≡ true → b ≡ true) → a ≡ (a && b)
both true b h = sym (h refl)
both false b h = refl

living_residents : (es : List Entry) → living es ≡ residents es
living_residents es = same_numbers (living es) (residents es) (stands es).rise (rising_some _ (ever_resident es) (within es).rise) (λ o. by o)
  where
    by : (o : ℕ) → among o (living es) ≡ among o (residents es)
    by o = both (among o (living es)) (among o (ever_resident es)) ((within es).part o)
        ∙ ap (λ t. t && among o (ever_resident es)) (sym ((stands es).has o) ∙ has_so o es) ∙ sym (among_some (λ o. is_resident o es) o (ever_resident es))

-- Whatever the entries are, the objects counted are those resident.
pub residents_are_counted : ResidentsAreCounted
residents_are_counted es = record { has = λ o. has_so o es; count = (stands es).count ∙ ap length (living_residents es) }
