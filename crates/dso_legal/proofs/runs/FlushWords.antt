-- In a lawful journal an open block puts to a resident object where it sets a field of it.
use Rattle.std.specs.List.{list_any}
use Rattle.std.proofs.Common.{ℕ, ◌+◌, ◌≤◌, ◌≡◌, ◌⊎◌, inl, inr, refl, sym, ◌∙◌, ap, subst, Bool, true, false, cond, not, eqb, ◌&&◌, ◌||◌, is_some, Option, List, [], ◌∷◌, arith}
use Rattle.dso_base.specs.declared.journal.Entry.{Entry}
use Rattle.dso_base.specs.declared.journal.Node.TheVariants.{Client}
use Rattle.dso_base.specs.declared.lock.ThreadId.{ThreadId}
use Rattle.dso_base.specs.declared.record.Body.{Body}
use Rattle.dso_base.specs.declared.record.Set.{Set}
use Rattle.dso_base.specs.declared.request.Event.{Event}
use Rattle.dso_base.specs.declared.request.Event.TheVariants.{Act, Lost}
use Rattle.dso_base.specs.declared.request.Reply.{Reply}
use Rattle.dso_base.specs.declared.request.Reply.TheVariants.{Done, Made}
use Rattle.dso_base.specs.declared.request.Request.{Request}
use Rattle.dso_base.specs.declared.request.Request.TheVariants.{New, Put, Print, Notify, NotifyAll}
use Rattle.dso_base.specs.declared.shape.Shape.{Shape}
use Rattle.dso_base.specs.declared.value.Value.{Value}
use Rattle.dso_base.specs.Block.{Work, start, body_in, opening_body, with_value, is_same_field, is_field_before, insert_set, publish, put_shared, put, work_by, work_after, worked}
use Rattle.dso_plain.proofs.keys.SameKeys.{same_number}
use Rattle.dso_lookup.proofs.Tests.{both}
use Rattle.dso_law.specs.Settings.{Settings, threads_of}
use Rattle.dso_law.specs.Entries.{entries_of}
use Rattle.dso_law.specs.Threads.{open_block, privates_before, work_of}
use Rattle.dso_law.specs.Copies.{is_among, is_resident, residents}
use Rattle.dso_law.specs.Records.{unacked}
use Rattle.dso_law.specs.ClientStep.{changes_object, puts_to, event_puts_to, wants_object, is_flushable, is_full}
use Rattle.dso_law.proofs.client.HasBody.{found_among}
use Rattle.dso_law.proofs.runs.OwnRequests.{same_any}
use Rattle.dso_legal.specs.FlushWords.{is_free_to_flush, FlushWordsAgree}
use Rattle.dso_legal.specs.Lawful.{IsLawful}
use Rattle.dso_legal.specs.OwnObjects.{count_bodies, count_in_hand}
use Rattle.dso_legal.specs.Residency.{is_set}
use Rattle.dso_legal.proofs.leases.ClientLeases.{neither}
use Rattle.dso_legal.proofs.leases.LeaseSteps.{unless_true}
use Rattle.dso_legal.proofs.objects.BodyCounts.{count_put, count_there}
use Rattle.dso_legal.proofs.objects.SetsResident.{all_held}
use Rattle.dso_legal.proofs.runs.InHandAbsent.{in_hand_is_absent}

-- a sum of which a part is there
left_counts : (a b : ℕ) → 1 ≤ a → 1 ≤ a + b
left_counts a b le = omega (arith, le)

right_counts : (a b : ℕ) → 1 ≤ b → 1 ≤ a + b
right_counts a b le = omega (arith, le)

more_counts : (x a b : ℕ) → 1 ≤ a + b → 1 ≤ x + a + b
more_counts x a b le = omega (arith, le)

same_count : (a b : ℕ) → a ≡ b → 1 ≤ b → 1 ≤ a
same_count a b same le = omega (arith, same, le)

module _ (o : ℕ) where
  -- ---- what an open block does of the object

  -- it has it in hand, or sets a field of it
  abbrev Touched : Work → Type 0
  Touched work = (is_set o work.sets ≡ true) ⊎ (1 ≤ count_in_hand o work)

  -- a set in its place
  set_there : (set : Set) (sets : List Set) → eqb set.object o ≡ true → is_set o (insert_set set sets) ≡ true
  set_there set [] here = ap (λ b. b || false) here
  set_there set (first ∷ rest) here = by (is_same_field set first) (is_field_before set first) (set_there set rest here)
    where
      or_true : (b : Bool) → (b || true) ≡ true
      or_true true = refl
      or_true false = refl

      by : (same before : Bool) → is_set o (insert_set set rest) ≡ true → is_set o (cond same (set ∷ rest) (cond before (set ∷ first ∷ rest) (first ∷ insert_set set rest))) ≡ true
      by true before later = ap (λ b. b || is_set o rest) here
      by false true later = ap (λ b. b || is_set o (first ∷ rest)) here
      by false false later = ap (λ b. eqb first.object o || b) later ∙ or_true (eqb first.object o)

  -- leaves those that there are
  set_stays : (set : Set) (sets : List Set) → is_set o sets ≡ true → is_set o (insert_set set sets) ≡ true
  set_stays set [] is = absurd (cc is)
  set_stays set (first ∷ rest) is = by (is_same_field set first) (is_field_before set first) (λ same. sym (same_number set.object first.object (both (eqb set.object first.object) _ same).0)) (eqb first.object o) refl is (set_stays set rest)
    where
      or_true : (b : Bool) → (b || true) ≡ true
      or_true true = refl
      or_true false = refl

      behind : (b c : Bool) → c ≡ true → (b || c) ≡ true
      behind true c e = refl
      behind false c e = e

      by : (same before : Bool) → (same ≡ true → first.object ≡ set.object) → (here : Bool) → eqb first.object o ≡ here → (here || is_set o rest) ≡ true → (is_set o rest ≡ true → is_set o (insert_set set rest) ≡ true)
          → is_set o (cond same (set ∷ rest) (cond before (set ∷ first ∷ rest) (first ∷ insert_set set rest))) ≡ true
      by true before one true e f later = ap (λ b. b || is_set o rest) (ap (λ n. eqb n o) (sym (one refl)) ∙ e)
      by true before one false e f later = behind (eqb set.object o) (is_set o rest) f
      by false true one here e f later = behind (eqb set.object o) (is_set o (first ∷ rest)) (ap (λ b. b || is_set o rest) e ∙ f)
      by false false one true e f later = ap (λ b. b || is_set o (insert_set set rest)) e
      by false false one false e f later = ap (λ b. eqb first.object o || b) (later f) ∙ or_true (eqb first.object o)

  -- a put leaves the sets that there are
  put_stays : (x f : ℕ) (v : Value) (work : Work) → is_set o work.sets ≡ true → is_set o (put x f v work).sets ≡ true
  put_stays x f v work is = by (is_some (body_in x work.privates)) (is_some (body_in x work.news))
    where
      by : (own new : Bool) → is_set o (cond own (record work { privates = with_value x f v work.privates })
          (publish v (cond new (record work { news = with_value x f v work.news }) (record work { sets = insert_set (record { object = x; field = f; value = v }) work.sets })))).sets ≡ true
      by true new = is
      by false true = is
      by false false = set_stays (record { object = x; field = f; value = v }) work.sets is

  put_touched : (x f : ℕ) (v : Value) (work : Work) → Touched work → Touched (put x f v work)
  put_touched x f v work (inl set) = inl (put_stays x f v work set)
  put_touched x f v work (inr hand) = inr (same_count (count_in_hand o (put x f v work)) (count_in_hand o work) (count_put o x f v work) hand)

  made_touched : (body : Body) (work : Work) → Touched work → Touched (record work { privates = body ∷ work.privates })
  made_touched body work (inl set) = inl set
  made_touched body work (inr hand) = inr (more_counts (cond (eqb body.object o) 1 0) (count_bodies o work.privates) (count_bodies o work.news) hand)

  -- what an act makes of the work leaves it touched
  act_touched : (shape : Shape) (request : Request) (reply : Reply) (woken : Option ThreadId) (work : Work) → Touched work → Touched (work_by shape request reply woken work)
  act_touched shape (New class n) (Made x) woken work h = made_touched (opening_body shape class n x) work h
  act_touched shape (Put x f v) Done woken work h = put_touched x f v work h
  act_touched shape (Print v) Done woken work h = h
  act_touched shape (Notify l) Done woken work h = h
  act_touched shape (NotifyAll l) Done woken work h = h
  act_touched shape request reply woken work h = h

  event_touched : (shape : Shape) (event : Event) (work : Work) → Touched work → Touched (work_after shape event work)
  event_touched shape (Act t request reply woken) work h = act_touched shape request reply woken work h
  event_touched shape (Lost client) work h = h

  worked_touched : (shape : Shape) (events : List Event) (work : Work) → Touched work → Touched (worked shape events work)
  worked_touched shape [] work h = h
  worked_touched shape (event ∷ events) work h = worked_touched shape events (work_after shape event work) (event_touched shape event work h)

  -- a body that is found counts
  found_counts : (x : ℕ) (bodies : List Body) → eqb x o ≡ true → is_some (body_in x bodies) ≡ true → 1 ≤ count_bodies o bodies
  found_counts x bodies same there = count_there o bodies (ap (λ n. is_among n bodies) (sym (same_number x o same)) ∙ (sym (found_among x bodies) ∙ there))

  -- a put to the object touches it
  puts_touch : (x f : ℕ) (v : Value) (work : Work) → eqb x o ≡ true → Touched (put x f v work)
  puts_touch x f v work same = by (is_some (body_in x work.privates)) (is_some (body_in x work.news)) refl refl
    where
      set : Set
      set = record { object = x; field = f; value = v }

      by : (own new : Bool) → is_some (body_in x work.privates) ≡ own → is_some (body_in x work.news) ≡ new → Touched (put x f v work)
      by true new own_is new_is = put_touched x f v work (inr (left_counts (count_bodies o work.privates) (count_bodies o work.news) (found_counts x work.privates same own_is)))
      by false true own_is new_is = put_touched x f v work (inr (right_counts (count_bodies o work.privates) (count_bodies o work.news) (found_counts x work.news same new_is)))
      by false false own_is new_is = inl (
          ap (λ (w : Work). is_set o w.sets) (unless_true (is_some (body_in x work.privates)) (record work { privates = with_value x f v work.privates }) (publish v (put_shared x f v work)) own_is)
          ∙ ap (λ (w : Work). is_set o w.sets) (unless_true (is_some (body_in x work.news)) (record work { news = with_value x f v work.news }) (record work { sets = insert_set set work.sets }) new_is)
          ∙ set_there set work.sets same)

  act_touches : (shape : Shape) (request : Request) (reply : Reply) (woken : Option ThreadId) (work : Work) → puts_to o request reply ≡ true → Touched (work_by shape request reply woken work)
  act_touches shape (Put x f v) Done woken work puts = puts_touch x f v work puts
  act_touches shape request reply woken work puts = absurd (cc puts)

  event_touches : (shape : Shape) (event : Event) (work : Work) → event_puts_to o event ≡ true → Touched (work_after shape event work)
  event_touches shape (Act t request reply woken) work puts = act_touches shape request reply woken work puts
  event_touches shape (Lost client) work puts = absurd (cc puts)

  worked_touches : (shape : Shape) (events : List Event) (work : Work) → list_any (event_puts_to o) events ≡ true → Touched (worked shape events work)
  worked_touches shape [] work puts = absurd (cc puts)
  worked_touches shape (event ∷ events) work puts = by (event_puts_to o event) refl puts (worked_touches shape events (work_after shape event work))
    where
      by : (b : Bool) → event_puts_to o event ≡ b → (b || list_any (event_puts_to o) events) ≡ true → (list_any (event_puts_to o) events ≡ true → Touched (worked shape events (work_after shape event work)))
          → Touched (worked shape events (work_after shape event work))
      by true is puts later = worked_touched shape events (work_after shape event work) (event_touches shape event work is)
      by false is puts later = later puts

  -- ---- what is in hand is found there

  none_counted : (bodies : List Body) → is_among o bodies ≡ false → count_bodies o bodies ≡ 0
  none_counted [] h = refl
  none_counted (body ∷ bodies) h =
      let parts = neither (eqb body.object o) (is_among o bodies) h in
      let none_more : 0 + count_bodies o bodies ≡ count_bodies o bodies = omega arith in
      ap (λ b. cond b 1 0 + count_bodies o bodies) parts.0 ∙ none_more ∙ none_counted bodies parts.1

  in_hand_found : (work : Work) → 1 ≤ count_in_hand o work → (is_among o work.privates || is_among o work.news) ≡ true
  in_hand_found work hand = by (is_among o work.privates) (is_among o work.news) refl refl
    where
      none_there : (a b : ℕ) → a ≡ 0 → b ≡ 0 → 1 ≤ a + b → ⊥
      none_there a b e f le = omega (arith, e, f, le)

      by : (own new : Bool) → is_among o work.privates ≡ own → is_among o work.news ≡ new → (own || new) ≡ true
      by true new e f = refl
      by false true e f = refl
      by false false e f = absurd (none_there (count_bodies o work.privates) (count_bodies o work.news) (none_counted work.privates e) (none_counted work.news f) hand)

-- two tests that give each other are one
each_gives : (a b : Bool) → (a ≡ true → b ≡ true) → (b ≡ true → a ≡ true) → a ≡ b
each_gives true b to from = sym (to refl)
each_gives false true to from = from refl
each_gives false false to from = refl

module _ (p : Settings) (next : ThreadId → List Event → Option Request) (es : List Entry) (lawful : IsLawful p next es) (c : ℕ) where
  abbrev own : List Entry
  own = entries_of (Client c) es

  -- a resident object is in nobody's hand
  not_in_hand : (t : ThreadId) (o : ℕ) → eqb t.client c ≡ true → is_resident o own ≡ true → 1 ≤ count_in_hand o (work_of p.shape t own) → ⊥
  not_in_hand t o mine resident hand =
      let theirs : 1 ≤ count_in_hand o (work_of p.shape t (entries_of (Client t.client) es)) = subst (λ n. 1 ≤ count_in_hand o (work_of p.shape t (entries_of (Client n) es))) (sym (same_number t.client c mine)) hand in
      let absent = in_hand_is_absent p next es lawful t o (in_hand_found o (work_of p.shape t (entries_of (Client t.client) es)) theirs) c in
      cc (sym resident ∙ absent)

  -- so an open block puts to it where it sets a field of it
  block_agrees : (o : ℕ) → is_resident o own ≡ true → (t : ThreadId) → eqb t.client c ≡ true → is_set o (work_of p.shape t own).sets ≡ list_any (event_puts_to o) (open_block t own)
  block_agrees o resident t mine = each_gives (is_set o (work_of p.shape t own).sets) (list_any (event_puts_to o) (open_block t own)) (all_held o p c next es lawful.follow t).put_to
      (λ puts. by (worked_touches o p.shape (open_block t own) (start (privates_before p.shape t own)) puts))
    where
      by : Touched o (work_of p.shape t own) → is_set o (work_of p.shape t own).sets ≡ true
      by (inl set) = set
      by (inr hand) = absurd (not_in_hand t o mine resident hand)

  flushable : (o : ℕ) → is_free_to_flush p c o own ≡ is_flushable p c o own
  flushable o = by (is_resident o own) refl
    where
      by : (b : Bool) → is_resident o own ≡ b
          → (b && (not (list_any (changes_object o) (unacked own)) && (not (list_any (λ t. is_set o (work_of p.shape t own).sets) (threads_of p c)) && not (list_any (λ t. wants_object o t.index own) (threads_of p c)))))
          ≡ (b && (not (list_any (changes_object o) (unacked own)) && (not (list_any (λ t. list_any (event_puts_to o) (open_block t own)) (threads_of p c)) && not (list_any (λ t. wants_object o t.index own) (threads_of p c)))))
      by true is = ap (λ put. not (list_any (changes_object o) (unacked own)) && (not put && not (list_any (λ t. wants_object o t.index own) (threads_of p c))))
          (same_any c (λ t. is_set o (work_of p.shape t own).sets) (λ t. list_any (event_puts_to o) (open_block t own)) (block_agrees o is) p.threads)
      by false is = refl

-- In a lawful journal both words tell the same.
pub flush_words_agree : FlushWordsAgree
flush_words_agree p next es lawful c = record {
  flushable = flushable p next es lawful c;
  may = λ i. is_full p (entries_of (Client c) es) && list_any (λ o. flushable p next es lawful c o i) (residents (entries_of (Client c) es));
}
