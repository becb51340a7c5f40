-- A client's new objects have ids that rise: its batches rise, and it makes an object only with its next id.
use Rattle.std.specs.List.{AllByRecursion}
use Rattle.std.proofs.Common.{ℕ, suc, ◌+◌, ◌-◌, ◌<◌, ◌≤◌, ◌≡◌, refl, sym, ap, subst, Bool, true, false, cond, eqb, ltb, Option, Some, None, List, [], ◌∷◌, ◌++◌, length, arith}
use Rattle.std.proofs.lemmas.Bool.Decides.{nat_tests}
use Rattle.dso_base.specs.declared.journal.Entry.{Entry}
use Rattle.dso_base.specs.declared.journal.Input.{Input}
use Rattle.dso_base.specs.declared.journal.Input.TheVariants as input
use Rattle.dso_base.specs.declared.journal.Node.{Node}
use Rattle.dso_base.specs.declared.journal.Node.TheVariants.{Server, Client}
use Rattle.dso_base.specs.declared.lock.ThreadId.{ThreadId}
use Rattle.dso_base.specs.declared.message.Down.{Down}
use Rattle.dso_base.specs.declared.message.Down.TheVariants as down
use Rattle.dso_base.specs.declared.request.Event.{Event}
use Rattle.dso_base.specs.declared.request.Event.TheVariants.{Act, Lost}
use Rattle.dso_base.specs.declared.request.Reply.{Reply}
use Rattle.dso_base.specs.declared.request.Reply.TheVariants.{Made}
use Rattle.dso_base.specs.declared.request.Request.{Request}
use Rattle.dso_plain.proofs.keys.SameKeys.{same_number}
use Rattle.dso_law.specs.Settings.{Settings, batch_size}
use Rattle.dso_law.specs.Entries.{entries_of, by_taken_down, by_event}
use Rattle.dso_law.specs.Records.{batches_by_taken, batches, made_by_reply, made_by, made, id_at}
use Rattle.dso_law.specs.RequestNeeds.{Need, unmet}
use Rattle.dso_law.specs.Replies.{reply_of}
use Rattle.dso_law.specs.FitsDown.{FitsDown}
use Rattle.dso_law.specs.ClientStep.{DoesOrAsks, ActsOn, ClientStepOn}
pub use Rattle.dso_law.proofs.runs.MakesNext.{IsNew, only_new, makes_next}
use Rattle.dso_legal.specs.Lawful.{next_after, ClientFollows, NodeFollows, AllFollow}
use Rattle.dso_legal.specs.MadeOnce.{objects_by_reply, objects_by, objects_made, Falls, IdsRise}
use Rattle.dso_legal.proofs.records.BothEnds.{client_with}

-- a test that can't hold fails
pub fails : (b : Bool) → (b ≡ true → ⊥) → b ≡ false
fails true never = absurd (never refl)
fails false never = refl

-- each batch begins above the ids of those before it
abbrev pub BatchesRise : List ℕ → Type 0
BatchesRise [] = Unit {0}
BatchesRise (b ∷ firsts) = AllByRecursion (λ later. b + batch_size ≤ later) firsts × BatchesRise firsts

-- a claim for each, and for one more
each_with : (P : ℕ → Type 0) (xs : List ℕ) (x : ℕ) → AllByRecursion P xs → P x → AllByRecursion P (xs ++ x ∷ [])
each_with P [] x h px = (px, tt)
each_with P (y ∷ xs) x h px = (h.0, each_with P xs x h.1 px)

rise_with : (firsts : List ℕ) (first : ℕ) → BatchesRise firsts → AllByRecursion (λ b. b + batch_size ≤ first) firsts → BatchesRise (firsts ++ first ∷ [])
rise_with [] first h g = (tt, tt)
rise_with (b ∷ firsts) first h g = (each_with (λ later. b + batch_size ≤ later) firsts first h.0 g.0, rise_with firsts first h.1 g.1)

-- an id in order is above what all the batches are above
over : (low first n o : ℕ) → low ≤ first → first + n ≡ o → low ≤ o
over low first n o lt e = omega (arith, lt, e)

id_above : (low : ℕ) (firsts : List ℕ) (n o : ℕ) → AllByRecursion (λ later. low ≤ later) firsts → id_at firsts n ≡ Some o → low ≤ o
id_above low [] n o h e = absurd (cc e)
id_above low (first ∷ rest) n o h e = by (ltb n 256) e (id_above low rest (n - 256) o h.1)
  where
    by : (b : Bool) → cond b (Some (first + n)) (id_at rest (n - 256)) ≡ Some o → (id_at rest (n - 256) ≡ Some o → low ≤ o) → low ≤ o
    by true f later = over low first n o h.0 (cc f)
    by false f later = later f

-- two ids of one batch
in_one : (first j k a b : ℕ) → j < k → first + j ≡ a → first + k ≡ b → a < b
in_one first j k a b lt e f = omega (arith, lt, e, f)

-- an id of a batch, and one above it
in_two : (first j a b : ℕ) → ltb j 256 ≡ true → first + j ≡ a → first + 256 ≤ b → a < b
in_two first j a b t e lt = let less : j < 256 = grind (arith, nat_tests) in omega (arith, less, e, lt)

-- the lesser number is of no later batch
turned : (j k : ℕ) → j < k → ltb j 256 ≡ false → ltb k 256 ≡ true → ⊥
turned j k lt s t =
    let less : k < 256 = grind (arith, nat_tests) in
    let most : 256 ≤ j = grind (arith, nat_tests) in
    omega (arith, lt, less, most)

-- both are of later ones
further : (j k : ℕ) → j < k → ltb j 256 ≡ false → j - 256 < k - 256
further j k lt s = let most : 256 ≤ j = grind (arith, nat_tests) in omega (arith, lt, most)

-- where batches rise, ids rise with their numbers
ids_rise : (firsts : List ℕ) → BatchesRise firsts → (j k a b : ℕ) → j < k → id_at firsts j ≡ Some a → id_at firsts k ≡ Some b → a < b
ids_rise [] h j k a b lt e f = absurd (cc e)
ids_rise (first ∷ rest) h j k a b lt e f = by (ltb j 256) (ltb k 256) refl refl e f (ids_rise rest h.1 (j - 256) (k - 256) a b)
  where
    by : (s t : Bool) → ltb j 256 ≡ s → ltb k 256 ≡ t → cond s (Some (first + j)) (id_at rest (j - 256)) ≡ Some a → cond t (Some (first + k)) (id_at rest (k - 256)) ≡ Some b
        → (j - 256 < k - 256 → id_at rest (j - 256) ≡ Some a → id_at rest (k - 256) ≡ Some b → a < b) → a < b
    by true true x y g i later = in_one first j k a b lt (cc g) (cc i)
    by true false x y g i later = in_two first j a b x (cc g) (id_above (first + 256) rest (k - 256) b h.0 i)
    by false true x y g i later = absurd (turned j k lt x y)
    by false false x y g i later = later (further j k lt x) g i

-- an id in order stays where one more batch comes
id_stays : (firsts : List ℕ) (first n o : ℕ) → id_at firsts n ≡ Some o → id_at (firsts ++ first ∷ []) n ≡ Some o
id_stays [] first n o e = absurd (cc e)
id_stays (b ∷ firsts) first n o e = by (ltb n 256) e (id_stays firsts first (n - 256) o)
  where
    by : (t : Bool) → cond t (Some (b + n)) (id_at firsts (n - 256)) ≡ Some o → (id_at firsts (n - 256) ≡ Some o → id_at (firsts ++ first ∷ []) (n - 256) ≡ Some o)
        → cond t (Some (b + n)) (id_at (firsts ++ first ∷ []) (n - 256)) ≡ Some o
    by true f later = f
    by false f later = later f

-- each object has the id whose number tells how many were made before it
abbrev pub AtPlaces : List ℕ → List ℕ → Type 0
AtPlaces firsts [] = Unit {0}
AtPlaces firsts (o ∷ objects) = (id_at firsts (length objects) ≡ Some o) × AtPlaces firsts objects

places_stay : (firsts objects : List ℕ) (first : ℕ) → AtPlaces firsts objects → AtPlaces (firsts ++ first ∷ []) objects
places_stay firsts [] first h = tt
places_stay firsts (o ∷ objects) first h = (id_stays firsts first (length objects) o h.0, places_stay firsts objects first h.1)

-- the batches that a client took, and the objects that it made
pub record InOrder (firsts objects : List ℕ) : Type 0 where
  pub rise : BatchesRise firsts
  pub places : AtPlaces firsts objects

less_by_one : (m n : ℕ) → suc m ≤ n → m < n
less_by_one m n le = omega (arith, le)

most_by_one : (m n : ℕ) → suc m ≤ n → m ≤ n
most_by_one m n le = omega (arith, le)

at_most_itself : (n : ℕ) → n ≤ n
at_most_itself n = omega arith

-- a later id is above all objects made
all_below : (firsts : List ℕ) → BatchesRise firsts → (objects : List ℕ) → AtPlaces firsts objects → (n o : ℕ) → length objects ≤ n → id_at firsts n ≡ Some o → AllByRecursion (λ m. m < o) objects
all_below firsts rise [] places n o le e = tt
all_below firsts rise (x ∷ objects) places n o le e =
    (ids_rise firsts rise (length objects) n x o (less_by_one (length objects) n le) places.0 e, all_below firsts rise objects places.1 n o (most_by_one (length objects) n le) e)

falls : (firsts : List ℕ) → BatchesRise firsts → (objects : List ℕ) → AtPlaces firsts objects → Falls objects
falls firsts rise [] places = tt
falls firsts rise (o ∷ objects) places = (all_below firsts rise objects places.1 (length objects) o (at_most_itself (length objects)) places.0, falls firsts rise objects places.1)

-- as many were made as are listed
count_reply : (reply : Reply) (n : ℕ) (objects : List ℕ) → n ≡ length objects → made_by_reply reply n ≡ length (objects_by_reply reply objects)
count_reply (Made o) n objects e = ap suc e
count_reply reply n objects e = e

count_by : (event : Option Event) (n : ℕ) (objects : List ℕ) → n ≡ length objects → by_event made_by event n ≡ length (by_event objects_by event objects)
count_by None n objects e = e
count_by (Some (Act t request reply woken)) n objects e = count_reply reply n objects e
count_by (Some (Lost client)) n objects e = e

pub count_made : (es : List Entry) → made es ≡ length (objects_made es)
count_made [] = refl
count_made (e ∷ es) = count_by e.event (made es) (objects_made es) (count_made es)

-- the ids of a client rise
pub rises : (es : List Entry) → InOrder (batches es) (objects_made es) → IdsRise es
rises es h = record {
  made = falls (batches es) h.rise (objects_made es) h.places;
  next = λ o e. all_below (batches es) h.rise (objects_made es) h.places (length (objects_made es)) o (at_most_itself (length (objects_made es)))
      (subst (λ n. id_at (batches es) n ≡ Some o) (count_made es) e);
}

module _ (p : Settings) (c : ℕ) (before after_it : ThreadId → Option Request) (e : Entry) (es : List Entry) where
  -- one more batch, or none
  taken : (m : Down) → FitsDown p c m es → InOrder (batches es) (objects_made es) → InOrder (batches_by_taken m (batches es)) (objects_made es)
  taken (down.Ids first) fits h = record { rise = rise_with (batches es) first h.rise fits.new; places = places_stay (batches es) (objects_made es) first h.places }
  taken m fits h = h

  -- no event, no object
  no_event : (firsts : List ℕ) → e.event ≡ None → InOrder firsts (objects_made es) → InOrder firsts (by_event objects_by e.event (objects_made es))
  no_event firsts none h = subst (λ event. InOrder firsts (by_event objects_by event (objects_made es))) (sym none) h

  replied : (t : ThreadId) (request : Request) (reply : Reply) → reply_of p t request es ≡ Some reply → InOrder (batches es) (objects_made es) → InOrder (batches es) (objects_by_reply reply (objects_made es))
  replied t request (Made o) answered h = record {
    rise = h.rise;
    places = (subst (λ n. id_at (batches es) n ≡ Some o) (count_made es) (makes_next p t request es o answered), h.places);
  }
  replied t request reply answered h = h

  does_or_asks : (t : ThreadId) (request : Request) (need : Option Need) → DoesOrAsks p c t request need before after_it e es → InOrder (batches es) (objects_made es) → InOrder (batches es) (objects_made (e ∷ es))
  does_or_asks t request None does h = subst (λ event. InOrder (batches es) (by_event objects_by event (objects_made es))) (sym does.event) (replied t request does.reply does.answered h)
  does_or_asks t request (Some need) asks h = no_event (batches es) asks.event h

  acts : (t : ThreadId) (request : Option Request) → ActsOn p c t request before after_it e es → InOrder (batches es) (objects_made es) → InOrder (batches es) (objects_made (e ∷ es))
  acts t None step h = absurd step
  acts t (Some request) step h = does_or_asks t request (unmet p c before t request es) step h

  pub steps : (i : Input) → ClientStepOn p c i before after_it e es → InOrder (batches es) (objects_made es) → InOrder (by_taken_down batches_by_taken i (batches es)) (objects_made (e ∷ es))
  steps (input.Act index) step h = acts (record { client = c; index = index }) (before (record { client = c; index = index })) step.acts h
  steps (input.TookDown m) step h = no_event (batches_by_taken m (batches es)) step.event (taken m step.fits h)
  steps (input.Flush o) step h = no_event (batches es) step.event h
  steps (input.Rejoin d) step h = no_event (batches es) step.event h
  steps other step h = absurd step

module _ (p : Settings) (next : ThreadId → List Event → Option Request) (c : ℕ) where
  -- by the client's entries
  abbrev OwnInOrder : List Entry → Type 0
  OwnInOrder es = InOrder (batches es) (objects_made es)

  order_at : (node : Node) (e : Entry) (es : List Entry) → NodeFollows p next node e es → OwnInOrder (entries_of (Client c) es) → OwnInOrder (client_with c node e es)
  order_at Server e es follows h = h
  order_at (Client d) e es follows h = by (eqb c d) refl
    where
      by : (b : Bool) → eqb c d ≡ b → OwnInOrder (cond b (e ∷ entries_of (Client c) es) (entries_of (Client c) es))
      by true is =
          let mine : ClientFollows p next c e es = subst (λ n. ClientFollows p next n e es) (sym (same_number c d is)) follows in
          steps p c (next_after next es) (next_after next (e ∷ es)) e (entries_of (Client c) es) e.input mine.step h
      by false is = h

  -- over a whole journal
  pub in_order : (es : List Entry) → AllFollow p next es → OwnInOrder (entries_of (Client c) es)
  in_order [] follow = record { rise = tt; places = tt }
  in_order (e ∷ es) follow = order_at e.node e es follow.1.rule (in_order es follow.0)
