-- The class and the size with which an object was made stay so: no object is made twice, and none is object 0.
use Rattle.std.specs.List.{list_any}
use Rattle.std.proofs.Common.{ℕ, ◌+◌, ◌*◌, ◌≤◌, ◌≡◌, ◌≢◌, ◌⊎◌, inl, inr, refl, sym, ◌∙◌, ap, subst, Bool, true, false, cond, eqb, leb, ltb, ◌&&◌, ◌||◌, length, Option, Some, None, List, [], ◌∷◌, arith}
use Rattle.dso_base.specs.declared.journal.Entry.{Entry}
use Rattle.dso_base.specs.declared.journal.Input.{Input}
use Rattle.dso_base.specs.declared.journal.Input.TheVariants as input
use Rattle.dso_base.specs.declared.journal.Node.{Node}
use Rattle.dso_base.specs.declared.journal.Node.TheVariants.{Server, Client}
use Rattle.dso_base.specs.declared.lock.ThreadId.{ThreadId}
use Rattle.dso_base.specs.declared.request.Event.{Event}
use Rattle.dso_base.specs.declared.request.Event.TheVariants.{Act, Lost}
use Rattle.dso_base.specs.declared.request.Reply.{Reply}
use Rattle.dso_base.specs.declared.request.Reply.TheVariants.{Done, Made, Seen, Val, Local, Refused}
use Rattle.dso_base.specs.declared.request.Request.{Request}
use Rattle.dso_base.specs.declared.request.Request.TheVariants.{New}
use Rattle.dso_base.specs.declared.shape.Shape.{Shape}
use Rattle.dso_base.specs.declared.value.ClassId.{ClassId}
use Rattle.dso_base.specs.declared.value.ClassId.TheVariants.{Roots}
use Rattle.dso_plain.proofs.keys.SameKeys.{same_number, number_self}
use Rattle.dso_law.specs.Settings.{Settings}
use Rattle.dso_law.specs.Entries.{entries_of, by_event}
use Rattle.dso_law.specs.Records.{next_id}
use Rattle.dso_law.specs.Replies.{woken_by}
use Rattle.dso_law.specs.ServerReadings.{Batch, batches_given, counted}
use Rattle.dso_law.specs.ServerStep.{ServerStepOn}
use Rattle.dso_legal.specs.ClassesKept.{class_asked, class_by_reply, class_by, class_made}
use Rattle.dso_legal.specs.Lawful.{next_after, NodeFollows, MayFollow, AllFollow}
use Rattle.dso_legal.specs.MadeOnce.{objects_by_reply, objects_by, objects_made, is_made, MadeOnce}
use Rattle.dso_legal.proofs.blocks.OwnActs.{IsNextAct, next_act}
use Rattle.dso_legal.proofs.ids.GivenOnce.{InTurn, gives, within, in_turn}
use Rattle.dso_legal.proofs.ids.MadeOnce.{made_once}
use Rattle.dso_legal.proofs.ids.Making.{makes_next}
use Rattle.dso_legal.proofs.records.BothEnds.{client_with}

-- ---- ids

-- an id that was given is at least 1
pub given_from_one : (c o : ℕ) (given : List Batch) → InTurn given → list_any (gives c o) given ≡ true → 1 ≤ o
given_from_one c o [] turn is = absurd (cc is)
given_from_one c o (b ∷ given) turn is = by (gives c o b) refl is (given_from_one c o given turn.1)
  where
    positive : (n : ℕ) → 1 + 256 * n ≤ o → 1 ≤ o
    positive n le = omega (arith, le)

    second : (x y : Bool) → (x && y) ≡ true → y ≡ true
    second true y is = is
    second false y is = absurd (cc is)

    by : (x : Bool) → gives c o b ≡ x → (x || list_any (gives c o) given) ≡ true → (list_any (gives c o) given ≡ true → 1 ≤ o) → 1 ≤ o
    by true is any later = positive (length given) (within o b.first (length given) turn.0 (second (eqb b.client c) (leb b.first o && ltb o (b.first + 256)) is)).0
    by false is any later = later any

-- ---- entries

-- the server's entry has no event
server_quiet : (p : Settings) (e : Entry) (es : List Entry) (i : Input) → ServerStepOn p i e es → e.event ≡ None
server_quiet p e es (input.TookUp c m) step = step.event
server_quiet p e es (input.Lose c) step = step.event
server_quiet p e es (input.Break c) step = step.event
server_quiet p e es (input.Rejoin c) step = step.event
server_quiet p e es other step = absurd step

-- an entry has no event, or is the next act of a thread of its client
pub record IsActOf (p : Settings) (next : ThreadId → List Event → Option Request) (e : Entry) (es : List Entry) : Type 0 where
  pub client : ℕ
  pub node : e.node ≡ Client client
  pub act : IsNextAct p client (next_after next es) e (entries_of (Client client) es)

pub what_acts : (p : Settings) (next : ThreadId → List Event → Option Request) (e : Entry) (es : List Entry) → MayFollow p next e es → (e.event ≡ None) ⊎ IsActOf p next e es
what_acts p next e es may = by e.node refl may.rule
  where
    by : (node : Node) → e.node ≡ node → NodeFollows p next node e es → (e.event ≡ None) ⊎ IsActOf p next e es
    by Server is rule = inl (server_quiet p e (entries_of Server es) e.input rule.step)
    by (Client c) is rule = elim (next_act p c (next_after next es) (next_after next (e ∷ es)) e (entries_of (Client c) es) rule.step) [
      | inl none ↦ inl none
      | inr act ↦ inr (record { client = c; node = is; act = act })
    ]

-- ---- objects made

-- the first or another
or_behind : (a b : Bool) → b ≡ true → (a || b) ≡ true
or_behind true b is = refl
or_behind false b is = is

-- made by a client's entries, and still with one more entry
made_still : (o d : ℕ) (e : Entry) (es : List Entry) → is_made d o es ≡ true → is_made d o (e ∷ es) ≡ true
made_still o d e es is = by_node e.node
  where
    replied : (reply : Reply) (objects : List ℕ) → list_any (eqb o) objects ≡ true → list_any (eqb o) (objects_by_reply reply objects) ≡ true
    replied (Made x) objects is = or_behind (eqb o x) (list_any (eqb o) objects) is
    replied (Seen class n) objects is = is
    replied (Val v) objects is = is
    replied Done objects is = is
    replied Local objects is = is
    replied (Refused fault) objects is = is

    evented : (event : Option Event) (objects : List ℕ) → list_any (eqb o) objects ≡ true → list_any (eqb o) (by_event objects_by event objects) ≡ true
    evented None objects is = is
    evented (Some (Act t request reply woken)) objects is = replied reply objects is
    evented (Some (Lost client)) objects is = is

    if_own : (b : Bool) → list_any (eqb o) (objects_made (cond b (e ∷ entries_of (Client d) es) (entries_of (Client d) es))) ≡ true
    if_own true = evented e.event (objects_made (entries_of (Client d) es)) is
    if_own false = is

    by_node : (node : Node) → list_any (eqb o) (objects_made (client_with d node e es)) ≡ true
    by_node Server = is
    by_node (Client c) = if_own (eqb d c)

-- an act made it
made_now : (o d : ℕ) (e : Entry) (es : List Entry) (t : ThreadId) (request : Request) (woken : Option ThreadId) → e.node ≡ Client d → e.event ≡ Some (Act t request (Made o) woken) → is_made d o (e ∷ es) ≡ true
made_now o d e es t request woken node event =
    ap (λ n. list_any (eqb o) (objects_made (client_with d n e es))) node
    ∙ ap (λ b. list_any (eqb o) (objects_made (cond b (e ∷ entries_of (Client d) es) (entries_of (Client d) es)))) (number_self d)
    ∙ ap (λ event. list_any (eqb o) (by_event objects_by event (objects_made (entries_of (Client d) es)))) event
    ∙ ap (λ b. b || list_any (eqb o) (objects_made (entries_of (Client d) es))) (number_self o)

-- the object was made by a client
pub record WasMade (o : ℕ) (es : List Entry) : Type 0 where
  pub client : ℕ
  pub is : is_made client o es ≡ true

module _ (shape : Shape) (o : ℕ) where
  -- object 0 has the roots, and of each other with a class a client made it
  abbrev Known : List Entry → Option (ClassId × ℕ) → Type 0
  Known es None = Unit {0}
  Known es (Some class) = ((o ≡ 0) × (class ≡ (Roots, shape.roots))) ⊎ WasMade o es

  known_still : (e : Entry) (es : List Entry) (class : Option (ClassId × ℕ)) → Known es class → Known (e ∷ es) class
  known_still e es None h = tt
  known_still e es (Some class) (inl first) = inl first
  known_still e es (Some class) (inr made) = inr (record { client = made.client; is = made_still o made.client e es made.is })

  module _ (p : Settings) (next : ThreadId → List Event → Option Request) where
    known_more : (e : Entry) (es : List Entry) → MayFollow p next e es → Known es (class_made shape o es) → Known (e ∷ es) (class_made shape o (e ∷ es))
    known_more e es may h = by (what_acts p next e es may)
      where
        still : Known (e ∷ es) (class_made shape o es)
        still = known_still e es (class_made shape o es) h

        some_known : (class : Option (ClassId × ℕ)) → WasMade o (e ∷ es) → Known (e ∷ es) class
        some_known None made = tt
        some_known (Some class) made = inr made

        by_reply : (act : IsActOf p next e es) (reply : Reply) → act.act.reply ≡ reply → Known (e ∷ es) (class_by_reply o act.act.request reply (class_made shape o es))
        by_reply act (Made x) is = made (eqb x o) refl
          where
            woken : Option ThreadId
            woken = woken_by act.act.request act.act.reply (entries_of (Client act.client) es)

            made_x : e.event ≡ Some (Act act.act.thread act.act.request (Made x) woken)
            made_x = subst (λ r. e.event ≡ Some (Act act.act.thread act.act.request r woken)) is act.act.event

            made : (b : Bool) → eqb x o ≡ b → Known (e ∷ es) (cond b (class_asked act.act.request) (class_made shape o es))
            made true same = some_known (class_asked act.act.request) (record {
              client = act.client;
              is = made_now o act.client e es act.act.thread act.act.request woken act.node (subst (λ n. e.event ≡ Some (Act act.act.thread act.act.request (Made n) woken)) (same_number x o same) made_x);
            })
            made false other = still
        by_reply act (Seen class n) is = still
        by_reply act (Val v) is = still
        by_reply act Done is = still
        by_reply act Local is = still
        by_reply act (Refused fault) is = still

        by : (e.event ≡ None) ⊎ IsActOf p next e es → Known (e ∷ es) (class_made shape o (e ∷ es))
        by (inl none) = subst (λ event. Known (e ∷ es) (by_event (class_by o) event (class_made shape o es))) (sym none) still
        by (inr act) = subst (λ event. Known (e ∷ es) (by_event (class_by o) event (class_made shape o es))) (sym act.act.event) (by_reply act act.act.reply refl)

    known : (es : List Entry) → AllFollow p next es → Known es (class_made shape o es)
    known [] follow = by (eqb o 0) refl
      where
        by : (b : Bool) → eqb o 0 ≡ b → Known [] (cond b (Some (Roots, shape.roots)) None)
        by true is = inl (same_number o 0 is, refl)
        by false is = tt
    known (e ∷ es) follow = known_more e es follow.1 (known es follow.0)

    -- An object with a class is object 0, which has the roots, or was made by a client.
    pub class_known : (es : List Entry) → AllFollow p next es → (class : ClassId × ℕ) → class_made shape o es ≡ Some class → ((o ≡ 0) × (class ≡ (Roots, shape.roots))) ⊎ WasMade o es
    class_known es follow class is = subst (Known es) is (known es follow)

-- an act that makes an object makes a new one, and not object 0
pub record IsFresh (o : ℕ) (es : List Entry) : Type 0 where
  pub real : o ≢ 0
  pub unmade : WasMade o es → ⊥

pub fresh : (p : Settings) (next : ThreadId → List Event → Option Request) (e : Entry) (es : List Entry) → AllFollow p next es → (act : IsActOf p next e es) (o : ℕ) → act.act.reply ≡ Made o → IsFresh o es
fresh p next e es follow act o is =
    let own : List Entry = entries_of (Client act.client) es in
    let once : MadeOnce es = made_once p next es follow in
    let its : next_id own ≡ Some o = makes_next p act.act.thread act.act.request own o (act.act.answered ∙ ap Some is) in
    record {
      real = λ zero_is. none_is_zero (given_from_one act.client o (batches_given (counted (entries_of Server es))) (in_turn p next es follow) (once.next_given act.client o its)) zero_is;
      unmade = λ made. both_ways (is_made made.client o es) made.is (once.next_is_new act.client made.client o its);
    }
  where
    none_is_zero : {n : ℕ} → 1 ≤ n → n ≡ 0 → ⊥
    none_is_zero le zero_is = omega (arith, le, zero_is)

    both_ways : (b : Bool) → b ≡ true → b ≡ false → ⊥
    both_ways b yes_is no_is = cc (sym yes_is ∙ no_is)

-- So a class that is known stays.
pub class_stays : (shape : Shape) (p : Settings) (next : ThreadId → List Event → Option Request) (e : Entry) (es : List Entry) → AllFollow p next (e ∷ es) → (o : ℕ) (class : ClassId × ℕ)
    → class_made shape o es ≡ Some class → class_made shape o (e ∷ es) ≡ Some class
class_stays shape p next e es follow o class is = by (what_acts p next e es follow.1)
  where
    not_again : (act : IsActOf p next e es) → act.act.reply ≡ Made o → ⊥
    not_again act made =
        let new : IsFresh o es = fresh p next e es follow.0 act o made in
        elim (class_known shape o p next es follow.0 class is) [
          | inl first ↦ new.real first.0
          | inr before ↦ new.unmade before
        ]

    by_reply : (act : IsActOf p next e es) (reply : Reply) → act.act.reply ≡ reply → class_by_reply o act.act.request reply (class_made shape o es) ≡ Some class
    by_reply act (Made x) made = if_same (eqb x o) refl
      where
        if_same : (b : Bool) → eqb x o ≡ b → cond b (class_asked act.act.request) (class_made shape o es) ≡ Some class
        if_same true same = absurd (not_again act (made ∙ ap Made (same_number x o same)))
        if_same false other = is
    by_reply act (Seen seen n) made = is
    by_reply act (Val v) made = is
    by_reply act Done made = is
    by_reply act Local made = is
    by_reply act (Refused fault) made = is

    by : (e.event ≡ None) ⊎ IsActOf p next e es → class_made shape o (e ∷ es) ≡ Some class
    by (inl none) = ap (λ event. by_event (class_by o) event (class_made shape o es)) none ∙ is
    by (inr act) = ap (λ event. by_event (class_by o) event (class_made shape o es)) act.act.event ∙ by_reply act act.act.reply refl

-- A new object has the class and the size that were asked for.
pub class_of_new : (shape : Shape) (e : Entry) (es : List Entry) (t : ThreadId) (class : ClassId) (n o : ℕ) (woken : Option ThreadId) → e.event ≡ Some (Act t (New class n) (Made o) woken) → class_made shape o (e ∷ es) ≡ Some (class, n)
class_of_new shape e es t class n o woken is = ap (λ event. by_event (class_by o) event (class_made shape o es)) is ∙ ap (λ b. cond b (Some (class, n)) (class_made shape o es)) (number_self o)
