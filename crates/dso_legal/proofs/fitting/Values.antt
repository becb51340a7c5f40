-- Values are fine: a sound program stores and prints only what it was told, in places that it saw.
use Rattle.std.specs.List.{list_any, Any, AllByRecursion}
use Rattle.std.proofs.Common.{ℕ, zero, suc, ◌<◌, ◌≡◌, ◌≢◌, ◌⊎◌, inl, inr, refl, sym, ◌∙◌, ap, subst, Bool, true, false, cond, eqb, ◌||◌, Option, Some, None, List, [], ◌∷◌, length, slice_get, slice_index_or, arith}
use Rattle.dso_base.specs.Block.{Work, opening_value}
use Rattle.dso_base.specs.declared.journal.Entry.{Entry}
use Rattle.dso_base.specs.declared.journal.Node.TheVariants.{Server, Client}
use Rattle.dso_base.specs.declared.lock.ThreadId.{ThreadId}
use Rattle.dso_base.specs.declared.message.Down.{Down}
use Rattle.dso_base.specs.declared.message.Down.TheVariants as down
use Rattle.dso_base.specs.declared.message.Up.{Up}
use Rattle.dso_base.specs.declared.message.Up.TheVariants as up
use Rattle.dso_base.specs.declared.record.Body.{Body}
use Rattle.dso_base.specs.declared.request.Event.{Event}
use Rattle.dso_base.specs.declared.request.Event.TheVariants.{Act, Lost}
use Rattle.dso_base.specs.declared.request.Reply.{Reply}
use Rattle.dso_base.specs.declared.request.Reply.TheVariants.{Done, Made, Seen, Val, Local, Refused}
use Rattle.dso_base.specs.declared.request.Request.{Request}
use Rattle.dso_base.specs.declared.request.Request.TheVariants.{New, Look, Put, Print}
use Rattle.dso_base.specs.declared.shape.ClassShape.{ClassShape}
use Rattle.dso_base.specs.declared.value.ClassId.{ClassId}
use Rattle.dso_base.specs.declared.value.ClassId.TheVariants.{Plain, Array, Roots}
use Rattle.dso_base.specs.declared.value.Kind.{Kind}
use Rattle.dso_base.specs.declared.value.Kind.TheVariants as kind
use Rattle.dso_base.specs.declared.value.Value.{Value}
use Rattle.dso_base.specs.declared.value.Value.TheVariants as value
use Rattle.dso_base.specs.Shape.{fields_of, kind_of}
use Rattle.dso_base.specs.Value.{Fits}
use Rattle.dso_plain.specs.Possible.{IsFieldCount, CanBeMade}
use Rattle.dso_plain.proofs.keys.SameKeys.{same_number}
use Rattle.dso_law.specs.Settings.{Settings}
use Rattle.dso_law.specs.Entries.{entries_of, by_event, events_in}
use Rattle.dso_law.specs.Channels.{up_in_flight, down_in_flight}
use Rattle.dso_law.specs.Copies.{value_held}
use Rattle.dso_law.specs.FitsDown.{HasSize}
use Rattle.dso_law.specs.ServerReadings.{counted}
use Rattle.dso_law.specs.Store.{stored}
use Rattle.dso_law.specs.Threads.{work_of}
use Rattle.dso_legal.specs.Agreement.{messages}
use Rattle.dso_legal.specs.ClassesKept.{class_asked, class_by, class_by_reply, class_made}
use Rattle.dso_legal.specs.Lawful.{next_after, AllFollow}
use Rattle.dso_legal.specs.SoundProgram.{AsksSoundly, GivesKnownTexts, KeepsTo, IsToldValue, IsToldText, IsTextAmong, GivesTextsAmong, tells, event_tells, event_tells_text}
use Rattle.dso_legal.specs.ValuesFine.{IsFine, FitsField, IsFineBody, IsFineWork, CarriesUpFine, CarriesDownFine, TellsFine, EventTellsFine, KeepsValues, ValuesAreFine}
use Rattle.dso_legal.specs.WithinShape.{HasPlace, IsLookAt, KnowsPlace, UsesWhatIsThere, StaysWithinShape}
use Rattle.dso_legal.proofs.blocks.OwnActs.{threads_follow, threads_wait, own_acts}
use Rattle.dso_legal.proofs.fitting.InHand.{each_so}
use Rattle.dso_legal.proofs.fitting.Messages.{ValueHas, StoredHas}
use Rattle.dso_legal.proofs.fitting.Replies.{ReplyHas}
use Rattle.dso_legal.proofs.fitting.ClassesMade.{IsActOf, what_acts, class_of_new, class_stays}
use Rattle.dso_legal.proofs.fitting.Untold.{all_untold, apart_from_zero}
use Rattle.dso_legal.proofs.fitting.Carried.{C, EventHas, UpNow, DownNow, BodyNow, WorkNow, Brings, Keeps, AllHave, carried}

-- ---- lists

-- one of a list of which all are so is so
pub one_of_all : {X : Type 0} (P Q : X → Type 0) (xs : List X) → AllByRecursion Q xs → Any P xs → (x : X) × P x × Q x
one_of_all {X = X} P Q xs all any = at xs any.0 any.1 all any.2 any.3 any.4
  where
    at : (xs : List X) (k : ℕ) (x : X) → AllByRecursion Q xs → k < length xs → slice_index_or xs k x ≡ x → P x → (x : X) × P x × Q x
    at [] k x all less is h = absurd (omega (arith, less))
    at (y ∷ xs) zero x all less is h = (x, h, subst Q is all.0)
    at (y ∷ xs) (suc k) x all less is h = at xs k x all.1 (omega (arith, less)) is h

-- equal classes with their sizes
pub same_pair : (x y : ClassId × ℕ) → Some x ≡ Some y → (x.0 ≡ y.0) × (x.1 ≡ y.1)
same_pair x y is =
    let same : x ≡ y = cc is in
    (ap (λ (z : ClassId × ℕ). z.0) same, ap (λ (z : ClassId × ℕ). z.1) same)

module _ (p : Settings) (next : ThreadId → List Event → Option Request) where
  -- a value that may stand in its field, and one that is fine
  abbrev pub F : List Entry → ℕ → ℕ → Value → Type 0
  F now o f v = FitsField p.shape now o f v

  abbrev pub V : List Entry → Value → Type 0
  V now v = IsFine p.shape now v

  -- ---- on and on

  made_still : (e : Entry) (es : List Entry) → AllFollow p next (e ∷ es) → (o : ℕ) → class_made p.shape o es ≢ None → class_made p.shape o (e ∷ es) ≢ None
  made_still e es follow o made = by (class_made p.shape o es) refl
    where
      by : (class : Option (ClassId × ℕ)) → class_made p.shape o es ≡ class → class_made p.shape o (e ∷ es) ≢ None
      by None is = absurd (made is)
      by (Some class) is = λ none. cc (sym (class_stays p.shape p next e es follow o class is) ∙ none)

  pub fine_still : (e : Entry) (es : List Entry) → AllFollow p next (e ∷ es) → (v : Value) → V es v → V (e ∷ es) v
  fine_still e es follow (value.Ref o) h = (h.0, made_still e es follow o h.1)
  fine_still e es follow (value.Text t) h = h
  fine_still e es follow v h = tt

  field_still : (e : Entry) (es : List Entry) → AllFollow p next (e ∷ es) → (o f : ℕ) (v : Value) → F es o f v → F (e ∷ es) o f v
  field_still e es follow o f v h = record {
    class = h.class;
    size = h.size;
    made = class_stays p.shape p next e es follow o (h.class, h.size) h.made;
    there = h.there;
    fits = h.fits;
    fine = fine_still e es follow v h.fine;
  }

  -- object 0 has the roots
  pub roots_stay : (es : List Entry) → AllFollow p next es → class_made p.shape 0 es ≡ Some (Roots, p.shape.roots)
  roots_stay [] follow = refl
  roots_stay (e ∷ es) follow = class_stays p.shape p next e es follow 0 (Roots, p.shape.roots) (roots_stay es follow.0)

  -- ---- what a thread was told

  module _ (es : List Entry) where
    made_reply : (o : ℕ) (request : Request) (reply : Reply) → ReplyHas (C p next F V V es) (F es) (V es) (V es) request reply → tells o reply ≡ true → class_made p.shape o es ≢ None
    made_reply o request (Made x) h is = λ none. cc (sym h.made ∙ ap (λ n. class_made p.shape n es) (same_number x o is) ∙ none)
    made_reply o request (Val v) h is = by v h is
      where
        by : (v : Value) → V es v → tells o (Val v) ≡ true → class_made p.shape o es ≢ None
        by (value.Ref x) h is = subst (λ n. class_made p.shape n es ≢ None) (same_number x o is) h.1
        by (value.Text t) h is = absurd (cc is)
        by value.Null h is = absurd (cc is)
        by (value.Long n) h is = absurd (cc is)
        by (value.Bool b) h is = absurd (cc is)
    made_reply o request (Seen class n) h is = absurd (cc is)
    made_reply o request Done h is = absurd (cc is)
    made_reply o request Local h is = absurd (cc is)
    made_reply o request (Refused fault) h is = absurd (cc is)

    -- an object that was told was made
    told_made : (o : ℕ) (events : List Event) → AllByRecursion (EventHas p next F V V es) events → list_any (event_tells o) events ≡ true → class_made p.shape o es ≢ None
    told_made o [] all is = absurd (cc is)
    told_made o (Act t request reply woken ∷ events) all is = by (tells o reply) refl is (told_made o events all.1)
      where
        by : (b : Bool) → tells o reply ≡ b → (b || list_any (event_tells o) events) ≡ true → (list_any (event_tells o) events ≡ true → class_made p.shape o es ≢ None) → class_made p.shape o es ≢ None
        by true here either later = made_reply o request reply all.0 here
        by false other rest later = later rest
    told_made o (Lost client ∷ events) all is = told_made o events all.1 is

    text_reply : (text : ℕ) (t : ThreadId) (request : Request) (reply : Reply) (woken : Option ThreadId) → ReplyHas (C p next F V V es) (F es) (V es) (V es) request reply
        → event_tells_text text (Act t request reply woken) ≡ true → text < p.shape.texts
    text_reply text t request (Val (value.Text n)) woken h is = subst (λ m. m < p.shape.texts) (same_number n text is) h
    text_reply text t request reply woken h is = absurd (cc is)

    -- a text that was told is one of the program's
    told_text : (text : ℕ) (events : List Event) → AllByRecursion (EventHas p next F V V es) events → list_any (event_tells_text text) events ≡ true → text < p.shape.texts
    told_text text [] all is = absurd (cc is)
    told_text text (Act t request reply woken ∷ events) all is = by (event_tells_text text (Act t request reply woken)) refl is (told_text text events all.1)
      where
        by : (b : Bool) → event_tells_text text (Act t request reply woken) ≡ b → (b || list_any (event_tells_text text) events) ≡ true → (list_any (event_tells_text text) events ≡ true → text < p.shape.texts) → text < p.shape.texts
        by true here either later = text_reply text t request reply woken all.0 here
        by false other rest later = later rest
    told_text text (Lost client ∷ events) all is = told_text text events all.1 is

    -- what a look saw is so
    pub look_made : (o : ℕ) (class : ClassId) (size : ℕ) (event : Event) → IsLookAt o class size event → EventHas p next F V V es event → class_made p.shape o es ≡ Some (class, size)
    look_made o class size (Act t (Look x) (Seen seen n) woken) look h = ap (λ m. class_made p.shape m es) (sym look.0) ∙ h ∙ ap (λ c. Some (c, n)) look.1 ∙ ap (λ m. Some (class, m)) look.2
    look_made o class size event look h = absurd look

    module _ (events : List Event) (all : AllByRecursion (EventHas p next F V V es) events) where
      -- a value that was told, and whose text is known, is fine
      pub value_fine : (v : Value) → IsToldValue v events → IsTextAmong (IsToldText p.shape events) v → V es v
      value_fine (value.Ref o) told text = (told.0, told_made o events all (by (eqb o 0) (apart_from_zero o told.0) told.1))
        where
          by : (b : Bool) → b ≡ false → (b || list_any (event_tells o) events) ≡ true → list_any (event_tells o) events ≡ true
          by true other is = absurd (cc other)
          by false other is = is
      value_fine (value.Text t) told text = elim text [
        | inl own ↦ own
        | inr read ↦ told_text t events all read
      ]
      value_fine value.Null told text = tt
      value_fine (value.Long n) told text = tt
      value_fine (value.Bool b) told text = tt

  -- ---- what is asked

  -- a request keeps to all that is asked of the program
  pub record Asked (t : ThreadId) (events : List Event) (request : Request) : Type 0 where
    pub keeps : KeepsTo p.shape t events request
    pub uses : UsesWhatIsThere p.shape request events
    pub gives : GivesTextsAmong (IsToldText p.shape events) request

  -- a field of a new object
  place_new : (class : ClassId) (n f : ℕ) → CanBeMade p.shape class n → f < n → HasPlace p.shape class n f
  place_new (Plain number) n f made less = by (slice_get p.shape.classes number) made
    where
      by : (class : Option ClassShape) → IsFieldCount class n → f < length (fields_of class)
      by None count = absurd count
      by (Some class) count = subst (λ m. f < m) count less
  place_new (Array k) n f made less = less
  place_new Roots n f made less = absurd made

  -- its opening value
  opening_fits : (k : Kind) → Fits k (opening_value k)
  opening_fits kind.Long = tt
  opening_fits kind.Bool = tt
  opening_fits kind.Text = tt
  opening_fits kind.Ref = tt

  opening_fine : (now : List Entry) (k : Kind) → V now (opening_value k)
  opening_fine now kind.Long = tt
  opening_fine now kind.Bool = tt
  opening_fine now kind.Text = tt
  opening_fine now kind.Ref = tt

  module _ (e : Entry) (es : List Entry) (follow : AllFollow p next (e ∷ es)) (events : List Event) (all : AllByRecursion (EventHas p next F V V es) events) where
    -- the place of a put
    put_fits : (o f : ℕ) (v : Value) (place : KnowsPlace p.shape o f events) → Fits (kind_of p.shape place.class f) v → V es v → F (e ∷ es) o f v
    put_fits o f v place fits fine = elim place.known [
      | inl first ↦ record {
        class = Roots;
        size = p.shape.roots;
        made = ap (λ n. class_made p.shape n (e ∷ es)) first.0 ∙ roots_stay (e ∷ es) follow;
        there = subst (λ class. HasPlace p.shape class place.size f) first.1 place.there;
        fits = subst (λ class. Fits (kind_of p.shape class f) v) first.1 fits;
        fine = fine_still e es follow v fine;
      }
      | inr looked ↦ record {
        class = place.class;
        size = place.size;
        made =
            let look = one_of_all (IsLookAt o place.class place.size) (EventHas p next F V V es) events all looked in
            class_stays p.shape p next e es follow o (place.class, place.size) (look_made es o place.class place.size look.0 look.1 look.2);
        there = place.there;
        fits = fits;
        fine = fine_still e es follow v fine;
      }
    ]

    brings_by : (t : ThreadId) (request : Request) (reply : Reply) (woken : Option ThreadId) → e.event ≡ Some (Act t request reply woken) → Asked t events request → Brings p next F V V (e ∷ es) request reply
    brings_by t (New class n) (Made o) woken is asked = λ f less. record {
      class = class;
      size = n;
      made = class_of_new p.shape e es t class n o woken is;
      there = place_new class n f asked.keeps.makes less;
      fits = opening_fits (kind_of p.shape class f);
      fine = opening_fine (e ∷ es) (kind_of p.shape class f);
    }
    brings_by t (Put o f v) Done woken is asked = put_fits o f v asked.uses.0 asked.uses.1 (value_fine es events all v asked.keeps.names.1 asked.gives)
    brings_by t (Print v) Done woken is asked = fine_still e es follow v (value_fine es events all v asked.uses asked.gives)
    brings_by t request reply woken is asked = tt

  module _ (sound : AsksSoundly p.shape next) (known : GivesKnownTexts p.shape next) (within : StaysWithinShape p.shape next) where
    pub what_is_asked : (es : List Entry) → AllFollow p next es → AllHave p next F V V es → (t : ThreadId) (request : Request) → next_after next es t ≡ Some request → Asked t (events_in t (entries_of (Client t.client) es)) request
    what_is_asked es follow have t request asked =
        let own : List Entry = entries_of (Client t.client) es in
        let real : list_any (event_tells 0) (events_in t own) ≡ false = all_untold p next sound es follow t in
        record {
          keeps = sound.keeps t (events_in t own) request (own_acts t own) real (threads_wait p next t es follow) (threads_follow p next t es follow) asked;
          uses = within t (events_in t own) request (own_acts t own) real (threads_wait p next t es follow) (threads_follow p next t es follow) asked;
          gives = known t (events_in t own) request (own_acts t own) real (threads_wait p next t es follow) (threads_follow p next t es follow) asked;
        }

    keeps_fine : Keeps p next F V V
    keeps_fine = record {
      fields = field_still;
      values = fine_still;
      outs = fine_still;
      tells = λ es. record { read = λ o f v h. h.fine; woken = λ b. tt };
      roots = λ r less. record { class = Roots; size = p.shape.roots; made = refl; there = less; fits = tt; fine = tt };
      acts = λ e es follow have c it. brings_by e es follow (events_in it.thread (entries_of (Client it.thread.client) es)) ((have.clients it.thread.client).told it.thread)
          it.thread it.request it.reply _ it.event (what_is_asked es follow.0 have it.thread it.request it.asked);
    }

    pub all_fine : (es : List Entry) → AllFollow p next es → AllHave p next F V V es
    all_fine es follow = carried p next F V V keeps_fine es follow

    -- ---- sizes

    -- what can be made has the class and the size that were asked for
    size_asked : (request : Request) (class : ClassId) (size : ℕ) (t : ThreadId) (events : List Event) → Asked t events request → class_asked request ≡ Some (class, size) → CanBeMade p.shape class size
    size_asked (New made n) class size t events asked is =
        let new : ClassId × ℕ = (made, n) in
        let same : new ≡ (class, size) = cc is in
        subst (λ (x : ClassId × ℕ). CanBeMade p.shape x.0 x.1) same asked.keeps.makes
    size_asked request class size t events asked is = absurd (cc is)

    -- an object with a class is object 0, which has the roots, or was made as its class allows
    abbrev pub MadeAs : ℕ → ClassId → ℕ → Type 0
    MadeAs o class size = ((o ≡ 0) × (class ≡ Roots) × (size ≡ p.shape.roots)) ⊎ CanBeMade p.shape class size

    pub made_as : (es : List Entry) → AllFollow p next es → (o : ℕ) (class : ClassId) (size : ℕ) → class_made p.shape o es ≡ Some (class, size) → MadeAs o class size
    made_as [] follow o class size is = by (eqb o 0) refl is
      where
        by : (b : Bool) → eqb o 0 ≡ b → cond {A = Option (ClassId × ℕ)} b (Some (Roots, p.shape.roots)) None ≡ Some (class, size) → MadeAs o class size
        by true zero_is is =
            let same = same_pair (Roots, p.shape.roots) (class, size) is in
            inl (same_number o 0 zero_is, sym same.0, sym same.1)
        by false zero_is is = absurd (cc is)
    made_as (e ∷ es) follow o class size is = by (what_acts p next e es follow.1) (made_as es follow.0 o class size)
      where
        by_reply : (act : IsActOf p next e es) (reply : Reply) → (class_made p.shape o es ≡ Some (class, size) → MadeAs o class size) → class_by_reply o act.act.request reply (class_made p.shape o es) ≡ Some (class, size) → MadeAs o class size
        by_reply act (Made x) before is = if_same (eqb x o) is
          where
            if_same : (b : Bool) → cond b (class_asked act.act.request) (class_made p.shape o es) ≡ Some (class, size) → MadeAs o class size
            if_same true is = inr (size_asked act.act.request class size act.act.thread (events_in act.act.thread (entries_of (Client act.act.thread.client) es))
                (what_is_asked es follow.0 (all_fine es follow.0) act.act.thread act.act.request act.act.asked) is)
            if_same false is = before is
        by_reply act (Seen seen n) before is = before is
        by_reply act (Val v) before is = before is
        by_reply act Done before is = before is
        by_reply act Local before is = before is
        by_reply act (Refused fault) before is = before is

        by : (e.event ≡ None) ⊎ IsActOf p next e es → (class_made p.shape o es ≡ Some (class, size) → MadeAs o class size) → MadeAs o class size
        by (inl none) before = before (ap (λ event. by_event (class_by o) event (class_made p.shape o es)) (sym none) ∙ is)
        by (inr act) before = by_reply act act.act.reply before (ap (λ event. by_event (class_by o) event (class_made p.shape o es)) (sym act.act.event) ∙ is)

    -- so it has a size that the class allows
    size_of : (class : ClassId) (size : ℕ) → CanBeMade p.shape class size → HasSize p.shape class size
    size_of (Plain number) size made = made
    size_of (Array k) size made = made
    size_of Roots size made = absurd made

    pub sizes : (es : List Entry) → AllFollow p next es → (o : ℕ) (class : ClassId) (size : ℕ) → class_made p.shape o es ≡ Some (class, size) → HasSize p.shape class size
    sizes es follow o class size is = elim (made_as es follow o class size is) [
      | inl first ↦ subst (λ class. HasSize p.shape class size) (sym first.1) first.2
      | inr made ↦ size_of class size made
    ]

    -- ---- in the words of the law

    body_fine : (now : List Entry) (body : Body) → BodyNow p next F V V now body → IsFineBody p.shape now body
    body_fine now body h = h.values

    each_body_fine : (now : List Entry) (bodies : List Body) → AllByRecursion (BodyNow p next F V V now) bodies → AllByRecursion (IsFineBody p.shape now) bodies
    each_body_fine now = each_so (BodyNow p next F V V now) (IsFineBody p.shape now) (body_fine now)

    work_fine : (now : List Entry) (work : Work) → WorkNow p next F V V now work → IsFineWork p.shape now work
    work_fine now work h = record { privates = each_body_fine now work.privates h.privates; news = each_body_fine now work.news h.news; sets = h.sets; outs = h.outs }

    up_fine : (now : List Entry) (m : Up) → UpNow p next F V V now m → CarriesUpFine p.shape now m
    up_fine now (up.Commit txn) h = record { news = each_body_fine now txn.news h.0; sets = h.1; outs = h.2 }
    up_fine now m h = tt

    down_fine : (now : List Entry) (m : Down) → DownNow p next F V V now m → CarriesDownFine p.shape now m
    down_fine now (down.Object body) h = h.values
    down_fine now (down.Changes sets) h = h
    down_fine now m h = tt

    reply_fine : (now : List Entry) (request : Request) (reply : Reply) → ReplyHas (C p next F V V now) (F now) (V now) (V now) request reply → TellsFine p.shape now reply
    reply_fine now request (Made o) h = (h.real, λ none. cc (sym h.made ∙ none))
    reply_fine now request (Val v) h = h
    reply_fine now request reply h = tt

    event_fine : (now : List Entry) (event : Event) → EventHas p next F V V now event → EventTellsFine p.shape now event
    event_fine now (Act t request reply woken) h = reply_fine now request reply h
    event_fine now (Lost client) h = tt

    -- after entries each of which follows those before it
    pub keeps_values : (es : List Entry) → AllFollow p next es → KeepsValues p.shape es
    keeps_values es follow = record {
      sizes = sizes es follow;
      works = λ t. work_fine es (work_of p.shape t (entries_of (Client t.client) es)) ((have.clients t.client).works t);
      told = λ t. each_so (EventHas p next F V V es) (EventTellsFine p.shape es) (event_fine es) (events_in t (entries_of (Client t.client) es)) ((have.clients t.client).told t);
      copies = λ c o f v is. held o f v (value_held o f (entries_of (Client c) es)) ((have.clients c).copies.value o f) is;
      ups = λ c. each_so (UpNow p next F V V es) (CarriesUpFine p.shape es) (up_fine es) (messages (up_in_flight c es)) (have.clients c).up;
      downs = λ c. each_so (DownNow p next F V V es) (CarriesDownFine p.shape es) (down_fine es) (messages (down_in_flight c es)) (have.clients c).down;
      graph = λ o body is. in_graph o body (stored p.shape o (counted (entries_of Server es))) (have.graph o) is;
    }
      where
        have : AllHave p next F V V es
        have = all_fine es follow

        held : (o f : ℕ) (v : Value) (at : Option Value) → ValueHas (C p next F V V es) (F es) (V es) (V es) o f at → at ≡ Some v → FitsField p.shape es o f v
        held o f v None h is = absurd (cc is)
        held o f v (Some at) h is =
            let same : at ≡ v = cc is in
            subst (FitsField p.shape es o f) same h

        in_graph : (o : ℕ) (body : Body) (at : Option Body) → StoredHas (C p next F V V es) (F es) (V es) (V es) o at → at ≡ Some body → IsFineBody p.shape es body
        in_graph o body None h is = absurd (cc is)
        in_graph o body (Some at) h is =
            let same : at ≡ body = cc is in
            subst (IsFineBody p.shape es) same h.1.values

pub values_are_fine : ValuesAreFine
values_are_fine p next sound known within es follow = keeps_values p next sound known within es follow
