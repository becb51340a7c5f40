-- Replies are there: a place that a thread uses is below the size of its object.
use Rattle.std.specs.Prelude.{option_map, is_some}
use Rattle.std.proofs.Common.{ℕ, ◌<◌, ◌≡◌, ◌≢◌, inl, inr, refl, sym, ◌∙◌, ap, subst, Bool, true, false, cond, eqb, ◌||◌, Option, Some, None, List, length, slice_get}
use Rattle.std.proofs.lemmas.Bool.{lt-ltb}
use Rattle.dso_base.specs.declared.journal.Entry.{Entry}
use Rattle.dso_base.specs.declared.journal.Node.TheVariants.{Client}
use Rattle.dso_base.specs.declared.lock.ThreadId.{ThreadId}
use Rattle.dso_base.specs.declared.record.Body.{Body}
use Rattle.dso_base.specs.declared.request.Event.{Event}
use Rattle.dso_base.specs.declared.request.Reply.TheVariants.{Made, Seen, Val}
use Rattle.dso_base.specs.declared.request.Request.{Request}
use Rattle.dso_base.specs.declared.request.Request.TheVariants.{New, Look, Get, Put}
use Rattle.dso_base.specs.declared.shape.ClassShape.{ClassShape}
use Rattle.dso_base.specs.declared.value.ClassId.{ClassId}
use Rattle.dso_base.specs.declared.value.ClassId.TheVariants.{Plain, Array, Roots}
use Rattle.dso_base.specs.Shape.{fields_of}
use Rattle.dso_plain.specs.Possible.{IsFieldCount}
use Rattle.dso_law.specs.Settings.{Settings}
use Rattle.dso_law.specs.Entries.{entries_of, events_in}
use Rattle.dso_law.specs.Copies.{is_resident, value_held, class_held, copy_of}
use Rattle.dso_law.specs.FitsDown.{HasSize}
use Rattle.dso_law.specs.Records.{next_id}
use Rattle.dso_law.specs.Replies.{class_of_body, class_known, value_seen, value_in, put_answer, answer_put, reply_of}
use Rattle.dso_law.specs.RequestNeeds.{Need, NeedsId, NeedsObject, NeedsClass, unless, first_unmet, is_seen_class, unmet}
use Rattle.dso_law.specs.Threads.{last_seen, own, or_else, work_of}
use Rattle.dso_legal.specs.ClassesKept.{class_made}
use Rattle.dso_legal.specs.Lawful.{next_after, AllFollow}
use Rattle.dso_legal.specs.RepliesThere.{RepliesAreThere}
use Rattle.dso_legal.specs.SoundProgram.{AsksSoundly, GivesKnownTexts}
use Rattle.dso_legal.specs.WithinShape.{HasPlace, IsLookAt, KnowsPlace, StaysWithinShape}
use Rattle.dso_legal.proofs.fitting.Messages.{ClassHas}
use Rattle.dso_legal.proofs.fitting.Replies.{known_has}
use Rattle.dso_legal.proofs.fitting.HeldWhole.{value_within, still_set, resident_classed, field_held}
use Rattle.dso_legal.proofs.fitting.Carried.{C, EventHas, AllHave}
use Rattle.dso_legal.proofs.fitting.Values.{F, V, roots_stay, one_of_all, look_made, what_is_asked, all_fine, sizes}

-- where a need is met, its test holds
met : (b : Bool) (need : Need) → unless b need ≡ None → b ≡ true
met true need is = refl
met false need is = absurd (cc is)

first_met : (first second : Option Need) → first_unmet first second ≡ None → first ≡ None
first_met None second is = refl
first_met (Some need) second is = absurd (cc is)

some_there : {X : Type 0} (x : Option X) → is_some x ≡ true → x ≢ None
some_there None is = absurd (cc is)
some_there (Some x) is = λ none. cc none

-- what is there is so with something done to it
mapped_there : {X Y : Type 0} (f : X → Y) (x : Option X) → x ≢ None → option_map f x ≢ None
mapped_there f None there = absurd (there refl)
mapped_there f (Some x) there = λ none. cc none

-- a place of an object of a size that its class can have is below the size
pub place_below : (p : Settings) (class : ClassId) (size f : ℕ) → HasSize p.shape class size → HasPlace p.shape class size f → f < size
place_below p (Plain number) size f has there = by (slice_get p.shape.classes number) has there
  where
    by : (class : Option ClassShape) → IsFieldCount class size → f < length (fields_of class) → f < size
    by None count less = absurd count
    by (Some class) count less = subst (λ n. f < n) (sym count) less
place_below p (Array kind) size f has there = there
place_below p Roots size f has there = subst (λ n. f < n) (sym has) there

module _ (p : Settings) (next : ThreadId → List Event → Option Request) (sound : AsksSoundly p.shape next) (known : GivesKnownTexts p.shape next) (within : StaysWithinShape p.shape next) (es : List Entry) (follow : AllFollow p next es) where
  have : AllHave p next (F p next) (V p next) (V p next) es
  have = all_fine p next sound known within es follow

  -- the object was made with a size that is above the place
  record IsBelow (o f : ℕ) : Type 0 where
    class : ClassId
    size : ℕ
    made : class_made p.shape o es ≡ Some (class, size)
    less : f < size

  below_made : (o f : ℕ) (class : ClassId) (size : ℕ) → class_made p.shape o es ≡ Some (class, size) → HasPlace p.shape class size f → IsBelow o f
  below_made o f class size made there = record { class = class; size = size; made = made; less = place_below p class size f (sizes p next sound known within es follow o class size made) there }

  module _ (t : ThreadId) where
    abbrev mine : List Entry
    mine = entries_of (Client t.client) es

    place_known : (o f : ℕ) → KnowsPlace p.shape o f (events_in t mine) → IsBelow o f
    place_known o f place = elim place.known [
      | inl first ↦ below_made o f Roots p.shape.roots (ap (λ n. class_made p.shape n es) first.0 ∙ roots_stay p next es follow) (subst (λ class. HasPlace p.shape class place.size f) first.1 place.there)
      | inr looked ↦
          let look = one_of_all (IsLookAt o place.class place.size) (EventHas p next (F p next) (V p next) (V p next) es) (events_in t mine) ((have.clients t.client).told t) looked in
          below_made o f place.class place.size (look_made p next es o place.class place.size look.0 look.1 look.2) place.there
    ]

    -- the class of the object, where it is told, has the size
    same_size : (o f : ℕ) (class : ClassId × ℕ) → IsBelow o f → class_made p.shape o es ≡ Some (class.0, class.1) → f < class.1
    same_size o f class below is =
        let size : ℕ = below.size in
        let same : size ≡ class.1 = cc (sym below.made ∙ is) in
        subst (λ n. f < n) same below.less

    -- an object that is the thread's own, or resident
    abbrev IsHere : ℕ → Type 0
    IsHere o = (is_some (own p.shape t o mine) || is_resident o mine) ≡ true

    -- has a class
    class_there : (o : ℕ) → IsHere o → class_known p t o mine ≢ None
    class_there o here = by (own p.shape t o mine) here
      where
        by : (body : Option Body) → (is_some body || is_resident o mine) ≡ true → or_else (option_map class_of_body body) (class_held o mine) ≢ None
        by None resident = resident_classed o mine resident
        by (Some body) here = λ none. cc none

    -- which is that with which it was made
    class_is : (o : ℕ) (class : ClassId × ℕ) → class_known p t o mine ≡ Some class → class_made p.shape o es ≡ Some (class.0, class.1)
    class_is o class is = subst (ClassHas (C p next (F p next) (V p next) (V p next) es) (F p next es) (V p next es) (V p next es) o) is
        (known_has (C p next (F p next) (V p next) (V p next) es) (F p next es) (V p next es) (V p next es) p t mine ((have.clients t.client).works t) (have.clients t.client).copies o)

    -- and a value in each field below its size
    value_there : (o f : ℕ) → IsBelow o f → IsHere o → value_in p (own p.shape t o mine) f (value_seen p t o f mine) ≢ None
    value_there o f below here = by (own p.shape t o mine) refl here
      where
        resident_value : is_resident o mine ≡ true → copy_of o f mine ≢ None
        resident_value is = copied (class_held o mine) refl (resident_classed o mine is)
          where
            copied : (class : Option (ClassId × ℕ)) → class_held o mine ≡ class → class ≢ None → copy_of o f mine ≢ None
            copied None held there = absurd (there refl)
            copied (Some class) held there =
                let made : class_made p.shape o es ≡ Some (class.0, class.1) = subst (ClassHas (C p next (F p next) (V p next) (V p next) es) (F p next es) (V p next es) (V p next es) o) held ((have.clients t.client).copies.class o) in
                λ none. field_held o mine class f held (same_size o f class below made) (sym (ap (λ b. cond b (value_held o f mine) None) is) ∙ none)

        by : (body : Option Body) → own p.shape t o mine ≡ body → (is_some body || is_resident o mine) ≡ true → value_in p body f (value_seen p t o f mine) ≢ None
        by None is resident = still_set o f (work_of p.shape t mine).sets (copy_of o f mine) (resident_value resident)
        by (Some body) is here = value_within body.values f (same_size o f (class_of_body body) below (class_is o (class_of_body body) (ap (λ x. or_else (option_map class_of_body x) (class_held o mine)) is)))

    -- a put is answered
    put_there : (o f : ℕ) → IsBelow o f → IsHere o → answer_put p t o f (class_known p t o mine) mine ≢ None
    put_there o f below here = by (class_known p t o mine) refl (class_there o here)
      where
        by : (class : Option (ClassId × ℕ)) → class_known p t o mine ≡ class → class ≢ None → answer_put p t o f class mine ≢ None
        by None is there = absurd (there refl)
        by (Some class) is there = λ none. cc (sym (ap (λ b. cond b (Some (put_answer p t o f class.0 mine)) None) (lt-ltb f class.1 (same_size o f class below (class_is o class is)))) ∙ none)

    replies_there : (request : Request) → next_after next es t ≡ Some request → unmet p t.client (next_after next es) t request mine ≡ None → reply_of p t request mine ≢ None
    replies_there (New class n) asked is = mapped_there Made (next_id mine) (some_there (next_id mine) (met (is_some (next_id mine)) NeedsId is))
    replies_there (Look o) asked is = mapped_there (λ (class : ClassId × ℕ). Seen class.0 class.1) (class_known p t o mine) (class_there o (met (is_some (own p.shape t o mine) || is_resident o mine) (NeedsObject o) is))
    replies_there (Get o f) asked is =
        let here : IsHere o = met (is_some (own p.shape t o mine) || is_resident o mine) (NeedsObject o)
        (first_met (unless (is_some (own p.shape t o mine) || is_resident o mine) (NeedsObject o)) (unless (is_some (own p.shape t o mine) || (eqb o 0 || is_seen_class (class_held o mine) (last_seen t mine))) (NeedsClass o)) is) in
        mapped_there Val (value_in p (own p.shape t o mine) f (value_seen p t o f mine))
        (value_there o f (place_known o f (what_is_asked p next sound known within es follow have t (Get o f) asked).uses) here)
    replies_there (Put o f v) asked is =
        let here : IsHere o = met (is_some (own p.shape t o mine) || is_resident o mine) (NeedsObject o)
        (first_met (unless (is_some (own p.shape t o mine) || is_resident o mine) (NeedsObject o)) (unless (is_some (own p.shape t o mine) || (eqb o 0 || is_seen_class (class_held o mine) (last_seen t mine))) (NeedsClass o)) is) in
        put_there o f (place_known o f (what_is_asked p next sound known within es follow have t (Put o f v) asked).uses.0) here
    replies_there request asked is = λ none. cc none

pub replies_are_there : RepliesAreThere
replies_are_there p next sound known within es follow t request asked is = replies_there p next sound known within es follow t request asked is
