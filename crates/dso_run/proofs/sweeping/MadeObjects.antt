-- How many objects a journal can make: one an entry, and object 0.
use Rattle.std.proofs.Common.{ℕ, suc, ◌≡◌, ◌≢◌, ◌≤◌, ◌||◌, refl, arith, Bool, true, false, eqb, cond, Option, Some, None, List, [], ◌∷◌, length}
use Rattle.std.specs.List.{IsDistinct}
use Rattle.std.proofs.lemmas.Bool.Decides.{nat_tests}
use Rattle.dso_base.specs.declared.journal.Entry.{Entry}
use Rattle.dso_base.specs.declared.journal.Node.TheVariants.{Server}
use Rattle.dso_base.specs.declared.lock.ThreadId.{ThreadId}
use Rattle.dso_base.specs.declared.request.Event.{Event}
use Rattle.dso_base.specs.declared.request.Event.TheVariants.{Act, Lost}
use Rattle.dso_base.specs.declared.request.Reply.{Reply}
use Rattle.dso_base.specs.declared.request.Reply.TheVariants as reply
use Rattle.dso_base.specs.declared.request.Request.{Request}
use Rattle.dso_base.specs.declared.shape.Shape.{Shape}
use Rattle.dso_base.specs.declared.value.ClassId.{ClassId}
use Rattle.dso_base.specs.declared.value.ClassId.TheVariants.{Roots}
use Rattle.dso_gc.specs.Garbage.{IsIn}
use Rattle.dso_law.specs.Entries.{by_event, entries_of}
use Rattle.dso_law.specs.ServerReadings.{counted}
use Rattle.dso_law.specs.Settings.{Settings}
use Rattle.dso_law.specs.Store.{stored}
use Rattle.dso_legal.specs.ClassesKept.{class_asked, class_by, class_by_reply, class_made}
use Rattle.dso_legal.specs.Lawful.{AllFollow}
use Rattle.dso_lookup.specs.Search.{is_listed}
use Rattle.dso_gc_law.proofs.garbage.Bare.{unstored}
use Rattle.dso_run.proofs.sweeping.Lists.{no_more}

-- the objects that a reply makes, an event, and the entries of a journal; object 0 is there from the start
abbrev with_reply : Reply → List ℕ → List ℕ
with_reply (reply.Made o) before = o ∷ before
with_reply r before = before

abbrev with_event : Event → List ℕ → List ℕ
with_event (Act t request r woken) before = with_reply r before
with_event (Lost c) before = before

abbrev made_objects : List Entry → List ℕ
made_objects [] = 0 ∷ []
made_objects (e ∷ es) = by_event with_event e.event (made_objects es)

-- each entry makes one at most
reply_adds : (r : Reply) (before : List ℕ) → length (with_reply r before) ≤ suc (length before)
reply_adds (reply.Made o) before = omega arith
reply_adds reply.Done before = omega arith
reply_adds (reply.Seen class n) before = omega arith
reply_adds (reply.Val v) before = omega arith
reply_adds reply.Local before = omega arith
reply_adds (reply.Refused fault) before = omega arith

event_adds : (event : Option Event) (before : List ℕ) → length (by_event with_event event before) ≤ suc (length before)
event_adds None before = omega arith
event_adds (Some (Act t request r woken)) before = reply_adds r before
event_adds (Some (Lost c)) before = omega arith

few_made : (es : List Entry) → length (made_objects es) ≤ suc (length es)
few_made [] = omega arith
few_made (e ∷ es) =
    let one = event_adds e.event (made_objects es) in
    let before = few_made es in
    omega (arith, one, before)

-- what a reply made is among them, and so is what was before
made_by_reply : (shape : Shape) (o : ℕ) (request : Request) (r : Reply) (class : Option (ClassId × ℕ)) (before : List ℕ)
    → (class ≢ None → IsIn before o) → class_by_reply o request r class ≢ None → IsIn (with_reply r before) o
made_by_reply shape o request (reply.Made made) class before earlier some = by (eqb made o) earlier some
  where
    by : (is : Bool) → (class ≢ None → IsIn before o) → cond is (class_asked request) class ≢ None → (is || is_listed o before) ≡ true
    by true earlier some = refl
    by false earlier some = earlier some
made_by_reply shape o request reply.Done class before earlier some = earlier some
made_by_reply shape o request (reply.Seen c n) class before earlier some = earlier some
made_by_reply shape o request (reply.Val v) class before earlier some = earlier some
made_by_reply shape o request reply.Local class before earlier some = earlier some
made_by_reply shape o request (reply.Refused fault) class before earlier some = earlier some

-- and by an event
made_by_event : (shape : Shape) (o : ℕ) (event : Option Event) (class : Option (ClassId × ℕ)) (before : List ℕ)
    → (class ≢ None → IsIn before o) → by_event (class_by o) event class ≢ None → IsIn (by_event with_event event before) o
made_by_event shape o None class before earlier some = earlier some
made_by_event shape o (Some (Act t request r woken)) class before earlier some = made_by_reply shape o request r class before earlier some
made_by_event shape o (Some (Lost c)) class before earlier some = earlier some

-- each object that was made is among them
made_listed : (shape : Shape) (o : ℕ) (es : List Entry) → class_made shape o es ≢ None → IsIn (made_objects es) o
made_listed shape o [] some = by (Roots, shape.roots) (eqb o 0) refl some
  where
    by : (class : ClassId × ℕ) (is : Bool) → eqb o 0 ≡ is → cond is (Some class) None ≢ None → (eqb 0 o || false) ≡ true
    by class true is some = grind (arith, nat_tests, is)
    by class false is some = absurd (some refl)
made_listed shape o (e ∷ es) some = made_by_event shape o e.event (class_made shape o es) (made_objects es) (made_listed shape o es) some

-- Different objects that are stored after the entries of a journal are no more than its entries, and one.
pub few_stored : (p : Settings) (next : ThreadId → List Event → Option Request) (es : List Entry) → AllFollow p next es → (objects : List ℕ)
    → IsDistinct eqb objects → ((o : ℕ) → IsIn objects o → stored p.shape o (counted (entries_of Server es)) ≢ None) → length objects ≤ suc (length es)
few_stored p next es follow objects different there =
    let within = no_more objects (made_objects es) different
    (λ o is. made_listed p.shape o es (λ unmade. there o is (unstored p next es follow o unmade))) in
    let few = few_made es in
    omega (arith, within, few)
