-- A client's copies are within their objects: a value is held only of a field below the size with which the object was
-- made. So the copy of a field is a value of the body held.
use Rattle.std.proofs.Common.{ℕ, ◌<◌, ◌≡◌, refl, sym, ◌∙◌, ap, subst, Bool, true, false, cond, ltb, is_some, Option}
use Rattle.std.proofs.Common.{Some, None, List, ◌∷◌, length, slice_get}
use Rattle.std.proofs.lemmas.Bool.{ltb-true}
use Rattle.dso_base.specs.declared.journal.Entry.{Entry}
use Rattle.dso_base.specs.declared.journal.Node.TheVariants.{Client}
use Rattle.dso_base.specs.declared.lock.ThreadId.{ThreadId}
use Rattle.dso_base.specs.declared.record.Body.{Body}
use Rattle.dso_base.specs.declared.request.Event.{Event}
use Rattle.dso_base.specs.declared.request.Event.TheVariants.{Act}
use Rattle.dso_base.specs.declared.request.Reply.{Reply}
use Rattle.dso_base.specs.declared.request.Reply.TheVariants.{Done, Made}
use Rattle.dso_base.specs.declared.request.Request.{Request}
use Rattle.dso_base.specs.declared.request.Request.TheVariants.{New, Put, Print}
use Rattle.dso_base.specs.declared.value.ClassId.{ClassId}
use Rattle.dso_base.specs.declared.value.ClassId.TheVariants.{Roots}
use Rattle.dso_base.specs.declared.value.Value.{Value}
use Rattle.dso_plain.proofs.keys.SameKeys.{number_self}
use Rattle.dso_law.specs.Settings.{Settings}
use Rattle.dso_law.specs.Entries.{entries_of}
use Rattle.dso_law.specs.Copies.{is_resident, value_held, copy_of}
use Rattle.dso_law.specs.CoreLaws.{TellsBody}
use Rattle.dso_law.specs.HeldBody.{held_body}
use Rattle.dso_law.specs.Replies.{woken_by, class_known, put_answer, answer_put, reply_of}
use Rattle.dso_law.proofs.core.Bodies.{bodies_are_held}
use Rattle.dso_legal.specs.ClassesKept.{class_made}
use Rattle.dso_legal.specs.Lawful.{AllFollow}
use Rattle.dso_legal.proofs.fitting.Carried.{C, Brings, Keeps, AllHave, carried}
use Rattle.dso_legal.proofs.fitting.Classes.{keeps_classes}
use Rattle.dso_legal.proofs.fitting.ClassesMade.{class_of_new, class_stays}
use Rattle.dso_legal.proofs.fitting.Messages.{ClassHas, ValueHas}
use Rattle.dso_legal.proofs.fitting.Replies.{known_has}

-- the value that client c sees of the object's field stands in the body that it holds
pub record IsInBody (c o f : ℕ) (v : Value) (es : List Entry) : Type 0 where
  pub body : Body
  pub held : held_body o (entries_of (Client c) es) ≡ Some body
  pub value : slice_get body.values f ≡ Some v

module _ (p : Settings) (next : ThreadId → List Event → Option Request) where
  -- the object was made with such a field
  record IsWithin (now : List Entry) (o f : ℕ) (v : Value) : Type 0 where
    class : ClassId
    size : ℕ
    made : class_made p.shape o now ≡ Some (class, size)
    below : f < size

  -- of values nothing is said
  abbrev AnyValue : List Entry → Value → Type 0
  AnyValue now v = Unit {0}

  -- what is held then, with such fields
  abbrev Have : List Entry → Type 0
  Have es = AllHave p next IsWithin AnyValue AnyValue es

  -- so of a class, and of a value, if there is one
  abbrev ClassIs : List Entry → ℕ → Option (ClassId × ℕ) → Type 0
  ClassIs es o = ClassHas (C p next IsWithin AnyValue AnyValue es) (IsWithin es) (AnyValue es) (AnyValue es) o

  abbrev ValueIs : List Entry → ℕ → ℕ → Option Value → Type 0
  ValueIs es o f = ValueHas (C p next IsWithin AnyValue AnyValue es) (IsWithin es) (AnyValue es) (AnyValue es) o f

  -- it is made so ever after
  within_on : (e : Entry) (es : List Entry) → AllFollow p next (e ∷ es) → (o f : ℕ) (v : Value) → IsWithin es o f v
      → IsWithin (e ∷ es) o f v
  within_on e es follow o f v h = record {
    class = h.class;
    size = h.size;
    made = class_stays p.shape p next e es follow o (h.class, h.size) h.made;
    below = h.below;
  }

  -- a put that is done is to such a field
  module _ (e : Entry) (es : List Entry) (follow : AllFollow p next (e ∷ es)) (t : ThreadId) (own : List Entry) where
    put_class : (o f : ℕ) (v : Value) (class : Option (ClassId × ℕ)) → ClassIs es o class
        → answer_put p t o f class own ≡ Some Done → IsWithin (e ∷ es) o f v
    put_class o f v None h answered = absurd (cc answered)
    put_class o f v (Some class) h answered = by (ltb f class.1) refl answered
      where
        by : (b : Bool) → ltb f class.1 ≡ b → cond b (Some (put_answer p t o f class.0 own)) None ≡ Some Done
            → IsWithin (e ∷ es) o f v
        by true less answered = record {
          class = class.0;
          size = class.1;
          made = class_stays p.shape p next e es follow o (class.0, class.1) h;
          below = ltb-true f class.1 less;
        }
        by false less answered = absurd (cc answered)

  -- so of each act
  brings : (e : Entry) (es : List Entry) → AllFollow p next (e ∷ es) → Have es → (c : ℕ) (t : ThreadId)
      (request : Request) (reply : Reply) (woken : Option ThreadId) → e.event ≡ Some (Act t request reply woken)
      → reply_of p t request (entries_of (Client c) es) ≡ Some reply
      → Brings p next IsWithin AnyValue AnyValue (e ∷ es) request reply
  brings e es follow have c t (New class n) (Made o) woken is answered = λ f less. record {
    class = class;
    size = n;
    made = class_of_new p.shape e es t class n o woken is;
    below = less;
  }
  brings e es follow have c t (Put o f v) Done woken is answered =
      let own : List Entry = entries_of (Client c) es in
      put_class e es follow t own o f v (class_known p t o own)
      (known_has (C p next IsWithin AnyValue AnyValue es) (IsWithin es) (AnyValue es) (AnyValue es) p t own
      ((have.clients c).works t) (have.clients c).copies o) answered
  brings e es follow have c t (Print v) Done woken is answered = tt
  brings e es follow have c t request reply woken is answered = tt

  -- this is kept along a journal
  keeps : Keeps p next IsWithin AnyValue AnyValue
  keeps = record {
    fields = within_on;
    values = λ e es follow v h. tt;
    outs = λ e es follow v h. tt;
    tells = λ es. record { read = λ o f v h. tt; woken = λ b. tt };
    roots = λ r less. record {
      class = Roots;
      size = p.shape.roots;
      made = ap (λ b. cond b (Some (Roots, p.shape.roots)) None) (number_self 0);
      below = less;
    };
    acts = λ e es follow have c it. brings e es follow have c it.thread it.request it.reply
        (woken_by it.request it.reply (entries_of (Client c) es)) it.event it.answered;
  }

  -- a value is held only of such a field
  held_within : (es : List Entry) → AllFollow p next es → (c o f : ℕ) (v : Value)
      → value_held o f (entries_of (Client c) es) ≡ Some v → IsWithin es o f v
  held_within es follow c o f v is =
      by (value_held o f (entries_of (Client c) es)) ((have.clients c).copies.value o f) is
    where
      have : Have es
      have = carried p next IsWithin AnyValue AnyValue keeps es follow

      by : (at : Option Value) → ValueIs es o f at → at ≡ Some v → IsWithin es o f v
      by None h is = absurd (cc is)
      by (Some w) h is =
          let same : w ≡ v = cc is in
          subst (IsWithin es o f) same h

  -- The copy of a field is a value of the body held.
  pub copy_in_body : (es : List Entry) → AllFollow p next es → (c o f : ℕ) (v : Value)
      → copy_of o f (entries_of (Client c) es) ≡ Some v → IsInBody c o f v es
  copy_in_body es follow c o f v copied = by (is_resident o own) refl copied
    where
      own : List Entry
      own = entries_of (Client c) es

      tells : TellsBody o own
      tells = bodies_are_held o own

      below : (body : Body) → held_body o own ≡ Some body → IsWithin es o f v → f < length body.values
      below body is within =
          let made : class_made p.shape o es ≡ Some (body.class, length body.values) =
          (keeps_classes p next es follow).copies c o body.class (length body.values) (tells.class body is) in
          let pairs : (within.class, within.size) ≡ (body.class, length body.values) = one (sym within.made ∙ made) in
          subst (λ n. f < n) (ap (λ (x : ClassId × ℕ). x.1) pairs) within.below
        where
          one : {a b : ClassId × ℕ} → Some a ≡ Some b → a ≡ b
          one same = cc same

      with_body : (at : Option Body) → held_body o own ≡ at → is_some at ≡ true → value_held o f own ≡ Some v
          → IsInBody c o f v es
      with_body None is there held = absurd (cc there)
      with_body (Some body) is there held = record {
        body = body;
        held = is;
        value = sym (tells.fields body f is (below body is (held_within es follow c o f v held))) ∙ copied;
      }

      by : (b : Bool) → is_resident o own ≡ b → cond b (value_held o f own) None ≡ Some v → IsInBody c o f v es
      by true resident held = with_body (held_body o own) refl (tells.resident ∙ resident) held
      by false absent held = absurd (cc held)
