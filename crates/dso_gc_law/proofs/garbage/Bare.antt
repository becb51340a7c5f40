-- An object that nobody has made is bare: the server has no body of it and no client a copy, so no edge goes from it.
use Rattle.std.proofs.Common.{ℕ, ◌≡◌, inl, inr, refl, sym, ◌∙◌, ap, Bool, true, Option, Some, None, List, ◌∷◌, length}
use Rattle.dso_base.specs.declared.journal.Entry.{Entry}
use Rattle.dso_base.specs.declared.journal.Node.TheVariants.{Server, Client}
use Rattle.dso_base.specs.declared.lock.ThreadId.{ThreadId}
use Rattle.dso_base.specs.declared.record.Body.{Body}
use Rattle.dso_base.specs.declared.request.Event.{Event}
use Rattle.dso_base.specs.declared.request.Request.{Request}
use Rattle.dso_base.specs.declared.value.ClassId.{ClassId}
use Rattle.dso_base.specs.declared.value.Value.{Value}
use Rattle.dso_base.specs.Block.{body_names}
use Rattle.dso_law.specs.Settings.{Settings}
use Rattle.dso_law.specs.Entries.{entries_of}
use Rattle.dso_law.specs.HeldBody.{held_body}
use Rattle.dso_law.specs.ServerReadings.{counted}
use Rattle.dso_law.specs.Store.{stored}
use Rattle.dso_law.proofs.core.Bodies.{bodies_are_held}
use Rattle.dso_legal.specs.ClassesKept.{class_made}
use Rattle.dso_legal.specs.Collection.{IsEdge}
use Rattle.dso_legal.specs.Lawful.{AllFollow}
use Rattle.dso_legal.proofs.fitting.Classes.{keeps_classes}
use Rattle.dso_legal.proofs.fitting.ClassesMade.{class_stays}
use Rattle.dso_legal.proofs.objects.ResidentServer.{IsOf, stored_is_of}

-- there is something or nothing
something : {X : Type 0} (x : Option X) (y : X) → x ≡ None → x ≡ Some y → ⊥
something None y none is = cc is
something (Some z) y none is = cc none

-- no body names nothing
pub no_name : (body : Option Body) (b : ℕ) → body ≡ None → body_names body b ≡ true → ⊥
no_name None b none is = cc is
no_name (Some body) b none is = cc none

module _ (p : Settings) (next : ThreadId → List Event → Option Request) where
  -- the server has no body of it
  pub unstored : (es : List Entry) → AllFollow p next es → (a : ℕ) → class_made p.shape a es ≡ None
      → stored p.shape a (counted (entries_of Server es)) ≡ None
  unstored es follow a unmade = by (stored p.shape a server) refl (stored_is_of p.shape a server)
    where
      server : List Entry
      server = counted (entries_of Server es)

      by : (body : Option Body) → stored p.shape a server ≡ body → IsOf a body → body ≡ None
      by None is of = refl
      by (Some body) is of = absurd (something (class_made p.shape a es) (body.class, length body.values) unmade
          (ap (λ o. class_made p.shape o es) (sym of) ∙ (keeps_classes p next es follow).graph a body is))

  -- nor a client a copy
  pub unheld : (es : List Entry) → AllFollow p next es → (c a : ℕ) → class_made p.shape a es ≡ None
      → held_body a (entries_of (Client c) es) ≡ None
  unheld es follow c a unmade = by (held_body a its) refl
    where
      its : List Entry
      its = entries_of (Client c) es

      by : (body : Option Body) → held_body a its ≡ body → body ≡ None
      by None is = refl
      by (Some body) is = absurd (something (class_made p.shape a es) (body.class, length body.values) unmade
          ((keeps_classes p next es follow).copies c a body.class (length body.values)
          ((bodies_are_held a its).class body is)))

  -- who wasn't made after one entry more wasn't before
  pub unmade_before : (e : Entry) (es : List Entry) → AllFollow p next (e ∷ es) → (o : ℕ)
      → class_made p.shape o (e ∷ es) ≡ None → class_made p.shape o es ≡ None
  unmade_before e es follow o unmade = by (class_made p.shape o es) refl
    where
      by : (class : Option (ClassId × ℕ)) → class_made p.shape o es ≡ class → class ≡ None
      by None is = refl
      by (Some class) is = absurd (something (class_made p.shape o (e ∷ es)) class unmade
          (class_stays p.shape p next e es follow o class is))

  -- So no edge goes from it.
  pub no_edge : (frames : ThreadId → List Event → List Value) (kept : ℕ → Bool) (es : List Entry) → AllFollow p next es
      → (a b : ℕ) → class_made p.shape a es ≡ None → IsEdge p next frames kept es a b → ⊥
  no_edge frames kept es follow a b unmade (inl is) =
      no_name (stored p.shape a (counted (entries_of Server es))) b (unstored es follow a unmade) is
  no_edge frames kept es follow a b unmade (inr (c, counts, is)) =
      no_name (held_body a (entries_of (Client c) es)) b (unheld es follow c a unmade) is
