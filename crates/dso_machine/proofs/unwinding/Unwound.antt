-- What follows a fault: the thread unwinds.
use Rattle.std.proofs.Common.{◌≡◌, refl, Bool, true, false, cond, List, [], ◌∷◌, length, Option, Some, subst, sym, ap, ◌∙◌}
use Rattle.std.specs.Prelude.{slice_get}
use Rattle.dso_base.specs.declared.lock.Grade.{Grade}
use Rattle.dso_base.specs.declared.lock.Grade.TheVariants as grade
use Rattle.dso_base.specs.declared.lock.LockName.{LockName}
use Rattle.dso_base.specs.declared.request.Event.{Event}
use Rattle.dso_base.specs.declared.request.Event.TheVariants.{Act, Lost}
use Rattle.dso_base.specs.declared.request.Fault.{Fault}
use Rattle.dso_base.specs.declared.request.Reply.{Reply}
use Rattle.dso_base.specs.declared.request.Reply.TheVariants.{Done, Refused}
use Rattle.dso_base.specs.declared.request.Request.{Request}
use Rattle.dso_base.specs.declared.request.Request.TheVariants.{Exit, End, Settle}
use Rattle.dso_base.specs.Following.{IsListed}
use Rattle.dso_machine.specs.Next.{finish, replies_in, request_of}
use Rattle.dso_machine.specs.Outcome.{State, Outcome, Wants, Gives, Leaves, Fails, Hears, Over, Stopped, Meaning, on_reply, with_outer, asked, done, on_value, settling}
use Rattle.dso_machine.specs.Unwinding.{outer, with_replies, Hold, is_synchronous, hold_at, Layer, UsesValue, HoldsAgain, ReturnsTo, LeavesLock, in_layer, in_context, holds_around, unwinding}
use Rattle.dso_machine.proofs.unwinding.Tidy.{Phase, Goes, Settles, left_at, Tidy, wants_within}
use Rattle.dso_machine.proofs.unwinding.Runs.{Run, Leaving, the_request, wants_none, facts}
use Rattle.dso_machine.proofs.unwinding.RunsOn.{Follow}

-- ---- at a fault

-- what a thread comes to that is at a fault in this context
abbrev pub ComesTo : Fault → List Layer → State → (List Reply → Outcome) → Type 0
ComesTo fault context at w = (rs : List Reply) → w rs ≡ finish (in_context context (Fails fault (with_replies rs at)))

-- what it comes to behind an exit
abbrev pub SettlesTo : Fault → Grade → List Layer → State → (List Reply → Outcome) → Type 0
SettlesTo fault g context at w = (rs : List Reply) → w rs ≡ finish (in_context context (settling [] g (Fails fault) (with_replies rs at)))

-- the innermost lock is left next
pub leaves_next : (fault : Fault) (l : LockName) (g : Grade) (context : List Layer) (at : State) (w : List Reply → Outcome) → ComesTo fault (LeavesLock l g ∷ context) at w → request_of (w []) ≡ Some (Exit l)
leaves_next fault l g context at w comes = ap request_of (comes [] ∙ ap finish (wants_within context (Exit l)))

-- after an entry at synchronous write the thread settles next
pub settles_next : (fault : Fault) (context : List Layer) (at : State) (w : List Reply → Outcome) → SettlesTo fault grade.Synchronous context at w → request_of (w []) ≡ Some Settle
settles_next fault context at w comes = ap request_of (comes [] ∙ ap finish (wants_within context Settle))

-- at a fault a thread does not settle next
pub not_settling : (fault : Fault) (context : List Layer) (at : State) (w : List Reply → Outcome) → ComesTo fault context at w → request_of (w []) ≡ Some Settle → ⊥
not_settling fault [] at w comes wanted = cc (sym (ap request_of (comes [])) ∙ wanted)
not_settling fault (UsesValue f ∷ context) at w comes wanted = not_settling fault context at w comes wanted
not_settling fault (HoldsAgain outer ∷ context) at w comes wanted = not_settling fault context (with_outer outer at) w comes wanted
not_settling fault (ReturnsTo caller ∷ context) at w comes wanted = not_settling fault context (record at { environment = caller }) w comes wanted
not_settling fault (LeavesLock l g ∷ context) at w comes wanted = cc (sym (leaves_next fault l g context at w comes) ∙ wanted)

-- a run that settles
pub record Settled (hs : List Hold) (w : List Reply → Outcome) : Type 0 where
  pub wanted : request_of (w []) ≡ Some Settle
  pub run : Run Goes hs (λ rs. w (Done ∷ rs))

pub settled_body : {p : Phase} {hs : List Hold} (w o : List Reply → Outcome) → p ≡ Settles → Tidy p hs o → ((rs : List Reply) → w rs ≡ finish (o rs)) → Settled hs w
settled_body w o so (Tidy.settles wants go) is = record { wanted = ap request_of (is [] ∙ ap finish wants); run = Run.within (λ rs. o (Done ∷ rs)) go (λ rs. is (Done ∷ rs)) }
settled_body w o so (Tidy.asks q wants simple fails go) is = absurd (cc so)
settled_body w o so (Tidy.enters l g wants entry fails inside other) is = absurd (cc so)
settled_body w o so (Tidy.exits h wants go) is = absurd (cc so)
settled_body w o so (Tidy.waits l wants fails asleep other) is = absurd (cc so)
settled_body w o so (Tidy.ticks l wants go) is = absurd (cc so)
settled_body w o so (Tidy.times_out l wants out woken) is = absurd (cc so)
settled_body w o so (Tidy.resumes l more wants go) is = absurd (cc so)
settled_body w o so (Tidy.ends e comes end) is = absurd (cc so)
settled_body w o so (Tidy.stops comes) is = absurd (cc so)

pub settled : (p : Phase) (hs : List Hold) (w : List Reply → Outcome) → p ≡ Settles → Run p hs w → Settled hs w
settled p hs w so (Run.within o tidy is) = settled_body w o so tidy is
settled p hs w so (Run.over is) = absurd (cc so)

-- a hold by its two parts
pub hold_is : (h : Hold) (l : LockName) (g : Grade) → h.lock ≡ l → h.synchronous ≡ is_synchronous g → hold_at l g ≡ h
hold_is h l g lock synchronous = ap (λ x. record { lock = x; synchronous = is_synchronous g }) (sym lock) ∙ ap (λ b. record { lock = h.lock; synchronous = b }) (sym synchronous)

-- the holds that the context ends are those that the thread has
module _ (fault : Fault) (context : List Layer) (agree : (at : State) (p : Phase) (hs : List Hold) (w : List Reply → Outcome) → Run p hs w → ComesTo fault context at w → holds_around context ≡ hs) where
  -- what is so behind an exit from an entry at no synchronous write,
  agree_plain : (at : State) (synchronous : Bool) (hs : List Hold) (w : List Reply → Outcome) → Run (left_at synchronous) hs w → ComesTo fault context at w
      → (synchronous ≡ false) × (holds_around context ≡ hs)
  agree_plain at true hs w run comes = absurd (not_settling fault context at w comes (settled Settles hs w refl run).wanted)
  agree_plain at false hs w run comes = (refl, agree at Goes hs w run comes)

  -- and from one at synchronous write
  agree_settling : (at : State) (synchronous : Bool) (hs : List Hold) (w : List Reply → Outcome) → Run (left_at synchronous) hs w → SettlesTo fault grade.Synchronous context at w
      → (synchronous ≡ true) × (holds_around context ≡ hs)
  agree_settling at true hs w run comes = (refl, agree (record at { moves = 0 }) Goes hs (λ rs. w (Done ∷ rs)) (settled Settles hs w refl run).run (λ rs. comes (Done ∷ rs)))
  agree_settling at false hs w run comes = absurd (goes_not ((facts Goes hs w run Settle (settles_next fault context at w comes)).settles refl))
    where
      goes_not : Goes ≡ Settles → ⊥
      goes_not same = cc same

  -- whatever the grade, the run tells it and the holds around
  agree_left : (g : Grade) (at : State) (synchronous : Bool) (hs : List Hold) (w : List Reply → Outcome) → Run (left_at synchronous) hs w → SettlesTo fault g context at w
      → (synchronous ≡ is_synchronous g) × (holds_around context ≡ hs)
  agree_left grade.Read at synchronous hs w run comes = agree_plain at synchronous hs w run comes
  agree_left grade.Write at synchronous hs w run comes = agree_plain at synchronous hs w run comes
  agree_left grade.Synchronous at synchronous hs w run comes = agree_settling at synchronous hs w run comes

pub holds_agree : (fault : Fault) (context : List Layer) (at : State) (p : Phase) (hs : List Hold) (w : List Reply → Outcome) → Run p hs w → ComesTo fault context at w → holds_around context ≡ hs
holds_agree fault [] at p hs w run comes = sym ((facts p hs w run (End (Some fault)) (ap request_of (comes []))).ends (Some fault) refl)
holds_agree fault (UsesValue f ∷ context) at p hs w run comes = holds_agree fault context at p hs w run comes
holds_agree fault (HoldsAgain outer ∷ context) at p hs w run comes = holds_agree fault context (with_outer outer at) p hs w run comes
holds_agree fault (ReturnsTo caller ∷ context) at p hs w run comes = holds_agree fault context (record at { environment = caller }) p hs w run comes
holds_agree fault (LeavesLock l g ∷ context) at p hs w run comes =
    let here : Leaving l hs w = (facts p hs w run (Exit l) (leaves_next fault l g context at w comes)).exits l refl in
    let so : (here.front.synchronous ≡ is_synchronous g) × (holds_around context ≡ outer hs) =
    agree_left fault context (holds_agree fault context) g (record at { moves = 0 }) here.front.synchronous (outer hs) (λ rs. w (Done ∷ rs)) here.run (λ rs. comes (Done ∷ rs)) in
    ap (λ ks. hold_at l g ∷ ks) so.1 ∙ ap (λ x. x ∷ outer hs) (hold_is here.front l g here.lock so.0) ∙ sym here.is

-- an exit is answered Done, and so is settling
pub after_one : (q : Request) (w : List Reply → Outcome) (more : List Event) (next : Option Request) → ((r : Reply) → IsListed q r → r ≡ Done)
    → (Follow (λ rs. w (Done ∷ rs)) more → request_of (w (Done ∷ replies_in more)) ≡ next)
    → (r : Reply) → IsListed q r → Follow (λ rs. w (r ∷ rs)) more → request_of (w (r ∷ replies_in more)) ≡ next
after_one q w more next only then r listed follows =
    let done_is : Done ≡ r = sym (only r listed) in
    subst (λ x. request_of (w (x ∷ replies_in more)) ≡ next) done_is (then (subst (λ x. Follow (λ rs. w (x ∷ rs)) more) (only r listed) follows))

pub exit_done : (l : LockName) (r : Reply) → IsListed (Exit l) r → r ≡ Done
exit_done l Done listed = refl
exit_done l r listed = absurd listed

pub settle_done : (r : Reply) → IsListed Settle r → r ≡ Done
settle_done Done listed = refl
settle_done r listed = absurd listed

-- Behind an exit, what is asked is Settle where the entry was at synchronous write, and then the rest of the unwinding.
pub unwound_settling : (fault : Fault) (context : List Layer)
    → ((at : State) (w : List Reply → Outcome) → ComesTo fault context at w → (more : List Event) → Follow w more → request_of (w (replies_in more)) ≡ slice_get (unwinding fault (holds_around context)) (length more))
    → (g : Grade) (at : State) (w : List Reply → Outcome) → SettlesTo fault g context at w → (more : List Event) → Follow w more
    → request_of (w (replies_in more)) ≡ slice_get (cond (is_synchronous g) (Settle ∷ unwinding fault (holds_around context)) (unwinding fault (holds_around context))) (length more)
unwound_settling fault context then grade.Read at w comes more follows = then at w comes more follows
unwound_settling fault context then grade.Write at w comes more follows = then at w comes more follows
unwound_settling fault context then grade.Synchronous at w comes [] follows = settles_next fault context at w comes
unwound_settling fault context then grade.Synchronous at w comes (Act t q r woken ∷ more) follows =
    let same : Settle ≡ q = the_request (w []) Settle q (comes [] ∙ ap finish (wants_within context Settle)) follows.0 in
    after_one Settle w more (slice_get (unwinding fault (holds_around context)) (length more)) settle_done
    (then (record at { moves = 0 }) (λ rs. w (Done ∷ rs)) (λ rs. comes (Done ∷ rs)) more) r (subst (λ x. IsListed x r) (sym same) follows.1) follows.2
unwound_settling fault context then grade.Synchronous at w comes (Lost client ∷ more) follows = absurd follows

-- From a fault on, what is asked is the unwinding.
pub unwound : (fault : Fault) (context : List Layer) (at : State) (w : List Reply → Outcome) → ComesTo fault context at w → (more : List Event) → Follow w more
    → request_of (w (replies_in more)) ≡ slice_get (unwinding fault (holds_around context)) (length more)
unwound fault (UsesValue f ∷ context) at w comes more follows = unwound fault context at w comes more follows
unwound fault (HoldsAgain outer ∷ context) at w comes more follows = unwound fault context (with_outer outer at) w comes more follows
unwound fault (ReturnsTo caller ∷ context) at w comes more follows = unwound fault context (record at { environment = caller }) w comes more follows
unwound fault (LeavesLock l g ∷ context) at w comes [] follows = leaves_next fault l g context at w comes
unwound fault (LeavesLock l g ∷ context) at w comes (Act t q r woken ∷ more) follows =
    let same : Exit l ≡ q = the_request (w []) (Exit l) q (comes [] ∙ ap finish (wants_within context (Exit l))) follows.0 in
    after_one (Exit l) w more (slice_get (cond (is_synchronous g) (Settle ∷ unwinding fault (holds_around context)) (unwinding fault (holds_around context))) (length more)) (exit_done l)
    (unwound_settling fault context (unwound fault context) g (record at { moves = 0 }) (λ rs. w (Done ∷ rs)) (λ rs. comes (Done ∷ rs)) more) r (subst (λ x. IsListed x r) (sym same) follows.1) follows.2
unwound fault (LeavesLock l g ∷ context) at w comes (Lost client ∷ more) follows = absurd follows
unwound fault [] at w comes [] follows = ap request_of (comes [])
unwound fault [] at w comes (Act t q r woken ∷ []) follows = ap request_of (comes (r ∷ []))
unwound fault [] at w comes (Act t q r woken ∷ Act u p s by ∷ more) follows = absurd (wants_none (w (r ∷ [])) p (ap request_of (comes (r ∷ []))) follows.2.0)
unwound fault [] at w comes (Act t q r woken ∷ Lost client ∷ more) follows = absurd follows.2
unwound fault [] at w comes (Lost client ∷ more) follows = absurd follows

-- ---- no move is made while a thread unwinds

-- it wants something, or fails
abbrev pub IsUnwound : Outcome → Type 0
IsUnwound (Wants q env) = Unit {0}
IsUnwound (Fails fault u) = Unit {0}
IsUnwound o = ⊥

-- a part behind a request is unwound, answered Done or not,
pub done_unwound : (m : Meaning) → ((u : State) → IsUnwound (m u)) → (r : Reply) (u : State) → IsUnwound (on_value (λ v. m) (done r u))
done_unwound m then Done u = then u
done_unwound m then (Refused fault) u = tt
done_unwound m then r u = tt

pub told_unwound : (m : Meaning) → ((u : State) → IsUnwound (m u)) → (q : Request) (u : State) (rs : List Reply) → IsUnwound (on_value (λ v. m) (on_reply done (asked [] q u rs)))
told_unwound m then q u [] = tt
told_unwound m then q u (r ∷ rs) = done_unwound m then r (record u { moves = 0; replies = rs })

-- after an exit,
pub settling_unwound : (fault : Fault) (g : Grade) (u : State) → IsUnwound (settling [] g (Fails fault) u)
settling_unwound fault grade.Read u = tt
settling_unwound fault grade.Write u = tt
settling_unwound fault grade.Synchronous u = told_unwound (Fails fault) (λ u. tt) Settle u u.replies

-- in a layer,
pub layer_unwound : (layer : Layer) (o : Outcome) → IsUnwound o → IsUnwound (in_layer layer o)
layer_unwound (UsesValue f) (Wants q env) h = tt
layer_unwound (UsesValue f) (Fails fault u) h = tt
layer_unwound (HoldsAgain outer) (Wants q env) h = tt
layer_unwound (HoldsAgain outer) (Fails fault u) h = tt
layer_unwound (ReturnsTo caller) (Wants q env) h = tt
layer_unwound (ReturnsTo caller) (Fails fault u) h = tt
layer_unwound (LeavesLock l g) (Wants q env) h = tt
layer_unwound (LeavesLock l g) (Fails fault u) h = told_unwound (settling [] g (Fails fault)) (settling_unwound fault g) (Exit l) u u.replies
layer_unwound layer (Gives v u) h = absurd h
layer_unwound layer (Leaves v u) h = absurd h
layer_unwound layer (Hears r u) h = absurd h
layer_unwound layer Over h = absurd h
layer_unwound layer Stopped h = absurd h

-- and in a context
pub context_unwound : (context : List Layer) (o : Outcome) → IsUnwound o → IsUnwound (in_context context o)
context_unwound [] o h = h
context_unwound (layer ∷ context) o h = context_unwound context (in_layer layer o) (layer_unwound layer o h)

pub end_goes : (q : Request) (u : State) (rs : List Reply) → on_reply (λ r at. Over) (asked [] q u rs) ≡ Stopped → ⊥
end_goes q u [] e = cc e
end_goes q u (r ∷ rs) e = cc e

-- what is unwound is not stopped
pub unwound_goes : (o : Outcome) → IsUnwound o → finish o ≡ Stopped → ⊥
unwound_goes (Wants q env) h e = cc e
unwound_goes (Fails fault u) h e = end_goes (End (Some fault)) u u.replies e
unwound_goes (Gives v u) h e = absurd h
unwound_goes (Leaves v u) h e = absurd h
unwound_goes (Hears r u) h e = absurd h
unwound_goes Over h e = absurd h
unwound_goes Stopped h e = absurd h

-- what follows by what is wanted follows by the same
pub follow_same : (w v : List Reply → Outcome) → ((rs : List Reply) → request_of (w rs) ≡ request_of (v rs)) → (events : List Event) → Follow w events → Follow v events
follow_same w v same [] follows = tt
follow_same w v same (Act t q r woken ∷ events) follows = (sym (same []) ∙ follows.0, follows.1, follow_same (λ rs. w (r ∷ rs)) (λ rs. v (r ∷ rs)) (λ rs. same (r ∷ rs)) events follows.2)
follow_same w v same (Lost client ∷ events) follows = absurd follows
