-- A thread makes an object only by a New, and with its client's next id.
use Rattle.std.proofs.Common.{ℕ, ◌≡◌, Bool, true, false, cond, ltb, Option, Some, None, List, [], ◌∷◌}
use Rattle.std.specs.Prelude.{option_map}
use Rattle.dso_base.specs.declared.journal.Entry.{Entry}
use Rattle.dso_base.specs.declared.lock.Level.{Level}
use Rattle.dso_base.specs.declared.lock.Level.TheVariants.{Read, Write}
use Rattle.dso_base.specs.declared.lock.ThreadId.{ThreadId}
use Rattle.dso_base.specs.declared.request.Reply.{Reply}
use Rattle.dso_base.specs.declared.request.Reply.TheVariants.{Done, Made, Seen, Val, Local}
use Rattle.dso_base.specs.declared.request.Request.{Request}
use Rattle.dso_base.specs.declared.request.Request.TheVariants.{New, Look, Get, Put, Enter, Wait, Timeout, Notify, NotifyAll}
use Rattle.dso_base.specs.declared.value.ClassId.{ClassId}
use Rattle.dso_base.specs.declared.value.Value.{Value}
use Rattle.dso_base.specs.Shape.{guard_of}
use Rattle.dso_law.specs.Settings.{Settings}
use Rattle.dso_law.specs.Threads.{Held, own, is_private, is_local, locks_of, hold_of}
use Rattle.dso_law.specs.Records.{next_id}
use Rattle.dso_law.specs.RequestNeeds.{hold_level}
use Rattle.dso_law.specs.ClientWaiters.{is_marked}
use Rattle.dso_law.specs.Replies.{put_reply, enter_reply, monitor_reply, timeout_reply, class_known, value_seen, value_in, put_answer, answer_put, reply_of}

-- the request makes a new object
abbrev pub IsNew : Request → Type 0
IsNew (New class n) = Unit {0}
IsNew request = ⊥

-- no other reply makes an object
no_look : (class : Option (ClassId × ℕ)) (o : ℕ) → option_map (λ (known : ClassId × ℕ). Seen known.0 known.1) class ≡ Some (Made o) → ⊥
no_look None o e = cc e
no_look (Some class) o e = cc e

no_get : (value : Option Value) (o : ℕ) → option_map Val value ≡ Some (Made o) → ⊥
no_get None o e = cc e
no_get (Some value) o e = cc e

no_put : (b : Bool) (level : Option Level) (holds : List Held) (o : ℕ) → cond b Done (put_reply level holds) ≡ Made o → ⊥
no_put true level holds o e = cc e
no_put false (Some Write) holds o e = cc e
no_put false (Some Read) holds o e = cc e
no_put false None [] o e = cc e
no_put false None (held ∷ holds) o e = cc e

no_field : (b : Bool) (reply : Reply) (o : ℕ) → (reply ≡ Made o → ⊥) → cond b (Some reply) None ≡ Some (Made o) → ⊥
no_field true reply o never e = never (cc e)
no_field false reply o never e = cc e

no_answer : (p : Settings) (t : ThreadId) (x f : ℕ) (class : Option (ClassId × ℕ)) (es : List Entry) (o : ℕ) → answer_put p t x f class es ≡ Some (Made o) → ⊥
no_answer p t x f None es o e = cc e
no_answer p t x f (Some class) es o e = no_field (ltb f class.1) (put_answer p t x f class.0 es) o
    (no_put (is_private p.shape t x es) (hold_level (hold_of t (guard_of p.shape class.0 x f) es)) (locks_of t es).holds o) e

no_enter : (b : Bool) (level : Level) (hold : Option Level) (o : ℕ) → Some (cond b Local (enter_reply level hold)) ≡ Some (Made o) → ⊥
no_enter true level hold o e = cc e
no_enter false Write (Some Read) o e = cc e
no_enter false Write (Some Write) o e = cc e
no_enter false Write None o e = cc e
no_enter false Read hold o e = cc e

no_monitor : (level : Option Level) (o : ℕ) → Some (monitor_reply level) ≡ Some (Made o) → ⊥
no_monitor (Some Write) o e = cc e
no_monitor (Some Read) o e = cc e
no_monitor None o e = cc e

no_timeout : (woken : Bool) (o : ℕ) → Some (timeout_reply woken) ≡ Some (Made o) → ⊥
no_timeout true o e = cc e
no_timeout false o e = cc e

pub only_new : (p : Settings) (t : ThreadId) (request : Request) (es : List Entry) (o : ℕ) → reply_of p t request es ≡ Some (Made o) → IsNew request
only_new p t (New class n) es o e = tt
only_new p t (Look x) es o e = no_look (class_known p t x es) o e
only_new p t (Get x f) es o e = no_get (value_in p (own p.shape t x es) f (value_seen p t x f es)) o e
only_new p t (Put x f v) es o e = no_answer p t x f (class_known p t x es) es o e
only_new p t (Enter l level) es o e = no_enter (is_local p.shape t l es) level (hold_level (hold_of t l es)) o e
only_new p t (Wait l) es o e = no_monitor (hold_level (hold_of t l es)) o e
only_new p t (Notify l) es o e = no_monitor (hold_level (hold_of t l es)) o e
only_new p t (NotifyAll l) es o e = no_monitor (hold_level (hold_of t l es)) o e
only_new p t (Timeout l) es o e = no_timeout (is_marked t es) o e
only_new p t request es o e = cc e

-- an object is made with the next id
made_is : (id : Option ℕ) (o : ℕ) → option_map Made id ≡ Some (Made o) → id ≡ Some o
made_is None o e = absurd (cc e)
made_is (Some x) o e = cc e

pub makes_next : (p : Settings) (t : ThreadId) (request : Request) (es : List Entry) (o : ℕ) → reply_of p t request es ≡ Some (Made o) → next_id es ≡ Some o
makes_next p t (New class n) es o e = made_is (next_id es) o e
makes_next p t request es o e = absurd (only_new p t request es o e)
