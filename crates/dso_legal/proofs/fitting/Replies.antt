-- What a client answers tells only of classes and values that it has, of its thread's own objects and of its copies.
use Rattle.std.proofs.Common.{ℕ, ◌≡◌, ◌≢◌, refl, subst, Bool, true, false, cond, Option, Some, None, List, length, slice_get}
use Rattle.std.specs.Prelude.{option_map}
use Rattle.dso_base.specs.Block.{body_in}
use Rattle.dso_base.specs.declared.journal.Entry.{Entry}
use Rattle.dso_base.specs.declared.lock.ThreadId.{ThreadId}
use Rattle.dso_base.specs.declared.record.Body.{Body}
use Rattle.dso_base.specs.declared.request.Reply.{Reply}
use Rattle.dso_base.specs.declared.request.Reply.TheVariants.{Made, Seen, Val}
use Rattle.dso_base.specs.declared.request.Request.{Request}
use Rattle.dso_base.specs.declared.request.Request.TheVariants.{Look, Get, Tick, Timeout}
use Rattle.dso_base.specs.declared.value.ClassId.{ClassId}
use Rattle.dso_base.specs.declared.value.Value.{Value}
use Rattle.dso_base.specs.declared.value.Value.TheVariants as value
use Rattle.dso_base.specs.Following.{IsListed}
use Rattle.dso_law.specs.Settings.{Settings}
use Rattle.dso_law.specs.Threads.{own, or_else, work_of}
use Rattle.dso_law.specs.Copies.{is_resident, value_held, class_held, copy_of}
use Rattle.dso_law.specs.ClientWaiters.{is_marked}
use Rattle.dso_law.specs.Replies.{class_of_body, class_known, value_seen, value_in, timeout_reply, reply_of}
use Rattle.dso_legal.proofs.blocks.OwnActs.{reply_listed}
use Rattle.dso_legal.proofs.objects.FoundBodies.{found_is}
use Rattle.dso_legal.proofs.fitting.InHand.{BodyHas, WorkHas, found_has}
use Rattle.dso_legal.proofs.fitting.Messages.{ClassHas, ValueHas, value_of_sets}

module _ (C : ℕ → ClassId → ℕ → Type 0) (F : ℕ → ℕ → Value → Type 0) (V O : Value → Type 0) where
  -- what a look saw
  abbrev pub SawHas : Request → ClassId → ℕ → Type 0
  SawHas (Look o) class n = C o class n
  SawHas request class n = Unit {0}

  -- the object was made, and is not object 0
  pub record IsReal (o : ℕ) : Type 0 where
    pub real : o ≢ 0
    pub class : ClassId
    pub size : ℕ
    pub made : C o class size

  -- so of what a reply tells: what a look saw, a new object, a value
  abbrev pub ReplyHas : Request → Reply → Type 0
  ReplyHas request (Seen class n) = SawHas request class n
  ReplyHas request (Made o) = IsReal o
  ReplyHas request (Val v) = V v
  ReplyHas request reply = Unit {0}

  -- what is read may be told, and so what ticks and timeouts tell
  pub record MayTell : Type 0 where
    pub read : (o f : ℕ) (v : Value) → F o f v → V v
    pub woken : (b : Bool) → V (value.Bool b)

  -- so of a client's copies
  pub record CopiesHave (own : List Entry) : Type 0 where
    pub class : (o : ℕ) → ClassHas C F V O o (class_held o own)
    pub value : (o f : ℕ) → ValueHas C F V O o f (value_held o f own)

  module _ (p : Settings) (t : ThreadId) (es : List Entry) (work : WorkHas C F V O (work_of p.shape t es)) (copies : CopiesHave es) where
    -- the thread's own body of an object, if there is one
    abbrev OwnHas : ℕ → Option Body → Type 0
    OwnHas o None = Unit {0}
    OwnHas o (Some body) = (body.object ≡ o) × BodyHas C F V O body

    own_has : (o : ℕ) → OwnHas o (own p.shape t o es)
    own_has o = by (body_in o (work_of p.shape t es).privates) (body_in o (work_of p.shape t es).news) refl refl
      where
        by : (private new : Option Body) → body_in o (work_of p.shape t es).privates ≡ private → body_in o (work_of p.shape t es).news ≡ new → OwnHas o (or_else private new)
        by (Some body) new is other = (found_is o (work_of p.shape t es).privates body is, found_has C F V O o (work_of p.shape t es).privates body work.privates is)
        by None (Some body) is other = (found_is o (work_of p.shape t es).news body other, found_has C F V O o (work_of p.shape t es).news body work.news other)
        by None None is other = tt

    -- a copy
    copy_has : (o f : ℕ) → ValueHas C F V O o f (copy_of o f es)
    copy_has o f = by (is_resident o es)
      where
        by : (b : Bool) → ValueHas C F V O o f (cond b (value_held o f es) None)
        by true = copies.value o f
        by false = tt

    -- the class that the thread knows
    pub known_has : (o : ℕ) → ClassHas C F V O o (class_known p t o es)
    known_has o = by (own p.shape t o es) (own_has o)
      where
        by : (body : Option Body) → OwnHas o body → ClassHas C F V O o (or_else (option_map class_of_body body) (class_held o es))
        by None h = copies.class o
        by (Some body) h = subst (λ n. C n body.class (length body.values)) h.0 h.1.class

    -- the value of a field that it sees
    pub seen_has : (o f : ℕ) → ValueHas C F V O o f (value_in p (own p.shape t o es) f (value_seen p t o f es))
    seen_has o f = by (own p.shape t o es) (own_has o)
      where
        at : (body : Body) (v : Option Value) → slice_get body.values f ≡ v → OwnHas o (Some body) → ValueHas C F V O o f v
        at body None is h = tt
        at body (Some v) is h = subst (λ n. F n f v) h.0 (h.1.values f v is)

        by : (body : Option Body) → OwnHas o body → ValueHas C F V O o f (value_in p body f (value_seen p t o f es))
        by None h = value_of_sets C F V O o f (work_of p.shape t es).sets (copy_of o f es) work.sets (copy_has o f)
        by (Some body) h = at body (slice_get body.values f) refl h

    -- a look
    looked : (o : ℕ) (class : Option (ClassId × ℕ)) (reply : Reply) → ClassHas C F V O o class → option_map (λ (class : ClassId × ℕ). Seen class.0 class.1) class ≡ Some reply → ReplyHas (Look o) reply
    looked o None reply h is = absurd (cc is)
    looked o (Some class) reply h is =
        let same : Seen class.0 class.1 ≡ reply = cc is in
        subst (ReplyHas (Look o)) same h

    module _ (may : MayTell) where
      -- a value read
      got : (o f : ℕ) (v : Option Value) (reply : Reply) → ValueHas C F V O o f v → option_map Val v ≡ Some reply → ReplyHas (Get o f) reply
      got o f None reply h is = absurd (cc is)
      got o f (Some v) reply h is =
          let same : Val v ≡ reply = cc is in
          subst (ReplyHas (Get o f)) same (may.read o f v h)

      -- a timeout that came too late, or not
      timed_out : (request : Request) (woken : Bool) → ReplyHas request (timeout_reply woken)
      timed_out request true = may.woken true
      timed_out request false = tt

      -- the request neither looks nor reads, nor asks whether the thread was woken
      abbrev IsElse : Request → Type 0
      IsElse (Look o) = ⊥
      IsElse (Get o f) = ⊥
      IsElse (Tick l) = ⊥
      IsElse (Timeout l) = ⊥
      IsElse request = Unit {0}

      -- so nothing is told but a new object
      listed_has : (request : Request) (reply : Reply) → IsListed request reply → IsElse request → ((o : ℕ) → reply ≡ Made o → IsReal o) → ReplyHas request reply
      listed_has (Look o) reply listed other made = absurd other
      listed_has (Get o f) reply listed other made = absurd other
      listed_has (Tick l) reply listed other made = absurd other
      listed_has (Timeout l) reply listed other made = absurd other
      listed_has request (Made o) listed other made = made o refl
      listed_has request (Val v) listed other made = absurd listed
      listed_has request reply listed other made = tt

      -- A reply tells only of what the client has.
      pub reply_has : (request : Request) (reply : Reply) → ((o : ℕ) → reply ≡ Made o → IsReal o) → reply_of p t request es ≡ Some reply → ReplyHas request reply
      reply_has (Look o) reply made is = looked o (class_known p t o es) reply (known_has o) is
      reply_has (Get o f) reply made is = got o f (value_in p (own p.shape t o es) f (value_seen p t o f es)) reply (seen_has o f) is
      reply_has (Tick l) reply made is =
          let same : Val (value.Bool (is_marked t es)) ≡ reply = cc is in
          subst (ReplyHas (Tick l)) same (may.woken (is_marked t es))
      reply_has (Timeout l) reply made is =
          let same : timeout_reply (is_marked t es) ≡ reply = cc is in
          subst (ReplyHas (Timeout l)) same (timed_out (Timeout l) (is_marked t es))
      reply_has request reply made is = listed_has request reply (reply_listed p t es request reply is) tt made
