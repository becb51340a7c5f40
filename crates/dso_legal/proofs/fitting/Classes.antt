-- Classes are kept: no object's class or size changes.
use Rattle.std.proofs.Common.{ℕ, ◌≡◌, subst, Option, Some, None, List, ◌∷◌}
use Rattle.dso_base.specs.declared.journal.Entry.{Entry}
use Rattle.dso_base.specs.declared.journal.Node.TheVariants.{Server, Client}
use Rattle.dso_base.specs.declared.lock.ThreadId.{ThreadId}
use Rattle.dso_base.specs.declared.message.Down.{Down}
use Rattle.dso_base.specs.declared.message.Down.TheVariants as down
use Rattle.dso_base.specs.declared.message.Up.{Up}
use Rattle.dso_base.specs.declared.message.Up.TheVariants as up
use Rattle.dso_base.specs.declared.record.Body.{Body}
use Rattle.dso_base.specs.declared.request.Event.{Event}
use Rattle.dso_base.specs.declared.request.Event.TheVariants.{Act, Lost}
use Rattle.dso_base.specs.declared.request.Reply.{Reply}
use Rattle.dso_base.specs.declared.request.Reply.TheVariants.{Done, Made, Seen}
use Rattle.dso_base.specs.declared.request.Request.{Request}
use Rattle.dso_base.specs.declared.request.Request.TheVariants.{New, Look, Put, Print}
use Rattle.dso_base.specs.declared.value.ClassId.{ClassId}
use Rattle.dso_base.specs.declared.value.Value.{Value}
use Rattle.dso_law.specs.Settings.{Settings}
use Rattle.dso_law.specs.Entries.{entries_of, events_in}
use Rattle.dso_law.specs.Channels.{up_in_flight, down_in_flight}
use Rattle.dso_law.specs.Copies.{class_held}
use Rattle.dso_law.specs.ServerReadings.{counted}
use Rattle.dso_law.specs.Store.{stored}
use Rattle.dso_law.specs.Threads.{work_of}
use Rattle.dso_legal.specs.Agreement.{messages}
use Rattle.dso_legal.specs.ClassesKept.{class_made, IsAsMade, CarriesUpAsMade, CarriesDownAsMade, SawAsMade, LooksAsMade, KeepsClasses, ClassesAreKept}
use Rattle.dso_legal.specs.Lawful.{AllFollow}
use Rattle.dso_legal.proofs.fitting.InHand.{each_so}
use Rattle.dso_legal.proofs.fitting.Messages.{ClassHas, StoredHas}
use Rattle.dso_legal.proofs.fitting.Replies.{ReplyHas}
use Rattle.dso_legal.proofs.fitting.Carried.{C, EventHas, UpNow, DownNow, BodyNow, Brings, Keeps, AllHave, carried}

module _ (p : Settings) (next : ThreadId → List Event → Option Request) where
  -- nothing is said of fields and values
  abbrev AnyField : List Entry → ℕ → ℕ → Value → Type 0
  AnyField now o f v = Unit {0}

  abbrev AnyValue : List Entry → Value → Type 0
  AnyValue now v = Unit {0}

  brings_any : (now : List Entry) (request : Request) (reply : Reply) → Brings p next AnyField AnyValue AnyValue now request reply
  brings_any now (New class n) (Made o) = λ f less. tt
  brings_any now (Put o f v) Done = tt
  brings_any now (Print v) Done = tt
  brings_any now request reply = tt

  keeps_any : Keeps p next AnyField AnyValue AnyValue
  keeps_any = record {
    fields = λ e es follow o f v h. tt;
    values = λ e es follow v h. tt;
    outs = λ e es follow v h. tt;
    tells = λ es. record { read = λ o f v h. tt; woken = λ b. tt };
    roots = λ r less. tt;
    acts = λ e es follow have c it. brings_any (e ∷ es) it.request it.reply;
  }

  as_made : (now : List Entry) (body : Body) → BodyNow p next AnyField AnyValue AnyValue now body → IsAsMade p.shape now body
  as_made now body h = h.class

  up_as_made : (now : List Entry) (m : Up) → UpNow p next AnyField AnyValue AnyValue now m → CarriesUpAsMade p.shape now m
  up_as_made now (up.Commit txn) h = each_so (BodyNow p next AnyField AnyValue AnyValue now) (IsAsMade p.shape now) (as_made now) txn.news h.0
  up_as_made now m h = tt

  down_as_made : (now : List Entry) (m : Down) → DownNow p next AnyField AnyValue AnyValue now m → CarriesDownAsMade p.shape now m
  down_as_made now (down.Object body) h = h.class
  down_as_made now m h = tt

  saw_as_made : (now : List Entry) (request : Request) (reply : Reply) → ReplyHas (C p next AnyField AnyValue AnyValue now) (AnyField now) (AnyValue now) (AnyValue now) request reply → SawAsMade p.shape now request reply
  saw_as_made now (Look o) (Seen class n) h = h
  saw_as_made now request reply h = tt

  looks_as_made : (now : List Entry) (event : Event) → EventHas p next AnyField AnyValue AnyValue now event → LooksAsMade p.shape now event
  looks_as_made now (Act t request reply woken) h = saw_as_made now request reply h
  looks_as_made now (Lost client) h = tt

  -- after entries each of which follows those before it
  pub keeps_classes : (es : List Entry) → AllFollow p next es → KeepsClasses p.shape es
  keeps_classes es follow = record {
    privates = λ t. each_so (BodyNow p next AnyField AnyValue AnyValue es) (IsAsMade p.shape es) (as_made es) (work_of p.shape t (entries_of (Client t.client) es)).privates ((have.clients t.client).works t).privates;
    news = λ t. each_so (BodyNow p next AnyField AnyValue AnyValue es) (IsAsMade p.shape es) (as_made es) (work_of p.shape t (entries_of (Client t.client) es)).news ((have.clients t.client).works t).news;
    seen = λ t. each_so (EventHas p next AnyField AnyValue AnyValue es) (LooksAsMade p.shape es) (looks_as_made es) (events_in t (entries_of (Client t.client) es)) ((have.clients t.client).told t);
    copies = λ c o class size is. held o class size (class_held o (entries_of (Client c) es)) ((have.clients c).copies.class o) is;
    ups = λ c. each_so (UpNow p next AnyField AnyValue AnyValue es) (CarriesUpAsMade p.shape es) (up_as_made es) (messages (up_in_flight c es)) (have.clients c).up;
    downs = λ c. each_so (DownNow p next AnyField AnyValue AnyValue es) (CarriesDownAsMade p.shape es) (down_as_made es) (messages (down_in_flight c es)) (have.clients c).down;
    graph = λ o body is. in_graph o body (stored p.shape o (counted (entries_of Server es))) (have.graph o) is;
  }
    where
      have : AllHave p next AnyField AnyValue AnyValue es
      have = carried p next AnyField AnyValue AnyValue keeps_any es follow

      held : (o : ℕ) (class : ClassId) (size : ℕ) (at : Option (ClassId × ℕ)) → ClassHas (C p next AnyField AnyValue AnyValue es) (AnyField es) (AnyValue es) (AnyValue es) o at → at ≡ Some (class, size) → class_made p.shape o es ≡ Some (class, size)
      held o class size None h is = absurd (cc is)
      held o class size (Some at) h is =
          let same : at ≡ (class, size) = cc is in
          subst (λ (x : ClassId × ℕ). class_made p.shape o es ≡ Some (x.0, x.1)) same h

      in_graph : (o : ℕ) (body : Body) (at : Option Body) → StoredHas (C p next AnyField AnyValue AnyValue es) (AnyField es) (AnyValue es) (AnyValue es) o at → at ≡ Some body → IsAsMade p.shape es body
      in_graph o body None h is = absurd (cc is)
      in_graph o body (Some at) h is =
          let same : at ≡ body = cc is in
          subst (IsAsMade p.shape es) same h.1.class

pub classes_are_kept : ClassesAreKept
classes_are_kept p next es follow = keeps_classes p next es follow
