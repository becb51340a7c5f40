-- No thread is told of object 0: a sound program stores no reference to it.
use Rattle.std.specs.List.{list_any, AllByRecursion}
use Rattle.std.proofs.Common.{ℕ, ◌≡◌, ◌≢◌, refl, ◌∙◌, ap, Bool, true, false, eqb, ◌||◌, Option, Some, List, [], ◌∷◌}
use Rattle.dso_base.specs.Block.{opening_value}
use Rattle.dso_base.specs.Shape.{kind_of}
use Rattle.dso_base.specs.declared.journal.Entry.{Entry}
use Rattle.dso_base.specs.declared.journal.Node.TheVariants.{Client}
use Rattle.dso_base.specs.declared.lock.ThreadId.{ThreadId}
use Rattle.dso_base.specs.declared.request.Event.{Event}
use Rattle.dso_base.specs.declared.request.Event.TheVariants.{Act, Lost}
use Rattle.dso_base.specs.declared.request.Reply.{Reply}
use Rattle.dso_base.specs.declared.request.Reply.TheVariants.{Done, Made, Seen, Val, Local, Refused}
use Rattle.dso_base.specs.declared.request.Request.{Request}
use Rattle.dso_base.specs.declared.request.Request.TheVariants.{New, Print, Put}
use Rattle.dso_base.specs.declared.value.Kind.{Kind}
use Rattle.dso_base.specs.declared.value.Kind.TheVariants as kind
use Rattle.dso_base.specs.declared.value.Value.{Value}
use Rattle.dso_base.specs.declared.value.Value.TheVariants as value
use Rattle.dso_plain.proofs.keys.SameKeys.{same_number}
use Rattle.dso_law.specs.Settings.{Settings}
use Rattle.dso_law.specs.Entries.{entries_of, events_in}
use Rattle.dso_legal.specs.Lawful.{next_after, AllFollow}
use Rattle.dso_legal.specs.SoundProgram.{AsksSoundly, KeepsTo, IsToldValue, tells, event_tells}
use Rattle.dso_legal.proofs.blocks.OwnActs.{threads_follow, threads_wait, own_acts}
use Rattle.dso_legal.proofs.fitting.Replies.{ReplyHas}
use Rattle.dso_legal.proofs.fitting.Carried.{C, EventHas, Brings, Keeps, AllHave, carried}

-- Nothing told any thread of object 0.
abbrev pub AllUntold : List Entry → Type 0
AllUntold es = (t : ThreadId) → list_any (event_tells 0) (events_in t (entries_of (Client t.client) es)) ≡ false

-- so in front of each of the entries, and behind them
abbrev pub UntoldThroughout : List Entry → Type 0
UntoldThroughout [] = AllUntold []
UntoldThroughout (e ∷ es) = UntoldThroughout es × AllUntold (e ∷ es)

-- a number that isn't 0
pub apart_from_zero : (o : ℕ) → o ≢ 0 → eqb o 0 ≡ false
apart_from_zero o other = by (eqb o 0) refl
  where
    by : (b : Bool) → eqb o 0 ≡ b → b ≡ false
    by true is = absurd (other (same_number o 0 is))
    by false is = refl

-- the value doesn't name object 0
abbrev NamesNoRoots : Value → Type 0
NamesNoRoots (value.Ref o) = o ≢ 0
NamesNoRoots v = Unit {0}

module _ (p : Settings) (next : ThreadId → List Event → Option Request) where
  abbrev F : List Entry → ℕ → ℕ → Value → Type 0
  F now o f v = NamesNoRoots v

  abbrev V : List Entry → Value → Type 0
  V now v = NamesNoRoots v

  -- of what is printed nothing is said
  abbrev O : List Entry → Value → Type 0
  O now v = Unit {0}

  -- ---- what a thread was told

  untold_reply : (es : List Entry) (request : Request) (reply : Reply) → ReplyHas (C p next F V O es) (F es) (V es) (O es) request reply → tells 0 reply ≡ false
  untold_reply es request (Made o) h = apart_from_zero o h.real
  untold_reply es request (Val v) h = by v h
    where
      by : (v : Value) → NamesNoRoots v → tells 0 (Val v) ≡ false
      by (value.Ref o) h = apart_from_zero o h
      by (value.Text t) h = refl
      by value.Null h = refl
      by (value.Long n) h = refl
      by (value.Bool b) h = refl
  untold_reply es request (Seen class n) h = refl
  untold_reply es request Done h = refl
  untold_reply es request Local h = refl
  untold_reply es request (Refused fault) h = refl

  untold_events : (es : List Entry) (events : List Event) → AllByRecursion (EventHas p next F V O es) events → list_any (event_tells 0) events ≡ false
  untold_events es [] all = refl
  untold_events es (Act t request reply woken ∷ events) all = ap (λ b. b || list_any (event_tells 0) events) (untold_reply es request reply all.0) ∙ untold_events es events all.1
  untold_events es (Lost client ∷ events) all = untold_events es events all.1

  untold_of : (es : List Entry) → AllHave p next F V O es → AllUntold es
  untold_of es have t = untold_events es (events_in t (entries_of (Client t.client) es)) ((have.clients t.client).told t)

  -- ---- what an act brings

  opening_names_none : (k : Kind) → NamesNoRoots (opening_value k)
  opening_names_none kind.Long = tt
  opening_names_none kind.Bool = tt
  opening_names_none kind.Text = tt
  opening_names_none kind.Ref = tt

  told_names_none : (v : Value) (events : List Event) → IsToldValue v events → NamesNoRoots v
  told_names_none (value.Ref o) events told = told.0
  told_names_none v events told = tt

  brings : (now : List Entry) (t : ThreadId) (events : List Event) (request : Request) (reply : Reply) → KeepsTo p.shape t events request → Brings p next F V O now request reply
  brings now t events (New class n) (Made o) keeps = λ f less. opening_names_none (kind_of p.shape class f)
  brings now t events (Put o f v) Done keeps = told_names_none v events keeps.names.1
  brings now t events (Print v) Done keeps = tt
  brings now t events request reply keeps = tt

  module _ (sound : AsksSoundly p.shape next) where
    keeps_untold : Keeps p next F V O
    keeps_untold = record {
      fields = λ e es follow o f v h. h;
      values = λ e es follow v h. h;
      outs = λ e es follow v h. tt;
      tells = λ es. record { read = λ o f v h. h; woken = λ b. tt };
      roots = λ r less. tt;
      acts = λ e es follow have c it.
          let t : ThreadId = it.thread in
          let events : List Event = events_in t (entries_of (Client t.client) es) in
          let keeps : KeepsTo p.shape t events it.request = sound.keeps t events it.request (own_acts t (entries_of (Client t.client) es)) (untold_of es have t) (threads_wait p next t es follow.0) (threads_follow p next t es follow.0) it.asked in
          brings (e ∷ es) t events it.request it.reply keeps;
    }

    -- Whatever entries follow one another.
    pub all_untold : (es : List Entry) → AllFollow p next es → AllUntold es
    all_untold es follow = untold_of es (carried p next F V O keeps_untold es follow)

    pub untold_throughout : (es : List Entry) → AllFollow p next es → UntoldThroughout es
    untold_throughout [] follow = all_untold [] follow
    untold_throughout (e ∷ es) follow = (untold_throughout es follow.0, all_untold (e ∷ es) follow)

    -- So what a thread asks next keeps to what is asked of a program.
    pub keeps_to : (es : List Entry) → AllFollow p next es → (t : ThreadId) (request : Request) → next_after next es t ≡ Some request → KeepsTo p.shape t (events_in t (entries_of (Client t.client) es)) request
    keeps_to es follow t request asked =
        let own : List Entry = entries_of (Client t.client) es in
        sound.keeps t (events_in t own) request (own_acts t own) (all_untold es follow t) (threads_wait p next t es follow) (threads_follow p next t es follow) asked
