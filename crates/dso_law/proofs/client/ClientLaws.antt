-- Proofs of the laws of the readings.
use Rattle.std.proofs.Common.{ℕ, ◌≡◌, inl, inr, refl, sym, ◌∙◌, ap, Bool, true, false, cond, not, eqb, Option, Some, None, is_some, List, [], ◌∷◌, ◌++◌, map}
use Rattle.dso_base.specs.declared.journal.Entry.{Entry}
use Rattle.dso_base.specs.declared.journal.Input.TheVariants as input
use Rattle.dso_base.specs.declared.journal.Node.TheVariants.{Client}
use Rattle.dso_base.specs.declared.journal.Sent.TheVariants.{ToServer}
use Rattle.dso_base.specs.declared.lock.LockName.{LockName}
use Rattle.dso_base.specs.declared.lock.ThreadId.{ThreadId}
use Rattle.dso_base.specs.declared.message.Up.{Up}
use Rattle.dso_base.specs.declared.request.Event.TheVariants.{Act}
use Rattle.dso_base.specs.declared.request.Reply.{Reply}
use Rattle.dso_base.specs.declared.request.Request.{Request}
use Rattle.dso_plain.specs.KeyTests.{is_lock}
use Rattle.dso_plain.specs.State.{Hold}
use Rattle.dso_plain.proofs.keys.SameKeys.{same_lock, number_self}
use Rattle.std.proofs.lemmas.Bool.Decides.{eqb_tells}
use Rattle.dso_base.specs.declared.lock.LockName.TheVariants.{Mon, Name}
use Rattle.dso_law.specs.Settings.{Settings}
use Rattle.dso_law.specs.Threads.{Held, hold_in, set_hold, with_hold}
use Rattle.dso_law.specs.RequestNeeds.{Need, unmet, ask_for}
use Rattle.dso_law.specs.Replies.{reply_of, woken_by}
use Rattle.dso_law.specs.ClientStep.{Does, Asks, DoesOrAsks, ActsOn, commits, returns, asks_again, can_do, can_act}
use Rattle.dso_law.specs.Laws.{HoldsAfter, ActsAreOpen}

-- the entry that the rule allows where all needs are met
abbrev does_entry : Settings → ℕ → ThreadId → Request → (ThreadId → Option Request) → (ThreadId → Option Request) → List Entry → Reply → Entry
does_entry p c t request before after es reply =
    let event = Act t request reply (woken_by request reply es) in
    let bare : Entry = record { clock = 0; node = Client c; input = input.Act t.index; sent = []; event = Some event } in
    record bare { sent = map ToServer (commits p t event es ++ returns p c after (bare ∷ es) ++ asks_again p c before after (after t) (bare ∷ es) es) }

-- the entry that asks
abbrev asks_entry : Settings → ℕ → ThreadId → (ThreadId → Option Request) → List Entry → Up → Entry
asks_entry p c t after es message =
    let bare : Entry = record { clock = 0; node = Client c; input = input.Act t.index; sent = []; event = None } in
    record bare { sent = map ToServer (returns p c after (bare ∷ es) ++ message ∷ []) }

-- there is a message, so there is an entry that asks
asks : (p : Settings) (c : ℕ) (t : ThreadId) (need : Need) (after : ThreadId → Option Request) (es : List Entry) (o : Option Up) → ask_for need es ≡ o → is_some o ≡ true
    → (e : Entry) × Asks p c need after e es
asks p c t need after es None e some = absurd (cc some)
asks p c t need after es (Some message) e some = (asks_entry p c t after es message, record { message = message; asked = e; event = refl; sends = refl })

-- there is a reply, so there is an entry with the event
does : (p : Settings) (c : ℕ) (t : ThreadId) (request : Request) (before after : ThreadId → Option Request) (es : List Entry) (o : Option Reply) → reply_of p t request es ≡ o → is_some o ≡ true
    → (e : Entry) × Does p c t request before after e es
does p c t request before after es None e some = absurd (cc some)
does p c t request before after es (Some reply) e some = (does_entry p c t request before after es reply, record { reply = reply; answered = e; event = refl; sends = refl })

-- where what the thread needs can be had or asked for, there is an entry that does the one or the other
open_by_need : (p : Settings) (c : ℕ) (t : ThreadId) (request : Request) (n : Option Need) (before after : ThreadId → Option Request) (es : List Entry)
    → can_do p t request n es ≡ true → (e : Entry) × DoesOrAsks p c t request n before after e es
open_by_need p c t request None before after es can = does p c t request before after es (reply_of p t request es) refl can
open_by_need p c t request (Some need) before after es can = asks p c t need after es (ask_for need es) refl can

-- where the thread has a next request that it can act on, there is an entry that acts
open_by_request : (p : Settings) (c : ℕ) (t : ThreadId) (o : Option Request) (before after : ThreadId → Option Request) (es : List Entry)
    → can_act p c before t o es ≡ true → (e : Entry) × ActsOn p c t o before after e es
open_by_request p c t None before after es can = absurd (cc can)
open_by_request p c t (Some request) before after es can = open_by_need p c t request (unmet p c before t request es) before after es can

-- an entry that does or asks is one that the client can make
can_by_need : (p : Settings) (c : ℕ) (t : ThreadId) (request : Request) (n : Option Need) (before after : ThreadId → Option Request) (e : Entry) (es : List Entry)
    → DoesOrAsks p c t request n before after e es → can_do p t request n es ≡ true
can_by_need p c t request None before after e es h = ap is_some h.answered
can_by_need p c t request (Some need) before after e es h = ap is_some h.asked

can_by_request : (p : Settings) (c : ℕ) (t : ThreadId) (o : Option Request) (before after : ThreadId → Option Request) (e : Entry) (es : List Entry)
    → ActsOn p c t o before after e es → can_act p c before t o es ≡ true
can_by_request p c t None before after e es h = absurd h
can_by_request p c t (Some request) before after e es h = can_by_need p c t request (unmet p c before t request es) before after e es h

pub acts_are_open : ActsAreOpen
acts_are_open p c t before after es = (λ can. open_by_request p c t (before t) before after es can, λ h. can_by_request p c t (before t) before after h.0 es h.1)

-- a test of two numbers is the same either way
either_way : (a b : ℕ) → eqb a b ≡ eqb b a
either_way a b = elim (eqb_tells a b) [
  | inl h ↦ h.0 ∙ sym (ap (λ n. eqb b n) h.1 ∙ number_self b)
  | inr h ↦ elim (eqb_tells b a) [
    | inl g ↦ absurd (h.1 (sym g.1))
    | inr g ↦ h.0 ∙ sym g.0
  ]
]

-- a test of two locks is the same either way
pub lock_either_way : (l k : LockName) → is_lock l k ≡ is_lock k l
lock_either_way (Mon o) (Mon p) = either_way p o
lock_either_way (Name n) (Name m) = either_way m n
lock_either_way (Mon o) (Name m) = refl
lock_either_way (Name n) (Mon p) = refl

-- a lock found at the front: b tells that it is the one held so, d that the front has the one held so
found_so : (b d f : Bool) (hold was : Hold) (here rest : Option Hold) → (d ≡ true → f ≡ b) → (b ≡ true → f ≡ d) → here ≡ cond b (Some hold) rest
    → cond d (cond b (Some hold) rest) (cond f (Some was) here) ≡ cond b (Some hold) (cond f (Some was) rest)
found_so true true f hold was here rest p q h = refl
found_so false true f hold was here rest p q h = rw (p refl) refl
found_so true false f hold was here rest p q h = rw (q refl) h
found_so false false f hold was here rest p q h = rw h refl

-- how a lock is held in one of two lists
in_either : (d : Bool) (k : LockName) (xs ys : List Held) → hold_in k (cond d xs ys) ≡ cond d (hold_in k xs) (hold_in k ys)
in_either true k xs ys = refl
in_either false k xs ys = refl

-- where a lock is the third, the second is told alike of both
alike : (l k m : LockName) → is_lock l m ≡ true → is_lock k m ≡ is_lock l k
alike l k m e = ap (λ n. is_lock k n) (same_lock l m e) ∙ lock_either_way k l

-- two locks that are the same are told alike of a third
alike_too : (l k m : LockName) → is_lock l k ≡ true → is_lock k m ≡ is_lock l m
alike_too l k m e = ap (λ n. is_lock n m) (same_lock l k e)

held_so : (l k : LockName) (hold : Hold) (holds : List Held) → hold_in k (set_hold l hold holds) ≡ cond (is_lock l k) (Some hold) (hold_in k holds)
held_so l k hold [] = ap (λ b. cond b (Some hold) None) (lock_either_way k l)
held_so l k hold (held ∷ holds) = in_either (is_lock l held.lock) k (record { lock = l; hold = hold } ∷ holds) (held ∷ set_hold l hold holds)
    ∙ ap (λ b. cond (is_lock l held.lock) (cond b (Some hold) (hold_in k holds)) (cond (is_lock k held.lock) (Some held.hold) (hold_in k (set_hold l hold holds)))) (lock_either_way k l)
    ∙ found_so (is_lock l k) (is_lock l held.lock) (is_lock k held.lock) hold held.hold (hold_in k (set_hold l hold holds)) (hold_in k holds)
    (alike l k held.lock) (alike_too l k held.lock) (held_so l k hold holds)

-- a lock that is taken out: b tells that it is the one looked up, d that it is the front's
taken_out : (b d f : Bool) (was : Hold) (here rest : Option Hold) → (d ≡ true → f ≡ b) → (b ≡ true → f ≡ d) → here ≡ cond b None rest
    → cond (not d) (cond f (Some was) here) here ≡ cond b None (cond f (Some was) rest)
taken_out true true f was here rest p q h = h
taken_out false true f was here rest p q h = rw (p refl) h
taken_out true false f was here rest p q h = rw (q refl) h
taken_out false false f was here rest p q h = rw h refl

-- nothing is found where nothing is held
nothing_held : (b : Bool) → let none : Option Hold = None in none ≡ cond b none none
nothing_held true = refl
nothing_held false = refl

without_hold : (l k : LockName) (holds : List Held) → hold_in k (with_hold l None holds) ≡ cond (is_lock l k) None (hold_in k holds)
without_hold l k [] = nothing_held (is_lock l k)
without_hold l k (held ∷ holds) = in_either (not (is_lock l held.lock)) k (held ∷ with_hold l None holds) (with_hold l None holds)
    ∙ taken_out (is_lock l k) (is_lock l held.lock) (is_lock k held.lock) held.hold (hold_in k (with_hold l None holds)) (hold_in k holds)
    (alike l k held.lock) (alike_too l k held.lock) (without_hold l k holds)

pub holds_after : HoldsAfter
holds_after l k None holds = without_hold l k holds
holds_after l k (Some hold) holds = held_so l k hold holds
