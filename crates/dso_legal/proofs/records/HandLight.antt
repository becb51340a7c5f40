-- A thread has no more objects and notifications in hand than its client has entries.
use Rattle.std.proofs.Common.{ℕ, suc, ◌+◌, ◌≤◌, ◌≡◌, refl, ap, ◌∙◌, Bool, true, false, cond, not, ltb, is_some, Option, Some, None, List, [], ◌∷◌, ◌++◌, length, length-append, arith}
use Rattle.std.specs.Prelude.{filter}
use Rattle.dso_base.specs.declared.journal.Entry.{Entry}
use Rattle.dso_base.specs.declared.lock.ThreadId.{ThreadId}
use Rattle.dso_base.specs.declared.record.Body.{Body}
use Rattle.dso_base.specs.declared.request.Event.{Event}
use Rattle.dso_base.specs.declared.request.Event.TheVariants.{Act, Lost}
use Rattle.dso_base.specs.declared.request.Reply.{Reply}
use Rattle.dso_base.specs.declared.request.Reply.TheVariants.{Done, Made}
use Rattle.dso_base.specs.declared.request.Request.{Request}
use Rattle.dso_base.specs.declared.request.Request.TheVariants.{New, Put, Notify, NotifyAll, Print}
use Rattle.dso_base.specs.declared.shape.Shape.{Shape}
use Rattle.dso_base.specs.declared.value.Value.{Value}
use Rattle.dso_base.specs.Block.{Work, start, body_in, with_value, is_published, insert_body, insert_bodies, publish, put_shared, put, work_by, work_after, worked, choice_of}
use Rattle.dso_base.specs.declared.record.Choice.TheVariants.{All}
use Rattle.dso_plain.specs.History.{is_act_of}
use Rattle.dso_law.specs.Entries.{by_event}
use Rattle.dso_law.specs.Threads.{ending_of, locks_of, Locks, open_block, privates_before, block_after, privates_after}

-- how many objects and notifications a thread has in hand
abbrev pub in_hand : Work → ℕ
in_hand work = length work.privates + length work.news + length work.notes

-- a value in a field makes no body more
valued : (o f : ℕ) (v : Value) (bodies : List Body) → length (with_value o f v bodies) ≡ length bodies
valued o f v [] = refl
valued o f v (body ∷ bodies) = ap suc (valued o f v bodies)

-- a body that is put into its place is one more
inserted : (body : Body) (bodies : List Body) → length (insert_body body bodies) ≡ suc (length bodies)
inserted body [] = refl
inserted body (first ∷ rest) = by (ltb body.object first.object) (inserted body rest)
  where
    by : (b : Bool) → length (insert_body body rest) ≡ suc (length rest) → length (cond b (body ∷ first ∷ rest) (first ∷ insert_body body rest)) ≡ suc (length (first ∷ rest))
    by true is = refl
    by false is = ap suc is

all_inserted : (bodies news : List Body) → length (insert_bodies bodies news) ≡ length bodies + length news
all_inserted [] news = omega arith
all_inserted (body ∷ bodies) news = omega (arith, inserted body (insert_bodies bodies news), all_inserted bodies news)

-- a part and the rest are the whole
halves : (test : Body → Bool) (bodies : List Body) → length (filter (λ body. not (test body)) bodies) + length (filter test bodies) ≡ length bodies
halves test [] = refl
halves test (body ∷ bodies) = by (test body) (halves test bodies)
  where
    by : (b : Bool) → length (filter (λ body. not (test body)) bodies) + length (filter test bodies) ≡ length bodies
        → length (cond (not b) (body ∷ filter (λ body. not (test body)) bodies) (filter (λ body. not (test body)) bodies)) + length (cond b (body ∷ filter test bodies) (filter test bodies)) ≡ suc (length bodies)
    by true is = omega (arith, is)
    by false is = omega (arith, is)

-- what is published is no longer private
published : (v : Value) (work : Work) → in_hand (publish v work) ≡ in_hand work
published v work =
    let test : Body → Bool = λ body. is_published work.privates v body.object in
    omega (arith, all_inserted (filter test work.privates) work.news, halves test work.privates)

-- so a put leaves as much in hand
put_is : (o f : ℕ) (v : Value) (work : Work) → in_hand (put o f v work) ≡ in_hand work
put_is o f v work = private (is_some (body_in o work.privates))
  where
    shared : (b : Bool) → in_hand (cond b (record work { news = with_value o f v work.news }) (record work { sets = (put_shared o f v (record work { news = [] })).sets })) ≡ in_hand work
    shared true = omega (arith, valued o f v work.news)
    shared false = refl

    there : (b : Bool) (new : Work) → new ≡ cond b (record work { news = with_value o f v work.news }) (record work { sets = (put_shared o f v (record work { news = [] })).sets }) → in_hand new ≡ in_hand work
    there b new is = ap in_hand is ∙ shared b

    private : (b : Bool) → in_hand (cond b (record work { privates = with_value o f v work.privates }) (publish v (put_shared o f v work))) ≡ in_hand work
    private true = omega (arith, valued o f v work.privates)
    private false = published v (put_shared o f v work) ∙ there (is_some (body_in o work.news)) (put_shared o f v work) refl

-- each act has at most one more in hand
acted : (shape : Shape) (request : Request) (reply : Reply) (woken : Option ThreadId) (work : Work) → in_hand (work_by shape request reply woken work) ≤ suc (in_hand work)
acted shape (New class n) (Made o) woken work = omega arith
acted shape (Put o f v) Done woken work = omega (arith, put_is o f v work)
acted shape (Notify l) Done woken work = omega (arith, length-append work.notes (record { lock = l; choice = choice_of woken } ∷ []))
acted shape (NotifyAll l) Done woken work = omega (arith, length-append work.notes (record { lock = l; choice = All } ∷ []))
acted shape (Print v) Done woken work = omega arith
acted shape request reply woken work = omega arith

after : (shape : Shape) (event : Event) (work : Work) → in_hand (work_after shape event work) ≤ suc (in_hand work)
after shape (Act thread request reply woken) work = acted shape request reply woken work
after shape (Lost client) work = omega arith

-- Events bring at most one more each.
pub works : (shape : Shape) (events : List Event) (work : Work) → in_hand (worked shape events work) ≤ length events + in_hand work
works shape [] work = omega arith
works shape (event ∷ events) work = omega (arith, works shape events (work_after shape event work), after shape event work)

module _ (shape : Shape) (t : ThreadId) where
  one_more : (event : Event) (locks : Locks) (block : List Event) (privates : List Body) (own ends : Bool)
      → length (cond own (cond ends (worked shape (block ++ event ∷ []) (start privates)).privates privates) privates) + length (cond own (cond ends [] (block ++ event ∷ [])) block) ≤ suc (length privates + length block)
  one_more event locks block privates false ends = omega arith
  one_more event locks block privates true true = omega (arith, works shape (block ++ event ∷ []) (start privates), length-append block (event ∷ []))
  one_more event locks block privates true false = omega (arith, length-append block (event ∷ []))

  by_one : (event : Option Event) (locks : Locks) (block : List Event) (privates : List Body)
      → length (by_event (λ event privates. cond (is_act_of t event) (privates_after shape event locks block privates) privates) event privates)
      + length (by_event (λ event block. cond (is_act_of t event) (block_after event locks block) block) event block) ≤ suc (length privates + length block)
  by_one None locks block privates = omega arith
  by_one (Some event) locks block privates = one_more event locks block privates (is_act_of t event) (is_some (ending_of event locks))

  -- A thread's private objects at its open block's start, and the events of the block, are no more than the entries.
  pub hand_light : (es : List Entry) → length (privates_before shape t es) + length (open_block t es) ≤ length es
  hand_light [] = omega arith
  hand_light (e ∷ es) = omega (arith, by_one e.event (locks_of t es) (open_block t es) (privates_before shape t es), hand_light es)
