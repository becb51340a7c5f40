-- An object whose monitor a client has a lease of or asks for was shown to it: a thread of the client was told of the
-- object, and it is private to none of its threads. What was shown stays so.
use Rattle.std.specs.List.{list_any}
use Rattle.std.proofs.Common.{ℕ, ◌≡◌, ◌⊎◌, inl, inr, refl, sym, ap, subst, ◌∙◌, Bool, true, false, cond, not, eqb}
use Rattle.std.proofs.Common.{◌||◌, is_some}
use Rattle.std.proofs.Common.{Option, Some, None, List, [], ◌∷◌, ◌++◌, filter}
use Rattle.dso_base.specs.declared.journal.Entry.{Entry}
use Rattle.dso_base.specs.declared.journal.Node.TheVariants.{Server, Client}
use Rattle.dso_base.specs.declared.lock.LockName.{LockName}
use Rattle.dso_base.specs.declared.lock.LockName.TheVariants.{Mon, Name}
use Rattle.dso_base.specs.declared.lock.ThreadId.{ThreadId}
use Rattle.dso_base.specs.declared.record.Body.{Body}
use Rattle.dso_base.specs.declared.record.Ending.{Ending}
use Rattle.dso_base.specs.declared.request.Event.{Event}
use Rattle.dso_base.specs.declared.request.Event.TheVariants.{Act}
use Rattle.dso_base.specs.declared.request.Reply.{Reply}
use Rattle.dso_base.specs.declared.request.Reply.TheVariants.{Made, Done}
use Rattle.dso_base.specs.declared.request.Request.{Request}
use Rattle.dso_base.specs.declared.request.Request.TheVariants.{New, Put, Notify, NotifyAll, Print}
use Rattle.dso_base.specs.declared.shape.Shape.{Shape}
use Rattle.dso_base.specs.declared.value.ClassId.{ClassId}
use Rattle.dso_base.specs.declared.value.Value.{Value}
use Rattle.dso_base.specs.Block.{Work, body_in, opening_body, with_value, is_published, publish, put, insert_set}
use Rattle.dso_base.specs.Block.{work_by, work_after}
use Rattle.dso_base.specs.Following.{is_thread}
use Rattle.dso_plain.specs.State.{PlainState, is_private_to, is_shared, IsPrivate, IsShared}
use Rattle.dso_plain.specs.History.{end_of, is_act_of}
use Rattle.dso_plain.proofs.keys.SameKeys.{same_number, same_thread, thread_self}
use Rattle.dso_plain.proofs.independence.WritesGuarded.{private_unshared}
use Rattle.dso_law.specs.Settings.{Settings}
use Rattle.dso_law.specs.Entries.{entries_of, events_in, by_event, add_event}
use Rattle.dso_law.specs.Copies.{is_among}
use Rattle.dso_law.specs.Laws.{IsEventOf, WorkAfter}
use Rattle.dso_law.specs.Records.{next_id}
use Rattle.dso_law.specs.Replies.{woken_by}
use Rattle.dso_law.specs.ServerReadings.{is_lost}
use Rattle.dso_law.specs.Threads.{locks_of, ending_of, open_block, work_of, is_private, is_local}
use Rattle.dso_law.proofs.client.HasBody.{found_among}
use Rattle.dso_law.proofs.client.WorkByEntry.{work_goes_on}
use Rattle.dso_law.proofs.runs.MakesNext.{makes_next}
use Rattle.dso_law.proofs.runs.Others.{IsOthers, same_work}
use Rattle.dso_legal.specs.CopiesStand.{state_at}
use Rattle.dso_legal.specs.Lawful.{next_after, ClientFollows, NodeFollows, AllFollow}
use Rattle.dso_legal.specs.OwnObjects.{has_in_hand}
use Rattle.dso_legal.specs.SoundProgram.{AsksSoundly, event_tells, was_told}
use Rattle.dso_legal.specs.Works.{TellsWork}
use Rattle.dso_legal.proofs.blocks.OwnActs.{IsNextAct, next_act}
use Rattle.dso_legal.proofs.blocks.ThreadHistory.{acting_state, names_known, fresh}
use Rattle.dso_legal.proofs.central.AllHold.{all_holds}
use Rattle.dso_legal.proofs.fitting.NamesInHand.{left_so, right_so}
use Rattle.dso_legal.proofs.fitting.Untold.{all_untold}
use Rattle.dso_legal.proofs.ids.OfBatches.{has_more}
use Rattle.dso_legal.proofs.line.StandsOn.{AllStand, runs_on, acts_from}
use Rattle.dso_legal.proofs.objects.FoundBodies.{some_valued, in_parted}
use Rattle.dso_legal.proofs.objects.OwnObjects.{in_hand_is_own}

-- A thread of the client was told of the object, by the client's entries, and it is private to no thread of the
-- client.
pub record IsShown (p : Settings) (c o : ℕ) (its : List Entry) : Type 0 where
  pub thread : ThreadId
  pub client : thread.client ≡ c
  pub told : was_told o (events_in thread its) ≡ true
  pub public : (u : ThreadId) → u.client ≡ c → is_private p.shape u o its ≡ false

-- so of the object whose monitor the lock is, if it is one
abbrev pub LockShown : Settings → ℕ → LockName → List Entry → Type 0
LockShown p c (Mon o) its = IsShown p c o its
LockShown p c (Name n) its = Unit {0}

-- such a lock is local to no thread of the client
pub shown_not_local : (p : Settings) (c : ℕ) (l : LockName) (its : List Entry) → LockShown p c l its → (t : ThreadId)
    → t.client ≡ c → is_local p.shape t l its ≡ false
shown_not_local p c (Mon o) its shown t own = shown.public t own
shown_not_local p c (Name n) its shown t own = refl

-- ---- what an act makes private

module _ (o : ℕ) (shape : Shape) where
  -- a new object
  private_new : (class : ClassId) (n x : ℕ) (privates : List Body)
      → is_some (body_in o (opening_body shape class n x ∷ privates)) ≡ true
      → (is_some (body_in o privates) ≡ true) ⊎ (Made x ≡ Made o)
  private_new class n x privates is = by (eqb x o) refl is
    where
      by : (b : Bool) → eqb x o ≡ b → is_some (cond b (Some (opening_body shape class n x)) (body_in o privates))
          ≡ true → (is_some (body_in o privates) ≡ true) ⊎ (Made x ≡ Made o)
      by true same is = inr (ap Made (same_number x o same))
      by false other is = inl is

  -- what is left of a list was there
  private_left : (test : ℕ → Bool) (bodies : List Body)
      → is_some (body_in o (filter (λ body. test body.object) bodies)) ≡ true → is_some (body_in o bodies) ≡ true
  private_left test bodies is = by (test o) (sym (ap is_some (in_parted o test bodies)) ∙ is)
    where
      by : (b : Bool) → is_some (cond b (body_in o bodies) None) ≡ true → is_some (body_in o bodies) ≡ true
      by true is = is
      by false is = absurd (cc is)

  -- a put makes nothing private
  private_put : (x f : ℕ) (v : Value) (work : Work) → is_some (body_in o (put x f v work).privates) ≡ true
      → is_some (body_in o work.privates) ≡ true
  private_put x f v work is = by (is_some (body_in x work.privates)) (is_some (body_in x work.news)) is
    where
      by : (a b : Bool) → is_some (body_in o (cond a (record work { privates = with_value x f v work.privates })
          (publish v (cond b (record work { news = with_value x f v work.news })
          (record work { sets = insert_set (record { object = x; field = f; value = v }) work.sets })))).privates)
          ≡ true
          → is_some (body_in o work.privates) ≡ true
      by true b is = sym (some_valued o x f v work.privates) ∙ is
      by false true is = private_left (λ a. not (is_published work.privates v a)) work.privates is
      by false false is = private_left (λ a. not (is_published work.privates v a)) work.privates is

  -- what is private after an act was so before it, or the act made it
  private_by : (request : Request) (reply : Reply) (woken : Option ThreadId) (work : Work)
      → is_some (body_in o (work_by shape request reply woken work).privates) ≡ true
      → (is_some (body_in o work.privates) ≡ true) ⊎ (reply ≡ Made o)
  private_by (New class n) (Made x) woken work is = private_new class n x work.privates is
  private_by (Put x f v) Done woken work is = inl (private_put x f v work is)
  private_by (Notify l) Done woken work is = inl is
  private_by (NotifyAll l) Done woken work is = inl is
  private_by (Print v) Done woken work is = inl is
  private_by request reply woken work is = inl is

  -- what is private behind the entry is so after the act
  private_before : (t : ThreadId) (event : Event) (e : Entry) (es : List Entry) → IsEventOf t event e
      → is_private shape t o (e ∷ es) ≡ true
      → is_some (body_in o (work_after shape event (work_of shape t es)).privates) ≡ true
  private_before t event e es its is = by (ending_of event (locks_of t es)) refl
    where
      goes : WorkAfter shape t event e es
      goes = work_goes_on shape t event e es its

      by : (ending : Option Ending) → ending_of event (locks_of t es) ≡ ending
          → is_some (body_in o (work_after shape event (work_of shape t es)).privates) ≡ true
      by None ends = sym (ap (λ (work : Work). is_some (body_in o work.privates)) (goes.goes_on ends)) ∙ is
      by (Some ending) ends = sym (ap (λ (work : Work). is_some (body_in o work.privates))
          (goes.ends (λ none. cc (sym ends ∙ none)))) ∙ is

-- ---- over a journal of a sound program

module _ (p : Settings) (next : ThreadId → List Event → Option Request) (sound : AsksSoundly p.shape next)
    (es : List Entry) (follow : AllFollow p next es) where
  -- all stands after the journal
  stands : AllStand p es
  stands = (all_holds p next sound es follow).stand

  module _ (t : ThreadId) (alive : is_lost t.client (entries_of Server es) ≡ false) (o : ℕ) where
    -- the entries of its client
    abbrev own_entries : List Entry
    own_entries = entries_of (Client t.client) es

    -- the state in which it acts
    abbrev here : PlainState
    here = acting_state p next es follow t alive

    -- an object that the thread was told of is its own or shared there
    known_there : was_told o (events_in t own_entries) ≡ true → IsPrivate t o here ⊎ IsShared o here
    known_there told = (names_known p next es follow t alive (runs_on p next es follow stands t alive).history
        (runs_on p next es follow stands t alive).pending
        (runs_on p next es follow stands t alive).opened sound (all_untold p next sound es follow)).told o told

    -- so it isn't the next one that the client makes
    untold_at : next_id own_entries ≡ Some o → was_told o (events_in t own_entries) ≡ true → ⊥
    untold_at is_next told = by (known_there told)
      where
        none : here.objects o ≡ None
        none = (fresh p next es follow t alive (runs_on p next es follow stands t alive).history
            (runs_on p next es follow stands t alive).pending
            (runs_on p next es follow stands t alive).opened o is_next).1

        by : IsPrivate t o here ⊎ IsShared o here → ⊥
        by (inl private) = cc (sym private ∙ ap (is_private_to t) none)
        by (inr shared) = cc (sym shared ∙ ap is_shared none)

    -- what a thread of the client has in hand tells what its block made
    tells_of : (u : ThreadId) → u.client ≡ t.client → TellsWork u (work_of p.shape u own_entries)
        (state_at p t.client es) (end_of p.shape (open_block u own_entries) (state_at p t.client es))
    tells_of u mate = (acts_from p next es follow stands t.client alive u mate).tells

    -- a body that is there
    some_body : (found : Option Body) → is_some found ≡ true → (body : Body) × (found ≡ Some body)
    some_body None is = absurd (cc is)
    some_body (Some body) is = (body, refl)

    -- an object that was told and isn't private to the thread is private to no other thread of the client
    module _ (told : was_told o (events_in t own_entries) ≡ true)
        (public : is_private p.shape t o own_entries ≡ false) where
      -- not to a thread that isn't the same
      not_of_mate : (u : ThreadId) → u.client ≡ t.client → is_thread u t ≡ false
          → is_private p.shape u o own_entries ≡ true → ⊥
      not_of_mate u mate other is = by (known_there told)
        where
          theirs : IsPrivate u o (end_of p.shape (open_block u own_entries) (state_at p t.client es))
          theirs = let found = some_body (body_in o (work_of p.shape u own_entries).privates) is in
              ((tells_of u mate).privates.each o found.0 found.1).0

          in_hand : has_in_hand p u o es ≡ true
          in_hand = left_so (is_among o (work_of p.shape u (entries_of (Client u.client) es)).privates)
              (is_among o (work_of p.shape u (entries_of (Client u.client) es)).news)
              (sym (found_among o (work_of p.shape u (entries_of (Client u.client) es)).privates)
              ∙ subst (λ n. is_private p.shape u o (entries_of (Client n) es) ≡ true) (sym mate) is)

          in_news : is_some (body_in o (work_of p.shape t own_entries).news) ≡ true → ⊥
          in_news there =
              let hand : has_in_hand p t o es ≡ true = right_so (is_among o (work_of p.shape t own_entries).privates)
              (is_among o (work_of p.shape t own_entries).news)
              (sym (found_among o (work_of p.shape t own_entries).news) ∙ there) in
              let same : t ≡ u = (in_hand_is_own p next es follow u o in_hand).alone t hand in
              cc (sym other ∙ ap (is_thread u) same ∙ thread_self u)

          shared_before : IsShared o (state_at p t.client es) → ⊥
          shared_before shared =
              let still : IsShared o (end_of p.shape (open_block u own_entries) (state_at p t.client es)) = ap
              is_shared ((tells_of u mate).left o shared).object ∙ shared in
              cc (sym still
              ∙ private_unshared u ((end_of p.shape (open_block u own_entries) (state_at p t.client es)).objects
              o) theirs)

          by : IsPrivate t o here ⊎ IsShared o here → ⊥
          by (inl private) = cc (sym ((tells_of t refl).privates.all o private) ∙ public)
          by (inr shared) = elim ((tells_of t refl).shared o shared) [
            | inl before ↦ shared_before before
            | inr news ↦ in_news news
          ]

      -- so to none
      of_none : (u : ThreadId) → u.client ≡ t.client → (a b : Bool) → is_thread u t ≡ a
          → is_private p.shape u o own_entries ≡ b → b ≡ false
      of_none u mate a false same is = refl
      of_none u mate true true same is = sym is ∙ ap (λ v. is_private p.shape v o own_entries)
          (sym (same_thread u t same)) ∙ public
      of_none u mate false true other is = absurd (not_of_mate u mate other is)

      -- So it was shown to the client.
      pub shown_now : IsShown p t.client o own_entries
      shown_now = record {
        thread = t;
        client = refl;
        told = told;
        public = λ u mate. of_none u mate (is_thread u t) (is_private p.shape u o own_entries) refl refl;
      }

  -- an object that a thread of the client was told of isn't the next one that the client makes
  untold_new : (c : ℕ) → is_lost c (entries_of Server es) ≡ false → (t : ThreadId) → t.client ≡ c → (o : ℕ)
      → next_id (entries_of (Client c) es) ≡ Some o
      → was_told o (events_in t (entries_of (Client c) es)) ≡ true → ⊥
  untold_new c alive t its o = subst (λ n. next_id (entries_of (Client n) es) ≡ Some o
      → was_told o (events_in t (entries_of (Client n) es)) ≡ true → ⊥) its
      (untold_at t (subst (λ n. is_lost n (entries_of Server es) ≡ false) (sym its) alive) o)

-- ---- what was shown stays so

-- what was told stays so
told_more : (o : ℕ) (events : List Event) (event : Event) → was_told o events ≡ true
    → was_told o (events ++ event ∷ []) ≡ true
told_more o events event is = by (eqb o 0) is
  where
    by : (b : Bool) → (b || list_any (event_tells o) events) ≡ true
        → (b || list_any (event_tells o) (events ++ event ∷ [])) ≡ true
    by true is = refl
    by false is = has_more (event_tells o) events (event ∷ []) is

-- so with one more entry of the client
told_on : (t : ThreadId) (o : ℕ) (e : Entry) (its : List Entry) → was_told o (events_in t its) ≡ true
    → was_told o (events_in t (e ∷ its)) ≡ true
told_on t o e its is = by e.event
  where
    if_its : (event : Event) (b : Bool) → was_told o (cond b (events_in t its ++ event ∷ []) (events_in t its)) ≡ true
    if_its event true = told_more o (events_in t its) event is
    if_its event false = is

    by : (event : Option Event) → was_told o (by_event (add_event t) event (events_in t its)) ≡ true
    by None = is
    by (Some event) = if_its event (is_act_of t event)

module _ (p : Settings) (next : ThreadId → List Event → Option Request) (sound : AsksSoundly p.shape next) (e : Entry)
    (es : List Entry) (follow : AllFollow p next (e ∷ es))
    (c : ℕ) (node : e.node ≡ Client c) (alive : is_lost c (entries_of Server es) ≡ false) where
  -- the client's entries before it
  abbrev its : List Entry
  its = entries_of (Client c) es

  -- the client's rule
  pub own_rule : ClientFollows p next c e es
  own_rule = subst (λ n. NodeFollows p next n e es) node follow.1.rule

  module _ (o : ℕ) (shown : IsShown p c o its) where
    -- it becomes private to no thread
    never_private : (u : ThreadId) → u.client ≡ c → is_private p.shape u o (e ∷ its) ≡ true → ⊥
    never_private u mate is = by (next_act p c (next_after next es) (next_after next (e ∷ es)) e its own_rule.step)
      where
        was : is_private p.shape u o its ≡ true → ⊥
        was before = cc (sym before ∙ shown.public u mate)

        as_before : IsOthers u e.event → ⊥
        as_before others = was (ap (λ (work : Work). is_some (body_in o work.privates))
            (sym (same_work u e its others p.shape)) ∙ is)

        acts : (act : IsNextAct p c (next_after next es) e its) (b : Bool) → is_thread u act.thread ≡ b → ⊥
        acts act true same = elim (private_by o p.shape act.request act.reply (woken_by act.request act.reply its)
            (work_of p.shape u its)
            (private_before o p.shape u (Act act.thread act.request act.reply (woken_by act.request act.reply its)) e
            its (record { event_is = act.event; its = same }) is)) [
              | inl before ↦ was before
              | inr made ↦ untold_new p next sound es follow.0 c alive shown.thread shown.client o
                  (makes_next p act.thread act.request its o (act.answered ∙ ap Some made)) shown.told
            ]
        acts act false other = as_before (subst (IsOthers u) (sym act.event) other)

        by : (e.event ≡ None) ⊎ IsNextAct p c (next_after next es) e its → ⊥
        by (inl none) = as_before (subst (IsOthers u) (sym none) tt)
        by (inr act) = acts act (is_thread u act.thread) refl

    -- so it is private to none of them
    still_public : (u : ThreadId) → u.client ≡ c → (b : Bool) → is_private p.shape u o (e ∷ its) ≡ b → b ≡ false
    still_public u mate true is = absurd (never_private u mate is)
    still_public u mate false is = refl

    -- and is shown still
    still_shown : IsShown p c o (e ∷ its)
    still_shown = record {
      thread = shown.thread;
      client = shown.client;
      told = told_on shown.thread o e its shown.told;
      public = λ u mate. still_public u mate (is_private p.shape u o (e ∷ its)) refl;
    }

  -- What was shown to a client stays so with its next entry.
  pub lock_still_shown : (l : LockName) → LockShown p c l its → LockShown p c l (e ∷ its)
  lock_still_shown (Mon o) shown = still_shown o shown
  lock_still_shown (Name n) shown = tt
