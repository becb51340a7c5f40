-- A thread has ended exactly where its code asks nothing more; so a client's threads that go on are counted.
use Rattle.std.specs.List.{list_any, AllByRecursion}
use Rattle.std.proofs.Common.{ℕ, ◌≡◌, ◌≢◌, refl, sym, ◌∙◌, ap, Bool, true, false, cond, eqb, ltb, not, ◌||◌, is_some, Option, Some, None, List, [], ◌∷◌, filter}
use Rattle.std.specs.Prelude.{count_by}
use Rattle.std.proofs.lemmas.List.Sums.{sum_by-cons}
use Rattle.dso_base.specs.declared.journal.Entry.{Entry}
use Rattle.dso_base.specs.declared.journal.Node.TheVariants.{Client}
use Rattle.dso_base.specs.declared.lock.ThreadId.{ThreadId}
use Rattle.dso_base.specs.declared.request.Event.{Event}
use Rattle.dso_base.specs.declared.request.Event.TheVariants.{Act, Lost}
use Rattle.dso_base.specs.declared.request.Request.{Request}
use Rattle.dso_base.specs.declared.request.Request.TheVariants.{End}
use Rattle.dso_client.proofs.contexts.Going.{one_more}
use Rattle.dso_law.specs.Settings.{Settings, threads_of}
use Rattle.dso_law.specs.ClientRun.{next_in}
use Rattle.dso_law.specs.Entries.{entries_of, events_in}
use Rattle.dso_law.specs.Threads.{ends_thread}
use Rattle.dso_machine.specs.declared.code.Code.{Code}
use Rattle.dso_machine.specs.declared.code.ThreadBody.{ThreadBody}
use Rattle.dso_machine.specs.Next.{body_of, next_request}
use Rattle.dso_machine.specs.Sound.{IsSoundCode}
use Rattle.dso_legal.specs.Lawful.{next_after, AllFollow}
use Rattle.dso_legal.specs.Slots.{ends, has_ended}
use Rattle.dso_legal.proofs.blocks.OwnActs.{threads_follow}
use Rattle.dso_legal.proofs.fitting.Untold.{keeps_to}
use Rattle.dso_world.specs.FinishedRuns.{EndedAsksNothing}
use Rattle.dso_world.proofs.finished.CodeEnds.{code_ends}
use Rattle.dso_world.proofs.premises.OwnRun.{own_next}
use Rattle.dso_world.proofs.premises.SoundPrograms.{sound_code}

-- the two words for an end
same_end : (event : Event) → ends event ≡ ends_thread event
same_end (Act thread (End fault) reply woken) = refl
same_end (Act thread request reply woken) = refl
same_end (Lost client) = refl

same_ends : (events : List Event) → list_any ends events ≡ list_any ends_thread events
same_ends [] = refl
same_ends (event ∷ events) = ap (λ b. b || list_any ends events) (same_end event) ∙ ap (λ b. ends_thread event || b) (same_ends events)

twice : (b : Bool) → not (not b) ≡ b
twice true = refl
twice false = refl

module _ (code : Code) (sound : IsSoundCode code) (p : Settings) (shaped : p.shape ≡ code.shape) (es : List Entry) (follow : AllFollow p (next_request code) es) where
  -- A thread of the code has ended where it has no next request.
  pub ended_is : (t : ThreadId) → body_of t code.bodies ≢ None → has_ended t es ≡ not (is_some (next_after (next_request code) es t))
  ended_is t there = by (body_of t code.bodies) refl (next_after (next_request code) es t) refl
    where
      by : (body : Option ThreadBody) → body_of t code.bodies ≡ body → (request : Option Request) → next_after (next_request code) es t ≡ request → has_ended t es ≡ not (is_some request)
      by None found request is = absurd (there found)
      by (Some body) found None is = code_ends code t body (events_in t (entries_of (Client t.client) es)) found (threads_follow p (next_request code) t es follow) is
      by (Some body) found (Some request) is = same_ends (events_in t (entries_of (Client t.client) es)) ∙ (keeps_to p (next_request code) (sound_code code p.shape sound shaped).sound es follow t request is).goes

  module _ (c : ℕ) where
    -- so by its client's own entries
    pub goes_on : (t : ThreadId) → eqb t.client c ≡ true → body_of t code.bodies ≢ None → not (has_ended t es) ≡ is_some (next_in (next_request code) (entries_of (Client c) es) t)
    goes_on t its there = ap not (ended_is t there) ∙ twice (is_some (next_after (next_request code) es t)) ∙ ap is_some (sym (own_next p (next_request code) c es t its))

    -- a thread goes on, it has not ended; and those of these threads that are the client's
    abbrev on : ThreadId → Bool
    on t = is_some (next_in (next_request code) (entries_of (Client c) es) t)

    abbrev off : ThreadId → Bool
    off t = not (has_ended t es)

    abbrev its_threads : List ThreadId → List ThreadId
    its_threads threads = filter (λ t. eqb t.client c) threads

    any_on : (threads : List ThreadId) → AllByRecursion (λ t. body_of t code.bodies ≢ None) threads
        → list_any (λ t. not (has_ended t es)) (filter (λ t. eqb t.client c) threads)
        ≡ ltb 0 (count_by (λ t. is_some (next_in (next_request code) (entries_of (Client c) es) t)) (filter (λ t. eqb t.client c) threads))
    any_on [] there = refl
    any_on (t ∷ threads) there = by (eqb t.client c) (λ its. goes_on t its there.0) (any_on threads there.1)
      where
        by : (its : Bool) → (its ≡ true → not (has_ended t es) ≡ on t) → list_any off (its_threads threads) ≡ ltb 0 (count_by on (its_threads threads))
            → list_any off (cond its (t ∷ its_threads threads) (its_threads threads)) ≡ ltb 0 (count_by on (cond its (t ∷ its_threads threads) (its_threads threads)))
        by true here later = ap (λ b. b || list_any off (its_threads threads)) (here refl) ∙ ap (λ b. on t || b) later ∙ one_more (on t) (count_by on (its_threads threads))
            ∙ ap (ltb 0) (sym (sum_by-cons (λ t. cond (on t) 1 0) t (its_threads threads)))
        by false here later = later

    -- A thread of the client has not ended exactly where one of them has a next request.
    pub alive_is : AllByRecursion (λ t. body_of t code.bodies ≢ None) p.threads → (alive : ℕ) → alive ≡ count_by (λ t. is_some (next_in (next_request code) (entries_of (Client c) es) t)) (threads_of p c)
        → list_any (λ t. not (has_ended t es)) (threads_of p c) ≡ ltb 0 alive
    alive_is there alive is = any_on p.threads there ∙ ap (ltb 0) (sym is)

-- Of every code.
pub ended_asks_nothing : EndedAsksNothing
ended_asks_nothing code p es sound shaped lawful t there = ended_is code sound p shaped es lawful.follow t there
