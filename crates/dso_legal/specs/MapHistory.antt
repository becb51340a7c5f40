-- The calls of maps that a history has: each thread goes from call to call, and those of one map are those of one
-- finite map.
use Rattle.std.specs.Option.{option_to_list}
use Rattle.std.specs.Prelude.{ℕ, ◌≡◌, true, cond, eqb, Option, Some, None, List, [], ◌∷◌, ◌++◌}
use Rattle.dso_base.specs.declared.journal.Entry.{Entry}
use Rattle.dso_base.specs.declared.lock.ThreadId.{ThreadId}
use Rattle.dso_base.specs.declared.request.Event.{Event}
use Rattle.dso_base.specs.declared.request.Event.TheVariants.{Act, Lost}
use Rattle.dso_base.specs.declared.request.Reply.{Reply}
use Rattle.dso_base.specs.declared.request.Request.{Request}
use Rattle.dso_base.specs.declared.shape.Shape.{Shape}
use Rattle.dso_base.specs.Following.{is_thread}
use Rattle.dso_map.specs.Calls.{request_of, accepts}
use Rattle.dso_map.specs.Contents.{Content, Same, Meets}
use Rattle.dso_machine.specs.declared.code.Code.{Code}
use Rattle.dso_machine.specs.MapCalls.{Called, Phase, PhaseStep}
use Rattle.dso_machine.specs.MapCalls.Phase.{Outside, Inside}
use Rattle.dso_machine.specs.Next.{next_request}
use Rattle.dso_machine.specs.Sound.{IsSoundCode}
use Rattle.dso_plain.specs.History.{events_of, last_state}
use Rattle.dso_law.specs.Settings.{Settings}
use Rattle.dso_legal.specs.Committed.{committed}
use Rattle.dso_legal.specs.Lawful.{IsLawful}
use Rattle.dso_legal.specs.HeapMaps.{IsMapObject, IsMap}

-- inside a call, what is replied to the call's request is what the call takes
abbrev pub IsTaken : Phase → Reply → Type 0
IsTaken Outside r = Unit {0}
IsTaken (Inside object call rest locked) r = (q : Request) → request_of object rest ≡ Some q → accepts rest r ≡ true

-- where the threads are, after one of them went on
abbrev pub with_phase : ThreadId → Phase → (ThreadId → Phase) → ThreadId → Phase
with_phase t phase phases u = cond (is_thread t u) phase (phases u)

module _ (shape : Shape) (next : ThreadId → List Event → Option Request) where
  -- A history goes on behind the events before, where the threads are so: each act takes its thread from phase to
  -- phase, and fails no call; and these calls end, in this order. As a client is lost, and at the history's end, no
  -- thread is inside a call.
  pub data HistoryWalks : List Event → (ThreadId → Phase) → List Event → List Called → Type 0 where
    ends : {before : List Event} {phases : ThreadId → Phase} → ((t : ThreadId) → phases t ≡ Outside)
        → HistoryWalks before phases [] []
    acts : {before : List Event} {phases : ThreadId → Phase} {t : ThreadId} {q : Request} {r : Reply}
        {woken : Option ThreadId} {other : Phase} {ended : Option Called} {events : List Event} {calls : List Called}
        → PhaseStep shape next t (events_of t before) (phases t) q r other ended → IsTaken (phases t) r
        → HistoryWalks (before ++ Act t q r woken ∷ []) (with_phase t other phases) events calls
        → HistoryWalks before phases (Act t q r woken ∷ events) (option_to_list ended ++ calls)
    loses : {before : List Event} {phases : ThreadId → Phase} {client : ℕ} {events : List Event} {calls : List Called}
        → ((t : ThreadId) → phases t ≡ Outside) → HistoryWalks (before ++ Lost client ∷ []) phases events calls
        → HistoryWalks before phases (Lost client ∷ events) calls

-- the calls of one object
abbrev pub calls_of : ℕ → List Called → List Called
calls_of o [] = []
calls_of o (called ∷ calls) = cond (eqb called.object o) (called ∷ calls_of o calls) (calls_of o calls)

-- each call meets the table, from one map to the next
abbrev pub AreOfMap : Content → List Called → Content → Type 0
AreOfMap m [] n = Same m n
AreOfMap m (called ∷ calls) n = (next : Content) × Meets called.call called.gave m next × AreOfMap next calls n

-- the map without a key
abbrev pub no_content : Content
no_content k = None

-- The history keeps maps: its threads go from call to call, with these calls in the order of their last events; and
-- those of each object of the class of maps are those of one finite map, which begins empty, and which the object's
-- fields hold at the end.
pub record KeepsMaps (shape : Shape) (next : ThreadId → List Event → Option Request) (h : List Event) : Type 0 where
  pub calls : List Called
  pub walks : HistoryWalks shape next [] (λ t. Outside) h calls
  pub maps : (o : ℕ) → IsMapObject shape ((last_state shape h).objects o)
      → (m : Content) × AreOfMap no_content (calls_of o calls) m × IsMap o m (last_state shape h)

-- Maps are one map: for settings and sound code of one shape, what a lawful journal commits keeps maps.
abbrev pub MapsAreOneMap : Type 0
MapsAreOneMap = (p : Settings) (code : Code) → p.shape ≡ code.shape → IsSoundCode code → (es : List Entry)
    → IsLawful p (next_request code) es → KeepsMaps code.shape (next_request code) (committed es)
