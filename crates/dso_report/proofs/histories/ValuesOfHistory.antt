-- The values of the last state of a legal history of sound code name only what is there.
use Rattle.std.proofs.Common.{◌≡◌, ◌≢◌, ℕ, ◌<◌, refl, sym, subst, Bool, true, false, cond, List, [], ◌∷◌, ◌++◌, Option, None, Some, arith}
use Rattle.std.proofs.lemmas.List.{append-nil}
use Rattle.dso_base.specs.declared.lock.ThreadId.{ThreadId}
use Rattle.dso_base.specs.declared.request.Event.{Event}
use Rattle.dso_base.specs.declared.request.Event.TheVariants.{Act, Lost}
use Rattle.dso_base.specs.declared.request.Reply.{Reply}
use Rattle.dso_base.specs.declared.request.Reply.TheVariants.{Made, Val}
use Rattle.dso_base.specs.declared.request.Request.{Request}
use Rattle.dso_base.specs.declared.request.Request.TheVariants.{New, Get, Put, Tick, Timeout, Print}
use Rattle.dso_base.specs.declared.shape.Shape.{Shape}
use Rattle.dso_base.specs.declared.value.Value.{Value}
use Rattle.dso_base.specs.declared.value.Value.TheVariants as value
use Rattle.dso_base.specs.Following.{is_thread, IsListed, IsListedFor, Listed, FollowsFrom}
use Rattle.dso_machine.specs.declared.code.Code.{Code}
use Rattle.dso_machine.specs.Next.{next_request}
use Rattle.dso_machine.specs.Sound as machine
use Rattle.dso_machine.proofs.protocol.Protocol.{FollowsAt}
use Rattle.dso_machine.proofs.protocol.Threads.{keeps_to}
use Rattle.dso_plain.specs.After.{after}
use Rattle.dso_plain.specs.History.{Runs, end_of, events_of, IsLegal, last_state}
use Rattle.dso_plain.specs.Possible.{AnswersRequest}
use Rattle.dso_plain.specs.State.{PlainState, opening}
use Rattle.dso_plain.proofs.keys.SameKeys.{thread_self}
use Rattle.dso_report.specs.Told.{IsKnownValue, NamesOnlyKnown}
use Rattle.dso_report.proofs.histories.KnownNames.{TellsKnown, MayCome, name_keeper, follows_more}
use Rattle.dso_report.proofs.histories.StateObjects.{Grows, new_there, run_grows}
use Rattle.dso_report.proofs.histories.StateValues.{HoldsFirst, Gives, HasOnly, of_read, opening_has, act_has, loss_has}

-- the object is there in the last state, and isn't object 0
abbrev pub IsObject : PlainState → ℕ → Type 0
IsObject last o = (o ≢ 0) × (last.objects o ≢ None)

-- the text is one of the program
abbrev pub IsOwnText : Shape → ℕ → Type 0
IsOwnText shape text = text < shape.texts

-- the value that a request stores or prints is known, where the request names only what is known
gives_known : (IsText Knows : ℕ → Type 0) (q : Request) → NamesOnlyKnown IsText Knows q → Gives (IsKnownValue IsText Knows) q
gives_known IsText Knows (Put o f v) names = names.1
gives_known IsText Knows (Print v) names = names
gives_known IsText Knows q names = tt

module _ (code : Code) (last : PlainState) where
  -- the values with which fields begin name nothing
  first_known : HoldsFirst (IsKnownValue (IsOwnText code.shape) (IsObject last))
  first_known = record { null = tt; zero = tt; false = tt }

  -- A thread's events so far follow the code, each with a reply that tells only of what is there, and those that are left follow them.
  record IsUnderWay (t : ThreadId) (so_far left : List Event) : Type 0 where
    pub follows : FollowsAt (name_keeper code.shape (IsOwnText code.shape) (IsObject last) (λ text own. own)) (next_request code t) [] tt so_far
    pub ahead : FollowsFrom (next_request code) (Listed (next_request code)) t so_far left

  -- one event more, where it is the thread's
  one_more : (t u : ThreadId) (q : Request) (r : Reply) (woken : Option ThreadId) (so_far left : List Event) (b : Bool)
      → MayCome code.shape (IsOwnText code.shape) (IsObject last) (λ text own. own) q r → IsUnderWay t so_far (cond b (Act u q r woken ∷ left) left)
      → IsUnderWay t (so_far ++ cond b (Act u q r woken ∷ []) []) left
  one_more t u q r woken so_far left true comes way = record {
    follows = follows_more code.shape (IsOwnText code.shape) (IsObject last) (λ text own. own) (next_request code t) [] so_far u q r woken way.follows way.ahead.0.0 comes;
    ahead = way.ahead.1;
  }
  one_more t u q r woken so_far left false comes way = subst (λ es. IsUnderWay t es left) (sym (append-nil so_far)) way

  -- a possible reply tells only of what is there, where the values so far do, and what is there after it stays
  reply_known : (t : ThreadId) (q : Request) (r : Reply) (woken : Option ThreadId) (s : PlainState) → Grows code.shape (after code.shape (Act t q r woken) s) last
      → HasOnly (IsKnownValue (IsOwnText code.shape) (IsObject last)) s → AnswersRequest code.shape t q r s → IsListed q r
      → TellsKnown code.shape (IsOwnText code.shape) (IsObject last) (λ text own. own) r
  reply_known t (New class n) (Made o) woken s grows has may listed =
      let real : o ≢ 0 = λ none. omega (arith, may.0, none) in
      (real, grows.stays o (new_there code.shape t s class n o))
  reply_known t (Get o f) (Val v) woken s grows has may listed = of_read (IsKnownValue (IsOwnText code.shape) (IsObject last)) code.shape t o f v s has may
  reply_known t (Tick l) (Val (value.Bool told)) woken s grows has may listed = tt
  reply_known t (Timeout l) (Val (value.Bool true)) woken s grows has may listed = tt
  reply_known t q (Made o) woken s grows has may listed = absurd listed
  reply_known t q (Val v) woken s grows has may listed = absurd listed
  reply_known t q r woken s grows has may listed = tt

  module _ (sound : machine.IsSoundCode code) where
    -- Each event of a run to the last state leaves only values that name what is there.
    walk : (es : List Event) (s : PlainState) (so_far : ThreadId → List Event) → Runs code.shape es s → end_of code.shape es s ≡ last → ((t : ThreadId) → IsUnderWay t (so_far t) (events_of t es))
        → HasOnly (IsKnownValue (IsOwnText code.shape) (IsObject last)) s → HasOnly (IsKnownValue (IsOwnText code.shape) (IsObject last)) last
    walk [] s so_far runs is ways has = subst (HasOnly (IsKnownValue (IsOwnText code.shape) (IsObject last))) is has
    walk (Lost client ∷ es) s so_far runs is ways has =
        walk es (after code.shape (Lost client) s) so_far runs.1 is ways (loss_has (IsKnownValue (IsOwnText code.shape) (IsObject last)) first_known code.shape client s has)
    walk (Act t q r woken ∷ es) s so_far runs is ways has =
        let Known : Value → Type 0 = IsKnownValue (IsOwnText code.shape) (IsObject last) in
        let next : PlainState = after code.shape (Act t q r woken) s in
        let own : IsUnderWay t (so_far t) (Act t q r woken ∷ events_of t es) = subst (λ b. IsUnderWay t (so_far t) (cond b (Act t q r woken ∷ events_of t es) (events_of t es))) (thread_self t) (ways t) in
        let asked : next_request code t (so_far t) ≡ Some q = own.ahead.0.0 in
        let listed : IsListed q r = subst (λ found. IsListedFor found r) asked own.ahead.0.1 in
        let names : NamesOnlyKnown (IsOwnText code.shape) (IsObject last) q =
        keeps_to code (name_keeper code.shape (IsOwnText code.shape) (IsObject last) (λ text own. own)) sound t (so_far t) q own.follows asked in
        let gives : Gives Known q = gives_known (IsOwnText code.shape) (IsObject last) q names in
        let grows : Grows code.shape next last = subst (Grows code.shape next) is (run_grows code.shape es next runs.1) in
        let comes : MayCome code.shape (IsOwnText code.shape) (IsObject last) (λ text own. own) q r =
        record { listed = listed; tells = reply_known t q r woken s grows has runs.0.answers listed; names = names } in
        walk es next (λ u. so_far u ++ cond (is_thread u t) (Act t q r woken ∷ []) []) runs.1 is
        (λ u. one_more u t q r woken (so_far u) (events_of u es) (is_thread u t) comes (ways u))
        (act_has Known first_known code.shape t q r woken s gives has)

-- the values of the last state of a legal history name only what is there
pub last_known : (code : Code) → machine.IsSoundCode code → (h : List Event) → IsLegal (next_request code) (Listed (next_request code)) code.shape h
    → HasOnly (IsKnownValue (IsOwnText code.shape) (IsObject (last_state code.shape h))) (last_state code.shape h)
last_known code sound h legal =
    let last : PlainState = last_state code.shape h in
    walk code last sound h (opening code.shape) (λ t. []) legal.runs refl (λ t. record { follows = tt; ahead = legal.follows t })
    (opening_has (IsKnownValue (IsOwnText code.shape) (IsObject last)) (first_known code last) code.shape)
