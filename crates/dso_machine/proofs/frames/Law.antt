-- The law of frames: after one more event a thread of sound code holds object 0, what it held before, or what the reply tells.
use Rattle.std.specs.Option.{option_map_or}
use Rattle.std.proofs.Common.{◌≡◌, refl, ℕ, ◌+◌, ◌≤◌, Bool, true, false, ◌||◌, ◌⊎◌, inl, inr, List, [], ◌∷◌, ◌++◌, length, Option, None, Some, subst, sym, ap, ◌∙◌, arith}
use Rattle.std.proofs.lemmas.Bool.{or_cases}
use Rattle.std.proofs.lemmas.List.{append-nil, length-append}
use Rattle.dso_base.specs.declared.lock.ThreadId.{ThreadId}
use Rattle.dso_base.specs.declared.request.Event.{Event}
use Rattle.dso_base.specs.declared.request.Event.TheVariants.{Act}
use Rattle.dso_base.specs.declared.request.Reply.{Reply}
use Rattle.dso_base.specs.declared.request.Request.{Request}
use Rattle.dso_base.specs.declared.request.Request.TheVariants as request
use Rattle.dso_base.specs.declared.value.Value.{Value}
use Rattle.dso_base.specs.Block.{has_reference}
use Rattle.dso_base.specs.Naming.{reply_names, request_names}
use Rattle.dso_machine.specs.declared.code.Code.{Code}
use Rattle.dso_machine.specs.declared.code.ThreadBody.{ThreadBody}
use Rattle.dso_machine.specs.Calls.{held_by}
use Rattle.dso_machine.specs.Frames.{request_values, frames_of, frames_by, frames_after, holds_then, KeepsFrames}
use Rattle.dso_machine.specs.Next.{finish, opening, whole, enough_for, request_of, replies_in, body_of, next_of, next_request}
use Rattle.dso_machine.specs.Outcome.{Outcome, Wants, Gives, Leaves, Fails, Hears, Over, Stopped}
use Rattle.dso_machine.specs.Sound.{IsSoundBody, IsSoundCode}
use Rattle.dso_machine.specs.Statements.{methods}
use Rattle.dso_machine.proofs.moves.Enough.{never_stopped}
use Rattle.dso_machine.proofs.moves.MoreReplies.{Extends}
use Rattle.dso_machine.proofs.moves.MoreRepliesInTrees.{later_replies}
use Rattle.dso_machine.proofs.protocol.Calls.{known_append, known_variables}
use Rattle.dso_machine.proofs.protocol.Parts.{refilled}
use Rattle.dso_machine.proofs.protocol.Threads.{body_sound}
use Rattle.dso_machine.proofs.standing.AfterEvents.{replies_more}
use Rattle.dso_machine.proofs.frames.Held.{Objects, IsOne, one_named, request_named, EndsIn, HoldsOnly, goes_on}
use Rattle.dso_machine.proofs.frames.Trees.{part_block, part_methods}

-- ---- what is held where a part stands

-- whether the object is held there, or named by the request that is wanted
abbrev pub held_there : Outcome → ℕ → Bool
held_there o x = has_reference x (frames_of o) || option_map_or (λ q. request_names q x) (request_of o) false

-- an end holds nothing
end_holds : (kept : List Value) (known : Objects) (rs : List Reply) (e : Outcome) (x : ℕ) → EndsIn known kept e → held_there (refilled rs e) x ≡ false
end_holds kept known rs (Gives v u) x end = refl
end_holds kept known rs (Leaves v u) x end = refl
end_holds kept known rs (Fails fault u) x end = refl
end_holds kept known rs (Wants q env) x end = absurd end
end_holds kept known rs (Hears r u) x end = absurd end
end_holds kept known rs Over x end = absurd end
end_holds kept known rs Stopped x end = absurd end

-- where nothing is held, no object is
none_held : (o : Outcome) (x : ℕ) {A : Type 0} → held_there o x ≡ false → held_there o x ≡ true → A
none_held o x none held = absurd (cc (sym none ∙ held))

-- What is held at first is known,
held_first : {kept : List Value} {known : Objects} {o : List Reply → Outcome} (x : ℕ) → HoldsOnly kept known o → held_there (o []) x ≡ true → IsOne known x
held_first {kept} {known} {o} x (HoldsOnly.asks q env is st values go) held =
    elim (or_cases (has_reference x (held_by env)) (request_names q x) (sym (ap (λ w. held_there w x) is) ∙ held)) [
      | inl frames ↦ in_frames frames
      | inr named ↦ one_named known (request_values q) x values (request_named q x ∙ named)
    ]
  where
    in_frames : has_reference x (held_by env) ≡ true → IsOne known x
    in_frames e = one_named known (held_by env) x (st.this, known_append (λ t. Unit {0}) (IsOne known) env.vars env.outer st.vars st.outer) e
held_first {kept} {known} {o} x (HoldsOnly.ends e is end) held = none_held (o []) x (ap (λ w. held_there w x) (is []) ∙ end_holds kept known [] e x end) held
held_first {kept} {known} {o} x (HoldsOnly.stops is) held = none_held (o []) x (ap (λ w. held_there w x) (is [])) held
held_first {kept} {known} {o} x (HoldsOnly.is_over is) held = none_held (o []) x (ap (λ w. held_there w x) (is [])) held

-- and what is held after one more reply is object 0, was held before, or was told by it.
held_next : {kept : List Value} {known : Objects} {o : List Reply → Outcome} (rs : List Reply) (r : Reply) (x : ℕ) → HoldsOnly kept known o → held_there (o (rs ++ r ∷ [])) x ≡ true
    → (x ≡ 0) ⊎ ((held_there (o rs) x || reply_names r x) ≡ true)
held_next {kept} {known} {o} [] r x (HoldsOnly.asks q env is st values go) held =
    subst (λ w. (x ≡ 0) ⊎ ((held_there w x || reply_names r x) ≡ true)) (sym is) (held_first x (go r) held)
held_next (s ∷ rs) r x (HoldsOnly.asks q env is st values go) held = held_next rs r x (go s) held
held_next {kept} {known} {o} rs r x (HoldsOnly.ends e is end) held =
    none_held (o (rs ++ r ∷ [])) x (ap (λ w. held_there w x) (is (rs ++ r ∷ [])) ∙ end_holds kept known (rs ++ r ∷ []) e x end) held
held_next {kept} {known} {o} rs r x (HoldsOnly.stops is) held = none_held (o (rs ++ r ∷ [])) x (ap (λ w. held_there w x) (is (rs ++ r ∷ []))) held
held_next {kept} {known} {o} rs r x (HoldsOnly.is_over is) held = none_held (o (rs ++ r ∷ [])) x (ap (λ w. held_there w x) (is (rs ++ r ∷ []))) held

-- ---- the whole of a thread

-- where its statements end, a thread asks for its end, and then it is over
ends_thread : (k : Objects) (e : Outcome) → EndsIn k [] e → HoldsOnly [] k (λ rs. finish (refilled rs e))
ends_thread k (Gives v u) end = HoldsOnly.asks (request.End None) u.environment refl end.1 tt (λ r. HoldsOnly.is_over (λ rs. refl))
ends_thread k (Leaves v u) end = HoldsOnly.asks (request.End None) u.environment refl end.1 tt (λ r. HoldsOnly.is_over (λ rs. refl))
ends_thread k (Fails fault u) end = HoldsOnly.asks (request.End (Some fault)) u.environment refl end tt (λ r. HoldsOnly.is_over (λ rs. refl))
ends_thread k (Wants q env) end = absurd end
ends_thread k (Hears r u) end = absurd end
ends_thread k Over end = absurd end
ends_thread k Stopped end = absurd end

-- a thread of sound code holds only what is known: at first nothing is
holds_whole : (c : Code) → IsSoundCode c → (body : ThreadBody) → IsSoundBody c body → (n : ℕ) → HoldsOnly [] (λ o. false) (λ rs. whole c body n rs)
holds_whole c sound body fine n = goes_on finish (record { wants = λ q env. refl; stopped = refl; over = refl }) (λ o e. e)
    ((part_block c (methods c n) (part_methods c sound n) body.vars false n fine.statements).from (λ o. false) [] (opening body.vars [])
    (record { this = tt; vars = known_variables (λ t. Unit {0}) (IsOne (λ o. false)) body.vars [] tt; outer = tt; stays = λ o e. e }) tt) ends_thread

-- an outcome that is not stopped holds what comes of more moves
same_held : (o n : Outcome) (x : ℕ) → (o ≡ Stopped → ⊥) → Extends [] o n → held_there n x ≡ held_there o x
same_held (Wants q env) n x going e = ap (λ w. held_there w x) (e refl)
same_held (Gives v u) n x going e = ap (λ w. held_there w x) e
same_held (Leaves v u) n x going e = ap (λ w. held_there w x) e
same_held (Fails f u) n x going e = ap (λ w. held_there w x) e
same_held (Hears r u) n x going e = ap (λ w. held_there w x) e
same_held Over n x going e = ap (λ w. held_there w x) e
same_held Stopped n x going e = absurd (going refl)

-- any number of moves that is no less holds the same
moves_held : (c : Code) (body : ThreadBody) (n : ℕ) (rs : List Reply) (x : ℕ) → enough_for rs ≤ n → held_there (whole c body n rs) x ≡ held_there (whole c body (enough_for rs) rs) x
moves_held c body n rs x le = same_held _ _ x (never_stopped c body rs)
    (subst (λ all. Extends [] (whole c body (enough_for rs) rs) (whole c body n all)) (append-nil rs) (later_replies c body (enough_for rs) n le rs []))

-- ---- by the events of a thread

-- what a thread holds after its events is held where its code stands
pub held_after : (c : Code) (t : ThreadId) (body : ThreadBody) → body_of t c.bodies ≡ Some body → (events : List Event) (x : ℕ)
    → holds_then (next_request c) (frames_after c) t events x ≡ held_there (whole c body (enough_for (replies_in events)) (replies_in events)) x
held_after c t body its events x =
    ap (λ b. has_reference x (frames_by c (replies_in events) b) || option_map_or (λ q. request_names q x) (next_of c (replies_in events) b) false) its

-- a thread that is there keeps its frames
keeps_there : (c : Code) → IsSoundCode c → (t : ThreadId) (body : ThreadBody) → body_of t c.bodies ≡ Some body
    → (events : List Event) (thread : ThreadId) (q : Request) (r : Reply) (woken : Option ThreadId) (x : ℕ)
    → holds_then (next_request c) (frames_after c) t (events ++ Act thread q r woken ∷ []) x ≡ true
    → (x ≡ 0) ⊎ ((holds_then (next_request c) (frames_after c) t events x || reply_names r x) ≡ true)
keeps_there c sound t body its events thread q r woken x held =
    let rs : List Reply = replies_in events in
    let n : ℕ = enough_for (rs ++ r ∷ []) in
    let longer : length (rs ++ r ∷ []) ≡ length rs + 1 = length-append rs (r ∷ []) in
    let there : held_there (whole c body n (rs ++ r ∷ [])) x ≡ true =
    subst (λ all. held_there (whole c body (enough_for all) all) x ≡ true) (replies_more thread q r woken events) (sym (held_after c t body its (events ++ Act thread q r woken ∷ []) x) ∙ held) in
    let fine : IsSoundBody c body = body_sound (IsSoundBody c) t body c.bodies sound.bodies its in
    let before : held_there (whole c body n rs) x ≡ holds_then (next_request c) (frames_after c) t events x =
    moves_held c body n rs x (omega (arith, longer)) ∙ sym (held_after c t body its events x) in
    subst (λ b. (x ≡ 0) ⊎ ((b || reply_names r x) ≡ true)) before (held_next rs r x (holds_whole c sound body fine n) there)

-- one that isn't there holds nothing
none_there : (c : Code) (t : ThreadId) (body : Option ThreadBody) → body_of t c.bodies ≡ body → body ≡ None → (events : List Event) (x : ℕ)
    → holds_then (next_request c) (frames_after c) t events x ≡ false
none_there c t body its none events x =
    ap (λ b. has_reference x (frames_by c (replies_in events) b) || option_map_or (λ q. request_names q x) (next_of c (replies_in events) b) false) (its ∙ none)

-- The law: each thread of sound code keeps its frames.
keeps_found : (c : Code) → IsSoundCode c → (t : ThreadId) (body : Option ThreadBody) → body_of t c.bodies ≡ body
    → (events : List Event) (thread : ThreadId) (q : Request) (r : Reply) (woken : Option ThreadId) (x : ℕ)
    → holds_then (next_request c) (frames_after c) t (events ++ Act thread q r woken ∷ []) x ≡ true
    → (x ≡ 0) ⊎ ((holds_then (next_request c) (frames_after c) t events x || reply_names r x) ≡ true)
keeps_found c sound t (Some body) its events thread q r woken x held = keeps_there c sound t body its events thread q r woken x held
keeps_found c sound t None its events thread q r woken x held = absurd (cc (sym (none_there c t None its refl (events ++ Act thread q r woken ∷ []) x) ∙ held))

pub keeps_frames : (c : Code) → IsSoundCode c → KeepsFrames (next_request c) (frames_after c)
keeps_frames c sound t events thread q r woken x held = keeps_found c sound t (body_of t c.bodies) refl events thread q r woken x held
