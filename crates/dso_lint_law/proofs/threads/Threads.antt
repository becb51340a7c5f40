-- A thread of code that keeps the rules is safe, from its first request to its end.
use Rattle.std.proofs.Common.{◌≡◌, refl, ◌⊎◌, inl, inr, ℕ, zero, suc, ◌+◌, ◌-◌, ◌≤◌, Bool, true, false, cond, List, [], ◌∷◌, ◌++◌, length, Option, None, Some, subst, sym, ap, ◌∙◌, arith}
use Rattle.std.specs.Prelude.{Contains, slice_get}
use Rattle.std.proofs.lemmas.List.{append-nil, length-append}
use Rattle.dso_base.specs.declared.lock.Grade.{Grade}
use Rattle.dso_base.specs.declared.lock.ThreadId.{ThreadId}
use Rattle.dso_base.specs.declared.request.Event.{Event}
use Rattle.dso_base.specs.declared.request.Event.TheVariants.{Act, Lost}
use Rattle.dso_base.specs.declared.request.Reply.{Reply}
use Rattle.dso_base.specs.declared.request.Request.{Request}
use Rattle.dso_base.specs.declared.request.Request.TheVariants as request
use Rattle.dso_base.specs.declared.value.Value.TheVariants as value
use Rattle.dso_base.specs.Following.{is_thread}
use Rattle.dso_machine.specs.declared.code.Code.{Code}
use Rattle.dso_machine.specs.declared.code.Method.{Method}
use Rattle.dso_machine.specs.declared.code.ThreadBody.{ThreadBody}
use Rattle.dso_machine.specs.declared.tree.Expr.TheVariants as x
use Rattle.dso_machine.specs.declared.tree.Stmt.{Stmt}
use Rattle.dso_machine.specs.Calls.{variables}
use Rattle.dso_machine.specs.Next.{finish, opening, whole, enough_for, request_of, replies_in, body_of, next_of, next_request}
use Rattle.dso_machine.specs.Outcome.{Environment, Outcome, Wants, Gives, Leaves, Fails, Hears, Over, Stopped}
use Rattle.dso_machine.specs.Sound.{IsSoundMethod, IsSoundBody, IsSoundCode}
use Rattle.dso_machine.specs.Statements.{block, statements_of, methods}
use Rattle.dso_machine.proofs.moves.MoreRepliesInTrees.{moves_enough}
use Rattle.dso_machine.proofs.protocol.Parts.{refilled, one_function}
use Rattle.dso_machine.proofs.protocol.Threads.{all_of, body_sound, replies_more}
use Rattle.dso_lint.specs.declared.answer.Place.{Place}
use Rattle.dso_lint.specs.declared.answer.Place.TheVariants as place
use Rattle.dso_lint.specs.Routines.{Routine, of_method, of_thread}
use Rattle.dso_lint.specs.Sites.{Site, own_sites, whole_site}
use Rattle.dso_lint.specs.Clean.{Choice, KeepsRules}
use Rattle.dso_lint.specs.Verdict.{Passes}
use Rattle.dso_lint.proofs.standing.Trees.{none_there, cons_cases}
use Rattle.dso_lint_law.proofs.parts.Views.{View, first, viewed, Safe, MayCome, Shared, later_itself}
use Rattle.dso_lint_law.proofs.parts.Parts.{Obeys, keeps_on, Var, value_in, Around, Stands, Any, Fine, Part, part_stopped}
use Rattle.dso_lint_law.proofs.bodies.Rules.{around, chosen_var}
use Rattle.dso_lint_law.proofs.bodies.Placed.{placed_whole}
use Rattle.dso_lint_law.proofs.bodies.Methods.{body_of_method, nulls_shared, in_body}
use Rattle.dso_lint_law.proofs.bodies.Calls.{Bodies}
use Rattle.dso_lint_law.proofs.bodies.Statements.{part_block}

-- ---- events and views

-- the view after events
abbrev pub view_after : View → List Event → View
view_after g [] = g
view_after g (Act thread q r woken ∷ events) = view_after (viewed q r g) events
view_after g (Lost client ∷ events) = view_after g events

-- each event is an act with the thread's next request after the events before it, and a reply that may come by the view
abbrev pub Follows : (List Event → Option Request) → List Event → View → List Event → Type 0
Follows next before g [] = Unit {0}
Follows next before g (Act thread q r woken ∷ events) = (next before ≡ Some q) × MayCome g q r × Follows next (before ++ Act thread q r woken ∷ []) (viewed q r g) events
Follows next before g (Lost client ∷ events) = ⊥

-- ---- where a thread's body is

-- the body of a thread, as the rules see it
abbrev body_of_thread : ThreadBody → Routine
body_of_thread b = record { statements = b.body; params = 0; named = None; synced = None }

-- the body that a thread has is one of the code
record IsThere (bodies : List ThreadBody) (body : ThreadBody) : Type 0 where
  number : ℕ
  there : slice_get bodies number ≡ Some body

one_there : (head : ThreadBody) (rest : List ThreadBody) (body : ThreadBody) (b : Bool) → (body_of_rest : Option ThreadBody) → (body_of_rest ≡ Some body → IsThere rest body) → cond b (Some head) body_of_rest ≡ Some body → IsThere (head ∷ rest) body
one_there head rest body true other later is = record { number = 0; there = is }
one_there head rest body false other later is = record { number = suc (later is).number; there = (later is).there }

body_there : (t : ThreadId) (body : ThreadBody) (bodies : List ThreadBody) → body_of t bodies ≡ Some body → IsThere bodies body
body_there t body [] is = absurd (cc is)
body_there t body (head ∷ rest) is = one_there head rest body (is_thread t head.thread) (body_of t rest) (body_there t body rest) is

-- a method's own site has its whole body as its block
own_block : (synced : Option Grade) (statements : List Stmt) (site : Site) → Contains (whole_site synced statements) site → site.block ≡ statements
own_block None statements site there = absurd (none_there site there)
own_block (Some grade) statements site there = by (cons_cases own [] site there)
  where
    own : Site
    own = record { lock = x.This; grade = grade; block = statements }

    by : (own ≡ site) ⊎ Contains [] site → site.block ≡ statements
    by (inl same) = ap (λ (s : Site). s.block) (sym same)
    by (inr nowhere) = absurd (none_there site nowhere)

module _ (code : Code) (sound : IsSoundCode code) (choice : Choice) (rules : KeepsRules code choice) (passes : (at : Place) → Passes code choice at) where
  -- the statements of a method
  part_method_body : (n : ℕ) → Bodies code choice rules passes (methods code n) → (m : ℕ) (method : Method) (found : slice_get code.methods m ≡ Some method) (o : ℕ) (g : View)
      → Part code.shape (in_body code choice rules passes m method found (own_sites (body_of_method method)) o) Any g (block code (methods code n) n method.body)
  part_method_body n bodies m method found o g =
      let fine : IsSoundMethod code method = all_of (IsSoundMethod code) code.methods m method found sound.methods in
      part_block code sound choice rules passes (methods code n) bodies n (place.Method (suc m)) (body_of_method method) (ap of_method found) (λ v. v ≡ value.Ref o) method.vars true fine.statements
      (placed_whole (body_of_method method) (own_block method.synced method.body)) g

  -- so all methods, for any number of moves
  bodies_safe : (n : ℕ) → Bodies code choice rules passes (methods code n)
  bodies_safe zero = record { body = λ m method found o g. part_stopped code.shape _ Any g }
  bodies_safe (suc n) = record {
    body = λ m method found o g. subst (λ it. Part code.shape (in_body code choice rules passes m method found (own_sites (body_of_method method)) o) Any g (block code (methods code n) n (statements_of it))) (sym found)
        (part_method_body n (bodies_safe n) m method found o g);
  }

  -- ---- the whole of a thread

  -- the thread is over, or was stopped
  abbrev Ended : Outcome → View → Type 0
  Ended Over g = Unit {0}
  Ended Stopped g = Unit {0}
  Ended o g = ⊥

  -- where its statements end, it asks for its end
  ends_thread : (c : Around) (started : Environment) (e : Outcome) (h : View) → Fine code.shape c Any first started e h → Obeys code.shape Ended h (λ rs. finish (refilled rs e))
  ends_thread c started (Gives v u) h fine = Obeys.asks (request.End None) refl tt (λ r comes. Obeys.ends Over (λ rs. refl) tt)
  ends_thread c started (Leaves v u) h fine = Obeys.asks (request.End None) refl tt (λ r comes. Obeys.ends Over (λ rs. refl) tt)
  ends_thread c started (Fails fault u) h fine = Obeys.asks (request.End (Some fault)) refl tt (λ r comes. Obeys.ends Over (λ rs. refl) tt)
  ends_thread c started Stopped h fine = Obeys.ends Stopped (λ rs. refl) tt
  ends_thread c started (Wants q env) h fine = absurd fine
  ends_thread c started (Hears r u) h fine = absurd fine
  ends_thread c started Over h fine = absurd fine

  module _ (body : ThreadBody) (fine : IsSoundBody code body) (k : ℕ) (there : slice_get code.bodies k ≡ Some body) where
    abbrev at : Place
    at = place.Thread (suc k)

    abbrev c : Around
    c = around code choice at (body_of_thread body) (λ v. Unit {0}) [] body.body

    -- at first no variable has an object, and no lock is held
    stands_first : (rs : List Reply) → Stands code.shape c first (opening body.vars rs).environment
    stands_first rs = record {
      this_is = tt;
      clean = by;
      holds = λ v y held. absurd (none_there held.site held.there);
      named = λ n grade is. absurd (cc is);
      free = record { counts = λ l. tt; monitors = λ may o is. cc is; names = λ n may is. cc is };
      roots = record { class = refl; shared = refl };
    }
      where
        by : (v : Var) → chosen_var code choice at (body_of_thread body) v ≡ true → Shared first (value_in value.Null (variables body.vars []) v)
        by Var.This is = tt
        by (Var.Numbered i) is = nulls_shared first [] (body.vars - 0) i (omega arith)

    -- its code is safe
    keeps_whole : (n : ℕ) → Obeys code.shape Ended first (λ rs. whole code body n rs)
    keeps_whole n = keeps_on code.shape (Fine code.shape c Any first (opening body.vars []).environment) Ended finish (λ q env. refl)
        ((part_block code sound choice rules passes (methods code n) (bodies_safe n) n at (body_of_thread body) (ap of_thread there) (λ v. Unit {0}) body.vars false fine.statements
        (placed_whole (body_of_thread body) (λ site nowhere. absurd (none_there site nowhere))) first).from first (opening body.vars []) (later_itself c.quiet first) (stands_first []))
        (ends_thread c (opening body.vars []).environment)

  -- ---- events

  -- an end wants nothing
  nothing_wanted : (e : Outcome) (g : View) (q : Request) → Ended e g → request_of (refilled [] e) ≡ Some q → ⊥
  nothing_wanted Over g q end wanted = cc wanted
  nothing_wanted Stopped g q end wanted = cc wanted
  nothing_wanted (Wants p env) g q end wanted = end
  nothing_wanted (Gives v u) g q end wanted = end
  nothing_wanted (Leaves v u) g q end wanted = end
  nothing_wanted (Fails fault u) g q end wanted = end
  nothing_wanted (Hears r u) g q end wanted = end

  -- what is wanted is the request
  the_request : (o : Outcome) (p q : Request) {env : Environment} → o ≡ Wants p env → request_of o ≡ Some q → p ≡ q
  the_request o p q is wanted =
      let same : Some p ≡ Some q = sym (ap request_of is) ∙ wanted in
      cc same

  -- what is wanted is safe, and so is what comes after its reply
  safe_next : (g : View) (o : List Reply → Outcome) (q : Request) → Obeys code.shape Ended g o → request_of (o []) ≡ Some q → Safe code.shape g q
  safe_next g o q (Obeys.asks p is may go) wanted = subst (Safe code.shape g) (the_request (o []) p q is wanted) may
  safe_next g o q (Obeys.ends e is end) wanted = absurd (nothing_wanted e g q end (ap request_of (sym (is [])) ∙ wanted))

  goes_on : (g : View) (o : List Reply → Outcome) (q : Request) → Obeys code.shape Ended g o → request_of (o []) ≡ Some q → (r : Reply) → MayCome g q r → Obeys code.shape Ended (viewed q r g) (λ rs. o (r ∷ rs))
  goes_on g o q (Obeys.asks p is may go) wanted r comes =
      let same : p ≡ q = the_request (o []) p q is wanted in
      subst (λ x. Obeys code.shape Ended (viewed x r g) (λ rs. o (r ∷ rs))) same (go r (subst (λ x. MayCome g x r) (sym same) comes))
  goes_on g o q (Obeys.ends e is end) wanted r comes = absurd (nothing_wanted e g q end (ap request_of (sym (is [])) ∙ wanted))

  -- each event is an act with what is wanted after the replies before it, and a reply that may come
  abbrev FollowsOf : (List Reply → Outcome) → View → List Event → Type 0
  FollowsOf o g [] = Unit {0}
  FollowsOf o g (Act t q r woken ∷ events) = (request_of (o []) ≡ Some q) × MayCome g q r × FollowsOf (λ rs. o (r ∷ rs)) (viewed q r g) events
  FollowsOf o g (Lost client ∷ events) = ⊥

  safe_after : (events : List Event) (g : View) (o : List Reply → Outcome) (q : Request) → Obeys code.shape Ended g o → FollowsOf o g events → request_of (o (replies_in events)) ≡ Some q → Safe code.shape (view_after g events) q
  safe_after [] g o q keeps follows wanted = safe_next g o q keeps wanted
  safe_after (Act t p r woken ∷ events) g o q keeps follows wanted = safe_after events (viewed p r g) (λ rs. o (r ∷ rs)) q (goes_on g o p keeps follows.0 r follows.1) follows.2 wanted
  safe_after (Lost client ∷ events) g o q keeps follows wanted = absurd follows

  module _ (t : ThreadId) (body : ThreadBody) (found : body_of t code.bodies ≡ Some body) where
    -- the next request is what is wanted, for any number of moves that is enough
    next_is : (before : List Event) (n : ℕ) → enough_for (replies_in before) ≤ n → next_request code t before ≡ request_of (whole code body n (replies_in before))
    next_is before n le = ap (next_of code (replies_in before)) found ∙ sym (moves_enough code body n (replies_in before) le)

    follows_of : (n : ℕ) (events before : List Event) (g : View) → enough_for (replies_in before ++ replies_in events) ≤ n → Follows (next_request code t) before g events → FollowsOf (λ rs. whole code body n (replies_in before ++ rs)) g events
    follows_of n [] before g le follows = tt
    follows_of n (Act u q r woken ∷ events) before g le follows =
        let further : List Event = before ++ Act u q r woken ∷ [] in
        let longer : length (replies_in before ++ r ∷ replies_in events) ≡ length (replies_in before) + suc (length (replies_in events)) = length-append (replies_in before) (r ∷ replies_in events) in
        let wanted : request_of (whole code body n (replies_in before ++ [])) ≡ Some q =
        subst (λ rs. request_of (whole code body n rs) ≡ Some q) (sym (append-nil (replies_in before))) (sym (next_is before n (omega arith)) ∙ follows.0) in
        let rest : FollowsOf (λ rs. whole code body n (replies_in further ++ rs)) (viewed q r g) events =
        follows_of n events further (viewed q r g) (subst (λ rs. enough_for rs ≤ n) (sym (replies_more before u q r woken (replies_in events))) le) follows.2 in
        (wanted, follows.1, subst (λ o. FollowsOf o (viewed q r g) events) (one_function _ _ (λ rs. ap (whole code body n) (replies_more before u q r woken rs))) rest)
    follows_of n (Lost client ∷ events) before g le follows = absurd follows

    -- a thread that is there
    safe_there : (events : List Event) (q : Request) → Follows (next_request code t) [] first events → next_request code t events ≡ Some q → Safe code.shape (view_after first events) q
    safe_there events q follows wanted =
        let n : ℕ = enough_for (replies_in events) in
        let its : IsThere code.bodies body = body_there t body code.bodies found in
        safe_after events first (λ rs. whole code body n rs) q (keeps_whole body (body_sound (IsSoundBody code) t body code.bodies sound.bodies found) its.number its.there n)
        (follows_of n events [] first (omega arith) follows) (sym (next_is events n (omega arith)) ∙ wanted)

  safe_found : (t : ThreadId) (body : Option ThreadBody) → body_of t code.bodies ≡ body → (events : List Event) (q : Request) → Follows (next_request code t) [] first events → next_request code t events ≡ Some q → Safe code.shape (view_after first events) q
  safe_found t (Some body) found events q follows wanted = safe_there t body found events q follows wanted
  safe_found t None found events q follows wanted = absurd (cc (sym (ap (next_of code (replies_in events)) found) ∙ wanted))

  -- What a thread asks after events whose replies may come is safe.
  pub asks_safely : (t : ThreadId) (events : List Event) (q : Request) → Follows (next_request code t) [] first events → next_request code t events ≡ Some q → Safe code.shape (view_after first events) q
  asks_safely t events q follows wanted = safe_found t (body_of t code.bodies) refl events q follows wanted
