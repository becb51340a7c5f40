-- Who isn't one of the client's threads does nothing in its entries.
use Rattle.std.specs.List.{list_any}
use Rattle.std.proofs.Common.{◌≡◌, ℕ, refl, sym, ◌∙◌, ap, Bool, true, false, cond, eqb, ◌&&◌, ◌||◌, Option, Some, None, List, [], ◌∷◌, filter}
use Rattle.std.proofs.lemmas.Bool.{eqb-true, eq-eqb}
use Rattle.dso_base.specs.declared.journal.Entry.{Entry}
use Rattle.dso_base.specs.declared.journal.Input.{Input}
use Rattle.dso_base.specs.declared.journal.Input.TheVariants as input
use Rattle.dso_base.specs.declared.lock.ThreadId.{ThreadId}
use Rattle.dso_base.specs.declared.request.Event.{Event}
use Rattle.dso_base.specs.declared.request.Event.TheVariants.{Act, Lost}
use Rattle.dso_base.specs.declared.request.Request.{Request}
use Rattle.dso_base.specs.Following.{is_thread}
use Rattle.dso_plain.specs.History.{is_act_of}
use Rattle.dso_plain.proofs.keys.SameKeys.{same_thread}
use Rattle.dso_law.specs.Entries.{by_event}
use Rattle.dso_law.specs.Settings.{Settings, threads_of}
use Rattle.dso_law.specs.Threads.{Locks, locks_by, locks_after, locks_of, block_after, open_block}
use Rattle.dso_law.specs.RequestNeeds.{Need, unmet}
use Rattle.dso_law.specs.Replies.{woken_by}
use Rattle.dso_law.specs.ClientStep.{ActsOn, DoesOrAsks, ClientStepOn, is_act, faults, wants_object}
use Rattle.dso_law.specs.ClientRun.{ClientRun, next_in}
use Rattle.dso_law.proofs.runs.Others.{IsOthers}

-- a thread of the client is in a list where it is among those of the client in it
kept_there : (t : ThreadId) (c : ℕ) → eqb t.client c ≡ true → (xs : List ThreadId) → list_any (is_thread t) xs ≡ true → list_any (is_thread t) (filter (λ u. eqb u.client c) xs) ≡ true
kept_there t c mine [] e = absurd (cc e)
kept_there t c mine (x ∷ xs) e = by (eqb x.client c) refl (is_thread t x) refl e (kept_there t c mine xs)
  where
    by : (b : Bool) → eqb x.client c ≡ b → (d : Bool) → is_thread t x ≡ d → (d || list_any (is_thread t) xs) ≡ true
        → (list_any (is_thread t) xs ≡ true → list_any (is_thread t) (filter (λ u. eqb u.client c) xs) ≡ true)
        → list_any (is_thread t) (cond b (x ∷ filter (λ u. eqb u.client c) xs) (filter (λ u. eqb u.client c) xs)) ≡ true
    by true its true same e rest = ap (λ d. d || list_any (is_thread t) (filter (λ u. eqb u.client c) xs)) same
    by true its false same e rest = ap (λ d. d || list_any (is_thread t) (filter (λ u. eqb u.client c) xs)) same ∙ rest e
    by false its true same e rest = absurd (cc (sym its ∙ (ap (λ (u : ThreadId). eqb u.client c) (same_thread t x same) ∙ mine)))
    by false its false same e rest = rest e

module _ (p : Settings) (c : ℕ) (t : ThreadId) (stranger : list_any (is_thread t) (threads_of p c) ≡ false) where
  -- so it isn't the one that acts
  not_it : (u : ThreadId) → u.client ≡ c → list_any (is_thread u) p.threads ≡ true → is_thread t u ≡ false
  not_it u its there = by (is_thread t u) refl
    where
      by : (b : Bool) → is_thread t u ≡ b → b ≡ false
      by false e = refl
      by true e =
          let same = same_thread t u e in
          let mine : eqb t.client c ≡ true = eq-eqb t.client c (ap (λ (x : ThreadId). x.client) (sym same) ∙ its) in
          let among : list_any (is_thread t) p.threads ≡ true = ap (λ x. list_any (is_thread x) p.threads) (sym same) ∙ there in
          absurd (cc (sym stranger ∙ kept_there t c mine p.threads among))

  module _ (before later : ThreadId → Option Request) (e : Entry) (es : List Entry) where
    by_need : (u : ThreadId) → is_thread t u ≡ false → (request : Request) (need : Option Need) → DoesOrAsks p c u request need before later e es → (event : Option Event) → e.event ≡ event → IsOthers t event
    by_need u other request need h None is = tt
    by_need u other request None h (Some event) is =
        let same : event ≡ Act u request h.reply (woken_by request h.reply es) = cc (sym is ∙ h.event) in
        ap (is_act_of t) same ∙ other
    by_need u other request (Some need) h (Some event) is = absurd (cc (sym is ∙ h.event))

    by_request : (u : ThreadId) → is_thread t u ≡ false → (request : Option Request) → ActsOn p c u request before later e es → IsOthers t e.event
    by_request u other None h = absurd h
    by_request u other (Some request) h = by_need u other request (unmet p c before u request es) h e.event refl

    no_event : e.event ≡ None → (event : Option Event) → e.event ≡ event → IsOthers t event
    no_event none None is = tt
    no_event none (Some event) is = absurd (cc (sym none ∙ is))

    others : (i : Input) → ClientStepOn p c i before later e es → IsOthers t e.event
    others (input.Act index) h = by_request (record { client = c; index = index }) (not_it (record { client = c; index = index }) refl h.its) (before (record { client = c; index = index })) h.acts
    others (input.TookDown m) h = no_event h.event e.event refl
    others (input.Flush o) h = no_event h.event e.event refl
    others (input.Rejoin d) h = no_event h.event e.event refl
    others i h = absurd h

    wants_not : (o : ℕ) → eqb t.client c ≡ true → (i : Input) → ClientStepOn p c i before later e es → wants_object o t.index es ≡ false
        → cond (is_act t.index i) (list_any (faults o) e.sent) (wants_object o t.index es) ≡ false
    wants_not o mine (input.Act index) h before_it =
        let other = not_it (record { client = c; index = index }) refl h.its in
        let its : eqb c t.client ≡ true = eq-eqb c t.client (sym (eqb-true t.client c mine)) in
        let differs : eqb index t.index ≡ false = ap (λ b. b && eqb index t.index) (sym its) ∙ other in
        ap (λ b. cond b (list_any (faults o) e.sent) (wants_object o t.index es)) differs ∙ before_it
    wants_not o mine (input.TookDown m) h before_it = before_it
    wants_not o mine (input.Flush x) h before_it = before_it
    wants_not o mine (input.Rejoin d) h before_it = before_it
    wants_not o mine i h before_it = absurd h

  block_left : (es : List Entry) (event : Option Event) → IsOthers t event
      → by_event (λ event block. cond (is_act_of t event) (block_after event (locks_of t es) block) block) event (open_block t es) ≡ open_block t es
  block_left es None other = refl
  block_left es (Some event) other = ap (λ b. cond b (block_after event (locks_of t es) (open_block t es)) (open_block t es)) other

  locks_left : (event : Option Event) (locks : Locks) → IsOthers t event → by_event (locks_after t) event locks ≡ locks
  locks_left None locks other = refl
  locks_left (Some (Act thread request reply woken)) locks other = ap (λ b. cond b (locks_by request reply locks) locks) other
  locks_left (Some (Lost client)) locks other = refl

  -- it has no open block, doesn't wait, wants nothing and holds nothing
  pub record DoesNothing (es : List Entry) : Type 0 where
    pub block : open_block t es ≡ []
    pub waitless : (locks_of t es).waiting ≡ None
    pub unwanted : (o : ℕ) → eqb t.client c ≡ true → wants_object o t.index es ≡ false
    pub holdless : (locks_of t es).holds ≡ []

  pub does_nothing : (next : ThreadId → List Event → Option Request) (es : List Entry) → ClientRun p c next es → DoesNothing es
  does_nothing next [] run = record { block = refl; waitless = refl; unwanted = λ o mine. refl; holdless = refl }
  does_nothing next (e ∷ es) run =
      let h = does_nothing next es run.0 in
      let other = others (next_in next es) (next_in next (e ∷ es)) e es e.input run.1 in
      record {
        block = block_left es e.event other ∙ h.block;
        waitless = ap (λ (locks : Locks). locks.waiting) (locks_left e.event (locks_of t es) other) ∙ h.waitless;
        unwanted = λ o mine. wants_not (next_in next es) (next_in next (e ∷ es)) e es o mine e.input run.1 (h.unwanted o mine);
        holdless = ap (λ (locks : Locks). locks.holds) (locks_left e.event (locks_of t es) other) ∙ h.holdless;
      }
