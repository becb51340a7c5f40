-- The leases of a lock at the server are compatible, and only clients of the cluster have any.
use Rattle.std.specs.List.{list_any}
use Rattle.std.proofs.Common.{ℕ, suc, ◌≡◌, ◌≢◌, ◌⊎◌, inl, inr, refl, sym, ◌∙◌, ap, subst, Bool, true, false, cond, not, eqb, ◌&&◌, ◌||◌, Option, Some, None, List, [], ◌∷◌, ◌++◌, arith}
use Rattle.dso_base.specs.declared.journal.Entry.{Entry}
use Rattle.dso_base.specs.declared.journal.Input.{Input}
use Rattle.dso_base.specs.declared.journal.Input.TheVariants as input
use Rattle.dso_base.specs.declared.journal.Node.{Node}
use Rattle.dso_base.specs.declared.journal.Node.TheVariants.{Server, Client}
use Rattle.dso_base.specs.declared.journal.Sent.{Sent}
use Rattle.dso_base.specs.declared.journal.Sent.TheVariants.{ToClient}
use Rattle.dso_base.specs.declared.lock.Level.{Level}
use Rattle.dso_base.specs.declared.lock.Level.TheVariants.{Read, Write}
use Rattle.dso_base.specs.declared.lock.LockName.{LockName}
use Rattle.dso_base.specs.declared.lock.ThreadId.{ThreadId}
use Rattle.dso_base.specs.declared.message.Down.TheVariants as down
use Rattle.dso_base.specs.declared.message.Up.{Up}
use Rattle.dso_base.specs.declared.message.Up.TheVariants as up
use Rattle.dso_base.specs.declared.request.Event.{Event}
use Rattle.dso_base.specs.declared.request.Request.{Request}
use Rattle.dso_plain.specs.KeyTests.{is_lock}
use Rattle.dso_plain.proofs.keys.SameKeys.{same_number, number_self}
use Rattle.dso_law.specs.declared.readings.LockStanding.{LockStanding}
use Rattle.dso_law.specs.Settings.{Settings, clients_of}
use Rattle.dso_law.specs.Entries.{is_node, entries_of, unsent}
use Rattle.dso_law.specs.Leases.{idle, standing_up, standing_down}
use Rattle.dso_law.specs.RequestNeeds.{conflicts}
use Rattle.dso_law.specs.ServerReadings.{is_of_lost, counted}
use Rattle.dso_law.specs.Granting.{Waiter, LeaseTable, queue_of, standing_by, standing_with, with_grant, is_against, recalls, serve_queue, serves, leases_so_far}
use Rattle.dso_law.specs.ServerStep.{ServerStepOn, ServerStep}
use Rattle.dso_legal.specs.Agreement.{after}
use Rattle.dso_legal.specs.Lawful.{NodeFollows, AllFollow}
use Rattle.dso_legal.specs.Tokens.{LeasesAreCompatible}
use Rattle.dso_legal.proofs.channels.Agreement.{after_append}
use Rattle.dso_legal.proofs.leases.LeaseSteps.{unless_true, if_true, no_both}
use Rattle.dso_legal.proofs.leases.ClientLeases.{neither}
use Rattle.dso_legal.proofs.leases.Queues.{queued, asks, Queued, NoGrants, no_grants_deaf, recalls_no_grants, lent, lock_self}
use Rattle.dso_legal.proofs.leases.Granting.{OneServing}
use Rattle.dso_legal.proofs.leases.ServerLeases.{AllQueued, server_does, standing_after_told}
use Rattle.dso_legal.proofs.leases.Tokens.{known}
use Rattle.dso_legal.proofs.channels.InFlight.{told_to, told_append}

-- How a lock stands with each client: leases of two clients don't conflict, and with nobody else is it leased or asked for.
pub record Lent (p : Settings) (s : ℕ → LockStanding) : Type 0 where
  pub compatible : (c d : ℕ) (level : Level) → eqb c d ≡ false → (s c).lease ≡ Some level → conflicts level (s d).lease ≡ false
  pub outsiders : (c : ℕ) → list_any (eqb c) (clients_of p) ≡ false → s c ≡ idle

-- the same, where the lock stands the same with each
lent_same : (p : Settings) (s r : ℕ → LockStanding) → ((c : ℕ) → r c ≡ s c) → Lent p s → Lent p r
lent_same p s r same h = record {
  compatible = λ c d level ne e. subst (λ (x : LockStanding). conflicts level x.lease ≡ false) (sym (same d)) (h.compatible c d level ne (ap (λ (x : LockStanding). x.lease) (sym (same c)) ∙ e));
  outsiders = λ c out. same c ∙ h.outsiders c out;
}

-- no lease conflicts with none
none_conflicts : (level : Level) → conflicts level None ≡ false
none_conflicts Read = refl
none_conflicts Write = refl

-- conflicts go both ways
pub conflict_back : (a b : Level) → conflicts a (Some b) ≡ false → conflicts b (Some a) ≡ false
conflict_back Read Read e = e
conflict_back Read Write e = e
conflict_back Write Read e = e
conflict_back Write Write e = e

-- where fewer are leased, they stay compatible
fewer_conflict : (a b a' b' : Option Level) (level : Level) → (a' ≡ a) ⊎ (a' ≡ None) → (b' ≡ b) ⊎ (b' ≡ None) → (a ≡ Some level → conflicts level b ≡ false) → a' ≡ Some level → conflicts level b' ≡ false
fewer_conflict a b a' b' level (inl e) (inl f) h k = subst (λ x. conflicts level x ≡ false) (sym f) (h (sym e ∙ k))
fewer_conflict a b a' b' level e (inr f) h k = subst (λ x. conflicts level x ≡ false) (sym f) (none_conflicts level)
fewer_conflict a b a' b' level (inr e) (inl f) h k = absurd (let never : None ≢ Some level = λ h. cc in never (sym e ∙ k))

-- no more is leased than before
abbrev Fewer : (ℕ → LockStanding) → (ℕ → LockStanding) → Type 0
Fewer s r = (c : ℕ) → ((r c).lease ≡ (s c).lease) ⊎ ((r c).lease ≡ None)

lent_fewer : (p : Settings) (s r : ℕ → LockStanding) → Fewer s r → ((c : ℕ) → list_any (eqb c) (clients_of p) ≡ false → r c ≡ idle) → Lent p s → Lent p r
lent_fewer p s r fewer outsiders h = record {
  compatible = λ c d level ne. fewer_conflict (s c).lease (s d).lease (r c).lease (r d).lease level (fewer c) (fewer d) (h.compatible c d level ne);
  outsiders = outsiders;
}

-- an outsider isn't a client
pub outsider_other : (p : Settings) (c d : ℕ) → list_any (eqb d) (clients_of p) ≡ true → list_any (eqb c) (clients_of p) ≡ false → eqb c d ≡ false
outsider_other p c d is isnt = by (eqb c d) refl
  where
    by : (b : Bool) → eqb c d ≡ b → b ≡ false
    by true e = no_both (list_any (eqb d) (clients_of p)) is (subst (λ n. list_any (eqb n) (clients_of p) ≡ false) (same_number c d e) isnt)
    by false e = refl

-- what a message of a client makes of its lease
fewer_kept : (a b : Bool) (s : LockStanding) → ((cond b (cond a (record s { is_asked = true }) s) s).lease ≡ s.lease) ⊎ ((cond b (cond a (record s { is_asked = true }) s) s).lease ≡ None)
fewer_kept true true s = inl refl
fewer_kept false true s = inl refl
fewer_kept a false s = inl refl

fewer_given : (a b : Bool) (s : LockStanding) → ((cond b (cond a (record s { lease = None }) s) s).lease ≡ s.lease) ⊎ ((cond b (cond a (record s { lease = None }) s) s).lease ≡ None)
fewer_given true true s = inr refl
fewer_given false true s = inl refl
fewer_given a false s = inl refl

fewer_same : (b : Bool) (s : LockStanding) → ((cond b s s).lease ≡ s.lease) ⊎ ((cond b s s).lease ≡ None)
fewer_same true s = inl refl
fewer_same false s = inl refl

fewer_heard : (c d : ℕ) (l : LockName) (m : Up) (s : LockStanding) → ((standing_by c l (input.TookUp d m) s).lease ≡ s.lease) ⊎ ((standing_by c l (input.TookUp d m) s).lease ≡ None)
fewer_heard c d l (up.Request k level) s = fewer_kept (is_lock l k) (eqb c d) s
fewer_heard c d l (up.Return k threads) s = fewer_given (is_lock l k) (eqb c d) s
fewer_heard c d l m s = fewer_same (eqb c d) s

fewer_lost : (b : Bool) (s : LockStanding) → ((cond b idle s).lease ≡ s.lease) ⊎ ((cond b idle s).lease ≡ None)
fewer_lost true s = inr refl
fewer_lost false s = inl refl

idle_lost : (b : Bool) (s : LockStanding) → s ≡ idle → cond b idle s ≡ idle
idle_lost true s e = refl
idle_lost false s e = e

-- what passes a test that none passes isn't there
none_has : (test : ℕ → Bool) (d : ℕ) (xs : List ℕ) → list_any test xs ≡ false → list_any (eqb d) xs ≡ true → test d ≡ false
none_has test d [] e f = absurd (cc f)
none_has test d (x ∷ xs) e f = by (eqb d x) refl f (neither (test x) (list_any test xs) e) (none_has test d xs)
  where
    by : (b : Bool) → eqb d x ≡ b → (b || list_any (eqb d) xs) ≡ true → (test x ≡ false) × (list_any test xs ≡ false) → (list_any test xs ≡ false → list_any (eqb d) xs ≡ true → test d ≡ false) → test d ≡ false
    by true g f h later = subst (λ n. test n ≡ false) (sym (same_number d x g)) h.0
    by false g f h later = later h.1 f

-- the second test fails, where the first doesn't
pub second_fails : (b x : Bool) → b ≡ false → (not b && x) ≡ false → x ≡ false
second_fails true x e f = absurd (cc e)
second_fails false x e f = f

-- the server's leases, as they are granted one by one
record Alike (served : LeaseTable) (s : ℕ → LockStanding) : Type 0 where
  same : (c : ℕ) → served.lease c ≡ (s c).lease

module _ (p : Settings) (waiter : Waiter) (served : LeaseTable) (s : ℕ → LockStanding) (alike : Alike served s) (h : Lent p s) (free : list_any (is_against waiter served) (clients_of p) ≡ false) where
  -- nobody else's lease conflicts
  against_none_by : (b : Bool) (d : ℕ) → list_any (eqb d) (clients_of p) ≡ b → eqb d waiter.client ≡ false → conflicts waiter.level (s d).lease ≡ false
  against_none_by true d e ne = subst (λ x. conflicts waiter.level x ≡ false) (alike.same d)
      (second_fails (eqb d waiter.client) (conflicts waiter.level (served.lease d)) ne (none_has (is_against waiter served) d (clients_of p) free e))
  against_none_by false d e ne = subst (λ (x : LockStanding). conflicts waiter.level x.lease ≡ false) (sym (h.outsiders d e)) (none_conflicts waiter.level)

  against_none : (d : ℕ) → eqb d waiter.client ≡ false → conflicts waiter.level (s d).lease ≡ false
  against_none d ne = against_none_by (list_any (eqb d) (clients_of p)) d refl ne

  granted_compatible : (a b : Bool) (c d : ℕ) (level : Level) → eqb c waiter.client ≡ a → eqb d waiter.client ≡ b → eqb c d ≡ false
      → (lent a waiter.level (s c)).lease ≡ Some level → conflicts level (lent b waiter.level (s d)).lease ≡ false
  granted_compatible true true c d level e f ne k = no_both (eqb c c) (number_self c) (subst (λ n. eqb c n ≡ false) (same_number d waiter.client f ∙ sym (same_number c waiter.client e)) ne)
  granted_compatible true false c d level e f ne k = subst (λ x. conflicts x (s d).lease ≡ false) (let same : Some waiter.level ≡ Some level → waiter.level ≡ level = λ h. cc h in same k) (against_none d f)
  granted_compatible false true c d level e f ne k = conflict_back waiter.level level (subst (λ x. conflicts waiter.level x ≡ false) k (against_none c e))
  granted_compatible false false c d level e f ne k = h.compatible c d level ne k

  -- a grant keeps them compatible
  grant_lent : list_any (eqb waiter.client) (clients_of p) ≡ true → Lent p (λ c. lent (eqb c waiter.client) waiter.level (s c))
  grant_lent member = record {
    compatible = λ c d level ne k. granted_compatible (eqb c waiter.client) (eqb d waiter.client) c d level refl refl ne k;
    outsiders = λ c out. unless_true (eqb c waiter.client) (record { lease = Some waiter.level; is_asked = false }) (s c) (outsider_other p c waiter.client member out) ∙ h.outsiders c out;
  }

  grant_alike : Alike (with_grant waiter served) (λ c. lent (eqb c waiter.client) waiter.level (s c))
  grant_alike = record { same = λ c. by c (eqb c waiter.client) }
    where
      by : (c : ℕ) (b : Bool) → cond b (Some waiter.level) (served.lease c) ≡ (lent b waiter.level (s c)).lease
      by c true = refl
      by c false = alike.same c

-- the queue has no outsiders
abbrev NoOutsiders : Settings → List Waiter → Type 0
NoOutsiders p queue = (c : ℕ) → list_any (eqb c) (clients_of p) ≡ false → queued c queue ≡ 0

member_first : (p : Settings) (waiter : Waiter) (rest : List Waiter) → NoOutsiders p (waiter ∷ rest) → list_any (eqb waiter.client) (clients_of p) ≡ true
member_first p waiter rest h = by (list_any (eqb waiter.client) (clients_of p)) refl
  where
    by : (b : Bool) → list_any (eqb waiter.client) (clients_of p) ≡ b → b ≡ true
    by true e = refl
    by false e = absurd (let never : suc (queued waiter.client rest) ≢ 0 = λ k. omega (arith, k) in
        never (sym (if_true (eqb waiter.client waiter.client) (suc (queued waiter.client rest)) (queued waiter.client rest) (number_self waiter.client)) ∙ h waiter.client e))

rest_no_outsiders : (p : Settings) (waiter : Waiter) (rest : List Waiter) → NoOutsiders p (waiter ∷ rest) → NoOutsiders p rest
rest_no_outsiders p waiter rest h c out = sym (unless_true (eqb c waiter.client) (suc (queued c rest)) (queued c rest) (outsider_other p c waiter.client (member_first p waiter rest h) out)) ∙ h c out

-- how the lock stands after what is told
abbrev after_told : LockName → List Sent → (ℕ → LockStanding) → ℕ → LockStanding
after_told l out s c = after (standing_down l) (told_to c out) (s c)

-- what grants nothing
lent_no_grants : (p : Settings) (l : LockName) (out : List Sent) (s : ℕ → LockStanding) → NoGrants l out → Lent p s → Lent p (after_told l out s)
lent_no_grants p l out s none h = lent_same p s (after_told l out s) (λ c. (no_grants_deaf l c out none).stays (s c)) h

-- one grant in front
told_grant : (b : Bool) (c : ℕ) (l : LockName) (waiter : Waiter) (out : List Sent) (s : LockStanding) → eqb c waiter.client ≡ b
    → after (standing_down l) (told_to c (ToClient waiter.client (down.Grant l waiter.level) ∷ out)) s ≡ after (standing_down l) (told_to c out) (lent b waiter.level s)
told_grant true c l waiter out s e = ap (λ ms. after (standing_down l) ms s) (if_true (eqb c waiter.client) (down.Grant l waiter.level ∷ told_to c out) (told_to c out) e)
    ∙ ap (after (standing_down l) (told_to c out)) (if_true (is_lock l l) (record { lease = Some waiter.level; is_asked = false }) s (lock_self l))
told_grant false c l waiter out s e = ap (λ ms. after (standing_down l) ms s) (unless_true (eqb c waiter.client) (down.Grant l waiter.level ∷ told_to c out) (told_to c out) e)

module _ (p : Settings) (l : LockName) where
  serve_one : (b : Bool) (waiter : Waiter) (rest : List Waiter) (served : LeaseTable) (s : ℕ → LockStanding) → Lent p s
      → (b ≡ false → Lent p (after_told l (serve_queue p l rest (with_grant waiter served)) (λ c. lent (eqb c waiter.client) waiter.level (s c))))
      → Lent p (after_told l (cond b (recalls p l waiter served) (ToClient waiter.client (down.Grant l waiter.level) ∷ serve_queue p l rest (with_grant waiter served))) s)
  serve_one true waiter rest served s h later = lent_no_grants p l (recalls p l waiter served) s (recalls_no_grants p l l waiter served) h
  serve_one false waiter rest served s h later = lent_same p
      (after_told l (serve_queue p l rest (with_grant waiter served)) (λ c. lent (eqb c waiter.client) waiter.level (s c)))
      (after_told l (ToClient waiter.client (down.Grant l waiter.level) ∷ serve_queue p l rest (with_grant waiter served)) s)
      (λ c. told_grant (eqb c waiter.client) c l waiter (serve_queue p l rest (with_grant waiter served)) (s c) refl) (later refl)

  -- serving a queue keeps the leases compatible
  serve_lent : (rest : List Waiter) (served : LeaseTable) (s : ℕ → LockStanding) → Alike served s → NoOutsiders p rest → Lent p s → Lent p (after_told l (serve_queue p l rest served) s)
  serve_lent [] served s alike members h = h
  serve_lent (waiter ∷ rest) served s alike members h = serve_one (list_any (is_against waiter served) (clients_of p)) waiter rest served s h (λ free.
      serve_lent rest (with_grant waiter served) (λ c. lent (eqb c waiter.client) waiter.level (s c)) (grant_alike p waiter served s alike h free) (rest_no_outsiders p waiter rest members)
      (grant_lent p waiter served s alike h free (member_first p waiter rest members)))

  -- so does what serves the lock once
  one_lent : (out : List Sent) (es : List Entry) → OneServing p l out es → ((c : ℕ) → Queued c (queue_of l es) (standing_with c l es)) → Lent p (λ c. standing_with c l es) → Lent p (after_told l out (λ c. standing_with c l es))
  one_lent out es (inl none) q h = lent_no_grants p l out (λ c. standing_with c l es) none h
  one_lent out es (inr once) q h =
      let s : ℕ → LockStanding = λ c. standing_with c l es in
      let front : Lent p (after_told l once.front s) = lent_no_grants p l once.front s once.none_in_front h in
      let same : (c : ℕ) → after_told l once.front s c ≡ s c = λ c. (no_grants_deaf l c once.front once.none_in_front).stays (s c) in
      let served : Lent p (after_told l (serves p l es) s) = serve_lent (queue_of l es) (leases_so_far l es) s (record { same = λ c. refl }) (λ c out. (q c).count ∙ ap asks (h.outsiders c out)) h in
      let behind = lent_no_grants p l once.behind (after_told l (serves p l es) s) once.none_behind served in
      lent_same p (after_told l once.behind (after_told l (serves p l es) s)) (after_told l out s)
      (λ c. ap (λ out. after (standing_down l) (told_to c out) (s c)) once.whole
      ∙ ap (λ ms. after (standing_down l) ms (s c)) (told_append c once.front (serves p l es ++ once.behind))
      ∙ after_append (standing_down l) (told_to c once.front) (told_to c (serves p l es ++ once.behind)) (s c)
      ∙ ap (after (standing_down l) (told_to c (serves p l es ++ once.behind))) (same c)
      ∙ ap (λ ms. after (standing_down l) ms (s c)) (told_append c (serves p l es) once.behind)
      ∙ after_append (standing_down l) (told_to c (serves p l es)) (told_to c once.behind) (s c)) behind

  -- what the server takes in
  input_lent : (input : Input) (e : Entry) (server es : List Entry) → ServerStepOn p input e server → Lent p (λ c. standing_with c l es) → Lent p (λ c. standing_by c l input (standing_with c l es))
  input_lent (input.TookUp d m) e server es step h = lent_fewer p (λ c. standing_with c l es) (λ c. standing_by c l (input.TookUp d m) (standing_with c l es))
      (λ c. fewer_heard c d l m (standing_with c l es))
      (λ c out. unless_true (eqb c d) (standing_up l m (standing_with c l es)) (standing_with c l es) (outsider_other p c d step.its out) ∙ h.outsiders c out) h
  input_lent (input.Lose d) e server es step h = lent_fewer p (λ c. standing_with c l es) (λ c. standing_by c l (input.Lose d) (standing_with c l es))
      (λ c. fewer_lost (eqb c d) (standing_with c l es))
      (λ c out. idle_lost (eqb c d) (standing_with c l es) (h.outsiders c out)) h
  input_lent (input.Break d) e server es step h = h
  input_lent (input.Rejoin d) e server es step h = h
  input_lent other e server es step h = absurd step

-- of every lock
abbrev pub AllLent : Settings → List Entry → Type 0
AllLent p es = (l : LockName) → Lent p (λ c. standing_with c l es)

-- the leases after an entry of the server
lent_after : (p : Settings) (e : Entry) (es : List Entry) → AllQueued (counted es) → ServerStep p e es → AllLent p (counted es) → AllLent p (counted (e ∷ es))
lent_after p e es queues step all l = elim (server_does p e es queues step) [
  | inl skip ↦ subst (λ js. Lent p (λ c. standing_with c l js)) (sym (if_true (is_of_lost e.input es) (counted es) (e ∷ counted es) skip.skipped)) (all l)
  | inr here ↦ subst (λ js. Lent p (λ c. standing_with c l js)) (sym (unless_true (is_of_lost e.input es) (counted es) (e ∷ counted es) here.counts))
      (lent_same p (after_told l e.sent (λ c. standing_with c l (unsent e ∷ counted es))) (λ c. standing_with c l (e ∷ counted es)) (λ c. standing_after_told c l e (counted es))
      (one_lent p l e.sent (unsent e ∷ counted es) (here.tells.serving l) (λ c. here.tells.kept c l) (input_lent p l e.input e es (counted es) step (all l))))
]

-- by the entry's node
lent_at : (p : Settings) (next : ThreadId → List Event → Option Request) (node : Node) (e : Entry) (es : List Entry) → AllQueued (counted (entries_of Server es)) → NodeFollows p next node e es
    → AllLent p (counted (entries_of Server es)) → AllLent p (counted (cond (is_node Server node) (e ∷ entries_of Server es) (entries_of Server es)))
lent_at p next Server e es queues h all = lent_after p e (entries_of Server es) queues h.step all
lent_at p next (Client d) e es queues h all = all

-- over a whole journal
pub all_lent : (p : Settings) (next : ThreadId → List Event → Option Request) (es : List Entry) → AllFollow p next es → AllLent p (counted (entries_of Server es))
all_lent p next [] h = λ l. record { compatible = λ c d level ne e. none_conflicts level; outsiders = λ c out. refl }
all_lent p next (e ∷ es) h = lent_at p next e.node e es (known p next es h.0).queues h.1.rule (all_lent p next es h.0)

pub leases_are_compatible : LeasesAreCompatible
leases_are_compatible p next es h c d l level = (all_lent p next es h.follow l).compatible c d level
