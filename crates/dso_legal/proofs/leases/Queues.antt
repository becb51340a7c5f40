-- Of each lock the server's queue has a client exactly once where the lock is asked for by it; and what the server sends
-- of a lock may come where the lock stands with the client.
use Rattle.std.specs.List.{list_any}
use Rattle.std.proofs.Common.{ℕ, suc, ◌≡◌, ◌≢◌, refl, sym, ◌∙◌, ap, subst, Bool, true, false, cond, not, eqb, Some, List, [], ◌∷◌, ◌++◌, map, arith}
use Rattle.std.specs.Prelude.{flat_map}
use Rattle.dso_base.specs.declared.journal.Sent.{Sent}
use Rattle.dso_base.specs.declared.journal.Sent.TheVariants.{ToServer, ToClient}
use Rattle.dso_base.specs.declared.lock.Level.{Level}
use Rattle.dso_base.specs.declared.lock.LockName.{LockName}
use Rattle.dso_base.specs.declared.lock.LockName.TheVariants.{Mon, Name}
use Rattle.dso_base.specs.declared.message.Down.{Down}
use Rattle.dso_base.specs.declared.message.Down.TheVariants as down
use Rattle.dso_plain.specs.KeyTests.{is_lock}
use Rattle.dso_plain.proofs.keys.SameKeys.{same_number, number_self}
use Rattle.dso_law.specs.declared.readings.LockStanding.{LockStanding}
use Rattle.dso_law.specs.Settings.{Settings, clients_of}
use Rattle.dso_law.specs.Entries.{by_sent_down}
use Rattle.dso_law.specs.Leases.{standing_down}
use Rattle.dso_law.specs.Granting.{Waiter, LeaseTable, without_client, queue_by_sent, with_grant, is_against, recalls, serve_queue}
use Rattle.dso_legal.specs.Agreement.{after, EachMay}
use Rattle.dso_legal.specs.Tokens.{asked, MayGoDown}
use Rattle.dso_legal.proofs.channels.Agreement.{AllDeaf, IsDeaf, more_deaf, may_append, after_append}
use Rattle.dso_legal.proofs.leases.LeaseSteps.{unless_true, if_true, other_grant, IsPlain, asked_plain}
use Rattle.dso_legal.proofs.channels.InFlight.{told_to, told_append}

-- how often the client stands in the queue
abbrev pub queued : ℕ → List Waiter → ℕ
queued c [] = 0
queued c (waiter ∷ queue) = cond (eqb c waiter.client) (suc (queued c queue)) (queued c queue)

-- how often it should: once where the lock is asked for
abbrev pub asks : LockStanding → ℕ
asks s = cond s.is_asked 1 0

-- The queue and how the lock stands with the client agree.
pub record Queued (c : ℕ) (queue : List Waiter) (s : LockStanding) : Type 0 where
  pub count : queued c queue ≡ asks s
  pub plain : IsPlain s

-- one more at the end
pub queued_append : (c : ℕ) (queue : List Waiter) (waiter : Waiter) → queued c (queue ++ waiter ∷ []) ≡ cond (eqb c waiter.client) (suc (queued c queue)) (queued c queue)
queued_append c [] waiter = refl
queued_append c (first ∷ queue) waiter = by (eqb c first.client) (eqb c waiter.client) (queued_append c queue waiter)
  where
    by : (a b : Bool) → queued c (queue ++ waiter ∷ []) ≡ cond b (suc (queued c queue)) (queued c queue)
        → cond a (suc (queued c (queue ++ waiter ∷ []))) (queued c (queue ++ waiter ∷ [])) ≡ cond b (suc (cond a (suc (queued c queue)) (queued c queue))) (cond a (suc (queued c queue)) (queued c queue))
    by true true h = ap suc h
    by true false h = ap suc h
    by false true h = h
    by false false h = h

-- one of the client that is dropped
drops_one : (y z : Bool) (n m : ℕ) → (y ≡ true → z ≡ true) → n ≡ cond z 0 m → n ≡ cond z 0 (cond y (suc m) m)
drops_one true true n m same h = h
drops_one true false n m same h = absurd (cc (same refl))
drops_one false z n m same h = h

-- and one that stays
keeps_one : (y z : Bool) (n m : ℕ) → (y ≡ true → z ≡ false) → n ≡ cond z 0 m → cond y (suc n) n ≡ cond z 0 (cond y (suc m) m)
keeps_one true true n m other h = absurd (cc (other refl))
keeps_one true false n m other h = ap suc h
keeps_one false z n m other h = h

-- without a client the queue has it no longer, and each other as before
pub queued_without : (c d : ℕ) (queue : List Waiter) → queued c (without_client d queue) ≡ cond (eqb c d) 0 (queued c queue)
queued_without c d [] = by (eqb c d)
  where
    by : (b : Bool) → ◌≡◌ {A = ℕ} 0 (cond b 0 0)
    by true = refl
    by false = refl
queued_without c d (first ∷ queue) = by (eqb first.client d) refl (queued_without c d queue)
  where
    by : (a : Bool) → eqb first.client d ≡ a → queued c (without_client d queue) ≡ cond (eqb c d) 0 (queued c queue)
        → queued c (cond (not a) (first ∷ without_client d queue) (without_client d queue)) ≡ cond (eqb c d) 0 (cond (eqb c first.client) (suc (queued c queue)) (queued c queue))
    by true e h = drops_one (eqb c first.client) (eqb c d) (queued c (without_client d queue)) (queued c queue)
        (λ y. subst (λ n. eqb c n ≡ true) (same_number first.client d e) y) h
    by false e h = keeps_one (eqb c first.client) (eqb c d) (queued c (without_client d queue)) (queued c queue)
        (λ y. subst (λ n. eqb n d ≡ false) (sym (same_number c first.client y)) e) h

-- The message is no grant of the lock.
abbrev pub IsNoGrant : LockName → Down → Type 0
IsNoGrant l (down.Grant k level) = is_lock l k ≡ false
IsNoGrant l m = Unit {0}

-- none of what is sent grants the lock
abbrev pub NoGrants : LockName → List Sent → Type 0
NoGrants l [] = Unit {0}
NoGrants l (ToServer m ∷ out) = NoGrants l out
NoGrants l (ToClient c m ∷ out) = IsNoGrant l m × NoGrants l out

pub no_grants_append : (l : LockName) (xs ys : List Sent) → NoGrants l xs → NoGrants l ys → NoGrants l (xs ++ ys)
no_grants_append l [] ys h k = k
no_grants_append l (ToServer m ∷ xs) ys h k = no_grants_append l xs ys h k
no_grants_append l (ToClient c m ∷ xs) ys h k = (h.0, no_grants_append l xs ys h.1 k)

pub no_grants_each : {X : Type 0} (l : LockName) (f : X → List Sent) (xs : List X) → ((x : X) → NoGrants l (f x)) → NoGrants l (flat_map f xs)
no_grants_each l f [] h = tt
no_grants_each l f (x ∷ xs) h = no_grants_append l (f x) (flat_map f xs) (h x) (no_grants_each l f xs h)

pub no_grants_map : {X : Type 0} (l : LockName) (to : X → ℕ) (m : X → Down) (xs : List X) → ((x : X) → IsNoGrant l (m x)) → NoGrants l (map (λ x. ToClient (to x) (m x)) xs)
no_grants_map l to m [] h = tt
no_grants_map l to m (x ∷ xs) h = (h x, no_grants_map l to m xs h)

no_grant_deaf : (l : LockName) (m : Down) → IsNoGrant l m → IsDeaf (MayGoDown l) (standing_down l) m
no_grant_deaf l (down.Grant k level) e = other_grant l k level e
no_grant_deaf l m e = λ s. (tt, refl)

-- what is no grant of the lock is deaf
pub no_grants_deaf : (l : LockName) (c : ℕ) (out : List Sent) → NoGrants l out → AllDeaf (MayGoDown l) (standing_down l) (told_to c out)
no_grants_deaf l c [] h = record { comes = λ s. tt; stays = λ s. refl }
no_grants_deaf l c (ToServer m ∷ out) h = no_grants_deaf l c out h
no_grants_deaf l c (ToClient d m ∷ out) h = by (eqb c d) (no_grants_deaf l c out h.1)
  where
    by : (b : Bool) → AllDeaf (MayGoDown l) (standing_down l) (told_to c out) → AllDeaf (MayGoDown l) (standing_down l) (cond b (m ∷ told_to c out) (told_to c out))
    by true later = more_deaf (MayGoDown l) (standing_down l) m (told_to c out) (no_grant_deaf l m h.0) later
    by false later = later

no_grant_queue : (l : LockName) (c : ℕ) (m : Down) (queue : List Waiter) → IsNoGrant l m → queue_by_sent l c m queue ≡ queue
no_grant_queue l c (down.Grant k level) queue e = unless_true (is_lock l k) (without_client c queue) queue e
no_grant_queue l c m queue e = refl

-- and leaves the queue
no_grants_queue : (l : LockName) (out : List Sent) (queue : List Waiter) → NoGrants l out → by_sent_down (queue_by_sent l) out queue ≡ queue
no_grants_queue l [] queue h = refl
no_grants_queue l (ToServer m ∷ out) queue h = no_grants_queue l out queue h
no_grants_queue l (ToClient d m ∷ out) queue h = ap (by_sent_down (queue_by_sent l) out) (no_grant_queue l d m queue h.0) ∙ no_grants_queue l out queue h.1

-- What is sent may come where the lock stands with the client, and leaves queue and standing in agreement.
pub record MayTell (c : ℕ) (l : LockName) (out : List Sent) (queue : List Waiter) (s : LockStanding) : Type 0 where
  pub comes : EachMay (MayGoDown l) (standing_down l) (told_to c out) s
  pub queued : Queued c (by_sent_down (queue_by_sent l) out queue) (after (standing_down l) (told_to c out) s)

-- where no lock is granted
pub tells_no_grant : (c : ℕ) (l : LockName) (out : List Sent) (queue : List Waiter) (s : LockStanding) → NoGrants l out → Queued c queue s → MayTell c l out queue s
tells_no_grant c l out queue s none q =
    let deaf = no_grants_deaf l c out none in
    record {
      comes = deaf.comes s;
      queued = subst (λ r. Queued c (by_sent_down (queue_by_sent l) out queue) r) (sym (deaf.stays s)) (subst (λ w. Queued c w s) (sym (no_grants_queue l out queue none)) q);
    }

-- a reading after what is sent in two lists
told_by_append : {S : Type 0} (step : ℕ → Down → S → S) (xs ys : List Sent) (s : S) → by_sent_down step (xs ++ ys) s ≡ by_sent_down step ys (by_sent_down step xs s)
told_by_append step [] ys s = refl
told_by_append step (ToServer m ∷ xs) ys s = told_by_append step xs ys s
told_by_append step (ToClient c m ∷ xs) ys s = told_by_append step xs ys (step c m s)

-- one after the other
pub tells_append : (c : ℕ) (l : LockName) (xs ys : List Sent) (queue : List Waiter) (s : LockStanding) → EachMay (MayGoDown l) (standing_down l) (told_to c xs) s
    → MayTell c l ys (by_sent_down (queue_by_sent l) xs queue) (after (standing_down l) (told_to c xs) s) → MayTell c l (xs ++ ys) queue s
tells_append c l xs ys queue s may later = record {
  comes = subst (λ ms. EachMay (MayGoDown l) (standing_down l) ms s) (sym (told_append c xs ys)) (may_append (MayGoDown l) (standing_down l) (told_to c xs) (told_to c ys) s may later.comes);
  queued = subst (λ w. Queued c w (after (standing_down l) (told_to c (xs ++ ys)) s)) (sym (told_by_append (queue_by_sent l) xs ys queue))
      (subst (λ r. Queued c (by_sent_down (queue_by_sent l) ys (by_sent_down (queue_by_sent l) xs queue)) r)
      (sym (ap (λ ms. after (standing_down l) ms s) (told_append c xs ys) ∙ after_append (standing_down l) (told_to c xs) (told_to c ys) s)) later.queued);
}

-- no grants, and then others
pub no_grants_first : (c : ℕ) (l : LockName) (xs ys : List Sent) (queue : List Waiter) (s : LockStanding) → NoGrants l xs → MayTell c l ys queue s → MayTell c l (xs ++ ys) queue s
no_grants_first c l xs ys queue s none later =
    let deaf = no_grants_deaf l c xs none in
    tells_append c l xs ys queue s (deaf.comes s)
    (subst (λ r. MayTell c l ys (by_sent_down (queue_by_sent l) xs queue) r) (sym (deaf.stays s)) (subst (λ w. MayTell c l ys w s) (sym (no_grants_queue l xs queue none)) later))

-- a client that stands in front asks, and no more than once
asks_once : (s : LockStanding) (n : ℕ) → suc n ≡ asks s → (s.is_asked ≡ true) × (n ≡ 0)
asks_once s n e = by s.is_asked e
  where
    by : (b : Bool) → suc n ≡ cond b 1 0 → (b ≡ true) × (n ≡ 0)
    by true e = (refl, omega (arith, e))
    by false e = absurd (let never : suc n ≢ 0 = λ h. omega (arith, h) in never e)

-- a grant to the first of the queue
record GrantsFirst (c : ℕ) (l : LockName) (waiter : Waiter) (rest queue : List Waiter) (s : LockStanding) (b : Bool) : Type 0 where
  comes : b ≡ true → s ≡ asked
  left : queued c rest ≡ asks (cond b (record { lease = Some waiter.level; is_asked = false }) s)
  queue_left : Queued c (without_client waiter.client queue) (cond b (record { lease = Some waiter.level; is_asked = false }) s)

grants_first : (b : Bool) (c : ℕ) (l : LockName) (waiter : Waiter) (rest queue : List Waiter) (s : LockStanding) → eqb c waiter.client ≡ b
    → cond b (suc (queued c rest)) (queued c rest) ≡ asks s → Queued c queue s → GrantsFirst c l waiter rest queue s b
grants_first true c l waiter rest queue s e count q =
    let once = asks_once s (queued c rest) count in
    record {
      comes = λ yes. asked_plain s q.plain once.0;
      left = once.1;
      queue_left = record { count = queued_without c waiter.client queue ∙ if_true (eqb c waiter.client) 0 (queued c queue) e; plain = λ never. absurd (cc never) };
    }
grants_first false c l waiter rest queue s e count q = record {
  comes = λ never. absurd (cc never);
  left = count;
  queue_left = record { count = queued_without c waiter.client queue ∙ unless_true (eqb c waiter.client) 0 (queued c queue) e ∙ q.count; plain = q.plain };
}

-- a grant of the lock, as the client sees it
abbrev pub lent : Bool → Level → LockStanding → LockStanding
lent b level s = cond b (record { lease = Some level; is_asked = false }) s

-- a grant, and what follows it
grant_then : (b : Bool) (c : ℕ) (l : LockName) (waiter : Waiter) (rest queue : List Waiter) (s : LockStanding) (out : List Sent) → eqb c waiter.client ≡ b → is_lock l l ≡ true
    → GrantsFirst c l waiter rest queue s b → MayTell c l out (without_client waiter.client queue) (lent b waiter.level s)
    → MayTell c l (ToClient waiter.client (down.Grant l waiter.level) ∷ out) queue s
grant_then true c l waiter rest queue s out e self g later =
    let m : Down = down.Grant l waiter.level in
    let told : told_to c (ToClient waiter.client m ∷ out) ≡ m ∷ told_to c out = if_true (eqb c waiter.client) (m ∷ told_to c out) (told_to c out) e in
    let status : standing_down l m s ≡ lent true waiter.level s = if_true (is_lock l l) (lent true waiter.level s) s self in
    record {
      comes = subst (λ ms. EachMay (MayGoDown l) (standing_down l) ms s) (sym told) (λ yes. g.comes refl, subst (EachMay (MayGoDown l) (standing_down l) (told_to c out)) (sym status) later.comes);
      queued = subst (λ w. Queued c (by_sent_down (queue_by_sent l) out w) (after (standing_down l) (told_to c (ToClient waiter.client m ∷ out)) s)) (sym (if_true (is_lock l l) (without_client waiter.client queue) queue self))
          (subst (λ r. Queued c (by_sent_down (queue_by_sent l) out (without_client waiter.client queue)) r)
          (sym (ap (λ ms. after (standing_down l) ms s) told ∙ ap (after (standing_down l) (told_to c out)) status)) later.queued);
    }
grant_then false c l waiter rest queue s out e self g later =
    let m : Down = down.Grant l waiter.level in
    let told : told_to c (ToClient waiter.client m ∷ out) ≡ told_to c out = unless_true (eqb c waiter.client) (m ∷ told_to c out) (told_to c out) e in
    record {
      comes = subst (λ ms. EachMay (MayGoDown l) (standing_down l) ms s) (sym told) later.comes;
      queued = subst (λ w. Queued c (by_sent_down (queue_by_sent l) out w) (after (standing_down l) (told_to c (ToClient waiter.client m ∷ out)) s)) (sym (if_true (is_lock l l) (without_client waiter.client queue) queue self))
          (subst (λ r. Queued c (by_sent_down (queue_by_sent l) out (without_client waiter.client queue)) r)
          (sym (ap (λ ms. after (standing_down l) ms s) told)) later.queued);
    }

-- a lock is itself
pub lock_self : (l : LockName) → is_lock l l ≡ true
lock_self (Mon o) = number_self o
lock_self (Name n) = number_self n

module _ (p : Settings) (l : LockName) where
  -- recalls are no grants
  pub recalls_no_grants : (k : LockName) (waiter : Waiter) (served : LeaseTable) → NoGrants l (recalls p k waiter served)
  recalls_no_grants k waiter served = no_grants_map l (λ d. d) (λ d. down.Recall k) _ (λ d. tt)

  serve_one : (b : Bool) (c : ℕ) (waiter : Waiter) (rest queue : List Waiter) (served : LeaseTable) (s : LockStanding) → Queued c queue s
      → GrantsFirst c l waiter rest queue s (eqb c waiter.client)
      → MayTell c l (serve_queue p l rest (with_grant waiter served)) (without_client waiter.client queue) (lent (eqb c waiter.client) waiter.level s)
      → MayTell c l (cond b (recalls p l waiter served) (ToClient waiter.client (down.Grant l waiter.level) ∷ serve_queue p l rest (with_grant waiter served))) queue s
  serve_one true c waiter rest queue served s q g later = tells_no_grant c l (recalls p l waiter served) queue s (recalls_no_grants l waiter served) q
  serve_one false c waiter rest queue served s q g later = grant_then (eqb c waiter.client) c l waiter rest queue s _ refl (lock_self l) g later

  -- what is granted of a queue may come, where the queue has a client exactly once where it asks
  pub serve_tells : (c : ℕ) (rest queue : List Waiter) (served : LeaseTable) (s : LockStanding) → queued c rest ≡ asks s → Queued c queue s → MayTell c l (serve_queue p l rest served) queue s
  serve_tells c [] queue served s count q = tells_no_grant c l [] queue s tt q
  serve_tells c (waiter ∷ rest) queue served s count q =
      let g = grants_first (eqb c waiter.client) c l waiter rest queue s refl count q in
      serve_one (list_any (is_against waiter served) (clients_of p)) c waiter rest queue served s q g
      (serve_tells c rest (without_client waiter.client queue) (with_grant waiter served) (lent (eqb c waiter.client) waiter.level s) g.left g.queue_left)

  serve_other_one : (b : Bool) (k : LockName) (waiter : Waiter) (rest : List Waiter) (served : LeaseTable) → is_lock l k ≡ false → NoGrants l (serve_queue p k rest (with_grant waiter served))
      → NoGrants l (cond b (recalls p k waiter served) (ToClient waiter.client (down.Grant k waiter.level) ∷ serve_queue p k rest (with_grant waiter served)))
  serve_other_one true k waiter rest served other later = recalls_no_grants k waiter served
  serve_other_one false k waiter rest served other later = (other, later)

  -- and of another lock's queue nothing is a grant of this one
  pub serve_other : (k : LockName) (rest : List Waiter) (served : LeaseTable) → is_lock l k ≡ false → NoGrants l (serve_queue p k rest served)
  serve_other k [] served other = tt
  serve_other k (waiter ∷ rest) served other = serve_other_one (list_any (is_against waiter served) (clients_of p)) k waiter rest served other (serve_other k rest (with_grant waiter served) other)
