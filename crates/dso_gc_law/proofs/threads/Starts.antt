-- Starts of paths: what a client that counts names, in its threads and in what it takes.
use Rattle.std.specs.List.{list_any}
use Rattle.std.proofs.Common.{ℕ, ◌≡◌, inl, inr, refl, sym, ◌∙◌, ap, subst, Bool, true, false, cond, eqb, ◌||◌, Option}
use Rattle.std.proofs.Common.{List, [], ◌∷◌}
use Rattle.std.specs.Prelude.{filter, Contains}
use Rattle.std.proofs.lemmas.List.Folds.{list_any_at}
use Rattle.dso_base.specs.declared.journal.Entry.{Entry}
use Rattle.dso_base.specs.declared.journal.Input.TheVariants as input
use Rattle.dso_base.specs.declared.journal.Node.TheVariants.{Client}
use Rattle.dso_base.specs.declared.lock.ThreadId.{ThreadId}
use Rattle.dso_base.specs.declared.message.Down.{Down}
use Rattle.dso_base.specs.declared.request.Event.{Event}
use Rattle.dso_base.specs.declared.request.Request.{Request}
use Rattle.dso_base.specs.declared.value.Value.{Value}
use Rattle.dso_base.specs.Following.{is_thread}
use Rattle.dso_base.specs.Naming.{up_names, down_names}
use Rattle.dso_base.specs.Reached.{begins}
use Rattle.dso_plain.proofs.keys.SameKeys.{same_thread, number_self}
use Rattle.dso_law.specs.Settings.{Settings, threads_of}
use Rattle.dso_law.specs.Channels.{Letter, up_in_flight, down_in_flight, IsFirst, TakesFirst}
use Rattle.dso_legal.specs.Agreement.{messages}
use Rattle.dso_legal.specs.Collection.{is_in_flight, thread_names, IsLive}
use Rattle.dso_legal.proofs.fitting.NamesInHand.{left_so, right_so}
use Rattle.dso_gc_law.proofs.Known.{IsOfKept}

-- one of a list passes the test that one of them passes
pub one_passes : {X : Type 0} (test : X → Bool) (xs : List X) (x : X) → Contains xs x → test x ≡ true
    → list_any test xs ≡ true
one_passes test xs x there passes =
    list_any_at test xs there.0 x there.1 (subst (λ y. test y ≡ true) (sym there.2) passes)

-- a thread of the client that passes a test is one of its threads that do
pub own_passes : (test : ThreadId → Bool) (c : ℕ) (threads : List ThreadId) (t : ThreadId)
    → list_any (is_thread t) threads ≡ true → t.client ≡ c → test t ≡ true
    → list_any test (filter (λ u. eqb u.client c) threads) ≡ true
own_passes test c [] t among its passes = absurd (cc among)
own_passes test c (u ∷ threads) t among its passes =
    by (is_thread t u) refl among (λ later. own_passes test c threads t later its passes)
  where
    rest : List ThreadId
    rest = filter (λ u. eqb u.client c) threads

    here : (b : Bool) → b ≡ true → test u ≡ true → list_any test (cond b (u ∷ rest) rest) ≡ true
    here true mine passes = left_so (test u) (list_any test rest) passes
    here false mine passes = absurd (cc mine)

    behind : (b : Bool) → list_any test rest ≡ true → list_any test (cond b (u ∷ rest) rest) ≡ true
    behind true is = right_so (test u) (list_any test rest) is
    behind false is = is

    mine : u ≡ t → eqb u.client c ≡ true
    mine same = subst (λ n. eqb n c ≡ true) (sym (ap (λ (t : ThreadId). t.client) same ∙ its)) (number_self c)

    by : (b : Bool) → is_thread t u ≡ b → (b || list_any (is_thread t) threads) ≡ true
        → (list_any (is_thread t) threads ≡ true → list_any test rest ≡ true)
        → list_any test (cond (eqb u.client c) (u ∷ rest) rest) ≡ true
    by true same is later = here (eqb u.client c) (mine (same_thread t u same))
        (subst (λ w. test w ≡ true) (sym (same_thread t u same)) passes)
    by false other is later = behind (eqb u.client c) (later is)

-- the first message in flight names what one of those in flight does
first_names : (o : ℕ) (m : Down) (letters : List (Letter Down)) → IsFirst m letters → down_names m o ≡ true
    → list_any (λ m. down_names m o) (messages letters) ≡ true
first_names o m [] first names = absurd first
first_names o m (letter ∷ letters) first names =
    left_so (down_names letter.message o) (list_any (λ m. down_names m o) (messages letters))
    (subst (λ n. down_names n o ≡ true) first names)

module _ (p : Settings) (next : ThreadId → List Event → Option Request) (frames : ThreadId → List Event → List Value)
    (kept : ℕ → Bool) where
  -- object 0
  pub zero_live : (es : List Entry) (o : ℕ) → o ≡ 0 → IsLive p next frames kept es o
  zero_live es o is = begins o (inl is)

  -- what a thread of a client that counts names
  pub threads_live : (c : ℕ) (es : List Entry) (o : ℕ) → kept c ≡ true
      → list_any (λ t. thread_names p next frames t es o) (threads_of p c) ≡ true → IsLive p next frames kept es o
  threads_live c es o counts names = begins o (inr (
    c,
    counts,
    left_so (list_any (λ t. thread_names p next frames t es o) (threads_of p c)) (is_in_flight c es o) names,
  ))

  -- so of one thread
  pub thread_live : (c : ℕ) (es : List Entry) (o : ℕ) (t : ThreadId) → kept c ≡ true
      → list_any (is_thread t) p.threads ≡ true → t.client ≡ c → thread_names p next frames t es o ≡ true
      → IsLive p next frames kept es o
  thread_live c es o t counts among its names = threads_live c es o counts
      (own_passes (λ t. thread_names p next frames t es o) c p.threads t among its names)

  -- what the message names that it takes
  pub taken_live : (c : ℕ) (e : Entry) (es : List Entry) → IsOfKept p next frames kept c e es → (m : Down)
      → e.input ≡ input.TookDown m → (o : ℕ) → down_names m o ≡ true → IsLive p next frames kept es o
  taken_live c e es it m took o names =
      let first : TakesFirst (input.TookDown m) (Client c) es = subst (λ i. TakesFirst i (Client c) es) took
      (subst (λ n. TakesFirst e.input n es) it.node it.follow.1.channels) in
      let in_flight : is_in_flight c es o ≡ true =
      right_so (list_any (λ m. up_names m o) (messages (up_in_flight c es)))
      (list_any (λ m. down_names m o) (messages (down_in_flight c es)))
      (first_names o m (down_in_flight c es) first names) in
      begins o (inr (
        c,
        it.counts,
        right_so (list_any (λ t. thread_names p next frames t es o) (threads_of p c)) (is_in_flight c es o) in_flight,
      ))
