-- Threads are listed by what they ask first, one after the other.
use Rattle.std.specs.List.{list_any}
use Rattle.std.proofs.Common.{ℕ, suc, ◌<◌, ◌≤◌, ◌≡◌, inl, inr, refl, sym, ◌∙◌, ap, subst, Bool, true, false, cond, eqb, ◌||◌, Option, Some, List, [], ◌∷◌, filter, slice_get, take, arith}
use Rattle.dso_base.specs.declared.lock.ThreadId.{ThreadId}
use Rattle.dso_base.specs.declared.request.Request.{Request}
use Rattle.dso_base.specs.Following.{is_thread}
use Rattle.dso_class.specs.declared.program.Program.{Program}
use Rattle.dso_class.specs.Sound.{IsSoundProgram}
use Rattle.dso_lookup.proofs.Tests.{right_holds}
use Rattle.dso_plain.proofs.keys.SameKeys.{same_thread}
use Rattle.dso_world.specs.declared.nodes.Nodes.{Nodes}
use Rattle.dso_world.specs.AskedAgain.{AskFirst, TellsNext}
use Rattle.dso_world.specs.AskingThreads.{AreListed, IsListed, IsUnder, next_of}
use Rattle.dso_world.specs.NodesStand.{NodesStand}
use Rattle.dso_world.proofs.places.Marking.{any_next}
use Rattle.dso_world.proofs.programs.Threads.{own_index}
use Rattle.dso_world.proofs.worlds.Openings.{empty_journal}

-- a thread among those of a client is among all
of_own : (t : ThreadId) (c : ℕ) (threads : List ThreadId) → list_any (is_thread t) (filter (λ u. eqb u.client c) threads) ≡ true → list_any (is_thread t) threads ≡ true
of_own t c [] is = is
of_own t c (u ∷ threads) is = by (eqb u.client c) is (of_own t c threads)
  where
    by : (b : Bool) → list_any (is_thread t) (cond b (u ∷ filter (λ u. eqb u.client c) threads) (filter (λ u. eqb u.client c) threads)) ≡ true
        → (list_any (is_thread t) (filter (λ u. eqb u.client c) threads) ≡ true → list_any (is_thread t) threads ≡ true) → (is_thread t u || list_any (is_thread t) threads) ≡ true
    by true found later = here (is_thread t u) found later
      where
        here : (d : Bool) → (d || list_any (is_thread t) (filter (λ u. eqb u.client c) threads)) ≡ true
            → (list_any (is_thread t) (filter (λ u. eqb u.client c) threads) ≡ true → list_any (is_thread t) threads ≡ true) → (d || list_any (is_thread t) threads) ≡ true
        here true found later = refl
        here false found later = later found
    by false found later = right_holds (is_thread t u) (list_any (is_thread t) threads) (later found)

module _ (nodes : Nodes) where
  -- One thread more.
  pub one_asks : (threads : List ThreadId) (i next : ℕ) (thread : ThreadId) (request : Option Request) (old new : List ℕ) → next ≡ suc i → slice_get threads i ≡ Some thread
      → ((program : Program) → TellsNext program nodes thread request) → (thread.index < 64 → IsUnder new thread request) → ((u : ThreadId) (b : ℕ) → IsListed old u b → IsListed new u b)
      → AskFirst nodes (take i threads) old → AskFirst nodes (take next threads) new
  one_asks threads i next thread request old new one there tells its others first t low among = elim (any_next (is_thread t) i threads thread there (ap (λ n. list_any (is_thread t) (take n threads)) (sym one) ∙ among)) [
    | inl before ↦ let was = first t low before in (was.0, λ b is. others t b (was.1 b is), was.2)
    | inr last ↦
        let same : thread ≡ t = same_thread t thread last in (
          request,
          subst (λ u. IsUnder new u request) same (its (subst (λ (u : ThreadId). u.index < 64) (sym same) low)),
          subst (λ u. (program : Program) → TellsNext program nodes u request) same tells,
        )
  ]

  -- All threads of the cluster.
  pub first_listed : (program : Program) (sound : IsSoundProgram program) (words : List ℕ) → NodesStand program nodes [] → AskFirst nodes program.threads words → AreListed program words []
  first_listed program sound words stands first t cluster =
      let few : t.index ≤ 16 = own_index program.code sound.code program.threads sound.threads sound.threads_rise t.client t cluster.among in
      let its = first t (omega (arith, few)) (of_own t t.client program.threads cluster.among) in
      subst (IsUnder words t) (its.2 program [] (empty_journal program sound) stands cluster) its.1
