-- What clients that count name after one entry more, a path reached before it, or nobody had made it by then.
use Rattle.std.specs.List.{list_any}
use Rattle.std.proofs.Common.{ℕ, ◌≡◌, inl, inr, refl, sym, ◌∙◌, ap, Bool, true, false, cond, eqb, ◌||◌, Option}
use Rattle.std.proofs.Common.{List, [], ◌∷◌, filter}
use Rattle.std.proofs.lemmas.Bool.{or_cases}
use Rattle.dso_base.specs.declared.journal.Entry.{Entry}
use Rattle.dso_base.specs.declared.journal.Node.{Node}
use Rattle.dso_base.specs.declared.journal.Node.TheVariants.{Server, Client}
use Rattle.dso_base.specs.declared.lock.ThreadId.{ThreadId}
use Rattle.dso_base.specs.declared.request.Event.{Event}
use Rattle.dso_base.specs.declared.request.Request.{Request}
use Rattle.dso_base.specs.declared.value.Value.{Value}
use Rattle.dso_base.specs.Reached.{begins}
use Rattle.dso_lookup.proofs.Tests.{left_holds, right_holds}
use Rattle.dso_plain.proofs.keys.SameKeys.{same_number}
use Rattle.dso_law.specs.Settings.{Settings, threads_of}
use Rattle.dso_law.specs.Entries.{entries_of}
use Rattle.dso_legal.specs.Collection.{client_names, is_in_flight, thread_holds, thread_names}
use Rattle.dso_legal.specs.Lawful.{AllFollow}
use Rattle.dso_legal.proofs.channels.AfterEntry.{other_turn, own_turn, server_turn}
use Rattle.dso_gc_law.proofs.Known.{CountsLiving, IsKnown, IsOfKept, IsOfServer}
use Rattle.dso_gc_law.proofs.garbage.Rows.{Rows}
use Rattle.dso_gc_law.proofs.garbage.Said.{item_there, said_by_other, said_by_own, said_by_server}

-- a test of a client's threads that goes by the thread's client goes by this client
own_test : (p : Settings) (c : ℕ) (test : ℕ → ThreadId → Bool)
    → list_any (λ t. test t.client t) (threads_of p c) ≡ list_any (λ t. test c t) (threads_of p c)
own_test p c test = by p.threads
  where
    its : List ThreadId → List ThreadId
    its threads = filter (λ t. eqb t.client c) threads

    AreAlike : List ThreadId → Type 0
    AreAlike threads = list_any (λ t. test t.client t) threads ≡ list_any (λ t. test c t) threads

    one_more : (t : ThreadId) (threads : List ThreadId) (b : Bool) → eqb t.client c ≡ b → AreAlike (its threads)
        → AreAlike (cond b (t ∷ its threads) (its threads))
    one_more t threads true same alike =
        ap (λ n. test n t || list_any (λ u. test u.client u) (its threads)) (same_number t.client c same)
        ∙ ap (λ b. test c t || b) alike
    one_more t threads false other alike = alike

    by : (threads : List ThreadId) → AreAlike (its threads)
    by [] = refl
    by (t ∷ threads) = one_more t threads (eqb t.client c) refl (by threads)

module _ (p : Settings) (next : ThreadId → List Event → Option Request)
    (frames : ThreadId → List Event → List Value) where
  -- whether one of the client's threads names the object
  abbrev threads_name : ℕ → List Entry → ℕ → Bool
  threads_name c es o = list_any (λ t. thread_names p next frames t es o) (threads_of p c)

  -- they name by the client's entries
  same_threads : (c o : ℕ) (new old : List Entry) → entries_of (Client c) new ≡ entries_of (Client c) old
      → threads_name c new o ≡ threads_name c old o
  same_threads c o new old same =
      own_test p c (λ n t. thread_holds p next frames t (entries_of (Client n) new) o)
      ∙ ap (λ its. list_any (λ t. thread_holds p next frames t its o) (threads_of p c)) same
      ∙ sym (own_test p c (λ n t. thread_holds p next frames t (entries_of (Client n) old) o))

  module _ (rows : Rows p next frames) (kept : ℕ → Bool) (e : Entry) (es : List Entry)
      (follow : AllFollow p next (e ∷ es)) (living : CountsLiving p next frames kept es) where
    -- the entry is one of a client that counts, or of the server
    pub of_kept : (c : ℕ) → e.node ≡ Client c → kept c ≡ true → IsOfKept p next frames kept c e es
    of_kept c node counts = record { follow = follow; node = node; counts = counts }

    pub of_server : e.node ≡ Server → IsOfServer p next frames kept e es
    of_server node = record { follow = follow; node = node; living = living; sound = rows.sound }

    module _ (c o : ℕ) (counts : kept c ≡ true) where
      -- known before the entry
      abbrev Before : Type 0
      Before = IsKnown p next frames kept es o

      -- it was named before
      named_before : client_names p next frames c es o ≡ true → Before
      named_before is = inl (begins o (inr (c, counts, is)))

      by_thread : threads_name c es o ≡ true → Before
      by_thread is = named_before (left_holds (threads_name c es o) (is_in_flight c es o) is)

      by_flight : is_in_flight c es o ≡ true → Before
      by_flight is = named_before (right_holds (threads_name c es o) (is_in_flight c es o) is)

      -- an entry of the server
      at_server : e.node ≡ Server → client_names p next frames c (e ∷ es) o ≡ true → Before
      at_server node is =
          let turn = server_turn c e es node in
          elim (or_cases (threads_name c (e ∷ es) o) (is_in_flight c (e ∷ es) o) is) [
            | inl threads ↦ by_thread (sym (same_threads c o (e ∷ es) es turn.own) ∙ threads)
            | inr flight ↦ elim (said_by_server o c e es turn flight) [
              | inl before ↦ by_flight before
              | inr now ↦ rows.server_sends kept e es (of_server node) o now
            ]
          ]

      -- one of the client
      at_own : e.node ≡ Client c → client_names p next frames c (e ∷ es) o ≡ true → Before
      at_own node is =
          elim (or_cases (threads_name c (e ∷ es) o) (is_in_flight c (e ∷ es) o) is) [
            | inl threads ↦
                let it = item_there (λ t. thread_names p next frames t (e ∷ es) o) (threads_of p c) threads in
                rows.threads kept c e es (of_kept c node counts) it.0 it.1 o it.2
            | inr flight ↦ elim (said_by_own o c e es (own_turn c e es node) flight) [
              | inl before ↦ by_flight before
              | inr now ↦ rows.client_sends kept c e es (of_kept c node counts) o now
            ]
          ]

      -- one of another client
      at_other : (d : ℕ) → e.node ≡ Client d → eqb c d ≡ false → client_names p next frames c (e ∷ es) o ≡ true
          → Before
      at_other d node other is =
          let turn = other_turn c d e es node other in
          elim (or_cases (threads_name c (e ∷ es) o) (is_in_flight c (e ∷ es) o) is) [
            | inl threads ↦ by_thread (sym (same_threads c o (e ∷ es) es turn.own) ∙ threads)
            | inr flight ↦ by_flight (sym (said_by_other o c e es turn) ∙ flight)
          ]

      -- What the client names after the entry was known before it.
      pub names_known : client_names p next frames c (e ∷ es) o ≡ true → Before
      names_known is = by e.node refl
        where
          of_client : (d : ℕ) (b : Bool) → eqb c d ≡ b → e.node ≡ Client d → Before
          of_client d true same node = at_own (node ∙ ap Client (sym (same_number c d same))) is
          of_client d false other node = at_other d node other is

          by : (node : Node) → e.node ≡ node → Before
          by Server at = at_server at is
          by (Client d) at = of_client d (eqb c d) refl at
