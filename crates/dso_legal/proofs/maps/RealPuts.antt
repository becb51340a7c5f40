-- What a call puts is an object other than object 0: a thread of sound code would else put object 0 where the map is
-- empty.
use Rattle.std.specs.List.{list_any}
use Rattle.std.proofs.Common.{ℕ, zero, suc, ◌≡◌, ◌<◌, refl, sym, ◌∙◌, ap, subst, arith, Bool, true, false, ◌||◌, ℤ, Option, Some, None, List, [], ◌∷◌, ◌++◌}
use Rattle.std.proofs.lemmas.List.{append_assoc, append-nil}
use Rattle.dso_base.specs.declared.journal.Entry.{Entry}
use Rattle.dso_base.specs.declared.journal.Node.TheVariants.{Client}
use Rattle.dso_base.specs.declared.lock.ThreadId.{ThreadId}
use Rattle.dso_base.specs.declared.request.Event.{Event}
use Rattle.dso_base.specs.declared.request.Event.TheVariants.{Act, Lost}
use Rattle.dso_base.specs.declared.request.Reply.{Reply}
use Rattle.dso_base.specs.declared.request.Reply.TheVariants.{Done, Val}
use Rattle.dso_base.specs.declared.request.Request.{Request}
use Rattle.dso_base.specs.declared.request.Request.TheVariants.{Get, Put}
use Rattle.dso_base.specs.declared.shape.Shape.{Shape}
use Rattle.dso_base.specs.declared.value.Value.TheVariants as value
use Rattle.dso_base.specs.Following.{IsListed, IsListedFor, Listed, FollowsProgram}
use Rattle.dso_map.specs.declared.map_op.MapOp.{MapOp}
use Rattle.dso_map.specs.declared.map_op.MapOp.TheVariants as op
use Rattle.dso_map.specs.Fields.{slots, place_of}
use Rattle.dso_map.specs.Fields.MapField.{Touched, Key, Held}
use Rattle.dso_map.specs.KeptMaps.{PutsObject}
use Rattle.dso_map.specs.Talk.{slot_of, along}
use Rattle.dso_map.proofs.Sizes.{slots_are}
use Rattle.dso_machine.specs.MapCalls.{entry_of, asked_after, IsCalling}
use Rattle.dso_plain.specs.History.{events_of}
use Rattle.dso_plain.specs.SameActs.{AreSameActs}
use Rattle.dso_plain.specs.Touches.{AreActsOf}
use Rattle.dso_plain.proofs.histories.LegalGoesOn.{events_in_parts}
use Rattle.dso_law.specs.Settings.{Settings}
use Rattle.dso_law.specs.Entries.{entries_of, events_in}
use Rattle.dso_law.specs.Prefixes.{IsPrefix}
use Rattle.dso_law.specs.Threads.{Locks}
use Rattle.dso_legal.specs.AsMade.{as_made}
use Rattle.dso_legal.specs.Committed.{committed}
use Rattle.dso_legal.specs.Lawful.{AllFollow}
use Rattle.dso_legal.specs.PendingBlocks.{no_locks, locks_through}
use Rattle.dso_legal.specs.Resolved.{AreResolved}
use Rattle.dso_legal.specs.SoundProgram.{tells, event_tells, WaitIsHeld, WaitsAreHeld, AsksSoundly, KeepsTo}
use Rattle.dso_legal.proofs.acts.SoundNames.{has_before, waits_before, first_follows, follows_one_more}
use Rattle.dso_legal.proofs.blocks.ClientBlocks.{acts_both}
use Rattle.dso_legal.proofs.blocks.Histories.{first_in_history}
use Rattle.dso_legal.proofs.blocks.OpenRuns.{acts_in_parts}
use Rattle.dso_legal.proofs.blocks.OwnActs.{threads_follow, threads_wait, own_acts, waits_more}
use Rattle.dso_legal.proofs.blocks.ResolvedBlocks.{history_resolved, resolved_of}
use Rattle.dso_legal.proofs.central.ResolvedFollows.{same_behind}
use Rattle.dso_legal.proofs.fitting.Untold.{all_untold}

-- ---- a path that ends at once

-- the first slot of the key's path
abbrev first_of : ℤ → ℕ
first_of k = slot_of k 0

-- what a put asks where the first slot on its path wasn't touched
record AsksAtOnce (o : ℕ) (k : ℤ) (v n : ℕ) : Type 0 where
  touched : asked_after o (along (op.Put k v) n 0 None) true [] ≡ Some (Get o (place_of (Touched (first_of k))))
  touches : asked_after o (along (op.Put k v) n 0 None) true (Val (value.Bool false) ∷ []) ≡ Some (Put o (place_of (Touched (first_of k))) (value.Bool true))
  key : asked_after o (along (op.Put k v) n 0 None) true (Val (value.Bool false) ∷ Done ∷ []) ≡ Some (Put o (place_of (Key (first_of k))) (value.Long k))
  held : asked_after o (along (op.Put k v) n 0 None) true (Val (value.Bool false) ∷ Done ∷ Done ∷ []) ≡ Some (Put o (place_of (Held (first_of k))) (value.Ref v))

asks_at_once : (o : ℕ) (k : ℤ) (v n : ℕ) → 0 < n → AsksAtOnce o k v n
asks_at_once o k v zero some = absurd (omega (arith, some))
asks_at_once o k v (suc n) some = record { touched = refl; touches = refl; key = refl; held = refl }

-- ---- events that a sound program is asked about

-- none of some, and none of one more
none_more : {X : Type 0} (test : X → Bool) (xs : List X) (x : X) → list_any test xs ≡ false → test x ≡ false → list_any test (xs ++ x ∷ []) ≡ false
none_more test [] x none other = ap (λ b. b || false) other
none_more test (y ∷ xs) x none other = by (test y) none (none_more test xs x)
  where
    by : (b : Bool) → (b || list_any test xs) ≡ false → (list_any test xs ≡ false → test x ≡ false → list_any test (xs ++ x ∷ []) ≡ false) → (b || list_any test (xs ++ x ∷ [])) ≡ false
    by true none later = absurd (cc none)
    by false none later = later none other

module _ (shape : Shape) (next : ThreadId → List Event → Option Request) (sound : AsksSoundly shape next) (t : ThreadId) where
  -- events of the thread as its client made them, which a sound program is asked about, and as the history has them
  record AreAsked (mades events : List Event) : Type 0 where
    acts : AreActsOf t mades
    untold : list_any (event_tells 0) mades ≡ false
    held : WaitsAreHeld t mades no_locks
    follows : FollowsProgram next (Listed next) t mades
    same : AreSameActs mades events

  -- what is asked after them
  asked_of : (mades events : List Event) (q : Request) → AreAsked mades events → next t events ≡ Some q → next t mades ≡ Some q
  asked_of mades events q are asks = sym (sound.goes_by_replies t mades events are.same) ∙ asks

  -- with one more act
  one_more : (mades events : List Event) (q : Request) (r : Reply) → AreAsked mades events → next t events ≡ Some q → IsListed q r → tells 0 r ≡ false → ((locks : Locks) → WaitIsHeld (Act t q r None) locks)
      → AreAsked (mades ++ Act t q r None ∷ []) (events ++ Act t q r None ∷ [])
  one_more mades events q r are asks listed untold waits =
      let asked : next t mades ≡ Some q = asked_of mades events q are asks in
      record {
        acts = acts_both t mades (Act t q r None ∷ []) are.acts (refl, tt);
        untold = none_more (event_tells 0) mades (Act t q r None) are.untold untold;
        held = waits_more t mades (Act t q r None) no_locks are.held (waits (locks_through t mades no_locks));
        follows = follows_one_more next (Listed next) t [] mades (Act t q r None) are.follows (asked, subst (λ x. IsListedFor x r) (sym asked) listed);
        same = same_behind mades events (Act t q r None) (Act t q r None) are.same (refl, refl, refl);
      }

  -- Behind such events no call puts object 0.
  puts_no_roots : (others : Shape) (mades events : List Event) (o : ℕ) (k : ℤ) → AreAsked mades events → IsCalling others next t events o (op.Put k 0) → ⊥
  puts_no_roots others mades events o k are calling =
      let path : AsksAtOnce o k 0 slots = asks_at_once o k 0 slots (omega (arith, slots_are)) in
      let i : ℕ = first_of k in
      let e0 : Event = Act t (entry_of o (op.Put k 0)) Done None in
      let e1 : Event = Act t (Get o (place_of (Touched i))) (Val (value.Bool false)) None in
      let e2 : Event = Act t (Put o (place_of (Touched i)) (value.Bool true)) Done None in
      let e3 : Event = Act t (Put o (place_of (Key i)) (value.Long k)) Done None in
      let a0 : AreAsked (mades ++ e0 ∷ []) (events ++ e0 ∷ []) =
      one_more mades events (entry_of o (op.Put k 0)) Done are (subst (λ x. next t x ≡ Some (entry_of o (op.Put k 0))) (append-nil events) (calling.asks [] (entry_of o (op.Put k 0)) refl)) tt refl (λ locks. tt) in
      let b1 : List Event = events ++ e0 ∷ [] in
      let m1 : List Event = mades ++ e0 ∷ [] in
      let a1 : AreAsked (m1 ++ e1 ∷ []) (b1 ++ e1 ∷ []) =
      one_more m1 b1 (Get o (place_of (Touched i))) (Val (value.Bool false)) a0 (calling.asks (e0 ∷ []) (Get o (place_of (Touched i))) path.touched) tt refl (λ locks. tt) in
      let b2 : List Event = b1 ++ e1 ∷ [] in
      let m2 : List Event = m1 ++ e1 ∷ [] in
      let is2 : events ++ e0 ∷ e1 ∷ [] ≡ b2 = sym (append_assoc events (e0 ∷ []) (e1 ∷ [])) in
      let a2 : AreAsked (m2 ++ e2 ∷ []) (b2 ++ e2 ∷ []) =
      one_more m2 b2 (Put o (place_of (Touched i)) (value.Bool true)) Done a1
      (subst (λ x. next t x ≡ Some (Put o (place_of (Touched i)) (value.Bool true))) is2 (calling.asks (e0 ∷ e1 ∷ []) (Put o (place_of (Touched i)) (value.Bool true)) path.touches)) tt refl (λ locks. tt) in
      let b3 : List Event = b2 ++ e2 ∷ [] in
      let m3 : List Event = m2 ++ e2 ∷ [] in
      let is3 : events ++ e0 ∷ e1 ∷ e2 ∷ [] ≡ b3 = sym (append_assoc events (e0 ∷ e1 ∷ []) (e2 ∷ [])) ∙ ap (λ x. x ++ e2 ∷ []) is2 in
      let a3 : AreAsked (m3 ++ e3 ∷ []) (b3 ++ e3 ∷ []) =
      one_more m3 b3 (Put o (place_of (Key i)) (value.Long k)) Done a2
      (subst (λ x. next t x ≡ Some (Put o (place_of (Key i)) (value.Long k))) is3 (calling.asks (e0 ∷ e1 ∷ e2 ∷ []) (Put o (place_of (Key i)) (value.Long k)) path.key)) tt refl (λ locks. tt) in
      let b4 : List Event = b3 ++ e3 ∷ [] in
      let m4 : List Event = m3 ++ e3 ∷ [] in
      let is4 : events ++ e0 ∷ e1 ∷ e2 ∷ e3 ∷ [] ≡ b4 = sym (append_assoc events (e0 ∷ e1 ∷ e2 ∷ []) (e3 ∷ [])) ∙ ap (λ x. x ++ e3 ∷ []) is3 in
      let last : Request = Put o (place_of (Held i)) (value.Ref 0) in
      let asked : next t m4 ≡ Some last = asked_of m4 b4 last a3 (subst (λ x. next t x ≡ Some last) is4 (calling.asks (e0 ∷ e1 ∷ e2 ∷ e3 ∷ []) last path.held)) in
      let keeps : KeepsTo shape t m4 last = sound.keeps t m4 last a3.acts a3.untold a3.held a3.follows asked in
      keeps.names.1.0 refl

-- ---- in a history

-- resolved acts are the same acts
same_acts : (t : ThreadId) (mades events : List Event) → AreActsOf t mades → AreResolved mades events → AreSameActs mades events
same_acts t [] [] acts are = tt
same_acts t [] (event ∷ events) acts are = absurd are
same_acts t (made ∷ mades) [] acts are = absurd are
same_acts t (Act u q r woken ∷ mades) (event ∷ events) acts are =
    subst (λ e. AreSameActs (Act u q r woken ∷ mades) (e ∷ events)) (sym are.0.same) ((refl, refl, refl), same_acts t mades events acts.1 are.1)
same_acts t (Lost client ∷ mades) (event ∷ events) acts are = absurd acts.0

-- what is resolved in two parts
record InTwo (mades first second : List Event) : Type 0 where
  front : List Event
  back : List Event
  whole : mades ≡ front ++ back
  are : AreResolved front first

in_two : (mades first second : List Event) → AreResolved mades (first ++ second) → InTwo mades first second
in_two mades [] second are = record { front = []; back = mades; whole = refl; are = tt }
in_two [] (event ∷ first) second are = absurd are
in_two (made ∷ mades) (event ∷ first) second are =
    let rest : InTwo mades first second = in_two mades first second are.1 in
    record { front = made ∷ rest.front; back = rest.back; whole = ap (λ xs. made ∷ xs) rest.whole; are = (are.0, rest.are) }

module _ (p : Settings) (next : ThreadId → List Event → Option Request) (sound : AsksSoundly p.shape next) (es : List Entry) (follow : AllFollow p next es) where
  -- the events of a thread in the front of the history are those of its client's that a sound program is asked about
  asked_here : (t : ThreadId) (before events : List Event) → before ++ events ≡ committed es → (mades : List Event) × AreAsked p.shape next sound t mades (events_of t before)
  asked_here t before events whole =
      let all : List Event = events_in t (entries_of (Client t.client) es) in
      let parts : events_of t (committed es) ≡ events_of t before ++ events_of t events = ap (events_of t) (sym whole) ∙ events_in_parts t before events in
      let two : InTwo (events_of t (as_made es)) (events_of t before) (events_of t events) =
      in_two (events_of t (as_made es)) (events_of t before) (events_of t events) (subst (AreResolved (events_of t (as_made es))) parts (resolved_of t (as_made es) (committed es) (history_resolved es))) in
      let first : IsPrefix (events_of t (as_made es)) all = first_in_history p next t es follow in
      let is : two.front ++ (two.back ++ first.rest) ≡ all = sym (append_assoc two.front two.back first.rest) ∙ ap (λ xs. xs ++ first.rest) (sym two.whole) ∙ sym first.whole in
      let acts : AreActsOf t two.front = (acts_in_parts t two.front (two.back ++ first.rest) (subst (AreActsOf t) (sym is) (own_acts t (entries_of (Client t.client) es)))).0 in (
        two.front,
        record {
          acts = acts;
          untold = has_before (event_tells 0) two.front (two.back ++ first.rest) (subst (λ xs. list_any (event_tells 0) xs ≡ false) (sym is) (all_untold p next sound es follow t));
          held = waits_before t two.front (two.back ++ first.rest) no_locks (subst (λ xs. WaitsAreHeld t xs no_locks) (sym is) (threads_wait p next t es follow));
          follows = first_follows next t [] two.front (two.back ++ first.rest) (subst (FollowsProgram next (Listed next) t) (sym is) (threads_follow p next t es follow));
          same = same_acts t two.front (events_of t before) acts two.are;
        },
      )

  -- So no call in the history puts object 0.
  pub puts_are_real : (shape : Shape) (before events : List Event) → before ++ events ≡ committed es → (t : ThreadId) (o : ℕ) (call : MapOp) → IsCalling shape next t (events_of t before) o call → PutsObject call
  puts_are_real shape before events whole t o (op.Put k v) calling = λ none.
      let are = asked_here t before events whole in
      puts_no_roots p.shape next sound t shape are.0 (events_of t before) o k are.1 (subst (λ x. IsCalling shape next t (events_of t before) o (op.Put k x)) none calling)
  puts_are_real shape before events whole t o (op.Get k) calling = tt
  puts_are_real shape before events whole t o (op.Has k) calling = tt
  puts_are_real shape before events whole t o op.Size calling = tt
  puts_are_real shape before events whole t o (op.Remove k) calling = tt
