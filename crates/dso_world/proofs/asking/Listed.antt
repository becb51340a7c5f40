-- Threads go on to be listed by what they ask next: the thread that acts is listed anew, and each other asks what it asked.
use Rattle.std.specs.List.{list_any}
use Rattle.std.proofs.Common.{ℕ, ◌<◌, ◌≤◌, ◌≡◌, refl, sym, ◌∙◌, ap, subst, Bool, true, false, cond, Option, Some, None, List, ◌∷◌, arith}
use Rattle.dso_base.specs.declared.journal.Entry.{Entry}
use Rattle.dso_base.specs.declared.journal.Node.TheVariants.{Client}
use Rattle.dso_base.specs.declared.lock.ThreadId.{ThreadId}
use Rattle.dso_base.specs.declared.request.Event.{Event}
use Rattle.dso_base.specs.declared.request.Event.TheVariants.{Act, Lost}
use Rattle.dso_base.specs.declared.request.Request.{Request}
use Rattle.dso_base.specs.Following.{is_thread}
use Rattle.dso_plain.proofs.keys.SameKeys.{same_thread, thread_self}
use Rattle.dso_class.specs.declared.program.Program.{Program}
use Rattle.dso_law.specs.Entries.{entries_of, events_in, is_node}
use Rattle.dso_law.proofs.runs.Others.{same_events}
use Rattle.dso_machine.specs.Next.{next_request}
use Rattle.dso_open_law.specs.TouchedThreads.{acts, topic}
use Rattle.dso_open_law.proofs.threads.Acting.{others_event}
use Rattle.dso_world.specs.declared.nodes.Nodes.{Nodes}
use Rattle.dso_world.specs.AskedAgain.{TellsActor}
use Rattle.dso_world.specs.AskingThreads.{AreListed, IsOfCluster, IsOne, IsUnder, Turns, bucket_of, next_of}
use Rattle.dso_world.specs.ClientSteps.{IsJournal}
use Rattle.dso_world.specs.NodesStand.{NodesStand}
use Rattle.dso_world.proofs.programs.Threads.{own_index}
use Rattle.dso_world.proofs.touches.Added.{bucket_within}

-- two threads that aren't the same aren't one
not_one : (t u : ThreadId) → is_thread t u ≡ false → IsOne u t → ⊥
not_one t u other one =
    let same : u ≡ t = λ i. record { client = sym one.0 i; index = sym one.1 i } in
    cc (sym other ∙ (ap (is_thread t) same ∙ thread_self t))

module _ (program : Program) where
  -- a thread asks next what it asked, where it doesn't act
  next_stays : (entry : Entry) (es : List Entry) (t : ThreadId) → acts t entry.event ≡ false → next_of program (entry ∷ es) t ≡ next_of program es t
  next_stays entry es t idle = ap (next_request program.code t) (by (is_node (Client t.client) entry.node))
    where
      by : (its : Bool) → events_in t (cond its (entry ∷ entries_of (Client t.client) es) (entries_of (Client t.client) es)) ≡ events_in t (entries_of (Client t.client) es)
      by true = same_events t entry (entries_of (Client t.client) es) (others_event t entry.event idle)
      by false = refl

  module _ (nodes : Nodes) (entry : Entry) (next : Option Request) (es : List Entry) (old : List ℕ) (journal : IsJournal program (entry ∷ es)) (stands : NodesStand program nodes (entry ∷ es))
      (listed : AreListed program old es) (t : ThreadId) (cluster : IsOfCluster program t) where
    low : t.index < 64
    low =
        let sound = journal.sound in
        let few : t.index ≤ 16 = own_index program.code sound.code program.threads sound.threads sound.threads_rise t.client t cluster.among in
        omega (arith, few)

    -- where it was listed it stands now, if it doesn't act
    still : (new : List ℕ) → new ≡ old → acts t entry.event ≡ false → IsUnder new t (next_of program (entry ∷ es) t)
    still new same idle = subst (λ words. IsUnder words t (next_of program (entry ∷ es) t)) (sym same)
        (subst (IsUnder old t) (sym (next_stays entry es t idle)) (listed t cluster))

    by_event : (new : List ℕ) (event : Option Event) → entry.event ≡ event → TellsActor program nodes event next → Turns event next old new → IsUnder new t (next_of program (entry ∷ es) t)
    by_event new None is tells turns = still new turns (ap (acts t) is)
    by_event new (Some (Lost client)) is tells turns = still new turns (ap (acts t) is)
    by_event new (Some (Act u request reply woken)) is tells turns = by (is_thread t u) refl
      where
        by : (same : Bool) → is_thread t u ≡ same → IsUnder new t (next_of program (entry ∷ es) t)
        by true same =
            let one : u ≡ t = same_thread t u same in
            let asks : next ≡ next_of program (entry ∷ es) u = tells (entry ∷ es) journal stands (subst (IsOfCluster program) (sym one) cluster) in
            subst (λ v. IsUnder new v (next_of program (entry ∷ es) v)) one
            (subst (IsUnder new u) asks (turns.its (subst (λ (v : ThreadId). v.index < 64) (sym one) low)))
        by false other = λ b its. turns.others t b (bucket_within (topic t (next_of program (entry ∷ es) t)) b its) low (not_one t u other)
            (listed t cluster b (ap (λ request. bucket_of (topic t request)) (sym (next_stays entry es t (ap (acts t) is ∙ other))) ∙ its))

  -- Each thread is listed after the entry, where it was before it and the thread that acts turned.
  pub listed_on : (nodes : Nodes) (entry : Entry) (next : Option Request) (old new : List ℕ) → TellsActor program nodes entry.event next → Turns entry.event next old new
      → (es : List Entry) → IsJournal program (entry ∷ es) → NodesStand program nodes (entry ∷ es) → AreListed program old es → AreListed program new (entry ∷ es)
  listed_on nodes entry next old new tells turns es journal stands listed t cluster = by_event nodes entry next es old journal stands listed t cluster new entry.event refl tells turns
