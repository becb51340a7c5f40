-- A thread of a client acts.
use Rattle.std.specs.List.{list_any}
use Rattle.std.proofs.Common.{ℕ, suc, ◌+◌, ◌≤◌, ◌≡◌, refl, sym, ◌∙◌, ap, subst, Bool, true, false, cond, eqb, ◌||◌, Option, Some, None, List, [], ◌∷◌, filter, length, map, arith}
use Rattle.std.proofs.lemmas.List.Sorted.{list_any-IsPermutation}
use Rattle.dso_base.specs.declared.journal.Entry.{Entry}
use Rattle.dso_base.specs.declared.journal.Input.TheVariants as input
use Rattle.dso_base.specs.declared.journal.Node.TheVariants as node
use Rattle.dso_base.specs.declared.lock.ThreadId.{ThreadId}
use Rattle.dso_base.specs.declared.message.Up.{Up}
use Rattle.dso_base.specs.Following.{is_thread}
use Rattle.dso_class.specs.declared.program.Program.{Program}
use Rattle.dso_client.specs.declared.acted.Acted.{Acted}
use Rattle.dso_client.specs.declared.acted.Acted.TheVariants as acted
use Rattle.dso_client.specs.declared.cause.Cause.{Cause}
use Rattle.dso_client.specs.declared.client_state.ClientState.{ClientState}
use Rattle.dso_client.specs.ThreadActs.{Acts, HasActed, HoldsAtMost}
use Rattle.dso_client.specs.ClientStands.{ClientStands}
use Rattle.dso_client.specs.CodeRuns.{RunsCode}
use Rattle.dso_law.specs.ClientRun.{next_in}
use Rattle.dso_law.specs.ClientStep.{can_act, may_act}
use Rattle.dso_law.specs.Entries.{entries_of, events_in}
use Rattle.dso_law.specs.Settings.{threads_of}
use Rattle.dso_legal.specs.Lawful.{next_after}
use Rattle.dso_legal.specs.Slots.{Acts as ActsAt}
use Rattle.dso_lookup.proofs.Tests.{both}
use Rattle.dso_machine.specs.declared.code.ThreadBody.{ThreadBody}
use Rattle.dso_machine.specs.Sound as machine
use Rattle.dso_machine.specs.Next.{body_of, next_of, next_request, replies_in}
use Rattle.dso_world.specs.declared.entry_draft.EntryDraft.{EntryDraft}
use Rattle.dso_world.specs.declared.client_node.ClientNode.{ClientNode}
use Rattle.dso_world.specs.ClientSteps.{IsJournal, IsMoved, IsOpenAfter, Steps, event_of}
use Rattle.dso_world.specs.NodesStand.{ClientNodeStands}
use Rattle.dso_world.specs.SentMessages.{after_saying, client_entry, clock_after}
use Rattle.dso_world.specs.WorldSteps.{settings_of}
use Rattle.dso_world.proofs.client_nodes.Said.{acted_follows}
use Rattle.dso_world.proofs.premises.OwnRun.{acts_open}
use Rattle.dso_world.proofs.premises.Sizes.{sizes_are_kept}

-- ---- a thread that may act is one of the client's

or_keeps : (a b : Bool) → b ≡ true → (a || b) ≡ true
or_keeps true b e = refl
or_keeps false b e = e

body_there : (t : ThreadId) (bodies : List ThreadBody) (body : ThreadBody) → body_of t bodies ≡ Some body → list_any (is_thread t) (map (λ body. body.thread) bodies) ≡ true
body_there t [] body is = absurd (cc is)
body_there t (first ∷ bodies) body is = by (is_thread t first.thread) is (body_there t bodies body)
  where
    by : (here : Bool) → cond here (Some first) (body_of t bodies) ≡ Some body → (body_of t bodies ≡ Some body → list_any (is_thread t) (map (λ body. body.thread) bodies) ≡ true)
        → (here || list_any (is_thread t) (map (λ body. body.thread) bodies)) ≡ true
    by true e rest = refl
    by false e rest = rest e

among_own : (t : ThreadId) (ts : List ThreadId) → list_any (is_thread t) ts ≡ true → list_any (is_thread t) (filter (λ u. eqb u.client t.client) ts) ≡ true
among_own t [] is = absurd (cc is)
among_own t (u ∷ ts) is = by (is_thread t u) refl is (among_own t ts) (eqb u.client t.client) refl
  where
    by : (here : Bool) → is_thread t u ≡ here → (here || list_any (is_thread t) ts) ≡ true → (list_any (is_thread t) ts ≡ true → list_any (is_thread t) (filter (λ u. eqb u.client t.client) ts) ≡ true)
        → (client : Bool) → eqb u.client t.client ≡ client → list_any (is_thread t) (cond client (u ∷ filter (λ u. eqb u.client t.client) ts) (filter (λ u. eqb u.client t.client) ts)) ≡ true
    by true same e rest true own = ap (λ b. b || list_any (is_thread t) (filter (λ u. eqb u.client t.client) ts)) same
    by true same e rest false own = let h = (both (eqb u.client t.client) (eqb u.index t.index) same).0 in absurd (cc (h, own))
    by false same e rest true own = or_keeps (is_thread t u) (list_any (is_thread t) (filter (λ u. eqb u.client t.client) ts)) (rest e)
    by false same e rest false own = rest e

pub acts_listed : (program : Program) (es : List Entry) (t : ThreadId) → IsJournal program es → IsOpenAfter program es (ActsAt t) → list_any (is_thread t) (threads_of (settings_of program) t.client) ≡ true
acts_listed program es t journal opened = by (body_of t program.code.bodies) refl opened
  where
    by : (body : Option ThreadBody) → body_of t program.code.bodies ≡ body
        → can_act (settings_of program) t.client (next_after (next_request program.code) es) t (next_of program.code (replies_in (events_in t (entries_of (node.Client t.client) es))) (body_of t program.code.bodies)) (entries_of (node.Client t.client) es) ≡ true
        → list_any (is_thread t) (threads_of (settings_of program) t.client) ≡ true
    by None is may = absurd (cc (sym (ap (λ body. can_act (settings_of program) t.client (next_after (next_request program.code) es) t (next_of program.code (replies_in (events_in t (entries_of (node.Client t.client) es))) body) (entries_of (node.Client t.client) es)) is) ∙ may))
    by (Some body) is may = among_own t program.threads
        (sym (list_any-IsPermutation (is_thread t) (machine.threads_of program.code) program.threads journal.sound.threads) ∙ body_there t program.code.bodies body is)

-- ---- an act

-- what the thread's act makes
abbrev pub making : ℕ → Acted → EntryDraft
making index told = record { heard = 0; input = input.Act index; event = event_of told }

module _ (program : Program) (t : ThreadId) (old : ClientNode) (kept : ClientState) (messages : List Up) where
  -- what the client's call tells
  pub record Told (told : Acted) : Type 0 where
    pub acts : Acts program.code t.index old.client kept told messages
    pub runs : RunsCode program.code kept
    pub records : kept.sequences.records ≤ old.client.sequences.records + 1
    pub holds : (most : ℕ) → HoldsAtMost most old.client → HoldsAtMost (suc most) kept

  module _ (es : List Entry) (journal : IsJournal program es) (stands : ClientNodeStands program t.client old es) (opened : IsOpenAfter program es (ActsAt t)) where
    abbrev own : List Entry
    own = entries_of (node.Client t.client) es

    -- what the call says of these entries
    pub has_acted : (told : Acted) → Told told → (clock : ℕ) → HasActed program.code (settings_of program) t.client clock own t.index told messages kept
    has_acted told says clock = says.acts (settings_of program) t.client clock own stands.client
        (sizes_are_kept program.code journal.sound.code (settings_of program) refl es journal.lawful.follow t.client) (acts_listed program es t journal opened)

    -- the client rule has an act of the thread
    pub may_act_now : may_act (settings_of program) t.client (next_in (next_request program.code) own) t own ≡ true
    may_act_now = sym (acts_open (settings_of program) (next_request program.code) t.client es t.index) ∙ opened

    -- so it isn't blocked,
    pub not_blocked : (cause : Cause) → Told (acted.Blocked cause) → ⊥
    not_blocked cause says =
        let blocked = has_acted (acted.Blocked cause) says 0 in
        let closed = ap (λ next. can_act (settings_of program) t.client (next_in (next_request program.code) own) t next own) blocked.next ∙ blocked.waits.closed in
        absurd (cc (sym closed ∙ may_act_now))

    -- nor over
    pub not_over : Told acted.Over → ⊥
    not_over says =
        let over = has_acted acted.Over says 0 in
        let closed = ap (λ next. can_act (settings_of program) t.client (next_in (next_request program.code) own) t next own) over in
        absurd (cc (sym closed ∙ may_act_now))

  -- so it moves
  pub moves : (es : List Entry) → IsJournal program es → ClientNodeStands program t.client old es → IsOpenAfter program es (ActsAt t) → (told : Acted) → Told told → IsMoved told
  moves es journal stands opened (acted.Event event) says = tt
  moves es journal stands opened acted.Asked says = tt
  moves es journal stands opened (acted.Blocked cause) says = not_blocked es journal stands opened cause says
  moves es journal stands opened acted.Over says = not_over es journal stands opened says

  pub acted_steps : (told : Acted) → IsMoved told → Told told
      → Steps program t.client (ActsAt t) (client_entry t.client old.clock (making t.index told) messages) old (after_saying (making t.index told) messages (record old { client = kept }))
  acted_steps (acted.Event event) moved says = λ es journal its stands opened.
      acted_follows program t.client es journal its old stands kept messages t.index (Some event) (ActsAt t) refl (record {
        client = has_acted es journal stands opened (acted.Event event) says (clock_after old.clock 0);
        runs = says.runs;
        records = let a = says.records in let b = stands.records in omega (arith, a, b);
        holds = says.holds (length es) stands.holds;
      })
  acted_steps acted.Asked moved says = λ es journal its stands opened.
      let asked = has_acted es journal stands opened acted.Asked says (clock_after old.clock 0) in
      acted_follows program t.client es journal its old stands kept messages t.index None (ActsAt t) refl (record {
        client = subst (λ sent. ClientStands program.code (settings_of program) t.client kept (client_entry t.client old.clock (making t.index acted.Asked) sent ∷ entries_of (node.Client t.client) es)) (sym asked.alone) asked.stands;
        runs = says.runs;
        records = let a = says.records in let b = stands.records in omega (arith, a, b);
        holds = says.holds (length es) stands.holds;
      })
  acted_steps (acted.Blocked cause) moved says = absurd moved
  acted_steps acted.Over moved says = absurd moved
