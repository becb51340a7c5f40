-- Which slots are open and which clients are busy, by the cells of a host.
use Rattle.std.specs.List.{list_any, flat_map}
use Rattle.std.proofs.Common.{ℕ, ◌≡◌, inl, inr, refl, sym, ◌∙◌, ap, subst, Bool, true, false, cond, eqb, ltb, not, ◌&&◌, ◌||◌, List, [], ◌∷◌, ◌++◌, filter, map, reverse, arith}
use Rattle.std.proofs.lemmas.List.{length-map}
use Rattle.dso_base.specs.declared.both.Both.{Both}
use Rattle.dso_base.specs.declared.both.Both.TheVariants as both
use Rattle.dso_base.specs.declared.journal.Entry.{Entry}
use Rattle.dso_base.specs.declared.journal.Node.TheVariants as node
use Rattle.dso_base.specs.declared.lock.ThreadId.{ThreadId}
use Rattle.dso_base.specs.Following.{is_thread}
use Rattle.dso_class.specs.declared.program.Program.{Program}
use Rattle.dso_lookup.proofs.Tests.{left_holds, right_holds}
use Rattle.dso_plain.proofs.keys.SameKeys.{number_self, thread_self}
use Rattle.dso_law.specs.Channels.{to_client, to_server}
use Rattle.dso_law.specs.Entries.{entries_of}
use Rattle.dso_law.specs.Settings.{Settings, clients_of, threads_of}
use Rattle.dso_legal.specs.Slots.{Slot, Acts, TakesDown, Flushes, TakesUp, Loses, Breaks, client_slots, is_any, is_loss_or_break_due, is_open, open_slots, slots}
use Rattle.dso_machine.specs.Next.{next_request}
use Rattle.dso_world.specs.Busy.{is_busy}
use Rattle.dso_world.specs.ChosenSlot.{is_slot}
use Rattle.dso_world.specs.PastOf.{letters_posted, post_of}
use Rattle.dso_world.specs.Touched.{client_of}
use Rattle.dso_world.specs.WorldSteps.{settings_of}
use Rattle.dso_world.proofs.finished.Busy.{finished_is}
use Rattle.dso_world.proofs.finished.Working.{busy_is}
use Rattle.dso_world.proofs.journals.Letters.{letters_are_left}
use Rattle.dso_world.proofs.places.Clients.{acts_own, in_either, of_a_client}
use Rattle.dso_world.proofs.places.Found.{same_slots}
use Rattle.dso_world.proofs.premises.OwnRun.{acts_open}
use Rattle.dso_world.proofs.premises.Sizes.{sizes_are_kept}
use Rattle.dso_world.proofs.programs.Threads.{any_told, bodies_there, clients_listed}
use Rattle.dso_cell.specs.Pairs.{Pair, TellsBusyAt, TellsSlot, down_sent, down_taken, is_still, up_sent, up_taken}
use Rattle.dso_host.specs.declared.cells.Cells.{Cells}
use Rattle.dso_host.specs.Hosts.{cluster_of}
use Rattle.dso_host.specs.Journals.{IsJournalOf}
use Rattle.dso_host.specs.OpenSlots.{AnyOpenByCells, FinishedByCells, IsTold, OpenByCells, TellsAny}
use Rattle.dso_host.proofs.hosts.Readings.{PairStandsBy, break_is, client_stands, down_sent_is, down_taken_is, hears, is_heard, lawful, loss_is, lost_is, pair_stands, trigger_is, up_sent_is, up_taken_is}

-- ---- a thread whose act is a slot is one of its client's

takes_no_act : (t : ThreadId) (cs : List ℕ) → list_any (is_slot (Acts t)) (map TakesUp cs) ≡ false
takes_no_act t [] = refl
takes_no_act t (c ∷ cs) = takes_no_act t cs

triggers_no_act : (t : ThreadId) (cs : List ℕ) → list_any (is_slot (Acts t)) (flat_map (λ c. Loses c ∷ Breaks c ∷ []) cs) ≡ false
triggers_no_act t [] = refl
triggers_no_act t (c ∷ cs) = triggers_no_act t cs

own_act : (p : Settings) (t : ThreadId) (cs : List ℕ) → list_any (is_slot (Acts t)) (flat_map (client_slots p) cs) ≡ true → list_any (is_thread t) (threads_of p t.client) ≡ true
own_act p t [] is = absurd (cc is)
own_act p t (c ∷ cs) is = elim (in_either (Acts t) (client_slots p c) (flat_map (client_slots p) cs) is) [
  | inl here ↦ elim (in_either (Acts t) (map Acts (threads_of p c)) (TakesDown c ∷ Flushes c ∷ []) here) [
    | inl acts ↦ subst (λ n. list_any (is_thread t) (threads_of p n) ≡ true) (sym (acts_own (Acts t) c p.threads acts)) (sym (any_told Acts (is_slot (Acts t)) (threads_of p c)) ∙ acts)
    | inr others ↦ absurd (cc others)
  ]
  | inr later ↦ own_act p t cs later
]

acts_there : (p : Settings) (t : ThreadId) → list_any (is_slot (Acts t)) (slots p) ≡ true → list_any (is_thread t) (threads_of p t.client) ≡ true
acts_there p t is = elim (in_either (Acts t) (flat_map (client_slots p) (clients_of p) ++ map TakesUp (clients_of p)) (flat_map (λ c. Loses c ∷ Breaks c ∷ []) (clients_of p)) is) [
  | inl first ↦ elim (in_either (Acts t) (flat_map (client_slots p) (clients_of p)) (map TakesUp (clients_of p)) first) [
    | inl own ↦ own_act p t (clients_of p) own
    | inr takes ↦ absurd (cc (sym (takes_no_act t (clients_of p)) ∙ takes))
  ]
  | inr triggers ↦ absurd (cc (sym (triggers_no_act t (clients_of p)) ∙ triggers))
]

-- tests that agree on each of a list
pub any_agree : (f g : ℕ → Bool) (cs : List ℕ) → ((c : ℕ) → list_any (eqb c) cs ≡ true → f c ≡ g c) → list_any f cs ≡ list_any g cs
any_agree f g [] same = refl
any_agree f g (c ∷ cs) same =
    ap (λ b. b || list_any f cs) (same c (left_holds (eqb c c) (list_any (eqb c) cs) (number_self c)))
    ∙ ap (λ b. g c || b) (any_agree f g cs (λ d its. same d (right_holds (eqb d c) (list_any (eqb d) cs) its)))

module _ (program : Program) (cells : Cells) (entries : List Entry) (journal : IsJournalOf program cells entries) where
  abbrev p : Settings
  p = settings_of program

  abbrev es : List Entry
  es = reverse entries

  module _ (c : ℕ) (pair : Pair) (stands : PairStandsBy (cluster_of program cells) cells c pair) where
    -- ---- whether the client is busy
    pub busy_told : (answer : Bool) → TellsBusyAt p pair answer → answer ≡ is_busy p c es
    busy_told answer tells =
        let legal = lawful program cells entries journal in
        let up_all = up_sent_is program cells entries journal c pair stands in
        let up_heard = up_taken_is program cells entries journal c pair stands in
        let down_all = down_sent_is program cells entries journal c pair stands in
        let down_heard = down_taken_is program cells entries journal c pair stands in
        let up_few = ((letters_are_left {M = Both}).up p (next_request program.code) es legal.follow c).few in
        let down_few = ((letters_are_left {M = Both}).down p (next_request program.code) es legal.follow c).few in
        tells.is
        ∙ ap (λ b. b || (not pair.is_lost && (not (is_still pair) || ltb 0 tells.alive))) (trigger_is program cells entries journal c pair stands)
        ∙ ap (λ b. is_loss_or_break_due p c es || (not b && (not (is_still pair) || ltb 0 tells.alive))) (lost_is program cells entries journal c pair stands)
        ∙ sym (busy_is program.code journal.sound.code p refl (bodies_there program.code journal.sound.code program.threads journal.sound.threads) es legal c
        (up_sent pair) (up_taken pair) (down_sent pair) (down_taken pair) tells.alive
        up_all up_heard (omega (arith, up_few, length-map (letters_posted (to_server c) es) (post_of both.Up)))
        down_all down_heard (omega (arith, down_few, length-map (letters_posted (to_client c) es) (post_of both.Down)))
        (tells.threads program.code p c (entries_of (node.Client c) es) (client_stands program cells entries journal c pair stands)))

    -- ---- whether a slot of the client is open
    flush_told : (answer : Bool) → TellsSlot p pair (Flushes c) answer → answer ≡ is_open p (next_request program.code) es (Flushes c)
    flush_told answer tells = tells program.code p c (entries_of (node.Client c) es) (client_stands program cells entries journal c pair stands)

  -- an act is open where its client's core tells so
  act_told : (t : ThreadId) (pair : Pair) → PairStandsBy (cluster_of program cells) cells t.client pair → list_any (is_slot (Acts t)) (slots p) ≡ true
      → (answer : Bool) → TellsSlot p pair (Acts t) answer → answer ≡ is_open p (next_request program.code) es (Acts t)
  act_told t pair stands there answer tells =
      tells program.code p t.client (entries_of (node.Client t.client) es) (client_stands program cells entries journal t.client pair stands)
      (sizes_are_kept program.code journal.sound.code p refl es (lawful program cells entries journal).follow t.client)
      (acts_there p t there)
      ∙ sym (acts_open p (next_request program.code) t.client es t.index)

  -- so each slot
  slot_told : (slot : Slot) → list_any (is_slot slot) (slots p) ≡ true → (pair : Pair) → PairStandsBy (cluster_of program cells) cells (client_of slot) pair
      → (answer : Bool) → TellsSlot p pair slot answer → answer ≡ is_open p (next_request program.code) es slot
  slot_told (Acts t) there pair stands answer tells = act_told t pair stands there answer tells
  slot_told (TakesDown c) there pair stands answer tells = tells ∙ hears program cells entries journal c pair stands
  slot_told (Flushes c) there pair stands answer tells = flush_told c pair stands answer tells
  slot_told (TakesUp c) there pair stands answer tells = tells ∙ is_heard program cells entries journal c pair stands
  slot_told (Loses c) there pair stands answer tells = tells ∙ loss_is program cells entries journal c pair stands
  slot_told (Breaks c) there pair stands answer tells = tells ∙ break_is program cells entries journal c pair stands

pub open_by_cells : OpenByCells
open_by_cells program cells entries journal slot there pair is answer tells =
    slot_told program cells entries journal slot there pair
    (pair_stands program cells entries journal (client_of slot) pair (of_a_client slot (settings_of program) there) is) answer tells

-- ---- any slot

slot_self : (slot : Slot) → is_slot slot slot ≡ true
slot_self (Acts t) = thread_self t
slot_self (TakesDown c) = number_self c
slot_self (Flushes c) = number_self c
slot_self (TakesUp c) = number_self c
slot_self (Loses c) = number_self c
slot_self (Breaks c) = number_self c

module _ (passes : Slot → Bool) where
  -- some pass where one of them passes
  some_pass : (slot : Slot) (xs : List Slot) → list_any (is_slot slot) xs ≡ true → passes slot ≡ true → is_any (filter passes xs) ≡ true
  some_pass slot [] there is = absurd (cc there)
  some_pass slot (x ∷ xs) there is = by (is_slot slot x) refl there (passes x) refl (λ later. some_pass slot xs later is)
    where
      by : (here : Bool) → is_slot slot x ≡ here → (here || list_any (is_slot slot) xs) ≡ true → (its : Bool) → passes x ≡ its
          → (list_any (is_slot slot) xs ≡ true → is_any (filter passes xs) ≡ true) → is_any (cond its (x ∷ filter passes xs) (filter passes xs)) ≡ true
      by here same found true is_so later = refl
      by true same found false fails later = absurd (cc (sym fails ∙ ap passes (same_slots slot x same) ∙ is))
      by false other found false fails later = later found

  -- none pass where none of them passes
  none_pass : (xs : List Slot) → ((slot : Slot) → list_any (is_slot slot) xs ≡ true → passes slot ≡ false) → is_any (filter passes xs) ≡ false
  none_pass [] none = refl
  none_pass (x ∷ xs) none =
      ap (λ b. is_any (cond b (x ∷ filter passes xs) (filter passes xs))) (none x (left_holds (is_slot x x) (list_any (is_slot x) xs) (slot_self x)))
      ∙ none_pass xs (λ slot its. none slot (right_holds (is_slot slot x) (list_any (is_slot slot) xs) its))

pub any_open_by_cells : AnyOpenByCells
any_open_by_cells program cells entries journal = by
  where
    told : (slot : Slot) → list_any (is_slot slot) (slots (settings_of program)) ≡ true → (answer : Bool) → IsTold program cells slot answer
        → answer ≡ is_open (settings_of program) (next_request program.code) (reverse entries) slot
    told slot there answer is = open_by_cells program cells entries journal slot there is.pair is.its answer is.told

    by : (answer : Bool) → TellsAny program cells answer → answer ≡ is_any (open_slots (settings_of program) (next_request program.code) (reverse entries))
    by true tells = sym (some_pass (is_open (settings_of program) (next_request program.code) (reverse entries)) tells.0 (slots (settings_of program)) tells.1 (sym (told tells.0 tells.1 true tells.2)))
    by false tells = sym (none_pass (is_open (settings_of program) (next_request program.code) (reverse entries)) (slots (settings_of program)) (λ slot there. sym (told slot there false (tells slot there))))

-- ---- finished

pub finished_by_cells : FinishedByCells
finished_by_cells program cells entries journal busy tells =
    let p = settings_of program in
    let es = reverse entries in
    finished_is p es (clients_listed program.code journal.sound.code program.threads journal.sound.threads program.clients journal.sound.clients_there)
    ∙ ap not (sym (any_agree busy (λ c. is_busy p c es) (clients_of p) (λ c its. one c its)))
  where
    one : (c : ℕ) → list_any (eqb c) (clients_of (settings_of program)) ≡ true → busy c ≡ is_busy (settings_of program) c (reverse entries)
    one c its =
        let is = tells c its in
        busy_told program cells entries journal c is.pair (pair_stands program cells entries journal c is.pair its is.its) (busy c) is.told
