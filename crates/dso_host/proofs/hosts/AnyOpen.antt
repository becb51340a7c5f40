-- Whether any slot is open, by the cells of a host: thread by thread, and client by client.
use Rattle.std.specs.List.{list_any, flat_map, AllByRecursion}
use Rattle.std.proofs.Common.{ℕ, suc, ◌+◌, ◌<◌, ◌≤◌, ◌≡◌, refl, sym, ◌∙◌, ap, subst, Bool, true, false, cond, eqb, not, ◌&&◌, ◌||◌, List, [], ◌∷◌, ◌++◌, filter, get_or, length, map, reverse, take, arith}
use Rattle.std.proofs.lemmas.Bool.{eq-eqb}
use Rattle.std.proofs.lemmas.List.{take_all}
use Rattle.std.proofs.lemmas.List.Folds.{list_any-append, list_any_at, list_any_more}
use Rattle.dso_base.specs.declared.journal.Entry.{Entry}
use Rattle.dso_base.specs.declared.journal.Node.TheVariants as node
use Rattle.dso_base.specs.declared.lock.ThreadId.{ThreadId}
use Rattle.dso_base.specs.Following.{is_thread}
use Rattle.dso_class.specs.declared.program.Program.{Program}
use Rattle.dso_client.specs.Threads.{IsEnabled}
use Rattle.dso_law.specs.ClientStep.{may_flush}
use Rattle.dso_law.specs.Entries.{entries_of}
use Rattle.dso_law.specs.ServerReadings.{is_loss_due}
use Rattle.dso_law.specs.Settings.{Settings, clients_of, threads_of, up_to}
use Rattle.dso_legal.specs.Slots.{Slot, Acts, TakesDown, Flushes, TakesUp, Loses, Breaks, can_take_down, can_take_up, client_slots, is_any, open_slots, slots}
use Rattle.dso_lookup.proofs.Tests.{left_holds}
use Rattle.dso_machine.specs.Next.{next_request}
use Rattle.dso_plain.proofs.keys.SameKeys.{same_thread, thread_self}
use Rattle.dso_world.specs.WorldSteps.{settings_of}
use Rattle.dso_world.proofs.places.Clients.{numbered_so}
use Rattle.dso_world.proofs.premises.OwnRun.{acts_open}
use Rattle.dso_world.proofs.premises.Sizes.{sizes_are_kept}
use Rattle.dso_world.proofs.programs.Threads.{any_told, clients_listed, listed}
use Rattle.dso_cell.specs.Pairs.{HasTriggers, Pair, can_be_heard, can_hear, is_break_due_at, is_loss_due_at}
use Rattle.dso_host.specs.declared.cells.Cells.{Cells}
use Rattle.dso_host.specs.Hosts.{cluster_of}
use Rattle.dso_host.specs.Journals.{IsJournalOf}
use Rattle.dso_host.specs.OpenSlots.{HasNoPair, IsPairOf, TellsActOf, TellsAnyAct, TellsAnyStep, TellsOpen, TellsStepAt, TellsStepOf, is_open_in, step_slots}
use Rattle.dso_host.proofs.hosts.Readings.{PairStandsBy, break_is, client_stands, hears, is_heard, lawful, loss_is, pair_stands}
use Rattle.dso_host.proofs.hosts.Told.{has_triggers, none_lacks, next_place}

-- ---- lists of which one passes

any_same : {X : Type 0} (f g : X → Bool) → ((x : X) → f x ≡ g x) → (xs : List X) → list_any f xs ≡ list_any g xs
any_same f g same xs = ap (λ test. list_any test xs) (λ i x. same x i)

four : (a b c d : Bool) → ((a || b) || (c || d)) ≡ ((a || c) || (b || d))
four true b c d = refl
four false true true d = refl
four false true false d = refl
four false false c d = refl

any_either : {X : Type 0} (f g : X → Bool) (xs : List X) → list_any (λ x. f x || g x) xs ≡ (list_any f xs || list_any g xs)
any_either f g [] = refl
any_either f g (x ∷ xs) = ap (λ b. (f x || g x) || b) (any_either f g xs) ∙ four (f x) (g x) (list_any f xs) (list_any g xs)

any_flat : {X Y : Type 0} (test : Y → Bool) (f : X → List Y) (xs : List X) → list_any test (flat_map f xs) ≡ list_any (λ x. list_any test (f x)) xs
any_flat test f [] = refl
any_flat test f (x ∷ xs) = list_any-append test (f x) (flat_map f xs) ∙ ap (λ b. list_any test (f x) || b) (any_flat test f xs)

any_filtered : {X : Type 0} (own on : X → Bool) (xs : List X) → list_any on (filter own xs) ≡ list_any (λ x. own x && on x) xs
any_filtered own on [] = refl
any_filtered own on (x ∷ xs) = by (own x) (any_filtered own on xs)
  where
    by : (its : Bool) → list_any on (filter own xs) ≡ list_any (λ x. own x && on x) xs → list_any on (cond its (x ∷ filter own xs) (filter own xs)) ≡ ((its && on x) || list_any (λ x. own x && on x) xs)
    by true later = ap (λ b. on x || b) later
    by false later = later

some_passes : {X : Type 0} (test : X → Bool) (xs : List X) → is_any (filter test xs) ≡ list_any test xs
some_passes test [] = refl
some_passes test (x ∷ xs) = by (test x) (some_passes test xs)
  where
    by : (passes : Bool) → is_any (filter test xs) ≡ list_any test xs → is_any (cond passes (x ∷ filter test xs) (filter test xs)) ≡ (passes || list_any test xs)
    by true later = refl
    by false later = later

none_of : {X : Type 0} (xs : List X) → list_any (λ x. false) xs ≡ false
none_of [] = refl
none_of (x ∷ xs) = none_of xs

-- ---- threads, by their clients

parted : (a b on : Bool) → ((a || b) && on) ≡ ((a && on) || (b && on))
parted true b true = refl
parted true true false = refl
parted true false false = refl
parted false b on = refl

by_clients : (on : ThreadId → Bool) (threads : List ThreadId) (cs : List ℕ) → list_any (λ t. list_any (eqb t.client) cs && on t) threads ≡ list_any (λ c. list_any on (filter (λ t. eqb t.client c) threads)) cs
by_clients on threads [] = none_of threads
by_clients on threads (c ∷ cs) =
    any_same (λ t. (eqb t.client c || list_any (eqb t.client) cs) && on t) (λ t. (eqb t.client c && on t) || (list_any (eqb t.client) cs && on t)) (λ t. parted (eqb t.client c) (list_any (eqb t.client) cs) (on t)) threads
    ∙ any_either (λ t. eqb t.client c && on t) (λ t. list_any (eqb t.client) cs && on t) threads
    ∙ ap (λ b. b || list_any (λ t. list_any (eqb t.client) cs && on t) threads) (sym (any_filtered (λ t. eqb t.client c) on threads))
    ∙ ap (λ b. list_any on (filter (λ t. eqb t.client c) threads) || b) (by_clients on threads cs)

each_listed : (on : ThreadId → Bool) (cs : List ℕ) (threads : List ThreadId) → AllByRecursion (λ t. list_any (eqb t.client) cs ≡ true) threads → list_any on threads ≡ list_any (λ t. list_any (eqb t.client) cs && on t) threads
each_listed on cs [] there = refl
each_listed on cs (t ∷ threads) there =
    ap (λ b. (b && on t) || list_any on threads) (sym there.0)
    ∙ ap (λ b. (list_any (eqb t.client) cs && on t) || b) (each_listed on cs threads there.1)

-- ---- the slots of a cluster

three : (acts own takes triggers : Bool) → (((acts || own) || takes) || triggers) ≡ (acts || ((own || takes) || triggers))
three true own takes triggers = refl
three false own takes triggers = refl

of_five : (first second third rest : Bool) → (((first || (second || false)) || third) || rest) ≡ (first || (second || (third || rest)))
of_five true second third rest = refl
of_five false true third rest = refl
of_five false false third rest = refl

module _ (p : Settings) (test : Slot → Bool) where
  abbrev acts : ℕ → Bool
  acts c = list_any (λ t. test (Acts t)) (threads_of p c)

  abbrev own : ℕ → Bool
  own c = test (TakesDown c) || (test (Flushes c) || false)

  abbrev triggers : ℕ → Bool
  triggers c = test (Loses c) || (test (Breaks c) || false)

  client_passes : (c : ℕ) → list_any test (client_slots p c) ≡ (acts c || own c)
  client_passes c = list_any-append test (map Acts (threads_of p c)) (TakesDown c ∷ Flushes c ∷ []) ∙ ap (λ b. b || own c) (any_told Acts test (threads_of p c))

  -- those of each client
  own_pass : (cs : List ℕ) → list_any test (flat_map (client_slots p) cs) ≡ (list_any acts cs || list_any own cs)
  own_pass cs = any_flat test (client_slots p) cs ∙ any_same (λ c. list_any test (client_slots p c)) (λ c. acts c || own c) client_passes cs ∙ any_either acts own cs

  -- those that are no acts
  steps_pass : (cs : List ℕ) → ((list_any own cs || list_any (λ c. test (TakesUp c)) cs) || list_any triggers cs) ≡ list_any (λ c. list_any test (step_slots c)) cs
  steps_pass cs =
      ap (λ b. b || list_any triggers cs) (sym (any_either own (λ c. test (TakesUp c)) cs))
      ∙ sym (any_either (λ c. own c || test (TakesUp c)) triggers cs)
      ∙ any_same (λ c. (own c || test (TakesUp c)) || triggers c) (λ c. list_any test (step_slots c)) (λ c. of_five (test (TakesDown c)) (test (Flushes c)) (test (TakesUp c)) (triggers c)) cs

  -- A slot of the cluster passes where the act of a thread does, or another slot of a client.
  slots_pass : AllByRecursion (λ t. list_any (eqb t.client) (clients_of p) ≡ true) p.threads
      → list_any test (slots p) ≡ (list_any (λ t. test (Acts t)) p.threads || list_any (λ c. list_any test (step_slots c)) (clients_of p))
  slots_pass there =
      let cs = clients_of p in
      let takes = list_any (λ c. test (TakesUp c)) cs in
      list_any-append test (flat_map (client_slots p) cs ++ map TakesUp cs) (flat_map (λ c. Loses c ∷ Breaks c ∷ []) cs)
      ∙ ap (λ b. b || list_any test (flat_map (λ c. Loses c ∷ Breaks c ∷ []) cs)) (list_any-append test (flat_map (client_slots p) cs) (map TakesUp cs))
      ∙ ap (λ b. (list_any test (flat_map (client_slots p) cs) || list_any test (map TakesUp cs)) || b) (any_flat test (λ c. Loses c ∷ Breaks c ∷ []) cs)
      ∙ ap (λ b. (list_any test (flat_map (client_slots p) cs) || b) || list_any triggers cs) (any_told TakesUp test cs)
      ∙ ap (λ b. (b || takes) || list_any triggers cs) (own_pass cs)
      ∙ three (list_any acts cs) (list_any own cs) takes (list_any triggers cs)
      ∙ ap (λ b. list_any acts cs || b) (steps_pass cs)
      ∙ ap (λ b. b || list_any (λ c. list_any test (step_slots c)) cs) (sym (each_listed (λ t. test (Acts t)) cs p.threads there ∙ by_clients (λ t. test (Acts t)) p.threads cs))

-- ---- a thread of the cluster

twice : (a b : Bool) → (a && (a && b)) ≡ (a && b)
twice true b = refl
twice false b = refl

-- is one of its client's,
own_thread : (t : ThreadId) (threads : List ThreadId) → list_any (is_thread t) threads ≡ true → list_any (is_thread t) (filter (λ u. eqb u.client t.client) threads) ≡ true
own_thread t threads is =
    any_filtered (λ u. eqb u.client t.client) (is_thread t) threads
    ∙ any_same (λ u. eqb u.client t.client && is_thread t u) (is_thread t) (λ u. twice (eqb u.client t.client) (eqb u.index t.index)) threads ∙ is

-- of which the cluster has one.
its_client : (cs : List ℕ) (t : ThreadId) (threads : List ThreadId) → AllByRecursion (λ u. list_any (eqb u.client) cs ≡ true) threads → list_any (is_thread t) threads ≡ true → list_any (eqb t.client) cs ≡ true
its_client cs t [] all is = absurd (cc is)
its_client cs t (u ∷ threads) all is = by (is_thread t u) refl is (its_client cs t threads all.1)
  where
    by : (here : Bool) → is_thread t u ≡ here → (here || list_any (is_thread t) threads) ≡ true → (list_any (is_thread t) threads ≡ true → list_any (eqb t.client) cs ≡ true) → list_any (eqb t.client) cs ≡ true
    by true same found later = subst (λ (one : ThreadId). list_any (eqb one.client) cs ≡ true) (same_thread t u same) all.0
    by false other found later = later found

-- ---- what a pair tells of its client's steps

shared_out : (loss broke heard hears flush : Bool) → ((loss || broke) || (heard || (hears || flush))) ≡ (hears || (flush || ((not (loss || broke) && heard) || (loss || (broke || false)))))
shared_out true broke heard true flush = refl
shared_out true broke heard false true = refl
shared_out true broke heard false false = refl
shared_out false true heard true flush = refl
shared_out false true heard false true = refl
shared_out false true heard false false = refl
shared_out false false true true flush = refl
shared_out false false true false true = refl
shared_out false false true false false = refl
shared_out false false false true flush = refl
shared_out false false false false true = refl
shared_out false false false false false = refl

module _ (program : Program) (cells : Cells) (entries : List Entry) (journal : IsJournalOf program cells entries) where
  abbrev p : Settings
  p = settings_of program

  abbrev es : List Entry
  es = reverse entries

  all_listed : AllByRecursion (λ t. list_any (eqb t.client) (clients_of p) ≡ true) program.threads
  all_listed = clients_listed program.code journal.sound.code program.threads journal.sound.threads program.clients journal.sound.clients_there

  client_there : (t : ThreadId) → list_any (is_thread t) program.threads ≡ true → list_any (eqb t.client) (clients_of p) ≡ true
  client_there t there = its_client (clients_of p) t program.threads all_listed there

  -- whether another slot of the client is open than its threads' acts
  abbrev has_step : ℕ → Bool
  has_step c = list_any (is_open_in program entries) (step_slots c)

  -- Any slot is open where an act is, or another slot of a client.
  any_is : is_any (open_slots p (next_request program.code) es) ≡ (list_any (λ t. is_open_in program entries (Acts t)) program.threads || list_any has_step (clients_of p))
  any_is = some_passes (is_open_in program entries) (slots p) ∙ slots_pass p (is_open_in program entries) all_listed

  act_is : (t : ThreadId) (pair : Pair) → IsPairOf cells t.client pair → list_any (is_thread t) program.threads ≡ true → (answer : Bool) → IsEnabled pair.cell.core t.index answer
      → answer ≡ is_open_in program entries (Acts t)
  act_is t pair is there answer tells =
      tells program.code p t.client (entries_of (node.Client t.client) es)
      (client_stands program cells entries journal t.client pair (pair_stands program cells entries journal t.client pair (client_there t there) is))
      (sizes_are_kept program.code journal.sound.code p refl es (lawful program cells entries journal).follow t.client)
      (own_thread t program.threads there)
      ∙ sym (acts_open p (next_request program.code) t.client es t.index)

  step_is : (c : ℕ) (pair : Pair) → PairStandsBy (cluster_of program cells) cells c pair → HasTriggers p pair → (answer : Bool) → TellsStepAt pair answer → answer ≡ has_step c
  step_is c pair stands triggers answer tells =
      let loss = is_loss_due_at p pair in
      let broke = is_break_due_at p pair in
      let flush = may_flush p c (entries_of (node.Client c) es) in
      tells program.code p c (entries_of (node.Client c) es) (client_stands program cells entries journal c pair stands) triggers
      ∙ shared_out loss broke (can_be_heard pair) (can_hear pair) flush
      ∙ ap (λ b. b || (flush || ((not (loss || broke) && can_be_heard pair) || (loss || (broke || false))))) (hears program cells entries journal c pair stands)
      ∙ ap (λ b. can_take_down p c es || (flush || (b || (loss || (broke || false))))) (is_heard program cells entries journal c pair stands)
      ∙ ap (λ b. can_take_down p c es || (flush || (can_take_up p c es || (b || (broke || false))))) (loss_is program cells entries journal c pair stands)
      ∙ ap (λ b. can_take_down p c es || (flush || (can_take_up p c es || (is_loss_due p c (entries_of node.Server es) || (b || false))))) (break_is program cells entries journal c pair stands)

  -- ---- threads that are looked at one by one

  abbrev has_act : ThreadId → Bool
  has_act t = is_open_in program entries (Acts t)

  module _ (lender : List ThreadId) (same : lender ≡ program.threads) (at : ℕ) where
    -- none can act where none could,
    pub no_act_left : length lender ≤ at → list_any has_act (take at program.threads) ≡ false → false ≡ list_any has_act program.threads
    no_act_left past none = sym (ap (list_any has_act) (sym (take_all at program.threads (subst (λ threads. length threads ≤ at) same past))) ∙ none)

    module _ (within : at < length lender) (t : ThreadId) (answer : Bool) (tells : TellsActOf cells (get_or lender at t) answer) where
      act_at : answer ≡ has_act (get_or lender at t)
      act_at = tells program entries journal
          (ap (list_any (is_thread (get_or lender at t))) (sym same) ∙ list_any_at (is_thread (get_or lender at t)) lender at t within (thread_self (get_or lender at t)))

      -- some can where one can
      pub some_act : answer ≡ true → true ≡ list_any has_act program.threads
      some_act is = sym (ap (list_any has_act) (sym same) ∙ list_any_at has_act lender at t within (sym act_at ∙ is))

      pub one_act_further : answer ≡ false → list_any has_act (take at program.threads) ≡ false → list_any has_act (take (at + 1) program.threads) ≡ false
      one_act_further is none =
          ap (λ threads. list_any has_act (take (at + 1) threads)) (sym same)
          ∙ list_any_more has_act lender at t within
          ∙ ap (λ b. b || has_act (get_or lender at t)) (ap (λ threads. list_any has_act (take at threads)) same ∙ none)
          ∙ (sym act_at ∙ is)

  -- ---- clients that are looked at one by one

  step_behind : (place : ℕ) (answer : Bool) → place < program.clients → TellsStepOf cells (place + 1) answer → answer ≡ has_step (suc place)
  step_behind place answer within tells =
      subst (λ n. TellsStepOf cells n answer) (next_place place) tells program entries journal
      (listed (eqb (suc place)) (suc place) program.clients (eq-eqb (suc place) (suc place) refl) (omega arith) (omega (arith, within)))

  -- none has such a slot where none had,
  pub no_step : (place : ℕ) → program.clients ≡ place → list_any has_step (up_to place) ≡ false → false ≡ list_any has_step (clients_of p)
  no_step place all none = sym (ap (λ n. list_any has_step (up_to n)) all ∙ none)

  -- some has where one has
  pub some_step : (place : ℕ) (answer : Bool) → place < program.clients → TellsStepOf cells (place + 1) answer → answer ≡ true → true ≡ list_any has_step (clients_of p)
  some_step place answer within tells is =
      sym (listed has_step (suc place) program.clients (sym (step_behind place answer within tells) ∙ is) (omega arith) (omega (arith, within)))

  pub one_step_further : (place : ℕ) (answer : Bool) → place < program.clients → TellsStepOf cells (place + 1) answer → answer ≡ false → list_any has_step (up_to place) ≡ false
      → list_any has_step (up_to (place + 1)) ≡ false
  one_step_further place answer within tells is none =
      let last : has_step (suc place) ≡ false = sym (step_behind place answer within tells) ∙ is in
      let next : suc place ≡ place + 1 = sym (next_place place) in
      subst (λ n. list_any has_step (up_to n) ≡ false) next
      (list_any-append has_step (up_to place) (suc place ∷ []) ∙ ap (λ b. b || (has_step (suc place) || false)) none ∙ ap (λ b. b || false) last)

-- ---- what is told

pub act_told : (cells : Cells) (t : ThreadId) (pair : Pair) (answer : Bool) → IsPairOf cells t.client pair → IsEnabled pair.cell.core t.index answer → TellsActOf cells t answer
act_told cells t pair answer is tells program entries journal there = act_is program cells entries journal t pair is there answer tells

pub no_act : (cells : Cells) (t : ThreadId) (answer : Bool) → HasNoPair cells t.client → TellsActOf cells t answer
no_act cells t answer none program entries journal there = absurd (none_lacks program cells entries journal t.client (client_there program cells entries journal t there) none)

pub no_client : (cells : Cells) (t : ThreadId) (answer : Bool) → t.client ≡ 0 → TellsActOf cells t answer
no_client cells t answer none program entries journal there =
    let from = (numbered_so t.client program.clients (client_there program cells entries journal t there)).0 in
    absurd (omega (arith, from, none))

pub step_told : (cells : Cells) (c : ℕ) (pair : Pair) (answer : Bool) → IsPairOf cells c pair → TellsStepAt pair answer → TellsStepOf cells c answer
step_told cells c pair answer is tells program entries journal its =
    step_is program cells entries journal c pair (pair_stands program cells entries journal c pair its is) (has_triggers program cells entries journal c pair its is) answer tells

pub no_step_of : (cells : Cells) (c : ℕ) (answer : Bool) → HasNoPair cells c → TellsStepOf cells c answer
no_step_of cells c answer none program entries journal its = absurd (none_lacks program cells entries journal c its none)

-- any slot is open where an act is,
pub open_by_act : (program : Program) (cells : Cells) (act : Bool) → TellsAnyAct program cells act → act ≡ true → TellsOpen program cells act
open_by_act program cells act acts is entries journal =
    let each = list_any (λ t. is_open_in program entries (Acts t)) program.threads in
    let steps = list_any (λ c. list_any (is_open_in program entries) (step_slots c)) (clients_of (settings_of program)) in
    is ∙ sym (left_holds each steps (sym (acts entries journal) ∙ is)) ∙ sym (any_is program cells entries journal)

-- and where none is, where another slot of a client is
pub open_by_step : (program : Program) (cells : Cells) (act step : Bool) → TellsAnyAct program cells act → act ≡ false → TellsAnyStep program cells step → TellsOpen program cells step
open_by_step program cells act step acts none steps entries journal =
    steps entries journal
    ∙ ap (λ b. b || list_any (λ c. list_any (is_open_in program entries) (step_slots c)) (clients_of (settings_of program))) (sym (sym (acts entries journal) ∙ none))
    ∙ sym (any_is program cells entries journal)
