-- What cells tell of the journal of a host, client by client.
use Rattle.std.specs.List.{list_any}
use Rattle.std.proofs.Common.{ℕ, suc, ◌+◌, ◌-◌, ◌<◌, ◌≤◌, ◌≡◌, inl, inr, refl, sym, ◌∙◌, ap, subst, Bool, true, false, eqb, ltb, not, ◌||◌, Option, Some, None, List, [], ◌∷◌, length, reverse, slice_index_or, arith}
use Rattle.std.specs.Prelude.{IfNone, IfSome}
use Rattle.std.proofs.lemmas.Bool.{eq-eqb}
use Rattle.std.proofs.lemmas.List.Folds.{list_any-append}
use Rattle.dso_base.specs.declared.journal.Entry.{Entry}
use Rattle.dso_class.specs.declared.program.Program.{Program}
use Rattle.dso_law.specs.Settings.{Settings, clients_of, up_to}
use Rattle.dso_legal.specs.Slots.{is_finished}
use Rattle.dso_server.specs.Triggers.{AreTriggersOf}
use Rattle.dso_world.specs.Busy.{is_busy}
use Rattle.dso_world.specs.WorldSteps.{settings_of}
use Rattle.dso_world.proofs.finished.Busy.{finished_is}
use Rattle.dso_world.proofs.places.Clients.{numbered_so}
use Rattle.dso_world.proofs.programs.Threads.{clients_listed, listed}
use Rattle.dso_world.proofs.worlds.Looks.{lent, unlent}
use Rattle.dso_cell.specs.declared.client_cell.ClientCell.{ClientCell}
use Rattle.dso_cell.specs.Pairs.{HasNoEnd, HasTriggers, IsPairAt, Pair, TellsBusyAt}
use Rattle.dso_host.specs.declared.cells.Cells.{Cells}
use Rattle.dso_host.specs.Journals.{IsJournalOf}
use Rattle.dso_host.specs.OpenSlots.{HasNoPair, IsPairOf, TellsBusyOf}
use Rattle.dso_host.proofs.hosts.Readings.{pair_stands}
use Rattle.dso_host.proofs.hosts.Slots.{busy_told}

-- ---- the pair of a client

-- the cell at its place makes what the server knows of the client its pair
pub pair_of : (cells : Cells) (c : ℕ) (cell : ClientCell) (lender : List ClientCell) → 1 ≤ c → lender ≡ cells.clients.items → true ≡ ltb (c - 1) (length lender) → cell ≡ slice_index_or lender (c - 1) cell
    → (known : Option Pair) → IfSome known (IsPairAt cells.server c cell) → IfSome known (IsPairOf cells c)
pair_of cells c cell lender from same within at None is = is
pair_of cells c cell lender from same within at (Some pair) is = record {
  from_one = from;
  its = is.its;
  cell = lent cells.clients.items lender (c - 1) cell same within at ∙ ap (λ (one : ClientCell). Some one) (sym is.cell);
  end = is.end;
  lost = is.lost;
}

-- there is none without an end, and none without a cell
pub no_end : (cells : Cells) (c : ℕ) (known : Option Pair) → IfNone known (HasNoEnd cells.server c) → IfNone known (HasNoPair cells c)
no_end cells c None few = inr few
no_end cells c (Some pair) few = few

pub no_cell : (cells : Cells) (c : ℕ) (lender : List ClientCell) → lender ≡ cells.clients.items → false ≡ ltb (c - 1) (length lender) → HasNoPair cells c
no_cell cells c lender same past = inl (unlent cells.clients.items lender (c - 1) same past)

-- ---- busy clients

-- the triggers at the server's end are the client's
pub has_triggers : (program : Program) (cells : Cells) (entries : List Entry) (journal : IsJournalOf program cells entries) (c : ℕ) (pair : Pair) → list_any (eqb c) (clients_of (settings_of program)) ≡ true → IsPairOf cells c pair
    → HasTriggers (settings_of program) pair
has_triggers program cells entries journal c pair its is =
    let stands = pair_stands program cells entries journal c pair its is in
    subst (λ n. AreTriggersOf n program.losses program.breaks pair.end.triggers) (sym is.its) stands.end.triggers

-- The pair of a client tells whether it is busy,
pub pair_busy : (cells : Cells) (c : ℕ) (pair : Pair) (answer : Bool) → IsPairOf cells c pair → ((p : Settings) → HasTriggers p pair → TellsBusyAt p pair answer) → TellsBusyOf cells c answer
pair_busy cells c pair answer is tells program entries journal its =
    busy_told program cells entries journal c pair
    (pair_stands program cells entries journal c pair its is) answer
    (tells (settings_of program) (has_triggers program cells entries journal c pair its is))

-- and each client has one.
pub none_lacks : (program : Program) (cells : Cells) (entries : List Entry) (journal : IsJournalOf program cells entries) (c : ℕ) → list_any (eqb c) (clients_of (settings_of program)) ≡ true → HasNoPair cells c → ⊥
none_lacks program cells entries journal c its (inl few) =
    let range = numbered_so c program.clients its in
    let from : 1 ≤ c = range.0 in
    let to : c ≤ program.clients = range.1 in
    let all : length cells.clients.items ≡ program.clients = journal.host.stand.all in
    omega (arith, from, to, all, few)
none_lacks program cells entries journal c its (inr few) =
    let range = numbered_so c program.clients its in
    let from : 1 ≤ c = range.0 in
    let to : c ≤ program.clients = range.1 in
    let all : length cells.server.ends.items ≡ program.clients = journal.host.stand.server.parts.all in
    omega (arith, from, to, all, few)

pub none_busy : (cells : Cells) (c : ℕ) (answer : Bool) → HasNoPair cells c → TellsBusyOf cells c answer
none_busy cells c answer none program entries journal its = absurd (none_lacks program cells entries journal c its none)

-- ---- finished, where the clients are looked at one by one

pub next_place : (place : ℕ) → place + 1 ≡ suc place
next_place place = omega arith

module _ (program : Program) (cells : Cells) (entries : List Entry) (journal : IsJournalOf program cells entries) where
  abbrev busy : ℕ → Bool
  busy c = is_busy (settings_of program) c (reverse entries)

  finished_by : is_finished (settings_of program) (reverse entries) ≡ not (list_any busy (up_to program.clients))
  finished_by = finished_is (settings_of program) (reverse entries)
      (clients_listed program.code journal.sound.code program.threads journal.sound.threads program.clients journal.sound.clients_there)

  -- what is told of the client behind a place
  told_behind : (place : ℕ) (answer : Bool) → place < program.clients → TellsBusyOf cells (place + 1) answer → answer ≡ busy (suc place)
  told_behind place answer within tells =
      subst (λ n. TellsBusyOf cells n answer) (next_place place) tells program entries journal
      (listed (eqb (suc place)) (suc place) program.clients (eq-eqb (suc place) (suc place) refl) (omega arith) (omega (arith, within)))

  -- finished where none is busy,
  pub finished_told : (place : ℕ) → program.clients ≡ place → list_any busy (up_to place) ≡ false → true ≡ is_finished (settings_of program) (reverse entries)
  finished_told place all none = sym (finished_by ∙ ap (λ n. not (list_any busy (up_to n))) all ∙ ap not none)

  -- not where one is
  pub going_told : (place : ℕ) (answer : Bool) → place < program.clients → TellsBusyOf cells (place + 1) answer → answer ≡ true → false ≡ is_finished (settings_of program) (reverse entries)
  going_told place answer within tells is =
      sym (finished_by ∙ ap not (listed busy (suc place) program.clients (sym (told_behind place answer within tells) ∙ is) (omega arith) (omega (arith, within))))

  pub one_further : (place : ℕ) (answer : Bool) → place < program.clients → TellsBusyOf cells (place + 1) answer → answer ≡ false → list_any busy (up_to place) ≡ false → list_any busy (up_to (place + 1)) ≡ false
  one_further place answer within tells is none =
      let last : busy (suc place) ≡ false = sym (told_behind place answer within tells) ∙ is in
      let next : suc place ≡ place + 1 = sym (next_place place) in
      subst (λ n. list_any busy (up_to n) ≡ false) next
      (list_any-append busy (up_to place) (suc place ∷ []) ∙ ap (λ b. b || (busy (suc place) || false)) none ∙ ap (λ b. b || false) last)
