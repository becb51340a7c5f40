-- The server's graph as functions: what comes of a message of a client and of a loss, in the words of the server rule.
use Rattle.std.specs.Ordering.{nat_cmp}
use Rattle.std.specs.Prelude.{ℕ, ◌≡◌, Bool, true, cond, eqb, is_some, Option, List, [], filter, flat_map}
use Rattle.std.specs.Option.{unwrap_or}
use Rattle.std.specs.List.{list_any}
use Rattle.std.specs.BTreeMap.{BTreeMap}
use Rattle.dso_base.specs.declared.journal.Sent.{Sent}
use Rattle.dso_base.specs.declared.record.Body.{Body}
use Rattle.dso_base.specs.declared.record.Set.{Set}
use Rattle.dso_base.specs.declared.record.Txn.{Txn}
use Rattle.dso_law.specs.Copies.{is_among}
use Rattle.dso_law.specs.ServerStep.{changes_to}
use Rattle.dso_law.specs.Store.{body_by_news, body_by_sets}
use Rattle.dso_law.specs.Settings.{Settings, clients_of}
use Rattle.dso_store.specs.declared.store.Store.{Store}
use Rattle.dso_lookup.specs.Maps.{look}
use Rattle.dso_lookup.specs.Rows.{look_in}

-- the sets whose object client d holds
abbrev pub sets_held : (ℕ → ℕ → Bool) → ℕ → List Set → List Set
sets_held holds d sets = filter (λ set. holds d set.object) sets

-- the changes of client c's record to each other client, by rising number: the sets whose objects it holds
abbrev pub changes_by : Settings → ℕ → Txn → (ℕ → ℕ → Bool) → List Sent
changes_by p c txn holds = flat_map (λ d. cond (eqb d c) [] (changes_to d (sets_held holds d txn.sets))) (clients_of p)

-- who holds an object is one of the cluster's clients
abbrev pub AreClients : Settings → (ℕ → ℕ → Bool) → Type 0
AreClients p holds = (c o : ℕ) → holds c o ≡ true → list_any (eqb c) (clients_of p) ≡ true

-- the bodies once those of news are added
abbrev pub with_news : List Body → (ℕ → Option Body) → ℕ → Option Body
with_news news bodies o = body_by_news o news (bodies o)

-- the bodies once the values of sets are written
abbrev pub with_sets : List Set → (ℕ → Option Body) → ℕ → Option Body
with_sets sets bodies o = body_by_sets o sets (bodies o)

-- the holders once the client holds the objects of news
abbrev pub with_holder : ℕ → List Body → (ℕ → ℕ → Bool) → ℕ → ℕ → Bool
with_holder client news holds c o = cond (eqb c client) (cond (is_among o news) true (holds c o)) (holds c o)

-- the objects that clients hold, by client, as a function
abbrev pub holds_by : BTreeMap ℕ (BTreeMap ℕ (Unit {0})) → ℕ → ℕ → Bool
holds_by holders c o = is_some (look_in nat_cmp nat_cmp holders (c, o))

-- the number of each client's last record, 0 before its first
abbrev pub last_by : BTreeMap ℕ ℕ → ℕ → ℕ
last_by numbers c = unwrap_or (look nat_cmp numbers c) 0

-- the body of each object
abbrev pub body_in : Store → ℕ → Option Body
body_in store = look nat_cmp store.bodies

-- whether a client holds an object
abbrev pub holds_in : Store → ℕ → ℕ → Bool
holds_in store = holds_by store.holders

-- the number of each client's last record
abbrev pub last_in : Store → ℕ → ℕ
last_in store = last_by store.numbers
