-- The changes for other clients, read off the rows, are those of the server rule.
use Rattle.std.proofs.Common.{ℕ, ◌≡◌, refl, sym, ◌∙◌, ap, Bool, true, false, cond, eqb, Option, None, List, [], ◌∷◌, filter}
use Rattle.std.specs.BTreeMap.{BTreeMap, get, IsOrdered}
use Rattle.std.specs.List.{list_any}
use Rattle.std.specs.Ordering.{nat_cmp}
use Rattle.dso_base.specs.declared.record.Set.{Set}
use Rattle.dso_base.specs.declared.record.Txn.{Txn}
use Rattle.dso_law.specs.ServerStep.{changes_to}
use Rattle.dso_law.specs.Settings.{Settings, clients_of}
use Rattle.dso_law.proofs.Clients.{made_of_all}
use Rattle.dso_store.specs.Changes.{row_has, row_changes, all_changes}
use Rattle.dso_store.specs.Graph.{holds_by, changes_by, AreClients}

-- nothing is kept where no test holds
none_kept : (test : ℕ → Bool) (sets : List Set) → ((o : ℕ) → test o ≡ false) → filter (λ set. test set.object) sets ≡ []
none_kept test [] none = refl
none_kept test (set ∷ sets) none = rw (none set.object) (none_kept test sets none)

-- who holds nothing is told nothing
none_told : (c d : ℕ) (sets : List Set) (row : Option (BTreeMap ℕ (Unit {0}))) → ((o : ℕ) → row_has row o ≡ false) → row_changes c sets d row ≡ []
none_told c d sets row none = ap (λ held. cond (eqb d c) [] (changes_to d held)) (none_kept (row_has row) sets none) ∙ by (eqb d c)
  where
    by : (b : Bool) → cond b [] (changes_to d []) ≡ []
    by true = refl
    by false = refl

-- the changes read off all rows
pub told_others : (p : Settings) (c : ℕ) (txn : Txn) (holders : BTreeMap ℕ (BTreeMap ℕ (Unit {0}))) → IsOrdered nat_cmp holders → AreClients p (holds_by holders) → all_changes c txn.sets holders ≡ changes_by p c txn (holds_by holders)
told_others p c txn holders ordered within = made_of_all (row_changes c txn.sets) (λ d. none_told c d txn.sets None (λ o. refl)) holders p.clients ordered (λ d out. none_told c d txn.sets (get nat_cmp holders d) (λ o. by d o out (holds_by holders d o) refl))
  where
    by : (d o : ℕ) → list_any (eqb d) (clients_of p) ≡ false → (b : Bool) → holds_by holders d o ≡ b → b ≡ false
    by d o out true is = absurd (cc (sym out ∙ within d o is))
    by d o out false is = refl
