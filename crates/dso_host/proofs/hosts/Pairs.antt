-- Client c's cell and the server's end of its connection, among cells that stand.
use Rattle.std.specs.List.{list_any}
use Rattle.std.proofs.Common.{ℕ, zero, suc, ◌+◌, ◌-◌, ◌<◌, ◌≤◌, ◌≡◌, ◌⊎◌, inl, inr, refl, sym, ◌∙◌, ap, subst, Bool, true, false, cond, eqb, ltb, Some, List, [], ◌∷◌, length, slice_get, arith}
use Rattle.std.proofs.lemmas.Bool.{eq-eqb, eqb-true, ltb-false, ltb-true}
use Rattle.dso_base.specs.declared.journal.Entry.{Entry}
use Rattle.dso_base.specs.declared.journal.Node.TheVariants.{Client}
use Rattle.dso_law.specs.Settings.{clients_of, up_to}
use Rattle.dso_port.specs.Ports.{KnowEachOther}
use Rattle.dso_line.specs.Letters.{newest}
use Rattle.dso_world.proofs.places.Clients.{numbered_so}
use Rattle.dso_world.proofs.programs.Threads.{listed}
use Rattle.dso_cell.specs.declared.client_cell.ClientCell.{ClientCell}
use Rattle.dso_cell.specs.declared.server_end.ServerEnd.{ServerEnd}
use Rattle.dso_cell.specs.ClientCells.{ClientPartsStand}
use Rattle.dso_cell.specs.Clusters.{Cluster}
use Rattle.dso_cell.specs.Meetings.{AllKnow}
use Rattle.dso_cell.specs.ServerCells.{ServerEndStands, ServerEndsStand}
use Rattle.dso_host.specs.declared.cells.Cells.{Cells}
use Rattle.dso_cell.specs.CellsOfClusters.{ClientCellsStand}
use Rattle.dso_host.specs.Hosts.{AllKnown, CellsStand}
use Rattle.dso_host.specs.Journals.{client_log, log_in}

-- the cell and the end at this place are client c's, stand, and know all that is in their rings
pub record HasPair (cluster : Cluster) (es : List Entry) (c place : ℕ) (cells : List ClientCell) (ends : List ServerEnd) : Type 0 where
  pub cell : ClientCell
  pub end : ServerEnd
  pub at : slice_get cells place ≡ Some cell
  pub across : slice_get ends place ≡ Some end
  pub log : client_log c cells ≡ newest cell.log
  pub stands : ClientPartsStand cluster c (newest cell.log) cell.core cell.rejoins cell.port
  pub its : ServerEndStands cluster c es end
  pub know : KnowEachOther cell.port end.port

-- another number
unequal : (a b : ℕ) → b < a → eqb a b ≡ false
unequal a b less = by (eqb a b) refl
  where
    by : (same : Bool) → eqb a b ≡ same → same ≡ false
    by true is = absurd (omega (arith, less, eqb-true a b is))
    by false is = refl

below_is : (a b : ℕ) → a < b → eqb a b ≡ false
below_is a b less = by (eqb a b) refl
  where
    by : (same : Bool) → eqb a b ≡ same → same ≡ false
    by true is = absurd (omega (arith, less, eqb-true a b is))
    by false is = refl

module _ (cluster : Cluster) (es : List Entry) where
  -- the first cell
  first_pair : (c : ℕ) (cell : ClientCell) (cells : List ClientCell) (end : ServerEnd) (ends : List ServerEnd) → ClientCellsStand cluster c (cell ∷ cells) → ServerEndsStand cluster c es (end ∷ ends)
      → AllKnow (cell ∷ cells) (end ∷ ends) → HasPair cluster es c 0 (cell ∷ cells) (end ∷ ends)
  first_pair c cell cells end ends clients server known = record {
    cell = cell;
    end = end;
    at = refl;
    across = refl;
    log = ap (λ b. cond b (newest cell.log) (client_log c cells)) (eq-eqb c cell.number (sym clients.0));
    stands = subst (λ n. ClientPartsStand cluster n (newest cell.log) cell.core cell.rejoins cell.port) clients.0 clients.1.parts;
    its = server.0;
    know = known.0;
  }

  -- one of the later cells
  later_pair : (c k : ℕ) (cell : ClientCell) (cells : List ClientCell) (end : ServerEnd) (ends : List ServerEnd) → cell.number < c
      → HasPair cluster es c k cells ends → HasPair cluster es c (suc k) (cell ∷ cells) (end ∷ ends)
  later_pair c k cell cells end ends less has = record {
    cell = has.cell;
    end = has.end;
    at = has.at;
    across = has.across;
    log = ap (λ b. cond b (newest cell.log) (client_log c cells)) (unequal c cell.number less) ∙ has.log;
    stands = has.stands;
    its = has.its;
    know = has.know;
  }

  -- There is one at each place.
  pair_at : (first k : ℕ) (cells : List ClientCell) (ends : List ServerEnd) → ClientCellsStand cluster first cells → ServerEndsStand cluster first es ends → AllKnow cells ends
      → k < length cells → HasPair cluster es (k + first) k cells ends
  pair_at first k [] ends clients server known within = absurd (omega (arith, within))
  pair_at first k (cell ∷ cells) [] clients server known within = absurd known
  pair_at first zero (cell ∷ cells) (end ∷ ends) clients server known within =
      let number : first ≡ 0 + first = omega arith in
      subst (λ n. HasPair cluster es n 0 (cell ∷ cells) (end ∷ ends)) number (first_pair first cell cells end ends clients server known)
  pair_at first (suc k) (cell ∷ cells) (end ∷ ends) clients server known within =
      let its : cell.number ≡ first = clients.0 in
      let number : k + suc first ≡ suc k + first = omega arith in
      later_pair (suc k + first) k cell cells end ends (omega (arith, its))
      (subst (λ n. HasPair cluster es n k cells ends) number (pair_at (suc first) k cells ends clients.2 server.1 known.1 (omega (arith, within))))

  not_first : (first c n : ℕ) (cell : ClientCell) → cell.number ≡ first → (c < first) ⊎ (first + suc n ≤ c) → eqb c cell.number ≡ false
  not_first first c n cell its (inl low) = below_is c cell.number (omega (arith, low, its))
  not_first first c n cell its (inr high) = unequal c cell.number (omega (arith, high, its))

  outside_later : (first c n : ℕ) → (c < first) ⊎ (first + suc n ≤ c) → (c < suc first) ⊎ (suc first + n ≤ c)
  outside_later first c n (inl low) = inl (omega (arith, low))
  outside_later first c n (inr high) = inr (omega (arith, high))

  -- There is no log of any other number.
  pub none_outside : (first c : ℕ) (cells : List ClientCell) → ClientCellsStand cluster first cells → (c < first) ⊎ (first + length cells ≤ c) → client_log c cells ≡ []
  none_outside first c [] clients outside = refl
  none_outside first c (cell ∷ cells) clients outside =
      ap (λ b. cond b (newest cell.log) (client_log c cells)) (not_first first c (length cells) cell clients.0 outside)
      ∙ none_outside (suc first) c cells clients.2 (outside_later first c (length cells) outside)

-- which numbers aren't among the first so many
outside_of : (c last : ℕ) → list_any (eqb c) (up_to last) ≡ false → (c < 1) ⊎ (1 + last ≤ c)
outside_of c last none = by c none
  where
    by : (c : ℕ) → list_any (eqb c) (up_to last) ≡ false → (c < 1) ⊎ (1 + last ≤ c)
    by zero none = inl (omega arith)
    by (suc c) none = past (ltb last (suc c)) refl
      where
        past : (b : Bool) → ltb last (suc c) ≡ b → (suc c < 1) ⊎ (1 + last ≤ suc c)
        past true is = inr (omega (arith, ltb-true last (suc c) is))
        past false is = absurd (cc (sym none ∙ listed (eqb (suc c)) (suc c) last (eq-eqb (suc c) (suc c) refl) (omega arith) (omega (arith, ltb-false last (suc c) is))))

module _ (cluster : Cluster) (cells : Cells) (stand : CellsStand cluster cells) (known : AllKnown cells) where
  -- Each client of the cluster has its pair,
  pub has_pair : (c : ℕ) → list_any (eqb c) (clients_of cluster.settings) ≡ true → HasPair cluster (newest cells.server.log) c (c - 1) cells.clients.items cells.server.ends.items
  has_pair c is =
      let range = numbered_so c cluster.settings.clients is in
      let from : 1 ≤ c = range.0 in
      let to : c ≤ cluster.settings.clients = range.1 in
      let all = stand.all in
      let number : c - 1 + 1 ≡ c = omega (arith, from) in
      subst (λ n. HasPair cluster (newest cells.server.log) n (c - 1) cells.clients.items cells.server.ends.items) number
      (pair_at cluster (newest cells.server.log) 1 (c - 1) cells.clients.items cells.server.ends.items stand.clients stand.server.parts.ends known (omega (arith, from, to, all)))

  -- and there is no log of any other.
  pub no_log : (c : ℕ) → list_any (eqb c) (clients_of cluster.settings) ≡ false → log_in cells (Client c) ≡ []
  no_log c is = none_outside cluster (newest cells.server.log) 1 c cells.clients.items stand.clients
      (subst (λ n. (c < 1) ⊎ (1 + n ≤ c)) (sym stand.all) (outside_of c cluster.settings.clients is))

  -- What holds of no entries where there is no such client, and else of the log of its cell, holds of its log.
  pub of_client : (P : List Entry → Type 0) (c : ℕ) → (list_any (eqb c) (clients_of cluster.settings) ≡ false → P [])
      → ((has : HasPair cluster (newest cells.server.log) c (c - 1) cells.clients.items cells.server.ends.items) → P (newest has.cell.log)) → P (log_in cells (Client c))
  of_client P c none one = by (list_any (eqb c) (clients_of cluster.settings)) refl
    where
      by : (its : Bool) → list_any (eqb c) (clients_of cluster.settings) ≡ its → P (log_in cells (Client c))
      by true is = let has = has_pair c is in subst P (sym has.log) (one has)
      by false is = subst P (sym (no_log c is)) (none is)
