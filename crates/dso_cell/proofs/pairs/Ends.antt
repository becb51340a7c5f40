-- The server's end of a client's connection, at its place.
use Rattle.std.proofs.Common.{ℕ, ◌-◌, ◌≡◌, refl, sym, subst, Bool, true, ltb, Some, List, length, slice_get, slice_index_or}
use Rattle.std.proofs.lemmas.Bool.{ltb-true}
use Rattle.std.proofs.lemmas.Option.{slice_get_read}
use Rattle.dso_base.specs.declared.journal.Entry.{Entry}
use Rattle.dso_law.specs.ServerReadings.{is_lost}
use Rattle.dso_law.specs.Settings.{Settings}
use Rattle.dso_server.specs.ServerStands.{ServerStands}
use Rattle.dso_cell.specs.declared.client_cell.ClientCell.{ClientCell}
use Rattle.dso_cell.specs.declared.server_cell.ServerCell.{ServerCell}
use Rattle.dso_cell.specs.declared.server_end.ServerEnd.{ServerEnd}
use Rattle.dso_cell.specs.Pairs.{IsPairAt, Pair}

-- what the server has of a client makes its pair
pub pair_at : (server : ServerCell) (c : ℕ) (cell : ClientCell) (end : ServerEnd) (lost : Bool) (pair : Pair) (lender : List ServerEnd) → pair ≡ record { client = c; cell = cell; end = end; is_lost = lost }
    → lender ≡ server.ends.items → true ≡ ltb (c - 1) (length lender) → end ≡ slice_index_or lender (c - 1) end
    → ((p : Settings) (es : List Entry) → ServerStands p server.core es → lost ≡ is_lost c es) → IsPairAt server c cell pair
pair_at server c cell end lost pair lender is same within at tells = subst (IsPairAt server c cell) (sym is) (record {
  its = refl;
  cell = refl;
  end = subst (λ list. slice_get list (c - 1) ≡ Some end) same (slice_get_read lender (length lender) (c - 1) end refl (ltb-true (c - 1) (length lender) (sym within)) at);
  lost = tells;
})
