-- A record fits a graph where its parts do.
use Rattle.std.proofs.Common.{ℕ, Option, List, map, flat_map}
use Rattle.std.specs.List.{AllByRecursion}
use Rattle.dso_base.specs.declared.journal.Entry.{Entry}
use Rattle.dso_base.specs.declared.record.Body.{Body}
use Rattle.dso_base.specs.declared.record.Txn.{Txn}
use Rattle.dso_base.specs.declared.value.Value.{Value}
use Rattle.dso_base.specs.declared.value.Value.TheVariants as value
use Rattle.dso_law.specs.FitsUp.{FitsRecordBy, IsLiteral, IsNamedBy, IsPrinted, stored_values}
use Rattle.dso_law.specs.Settings.{Settings}
use Rattle.dso_server.proofs.lists.Each.{each_both, each_flat, each_list, each_made, each_maker, each_weaker}
use Rattle.dso_server.proofs.lists.Lists.{each_append, each_before, each_behind}
use Rattle.dso_server.specs.Records.{FitsMaker, FitsObjects, FitsOut, FitsRest, FitsValue, FitsValues, IsLiteralOf, IsRising}

module _ (graph : ℕ → Option Body) (p : Settings) (c : ℕ) (txn : Txn) (es : List Entry) where
  -- a literal of the cluster
  literal : (v : Value) → IsLiteralOf p.shape v → IsLiteral p v
  literal value.Null h = tt
  literal (value.Long n) h = tt
  literal (value.Bool b) h = tt
  literal (value.Text t) h = h
  literal (value.Ref o) h = tt

  literal_of : (v : Value) → IsLiteral p v → IsLiteralOf p.shape v
  literal_of value.Null h = tt
  literal_of (value.Long n) h = tt
  literal_of (value.Bool b) h = tt
  literal_of (value.Text t) h = h
  literal_of (value.Ref o) h = tt

  -- what holds of each value of the bodies and of the sets holds of all that the record would put in the graph
  of_stored : (P : Value → Type 0) → AllByRecursion (λ body. AllByRecursion P body.values) txn.news → AllByRecursion (λ set. P set.value) txn.sets → AllByRecursion P (stored_values txn)
  of_stored P bodies sets = each_append P (flat_map (λ body. body.values) txn.news) (map (λ set. set.value) txn.sets) (each_flat P (λ body. body.values) txn.news bodies) (each_made P (λ set. set.value) txn.sets sets)

  of_bodies : (P : Value → Type 0) → AllByRecursion P (stored_values txn) → AllByRecursion (λ body. AllByRecursion P body.values) txn.news
  of_bodies P all = each_list P (λ body. body.values) txn.news (each_before P (flat_map (λ body. body.values) txn.news) (map (λ set. set.value) txn.sets) all)

  of_sets : (P : Value → Type 0) → AllByRecursion P (stored_values txn) → AllByRecursion (λ set. P set.value) txn.sets
  of_sets P all = each_maker P (λ set. set.value) txn.sets (each_behind P (flat_map (λ body. body.values) txn.news) (map (λ set. set.value) txn.sets) all)

  pub record_fits : IsRising txn.news → FitsMaker p c txn es → FitsObjects graph p c txn es → FitsValues p.shape graph txn es → FitsRest p c txn es → FitsRecordBy graph p c txn es
  record_fits rise maker objects fit rest = record {
    number = maker.0;
    thread = maker.1;
    going = maker.2;
    news = objects.0;
    news_rise = rise;
    sets = objects.1;
    sets_rise = objects.2;
    named = each_weaker (FitsValue p.shape graph txn.news) (IsNamedBy graph txn.news) (λ v h. h.0) (stored_values txn) stored;
    printed = each_weaker (FitsOut p.shape es) (IsPrinted es) (λ v h. h.0) txn.outs fit.2;
    texts = each_append (IsLiteral p) (stored_values txn) txn.outs (each_weaker (FitsValue p.shape graph txn.news) (IsLiteral p) (λ v h. literal v h.1) (stored_values txn) stored) (each_weaker (FitsOut p.shape es) (IsLiteral p) (λ v h. literal v h.1) txn.outs fit.2);
    notes = rest.0;
    ending = rest.1;
  }
    where
      stored : AllByRecursion (FitsValue p.shape graph txn.news) (stored_values txn)
      stored = of_stored (FitsValue p.shape graph txn.news) fit.0 fit.1

  -- and its parts fit where it does
  pub objects_fit : FitsRecordBy graph p c txn es → FitsObjects graph p c txn es
  objects_fit r = (r.news, r.sets, r.sets_rise)

  pub values_fit : FitsRecordBy graph p c txn es → FitsValues p.shape graph txn es
  values_fit r = (of_bodies (FitsValue p.shape graph txn.news) stored, of_sets (FitsValue p.shape graph txn.news) stored, each_both (IsPrinted es) (IsLiteralOf p.shape) txn.outs r.printed (each_weaker (IsLiteral p) (IsLiteralOf p.shape) literal_of txn.outs (each_behind (IsLiteral p) (stored_values txn) txn.outs r.texts)))
    where
      stored : AllByRecursion (FitsValue p.shape graph txn.news) (stored_values txn)
      stored = each_both (IsNamedBy graph txn.news) (IsLiteralOf p.shape) (stored_values txn) r.named (each_weaker (IsLiteral p) (IsLiteralOf p.shape) literal_of (stored_values txn) (each_before (IsLiteral p) (stored_values txn) txn.outs r.texts))

  pub rest_fits : FitsRecordBy graph p c txn es → FitsRest p c txn es
  rest_fits r = (r.notes, r.ending)
