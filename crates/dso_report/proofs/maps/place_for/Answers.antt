use Rattle.std.proofs.Common.{sym, ◌∙◌, refl, length, arith}
use Rattle.std.specs.Prelude.{int_lt, not}
use Rattle.std.proofs.lemmas.List.Sums.{prefix_len-le-length}
use Rattle.dso_report.specs.declared.maps.MapEntry.{MapEntry}
use Rattle.dso_report.proofs.entries.Places.{none_behind, place_found}
use Rattle.dso_report.proofs.maps.place_for.Goals as goal

-- the first with a greater key
pub returns-in-Some : goal.returns-in-Some
returns-in-Some c =
    let test = λ (other : MapEntry). int_lt c.args.entry.key other.key in
    let is = place_found test c.args.entries.now c.in-Some.place (sym c.first_behind.ensures ∙ c.in-Some.is) in
    record { place = is; within = omega (arith, is, prefix_len-le-length (λ (other : MapEntry). not (test other)) c.args.entries.now) }

-- behind all
pub returns-in-None : goal.returns-in-None
returns-in-None c =
    let test = λ (other : MapEntry). int_lt c.args.entry.key other.key in
    record {
      place = none_behind test c.args.entries.now (length c.args.entries.now) refl (sym c.first_behind.ensures ∙ c.in-None.is);
      within = omega arith;
    }
