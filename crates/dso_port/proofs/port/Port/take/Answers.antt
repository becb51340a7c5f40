use Rattle.std.proofs.Common.{sym, ◌∙◌, ap, subst, IfErr, [], ◌∷◌, ◌++◌, map}
use Rattle.std.proofs.lemmas.List.{map-append}
use Rattle.dso_port.specs.Frames.{TookOne}
use Rattle.dso_port.specs.Ports.{HasFailed, taken}
use Rattle.dso_port.proofs.ends.Taken.{failed, failed_by}
use Rattle.dso_port.proofs.port.Port.take.Goals as goal

pub returns-clause-fails : goal.returns-clause-fails
returns-clause-fails g c =
    let took : TookOne g.T.Carried.cells g.T.Carried.is (taken c.self.inside.into) (taken c.pop.new.self) c.in_ok-frame.frame = record {
      is = c.in_ok-frame.ensures.is;
      more = ap (map (λ item. item.items)) c.in-Ok.ensures.ok.0 ∙ map-append (λ item. item.items) _ (c.in-Ok.item ∷ [])
          ∙ ap (λ bytes. taken c.self.inside.into ++ bytes ∷ []) (sym c.as_slice.ensures.value ∙ c.in_ok-frame.ensures.bytes);
    } in
    subst (λ state. IfErr c.hear.result (λ why. HasFailed g.T.Carried.as_both g.T.Carried.cells g.T.Carried.is why state
    (record { session = c.hear.new.session; out = c.self.inside.out; into = c.pop.new.self; late = c.hear.new.late }))) c.self.view_is
    (failed_by _ _ (λ why lacks. failed g.T.Carried.as_both g.T.Carried.cells g.T.Carried.is why
    (record { session = c.self.inside.session; out = c.self.inside.out; into = c.self.inside.into; late = c.self.inside.late })
    (record { session = c.hear.new.session; out = c.self.inside.out; into = c.pop.new.self; late = c.hear.new.late }) c.in_ok-frame.frame took lacks) c.hear.result c.hear.ensures.lacks)
