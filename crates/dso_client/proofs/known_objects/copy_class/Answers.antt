use Rattle.std.proofs.Common.{sym, ◌∙◌, ap, Some}
use Rattle.dso_client.proofs.objects.KnownObjects.{absent, class_with, resident_with}
use Rattle.dso_client.proofs.known_objects.copy_class.Goals as goal

pub returns-in-Some-clause-there : goal.returns-in-Some-clause-there
returns-in-Some-clause-there c = λ at stands.
    sym (resident_with at c.args.table.now c.args.object c.in-Some.body.now stands (sym c.in-Some.ensures))

pub returns-in-None-clause-there : goal.returns-in-None-clause-there
returns-in-None-clause-there c = λ at stands. sym (absent at c.args.table.now c.args.object stands (sym c.in-None.ensures))

pub returns-in-Some-clause-class : goal.returns-in-Some-clause-class
returns-in-Some-clause-class c = λ at stands.
    class_with at c.args.table.now c.args.object c.in-Some.body.now stands (sym c.in-Some.ensures)
    ∙ ap (λ size. Some (c.in-Some.body.now.class, size)) (sym c.len.ensures)
