use Rattle.std.proofs.Common.{sym, ◌∙◌, ap, ◌||◌, is_some, Some}
use Rattle.dso_client.proofs.objects.KnownObjects.{absent, class_of_copy, not_there, resident_with}
use Rattle.dso_client.proofs.known_objects.class_known.Goals as goal

pub returns-in-Some-get-clause-there : goal.returns-in-Some-get-clause-there
returns-in-Some-get-clause-there c = λ at h.
    let mine = sym (c.in-None.ensures at h.of_own) in
    let there = resident_with at c.args.table.now c.args.object c.in-Some-get.body.now h.of_copies (sym c.in-Some-get.ensures) in
    sym (λ i. is_some (mine i) || there i)

pub returns-in-None-get-clause-there : goal.returns-in-None-get-clause-there
returns-in-None-get-clause-there c = λ at h.
    let mine = sym (c.in-None.ensures at h.of_own) in
    let gone = absent at c.args.table.now c.args.object h.of_copies (sym c.in-None-get.ensures) in
    sym (λ i. is_some (mine i) || gone i)

pub returns-in-Some-get-clause-known : goal.returns-in-Some-get-clause-known
returns-in-Some-get-clause-known c = λ at h.
    ap (λ size. Some (c.in-Some-get.body.now.class, size)) c.len-in-Some-get.ensures
    ∙ sym (class_of_copy at c.args.table.now c.args.context.now c.args.object c.in-Some-get.body.now h.knows.of_copies (sym (c.in-None.ensures at h.knows.of_own)) (sym c.in-Some-get.ensures))

pub returns-in-None-get-clause-known : goal.returns-in-None-get-clause-known
returns-in-None-get-clause-known c = λ at h.
    absurd (not_there at c.args.table.now c.args.context.now c.args.object h (sym (c.in-None.ensures at h.knows.of_own)) (sym c.in-None-get.ensures))
