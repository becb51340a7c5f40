use Rattle.std.proofs.Common.{◌≡◌, sym, ◌∙◌, ap, Bool, true, false, ◌||◌, is_some, Option, None}
use Rattle.dso_law.specs.Copies.{is_resident, copy_of}
use Rattle.dso_law.specs.Threads.{or_else, own}
use Rattle.dso_client.proofs.objects.KnownObjects.{value_known}
use Rattle.dso_client.proofs.known_objects.field_value.Goals as goal

pub returns-in-Some-value : goal.returns-in-Some-value
returns-in-Some-value c = λ at h sizes.
    ap (λ found. or_else found (copy_of c.args.object c.args.field at.entries)) c.in-Some-value.ensures
    ∙ sym (value_known at c.args.context.now c.args.object c.args.field h.knows.of_own (sym (c.in-None.ensures at h.knows.of_own)))

-- an object that isn't the thread's own is resident
rest : {A : Type 0} (mine : Option A) (resident : Bool) → mine ≡ None → (is_some mine || resident) ≡ true → resident ≡ true
rest mine true e there = cc
rest mine false e there = absurd (cc (ap (λ found. is_some found || false) (sym e) ∙ there))

pub returns-in-None-value : goal.returns-in-None-value
returns-in-None-value c = λ at h sizes.
    let mine : own at.settings.shape c.args.context.now.id c.args.object at.entries ≡ None = sym (c.in-None.ensures at h.knows.of_own) in
    c.copy.ensures at h.knows.of_copies sizes (rest (own at.settings.shape c.args.context.now.id c.args.object at.entries) (is_resident c.args.object at.entries) mine h.there)
    ∙ (ap (λ found. or_else found (copy_of c.args.object c.args.field at.entries)) c.in-None-value.ensures
    ∙ sym (value_known at c.args.context.now c.args.object c.args.field h.knows.of_own mine))
