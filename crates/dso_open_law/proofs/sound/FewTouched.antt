-- In a lawful journal of a sound program few topics are enough.
use Rattle.std.proofs.Common.{ℕ, ◌≡◌, sym, ◌∙◌, ap, subst, ◌&&◌, is_some, Option, List, ◌∷◌}
use Rattle.std.specs.List.{list_any}
use Rattle.std.proofs.lemmas.Bool.{or_parts}
use Rattle.dso_base.specs.declared.journal.Entry.{Entry}
use Rattle.dso_base.specs.declared.journal.Node.TheVariants.{Client}
use Rattle.dso_base.specs.declared.lock.ThreadId.{ThreadId}
use Rattle.dso_base.specs.declared.request.Request.{Request}
use Rattle.dso_plain.proofs.keys.SameKeys.{number_self}
use Rattle.dso_law.specs.Entries.{entries_of}
use Rattle.dso_law.specs.Copies.{is_resident, class_held, copy_of}
use Rattle.dso_law.specs.ClientStep.{may_act}
use Rattle.dso_legal.specs.Lawful.{next_after, ClientFollows, NodeFollows}
use Rattle.dso_legal.proofs.channels.AfterEntry.{own_turn}
use Rattle.dso_open_law.specs.TouchedThreads.{Topic, OfObject, is_topic, topic, acts}
use Rattle.dso_open_law.specs.FewTouched.{few_topics, is_field_of, CopiesAreWhole, FewActOtherwise, WaitersAndCopiesAreSo, FewAreTouched}
use Rattle.dso_open_law.proofs.readings.Untouched.{Spares}
use Rattle.dso_open_law.proofs.readings.Objects.{resident_stays, class_stays}
use Rattle.dso_open_law.proofs.threads.Acting.{ReadsAlike, may_act_stays}
use Rattle.dso_open_law.proofs.threads.Journals.{only_actors}
use Rattle.dso_open_law.proofs.sound.Sizes.{copies_are_whole}
use Rattle.dso_open_law.proofs.sound.Waiters.{waiters_are_known}
use Rattle.dso_open_law.proofs.sound.Marked.{few_are_all}

-- the copy of an object that the entry doesn't touch has a value of the field where it had one
copy_alike : (before after : ThreadId → Option Request) (e : Entry) (es : List Entry) → CopiesAreWhole es → CopiesAreWhole (e ∷ es) → (o f : ℕ) → Spares before after es (OfObject o) e → is_some (copy_of o f (e ∷ es)) ≡ is_some (copy_of o f es)
copy_alike before after e es whole whole_now o f spares = whole_now o f
    ∙ ap (λ resident. resident && is_field_of f (class_held o (e ∷ es))) (resident_stays before after es o e spares)
    ∙ ap (λ class. is_resident o es && is_field_of f class) (class_stays before after es o e spares)
    ∙ sym (whole o f)

-- Few may act otherwise.
pub few_act_otherwise : FewActOtherwise
few_act_otherwise p c before after e es t goes step known whole whole_now own untouched =
    let about : Topic = topic t (before t) in
    let h = or_parts (acts t e.event) (list_any (is_topic about) (few_topics before after es e)) untouched in
    let reads : ReadsAlike before after es e t = λ o f asked spares. copy_alike before after e es whole whole_now o f spares in
    may_act_stays p c before after es e goes t h.0 reads (goes t own h.0) (few_are_all p c before after e es goes step known about h.1)

-- So waiters and copies are.
pub waiters_and_copies_are_so : WaitersAndCopiesAreSo
waiters_and_copies_are_so p next sound texts within es follow c = (waiters_are_known p next sound es follow c, copies_are_whole p next sound texts within es follow c)

-- Few are touched.
pub few_are_touched : FewAreTouched
few_are_touched p next sound texts within e es follow t is untouched =
    let before : ThreadId → Option Request = next_after next es in
    let after : ThreadId → Option Request = next_after next (e ∷ es) in
    let own : List Entry = entries_of (Client t.client) es in
    let turn : entries_of (Client t.client) (e ∷ es) ≡ e ∷ own = (own_turn t.client e es is).own in
    let follows : ClientFollows p next t.client e es = subst (λ node. NodeFollows p next node e es) is follow.1.rule in
    let whole_now : CopiesAreWhole (e ∷ own) = subst CopiesAreWhole turn (copies_are_whole p next sound texts within (e ∷ es) follow t.client) in
    ap (may_act p t.client after t) turn
    ∙ few_act_otherwise p t.client before after e own t (only_actors next t.client e es is) follows.step (waiters_are_known p next sound es follow.0 t.client)
    (copies_are_whole p next sound texts within es follow.0 t.client) whole_now (number_self t.client) untouched
