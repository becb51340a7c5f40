-- What a client publishes is its own, and wasn't published before.
use Rattle.std.proofs.Common.{ℕ, ◌≡◌, refl, ◌∙◌, ap, subst, true, false, Option, Some, List, [], ◌∷◌, ◌++◌}
use Rattle.dso_base.specs.declared.journal.Entry.{Entry}
use Rattle.dso_base.specs.declared.journal.Node.TheVariants.{Client}
use Rattle.dso_base.specs.declared.lock.ThreadId.{ThreadId}
use Rattle.dso_base.specs.declared.record.Ending.{Ending}
use Rattle.dso_base.specs.declared.record.Txn.{Txn}
use Rattle.dso_base.specs.declared.request.Event.{Event}
use Rattle.dso_base.specs.declared.request.Event.TheVariants.{Act}
use Rattle.dso_base.specs.declared.request.Reply.{Reply}
use Rattle.dso_base.specs.declared.request.Request.{Request}
use Rattle.dso_base.specs.declared.request.Request.TheVariants.{Exit, Wait, Timeout, End}
use Rattle.dso_base.specs.declared.shape.Shape.{Shape}
use Rattle.dso_base.specs.declared.record.Body.{Body}
use Rattle.dso_base.specs.Block.{txn_of, Work, start, work_by, worked}
use Rattle.dso_law.specs.Settings.{Settings}
use Rattle.dso_law.specs.Entries.{entries_of}
use Rattle.dso_law.specs.Threads.{Locks, locks_of, ending_by, open_block, privates_before, work_of}
use Rattle.dso_law.specs.Copies.{is_among, is_resident}
use Rattle.dso_legal.specs.Lawful.{AllFollow}
use Rattle.dso_legal.specs.OwnObjects.{was_published, has_in_hand}
use Rattle.dso_legal.specs.Residency.{is_own, is_set}
use Rattle.dso_legal.proofs.records.ClientWords.{IsRecordOf, IsRecordBy}
use Rattle.dso_legal.proofs.ids.MadeOnce.{made_once}
use Rattle.dso_legal.proofs.objects.OwnObjects.{worked_more, in_hand_is_made, in_hand_is_own}
use Rattle.dso_legal.proofs.objects.SetsResident.{or_later, all_held}

-- an object among the news: of an id given to the client, and in no record that it sent before
pub record IsFresh (c o : ℕ) (es : List Entry) : Type 0 where
  pub own : is_own c o es ≡ true
  pub unpublished : was_published o (entries_of (Client c) es) ≡ false

-- What a thread published in its open block is fresh.
in_hand_is_fresh : (p : Settings) (next : ThreadId → List Event → Option Request) (c o index : ℕ) (es : List Entry) → AllFollow p next es
    → is_among o (work_of p.shape (record { client = c; index = index }) (entries_of (Client c) es)).news ≡ true → IsFresh c o es
in_hand_is_fresh p next c o index es follow among =
    let t : ThreadId = record { client = c; index = index } in
    let hand : has_in_hand p t o es ≡ true = or_later (is_among o (work_of p.shape t (entries_of (Client c) es)).privates) (is_among o (work_of p.shape t (entries_of (Client c) es)).news) among in
    record {
      own = (made_once p next es follow).given c o (in_hand_is_made p next es follow t o hand);
      unpublished = (in_hand_is_own p next es follow t o hand).unpublished c;
    }

-- an ending leaves the work in hand
pub ending_leaves : (shape : Shape) (request : Request) (reply : Reply) (woken : Option ThreadId) (locks : Locks) (ending : Ending) (work : Work) → ending_by request reply locks ≡ Some ending → work_by shape request reply woken work ≡ work
ending_leaves shape (Exit l) reply woken locks ending work e = refl
ending_leaves shape (Wait l) reply woken locks ending work e = refl
ending_leaves shape (Timeout l) reply woken locks ending work e = refl
ending_leaves shape (End fault) reply woken locks ending work e = refl
ending_leaves shape request reply woken locks ending work e = absurd (cc e)

-- what a record publishes and sets is what the open block does
record_work : {X : Type 0} (f : Work → X) (g : Txn → X) (p : Settings) (e : Entry) (es : List Entry) (t : ThreadId) (txn : Txn) → IsRecordOf p e es t txn
    → ((seq : ℕ) (privates : List Body) (events : List Event) (ending : Ending) → g (txn_of p.shape seq t privates events ending) ≡ f (worked p.shape events (start privates))) → g txn ≡ f (work_of p.shape t es)
record_work f g p e es t txn it same =
    let event : Event = Act t it.request it.reply it.woken in
    let before : Work = work_of p.shape t es in
    ap g it.txn_is ∙ same _ (privates_before p.shape t es) (open_block t es ++ event ∷ []) it.ending
    ∙ ap f (worked_more p.shape (open_block t es) event (start (privates_before p.shape t es)))
    ∙ ap f (ending_leaves p.shape it.request it.reply it.woken (locks_of t es) it.ending before it.ends)

pub news_are_fresh : (p : Settings) (next : ThreadId → List Event → Option Request) (c o : ℕ) (e : Entry) (es : List Entry) (txn : Txn) → AllFollow p next es
    → IsRecordBy p c e (entries_of (Client c) es) txn → is_among o txn.news ≡ true → IsFresh c o es
news_are_fresh p next c o e es txn follow by_it among = in_hand_is_fresh p next c o by_it.index es follow
    (subst (λ news. is_among o news ≡ true) (record_work (λ work. work.news) (λ txn. txn.news) p e (entries_of (Client c) es) (record { client = c; index = by_it.index }) txn by_it.its (λ seq privates events ending. refl)) among)

-- What a record sets is resident.
pub record_sets_resident : (p : Settings) (next : ThreadId → List Event → Option Request) (c o : ℕ) (e : Entry) (es : List Entry) (txn : Txn) → AllFollow p next es
    → IsRecordBy p c e (entries_of (Client c) es) txn → is_set o txn.sets ≡ true → is_resident o (entries_of (Client c) es) ≡ true
record_sets_resident p next c o e es txn follow by_it set =
    let t : ThreadId = record { client = c; index = by_it.index } in
    (all_held o p c next es follow t).there
    (subst (λ sets. is_set o sets ≡ true) (record_work (λ work. work.sets) (λ txn. txn.sets) p e (entries_of (Client c) es) t txn by_it.its (λ seq privates events ending. refl)) set)
