-- A client makes no more objects than it took ids; and none is left while a batch is asked for.
use Rattle.std.proofs.Common.{ℕ, suc, ◌+◌, ◌-◌, ◌*◌, ◌<◌, ◌≤◌, ◌≡◌, inl, inr, refl, sym, ◌∙◌, ap, subst, Bool, true, false, cond, ltb, ◌||◌, is_some, Option, Some, None, List, [], ◌∷◌, ◌++◌, length, map, arith}
use Rattle.std.proofs.lemmas.Bool.Decides.{leb_tells}
use Rattle.dso_base.specs.declared.journal.Entry.{Entry}
use Rattle.dso_base.specs.declared.journal.Input.{Input}
use Rattle.dso_base.specs.declared.journal.Input.TheVariants as input
use Rattle.dso_base.specs.declared.journal.Sent.TheVariants.{ToServer}
use Rattle.dso_base.specs.declared.lock.ThreadId.{ThreadId}
use Rattle.dso_base.specs.declared.message.Down.{Down}
use Rattle.dso_base.specs.declared.message.Down.TheVariants as down
use Rattle.dso_base.specs.declared.message.Up.{Up}
use Rattle.dso_base.specs.declared.message.Up.TheVariants as up
use Rattle.dso_base.specs.declared.record.Ending.{Ending}
use Rattle.dso_base.specs.declared.request.Event.{Event}
use Rattle.dso_base.specs.declared.request.Event.TheVariants.{Act}
use Rattle.dso_base.specs.declared.request.Reply.{Reply}
use Rattle.dso_base.specs.declared.request.Reply.TheVariants.{Made}
use Rattle.dso_base.specs.declared.request.Request.{Request}
use Rattle.dso_law.specs.Settings.{Settings, batch_size}
use Rattle.dso_law.specs.Entries.{by_event, by_taken_down, by_sent_up}
use Rattle.dso_law.specs.Threads.{locks_of, ending_of}
use Rattle.dso_law.specs.Copies.{is_object_asked}
use Rattle.dso_law.specs.Leases.{leased, is_asked_for}
use Rattle.dso_law.specs.Records.{batches, batches_by_taken, made, made_by, made_by_reply, id_at, next_id, is_batch_asked, batch_asked_by_taken, batch_asked_by_sent}
use Rattle.dso_law.specs.RequestNeeds.{Need, NeedsId, NeedsObject, NeedsClass, NeedsMark, NeedsLease, NeedsOthersOut, NeedsAck, unless_asked, unmet, ask_for}
use Rattle.dso_law.specs.Replies.{woken_by, reply_of}
use Rattle.dso_law.specs.ClientStep.{record_of, DoesOrAsks, ActsOn, ClientStepOn}
use Rattle.dso_law.specs.ClientRun.{ClientRun, next_in}
use Rattle.dso_law.specs.RunLaws.{IdsRunOut}
use Rattle.dso_law.proofs.core.Ids.{behind}
use Rattle.dso_law.proofs.runs.AsksForAbsent.{IsLacking, lacking}
use Rattle.dso_law.proofs.runs.MakesNext.{makes_next}
use Rattle.dso_law.proofs.runs.Said.{LeavesLocks, said_does, said_asks, said_taken}

-- where there is an id, fewer were made than there are ids
id_within : (bs : List ℕ) (n o : ℕ) → id_at bs n ≡ Some o → n < batch_size * length bs
id_within [] n o is = absurd (cc is)
id_within (b ∷ bs) n o is = by (ltb n batch_size) refl is (id_within bs (n - batch_size) o)
  where
    near : ltb n batch_size ≡ true → n < 256
    near here = elim (leb_tells (suc n) 256) [ inl h ↦ h.1 | inr h ↦ absurd (cc (sym here ∙ h.0)) ]

    by : (here : Bool) → ltb n batch_size ≡ here → cond here (Some (b + n)) (id_at bs (n - batch_size)) ≡ Some o → (id_at bs (n - batch_size) ≡ Some o → n - batch_size < batch_size * length bs) → n < batch_size * suc (length bs)
    by true here is rest = let first = near here in omega (arith, first)
    by false here is rest = let later = rest is in omega (arith, later)

-- where there is none, as many were made, or more
id_missing : (bs : List ℕ) (n : ℕ) → id_at bs n ≡ None → batch_size * length bs ≤ n
id_missing [] n is = omega arith
id_missing (b ∷ bs) n is = by (ltb n batch_size) refl is (id_missing bs (n - batch_size))
  where
    by : (here : Bool) → ltb n batch_size ≡ here → cond here (Some (b + n)) (id_at bs (n - batch_size)) ≡ None → (id_at bs (n - batch_size) ≡ None → batch_size * length bs ≤ n - batch_size) → batch_size * suc (length bs) ≤ n
    by true here is rest = absurd (cc is)
    by false here is rest = let later = rest is in let far = behind n here in omega (arith, later, far)

longer : (bs : List ℕ) (first : ℕ) → length (bs ++ first ∷ []) ≡ suc (length bs)
longer [] first = refl
longer (b ∷ bs) first = ap suc (longer bs first)

-- so many were made, of ids in so many batches; and whether a batch is asked for
record Taken (n count : ℕ) (asked : Bool) : Type 0 where
  most : n ≤ batch_size * count
  all : asked ≡ true → n ≡ batch_size * count

asked_leaves : LeavesLocks batch_asked_by_sent
asked_leaves = record { request = λ l level s. refl; return_of = λ l threads s. refl }

-- a record asks for no batch
recorded : (p : Settings) (t : ThreadId) (event : Event) (ending : Option Ending) (es : List Entry) (asked : Bool) → by_sent_up batch_asked_by_sent (map ToServer (record_of p t event ending es)) asked ≡ asked
recorded p t event None es asked = refl
recorded p t event (Some ending) es asked = refl

module _ (p : Settings) (c : ℕ) (before later : ThreadId → Option Request) (e : Entry) (es : List Entry) (h : Taken (made es) (length (batches es)) (is_batch_asked es)) where
  -- with what is asked
  abbrev AsksBy : Up → Type 0
  AsksBy m = Taken (made es) (length (batches es)) (batch_asked_by_sent m (is_batch_asked es))

  asks_if : (b : Bool) (x m : Up) → AsksBy x → unless_asked b x ≡ Some m → AsksBy m
  asks_if true x m is asked = absurd (cc asked)
  asks_if false x m is asked = let same : x ≡ m = cc asked in subst AsksBy same is

  -- a batch is asked for where no id is left
  batch_asked : next_id es ≡ None → AsksBy up.IdAsk
  batch_asked lacks = record { most = h.most; all = λ is. let most = h.most in let least = id_missing (batches es) (made es) lacks in omega (arith, most, least) }

  ask_taken : (need : Need) (m : Up) → IsLacking es (Some need) → ask_for need es ≡ Some m → AsksBy m
  ask_taken NeedsId m lacks asked = asks_if (is_batch_asked es) up.IdAsk m (batch_asked lacks) asked
  ask_taken (NeedsObject x) m lacks asked = asks_if (is_object_asked x es) (up.Fault x) m h asked
  ask_taken (NeedsLease l level) m lacks asked = asks_if (is_some (leased l es) || is_asked_for l es) (up.Request l level) m h asked
  ask_taken (NeedsClass x) m lacks asked = absurd (cc asked)
  ask_taken (NeedsMark l) m lacks asked = absurd (cc asked)
  ask_taken (NeedsOthersOut l) m lacks asked = absurd (cc asked)
  ask_taken NeedsAck m lacks asked = absurd (cc asked)

  -- an object more has an id
  replied : (t : ThreadId) (request : Request) (reply : Reply) → reply_of p t request es ≡ Some reply → Taken (made_by_reply reply (made es)) (length (batches es)) (is_batch_asked es)
  replied t request (Made o) answered =
      let less = id_within (batches es) (made es) o (makes_next p t request es o answered) in
      record { most = omega (arith, less); all = λ is. let all = h.all is in absurd (omega (arith, less, all)) }
  replied t request reply answered = h

  -- after the entry, by what it takes
  abbrev After : Input → Type 0
  After i = Taken (by_event made_by e.event (made es)) (length (by_taken_down batches_by_taken i (batches es))) (by_sent_up batch_asked_by_sent e.sent (by_taken_down batch_asked_by_taken i (is_batch_asked es)))

  taken_by : (n : ℕ) (asked : Bool) (i : Input) → by_event made_by e.event (made es) ≡ n → by_sent_up batch_asked_by_sent e.sent (by_taken_down batch_asked_by_taken i (is_batch_asked es)) ≡ asked
      → Taken n (length (by_taken_down batches_by_taken i (batches es))) asked → After i
  taken_by n asked i same_made same_asked is = subst (λ n. Taken n (length (by_taken_down batches_by_taken i (batches es))) (by_sent_up batch_asked_by_sent e.sent (by_taken_down batch_asked_by_taken i (is_batch_asked es)))) (sym same_made)
      (subst (Taken n (length (by_taken_down batches_by_taken i (batches es)))) (sym same_asked) is)

  -- no event, no object
  none_made : e.event ≡ None → by_event made_by e.event (made es) ≡ made es
  none_made silent = ap (λ event. by_event made_by event (made es)) silent

  taken_need : (index : ℕ) (t : ThreadId) (request : Request) (need : Option Need) → IsLacking es need → DoesOrAsks p c t request need before later e es → After (input.Act index)
  taken_need index t request None lacks does = taken_by (made_by_reply does.reply (made es)) (is_batch_asked es) (input.Act index) (ap (λ event. by_event made_by event (made es)) does.event)
      (said_does batch_asked_by_sent asked_leaves p c before later e es t request does (is_batch_asked es)
      ∙ recorded p t (Act t request does.reply (woken_by request does.reply es)) (ending_of (Act t request does.reply (woken_by request does.reply es)) (locks_of t es)) es (is_batch_asked es))
      (replied t request does.reply does.answered)
  taken_need index t request (Some need) lacks asks = taken_by (made es) _ (input.Act index) (none_made asks.event)
      (said_asks batch_asked_by_sent asked_leaves p c before later e es need asks (is_batch_asked es)) (ask_taken need asks.message lacks asks.asked)

  taken_acts : (index : ℕ) (t : ThreadId) (request : Option Request) → ActsOn p c t request before later e es → After (input.Act index)
  taken_acts index t None step = absurd step
  taken_acts index t (Some request) step = taken_need index t request (unmet p c before t request es) (lacking p c before t es request) step

  taken_told : (m : Down) → Taken (made es) (length (batches_by_taken m (batches es))) (batch_asked_by_taken m (is_batch_asked es))
  taken_told (down.Ids first) = record { most = let most = h.most in let size = longer (batches es) first in omega (arith, most, size); all = λ never. absurd (cc never) }
  taken_told m = h

  taken_step : (i : Input) → ClientStepOn p c i before later e es → After i
  taken_step (input.Act index) step = taken_acts index (record { client = c; index = index }) (before (record { client = c; index = index })) step.acts
  taken_step (input.TookDown m) step = taken_by (made es) _ (input.TookDown m) (none_made step.event)
      (said_taken batch_asked_by_sent asked_leaves p c before later e es step.sends (batch_asked_by_taken m (is_batch_asked es))) (taken_told m)
  taken_step (input.Flush o) step = taken_by (made es) (is_batch_asked es) (input.Flush o) (none_made step.event) (ap (λ out. by_sent_up batch_asked_by_sent out (is_batch_asked es)) step.sends) h
  taken_step (input.Rejoin d) step = taken_by (made es) (is_batch_asked es) (input.Rejoin d) (none_made step.event) (ap (λ out. by_sent_up batch_asked_by_sent out (is_batch_asked es)) step.sends) h
  taken_step i step = absurd step

taken_run : (p : Settings) (c : ℕ) (next : ThreadId → List Event → Option Request) (es : List Entry) → ClientRun p c next es → Taken (made es) (length (batches es)) (is_batch_asked es)
taken_run p c next [] run = record { most = omega arith; all = λ never. absurd (cc never) }
taken_run p c next (e ∷ es) run = taken_step p c (next_in next es) (next_in next (e ∷ es)) e es (taken_run p c next es run.0) e.input run.1

pub ids_run_out : IdsRunOut
ids_run_out p c next es run = let taken = taken_run p c next es run in record { most = taken.most; all = taken.all }
