-- No object is both asked for and resident.
use Rattle.std.proofs.Common.{ℕ, ◌≡◌, refl, sym, ◌∙◌, ap, subst, Bool, true, false, cond, eqb, ◌||◌, is_some, Option, Some, None, List, [], ◌∷◌, map}
use Rattle.dso_base.specs.declared.journal.Entry.{Entry}
use Rattle.dso_base.specs.declared.journal.Input.{Input}
use Rattle.dso_base.specs.declared.journal.Input.TheVariants as input
use Rattle.dso_base.specs.declared.journal.Sent.TheVariants.{ToServer}
use Rattle.dso_base.specs.declared.lock.ThreadId.{ThreadId}
use Rattle.dso_base.specs.declared.message.Down.{Down}
use Rattle.dso_base.specs.declared.message.Down.TheVariants as down
use Rattle.dso_base.specs.declared.message.Up.{Up}
use Rattle.dso_base.specs.declared.message.Up.TheVariants as up
use Rattle.dso_base.specs.declared.record.Ending.{Ending}
use Rattle.dso_base.specs.declared.request.Event.{Event}
use Rattle.dso_base.specs.declared.request.Event.TheVariants.{Act}
use Rattle.dso_base.specs.declared.request.Request.{Request}
use Rattle.dso_plain.proofs.keys.SameKeys.{same_number}
use Rattle.dso_law.specs.Settings.{Settings}
use Rattle.dso_law.specs.Entries.{by_taken_down, by_sent_up}
use Rattle.dso_law.specs.Threads.{locks_of, ending_of}
use Rattle.dso_law.specs.Copies.{resident_by_taken, resident_by_sent, unless_flushed, is_resident, asked_by_taken, asked_by_sent, is_object_asked}
use Rattle.dso_law.specs.Leases.{leased, is_asked_for}
use Rattle.dso_law.specs.Records.{is_batch_asked}
use Rattle.dso_law.specs.RequestNeeds.{Need, NeedsId, NeedsObject, NeedsClass, NeedsMark, NeedsLease, NeedsOthersOut, NeedsAck, unless_asked, unmet, ask_for}
use Rattle.dso_law.specs.Replies.{woken_by}
use Rattle.dso_law.specs.ClientStep.{record_of, DoesOrAsks, ActsOn, ClientStepOn}
use Rattle.dso_law.specs.ClientRun.{next_in}
use Rattle.dso_law.specs.RunLaws.{AskedIsAbsent}
use Rattle.dso_law.proofs.runs.AsksForAbsent.{IsLacking, lacking}
use Rattle.dso_law.proofs.runs.Said.{LeavesLocks, said_does, said_asks, said_taken}

-- what is asked for isn't resident
abbrev Apart : Bool → Bool → Type 0
Apart asked resident = asked ≡ true → resident ≡ false

module _ (o : ℕ) where
  asked_leaves : LeavesLocks (asked_by_sent o)
  asked_leaves = record { request = λ l level s. refl; return_of = λ l threads s. refl }

  resident_leaves : LeavesLocks (resident_by_sent o)
  resident_leaves = record { request = λ l level s. refl; return_of = λ l threads s. refl }

  -- what comes is no longer asked for
  come : (here asked resident : Bool) → Apart asked resident → Apart (cond here false asked) (cond here true resident)
  come true asked resident h = λ never. absurd (cc never)
  come false asked resident h = h

  recorded : (p : Settings) (t : ThreadId) (event : Event) (ending : Option Ending) (es : List Entry) (asked resident : Bool) → Apart asked resident
      → Apart (by_sent_up (asked_by_sent o) (map ToServer (record_of p t event ending es)) asked) (by_sent_up (resident_by_sent o) (map ToServer (record_of p t event ending es)) resident)
  recorded p t event None es asked resident h = h
  recorded p t event (Some ending) es asked resident h = come _ asked resident h

  module _ (p : Settings) (c : ℕ) (before later : ThreadId → Option Request) (e : Entry) (es : List Entry) (h : Apart (is_object_asked o es) (is_resident o es)) where
    -- what is asked is apart
    abbrev ApartBy : Up → Type 0
    ApartBy m = Apart (asked_by_sent o m (is_object_asked o es)) (resident_by_sent o m (is_resident o es))

    apart_if : (b : Bool) (x m : Up) → ApartBy x → unless_asked b x ≡ Some m → ApartBy m
    apart_if true x m apart asked = absurd (cc asked)
    apart_if false x m apart asked = let same : x ≡ m = cc asked in subst ApartBy same apart

    -- an object is asked for where it is lacking
    faulted : (x : ℕ) → is_resident x es ≡ false → ApartBy (up.Fault x)
    faulted x lacks = by (eqb x o) (λ same. ap (λ n. is_resident n es) (sym (same_number x o same)) ∙ lacks)
      where
        by : (here : Bool) → (here ≡ true → is_resident o es ≡ false) → Apart (cond here true (is_object_asked o es)) (is_resident o es)
        by true absent = λ is. absent refl
        by false absent = h

    ask_apart : (need : Need) (m : Up) → IsLacking es (Some need) → ask_for need es ≡ Some m → ApartBy m
    ask_apart NeedsId m lacks asked = apart_if (is_batch_asked es) up.IdAsk m h asked
    ask_apart (NeedsObject x) m lacks asked = apart_if (is_object_asked x es) (up.Fault x) m (faulted x lacks) asked
    ask_apart (NeedsLease l level) m lacks asked = apart_if (is_some (leased l es) || is_asked_for l es) (up.Request l level) m h asked
    ask_apart (NeedsClass x) m lacks asked = absurd (cc asked)
    ask_apart (NeedsMark l) m lacks asked = absurd (cc asked)
    ask_apart (NeedsOthersOut l) m lacks asked = absurd (cc asked)
    ask_apart NeedsAck m lacks asked = absurd (cc asked)

    -- after the entry, by what it takes
    abbrev After : Input → Type 0
    After i = Apart (by_sent_up (asked_by_sent o) e.sent (by_taken_down (asked_by_taken o) i (is_object_asked o es)))
        (unless_flushed o i (by_sent_up (resident_by_sent o) e.sent (by_taken_down (resident_by_taken o) i (is_resident o es))))

    apart_by : (asked resident : Bool) (i : Input) → by_sent_up (asked_by_sent o) e.sent (by_taken_down (asked_by_taken o) i (is_object_asked o es)) ≡ asked
        → by_sent_up (resident_by_sent o) e.sent (by_taken_down (resident_by_taken o) i (is_resident o es)) ≡ resident → Apart asked (unless_flushed o i resident) → After i
    apart_by asked resident i same_asked same_resident apart = λ is. ap (unless_flushed o i) same_resident ∙ apart (sym same_asked ∙ is)

    apart_need : (index : ℕ) (t : ThreadId) (request : Request) (need : Option Need) → IsLacking es need → DoesOrAsks p c t request need before later e es → After (input.Act index)
    apart_need index t request None lacks does = apart_by _ _ (input.Act index)
        (said_does (asked_by_sent o) asked_leaves p c before later e es t request does (is_object_asked o es)) (said_does (resident_by_sent o) resident_leaves p c before later e es t request does (is_resident o es))
        (recorded p t (Act t request does.reply (woken_by request does.reply es)) (ending_of (Act t request does.reply (woken_by request does.reply es)) (locks_of t es)) es (is_object_asked o es) (is_resident o es) h)
    apart_need index t request (Some need) lacks asks = apart_by _ _ (input.Act index)
        (said_asks (asked_by_sent o) asked_leaves p c before later e es need asks (is_object_asked o es)) (said_asks (resident_by_sent o) resident_leaves p c before later e es need asks (is_resident o es))
        (ask_apart need asks.message lacks asks.asked)

    apart_acts : (index : ℕ) (t : ThreadId) (request : Option Request) → ActsOn p c t request before later e es → After (input.Act index)
    apart_acts index t None step = absurd step
    apart_acts index t (Some request) step = apart_need index t request (unmet p c before t request es) (lacking p c before t es request) step

    apart_told : (m : Down) → Apart (asked_by_taken o m (is_object_asked o es)) (resident_by_taken o m (is_resident o es))
    apart_told (down.Object body) = come (eqb body.object o) (is_object_asked o es) (is_resident o es) h
    apart_told m = h

    flushed : (x : ℕ) → Apart (is_object_asked o es) (unless_flushed o (input.Flush x) (is_resident o es))
    flushed x = by (eqb x o)
      where
        by : (here : Bool) → Apart (is_object_asked o es) (cond here false (is_resident o es))
        by true = λ is. refl
        by false = h

    apart_step : (i : Input) → ClientStepOn p c i before later e es → After i
    apart_step (input.Act index) step = apart_acts index (record { client = c; index = index }) (before (record { client = c; index = index })) step.acts
    apart_step (input.TookDown m) step = apart_by _ _ (input.TookDown m) (said_taken (asked_by_sent o) asked_leaves p c before later e es step.sends (asked_by_taken o m (is_object_asked o es)))
        (said_taken (resident_by_sent o) resident_leaves p c before later e es step.sends (resident_by_taken o m (is_resident o es))) (apart_told m)
    apart_step (input.Flush x) step = apart_by (is_object_asked o es) (is_resident o es) (input.Flush x) (ap (λ out. by_sent_up (asked_by_sent o) out (is_object_asked o es)) step.sends)
        (ap (λ out. by_sent_up (resident_by_sent o) out (is_resident o es)) step.sends) (flushed x)
    apart_step (input.Rejoin d) step = apart_by (is_object_asked o es) (is_resident o es) (input.Rejoin d) (ap (λ out. by_sent_up (asked_by_sent o) out (is_object_asked o es)) step.sends)
        (ap (λ out. by_sent_up (resident_by_sent o) out (is_resident o es)) step.sends) h
    apart_step i step = absurd step

pub asked_is_absent : AskedIsAbsent
asked_is_absent p c next [] o run = λ never. absurd (cc never)
asked_is_absent p c next (e ∷ es) o run = apart_step o p c (next_in next es) (next_in next (e ∷ es)) e es (asked_is_absent p c next es o run.0) e.input run.1
