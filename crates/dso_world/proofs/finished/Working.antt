-- Whether a client keeps the run going, by what is counted: messages sent and taken, and threads that go on.
use Rattle.std.specs.List.{AllByRecursion}
use Rattle.std.proofs.Common.{ℕ, ◌≤◌, ◌≡◌, ◌≢◌, refl, sym, ◌∙◌, ap, Bool, true, false, eqb, ltb, not, ◌&&◌, ◌||◌, is_some, None, List, length, arith}
use Rattle.std.specs.Prelude.{count_by}
use Rattle.std.proofs.lemmas.Bool.{eqb-false, eqb-true, le-ltb}
use Rattle.dso_base.specs.declared.journal.Entry.{Entry}
use Rattle.dso_base.specs.declared.journal.Node.TheVariants.{Server, Client}
use Rattle.dso_law.specs.Settings.{Settings, threads_of}
use Rattle.dso_law.specs.Channels.{down_in_flight, to_client, to_server, up_in_flight}
use Rattle.dso_law.specs.ClientRun.{next_in}
use Rattle.dso_law.specs.Entries.{entries_of}
use Rattle.dso_law.specs.ServerReadings.{is_lost}
use Rattle.dso_machine.specs.declared.code.Code.{Code}
use Rattle.dso_machine.specs.Next.{body_of, next_request}
use Rattle.dso_machine.specs.Sound.{IsSoundCode}
use Rattle.dso_legal.specs.Lawful.{IsLawful}
use Rattle.dso_legal.specs.Slots.{is_any, is_loss_or_break_due}
use Rattle.dso_base.specs.declared.both.Both.{Both}
use Rattle.dso_base.specs.declared.both.Both.TheVariants as both
use Rattle.dso_world.specs.Busy.{is_busy, is_working}
use Rattle.dso_world.specs.LinkStands.{Past}
use Rattle.dso_world.specs.PastOf.{letters_posted, letters_taken, past_of}
use Rattle.dso_world.proofs.journals.Letters.{any_left, letters_are_left}
use Rattle.dso_world.proofs.links.Ends.{below}
use Rattle.dso_world.proofs.finished.Ended.{alive_is}

-- a message is left exactly where more were sent than taken
left_is : (taken sent : ℕ) → taken ≤ sent → ltb taken sent ≡ not (eqb sent taken)
left_is taken sent few = by (eqb sent taken) refl
  where
    by : (all : Bool) → eqb sent taken ≡ all → ltb taken sent ≡ not all
    by true same = le-ltb taken sent (let at : sent ≡ taken = eqb-true sent taken same in omega (arith, at))
    by false other = below taken sent (omega (arith, few, eqb-false sent taken other))

-- the test of what is left, as it is told
told_so : (lost on all_up all_down : Bool) → (not lost && (on || not (lost || not (not all_up || not all_down)))) ≡ (not lost && (not (all_up && all_down) || on))
told_so true on all_up all_down = refl
told_so false true true true = refl
told_so false false true true = refl
told_so false true true false = refl
told_so false false true false = refl
told_so false true false all_down = refl
told_so false false false all_down = refl

module _ (code : Code) (sound : IsSoundCode code) (p : Settings) (shaped : p.shape ≡ code.shape) (there : AllByRecursion (λ t. body_of t code.bodies ≢ None) p.threads)
    (es : List Entry) (lawful : IsLawful p (next_request code) es) (c : ℕ) where
  abbrev past : Past Both
  past = past_of both.Up both.Down c es

  module _ (up_sent up_taken down_sent down_taken alive : ℕ) (up_all : up_sent ≡ length past.up) (up_heard : up_taken ≡ past.up_taken) (up_few : past.up_taken ≤ length past.up)
      (down_all : down_sent ≡ length past.down) (down_heard : down_taken ≡ past.down_taken) (down_few : past.down_taken ≤ length past.down)
      (on : alive ≡ count_by (λ t. is_some (next_in (next_request code) (entries_of (Client c) es) t)) (threads_of p c)) where
    up_left : is_any (up_in_flight c es) ≡ not (eqb up_sent up_taken)
    up_left = any_left both.Up (letters_taken (to_server c) es) (letters_posted (to_server c) es) (up_in_flight c es) ((letters_are_left {M = Both}).up p (next_request code) es lawful.follow c).left
        ∙ left_is past.up_taken (length past.up) up_few ∙ ap (λ n. not (eqb n past.up_taken)) (sym up_all) ∙ ap (λ n. not (eqb up_sent n)) (sym up_heard)

    down_left : is_any (down_in_flight c es) ≡ not (eqb down_sent down_taken)
    down_left = any_left both.Down (letters_taken (to_client c) es) (letters_posted (to_client c) es) (down_in_flight c es) ((letters_are_left {M = Both}).down p (next_request code) es lawful.follow c).left
        ∙ left_is past.down_taken (length past.down) down_few ∙ ap (λ n. not (eqb n past.down_taken)) (sym down_all) ∙ ap (λ n. not (eqb down_sent n)) (sym down_heard)

    -- A client is working exactly where it isn't lost, and not all that was sent was taken or one of its threads goes on.
    pub working_is : is_working p c es ≡ (not (is_lost c (entries_of Server es)) && (not (eqb up_sent up_taken && eqb down_sent down_taken) || ltb 0 alive))
    working_is =
        let lost = is_lost c (entries_of Server es) in
        ap (λ b. not lost && (b || not (lost || not (is_any (up_in_flight c es) || is_any (down_in_flight c es))))) (alive_is code sound p shaped es lawful.follow c there alive on)
        ∙ ap (λ b. not lost && (ltb 0 alive || not (lost || not (b || is_any (down_in_flight c es))))) up_left
        ∙ ap (λ b. not lost && (ltb 0 alive || not (lost || not (not (eqb up_sent up_taken) || b)))) down_left
        ∙ told_so lost (ltb 0 alive) (eqb up_sent up_taken) (eqb down_sent down_taken)

    -- And it is busy where a trigger is due or it is working.
    pub busy_is : is_busy p c es ≡ (is_loss_or_break_due p c es || (not (is_lost c (entries_of Server es)) && (not (eqb up_sent up_taken && eqb down_sent down_taken) || ltb 0 alive)))
    busy_is = ap (λ b. is_loss_or_break_due p c es || b) working_is
