-- Where all stands, each thread of a client that isn't lost sees the one heap as it is, and its next act is possible there.
use Rattle.std.specs.List.{list_any}
use Rattle.std.proofs.Common.{ℕ, ◌≡◌, refl, subst, false, Option, Some, None, List}
use Rattle.dso_base.specs.declared.journal.Entry.{Entry}
use Rattle.dso_base.specs.declared.journal.Node.TheVariants.{Server, Client}
use Rattle.dso_base.specs.declared.lock.ThreadId.{ThreadId}
use Rattle.dso_base.specs.declared.request.Event.{Event}
use Rattle.dso_base.specs.declared.request.Event.TheVariants.{Act}
use Rattle.dso_base.specs.declared.request.Reply.{Reply}
use Rattle.dso_base.specs.declared.request.Request.{Request}
use Rattle.dso_plain.specs.History.{end_of}
use Rattle.dso_plain.specs.Possible.{MayButMarks}
use Rattle.dso_law.specs.Channels.{down_in_flight}
use Rattle.dso_law.specs.Entries.{entries_of, events_in}
use Rattle.dso_law.specs.RequestNeeds.{unmet}
use Rattle.dso_law.specs.Replies.{reply_of, woken_by}
use Rattle.dso_law.specs.ServerReadings.{is_lost}
use Rattle.dso_law.specs.Settings.{Settings}
use Rattle.dso_law.specs.Threads.{open_block, ends_thread}
use Rattle.dso_legal.specs.Agreement.{messages}
use Rattle.dso_legal.specs.CopiesStand.{state_at, CopiesStand}
use Rattle.dso_legal.specs.Lawful.{next_after, AllFollow}
use Rattle.dso_legal.specs.SoundProgram.{AsksSoundly}
use Rattle.dso_legal.specs.Views.{Sees}
use Rattle.dso_legal.proofs.acts.Acts.{acts_are_possible}
use Rattle.dso_legal.proofs.blocks.Orderly.{is_orderly}
use Rattle.dso_legal.proofs.copies.SeesCopies.{sees_copy}
use Rattle.dso_legal.proofs.line.StandsOn.{AllStand, ActsCan, runs_on, holds_seen, acts_from}
use Rattle.dso_legal.proofs.blocks.ThreadHistory.{names_known, fresh, going, not_lost}
use Rattle.dso_legal.proofs.fitting.Untold.{all_untold, keeps_to}

-- The copies of all clients that aren't lost stand.
abbrev pub AllCopies : Settings → List Entry → Type 0
AllCopies p es = (c : ℕ) → is_lost c (entries_of Server es) ≡ false → CopiesStand p.shape c (state_at p c es) (messages (down_in_flight c es)) (entries_of (Client c) es)

module _ (p : Settings) (next : ThreadId → List Event → Option Request) (es : List Entry) (follow : AllFollow p next es) (sound : AsksSoundly p.shape next) (stand : AllStand p es) (copies : AllCopies p es) where
  -- What a thread that hasn't ended sees.
  pub sees_all : (t : ThreadId) → is_lost t.client (entries_of Server es) ≡ false → list_any ends_thread (events_in t (entries_of (Client t.client) es)) ≡ false
      → Sees p t (entries_of (Client t.client) es) (state_at p t.client es) (end_of p.shape (open_block t (entries_of (Client t.client) es)) (state_at p t.client es))
  sees_all t alive goes = record {
    past = (acts_from p next es follow stand t.client alive t refl).past;
    holds = holds_seen p next es follow stand t.client alive t refl;
    work = (acts_from p next es follow stand t.client alive t refl).tells;
    copies = λ o foreign here. sees_copy p t (open_block t (entries_of (Client t.client) es)) (state_at p t.client es) (end_of p.shape (open_block t (entries_of (Client t.client) es)) (state_at p t.client es))
        (messages (down_in_flight t.client es)) (entries_of (Client t.client) es) (acts_from p next es follow stand t.client alive t refl) (copies t.client alive) o here;
    fresh = fresh p next es follow t alive (runs_on p next es follow stand t alive).history (runs_on p next es follow stand t alive).pending (runs_on p next es follow stand t alive).opened;
    names = names_known p next es follow t alive (runs_on p next es follow stand t alive).history (runs_on p next es follow stand t alive).pending (runs_on p next es follow stand t alive).opened sound (all_untold p next sound es follow);
    connected = not_lost p next es follow t alive (runs_on p next es follow stand t alive).history (runs_on p next es follow stand t alive).pending (runs_on p next es follow stand t alive).opened;
    going = going p next es follow t alive (runs_on p next es follow stand t alive).history (runs_on p next es follow stand t alive).pending (runs_on p next es follow stand t alive).opened goes;
  }

  module _ (t : ThreadId) (request : Request) (reply : Reply) (asked : next_after next es t ≡ Some request) where
    -- what the client answers is possible
    can_at : is_lost t.client (entries_of Server es) ≡ false → unmet p t.client (next_after next es) t request (entries_of (Client t.client) es) ≡ None → reply_of p t request (entries_of (Client t.client) es) ≡ Some reply
        → MayButMarks p.shape (Act t request reply (woken_by request reply (entries_of (Client t.client) es))) (end_of p.shape (open_block t (entries_of (Client t.client) es)) (state_at p t.client es))
    can_at alive met answered = acts_are_possible p (next_after next es) t request reply (entries_of (Client t.client) es) (state_at p t.client es) (end_of p.shape (open_block t (entries_of (Client t.client) es)) (state_at p t.client es))
        (sees_all t alive (keeps_to p next sound es follow t request asked).goes) (is_orderly p next sound es follow t (all_untold p next sound es follow t)) (keeps_to p next sound es follow t request asked) met answered

    can : (c : ℕ) → t.client ≡ c → is_lost c (entries_of Server es) ≡ false → unmet p c (next_after next es) t request (entries_of (Client c) es) ≡ None → reply_of p t request (entries_of (Client c) es) ≡ Some reply
        → MayButMarks p.shape (Act t request reply (woken_by request reply (entries_of (Client c) es))) (end_of p.shape (open_block t (entries_of (Client c) es)) (state_at p c es))
    can c its = subst (λ n. is_lost n (entries_of Server es) ≡ false → unmet p n (next_after next es) t request (entries_of (Client n) es) ≡ None → reply_of p t request (entries_of (Client n) es) ≡ Some reply
        → MayButMarks p.shape (Act t request reply (woken_by request reply (entries_of (Client n) es))) (end_of p.shape (open_block t (entries_of (Client n) es)) (state_at p n es))) its can_at

  -- The next act of each client is possible.
  pub acts_can : (e : Entry) → ActsCan p next e es
  acts_can e c at alive it = can it.thread it.request it.reply it.asked c it.its alive it.met it.answered
