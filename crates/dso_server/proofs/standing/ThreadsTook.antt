-- The threads after one more entry.
use Rattle.std.proofs.Common.{ℕ, ◌≡◌, refl, sym, ◌∙◌, ap, Bool, true, false, cond, ◌&&◌, ◌||◌, Option, Some, List, ◌∷◌}
use Rattle.std.proofs.Math.Path.{fun_ext}
use Rattle.std.specs.BTreeMap.{BTreeMap}
use Rattle.dso_base.specs.declared.journal.Entry.{Entry}
use Rattle.dso_base.specs.declared.journal.Sent.{Sent}
use Rattle.dso_base.specs.declared.lock.ThreadId.{ThreadId}
use Rattle.dso_base.specs.declared.message.Up.{Up}
use Rattle.dso_base.specs.declared.message.Up.TheVariants as up
use Rattle.dso_base.specs.declared.record.Ending.{Ending}
use Rattle.dso_base.specs.declared.record.Txn.{Txn}
use Rattle.dso_base.specs.Following.{is_thread}
use Rattle.dso_law.specs.ServerReadings.{ended_by, is_end, is_ended, last_ending, last_ending_by}
use Rattle.dso_law.specs.Settings.{Settings}
use Rattle.dso_plain.proofs.keys.SameKeys.{same_thread}
use Rattle.dso_server.specs.Sending.{took}
use Rattle.dso_server.specs.ServerStands.{ThreadsStand}
use Rattle.dso_server.specs.Threads.{ends_there, known_in, last_in}

-- a message that is no record
pub threads_same : (p : Settings) (threads : BTreeMap ThreadId (Option Ending)) (clock c : ℕ) (m : Up) (sent : List Sent) (es : List Entry)
    → ((t : ThreadId) (last : Option Ending) → last_ending_by t c m last ≡ last) → ((t : ThreadId) (ended : Bool) → ended_by t c m ended ≡ ended)
    → ThreadsStand p threads es → ThreadsStand p threads (took clock c m sent ∷ es)
threads_same p threads clock c m sent es kept still s = record {
  known = s.known;
  last = s.last ∙ fun_ext (λ t. sym (kept t (last_ending t es)));
  ended = λ t. still t (is_ended t es) ∙ (s.ended t ∙ ap ends_there (sym (kept t (last_ending t es))));
}

-- a record of a thread that hasn't ended
pub threads_ended : (p : Settings) (old new : BTreeMap ThreadId (Option Ending)) (clock c : ℕ) (txn : Txn) (sent : List Sent) (es : List Entry)
    → known_in old txn.thread ≡ true → is_ended txn.thread es ≡ false
    → known_in new ≡ (λ t. cond (is_thread t txn.thread) true (known_in old t)) → last_in new ≡ (λ t. cond (is_thread t txn.thread) (Some txn.ending) (last_in old t))
    → ThreadsStand p old es → ThreadsStand p new (took clock c (up.Commit txn) sent ∷ es)
threads_ended p old new clock c txn sent es there going known last s = record {
  known = known ∙ (fun_ext (λ t. known_by t (is_thread t txn.thread) refl) ∙ s.known);
  last = last ∙ ap (λ f t. cond (is_thread t txn.thread) (Some txn.ending) (f t)) s.last;
  ended = λ t. ended_now t (is_thread t txn.thread) refl;
}
  where
    known_by : (t : ThreadId) (b : Bool) → is_thread t txn.thread ≡ b → cond b true (known_in old t) ≡ known_in old t
    known_by t true e = sym there ∙ ap (λ u. known_in old u) (same_thread t txn.thread e)
    known_by t false e = refl

    or_end : (b e : Bool) → b ≡ false → (e || b) ≡ e
    or_end true e h = absurd (cc h)
    or_end false true h = refl
    or_end false false h = refl

    ended_now : (t : ThreadId) (b : Bool) → is_thread t txn.thread ≡ b → ((b && is_end txn.ending) || is_ended t es) ≡ ends_there (cond b (Some txn.ending) (last_ending t es))
    ended_now t true e = or_end (is_ended t es) (is_end txn.ending) (ap (λ u. is_ended u es) (sym (same_thread t txn.thread e)) ∙ going)
    ended_now t false e = s.ended t
