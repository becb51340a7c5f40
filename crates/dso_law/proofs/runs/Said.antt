-- What an entry's messages make of a reading that returns and requests of locks leave alone: a record alone counts, or what is
-- asked, or the flush.
use Rattle.std.proofs.Common.{ℕ, ◌≡◌, refl, ◌∙◌, ap, Bool, true, false, cond, not, ◌&&◌, Option, Some, List, [], ◌∷◌, ◌++◌, map}
use Rattle.std.specs.List.{list_any}
use Rattle.dso_base.specs.declared.journal.Entry.{Entry}
use Rattle.dso_base.specs.declared.journal.Sent.TheVariants.{ToServer}
use Rattle.dso_base.specs.declared.lock.Level.{Level}
use Rattle.dso_base.specs.declared.lock.Level.TheVariants.{Write}
use Rattle.dso_base.specs.declared.lock.LockName.{LockName}
use Rattle.dso_base.specs.declared.lock.ThreadId.{ThreadId}
use Rattle.dso_base.specs.declared.message.Up.{Up}
use Rattle.dso_base.specs.declared.message.Up.TheVariants as up
use Rattle.dso_base.specs.declared.request.Event.TheVariants.{Act}
use Rattle.dso_base.specs.declared.request.Request.{Request}
use Rattle.dso_base.specs.declared.request.Request.TheVariants.{Enter}
use Rattle.dso_plain.specs.KeyTests.{is_lock}
use Rattle.dso_law.specs.Settings.{Settings}
use Rattle.dso_law.specs.Entries.{unsent, by_sent_up}
use Rattle.dso_law.specs.ClientWaiters.{client_list}
use Rattle.dso_law.specs.Closing.{is_closing, due}
use Rattle.dso_law.specs.RequestNeeds.{Need}
use Rattle.dso_law.specs.Replies.{woken_by}
use Rattle.dso_law.specs.ClientStep.{commits, returns, asks_again, Does, Asks}

-- messages of locks leave the reading alone
pub record LeavesLocks {S : Type 0} (step : Up → S → S) : Type 0 where
  pub request : (l : LockName) (level : Level) (s : S) → step (up.Request l level) s ≡ s
  pub return_of : (l : LockName) (threads : List ThreadId) (s : S) → step (up.Return l threads) s ≡ s

module _ {S : Type 0} (step : Up → S → S) (leaves : LeavesLocks step) where
  -- two parts, one after the other
  in_parts : (a b : List Up) (s : S) → by_sent_up step (map ToServer (a ++ b)) s ≡ by_sent_up step (map ToServer b) (by_sent_up step (map ToServer a) s)
  in_parts [] b s = refl
  in_parts (m ∷ a) b s = in_parts a b (step m s)

  given_back : (list : LockName → List ThreadId) (locks : List LockName) (s : S) → by_sent_up step (map ToServer (map (λ k. up.Return k (list k)) locks)) s ≡ s
  given_back list [] s = refl
  given_back list (k ∷ locks) s = ap (by_sent_up step (map ToServer (map (λ k. up.Return k (list k)) locks))) (leaves.return_of k (list k) s) ∙ given_back list locks s

  module _ (p : Settings) (c : ℕ) (before later : ThreadId → Option Request) (e : Entry) (es : List Entry) where
    returns_left : (s : S) → by_sent_up step (map ToServer (returns p c later (unsent e ∷ es))) s ≡ s
    returns_left s = given_back (λ k. client_list k (unsent e ∷ es)) (due p c later (unsent e ∷ es)) s

    again_if : (k : LockName) (b : Bool) (s : S) → by_sent_up step (map ToServer (cond b (up.Request k Write ∷ []) [])) s ≡ s
    again_if k true s = leaves.request k Write s
    again_if k false s = refl

    again_left : (request : Option Request) (s : S) → by_sent_up step (map ToServer (asks_again p c before later request (unsent e ∷ es) es)) s ≡ s
    again_left (Some (Enter k Write)) s = again_if k (not (is_closing p c before k es) && list_any (is_lock k) (due p c later (unsent e ∷ es))) s
    again_left request s = refl

    -- an entry that does what was requested: by its record
    pub said_does : (t : ThreadId) (request : Request) (does : Does p c t request before later e es) (s : S)
        → by_sent_up step e.sent s ≡ by_sent_up step (map ToServer (commits p t (Act t request does.reply (woken_by request does.reply es)) es)) s
    said_does t request does s =
        let record_part : List Up = commits p t (Act t request does.reply (woken_by request does.reply es)) es in
        let again : List Up = asks_again p c before later (later t) (unsent e ∷ es) es in
        ap (λ out. by_sent_up step out s) does.sends
        ∙ in_parts (record_part ++ returns p c later (unsent e ∷ es)) again s
        ∙ again_left (later t) (by_sent_up step (map ToServer (record_part ++ returns p c later (unsent e ∷ es))) s)
        ∙ in_parts record_part (returns p c later (unsent e ∷ es)) s
        ∙ returns_left (by_sent_up step (map ToServer record_part) s)

    -- one that asks: by what it asks
    pub said_asks : (need : Need) (asks : Asks p c need later e es) (s : S) → by_sent_up step e.sent s ≡ step asks.message s
    said_asks need asks s = ap (λ out. by_sent_up step out s) asks.sends ∙ in_parts (returns p c later (unsent e ∷ es)) (asks.message ∷ []) s ∙ ap (step asks.message) (returns_left s)

    -- one that takes a message leaves it
    pub said_taken : e.sent ≡ map ToServer (returns p c later (unsent e ∷ es)) → (s : S) → by_sent_up step e.sent s ≡ s
    said_taken sends s = ap (λ out. by_sent_up step out s) sends ∙ returns_left s
