-- The holds once a request was answered.
use Rattle.std.proofs.Common.{◌≡◌, ℕ, refl, sym, ◌∙◌, ap, arith, ◌-◌, Bool, true, false, cond, ◌&&◌, Option, Some, None}
use Rattle.std.proofs.lemmas.Bool.{le-ltb}
use Rattle.std.specs.BTreeMap.{is_at}
use Rattle.std.specs.Option.{option_map}
use Rattle.dso_base.specs.declared.lock.LockName.{LockName}
use Rattle.dso_base.specs.declared.lock.ThreadId.{ThreadId}
use Rattle.dso_base.specs.Following.{is_thread}
use Rattle.dso_hold.specs.declared.held.Held.{Held}
use Rattle.dso_hold.specs.declared.tables.HoldTables.{HoldTables}
use Rattle.dso_hold.specs.Holds as hold
use Rattle.dso_lookup.specs.Maps.{or_old}
use Rattle.dso_lookup.specs.Orders.{thread_order}
use Rattle.dso_plain.specs.KeyTests.{is_lock}
use Rattle.dso_plain.proofs.keys.SameKeys.{same_thread, thread_self}
use Rattle.dso_plain.proofs.keys.TableOrders.{lock_at, thread_at}
use Rattle.dso_law.specs.Threads.{hold_in, with_hold, hold_of, locks_of, locks_by}
use Rattle.dso_law.proofs.client.ClientLaws.{holds_after}
use Rattle.dso_client.specs.declared.answered.Answered.{Answered}
use Rattle.dso_client.specs.ActEffects.{applied, HoldsStand}
use Rattle.dso_client.specs.LockStateStands.{as_hold}
use Rattle.dso_client.specs.RunPoints.{RunPoint}

-- as many exits as there were entries leave no hold
pub none_left : (held : Option Held) → hold.exited (hold.count_at held) held ≡ None
none_left None = refl
none_left (Some held) = ap (λ b. cond b (Some (record held { count = held.count - held.count })) None) (le-ltb held.count held.count (omega arith))

-- one thread isn't another, either way
differ_too : (t u : ThreadId) (b : Bool) → is_thread t u ≡ b → is_thread u t ≡ false → is_thread t u ≡ false
differ_too t u false e differ = e
differ_too t u true e differ = absurd (cc (sym (ap (λ k. is_thread k t) (same_thread t u e) ∙ thread_self t) ∙ differ))

-- one hold of the acting thread was changed
pub hold_changed : (clock : ℕ) (at : RunPoint) (act : Answered) (l : LockName) (held : Option Held) (old new : HoldTables) → HoldsStand at old
    → hold.hold_in new ≡ hold.with_hold l act.thread held (hold.hold_in old)
    → (locks_by act.request act.reply (locks_of act.thread at.entries)).holds ≡ with_hold l (option_map as_hold held) (locks_of act.thread at.entries).holds
    → HoldsStand (applied clock act at) new
hold_changed clock at act l held old new h is changes u x = ap (λ f. option_map as_hold (f (x, u))) is ∙ by (is_thread u act.thread) refl
  where
    t : ThreadId
    t = act.thread

    place : hold.is_place l t (x, u) ≡ (is_lock l x && is_thread t u)
    place = ap (λ b. b && is_at (thread_order t) u) (lock_at l x) ∙ ap (λ b. is_lock l x && b) (thread_at t u)

    apart : (b : Bool) → option_map as_hold (or_old (cond (b && false) (Some held) None) (hold.hold_in old (x, u))) ≡ hold_of u x at.entries
    apart true = h u x
    apart false = h u x

    its : (b : Bool) → option_map as_hold (or_old (cond (b && true) (Some held) None) (hold.hold_in old (x, u))) ≡ cond b (option_map as_hold held) (hold_of u x at.entries)
    its true = refl
    its false = h u x

    by : (b : Bool) → is_thread u t ≡ b → option_map as_hold (or_old (cond (hold.is_place l t (x, u)) (Some held) None) (hold.hold_in old (x, u)))
        ≡ hold_in x (cond b (locks_by act.request act.reply (locks_of u at.entries)) (locks_of u at.entries)).holds
    by false e = ap (λ b. option_map as_hold (or_old (cond b (Some held) None) (hold.hold_in old (x, u)))) (place ∙ ap (λ b. is_lock l x && b) (differ_too t u (is_thread t u) refl e)) ∙ apart (is_lock l x)
    by true e =
        let same : t ≡ u = same_thread u t e in
        ap (λ b. option_map as_hold (or_old (cond b (Some held) None) (hold.hold_in old (x, u)))) (place ∙ ap (λ b. is_lock l x && b) (ap (λ k. is_thread t k) (sym same) ∙ thread_self t))
        ∙ (its (is_lock l x) ∙ (ap (λ k. cond (is_lock l x) (option_map as_hold held) (hold_of k x at.entries)) (sym same)
        ∙ (sym (holds_after l x (option_map as_hold held) (locks_of t at.entries).holds)
        ∙ (ap (hold_in x) (sym changes) ∙ ap (λ k. hold_in x (locks_by act.request act.reply (locks_of k at.entries)).holds) same))))
