-- The lists of waiters once a request was answered.
use Rattle.std.proofs.Common.{◌≡◌, ℕ, refl, sym, ◌∙◌, ap, Bool, true, false, cond, Some, None, List, []}
use Rattle.std.specs.BTreeMap.{BTreeMap, is_at}
use Rattle.std.specs.Option.{unwrap_or}
use Rattle.dso_base.specs.declared.lock.LockName.{LockName}
use Rattle.dso_base.specs.declared.lock.ThreadId.{ThreadId}
use Rattle.dso_lookup.specs.Maps.{look, writes, written}
use Rattle.dso_lookup.specs.Orders.{lock_order}
use Rattle.dso_plain.specs.KeyTests.{is_lock}
use Rattle.dso_plain.proofs.keys.SameKeys.{same_lock}
use Rattle.dso_law.specs.ClientWaiters.{client_list, list_by_act}
use Rattle.dso_client.specs.declared.answered.Answered.{Answered}
use Rattle.dso_client.specs.ActEffects.{applied, ListsStand, HasList}
use Rattle.dso_client.specs.LockStateStands.{list_at}
use Rattle.dso_client.specs.RunPoints.{RunPoint}
use Rattle.dso_client.proofs.heard.Locks.{at_lock}

-- a list that was taken out and put back as another one
pub list_put : (l : LockName) (list : List ThreadId) (old mid new : BTreeMap LockName (List ThreadId))
    → look lock_order mid ≡ written (writes (is_at (lock_order l)) (λ _. None)) (look lock_order old)
    → look lock_order new ≡ written (writes (is_at (lock_order l)) (λ _. Some list)) (look lock_order mid) → HasList l list old new
list_put l list old mid new gone there x = ap (λ f. unwrap_or (f x) []) there ∙ (ap (λ v. unwrap_or v []) (at_lock l (Some list) (look lock_order mid) x) ∙ by (is_lock x l) refl)
  where
    by : (b : Bool) → is_lock x l ≡ b → unwrap_or (cond b (Some list) (look lock_order mid x)) [] ≡ cond b list (list_at old x)
    by true e = refl
    by false e = ap (λ f. unwrap_or (f x) []) gone ∙ (ap (λ v. unwrap_or v []) (at_lock l None (look lock_order old) x) ∙ ap (λ b. unwrap_or (cond b None (look lock_order old x)) []) e)

-- a list that was changed so, and changes so by the act
pub list_applied : (clock : ℕ) (at : RunPoint) (act : Answered) (l : LockName) (change : List ThreadId → List ThreadId) (old new : BTreeMap LockName (List ThreadId)) → ListsStand at old
    → HasList l (change (list_at old l)) old new
    → ((x : LockName) → list_by_act x act.thread act.request act.reply act.woken (client_list x at.entries) ≡ cond (is_lock x l) (change (client_list x at.entries)) (client_list x at.entries))
    → ListsStand (applied clock act at) new
list_applied clock at act l change old new h has changes x = has x ∙ (by (is_lock x l) refl ∙ sym (changes x))
  where
    by : (b : Bool) → is_lock x l ≡ b → cond b (change (list_at old l)) (list_at old x) ≡ cond b (change (client_list x at.entries)) (client_list x at.entries)
    by true e = ap (λ k. change (list_at old k)) (same_lock x l e) ∙ ap change (h x)
    by false e = h x
