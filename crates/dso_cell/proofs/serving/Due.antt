-- Which triggers are due, by the server's entries.
use Rattle.std.specs.List.{list_any}
use Rattle.std.proofs.Common.{ℕ, zero, suc, ◌+◌, ◌≤◌, ◌≡◌, inl, inr, refl, sym, ◌∙◌, ap, subst, Bool, true, false, eqb, ◌||◌, Option, Some, None, List, [], ◌∷◌, slice_get, arith}
use Rattle.std.proofs.lemmas.Bool.{eq-eqb}
use Rattle.std.proofs.lemmas.List.Folds.{list_any-append}
use Rattle.dso_base.specs.declared.journal.Entry.{Entry}
use Rattle.dso_base.specs.declared.journal.Trigger.{Trigger}
use Rattle.dso_lookup.proofs.Tests.{left_holds, right_holds}
use Rattle.dso_law.specs.Channels.{breaks, count_inputs}
use Rattle.dso_law.specs.ServerReadings.{is_break_due, is_loss_due, is_lost, taken_count}
use Rattle.dso_law.specs.Settings.{Settings, up_to}
use Rattle.dso_server.specs.declared.server.Server as core
use Rattle.dso_server.specs.ServerStands.{ServerStands}
use Rattle.dso_server.specs.Triggers.{AreTriggersOf, break_due_by, loss_due_by}
use Rattle.dso_cell.specs.declared.due.Due.{Due}
use Rattle.dso_cell.specs.declared.due.Mishap.TheVariants as mishap
use Rattle.dso_cell.specs.declared.server_end.ServerEnd.{ServerEnd}
use Rattle.dso_cell.specs.Clusters.{Cluster}
use Rattle.dso_cell.specs.ServerCells.{HasNoneDue, ServerEndStands}
use Rattle.dso_cell.specs.ServerSteps.{HaveNoneDue, IsDue, IsFirstDue, IsOneDue}

-- ---- who is a client
pub is_client : (n c : ℕ) → 1 ≤ c → c ≤ n → list_any (eqb c) (up_to n) ≡ true
is_client zero c low high = absurd (omega (arith, low, high))
is_client (suc n) c low high = list_any-append (eqb c) (up_to n) (suc n ∷ []) ∙ by (eqb c (suc n)) refl (λ lower. is_client n c low lower)
  where
    last : (its : Bool) → its ≡ true → (its || false) ≡ true
    last true is = refl
    last false is = is

    by : (its : Bool) → eqb c (suc n) ≡ its → (c ≤ n → list_any (eqb c) (up_to n) ≡ true) → (list_any (eqb c) (up_to n) || (eqb c (suc n) || false)) ≡ true
    by true is before = right_holds (list_any (eqb c) (up_to n)) (eqb c (suc n) || false) (last (eqb c (suc n)) is)
    by false is before =
        let apart : c ≡ suc n → ⊥ = λ same. cc (sym is ∙ eq-eqb c (suc n) same) in
        left_holds (list_any (eqb c) (up_to n)) (eqb c (suc n) || false) (before (omega (arith, high, apart)))

-- ---- what is told at a place
pub none_at : (kept : core.Server) (place c : ℕ) (ends : List ServerEnd) (end : ServerEnd) → slice_get ends place ≡ Some end → HaveNoneDue kept c ends → HasNoneDue kept (c + place) end
none_at kept zero c [] end at none = absurd (cc at)
none_at kept zero c (one ∷ ends) end at none =
    let same : one ≡ end = cc at in
    let here : c ≡ c + 0 = omega arith in
    subst (λ n. HasNoneDue kept n end) here (subst (HasNoneDue kept c) same none.0)
none_at kept (suc place) c [] end at none = absurd (cc at)
none_at kept (suc place) c (one ∷ ends) end at none =
    let next : suc c + place ≡ c + suc place = omega arith in
    subst (λ n. HasNoneDue kept n end) next (none_at kept place (suc c) ends end at none.1)

-- whose trigger is due
pub record Owed (kept : core.Server) (c : ℕ) (due : Due) (ends : List ServerEnd) : Type 0 where
  pub place : ℕ
  pub end : ServerEnd
  pub its : due.client ≡ c + place
  pub there : slice_get ends place ≡ Some end
  pub is_due : IsDue kept due.client due.mishap end

pub owed : (kept : core.Server) (c : ℕ) (due : Due) (ends : List ServerEnd) → IsOneDue kept c due ends → Owed kept c due ends
owed kept c due [] one = absurd one
owed kept c due (end ∷ ends) (inl here) = record { place = 0; end = end; its = here.0 ∙ omega arith; there = refl; is_due = subst (λ n. IsDue kept n due.mishap end) (sym here.0) here.1 }
owed kept c due (end ∷ ends) (inr later) =
    let rest = owed kept (suc c) due ends later in
    record { place = suc rest.place; end = rest.end; its = rest.its ∙ omega arith; there = rest.there; is_due = rest.is_due }

-- ---- by the entries
module _ (cluster : Cluster) (c : ℕ) (es : List Entry) (kept : core.Server) (end : ServerEnd) (stands : ServerStands cluster.settings kept es) (its : ServerEndStands cluster c es end) where
  accepted : end.port.session.accepted ≡ taken_count c es
  accepted = its.line.end.accepted

  pub no_loss : HasNoneDue kept c end → is_loss_due cluster.settings c es ≡ false
  no_loss none = subst (λ n. loss_due_by c n (is_lost c es) cluster.settings.losses ≡ false) accepted (none cluster.settings es stands cluster.settings.losses cluster.settings.breaks its.triggers).0

  pub no_break : HasNoneDue kept c end → is_break_due cluster.settings c es ≡ false
  no_break none =
      subst (λ b. break_due_by c (taken_count c es) (is_lost c es) b (count_inputs (breaks c) es) cluster.settings.breaks ≡ false) (sym (no_loss none))
      (subst (λ n. break_due_by c (taken_count c es) (is_lost c es) false n cluster.settings.breaks ≡ false) its.line.epoch
      (subst (λ n. break_due_by c n (is_lost c es) false end.port.session.epoch cluster.settings.breaks ≡ false) accepted
      (none cluster.settings es stands cluster.settings.losses cluster.settings.breaks its.triggers).1))

  pub loss_due : IsDue kept c mishap.Loss end → is_loss_due cluster.settings c es ≡ true
  loss_due due = subst (λ n. loss_due_by c n (is_lost c es) cluster.settings.losses ≡ true) accepted (due cluster.settings es stands cluster.settings.losses cluster.settings.breaks its.triggers)

  pub break_due : IsDue kept c mishap.Break end → is_break_due cluster.settings c es ≡ true
  break_due due =
      subst (λ n. break_due_by c (taken_count c es) (is_lost c es) (loss_due_by c (taken_count c es) (is_lost c es) cluster.settings.losses) n cluster.settings.breaks ≡ true) its.line.epoch
      (subst (λ n. break_due_by c n (is_lost c es) (loss_due_by c n (is_lost c es) cluster.settings.losses) end.port.session.epoch cluster.settings.breaks ≡ true) accepted
      (due cluster.settings es stands cluster.settings.losses cluster.settings.breaks its.triggers))

-- ---- what is told of triggers
module _ (kept : core.Server) (c : ℕ) (end : ServerEnd) (taken : ℕ) (lost loss : Bool)
    (taken_is : taken ≡ end.port.session.accepted)
    (lost_is : (p : Settings) (es : List Entry) → ServerStands p kept es → lost ≡ is_lost c es)
    (loss_is : (c : ℕ) (losses breaks : List Trigger) → AreTriggersOf c losses breaks end.triggers → loss ≡ loss_due_by c taken lost losses) where
  loss_told : (p : Settings) (es : List Entry) → ServerStands p kept es → (losses breaks : List Trigger) → AreTriggersOf c losses breaks end.triggers
      → loss ≡ loss_due_by c end.port.session.accepted (is_lost c es) losses
  loss_told p es stands losses breaks its =
      loss_is c losses breaks its ∙ ap (λ n. loss_due_by c n lost losses) taken_is ∙ ap (λ b. loss_due_by c end.port.session.accepted b losses) (lost_is p es stands)

  pub told_loss : loss ≡ true → IsDue kept c mishap.Loss end
  told_loss is = λ p es stands losses breaks its. sym (loss_told p es stands losses breaks its) ∙ is

  module _ (broke : ℕ) (due : Bool) (broke_is : broke ≡ end.port.session.epoch)
      (due_is : (c : ℕ) (losses breaks : List Trigger) → AreTriggersOf c losses breaks end.triggers → due ≡ break_due_by c taken lost loss broke breaks) where
    due_told : (p : Settings) (es : List Entry) → ServerStands p kept es → (losses breaks : List Trigger) → AreTriggersOf c losses breaks end.triggers
        → due ≡ break_due_by c end.port.session.accepted (is_lost c es) loss end.port.session.epoch breaks
    due_told p es stands losses breaks its =
        due_is c losses breaks its ∙ ap (λ n. break_due_by c n lost loss broke breaks) taken_is
        ∙ ap (λ b. break_due_by c end.port.session.accepted b loss broke breaks) (lost_is p es stands)
        ∙ ap (λ n. break_due_by c end.port.session.accepted (is_lost c es) loss n breaks) broke_is

    pub told_break : due ≡ true → IsDue kept c mishap.Break end
    told_break is = λ p es stands losses breaks its.
        ap (λ b. break_due_by c end.port.session.accepted (is_lost c es) b end.port.session.epoch breaks) (sym (loss_told p es stands losses breaks its))
        ∙ sym (due_told p es stands losses breaks its) ∙ is

    pub told_none : loss ≡ false → due ≡ false → HasNoneDue kept c end
    told_none no_loss no_break = λ p es stands losses breaks its. (
      sym (loss_told p es stands losses breaks its) ∙ no_loss,
      ap (λ b. break_due_by c end.port.session.accepted (is_lost c es) b end.port.session.epoch breaks) (sym no_loss) ∙ sym (due_told p es stands losses breaks its) ∙ no_break,
    )

-- none of the first client, and then of the others
pub due_behind : (kept : core.Server) (c : ℕ) (first : Option Due) (end : ServerEnd) (ends : List ServerEnd) → HasNoneDue kept c end → IsFirstDue kept (c + 1) first ends → IsFirstDue kept c first (end ∷ ends)
due_behind kept c None end ends none rest = let next : c + 1 ≡ suc c = omega arith in (none, subst (λ n. HaveNoneDue kept n ends) next rest)
due_behind kept c (Some due) end ends none rest = let next : c + 1 ≡ suc c = omega arith in inr (subst (λ n. IsOneDue kept n due ends) next rest)
