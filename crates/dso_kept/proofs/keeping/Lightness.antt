-- A record that an entry applies can be kept: the journal isn't heavy, so the record is short.
use Rattle.std.specs.List.{All, AllByRecursion, list_any, sum_by}
use Rattle.std.specs.Option.{IfSome}
use Rattle.std.proofs.Common.{ℕ, ◌+◌, ◌<◌, ◌≤◌, ◌≡◌, ◌||◌, refl, sym, subst, Bool, true, false, cond, eqb, Option, None, List, [], ◌∷◌, length, arith}
use Rattle.std.proofs.lemmas.List.Elements.{All-filter, All-from_recursion, recursion_from_All}
use Rattle.std.proofs.lemmas.List.Sums.{sum_by-cons}
use Rattle.dso_base.specs.declared.journal.Entry.{Entry}
use Rattle.dso_base.specs.declared.journal.Input.{Input}
use Rattle.dso_base.specs.declared.journal.Input.TheVariants as input
use Rattle.dso_base.specs.declared.journal.Node.{Node}
use Rattle.dso_base.specs.declared.journal.Node.TheVariants.{Server, Client}
use Rattle.dso_base.specs.declared.lock.ThreadId.{ThreadId}
use Rattle.dso_base.specs.declared.message.Up.{Up}
use Rattle.dso_base.specs.declared.message.Up.TheVariants as up
use Rattle.dso_base.specs.declared.record.Body.{Body}
use Rattle.dso_base.specs.declared.record.Choice.{Choice}
use Rattle.dso_base.specs.declared.record.Choice.TheVariants as choice
use Rattle.dso_base.specs.declared.record.Txn.{Txn}
use Rattle.dso_base.specs.declared.request.Event.{Event}
use Rattle.dso_base.specs.declared.request.Request.{Request}
use Rattle.dso_base.specs.Following.{is_thread}
use Rattle.dso_base.specs.Weight.{body_values_of, entry_weight_of, txn_values_of}
use Rattle.dso_law.specs.Channels.{IsFirst, TakesFirst, up_in_flight}
use Rattle.dso_law.specs.Entries.{entries_of}
use Rattle.dso_law.specs.FitsUp.{FitsChoice, FitsNote, FitsRecord}
use Rattle.dso_law.specs.ServerReadings.{counted, is_lost}
use Rattle.dso_law.specs.ServerStep.{HeardOrLost, ServerStepOn}
use Rattle.dso_law.specs.Settings.{Settings, threads_of}
use Rattle.dso_legal.specs.Lawful.{IsLawful, MayFollow, NodeFollows}
use Rattle.dso_legal.specs.RecordsLight.{IsLight, RecordsAreLight}
use Rattle.dso_legal.specs.Slots.{is_any, weight}
use Rattle.dso_plain.proofs.keys.SameKeys.{same_thread}
use Rattle.dso_wire.specs.CanGo.{BodyCanGo, ChoiceCanGo, NoteCanGo}
use Rattle.dso_wire.specs.Spelling.{IsThread}
use Rattle.dso_wire.proofs.Lengths.{is_short}
use Rattle.dso_kept.specs.Keeping.{CanBeKept, record_applied, record_told}
use Rattle.dso_kept.proofs.keeping.Adding.{brought, none_by_client}

-- what holds of each of these threads holds of one that is found among them
of_found : (P : ThreadId → Type 0) (t : ThreadId) (ts : List ThreadId) → AllByRecursion P ts → list_any (is_thread t) ts ≡ true → P t
of_found P t [] all found = absurd (cc found)
of_found P t (u ∷ ts) all found = by (is_thread t u) refl found (of_found P t ts all.1)
  where
    by : (here : Bool) → is_thread t u ≡ here → (here || list_any (is_thread t) ts) ≡ true → (list_any (is_thread t) ts ≡ true → P t) → P t
    by true same e later = subst P (same_thread t u same) all.0
    by false other e later = later e

-- no body has more values than all have
each_below : (most : ℕ) (news : List Body) → sum_by body_values_of news ≤ most → AllByRecursion (λ body. length body.values ≤ most) news
each_below most [] le = tt
each_below most (body ∷ news) le =
    let total : sum_by body_values_of (body ∷ news) ≡ body_values_of body + sum_by body_values_of news = sum_by-cons body_values_of body news in
    (omega (arith, le, total), each_below most news (omega (arith, le, total)))

each_so : {X : Type 0} (P Q : X → Type 0) → ((x : X) → P x → Q x) → (xs : List X) → AllByRecursion P xs → AllByRecursion Q xs
each_so P Q then [] all = tt
each_so P Q then (x ∷ xs) all = (then x all.0, each_so P Q then xs all.1)

-- what can be kept if it is there can be if it counts
if_counts : (b : Bool) (r : Option (ℕ × Txn)) → IfSome r CanBeKept → IfSome (cond b r None) CanBeKept
if_counts true r can = can
if_counts false r can = tt

-- entries weigh the same however they are counted
same_weight : (es : List Entry) → sum_by entry_weight_of es ≡ weight es
same_weight [] = refl
same_weight (e ∷ es) = omega (arith, sum_by-cons entry_weight_of e es, same_weight es)

module _ (p : Settings) (numbered : All IsThread p.threads) where
  of_client : (c : ℕ) (t : ThreadId) → list_any (is_thread t) (threads_of p c) ≡ true → IsThread t
  of_client c t found = of_found IsThread t (threads_of p c) (recursion_from_All IsThread (threads_of p c) (All-filter (λ u. eqb u.client c) IsThread p.threads numbered)) found

  choice_can : (c : ℕ) (woken : Choice) → FitsChoice p c woken → ChoiceCanGo woken
  choice_can c (choice.Here t) fits = of_client c t fits
  choice_can c choice.There fits = tt
  choice_can c choice.All fits = tt

  -- a record that fits and has not much can be kept
  light_can : (c : ℕ) (txn : Txn) (own : List Entry) → FitsRecord p c txn own → length txn.news + length txn.notes + txn_values_of txn < 4000000 → CanBeKept (c, txn)
  light_can c txn own fits few = (
    record {
      thread = of_client c txn.thread fits.thread;
      news = (
        omega (arith, few),
        All-from_recursion BodyCanGo txn.news (each_so (λ body. length body.values ≤ 4000000) BodyCanGo (λ body le. (omega (arith, le), λ i d less. tt)) txn.news
            (each_below 4000000 txn.news (omega (arith, few)))),
      );
      sets = (omega (arith, few), λ i d less. tt);
      outs = (omega (arith, few), λ i d less. tt);
      notes = (omega (arith, few), All-from_recursion NoteCanGo txn.notes (each_so (FitsNote p c own) NoteCanGo (λ note fit. choice_can c note.choice fit.1) txn.notes fits.notes));
    },
    omega (arith, few, is_short txn),
  )

  module _ (light : RecordsAreLight) (next : ThreadId → List Event → Option Request) (e : Entry) (es : List Entry) (lawful : IsLawful p next es) (few : weight es < 4000000) where
    told_can : (c : ℕ) (m : Up) → HeardOrLost p c m false e (counted (entries_of Server es)) → IsLight (sum_by entry_weight_of es) m → IfSome (record_told c m) CanBeKept
    told_can c (up.Commit txn) heard le = light_can c txn (counted (entries_of Server es)) heard.fits (omega (arith, few, le, same_weight es))
    told_can c up.IdAsk heard le = tt
    told_can c (up.Fault o) heard le = tt
    told_can c (up.Flushed o) heard le = tt
    told_can c (up.Request l level) heard le = tt
    told_can c (up.Return l threads) heard le = tt

    by_loss : (c : ℕ) (m : Up) (lost : Bool) → HeardOrLost p c m lost e (counted (entries_of Server es)) → IsFirst m (up_in_flight c es) → IfSome (cond (is_any e.sent) (record_told c m) None) CanBeKept
    by_loss c m true silent first = subst (λ sent. IfSome (cond (is_any sent) (record_told c m) None) CanBeKept) (sym silent) tt
    by_loss c m false heard first = if_counts (is_any e.sent) (record_told c m) (told_can c m heard (light p next es lawful c m first))

    by_entry : (i : Input) → ServerStepOn p i e (entries_of Server es) → TakesFirst i Server es → IfSome (cond (is_any e.sent) (brought i) None) CanBeKept
    by_entry (input.TookUp c m) step first = by_loss c m (is_lost c (entries_of Server es)) step.heard first
    by_entry (input.Lose c) step first = if_counts (is_any e.sent) None tt
    by_entry (input.Break c) step first = if_counts (is_any e.sent) None tt
    by_entry (input.Rejoin c) step first = if_counts (is_any e.sent) None tt
    by_entry i step first = absurd step

    at_node : (node : Node) → NodeFollows p next node e es → TakesFirst e.input node es → IfSome (record_applied e) CanBeKept
    at_node Server follows first = by_entry e.input follows.step first
    at_node (Client c) follows first =
        subst (λ r. IfSome (cond (is_any e.sent) r None) CanBeKept) (sym (none_by_client p next c e es e.input follows.step)) (if_counts (is_any e.sent) None tt)

    pub can_be_kept : MayFollow p next e es → IfSome (record_applied e) CanBeKept
    can_be_kept may = at_node e.node may.rule may.channels
