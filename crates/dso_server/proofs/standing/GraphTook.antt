-- The graph after one more entry.
use Rattle.std.proofs.Common.{ℕ, ◌≡◌, ◌⊎◌, inl, inr, refl, sym, ◌∙◌, ap, subst, Bool, true, false, cond, eqb, Option, None, Some, List, [], ◌∷◌}
use Rattle.std.proofs.Math.Path.{fun_ext}
use Rattle.std.specs.List.{list_any}
use Rattle.dso_base.specs.declared.journal.Entry.{Entry}
use Rattle.dso_base.specs.declared.journal.Input.TheVariants.{TookUp, Lose}
use Rattle.dso_base.specs.declared.journal.Sent.{Sent}
use Rattle.dso_base.specs.declared.message.Up.{Up}
use Rattle.dso_base.specs.declared.message.Up.TheVariants as up
use Rattle.dso_base.specs.declared.record.Body.{Body}
use Rattle.dso_base.specs.declared.record.Set.{Set}
use Rattle.dso_law.specs.ServerReadings.{number_by}
use Rattle.dso_law.specs.Settings.{Settings, clients_of}
use Rattle.dso_law.specs.Store.{body_by, body_by_news, body_by_sets, body_with, held_by, held_by_message, stored}
use Rattle.dso_locks.specs.Locks.{IsClient}
use Rattle.dso_plain.proofs.keys.SameKeys.{same_number}
use Rattle.dso_store.specs.declared.store.Store.{Store}
use Rattle.dso_store.specs.Graph.{AreClients, body_in, holds_in, last_in}
use Rattle.dso_server.specs.Sending.{lost, took}
use Rattle.dso_server.specs.ServerStands.{GraphStands}

-- who holds an object after a message of a client is a client of the cluster
holders_within : (p : Settings) (c : ℕ) (m : Up) (holds : ℕ → ℕ → Bool) → IsClient p c → AreClients p holds → AreClients p (λ d o. held_by d o (TookUp c m) (holds d o))
holders_within p c m holds its within d o held = by (eqb d c) refl held
  where
    by : (b : Bool) → eqb d c ≡ b → cond b (held_by_message o m (holds d o)) (holds d o) ≡ true → list_any (eqb d) (clients_of p) ≡ true
    by true e held = subst (IsClient p) (sym (same_number d c e)) its
    by false e held = within d o held

-- Where there is no body, news and sets of a record leave it so, or make one whatever was there before.
news_of_none : (o : ℕ) (news : List Body) (before : Option Body) → (body_by_news o news before ≡ before) ⊎ ((body : Option Body) → body_by_news o news body ≡ body_by_news o news before)
news_of_none o [] before = inl refl
news_of_none o (made ∷ news) before = by (eqb made.object o) (news_of_none o news before)
  where
    by : (its : Bool) → (body_by_news o news before ≡ before) ⊎ ((body : Option Body) → body_by_news o news body ≡ body_by_news o news before)
        → (body_by_news o news (cond its (Some made) before) ≡ before) ⊎ ((body : Option Body) → body_by_news o news (cond its (Some made) body) ≡ body_by_news o news (cond its (Some made) before))
    by true rest = inr (λ body. refl)
    by false rest = rest

sets_of_none : (o : ℕ) (sets : List Set) → body_by_sets o sets None ≡ None
sets_of_none o [] = refl
sets_of_none o (set ∷ sets) = by (eqb set.object o) (sets_of_none o sets)
  where
    by : (its : Bool) → body_by_sets o sets None ≡ None → body_by_sets o sets (cond its (body_with set None) None) ≡ None
    by true rest = rest
    by false rest = rest

-- so any message
made_of_none : (o c : ℕ) (m : Up) → (body_by o c m None ≡ None) ⊎ ((body : Option Body) → body_by o c m body ≡ body_by o c m None)
made_of_none o c up.IdAsk = inl refl
made_of_none o c (up.Fault object) = inl refl
made_of_none o c (up.Flushed object) = inl refl
made_of_none o c (up.Request l level) = inl refl
made_of_none o c (up.Return l threads) = inl refl
made_of_none o c (up.Commit txn) = elim (news_of_none o txn.news None) [
  | inl none ↦ inl (ap (body_by_sets o txn.sets) none ∙ sets_of_none o txn.sets)
  | inr any ↦ inr (λ body. ap (body_by_sets o txn.sets) (any body))
]

-- the body after a message is the stored one or none, where it was so before
body_after : (o c : ℕ) (m : Up) (old new due : Option Body) → new ≡ body_by o c m old → (old ≡ due) ⊎ (old ≡ None) → (new ≡ body_by o c m due) ⊎ (new ≡ None)
body_after o c m old new due is (inl same) = inl (is ∙ ap (body_by o c m) same)
body_after o c m old new due is (inr none) = elim (made_of_none o c m) [
  | inl still ↦ inr (is ∙ (ap (body_by o c m) none ∙ still))
  | inr any ↦ inl (is ∙ (ap (body_by o c m) none ∙ sym (any due)))
]

-- a message of a client, by what it makes of the graph
pub graph_took : (p : Settings) (old new : Store) (clock c : ℕ) (m : Up) (sent : List Sent) (es : List Entry) → IsClient p c
    → body_in new ≡ (λ o. body_by o c m (body_in old o)) → holds_in new ≡ (λ d o. held_by d o (TookUp c m) (holds_in old d o)) → last_in new ≡ (λ d. number_by d c m (last_in old d))
    → GraphStands p old es → GraphStands p new (took clock c m sent ∷ es)
graph_took p old new clock c m sent es its bodies holds last s = record {
  bodies = λ o. body_after o c m (body_in old o) (body_in new o) (stored p.shape o es) (ap (λ f. f o) bodies) (s.bodies o);
  holds = holds ∙ ap (λ f d o. held_by d o (TookUp c m) (f d o)) s.holds;
  last = last ∙ ap (λ f d. number_by d c m (f d)) s.last;
  within = subst (AreClients p) (sym holds) (holders_within p c m (holds_in old) its s.within);
}

-- a message that makes nothing of it
pub graph_same : (p : Settings) (store : Store) (clock c : ℕ) (m : Up) (sent : List Sent) (es : List Entry) → IsClient p c
    → ((o : ℕ) (body : Option Body) → body_by o c m body ≡ body) → ((o : ℕ) (b : Bool) → held_by_message o m b ≡ b) → ((d n : ℕ) → number_by d c m n ≡ n)
    → GraphStands p store es → GraphStands p store (took clock c m sent ∷ es)
graph_same p store clock c m sent es its bodies holds last s = graph_took p store store clock c m sent es its
    (fun_ext (λ o. sym (bodies o (body_in store o)))) (fun_ext (λ d. fun_ext (λ o. by o (eqb d c) (holds_in store d o)))) (fun_ext (λ d. sym (last d (last_in store d)))) s
  where
    by : (o : ℕ) (b held : Bool) → held ≡ cond b (held_by_message o m held) held
    by o true held = sym (holds o held)
    by o false held = refl

-- a client is lost
pub graph_lost : (p : Settings) (old new : Store) (clock c : ℕ) (sent : List Sent) (es : List Entry)
    → body_in new ≡ body_in old → holds_in new ≡ (λ d o. held_by d o (Lose c) (holds_in old d o)) → last_in new ≡ last_in old
    → GraphStands p old es → GraphStands p new (lost clock c sent ∷ es)
graph_lost p old new clock c sent es bodies holds last s = record {
  bodies = λ o. elim (s.bodies o) [ inl same ↦ inl (ap (λ f. f o) bodies ∙ same) | inr none ↦ inr (ap (λ f. f o) bodies ∙ none) ];
  holds = holds ∙ ap (λ f d o. held_by d o (Lose c) (f d o)) s.holds;
  last = last ∙ s.last;
  within = subst (AreClients p) (sym holds) (λ d o held. by d o (eqb d c) held);
}
  where
    by : (d o : ℕ) (b : Bool) → cond b false (holds_in old d o) ≡ true → list_any (eqb d) (clients_of p) ≡ true
    by d o true held = absurd (cc held)
    by d o false held = s.within d o held
