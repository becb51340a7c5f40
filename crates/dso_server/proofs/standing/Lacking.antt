-- What the server lacks after an entry.
use Rattle.std.specs.List.{list_any}
use Rattle.std.proofs.Common.{ℕ, ◌≡◌, ◌≢◌, inl, inr, refl, sym, ◌∙◌, ap, subst, Bool, true, false, cond, eqb, Option, None, Some, List, [], ◌∷◌}
use Rattle.std.proofs.lemmas.Bool.{or_parts}
use Rattle.dso_base.specs.declared.journal.Entry.{Entry}
use Rattle.dso_base.specs.declared.journal.Sent.{Sent}
use Rattle.dso_base.specs.declared.message.Down.{Down}
use Rattle.dso_base.specs.declared.message.Up.{Up}
use Rattle.dso_base.specs.declared.message.Up.TheVariants as up
use Rattle.dso_base.specs.declared.record.Body.{Body}
use Rattle.dso_base.specs.declared.record.Set.{Set}
use Rattle.dso_base.specs.Block.{has_reference}
use Rattle.dso_base.specs.Naming.{body_with_names, up_names}
use Rattle.dso_law.specs.ServerReadings.{counted, is_lost}
use Rattle.dso_law.specs.Settings.{Settings}
use Rattle.dso_law.specs.Store.{body_by, body_by_news, body_by_sets, body_with, stored}
use Rattle.dso_server.specs.declared.server.Server.{Server}
use Rattle.dso_server.specs.declared.taken.Taken.{Taken}
use Rattle.dso_server.specs.declared.taken.Taken.TheVariants.{Done, Gone, BadMessage}
use Rattle.dso_server.specs.Answering.{IsTaken, WasTaken}
use Rattle.dso_server.specs.Lacking.{Lacks, LacksNothing}
use Rattle.dso_server.specs.Laws.{NamedIsKnown, NothingIsLackedLater}
use Rattle.dso_server.specs.Sending.{sent_of, took}
use Rattle.dso_server.specs.ServerStands.{GraphStands}
use Rattle.dso_server.proofs.standing.Taking.{counts}
use Rattle.dso_store.specs.Graph.{body_in}

-- what is lacked with a message of a client that isn't lost was lacked before
pub lacked_before : (p : Settings) (old new : Server) (clock c : ℕ) (m : Up) (sent : List Sent) (es : List Entry) → is_lost c es ≡ false
    → body_in new.store ≡ (λ o. body_by o c m (body_in old.store o)) → GraphStands p old.store (counted es)
    → (o : ℕ) → Lacks p new (took clock c m sent ∷ es) o → Lacks p old es o
lacked_before p old new clock c m sent es here bodies s o lacks =
    let there : body_by o c m (stored p.shape o (counted es)) ≢ None = subst (λ xs. stored p.shape o xs ≢ None) (counts clock c m sent es here) lacks.0 in
    let none : body_by o c m (body_in old.store o) ≡ None = sym (ap (λ f. f o) bodies) ∙ lacks.1 in
    let other : body_in old.store o ≢ stored p.shape o (counted es) = λ same. there (ap (body_by o c m) (sym same) ∙ none) in
    elim (s.bodies o) [ inl same ↦ absurd (other same) | inr lacked ↦ ((λ unstored. other (lacked ∙ sym unstored)), lacked) ]

-- without a body of it, records that don't name an object give it none
without_news : (o : ℕ) (bodies : List Body) → list_any (λ body. body_with_names body o) bodies ≡ false → body_by_news o bodies None ≡ None
without_news o [] unnamed = refl
without_news o (body ∷ bodies) unnamed =
    let parts = or_parts (body_with_names body o) (list_any (λ body. body_with_names body o) bodies) unnamed in
    let own = or_parts (eqb body.object o) (has_reference o body.values) parts.0 in
    ap (λ b. body_by_news o bodies (cond b (Some body) None)) own.0 ∙ without_news o bodies parts.1

without_sets : (o : ℕ) (sets : List Set) → body_by_sets o sets None ≡ None
without_sets o [] = refl
without_sets o (set ∷ sets) = ap (body_by_sets o sets) (either (eqb set.object o)) ∙ without_sets o sets
  where
    either : (b : Bool) → cond b (body_with set None) None ≡ None
    either true = refl
    either false = refl

without_body : (o c : ℕ) (m : Up) → up_names m o ≡ false → body_by o c m None ≡ None
without_body o c up.IdAsk unnamed = refl
without_body o c (up.Fault x) unnamed = refl
without_body o c (up.Flushed x) unnamed = refl
without_body o c (up.Request l level) unnamed = refl
without_body o c (up.Return l threads) unnamed = refl
without_body o c (up.Commit txn) unnamed =
    let parts = or_parts (list_any (λ body. body_with_names body o) txn.news) _ unnamed in
    ap (body_by_sets o txn.sets) (without_news o txn.news parts.0) ∙ without_sets o txn.sets

-- what a server has no body of it gets none of by a message that doesn't name it
pub lacked_later : (old new : Server) (c : ℕ) (m : Up) → body_in new.store ≡ (λ o. body_by o c m (body_in old.store o))
    → (o : ℕ) → up_names m o ≡ false → body_in old.store o ≡ None → body_in new.store o ≡ None
lacked_later old new c m bodies o unnamed none = ap (λ f. f o) bodies ∙ (ap (body_by o c m) none ∙ without_body o c m unnamed)

pub named_is_known : NamedIsKnown
named_is_known p server c m es nothing here o named = nothing o

pub nothing_is_lacked_later : NothingIsLackedLater
nothing_is_lacked_later p old new es later stands before nothing o = elim (stands.store.bodies o) [
  | inl same ↦ same
  | inr none ↦ by (stored p.shape o (counted later)) refl none
]
  where
    by : (found : Option Body) → stored p.shape o (counted later) ≡ found → body_in new.store o ≡ None → body_in new.store o ≡ found
    by None e none = none
    by (Some body) e none =
        let was = before o ((λ unstored. cc (sym e ∙ unstored)), none) in
        absurd (was.0 (sym (nothing o) ∙ was.1))

-- a server that lacks nothing lacks nothing with a message that it took
pub taken_lacks_nothing : (p : Settings) (clock c : ℕ) (m : Up) (taken : Taken) (messages : List (ℕ × Down)) (old new : Server) (es : List Entry) → WasTaken taken
    → IsTaken p c m taken messages old new es → LacksNothing p old es → LacksNothing p new (took clock c m (sent_of messages) ∷ es)
taken_lacks_nothing p clock c m Done messages old new es was taken nothing o =
    nothing_is_lacked_later p old new es (took clock c m (sent_of messages) ∷ es) (taken.2.stands clock) (taken.2.lacks clock) nothing o
taken_lacks_nothing p clock c m Gone messages old new es was taken nothing o =
    let same : counted es ≡ counted (took clock c m (sent_of messages) ∷ es) = sym (ap (λ b. cond b (counted es) (took clock c m (sent_of messages) ∷ counted es)) taken.0) in
    ap (λ server. body_in server.store o) taken.1.1 ∙ (nothing o ∙ ap (stored p.shape o) same)
taken_lacks_nothing p clock c m (BadMessage tag) messages old new es was taken nothing o = absurd was
