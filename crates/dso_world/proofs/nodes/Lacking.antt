-- What the server lacks once the nodes made their step.
use Rattle.std.proofs.Common.{ℕ, ◌≡◌, ◌≢◌, ◌↔◌, refl, sym, ◌∙◌, ap, subst, Bool, true, false, cond, eqb, Option, Some, None, List, [], ◌∷◌}
use Rattle.dso_base.specs.declared.journal.Entry.{Entry}
use Rattle.dso_base.specs.declared.message.Down.{Down}
use Rattle.dso_base.specs.declared.message.Up.{Up}
use Rattle.dso_base.specs.declared.message.Up.TheVariants as up
use Rattle.dso_base.specs.declared.record.Body.{Body}
use Rattle.dso_base.specs.declared.record.Set.{Set}
use Rattle.dso_base.specs.Naming.{up_names}
use Rattle.dso_class.specs.declared.program.Program.{Program}
use Rattle.dso_law.specs.ServerReadings.{counted}
use Rattle.dso_law.specs.Settings.{Settings}
use Rattle.dso_law.specs.Store.{body_by, body_by_news, body_by_sets, body_with, stored}
use Rattle.dso_legal.specs.Lawful.{IsLawful}
use Rattle.dso_legal.proofs.programs.SoundCode.{sound_program}
use Rattle.dso_machine.specs.Frames.{frames_after}
use Rattle.dso_machine.specs.Next.{next_request}
use Rattle.dso_machine.proofs.frames.Law.{keeps_frames}
use Rattle.dso_server.specs.declared.server.Server.{Server}
use Rattle.dso_server.specs.declared.taken.Taken.{Taken}
use Rattle.dso_server.specs.declared.taken.Taken.TheVariants.{Done, Gone, BadMessage}
use Rattle.dso_server.specs.Answering.{IsTaken, WasTaken}
use Rattle.dso_server.specs.Lacking.{KnowsNamed, Lacks}
use Rattle.dso_server.specs.Sending.{sent_of, took}
use Rattle.dso_server.proofs.standing.Taking.{counts}
use Rattle.dso_store.specs.Graph.{body_in}
use Rattle.dso_world.specs.ClientSteps.{IsJournal}
use Rattle.dso_world.specs.NodeSteps.{LacksAsBefore}
use Rattle.dso_world.specs.NodesStand.{LacksGarbage}
use Rattle.dso_world.specs.WorldSteps.{settings_of}
use Rattle.dso_gc_law.proofs.garbage.Lacking.{lacked_stays_garbage}

module _ (program : Program) (es : List Entry) (journal : IsJournal program es) where
  -- what is lacked as before is garbage as before
  pub garbage_still : (entry : Entry) (old new : Server) → IsLawful (settings_of program) (next_request program.code) (entry ∷ es)
      → LacksAsBefore program entry old new es → LacksGarbage program old es → LacksGarbage program new (entry ∷ es)
  garbage_still entry old new lawful same garbage =
      lacked_stays_garbage (settings_of program) (next_request program.code) (frames_after program.code) (keeps_frames program.code journal.sound.code)
      (sound_program program.code journal.sound.code) entry es lawful.follow (body_in old.store) (body_in new.store) (λ o lacks. (same o).0 lacks) garbage

-- where bodies and what is stored are the same, the same is lacked
pub same_lacked : (p : Settings) (old new : Server) (before after : List Entry) → ((o : ℕ) → body_in new.store o ≡ body_in old.store o)
    → ((o : ℕ) → stored p.shape o (counted after) ≡ stored p.shape o (counted before)) → (o : ℕ) → Lacks p new after o ↔ Lacks p old before o
same_lacked p old new before after bodies kept o = (
  λ lacks. (λ none. lacks.0 (kept o ∙ none), sym (bodies o) ∙ lacks.1),
  λ lacks. (λ none. lacks.0 (sym (kept o) ∙ none), bodies o ∙ lacks.1),
)

-- ---- a message

-- What a message taken makes of a body that is there is there.
with_news : (o : ℕ) (bodies : List Body) (before : Option Body) → before ≢ None → body_by_news o bodies before ≢ None
with_news o [] before there = there
with_news o (body ∷ bodies) before there = with_news o bodies (cond (eqb body.object o) (Some body) before) (by (eqb body.object o))
  where
    by : (b : Bool) → cond b (Some body) before ≢ None
    by true none = absurd (cc none)
    by false none = there none

with_set : (set : Set) (before : Option Body) → before ≢ None → body_with set before ≢ None
with_set set None there = λ none. there refl
with_set set (Some body) there = λ none. absurd (cc none)

with_sets : (o : ℕ) (sets : List Set) (before : Option Body) → before ≢ None → body_by_sets o sets before ≢ None
with_sets o [] before there = there
with_sets o (set ∷ sets) before there = with_sets o sets (cond (eqb set.object o) (body_with set before) before) (by (eqb set.object o))
  where
    by : (b : Bool) → cond b (body_with set before) before ≢ None
    by true = with_set set before there
    by false = there

with_message : (o c : ℕ) (m : Up) (before : Option Body) → before ≢ None → body_by o c m before ≢ None
with_message o c up.IdAsk before there = there
with_message o c (up.Fault x) before there = there
with_message o c (up.Flushed x) before there = there
with_message o c (up.Request l level) before there = there
with_message o c (up.Return l threads) before there = there
with_message o c (up.Commit txn) before there = with_sets o txn.sets (body_by_news o txn.news before) (with_news o txn.news before there)

-- A message that names nothing lacked leaves what is lacked as it was.
pub taken_lacked : (p : Settings) (clock c : ℕ) (m : Up) (taken : Taken) (messages : List (ℕ × Down)) (old new : Server) (es : List Entry) → WasTaken taken
    → IsTaken p c m taken messages old new es → KnowsNamed p old c m es → (o : ℕ) → Lacks p new (took clock c m (sent_of messages) ∷ es) o ↔ Lacks p old es o
taken_lacked p clock c m Done messages old new es was taken named o = (taken.2.lacks clock o, λ lacks. (later lacks, none (up_names m o) refl lacks))
  where
    later : Lacks p old es o → stored p.shape o (counted (took clock c m (sent_of messages) ∷ es)) ≢ None
    later lacks = subst (λ xs. stored p.shape o xs ≢ None) (sym (counts clock c m (sent_of messages) es taken.0)) (with_message o c m (stored p.shape o (counted es)) lacks.0)

    none : (b : Bool) → up_names m o ≡ b → Lacks p old es o → body_in new.store o ≡ None
    none true named_so lacks = absurd (lacks.0 (sym (named taken.0 o named_so) ∙ lacks.1))
    none false unnamed lacks = taken.2.keeps o unnamed lacks.1
taken_lacked p clock c m Gone messages old new es was taken named o =
    same_lacked p old new es (took clock c m (sent_of messages) ∷ es) (λ x. ap (λ server. body_in server.store x) taken.1.1)
    (λ x. ap (stored p.shape x) (ap (λ b. cond b (counted es) (took clock c m (sent_of messages) ∷ counted es)) taken.0)) o
taken_lacked p clock c m (BadMessage tag) messages old new es was taken named o = absurd was
