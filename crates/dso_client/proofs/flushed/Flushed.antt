-- What stands after a flush.
use Rattle.std.proofs.Common.{◌≡◌, ℕ, ◌-◌, refl, sym, ◌∙◌, ap, subst, Bool, true, false, cond, eqb, is_some, Option, Some, None, List, ◌∷◌, ◌≤◌}
use Rattle.std.proofs.lemmas.Bool.{eqb-true}
use Rattle.std.specs.Cmp.{unsigned_tied}
use Rattle.dso_base.specs.declared.journal.Entry.{Entry}
use Rattle.dso_lookup.specs.Maps.{or_old}
use Rattle.dso_law.specs.Settings.{Settings}
use Rattle.dso_law.specs.Copies.{is_resident, is_object_asked}
use Rattle.dso_law.specs.HeldBody.{held_body}
use Rattle.dso_law.specs.ResidentCount.{resident_count}
use Rattle.dso_law.specs.ClientStep.{ClientStep, MayFlush}
use Rattle.dso_law.specs.ClientRun.{next_in}
use Rattle.dso_law.proofs.core.Bodies.{bodies_are_held}
use Rattle.dso_law.proofs.core.Counts.{residents_are_counted}
use Rattle.dso_machine.specs.declared.code.Code.{Code}
use Rattle.dso_machine.specs.Next.{next_request}
use Rattle.dso_table.specs.declared.slot.ObjectStanding.{ObjectStanding}
use Rattle.dso_table.specs.declared.slot.ObjectStanding.TheVariants.{Asked, Resident}
use Rattle.dso_law.specs.Records.{records}
use Rattle.dso_table.specs.declared.tables.ObjectTables.{ObjectTables}
use Rattle.dso_table.specs.States as states
use Rattle.dso_table.specs.States.{State, body_of, is_asked, with_at, flushed}
use Rattle.dso_table.specs.ObjectTables.{state_in}
use Rattle.dso_client.specs.declared.client_state.ClientState.{ClientState}
use Rattle.dso_client.specs.declared.thread_context.ThreadContext.{ThreadContext}
use Rattle.dso_client.specs.ClientStands.{ClientStands, point}
use Rattle.dso_client.specs.Entries.{flush_entry}
use Rattle.dso_client.specs.ContextStands.{ContextStands}
use Rattle.dso_client.specs.TableStands.{TableStands}
use Rattle.dso_client.proofs.contexts.AtStart.{all_as}
use Rattle.dso_client.proofs.facts.All.{run_facts}

-- a function with another value at one number
pub at_number : {V : Type 0} (o : ℕ) (new : V) (old : ℕ → V) (x : ℕ) → with_at o new old x ≡ cond (eqb o x) new (old x)
at_number {V} o new old x = ap (λ b. or_old (cond b (Some new) None) (old x)) (unsigned_tied o x) ∙ by (eqb o x)
  where
    by : (b : Bool) → or_old (cond b (Some new) None) (old x) ≡ cond b new (old x)
    by true = refl
    by false = refl

-- a resident object isn't asked for
pub not_asked : (standing : Option ObjectStanding) → states.is_resident standing ≡ true → is_asked standing ≡ false
not_asked None e = refl
not_asked (Some standing) e = there standing e
  where
    there : (standing : ObjectStanding) → states.is_resident (Some standing) ≡ true → is_asked (Some standing) ≡ false
    there Asked e = absurd (cc e)
    there (Resident body) e = refl

module _ (code : Code) (p : Settings) (c clock o : ℕ) (es : List Entry) where
  abbrev after : List Entry
  after = flush_entry clock c o ∷ es

  context_after : (context : ThreadContext) → ContextStands (point code p c es) context → ContextStands (point code p c after) context
  context_after context h = record { next = h.next; work = h.work; seen = h.seen; waiting = h.waiting; marked = h.marked; last = h.last }

  table_after : (old new : ObjectTables) → TableStands (point code p c es) old → is_resident o es ≡ true → state_in new ≡ flushed o (state_in old)
      → TableStands (point code p c after) new
  table_after old new h there is = record {
    bodies = λ x. ap (λ (s : State). body_of (s.standing x)) is ∙ (ap body_of (at_number o None (state_in old).standing x) ∙ bodies x (eqb o x));
    asked = λ x. ap (λ (s : State). is_asked (s.standing x)) is ∙ (ap is_asked (at_number o None (state_in old).standing x) ∙ asked x (eqb o x) refl);
    marks = λ x. ap (λ (s : State). s.marks x) is ∙ h.marks x;
    opened = λ t x. ap (λ (s : State). s.opened (t, x)) is ∙ h.opened t x;
    wanted = λ t x. ap (λ (s : State). s.wanted (t, x)) is ∙ h.wanted t x;
    room = ap (λ (s : State). s.limit) is ∙ h.room;
    count = ap (λ (s : State). s.residents) is ∙ (ap (λ n. n - 1) h.count ∙ ap (λ b. cond b (resident_count es - 1) (resident_count es)) (sym ((residents_are_counted es).has o ∙ there)));
    acked = subst (λ n. n ≤ records es) (sym (ap (λ (s : State). s.acked) is)) h.acked;
    order = ap (λ (s : State). s.used) is ∙ ap (states.without o) h.order;
  }
    where
      bodies : (x : ℕ) (b : Bool) → body_of (cond b None ((state_in old).standing x)) ≡ cond b None (held_body x es)
      bodies x true = refl
      bodies x false = h.bodies x

      asked : (x : ℕ) (b : Bool) → eqb o x ≡ b → is_asked (cond b None ((state_in old).standing x)) ≡ is_object_asked x es
      asked x true same =
          let it : o ≡ x = eqb-true o x same in
          let resident : states.is_resident ((state_in old).standing x) ≡ true = ap is_some (h.bodies x) ∙ ((bodies_are_held x es).resident ∙ (ap (λ n. is_resident n es) (sym it) ∙ there)) in
          sym (not_asked ((state_in old).standing x) resident) ∙ h.asked x
      asked x false same = h.asked x

  pub stands_flushed : (old new : ClientState) → ClientStands code p c old es → MayFlush p c o es → is_resident o es ≡ true
      → state_in new.table ≡ flushed o (state_in old.table) → new ≡ record old { table = new.table } → ClientStands code p c new after
  stands_flushed old new h may there is same =
      let step : ClientStep p c (next_in (next_request code) es) (next_in (next_request code) after) (flush_entry clock c o) es = record { may = may; event = refl; sends = refl } in
      subst (λ kept. ClientStands code p c kept after) (sym same) (record {
        shape = h.shape;
        run = (h.run, step);
        parts = record {
          number = h.parts.number;
          places = h.parts.places;
          numbered = h.parts.numbered;
          contexts = all_as (ContextStands (point code p c es)) (ContextStands (point code p c after)) context_after old.contexts.items h.parts.contexts;
          table = table_after old.table new.table h.parts.table there is;
          lock_state = record { holds = h.parts.lock_state.holds; leases = h.parts.lock_state.leases; lists = h.parts.lock_state.lists };
          sequences = record {
            ids = h.parts.sequences.ids;
            bounded = h.parts.sequences.bounded;
            end = h.parts.sequences.end;
            asking = h.parts.sequences.asking;
            records = h.parts.sequences.records;
            unacked = h.parts.sequences.unacked;
          };
          facts = run_facts p c (next_request code) after (h.run, step);
        };
        threads = h.threads;
      })
