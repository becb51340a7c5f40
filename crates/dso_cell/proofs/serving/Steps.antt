-- What the entries of the server's turn make of its cell.
use Rattle.std.specs.Global.{Vec}
use Rattle.std.specs.Option.{option_map}
use Rattle.std.proofs.Common.{ℕ, zero, suc, ◌+◌, ◌<◌, ◌≡◌, refl, sym, ◌∙◌, ap, subst, Bool, true, false, max, not, Some, None, List, [], ◌∷◌, length, slice_get, arith}
use Rattle.std.proofs.lemmas.Bool.{eq-eqb}
use Rattle.dso_base.specs.declared.both.Both.TheVariants as both
use Rattle.dso_base.specs.declared.journal.Entry.{Entry}
use Rattle.dso_base.specs.declared.journal.Input.TheVariants as input
use Rattle.dso_base.specs.declared.message.Down.{Down}
use Rattle.dso_base.specs.declared.message.Up.{Up}
use Rattle.dso_law.specs.Channels.{is_broken}
use Rattle.dso_law.specs.FitsUp.{FitsUp}
use Rattle.dso_law.specs.ServerReadings.{counted, is_lost}
use Rattle.dso_law.specs.Settings.{Settings}
use Rattle.dso_locks.specs.Locks.{IsClient}
use Rattle.dso_machine.specs.declared.code.Code.{Code}
use Rattle.dso_log.specs.Logs.{next_clock}
use Rattle.dso_port.specs.declared.arrival.Arrival.TheVariants as arrival
use Rattle.dso_port.specs.Ports.{PortState, SameRings, all_posted}
use Rattle.dso_line.specs.Letters.{newest}
use Rattle.dso_line.proofs.standing.Logs.{clock_newest}
use Rattle.dso_line.proofs.standing.Posts as posts
use Rattle.dso_line.proofs.standing.Servers.{server_broken, server_heard, server_rejoined}
use Rattle.dso_server.specs.declared.server.Server as core
use Rattle.dso_server.specs.declared.taken.Taken.{Taken}
use Rattle.dso_server.specs.declared.taken.Taken.TheVariants.{Done, Gone, BadMessage}
use Rattle.dso_server.specs.Answering.{IsTaken, WasTaken}
use Rattle.dso_server.specs.Sending.{broke, lost, rejoined, sent_of, took}
use Rattle.dso_server.specs.ServerStands.{ServerStands}
use Rattle.dso_server.proofs.standing.ByRule.{breaks_change_nothing, lost_by_rule, lost_change_nothing, rejoins_change_nothing, taken_by_rule}
use Rattle.dso_server.proofs.standing.Lacking.{named_is_known, nothing_is_lacked_later, taken_lacks_nothing}
use Rattle.rtrb.specs.Ring.{SameConsumer, SameProducer}
use Rattle.dso_cell.specs.declared.due.Mishap.TheVariants as mishap
use Rattle.dso_cell.specs.declared.server_cell.ServerCell.{ServerCell}
use Rattle.dso_cell.specs.declared.server_end.ServerEnd.{ServerEnd}
use Rattle.dso_cell.specs.ServerCells.{HasNoneDue, ServerEndStands, ServerGoesOn}
use Rattle.dso_cell.specs.ServerEnds.{AreTold, HasLookedUp, OneChanged, told_to, with_break, with_end}
use Rattle.dso_cell.specs.ServerSteps.{HaveNoneDue, IsOneDue, ServerHasBroken, ServerHasHeard, ServerHasLost, ServerHasSaid, server_made, server_said}
use Rattle.dso_cell.proofs.serving.Cells.{Followed, end_at, end_on, ends_behind, ends_on, said_goes_on, same_rings}
use Rattle.dso_cell.proofs.serving.Due.{break_due, is_client, loss_due, no_break, no_loss, none_at, owed}
use Rattle.dso_cell.proofs.serving.Ends.{as_many, one_changed, subject, unmoved_left}
use Rattle.dso_cell.proofs.serving.Lines.{waited}
use Rattle.dso_cell.proofs.serving.Told.{same_length, same_messages, told_from}

not_true : (b : Bool) → not b ≡ true → b ≡ false
not_true true is = absurd (cc is)
not_true false is = refl

not_false : (b : Bool) → not b ≡ false → b ≡ true
not_false true is = refl
not_false false is = absurd (cc is)

-- a place is that of a client
within : (ends : List ServerEnd) (place : ℕ) (end : ServerEnd) → slice_get ends place ≡ Some end → place < length ends
within [] place end at = absurd (cc at)
within (one ∷ ends) zero end at = omega arith
within (one ∷ ends) (suc place) end at = omega (arith, within ends place end at)

client_at : (p : Settings) (c place : ℕ) (ends : List ServerEnd) (end : ServerEnd) → c ≡ 1 + place → slice_get ends place ≡ Some end → length ends ≡ p.clients → IsClient p c
client_at p c place ends end its there all = is_client p.clients c (omega (arith, its)) (omega (arith, its, all, within ends place end there))

told_many : (clock : ℕ) (messages : List (ℕ × Down)) (olds news : List ServerEnd) → AreTold clock messages olds news → length news ≡ length olds
told_many clock messages olds news told = same_length (λ place. told_to (suc place) clock messages) olds news told

-- ---- the end that changed, once the entry's messages were sent
module _ (c clock : ℕ) (messages : List (ℕ × Down)) (mid new : ServerEnd) (told : new ≡ told_to c clock messages mid) where
  out_same : new.port.out ≡ mid.port.out
  out_same = ap (λ (end : ServerEnd). end.port.out) told

  into_same : new.port.into ≡ mid.port.into
  into_same = ap (λ (end : ServerEnd). end.port.into) told

  posted_on : new.port.session ≡ all_posted both.Down clock (posts.messages_to c messages) mid.port.session
  posted_on = ap (λ (end : ServerEnd). end.port.session) told ∙ ap (λ list. all_posted both.Down clock list mid.port.session) (same_messages c messages)

  triggers_same : new.triggers ≡ mid.triggers
  triggers_same = ap (λ (end : ServerEnd). end.triggers) told

  rings_on : (old : PortState Down Up) → SameRings old mid.port → SameRings old new.port
  rings_on old rings = record {
    out = subst (λ x. SameProducer old.out x) (sym out_same) rings.out;
    into = subst (λ x. SameConsumer old.into x) (sym into_same) rings.into;
  }

-- ---- a message
module _ (p : Settings) (clock c : ℕ) (m : Up) (messages : List (ℕ × Down)) (old new : core.Server) (es : List Entry) where
  was_taken : (told : Taken) → (is_lost c es ≡ false → FitsUp p c m (counted es)) → IsTaken p c m told messages old new es → WasTaken told
  was_taken Done fits taken = tt
  was_taken Gone fits taken = tt
  was_taken (BadMessage tag) fits taken = absurd (taken.1 (fits taken.0))

  stands_taken : (told : Taken) → WasTaken told → IsTaken p c m told messages old new es → ServerStands p old es → ServerStands p new (took clock c m (sent_of messages) ∷ es)
  stands_taken Done was taken stands = taken.2.stands clock
  stands_taken Gone was taken stands = subst (λ kept. ServerStands p kept (took clock c m (sent_of messages) ∷ es)) (sym taken.1.1) (lost_change_nothing p old clock c m (sent_of messages) es taken.0 stands)
  stands_taken (BadMessage tag) was taken stands = absurd was

module _ (code : Code) (old new : ServerCell) (mids : Vec ServerEnd) (next : ℕ) (c place : ℕ) (its : c ≡ 1 + place) where
  pub hear_goes_on : (message : Up) (heard : ℕ) → HaveNoneDue old.core 1 old.ends.items → OneChanged (HasLookedUp (arrival.Message message heard)) place old.ends.items mids.items
      → ServerHasHeard code c message heard (record old { ends = mids; next = next }) new → ServerGoesOn code old new
  hear_goes_on message heard none looked did =
      let Changes : ServerEnd → ServerEnd → Type 0 = HasLookedUp (arrival.Message message heard) in
      let e = server_said (server_made heard (input.TookUp c message)) did.messages old.log in
      let clock = next_clock heard old.log in
      said_goes_on code old new (server_made heard (input.TookUp c message)) did.messages did.said.log
      (told_many clock did.messages mids.items new.ends.items did.said.told ∙ as_many Changes place old.ends.items mids.items looked) (λ is. absurd (cc is))
      (λ cluster same own stands.
      let es = newest old.log in
      let subj = subject Changes place old.ends.items mids.items looked in
      let end = subst (λ n. ServerEndStands cluster n es subj.old) (sym its) (end_at cluster place 1 es old.ends.items subj.old subj.there stands.ends) in
      let undue = subst (λ n. HasNoneDue old.core n subj.old) (sym its) (none_at old.core place 1 old.ends.items subj.old subj.there none) in
      let client = client_at cluster.settings c place old.ends.items subj.old its subj.there stands.all in (
        λ in_order.
            let kept = stands.core in_order.0 in
            let taken = did.takes cluster.settings es (stands.shape ∙ ap (λ code. code.shape) same) kept.0 client (named_is_known cluster.settings old.core c message es kept.1) in
            let was = was_taken cluster.settings clock c message did.messages old.core new.core es did.told in_order.1 taken in
            subst (λ n. Followed cluster es (record { clock = clock; node = n; input = input.TookUp c message; sent = sent_of did.messages; event = None }) new.core) (sym own) (record {
              step = taken_by_rule cluster.settings clock c message did.told did.messages old.core new.core es was taken client
                  (no_loss cluster c es old.core subj.old kept.0 end undue) (no_break cluster c es old.core subj.old kept.0 end undue);
              stands = stands_taken cluster.settings clock c message did.messages old.core new.core es did.told was taken kept.0;
              lacks = taken_lacks_nothing cluster.settings clock c message did.told did.messages old.core new.core es was taken kept.1;
            }),
        not_true (is_broken c es) (sym end.line.ready ∙ subj.changed.took.heard.ready),
        ends_on cluster c es e did.messages refl (record { untaken = λ d other. other; unbroken = λ d other. refl; unjoined = λ d other. refl }) Changes
            (λ old_end mid new_end looked told stood.
            end_on cluster c es (e ∷ es) old_end new_end
            (server_heard c es e did.messages refl old_end.port new_end.port stood.line mid.port message heard looked.took looked.out (eq-eqb c c refl) refl refl refl
            (ap (λ n. suc (max n heard)) (sym (clock_newest old.log))) (posted_on c clock did.messages mid new_end told) (out_same c clock did.messages mid new_end told) (into_same c clock did.messages mid new_end told))
            (rings_on c clock did.messages mid new_end told old_end.port looked.rings) (triggers_same c clock did.messages mid new_end told ∙ looked.triggers) stood)
            place 1 old.ends.items mids.items new.ends.items its looked (told_from clock did.messages mids.items new.ends.items did.said.told) stands.ends,
        client,
      ))

  -- the connection is taken up again
  pub rejoin_goes_on : OneChanged (HasLookedUp arrival.Rejoined) place old.ends.items mids.items
      → ServerHasSaid (server_made 0 (input.Rejoin c)) [] (record old { ends = mids; next = next }) new → ServerGoesOn code old new
  rejoin_goes_on looked did =
      let Changes : ServerEnd → ServerEnd → Type 0 = HasLookedUp arrival.Rejoined in
      let e = server_said (server_made 0 (input.Rejoin c)) [] old.log in
      let clock = next_clock 0 old.log in
      said_goes_on code old new (server_made 0 (input.Rejoin c)) [] did.log
      (told_many clock [] mids.items new.ends.items did.told ∙ as_many Changes place old.ends.items mids.items looked) (λ is. refl)
      (λ cluster same own stands.
      let es = newest old.log in
      let subj = subject Changes place old.ends.items mids.items looked in
      let end = subst (λ n. ServerEndStands cluster n es subj.old) (sym its) (end_at cluster place 1 es old.ends.items subj.old subj.there stands.ends) in
      let client = client_at cluster.settings c place old.ends.items subj.old its subj.there stands.all in (
        λ in_order.
            let kept = stands.core in_order.0 in
            subst (λ n. Followed cluster es (record { clock = clock; node = n; input = input.Rejoin c; sent = []; event = None }) new.core) (sym own)
            (subst (λ kept. Followed cluster es (rejoined clock c) kept) (sym did.core) (record {
              step = record { its = client; event = refl; sends = refl };
              stands = rejoins_change_nothing cluster.settings old.core clock c es kept.0;
              lacks = kept.1;
            })),
        not_false (is_broken c es) (sym end.line.ready ∙ waited subj.changed.took.frame subj.old.port.session subj.new.port.session end.line.end.role subj.changed.took.heard),
        ends_on cluster c es e [] refl (record { untaken = λ d other. refl; unbroken = λ d other. refl; unjoined = λ d other. other }) Changes
            (λ old_end mid new_end looked told stood.
            end_on cluster c es (e ∷ es) old_end new_end
            (server_rejoined c es e [] refl old_end.port new_end.port stood.line mid.port looked.took looked.out refl refl (eq-eqb c c refl)
            (posted_on c clock [] mid new_end told) (out_same c clock [] mid new_end told) (into_same c clock [] mid new_end told))
            (rings_on c clock [] mid new_end told old_end.port looked.rings) (triggers_same c clock [] mid new_end told ∙ looked.triggers) stood)
            place 1 old.ends.items mids.items new.ends.items its looked (told_from clock [] mids.items new.ends.items did.told) stands.ends,
        client,
      ))

-- ---- what is due
module _ (code : Code) (old new : ServerCell) (client : ℕ) where
  pub lose_goes_on : IsOneDue old.core 1 (record { client = client; mishap = mishap.Loss }) old.ends.items → ServerHasLost client old new → ServerGoesOn code old new
  lose_goes_on one did =
      let e = server_said (server_made 0 (input.Lose client)) did.messages old.log in
      let clock = next_clock 0 old.log in
      let due = owed old.core 1 (record { client = client; mishap = mishap.Loss }) old.ends.items one in
      said_goes_on code old new (server_made 0 (input.Lose client)) did.messages did.said.log
      (told_many clock did.messages old.ends.items new.ends.items did.said.told) (λ is. refl)
      (λ cluster same own stands.
      let es = newest old.log in
      let end = subst (λ n. ServerEndStands cluster n es due.end) (sym due.its) (end_at cluster due.place 1 es old.ends.items due.end due.there stands.ends) in
      let its = client_at cluster.settings client due.place old.ends.items due.end due.its due.there stands.all in (
        λ in_order.
            let kept = stands.core in_order.0 in
            let told = did.loses cluster.settings es kept.0 in
            subst (λ n. Followed cluster es (record { clock = clock; node = n; input = input.Lose client; sent = sent_of did.messages; event = None }) new.core) (sym own) (record {
              step = lost_by_rule cluster.settings clock client did.messages old.core new.core es told its (loss_due cluster client es old.core due.end kept.0 end due.is_due);
              stands = told.stands clock;
              lacks = nothing_is_lacked_later cluster.settings old.core new.core es (lost clock client (sent_of did.messages) ∷ es) (told.stands clock) (told.lacks clock) kept.1;
            }),
        tt,
        ends_behind cluster 0 es e did.messages refl (record { untaken = λ d other. refl; unbroken = λ d other. refl; unjoined = λ d other. refl })
            1 old.ends.items old.ends.items new.ends.items (omega arith) (unmoved_left old.ends.items) (told_from clock did.messages old.ends.items new.ends.items did.said.told) stands.ends,
        its,
      ))

  pub break_goes_on : IsOneDue old.core 1 (record { client = client; mishap = mishap.Break }) old.ends.items → ServerHasBroken client old new → ServerGoesOn code old new
  break_goes_on one did =
      let Changes : ServerEnd → ServerEnd → Type 0 = λ old new. new ≡ with_break old in
      let e = server_said (server_made 0 (input.Break client)) [] old.log in
      let clock = next_clock 0 old.log in
      let due = owed old.core 1 (record { client = client; mishap = mishap.Break }) old.ends.items one in
      let changed : OneChanged Changes due.place old.ends.items did.broken = one_changed client with_break due.place 1 old.ends.items did.broken due.its (within old.ends.items due.place due.end due.there)
      (λ k. let first : suc k ≡ 1 + k = omega arith in subst (λ n. slice_get did.broken k ≡ option_map (with_end client with_break n) (slice_get old.ends.items k)) first (did.breaks k)) in
      said_goes_on code old new (server_made 0 (input.Break client)) [] did.log
      (told_many clock [] did.broken new.ends.items did.told ∙ as_many Changes due.place old.ends.items did.broken changed) (λ is. refl)
      (λ cluster same own stands.
      let es = newest old.log in
      let end = subst (λ n. ServerEndStands cluster n es due.end) (sym due.its) (end_at cluster due.place 1 es old.ends.items due.end due.there stands.ends) in
      let its = client_at cluster.settings client due.place old.ends.items due.end due.its due.there stands.all in (
        λ in_order.
            let kept = stands.core in_order.0 in
            subst (λ n. Followed cluster es (record { clock = clock; node = n; input = input.Break client; sent = []; event = None }) new.core) (sym own)
            (subst (λ kept. Followed cluster es (broke clock client) kept) (sym did.core) (record {
              step = record { its = its; due = break_due cluster client es old.core due.end kept.0 end due.is_due; event = refl; sends = refl };
              stands = breaks_change_nothing cluster.settings old.core clock client es kept.0;
              lacks = kept.1;
            })),
        tt,
        ends_on cluster client es e [] refl (record { untaken = λ d other. refl; unbroken = λ d other. other; unjoined = λ d other. refl }) Changes
            (λ old_end mid new_end is told stood.
            let out = ap (λ (end : ServerEnd). end.port.out) is in
            let into = ap (λ (end : ServerEnd). end.port.into) is in
            end_on cluster client es (e ∷ es) old_end new_end
            (server_broken client es e [] refl old_end.port new_end.port stood.line mid.port (ap (λ (end : ServerEnd). end.port.session) is) out into refl (eq-eqb client client refl) refl
            (posted_on client clock [] mid new_end told) (out_same client clock [] mid new_end told) (into_same client clock [] mid new_end told))
            (rings_on client clock [] mid new_end told old_end.port (same_rings old_end.port mid.port out into)) (triggers_same client clock [] mid new_end told ∙ ap (λ (end : ServerEnd). end.triggers) is) stood)
            due.place 1 old.ends.items did.broken new.ends.items due.its changed (told_from clock [] did.broken new.ends.items did.told) stands.ends,
        its,
      ))
