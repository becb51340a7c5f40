-- The server's cell that logs one entry more, and one that logs none.
use Rattle.std.proofs.Common.{ℕ, zero, suc, ◌+◌, ◌<◌, ◌≡◌, inl, inr, refl, sym, ◌∙◌, ap, subst, Bool, true, false, eqb, max, Some, List, [], ◌∷◌, length, reverse, slice_get, arith}
use Rattle.std.proofs.lemmas.Bool.{eqb-true}
use Rattle.dso_base.specs.declared.journal.Entry.{Entry}
use Rattle.dso_base.specs.declared.journal.Node.TheVariants.{Server}
use Rattle.dso_base.specs.declared.both.Both.TheVariants as both
use Rattle.dso_base.specs.declared.message.Down.{Down}
use Rattle.dso_base.specs.declared.message.Up.{Up}
use Rattle.dso_law.specs.Channels.{FitsConnection, breaks, rejoins, takes_up}
use Rattle.dso_law.specs.ServerStep.{ServerStep}
use Rattle.dso_machine.specs.declared.code.Code.{Code}
use Rattle.dso_log.specs.Logs.{last_clock, with_entry}
use Rattle.dso_port.specs.declared.arrival.Arrival.TheVariants as arrival
use Rattle.dso_port.specs.Ports.{PortState, SameRings, all_posted}
use Rattle.dso_line.specs.Letters.{is_taking, log_clock, newest}
use Rattle.dso_line.specs.Lines.{ServerLineStands}
use Rattle.dso_line.proofs.standing.Logs.{clock_newest, newest_more}
use Rattle.dso_line.proofs.standing.Servers.{server_stays}
use Rattle.dso_server.specs.declared.server.Server as core
use Rattle.dso_server.specs.Lacking.{LacksNothing}
use Rattle.dso_server.specs.Sending.{sent_of}
use Rattle.dso_server.specs.ServerStands.{ServerStands}
use Rattle.dso_server.specs.Triggers.{AreTriggersOf}
use Rattle.rtrb.specs.Ring.{SameConsumer, SameProducer}
use Rattle.dso_cell.specs.declared.made.Made.{Made}
use Rattle.dso_cell.specs.declared.server_cell.ServerCell.{ServerCell}
use Rattle.dso_cell.specs.declared.server_end.ServerEnd.{ServerEnd}
use Rattle.dso_cell.specs.Clusters.{Cluster}
use Rattle.dso_cell.specs.Logs.{LogIsInOrder}
use Rattle.dso_cell.specs.ServerCells.{IsWithClient, ServerEndStands, ServerEndsStand, ServerGoesOn, ServerPartsStand}
use Rattle.dso_cell.specs.ServerEnds.{AreGivenDown, AreLeft, HasLookedUp, IsGivenDown, IsLeft, OneChanged, told_to}
use Rattle.dso_cell.specs.ServerSteps.{server_said}
use Rattle.dso_cell.proofs.serving.Lines.{line_late, line_left, server_given}
use Rattle.dso_cell.proofs.serving.Told.{ToldFrom, same_messages}
use Rattle.dso_cell.proofs.standing.Cells.{gives_on, takes_on}

-- ---- one end
pub same_rings : (old new : PortState Down Up) → new.out ≡ old.out → new.into ≡ old.into → SameRings old new
same_rings old new out into = record {
  out = subst (λ x. SameProducer old.out x) (sym out) ((refl, refl, refl, refl), refl);
  into = subst (λ x. SameConsumer old.into x) (sym into) ((refl, refl, refl, refl), refl);
}

-- where its line stands, the end does, of the same rings and with the same triggers
pub end_on : (cluster : Cluster) (c : ℕ) (es later : List Entry) (old new : ServerEnd) → ServerLineStands c later new.port → SameRings old.port new.port → new.triggers ≡ old.triggers
    → ServerEndStands cluster c es old → ServerEndStands cluster c later new
end_on cluster c es later old new line rings triggers stands = record {
  line = line;
  gives = gives_on (cluster.down c) old.port.out new.port.out rings.out stands.gives;
  takes = takes_on (cluster.up c) old.port.into new.port.into rings.into stands.takes;
  triggers = subst (λ t. AreTriggersOf c cluster.settings.losses cluster.settings.breaks t) (sym triggers) stands.triggers;
}

pub left_rings : (old new : ServerEnd) → IsLeft old new → SameRings old.port new.port
left_rings old new (inl same) = subst (λ (end : ServerEnd). SameRings old.port end.port) (sym same) (same_rings old.port old.port refl refl)
left_rings old new (inr (inl nothing)) = nothing.rings
left_rings old new (inr (inr dropped)) = dropped.rings

left_triggers : (old new : ServerEnd) → IsLeft old new → new.triggers ≡ old.triggers
left_triggers old new (inl same) = ap (λ (end : ServerEnd). end.triggers) same
left_triggers old new (inr (inl nothing)) = nothing.triggers
left_triggers old new (inr (inr dropped)) = dropped.triggers

pub end_left : (cluster : Cluster) (c : ℕ) (es : List Entry) (old new : ServerEnd) → IsLeft old new → ServerEndStands cluster c es old → ServerEndStands cluster c es new
end_left cluster c es old new left stands = end_on cluster c es es old new (line_left c es old new left stands.line) (left_rings old new left) (left_triggers old new left) stands

end_given : (cluster : Cluster) (c : ℕ) (es : List Entry) (old new : ServerEnd) → IsGivenDown old new → ServerEndStands cluster c es old → ServerEndStands cluster c es new
end_given cluster c es old new gives stands = end_on cluster c es es old new (server_given c es old.port new.port stands.line gives.gives gives.into) gives.rings gives.triggers stands

-- ---- all ends, where no entry is made
pub ends_left : (cluster : Cluster) (c : ℕ) (es : List Entry) (olds news : List ServerEnd) → AreLeft olds news → ServerEndsStand cluster c es olds → ServerEndsStand cluster c es news
ends_left cluster c es [] [] left stands = tt
ends_left cluster c es [] (new ∷ news) left stands = absurd left
ends_left cluster c es (old ∷ olds) [] left stands = absurd left
ends_left cluster c es (old ∷ olds) (new ∷ news) left stands = (end_left cluster c es old new left.0 stands.0, ends_left cluster (suc c) es olds news left.1 stands.1)

pub ends_given : (cluster : Cluster) (c : ℕ) (es : List Entry) (olds news : List ServerEnd) → AreGivenDown olds news → ServerEndsStand cluster c es olds → ServerEndsStand cluster c es news
ends_given cluster c es [] [] given stands = tt
ends_given cluster c es [] (new ∷ news) given stands = absurd given
ends_given cluster c es (old ∷ olds) [] given stands = absurd given
ends_given cluster c es (old ∷ olds) (new ∷ news) given stands = (end_given cluster c es old new given.0 stands.0, ends_given cluster (suc c) es olds news given.1 stands.1)

pub given_many : (olds news : List ServerEnd) → AreGivenDown olds news → length news ≡ length olds
given_many [] [] given = refl
given_many [] (new ∷ news) given = absurd given
given_many (old ∷ olds) [] given = absurd given
given_many (old ∷ olds) (new ∷ news) given = ap suc (given_many olds news given.1)

pub late_ends : (cluster : Cluster) (place c : ℕ) (es : List Entry) (olds news : List ServerEnd) → OneChanged (HasLookedUp arrival.Late) place olds news → ServerEndsStand cluster c es olds → ServerEndsStand cluster c es news
late_ends cluster zero c es [] news one stands = absurd one
late_ends cluster zero c es (old ∷ olds) [] one stands = absurd one
late_ends cluster zero c es (old ∷ olds) (new ∷ news) one stands =
    (end_on cluster c es es old new (line_late c es old new one.0 stands.0.line) one.0.rings one.0.triggers stands.0, ends_left cluster (suc c) es olds news one.1 stands.1)
late_ends cluster (suc place) c es [] news one stands = absurd one
late_ends cluster (suc place) c es (old ∷ olds) [] one stands = absurd one
late_ends cluster (suc place) c es (old ∷ olds) (new ∷ news) one stands = (end_left cluster c es old new one.0 stands.0, late_ends cluster place (suc c) es olds news one.1 stands.1)

pub end_at : (cluster : Cluster) (place c : ℕ) (es : List Entry) (ends : List ServerEnd) (end : ServerEnd) → slice_get ends place ≡ Some end → ServerEndsStand cluster c es ends → ServerEndStands cluster (c + place) es end
end_at cluster zero c es [] end at stands = absurd (cc at)
end_at cluster zero c es (one ∷ ends) end at stands =
    let same : one ≡ end = cc at in
    let none : c ≡ c + 0 = omega arith in
    subst (λ n. ServerEndStands cluster n es end) none (subst (ServerEndStands cluster c es) same stands.0)
end_at cluster (suc place) c es [] end at stands = absurd (cc at)
end_at cluster (suc place) c es (one ∷ ends) end at stands =
    let next : suc c + place ≡ c + suc place = omega arith in
    subst (λ n. ServerEndStands cluster n es end) next (end_at cluster place (suc c) es ends end at stands.1)

-- ---- all ends, with one entry more
-- The entry is of no other client than d.
pub record IsOf (d : ℕ) (e : Entry) : Type 0 where
  pub untaken : (c : ℕ) → eqb c d ≡ false → takes_up c e.input ≡ false
  pub unbroken : (c : ℕ) → eqb c d ≡ false → breaks c e.input ≡ false
  pub unjoined : (c : ℕ) → eqb c d ≡ false → rejoins c e.input ≡ false

not_same : (a b : ℕ) → (a ≡ b → ⊥) → eqb a b ≡ false
not_same a b isnt = by (eqb a b) refl
  where
    by : (its : Bool) → eqb a b ≡ its → its ≡ false
    by true is = absurd (isnt (eqb-true a b is))
    by false is = refl

module _ (cluster : Cluster) (d : ℕ) (es : List Entry) (e : Entry) (messages : List (ℕ × Down)) (sent : e.sent ≡ sent_of messages) (its : IsOf d e) where
  -- that of another client
  other_end : (c : ℕ) (old mid new : ServerEnd) → eqb c d ≡ false → IsLeft old mid → new ≡ told_to c e.clock messages mid → ServerEndStands cluster c es old → ServerEndStands cluster c (e ∷ es) new
  other_end c old mid new other left told stands =
      let between = end_left cluster c es old mid left stands in
      let line = server_stays c es e messages sent mid.port new.port between.line (its.untaken c other) (its.unbroken c other) (its.unjoined c other)
      (ap (λ (end : ServerEnd). end.port.session) told ∙ ap (λ list. all_posted both.Down e.clock list mid.port.session) (same_messages c messages))
      (ap (λ (end : ServerEnd). end.port.out) told) (ap (λ (end : ServerEnd). end.port.into) told) in
      end_on cluster c es (e ∷ es) mid new line (same_rings mid.port new.port (ap (λ (end : ServerEnd). end.port.out) told) (ap (λ (end : ServerEnd). end.port.into) told)) (ap (λ (end : ServerEnd). end.triggers) told) between

  -- those behind that of the client
  pub ends_behind : (c : ℕ) (olds mids news : List ServerEnd) → d < c → AreLeft olds mids → ToldFrom c e.clock messages mids news → ServerEndsStand cluster c es olds → ServerEndsStand cluster c (e ∷ es) news
  ends_behind c [] [] [] behind left told stands = tt
  ends_behind c [] [] (new ∷ news) behind left told stands = absurd told
  ends_behind c [] (mid ∷ mids) news behind left told stands = absurd left
  ends_behind c (old ∷ olds) [] news behind left told stands = absurd left
  ends_behind c (old ∷ olds) (mid ∷ mids) [] behind left told stands = absurd told
  ends_behind c (old ∷ olds) (mid ∷ mids) (new ∷ news) behind left told stands =
      (other_end c old mid new (not_same c d (λ is. omega (arith, behind, is))) left.0 told.0 stands.0, ends_behind (suc c) olds mids news (omega (arith, behind)) left.1 told.1 stands.1)

  module _ (Changes : ServerEnd → ServerEnd → Type 0)
      (own : (old mid new : ServerEnd) → Changes old mid → new ≡ told_to d e.clock messages mid → ServerEndStands cluster d es old → ServerEndStands cluster d (e ∷ es) new) where
    -- all, where that of the client changed
    pub ends_on : (place c : ℕ) (olds mids news : List ServerEnd) → d ≡ c + place → OneChanged Changes place olds mids → ToldFrom c e.clock messages mids news
        → ServerEndsStand cluster c es olds → ServerEndsStand cluster c (e ∷ es) news
    ends_on zero c [] mids news at one told stands = absurd one
    ends_on zero c (old ∷ olds) [] news at one told stands = absurd one
    ends_on zero c (old ∷ olds) (mid ∷ mids) [] at one told stands = absurd told
    ends_on zero c (old ∷ olds) (mid ∷ mids) (new ∷ news) at one told stands =
        let here : d ≡ c = omega (arith, at) in (
          subst (λ n. ServerEndStands cluster n (e ∷ es) new) here (own old mid new one.0 (subst (λ n. new ≡ told_to n e.clock messages mid) (sym here) told.0) (subst (λ n. ServerEndStands cluster n es old) (sym here) stands.0)),
          ends_behind (suc c) olds mids news (omega (arith, at)) one.1 told.1 stands.1,
        )
    ends_on (suc place) c [] mids news at one told stands = absurd one
    ends_on (suc place) c (old ∷ olds) [] news at one told stands = absurd one
    ends_on (suc place) c (old ∷ olds) (mid ∷ mids) [] at one told stands = absurd told
    ends_on (suc place) c (old ∷ olds) (mid ∷ mids) (new ∷ news) at one told stands = (
      other_end c old mid new (not_same c d (λ is. omega (arith, at, is))) one.0 told.0 stands.0,
      ends_on place (suc c) olds mids news (omega (arith, at)) one.1 told.1 stands.1,
    )

-- ---- the parts
-- The entry follows, the core stands with it, and it fits the connection.
pub record Followed (cluster : Cluster) (es : List Entry) (e : Entry) (kept : core.Server) : Type 0 where
  pub step : ServerStep cluster.settings e es
  pub stands : ServerStands cluster.settings kept (e ∷ es)
  pub lacks : LacksNothing cluster.settings kept (e ∷ es)

-- with one entry more
pub parts_more : (cluster : Cluster) (es : List Entry) (e : Entry) (old new : core.Server) (before after : List ServerEnd) → e.node ≡ Server
    → (LogIsInOrder cluster.code cluster.settings Server (e ∷ es) → Followed cluster es e new) → (is_taking e.input ≡ false → e.clock ≡ suc (log_clock es)) → FitsConnection e.input es
    → IsWithClient cluster.settings e.input → ServerEndsStand cluster 1 (e ∷ es) after → length after ≡ length before → ServerPartsStand cluster es old before → ServerPartsStand cluster (e ∷ es) new after
parts_more cluster es e old new before after own followed clock fits its ends many stands = record {
  run = (stands.run, own, λ in_order. (followed in_order).step);
  clocks = (stands.clocks, clock);
  connections = (stands.connections, fits);
  with_clients = (its, stands.with_clients);
  core = λ in_order. ((followed in_order).stands, (followed in_order).lacks);
  ends = ends;
  all = many ∙ stands.all;
  shape = stands.shape;
}

-- with the same entries
pub parts_stay : (cluster : Cluster) (es : List Entry) (kept : core.Server) (before after : List ServerEnd) → ServerEndsStand cluster 1 es after → length after ≡ length before
    → ServerPartsStand cluster es kept before → ServerPartsStand cluster es kept after
parts_stay cluster es kept before after ends many stands = record {
  run = stands.run;
  clocks = stands.clocks;
  connections = stands.connections;
  with_clients = stands.with_clients;
  core = stands.core;
  ends = ends;
  all = many ∙ stands.all;
  shape = stands.shape;
}

-- ---- the cell
-- one turn behind the other
pub goes_through : (code : Code) (a b c : ServerCell) → ServerGoesOn code a b → ServerGoesOn code b c → ServerGoesOn code a c
goes_through code a b c one two = record { stands = λ cluster same its. two.stands cluster same (one.stands cluster same its) }

module _ (code : Code) (old new : ServerCell) where
  -- no entry is logged
  pub stay_goes_on : new.log.node ≡ old.log.node → new.log.entries ≡ old.log.entries → new.core ≡ old.core → length new.ends.items ≡ length old.ends.items
      → ((cluster : Cluster) (c : ℕ) (es : List Entry) → ServerEndsStand cluster c es old.ends.items → ServerEndsStand cluster c es new.ends.items) → ServerGoesOn code old new
  stay_goes_on node entries same many ends = record {
    stands = λ cluster is its. record {
      own = node ∙ its.own;
      parts = subst (λ list. ServerPartsStand cluster (reverse list) new.core new.ends.items) (sym entries)
          (subst (λ kept. ServerPartsStand cluster (newest old.log) kept new.ends.items) (sym same)
          (parts_stay cluster (newest old.log) old.core old.ends.items new.ends.items (ends cluster 1 (newest old.log) its.parts.ends) many its.parts));
    };
  }

  -- an entry is logged
  pub said_goes_on : (made : Made) (messages : List (ℕ × Down)) → new.log ≡ with_entry (server_said made messages old.log) old.log → length new.ends.items ≡ length old.ends.items
      → (is_taking made.input ≡ false → made.heard ≡ 0)
      → ((cluster : Cluster) → cluster.code ≡ code → old.log.node ≡ Server → ServerPartsStand cluster (newest old.log) old.core old.ends.items
      → (LogIsInOrder cluster.code cluster.settings Server (server_said made messages old.log ∷ newest old.log) → Followed cluster (newest old.log) (server_said made messages old.log) new.core)
      × FitsConnection made.input (newest old.log) × ServerEndsStand cluster 1 (server_said made messages old.log ∷ newest old.log) new.ends.items
      × IsWithClient cluster.settings made.input) → ServerGoesOn code old new
  said_goes_on made messages log many heard steps = record {
    stands = λ cluster same its.
        let e = server_said made messages old.log in
        let step = steps cluster same its.own its.parts in
        let clock : is_taking made.input ≡ false → e.clock ≡ suc (log_clock (newest old.log)) = λ none.
        let zero_too : max (last_clock old.log) made.heard ≡ last_clock old.log = ap (max (last_clock old.log)) (heard none) ∙ omega arith in
        ap suc (zero_too ∙ sym (clock_newest old.log)) in
        record {
          own = ap (λ log. log.node) log ∙ its.own;
          parts = subst (λ es. ServerPartsStand cluster es new.core new.ends.items) (sym (ap newest log ∙ newest_more old.log e))
              (parts_more cluster (newest old.log) e old.core new.core old.ends.items new.ends.items its.own step.0 clock step.1 step.3 step.2 many its.parts);
        };
  }
