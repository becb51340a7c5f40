-- All stands after each entry of a lawful journal, of a sound program: by the entry's event, which is possible where its client
-- isn't lost.
use Rattle.std.proofs.Common.{ℕ, ◌≡◌, refl, sym, ◌∙◌, ap, subst, Bool, true, false, eqb, Option, List, [], ◌∷◌}
use Rattle.dso_base.specs.declared.journal.Entry.{Entry}
use Rattle.dso_base.specs.declared.journal.Node.{Node}
use Rattle.dso_base.specs.declared.journal.Node.TheVariants.{Server, Client}
use Rattle.dso_base.specs.declared.lock.ThreadId.{ThreadId}
use Rattle.dso_base.specs.declared.request.Event.{Event}
use Rattle.dso_base.specs.declared.request.Request.{Request}
use Rattle.dso_plain.proofs.keys.SameKeys.{same_number}
use Rattle.dso_law.specs.Channels.{down_in_flight}
use Rattle.dso_law.specs.Entries.{entries_of}
use Rattle.dso_law.specs.ServerReadings.{is_lost}
use Rattle.dso_law.specs.Settings.{Settings}
use Rattle.dso_legal.specs.Agreement.{messages}
use Rattle.dso_legal.specs.CopiesStand.{state_at, CopiesStand}
use Rattle.dso_legal.specs.Lawful.{AllFollow}
use Rattle.dso_legal.specs.SoundProgram.{AsksSoundly}
use Rattle.dso_legal.proofs.line.AllStandOn.{all_stand_on}
use Rattle.dso_legal.proofs.records.BothEnds.{not_lost_before}
use Rattle.dso_legal.proofs.copies.OwnCopies.{own_copies}
use Rattle.dso_legal.proofs.acts.SeesAll.{AllCopies, acts_can}
use Rattle.dso_legal.proofs.copies.ServerCopies.{moved, server_copies}
use Rattle.dso_legal.proofs.line.StandsOn.{AllStand, all_stand_start}
use Rattle.dso_legal.proofs.channels.AfterEntry.{other_turn}
use Rattle.dso_legal.proofs.line.LineElsewhere.{IsElsewhere, stands_still}

-- lines, open blocks and copies
pub record AllHolds (p : Settings) (es : List Entry) : Type 0 where
  pub stand : AllStand p es
  pub copies : AllCopies p es

module _ (p : Settings) (next : ThreadId → List Event → Option Request) (sound : AsksSoundly p.shape next) where
  -- before the first entry
  start : AllHolds p []
  start = record {
    stand = all_stand_start p;
    copies = λ c alive. record {
      class = λ o. record { along = tt; behind = record { shared = λ here. absurd (cc here); of = λ here class held. absurd (cc here) } };
      field = λ o f. record { along = tt; past = λ here v e. absurd (cc here); meets = λ here. absurd (cc here) };
      shared = λ o unshared. tt;
    };
  }

  module _ (e : Entry) (es : List Entry) (follow : AllFollow p next (e ∷ es)) (all : AllHolds p es) where
    stand_on : AllStand p (e ∷ es)
    stand_on = all_stand_on p next e es follow (acts_can p next es follow.0 sound all.stand all.copies e) all.stand

    -- the copies after another client's entry
    other_copies : (c d : ℕ) → is_lost c (entries_of Server es) ≡ false → e.node ≡ Client d → eqb c d ≡ false → CopiesStand p.shape c (state_at p c (e ∷ es)) (messages (down_in_flight c (e ∷ es))) (entries_of (Client c) (e ∷ es))
    other_copies c d alive at other = moved p c (state_at p c es) (state_at p c (e ∷ es)) (messages (down_in_flight c es)) (messages (down_in_flight c (e ∷ es))) (entries_of (Client c) es) (entries_of (Client c) (e ∷ es))
        (stands_still p c e es (subst (λ node. IsElsewhere c node e.input es) (sym at) other)).state (ap messages (other_turn c d e es at other).down) (other_turn c d e es at other).own (all.copies c alive)

    copies_by : (c : ℕ) → is_lost c (entries_of Server (e ∷ es)) ≡ false → (node : Node) → e.node ≡ node → CopiesStand p.shape c (state_at p c (e ∷ es)) (messages (down_in_flight c (e ∷ es))) (entries_of (Client c) (e ∷ es))
    copies_by c alive Server at = server_copies p next e es follow all.stand all.copies at c alive
    copies_by c alive (Client d) at = by (eqb c d) refl
      where
        by : (b : Bool) → eqb c d ≡ b → CopiesStand p.shape c (state_at p c (e ∷ es)) (messages (down_in_flight c (e ∷ es))) (entries_of (Client c) (e ∷ es))
        by true same = own_copies p next e es follow all.stand stand_on c (at ∙ ap Client (sym (same_number c d same))) (not_lost_before c e.node e es alive) (all.copies c (not_lost_before c e.node e es alive))
        by false other = other_copies c d (not_lost_before c e.node e es alive) at other

    holds_on : AllHolds p (e ∷ es)
    holds_on = record {
      stand = stand_on;
      copies = λ c alive. copies_by c alive e.node refl;
    }

  -- All stands after entries each of which follows those before it.
  pub all_holds : (es : List Entry) → AllFollow p next es → AllHolds p es
  all_holds [] follow = start
  all_holds (e ∷ es) follow = holds_on e es follow (all_holds es follow.0)
