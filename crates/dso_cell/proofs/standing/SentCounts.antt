-- How many messages an end sent, whatever comes and goes.
use Rattle.std.proofs.Common.{◌≡◌, refl, sym, ◌∙◌, ap, List, [], ◌∷◌, ◌++◌, length, replicate, arith}
use Rattle.std.proofs.lemmas.List.{drop-append-le, drop_all, length-append, length-replicate}
use Rattle.dso_base.specs.declared.both.Both.{Both}
use Rattle.dso_base.specs.declared.both.Both.TheVariants as both
use Rattle.dso_base.specs.declared.message.Up.TheVariants as up
use Rattle.dso_session.specs.declared.frame.Frame.{Frame}
use Rattle.dso_session.specs.declared.session.Posted.{Posted}
use Rattle.dso_session.specs.Ends.{End, after_frame, behind_frame, sent_count}
use Rattle.dso_session.specs.Laws.{Gives, Happening, HasSent, Takes, happened, sent_by}
use Rattle.dso_session.proofs.Sent.{all_sent, keeps_sent}
use Rattle.dso_wire.specs.Cells.{Cell}
use Rattle.dso_port.specs.Ports.{GivesNext}

-- some messages that the end may have sent
abbrev some_sent : End Both → List (Posted Both)
some_sent end = replicate end.seen (record { message = both.Up up.IdAsk; clock = 0 }) ++ end.kept

has_sent_some : (end : End Both) → HasSent (some_sent end) end
has_sent_some end =
    let one : Posted Both = record { message = both.Up up.IdAsk; clock = 0 } in
    record {
      seen = omega (arith, length-append (replicate end.seen one) end.kept, length-replicate end.seen one);
      kept = sym (drop-append-le end.seen (replicate end.seen one) end.kept (omega (arith, length-replicate end.seen one))
          ∙ ap (λ list. list ++ end.kept) (drop_all end.seen (replicate end.seen one) (omega (arith, length-replicate end.seen one))));
    }

as_many : (happening : Happening Both) (end : End Both) → sent_by happening (some_sent end) ≡ some_sent end → sent_count (happened happening end) ≡ sent_count end
as_many happening end none =
    all_sent (sent_by happening (some_sent end)) (happened happening end) (keeps_sent.goes_on happening (some_sent end) end (has_sent_some end)) ∙ ap length none
    ∙ sym (all_sent (some_sent end) end (has_sent_some end))

-- a frame that comes changes nothing of it
pub count_taken : (frame : Frame Both) (end : End Both) → sent_count (after_frame frame end) ≡ sent_count end
count_taken frame end = as_many (Takes frame) end refl

-- nor do frames that go
pub count_given : {M : Type 0} (as_both : M → Both) (cells : Frame M → List Cell) (Is : Frame M → Type 0) (frames : List (Frame M)) (old new : End Both) → GivesNext as_both cells Is frames old new
    → sent_count new ≡ sent_count old
count_given as_both cells Is [] old new gives = ap (λ end. sent_count end) gives
count_given as_both cells Is (frame ∷ frames) old new gives = count_given as_both cells Is frames (behind_frame old) new gives.2 ∙ as_many Gives old refl
