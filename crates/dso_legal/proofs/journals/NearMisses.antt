-- That the messages that are near to not fitting come in lawful journals, and fit.
use Rattle.std.proofs.Common.{refl, arith}
use Rattle.dso_legal.specs.examples.NearMisses.{two_clients, scripted, crossing_scripts, crossing_entries, carrying_scripts, carrying_entries, lost_settings, lost_scripts, lost_entries, NearMisses}
use Rattle.dso_legal.proofs.journals.Replay.{lawful_by_replay}

pub near_misses : NearMisses
near_misses = record {
  request_crosses_recall = record {
    lawful = lawful_by_replay two_clients (scripted crossing_scripts) crossing_entries refl refl;
    comes = refl;
    fits = record { not_leased = refl; not_asked = refl; lock = omega arith };
  };
  return_before_timeout = record {
    lawful = lawful_by_replay two_clients (scripted carrying_scripts) carrying_entries refl refl;
    comes = refl;
    fits = record { leased = λ none. cc none; new = ((refl, refl), tt); once = (refl, tt); none_at_read = λ read. absurd (cc read) };
  };
  object_to_lost_client = record {
    lawful = lawful_by_replay lost_settings (scripted lost_scripts) lost_entries refl refl;
    lost = refl;
    comes = refl;
    fits = record { asked = refl; roots = (λ is. refl, λ is. refl); shaped = (refl, (tt, tt)) };
  };
}
