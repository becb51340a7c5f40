-- That each of the misfits breaks its row.
use Rattle.std.specs.Prelude.{◌≤◌, ◌<◌, ◌≡◌, Some}
use Rattle.dso_base.specs.declared.lock.LockName.TheVariants.{Name}
use Rattle.dso_base.specs.declared.record.Ending.TheVariants as ending
use Rattle.std.proofs.Common.{refl, ap, arith}
use Rattle.dso_legal.specs.examples.Misfits.{MisfitsAtClient, MisfitsAtServer, Misfits}
use Rattle.dso_legal.proofs.journals.Refused.{differ, number, there}

at_client : MisfitsAtClient
at_client = record {
  ids_not_asked_for = λ h. differ refl (ap number h.asked);
  ids_from_zero = λ h. let never : 1 ≤ 0 = h.above in omega arith;
  object_not_asked_for = λ h. differ refl (ap number h.asked);
  roots_too_many = λ h. differ refl h.shaped.0;
  root_of_another_kind = λ h. h.shaped.1.0;
  grant_not_asked_for = λ h. differ refl (ap number h);
  ack_of_another_record = λ h. differ refl h;
  change_of_another_kind = λ h. (h.0 refl).1;
  change_of_no_field = λ h. let never : 1 < 1 = (h.0 refl).0 in omega arith;
  wake_of_no_waiter = λ h. h.waits;
}

at_server : MisfitsAtServer
at_server = record {
  fault_of_no_object = λ h. h.0 refl;
  fault_of_object_held = λ h. differ refl (ap number h.1);
  flush_of_object_not_held = λ h. differ refl (ap number h);
  request_of_lease_had = λ h. differ refl (ap there h.not_leased);
  request_of_no_lock = λ h. let never : 1 < 1 = h.lock in omega arith;
  return_of_no_lease = λ h. h.leased refl;
  return_of_stranger = λ h. differ refl (ap number h.new.0.0);
  record_of_another_number = λ h. differ refl h.number;
  record_after_the_end = λ h. differ refl (ap number h.going);
  object_of_an_id_not_given = λ h. differ refl (ap number h.news.0.given);
  object_published_again = λ h. differ refl (ap there h.news.0.new);
  set_of_object_not_held = λ h. differ refl (ap number h.sets.0.0);
  set_without_lease = λ h. differ refl (ap there h.sets.0.1.1);
  set_of_another_kind = λ h. h.sets.0.1.2;
  timeout_without_wait = λ h. let never : Some (ending.Exit (Name 0)) ≡ Some (ending.Wait (Name 0)) = h.ending in cc never;
  ending_without_lease = λ h. h.ending refl;
}

pub misfits : Misfits
misfits = record { at_client = at_client; at_server = at_server }
