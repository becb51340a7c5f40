use Rattle.std.proofs.Common.{[], ◌∷◌, ap, ◌∙◌}
use Rattle.std.proofs.lemmas.List.{map-append}
use Rattle.dso_locks.specs.Locks.{message_of, messages_of}
use Rattle.dso_locks.specs.declared.told.Told.TheVariants as told
use Rattle.dso_locks.proofs.Sending.{granted_state}
use Rattle.dso_locks.proofs.lock.grant.Goals as goal

pub returns-clause-sends : goal.returns-clause-sends
returns-clause-sends c = record {
  sent = ap (λ items. messages_of items) c.in_ok-push.ensures.items ∙ map-append message_of c.args.told.now.items (told.Grant c.args.request.client c.args.lock.now.name c.args.request.level ∷ []);
  stands = granted_state c.args.lock.now c.args.request.client c.args.request.level c.insert.new.self c.remove.new.self c.drop_client.new.self c.in_ok-insert.ensures.updates.0 c.remove.ensures.updates.0 c.drop_client.ensures;
}
