-- No message of a lawful journal is bad.
use Rattle.std.proofs.Common.{ℕ, ◌<◌, ◌^◌, ◌≡◌, List, length}
use Rattle.dso_base.specs.declared.journal.Entry.{Entry}
use Rattle.dso_base.specs.declared.message.Down.{Down}
use Rattle.dso_base.specs.declared.message.Up.{Up}
use Rattle.dso_legal.proofs.fitting.MessagesFit.{messages_fit}
use Rattle.dso_world.proofs.premises.SoundPrograms.{sound_code}
use Rattle.dso_machine.specs.Next.{next_request}
use Rattle.dso_server.specs.declared.taken.Taken.TheVariants.{BadMessage, Done, Gone}
use Rattle.dso_host.specs.GoodMessages.{NoMessageIsBad}

pub no_message_is_bad : NoMessageIsBad
no_message_is_bad code p sound shaped es follow few c m first Done messages old new taken = tt
no_message_is_bad code p sound shaped es follow few c m first Gone messages old new taken = tt
no_message_is_bad code p sound shaped es follow few c m first (BadMessage tag) messages old new taken =
    let program = sound_code code p.shape sound shaped in
    taken.1 ((messages_fit p (next_request code) program.sound program.texts program.within es follow few c).ups taken.0 m first)
