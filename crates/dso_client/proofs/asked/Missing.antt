-- What is asked for isn't there.
use Rattle.std.proofs.Common.{◌≡◌, ℕ, refl, subst, Bool, true, false, ◌||◌, is_some, Option, Some, None, List}
use Rattle.dso_base.specs.declared.journal.Entry.{Entry}
use Rattle.dso_base.specs.declared.lock.Level.{Level}
use Rattle.dso_base.specs.declared.lock.ThreadId.{ThreadId}
use Rattle.dso_base.specs.declared.message.Up.{Up}
use Rattle.dso_base.specs.declared.message.Up.TheVariants as up
use Rattle.dso_base.specs.declared.request.Request.{Request}
use Rattle.dso_law.specs.Copies.{is_object_asked}
use Rattle.dso_law.specs.Leases.{leased, is_asked_for}
use Rattle.dso_law.specs.Records.{is_batch_asked}
use Rattle.dso_law.specs.RequestNeeds.{Need, NeedsId, NeedsObject, NeedsLease, unless_asked, ask_for}
use Rattle.dso_law.proofs.runs.AsksForAbsent.{IsLacking, lacking}
use Rattle.dso_client.specs.AskedActs.{IsMissing}
use Rattle.dso_client.specs.RunPoints.{RunPoint}
use Rattle.dso_client.specs.Turns.{Asks}

-- a message that is there wasn't sent before
unasked : (b : Bool) (m n : Up) → unless_asked b m ≡ Some n → (b ≡ false) × (m ≡ n)
unasked true m n e = absurd (cc e)
unasked false m n e = (refl, cc e)

neither : (level : Option Level) (b : Bool) → (is_some level || b) ≡ false → (level ≡ None) × (b ≡ false)
neither (Some level) b e = absurd (cc e)
neither None b e = (refl, e)

module _ (es : List Entry) (m : Up) where
  id_missing : (b : Bool) → unless_asked b up.IdAsk ≡ Some m → IsMissing es m
  id_missing b e = subst (IsMissing es) (unasked b up.IdAsk m e).1 tt

  object_missing : (o : ℕ) → IsLacking es (Some (NeedsObject o)) → unless_asked (is_object_asked o es) (up.Fault o) ≡ Some m → IsMissing es m
  object_missing o lacks e = let h = unasked (is_object_asked o es) (up.Fault o) m e in subst (IsMissing es) h.1 (lacks, h.0)

  need_missing : (need : Need) → IsLacking es (Some need) → ask_for need es ≡ Some m → IsMissing es m
  need_missing NeedsId lacks e = id_missing (is_batch_asked es) e
  need_missing (NeedsObject o) lacks e = object_missing o lacks e
  need_missing (NeedsLease l level) lacks e =
      let h = unasked (is_some (leased l es) || is_asked_for l es) (up.Request l level) m e in
      subst (IsMissing es) h.1 (neither (leased l es) (is_asked_for l es) h.0)
  need_missing need lacks e = absurd (cc e)

pub asks_missing : (at : RunPoint) (t : ThreadId) (request : Request) (m : Up) → Asks at t request m → IsMissing at.entries m
asks_missing at t request m h =
    let es = at.entries in
    need_missing es m h.need (subst (IsLacking es) h.lacks (lacking at.settings at.client at.next t es request)) h.asked
