-- Whether an id is left after an entry that doesn't touch ids, and whether a batch is asked for.
use Rattle.std.proofs.Common.{ℕ, suc, ◌+◌, ◌-◌, ◌≤◌, ◌<◌, ◌≡◌, refl, sym, ◌∙◌, ap, Bool, true, false, cond, ltb, is_some, Option, Some, None, List, [], ◌∷◌, arith}
use Rattle.std.proofs.lemmas.Bool.{ltb-true, ltb-false}
use Rattle.dso_base.specs.declared.journal.Entry.{Entry}
use Rattle.dso_base.specs.declared.lock.ThreadId.{ThreadId}
use Rattle.dso_base.specs.declared.message.Down.{Down}
use Rattle.dso_base.specs.declared.message.Down.TheVariants as down
use Rattle.dso_base.specs.declared.message.Up.{Up}
use Rattle.dso_base.specs.declared.message.Up.TheVariants as up
use Rattle.dso_base.specs.declared.request.Event.{Event}
use Rattle.dso_base.specs.declared.request.Event.TheVariants.{Act, Lost}
use Rattle.dso_base.specs.declared.request.Reply.{Reply}
use Rattle.dso_base.specs.declared.request.Reply.TheVariants.{Made}
use Rattle.dso_base.specs.declared.request.Request.{Request}
use Rattle.dso_law.specs.Entries.{by_taken_down, by_event}
use Rattle.dso_law.specs.Records.{batches_by_taken, batches, made_by_reply, made_by, made, id_at, next_id, batch_asked_by_taken, batch_asked_by_sent, is_batch_asked}
use Rattle.dso_open_law.specs.TouchedThreads.{OfIds, made_topics, up_topics, down_topics, event_topics}
use Rattle.dso_open_law.proofs.readings.Untouched.{IsSpared, Spares, act_spares, sent_leave, taken_leave}

-- ids are touched where they are the topic
touched : {P : Type 0} → IsSpared OfIds (OfIds ∷ []) → P
touched none = absurd (cc none)

-- what is over a number is over it with one more
over_too : (n : ℕ) → 256 ≤ n → ltb (suc n) 256 ≡ false
over_too n past = by (ltb (suc n) 256) refl
  where
    by : (b : Bool) → ltb (suc n) 256 ≡ b → b ≡ false
    by true less = let h : suc n < 256 = ltb-true (suc n) 256 less in absurd (omega (arith, h, past))
    by false more = refl

-- where an id has one behind it, it is there
id_before : (batches : List ℕ) (n : ℕ) → is_some (id_at batches (suc n)) ≡ true → is_some (id_at batches n) ≡ true
id_before [] n is = absurd (cc is)
id_before (first ∷ rest) n is = by (ltb n 256) refl (id_before rest (n - 256))
  where
    by : (b : Bool) → ltb n 256 ≡ b → (is_some (id_at rest (suc (n - 256))) ≡ true → is_some (id_at rest (n - 256)) ≡ true) → is_some (cond b (Some (first + n)) (id_at rest (n - 256))) ≡ true
    by true less before = refl
    by false more before =
        let past : 256 ≤ n = ltb-false n 256 more in
        let behind : suc n - 256 ≡ suc (n - 256) = omega (arith, past) in
        before (ap (λ k. is_some (id_at rest k)) (sym behind) ∙ sym (ap (λ b. is_some (cond b (Some (first + suc n)) (id_at rest (suc n - 256)))) (over_too n past)) ∙ is)

module _ (before after : ThreadId → Option Request) (es : List Entry) where
  batches_taken : (m : Down) (batches : List ℕ) → IsSpared OfIds (down_topics before after es m) → batches_by_taken m batches ≡ batches
  batches_taken (down.Ids first) batches none = touched none
  batches_taken m batches none = refl

  asked_taken : (m : Down) (b : Bool) → IsSpared OfIds (down_topics before after es m) → batch_asked_by_taken m b ≡ b
  asked_taken (down.Ids first) b none = touched none
  asked_taken m b none = refl

  asked_sent : (m : Up) (b : Bool) → IsSpared OfIds (up_topics m) → batch_asked_by_sent m b ≡ b
  asked_sent up.IdAsk b none = touched none
  asked_sent m b none = refl

  -- an object that is made leaves an id where it doesn't touch ids
  one_made : (reply : Reply) → IsSpared OfIds (made_topics es reply) → is_some (id_at (batches es) (made_by_reply reply (made es))) ≡ is_some (id_at (batches es) (made es))
  one_made (Made o) none =
      let left : is_some (id_at (batches es) (suc (made es))) ≡ true = by (is_some (id_at (batches es) (suc (made es)))) none in
      left ∙ sym (id_before (batches es) (made es) left)
    where
      by : (b : Bool) → IsSpared OfIds (cond b [] (OfIds ∷ [])) → b ≡ true
      by true none = refl
      by false none = touched none
  one_made reply none = refl

  made_acted : (event : Option Event) → IsSpared OfIds (event_topics before after es event) → is_some (id_at (batches es) (by_event made_by event (made es))) ≡ is_some (id_at (batches es) (made es))
  made_acted None none = refl
  made_acted (Some (Act t request reply woken)) none = one_made reply (act_spares before after es OfIds t request reply woken none).made
  made_acted (Some (Lost client)) none = refl

  module _ (e : Entry) (spares : Spares before after es OfIds e) where
    pub next_id_stays : is_some (next_id (e ∷ es)) ≡ is_some (next_id es)
    next_id_stays = ap (λ batches. is_some (id_at batches (made (e ∷ es)))) (taken_leave before after es OfIds (λ batches. batches) batches_by_taken batches_taken e.input (batches es) spares.taken)
        ∙ made_acted e.event spares.done

    pub batch_asked_stays : is_batch_asked (e ∷ es) ≡ is_batch_asked es
    batch_asked_stays = sent_leave OfIds (λ b. b) batch_asked_by_sent asked_sent e.sent (by_taken_down batch_asked_by_taken e.input (is_batch_asked es)) spares.sent
        ∙ taken_leave before after es OfIds (λ b. b) batch_asked_by_taken asked_taken e.input (is_batch_asked es) spares.taken
