-- A client's entry says no record and has no event, or is the next act of a thread and says the record that the act ends first.
use Rattle.std.proofs.Common.{List, None, Option, Some, ap, inl, inr, sym, ℕ, ◌++◌, ◌∙◌, ◌≡◌, ◌⊎◌}
use Rattle.dso_base.specs.declared.journal.Entry.{Entry}
use Rattle.dso_base.specs.declared.lock.ThreadId.{ThreadId}
use Rattle.dso_base.specs.declared.message.Up.{Up}
use Rattle.dso_base.specs.declared.request.Event.{Event}
use Rattle.dso_base.specs.declared.request.Event.TheVariants.{Act}
use Rattle.dso_base.specs.declared.request.Reply.{Reply}
use Rattle.dso_base.specs.declared.request.Request.{Request}
use Rattle.dso_law.specs.ClientStep.{ClientStep, commits}
use Rattle.dso_law.specs.Replies.{woken_by}
use Rattle.dso_law.specs.Settings.{Settings}
use Rattle.dso_legal.proofs.acts.ClientActs.{HasEvent, IsQuiet, NoRecords, client_acted}
use Rattle.dso_legal.proofs.blocks.OwnActs.{IsNextAct, next_act}
use Rattle.dso_legal.proofs.channels.InFlight.{said_of}

-- the entry is the next act of a thread, and behind the record that the act ends, if it ends one, it says no record
pub record Acts (p : Settings) (c : ℕ) (before : ThreadId → Option Request) (e : Entry) (own_entries : List Entry) : Type 0 where
  pub act : IsNextAct p c before e own_entries
  pub rest : List Up
  pub whole : said_of e.sent ≡ commits p act.thread (Act act.thread act.request act.reply (woken_by act.request act.reply own_entries)) own_entries ++ rest
  pub no_records : NoRecords rest

module _ (p : Settings) (c : ℕ) (before after_it : ThreadId → Option Request) (e : Entry) (own_entries : List Entry) where
  no_event : {event : Event} → e.event ≡ None → e.event ≡ Some event → ⊥
  no_event none some = cc (sym none ∙ some)

  -- what is said of one event's parts is said of the same event's
  same_commits : (t u : ThreadId) (q r : Request) (a b : Reply) → Some (Act t q a (woken_by q a own_entries)) ≡ Some (Act u r b (woken_by r b own_entries))
      → commits p t (Act t q a (woken_by q a own_entries)) own_entries ≡ commits p u (Act u r b (woken_by r b own_entries)) own_entries
  same_commits t u q r a b same =
      let thread : t ≡ u = cc same in
      let request : q ≡ r = cc same in
      let reply : a ≡ b = cc same in
      λ i. commits p (thread i) (Act (thread i) (request i) (reply i) (woken_by (request i) (reply i) own_entries)) own_entries

  both_ways : IsQuiet e ⊎ HasEvent p e own_entries → (e.event ≡ None) ⊎ IsNextAct p c before e own_entries → IsQuiet e ⊎ Acts p c before e own_entries
  both_ways (inl quiet) acts = inl quiet
  both_ways (inr it) (inl none) = absurd (no_event none it.event)
  both_ways (inr it) (inr act) = inr (record {
    act = act;
    rest = it.rest;
    whole = it.whole ∙ ap (λ ms. ms ++ it.rest) (same_commits it.thread act.thread it.request act.request it.reply act.reply (sym it.event ∙ act.event));
    no_records = it.no_records;
  })

  pub quiet_or_acts : ClientStep p c before after_it e own_entries → IsQuiet e ⊎ Acts p c before e own_entries
  quiet_or_acts step = both_ways (client_acted p c before after_it e own_entries step) (next_act p c before after_it e own_entries step)
