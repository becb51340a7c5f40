-- A thread of sound code names only texts of its program, and what it was told of.
use Rattle.std.proofs.Common.{◌≡◌, inl, inr, refl, subst, List, [], ◌∷◌, ◌++◌, Some, sym}
use Rattle.std.proofs.lemmas.List.{append_assoc, append-nil}
use Rattle.dso_base.specs.declared.lock.ThreadId.{ThreadId}
use Rattle.dso_base.specs.declared.request.Event.{Event}
use Rattle.dso_base.specs.declared.request.Event.TheVariants.{Act, Lost}
use Rattle.dso_base.specs.declared.request.Reply.{Reply}
use Rattle.dso_base.specs.declared.request.Reply.TheVariants.{Made, Val}
use Rattle.dso_base.specs.declared.request.Request.{Request}
use Rattle.dso_base.specs.declared.value.Value.{Value}
use Rattle.dso_base.specs.declared.value.Value.TheVariants as value
use Rattle.dso_base.specs.Following.{IsListedFor, Listed, FollowsFrom, FollowsProgram}
use Rattle.dso_machine.specs.declared.code.Code.{Code}
use Rattle.dso_machine.specs.Next.{next_request}
use Rattle.dso_machine.specs.Sound.{IsSoundCode}
use Rattle.dso_machine.proofs.protocol.Protocol.{FollowsAt}
use Rattle.dso_machine.proofs.protocol.Threads.{keeps_to}
use Rattle.dso_report.specs.Told.{NamesOnlyKnown, Tells, WasTold, IsTextOf, IsObjectOf}
use Rattle.dso_report.proofs.histories.KnownNames.{TellsKnown, MayCome, name_keeper, follows_more}

module _ (code : Code) (sound : IsSoundCode code) (t : ThreadId) (all : List Event) where
  -- what the thread is told in some of the events it is told in all of them
  record IsAmong (events : List Event) : Type 0 where
    told : (v : Value) → WasTold events v → WasTold all v

  -- a reply among them tells only of what the thread is told of
  reply_tells : (r : Reply) → ((v : Value) → Tells v r → WasTold all v) → TellsKnown code.shape (IsTextOf code all) (IsObjectOf all) (λ text own. inl own) r
  reply_tells (Made object) told = told (value.Ref object) refl
  reply_tells (Val (value.Ref object)) told = told (value.Ref object) refl
  reply_tells (Val (value.Text text)) told = inr (told (value.Text text) refl)
  reply_tells (Val v) told = tt
  reply_tells r told = tt

  -- the events so far follow the program, and each tells only of what the thread is told of
  abbrev FollowsKnown : List Event → Type 0
  FollowsKnown events = FollowsAt (name_keeper code.shape (IsTextOf code all) (IsObjectOf all) (λ text own. inl own)) (next_request code t) [] tt events

  -- after events that do so, the next request names only what the thread is told of
  names_told : (events : List Event) (q : Request) → FollowsKnown events → next_request code t events ≡ Some q → NamesOnlyKnown (IsTextOf code all) (IsObjectOf all) q
  names_told events q follows asked = keeps_to code (name_keeper code.shape (IsTextOf code all) (IsObjectOf all) (λ text own. inl own)) sound t events q follows asked

  -- events that are left do so too
  follows_known : (so_far left : List Event) → FollowsKnown so_far → FollowsFrom (next_request code) (Listed (next_request code)) t so_far left → IsAmong left → FollowsKnown (so_far ++ left)
  follows_known so_far [] follows ahead among = subst FollowsKnown (sym (append-nil so_far)) follows
  follows_known so_far (Act u q r woken ∷ left) follows ahead among =
      let asked : next_request code t so_far ≡ Some q = ahead.0.0 in
      let comes : MayCome code.shape (IsTextOf code all) (IsObjectOf all) (λ text own. inl own) q r = record {
        listed = subst (λ found. IsListedFor found r) asked ahead.0.1;
        tells = reply_tells r (λ v tells. among.told v (inl tells));
        names = names_told so_far q follows asked;
      } in
      let more = follows_more code.shape (IsTextOf code all) (IsObjectOf all) (λ text own. inl own) (next_request code t) [] so_far u q r woken follows asked comes in
      subst FollowsKnown (append_assoc so_far (Act u q r woken ∷ []) left)
      (follows_known (so_far ++ Act u q r woken ∷ []) left more ahead.1 (record { told = λ v told. among.told v (inr told) }))
  follows_known so_far (Lost client ∷ left) follows ahead among = absurd ahead.0

-- each request of a thread of sound code names only texts of the program, and what the thread was told of
pub threads_name_what_they_were_told : (code : Code) (t : ThreadId) (events : List Event) (q : Request) → IsSoundCode code → FollowsProgram (next_request code) (Listed (next_request code)) t events
    → next_request code t events ≡ Some q → NamesOnlyKnown (IsTextOf code events) (IsObjectOf events) q
threads_name_what_they_were_told code t events q sound follows asked =
    names_told code sound t events events q (follows_known code sound t events [] events tt follows (record { told = λ v told. told })) asked
