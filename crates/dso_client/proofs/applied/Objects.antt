-- The table once a request was answered.
use Rattle.std.specs.List.{list_any}
use Rattle.std.proofs.Common.{◌≡◌, ℕ, refl, sym, ◌∙◌, ap, Bool, true, false, cond, eqb, ◌&&◌, ◌||◌, is_some, Some, None, [], ◌∷◌, ◌++◌, subst, ◌≤◌, List}
use Rattle.std.proofs.lemmas.List.Folds.{list_any-append}
use Rattle.std.specs.BTreeMap.{is_at}
use Rattle.std.specs.Cmp.{unsigned_tied}
use Rattle.std.specs.Option.{option_map_or}
use Rattle.std.specs.Ordering.{nat_cmp}
use Rattle.dso_base.specs.declared.lock.LockName.TheVariants.{Name}
use Rattle.dso_base.specs.declared.lock.ThreadId.{ThreadId}
use Rattle.dso_base.specs.declared.request.Reply.{Reply}
use Rattle.dso_base.specs.declared.request.Reply.TheVariants.{Done}
use Rattle.dso_base.specs.declared.request.Request.{Request}
use Rattle.dso_base.specs.declared.request.Request.TheVariants.{Put}
use Rattle.dso_base.specs.Following.{is_thread}
use Rattle.dso_lookup.specs.Maps.{or_old}
use Rattle.dso_lookup.specs.Orders.{thread_order}
use Rattle.dso_plain.proofs.keys.SameKeys.{same_thread}
use Rattle.dso_plain.proofs.keys.TableOrders.{thread_at}
use Rattle.dso_law.proofs.client.ClientLaws.{lock_either_way}
use Rattle.dso_law.specs.ClientStep.{puts_to, event_puts_to}
use Rattle.dso_law.specs.Threads.{ending_by, locks_of, open_block, block_after}
use Rattle.dso_law.specs.Records.{records}
use Rattle.dso_table.specs.declared.tables.ObjectTables.{ObjectTables}
use Rattle.dso_table.specs.States as states
use Rattle.dso_table.specs.States.{State, body_of, is_asked, acted, closed, opened}
use Rattle.dso_table.specs.ObjectTables.{state_in}
use Rattle.dso_client.specs.declared.answered.Answered.{Answered}
use Rattle.dso_client.specs.ActEffects.{event_of, applied, put_to}
use Rattle.dso_client.specs.RunPoints.{RunPoint}
use Rattle.dso_client.specs.TableStands.{TableTells}
use Rattle.dso_client.proofs.asked.Objects.{unwanted}

-- a done put is to its object
pub put_tells : (x : ℕ) (request : Request) (reply : Reply) → puts_to x request reply ≡ option_map_or (λ o. eqb o x) (put_to request reply) false
put_tells x (Put o f v) Done = refl
put_tells x (Put o f v) reply = refl
put_tells x request reply = refl

-- the notes of a thread, by whether it is the one that acts: none of it stays
ends : (b note : Bool) (block : Bool) → note ≡ block → or_old (cond b (Some false) None) note ≡ cond b false block
ends true note block e = refl
ends false note block e = e

-- or there is one more of it
opens : (b here note block : Bool) → note ≡ block → or_old (cond (b && here) (Some true) None) note ≡ cond b (block || (here || false)) block
opens true true note true e = refl
opens true true note false e = refl
opens true false note true e = e
opens true false note false e = e
opens false here note block e = e

goes_on : (b note block : Bool) → note ≡ block → note ≡ cond b (block || (false || false)) block
goes_on true note true e = e
goes_on true note false e = e
goes_on false note block e = e

module _ (clock : ℕ) (at : RunPoint) (act : Answered) (mine : act.thread.client ≡ at.client) (old : ObjectTables) (used : List ℕ) (h : TableTells at used old) where
  abbrev is_ending : Bool
  is_ending = is_some (ending_by act.request act.reply (locks_of act.thread at.entries))

  -- whether a thread's open block puts to the object, once the request was answered
  abbrev puts : ThreadId → ℕ → Bool
  puts u x = list_any (event_puts_to x) (open_block u (applied clock act at).entries)

  abbrev before : ThreadId → ℕ → Bool
  before u x = list_any (event_puts_to x) (open_block u at.entries)

  abbrev changes : ℕ → Bool
  changes x = puts_to x act.request act.reply || false

  -- by whether the thread is the one that acts, and whether its act is an ending
  by_block : (u : ThreadId) (x : ℕ) → puts u x ≡ cond (is_thread u act.thread) (cond is_ending false (before u x || changes x)) (before u x)
  by_block u x = by (is_thread u act.thread) refl
    where
      last : (b : Bool) → list_any (event_puts_to x) (cond b [] (open_block u at.entries ++ event_of act ∷ [])) ≡ cond b false (before u x || changes x)
      last true = refl
      last false = list_any-append (event_puts_to x) (open_block u at.entries) (event_of act ∷ [])

      by : (b : Bool) → is_thread u act.thread ≡ b → list_any (event_puts_to x) (cond b (block_after (event_of act) (locks_of u at.entries) (open_block u at.entries)) (open_block u at.entries))
          ≡ cond b (cond is_ending false (before u x || changes x)) (before u x)
      by false e = refl
      by true e = ap (λ t. list_any (event_puts_to x) (cond (is_some (ending_by act.request act.reply (locks_of t at.entries))) [] (open_block u at.entries ++ event_of act ∷ []))) (sym (same_thread u act.thread e))
          ∙ last is_ending

  -- so where it is none or one
  of_block : (u : ThreadId) (x : ℕ) (ending : Bool) → is_ending ≡ ending → puts u x ≡ cond (is_thread u act.thread) (cond ending false (before u x || changes x)) (before u x)
  of_block u x ending e = by_block u x ∙ ap (λ b. cond (is_thread u act.thread) (cond b false (before u x || changes x)) (before u x)) e

  either : (u : ThreadId) → is_at (thread_order act.thread) u ≡ is_thread u act.thread
  either u = thread_at act.thread u ∙ (ap (λ b. b && eqb u.index act.thread.index) (lock_either_way (Name act.thread.client) (Name u.client))
      ∙ ap (λ b. eqb act.thread.client u.client && b) (lock_either_way (Name act.thread.index) (Name u.index)))

  applied_so : (notes : ThreadId × ℕ → Bool) (new : ObjectTables) → state_in new ≡ record (acted act.thread (state_in old)) { opened = notes } → ((u : ThreadId) (x : ℕ) → notes (u, x) ≡ puts u x)
      → TableTells (applied clock act at) used new
  applied_so notes new is noted = record {
    bodies = λ x. ap (λ (s : State). body_of (s.standing x)) is ∙ h.bodies x;
    asked = λ x. ap (λ (s : State). is_asked (s.standing x)) is ∙ h.asked x;
    marks = λ x. ap (λ (s : State). s.marks x) is ∙ h.marks x;
    opened = λ u x. ap (λ (s : State). s.opened (u, x)) is ∙ noted u x;
    wanted = λ u x. ap (λ (s : State). s.wanted (u, x)) is ∙ unwanted clock at act.thread mine old used h u x;
    room = ap (λ (s : State). s.limit) is ∙ h.room;
    count = ap (λ (s : State). s.residents) is ∙ h.count;
    acked = subst (λ n. n ≤ records at.entries) (sym (ap (λ (s : State). s.acked) is)) h.acked;
    order = ap (λ (s : State). s.used) is ∙ h.order;
  }

  -- an ending closes the block
  pub block_closed : (new : ObjectTables) → is_ending ≡ true → state_in new ≡ closed act.thread (acted act.thread (state_in old)) → TableTells (applied clock act at) used new
  block_closed new ending is = applied_so (states.without_thread act.thread (state_in old).opened) new is (λ u x.
      ap (λ b. or_old (cond b (Some false) None) ((state_in old).opened (u, x))) (either u)
      ∙ (ends (is_thread u act.thread) ((state_in old).opened (u, x)) (before u x) (h.opened u x) ∙ sym (of_block u x true ending)))

  -- a done put opens its object
  pub block_puts : (o : ℕ) (new : ObjectTables) → is_ending ≡ false → put_to act.request act.reply ≡ Some o → state_in new ≡ opened o act.thread (acted act.thread (state_in old))
      → TableTells (applied clock act at) used new
  block_puts o new ending put is = applied_so (states.with_note act.thread o (state_in old).opened) new is (λ u x.
      ap (λ b. or_old (cond (b && is_at (nat_cmp o) x) (Some true) None) ((state_in old).opened (u, x))) (either u)
      ∙ (ap (λ b. or_old (cond (is_thread u act.thread && b) (Some true) None) ((state_in old).opened (u, x))) (unsigned_tied o x)
      ∙ (opens (is_thread u act.thread) (eqb o x) ((state_in old).opened (u, x)) (before u x) (h.opened u x)
      ∙ (ap (λ b. cond (is_thread u act.thread) (before u x || (b || false)) (before u x)) (sym (put_tells x act.request act.reply ∙ ap (λ p. option_map_or (λ k. eqb k x) p false) put))
      ∙ sym (of_block u x false ending)))))

  -- all else leaves it open as it was
  pub block_goes_on : (new : ObjectTables) → is_ending ≡ false → put_to act.request act.reply ≡ None → state_in new ≡ acted act.thread (state_in old) → TableTells (applied clock act at) used new
  block_goes_on new ending put is = applied_so (state_in old).opened new is (λ u x.
      goes_on (is_thread u act.thread) ((state_in old).opened (u, x)) (before u x) (h.opened u x)
      ∙ (ap (λ b. cond (is_thread u act.thread) (before u x || (b || false)) (before u x)) (sym (put_tells x act.request act.reply ∙ ap (λ p. option_map_or (λ k. eqb k x) p false) put))
      ∙ sym (of_block u x false ending)))
