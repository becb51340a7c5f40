-- Tests of what the rules ask of a message, each with a proof that what passes it holds: so whether a message fits can be computed.
use Rattle.std.specs.List.{list_any, AllByRecursion}
use Rattle.std.specs.Prelude.{ℕ, suc, ◌+◌, ◌^◌, ◌<◌, ◌≤◌, ◌≡◌, ◌≢◌, ◌↔◌, ◌⊎◌, Bool, true, false, not, eqb, ltb, leb, ◌&&◌, ◌||◌, Option, Some, None, List, [], ◌∷◌, ◌++◌, length, slice_get}
use Rattle.std.proofs.Common.{refl, sym, ap, ◌∙◌, inl, inr}
use Rattle.std.proofs.lemmas.Bool.{ltb-true, leb-true}
use Rattle.dso_base.specs.declared.journal.Entry.{Entry}
use Rattle.dso_base.specs.declared.journal.Input.{Input}
use Rattle.dso_base.specs.declared.journal.Input.TheVariants.{TookUp, Rejoin}
use Rattle.dso_base.specs.declared.journal.Node.TheVariants.{Server, Client}
use Rattle.dso_base.specs.declared.lock.Level.{Level}
use Rattle.dso_base.specs.declared.lock.Level.TheVariants.{Read, Write}
use Rattle.dso_base.specs.declared.lock.LockName.{LockName}
use Rattle.dso_base.specs.declared.lock.LockName.TheVariants.{Mon, Name}
use Rattle.dso_base.specs.declared.lock.ThreadId.{ThreadId}
use Rattle.dso_base.specs.declared.message.Down.{Down}
use Rattle.dso_base.specs.declared.message.Down.TheVariants as down
use Rattle.dso_base.specs.declared.message.Up.{Up}
use Rattle.dso_base.specs.declared.message.Up.TheVariants as up
use Rattle.dso_base.specs.declared.record.Body.{Body}
use Rattle.dso_base.specs.declared.record.Choice.{Choice}
use Rattle.dso_base.specs.declared.record.Choice.TheVariants.{Here}
use Rattle.dso_base.specs.declared.record.Ending.{Ending}
use Rattle.dso_base.specs.declared.record.Ending.TheVariants as ending
use Rattle.dso_base.specs.declared.record.Note.{Note}
use Rattle.dso_base.specs.declared.record.Set.{Set}
use Rattle.dso_base.specs.declared.record.Txn.{Txn}
use Rattle.dso_base.specs.declared.request.Event.{Event}
use Rattle.dso_base.specs.declared.shape.ClassShape.{ClassShape}
use Rattle.dso_base.specs.declared.shape.Shape.{Shape}
use Rattle.dso_base.specs.declared.value.ClassId.{ClassId}
use Rattle.dso_base.specs.declared.value.ClassId.TheVariants as class
use Rattle.dso_base.specs.declared.value.Kind.{Kind}
use Rattle.dso_base.specs.declared.value.Kind.TheVariants as kind
use Rattle.dso_base.specs.declared.value.Value.{Value}
use Rattle.dso_base.specs.declared.value.Value.TheVariants as value
use Rattle.dso_base.specs.Block.{is_field_before}
use Rattle.dso_base.specs.Following.{is_thread}
use Rattle.dso_base.specs.Shape.{guard_of, kind_of}
use Rattle.dso_base.specs.Value.{Fits}
use Rattle.dso_plain.specs.KeyTests.{is_lock}
use Rattle.dso_plain.specs.Possible.{IsFieldCount}
use Rattle.dso_plain.proofs.keys.SameKeys.{same_lock}
use Rattle.dso_plain.proofs.keys.SameKeys as keys
use Rattle.dso_law.specs.Settings.{Settings, batch_size, threads_of}
use Rattle.dso_law.specs.Channels.{count_inputs, rejoins, breaks, is_broken, FitsConnection, CountsRejoins}
use Rattle.dso_law.specs.Copies.{is_among, is_resident, class_held, is_object_asked}
use Rattle.dso_law.specs.Entries.{entries_of}
use Rattle.dso_law.specs.FitsDown.{FitFrom, HasSize, FitsShape, FitsIds, FitsObject, FitsAck, FitsClass, FitsChange, IsWaitingOn, FitsWake, FitsDown}
use Rattle.dso_law.specs.FitsUp.{Rises, IsLock, FitsRequest, AreDistinct, IsNewWaiter, FitsReturn, FitsNews, FitsStored, FitsSet, IsNamed, IsPrinted, IsLiteral, FitsChoice, FitsNote, FitsEnding, stored_values, FitsRecord, FitsUp}
use Rattle.dso_law.specs.Leases.{is_asked_for}
use Rattle.dso_law.specs.Records.{batches, is_batch_asked, unacked}
use Rattle.dso_law.specs.ServerReadings.{is_given, is_given_to, last_number, is_ended, last_ending}
use Rattle.dso_law.specs.Granting.{leased_to, queue_of}
use Rattle.dso_law.specs.Store.{stored, holds_object}
use Rattle.dso_law.specs.Threads.{Waiting, locks_of}
use Rattle.dso_law.specs.ClientWaiters.{client_list, is_marked}
use Rattle.dso_law.specs.ServerWaiters.{waiters_of}
use Rattle.dso_legal.proofs.journals.Facts.{is_there, isnt_roots, isnt_roots_array, not_read}
use Rattle.dso_legal.specs.WithoutWaits.{is_wait, HasNoWait, WithoutWaits}

-- ---- tests, and how they are put together

-- a test of a claim: where it passes, the claim holds
pub record Checked (Claim : Type 0) : Type 0 where
  pub passes : Bool
  pub holds : passes ≡ true → Claim

-- what holds passes, and what is not known to hold does not
abbrev pub granted : {Claim : Type 0} → Claim → Checked Claim
granted claim = record { passes = true; holds = λ e. claim }

pub never_passes : {Claim : Type 0} → false ≡ true → Claim
never_passes e = absurd (cc e)

abbrev pub refused : {Claim : Type 0} → Checked Claim
refused = record { passes = false; holds = never_passes }

-- a test of a claim is one of what follows from it
abbrev pub so : {Claim Other : Type 0} → (Claim → Other) → Checked Claim → Checked Other
so follows check = record { passes = check.passes; holds = λ e. follows (check.holds e) }

-- a Bool that is to be true, or false
abbrev pub is_true : (b : Bool) → Checked (b ≡ true)
is_true b = record { passes = b; holds = λ e. e }

pub not_true : (b : Bool) → not b ≡ true → b ≡ false
not_true true e = absurd (cc e)
not_true false e = refl

abbrev pub is_false : (b : Bool) → Checked (b ≡ false)
is_false b = record { passes = not b; holds = not_true b }

-- two claims
pub both_true : (a b : Bool) → (a && b) ≡ true → (a ≡ true) × (b ≡ true)
both_true true b e = (refl, e)
both_true false b e = absurd (cc e)

abbrev pub both : {Claim Other : Type 0} → Checked Claim → Checked Other → Checked (Claim × Other)
both one other = record { passes = one.passes && other.passes; holds = λ e. let h = both_true one.passes other.passes e in (one.holds h.0, other.holds h.1) }

-- one of two claims
pub one_true : {Claim Other : Type 0} (a b : Bool) → (a ≡ true → Claim) → (b ≡ true → Other) → (a || b) ≡ true → Claim ⊎ Other
one_true true b one other e = inl (one refl)
one_true false b one other e = inr (other e)

abbrev pub either : {Claim Other : Type 0} → Checked Claim → Checked Other → Checked (Claim ⊎ Other)
either one other = record { passes = one.passes || other.passes; holds = one_true one.passes other.passes one.holds other.holds }

-- a claim where a Bool is true
pub where_true : {Claim : Type 0} (b passes : Bool) → (passes ≡ true → Claim) → (not b || passes) ≡ true → b ≡ true → Claim
where_true true passes claim e is = claim e
where_true false passes claim e is = absurd (cc is)

abbrev pub only_where : {Claim : Type 0} → (b : Bool) → Checked Claim → Checked (b ≡ true → Claim)
only_where b check = record { passes = not b || check.passes; holds = where_true b check.passes check.holds }

-- the claim for each item of a list
abbrev pub each : {X : Type 0} {P : X → Type 0} → ((x : X) → Checked (P x)) → (xs : List X) → Checked (AllByRecursion P xs)
each check [] = granted tt
each check (x ∷ xs) = both (check x) (each check xs)

-- numbers
abbrev pub less : (a b : ℕ) → Checked (a < b)
less a b = record { passes = ltb a b; holds = ltb-true a b }

abbrev pub at_most : (a b : ℕ) → Checked (a ≤ b)
at_most a b = record { passes = leb a b; holds = leb-true a b }

abbrev pub same_number : (a b : ℕ) → Checked (a ≡ b)
same_number a b = record { passes = eqb a b; holds = keys.same_number a b }

pub number_not_zero : (n : ℕ) → not (eqb n 0) ≡ true → n ≢ 0
number_not_zero n e same = cc (sym (not_true (eqb n 0) e) ∙ ap (λ m. eqb m 0) same)

abbrev pub positive : (n : ℕ) → Checked (n ≢ 0)
positive n = record { passes = not (eqb n 0); holds = number_not_zero n }

-- something, nothing
abbrev pub nothing : {X : Type 0} → (o : Option X) → Checked (o ≡ None)
nothing None = granted refl
nothing (Some x) = refused

abbrev pub something : {X : Type 0} → (o : Option X) → Checked (o ≢ None)
something None = refused
something (Some x) = granted (is_there (Some x) refl)

-- ---- parts of messages

-- a lease at Write
abbrev at_write : (o : Option Level) → Checked (o ≡ Some Write)
at_write (Some Write) = granted refl
at_write (Some Read) = refused
at_write None = refused

-- no threads where the lease is at Read
pub no_lease : {Claim : Type 0} → None ≡ Some Read → Claim
no_lease e = absurd (cc e)

abbrev none_at_read : (o : Option Level) (threads : List ThreadId) → Checked (o ≡ Some Read → threads ≡ [])
none_at_read o [] = granted (λ e. refl)
none_at_read (Some Write) (t ∷ threads) = granted not_read
none_at_read None (t ∷ threads) = granted no_lease
none_at_read (Some Read) (t ∷ threads) = refused

-- a value of a kind
abbrev fits_kind : (k : Kind) (v : Value) → Checked (Fits k v)
fits_kind kind.Long (value.Long n) = granted tt
fits_kind kind.Bool (value.Bool b) = granted tt
fits_kind kind.Text (value.Text t) = granted tt
fits_kind kind.Text value.Null = granted tt
fits_kind kind.Ref (value.Ref object) = positive object
fits_kind kind.Ref value.Null = granted tt
fits_kind k v = refused

abbrev fits_from : (shape : Shape) (c : ClassId) (f : ℕ) (values : List Value) → Checked (FitFrom shape c f values)
fits_from shape c f [] = granted tt
fits_from shape c f (v ∷ values) = both (fits_kind (kind_of shape c f) v) (fits_from shape c (suc f) values)

-- a body of a class
abbrev is_field_count : (o : Option ClassShape) (n : ℕ) → Checked (IsFieldCount o n)
is_field_count None n = refused
is_field_count (Some c) n = same_number n (length c.fields)

abbrev has_size : (shape : Shape) (c : ClassId) (n : ℕ) → Checked (HasSize shape c n)
has_size shape (class.Plain number) n = is_field_count (slice_get shape.classes number) n
has_size shape (class.Array k) n = at_most n 256
has_size shape class.Roots n = same_number n shape.roots

abbrev fits_shape : (shape : Shape) (body : Body) → Checked (FitsShape shape body)
fits_shape shape body = both (has_size shape body.class (length body.values)) (fits_from shape body.class 0 body.values)

-- a class that is not that of the roots
abbrev no_roots : (c : ClassId) → Checked (c ≢ class.Roots)
no_roots (class.Plain n) = granted (isnt_roots)
no_roots (class.Array k) = granted (isnt_roots_array)
no_roots class.Roots = refused

-- the class of the roots, exactly at object 0
abbrev roots_at_zero : (c : ClassId) (object : ℕ) → Checked ((c ≡ class.Roots) ↔ (object ≡ 0))
roots_at_zero (class.Plain n) object = so (λ real. (λ e. absurd (isnt_roots e), λ e. absurd (real e))) (positive object)
roots_at_zero (class.Array k) object = so (λ real. (λ e. absurd (isnt_roots_array e), λ e. absurd (real e))) (positive object)
roots_at_zero class.Roots object = so (λ zero. (λ e. zero, λ e. refl)) (same_number object 0)

-- ---- messages of the server, at the client that takes them

abbrev fits_ids : (from : ℕ) (es : List Entry) → Checked (FitsIds from es)
fits_ids from es = so (λ h. record { asked = h.0; above = h.1.0; new = h.1.1.0; room = h.1.1.1 })
    (both (is_true (is_batch_asked es)) (both (at_most 1 from) (both (each (λ before. at_most (before + batch_size) from) (batches es)) (less (from + batch_size) (2 ^ 64)))))

abbrev fits_object : (shape : Shape) (body : Body) (es : List Entry) → Checked (FitsObject shape body es)
fits_object shape body es = so (λ h. record { asked = h.0; roots = h.1.0; shaped = h.1.1 })
    (both (is_true (is_object_asked body.object es)) (both (roots_at_zero body.class body.object) (fits_shape shape body)))

abbrev fits_ack : (seq : ℕ) (txns : List Txn) → Checked (FitsAck seq txns)
fits_ack seq [] = refused
fits_ack seq (txn ∷ txns) = same_number seq txn.seq

abbrev fits_class : (shape : Shape) (set : Set) (o : Option (ClassId × ℕ)) → Checked (FitsClass shape set o)
fits_class shape set None = refused
fits_class shape set (Some c) = both (less set.field c.1) (fits_kind (kind_of shape c.0 set.field) set.value)

abbrev fits_change : (shape : Shape) (es : List Entry) (set : Set) → Checked (FitsChange shape es set)
fits_change shape es set = only_where (is_resident set.object es) (fits_class shape set (class_held set.object es))

abbrev waits_on : (l : LockName) (o : Option Waiting) → Checked (IsWaitingOn l o)
waits_on l None = refused
waits_on l (Some waiting) = record { passes = is_lock l waiting.lock; holds = same_lock l waiting.lock }

abbrev fits_wake : (c : ℕ) (l : LockName) (t : ThreadId) (es : List Entry) → Checked (FitsWake c l t es)
fits_wake c l t es = so (λ h. record { its = h.0; waits = h.1.0; unmarked = h.1.1.0; unlisted = h.1.1.1 })
    (both (same_number t.client c) (both (waits_on l (locks_of t es).waiting) (both (is_false (is_marked t es)) (is_false (list_any (is_thread t) (client_list l es))))))

-- whether a message of the server fits
abbrev pub fits_down : (p : Settings) (c : ℕ) (m : Down) (es : List Entry) → Checked (FitsDown p c m es)
fits_down p c (down.Ids from) es = fits_ids from es
fits_down p c (down.Object body) es = fits_object p.shape body es
fits_down p c (down.Grant l level) es = is_true (is_asked_for l es)
fits_down p c (down.Recall l) es = granted tt
fits_down p c (down.Ack seq) es = fits_ack seq (unacked es)
fits_down p c (down.Changes sets) es = each (fits_change p.shape es) sets
fits_down p c (down.Wake l t) es = fits_wake c l t es

-- ---- messages of a client, at the server

abbrev is_a_lock : (p : Settings) (l : LockName) (es : List Entry) → Checked (IsLock p l es)
is_a_lock p (Name n) es = less n p.shape.names
is_a_lock p (Mon o) es = both (at_most 1 o) (is_true (is_given o es))

abbrev fits_request : (p : Settings) (c : ℕ) (l : LockName) (es : List Entry) → Checked (FitsRequest p c l es)
fits_request p c l es = so (λ h. record { not_leased = h.0; not_asked = h.1.0; lock = h.1.1 })
    (both (nothing (leased_to c l es)) (both (is_false (list_any (λ waiter. eqb waiter.client c) (queue_of l es))) (is_a_lock p l es)))

abbrev each_once : (threads : List ThreadId) → Checked (AreDistinct threads)
each_once [] = granted tt
each_once (t ∷ threads) = both (is_false (list_any (is_thread t) threads)) (each_once threads)

abbrev is_new_waiter : (p : Settings) (c : ℕ) (l : LockName) (es : List Entry) (t : ThreadId) → Checked (IsNewWaiter p c l es t)
is_new_waiter p c l es t = both (is_true (list_any (is_thread t) (threads_of p c))) (is_false (list_any (is_thread t) (waiters_of l es)))

abbrev fits_return : (p : Settings) (c : ℕ) (l : LockName) (threads : List ThreadId) (es : List Entry) → Checked (FitsReturn p c l threads es)
fits_return p c l threads es = so (λ h. record { leased = h.0; new = h.1.0; once = h.1.1.0; none_at_read = h.1.1.1 })
    (both (something (leased_to c l es)) (both (each (is_new_waiter p c l es) threads) (both (each_once threads) (none_at_read (leased_to c l es) threads))))

abbrev fits_news : (p : Settings) (c : ℕ) (es : List Entry) (body : Body) → Checked (FitsNews p c es body)
fits_news p c es body = so (λ h. record { given = h.0; new = h.1.0; class = h.1.1.0; shaped = h.1.1.1 })
    (both (is_true (is_given_to c body.object es)) (both (nothing (stored p.shape body.object es)) (both (no_roots body.class) (fits_shape p.shape body))))

abbrev rises : {X : Type 0} → (before : X → X → Bool) (xs : List X) → Checked (Rises before xs)
rises before [] = granted tt
rises before (x ∷ []) = granted tt
rises before (x ∷ y ∷ rest) = both (is_true (before x y)) (rises before (y ∷ rest))

abbrev fits_stored : (p : Settings) (c : ℕ) (set : Set) (o : Option Body) (es : List Entry) → Checked (FitsStored p c set o es)
fits_stored p c set None es = refused
fits_stored p c set (Some body) es = so (λ h. (h.0, h.1.0, h.1.1)) (both (less set.field (length body.values))
    (both (at_write (leased_to c (guard_of p.shape body.class set.object set.field) es)) (fits_kind (kind_of p.shape body.class set.field) set.value)))

abbrev fits_set : (p : Settings) (c : ℕ) (es : List Entry) (set : Set) → Checked (FitsSet p c es set)
fits_set p c es set = both (is_true (holds_object c set.object es)) (fits_stored p c set (stored p.shape set.object es) es)

abbrev is_named : (p : Settings) (news : List Body) (es : List Entry) (v : Value) → Checked (IsNamed p news es v)
is_named p news es (value.Ref o) = either (something (stored p.shape o es)) (is_true (is_among o news))
is_named p news es v = granted tt

abbrev is_printed : (es : List Entry) (v : Value) → Checked (IsPrinted es v)
is_printed es (value.Ref o) = is_true (is_given o es)
is_printed es v = granted tt

abbrev is_literal : (p : Settings) (v : Value) → Checked (IsLiteral p v)
is_literal p (value.Text t) = less t p.shape.texts
is_literal p v = granted tt

abbrev fits_choice : (p : Settings) (c : ℕ) (choice : Choice) → Checked (FitsChoice p c choice)
fits_choice p c (Here t) = is_true (list_any (is_thread t) (threads_of p c))
fits_choice p c choice = granted tt

abbrev fits_note : (p : Settings) (c : ℕ) (es : List Entry) (note : Note) → Checked (FitsNote p c es note)
fits_note p c es note = both (at_write (leased_to c note.lock es)) (fits_choice p c note.choice)

pub waits_on_lock : (l k : LockName) → is_lock l k ≡ true → Some (ending.Wait k) ≡ Some (ending.Wait l)
waits_on_lock l k same = ap (λ n. Some (ending.Wait n)) (same_lock l k same)

abbrev is_wait_on : (l : LockName) (end : Option Ending) → Checked (end ≡ Some (ending.Wait l))
is_wait_on l None = refused
is_wait_on l (Some (ending.Exit k)) = refused
is_wait_on l (Some (ending.Wait k)) = record { passes = is_lock l k; holds = waits_on_lock l k }
is_wait_on l (Some (ending.End fault)) = refused
is_wait_on l (Some (ending.Timeout k)) = refused

abbrev fits_ending : (c : ℕ) (t : ThreadId) (end : Ending) (es : List Entry) → Checked (FitsEnding c t end es)
fits_ending c t (ending.Exit l) es = something (leased_to c l es)
fits_ending c t (ending.Wait l) es = at_write (leased_to c l es)
fits_ending c t (ending.End fault) es = granted tt
fits_ending c t (ending.Timeout l) es = is_wait_on l (last_ending t es)

-- a record: its number and thread, its news, its sets, its values, its notes and its ending
abbrev fits_record : (p : Settings) (c : ℕ) (txn : Txn) (es : List Entry) → Checked (FitsRecord p c txn es)
fits_record p c txn es = so (λ h. record {
  number = h.0.0;
  thread = h.0.1.0;
  going = h.0.1.1;
  news = h.1.0.0;
  news_rise = h.1.0.1;
  sets = h.1.1.0.0;
  sets_rise = h.1.1.0.1;
  named = h.1.1.1.0.0;
  printed = h.1.1.1.0.1.0;
  texts = h.1.1.1.0.1.1;
  notes = h.1.1.1.1.0;
  ending = h.1.1.1.1.1;
})
    (both (both (same_number txn.seq (suc (last_number c es))) (both (is_true (list_any (is_thread txn.thread) (threads_of p c))) (is_false (is_ended txn.thread es))))
    (both (both (each (fits_news p c es) txn.news) (rises (λ a b. ltb a.object b.object) txn.news))
    (both (both (each (fits_set p c es) txn.sets) (rises is_field_before txn.sets))
    (both (both (each (is_named p txn.news es) (stored_values txn)) (both (each (is_printed es) txn.outs) (each (is_literal p) (stored_values txn ++ txn.outs))))
    (both (each (fits_note p c es) txn.notes) (fits_ending c txn.thread txn.ending es))))))

-- whether a message of a client fits
abbrev pub fits_up : (p : Settings) (c : ℕ) (m : Up) (es : List Entry) → Checked (FitsUp p c m es)
fits_up p c up.IdAsk es = granted tt
fits_up p c (up.Fault o) es = both (something (stored p.shape o es)) (is_false (holds_object c o es))
fits_up p c (up.Flushed o) es = is_true (holds_object c o es)
fits_up p c (up.Request l level) es = fits_request p c l es
fits_up p c (up.Return l threads) es = fits_return p c l threads es
fits_up p c (up.Commit txn) es = fits_record p c txn es

-- ---- connections

abbrev pub fits_connection : (input : Input) (server : List Entry) → Checked (FitsConnection input server)
fits_connection (Rejoin c) server = is_true (is_broken c server)
fits_connection (TookUp c m) server = is_false (is_broken c server)
fits_connection input server = granted tt

abbrev pub counts_rejoins : (es : List Entry) (c : ℕ) → Checked (CountsRejoins c es)
counts_rejoins es c = so (λ h. record { at_client = h.0; at_server = h.1 })
    (both (at_most (count_inputs (rejoins c) (entries_of (Client c) es)) (count_inputs (breaks c) (entries_of Server es)))
    (at_most (count_inputs (rejoins c) (entries_of Server es)) (count_inputs (rejoins c) (entries_of (Client c) es))))

-- ---- what the central law asks of a journal besides

abbrev has_no_wait : (event : Option Event) → Checked (HasNoWait event)
has_no_wait None = granted tt
has_no_wait (Some event) = is_false (is_wait event)

abbrev pub without_waits : (es : List Entry) → Checked (WithoutWaits es)
without_waits es = each (λ e. has_no_wait e.event) es
