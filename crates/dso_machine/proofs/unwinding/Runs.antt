-- A thread's run: which holds it has, how it waits, and what follows its next request.
use Rattle.std.proofs.Common.{◌≡◌, refl, Bool, true, false, List, [], ◌∷◌, Option, None, Some, subst, sym, ap, ◌∙◌}
use Rattle.dso_base.specs.declared.lock.Grade.{Grade}
use Rattle.dso_base.specs.declared.lock.Grade.TheVariants as grade
use Rattle.dso_base.specs.declared.lock.Level.{Level}
use Rattle.dso_base.specs.declared.lock.LockName.{LockName}
use Rattle.dso_base.specs.declared.request.Fault.{Fault}
use Rattle.dso_base.specs.declared.request.Reply.{Reply}
use Rattle.dso_base.specs.declared.request.Reply.TheVariants.{Done, Val, Refused}
use Rattle.dso_base.specs.declared.request.Request.{Request}
use Rattle.dso_base.specs.declared.request.Request.TheVariants.{Enter, Exit, Wait, Tick, Timeout, Resume, End, Settle}
use Rattle.dso_base.specs.declared.value.Value.TheVariants as value
use Rattle.dso_base.specs.Following.{IsListed}
use Rattle.dso_machine.specs.Next.{finish, request_of}
use Rattle.dso_machine.specs.Outcome.{Environment, State, Outcome, Wants, Gives, Leaves, Fails, Hears, Over, Stopped, level_of}
use Rattle.dso_machine.specs.Unwinding.{outer, with_replies, Hold, hold_at, locks_of, IsAtFault, IsAtEntry, IsAtGrade, holds_after_reply}
use Rattle.dso_machine.specs.WaitingThreads.{Waiting, Awake, Asleep, Roused, waiting_after_reply, waited_on, waited_on_by, AsksAsItWaits}
use Rattle.dso_machine.proofs.protocol.Parts.{refilled}
use Rattle.dso_machine.proofs.unwinding.Tidy.{is_simple, Failing, Entering, IsEnd, Phase, Goes, Settles, Waits, left_at, ticked, Tidy}

-- ---- the rest of a run

-- what comes of the replies where a thread has these holds: its body is tidy, or it has ended
pub data Run : Phase → List Hold → (List Reply → Outcome) → Type 0 where
  within : {p : Phase} {hs : List Hold} {w : List Reply → Outcome} (o : List Reply → Outcome) → Tidy p hs o → ((rs : List Reply) → w rs ≡ finish (o rs)) → Run p hs w
  over : {w : List Reply → Outcome} → ((rs : List Reply) → w rs ≡ Over) → Run Goes [] w

-- whether the thread waits
abbrev pub waiting_in : Phase → Waiting
waiting_in Goes = Awake
waiting_in Settles = Awake
waiting_in (Waits l true) = Asleep l
waiting_in (Waits l false) = Roused l

-- the request is an exit that is answered Done
pub record IsLeft (q : Request) (r : Reply) : Type 0 where
  pub lock : LockName
  pub asked : q ≡ Exit lock
  pub answered : r ≡ Done

-- the run after this reply
pub record Stepped (p : Phase) (hs : List Hold) (w : List Reply → Outcome) (q : Request) (r : Reply) : Type 0 where
  pub phase : Phase
  pub left : phase ≡ Settles → IsLeft q r
  pub grade : Grade
  pub run : Run phase (holds_after_reply grade q r hs) (λ rs. w (r ∷ rs))
  pub entry : IsAtGrade w q r grade
  pub waits : waiting_in phase ≡ waiting_after_reply q r (waiting_in p)

-- a lock is left that was the innermost one
pub record Leaving (l : LockName) (hs : List Hold) (w : List Reply → Outcome) : Type 0 where
  pub front : Hold
  pub is : hs ≡ front ∷ outer hs
  pub lock : front.lock ≡ l
  pub run : Run (left_at front.synchronous) (outer hs) (λ rs. w (Done ∷ rs))

-- what is so where this is the next request
pub record Facts (p : Phase) (hs : List Hold) (w : List Reply → Outcome) (q : Request) : Type 0 where
  pub steps : (r : Reply) → IsListed q r → Stepped p hs w q r
  pub exits : (l : LockName) → q ≡ Exit l → Leaving l hs w
  pub settles : q ≡ Settle → p ≡ Settles
  pub ends : (fault : Option Fault) → q ≡ End fault → hs ≡ []
  pub fails : (fault : Fault) → IsListed q (Refused fault) → IsAtFault fault (locks_of hs) (λ rs. w (Refused fault ∷ rs))
  pub at_its_fault : (fault : Fault) → q ≡ End (Some fault) → IsAtFault fault (locks_of hs) w

-- what is wanted is the request
pub the_request : (o : Outcome) (p q : Request) {env : Environment} → o ≡ Wants p env → request_of o ≡ Some q → p ≡ q
the_request o p q is wanted =
    let same : Some p ≡ Some q = sym (ap request_of is) ∙ wanted in
    cc same

-- where nothing is wanted, this isn't the next request
pub wants_none : (o : Outcome) (q : Request) → request_of o ≡ None → request_of o ≡ Some q → ⊥
wants_none o q none wanted = cc (sym none ∙ wanted)

-- a part that is at a fault, at the end of a thread
pub at_fault : {fault : Fault} {hs : List Hold} {o : List Reply → Outcome} (w : List Reply → Outcome) → ((rs : List Reply) → w rs ≡ finish (o rs)) → Failing fault hs o → IsAtFault fault (locks_of hs) w
at_fault w is f = record { context = f.context; held = f.held; at = f.at; comes = λ rs. is rs ∙ ap finish (f.comes rs) }

-- a simple request leaves the holds,
pub same_stack : (g : Grade) (q : Request) (r : Reply) (hs : List Hold) → is_simple q ≡ true → holds_after_reply g q r hs ≡ hs
same_stack g (Enter l level) r hs simple = absurd (cc simple)
same_stack g (Exit l) r hs simple = absurd (cc simple)
same_stack g q r hs simple = refl

-- comes where a thread is awake, and leaves it so,
pub still_awake : (q : Request) (r : Reply) → is_simple q ≡ true → Awake ≡ waiting_after_reply q r Awake
still_awake (Wait l) r simple = absurd (cc simple)
still_awake (Tick l) r simple = absurd (cc simple)
still_awake (Timeout l) r simple = absurd (cc simple)
still_awake q r simple = refl

pub asks_awake : (q : Request) → is_simple q ≡ true → waited_on q ≡ None
asks_awake (Tick l) simple = absurd (cc simple)
asks_awake (Timeout l) simple = absurd (cc simple)
asks_awake (Resume l) simple = absurd (cc simple)
asks_awake q simple = refl

-- and is none of the others
pub not_simple : (p q : Request) → is_simple p ≡ true → is_simple q ≡ false → p ≡ q → ⊥
not_simple p q simple other same = cc (sym simple ∙ ap is_simple same ∙ other)

-- a request that is no entry is at any grade
pub no_entry : (w : List Reply → Outcome) (q : Request) (r : Reply) → ((l : LockName) (level : Level) → q ≡ Enter l level → ⊥) → IsAtGrade w q r grade.Read
no_entry w q r other = record { entry = λ l level same answered. absurd (other l level same) }

module _ (hs : List Hold) (w o : List Reply → Outcome) (is : (rs : List Reply) → w rs ≡ finish (o rs)) where
  -- what follows a simple request
  after_simple : (q : Request) → is_simple q ≡ true → ((r : Reply) → Tidy Goes hs (λ rs. o (r ∷ rs))) → (r : Reply) → Stepped Goes hs w q r
  after_simple q simple go r = record {
    phase = Goes;
    left = λ same. absurd (cc same);
    grade = grade.Read;
    run = subst (λ ks. Run Goes ks (λ rs. w (r ∷ rs))) (sym (same_stack grade.Read q r hs simple)) (Run.within (λ rs. o (r ∷ rs)) (go r) (λ rs. is (r ∷ rs)));
    entry = no_entry w q r (λ l level same. not_simple q (Enter l level) simple refl same);
    waits = still_awake q r simple;
  }

  -- a simple request
  at_simple : (q : Request) → is_simple q ≡ true → ((fault : Fault) → Failing fault hs (λ rs. o (Refused fault ∷ rs))) → ((r : Reply) → Tidy Goes hs (λ rs. o (r ∷ rs))) → Facts Goes hs w q
  at_simple q simple fails go = record {
    steps = λ r listed. after_simple q simple go r;
    exits = λ l same. absurd (not_simple q (Exit l) simple refl same);
    settles = λ same. absurd (not_simple q Settle simple refl same);
    ends = λ fault same. absurd (not_simple q (End fault) simple refl same);
    fails = λ fault listed. at_fault (λ rs. w (Refused fault ∷ rs)) (λ rs. is (Refused fault ∷ rs)) (fails fault);
    at_its_fault = λ fault same. absurd (not_simple q (End (Some fault)) simple refl same);
  }

  -- the thread is at an entry
  at_this_grade : (l : LockName) (g : Grade) → Entering l g o → IsAtGrade w (Enter l (level_of g)) Done g
  at_this_grade l g e = record {
    entry = λ k level same answered.
        let one : l ≡ k = cc same in
        subst (λ x. IsAtEntry x g w) one (record { context = e.context; values = e.values; part = e.part; at = e.at; comes = λ rs. is rs ∙ ap finish (e.comes rs) });
  }

  -- what follows an entry
  after_entry : (l : LockName) (g : Grade) → Entering l g o → Tidy Goes (hold_at l g ∷ hs) (λ rs. o (Done ∷ rs)) → ((r : Reply) → (r ≡ Done → ⊥) → Tidy Goes hs (λ rs. o (r ∷ rs)))
      → (r : Reply) → Stepped Goes hs w (Enter l (level_of g)) r
  after_entry l g e inside other Done = record { phase = Goes; left = λ same. absurd (cc same); grade = g; run = Run.within (λ rs. o (Done ∷ rs)) inside (λ rs. is (Done ∷ rs)); entry = at_this_grade l g e; waits = refl }
  after_entry l g e inside other r = record {
    phase = Goes;
    left = λ same. absurd (cc same);
    grade = g;
    run = Run.within (λ rs. o (r ∷ rs)) (other r (λ same. cc same)) (λ rs. is (r ∷ rs));
    entry = record { entry = λ k level same answered. absurd (cc answered) };
    waits = refl;
  }

  -- an entry
  at_entry : (l : LockName) (g : Grade) → Entering l g o → ((fault : Fault) → Failing fault hs (λ rs. o (Refused fault ∷ rs))) → Tidy Goes (hold_at l g ∷ hs) (λ rs. o (Done ∷ rs))
      → ((r : Reply) → (r ≡ Done → ⊥) → Tidy Goes hs (λ rs. o (r ∷ rs))) → Facts Goes hs w (Enter l (level_of g))
  at_entry l g e fails inside other = record {
    steps = λ r listed. after_entry l g e inside other r;
    exits = λ k same. absurd (cc same);
    settles = λ same. absurd (cc same);
    ends = λ fault same. absurd (cc same);
    fails = λ fault listed. at_fault (λ rs. w (Refused fault ∷ rs)) (λ rs. is (Refused fault ∷ rs)) (fails fault);
    at_its_fault = λ fault same. absurd (cc same);
  }

  -- what follows settling
  after_settling : Tidy Goes hs (λ rs. o (Done ∷ rs)) → (r : Reply) → IsListed Settle r → Stepped Settles hs w Settle r
  after_settling go Done listed = record { phase = Goes; left = λ same. absurd (cc same); grade = grade.Read; run = Run.within (λ rs. o (Done ∷ rs)) go (λ rs. is (Done ∷ rs)); entry = no_entry w Settle Done (λ l level same. cc same); waits = refl }
  after_settling go r listed = absurd listed

  -- a thread that settles
  at_settling : Tidy Goes hs (λ rs. o (Done ∷ rs)) → Facts Settles hs w Settle
  at_settling go = record {
    steps = after_settling go;
    exits = λ k same. absurd (cc same);
    settles = λ same. refl;
    ends = λ fault same. absurd (cc same);
    fails = λ fault listed. absurd listed;
    at_its_fault = λ fault same. absurd (cc same);
  }

  -- what follows a wait
  after_wait : (l : LockName) → Tidy (Waits l true) hs (λ rs. o (Done ∷ rs)) → ((r : Reply) → (r ≡ Done → ⊥) → Tidy Goes hs (λ rs. o (r ∷ rs))) → (r : Reply) → Stepped Goes hs w (Wait l) r
  after_wait l asleep other Done = record {
    phase = Waits l true;
    left = λ same. absurd (cc same);
    grade = grade.Read;
    run = Run.within (λ rs. o (Done ∷ rs)) asleep (λ rs. is (Done ∷ rs));
    entry = no_entry w (Wait l) Done (λ k level same. cc same);
    waits = refl;
  }
  after_wait l asleep other r = record {
    phase = Goes;
    left = λ same. absurd (cc same);
    grade = grade.Read;
    run = Run.within (λ rs. o (r ∷ rs)) (other r (λ same. cc same)) (λ rs. is (r ∷ rs));
    entry = no_entry w (Wait l) r (λ k level same. cc same);
    waits = refl;
  }

  -- a wait
  at_wait : (l : LockName) → ((fault : Fault) → Failing fault hs (λ rs. o (Refused fault ∷ rs))) → Tidy (Waits l true) hs (λ rs. o (Done ∷ rs))
      → ((r : Reply) → (r ≡ Done → ⊥) → Tidy Goes hs (λ rs. o (r ∷ rs))) → Facts Goes hs w (Wait l)
  at_wait l fails asleep other = record {
    steps = λ r listed. after_wait l asleep other r;
    exits = λ k same. absurd (cc same);
    settles = λ same. absurd (cc same);
    ends = λ fault same. absurd (cc same);
    fails = λ fault listed. at_fault (λ rs. w (Refused fault ∷ rs)) (λ rs. is (Refused fault ∷ rs)) (fails fault);
    at_its_fault = λ fault same. absurd (cc same);
  }

  -- what follows a tick
  after_tick : (l : LockName) → ((woken : Bool) → Tidy (ticked l woken) hs (λ rs. o (Val (value.Bool woken) ∷ rs))) → (r : Reply) → IsListed (Tick l) r → Stepped (Waits l true) hs w (Tick l) r
  after_tick l go (Val (value.Bool true)) listed = record {
    phase = Waits l false;
    left = λ same. absurd (cc same);
    grade = grade.Read;
    run = Run.within (λ rs. o (Val (value.Bool true) ∷ rs)) (go true) (λ rs. is (Val (value.Bool true) ∷ rs));
    entry = no_entry w (Tick l) (Val (value.Bool true)) (λ k level same. cc same);
    waits = refl;
  }
  after_tick l go (Val (value.Bool false)) listed = record {
    phase = Waits l true;
    left = λ same. absurd (cc same);
    grade = grade.Read;
    run = Run.within (λ rs. o (Val (value.Bool false) ∷ rs)) (go false) (λ rs. is (Val (value.Bool false) ∷ rs));
    entry = no_entry w (Tick l) (Val (value.Bool false)) (λ k level same. cc same);
    waits = refl;
  }
  after_tick l go r listed = absurd listed

  -- a tick
  at_tick : (l : LockName) → ((woken : Bool) → Tidy (ticked l woken) hs (λ rs. o (Val (value.Bool woken) ∷ rs))) → Facts (Waits l true) hs w (Tick l)
  at_tick l go = record {
    steps = after_tick l go;
    exits = λ k same. absurd (cc same);
    settles = λ same. absurd (cc same);
    ends = λ fault same. absurd (cc same);
    fails = λ fault listed. absurd listed;
    at_its_fault = λ fault same. absurd (cc same);
  }

  -- what follows a timeout
  after_timeout : (l : LockName) → Tidy (Waits l false) hs (λ rs. o (Done ∷ rs)) → Tidy (Waits l false) hs (λ rs. o (Val (value.Bool true) ∷ rs))
      → (r : Reply) → IsListed (Timeout l) r → Stepped (Waits l true) hs w (Timeout l) r
  after_timeout l out woken Done listed = record {
    phase = Waits l false;
    left = λ same. absurd (cc same);
    grade = grade.Read;
    run = Run.within (λ rs. o (Done ∷ rs)) out (λ rs. is (Done ∷ rs));
    entry = no_entry w (Timeout l) Done (λ k level same. cc same);
    waits = refl;
  }
  after_timeout l out woken (Val (value.Bool true)) listed = record {
    phase = Waits l false;
    left = λ same. absurd (cc same);
    grade = grade.Read;
    run = Run.within (λ rs. o (Val (value.Bool true) ∷ rs)) woken (λ rs. is (Val (value.Bool true) ∷ rs));
    entry = no_entry w (Timeout l) (Val (value.Bool true)) (λ k level same. cc same);
    waits = refl;
  }
  after_timeout l out woken r listed = absurd listed

  -- a timeout
  at_timeout : (l : LockName) → Tidy (Waits l false) hs (λ rs. o (Done ∷ rs)) → Tidy (Waits l false) hs (λ rs. o (Val (value.Bool true) ∷ rs)) → Facts (Waits l true) hs w (Timeout l)
  at_timeout l out woken = record {
    steps = after_timeout l out woken;
    exits = λ k same. absurd (cc same);
    settles = λ same. absurd (cc same);
    ends = λ fault same. absurd (cc same);
    fails = λ fault listed. absurd listed;
    at_its_fault = λ fault same. absurd (cc same);
  }

  -- what follows where the thread has its lock again
  after_resuming : (l : LockName) (more : Bool) → Tidy Goes hs (λ rs. o (Done ∷ rs)) → (r : Reply) → IsListed (Resume l) r → Stepped (Waits l more) hs w (Resume l) r
  after_resuming l more go Done listed = record {
    phase = Goes;
    left = λ same. absurd (cc same);
    grade = grade.Read;
    run = Run.within (λ rs. o (Done ∷ rs)) go (λ rs. is (Done ∷ rs));
    entry = no_entry w (Resume l) Done (λ k level same. cc same);
    waits = refl;
  }
  after_resuming l more go r listed = absurd listed

  -- the lock again after a wait
  at_resuming : (l : LockName) (more : Bool) → Tidy Goes hs (λ rs. o (Done ∷ rs)) → Facts (Waits l more) hs w (Resume l)
  at_resuming l more go = record {
    steps = after_resuming l more go;
    exits = λ k same. absurd (cc same);
    settles = λ same. absurd (cc same);
    ends = λ fault same. absurd (cc same);
    fails = λ fault listed. absurd listed;
    at_its_fault = λ fault same. absurd (cc same);
  }

-- an exit
module _ (h : Hold) (hs : List Hold) (w o : List Reply → Outcome) (is : (rs : List Reply) → w rs ≡ finish (o rs)) (go : Tidy (left_at h.synchronous) hs (λ rs. o (Done ∷ rs))) where
  -- the run behind it
  left_run : Run (left_at h.synchronous) hs (λ rs. w (Done ∷ rs))
  left_run = Run.within (λ rs. o (Done ∷ rs)) go (λ rs. is (Done ∷ rs))

  -- whether or not it settles, the thread is awake
  left_awake : (synchronous : Bool) → waiting_in (left_at synchronous) ≡ Awake
  left_awake true = refl
  left_awake false = refl

  -- what follows an exit
  after_exit : (r : Reply) → IsListed (Exit h.lock) r → Stepped Goes (h ∷ hs) w (Exit h.lock) r
  after_exit Done listed = record { phase = left_at h.synchronous; left = λ same. record { lock = h.lock; asked = refl; answered = refl }; grade = grade.Read; run = left_run; entry = no_entry w (Exit h.lock) Done (λ l level same. cc same); waits = left_awake h.synchronous }
  after_exit r listed = absurd listed

  at_exit : Facts Goes (h ∷ hs) w (Exit h.lock)
  at_exit = record {
    steps = after_exit;
    exits = λ k same. record { front = h; is = refl; lock = cc same; run = left_run };
    settles = λ same. absurd (cc same);
    ends = λ fault same. absurd (cc same);
    fails = λ fault listed. absurd listed;
    at_its_fault = λ fault same. absurd (cc same);
  }

-- what follows the end
pub after_end : (w : List Reply → Outcome) (end : Option Fault) → ((r : Reply) (rs : List Reply) → w (r ∷ rs) ≡ Over) → (r : Reply) → Stepped Goes [] w (End end) r
after_end w end after r = record { phase = Goes; left = λ same. absurd (cc same); grade = grade.Read; run = Run.over (after r); entry = no_entry w (End end) r (λ l level same. cc same); waits = refl }

-- the end
pub at_end : (w : List Reply → Outcome) (end : Option Fault) → ((r : Reply) (rs : List Reply) → w (r ∷ rs) ≡ Over) → ((fault : Fault) → end ≡ Some fault → IsAtFault fault [] w) → Facts Goes [] w (End end)
at_end w end after at_its_fault = record {
  steps = λ r listed. after_end w end after r;
  exits = λ l same. absurd (cc same);
  settles = λ same. absurd (cc same);
  ends = λ other same. refl;
  fails = λ other listed. absurd listed;
  at_its_fault = λ fault same. let one : end ≡ Some fault = cc same in at_its_fault fault one;
}

-- a thread that ends without a fault
pub no_fault : (w : List Reply → Outcome) (fault : Fault) → None ≡ Some fault → IsAtFault fault [] w
no_fault w fault same = absurd (cc same)

-- a thread that ends with a fault is at it
pub its_fault : (w : List Reply → Outcome) (fault : Fault) (u : State) → ((rs : List Reply) → w rs ≡ finish (Fails fault (with_replies rs u))) → (other : Fault) → Some fault ≡ Some other → IsAtFault other [] w
its_fault w fault u is other same =
    let one : fault ≡ other = cc same in
    subst (λ x. IsAtFault x [] w) one (record { context = []; held = refl; at = u; comes = is })

-- so where the body has come to an end
pub at_body_end : (w : List Reply → Outcome) (e : Outcome) → ((rs : List Reply) → w rs ≡ finish (refilled rs e)) → IsEnd e → (q : Request) → request_of (w []) ≡ Some q → Facts Goes [] w q
at_body_end w (Gives v u) is end q wanted = subst (Facts Goes [] w) (the_request (w []) (End None) q (is []) wanted) (at_end w None (λ r rs. is (r ∷ rs)) (no_fault w))
at_body_end w (Leaves v u) is end q wanted = subst (Facts Goes [] w) (the_request (w []) (End None) q (is []) wanted) (at_end w None (λ r rs. is (r ∷ rs)) (no_fault w))
at_body_end w (Fails fault u) is end q wanted = subst (Facts Goes [] w) (the_request (w []) (End (Some fault)) q (is []) wanted) (at_end w (Some fault) (λ r rs. is (r ∷ rs)) (its_fault w fault u is))
at_body_end w (Wants p env) is end q wanted = absurd end
at_body_end w (Hears r u) is end q wanted = absurd end
at_body_end w Over is end q wanted = absurd end
at_body_end w Stopped is end q wanted = absurd end

-- where the body is tidy
pub body_facts : {p : Phase} {hs : List Hold} (w o : List Reply → Outcome) → Tidy p hs o → ((rs : List Reply) → w rs ≡ finish (o rs)) → (q : Request) → request_of (w []) ≡ Some q → Facts p hs w q
body_facts {p} {hs} w o (Tidy.asks x wants simple fails go) is q wanted = subst (Facts p hs w) (the_request (w []) x q (is [] ∙ ap finish wants) wanted) (at_simple hs w o is x simple fails go)
body_facts {p} {hs} w o (Tidy.enters l g wants entry fails inside other) is q wanted =
    subst (Facts p hs w) (the_request (w []) (Enter l (level_of g)) q (is [] ∙ ap finish wants) wanted) (at_entry hs w o is l g entry fails inside other)
body_facts w o (Tidy.exits h wants go) is q wanted = subst (Facts Goes _ w) (the_request (w []) (Exit h.lock) q (is [] ∙ ap finish wants) wanted) (at_exit h _ w o is go)
body_facts {p} {hs} w o (Tidy.settles wants go) is q wanted = subst (Facts p hs w) (the_request (w []) Settle q (is [] ∙ ap finish wants) wanted) (at_settling hs w o is go)
body_facts {p} {hs} w o (Tidy.waits l wants fails asleep other) is q wanted = subst (Facts p hs w) (the_request (w []) (Wait l) q (is [] ∙ ap finish wants) wanted) (at_wait hs w o is l fails asleep other)
body_facts {p} {hs} w o (Tidy.ticks l wants go) is q wanted = subst (Facts p hs w) (the_request (w []) (Tick l) q (is [] ∙ ap finish wants) wanted) (at_tick hs w o is l go)
body_facts {p} {hs} w o (Tidy.times_out l wants out woken) is q wanted = subst (Facts p hs w) (the_request (w []) (Timeout l) q (is [] ∙ ap finish wants) wanted) (at_timeout hs w o is l out woken)
body_facts {p} {hs} w o (Tidy.resumes l more wants go) is q wanted = subst (Facts p hs w) (the_request (w []) (Resume l) q (is [] ∙ ap finish wants) wanted) (at_resuming hs w o is l more go)
body_facts w o (Tidy.ends e comes end) is q wanted = at_body_end w e (λ rs. is rs ∙ ap finish (comes rs)) end q wanted
body_facts w o (Tidy.stops comes) is q wanted = absurd (wants_none (w []) q (ap request_of (is [] ∙ ap finish (comes []))) wanted)

-- what holds of what a run asks
pub facts : (p : Phase) (hs : List Hold) (w : List Reply → Outcome) → Run p hs w → (q : Request) → request_of (w []) ≡ Some q → Facts p hs w q
facts p hs w (Run.within o tidy is) q wanted = body_facts w o tidy is q wanted
facts p hs w (Run.over is) q wanted = absurd (wants_none (w []) q (ap request_of (is [])) wanted)

-- ---- a thread that waits asks as it waits

-- what is wanted, by what a part wants
pub wanted_is : (w o : List Reply → Outcome) (q : Request) {env : Environment} → ((rs : List Reply) → w rs ≡ finish (o rs)) → o [] ≡ Wants q env → Some q ≡ request_of (w [])
wanted_is w o q is wants = sym (ap request_of (is [] ∙ ap finish wants))

-- an end asks as one that is awake
pub end_awake : (e : Outcome) → IsEnd e → waited_on_by (request_of (finish (refilled [] e))) ≡ None
end_awake (Gives v u) end = refl
end_awake (Leaves v u) end = refl
end_awake (Fails fault u) end = refl
end_awake (Wants q env) end = absurd end
end_awake (Hears r u) end = absurd end
end_awake Over end = absurd end
end_awake Stopped end = absurd end

-- a thread that asks for its lock again
pub asks_again : (l : LockName) (more : Bool) → AsksAsItWaits (waiting_in (Waits l more)) (Some (Resume l))
asks_again l true = refl
asks_again l false = refl

pub body_asks : {p : Phase} {hs : List Hold} (w o : List Reply → Outcome) → Tidy p hs o → ((rs : List Reply) → w rs ≡ finish (o rs)) → AsksAsItWaits (waiting_in p) (request_of (w []))
body_asks w o (Tidy.asks q wants simple fails go) is = subst (AsksAsItWaits Awake) (wanted_is w o q is wants) (asks_awake q simple)
body_asks w o (Tidy.enters l g wants entry fails inside other) is = subst (AsksAsItWaits Awake) (wanted_is w o (Enter l (level_of g)) is wants) refl
body_asks w o (Tidy.exits h wants go) is = subst (AsksAsItWaits Awake) (wanted_is w o (Exit h.lock) is wants) refl
body_asks w o (Tidy.settles wants go) is = subst (AsksAsItWaits Awake) (wanted_is w o Settle is wants) refl
body_asks w o (Tidy.waits l wants fails asleep other) is = subst (AsksAsItWaits Awake) (wanted_is w o (Wait l) is wants) refl
body_asks w o (Tidy.ticks l wants go) is = subst (AsksAsItWaits (Asleep l)) (wanted_is w o (Tick l) is wants) refl
body_asks w o (Tidy.times_out l wants out woken) is = subst (AsksAsItWaits (Asleep l)) (wanted_is w o (Timeout l) is wants) refl
body_asks w o (Tidy.resumes l more wants go) is = subst (AsksAsItWaits (waiting_in (Waits l more))) (wanted_is w o (Resume l) is wants) (asks_again l more)
body_asks w o (Tidy.ends e comes end) is = ap (λ x. waited_on_by (request_of x)) (is [] ∙ ap finish (comes [])) ∙ end_awake e end
body_asks w o (Tidy.stops comes) is = ap (λ x. waited_on_by (request_of x)) (is [] ∙ ap finish (comes []))

-- a run asks as its thread waits
pub run_asks : (p : Phase) (hs : List Hold) (w : List Reply → Outcome) → Run p hs w → AsksAsItWaits (waiting_in p) (request_of (w []))
run_asks p hs w (Run.within o tidy is) = body_asks w o tidy is
run_asks p hs w (Run.over is) = ap (λ x. waited_on_by (request_of x)) (is [])
