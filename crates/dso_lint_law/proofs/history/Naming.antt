-- A thread of sound code names only objects that replies told it of; and what it stores is never object 0.
use Rattle.std.proofs.Common.{◌≡◌, ◌≢◌, ◌⊎◌, inl, inr, refl, ℕ, List, [], ◌∷◌, ◌++◌, Some, subst}
use Rattle.dso_base.specs.declared.lock.LockName.{LockName}
use Rattle.dso_base.specs.declared.lock.LockName.TheVariants.{Mon, Name}
use Rattle.dso_base.specs.declared.lock.ThreadId.{ThreadId}
use Rattle.dso_base.specs.declared.request.Event.{Event}
use Rattle.dso_base.specs.declared.request.Event.TheVariants.{Act, Lost}
use Rattle.dso_base.specs.declared.request.Reply.{Reply}
use Rattle.dso_base.specs.declared.request.Reply.TheVariants.{Made, Val}
use Rattle.dso_base.specs.declared.request.Request.{Request}
use Rattle.dso_base.specs.declared.request.Request.TheVariants.{Look, Get, Put, Enter}
use Rattle.dso_base.specs.declared.shape.Shape.{Shape}
use Rattle.dso_base.specs.declared.value.Kind.{Kind}
use Rattle.dso_base.specs.declared.value.Kind.TheVariants as kind
use Rattle.dso_base.specs.declared.value.Value.{Value}
use Rattle.dso_base.specs.declared.value.Value.TheVariants as value
use Rattle.dso_base.specs.Following.{IsListed, IsListedFor, Listed, FollowsFrom, FollowsProgram}
use Rattle.dso_base.specs.Value.{Fits}
use Rattle.dso_machine.specs.declared.code.Code.{Code}
use Rattle.dso_machine.specs.Next.{next_request}
use Rattle.dso_machine.specs.Sound.{IsSoundCode}
use Rattle.dso_machine.proofs.protocol.Protocol.{Keeper, KnowsValue, KnowsLock, through, FollowsAt}
use Rattle.dso_machine.proofs.protocol.Threads.{keeps_to}

-- the reply tells of the object
abbrev pub Tells : ℕ → Reply → Type 0
Tells o (Made made) = made ≡ o
Tells o (Val (value.Ref named)) = named ≡ o
Tells o r = ⊥

-- one of the replies does, the last of them first
abbrev pub ToldBy : ℕ → List Reply → Type 0
ToldBy o [] = ⊥
ToldBy o (r ∷ rs) = Tells o r ⊎ ToldBy o rs

-- what is told by one list of replies is told by the other
abbrev ToldMore : List Reply → List Reply → Type 0
ToldMore g h = (o : ℕ) → ToldBy o g → ToldBy o h

-- the object that a value is, if it is one, was told, and is not object 0
abbrev pub StoresTold : Value → List Reply → Type 0
StoresTold (value.Ref o) g = (o ≢ 0) × ToldBy o g
StoresTold v g = Unit {0}

-- the lock is a name, or the monitor of an object that was told
abbrev pub LocksTold : LockName → List Reply → Type 0
LocksTold (Mon o) g = ToldBy o g
LocksTold (Name n) g = Unit {0}

-- a request names only what was told; and object 0, where it reads or binds a root
abbrev pub NamesBy : List Reply → Request → Type 0
NamesBy g (Look o) = ToldBy o g
NamesBy g (Get o f) = (o ≡ 0) ⊎ ToldBy o g
NamesBy g (Put o f v) = ((o ≡ 0) ⊎ ToldBy o g) × StoresTold v g
NamesBy g (Enter l level) = LocksTold l g
NamesBy g q = Unit {0}

-- a value that is known, and that a field takes
stores : (g : List Reply) (k : Kind) (v : Value) → KnowsValue (λ t. Unit {0}) (λ o. ToldBy o g) v → Fits k v → StoresTold v g
stores g kind.Ref (value.Ref o) known fits = (fits, known)
stores g kind.Long (value.Ref o) known fits = absurd fits
stores g kind.Bool (value.Ref o) known fits = absurd fits
stores g kind.Text (value.Ref o) known fits = absurd fits
stores g k value.Null known fits = tt
stores g k (value.Long n) known fits = tt
stores g k (value.Bool b) known fits = tt
stores g k (value.Text t) known fits = tt

locks : (g : List Reply) (l : LockName) → KnowsLock (λ o. ToldBy o g) l → LocksTold l g
locks g (Mon o) known = known
locks g (Name n) known = tt

-- The points are the replies so far; all listed replies may come.
abbrev told_keeper : (shape : Shape) → Keeper shape
told_keeper shape = record {
  Point = List Reply;
  start = [];
  after = λ q r g. r ∷ g;
  Asks = λ g q. NamesBy g q;
  IsReply = λ g q r. IsListed q r;
  Knows = λ g o. ToldBy o g;
  Looked = λ g o class size. Unit {0};
  HasText = λ t. Unit {0};
  Awake = λ g. Unit {0};
  Asleep = λ g l h. ToldMore g h;
  Roused = λ g l h. ToldMore g h;
  Same = λ g h. ToldMore g h;
  listed = λ g q r comes. comes;
  start_awake = tt;
  still_known = λ g q r o known. inr known;
  made_known = λ g q o comes. inl refl;
  read_known = λ g q o comes. inl refl;
  still_looked = λ g q r o class size looked. tt;
  seen_looked = λ g o class size comes. tt;
  literal_text = λ t below. tt;
  read_text = λ g q t comes. tt;
  same_itself = λ g o told. told;
  same_then = λ g h i one other o told. other o (one o told);
  same_awake = λ g h same awake. tt;
  same_knows = λ g h same o known. same o known;
  same_looked = λ g h same o class size looked. tt;
  plain_same = λ g q r awake plain comes o told. inr told;
  enter_same = λ g l level r awake comes other o told. inr told;
  wait_same = λ g l r awake comes other o told. inr told;
  enter_awake = λ g l level awake comes. tt;
  exit_asked = λ g h l level awake comes same. tt;
  exit_same = λ g h l level awake comes same o told. inr (same o (inr told));
  wait_asleep = λ g l awake comes o told. inr told;
  tick_asked = λ g h l asleep. tt;
  tick_asleep = λ g h l asleep comes o told. inr (asleep o told);
  tick_roused = λ g h l asleep comes o told. inr (asleep o told);
  timeout_asked = λ g h l asleep. tt;
  timeout_roused = λ g h l r asleep comes o told. inr (asleep o told);
  asleep_roused = λ g h l asleep. asleep;
  roused_knows = λ g h l roused o known. roused o known;
  resume_asked = λ g h l roused. tt;
  resume_same = λ g h l roused comes o told. inr (roused o told);
  end_asked = λ g fault same. tt;
  class_asked = λ g class awake below. tt;
  array_asked = λ g kind size awake few. tt;
  look_asked = λ g o awake known. known;
  get_asked = λ g o place class size awake known looked there. inr known;
  put_asked = λ g o place v class size awake known v_known looked there fits. (inr known, stores g _ v v_known fits);
  get_root_asked = λ g r awake there. inl refl;
  put_root_asked = λ g r v awake known there fits. (inl refl, stores g kind.Ref v known fits);
  enter_asked = λ g l level awake known there. locks g l known;
  wait_asked = λ g o awake known. tt;
  notify_asked = λ g o awake known. tt;
  notify_all_asked = λ g o awake known. tt;
  print_asked = λ g v awake known. tt;
  pause_asked = λ g awake. tt;
  settle_asked = λ g awake. tt;
}

-- the replies of events, the last of them first, before others
abbrev pub told_in : List Reply → List Event → List Reply
told_in g [] = g
told_in g (Act thread q r woken ∷ events) = told_in (r ∷ g) events
told_in g (Lost client ∷ events) = told_in g events

module _ (code : Code) (sound : IsSoundCode code) (t : ThreadId) where
  told_through : (g : List Reply) (events : List Event) → through (told_keeper code.shape) g events ≡ told_in g events
  told_through g [] = refl
  told_through g (Act u q r woken ∷ events) = told_through (r ∷ g) events
  told_through g (Lost client ∷ events) = told_through g events

  -- events that follow the program follow the code
  follows_code : (before events : List Event) (g : List Reply) → FollowsFrom (next_request code) (Listed (next_request code)) t before events → FollowsAt (told_keeper code.shape) (next_request code t) before g events
  follows_code before [] g follows = tt
  follows_code before (Act u q r woken ∷ events) g follows = (follows.0.0, subst (λ asked. IsListedFor asked r) follows.0.0 follows.0.1, follows_code (before ++ Act u q r woken ∷ []) events (r ∷ g) follows.1)
  follows_code before (Lost client ∷ events) g follows = absurd follows.0

  -- What a thread asks names only what it was told.
  pub names_told : (events : List Event) (q : Request) → FollowsProgram (next_request code) (Listed (next_request code)) t events → next_request code t events ≡ Some q → NamesBy (told_in [] events) q
  names_told events q follows asked = subst (λ g. NamesBy g q) (told_through [] events) (keeps_to code (told_keeper code.shape) sound t events q (follows_code [] events [] follows) asked)
