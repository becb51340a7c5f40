-- A thread of sound code names only texts and objects that are known, where its program's texts are known and it is told only of what is.
use Rattle.std.proofs.Common.{◌≡◌, ℕ, ◌<◌, inl, inr, refl, sym, subst, List, [], ◌∷◌, ◌++◌, Option, Some}
use Rattle.std.proofs.lemmas.List.{append_assoc, append-nil}
use Rattle.dso_base.specs.declared.lock.LockName.{LockName}
use Rattle.dso_base.specs.declared.lock.LockName.TheVariants.{Mon, Name}
use Rattle.dso_base.specs.declared.lock.ThreadId.{ThreadId}
use Rattle.dso_base.specs.declared.request.Event.{Event}
use Rattle.dso_base.specs.declared.request.Event.TheVariants.{Act, Lost}
use Rattle.dso_base.specs.declared.request.Reply.{Reply}
use Rattle.dso_base.specs.declared.request.Reply.TheVariants.{Made, Val}
use Rattle.dso_base.specs.declared.request.Request.{Request}
use Rattle.dso_base.specs.declared.shape.Shape.{Shape}
use Rattle.dso_base.specs.declared.value.Value.{Value}
use Rattle.dso_base.specs.declared.value.Value.TheVariants as value
use Rattle.dso_base.specs.Following.{IsListed}
use Rattle.dso_machine.proofs.protocol.Protocol.{KnowsLock, KnowsValue, Keeper, FollowsAt}
use Rattle.dso_report.specs.Told.{IsKnownLock, IsKnownValue, NamesOnlyKnown}

module _ (shape : Shape) (IsText IsObject : ℕ → Type 0) (literal : (text : ℕ) → text < shape.texts → IsText text) where
  -- a value that the machine calls known names only what is known
  pub known_value : (v : Value) → KnowsValue IsText IsObject v → IsKnownValue IsText IsObject v
  known_value (value.Ref object) known = known
  known_value (value.Text text) known = known
  known_value value.Null known = tt
  known_value (value.Long z) known = tt
  known_value (value.Bool b) known = tt

  -- a lock that the machine calls known is a name, or the monitor of an object that is known
  pub known_lock : (l : LockName) → KnowsLock IsObject l → IsKnownLock IsText IsObject l
  known_lock (Mon object) known = known
  known_lock (Name name) known = tt

  -- the object or the value that a reply tells of is known
  abbrev pub TellsKnown : Reply → Type 0
  TellsKnown (Made object) = IsObject object
  TellsKnown (Val v) = IsKnownValue IsText IsObject v
  TellsKnown reply = Unit {0}

  -- The reply is listed, it tells only of what is known, and the request names nothing else.
  pub record MayCome (q : Request) (r : Reply) : Type 0 where
    pub listed : IsListed q r
    pub tells : TellsKnown r
    pub names : NamesOnlyKnown IsText IsObject q

  -- at each point of its run a thread may name all that is known, and nothing else
  abbrev pub name_keeper : Keeper shape
  name_keeper = record {
    Point = Unit {0};
    start = tt;
    after = λ q r g. tt;
    Asks = λ g q. NamesOnlyKnown IsText IsObject q;
    IsReply = λ g q r. MayCome q r;
    Knows = λ g object. IsObject object;
    Looked = λ g object class size. Unit {0};
    HasText = IsText;
    Awake = λ g. Unit {0};
    Same = λ g h. Unit {0};
    listed = λ g q r comes. comes.listed;
    start_awake = tt;
    still_known = λ g q r object known. known;
    made_known = λ g q object comes. comes.tells;
    read_known = λ g q object comes. comes.tells;
    still_looked = λ g q r object class size looked. tt;
    seen_looked = λ g object class size comes. tt;
    literal_text = literal;
    read_text = λ g q text comes. comes.tells;
    same_itself = λ g. tt;
    same_then = λ g h i some others. tt;
    same_awake = λ g h same awake. tt;
    same_knows = λ g h same object known. known;
    same_looked = λ g h same object class size looked. tt;
    plain_same = λ g q r awake plain comes. tt;
    enter_same = λ g l level r awake comes other. tt;
    wait_same = λ g l r awake comes other. tt;
    enter_awake = λ g l level awake comes. tt;
    exit_asked = λ g h l level awake comes same. comes.names;
    exit_same = λ g h l level awake comes same. tt;
    Asleep = λ g l h. IsKnownLock IsText IsObject l;
    Roused = λ g l h. IsKnownLock IsText IsObject l;
    wait_asleep = λ g l awake comes. comes.names;
    tick_asked = λ g h l asleep. asleep;
    tick_asleep = λ g h l asleep comes. asleep;
    tick_roused = λ g h l asleep comes. asleep;
    timeout_asked = λ g h l asleep. asleep;
    timeout_roused = λ g h l r asleep comes. asleep;
    asleep_roused = λ g h l asleep. asleep;
    resume_asked = λ g h l roused. roused;
    resume_same = λ g h l roused comes. tt;
    roused_knows = λ g h l roused object known. known;
    end_asked = λ g fault same. tt;
    class_asked = λ g class awake less. tt;
    array_asked = λ g kind size awake few. tt;
    look_asked = λ g object awake known. known;
    get_asked = λ g object place class size awake known looked there. inr known;
    put_asked = λ g object place v class size awake known v_known looked there fits. (inr known, known_value v v_known);
    get_root_asked = λ g r awake there. inl refl;
    put_root_asked = λ g r v awake known there fits. (inl refl, known_value v known);
    enter_asked = λ g l level awake known there. known_lock l known;
    wait_asked = λ g object awake known. known;
    notify_asked = λ g object awake known. known;
    notify_all_asked = λ g object awake known. known;
    print_asked = λ g v awake known. known_value v known;
    pause_asked = λ g awake. tt;
    settle_asked = λ g awake. tt;
  }

  -- events that follow the code, and one more
  pub follows_more : (next : List Event → Option Request) (before events : List Event) (t : ThreadId) (q : Request) (r : Reply) (woken : Option ThreadId)
      → FollowsAt name_keeper next before tt events → next (before ++ events) ≡ Some q → MayCome q r → FollowsAt name_keeper next before tt (events ++ Act t q r woken ∷ [])
  follows_more next before [] t q r woken follows asked comes = (subst (λ es. next es ≡ Some q) (append-nil before) asked, comes, tt)
  follows_more next before (Act u p a w ∷ events) t q r woken follows asked comes = (
    follows.0,
    follows.1,
    follows_more next (before ++ Act u p a w ∷ []) events t q r woken follows.2 (subst (λ es. next es ≡ Some q) (sym (append_assoc before (Act u p a w ∷ []) events)) asked) comes,
  )
  follows_more next before (Lost client ∷ events) t q r woken follows asked comes = absurd follows
