-- Sound code stays within its shape: its threads use only places that they looked at, locks that are there and objects that they
-- were told of. What may be asked goes by the whole list of a thread's events, so it is the same at each point of its run.
use Rattle.std.specs.List.{list_any, Any, Contains}
use Rattle.std.proofs.lemmas.List.Folds.{list_any-from_Any}
use Rattle.std.proofs.Common.{◌≡◌, ◌<◌, ◌≢◌, inl, inr, refl, ℕ, suc, Bool, true, false, eqb, ◌||◌, List, [], ◌∷◌, ◌++◌, Option, subst, sym, ap, ◌∙◌, arith}
use Rattle.dso_base.specs.declared.lock.LockName.{LockName}
use Rattle.dso_base.specs.declared.lock.LockName.TheVariants.{Mon, Name}
use Rattle.dso_base.specs.declared.lock.ThreadId.{ThreadId}
use Rattle.dso_base.specs.declared.request.Event.{Event}
use Rattle.dso_base.specs.declared.request.Event.TheVariants.{Act, Lost}
use Rattle.dso_base.specs.declared.request.Reply.{Reply}
use Rattle.dso_base.specs.declared.request.Reply.TheVariants.{Made, Seen, Val}
use Rattle.dso_base.specs.declared.request.Request.{Request}
use Rattle.dso_base.specs.declared.request.Request.TheVariants.{Look}
use Rattle.dso_base.specs.declared.shape.Shape.{Shape}
use Rattle.dso_base.specs.declared.value.ClassId.{ClassId}
use Rattle.dso_base.specs.declared.value.ClassId.TheVariants.{Plain, Array, Roots}
use Rattle.dso_base.specs.declared.value.Value.{Value}
use Rattle.dso_base.specs.declared.value.Value.TheVariants as value
use Rattle.dso_base.specs.Following.{IsListed, IsListedFor, Listed, FollowsFrom}
use Rattle.dso_plain.specs.Touches.{AreActsOf}
use Rattle.dso_plain.proofs.keys.SameKeys.{number_self}
use Rattle.dso_legal.specs.SoundCode.{SoundCodeStaysWithinShape}
use Rattle.dso_legal.specs.SoundProgram.{tells, event_tells, was_told, IsToldValue}
use Rattle.dso_legal.specs.WithinShape.{HasPlace, IsLookAt, KnowsPlace, IsLockThere, UsesWhatIsThere}
use Rattle.dso_machine.specs.declared.code.Code.{Code}
use Rattle.dso_machine.specs.Next.{next_request}
use Rattle.dso_machine.proofs.protocol.Protocol.{KnowsValue, Keeper, FollowsAt}
use Rattle.dso_machine.proofs.protocol.Protocol as machine
use Rattle.dso_machine.proofs.protocol.Threads.{keeps_to}

module _ (shape : Shape) (whole : List Event) where
  -- one of the events has the request with the reply, which is listed and doesn't tell of object 0
  pub record MayCome (q : Request) (r : Reply) : Type 0 where
    pub listed : IsListed q r
    pub real : tells 0 r ≡ false
    pub thread : ThreadId
    pub woken : Option ThreadId
    pub there : Contains whole (Act thread q r woken)

  -- the events tell of the object, which is not object 0
  pub record Knows (object : ℕ) : Type 0 where
    pub real : object ≢ 0
    pub told : was_told object whole ≡ true

  -- what one of the events tells of, all of them do
  pub told_by_one : (object : ℕ) (q : Request) (r : Reply) → tells object r ≡ true → MayCome q r → was_told object whole ≡ true
  told_by_one object q r is comes = or_right (eqb object 0) (list_any (event_tells object) whole)
      (list_any-from_Any (event_tells object) whole (comes.there.0, Act comes.thread q r comes.woken, comes.there.1, comes.there.2, is))
    where
      or_right : (a b : Bool) → b ≡ true → (a || b) ≡ true
      or_right true b is = refl
      or_right false b is = is

  -- an object that a reply tells of is known
  pub known_by_one : (object : ℕ) (q : Request) (r : Reply) → tells object r ≡ eqb object object → tells 0 r ≡ eqb object 0 → MayCome q r → Knows object
  known_by_one object q r own first comes = record {
    real = λ same. cc (sym (ap (λ n. eqb n 0) same) ∙ sym first ∙ comes.real);
    told = told_by_one object q r (own ∙ number_self object) comes;
  }

  -- a value that is known was told
  pub told_value : (v : Value) → KnowsValue (λ text. Unit {0}) Knows v → IsToldValue v whole
  told_value (value.Ref object) known = (known.real, known.told)
  told_value (value.Text text) known = tt
  told_value value.Null known = tt
  told_value (value.Long n) known = tt
  told_value (value.Bool b) known = tt

  -- a name that the machine's shape has is there
  pub lock_there : (l : LockName) → machine.HasLock shape l → IsLockThere shape l
  lock_there (Mon object) there = tt
  lock_there (Name name) there = there

  -- a place that an object of the class has
  pub place_there : (class : ClassId) (size place : ℕ) → machine.HasPlace shape class size place → HasPlace shape class size place
  place_there (Plain number) size place there = there
  place_there (Array kind) size place there = there
  place_there Roots size place there = there

  -- a place of an object that was looked at
  abbrev pub place_seen : (object place : ℕ) (class : ClassId) (size : ℕ) → Any (IsLookAt object class size) whole → machine.HasPlace shape class size place → KnowsPlace shape object place whole
  place_seen object place class size looked there = record { class = class; size = size; known = inr looked; there = place_there class size place there }

  -- a root
  abbrev pub root_place : (r : ℕ) → r < shape.roots → KnowsPlace shape 0 r whole
  root_place r there = record { class = Roots; size = shape.roots; known = inl (refl, refl); there = there }

  -- At each point of its run a thread may use what is there by the whole list of its events.
  abbrev pub shape_keeper : Keeper shape
  shape_keeper = record {
    Point = Unit {0};
    start = tt;
    after = λ q r g. tt;
    Asks = λ g q. UsesWhatIsThere shape q whole;
    IsReply = λ g q r. MayCome q r;
    Knows = λ g object. Knows object;
    Looked = λ g object class size. Any (IsLookAt object class size) whole;
    HasText = λ text. Unit {0};
    Awake = λ g. Unit {0};
    Asleep = λ g l h. Unit {0};
    Roused = λ g l h. Unit {0};
    Same = λ g h. Unit {0};
    listed = λ g q r comes. comes.listed;
    start_awake = tt;
    still_known = λ g q r object known. known;
    made_known = λ g q object comes. known_by_one object q (Made object) refl refl comes;
    read_known = λ g q object comes. known_by_one object q (Val (value.Ref object)) refl refl comes;
    still_looked = λ g q r object class size looked. looked;
    seen_looked = λ g object class size comes. (comes.there.0, Act comes.thread (Look object) (Seen class size) comes.woken, comes.there.1, comes.there.2, (refl, refl, refl));
    literal_text = λ text less. tt;
    read_text = λ g q text comes. tt;
    same_itself = λ g. tt;
    same_then = λ g h i some others. tt;
    same_awake = λ g h same awake. tt;
    same_knows = λ g h same object known. known;
    same_looked = λ g h same object class size looked. looked;
    plain_same = λ g q r awake plain comes. tt;
    enter_same = λ g l level r awake comes other. tt;
    wait_same = λ g l r awake comes other. tt;
    enter_awake = λ g l level awake comes. tt;
    exit_asked = λ g h l level awake comes same. tt;
    exit_same = λ g h l level awake comes same. tt;
    wait_asleep = λ g l awake comes. tt;
    tick_asked = λ g h l asleep. tt;
    tick_asleep = λ g h l asleep comes. tt;
    tick_roused = λ g h l asleep comes. tt;
    timeout_asked = λ g h l asleep. tt;
    timeout_roused = λ g h l r asleep comes. tt;
    asleep_roused = λ g h l asleep. tt;
    roused_knows = λ g h l roused object known. known;
    resume_asked = λ g h l roused. tt;
    resume_same = λ g h l roused comes. tt;
    end_asked = λ g fault same. tt;
    class_asked = λ g class awake less. tt;
    array_asked = λ g kind size awake few. tt;
    look_asked = λ g object awake known. tt;
    get_asked = λ g object place class size awake known looked there. place_seen object place class size looked there;
    put_asked = λ g object place v class size awake known v_known looked there fits. (place_seen object place class size looked there, fits);
    get_root_asked = λ g r awake there. root_place r there;
    put_root_asked = λ g r v awake known there fits. (root_place r there, fits);
    enter_asked = λ g l level awake known there. lock_there l there;
    wait_asked = λ g object awake known. tt;
    notify_asked = λ g object awake known. tt;
    notify_all_asked = λ g object awake known. tt;
    print_asked = λ g v awake known. told_value v known;
    pause_asked = λ g awake. tt;
    settle_asked = λ g awake. tt;
  }

-- of two that don't hold
neither : (a b : Bool) → (a || b) ≡ false → (a ≡ false) × (b ≡ false)
neither true b is = absurd (cc is)
neither false b is = (refl, is)

-- what the rest of a list has, the list has
in_rest : {X : Type 0} (first x : X) (rest : List X) → Contains rest x → Contains (first ∷ rest) x
in_rest first x rest there = (suc there.0, omega (arith, there.1), there.2)

module _ (code : Code) (t : ThreadId) (whole : List Event) where
  -- events that follow the program, and are among the whole list, follow the code
  follows_code : (events before : List Event) → AreActsOf t events → list_any (event_tells 0) events ≡ false → ((e : Event) → Contains events e → Contains whole e)
      → FollowsFrom (next_request code) (Listed (next_request code)) t before events → FollowsAt (shape_keeper code.shape whole) (next_request code t) before tt events
  follows_code [] before acts untold among follows = tt
  follows_code (Act u q r woken ∷ events) before acts untold among follows =
      let none : (tells 0 r ≡ false) × (list_any (event_tells 0) events ≡ false) = neither (tells 0 r) (list_any (event_tells 0) events) untold in (
        follows.0.0,
        record {
          listed = subst (λ asked. IsListedFor asked r) follows.0.0 follows.0.1;
          real = none.0;
          thread = u;
          woken = woken;
          there = among (Act u q r woken) (0, omega arith, refl);
        },
        follows_code events (before ++ Act u q r woken ∷ []) acts.1 none.1 (λ e there. among e (in_rest (Act u q r woken) e events there)) follows.1,
      )
  follows_code (Lost client ∷ events) before acts untold among follows = absurd acts.0

-- Sound code stays within its shape.
pub within_shape : SoundCodeStaysWithinShape
within_shape code sound t events q acts untold held follows asked =
    keeps_to code (shape_keeper code.shape events) sound t events q (follows_code code t events events [] acts untold (λ e there. there) follows) asked
