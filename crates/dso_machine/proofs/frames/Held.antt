-- What a part of a program holds, wherever it wants a reply, is object 0, was held before, or was told by the last reply.
use Rattle.std.proofs.Common.{◌≡◌, refl, ℕ, Bool, true, false, ◌||◌, eqb, ◌⊎◌, inl, inr, List, [], ◌∷◌, ◌++◌, subst, sym, ap, ◌∙◌}
use Rattle.std.proofs.lemmas.Bool.{eq-eqb, eqb-true, or_cases}
use Rattle.dso_base.specs.declared.request.Fault.{Fault}
use Rattle.dso_base.specs.declared.request.Reply.{Reply}
use Rattle.dso_base.specs.declared.request.Reply.TheVariants.{Made, Val}
use Rattle.dso_base.specs.declared.request.Request.{Request}
use Rattle.dso_base.specs.declared.request.Request.TheVariants.{New, Look, Get, Put, Enter, Exit, Wait, Tick, Timeout, Resume, Notify, NotifyAll, Print, End, Pause, Settle}
use Rattle.dso_base.specs.declared.lock.LockName.{LockName}
use Rattle.dso_base.specs.declared.lock.LockName.TheVariants.{Mon, Name}
use Rattle.dso_base.specs.declared.value.Value.{Value}
use Rattle.dso_base.specs.declared.value.Value.TheVariants as value
use Rattle.dso_base.specs.Block.{has_reference}
use Rattle.dso_base.specs.Naming.{lock_names, reply_names, request_names}
use Rattle.dso_machine.specs.Calls.{held_by}
use Rattle.dso_machine.specs.Frames.{request_values}
use Rattle.dso_machine.specs.Outcome.{Environment, State, Outcome, Wants, Gives, Leaves, Fails, Hears, Over, Stopped, Meaning, on_value, restored, holding, with_outer, monitor_of}
use Rattle.dso_machine.specs.Unwinding.{with_replies}
use Rattle.dso_machine.proofs.protocol.Protocol.{KnowsValue}
use Rattle.dso_machine.proofs.protocol.Parts.{KnowsAll, refilled, one_function}
use Rattle.dso_machine.proofs.protocol.Calls.{known_append}

-- ---- which objects are in values

-- these objects
abbrev pub Objects : Type 0
Objects = ℕ → Bool

-- the object is object 0, or one of these
abbrev pub IsOne : Objects → ℕ → Type 0
IsOne known o = (o ≡ 0) ⊎ (known o ≡ true)

-- the value is object 0 or one of these, if it is an object
abbrev pub IsOf : Objects → Value → Type 0
IsOf known v = KnowsValue (λ t. Unit {0}) (IsOne known) v

-- so is each of the values
abbrev pub AreOf : Objects → List Value → Type 0
AreOf known vs = KnowsAll (λ t. Unit {0}) (IsOne known) vs

-- one of two holds
pub or_first : (a b : Bool) → a ≡ true → (a || b) ≡ true
or_first a b e = ap (λ x. x || b) e

pub or_second : (a b : Bool) → b ≡ true → (a || b) ≡ true
or_second true b e = refl
or_second false b e = e

pub or_false : (a : Bool) → (a || false) ≡ a
or_false true = refl
or_false false = refl

-- the first of two lists, and the second
pub front : (known : Objects) (vs ws : List Value) → AreOf known (vs ++ ws) → AreOf known vs
front known [] ws all = tt
front known (v ∷ vs) ws all = (all.0, front known vs ws all.1)

pub behind : (known : Objects) (vs ws : List Value) → AreOf known (vs ++ ws) → AreOf known ws
behind known [] ws all = all
behind known (v ∷ vs) ws all = behind known vs ws all.1

pub both : (known : Objects) (vs ws : List Value) → AreOf known vs → AreOf known ws → AreOf known (vs ++ ws)
both known vs ws all others = known_append (λ t. Unit {0}) (IsOne known) vs ws all others

-- what is named by such values is one of them
pub one_named : (known : Objects) (vs : List Value) (o : ℕ) → AreOf known vs → has_reference o vs ≡ true → IsOne known o
one_named known [] o all e = absurd (cc e)
one_named known (value.Ref named ∷ vs) o all e = elim (or_cases (eqb named o) (has_reference o vs) e) [
  | inl same ↦ subst (IsOne known) (eqb-true named o same) all.0
  | inr later ↦ one_named known vs o all.1 later
]
one_named known (value.Null ∷ vs) o all e = one_named known vs o all.1 e
one_named known (value.Long n ∷ vs) o all e = one_named known vs o all.1 e
one_named known (value.Bool b ∷ vs) o all e = one_named known vs o all.1 e
one_named known (value.Text t ∷ vs) o all e = one_named known vs o all.1 e

-- values are such where all that they name is
pub all_named : (known : Objects) (vs : List Value) → ((o : ℕ) → has_reference o vs ≡ true → IsOne known o) → AreOf known vs
all_named known [] is = tt
all_named known (value.Ref named ∷ vs) is = (
  is named (or_first (eqb named named) (has_reference named vs) (eq-eqb named named refl)),
  all_named known vs (λ o e. is o (or_second (eqb named o) (has_reference o vs) e)),
)
all_named known (value.Null ∷ vs) is = (tt, all_named known vs is)
all_named known (value.Long n ∷ vs) is = (tt, all_named known vs is)
all_named known (value.Bool b ∷ vs) is = (tt, all_named known vs is)
all_named known (value.Text t ∷ vs) is = (tt, all_named known vs is)

-- all that is named by these values is named by those
abbrev pub Within : List Value → List Value → Type 0
Within vs ws = (o : ℕ) → has_reference o vs ≡ true → has_reference o ws ≡ true

-- the second of two lists is within both
pub within_both : (vs ws : List Value) → Within ws (vs ++ ws)
within_both [] ws o e = e
within_both (value.Ref named ∷ vs) ws o e = or_second (eqb named o) (has_reference o (vs ++ ws)) (within_both vs ws o e)
within_both (value.Null ∷ vs) ws o e = within_both vs ws o e
within_both (value.Long n ∷ vs) ws o e = within_both vs ws o e
within_both (value.Bool b ∷ vs) ws o e = within_both vs ws o e
within_both (value.Text t ∷ vs) ws o e = within_both vs ws o e

-- values are such where they are within such values
pub all_within : (known : Objects) (vs ws : List Value) → Within vs ws → AreOf known ws → AreOf known vs
all_within known vs ws within all = all_named known vs (λ o e. one_named known ws o all (within o e))

-- ---- what is known after a reply

lock_named : (l : LockName) (o : ℕ) → has_reference o (monitor_of l) ≡ lock_names l o
lock_named (Mon object) o = or_false (eqb object o)
lock_named (Name n) o = refl

pub request_named : (q : Request) (o : ℕ) → has_reference o (request_values q) ≡ request_names q o
request_named (New class n) o = refl
request_named (Look object) o = or_false (eqb object o)
request_named (Get object place) o = or_false (eqb object o)
request_named (Put object place v) o = refl
request_named (Enter l level) o = lock_named l o
request_named (Exit l) o = lock_named l o
request_named (Wait l) o = lock_named l o
request_named (Tick l) o = lock_named l o
request_named (Timeout l) o = lock_named l o
request_named (Resume l) o = lock_named l o
request_named (Notify l) o = lock_named l o
request_named (NotifyAll l) o = lock_named l o
request_named (Print v) o = refl
request_named (End fault) o = refl
request_named Pause o = refl
request_named Settle o = refl

-- the values that a reply tells
abbrev pub told_by : Reply → List Value
told_by (Made object) = value.Ref object ∷ []
told_by (Val v) = v ∷ []
told_by r = []

reply_named : (r : Reply) (o : ℕ) → has_reference o (told_by r) ≡ true → reply_names r o ≡ true
reply_named (Made object) o e = sym (or_false (eqb object o)) ∙ e
reply_named (Val v) o e = e
reply_named r o e = absurd (cc e)

-- the objects that are held where this request is wanted in this environment, or told by its reply
abbrev pub after : Environment → Request → Reply → Objects
after env q r o = (has_reference o (held_by env) || request_names q o) || reply_names r o

after_frames : (env : Environment) (q : Request) (r : Reply) → AreOf (after env q r) (held_by env)
after_frames env q r = all_named (after env q r) (held_by env)
    (λ o e. inr (or_first (has_reference o (held_by env) || request_names q o) (reply_names r o) (or_first (has_reference o (held_by env)) (request_names q o) e)))

after_request : (env : Environment) (q : Request) (r : Reply) → AreOf (after env q r) (request_values q)
after_request env q r = all_named (after env q r) (request_values q)
    (λ o e. inr (or_first (has_reference o (held_by env) || request_names q o) (reply_names r o) (or_second (has_reference o (held_by env)) (request_names q o) (sym (request_named q o) ∙ e))))

after_told : (env : Environment) (q : Request) (r : Reply) → AreOf (after env q r) (told_by r)
after_told env q r = all_named (after env q r) (told_by r)
    (λ o e. inr (or_second (has_reference o (held_by env) || request_names q o) (reply_names r o) (reply_named r o e)))

-- ---- parts

-- all that the environment holds is known, and these values are held for what comes after
pub record Stands (known : Objects) (kept : List Value) (env : Environment) : Type 0 where
  pub this : IsOf known env.this
  pub vars : AreOf known env.vars
  pub outer : AreOf known env.outer
  pub stays : Within kept env.outer

-- so at an end of a part
abbrev pub EndsIn : Objects → List Value → Outcome → Type 0
EndsIn known kept (Gives v u) = IsOf known v × Stands known kept u.environment
EndsIn known kept (Leaves v u) = IsOf known v × Stands known kept u.environment
EndsIn known kept (Fails fault u) = Stands known kept u.environment
EndsIn known kept o = ⊥

-- What comes of the replies holds only what is known, and these values all the while: where it wants a reply, and so on after
-- each one, by what was held there and what the reply tells; and at its end.
pub data HoldsOnly (kept : List Value) : Objects → (List Reply → Outcome) → Type 0 where
  asks : {known : Objects} {o : List Reply → Outcome} (q : Request) (env : Environment) → o [] ≡ Wants q env → Stands known kept env → AreOf known (request_values q)
      → ((r : Reply) → HoldsOnly kept (after env q r) (λ rs. o (r ∷ rs))) → HoldsOnly kept known o
  ends : {known : Objects} {o : List Reply → Outcome} (e : Outcome) → ((rs : List Reply) → o rs ≡ refilled rs e) → EndsIn known kept e → HoldsOnly kept known o
  stops : {known : Objects} {o : List Reply → Outcome} → ((rs : List Reply) → o rs ≡ Stopped) → HoldsOnly kept known o
  is_over : {known : Objects} {o : List Reply → Outcome} → ((rs : List Reply) → o rs ≡ Over) → HoldsOnly kept known o

-- A part that makes use of these values holds only what is known, where these are.
pub record Part (vs : List Value) (m : Meaning) : Type 0 where
  pub from : (known : Objects) (kept : List Value) (u : State) → Stands known kept u.environment → AreOf known vs → HoldsOnly kept known (λ rs. m (with_replies rs u))

-- more is held all the while
pub stands_for : {known : Objects} {kept less : List Value} {env : Environment} → Within less kept → Stands known kept env → Stands known less env
stands_for within st = record { this = st.this; vars = st.vars; outer = st.outer; stays = λ o e. st.stays o (within o e) }

-- what is made of an outcome, and of nothing but the ends of a part
pub record Passes (f : Outcome → Outcome) : Type 0 where
  pub wants : (q : Request) (env : Environment) → f (Wants q env) ≡ Wants q env
  pub stopped : f Stopped ≡ Stopped
  pub over : f Over ≡ Over

-- It holds only what is known, if it does so from each end; less may be held meanwhile.
pub goes_on : {kept less : List Value} (f : Outcome → Outcome) → Passes f → Within less kept → {known : Objects} {o : List Reply → Outcome} → HoldsOnly kept known o
    → ((k : Objects) (e : Outcome) → EndsIn k kept e → HoldsOnly less k (λ rs. f (refilled rs e))) → HoldsOnly less known (λ rs. f (o rs))
goes_on f passes within (HoldsOnly.asks q env is st values go) then = HoldsOnly.asks q env (ap f is ∙ passes.wants q env) (stands_for within st) values (λ r. goes_on f passes within (go r) then)
goes_on {kept} {less} f passes within (HoldsOnly.ends e is end) then = subst (HoldsOnly less _) (one_function _ _ (λ rs. ap f (sym (is rs)))) (then _ e end)
goes_on f passes within (HoldsOnly.stops is) then = HoldsOnly.stops (λ rs. ap f (is rs) ∙ passes.stopped)
goes_on f passes within (HoldsOnly.is_over is) then = HoldsOnly.is_over (λ rs. ap f (is rs) ∙ passes.over)

-- ---- while values are held

-- what was held before is held again at an end
held_again : (vs outer less : List Value) (k : Objects) (env : Environment) → Within less outer → Stands k (vs ++ outer) env → Stands k less (record env { outer = outer })
held_again vs outer less k env within st =
    record { this = st.this; vars = st.vars; outer = behind k vs outer (all_within k (vs ++ outer) env.outer st.stays st.outer); stays = within }

-- the values that were held are known at an end
held_known : (vs outer : List Value) (k : Objects) (env : Environment) → Stands k (vs ++ outer) env → AreOf k vs
held_known vs outer k env st = front k vs outer (all_within k (vs ++ outer) env.outer st.stays st.outer)

-- the first of two lists is within both
within_first : (vs ws : List Value) → Within vs (vs ++ ws)
within_first [] ws o e = absurd (cc e)
within_first (value.Ref named ∷ vs) ws o e = elim (or_cases (eqb named o) (has_reference o vs) e) [
  | inl here ↦ or_first (eqb named o) (has_reference o (vs ++ ws)) here
  | inr later ↦ or_second (eqb named o) (has_reference o (vs ++ ws)) (within_first vs ws o later)
]
within_first (value.Null ∷ vs) ws o e = within_first vs ws o e
within_first (value.Long n ∷ vs) ws o e = within_first vs ws o e
within_first (value.Bool b ∷ vs) ws o e = within_first vs ws o e
within_first (value.Text t ∷ vs) ws o e = within_first vs ws o e

-- A part while values are held, with what was held before, and what is made of its ends, where the values are known.
pub while_held : (f : Outcome → Outcome) → Passes f → (vs : List Value) (m : Meaning) (known : Objects) (kept : List Value) (u : State) → Stands known kept u.environment → AreOf known vs
    → ((more : List Value) (w : State) → Within kept more → Within vs more → Stands known more w.environment → HoldsOnly more known (λ rs. m (with_replies rs w)))
    → ((k : Objects) (e : Outcome) → EndsIn k kept e → AreOf k vs → HoldsOnly kept k (λ rs. f (refilled rs e)))
    → HoldsOnly kept known (λ rs. f (holding vs m (with_replies rs u)))
while_held f passes [] m known kept u st all part then = goes_on f passes (λ o e. e) (part kept u (λ o e. e) (λ o e. absurd (cc e)) st) (λ k e end. then k e end tt)
while_held f passes (v ∷ vs) m known kept u st all part then =
    goes_on (λ o. f (restored u.environment.outer o)) (record { wants = passes.wants; stopped = passes.stopped; over = passes.over }) inside
    (part (v ∷ vs ++ u.environment.outer) (with_outer (v ∷ vs ++ u.environment.outer) u) inside (within_first (v ∷ vs) u.environment.outer)
    (record { this = st.this; vars = st.vars; outer = both known (v ∷ vs) u.environment.outer all st.outer; stays = λ o e. e })) at_end
  where
    inside : Within kept (v ∷ vs ++ u.environment.outer)
    inside o e = within_both (v ∷ vs) u.environment.outer o (st.stays o e)

    at_end : (k : Objects) (e : Outcome) → EndsIn k (v ∷ vs ++ u.environment.outer) e → HoldsOnly kept k (λ rs. f (restored u.environment.outer (refilled rs e)))
    at_end k (Gives x w) end = then k (Gives x (with_outer u.environment.outer w)) (end.0, held_again (v ∷ vs) u.environment.outer kept k w.environment st.stays end.1) (held_known (v ∷ vs) u.environment.outer k w.environment end.1)
    at_end k (Leaves x w) end = then k (Leaves x (with_outer u.environment.outer w)) (end.0, held_again (v ∷ vs) u.environment.outer kept k w.environment st.stays end.1) (held_known (v ∷ vs) u.environment.outer k w.environment end.1)
    at_end k (Fails fault w) end = then k (Fails fault (with_outer u.environment.outer w)) (held_again (v ∷ vs) u.environment.outer kept k w.environment st.stays end) (held_known (v ∷ vs) u.environment.outer k w.environment end)
    at_end k (Wants q env) end = absurd end
    at_end k (Hears r w) end = absurd end
    at_end k Over end = absurd end
    at_end k Stopped end = absurd end

-- A part that makes use of values that are held all the while.
pub record Lasting (vs : List Value) (m : Meaning) : Type 0 where
  pub from : (known : Objects) (kept : List Value) (u : State) → Stands known kept u.environment → Within vs kept → HoldsOnly kept known (λ rs. m (with_replies rs u))

-- they are known where it begins
pub lasting_known : (vs kept : List Value) (known : Objects) (env : Environment) → Stands known kept env → Within vs kept → AreOf known vs
lasting_known vs kept known env st within = all_within known vs env.outer (λ o e. st.stays o (within o e)) st.outer

-- a part in which the values are held that it makes use of all the while
pub part_lasting : (vs : List Value) (m : Meaning) → Lasting vs m → Part vs (holding vs m)
part_lasting vs m part = record {
  from = λ known kept u st all. while_held (λ o. o) (record { wants = λ q env. refl; stopped = refl; over = refl }) vs m known kept u st all
      (λ more w inside within standing. part.from known more w standing within) (λ k e end its. HoldsOnly.ends e (λ rs. refl) end);
}

-- ---- values

-- the same part, where other values are known by which these are
pub part_by : {vs : List Value} (ws : List Value) {m : Meaning} → ((k : Objects) → AreOf k ws → AreOf k vs) → Part vs m → Part ws m
part_by ws so part = record { from = λ known kept u st all. part.from known kept u st (so known all) }

-- a part that makes use of no values
pub part_any : (ws : List Value) {m : Meaning} → Part [] m → Part ws m
part_any ws part = part_by ws (λ k all. tt) part

-- a value is given
pub part_gives : (v : Value) → Part (v ∷ []) (Gives v)
part_gives v = record { from = λ known kept u st all. HoldsOnly.ends (Gives v u) (λ rs. refl) (all.0, st) }

-- so is one that is no object
pub part_plain : (v : Value) → ((k : Objects) → IsOf k v) → Part [] (Gives v)
part_plain v plain = record { from = λ known kept u st all. HoldsOnly.ends (Gives v u) (λ rs. refl) (plain known, st) }

-- a body is left
pub part_leaves : (v : Value) → Part (v ∷ []) (Leaves v)
part_leaves v = record { from = λ known kept u st all. HoldsOnly.ends (Leaves v u) (λ rs. refl) (all.0, st) }

-- a part fails
pub part_fails : (vs : List Value) (fault : Fault) → Part vs (Fails fault)
part_fails vs fault = record { from = λ known kept u st all. HoldsOnly.ends (Fails fault u) (λ rs. refl) st }

-- no more moves are counted
pub part_stopped : Part [] (λ at. Stopped)
part_stopped = record { from = λ known kept u st all. HoldsOnly.stops (λ rs. refl) }

-- what goes on from a value changes no more than an end
pub passes_value : (f : Value → Meaning) → Passes (on_value f)
passes_value f = record { wants = λ q env. refl; stopped = refl; over = refl }

-- what is made of the value at an end, where values are known
value_end : (f : Value → Meaning) (vs kept : List Value) → ((v : Value) → Part (v ∷ vs) (f v)) → (k : Objects) (e : Outcome) → EndsIn k kept e → AreOf k vs
    → HoldsOnly kept k (λ rs. on_value f (refilled rs e))
value_end f vs kept then k (Gives v u) end all = (then v).from k kept u end.1 (end.0, all)
value_end f vs kept then k (Leaves v u) end all = HoldsOnly.ends (Leaves v u) (λ rs. refl) end
value_end f vs kept then k (Fails fault u) end all = HoldsOnly.ends (Fails fault u) (λ rs. refl) end
value_end f vs kept then k (Wants q env) end all = absurd end
value_end f vs kept then k (Hears r u) end all = absurd end
value_end f vs kept then k Over end all = absurd end
value_end f vs kept then k Stopped end all = absurd end

-- a part, and then what is made of its value
pub part_value : (vs : List Value) (f : Value → Meaning) (m : Meaning) → Part vs m → ((v : Value) → Part (v ∷ []) (f v)) → Part vs (λ at. on_value f (m at))
part_value vs f m part then = record {
  from = λ known kept u st all. goes_on (on_value f) (passes_value f) (λ o e. e) (part.from known kept u st all) (λ k e end. value_end f [] kept then k e end tt);
}

-- a part while values are held, and then what is made of its value and those
pub part_beside : (vs : List Value) (f : Value → Meaning) (m : Meaning) → Part [] m → ((v : Value) → Part (v ∷ vs) (f v)) → Part vs (λ at. on_value f (holding vs m at))
part_beside vs f m part then = record {
  from = λ known kept u st all. while_held (on_value f) (passes_value f) vs m known kept u st all (λ more w inside within standing. part.from known more w standing tt) (value_end f vs kept then);
}

-- ---- requests

-- after a reply the environment stands, and all is known that was held for what is done with the reply
pub record Told (k : Objects) (kept vs : List Value) (q : Request) (r : Reply) (env : Environment) : Type 0 where
  pub stands : Stands k kept env
  pub all : AreOf k (told_by r ++ (vs ++ request_values q))

told_then : (known : Objects) (kept vs : List Value) (q : Request) (r : Reply) (env : Environment) → Stands known kept env
    → Told (after (record env { outer = vs ++ env.outer }) q r) kept vs q r env
told_then known kept vs q r env st =
    let wide : Environment = record env { outer = vs ++ env.outer } in
    let k : Objects = after wide q r in
    let frames : AreOf k (held_by wide) = after_frames wide q r in
    let outer : AreOf k (vs ++ env.outer) = behind k env.vars (vs ++ env.outer) frames.1 in
    record {
      stands = record { this = frames.0; vars = front k env.vars (vs ++ env.outer) frames.1; outer = behind k vs env.outer outer; stays = st.stays };
      all = both k (told_by r) (vs ++ request_values q) (after_told wide q r) (both k vs (request_values q) (front k vs env.outer outer) (after_request wide q r));
    }

-- a request while values are held, and what comes of each reply
pub asked_with : (known : Objects) (kept vs : List Value) (q : Request) (u : State) (o : List Reply → Outcome) → Stands known kept u.environment → AreOf known (vs ++ request_values q)
    → o [] ≡ Wants q (record u.environment { outer = vs ++ u.environment.outer })
    → ((r : Reply) (k : Objects) → Stands k kept u.environment → AreOf k (told_by r ++ (vs ++ request_values q)) → HoldsOnly kept k (λ rs. o (r ∷ rs)))
    → HoldsOnly kept known o
asked_with known kept vs q u o st all is go = HoldsOnly.asks q (record u.environment { outer = vs ++ u.environment.outer }) is
    (record {
      this = st.this;
      vars = st.vars;
      outer = both known vs u.environment.outer (front known vs (request_values q) all) st.outer;
      stays = λ x e. within_both vs u.environment.outer x (st.stays x e);
    })
    (behind known vs (request_values q) all)
    (λ r. let told = told_then known kept vs q r u.environment st in go r (after (record u.environment { outer = vs ++ u.environment.outer }) q r) told.stands told.all)
