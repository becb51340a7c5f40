-- Requests, moves, locks and waits keep to what may be asked.
use Rattle.std.proofs.Common.{◌≡◌, refl, ℕ, ◌+◌, Bool, true, false, List, []}
use Rattle.std.specs.Prelude.{nat_lt, Result, Ok, Err}
use Rattle.dso_base.specs.declared.request.Fault.{Fault}
use Rattle.dso_base.specs.declared.request.Fault.TheVariants.{BadValue, NullPointer}
use Rattle.dso_base.specs.declared.request.Reply.{Reply}
use Rattle.dso_base.specs.declared.request.Reply.TheVariants.{Done, Made, Seen, Val, Refused}
use Rattle.dso_base.specs.declared.request.Request.{Request}
use Rattle.dso_base.specs.declared.request.Request.TheVariants as request
use Rattle.dso_base.specs.declared.shape.Shape.{Shape}
use Rattle.dso_base.specs.declared.value.ClassId.{ClassId}
use Rattle.dso_base.specs.declared.value.Value.{Value}
use Rattle.dso_base.specs.declared.value.Value.TheVariants as value
use Rattle.dso_machine.specs.Expressions.{make}
use Rattle.dso_machine.specs.Limits.{most_moves}
use Rattle.dso_machine.specs.Outcome.{Meaning, on_reply, result_of, asking, unwanted, done, made, got, seen, telling, tell, getting, get, looking, look, on_object, moved, paced, moving}
use Rattle.dso_machine.proofs.protocol.Protocol.{KnowsValue, is_plain, Keeper}
use Rattle.dso_machine.proofs.protocol.Parts.{IsNoMapAt, IsApartAt, no_map_later, Obeys, More, Part, environment_later, more_then, part_later, part_at, part_gives, part_fails, part_value}

-- the value, if there is one, is known
abbrev pub KnowsResult : (ℕ → Type 0) → (ℕ → Type 0) → Result Value Fault → Type 0
KnowsResult has_text knows (Ok v) = KnowsValue has_text knows v
KnowsResult has_text knows (Err fault) = Unit {0}

module _ {shape : Shape} (k : Keeper shape) where
  -- ---- replies

  -- a reply that isn't wanted
  pub part_unwanted : (g : k.Point) (r : Reply) → Part k g (unwanted r)
  part_unwanted g (Refused fault) = record { from = λ h u more environment. (part_fails k g fault).from h u more environment }
  part_unwanted g r = record { from = λ h u more environment. (part_fails k g BadValue).from h u more environment }

  -- the reply Done, or another
  pub part_done : (g : k.Point) (r : Reply) → Part k g (done r)
  part_done g Done = record { from = λ h u more environment. (part_gives k g value.Null tt).from h u more environment }
  part_done g r = record { from = λ h u more environment. (part_unwanted g r).from h u more environment }

  -- the object that was made, or another reply
  part_made : (g : k.Point) (q : Request) (r : Reply) → k.IsReply g q r → Part k (k.after q r g) (made r)
  part_made g q (Made object) comes = record { from = λ h u more environment. (part_gives k (k.after q (Made object) g) (value.Ref object) (k.made_known g q object comes)).from h u more environment }
  part_made g q r comes = record { from = λ h u more environment. (part_unwanted (k.after q r g) r).from h u more environment }

  -- a value that was read is known
  pub read_value : (g : k.Point) (q : Request) (v : Value) → k.IsReply g q (Val v) → KnowsValue k.HasText (k.Knows (k.after q (Val v) g)) v
  read_value g q (value.Ref object) comes = k.read_known g q object comes
  read_value g q value.Null comes = tt
  read_value g q (value.Long n) comes = tt
  read_value g q (value.Bool b) comes = tt
  read_value g q (value.Text t) comes = k.read_text g q t comes

  -- the value that was read, or another reply
  part_got : (g : k.Point) (q : Request) (r : Reply) → k.IsReply g q r → Part k (k.after q r g) (got r)
  part_got g q (Val v) comes = record { from = λ h u more environment. (part_gives k (k.after q (Val v) g) v (read_value g q v comes)).from h u more environment }
  part_got g q r comes = record { from = λ h u more environment. (part_unwanted (k.after q r g) r).from h u more environment }

  -- what was seen, or another reply
  part_seen : (g : k.Point) (f : ClassId → ℕ → Meaning) (object : ℕ) (r : Reply) → k.IsReply g (request.Look object) r
      → ((class : ClassId) (size : ℕ) → k.Looked (k.after (request.Look object) r g) object class size → Part k (k.after (request.Look object) r g) (f class size))
      → Part k (k.after (request.Look object) r g) (seen f r)
  part_seen g f object (Seen class size) comes part = record { from = λ h u more environment. (part class size (k.seen_looked g object class size comes)).from h u more environment }
  part_seen g f object r comes part = record { from = λ h u more environment. (part_unwanted (k.after (request.Look object) r g) r).from h u more environment }

  -- a value that is known, or the fault in its place
  pub part_result : (g : k.Point) (r : Result Value Fault) → KnowsResult k.HasText (k.Knows g) r → Part k g (result_of r)
  part_result g (Ok v) known = part_gives k g v known
  part_result g (Err fault) known = part_fails k g fault

  -- ---- requests

  -- after any reply no less is known and seen
  more_after : (g : k.Point) (q : Request) (r : Reply) → k.Awake (k.after q r g) → More k g (k.after q r g)
  more_after g q r awake = record { awake = awake; knows = k.still_known g q r; looked = k.still_looked g q r }

  -- a plain request that may be asked, and what is made of its reply
  part_plain : (g : k.Point) (vs : List Value) (q : Request) (f : Reply → Meaning) → is_plain q ≡ true → ((h : k.Point) → More k g h → k.Asks h q × IsApartAt k h q)
      → ((h : k.Point) (r : Reply) → More k g h → More k g (k.after q r h) → k.IsReply h q r → Part k (k.after q r h) (f r)) → Part k g (λ at. on_reply f (asking vs q at))
  part_plain g vs q f plain may then = record {
    from = λ h u more environment. Obeys.asks q refl (may h more).0 (may h more).1 (λ r comes.
        let same : k.Same h (k.after q r h) = k.plain_same h q r more.awake plain comes in
        let awake : k.Awake (k.after q r h) = k.same_awake h (k.after q r h) same more.awake in
        part_at k h (k.after q r h) (f r) (record { environment = u.environment; moves = 0; replies = [] }) awake same
        (then h r more (more_then k g h (k.after q r h) more (more_after h q r awake)) comes) (environment_later k h (k.after q r h) (k.still_known h q r) u.environment environment));
  }

  -- a plain request that is answered Done
  pub part_telling : (g : k.Point) (vs : List Value) (q : Request) → is_plain q ≡ true → ((h : k.Point) → More k g h → k.Asks h q × IsApartAt k h q) → Part k g (telling vs q)
  part_telling g vs q plain may = part_plain g vs q done plain may (λ h r more later comes. part_done (k.after q r h) r)

  pub part_tell : (g : k.Point) (q : Request) → is_plain q ≡ true → ((h : k.Point) → More k g h → k.Asks h q × IsApartAt k h q) → Part k g (tell q)
  part_tell g q plain may = part_telling g [] q plain may

  -- a field or an element is read,
  pub part_getting : (g : k.Point) (vs : List Value) (object place : ℕ) → ((h : k.Point) → More k g h → k.Asks h (request.Get object place)) → IsNoMapAt k g object → Part k g (getting vs object place)
  part_getting g vs object place may other = part_plain g vs (request.Get object place) got refl (λ h more. (may h more, no_map_later k g h object more other)) (λ h r more later comes. part_got h (request.Get object place) r comes)

  pub part_get : (g : k.Point) (object place : ℕ) → ((h : k.Point) → More k g h → k.Asks h (request.Get object place)) → IsNoMapAt k g object → Part k g (get object place)
  part_get g object place may other = part_getting g [] object place may other

  -- an object is made,
  pub part_make : (g : k.Point) (class : ClassId) (size : ℕ) → ((h : k.Point) → More k g h → k.Asks h (request.New class size)) → Part k g (make class size)
  part_make g class size may = part_plain g [] (request.New class size) made refl (λ h more. (may h more, tt)) (λ h r more later comes. part_made h (request.New class size) r comes)

  -- an object that is known is looked at, and is then of the class and size that were seen
  pub part_looking : (g : k.Point) (vs : List Value) (f : ClassId → ℕ → Meaning) (object : ℕ) → k.Knows g object
      → ((h : k.Point) → More k g h → (class : ClassId) (size : ℕ) → k.Looked h object class size → Part k h (f class size)) → Part k g (looking vs f object)
  part_looking g vs f object known part = part_plain g vs (request.Look object) (seen f) refl (λ h more. (k.look_asked h object more.awake (more.knows object known), tt))
      (λ h r more later comes. part_seen h f object r comes (part (k.after (request.Look object) r h) later))

  pub part_look : (g : k.Point) (f : ClassId → ℕ → Meaning) (object : ℕ) → k.Knows g object
      → ((h : k.Point) → More k g h → (class : ClassId) (size : ℕ) → k.Looked h object class size → Part k h (f class size)) → Part k g (look f object)
  part_look g f object known part = part_looking g [] f object known part

  -- the value is to be an object
  pub part_object : (g : k.Point) (f : ℕ → Meaning) (v : Value) → KnowsValue k.HasText (k.Knows g) v → ((object : ℕ) → k.Knows g object → Part k g (f object)) → Part k g (on_object f v)
  part_object g f (value.Ref object) known part = record { from = λ h u more environment. (part object known).from h u more environment }
  part_object g f value.Null known part = record { from = λ h u more environment. (part_fails k g NullPointer).from h u more environment }
  part_object g f v known part = record { from = λ h u more environment. (part_fails k g BadValue).from h u more environment }

  -- ---- moves

  -- a move is made
  part_moved : (g : k.Point) (m : Meaning) → Part k g m → Part k g (moved m)
  part_moved g m part = record { from = λ h u more environment. part.from h (record { environment = u.environment; moves = u.moves + 1; replies = u.replies }) more environment }

  -- a move, after a pause where one is due
  part_paced : (g : k.Point) (b : Bool) (m : Meaning) → Part k g m → Part k g (paced b m)
  part_paced g true m part = record { from = λ h u more environment. (part_moved g m part).from h u more environment }
  part_paced g false m part = record {
    from = λ h u more environment. (part_value k g (λ v. moved m) (telling [] request.Pause) (part_telling g [] request.Pause refl (λ h more. (k.pause_asked h more.awake, tt)))
        (λ v h more known. part_moved h m (part_later k g h m more part))).from h u more environment;
  }

  -- so by how many moves were made
  pub part_moving : (g : k.Point) (m : Meaning) → Part k g m → Part k g (moving m)
  part_moving g m part = record { from = λ h u more environment. (part_paced g (nat_lt u.moves most_moves) m part).from h u more environment }
