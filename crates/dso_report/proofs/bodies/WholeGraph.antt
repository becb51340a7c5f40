-- Nothing is missing in a graph of a sound program, and its bodies are no larger than can be counted.
use Rattle.std.proofs.Common.{◌≡◌, ◌≢◌, ◌↔◌, refl, sym, ◌∙◌, subst, ℕ, ◌<◌, ◌^◌, Option, Some, None, option_map, List, length, get_or, slice_get, arith, All}
use Rattle.std.specs.Option.{option_and_then}
use Rattle.std.proofs.lemmas.List.Elements.{All-contains, All-nil, All-weaker}
use Rattle.std.proofs.lemmas.Option.{none-some, same_Some, slice_get-get_or, slice_get_within}
use Rattle.dso_base.specs.declared.record.Body.{Body}
use Rattle.dso_base.specs.declared.shape.ClassShape.{ClassShape}
use Rattle.dso_base.specs.declared.value.ClassId.{ClassId}
use Rattle.dso_base.specs.declared.value.ClassId.TheVariants as class
use Rattle.dso_base.specs.declared.value.Value.{Value}
use Rattle.dso_base.specs.declared.value.Value.TheVariants as value
use Rattle.dso_class.specs.declared.program.Program.{Program}
use Rattle.dso_class.specs.Sound.{IsSoundProgram}
use Rattle.dso_machine.specs.Sound.{IsSoundClass}
use Rattle.dso_plain.specs.Possible.{IsFieldCount}
use Rattle.dso_plain.specs.State.{Object, size_of}
use Rattle.dso_report.specs.BodyGraph.{HasSize, IsGraphOf, body_in, object_of_body, state_of_bodies}
use Rattle.dso_report.specs.WholeState.{HasWords, IsWholeState, NamesWhatIsThere}
use Rattle.dso_report.proofs.bodies.Found.{found_is_of}
use Rattle.dso_report.proofs.histories.WholeState.{words}

-- an item that stands at a place has what all have
at_place : {A : Type 0} (P : A → Type 0) (xs : List A) (i : ℕ) (x : A) → All P xs → slice_get xs i ≡ Some x → P x
at_place P xs i x all is =
    let within : i < length xs = slice_get_within xs i x is in
    let same : get_or xs i x ≡ x = same_Some (get_or xs i x) x (sym (slice_get-get_or xs i x within) ∙ is) in
    subst P same (all i x within)

module _ (p : Program) (sound : IsSoundProgram p) where
  -- ---- sizes

  -- a class has no more fields than can be counted
  few_fields : (c n : ℕ) (found : Option ClassShape) → slice_get p.code.shape.classes c ≡ found → IsFieldCount found n → n < 2 ^ 32
  few_fields c n None is count = absurd count
  few_fields c n (Some one) is count =
      let is_sound = at_place (IsSoundClass p.code.shape) p.code.shape.classes c one sound.code.classes is in
      omega (arith, count, is_sound.few_fields)

  -- an object has no more values than can be counted
  few_values : (k : ClassId) (n : ℕ) → HasSize p.code.shape k n → n < 2 ^ 32
  few_values (class.Plain c) n size = few_fields c n (slice_get p.code.shape.classes c) refl size
  few_values (class.Array kind) n size = omega (arith, size)
  few_values class.Roots n size = omega (arith, size, sound.code.few_roots)

  -- an object that is not of the roots' class has its words
  other_words : (k : ClassId) (n : ℕ) → HasSize p.code.shape k n → k ≢ class.Roots → HasWords p.names n k
  other_words (class.Plain c) n size other = words p sound.names (class.Plain c) n size
  other_words (class.Array kind) n size other = words p sound.names (class.Array kind) n size
  other_words class.Roots n size other = absurd (other refl)

  module _ (bodies : List Body) (graph : IsGraphOf p bodies) where
    -- each body has no more values than can be counted
    pub all_counted : All (λ (body : Body). length body.values < 2 ^ 32) bodies
    all_counted = All-weaker (λ (body : Body). HasSize p.code.shape body.class (length body.values)) (λ (body : Body). length body.values < 2 ^ 32) (λ body. few_values body.class (length body.values)) bodies graph.sizes

    -- ---- what is found is whole

    -- the size of a body that is found
    size_found : (o : ℕ) (body : Body) → body_in bodies o ≡ Some body → HasSize p.code.shape body.class (length body.values)
    size_found o body is = All-contains (λ (b : Body). HasSize p.code.shape b.class (length b.values)) bodies body graph.sizes (found_is_of bodies o body is).among

    -- object 0 has a field for each root
    roots_whole : (found : Option Body) → body_in bodies 0 ≡ found → size_of (option_map object_of_body found) ≡ length p.names.roots
    roots_whole None is = absurd (graph.roots is)
    roots_whole (Some body) is =
        let there = found_is_of bodies 0 body is in
        let of_roots : body.class ≡ class.Roots = (All-contains (λ (b : Body). (b.class ≡ class.Roots) ↔ (b.object ≡ 0)) bodies body graph.classes there.among).1 (sym there.object) in
        subst (λ k. HasSize p.code.shape k (length body.values)) of_roots (size_found 0 body is) ∙ sym sound.names.roots

    -- each field has a value
    field_whole : (o f : ℕ) (found : Option Body) → f < size_of (option_map object_of_body found) → option_and_then (λ (body : Body). slice_get body.values f) found ≢ None
    field_whole o f None within none = absurd (omega (arith, within))
    field_whole o f (Some body) within none = none-some (get_or body.values f value.Null) (sym none ∙ slice_get-get_or body.values f value.Null within)

    -- each value names what is there
    value_whole : (o f : ℕ) (v : Value) (found : Option Body) → body_in bodies o ≡ found → option_and_then (λ (body : Body). slice_get body.values f) found ≡ Some v → NamesWhatIsThere p.names (state_of_bodies bodies) v
    value_whole o f v None is holds = absurd (none-some v holds)
    value_whole o f v (Some body) is holds =
        let Names = NamesWhatIsThere p.names (state_of_bodies bodies) in
        at_place Names body.values f v (All-contains (λ (b : Body). All Names b.values) bodies body graph.named (found_is_of bodies o body is).among) holds

    -- each object but object 0 has its words
    words_whole : (o : ℕ) (object : Object) (found : Option Body) → body_in bodies o ≡ found → o ≢ 0 → option_map object_of_body found ≡ Some object → HasWords p.names object.size object.class
    words_whole o object None is other holds = absurd (none-some object holds)
    words_whole o object (Some body) is other holds =
        let there = found_is_of bodies o body is in
        let of_roots : body.class ≡ class.Roots → body.object ≡ 0 = (All-contains (λ (b : Body). (b.class ≡ class.Roots) ↔ (b.object ≡ 0)) bodies body graph.classes there.among).0 in
        subst (λ (x : Object). HasWords p.names x.size x.class) (same_Some (object_of_body body) object holds)
        (other_words body.class (length body.values) (size_found o body is) (λ roots. other (there.object ∙ of_roots roots)))

    -- nothing is missing
    pub whole_graph : IsWholeState p.names (state_of_bodies bodies)
    whole_graph = record {
      roots = roots_whole (body_in bodies 0) refl;
      fields = λ o f has. field_whole o f (body_in bodies o) has;
      values = λ o f v holds. value_whole o f v (body_in bodies o) refl holds;
      printed = λ t. All-nil (NamesWhatIsThere p.names (state_of_bodies bodies));
      words = λ o object other holds. words_whole o object (body_in bodies o) refl other holds;
    }
