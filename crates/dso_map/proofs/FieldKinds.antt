-- A field of a map takes the values of its kind.
use Rattle.std.proofs.Common.{◌↔◌, refl, zero, suc}
use Rattle.std.specs.Prelude.{IsTrue}
use Rattle.dso_base.specs.Value.{Fits}
use Rattle.dso_base.specs.declared.value.Value.{Value}
use Rattle.dso_base.specs.declared.value.Value.TheVariants as value
use Rattle.dso_map.specs.Fields.{MapField, field_kind, field_takes}
use Rattle.dso_map.specs.Fields.MapField.{Touched, Key, Held, Size}

pub takes_kind : (f : MapField) (v : Value) → IsTrue (field_takes f v) ↔ Fits (field_kind f) v
takes_kind (Touched i) (value.Bool b) = (λ is. tt, λ fits. refl)
takes_kind (Key i) (value.Long n) = (λ is. tt, λ fits. refl)
takes_kind Size (value.Long n) = (λ is. tt, λ fits. refl)
takes_kind (Held i) value.Null = (λ is. tt, λ fits. refl)
takes_kind (Held i) (value.Ref zero) = (λ is. cc is, λ fits. absurd (fits refl))
takes_kind (Held i) (value.Ref (suc o)) = (λ is same. cc same, λ fits. refl)
takes_kind (Held i) (value.Long n) = (λ is. cc is, λ fits. absurd fits)
takes_kind (Held i) (value.Bool b) = (λ is. cc is, λ fits. absurd fits)
takes_kind (Held i) (value.Text t) = (λ is. cc is, λ fits. absurd fits)
takes_kind (Touched i) value.Null = (λ is. cc is, λ fits. absurd fits)
takes_kind (Touched i) (value.Long n) = (λ is. cc is, λ fits. absurd fits)
takes_kind (Touched i) (value.Text t) = (λ is. cc is, λ fits. absurd fits)
takes_kind (Touched i) (value.Ref o) = (λ is. cc is, λ fits. absurd fits)
takes_kind (Key i) value.Null = (λ is. cc is, λ fits. absurd fits)
takes_kind (Key i) (value.Bool b) = (λ is. cc is, λ fits. absurd fits)
takes_kind (Key i) (value.Text t) = (λ is. cc is, λ fits. absurd fits)
takes_kind (Key i) (value.Ref o) = (λ is. cc is, λ fits. absurd fits)
takes_kind Size value.Null = (λ is. cc is, λ fits. absurd fits)
takes_kind Size (value.Bool b) = (λ is. cc is, λ fits. absurd fits)
takes_kind Size (value.Text t) = (λ is. cc is, λ fits. absurd fits)
takes_kind Size (value.Ref o) = (λ is. cc is, λ fits. absurd fits)
