-- What the tables tell after each change, and that they still agree.
use Rattle.std.proofs.Common.{ℕ, ◌+◌, ◌-◌, ◌≡◌, refl, sym, ◌∙◌, ap, arith, true, false, Option, Some, None}
use Rattle.std.specs.Option.{option_map}
use Rattle.std.specs.BTreeMap.{BTreeMap}
use Rattle.std.specs.BTreeSet.{contains}
use Rattle.std.specs.Ordering.{nat_cmp}
use Rattle.dso_base.specs.declared.lock.ThreadId.{ThreadId}
use Rattle.dso_base.specs.declared.record.Set.{Set}
use Rattle.dso_lookup.specs.Search.{is_listed}
use Rattle.dso_table.specs.declared.order.Order.{Order}
use Rattle.dso_table.specs.declared.places.Places.{Places}
use Rattle.dso_table.specs.declared.slot.Slot.{Slot}
use Rattle.dso_table.specs.declared.slot.ObjectStanding.{ObjectStanding}
use Rattle.dso_table.specs.declared.slot.ObjectStanding.TheVariants as standing
use Rattle.dso_table.specs.declared.tables.ObjectTables.{ObjectTables}
use Rattle.dso_table.specs.Slots.{wrote, has_slot_value}
use Rattle.dso_table.specs.States.{State, is_resident, later_than, with_at, with_note, without, asked, flushed}
use Rattle.dso_table.specs.States as states
use Rattle.dso_table.specs.ObjectTables.{slot_in, standing_of, mark_of, notes_in, used_in, limit_in, number_in, is_ordered, state_in, put_slot, PlacesAgree, OrderAgrees, TablesAgree}
use Rattle.dso_table.proofs.lists.Lists.{neither, without_absent}
use Rattle.dso_table.proofs.lists.Numbers.{with_at_same, with_at_again}
use Rattle.dso_table.proofs.objects.StateChanges.{standing_is, marks_are, residents_agree, residents_kept, marks_last, standing_written, mark_written}

-- notes of threads of objects
abbrev pub Notes : Type 0
Notes = BTreeMap ThreadId (BTreeMap ℕ (Unit {0}))

-- an order that tells what another does
pub record IsSameOrder (old new : Order) : Type 0 where
  pub used : used_in new ≡ used_in old
  pub limit : limit_in new ≡ limit_in old
  pub ordered : is_ordered new ≡ is_ordered old
  pub number : number_in new ≡ number_in old

-- an order tells what it tells
pub same_order : (order : Order) → IsSameOrder order order
same_order order = record { used = refl; limit = refl; ordered = refl; number = refl }

module _ (old : ObjectTables) (places : Places) (order : Order) (wanted : Notes) (is : slot_in places ≡ slot_in old.places) where
  -- tables with other insides tell the same
  pub told_same : IsSameOrder old.order order → notes_in wanted ≡ notes_in old.wanted → state_in (record old { places = places; order = order; wanted = wanted }) ≡ state_in old
  told_same same notes = λ i. record (state_in old) {
    standing = λ o. standing_of (is i o);
    marks = λ o. mark_of old.acked (is i o);
    wanted = notes i;
    used = same.used i;
    residents = same.number i;
    limit = same.limit i;
  }

  -- and agree
  pub agree_same : TablesAgree old → PlacesAgree places → OrderAgrees order → IsSameOrder old.order order → TablesAgree (record old { places = places; order = order; wanted = wanted })
  agree_same agree stand orders same = record {
    places = stand;
    order = orders;
    residents = λ o. ap (λ f. is_resident (standing_of (f o))) is ∙ (agree.residents o ∙ sym (ap (λ f. f o) same.ordered));
  }

module _ (old : ObjectTables) (agree : TablesAgree old) (o : ℕ) where
  -- an object that isn't resident isn't in the order
  pub not_ordered : is_resident (standing_of (slot_in old.places o)) ≡ false → is_ordered old.order o ≡ false
  not_ordered absent = sym (agree.residents o) ∙ absent

  -- an order into which an object came and which it left again is as before
  pub order_back : (mid new : Order) → is_resident (standing_of (slot_in old.places o)) ≡ false → used_in mid ≡ used_in old.order → limit_in mid ≡ limit_in old.order → is_ordered mid ≡ with_at o true (is_ordered old.order) → number_in mid ≡ number_in old.order + 1 → used_in new ≡ without o (used_in mid) → limit_in new ≡ limit_in mid → is_ordered new ≡ with_at o false (is_ordered mid) → number_in new ≡ number_in mid - 1 → IsSameOrder old.order new
  order_back mid new absent used limit ordered number used' limit' ordered' number' =
      let out : is_ordered old.order o ≡ false = not_ordered absent in
      let unlisted : is_listed o (used_in old.order) ≡ false = (neither (is_listed o (used_in old.order)) (contains nat_cmp old.order.others o) out).0 in
      record {
        used = used' ∙ (ap (λ xs. without o xs) used ∙ without_absent o (used_in old.order) unlisted);
        limit = limit' ∙ limit;
        ordered = ordered' ∙ (ap (λ f. with_at o false f) ordered ∙ (with_at_again o false true (is_ordered old.order) ∙ with_at_same o false (is_ordered old.order) out));
        number = omega (arith, number, number');
      }

  module _ (places : Places) (stand : PlacesAgree places) where
    -- an absent object was asked for
    pub told_asked : (t : ThreadId) (wanted : Notes) → slot_in old.places o ≡ None → slot_in places ≡ with_at o (Some (record { object = o; standing = standing.Asked; changed = None })) (slot_in old.places) → notes_in wanted ≡ with_note t o (notes_in old.wanted) → state_in (record old { places = places; wanted = wanted }) ≡ asked o t (state_in old)
    told_asked t wanted absent is notes =
        let new = record old { places = places; wanted = wanted } in
        let slot = Some (record { object = o; standing = standing.Asked; changed = None }) in
        λ i. record (state_in old) {
          standing = standing_is old new o slot is i;
          marks = (marks_are old new o slot is refl ∙ with_at_same o None (state_in old).marks (ap (λ s. mark_of old.acked s) absent)) i;
          wanted = notes i;
        }

    pub agree_asked : (wanted : Notes) → slot_in old.places o ≡ None → slot_in places ≡ with_at o (Some (record { object = o; standing = standing.Asked; changed = None })) (slot_in old.places) → TablesAgree (record old { places = places; wanted = wanted })
    agree_asked wanted absent is = record {
      places = stand;
      order = agree.order;
      residents = residents_kept old (record old { places = places; wanted = wanted }) o (Some (record { object = o; standing = standing.Asked; changed = None })) is agree (sym (ap (λ s. is_resident (standing_of s)) absent)) refl;
    }

    -- an absent object that was added was taken out again
    pub places_back : (mid : Places) (slot : Slot) → slot_in old.places o ≡ None → slot_in mid ≡ with_at o (Some slot) (slot_in old.places) → slot_in places ≡ with_at o None (slot_in mid) → slot_in places ≡ slot_in old.places
    places_back mid slot absent came left = left ∙ (ap (λ f. with_at o None f) came ∙ (with_at_again o None (Some slot) (slot_in old.places) ∙ with_at_same o None (slot_in old.places) absent))

    -- an object that wasn't resident is
    pub told_new : (order : Order) (slot : Slot) → slot.object ≡ o → slot_in places ≡ with_at o (Some slot) (slot_in old.places) → used_in order ≡ used_in old.order → limit_in order ≡ limit_in old.order → number_in order ≡ number_in old.order + 1 → state_in (record old { places = places; order = order }) ≡ put_slot slot 1 (state_in old)
    told_new order slot its is used limit number =
        let new = record old { places = places; order = order } in
        λ i. record (state_in old) {
          standing = (standing_is old new o (Some slot) is ∙ ap (λ p. with_at p (Some slot.standing) (state_in old).standing) (sym its)) i;
          marks = (marks_are old new o (Some slot) is refl ∙ ap (λ p. with_at p (later_than old.acked slot.changed) (state_in old).marks) (sym its)) i;
          used = used i;
          residents = number i;
          limit = limit i;
        }

    pub agree_new : (order : Order) (slot : Slot) → OrderAgrees order → is_resident (Some slot.standing) ≡ true → slot_in places ≡ with_at o (Some slot) (slot_in old.places) → is_ordered order ≡ with_at o true (is_ordered old.order) → TablesAgree (record old { places = places; order = order })
    agree_new order slot orders resident is ordered = record {
      places = stand;
      order = orders;
      residents = residents_agree old (record old { places = places; order = order }) o (Some slot) is agree true resident ordered;
    }

    -- what is kept of a resident object was replaced
    pub told_over : (slot : Slot) → slot.object ≡ o → slot_in places ≡ with_at o (Some slot) (slot_in old.places) → state_in (record old { places = places }) ≡ put_slot slot 0 (state_in old)
    told_over slot its is =
        let new = record old { places = places } in
        λ i. record (state_in old) {
          standing = (standing_is old new o (Some slot) is ∙ ap (λ p. with_at p (Some slot.standing) (state_in old).standing) (sym its)) i;
          marks = (marks_are old new o (Some slot) is refl ∙ ap (λ p. with_at p (later_than old.acked slot.changed) (state_in old).marks) (sym its)) i;
          residents = plus_none (number_in old.order) i;
        }
      where
        plus_none : (n : ℕ) → n ≡ n + 0
        plus_none n = omega arith

    pub agree_over : (slot : Option Slot) → slot_in places ≡ with_at o slot (slot_in old.places) → is_resident (standing_of slot) ≡ is_resident (standing_of (slot_in old.places o)) → TablesAgree (record old { places = places })
    agree_over slot is as_before = record {
      places = stand;
      order = agree.order;
      residents = residents_kept old (record old { places = places }) o slot is agree as_before refl;
    }

    -- an object without a mark was taken out
    pub told_out : (order : Order) → mark_of old.acked (slot_in old.places o) ≡ None → slot_in places ≡ with_at o None (slot_in old.places) → used_in order ≡ without o (used_in old.order) → limit_in order ≡ limit_in old.order → number_in order ≡ number_in old.order - 1 → state_in (record old { places = places; order = order }) ≡ flushed o (state_in old)
    told_out order unmarked is used limit number =
        let new = record old { places = places; order = order } in
        λ i. record (state_in old) {
          standing = standing_is old new o None is i;
          marks = (marks_are old new o None is refl ∙ with_at_same o None (state_in old).marks unmarked) i;
          used = used i;
          residents = number i;
          limit = limit i;
        }

    pub agree_out : (order : Order) → OrderAgrees order → slot_in places ≡ with_at o None (slot_in old.places) → is_ordered order ≡ with_at o false (is_ordered old.order) → TablesAgree (record old { places = places; order = order })
    agree_out order orders is ordered = record {
      places = stand;
      order = orders;
      residents = residents_agree old (record old { places = places; order = order }) o None is agree false refl ordered;
    }

-- a field was written
pub told_written : (old : ObjectTables) (places : Places) (change : Set) (changed : Option ℕ) → has_slot_value change.field (slot_in old.places change.object) ≡ true → slot_in places ≡ with_at change.object (option_map (wrote change changed) (slot_in old.places change.object)) (slot_in old.places) → state_in (record old { places = places }) ≡ states.set change changed (state_in old)
told_written old places change changed there is =
    let new = record old { places = places } in
    let o = change.object in
    let slot = slot_in old.places o in
    λ i. record (state_in old) {
      standing = (standing_is old new o (option_map (wrote change changed) slot) is ∙ ap (λ s. with_at o s (state_in old).standing) (standing_written change changed slot)) i;
      marks = (marks_are old new o (option_map (wrote change changed) slot) is refl ∙ (ap (λ m. with_at o m (state_in old).marks) (mark_written old.acked change changed slot there) ∙ marks_last old o changed)) i;
    }

-- a write leaves an object as resident as before
pub written_resident : (change : Set) (changed : Option ℕ) (slot : Option Slot) → is_resident (standing_of (option_map (wrote change changed) slot)) ≡ is_resident (standing_of slot)
written_resident change changed None = refl
written_resident change changed (Some slot) = by slot.standing
  where
    by : (s : ObjectStanding) → is_resident (standing_of (option_map (wrote change changed) (Some (record slot { standing = s })))) ≡ is_resident (Some s)
    by standing.Asked = refl
    by (standing.Resident body) = refl
