-- A value that is put behind a list where the list stands in its map.
use Rattle.std.proofs.Common.{◌≡◌, refl, ◌∙◌, ap, Some, List, [], ◌∷◌, ◌++◌, reverse}
use Rattle.std.proofs.lemmas.List.{reverse-append}
use Rattle.std.specs.BTreeMap.{BTreeMap, is_at}
use Rattle.dso_base.specs.declared.lock.ThreadId.{ThreadId}
use Rattle.dso_base.specs.declared.value.Value.{Value}
use Rattle.dso_base.specs.Following.{is_thread}
use Rattle.dso_lookup.specs.Lists.{newest_first, lists_of}
use Rattle.dso_lookup.specs.Maps.{look, writes, written}
use Rattle.dso_lookup.specs.Orders.{thread_order}
use Rattle.dso_plain.proofs.keys.TableOrders.{thread_at}
use Rattle.dso_plain.proofs.keys.Writes.{through}

-- the lists of the threads, one of which has one more value behind the others
pub printed_more : (t : ThreadId) (old new : BTreeMap ThreadId (List Value)) (printed more : List Value) (value : Value)
    → Some printed ≡ look thread_order old t → more ≡ printed ++ value ∷ [] → look thread_order new ≡ written (writes (is_at (thread_order t)) (λ _. Some more)) (look thread_order old)
    → lists_of thread_order new ≡ written (writes (is_thread t) (λ _. value ∷ lists_of thread_order old t)) (lists_of thread_order old)
printed_more t old new printed more value there is puts =
    let list = ap reverse is ∙ (reverse-append printed (value ∷ []) ∙ ap (λ was. value ∷ newest_first was) there) in
    through newest_first (is_at (thread_order t)) (is_thread t) (Some more) (look thread_order old) (look thread_order new) (thread_at t) puts ∙ ap (λ new_list. written (writes (is_thread t) (λ _. new_list)) (lists_of thread_order old)) list
