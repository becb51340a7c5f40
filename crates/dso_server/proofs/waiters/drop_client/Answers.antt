use Rattle.std.proofs.Common.{◌≡◌, refl, ◌∙◌, ap, Option, Some, None, List, rules}
use Rattle.std.proofs.Math.Path.{fun_ext}
use Rattle.std.specs.BTreeMap.{is_at}
use Rattle.std.specs.Map.{lookup}
use Rattle.std.specs.Option.{option_map}
use Rattle.std.proofs.lemmas.Map.Made.{map_same_pairs, lookup-map_values}
use Rattle.dso_base.specs.declared.lock.ThreadId.{ThreadId}
use Rattle.dso_lookup.specs.Orders.{lock_order}
use Rattle.dso_law.specs.ServerWaiters.{without_client}
use Rattle.dso_server.specs.Waiters.{list_there}
use Rattle.dso_server.proofs.waiters.drop_client.Goals as goal

pub returns : goal.returns
returns c =
    let kept = map_same_pairs _ (without_client c.args.client) _ (λ k v b w f' t. search rules) _ _ c.retain.ensures.filtered in
    fun_ext (λ l. ap (λ es. list_there (lookup (is_at (lock_order l)) es)) kept ∙ (ap list_there (lookup-map_values (without_client c.args.client) (is_at (lock_order l)) c.args.waiters.now.entries) ∙ by (lookup (is_at (lock_order l)) c.args.waiters.now.entries)))
  where
    by : (list : Option (List ThreadId)) → list_there (option_map (without_client c.args.client) list) ≡ without_client c.args.client (list_there list)
    by None = refl
    by (Some list) = refl
