use Rattle.std.proofs.Common.{ℕ, subst, sym, ap}
use Rattle.lru.specs.LruCache.{LruCache}
use Rattle.mr_store.specs.declared.cached_node.CachedNode.{CachedNode}
use Rattle.mr_store.specs.Kept.{KeepsEntries}
use Rattle.mr_store.proofs.Caches.{stays_promoted}
use Rattle.mr_store.proofs.cache.touch.Goals as goal

pub returns-clause-stays : goal.returns-clause-stays
returns-clause-stays c =
    subst (λ es. KeepsEntries c.args.cache.now.entries es)
    (sym (ap (λ (m : LruCache ℕ CachedNode). m.entries) c.promote.ensures.entries))
    (stays_promoted c.args.cache.now.entries c.args.page)

pub returns-clause-uses : goal.returns-clause-uses
returns-clause-uses c = ap (λ (m : LruCache ℕ CachedNode). m.entries) c.promote.ensures.entries
