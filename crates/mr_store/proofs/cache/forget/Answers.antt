use Rattle.std.proofs.Common.{ℕ, sym, ap, subst}
use Rattle.lru.specs.LruCache.{LruCache}
use Rattle.mr_store.specs.declared.cached_node.CachedNode.{CachedNode}
use Rattle.mr_store.specs.Kept.{Forgets}
use Rattle.mr_store.proofs.Caches.{forgets}
use Rattle.mr_store.proofs.cache.forget.Goals as goal

pub returns-clause-forgets : goal.returns-clause-forgets
returns-clause-forgets c =
    subst (λ es. Forgets c.args.page c.args.cache.now.entries es)
    (sym (ap (λ (m : LruCache ℕ CachedNode). m.entries) c.pop.ensures.entries))
    (forgets c.args.page c.args.cache.now.entries c.len-len.ensures.valid.0)
