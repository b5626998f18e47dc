use Rattle.std.proofs.Common.{◌≡◌, ◌+◌, ◌++◌, List, min, subst}
use Rattle.std.specs.Prelude.{All}
use Rattle.std.specs.BinaryHeap.{heap_items}
use Rattle.std.specs.List.Sorted.{IsPermutation}
use Rattle.mr_record.specs.declared.record.Record.{Record}
use Rattle.mr_record.specs.declared.version.Version.{Version}
use Rattle.mr_tree.specs.View.{children_in}
use Rattle.mr_tree.specs.declared.child.Child.{Child}
use Rattle.mr_query.specs.private.Radius.{below}
use Rattle.mr_prove.specs.private.Search.{aim, distances_on, waiting_of}
use Rattle.mr_prove.proofs.search.visit.Goals as goal

pub returns-clause-visited : goal.returns-clause-visited
returns-clause-visited g c =
    let a = aim c.args.sought.now in
    let queue = heap_items c.args.queue.now in
    let queue_now = heap_items c.wait_for_all.new.queue in
    let cs = children_in c.fetched.new.into in
    record {
      node = c.fetched.new.into;
      shows = c.in_ok-fetched.ensures.shows;
      children = c.children.ensures.length_at_most;
      lower =
          subst (λ n. All (λ (d : Child). d.level + 1 ≡ n) cs) c.in_ok-fetched.ensures.shows.level
          c.children.ensures.alike;
      queued =
          subst (λ (v : Version). IsPermutation (queue ++ waiting_of a v cs) queue_now) c.requires.version
          (subst (λ (cs : List Child). IsPermutation (queue ++ waiting_of a c.args.sought.now.version cs) queue_now)
          c.children.ensures.value c.in_ok-wait_for_all.ensures.joined);
      least = λ x.
          subst (λ (rs : List Record). min a.k (below x (heap_items c.offer_all.new.best))
          ≡ min a.k (below x (heap_items c.args.best.now) + below x (distances_on a rs)))
          c.records.ensures.value (c.in_ok-offer_all.ensures.least x);
    }
