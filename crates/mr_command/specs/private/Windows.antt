-- What is asked of each part of a map, by the window and the layers. This serves private functions.
use Rattle.mr_query.specs.declared.key.Key.{Key}
use Rattle.mr_proof.specs.declared.way.Way.{Way}
use Rattle.mr_count.specs.Inside.{inside_way}
use Rattle.mr_count.specs.declared.inside.Inside.{Inside}

abbrev pub ways_inside : Inside → Key → Way
ways_inside one = inside_way one.window one.mask
