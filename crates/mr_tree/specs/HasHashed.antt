-- What is known of a node from its records or its entries so far.
use Rattle.std.specs.Prelude.{◌≡◌, ℕ, List, ◌++◌, Option, Some, map, sum}
use Rattle.std.specs.List.{flat_map}
use Rattle.mr_geom.specs.Rectangle.{Rectangle, union_of}
use Rattle.mr_record.specs.declared.record.Record.{Record}
use Rattle.mr_record.specs.declared.version.Version.{Version}
use Rattle.mr_record.specs.Version.{told}
use Rattle.mr_record.specs.Record.{record_bytes}
use Rattle.mr_tree.specs.Tree.{mask_of, layer_bit}
use Rattle.mr_tree.specs.Digest.{entry_bytes}
use Rattle.mr_tree.specs.declared.entry.Entry.{Entry}

-- what one record or one entry adds: its bytes in the preimage, and what it is told to hold
pub record Piece : Type 0 where
  pub bytes : List ℕ
  pub rect : Option Rectangle
  pub mask : ℕ
  pub count : ℕ

abbrev pub of_record : Version → Record → Piece
of_record v r = record {
  bytes = record_bytes v r;
  rect = Some r.rect;
  mask = layer_bit v r;
  count = told v 1;
}

abbrev pub of_entry : Version → Entry → Piece
of_entry v e = record {
  bytes = entry_bytes v e;
  rect = e.rect;
  mask = e.mask;
  count = e.count;
}

-- The bytes of the pieces were fed behind these, and the rectangle, the mask and the count are
-- theirs. `holds` says what the hasher was fed.
pub record HasHashed (holds : List ℕ → Type 0) (rect : Option Rectangle) (mask count : ℕ)
    (head : List ℕ) (pieces : List Piece) : Type 0 where
  pub fed : holds (head ++ flat_map (λ (p : Piece). p.bytes) pieces)
  pub round : rect ≡ union_of (map (λ (p : Piece). p.rect) pieces)
  pub layers : mask ≡ mask_of (map (λ (p : Piece). p.mask) pieces)
  pub tally : count ≡ sum (map (λ (p : Piece). p.count) pieces)
