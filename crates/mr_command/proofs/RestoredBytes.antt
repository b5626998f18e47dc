-- Recovery makes bytes of bytes.
use Rattle.std.proofs.Common.{ℕ, zero, suc, ◌+◌, ◌*◌, ◌<◌, ◌^◌, List, [], ◌∷◌, ◌++◌, length, take, drop}
use Rattle.std.specs.List.{AllByRecursion}
use Rattle.std.proofs.lemmas.Bool.{cond_both}
use Rattle.std.proofs.lemmas.List.Elements.{All-append, All-drop, All-tail, All-take}
use Rattle.mr_outside.specs.Files.{replaced}
use Rattle.mr_outside.specs.Bytes.{AreBytes}
use Rattle.mr_journal.specs.Format.{Page, body_of, carried, entries, is_open, number_of, page_size, put_pages, restored}
use Rattle.mr_journal.specs.Images.{Image}

abbrev IsByte : ℕ → Type 0
IsByte b = b < 2 ^ 8

abbrev HasBytes : Page → Type 0
HasBytes p = AreBytes p.bytes

put_bytes : (size : ℕ) (pages : List Page) (map : List ℕ) → AllByRecursion HasBytes pages → AreBytes map
    → AreBytes (put_pages size pages map)
put_bytes size [] map each are = are
put_bytes size (p ∷ pages) map each are =
    let at : ℕ = p.number * size in
    put_bytes size pages (replaced at p.bytes map) each.1
    (All-append IsByte (take at map ++ p.bytes) _
    (All-append IsByte (take at map) p.bytes (All-take IsByte at map are) each.0)
    (All-drop IsByte (at + length p.bytes) map are))

entry_bytes : (size n : ℕ) (bytes : List ℕ) → AreBytes bytes → AllByRecursion HasBytes (entries size n bytes)
entry_bytes size zero bytes are = tt
entry_bytes size (suc n) bytes are = (
  All-take IsByte size (drop 4 bytes) (All-drop IsByte 4 bytes are),
  entry_bytes size n (drop (4 + size) bytes) (All-drop IsByte (4 + size) bytes are),
)

carried_bytes : (body map : List ℕ) → AreBytes body → AreBytes map → AreBytes (carried body map)
unfolding carried
carried_bytes [] map all are = are
carried_bytes (v ∷ rest) map all are =
    put_bytes (page_size v) (entries (page_size v) (number_of rest) (drop 4 rest)) map
    (entry_bytes (page_size v) (number_of rest) (drop 4 rest) (All-drop IsByte 4 rest (All-tail IsByte v rest all))) are

body_bytes : (journal : List ℕ) → AreBytes journal → AreBytes (body_of journal)
body_bytes [] all = all
body_bytes (gate ∷ body) all = All-tail IsByte gate body all

pub restored_bytes : (k : Image) → AreBytes k.map → AreBytes k.journal → AreBytes (restored k)
unfolding restored
restored_bytes k map journal =
    cond_both (is_open k) (carried (body_of k.journal) k.map) k.map AreBytes
    (λ t. carried_bytes (body_of k.journal) k.map (body_bytes k.journal journal) map) (λ f. map)
