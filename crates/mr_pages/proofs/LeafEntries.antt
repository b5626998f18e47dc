-- The entries of a tree's leaves that are known, and those that are left behind some children.
use Rattle.std.proofs.Common.{◌≡◌, ℕ, ◌+◌, ◌<◌, List, [], ◌∷◌, ◌++◌, length, take, drop, get_or, sym, ap, ◌∙◌, append_assoc, length-append, append-nil, inl, inr}
use Rattle.std.specs.List.{flat_map}
use Rattle.std.proofs.Math.Seq.{drop-nil, drop-append_seam, take-length}
use Rattle.std.proofs.lemmas.List.{drop-drop, drop_more, take_more, take-append-drop}
use Rattle.std.proofs.lemmas.List.Concat.{flat_map-append}
use Rattle.mr_record.specs.declared.record.Record.{Record}
use Rattle.mr_tree.specs.Digest.{Scheme, entry_step}
use Rattle.mr_tree.specs.Leaves.{leaf_entries}
use Rattle.mr_tree.specs.declared.entry.Entry.{Entry}
use Rattle.mr_tree.specs.declared.tree.Tree.{Tree}
use Rattle.mr_tree.specs.declared.tree.Tree.TheVariants as tree
use Rattle.mr_tree.specs.declared.tree.Tree.TheOpen as node
use Rattle.mr_tree.proofs.Leaves.{leaf_entries-Leaf, leaf_entries-Inner}
use Rattle.mr_pages.specs.Leaves.{KnowsFirst}

-- all are known, or none
pub known_whole : (entries known : List Entry) → known ≡ entries → KnowsFirst entries known
known_whole entries known is = inr ([], is ∙ sym (append-nil entries))

-- what is left behind the first children of a node
abbrev pub LeftBehind : Scheme → List Tree → ℕ → (known now : List Entry) → Type 0
LeftBehind s ts i known now = now ≡ drop (length (flat_map (leaf_entries s) (take i ts))) known

pub left_whole : (s : Scheme) (t : Tree) (ts : List Tree) (i : ℕ) (known now : List Entry) → t ≡ tree.Inner ts →
    i ≡ length ts → LeftBehind s ts i known now → now ≡ drop (length (leaf_entries s t)) known
left_whole s t ts i known now is end left =
    left
    ∙ ap (λ es. drop (length es) known)
    (ap (λ n. flat_map (leaf_entries s) (take n ts)) end ∙ ap (flat_map (leaf_entries s)) (take-length ts)
    ∙ sym (leaf_entries-Inner s ts) ∙ ap (leaf_entries s) (sym is))

pub left_leaf : (s : Scheme) (t : Tree) (rs : List Record) (known now : List Entry) → t ≡ tree.Leaf rs →
    now ≡ drop 1 known → now ≡ drop (length (leaf_entries s t)) known
left_leaf s t rs known now is left =
    left ∙ ap (λ es. drop (length es) known) (sym (leaf_entries-Leaf s rs) ∙ ap (leaf_entries s) (sym is))

pub known_leaf : (s : Scheme) (t : Tree) (rs : List Record) (known : List Entry) → t ≡ tree.Leaf rs →
    KnowsFirst (leaf_entries s t) known → KnowsFirst (entry_step s (node.Leaf rs) ∷ []) known
known_leaf s t rs known is (inl none) = inl none
known_leaf s t rs known is (inr h) =
    inr (h.0, h.1 ∙ ap (λ es. es ++ h.0) (ap (leaf_entries s) is ∙ leaf_entries-Leaf s rs))

-- the entries of one more child
one_further : (s : Scheme) (ts : List Tree) (i : ℕ) (one : Tree) → i < length ts → one ≡ get_or ts i one →
    flat_map (leaf_entries s) (take (i + 1) ts) ≡ flat_map (leaf_entries s) (take i ts) ++ leaf_entries s one
one_further s ts i one within at =
    ap (flat_map (leaf_entries s)) (take_more ts i one within ∙ ap (λ x. take i ts ++ x ∷ []) (sym at))
    ∙ flat_map-append (leaf_entries s) (take i ts) (one ∷ [])
    ∙ ap (λ es. flat_map (leaf_entries s) (take i ts) ++ es) (append-nil (leaf_entries s one))

pub left_more : (s : Scheme) (ts : List Tree) (i : ℕ) (one : Tree) (known now new : List Entry) → i < length ts →
    one ≡ get_or ts i one → LeftBehind s ts i known now → new ≡ drop (length (leaf_entries s one)) now →
    LeftBehind s ts (i + 1) known new
left_more s ts i one known now new within at left next =
    let front = flat_map (leaf_entries s) (take i ts) in
    next ∙ ap (drop (length (leaf_entries s one))) left
    ∙ drop-drop (length (leaf_entries s one)) (length front) known
    ∙ ap (λ n. drop n known)
    (sym (length-append front (leaf_entries s one)) ∙ ap length (sym (one_further s ts i one within at)))

-- behind the first children come the entries of the next
rest_of : (s : Scheme) (ts : List Tree) (i : ℕ) (one : Tree) → i < length ts → one ≡ get_or ts i one →
    flat_map (leaf_entries s) ts ≡ flat_map (leaf_entries s) (take i ts)
    ++ (leaf_entries s one ++ flat_map (leaf_entries s) (drop (i + 1) ts))
rest_of s ts i one within at =
    ap (flat_map (leaf_entries s)) (sym (take-append-drop i ts))
    ∙ flat_map-append (leaf_entries s) (take i ts) (drop i ts)
    ∙ ap (λ us. flat_map (leaf_entries s) (take i ts) ++ flat_map (leaf_entries s) us)
    (drop_more ts i one within ∙ ap (λ x. x ∷ drop (i + 1) ts) (sym at))

pub known_child : (s : Scheme) (t : Tree) (ts : List Tree) (i : ℕ) (one : Tree) (known now : List Entry) →
    t ≡ tree.Inner ts → KnowsFirst (leaf_entries s t) known → i < length ts → one ≡ get_or ts i one →
    LeftBehind s ts i known now → KnowsFirst (leaf_entries s one) now
known_child s t ts i one known now is (inl none) within at left =
    let n = length (flat_map (leaf_entries s) (take i ts)) in inl (left ∙ ap (drop n) none ∙ drop-nil n)
known_child s t ts i one known now is (inr h) within at left =
    let front = flat_map (leaf_entries s) (take i ts) in
    let here = leaf_entries s one in
    let back = flat_map (leaf_entries s) (drop (i + 1) ts) in
    let whole : known ≡ front ++ ((here ++ back) ++ h.0) =
    h.1
    ∙ ap (λ es. es ++ h.0) (ap (leaf_entries s) is ∙ leaf_entries-Inner s ts ∙ rest_of s ts i one within at)
    ∙ append_assoc front (here ++ back) h.0 in
    inr (
      back ++ h.0,
      left ∙ ap (drop (length front)) whole ∙ drop-append_seam front ((here ++ back) ++ h.0)
          ∙ append_assoc here back h.0,
    )

-- the first of them, where there is one
pub first_known : (said first : Entry) (known rest : List Entry) → KnowsFirst (said ∷ []) known →
    known ≡ first ∷ rest → first ≡ said
first_known said first known rest (inl none) is = let no : first ∷ rest ≡ [] = sym is ∙ none in cc
first_known said first known rest (inr h) is = let both : first ∷ rest ≡ said ∷ h.0 = sym is ∙ h.1 in cc
