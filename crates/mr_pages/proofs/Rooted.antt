-- The root digest of a map whose nodes are on their pages.
use Rattle.std.proofs.Common.{◌≡◌, ℕ, List, length, sym, ap, ◌∙◌}
use Rattle.std.specs.Prelude.{Option, Some, None, option_map}
use Rattle.mr_record.specs.declared.version.Version.{Version}
use Rattle.mr_tree.specs.Digest.{by, entry, root_preimage, root}
use Rattle.mr_tree.specs.Nodes.{root_entry}
use Rattle.mr_tree.specs.Tree.{records}
use Rattle.mr_tree.specs.View.{child_entry}
use Rattle.mr_tree.specs.WellFormed.{WellFormed}
use Rattle.mr_tree.specs.declared.child.Child.{Child}
use Rattle.mr_tree.specs.declared.entry.Entry.{Entry}
use Rattle.mr_tree.specs.declared.tree.Tree.{Tree}
use Rattle.mr_tree.proofs.Equations.{records-Empty}
use Rattle.mr_pages.specs.Page.{Link, Form}
use Rattle.mr_pages.specs.private.Putting.{IsImage}
use Rattle.mr_pages.specs.Saved.{numbered_whole}
use Rattle.mr_pages.specs.Stands.{Placed, whole_tree, link_of}
use Rattle.mr_pages.specs.Walking.{child_link}
use Rattle.mr_pages.proofs.Numbered.{whole_numbered}

-- where there are no records it does not matter what is said of the root node
none_said : (v : Version) (batch count many : ℕ) (said other : Entry) → count ≡ 0 → many ≡ 0 →
    root_preimage v batch count said ≡ root_preimage v batch many other
none_said v batch count many said other none none_too =
    ap (λ n. root_preimage v batch n said) none ∙ ap (λ n. root_preimage v batch n other) (sym none_too)

said_so : (v : Version) (hash : List ℕ → List ℕ) (t : Tree) (batch count : ℕ) (top : Option Child)
    (po : Option Placed) → whole_tree po ≡ t → option_map child_link top ≡ option_map (link_of (by v hash)) po →
    count ≡ length (records t) →
    root_preimage v batch count (root_entry top) ≡ root_preimage v batch (length (records t)) (entry (by v hash) t)
said_so v hash t batch count None None trees same many =
    let none : length (records t) ≡ 0 = ap (λ u. length (records u)) (sym trees) ∙ ap length records-Empty in
    none_said v batch count (length (records t)) (root_entry None) (entry (by v hash) t) (many ∙ none) none
said_so v hash t batch count None (Some P) trees same many = cc
said_so v hash t batch count (Some child) None trees same many = cc
said_so v hash t batch count (Some child) (Some P) trees same many =
    let link : child_link child ≡ link_of (by v hash) P = cc in
    let said : child_entry child ≡ entry (by v hash) t =
    ap (λ (l : Link). l.entry) link ∙ ap (entry (by v hash)) trees in
    λ i. root_preimage v batch (many i) (said i)

pub root_said : (form : Form) (hash : List ℕ → List ℕ) (t : Tree) (batch count : ℕ) (pages digest : List ℕ)
    (top : Option Child) → WellFormed t → IsImage form hash t pages top → count ≡ length (records t) →
    digest ≡ hash (root_preimage form.version batch count (root_entry top)) →
    digest ≡ root (by form.version hash) t batch
root_said form hash t batch count pages digest top well image many is =
    is ∙ ap hash (said_so form.version hash t batch count top (numbered_whole t)
    (whole_numbered t well.one_level).trees image.link many)
