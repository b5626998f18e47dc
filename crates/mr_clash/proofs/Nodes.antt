-- What is known of a node by its parts, and the strings of nodes.
use Rattle.std.proofs.Common.{◌≡◌, ℕ, zero, suc, ◌+◌, ◌-◌, ◌≤◌, ◌<◌, List, [], ◌∷◌, ◌++◌, length, map, take, refl, sym, ap, subst, ◌∙◌, arith, length-append}
use Rattle.std.specs.Prelude.{true, false, Result, Ok, Err, IfOk}
use Rattle.std.specs.Global.{Vec}
use Rattle.std.specs.List.{flat_map}
use Rattle.mr_record.specs.declared.record.Record.{Record}
use Rattle.mr_record.specs.declared.version.Version.{Version}
use Rattle.mr_tree.specs.Tree.{first_level}
use Rattle.mr_tree.specs.Limits.{level_limit}
use Rattle.mr_tree.specs.Digest.{Scheme, entry_bytes, entry_step, level_over, node_preimage, inner_tag}
use Rattle.mr_tree.specs.declared.entry.Entry.{Entry}
use Rattle.mr_tree.specs.View.{Node, child_entry, level_of, preimage_of}
use Rattle.mr_tree.specs.declared.child.Child.{Child}
use Rattle.mr_tree.specs.declared.tree.Tree.TheOpen as node
use Rattle.mr_proof.specs.Cut.{Cut, Cuts, Pruned, Leaf, Inner, number_of_cuts, entry, entries}
use Rattle.mr_proof.specs.declared.pruned_entry.PrunedEntry.{PrunedEntry}
use Rattle.mr_proof.specs.Spelling.{cut_bytes, FitsCut, FitCuts}
use Rattle.mr_proof.proofs.CutLevels.{first_at_level}
use Rattle.mr_clash.specs.private.Steps.{string_over, leaf_summary, inner_summary, entry_with, HaveSum, is_pruned, Passed}
use Rattle.mr_clash.proofs.Taking.{take_front}
use Rattle.mr_clash.proofs.Levels.{children_have_sum}

-- ---- entries

-- the level over the children of an inner node that was passed over
level_over_all : (scheme : Scheme) (w v : ℕ) (Ps : Cuts) (xs : List Entry) → v ≡ w + 1 → 1 ≤ number_of_cuts Ps
    → FitCuts scheme.version w Ps → xs ≡ entries scheme w Ps → v ≡ level_over xs
level_over_all scheme w v Ps xs above some fits say =
    above ∙ sym (ap level_over say ∙ first_at_level scheme w Ps some fits)

-- the string of an inner node, by what is said of its children
pub inner_string_shown : (scheme : Scheme) (w v : ℕ) (Ps : Cuts) (xs : List Entry) → v ≡ w + 1
    → 1 ≤ number_of_cuts Ps → FitCuts scheme.version w Ps → xs ≡ entries scheme w Ps
    → string_over scheme.version v xs
    ≡ node_preimage scheme.version (node.Inner (entries scheme (v - 1) Ps))
inner_string_shown scheme w v Ps xs above some fits say =
    let below : entries scheme (v - 1) Ps ≡ entries scheme w Ps =
    ap (λ k. entries scheme k Ps) (omega arith) in
    (λ i. inner_tag ∷ level_over_all scheme w v Ps xs above some fits say i ∷ length xs
    ∷ flat_map (entry_bytes scheme.version) xs)
    ∙ ap (λ es. node_preimage scheme.version (node.Inner es)) (say ∙ sym below)

-- what is said of it
pub inner_passed : (scheme : Scheme) (w v : ℕ) (Ps : Cuts) (rest : List ℕ) (xs ys : List Entry) (x : Entry)
    (after : List ℕ) → v ≡ w + 1 → v ≤ level_limit → FitsCut scheme.version v (Inner Ps) → FitCuts scheme.version w Ps
    → xs ≡ entries scheme w Ps → ys ≡ xs
    → (HaveSum ys → x ≡ entry_with v (inner_summary ys) (scheme.of (string_over scheme.version v ys)))
    → after ≡ rest → Passed scheme v (Inner Ps) rest x after
inner_passed scheme w v Ps rest xs ys x after above low fits below say again says behind =
    let same : entries scheme (v - 1) Ps ≡ entries scheme w Ps = ap (λ k. entries scheme k Ps) (omega arith) in
    let own : ys ≡ entries scheme w Ps = again ∙ say in
    let few : HaveSum ys = subst HaveSum (sym own) (children_have_sum scheme w v Ps above low fits below) in
    let level : v ≡ level_over ys = level_over_all scheme w v Ps ys above fits.0.some below own in
    let whole : entry_with v (inner_summary ys) (scheme.of (string_over scheme.version v ys))
    ≡ entry_step scheme (node.Inner ys) = λ i. entry_with (level i) (inner_summary ys)
    (scheme.of (string_over scheme.version (level i) ys)) in
    record {
      says = says few ∙ whole ∙ ap (λ es. entry_step scheme (node.Inner es)) (own ∙ sym same);
      behind = behind;
    }

-- ---- strings of nodes

pub ok_as : {E : Type 0} (r : Result (Vec ℕ) E) (a b : List ℕ) → a ≡ b → IfOk r (λ v. v.items ≡ a)
    → IfOk r (λ v. v.items ≡ b)
ok_as (Ok v) a b e h = h ∙ e
ok_as (Err f) a b e h = tt

levels_of : (cs : List Child)
    → map (λ (e : Entry). e.level) (map child_entry cs) ≡ map (λ (c : Child). c.level) cs
levels_of [] = refl
levels_of (c ∷ cs) = ap (λ ns. c.level ∷ ns) (levels_of cs)

pub above_zero : (n m : ℕ) → m ≡ n → (m ≡ 0 → ⊥) → 0 < n
above_zero zero m e above = absurd (above e)
above_zero (suc n) m e above = omega arith

-- that of a node of the map, by what it holds of its children
pub owned_inner : (u : Version) (n : Node) (cs : List Child) (v : ℕ) (xs ys : List Entry) → n ≡ node.Inner cs
    → v ≡ level_of n
    → xs ≡ map child_entry cs → ys ≡ xs → string_over u v ys ≡ preimage_of u n
owned_inner u n cs v xs ys is level same again =
    let all : ys ≡ map child_entry cs = again ∙ same in
    let first : v ≡ level_over (map child_entry cs) =
    level ∙ ap level_of is ∙ ap (λ ns. first_level ns + 1) (sym (levels_of cs)) in
    (λ i. inner_tag ∷ first i ∷ length (all i) ∷ flat_map (entry_bytes u) (all i))
    ∙ ap (preimage_of u) (sym is)

-- the front of some bytes, by what is left behind it
pub front_is : (x rest whole left : List ℕ) (size : ℕ) → whole ≡ x ++ rest → left ≡ rest
    → size ≡ length whole - length left → take size whole ≡ x
front_is x rest whole left size is behind long =
    let all = ap length is in
    let tail = ap length behind in
    let size_is : length x ≡ size = omega (arith, all, tail, long, length-append x rest) in
    ap (take size) is ∙ take_front size x rest size_is

-- ---- an item, by its kind

-- what is said of a leaf
pub leaf_said : (scheme : Scheme) (rs : List Record) (x : Entry) (string : List ℕ)
    → x ≡ entry_with 0 (leaf_summary scheme.version rs) (scheme.of string) → string ≡ cut_bytes scheme.version (Leaf rs)
    → x ≡ entry scheme 0 (Leaf rs)
leaf_said scheme rs x string says is =
    says ∙ ap (λ y. entry_with 0 (leaf_summary scheme.version rs) (scheme.of y)) is

pub item_pruned : (scheme : Scheme) (v : ℕ) (P : Cut) (rest before after : List ℕ) (x : Entry)
    → is_pruned P ≡ true → before ≡ cut_bytes scheme.version P ++ rest → FitsCut scheme.version v P
    → ((part : PrunedEntry) → FitsCut scheme.version v (Pruned part)
    → before ≡ cut_bytes scheme.version (Pruned part) ++ rest
    → Passed scheme v (Pruned part) rest x after)
    → Passed scheme v P rest x after
item_pruned scheme v (Pruned part) rest before after x is e fits passed = passed part fits e
item_pruned scheme v (Leaf rs) rest before after x is e fits passed = absurd cc
item_pruned scheme v (Inner Ps) rest before after x is e fits passed = absurd cc

pub item_leaf : (scheme : Scheme) (v : ℕ) (P : Cut) (rest before after : List ℕ) (x : Entry) → v ≡ 0
    → is_pruned P ≡ false → before ≡ cut_bytes scheme.version P ++ rest → FitsCut scheme.version v P
    → ((rs : List Record) → FitsCut scheme.version 0 (Leaf rs) → before ≡ cut_bytes scheme.version (Leaf rs) ++ rest
    → Passed scheme 0 (Leaf rs) rest x after)
    → Passed scheme v P rest x after
item_leaf scheme v (Pruned part) rest before after x low is e fits passed = absurd cc
item_leaf scheme v (Leaf rs) rest before after x low is e fits passed =
    subst (λ v. Passed scheme v (Leaf rs) rest x after) (sym low)
    (passed rs (record { at_leaf = refl; some = fits.some; few = fits.few; each = fits.each; layers = fits.layers }) e)
item_leaf scheme v (Inner Ps) rest before after x low is e fits passed =
    let above = fits.0.above in absurd (omega (arith, above, low))

pub item_inner : {E : Type 0} (scheme : Scheme) (v : ℕ) (P : Cut) (rest before after : List ℕ)
    (r : Result Entry E) → (v ≡ 0 → ⊥) → is_pruned P ≡ false → before ≡ cut_bytes scheme.version P ++ rest
    → FitsCut scheme.version v P
    → ((Ps : Cuts) → FitsCut scheme.version v (Inner Ps) → before ≡ cut_bytes scheme.version (Inner Ps) ++ rest
    → IfOk r (λ x. Passed scheme v (Inner Ps) rest x after))
    → IfOk r (λ x. Passed scheme v P rest x after)
item_inner scheme v (Pruned part) rest before after r above is e fits passed = absurd cc
item_inner scheme v (Leaf rs) rest before after r above is e fits passed = absurd (above fits.at_leaf)
item_inner scheme v (Inner Ps) rest before after r above is e fits passed = passed Ps fits e
