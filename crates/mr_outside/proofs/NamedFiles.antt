-- A map from names to contents, seen as files.
use Rattle.std.proofs.Common.{◌≡◌, ℕ, Bool, true, false, cond, List, [], ◌∷◌, map, Option, Some, None, MatchOption, String, string_bytes, refl, sym, ap, subst, ◌∙◌}
use Rattle.std.specs.Prelude.{⊤}
use Rattle.std.specs.Ordering.{nat_cmp, eq_by_cmp}
use Rattle.std.specs.Option.{option_map}
use Rattle.std.specs.Cmp.{eq_by_cmp_equiv}
use Rattle.std.specs.Cmp.Lexicographic.{slice_cmp, nat_list_cmp_total}
use Rattle.std.specs.FinMap.{find, get-from_entries, get-insert, same_map, slice_cmp-IsAntisymmetric, nat_cmp-IsAntisymmetric}
use Rattle.std.specs.BTreeMap as tree
use Rattle.std.specs.BTreeMap.{BTreeMap, is_at}
use Rattle.std.specs.Map.{lookup}
use Rattle.std.specs.Str.{bytes_eq}
use Rattle.std.specs.String.{string_cmp}
use Rattle.std.specs.declared.alloc.Global.{Global}
use Rattle.std.proofs.lemmas.Map.Text.{is_eq-slice_cmp, text_cmp, btree_map_updates_text}
use Rattle.mr_outside.specs.Bytes.{AreBytes}
use Rattle.mr_outside.specs.Files.{file, with_file, with_change}
use Rattle.mr_outside.specs.Told.{HoldBytes}
use Rattle.mr_outside.specs.Memory.{files_of}
use Rattle.mr_outside.specs.declared.held.Held.{Held}
use Rattle.mr_outside.proofs.Changes.{with_change-found, with_file-same}

chosen : (b : Bool) (x : Held) (found : Option (List ℕ)) (rest : Option Held)
    → found ≡ option_map (λ v. v.cells.items) rest
    → cond b (Some x.cells.items) found ≡ option_map (λ v. v.cells.items) (cond b (Some x) rest)
chosen true x found rest e = refl
chosen false x found rest e = e

find_file : (es : List (String Global × Held)) (name : List ℕ)
    → find (slice_cmp nat_cmp) name (map (λ e. (string_bytes e.0, e.1.cells.items)) es)
    ≡ option_map (λ v. v.cells.items) (lookup (is_at (text_cmp name)) es)
find_file [] name = refl
find_file (e ∷ es) name = chosen (eq_by_cmp (slice_cmp nat_cmp) name (string_bytes e.0)) e.1 _ _ (find_file es name)

-- a file is what the map has at its name
pub file-files_of : (m : BTreeMap (String Global) Held) (name : List ℕ)
    → file (files_of m) name ≡ option_map (λ v. v.cells.items) (tree.get_by_text m name)
file-files_of m name = get-from_entries nat_list_cmp_total _ name ∙ find_file m.entries name

eq_of_bytes : (xs ys : List ℕ) → eq_by_cmp (slice_cmp nat_cmp) xs ys ≡ bytes_eq ys xs
eq_of_bytes xs ys = (eq_by_cmp_equiv nat_list_cmp_total).symm xs ys ∙ is_eq-slice_cmp ys xs

-- what stands under a name is set, and the others are as before
pub files_of-updates : (m n : BTreeMap (String Global) Held) (name : List ℕ) (bytes : Held)
    → tree.UpdatesBy string_cmp (λ k. slice_cmp nat_cmp name (string_bytes k)) m n (Some bytes)
    → files_of n ≡ with_file name bytes.cells.items (files_of m)
files_of-updates m n name bytes updates =
    same_map nat_list_cmp_total (slice_cmp-IsAntisymmetric nat_cmp-IsAntisymmetric) _ _
    (λ q. file-files_of n q
    ∙ ap (option_map (λ v. v.cells.items)) (btree_map_updates_text name m n (Some bytes) updates q)
    ∙ sym (chosen (bytes_eq name q) bytes _ _ (file-files_of m q))
    ∙ ap (λ b. cond b (Some bytes.cells.items) (file (files_of m) q)) (sym (eq_of_bytes q name))
    ∙ sym (get-insert nat_list_cmp_total (files_of m) name bytes.cells.items q))

-- the file of a name that the map has, or lacks
pub file-found : (m : BTreeMap (String Global) Held) (name : List ℕ) (held : Held)
    → Some held ≡ tree.get_by_text m name → file (files_of m) name ≡ Some held.cells.items
file-found m name held found = file-files_of m name ∙ ap (option_map (λ v. v.cells.items)) (sym found)

pub file-absent : (m : BTreeMap (String Global) Held) (name : List ℕ)
    → None ≡ tree.get_by_text m name → file (files_of m) name ≡ None
file-absent m name absent = file-files_of m name ∙ ap (option_map (λ v. v.cells.items)) (sym absent)

-- a file was changed in its place
pub files_of-changed : (m n : BTreeMap (String Global) Held) (name : List ℕ) (held new : Held)
    (change : List ℕ → List ℕ) → Some held ≡ tree.get_by_text m name
    → tree.UpdatesBy string_cmp (λ k. slice_cmp nat_cmp name (string_bytes k)) m n (Some new)
    → new.cells.items ≡ change held.cells.items → files_of n ≡ with_change name change (files_of m)
files_of-changed m n name held new change found updates is =
    files_of-updates m n name new updates
    ∙ ap (λ bytes. with_file name bytes (files_of m)) is
    ∙ sym (with_change-found name change (files_of m) held.cells.items (file-found m name held found))

-- and was as before in the end
pub files_of-kept : (m n : BTreeMap (String Global) Held) (name : List ℕ) (held new : Held)
    → Some held ≡ tree.get_by_text m name
    → tree.UpdatesBy string_cmp (λ k. slice_cmp nat_cmp name (string_bytes k)) m n (Some new)
    → new.cells.items ≡ held.cells.items → files_of n ≡ files_of m
files_of-kept m n name held new found updates is =
    files_of-updates m n name new updates
    ∙ ap (λ bytes. with_file name bytes (files_of m)) is
    ∙ with_file-same name held.cells.items (files_of m) (file-found m name held found)

held_bytes : (found : Option Held) → MatchOption (option_map (λ v. v.cells.items) found) ⊤ AreBytes
held_bytes None = tt
held_bytes (Some held) = held.are

-- each file is of bytes
pub files_of-bytes : (m : BTreeMap (String Global) Held) → HoldBytes (Some (files_of m))
files_of-bytes m name =
    subst (λ found. MatchOption found ⊤ AreBytes) (sym (file-files_of m name)) (held_bytes (tree.get_by_text m name))
