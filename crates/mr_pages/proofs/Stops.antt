-- What opening a file comes to, rule by rule.
use Rattle.std.proofs.Common.{◌≡◌, ◌≢◌, ℕ, List, [], ◌∷◌, ◌++◌, length, refl, sym, ap, subst, ◌∙◌}
use Rattle.mr_tree.specs.Digest.{by}
use Rattle.std.specs.Prelude.{◌==◌, not, Option, Some, None, Ok}
use Rattle.std.proofs.lemmas.Bool.{eq-eqb, ne_eqb, not_from_true}
use Rattle.std.proofs.lemmas.List.{length-map}
use Rattle.mr_record.specs.declared.record.Record.{Record}
use Rattle.mr_tree.specs.declared.tree.Tree.{Tree}
use Rattle.mr_pages.specs.declared.rule.MapRule.TheVariants as rule
use Rattle.mr_pages.specs.declared.rule.MapFault.{MapFault}
use Rattle.mr_pages.specs.declared.visited.Visited.{Visited}
use Rattle.mr_pages.specs.Walking.{Saw, LosesPage}
use Rattle.mr_pages.specs.private.Walks.{OpensFile}
use Rattle.mr_pages.specs.Page.{Head}
use Rattle.mr_pages.specs.File.{File}
use Rattle.mr_pages.specs.Stands.{whole_tree}
use Rattle.mr_pages.specs.private.Spelled.{placed_at}
use Rattle.mr_pages.specs.Faults.{fault_if, Visit, walk, reached, all_records, numbers_of, walk_faults, chain, chain_faults, lost_faults, free_faults, head_faults, file_faults, first_of, mapfault}
use Rattle.mr_pages.proofs.Lists.{nil_both, no_fault}
use Rattle.mr_pages.proofs.Walks.{first_front, first_behind}

module _ (hash : List ℕ → List ℕ) (file : File) (h : Head) (sealed : file.head ≡ Ok h) where
  abbrev met : List Visit
  met = walk file.node h.root

  abbrev count_fault : List MapFault
  count_fault = fault_if (not (h.count == length (all_records met))) 0 (rule.Count h.count (length (all_records met)))

  abbrev followed : List ℕ
  followed = chain file.free file.pages h.free

  by_head : (f : MapFault) → first_of (head_faults hash file h met) ≡ Some f → mapfault hash file ≡ Some f
  by_head f e = ap (λ o. first_of (file_faults hash file o)) sealed ∙ e

  pub walk_stops : (f : MapFault) → first_of (walk_faults (by file.version hash) file.pages [] met) ≡ Some f →
      mapfault hash file ≡ Some f
  walk_stops f e = by_head f (first_front (walk_faults (by file.version hash) file.pages [] met)
      (count_fault ++ free_faults file (reached met) followed) f e)

  pub count_stops : (found : ℕ) → walk_faults (by file.version hash) file.pages [] met ≡ [] →
      found ≡ length (numbers_of (all_records met)) → h.count ≢ found →
      mapfault hash file ≡ Some (record { page = 0; rule = rule.Count h.count found })
  count_stops found none is apart =
      let same : found ≡ length (all_records met) = is ∙ length-map (all_records met) (λ (r : Record). r.number) in
      by_head _
      (first_behind (walk_faults (by file.version hash) file.pages [] met)
      (count_fault ++ free_faults file (reached met) followed) _ none
      (first_front count_fault (free_faults file (reached met) followed) _
      (ap (λ b. first_of (fault_if (not b) 0 (rule.Count h.count (length (all_records met)))))
      (ne_eqb h.count (length (all_records met)) (λ e. apart (e ∙ sym same)))
      ∙ ap (λ n. Some (record { page = 0; rule = rule.Count h.count n })) (sym same))))

  no_count : (found : ℕ) → found ≡ length (numbers_of (all_records met)) → h.count ≡ found → count_fault ≡ []
  no_count found is same =
      no_fault (not (h.count == length (all_records met))) 0 (rule.Count h.count (length (all_records met)))
      (not_from_true _ (eq-eqb h.count (length (all_records met))
      (same ∙ is ∙ length-map (all_records met) (λ (r : Record). r.number))))

  pub chain_stops : (f : MapFault) (found : ℕ) → walk_faults (by file.version hash) file.pages [] met ≡ [] →
      found ≡ length (numbers_of (all_records met)) → h.count ≡ found →
      first_of (chain_faults file.free file.pages (reached met) followed) ≡ Some f → mapfault hash file ≡ Some f
  chain_stops f found none is same e =
      by_head f
      (first_behind (walk_faults (by file.version hash) file.pages [] met)
      (count_fault ++ free_faults file (reached met) followed) f none
      (first_behind count_fault (free_faults file (reached met) followed) f (no_count found is same)
      (first_front (chain_faults file.free file.pages (reached met) followed)
      (lost_faults file.pages (reached met ++ followed)) f e)))

  pub lost_stops : (f : MapFault) (found : ℕ) → walk_faults (by file.version hash) file.pages [] met ≡ [] →
      found ≡ length (numbers_of (all_records met)) → h.count ≡ found →
      chain_faults file.free file.pages (reached met) followed ≡ [] →
      first_of (lost_faults file.pages (reached met ++ followed)) ≡ Some f → mapfault hash file ≡ Some f
  lost_stops f found none is same chained e =
      by_head f
      (first_behind (walk_faults (by file.version hash) file.pages [] met)
      (count_fault ++ free_faults file (reached met) followed) f none
      (first_behind count_fault (free_faults file (reached met) followed) f (no_count found is same)
      (first_behind (chain_faults file.free file.pages (reached met) followed)
      (lost_faults file.pages (reached met ++ followed)) f chained e)))

  none_first : (fs : List MapFault) → first_of fs ≡ None → fs ≡ []
  none_first [] e = refl
  none_first (f ∷ fs) e = cc

  pub opens : (found : ℕ) (t : Tree) → walk_faults (by file.version hash) file.pages [] met ≡ [] →
      found ≡ length (numbers_of (all_records met)) → h.count ≡ found →
      chain_faults file.free file.pages (reached met) followed ≡ [] →
      first_of (lost_faults file.pages (reached met ++ followed)) ≡ None → t ≡ whole_tree (placed_at file.node h.root) →
      OpensFile hash file (Ok (record { tree = t; version = file.version; batch = h.batch }))
  opens found t none is same chained lost made =
      let all : head_faults hash file h met ≡ [] =
      nil_both (walk_faults (by file.version hash) file.pages [] met)
      (count_fault ++ free_faults file (reached met) followed) none
      (nil_both count_fault (free_faults file (reached met) followed) (no_count found is same)
      (nil_both (chain_faults file.free file.pages (reached met) followed)
      (lost_faults file.pages (reached met ++ followed)) chained (none_first _ lost))) in
      (ap (λ o. first_of (file_faults hash file o)) sealed ∙ ap first_of all, refl, h, sealed, made, refl)

pub lost_of : (pages n : ℕ) (s : Visited) (r : Option MapFault) → n ≡ pages →
    ((ps ns : List ℕ) → Saw n s ps ns → LosesPage n ps r) → (ps ns : List ℕ) → Saw pages s ps ns → LosesPage pages ps r
lost_of pages n s r same clause ps ns saw = subst (λ m. LosesPage m ps r) same
    (clause ps ns (subst (λ m. Saw m s ps ns) (sym same) saw))
