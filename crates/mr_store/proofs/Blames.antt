-- What a walk is stopped by: what a fetch refused, or the page of a node that it came to and refused.
use Rattle.std.proofs.Common.{◌≡◌, ◌≢◌, ℕ, ◌<◌, Bool, true, false, List, [], ◌∷◌, ◌++◌, length, map, take, get_or, inl, inr, refl, sym, ap, subst, ◌∙◌}
use Rattle.std.specs.Prelude.{◌⊎◌, Option, Some, Result, Err}
use Rattle.std.specs.List.{flat_map, AllByRecursion}
use Rattle.std.proofs.lemmas.List.{length-map}
use Rattle.mr_record.specs.declared.record.Record.{Record}
use Rattle.mr_record.specs.declared.version.Version.{Version}
use Rattle.mr_tree.specs.Tree.{records}
use Rattle.mr_tree.specs.Digest.{by, entry}
use Rattle.mr_tree.specs.View.{Node, IsView, child_entry}
use Rattle.mr_tree.specs.Nodes.{MapModel, ShowsNode, TellsRefusal}
use Rattle.mr_tree.specs.declared.child.Child.{Child}
use Rattle.mr_tree.specs.declared.nodes.NodesErr.{NodesErr}
use Rattle.mr_tree.specs.declared.nodes.NodesErr.TheVariants as errors
use Rattle.mr_tree.specs.declared.tree.Tree.{Tree}
use Rattle.mr_tree.specs.declared.tree.Tree.TheOpen.{Leaf, Inner}
use Rattle.mr_pages.specs.Faults.{numbers_of, repeats}
use Rattle.mr_pages.specs.Walking.{Saw}
use Rattle.mr_pages.specs.private.Judging.{fits_entry}
use Rattle.mr_pages.specs.private.Numbers.{count_kept}
use Rattle.mr_pages.specs.declared.visited.Visited.{Visited}
use Rattle.mr_pages.proofs.Lists.{Fresh, fresh_repeats}
use Rattle.mr_store.specs.Blamed.{IsFine, IsBlamed, IsMiscounted, StopsAs, StopsAt}
use Rattle.mr_store.specs.private.Walk.{IsUnfit, IsTwice, Walked}

-- a refusal is told of whatever would have been answered
pub told_on : {A B : Type 0} (before after : Option NodesErr) (e : NodesErr) →
    TellsRefusal {A = A} (λ x. x) before after (Err e) → TellsRefusal {A = B} (λ x. x) before after (Err e)
told_on {A} {B} before after e told = record {
  last = λ x now other. ap Err (same x (told.last x now other));
  none = tt;
}
  where
    same : (x : NodesErr) → ◌≡◌ {A = Result A NodesErr} (Err e) (Err x) → e ≡ x
    same x h = cc

-- what stands as the last refusal
pub refusal_stops : (P : ℕ → Type 0) (r : Option NodesErr) (e : NodesErr) → r ≡ Some e → StopsAs P r e
refusal_stops P r (errors.Page page) h = inl h
refusal_stops P r (errors.Changed page held found) h = h
refusal_stops P r (errors.Outside page) h = h
refusal_stops P r errors.Missing h = h
refusal_stops P r errors.Fault h = h
refusal_stops P r errors.NoMemory h = tt

-- a page that is blamed, whatever else was blamed
pub page_stops : (P : ℕ → Type 0) (r : Option NodesErr) (e : NodesErr) (page : ℕ) → e ≡ errors.Page page → P page →
    StopsAs P r e
page_stops P r e page is h = subst (StopsAs P r) (sym is) (inr h)

pub stops_as : (P Q : ℕ → Type 0) (r : Option NodesErr) (e : NodesErr) → ((page : ℕ) → P page → Q page) →
    StopsAs P r e → StopsAs Q r e
stops_as P Q r (errors.Page page) f h = elim h [ inl refused ↦ inl refused | inr blamed ↦ inr (f page blamed) ]
stops_as P Q r (errors.Changed page held found) f h = h
stops_as P Q r (errors.Outside page) f h = h
stops_as P Q r errors.Missing f h = h
stops_as P Q r errors.Fault f h = h
stops_as P Q r errors.NoMemory f h = tt

module _ (hash : List ℕ → List ℕ) (s : MapModel) (asked : Child → Type 0) where
  pub look_stops : (root : Bool) (ns : List ℕ) (c : Child) (node : Node) (r : Option NodesErr)
      (e : NodesErr) → asked c → IsUnfit hash s root c node e ⊎ (r ≡ Some e) →
      StopsAs (IsBlamed hash s asked root ns c) r e
  look_stops root ns c node r e last h = elim h [
    | inl own ↦ page_stops (IsBlamed hash s asked root ns c) r e c.id own.page (record {
      down = [];
      leads = record {
        page_is = refl;
        last = last;
        node = node;
        shows = own.shows;
        views = own.views;
        breaks = inl own.unfit;
      };
    })
    | inr refused ↦ refusal_stops (IsBlamed hash s asked root ns c) r e refused
  ]

  pub leaf_stops : (root : Bool) (pages : ℕ) (ns : List ℕ) (c : Child) (rs : List Record)
      (before : Visited) (r : Option NodesErr) (e : NodesErr) → asked c →
      ShowsNode hash s c (Leaf rs) → IsView (Leaf rs) → Saw pages before [] ns →
      IsTwice c.id before rs e → StopsAs (IsBlamed hash s asked root ns c) r e
  leaf_stops root pages ns c rs before r (errors.Page page) last shows views saw h = inr (record {
    down = [];
    leads = record {
      page_is = h.0;
      last = last;
      node = Leaf rs;
      shows = shows;
      views = views;
      breaks = inr (h.1 pages ns saw);
    };
  })
  leaf_stops root pages ns c rs before r (errors.Changed page held found) last shows views saw h = absurd h
  leaf_stops root pages ns c rs before r (errors.Outside page) last shows views saw h = absurd h
  leaf_stops root pages ns c rs before r errors.Missing last shows views saw h = absurd h
  leaf_stops root pages ns c rs before r errors.Fault last shows views saw h = absurd h
  leaf_stops root pages ns c rs before r errors.NoMemory last shows views saw h = tt

  -- what stops a walk from a child that a node names
  pub below_stops : (v : Version) (s' : MapModel) (root : Bool) (c d : Child)
      (children : List Child) (i : ℕ) (left : List Tree) (ns : List ℕ) (r : Option NodesErr) (e : NodesErr) →
      s.version ≡ v → s' ≡ s → ShowsNode hash s c (Inner children) → IsView (Inner children) →
      fits_entry v root c (Inner children) ≡ true →
      i < length children → d ≡ get_or children i d →
      map child_entry (take i children) ≡ map (entry (by v hash)) left →
      AllByRecursion (IsFine v false) left → Fresh ns (numbers_of (flat_map records left)) →
      StopsAs (IsBlamed hash s' asked false (ns ++ numbers_of (flat_map records left)) d) r e →
      StopsAs (IsBlamed hash s asked root ns c) r e
  below_stops v s' root c d children i left ns r e one same shows views fits within is known fine fresh h =
      let met = ns ++ numbers_of (flat_map records left) in
      stops_as (IsBlamed hash s' asked false met d) (IsBlamed hash s asked root ns c) r e (λ page blamed.
      let q = subst (λ y. IsBlamed hash y asked false met d page) same blamed in record {
        down = (d, left) ∷ q.down;
        leads = (
          record {
            children = children;
            place = i;
            shows = shows;
            views = views;
            fits = subst (λ w. fits_entry w root c (Inner children) ≡ true) (sym one) fits;
            within = within;
            is = is;
            known = subst (λ w. map child_entry (take i children) ≡ map (entry (by w hash)) left) (sym one) known;
            fine = subst (λ w. AllByRecursion (IsFine w false) left) (sym one) fine;
            fresh = fresh_repeats ns (numbers_of (flat_map records left)) fresh;
          },
          q.leads,
        );
      }) h

  -- a walk from the root
  pub walk_stops : (c : Child) (count : ℕ) (r : Option NodesErr) (e : NodesErr) →
      StopsAs (IsBlamed hash s asked true [] c) r e → StopsAt hash s (Some c) count asked r e
  walk_stops c count r e h = stops_as (IsBlamed hash s asked true [] c)
      (λ page. IsMiscounted hash s c count page ⊎ IsBlamed hash s asked true [] c page) r e
      (λ page blamed. inr blamed) h

  pub root_stops : (v : Version) (c : Child) (count met pages : ℕ) (before after : Visited)
      (f f' : ℕ) (made : Tree → Type 0) (r : Option NodesErr) (e : NodesErr) → s.version ≡ v → e ≡ errors.Page c.id →
      Saw pages before [] [] → Walked (by v hash) s true c before after f f' made →
      met ≡ count_kept after.numbers → met ≢ count → StopsAt hash s (Some c) count asked r e
  root_stops v c count met pages before after f f' made r e one is start walked counted other =
      let t = walked.under in
      let adds = walked.met pages [] start in
      let all : met ≡ length (records t) =
      counted ∙ adds.1.met.count ∙ length-map (records t) (λ (y : Record). y.number) in
      page_stops (λ page. IsMiscounted hash s c count page ⊎ IsBlamed hash s asked true [] c page) r e c.id is
      (inl (record {
        page_is = refl;
        tree = t;
        digest = subst (λ w. (entry (by w hash) t).digest ≡ c.digest) (sym one) walked.digest;
        fine = subst (λ w. IsFine w true t) (sym one) walked.fine;
        fresh = fresh_repeats [] (numbers_of (records t)) adds.0;
        other = λ same. other (all ∙ same);
      }))

  -- what stops a walk from the root that is said
  pub said_stops : (root : Option Child) (c : Child) (count : ℕ) (r : Option NodesErr)
      (e : NodesErr) → root ≡ Some c → StopsAt hash s (Some c) count asked r e → StopsAt hash s root count asked r e
  said_stops root c count r e is h = subst (λ o. StopsAt hash s o count asked r e) (sym is) h
