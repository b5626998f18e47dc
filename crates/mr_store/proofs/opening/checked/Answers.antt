use Rattle.std.proofs.Common.{◌≡◌, ℕ, map, arith, ap, subst, sym, ◌∙◌}
use Rattle.std.specs.Prelude.{IfSome}
use Rattle.mr_outside.specs.Told.{OfFile}
use Rattle.mr_pages.specs.declared.error.MapErr.TheVariants as errors
use Rattle.mr_pages.specs.declared.checking.Checked.{Checked}
use Rattle.mr_pages.specs.declared.head.MapHead.{MapHead}
use Rattle.mr_pages.specs.Source.{Origin, SaysHead, IsRootIn}
use Rattle.mr_pages.proofs.HeadLaws.{form_is}
use Rattle.mr_geom.specs.Rectangle.{Rectangle}
use Rattle.std.specs.Global.{Vec}
use Rattle.mr_tree.specs.Tree.{records}
use Rattle.mr_store.specs.Stored.{told_bytes, map_on, read_map}
use Rattle.mr_store.specs.private.Listing.{directory_entry, ListsRecords, ListsSome}
use Rattle.mr_store.specs.private.Paging.{sourced}
use Rattle.mr_store.proofs.Recorded.{some_listed, told_listed}
use Rattle.mr_store.specs.CachedFile.{state_of, name_of, page_form, bytes_of, entries_of, OfBytes}
use Rattle.mr_store.specs.Opening.{TellsMap, IsOfSome, RefusesFile}
use Rattle.mr_store.specs.Paged.{stands_for}
use Rattle.mr_store.proofs.Openings.{laid_of, of_some, some_fault, fault_of, err_is, misses, pages_known, version_known, quiet_or}
use Rattle.mr_store.proofs.opening.checked.Goals as goal

pub over-requires-after_bounds : goal.over-requires-after_bounds
over-requires-after_bounds g c κs within =
    let f = c.args.paging.file in
    let e = c.in-Ok.ensures in
    let h = c.in-Ok.checked.head in
    let version = version_known (page_form f) (bytes_of f) in
    let known = pages_known (page_form f) (bytes_of f) f.pages (entries_of f) c.args.paging.paging.file_ in
    record {
      says = subst (λ n. SaysHead (page_form c.check.new.pages.file).version n h) (sym e.goes.count)
          (subst (λ v. SaysHead v f.pages h) (sym (ap (λ (o : Origin). o.form.version) e.goes.from_)) e.says);
      inside = subst (λ n. IfSome h.root (IsRootIn n)) (sym e.goes.count) e.inside;
      fault = λ file is. let there = sym e.goes.same ∙ is in
          (e.told file there (version file there) (known file there)).0;
      head = λ file is. let there = sym e.goes.same ∙ is in
          (e.told file there (version file there) (known file there)).1;
      kept = λ file is. e.kept file (sym e.goes.same ∙ is);
    }

pub returns-in-Ok : goal.returns-in-Ok
returns-in-Ok g c =
    let s = c.args.paging in
    let f = s.file in
    let p = c.over.result.0 in
    let e = c.in-Ok.ensures in
    record {
      opened = record {
        answers = subst (λ (o : Origin). OfFile o.files o.name ⊥ (TellsMap o.form g.H.Hashes.of (stands_for p)))
            e.goes.from_
            (subst (λ x. OfBytes x ⊥ (TellsMap (page_form c.check.new.pages.file) g.H.Hashes.of (stands_for p)))
            c.over.ensures.file c.over.ensures.answers);
        some = subst (IsOfSome (page_form f) g.H.Hashes.of) (sym c.over.ensures.head)
            (of_some (page_form f) (form_is f.layout f.fits) g.H.Hashes.of f.pages (state_of f) (name_of f)
            s.paging.some s.paging.few c.in-Ok.checked e.of_some_bytes);
        named = ap (λ x. name_of x) c.over.ensures.file ∙ ap (λ (o : Origin). o.name) e.goes.from_;
        laid = ap (λ x. x.layout) c.over.ensures.file
            ∙ laid_of c.check.new.pages.file.layout f.layout (ap (λ (o : Origin). o.form) e.goes.from_);
        count = ap (λ (h : MapHead). h.pages) c.over.ensures.head ∙ e.says.count;
        files = ap (λ x. (state_of x).files) c.over.ensures.file ∙ ap (λ (o : Origin). o.files) e.goes.from_;
        quiet = ap (λ x. (state_of x).faults) c.over.ensures.file ∙ e.goes.quiet;
        more = omega (arith, ap (λ x. (state_of x).reads) c.over.ensures.file, e.goes.more);
        few = omega (arith, ap (λ x. (state_of x).reads) c.over.ensures.file, e.goes.few, s.paging.some);
        none = c.over.ensures.fetches;
      };
      unrefused = c.over.ensures.refusal;
      listed = λ wanted none.
          let told = told_listed (page_form f) c.in-Ok.checked.head s.list c.check.new.pages.list (bytes_of f)
          c.in-Ok.checked.made wanted none e.made in
          subst (λ (es : Vec (ℕ × Rectangle)). ListsRecords g.H.Hashes.of p.file p.head es.items)
          (sym c.over.ensures.list) (record {
            told = subst (λ (h : MapHead). IfSome (map_on p.file h).tree (λ t.
                c.check.new.pages.list.entries.items ≡ map directory_entry (records t))) (sym c.over.ensures.head)
                (subst (λ (o : Origin). IfSome (read_map o.form c.in-Ok.checked.head (told_bytes o.files o.name)).tree
                (λ t. c.check.new.pages.list.entries.items ≡ map directory_entry (records t)))
                (sym (ap (λ x. (sourced x).origin) c.over.ensures.file ∙ e.goes.from_)) told);
            some = subst (λ (o : Origin). ListsSome o.form g.H.Hashes.of p.head c.check.new.pages.list.entries.items)
                (sym (ap (λ x. (sourced x).origin) c.over.ensures.file ∙ e.goes.from_))
                (subst (λ (h : MapHead). ListsSome (page_form f) g.H.Hashes.of h
                c.check.new.pages.list.entries.items) (sym c.over.ensures.head)
                (some_listed (page_form f) (form_is f.layout f.fits) g.H.Hashes.of f.pages (state_of f) (name_of f)
                s.paging.some s.paging.few s.list c.check.new.pages.list c.in-Ok.checked wanted none
                e.of_some_bytes));
          });
    }

pub returns-in-Err : goal.returns-in-Err
returns-in-Err g c =
    let s = c.args.paging in
    let f = s.file in
    let e = c.in-Err.ensures in
    record {
      opened = subst (λ x. RefusesFile g.H.Hashes.of f (g.S.Shelf.state x) c.in-Err.error) (sym c.given_up.ensures)
          (record {
            refused = record {
              fault = fault_of (page_form f) g.H.Hashes.of (state_of f) (name_of f) f.pages (entries_of f)
                  c.in-Err.error s.paging.there s.paging.file_
                  (λ file is. e.told file is (version_known (page_form f) (bytes_of f) file is));
              some = some_fault (page_form f) (form_is f.layout f.fits) g.H.Hashes.of f.pages (state_of f) (name_of f)
                  s.paging.some s.paging.few _ c.in-Err.error e.of_some_bytes;
              why = record {
                missing = λ is. misses _ _ _ _ (e.goes.untold (err_is c.in-Err.error errors.Missing is))
                    (e.goes.missing (err_is c.in-Err.error errors.Missing is));
                failed = λ is. e.goes.fault (err_is c.in-Err.error errors.Fault is);
                quiet = quiet_or (Checked (Unit {0})) c.in-Err.error _ e.goes.quiet;
                once = e.of_one_read;
              };
            };
            files = ap (λ (o : Origin). o.files) e.goes.from_;
            later = e.goes.later;
            more = e.goes.more;
            few = omega (arith, e.goes.few, s.paging.some);
          });
      unrefused = tt;
      listed = λ wanted none. tt;
    }
