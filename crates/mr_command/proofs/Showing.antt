-- Bytes that agree show a map or a fault, and one of them alone.
use Rattle.std.proofs.Common.{◌≡◌, List, ℕ, refl, sym, ap, ◌∙◌}
use Rattle.std.specs.Prelude.{Option, Some, None, Ok, Err}
use Rattle.mr_record.specs.declared.version.Version.{Version}
use Rattle.mr_pages.specs.PageBytes.{form_by}
use Rattle.mr_pages.specs.File.{file_of}
use Rattle.mr_pages.specs.Faults.{mapfault}
use Rattle.mr_pages.specs.Law.{AgreesWithFault}
use Rattle.mr_pages.specs.declared.rule.MapFault.{MapFault}
use Rattle.mr_plan.specs.Found.{Found, ShowsMap}

same_fault : (o : Option MapFault) (f g : MapFault) → o ≡ Some f → o ≡ Some g → f ≡ g
same_fault o f g p q = cc

no_fault : {A : Type 0} (o : Option MapFault) (f : MapFault) → o ≡ None → o ≡ Some f → A
no_fault o f p q = cc

module _ (v : Version) (hash : List ℕ → List ℕ) (bytes : List ℕ) (law : AgreesWithFault (form_by v) hash bytes) where
  abbrev fault_there : Option MapFault
  fault_there = mapfault hash (file_of (form_by v) bytes)

  pub one_found : (a b : Found) → ShowsMap v hash bytes a → ShowsMap v hash bytes b → a ≡ b
  one_found (Ok a) (Ok b) p q =
      let one = law.only a.tree a.batch p.1 b.tree b.batch q.1 in
      let version = p.0 ∙ sym q.0 in
      λ i. Ok (record { tree = one.0 i; version = version i; batch = one.1 i })
  one_found (Ok a) (Err g) p q = no_fault fault_there g (law.none a.tree a.batch p.1) q
  one_found (Err f) (Ok b) p q = no_fault fault_there f (law.none b.tree b.batch q.1) p
  one_found (Err f) (Err g) p q = ap (λ h. Err h) (same_fault fault_there f g p q)

  found_by : (o : Option MapFault) → fault_there ≡ o → (found : Found) × ShowsMap v hash bytes found
  found_by (Some f) e = (Err f, e)
  found_by None e = let map = law.map e in (Ok (record { tree = map.0; version = v; batch = map.1 }), (refl, map.2))

  pub found_in : (found : Found) × ShowsMap v hash bytes found
  found_in = found_by fault_there refl
