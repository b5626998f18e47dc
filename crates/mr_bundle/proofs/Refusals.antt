-- What is answered where a fetch refused.
use Rattle.std.proofs.Common.{◌≡◌, Option, Result, Err, refl, sym, ap, ◌∙◌}
use Rattle.mr_tree.specs.Nodes.{TellsRefusal}
use Rattle.mr_tree.specs.declared.nodes.NodesErr.{NodesErr}
use Rattle.mr_tree.specs.declared.nodes.NodesErr.TheVariants as nodes
use Rattle.mr_prove.specs.Causes.{of_nodes}
use Rattle.mr_prove.specs.declared.error.ProveErr.{ProveErr}
use Rattle.mr_prove.specs.declared.error.ProveErr.TheVariants as errors
use Rattle.mr_bundle.specs.Proofs.{as_given}

abbrev refused : {A : Type 0} → ProveErr → Result A ProveErr
refused x = Err x

same_refusal : {A : Type 0} (x y : ProveErr) → refused {A = A} x ≡ refused y → x ≡ y
same_refusal x y e = cc

-- only want of memory is answered as that
no_memory : (e : NodesErr) → errors.NoMemory ≡ of_nodes e → nodes.NoMemory ≡ e
no_memory nodes.NoMemory p = refl
no_memory (nodes.Changed page held found) p = absurd cc
no_memory (nodes.Page page) p = absurd cc
no_memory (nodes.Outside page) p = absurd cc
no_memory nodes.Missing p = absurd cc
no_memory nodes.Fault p = absurd cc

pub tells_no_memory : {A B : Type 0} (before after : Option NodesErr) (x : ProveErr) → x ≡ errors.NoMemory
    → TellsRefusal {A = A} of_nodes before after (Err x) → TellsRefusal {A = B} as_given before after
    (Err nodes.NoMemory)
tells_no_memory before after x same t = record {
  last = λ e is other. ap Err (no_memory e (sym same ∙ same_refusal x (of_nodes e) (t.last e is other)));
  none = tt;
}
