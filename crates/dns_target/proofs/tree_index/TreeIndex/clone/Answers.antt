use Rattle.std.proofs.Common.{◌≡◌, ◌∙◌, ◌<◌, ap, sym, length, arith}
use Rattle.std.proofs.lemmas.Grind.{common_steps}
use Rattle.std.proofs.lemmas.List.{nil_from_length}
use Rattle.std.proofs.lemmas.Result.{err_from_is_err_and}
use Rattle.dns_target.specs.TreeIndex.{Shape, entries_of}
use Rattle.dns_target.proofs.Trees.{length-entries}
use Rattle.dns_target.proofs.tree_index.TreeIndex.clone.Goals as goal

pub returns-then-is_empty-clause-entries : goal.returns-then-is_empty-clause-entries
returns-then-is_empty-clause-entries c =
    let none : length c.self.inside.nodes.items ≡ 0 = grind (arith, common_steps) in
    c.new.ensures ∙ sym (ap entries_of (nil_from_length c.self.inside.nodes.items none)) ∙ ap (λ (t : Shape). t.entries) c.self.view_is

pub returns-in_err-clone-clause-full : goal.returns-in_err-clone-clause-full
returns-in_err-clone-clause-full c =
    let p = err_from_is_err_and c.from_residual.result c.from_residual.ensures.1 in
    let some : 0 < length c.self.inside.nodes.items = grind (arith, common_steps) in
    let size = length-entries c.self.inside.nodes.items in
    let view = ap (λ (t : Shape). length t.entries) c.self.view_is in
    rw p.1 (omega (arith, some, size, view))
