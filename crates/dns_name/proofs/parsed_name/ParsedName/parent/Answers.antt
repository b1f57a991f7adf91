use Rattle.std.proofs.Common.{◌≡◌, ◌∙◌, [], drop, rules}
use Rattle.dns_name.specs.Names.{Labels, NameAt}
use Rattle.dns_name.specs.ParsedName.{labels}
use Rattle.dns_name.specs.Unique.{same_name}
use Rattle.dns_name.proofs.theory.ParentNames.{parent_at}
use Rattle.dns_name.proofs.parsed_name.ParsedName.parent.Goals as goal

pub invariant_of-result : goal.invariant_of-result
invariant_of-result c =
    let name = c.args.self.now.name_at in
    let some : labels c.args.self.now ≡ [] → ⊥ = λ e. let root = c.is_root.ensures.1 e in cc in
    let parent = parent_at _ _ c.first_at-after.result.0 _ _ _ (c.first_at-after.ensures _ name.0.1) name.1 name.2 some in
    record { name_at = rw c.len.ensures parent.parent }

pub returns-clause-parent : goal.returns-clause-parent
returns-clause-parent c =
    let name = c.args.self.now.name_at in
    let some : labels c.args.self.now ≡ [] → ⊥ = λ e. let root = c.is_root.ensures.1 e in cc in
    let parent = parent_at _ _ c.first_at-after.result.0 _ _ _ (c.first_at-after.ensures _ name.0.1) name.1 name.2 some in
    let is_parent : (n : Labels) → NameAt c.args.self.now.octets.now c.first_at-after.result.1 n → n ≡ drop 1 (labels c.args.self.now) =
    λ n s. same_name _ s parent.parent.0.1 ∙ parent.is_parent in
    search (rules, is_parent)
