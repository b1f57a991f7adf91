use Rattle.std.proofs.Common.{◌+◌, ◌≤◌, arith, length, refl}
use Rattle.dns_name.specs.Names.{uncompressed}
use Rattle.dns_name.specs.ParsedName.{labels}
use Rattle.dns_name.proofs.FlatNames.{flat_none, flat_label, flat_root, flat_pointer, flat_within, flat_octets}
use Rattle.dns_name.proofs.theory.LabelsLemmas.{labels_encoded}
use Rattle.dns_name.proofs.parsed_name.ParsedName.as_flat_slice.Goals as goal

pub walk-init : goal.walk-init
walk-init c = flat_none _ _ _ (labels_encoded c.args.self.now)

pub overflow_add-end : goal.overflow_add-end
overflow_add-end c =
    let h = rw c.in-Root.ensures at c.at.ensures.head in
    let within : c.args.self.now.pos + length (uncompressed (labels c.args.self.now)) ≤ length c.args.self.now.octets.now =
    flat_within _ _ _ _ (flat_root _ _ c.walk.pos _ c.walk.invariant h) in
    omega (arith, c.compose_len.ensures)

pub slice_bounds-result-end : goal.slice_bounds-result-end
slice_bounds-result-end c =
    let h = rw c.in-Root.ensures at c.at.ensures.head in
    let within : c.args.self.now.pos + length (uncompressed (labels c.args.self.now)) ≤ length c.args.self.now.octets.now =
    flat_within _ _ _ _ (flat_root _ _ c.walk.pos _ c.walk.invariant h) in
    omega (arith, c.compose_len.ensures)

pub returns-in-Root-clause-flat : goal.returns-in-Root-clause-flat
returns-in-Root-clause-flat c =
    let h = rw c.in-Root.ensures at c.at.ensures.head in
    (λ some. (_, flat_root _ _ _ _ c.walk.invariant h), λ flat. refl)

pub returns-in-Root-clause-octets : goal.returns-in-Root-clause-octets
returns-in-Root-clause-octets c =
    let h = rw c.in-Root.ensures at c.at.ensures.head in
    flat_octets _ _ _ _ _ (flat_root _ _ _ _ c.walk.invariant h) c.compose_len.ensures

pub walk-preserved : goal.walk-preserved
walk-preserved c =
    let h = rw c.in-Label.ensures at c.at.ensures.head in
    flat_label _ _ _ _ _ _ c.walk.invariant h (omega (arith, c.from.ensures))

pub returns-in-Pointer-clause-flat : goal.returns-in-Pointer-clause-flat
returns-in-Pointer-clause-flat c =
    let h = rw c.in-Pointer.ensures at c.at.ensures.head in
    (λ none. absurd (cc), λ flat. absurd (flat_pointer _ _ _ _ _ c.walk.invariant h flat.0 flat.1))
