use Rattle.std.proofs.Common.{◌∙◌, ap, sym, length, refl, arith}
use Rattle.dns_name.specs.ParsedName.{labels}
use Rattle.dns_name.proofs.theory.NameLemmas.{parsed_is}
use Rattle.dns_reply.proofs.SubstitutionLemmas.{owner_fits, too_long, is_made}
use Rattle.dns_reply.proofs.substitution.substitute_parsed.Goals as goal

pub overflow_sub-first : goal.overflow_sub-first
overflow_sub-first c =
    let fits = owner_fits (labels c.args.name.now) (labels c.args.owner.now) (sym c.if-not-is_below.ensures) in
    omega (arith, c.compose_len.ensures, c.len.ensures.value, ap length c.uncompressed-octets.ensures, fits)

pub returns-in_err-made : goal.returns-in_err-made
returns-in_err-made c =
    rw c.from_residual.ensures (
    too_long (labels c.args.name.now) (labels c.args.owner.now) (labels c.args.target.now) (sym c.if-not-is_below.ensures) c.len.result c.compose_len.result c.as_slice.result.now
    c.as_slice-2.result.now (c.len.ensures.value ∙ ap length c.uncompressed-octets.ensures) c.compose_len.ensures (c.as_slice.ensures.value ∙ c.uncompressed-octets.ensures)
    (c.as_slice-2.ensures.value ∙ c.uncompressed-others.ensures) (λ short. absurd (let e = c.in_err-made.ensures.fits.1 short in cc)))

pub returns : goal.returns
returns c =
    rw c.ok.ensures.value (
    is_made (labels c.args.name.now) (labels c.args.owner.now) (labels c.args.target.now) (sym c.if-not-is_below.ensures) c.len.result c.compose_len.result c.as_slice.result.now
    c.as_slice-2.result.now (c.len.ensures.value ∙ ap length c.uncompressed-octets.ensures) c.compose_len.ensures (c.as_slice.ensures.value ∙ c.uncompressed-octets.ensures)
    (c.as_slice-2.ensures.value ∙ c.uncompressed-others.ensures) c.from_octets.result c.in_ok-made.made.items (parsed_is c.args.name.now) (parsed_is c.args.target.now)
    (c.in_ok-made.ensures.fits.0 refl) c.in_ok-made.ensures.octets c.from_octets.ensures.name c.from_octets.ensures.accepts)
