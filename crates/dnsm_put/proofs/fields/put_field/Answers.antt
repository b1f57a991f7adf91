use Rattle.std.proofs.Common.{◌≡◌, ◌+◌, ◌∙◌, ℕ, List, length, subst, sym}
use Rattle.std.proofs.lemmas.Option.{IfSome_then}
use Rattle.std.specs.Prelude.{IfSome}
use Rattle.dns_name.specs.ParsedName.{labels}
use Rattle.dns_name.proofs.theory.NameLemmas.{parsed_is}
use Rattle.dns_wire.specs.Targets.{At}
use Rattle.fields_table.specs.EncodedFields.{part_of}
use Rattle.fields_table.specs.declared.encoded.Encoded.{Encoded}
use Rattle.dnsm_put.specs.Writing.{IsPartWritten}
use Rattle.dnsm_put.proofs.FieldsWritten.{put_flat}
use Rattle.dnsm_put.proofs.fields.put_field.Goals as goal

pub returns-in-Octets-clause-written : goal.returns-in-Octets-clause-written
returns-in-Octets-clause-written c =
    let out = c.put_octets.new.out in
    let P : Encoded → Type 0 = λ f. IfSome c.put_octets.result (λ end. IsPartWritten out c.args.top c.args.at end (part_of f)) in
    subst P (sym c.in-Octets.is) (IfSome_then c.put_octets.result c.put_octets.ensures.put (λ end put.
    put_flat c.args.out.now out c.args.at c.args.most end _ c.requires.most put))

pub put_name-requires-clause-name : goal.put_name-requires-clause-name
put_name-requires-clause-name c =
    let n = c.in-Name.name in
    (labels n, parsed_is n, sym (c.as_slice.ensures.value ∙ c.uncompressed-octets.ensures))

pub returns-in-Name-clause-written : goal.returns-in-Name-clause-written
returns-in-Name-clause-written c =
    let n = c.in-Name.name in
    let out = c.put_name.new.out in
    let P : Encoded → Type 0 = λ f. IfSome c.put_name.result (λ end. IsPartWritten out c.args.top c.args.at end (part_of f)) in
    subst P (sym c.in-Name.is) (IfSome_then c.put_name.result c.put_name.ensures.named (λ end named. named (labels n) (parsed_is n) (c.as_slice.ensures.value ∙ c.uncompressed-octets.ensures)))

pub returns-in-UncompressedName-clause-written : goal.returns-in-UncompressedName-clause-written
returns-in-UncompressedName-clause-written c =
    let n = c.in-UncompressedName.name in
    let out = c.put_octets-in-UncompressedName.new.out in
    let e = c.as_slice-in-UncompressedName.ensures.value ∙ c.uncompressed-octets-in-UncompressedName.ensures in
    let P : Encoded → Type 0 = λ f. IfSome c.put_octets-in-UncompressedName.result (λ end. IsPartWritten out c.args.top c.args.at end (part_of f)) in
    subst P (sym c.in-UncompressedName.is) (IfSome_then c.put_octets-in-UncompressedName.result c.put_octets-in-UncompressedName.ensures.put (λ end put.
    let Q : List ℕ → Type 0 = λ xs. (end ≡ c.args.at + length xs) × At out c.args.at xs in
    let flat = subst Q e (put_flat c.args.out.now out c.args.at c.args.most end _ c.requires.most put) in
    (flat.0, parsed_is n, flat.1)))
