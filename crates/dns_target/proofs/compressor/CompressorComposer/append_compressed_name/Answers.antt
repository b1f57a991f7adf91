use Rattle.std.proofs.Common.{◌∙◌, sym}
use Rattle.dns_name.proofs.theory.NameLemmas.{parsed_is}
use Rattle.dns_target.proofs.WholeNames.{name_in-whole}
use Rattle.dns_target.proofs.compressor.CompressorComposer.append_compressed_name.Goals as goal

pub append_name-requires : goal.append_name-requires
append_name-requires g c = (_, g.met.N.ToName.is_name c.args.name.now, sym c.in-Some.ensures)

pub returns-in-Some : goal.returns-in-Some
returns-in-Some g c =
    let named = name_in-whole _ _ (g.met.N.ToName.is_name c.args.name.now) (sym c.in-Some.ensures) in
    rw (sym named) c.append_name.ensures

pub append_name-requires-in-None : goal.append_name-requires-in-None
append_name-requires-in-None g c = (_, parsed_is c.as_parsed.result, sym (c.as_slice.ensures.value ∙ c.uncompressed.ensures))

pub returns-in-None : goal.returns-in-None
returns-in-None g c =
    let named = name_in-whole _ _ (parsed_is c.as_parsed.result) (sym (c.as_slice.ensures.value ∙ c.uncompressed.ensures)) in
    rw (sym (named ∙ c.as_parsed.ensures.labels)) c.append_name-in-None.ensures
