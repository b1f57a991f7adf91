use Rattle.std.proofs.Common.{◌∙◌, ap, length, sym}
use Rattle.std.specs.Prelude.{reverse}
use Rattle.dns_name.specs.ParsedName.{labels}
use Rattle.dnsm_text.proofs.ReversedKeys.{replaced, key_reversed}
use Rattle.dnsm_text.proofs.name_key.key_of.Goals as goal

pub returns : goal.returns
returns c =
    let turned = c.reverse.ensures.after ∙ ap reverse c.as_mut_slice.ensures.value in
    let same = ap length (sym c.as_mut_slice.ensures.value) ∙ sym c.reverse.ensures.len in
    replaced _ _ same ∙ key_reversed (labels c.args.name.now) _ _ c.reversed_key-key.ensures turned
