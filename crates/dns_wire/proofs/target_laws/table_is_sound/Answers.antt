use Rattle.dns_wire.proofs.theory.EncodedNames.{encode_name_grows, encode_octets_grows, encode_parts_grows, both_grows}
use Rattle.dns_wire.proofs.theory.EncoderLaws.{encodes_name, encodes_octets, cut_undoes}
use Rattle.dns_wire.proofs.theory.CompressedNames.{is_table_cut, is_table_over}
use Rattle.dns_wire.proofs.theory.Stability.{names_are_at_or_after}
use Rattle.dns_wire.proofs.theory.TargetTheorems.{entries_are_names, nothing_is_target, encoders_stay_at_or_after, names_stay_at_or_after}
use Rattle.dns_wire.proofs.target_laws.table_is_sound.Goals as goal

pub returns : goal.returns
returns c = record {
  encoded = entries_are_names;
  names_are_at_or_after = names_are_at_or_after;
  nothing = nothing_is_target;
  name = λ rule t name is h. (encodes_name rule name is).keeps t h;
  octets = λ t xs h. (encodes_octets xs).keeps t h;
  cut = λ t len h. is_table_cut len h;
  overwritten = λ t offset over clear h. is_table_over offset over clear h;
  undone = cut_undoes;
  names_grow = encode_name_grows;
  octets_grow = encode_octets_grows;
  parts_grow = encode_parts_grows;
  both_grow = both_grows;
  after = encoders_stay_at_or_after;
  names_after = names_stay_at_or_after;
}
