-- Parts that are appended in order.
use Rattle.std.proofs.Common.{◌≡◌, [], ◌∷◌, length, arith, refl, sym, subst}
use Rattle.std.specs.Prelude.{Ok, Err}
use Rattle.std.proofs.lemmas.List.{append-nil}
use Rattle.dns_name.specs.Names.{Labels, IsName}
use Rattle.dns_wire.specs.Parts.{CompressibleName, encode_part, encode_parts}
use Rattle.dns_wire.specs.Encoders.{encode_octets}
use Rattle.dns_wire.specs.Targets.{Written, Fits, append}
use Rattle.dns_wire.proofs.theory.EncoderLaws.{appends_compose, composes_both, composes_first, same_written}
use Rattle.dns_wire.proofs.theory.EncodedNames.{encode_part_grows}
use Rattle.dns_name.proofs.theory.LabelsLemmas.{length-uncompressed}
use Rattle.dns_data.specs.RecordData.{IsData}
use Rattle.dns_data.specs.Laws.{NoPartComposes, OnePartComposes, PartsComposeAfter, RefusedPartComposes, NamesAreBounded}

-- appending no octets changes nothing
append-nothing : (t : Written) → t ≡ append (encode_octets []) t
append-nothing t = same_written _ _ (sym (append-nil t.octets)) refl

-- composing no parts changes nothing
pub no_part_composes : NoPartComposes
unfolding encode_parts
no_part_composes capacity grows rule t fits =
    record { ok = append-nothing t; err = tt; outcome = subst (λ (u : Written). Fits capacity (length u.octets)) (append-nothing t) fits }

-- parts composed after an appended part compose all
pub parts_compose_after : PartsComposeAfter
unfolding encode_parts
parts_compose_after capacity grows rule part parts t u v r is h =
    composes_both capacity grows (encode_part rule part) (encode_parts rule parts) t u v r (encode_part_grows rule part) is h

-- if the first part can't be appended, composing all parts fails
pub refused_part_composes : RefusedPartComposes
unfolding encode_parts
refused_part_composes capacity grows rule part parts t u r q e is out h =
    composes_first capacity grows (encode_part rule part) (encode_parts rule parts) t u r q e is out (appends_compose capacity grows (encode_part rule part) t u r h)

-- one append composes one part
pub one_part_composes : OnePartComposes
one_part_composes capacity grows rule part t u (Ok done) h =
    parts_compose_after capacity grows rule part [] t u u (Ok done) h.ok
    (no_part_composes capacity grows rule u (subst (λ (w : Written). Fits capacity (length w.octets)) (sym h.ok) h.outcome))
one_part_composes capacity grows rule part t u (Err e) h = refused_part_composes capacity grows rule part [] t u (Err e) (Err e) e refl refl h

-- an uncompressed name has at most 255 octets
pub names_are_bounded : NamesAreBounded
names_are_bounded name is = let size = length-uncompressed name in let few = is.short in omega arith

-- one name is short enough to be RDATA
pub name_is_data : (name : Labels) → IsName name → IsData (CompressibleName name ∷ [])
name_is_data name is = record {
  names = (is, tt);
  short = let few = names_are_bounded name is in omega arith;
}
