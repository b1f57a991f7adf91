use Rattle.std.proofs.Common.{◌≡◌, length, subst, rules, arith, List, ℕ}
use Rattle.dns_wire.specs.Encoders.{encode_octets}
use Rattle.dns_wire.specs.Targets.{Appends}
use Rattle.dns_item.proofs.FlatRecords.{copied}
use Rattle.dns_item.proofs.record.append_at_once.Goals as goal

pub returns : goal.returns
returns g c =
    let size : length c.args.fields.now ≡ 8 = search (rules, arith) in
    subst (λ (octets : List ℕ). Appends g.T.Composer.capacity g.T.Composer.grows (encode_octets octets) (g.T.Composer.written c.args.target.now)
    (g.T.Composer.written c.append_slice.new.self) c.append_slice.result)
    (copied c.args.fields.now _ c.args.octets.now c.copy_from_slice.new.self c.copy_from_slice-2.new.self _ size c.requires c.copy_from_slice.ensures.after c.copy_from_slice-2.ensures.after)
    c.append_slice.ensures
