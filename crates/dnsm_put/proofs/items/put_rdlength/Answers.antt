use Rattle.std.proofs.Common.{◌+◌, arith, ap, ◌∙◌}
use Rattle.dns_octets.specs.Octets.{overwritten}
use Rattle.dnsm_put.proofs.Buffers.{put_there}
use Rattle.dnsm_put.proofs.items.put_rdlength.Goals as goal

pub returns : goal.returns
returns c =
    let put = put_there c.put_octets-size.result c.put_octets-size.ensures.put (c.put_octets-size.ensures.room (omega arith)) in
    put.1.written ∙ ap (overwritten c.args.out.now (c.args.after + 8)) c.to_be_bytes.ensures
