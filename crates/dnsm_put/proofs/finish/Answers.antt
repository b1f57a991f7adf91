use Rattle.std.proofs.Common.{◌≡◌, length, arith, ap, ◌∙◌}
use Rattle.dns_octets.specs.Octets.{overwritten}
use Rattle.dnsm_put.proofs.Buffers.{put_there}
use Rattle.dnsm_put.proofs.Finished.{finished, finished_pointed, stays_over}
use Rattle.dnsm_put.proofs.finish.Goals as goal

pub returns-clause-read : goal.returns-clause-read
returns-clause-read c = λ s i.
    let twelve : length c.header_section.result ≡ 12 = ap length c.header_section.ensures.octets in
    let put = put_there c.put_octets-header.result c.put_octets-header.ensures.put (c.put_octets-header.ensures.room (omega arith)) in
    finished c.args.out.now c.put_octets-header.new.out c.args.draft.now s c.header_section.ensures.small (put.1.written ∙ ap (overwritten c.args.out.now 0) c.header_section.ensures.octets) i

pub returns-clause-pointed : goal.returns-clause-pointed
returns-clause-pointed c = λ s i.
    let twelve : length c.header_section.result ≡ 12 = ap length c.header_section.ensures.octets in
    let put = put_there c.put_octets-header.result c.put_octets-header.ensures.put (c.put_octets-header.ensures.room (omega arith)) in
    finished_pointed c.args.out.now c.put_octets-header.new.out c.args.draft.now s (put.1.written ∙ ap (overwritten c.args.out.now 0) c.header_section.ensures.octets) i

pub returns-clause-written : goal.returns-clause-written
returns-clause-written c =
    let twelve : length c.header_section.result ≡ 12 = ap length c.header_section.ensures.octets in
    let put = put_there c.put_octets-header.result c.put_octets-header.ensures.put (c.put_octets-header.ensures.room (omega arith)) in
    put.1.written ∙ ap (overwritten c.args.out.now 0) c.header_section.ensures.octets

pub returns-clause-stay : goal.returns-clause-stay
returns-clause-stay c = λ d s i.
    let twelve : length c.header_section.result ≡ 12 = ap length c.header_section.ensures.octets in
    let put = put_there c.put_octets-header.result c.put_octets-header.ensures.put (c.put_octets-header.ensures.room (omega arith)) in
    stays_over c.args.out.now c.put_octets-header.new.out c.header_section.result d s twelve put.1.written i
