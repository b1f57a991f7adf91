use Rattle.std.proofs.Common.{◌≡◌, ◌≤◌, List, take, drop, arith, ap, sym, ◌∙◌, subst}
use Rattle.std.proofs.lemmas.List.{take-take}
use Rattle.std.proofs.lemmas.Option.{IfSome_then}
use Rattle.dns_name.specs.Names.{uncompressed}
use Rattle.dns_wire.specs.Parts.{Part, AreParts}
use Rattle.dnsm_put.specs.Writing.{AreWritten}
use Rattle.dnsm_put.proofs.Buffers.{all_left, kept_put}
use Rattle.dnsm_put.proofs.RdataWritten.{named_parts, written_named}
use Rattle.dnsm_put.proofs.rdata.put_named.Goals as goal

pub returns-clause-written : goal.returns-clause-written
returns-clause-written c = IfSome_then c.put_name.result c.put_name.ensures.named (λ end named parts are h.
    let n = h.0 in
    let k = c.args.before in
    let rdata = c.args.rdata.now in
    let P : List Part → Type 0 = λ ps. AreWritten c.put_name.new.out c.args.top c.args.at end ps in
    let e : drop k rdata ≡ uncompressed n = h.2 in
    let made = written_named c.args.out.now c.put_octets.new.out c.put_name.new.out c.args.top c.args.at c.args.most c.in_ok-name.name end k rdata n
    (omega arith) (omega arith) (omega arith) c.in_ok-name.ensures.put c.put_name.ensures.kept c.put_name.ensures.length
    (named n (named_parts k rdata n (subst AreParts h.1 are)) (all_left rdata k ∙ e)) in
    subst P (sym h.1) made)

pub returns-clause-kept : goal.returns-clause-kept
returns-clause-kept c =
    let at = c.args.at in
    let name = c.in_ok-name.name in
    let put = c.in_ok-name.ensures.put in
    let e = put.ends in
    let low : at ≤ name = omega arith in
    sym (take-take at name c.put_name.new.out low) ∙ ap (take at) c.put_name.ensures.kept ∙ take-take at name c.put_octets.new.out low
    ∙ kept_put c.put_octets.result c.args.out.now c.put_octets.new.out at at c.args.most _ (omega arith) (omega arith) c.put_octets.ensures.put c.put_octets.ensures.same
