use Rattle.std.proofs.Common.{◌≡◌, List, sym, subst, ◌∙◌}
use Rattle.std.proofs.lemmas.Option.{IfSome_then}
use Rattle.dns_wire.specs.Parts.{Part}
use Rattle.dnsm_put.specs.declared.rdata.Layout.{Layout}
use Rattle.dnsm_put.specs.Rdata.{AreDataOf, octets_alone}
use Rattle.dnsm_put.specs.Writing.{AreWritten}
use Rattle.dnsm_put.proofs.RdataWritten.{written_octets}
use Rattle.dnsm_put.proofs.rdata.put_rdata.Goals as goal

pub returns-in-Plain-clause-written : goal.returns-in-Plain-clause-written
returns-in-Plain-clause-written c = IfSome_then c.put_octets.result c.put_octets.ensures.put (λ end put parts are h.
    let P : Layout → Type 0 = λ l. AreDataOf l c.args.item.now.rdata.now parts in
    let Q : List Part → Type 0 = λ ps. AreWritten c.put_octets.new.out c.args.top c.args.at end ps in
    let e : parts ≡ octets_alone c.args.item.now.rdata.now = subst P (sym c.layout_of_item.ensures ∙ c.in-Plain.is) h in
    subst Q (sym e) (written_octets c.args.out.now c.put_octets.new.out c.args.top c.args.at c.args.most end c.args.item.now.rdata.now c.requires.most put))
