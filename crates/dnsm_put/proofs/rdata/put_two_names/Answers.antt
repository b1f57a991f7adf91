use Rattle.std.proofs.Common.{◌≡◌, ◌-◌, List, ℕ, length, take, drop, arith, ap, sym, ◌∙◌, subst}
use Rattle.std.proofs.lemmas.Option.{IfSome_then}
use Rattle.dns_name.specs.Names.{uncompressed}
use Rattle.dns_wire.specs.Parts.{Part}
use Rattle.dnsm_put.specs.Writing.{AreWritten, IsPut}
use Rattle.dnsm_put.proofs.Buffers.{all_left, kept_put, kept_later}
use Rattle.dnsm_put.proofs.RdataWritten.{found_names, written_two}
use Rattle.dnsm_put.proofs.rdata.put_two_names.Goals as goal

pub returns-clause-written : goal.returns-clause-written
returns-clause-written c = IfSome_then c.put_octets.result c.put_octets.ensures.put (λ end put parts are h.
    let two = h.0 in
    let rdata = c.args.rdata.now in
    let first = c.first_name-first.result in
    let second = c.first_name-second.result in
    let others = take (length rdata - first) (drop first rdata) in
    let found = found_names rdata first second c.args.after c.first_name-first.ensures.name (λ n rest is e. c.first_name-second.ensures.name n rest is (all_left rdata first ∙ e)) two in
    let rest : take (length others - second) (drop second others) ≡ two.rest = all_left others second ∙ ap (drop second) (all_left rdata first) ∙ found.rest_left in
    let l1 = c.put_name.ensures.length in
    let l2 = c.put_name-2.ensures.length in
    let P : List ℕ → Type 0 = λ xs. IsPut c.put_name-2.new.out c.put_octets.new.out c.in_ok-end.end c.args.most xs end in
    let Q : List Part → Type 0 = λ ps. AreWritten c.put_octets.new.out c.args.top c.args.at end ps in
    let a : take first rdata ≡ uncompressed two.first = found.first_name in
    let b : take second others ≡ uncompressed two.second = ap (take second) (all_left rdata first) ∙ found.second_name in
    subst Q (sym h.1) (written_two c.args.out.now c.put_name.new.out c.put_name-2.new.out c.put_octets.new.out c.args.top c.args.at c.args.most
    c.in_ok-middle.middle c.in_ok-end.end end two.first two.second two.rest
    (omega arith) (omega arith) (omega arith) (c.in_ok-middle.ensures.named two.first two.is_first a) c.put_name-2.ensures.kept c.put_name-2.ensures.length
    (c.in_ok-end.ensures.named two.second two.is_second b) (subst P rest put)))

pub returns-clause-kept : goal.returns-clause-kept
returns-clause-kept c =
    let at = c.args.at in
    let l1 = c.put_name.ensures.length in
    let l2 = c.put_name-2.ensures.length in
    let a1 = c.in_ok-middle.ensures.after in
    let a2 = c.in_ok-end.ensures.after in
    kept_put c.put_octets.result c.put_name-2.new.out c.put_octets.new.out c.in_ok-end.end at c.args.most _ (omega arith) (omega arith) c.put_octets.ensures.put c.put_octets.ensures.same
    ∙ kept_later c.put_name.new.out c.put_name-2.new.out at c.in_ok-middle.middle a1 c.put_name-2.ensures.kept
    ∙ c.put_name.ensures.kept
