use Rattle.std.proofs.Common.{◌≡◌, ◌+◌, arith, length}
use Rattle.dns_target.specs.declared.fingerprint_index.Fingerprint.{Fingerprint}
use Rattle.dns_target.proofs.FingerprintLemmas.{linked_push}
use Rattle.dns_target.proofs.fingerprint_index.FingerprintIndex.push.Goals as goal

pub invariant_of-self : goal.invariant_of-self
invariant_of-self c =
    let count : c.len-index.result + 1 ≡ length c.self.inside.entries.items + 1 = let k = c.self.inside.entries.ok.0 in omega (arith, c.len-index.ensures) in
    let m : Fingerprint = record { hash = c.args.hash; offset = c.args.offset; end = c.args.end; older = c.link-older.result } in
    linked_push c.self.inside.heads.items c.link-older.new.heads.items c.self.inside.entries.items c.push_reserved.new.self.items m
    (c.len-index.result + 1) c.self.invariant c.push_reserved.ensures.items count c.link-older.ensures.heads c.link-older.ensures.older
