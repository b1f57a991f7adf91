use Rattle.std.proofs.Common.{◌≡◌, ◌∙◌, ◌+◌, ◌-◌, [], suc, arith, refl, sym, subst}
use Rattle.dns_read.specs.Message.{message_octets}
use Rattle.dns_edit.specs.Ttls.{WritesTtls}
use Rattle.dns_edit.proofs.WriteLemmas.{none_left, first_skips, skipped_rest, ttls_rest}
use Rattle.dns_edit.proofs.edit.write_ttls.Goals as goal

pub loop-record-init : goal.loop-record-init
loop-record-init g c = (c.requires.after_header, (c.args.count, c.requires.skips.0, omega arith, c.requires.skips.1), λ fields t. (c.args.count, fields, omega arith, t, λ d x. x), refl)

pub write_ttl-pos-requires-clause-skips : goal.write_ttl-pos-requires-clause-skips
write_ttl-pos-requires-clause-skips g c =
    let x = c.loop-record.invariant.1 in
    let total : c.loop-record._record + x.0 ≡ c.args.count = x.2 in
    first_skips (let e : x.0 ≡ suc (x.0 - 1) = omega arith in e) x.3

pub loop-record-preserved : goal.loop-record-preserved
loop-record-preserved g c =
    let x = c.loop-record.invariant.1 in
    let w = c.write_ttl-pos.ensures.writes in
    let from = c.loop-record.invariant.0 in
    let later = c.write_ttl-pos.ensures.later in
    let total : c.loop-record._record + x.0 ≡ c.args.count = x.2 in
    let e : x.0 ≡ suc (x.0 - 1) = omega arith in (
      omega arith,
      (x.0 - 1, x.1, omega arith, skipped_rest w e x.3),
      λ fields t.
          let y = c.loop-record.invariant.2 fields t in
          let sum : c.loop-record._record + y.0 ≡ c.args.count = y.2 in
          let e' : y.0 ≡ suc (y.0 - 1) = omega arith in
          let z = ttls_rest w e' y.3 in
          (y.0 - 1, z.0, omega arith, z.1, λ d x. y.4 d (z.2 d x)),
      c.write_ttl-pos.ensures.loan ∙ c.loop-record.invariant.3,
    )

pub returns-clause-writes : goal.returns-clause-writes
returns-clause-writes g c =
    λ fields t.
    let y = c.loop-record.invariant.2 fields t in
    let sum : c.loop-record._record + y.0 ≡ c.args.count = y.2 in
    let none : y.0 ≡ 0 = omega arith in
    let e : y.1 ≡ [] = none_left y.3 none in
    y.4 _ (subst (λ left. WritesTtls (goal.F-post g c.args.change.now) left (message_octets c.loop-record.message) (message_octets c.loop-record.message)) (sym e) WritesTtls.none)

pub returns-clause-loan : goal.returns-clause-loan
returns-clause-loan g c = c.loop-record.invariant.3
