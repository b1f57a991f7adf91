use Rattle.std.proofs.Common.{◌≡◌, ◌∙◌, refl, sym, arith}
use Rattle.std.specs.Prelude.{None}
use Rattle.dns_name.specs.NameReading.{name_labels}
use Rattle.fields_records.proofs.RecordLemmas.{class_is, head_is, owner_is, type_is}
use Rattle.fields_records.proofs.record.read_head.Goals as goal

pub returns-in_err-owner : goal.returns-in_err-owner
returns-in_err-owner c =
    let none : c.from_residual.result ≡ None = c.from_residual.ensures in
    rw none (λ owner ttl class rtype are. c.in_err-owner.ensures owner (owner_is owner ttl class rtype c.args.words.now _ (omega arith) are))

pub returns-in_err-class : goal.returns-in_err-class
returns-in_err-class c =
    let none : c.from_residual-in_err-class.result ≡ None = c.from_residual-in_err-class.ensures in
    rw none (λ owner ttl class rtype are.
    let e = (c.in_err-class.ensures class).0 (class_is owner ttl class rtype c.args.words.now _ (omega arith) are) in
    cc e)

pub returns-in_err-rtype : goal.returns-in_err-rtype
returns-in_err-rtype c =
    let none : c.from_residual-in_err-rtype.result ≡ None = c.from_residual-in_err-rtype.ensures in
    rw none (λ owner ttl class rtype are.
    let e = (c.in_err-rtype.ensures rtype).0 (type_is owner ttl class rtype c.args.words.now _ (omega arith) are) in
    cc e)

pub returns : goal.returns
returns c =
    let ttl = c.in_ok-ttl.ensures in
    (head_is (name_labels c.in_ok-owner.owner) c.from_secs.result c.in_ok-class.class c.in_ok-rtype.rtype c.args.words.now _ _ _ _ (omega arith)).1 (
      c.in_ok-owner.ensures,
      ((ttl.0.0, sym ttl.1 ∙ sym c.from_secs.ensures), omega (arith, ttl.0.1, ttl.1, c.from_secs.ensures)),
      (c.in_ok-class.ensures c.in_ok-class.class).1 refl,
      (c.in_ok-rtype.ensures c.in_ok-rtype.rtype).1 refl,
    )
