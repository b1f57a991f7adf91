use Rattle.std.proofs.Common.{List, ℕ, ◌≤◌, ◌∙◌, arith, sym, subst, ap, ◌≡◌, true, false}
use Rattle.dns_name.proofs.theory.ExtentLaws.{ends_after}
use Rattle.dns_edit.proofs.EntryLemmas.{long_record}
use Rattle.dns_edit.proofs.SpanLemmas.{skips_of}
use Rattle.std.specs.Int.{to_be_bytes, w32}
use Rattle.dns_name.specs.Names.{fault_of}
use Rattle.dns_item.specs.Items.{RecordSkipFaultAt}
use Rattle.dns_read.specs.Message.{message_octets}
use Rattle.dns_edit.specs.Spans.{Spans}
use Rattle.dns_edit.specs.Ttls.{holds_ttl}
use Rattle.dns_edit.proofs.WriteLemmas.{writes_held, writes_other, never}
use Rattle.dns_edit.proofs.edit.write_ttl.Goals as goal

pub returns-in-Err-clause-writes : goal.returns-in-Err-clause-writes
returns-in-Err-clause-writes g c =
    never _ _ c.requires.skips.1 (subst (λ (b : List ℕ). RecordSkipFaultAt b c.args.start (fault_of c.in-Err._error)) c.as_slice.ensures.octets c.in-Err.ensures)

pub returns-then-has_ttl-clause-writes : goal.returns-then-has_ttl-clause-writes
returns-then-has_ttl-clause-writes g c =
    let there : Spans (message_octets c.args.message.now) c.args.start c.in-Ok.span = subst (λ (b : List ℕ). Spans b c.args.start c.in-Ok.span) c.as_slice.ensures.octets c.in-Ok.ensures in
    let held : holds_ttl c.in-Ok.span.rtype ≡ true = sym c.has_ttl.ensures ∙ c.if-has_ttl.true in
    let given = subst (λ n. goal.F-post g c.args.change.now n c.change-ttl.result) c.from_secs.ensures c.change-ttl.ensures in
    writes_held _ _ there held given (c.to_be_bytes.ensures ∙ ap (to_be_bytes w32) c.as_secs.ensures) c.overwrite.ensures.octets

pub returns-else-has_ttl-clause-writes : goal.returns-else-has_ttl-clause-writes
returns-else-has_ttl-clause-writes g c =
    let there : Spans (message_octets c.args.message.now) c.args.start c.in-Ok.span = subst (λ (b : List ℕ). Spans b c.args.start c.in-Ok.span) c.as_slice.ensures.octets c.in-Ok.ensures in
    let other : holds_ttl c.in-Ok.span.rtype ≡ false = sym c.has_ttl.ensures ∙ c.if-has_ttl.false in
    writes_other _ there other

pub overwrite-requires-clause-after_header : goal.overwrite-requires-clause-after_header
overwrite-requires-clause-after_header g c =
    let w : c.args.start ≤ c.in-Ok.span.fields = ends_after c.in-Ok.ensures.name_ends in
    let low = c.requires.after_header in
    omega arith

pub returns-then-has_ttl-clause-later : goal.returns-then-has_ttl-clause-later
returns-then-has_ttl-clause-later g c = let w = long_record _ (skips_of c.in-Ok.ensures) in omega (arith, w.0, w.1)

pub returns-else-has_ttl-clause-later : goal.returns-else-has_ttl-clause-later
returns-else-has_ttl-clause-later g c = let w = long_record _ (skips_of c.in-Ok.ensures) in omega (arith, w.0, w.1)
