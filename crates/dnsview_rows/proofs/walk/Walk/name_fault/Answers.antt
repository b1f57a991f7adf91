use Rattle.std.proofs.Common.{◌≡◌, ◌∙◌, ap, arith, Err, rules}
use Rattle.dns_octets.specs.declared.error.ParseError.{ParseError}
use Rattle.dns_octets.specs.declared.error.FormError.{FormError}
use Rattle.dns_name.specs.Names.{fault_of, head_at}
use Rattle.dns_name.specs.Names.Fault.{ShortInput, Form}
use Rattle.dnsview_rows.specs.Faults.StopsName.{none, half, label}
use Rattle.dnsview_rows.specs.Walks.{at, octets}
use Rattle.dnsview_rows.proofs.Faults.{bad_cause, stops_cut, stops_long}
use Rattle.dnsview_rows.proofs.walk.Walk.name_fault.Goals as goal

pub returns-in-ShortInput : goal.returns-in-ShortInput
returns-in-ShortInput c =
    stops_cut (octets c.args.self.now) c.args.name c.args.start (at c.args.self.now) c.in-Ok.head c.in-Ok.ensures (search rules) c.requires.none (rw c.in-ShortInput.is at c.requires.fails)

pub returns-in-Form : goal.returns-in-Form
returns-in-Form c =
    stops_long (octets c.args.self.now) c.args.name c.args.start (at c.args.self.now) c.in-Ok.head c.in-Form.field-0 c.in-Ok.ensures
    (search rules) c.requires.none (rw c.in-Form.is at c.requires.fails)

pub returns-in-Err-Form : goal.returns-in-Err-Form
returns-in-Err-Form c =
    let b = octets c.args.self.now in
    let p = at c.args.self.now in
    let cause = c.in-Err-Form.field-0-0 in
    let there : head_at b p ≡ Err (Form cause) = c.in-Err-Form.ensures ∙ ap (λ (e : ParseError). Err (fault_of e)) c.in-Err-Form.field-0-is in
    label (there ∙ ap (λ (x : FormError). Err (Form x)) (bad_cause b p cause there))

pub returns-in-Err-ShortInput : goal.returns-in-Err-ShortInput
returns-in-Err-ShortInput c = none (omega arith)

pub returns-in-Err-ShortInput-2 : goal.returns-in-Err-ShortInput-2
returns-in-Err-ShortInput-2 c =
    let there : head_at (octets c.args.self.now) (at c.args.self.now) ≡ Err ShortInput = c.in-Err-ShortInput.ensures ∙ ap (λ (e : ParseError). Err (fault_of e)) c.in-Err-ShortInput.field-0-is in
    half (omega arith) there
