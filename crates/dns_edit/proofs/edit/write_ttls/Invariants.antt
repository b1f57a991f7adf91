use Rattle.std.proofs.Common.{◌≡◌, ◌≤◌, ◌+◌, ℕ, List}
use Rattle.dns_code.specs.HeaderSection.{header_size}
use Rattle.dns_item.specs.Items.{SkipsRecord}
use Rattle.dns_read.specs.Message.{buffer_of, message_octets}
use Rattle.dns_read.specs.Reading.{Skipped}
use Rattle.dns_edit.specs.Ttls.{TtlFields, WritesTtls}
use Rattle.dns_edit.proofs.edit.write_ttls.Given as goal

abbrev pub invariant-loop-record : goal.invariant-loop-record
invariant-loop-record g l =
    (header_size ≤ l.pos)
    × ((m : ℕ) × (end : ℕ) × (l._record + m ≡ l.count) × Skipped (SkipsRecord (message_octets l.message)) m l.pos end)
    × ((fields : List ℕ) → TtlFields (message_octets l.fn.message) l.count l.start fields
    → (m : ℕ) × (left : List ℕ) × (l._record + m ≡ l.count) × TtlFields (message_octets l.message) m l.pos left
    × ((d : List ℕ) → WritesTtls (goal.F-post g l.change) left (message_octets l.message) d → WritesTtls (goal.F-post g l.change) fields (message_octets l.fn.message) d))
    × (g.Octs.OctetsMut.loan (buffer_of l.message) ≡ g.Octs.OctetsMut.loan (buffer_of l.fn.message))
