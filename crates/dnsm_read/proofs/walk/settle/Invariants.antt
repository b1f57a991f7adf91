use Rattle.std.proofs.Common.{◌≡◌, ℕ, ◌≤◌, ◌-◌}
use Rattle.dns_read.specs.Message.{message_octets}
use Rattle.dnsm_read.specs.Steps.{left_from, EndsFrom, LeftIn}
use Rattle.dnsm_read.proofs.walk.settle.Given as goal

abbrev pub invariant-loop-cursor : goal.invariant-loop-cursor
invariant-loop-cursor l = record {
  same : left_from (message_octets l.message) l.cursor ≡ left_from (message_octets l.fn.message) l.fn.cursor;
  section : l.cursor.section ≤ 3;
  status : l.cursor.status ≡ l.fn.cursor.status;
  place : l.cursor.place ≡ l.fn.cursor.place;
  owner : l.cursor.owner ≡ l.fn.cursor.owner;
  left : LeftIn (message_octets l.message) l.fn.cursor l.cursor.section l.cursor.left;
  end : (end : ℕ) → EndsFrom (message_octets l.message) l.cursor end → EndsFrom (message_octets l.fn.message) l.fn.cursor end;
}

abbrev pub decreases-loop-cursor : goal.decreases-loop-cursor
decreases-loop-cursor l = 3 - l.cursor.section
