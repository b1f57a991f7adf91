use Rattle.std.proofs.Common.{◌≡◌, ◌-◌, ◌≤◌, length, take, vec_len, vec_capacity}
use Rattle.dns_stream.proofs.reader.grow.Given as goal

abbrev pub invariant-loop-buffer : goal.invariant-loop-buffer
invariant-loop-buffer l = record {
  enough : l.len ≤ vec_capacity l.buffer;
  bounded : vec_capacity l.buffer ≤ l.most;
  never_less : vec_capacity l.fn.buffer ≤ vec_capacity l.buffer;
  longer : length l.fn.buffer.items ≤ length l.buffer.items;
  kept : take (length l.fn.buffer.items) l.buffer.items ≡ l.fn.buffer.items;
}

abbrev pub decreases-loop-buffer : goal.decreases-loop-buffer
decreases-loop-buffer l = l.len - vec_len l.buffer
