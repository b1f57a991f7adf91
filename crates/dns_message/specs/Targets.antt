-- Targets: what is written to them, their compression tables, and how a name is encoded.
unfoldable pub use Rattle.dns_wire.specs.Encoders.{encode_name}
pub use Rattle.dns_wire.specs.Encoders.{Encoder, Encoded, encode_octets, nothing, both, with_length, Rule, compresses, CompressionTable, TableEntry, IsClear, static_entries}
pub use Rattle.dns_wire.specs.Encoders.Rule.{Plain, Static, Tree, Hash}
-- a target's content, and what a call appends to it
pub use Rattle.dns_wire.specs.Targets.{Written, IsTarget, with_empty_table, append, cut_to, overwrite, Fits, Exceeds, AppendReturns, ComposeReturns, Appends, Composes}
-- stream targets
pub use Rattle.dns_wire.specs.Stream.{most_octets, with_prefix, stream_capacity, IsStream}
