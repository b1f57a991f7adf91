-- How a static index stores its entries. RFC 1035 section 4.1.4.
use Rattle.std.specs.Prelude.{List, map, reverse}
use Rattle.dns_wire.specs.Encoders.{TableEntry}
use Rattle.dns_target.specs.declared.static_index.StaticEntry.{StaticEntry}

-- an entry: its offset and its end
abbrev pub table_entry_of : StaticEntry → TableEntry
table_entry_of h = record { offset = h.offset; end = h.end }

-- all entries, the newest first
abbrev pub table_entries_of : List StaticEntry → List TableEntry
table_entries_of entries = reverse (map table_entry_of entries)
