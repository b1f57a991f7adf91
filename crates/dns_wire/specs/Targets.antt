-- What a target holds, and how its calls change it.
use Rattle.std.specs.Prelude.{◌≡◌, ℕ, ◌+◌, ◌≤◌, ◌<◌, Some, List, [], ◌∷◌, length, slice_range, OnOk, OnErr, Bool, IsTrue, Option, None, Result, Ok, Err, ◌++◌, take, refl}
use Rattle.std.specs.FinMap.{get, code}
use Rattle.std.specs.Coded.{Coded, code_by, coded×, coded_ℕ, coded_list}
use Rattle.dns_octets.specs.Octets.{overwritten}
use Rattle.dns_octets.specs.declared.error.AppendError.{AppendError}
use Rattle.dns_octets.specs.declared.error.AppendError.TheVariants.{ShortBuf, OutOfMemory}
use Rattle.dns_name.specs.Names.{Labels, IsLabel, name_size, max_size, framed, pointer_end}
use Rattle.dns_wire.specs.Encoders.{CompressionTable, TableEntry, nothing, pointer as pointer_octets, cut, Encoder}

-- Names encoded in the content, and their entries in the compression table. RFC 1035 section 4.1.4.

-- The octets `xs` are at offset p.
pub record At (b : List ℕ) (p : ℕ) (xs : List ℕ) : Type 0 where
  pub within : p + length xs ≤ length b
  pub same : slice_range b p (p + length xs) ≡ xs

-- The octets from offset p to q encode a name: labels, then a zero octet or a pointer to the table's entry for the remaining labels.
pub data Compressed (m : CompressionTable) (b : List ℕ) (q : ℕ) : ℕ → Labels → Type 0 where
  root : {p : ℕ} → At b p (0 ∷ []) → q ≡ p + 1 → Compressed m b q p []
  label : {p : ℕ} {first : List ℕ} {rest : Labels} → IsLabel first → At b p (framed first) → Compressed m b q (p + 1 + length first) rest → Compressed m b q p (first ∷ rest)
  pointer : {p : ℕ} {name : Labels} {x : TableEntry} → get m name ≡ Some x → x.end ≤ p → At b p (pointer_octets x.offset) → q ≡ p + 2 → Compressed m b q p name

-- The octets encode a name, and begin with a label.
abbrev pub Labelled : CompressionTable → List ℕ → ℕ → ℕ → Labels → Type 0
Labelled m b q p [] = ⊥
Labelled m b q p (first ∷ rest) = IsLabel first × At b p (framed first) × Compressed m b q (p + 1 + length first) rest

-- An entry of the table is sound: a pointer can lead to it, a label begins there, and the octets up to the name's end encode the suffix.
pub record IsTableEntry (b : List ℕ) (m : CompressionTable) (s : Labels) (x : TableEntry) : Type 0 where
  pub in_range : x.offset < pointer_end
  pub short : name_size s ≤ max_size
  pub compressed : Labelled m b x.end x.offset s

-- Every entry of the table is sound.
pub record IsTableOf (b : List ℕ) (m : CompressionTable) : Type 0 where
  pub each : (s : Labels) (x : TableEntry) → get m s ≡ Some x → IsTableEntry b m s x

-- What a target holds: its content, and the compression table.
pub record Written : Type 0 where
  pub octets : List ℕ
  pub table : CompressionTable

-- A content with an empty table.
abbrev pub with_empty_table : List ℕ → Written
with_empty_table octets = record { octets = octets; table = nothing }

-- What holds of every target: its table is sound.
abbrev pub IsTarget : Written → Type 0
IsTarget t = IsTableOf t.octets t.table

-- A target after an encoding is appended.
abbrev pub append : Encoder → Written → Written
append encoder t = let encoded = encoder t.table (length t.octets) in record { octets = t.octets ++ encoded.octets; table = encoded.table }

-- A target after its content is truncated to `len` octets.
abbrev pub cut_to : ℕ → Written → Written
cut_to len t = record { octets = take len t.octets; table = cut t.table len }

-- A target after octets are overwritten, from offset `offset` on.
abbrev pub overwrite : ℕ → List ℕ → Written → Written
overwrite offset octets t = record { octets = overwritten t.octets offset octets; table = t.table }

-- A length of n octets is within the capacity, if there is one.
abbrev pub Fits : Option ℕ → ℕ → Type 0
Fits None n = Unit {0}
Fits (Some capacity) n = n ≤ capacity

-- A length of n octets exceeds the capacity.
abbrev pub Exceeds : Option ℕ → ℕ → Type 0
Exceeds None n = ⊥
Exceeds (Some capacity) n = capacity < n

-- The result of an append that would leave n octets: `ShortBuf` if they exceed the capacity, else success, or `OutOfMemory` if the target may allocate.
abbrev pub AppendReturns : {X : Type 0} → Option ℕ → Bool → ℕ → Result X AppendError → Type 0
AppendReturns capacity grows n (Ok x) = Fits capacity n
AppendReturns capacity grows n (Err ShortBuf) = Exceeds capacity n
AppendReturns capacity grows n (Err OutOfMemory) = Fits capacity n × IsTrue grows

-- The result of several appends that would leave n octets: as `AppendReturns`, but `OutOfMemory` may also come before the capacity is exceeded.
abbrev pub ComposeReturns : {X : Type 0} → Option ℕ → Bool → ℕ → Result X AppendError → Type 0
ComposeReturns capacity grows n (Ok x) = Fits capacity n
ComposeReturns capacity grows n (Err ShortBuf) = Exceeds capacity n
ComposeReturns capacity grows n (Err OutOfMemory) = IsTrue grows

-- One append of an encoding. On error nothing changes.
pub record Appends (capacity : Option ℕ) (grows : Bool) (encoder : Encoder) (before after : Written) {X : Type 0} (result : Result X AppendError) : Type 0 where
  pub ok : OnOk result (after ≡ append encoder before)
  pub err : OnErr result (after ≡ before)
  pub outcome : AppendReturns capacity grows (length (append encoder before).octets) result

-- An encoding appended in several steps. On error, truncating to the old length undoes it.
pub record Composes (capacity : Option ℕ) (grows : Bool) (encoder : Encoder) (before after : Written) {X : Type 0} (result : Result X AppendError) : Type 0 where
  pub ok : OnOk result (after ≡ append encoder before)
  pub err : OnErr result (cut_to (length before.octets) after ≡ cut_to (length before.octets) before)
  pub outcome : ComposeReturns capacity grows (length (append encoder before).octets) result

-- What a target holds, coded as plain data, so that it can be the value of a model.

-- The code of a table entry: its offset and its end.
abbrev pub table_entry_code : Coded TableEntry
table_entry_code = code_by (ℕ × ℕ) (coded× coded_ℕ coded_ℕ) (λ s. (s.offset, s.end)) (λ p. record { offset = p.0; end = p.1 }) (λ _. refl)

-- The code of a target: its octets and its table.
abbrev pub written_code : Coded Written
written_code = code_by (List ℕ × CompressionTable) (coded× (coded_list coded_ℕ) (code (coded_list (coded_list coded_ℕ)) table_entry_code))
    (λ w. (w.octets, w.table)) (λ p. record { octets = p.0; table = p.1 }) (λ _. refl)
