-- Queries and responses: how long they are, and that building them never fails.
use Rattle.std.proofs.Common.{◌≡◌, ◌∙◌, ℕ, ◌+◌, ◌<◌, ◌≤◌, Some, None, true, false, Bool, List, [], ◌∷◌, ◌++◌, length, length-append, ap, sym, subst, arith}
use Rattle.std.specs.Prelude.{Option, Err, IsTrue}
use Rattle.std.specs.FinMap.{get, len, get-empty, len-empty}
use Rattle.dns_wire.proofs.theory.CompressionTables.{get-insert_same}
use Rattle.dns_name.specs.Names.{Labels, IsName, framed}
use Rattle.dns_name.proofs.theory.LabelsLemmas.{length-uncompressed}
use Rattle.dns_wire.specs.Parts.{Part, Octets, encode_parts}
use Rattle.dns_wire.specs.Encoders.{CompressionTable, Rule, Static, TableEntry, nothing, encode_name, Suffix, add_suffixes, CompressedName, compress, compress_label, may_enter, suffix_cmp}
use Rattle.dns_wire.proofs.theory.NameSizes.{names_are_short}
use Rattle.dns_code.specs.Header.{HeaderFields, octets_of_fields}
use Rattle.dns_code.proofs.theory.HeaderOctets.{length-octets_of_fields}
use Rattle.dns_item.specs.Questions.{QuestionItem, encode_question}
use Rattle.dns_item.specs.Items.{RecordItem, encode_record}
use Rattle.dns_build.specs.State.{State, IsState, encode, no_limit, most_entries}
use Rattle.dns_build.specs.BuilderStates.{PushReturns}
use Rattle.dns_build.specs.MessageOf.{IsMessageOf}
use Rattle.dns_build.specs.declared.push_error.PushError.{PushError}
use Rattle.dns_build.specs.declared.push_error.PushError.TheVariants as pushing
use Rattle.dns_build.proofs.theory.EncodingReading.{encodings_are_messages}
use Rattle.dnsm_make.specs.Made.{asking, answering, address_record}

-- The octets of a finished builder are a message.

-- Octets that are the encoding of a state are its message.
pub is_message : (rule : Rule) (s : State) (octets : List ℕ) → IsState s → octets ≡ (encode rule s).octets → IsMessageOf rule s octets
is_message rule s octets state encoded = subst (IsMessageOf rule s) (sym encoded) (encodings_are_messages rule s state)

-- No push fails if the message fits.

-- an item is pushed if the message has at most 512 octets, no limit, and a count that isn't full
pub never_refused : (e : PushError) (n limit count : ℕ) → n ≤ 512 → limit ≡ no_limit → count < most_entries → PushReturns (Some 512) false limit n count (Err e) → ⊥
never_refused pushing.ShortBuf n limit count small none few h = omega arith
never_refused pushing.OutOfMemory n limit count small none few h = let grows : IsTrue false = h in cc
never_refused pushing.LimitExceeded n limit count small none few h = let over = h.1 in omega arith
never_refused pushing.CountOverflow n limit count small none few h = let full = h.2 in omega arith

-- How long they are.

name_short : (rule : Rule) (name : Labels) (m : CompressionTable) (w : ℕ) → IsName name → length (encode_name rule name m w).octets ≤ 255
name_short rule name m w is = let short = is.short in omega (arith, names_are_short rule name m w, length-uncompressed name)

-- a header section and a question
pub asked_short : (rule : Rule) (header : HeaderFields) (x : QuestionItem) → IsName x.name → length (encode rule (asking header x)).octets ≤ 512
unfolding encode encode_question
asked_short rule header x is =
    let four = length-octets_of_fields header in
    let name = name_short rule x.name nothing (length (octets_of_fields header) + 8) is in
    simp length-append (omega (arith, name, four))

-- if a name isn't in the table and may enter it, its first label is written before its parent
first_compressed : (label : List ℕ) (suffix : Suffix) (after : CompressedName) (o : Option TableEntry) (enters : Bool) → o ≡ None → enters ≡ true
    → compress_label o enters label suffix after ≡ record { octets = framed label ++ after.octets; suffixes = suffix ∷ after.suffixes }
first_compressed label suffix after o enters none may = λ i. compress_label (none i) (may i) label suffix after

-- a name in the table takes 2 octets at most
entry_short : (label : List ℕ) (suffix : Suffix) (after : CompressedName) (o : Option TableEntry) (enters : Bool) (x : TableEntry) → o ≡ Some x
    → length (compress_label o enters label suffix after).octets ≤ 2
entry_short label suffix after o enters x known =
    let two : length (compress_label o enters label suffix after).octets ≡ 2 = λ i. length (compress_label (known i) enters label suffix after).octets in omega arith

-- the table entry of a name whose labels were all written
listed_first : (suffix : Suffix) (end : ℕ) (ss rest : List Suffix) → ss ≡ suffix ∷ rest → get (add_suffixes nothing ss end) suffix.labels ≡ Some (record { offset = suffix.offset; end = end })
listed_first suffix end ss rest is =
    ap (λ (xs : List Suffix). get (add_suffixes nothing xs end) suffix.labels) is ∙ get-insert_same (add_suffixes nothing rest end) suffix.labels (record { offset = suffix.offset; end = end })

-- the first name of a message takes 2 octets at most when it is written again
again_at : (name : Labels) (v : ℕ) → length (encode_name Static name (encode_name Static name nothing 12).table v).octets ≤ 2
unfolding encode_name
again_at [] v = omega arith
again_at (label ∷ rest) v =
    let entry_count = len nothing in
    let suffix : Suffix = record { labels = label ∷ rest; offset = 12 } in
    let after = compress Static nothing (12 + 1 + length label) (entry_count + 1) rest in
    let compressed = compress Static nothing 12 entry_count (label ∷ rest) in
    let may : may_enter Static 12 entry_count ≡ true = ap (may_enter Static 12) (len-empty suffix_cmp TableEntry) in
    let first = first_compressed label suffix after (get nothing (label ∷ rest)) (may_enter Static 12 entry_count) (get-empty suffix_cmp (label ∷ rest)) may in
    let end = 12 + length compressed.octets in
    let table = add_suffixes nothing compressed.suffixes end in
    entry_short label (record { labels = label ∷ rest; offset = v }) (compress Static table (v + 1 + length label) (len table + 1) rest) (get table (label ∷ rest)) (may_enter Static v (len table))
    (record { offset = 12; end = end }) (listed_first suffix end compressed.suffixes after.suffixes (ap (λ (s : CompressedName). s.suffixes) first))

again_short : (name : Labels) (w v : ℕ) → w ≡ 12 → length (encode_name Static name (encode_name Static name nothing w).table v).octets ≤ 2
again_short name w v first = subst (λ k. length (encode_name Static name (encode_name Static name nothing k).table v).octets ≤ 2) (sym first) (again_at name v)

-- a message with a question and an A record
pub answered_short : (header : HeaderFields) (x : QuestionItem) (ttl : ℕ) (address : List ℕ) → length address ≡ 4 → IsName x.name
    → length (encode Static (answering header x (address_record x ttl address))).octets ≤ 512
unfolding encode encode_question encode_record encode_parts
answered_short header x ttl address quad is =
    let four = length-octets_of_fields header in
    let w = length (octets_of_fields header) + 8 in
    let name = name_short Static x.name nothing w is in
    let again = again_short x.name w (w + (length (encode_name Static x.name nothing w).octets + 4)) (omega (arith, four)) in
    simp length-append (omega (arith, name, again, four, quad))

-- an A record, field by field
pub address_item : (x : QuestionItem) (item : RecordItem) (ttl : ℕ) (octets address : List ℕ) → item.owner ≡ x.name → item.rtype ≡ 1 → item.class ≡ x.class → item.ttl ≡ ttl
    → item.parts ≡ Octets octets ∷ [] → octets ≡ address → item ≡ address_record x ttl address
address_item x item ttl octets address owner rtype class same_ttl parts is =
    let filled = parts ∙ ap (λ (o : List ℕ). let one : List Part = Octets o ∷ [] in one) is in
    λ i. record { owner = owner i; rtype = rtype i; class = class i; ttl = same_ttl i; parts = filled i }
