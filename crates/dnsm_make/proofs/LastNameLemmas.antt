-- Names in the compression table of a target, and the name that was written last.
use Rattle.std.proofs.Common.{◌≡◌, ◌≢◌, ◌∙◌, ℕ, ◌+◌, ◌<◌, Bool, true, false, List, [], ◌∷◌, ◌++◌, length, length-append, ap, sym, subst, refl, arith}
use Rattle.std.proofs.lemmas.Bool.{lt-ltb}
use Rattle.std.specs.FinMap.{get, len}
use Rattle.std.specs.Prelude.{OnOk, Option, Some, None, Result, Ok, Err}
use Rattle.dns_octets.specs.declared.error.AppendError.{AppendError}
use Rattle.dns_name.specs.Names.{Labels, IsName, NameAt, uncompressed, pointer_end}
use Rattle.dns_name.proofs.theory.Names.{one_name}
use Rattle.dns_wire.specs.Encoders.{CompressionTable, CompressedName, Suffix, TableEntry, Tree, add_suffixes, compress, compress_label, encode_name, encode_octets, may_enter, pointer}
use Rattle.dns_wire.specs.Targets.{Appends, AppendReturns, At, IsTarget, Labelled, Written, append, overwrite}
use Rattle.dns_wire.proofs.theory.CompressedNames.{compressed_name_at}
use Rattle.dns_wire.proofs.theory.CompressionTables.{get-insert_same}
use Rattle.dns_wire.proofs.theory.EncodedNames.{compressed_full}
use Rattle.dns_wire.proofs.theory.TargetTheorems.{entries_are_names}
use Rattle.dnsm_make.specs.LastNames.{IsLast, IsPointer}

-- a name with labels that is in the table is written as a pointer, and the table stays
known_name : (name : Labels) (m : CompressionTable) (w : ℕ) (x : TableEntry) → name ≢ [] → get m name ≡ Some x → encode_name Tree name m w ≡ encode_octets (pointer x.offset) m w
unfolding encode_name
known_name [] m w x some known = absurd (some refl)
known_name (label ∷ rest) m w x some known =
    let suffix : Suffix = record { labels = label ∷ rest; offset = w } in
    let parent = compress Tree m (w + 1 + length label) (len m + 1) rest in
    λ i.
    let written : CompressedName = compress_label (known i) (may_enter Tree w (len m)) label suffix parent in
    record { octets = written.octets; table = add_suffixes m written.suffixes (w + length written.octets) }

-- a name that is written with its first label is then in the table, if it may enter it
entered_by : (label : List ℕ) (rest : Labels) (m : CompressionTable) (w end : ℕ) (o : Option TableEntry) (enters : Bool) (parent : CompressedName) → enters ≡ true
    → 2 < length (compress_label o enters label (record { labels = label ∷ rest; offset = w }) parent).octets
    → (x : TableEntry) × (get (add_suffixes m (compress_label o enters label (record { labels = label ∷ rest; offset = w }) parent).suffixes end) (label ∷ rest) ≡ Some x)
    × (x.offset ≡ w)
entered_by label rest m w end (Some y) enters parent may long = absurd (omega arith)
entered_by label rest m w end None true parent may long =
    let x : TableEntry = record { offset = w; end = end } in
    (x, get-insert_same (add_suffixes m parent.suffixes end) (label ∷ rest) x, refl)
entered_by label rest m w end None false parent may long = absurd (cc)

-- a name that is written below offset 16,384, in more octets than a pointer has, is then in the table with its offset
name_entered : (name : Labels) (m : CompressionTable) (w : ℕ) → w < pointer_end → 2 < length (encode_name Tree name m w).octets
    → (x : TableEntry) × (get (encode_name Tree name m w).table name ≡ Some x) × (x.offset ≡ w)
unfolding encode_name
name_entered [] m w near long = absurd (omega arith)
name_entered (label ∷ rest) m w near long =
    entered_by label rest m w _ (get m (label ∷ rest)) (may_enter Tree w (len m)) (compress Tree m (w + 1 + length label) (len m + 1) rest) (lt-ltb w pointer_end near) long

-- Equal octets are at an equal offset.
pub at_same : (b c xs ys : List ℕ) (p q : ℕ) → b ≡ c → p ≡ q → xs ≡ ys → At b p xs → At c q ys
at_same b c xs ys p q content offset octets at =
    subst (λ (o : List ℕ). At o q ys) content (subst (λ (n : ℕ). At b n ys) offset (subst (λ (o : List ℕ). At b p o) octets at))

-- The name whose uncompressed octets are at the offset of a table entry is that of the entry, and its encoding is a pointer to it.
pub last_pointer : (w : Written) (last : ℕ) (name : Labels) → IsTarget w → IsName name → IsLast w last → 0 < last → At w.octets last (uncompressed name) → IsPointer w name last × (last < pointer_end)
last_pointer w last name target is is_last some at =
    let known = is_last some in
    let entry = known.1 in
    let recalled = entries_are_names w.octets w.table known.0 entry target known.2 in
    let entered : NameAt w.octets last known.0 = subst (λ (p : ℕ). NameAt w.octets p known.0) known.3 recalled.encoded in
    let own : NameAt w.octets last name = compressed_name_at target is.short (compressed_full w.table w.octets _ last name is at refl) in
    let same : known.0 ≡ name = one_name w.octets last known.0 name entered own in
    let there : get w.table name ≡ Some entry = subst (λ (n : Labels). get w.table n ≡ Some entry) same known.2 in
    let labelled = target.each name entry there in
    let some_labels : name ≢ [] = λ root. subst (λ (n : Labels). Labelled w.table w.octets entry.end entry.offset n) root labelled.compressed in
    let near = recalled.in_range in
    let offset = known.3 in (
      known_name name w.table (length w.octets) entry some_labels there ∙ ap (λ (p : ℕ). encode_octets (pointer p) w.table (length w.octets)) offset,
      omega arith,
    )

-- Appending the pointer that is the encoding of a name is appending the name.
pub appends_pointer : {X : Type 0} (old inside new : Written) (name : Labels) (last : ℕ) (octets : List ℕ) (r : Result X AppendError) → inside ≡ old → octets ≡ pointer last → IsPointer old name last
    → Appends None true (encode_octets octets) inside new r → Appends None true (encode_name Tree name) old new r
appends_pointer {X} old inside new name last octets r view written is a =
    let same : append (encode_octets (pointer last)) old ≡ append (encode_name Tree name) old = λ i. record { octets = old.octets ++ (sym is i).octets; table = (sym is i).table } in
    let b : Appends None true (encode_octets (pointer last)) old new r =
    subst (λ (t : Written). Appends None true (encode_octets (pointer last)) t new r) view (subst (λ (o : List ℕ). Appends None true (encode_octets o) inside new r) written a) in
    record {
      ok = subst (λ (t : Written). OnOk r (new ≡ t)) same b.ok;
      err = b.err;
      outcome = subst (λ (t : Written). AppendReturns None true (length t.octets) r) same b.outcome;
    }

-- The offset stays that of a name in the table as long as the table stays.
pub last_stays : (old new : Written) (last : ℕ) → new.table ≡ old.table → IsLast old last → IsLast new last
last_stays old new last same is_last = λ some. let known = is_last some in (known.0, known.1, ap (λ (m : CompressionTable). get m known.0) same ∙ known.2, known.3)

-- Octets that are written over others leave the table.
pub overwrite_stays : (old new : Written) (offset : ℕ) (octets : List ℕ) (last : ℕ) → new ≡ overwrite offset octets old → IsLast old last → IsLast new last
overwrite_stays old new offset octets last is = last_stays old new last (ap (λ (t : Written). t.table) is)

-- Octets that are appended leave the table.
pub octets_stay : {X : Type 0} (old new : Written) (octets : List ℕ) (last : ℕ) (r : Result X AppendError) → Appends None true (encode_octets octets) old new r → IsLast old last → IsLast new last
octets_stay old new octets last (Ok x) a = last_stays old new last (ap (λ (t : Written). t.table) a.ok)
octets_stay old new octets last (Err e) a = last_stays old new last (ap (λ (t : Written). t.table) a.err)

-- The offset of a name that was appended, in more octets than a pointer has, is that of a name in the table.
pub name_is_last : {X : Type 0} (old new : Written) (name : Labels) (last offset end : ℕ) (r : Result X AppendError) → Appends None true (encode_name Tree name) old new r → offset ≡ length old.octets
    → end ≡ length new.octets → (0 < last → (last ≡ offset) × (offset < pointer_end) × (offset + 2 < end)) → IsLast new last
name_is_last old new name last offset end (Ok x) a begins ends is =
    λ some.
    let w = length old.octets in
    let encoded = encode_name Tree name old.table w in
    let size : length new.octets ≡ w + length encoded.octets = ap (λ (t : Written). length t.octets) a.ok ∙ length-append old.octets encoded.octets in
    let near = (is some).1 in
    let long = (is some).2 in
    let entered = name_entered name old.table w (omega arith) (omega arith) in
    (name, entered.0, ap (λ (t : Written). get t.table name) a.ok ∙ entered.1, entered.2 ∙ sym begins ∙ sym (is some).0)
name_is_last old new name last offset end (Err e) a begins ends is =
    λ some.
    let long = (is some).2 in
    let size : length new.octets ≡ length old.octets = ap (λ (t : Written). length t.octets) a.err in
    absurd (omega arith)
