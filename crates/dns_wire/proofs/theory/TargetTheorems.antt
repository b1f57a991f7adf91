-- Suffixes in the table are encoded where it says, and what is written reads back.
use Rattle.std.proofs.Common.{◌≡◌, ℕ, List, [], ◌∷◌, length, arith, ◌+◌, ◌<◌, ◌≤◌, ◌++◌, append-nil, sym, refl, subst}
use Rattle.std.specs.Prelude.{Ok}
use Rattle.dns_name.specs.Names.{Labels, head_at, NameContinues}
use Rattle.dns_name.specs.declared.head.Head.TheVariants.{Label, Root, Pointer}
use Rattle.dns_wire.specs.Encoders.{CompressionTable, Rule}
use Rattle.dns_wire.specs.Parts.{encode_parts, WellPointed, Part, Octets, CompressibleName, UncompressedName, AreParts, PartsFill, LabelsInPointerRange}
use Rattle.dns_wire.specs.Targets.{Compressed, Labelled, IsTableOf, append, Written, IsTarget}
use Rattle.dns_wire.specs.Targets.Compressed.{root, label, pointer}
use Rattle.dns_wire.specs.TargetLaws.{EntriesAreNames, NothingIsTarget, EncodersStayAtOrAfter, NamesStayAtOrAfter, NamesReadBack, PartsReadBack}
use Rattle.dns_wire.specs.Compression.{PartsPointToLabels, ShortPartsAreInPointerRange}
use Rattle.dns_wire.proofs.theory.CompressionTables.{at_or_after_more, nothing_is_kept}
use Rattle.dns_wire.proofs.theory.EncodedNames.{encode_name_grows}
use Rattle.dns_wire.proofs.theory.CompressedNames.{root_at, label_begins, pointer_at, compressed_long, kept_compressed, compressed_name_at, compressed_ends, name_at_up_to}
use Rattle.dns_wire.proofs.theory.EncoderLaws.{encodes_name, encodes_parts, parts_at, HasName, HasParts}

-- A label begins where an encoded name begins with one.
begins : (m : CompressionTable) (b : List ℕ) (q p : ℕ) (name : Labels) → Labelled m b q p name → (n : ℕ) × (head_at b p ≡ Ok (Label n))
begins m b q p [] h = absurd h
begins m b q p (first ∷ rest) h = (length first, label_begins h.0 h.1)

-- The pointers of an encoded name lead to earlier labels.
pub pointed : {m : CompressionTable} {b : List ℕ} {q p : ℕ} {name : Labels} → IsTableOf b m → Compressed m b q p name → WellPointed b q p
pointed r (root h e) = WellPointed.root (root_at h) e
pointed r (label l h x) = WellPointed.label (label_begins l h) (pointed r x)
pointed {m = m} {b = b} r (pointer {name = name} {x = x} e before h is) =
    let k = r.each name x e in
    let w = compressed_long (kept_compressed name x k) in
    WellPointed.pointer (pointer_at x.offset k.in_range h) (omega (arith, w.0)) k.in_range (begins m b x.end x.offset name k.compressed).1 is

-- Suffixes in the table are encoded where it says.
pub entries_are_names : EntriesAreNames
entries_are_names b m s x r e =
    let k = r.each s x e in
    let h = kept_compressed s x k in
    let w = compressed_long h in
    record {
      in_range = k.in_range;
      ordered = w.0;
      within = w.1;
      labelled = begins m b x.end x.offset s k.compressed;
      encoded = compressed_name_at r k.short h;
      name_at_up_to = name_at_up_to x.end r (omega arith) k.short h;
    }

-- An empty table is sound for all octets.
pub nothing_is_target : NothingIsTarget
nothing_is_target b = nothing_is_kept b

-- A growing encoding keeps all entries at or after an offset.
pub encoders_stay_at_or_after : EncodersStayAtOrAfter
encoders_stay_at_or_after encoder t offset grows l h = at_or_after_more offset l (grows.grows t.table (length t.octets)) h

-- So does a name.
pub names_stay_at_or_after : NamesStayAtOrAfter
names_stay_at_or_after rule t name offset l h = encoders_stay_at_or_after _ t offset (encode_name_grows rule name) l h

-- A written name reads back.
pub names_read_back : NamesReadBack
names_read_back rule t name is h =
    let p = encodes_name rule name is in
    let u = p.keeps t h in
    let s = p.encodes t h in
    record { encoded = compressed_name_at u is.short s; name_ends = compressed_ends 0 u (omega (arith, is.short)) s; pointed = pointed u s }

-- Written parts read back.
pub parts_read_back : PartsReadBack
parts_read_back rule t parts is h =
    let p = encodes_parts rule parts is in
    let u = append (encode_parts rule parts) t in
    (parts_at parts u (length t.octets) (length u.octets) is (p.keeps t h) (p.encodes t h), p.keeps t h)

-- The labels and the pointers of written parts.

-- `IsWritten` holds of each name encoded in a target.
abbrev pub OfEachName : Written → (ℕ → ℕ → Type 0) → Type 0
OfEachName t IsWritten = (p q : ℕ) (name : Labels) → HasName name t p q → IsWritten p q

-- Parts that a target has between two offsets fill the octets there, before other parts.
pub parts_fill : {IsWritten : ℕ → ℕ → Type 0} (t : Written) → OfEachName t IsWritten → (parts rest : List Part) (p q end : ℕ) → HasParts parts t p q
    → PartsFill IsWritten end q rest → PartsFill IsWritten end p (parts ++ rest)
parts_fill {IsWritten} t each [] rest p q end h more = subst (λ k. PartsFill IsWritten end k rest) (sym h) more
parts_fill {IsWritten} t each (Octets xs ∷ parts) rest p q end h more =
    subst (λ k. PartsFill IsWritten end k (parts ++ rest)) h.1.1 (parts_fill t each parts rest h.0 q end h.2 more)
parts_fill t each (CompressibleName name ∷ parts) rest p q end h more = (h.0, each p h.0 name h.1, parts_fill t each parts rest h.0 q end h.2 more)
parts_fill {IsWritten} t each (UncompressedName lowercased name ∷ parts) rest p q end h more =
    subst (λ k. PartsFill IsWritten end k (parts ++ rest)) h.1.1 (parts_fill t each parts rest h.0 q end h.2 more)

-- Parts that are written at the end fill the octets there.
encode_parts_fill : {IsWritten : ℕ → ℕ → Type 0} (rule : Rule) (t : Written) (parts : List Part) → AreParts parts → IsTarget t
    → let u = append (encode_parts rule parts) t in OfEachName u IsWritten → PartsFill IsWritten (length u.octets) (length t.octets) parts
encode_parts_fill {IsWritten} rule t parts is good each =
    let u = append (encode_parts rule parts) t in
    let end = length u.octets in
    subst (λ (l : List Part). PartsFill IsWritten end (length t.octets) l) (append-nil parts)
    (parts_fill u each parts [] (length t.octets) end end ((encodes_parts rule parts is).encodes t good) refl)

-- Each pointer in written parts leads to an earlier label.
pub parts_point_to_labels : PartsPointToLabels
parts_point_to_labels rule t parts is good =
    let keeps = (encodes_parts rule parts is).keeps t good in encode_parts_fill rule t parts is good (λ p q name h. pointed keeps h)

-- In at most 16,384 octets, the labels of a name are within pointer range.
pub compressed_in_range : {m : CompressionTable} {b : List ℕ} {q p : ℕ} {name : Labels} → length b ≤ 16384 → IsTableOf b m → Compressed m b q p name → LabelsInPointerRange b q p
compressed_in_range l r (root h e) = LabelsInPointerRange.root (root_at h) e
compressed_in_range l r (label is h x) = let w = compressed_long x in LabelsInPointerRange.label (label_begins is h) (omega (arith, w)) (compressed_in_range l r x)
compressed_in_range l r (pointer {name = name} {x = x} e before h is) = LabelsInPointerRange.pointer (pointer_at x.offset (r.each name x e).in_range h) is

-- So are those of parts.
pub short_parts_are_in_pointer_range : ShortPartsAreInPointerRange
short_parts_are_in_pointer_range rule t parts is good l =
    let keeps = (encodes_parts rule parts is).keeps t good in encode_parts_fill rule t parts is good (λ p q name h. compressed_in_range l keeps h)

-- If labels are within pointer range, the first one is, and so are the labels after it.
pub in_range_label : {b : List ℕ} {q p n : ℕ} → LabelsInPointerRange b q p → head_at b p ≡ Ok (Label n) → (p < 16384) × LabelsInPointerRange b q (p + 1 + n)
in_range_label (LabelsInPointerRange.root h end) e = cc
in_range_label (LabelsInPointerRange.pointer h end) e = cc
in_range_label {b = b} {q = q} {p = p} (LabelsInPointerRange.label {n = k} h in_range x) e =
    let P : ℕ → Type 0 = λ n. (p < 16384) × LabelsInPointerRange b q (p + 1 + n) in subst P (cc) (in_range, x)

-- At a zero octet they end after it.
in_range_root : {b : List ℕ} {q p : ℕ} → LabelsInPointerRange b q p → head_at b p ≡ Ok Root → q ≡ p + 1
in_range_root (LabelsInPointerRange.root h end) e = end
in_range_root (LabelsInPointerRange.label h in_range x) e = cc
in_range_root (LabelsInPointerRange.pointer h end) e = cc

-- At a pointer they end after its two octets.
in_range_pointer : {b : List ℕ} {q p t : ℕ} → LabelsInPointerRange b q p → head_at b p ≡ Ok (Pointer t) → q ≡ p + 2
in_range_pointer (LabelsInPointerRange.root h end) e = cc
in_range_pointer (LabelsInPointerRange.label h in_range x) e = cc
in_range_pointer (LabelsInPointerRange.pointer h end) e = end

-- They end where the encoding of the name does.
pub in_range_end : {b : List ℕ} {q r p s : ℕ} → NameContinues b p s r → LabelsInPointerRange b q p → q ≡ r
in_range_end (NameContinues.root h) in_range = in_range_root in_range h
in_range_end (NameContinues.pointer h) in_range = in_range_pointer in_range h
in_range_end (NameContinues.label h small fits x) in_range = in_range_end x (in_range_label in_range h).1
