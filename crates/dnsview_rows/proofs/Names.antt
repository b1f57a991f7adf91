-- The rows of names.
use Rattle.dnsview_rows.specs.Named.{LabelRows, NameRows}
use Rattle.dnsview_rows.specs.Named.LabelRows.{none as no_labels, label as row_label}
use Rattle.std.proofs.Common.{◌≡◌, ℕ, ◌+◌, ◌-◌, ◌≤◌, OnOk, Result, Err, List, [], ◌∷◌, ◌++◌, length, slice_get, slice_range, Option, Some, None, Ok, ◌∙◌, ap}
use Rattle.std.proofs.Common.{subst, sym, refl, arith, append_assoc, append-nil}
use Rattle.std.proofs.lemmas.List.{take_all}
use Rattle.std.proofs.lemmas.Grind.{common_steps}
use Rattle.dns_name.specs.Names.{head_at, max_size, Fault, Faulty, NameContinues}
use Rattle.dns_name.specs.Names.Faulty.{head as head_fault, long as long_fault, cut as cut_fault, ahead as ahead_fault, label as label_fault, pointer as pointer_fault}
use Rattle.dns_name.specs.Names.NameContinues.{root as root_ends, pointer as pointer_ends, label as label_ends}
use Rattle.dns_name.specs.declared.head.Head.TheVariants.{Label}
use Rattle.dns_name.proofs.theory.HeadLemmas.{root_there, root_begins}
use Rattle.dnsview_rows.specs.Named.NameRows.{root as root_rows, pointer as pointer_rows, label as label_rows}
use Rattle.dnsview_rows.specs.Faults.{LacksName}
use Rattle.dnsview_rows.specs.Fields.{field_row}
use Rattle.dnsview_rows.specs.declared.row.RowFault.{RowFault}
use Rattle.dnsview_rows.specs.Walks.{at, octets, Adds, IsEnd, IsLabelAt, MissesItemName, MissesName, CoversLabels, CoversAllLabels, CoversEnd}
use Rattle.dnsview_rows.specs.Walks.IsEnd.{root as root_end, pointer as pointer_end}
use Rattle.dnsview_rows.specs.declared.row.RowField.{RowField}
use Rattle.dnsview_rows.specs.declared.row.RowField.TheVariants as fields
use Rattle.dnsview_rows.specs.declared.row.NameOf.{NameOf}
use Rattle.dnsview_rows.specs.declared.row.Row.{Row}
use Rattle.dnsview_rows.specs.declared.walk.Stop.{Stop}
use Rattle.dnsview_rows.specs.declared.walk.Walk.{Walk}
use Rattle.dns_name.specs.Parsers.{offset, seen}
use Rattle.dns_name.specs.declared.parser.Parser.{Parser}

-- the octets from the first to the last are all
pub whole_range : (b : List ℕ) (n p : ℕ) → p ≡ 0 → p + n ≡ length b → slice_range b p (p + n) ≡ b
whole_range b n p z e = grind (arith, common_steps, take_all {A = ℕ})

-- rows that a walk adds, and then more rows
pub adds_then : (x y : List Row) (m n : ℕ) (a b c : Walk) → Adds x m a b → Adds y n b c → Adds (x ++ y) n a c
adds_then x y m n a b c h k = record {
  rows = k.rows ∙ ap (λ rows. rows ++ y) h.rows ∙ append_assoc a.rows.items x y;
  seen = k.seen ∙ h.seen;
  offset = k.offset;
}

-- the encoded length of a name, past the label at p
label_after : (b : List ℕ) (p s n q : ℕ) → head_at b p ≡ Ok (Label n) → NameContinues b p s q → NameContinues b (p + 1 + n) (s + n + 1) q
label_after b p s n q h (root_ends k) = cc
label_after b p s n q h (pointer_ends k) = cc
label_after b p s n q h (label_ends {n = m} k short fits w) =
    let same : m ≡ n = cc in
    subst (λ n. NameContinues b (p + 1 + n) (s + n + 1) q) same w

-- the fault past the label at p
fault_after : (b : List ℕ) (p s n : ℕ) (f : Fault) → IsLabelAt b p s n → Faulty b p s f → Faulty b (p + 1 + n) (s + n + 1) f
fault_after b p s n f label (head_fault k) = cc (k, label.begins)
fault_after b p s n f label (long_fault {n = m} k long) = let same : m ≡ n = cc (k, label.begins) in absurd (omega (arith, same, long, label.short))
fault_after b p s n f label (cut_fault {n = m} k short cut) = let same : m ≡ n = cc (k, label.begins) in absurd (omega (arith, same, cut, label.fits))
fault_after b p s n f label (ahead_fault k w) = cc (k, label.begins)
fault_after b p s n f label (label_fault {n = m} k short fits w) =
    let same : m ≡ n = cc (k, label.begins) in
    subst (λ n. Faulty b (p + 1 + n) (s + n + 1) f) same w
fault_after b p s n f label (pointer_fault k back w) = cc (k, label.begins)

-- one label more after labels
label_more : (b : List ℕ) (of : NameOf) {start p q n : ℕ} {rows : List Row} → LabelRows b of start p q rows → head_at b q ≡ Ok (Label n) → (q - start) + n + 1 ≤ max_size → q + 1 + n ≤ length b
    → LabelRows b of start p (q + 1 + n) (rows ++ field_row q (q + 1 + n) (fields.Label of) ∷ [])
label_more b of no_labels h short fits = row_label h short fits no_labels
label_more b of (row_label k w x l) h short fits = row_label k w x (label_more b of l h short fits)

-- labels, and then the remaining name
labels_then : (b : List ℕ) (of : NameOf) {first start p q end : ℕ} {rows after : List Row} → LabelRows b of first p q rows → NameRows b of start q end after → NameRows b of start p end (rows ++ after)
labels_then b of no_labels r = r
labels_then b of (row_label k w x l) r = label_rows k (labels_then b of l r)

-- the name ends where no label begins
end_here : (b : List ℕ) (p s q : ℕ) → ((n : ℕ) → IsLabelAt b p s n → ⊥) → NameContinues b p s q → IsEnd b p q
end_here b p s q none (root_ends k) = root_end k
end_here b p s q none (pointer_ends k) = pointer_end k
end_here b p s q none (label_ends {n = n} k short fits w) = absurd (none n (record { begins = k; short = short; fits = fits }))

-- a walk that went over no label yet
pub none_skipped : (of : NameOf) (old : Walk) → CoversLabels of 0 old old
none_skipped of old = record {
  rows = [];
  adds = record { rows = sym (append-nil old.rows.items); seen = refl; offset = refl };
  shown = no_labels;
  ends = λ q w. w;
  faults = λ f w. w;
  sizes = omega arith;
}

-- a walk goes over one label more
pub one_more_label : (of : NameOf) (size n : ℕ) (old mid new : Walk) → CoversLabels of size old mid → IsLabelAt (octets mid) (at mid) size n
    → Adds (field_row (at mid) (at mid + (n + 1)) (fields.Label of) ∷ []) (at mid + (n + 1)) mid new → CoversLabels of (size + (n + 1)) old new
one_more_label of size n old mid new h label k =
    let b = octets old in
    let row = field_row (at mid) (at mid + (n + 1)) (fields.Label of) in
    let begins : head_at b (at mid) ≡ Ok (Label n) = subst (λ b. head_at b (at mid) ≡ Ok (Label n)) h.adds.seen label.begins in
    let to : at new ≡ at mid + 1 + n = k.offset ∙ omega arith in
    let all = adds_then h.rows (row ∷ []) (at mid) (at mid + (n + 1)) old mid new h.adds k in
    record {
      rows = h.rows ++ row ∷ [];
      adds = record { rows = all.rows; seen = all.seen; offset = refl };
      shown =
          let begins_there : IsLabelAt b (at mid) size n = subst (λ b. IsLabelAt b (at mid) size n) h.adds.seen label in
          let short : (at mid - at old) + n + 1 ≤ max_size = omega (arith, h.sizes, begins_there.short) in
          let there = label_more b of h.shown begins_there.begins short begins_there.fits in
          let same : at mid + 1 + n ≡ at mid + (n + 1) = omega arith in
          let P : ℕ → ℕ → Type 0 = λ offset end. LabelRows b of (at old) (at old) offset (h.rows ++ field_row (at mid) end (fields.Label of) ∷ []) in
          subst (λ end. P (at new) end) same (subst (λ offset. P offset (at mid + 1 + n)) (sym to) there);
      faults = λ f w.
          let begins_there : IsLabelAt b (at mid) size n = subst (λ b. IsLabelAt b (at mid) size n) h.adds.seen label in
          let there = fault_after b (at mid) size n f begins_there (h.faults f w) in
          let grown : size + n + 1 ≡ size + (n + 1) = omega arith in
          subst (λ s. Faulty b (at new) s f) grown (subst (λ p. Faulty b p (size + n + 1) f) (sym to) there);
      sizes = omega (arith, to, h.sizes);
      ends = λ q w.
          let there = label_after b (at mid) size n q begins (h.ends q w) in
          let grown : size + n + 1 ≡ size + (n + 1) = omega arith in
          subst (λ s. NameContinues b (at new) s q) grown (subst (λ p. NameContinues b p (size + n + 1) q) (sym to) there);
    }

-- a walk went over all labels of a name if none begins at its offset
pub all_labels : (of : NameOf) (size : ℕ) (old new : Walk) → CoversLabels of size old new → ((n : ℕ) → IsLabelAt (octets new) (at new) size n → ⊥) → CoversAllLabels of old new
all_labels of size old new h none =
    let none_there : (n : ℕ) → IsLabelAt (octets old) (at new) size n → ⊥ = subst (λ (b : List ℕ). (n : ℕ) → IsLabelAt b (at new) size n → ⊥) h.adds.seen none in
    let same : size ≡ at new - at old = omega (arith, h.sizes) in
    record {
      rows = h.rows;
      adds = h.adds;
      shown = h.shown;
      labels = λ start end after r. labels_then (octets old) of h.shown r;
      ends = λ q w. end_here (octets old) (at new) size q none_there (h.ends q w);
      order = omega (arith, h.sizes);
      faults = λ f w. subst (λ s. Faulty (octets old) (at new) s f) same (h.faults f w);
      none = subst (λ s. (n : ℕ) → IsLabelAt (octets old) (at new) s n → ⊥) same none_there;
    }

-- a name ends at p with a root label if the octet there is zero, else with a pointer
pub root_row : (b : List ℕ) (of : NameOf) (start p q : ℕ) → slice_get b p ≡ Some 0 → IsEnd b p q → NameRows b of start p q (field_row p q (fields.Root of start) ∷ [])
root_row b of start p q h (root_end k) = root_rows k
root_row b of start p q h (pointer_end {t = t} k) = let r = root_begins b p h in absurd (cc (r, k))

-- A pointer has one row.
pub pointer_row : (b : List ℕ) (of : NameOf) (start p q : ℕ) → (slice_get b p ≡ Some 0 → ⊥) → IsEnd b p q → NameRows b of start p q (field_row p q (fields.Pointer of start) ∷ [])
pointer_row b of start p q h (root_end k) = absurd (h (root_there b p k))
pointer_row b of start p q h (pointer_end k) = pointer_rows k

-- the row for the end of a name, or no row if the allocation fails
pub end_skipped : (of : NameOf) (start : ℕ) (row : Row) (old new : Walk) (after : Parser) (r : Result Unit Stop) → seen after ≡ octets old
    → OnOk r (new.rows.items ≡ old.rows.items ++ row ∷ []) → OnOk r (new.parser ≡ after)
    → NameRows (octets old) of start (at old) (offset after) (row ∷ []) → OnOk r (CoversEnd of start (offset after) old new)
end_skipped of start row old new after (Ok v) e h k shows = record {
  rows = row ∷ [];
  adds = record { rows = h; seen = ap (λ p. seen p) k ∙ e; offset = ap (λ p. offset p) k };
  shows = shows;
}
end_skipped of start row old new after (Err stop) e h k shows = tt

-- a row at the offset of a walk
pub adds_row : (x : List Row) (old mid new : Walk) (p n e : ℕ) (field : RowField) → Adds x p old mid
    → Adds (field_row (at mid) (at mid + n) field ∷ []) (at mid + n) mid new → e ≡ p + n → Adds (x ++ field_row p e field ∷ []) e old new
adds_row x old mid new p n e field h k same =
    let P : ℕ → Type 0 = λ m. Adds (field_row m (m + n) field ∷ []) (m + n) mid new in
    let there = subst P h.offset k in
    let Q : ℕ → Type 0 = λ e. Adds (x ++ field_row p e field ∷ []) e old new in
    subst Q (sym same) (adds_then x (field_row p (p + n) field ∷ []) p (p + n) old mid new h there)

-- Equal options have equal values.
pub some_same : (m n : ℕ) → Some m ≡ Some n → m ≡ n
some_same m n e = cc

-- No value is none.
pub not_none : (n : ℕ) → let none : Option ℕ = None in none ≡ Some n → ⊥
not_none n e = cc

-- the walk stopped in the name that an item begins with
pub item_misses : (of : NameOf) (row : Row) (old mid new : Walk) (fault : RowFault) → mid.rows.items ≡ old.rows.items ++ row ∷ [] → mid.parser ≡ old.parser → MissesName of mid new fault
    → MissesItemName of row old new fault
item_misses of row old mid new fault rows same h = record {
  rows = h.rows;
  adds = h.adds ∙ ap (λ front. front ++ h.rows) rows ∙ append_assoc old.rows.items (row ∷ []) h.rows;
  f = h.f;
  lacks = subst (λ p. LacksName (seen p) of (offset p) h.f (at new) fault h.rows) same h.lacks;
}
