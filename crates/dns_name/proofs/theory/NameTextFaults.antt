-- A text has at most one leftmost fault, and none if it represents a name.
use Rattle.std.proofs.Common.{◌≡◌, ◌∙◌, ℕ, zero, suc, ◌+◌, ◌<◌, ◌≤◌, true, false, nat_eq, nat_lt, List, [], ◌∷◌, ◌++◌, length}
use Rattle.std.proofs.Common.{ap, sym, subst, refl, arith, inl, inr, append_assoc, append-nil, length-append, ◌⊎◌, Bool}
use Rattle.std.specs.Prelude.{All, Option, Some, None, if◌then◌else◌}
use Rattle.std.proofs.lemmas.Bool.Decides.{nat_tests}
use Rattle.std.proofs.lemmas.List.Elements.{All-head, All-tail}
use Rattle.std.proofs.lemmas.Bool.{cases_lt}
use Rattle.dns_name.specs.Names.{Labels, IsLabel, name_size, max_size}
use Rattle.dns_name.specs.NameTexts.{dot, backslash, SpellsFirst, SpellsLabel, SpellsLabels, NameTextFaulty, NameTextFault}
use Rattle.dns_name.specs.NameTexts.{OneTextFault, TextNameOrFault, TextNameOrFaultNotBoth, OneTextName, SpellsOctet, SpellsName}
use Rattle.dns_name.specs.declared.name_error.PresentationError.{PresentationError}
use Rattle.dns_name.specs.declared.name_error.PresentationError.TheVariants.{EmptyLabel, BadSymbol, BadEscape, LongLabel, LongName}
use Rattle.dns_name.proofs.OctetTexts.{octet_read, first_is, first_shorter, octet_long, none_read, symbol_read, octet_view, none_spelled, symbol_of}

-- The fault if no octet can be read. `next` gives the fault of the text after a dot.
abbrev none_fault : (List ℕ → ℕ → ℕ → Option PresentationError) → List ℕ → ℕ → ℕ → Option PresentationError
none_fault next [] n size = None
none_fault next (c ∷ text) n size =
    if nat_eq c dot then (if nat_eq n 0 then Some EmptyLabel else next text 0 (size + n + 1))
    else if nat_eq c backslash then Some BadEscape
    else Some BadSymbol

-- The fault, given the octet that is read, if any. `next` gives the fault of the text after it.
abbrev read_fault : (List ℕ → ℕ → ℕ → Option PresentationError) → Option (ℕ × List ℕ) → List ℕ → ℕ → ℕ → Option PresentationError
read_fault next None text n size = none_fault next text n size
read_fault next (Some (o, rest)) text n size =
    if nat_eq n 63 then Some LongLabel else if nat_lt max_size (size + n + 2) then Some LongName else next rest (n + 1) size

-- The leftmost fault. The first number bounds the length of the text.
abbrev fault_of_text : ℕ → List ℕ → ℕ → ℕ → Option PresentationError
fault_of_text zero text n size = None
fault_of_text (suc k) text n size = read_fault (fault_of_text k) (octet_read text) text n size

long_read : (next : List ℕ → ℕ → ℕ → Option PresentationError) (text rest : List ℕ) (o n size : ℕ) → octet_read text ≡ Some (o, rest) → n ≡ 63
    → read_fault next (octet_read text) text n size ≡ Some LongLabel
long_read next text rest o n size e long = rw (e, long) refl

fault_known : {text : List ℕ} {n size : ℕ} {f : PresentationError} → NameTextFaulty text n size f → (k : ℕ) → length text ≤ k → fault_of_text k text n size ≡ Some f
fault_known (NameTextFaulty.empty {text = text} {size = size}) zero h = absurd (omega (arith, h))
fault_known (NameTextFaulty.empty {text = text} {size = size}) (suc k) h = refl
fault_known (NameTextFaulty.symbol {c = c} s) zero h = absurd (omega (arith, h))
fault_known (NameTextFaulty.symbol {text = text} {c = c} s) (suc k) h =
    let x : nat_eq c dot ≡ false = grind (arith, nat_tests) in
    let y : nat_eq c backslash ≡ false = grind (arith, nat_tests) in
    rw (symbol_read c text s, x, y) refl
fault_known (NameTextFaulty.escape none) zero h = absurd (omega (arith, h))
fault_known (NameTextFaulty.escape {text = text} none) (suc k) h = rw (none_read (backslash ∷ text) none) refl
fault_known (NameTextFaulty.long_label s long) zero h = absurd (omega (arith, h, first_shorter s))
fault_known (NameTextFaulty.long_label {text = text} {rest = rest} {o = o} {n = n} {size = size} s long) (suc k) h = long_read (fault_of_text k) text rest o n size (first_is s) long
fault_known (NameTextFaulty.long_name s short long) zero h = absurd (omega (arith, h, first_shorter s))
fault_known (NameTextFaulty.long_name {n = n} {size = size} s short long) (suc k) h =
    let x : nat_eq n 63 ≡ false = grind (arith, nat_tests) in
    let y : nat_lt max_size (size + n + 2) ≡ true = grind (arith, nat_tests) in
    rw (first_is s, x, y) refl
fault_known (NameTextFaulty.octet s short short_enough more) zero h = absurd (omega (arith, h, first_shorter s))
fault_known (NameTextFaulty.octet {n = n} {size = size} s short short_enough more) (suc k) h =
    let x : nat_eq n 63 ≡ false = grind (arith, nat_tests) in
    let y : nat_lt max_size (size + n + 2) ≡ false = grind (arith, nat_tests) in
    rw (first_is s, x, y) (fault_known more k (omega (arith, h, first_shorter s)))
fault_known (NameTextFaulty.after_dot some more) zero h = absurd (omega (arith, h))
fault_known (NameTextFaulty.after_dot {n = n} some more) (suc k) h =
    let x : nat_eq n 0 ≡ false = grind (arith, nat_tests) in
    rw x (fault_known more k (omega (arith, h)))

one_faulty : {text : List ℕ} {n size : ℕ} {f g : PresentationError} → NameTextFaulty text n size f → NameTextFaulty text n size g → f ≡ g
one_faulty {text = text} x y = let e = sym (fault_known x (length text) (omega arith)) ∙ fault_known y (length text) (omega arith) in cc

-- The empty text has no fault as the start of a label. `NameTextFault` has a case of its own for it.
nil_faulty : (text : List ℕ) (f : PresentationError) → text ≡ [] → NameTextFaulty text 0 0 f → ⊥
nil_faulty text f e x = let none = fault_known (subst (λ t. NameTextFaulty t 0 0 f) e x) 0 (omega arith) in cc

-- A text has at most one leftmost fault.
pub one_text_fault : OneTextFault
one_text_fault text f g (inl x) (inl y) = x.1 ∙ sym y.1
one_text_fault text f g (inl x) (inr y) = absurd (nil_faulty text g x.0 y.1)
one_text_fault text f g (inr x) (inl y) = absurd (nil_faulty text f y.0 x.1)
one_text_fault text f g (inr x) (inr y) = one_faulty x.1 y.1

-- If the text after an octet that fits has no fault, the text has none.
octet_step : {text rest : List ℕ} {o : ℕ} → SpellsFirst text o rest → (n size : ℕ) → n < 63 → size + n + 2 ≤ max_size
    → ((j : ℕ) → length rest ≤ j → fault_of_text j rest (n + 1) size ≡ None) → (k : ℕ) → length text ≤ k → fault_of_text k text n size ≡ None
octet_step s n size short short_enough after zero h = refl
octet_step s n size short short_enough after (suc k) h =
    let x : nat_eq n 63 ≡ false = grind (arith, nat_tests) in
    let y : nat_lt max_size (size + n + 2) ≡ false = grind (arith, nat_tests) in
    rw (first_is s, x, y) (after k (omega (arith, h, first_shorter s)))

-- The same for a dot after a label.
dot_step : (text : List ℕ) (n size : ℕ) → 0 < n
    → ((j : ℕ) → length text ≤ j → fault_of_text j text 0 (size + n + 1) ≡ None) → (k : ℕ) → length (dot ∷ text) ≤ k → fault_of_text k (dot ∷ text) n size ≡ None
dot_step text n size some after zero h = refl
dot_step text n size some after (suc k) h =
    let x : nat_eq n 0 ≡ false = grind (arith, nat_tests) in
    rw x (after k (omega (arith, h)))

nil_step : (n size k : ℕ) → fault_of_text k [] n size ≡ None
nil_step n size zero = refl
nil_step n size (suc k) = refl

-- The same for a label.
label_step : {front label : List ℕ} → SpellsLabel front label → (rest : List ℕ) (n m size : ℕ) → n + length label ≡ m → m ≤ 63 → size + m + 1 ≤ max_size
    → ((j : ℕ) → length rest ≤ j → fault_of_text j rest m size ≡ None) → (k : ℕ) → length (front ++ rest) ≤ k → fault_of_text k (front ++ rest) n size ≡ None
label_step SpellsLabel.none rest n m size e short short_enough after k h =
    let same : m ≡ n = omega (arith, e) in
    subst (λ i. fault_of_text k rest i size ≡ None) same (after k h)
label_step (SpellsLabel.octet {front = a} {text = b} {label = label} s l) rest n m size e short short_enough after k h =
    octet_step (record { front = a; whole = append_assoc a b rest; spelled = s }) n size (omega (arith, e, short)) (omega (arith, e, short_enough))
    (λ j within. label_step l rest (n + 1) m size (omega (arith, e)) short short_enough after j within) k h

-- A text that represents the labels of a name has no fault.
labels_step : {text : List ℕ} {name : Labels} → SpellsLabels text name → All IsLabel name → (size : ℕ) → size + name_size name ≤ max_size
    → (k : ℕ) → length text ≤ k → fault_of_text k text 0 size ≡ None
labels_step (SpellsLabels.last {text = text} {label = label} l) all size short_enough k h =
    let one = All-head IsLabel label [] all in
    let whole = append-nil text in
    subst (λ t. fault_of_text k t 0 size ≡ None) whole
    (label_step l [] 0 (length label) size (omega arith) one.short (omega (arith, short_enough)) (λ j within. nil_step (length label) size j) k (omega (arith, h, ap length whole)))
labels_step (SpellsLabels.closed {text = text} {label = label} l) all size short_enough k h =
    let one = All-head IsLabel label [] all in
    label_step l (dot ∷ []) 0 (length label) size (omega arith) one.short (omega (arith, short_enough))
    (λ j within. dot_step [] (length label) size one.some (λ i fits. nil_step 0 (size + length label + 1) i) j within) k h
labels_step (SpellsLabels.more {front = front} {text = text} {label = label} {rest = rest} l others) all size short_enough k h =
    let one = All-head IsLabel label rest all in
    label_step l (dot ∷ text) 0 (length label) size (omega arith) one.short (omega (arith, short_enough))
    (λ j within. dot_step text (length label) size one.some
    (λ i fits. labels_step others (All-tail IsLabel label rest all) (size + length label + 1) (omega (arith, short_enough)) i fits) j within) k h

label_long : {front label : List ℕ} → SpellsLabel front label → length label ≤ length front
label_long SpellsLabel.none = omega arith
label_long (SpellsLabel.octet {front = a} {text = b} s l) = omega (arith, octet_long s, label_long l, length-append a b)

-- The empty text doesn't represent the labels of a name.
pub labels_long : {text : List ℕ} {name : Labels} → SpellsLabels text name → All IsLabel name → 0 < length text
labels_long (SpellsLabels.last {label = label} l) all = let one = All-head IsLabel label [] all in omega (arith, label_long l, one.some)
labels_long (SpellsLabels.closed {text = text} l) all = omega (arith, length-append text (dot ∷ []))
labels_long (SpellsLabels.more {front = front} {text = text} l others) all = omega (arith, length-append front (dot ∷ text))

-- A text never has both a name and a fault.
pub text_name_or_fault_not_both : TextNameOrFaultNotBoth
text_name_or_fault_not_both text name f (inl x) (inl y) = let e = sym x.0 ∙ y.0 in cc
text_name_or_fault_not_both text name f (inl x) (inr y) = y.0 x.0
text_name_or_fault_not_both text name f (inr x) (inl y) = let some = labels_long x.0 x.1.labels in omega (arith, some, ap length y.0)
text_name_or_fault_not_both text name f (inr x) (inr y) =
    let none = labels_step x.0 x.1.labels 0 (omega (arith, x.1.short)) (length text) (omega arith) in
    let some = fault_known y.1 (length text) (omega arith) in
    cc

-- A text represents at most one name.

-- One more octet at the start of the first label.
abbrev push : ℕ → Labels → Labels
push o [] = []
push o (label ∷ others) = (o ∷ label) ∷ others

-- The labels, given the octet that is read, if any. `next` gives the labels of the text after it.
abbrev read_labels : (List ℕ → Labels) → Option (ℕ × List ℕ) → List ℕ → Labels
read_labels next (Some (o, rest)) text = push o (next rest)
read_labels next None [] = [] ∷ []
read_labels next None (c ∷ []) = [] ∷ []
read_labels next None (c ∷ d ∷ text) = [] ∷ next (d ∷ text)

-- The labels of a text. The number exceeds the length of the text.
abbrev labels_of_text : ℕ → List ℕ → Labels
labels_of_text zero text = []
labels_of_text (suc k) text = read_labels (labels_of_text k) (octet_read text) text

octet_skipped : {text rest label : List ℕ} {others : Labels} {o : ℕ} → SpellsFirst text o rest
    → ((j : ℕ) → length rest < j → labels_of_text j rest ≡ label ∷ others) → (k : ℕ) → length text < k → labels_of_text k text ≡ (o ∷ label) ∷ others
octet_skipped s after zero h = absurd (omega (arith, h))
octet_skipped {o = o} s after (suc k) h = rw (first_is s) (ap (push o) (after k (omega (arith, h, first_shorter s))))

label_skipped : {front label : List ℕ} → SpellsLabel front label → (rest : List ℕ) (others : Labels)
    → ((j : ℕ) → length rest < j → labels_of_text j rest ≡ [] ∷ others) → (k : ℕ) → length (front ++ rest) < k → labels_of_text k (front ++ rest) ≡ label ∷ others
label_skipped SpellsLabel.none rest others after k h = after k h
label_skipped (SpellsLabel.octet {front = a} {text = b} s l) rest others after k h =
    octet_skipped (record { front = a; whole = append_assoc a b rest; spelled = s }) (λ j within. label_skipped l rest others after j within) k h

end_skipped : (k : ℕ) → 0 < k → labels_of_text k [] ≡ [] ∷ []
end_skipped zero h = absurd (omega (arith, h))
end_skipped (suc k) h = refl

last_dot_skipped : (k : ℕ) → 1 < k → labels_of_text k (dot ∷ []) ≡ [] ∷ []
last_dot_skipped zero h = absurd (omega (arith, h))
last_dot_skipped (suc k) h = refl

dot_skipped : (text : List ℕ) (others : Labels) → 0 < length text → ((j : ℕ) → length text < j → labels_of_text j text ≡ others)
    → (k : ℕ) → length (dot ∷ text) < k → labels_of_text k (dot ∷ text) ≡ [] ∷ others
dot_skipped [] others some after k h = absurd (omega (arith, some))
dot_skipped (d ∷ text) others some after zero h = absurd (omega (arith, h))
dot_skipped (d ∷ text) others some after (suc k) h = ap (λ (ls : Labels). [] ∷ ls) (after k (omega (arith, h)))

labels_are : {text : List ℕ} {name : Labels} → SpellsLabels text name → All IsLabel name → (k : ℕ) → length text < k → labels_of_text k text ≡ name
labels_are (SpellsLabels.last {text = text} {label = label} l) all k h =
    let whole = append-nil text in
    subst (λ t. labels_of_text k t ≡ label ∷ []) whole (label_skipped l [] [] (λ j within. end_skipped j (omega (arith, within))) k (omega (arith, h, ap length whole)))
labels_are (SpellsLabels.closed l) all k h = label_skipped l (dot ∷ []) [] (λ j within. last_dot_skipped j (omega (arith, within))) k h
labels_are (SpellsLabels.more {text = text} {label = label} {rest = rest} l others) all k h =
    let after = All-tail IsLabel label rest all in
    label_skipped l (dot ∷ text) rest (λ j within. dot_skipped text rest (labels_long others after) (λ i fits. labels_are others after i fits) j within) k h

dot_spells_no_labels : (text : List ℕ) (name : Labels) → text ≡ dot ∷ [] → SpellsLabels text name → All IsLabel name → ⊥
dot_spells_no_labels text name e s all =
    let same = labels_are (subst (λ t. SpellsLabels t name) e s) all 2 (omega arith) in
    let first = (All-head IsLabel [] [] (subst (λ n. All IsLabel n) (sym same) all)).some in
    omega (arith, first)

-- A text represents at most one name.
pub one_text_name : OneTextName
one_text_name text m n (inl x) (inl y) = x.1 ∙ sym y.1
one_text_name text m n (inl x) (inr y) = absurd (dot_spells_no_labels text n x.0 y.0 y.1.labels)
one_text_name text m n (inr x) (inl y) = absurd (dot_spells_no_labels text m y.0 x.0 x.1.labels)
one_text_name text m n (inr x) (inr y) = sym (labels_are x.0 x.1.labels (suc (length text)) (omega arith)) ∙ labels_are y.0 y.1.labels (suc (length text)) (omega arith)

-- A text represents a name, or it has a fault.

-- The text represents the remaining octets of a label, after n octets of it and labels of `size` octets, and further labels.
record Rest (text : List ℕ) (n size : ℕ) : Type 0 where
  label : List ℕ
  others : Labels
  spelled : SpellsLabels text (label ∷ others)
  some : 0 < n + length label
  short : n + length label ≤ 63
  labels : All IsLabel others
  short_enough : size + n + length label + 1 + name_size others ≤ max_size

abbrev Faulty : List ℕ → ℕ → ℕ → Type 0
Faulty text n size = (f : PresentationError) × NameTextFaulty text n size f

no_labels : All IsLabel []
no_labels k d h = absurd (omega (arith, h))

spells_octet : {front text label : List ℕ} {others : Labels} {o : ℕ} → SpellsOctet front o → SpellsLabels text (label ∷ others) → SpellsLabels (front ++ text) ((o ∷ label) ∷ others)
spells_octet s (SpellsLabels.last l) = SpellsLabels.last (SpellsLabel.octet s l)
spells_octet {front = front} {label = label} {o = o} s (SpellsLabels.closed {text = text} l) =
    subst (λ t. SpellsLabels t ((o ∷ label) ∷ [])) (append_assoc front text (dot ∷ [])) (SpellsLabels.closed (SpellsLabel.octet s l))
spells_octet {front = front} {label = label} {others = others} {o = o} s (SpellsLabels.more {front = first} {text = text} l m) =
    subst (λ t. SpellsLabels t ((o ∷ label) ∷ others)) (append_assoc front first (dot ∷ text)) (SpellsLabels.more (SpellsLabel.octet s l) m)

-- One more octet at the start.
rest_octet : {text rest : List ℕ} {o : ℕ} (n size : ℕ) → SpellsFirst text o rest → Rest rest (n + 1) size → Rest text n size
rest_octet {rest = rest} {o = o} n size s x = record {
  label = o ∷ x.label;
  others = x.others;
  spelled = subst (λ t. SpellsLabels t ((o ∷ x.label) ∷ x.others)) (sym s.whole) (spells_octet s.spelled x.spelled);
  some = omega arith;
  short = let h = x.short in omega (arith, h);
  labels = x.labels;
  short_enough = let h = x.short_enough in omega (arith, h);
}

-- The text is at its end.
rest_end : (n size : ℕ) → 0 < n → n ≤ 63 → size + n + 1 ≤ max_size → Rest [] n size
rest_end n size some short short_enough = record {
  label = [];
  others = [];
  spelled = SpellsLabels.last SpellsLabel.none;
  some = omega (arith, some);
  short = omega (arith, short);
  labels = no_labels;
  short_enough = omega (arith, short_enough);
}

-- The text is a final dot.
rest_dot : (n size : ℕ) → 0 < n → n ≤ 63 → size + n + 1 ≤ max_size → Rest (dot ∷ []) n size
rest_dot n size some short short_enough = record {
  label = [];
  others = [];
  spelled = SpellsLabels.closed SpellsLabel.none;
  some = omega (arith, some);
  short = omega (arith, short);
  labels = no_labels;
  short_enough = omega (arith, short_enough);
}

cons_label : (label : List ℕ) (others : Labels) → IsLabel label → All IsLabel others → All IsLabel (label ∷ others)
cons_label label others h all zero d within = h
cons_label label others h all (suc k) d within = all k d (omega (arith, within))

-- The text is a dot and further labels.
rest_more : (text : List ℕ) (n size : ℕ) → 0 < n → n ≤ 63 → Rest text 0 (size + n + 1) → Rest (dot ∷ text) n size
rest_more text n size some short x =
    let a = x.some in
    let b = x.short in
    let c = x.short_enough in
    record {
      label = [];
      others = x.label ∷ x.others;
      spelled = SpellsLabels.more SpellsLabel.none x.spelled;
      some = omega (arith, some);
      short = omega (arith, short);
      labels = cons_label x.label x.others (record { some = omega (arith, a); short = omega (arith, b) }) x.labels;
      short_enough = omega (arith, c);
    }

abbrev Decided : List ℕ → ℕ → ℕ → Type 0
Decided text n size = Rest text n size ⊎ Faulty text n size

-- An octet can be read.
at_octet : {text rest : List ℕ} {o : ℕ} (n size : ℕ) → SpellsFirst text o rest → n ≤ 63 → (n < 63 → size + n + 2 ≤ max_size → Decided rest (n + 1) size) → Decided text n size
at_octet n size s short next =
    elim (cases_lt n 63) [
      | inl fits ↦ elim (cases_lt max_size (size + n + 2)) [
        | inl long ↦ inr (LongName, NameTextFaulty.long_name s fits long)
        | inr short_enough ↦ elim (next fits short_enough) [ inl x ↦ inl (rest_octet n size s x) | inr f ↦ inr (f.0, NameTextFaulty.octet s fits short_enough f.1) ]
      ]
      | inr long ↦ inr (LongLabel, (let is : n ≡ 63 = omega (arith, short, long) in NameTextFaulty.long_label s is))
    ]

-- The next character is a dot.
at_dot : (text : List ℕ) (n size : ℕ) → n ≤ 63 → (0 < n → size + n + 1 ≤ max_size) → (0 < n → 0 < length text → Decided text 0 (size + n + 1)) → Decided (dot ∷ text) n size
at_dot text zero size short short_enough next = inr (EmptyLabel, NameTextFaulty.empty)
at_dot [] (suc n) size short short_enough next = inl (rest_dot (suc n) size (omega arith) short (short_enough (omega arith)))
at_dot (c ∷ text) (suc n) size short short_enough next =
    elim (next (omega arith) (omega arith)) [
      | inl x ↦ inl (rest_more (c ∷ text) (suc n) size (omega arith) short x)
      | inr f ↦ inr (f.0, (let some : 0 < suc n = omega arith in NameTextFaulty.after_dot some f.1))
    ]

-- No octet can be read.
at_none : (c : ℕ) (text : List ℕ) (n size : ℕ) (d b : Bool) → nat_eq c dot ≡ d → nat_eq c backslash ≡ b → octet_read (c ∷ text) ≡ None
    → n ≤ 63 → (0 < n → size + n + 1 ≤ max_size) → (0 < n → 0 < length text → Decided text 0 (size + n + 1)) → Decided (c ∷ text) n size
at_none c text n size true b p q none short short_enough next =
    let is : c ≡ dot = grind (arith, nat_tests) in
    subst (λ x. Decided (x ∷ text) n size) (sym is) (at_dot text n size short short_enough next)
at_none c text n size false true p q none short short_enough next =
    let is : c ≡ backslash = grind (arith, nat_tests) in
    let gone : octet_read (backslash ∷ text) ≡ None = subst (λ x. octet_read (x ∷ text) ≡ None) is none in
    subst (λ x. Decided (x ∷ text) n size) (sym is) (inr (BadEscape, NameTextFaulty.escape (none_spelled (backslash ∷ text) gone)))
at_none c text n size false false p q none short short_enough next = inr (BadSymbol, NameTextFaulty.symbol (symbol_of c text p q none))

decided : (k : ℕ) (text : List ℕ) (n size : ℕ) → length text ≤ k → 0 < n + length text → n ≤ 63 → (0 < n → size + n + 1 ≤ max_size) → Decided text n size
decided k [] n size h some short short_enough = inl (rest_end n size (omega (arith, some)) short (short_enough (omega (arith, some))))
decided zero (c ∷ text) n size h some short short_enough = absurd (omega (arith, h))
decided (suc k) (c ∷ text) n size h some short short_enough =
    elim (octet_view (c ∷ text)) [
      | inl none ↦ at_none c text n size _ _ refl refl none short short_enough (λ a b. decided k text 0 (size + n + 1) (omega (arith, h)) (omega (arith, b)) (omega arith) (λ z. omega (arith, z)))
      | inr s ↦ at_octet n size s.2 short (λ fits more. decided k s.1 (n + 1) size (omega (arith, h, first_shorter s.2)) (omega arith) (omega (arith, fits)) (λ z. omega (arith, more)))
    ]

-- A text with at least one character represents a name, or has a fault.
some_text : (c : ℕ) (text : List ℕ) → (c ∷ text ≡ dot ∷ [] → ⊥) → ((name : Labels) × SpellsName (c ∷ text) name) ⊎ ((f : PresentationError) × NameTextFault (c ∷ text) f)
some_text c text other =
    elim (decided (length (c ∷ text)) (c ∷ text) 0 0 (omega arith) (omega arith) (omega arith) (λ z. omega (arith, z))) [
      | inl x ↦ inl (
        x.label ∷ x.others,
        inr (
          x.spelled,
          (let a = x.some in let b = x.short in let r = x.short_enough in
              record { labels = cons_label x.label x.others (record { some = omega (arith, a); short = omega (arith, b) }) x.labels; short = omega (arith, r) }),
        ),
      )
      | inr f ↦ inr (f.0, inr (other, f.1))
    ]

not_dot : (c : ℕ) → nat_eq c dot ≡ false → c ≡ dot → ⊥
not_dot c p is = grind (arith, nat_tests)

first_dot : (c : ℕ) (d : Bool) → nat_eq c dot ≡ d → ((name : Labels) × SpellsName (c ∷ []) name) ⊎ ((f : PresentationError) × NameTextFault (c ∷ []) f)
first_dot c true p = let is : c ≡ dot = grind (arith, nat_tests) in inl ([], inl (ap (λ x. x ∷ []) is, refl))
first_dot c false p = some_text c [] (λ e. let is : c ≡ dot = cc in absurd (not_dot c p is))

-- A text represents a name, or it has a fault.
pub text_name_or_fault : TextNameOrFault
text_name_or_fault [] = inr (EmptyLabel, inl (refl, refl))
text_name_or_fault (c ∷ []) = first_dot c _ refl
text_name_or_fault (c ∷ d ∷ text) = some_text c (d ∷ text) (λ e. cc)
