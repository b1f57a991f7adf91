-- How a name is read label by label, and a label octet by octet.
use Rattle.std.proofs.Common.{◌≡◌, ◌∙◌, ℕ, ◌+◌, ◌<◌, ◌≤◌, List, [], ◌∷◌, ◌++◌, length, drop, take, get_or, ◌-◌, ap, sym, subst, refl, arith, append_assoc, append-nil, length-append}
use Rattle.std.specs.Prelude.{All}
use Rattle.std.specs.List.{flat_map}
use Rattle.std.proofs.lemmas.List.Concat.{flat_map-append}
use Rattle.std.proofs.lemmas.Grind.{common_steps}
use Rattle.std.proofs.lemmas.List.Elements.{All-append}
use Rattle.dns_name.specs.Names.{Labels, IsLabel, name_size, max_size, framed}
use Rattle.dns_name.specs.NameTexts.{dot, SpellsOctet, SpellsFirst, SpellsLabel, SpellsLabels, NameTextFaulty}
use Rattle.dns_name.specs.NameReading.{LabelFirst, AreOctets}
use Rattle.dns_name.specs.declared.name_error.PresentationError.{PresentationError}

-- A prefix of the text represents the octets of a label that are read so far, after labels of `size` octets. A fault of the remaining text is a fault of the text.
pub record InLabel (text : List ℕ) (size : ℕ) (label left : List ℕ) : Type 0 where
  pub front : List ℕ
  pub whole : text ≡ front ++ left
  pub spelled : SpellsLabel front label
  pub short : length label ≤ 63
  pub short_enough : 0 < length label → size + length label + 1 ≤ max_size
  pub some : 0 < length label + length left
  pub faults : (f : PresentationError) → NameTextFaulty left (length label) size f → NameTextFaulty text 0 size f

-- No octet is read yet.
pub label_start : (text : List ℕ) (size : ℕ) → 0 < length text → InLabel text size [] text
label_start text size some = record {
  front = [];
  whole = refl;
  spelled = SpellsLabel.none;
  short = omega arith;
  short_enough = λ h. omega (arith, h);
  some = omega (arith, some);
  faults = λ f h. h;
}

spells_push : {front label last : List ℕ} {o : ℕ} → SpellsLabel front label → SpellsOctet last o → SpellsLabel (front ++ last) (label ++ o ∷ [])
spells_push {last = last} {o = o} SpellsLabel.none s = subst (λ t. SpellsLabel t (o ∷ [])) (append-nil last) (SpellsLabel.octet s SpellsLabel.none)
spells_push {last = last} {o = o} (SpellsLabel.octet {front = a} {text = b} {label = label} {o = first} x l) s =
    subst (λ t. SpellsLabel t (first ∷ (label ++ o ∷ []))) (sym (append_assoc a b last)) (SpellsLabel.octet x (spells_push l s))

-- One more octet is read.
pub label_more : (text : List ℕ) (size : ℕ) (label left rest : List ℕ) (o : ℕ) → InLabel text size label left
    → SpellsFirst left o rest → length label < 63 → size + length label + 2 ≤ max_size → InLabel text size (label ++ o ∷ []) rest
label_more text size label left rest o x s short short_enough =
    let more : length (label ++ o ∷ []) ≡ length label + 1 = omega (arith, length-append label (o ∷ [])) in
    record {
      front = x.front ++ s.front;
      whole = x.whole ∙ ap (λ (t : List ℕ). x.front ++ t) s.whole ∙ sym (append_assoc x.front s.front rest);
      spelled = spells_push x.spelled s.spelled;
      short = omega (arith, more, short);
      short_enough = λ h. omega (arith, more, short_enough);
      some = omega (arith, more);
      faults = λ f h. x.faults f (NameTextFaulty.octet s short short_enough (subst (λ n. NameTextFaulty rest n size f) more h));
    }

-- The labels that are read so far have these octets. Labels that the remaining text represents follow them in what the whole text represents. A fault of the remaining text is a fault of the text.
pub record InLabels (text octets left : List ℕ) : Type 0 where
  pub name : Labels
  pub same : flat_map framed name ≡ octets
  pub labels : All IsLabel name
  pub short_enough : length octets ≤ max_size
  pub some : 0 < length left
  pub spelled : (rest : Labels) → SpellsLabels left rest → SpellsLabels text (name ++ rest)
  pub faults : (f : PresentationError) → NameTextFaulty left 0 (length octets) f → NameTextFaulty text 0 0 f

-- A list of one label is a list of labels.
one_label : (label : List ℕ) → IsLabel label → All IsLabel (label ∷ [])
one_label label h = λ k d within. let first : k ≡ 0 = omega (arith, within) in subst (λ i. IsLabel (get_or (label ∷ []) i d)) (sym first) h

-- The octets of a further label follow those of the labels before it.
framed_more : (name : Labels) (label octets : List ℕ) → flat_map framed name ≡ octets → flat_map framed (name ++ label ∷ []) ≡ octets ++ framed label
framed_more name label octets e =
    flat_map-append framed name (label ∷ []) ∙ ap (λ (o : List ℕ). o ++ (framed label ++ [])) e ∙ ap (λ (t : List ℕ). octets ++ t) (append-nil (framed label))

-- One more label is read, and the dot after it.
label_skipped : (text octets left label after : List ℕ) → InLabels text octets left → LabelFirst left (length octets) label after → 2 ≤ length after
    → InLabels text (octets ++ framed label) (drop 1 after)
label_skipped text octets left label [] x l long = absurd (omega (arith, long))
label_skipped text octets left label (c ∷ after) x l long =
    let size : length (octets ++ framed label) ≡ length octets + length label + 1 = omega (arith, length-append octets (framed label)) in
    let whole : left ≡ l.front ++ dot ∷ after = l.whole ∙ ap (λ d. l.front ++ d ∷ after) l.ends in
    record {
      name = x.name ++ label ∷ [];
      same = framed_more x.name label octets x.same;
      labels = All-append IsLabel x.name (label ∷ []) x.labels (one_label label l.is_label);
      short_enough = omega (arith, size, l.short_enough);
      some = omega (arith, long);
      spelled = λ rest h. subst (λ name. SpellsLabels text name) (sym (append_assoc x.name (label ∷ []) rest))
          (x.spelled (label ∷ rest) (subst (λ t. SpellsLabels t (label ∷ rest)) (sym whole) (SpellsLabels.more l.spelled h)));
      faults = λ f h. x.faults f (l.faults f (subst (λ d. NameTextFaulty (d ∷ after) (length label) (length octets) f) (sym l.ends)
          (NameTextFaulty.after_dot l.is_label.some (subst (λ n. NameTextFaulty after 0 n f) size h))));
    }

-- The same, with the remaining text as a slice.
pub labels_more : (text octets left label after : List ℕ) → InLabels text octets left → LabelFirst left (length octets) label after → 2 ≤ length after
    → InLabels text (octets ++ framed label) (take (length after - 1) (drop 1 after))
labels_more text octets left label after x l long =
    let all : take (length after - 1) (drop 1 after) ≡ drop 1 after = grind (arith, common_steps) in
    subst (λ t. InLabels text (octets ++ framed label) t) (sym all) (label_skipped text octets left label after x l long)

last_label : (left label after : List ℕ) (size : ℕ) → LabelFirst left size label after → length after < 2 → SpellsLabels left (label ∷ [])
last_label left label [] size l short = subst (λ t. SpellsLabels t (label ∷ [])) (sym (l.whole ∙ append-nil l.front)) (SpellsLabels.last l.spelled)
last_label left label (c ∷ []) size l short =
    subst (λ t. SpellsLabels t (label ∷ [])) (sym (l.whole ∙ ap (λ d. l.front ++ d ∷ []) l.ends)) (SpellsLabels.closed l.spelled)
last_label left label (c ∷ d ∷ after) size l short = absurd (omega (arith, short))

length-framed : (name : Labels) → length (flat_map framed name) ≡ name_size name
length-framed [] = refl
length-framed (label ∷ name) = omega (arith, length-append label (flat_map framed name), length-framed name)

-- The last label is read.
pub labels_end : (text octets left label after : List ℕ) → InLabels text octets left → LabelFirst left (length octets) label after → length after < 2
    → AreOctets (SpellsLabels text) ((octets ++ framed label) ++ 0 ∷ [])
labels_end text octets left label after x l short =
    let same = framed_more x.name label octets x.same in
    let size = length-framed (x.name ++ label ∷ []) in
    let short_enough = ap length same in (
      x.name ++ label ∷ [],
      x.spelled (label ∷ []) (last_label left label after (length octets) l short),
      record {
        labels = All-append IsLabel x.name (label ∷ []) x.labels (one_label label l.is_label);
        short = omega (arith, size, short_enough, l.short_enough, length-append octets (framed label));
      },
      framed_more (x.name ++ label ∷ []) [] (octets ++ framed label) same,
    )
