-- Where the first items of a section end: they are skipped in the octets of the message.
use Rattle.std.proofs.Common.{◌≡◌, ◌∙◌, ℕ, ◌≤◌, List, [], ◌∷◌, ◌++◌, append-nil, ap, arith, drop, length, length-append, map, refl, subst, sym, take}
use Rattle.std.proofs.lemmas.List.{length-take-le}
use Rattle.dns_code.specs.Header.{octets_of_fields}
use Rattle.dns_code.proofs.theory.HeaderOctets.{length-octets_of_fields}
use Rattle.dns_wire.specs.Encoders.{Encoder, IsGrowing, Rule}
use Rattle.dns_wire.specs.Targets.{IsTarget, Written, append, cut_to}
use Rattle.dns_wire.proofs.theory.CompressedNames.{is_table_cut}
use Rattle.dns_wire.proofs.theory.EncoderLaws.{Encodes, IsStable, cut_to-append}
use Rattle.dns_item.specs.Questions.{SkipsQuestion}
use Rattle.dns_item.proofs.theory.QuestionItemLemmas.{HasQuestion, encodes_question, reads_question, stable_question}
use Rattle.dns_item.specs.Items.{SkipsRecord}
use Rattle.dns_item.proofs.theory.ItemLemmas.{HasRecord, encodes_record, reads_record, stable_record}
use Rattle.dns_read.specs.Reading.{Skipped}
use Rattle.dns_read.specs.declared.section.Section.TheVariants.{Answer, Authority, Additional}
use Rattle.dns_build.specs.State.{Every, IsState, State, all_of, encode, up_to, with_first}
use Rattle.dns_build.specs.BuilderStates.{IsMessage}
use Rattle.dns_build.proofs.Messages.{cut_to-whole}
use Rattle.dns_build.proofs.Sections.{Item, IsItem, Kind, Questions, Records, at, before, divided, empty, encode_item, first, items, items_grow, prior, sections, splits, whole}
use Rattle.dns_build.proofs.Moves.{every_take}
use Rattle.dns_build.proofs.theory.Encodings.{all_of_grows, append-all_of, append-nothing, encoders, encoders-split, every_map, head, is_message, message, message-split, size-split}
use Rattle.dns_build.proofs.theory.EncodingReading.{HasAll, encode_target, encodes_all, skipped_all, stable_all}

-- the octets of an item go from p to q
abbrev HasItem : (k : Kind) → Item k → Written → ℕ → ℕ → Type 0
HasItem Questions x = HasQuestion x
HasItem (Records k) x = HasRecord x

-- An item goes from p to q, and can be skipped.
abbrev pub SkipsItem : Kind → List ℕ → ℕ → ℕ → Type 0
SkipsItem Questions b = SkipsQuestion b
SkipsItem (Records k) b = SkipsRecord b

stable_item : (k : Kind) (x : Item k) → IsStable (HasItem k x)
stable_item Questions x = stable_question x
stable_item (Records k) x = stable_record x

encodes_item : (k : Kind) (rule : Rule) (x : Item k) → IsItem k x → Encodes (encode_item k rule x) (HasItem k x)
encodes_item Questions rule x is = encodes_question rule x is
encodes_item (Records k) rule x is = encodes_record rule x is

skips_item : (k : Kind) (t : Written) → IsTarget t → (x : Item k) (p q : ℕ) → IsItem k x → HasItem k x t p q → SkipsItem k t.octets p q
skips_item Questions t good x p q is has = (reads_question x t p q is good has).skips
skips_item (Records k) t good x p q is has = (reads_record x t p q is good has).reads.skips

items_are : (k : Kind) (s : State) → IsState s → Every (IsItem k) (items k s)
items_are Questions s is = is.questions.0
items_are (Records Answer) s is = is.answers.0
items_are (Records Authority) s is = is.authorities.0
items_are (Records Additional) s is = is.additionals.0

module _ (k : Kind) (rule : Rule) (s : State) (is : IsState s) (last : s ≡ up_to (at k) s) (n : ℕ) (few : n ≤ length (items k s)) where
  -- the encodings of the items before the section, of its first items, and of the others
  abbrev ps : List Encoder
  ps = encoders (before k rule s)

  abbrev own : List Encoder
  own = map (encode_item k rule) (take n (items k s))

  abbrev others : List Encoder
  others = map (encode_item k rule) (drop n (items k s))

  -- the message up to the section, up to its first items, and whole
  abbrev u : Written
  u = append (all_of ps) (head (octets_of_fields s.header) (sections k rule s (own ++ others)))

  abbrev v : Written
  v = append (all_of own) u

  abbrev w : Written
  w = append (all_of others) v

  whole_is : encode rule s ≡ w
  whole_is =
      let split = splits k rule s in
      let header = octets_of_fields s.header in
      whole k rule s last ∙ ap (λ (qs : List Encoder). message header (sections k rule s qs)) (divided k rule s last n)
      ∙ message-split header (length-octets_of_fields s.header) (before k rule s) (empty k) split.all split.last (own ++ others)
      ∙ append-all_of own others u

  -- the sections before have their items' encodings
  growing : Every IsGrowing ps
  growing =
      let split = splits k rule s in
      subst (Every IsGrowing)
      (encoders-split (octets_of_fields s.header) (length-octets_of_fields s.header) (before k rule s) (empty k) split.all split.last [] ∙ append-nil ps) split.front

  own_grows : IsGrowing (all_of own)
  own_grows = all_of_grows own (every_map IsGrowing (encode_item k rule) (items_grow k rule) (take n (items k s)))

  others_grow : IsGrowing (all_of others)
  others_grow = all_of_grows others (every_map IsGrowing (encode_item k rule) (items_grow k rule) (drop n (items k s)))

  u_message : IsMessage u
  u_message =
      let split = splits k rule s in
      let size = length-append (before k rule s) ((own ++ others) ∷ empty k) in
      is_message (octets_of_fields s.header) (length-octets_of_fields s.header) ps (sections k rule s (own ++ others)) (omega (arith, size, split.all)) growing

  w_target : IsTarget w
  w_target = subst IsTarget whole_is (encode_target rule s is)

  -- cut before the section, the message is what it was there
  u_target : IsTarget u
  u_target =
      let size = length-append u.octets (all_of own u.table (length u.octets)).octets in
      let n = length u.octets in
      let cut : cut_to n w ≡ u = cut_to-append (all_of others) v n others_grow (omega arith) ∙ cut_to-append (all_of own) u n own_grows (omega arith) ∙ cut_to-whole u n refl u_message in
      subst IsTarget cut (is_table_cut n w_target)

  -- the section's start, and the end of its first items
  start : length (encode rule (up_to (prior k) s)).octets ≡ length u.octets
  start =
      let split = splits k rule s in
      let sizes = size-split (octets_of_fields s.header) (length-octets_of_fields s.header) (before k rule s) (empty k) split.all split.last in
      ap (λ (t : Written). length t.octets) split.less ∙ sizes [] (own ++ others) ∙ ap (λ (t : Written). length t.octets) (append-nothing u)

  end : length (encode rule (with_first (at k) n s)).octets ≡ length v.octets
  end =
      let split = splits k rule s in
      let sizes = size-split (octets_of_fields s.header) (length-octets_of_fields s.header) (before k rule s) (empty k) split.all split.last in
      ap (λ (t : Written). length t.octets) (first k rule s last n) ∙ sizes own (own ++ others)

  -- The section begins within the octets.
  pub begins-within : length (encode rule (up_to (prior k) s)).octets ≤ length (encode rule s).octets
  begins-within =
      let m = length-append u.octets (all_of own u.table (length u.octets)).octets in
      let o = length-append v.octets (all_of others v.table (length v.octets)).octets in
      let e = ap (λ (t : Written). length t.octets) whole_is in
      omega (arith, start, m, o, e)

  has_first : HasAll (HasItem k) (take n (items k s)) w (length u.octets) (length v.octets)
  has_first =
      let all = every_take (IsItem k) n (items k s) (items_are k s is) in
      let here = encodes_all (HasItem k) (stable_item k) (encode_item k rule) (IsItem k) (encodes_item k rule) (take n (items k s)) all in
      (stable_all (HasItem k) (stable_item k) (take n (items k s))).stays (all_of others) v (length u.octets) (length v.octets) others_grow (here.encodes u u_target)

  -- The first items of the section are skipped from where it begins to where the message with them alone ends.
  pub skipped-first : Skipped (SkipsItem k (encode rule s).octets) n (length (encode rule (up_to (prior k) s)).octets) (length (encode rule (with_first (at k) n s)).octets)
  skipped-first =
      let all = every_take (IsItem k) n (items k s) (items_are k s is) in
      let skipped = skipped_all (HasItem k) (IsItem k) (SkipsItem k w.octets) w (skips_item k w w_target) (take n (items k s)) (length u.octets) (length v.octets) all has_first in
      subst (λ (x : Written × ℕ × ℕ × ℕ). Skipped (SkipsItem k x.0.octets) x.1 x.2 x.3)
      (λ i. (sym whole_is i, length-take-le n (items k s) few i, sym start i, sym end i)) skipped
