-- The first of printed fields.
use Rattle.std.proofs.Common.{◌≡◌, ◌∙◌, ℕ, ◌<◌, ◌^◌, Bool, true, false, not, ◌&&◌, ◌||◌, List, [], ◌∷◌, ◌++◌, length, refl, sym, ap, subst, arith, length-append}
use Rattle.std.specs.Prelude.{◌==◌, if◌then◌else◌}
use Rattle.std.specs.Borrow.{Bor}
use Rattle.std.specs.List.{list_all}
use Rattle.std.proofs.lemmas.Bool.{and_parts}
use Rattle.hex.specs.Hex.{IsBytes}
use Rattle.dns_data.specs.Layout.{IsLaidOut, Layout}
use Rattle.dns_data.specs.Layout.Layout.{End}
use Rattle.dns_wire.specs.Parts.{AreParts, Part}
use Rattle.dns_wire.specs.Parts.Part.{Octets as OctetsPart, CompressibleName, UncompressedName as UncompressedPart}
use Rattle.fields_table.specs.Accepts.{accepts}
use Rattle.fields_table.specs.DataOrders.{octets_of_parts, part_octets}
use Rattle.fields_table.specs.FieldParts.{named_parts}
use Rattle.fields_table.specs.Layouts.{field_layout, layout_of, takes_rest}
use Rattle.fields_table.specs.RecordTypes.{TypeDefinition, record_types}
use Rattle.fields_table.specs.Shapes.{shape_of}
use Rattle.fields_table.specs.Table.{Definition, definitions_of, fields_in, kinds_in}
use Rattle.fields_table.specs.declared.kind.Kind.{Kind}
use Rattle.fields_table.specs.declared.shape.Shape.{Shape}
use Rattle.fields_table.specs.declared.shape.Shape.TheVariants.{Octets, Counted, Sized, Name, UncompressedName, Rest}
use Rattle.fields_records.specs.FieldLaws.{AreWordsOfFields}
use Rattle.fields_text.specs.LineWords.{AreWordsOf, texts}
use Rattle.fields_text.proofs.theory.ByteLemmas.{bytes_front, bytes_back}
use Rattle.fields_records.specs.Extents.{extent_of}
use Rattle.fields_records.specs.FieldWords.{Words}
use Rattle.fields_records.specs.declared.extent.Extent.{Extent}
use Rattle.fields_records.specs.declared.extent.Extent.TheVariants.{All}
use Rattle.fields_records.proofs.FieldPart.{HasWords, IsFieldPart}

abbrev is_all : Extent → Bool
is_all All = true
is_all extent = false

-- whether a field takes all octets or all words that are left
abbrev takes_left : Kind → Bool
takes_left kind = takes_rest (shape_of kind) || is_all (extent_of kind)

-- whether such a field is the last
abbrev pub left_is_last : List Kind → Bool
left_is_last [] = true
left_is_last (kind ∷ []) = true
left_is_last (kind ∷ next ∷ kinds) = not (takes_left kind) && left_is_last (next ∷ kinds)

-- it is, in each record type
rows_end : list_all (λ type. left_is_last (kinds_in type.fields)) record_types ≡ true
unfolding record_types
rows_end = refl

either_ends : (b : Bool) (own others : List Definition) → left_is_last (kinds_in own) ≡ true → left_is_last (kinds_in others) ≡ true → left_is_last (kinds_in (if b then own else others)) ≡ true
either_ends true own others e f = e
either_ends false own others e f = f

type_ends : (types : List TypeDefinition) (rtype : ℕ) → list_all (λ type. left_is_last (kinds_in type.fields)) types ≡ true → left_is_last (kinds_in (fields_in types rtype)) ≡ true
type_ends [] rtype all = refl
type_ends (type ∷ types) rtype all =
    let parts = and_parts (left_is_last (kinds_in type.fields)) (list_all (λ t. left_is_last (kinds_in t.fields)) types) all in
    either_ends (type.number == rtype) type.fields (fields_in types rtype) parts.0 (type_ends types rtype parts.1)

-- In each type, only the last field takes all words that are left.
pub data_ends : (rtype : ℕ) → left_is_last (kinds_in (definitions_of rtype)) ≡ true
unfolding definitions_of
data_ends rtype = type_ends record_types rtype rows_end

or_true : (b : Bool) → b || true ≡ true
or_true true = refl
or_true false = refl

rest_left : (kind : Kind) → takes_rest (shape_of kind) ≡ true → takes_left kind ≡ true
rest_left kind e = ap (λ (b : Bool). b || is_all (extent_of kind)) e

all_left : (kind : Kind) → extent_of kind ≡ All → takes_left kind ≡ true
all_left kind e = ap (λ (x : Extent). takes_rest (shape_of kind) || is_all x) e ∙ or_true (takes_rest (shape_of kind))

module _ (d : Definition) where
  -- no field follows it
  none_after : (ds : List Definition) → left_is_last (kinds_in (d ∷ ds)) ≡ true → takes_left d.1 ≡ true → ds ≡ []
  none_after [] last e = refl
  none_after (next ∷ ds) last e =
      let other = (and_parts (not (takes_left d.1)) (left_is_last (kinds_in (next ∷ ds))) last).0 in
      let same : not (takes_left d.1) ≡ false = ap not e in
      cc (other, same)

  -- If only the last field takes all words that are left, this is so of the fields after the first too.
  pub others_end : (ds : List Definition) → left_is_last (kinds_in (d ∷ ds)) ≡ true → left_is_last (kinds_in ds) ≡ true
  others_end [] last = refl
  others_end (next ∷ ds) last = (and_parts (not (takes_left d.1)) (left_is_last (kinds_in (next ∷ ds))) last).1

-- parts of this layout
abbrev pub AreLayoutParts : Layout → List Part → Type 0
AreLayoutParts layout parts = IsLaidOut layout parts × AreParts parts × IsBytes (octets_of_parts parts) × (length (octets_of_parts parts) < 2 ^ 16)

-- the first part, and the others
abbrev HasFirst : Shape → (List ℕ → Bool) → Layout → List Part → Type 0
HasFirst s test others parts = (part : Part) × (left : List Part) × (parts ≡ part ∷ left) × IsLaidOut (field_layout s test End) (part ∷ []) × IsLaidOut others left

first_of : (s : Shape) (test : List ℕ → Bool) (others : Layout) (parts : List Part) → (takes_rest s ≡ true → others ≡ End) → IsLaidOut (field_layout s test others) parts
    → HasFirst s test others parts
first_of Rest test others parts ends h = (OctetsPart h.0, [], h.1, (h.0, refl, h.2), subst (λ (l : Layout). IsLaidOut l []) (sym (ends refl)) refl)
first_of (Octets n) test others [] ends h = absurd h
first_of (Octets n) test others (OctetsPart xs ∷ ps) ends h = (OctetsPart xs, ps, refl, (h.0, refl), h.1)
first_of (Octets n) test others (CompressibleName x ∷ ps) ends h = absurd h
first_of (Octets n) test others (UncompressedPart a x ∷ ps) ends h = absurd h
first_of Counted test others [] ends h = absurd h
first_of Counted test others (OctetsPart xs ∷ ps) ends h = (OctetsPart xs, ps, refl, (h.0, refl), h.1)
first_of Counted test others (CompressibleName x ∷ ps) ends h = absurd h
first_of Counted test others (UncompressedPart a x ∷ ps) ends h = absurd h
first_of Sized test others [] ends h = absurd h
first_of Sized test others (OctetsPart xs ∷ ps) ends h = (OctetsPart xs, ps, refl, (h.0, refl), h.1)
first_of Sized test others (CompressibleName x ∷ ps) ends h = absurd h
first_of Sized test others (UncompressedPart a x ∷ ps) ends h = absurd h
first_of Name test others [] ends h = absurd h
first_of Name test others (OctetsPart xs ∷ ps) ends h = absurd h
first_of Name test others (CompressibleName x ∷ ps) ends h = (CompressibleName x, ps, refl, refl, h)
first_of Name test others (UncompressedPart a x ∷ ps) ends h = absurd h
first_of (UncompressedName pointers lowers) test others [] ends h = absurd h
first_of (UncompressedName pointers lowers) test others (OctetsPart xs ∷ ps) ends h = absurd h
first_of (UncompressedName pointers lowers) test others (CompressibleName x ∷ ps) ends h = absurd h
first_of (UncompressedName pointers lowers) test others (UncompressedPart a x ∷ ps) ends h = (UncompressedPart a x, ps, refl, (h.0, refl), h.1)

names_split : (part : Part) (parts : List Part) → AreParts (part ∷ parts) → AreParts (part ∷ []) × AreParts parts
names_split (OctetsPart octets) parts h = (tt, h)
names_split (CompressibleName name) parts h = ((h.0, tt), h.1)
names_split (UncompressedPart lowered name) parts h = ((h.0, tt), h.1)

-- the part of the first field, and the parts of the others
parts_split : (kind : Kind) (others : Layout) (part : Part) (left : List Part) → IsLaidOut (field_layout (shape_of kind) (accepts kind) End) (part ∷ []) → IsLaidOut others left
    → AreParts (part ∷ left) → IsBytes (octets_of_parts (part ∷ left)) → length (octets_of_parts (part ∷ left)) < 2 ^ 16 → IsFieldPart kind part × AreLayoutParts others left
parts_split kind others part left is are names bytes small =
    let own = names_split part left names in
    let size = length-append (part_octets part) (octets_of_parts left) in (
      (is, own.0, bytes_front (part_octets part) (octets_of_parts left) bytes, omega (arith, size, small)),
      (are, own.1, bytes_back (part_octets part) (octets_of_parts left) bytes, omega (arith, size, small)),
    )

-- No texts are those of no words.
pub no_texts : (words : Words) → texts words ≡ [] → words ≡ []
no_texts [] e = refl
no_texts (word ∷ words) e = absurd (cc e)

-- words whose texts are two lists, one after the other
abbrev SplitsTexts : Words → List (List ℕ) → List (List ℕ) → Type 0
SplitsTexts words xs ys = (own : Words) × (after : Words) × (words ≡ own ++ after) × (texts own ≡ xs) × (texts after ≡ ys)

one_more : (word : Bor (List ℕ)) (words : Words) (x : List ℕ) (xs ys : List (List ℕ)) → word.now ≡ x → SplitsTexts words xs ys → SplitsTexts (word ∷ words) (x ∷ xs) ys
one_more word words x xs ys first (own, after, split, is, left) = (word ∷ own, after, ap (λ (ws : Words). word ∷ ws) split, cc (first, is), left)

split_texts : (words : Words) (xs ys : List (List ℕ)) → texts words ≡ xs ++ ys → SplitsTexts words xs ys
split_texts words [] ys e = ([], words, refl, refl, e)
split_texts [] (x ∷ xs) ys e = absurd (cc e)
split_texts (word ∷ words) (x ∷ xs) ys e =
    let first : word.now ≡ x = cc e in
    let rest : texts words ≡ xs ++ ys = cc e in
    one_more word words x xs ys first (split_texts words xs ys rest)

-- the first field of a type and its words, and what is left
pub record FirstField (d : Definition) (ds : List Definition) (parts : List Part) (words : Words) : Type 0 where
  pub part : Part
  pub left : List Part
  pub own : Words
  pub after : Words
  pub parts_are : parts ≡ part ∷ left
  pub split : words ≡ own ++ after
  pub takes_all : extent_of d.1 ≡ All → after ≡ []
  pub is_part : IsFieldPart d.1 part
  pub has_words : HasWords d.1 part own
  pub are_left : AreLayoutParts (layout_of (kinds_in ds)) left
  pub words_left : AreWordsOfFields (named_parts ds left) (texts after)

module _ (d : Definition) (ds : List Definition) (last : left_is_last (kinds_in (d ∷ ds)) ≡ true) where
  end_after : takes_rest (shape_of d.1) ≡ true → layout_of (kinds_in ds) ≡ End
  unfolding layout_of
  end_after e = ap (λ (others : List Definition). layout_of (kinds_in others)) (none_after d ds last (rest_left d.1 e))

  no_words_after : (left : List Part) (after : Words) → AreWordsOfFields (named_parts ds left) (texts after) → extent_of d.1 ≡ All → after ≡ []
  no_words_after left after printed e =
      let none = none_after d ds last (all_left d.1 e) in
      no_texts after (subst (λ (others : List Definition). AreWordsOfFields (named_parts others left) (texts after)) none printed)

  -- The parts and words of a type's fields begin with the part and the words of the first field, and the other fields have the rest.
  pub first_field : (parts : List Part) (words : Words) → AreLayoutParts (layout_of (kinds_in (d ∷ ds))) parts → AreWordsOfFields (named_parts (d ∷ ds) parts) (texts words)
      → FirstField d ds parts words
  unfolding layout_of
  first_field parts words are printed =
      let first = first_of (shape_of d.1) (accepts d.1) (layout_of (kinds_in ds)) parts end_after are.0 in
      let part = first.0 in
      let left = first.1 in
      let same = first.2 in
      let split = parts_split d.1 (layout_of (kinds_in ds)) part left first.3 first.4 (subst AreParts same are.1) (subst (λ (ps : List Part). IsBytes (octets_of_parts ps)) same are.2)
      (subst (λ (ps : List Part). length (octets_of_parts ps) < 2 ^ 16) same are.3) in
      let own = subst (λ (ps : List Part). AreWordsOfFields (named_parts (d ∷ ds) ps) (texts words)) same printed in
      let by_text = split_texts words own.0 own.1 own.2 in
      let words_left = subst (AreWordsOfFields (named_parts ds left)) (sym by_text.4) own.4 in
      record {
        part = part;
        left = left;
        own = by_text.0;
        after = by_text.1;
        parts_are = same;
        split = by_text.2;
        takes_all = no_words_after left by_text.1 words_left;
        is_part = split.0;
        has_words = (own.3.0, own.3.1, subst (AreWordsOf own.3.0) (sym by_text.3) own.3.2);
        are_left = split.1;
        words_left = words_left;
      }
