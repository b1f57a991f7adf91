-- Names of a list with commas between them.
use Rattle.std.proofs.Common.{◌≡◌, ◌∙◌, ◌≢◌, ℕ, ◌≤◌, ◌==◌, Bool, true, false, cond, length-append, List, [], ◌∷◌, ◌++◌, length, get_or, map, refl, sym, ap, subst, arith, append_assoc, append-nil, None}
use Rattle.std.specs.Prelude.{codes, ◌||◌, if◌then◌else◌}
use Rattle.std.specs.List.{AllByRecursion, flat_map}
use Rattle.std.proofs.lemmas.Bool.{cond-false, cond-true, eqb-true}
use Rattle.fields_text.specs.Separated.{separated}
use Rattle.fields_text.specs.Strings.{SpellsOctets, octet_at as string_at, unquoted}
use Rattle.fields_plain.specs.Salts.{IsCounted}
use Rattle.fields_parameters.specs.ParameterValues.{AreProtocols, IsAlpn, escaped}
use Rattle.fields_parameters.specs.ProtocolNames.{BeginsName, BeginsNone, IsCountedName, NamesExceed, NamesFrom, SpellsNames, octet_at}
use Rattle.fields_parameters.specs.PushedValues.{PushesValue}
use Rattle.fields_parameters.proofs.PushLemmas.{both_pushed, exceeds_more, exceeds_with, pushed_as}
use Rattle.fields_parameters.proofs.SpelledLemmas.{spelled_end, spelled_first, spelled_more, spelled_nothing, spelled_shorter, split, split_same}

-- an octet of a name in a list
abbrev esc : ℕ → List ℕ
esc o = if (o == 44) || (o == 92) then 92 ∷ o ∷ [] else o ∷ []

-- the octet is read
module _ (o : ℕ) (after : List ℕ) where
  read_by : (a b : Bool) → (o == 44) ≡ a → (o == 92) ≡ b → octet_at ((if a || b then 92 ∷ o ∷ [] else o ∷ []) ++ after) ≡ split o after
  read_by true b comma slash = cond-true _ _ _ comma
  read_by false true comma slash = cond-false _ _ _ comma ∙ cond-true _ _ _ slash
  read_by false false comma slash = cond-false _ _ _ comma ∙ cond-false _ _ _ slash

  octet_read : octet_at (esc o ++ after) ≡ split o after
  octet_read = read_by (o == 44) (o == 92) refl refl

-- and nothing else is read as it
special : (o : ℕ) → (o == 44) || (o == 92) ≡ true → esc o ≡ 92 ∷ o ∷ []
special o is = cond-true _ _ _ is

or_true : (a b : Bool) → b ≡ true → a || b ≡ true
or_true true b is = refl
or_true false b is = is

plain : (o : ℕ) → (o == 44) ≡ false → (o == 92) ≡ false → esc o ≡ o ∷ []
plain o comma slash = cond-false _ _ _ (ap (λ (a : Bool). a || (o == 92)) comma ∙ slash)

escaped_from : (p o : ℕ) (left after : List ℕ) (a b : Bool) → (p == 44) ≡ a → (p == 92) ≡ b → cond a (split p left) (cond b (split p left) None) ≡ split o after → 92 ∷ p ∷ left ≡ esc o ++ after
escaped_from p o left after true b comma slash e =
    let same = split_same p o left after e in
    sym (ap (λ (xs : List ℕ). xs ++ left) (special p (ap (λ (a : Bool). a || (p == 92)) comma))) ∙ ap (λ (q : ℕ). esc q ++ left) same.0 ∙ ap (λ (xs : List ℕ). esc o ++ xs) same.1
escaped_from p o left after false true comma slash e =
    let same = split_same p o left after e in
    sym (ap (λ (xs : List ℕ). xs ++ left) (special p (or_true (p == 44) (p == 92) slash))) ∙ ap (λ (q : ℕ). esc q ++ left) same.0 ∙ ap (λ (xs : List ℕ). esc o ++ xs) same.1
escaped_from p o left after false false comma slash e = absurd (cc e)

from_by : (f o : ℕ) (text after : List ℕ) (a b : Bool) → (f == 44) ≡ a → (f == 92) ≡ b → octet_at (f ∷ text) ≡ split o after → f ∷ text ≡ esc o ++ after
from_by f o text after true b comma slash e = let none = sym (cond-true _ _ _ comma) ∙ e in absurd (cc none)
from_by f o [] after false true comma slash e = let none = sym (cond-false _ _ _ comma ∙ cond-true _ _ _ slash) ∙ e in absurd (cc none)
from_by f o (p ∷ left) after false true comma slash e =
    let read = sym (cond-false _ _ _ comma ∙ cond-true _ _ _ slash) ∙ e in
    ap (λ (g : ℕ). g ∷ p ∷ left) (eqb-true f 92 slash) ∙ escaped_from p o left after (p == 44) (p == 92) refl refl read
from_by f o text after false false comma slash e =
    let read = sym (cond-false _ _ _ comma ∙ cond-false _ _ _ slash) ∙ e in
    let same = split_same f o text after read in
    sym (ap (λ (xs : List ℕ). xs ++ text) (plain f comma slash)) ∙ ap (λ (q : ℕ). esc q ++ text) same.0 ∙ ap (λ (xs : List ℕ). esc o ++ xs) same.1

octet_from : (text after : List ℕ) (o : ℕ) → octet_at text ≡ split o after → text ≡ esc o ++ after
octet_from [] after o e = absurd (cc e)
octet_from (f ∷ text) after o e = from_by f o text after (f == 44) (f == 92) refl refl e

-- the names after the first
abbrev later : List (List ℕ) → List ℕ
later names = separated (codes ",") (codes ",") (map escaped names)

later_none : (names : List (List ℕ)) → octet_at (later names) ≡ None
later_none [] = refl
later_none (name ∷ names) = refl

-- the first name and the text after it
same_first : (m n x y : List ℕ) → octet_at x ≡ None → octet_at y ≡ None → escaped m ++ x ≡ escaped n ++ y → (m ≡ n) × (x ≡ y)
same_first [] [] x y a b e = (refl, e)
same_first [] (p ∷ n) x y a b e =
    let read = sym a ∙ ap octet_at (e ∙ append_assoc (esc p) (escaped n) y) ∙ octet_read p (escaped n ++ y) in
    absurd (cc read)
same_first (o ∷ m) [] x y a b e =
    let read = sym b ∙ ap octet_at (sym e ∙ append_assoc (esc o) (escaped m) x) ∙ octet_read o (escaped m ++ x) in
    absurd (cc read)
same_first (o ∷ m) (p ∷ n) x y a b e =
    let read = sym (octet_read o (escaped m ++ x)) ∙ ap octet_at (sym (append_assoc (esc o) (escaped m) x) ∙ e ∙ append_assoc (esc p) (escaped n) y) ∙ octet_read p (escaped n ++ y) in
    let same = split_same o p (escaped m ++ x) (escaped n ++ y) read in
    let rest = same_first m n x y a b same.1 in
    (ap (λ (q : ℕ). q ∷ m) same.0 ∙ ap (λ (xs : List ℕ). p ∷ xs) rest.0, rest.1)

same_later : (names others : List (List ℕ)) → later names ≡ later others → names ≡ others
same_later [] [] e = refl
same_later [] (other ∷ others) e = absurd (cc e)
same_later (name ∷ names) [] e = absurd (cc e)
same_later (name ∷ names) (other ∷ others) e =
    let texts : escaped name ++ later names ≡ escaped other ++ later others = cc e in
    let same = same_first name other (later names) (later others) (later_none names) (later_none others) texts in
    ap (λ (n : List ℕ). n ∷ names) same.0 ∙ ap (λ (ns : List (List ℕ)). other ∷ ns) (same_later names others same.1)

-- the octets of names
abbrev counted_names : List (List ℕ) → List ℕ
counted_names names = flat_map (λ (name : List ℕ). length name ∷ name) names

-- a text is one list of names
pub one_list : (text v w : List ℕ) → AreProtocols text v → AreProtocols text w → v ≡ w
one_list text v w a b =
    let same = same_first a.first b.first (later a.others) (later b.others) (later_none a.others) (later_none b.others) (sym a.listed ∙ b.listed) in
    let others = same_later a.others b.others same.1 in
    a.octets ∙ ap (λ (n : List ℕ). counted_names (n ∷ a.others)) same.0 ∙ ap (λ (ns : List (List ℕ)). counted_names (b.first ∷ ns)) others ∙ sym b.octets

-- a list of names
protocols_of : (text value : List ℕ) → NamesFrom [] text value → AreProtocols text value
protocols_of text value names = record { first = names.more; others = names.others; counted = names.counted; listed = names.listed; octets = names.octets }

names_of : (text value : List ℕ) → AreProtocols text value → NamesFrom [] text value
names_of text value are = record { more = are.first; others = are.others; counted = are.counted; listed = are.listed; octets = are.octets }

module _ (name : List ℕ) where
  -- at the end of the text
  end_by : (value more : List ℕ) (others : List (List ℕ)) → AllByRecursion IsCounted ((name ++ more) ∷ others) → [] ≡ escaped more ++ later others → value ≡ counted_names ((name ++ more) ∷ others)
      → IsCountedName name value
  end_by value [] [] counted e octets = (
    subst IsCounted (append-nil name) counted.0,
    octets ∙ append-nil (length (name ++ []) ∷ (name ++ [])) ∙ ap (λ (n : List ℕ). length n ∷ n) (append-nil name),
  )
  end_by value [] (other ∷ others) counted e octets = absurd (cc e)
  end_by value (o ∷ more) others counted e octets =
      let read = ap octet_at (e ∙ append_assoc (esc o) (escaped more) (later others)) ∙ octet_read o (escaped more ++ later others) in
      absurd (cc read)

  name_end : (value : List ℕ) → NamesFrom name [] value → IsCountedName name value
  name_end value names = end_by value names.more names.others names.counted names.listed names.octets

  end_name : (value : List ℕ) → IsCountedName name value → NamesFrom name [] value
  end_name value is = record {
    more = [];
    others = [];
    counted = (subst IsCounted (sym (append-nil name)) is.0, tt);
    listed = refl;
    octets = is.1 ∙ ap (λ (n : List ℕ). length n ∷ n) (sym (append-nil name)) ∙ sym (append-nil (length (name ++ []) ∷ (name ++ [])));
  }

  -- at a comma
  abbrev AtComma : List ℕ → List ℕ → Type 0
  AtComma text value = (after : List ℕ) × IsCounted name × (value ≡ (length name ∷ name) ++ after) × NamesFrom [] text after

  comma_by : (text value more : List ℕ) (others : List (List ℕ)) → AllByRecursion IsCounted ((name ++ more) ∷ others) → 44 ∷ text ≡ escaped more ++ later others
      → value ≡ counted_names ((name ++ more) ∷ others) → AtComma text value
  comma_by text value [] [] counted e octets = absurd (cc e)
  comma_by text value [] (other ∷ others) counted e octets =
      let rest : text ≡ escaped other ++ later others = cc e in (
        counted_names (other ∷ others),
        subst IsCounted (append-nil name) counted.0,
        octets ∙ ap (λ (n : List ℕ). (length n ∷ n) ++ counted_names (other ∷ others)) (append-nil name),
        record { more = other; others = others; counted = counted.1; listed = rest; octets = refl },
      )
  comma_by text value (o ∷ more) others counted e octets =
      let read = ap octet_at (e ∙ append_assoc (esc o) (escaped more) (later others)) ∙ octet_read o (escaped more ++ later others) in
      absurd (cc read)

  name_comma : (text value : List ℕ) → NamesFrom name (44 ∷ text) value → AtComma text value
  name_comma text value names = comma_by text value names.more names.others names.counted names.listed names.octets

  comma_name : (text after : List ℕ) → IsCounted name → NamesFrom [] text after → NamesFrom name (44 ∷ text) ((length name ∷ name) ++ after)
  comma_name text after is names = record {
    more = [];
    others = names.more ∷ names.others;
    counted = (subst IsCounted (sym (append-nil name)) is, names.counted);
    listed = ap (λ (xs : List ℕ). 44 ∷ xs) names.listed;
    octets = ap (λ (xs : List ℕ). (length name ∷ name) ++ xs) names.octets ∙ ap (λ (n : List ℕ). (length n ∷ n) ++ counted_names (names.more ∷ names.others)) (sym (append-nil name));
  }

  -- at another octet
  octet_by : (text after value more : List ℕ) (o : ℕ) (others : List (List ℕ)) → octet_at text ≡ split o after → AllByRecursion IsCounted ((name ++ more) ∷ others)
      → text ≡ escaped more ++ later others → value ≡ counted_names ((name ++ more) ∷ others) → NamesFrom (name ++ o ∷ []) after value
  octet_by text after value [] o others begins counted e octets =
      let read = sym begins ∙ ap octet_at e ∙ later_none others in
      absurd (cc read)
  octet_by text after value (p ∷ more) o others begins counted e octets =
      let read = sym begins ∙ ap octet_at (e ∙ append_assoc (esc p) (escaped more) (later others)) ∙ octet_read p (escaped more ++ later others) in
      let same = split_same o p after (escaped more ++ later others) read in
      let whole : name ++ p ∷ more ≡ (name ++ o ∷ []) ++ more = ap (λ (q : ℕ). name ++ q ∷ more) (sym same.0) ∙ sym (append_assoc name (o ∷ []) more) in
      record {
        more = more;
        others = others;
        counted = subst (λ (n : List ℕ). AllByRecursion IsCounted (n ∷ others)) whole counted;
        listed = same.1;
        octets = octets ∙ ap (λ (n : List ℕ). counted_names (n ∷ others)) whole;
      }

  name_octet : (text after value : List ℕ) (o : ℕ) → octet_at text ≡ split o after → NamesFrom name text value → NamesFrom (name ++ o ∷ []) after value
  name_octet text after value o begins names = octet_by text after value names.more o names.others begins names.counted names.listed names.octets

  octet_name : (text after value : List ℕ) (o : ℕ) → octet_at text ≡ split o after → NamesFrom (name ++ o ∷ []) after value → NamesFrom name text value
  octet_name text after value o begins names =
      let whole : (name ++ o ∷ []) ++ names.more ≡ name ++ o ∷ names.more = append_assoc name (o ∷ []) names.more in
      record {
        more = o ∷ names.more;
        others = names.others;
        counted = subst (λ (n : List ℕ). AllByRecursion IsCounted (n ∷ names.others)) whole names.counted;
        listed = octet_from text after o begins ∙ ap (λ (xs : List ℕ). esc o ++ xs) names.listed ∙ sym (append_assoc (esc o) (escaped names.more) (later names.others));
        octets = names.octets ∙ ap (λ (n : List ℕ). counted_names (n ∷ names.others)) whole;
      }

  -- no octet
  none_by : (text more : List ℕ) (others : List (List ℕ)) → 1 ≤ length text → get_or text 0 0 ≢ 44 → octet_at text ≡ None → text ≡ escaped more ++ later others → ⊥
  none_by text [] [] some other none e = let empty = ap length e in omega arith
  none_by text [] (next ∷ others) some other none e = other (ap (λ (xs : List ℕ). get_or xs 0 0) e)
  none_by text (o ∷ more) others some other none e =
      let read = sym none ∙ ap octet_at (e ∙ append_assoc (esc o) (escaped more) (later others)) ∙ octet_read o (escaped more ++ later others) in
      cc read

  -- If a text isn't empty and begins with neither a comma nor an octet, it lists no names.
  no_octet : (text : List ℕ) → 1 ≤ length text → get_or text 0 0 ≢ 44 → octet_at text ≡ None → (value : List ℕ) → ¬ (NamesFrom name text value)
  no_octet text some other none value names = none_by text names.more names.others some other none names.listed

-- names that are appended, if they leave at most `most` octets
module _ (most : ℕ) (name : List ℕ) where
  -- At the end of a text the names are the name that was read.
  pub at_end : (text old new : List ℕ) (r : Bool) → text ≡ [] → PushesValue most (IsCountedName name) old new r → PushesValue most (SpellsNames name text) old new r
  at_end text old new r empty pushed = pushed_as most (IsCountedName name) (SpellsNames name text) old new r into back pushed where
    into : (octets : List ℕ) → IsCountedName name octets → SpellsNames name text octets
    into octets is = ([], subst (λ (t : List ℕ). SpellsOctets t []) (sym empty) spelled_end, end_name name octets is)

    back : (octets : List ℕ) → SpellsNames name text octets → IsCountedName name octets
    back octets (listed, spells, names) =
        let nothing = spelled_nothing [] listed refl (subst (λ (t : List ℕ). SpellsOctets t listed) empty spells) in
        name_end name octets (subst (λ (os : List ℕ). NamesFrom name os octets) nothing names)

  -- a text that begins with a comma
  module _ (text after : List ℕ) (begins : string_at text ≡ split 44 after) where
    split_comma : (octets : List ℕ) → SpellsNames name text octets → (others : List ℕ) × IsCounted name × (octets ≡ (length name ∷ name) ++ others) × SpellsNames [] after others
    split_comma octets (listed, spells, names) =
        let first = spelled_first text after listed 44 begins spells in
        let parts = name_comma name first.0 octets (subst (λ (os : List ℕ). NamesFrom name os octets) first.1 names) in
        (parts.0, parts.1, parts.2, (first.0, first.2, parts.3))

    -- If the name before it is appended and then the names after it, the names of the whole text are appended.
    pub at_comma : (old middle new : List ℕ) (r : Bool) → PushesValue most (IsCountedName name) old middle true → PushesValue most (SpellsNames [] after) middle new r
        → PushesValue most (SpellsNames name text) old new r
    at_comma old middle new true (octets, is, e) (others, (listed, spells, names), f) = (
      (length name ∷ name) ++ others,
      (44 ∷ listed, spelled_more text after listed 44 begins spells, comma_name name listed others is.0 names),
      both_pushed old middle new (length name ∷ name) others ((length name ∷ name) ++ others) (e ∙ ap (λ (xs : List ℕ). old ++ xs) is.1) f refl,
    )
    at_comma old middle new false (octets, is, e) bad = λ all are.
        let parts = split_comma all are in
        exceeds_with most old middle (length name ∷ name) parts.0 all (e ∙ ap (λ (xs : List ℕ). old ++ xs) is.1) parts.2 (bad parts.0 parts.3)

    -- If the name before it can't be appended, the names of the text can't be.
    pub at_bad_comma : (old middle : List ℕ) → PushesValue most (IsCountedName name) old middle false → NamesExceed most name text old
    at_bad_comma old middle bad all are =
        let parts = split_comma all are in
        exceeds_more most old (length name ∷ name) parts.0 all parts.2 (bad (length name ∷ name) (parts.1, refl))

  -- a text that begins with another octet
  module _ (text after : List ℕ) (first : ℕ) (begins : string_at text ≡ split first after) where
    listed_first : (octets : List ℕ) → SpellsNames name text octets → (others : List ℕ) × SpellsOctets after others × NamesFrom name (first ∷ others) octets
    listed_first octets (listed, spells, names) =
        let parts = spelled_first text after listed first begins spells in
        (parts.0, parts.2, subst (λ (os : List ℕ). NamesFrom name os octets) parts.1 names)

    -- If no octet of a name is there, it spells no names.
    pub no_name : first ≢ 44 → BeginsNone first after → (old : List ℕ) → NamesExceed most name text old
    no_name other nothing old all are =
        let parts = listed_first all are in
        absurd (no_octet name (first ∷ parts.0) (omega arith) other (nothing parts.0 parts.1) all parts.2)

    module _ (left : List ℕ) (o : ℕ) (is : BeginsName first after o left) where
      move_octet : (octets : List ℕ) → SpellsNames name text octets → SpellsNames (name ++ o ∷ []) left octets
      move_octet octets are =
          let parts = listed_first octets are in
          let rest = is.begins parts.0 parts.1 in
          (rest.0, rest.1, name_octet name (first ∷ parts.0) rest.0 octets o rest.2 parts.2)

      move_back : (octets : List ℕ) → SpellsNames (name ++ o ∷ []) left octets → SpellsNames name text octets
      move_back octets (listed, spells, names) =
          let parts = is.follows listed spells in
          (first ∷ parts.0, spelled_more text after parts.0 first begins parts.1, octet_name name (first ∷ parts.0) listed octets o parts.2 names)

      -- What appends the names after an octet, with this octet added to the name, appends those of the text.
      pub at_octet : (longer old new : List ℕ) (r : Bool) → longer ≡ name ++ o ∷ [] → PushesValue most (SpellsNames longer left) old new r → PushesValue most (SpellsNames name text) old new r
      at_octet longer old new r same pushed =
          pushed_as most (SpellsNames (name ++ o ∷ []) left) (SpellsNames name text) old new r move_back move_octet
          (subst (λ (n : List ℕ). PushesValue most (SpellsNames n left) old new r) same pushed)

      -- A name has at most 255 octets.
      pub at_full : 255 ≤ length name → (old : List ℕ) → NamesExceed most name text old
      at_full full old all are =
          let names = (move_octet all are).2 in
          let few = names.counted.0.1 in
          absurd (omega (arith, few, length-append (name ++ o ∷ []) names.more, length-append name (o ∷ [])))

escaped_read : (first o : ℕ) (after : List ℕ) → first ≡ 92 → (o == 44) || (o == 92) ≡ true → octet_at (first ∷ o ∷ after) ≡ split o after
escaped_read first o after slash is =
    ap (λ (f : ℕ). octet_at (f ∷ o ∷ after)) slash ∙ sym (ap (λ (xs : List ℕ). octet_at (xs ++ after)) (special o is)) ∙ octet_read o after

-- A comma or a backslash after a backslash is an octet of a name.
pub escaped_name : (first : ℕ) (text left : List ℕ) (o : ℕ) → first ≡ 92 → (o == 44) || (o == 92) ≡ true → string_at text ≡ split o left → BeginsName first text o left
escaped_name first text left o slash is begins = record {
  begins = λ octets spells.
      let parts = spelled_first text left octets o begins spells in
      (parts.0, parts.2, ap (λ (os : List ℕ). octet_at (first ∷ os)) parts.1 ∙ escaped_read first o parts.0 slash is);
  follows = λ octets spells. (o ∷ octets, spelled_more text left octets o begins spells, escaped_read first o octets slash is);
  shorter = let less = spelled_shorter text left o begins in omega arith;
}

-- Whether an octet is one of those that are after a backslash.
pub is_comma : (o : ℕ) → o ≡ 44 → (o == 44) || (o == 92) ≡ true
is_comma o is = ap (λ (n : ℕ). (n == 44) || (n == 92)) is

-- A backslash is a comma or a backslash.
pub is_slash : (o : ℕ) → o ≡ 92 → (o == 44) || (o == 92) ≡ true
is_slash o is = ap (λ (n : ℕ). (n == 44) || (n == 92)) is

-- Names that are appended are those of a character string.
pub alpn_pushed : (most : ℕ) (text inner bytes empty old new : List ℕ) (r : Bool) → inner ≡ unquoted text → bytes ≡ inner → empty ≡ []
    → PushesValue most (SpellsNames empty bytes) old new r → PushesValue most (IsAlpn text) old new r
alpn_pushed most text inner bytes empty old new r between same none pushed = pushed_as most (SpellsNames empty bytes) (IsAlpn text) old new r into back pushed where
  within : bytes ≡ unquoted text
  within = same ∙ between

  into : (octets : List ℕ) → SpellsNames empty bytes octets → IsAlpn text octets
  into octets (listed, spells, names) = (
    listed,
    subst (λ (t : List ℕ). SpellsOctets t listed) within spells,
    protocols_of listed octets (subst (λ (n : List ℕ). NamesFrom n listed octets) none names),
  )

  back : (octets : List ℕ) → IsAlpn text octets → SpellsNames empty bytes octets
  back octets (listed, spells, are) = (
    listed,
    subst (λ (t : List ℕ). SpellsOctets t listed) (sym within) spells,
    subst (λ (n : List ℕ). NamesFrom n listed octets) (sym none) (names_of listed octets are),
  )
