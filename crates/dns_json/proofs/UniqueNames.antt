-- No object in the JSON of a message has a name twice.
use Rattle.std.proofs.Common.{◌≡◌, ◌≢◌, ℕ, zero, suc, ◌<◌, Bool, true, false, ◌&&◌, ◌||◌, not}
use Rattle.std.proofs.Common.{List, [], ◌∷◌, ◌++◌, Option, Some, None, ap, arith, codes, eq-eqb, length, map, refl, slice_index_or, subst, sym}
use Rattle.std.proofs.lemmas.Bool.{and_parts, and_from, not-true, or_parts}
use Rattle.std.specs.List.{list_any}
use Rattle.std.specs.Prelude.{if◌then◌else◌, Result, Ok, Err}
use Rattle.std.specs.Str.{bytes_eq}
use Rattle.json.specs.Json.{Json, number, string}
use Rattle.json.specs.Strict.{AreDistinct, HasUniqueKeys, ItemsHaveUniqueKeys, MembersHaveUniqueKeys, keys}
use Rattle.json.specs.Value.{items_of}
use Rattle.dns_name.specs.Names.{Fault}
use Rattle.dns_item.specs.ParsedRecord.{EncodedRecord}
use Rattle.dns_item.specs.Questions.{QuestionItem}
use Rattle.dns_read.specs.Searches.{asked_first, questions_of}
use Rattle.dns_read.specs.declared.section.Section.{Section}
use Rattle.dns_read.specs.declared.section.Section.TheVariants.{Answer, Authority, Additional}
use Rattle.json_print.specs.Values.{Member, members_of, object_of}
use Rattle.dns_json.proofs.MemberLists.{additionals, after_asked, answers, authorities, question_items, record_items}
use Rattle.json_print.proofs.theory.Shapes.{EachItem, EachValue, each_append}
use Rattle.dns_lines.specs.ZoneLines.{rdata_octets}
use Rattle.dns_json.specs.Entries.{readable}
use Rattle.dns_json.specs.Header.{owner_members}
use Rattle.dns_json.specs.Laws.{NamesAreUnique}
use Rattle.dns_json.specs.Messages.{asked_members, body_members, head_members, is_whole, question_json, reading_of, section_members, section_name, sections_members, octets_members}
use Rattle.dns_json.specs.Records.{hex_text, presentation, rdata_members, record_json, record_members, text_members, ttl_text}

-- whether no name is equal to a later one
abbrev are_distinct : List (List ℕ) → Bool
are_distinct [] = true
are_distinct (name ∷ names) = not (list_any (λ other. bytes_eq other name) names) && are_distinct names

abbrev names_of : List Member → List (List ℕ)
names_of [] = []
names_of (m ∷ ms) = m.0 ∷ names_of ms

names_of-append : (ms ns : List Member) → names_of (ms ++ ns) ≡ names_of ms ++ names_of ns
names_of-append [] ns = refl
names_of-append (m ∷ ms) ns = ap (λ (l : List (List ℕ)). m.0 ∷ l) (names_of-append ms ns)

keys_are_names : (ms : List Member) → keys (members_of ms) ≡ names_of ms
keys_are_names [] = refl
keys_are_names (m ∷ ms) = ap (λ (l : List (List ℕ)). m.0 ∷ l) (keys_are_names ms)

-- A text is equal to itself.
pub same_text : (xs : List ℕ) → bytes_eq xs xs ≡ true
same_text [] = refl
same_text (x ∷ xs) = and_from _ _ (eq-eqb x x refl) (same_text xs)

-- a name that no other equals
alone : (name : List ℕ) (names : List (List ℕ)) → list_any (λ other. bytes_eq other name) names ≡ false → (k : ℕ) (d : List ℕ) → k < length names → name ≢ slice_index_or names k d
alone name [] differs k d inside = absurd (omega arith)
alone name (other ∷ names) differs zero d inside =
    λ e. let parts = or_parts (bytes_eq other name) _ differs in cc (parts.0, same_text name)
alone name (other ∷ names) differs (suc k) d inside = alone name names (or_parts (bytes_eq other name) _ differs).1 k d (omega arith)

distinct_pairs : (names : List (List ℕ)) → are_distinct names ≡ true → AreDistinct names
distinct_pairs [] is i j d before inside = absurd (omega arith)
distinct_pairs (name ∷ names) is zero zero d before inside = absurd (omega arith)
distinct_pairs (name ∷ names) is zero (suc j) d before inside = alone name names (not-true _ (and_parts _ _ is).0) j d (omega arith)
distinct_pairs (name ∷ names) is (suc i) zero d before inside = absurd (omega arith)
distinct_pairs (name ∷ names) is (suc i) (suc j) d before inside = distinct_pairs names (and_parts _ _ is).1 i j d (omega arith) (omega arith)

-- Names that are some of others, in order.
data AreSomeOf : List (List ℕ) → List (List ℕ) → Type 0 where
  none : AreSomeOf [] []
  keep : {x : List ℕ} {xs ys : List (List ℕ)} → AreSomeOf xs ys → AreSomeOf (x ∷ xs) (x ∷ ys)
  leave : {y : List ℕ} {xs ys : List (List ℕ)} → AreSomeOf xs ys → AreSomeOf xs (y ∷ ys)

all_of : (xs : List (List ℕ)) → AreSomeOf xs xs
all_of [] = none
all_of (x ∷ xs) = keep (all_of xs)

none_of : (ys : List (List ℕ)) → AreSomeOf [] ys
none_of [] = none
none_of (y ∷ ys) = leave (none_of ys)

some_append : {xs ys : List (List ℕ)} (us vs : List (List ℕ)) → AreSomeOf xs ys → AreSomeOf us vs → AreSomeOf (xs ++ us) (ys ++ vs)
some_append us vs none k = k
some_append us vs (keep h) k = keep (some_append us vs h k)
some_append us vs (leave h) k = leave (some_append us vs h k)

not_false : (b : Bool) → b ≡ false → not b ≡ true
not_false b is = ap not is

less_any : (test : List ℕ → Bool) {xs ys : List (List ℕ)} → AreSomeOf xs ys → list_any test ys ≡ false → list_any test xs ≡ false
less_any test none is = is
less_any test (keep {x = x} h) is = let parts = or_parts _ _ is in (λ i. parts.0 i || less_any test h parts.1 i)
less_any test (leave h) is = less_any test h (or_parts _ _ is).1

-- Some of different names are different.
less_distinct : {xs ys : List (List ℕ)} → AreSomeOf xs ys → are_distinct ys ≡ true → are_distinct xs ≡ true
less_distinct none is = is
less_distinct (keep h) is = let both = and_parts _ _ is in and_from _ _ (not_false _ (less_any _ h (not-true _ both.0))) (less_distinct h both.1)
less_distinct (leave h) is = less_distinct h (and_parts _ _ is).1

members_unique : (ms : List Member) → EachValue HasUniqueKeys ms → MembersHaveUniqueKeys (members_of ms)
members_unique [] h = tt
members_unique (m ∷ ms) h = (h.0, members_unique ms h.1)

items_unique : (js : List Json) → EachItem HasUniqueKeys js → ItemsHaveUniqueKeys (items_of js)
items_unique [] h = tt
items_unique (j ∷ js) h = (h.0, items_unique js h.1)

object_unique : (ms : List Member) → are_distinct (names_of ms) ≡ true → EachValue HasUniqueKeys ms → HasUniqueKeys (object_of ms)
object_unique ms is h = (subst AreDistinct (sym (keys_are_names ms)) (distinct_pairs (names_of ms) is), members_unique ms h)

question_unique : (q : QuestionItem) → HasUniqueKeys (question_json q)
question_unique q = object_unique (owner_members q.name q.rtype q.class) refl (tt, (tt, (tt, (tt, (tt, tt)))))

text_unique : (rtype : ℕ) (text : Option (List ℕ)) → EachValue HasUniqueKeys (text_members rtype text)
text_unique rtype (Some text) = (tt, tt)
text_unique rtype None = tt

-- the members of a record whose RDATA has this text
abbrev record_with : EncodedRecord → Option (List ℕ) → List Member
record_with x text =
    owner_members x.entry.owner x.entry.rtype x.entry.class ++ ((codes "TTL", number (ttl_text x.entry.ttl)) ∷ (rdata_members (rdata_octets x) ++ text_members x.entry.rtype text))

record_names : (x : EncodedRecord) (text : Option (List ℕ)) → are_distinct (names_of (record_with x text)) ≡ true
record_names x (Some text) = refl
record_names x None = refl

record_unique : (x : EncodedRecord) → HasUniqueKeys (record_json x)
record_unique x =
    object_unique (record_members x) (record_names x (presentation x)) (tt, (tt, (tt, (tt, (tt, (tt, (tt, (tt, text_unique x.entry.rtype (presentation x)))))))))

entries_unique : {X : Type 0} (json : X → Json) → ((x : X) → HasUniqueKeys (json x)) → (xs : List (Result X Fault)) → EachItem HasUniqueKeys (map json (readable xs))
entries_unique json all [] = tt
entries_unique json all (Ok x ∷ xs) = (all x, entries_unique json all xs)
entries_unique json all (Err f ∷ xs) = entries_unique json all xs

section_unique : (which : Section) (reading : Option (List (Result EncodedRecord Fault))) → EachValue HasUniqueKeys (section_members which reading)
section_unique which None = tt
section_unique which (Some xs) = (items_unique (record_items xs) (entries_unique record_json record_unique xs), tt)

asked_unique : (q : Option QuestionItem) → EachValue HasUniqueKeys (asked_members q)
asked_unique None = tt
asked_unique (Some q) = (tt, (tt, (tt, (tt, (tt, tt)))))

octets_unique : (whole : Bool) (octets : List ℕ) → EachValue HasUniqueKeys (if whole then [] else (codes "messageOctetsHEX", string octets) ∷ [])
octets_unique true octets = tt
octets_unique false octets = (tt, tt)

-- the names of all members that a message may have
abbrev asked_names : List (List ℕ)
asked_names = codes "QNAME" ∷ codes "QTYPE" ∷ codes "QTYPEname" ∷ codes "QCLASS" ∷ codes "QCLASSname" ∷ []

-- those of the sections of records
abbrev section_names : List (List ℕ)
section_names = section_name Answer ∷ section_name Authority ∷ section_name Additional ∷ []

-- those after the first question
abbrev later_names : List (List ℕ)
later_names = codes "questionRRs" ∷ section_name Answer ∷ section_name Authority ∷ section_name Additional ∷ codes "messageOctetsHEX" ∷ []

asked_some : (q : Option QuestionItem) → AreSomeOf (names_of (asked_members q)) asked_names
asked_some None = none_of asked_names
asked_some (Some q) = all_of asked_names

section_some : (which : Section) (reading : Option (List (Result EncodedRecord Fault))) → AreSomeOf (names_of (section_members which reading)) (section_name which ∷ [])
section_some which None = none_of (section_name which ∷ [])
section_some which (Some xs) = all_of (section_name which ∷ [])

octets_some : (whole : Bool) (octets : List ℕ) → AreSomeOf (names_of (if whole then [] else (codes "messageOctetsHEX", string octets) ∷ [])) (codes "messageOctetsHEX" ∷ [])
octets_some true octets = none_of (codes "messageOctetsHEX" ∷ [])
octets_some false octets = all_of (codes "messageOctetsHEX" ∷ [])

both_some : (ms ns : List Member) (xs ys : List (List ℕ)) → AreSomeOf (names_of ms) xs → AreSomeOf (names_of ns) ys → AreSomeOf (names_of (ms ++ ns)) (xs ++ ys)
both_some ms ns xs ys h k = subst (λ (l : List (List ℕ)). AreSomeOf l (xs ++ ys)) (sym (names_of-append ms ns)) (some_append (names_of ns) ys h k)

module _ (b : List ℕ) where
  sections_some : AreSomeOf (names_of (sections_members b)) (section_name Answer ∷ section_name Authority ∷ section_name Additional ∷ [])
  sections_some =
      both_some (answers b) (authorities b ++ additionals b) (section_name Answer ∷ []) (section_name Authority ∷ section_name Additional ∷ []) (section_some Answer (reading_of Answer b))
      (both_some (authorities b) (additionals b) (section_name Authority ∷ []) (section_name Additional ∷ [])
      (section_some Authority (reading_of Authority b)) (section_some Additional (reading_of Additional b)))

  message_names : are_distinct (names_of (head_members b ++ body_members b)) ≡ true
  message_names =
      less_distinct
      (both_some (head_members b) (body_members b) (names_of (head_members b)) (asked_names ++ later_names) (all_of (names_of (head_members b)))
      (both_some (asked_members (asked_first b)) (after_asked b) asked_names later_names (asked_some (asked_first b))
      (keep {x = codes "questionRRs"} (both_some (sections_members b) (octets_members b) section_names (codes "messageOctetsHEX" ∷ []) sections_some (octets_some (is_whole b) (hex_text b))))))
      refl

  message_values : EachValue HasUniqueKeys (head_members b ++ body_members b)
  message_values =
      let sections =
      each_append HasUniqueKeys (answers b) (authorities b ++ additionals b) (section_unique Answer (reading_of Answer b))
      (each_append HasUniqueKeys (authorities b) (additionals b) (section_unique Authority (reading_of Authority b)) (section_unique Additional (reading_of Additional b))) in
      let head : EachValue HasUniqueKeys (head_members b) = (tt, (tt, (tt, (tt, (tt, (tt, (tt, (tt, (tt, (tt, (tt, (tt, (tt, (tt, tt)))))))))))))) in
      let body =
      each_append HasUniqueKeys (asked_members (asked_first b)) (after_asked b) (asked_unique (asked_first b)) (
        items_unique (question_items b) (entries_unique question_json question_unique (questions_of b)),
        each_append HasUniqueKeys (sections_members b) (octets_members b) sections (octets_unique (is_whole b) (hex_text b)),
      ) in
      each_append HasUniqueKeys (head_members b) (body_members b) head body

-- No object has a name twice.
pub names_are_unique : NamesAreUnique
names_are_unique b = object_unique (head_members b ++ body_members b) (message_names b) (message_values b)
