-- RDATA that was written is accepted.
use Rattle.std.proofs.Common.{◌≡◌, ◌≢◌, ◌∙◌, inl, inr, ℕ, zero, suc, ◌+◌, ◌-◌, ◌<◌, ◌≤◌, ◌==◌, Bool, true, false, cond, List, [], ◌∷◌, ◌++◌, length, length-append, refl, sym, ap, subst, arith, drop}
use Rattle.std.specs.Prelude.{get_or, nat_eq, nat_lt, not}
use Rattle.std.proofs.lemmas.Bool.{eqb-true, eq-eqb, false≢true}
use Rattle.std.proofs.lemmas.Bool.Decides.{nat_tests}
use Rattle.std.proofs.lemmas.List.{get_or-append-add, get_or-drop, get_or-take, get_or_append_left}
use Rattle.dns_name.specs.Names.{Labels, uncompressed}
use Rattle.dns_wire.specs.Parts.{Part, Octets, CompressibleName, UncompressedName, AreParts, parts_size}
use Rattle.dns_wire.specs.Targets.{At, Written, IsTarget}
use Rattle.dns_wire.proofs.theory.CompressedNames.{compressed_long}
use Rattle.dns_wire.proofs.theory.EncoderLaws.{HasParts, parts_rise}
use Rattle.dns_edit.specs.Pointers.{AcceptsName}
use Rattle.dns_edit.specs.Acceptance.{AllAccepted, AcceptsData}
use Rattle.dns_edit.specs.Acceptance.AllAccepted.{none, more}
use Rattle.dns_edit.specs.Rdata.{name_count, names_start, octets_before, string_end}
use Rattle.dns_edit.proofs.theory.NamedTypes.{among_passes}
use Rattle.dns_item.specs.Items.{RecordItem}
use Rattle.dns_regular.specs.Built.{HasItsNames, octets_first, from_name, NoneCompressible, NamesFirst}
use Rattle.dns_regular.proofs.Origins.{Spans, IsAmong, Traced, part_spans, among_either}
use Rattle.dns_regular.proofs.Names.{From, Known, accepts_name, accepts_full, known_after, known_later, known_more}

-- Each name that may be compressed, of parts from p to q, is between them.
pub spans_between : (parts : List Part) (t : Written) (p q : ℕ) (h : HasParts parts t p q) (a e : ℕ) → IsAmong a e (part_spans parts t p q h) → (p ≤ a) × (a < e) × (e ≤ q)
spans_between [] t p q h a e among = absurd among
spans_between (Octets xs ∷ parts) t p q h a e among =
    let rest = spans_between parts t h.0 q h.2 a e among in
    let end = h.1.1 in
    (omega (arith, rest.0, end), rest.1, rest.2)
spans_between (CompressibleName name ∷ parts) t p q h a e (inl this) =
    let long = compressed_long h.1 in
    let rises = parts_rise parts t h.0 q h.2 in
    (omega (arith, this.0), omega (arith, this.0, this.1, long.0), omega (arith, this.1, rises))
spans_between (CompressibleName name ∷ parts) t p q h a e (inr among) =
    let long = compressed_long h.1 in
    let rest = spans_between parts t h.0 q h.2 a e among in
    (omega (arith, rest.0, long.0), rest.1, rest.2)
spans_between (UncompressedName lowercased name ∷ parts) t p q h a e among =
    let rest = spans_between parts t h.0 q h.2 a e among in
    let end = h.1.1 in
    (omega (arith, rest.0, end), rest.1, rest.2)

-- Names from p on, and others that begin later.
pub from_both : (p q : ℕ) (ss others : Spans) → p ≤ q → From p ss → From q others → From p (ss ++ others)
from_both p q [] others l f g a e among = let k = g a e among in omega arith
from_both p q (s ∷ ss) others l f g a e (inl this) = f a e (inl this)
from_both p q (s ∷ ss) others l f g a e (inr among) = from_both p q ss others l (λ a e is. f a e (inr is)) g a e among

-- Names of parts begin at or after the parts.
pub parts_from : (parts : List Part) (t : Written) (p q : ℕ) (h : HasParts parts t p q) → From p (part_spans parts t p q h)
parts_from parts t p q h a e among = (spans_between parts t p q h a e among).0

-- Parts without a name that may be compressed have none.
none_spans : (parts : List Part) (t : Written) (p q : ℕ) (h : HasParts parts t p q) → NoneCompressible parts → part_spans parts t p q h ≡ []
none_spans [] t p q h is = refl
none_spans (Octets xs ∷ parts) t p q h is = none_spans parts t h.0 q h.2 is
none_spans (CompressibleName name ∷ parts) t p q h is = absurd is
none_spans (UncompressedName lowercased name ∷ parts) t p q h is = none_spans parts t h.0 q h.2 is

-- An octet of octets at an offset.
octet_at : {b : List ℕ} {p : ℕ} {xs : List ℕ} → At b p xs → (k : ℕ) → k < length xs → get_or b (p + k) 0 ≡ get_or xs k 0
octet_at {b = b} {p = p} {xs = xs} h k few =
    let n = p + length xs - p in
    sym (ap (λ (ys : List ℕ). get_or ys k 0) (sym h.same) ∙ (get_or-take n (drop p b) k 0 (omega arith) ∙ get_or-drop p b k 0))

-- The parts from the first name on, after the octets before it.
pub record Begins (parts : List Part) (t : Written) (p q : ℕ) (h : HasParts parts t p q) : Type 0 where
  pub place : ℕ
  pub is : place ≡ p + length (octets_first parts)
  pub octets : (k : ℕ) → k < length (octets_first parts) → get_or t.octets (p + k) 0 ≡ get_or (octets_first parts) k 0
  pub rest : HasParts (from_name parts) t place q
  pub same : part_spans parts t p q h ≡ part_spans (from_name parts) t place q rest

octet_of_both : (b xs ys : List ℕ) (p r k : ℕ) (low : Bool) → nat_lt k (length xs) ≡ low → r ≡ p + length xs → k < length (xs ++ ys) → ((k : ℕ) → k < length xs → get_or b (p + k) 0 ≡ get_or xs k 0)
    → ((k : ℕ) → k < length ys → get_or b (r + k) 0 ≡ get_or ys k 0) → get_or b (p + k) 0 ≡ get_or (xs ++ ys) k 0
octet_of_both b xs ys p r k true is end few first second =
    let low : k < length xs = grind (arith, nat_tests) in first k low ∙ sym (get_or_append_left xs ys 0 k low)
octet_of_both b xs ys p r k false is end few first second =
    let high : length xs ≤ k = grind (arith, nat_tests) in
    let n = length-append xs ys in
    let j = k - length xs in
    let here : p + k ≡ r + j = omega arith in
    let there : k ≡ length xs + j = omega arith in
    ap (λ (i : ℕ). get_or b i 0) here ∙ (second j (omega arith) ∙ sym (ap (λ (i : ℕ). get_or (xs ++ ys) i 0) there ∙ get_or-append-add xs ys j 0))

begins_at : (parts : List Part) (t : Written) (p q : ℕ) (h : HasParts parts t p q) → Begins parts t p q h
begins_at [] t p q h = record { place = p; is = omega arith; octets = λ k few. absurd (omega arith); rest = h; same = refl }
begins_at (Octets xs ∷ parts) t p q h =
    let rest = begins_at parts t h.0 q h.2 in
    let end = h.1.1 in
    let n = length-append xs (octets_first parts) in
    record {
      place = rest.place;
      is = omega (arith, rest.is);
      octets = λ k few. octet_of_both t.octets xs (octets_first parts) p h.0 k (nat_lt k (length xs)) refl end few (octet_at h.1.0) rest.octets;
      rest = rest.rest;
      same = rest.same;
    }
begins_at (CompressibleName name ∷ parts) t p q h = record { place = p; is = omega arith; octets = λ k few. absurd (omega arith); rest = h; same = refl }
begins_at (UncompressedName lowercased name ∷ parts) t p q h = record { place = p; is = omega arith; octets = λ k few. absurd (omega arith); rest = h; same = refl }

-- the names from the first one on are names
are_from : (parts : List Part) → AreParts parts → AreParts (from_name parts)
are_from [] is = is
are_from (Octets xs ∷ parts) is = are_from parts is
are_from (CompressibleName name ∷ parts) is = is
are_from (UncompressedName lowercased name ∷ parts) is = is

-- Where the names of RDATA begin.

by_type : (b front : List ℕ) (start before : ℕ) (same : Bool) → ((k : ℕ) → k < length front → get_or b (start + k) 0 ≡ get_or front k 0)
    → cond same (string_end front (string_end front (string_end front (0 + 4)))) (0 + before) ≡ length front
    → cond same (string_end b (string_end b (string_end b (start + 4)))) (start + before) ≡ start + length front
by_type b front start before false agree is = omega (arith, is)
by_type b front start before true agree is =
    let f1 = string_end front 4 in
    let f2 = string_end front f1 in
    let a0 = agree 4 (omega (arith, is)) in
    let s1 : string_end b (start + 4) ≡ start + f1 = omega (arith, a0) in
    let a1 = agree f1 (omega (arith, is)) in
    let s2 : string_end b (start + f1) ≡ start + f2 = omega (arith, a1) in
    let a2 = agree f2 (omega (arith, is)) in
    let s3 : string_end b (start + f2) ≡ start + string_end front f2 = omega (arith, a2) in
    ap (λ (k : ℕ). string_end b (string_end b k)) s1 ∙ (ap (string_end b) s2 ∙ (s3 ∙ ap (λ (k : ℕ). start + k) is))

-- If they begin after the first octets of the RDATA alone, they do so where the RDATA is.
names_start_at : (b front : List ℕ) (rtype start : ℕ) → ((k : ℕ) → k < length front → get_or b (start + k) 0 ≡ get_or front k 0)
    → names_start front rtype 0 ≡ length front → names_start b rtype start ≡ start + length front
names_start_at b front rtype start agree is = by_type b front start (octets_before rtype) (nat_eq rtype 35) agree is

-- whether a type has names in RDATA
abbrev is_named : ℕ → Bool
is_named n = not (nat_eq (name_count n) 0)

named_not : (n : ℕ) → name_count n ≡ 0 → is_named n ≡ true → ⊥
named_not n nil is = false≢true (sym (ap (λ (k : ℕ). not (nat_eq k 0)) nil) ∙ is)

-- how many octets are before the names, by four tests of the type
abbrev before_by : Bool → Bool → Bool → Bool → ℕ
before_by a b c d = cond a 2 (cond b 6 (cond c 5 (cond d 18 0)))

by_tests : (a b c d : Bool) → (a ≡ true → ⊥) → (b ≡ true → ⊥) → (c ≡ true → ⊥) → (d ≡ true → ⊥) → before_by a b c d ≡ 0
by_tests true b c d na nb nc nd = absurd (na refl)
by_tests false true c d na nb nc nd = absurd (nb refl)
by_tests false false true d na nb nc nd = absurd (nc refl)
by_tests false false false true na nb nc nd = absurd (nd refl)
by_tests false false false false na nb nc nd = refl

-- No octets are before names that there aren't.
nothing_before : (n : ℕ) → name_count n ≡ 0 → octets_before n ≡ 0
nothing_before n nil =
    by_tests _ _ _ _
    (λ e. named_not n nil (among_passes is_named n (15 ∷ 18 ∷ 21 ∷ 26 ∷ 36 ∷ 64 ∷ 65 ∷ 107 ∷ []) refl e))
    (λ e. named_not n nil (subst (λ (k : ℕ). is_named k ≡ true) (sym (eqb-true n 33 e)) refl))
    (λ e. named_not n nil (subst (λ (k : ℕ). is_named k ≡ true) (sym (eqb-true n 66 e)) refl))
    (λ e. named_not n nil (among_passes is_named n (24 ∷ 46 ∷ []) refl e))

nameless_by : (b : List ℕ) (n start : ℕ) (same : Bool) → nat_eq n 35 ≡ same → name_count n ≡ 0
    → cond same (string_end b (string_end b (string_end b (start + 4)))) (start + octets_before n) ≡ start
nameless_by b n start true e nil = absurd (named_not n nil (subst (λ (k : ℕ). is_named k ≡ true) (sym (eqb-true n 35 e)) refl))
nameless_by b n start false e nil = let none = nothing_before n nil in omega (arith, none)

-- RDATA of a type without names has them at its start.
nameless : (b : List ℕ) (n start : ℕ) → name_count n ≡ 0 → names_start b n start ≡ start
nameless b n start nil = nameless_by b n start (nat_eq n 35) refl nil

-- a name takes octets
name_some : (name : Labels) → length (uncompressed name) ≢ 0
name_some [] e = omega arith
name_some (first ∷ rest) e = omega arith

-- Parts without octets take none.
empty_parts : (parts : List Part) (t : Written) (p q : ℕ) → parts_size parts ≡ 0 → HasParts parts t p q → p ≡ q
empty_parts [] t p q nil h = h
empty_parts (Octets xs ∷ parts) t p q nil h =
    let rest = empty_parts parts t h.0 q (omega arith) h.2 in
    let end = h.1.1 in
    omega arith
empty_parts (CompressibleName name ∷ parts) t p q nil h = absurd (name_some name (omega arith))
empty_parts (UncompressedName lowercased name ∷ parts) t p q nil h = absurd (name_some name (omega arith))

-- The names of parts: n of them, and others that aren't compressed.
pub record Names (IsSpan : ℕ → ℕ → Type 0) (b : List ℕ) (n : ℕ) (names : List ℕ) (p q : ℕ) (later : Spans) : Type 0 where
  pub after : List ℕ
  pub stop : ℕ
  pub accepted : AllAccepted (AcceptsName b) n names p stop after
  pub within : stop ≤ q
  pub known : Known IsSpan after q later

module _ (IsSpan : ℕ → ℕ → Type 0) (t : Written) (good : IsTarget t) (traced : Traced IsSpan t) where
  accepts_names : (n : ℕ) (parts : List Part) (names : List ℕ) (p q : ℕ) (others : Spans) → AreParts parts → NamesFirst n parts → (h : HasParts parts t p q) → From q others
      → Known IsSpan names p (part_spans parts t p q h ++ others) → Names IsSpan t.octets n names p q others
  accepts_names zero parts names p q others is first h from known = record {
    after = names;
    stop = p;
    accepted = none;
    within = parts_rise parts t p q h;
    known = known_later IsSpan names p q others (parts_rise parts t p q h)
        (subst (λ (ss : Spans). Known IsSpan names p (ss ++ others)) (none_spans parts t p q h first) known);
  }
  accepts_names (suc n) [] names p q others is first h from known = absurd first
  accepts_names (suc n) (Octets xs ∷ parts) names p q others is first h from known = absurd first
  accepts_names (suc n) (CompressibleName name ∷ parts) names p q others is first h from known =
      let r = h.0 in
      let long = compressed_long h.1 in
      let ss = part_spans parts t r q h.2 in
      let later = from_both r q ss others (parts_rise parts t r q h.2) (parts_from parts t r q h.2) from in
      let rest = accepts_names n parts (p ∷ names) r q others is.1 first h.2 from (known_after IsSpan names p r (ss ++ others) (omega (arith, long.0)) known) in
      record {
        after = rest.after;
        stop = rest.stop;
        accepted = more (accepts_name IsSpan t good traced names p r name (ss ++ others) is.0 h.1 later known) rest.accepted;
        within = rest.within;
        known = rest.known;
      }
  accepts_names (suc n) (UncompressedName lowercased name ∷ parts) names p q others is first h from known =
      let r = h.0 in
      let end = h.1.1 in
      let ss = part_spans parts t r q h.2 in
      let rest = accepts_names n parts (p ∷ names) r q others is.1 first h.2 from (known_more IsSpan names p p r (ss ++ others) (omega (arith, end)) known) in
      record {
        after = rest.after;
        stop = rest.stop;
        accepted = more (accepts_full IsSpan t good traced names p r name is.0 h.1.0 end) rest.accepted;
        within = rest.within;
        known = rest.known;
      }

-- RDATA that is accepted.
pub record DataAccepted (IsSpan : ℕ → ℕ → Type 0) (b names : List ℕ) (rtype start q : ℕ) (others : Spans) : Type 0 where
  pub after : List ℕ
  pub accepted : AcceptsData b names rtype start q after
  pub known : Known IsSpan after q others

module _ (IsSpan : ℕ → ℕ → Type 0) (t : Written) (good : IsTarget t) (traced : Traced IsSpan t) (rtype : ℕ) (parts : List Part) (names : List ℕ) (p q : ℕ) (others : Spans)
    (are : AreParts parts) (h : HasParts parts t p q) (from : From q others) (known : Known IsSpan names p (part_spans parts t p q h ++ others)) where
  -- the names, where they begin
  named_parts : NamesFirst (name_count rtype) (from_name parts) → Names IsSpan t.octets (name_count rtype) names (begins_at parts t p q h).place q others
  named_parts first =
      let begins = begins_at parts t p q h in
      let ss = part_spans (from_name parts) t begins.place q begins.rest in
      let known_there = known_later IsSpan names p begins.place (ss ++ others) (omega (arith, begins.is))
      (subst (λ (xs : Spans). Known IsSpan names p (xs ++ others)) begins.same known) in
      accepts_names IsSpan t good traced (name_count rtype) (from_name parts) names begins.place q others (are_from parts are) first begins.rest from known_there

  -- RDATA of a type without names
  without_names : p ≢ q → name_count rtype ≡ 0 → NoneCompressible (from_name parts) → DataAccepted IsSpan t.octets names rtype p q others
  without_names some nil none_of =
      let begins = begins_at parts t p q h in
      let none_here : part_spans parts t p q h ≡ [] = begins.same ∙ none_spans (from_name parts) t begins.place q begins.rest none_of in
      let start = nameless t.octets rtype p nil in
      let rises = parts_rise parts t p q h in
      let empty : AllAccepted (AcceptsName t.octets) 0 names (names_start t.octets rtype p) (names_start t.octets rtype p) names = none in
      record {
        after = names;
        accepted = AcceptsData.all some (subst (λ (k : ℕ). AllAccepted (AcceptsName t.octets) k names (names_start t.octets rtype p) (names_start t.octets rtype p) names) (sym nil) empty)
            (omega (arith, start, rises));
        known = known_later IsSpan names p q others rises (subst (λ (xs : Spans). Known IsSpan names p (xs ++ others)) none_here known);
      }

  -- RDATA of a type with names
  with_names : p ≢ q → names_start (octets_first parts) rtype 0 ≡ length (octets_first parts) → NamesFirst (name_count rtype) (from_name parts)
      → DataAccepted IsSpan t.octets names rtype p q others
  with_names some start first =
      let begins = begins_at parts t p q h in
      let found = named_parts first in
      let place : begins.place ≡ names_start t.octets rtype p = begins.is ∙ sym (names_start_at t.octets (octets_first parts) rtype p begins.octets start) in
      record {
        after = found.after;
        accepted = AcceptsData.all some (subst (λ (k : ℕ). AllAccepted (AcceptsName t.octets) (name_count rtype) names k found.stop found.after) place found.accepted) found.within;
        known = found.known;
      }

  -- whether the type has names
  by_names : (nil : Bool) → (name_count rtype == 0) ≡ nil → p ≢ q → parts_size parts ≢ 0
      → (name_count rtype ≢ 0 → parts_size parts ≢ 0 → names_start (octets_first parts) rtype 0 ≡ length (octets_first parts))
      → (parts_size parts ≢ 0 → NamesFirst (name_count rtype) (from_name parts)) → DataAccepted IsSpan t.octets names rtype p q others
  by_names true e some size start first =
      let nil = eqb-true (name_count rtype) 0 e in
      without_names some nil (subst (λ (k : ℕ). NamesFirst k (from_name parts)) nil (first size))
  by_names false e some size start first =
      with_names some (start (λ nil. false≢true (sym e ∙ eq-eqb (name_count rtype) 0 nil)) size) (first size)

  -- whether the RDATA is empty
  by_size : (same : Bool) → (p == q) ≡ same → (name_count rtype ≢ 0 → parts_size parts ≢ 0 → names_start (octets_first parts) rtype 0 ≡ length (octets_first parts))
      → (parts_size parts ≢ 0 → NamesFirst (name_count rtype) (from_name parts)) → DataAccepted IsSpan t.octets names rtype p q others
  by_size true e start first =
      let same = eqb-true p q e in
      record {
        after = names;
        accepted = AcceptsData.empty same;
        known = λ a end is. elim (known a end is) [
          | inl before ↦ inl (before.0, omega (arith, before.1))
          | inr next ↦ elim (among_either a end (part_spans parts t p q h) others next) [
            | inl here ↦ absurd (let w = spans_between parts t p q h a end here in omega (arith, w.0, w.1, w.2))
            | inr later ↦ inr later
          ]
        ];
      }
  by_size false e start first =
      let some : p ≢ q = λ same. false≢true (sym e ∙ eq-eqb p q same) in
      by_names (name_count rtype == 0) refl some (λ nil. some (empty_parts parts t p q nil h)) start first

-- The RDATA of a record that has its names is accepted.
pub accepts_data : (IsSpan : ℕ → ℕ → Type 0) (t : Written) → IsTarget t → Traced IsSpan t → (x : RecordItem) (names : List ℕ) (p q : ℕ) (others : Spans) → AreParts x.parts → HasItsNames x
    → (h : HasParts x.parts t p q) → From q others → Known IsSpan names p (part_spans x.parts t p q h ++ others) → DataAccepted IsSpan t.octets names x.rtype p q others
accepts_data IsSpan t good traced x names p q others are has h from known =
    by_size IsSpan t good traced x.rtype x.parts names p q others are h from known (p == q) refl has.start has.names
