-- How names are counted: consecutive names, and the names within fields.
use Rattle.std.proofs.Common.{◌≡◌, ◌∙◌, ℕ, zero, suc, ◌+◌, ◌<◌, ◌≤◌, List, [], ◌∷◌, ◌++◌, length, ap, sym, subst, refl, arith, length-append, append_assoc}
use Rattle.std.specs.Prelude.{Some, Ok, Err, slice_get}
use Rattle.dns_name.specs.Names.{NameEndsAt}
use Rattle.dns_name.specs.Unique.{EncodedName}
use Rattle.dns_name.proofs.theory.ExtentLaws.{one_end}
use Rattle.fields_table.specs.FieldParts.{NamedPart}
use Rattle.dnsm_read.specs.FieldOffsets.{PartAt}
use Rattle.dnsm_read.specs.NameOffsets.{FindsWithin, IsNameAmong, LacksNameAmong, NamesAt, NamesFrom, NamesWithin}
use Rattle.dnsm_read.proofs.FieldWalks.{one_part_end}
use Rattle.dnsm_read.proofs.NameOffsetLemmas.{none_found}
use Rattle.dnsm_read.proofs.PlainNameLemmas.{names_rise}

-- Offsets in lists.

get_first : (xs ys : List ℕ) (i q : ℕ) → slice_get xs i ≡ Some q → slice_get (xs ++ ys) i ≡ Some q
get_first [] ys i q found = absurd (none_found [] i q refl found)
get_first (x ∷ xs) ys zero q found = found
get_first (x ∷ xs) ys (suc i) q found = get_first xs ys i q found

get_after : (xs ys : List ℕ) (more i : ℕ) → length xs + more ≡ i → slice_get (xs ++ ys) i ≡ slice_get ys more
get_after [] ys more i same = ap (λ (k : ℕ). slice_get ys k) (let e : i ≡ more = omega arith in e)
get_after (x ∷ xs) ys more zero same = absurd (omega arith)
get_after (x ∷ xs) ys more (suc i) same = get_after xs ys more i (omega arith)

-- Consecutive names from `start` to `end` are walked over up to `place`. With the names before it and `more` names the index is reached.
module _ (b : List ℕ) (start end : ℕ) where
  pub record Passed (place more index : ℕ) : Type 0 where
    pub before : List ℕ
    pub counted : length before + more ≡ index
    pub left : List ℕ
    pub there : NamesAt b place end left
    pub joined : (offsets : List ℕ) → NamesAt b place end offsets → NamesAt b start end (before ++ offsets)

  -- Before the first name all are left.
  pub pass_begins : (index : ℕ) (offsets : List ℕ) → NamesAt b start end offsets → Passed start index index
  pass_begins index offsets at = record { before = []; counted = omega arith; left = offsets; there = at; joined = λ others there. there }

  first_encoded : (offsets : List ℕ) (place : ℕ) → place < end → NamesAt b place end offsets → EncodedName b place
  first_encoded [] place within at = absurd (omega arith)
  first_encoded (offset ∷ offsets) place within at = at.1

  first_is : (offsets : List ℕ) (place : ℕ) → place < end → NamesAt b place end offsets → slice_get offsets 0 ≡ Some place
  first_is [] place within at = absurd (omega arith)
  first_is (offset ∷ offsets) place within at = ap (λ (k : ℕ). Some k) at.0

  after_name : (offsets : List ℕ) (place next : ℕ) → place < end → NameEndsAt b place next → NamesAt b place end offsets → (others : List ℕ) × NamesAt b next end others
  after_name [] place next within ends at = absurd (omega arith)
  after_name (offset ∷ offsets) place next within ends at = (offsets, subst (λ (r : ℕ). NamesAt b r end offsets) (one_end b at.3 ends) at.4)

  none_left : (offsets : List ℕ) (place : ℕ) → end ≤ place → NamesAt b place end offsets → NamesAt b place end []
  none_left offsets place past at = let rises = names_rise b offsets place end at in omega arith

  module _ (place more index : ℕ) (passed : Passed place more index) where
    -- The next name is encoded there.
    pub next_encoded : place < end → EncodedName b place
    next_encoded within = first_encoded passed.left place within passed.there

    -- With no names more, it is the one with the index.
    pub next_is : place < end → more ≡ 0 → (offsets : List ℕ) × NamesAt b start end offsets × (slice_get offsets index ≡ Some place)
    next_is within none =
        let found = get_after passed.before passed.left more index passed.counted in
        let first = first_is passed.left place within passed.there in
        (passed.before ++ passed.left, passed.joined passed.left passed.there, found ∙ ap (λ (k : ℕ). slice_get passed.left k) none ∙ first)

    -- The walk goes on after it.
    pub pass_on : (next fewer : ℕ) → place < end → NameEndsAt b place next → more ≡ fewer + 1 → Passed next fewer index
    pass_on next fewer within ends less =
        let others = after_name passed.left place next within ends passed.there in
        let counted = passed.counted in
        let size = length-append passed.before (place ∷ []) in
        record {
          before = passed.before ++ place ∷ [];
          counted = omega (arith, size, counted, less);
          left = others.0;
          there = others.1;
          joined =
              λ offsets there.
              subst (λ (xs : List ℕ). NamesAt b start end xs) (sym (append_assoc passed.before (place ∷ []) offsets))
              (passed.joined (place ∷ offsets) (refl, next_encoded within, next, ends, there));
        }

    -- At the end all names are counted.
    pub pass_ends : end ≤ place → (offsets : List ℕ) × NamesAt b start end offsets × (length offsets + more ≡ index)
    pass_ends past =
        let size = length-append {A = ℕ} passed.before [] in
        let counted = passed.counted in
        (passed.before ++ [], passed.joined [] (none_left passed.left place past passed.there), omega (arith, size, counted))

-- Of fields that are encoded from `start` on, those that are left begin at `place`. With the names in the others and `more` names the index is reached.
pub record NamesWalked (b : List ℕ) (all left : List NamedPart) (start place more index : ℕ) : Type 0 where
  pub before : List ℕ
  pub counted : length before + more ≡ index
  pub later : List ℕ
  pub there : NamesFrom b left place later
  pub joined : (offsets : List ℕ) → NamesFrom b left place offsets → NamesFrom b all start (before ++ offsets)

-- Before the first field all are left.
pub names_begin : (b : List ℕ) (all left : List NamedPart) (start index : ℕ) (offsets : List ℕ) → left ≡ all → NamesFrom b all start offsets → NamesWalked b all left start start index index
names_begin b all left start index offsets same at = record {
  before = [];
  counted = omega arith;
  later = offsets;
  there = subst (λ (fields : List NamedPart). NamesFrom b fields start offsets) (sym same) at;
  joined = λ others there. subst (λ (fields : List NamedPart). NamesFrom b fields start others) same there;
}

module _ (b : List ℕ) (all left rest : List NamedPart) (field : NamedPart) (start place more index : ℕ) (is : left ≡ field ∷ rest) (walked : NamesWalked b all left start place more index) where
  names_here : NamesFrom b (field ∷ rest) place walked.later
  names_here = subst (λ (fields : List NamedPart). NamesFrom b fields place walked.later) is walked.there

  -- The next field is encoded there.
  pub part_here : (end : ℕ) × PartAt b field.part place end
  part_here = (names_here.0, names_here.1)

  -- The names within it are at some offsets.
  pub within_here : (offsets : List ℕ) × NamesWithin b field.kind field.part place offsets
  within_here = (names_here.2, names_here.3)

  -- It may have the name.
  pub name_found : (q : ℕ) → FindsWithin b field.kind field.part place more (Ok q) → IsNameAmong b start all index q
  name_found q found =
      let offsets : List ℕ = found.0 ++ names_here.4 in
      let own : NamesFrom b (field ∷ rest) place offsets = (names_here.0, names_here.1, found.0, found.1, names_here.4, names_here.5, refl) in (
        walked.before ++ offsets,
        walked.joined offsets (subst (λ (fields : List NamedPart). NamesFrom b fields place offsets) (sym is) own),
        get_after walked.before offsets more index walked.counted ∙ get_first found.0 names_here.4 more q found.2,
      )

  -- If not, the walk goes on after it.
  pub names_on : (next fewer : ℕ) → PartAt b field.part place next → FindsWithin b field.kind field.part place more (Err fewer) → NamesWalked b all rest start next fewer index
  names_on next fewer part found =
      let end : names_here.0 ≡ next = one_part_end b field.part place names_here.0 next names_here.1 part in
      let size = length-append walked.before found.0 in
      let counted = walked.counted in
      let own : length found.0 + fewer ≡ more = found.2 in
      record {
        before = walked.before ++ found.0;
        counted = omega (arith, size, counted, own);
        later = names_here.4;
        there = subst (λ (n : ℕ). NamesFrom b rest n names_here.4) end names_here.5;
        joined =
            λ others there.
            let offsets : List ℕ = found.0 ++ others in
            let whole : NamesFrom b (field ∷ rest) place offsets = (next, part, found.0, found.1, others, there, refl) in
            subst (λ (xs : List ℕ). NamesFrom b all start xs) (sym (append_assoc walked.before found.0 others))
            (walked.joined offsets (subst (λ (fields : List NamedPart). NamesFrom b fields place offsets) (sym is) whole));
      }

-- After the last field all names are counted.
pub names_end : (b : List ℕ) (all left : List NamedPart) (start place more index : ℕ) → left ≡ [] → NamesWalked b all left start place more index → LacksNameAmong b start all index
names_end b all left start place more index none walked =
    let size = length-append {A = ℕ} walked.before [] in
    let counted = walked.counted in
    (walked.before ++ [], walked.joined [] (subst (λ (fields : List NamedPart). NamesFrom b fields place []) (sym none) refl), omega (arith, size, counted))
