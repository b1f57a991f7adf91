-- The OPT record and its options, as they are read after the data of one was replaced.
use Rattle.std.proofs.Common.{◌≡◌, ◌≢◌, ◌∙◌, ℕ, ◌+◌, ◌-◌, ◌<◌, ◌≤◌, inr, List, ◌∷◌, ◌++◌, take, drop, length, length-drop, All, arith, refl, subst, sym, ap, cond, eq-eqb}
use Rattle.std.specs.Prelude.{slice_index, slice_range}
use Rattle.std.specs.Int.{w16}
use Rattle.std.proofs.Math.Seq.{take-add}
use Rattle.std.proofs.lemmas.Bool.{ne_eqb}
use Rattle.std.proofs.lemmas.List.{drop-drop, drop-take, get_or-drop, get_or-take, length-take-le}
use Rattle.dns_octets.specs.Octets.{overwritten}
use Rattle.dns_octets.proofs.theory.Overwritten.{written_there}
use Rattle.dns_name.specs.Parsers.{number_at}
use Rattle.dns_code.specs.Bits.{number_in}
use Rattle.dns_code.specs.HeaderSection.{header_size}
use Rattle.dns_edns.specs.Options.{OptionBegins, OptionItem}
use Rattle.dns_edns.specs.OptionsOf.{are_options, options_in}
use Rattle.dns_edns.proofs.theory.OptionsLemmas.{given_first, reported_after}
use Rattle.dns_item.specs.Items.{SkipsRecord}
use Rattle.dns_item.specs.Questions.{SkipsQuestion}
use Rattle.dns_read.specs.Reading.{Skipped}
use Rattle.dns_read.specs.Reading.Skipped.{none, more}
use Rattle.dns_read.specs.Sections.{AdditionalsStart, AnswersStart}
use Rattle.dns_edit.specs.Opt.{OtherAt}
use Rattle.dns_edit.specs.Options.{OptRdata, OptionsReplaced, OtherOption, ReplacedReadsBack, SkipsOption, with_option}
use Rattle.dns_edit.specs.Uses.{Apart}
use Rattle.dns_edit.proofs.AgreeLemmas.{SameOctets, octets_same16}
use Rattle.dns_edit.proofs.CoverLemmas.{cover, cover_begins, cover_ends, overwritten_same}
use Rattle.dns_edit.proofs.EntryLemmas.{apart_after, apart_before, apart_in, long_record, skipped_rise, skipped_until}
use Rattle.dns_edit.proofs.OptionLemmas.{opt_low, option_rises, option_within, question_rises, record_rises}
use Rattle.dns_edit.proofs.ReadLemmas.{ends_same, number16_same, skips_apart}
use Rattle.dns_edit.proofs.StayLemmas.{SameApart, outside, part_same}

-- options in a part of octets

length-range : (b : List ℕ) (p q : ℕ) → p ≤ q → q ≤ length b → length (slice_range b p q) ≡ q - p
length-range b p q l m = let n = length-drop p b in length-take-le (q - p) (drop p b) (omega arith)

number_in-range : (b : List ℕ) (p q k : ℕ) → p + k + 2 ≤ q → number_in (slice_range b p q) k ≡ number_at w16 b (p + k)
number_in-range b p q k l =
    let n = p + k + 2 - (p + k) in
    let e : p + (k + 1) ≡ p + k + 1 = omega arith in
    let high : slice_index (slice_range b p q) k ≡ slice_index b (p + k) = get_or-take (q - p) (drop p b) k 0 (omega arith) ∙ get_or-drop p b k 0 in
    let low : slice_index (slice_range b p q) (k + 1) ≡ slice_index b (p + k + 1) =
    get_or-take (q - p) (drop p b) (k + 1) 0 (omega arith) ∙ get_or-drop p b (k + 1) 0 ∙ ap (slice_index b) e in
    let zero : p + k + 0 ≡ p + k = omega arith in
    let first : slice_index (take n (drop (p + k) b)) 0 ≡ slice_index b (p + k) = get_or-take n (drop (p + k) b) 0 0 (omega arith) ∙ get_or-drop (p + k) b 0 0 ∙ ap (slice_index b) zero in
    let second : slice_index (take n (drop (p + k) b)) 1 ≡ slice_index b (p + k + 1) = get_or-take n (drop (p + k) b) 1 0 (omega arith) ∙ get_or-drop (p + k) b 1 0 in
    omega (arith, high, low, first, second)

abbrev item_at : List ℕ → ℕ → ℕ → OptionItem
item_at b p q = record { code = number_at w16 b p; octets = slice_range b (p + 4) q }

option_begins : (b : List ℕ) (p q end : ℕ) → SkipsOption b end p q → end ≤ length b → OptionBegins (item_at b p q) (slice_range b p end) (slice_range b q end)
option_begins b p q end s inside =
    let e = s.whole in
    let l = s.within in
    let n = q - (p + 4) in
    let m = end - q in
    let long = length-range b p end (omega arith) inside in
    let size = length-range b (p + 4) q (omega arith) (omega arith) in
    let whole : end - p ≡ 4 + (n + m) = omega arith in
    let next : p + 4 + n ≡ q = omega arith in
    let zero : p + 0 ≡ p = omega arith in
    record {
      there = omega arith;
      code = number_in-range b p end 0 (omega arith) ∙ ap (number_at w16 b) zero;
      size = number_in-range b p end 2 (omega arith) ∙ (let same : number_at w16 b (p + 2) ≡ q - (p + 4) = omega arith in same) ∙ sym size;
      octets = ap (λ k. drop 4 (take k (drop p b))) whole ∙ drop-take 4 (n + m) (drop p b) ∙ ap (take (n + m)) (drop-drop 4 p b) ∙ take-add n m (drop (p + 4) b)
          ∙ ap (λ (ys : List ℕ). take n (drop (p + 4) b) ++ take m ys) (drop-drop n (p + 4) b ∙ ap (λ k. drop k b) next);
    }

module _ {fields b c : List ℕ} (same : SameApart fields b c) where
  range_same : (p q : ℕ) → p ≤ q → Apart fields p q → slice_range b p q ≡ slice_range c p q
  range_same p q l a = part_same same p (q - p) (apart_in fields p q p (p + (q - p)) (omega arith) (omega arith) a)

  -- an option whose code and length are apart from the fields
  option_same : {end p q : ℕ} → SkipsOption b end p q → Apart fields p (p + 4) → SkipsOption c end p q
  option_same {p = p} s a =
      let n = number16_same same (p + 2) (apart_in fields p (p + 4) (p + 2) (p + 2 + 2) (omega arith) (omega arith) a) in
      record { whole = s.whole ∙ ap (λ n. p + (4 + n)) n; within = s.within }

  code_same : (p : ℕ) → Apart fields p (p + 4) → number_at w16 b p ≡ number_at w16 c p
  code_same p a = number16_same same p (apart_in fields p (p + 4) p (p + 2) (omega arith) (omega arith) a)

  -- the OPT record stays where it is
  opt_same : {p end : ℕ} → OptRdata b p end → All (λ f. p ≤ f) fields → OptRdata c p end
  opt_same {p = p} {end = end} o later =
      let l = long_record b o.skips in
      let from : o.start ≤ o.skips.name_end = l.0 in
      let r : p ≡ o.skips.name_end + 10 = o.after_fields in
      let before : (x y : ℕ) → y ≤ p → Apart fields x y = λ x y m. apart_after fields p x y m later in
      let low = opt_low o in
      let count : (k : ℕ) → k + 2 ≤ header_size → number_at w16 b k ≡ number_at w16 c k = λ k m. number16_same same k (before k (k + 2) (omega arith)) in
      let question : (x y : ℕ) → y ≤ o.start → SkipsQuestion b x y → SkipsQuestion c x y =
      λ x y m s.
      let e = s.end in
      let inside = s.within in
      let long = same.long in
      record { name_end = s.name_end; name_ends = ends_same same (before x s.name_end (omega arith)) s.name_ends; end = s.end; within = omega arith } in
      let entry : (x y : ℕ) → y ≤ o.start → SkipsRecord b x y → SkipsRecord c x y =
      λ x y m s.
      let w = long_record b s in
      let high : s.name_end + 10 ≤ y = w.1 in
      skips_apart same s (before x s.name_end (omega arith)) (before (s.name_end + 8) (s.name_end + 10) (omega arith)) in
      let other : (x y : ℕ) → y ≤ o.start → OtherAt b x y → OtherAt c x y =
      λ x y m s.
      let w = long_record b s.0 in
      let high : s.0.name_end + 10 ≤ y = w.1 in
      let rtype = number16_same same s.0.name_end (before s.0.name_end (s.0.name_end + 2) (omega arith)) in
      (skips_apart same s.0 (before x s.0.name_end (omega arith)) (before (s.0.name_end + 8) (s.0.name_end + 10) (omega arith)), λ e. s.1 (rtype ∙ e)) in
      let s = o.starts in
      let third : o.section ≤ o.start = skipped_rise (λ x y h. record_rises b x y h.0) o.others in
      let second : s.0 ≤ o.section = skipped_rise (record_rises b) s.2 in
      let first : s.1.0 ≤ s.0 = skipped_rise (record_rises b) s.1.2 in
      let asked : AnswersStart c s.1.0 = subst (λ n. Skipped (SkipsQuestion c) n header_size s.1.0) (count 4 (omega arith)) (skipped_until (question_rises b) o.start question (omega arith) s.1.1) in
      let answers = subst (λ n. Skipped (SkipsRecord c) n s.1.0 s.0) (count 6 (omega arith)) (skipped_until (record_rises b) o.start entry (omega arith) s.1.2) in
      let authorities = subst (λ n. Skipped (SkipsRecord c) n s.0 o.section) (count 8 (omega arith)) (skipped_until (record_rises b) o.start entry (omega arith) s.2) in
      let starts : AdditionalsStart c o.section = (s.0, (s.1.0, asked, answers), authorities) in
      record {
        section = o.section;
        starts = starts;
        before = o.before;
        less = subst (λ n. o.before < n) (count 10 (omega arith)) o.less;
        start = o.start;
        others = skipped_until (λ x y h. record_rises b x y h.0) o.start other (omega arith) o.others;
        skips = skips_apart same o.skips (before o.start o.skips.name_end (omega arith)) (before (o.skips.name_end + 8) (o.skips.name_end + 10) (omega arith));
        is_opt = sym (number16_same same o.skips.name_end (before o.skips.name_end (o.skips.name_end + 2) (omega arith))) ∙ o.is_opt;
        after_fields = o.after_fields;
      }

module _ (code : ℕ) (octets b : List ℕ) (start end : ℕ) (s : SkipsOption b end start (start + 4 + length octets)) (is : number_at w16 b start ≡ code) (inside : end ≤ length b) where
  abbrev c : List ℕ
  c = overwritten b (start + 4) octets

  abbrev last : ℕ
  last = start + 4 + length octets

  fits : last ≤ length b
  fits = let l = s.within in omega arith

  same_apart : SameApart (cover start (length octets)) b c
  same_apart = overwritten_same b octets start fits

  -- the code and the length of the option stay
  header_same : SameOctets b c start 4
  header_same = record { long = same_apart.long; octets = λ k l m. outside b octets (start + 4) last k refl fits (inr (omega arith)) }

  after_same : slice_range c last end ≡ slice_range b last end
  after_same = let l = s.within in sym (range_same same_apart last end l (apart_before (cover start (length octets)) last last end (omega arith) (cover_ends start (length octets) last (omega arith))))

  there : SkipsOption c end start last
  there = record { whole = s.whole ∙ ap (λ n. start + (4 + n)) (octets_same16 header_same (start + 2) (omega arith) (omega arith)); within = s.within }

  begins : OptionBegins (item_at b start last) (slice_range b start end) (slice_range b last end)
  begins = option_begins b start last end s inside

  begun : OptionBegins (item_at c start last) (slice_range c start end) (slice_range c last end)
  begun = option_begins c start last end there (let l = same_apart.long in omega arith)

  -- its data is the new one
  item_is : item_at c start last ≡ (record (item_at b start last) { octets = octets })
  item_is = λ i. record { code = sym (octets_same16 header_same start (omega arith) (omega arith)) i; octets = written_there b octets (start + 4) last refl fits i }

  list_same : are_options (slice_range c start end) ≡ are_options (slice_range b start end)
  list_same = reported_after _ _ _ begun ∙ ap are_options after_same ∙ sym (reported_after _ _ _ begins)

  -- The options from the one whose data is replaced on.
  pub replaced_here : OptionsReplaced code octets (slice_range b start end) (slice_range c start end)
  replaced_here = record {
    list = list_same;
    options = λ some.
        let old = given_first _ _ _ begins some in
        let new = given_first _ _ _ begun (list_same ∙ some) in
        let rest = options_in (slice_range b last end) in
        let item = item_at b start last in
        let first : with_option code octets (item ∷ rest) ≡ (record item { octets = octets }) ∷ rest =
        ap (λ t. cond t ((record item { octets = octets }) ∷ rest) (item ∷ with_option code octets rest)) (eq-eqb (number_at w16 b start) code is) in
        new.1 ∙ (λ i. item_is i ∷ options_in (after_same i)) ∙ sym first ∙ sym (ap (with_option code octets) old.1);
  }

-- The options from one with another code on.
replaced_after : (code : ℕ) (octets b c : List ℕ) (p q end : ℕ) → OptionBegins (item_at b p q) (slice_range b p end) (slice_range b q end)
    → OptionBegins (item_at b p q) (slice_range c p end) (slice_range c q end) → number_at w16 b p ≢ code
    → OptionsReplaced code octets (slice_range b q end) (slice_range c q end) → OptionsReplaced code octets (slice_range b p end) (slice_range c p end)
replaced_after code octets b c p q end begins begun other rest =
    let list = reported_after _ _ _ begun ∙ rest.list ∙ sym (reported_after _ _ _ begins) in
    record {
      list = list;
      options = λ some.
          let old = given_first _ _ _ begins some in
          let new = given_first _ _ _ begun (list ∙ some) in
          let left = options_in (slice_range b q end) in
          let item = item_at b p q in
          let first : with_option code octets (item ∷ left) ≡ item ∷ with_option code octets left =
          ap (λ t. cond t ((record item { octets = octets }) ∷ left) (item ∷ with_option code octets left)) (ne_eqb (number_at w16 b p) code other) in
          new.1 ∙ ap (λ (xs : List OptionItem). item ∷ xs) (rest.options old.0) ∙ sym first ∙ sym (ap (with_option code octets) old.1);
    }

-- all options
replaced_all : (code : ℕ) (octets b : List ℕ) {end n p start : ℕ} → Skipped (OtherOption code b end) n p start → SkipsOption b end start (start + 4 + length octets)
    → number_at w16 b start ≡ code → end ≤ length b
    → OptionsReplaced code octets (slice_range b p end) (slice_range (overwritten b (start + 4) octets) p end)
replaced_all code octets b {end = end} {start = start} none s is inside = replaced_here code octets b start end s is inside
replaced_all code octets b {end = end} {start = start} (more {p = p} {q = q} h x) s is inside =
    let rest = replaced_all code octets b x s is inside in
    let rise = skipped_rise (option_rises code b end) x in
    let e = h.0.whole in
    let l = s.within in
    let after = overwritten b (start + 4) octets in
    let fields = cover start (length octets) in
    let same : SameApart fields b after = overwritten_same b octets start (omega arith) in
    let apart : (x y : ℕ) → y ≤ start → Apart fields x y = λ x y m. apart_after fields start x y m (cover_begins start (length octets) start (omega arith)) in
    let item : item_at after p q ≡ item_at b p q =
    λ i. record { code = sym (code_same same p (apart p (p + 4) (omega arith))) i; octets = sym (range_same same (p + 4) q (omega arith) (apart (p + 4) q rise)) i } in
    let there = option_begins after p q end (option_same same h.0 (apart p (p + 4) (omega arith))) (let long = same.long in omega arith) in
    let begun = subst (λ (x : OptionItem). OptionBegins x (slice_range after p end) (slice_range after q end)) item there in
    replaced_after code octets b after p q end (option_begins b p q end h.0 inside) begun h.1 rest

-- The OPT record stays where it is, and its RDATA reads back with the data of the option replaced.
pub replaced_reads_back : ReplacedReadsBack
replaced_reads_back code octets b p end q o i =
    let n = length octets in
    let e : q ≡ i.start + 4 = i.after_fields in
    let l = i.skips.within in
    let inside : end ≤ length b = o.skips.within in
    let w = option_within i in
    let same : SameApart (cover i.start n) b (overwritten b (i.start + 4) octets) = overwritten_same b octets i.start (omega arith) in
    let s : SkipsOption b end i.start (i.start + 4 + n) = subst (λ q. SkipsOption b end i.start (q + n)) e i.skips in
    let P : ℕ → Type 0 = λ q. OptRdata (overwritten b q octets) p end × OptionsReplaced code octets (slice_range b p end) (slice_range (overwritten b q octets) p end) in
    subst P (sym e) (opt_same same o (cover_begins i.start n p w.0), replaced_all code octets b i.others s i.is_code inside)
