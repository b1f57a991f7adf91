-- What a search that found something, or nothing, says of the definitions.
use Rattle.std.proofs.Common.{◌≡◌, ◌∙◌, ◌⊎◌, ◌<◌, ◌≤◌, inl, inr, ℕ, Bool, true, false, List, length, ap, sym, refl, subst, arith}
use Rattle.std.proofs.lemmas.Bool.{eq-eqb, eqb-true}
use Rattle.std.proofs.lemmas.Bool.Decides.{leb_tells}
use Rattle.std.specs.Prelude.{◌&&◌, ◌==◌, ◌≢◌, ◌↔◌, IsTrue, is_some, Option, Some, None, option_map}
use Rattle.dns_name.specs.Names.{Fault, Labels}
use Rattle.dns_item.specs.Items.{RecordItem}
use Rattle.dns_item.specs.Questions.{QuestionItem}
use Rattle.dns_read.specs.OptSearches.{opt_rcode_of}
use Rattle.dns_read.specs.RecordSection.{position, records_left, BeginsSection}
use Rattle.dns_read.specs.SectionStarts.{records_of}
use Rattle.dns_read.specs.declared.record_section.RecordSection.{RecordSection}
use Rattle.dns_read.specs.declared.section.Section.TheVariants as sections
use Rattle.dns_read.proofs.theory.SectionStartLemmas.{begins_reading}
use Rattle.dns_reply.specs.Records.{Records, IsReadable, IsUnreadable, first_fault, negative_ttl, opt_count, opt_records, reply_items, soa_for}
use Rattle.dns_reply.specs.Records.IsUnreadable.{within}
use Rattle.dns_reply.specs.Said.{Said}
use Rattle.dns_reply.specs.Said.Said.{NoData}
use Rattle.dns_reply.specs.Sayings.{IsNoError, IsNameError, IsSound, SaysNone, SaysOf, SaysTo}
use Rattle.dns_reply.specs.Sayings.SaysTo.{records}
use Rattle.dns_reply.specs.Sayings.SaysNone.{no_data}

-- If nothing was found, there is nothing.
pub none_found : {A B : Type 0} (f : A → B) (o : Option A) (x : Option B) → is_some o ≡ false → option_map f o ≡ x → x ≡ None
none_found f None x without e = sym e
none_found f (Some a) x without e = absurd (cc)

-- A name with an SOA record has no data.
pub soa_found : {A : Type 0} (f : A → RecordItem) (o : Option A) (authorities : Records) (rcode qclass : ℕ) (zone name : Labels) (aliases : Option ℕ) → IsNoError rcode → is_some o ≡ true
    → option_map f o ≡ soa_for qclass zone authorities name → SaysNone authorities rcode qclass zone name aliases (NoData name (option_map f o) (negative_ttl (option_map f o)) aliases)
soa_found f None authorities rcode qclass zone name aliases zero some e = absurd (cc)
soa_found f (Some a) authorities rcode qclass zone name aliases zero some e = no_data (f a) zero (sym e)

-- An RCODE that isn't name error is NOERROR.
pub no_error : (rcode : ℕ) → IsNoError rcode ⊎ IsNameError rcode → rcode ≢ 3 → IsNoError rcode
no_error rcode (inl e) other = e
no_error rcode (inr e) other = absurd (other e)

-- two tests pass
both_pass : (x y : Bool) → (x && y) ≡ true → (x ≡ true) × (y ≡ true)
both_pass true y e = (refl, e)
both_pass false y e = absurd (cc)

-- The RCODE of an answer is NOERROR, and the name owns a record.
pub answered : (rcode : ℕ) (owns : Bool) → ((rcode == 0) && owns) ≡ true → IsNoError rcode × (owns ≡ true)
answered rcode owns e = let both = both_pass (rcode == 0) owns e in (eqb-true rcode 0 both.0, both.1)

-- Without an answer, a name with NOERROR owns no record.
pub not_answered : (rcode : ℕ) (owns : Bool) → ((rcode == 0) && owns) ≡ false → IsNoError rcode → owns ≡ false
not_answered rcode owns e zero = subst (λ (b : Bool). (b && owns) ≡ false) (eq-eqb rcode 0 zero) e

-- A number that isn't more than one is at most one.
pub at_most_one : {r : Bool} (m n : ℕ) → m ≡ n → IsTrue r ↔ (1 < m) → r ≡ false → n ≤ 1
at_most_one m n same told fails =
    elim (leb_tells n 1) [
      | inl l ↦ l.1
      | inr more ↦ let more_than_one : 1 < m = omega (arith, same, more.1) in absurd (let e = sym (told.1 more_than_one) ∙ fails in cc)
    ]

-- What a reply's records say, by cursors over its sections.
pub of_message : (b : List ℕ) (answers authorities : RecordSection) (zone : Labels) (q : QuestionItem) (rcode : ℕ) (x : Said) → BeginsSection sections.Answer b answers
    → BeginsSection sections.Authority b authorities → IsSound b → rcode ≡ opt_rcode_of b → (rcode ≡ 0) ⊎ (rcode ≡ 3)
    → SaysOf (records_left answers) (records_left authorities) rcode zone q x → SaysTo b zone q x
of_message b answers authorities zone q rcode x in_answers in_authorities sound same either says =
    let by_answers = subst (λ (xs : Records). SaysOf xs (records_left authorities) rcode zone q x) (begins_reading sections.Answer b answers in_answers) says in
    let by_both = subst (λ (xs : Records). SaysOf (records_of sections.Answer b) xs rcode zone q x) (begins_reading sections.Authority b authorities in_authorities) by_answers in
    let by_rcode = subst (λ (n : ℕ). SaysOf (records_of sections.Answer b) (records_of sections.Authority b) n zone q x) same by_both in
    records sound (subst (λ (n : ℕ). (n ≡ 0) ⊎ (n ≡ 3)) same either) by_rcode

module _ (b : List ℕ) (answers authorities additionals : RecordSection) (in_answers : BeginsSection sections.Answer b answers)
    (in_authorities : BeginsSection sections.Authority b authorities) (in_additionals : BeginsSection sections.Additional b additionals) where
  -- what is read by the cursors is what is read of the message
  items_read : reply_items (records_left answers) (records_left authorities) (records_left additionals)
      ≡ reply_items (records_of sections.Answer b) (records_of sections.Authority b) (records_of sections.Additional b)
  items_read = λ i. reply_items (begins_reading sections.Answer b answers in_answers i) (begins_reading sections.Authority b authorities in_authorities i)
      (begins_reading sections.Additional b additionals in_additionals i)

  -- A fault of what the cursors read is one of the message.
  pub unreadable_within : (f : Fault) → first_fault (reply_items (records_left answers) (records_left authorities) (records_left additionals)) ≡ Some f → IsUnreadable b f
  unreadable_within f e = within (position additionals) in_additionals.start (sym (ap first_fault items_read) ∙ e)

  -- Without one, the message is readable.
  pub is_readable : first_fault (reply_items (records_left answers) (records_left authorities) (records_left additionals)) ≡ None → IsReadable b
  is_readable e = record { start = position additionals; starts = in_additionals.start; readable = sym (ap first_fault items_read) ∙ e }

  -- The OPT records that a cursor reads are those of the message.
  pub opts_read : length (opt_records (records_left additionals)) ≡ opt_count b
  opts_read = ap (λ (xs : Records). length (opt_records xs)) (begins_reading sections.Additional b additionals in_additionals)
