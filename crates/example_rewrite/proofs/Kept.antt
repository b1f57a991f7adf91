-- What is written for the records of a section.
use Rattle.std.proofs.Common.{◌≡◌, ◌∙◌, ap, refl, ℕ, Bool, true, false, List, [], ◌∷◌, map}
use Rattle.std.specs.List.{cons_option, filter_map}
use Rattle.std.specs.Prelude.{cond, if◌then◌else◌, filter, Option, Some, None, option_map, Result, Ok, Err}
use Rattle.dns_message.specs.Names.{Fault}
use Rattle.dns_message.specs.Records.{RecordItem, EncodedRecord, encoded_record, laid_out}
use Rattle.dns_message.specs.declared.record.ParsedRecord.{ParsedRecord}
use Rattle.dns_message.specs.Sections.AnyRecordIter.{every}
use Rattle.dns_message.specs.Sections.{limited, records_in, record_count}
use Rattle.dns_message.specs.declared.message.Section.{Section}
use Rattle.dns_message.specs.Builders.{Keeps, KeepsSection, none, dropped, kept}
use Rattle.dns_message.specs.Fields.{type_layout}
use Rattle.example_rewrite.specs.Rewriting.{CutsSection, cut_answer, is_cached, values, with_ttl_cut}

-- what is written for a record in its message
abbrev pub cut_encoded : ℕ → EncodedRecord → Option RecordItem
cut_encoded most x = cut_answer most (laid_out x (type_layout x.entry.rtype))

-- what is written for an item of a reading
abbrev cut_item : ℕ → Result EncodedRecord Fault → Option RecordItem
cut_item most (Ok x) = cut_encoded most x
cut_item most (Err f) = None

chosen : (most : ℕ) (b : Bool) (x : RecordItem) (xs : List RecordItem)
    → cons_option (if b then Some (with_ttl_cut most x) else None) (map (with_ttl_cut most) xs) ≡ map (with_ttl_cut most) (cond b (x ∷ xs) xs)
chosen most true x xs = refl
chosen most false x xs = refl

one_more : (most : ℕ) (r : Result RecordItem Fault) (rest : List (Result RecordItem Fault))
    → cons_option (cut_answer most r) (map (with_ttl_cut most) (filter is_cached (values rest))) ≡ map (with_ttl_cut most) (filter is_cached (values (r ∷ rest)))
one_more most (Ok x) rest = chosen most (is_cached x) x (filter is_cached (values rest))
one_more most (Err f) rest = refl

-- what is written for a reading, by its records with their RDATA
kept_of : (most : ℕ) (xs : List (Result EncodedRecord Fault)) → filter_map (cut_item most) xs ≡ map (with_ttl_cut most) (filter is_cached (values (limited (every type_layout) xs)))
kept_of most [] = refl
kept_of most (Ok x ∷ xs) =
    ap (cons_option (cut_encoded most x)) (kept_of most xs) ∙ one_more most (laid_out x (type_layout x.entry.rtype)) (limited (every type_layout) xs)
kept_of most (Err f ∷ xs) = kept_of most xs

module _ {F R : Type 0} (call : F → ParsedRecord → Option R → F → Type 0) (item : R → RecordItem) (most : ℕ) (Holds : F → Type 0)
    (cuts : (f : F) (shown : ParsedRecord) (answer : Option R) (g : F) → Holds f → call f shown answer g → (option_map item answer ≡ cut_encoded most (encoded_record shown)) × Holds g) where
  -- each record is written as `cut_encoded` says
  keeps_cut : {xs : List (Result EncodedRecord Fault)} {f g : F} {items : List RecordItem} → Keeps call item xs f items g → Holds f → (items ≡ filter_map (cut_item most) xs) × Holds g
  keeps_cut none h = (refl, h)
  keeps_cut (dropped {xs = xs} shown called rest) h =
      let one = cuts _ shown None _ h called in
      let after = keeps_cut rest one.1 in
      (after.0 ∙ ap (λ o. cons_option o (filter_map (cut_item most) xs)) one.0, after.1)
  keeps_cut (kept {xs = xs} shown answer called rest) h =
      let one = cuts _ shown (Some answer) _ h called in
      let after = keeps_cut rest one.1 in
      (ap (λ (items : List RecordItem). item answer ∷ items) after.0 ∙ ap (λ o. cons_option o (filter_map (cut_item most) xs)) one.0, after.1)

  -- the records written for a section are its records without OPT, with capped TTLs, and what held of the closure's state still holds
  pub section_cut : (b : List ℕ) (section : Section) (f g : F) (items : List RecordItem) → KeepsSection call item b section f items g → Holds f → CutsSection most b section items × Holds g
  section_cut b section f g items k h =
      let is = keeps_cut k.keeps h in
      (record { start = k.start; starts = k.starts; cut = is.0 ∙ kept_of most (records_in b (record_count section b) k.start) }, is.1)
