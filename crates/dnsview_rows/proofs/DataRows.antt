-- The rows of RDATA.
use Rattle.dnsview_rows.specs.Data.OptionRows.{none as no_options_rows, option}
use Rattle.std.proofs.Common.{refl, ◌≡◌, ℕ, ◌+◌, ◌-◌, ◌<◌, ◌≤◌, List, [], ◌∷◌, ◌++◌, length, ◌∙◌, ap, subst, sym, arith, append_assoc, append-nil, take, drop, get_or, length-take, slice_get, OnOk, Result, Ok, Err, Option, Some, None, inl, inr}
use Rattle.std.proofs.lemmas.Bool.Decides.{nat_tests}
use Rattle.std.proofs.lemmas.Grind.{common_steps}
use Rattle.std.proofs.lemmas.List.{take_all}
use Rattle.std.proofs.lemmas.Option.{slice_get_cases}
use Rattle.std.specs.Int.{w16}
use Rattle.dns_name.specs.Parsers.{number_at}
use Rattle.fields_table.specs.Table as table
use Rattle.dnsview_rows.specs.Data.{octets_rows, option_rows, opt_type, FormStops, LacksOption, ShowsData, ShowsFields, ShowsForm, ShowsName, ShowsOctets, ShowsOption, TextRows}
use Rattle.dnsview_rows.specs.Data.TextRows.{none as no_text, text}
use Rattle.dnsview_rows.specs.Data.ShowsData.{fields as field_data, options as option_data}
use Rattle.dnsview_rows.specs.Data.ShowsFields.{none as no_fields, field as more_fields, stops as no_field}
use Rattle.dnsview_rows.specs.Data.ShowsOptions.{all as options_end, stops as no_option}
use Rattle.dnsview_rows.specs.Fields.{field_row}
use Rattle.dnsview_rows.specs.Forms.{form_at}
use Rattle.dnsview_rows.specs.Walks.{at, octets, Adds, CutsFields, LacksField, MarksData, MarksFields, MarksOptions, MarksWithin, MissesField, MissesName, MissesOctets, MissesOption, MissesText, CoversAllTexts, CoversField, CoversName, CoversOctets, CoversTexts, CoversOption, CoversOptions}
use Rattle.dnsview_rows.specs.declared.form.Form as forms
use Rattle.dnsview_rows.specs.declared.form.Form.TheVariants.{Name, Octets, Texts}
use Rattle.dnsview_rows.specs.declared.row.RowFault.{RowFault}
use Rattle.dnsview_rows.specs.declared.row.RowField.{RowField}
use Rattle.dnsview_rows.specs.declared.row.RowField.TheVariants.{Named, OptionCode, OptionData, OptionLength, Text}
use Rattle.dnsview_rows.specs.declared.row.NameOf.TheVariants as names
use Rattle.dnsview_rows.specs.declared.row.Row.{Row}
use Rattle.dnsview_rows.specs.declared.walk.Stop.{Stop}
use Rattle.dnsview_rows.specs.declared.walk.Walk.{Walk}
use Rattle.dnsview_rows.proofs.Cuts.{cut_after, cut_here, walk_within}
use Rattle.dnsview_rows.proofs.Names.{adds_row, adds_then}

-- no octets have no row, and others have one
no_octets_row : (p : ℕ) (field : RowField) → [] ≡ octets_rows p p field
no_octets_row p field = grind (arith, nat_tests, common_steps)

octets_row : (p q : ℕ) (field : RowField) → p < q → field_row p q field ∷ [] ≡ octets_rows p q field
octets_row p q field some = grind (arith, nat_tests, common_steps)

-- a field without octets, a field with some, and an incomplete one
pub octets_none : (field : RowField) (old : Walk) → CoversOctets field 0 old old
octets_none field old = record {
  rows = [];
  adds = record { rows = sym (append-nil old.rows.items); seen = refl; offset = refl };
  shows = record { end = omega arith; within = walk_within old; made = no_octets_row (at old) field };
}

octets_some : (field : RowField) (n : ℕ) (old new : Walk) → 0 < n → Adds (field_row (at old) (at old + n) field ∷ []) (at old + n) old new → at old + n ≤ length (octets old)
    → CoversOctets field n old new
octets_some field n old new some h within =
    let rows = field_row (at old) (at old + n) field ∷ [] in
    let P : ℕ → Type 0 = λ q. ShowsOctets (octets old) field n (at old) q rows in
    let there : P (at old + n) = record { end = refl; within = within; made = octets_row (at old) (at old + n) field (omega (arith, some)) } in
    record { rows = rows; adds = record { rows = h.rows; seen = h.seen; offset = refl }; shows = subst P (sym h.offset) there }

-- A field of at least one octet has a row.
pub some_octets : (field : RowField) (n : ℕ) (old new : Walk) (r : Result Unit Stop) → 0 < n → OnOk r (Adds (field_row (at old) (at old + n) field ∷ []) (at old + n) old new)
    → OnOk r (at old + n ≤ length (octets old)) → OnOk r (CoversOctets field n old new)
some_octets field n old new (Ok v) some h within = octets_some field n old new some h within
some_octets field n old new (Err stop) some h within = tt

-- A field that is cut off has no row.
pub octets_missing : (field : RowField) (n : ℕ) (old new : Walk) (fault : RowFault) → LacksField field (octets old) (at old + n) fault → new ≡ old → MissesOctets field n old new fault
octets_missing field n old new fault h same = record {
  rows = [];
  adds = ap (λ (w : Walk). w.rows.items) same ∙ sym (append-nil old.rows.items);
  stops = record { here = ap (λ (w : Walk). at w) same; short = h.1; reported = h.0; none = refl };
}

-- a field of RDATA by its form
module _ (field : table.Field) (form : forms.Form) (old new : Walk) (is : form ≡ form_at (octets old) (at old) field.1) where
  covers_form : (rows : List Row) → Adds rows (at new) old new → ShowsForm (octets old) field form (at old) (at new) rows → CoversField field old new
  covers_form rows h k = record { rows = rows; adds = h; shows = subst (λ form. ShowsForm (octets old) field form (at old) (at new) rows) is k }

  misses_form : (fault : RowFault) (rows : List Row) → new.rows.items ≡ old.rows.items ++ rows → FormStops (octets old) field form (at old) (at new) fault rows → MissesField field old new fault
  misses_form fault rows h k = record { rows = rows; adds = h; stops = subst (λ form. FormStops (octets old) field form (at old) (at new) fault rows) is k }

-- A field that is a name has the rows of the name.
pub covers_name : (field : table.Field) (old new : Walk) → Name ≡ form_at (octets old) (at old) field.1 → CoversName (names.Field field.0) old new → CoversField field old new
covers_name field old new is h =
    let shows : ShowsName (octets old) (names.Field field.0) (at old) (at new) h.rows = record { labels = h.labels; encoded = h.encoded; ends = h.name_ends; shows = h.shows } in
    covers_form field Name old new is h.rows h.adds shows

-- A field that is no name stops at the name's fault.
pub misses_name : (field : table.Field) (old new : Walk) (fault : RowFault) → Name ≡ form_at (octets old) (at old) field.1
    → MissesName (names.Field field.0) old new fault → MissesField field old new fault
misses_name field old new fault is h = misses_form field Name old new is fault h.rows h.adds (h.f, h.lacks)

-- A field that is strings has a row for each.
pub covers_texts : (field : table.Field) (old new : Walk) → Texts ≡ form_at (octets old) (at old) field.1 → CoversAllTexts old new → CoversField field old new
covers_texts field old new is h = covers_form field Texts old new is h.rows h.adds h.shows

-- A field whose last string is cut off stops there.
pub misses_texts : (field : table.Field) (old new : Walk) (fault : RowFault) → Texts ≡ form_at (octets old) (at old) field.1 → MissesText old new fault → MissesField field old new fault
misses_texts field old new fault is h = misses_form field Texts old new is fault h.rows h.adds h.stops

-- A field of a known size has one row.
pub covers_octets : (field : table.Field) (n : ℕ) (old new : Walk) → Octets n ≡ form_at (octets old) (at old) field.1 → CoversOctets (Named field.0 field.1) n old new → CoversField field old new
covers_octets field n old new is h = covers_form field (Octets n) old new is h.rows h.adds h.shows

-- A field of a known size that is cut off stops there.
pub misses_octets : (field : table.Field) (n : ℕ) (old new : Walk) (fault : RowFault) → Octets n ≡ form_at (octets old) (at old) field.1 → MissesOctets (Named field.0 field.1) n old new fault
    → MissesField field old new fault
misses_octets field n old new fault is h = misses_form field (Octets n) old new is fault h.rows h.adds h.stops

-- no fields
pub fields_none : (fields : List table.Field) (old : Walk) → length fields < 1 → MarksFields fields None old old
fields_none [] old few = record { rows = []; adds = sym (append-nil old.rows.items); shows = no_fields }
fields_none (field ∷ fields) old few = absurd (omega (arith, few))

-- a field, and then the remaining fields
pub fields_then : (field : table.Field) (fields : List table.Field) (stop : Option RowFault) (old mid new : Walk) → CoversField field old mid → MarksFields fields stop mid new
    → MarksFields (field ∷ fields) stop old new
fields_then field fields stop old mid new h k =
    let after : ShowsFields (octets old) fields stop (at mid) (at new) k.rows = subst (λ b. ShowsFields b fields stop (at mid) (at new) k.rows) h.adds.seen k.shows in
    record {
      rows = h.rows ++ k.rows;
      adds = k.adds ∙ ap (λ rows. rows ++ k.rows) h.adds.rows ∙ append_assoc old.rows.items h.rows k.rows;
      shows = more_fields h.rows k.rows h.shows after;
    }

-- a field that can't be read
pub field_stops : (field : table.Field) (fields : List table.Field) (old new : Walk) (fault : RowFault) → MissesField field old new fault → MarksFields (field ∷ fields) (Some fault) old new
field_stops field fields old new fault h = record { rows = h.rows; adds = h.adds; shows = no_field h.stops }

-- fields are the first and the fields after it
pub first_field : (fields : List table.Field) (other : table.Field) → 1 ≤ length fields → fields ≡ get_or fields 0 other ∷ take (length fields - 1) (drop 1 fields)
first_field [] other some = absurd (omega (arith, some))
first_field (field ∷ fields) other some =
    let all : take (length (field ∷ fields) - 1) fields ≡ fields = take_all (length (field ∷ fields) - 1) fields (let e : length fields ≤ length (field ∷ fields) - 1 = omega arith in e) in
    ap (λ (others : List table.Field). field ∷ others) (sym all)

-- the RDATA of OPT, and that of any other type
pub data_options : (rtype : ℕ) (stop : Option RowFault) (old new : Walk) → rtype ≡ opt_type → MarksOptions stop old new → MarksData rtype stop old new
data_options rtype stop old new is h = record { rows = h.rows; adds = h.adds; shows = option_data is h.shows }

-- RDATA has the rows of the fields of its type.
pub data_fields : (rtype : ℕ) (known : List table.Field) (stop : Option RowFault) (old new : Walk) → (rtype ≡ opt_type → ⊥) → table.definitions known ≡ table.definitions_of rtype
    → MarksFields known stop old new → MarksData rtype stop old new
data_fields rtype known stop old new other is h = record { rows = h.rows; adds = h.adds; shows = field_data known other is h.shows }

-- the rows of a walk up to the end of the RDATA are rows of the record
pub within_rows : (rtype len : ℕ) (stop : Option RowFault) (old mid new : Walk) → octets mid ≡ take (at old + len) (octets old) → at mid ≡ at old → mid.rows.items ≡ old.rows.items
    → MarksData rtype stop mid new → MarksWithin rtype len stop old new
within_rows rtype len stop old mid new seen offset rows h =
    let P : List ℕ → ℕ → Type 0 = λ b p. ShowsData b rtype stop p (at new) h.rows in
    record {
      rows = h.rows;
      adds = h.adds ∙ ap (λ rows. rows ++ h.rows) rows;
      shows = subst (λ p. P (take (at old + len) (octets old)) p) offset (subst (λ b. P b (at mid)) seen h.shows);
    }

-- a walk that sees at most `len` octets more ends at most `len` octets further
pub not_past : (old new : Walk) (len : ℕ) → octets new ≡ take (at old + len) (octets old) → at old + len ≤ length (octets old) → at new ≤ at old + len
not_past old new len seen there =
    let same = ap length seen in
    omega (arith, same, length-take new.parser.end new.parser.octets.now, length-take (at old + len) (octets old), new.parser.before_end, new.parser.within)

-- consecutive character strings
abbrev pub no_texts : (old : Walk) → CoversTexts old old
no_texts old = record { rows = []; adds = record { rows = sym (append-nil old.rows.items); seen = refl; offset = refl }; texts = no_text }

-- One more string has one more row.
pub one_more_text : (n : ℕ) (old mid new : Walk) → CoversTexts old mid → slice_get (octets mid) (at mid) ≡ Some n
    → Adds (field_row (at mid) (at mid + (1 + n)) Text ∷ []) (at mid + (1 + n)) mid new → at mid + (1 + n) ≤ length (octets mid) → CoversTexts old new
one_more_text n old mid new h there k within =
    let row = field_row (at mid) (at mid + (1 + n)) Text in
    let all = adds_then h.rows (row ∷ []) (at mid) (at mid + (1 + n)) old mid new h.adds k in
    let there_too : slice_get (octets old) (at mid) ≡ Some n = subst (λ b. slice_get b (at mid) ≡ Some n) h.adds.seen there in
    let within_too : at mid + (1 + n) ≤ length (octets old) = subst (λ (b : List ℕ). at mid + (1 + n) ≤ length b) h.adds.seen within in
    let P : ℕ → Type 0 = λ q. TextRows (octets old) (at old) q (h.rows ++ row ∷ []) in
    record {
      rows = h.rows ++ row ∷ [];
      adds = record { rows = all.rows; seen = all.seen; offset = refl };
      texts = subst P (sym k.offset) (text h.rows h.texts there_too within_too);
    }

-- After the last string all have rows.
pub all_texts : (old new : Walk) → CoversTexts old new → slice_get (octets new) (at new) ≡ None → CoversAllTexts old new
all_texts old new h none =
    let none_too : slice_get (octets old) (at new) ≡ None = subst (λ b. slice_get b (at new) ≡ None) h.adds.seen none in
    let end : length (octets old) ≤ at new = elim (slice_get_cases (octets old) (at new)).1 [ inl x ↦ absurd (cc (none_too, x.2)) | inr x ↦ x.0 ] in
    record { rows = h.rows; adds = h.adds; shows = record { texts = h.texts; end = end } }

-- A string that is cut off stops the rows.
pub text_stops : (n : ℕ) (old mid new : Walk) (fault : RowFault) → CoversTexts old mid → slice_get (octets mid) (at mid) ≡ Some n → LacksField Text (octets mid) (at mid + (1 + n)) fault → new ≡ mid
    → MissesText old new fault
text_stops n old mid new fault h there long same =
    let there_too : slice_get (octets old) (at mid) ≡ Some n = subst (λ b. slice_get b (at mid) ≡ Some n) h.adds.seen there in
    let long_too : length (octets old) < at mid + (1 + n) = subst (λ (b : List ℕ). length b < at mid + (1 + n)) h.adds.seen long.1 in
    let here : MissesText old mid fault = record {
      rows = h.rows;
      adds = h.adds.rows;
      stops = record { texts = h.texts; len = n; len_there = there_too; short = long_too; reported = long.0 };
    } in
    subst (λ new. MissesText old new fault) (sym same) here

-- consecutive options
pub no_options : (old : Walk) → CoversOptions old old
no_options old = record { rows = []; adds = (no_texts old).adds; options = no_options_rows }

-- One more option has its rows.
pub one_more_option : (old mid new : Walk) → CoversOptions old mid → CoversOption mid new → CoversOptions old new
one_more_option old mid new h k =
    let P : List ℕ → Type 0 = λ b. ShowsOption b (at mid) (at new) k.rows in
    record {
      rows = h.rows ++ k.rows;
      adds = adds_then h.rows k.rows (at mid) (at new) old mid new h.adds k.adds;
      options = option h.rows k.rows h.options (subst P h.adds.seen k.shows);
    }

-- After the last option all have rows.
pub all_options : (old new : Walk) → CoversOptions old new → length (octets new) ≤ at new → MarksOptions None old new
all_options old new h end =
    let same = ap length h.adds.seen in
    let end_too : length (octets old) ≤ at new = omega (arith, same, end) in
    record { rows = h.rows; adds = h.adds.rows; shows = options_end h.options end_too }

-- An option that is cut off stops the rows.
pub option_stops : (old mid new : Walk) (fault : RowFault) → CoversOptions old mid → at mid < length (octets mid) → MissesOption mid new fault → MarksOptions (Some fault) old new
option_stops old mid new fault h some k =
    let P : List ℕ → Type 0 = λ b. (at mid < length b) × LacksOption b (at mid) (at new) fault k.rows in
    let there = subst P h.adds.seen (some, k.cut) in
    record {
      rows = h.rows ++ k.rows;
      adds = k.adds ∙ ap (λ rows. rows ++ k.rows) h.adds.rows ∙ append_assoc old.rows.items h.rows k.rows;
      shows = no_option h.rows k.rows h.options there.0 there.1;
    }

-- option data that has octets has a row
data_row : (code p q : ℕ) → p < q → octets_rows p q (OptionData code) ≡ field_row p q (OptionData code) ∷ []
data_row code p q some = grind (arith, nat_tests, common_steps)

-- an option whose code, length or data is incomplete
pub cut_code : (old new : Walk) (fault : RowFault) → LacksField OptionCode (octets old) (at old + 2) fault → new ≡ old → MissesOption old new fault
cut_code old new fault h same =
    let p = at old in
    let code = number_at w16 (octets old) p in
    let len = number_at w16 (octets old) (p + 2) in
    cut_here p 2 (p + 2) OptionCode (field_row (p + 2) (p + 4) (OptionLength code) ∷ octets_rows (p + 4) (p + 4 + len) (OptionData code)) old new fault h same refl refl

-- An option whose length is cut off has a row for its code alone.
pub cut_len : (n : ℕ) (old mid new : Walk) (fault : RowFault) → Adds (field_row (at old) (at old + 2) OptionCode ∷ []) (at old + 2) old mid → n ≡ number_at w16 (octets old) (at old)
    → LacksField (OptionLength n) (octets mid) (at mid + 2) fault → new ≡ mid → MissesOption old new fault
cut_len n old mid new fault h read k same =
    let p = at old in
    let len = number_at w16 (octets old) (p + 2) in
    let grown : p + 4 ≡ p + 2 + 2 = omega arith in
    let rows : ℕ → List Row = λ code. field_row (p + 2) (p + 4) (OptionLength code) ∷ octets_rows (p + 4) (p + 4 + len) (OptionData code) in
    let cut : CutsFields (rows n) mid new fault = cut_here (p + 2) 2 (p + 4) (OptionLength n) (octets_rows (p + 4) (p + 4 + len) (OptionData n)) mid new fault k same h.offset grown in
    cut_after (field_row p (p + 2) OptionCode ∷ []) (rows (number_at w16 (octets old) p)) (p + 2) old mid new fault h (subst (λ code. CutsFields (rows code) mid new fault) read cut)

-- An option whose value is cut off has rows for its code and length.
pub cut_value : (n size : ℕ) (old mid last new : Walk) (fault : RowFault) → Adds (field_row (at old) (at old + 2) OptionCode ∷ []) (at old + 2) old mid → n ≡ number_at w16 (octets old) (at old)
    → Adds (field_row (at mid) (at mid + 2) (OptionLength n) ∷ []) (at mid + 2) mid last → size ≡ number_at w16 (octets mid) (at mid) → LacksField (OptionData n) (octets last) (at last + size) fault
    → new ≡ last → MissesOption old new fault
cut_value n size old mid last new fault h read k sized l same =
    let p = at old in
    let grown : p + 4 ≡ p + 2 + 2 = omega arith in
    let front = field_row p (p + 2) OptionCode ∷ [] in
    let both = adds_row front old mid last (p + 2) 2 (p + 4) (OptionLength n) h k grown in
    let cut = cut_here (p + 4) size (p + 4 + size) (OptionData n) [] last new fault l same both.offset refl in
    let some : p + 4 < p + 4 + size = omega (arith, l.1, walk_within last, both.offset) in
    let one = subst (λ rows. CutsFields rows last new fault) (sym (data_row n (p + 4) (p + 4 + size) some)) cut in
    let whole : CutsFields (option_rows n size p) old new fault =
    cut_after (front ++ field_row (p + 2) (p + 4) (OptionLength n) ∷ []) (octets_rows (p + 4) (p + 4 + size) (OptionData n)) (p + 4) old last new fault both one in
    let sized_there : size ≡ number_at w16 (octets old) (p + 2) = sized ∙ ap (λ b. number_at w16 b (at mid)) h.seen ∙ ap (λ p. number_at w16 (octets old) p) h.offset in
    let P : ℕ → ℕ → Type 0 = λ code len. CutsFields (option_rows code len p) old new fault in
    subst (λ code. P code (number_at w16 (octets old) (p + 2))) read (subst (λ len. P n len) sized_there whole)
