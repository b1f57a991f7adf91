-- The options of the OPT record of a message, and the replacement of the data of one. RFC 6891 section 6.1.2.
use Rattle.std.specs.Prelude.{◌≡◌, ◌≢◌, ◌⊎◌, ◌<◌, ◌≤◌, ℕ, ◌+◌, List, [], ◌∷◌, Bool, true, false, Option, None, Some, Result, Ok, Err, cond, nat_eq, length, slice_range}
use Rattle.std.specs.Int.{w16}
use Rattle.dns_octets.specs.Octets.{overwritten}
use Rattle.dns_octets.specs.declared.error.ParseError.{ParseError}
use Rattle.dns_octets.specs.declared.error.ParseError.TheVariants.{ShortInput}
use Rattle.dns_name.specs.Parsers.{number_at}
use Rattle.dns_edns.specs.Options.{OptionItem}
use Rattle.dns_edns.specs.OptionsOf.{are_options, options_in}
use Rattle.dns_item.specs.Items.{SkipsRecord}
use Rattle.dns_read.specs.Reading.{Skipped}
use Rattle.dns_read.specs.Sections.{additional_count, AdditionalsStart}
use Rattle.dns_edit.specs.Acceptance.{IsRegular}
use Rattle.dns_edit.specs.Alike.{EntriesSame}
use Rattle.dns_edit.specs.Opt.{LacksOpt, OptFault, OtherAt}
use Rattle.dns_edit.specs.declared.error.EditError.{EditError}
use Rattle.dns_edit.specs.declared.error.EditError.TheVariants.{Parse, Pointer, NotLast, OptionLength}

-- The RDATA of the first OPT record of the additional section is from p to q.
pub record OptRdata (b : List ℕ) (p q : ℕ) : Type 0 where
  pub section : ℕ
  pub starts : AdditionalsStart b section
  pub before : ℕ
  pub less : before < additional_count b
  pub start : ℕ
  pub others : Skipped (OtherAt b) before section start
  pub skips : SkipsRecord b start q
  pub is_opt : number_at w16 b skips.name_end ≡ 41
  pub after_fields : p ≡ skips.name_end + 10

-- An option is from p to q, in RDATA that ends at `end`: two octets of code, two of length, and that number of octets of data.
pub record SkipsOption (b : List ℕ) (end p q : ℕ) : Type 0 where
  pub whole : q ≡ p + (4 + number_at w16 b (p + 2))
  pub within : q ≤ end

-- The option at offset p isn't all there: it ends after the RDATA.
abbrev pub CutOption : List ℕ → ℕ → ℕ → Type 0
CutOption b end p = (p < end) × (end < p + (4 + number_at w16 b (p + 2)))

-- An option from p to q has another code.
abbrev pub OtherOption : ℕ → List ℕ → ℕ → ℕ → ℕ → Type 0
OtherOption code b end p q = SkipsOption b end p q × (number_at w16 b p ≢ code)

-- In RDATA from p to `end`, the data of the first option with the code is n octets from offset q on.
pub record OptionIn (code : ℕ) (b : List ℕ) (p end q n : ℕ) : Type 0 where
  pub before : ℕ
  pub start : ℕ
  pub others : Skipped (OtherOption code b end) before p start
  pub skips : SkipsOption b end start (q + n)
  pub is_code : number_at w16 b start ≡ code
  pub after_fields : q ≡ start + 4

-- No option has the code.
abbrev pub NoOptionIn : ℕ → List ℕ → ℕ → ℕ → Type 0
NoOptionIn code b p end = (n : ℕ) × Skipped (OtherOption code b end) n p end

-- An option isn't all there, and none before it has the code.
abbrev pub CutOptionIn : ℕ → List ℕ → ℕ → ℕ → Type 0
CutOptionIn code b p end = (n q : ℕ) × Skipped (OtherOption code b end) n p q × CutOption b end q

-- The data of the first option with the code, in the first OPT record of the additional section, is n octets from offset q on.
abbrev pub OptionAt : ℕ → List ℕ → ℕ → ℕ → Type 0
OptionAt code b q n = (p end : ℕ) × OptRdata b p end × OptionIn code b p end q n

-- There is no such option.
abbrev pub LacksOption : ℕ → List ℕ → Type 0
LacksOption code b = LacksOpt b ⊎ ((p end : ℕ) × OptRdata b p end × NoOptionIn code b p end)

-- Why such an option isn't found: the OPT record isn't, or an option isn't all there.
abbrev pub OptionFault : ℕ → List ℕ → ParseError → Type 0
OptionFault code b e = OptFault b e ⊎ ((p end : ℕ) × OptRdata b p end × CutOptionIn code b p end × (e ≡ ShortInput))

-- The result is the code and the length of the option at offset p, if it is all there.
abbrev pub ReadsOption : List ℕ → ℕ → ℕ → Option (ℕ × ℕ) → Type 0
ReadsOption b end p None = p < end → CutOption b end p
ReadsOption b end p (Some x) = SkipsOption b end p (p + (4 + x.1)) × (number_at w16 b p ≡ x.0)

-- The result is the offset and the length of the data of the first option with the code.
abbrev pub FindsOptionIn : ℕ → List ℕ → ℕ → ℕ → Result (Option (ℕ × ℕ)) ParseError → Type 0
FindsOptionIn code b p end (Ok None) = NoOptionIn code b p end
FindsOptionIn code b p end (Ok (Some x)) = OptionIn code b p end x.0 x.1
FindsOptionIn code b p end (Err e) = CutOptionIn code b p end × (e ≡ ShortInput)

-- The same for a message.
abbrev pub FindsOption : ℕ → List ℕ → Result (Option (ℕ × ℕ)) ParseError → Type 0
FindsOption code b (Ok None) = LacksOption code b
FindsOption code b (Ok (Some x)) = OptionAt code b x.0 x.1
FindsOption code b (Err e) = OptionFault code b e

-- Why the data isn't replaced by n octets: the option isn't found, or it has another length.
abbrev pub RefusesOption : ℕ → ℕ → List ℕ → EditError → Type 0
RefusesOption code n b (Parse e) = OptionFault code b e
RefusesOption code n b Pointer = ⊥
RefusesOption code n b NotLast = ⊥
RefusesOption code n b OptionLength = (q m : ℕ) × OptionAt code b q m × (m ≢ n)

-- The message `c` is `b` with the data of the option replaced by these octets; or they are the same, as there is no such option or its data isn't replaced.
abbrev pub ReplacesOption : ℕ → List ℕ → List ℕ → List ℕ → Result Bool EditError → Type 0
ReplacesOption code octets b c (Ok true) = (q : ℕ) × OptionAt code b q (length octets) × (c ≡ overwritten b q octets)
ReplacesOption code octets b c (Ok false) = LacksOption code b × (c ≡ b)
ReplacesOption code octets b c (Err e) = RefusesOption code (length octets) b e × (c ≡ b)

-- Options with the data of the first of them with the code replaced.
abbrev pub with_option : ℕ → List ℕ → List OptionItem → List OptionItem
with_option code octets [] = []
with_option code octets (x ∷ xs) = cond (nat_eq x.code code) (record x { octets = octets } ∷ xs) (x ∷ with_option code octets xs)

-- If the data of an option is replaced, the RDATA of the OPT record is a list of options exactly if it was one: the same list, with the data of this option replaced.
pub record OptionsReplaced (code : ℕ) (octets before after : List ℕ) : Type 0 where
  pub list : are_options after ≡ are_options before
  pub options : are_options before ≡ true → options_in after ≡ with_option code octets (options_in before)

-- If the data of an option is replaced, the OPT record is where it was, and its options read back with this data.
abbrev pub ReplacedReadsBack : Type 0
ReplacedReadsBack = (code : ℕ) (octets b : List ℕ) (p end q : ℕ) → OptRdata b p end → OptionIn code b p end q (length octets)
    → OptRdata (overwritten b q octets) p end × OptionsReplaced code octets (slice_range b p end) (slice_range (overwritten b q octets) p end)

-- If the data of an option of a regular message is replaced, all entries read the same.
abbrev pub ReplacedReadsAlike : Type 0
ReplacedReadsAlike = (code : ℕ) (octets b : List ℕ) (q : ℕ) → IsRegular b → OptionAt code b q (length octets) → EntriesSame b (overwritten b q octets)

-- The message stays regular.
abbrev pub ReplacedStaysRegular : Type 0
ReplacedStaysRegular = (code : ℕ) (octets b : List ℕ) (q : ℕ) → IsRegular b → OptionAt code b q (length octets) → IsRegular (overwritten b q octets)
