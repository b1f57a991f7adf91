-- The words of records.
use Rattle.std.proofs.Common.{◌≡◌, ◌≢◌, ◌∙◌, ℕ, ◌<◌, ◌≤◌, List, [], ◌∷◌, length, take, drop, ◌-◌, ap, refl, subst, sym, arith}
use Rattle.std.specs.Prelude.{◌==◌, Option, Result, Ok, Err, IfOk, codes}
use Rattle.std.specs.List.{slice_split, AllZip}
use Rattle.std.proofs.lemmas.List.{length-map, take_all}
use Rattle.std.proofs.lemmas.Slice.Zip.{AllZip-long}
use Rattle.std.specs.Borrow.{Bor}
use Rattle.dns_name.specs.Names.{Labels}
use Rattle.dns_name.specs.NameTexts.{SpellsName}
use Rattle.dns_data.specs.A.{address_of}
use Rattle.dns_data.specs.NameData.{cname_of, nsdname_of}
use Rattle.dns_data.specs.declared.soa.Soa.{Soa}
use Rattle.dns_lines.specs.declared.known_data.KnownData.{KnownData}
use Rattle.dns_lines.specs.declared.known_data.KnownData.TheVariants as known
use Rattle.dns_iana.specs.Classes.{SpellsClass}
use Rattle.dns_iana.specs.NumberTexts.{ReadsNumber}
use Rattle.dns_iana.specs.Types.{SpellsType}
use Rattle.dns_octets.specs.declared.octets.Octets.{Ghosts}
use Rattle.dns_name.specs.NameReading.{name_labels, ReadsName, SpellsSomeName}
use Rattle.dns_name.specs.declared.name.Name.{Name}
use Rattle.dns_name.specs.declared.name_error.FromStrError.{FromStrError}
use Rattle.dns_name.specs.declared.name_error.FromStrError.TheVariants.{Presentation}
use Rattle.dns_name.specs.declared.name_error.PresentationError.{PresentationError}
use Rattle.dns_name.proofs.theory.NameTextFaults.{text_name_or_fault_not_both}
use Rattle.dns_data.specs.UnknownData.{unknown_octets}
use Rattle.dns_item.specs.Record.{HasFields, class_of, data_of}
use Rattle.dns_item.specs.declared.record.Record.{Record}
use Rattle.dnsmsg_tool.specs.ScriptData.{script_rtype_of}
use Rattle.dnsmsg_tool.specs.declared.script_data.ScriptData.{ScriptData}
use Rattle.dnsmsg_tool.specs.declared.script_data.ScriptData.TheVariants.{Known, Opaque}
use Rattle.dnsmsg_tool.specs.ScriptRecords.{AreDataWords, AreFieldWords, AreMarked, AreMarkedWords, AreOpaqueWords, AreRecordFields, AreRecordWords, AreZoneFields, AreZoneWords, IsAddressWord}
use Rattle.dnsmsg_tool.specs.ScriptWords.{LineWords, IsNumberUpTo, IsOnly, ReadsValue, texts}
use Rattle.dnsmsg_tool.proofs.EachLemmas.{each_at, word_at}

module _ {N : Type 0} (labels : N → Labels) where
  -- SOA has seven words.
  pub zone_length : (words : LineWords) (zone : Soa N) → AreZoneWords labels words zone → length words ≡ 7
  zone_length [] zone are = absurd are
  zone_length (p ∷ []) zone are = absurd are
  zone_length (p ∷ q ∷ []) zone are = absurd are
  zone_length (p ∷ q ∷ r ∷ []) zone are = absurd are
  zone_length (p ∷ q ∷ r ∷ s ∷ []) zone are = absurd are
  zone_length (p ∷ q ∷ r ∷ s ∷ t ∷ []) zone are = absurd are
  zone_length (p ∷ q ∷ r ∷ s ∷ t ∷ u ∷ []) zone are = absurd are
  zone_length (p ∷ q ∷ r ∷ s ∷ t ∷ u ∷ v ∷ []) zone are = refl
  zone_length (p ∷ q ∷ r ∷ s ∷ t ∷ u ∷ v ∷ w ∷ words) zone are = absurd are

  -- Seven words of an SOA record, as its fields.
  pub zone_fields : (words : LineWords) (zone : Soa N) → 7 ≤ length words → length words < 8 → AreZoneWords labels words zone
      → AreZoneFields labels (word_at words 0) (word_at words 1) (word_at words 2) (word_at words 3) (word_at words 4) (word_at words 5) (word_at words 6) zone
  zone_fields [] zone least most are = absurd are
  zone_fields (p ∷ []) zone least most are = absurd are
  zone_fields (p ∷ q ∷ []) zone least most are = absurd are
  zone_fields (p ∷ q ∷ r ∷ []) zone least most are = absurd are
  zone_fields (p ∷ q ∷ r ∷ s ∷ []) zone least most are = absurd are
  zone_fields (p ∷ q ∷ r ∷ s ∷ t ∷ []) zone least most are = absurd are
  zone_fields (p ∷ q ∷ r ∷ s ∷ t ∷ u ∷ []) zone least most are = absurd are
  zone_fields (p ∷ q ∷ r ∷ s ∷ t ∷ u ∷ v ∷ []) zone least most are = are
  zone_fields (p ∷ q ∷ r ∷ s ∷ t ∷ u ∷ v ∷ w ∷ words) zone least most are = absurd are

  -- Fields of an SOA record, as its seven words.
  pub zone_words : (words : LineWords) (zone : Soa N) → 7 ≤ length words → length words < 8
      → AreZoneFields labels (word_at words 0) (word_at words 1) (word_at words 2) (word_at words 3) (word_at words 4) (word_at words 5) (word_at words 6) zone
      → AreZoneWords labels words zone
  zone_words [] zone least most are = absurd (omega arith)
  zone_words (p ∷ []) zone least most are = absurd (omega arith)
  zone_words (p ∷ q ∷ []) zone least most are = absurd (omega arith)
  zone_words (p ∷ q ∷ r ∷ []) zone least most are = absurd (omega arith)
  zone_words (p ∷ q ∷ r ∷ s ∷ []) zone least most are = absurd (omega arith)
  zone_words (p ∷ q ∷ r ∷ s ∷ t ∷ []) zone least most are = absurd (omega arith)
  zone_words (p ∷ q ∷ r ∷ s ∷ t ∷ u ∷ []) zone least most are = absurd (omega arith)
  zone_words (p ∷ q ∷ r ∷ s ∷ t ∷ u ∷ v ∷ []) zone least most are = are
  zone_words (p ∷ q ∷ r ∷ s ∷ t ∷ u ∷ v ∷ w ∷ words) zone least most are = absurd (omega arith)

  -- Other data than an address isn't that of type A, and so on.
  pub no_address : (rtype : ℕ) (words : LineWords) → rtype ≡ 1 → ((octets : List ℕ) → ¬ (IsOnly IsAddressWord words octets)) → (value : KnownData N) → ¬ (AreFieldWords labels rtype words value)
  no_address rtype words e none (known.A address) is = none (address_of address) is.1
  no_address rtype words e none (known.Ns server) is = absurd (omega (arith, e, is.0))
  no_address rtype words e none (known.Cname alias) is = absurd (omega (arith, e, is.0))
  no_address rtype words e none (known.Soa zone) is = absurd (omega (arith, e, is.0))

  -- No name is no data of type NS.
  pub no_server : (rtype : ℕ) (words : LineWords) → rtype ≡ 2 → ((name : Labels) → ¬ (IsOnly SpellsName words name)) → (value : KnownData N) → ¬ (AreFieldWords labels rtype words value)
  no_server rtype words e none (known.A address) is = absurd (omega (arith, e, is.0))
  no_server rtype words e none (known.Ns server) is = none (labels (nsdname_of server)) is.1
  no_server rtype words e none (known.Cname alias) is = absurd (omega (arith, e, is.0))
  no_server rtype words e none (known.Soa zone) is = absurd (omega (arith, e, is.0))

  -- No name is no data of type CNAME.
  pub no_alias : (rtype : ℕ) (words : LineWords) → rtype ≡ 5 → ((name : Labels) → ¬ (IsOnly SpellsName words name)) → (value : KnownData N) → ¬ (AreFieldWords labels rtype words value)
  no_alias rtype words e none (known.A address) is = absurd (omega (arith, e, is.0))
  no_alias rtype words e none (known.Ns server) is = absurd (omega (arith, e, is.0))
  no_alias rtype words e none (known.Cname alias) is = none (labels (cname_of alias)) is.1
  no_alias rtype words e none (known.Soa zone) is = absurd (omega (arith, e, is.0))

  -- No data of SOA is no data of type SOA.
  pub no_zone : (rtype : ℕ) (words : LineWords) → rtype ≡ 6 → ((zone : Soa N) → ¬ (AreZoneWords labels words zone)) → (value : KnownData N) → ¬ (AreFieldWords labels rtype words value)
  no_zone rtype words e none (known.A address) is = absurd (omega (arith, e, is.0))
  no_zone rtype words e none (known.Ns server) is = absurd (omega (arith, e, is.0))
  no_zone rtype words e none (known.Cname alias) is = absurd (omega (arith, e, is.0))
  no_zone rtype words e none (known.Soa zone) is = none zone is.1

  -- No data of another type is read.
  pub no_known : (rtype : ℕ) (words : LineWords) → rtype ≢ 1 → rtype ≢ 2 → rtype ≢ 5 → rtype ≢ 6 → (value : KnownData N) → ¬ (AreFieldWords labels rtype words value)
  no_known rtype words a b c d (known.A address) is = a is.0
  no_known rtype words a b c d (known.Ns server) is = b is.0
  no_known rtype words a b c d (known.Cname alias) is = c is.0
  no_known rtype words a b c d (known.Soa zone) is = d is.0

-- The parts of an address, and the numbers in them.
pub address_word : (word : List ℕ) (parts : LineWords) (a b c d : ℕ) → texts parts ≡ slice_split (λ c. c == 46) word → 4 ≤ length parts → length parts < 5
    → IsNumberUpTo 255 (word_at parts 0) a → IsNumberUpTo 255 (word_at parts 1) b → IsNumberUpTo 255 (word_at parts 2) c → IsNumberUpTo 255 (word_at parts 3) d
    → IsAddressWord word (a ∷ b ∷ c ∷ d ∷ [])
address_word word [] a b c d e least most h k l m = absurd (omega arith)
address_word word (t ∷ []) a b c d e least most h k l m = absurd (omega arith)
address_word word (t ∷ u ∷ []) a b c d e least most h k l m = absurd (omega arith)
address_word word (t ∷ u ∷ v ∷ []) a b c d e least most h k l m = absurd (omega arith)
address_word word (t ∷ u ∷ v ∷ w ∷ []) a b c d e least most h k l m =
    (subst (λ (parts : List (List ℕ)). AllZip (IsNumberUpTo 255) parts (a ∷ b ∷ c ∷ d ∷ [])) e (h, (k, (l, (m, tt)))), refl)
address_word word (t ∷ u ∷ v ∷ w ∷ x ∷ parts) a b c d e least most h k l m = absurd (omega arith)

-- A part that isn't a number.
pub no_part : (word : List ℕ) (parts : LineWords) (i : ℕ) → texts parts ≡ slice_split (λ c. c == 46) word → i < length parts
    → ((n : ℕ) → ¬ (IsNumberUpTo 255 (word_at parts i) n)) → (octets : List ℕ) → ¬ (IsAddressWord word octets)
no_part word parts i e h none octets is =
    let part = each_at (IsNumberUpTo 255) parts octets i h (subst (λ (parts : List (List ℕ)). AllZip (IsNumberUpTo 255) parts octets) (sym e) is.0) in
    none part.0 part.1

-- An address has four parts.
pub parts_four : (word : List ℕ) (parts : LineWords) (octets : List ℕ) → texts parts ≡ slice_split (λ c. c == 46) word → IsAddressWord word octets → length parts ≡ 4
parts_four word parts octets e is =
    sym (length-map parts (λ (part : Bor (List ℕ)). part.now)) ∙ ap length e ∙ sym (AllZip-long (IsNumberUpTo 255) (slice_split (λ c. c == 46) word) octets is.0) ∙ is.1

-- A text with a fault is no name.
pub no_name : {X : Type 0} {buffer : Ghosts X} (text : List ℕ) (result : Result (Name X buffer) FromStrError) (e : FromStrError) (f : PresentationError) → result ≡ Err e → e ≡ Presentation f
    → ReadsName (SpellsSomeName text) text result → (name : Labels) → ¬ (SpellsName text name)
no_name text result e f failed fault reads name spells =
    text_name_or_fault_not_both text name f spells (subst (ReadsName (SpellsSomeName text) text) (failed ∙ ap Err fault) reads)

-- The RDATA of a record type is that of no other.
pub data_rtype : (rtype : ℕ) (words : LineWords) (value : ScriptData) → AreDataWords rtype words value → script_rtype_of value ≡ rtype
data_rtype rtype words (Known (known.A address)) is = sym is.1.0
data_rtype rtype words (Known (known.Ns server)) is = sym is.1.0
data_rtype rtype words (Known (known.Cname alias)) is = sym is.1.0
data_rtype rtype words (Known (known.Soa zone)) is = sym is.1.0
data_rtype rtype words (Opaque unknown) is = is.0

-- Words of opaque RDATA begin with the mark.
marked : (words : LineWords) (octets : List ℕ) → AreMarkedWords words octets → AreMarked words
marked [] octets are = are
marked (mark ∷ []) octets are = are
marked (mark ∷ size ∷ digits) octets are = are.0

-- Two words or more, of which the first is the mark.
pub first_marked : (words : LineWords) → 2 ≤ length words → word_at words 0 ≡ codes "\\#" → AreMarked words
first_marked [] least e = absurd (omega arith)
first_marked (mark ∷ []) least e = absurd (omega arith)
first_marked (mark ∷ size ∷ digits) least e = e

-- Fewer words have no mark.
pub few_unmarked : (words : LineWords) → length words < 2 → ¬ (AreMarked words)
few_unmarked [] few are = are
few_unmarked (mark ∷ []) few are = are
few_unmarked (mark ∷ size ∷ digits) few are = absurd (omega arith)

-- Words after another first one have no mark.
pub other_unmarked : (words : LineWords) → word_at words 0 ≢ codes "\\#" → ¬ (AreMarked words)
other_unmarked [] other are = are
other_unmarked (mark ∷ []) other are = are
other_unmarked (mark ∷ size ∷ digits) other are = other are

-- Marked words, as the size and the digits.
pub opaque_words : (words : LineWords) (octets : List ℕ) → 2 ≤ length words → AreMarkedWords words octets → AreOpaqueWords (word_at words 1) (take (length words - 2) (drop 2 words)) octets
opaque_words [] octets least are = absurd are
opaque_words (mark ∷ []) octets least are = absurd are
opaque_words (mark ∷ size ∷ digits) octets least are =
    subst (λ (ws : LineWords). AreOpaqueWords size.now ws octets) (sym (take_all (length (mark ∷ size ∷ digits) - 2) digits (omega arith))) are.1

-- The size and the digits, as marked words.
pub marked_words : (words : LineWords) (octets : List ℕ) → 2 ≤ length words → word_at words 0 ≡ codes "\\#" → AreOpaqueWords (word_at words 1) (take (length words - 2) (drop 2 words)) octets
    → AreMarkedWords words octets
marked_words [] octets least e are = absurd (omega arith)
marked_words (mark ∷ []) octets least e are = absurd (omega arith)
marked_words (mark ∷ size ∷ digits) octets least e are =
    (e, subst (λ (ws : LineWords). AreOpaqueWords size.now ws octets) (take_all (length (mark ∷ size ∷ digits) - 2) digits (omega arith)) are)

-- RDATA that is read by its fields
abbrev pub AreKnownWords : ℕ → LineWords → ScriptData → Type 0
AreKnownWords rtype words (Known value) = AreFieldWords name_labels rtype words value
AreKnownWords rtype words (Opaque unknown) = ⊥

-- Without a mark, RDATA is read by its fields.
pub no_fields : (rtype : ℕ) (words : LineWords) → ¬ (AreMarked words) → ((value : ScriptData) → ¬ (AreKnownWords rtype words value)) → (value : ScriptData) → ¬ (AreDataWords rtype words value)
no_fields rtype words unmarked none (Known value) is = none (Known value) is.1
no_fields rtype words unmarked none (Opaque unknown) is = unmarked (marked words (unknown_octets unknown) is.1)

-- After a mark, RDATA is opaque.
pub no_opaque : (rtype : ℕ) (words : LineWords) → AreMarked words → ((octets : List ℕ) → ¬ (AreMarkedWords words octets)) → (value : ScriptData) → ¬ (AreDataWords rtype words value)
no_opaque rtype words mark none (Known value) is = is.0 mark
no_opaque rtype words mark none (Opaque unknown) is = none (unknown_octets unknown) is.1

module _ {N : Type 0} (labels : N → Labels) (owner_word ttl_word class_word rtype_word : List ℕ) (words : LineWords) where
  -- A word that is no class.
  pub no_class : {E : Type 0} (e : E) → ReadsNumber (SpellsClass class_word) (Err e) → (r : Record N ScriptData) → ¬ (AreRecordFields labels owner_word ttl_word class_word rtype_word words r)
  no_class e reads r is = let other = (reads (class_of r)).0 is.class in cc other

  -- A word that is no type.
  pub no_rtype : {E : Type 0} (e : E) → ReadsNumber (SpellsType rtype_word) (Err e) → (r : Record N ScriptData) → ¬ (AreRecordFields labels owner_word ttl_word class_word rtype_word words r)
  no_rtype e reads r is = let other = (reads (script_rtype_of (data_of r))).0 is.rtype in cc other

  -- Words that are no RDATA of the type.
  pub no_rdata : {E : Type 0} (rtype : ℕ) → ReadsNumber {E = E} (SpellsType rtype_word) (Ok rtype) → ((value : ScriptData) → ¬ (AreDataWords rtype words value))
      → (r : Record N ScriptData) → ¬ (AreRecordFields labels owner_word ttl_word class_word rtype_word words r)
  no_rdata rtype reads none r is =
      let e = (reads (script_rtype_of (data_of r))).0 is.rtype in
      let same : script_rtype_of (data_of r) ≡ rtype = cc e in
      none (data_of r) (subst (λ (n : ℕ). AreDataWords n words (data_of r)) same is.rdata)

  -- A record that was read.
  pub record_read : {E F : Type 0} (r : Record N ScriptData) (owner : N) (class rtype ttl : ℕ) (value : ScriptData) → HasFields r owner class ttl value
      → SpellsName owner_word (labels owner) → IsNumberUpTo 4294967295 ttl_word ttl → ReadsNumber {E = E} (SpellsClass class_word) (Ok class) → ReadsNumber {E = F} (SpellsType rtype_word) (Ok rtype)
      → AreDataWords rtype words value → AreRecordFields labels owner_word ttl_word class_word rtype_word words r
  record_read r owner class rtype ttl value has owned timed classed typed is =
      let same : rtype ≡ script_rtype_of (data_of r) = sym (data_rtype rtype words value is) ∙ ap script_rtype_of (sym has.same_data) in
      record {
        owner = subst (λ (o : N). SpellsName owner_word (labels o)) (sym has.same_owner) owned;
        ttl = subst (λ (n : ℕ). IsNumberUpTo 4294967295 ttl_word n) (sym has.same_ttl) timed;
        class = subst (λ (n : ℕ). SpellsClass class_word n) (sym has.same_class) ((classed class).1 refl);
        rtype = subst (λ (n : ℕ). SpellsType rtype_word n) same ((typed rtype).1 refl);
        rdata = subst (λ (n : ℕ). AreDataWords n words (data_of r)) same (subst (λ (d : ScriptData). AreDataWords rtype words d) (sym has.same_data) is);
      }

-- Four words and those of RDATA, as a record's words.
pub record_words : {N E : Type 0} (labels : N → Labels) (words : LineWords) (r : Result (Option (Record N ScriptData)) E) → 4 ≤ length words
    → IfOk r (ReadsValue (λ value. value) (AreRecordFields labels (word_at words 0) (word_at words 1) (word_at words 2) (word_at words 3) (take (length words - 4) (drop 4 words))))
    → IfOk r (ReadsValue (λ value. value) (AreRecordWords labels words))
record_words labels [] r least reads = absurd (omega arith)
record_words labels (o ∷ []) r least reads = absurd (omega arith)
record_words labels (o ∷ t ∷ []) r least reads = absurd (omega arith)
record_words labels (o ∷ t ∷ k ∷ []) r least reads = absurd (omega arith)
record_words labels (o ∷ t ∷ k ∷ y ∷ words) r least reads =
    subst (λ (ws : LineWords). IfOk r (ReadsValue (λ value. value) (AreRecordFields labels o.now t.now k.now y.now ws))) (take_all (length (o ∷ t ∷ k ∷ y ∷ words) - 4) words (omega arith)) reads

-- Fewer words are no record.
pub few_record : {N : Type 0} (labels : N → Labels) (words : LineWords) → length words < 4 → (r : Record N ScriptData) → ¬ (AreRecordWords labels words r)
few_record labels [] few r are = are
few_record labels (o ∷ []) few r are = are
few_record labels (o ∷ t ∷ []) few r are = are
few_record labels (o ∷ t ∷ k ∷ []) few r are = are
few_record labels (o ∷ t ∷ k ∷ y ∷ words) few r are = absurd (omega arith)
