-- Records from words.
use Rattle.std.proofs.Common.{◌≡◌, ◌∙◌, ℕ, ◌-◌, ◌≤◌, ◌<◌, ◌^◌, true, List, [], ◌∷◌, length, get_or, take, drop, length-drop, refl, sym, subst, arith, inl, inr}
use Rattle.std.proofs.lemmas.List.{take_all}
use Rattle.std.specs.Prelude.{◌↔◌, ◌⊎◌, codes}
use Rattle.std.specs.Borrow.{Bor}
use Rattle.std.specs.Net.Grammar.{IsNumber}
use Rattle.dns_name.specs.Names.{Labels}
use Rattle.dns_name.proofs.theory.NameTextFaults.{one_text_name}
use Rattle.dns_iana.specs.RegisteredTexts.{SpellsRegisteredClass}
use Rattle.dns_iana.specs.Registry.{registered_classes}
use Rattle.dns_iana.specs.Tables.{is_apart, is_distinct}
use Rattle.fields_plain.specs.NameWords.{IsNameText}
use Rattle.fields_plain.specs.TypeWords.{IsTypeWord}
use Rattle.fields_plain.proofs.theory.RegisteredLemmas.{one_spelled, one_word}
use Rattle.dns_item.specs.Items.{RecordItem}
use Rattle.fields_text.specs.declared.text_error.TextError.{TextError}
use Rattle.fields_text.specs.declared.text_error.TextError.TheVariants.{BadWord, OutOfMemory}
use Rattle.dns_wire.specs.Parts.{Part}
use Rattle.fields_records.specs.DataWords.{IsDataText, MayBeData}
use Rattle.fields_records.specs.FieldWords.{Words}
use Rattle.fields_records.specs.RecordWords.{AreHeadWords, IsRecordText, MayBeRecord}

-- a word represents one class
classes_distinct : is_distinct registered_classes ≡ true
unfolding registered_classes
classes_distinct = refl

classes_apart : is_apart (codes "CLASS") registered_classes ≡ true
unfolding registered_classes
classes_apart = refl

one_class : (text : List ℕ) (k n : ℕ) → SpellsRegisteredClass text k → SpellsRegisteredClass text n → k ≡ n
one_class text = one_spelled registered_classes (codes "CLASS") text classes_distinct classes_apart

-- words have one head
pub one_head : (words : Words) (o p : Labels) (t c r u d s : ℕ) → AreHeadWords words o t c r → AreHeadWords words p u d s → (o ≡ p) × (t ≡ u) × (c ≡ d) × (r ≡ s)
one_head [] o p t c r u d s a b = absurd a
one_head (x ∷ []) o p t c r u d s a b = absurd a
one_head (x ∷ y ∷ []) o p t c r u d s a b = absurd a
one_head (x ∷ y ∷ z ∷ []) o p t c r u d s a b = absurd a
one_head (x ∷ y ∷ z ∷ w ∷ words) o p t c r u d s a b =
    (one_text_name x.now o p a.0.spelled b.0.spelled, sym a.1.0.1 ∙ b.1.0.1, one_class z.now c d a.2 b.2, one_word w.now r s a.3 b.3)

-- no head
pub no_head : (words : Words) → ((owner : Labels) (ttl class rtype : ℕ) → ¬ (AreHeadWords words owner ttl class rtype)) → (item : RecordItem) → ¬ (IsRecordText words item)
no_head words none item is = none item.owner item.ttl item.class item.rtype is.head

module _ (owner : Labels) (ttl class rtype : ℕ) (words : Words) where
  -- the head by its four words
  abbrev pub Head : List ℕ → List ℕ → List ℕ → List ℕ → Type 0
  Head name seconds class_word type_word =
      IsNameText name owner × (IsNumber 10 seconds ttl × (ttl < 2 ^ 32)) × SpellsRegisteredClass class_word class × IsTypeWord type_word rtype

  -- if there are at least four words, they begin with a record's head exactly if the first four represent owner, TTL, class and type
  pub head_is : (x y z w : Bor (List ℕ)) → 4 ≤ length words
      → AreHeadWords words owner ttl class rtype ↔ Head (get_or words 0 x).now (get_or words 1 y).now (get_or words 2 z).now (get_or words 3 w).now
  head_is x y z w many = by_words words many where
    by_words : (ws : Words) → 4 ≤ length ws → AreHeadWords ws owner ttl class rtype ↔ Head (get_or ws 0 x).now (get_or ws 1 y).now (get_or ws 2 z).now (get_or ws 3 w).now
    by_words [] many = absurd (omega arith)
    by_words (a ∷ []) many = absurd (omega arith)
    by_words (a ∷ b ∷ []) many = absurd (omega arith)
    by_words (a ∷ b ∷ c ∷ []) many = absurd (omega arith)
    by_words (a ∷ b ∷ c ∷ d ∷ ws) many = (λ is. is, λ is. is)

  -- one of the words
  pub owner_is : (x : Bor (List ℕ)) → 4 ≤ length words → AreHeadWords words owner ttl class rtype → IsNameText (get_or words 0 x).now owner
  owner_is x many are = ((head_is x x x x many).0 are).0

  -- if words begin with a record's head, the third of them represents its class
  pub class_is : (x : Bor (List ℕ)) → 4 ≤ length words → AreHeadWords words owner ttl class rtype → SpellsRegisteredClass (get_or words 2 x).now class
  class_is x many are = ((head_is x x x x many).0 are).2

  -- if words begin with a record's head, the fourth of them represents its type
  pub type_is : (x : Bor (List ℕ)) → 4 ≤ length words → AreHeadWords words owner ttl class rtype → IsTypeWord (get_or words 3 x).now rtype
  type_is x many are = ((head_is x x x x many).0 are).3

  -- no RDATA after the head
  pub no_record : (error : TextError) → AreHeadWords words owner ttl class rtype
      → ((error ≡ OutOfMemory) × MayBeData rtype (take (length words - 4) (drop 4 words)))
      ⊎ ((error ≡ BadWord) × ((parts : List Part) → ¬ (IsDataText rtype (take (length words - 4) (drop 4 words)) parts)))
      → ((error ≡ OutOfMemory) × MayBeRecord words) ⊎ ((error ≡ BadWord) × ((item : RecordItem) → ¬ (IsRecordText words item)))
  no_record error head (inl memory) =
      let all : take (length words - 4) (drop 4 words) ≡ drop 4 words = take_all _ (drop 4 words) (omega (arith, length-drop 4 words)) in
      inl (memory.0, record { owner = owner; ttl = ttl; class = class; rtype = rtype; head = head; value = subst (MayBeData rtype) all memory.1 })
  no_record error head (inr bad) =
      let all : take (length words - 4) (drop 4 words) ≡ drop 4 words = take_all _ (drop 4 words) (omega (arith, length-drop 4 words)) in
      inr (
        bad.0,
        λ item is.
            let same = (one_head words item.owner owner item.ttl item.class item.rtype ttl class rtype is.head head).3 in
            bad.1 item.parts (subst (λ (ws : Words). IsDataText rtype ws item.parts) (sym all) (subst (λ (n : ℕ). IsDataText n (drop 4 words) item.parts) same is.value)),
      )
