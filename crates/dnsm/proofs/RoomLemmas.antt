-- RDATA that can't be read isn't reported as a want of room.
use Rattle.std.proofs.Common.{◌≡◌, ℕ, zero, suc, List, inl, inr, ap, refl, arith}
use Rattle.std.specs.Prelude.{◌≢◌}
use Rattle.dnsm_status.specs.Codes.{number_of}
use Rattle.dnsm_status.specs.declared.code.CallError.{CallError}
use Rattle.dnsm_status.specs.declared.code.CallError.TheVariants as faults
use Rattle.dnsm_read.specs.DataFields.{LacksData}
use Rattle.dnsm_read.specs.DataNames.{LacksDataName}
use Rattle.dnsm_read.specs.declared.walk.Item.{Item}

-- the number of what RDATA lacks is another
data_number : (b : List ℕ) (item : Item) (n : ℕ) → LacksData b item n → n ≡ number_of faults.NoRoom → ⊥
data_number b item n (inl h) is = let e = h.1 in omega (arith, is, e)
data_number b item n (inr h) is = let e = h.2 in omega (arith, is, e)

-- so it is for a name in RDATA
name_number : (b : List ℕ) (item : Item) (index n : ℕ) → LacksDataName b item index n → n ≡ number_of faults.NoRoom → ⊥
name_number b item index n (inl h) is = let e = h.1 in omega (arith, is, e)
name_number b item index n (inr (inl h)) is = data_number b item n h.1 is
name_number b item index n (inr (inr h)) is = let e = h.2 in omega (arith, is, e)

-- a question has no RDATA, and a record lacks it
other_number : (section n : ℕ) (Lacks : Type 0) → (section ≡ 0 → n ≡ number_of faults.BadSection) → (section ≢ 0 → Lacks) → (Lacks → n ≡ number_of faults.NoRoom → ⊥)
    → n ≡ number_of faults.NoRoom → ⊥
other_number zero n Lacks question record_of no_reason is = let e = question refl in omega (arith, e, is)
other_number (suc section) n Lacks question record_of no_reason is = no_reason (record_of (λ e. omega arith)) is

module _ (b : List ℕ) (item : Item) (fault : CallError) (question : item.section ≡ 0 → fault ≡ faults.BadSection) where
  -- a fault of reading RDATA isn't a want of room
  pub data_unreported : (item.section ≢ 0 → LacksData b item (number_of fault)) → number_of fault ≡ number_of faults.NoRoom → ⊥
  data_unreported lacks = other_number item.section (number_of fault) (LacksData b item (number_of fault)) (λ none. ap number_of (question none)) lacks (data_number b item (number_of fault))

  -- nor is one of reading a name in it
  pub name_unreported : (index : ℕ) → (item.section ≢ 0 → LacksDataName b item index (number_of fault)) → number_of fault ≡ number_of faults.NoRoom → ⊥
  name_unreported index lacks =
      other_number item.section (number_of fault) (LacksDataName b item index (number_of fault)) (λ none. ap number_of (question none)) lacks (name_number b item index (number_of fault))
