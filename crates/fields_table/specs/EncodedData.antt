-- RDATA at an offset, as a function of the octets. The parts of a view are defined by it.
use Rattle.std.specs.Prelude.{◌≡◌, ◌⊎◌, ℕ, ◌≤◌, Bool, true, false, List, [], length}
use Rattle.std.proofs.Common.{inl, inr, refl}
use Rattle.dns_name.specs.Names.{Fault}
use Rattle.dns_wire.specs.Parts.{Part}
use Rattle.dns_data.specs.Layout.{Layout, DataAt, DataFaultAt}
use Rattle.dns_data.proofs.theory.DataReading.{rdata_or_fault, one_rdata, not_both}

module _ (b : List ℕ) (layout : Layout) (p : ℕ) where
  -- the RDATA at the offset, or its first fault
  abbrev pub Answer : Type 0
  Answer = ((q : ℕ) × (parts : List Part) × DataAt b layout p q parts) ⊎ ((f : Fault) × DataFaultAt b layout p f)

  abbrev pub is_data : Answer → Bool
  is_data (inl d) = true
  is_data (inr f) = false

  abbrev pub parts_in : Answer → List Part
  parts_in (inl d) = d.1
  parts_in (inr f) = []

  -- whether RDATA of the layout is at the offset, and its parts
  unfoldable pub is_data_at : Bool
  is_data_at = is_data (rdata_or_fault b layout p)

  unfoldable pub parts_read : List Part
  parts_read = parts_in (rdata_or_fault b layout p)

  given : (x : Answer) → is_data x ≡ true → (q : ℕ) × DataAt b layout p q (parts_in x)
  given (inl d) h = (d.0, d.2)
  given (inr f) h = cc

  -- RDATA at the offset has these parts
  pub data_is_there : is_data_at ≡ true → (q : ℕ) × DataAt b layout p q parts_read
  unfolding is_data_at parts_read
  data_is_there h = given (rdata_or_fault b layout p) h

  taken : (x : Answer) (q : ℕ) (parts : List Part) → p ≤ length b → DataAt b layout p q parts → (is_data x ≡ true) × (parts_in x ≡ parts)
  taken (inl d) q parts l h = ((let e : true ≡ true = refl in e), (one_rdata b layout p d.0 q d.1 parts d.2 h).1)
  taken (inr f) q parts l h = absurd (not_both b layout p q parts f.0 l h f.1)

  -- RDATA at the offset is found
  pub is_there : (q : ℕ) (parts : List Part) → p ≤ length b → DataAt b layout p q parts → (is_data_at ≡ true) × (parts_read ≡ parts)
  unfolding is_data_at parts_read
  is_there q parts l h = taken (rdata_or_fault b layout p) q parts l h
