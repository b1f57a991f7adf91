-- How many pointers are followed to read a name of a regular message. RFC 1035 section 4.1.4.
use Rattle.std.specs.Prelude.{◌≡◌, ℕ, suc, ◌+◌, ◌≤◌, List, Ok}
use Rattle.dns_name.specs.Names.{head_at, max_size}
use Rattle.dns_name.specs.declared.head.Head.TheVariants.{Root, Label, Pointer}
use Rattle.dns_edit.specs.Acceptance.{IsRegular}
use Rattle.dns_edit.specs.Offsets.{QuestionAt, RecordAt, RdataNameAt}

-- In a name whose labels so far take s octets, reading on from offset p leads to offset q by k pointers. The labels then take r octets.
pub data ReadsTo (b : List ℕ) : ℕ → ℕ → ℕ → ℕ → ℕ → Type 0 where
  here : {p s : ℕ} → ReadsTo b p s p s 0
  label : {p n s q r k : ℕ} → head_at b p ≡ Ok (Label n) → s + n + 1 ≤ max_size → ReadsTo b (p + 1 + n) (s + n + 1) q r k → ReadsTo b p s q r k
  pointer : {p t s q r k : ℕ} → head_at b p ≡ Ok (Pointer t) → ReadsTo b t s q r k → ReadsTo b p s q r (suc k)

-- To read the name at offset p to its root label, at most 127 pointers are followed; at most 128 if reading fails, wherever it stops.
pub record FollowsFew (b : List ℕ) (p : ℕ) : Type 0 where
  pub whole : (q r k : ℕ) → ReadsTo b p 0 q r k → head_at b q ≡ Ok Root → k ≤ 127
  pub part : (q r k : ℕ) → ReadsTo b p 0 q r k → k ≤ 128

-- This holds for the names of all questions, owners and RDATA, of the types that have names at known offsets.
pub record AllFollowFew (b : List ℕ) : Type 0 where
  pub questions : (p : ℕ) → QuestionAt b p → FollowsFew b p
  pub owners : (p : ℕ) → RecordAt b p → FollowsFew b p
  pub rdata : (p end : ℕ) → RdataNameAt b p end → FollowsFew b p

-- Each name of a regular message is read by following few pointers.
abbrev pub NamesFollowFew : Type 0
NamesFollowFew = (b : List ℕ) → IsRegular b → AllFollowFew b
