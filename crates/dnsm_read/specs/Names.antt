-- Names in a message. RFC 1035 section 4.1.4.
use Rattle.std.specs.Prelude.{◌≡◌, ◌⊎◌, ◌<◌, ℕ, List, Ok}
use Rattle.dns_name.specs.Names.{Fault, FaultAt, head_at}
use Rattle.dns_name.specs.Unique.{EncodedName}
use Rattle.dns_name.specs.declared.head.Head.TheVariants.{Pointer}
use Rattle.dnsm_status.specs.Codes.{ReportsFault}

-- no name can be read at offset p, and the number says why
abbrev pub LacksName : List ℕ → ℕ → ℕ → Type 0
LacksName b p n = (f : Fault) × FaultAt b p f × ReportsFault f n

-- what is encoded at offset p is only a pointer, and it leads back to offset t
pub record PointsBack (b : List ℕ) (p t : ℕ) : Type 0 where
  pub there : head_at b p ≡ Ok (Pointer t)
  pub back : t < p

-- what a cursor caches: 0, or the offset of a name
abbrev pub IsCachedOffset : List ℕ → ℕ → Type 0
IsCachedOffset b p = (p ≡ 0) ⊎ EncodedName b p
