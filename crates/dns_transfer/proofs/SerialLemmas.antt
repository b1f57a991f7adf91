-- Serial numbers as tests.
use Rattle.std.proofs.Common.{ℕ, ◌-◌, ◌^◌}
use Rattle.std.proofs.lemmas.Bool.Decides.{Decides-and, Decides-or, Decides-ltb}
use Rattle.std.specs.Bool.{Decides}
use Rattle.std.specs.Prelude.{◌&&◌, nat_lt}
use Rattle.dns_iana.specs.Serials.{IsGreater}
use Rattle.dns_transfer.specs.Serials.{is_greater}

-- `is_greater` is true exactly if the first serial is greater.
pub is_greater-Decides : (s t : ℕ) → Decides (is_greater s t) (IsGreater s t)
is_greater-Decides s t =
    Decides-or (nat_lt s t && nat_lt (2 ^ 31) (t - s)) (nat_lt t s && nat_lt (s - t) (2 ^ 31))
    (Decides-and (nat_lt s t) (nat_lt (2 ^ 31) (t - s)) (Decides-ltb s t) (Decides-ltb (2 ^ 31) (t - s)))
    (Decides-and (nat_lt t s) (nat_lt (s - t) (2 ^ 31)) (Decides-ltb t s) (Decides-ltb (s - t) (2 ^ 31)))
