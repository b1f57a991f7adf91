-- What decoding base64 returns.
use Rattle.std.proofs.Common.{◌≡◌, ℕ, List, Ok, refl, lit≤}
use Rattle.std.specs.declared.option.Option.{Option}
use Rattle.std.specs.declared.option.Option.TheVariants.{None, Some}
use Rattle.base64.specs.Decode.{decode_outcome, or_else}
use Rattle.base64.specs.declared.decode.DecodeError.{DecodeError}

-- If neither of two errors is there, no error is there.
pub none_of : (x y : Option DecodeError) → or_else x y ≡ None → (x ≡ None) × (y ≡ None)
none_of None y h = (refl, h)
none_of (Some e) y h = cc h

-- Decoding that succeeds has no error, and returns the octets.
pub ok_parts : (x : Option DecodeError) (d b : List ℕ) → decode_outcome x d ≡ Ok b → (x ≡ None) × (d ≡ b)
ok_parts None d b h = (refl, cc h)
ok_parts (Some e) d b h = cc h
