-- What skipping consecutive entries returns. RFC 1035 section 4.1.
use Rattle.std.specs.Bool.{⊤}
use Rattle.std.specs.Prelude.{◌≡◌, ℕ, suc, List, [], Option, Some, None, Result, Ok, Err}
use Rattle.dns_name.specs.Names.{Fault, fault_of}
use Rattle.dns_name.specs.Parsers.{offset, MovesTo}
use Rattle.dns_octets.specs.declared.error.ParseError.{ParseError}
use Rattle.dns_name.specs.declared.parser.Parser.{Parser}
use Rattle.dns_read.specs.Reading.{Skipped, StopsSkipping}

-- The parser moves past n entries, or the error is that of the first entry that can't be skipped.
abbrev pub SkipsAll : (ℕ → ℕ → Type 0) → (ℕ → Fault → Type 0) → ℕ → Parser → Parser → Result Unit ParseError → Type 0
SkipsAll Skips FaultOf n old new (Ok _) = Skipped Skips n (offset old) (offset new) × MovesTo old new (offset new)
SkipsAll Skips FaultOf n old new (Err e) = StopsSkipping Skips FaultOf n (offset old) (fault_of e)

-- the reading of at most as many entries as are to come, or nothing after an error
abbrev pub items_left : {X : Type 0} → (ℕ → List (Result X Fault)) → Result ℕ ParseError → List (Result X Fault)
items_left from (Ok n) = from n
items_left from (Err e) = []

-- How the count of entries to come changes: it falls by one if an entry was yielded, is replaced by an error that was yielded, and stays at the end.
abbrev pub CountsDown : {T : Type 0} → Result ℕ ParseError → Result ℕ ParseError → Option (Result T ParseError) → Type 0
CountsDown old new (Some (Ok entry)) = (n : ℕ) × (old ≡ Ok (suc n)) × (new ≡ Ok n)
CountsDown old new (Some (Err e)) = new ≡ Err e
CountsDown old new None = new ≡ old

-- If the cursor stored an error and the result is an error, the two are equal.
abbrev pub KeepsError : {T : Type 0} → Result ℕ ParseError → Option (Result T ParseError) → Type 0
KeepsError (Err kept) (Some (Err e)) = e ≡ kept
KeepsError (Err kept) (Some (Ok entry)) = ⊤
KeepsError (Err kept) None = ⊤
KeepsError (Ok n) result = ⊤

-- the entries to come can be skipped and extend from p to q; false after an error
abbrev pub SkipsRest : (ℕ → ℕ → Type 0) → Result ℕ ParseError → ℕ → ℕ → Type 0
SkipsRest Skips (Ok n) p q = Skipped Skips n p q
SkipsRest Skips (Err e) p q = ⊥

-- why the entries to come can't be skipped: the fault of the first that can't be, or the error that was yielded
abbrev pub StopsInRest : (ℕ → ℕ → Type 0) → (ℕ → Fault → Type 0) → Result ℕ ParseError → ℕ → ParseError → Type 0
StopsInRest Skips FaultOf (Ok n) p e = StopsSkipping Skips FaultOf n p (fault_of e)
StopsInRest Skips FaultOf (Err given) p e = e ≡ given
