-- Consecutive entries that a parser skips.
use Rattle.std.proofs.Common.{◌∙◌, ℕ, zero, suc, ◌+◌, ◌<◌, List, arith, add-one, refl, subst}
use Rattle.dns_name.specs.Names.{Fault, fault_of}
use Rattle.dns_name.specs.Parsers.{seen, offset, MovesTo}
use Rattle.dns_octets.specs.declared.error.ParseError.{ParseError}
use Rattle.dns_name.specs.declared.parser.Parser.{Parser}
use Rattle.dns_read.specs.Reading.{Skipped, StopsSkipping}
use Rattle.dns_read.specs.Reading.Skipped.{none, more}
use Rattle.dns_read.specs.Reading.StopsSkipping.{here, after}

module _ {Skips : ℕ → ℕ → Type 0} where
  -- one more entry after those skipped
  skipped_last : {n p q r : ℕ} → Skipped Skips n p q → Skips q r → Skipped Skips (suc n) p r
  skipped_last none s = more s none
  skipped_last (more h x) s = more h (skipped_last x s)

module _ {Skips : ℕ → ℕ → Type 0} {FaultOf : ℕ → Fault → Type 0} where
  -- the fault after the entries skipped, which are fewer than n
  stopped : (n : ℕ) {i p q : ℕ} {f : Fault} → Skipped Skips i p q → FaultOf q f → i < n → StopsSkipping Skips FaultOf n p f
  stopped zero x fault l = absurd (omega arith)
  stopped (suc n) none fault l = here fault
  stopped (suc n) (more h x) fault l = after h (stopped n x fault (omega arith))

module _ (SkipsIn : List ℕ → ℕ → ℕ → Type 0) (FaultIn : List ℕ → ℕ → Fault → Type 0) (old mid : Parser) (i : ℕ)
    (skipped : Skipped (SkipsIn (seen old)) i (offset old) (offset mid) × MovesTo old mid (offset mid)) where
  -- the parser skips one more entry
  pub skips_more : (new : Parser) → SkipsIn (seen mid) (offset mid) (offset new) × MovesTo mid new (offset new)
      → Skipped (SkipsIn (seen old)) (i + 1) (offset old) (offset new) × MovesTo old new (offset new)
  skips_more new h =
      let s = subst (λ (b : List ℕ). SkipsIn b (offset mid) (offset new)) skipped.1.seen h.0 in (
        rw add-one (skipped_last skipped.0 s),
        record { input = h.1.input ∙ skipped.1.input; seen = h.1.seen ∙ skipped.1.seen; offset = refl },
      )

  -- the parser can't skip the next entry
  pub skips_stop : (n : ℕ) (e : ParseError) → FaultIn (seen mid) (offset mid) (fault_of e) → i < n → StopsSkipping (SkipsIn (seen old)) (FaultIn (seen old)) n (offset old) (fault_of e)
  skips_stop n e fault l = stopped n skipped.0 (subst (λ (b : List ℕ). FaultIn b (offset mid) (fault_of e)) skipped.1.seen fault) l
