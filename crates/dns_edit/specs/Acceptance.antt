-- Which messages have TTLs that can be changed in place, and with which error the others are refused. RFC 1035 sections 4.1 and 4.1.4.
--
-- `b` is the octets of the message, and `names` the offsets of the earlier names: of questions, owners and RDATA. Each name is judged by those before it.
use Rattle.std.specs.Prelude.{◌≡◌, ◌≢◌, ℕ, suc, ◌+◌, ◌<◌, ◌≤◌, List, [], length}
use Rattle.std.specs.Int.{w16}
use Rattle.dns_octets.specs.declared.error.ParseError.{ParseError}
use Rattle.dns_octets.specs.declared.error.ParseError.TheVariants.{ShortInput}
use Rattle.dns_name.specs.Names.{fault_of}
use Rattle.dns_name.specs.Parsers.{number_at}
use Rattle.dns_code.specs.HeaderSection.{header_size}
use Rattle.dns_item.specs.Items.{SkipsRecord, RecordSkipFaultAt}
use Rattle.dns_read.specs.Sections.{question_count}
use Rattle.dns_edit.specs.declared.error.EditError.{EditError}
use Rattle.dns_edit.specs.declared.error.EditError.TheVariants.{Parse}
use Rattle.dns_edit.specs.Pointers.{AcceptsName, RefusesName}
use Rattle.dns_edit.specs.Rdata.{names_start, name_count}
use Rattle.dns_edit.specs.Ttls.{record_total}

-- n consecutive entries from p to q are accepted. `after` is the earlier names and those of the entries.
pub data AllAccepted (Accepts : List ℕ → ℕ → ℕ → List ℕ → Type 0) : ℕ → List ℕ → ℕ → ℕ → List ℕ → Type 0 where
  none : {p : ℕ} {names : List ℕ} → AllAccepted Accepts 0 names p p names
  more : {n p q r : ℕ} {names mid after : List ℕ} → Accepts names p q mid → AllAccepted Accepts n mid q r after → AllAccepted Accepts (suc n) names p r after

-- Of n entries from offset p on, the first that isn't accepted is refused with this error.
pub data OneRefused (Accepts : List ℕ → ℕ → ℕ → List ℕ → Type 0) (Refuses : List ℕ → ℕ → EditError → Type 0) : ℕ → List ℕ → ℕ → EditError → Type 0 where
  here : {n p : ℕ} {names : List ℕ} {e : EditError} → Refuses names p e → OneRefused Accepts Refuses (suc n) names p e
  after : {n p q : ℕ} {names mid : List ℕ} {e : EditError} → Accepts names p q mid → OneRefused Accepts Refuses n mid q e → OneRefused Accepts Refuses (suc n) names p e

-- A question from p to q is accepted if its name is.
pub record AcceptsQuestion (b names : List ℕ) (p q : ℕ) (after : List ℕ) : Type 0 where
  pub name_end : ℕ
  pub name : AcceptsName b names p name_end after
  pub end : q ≡ name_end + 4
  pub within : q ≤ length b

-- The question at offset p is refused: its name is, or the four octets after the name aren't all there.
pub data RefusesQuestion (b names : List ℕ) (p : ℕ) : EditError → Type 0 where
  name : {e : EditError} → RefusesName b names p e → RefusesQuestion b names p e
  short : {r : ℕ} {after : List ℕ} → AcceptsName b names p r after → length b < r + 4 → RefusesQuestion b names p (Parse ShortInput)

-- RDATA from `start` to `end` is accepted if it is empty, or its names are accepted and end within it.
pub data AcceptsData (b names : List ℕ) (rtype start end : ℕ) : List ℕ → Type 0 where
  empty : start ≡ end → AcceptsData b names rtype start end names
  all : {stop : ℕ} {after : List ℕ} → start ≢ end → AllAccepted (AcceptsName b) (name_count rtype) names (names_start b rtype start) stop after → stop ≤ end
      → AcceptsData b names rtype start end after

-- The RDATA is refused: a name is, or the names run past its end.
pub data RefusesData (b names : List ℕ) (rtype start end : ℕ) : EditError → Type 0 where
  name : {e : EditError} → start ≢ end → OneRefused (AcceptsName b) (RefusesName b) (name_count rtype) names (names_start b rtype start) e
      → RefusesData b names rtype start end e
  past : {stop : ℕ} {after : List ℕ} → start ≢ end → AllAccepted (AcceptsName b) (name_count rtype) names (names_start b rtype start) stop after → end < stop
      → RefusesData b names rtype start end (Parse ShortInput)

-- A record from p to q is accepted if its owner is, and then its RDATA.
pub record AcceptsRecord (b names : List ℕ) (p q : ℕ) (after : List ℕ) : Type 0 where
  pub skips : SkipsRecord b p q
  pub mid : List ℕ
  pub owner : AcceptsName b names p skips.name_end mid
  pub rdata : AcceptsData b mid (number_at w16 b skips.name_end) (skips.name_end + 10) q after

-- The record at offset p is refused: it can't be skipped, or its owner is refused, or its RDATA.
pub data RefusesRecord (b names : List ℕ) (p : ℕ) : EditError → Type 0 where
  skip : {e : ParseError} → RecordSkipFaultAt b p (fault_of e) → RefusesRecord b names p (Parse e)
  owner : {q : ℕ} {e : EditError} → SkipsRecord b p q → RefusesName b names p e → RefusesRecord b names p e
  rdata : {q : ℕ} {mid : List ℕ} {e : EditError} (s : SkipsRecord b p q) → AcceptsName b names p s.name_end mid
      → RefusesData b mid (number_at w16 b s.name_end) (s.name_end + 10) q e → RefusesRecord b names p e

-- All questions and records of the message are accepted, and the records begin at `start`.
pub record AcceptsFrom (b : List ℕ) (start : ℕ) : Type 0 where
  pub end : ℕ
  pub asked : List ℕ
  pub names : List ℕ
  pub questions : AllAccepted (AcceptsQuestion b) (question_count b) [] header_size start asked
  pub records : AllAccepted (AcceptsRecord b) (record_total b) asked start end names

-- The TTLs of the message can be changed: each question and record can be skipped, the names in RDATA are within it, and each pointer of a name leads to a label of an earlier name.
abbrev pub AcceptsTtls : List ℕ → Type 0
AcceptsTtls b = (start : ℕ) × AcceptsFrom b start

-- A message is regular if its TTLs can be changed: it can be skipped to its end, and each pointer of a name leads to a label of an earlier name.
abbrev pub IsRegular : List ℕ → Type 0
IsRegular b = AcceptsTtls b

-- The message is refused with the error of its first question or record that isn't accepted.
pub data RefusesTtls (b : List ℕ) (e : EditError) : Type 0 where
  question : OneRefused (AcceptsQuestion b) (RefusesQuestion b) (question_count b) [] header_size e → RefusesTtls b e
  entry : {start : ℕ} {asked : List ℕ} → AllAccepted (AcceptsQuestion b) (question_count b) [] header_size start asked
      → OneRefused (AcceptsRecord b) (RefusesRecord b) (record_total b) asked start e → RefusesTtls b e

-- No message is both accepted and refused.
abbrev pub NeverBoth : Type 0
NeverBoth = (b : List ℕ) (e : EditError) → AcceptsTtls b → RefusesTtls b e → ⊥
