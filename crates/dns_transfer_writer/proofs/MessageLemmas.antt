-- Messages that are begun, and written.
use Rattle.std.proofs.Common.{◌≡◌, ℕ, Bool, true, false, Option, List, [], ◌∷◌, ap, sym, subst}
use Rattle.std.specs.Prelude.{IsTrue, Result, Ok, Err}
use Rattle.dns_octets.specs.declared.error.AppendError.{AppendError}
use Rattle.dns_octets.specs.declared.error.AppendError.TheVariants as append
use Rattle.dns_wire.specs.Encoders.{Rule}
use Rattle.dns_wire.specs.Targets.{AppendReturns}
use Rattle.dns_code.specs.Header.{HeaderFields, fields_in}
use Rattle.dns_code.specs.HeaderSection.{header_size}
use Rattle.dns_item.specs.Items.{RecordItem}
use Rattle.dns_build.specs.Answers.{GivesAnswer, answering, readable_questions}
use Rattle.dns_build.specs.BuilderStates.{Built, InEach, MovesState, Represents, fresh, push_error}
use Rattle.dns_build.specs.State.{InAnswer, State, move_to, with_header, with_limit, with_record}
use Rattle.dns_build.specs.declared.push_error.PushError.{PushError}
use Rattle.dns_build.specs.declared.push_error.PushError.TheVariants.{OutOfMemory}
use Rattle.dns_transfer_writer.specs.Filling.{Fills}
use Rattle.dns_transfer_writer.specs.Messages.{Begins, CantBegin, CantWrite, Holds, bare_state, message_state, transfer_header}
use Rattle.dns_transfer_writer.specs.Messages.CantBegin.{memory, no_header, question}
use Rattle.dns_transfer_writer.specs.Messages.CantWrite.{memory as out_of_memory, refused}
use Rattle.dns_transfer_writer.proofs.FillLemmas.{Returns}

-- the state before the questions, with this header
abbrev pub blank : ℕ → HeaderFields → State
blank limit header = with_header header (with_limit limit fresh)

module _ (capacity : Option ℕ) (grows : Bool) (rule : Rule) (limit : ℕ) (query : List ℕ) where
  -- A target that can't take the header section.
  pub no-header : (X : Type 0) (begun : Bool) (e : AppendError) → AppendReturns {X = X} capacity grows header_size (Err e) → CantBegin capacity grows rule begun limit query (push_error e)
  no-header X begun append.ShortBuf h = no_header h
  no-header X begun append.OutOfMemory h = memory h.1

  -- A later message begins without questions.
  pub begins-later : (begun : Bool) (header : HeaderFields) (b : Built) → begun ≡ true → header ≡ transfer_header (fields_in query)
      → Represents InAnswer rule (move_to InAnswer (blank limit header)) b → Represents InAnswer rule (message_state begun limit query []) b
  begins-later begun header b is same h =
      subst (λ (x : Bool × HeaderFields). Represents InAnswer rule (record (message_state x.0 limit query []) { header = x.1 }) b) (λ i. (sym is i, same i)) h

  -- The first message begins with those of the query.
  pub begins-first : (begun : Bool) (header : HeaderFields) (result : Result Built PushError) → begun ≡ false → header ≡ transfer_header (fields_in query)
      → GivesAnswer capacity grows rule (answering 0 query (blank limit header)) (readable_questions query) result → Begins capacity grows rule begun limit query result
  begins-first begun header result is same h =
      by result (subst (λ (f : HeaderFields). GivesAnswer capacity grows rule (answering 0 query (blank limit f)) (readable_questions query) result) same h)
    where
      by : (result : Result Built PushError) → GivesAnswer capacity grows rule (bare_state limit query) (readable_questions query) result
          → Begins capacity grows rule begun limit query result
      by (Ok b) h = subst (λ (x : Bool). Represents InAnswer rule (message_state x limit query []) b) (sym is) h.1
      by (Err e) h = question is h.1

  module _ (begun : Bool) (x : RecordItem) where
    -- The first record can't be pushed.
    pub first-refused : (e : PushError) (b : Built) → Represents InAnswer rule (message_state begun limit query []) b → Returns capacity grows rule x b (Err e)
        → CantWrite capacity grows rule begun limit query x e
    first-refused e b h returns = refused (returns (message_state begun limit query []) h)

    -- Memory runs out later.
    pub memory-out : (e : PushError) → e ≡ OutOfMemory → IsTrue grows → CantWrite capacity grows rule begun limit query x e
    memory-out e is out = subst (CantWrite capacity grows rule begun limit query x) (sym is) (out_of_memory out)

    -- The message holds the first record, and those after it that fit.
    pub holds : (others left : List RecordItem) (b mid new : Built) → Represents InAnswer rule (message_state begun limit query []) b → Returns capacity grows rule x b (Ok tt)
        → MovesState InAnswer InAnswer rule (with_record InAnswer x) b mid → InEach InAnswer rule mid (λ s. Fills capacity rule s others left new)
        → Holds capacity rule begun limit query (x ∷ others) left new
    holds others left b mid new h returns moves fills =
        let pushed = returns (message_state begun limit query []) h in
        let filled = fills (message_state begun limit query (x ∷ [])) (moves (message_state begun limit query []) h) in
        record {
          first = x;
          others = filled.filling.pushed;
          all = ap (λ (ys : List RecordItem). x ∷ ys) filled.filling.all;
          fits = filled.filling.fits (pushed.0, pushed.1);
          next = filled.next;
          represents = filled.filling.represents;
        }
